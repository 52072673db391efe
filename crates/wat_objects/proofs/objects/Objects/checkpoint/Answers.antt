use Rattle.std.proofs.Common.{refl}
use Rattle.wat_objects.proofs.Rooted.{checkpoint_made}
use Rattle.wat_objects.proofs.objects.Objects.checkpoint.Goals as goal

pub returns-in-Ok-clause-holds : goal.returns-in-Ok-clause-holds
returns-in-Ok-clause-holds g c tells saved safe count s roots h catalog rollback next =
    checkpoint_made _ _ c.args.self.now _ c.args.header.now roots s h (record { heap = refl; schema = refl; catalog = refl; lists = refl }) (c.in-Ok.ensures.known tells) (c.in-Ok.ensures.pages tells saved safe count) c.in-Ok.ensures.header rollback

use Rattle.std.proofs.Common.{◌≡◌, ◌≢◌, ℕ, true, subst}
use Rattle.std.specs.Prelude.{◌↔◌, IsTrue}
use Rattle.std.specs.List.{list_any}
use Rattle.wat_schema.specs.Catalog.{Catalog}
use Rattle.wat_replay.specs.State.{Lists}
use Rattle.wat_recover.specs.Asked.{is_of_row}
use Rattle.wat_objects.proofs.objects.Objects.changed_by_other.Goals as goal

pub returns : goal.returns
returns c book s holds =
    subst (λ (x : Catalog × Lists). IsTrue c.is_changed_by_other.result ↔ ((other : ℕ) × (other ≢ c.args.conn) × (list_any (is_of_row x.0 c.args.table c.args.key.now) (x.1 other) ≡ true)))
    (λ i. (holds.schema i, holds.lists i)) c.is_changed_by_other.ensures

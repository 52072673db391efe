use Rattle.std.proofs.Common.{◌≡◌, IsSome, sym, ap, subst, ◌∙◌}
use Rattle.wat_schema.specs.Tables.{apply_all}
use Rattle.wat_meaning.specs.declared.reply.Meaning.{Meaning}
use Rattle.wat_meaning.specs.Meaning.{meaning}
use Rattle.wat_meaning.proofs.ActsApply.{acts_apply}
use Rattle.wat_serial.proofs.script.make_meant.Goals as goal

pub make_all-requires : goal.make_all-requires
make_all-requires c =
    let t = c.args.tables.now in
    let s = c.args.statement.now in
    subst (λ acts. IsSome (apply_all acts t)) (sym (c.as_slice.ensures ∙ ap (λ (m : Meaning). m.acts) (c.in_ok-meant.ensures c.requires))) (acts_apply t s c.tables_law.ensures)

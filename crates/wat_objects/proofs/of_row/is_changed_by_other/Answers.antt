use Rattle.std.proofs.Common.{◌≡◌, ◌∙◌, sym, true, false}
use Rattle.wat_undo.specs.Kept.{lists_of}
use Rattle.wat_recover.proofs.Listing.{none_of_row}
use Rattle.wat_objects.proofs.of_row.is_changed_by_other.Goals as goal

pub returns-in_default : goal.returns-in_default
returns-in_default c = (
  λ h. absurd (let bad : false ≡ true = h in cc),
  λ m. sym (none_of_row c.args.schema.now c.args.table c.args.key.now (lists_of c.args.undo.now m.0) (sym c.in_default.ensures)) ∙ m.2,
)

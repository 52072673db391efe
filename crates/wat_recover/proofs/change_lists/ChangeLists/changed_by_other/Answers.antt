use Rattle.std.proofs.Common.{◌≡◌, ◌∙◌, Some, sym, ap, true, false}
use Rattle.std.specs.List.{list_any}
use Rattle.wat_schema.specs.Catalog.{def_at}
use Rattle.wat_recover.specs.Listed.{lists_of}
use Rattle.wat_recover.proofs.Listing.{is_others, none_of_row, other_found, other_there}
use Rattle.wat_recover.proofs.change_lists.ChangeLists.changed_by_other.Goals as goal

pub returns-in_default : goal.returns-in_default
returns-in_default c = (
  λ h. absurd (let bad : false ≡ true = h in cc),
  λ m. sym (none_of_row c.args.schema.now c.args.table c.args.key.now (lists_of c.args.self.now m.0) (sym c.in_default.ensures)) ∙ m.2,
)

pub returns : goal.returns
returns c =
    let e : c.as_slice.result.now ≡ c.args.self.now = cc in
    let at : def_at c.args.schema.now c.args.table ≡ Some c.in-Some.def.now = sym c.in-Some.ensures in
    let is : c.is_changed_by_other.result ≡ list_any (is_others c.in-Some.def.now c.args.conn c.args.table c.args.key.now) c.args.self.now =
    c.is_changed_by_other.ensures ∙ ap (list_any (is_others c.in-Some.def.now c.args.conn c.args.table c.args.key.now)) e in (
      λ h. other_found c.args.schema.now c.in-Some.def.now c.args.conn c.args.table c.args.key.now at c.args.self.now (sym is ∙ h),
      λ m. is ∙ other_there c.args.schema.now c.in-Some.def.now c.args.conn c.args.table c.args.key.now at c.args.self.now m,
    )

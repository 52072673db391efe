use Rattle.std.proofs.Common.{◌≡◌, ◌∙◌, None, Some, sym, true, false}
use Rattle.wat_value.specs.Changes.{changed_table}
use Rattle.wat_schema.specs.Catalog.{def_at}
use Rattle.wat_schema.specs.Tables.{catalog_of}
use Rattle.wat_recover.specs.Asked.{fits_change}
use Rattle.wat_recover.proofs.Asking.{not_there, not_fit, not_found, may_then}
use Rattle.wat_recover.proofs.changing.may_change.Goals as goal

pub returns-in_default-clause-may : goal.returns-in_default-clause-may
returns-in_default-clause-may g c s holds lawful =
    let at : def_at (catalog_of s.tables) (changed_table c.args.change.now) ≡ None =
    (λ i. def_at (sym (c.schema.ensures s holds) i) (sym c.table_of-table.ensures i)) ∙ sym c.in_default.ensures in
    (λ h. absurd (let bad : false ≡ true = h in cc), λ m. absurd (not_there c.args.change.now s.tables at m.0))

pub returns-then-not-branch-clause-may : goal.returns-then-not-branch-clause-may
returns-then-not-branch-clause-may g c s holds lawful =
    let at : def_at (catalog_of s.tables) (changed_table c.args.change.now) ≡ Some c.in-Some.def.now =
    (λ i. def_at (sym (c.schema.ensures s holds) i) (sym c.table_of-table.ensures i)) ∙ sym c.in-Some.ensures in
    let bad : fits_change c.in-Some.def.now c.args.change.now ≡ false =
    sym c.in_ok-fits_change.ensures ∙ c.if-not-branch.true in
    (λ h. absurd (let wrong : false ≡ true = h in cc), λ m. absurd (not_fit c.args.change.now s.tables c.in-Some.def.now lawful.tables at bad m.0))

pub returns-then-not-is_before-clause-may : goal.returns-then-not-is_before-clause-may
returns-then-not-is_before-clause-may g c s holds lawful =
    let at : def_at (catalog_of s.tables) (changed_table c.args.change.now) ≡ Some c.in-Some.def.now =
    (λ i. def_at (sym (c.schema.ensures s holds) i) (sym c.table_of-table.ensures i)) ∙ sym c.in-Some.ensures in (
      λ h. absurd (let wrong : false ≡ true = h in cc),
      λ m. absurd (not_found s c.args.change.now c.in-Some.def.now c.is_before.result c.table_of-table.result c.in_ok-key.key c.in_ok-found.found lawful c.table_of-table.ensures c.in_ok-key.ensures at
          (c.in_ok-found.ensures.row s holds) c.is_before.ensures.1 c.if-not-is_before.true m.0),
    )

pub returns-clause-may : goal.returns-clause-may
returns-clause-may g c s holds lawful =
    let at : def_at (catalog_of s.tables) (changed_table c.args.change.now) ≡ Some c.in-Some.def.now =
    (λ i. def_at (sym (c.schema.ensures s holds) i) (sym c.table_of-table.ensures i)) ∙ sym c.in-Some.ensures in
    let others = c.changed_by_other.ensures s (c.in_ok-found.ensures.stays s holds) in
    may_then s c.args.conn c.args.change.now c.in-Some.def.now c.changed_by_other.result c.table_of-table.result c.in_ok-key.key c.in_ok-found.found lawful c.table_of-table.ensures c.in_ok-key.ensures at
    (sym c.in_ok-fits_change.ensures ∙ c.if-not-branch.false) (c.in_ok-found.ensures.row s holds) (c.is_before.ensures.0 c.if-not-is_before.false) others.0 others.1

use Rattle.std.proofs.Common.{◌≡◌, Some, true, not, filter, map, ap, sym, ◌∙◌}
use Rattle.wat_value.specs.declared.change.Change.TheVariants.{Delete}
use Rattle.wat_schema.specs.Tables.{Table, after_delete, has_row, row_eq}
use Rattle.wat_schema.proofs.OneTable.{one_keeps}
use Rattle.wat_tables.specs.Held.{rows_of, under_key}
use Rattle.wat_tables.proofs.Rows.{after_removing, deletes, is_kept, made_so}
use Rattle.wat_tables.proofs.stored_table.StoredTable.delete.Goals as goal

abbrev before : goal.After-drop-key-inside-2 → Table
before c = record { def = c.self.inside.def; indexes = c.self.inside.indexes; rows = rows_of c.self.inside.rows.entries }

abbrev after : goal.After-drop-key-inside-2 → Table
after c = record (before c) { rows = filter (λ r. not (row_eq r c.args.before.now)) (before c).rows }

stands : (c : goal.After-drop-key-inside-2) → has_row (before c) c.args.before.now ≡ true
stands c = ap (λ t. has_row t c.args.before.now) c.self.view_is ∙ sym c.has_row.ensures ∙ c.if-not-has_row.false

made : (c : goal.After-drop-key-inside-2) → after_delete c.args.before.now (before c) ≡ Some (after c)
made c = deletes (before c) c.args.before.now (stands c)

are : (c : goal.After-drop-key-inside-2) → c.remove.new.self.entries ≡ map (under_key c.self.inside.def) (after c).rows
are c = after_removing (before c) c.args.before.now c.self.inside.rows.entries c.remove.new.self.entries c.in_ok-key.key c.self.invariant (stands c) c.in_ok-key.ensures c.remove.ensures.entries

pub invariant_of-self : goal.invariant_of-self
invariant_of-self c = is_kept (after c) c.remove.new.self.entries (are c) (one_keeps (Delete 0 c.args.before.now) (before c) (after c) c.self.invariant.ok (made c))

pub returns-clause-after : goal.returns-clause-after
returns-clause-after c = made_so (before c) (after c) (after_delete c.args.before.now) (made c) c.remove.new.self.entries (are c) c.args.self.now c.self.view_is

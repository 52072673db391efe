use Rattle.std.proofs.Common.{◌≡◌, ◌&&◌, Some, true, false, map, if◌then◌else◌, ap, sym, ◌∙◌}
use Rattle.std.proofs.lemmas.Bool.{and_parts}
use Rattle.wat_value.specs.declared.change.Change.TheVariants.{Update}
use Rattle.wat_value.specs.Fits.{fits, key_of}
use Rattle.wat_schema.specs.Tables.{Table, after_update, has_row, row_eq}
use Rattle.wat_schema.proofs.OneTable.{one_keeps}
use Rattle.wat_schema.proofs.TableLaws.{equal}
use Rattle.wat_tables.specs.Held.{rows_of, under_key}
use Rattle.wat_tables.proofs.Rows.{after_replacing, is_kept, made_so, updates}
use Rattle.wat_tables.proofs.stored_table.StoredTable.update.Goals as goal

abbrev before : goal.Joined-branch-5 → Table
before c = record { def = c.self.inside.def; indexes = c.self.inside.indexes; rows = rows_of c.self.inside.rows.entries }

abbrev after : goal.Joined-branch-5 → Table
after c = record (before c) { rows = map (λ row. if row_eq row c.args.before.now then c.args.after.now else row) (before c).rows }

may : (c : goal.Joined-branch-5)
    → (has_row (before c) c.args.before.now && row_eq (key_of c.self.inside.def c.args.before.now) (key_of c.self.inside.def c.args.after.now) && fits c.self.inside.def c.args.after.now) ≡ true
may c =
    ap (λ (t : Table). has_row t c.args.before.now && row_eq (key_of t.def c.args.before.now) (key_of t.def c.args.after.now) && fits t.def c.args.after.now) c.self.view_is
    ∙ sym c.in_ok-may_become.ensures ∙ c.if-not-branch.false

made : (c : goal.Joined-branch-5) → after_update c.args.before.now c.args.after.now (before c) ≡ Some (after c)
made c = updates (before c) c.args.before.now c.args.after.now (may c)

are : (c : goal.Joined-branch-5) → c.insert.new.self.entries ≡ map (under_key c.self.inside.def) (after c).rows
are c =
    let first = and_parts (has_row (before c) c.args.before.now && row_eq (key_of c.self.inside.def c.args.before.now) (key_of c.self.inside.def c.args.after.now)) (fits c.self.inside.def c.args.after.now) (may c) in
    let parts = and_parts (has_row (before c) c.args.before.now) (row_eq (key_of c.self.inside.def c.args.before.now) (key_of c.self.inside.def c.args.after.now)) first.0 in
    after_replacing (before c) c.args.before.now c.args.after.now c.self.inside.rows.entries c.insert.new.self.entries c.in_ok-key.key c.in_ok-rows.rows c.self.invariant parts.0
    (equal (key_of c.self.inside.def c.args.before.now) (key_of c.self.inside.def c.args.after.now) parts.1) c.in_ok-key.ensures c.in_ok-rows.ensures c.in_ok-insert.ensures.entries

pub invariant_of-self-2 : goal.invariant_of-self-2
invariant_of-self-2 c = is_kept (after c) c.insert.new.self.entries (are c) (one_keeps (Update 0 c.args.before.now c.args.after.now) (before c) (after c) c.self.invariant.ok (made c))

pub returns-clause-after : goal.returns-clause-after
returns-clause-after c = made_so (before c) (after c) (after_update c.args.before.now c.args.after.now) (made c) c.insert.new.self.entries (are c) c.args.self.now c.self.view_is

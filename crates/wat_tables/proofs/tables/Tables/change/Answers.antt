use Rattle.std.proofs.Common.{◌≡◌, Some, None, is_some, unwrap_or, position, nat_eq, sym, ap, ◌∙◌}
use Rattle.wat_value.specs.Changes.{changed_table}
use Rattle.wat_schema.specs.Tables.{Tables, apply_change}
use Rattle.wat_tables.proofs.Listed.{after_either, applied_either, kept_either, none_here}
use Rattle.wat_tables.proofs.tables.Tables.change.Goals as goal

abbrev before : goal.After-self-1 → Tables
before c = record { tables = c.self.inside.tables.items; next = c.self.inside.schema.next }

at : (c : goal.After-self-1) → position (nat_eq (changed_table c.args.change.now)) c.self.inside.numbers.keys ≡ Some c.in-Some.i
at c = ap (λ n. position (nat_eq n) c.self.inside.numbers.keys) (sym c.table_of.ensures) ∙ sym c.get_index_of.ensures.index ∙ c.in-Some.is

pub invariant_of-self : goal.invariant_of-self
invariant_of-self c =
    kept_either (before c) c.args.self.now c.self.inside.schema c.self.inside.numbers.keys c.args.change.now c.in-Some.i c.index_mut-table.result.now c.apply.new.self c.self.invariant c.self.view_is (at c)
    c.index_mut-table.ensures.value c.apply.result c.apply.ensures.after c.apply.ensures.kept

pub returns-in-Some-clause-applied : goal.returns-in-Some-clause-applied
returns-in-Some-clause-applied c =
    applied_either (before c) c.args.self.now c.self.inside.schema c.self.inside.numbers.keys c.args.change.now c.in-Some.i c.index_mut-table.result.now c.apply.new.self c.self.invariant c.self.view_is (at c)
    c.index_mut-table.ensures.value c.apply.result c.apply.ensures.applied

pub returns-in-Some-clause-after : goal.returns-in-Some-clause-after
returns-in-Some-clause-after c =
    after_either (before c) c.args.self.now c.self.inside.schema c.self.inside.numbers.keys c.args.change.now c.in-Some.i c.index_mut-table.result.now c.apply.new.self c.self.invariant c.self.view_is (at c)
    c.index_mut-table.ensures.value c.apply.result c.apply.ensures.after

none : (c : goal.In-None) → apply_change c.args.change.now c.args.self.now ≡ None
none c =
    none_here (record { tables = c.self.inside.tables.items; next = c.self.inside.schema.next }) c.args.self.now c.self.inside.schema c.self.inside.numbers.keys c.args.change.now c.self.invariant c.self.view_is
    (ap (λ n. position (nat_eq n) c.self.inside.numbers.keys) (sym c.table_of.ensures) ∙ sym c.get_index_of.ensures.index ∙ c.in-None.is)

pub returns-in-None-clause-applied : goal.returns-in-None-clause-applied
returns-in-None-clause-applied c = sym (ap is_some (none c))

pub returns-in-None-clause-after : goal.returns-in-None-clause-after
returns-in-None-clause-after c = sym (ap (λ o. unwrap_or o c.args.self.now) (none c))

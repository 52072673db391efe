use Rattle.std.proofs.Common.{◌≡◌, ℕ, List, true, sym, ap, ap₂, ◌∙◌}
use Rattle.std.specs.List.{remove}
use Rattle.wat_value.specs.declared.change.SchemaChange.TheVariants.{DropTable}
use Rattle.wat_schema.specs.Catalog.{Catalog}
use Rattle.wat_schema.specs.Definitions.{allows, altered}
use Rattle.wat_schema.specs.Tables.{Table, Tables, after_alter}
use Rattle.wat_tables.proofs.Listed.{Standing, allowed_here, drop_in, keeps_drop, moved, no_drop, standing_at}
use Rattle.wat_tables.proofs.tables.Tables.drop_table.Goals as goal

abbrev before : goal.After-shift_remove_index → Tables
before c = record { tables = c.self.inside.tables.items; next = c.self.inside.schema.next }

here : (c : goal.After-shift_remove_index) → Standing (before c) c.args.table c.in-Some.i
here c = standing_at (before c) c.self.inside.schema c.self.inside.numbers.keys c.args.table c.in-Some.i c.self.invariant (sym c.get_index_of.ensures.index ∙ c.in-Some.is)

schema : (c : goal.After-shift_remove_index) → c.apply.new.self ≡ altered (DropTable c.args.table) c.self.inside.schema
schema c = c.in_ok-apply-in-Some.ensures.applied ∙ ap (λ ch. altered ch c.self.inside.schema) c.requires.is

same : (c : goal.After-shift_remove_index) → ◌≡◌ {A = Tables} (record { tables = c.remove.new.self.items; next = c.apply.new.self.next }) (after_alter (DropTable c.args.table) (before c))
same c =
    ap₂ (λ (xs : List Table) (n : ℕ). record { tables = xs; next = n }) c.remove.ensures.items (ap (λ (s : Catalog). s.next) (schema c))
    ∙ drop_in (before c) c.args.table c.in-Some.i (here c).item c.self.invariant.ok (here c).at (here c).is

pub invariant_of-self-in-Some : goal.invariant_of-self-in-Some
invariant_of-self-in-Some c =
    moved _ (after_alter (DropTable c.args.table) (before c)) _ (altered (DropTable c.args.table) c.self.inside.schema) _ (remove c.self.inside.numbers.keys c.in-Some.i) (same c) (schema c) c.shift_remove_index.ensures.keys
    (keeps_drop (before c) c.self.inside.schema c.self.inside.numbers.keys c.args.table c.in-Some.i (here c).item c.self.invariant
    (allowed_here (before c) c.args.self.now c.self.inside.schema c.self.inside.numbers.keys (DropTable c.args.table) c.args.change.now c.self.invariant c.self.view_is c.requires.is c.requires.allowed)
    (here c).at (here c).is)

pub unreachable-requires : goal.unreachable-requires
unreachable-requires c =
    let t : Tables = record { tables = c.self.inside.tables.items; next = c.self.inside.schema.next } in
    no_drop t c.self.inside.schema c.self.inside.numbers.keys c.args.table c.self.invariant (sym c.get_index_of.ensures.index ∙ c.in-None.is)
    (allowed_here t c.args.self.now c.self.inside.schema c.self.inside.numbers.keys (DropTable c.args.table) c.args.change.now c.self.invariant c.self.view_is c.requires.is c.requires.allowed)

pub returns-clause-after : goal.returns-clause-after
returns-clause-after c = same c ∙ ap₂ after_alter (sym c.requires.is) c.self.view_is

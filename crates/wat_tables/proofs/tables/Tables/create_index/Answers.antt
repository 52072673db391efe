use Rattle.std.proofs.Common.{◌≡◌, ℕ, [], ◌∷◌, ◌++◌, List, set, sym, ap, ap₂, ◌∙◌, refl}
use Rattle.std.proofs.lemmas.Option.{get_or_from_slice_get}
use Rattle.wat_value.specs.declared.change.SchemaChange.TheVariants.{CreateIndex}
use Rattle.wat_value.specs.declared.definition.IndexDef.{IndexDef}
use Rattle.wat_schema.specs.Catalog.{Catalog}
use Rattle.wat_schema.specs.Definitions.{altered}
use Rattle.wat_schema.specs.Tables.{Table, Tables, after_alter}
use Rattle.wat_tables.proofs.Listed.{Standing, allowed_here, index_in, keeps_index, moved, no_index, standing_at}
use Rattle.wat_tables.proofs.tables.Tables.create_index.Goals as goal

abbrev before : goal.After-self-in-Some-1 → Tables
before c = record { tables = c.self.inside.tables.items; next = c.self.inside.schema.next }

here : (c : goal.After-self-in-Some-1) → Standing (before c) c.args.index.now.table c.in-Some.i
here c = standing_at (before c) c.self.inside.schema c.self.inside.numbers.keys c.args.index.now.table c.in-Some.i c.self.invariant (sym c.get_index_of.ensures.index ∙ c.in-Some.is)

schema : (c : goal.After-self-in-Some-1) → c.apply.new.self ≡ altered (CreateIndex c.args.index.now) c.self.inside.schema
schema c = c.in_ok-apply-in-Some.ensures.applied ∙ ap (λ ch. altered ch c.self.inside.schema) c.requires.is

with_it : (c : goal.After-self-in-Some-1) → c.set_indexes.new.self ≡ record (here c).item { indexes = (here c).item.indexes ++ c.args.index.now ∷ [] }
with_it c =
    let is : c.index_mut-table.result.now ≡ (here c).item = c.index_mut-table.ensures.value ∙ get_or_from_slice_get c.self.inside.tables.items c.in-Some.i (here c).item c.index_mut-table.result.now (here c).at in
    c.set_indexes.ensures
    ∙ ap₂ (λ (x : Table) (indexes : List IndexDef). record x { indexes = indexes }) is
    (c.in_ok-indexes-in-Some.ensures ∙ ap (λ (indexes : List IndexDef). indexes ++ c.args.index.now ∷ []) (c.indexes.ensures ∙ ap (λ (x : Table). x.indexes) is))

same : (c : goal.After-self-in-Some-1)
    → ◌≡◌ {A = Tables} (record { tables = set c.self.inside.tables.items c.in-Some.i c.set_indexes.new.self; next = c.apply.new.self.next }) (after_alter (CreateIndex c.args.index.now) (before c))
same c =
    ap₂ (λ (x : Table) (n : ℕ). record { tables = set c.self.inside.tables.items c.in-Some.i x; next = n }) (with_it c) (ap (λ (s : Catalog). s.next) (schema c))
    ∙ index_in (before c) c.args.index.now c.in-Some.i (here c).item c.self.invariant.ok (here c).at (here c).is

pub invariant_of-self-in-Some : goal.invariant_of-self-in-Some
invariant_of-self-in-Some c =
    moved _ (after_alter (CreateIndex c.args.index.now) (before c)) _ (altered (CreateIndex c.args.index.now) c.self.inside.schema) _ c.self.inside.numbers.keys (same c) (schema c) refl
    (keeps_index (before c) c.self.inside.schema c.self.inside.numbers.keys c.args.index.now c.in-Some.i (here c).item c.self.invariant
    (allowed_here (before c) c.args.self.now c.self.inside.schema c.self.inside.numbers.keys (CreateIndex c.args.index.now) c.args.change.now c.self.invariant c.self.view_is c.requires.is c.requires.allowed)
    (here c).at (here c).is)

pub unreachable-requires : goal.unreachable-requires
unreachable-requires c =
    let t : Tables = record { tables = c.self.inside.tables.items; next = c.self.inside.schema.next } in
    no_index t c.self.inside.schema c.self.inside.numbers.keys c.args.index.now c.self.invariant (sym c.get_index_of.ensures.index ∙ c.in-None.is)
    (allowed_here t c.args.self.now c.self.inside.schema c.self.inside.numbers.keys (CreateIndex c.args.index.now) c.args.change.now c.self.invariant c.self.view_is c.requires.is c.requires.allowed)

pub returns-clause-after : goal.returns-clause-after
returns-clause-after c = same c ∙ ap₂ after_alter (sym c.requires.is) c.self.view_is

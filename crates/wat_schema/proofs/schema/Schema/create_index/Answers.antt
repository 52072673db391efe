use Rattle.std.proofs.Common.{◌≡◌, ◌==◌, ◌∷◌, [], ◌++◌, Some, None, slice_get, set, map, string_bytes, nat_le, sym, ap, ap₂, ◌∙◌}
use Rattle.std.specs.List.{list_any}
use Rattle.std.specs.Option.{option_and_then}
use Rattle.std.specs.Str.{bytes_eq}
use Rattle.std.proofs.lemmas.Bool.{and_parts, eq-eqb}
use Rattle.std.proofs.lemmas.Option.{get_or_from_slice_get}
use Rattle.wat_value.specs.declared.change.SchemaChange.TheVariants as change
use Rattle.wat_schema.specs.Catalog.{listing_at, numbers_of, ascend, has_index, has_index_named}
use Rattle.wat_schema.specs.Definitions.{allows_index, altered, with_index}
use Rattle.wat_schema.proofs.Keeping.{kept_set, with_tables, indexed, may_index, no_index, free_index}
use Rattle.wat_schema.proofs.LookUps.{listing_by_number, at_number}
use Rattle.wat_schema.proofs.Order.{set-map}
use Rattle.wat_schema.proofs.Owning.{alike_everywhere, owned_more, stands_at}
use Rattle.wat_schema.proofs.Whole.{with_one_index}
use Rattle.wat_schema.proofs.schema.Schema.create_index.Goals as goal

pub push_index-requires-clause-few : goal.push_index-requires-clause-few
push_index-requires-clause-few c =
    let tables = c.self.inside.entries.items in
    let found = at_number (λ t. t.def.number) c.args.index.now.table c.self.inside.numbers.keys tables c.in-Some.i c.self.invariant.0.0.numbers (sym c.get_index_of.ensures.index ∙ c.in-Some.is) in
    let is : c.index_mut-entry.result.now ≡ found.item = c.index_mut-entry.ensures.value ∙ get_or_from_slice_get tables c.in-Some.i found.item c.index_mut-entry.result.now found.at in
    let stands : Some c.index_mut-entry.result.now ≡ listing_at c.args.self.now c.args.index.now.table =
    ap Some is ∙ sym found.at ∙ sym (ap (option_and_then (slice_get tables)) c.in-Some.is)
    ∙ listing_by_number (with_tables c.self.inside.next tables) c.args.index.now.table c.self.inside.numbers.keys c.get_index_of.result c.self.invariant.0.0.numbers c.get_index_of.ensures.index
    ∙ ap (λ s. listing_at s c.args.index.now.table) c.self.view_is in
    (may_index c.args.self.now c.args.index.now c.index_mut-entry.result.now c.requires stands).few

pub push_index-requires-clause-next : goal.push_index-requires-clause-next
push_index-requires-clause-next c =
    let tables = c.self.inside.entries.items in
    let found = at_number (λ t. t.def.number) c.args.index.now.table c.self.inside.numbers.keys tables c.in-Some.i c.self.invariant.0.0.numbers (sym c.get_index_of.ensures.index ∙ c.in-Some.is) in
    let is : c.index_mut-entry.result.now ≡ found.item = c.index_mut-entry.ensures.value ∙ get_or_from_slice_get tables c.in-Some.i found.item c.index_mut-entry.result.now found.at in
    let stands : Some c.index_mut-entry.result.now ≡ listing_at c.args.self.now c.args.index.now.table =
    ap Some is ∙ sym found.at ∙ sym (ap (option_and_then (slice_get tables)) c.in-Some.is)
    ∙ listing_by_number (with_tables c.self.inside.next tables) c.args.index.now.table c.self.inside.numbers.keys c.get_index_of.result c.self.invariant.0.0.numbers c.get_index_of.ensures.index
    ∙ ap (λ s. listing_at s c.args.index.now.table) c.self.view_is in
    ap (λ x. x.number) c.in_ok-copy.ensures ∙ (may_index c.args.self.now c.args.index.now c.index_mut-entry.result.now c.requires stands).next

pub add-requires-clause-fresh : goal.add-requires-clause-fresh
add-requires-clause-fresh c =
    let name = c.args.index.now.name in
    let called : string_bytes c.in_ok-name.name ≡ name = c.in_ok-name.ensures.ok ∙ c.as_str.ensures.text in
    ap₂ (λ n es. list_any (λ e. bytes_eq n e.0) es) called c.reserve.ensures.items
    ∙ alike_everywhere (λ e. e.1) (λ e. bytes_eq name e.0) (λ t. t.def.number) (has_index name) c.self.inside.owners.items c.self.inside.entries.items (c.self.invariant.0.1.alike name)
    ∙ ap (λ s. has_index_named s name) c.self.view_is ∙ free_index c.args.self.now c.args.index.now c.requires

pub unreachable-requires : goal.unreachable-requires
unreachable-requires c =
    let none : None ≡ listing_at c.args.self.now c.args.index.now.table =
    sym (ap (option_and_then (slice_get c.self.inside.entries.items)) c.in-None.is)
    ∙ listing_by_number (with_tables c.self.inside.next c.self.inside.entries.items) c.args.index.now.table c.self.inside.numbers.keys c.get_index_of.result c.self.invariant.0.0.numbers c.get_index_of.ensures.index
    ∙ ap (λ s. listing_at s c.args.index.now.table) c.self.view_is in
    no_index c.args.self.now c.args.index.now c.requires none

pub invariant_of-self : goal.invariant_of-self
invariant_of-self c = ((c.self.invariant.0.0, rw c.reserve.ensures.items c.self.invariant.0.1), c.self.invariant.1)

pub invariant_of-self-in-Some : goal.invariant_of-self-in-Some
invariant_of-self-in-Some c =
    let tables = c.self.inside.entries.items in
    let owners = c.self.inside.owners.items in
    let index = c.args.index.now in
    let parts = and_parts (nat_le 1 c.self.inside.next) (ascend 0 (numbers_of tables) c.self.inside.next) c.self.invariant.0.0.order in
    let found = at_number (λ t. t.def.number) index.table c.self.inside.numbers.keys tables c.in-Some.i c.self.invariant.0.0.numbers (sym c.get_index_of.ensures.index ∙ c.in-Some.is) in
    let is : c.index_mut-entry.result.now ≡ found.item = c.index_mut-entry.ensures.value ∙ get_or_from_slice_get tables c.in-Some.i found.item c.index_mut-entry.result.now found.at in
    let placed = set-map (λ t. t.def.number) index.table (λ t. indexed t index) 0 tables c.self.inside.next c.in-Some.i found.item parts.1 found.at found.is in
    let changed : set tables c.in-Some.i c.push_index.new.self ≡ map (with_index index) tables =
    ap (set tables c.in-Some.i) (c.in_ok-push_index-in-Some.ensures.added ∙ ap₂ indexed is c.in_ok-copy.ensures) ∙ placed in
    let called : string_bytes c.in_ok-name.name ≡ index.name = c.in_ok-name.ensures.ok ∙ c.as_str.ensures.text in
    let added : c.add.new.self.items ≡ owners ++ (index.name, index.table) ∷ [] =
    c.add.ensures ∙ ap₂ (λ es n. es ++ (n, index.table) ∷ []) c.reserve.ensures.items called in
    let stands = stands_at (λ t. index.table == t.def.number) tables c.in-Some.i found.item found.at (eq-eqb index.table found.item.def.number found.is) in
    let kept =
    kept_set tables c.self.inside.next c.self.inside.numbers.keys (map string_bytes c.self.inside.names.keys) c.in-Some.i found.item c.push_index.new.self c.self.invariant.0.0 found.at
    (c.push_index.ensures.def ∙ ap (λ t. t.def) is) in
    let whole = with_one_index (with_tables c.self.inside.next tables) index c.self.invariant.1 (ap (λ s. allows_index s index) c.self.view_is ∙ c.requires) in
    ((kept, rw (added, changed) (owned_more owners tables index c.self.invariant.0.1 stands)), rw changed whole)

pub returns-clause-applied : goal.returns-clause-applied
returns-clause-applied c =
    let tables = c.self.inside.entries.items in
    let next = c.self.inside.next in
    let parts = and_parts (nat_le 1 next) (ascend 0 (numbers_of tables) next) c.self.invariant.0.0.order in
    let found = at_number (λ t. t.def.number) c.args.index.now.table c.self.inside.numbers.keys tables c.in-Some.i c.self.invariant.0.0.numbers (sym c.get_index_of.ensures.index ∙ c.in-Some.is) in
    let is : c.index_mut-entry.result.now ≡ found.item = c.index_mut-entry.ensures.value ∙ get_or_from_slice_get tables c.in-Some.i found.item c.index_mut-entry.result.now found.at in
    let placed = set-map (λ t. t.def.number) c.args.index.now.table (λ t. indexed t c.args.index.now) 0 tables next c.in-Some.i found.item parts.1 found.at found.is in
    ap (with_tables next) (ap (set tables c.in-Some.i) (c.in_ok-push_index-in-Some.ensures.added ∙ ap₂ indexed is c.in_ok-copy.ensures) ∙ placed)
    ∙ ap (altered (change.CreateIndex c.args.index.now)) c.self.view_is

use Rattle.std.proofs.Common.{slice_get, string_bytes, IsSome, None, ◌≡◌, nat_le, sym, ap, subst, ◌∙◌}
use Rattle.std.specs.Option.{option_and_then}
use Rattle.std.proofs.lemmas.Bool.{and_parts}
use Rattle.wat_value.specs.declared.change.SchemaChange.TheVariants as change
use Rattle.wat_schema.specs.Catalog.{Listing, listing_at, numbers_of, ascend}
use Rattle.wat_schema.specs.Definitions.{altered}
use Rattle.wat_schema.proofs.Keeping.{kept_without, with_tables, not_some}
use Rattle.wat_schema.proofs.LookUps.{listing_by_number, at_number}
use Rattle.wat_schema.proofs.Order.{remove-filter}
use Rattle.wat_schema.proofs.Owning.{owned_without}
use Rattle.wat_schema.proofs.Whole.{without_table}
use Rattle.wat_schema.proofs.schema.Schema.drop_table.Goals as goal

pub invariant_of-self : goal.invariant_of-self
invariant_of-self c =
    let tables = c.self.inside.entries.items in
    let next = c.self.inside.next in
    let parts = and_parts (nat_le 1 next) (ascend 0 (numbers_of tables) next) c.self.invariant.0.0.order in
    let found = at_number (λ t. t.def.number) c.args.table c.self.inside.numbers.keys tables c.in-Some.i c.self.invariant.0.0.numbers (sym c.get_index_of.ensures.index ∙ c.in-Some.is) in
    let gone = remove-filter (λ t. t.def.number) c.args.table 0 tables next c.in-Some.i found.item parts.1 found.at found.is in
    let kept = kept_without string_bytes tables next c.self.inside.numbers.keys c.self.inside.names.keys c.in-Some.i c.self.invariant.0.0 in
    let owned = owned_without c.self.inside.owners.items tables c.args.table c.self.invariant.0.1 in
    rw (c.remove.ensures.items, c.shift_remove_index.ensures.keys, c.shift_remove_index-in-Some.ensures.keys, c.remove_of.ensures) ((kept, rw gone owned), rw gone (without_table (with_tables next tables) c.args.table c.self.invariant.1))

pub unreachable-requires : goal.unreachable-requires
unreachable-requires c =
    let none : None ≡ listing_at c.args.self.now c.args.table =
    sym (ap (option_and_then (slice_get c.self.inside.entries.items)) c.in-None.is)
    ∙ listing_by_number (record { tables = c.self.inside.entries.items; next = c.self.inside.next }) c.args.table c.self.inside.numbers.keys c.get_index_of.result c.self.invariant.0.0.numbers c.get_index_of.ensures.index
    ∙ ap (λ s. listing_at s c.args.table) c.self.view_is in
    not_some Listing (subst (λ o. IsSome o) (sym none) c.requires)

pub returns : goal.returns
returns c =
    let tables = c.self.inside.entries.items in
    let next = c.self.inside.next in
    let parts = and_parts (nat_le 1 next) (ascend 0 (numbers_of tables) next) c.self.invariant.0.0.order in
    let found = at_number (λ t. t.def.number) c.args.table c.self.inside.numbers.keys tables c.in-Some.i c.self.invariant.0.0.numbers (sym c.get_index_of.ensures.index ∙ c.in-Some.is) in
    let gone = remove-filter (λ t. t.def.number) c.args.table 0 tables next c.in-Some.i found.item parts.1 found.at found.is in
    let dropped : with_tables next c.remove.new.self.items ≡ altered (change.DropTable c.args.table) c.args.self.now =
    ap (with_tables next) (c.remove.ensures.items ∙ gone) ∙ ap (altered (change.DropTable c.args.table)) c.self.view_is in
    dropped

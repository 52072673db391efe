-- What payloads spell they spell in one way.
use Rattle.std.proofs.Common.{◌≡◌, ◌≢◌, ⊎_elim, ℕ, ◌<◌, List, [], ◌∷◌, ◌++◌, length, sym, ◌∙◌, ap, append_assoc}
use Rattle.std.specs.List.{flat_map, AllByRecursion}
use Rattle.std.proofs.lemmas.Bool.{cases_eq}
use Rattle.wat_value.specs.Encoding.{count_bytes}
use Rattle.wat_value.proofs.EncodingLemmas.{tail_same}
use Rattle.wat_value.specs.declared.definition.IndexDef.{IndexDef}
use Rattle.wat_value.specs.declared.change.Change.{Change}
use Rattle.wat_schema.specs.Catalog.{Catalog}
use Rattle.wat_log_record.specs.Encoding.{number_bytes, table_bytes, index_bytes, change_bytes, IsCount, IsNumber, IsEncodableTable, IsEncodableIndex, IsEncodableChange}
use Rattle.wat_log_record.proofs.Parts.{Cancels, pair_cancels, items_cancel, tag_same}
use Rattle.wat_log_record.proofs.Cancelling.{counts, numbers, tables, indexes, changes}
use Rattle.wat_replay.specs.State.{Lists}
use Rattle.wat_spelled.specs.Schema.{listing_bytes, IsEncodableListing, SpellsSchema}
use Rattle.wat_spelled.specs.Changes.{lists_of, entry_bytes, rollback_bytes, IsEncodableEntry, SpellsLists, TellsLists}

-- ---- schemas

abbrev indexes_bytes : List IndexDef → List ℕ
indexes_bytes xs = length xs ∷ flat_map index_bytes xs

abbrev AreEncodableIndexes : List IndexDef → Type 0
AreEncodableIndexes xs = (length xs < 256) × AllByRecursion IsEncodableIndex xs

all_indexes : Cancels indexes_bytes AreEncodableIndexes
all_indexes a b s t pa pb e =
    items_cancel index_bytes IsEncodableIndex indexes a b s t pa.1 pb.1 (tag_same (length a) (length b) (flat_map index_bytes a ++ s) (flat_map index_bytes b ++ t) e)
    (tail_same (length a) (length b) (flat_map index_bytes a ++ s) (flat_map index_bytes b ++ t) e)

listings : Cancels listing_bytes IsEncodableListing
listings a b s t pa pb e =
    let same = pair_cancels table_bytes indexes_bytes IsEncodableTable AreEncodableIndexes tables all_indexes (a.def, a.indexes) (b.def, b.indexes) s t
    (pa.def, (pa.few, pa.indexes)) (pb.def, (pb.few, pb.indexes)) e in
    ((λ i. record { def = (same.0 i).0; indexes = (same.0 i).1 }), same.1)

pub schema_once : (payload : List ℕ) (a b : Catalog) → SpellsSchema payload a → SpellsSchema payload b → a.next ≡ b.next → a ≡ b
schema_once payload a b x y next =
    let many = numbers (length a.tables) (length b.tables) (flat_map listing_bytes a.tables) (flat_map listing_bytes b.tables) x.few y.few (sym x.bytes ∙ y.bytes) in
    let all = items_cancel listing_bytes IsEncodableListing listings a.tables b.tables [] [] x.encodable y.encodable many.0 (ap (λ z. z ++ []) many.1) in
    λ i. record { tables = all.0 i; next = next i }

-- ---- changes that stand

abbrev counted_changes : List Change → List ℕ
counted_changes xs = number_bytes (length xs) ++ flat_map change_bytes xs

abbrev AreCountedChanges : List Change → Type 0
AreCountedChanges xs = IsNumber (length xs) × AllByRecursion IsEncodableChange xs

all_changes : Cancels counted_changes AreCountedChanges
all_changes a b s t pa pb e =
    let many = numbers (length a) (length b) (flat_map change_bytes a ++ s) (flat_map change_bytes b ++ t) pa.0 pb.0
    (sym (append_assoc (number_bytes (length a)) (flat_map change_bytes a) s) ∙ e ∙ append_assoc (number_bytes (length b)) (flat_map change_bytes b) t) in
    items_cancel change_bytes IsEncodableChange changes a b s t pa.1 pb.1 many.0 many.1

entries_cancel : Cancels entry_bytes IsEncodableEntry
entries_cancel a b s t pa pb e =
    pair_cancels count_bytes counted_changes IsCount AreCountedChanges counts all_changes a b s t (pa.conn, (pa.few, pa.each)) (pb.conn, (pb.few, pb.each)) e

pub entries_once : (payload : List ℕ) (a b : List (ℕ × List Change)) → IsCount (length a) → IsCount (length b) → AllByRecursion IsEncodableEntry a → AllByRecursion IsEncodableEntry b
    → payload ≡ rollback_bytes a → payload ≡ rollback_bytes b → a ≡ b
entries_once payload a b fa fb ea eb x y =
    let many = counts (length a) (length b) (flat_map entry_bytes a) (flat_map entry_bytes b) fa fb (sym x ∙ y) in
    (items_cancel entry_bytes IsEncodableEntry entries_cancel a b [] [] ea eb many.0 (ap (λ z. z ++ []) many.1)).0

pub lists_once : (payload : List ℕ) (a b : Lists) → SpellsLists payload a → SpellsLists payload b → a ≡ b
lists_once payload a b x y =
    x.lists_are ∙ ap lists_of (entries_once payload x.entries y.entries x.are.few y.are.few x.are.each y.are.each x.bytes y.bytes) ∙ sym y.lists_are

pub told_once : (first : ℕ) (payload : List ℕ) (a b : Lists) → TellsLists first payload a → TellsLists first payload b → a ≡ b
told_once first payload a b x y =
    ⊎_elim (λ (none : first ≡ 0). x.none none ∙ sym (y.none none)) (λ (some : first ≢ 0). lists_once payload a b (x.some some) (y.some some)) (cases_eq first 0)

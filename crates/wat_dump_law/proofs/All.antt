-- All tables are made, one behind the other.
use Rattle.std.proofs.Common.{◌≡◌, ℕ, ◌+◌, ◌==◌, ◌≤◌, ◌||◌, true, false, List, [], ◌∷◌, ◌++◌, map, length, refl, sym, ap, subst, ◌∙◌, append_assoc, append-nil, length-append, arith}
use Rattle.std.specs.List.{flat_map, list_all, list_any}
use Rattle.std.specs.Str.{bytes_eq}
use Rattle.std.proofs.lemmas.Bool.{and_parts, or_from, ne_eqb}
use Rattle.std.proofs.lemmas.List.{map-append}
use Rattle.std.proofs.lemmas.List.Folds.{list_any-append}
use Rattle.std.proofs.lemmas.Simd.{map-map}
use Rattle.wat_value.specs.declared.definition.IndexDef.{IndexDef}
use Rattle.wat_schema.specs.Catalog.{Listing, Name, repeats}
use Rattle.wat_schema.specs.Stored.{is_whole}
use Rattle.wat_schema.specs.Tables.{Table, Tables, IsTables, is_table, listing_of, no_tables}
use Rattle.wat_schema.proofs.Again.{length-map_of, names_of_one}
use Rattle.wat_schema.proofs.Distinct.{fresh_before}
use Rattle.wat_dump.specs.Dump.{makings}
use Rattle.wat_dump_law.specs.Anew.{anew, numbered, numbered_from}
use Rattle.wat_dump_law.proofs.Last.{last, names_in, none_has}
use Rattle.wat_dump_law.proofs.OneTable.{names_same, one_table}
use Rattle.wat_dump_law.proofs.Plain.{plain}
use Rattle.wat_dump_law.proofs.Steps.{Goes, goes_both, goes_none}

abbrev name_of : IndexDef → Name
name_of index = index.name

abbrev called : Table → Name
called x = x.def.name

-- where tables are made behind others, from this number on
record IsPlace (done todo : List Table) (n : ℕ) : Type 0 where
  none : (m : ℕ) → n ≤ m → none_has m done
  names : repeats bytes_eq (map called (done ++ todo)) ≡ false
  indexes : repeats bytes_eq (names_in (done ++ todo)) ≡ false
  counted : n ≡ length done + 1
  few : length (done ++ todo) ≤ 1000
  whole : list_all is_whole (map listing_of todo) ≡ true
  rows : list_all is_table todo ≡ true

-- the names of indexes, with a table in the midst
names_at : (done : List Table) (x : Table) (todo : List Table) → names_in (done ++ x ∷ todo) ≡ names_in done ++ (map name_of x.indexes ++ names_in todo)
names_at done x todo = ap (flat_map (λ (t : Listing). map name_of t.indexes)) (map-append listing_of done (x ∷ todo)) ∙ names_of_one (map listing_of done) (listing_of x) (map listing_of todo)

joined : (done : List Table) (x : Table) (todo : List Table) → (done ++ x ∷ []) ++ todo ≡ done ++ x ∷ todo
joined done x todo = append_assoc done (x ∷ []) todo

place_after : (done todo : List Table) (x : Table) (n : ℕ) → IsPlace done (x ∷ todo) n → IsPlace (done ++ numbered n x ∷ []) todo (n + 1)
place_after done todo x n place =
    let y = numbered n x in
    let parts = and_parts (is_whole (listing_of x)) (list_all is_whole (map listing_of todo)) place.whole in
    let tables = and_parts (is_table x) (list_all is_table todo) place.rows in
    let one_more = length-append done (y ∷ []) in
    let counted = place.counted in
    let whole_length = length-append done (x ∷ todo) in
    let rest_length = length-append (done ++ y ∷ []) todo in
    let few = place.few in
    record {
      none = λ m above.
          list_any-append (λ z. m == z.def.number) done (y ∷ [])
          ∙ or_from (list_any (λ z. m == z.def.number) done) ((m == n) || false) (place.none m (omega arith)) (or_from (m == n) false (ne_eqb m n (λ e. omega arith)) refl);
      names = ap (λ (zs : List Table). repeats bytes_eq (map called zs)) (joined done y todo)
          ∙ ap (repeats bytes_eq) (map-append called done (y ∷ todo) ∙ sym (map-append called done (x ∷ todo))) ∙ place.names;
      indexes = ap (λ (zs : List Table). repeats bytes_eq (names_in zs)) (joined done y todo)
          ∙ ap (repeats bytes_eq) (names_at done y todo ∙ ap (λ (ns : List Name). names_in done ++ (ns ++ names_in todo)) (names_same n x.indexes) ∙ sym (names_at done x todo)) ∙ place.indexes;
      counted = omega arith;
      few = omega arith;
      whole = parts.1;
      rows = tables.1;
    }

all_go : (done todo : List Table) (n : ℕ) → IsPlace done todo n
    → Goes (record { tables = done; next = n }) (flat_map makings (numbered_from n todo)) (flat_map plain todo) (record { tables = done ++ numbered_from n todo; next = n + length todo })
all_go done [] n place =
    let t : Tables = record { tables = done; next = n } in
    subst (λ (m : ℕ). Goes t [] [] (record { tables = done ++ []; next = m })) (omega arith)
    (subst (λ (tables : List Table). Goes t [] [] (record { tables = tables; next = n })) (sym (append-nil done)) (goes_none t))
all_go done (x ∷ todo) n place =
    let y = numbered n x in
    let parts = and_parts (is_whole (listing_of x)) (list_all is_whole (map listing_of todo)) place.whole in
    let tables = and_parts (is_table x) (list_all is_table todo) place.rows in
    let counted = place.counted in
    let few = place.few in
    let whole_length = length-append done (x ∷ todo) in
    let one =
    one_table done x (names_in todo) n (record {
      none = place.none n (omega arith);
      name = fresh_before bytes_eq (map called done) x.def.name (map called todo) (ap (repeats bytes_eq) (sym (map-append called done (x ∷ todo))) ∙ place.names);
      few = omega arith;
      small = omega arith;
      whole = parts.0;
      rows = tables.0;
      indexes = ap (repeats bytes_eq) (sym (names_at done x todo)) ∙ place.indexes;
    }) in
    let rest = all_go (done ++ y ∷ []) todo (n + 1) (place_after done todo x n place) in
    let t : Tables = record { tables = done; next = n } in
    let acts = makings y ++ flat_map makings (numbered_from (n + 1) todo) in
    let xs = plain x ++ flat_map plain todo in
    subst (λ (m : ℕ). Goes t acts xs (record { tables = done ++ y ∷ numbered_from (n + 1) todo; next = m })) (omega arith)
    (subst (λ (zs : List Table). Goes t acts xs (record { tables = zs; next = (n + 1) + length todo })) (joined done y (numbered_from (n + 1) todo))
    (goes_both t (last done y (n + 1)) (record { tables = (done ++ y ∷ []) ++ numbered_from (n + 1) todo; next = (n + 1) + length todo }) (makings y) (flat_map makings (numbered_from (n + 1) todo)) (plain x)
    (flat_map plain todo) one rest))

-- The acts that make the tables numbered anew lead to them from none.
pub all_made : (t : Tables) → IsTables t → Goes no_tables (flat_map makings (numbered_from 1 t.tables)) (flat_map plain t.tables) (anew t)
all_made t ok =
    let long = length-map_of listing_of t.tables in
    let few = ok.catalog.few in
    all_go [] t.tables 1 (record {
      none = λ m above. refl;
      names = ap (repeats bytes_eq) (sym (map-map (λ (l : Listing). l.def.name) listing_of t.tables)) ∙ ok.catalog.names;
      indexes = ok.catalog.indexes;
      counted = omega arith;
      few = omega arith;
      whole = ok.catalog.tables;
      rows = ok.rows;
    })

-- Where the objects hold a state on their own pages, all pages together stand for it.
use Rattle.std.proofs.Common.{◌≡◌, ◌≢◌, ◌⊎◌, ⊎_elim, inl, inr, ℕ, zero, suc, ◌+◌, ◌-◌, ◌<◌, ◌≤◌, ◌==◌, Bool, true, false, List, [], ◌∷◌, ◌++◌, length, Option, Some, None, refl, sym, ◌∙◌, ap, subst, arith, length-append}
use Rattle.std.specs.Prelude.{nat_eq, IsSome}
use Rattle.std.specs.List.{list_any, flat_map, IsDistinct}
use Rattle.std.proofs.lemmas.Bool.{cases_Bool, cases_eq}
use Rattle.wat_restore.specs.Head.{Head, IsHead}
use Rattle.wat_restore.specs.Restored.{Checkpoint}
use Rattle.wat_book.specs.Book.{Book, Owners, nobody, header, Section, section, IsFreeChain, IsOwned, SameButHeader}
use Rattle.wat_book.specs.Chains.{IsLink, IsChain, HoldsPayload, all_pages, IsReadChain}
use Rattle.wat_book.proofs.Chaining.{none_from_zero, chain_distinct, section_in_all}
use Rattle.wat_book.proofs.Working.{section_at, chain_owned, section_saved, saved_owned}
use Rattle.wat_schema.specs.Catalog.{Catalog, def_at}
use Rattle.wat_schema.specs.Tables.{Tables, catalog_of, row_at}
use Rattle.wat_schema.proofs.Alike.{same_tables}
use Rattle.wat_schema.proofs.Database.{in_their_order}
use Rattle.wat_log_record.specs.Encoding.{number_bytes}
use Rattle.wat_log_record.proofs.Cancelling.{length-number_bytes}
use Rattle.wat_rows.specs.Rows.{Row}
use Rattle.wat_rows.specs.Pages.{of_rows}
use Rattle.wat_replay.specs.State.{State}
use Rattle.wat_spelled.specs.Schema.{listing_bytes, catalog_bytes}
use Rattle.wat_files.specs.Chains.{Chains, in_chains, listed, IsFreeList, HasChains}
use Rattle.wat_files.specs.Rows.{emptied, AddsPages, other_pages}
use Rattle.wat_files.specs.Formed.{Stands}
use Rattle.wat_keeping.specs.Durable.{saved_pages, Saves}
use Rattle.wat_keeping.proofs.There.{in_either}
use Rattle.wat_held.specs.Held.{in_catalog, in_rollback, HoldsCatalog, HoldsChanges, HoldsTables, HoldsState, IsHeadOf, HasPagesOf}
use Rattle.wat_held.proofs.Inserting.{Good}
use Rattle.wat_held.proofs.Owned.{some_owned, chain_owner, in_left, in_right, distinct_both, apart_owners, free_distinct, free_in_all}
use Rattle.wat_held.proofs.Walked.{before, Walked, good_emptied, emptied_at, walk, all_before, none_before}

-- the catalog has a page: its payload isn't empty
has_page : (pages : Section) (first : ℕ) (list payload : List ℕ) (schema : Catalog) → IsChain pages first list payload → payload ≡ catalog_bytes schema.tables → 0 < first
has_page pages first list payload schema chain is = ⊎_elim
    (λ (none : first ≡ 0).
    let empty : payload ≡ [] = (none_from_zero pages list payload (subst (λ (n : ℕ). IsChain pages n list payload) none chain)).1 in
    let short : length (catalog_bytes schema.tables) ≡ 0 = ap length (sym is ∙ empty) in
    absurd (omega (arith, short, length-append (number_bytes (length schema.tables)) (flat_map listing_bytes schema.tables), length-number_bytes (length schema.tables))))
    (λ (some : first ≢ 0). omega (arith, some))
    (cases_eq first 0)

module _ (book : Book) (owners : Owners) (free : List ℕ) (head : Head) (s : State) (holds : HoldsState book owners free head s) where
  abbrev pages : Section
  pages = all_pages book

  abbrev chains : Chains
  chains = record {
    catalog = holds.catalog.chain.list;
    schema = holds.catalog.payload;
    rollback = holds.changes.chain.list;
    changes = holds.changes.payload;
    free = free;
  }

  -- ---- whose the pages in the lists are

  in_catalog_list : (page : ℕ) → list_any (nat_eq page) chains.catalog ≡ true → owners page ≡ in_catalog
  in_catalog_list page among = chain_owner book owners in_catalog head.catalog chains.catalog chains.schema holds.catalog.chain.chain page among

  in_rollback_list : (page : ℕ) → list_any (nat_eq page) chains.rollback ≡ true → owners page ≡ in_rollback
  in_rollback_list page among = chain_owner book owners in_rollback head.rollback chains.rollback chains.changes holds.changes.chain.chain page among

  in_free_list : (page : ℕ) → list_any (nat_eq page) free ≡ true → owners page ≡ nobody
  in_free_list page among = (chain_owned book owners book.first_free free holds.owned.unused.chain page among).1

  -- the pages of the lists are no row pages, and all others are
  others : (page : ℕ) → 0 < page → page < book.count → list_any (nat_eq page) (listed chains) ≡ true → owners page ≢ of_rows
  others page some below among mine = ⊎_elim
      (λ (chained : list_any (nat_eq page) (in_chains chains) ≡ true). ⊎_elim
      (λ (first : list_any (nat_eq page) chains.catalog ≡ true). omega (arith, in_catalog_list page first, mine))
      (λ (second : list_any (nat_eq page) chains.rollback ≡ true). omega (arith, in_rollback_list page second, mine))
      (in_either page chains.catalog chains.rollback chained))
      (λ (unused : list_any (nat_eq page) free ≡ true). omega (arith, in_free_list page unused, mine))
      (in_either page (in_chains chains) free among)

  is_some : (o : Option (List ℕ)) (bytes : List ℕ) → o ≡ Some bytes → IsSome o
  is_some o bytes e = subst IsSome (sym e) refl

  some_page : (who page : ℕ) → page < book.count → owners page ≡ who → IsSome (section book owners who page)
  some_page who page below is = is_some (section book owners who page) (book.page page) (section_at book owners who page below is)

  listed_by : (page : ℕ) → page < book.count → 0 < page → owners page ≢ of_rows → list_any (nat_eq page) (listed chains) ≡ true
  listed_by page below some other = ⊎_elim
      (λ (unused : owners page ≡ nobody). in_right page (in_chains chains) free (holds.owned.unused.all page below unused))
      (λ (not_free : owners page ≢ nobody). ⊎_elim
      (λ (first : owners page ≡ in_catalog).
      in_left page (in_chains chains) free (in_left page chains.catalog chains.rollback (holds.catalog.chain.all page (some_page in_catalog page below first))))
      (λ (not_first : owners page ≢ in_catalog). ⊎_elim
      (λ (second : owners page ≡ in_rollback).
      in_left page (in_chains chains) free (in_right page chains.catalog chains.rollback (holds.changes.chain.all page (some_page in_rollback page below second))))
      (λ (not_second : owners page ≢ in_rollback).
      let known = holds.known page below in
      let is_header : owners page ≡ header = omega (arith, known.0, other, not_free, not_first, not_second) in
      absurd (omega (arith, known.1 is_header, some)))
      (cases_eq (owners page) in_rollback))
      (cases_eq (owners page) in_catalog))
      (cases_eq (owners page) nobody)

  mine : (page : ℕ) → 0 < page → page < book.count → list_any (nat_eq page) (listed chains) ≡ false → owners page ≡ of_rows
  mine page some below none = ⊎_elim
      (λ (is : owners page ≡ of_rows). is)
      (λ (other : owners page ≢ of_rows). absurd (let no : true ≡ false = sym (listed_by page below some other) ∙ none in cc))
      (cases_eq (owners page) of_rows)

  -- ---- the chains

  catalog_once : IsDistinct nat_eq chains.catalog
  catalog_once = chain_distinct (section book owners in_catalog) head.catalog chains.catalog chains.schema holds.catalog.chain.chain

  rollback_once : IsDistinct nat_eq chains.rollback
  rollback_once = chain_distinct (section book owners in_rollback) head.rollback chains.rollback chains.changes holds.changes.chain.chain

  chains_once : IsDistinct nat_eq (in_chains chains)
  chains_once = distinct_both chains.catalog chains.rollback catalog_once rollback_once
      (apart_owners owners in_catalog in_rollback chains.catalog chains.rollback (λ e. omega (arith, e)) in_catalog_list in_rollback_list)

  free_apart : (page : ℕ) → list_any (nat_eq page) (in_chains chains) ≡ true → list_any (nat_eq page) free ≡ false
  free_apart page among = elim (cases_Bool (list_any (nat_eq page) free)) [
    | inr none ↦ none
    | inl unused ↦ absurd (⊎_elim
        (λ (first : list_any (nat_eq page) chains.catalog ≡ true). omega (arith, in_catalog_list page first, in_free_list page unused))
        (λ (second : list_any (nat_eq page) chains.rollback ≡ true). omega (arith, in_rollback_list page second, in_free_list page unused))
        (in_either page chains.catalog chains.rollback among))
  ]

  all_once : IsDistinct nat_eq (in_chains chains ++ free)
  all_once = distinct_both (in_chains chains) free chains_once (free_distinct (section book owners nobody) book.first_free free holds.owned.unused.chain) free_apart

  has_chains : head.free ≡ book.first_free → HasChains pages head chains
  has_chains first_free = record {
    some = has_page (section book owners in_catalog) head.catalog chains.catalog chains.schema (catalog_of s.tables) holds.catalog.chain.chain holds.catalog.is.spells.bytes;
    catalog = record { chain = section_in_all book owners in_catalog head.catalog chains.catalog chains.schema holds.catalog.chain.chain; once = catalog_once };
    rollback = record { chain = section_in_all book owners in_rollback head.rollback chains.rollback chains.changes holds.changes.chain.chain; once = chains_once };
    free = record {
      chain = subst (λ (n : ℕ). IsFreeChain pages n free) (sym first_free) (free_in_all book owners nobody book.first_free free holds.owned.unused.chain);
      once = all_once;
    };
  }

  -- ---- the rows

  abbrev schema : Catalog
  schema = catalog_of s.tables

  not_of_rows : owners 0 ≢ of_rows
  not_of_rows e = omega (arith, holds.owned.first, e)

  walked : Walked pages schema holds.tables.hold.on holds.tables.hold.place (other_pages book.count (listed chains)) (1 + (book.count - 1)) (emptied schema)
  walked =
      let h = holds.tables.hold in
      walk book owners schema h.on h.place holds.tables.rows h.stand h.named (listed chains) others mine (book.count - 1) 1 (emptied schema) (omega arith) (omega (arith, holds.owned.some))
      (good_emptied schema holds.lawful.tables.catalog.order)
      (λ table key. emptied_at schema table key ∙ sym (none_before book owners schema h.on h.place holds.tables.rows h.stand h.named not_of_rows table key))

  all_rows : (table : ℕ) (key : Row) → row_at walked.to table key ≡ row_at s.tables table key
  all_rows table key =
      let h = holds.tables.hold in
      let end : 1 + (book.count - 1) ≡ book.count = omega (arith, holds.owned.some) in
      walked.at table key ∙ ap (λ (n : ℕ). before h.on n table key (h.place table key)) end
      ∙ all_before book owners schema h.on h.place holds.tables.rows h.stand h.named table key ∙ holds.tables.same table key

  same : walked.to ≡ s.tables
  same = same_tables walked.to s.tables walked.good.tables (in_their_order s.tables holds.lawful.tables) walked.good.is all_rows

  pub stands : IsHeadOf head book → Stands pages head s
  stands of_book = record {
    chains = chains;
    has = has_chains of_book.free;
    schema = schema;
    holds = holds.catalog.is;
    lists = holds.changes.tells;
    catalog = holds.lawful.tables.catalog;
    rows = subst (λ (n : ℕ). AddsPages pages (other_pages n (listed chains)) (emptied schema) s.tables) (sym of_book.count)
        (subst (λ (t : Tables). AddsPages pages (other_pages book.count (listed chains)) (emptied schema) t) same walked.adds);
    undoes = record { apart = holds.lawful.apart; undoes = holds.lawful.undoes };
  }

-- ---- a checkpoint

module _ (book : Book) (owners : Owners) (free : List ℕ) (head : Head) (s : State) (saved : Checkpoint) (holds : HoldsState book owners free head s) (of_book : IsHeadOf head book) (has : HasPagesOf saved book) where
  abbrev next : Book
  next = record { count = saved.count; page = saved.page; first_free = head.free }

  but_header : SameButHeader book next
  but_header = record { pages = has.pages; count = has.count; first = of_book.free }

  same_section : (who : ℕ) → who ≢ header → section next owners who ≡ section book owners who
  same_section who other = section_saved book next owners but_header holds.owned.first who other

  held : HoldsState next owners free head s
  held = record {
    owned = saved_owned book next owners free but_header holds.owned;
    known = λ page below. holds.known page (omega (arith, below, has.count));
    catalog = subst (λ (mine : Section). HoldsCatalog mine head (catalog_of s.tables)) (sym (same_section in_catalog (λ e. omega (arith, e)))) holds.catalog;
    changes = subst (λ (mine : Section). HoldsChanges mine head s.lists) (sym (same_section in_rollback (λ e. omega (arith, e)))) holds.changes;
    tables = subst (λ (mine : Section). HoldsTables mine s.tables) (sym (same_section of_rows (λ e. omega (arith, e)))) holds.tables;
    lawful = holds.lawful;
  }

  pub saves : IsHead (saved.page 0) head → Saves saved head s
  saves first = record {
    first = first;
    count = has.count ∙ sym of_book.count;
    stands = stands next owners free head s held (record { count = of_book.count ∙ sym has.count; free = refl });
  }

-- ---- there are two pages at least: the header's, and one of the catalog

first_below : (book : Book) (owners : Owners) (who first : ℕ) (list payload : List ℕ) → IsChain (section book owners who) first list payload → 0 < first → first < book.count
first_below book owners who first [] payload chain some = absurd (omega (arith, chain.0, some))
first_below book owners who first (here ∷ rest) payload chain some =
    let below = (some_owned book owners who here (linked (section book owners who here) chain.2 chain.3 chain.5)).0 in
    omega (arith, chain.0, below)
  where
    linked : (o : Option (List ℕ)) (next : ℕ) (part : List ℕ) → IsLink o next part → IsSome o
    linked None next part link = absurd link
    linked (Some page) next part link = refl

pub two_pages : (book : Book) (owners : Owners) (free : List ℕ) (head : Head) (s : State) → HoldsState book owners free head s → 2 ≤ book.count
two_pages book owners free head s holds =
    let held = holds.catalog in
    let some = has_page (section book owners in_catalog) head.catalog held.chain.list held.payload (catalog_of s.tables) held.chain.chain held.is.spells.bytes in
    omega (arith, first_below book owners in_catalog head.catalog held.chain.list held.payload held.chain.chain some, some)

-- The rows of the other pages, as the objects' own.
use Rattle.std.proofs.Common.{◌≡◌, ⊎_elim, inl, inr, ℕ, ◌<◌, ◌≤◌, ◌==◌, ◌&&◌, Bool, true, false, not, List, [], ◌∷◌, length, Option, Some, None, refl, sym, ◌∙◌, ap, subst, arith, if◌then◌else◌}
use Rattle.std.specs.Prelude.{nat_eq, nat_lt}
use Rattle.std.specs.List.{list_any}
use Rattle.std.proofs.lemmas.Bool.{cases_Bool, cases_eq, eq-eqb, ne_eqb, le-leb, lt-leb}
use Rattle.wat_restore.specs.Head.{Head}
use Rattle.wat_book.specs.Book.{Book, Owners, Section, section, header, IsFreePage, IsFreeChain}
use Rattle.wat_book.specs.Chains.{IsLink, BeginsChain, IsReadChain, all_pages}
use Rattle.wat_images.specs.declared.refusal.PageRefusal.{PageRefusal}
use Rattle.wat_images.specs.Refusal.{IfDamaged}
use Rattle.wat_images.proofs.Writing.{if_damaged}
use Rattle.wat_schema.specs.Catalog.{Catalog, def_at}
use Rattle.wat_replay.specs.State.{Lists}
use Rattle.wat_rows.specs.Pages.{of_rows}
use Rattle.wat_directory.specs.declared.directory.Directory.{Directory}
use Rattle.wat_directory.specs.Known.{Holds}
use Rattle.wat_heap.specs.Heaps.{IsHeld}
use Rattle.wat_files.specs.Chains.{Chains, listed, HasChains}
use Rattle.wat_files.specs.Rows.{RowsStop, AddsPages, emptied, other_pages}
use Rattle.wat_files.specs.Formed.{IsAtPage, HoldsRows, CanUndo, state_of, FailsInRows}
use Rattle.wat_held.specs.Owning.{owners_by, AreOwned}
use Rattle.wat_held.proofs.Owning.{are_owned}
use Rattle.wat_free_list.specs.Whole.{whole_pages}
use Rattle.wat_row_pages.specs.Taken.{others_below, TakesTo}
use Rattle.wat_loading.specs.Parts.{HasRowsOf}

-- ---- whole pages are pages

module _ (book : Book) where
  link_back : (page next : ℕ) (part : List ℕ) → IsLink (whole_pages book page) next part → IsLink (all_pages book page) next part
  link_back page next part link = by (nat_lt page book.count) (length (book.page page) == 4096) link
    where
      by : (b c : Bool) → IsLink (if b && c then Some (book.page page) else None) next part → IsLink (if b then Some (book.page page) else None) next part
      by true true there = there
      by true false there = absurd there
      by false c there = absurd there

  free_back : (page next : ℕ) → IsFreePage (whole_pages book page) next → IsFreePage (all_pages book page) next
  free_back page next free = by (nat_lt page book.count) (length (book.page page) == 4096) free
    where
      by : (b c : Bool) → IsFreePage (if b && c then Some (book.page page) else None) next → IsFreePage (if b then Some (book.page page) else None) next
      by true true there = there
      by true false there = absurd there
      by false c there = absurd there

  begins_back : (first : ℕ) (list payload : List ℕ) (end : ℕ) → BeginsChain (whole_pages book) first list payload end → BeginsChain (all_pages book) first list payload end
  begins_back first [] payload end chain = chain
  begins_back first (here ∷ rest) payload end chain =
      (chain.0, chain.1, chain.2, chain.3, chain.4, link_back here chain.2 chain.3 chain.5, chain.6, begins_back chain.2 rest chain.4 end chain.7)

  frees_back : (first : ℕ) (list : List ℕ) → IsFreeChain (whole_pages book) first list → IsFreeChain (all_pages book) first list
  frees_back first [] chain = chain
  frees_back first (here ∷ rest) chain = (chain.0, chain.1, chain.2, free_back here chain.2 chain.3, frees_back chain.2 rest chain.4)

  read_back : (met : List ℕ) (first : ℕ) (list payload : List ℕ) → IsReadChain (whole_pages book) met first list payload → IsReadChain (all_pages book) met first list payload
  read_back met first list payload reads = record { chain = begins_back first list payload 0 reads.chain; once = reads.once }

  pub chains_back : (head : Head) (chains : Chains) → HasChains (whole_pages book) head chains → HasChains (all_pages book) head chains
  chains_back head chains has = record {
    some = has.some;
    catalog = read_back [] head.catalog chains.catalog chains.schema has.catalog;
    rollback = read_back chains.catalog head.rollback chains.rollback chains.changes has.rollback;
    free = record { chain = frees_back head.free chains.free has.free.chain; once = has.free.once };
  }

-- ---- the other pages are those of rows

abbrev Put : Book → ℕ → Bool → Bool → Option (List ℕ)
Put book page some b = if some && (nat_lt page book.count && b) then Some (book.page page) else None

none_put : (book : Book) (page : ℕ) → Put book page true false ≡ None
none_put book page = by (nat_lt page book.count)
  where
    by : (b : Bool) → (if b && false then Some (book.page page) else None) ≡ None
    by true = refl
    by false = refl

owned_rows : (book : Book) (owners : Owners) (list : List ℕ) (page : ℕ) → owners 0 ≡ header → ((page : ℕ) → 0 < page → (owners page ≡ of_rows → list_any (nat_eq page) list ≡ false) × (list_any (nat_eq page) list ≡ false → owners page ≡ of_rows))
    → others_below book list book.count page ≡ section book owners of_rows page
owned_rows book owners list page first rows = ⊎_elim
    (λ (same : page ≡ 0).
    ap (λ b. Put book page b (not (list_any (nat_eq page) list))) (lt-leb 1 page (omega (arith, same)))
    ∙ sym (ap (Put book page true) (ne_eqb (owners page) of_rows (λ e. let no : header ≡ of_rows = sym first ∙ ap owners (sym same) ∙ e in omega (arith, no))) ∙ none_put book page))
    (λ other.
    let some : 1 ≤ page = omega (arith, other) in
    ap (λ b. Put book page b (not (list_any (nat_eq page) list))) (le-leb 1 page some) ∙ ⊎_elim
    (λ (there : list_any (nat_eq page) list ≡ true).
    ap (λ b. Put book page true (not b)) there
    ∙ sym (ap (Put book page true) (ne_eqb (owners page) of_rows (λ e. let no : true ≡ false = sym there ∙ (rows page some).0 e in cc))))
    (λ (none : list_any (nat_eq page) list ≡ false).
    ap (λ b. Put book page true (not b)) none ∙ sym (ap (Put book page true) (eq-eqb (owners page) of_rows ((rows page some).1 none))))
    (cases_Bool (list_any (nat_eq page) list)))
    (cases_eq page 0)

module _ (book : Book) (head : Head) (chains : Chains) (has : HasChains (whole_pages book) head chains) (some : 0 < book.count) (free : head.free ≡ book.first_free) (counted : head.count ≡ book.count) where
  pub owned : AreOwned book head chains
  owned = are_owned book head chains some (chains_back book head chains has) free

  module _ (schema : Catalog) (lists : Lists) where
    pub rows_stop : (log : List ℕ) (refusal : PageRefusal) (list : List ℕ) → list ≡ listed chains → IfDamaged refusal (λ file at. IsAtPage file at (RowsStop (whole_pages book) (other_pages book.count list) (emptied schema)))
        → IfDamaged refusal (FailsInRows (whole_pages book) log head chains schema lists)
    rows_stop log refusal list is = if_damaged refusal (λ file at. IsAtPage file at (RowsStop (whole_pages book) (other_pages book.count list) (emptied schema))) (FailsInRows (whole_pages book) log head chains schema lists)
        (λ file at there. inl (record {
          page = there.page;
          stops = subst (λ (n : ℕ). RowsStop (whole_pages book) (other_pages n (listed chains)) (emptied schema) there.page) (sym counted)
              (subst (λ (l : List ℕ). RowsStop (whole_pages book) (other_pages book.count l) (emptied schema) there.page) is there.stops);
          in_main = there.in_main;
          place = there.place;
        }))

    module _ (d : Directory) where
      pub held : (list : List ℕ) → list ≡ listed chains → (to : TakesTo book list schema book.count d) → IsHeld d book (owners_by chains) chains.free (def_at schema) to.rows
      held list is to = record {
        owned = owned.owned;
        holds = subst (λ (pages : Section). Holds d pages (def_at schema) to.rows) (λ i page. owned_rows book (owners_by chains) (listed chains) page refl owned.rows i)
            (subst (λ (l : List ℕ). Holds d (others_below book l book.count) (def_at schema) to.rows) is to.holds);
      }

      rows_of : (list : List ℕ) → list ≡ listed chains → (to : TakesTo book list schema book.count d) → HoldsRows (whole_pages book) head chains schema to.t
      rows_of list is to =
          subst (λ (n : ℕ). AddsPages (whole_pages book) (other_pages n (listed chains)) (emptied schema) to.t) (sym counted)
          (subst (λ (l : List ℕ). AddsPages (whole_pages book) (other_pages book.count l) (emptied schema) to.t) is to.adds)

      pub all_rows : (list : List ℕ) → list ≡ listed chains → (to : TakesTo book list schema book.count d) → CanUndo (state_of to.t lists) → HasRowsOf book head chains schema lists d
      all_rows list is to can = record { t = to.t; rows = rows_of list is to; tables = to.tables; is = to.is; map = to.rows; at = to.at; held = held list is to; can = can }

      pub undo_stop : (log : List ℕ) (refusal : PageRefusal) (list : List ℕ) → list ≡ listed chains → (to : TakesTo book list schema book.count d) → (CanUndo (state_of to.t lists) → ⊥) → (page : ℕ) → page ≡ head.rollback
          → IfDamaged refusal (λ file at. IsAtPage file at (λ here. here ≡ page)) → IfDamaged refusal (FailsInRows (whole_pages book) log head chains schema lists)
      undo_stop log refusal list is to not_undone page same = if_damaged refusal (λ file at. IsAtPage file at (λ here. here ≡ page)) (FailsInRows (whole_pages book) log head chains schema lists)
          (λ file at there. inr (to.t, rows_of list is to, inl (record { page = there.page; stops = (there.stops ∙ same, not_undone); in_main = there.in_main; place = there.place })))

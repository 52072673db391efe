-- A chain of all pages is one of the whole ones, and breaks there at the same page.
use Rattle.std.proofs.Common.{◌≡◌, ◌⊎◌, ⊎_elim, inl, inr, ℕ, ◌<◌, ◌==◌, ◌&&◌, Bool, true, false, List, [], ◌∷◌, ◌++◌, length, Option, Some, None, sym, ◌∙◌, ap, subst, refl, if◌then◌else◌}
use Rattle.std.specs.Prelude.{nat_eq, nat_lt}
use Rattle.std.specs.List.{list_any}
use Rattle.std.proofs.lemmas.Bool.{cases_Bool, lt-ltb, ltb-true, eqb-true}
use Rattle.wat_book.specs.Book.{Book, Section}
use Rattle.wat_book.specs.Chains.{IsLink, IsNoLink, IsChainPage, BeginsChain, all_pages, IsReadChain, BreaksAt}
use Rattle.wat_free_list.specs.Whole.{whole_pages}
use Rattle.wat_free_list.proofs.Going.{whole_is}

module _ (book : Book) where
  abbrev All : Section
  All = all_pages book

  abbrev Whole : Section
  Whole = whole_pages book

  link_below : (page next : ℕ) (part : List ℕ) → IsLink (All page) next part → (page < book.count) × IsChainPage (book.page page) next part
  link_below page next part link = by (nat_lt page book.count) refl link
    where
      by : (b : Bool) → nat_lt page book.count ≡ b → IsLink (if b then Some (book.page page) else None) next part → (page < book.count) × IsChainPage (book.page page) next part
      by true is there = (ltb-true page book.count is, there)
      by false is there = absurd there

  link_to : (page next : ℕ) (part : List ℕ) → IsLink (All page) next part → IsLink (Whole page) next part
  link_to page next part link =
      let at = link_below page next part link in
      subst (λ (o : Option (List ℕ)). IsLink o next part) (sym (whole_is book page at.0 at.1.whole)) at.1

  link_from : (page next : ℕ) (part : List ℕ) → IsLink (Whole page) next part → IsLink (All page) next part
  link_from page next part link = by (nat_lt page book.count) (length (book.page page) == 4096) refl link
    where
      by : (b c : Bool) → nat_lt page book.count ≡ b → IsLink (if b && c then Some (book.page page) else None) next part → IsLink (All page) next part
      by true true is there = subst (λ (b : Bool). IsLink (if b then Some (book.page page) else None) next part) (sym is) there
      by true false is there = absurd there
      by false c is there = absurd there

  begins_to : (first : ℕ) (list payload : List ℕ) (end : ℕ) → BeginsChain All first list payload end → BeginsChain Whole first list payload end
  begins_to first [] payload end chain = chain
  begins_to first (here ∷ rest) payload end chain =
      (chain.0, chain.1, chain.2, chain.3, chain.4, link_to here chain.2 chain.3 chain.5, chain.6, begins_to chain.2 rest chain.4 end chain.7)

  pub reads_whole : (met : List ℕ) (first : ℕ) (list payload : List ℕ) → IsReadChain All met first list payload → IsReadChain Whole met first list payload
  reads_whole met first list payload reads = record { chain = begins_to first list payload 0 reads.chain; once = reads.once }

  pub breaks_whole : (met : List ℕ) (first here : ℕ) → BreaksAt All met first here → BreaksAt Whole met first here
  breaks_whole met first here breaks = record {
    list = breaks.list;
    payload = breaks.payload;
    begins = begins_to first breaks.list breaks.payload here breaks.begins;
    once = breaks.once;
    some = breaks.some;
    broken = ⊎_elim
        (λ (twice : list_any (nat_eq here) (met ++ breaks.list) ≡ true). inl twice)
        (λ (none : IsNoLink (All here)). inr (λ next part link. none next part (link_from here next part link)))
        breaks.broken;
  }

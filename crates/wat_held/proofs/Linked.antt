-- Chains of pages that read as the files have them are chains of the files, and break where these do.
use Rattle.std.proofs.Common.{◌≡◌, ◌⊎◌, ⊎_elim, inl, inr, ℕ, ◌+◌, ◌*◌, ◌<◌, ◌≤◌, Bool, true, false, List, [], ◌∷◌, ◌++◌, length, take, drop, Option, Some, None, refl, sym, ◌∙◌, ap, subst, arith, if◌then◌else◌, length-drop}
use Rattle.std.specs.Prelude.{nat_eq, nat_lt, nat_le, unwrap_or}
use Rattle.std.specs.List.{list_any}
use Rattle.std.specs.Option.{option_or}
use Rattle.std.proofs.lemmas.Bool.{le-leb, lt-ltb, ltb-true}
use Rattle.std.proofs.lemmas.List.{length-take}
use Rattle.wat_disk.specs.Disk.{Image}
use Rattle.wat_restore.specs.Restored.{page_at, image_of, stored_page}
use Rattle.wat_book.specs.Book.{Book, Section}
use Rattle.wat_book.specs.Chains.{IsChainPage, IsLink, IsNoLink, BeginsChain, all_pages, IsReadChain, BreaksAt}
use Rattle.wat_files.specs.Pages.{page_in, page_of, first_pages}
use Rattle.wat_held.specs.Owning.{HasStored}

-- ---- a page that is whole is in the files

long_enough : (main : List ℕ) (page : ℕ) → length (page_at main page) ≡ 4096 → 4096 * page + 4096 ≤ length main
long_enough main page long = omega (arith, long, length-take 4096 (drop (4096 * page) main), length-drop (4096 * page) main)

whole_at : (main : List ℕ) (page : ℕ) (image : Option (List ℕ)) → length (unwrap_or image (page_at main page)) ≡ 4096 → option_or image (page_in main page) ≡ Some (unwrap_or image (page_at main page))
whole_at main page None long = ap (λ b. if b then Some (page_at main page) else None) (le-leb (4096 * page + 4096) (length main) (long_enough main page long))
whole_at main page (Some image) long = refl

stored_at : (main bytes : List ℕ) (page : ℕ) (image : Option (List ℕ)) → option_or image (page_in main page) ≡ Some bytes → unwrap_or image (page_at main page) ≡ bytes
stored_at main bytes page None e = by (nat_le (4096 * page + 4096) (length main)) e
  where
    by : (b : Bool) → (if b then Some (page_at main page) else None) ≡ Some bytes → page_at main page ≡ bytes
    by true there = cc
    by false there = absurd (let never : None ≡ Some bytes = there in cc)
stored_at main bytes page (Some image) e = cc

module _ (book : Book) (files : Image) (stored : HasStored book files) where
  abbrev Ours : Section
  Ours = all_pages book

  abbrev Theirs : Section
  Theirs = first_pages files book.count

  below_ours : (page next : ℕ) (part : List ℕ) → IsLink (Ours page) next part → (page < book.count) × IsChainPage (book.page page) next part
  below_ours page next part link = by (nat_lt page book.count) refl link
    where
      by : (b : Bool) → nat_lt page book.count ≡ b → IsLink (if b then Some (book.page page) else None) next part → (page < book.count) × IsChainPage (book.page page) next part
      by true is there = (ltb-true page book.count is, there)
      by false is there = absurd there

  ours_below : (page : ℕ) → page < book.count → Ours page ≡ Some (book.page page)
  ours_below page below = ap (λ b. if b then Some (book.page page) else None) (lt-ltb page book.count below)

  theirs_below : (page : ℕ) → page < book.count → Theirs page ≡ page_of files page
  theirs_below page below = ap (λ b. if b then page_of files page else None) (lt-ltb page book.count below)

  link_to : (page next : ℕ) (part : List ℕ) → IsLink (Ours page) next part → IsLink (Theirs page) next part
  link_to page next part link =
      let at = below_ours page next part link in
      let same : book.page page ≡ stored_page files page = stored page at.0 in
      let is : IsChainPage (stored_page files page) next part = subst (λ (bytes : List ℕ). IsChainPage bytes next part) same at.1 in
      subst (λ (o : Option (List ℕ)). IsLink o next part) (sym (theirs_below page at.0 ∙ whole_at (files 0) page (image_of files page) is.whole)) is

  link_from : (page next : ℕ) (part : List ℕ) → IsLink (Theirs page) next part → IsLink (Ours page) next part
  link_from page next part link = by (nat_lt page book.count) refl link
    where
      there : (o : Option (List ℕ)) → page < book.count → page_of files page ≡ o → IsLink o next part → IsLink (Ours page) next part
      there None below is none = absurd none
      there (Some bytes) below is page_is =
          let same : book.page page ≡ bytes = stored page below ∙ stored_at (files 0) bytes page (image_of files page) is in
          subst (λ (o : Option (List ℕ)). IsLink o next part) (sym (ours_below page below)) (subst (λ (b : List ℕ). IsChainPage b next part) (sym same) page_is)

      by : (b : Bool) → nat_lt page book.count ≡ b → IsLink (if b then page_of files page else None) next part → IsLink (Ours page) next part
      by true is found = there (page_of files page) (ltb-true page book.count is) refl found
      by false is found = absurd found

  begins_to : (first : ℕ) (list payload : List ℕ) (end : ℕ) → BeginsChain Ours first list payload end → BeginsChain Theirs first list payload end
  begins_to first [] payload end chain = chain
  begins_to first (here ∷ rest) payload end chain =
      (chain.0, chain.1, chain.2, chain.3, chain.4, link_to here chain.2 chain.3 chain.5, chain.6, begins_to chain.2 rest chain.4 end chain.7)

  pub reads_there : (met : List ℕ) (first : ℕ) (list payload : List ℕ) → IsReadChain Ours met first list payload → IsReadChain Theirs met first list payload
  reads_there met first list payload reads = record { chain = begins_to first list payload 0 reads.chain; once = reads.once }

  pub breaks_there : (met : List ℕ) (first here : ℕ) → BreaksAt Ours met first here → BreaksAt Theirs met first here
  breaks_there met first here breaks = record {
    list = breaks.list;
    payload = breaks.payload;
    begins = begins_to first breaks.list breaks.payload here breaks.begins;
    once = breaks.once;
    some = breaks.some;
    broken = ⊎_elim
        (λ (twice : list_any (nat_eq here) (met ++ breaks.list) ≡ true). inl twice)
        (λ (none : IsNoLink (Ours here)). inr (λ next part link. none next part (link_from here next part link)))
        breaks.broken;
  }

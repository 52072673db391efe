-- Which pages are in files: all that a header counts, where they stand for a state.
use Rattle.std.proofs.Common.{◌≡◌, ◌≢◌, ◌⊎◌, ⊎_elim, inl, inr, ℕ, zero, suc, ◌+◌, ◌*◌, ◌-◌, ◌<◌, ◌≤◌, Bool, true, false, ◌||◌, not, List, [], ◌∷◌, ◌++◌, Option, Some, None, refl, sym, ◌∙◌, ap, subst, arith, if◌then◌else◌}
use Rattle.std.specs.Prelude.{nat_eq, nat_lt, IsSome}
use Rattle.std.specs.List.{list_any, filter, range_with_len}
use Rattle.std.proofs.lemmas.Bool.{cases_Bool, cases_eq, lt-ltb, ltb-true, eqb-true}
use Rattle.wat_disk.specs.Disk.{Image}
use Rattle.wat_restore.specs.Head.{Head, IsHead}
use Rattle.wat_restore.specs.Restored.{Checkpoint, StandsIn, IsCovered, stored_page}
use Rattle.wat_restore.proofs.Heads.{stands_is}
use Rattle.wat_book.specs.Book.{Section, IsFreePage, IsFreeChain}
use Rattle.wat_book.proofs.Chaining.{chain_there}
use Rattle.wat_schema.specs.Tables.{Tables}
use Rattle.wat_replay.specs.State.{State}
use Rattle.wat_files.specs.Pages.{page_of, first_pages}
use Rattle.wat_files.specs.Chains.{Chains, in_chains, listed}
use Rattle.wat_files.specs.Rows.{Placed, HasRows, emptied, AddsPages, pages_but, other_pages}
use Rattle.wat_files.specs.Formed.{HasHeader, Stands}
use Rattle.wat_files.proofs.Holding.{page_stands, stands_page}
use Rattle.wat_keeping.specs.Durable.{saved_pages}

-- ---- the pages of a checkpoint and those of files

abbrev below_only : ℕ → Section → Section
below_only n p page = if nat_lt page n then p page else None

same_section : (n : ℕ) (p q : Section) → ((page : ℕ) → page < n → p page ≡ q page) → below_only n p ≡ below_only n q
same_section n p q same = λ i page. each page i
  where
    each : (page : ℕ) → below_only n p page ≡ below_only n q page
    each page = elim (cases_Bool (nat_lt page n)) [
      | inl is ↦ ap (λ b. if b then p page else None) is ∙ same page (ltb-true page n is) ∙ sym (ap (λ b. if b then q page else None) is)
      | inr is ↦ ap (λ b. if b then p page else None) is ∙ sym (ap (λ b. if b then q page else None) is)
    ]

pub covered_pages : (saved : Checkpoint) (files : Image) → IsCovered saved files → first_pages files saved.count ≡ saved_pages saved
covered_pages saved files covered =
    same_section saved.count (page_of files) (λ (page : ℕ). Some (saved.page page)) (λ page below. page_stands files page (saved.page page) (covered.pages page below))

-- ---- every page is there

some_or : (b c : Bool) → (b || c) ≡ true → (b ≡ true) ⊎ (c ≡ true)
some_or true c e = inl refl
some_or false c e = inr e

pub in_either : (page : ℕ) (xs ys : List ℕ) → list_any (nat_eq page) (xs ++ ys) ≡ true → (list_any (nat_eq page) xs ≡ true) ⊎ (list_any (nat_eq page) ys ≡ true)
in_either page [] ys e = inr e
in_either page (x ∷ xs) ys e = ⊎_elim
    (λ (here : nat_eq page x ≡ true). inl (ap (λ b. b || list_any (nat_eq page) xs) here))
    (λ (later : list_any (nat_eq page) (xs ++ ys) ≡ true). ⊎_elim
    (λ (left : list_any (nat_eq page) xs ≡ true). inl (more (nat_eq page x) (list_any (nat_eq page) xs) left))
    (λ (right : list_any (nat_eq page) ys ≡ true). inr right)
    (in_either page xs ys later))
    (some_or (nat_eq page x) (list_any (nat_eq page) (xs ++ ys)) e)
  where
    more : (b c : Bool) → c ≡ true → (b || c) ≡ true
    more true c e = refl
    more false c e = e

free_some : (o : Option (List ℕ)) (next : ℕ) → IsFreePage o next → IsSome o
free_some None next free = absurd free
free_some (Some bytes) next free = refl

free_there : (pages : Section) (first : ℕ) (list : List ℕ) → IsFreeChain pages first list → (page : ℕ) → list_any (nat_eq page) list ≡ true → IsSome (pages page)
free_there pages first [] chain page among = cc
free_there pages first (here ∷ rest) chain page among = ⊎_elim
    (λ (is : nat_eq page here ≡ true). subst (λ (p : ℕ). IsSome (pages p)) (sym (same_number page here is)) (free_some (pages here) chain.2 chain.3))
    (λ (later : list_any (nat_eq page) rest ≡ true). free_there pages chain.2 rest chain.4 page later)
    (some_or (nat_eq page here) (list_any (nat_eq page) rest) among)
  where
    same_number : (a b : ℕ) → nat_eq a b ≡ true → a ≡ b
    same_number a b e = eqb-true a b e

rows_some : (o : Option (List ℕ)) (rows : List Placed) → HasRows o rows → IsSome o
rows_some None rows has = absurd has
rows_some (Some bytes) rows has = refl

-- one page of the walk, and those behind it
rows_here : (pages : Section) (from page : ℕ) (rest : List ℕ) (t u : Tables) (b : Bool) → (page ≡ from → b ≡ false) → from ≤ page → AddsPages pages (if not b then from ∷ rest else rest) t u
    → ((next : Tables) → AddsPages pages rest next u → from + 1 ≤ page → IsSome (pages page)) → IsSome (pages page)
rows_here pages from page rest t u true other low adds later = ⊎_elim
    (λ (here : page ≡ from). absurd (let no : true ≡ false = other here in cc))
    (λ (past : page ≢ from). later t adds (omega (arith, low, past)))
    (cases_eq page from)
rows_here pages from page rest t u false other low adds later = ⊎_elim
    (λ (here : page ≡ from). subst (λ (p : ℕ). IsSome (pages p)) (sym here) (rows_some (pages from) adds.1.rows adds.1.has))
    (λ (past : page ≢ from). later adds.0 adds.2 (omega (arith, low, past)))
    (cases_eq page from)

rows_there : (pages : Section) (among : List ℕ) (from n : ℕ) (t u : Tables) → AddsPages pages (pages_but among from n) t u → (page : ℕ) → from ≤ page → page < from + n
    → list_any (nat_eq page) among ≡ false → IsSome (pages page)
rows_there pages among from zero t u adds page low high other = absurd (omega (arith, low, high))
rows_there pages among from (suc n) t u adds page low high other =
    rows_here pages from page (pages_but among (from + 1) n) t u (list_any (nat_eq from) among) (λ here. ap (λ (p : ℕ). list_any (nat_eq p) among) (sym here) ∙ other) low adds
    (λ next more past. rows_there pages among (from + 1) n next u more page past (omega (arith, high)) other)

-- where pages stand for a state, each page that the header counts is there
pub all_there : (pages : Section) (head : Head) (s : State) → Stands pages head s → (page : ℕ) → 0 < page → page < head.count → IsSome (pages page)
all_there pages head s stands page some below = elim (cases_Bool (list_any (nat_eq page) (listed stands.chains))) [
  | inl among ↦ ⊎_elim
      (λ (chained : list_any (nat_eq page) (in_chains stands.chains) ≡ true). ⊎_elim
      (λ (first : list_any (nat_eq page) stands.chains.catalog ≡ true). (chain_there pages head.catalog 0 stands.chains.catalog stands.chains.schema stands.has.catalog.chain page first).0)
      (λ (second : list_any (nat_eq page) stands.chains.rollback ≡ true). (chain_there pages head.rollback 0 stands.chains.rollback stands.chains.changes stands.has.rollback.chain page second).0)
      (in_either page stands.chains.catalog stands.chains.rollback chained))
      (λ (free : list_any (nat_eq page) stands.chains.free ≡ true). free_there pages head.free stands.chains.free stands.has.free.chain page free)
      (in_either page (in_chains stands.chains) stands.chains.free among)
  | inr other ↦ rows_there pages (listed stands.chains) 1 (head.count - 1) (emptied stands.schema) s.tables stands.rows page some (omega (arith, some, below)) other
]

-- ---- the checkpoint that files are of

abbrev pub saved_by : Image → ℕ → Checkpoint
saved_by files count = record { count = count; page = stored_page files }

is_there : (files : Image) (page : ℕ) (o : Option (List ℕ)) → page_of files page ≡ o → IsSome o → StandsIn files page (stored_page files page)
is_there files page None e some = absurd (let no : false ≡ true = some in cc)
is_there files page (Some bytes) e some = let stands = stands_page files page bytes e in subst (StandsIn files page) (sym (stands_is files page bytes stands)) stands

module _ (files : Image) (head : Head) (s : State) (header : HasHeader files head) (stands : Stands (first_pages files head.count) head s) where
  pub each_there : (page : ℕ) → page < head.count → StandsIn files page (stored_page files page)
  each_there page below = ⊎_elim
      (λ (first : page ≡ 0). subst (λ (p : ℕ). StandsIn files p (stored_page files p)) (sym first)
      (subst (StandsIn files 0) (sym (stands_is files 0 header.is.page header.is.stands)) header.is.stands))
      (λ (later : page ≢ 0).
      let some = all_there (first_pages files head.count) head s stands page (omega (arith, later)) below in
      is_there files page (page_of files page) refl (subst IsSome (ap (λ b. if b then page_of files page else None) (lt-ltb page head.count below)) some))
      (cases_eq page 0)

  pub covered_first : IsCovered (saved_by files head.count) files
  covered_first = record { log = header.log; pages = each_there }

-- the first page of that checkpoint is the header's
pub header_first : (files : Image) (head : Head) → HasHeader files head → IsHead (stored_page files 0) head
header_first files head header = subst (λ (page : List ℕ). IsHead page head) (sym (stands_is files 0 header.is.page header.is.stands)) header.is.is

-- Where the header leads to chains, each page has an owner.
use Rattle.std.proofs.Common.{◌≡◌, ◌≢◌, ◌⊎◌, ⊎_elim, inl, inr, ℕ, ◌+◌, ◌<◌, ◌≤◌, ◌==◌, ◌||◌, Bool, true, false, List, [], ◌∷◌, ◌++◌, Option, Some, None, refl, sym, ◌∙◌, ap, subst, arith, if◌then◌else◌}
use Rattle.std.specs.Prelude.{nat_eq, nat_lt, IsSome, ◌↔◌}
use Rattle.std.specs.List.{list_any, AllByRecursion, IsDistinct}
use Rattle.std.proofs.lemmas.Bool.{cases_Bool, cases_eq, eq-eqb, eqb-true, ne_eqb, ltb-true}
use Rattle.std.proofs.lemmas.Map.Keys.{IsDistinct-head, IsDistinct-tail}
use Rattle.wat_restore.specs.Head.{Head}
use Rattle.wat_book.specs.Book.{Book, Owners, nobody, header, Section, section, IsFreePage, IsFreeChain, IsOwned}
use Rattle.wat_book.specs.Chains.{IsChain, all_pages, HoldsPayload}
use Rattle.wat_book.proofs.Chaining.{in_all, chain_there, chain_kept}
use Rattle.wat_book.proofs.Working.{section_at}
use Rattle.wat_rows.specs.Pages.{of_rows}
use Rattle.wat_files.specs.Chains.{Chains, in_chains, listed, HasChains}
use Rattle.wat_keeping.proofs.There.{in_either}
use Rattle.wat_held.specs.Held.{in_catalog, in_rollback, AreKnown}
use Rattle.wat_held.specs.Owning.{owners_by, AreOwned}
use Rattle.wat_held.proofs.Owned.{some_owned, in_left, in_right}

-- ---- lists without a page twice

none_of : (x : ℕ) (ys : List ℕ) → AllByRecursion (λ (y : ℕ). nat_eq x y ≡ false) ys → list_any (nat_eq x) ys ≡ false
none_of x [] all = refl
none_of x (y ∷ ys) all = ap (λ b. b || list_any (nat_eq x) ys) all.0 ∙ none_of x ys all.1

all_right : (P : ℕ → Type 0) (xs ys : List ℕ) → AllByRecursion P (xs ++ ys) → AllByRecursion P ys
all_right P [] ys all = all
all_right P (x ∷ xs) ys all = all_right P xs ys all.1

-- a page of the second list isn't in the first
not_first : (page : ℕ) (xs ys : List ℕ) → IsDistinct nat_eq (xs ++ ys) → list_any (nat_eq page) ys ≡ true → list_any (nat_eq page) xs ≡ false
not_first page [] ys once among = refl
not_first page (x ∷ xs) ys once among = ⊎_elim
    (λ (same : page ≡ x).
    let apart : list_any (nat_eq x) ys ≡ false = none_of x ys (all_right (λ (y : ℕ). nat_eq x y ≡ false) xs ys (IsDistinct-head nat_eq x (xs ++ ys) once)) in
    absurd (let never : true ≡ false = sym among ∙ ap (λ (p : ℕ). list_any (nat_eq p) ys) same ∙ apart in cc))
    (λ (other : page ≢ x). ap (λ b. b || list_any (nat_eq page) xs) (ne_eqb page x other) ∙ not_first page xs ys (IsDistinct-tail nat_eq x (xs ++ ys) once) among)
    (cases_eq page x)

neither : (page : ℕ) (xs ys : List ℕ) → list_any (nat_eq page) (xs ++ ys) ≡ false → (list_any (nat_eq page) xs ≡ false) × (list_any (nat_eq page) ys ≡ false)
neither page xs ys none = (no_left (cases_Bool (list_any (nat_eq page) xs)), no_right (cases_Bool (list_any (nat_eq page) ys)))
  where
    no_left : (list_any (nat_eq page) xs ≡ true) ⊎ (list_any (nat_eq page) xs ≡ false) → list_any (nat_eq page) xs ≡ false
    no_left (inl there) = absurd (let never : true ≡ false = sym (in_left page xs ys there) ∙ none in cc)
    no_left (inr is) = is

    no_right : (list_any (nat_eq page) ys ≡ true) ⊎ (list_any (nat_eq page) ys ≡ false) → list_any (nat_eq page) ys ≡ false
    no_right (inl there) = absurd (let never : true ≡ false = sym (in_right page xs ys there) ∙ none in cc)
    no_right (inr is) = is

-- ---- the owner by the four tests

abbrev owner_if : Bool → Bool → Bool → Bool → ℕ
owner_if first catalog rollback free = if first then header else (if catalog then in_catalog else (if rollback then in_rollback else (if free then nobody else of_rows)))

is_catalog : (a b c d : Bool) → owner_if a b c d ≡ in_catalog → b ≡ true
is_catalog true b c d e = absurd (omega (arith, e))
is_catalog false true c d e = refl
is_catalog false false true d e = absurd (omega (arith, e))
is_catalog false false false true e = absurd (omega (arith, e))
is_catalog false false false false e = absurd (omega (arith, e))

is_rollback : (a b c d : Bool) → owner_if a b c d ≡ in_rollback → c ≡ true
is_rollback true b c d e = absurd (omega (arith, e))
is_rollback false true c d e = absurd (omega (arith, e))
is_rollback false false true d e = refl
is_rollback false false false true e = absurd (omega (arith, e))
is_rollback false false false false e = absurd (omega (arith, e))

is_free : (a b c d : Bool) → owner_if a b c d ≡ nobody → d ≡ true
is_free true b c d e = absurd (omega (arith, e))
is_free false true c d e = absurd (omega (arith, e))
is_free false false true d e = absurd (omega (arith, e))
is_free false false false true e = refl
is_free false false false false e = absurd (omega (arith, e))

is_header : (a b c d : Bool) → owner_if a b c d ≡ header → a ≡ true
is_header true b c d e = refl
is_header false true c d e = absurd (omega (arith, e))
is_header false false true d e = absurd (omega (arith, e))
is_header false false false true e = absurd (omega (arith, e))
is_header false false false false e = absurd (omega (arith, e))

is_rows : (a b c d : Bool) → owner_if a b c d ≡ of_rows → (b ≡ false) × (c ≡ false) × (d ≡ false)
is_rows true b c d e = absurd (omega (arith, e))
is_rows false true c d e = absurd (omega (arith, e))
is_rows false false true d e = absurd (omega (arith, e))
is_rows false false false true e = absurd (omega (arith, e))
is_rows false false false false e = (refl, refl, refl)

few_owners : (a b c d : Bool) → owner_if a b c d < 5
few_owners true b c d = omega arith
few_owners false true c d = omega arith
few_owners false false true d = omega arith
few_owners false false false true = omega arith
few_owners false false false false = omega arith

-- ---- the free list of an owner

free_kept : (p q : Section) (first : ℕ) (list : List ℕ) → ((page : ℕ) → list_any (nat_eq page) list ≡ true → q page ≡ p page) → IsFreeChain p first list → IsFreeChain q first list
free_kept p q first [] same chain = chain
free_kept p q first (here ∷ rest) same chain = (
  chain.0,
  chain.1,
  chain.2,
  subst (λ (o : Option (List ℕ)). IsFreePage o chain.2) (sym (same here (in_left here (here ∷ []) rest (ap (λ b. b || false) (eq-eqb here here refl))))) chain.3,
  free_kept p q chain.2 rest (λ page among. same page (in_right page (here ∷ []) rest among)) chain.4,
)

free_some : (o : Option (List ℕ)) (next : ℕ) → IsFreePage o next → IsSome o
free_some None next free = absurd free
free_some (Some bytes) next free = refl

free_there : (pages : Section) (first : ℕ) (list : List ℕ) → IsFreeChain pages first list → (page : ℕ) → list_any (nat_eq page) list ≡ true → IsSome (pages page) × (0 < page)
free_there pages first [] chain page among = absurd (let never : false ≡ true = among in cc)
free_there pages first (here ∷ rest) chain page among = ⊎_elim
    (λ (first_one : list_any (nat_eq page) (here ∷ []) ≡ true). subst (λ (p : ℕ). IsSome (pages p) × (0 < p)) (sym (only page here first_one)) (free_some (pages here) chain.2 chain.3, chain.1))
    (λ (later : list_any (nat_eq page) rest ≡ true). free_there pages chain.2 rest chain.4 page later)
    (in_either page (here ∷ []) rest among)
  where
    one_of : (b : Bool) → (b || false) ≡ true → b ≡ true
    one_of true e = refl
    one_of false e = e

    only : (p h : ℕ) → list_any (nat_eq p) (h ∷ []) ≡ true → p ≡ h
    only p h e = eqb-true p h (one_of (nat_eq p h) e)

-- ---- the owners

some_in_all : (book : Book) (page : ℕ) → IsSome (all_pages book page) → page < book.count
some_in_all book page some = by (nat_lt page book.count) refl some
  where
    by : (b : Bool) → nat_lt page book.count ≡ b → IsSome (if b then Some (book.page page) else None) → page < book.count
    by true is there = ltb-true page book.count is
    by false is there = absurd (let never : false ≡ true = there in cc)

module _ (book : Book) (head : Head) (chains : Chains) (some : 0 < book.count) (has : HasChains (all_pages book) head chains) (first_free : head.free ≡ book.first_free) where
  abbrev owners : Owners
  owners = owners_by chains

  abbrev In : List ℕ → ℕ → Type 0
  In list page = list_any (nat_eq page) list ≡ true

  in_catalog_there : (page : ℕ) → In chains.catalog page → IsSome (all_pages book page) × (0 < page)
  in_catalog_there page among = chain_there (all_pages book) head.catalog 0 chains.catalog chains.schema has.catalog.chain page among

  in_rollback_there : (page : ℕ) → In chains.rollback page → IsSome (all_pages book page) × (0 < page)
  in_rollback_there page among = chain_there (all_pages book) head.rollback 0 chains.rollback chains.changes has.rollback.chain page among

  in_free_there : (page : ℕ) → In chains.free page → IsSome (all_pages book page) × (0 < page)
  in_free_there page among = free_there (all_pages book) head.free chains.free has.free.chain page among

  owner_at : (page : ℕ) (a b c d : Bool) → (page == 0) ≡ a → list_any (nat_eq page) chains.catalog ≡ b → list_any (nat_eq page) chains.rollback ≡ c → list_any (nat_eq page) chains.free ≡ d → owners page ≡ owner_if a b c d
  owner_at page a b c d x y z w = λ i. owner_if (x i) (y i) (z i) (w i)

  not_zero : (page : ℕ) → 0 < page → (page == 0) ≡ false
  not_zero page more = ne_eqb page 0 (λ e. omega (arith, e, more))

  of_catalog : (page : ℕ) → In chains.catalog page → owners page ≡ in_catalog
  of_catalog page among =
      owner_at page false true (list_any (nat_eq page) chains.rollback) (list_any (nat_eq page) chains.free) (not_zero page (in_catalog_there page among).1) among refl refl

  of_rollback : (page : ℕ) → In chains.rollback page → owners page ≡ in_rollback
  of_rollback page among =
      owner_at page false false true (list_any (nat_eq page) chains.free) (not_zero page (in_rollback_there page among).1) (not_first page chains.catalog chains.rollback has.rollback.once among) among refl

  of_free : (page : ℕ) → In chains.free page → owners page ≡ nobody
  of_free page among =
      let none = neither page chains.catalog chains.rollback (not_first page (in_chains chains) chains.free has.free.once among) in
      owner_at page false false false true (not_zero page (in_free_there page among).1) none.0 none.1 among

  same_page : (who page : ℕ) → IsSome (all_pages book page) → owners page ≡ who → section book owners who page ≡ all_pages book page
  same_page who page there is = let below = some_in_all book page there in section_at book owners who page below is ∙ sym (in_all book page below)

  holds_catalog : HoldsPayload (section book owners in_catalog) head.catalog chains.schema
  holds_catalog = record {
    list = chains.catalog;
    chain = chain_kept (all_pages book) (section book owners in_catalog) head.catalog 0 chains.catalog chains.schema
        (λ page among. same_page in_catalog page (in_catalog_there page among).0 (of_catalog page among)) has.catalog.chain;
    all = λ page there.
        is_catalog (page == 0) (list_any (nat_eq page) chains.catalog) (list_any (nat_eq page) chains.rollback) (list_any (nat_eq page) chains.free) (some_owned book owners in_catalog page there).1;
  }

  holds_rollback : HoldsPayload (section book owners in_rollback) head.rollback chains.changes
  holds_rollback = record {
    list = chains.rollback;
    chain = chain_kept (all_pages book) (section book owners in_rollback) head.rollback 0 chains.rollback chains.changes
        (λ page among. same_page in_rollback page (in_rollback_there page among).0 (of_rollback page among)) has.rollback.chain;
    all = λ page there.
        is_rollback (page == 0) (list_any (nat_eq page) chains.catalog) (list_any (nat_eq page) chains.rollback) (list_any (nat_eq page) chains.free) (some_owned book owners in_rollback page there).1;
  }

  free_chain : IsFreeChain (section book owners nobody) book.first_free chains.free
  free_chain = subst (λ (n : ℕ). IsFreeChain (section book owners nobody) n chains.free) first_free
      (free_kept (all_pages book) (section book owners nobody) head.free chains.free (λ page among. same_page nobody page (in_free_there page among).0 (of_free page among)) has.free.chain)

  is_owned : IsOwned book owners chains.free
  is_owned = record {
    some = some;
    first = refl;
    unused = record {
      chain = free_chain;
      all = λ page below is. is_free (page == 0) (list_any (nat_eq page) chains.catalog) (list_any (nat_eq page) chains.rollback) (list_any (nat_eq page) chains.free) is;
    };
  }

  are_known : AreKnown book.count owners
  are_known page below = (
    few_owners (page == 0) (list_any (nat_eq page) chains.catalog) (list_any (nat_eq page) chains.rollback) (list_any (nat_eq page) chains.free),
    λ is. eqb-true page 0 (is_header (page == 0) (list_any (nat_eq page) chains.catalog) (list_any (nat_eq page) chains.rollback) (list_any (nat_eq page) chains.free) is),
  )

  -- the pages of rows are those that no list has
  other_false : (page : ℕ) → list_any (nat_eq page) (in_chains chains) ≡ false → list_any (nat_eq page) chains.free ≡ false → list_any (nat_eq page) (listed chains) ≡ false
  other_false page x y = elim (cases_Bool (list_any (nat_eq page) (listed chains))) [
    | inr none ↦ none
    | inl there ↦ absurd (⊎_elim
        (λ (left : list_any (nat_eq page) (in_chains chains) ≡ true). let never : true ≡ false = sym left ∙ x in absurd (let f : true ≡ false = never in cc))
        (λ (right : list_any (nat_eq page) chains.free ≡ true). let never : true ≡ false = sym right ∙ y in absurd (let f : true ≡ false = never in cc))
        (in_either page (in_chains chains) chains.free there))
  ]

  none_in_chains : (page : ℕ) → list_any (nat_eq page) chains.catalog ≡ false → list_any (nat_eq page) chains.rollback ≡ false → list_any (nat_eq page) (in_chains chains) ≡ false
  none_in_chains page x y = elim (cases_Bool (list_any (nat_eq page) (in_chains chains))) [
    | inr none ↦ none
    | inl there ↦ absurd (⊎_elim
        (λ (left : list_any (nat_eq page) chains.catalog ≡ true). let never : true ≡ false = sym left ∙ x in absurd (let f : true ≡ false = never in cc))
        (λ (right : list_any (nat_eq page) chains.rollback ≡ true). let never : true ≡ false = sym right ∙ y in absurd (let f : true ≡ false = never in cc))
        (in_either page chains.catalog chains.rollback there))
  ]

  rows_to : (page : ℕ) → owners page ≡ of_rows → list_any (nat_eq page) (listed chains) ≡ false
  rows_to page is =
      let none = is_rows (page == 0) (list_any (nat_eq page) chains.catalog) (list_any (nat_eq page) chains.rollback) (list_any (nat_eq page) chains.free) is in
      other_false page (none_in_chains page none.0 none.1) none.2

  rows_from : (page : ℕ) → 0 < page → list_any (nat_eq page) (listed chains) ≡ false → owners page ≡ of_rows
  rows_from page more none =
      let apart = neither page (in_chains chains) chains.free none in
      let chained = neither page chains.catalog chains.rollback apart.0 in
      owner_at page false false false false (not_zero page more) chained.0 chained.1 apart.1

  pub are_owned : AreOwned book head chains
  are_owned = record { owned = is_owned; known = are_known; catalog = holds_catalog; rollback = holds_rollback; rows = λ page more. (rows_to page, rows_from page more) }

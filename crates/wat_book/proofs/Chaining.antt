-- Chains of pages: each page tells one next page and one part, so one chain begins at a page, and no page comes twice in it.
use Rattle.std.proofs.Common.{◌≡◌, inl, inr, ⊎_elim, ℕ, ◌<◌, ◌^◌, ◌==◌, ◌&&◌, ◌||◌, Bool, true, false, if◌then◌else◌, List, [], ◌∷◌, ◌++◌, length, take, drop, Option, Some, None, refl, sym, ap, ap₂, ◌∙◌, subst, arith}
use Rattle.std.specs.Prelude.{nat_eq, nat_lt, IsSome}
use Rattle.std.specs.List.{list_any, AllByRecursion, IsDistinct}
use Rattle.std.specs.Int.{w16, w32, from_be_bytes}
use Rattle.std.proofs.lemmas.Bool.{cases_Bool, eq-eqb, eqb-true, lt-ltb, ltb-true, or_left, or_right}
use Rattle.std.proofs.lemmas.List.{append-nil}
use Rattle.std.proofs.lemmas.Map.Keys.{IsDistinct-head, IsDistinct-tail, IsDistinct-cons}
use Rattle.std.proofs.lemmas.Nat.{from_be_bytes-to_be_bytes_2, from_be_bytes-to_be_bytes_4}
use Rattle.wat_book.specs.Book.{Book, Owners, Section, section}
use Rattle.wat_book.specs.Chains.{chain_front, IsChainPage, IsLink, IsNoLink, BeginsChain, IsChain, all_pages, BreaksAt}

pub none_twice : IsDistinct nat_eq []
unfolding IsDistinct
none_twice = tt

-- ---- what a page tells

pub next_told : (page : List ℕ) (next count : ℕ) → next < 2 ^ 32 → take 16 page ≡ chain_front next count → from_be_bytes w32 (take 4 (drop 4 (take 16 page))) ≡ next
next_told page next count fits front = ap (λ l. from_be_bytes w32 (take 4 (drop 4 l))) front ∙ from_be_bytes-to_be_bytes_4 next fits

pub count_told : (page : List ℕ) (next count : ℕ) → count < 2 ^ 16 → take 16 page ≡ chain_front next count → from_be_bytes w16 (take 2 (drop 8 (take 16 page))) ≡ count
count_told page next count fits front = ap (λ l. from_be_bytes w16 (take 2 (drop 8 l))) front ∙ from_be_bytes-to_be_bytes_2 count fits

pub one_page : (page : List ℕ) (a b : ℕ) (x y : List ℕ) → IsChainPage page a x → IsChainPage page b y → (a ≡ b) × (x ≡ y)
one_page page a b x y one two =
    let counts : length x ≡ length y = sym (count_told page a (length x) (omega (arith, one.short)) one.front) ∙ count_told page b (length y) (omega (arith, two.short)) two.front in
    (sym (next_told page a (length x) one.number one.front) ∙ next_told page b (length y) two.number two.front, sym one.payload ∙ ap (λ n. take n (drop 16 page)) counts ∙ two.payload)

pub one_link : (o : Option (List ℕ)) (a b : ℕ) (x y : List ℕ) → IsLink o a x → IsLink o b y → (a ≡ b) × (x ≡ y)
one_link None a b x y one two = absurd one
one_link (Some page) a b x y one two = one_page page a b x y one two

link_some : (o : Option (List ℕ)) (next : ℕ) (part : List ℕ) → IsLink o next part → IsSome o
link_some None next part link = absurd link
link_some (Some page) next part link = refl

-- ---- a chain, and what begins it

-- What is left of a chain behind its first pages.
pub record IsRest (pages : Section) (here : ℕ) (list payload path so_far : List ℕ) : Type 0 where
  pub rest : List ℕ
  pub others : List ℕ
  pub list_is : list ≡ path ++ rest
  pub payload_is : payload ≡ so_far ++ others
  pub chain : IsChain pages here rest others

append_assoc_at : (a b c : List ℕ) → (a ++ b) ++ c ≡ a ++ (b ++ c)
append_assoc_at [] b c = refl
append_assoc_at (x ∷ a) b c = ap (λ l. x ∷ l) (append_assoc_at a b c)

pub rest_of : (pages : Section) (first here : ℕ) (path so_far list payload : List ℕ) → BeginsChain pages first path so_far here → IsChain pages first list payload → IsRest pages here list payload path so_far
rest_of pages first here [] so_far list payload begins chain = record {
  rest = list;
  others = payload;
  list_is = refl;
  payload_is = ap (λ l. l ++ payload) (sym begins.1);
  chain = subst (λ f. IsChain pages f list payload) begins.0 chain;
}
rest_of pages first here (q ∷ path) so_far [] payload begins chain = absurd (omega (arith, begins.0, begins.1, chain.0))
rest_of pages first here (q ∷ path) so_far (l ∷ list) payload begins chain =
    let same : q ≡ l = sym begins.0 ∙ chain.0 in
    let told = one_link (pages l) begins.2 chain.2 begins.3 chain.3 (subst (λ p. IsLink (pages p) begins.2 begins.3) same begins.5) chain.5 in
    let more = rest_of pages chain.2 here path begins.4 list chain.4 (subst (λ n. BeginsChain pages n path begins.4 here) told.0 begins.7) chain.7 in
    record {
      rest = more.rest;
      others = more.others;
      list_is = ap₂ (λ p ps. p ∷ ps) (sym same) more.list_is;
      payload_is =
          chain.6 ∙ ap₂ (λ a b. a ++ b) (sym told.1) more.payload_is ∙ sym (append_assoc_at begins.3 begins.4 more.others) ∙ ap (λ l. l ++ more.others) (sym begins.6);
      chain = more.chain;
    }

-- a chain from 0 on is empty
pub none_from_zero : (pages : Section) (list payload : List ℕ) → IsChain pages 0 list payload → (list ≡ []) × (payload ≡ [])
none_from_zero pages [] payload chain = (refl, chain.1)
none_from_zero pages (here ∷ list) payload chain = absurd (omega (arith, chain.0, chain.1))

-- one chain begins at a page
pub one_chain : (pages : Section) (first : ℕ) (a b x y : List ℕ) → IsChain pages first a x → IsChain pages first b y → (a ≡ b) × (x ≡ y)
one_chain pages first a b x y one two =
    let r = rest_of pages first 0 a x b y one two in
    let none = none_from_zero pages r.rest r.others r.chain in
    (sym (r.list_is ∙ ap (λ l. a ++ l) none.0 ∙ append-nil a), sym (r.payload_is ∙ ap (λ l. x ++ l) none.1 ∙ append-nil x))

-- ---- no page comes twice

-- what stands in a chain begins one that is no longer
record Within (pages : Section) (here : ℕ) (list : List ℕ) : Type 0 where
  rest : List ℕ
  payload : List ℕ
  chain : IsChain pages here (here ∷ rest) payload
  shorter : length rest < length list

within : (pages : Section) (first here : ℕ) (list payload : List ℕ) → IsChain pages first list payload → list_any (nat_eq here) list ≡ true → Within pages here list
within pages first here [] payload chain there = absurd (let no : false ≡ true = there in cc)
within pages first here (x ∷ xs) payload chain there = elim (cases_Bool (nat_eq here x)) [
  | inl is ↦
      let same : here ≡ x = eqb-true here x is in
      record {
        rest = xs;
        payload = payload;
        chain = subst (λ z. IsChain pages z (z ∷ xs) payload) (sym same) (refl, chain.1, chain.2, chain.3, chain.4, chain.5, chain.6, chain.7);
        shorter = omega arith;
      }
  | inr other ↦
      let w = within pages chain.2 here xs chain.4 chain.7 (let r : (nat_eq here x || list_any (nat_eq here) xs) ≡ true = there in rw other at r) in
      record { rest = w.rest; payload = w.payload; chain = w.chain; shorter = omega (arith, w.shorter) }
]

pub once_here : (pages : Section) (here : ℕ) (rest payload : List ℕ) → IsChain pages here (here ∷ rest) payload → list_any (nat_eq here) rest ≡ false
once_here pages here rest payload chain = elim (cases_Bool (list_any (nat_eq here) rest)) [
  | inr none ↦ none
  | inl there ↦
      let w = within pages chain.2 here rest chain.4 chain.7 there in
      let same : here ∷ w.rest ≡ here ∷ rest = (one_chain pages here (here ∷ w.rest) (here ∷ rest) w.payload payload w.chain chain).0 in
      let lengths : length (here ∷ w.rest) ≡ length (here ∷ rest) = ap length same in
      absurd (omega (arith, lengths, w.shorter))
]

pub both_false : (b c : Bool) → (b || c) ≡ false → (b ≡ false) × (c ≡ false)
both_false true c is = absurd (let no : true ≡ false = is in cc)
both_false false c is = (refl, is)

pub apart_from : (here : ℕ) (list : List ℕ) → list_any (nat_eq here) list ≡ false → AllByRecursion (λ (y : ℕ). nat_eq here y ≡ false) list
apart_from here [] none = tt
apart_from here (x ∷ xs) none = let parts = both_false (nat_eq here x) (list_any (nat_eq here) xs) none in (parts.0, apart_from here xs parts.1)

pub chain_distinct : (pages : Section) (first : ℕ) (list payload : List ℕ) → IsChain pages first list payload → IsDistinct nat_eq list
chain_distinct pages first [] payload chain = none_twice
chain_distinct pages first (here ∷ rest) payload chain =
    let mine : IsChain pages here (here ∷ rest) payload = (refl, chain.1, chain.2, chain.3, chain.4, chain.5, chain.6, chain.7) in
    IsDistinct-cons nat_eq here rest (apart_from here rest (once_here pages here rest payload mine)) (chain_distinct pages chain.2 rest chain.4 chain.7)

apart_at : (q r : ℕ) (a b : List ℕ) → AllByRecursion (λ (y : ℕ). nat_eq q y ≡ false) (a ++ r ∷ b) → nat_eq q r ≡ false
apart_at q r [] b all = all.0
apart_at q r (x ∷ a) b all = apart_at q r a b all.1

pub not_twice : (r : ℕ) (a b : List ℕ) → IsDistinct nat_eq (a ++ r ∷ b) → list_any (nat_eq r) a ≡ true → ⊥
not_twice r [] b once there = let no : false ≡ true = there in cc
not_twice r (q ∷ a) b once there = elim (cases_Bool (nat_eq r q)) [
  | inl is ↦
      let same : q ≡ r = sym (eqb-true r q is) in
      let apart : nat_eq q r ≡ false = apart_at q r a b (IsDistinct-head nat_eq q (a ++ r ∷ b) once) in
      let no : true ≡ false = sym (eq-eqb q r same) ∙ apart in cc
  | inr other ↦ not_twice r a b (IsDistinct-tail nat_eq q (a ++ r ∷ b) once) (let t : (nat_eq r q || list_any (nat_eq r) a) ≡ true = there in rw other at t)
]

-- a chain breaks nowhere
pub sound : (pages : Section) (first here : ℕ) (list payload : List ℕ) → IsChain pages first list payload → BreaksAt pages [] first here → ⊥
sound pages first here list payload chain b = at r.rest r.others r.list_is r.chain
  where
    r : IsRest pages here list payload b.list b.payload
    r = rest_of pages first here b.list b.payload list payload b.begins chain

    at : (rest others : List ℕ) → list ≡ b.list ++ rest → IsChain pages here rest others → ⊥
    at [] others is more = omega (arith, b.some, more.0)
    at (x ∷ rest) others is more = ⊎_elim
        (λ (came : list_any (nat_eq here) ([] ++ b.list) ≡ true). not_twice x b.list rest (subst (IsDistinct nat_eq) is (chain_distinct pages first list payload chain)) (ap (λ p. list_any (nat_eq p) b.list) (sym more.0) ∙ came))
        (λ (none : IsNoLink (pages here)). none more.2 more.3 (subst (λ p. IsLink (pages p) more.2 more.3) (sym more.0) more.5))
        b.broken

-- ---- chains of a section, and of more pages

link_more : (o r : Option (List ℕ)) (next : ℕ) (part : List ℕ) → ((page : List ℕ) → o ≡ Some page → r ≡ Some page) → IsLink o next part → IsLink r next part
link_more None r next part more link = absurd link
link_more (Some page) r next part more link = subst (λ x. IsLink x next part) (sym (more page refl)) link

pub chain_more : (p q : Section) (first end : ℕ) (list payload : List ℕ) → ((page : ℕ) (bytes : List ℕ) → p page ≡ Some bytes → q page ≡ Some bytes) → BeginsChain p first list payload end → BeginsChain q first list payload end
chain_more p q first end [] payload more chain = chain
chain_more p q first end (here ∷ rest) payload more chain = (
  chain.0,
  chain.1,
  chain.2,
  chain.3,
  chain.4,
  link_more (p here) (q here) chain.2 chain.3 (more here) chain.5,
  chain.6,
  chain_more p q chain.2 end rest chain.4 more chain.7,
)

-- a page of a section is below the count, and the owner's
pub in_section : (book : Book) (owners : Owners) (who page : ℕ) (bytes : List ℕ) → section book owners who page ≡ Some bytes → (page < book.count) × (owners page ≡ who) × (book.page page ≡ bytes)
in_section book owners who page bytes is = by (nat_lt page book.count) (owners page == who) refl refl is
  where
    by : (a b : Bool) → nat_lt page book.count ≡ a → (owners page == who) ≡ b → (if a && b then Some (book.page page) else None) ≡ Some bytes → (page < book.count) × (owners page ≡ who) × (book.page page ≡ bytes)
    by true true x y e = (ltb-true page book.count x, eqb-true (owners page) who y, let same : Some (book.page page) ≡ Some bytes = e in cc)
    by true false x y e = absurd (let no : None ≡ Some bytes = e in cc)
    by false b x y e = absurd (let no : None ≡ Some bytes = e in cc)

pub in_all : (book : Book) (page : ℕ) → page < book.count → all_pages book page ≡ Some (book.page page)
in_all book page below = ap (λ b. if b then Some (book.page page) else None) (lt-ltb page book.count below)

pub section_in_all : (book : Book) (owners : Owners) (who first : ℕ) (list payload : List ℕ) → IsChain (section book owners who) first list payload → IsChain (all_pages book) first list payload
section_in_all book owners who first list payload chain = chain_more (section book owners who) (all_pages book) first 0 list payload
    (λ page bytes is. let at = in_section book owners who page bytes is in in_all book page at.0 ∙ ap Some at.2) chain

-- the pages of a chain are among the section's, and none is 0
pub chain_there : (pages : Section) (first end : ℕ) (list payload : List ℕ) → BeginsChain pages first list payload end → (page : ℕ) → list_any (nat_eq page) list ≡ true → IsSome (pages page) × (0 < page)
chain_there pages first end [] payload chain page there = absurd (let no : false ≡ true = there in cc)
chain_there pages first end (here ∷ rest) payload chain page there = elim (cases_Bool (nat_eq page here)) [
  | inl is ↦
      let same : page ≡ here = eqb-true page here is in
      (subst (λ p. IsSome (pages p)) (sym same) (link_some (pages here) chain.2 chain.3 chain.5), subst (λ p. 0 < p) (sym same) chain.1)
  | inr other ↦ chain_there pages chain.2 end rest chain.4 chain.7 page (let t : (nat_eq page here || list_any (nat_eq page) rest) ≡ true = there in rw other at t)
]

-- pages that the chain does not name may change
pub chain_kept : (p q : Section) (first end : ℕ) (list payload : List ℕ) → ((page : ℕ) → list_any (nat_eq page) list ≡ true → q page ≡ p page) → BeginsChain p first list payload end → BeginsChain q first list payload end
chain_kept p q first end [] payload same chain = chain
chain_kept p q first end (here ∷ rest) payload same chain = (
  chain.0,
  chain.1,
  chain.2,
  chain.3,
  chain.4,
  subst (λ o. IsLink o chain.2 chain.3) (sym (same here (or_left (nat_eq here here) (list_any (nat_eq here) rest) (eq-eqb here here refl)))) chain.5,
  chain.6,
  chain_kept p q chain.2 end rest chain.4 (λ page there. same page (or_right (nat_eq page here) (list_any (nat_eq page) rest) there)) chain.7,
)

-- one page more at the end
pub chain_longer : (pages : Section) (first here next : ℕ) (list payload part : List ℕ) → BeginsChain pages first list payload here → 0 < here → IsLink (pages here) next part → BeginsChain pages first (list ++ here ∷ []) (payload ++ part) next
chain_longer pages first here next [] payload part chain some link = (
  chain.0,
  some,
  next,
  part,
  [],
  link,
  ap (λ l. l ++ part) chain.1 ∙ sym (append-nil part),
  (refl, refl),
)
chain_longer pages first here next (q ∷ list) payload part chain some link = (
  chain.0,
  chain.1,
  chain.2,
  chain.3,
  chain.4 ++ part,
  chain.5,
  ap (λ l. l ++ part) chain.6 ∙ append_assoc_at chain.3 chain.4 part,
  chain_longer pages chain.2 here next list chain.4 part chain.7 some link,
)

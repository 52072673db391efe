-- Whose pages are, told from the lists of chains.
use Rattle.std.proofs.Common.{◌≡◌, ◌≢◌, ◌⊎◌, ⊎_elim, inl, inr, ℕ, ◌+◌, ◌<◌, ◌≤◌, ◌==◌, ◌&&◌, ◌||◌, Bool, true, false, List, [], ◌∷◌, ◌++◌, Option, Some, None, refl, sym, ◌∙◌, ap, subst, arith, if◌then◌else◌}
use Rattle.std.specs.Prelude.{nat_eq, nat_lt, IsSome}
use Rattle.std.specs.List.{list_any, AllByRecursion, IsDistinct}
use Rattle.std.proofs.lemmas.Bool.{cases_Bool, eq-eqb}
use Rattle.std.proofs.lemmas.Map.Keys.{IsDistinct-head, IsDistinct-tail, IsDistinct-cons}
use Rattle.wat_book.specs.Book.{Book, Owners, nobody, Section, section, IsFreePage, IsFreeChain}
use Rattle.wat_book.specs.Chains.{IsChain, all_pages}
use Rattle.wat_book.proofs.Chaining.{none_twice, apart_from, in_section, in_all, chain_there}
use Rattle.wat_book.proofs.Working.{chain_once}

-- ---- pages of an owner

pub some_owned : (book : Book) (owners : Owners) (who page : ℕ) → IsSome (section book owners who page) → (page < book.count) × (owners page ≡ who)
some_owned book owners who page some = by (section book owners who page) refl some
  where
    by : (o : Option (List ℕ)) → section book owners who page ≡ o → IsSome o → (page < book.count) × (owners page ≡ who)
    by None is some_here = absurd (let never : false ≡ true = some_here in cc)
    by (Some bytes) is some_here = let at = in_section book owners who page bytes is in (at.0, at.1)

pub chain_owner : (book : Book) (owners : Owners) (who first : ℕ) (list payload : List ℕ) → IsChain (section book owners who) first list payload → (page : ℕ) → list_any (nat_eq page) list ≡ true → owners page ≡ who
chain_owner book owners who first list payload chain page among = (some_owned book owners who page (chain_there (section book owners who) first 0 list payload chain page among).0).1

-- ---- lists one behind the other

pub in_left : (page : ℕ) (xs ys : List ℕ) → list_any (nat_eq page) xs ≡ true → list_any (nat_eq page) (xs ++ ys) ≡ true
in_left page [] ys e = absurd (let no : false ≡ true = e in cc)
in_left page (x ∷ xs) ys e = by (nat_eq page x) (list_any (nat_eq page) xs) e (in_left page xs ys)
  where
    by : (b c : Bool) → (b || c) ≡ true → (c ≡ true → list_any (nat_eq page) (xs ++ ys) ≡ true) → (b || list_any (nat_eq page) (xs ++ ys)) ≡ true
    by true c e more = refl
    by false c e more = more e

pub in_right : (page : ℕ) (xs ys : List ℕ) → list_any (nat_eq page) ys ≡ true → list_any (nat_eq page) (xs ++ ys) ≡ true
in_right page [] ys e = e
in_right page (x ∷ xs) ys e = by (nat_eq page x) (list_any (nat_eq page) (xs ++ ys)) (in_right page xs ys e)
  where
    by : (b c : Bool) → c ≡ true → (b || c) ≡ true
    by true c e = refl
    by false c e = e

all_both : (P : ℕ → Type 0) (xs ys : List ℕ) → AllByRecursion P xs → AllByRecursion P ys → AllByRecursion P (xs ++ ys)
all_both P [] ys a b = b
all_both P (x ∷ xs) ys a b = (a.0, all_both P xs ys a.1 b)

first_in : (x : ℕ) (xs : List ℕ) → list_any (nat_eq x) (x ∷ xs) ≡ true
first_in x xs = ap (λ b. b || list_any (nat_eq x) xs) (eq-eqb x x refl)

later_in : (page x : ℕ) (xs : List ℕ) → list_any (nat_eq page) xs ≡ true → list_any (nat_eq page) (x ∷ xs) ≡ true
later_in page x xs e = in_right page (x ∷ []) xs e

pub distinct_both : (xs ys : List ℕ) → IsDistinct nat_eq xs → IsDistinct nat_eq ys → ((page : ℕ) → list_any (nat_eq page) xs ≡ true → list_any (nat_eq page) ys ≡ false) → IsDistinct nat_eq (xs ++ ys)
distinct_both [] ys a b apart = b
distinct_both (x ∷ xs) ys a b apart =
    IsDistinct-cons nat_eq x (xs ++ ys)
    (all_both (λ (y : ℕ). nat_eq x y ≡ false) xs ys (IsDistinct-head nat_eq x xs a) (apart_from x ys (apart x (first_in x xs))))
    (distinct_both xs ys (IsDistinct-tail nat_eq x xs a) b (λ page among. apart page (later_in page x xs among)))

-- of two lists of two owners none has a page of the other
pub apart_owners : (owners : Owners) (a b : ℕ) (xs ys : List ℕ) → a ≢ b → ((page : ℕ) → list_any (nat_eq page) xs ≡ true → owners page ≡ a) → ((page : ℕ) → list_any (nat_eq page) ys ≡ true → owners page ≡ b)
    → (page : ℕ) → list_any (nat_eq page) xs ≡ true → list_any (nat_eq page) ys ≡ false
apart_owners owners a b xs ys differ of_a of_b page among = elim (cases_Bool (list_any (nat_eq page) ys)) [
  | inl both ↦ absurd (differ (sym (of_a page among) ∙ of_b page both))
  | inr none ↦ none
]

pub free_distinct : (pages : Section) (first : ℕ) (list : List ℕ) → IsFreeChain pages first list → IsDistinct nat_eq list
free_distinct pages first [] chain = none_twice
free_distinct pages first (here ∷ rest) chain = IsDistinct-cons nat_eq here rest (apart_from here rest (chain_once pages first here rest chain)) (free_distinct pages chain.2 rest chain.4)

-- ---- the free list, whoever has its pages

free_page : (o p : Option (List ℕ)) (next : ℕ) → ((bytes : List ℕ) → o ≡ Some bytes → p ≡ Some bytes) → IsFreePage o next → IsFreePage p next
free_page None p next same free = absurd free
free_page (Some bytes) p next same free = subst (λ (q : Option (List ℕ)). IsFreePage q next) (sym (same bytes refl)) free

free_more : (p q : Section) (first : ℕ) (list : List ℕ) → ((page : ℕ) (bytes : List ℕ) → p page ≡ Some bytes → q page ≡ Some bytes) → IsFreeChain p first list → IsFreeChain q first list
free_more p q first [] same chain = chain
free_more p q first (here ∷ rest) same chain = (chain.0, chain.1, chain.2, free_page (p here) (q here) chain.2 (same here) chain.3, free_more p q chain.2 rest same chain.4)

pub free_in_all : (book : Book) (owners : Owners) (who first : ℕ) (list : List ℕ) → IsFreeChain (section book owners who) first list → IsFreeChain (all_pages book) first list
free_in_all book owners who first list chain =
    free_more (section book owners who) (all_pages book) first list (λ page bytes is. let at = in_section book owners who page bytes is in in_all book page at.0 ∙ ap Some at.2) chain

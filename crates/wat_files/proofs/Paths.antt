-- Pages that lead from one to the next: they lead one way, and come to their end or break, never both.
use Rattle.std.proofs.Common.{◌≡◌, ◌≢◌, ◌⊎◌, ⊎_elim, inl, inr, ℕ, ◌+◌, ◌<◌, ◌≤◌, List, [], ◌∷◌, ◌++◌, Option, Some, None, refl, sym, ◌∙◌, ap, ap₂, subst, arith, append_assoc, append-nil}
use Rattle.std.specs.Prelude.{nat_eq, true}
use Rattle.std.specs.List.{list_any, IsDistinct}
use Rattle.wat_book.specs.Book.{Section, IsFreePage, IsFreeChain}
use Rattle.wat_book.specs.Chains.{IsLink, IsNoLink, BeginsChain, IsChain, IsReadChain, BreaksAt}
use Rattle.wat_book.proofs.Chaining.{one_link, one_chain, not_twice}
use Rattle.wat_files.specs.Chains.{BeginsFree, IsFreeList, FreeBreaksAt}

-- which page tells which
abbrev pub Telling : Type 1
Telling = ℕ → ℕ → Type 0

abbrev pub TellsOnce : Telling → Type 0
TellsOnce Tells = (page a b : ℕ) → Tells page a → Tells page b → a ≡ b

-- From the first on these pages lead to the end.
abbrev pub Path : Telling → ℕ → List ℕ → ℕ → Type 0
Path Tells first [] end = first ≡ end
Path Tells first (here ∷ rest) end = (first ≡ here) × (0 < here) × (next : ℕ) × Tells here next × Path Tells next rest end

-- The page was met, or tells none.
abbrev pub Broken : Telling → List ℕ → ℕ → Type 0
Broken Tells met here = (list_any (nat_eq here) met ≡ true) ⊎ ((next : ℕ) → Tells here next → ⊥)

module _ (Tells : Telling) (once : TellsOnce Tells) where
  -- a page of a path isn't broken
  not_broken : (met : List ℕ) (here next : ℕ) (rest : List ℕ) → Tells here next → IsDistinct nat_eq (met ++ here ∷ rest) → Broken Tells met here → ⊥
  not_broken met here next rest tells distinct broken =
      ⊎_elim (λ (twice : list_any (nat_eq here) met ≡ true). not_twice here met rest distinct twice) (λ (none : (n : ℕ) → Tells here n → ⊥). none next tells) broken

  one_more : (met rest : List ℕ) (here : ℕ) → IsDistinct nat_eq (met ++ here ∷ rest) → IsDistinct nat_eq ((met ++ here ∷ []) ++ rest)
  one_more met rest here distinct = subst (IsDistinct nat_eq) (sym (append_assoc met (here ∷ []) rest)) distinct

  broken_more : (met rest : List ℕ) (here end : ℕ) → Broken Tells (met ++ here ∷ rest) end → Broken Tells ((met ++ here ∷ []) ++ rest) end
  broken_more met rest here end broken = subst (λ (seen : List ℕ). Broken Tells seen end) (sym (append_assoc met (here ∷ []) rest)) broken

  broken_here : (met : List ℕ) (here : ℕ) → Broken Tells (met ++ []) here → Broken Tells met here
  broken_here met here broken = subst (λ (seen : List ℕ). Broken Tells seen here) (append-nil met) broken

  pub one_path : (first : ℕ) (xs ys : List ℕ) → Path Tells first xs 0 → Path Tells first ys 0 → xs ≡ ys
  one_path first [] [] a b = refl
  one_path first [] (y ∷ ys) a b = absurd (omega (arith, a, b.0, b.1))
  one_path first (x ∷ xs) [] a b = absurd (omega (arith, b, a.0, a.1))
  one_path first (x ∷ xs) (y ∷ ys) a b =
      let page : y ≡ x = sym b.0 ∙ a.0 in
      let next : b.2 ≡ a.2 = once x b.2 a.2 (subst (λ (p : ℕ). Tells p b.2) page b.3) a.3 in
      ap₂ (λ z zs. z ∷ zs) (sym page) (one_path a.2 xs ys a.4 (subst (λ (n : ℕ). Path Tells n ys 0) next b.4))

  pub path_or_break : (met : List ℕ) (first : ℕ) (xs ys : List ℕ) (here : ℕ) → Path Tells first xs 0 → IsDistinct nat_eq (met ++ xs) → Path Tells first ys here → 0 < here → Broken Tells (met ++ ys) here → ⊥
  path_or_break met first [] [] here a da b some broken = omega (arith, a, b, some)
  path_or_break met first [] (y ∷ ys) here a da b some broken = omega (arith, a, b.0, b.1)
  path_or_break met first (x ∷ xs) [] here a da b some broken =
      let page : here ≡ x = sym b ∙ a.0 in
      not_broken met x a.2 xs a.3 da (subst (λ (p : ℕ). Broken Tells met p) page (broken_here met here broken))
  path_or_break met first (x ∷ xs) (y ∷ ys) here a da b some broken =
      let page : y ≡ x = sym b.0 ∙ a.0 in
      let next : b.2 ≡ a.2 = once x b.2 a.2 (subst (λ (p : ℕ). Tells p b.2) page b.3) a.3 in
      path_or_break (met ++ x ∷ []) a.2 xs ys here a.4 (one_more met xs x da) (subst (λ (n : ℕ). Path Tells n ys here) next b.4) some
      (broken_more met ys x here (subst (λ (p : ℕ). Broken Tells (met ++ p ∷ ys) here) page broken))

  pub one_break : (met : List ℕ) (first : ℕ) (xs ys : List ℕ) (m n : ℕ) → Path Tells first xs m → IsDistinct nat_eq (met ++ xs) → Broken Tells (met ++ xs) m
      → Path Tells first ys n → IsDistinct nat_eq (met ++ ys) → Broken Tells (met ++ ys) n → m ≡ n
  one_break met first [] [] m n a da broken_a b db broken_b = sym a ∙ b
  one_break met first [] (y ∷ ys) m n a da broken_a b db broken_b =
      absurd (not_broken met y b.2 ys b.3 db (subst (λ (p : ℕ). Broken Tells met p) (sym a ∙ b.0) (broken_here met m broken_a)))
  one_break met first (x ∷ xs) [] m n a da broken_a b db broken_b =
      absurd (not_broken met x a.2 xs a.3 da (subst (λ (p : ℕ). Broken Tells met p) (sym b ∙ a.0) (broken_here met n broken_b)))
  one_break met first (x ∷ xs) (y ∷ ys) m n a da broken_a b db broken_b =
      let page : y ≡ x = sym b.0 ∙ a.0 in
      let next : b.2 ≡ a.2 = once x b.2 a.2 (subst (λ (p : ℕ). Tells p b.2) page b.3) a.3 in
      one_break (met ++ x ∷ []) a.2 xs ys m n a.4 (one_more met xs x da) (broken_more met xs x m broken_a) (subst (λ (k : ℕ). Path Tells k ys n) next b.4)
      (one_more met ys x (subst (λ (p : ℕ). IsDistinct nat_eq (met ++ p ∷ ys)) page db)) (broken_more met ys x n (subst (λ (p : ℕ). Broken Tells (met ++ p ∷ ys) n) page broken_b))

-- ---- chains

abbrev Linked : Section → Telling
Linked pages here next = (part : List ℕ) × IsLink (pages here) next part

linked_once : (pages : Section) → TellsOnce (Linked pages)
linked_once pages page a b x y = (one_link (pages page) a b x.0 y.0 x.1 y.1).0

chain_path : (pages : Section) (first : ℕ) (list payload : List ℕ) (end : ℕ) → BeginsChain pages first list payload end → Path (Linked pages) first list end
chain_path pages first [] payload end chain = chain.0
chain_path pages first (here ∷ rest) payload end chain = (chain.0, chain.1, chain.2, (chain.3, chain.5), chain_path pages chain.2 rest chain.4 end chain.7)

no_link : (pages : Section) (met : List ℕ) (here : ℕ) → (list_any (nat_eq here) met ≡ true) ⊎ IsNoLink (pages here) → Broken (Linked pages) met here
no_link pages met here broken = ⊎_elim (λ (twice : list_any (nat_eq here) met ≡ true). inl twice) (λ (none : IsNoLink (pages here)). inr (λ next link. none next link.0 link.1)) broken

-- a chain is read with one list of pages and one payload
pub one_read : (pages : Section) (met : List ℕ) (first : ℕ) (a b x y : List ℕ) → IsReadChain pages met first a x → IsReadChain pages met first b y → (a ≡ b) × (x ≡ y)
one_read pages met first a b x y p q = one_chain pages first a b x y p.chain q.chain

-- a chain that is read breaks nowhere
pub read_or_break : (pages : Section) (met : List ℕ) (first here : ℕ) (list payload : List ℕ) → IsReadChain pages met first list payload → BreaksAt pages met first here → ⊥
read_or_break pages met first here list payload reads breaks =
    path_or_break (Linked pages) (linked_once pages) met first list breaks.list here (chain_path pages first list payload 0 reads.chain) reads.once
    (chain_path pages first breaks.list breaks.payload here breaks.begins) breaks.some (no_link pages (met ++ breaks.list) here breaks.broken)

-- a chain breaks at one page
pub breaks_once : (pages : Section) (met : List ℕ) (first m n : ℕ) → BreaksAt pages met first m → BreaksAt pages met first n → m ≡ n
breaks_once pages met first m n a b =
    one_break (Linked pages) (linked_once pages) met first a.list b.list m n (chain_path pages first a.list a.payload m a.begins) a.once (no_link pages (met ++ a.list) m a.broken)
    (chain_path pages first b.list b.payload n b.begins) b.once (no_link pages (met ++ b.list) n b.broken)

-- ---- the free pages

abbrev Freed : Section → Telling
Freed pages here next = IsFreePage (pages here) next

freed_at : (o : Option (List ℕ)) (a b : ℕ) → IsFreePage o a → IsFreePage o b → a ≡ b
freed_at None a b x y = absurd x
freed_at (Some bytes) a b x y = x.1 ∙ sym y.1

freed_once : (pages : Section) → TellsOnce (Freed pages)
freed_once pages page a b x y = freed_at (pages page) a b x y

free_path : (pages : Section) (first : ℕ) (list : List ℕ) (end : ℕ) → BeginsFree pages first list end → Path (Freed pages) first list end
free_path pages first [] end chain = chain
free_path pages first (here ∷ rest) end chain = (chain.0, chain.1, chain.2, chain.3, free_path pages chain.2 rest end chain.4)

free_chain : (pages : Section) (first : ℕ) (list : List ℕ) → IsFreeChain pages first list → Path (Freed pages) first list 0
free_chain pages first [] chain = chain
free_chain pages first (here ∷ rest) chain = (chain.0, chain.1, chain.2, chain.3, free_chain pages chain.2 rest chain.4)

pub one_free : (pages : Section) (met : List ℕ) (first : ℕ) (a b : List ℕ) → IsFreeList pages met first a → IsFreeList pages met first b → a ≡ b
one_free pages met first a b x y = one_path (Freed pages) (freed_once pages) first a b (free_chain pages first a x.chain) (free_chain pages first b y.chain)

pub free_or_break : (pages : Section) (met : List ℕ) (first here : ℕ) (list : List ℕ) → IsFreeList pages met first list → FreeBreaksAt pages met first here → ⊥
free_or_break pages met first here list reads breaks =
    path_or_break (Freed pages) (freed_once pages) met first list breaks.list here (free_chain pages first list reads.chain) reads.once
    (free_path pages first breaks.list here breaks.begins) breaks.some breaks.broken

pub free_breaks_once : (pages : Section) (met : List ℕ) (first m n : ℕ) → FreeBreaksAt pages met first m → FreeBreaksAt pages met first n → m ≡ n
free_breaks_once pages met first m n a b =
    one_break (Freed pages) (freed_once pages) met first a.list b.list m n (free_path pages first a.list m a.begins) a.once a.broken (free_path pages first b.list n b.begins) b.once b.broken

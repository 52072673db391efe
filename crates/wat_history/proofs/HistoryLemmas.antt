-- Lists whose items are numbered in order.
use Rattle.std.proofs.Common.{◌≡◌, ℕ, ◌+◌, ◌<◌, List, [], ◌∷◌, length, map, get_or, ap, sym, refl, ◌∙◌, arith}
use Rattle.std.specs.List.{range_with_len, Contains}
use Rattle.std.specs.List.Sorted.{IsPermutation}
use Rattle.std.proofs.lemmas.List.{get_or-map, ext_get_or, get_or_default}
use Rattle.std.proofs.lemmas.List.FromFn.{get_or-range_with_len}
use Rattle.std.proofs.lemmas.List.Elements.{Contains-get_or}
use Rattle.std.proofs.lemmas.List.Sorted.{Contains-permutation, length_permutation, IsPermutation-sym, IsPermutation-trans}
use Rattle.wat_conn.specs.declared.session.Session.{Session}
use Rattle.wat_history.specs.History.{Commit, IsHistory, commits_of}

-- the number of the item at k
number_at : {X : Type 0} (number : X → ℕ) (first : ℕ) (xs : List X) → map number xs ≡ range_with_len first (length xs) → (k : ℕ) (d : X) → k < length xs → number (get_or xs k d) ≡ first + k
number_at number first xs e k d within =
    sym (get_or-map number xs k d (number d) within) ∙ (ap (λ numbers. get_or numbers k (number d)) e ∙ get_or-range_with_len first (length xs) k (number d) within)

same_place : (first i k : ℕ) → first + i ≡ first + k → i ≡ k
same_place first i k e = omega arith

-- An item that the other list has too stands there at the same place.
same_at : {X : Type 0} (number : X → ℕ) (first : ℕ) (xs ys : List X) → map number xs ≡ range_with_len first (length xs) → map number ys ≡ range_with_len first (length ys)
    → (k : ℕ) (d : X) → k < length ys → Contains xs (get_or ys k d) → get_or xs k d ≡ get_or ys k d
same_at number first xs ys ex ey k d within found =
    let y = get_or ys k d in
    let here : number (get_or xs found.0 y) ≡ first + found.0 = number_at number first xs ex found.0 y found.1 in
    let there : number y ≡ first + k = number_at number first ys ey k d within in
    let place : found.0 ≡ k = same_place first found.0 k (sym here ∙ (ap number found.2 ∙ there)) in
    let within_xs : k < length xs = omega arith in
    get_or_default xs k d y within_xs ∙ (ap (λ i. get_or xs i y) (sym place) ∙ found.2)

pub numbered_once : {X : Type 0} (number : X → ℕ) (first : ℕ) (xs ys : List X) → IsPermutation xs ys → map number xs ≡ range_with_len first (length xs) → map number ys ≡ range_with_len first (length ys) → xs ≡ ys
numbered_once number first [] [] p ex ey = refl
numbered_once number first [] (y ∷ ys) p ex ey = let long = length_permutation [] (y ∷ ys) p in absurd (omega arith)
numbered_once number first (x ∷ xs) ys p ex ey =
    let long = length_permutation (x ∷ xs) ys p in
    ext_get_or x (x ∷ xs) ys (sym long)
    (λ k within. let within_ys : k < length ys = omega arith in
    same_at number first (x ∷ xs) ys ex ey k x within_ys (Contains-permutation ys (x ∷ xs) (get_or ys k x) (IsPermutation-sym (x ∷ xs) ys p) (Contains-get_or ys k x within_ys)))

pub one_history : (s : Session) (h g : List Commit) → IsHistory s h → IsHistory s g → h ≡ g
one_history s h g a b = numbered_once (λ commit. commit.number) 1 h g (IsPermutation-trans h (commits_of s) g (IsPermutation-sym (commits_of s) h a.all) b.all) a.numbers b.numbers

pub all_numbers : (s : Session) (h : List Commit) → IsHistory s h → map (λ (commit : Commit). commit.number) h ≡ range_with_len 1 (length (commits_of s))
all_numbers s h a = a.numbers ∙ ap (range_with_len 1) (length_permutation (commits_of s) h a.all)

-- Spellings of which none begins another, and how they are put together.
use Rattle.std.proofs.Common.{◌≡◌, ℕ, ◌<◌, List, [], ◌∷◌, ◌++◌, length, refl, sym, ◌∙◌, ap, arith, append_assoc}
use Rattle.std.specs.List.{flat_map, AllByRecursion}
use Rattle.std.proofs.lemmas.List.{flat_map_more}
use Rattle.wat_log_record.specs.Reading.{Begins, BeginsNone}

-- No spelling begins another: with anything behind, bytes are those of one thing.
abbrev pub Cancels : {X : Type 0} → (X → List ℕ) → (X → Type 0) → Type 0
Cancels {X = X} spell Can = (a b : X) (s t : List ℕ) → Can a → Can b → spell a ++ s ≡ spell b ++ t → (a ≡ b) × (s ≡ t)

-- one spelling behind another
abbrev pub pair : {X Y : Type 0} → (X → List ℕ) → (Y → List ℕ) → X × Y → List ℕ
pair f g p = f p.0 ++ g p.1

abbrev pub Both : {X Y : Type 0} → (X → Type 0) → (Y → Type 0) → X × Y → Type 0
Both P Q p = P p.0 × Q p.1

module _ {X Y : Type 0} (f : X → List ℕ) (g : Y → List ℕ) (P : X → Type 0) (Q : Y → Type 0) where
  pub pair_cancels : Cancels f P → Cancels g Q → Cancels (pair f g) (Both P Q)
  pair_cancels one two a b s t pa pb e =
      let first = one a.0 b.0 (g a.1 ++ s) (g b.1 ++ t) pa.0 pb.0 (sym (append_assoc (f a.0) (g a.1) s) ∙ e ∙ append_assoc (f b.0) (g b.1) t) in
      let second = two a.1 b.1 s t pa.1 pb.1 first.1 in
      ((λ i. (first.0 i, second.0 i)), second.1)

  pub no_first : (bytes : List ℕ) → BeginsNone f P bytes → BeginsNone (pair f g) (Both P Q) bytes
  no_first bytes none p can rest is = none p.0 can.0 (g p.1 ++ rest) (is ∙ append_assoc (f p.0) (g p.1) rest)

  pub no_second : Cancels f P → (bytes : List ℕ) (x : X) (mid : List ℕ) → Begins f P bytes x mid → BeginsNone g Q mid → BeginsNone (pair f g) (Both P Q) bytes
  no_second one bytes x mid a none p can rest is =
      let same = one x p.0 mid (g p.1 ++ rest) a.can can.0 (sym a.spelled ∙ is ∙ append_assoc (f p.0) (g p.1) rest) in
      none p.1 can.1 rest same.1

-- ---- many, one behind another

module _ {X : Type 0} (f : X → List ℕ) (P : X → Type 0) (one : Cancels f P) where
  pub items_cancel : (xs ys : List X) (s t : List ℕ) → AllByRecursion P xs → AllByRecursion P ys → length xs ≡ length ys
      → flat_map f xs ++ s ≡ flat_map f ys ++ t → (xs ≡ ys) × (s ≡ t)
  items_cancel [] [] s t px py len e = (refl, e)
  items_cancel [] (y ∷ ys) s t px py len e = absurd (omega arith)
  items_cancel (x ∷ xs) [] s t px py len e = absurd (omega arith)
  items_cancel (x ∷ xs) (y ∷ ys) s t px py len e =
      let first = one x y (flat_map f xs ++ s) (flat_map f ys ++ t) px.0 py.0 (sym (append_assoc (f x) (flat_map f xs) s) ∙ e ∙ append_assoc (f y) (flat_map f ys) t) in
      let more = items_cancel xs ys s t px.1 py.1 (omega arith) first.1 in
      ((λ i. first.0 i ∷ more.0 i), more.1)

  -- where several were read and none comes next, no longer list is there
  pub stuck : (xs ys : List X) (d rest : List ℕ) → AllByRecursion P xs → AllByRecursion P ys → length xs < length ys
      → flat_map f xs ++ d ≡ flat_map f ys ++ rest → BeginsNone f P d → ⊥
  stuck xs [] d rest px py more e none = absurd (omega arith)
  stuck [] (y ∷ ys) d rest px py more e none = none y py.0 (flat_map f ys ++ rest) (e ∙ append_assoc (f y) (flat_map f ys) rest)
  stuck (x ∷ xs) (y ∷ ys) d rest px py more e none =
      let first = one x y (flat_map f xs ++ d) (flat_map f ys ++ rest) px.0 py.0 (sym (append_assoc (f x) (flat_map f xs) d) ∙ e ∙ append_assoc (f y) (flat_map f ys) rest) in
      stuck xs ys d rest px.1 py.1 (omega arith) first.1 none

  -- one more
  pub item_more : (bytes : List ℕ) (xs : List X) (x : X) (d rest : List ℕ) → bytes ≡ flat_map f xs ++ d → d ≡ f x ++ rest → bytes ≡ flat_map f (xs ++ x ∷ []) ++ rest
  item_more bytes xs x d rest is next =
      is ∙ ap (λ b. flat_map f xs ++ b) next ∙ sym (append_assoc (flat_map f xs) (f x) rest) ∙ ap (λ b. b ++ rest) (flat_map_more f [] xs x)

-- ---- behind a byte

pub tag_same : (m n : ℕ) (s t : List ℕ) → m ∷ s ≡ n ∷ t → m ≡ n
tag_same m n s t e = cc

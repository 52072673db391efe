-- What a script begins with, put together from its parts.
use Rattle.std.proofs.Common.{◌≡◌, ◌≢◌, ◌∙◌, sym, ap, ℕ, ◌+◌, ◌*◌, ◌<◌, ◌≤◌, ◌==◌, List, [], ◌∷◌, ◌++◌, map, Result, Ok, Err, OnOk, arith}
use Rattle.std.specs.Prelude.{if◌then◌else◌}
use Rattle.std.specs.List.{range_with_len}
use Rattle.std.proofs.lemmas.Bool.{le-ltb, lt-ltb, ne_eqb}
use Rattle.std.proofs.lemmas.List.{append-nil, append_assoc}
use Rattle.std.proofs.lemmas.List.FromFn.{map-range_with_len_more}
use Rattle.wat_gen.specs.declared.statement.Statement.{Statement}
use Rattle.wat_gen.specs.declared.statement.Statement.TheVariants.{CreateTable, CreateIndex, Insert, Commit, SetLevel, SetBlockingOff}
use Rattle.wat_gen.specs.Session.{filling, level_of, opening}

abbrev pub row_of : ℕ → Statement
row_of i = Insert (10 * i) i

-- one more row
pub rows_more : (begun rows all : List Statement) (i : ℕ) → rows ≡ begun ++ map row_of (range_with_len 0 i) → all ≡ rows ++ row_of i ∷ [] → all ≡ begun ++ map row_of (range_with_len 0 (i + 1))
rows_more begun rows all i e_rows e_all =
    let next : 0 + i ≡ i = omega arith in
    e_all ∙ ap (λ l. l ++ row_of i ∷ []) e_rows ∙ append_assoc begun (map row_of (range_with_len 0 i)) (row_of i ∷ []) ∙ ap (λ l. begun ++ l) (sym (map-range_with_len_more row_of 0 i i next))

parted : (old rows : List Statement) → ((old ++ CreateTable ∷ []) ++ CreateIndex ∷ []) ++ rows ++ Commit ∷ [] ≡ old ++ CreateTable ∷ CreateIndex ∷ (rows ++ Commit ∷ [])
parted old rows = simp append_assoc

-- the filling from its parts
pub filled : (old made begun rows_in all : List Statement) (i : ℕ) → made ≡ old ++ CreateTable ∷ [] → begun ≡ made ++ CreateIndex ∷ [] → rows_in ≡ begun ++ map row_of (range_with_len 0 i) → i ≡ 100 → all ≡ rows_in ++ Commit ∷ [] → all ≡ old ++ filling
unfolding filling
filled old made begun rows_in all i e_made e_begun e_rows e_i e_all =
    let rows = map row_of (range_with_len 0 100) in
    let first : begun ≡ (old ++ CreateTable ∷ []) ++ CreateIndex ∷ [] = e_begun ∙ ap (λ l. l ++ CreateIndex ∷ []) e_made in
    let in' : rows_in ≡ ((old ++ CreateTable ∷ []) ++ CreateIndex ∷ []) ++ rows = e_rows ∙ ap (λ n. begun ++ map row_of (range_with_len 0 n)) e_i ∙ ap (λ l. l ++ rows) first in
    e_all ∙ ap (λ l. l ++ Commit ∷ []) in' ∙ parted old rows

-- what holds of a list where a call succeeds
pub on_ok : {T E : Type 0} (r : Result T E) (P Q : Type 0) → (P → Q) → OnOk r P → OnOk r Q
on_ok (Ok x) P Q f h = f h
on_ok (Err e) P Q f h = tt

abbrev pub front_of : ℕ → List Statement
front_of script = if script == 1 then filling else []

pub first_script : (old begun : List Statement) (script : ℕ) → script ≡ 1 → begun ≡ old ++ filling → begun ≡ old ++ front_of script
first_script old begun script e e_begun = e_begun ∙ ap (λ k. old ++ front_of k) (sym e)

pub other_script : (old begun : List Statement) (script : ℕ) → script ≢ 1 → begun ≡ old → begun ≡ old ++ front_of script
other_script old begun script other e_begun =
    e_begun ∙ sym (append-nil old) ∙ ap (λ b. old ++ (if b then filling else [])) (sym (ne_eqb script 1 other))

abbrev pub leveled : ℕ → Statement
leveled script = SetLevel (level_of script)

-- a script with its level
pub opened : (old begun all : List Statement) (script : ℕ) → begun ≡ old ++ front_of script → all ≡ begun ++ leveled script ∷ [] → script < 7 → all ≡ old ++ opening script
unfolding opening
opened old begun all script e_begun e_all low =
    e_all ∙ ap (λ l. l ++ leveled script ∷ []) e_begun ∙ append_assoc old (front_of script) (leveled script ∷ []) ∙ ap (λ b. old ++ (front_of script ++ leveled script ∷ (if b then SetBlockingOff ∷ [] else []))) (sym (le-ltb 6 script (omega arith)))

two_more : (old front : List Statement) (x y : Statement) → ((old ++ front) ++ x ∷ []) ++ y ∷ [] ≡ old ++ (front ++ x ∷ y ∷ [])
two_more old front x y = simp append_assoc

-- a script with its level, which waits for no lock
pub opened_off : (old begun middle all : List Statement) (script : ℕ) → begun ≡ old ++ front_of script → middle ≡ begun ++ leveled script ∷ [] → all ≡ middle ++ SetBlockingOff ∷ [] → 7 ≤ script → all ≡ old ++ opening script
unfolding opening
opened_off old begun middle all script e_begun e_middle e_all high =
    e_all ∙ ap (λ l. l ++ SetBlockingOff ∷ []) (e_middle ∙ ap (λ l. l ++ leveled script ∷ []) e_begun) ∙ two_more old (front_of script) (leveled script) SetBlockingOff ∙ ap (λ b. old ++ (front_of script ++ leveled script ∷ (if b then SetBlockingOff ∷ [] else []))) (sym (lt-ltb 6 script (omega arith)))

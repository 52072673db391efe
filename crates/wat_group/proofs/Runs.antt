-- The first run of sorted entries.
use Rattle.std.proofs.Common.{◌≡◌, ℕ, zero, suc, ◌+◌, ◌<◌, ◌≤◌, List, [], ◌∷◌, ◌++◌, map, take, drop, length, get_or, cond, sym, ap, ◌∙◌, subst, arith, append_assoc, length-take}
use Rattle.std.specs.List.{prefix_len}
use Rattle.std.proofs.lemmas.List.{drop_more, map-append}
use Rattle.std.proofs.lemmas.List.Folds.{length-prefix_len}
use Rattle.sqlite_trees.specs.Tree.{IsAscending}
use Rattle.wat_expr.specs.Evaluation.{Over, over_group}
use Rattle.wat_group.specs.declared.keyed.Keyed.{Keyed}
use Rattle.wat_group.specs.declared.taken.Taken.{Taken}
use Rattle.wat_value.specs.Order.{key_eq}
use Rattle.wat_group.specs.Query.{over_all}
use Rattle.wat_group.specs.Private.{over_of, rows_in, IsAtMost, classes}
use Rattle.wat_group.proofs.Classes.{classes-run, key_eq_refl}

abbrev pub same_key : Keyed → List Keyed → ℕ
same_key p l = prefix_len (λ e. key_eq p.key e.key) l

pub record IsRun (p : Keyed) (l : List Keyed) (n : ℕ) : Type 0 where
  pub some : 0 < n
  pub within : n ≤ length l
  pub ascending : IsAscending IsAtMost (drop n l)
  pub split : classes l ≡ take n l ∷ classes (drop n l)
  pub first : get_or (rows_in (take n l)) 0 [] ≡ p.rows.now

ascending-drop : (n : ℕ) (l : List Keyed) → IsAscending IsAtMost l → IsAscending IsAtMost (drop n l)
ascending-drop zero l up = up
ascending-drop (suc n) [] up = up
ascending-drop (suc n) (x ∷ l) up = ascending-drop n l up.1

first_run : (p : Keyed) (xs : List Keyed) → IsAscending IsAtMost (p ∷ xs) → IsRun p (p ∷ xs) (same_key p (p ∷ xs))
first_run p xs up =
    let l = p ∷ xs in
    let n = same_key p l in
    let m = same_key p xs in
    let long : n ≡ suc m = ap (λ b. cond b (1 + m) 0) (key_eq_refl p.key) ∙ (omega arith) in
    record {
      some = omega arith;
      within = omega (arith, length-prefix_len (λ (e : Keyed). key_eq p.key e.key) l, length-take n l);
      ascending = ascending-drop n l up;
      split = classes-run (λ (e : Keyed). e.key) p xs up;
      first = ap (λ k. get_or (rows_in (take k l)) 0 []) long;
    }

-- the run that begins at a place
pub run_at : (sorted : List Keyed) (start : ℕ) (p : Keyed) → start < length sorted → p ≡ get_or sorted start p → IsAscending IsAtMost (drop start sorted)
    → IsRun p (drop start sorted) (same_key p (drop start sorted))
run_at sorted start p within is up =
    let here : drop start sorted ≡ p ∷ drop (start + 1) sorted = drop_more sorted start p within ∙ ap (λ x. x ∷ drop (start + 1) sorted) (sym is) in
    subst (λ l. IsRun p l (same_key p l)) (sym here) (first_run p (drop (start + 1) sorted) (subst (IsAscending IsAtMost) here up))

-- one more group
pub group_pushed : (done : List Taken) (g : Taken) (p : Keyed) (l : List Keyed) (n : ℕ) (all : List Over) → IsRun p l n → over_of g ≡ over_group p.rows.now (rows_in (take n l))
    → map over_of done ++ map over_all (map rows_in (classes l)) ≡ all
    → map over_of (done ++ g ∷ []) ++ map over_all (map rows_in (classes (drop n l))) ≡ all
group_pushed done g p l n all run is so_far =
    let rest = map over_all (map rows_in (classes (drop n l))) in
    let this : over_of g ≡ over_all (rows_in (take n l)) = is ∙ ap (λ r. over_group r (rows_in (take n l))) (sym run.first) in
    ap (λ m. m ++ rest) (map-append over_of done (g ∷ [])) ∙ append_assoc (map over_of done) (over_of g ∷ []) rest
    ∙ ap (λ o. map over_of done ++ o ∷ rest) this ∙ sym (ap (λ cs. map over_of done ++ map over_all (map rows_in cs)) run.split) ∙ so_far

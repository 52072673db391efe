-- One more group of which something becomes.
use Rattle.std.proofs.Common.{◌≡◌, ℕ, ◌<◌, ◌+◌, Bool, true, false, ◌||◌, cond, List, [], ◌∷◌, ◌++◌, map, filter, drop, length, get_or, refl, sym, ap, ◌∙◌, append_assoc}
use Rattle.std.specs.List.{list_any}
use Rattle.std.proofs.lemmas.List.{at_drop_more}
use Rattle.wat_ast.specs.declared.query.Query.{Query}
use Rattle.wat_expr.specs.Evaluation.{Over}
use Rattle.wat_group.specs.declared.line.Line.{Line}
use Rattle.wat_group.specs.declared.taken.Taken.{Taken}
use Rattle.wat_group.specs.declared.judging.Judged.TheVariants.{Failed, Dropped, Kept}
use Rattle.wat_group.specs.Private.{judged}
use Rattle.wat_group.specs.Query.{fails_group, is_kept, line_at}
use Rattle.wat_group.specs.Private.{over_of}

pub from_dropped : (q : Query) (at : Over) → judged q at ≡ Dropped → (fails_group q at ≡ false) × (is_kept q at ≡ false)
from_dropped q at is = go (fails_group q at) (is_kept q at) refl refl is
  where
    go : (a b : Bool) → fails_group q at ≡ a → is_kept q at ≡ b → cond a Failed (cond b (Kept (line_at q at)) Dropped) ≡ Dropped → (fails_group q at ≡ false) × (is_kept q at ≡ false)
    go true b e f is = cc
    go false true e f is = cc
    go false false e f is = (e, f)

pub from_kept : (q : Query) (at : Over) (line : Line) → judged q at ≡ Kept line → (fails_group q at ≡ false) × (is_kept q at ≡ true) × (line ≡ line_at q at)
from_kept q at line is = go (fails_group q at) (is_kept q at) refl refl is
  where
    go : (a b : Bool) → fails_group q at ≡ a → is_kept q at ≡ b → cond a Failed (cond b (Kept (line_at q at)) Dropped) ≡ Kept line → (fails_group q at ≡ false) × (is_kept q at ≡ true) × (line ≡ line_at q at)
    go true b e f is = cc
    go false false e f is = cc
    go false true e f is = (e, f, cc)

abbrev pub any_fails : Query → List Taken → Bool
any_fails q gs = list_any (fails_group q) (map over_of gs)

abbrev pub kept_lines : Query → List Taken → List Line
kept_lines q gs = map (line_at q) (filter (is_kept q) (map over_of gs))

module _ (q : Query) (gs : List Taken) (i : ℕ) (g : Taken) (within : i < length gs) (is : g ≡ get_or gs i g) where
  pub next_fails : fails_group q (over_of g) ≡ false → any_fails q (drop (i + 1) gs) ≡ any_fails q (drop i gs)
  next_fails sound =
      sym (at_drop_more (any_fails q) gs i g within ∙ ap (λ x. fails_group q (over_of x) || any_fails q (drop (i + 1) gs)) (sym is) ∙ ap (λ b. b || any_fails q (drop (i + 1) gs)) sound)

  next_lines : kept_lines q (drop i gs) ≡ map (line_at q) (cond (is_kept q (over_of g)) (over_of g ∷ filter (is_kept q) (map over_of (drop (i + 1) gs))) (filter (is_kept q) (map over_of (drop (i + 1) gs))))
  next_lines = at_drop_more (kept_lines q) gs i g within
      ∙ ap (λ x. map (line_at q) (cond (is_kept q (over_of x)) (over_of x ∷ filter (is_kept q) (map over_of (drop (i + 1) gs))) (filter (is_kept q) (map over_of (drop (i + 1) gs))))) (sym is)

  pub lines_dropped : is_kept q (over_of g) ≡ false → kept_lines q (drop (i + 1) gs) ≡ kept_lines q (drop i gs)
  lines_dropped dropped =
      let os = filter (is_kept q) (map over_of (drop (i + 1) gs)) in
      sym (next_lines ∙ ap (λ b. map (line_at q) (cond b (over_of g ∷ os) os)) dropped)

  pub lines_kept : (done : List Line) (line : Line) → is_kept q (over_of g) ≡ true → line ≡ line_at q (over_of g) → (done ++ line ∷ []) ++ kept_lines q (drop (i + 1) gs) ≡ done ++ kept_lines q (drop i gs)
  lines_kept done line kept same =
      let os = filter (is_kept q) (map over_of (drop (i + 1) gs)) in
      append_assoc done (line ∷ []) (kept_lines q (drop (i + 1) gs)) ∙ ap (λ x. done ++ x ∷ kept_lines q (drop (i + 1) gs)) same
      ∙ ap (λ l. done ++ l) (sym (next_lines ∙ ap (λ b. map (line_at q) (cond b (over_of g ∷ os) os)) kept))

use Rattle.std.proofs.Common.{◌≡◌, ◌∙◌, ◌<◌, ℕ, List, length, slice_get, Some, refl, sym, ap, subst}
use Rattle.std.proofs.lemmas.Option.{slice_get_read}
use Rattle.wat_locks.specs.declared.want.Want.{Want}
use Rattle.wat_level.specs.Placed.{placed}
use Rattle.wat_level.proofs.ChangeLemmas.{place_before, place_there, place_after}
use Rattle.wat_level.proofs.change.place_want.Goals as goal

pub returns-in-Less : goal.returns-in-Less
returns-in-Less c =
    let wants = c.loop-i.wants.items in
    let within : c.loop-i.i < length wants = subst (λ (ws : List Want). c.loop-i.i < length ws) (sym c.loop-i.invariant.0) (subst (λ (n : ℕ). c.loop-i.i < n) (c.len-i-end.ensures ∙ c.args.wants.now.ok.0) c.loop-i-test.true) in
    let at : slice_get wants c.loop-i.i ≡ Some c.index.result.now = slice_get_read wants (length wants) c.loop-i.i c.index.result.now refl within c.index.ensures in
    let is = place_before c.args.want c.index.result.now wants c.loop-i.i at (placed c.args.want wants) (sym c.in-Less.is ∙ c.cmp.ensures) c.loop-i.invariant.1 in
    c.in_ok-insert-in-Less.ensures.items ∙ is ∙ ap (placed c.args.want) c.loop-i.invariant.0

pub returns-in-Equal : goal.returns-in-Equal
returns-in-Equal c =
    let wants = c.loop-i.wants.items in
    let within : c.loop-i.i < length wants = subst (λ (ws : List Want). c.loop-i.i < length ws) (sym c.loop-i.invariant.0) (subst (λ (n : ℕ). c.loop-i.i < n) (c.len-i-end.ensures ∙ c.args.wants.now.ok.0) c.loop-i-test.true) in
    let at : slice_get wants c.loop-i.i ≡ Some c.index.result.now = slice_get_read wants (length wants) c.loop-i.i c.index.result.now refl within c.index.ensures in
    place_there c.args.want c.index.result.now wants c.loop-i.i at (placed c.args.want wants) (sym c.in-Equal.is ∙ c.cmp.ensures) c.loop-i.invariant.1 ∙ ap (placed c.args.want) c.loop-i.invariant.0

pub loop-i-preserved : goal.loop-i-preserved
loop-i-preserved c =
    let wants = c.loop-i.wants.items in
    let within : c.loop-i.i < length wants = subst (λ (ws : List Want). c.loop-i.i < length ws) (sym c.loop-i.invariant.0) (subst (λ (n : ℕ). c.loop-i.i < n) (c.len-i-end.ensures ∙ c.args.wants.now.ok.0) c.loop-i-test.true) in
    let at : slice_get wants c.loop-i.i ≡ Some c.index.result.now = slice_get_read wants (length wants) c.loop-i.i c.index.result.now refl within c.index.ensures in
    (c.loop-i.invariant.0, place_after c.args.want c.index.result.now wants c.loop-i.i at (placed c.args.want wants) (sym c.in-Greater.is ∙ c.cmp.ensures) c.loop-i.invariant.1)

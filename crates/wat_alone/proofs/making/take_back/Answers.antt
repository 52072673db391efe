use Rattle.std.proofs.Common.{◌∙◌, List, unwrap_or, sym, ap}
use Rattle.wat_value.specs.declared.change.Change.{Change}
use Rattle.wat_schema.specs.Tables.{apply_change}
use Rattle.wat_alone.specs.Alone.{taken_back}
use Rattle.wat_alone.proofs.MakingLemmas.{taken_back-last}
use Rattle.wat_alone.proofs.making.take_back.Goals as goal

pub loop-change-preserved-in_ok-change : goal.loop-change-preserved-in_ok-change
loop-change-preserved-in_ok-change c =
    let left = c.pop.new.self in
    let t = c.loop-change.tables in
    ap (taken_back left) (c.in_ok-change.ensures.after ∙ (λ j. unwrap_or (apply_change (c.inverse.ensures j) t) t))
    ∙ sym (taken_back-last left c.in-Some.change t) ∙ ap (λ (l : List Change). taken_back l t) (sym c.in-Some.ensures) ∙ c.loop-change.invariant

pub loop-change-preserved-in_ok-change-2 : goal.loop-change-preserved-in_ok-change-2
loop-change-preserved-in_ok-change-2 c =
    let left = c.pop.new.self in
    let t = c.loop-change.tables in
    ap (taken_back left) (c.in_ok-change.ensures.after ∙ (λ j. unwrap_or (apply_change (c.inverse.ensures j) t) t))
    ∙ sym (taken_back-last left c.in-Some.change t) ∙ ap (λ (l : List Change). taken_back l t) (sym c.in-Some.ensures) ∙ c.loop-change.invariant

pub loop-change-preserved : goal.loop-change-preserved
loop-change-preserved c =
    let left = c.pop.new.self in
    let t = c.loop-change.tables in
    ap (taken_back left) (c.in_ok-change.ensures.after ∙ (λ j. unwrap_or (apply_change (c.inverse.ensures j) t) t))
    ∙ sym (taken_back-last left c.in-Some.change t) ∙ ap (λ (l : List Change). taken_back l t) (sym c.in-Some.ensures) ∙ c.loop-change.invariant

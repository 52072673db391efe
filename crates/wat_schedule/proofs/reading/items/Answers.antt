use Rattle.std.proofs.Common.{◌≡◌, ◌∙◌, sym, ap, ap₂, ℕ, List, [], ◌∷◌, ◌++◌, length, map, arith, lit<}
use Rattle.std.proofs.lemmas.Bool.{eqb-false}
use Rattle.std.proofs.lemmas.Iterator.Consumers.{YieldsList-end, YieldsList-turn}
use Rattle.std.proofs.lemmas.Iterator.Splits.{YieldsList-from_str_split}
use Rattle.std.proofs.lemmas.List.{map_push}
use Rattle.std.proofs.lemmas.List.Elements.{All-push, All-same}
use Rattle.wat_schedule.specs.Schedule.{IsConnection, item_text}
use Rattle.wat_schedule.proofs.Written.{no_schedule, schedule_of_words}
use Rattle.wat_schedule.proofs.reading.items.Goals as goal

pub returns-in_default-clause-none : goal.returns-in_default-clause-none
returns-in_default-clause-none c =
    let turn = YieldsList-turn (YieldsList-from_str_split 32 c.args.text.now (lit< tt) (cc) (cc) (cc)) c.loop-word.yielded _ c.loop-word.yielded_by _ _ c.in-Some.word c.in-Some.is c.next.ensures.steps in
    let some = eqb-false (length c.args.text.now) 0 (sym c.is_empty.ensures ∙ c.if-is_empty.false) in
    no_schedule c.args.count c.args.text.now (length c.loop-word.yielded) c.in-Some.word.now (omega arith) (omega arith) turn.0 turn.1 c.in_default.ensures.none

pub loop-word-preserved : goal.loop-word-preserved
loop-word-preserved c =
    let before = c.loop-word.invariant in
    let item = c.in-Some-read_item.item in
    let is = c.in-Some-read_item.ensures.some in
    let pushed : c.push.new.self ≡ c.loop-word.items ++ item ∷ [] = c.in_ok-push.ensures.ok in
    record {
      can_next = tt;
      is_finite = tt;
      read =
          ap (map item_text) pushed ∙ map_push item_text c.loop-word.items item ∙ ap₂ (λ (a : List (List ℕ)) (b : List ℕ). a ++ b ∷ []) before.read (sym is.0) ∙ sym (map_push (λ w. w.now) c.loop-word.yielded c.in-Some.word);
      within =
          All-same (λ item. IsConnection c.args.count item.conn) c.push.new.self (c.loop-word.items ++ item ∷ []) pushed (All-push (λ item. IsConnection c.args.count item.conn) c.loop-word.items item before.within is.1);
    }

pub returns-clause-some : goal.returns-clause-some
returns-clause-some c =
    let end = YieldsList-end (YieldsList-from_str_split 32 c.args.text.now (lit< tt) (cc) (cc) (cc)) c.loop-word.yielded _ c.loop-word.yielded_by _ _ c.in-None.is c.next.ensures.steps in
    record {
      spelled = schedule_of_words c.args.text.now c.loop-word.items (c.loop-word.invariant.read ∙ end.0);
      within = c.loop-word.invariant.within;
    }

use Rattle.std.proofs.Common.{get_or, take, sym, subst, arith}
use Rattle.std.proofs.lemmas.List.{take_all, take_more}
use Rattle.wat_payload.specs.Reading.{IsSetOf}
use Rattle.wat_payload.proofs.Seen.{none_seen, one_seen}
use Rattle.wat_free_list.proofs.reading.page_set.Goals as goal

pub loop-page-init : goal.loop-page-init
loop-page-init c = none_seen _ c.new-set.ensures.empty c.new-set.ensures.ordered

pub loop-page-preserved : goal.loop-page-preserved
loop-page-preserved c =
    let xs = c.args.pages.now in
    let i = c.loop-page.page-index in
    subst (IsSetOf c.insert.new.self.keys) (sym (take_more xs i 0 c.loop-page-test.true))
    (one_seen c.loop-page.set c.insert.new.self (take i xs) (get_or xs i 0) c.loop-page.invariant (omega arith) c.in_ok-insert.ensures.updates c.in_ok-insert.ensures.keys c.insert.ensures.ordered)

pub returns : goal.returns
returns c = subst (IsSetOf c.loop-page.set.keys) (take_all c.loop-page.page-index c.args.pages.now c.loop-page-test.false) c.loop-page.invariant

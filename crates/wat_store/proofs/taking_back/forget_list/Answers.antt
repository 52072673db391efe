use Rattle.std.proofs.Common.{◌≡◌, ◌∙◌, suc, sym, length, arith, subst}
use Rattle.wat_recover.proofs.Stepping.{left, popped_left}
use Rattle.wat_objects.specs.Objects.{HoldsOn}
use Rattle.wat_store.proofs.Undoing.{all_left}
use Rattle.wat_store.proofs.taking_back.forget_list.Goals as goal

pub loop-i-init : goal.loop-i-init
loop-i-init c = record {
  stands = λ book held is n e. subst (λ u. HoldsOn book c.args.objects.now u) (all_left held c.args.conn n (omega (arith, e))) is;
  pages = search;
}

pub loop-i-preserved : goal.loop-i-preserved
loop-i-preserved c = record {
  stands = λ book held is n e. popped_left (HoldsOn book c.pop.new.self) held c.args.conn n c.pop.result (omega (arith, e))
      (c.pop.ensures.popped book (left held c.args.conn (suc n)) (c.loop-i.invariant.stands book held is (suc n) (omega (arith, e))));
  pages = c.pop.ensures.pages ∙ c.loop-i.invariant.pages;
}

pub returns-clause-left : goal.returns-clause-left
returns-clause-left c book held is =
    c.loop-i.invariant.stands book held is 0 (omega (arith, c.count-standing.ensures book held is))

use Rattle.std.proofs.Common.{◌≡◌, ◌<◌, ◌++◌, length, List, [], ◌∷◌, Some, take, sym, ap, ◌∙◌, subst, arith}
use Rattle.std.specs.Prelude.{slice_get, remove}
use Rattle.wat_level.specs.declared.change.Spot.{Spot}
use Rattle.wat_statement_locks.specs.Inheriting.{AreInheriting}
use Rattle.wat_statement_locks.proofs.SpotLemmas.{first_left, inheriting_push, some_left}
use Rattle.wat_statement_locks.proofs.inheritance.inheriting.Goals as goal

pub remove-spot-requires : goal.remove-spot-requires
remove-spot-requires c =
    let low : c.loop-i._i < length c.args.spots = omega arith in
    some_left c.args.spots c.loop-i.left c.loop-i._i low c.loop-i.invariant.1

pub loop-i-preserved : goal.loop-i-preserved
loop-i-preserved c =
    let spot = c.remove-spot.result in
    let first = subst (λ (ls : List Spot). slice_get ls 0 ≡ Some spot) c.loop-i.invariant.1 c.remove-spot.ensures.item in
    let both = first_left c.args.spots c.loop-i._i spot first in
    let pushed = inheriting_push c.args.locks.now c.args.conn c.args.table (take c.loop-i._i c.args.spots) c.loop-i.after spot c.in_ok-one.one c.loop-i.invariant.0 c.in_ok-one.ensures in (
      subst (λ (xs : List Spot). AreInheriting c.args.locks.now c.args.conn c.args.table xs c.push.new.self) (sym both.0)
          (subst (λ (ys : List Spot). AreInheriting c.args.locks.now c.args.conn c.args.table (take c.loop-i._i c.args.spots ++ spot ∷ []) ys) (sym c.in_ok-push.ensures.ok) pushed),
      c.remove-spot.ensures.rest ∙ ap (λ (ls : List Spot). remove ls 0) c.loop-i.invariant.1 ∙ both.1,
    )

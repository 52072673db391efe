use Rattle.std.proofs.Common.{◌≡◌, Some, sym, subst}
use Rattle.std.specs.List.{remove, slice_get}
use Rattle.wat_recover.specs.Goes.{Popped}
use Rattle.wat_recover.specs.Listed.{lists_of, IsLastOf}
use Rattle.wat_recover.proofs.Listing.{popped}
use Rattle.wat_recover.proofs.change_lists.ChangeLists.pop.Goals as goal

pub returns : goal.returns
returns c =
    let e : c.as_slice.result.now ≡ c.args.self.now = cc in
    let last : IsLastOf c.args.self.now c.args.conn c.in_ok-i.i = subst (λ xs. IsLastOf xs c.args.conn c.in_ok-i.i) e c.in_ok-i.ensures in
    let at : slice_get c.args.self.now c.in_ok-i.i ≡ Some c.remove-change.result = cc in
    let rest : c.remove-change.new.self ≡ remove c.args.self.now c.in_ok-i.i = cc in
    subst (λ ys. Popped c.args.conn c.remove-change.result.change (lists_of c.args.self.now) (lists_of ys)) (sym rest)
    (popped c.args.self.now c.args.conn c.in_ok-i.i c.remove-change.result last at)

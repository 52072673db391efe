use Rattle.std.proofs.Common.{◌≡◌, ◌∙◌, sym, subst, ap, List}
use Rattle.wat_locks.specs.declared.held.Held.{Held}
use Rattle.wat_locks.specs.Held.{Holds}
use Rattle.wat_locks.specs.Tables.{all_held}
use Rattle.wat_locks.proofs.AskLemmas.{holding_is}
use Rattle.wat_locks.proofs.locks.Locks.holds.Goals as goal

pub returns : goal.returns
returns c =
    let conn = c.args.conn in
    let lock = c.args.lock.now in
    let tables = c.as_slice.result.now in
    let says = holding_is tables conn lock in
    let is : all_held tables ≡ c.args.self.now = ap all_held c.as_slice.ensures.value ∙ c.self.view_is in (
      λ yes. subst (λ (hs : List Held). Holds hs conn lock) is (says.0 (sym c.is_holding.ensures ∙ yes)),
      λ h. c.is_holding.ensures ∙ says.1 (subst (λ (hs : List Held). Holds hs conn lock) (sym is) h),
    )

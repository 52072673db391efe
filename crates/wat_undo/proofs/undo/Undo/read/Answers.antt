use Rattle.std.proofs.Common.{◌≡◌, ◌+◌, ℕ, List, true, false, ◌∙◌, subst, arith}
use Rattle.wat_undo.specs.Kept.{lists_of}
use Rattle.wat_undo.proofs.Spelling.{ReadsTo, open_read, same_list, same_rest, reads_no_more, reads_no_rise, starts, last_of_all, appends, passes}
use Rattle.wat_undo.proofs.undo.Undo.read.Goals as goal
use Rattle.wat_undo.proofs.undo.Undo.read.Goals.{then-not-is_empty+in_ok-append-in-Some, else-not-is_empty}

pub loop-i-init : goal.loop-i-init
loop-i-init c = starts c.args.bytes.now c.new-undo.result c.new-undo.ensures

pub returns-then-from-next : goal.returns-then-from-next
returns-then-from-next c =
    let read = rw c.in-Some.is at c.in_ok-conn.ensures in
    reads_no_rise c.args.bytes.now (lists_of c.loop-i.undo) c.loop-i.rest.now _ c.loop-i.next c.loop-i._i c.args.count _ c.loop-i.invariant.reads (omega arith) read (omega arith)

pub returns-in-None : goal.returns-in-None
returns-in-None c =
    reads_no_more c.args.bytes.now (lists_of c.loop-i.undo) c.loop-i.rest.now c.loop-i.next c.loop-i._i c.args.count c.loop-i.invariant.reads (omega arith) (rw c.in-None.is at c.in_ok-conn.ensures)

pub append-requires-clause-open : goal.append-requires-clause-open
append-requires-clause-open c =
    let read = rw c.in-Some.is at c.in_ok-conn.ensures in
    open_read c.in-Some.conn _ _ read.can (λ none. let is : c.is_empty.result ≡ true = c.is_empty.ensures.1 none in let isnt : c.is_empty.result ≡ false = c.if-not-is_empty.true in cc) (same_list _ _ c.in-Some.changes-in-Some-1-own.given.1)

pub append-requires-clause-last : goal.append-requires-clause-last
append-requires-clause-last c = last_of_all c.loop-i.undo c.loop-i.next c.in-Some.conn c.loop-i.invariant.below (omega arith)

pub loop-i-preserved : goal.loop-i-preserved
loop-i-preserved c =
    let read = rw c.in-Some.is at c.in_ok-conn.ensures in
    let one = c.in-Some.changes-in-Some-1-own.given.1 in
    let more : ReadsTo c.args.bytes.now c.if-not-is_empty.undo c.in-Some.behind.now (c.from-next.result + 1) (c.loop-i._i + 1) = elim c.if-not-is_empty.branch [
      | then-not-is_empty+in_ok-append-in-Some w ↦
          appends c.args.bytes.now c.loop-i.undo c.if-not-is_empty.undo c.loop-i.rest.now c.in-Some.behind.now c.loop-i.next (c.from-next.result + 1) c.loop-i._i c.in-Some.conn _ _ c.loop-i.invariant read (omega arith) (omega arith) (w.undo-is ∙ w.in_ok-append-in-Some.ensures) (same_list _ _ one)
      | else-not-is_empty w ↦
          passes c.args.bytes.now c.loop-i.undo c.if-not-is_empty.undo c.loop-i.rest.now c.in-Some.behind.now c.loop-i.next (c.from-next.result + 1) c.loop-i._i c.in-Some.conn _ _ c.loop-i.invariant read (omega arith) (omega arith) (c.is_empty.ensures.0 w.if-not-is_empty.false) w.undo-is (same_list _ _ one)
    ] in
    subst (λ (l : List ℕ). ReadsTo c.args.bytes.now c.if-not-is_empty.undo l (c.from-next.result + 1) (c.loop-i._i + 1)) (same_rest _ _ one) more

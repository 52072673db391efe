use Rattle.std.proofs.Common.{◌≡◌, true, false}
use Rattle.std.specs.Ordering.{nat_cmp}
use Rattle.std.specs.BTreeMap.{is_at}
use Rattle.wat_undo.proofs.Keeping.{some_there, not_empty, emptied_lists, popped_lists, open_removed, open_popped}
use Rattle.wat_undo.proofs.lists.pop_from.Goals as goal

-- no list that is kept is empty
pub returns-in_default-pop-clause-popped : goal.returns-in_default-pop-clause-popped
returns-in_default-pop-clause-popped c = absurd (not_empty c.args.lists.now c.args.conn c.in-Some.list.now c.in-Some.ensures.value c.requires c.in_default-pop.ensures.0)

pub returns-in_default-pop-clause-open : goal.returns-in_default-pop-clause-open
returns-in_default-pop-clause-open c = absurd (not_empty c.args.lists.now c.args.conn c.in-Some.list.now c.in-Some.ensures.value c.requires c.in_default-pop.ensures.0)

pub returns-then-is_empty-clause-popped : goal.returns-then-is_empty-clause-popped
returns-then-is_empty-clause-popped c =
    let old = c.args.lists.now in
    let list = c.in-Some.list.now in
    let rest = c.pop.new.self in
    let there = c.in-Some.ensures.value in
    emptied_lists old c.args.conn list there (c.get_mut.follows.lender rest) c.remove.new.self rest c.in-Some-pop.change ((c.get_mut.follows.holds rest).3 (some_there old c.args.conn list there)).0
    c.remove.ensures.updates.0 (c.is_empty.ensures.0 c.if-is_empty.true) c.in-Some-pop.ensures

pub returns-then-is_empty-clause-open : goal.returns-then-is_empty-clause-open
returns-then-is_empty-clause-open c =
    let rest = c.pop.new.self in
    open_removed (is_at (nat_cmp c.args.conn)) c.args.lists.now.entries (c.get_mut.follows.lender rest).entries c.remove.new.self.entries rest c.requires (c.get_mut.follows.holds rest).0 c.remove.ensures.entries c.remove.ensures.ordered

pub returns-clause-popped : goal.returns-clause-popped
returns-clause-popped c =
    let old = c.args.lists.now in
    let list = c.in-Some.list.now in
    let rest = c.pop.new.self in
    let there = c.in-Some.ensures.value in
    popped_lists old c.args.conn list there (c.get_mut.follows.lender rest) rest c.in-Some-pop.change ((c.get_mut.follows.holds rest).3 (some_there old c.args.conn list there)).0 c.in-Some-pop.ensures

pub returns-clause-open : goal.returns-clause-open
returns-clause-open c =
    let rest = c.pop.new.self in
    open_popped c.args.lists.now c.args.conn c.in-Some.list.now c.in-Some.ensures.value (c.get_mut.follows.lender rest) rest c.in-Some-pop.change c.requires (c.get_mut.follows.holds rest).0 (c.get_mut.follows.holds rest).4 c.in-Some-pop.ensures
    (λ none. let is : c.is_empty.result ≡ true = c.is_empty.ensures.1 none in let isnt : c.is_empty.result ≡ false = c.if-is_empty.false in cc)

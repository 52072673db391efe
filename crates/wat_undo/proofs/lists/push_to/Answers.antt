use Rattle.wat_undo.proofs.Keeping.{some_there, pushed_lists, same_lists, open_pushed, open_same}
use Rattle.wat_undo.proofs.lists.push_to.Goals as goal

pub returns-in-Ok-clause-pushed : goal.returns-in-Ok-clause-pushed
returns-in-Ok-clause-pushed c =
    let old = c.args.lists.now in
    let list = c.in-Some.list.now in
    let longer = c.add.new.list in
    let there = c.in-Some.ensures.value in
    pushed_lists old c.args.conn list there (c.get_mut.follows.lender longer) longer c.args.change ((c.get_mut.follows.holds longer).3 (some_there old c.args.conn list there)).0 c.in-Ok.ensures.added

pub returns-in-Ok-clause-open : goal.returns-in-Ok-clause-open
returns-in-Ok-clause-open c =
    let longer = c.add.new.list in
    open_pushed c.args.lists.now c.args.conn c.in-Some.list.now c.in-Some.ensures.value (c.get_mut.follows.lender longer) longer c.args.change c.requires.open (c.get_mut.follows.holds longer).0 (c.get_mut.follows.holds longer).4
    c.in-Ok.ensures.added c.in-Ok.ensures.few c.requires.writable

pub returns-in-Err-clause-kept : goal.returns-in-Err-clause-kept
returns-in-Err-clause-kept c =
    let old = c.args.lists.now in
    let list = c.in-Some.list.now in
    let again = c.add.new.list in
    let there = c.in-Some.ensures.value in
    same_lists old c.args.conn list there (c.get_mut.follows.lender again) again ((c.get_mut.follows.holds again).3 (some_there old c.args.conn list there)).0 c.in-Err.ensures.kept

pub returns-in-Err-clause-open : goal.returns-in-Err-clause-open
returns-in-Err-clause-open c =
    let again = c.add.new.list in
    open_same c.args.lists.now c.args.conn c.in-Some.list.now c.in-Some.ensures.value (c.get_mut.follows.lender again) again c.requires.open (c.get_mut.follows.holds again).0 (c.get_mut.follows.holds again).4 c.in-Err.ensures.kept

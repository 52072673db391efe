use Rattle.std.proofs.Common.{◌∷◌, [], ◌++◌, take, false, true}
use Rattle.wat_translate.proofs.Telling.{entry_not, entry_told, told_as}
use Rattle.wat_translate.proofs.reading.tell_entries.Goals as goal

pub returns-then-not-branch : goal.returns-then-not-branch
returns-then-not-branch c before s h =
    let t = c.loop-entry.invariant before s h in
    let front = before ++ take c.loop-entry.entry-index c.args.entries.now in
    entry_not c.tell_entry.new.reader c.tell_entry.new.text.items before c.args.entries.now c.loop-entry.entry-index c.entry-item.result s c.loop-entry.reader c.loop-entry.text.items c.loop-entry-test.true c.entry-item.is t
    (told_as c.tell_entry.new.reader c.tell_entry.new.text.items front (c.entry-item.result ∷ []) t.0 c.in_ok-tell_entry.field-0 false c.if-not-branch.true (c.in_ok-tell_entry.ensures front t.0 t.2))

pub loop-entry-preserved : goal.loop-entry-preserved
loop-entry-preserved c before s h =
    let t = c.loop-entry.invariant before s h in
    let front = before ++ take c.loop-entry.entry-index c.args.entries.now in
    entry_told c.tell_entry.new.reader c.tell_entry.new.text.items before c.args.entries.now c.loop-entry.entry-index c.entry-item.result s c.loop-entry.reader c.loop-entry.text.items c.loop-entry-test.true c.entry-item.is t
    (told_as c.tell_entry.new.reader c.tell_entry.new.text.items front (c.entry-item.result ∷ []) t.0 c.in_ok-tell_entry.field-0 true c.if-not-branch.false (c.in_ok-tell_entry.ensures front t.0 t.2))

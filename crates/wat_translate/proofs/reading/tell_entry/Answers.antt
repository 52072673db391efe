use Rattle.wat_translate.proofs.Telling.{lawful, if_told}
use Rattle.wat_translate.proofs.reading.tell_entry.Goals as goal

pub returns : goal.returns
returns c before s h =
    if_told c.args.reader.now c.apply.new.self c.args.text.now.items c.tell_transaction.new.text.items before c.args.entry.now s c.apply.result h (c.in_ok-tell_transaction.ensures s h.at) (c.apply.ensures s h.at (lawful before s h.replays))

use Rattle.std.proofs.Common.{◌∙◌, ap}
use Rattle.std.proofs.lemmas.Result.{on_ok_weaker}
use Rattle.wat_schema.specs.Tables.{apply_change}
use Rattle.wat_recover.proofs.Stepping.{known, last_undone}
use Rattle.wat_recover.proofs.undoing.undo_last.Goals as goal

pub returns-in-Some-clause-undone : goal.returns-in-Some-clause-undone
returns-in-Some-clause-undone g c s n holds lawful len =
    let p = c.in-Some.ensures.popped s holds in
    let l = last_undone s c.args.conn n c.in-Some.change p.0 lawful (known c.args.conn c.ranges.conn.fits) len p.1 in
    let made = c.make.ensures.made (record { tables = s.tables; lists = p.0 }) l.to p.2 (ap (λ x. apply_change x s.tables) c.inverse.ensures ∙ l.makes) in
    on_ok_weaker c.make.result (λ stands. (record { tables = l.to; lists = p.0 }, l.applies, stands)) made

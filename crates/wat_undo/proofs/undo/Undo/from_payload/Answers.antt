use Rattle.std.proofs.Common.{◌≡◌, ◌==◌, true, false, length, ap, sym, ◌∙◌}
use Rattle.wat_undo.proofs.Spelling.{none_behind, none_longer}
use Rattle.wat_undo.proofs.undo.Undo.from_payload.Goals as goal

pub returns-else-is_empty-clause-none : goal.returns-else-is_empty-clause-none
returns-else-is_empty-clause-none c =
    let read = rw c.in-Some-2.is at c.in_ok-undo.ensures in
    none_longer c.args.payload.now c.in-Some.rest.now c.in-Some-2.rest.now c.in-Some.count _ c.in-Some.ensures read
    (λ none. let is : c.is_empty.result ≡ true = c.is_empty.ensures ∙ ap (λ l. length l == 0) none in let isnt : c.is_empty.result ≡ false = c.if-is_empty.false in cc)

pub returns-in-None-clause-none : goal.returns-in-None-clause-none
returns-in-None-clause-none c = none_behind c.args.payload.now c.in-Some.rest.now c.in-Some.count c.in-Some.ensures (rw c.in-None.is at c.in_ok-undo.ensures)

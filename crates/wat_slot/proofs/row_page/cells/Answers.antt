use Rattle.std.proofs.Common.{◌≡◌, ◌+◌, ◌++◌, ◌∷◌, [], ◌-◌, length, take, drop, sym, ◌∙◌, ap, subst, arith, length-append, length-drop}
use Rattle.std.proofs.lemmas.List.{take_rest, drop-drop}
use Rattle.wat_slot.specs.Cells.{BeginsWithCell}
use Rattle.wat_slot.proofs.Reading.{ReadsSoFar, reads_more, reads_all, reads_no_more, begins_long, few}
use Rattle.wat_slot.proofs.row_page.cells.Goals as goal

pub returns-in_default-clause-none : goal.returns-in_default-clause-none
returns-in_default-clause-none c cells is = c.in_default.ensures.none (length cells) (few c.args.page.now cells is) (ap (take 16) c.as_slice-bytes.ensures.bytes ∙ is.front)

pub returns-in_default-first_cell-clause-none : goal.returns-in_default-first_cell-clause-none
returns-in_default-first_cell-clause-none c =
    let page = c.args.page.now in
    let bytes = c.as_slice-bytes.ensures.bytes in
    let i = c.loop-i.invariant in
    let rest : take (length c.as_slice-bytes.result.now - c.loop-i.at) (drop c.loop-i.at c.as_slice-bytes.result.now) ≡ drop c.loop-i.at page = take_rest c.as_slice-bytes.result.now c.loop-i.at ∙ ap (drop c.loop-i.at) bytes in
    reads_no_more page c.loop-i.cells (drop c.loop-i.at page) c.in-Some.count c.as_slice-bytes.ensures.whole c.in-Some.ensures.fits i.read (ap (take 16) (sym bytes) ∙ c.in-Some.ensures.some) (omega (arith, i.count, c.loop-i-test.true))
    (λ cell begins. c.in_default-first_cell.ensures.none cell (subst (λ l. BeginsWithCell l cell) (sym rest) begins))

pub loop-i-preserved : goal.loop-i-preserved
loop-i-preserved c =
    let page = c.args.page.now in
    let bytes = c.as_slice-bytes.ensures.bytes in
    let at = c.loop-i.at in
    let cell = c.in-Some-first_cell.cell.now in
    let i = c.loop-i.invariant in
    let rest : take (length c.as_slice-bytes.result.now - at) (drop at c.as_slice-bytes.result.now) ≡ drop at page = take_rest c.as_slice-bytes.result.now at ∙ ap (drop at) bytes in
    let begins : BeginsWithCell (drop at page) cell = subst (λ l. BeginsWithCell l cell) rest c.in-Some-first_cell.ensures.some in
    let more : drop (at + (2 + length cell)) page ≡ drop (2 + length cell) (drop at page) = sym (drop-drop (2 + length cell) at page) in
    let pushed = c.in_ok-push.ensures.ok ∙ ap (λ x. c.loop-i.cells ++ x ∷ []) c.in_ok-from_slice.ensures in
    record {
      count = omega (arith, i.count, ap length pushed, length-append c.loop-i.cells (cell ∷ []));
      within = omega (arith, i.within, begins_long (drop at page) cell begins, length-drop at page);
      read = subst (λ l. ReadsSoFar page l (drop (at + (2 + length cell)) page)) (sym pushed) (reads_more page c.loop-i.cells (drop at page) cell (drop (at + (2 + length cell)) page) i.read begins more);
    }

pub returns-clause-some : goal.returns-clause-some
returns-clause-some c =
    let page = c.args.page.now in
    reads_all page c.loop-i.cells (drop c.loop-i.at page) c.in-Some.count c.as_slice-bytes.ensures.whole c.loop-i.invariant.read (ap (take 16) (sym c.as_slice-bytes.ensures.bytes) ∙ c.in-Some.ensures.some) (omega (arith, c.loop-i.invariant.count))

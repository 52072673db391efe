use Rattle.std.proofs.Common.{◌≡◌, ◌+◌, ◌<◌, List, [], ◌∷◌, ◌++◌, length, take, drop, get_or, suc, add-one, true, false, refl, sym, ap, ap₂, subst, ◌∙◌, arith}
use Rattle.std.proofs.Math.Seq.{drop-cons}
use Rattle.std.proofs.lemmas.List.{take_all, take_more, take-append-drop}
use Rattle.wat_slot.specs.Cells.{cells_bytes}
use Rattle.wat_slot.proofs.Writing.{length-more, length-part}
use Rattle.wat_directory.specs.Known.{page_at, row_pages}
use Rattle.wat_heap.specs.Taking.{def_in, IsRowList}
use Rattle.wat_heap.proofs.Counts.{known_here, more_count}
use Rattle.wat_heap.proofs.Taken.{Sofar, all_taken, broken, first, one_more}
use Rattle.wat_heap.proofs.taking.take_rows.Goals as goal

pub loop-cell-init : goal.loop-cell-init
loop-cell-init c = record {
  used_is = refl;
  sofar = λ pages rows h none. first c.args.directory.now c.open.new.self (def_in c.args.defs.now) c.args.page pages rows h none c.in_ok-open.ensures.page c.in_ok-open.ensures.places;
  count = λ none. more_count (row_pages c.open.new.self) (row_pages c.args.directory.now) (page_at c.args.directory.now c.args.page) c.in_ok-open.ensures.count none;
  known = known_here c.args.page (record { used = 0; names = [] }) c.args.directory.now c.open.new.self c.in_ok-open.ensures.page;
}

pub take_row-requires-clause-used : goal.take_row-requires-clause-used
take_row-requires-clause-used c =
    omega (arith, length-more c.args.cells.now c.loop-cell.cell-index c.cell-item.result c.loop-cell-test.true c.cell-item.is, length-part c.args.cells.now (c.loop-cell.cell-index + 1), c.requires.fit, c.loop-cell.invariant.used_is, ap length c.as_slice.ensures)

pub overflow_cast-used : goal.overflow_cast-used
overflow_cast-used c = omega (arith, length-more c.args.cells.now c.loop-cell.cell-index c.cell-item.result c.loop-cell-test.true c.cell-item.is, length-part c.args.cells.now (c.loop-cell.cell-index + 1), c.requires.fit, c.len.ensures)

pub overflow_add-used : goal.overflow_add-used
overflow_add-used c = omega (arith, length-more c.args.cells.now c.loop-cell.cell-index c.cell-item.result c.loop-cell-test.true c.cell-item.is, length-part c.args.cells.now (c.loop-cell.cell-index + 1), c.requires.fit, c.len.ensures)

pub overflow_add-used-in-loop-cell : goal.overflow_add-used-in-loop-cell
overflow_add-used-in-loop-cell c = omega (arith, length-more c.args.cells.now c.loop-cell.cell-index c.cell-item.result c.loop-cell-test.true c.cell-item.is, length-part c.args.cells.now (c.loop-cell.cell-index + 1), c.requires.fit, c.loop-cell.invariant.used_is, c.len.ensures)

pub returns-then-not-branch-clause-broken : goal.returns-then-not-branch-clause-broken
returns-then-not-branch-clause-broken c pages rows h none _ after are =
    let defs = def_in c.args.defs.now in
    let cells = c.args.cells.now in
    let i = c.loop-cell.cell-index in
    let cell = c.as_slice.result.now in
    let here : cell ≡ get_or cells i c.cell-item.result = c.as_slice.ensures ∙ c.cell-item.is in
    let whole : cells ≡ take i cells ++ cell ∷ drop (suc i) cells =
    sym (take-append-drop i cells) ∙ ap (λ l. take i cells ++ l) (drop-cons cells i c.cell-item.result c.loop-cell-test.true ∙ ap (λ x. x ∷ drop (suc i) cells) (sym here)) in
    broken c.loop-cell.directory defs c.args.page c.loop-cell.used (take i cells) cell (drop (suc i) cells) pages rows after (c.loop-cell.invariant.sofar pages rows h none)
    (c.in_ok-take_row.ensures.broken c.if-not-branch.true) (subst (λ l. IsRowList defs l rows after) whole are)

pub loop-cell-preserved : goal.loop-cell-preserved
loop-cell-preserved c =
    let defs = def_in c.args.defs.now in
    let cells = c.args.cells.now in
    let i = c.loop-cell.cell-index in
    let cell = c.as_slice.result.now in
    let takes = c.in_ok-take_row.ensures.taken c.if-not-branch.false in
    let size : c.loop-cell.used + 2 + length cell ≡ c.loop-cell.used + (2 + c.len.result) = omega (arith, ap length c.as_slice.ensures, c.len.ensures) in
    let more : take i cells ++ cell ∷ [] ≡ take (i + 1) cells = ap (λ x. take i cells ++ x ∷ []) (c.as_slice.ensures ∙ c.cell-item.is) ∙ sym (take_more cells i c.cell-item.result c.loop-cell-test.true) in
    record {
      used_is = omega (arith, length-more c.args.cells.now c.loop-cell.cell-index c.cell-item.result c.loop-cell-test.true c.cell-item.is, c.loop-cell.invariant.used_is, c.len.ensures);
      sofar = λ pages rows h none.
          subst (λ n. Sofar defs c.args.page n (take (i + 1) cells) pages rows c.take_row.new.directory) size
          (subst (λ l. Sofar defs c.args.page (c.loop-cell.used + 2 + length cell) l pages rows c.take_row.new.directory) more
          (one_more c.loop-cell.directory c.take_row.new.directory defs c.args.page c.loop-cell.used (take i cells) cell pages rows (c.loop-cell.invariant.sofar pages rows h none) takes));
      count = λ none. c.in_ok-take_row.ensures.count c.loop-cell.invariant.known ∙ c.loop-cell.invariant.count none;
      known = known_here c.args.page _ c.loop-cell.directory c.take_row.new.directory takes.page_set;
    }

pub returns-clause-taken : goal.returns-clause-taken
returns-clause-taken c pages rows h none _ =
    let defs = def_in c.args.defs.now in
    let cells = c.args.cells.now in
    all_taken c.loop-cell.directory defs c.args.page c.loop-cell.used cells pages rows
    (subst (λ l. Sofar defs c.args.page c.loop-cell.used l pages rows c.loop-cell.directory) (take_all c.loop-cell.cell-index cells c.loop-cell-test.false) (c.loop-cell.invariant.sofar pages rows h none))

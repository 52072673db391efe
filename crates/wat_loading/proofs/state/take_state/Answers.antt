use Rattle.std.proofs.Common.{◌≡◌, ◌<◌, ap, refl, sym, ◌∙◌, arith}
use Rattle.wat_pages.specs.declared.header.Header.{Header}
use Rattle.wat_pages.specs.Pages.{book_of}
use Rattle.wat_heap.specs.Heaps.{directory_of}
use Rattle.wat_heap.proofs.Doing.{still_held}
use Rattle.wat_undo.specs.Kept.{lists_of}
use Rattle.wat_roots.specs.Roots.{head_now}
use Rattle.wat_roots.proofs.Going.{went_then, stays_then}
use Rattle.wat_undoable.proofs.Stepping.{match_true, match_false}
use Rattle.wat_loading.proofs.Others.{held, all_rows, rows_stop, undo_stop}
use Rattle.wat_loading.proofs.Telling.{never_damaged}
use Rattle.wat_loading.proofs.state.take_state.Goals as goal

pub returns-in-Err-clause-damaged : goal.returns-in-Err-clause-damaged
returns-in-Err-clause-damaged g c tells log has =
    let book = book_of (g.D.Disk.told c.args.disk.now) c.args.pages.now in
    let some : 0 < book.count = omega (arith, c.args.pages.now.are_changed.some, c.args.pages.now.are_changed.more) in
    rows_stop book (head_now c.args.pages.now) has.chains has.has some refl refl c.args.parts.now.schema (lists_of c.args.parts.now.undo) log c.in-Err.refusal c.as_slice.result.now (c.as_slice.ensures.value ∙ sym has.listed) (c.in-Err.ensures.damaged tells)

pub returns-in-Ok-false-clause-damaged : goal.returns-in-Ok-false-clause-damaged
returns-in-Ok-false-clause-damaged g c tells log has =
    let told = g.D.Disk.told in
    let book = book_of (told c.args.disk.now) c.args.pages.now in
    let now = book_of (told c.take_row_pages.new.disk) c.take_row_pages.new.pages in
    let some : 0 < book.count = omega (arith, c.args.pages.now.are_changed.some, c.args.pages.now.are_changed.more) in
    let list = c.as_slice.result.now in
    let is : list ≡ _ = c.as_slice.ensures.value ∙ sym has.listed in
    let to = c.in-Ok.ensures.taken tells in
    let lists = lists_of c.args.parts.now.undo in
    let own = held book (head_now c.args.pages.now) has.chains has.has some refl refl c.args.parts.now.schema lists (directory_of c.in-Ok.heap) list is to in
    undo_stop book (head_now c.args.pages.now) has.chains has.has some refl refl c.args.parts.now.schema lists (directory_of c.in-Ok.heap) log c.damaged.result list is to
    (match_false c.in-Ok-false.field-0 _ _ c.in-Ok-false.field-0-test
    (c.in-Ok-false.ensures.can tells _ has.chains.free to.rows to.t (still_held _ book now _ has.chains.free _ to.rows own (c.in-Ok.ensures.stays tells).pages) to.tables to.is to.at))
    _ (ap (λ (h : Header). h.rollback) (c.header.ensures ∙ (c.take_row_pages.ensures.went tells).head.header)) c.damaged.ensures.place

pub returns-in-Ok-true-clause-taken : goal.returns-in-Ok-true-clause-taken
returns-in-Ok-true-clause-taken g c tells has =
    let told = g.D.Disk.told in
    let book = book_of (told c.args.disk.now) c.args.pages.now in
    let now = book_of (told c.take_row_pages.new.disk) c.take_row_pages.new.pages in
    let some : 0 < book.count = omega (arith, c.args.pages.now.are_changed.some, c.args.pages.now.are_changed.more) in
    let list = c.as_slice.result.now in
    let is : list ≡ _ = c.as_slice.ensures.value ∙ sym has.listed in
    let to = c.in-Ok.ensures.taken tells in
    let lists = lists_of c.args.parts.now.undo in
    let own = held book (head_now c.args.pages.now) has.chains has.has some refl refl c.args.parts.now.schema lists (directory_of c.in-Ok.heap) list is to in
    all_rows book (head_now c.args.pages.now) has.chains has.has some refl refl c.args.parts.now.schema lists (directory_of c.in-Ok.heap) list is to
    (match_true c.in-Ok-true.field-0 _ _ c.in-Ok-true.field-0-test
    (c.in-Ok-true.ensures.can tells _ has.chains.free to.rows to.t (still_held _ book now _ has.chains.free _ to.rows own (c.in-Ok.ensures.stays tells).pages) to.tables to.is to.at))

pub returns-in-Err-can_undo-clause-damaged : goal.returns-in-Err-can_undo-clause-damaged
returns-in-Err-can_undo-clause-damaged g c tells log has =
    let told = g.D.Disk.told in
    let book = book_of (told c.args.disk.now) c.args.pages.now in
    let now = book_of (told c.take_row_pages.new.disk) c.take_row_pages.new.pages in
    let some : 0 < book.count = omega (arith, c.args.pages.now.are_changed.some, c.args.pages.now.are_changed.more) in
    let list = c.as_slice.result.now in
    let is : list ≡ _ = c.as_slice.ensures.value ∙ sym has.listed in
    let to = c.in-Ok.ensures.taken tells in
    let lists = lists_of c.args.parts.now.undo in
    let own = held book (head_now c.args.pages.now) has.chains has.has some refl refl c.args.parts.now.schema lists (directory_of c.in-Ok.heap) list is to in
    never_damaged c.in-Err-can_undo.refusal _ (c.in-Err-can_undo.ensures.undamaged tells _ has.chains.free to.rows (still_held _ book now _ has.chains.free _ to.rows own (c.in-Ok.ensures.stays tells).pages))

pub returns-in-Err-can_undo-clause-went : goal.returns-in-Err-can_undo-clause-went
returns-in-Err-can_undo-clause-went g c tells = went_then _ _ _ _ _ _ (c.take_row_pages.ensures.went tells) (c.in-Ok.ensures.stays tells) (c.can_undo.ensures.went tells)

pub returns-in-Ok-false-clause-went : goal.returns-in-Ok-false-clause-went
returns-in-Ok-false-clause-went g c tells = went_then _ _ _ _ _ _ (c.take_row_pages.ensures.went tells) (c.in-Ok.ensures.stays tells) (c.can_undo.ensures.went tells)

pub returns-in-Ok-true-clause-went : goal.returns-in-Ok-true-clause-went
returns-in-Ok-true-clause-went g c tells = went_then _ _ _ _ _ _ (c.take_row_pages.ensures.went tells) (c.in-Ok.ensures.stays tells) (c.can_undo.ensures.went tells)

pub returns-in-Ok-true-clause-stays : goal.returns-in-Ok-true-clause-stays
returns-in-Ok-true-clause-stays g c tells = stays_then _ _ _ _ _ _ (c.in-Ok.ensures.stays tells) (c.in-Ok-true.ensures.stays tells)

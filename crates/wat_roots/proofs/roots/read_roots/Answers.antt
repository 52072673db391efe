use Rattle.std.proofs.Common.{◌≡◌, ℕ, List, ◌++◌, refl, ap, sym, ◌∙◌}
use Rattle.wat_pages.specs.Pages.{book_of}
use Rattle.wat_cells.proofs.Then.{same_then}
use Rattle.wat_roots.proofs.Going.{went_by, stays_by, went_then, stays_then, head_then}
use Rattle.wat_roots.proofs.Reading.{second_stops, third_stops, roots}
use Rattle.wat_roots.proofs.roots.read_roots.Goals as goal

pub returns-in-Err-read_rollback-clause-damaged : goal.returns-in-Err-read_rollback-clause-damaged
returns-in-Err-read_rollback-clause-damaged g c tells =
    let told = g.D.Disk.told in
    let a = book_of (told c.args.disk.now) c.args.pages.now in
    let b = book_of (told c.read_catalog.new.disk) c.read_catalog.new.pages in
    let one = c.in-Ok.ensures.stays tells in
    let head = (c.read_catalog.ensures.went tells).head in
    second_stops a b b c.args.pages.now c.read_catalog.new.pages c.read_catalog.new.pages one.pages one.pages head head c.in-Ok.chain.pages.items c.in-Ok.chain.payload.items c.in-Ok.ensures.some (c.in-Ok.ensures.chain tells)
    c.in-Err-read_rollback.refusal _ c.as_slice.ensures.value (c.in-Err-read_rollback.ensures.damaged tells)

pub returns-in-Err-read_rollback-clause-went : goal.returns-in-Err-read_rollback-clause-went
returns-in-Err-read_rollback-clause-went g c tells =
    went_then _ _ _ _ _ _ (c.read_catalog.ensures.went tells) (c.in-Ok.ensures.stays tells) (c.read_rollback.ensures.went tells)

pub returns-in-Err-joined-clause-went : goal.returns-in-Err-joined-clause-went
returns-in-Err-joined-clause-went g c tells =
    went_then _ _ _ _ _ _ (c.read_catalog.ensures.went tells) (c.in-Ok.ensures.stays tells) (c.read_rollback.ensures.went tells)

pub returns-in-Err-read_free_list-clause-damaged : goal.returns-in-Err-read_free_list-clause-damaged
returns-in-Err-read_free_list-clause-damaged g c tells =
    let told = g.D.Disk.told in
    let a = book_of (told c.args.disk.now) c.args.pages.now in
    let b = book_of (told c.read_catalog.new.disk) c.read_catalog.new.pages in
    let d = book_of (told c.read_rollback.new.disk) c.read_rollback.new.pages in
    let one = c.in-Ok.ensures.stays tells in
    let two = c.in-Ok-read_rollback.ensures.stays tells in
    let head = (c.read_catalog.ensures.went tells).head in
    third_stops a b d c.args.pages.now c.read_catalog.new.pages c.read_rollback.new.pages one.pages (same_then a b d one.pages two.pages) head (head_then _ _ _ head (c.read_rollback.ensures.went tells).head)
    c.in-Ok.chain.pages.items c.in-Ok.chain.payload.items c.in-Ok.ensures.some (c.in-Ok.ensures.chain tells)
    _ c.in-Ok-read_rollback.chain.pages.items c.in-Ok-read_rollback.chain.payload.items c.as_slice.ensures.value (c.in-Ok-read_rollback.ensures.chain tells)
    c.in-Ok-joined.list.items (c.in-Ok-joined.ensures ∙ ap (λ (l : List ℕ). c.in-Ok.chain.pages.items ++ l) c.as_slice-2.ensures.value) _ c.first_free-first.ensures
    c.in-Err-read_free_list.refusal _ c.as_slice-3.ensures.value (c.in-Err-read_free_list.ensures.damaged tells)

pub returns-in-Err-read_free_list-clause-went : goal.returns-in-Err-read_free_list-clause-went
returns-in-Err-read_free_list-clause-went g c tells =
    went_then _ _ _ _ _ _ (c.read_catalog.ensures.went tells) (c.in-Ok.ensures.stays tells)
    (went_then _ _ _ _ _ _ (c.read_rollback.ensures.went tells) (c.in-Ok-read_rollback.ensures.stays tells)
    (went_by _ _ _ _ c.read_free_list.ensures.others c.read_free_list.ensures.same (c.read_free_list.ensures.stops tells)))

pub returns-in-Err-joined-2-clause-went : goal.returns-in-Err-joined-2-clause-went
returns-in-Err-joined-2-clause-went g c tells =
    went_then _ _ _ _ _ _ (c.read_catalog.ensures.went tells) (c.in-Ok.ensures.stays tells)
    (went_then _ _ _ _ _ _ (c.read_rollback.ensures.went tells) (c.in-Ok-read_rollback.ensures.stays tells)
    (went_by _ _ _ _ c.read_free_list.ensures.others c.read_free_list.ensures.same (c.read_free_list.ensures.stops tells)))

pub returns-in-Ok-joined-2-clause-went : goal.returns-in-Ok-joined-2-clause-went
returns-in-Ok-joined-2-clause-went g c tells =
    went_then _ _ _ _ _ _ (c.read_catalog.ensures.went tells) (c.in-Ok.ensures.stays tells)
    (went_then _ _ _ _ _ _ (c.read_rollback.ensures.went tells) (c.in-Ok-read_rollback.ensures.stays tells)
    (went_by _ _ _ _ c.read_free_list.ensures.others c.read_free_list.ensures.same (c.read_free_list.ensures.stops tells)))

pub returns-in-Ok-joined-2-clause-stays : goal.returns-in-Ok-joined-2-clause-stays
returns-in-Ok-joined-2-clause-stays g c tells =
    stays_then _ _ _ _ _ _ (c.in-Ok.ensures.stays tells)
    (stays_then _ _ _ _ _ _ (c.in-Ok-read_rollback.ensures.stays tells)
    (stays_by _ _ _ _ (c.in-Ok-read_free_list.ensures.pages tells) (c.in-Ok-read_free_list.ensures.known tells) (λ saved safe. c.in-Ok-read_free_list.ensures.safe tells saved safe)))

pub returns-in-Ok-joined-2-clause-read : goal.returns-in-Ok-joined-2-clause-read
returns-in-Ok-joined-2-clause-read g c tells =
    let told = g.D.Disk.told in
    let a = book_of (told c.args.disk.now) c.args.pages.now in
    let b = book_of (told c.read_catalog.new.disk) c.read_catalog.new.pages in
    let d = book_of (told c.read_rollback.new.disk) c.read_rollback.new.pages in
    let one = c.in-Ok.ensures.stays tells in
    let two = c.in-Ok-read_rollback.ensures.stays tells in
    let head = (c.read_catalog.ensures.went tells).head in
    roots a b d c.args.pages.now c.read_catalog.new.pages c.read_rollback.new.pages one.pages (same_then a b d one.pages two.pages) head (head_then _ _ _ head (c.read_rollback.ensures.went tells).head)
    c.in-Ok.chain.pages.items c.in-Ok.chain.payload.items c.in-Ok.ensures.some (c.in-Ok.ensures.chain tells)
    _ c.in-Ok-read_rollback.chain.pages.items c.in-Ok-read_rollback.chain.payload.items c.as_slice.ensures.value (c.in-Ok-read_rollback.ensures.chain tells)
    c.in-Ok-joined.list.items (c.in-Ok-joined.ensures ∙ ap (λ (l : List ℕ). c.in-Ok.chain.pages.items ++ l) c.as_slice-2.ensures.value) _ c.first_free-first.ensures
    _ c.in-Ok-read_free_list.list.items c.in-Ok-joined-2.listed.items c.as_slice-3.ensures.value (c.in-Ok-read_free_list.ensures.read tells)
    (c.in-Ok-joined-2.ensures ∙ ap (λ (l : List ℕ). c.in-Ok-joined.list.items ++ l) c.as_slice-4.ensures.value) _ refl refl refl

use Rattle.std.proofs.Common.{◌≡◌, ◌<◌, inl, refl, sym, ap, subst, ◌∙◌, arith}
use Rattle.wat_disk.specs.Disk.{Image}
use Rattle.wat_restore.specs.Head.{Head}
use Rattle.wat_restore.specs.Opening as opening
use Rattle.wat_restore.specs.Opening.{IsHeadIn}
use Rattle.wat_images.specs.Refusal.{IfDamaged}
use Rattle.wat_images.proofs.Writing.{if_damaged}
use Rattle.wat_pages.specs.declared.header.Header.{Header}
use Rattle.wat_pages.specs.Pages.{book_of}
use Rattle.wat_pages.proofs.Changed.{reads_cover, reads_safe}
use Rattle.wat_payload.proofs.Going.{covers_then}
use Rattle.wat_files.specs.Pages.{first_pages}
use Rattle.wat_files.specs.Formed.{HasHeader, FailsAt, FailsInChains}
use Rattle.wat_free_list.specs.Whole.{whole_pages}
use Rattle.wat_roots.specs.Roots.{head_now}
use Rattle.wat_loading.specs.Loaded.{HoldsRest}
use Rattle.wat_loading.proofs.Together.{fails_there, is_loaded}
use Rattle.wat_loading.proofs.Whole.{whole_first}
use Rattle.wat_loading.proofs.loading.load.Goals as goal

pub returns-in-Err-clause-damaged : goal.returns-in-Err-clause-damaged
returns-in-Err-clause-damaged g c tells =
    let files = (g.D.Disk.told c.args.disk.now).content in
    if_damaged c.in-Err.refusal (opening.FailsAt files) (FailsAt files) (λ file at is. inl is) (c.in-Err.ensures.damaged tells)

pub returns-in-Err-clause-stops : goal.returns-in-Err-clause-stops
returns-in-Err-clause-stops g c tells saved safe = reads_cover saved _ _ safe c.open.ensures.stops

pub returns-in-Err-load_parts-clause-stops : goal.returns-in-Err-load_parts-clause-stops
returns-in-Err-load_parts-clause-stops g c tells saved safe =
    covers_then saved _ _ _ (reads_cover saved _ _ safe c.open.ensures.stops) ((c.load_parts.ensures.went tells).goes.stops saved (reads_safe saved _ _ safe c.open.ensures.content c.open.ensures.stops))

pub returns-clause-stops : goal.returns-clause-stops
returns-clause-stops g c tells saved safe =
    covers_then saved _ _ _ (reads_cover saved _ _ safe c.open.ensures.stops) ((c.load_parts.ensures.went tells).goes.stops saved (reads_safe saved _ _ safe c.open.ensures.content c.open.ensures.stops))

pub returns-clause-safe : goal.returns-clause-safe
returns-clause-safe g c tells saved safe = (c.in-Ok-load_parts.ensures.stays tells).keeps.safe saved (reads_safe saved _ _ safe c.open.ensures.content c.open.ensures.stops)

pub returns-in-Err-load_parts-clause-damaged : goal.returns-in-Err-load_parts-clause-damaged
returns-in-Err-load_parts-clause-damaged g c tells =
    let files = (g.D.Disk.told c.args.disk.now).content in
    let mid = g.D.Disk.told c.open.new.disk in
    let book = book_of mid c.in-Ok.pages in
    let same : mid.content ≡ files = λ i file. c.open.ensures.content file i in
    let head = c.in-Ok.ensures.head tells in
    let tells_it : head_now c.in-Ok.pages ≡ head.0 = head.2.tells in
    fails_there c.in-Err-load_parts.refusal files (head_now c.in-Ok.pages) head.0 (whole_pages book) (record { log = c.in-Ok.ensures.log tells; is = head.1 }) tells_it
    (whole_first book files (c.in-Ok.ensures.stored tells) ∙ ap (λ (h : Head). first_pages files h.count) tells_it)
    (subst (λ (image : Image). IfDamaged c.in-Err-load_parts.refusal (FailsInChains (whole_pages book) (image 2) (head_now c.in-Ok.pages))) same (c.in-Err-load_parts.ensures.damaged tells))

pub returns-clause-loaded : goal.returns-clause-loaded
returns-clause-loaded g c tells =
    let files = (g.D.Disk.told c.args.disk.now).content in
    let mid = g.D.Disk.told c.open.new.disk in
    let pages = c.in-Ok.pages in
    let book = book_of mid pages in
    let final = c.load_parts.new.pages in
    let same : mid.content ≡ files = λ i file. c.open.ensures.content file i in
    let head = c.in-Ok.ensures.head tells in
    let went = (c.load_parts.ensures.went tells).head in
    let some : 0 < book.count = omega (arith, pages.are_changed.some, pages.are_changed.more) in
    let header : HasHeader files (head_now pages) = record { log = c.in-Ok.ensures.log tells; is = subst (IsHeadIn files) (sym head.2.tells) head.1 } in
    is_loaded files (g.D.Disk.told c.load_parts.new.disk) book pages final c.in-Ok-load_parts.rest (c.in-Ok-load_parts.ensures.stays tells).pages went some refl refl (c.in-Ok.ensures.stored tells) header
    (subst (λ (image : Image). HoldsRest book (head_now pages) (image 2) c.in-Ok-load_parts.rest) same (c.in-Ok-load_parts.ensures.loaded tells))
    c.of.result c.of.ensures.pages c.of.ensures.heap c.of.ensures.undo c.of.ensures.schema (c.of.ensures.catalog ∙ ap (λ (h : Header). h.catalog) c.header.ensures)
    (went.stored ∙ head.2.unchanged ∙ sym went.count) (c.in-Ok-load_parts.ensures.stays tells).keeps.known (c.in-Ok-load_parts.ensures.opened tells) c.in-Ok-load_parts.ensures.noted

pub returns-in-Err-load_parts-clause-others : goal.returns-in-Err-load_parts-clause-others
returns-in-Err-load_parts-clause-others g c tells file from = (c.load_parts.ensures.went tells).goes.others file from ∙ c.open.ensures.content file

pub returns-clause-others : goal.returns-clause-others
returns-clause-others g c tells file from = (c.load_parts.ensures.went tells).goes.others file from ∙ c.open.ensures.content file

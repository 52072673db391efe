use Rattle.std.proofs.Common.{◌++◌, ◌∷◌, [], ap, ◌∙◌, arith, if◌then◌else◌}
use Rattle.std.proofs.lemmas.Bool.{ne_eqb}
use Rattle.std.proofs.lemmas.Result.{err_from_is_err_and}
use Rattle.wat_restore.specs.Restored.{page_at, laid}
use Rattle.wat_restore.specs.Safe.{HasPages}
use Rattle.wat_restore.specs.Head.{head_bytes}
use Rattle.wat_pages.specs.Pages.{next_checkpoint, next_head, page_in}
use Rattle.wat_pages.proofs.Changed.{next_has, no_images, nothing_read, cleared_page, none_changed}
use Rattle.wat_pages.proofs.pages.Pages.save.Goals as goal

pub returns-in_err-save_checkpoint-clause-stops : goal.returns-in_err-save_checkpoint-clause-stops
returns-in_err-save_checkpoint-clause-stops g c tells saved safe same =
    let pages = c.args.self.now in
    let told = g.D.Disk.told c.args.disk.now in
    c.save_checkpoint.ensures.stops tells saved (next_checkpoint told pages c.args.header.now) safe same pages.are_changed.some
    (next_has saved told pages c.args.header.now c.in_ok-page.page (g.met.D.Disk.reads_as_left c.args.disk.now tells) safe same (c.requires.none tells) pages.are_changed c.save_checkpoint.ensures.ordered c.in_ok-page.ensures.page c.in_ok-page.ensures.whole)

pub returns-clause-stops : goal.returns-clause-stops
returns-clause-stops g c tells saved safe same =
    let pages = c.args.self.now in
    let told = g.D.Disk.told c.args.disk.now in
    c.save_checkpoint.ensures.stops tells saved (next_checkpoint told pages c.args.header.now) safe same pages.are_changed.some
    (next_has saved told pages c.args.header.now c.in_ok-page.page (g.met.D.Disk.reads_as_left c.args.disk.now tells) safe same (c.requires.none tells) pages.are_changed c.save_checkpoint.ensures.ordered c.in_ok-page.ensures.page c.in_ok-page.ensures.whole)

pub returns-clause-safe : goal.returns-clause-safe
returns-clause-safe g c tells saved safe same =
    let pages = c.args.self.now in
    let told = g.D.Disk.told c.args.disk.now in
    c.in_ok-save_checkpoint.ensures.safe tells saved (next_checkpoint told pages c.args.header.now) safe same pages.are_changed.some
    (next_has saved told pages c.args.header.now c.in_ok-page.page (g.met.D.Disk.reads_as_left c.args.disk.now tells) safe same (c.requires.none tells) pages.are_changed c.save_checkpoint.ensures.ordered c.in_ok-page.ensures.page c.in_ok-page.ensures.whole)

pub returns-clause-pages : goal.returns-clause-pages
returns-clause-pages g c tells saved safe same page not_first below =
    let pages = c.args.self.now in
    let told = g.D.Disk.told c.args.disk.now in
    let new = g.D.Disk.told c.save_checkpoint.new.disk in
    let has : HasPages (laid (told.content 0) (pages.changed.entries ++ (0, c.in_ok-page.page) ∷ [])) (next_checkpoint told pages c.args.header.now) =
    next_has saved told pages c.args.header.now c.in_ok-page.page (g.met.D.Disk.reads_as_left c.args.disk.now tells) safe same (c.requires.none tells) pages.are_changed c.save_checkpoint.ensures.ordered c.in_ok-page.ensures.page c.in_ok-page.ensures.whole in
    cleared_page new _ page c.clear.ensures.empty (c.in_ok-save_checkpoint.ensures.none tells) ∙ ap (λ m. page_at m page) (c.in_ok-save_checkpoint.ensures.written tells) ∙ (has page below).is
    ∙ ap (λ b. if b then head_bytes (next_head pages c.args.header.now) else page_in told pages page) (ne_eqb page 0 (λ e. omega arith))

pub returns-clause-known : goal.returns-clause-known
returns-clause-known g c tells =
    let s = c.args.self.now in
    record {
      log = c.in_ok-save_checkpoint.ensures.known tells;
      images = no_images s.images.entries (g.D.Disk.told c.args.disk.now).content (g.D.Disk.told c.save_checkpoint.new.disk).content (c.requires.none tells) (c.in_ok-save_checkpoint.ensures.none tells) (c.requires.known tells).images;
      read = nothing_read c.clear-2.new.self.entries (g.D.Disk.told c.save_checkpoint.new.disk).content c.clear-2.ensures.empty;
    }

pub invariant_of-self-2 : goal.invariant_of-self-2
invariant_of-self-2 g c = record {
  before_file = c.save_checkpoint.ensures.file;
  are_images = c.args.self.now.are_images;
  are_changed = none_changed _ c.args.self.now.count c.clear.ensures.empty (omega (arith, c.args.self.now.are_changed.some, c.args.self.now.are_changed.more));
}

pub returns-in_err-save_checkpoint-clause-undamaged : goal.returns-in_err-save_checkpoint-clause-undamaged
returns-in_err-save_checkpoint-clause-undamaged g c tells saved safe count =
    let p = err_from_is_err_and c.from_residual-in_err-save_checkpoint.result c.from_residual-in_err-save_checkpoint.ensures.1 in
    rw (p.1, p.2) (c.in_err-save_checkpoint.ensures.undamaged tells saved safe count c.args.self.now.are_changed.some)

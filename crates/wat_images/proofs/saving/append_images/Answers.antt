use Rattle.std.proofs.Common.{◌++◌, ℕ, List, length, take, get_or, refl, sym, ◌∙◌, ap, subst, arith}
use Rattle.std.proofs.lemmas.List.{take_more, take_all}
use Rattle.std.proofs.lemmas.Result.{err_from_is_err_and}
use Rattle.wat_disk.proofs.Stops.{none_same, both_same}
use Rattle.wat_gate.specs.GateLog.{file_of}
use Rattle.wat_gate.specs.Bodies.{IsWhole}
use Rattle.wat_restore.specs.Restored.{page_at, image_bytes}
use Rattle.wat_restore.specs.Images.{encoded, pages_of}
use Rattle.wat_images.proofs.Writing.{no_cause, caused, short_among, encoded-push, reads_add, then_appends}
use Rattle.wat_images.proofs.saving.append_images.Goals as goal

pub loop-page-init : goal.loop-page-init
loop-page-init g c = record {
  frame = λ tells. c.in_ok-frame.ensures;
  size = ap length c.in_ok-frame.ensures;
  content = λ file. refl;
  stops = none_same _;
  cause = no_cause _;
}

pub loop-page-preserved : goal.loop-page-preserved
loop-page-preserved g c =
    let i = c.loop-page.invariant in
    let main = (g.D.Disk.told c.args.disk.now).content 0 in
    let at = c.loop-page.page-index in
    let pages = c.args.pages.now in
    let page = get_or pages at 0 in
    record {
      frame = λ tells.
          c.in_ok-push_image.ensures.pushed tells ∙ ap (λ (m : List ℕ). c.loop-page.frame.body ++ image_bytes (page, page_at m page)) (i.content 0) ∙ ap (λ (l : List ℕ). l ++ image_bytes (page, page_at main page)) (i.frame tells)
          ∙ sym (encoded-push main (take at pages) page) ∙ ap (λ (l : List ℕ). encoded (pages_of main l)) (sym (take_more pages at 0 c.loop-page-test.true));
      size = omega (arith, i.size, c.in_ok-push_image.ensures.size);
      content = λ file. c.push_image.ensures.content file ∙ i.content file;
      stops = both_same _ _ _ i.stops c.push_image.ensures.stops;
      cause = caused _ _ _ _ i.cause c.in_ok-push_image.ensures.cause (λ e. cc);
    }

pub returns-in_err-push_image-clause-stops : goal.returns-in_err-push_image-clause-stops
returns-in_err-push_image-clause-stops g c tells synced =
    let i = c.loop-page.invariant in
    let whole : IsWhole ((g.D.Disk.told c.args.disk.now).content 1) = subst (λ (f : ℕ). IsWhole ((g.D.Disk.told c.args.disk.now).content f)) c.requires.file (c.requires.known tells).whole in
    reads_add _ (g.D.Disk.told c.push_image.new.disk) (g.D.Disk.told c.push_image.new.disk) _ synced whole (both_same _ _ _ i.stops c.push_image.ensures.stops)

pub returns-in_err-push_image-clause-damaged : goal.returns-in_err-push_image-clause-damaged
returns-in_err-push_image-clause-damaged g c tells =
    let i = c.loop-page.invariant in
    let p = err_from_is_err_and c.from_residual-in_err-push_image.result c.from_residual-in_err-push_image.ensures.1 in
    rw (p.1, p.2) (short_among _ _ _ c.args.pages.now c.loop-page.page-index (i.content 0) c.loop-page-test.true (c.in_err-push_image.ensures.damaged tells))

pub returns-in_err-append-clause-stops : goal.returns-in_err-append-clause-stops
returns-in_err-append-clause-stops g c tells synced =
    let i = c.loop-page.invariant in
    let pages = c.args.pages.now in
    let main = (g.D.Disk.told c.args.disk.now).content 0 in
    let whole : IsWhole ((g.D.Disk.told c.args.disk.now).content 1) = subst (λ (f : ℕ). IsWhole ((g.D.Disk.told c.args.disk.now).content f)) c.requires.file (c.requires.known tells).whole in
    let body = i.frame tells ∙ ap (λ (l : List ℕ). encoded (pages_of main l)) (take_all c.loop-page.page-index pages (omega (arith, c.loop-page-test.false))) in
    then_appends _ _ _ (encoded (pages_of main pages)) synced whole i.stops i.content c.loop-page.frame.body (file_of c.args.before.now) body c.requires.file (c.append.ensures.stops tells)

pub returns-clause-stops : goal.returns-clause-stops
returns-clause-stops g c tells synced =
    let i = c.loop-page.invariant in
    let pages = c.args.pages.now in
    let main = (g.D.Disk.told c.args.disk.now).content 0 in
    let whole : IsWhole ((g.D.Disk.told c.args.disk.now).content 1) = subst (λ (f : ℕ). IsWhole ((g.D.Disk.told c.args.disk.now).content f)) c.requires.file (c.requires.known tells).whole in
    let body = i.frame tells ∙ ap (λ (l : List ℕ). encoded (pages_of main l)) (take_all c.loop-page.page-index pages (omega (arith, c.loop-page-test.false))) in
    then_appends _ _ _ (encoded (pages_of main pages)) synced whole i.stops i.content c.loop-page.frame.body (file_of c.args.before.now) body c.requires.file (c.append.ensures.stops tells)

pub returns-then-not-has_room-clause-stops : goal.returns-then-not-has_room-clause-stops
returns-then-not-has_room-clause-stops g c tells synced =
    let i = c.loop-page.invariant in
    let whole : IsWhole ((g.D.Disk.told c.args.disk.now).content 1) = subst (λ (f : ℕ). IsWhole ((g.D.Disk.told c.args.disk.now).content f)) c.requires.file (c.requires.known tells).whole in
    reads_add _ (g.D.Disk.told c.loop-page.disk) (g.D.Disk.told c.loop-page.disk) _ synced whole i.stops

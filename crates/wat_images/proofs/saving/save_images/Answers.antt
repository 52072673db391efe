-- Each turn appends a frame of the next images.
use Rattle.std.proofs.Common.{◌+◌, ◌≤◌, refl, ◌∙◌, subst, arith}
use Rattle.std.proofs.lemmas.List.{take_all}
use Rattle.std.proofs.lemmas.Result.{err_from_is_err_and}
use Rattle.wat_restore.specs.Safe.{HasSaved}
use Rattle.wat_images.proofs.Writing.{no_cause, caused, short_more}
use Rattle.wat_images.proofs.Frames.{chunk_among, chunk_stops, chunk_saves, none_saved, stays_covered}
use Rattle.wat_images.proofs.saving.save_images.Goals as goal

pub loop-at-preserved : goal.loop-at-preserved
loop-at-preserved g c =
    let i = c.loop-at.invariant in
    let at = c.loop-at.at in
    let end = at + c.min.result in
    let order : at ≤ end = omega arith in
    let entry = g.D.Disk.told c.args.disk.now in
    let mid = g.D.Disk.told c.loop-at.disk in
    let new = g.D.Disk.told c.append_images.new.disk in
    record {
      within = omega arith;
      known = c.in_ok-append_images.ensures.known;
      file = c.append_images.ensures.file;
      others = λ other not_it. c.append_images.ensures.others other not_it ∙ i.others other not_it;
      saved = λ tells saved safe can. chunk_saves c.args.pages.now at end order saved entry mid new (g.met.D.Disk.reads_as_left c.args.disk.now tells) safe can (i.others 0 (omega arith)) (i.saved tells saved safe can)
          c.in_ok-append_images.ensures.synced (c.in_ok-append_images.ensures.added tells);
      stops = λ tells saved safe can. chunk_stops c.args.pages.now at end order saved entry mid new (g.met.D.Disk.reads_as_left c.args.disk.now tells) safe can (i.others 0 (omega arith)) (i.saved tells saved safe can)
          (i.stops tells saved safe can) (c.append_images.ensures.stops tells);
      cause = caused _ _ _ _ i.cause c.in_ok-append_images.ensures.cause (λ e. cc);
    }

pub loop-at-init : goal.loop-at-init
loop-at-init g c = record {
  within = omega arith;
  known = c.requires.known;
  file = c.requires.file;
  others = λ other not_it. refl;
  saved = λ tells saved safe can. none_saved saved _ safe;
  stops = λ tells saved safe can. stays_covered saved _ safe;
  cause = no_cause _;
}

pub returns-clause-saved : goal.returns-clause-saved
returns-clause-saved g c tells saved safe can =
    subst (HasSaved saved (g.D.Disk.told c.args.disk.now) (g.D.Disk.told c.loop-at.disk)) (take_all c.loop-at.at c.args.pages.now (omega (arith, c.loop-at-test.false))) (c.loop-at.invariant.saved tells saved safe can)

pub returns-in_err-append_images-clause-stops : goal.returns-in_err-append_images-clause-stops
returns-in_err-append_images-clause-stops g c tells saved safe can =
    let i = c.loop-at.invariant in
    let at = c.loop-at.at in
    let order : at ≤ at + c.min.result = omega arith in
    chunk_stops c.args.pages.now at (at + c.min.result) order saved _ _ _ (g.met.D.Disk.reads_as_left c.args.disk.now tells) safe can (i.others 0 (omega arith)) (i.saved tells saved safe can)
    (i.stops tells saved safe can) (c.append_images.ensures.stops tells)

pub returns-in_err-append_images-clause-damaged : goal.returns-in_err-append_images-clause-damaged
returns-in_err-append_images-clause-damaged g c tells =
    let i = c.loop-at.invariant in
    let at = c.loop-at.at in
    let order : at ≤ at + c.min.result = omega arith in
    let p = err_from_is_err_and c.from_residual.result c.from_residual.ensures.1 in
    rw (p.1, p.2) (short_more _ _ _ _ c.args.pages.now (i.others 0 (omega arith)) (chunk_among c.args.pages.now at (at + c.min.result) order) (c.in_err-append_images.ensures.damaged tells))

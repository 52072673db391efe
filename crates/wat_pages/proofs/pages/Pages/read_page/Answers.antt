use Rattle.std.proofs.Common.{◌≡◌, ◌≢◌, ◌<◌, ◌∙◌, length, refl, sym, subst, Some}
use Rattle.std.specs.Prelude.{nat_eq}
use Rattle.std.specs.Map.{lookup}
use Rattle.std.proofs.lemmas.Result.{err_from_is_err_and}
use Rattle.wat_gate.proofs.Logs.{log_same}
use Rattle.wat_gate.specs.GateLog.{file_of}
use Rattle.wat_restore.specs.Restored.{StandsIn}
use Rattle.wat_restore.specs.Opening.{IsMissing}
use Rattle.wat_restore.proofs.Heads.{stands_is}
use Rattle.wat_images.proofs.Maps.{get_is}
use Rattle.wat_images.proofs.Writing.{if_damaged}
use Rattle.wat_pages.specs.Pages.{page_in}
use Rattle.wat_pages.proofs.Changed.{reads_cover, reads_safe, absent_in, changed_in, page_same, missing_cut, was_stored, not_missing, read_more, images_same}
use Rattle.wat_pages.proofs.pages.Pages.read_page.Goals as goal

pub returns-in_err-read_stored-clause-stops : goal.returns-in_err-read_stored-clause-stops
returns-in_err-read_stored-clause-stops g c tells saved safe = reads_cover saved _ _ safe c.read_stored.ensures.stops

pub returns-in_err-held-clause-stops : goal.returns-in_err-held-clause-stops
returns-in_err-held-clause-stops g c tells saved safe = reads_cover saved _ _ safe c.read_stored.ensures.stops

pub returns-in_err-insert-clause-stops : goal.returns-in_err-insert-clause-stops
returns-in_err-insert-clause-stops g c tells saved safe = reads_cover saved _ _ safe c.read_stored.ensures.stops

pub returns-clause-stops : goal.returns-clause-stops
returns-clause-stops g c tells saved safe = reads_cover saved _ _ safe c.read_stored.ensures.stops

pub returns-clause-safe : goal.returns-clause-safe
returns-clause-safe g c tells saved safe = reads_safe saved _ _ safe c.read_stored.ensures.content c.read_stored.ensures.stops

pub returns-in-Some-clause-read : goal.returns-in-Some-clause-read
returns-in-Some-clause-read g c tells =
    c.copy_from.ensures ∙ c.as_slice.ensures.bytes ∙ sym (changed_in (g.D.Disk.told c.args.disk.now) c.args.self.now c.args.page c.in-Some.bytes.now c.in-Some.ensures.value)

pub returns-in-Some-get-clause-read : goal.returns-in-Some-get-clause-read
returns-in-Some-get-clause-read g c tells =
    let s = c.args.self.now in
    let told = g.D.Disk.told c.args.disk.now in
    let found : lookup (nat_eq c.args.page) s.read.entries ≡ Some c.in-Some-get.bytes.now = sym (get_is s.read c.args.page) ∙ sym c.in-Some-get.ensures.value in
    c.copy_from-in-Some-get.ensures ∙ c.as_slice-in-Some-get.ensures.bytes ∙ sym (stands_is told.content c.args.page _ ((c.requires.known tells).read c.args.page c.in-Some-get.bytes.now found))
    ∙ sym (absent_in told s c.args.page c.in_default.ensures.value)

pub returns-clause-read : goal.returns-clause-read
returns-clause-read g c tells =
    let told = g.D.Disk.told c.args.disk.now in
    c.copy_from-2.ensures ∙ sym (stands_is told.content c.args.page _ (c.in_ok-read_stored.ensures.read tells)) ∙ sym (absent_in told c.args.self.now c.args.page c.in_default.ensures.value)

pub returns-clause-pages : goal.returns-clause-pages
returns-clause-pages g c tells = record {
  pages = λ page below. page_same _ _ c.args.self.now _ c.read_stored.ensures.content refl page;
  count = refl;
  first = refl;
}

pub returns-clause-known : goal.returns-clause-known
returns-clause-known g c tells =
    let s = c.args.self.now in
    let known = c.requires.known tells in
    let same = c.read_stored.ensures.content in
    let has = subst (StandsIn (g.D.Disk.told c.args.disk.now).content c.args.page) (sym c.in_ok-held.ensures.bytes) (c.in_ok-read_stored.ensures.read tells) in
    record {
      log = log_same _ _ s.before (same (file_of s.before)) known.log;
      images = images_same s.images.entries _ _ same known.images;
      read = read_more s.read c.insert.new.self _ _ c.args.page c.in_ok-held.held same known.read has c.in_ok-insert.ensures.updates;
    }

pub returns-in_err-read_stored-clause-damaged : goal.returns-in_err-read_stored-clause-damaged
returns-in_err-read_stored-clause-damaged g c tells =
    let s = c.args.self.now in
    let files = (g.D.Disk.told c.args.disk.now).content in
    let below = was_stored s c.args.page s.are_changed c.requires.page c.in_default.ensures.value in
    let p = err_from_is_err_and c.from_residual.result c.from_residual.ensures.1 in
    rw (p.1, p.2) (if_damaged _ (IsMissing files c.args.page) (λ file at. (c.args.page < s.stored) × IsMissing files c.args.page file at) (λ file at missing. (below, missing)) (c.in_err-read_stored.ensures.damaged tells))

pub returns-in_err-read_stored-clause-undamaged : goal.returns-in_err-read_stored-clause-undamaged
returns-in_err-read_stored-clause-undamaged g c tells saved safe count =
    let s = c.args.self.now in
    let told = g.D.Disk.told c.args.disk.now in
    let files = told.content in
    let below = was_stored s c.args.page s.are_changed c.requires.page c.in_default.ensures.value in
    let p = err_from_is_err_and c.from_residual.result c.from_residual.ensures.1 in
    rw (p.1, p.2) (not_missing _ told saved c.args.page s.stored (g.met.D.Disk.reads_as_left c.args.disk.now tells) safe count
    (if_damaged _ (IsMissing files c.args.page) (λ file at. (c.args.page < s.stored) × IsMissing files c.args.page file at) (λ file at missing. (below, missing)) (c.in_err-read_stored.ensures.damaged tells)))

pub returns-in_err-read_stored-clause-cut : goal.returns-in_err-read_stored-clause-cut
returns-in_err-read_stored-clause-cut g c tells =
    let s = c.args.self.now in
    let told = g.D.Disk.told c.args.disk.now in
    let p = err_from_is_err_and c.from_residual.result c.from_residual.ensures.1 in
    rw (p.1, p.2) (if_damaged _ (IsMissing told.content c.args.page) (λ file at. length (page_in told s c.args.page) ≢ 4096)
    (λ file at missing. missing_cut told s c.args.page file at c.in_default.ensures.value missing) (c.in_err-read_stored.ensures.damaged tells))

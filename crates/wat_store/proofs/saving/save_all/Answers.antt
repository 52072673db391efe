use Rattle.std.proofs.Common.{◌≡◌, ◌∙◌, [], length, refl, sym, ap, subst, arith}
use Rattle.std.proofs.lemmas.Result.{err_from_is_err_and}
use Rattle.wat_disk.specs.Disk.{Told, IsSynced}
use Rattle.wat_restore.specs.Restored.{OnlyPages}
use Rattle.wat_restore.specs.Safe.{IsSafe, Covers, CoversEither}
use Rattle.wat_pages.specs.declared.header.Header.{Header}
use Rattle.wat_pages.specs.Pages.{limit_of, stored_of, next_checkpoint, IsPagesOf}
use Rattle.wat_objects.specs.Objects.{pages_of}
use Rattle.wat_objects.specs.Chains.{HoldsRoots}
use Rattle.wat_store.specs.Saving.{CountsLog}
use Rattle.wat_store.proofs.Standing.{log_beside, kept_beside, stops_beside, safe_of}
use Rattle.wat_store.proofs.Safe.{flushed_safe, log_synced}
use Rattle.wat_store.proofs.Changing.{stops_two}
use Rattle.wat_store.proofs.Checkpointing.{counts_beside, kept_settled, may_same, save_stops, saved_so}
use Rattle.wat_store.proofs.saving.save_all.Goals as goal

pub write_lists-requires : goal.write_lists-requires
write_lists-requires g c = record { known = λ tells. (c.in_ok-settle.ensures.known tells).pages; few = c.requires.few }

pub header_now-header-requires : goal.header_now-header-requires
header_now-header-requires g c = record {
  known = λ tells. log_beside (g.D.Disk.told c.settle.new.disk) (g.D.Disk.told c.write_lists.new.disk) c.settle.new.log (c.write_lists.ensures.goes tells).others (c.in_ok-settle.ensures.known tells).records;
}

pub checkpoint-requires : goal.checkpoint-requires
checkpoint-requires g c = record {
  known = λ tells. subst (λ (x : Told). IsPagesOf x (pages_of c.write_lists.new.self)) (sym (ap g.D.Disk.told c.header_now-header.ensures.disk)) (c.in_ok-roots.ensures.keeps tells).known;
}

pub returns-clause-known : goal.returns-clause-known
returns-clause-known g c tells =
    let e = c.header_now-header.ensures.disk in
    let told1 = g.D.Disk.told c.settle.new.disk in
    let told2 = g.D.Disk.told c.write_lists.new.disk in
    let told3 = g.D.Disk.told c.header_now-header.new.disk in
    let new = g.D.Disk.told c.checkpoint.new.disk in
    let same : told3 ≡ told2 = ap g.D.Disk.told e in
    let objects = c.args.objects.now in
    let after = c.write_lists.new.self in
    let log = c.settle.new.log in
    let header = c.header_now-header.result in
    let goes = c.write_lists.ensures.goes tells in
    let others = subst (λ (x : Told). OnlyPages x.content new.content) same c.checkpoint.ensures.others in
    record {
      pages = c.in_ok-checkpoint.ensures.known tells;
      records = log_beside told2 new log others (log_beside told1 told2 log goes.others (c.in_ok-settle.ensures.known tells).records);
    }

pub returns-clause-room : goal.returns-clause-room
returns-clause-room g c = omega (arith, ap length c.in_ok-settle.ensures.noted.spelled)

pub returns-clause-saved : goal.returns-clause-saved
returns-clause-saved g c tells =
    let e = c.header_now-header.ensures.disk in
    let told1 = g.D.Disk.told c.settle.new.disk in
    let told2 = g.D.Disk.told c.write_lists.new.disk in
    let told3 = g.D.Disk.told c.header_now-header.new.disk in
    let new = g.D.Disk.told c.checkpoint.new.disk in
    let same : told3 ≡ told2 = ap g.D.Disk.told e in
    let objects = c.args.objects.now in
    let after = c.write_lists.new.self in
    let log = c.settle.new.log in
    let header = c.header_now-header.result in
    let goes = c.write_lists.ensures.goes tells in
    let others = subst (λ (x : Told). OnlyPages x.content new.content) same c.checkpoint.ensures.others in
    subst (λ (h : Header). CountsLog new h) (sym c.in_ok-checkpoint.ensures.header) (counts_beside told2 new header others (c.header_now-header.ensures.counts tells))

pub returns-clause-stands : goal.returns-clause-stands
returns-clause-stands g c tells s t is =
    let e = c.header_now-header.ensures.disk in
    let told1 = g.D.Disk.told c.settle.new.disk in
    let told2 = g.D.Disk.told c.write_lists.new.disk in
    let told3 = g.D.Disk.told c.header_now-header.new.disk in
    let new = g.D.Disk.told c.checkpoint.new.disk in
    let same : told3 ≡ told2 = ap g.D.Disk.told e in
    let objects = c.args.objects.now in
    let after = c.write_lists.new.self in
    let log = c.settle.new.log in
    let header = c.header_now-header.result in
    let goes = c.write_lists.ensures.goes tells in
    let stood = c.in_ok-settle.ensures.stands tells s t is in
    let settled = kept_settled told1 objects log s t stood c.in_ok-settle.ensures.noted in
    let kept = kept_beside told1 told2 objects after [] s t settled goes (c.in_ok-roots.ensures.keeps tells) in
    let roots = c.in_ok-roots.ensures.state tells s stood.holds stood.lawful in
    let may = may_same told2 told3 new (stored_of (pages_of after)) (pages_of after) header same (c.checkpoint.ensures.stops tells) in
    let others = subst (λ (x : Told). OnlyPages x.content new.content) same c.checkpoint.ensures.others in
    let safe_there = subst (λ (x : Told). IsSafe kept.saved x) (sym same) kept.durable.pages in
    let safe = subst (λ (x : Told). IsSafe (next_checkpoint x (pages_of after) header) new) same (c.in_ok-checkpoint.ensures.safe tells kept.saved safe_there kept.counted) in
    let there = subst (λ (x : Told). HoldsRoots x after c.in_ok-roots.roots s) (sym same) roots in
    let is_header = c.header_now-header.ensures.is in
    let holds = c.in_ok-checkpoint.ensures.holds tells kept.saved safe_there kept.counted s c.in_ok-roots.roots there (ap (λ (h : Header). h.catalog) is_header) (ap (λ (h : Header). h.rollback) is_header) (ap (λ (h : Header). h.next_table) is_header) in
    saved_so told2 new after c.checkpoint.new.self log header c.in_ok-roots.roots s t kept roots c.header_now-header.ensures.is (c.header_now-header.ensures.counts tells) c.header_now-header.ensures.fits may
    others safe c.checkpoint.ensures.limit c.in_ok-checkpoint.ensures.stored holds (log_beside told1 told2 log goes.others stood.records) c.in_ok-settle.ensures.noted told1 objects log stood

pub returns-clause-stops : goal.returns-clause-stops
returns-clause-stops g c tells s t is =
    let e = c.header_now-header.ensures.disk in
    let told1 = g.D.Disk.told c.settle.new.disk in
    let told2 = g.D.Disk.told c.write_lists.new.disk in
    let told3 = g.D.Disk.told c.header_now-header.new.disk in
    let new = g.D.Disk.told c.checkpoint.new.disk in
    let same : told3 ≡ told2 = ap g.D.Disk.told e in
    let objects = c.args.objects.now in
    let after = c.write_lists.new.self in
    let log = c.settle.new.log in
    let header = c.header_now-header.result in
    let goes = c.write_lists.ensures.goes tells in
    let stood = c.in_ok-settle.ensures.stands tells s t is in
    let settled = kept_settled told1 objects log s t stood c.in_ok-settle.ensures.noted in
    let kept = kept_beside told1 told2 objects after [] s t settled goes (c.in_ok-roots.ensures.keeps tells) in
    let roots = c.in_ok-roots.ensures.state tells s stood.holds stood.lawful in
    let may = may_same told2 told3 new (stored_of (pages_of after)) (pages_of after) header same (c.checkpoint.ensures.stops tells) in
    stops_two (g.D.Disk.told c.args.disk.now) told1 new objects objects t t (c.settle.ensures.stops tells s t is) refl
    (stops_two told1 told2 new objects after t t (stops_beside told1 told2 objects after log s t stood goes) goes.limit (save_stops told2 new after c.checkpoint.new.self log header c.in_ok-roots.roots s t kept roots c.header_now-header.ensures.is (c.header_now-header.ensures.counts tells) c.header_now-header.ensures.fits may))

pub returns-in_err-checkpoint-clause-stops : goal.returns-in_err-checkpoint-clause-stops
returns-in_err-checkpoint-clause-stops g c tells s t is =
    let e = c.header_now-header.ensures.disk in
    let told1 = g.D.Disk.told c.settle.new.disk in
    let told2 = g.D.Disk.told c.write_lists.new.disk in
    let told3 = g.D.Disk.told c.header_now-header.new.disk in
    let new = g.D.Disk.told c.checkpoint.new.disk in
    let same : told3 ≡ told2 = ap g.D.Disk.told e in
    let objects = c.args.objects.now in
    let after = c.write_lists.new.self in
    let log = c.settle.new.log in
    let header = c.header_now-header.result in
    let goes = c.write_lists.ensures.goes tells in
    let stood = c.in_ok-settle.ensures.stands tells s t is in
    let settled = kept_settled told1 objects log s t stood c.in_ok-settle.ensures.noted in
    let kept = kept_beside told1 told2 objects after [] s t settled goes (c.in_ok-roots.ensures.keeps tells) in
    let roots = c.in_ok-roots.ensures.state tells s stood.holds stood.lawful in
    let may = may_same told2 told3 new (stored_of (pages_of after)) (pages_of after) header same (c.checkpoint.ensures.stops tells) in
    stops_two (g.D.Disk.told c.args.disk.now) told1 new objects objects t t (c.settle.ensures.stops tells s t is) refl
    (stops_two told1 told2 new objects after t t (stops_beside told1 told2 objects after log s t stood goes) goes.limit (save_stops told2 new after c.checkpoint.new.self log header c.in_ok-roots.roots s t kept roots c.header_now-header.ensures.is (c.header_now-header.ensures.counts tells) c.header_now-header.ensures.fits may))

pub returns-in_err-roots-clause-stops : goal.returns-in_err-roots-clause-stops
returns-in_err-roots-clause-stops g c tells s t is =
    let told1 = g.D.Disk.told c.settle.new.disk in
    let told2 = g.D.Disk.told c.write_lists.new.disk in
    let stood = c.in_ok-settle.ensures.stands tells s t is in
    stops_two (g.D.Disk.told c.args.disk.now) told1 told2 c.args.objects.now c.args.objects.now t t (c.settle.ensures.stops tells s t is) refl
    (stops_beside told1 told2 c.args.objects.now c.write_lists.new.self c.settle.new.log s t stood (c.write_lists.ensures.goes tells))

pub returns-clause-flushed : goal.returns-clause-flushed
returns-clause-flushed g c = c.in_ok-settle.ensures.noted.spelled

pub returns-clause-none : goal.returns-clause-none
returns-clause-none g c tells = c.in_ok-checkpoint.ensures.none tells

pub returns-clause-holds : goal.returns-clause-holds
returns-clause-holds g c tells s is =
    let told1 = g.D.Disk.told c.settle.new.disk in
    let told2 = g.D.Disk.told c.write_lists.new.disk in
    let told3 = g.D.Disk.told c.header_now-header.new.disk in
    let new = g.D.Disk.told c.checkpoint.new.disk in
    let same : told3 ≡ told2 = ap g.D.Disk.told c.header_now-header.ensures.disk in
    let after = c.write_lists.new.self in
    let header = c.header_now-header.result in
    let is_header = c.header_now-header.ensures.is in
    let goes = c.write_lists.ensures.goes tells in
    let one = flushed_safe (g.D.Disk.told c.args.disk.now) told1 c.args.objects.now s c.settle.ensures.others (c.settle.ensures.beside tells is.logged) (c.in_ok-settle.ensures.synced is.logged) is in
    let safe = subst (λ (x : Told). IsSafe one.saved x) (sym same) ((c.in_ok-roots.ensures.keeps tells).safe one.saved one.safe) in
    let counted : one.saved.count ≡ stored_of (pages_of after) = one.counted ∙ sym goes.stored in
    let there = subst (λ (x : Told). HoldsRoots x after c.in_ok-roots.roots s) (sym same) (c.in_ok-roots.ensures.state tells s one.holds one.lawful) in
    let next = next_checkpoint told3 (pages_of after) header in
    record {
      holds = c.in_ok-checkpoint.ensures.holds tells one.saved safe counted s c.in_ok-roots.roots there (ap (λ (h : Header). h.catalog) is_header) (ap (λ (h : Header). h.rollback) is_header) (ap (λ (h : Header). h.next_table) is_header);
      lawful = one.lawful;
      saved = next;
      safe = c.in_ok-checkpoint.ensures.safe tells one.saved safe counted;
      counted = sym c.in_ok-checkpoint.ensures.stored;
      logged =
          log_synced told3 new (CoversEither one.saved next) (λ before image step. step.others) c.checkpoint.ensures.others (c.checkpoint.ensures.stops tells one.saved safe counted)
          (subst (λ (x : Told). IsSynced x 2) (sym same) (log_synced told1 told2 (Covers one.saved) (λ before image step. step.others) goes.others (goes.stops one.saved one.safe) one.logged));
    }

pub returns-in_err-roots-clause-undamaged : goal.returns-in_err-roots-clause-undamaged
returns-in_err-roots-clause-undamaged g c tells s is =
    let one = flushed_safe (g.D.Disk.told c.args.disk.now) (g.D.Disk.told c.settle.new.disk) c.args.objects.now s c.settle.ensures.others (c.settle.ensures.beside tells is.logged) (c.in_ok-settle.ensures.synced is.logged) is in
    let p = err_from_is_err_and c.from_residual-in_err-roots.result c.from_residual-in_err-roots.ensures.1 in
    rw (p.1, p.2) (c.in_err-roots.ensures.undamaged tells one.saved one.safe one.counted s one.holds)

pub returns-in_err-checkpoint-clause-undamaged : goal.returns-in_err-checkpoint-clause-undamaged
returns-in_err-checkpoint-clause-undamaged g c tells s is =
    let told2 = g.D.Disk.told c.write_lists.new.disk in
    let told3 = g.D.Disk.told c.header_now-header.new.disk in
    let same : told3 ≡ told2 = ap g.D.Disk.told c.header_now-header.ensures.disk in
    let one = flushed_safe (g.D.Disk.told c.args.disk.now) (g.D.Disk.told c.settle.new.disk) c.args.objects.now s c.settle.ensures.others (c.settle.ensures.beside tells is.logged) (c.in_ok-settle.ensures.synced is.logged) is in
    let safe = subst (λ (x : Told). IsSafe one.saved x) (sym same) ((c.in_ok-roots.ensures.keeps tells).safe one.saved one.safe) in
    let p = err_from_is_err_and c.from_residual-in_err-checkpoint.result c.from_residual-in_err-checkpoint.ensures.1 in
    rw (p.1, p.2) (c.in_err-checkpoint.ensures.undamaged tells one.saved safe (one.counted ∙ sym (c.write_lists.ensures.goes tells).stored))

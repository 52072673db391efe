use Rattle.std.proofs.Common.{sym, ◌∙◌, arith}
use Rattle.wat_images.proofs.Sequence.{either_stops}
use Rattle.wat_pages.specs.Pages.{next_checkpoint}
use Rattle.wat_pages.proofs.Changed.{next_alike, either_alike, safe_alike, stops_on}
use Rattle.wat_pages.proofs.pages.Pages.checkpoint.Goals as goal

pub returns-in-Err-clause-stops : goal.returns-in-Err-clause-stops
returns-in-Err-clause-stops g c tells saved safe count =
    let t0 = g.D.Disk.told c.args.disk.now in
    let t1 = g.D.Disk.told c.lay.new.disk in
    either_stops saved t0 t1 t1 (c.lay.ensures.stops tells saved safe) (next_checkpoint t0 c.args.self.now c.args.header.now)

pub returns-in-Err-save-clause-stops : goal.returns-in-Err-save-clause-stops
returns-in-Err-save-clause-stops g c tells saved safe count =
    let t0 = g.D.Disk.told c.args.disk.now in
    let t1 = g.D.Disk.told c.lay.new.disk in
    let t2 = g.D.Disk.told c.save.new.disk in
    let a = c.args.self.now in
    let b = c.lay.new.self in
    let header = c.args.header.now in
    let same = c.lay.ensures.same in
    let alike = next_alike t0 t1 a b header same.count same.limit same.free (c.in-Ok.ensures.pages tells saved safe count) in
    stops_on saved (next_checkpoint t0 a header) t0 t1 t2 (c.lay.ensures.stops tells saved safe)
    (either_alike saved (next_checkpoint t1 b header) (next_checkpoint t0 a header) t1 t2 same.count alike (c.save.ensures.stops tells saved (c.in-Ok.ensures.safe tells saved safe) (count ∙ sym same.stored)))

pub returns-in-Err-save-clause-undamaged : goal.returns-in-Err-save-clause-undamaged
returns-in-Err-save-clause-undamaged g c tells saved safe count = c.in-Err-save.ensures.undamaged tells saved (c.in-Ok.ensures.safe tells saved safe) (count ∙ sym c.lay.ensures.same.stored)

pub returns-in-Ok-save-clause-stops : goal.returns-in-Ok-save-clause-stops
returns-in-Ok-save-clause-stops g c tells saved safe count =
    let t0 = g.D.Disk.told c.args.disk.now in
    let t1 = g.D.Disk.told c.lay.new.disk in
    let t2 = g.D.Disk.told c.save.new.disk in
    let a = c.args.self.now in
    let b = c.lay.new.self in
    let header = c.args.header.now in
    let same = c.lay.ensures.same in
    let alike = next_alike t0 t1 a b header same.count same.limit same.free (c.in-Ok.ensures.pages tells saved safe count) in
    stops_on saved (next_checkpoint t0 a header) t0 t1 t2 (c.lay.ensures.stops tells saved safe)
    (either_alike saved (next_checkpoint t1 b header) (next_checkpoint t0 a header) t1 t2 same.count alike (c.save.ensures.stops tells saved (c.in-Ok.ensures.safe tells saved safe) (count ∙ sym same.stored)))

pub returns-in-Ok-save-clause-safe : goal.returns-in-Ok-save-clause-safe
returns-in-Ok-save-clause-safe g c tells saved safe count =
    let t0 = g.D.Disk.told c.args.disk.now in
    let t1 = g.D.Disk.told c.lay.new.disk in
    let t2 = g.D.Disk.told c.save.new.disk in
    let a = c.args.self.now in
    let b = c.lay.new.self in
    let header = c.args.header.now in
    let same = c.lay.ensures.same in
    let alike = next_alike t0 t1 a b header same.count same.limit same.free (c.in-Ok.ensures.pages tells saved safe count) in
    safe_alike (next_checkpoint t1 b header) (next_checkpoint t0 a header) t2 same.count alike (c.in-Ok-save.ensures.safe tells saved (c.in-Ok.ensures.safe tells saved safe) (count ∙ sym same.stored))

pub returns-in-Ok-save-clause-pages : goal.returns-in-Ok-save-clause-pages
returns-in-Ok-save-clause-pages g c tells saved safe count =
    let same = c.lay.ensures.same in
    record {
      pages = λ page some below.
          c.in-Ok-save.ensures.pages tells saved (c.in-Ok.ensures.safe tells saved safe) (count ∙ sym same.stored) page some (omega (arith, below, same.count)) ∙ c.in-Ok.ensures.pages tells saved safe count page below;
      count = c.in-Ok-save.ensures.count ∙ same.count;
      first = c.in-Ok-save.ensures.free ∙ same.free;
    }

use Rattle.std.proofs.Common.{refl, sym, subst}
use Rattle.wat_pages.specs.Pages.{book_of}
use Rattle.wat_schema.specs.Catalog.{Catalog}
use Rattle.wat_objects.specs.Altering.{HoldsParts}
use Rattle.wat_objects.proofs.Altered.{same_parts}
use Rattle.wat_objects.proofs.objects.Objects.change_schema.Goals as goal

pub returns-in-Ok-write_schema-clause-changed : goal.returns-in-Ok-write_schema-clause-changed
returns-in-Ok-write_schema-clause-changed g c tells schema defs rows h =
    let old = book_of (g.D.Disk.told c.args.disk.now) c.args.self.now.pages in
    let new = book_of (g.D.Disk.told c.write_schema.new.disk) c.write_schema.new.self.pages in
    let mid = record c.args.self.now { schema = c.apply.new.self } in
    subst (λ (z : Catalog). HoldsParts new c.write_schema.new.self z defs rows) c.in-Ok.ensures.applied (c.in-Ok-write_schema.ensures.written tells schema defs rows (same_parts old c.args.self.now mid schema defs rows h refl refl refl))

pub returns-in-Err-write_schema-clause-undamaged : goal.returns-in-Err-write_schema-clause-undamaged
returns-in-Err-write_schema-clause-undamaged g c tells saved safe count schema defs rows h =
    let old = book_of (g.D.Disk.told c.args.disk.now) c.args.self.now.pages in
    let mid = record c.args.self.now { schema = c.apply.new.self } in
    c.in-Err-write_schema.ensures.undamaged tells saved safe count schema defs rows (same_parts old c.args.self.now mid schema defs rows h refl refl refl)

use Rattle.std.proofs.Common.{◌≡◌, true, false, refl, sym, ◌∙◌, ap, subst}
use Rattle.wat_pages.specs.Pages.{book_of}
use Rattle.wat_schema.specs.Catalog.{Catalog, def_at}
use Rattle.wat_schema.specs.Definitions.{allows, altered}
use Rattle.wat_schema.specs.Tables.{catalog_of, row_at}
use Rattle.wat_undo.specs.Kept as kept
use Rattle.wat_objects.specs.Altering.{HoldsParts, rows_left}
use Rattle.wat_objects.proofs.Altered.{altered_to, parts_of}
use Rattle.wat_cells.proofs.Then.{goes_nowhere, goes_then, keeps_still, keeps_then}
use Rattle.wat_objects.proofs.objects.Objects.alter.Goals as goal

pub returns-in-Ok-leave_rows-clause-altered : goal.returns-in-Ok-leave_rows-clause-altered
returns-in-Ok-leave_rows-clause-altered g c tells s h allowed =
    let old = book_of (g.D.Disk.told c.args.disk.now) c.args.self.now.pages in
    let mid = book_of (g.D.Disk.told c.change_schema.new.disk) c.change_schema.new.self.pages in
    let new = book_of (g.D.Disk.told c.leave_rows.new.disk) c.leave_rows.new.self.pages in
    let defs = def_at (catalog_of s.tables) in
    let to = ap (altered c.args.change.now) h.on.schema in
    let written = c.in-Ok.ensures.changed tells (catalog_of s.tables) defs (row_at s.tables) (parts_of old c.args.self.now s h.on) in
    let left = c.in-Ok-leave_rows.ensures.left tells (altered c.args.change.now c.args.self.now.schema) defs (row_at s.tables) written in
    record {
      known = (c.in-Ok-leave_rows.ensures.keeps tells).known;
      on = altered_to new c.leave_rows.new.self c.args.change.now s h.on.tables allowed (subst (λ (z : Catalog). HoldsParts new c.leave_rows.new.self z defs (rows_left c.args.change.now (row_at s.tables))) to left)
          (c.leave_rows.ensures.schema ∙ c.in-Ok.ensures.schema ∙ to) (ap kept.lists_of (c.leave_rows.ensures.undo ∙ c.change_schema.ensures.undo) ∙ h.on.lists);
    }

pub returns-in-Err-clause-undamaged : goal.returns-in-Err-clause-undamaged
returns-in-Err-clause-undamaged g c tells saved safe count s h =
    c.in-Err.ensures.undamaged tells saved safe count (catalog_of s.tables) (def_at (catalog_of s.tables)) (row_at s.tables) (parts_of (book_of (g.D.Disk.told c.args.disk.now) c.args.self.now.pages) c.args.self.now s h.on)

pub returns-in-Ok-leave_rows-clause-goes : goal.returns-in-Ok-leave_rows-clause-goes
returns-in-Ok-leave_rows-clause-goes g c tells = goes_then _ _ _ _ _ _ (c.change_schema.ensures.goes tells) (c.in-Ok.ensures.keeps tells) (c.leave_rows.ensures.goes tells)

pub returns-in-Ok-leave_rows-clause-keeps : goal.returns-in-Ok-leave_rows-clause-keeps
returns-in-Ok-leave_rows-clause-keeps g c tells = keeps_then _ _ _ _ _ (c.in-Ok.ensures.keeps tells) (c.in-Ok-leave_rows.ensures.keeps tells)

pub returns-in-Err-leave_rows-clause-goes : goal.returns-in-Err-leave_rows-clause-goes
returns-in-Err-leave_rows-clause-goes g c tells = goes_then _ _ _ _ _ _ (c.change_schema.ensures.goes tells) (c.in-Ok.ensures.keeps tells) (c.leave_rows.ensures.goes tells)

pub returns-in-Err-leave_rows-clause-undamaged : goal.returns-in-Err-leave_rows-clause-undamaged
returns-in-Err-leave_rows-clause-undamaged g c tells saved safe count s h =
    let old = book_of (g.D.Disk.told c.args.disk.now) c.args.self.now.pages in
    let written = c.in-Ok.ensures.changed tells (catalog_of s.tables) (def_at (catalog_of s.tables)) (row_at s.tables) (parts_of old c.args.self.now s h.on) in
    c.in-Err-leave_rows.ensures.undamaged tells saved ((c.in-Ok.ensures.keeps tells).safe saved safe) (count ∙ sym (c.change_schema.ensures.goes tells).stored) (altered c.args.change.now c.args.self.now.schema) (def_at (catalog_of s.tables)) (row_at s.tables) written

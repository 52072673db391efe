use Rattle.std.proofs.Common.{ℕ, List, take}
use Rattle.wat_faults.specs.Faults.{HasCause}
use Rattle.wat_pages.specs.Pages.{book_of}
use Rattle.wat_rows.specs.Rows.{Defs, RowMap}
use Rattle.wat_schema.specs.Catalog.{Catalog}
use Rattle.wat_cells.specs.Going.{Goes, Keeps}
use Rattle.wat_objects.specs.Objects.{pages_of, schema_of, undo_of}
use Rattle.wat_objects.specs.Altering.{HoldsParts, without_keys}
use Rattle.wat_objects.proofs.objects.Objects.drop_keys.Given as goal
use Rattle.std.proofs.Common.{◌≡◌}

abbrev pub invariant-loop-i : goal.invariant-loop-i
invariant-loop-i g l = record {
  holds : g.D.Disk.tells_content → (c : Catalog) (defs : Defs) (rows : RowMap) → HoldsParts (book_of (g.D.Disk.told l.fn.disk) (pages_of l.fn.self)) l.fn.self c defs rows
      → HoldsParts (book_of (g.D.Disk.told l.disk) (pages_of l.self)) l.self c defs (without_keys l.table (take l.i l.keys) rows);
  schema : schema_of l.self ≡ schema_of l.fn.self;
  undo : undo_of l.self ≡ undo_of l.fn.self;
  goes : g.D.Disk.tells_content → Goes (g.D.Disk.told l.fn.disk) (g.D.Disk.told l.disk) (pages_of l.fn.self) (pages_of l.self);
  keeps : g.D.Disk.tells_content → Keeps (g.D.Disk.told l.fn.disk) (g.D.Disk.told l.disk) (pages_of l.self);
  cause : HasCause (g.D.Disk.told l.fn.disk).faults (g.D.Disk.told l.disk).faults ⊥;
}

use Rattle.std.proofs.Common.{sym, subst}
use Rattle.wat_pages.specs.Pages.{book_of}
use Rattle.wat_value.specs.declared.change.SchemaChange.{SchemaChange}
use Rattle.wat_cells.proofs.Then.{goes_nowhere, keeps_still}
use Rattle.wat_objects.specs.Altering.{HoldsParts, rows_left}
use Rattle.wat_objects.proofs.objects.Objects.leave_rows.Goals as goal

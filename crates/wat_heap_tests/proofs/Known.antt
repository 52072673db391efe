-- A call on pages that is Ok keeps them known.
use Rattle.std.proofs.Common.{Result, Ok, Err}
use Rattle.std.specs.Prelude.{OnOk}
use Rattle.wat_disk.specs.Disk.{Told}
use Rattle.wat_pages.specs.declared.pages.Pages.{Pages}
use Rattle.wat_pages.specs.Pages.{IsPagesOf}
use Rattle.wat_cells.specs.Going.{Keeps}

pub known : {T E : Type 0} (r : Result T E) (old new : Told) (pages : Pages) → OnOk r (Keeps old new pages) → OnOk r (IsPagesOf new pages)
known (Ok x) old new pages is = is.known
known (Err e) old new pages is = tt

use Rattle.std.proofs.Common.{List, sym, subst}
use Rattle.std.specs.Prelude.{◌↔◌, IsSome}
use Rattle.wat_list.specs.Has.{Has}
use Rattle.wat_rows.specs.Rows.{Row}
use Rattle.wat_pages.specs.Pages.{book_of}
use Rattle.wat_book.specs.Book.{section}
use Rattle.wat_rows.specs.Pages.{of_rows}
use Rattle.wat_objects.specs.Altering.{without, without_keys}
use Rattle.wat_objects.proofs.Altered.{all_gone, rows_again}
use Rattle.wat_objects.proofs.objects.Objects.drop_rows.Goals as goal

pub returns-in-Ok-drop_keys-clause-dropped : goal.returns-in-Ok-drop_keys-clause-dropped
returns-in-Ok-drop_keys-clause-dropped g c tells schema defs rows h =
    let old = book_of (g.D.Disk.told c.args.disk.now) c.args.self.now.pages in
    let new = book_of (g.D.Disk.told c.drop_keys.new.disk) c.drop_keys.new.self.pages in
    let all = subst (λ (ks : List Row). (key : Row) → Has key ks ↔ IsSome (rows c.args.table key)) (sym c.as_slice.ensures) (c.in-Ok.ensures.all (section old h.owners of_rows) defs rows h.stand) in
    rows_again new c.drop_keys.new.self schema defs (without_keys c.args.table c.as_slice.result.now rows) (without c.args.table rows) (c.in-Ok-drop_keys.ensures.dropped tells schema defs rows h)
    (all_gone c.args.table c.as_slice.result.now rows all)

use Rattle.std.proofs.Common.{◌≡◌, ◌+◌, ℕ, length, Some, true, false, refl, sym, ap, subst, ◌∙◌}
use Rattle.wat_value.specs.Encoding.{IsEncodable}
use Rattle.wat_rows.specs.Rows.{Row, row_cell}
use Rattle.wat_directory.specs.Known.{page_at, row_pages}
use Rattle.wat_cells.proofs.Then.{some_of}
use Rattle.wat_heap.specs.Taking.{def_in}
use Rattle.wat_heap.proofs.Counts.{same_count}
use Rattle.wat_heap.proofs.OneRow.{takes_row}
use Rattle.wat_heap.proofs.taking.take_row.Goals as goal

pub returns-clause-taken : goal.returns-clause-taken
returns-clause-taken c =
    let pair : ℕ × Row = (c.in-Some.table, c.in-Some.row) in
    let read = some_of (λ (x : ℕ × Row). c.args.cell.now ≡ row_cell x.0 x.1) c.in_ok-table.field-0 pair c.in-Some.is c.in_ok-table.ensures.some in
    let encodable = some_of (λ (x : ℕ × Row). IsEncodable x.1) c.in_ok-table.field-0 pair c.in-Some.is c.in_ok-table.ensures.encodable in
    λ _. takes_row (def_in c.args.defs.now) c.args.cell.now c.args.directory.now c.in-Some.table c.in-Some.row read c.in-Some-def_of.ensures.number encodable c.args.page (c.args.used + 2 + length c.args.cell.now) c.add.new.self
    c.in-Some-def_of.def.now c.in_ok-key.key (sym c.in-Some-def_of.ensures.found) (sym c.fits.ensures ∙ c.if-not-fits.false) c.in_ok-key.ensures (sym c.has.ensures ∙ c.if-has.false) c.in_ok-add.ensures.page c.in_ok-add.ensures.place

pub returns-clause-count : goal.returns-clause-count
returns-clause-count c some = same_count (row_pages c.add.new.self) (row_pages c.args.directory.now) (page_at c.args.directory.now c.args.page) c.in_ok-add.ensures.count some

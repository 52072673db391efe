use Rattle.std.proofs.Common.{◌≡◌, Some, position, nat_eq, sym, ◌∙◌}
use Rattle.wat_value.specs.declared.change.Change.TheVariants.{Insert}
use Rattle.wat_schema.specs.Tables.{Tables}
use Rattle.wat_tables.proofs.Listed.{after_either, fits_here, kept_either, none_fits, stood_either}
use Rattle.wat_tables.proofs.tables.Tables.insert.Goals as goal

pub insert_fitting-requires : goal.insert_fitting-requires
insert_fitting-requires c =
    let t : Tables = record { tables = c.self.inside.tables.items; next = c.self.inside.schema.next } in
    fits_here t c.args.self.now c.self.inside.schema c.self.inside.numbers.keys (Insert c.args.table c.args.row) c.in-Some.i c.index_mut-table.result.now c.index_mut-table.result.now c.self.invariant c.self.view_is
    (sym c.get_index_of.ensures.index ∙ c.in-Some.is) c.index_mut-table.ensures.value c.args.row c.requires

pub invariant_of-self : goal.invariant_of-self
invariant_of-self c =
    let t : Tables = record { tables = c.self.inside.tables.items; next = c.self.inside.schema.next } in
    kept_either t c.args.self.now c.self.inside.schema c.self.inside.numbers.keys (Insert c.args.table c.args.row) c.in-Some.i c.index_mut-table.result.now c.insert_fitting.new.self c.self.invariant c.self.view_is
    (sym c.get_index_of.ensures.index ∙ c.in-Some.is) c.index_mut-table.ensures.value c.insert_fitting.result c.insert_fitting.ensures.after c.insert_fitting.ensures.kept

pub unreachable-requires : goal.unreachable-requires
unreachable-requires c =
    let t : Tables = record { tables = c.self.inside.tables.items; next = c.self.inside.schema.next } in
    none_fits t c.args.self.now c.self.inside.schema c.self.inside.numbers.keys c.args.table c.args.row c.self.invariant c.self.view_is (sym c.get_index_of.ensures.index ∙ c.in-None.is) c.requires

pub returns-clause-stood : goal.returns-clause-stood
returns-clause-stood c =
    let t : Tables = record { tables = c.self.inside.tables.items; next = c.self.inside.schema.next } in
    stood_either t c.args.self.now c.self.inside.schema c.self.inside.numbers.keys (Insert c.args.table c.args.row) c.in-Some.i c.index_mut-table.result.now c.insert_fitting.new.self c.self.invariant c.self.view_is
    (sym c.get_index_of.ensures.index ∙ c.in-Some.is) c.index_mut-table.ensures.value c.args.row c.insert_fitting.result c.insert_fitting.ensures.stood

pub returns-clause-after : goal.returns-clause-after
returns-clause-after c =
    let t : Tables = record { tables = c.self.inside.tables.items; next = c.self.inside.schema.next } in
    after_either t c.args.self.now c.self.inside.schema c.self.inside.numbers.keys (Insert c.args.table c.args.row) c.in-Some.i c.index_mut-table.result.now c.insert_fitting.new.self c.self.invariant c.self.view_is
    (sym c.get_index_of.ensures.index ∙ c.in-Some.is) c.index_mut-table.ensures.value c.insert_fitting.result c.insert_fitting.ensures.after

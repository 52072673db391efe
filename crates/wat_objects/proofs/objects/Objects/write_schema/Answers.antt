use Rattle.std.proofs.Common.{ℕ, List, refl, sym, subst, arith}
use Rattle.wat_spelled.specs.Schema.{SpellsSchema}
use Rattle.wat_pages.specs.Pages.{book_of}
use Rattle.wat_cells.proofs.Then.{goes_all, keeps_by}
use Rattle.wat_held.specs.Held.{in_catalog}
use Rattle.wat_objects.proofs.Altered.{schema_worked}
use Rattle.wat_objects.proofs.objects.Objects.write_schema.Goals as goal

pub returns-in-Ok-write_chain-clause-written : goal.returns-in-Ok-write_chain-clause-written
returns-in-Ok-write_chain-clause-written g c tells schema defs rows h =
    let old = book_of (g.D.Disk.told c.args.disk.now) c.args.self.now.pages in
    let new = book_of (g.D.Disk.told c.write_chain.new.disk) c.write_chain.new.pages in
    schema_worked old new c.args.self.now (record c.args.self.now { pages = c.write_chain.new.pages; catalog = c.in-Ok-write_chain.first }) schema c.args.self.now.schema c.as_slice.result.now defs rows h (subst (λ (bytes : List ℕ). SpellsSchema bytes c.args.self.now.schema) (sym c.as_slice.ensures.value) c.in-Ok.ensures)
    (c.in-Ok-write_chain.ensures.written tells in_catalog h.owners h.free h.catalog.payload (omega arith) (omega arith) h.owned h.catalog.chain) refl c.write_chain.ensures.header

pub returns-in-Ok-write_chain-clause-goes : goal.returns-in-Ok-write_chain-clause-goes
returns-in-Ok-write_chain-clause-goes g c tells = goes_all _ _ _ _ c.write_chain.ensures.others c.write_chain.ensures.limit c.write_chain.ensures.stored c.write_chain.ensures.header (c.write_chain.ensures.stops tells)

pub returns-in-Ok-write_chain-clause-keeps : goal.returns-in-Ok-write_chain-clause-keeps
returns-in-Ok-write_chain-clause-keeps g c tells = keeps_by _ _ _ (c.in-Ok-write_chain.ensures.known tells) (c.in-Ok-write_chain.ensures.safe tells)

pub returns-clause-goes : goal.returns-clause-goes
returns-clause-goes g c tells = goes_all _ _ _ _ c.write_chain.ensures.others c.write_chain.ensures.limit c.write_chain.ensures.stored c.write_chain.ensures.header (c.write_chain.ensures.stops tells)

pub returns-clause-undamaged : goal.returns-clause-undamaged
returns-clause-undamaged g c tells saved safe count schema defs rows h =
    c.in-Err-write_chain.ensures.undamaged tells saved in_catalog h.owners h.free h.catalog.payload safe count (omega arith) (omega arith) h.owned h.catalog.chain

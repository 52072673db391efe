use Rattle.std.proofs.Common.{◌≡◌, ℕ, ap, sym, arith}
use Rattle.wat_book.proofs.Chaining.{none_twice}
use Rattle.wat_pages.specs.declared.header.Header.{Header}
use Rattle.wat_pages.specs.Pages.{book_of}
use Rattle.wat_roots.specs.Roots.{head_now}
use Rattle.wat_roots.proofs.Going.{went_by, stays_by}
use Rattle.wat_roots.proofs.Reading.{chain_read, catalog_breaks}
use Rattle.wat_roots.proofs.roots.read_catalog.Goals as goal

pub read_chain-requires-clause-once : goal.read_chain-requires-clause-once
read_chain-requires-clause-once g c = none_twice

pub returns-in-Ok-clause-chain : goal.returns-in-Ok-clause-chain
returns-in-Ok-clause-chain g c tells = chain_read (book_of (g.D.Disk.told c.args.disk.now) c.args.pages.now) _ _ _ _ _ (ap (λ (h : Header). h.catalog) c.header.ensures) (c.in-Ok.ensures.read tells)

pub returns-in-Ok-clause-went : goal.returns-in-Ok-clause-went
returns-in-Ok-clause-went g c tells = went_by _ _ _ _ c.read_chain.ensures.others c.read_chain.ensures.same (c.read_chain.ensures.stops tells)

pub returns-in-Err-clause-went : goal.returns-in-Err-clause-went
returns-in-Err-clause-went g c tells = went_by _ _ _ _ c.read_chain.ensures.others c.read_chain.ensures.same (c.read_chain.ensures.stops tells)

pub returns-in-Ok-clause-stays : goal.returns-in-Ok-clause-stays
returns-in-Ok-clause-stays g c tells = stays_by _ _ _ _ (c.in-Ok.ensures.pages tells) (c.in-Ok.ensures.known tells) (λ saved safe. c.in-Ok.ensures.safe tells saved safe)

pub returns-in-Err-clause-damaged : goal.returns-in-Err-clause-damaged
returns-in-Err-clause-damaged g c tells =
    catalog_breaks c.in-Err.refusal (book_of (g.D.Disk.told c.args.disk.now) c.args.pages.now) (head_now c.args.pages.now) _ (ap (λ (h : Header). h.catalog) c.header.ensures) (omega arith) (c.in-Err.ensures.damaged tells)

use Rattle.std.proofs.Common.{◌≡◌, List, ℕ, refl, subst, arith}
use Rattle.wat_replay.specs.State.{Lists}
use Rattle.wat_book.specs.Chains.{all_pages}
use Rattle.wat_book.proofs.Chaining.{none_twice}
use Rattle.wat_pages.specs.Pages.{book_of}
use Rattle.wat_undo.specs.Kept.{lists_of}
use Rattle.wat_undo.specs.Payload.{SpellsLists}
use Rattle.wat_undo.proofs.Loading.{loads_some, loads_same, never_fails, fails_in_chain, fails_never, spells_none}
use Rattle.wat_undo.proofs.undo.Undo.load.Goals as goal

pub read_chain-requires-clause-once : goal.read_chain-requires-clause-once
read_chain-requires-clause-once g c = none_twice

pub returns-in-Err-clause-undamaged : goal.returns-in-Err-clause-undamaged
returns-in-Err-clause-undamaged g c tells me owners lists held =
    let book = book_of (g.D.Disk.told c.args.disk.now) c.args.pages.now in
    fails_never c.in-Err.refusal book owners me c.args.first lists held (fails_in_chain c.in-Err.refusal (all_pages book) c.args.first (c.in-Err.ensures.damaged tells))

pub returns-in-Ok-Some-clause-saved : goal.returns-in-Ok-Some-clause-saved
returns-in-Ok-Some-clause-saved g c tells me owners lists held =
    let book = book_of (g.D.Disk.told c.args.disk.now) c.args.pages.now in
    let found = lists_of c.in-Ok-Some.undo in
    let spelled = rw c.in-Ok-Some.field-0-is at c.in-Ok-Some.ensures.some in
    loads_same book owners me c.args.first lists held found
    (loads_some (all_pages book) c.args.first c.in-Ok.chain.pages.items c.in-Ok.chain.payload.items found (c.in-Ok.ensures.read tells) c.if-first-eq0.false (subst (λ (payload : List ℕ). SpellsLists payload found) c.as_slice.ensures.value spelled))

pub returns-in-Ok-None-clause-damaged : goal.returns-in-Ok-None-clause-damaged
returns-in-Ok-None-clause-damaged g c tells =
    let book = book_of (g.D.Disk.told c.args.disk.now) c.args.pages.now in
    let none = rw c.in-Ok-None.field-0-is at c.in-Ok-None.ensures.none in (
      refl,
      c.args.first,
      omega arith,
      spells_none (all_pages book) c.args.first c.in-Ok.chain.pages.items c.in-Ok.chain.payload.items (c.in-Ok.ensures.read tells) c.if-first-eq0.false
          (subst (λ (payload : List ℕ). (lists : Lists) → SpellsLists payload lists → ⊥) c.as_slice.ensures.value none),
    )

pub returns-in-Ok-None-clause-undamaged : goal.returns-in-Ok-None-clause-undamaged
returns-in-Ok-None-clause-undamaged g c tells me owners lists held =
    let book = book_of (g.D.Disk.told c.args.disk.now) c.args.pages.now in
    let none = rw c.in-Ok-None.field-0-is at c.in-Ok-None.ensures.none in
    never_fails book owners me c.args.first lists held c.args.first
    (spells_none (all_pages book) c.args.first c.in-Ok.chain.pages.items c.in-Ok.chain.payload.items (c.in-Ok.ensures.read tells) c.if-first-eq0.false
    (subst (λ (payload : List ℕ). (lists : Lists) → SpellsLists payload lists → ⊥) c.as_slice.ensures.value none))

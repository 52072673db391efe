use Rattle.std.proofs.Common.{◌≡◌, ◌⊎◌, ◌≤◌, [], inl, length, refl, sym, ◌∙◌, subst}
use Rattle.wat_book.specs.Chains.{HoldsBriefly, all_pages, IsReadChain}
use Rattle.wat_book.proofs.Chaining.{none_twice, section_in_all}
use Rattle.wat_pages.specs.Pages.{book_of, count_of}
use Rattle.wat_payload.proofs.Going.{covers_then, if_page_limit}
use Rattle.wat_payload.proofs.Laying.{bound_same, within_more}
use Rattle.wat_payload.proofs.Starting.{started, read_is, worked_before, stays_first, too_much}
use Rattle.wat_payload.proofs.writing.write_chain.Goals as goal

pub read_chain-requires-clause-once : goal.read_chain-requires-clause-once
read_chain-requires-clause-once g c = none_twice

pub returns-in-Err-clause-undamaged : goal.returns-in-Err-clause-undamaged
returns-in-Err-clause-undamaged g c tells saved me owners free before safe count real plain owned held =
    c.in-Err.ensures.sound tells held.list before (section_in_all (book_of (g.D.Disk.told c.args.disk.now) c.args.pages.now) owners me c.args.first held.list before held.chain) refl

pub returns-in-Err-clause-limited : goal.returns-in-Err-clause-limited
returns-in-Err-clause-limited g c = if_page_limit c.in-Err.refusal (λ count limit. ⊥) _ (λ count limit no. absurd no) c.in-Err.ensures.limited

pub returns-in-Err-clause-needed : goal.returns-in-Err-clause-needed
returns-in-Err-clause-needed g c tells me owners free before real plain owned held = if_page_limit c.in-Err.refusal (λ count limit. ⊥) _ (λ count limit no. absurd no) c.in-Err.ensures.limited

pub returns-in-Ok-write_over-clause-written : goal.returns-in-Ok-write_over-clause-written
returns-in-Ok-write_over-clause-written g c tells me owners free before real plain owned held =
    let payload = c.in-Ok.chain.payload.items in
    let list = c.as_slice.result.now in
    let read = subst (λ l. IsReadChain (all_pages (book_of (g.D.Disk.told c.args.disk.now) c.args.pages.now)) [] c.args.first l payload) (sym c.as_slice.ensures.value) (c.in-Ok.ensures.read tells) in
    let s = started me _ owners free _ c.args.first before list payload owned held (c.in-Ok.ensures.pages tells) read in
    worked_before me _ owners free _ c.args.first list s _ (λ mine. HoldsBriefly mine c.in-Ok-write_over.now c.args.payload.now) real
    (c.in-Ok-write_over.ensures.written tells me c.args.first owners free s.payload real plain s.owned s.whole)

pub returns-in-Ok-write_over-clause-stays : goal.returns-in-Ok-write_over-clause-stays
returns-in-Ok-write_over-clause-stays g c tells some full =
    let payload = c.in-Ok.chain.payload.items in
    let list = c.as_slice.result.now in
    let read = subst (λ l. IsReadChain (all_pages (book_of (g.D.Disk.told c.args.disk.now) c.args.pages.now)) [] c.args.first l payload) (sym c.as_slice.ensures.value) (c.in-Ok.ensures.read tells) in
    stays_first _ [] c.args.first list payload c.in-Ok-write_over.now read some (λ here behind is. c.in-Ok-write_over.ensures.stays here behind is full)

pub returns-in-Ok-write_over-clause-within : goal.returns-in-Ok-write_over-clause-within
returns-in-Ok-write_over-clause-within g c tells =
    let same = c.read_chain.ensures.same in
    let mid = c.read_chain.new.pages in
    within_more _ _ _ _ (inl same.count)
    (subst (λ n. (count_of c.write_over.new.pages ≡ count_of mid) ⊎ (count_of c.write_over.new.pages ≤ n)) (bound_same c.args.within c.args.pages.now mid same.limit) (c.in-Ok-write_over.ensures.within tells))

pub returns-in-Ok-write_over-clause-stops : goal.returns-in-Ok-write_over-clause-stops
returns-in-Ok-write_over-clause-stops g c tells saved safe = covers_then saved _ _ _ (c.read_chain.ensures.stops tells saved safe) (c.write_over.ensures.stops tells saved (c.in-Ok.ensures.safe tells saved safe))

pub returns-in-Ok-write_over-clause-safe : goal.returns-in-Ok-write_over-clause-safe
returns-in-Ok-write_over-clause-safe g c tells saved safe = c.in-Ok-write_over.ensures.safe tells saved (c.in-Ok.ensures.safe tells saved safe)

pub returns-clause-stops : goal.returns-clause-stops
returns-clause-stops g c tells saved safe = covers_then saved _ _ _ (c.read_chain.ensures.stops tells saved safe) (c.write_over.ensures.stops tells saved (c.in-Ok.ensures.safe tells saved safe))

pub returns-clause-undamaged : goal.returns-clause-undamaged
returns-clause-undamaged g c tells saved me owners free before safe count real plain owned held =
    let payload = c.in-Ok.chain.payload.items in
    let list = c.as_slice.result.now in
    let read = subst (λ l. IsReadChain (all_pages (book_of (g.D.Disk.told c.args.disk.now) c.args.pages.now)) [] c.args.first l payload) (sym c.as_slice.ensures.value) (c.in-Ok.ensures.read tells) in
    let s = started me _ owners free _ c.args.first before list payload owned held (c.in-Ok.ensures.pages tells) read in
    c.in-Err-write_over.ensures.undamaged tells saved me c.args.first owners free s.payload (c.in-Ok.ensures.safe tells saved safe) (count ∙ sym c.read_chain.ensures.same.stored) real plain s.owned s.whole

pub returns-clause-needed : goal.returns-clause-needed
returns-clause-needed g c tells me owners free before real plain owned held =
    let payload = c.in-Ok.chain.payload.items in
    let list = c.as_slice.result.now in
    let read = subst (λ l. IsReadChain (all_pages (book_of (g.D.Disk.told c.args.disk.now) c.args.pages.now)) [] c.args.first l payload) (sym c.as_slice.ensures.value) (c.in-Ok.ensures.read tells) in
    let s = started me _ owners free _ c.args.first before list payload owned held (c.in-Ok.ensures.pages tells) read in
    let lists = read_is me (book_of (g.D.Disk.told c.args.disk.now) c.args.pages.now) owners c.args.first before list payload held read in
    if_page_limit c.in-Err-write_over.refusal _ _ (λ count limit at. too_much held.list list (length free) limit _ _ (length c.args.payload.now) lists c.read_chain.ensures.same.count at)
    (c.in-Err-write_over.ensures.needed tells me c.args.first owners free s.payload real plain s.owned s.whole)

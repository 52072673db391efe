use Rattle.std.proofs.Common.{◌≡◌, length, true, false, sym, ◌∙◌, arith, rules}
use Rattle.wat_book.specs.Chains.{chain_front}
use Rattle.wat_payload.proofs.Links.{next_read, count_read, reads_link}
use Rattle.wat_payload.proofs.link.link_in.Goals as goal

pub returns-then-count-gt4080-clause-none : goal.returns-then-count-gt4080-clause-none
returns-then-count-gt4080-clause-none c next part is =
    omega (arith, is.short, c.from_be_bytes-count.ensures, count_read c.args.page.now next (length part) (omega (arith, is.short)) is.front, c.if-count-gt4080.true)

pub returns-else-same-clause-none : goal.returns-else-same-clause-none
returns-else-same-clause-none c next part is =
    let one : c.from_be_bytes-next.result ≡ next = omega (arith, c.from_be_bytes-next.ensures, next_read c.args.page.now next (length part) is.number is.front) in
    let two : c.from_be_bytes-count.result ≡ length part = omega (arith, c.from_be_bytes-count.ensures, count_read c.args.page.now next (length part) (omega (arith, is.short)) is.front) in
    let yes = c.same.ensures.1 (is.front ∙ (λ i. chain_front (sym one i) (sym two i)) ∙ sym c.front.ensures) in
    let no : true ≡ false = sym yes ∙ c.if-same.false in cc

pub returns-then-same-clause-some : goal.returns-then-same-clause-some
returns-then-same-clause-some c =
    reads_link c.args.page.now _ c.from_be_bytes-next.result c.from_be_bytes-count.result c.requires (c.same.ensures.0 c.if-same.true ∙ c.front.ensures) (omega arith) (omega (arith, c.if-count-gt4080.false)) (search rules)

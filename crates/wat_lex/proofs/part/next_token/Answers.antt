use Rattle.std.proofs.Common.{◌≡◌, ◌+◌, ◌<◌, ◌≤◌, ℕ, List, length, drop, sym, ◌∙◌, ap, length-drop, arith}
use Rattle.std.proofs.lemmas.List.{drop-drop}
use Rattle.wat_lex.specs.Parts.{next_from}
use Rattle.wat_lex.specs.Tokens.{piece, tokens_from}
use Rattle.wat_lex.proofs.Parts.{next_blank, next_found, some_kind, no_kind}
use Rattle.wat_lex.proofs.Pieces.{all_taken}
use Rattle.wat_lex.proofs.part.next_token.Goals as goal

pub returns-then-is_some-clause-next : goal.returns-then-is_some-clause-next
returns-then-is_some-clause-next c =
    let is : c.piece-kind.result ≡ piece (drop c.blanks.at c.args.text.now) = c.piece-kind.ensures.piece ∙ ap piece (all_taken c.args.text.now c.blanks.at) in
    let some : 0 < length (drop c.blanks.at c.args.text.now) = omega (arith, length-drop c.blanks.at c.args.text.now) in
    let kind = some_kind c.piece-kind.result.0 (sym c.is_some.ensures ∙ c.if-is_some.true) in
    sym (next_found (length c.args.text.now) c.blanks.at (drop c.blanks.at c.args.text.now) c.piece-kind.result kind.0 some is c.piece-kind.ensures.some kind.1) ∙ c.blanks.invariant.next

pub blanks-preserved : goal.blanks-preserved
blanks-preserved c =
    let is : c.piece-kind.result ≡ piece (drop c.blanks.at c.args.text.now) = c.piece-kind.ensures.piece ∙ ap piece (all_taken c.args.text.now c.blanks.at) in
    let some : 0 < length (drop c.blanks.at c.args.text.now) = omega (arith, length-drop c.blanks.at c.args.text.now) in
    let short : c.piece-kind.result.1 ≤ length (drop c.blanks.at c.args.text.now) = omega (arith, c.piece-kind.ensures.within, ap length (all_taken c.args.text.now c.blanks.at)) in
    record {
      within = omega (arith, short, length-drop c.blanks.at c.args.text.now);
      next =
          ap (λ (y : List ℕ). next_from 0 (length c.args.text.now) (tokens_from 0 (c.blanks.at + c.piece-kind.result.1) y)) (sym (drop-drop c.piece-kind.result.1 c.blanks.at c.args.text.now))
          ∙ sym (next_blank (length c.args.text.now) c.blanks.at (drop c.blanks.at c.args.text.now) c.piece-kind.result some is c.piece-kind.ensures.some (no_kind c.piece-kind.result.0 (sym c.is_some.ensures ∙ c.if-is_some.false)))
          ∙ c.blanks.invariant.next;
    }

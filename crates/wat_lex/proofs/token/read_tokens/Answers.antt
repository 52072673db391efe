use Rattle.std.proofs.Common.{◌≡◌, ◌+◌, ◌<◌, ◌≤◌, ℕ, List, ◌++◌, length, drop, refl, sym, ◌∙◌, ap, append_assoc, length-drop, arith}
use Rattle.std.proofs.lemmas.List.{drop-drop}
use Rattle.wat_lex.specs.Tokens.{Piece, piece, token_at, tokens_from, tokens_of}
use Rattle.wat_lex.specs.declared.token.Token.{Token}
use Rattle.wat_lex.proofs.Pieces.{all_taken, tokens_from-step}
use Rattle.wat_lex.proofs.token.read_tokens.Goals as goal

pub pieces-init : goal.pieces-init
unfolding tokens_of
pieces-init c = (omega arith, rw c.new-found.ensures refl)

pub pieces-preserved : goal.pieces-preserved
pieces-preserved c =
    let text : List ℕ = c.args.text.now in
    let at : ℕ = c.pieces.at in
    let p : Piece = c.piece-kind.result in
    let z : p ≡ piece (drop c.pieces.at c.args.text.now) = c.piece-kind.ensures.piece ∙ ap piece (all_taken c.args.text.now c.pieces.at) in
    let some : 0 < length (drop c.pieces.at c.args.text.now) = omega (arith, length-drop c.pieces.at c.args.text.now) in
    let short : p.1 ≤ length (drop c.pieces.at c.args.text.now) = omega (arith, c.piece-kind.ensures.within, ap length (all_taken c.args.text.now c.pieces.at)) in
    let within : c.pieces.at + p.1 ≤ length c.args.text.now = omega (arith, short, length-drop c.pieces.at c.args.text.now) in
    let next : drop p.1 (drop c.pieces.at c.args.text.now) ≡ drop (c.pieces.at + p.1) c.args.text.now = drop-drop p.1 c.pieces.at c.args.text.now in (
      within,
      ap (λ (v : List Token). v ++ tokens_from 0 (c.pieces.at + p.1) (drop (c.pieces.at + p.1) c.args.text.now)) c.in_ok-push_token.ensures
          ∙ append_assoc c.pieces.found (token_at c.pieces.at p.0 p.1) _
          ∙ ap (λ (v : List Token). c.pieces.found ++ v)
          (ap (λ (y : List ℕ). token_at c.pieces.at p.0 p.1 ++ tokens_from 0 (c.pieces.at + p.1) y) (sym next)
          ∙ sym (tokens_from-step (drop c.pieces.at c.args.text.now) c.pieces.at p some z c.piece-kind.ensures.some))
          ∙ c.pieces.invariant.1,
    )

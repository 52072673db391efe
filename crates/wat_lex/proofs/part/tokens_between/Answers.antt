use Rattle.std.proofs.Common.{◌≡◌, ◌+◌, ◌<◌, ◌≤◌, ◌++◌, inl, inr, ℕ, cond, nat_le, List, [], length, drop, filter, sym, ◌∙◌, ap, subst, append_assoc, length-drop, arith}
use Rattle.std.proofs.lemmas.List.{drop-drop}
use Rattle.wat_lex.specs.declared.token.Token.{Token}
use Rattle.wat_lex.specs.Parts.{is_within, tokens_within, next_from}
use Rattle.wat_lex.specs.Tokens.{piece, token_at, tokens_from, tokens_of}
use Rattle.wat_lex.proofs.Parts.{BeginsPart, part_begins, part_step, next_step, IsPast, part_done, next_done}
use Rattle.std.specs.List.{AllByRecursion}
use Rattle.wat_lex.specs.Values.{IsSlice}
use Rattle.wat_lex.proofs.Pieces.{all_taken}
use Rattle.wat_lex.proofs.Slices.{part_sliced}
use Rattle.wat_lex.proofs.part.tokens_between.Goals as goal
use Rattle.wat_lex.proofs.part.tokens_between.Goals.{then-pieces-test+else-at-bytes, else-pieces-test}

pub pieces-init : goal.pieces-init
pieces-init c =
    let b : BeginsPart c.args.text.now c.args.from c.args.to = part_begins c.args.text.now c.args.from c.args.to c.requires.begins c.requires.ordered in
    rw c.as_bytes-bytes.ensures.value (rw c.in_ok-found.ensures (record { behind = omega arith; within = b.most; tokens = b.tokens; next = b.next }))

pub pieces-preserved : goal.pieces-preserved
pieces-preserved c =
    let text : List ℕ = c.as_bytes-bytes.result.now in
    let is : c.piece-kind.result ≡ piece (drop c.pieces.at c.as_bytes-bytes.result.now) = c.piece-kind.ensures.piece ∙ ap piece (all_taken c.as_bytes-bytes.result.now c.pieces.at) in
    let some : 0 < length (drop c.pieces.at c.as_bytes-bytes.result.now) = omega (arith, length-drop c.pieces.at c.as_bytes-bytes.result.now) in
    let short : c.piece-kind.result.1 ≤ length (drop c.pieces.at c.as_bytes-bytes.result.now) = omega (arith, c.piece-kind.ensures.within, ap length (all_taken c.as_bytes-bytes.result.now c.pieces.at)) in
    let step : drop c.piece-kind.result.1 (drop c.pieces.at c.as_bytes-bytes.result.now) ≡ drop (c.pieces.at + c.piece-kind.result.1) c.as_bytes-bytes.result.now = drop-drop c.piece-kind.result.1 c.pieces.at c.as_bytes-bytes.result.now in
    record {
      behind = omega arith;
      within = omega (arith, short, length-drop c.pieces.at c.as_bytes-bytes.result.now);
      tokens =
          ap (λ (v : List Token). v ++ filter (is_within c.args.from c.args.to) (tokens_from 0 (c.pieces.at + c.piece-kind.result.1) (drop (c.pieces.at + c.piece-kind.result.1) c.as_bytes-bytes.result.now))) c.in_ok-push_within.ensures
          ∙ append_assoc c.pieces.found _ _
          ∙ ap (λ (v : List Token). c.pieces.found ++ v)
          (ap (λ (y : List ℕ). cond (nat_le (c.pieces.at + c.piece-kind.result.1) c.args.to) (token_at c.pieces.at c.piece-kind.result.0 c.piece-kind.result.1) [] ++ filter (is_within c.args.from c.args.to) (tokens_from 0 (c.pieces.at + c.piece-kind.result.1) y)) (sym step)
          ∙ sym (part_step c.args.from c.args.to c.pieces.at (drop c.pieces.at c.as_bytes-bytes.result.now) c.piece-kind.result some is c.piece-kind.ensures.some c.pieces.invariant.behind))
          ∙ c.pieces.invariant.tokens;
      next =
          ap (λ (y : List ℕ). next_from c.args.to (length c.as_bytes-bytes.result.now) (tokens_from 0 (c.pieces.at + c.piece-kind.result.1) y)) (sym step)
          ∙ sym (next_step c.args.to (length c.as_bytes-bytes.result.now) c.pieces.at (drop c.pieces.at c.as_bytes-bytes.result.now) c.piece-kind.result some is c.piece-kind.ensures.some c.pieces-test.true)
          ∙ c.pieces.invariant.next;
    }

pub returns-clause-tokens : goal.returns-clause-tokens
returns-clause-tokens c =
    let past : IsPast c.as_bytes-bytes.result.now c.args.to c.pieces.at = elim c.pieces-test.branch [ then-pieces-test+else-at-bytes w ↦ inr (omega arith) | else-pieces-test w ↦ inl (omega arith) ] in
    part_done c.as_bytes-bytes.result.now c.args.from c.args.to c.pieces.at c.pieces.found past c.pieces.invariant.tokens
    ∙ ap (λ (y : List ℕ). tokens_within y c.args.from c.args.to) c.as_bytes-bytes.ensures.value

pub returns-clause-slices : goal.returns-clause-slices
returns-clause-slices c =
    let past : IsPast c.as_bytes-bytes.result.now c.args.to c.pieces.at = elim c.pieces-test.branch [ then-pieces-test+else-at-bytes w ↦ inr (omega arith) | else-pieces-test w ↦ inl (omega arith) ] in
    let e : c.pieces.found ≡ tokens_within c.args.text.now c.args.from c.args.to =
    part_done c.as_bytes-bytes.result.now c.args.from c.args.to c.pieces.at c.pieces.found past c.pieces.invariant.tokens
    ∙ ap (λ (y : List ℕ). tokens_within y c.args.from c.args.to) c.as_bytes-bytes.ensures.value in
    subst (AllByRecursion (IsSlice c.args.text.now)) (sym e) (part_sliced c.args.text.now c.args.from c.args.to c.utf8.text)

pub returns-clause-next : goal.returns-clause-next
returns-clause-next c =
    let past : IsPast c.as_bytes-bytes.result.now c.args.to c.pieces.at = elim c.pieces-test.branch [ then-pieces-test+else-at-bytes w ↦ inr (omega arith) | else-pieces-test w ↦ inl (omega arith) ] in
    c.next_token-next.ensures.next
    ∙ next_done c.as_bytes-bytes.result.now c.args.to c.pieces.at past
    ∙ c.pieces.invariant.next
    ∙ ap (λ (y : List ℕ). next_from c.args.to (length y) (tokens_of y)) c.as_bytes-bytes.ensures.value

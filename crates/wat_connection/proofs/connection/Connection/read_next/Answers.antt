use Rattle.std.proofs.Common.{◌≡◌, ℕ, ◌<◌, length, List, get_or, sym, ap, ◌∙◌, subst, arith}
use Rattle.wat_parse.specs.declared.script.Span.{Span}
use Rattle.wat_parse.specs.Statements.{statements_of}
use Rattle.wat_connection.proofs.TransactionLemmas.{got}
use Rattle.wat_connection.proofs.connection.Connection.read_next.Goals as goal

-- a place among those of the script is one of its statements
span_there : (text script : List ℕ) (spans slice : List Span) (i : ℕ) (d : Span) → text ≡ script → spans ≡ statements_of script → slice ≡ spans → i < length slice
    → (x : ℕ) × (x < length (statements_of text)) × (get_or (statements_of text) x (get_or slice i d) ≡ get_or slice i d)
span_there text script spans slice i d as_text whole as_slice low =
    let same : slice ≡ statements_of text = as_slice ∙ whole ∙ ap statements_of (sym as_text) in
    subst (λ (all : List Span). (x : ℕ) × (x < length all) × (get_or all x (get_or slice i d) ≡ get_or slice i d)) same (i, low, sym (got slice i d low))

pub read-requires-clause-span : goal.read-requires-clause-span
read-requires-clause-span c =
    let low : c.self.inside.answered < length c.self.inside.spans = omega (arith, c.if-self-len.true, c.len.ensures) in
    span_there c.as_str.result.now c.self.inside.script c.self.inside.spans c.as_slice.result.now c.self.inside.answered (record { from = 0; to = 0 }) c.as_str.ensures c.self.invariant.whole c.as_slice.ensures
    (subst (λ (all : List Span). c.self.inside.answered < length all) (sym c.as_slice.ensures) low)

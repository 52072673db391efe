use Rattle.std.proofs.Common.{List, ◌++◌, None, sym, ◌∙◌, ap}
use Rattle.wat_lex.specs.declared.token.Token.{Token}
use Rattle.wat_lex.specs.Tokens.{tokens_of}
use Rattle.wat_parse.specs.declared.script.Span.{Span}
use Rattle.wat_parse.specs.Statements.{statements_of}
use Rattle.wat_parse.proofs.Groups.{spans_from, spans_from-groups}
use Rattle.wat_parse.proofs.script.statements.Goals as goal

pub tokens-init : goal.tokens-init
unfolding statements_of
tokens-init c =
    ap (λ (v : List Span). v ++ spans_from c.as_bytes-bytes.result.now None c.as_slice-rest.result.now) c.new-spans.ensures
    ∙ ap (λ (ts : List Token). spans_from c.as_bytes-bytes.result.now None ts) (c.as_slice-rest.ensures ∙ c.in_ok-found.ensures.tokens ∙ ap tokens_of (sym c.as_bytes-bytes.ensures.value))
    ∙ spans_from-groups c.as_bytes-bytes.result.now (tokens_of c.as_bytes-bytes.result.now)

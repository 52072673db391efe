use Rattle.std.proofs.Common.{◌∙◌}
use Rattle.wat_parse.proofs.Parsing.{given_at}
use Rattle.wat_parse.proofs.Spans.{is_span}
use Rattle.wat_parse.proofs.parse.parse_span.Goals as goal

pub tokens_between-requires-clause-begins : goal.tokens_between-requires-clause-begins
tokens_between-requires-clause-begins c = let s = is_span c.args.text.now c.args.span c.requires.span in s.begins

pub tokens_between-requires-clause-ordered : goal.tokens_between-requires-clause-ordered
tokens_between-requires-clause-ordered c = let s = is_span c.args.text.now c.args.span c.requires.span in s.ordered

pub returns : goal.returns
returns c =
    given_at c.args.text.now c.args.span c.as_slice.result.now c.in_ok-part.part.next c.parse_tokens.result
    (c.as_slice.ensures ∙ c.in_ok-part.ensures.tokens) c.in_ok-part.ensures.next c.parse_tokens.ensures

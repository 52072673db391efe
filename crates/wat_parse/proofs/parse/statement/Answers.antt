use Rattle.wat_parse.proofs.Parsing.{found_from, only_from, place_from}
use Rattle.wat_parse.proofs.parse.statement.Goals as goal

pub returns-clause-found : goal.returns-clause-found
returns-clause-found c = found_from c.args.text.now c.args.span c.parse_span.result c.parse_span.ensures

pub returns-clause-only : goal.returns-clause-only
returns-clause-only c = only_from c.args.text.now c.args.span c.parse_span.result c.parse_span.ensures

pub returns-clause-place : goal.returns-clause-place
returns-clause-place c = place_from c.args.text.now c.args.span c.parse_span.result c.parse_span.ensures

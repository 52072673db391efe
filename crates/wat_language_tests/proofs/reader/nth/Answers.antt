use Rattle.std.proofs.Common.{◌≡◌, ◌<◌, List, length, slice_index_or, ◌∙◌, subst, arith}
use Rattle.std.specs.List.{Contains}
use Rattle.wat_parse.specs.declared.script.Span.{Span}
use Rattle.wat_parse.specs.Statements.{statements_of}
use Rattle.wat_parse.proofs.Spans.{got}
use Rattle.wat_language_tests.proofs.reader.nth.Goals as goal

pub statement-requires-clause-span : goal.statement-requires-clause-span
statement-requires-clause-span g c =
    let spans = c.as_slice-spans.result.now in
    let none : Span = record { from = 0; to = 0 } in
    let same : spans ≡ statements_of c.args.text.now = c.as_slice-spans.ensures ∙ c.in_ok-spans.ensures in
    let within : c.args.n < length spans = omega arith in
    subst (λ (xs : List Span). Contains xs (slice_index_or spans c.args.n none)) same (got spans c.args.n none within)

use Rattle.std.proofs.Common.{◌≡◌, [], Some, sym, ap, ◌∙◌}
use Rattle.wat_schema.specs.Catalog.{Catalog}
use Rattle.wat_meaning.specs.declared.reply.Reply.TheVariants.{Rows}
use Rattle.wat_meaning.specs.Meaning.{answer, done_of, shown}
use Rattle.wat_serial.specs.Changing.{with_acts}
use Rattle.wat_serial.proofs.Meanings.{select_is, shown_rows}
use Rattle.wat_serial.proofs.changing.select.Goals as goal

pub returns-in-Arithmetic : goal.returns-in-Arithmetic
returns-in-Arithmetic c =
    let t = c.args.tables.now in
    let q = c.args.query.now in
    c.refused-in-Arithmetic.ensures
    ∙ ap (λ f. done_of t (shown f)) (sym c.in-Arithmetic.is ∙ c.in_ok-answer.ensures ∙ ap (λ s. answer s q c.in-Some.met) c.schema.ensures)
    ∙ select_is t q c.in-Some.met (sym c.in_ok-met.ensures ∙ c.in-Some.is)

pub returns : goal.returns
returns c =
    let t = c.args.tables.now in
    let q = c.args.query.now in
    ap (with_acts (Rows c.in-Rows.rows)) c.new.ensures ∙ shown_rows t c.in-Rows.rows
    ∙ ap (λ f. done_of t (shown f)) (sym c.in-Rows.is ∙ c.in_ok-answer.ensures ∙ ap (λ s. answer s q c.in-Some.met) c.schema.ensures)
    ∙ select_is t q c.in-Some.met (sym c.in_ok-met.ensures ∙ c.in-Some.is)

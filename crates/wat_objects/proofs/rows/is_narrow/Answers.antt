use Rattle.std.proofs.Common.{◌≡◌, true, false, sym, ◌∙◌, arith}
use Rattle.wat_value.proofs.WidthLemmas.{short_row}
use Rattle.wat_objects.proofs.rows.is_narrow.Goals as goal

pub returns-then-not-is_short-clause-narrow : goal.returns-then-not-is_short-clause-narrow
returns-then-not-is_short-clause-narrow c =
    (λ no. absurd (let not_so : false ≡ true = no in cc), λ few. sym c.if-not-is_short.true ∙ c.is_short.ensures.1 (short_row c.args.row.now (omega (arith, few))))

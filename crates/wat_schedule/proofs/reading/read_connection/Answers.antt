use Rattle.std.proofs.Common.{◌≡◌, ◌∙◌, sym, ◌<◌, ◌^◌, ℕ, List, get_or, decimal, arith, lit<}
use Rattle.std.proofs.lemmas.Bool.{false≢true}
use Rattle.std.proofs.lemmas.Fmt.{parse-decimal}
use Rattle.std.proofs.lemmas.Str.Pattern.{starts_char}
use Rattle.wat_schedule.specs.Schedule.{IsConnection}
use Rattle.wat_schedule.proofs.Written.{first_digit, parsed, unparsed}
use Rattle.wat_schedule.proofs.reading.read_connection.Goals as goal
use Rattle.wat_schedule.proofs.reading.read_connection.Goals.{then-starts_with-via-then-starts_with, then-starts_with-via-else-starts_with+then-starts_with-2}

first_byte : (ds : List ℕ) (n c count : ℕ) → count < 2 ^ 16 → IsConnection count n → ds ≡ decimal n → get_or ds 0 0 ≡ c → 48 < c
first_byte ds n c count small is e at = let last = is.last in first_digit ds n c is.first (omega arith) e at

pub returns-then-starts_with-clause-none : goal.returns-then-starts_with-clause-none
returns-then-starts_with-clause-none c = λ conn is e.
    let ds = c.args.digits.now in
    elim c.then-starts_with.branch [
      | then-starts_with-via-then-starts_with w ↦
          let at = (starts_char 48 ds c.starts_with.result c.starts_with.ensures.cases (lit< tt) (lit< tt)).0 w.if-starts_with.true in
          let low = first_byte ds conn 48 c.args.count (omega arith) is e at in
          omega arith
      | then-starts_with-via-else-starts_with+then-starts_with-2 w ↦
          let at = (starts_char 43 ds w.starts_with-else-starts_with.result w.starts_with-else-starts_with.ensures.cases (lit< tt) (lit< tt)).0 w.if-starts_with-2.true in
          let low = first_byte ds conn 43 c.args.count (omega arith) is e at in
          omega arith
    ]

pub returns-in-Ok-clause-some : goal.returns-in-Ok-clause-some
returns-in-Ok-clause-some c =
    let ds = c.args.digits.now in
    let zero = starts_char 48 ds c.starts_with.result c.starts_with.ensures.cases (lit< tt) (lit< tt) in
    let plus = starts_char 43 ds c.starts_with-else-starts_with.result c.starts_with-else-starts_with.ensures.cases (lit< tt) (lit< tt) in
    let is = parsed ds c.parse.result c.in-Ok.conn (λ e. false≢true (sym c.if-starts_with.false ∙ zero.1 e)) (λ e. false≢true (sym c.if-starts_with-2.false ∙ plus.1 e)) c.parse.ensures.value.0 c.in-Ok.is in
    (is.0, record { first = is.1; last = omega arith })

pub returns-in_default-clause-none : goal.returns-in_default-clause-none
returns-in_default-clause-none c = λ conn is e.
    let last = is.last in
    let ok = parse-decimal 16 conn c.args.digits.now c.parse.result (omega arith) (omega arith) e c.parse.ensures.value.0 in
    let same : conn ≡ c.in-Ok.conn = cc in
    omega arith

pub returns-in_default-2-clause-none : goal.returns-in_default-2-clause-none
returns-in_default-2-clause-none c = λ conn is e.
    let last = is.last in
    unparsed c.args.digits.now c.parse.result c.in_default.field-0 conn c.parse.ensures.value.0 c.in_default.is (omega arith) e

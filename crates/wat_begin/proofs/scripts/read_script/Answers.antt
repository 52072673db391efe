use Rattle.std.proofs.Common.{◌≡◌, ◌<◌, ◌≤◌, length, arith, refl, sym, ap, Ok, Err, ◌∙◌}
use Rattle.wat_begin.proofs.ReadingLemmas.{whole_read, long_read, too_long, not_text, is_text}
use Rattle.wat_begin.specs.Readings.{Holds, Missing, Failing, script_limit}
use Rattle.wat_begin.proofs.scripts.read_script.Goals as goal

pub returns-in-Err-Absent-clause-read : goal.returns-in-Err-Absent-clause-read
returns-in-Err-Absent-clause-read g c =
    let read = rw c.in-Err-Absent.field-0-is at c.in-Err-Absent.ensures.read in
    (Missing, (read.0, c.in-Err-Absent.ensures.absent (ap Err c.in-Err-Absent.field-0-is)), refl)

pub returns-in-Err-Failed-clause-read : goal.returns-in-Err-Failed-clause-read
returns-in-Err-Failed-clause-read g c = (Failing, c.in-Err-Failed.ensures.faults.rose (ap Err c.in-Err-Failed.field-0-is), refl)

pub returns-then-len-gt-SCRIPT_LIMIT-clause-read : goal.returns-then-len-gt-SCRIPT_LIMIT-clause-read
returns-then-len-gt-SCRIPT_LIMIT-clause-read g c =
    let read = c.in-Ok.ensures.read in
    let long : script_limit < length c.read.new.into.items = omega arith in
    let text_long = long_read script_limit _ _ read.0 c.new-bytes.ensures.items read.2 long in
    (Holds read.0, (read.1, c.in-Ok.ensures.faults.kept (λ e. cc)), sym (too_long c.args.number read.0 text_long))

pub returns-in-Some-clause-read : goal.returns-in-Some-clause-read
returns-in-Some-clause-read g c =
    let read = c.in-Ok.ensures.read in
    let short : length c.read.new.into.items ≤ script_limit = omega arith in
    let whole = whole_read script_limit _ _ read.0 c.new-bytes.ensures.items read.2 short in
    let at = rw (c.as_slice.ensures.value, whole) at c.in-Some.ensures.at in
    (Holds read.0, (read.1, c.in-Ok.ensures.faults.kept (λ e. cc)), rw at.0 (sym (not_text c.args.number read.0 (rw whole at short) (rw at.0 at at.1))))

pub returns-clause-read : goal.returns-clause-read
returns-clause-read g c =
    let read = c.in-Ok.ensures.read in
    let short : length c.read.new.into.items ≤ script_limit = omega arith in
    let whole = whole_read script_limit _ _ read.0 c.new-bytes.ensures.items read.2 short in
    let text = rw (c.as_slice.ensures.value, whole) at c.in_default.ensures.whole in
    let bytes = rw c.unwrap.ensures at c.from_utf8.ensures.ok in
    let is : c.from.result ≡ read.0 = c.from.ensures ∙ ap (λ v. v.items) bytes ∙ whole in
    (Holds read.0, (read.1, c.in-Ok.ensures.faults.kept (λ e. cc)), ap Ok is ∙ sym (is_text c.args.number read.0 (rw whole at short) text))

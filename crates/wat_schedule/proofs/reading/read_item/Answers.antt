use Rattle.std.proofs.Common.{Option, Some, None, IfNone, arith, lit<}
use Rattle.std.proofs.lemmas.Str.Pattern.{strip_suffix_char}
use Rattle.wat_schedule.proofs.Written.{not_single, not_whole}
use Rattle.wat_schedule.proofs.reading.read_item.Goals as goal

if_none : {A : Type 0} (r : Option A) (P : Type 0) → P → IfNone r P
if_none None P p = p
if_none (Some x) P p = tt

pub returns-in_err-conn-in-Some-clause-none : goal.returns-in_err-conn-in-Some-clause-none
returns-in_err-conn-in-Some-clause-none c =
    let stripped = strip_suffix_char 46 c.args.word.now (Some c.in-Some.digits) c.in-Some.ensures.cases (lit< tt) in
    if_none c.from_residual.result _ (not_single c.args.word.now c.in-Some.digits.now c.args.count (omega arith) stripped c.in_err-conn-in-Some.ensures.none)

pub returns-in_err-conn-in-None-clause-none : goal.returns-in_err-conn-in-None-clause-none
returns-in_err-conn-in-None-clause-none c =
    let plain = strip_suffix_char 46 c.args.word.now None c.in-None.ensures.cases (lit< tt) in
    if_none c.from_residual-in_err-conn-in-None.result _ (not_whole c.args.word.now c.args.count plain c.in_err-conn-in-None.ensures.none)

-- The logic of conditions, with True, False, Unknown and Error.
use Rattle.std.specs.Prelude.{Bool, true, false, ◌||◌, if◌then◌else◌}
use Rattle.wat_value.specs.Fits.{is_null}
use Rattle.wat_expr.specs.declared.outcome.Outcome.{Outcome}
use Rattle.wat_expr.specs.declared.outcome.Outcome.TheVariants.{Is, True, False, Unknown, Error}

abbrev pub truth : Bool → Outcome
truth true = True
truth false = False

abbrev pub is_true : Outcome → Bool
is_true True = true
is_true _ = false

abbrev pub is_false : Outcome → Bool
is_false False = true
is_false _ = false

abbrev pub is_unknown : Outcome → Bool
is_unknown Unknown = true
is_unknown _ = false

abbrev pub is_error : Outcome → Bool
is_error Error = true
is_error _ = false

-- AND: False if an operand is False, else Error if one is Error, else Unknown if one is Unknown, else True
abbrev pub conjunction : Outcome → Outcome → Outcome
conjunction a b =
    if is_false a || is_false b then False
    else if is_error a || is_error b then Error
    else if is_unknown a || is_unknown b then Unknown
    else True

-- OR: True if an operand is True, else Error if one is Error, else Unknown if one is Unknown, else False
abbrev pub disjunction : Outcome → Outcome → Outcome
disjunction a b =
    if is_true a || is_true b then True
    else if is_error a || is_error b then Error
    else if is_unknown a || is_unknown b then Unknown
    else False

-- NOT swaps True and False and keeps the others
abbrev pub negation : Outcome → Outcome
negation True = False
negation False = True
negation o = o

abbrev pub negated_if : Bool → Outcome → Outcome
negated_if negated o = if negated then negation o else o

-- IS NULL: True or False, or Error for Error
abbrev pub null_test : Outcome → Outcome
null_test (Is v) = truth (is_null v)
null_test o = Error

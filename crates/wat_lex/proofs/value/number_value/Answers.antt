use Rattle.std.proofs.Common.{◌≡◌, pos, Some, w64, ap, sym, ◌∙◌, arith, ◌<◌}
use Rattle.std.proofs.lemmas.Int.{to_z_pos}
use Rattle.std.specs.Option.{option_map}
use Rattle.wat_lex.specs.Tokens.{value_of}
use Rattle.wat_lex.proofs.Values.{small_value, large_value}
use Rattle.wat_lex.proofs.value.number_value.Goals as goal

pub returns-then-value-lt-NUMBER_LIMIT : goal.returns-then-value-lt-NUMBER_LIMIT
returns-then-value-lt-NUMBER_LIMIT c =
    let e : c.value_of-value.result ≡ value_of c.args.digits.now = c.value_of-value.ensures.value ∙ ap value_of c.as_bytes.ensures.value in
    let small : c.value_of-value.result < 9223372036854775808 = omega arith in
    record { value = ap Some (to_z_pos w64 c.value_of-value.result small) ∙ sym (ap (option_map pos) (small_value c.args.digits.now c.value_of-value.result e small)) }

pub returns-else-value-lt-NUMBER_LIMIT : goal.returns-else-value-lt-NUMBER_LIMIT
returns-else-value-lt-NUMBER_LIMIT c =
    let e : c.value_of-value.result ≡ value_of c.args.digits.now = c.value_of-value.ensures.value ∙ ap value_of c.as_bytes.ensures.value in
    record { value = sym (ap (option_map pos) (large_value c.args.digits.now c.value_of-value.result e (omega arith))) }

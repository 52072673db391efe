use Rattle.std.proofs.Common.{take, arith, sym, ◌∙◌, ap, subst}
use Rattle.std.proofs.lemmas.List.{take_rest}
use Rattle.std.proofs.Math.Facts.{Fits-lt-pow}
use Rattle.std.specs.Str.{IsUtf8}
use Rattle.wat_value.proofs.DecodingLemmas.{no_text_in, no_text_cut, no_text_of, text_spelled}
use Rattle.wat_value.proofs.decoding.decode_text.Goals as goal

pub returns-then-bytes-lt2 : goal.returns-then-bytes-lt2
returns-then-bytes-lt2 c = no_text_in c.args.bytes.now c.if-bytes-lt2.true

pub returns-then-text-len : goal.returns-then-text-len
returns-then-text-len c =
    let cut = rw (take_rest c.args.bytes.now 2) at c.if-text-len.true in
    no_text_cut c.args.bytes.now (omega (arith, cut, c.read_u16-len.ensures))

pub returns-in_ok-of-in-Ok : goal.returns-in_ok-of-in-Ok
returns-in_ok-of-in-Ok c =
    let rest = take_rest c.args.bytes.now 2 in
    let fits = rw rest at c.if-text-len.false in
    let same = c.in_ok-of-in-Ok.ensures ∙ c.in-Ok.ensures.cases.0 in
    text_spelled c.args.bytes.now c.in_ok-of-in-Ok.field-0 c.read_u16-len.result c.if-bytes-lt2.false (λ i. Fits-lt-pow (c.type_inv.bytes i)) c.read_u16-len.ensures fits
    (same ∙ ap (take c.read_u16-len.result) rest) (subst IsUtf8 (sym same) c.in-Ok.ensures.cases.1)

pub returns-in-Err : goal.returns-in-Err
returns-in-Err c =
    let rest = take_rest c.args.bytes.now 2 in
    no_text_of c.args.bytes.now (subst (λ bs. IsUtf8 bs → ⊥) (λ i. take (c.read_u16-len.ensures i) (rest i)) c.in-Err.ensures.cases.0)

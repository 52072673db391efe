use Rattle.std.proofs.Common.{◌≡◌, ◌++◌, [], ◌∷◌, length, refl, ◌∙◌, ap, subst, arith, length-append}
use Rattle.std.proofs.Math.Facts.{Fits-lt-pow}
use Rattle.std.proofs.lemmas.List.{take_rest, length-drop}
use Rattle.std.specs.List.{flat_map}
use Rattle.wat_value.specs.Encoding.{count_bytes, value_bytes}
use Rattle.wat_value.specs.EncodingParts.{SpellsValue, SpellsNoValue}
use Rattle.wat_value.proofs.DecodingLemmas.{no_row_in, no_row, one_more, all_more, count_spelled}
use Rattle.wat_value.proofs.decoding.decode_row.Goals as goal

pub returns-then-bytes-lt2-clause-none : goal.returns-then-bytes-lt2-clause-none
returns-then-bytes-lt2-clause-none c = no_row_in c.args.bytes.now c.if-bytes-lt2.true

pub loop-i-init : goal.loop-i-init
loop-i-init c = rw c.new-row.ensures (record {
  within = c.if-bytes-lt2.false;
  count = refl;
  spelled = count_spelled c.args.bytes.now c.read_u16-count.result c.if-bytes-lt2.false (λ i. Fits-lt-pow (c.type_inv.bytes i)) c.read_u16-count.ensures;
  values = tt;
})

pub returns-in-None-clause-none : goal.returns-in-None-clause-none
returns-in-None-clause-none c =
    let none = rw c.in-None.is at c.in_ok-value.ensures in
    no_row c.args.bytes.now c.loop-i.row c.loop-i.at c.read_u16-count.result c.loop-i.invariant.spelled c.loop-i.invariant.values (omega arith) c.read_u16-count.type_inv
    (subst SpellsNoValue (take_rest c.args.bytes.now c.loop-i.at) none)

pub loop-i-preserved : goal.loop-i-preserved
loop-i-preserved c =
    let here = rw c.in-Some.is at c.in_ok-value.ensures in
    let value = subst (λ bs. SpellsValue bs c.in-Some.value c.in-Some.len) (take_rest c.args.bytes.now c.loop-i.at) here in
    rw c.in_ok-push-in-Some.ensures.ok (record {
      within = omega (arith, value.within, length-drop c.loop-i.at c.args.bytes.now);
      count = omega (arith, length-append c.loop-i.row (c.in-Some.value ∷ []));
      spelled = one_more c.args.bytes.now c.loop-i.row c.in-Some.value c.loop-i.at c.in-Some.len c.read_u16-count.result c.loop-i.invariant.spelled value.spelled;
      values = all_more c.loop-i.row c.in-Some.value c.loop-i.invariant.values value.encodable;
    })

pub returns-clause-spelled : goal.returns-clause-spelled
returns-clause-spelled c =
    let count : c.read_u16-count.result ≡ length c.loop-i.row = omega arith in
    record {
      within = c.loop-i.invariant.within;
      spelled = c.loop-i.invariant.spelled ∙ ap (λ n. count_bytes n ++ flat_map value_bytes c.loop-i.row) count;
      encodable = record { count = omega (arith, c.read_u16-count.type_inv); values = c.loop-i.invariant.values };
    }

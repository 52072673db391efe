use Rattle.std.proofs.Common.{sym, subst, drop}
use Rattle.std.proofs.lemmas.List.{take_rest}
use Rattle.std.proofs.Math.Facts.{Fits-lt-pow}
use Rattle.wat_log_record.specs.Encoding.{number_bytes, IsNumber}
use Rattle.wat_log_record.specs.Reading.{Begins}
use Rattle.wat_record.proofs.ReadingLemmas.{number_begins, no_number_in}
use Rattle.wat_record.proofs.reading.read_number.Goals as goal

pub returns-then-bytes-lt4 : goal.returns-then-bytes-lt4
returns-then-bytes-lt4 c = no_number_in c.args.bytes.now c.if-bytes-lt4.true

pub returns : goal.returns
returns c =
    let read = number_begins c.args.bytes.now c.if-bytes-lt4.false (λ i. Fits-lt-pow (c.type_inv.bytes i)) in
    subst (Begins number_bytes IsNumber c.args.bytes.now c.read_u32.result) (sym (take_rest c.args.bytes.now 4))
    (subst (λ n. Begins number_bytes IsNumber c.args.bytes.now n (drop 4 c.args.bytes.now)) (sym c.read_u32.ensures) read)

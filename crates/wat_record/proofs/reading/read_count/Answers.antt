use Rattle.std.proofs.Common.{sym, subst, drop}
use Rattle.std.proofs.lemmas.List.{take_rest}
use Rattle.std.proofs.Math.Facts.{Fits-lt-pow}
use Rattle.wat_value.specs.Encoding.{count_bytes}
use Rattle.wat_log_record.specs.Encoding.{IsCount}
use Rattle.wat_log_record.specs.Reading.{Begins}
use Rattle.wat_record.proofs.ReadingLemmas.{count_begins, no_count_in}
use Rattle.wat_record.proofs.reading.read_count.Goals as goal

pub returns-then-bytes-lt2 : goal.returns-then-bytes-lt2
returns-then-bytes-lt2 c = no_count_in c.args.bytes.now c.if-bytes-lt2.true

pub returns : goal.returns
returns c =
    let read = count_begins c.args.bytes.now c.if-bytes-lt2.false (λ i. Fits-lt-pow (c.type_inv.bytes i)) in
    subst (Begins count_bytes IsCount c.args.bytes.now c.read_u16.result) (sym (take_rest c.args.bytes.now 2))
    (subst (λ n. Begins count_bytes IsCount c.args.bytes.now n (drop 2 c.args.bytes.now)) (sym c.read_u16.ensures) read)

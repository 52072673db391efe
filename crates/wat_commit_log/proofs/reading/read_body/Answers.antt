use Rattle.std.proofs.Common.{List, sym, subst}
use Rattle.wat_log_record.specs.declared.log_record.LogRecord.{LogRecord}
use Rattle.wat_commit_log.specs.Reading.{AreNoRecords, AreRecords}
use Rattle.wat_commit_log.proofs.BodyLemmas.{body_fails, map_false, match_some}
use Rattle.wat_commit_log.proofs.reading.read_body.Goals as goal

pub returns-in-Some-clause-none : goal.returns-in-Some-clause-none
returns-in-Some-clause-none c =
    let body = c.args.body.now in
    let are = match_some c.in_ok-records.field-0 c.in-Some.records (AreNoRecords body) (AreRecords body) c.in-Some.is c.in_ok-records.ensures in
    let read = subst (λ (l : List LogRecord). AreRecords body l) (sym c.as_slice.ensures) are in
    map_false c.make_records.result _ _ (λ fails t reads. body_fails c.args.tables.now t body c.as_slice.result.now read fails reads) c.make_records.ensures.none

use Rattle.std.proofs.Common.{◌≡◌, ℕ, List, ◌++◌, [], ◌∷◌, ◌∙◌, ap}
use Rattle.wat_log_record.specs.Encoding.{record_bytes}
use Rattle.wat_log_record.specs.declared.log_record.LogRecord.TheVariants.{Commit}
use Rattle.wat_log.proofs.Bodies.{appended_records, noted_more, all_more, more_some}
use Rattle.wat_log.proofs.record_log.Log.commit.Goals as goal

pub returns-clause-records : goal.returns-clause-records
returns-clause-records g c tells flushed noted has is_noted =
    let log = c.args.self.now in
    let entry = Commit c.args.conn in
    let body : c.push_within.new.frame.body ≡ log.noted.items ++ record_bytes entry = c.push_within.ensures.body ∙ ap (λ (z : List ℕ). z ++ c.commit_bytes.result) log.noted_in_frame ∙ ap (λ (z : List ℕ). log.noted.items ++ z) c.commit_bytes.ensures in
    appended_records c.append-committed.result (g.D.Disk.told c.args.disk.now) (g.D.Disk.told c.append-committed.new.disk) log.gate c.append-committed.new.self c.push_within.new.frame.body
    flushed (noted ++ entry ∷ []) log.known_file c.append-committed.ensures.file has
    (record {
      spelled = noted_more log.noted.items c.push_within.new.frame.body noted entry is_noted.spelled body;
      some = more_some noted entry;
      encodable = all_more noted (entry ∷ []) is_noted.encodable (c.ranges.conn.fits, tt);
    })
    (c.append-committed.ensures.known tells) (c.append-committed.ensures.added tells)

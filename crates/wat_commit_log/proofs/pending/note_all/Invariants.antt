use Rattle.std.proofs.Common.{◌≡◌, map, take}
use Rattle.std.specs.List.{AllByRecursion}
use Rattle.wat_log_record.specs.Encoding.{IsEncodableRecord}
use Rattle.wat_commit_log.specs.Logged.{changed}
use Rattle.wat_commit_log.specs.Pending.{changes_bytes, changes_in}
use Rattle.wat_commit_log.proofs.pending.note_all.Given as goal

abbrev pub invariant-loop-act : goal.invariant-loop-act
invariant-loop-act l = record {
  changes : l.changes.items ≡ changes_in (take l.act-index l.acts);
  bytes : l.bytes.items ≡ changes_bytes (changes_in (take l.act-index l.acts));
  encodable : AllByRecursion IsEncodableRecord (map changed (changes_in (take l.act-index l.acts)));
}

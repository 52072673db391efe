use Rattle.std.proofs.Common.{◌≡◌, ◌∙◌, Some, sym, ap}
use Rattle.std.specs.Option.{option_copied}
use Rattle.wat_commit_log.specs.Reading.{schema_in}
use Rattle.wat_commit_log.proofs.BodyLemmas.{map_false, map_true, rows_fail, rows_made, schema_true}
use Rattle.wat_commit_log.proofs.reading.make_records.Goals as goal

pub returns-in-Some-clause-made : goal.returns-in-Some-clause-made
returns-in-Some-clause-made c =
    let is : schema_in c.args.records.now ≡ Some c.in-Some.change.now = sym c.schema_of.ensures ∙ ap option_copied c.in-Some.is in
    schema_true c.make_schema.result c.args.tables.now c.make_schema.new.tables c.in-Some.change.now c.args.records.now is c.make_schema.ensures.made c.make_schema.ensures.after

pub returns-in-Some-before_commit-clause-made : goal.returns-in-Some-before_commit-clause-made
returns-in-Some-before_commit-clause-made c =
    map_true c.make_changes.result _ _ (rows_made c.args.tables.now c.make_changes.new.tables c.in-Some-before_commit.changes.now c.args.records.now c.in-Some-before_commit.ensures.found) c.make_changes.ensures.made

pub returns-in-Some-before_commit-clause-none : goal.returns-in-Some-before_commit-clause-none
returns-in-Some-before_commit-clause-none c =
    map_false c.make_changes.result _ _
    (λ fails t makes. rows_fail c.args.tables.now t c.in-Some-before_commit.changes.now c.args.records.now c.in-Some-before_commit.ensures.found fails makes) c.make_changes.ensures.none

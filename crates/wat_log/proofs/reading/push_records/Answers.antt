use Rattle.std.proofs.Common.{length, inl, inr, sym, ◌∙◌}
use Rattle.std.proofs.lemmas.Bool.{cases_Bool, eqb-true}
use Rattle.wat_log.proofs.Records.{no_more, no_bytes, some_bytes_left}
use Rattle.wat_log.proofs.reading.push_records.Goals as goal

pub returns-in-None-clause-none : goal.returns-in-None-clause-none
returns-in-None-clause-none c =
    no_more c.args.body.now c.args.into.now c.loop-rest.into c.loop-rest.rest.now c.loop-rest.invariant
    (some_bytes_left c.loop-rest.rest.now c.is_empty.result c.is_empty.ensures c.loop-rest-test.true) (rw c.in-None.is at c.in_ok-entry.ensures.none)

pub returns-clause-none : goal.returns-clause-none
returns-clause-none c =
    elim (cases_Bool c.is_empty-2.result) [
      | inl e ↦ rw e (no_bytes c.args.body.now (eqb-true (length c.args.body.now) 0 (sym c.is_empty-2.ensures ∙ e)))
      | inr e ↦ rw e tt
    ]

use Rattle.std.proofs.Common.{sym, ◌∙◌, subst}
use Rattle.std.specs.Prelude.{Option}
use Rattle.wat_pages.specs.Header.{head_of}
use Rattle.wat_schema.specs.Catalog.{Catalog}
use Rattle.wat_undo.specs.Kept.{lists_of}
use Rattle.wat_loading.specs.Parts.{IfSpelled}
use Rattle.wat_loading.proofs.Telling.{no_schema, no_changes, bad_schema, parts}
use Rattle.wat_loading.proofs.payloads.read_parts.Goals as goal

pub returns-in-Err-clause-damaged : goal.returns-in-Err-clause-damaged
returns-in-Err-clause-damaged c pages log limit count free has =
    no_schema pages log (head_of c.args.header.now limit count free) has.chains c.as_slice.result.now c.args.roots.now.changes.items (c.as_slice.ensures.value ∙ sym has.schema) (sym has.changes) c.in-Err.refusal c.in-Err.ensures.damaged

pub returns-in-Err-read_changes-clause-damaged : goal.returns-in-Err-read_changes-clause-damaged
returns-in-Err-read_changes-clause-damaged c pages log limit count free has =
    no_changes pages log (head_of c.args.header.now limit count free) has.chains c.as_slice.result.now c.as_slice-2.result.now (c.as_slice.ensures.value ∙ sym has.schema) (c.as_slice-2.ensures.value ∙ sym has.changes)
    c.in-Err-read_changes.refusal c.in-Ok.spelled c.in-Ok.ensures.spelled c.in-Err-read_changes.ensures.damaged

pub returns-in-None-clause-damaged : goal.returns-in-None-clause-damaged
returns-in-None-clause-damaged c pages log limit count free has =
    bad_schema pages log (head_of c.args.header.now limit count free) has.chains c.as_slice.result.now c.as_slice-2.result.now (c.as_slice.ensures.value ∙ sym has.schema) (c.as_slice-2.ensures.value ∙ sym has.changes) c.damaged.result
    (lists_of c.in-Ok-read_changes.undo) (subst (λ (o : Option Catalog). IfSpelled c.as_slice.result.now c.args.header.now.next_table o) c.in-None.is c.in-Ok.ensures.spelled) c.in-Ok-read_changes.ensures.tells c.damaged.ensures.place

pub returns-in-Some-clause-read : goal.returns-in-Some-clause-read
returns-in-Some-clause-read c pages limit count free has =
    parts pages c.args.roots.now.schema.items (head_of c.args.header.now limit count free) has.chains c.as_slice.result.now c.as_slice-2.result.now (c.as_slice.ensures.value ∙ sym has.schema) (c.as_slice-2.ensures.value ∙ sym has.changes)
    _ _ (subst (λ (o : Option Catalog). IfSpelled c.as_slice.result.now c.args.header.now.next_table o) c.in-Some.is c.in-Ok.ensures.spelled) c.in-Ok-read_changes.ensures.tells c.catalog_law.ensures

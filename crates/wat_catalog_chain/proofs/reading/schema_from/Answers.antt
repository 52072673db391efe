use Rattle.std.proofs.Common.{◌≡◌, Some, None, sym, ◌∙◌, subst}
use Rattle.wat_schema.specs.Stored.{IsCatalog}
use Rattle.wat_catalog_chain.specs.Definitions.{SpellsThis}
use Rattle.wat_catalog_chain.proofs.Walks.{schema_once, same_schema, stored}
use Rattle.wat_catalog_chain.proofs.reading.schema_from.Goals as goal

pub returns-in-Some-2-clause-schema : goal.returns-in-Some-2-clause-schema
returns-in-Some-2-clause-schema c =
    let d = rw c.in-Some.is at c.in_ok-found.ensures.spelled in
    let is = (c.in_ok-schema.ensures c.in-Some-2.schema).0 c.in-Some-2.is in
    subst (SpellsThis c.args.payload.now c.args.next) (same_schema c.args.payload.now c.args.next _ _ c.in-Some-2.schema d is) d.this

pub returns-in-Some-2-clause-written : goal.returns-in-Some-2-clause-written
returns-in-Some-2-clause-written c other at catalog spells =
    let d = rw c.in-Some.is at c.in_ok-found.ensures.spelled in
    let is = (c.in_ok-schema.ensures c.in-Some-2.schema).0 c.in-Some-2.is in
    sym (same_schema c.args.payload.now c.args.next _ _ c.in-Some-2.schema d is) ∙ schema_once c.args.payload.now d.schema other (d.this.numbered ∙ sym at) d.this.spells spells

pub returns-clause-refused : goal.returns-clause-refused
returns-clause-refused c other at catalog spells =
    let d = rw c.in-Some.is at c.in_ok-found.ensures.spelled in
    let same = schema_once c.args.payload.now d.schema other (d.this.numbered ∙ sym at) d.this.spells spells in
    let stands = (c.in_ok-schema.ensures d.schema).1 (stored c.args.payload.now c.args.next _ _ d (subst IsCatalog (sym same) catalog)) in
    let no : None ≡ Some d.schema = sym c.in-None.is ∙ stands in
    cc

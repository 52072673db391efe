use Rattle.std.proofs.Common.{◌≡◌, Some, subst}
use Rattle.wat_value.specs.declared.change.Change.{Change}
use Rattle.wat_schema.specs.Tables.{apply_change}
use Rattle.wat_objects.proofs.Holding.{inserts, updates, deletes}
use Rattle.wat_objects.proofs.objects.Objects.make.Goals as goal

pub returns-in-Insert-clause-made : goal.returns-in-Insert-clause-made
returns-in-Insert-clause-made g c tells s t h applies =
    let p = inserts c.in-Insert.table c.in-Insert.row s.tables t h.on.tables (subst (λ (x : Change). apply_change x s.tables ≡ Some t) c.in-Insert.is applies) in
    c.put_row.ensures.put tells s t p.makes.def h p.makes.stands p.fit p.makes.tables p.makes.schema p.makes.sets

pub returns-in-Update-clause-made : goal.returns-in-Update-clause-made
returns-in-Update-clause-made g c tells s t h applies =
    let p = updates c.in-Update.table c.in-Update.before c.in-Update.after s.tables t h.on.tables (subst (λ (x : Change). apply_change x s.tables ≡ Some t) c.in-Update.is applies) in
    c.put_row-in-Update.ensures.put tells s t p.makes.def h p.makes.stands p.fit p.makes.tables p.makes.schema p.makes.sets

pub returns-in-Delete-clause-made : goal.returns-in-Delete-clause-made
returns-in-Delete-clause-made g c tells s t h applies =
    let m = deletes c.in-Delete.table c.in-Delete.before s.tables t h.on.tables (subst (λ (x : Change). apply_change x s.tables ≡ Some t) c.in-Delete.is applies) in
    c.remove_row.ensures.removed tells s t m.def h m.stands m.tables m.schema m.sets

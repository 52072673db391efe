use Rattle.std.proofs.Common.{◌∙◌, sym, subst, Option}
use Rattle.wat_locks.specs.declared.table.Holder.{Holder}
use Rattle.wat_locks.specs.Tables.{IsNamedBy}
use Rattle.wat_locks.proofs.TableLemmas.{named_skip, named_new, named_replace, named_keep}
use Rattle.wat_locks.proofs.find.nearer.Goals as goal

pub returns-then-not-is_in_the_way : goal.returns-then-not-is_in_the_way
returns-then-not-is_in_the_way c held is =
    named_skip c.args.only c.args.conn c.args.lock.now c.args.next.now held c.args.best (sym c.is_in_the_way.ensures ∙ c.if-not-is_in_the_way.true) is

pub returns-in-None : goal.returns-in-None
returns-in-None c held is =
    named_new c.args.only c.args.conn c.args.lock.now c.args.next.now held (sym c.is_in_the_way.ensures ∙ c.if-not-is_in_the_way.false)
    (subst (λ (b : Option Holder). IsNamedBy held c.args.conn c.args.lock.now b) c.in-None.is is)

pub returns-then-is_named_before : goal.returns-then-is_named_before
returns-then-is_named_before c held is =
    named_keep c.args.only c.args.conn c.args.lock.now c.args.next.now held c.in-Some.least (sym c.is_in_the_way.ensures ∙ c.if-not-is_in_the_way.false)
    (c.is_named_before.ensures.yes c.if-is_named_before.true)
    (subst (λ (b : Option Holder). IsNamedBy held c.args.conn c.args.lock.now b) c.in-Some.is is)

pub returns-else-is_named_before : goal.returns-else-is_named_before
returns-else-is_named_before c held is =
    named_replace c.args.only c.args.conn c.args.lock.now c.args.next.now held c.in-Some.least (sym c.is_in_the_way.ensures ∙ c.if-not-is_in_the_way.false)
    (c.is_named_before.ensures.no c.if-is_named_before.false)
    (subst (λ (b : Option Holder). IsNamedBy held c.args.conn c.args.lock.now b) c.in-Some.is is)

use Rattle.std.proofs.Common.{◌+◌, ◌≤◌, ◌∙◌, ap, sym, subst, length, List, ℕ}
use Rattle.wat_locks.specs.declared.table.Table.{Table}
use Rattle.wat_locks.specs.Tables.{all_held, AreTables}
use Rattle.wat_locks.proofs.FreedLemmas.{kept_is, freed_is, kept_tables, freed_all}
use Rattle.wat_locks.proofs.locks.take_out.Goals as goal

pub returns-clause-kept : goal.returns-clause-kept
returns-clause-kept g c =
    let past : length c.loop-i.tables.items ≤ c.loop-i.i = subst (λ (n : ℕ). n ≤ c.loop-i.i) (c.len.ensures ∙ c.loop-i.tables.ok.0) c.loop-i-test.false in
    let done = freed_all c.args.conn c.args.scan c.args.tables.now.items c.loop-i.tables.items c.loop-i.i c.args.steps.now c.loop-i.steps c.loop-i.invariant past in
    ap all_held done.0 ∙ kept_is c.args.conn c.args.scan c.args.tables.now.items

pub returns-clause-ticks : goal.returns-clause-ticks
returns-clause-ticks g c =
    let past : length c.loop-i.tables.items ≤ c.loop-i.i = subst (λ (n : ℕ). n ≤ c.loop-i.i) (c.len.ensures ∙ c.loop-i.tables.ok.0) c.loop-i-test.false in
    let done = freed_all c.args.conn c.args.scan c.args.tables.now.items c.loop-i.tables.items c.loop-i.i c.args.steps.now c.loop-i.steps c.loop-i.invariant past in
    done.1 ∙ ap (λ (n : ℕ). c.args.steps.now + n) (freed_is c.args.conn c.args.scan c.args.tables.now.items)

pub returns-clause-tables : goal.returns-clause-tables
returns-clause-tables g c =
    let past : length c.loop-i.tables.items ≤ c.loop-i.i = subst (λ (n : ℕ). n ≤ c.loop-i.i) (c.len.ensures ∙ c.loop-i.tables.ok.0) c.loop-i-test.false in
    let done = freed_all c.args.conn c.args.scan c.args.tables.now.items c.loop-i.tables.items c.loop-i.i c.args.steps.now c.loop-i.steps c.loop-i.invariant past in
    subst (λ (ts : List Table). AreTables ts) (sym done.0) (kept_tables c.args.conn c.args.scan c.args.tables.now.items c.requires)

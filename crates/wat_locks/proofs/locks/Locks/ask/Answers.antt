use Rattle.std.proofs.Common.{subst, List, Option}
use Rattle.std.specs.Prelude.{MatchOption}
use Rattle.wat_locks.specs.declared.want.Want.{Want}
use Rattle.wat_locks.specs.declared.held.Held.{Held}
use Rattle.wat_locks.specs.declared.held.Against.{Against}
use Rattle.wat_locks.specs.declared.table.Table.{Table}
use Rattle.wat_locks.specs.Held.{AreFree, Named, Adds, Compatible}
use Rattle.wat_locks.specs.Tables.{all_held}
use Rattle.wat_list.specs.Has.{HasSame}
use Rattle.wat_locks.proofs.HeldLemmas.{compatible_adds, compatible_same}
use Rattle.wat_locks.proofs.PlaceLemmas.{on_err}
use Rattle.wat_locks.proofs.locks.Locks.ask.Goals as goal

free : (c : goal.In_ok-add-in-None) → AreFree (all_held c.self.inside.tables.items) c.args.conn c.args.wants.now
free c =
    let tables = c.as_slice.result.now in
    let wants = c.as_slice-2.result.now in
    let found = subst (λ (o : Option Against). MatchOption o (AreFree (all_held tables) c.args.conn wants) (Named (all_held tables) c.args.conn wants)) c.in-None.is c.in_ok-against.ensures in
    subst (λ (ts : List Table). AreFree (all_held ts) c.args.conn c.args.wants.now) c.as_slice.ensures.value (subst (λ (ws : List Want). AreFree (all_held tables) c.args.conn ws) c.as_slice-2.ensures found)

adds : (c : goal.In_ok-add-in-None) → Adds (all_held c.self.inside.tables.items) (all_held c.add.new.tables.items) c.args.conn c.args.wants.now
adds c = subst (λ (ws : List Want). Adds (all_held c.self.inside.tables.items) (all_held c.add.new.tables.items) c.args.conn ws) c.as_slice-in-None.ensures c.in_ok-add-in-None.ensures.ok

compatible : (c : goal.In_ok-add-in-None) → Compatible (all_held c.add.new.tables.items)
compatible c = compatible_adds (all_held c.self.inside.tables.items) (all_held c.add.new.tables.items) c.args.conn c.args.wants.now c.self.invariant.0 (free c) (adds c)

pub invariant_of-self-in-None : goal.invariant_of-self-in-None
invariant_of-self-in-None c = (compatible c, c.add.ensures.tables)

pub returns-in_ok-add-in-None-clause-answers : goal.returns-in_ok-add-in-None-clause-answers
returns-in_ok-add-in-None-clause-answers c = (
  subst (λ (hs : List Held). AreFree hs c.args.conn c.args.wants.now) c.self.view_is (free c),
  subst (λ (hs : List Held). Adds hs (all_held c.add.new.tables.items) c.args.conn c.args.wants.now) c.self.view_is (adds c),
)

pub returns-in_ok-add-in-None-clause-compatible : goal.returns-in_ok-add-in-None-clause-compatible
returns-in_ok-add-in-None-clause-compatible c = compatible c

pub invariant_of-self : goal.invariant_of-self
invariant_of-self c = (compatible_same (all_held c.self.inside.tables.items) (all_held c.add.new.tables.items) c.self.invariant.0 c.in_err-add-in-None.ensures.err, c.in_err-add-in-None.ensures.tables)

pub returns-in_err-add-in-None-clause-err : goal.returns-in_err-add-in-None-clause-err
returns-in_err-add-in-None-clause-err c =
    on_err c.from_residual-in_err-add-in-None.result (subst (λ (hs : List Held). HasSame (all_held c.add.new.tables.items) hs) c.self.view_is c.in_err-add-in-None.ensures.err)

pub returns-in_err-add-in-None-clause-compatible : goal.returns-in_err-add-in-None-clause-compatible
returns-in_err-add-in-None-clause-compatible c = compatible_same (all_held c.self.inside.tables.items) (all_held c.add.new.tables.items) c.self.invariant.0 c.in_err-add-in-None.ensures.err

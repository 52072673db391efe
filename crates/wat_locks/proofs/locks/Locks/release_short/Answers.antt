use Rattle.std.proofs.Common.{◌≡◌, subst, List, Some}
use Rattle.wat_locks.specs.declared.held.Held.{Held}
use Rattle.wat_locks.specs.Held.{Frees}
use Rattle.wat_locks.specs.Tables.{all_held, is_freed}
use Rattle.wat_locks.proofs.ReleaseLemmas.{filter_frees, lawful_frees, short_says}
use Rattle.wat_locks.proofs.locks.Locks.release_short.Goals as goal

pub invariant_of-self : goal.invariant_of-self
invariant_of-self g c =
    let old = all_held c.self.inside.tables.items in
    let new = all_held c.take_out.new.tables.items in
    ((lawful_frees (is_freed c.args.conn (Some c.args.scan)) (λ (h : Held). (h.conn ≡ c.args.conn) × (h.short ≡ Some c.args.scan)) old new (short_says c.args.conn c.args.scan) c.take_out.ensures.kept (c.self.invariant.0, c.self.invariant.1.1)).0, c.take_out.ensures.tables)

pub returns-clause-frees : goal.returns-clause-frees
returns-clause-frees g c =
    let old = all_held c.self.inside.tables.items in
    let new = all_held c.take_out.new.tables.items in
    subst (λ (hs : List Held). Frees hs new (λ (h : Held). (h.conn ≡ c.args.conn) × (h.short ≡ Some c.args.scan))) c.self.view_is
    (filter_frees (is_freed c.args.conn (Some c.args.scan)) (λ (h : Held). (h.conn ≡ c.args.conn) × (h.short ≡ Some c.args.scan)) old new (short_says c.args.conn c.args.scan) c.take_out.ensures.kept)

pub returns-clause-compatible : goal.returns-clause-compatible
returns-clause-compatible g c =
    let old = all_held c.self.inside.tables.items in
    let new = all_held c.take_out.new.tables.items in
    (lawful_frees (is_freed c.args.conn (Some c.args.scan)) (λ (h : Held). (h.conn ≡ c.args.conn) × (h.short ≡ Some c.args.scan)) old new (short_says c.args.conn c.args.scan) c.take_out.ensures.kept (c.self.invariant.0, c.self.invariant.1.1)).0

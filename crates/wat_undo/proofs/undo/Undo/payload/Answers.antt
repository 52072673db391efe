use Rattle.std.proofs.Common.{◌≡◌, ◌++◌, ℕ, List, ◌∷◌, [], true, false, length, ap, sym, ◌∙◌, subst, arith}
use Rattle.std.specs.List.{AllByRecursion}
use Rattle.std.specs.Map.Iter.{deref_pair}
use Rattle.std.proofs.lemmas.Map.Iter.{rest_more, rest_all}
use Rattle.wat_value.specs.Encoding.{count_bytes}
use Rattle.wat_undo.specs.Kept.{IsOpen, AreOpen}
use Rattle.wat_undo.proofs.Keeping.{Entries}
use Rattle.wat_undo.proofs.Spelling.{writes_none, next_open, writes_more, writes_all, entries_are}
use Rattle.wat_undo.proofs.undo.Undo.payload.Goals as goal

pub loop-conn-init : goal.loop-conn-init
loop-conn-init c =
    let seen : c.args.self.now ≡ c.self.inside.lists.entries = cc in
    let many : c.len.result ≡ length c.args.self.now = omega (arith, ap length seen) in
    writes_none c.args.self.now _ _ (c.in_ok-push_count.ensures.ok ∙ ap (λ (l : List ℕ). l ++ count_bytes c.len.result) c.new-out.ensures.items ∙ ap count_bytes many) (c.into_iter-conn-iterator.ensures.into_iter_gives.0 ∙ sym seen)
    (subst (AllByRecursion IsOpen) (sym seen) c.self.invariant.each)

pub push_entry-requires-clause-few : goal.push_entry-requires-clause-few
push_entry-requires-clause-few c =
    let left = rest_more deref_pair _ _ c.next.result (c.in-Some.conn, c.in-Some.changes) c.in-Some.is c.next.ensures.steps in
    (next_open c.args.self.now _ _ _ (c.in-Some.conn.now, c.in-Some.changes.now) c.loop-conn.invariant left).few

pub push_entry-requires-clause-writable : goal.push_entry-requires-clause-writable
push_entry-requires-clause-writable c =
    let left = rest_more deref_pair _ _ c.next.result (c.in-Some.conn, c.in-Some.changes) c.in-Some.is c.next.ensures.steps in
    (next_open c.args.self.now _ _ _ (c.in-Some.conn.now, c.in-Some.changes.now) c.loop-conn.invariant left).writable

pub loop-conn-preserved : goal.loop-conn-preserved
loop-conn-preserved c =
    let left = rest_more deref_pair _ _ c.next.result (c.in-Some.conn, c.in-Some.changes) c.in-Some.is c.next.ensures.steps in
    writes_more c.args.self.now _ _ _ _ (c.in-Some.conn.now, c.in-Some.changes.now) c.loop-conn.invariant left c.in_ok-push_entry.ensures.ok c.in_ok-push_entry.ensures.encodable

pub returns-clause-bytes : goal.returns-clause-bytes
returns-clause-bytes c =
    let seen : c.args.self.now ≡ c.self.inside.lists.entries = cc in
    let left = rest_all deref_pair _ _ c.next.result c.in-None.is c.next.ensures.steps in
    writes_all c.args.self.now _ _ c.loop-conn.invariant left
    (λ none. let is : c.is_empty.result ≡ true = c.is_empty.ensures.1 (ap length (sym seen ∙ none)) in let isnt : c.is_empty.result ≡ false = c.if-is_empty.false in cc)

pub returns-clause-entries : goal.returns-clause-entries
returns-clause-entries c =
    let seen : c.args.self.now ≡ c.self.inside.lists.entries = cc in
    let left = rest_all deref_pair _ _ c.next.result c.in-None.is c.next.ensures.steps in
    entries_are c.args.self.now _ _ c.loop-conn.invariant left c.requires (subst AreOpen (sym seen) c.self.invariant)

use Rattle.std.proofs.Common.{◌≡◌, ◌++◌, ◌∷◌, [], List, ap, ◌∙◌, arith}
use Rattle.std.specs.Ordering.{nat_cmp}
use Rattle.std.specs.BTreeMap.{insert_entry}
use Rattle.wat_value.specs.declared.change.Change.{Change}
use Rattle.wat_replay.specs.State.{with_list}
use Rattle.wat_undo.specs.Kept.{lists_of}
use Rattle.wat_undo.proofs.Keeping.{updated_lists, open_begun}
use Rattle.wat_undo.proofs.lists.begin.Goals as goal

pub returns-clause-begun : goal.returns-clause-begun
returns-clause-begun c =
    let old = c.args.lists.now.entries in
    let made : c.push.new.self ≡ c.args.change ∷ [] = c.in_ok-push.ensures.ok ∙ ap (λ (l : List Change). l ++ c.args.change ∷ []) c.new-list.ensures in
    updated_lists c.args.lists.now c.insert.new.self c.args.conn c.push.new.self c.in_ok-insert.ensures.updates.0 ∙ ap (λ (l : List Change). with_list c.args.conn l (lists_of old)) made

pub returns-clause-open : goal.returns-clause-open
returns-clause-open c =
    let old = c.args.lists.now.entries in
    let made : c.push.new.self ≡ c.args.change ∷ [] = c.in_ok-push.ensures.ok ∙ ap (λ (l : List Change). l ++ c.args.change ∷ []) c.new-list.ensures in
    open_begun old c.insert.new.self.entries c.args.conn c.args.change c.requires.open (omega arith) c.requires.writable
    (c.in_ok-insert.ensures.entries ∙ ap (λ (l : List Change). insert_entry nat_cmp old c.args.conn l) made) c.insert.ensures.ordered

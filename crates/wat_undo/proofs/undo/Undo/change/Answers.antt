use Rattle.std.proofs.Common.{◌≡◌, ◌<◌, ◌∙◌, List, length, ap, subst}
use Rattle.wat_value.specs.declared.change.Change.{Change}
use Rattle.wat_undo.specs.Kept.{lists_of}
use Rattle.wat_undo.proofs.Keeping.{Entries, was_list}
use Rattle.wat_undo.proofs.undo.Undo.change.Goals as goal

pub item-requires : goal.item-requires
item-requires c =
    let seen : c.args.self.now ≡ c.self.inside.lists.entries = cc in
    subst (λ (l : List Change). c.args.i < length l) (ap (λ (es : Entries). lists_of es c.args.conn) seen ∙ was_list c.self.inside.lists c.args.conn c.in-Some.list.now c.in-Some.ensures.value) c.requires

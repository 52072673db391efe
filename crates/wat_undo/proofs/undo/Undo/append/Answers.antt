use Rattle.std.proofs.Common.{◌≡◌, ◌<◌, ◌∙◌, ◌++◌, ◌∷◌, [], ℕ, ap, sym, subst}
use Rattle.std.specs.List.{AllByRecursion}
use Rattle.std.specs.Map.{keys_of}
use Rattle.wat_undo.proofs.Keeping.{Entries, insert_last, open_append}
use Rattle.wat_undo.proofs.undo.Undo.append.Goals as goal

pub invariant_of-self-2 : goal.invariant_of-self-2
invariant_of-self-2 c = open_append c.self.inside.lists.entries c.insert.new.self.entries c.args.conn c.args.changes c.self.invariant c.requires.open c.in_ok-insert.ensures.entries c.insert.ensures.ordered

pub returns : goal.returns
returns c =
    let seen : c.self.inside.lists.entries ≡ c.args.self.now = cc in
    c.in_ok-insert.ensures.entries ∙ insert_last c.self.inside.lists.entries c.args.conn c.args.changes (subst (λ (es : Entries). AllByRecursion (λ (k : ℕ). k < c.args.conn) (keys_of es)) (sym seen) c.requires.last)
    ∙ ap (λ (es : Entries). es ++ (c.args.conn, c.args.changes) ∷ []) seen

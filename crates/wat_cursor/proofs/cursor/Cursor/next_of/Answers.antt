use Rattle.std.proofs.Common.{◌≡◌, true, [], ◌∷◌, sym}
use Rattle.wat_grammar.specs.Phrase.{sees}
use Rattle.wat_syntax.specs.Sql.{sql}
use Rattle.wat_cursor.proofs.Ahead.{next_is}
use Rattle.wat_cursor.proofs.cursor.Cursor.next_of.Goals as goal

pub returns-in-len1-up : goal.returns-in-len1-up
returns-in-len1-up c =
    let see : true ≡ sees sql (c.args.kind ∷ []) c.args.self.now = c.if-sees.ensures in
    next_is _ c.self.inside.tokens.now _ _ _ _ c.in-len1-up.len_at_least c.self.view_is (sym see) c.text.ensures.bytes

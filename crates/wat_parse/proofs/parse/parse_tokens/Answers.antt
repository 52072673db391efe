use Rattle.std.proofs.Common.{◌≡◌, ◌≢◌, ◌-◌, ℕ, Err, length, drop, sym, ◌∙◌, ap}
use Rattle.wat_cursor.specs.declared.fault.Fault.TheVariants.{Memory}
use Rattle.wat_syntax.specs.Lexeme.{lexemes_of}
use Rattle.wat_syntax.specs.Parsed.{reading, place_of}
use Rattle.wat_parse.proofs.Parsing.{tree_given, place_given}
use Rattle.wat_parse.proofs.parse.parse_tokens.Goals as goal

pub returns-in-Ok : goal.returns-in-Ok
unfolding reading
returns-in-Ok c = tree_given c.args.text.now c.args.tokens.now c.args.end _ (ap reading (sym c.new-cursor.ensures) ∙ c.in-Ok.ensures.0)

pub returns-in-Err-Syntax : goal.returns-in-Err-Syntax
unfolding reading
returns-in-Err-Syntax c =
    let fault : c.in-Err-Syntax.field-0 ≢ Memory = λ m. cc in
    let none : reading (lexemes_of c.args.text.now c.args.tokens.now) ≡ Err c.whole.new.cursor = ap reading (sym c.new-cursor.ensures) ∙ c.in-Err-Syntax.ensures fault in
    place_given c.args.text.now c.args.tokens.now c.args.end c.place.result c.whole.new.cursor none
    (c.place.ensures ∙ ap (λ (n : ℕ). place_of c.args.end (drop (length c.args.tokens.now - n) c.args.tokens.now)) c.len.ensures)

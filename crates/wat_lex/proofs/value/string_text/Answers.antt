use Rattle.std.proofs.Common.{◌≡◌, ℕ, List, sym, ◌∙◌, ap, subst}
use Rattle.std.specs.Str.{IsUtf8}
use Rattle.wat_lex.specs.Values.{string_text}
use Rattle.wat_lex.proofs.Values.{string_text_utf8}
use Rattle.wat_lex.proofs.value.string_text.Goals as goal

pub unwrap-requires : goal.unwrap-requires
unwrap-requires c =
    let e : c.in_ok-bytes.bytes.items ≡ string_text c.args.token.now = c.in_ok-bytes.ensures ∙ ap string_text c.as_bytes.ensures.value in
    let P : List ℕ → Type 0 = λ y. IsUtf8 y in
    c.from_utf8.ensures.succeeds (subst P (sym e) (string_text_utf8 c.args.token.now c.utf8.token))

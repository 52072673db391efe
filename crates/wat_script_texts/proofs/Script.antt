-- The text of a script has a statement for each tree, in order.
use Rattle.std.proofs.Common.{◌≡◌, ◌==◌, ◌<◌, ℕ, ◌+◌, true, false, ◌&&◌, cond, List, [], ◌∷◌, ◌++◌, length, map, get_or, Result, Ok, refl, sym, ◌∙◌, ap, subst, append_assoc, length-append, arith}
use Rattle.std.proofs.lemmas.Bool.{and_parts}
use Rattle.std.proofs.lemmas.List.{get_or_append_left, get_or-append-add}
use Rattle.std.specs.List.{list_all, flat_map, prefix_len, AllByRecursion}
use denote.Enum.Bare.{sameb}
use Rattle.wat_ast.specs.declared.statement.Statement.{Statement}
use Rattle.wat_ast.specs.declared.statement.Statement.TheVariants as statement
use Rattle.wat_word.specs.declared.keyword.Keyword.{Keyword}
use Rattle.wat_word.specs.declared.keyword.Keyword.TheVariants as w
use Rattle.wat_lex.specs.contracts.token.TokenKind.{the_type}
use Rattle.wat_lex.specs.declared.token.TokenKind.TheVariants as kind
use Rattle.wat_lex.specs.declared.token.Token.{Token as Place}
use Rattle.wat_lex.specs.Tokens.{is_blank, piece, tokens_from, tokens_of}
use Rattle.wat_lex.proofs.Fronts.{piece_of, single_piece, piece_blank, no_token}
use Rattle.wat_lex.proofs.Pieces.{tokens_from-step}
use Rattle.wat_syntax.specs.Lexeme.{Lexeme, lexemes_of}
use Rattle.wat_syntax.specs.Parsed.{parsed}
use Rattle.wat_syntax.specs.Sql.{IsStatement}
use Rattle.wat_syntax.proofs.Placed.{tree_exact}
use Rattle.wat_lex.specs.Parts.{tokens_within, next_from}
use Rattle.wat_parse.specs.declared.script.Span.{Span}
use Rattle.wat_parse.specs.Parsing.{parsed_at}
use Rattle.wat_parse.specs.Statements.{is_semicolon, groups, span_of, statements_of}
use Rattle.wat_spell.specs.Tokens.{Token, word, written}
use Rattle.wat_spell.specs.Statements.{statement_tokens, spelled_text}
use Rattle.wat_spell_laws.specs.AsRead.{statement_as_read}
use Rattle.wat_spell_laws.specs.Read.{IsReadBack}
use Rattle.wat_spell_laws.specs.Readable.{is_readable}
use Rattle.wat_spell_laws.specs.Derived.{token_lexemes}
use Rattle.wat_script_texts.specs.Texts.{end_of_statement, script_text}
use Rattle.wat_script_texts.proofs.Bytes.{EndBy, tokens_end, tokens_within-whole, same_lexemes}
use Rattle.wat_script_texts.proofs.Groups.{group_ended, group_parsed}
use Rattle.wat_script_texts.proofs.Local.{moved, spelled_local}
use Rattle.wat_script_texts.proofs.Pieces.{first_blank}
use Rattle.wat_script_texts.proofs.Stands.{statement_stands}

-- ---- the first token of a statement is a word

record IsBegun (x : Statement) : Type 0 where
  first : Keyword
  more : List Token
  is : statement_tokens x ≡ word first ∷ more

begun : (x : Statement) → IsBegun x
begun (statement.CreateTable n elements) = record { first = w.Create; more = _; is = refl }
begun (statement.CreateIndex n table columns) = record { first = w.Create; more = _; is = refl }
begun (statement.DropTable n) = record { first = w.Drop; more = _; is = refl }
begun (statement.Insert table columns rows) = record { first = w.Insert; more = _; is = refl }
begun (statement.Update table sets filter) = record { first = w.Update; more = _; is = refl }
begun (statement.Delete table filter) = record { first = w.Delete; more = _; is = refl }
begun (statement.Select q) = record { first = w.Select; more = _; is = refl }
begun statement.Commit = record { first = w.Commit; more = _; is = refl }
begun statement.Checkpoint = record { first = w.Checkpoint; more = _; is = refl }
begun statement.Rollback = record { first = w.Rollback; more = _; is = refl }
begun (statement.RollbackTo n) = record { first = w.Rollback; more = _; is = refl }
begun (statement.Savepoint n) = record { first = w.Savepoint; more = _; is = refl }
begun (statement.Release n) = record { first = w.Release; more = _; is = refl }
begun (statement.SetLevel n) = record { first = w.Set; more = _; is = refl }
begun (statement.SetBlocking on) = record { first = w.Set; more = _; is = refl }

-- no blank stands at the front of a script
front_blank : (xs : List Statement) → is_blank (get_or (script_text xs) 0 0) ≡ false
front_blank [] = refl
front_blank (x ∷ xs) =
    let b = begun x in
    ap (λ (ts : List Token). is_blank (get_or ((written ts ++ end_of_statement) ++ script_text xs) 0 0)) b.is
    ∙ ap (λ (z : List ℕ). is_blank (get_or z 0 0)) (append_assoc (written (word b.first ∷ b.more)) end_of_statement (script_text xs))
    ∙ first_blank (word b.first) b.more (end_of_statement ++ script_text xs) refl

-- ---- `;` and a line feed

abbrev semicolon : ℕ → Place
semicolon at = record { kind = kind.Symbol; from = at; to = at + 1 }

stops : (z : List ℕ) → is_blank (get_or z 0 0) ≡ false → prefix_len is_blank z ≡ 0
stops [] e = refl
stops (b ∷ z) e = ap (λ t. cond t (1 + prefix_len is_blank z) 0) e

line_feed : (z : List ℕ) → is_blank (get_or z 0 0) ≡ false → no_token 1 ≡ piece (10 ∷ z)
line_feed z e = sym (piece_blank (10 ∷ z) refl ∙ ap (λ (n : ℕ). no_token (1 + n)) (stops z e))

ending : (at : ℕ) (z : List ℕ) → is_blank (get_or z 0 0) ≡ false → tokens_from 0 at (59 ∷ 10 ∷ z) ≡ semicolon at ∷ tokens_from 0 (at + 2) z
ending at z e =
    let n : at + 1 + 1 ≡ at + 2 = omega arith in
    tokens_from-step (59 ∷ 10 ∷ z) at (piece_of kind.Symbol 1) (omega arith) (single_piece 59 (10 ∷ z) refl refl refl refl) (omega arith)
    ∙ ap (λ (ts : List Place). semicolon at ∷ ts) (tokens_from-step (10 ∷ z) (at + 1) (no_token 1) (omega arith) (line_feed z e) (omega arith))
    ∙ ap (λ (j : ℕ). semicolon at ∷ tokens_from 0 j z) n

byte_there : (p z : List ℕ) (b : ℕ) → get_or (p ++ b ∷ z) (length p) 0 ≡ b
byte_there [] z b = refl
byte_there (x ∷ p) z b = byte_there p z b

is_ended : (p z : List ℕ) → is_semicolon (p ++ 59 ∷ z) (semicolon (length p)) ≡ true
is_ended p z = ap (λ (v : ℕ). v == 59) (byte_there p z 59)

-- ---- no token of a statement is `;`, wherever it stands

further : (p z rest : List ℕ) (t : Place) → t.from < length z → is_semicolon z t ≡ false → is_semicolon (p ++ (z ++ rest)) (moved (length p) t) ≡ false
further p z rest t h e =
    ap (λ (v : ℕ). sameb the_type t.kind kind.Symbol && v == 59) (get_or-append-add p (z ++ rest) t.from 0 ∙ get_or_append_left z rest 0 t.from h) ∙ e

all_further : (p z rest : List ℕ) (ts : List Place) → EndBy (length z) ts → AllByRecursion (λ t. is_semicolon z t ≡ false) ts
    → AllByRecursion (λ t. is_semicolon (p ++ (z ++ rest)) t ≡ false) (map (moved (length p)) ts)
all_further p z rest [] h e = tt
all_further p z rest (t ∷ ts) h e = (further p z rest t (omega (arith, h.0.0, h.0.1)) e.0, all_further p z rest ts h.1 e.1)

-- ---- one statement

some_moved : (at : ℕ) (ts : List Place) → 0 < length ts → 0 < length (map (moved at) ts)
some_moved at [] h = absurd (omega arith)
some_moved at (t ∷ ts) h = omega arith

some_read : (z : List ℕ) (ts : List Place) (y : Lexeme) (ys : List Lexeme) → lexemes_of z ts ≡ y ∷ ys → 0 < length ts
some_read z [] y ys e = absurd (cc)
some_read z (t ∷ ts) y ys e = omega arith

group_read : (text : List ℕ) (front ts us : List Place) (tree : Statement) → 0 < length ts → tokens_of text ≡ front ++ (ts ++ us) → IsStatement (lexemes_of text ts) tree
    → map (parsed_at text) (span_of ts) ≡ Ok tree ∷ []
group_read text front [] us tree h e d = absurd (omega arith)
group_read text front (t ∷ ts) us tree h e d = ap (λ (o : Result Statement ℕ). o ∷ []) (group_parsed text front t ts us tree e d)

map_append : (f : Span → Result Statement ℕ) (xs ys : List Span) → map f (xs ++ ys) ≡ map f xs ++ map f ys
map_append f [] ys = refl
map_append f (x ∷ xs) ys = ap (λ (zs : List (Result Statement ℕ)). f x ∷ zs) (map_append f xs ys)

whole_derived : (z : List ℕ) (tree : Statement) → parsed z 0 (length z) ≡ Ok tree → IsStatement (lexemes_of z (tokens_of z)) tree
unfolding parsed
whole_derived z tree h =
    subst (λ (ts : List Place). IsStatement (lexemes_of z ts) tree) (tokens_within-whole z)
    ((tree_exact z (tokens_within z 0 (length z)) (next_from (length z) (length z) (tokens_of z)) tree).0 h)

-- ---- all of them

abbrev trees : List Statement → List (Result Statement ℕ)
trees xs = map (λ x. Ok (statement_as_read x)) xs

abbrev read_at : List ℕ → List Place → List (Result Statement ℕ)
read_at text ts = map (parsed_at text) (flat_map span_of (groups text ts))

module _ (back : (ts : List Token) → IsReadBack ts)
    (readable : (x : Statement) → is_readable x ≡ true → parsed (spelled_text x) 0 (length (spelled_text x)) ≡ Ok (statement_as_read x)) where
  some_tokens : (x : Statement) → is_readable x ≡ true → 0 < length (tokens_of (spelled_text x))
  some_tokens x ok =
      let b = begun x in
      some_read (spelled_text x) (tokens_of (spelled_text x)) _ _ (back (statement_tokens x) (statement_stands x ok) ∙ ap token_lexemes b.is)

  module _ (x : Statement) (ok : is_readable x ≡ true) (more p text : List ℕ) (front : List Place) (blank : is_blank (get_or more 0 0) ≡ false)
      (is : text ≡ p ++ ((spelled_text x ++ end_of_statement) ++ more))
      (cut : tokens_of text ≡ front ++ tokens_from 0 (length p) ((spelled_text x ++ end_of_statement) ++ more)) where
    abbrev there : List Place
    there = map (moved (length p)) (tokens_of (spelled_text x))

    abbrev behind : List Place
    behind = tokens_from 0 (length p + length (spelled_text x) + 2) more

    text_is : text ≡ p ++ (spelled_text x ++ (59 ∷ 10 ∷ more))
    text_is = is ∙ ap (λ (y : List ℕ). p ++ y) (append_assoc (spelled_text x) end_of_statement more)

    tokens_are : tokens_from 0 (length p) ((spelled_text x ++ end_of_statement) ++ more) ≡ there ++ semicolon (length p + length (spelled_text x)) ∷ behind
    unfolding tokens_of
    tokens_are =
        ap (tokens_from 0 (length p)) (append_assoc (spelled_text x) end_of_statement more)
        ∙ (spelled_local (statement_tokens x) (statement_stands x ok)).tokens (length p) (59 ∷ 10 ∷ more) refl
        ∙ ap (λ (ts : List Place). there ++ ts) (ending (length p + length (spelled_text x)) more blank)

    all_plain : AllByRecursion (λ t. is_semicolon text t ≡ false) there
    unfolding tokens_of
    all_plain =
        subst (λ (y : List ℕ). AllByRecursion (λ t. is_semicolon y t ≡ false) there) (sym text_is)
        (all_further p (spelled_text x) (59 ∷ 10 ∷ more) (tokens_of (spelled_text x)) (tokens_end (spelled_text x)) (spelled_local (statement_tokens x) (statement_stands x ok)).plain)

    ended : is_semicolon text (semicolon (length p + length (spelled_text x))) ≡ true
    ended =
        let n : length p + length (spelled_text x) ≡ length (p ++ spelled_text x) = sym (length-append p (spelled_text x)) in
        ap (λ (y : List ℕ). is_semicolon y (semicolon (length p + length (spelled_text x)))) (text_is ∙ sym (append_assoc p (spelled_text x) (59 ∷ 10 ∷ more)))
        ∙ ap (λ (j : ℕ). is_semicolon ((p ++ spelled_text x) ++ (59 ∷ 10 ∷ more)) (semicolon j)) n
        ∙ is_ended (p ++ spelled_text x) (10 ∷ more)

    derived : IsStatement (lexemes_of text there) (statement_as_read x)
    derived =
        subst (λ (ys : List Lexeme). IsStatement ys (statement_as_read x))
        (sym (ap (λ (y : List ℕ). lexemes_of y there) text_is ∙ same_lexemes p (spelled_text x) (59 ∷ 10 ∷ more) (tokens_of (spelled_text x)) (tokens_end (spelled_text x))))
        (whole_derived (spelled_text x) (statement_as_read x) (readable x ok))

    first_read : map (parsed_at text) (span_of there) ≡ Ok (statement_as_read x) ∷ []
    first_read =
        group_read text front there (semicolon (length p + length (spelled_text x)) ∷ behind) (statement_as_read x) (some_moved (length p) (tokens_of (spelled_text x)) (some_tokens x ok))
        (cut ∙ ap (λ (ts : List Place). front ++ ts) tokens_are) derived

    one_read : read_at text (tokens_from 0 (length p) ((spelled_text x ++ end_of_statement) ++ more)) ≡ Ok (statement_as_read x) ∷ read_at text behind
    one_read =
        ap (read_at text) tokens_are
        ∙ ap (λ (gs : List (List Place)). map (parsed_at text) (flat_map span_of gs)) (group_ended text there (semicolon (length p + length (spelled_text x))) behind all_plain ended)
        ∙ map_append (parsed_at text) (span_of there) (flat_map span_of (groups text behind))
        ∙ ap (λ (os : List (Result Statement ℕ)). os ++ read_at text behind) first_read

    -- where the next statement begins
    next_at : length (p ++ (spelled_text x ++ end_of_statement)) ≡ length p + length (spelled_text x) + 2
    next_at =
        let l : length (p ++ (spelled_text x ++ end_of_statement)) ≡ length p + length (spelled_text x ++ end_of_statement) = length-append p (spelled_text x ++ end_of_statement) in
        let m : length (spelled_text x ++ end_of_statement) ≡ length (spelled_text x) + 2 = length-append (spelled_text x) end_of_statement in
        omega (arith, l, m)

    next_is : text ≡ (p ++ (spelled_text x ++ end_of_statement)) ++ more
    next_is = is ∙ sym (append_assoc p (spelled_text x ++ end_of_statement) more)

    next_cut : tokens_of text ≡ (front ++ (there ++ semicolon (length p + length (spelled_text x)) ∷ [])) ++ tokens_from 0 (length (p ++ (spelled_text x ++ end_of_statement))) more
    next_cut =
        cut ∙ ap (λ (ts : List Place). front ++ ts) (tokens_are ∙ sym (append_assoc there (semicolon (length p + length (spelled_text x)) ∷ []) behind))
        ∙ sym (append_assoc front (there ++ semicolon (length p + length (spelled_text x)) ∷ []) behind)
        ∙ ap (λ (j : ℕ). (front ++ (there ++ semicolon (length p + length (spelled_text x)) ∷ [])) ++ tokens_from 0 j more) (sym next_at)

    followed_by : (os : List (Result Statement ℕ)) → read_at text (tokens_from 0 (length (p ++ (spelled_text x ++ end_of_statement))) more) ≡ os
        → read_at text (tokens_from 0 (length p) ((spelled_text x ++ end_of_statement) ++ more)) ≡ Ok (statement_as_read x) ∷ os
    followed_by os e =
        one_read ∙ ap (λ (j : ℕ). Ok (statement_as_read x) ∷ read_at text (tokens_from 0 j more)) (sym next_at) ∙ ap (λ (rs : List (Result Statement ℕ)). Ok (statement_as_read x) ∷ rs) e

  all_read : (xs : List Statement) → list_all is_readable xs ≡ true → (p text : List ℕ) (front : List Place) → text ≡ p ++ script_text xs
      → tokens_of text ≡ front ++ tokens_from 0 (length p) (script_text xs) → read_at text (tokens_from 0 (length p) (script_text xs)) ≡ trees xs
  all_read [] ok p text front is cut = refl
  all_read (x ∷ xs) ok p text front is cut =
      let both = and_parts (is_readable x) (list_all is_readable xs) ok in
      let blank = front_blank xs in
      followed_by x both.0 (script_text xs) p text front blank is cut (trees xs)
      (all_read xs both.1 (p ++ (spelled_text x ++ end_of_statement)) text _ (next_is x both.0 (script_text xs) p text front blank is cut) (next_cut x both.0 (script_text xs) p text front blank is cut))

  pub script_read : (xs : List Statement) → list_all is_readable xs ≡ true → map (parsed_at (script_text xs)) (statements_of (script_text xs)) ≡ trees xs
  unfolding statements_of tokens_of
  script_read xs ok = all_read xs ok [] (script_text xs) [] refl refl

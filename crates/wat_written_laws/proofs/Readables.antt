-- The statements that write acts are readable: their text is read as they are.
use Rattle.std.proofs.Common.{◌≡◌, ℕ, zero, suc, pos, negsuc, ◌≤◌, nat_le, nat_lt, Bool, true, false, ◌&&◌, if◌then◌else◌, List, [], ◌∷◌, Option, Some, None, slice_get, refl, sym, ap, ap₂, ◌∙◌, arith, subst}
use Rattle.std.specs.List.{cons_option, filter_map, fold, list_all}
use Rattle.std.specs.Option.{option_map}
use Rattle.std.specs.Cmp.Lexicographic.{pointwise}
use Rattle.std.proofs.lemmas.Bool.{and_from, and_parts, le-leb}
use Rattle.wat_word.specs.Words.{is_name}
use Rattle.wat_value.specs.declared.value.Value.{Value}
use Rattle.wat_value.specs.declared.value.Value.TheVariants as v
use Rattle.wat_value.specs.declared.definition.Column.{Column}
use Rattle.wat_value.specs.declared.definition.TableDef.{TableDef}
use Rattle.wat_value.specs.Fits.{fits_column, value_in}
use Rattle.wat_ast.specs.declared.expression.UnaryOp.TheVariants as unary
use Rattle.wat_ast.specs.declared.expression.BinaryOp.{BinaryOp}
use Rattle.wat_ast.specs.declared.expression.BinaryOp.TheVariants as op
use Rattle.wat_ast.specs.declared.expression.Expr.{Expr}
use Rattle.wat_ast.specs.declared.expression.Expr.TheVariants as e
use Rattle.wat_walk.proofs.FoldLemmas.{fold-Binary, fold-Literal, fold-Named, fold-Unary}
use Rattle.wat_schema.specs.Catalog.{Name}
use Rattle.wat_schema.specs.Tables.{Row}
use Rattle.wat_syntax.specs.Members.{has_members}
use Rattle.wat_spell.specs.Spelling.{Spelling, atom, binary_of, column as column_tokens, literal, spelled, spelled_at}
use Rattle.wat_spell_laws.specs.AsRead.{as_read, as_read_at, literal_as_read}
use Rattle.wat_spell_laws.specs.Derived.{is_parsable, is_parsable_at}
use Rattle.wat_spell_laws.specs.Readable.{is_readable_expression, is_readable_set, is_so}
use Rattle.wat_written.specs.Written.{all_of, equals, is_key, literals, names_at, test_of}
use Rattle.wat_written_laws.proofs.Literals.{is_short, read-Literal, short as short_value}
use Rattle.wat_written_laws.proofs.Sets.{from}
use Rattle.wat_written_laws.proofs.Tests.{AreColumns, fit_at, read-Binary}

-- ---- literals

pub parsable : (w : Value) → is_short w ≡ true → is_parsable (literal_as_read w) ≡ true
unfolding is_parsable
parsable v.Null h = fold-Literal is_parsable_at v.Null
parsable (v.Text t) h = fold-Literal is_parsable_at (v.Text t)
parsable (v.Int (pos n)) h = fold-Literal is_parsable_at (v.Int (pos n)) ∙ h
parsable (v.Int (negsuc n)) h = fold-Unary is_parsable_at unary.Minus (e.Literal (v.Int (pos (suc n)))) ∙ fold-Literal is_parsable_at (v.Int (pos (suc n))) ∙ h

spelled-Literal : (w : Value) → spelled (e.Literal w) ≡ literal w
unfolding spelled
spelled-Literal w = fold-Literal spelled_at w

-- what spells it opens one level at most, and binds at least so tightly
abbrev pub IsLow : ℕ → Spelling → Type 0
IsLow rank x = (nat_lt x.rank rank ≡ false) × (x.levels ≤ 1)

low_literal : (w : Value) → IsLow 4 (literal w)
low_literal v.Null = (refl, omega arith)
low_literal (v.Text t) = (refl, omega arith)
low_literal (v.Int (pos n)) = (refl, omega arith)
low_literal (v.Int (negsuc n)) = (refl, omega arith)

readable_literal : (w : Value) → is_short w ≡ true → is_readable_expression (e.Literal w) ≡ true
readable_literal w h =
    and_from (is_parsable (as_read (e.Literal w))) (nat_le (spelled (e.Literal w)).levels 100) (ap is_parsable (read-Literal w) ∙ parsable w h)
    (ap (λ (x : Spelling). nat_le x.levels 100) (spelled-Literal w) ∙ (let low = (low_literal w).1 in le-leb (literal w).levels 100 (omega arith)))

-- ---- a value of a column

pub readable_row : (columns : List Column) (row : Row) → pointwise fits_column columns row ≡ true → list_all is_readable_expression (literals row) ≡ true
readable_row columns [] h = refl
readable_row [] (w ∷ row) h = cc
readable_row (column ∷ columns) (w ∷ row) h =
    let p = and_parts (fits_column column w) (pointwise fits_column columns row) h in
    and_from (is_readable_expression (e.Literal w)) (list_all is_readable_expression (literals row)) (readable_literal w (short_value column w p.0)) (readable_row columns row p.1)

-- ---- tests of columns

named_parsable : (name : Name) → is_name name ≡ true → is_parsable (e.Named None name) ≡ true
unfolding is_parsable
named_parsable name h = fold-Named is_parsable_at None name ∙ h

both_parsable : (op : BinaryOp) (a b : Expr) → is_parsable a ≡ true → is_parsable b ≡ true → is_parsable (e.Binary op a b) ≡ true
unfolding is_parsable
both_parsable op a b p q = fold-Binary is_parsable_at op a b ∙ and_from (is_parsable a) (is_parsable b) p q

named_as_read : (name : Name) → as_read (e.Named None name) ≡ e.Named None name
unfolding as_read
named_as_read name = fold-Named as_read_at None name

test_parsable : (name : Name) (w : Value) → is_name name ≡ true → is_short w ≡ true → is_parsable (as_read (equals name w)) ≡ true
test_parsable name w h short =
    ap is_parsable (read-Binary op.Equal (e.Named None name) (e.Literal w) ∙ ap₂ (e.Binary op.Equal) (named_as_read name) (read-Literal w))
    ∙ both_parsable op.Equal (e.Named None name) (literal_as_read w) (named_parsable name h) (parsable w short)

spelled-Binary : (op : BinaryOp) (a b : Expr) → spelled (e.Binary op a b) ≡ binary_of op (spelled a) (spelled b)
unfolding spelled
spelled-Binary op a b = fold-Binary spelled_at op a b

spelled-Named : (name : Name) → spelled (e.Named None name) ≡ atom (column_tokens None name)
unfolding spelled
spelled-Named name = fold-Named spelled_at None name

equals_low : (name : Name) (w : Value) (rank : ℕ) → nat_lt 3 rank ≡ false → IsLow rank (binary_of op.Equal (atom (column_tokens None name)) (literal w))
equals_low name v.Null rank h = (h, omega arith)
equals_low name (v.Text t) rank h = (h, omega arith)
equals_low name (v.Int (pos n)) rank h = (h, omega arith)
equals_low name (v.Int (negsuc n)) rank h = (h, omega arith)

test_low : (name : Name) (w : Value) (rank : ℕ) → nat_lt 3 rank ≡ false → IsLow rank (spelled (equals name w))
test_low name w rank h =
    subst (IsLow rank) (sym (spelled-Binary op.Equal (e.Named None name) (e.Literal w) ∙ ap₂ (binary_of op.Equal) (spelled-Named name) (spelled-Literal w))) (equals_low name w rank h)

and_low : (l r : Spelling) → IsLow 1 l → IsLow 2 r → IsLow 1 (binary_of op.And l r)
and_low l r a b = (refl, (let p = a.0 in let q = b.0 in let le = a.1 in let re = b.1 in rw (p, q) (omega arith)))

-- tests that can be read, one behind another
abbrev pub AreTests : List Expr → Type 0
AreTests [] = Unit {0}
AreTests (t ∷ tests) = ((is_parsable (as_read t) ≡ true) × IsLow 1 (spelled t) × IsLow 2 (spelled t)) × AreTests tests

chain_parsable : (left : Expr) (tests : List Expr) → is_parsable (as_read left) ≡ true → AreTests tests → is_parsable (as_read (fold (e.Binary op.And) left tests)) ≡ true
chain_parsable left [] a b = a
chain_parsable left (t ∷ tests) a b =
    chain_parsable (e.Binary op.And left t) tests (ap is_parsable (read-Binary op.And left t) ∙ both_parsable op.And (as_read left) (as_read t) a b.0.0) b.1

chain_low : (left : Expr) (tests : List Expr) → IsLow 1 (spelled left) → AreTests tests → IsLow 1 (spelled (fold (e.Binary op.And) left tests))
chain_low left [] a b = a
chain_low left (t ∷ tests) a b = chain_low (e.Binary op.And left t) tests (subst (IsLow 1) (sym (spelled-Binary op.And left t)) (and_low (spelled left) (spelled t) a b.0.2)) b.1

pub tests_readable : (tests : List Expr) → AreTests tests → is_so is_readable_expression (all_of tests) ≡ true
tests_readable [] h = refl
tests_readable (t ∷ tests) h =
    and_from (is_parsable (as_read (fold (e.Binary op.And) t tests))) (nat_le (spelled (fold (e.Binary op.And) t tests)).levels 100) (chain_parsable t tests h.0.0 h.1)
    (let low = (chain_low t tests h.0.1 h.1).1 in le-leb (spelled (fold (e.Binary op.And) t tests)).levels 100 (omega arith))

-- ---- names of columns

pub name_of_column : (columns : List Column) (i : ℕ) (column : Column) → list_all (λ c. is_name c.name) columns ≡ true → slice_get columns i ≡ Some column → is_name column.name ≡ true
name_of_column [] i column h at = cc
name_of_column (c ∷ cs) zero column h at = let it : c ≡ column = cc in ap (λ (z : Column). is_name z.name) (sym it) ∙ (and_parts (is_name c.name) (list_all (λ c. is_name c.name) cs) h).0
name_of_column (c ∷ cs) (suc i) column h at = name_of_column cs i column (and_parts (is_name c.name) (list_all (λ c. is_name c.name) cs) h).1 at

module _ (def : TableDef) (named : list_all (λ c. is_name c.name) def.columns ≡ true) where
  pub names_readable : (ns : List ℕ) → AreColumns def ns → list_all is_name (names_at def ns) ≡ true
  names_readable [] h = refl
  names_readable (i ∷ ns) h =
      ap (λ (o : Option Name). list_all is_name (cons_option o (names_at def ns))) (ap (option_map (λ (z : Column). z.name)) h.0.1)
      ∙ and_from (is_name h.0.0.name) (list_all is_name (names_at def ns)) (name_of_column def.columns i h.0.0 named h.0.1) (names_readable ns h.1)

  pub some_names : (i : ℕ) (ns : List ℕ) → AreColumns def (i ∷ ns) → has_members (names_at def (i ∷ ns)) ≡ true
  some_names i ns h = ap (λ (o : Option Name). has_members (cons_option o (names_at def ns))) (ap (option_map (λ (z : Column). z.name)) h.0.1)

  module _ (row : Row) (fit : pointwise fits_column def.columns row ≡ true) where
    pub are_tests : (ns : List ℕ) → AreColumns def ns → AreTests (filter_map (test_of def row) ns)
    are_tests [] h = tt
    are_tests (i ∷ ns) h =
        subst (λ (o : Option Expr). AreTests (cons_option o (filter_map (test_of def row) ns)))
        (sym (ap (λ (o : Option Column). option_map (λ name. equals name (value_in row i)) (option_map (λ c. c.name) o)) h.0.1)) (
          (
            test_parsable h.0.0.name (value_in row i) (name_of_column def.columns i h.0.0 named h.0.1) (short_value h.0.0 (value_in row i) (fit_at def.columns row i h.0.0 fit h.0.1)),
            test_low h.0.0.name (value_in row i) 1 refl,
            test_low h.0.0.name (value_in row i) 2 refl,
          ),
          are_tests ns h.1,
        )

    pub sets_readable : (i : ℕ) (columns : List Column) (ws : Row) → list_all (λ c. is_name c.name) columns ≡ true → pointwise fits_column columns ws ≡ true
        → list_all is_readable_set (from def e.Literal i columns ws) ≡ true
    sets_readable i [] ws a h = refl
    sets_readable i (column ∷ columns) [] a h = refl
    sets_readable i (column ∷ columns) (w ∷ ws) a h =
        let p = and_parts (fits_column column w) (pointwise fits_column columns ws) h in
        let q = and_parts (is_name column.name) (list_all (λ c. is_name c.name) columns) a in
        by p.0 q.0 (sets_readable (suc i) columns ws q.1 p.1) (is_key def i)
      where
        by : fits_column column w ≡ true → is_name column.name ≡ true → list_all is_readable_set (from def e.Literal (suc i) columns ws) ≡ true → (b : Bool)
            → list_all is_readable_set (cons_option (if b then None else Some (record { name = column.name; value = e.Literal w })) (from def e.Literal (suc i) columns ws)) ≡ true
        by here word later true = later
        by here word later false =
            and_from (is_name column.name && is_readable_expression (e.Literal w)) (list_all is_readable_set (from def e.Literal (suc i) columns ws))
            (and_from (is_name column.name) (is_readable_expression (e.Literal w)) word (readable_literal w (short_value column w here))) later

-- What a phrase derives, it derives as it is spelled too: the forms that phrases have.
use Rattle.std.proofs.Common.{◌≡◌, ◌≤◌, inl, inr, ℕ, ℤ, pos, true, false, ◌&&◌, nat_lt, List, [], ◌∷◌, ◌++◌, Option, Some, None, option_map, refl, sym, ◌∙◌, ap, subst, append_assoc, arith}
use Rattle.std.proofs.lemmas.Bool.{and_parts}
use Rattle.std.specs.List.{flat_map}
use Rattle.wat_word.specs.Words.{is_name}
use Rattle.wat_word.specs.declared.keyword.Keyword.{Keyword}
use Rattle.wat_ast.specs.declared.expression.Expr.{Expr}
use Rattle.wat_ast.specs.declared.expression.Expr.TheVariants as e
use Rattle.wat_grammar.specs.Phrase.{seq, or, empty, map as map_phrase, Repeats, DerivesWithin}
use Rattle.wat_syntax.specs.declared.kind.Kind.TheVariants as k
use Rattle.wat_syntax.specs.Lexeme.{Lexeme, kind_of_word}
use Rattle.wat_syntax.specs.Sql as g
use Rattle.wat_syntax.specs.Sql.{Sql, sql, some_name}
use Rattle.wat_spell.specs.declared.symbol.Symbol.{Symbol}
use Rattle.wat_spell.specs.declared.symbol.Symbol.TheVariants as s
use Rattle.wat_spell.specs.Tokens.{Token, word, name, number, symbol}
use Rattle.wat_spell.specs.Spelling.{Spelling, spelled, integer, tokens_if, comma, with_commas, by, expression, column}
use Rattle.wat_spell.proofs.Spelled.{spelled_named}
use Rattle.wat_spell_laws.specs.Derived.{sign, kind_of_symbol, name_lexeme, number_lexeme, token_lexemes}
use Rattle.wat_spell_laws.proofs.Lifts.{lexemes_append, down_to}
use Rattle.wat_spell_laws.proofs.Derives.{spelled_derives, named, column_derives}
use Rattle.wat_spell_laws.proofs.Parsable.{Stands, stands_append, parsable_stands}
use Rattle.wat_spell_laws.proofs.Levels.{AreSmall, parts, is_some_name, within_parentheses, behind_word, column_shape, expression_low, placed_low, small_number, is_small}

-- These tokens are derived, give the tree, and may stand in a text.
abbrev pub IsDerived : {A : Type 0} → ℕ → Sql A → A → List Token → Type 0
IsDerived d p a us = DerivesWithin sql d p (token_lexemes us) a × Stands us

-- What the phrase derives, it derives as the function spells it too.
abbrev pub Respells : {A : Type 0} → ℕ → Sql A → (A → List Token) → Type 0
Respells {A} d p f = (ts : List Lexeme) (a : A) → DerivesWithin sql d p ts a → AreSmall ts → IsDerived d p a (f a)

-- the same where the function begins with these tokens
abbrev pub Behind : {A : Type 0} → ℕ → Sql A → (A → List Token) → List Token → Type 0
Behind {A} d p f front = (ts : List Lexeme) (a : A) → DerivesWithin sql d p ts a → AreSmall ts → (us : List Token) × (f a ≡ front ++ us) × IsDerived d p a us

pub respelled_as : {A : Type 0} (d : ℕ) (p : Sql A) (f h : A → List Token) → ((a : A) → h a ≡ f a) → Respells d p f → Respells d p h
respelled_as d p f h q r ts a there small = subst (λ (us : List Token). IsDerived d p a us) (sym (q a)) (r ts a there small)

pub from_nothing : {A : Type 0} (d : ℕ) (p : Sql A) (f : A → List Token) → Behind d p f [] → Respells d p f
from_nothing d p f r ts a there small = let here = r ts a there small in subst (λ (us : List Token). IsDerived d p a us) (sym here.1) here.2

-- ---- tokens

abbrev pub name_of : List ℕ → List Token
name_of n = name n ∷ []

pub name_again : (d : ℕ) → Respells d g.name name_of
name_again d ts n (l, q, kind, there) small =
    let f : is_name n ≡ true = is_some_name l.text n there in
    ((name_lexeme n, refl, refl, named n f), ap (λ b. b && true) f)

abbrev pub number_of : ℤ → List Token
number_of n = integer n ∷ []

number_again_at : (d : ℕ) (l : Lexeme) (n : ℤ) (o : Option ℕ) → l.number ≡ o → option_map pos o ≡ Some n → is_small l ≡ true → IsDerived d g.number n (number_of n)
number_again_at d l n None p q small = cc
number_again_at d l n (Some m) p q small =
    let same : pos m ≡ n = cc in
    let low : nat_lt m 9223372036854775808 ≡ true = ap small_number (sym p) ∙ small in
    subst (λ (z : ℤ). IsDerived d g.number z (number_of z)) same ((number_lexeme m, refl, refl, refl), ap (λ b. b && true) low)

pub small_one : (ts : List Lexeme) (l : Lexeme) → ts ≡ l ∷ [] → AreSmall ts → is_small l ≡ true
small_one ts l q small = (and_parts (is_small l) true (subst (λ (z : List Lexeme). AreSmall z) q small)).0

pub number_again : (d : ℕ) → Respells d g.number number_of
number_again d ts n (l, q, kind, there) small = number_again_at d l n l.number refl there (small_one ts l q small)

-- ---- expressions

pub expression_again : (d : ℕ) → Respells d g.expression expression
expression_again d ts x there small =
    let low = expression_low d ts x there small in
    let levels : (spelled x).levels ≤ d = omega (arith, low.levels, placed_low 0 (spelled x)) in
    (down_to (spelled x).rank 0 d (token_lexemes (expression x)) x (omega arith) (spelled_derives x low.fit d levels), parsable_stands x low.fit)

pub column_again : (d : ℕ) → Respells d g.column expression
column_again d ts x there small =
    let c = column_shape d ts x there in
    let tokens : expression (e.Named c.table c.column) ≡ column c.table c.column = ap (λ (y : Spelling). y.tokens) (spelled_named c.table c.column) in
    let fit = parsable_named_column c.table c.column c.fit in
    subst (λ (z : Expr). IsDerived d g.column z (expression z)) (sym c.is)
    (subst (λ (us : List Token). IsDerived d g.column (e.Named c.table c.column) us) (sym tokens) (
      column_derives d c.table c.column c.fit,
      subst (λ (us : List Token). Stands us) tokens fit,
    ))
  where
    parsable_named_column : (table : Option (List ℕ)) (n : List ℕ) → (Rattle.wat_spell_laws.specs.Derived.is_parsable_table table && is_name n) ≡ true → Stands (expression (e.Named table n))
    parsable_named_column table n f = parsable_stands (e.Named table n) (Rattle.wat_spell_laws.proofs.Parsable.parsable_named table n ∙ f)

-- ---- words and parts

pub behind_again : {A : Type 0} (d : ℕ) (v : Keyword) (p : Sql A) (f : A → List Token) (front : List Token) → Behind d p f (front ++ word v ∷ []) → Behind d (g.after (kind_of_word v) p) f front
behind_again d v p f front r ts a there small =
    let inner = behind_word d (kind_of_word v) p ts a there small in
    let again = r inner.0 a inner.1 inner.2 in
    let h = again.2 in (
      word v ∷ again.0,
      again.1 ∙ append_assoc front (word v ∷ []) again.0,
      (((tt, a), (sign (kind_of_word v) ∷ [], token_lexemes again.0, refl, (sign (kind_of_word v), refl, refl, refl), h.0), refl), h.1),
    )

pub after_again : {A : Type 0} (d : ℕ) (v : Keyword) (p : Sql A) (f : A → List Token) → Respells d p f → Respells d (g.after (kind_of_word v) p) (λ a. word v ∷ f a)
after_again d v p f r ts a there small =
    let inner = behind_word d (kind_of_word v) p ts a there small in
    let h = r inner.0 a inner.1 inner.2 in
    (((tt, a), (sign (kind_of_word v) ∷ [], token_lexemes (f a), refl, (sign (kind_of_word v), refl, refl, refl), h.0), refl), h.1)

pub equals_again : {A : Type 0} (d : ℕ) (p : Sql A) (f : A → List Token) (front : List Token) → Behind d p f (front ++ symbol s.Equal ∷ []) → Behind d (g.after k.Equal p) f front
equals_again d p f front r ts a there small =
    let inner = behind_word d k.Equal p ts a there small in
    let again = r inner.0 a inner.1 inner.2 in
    let h = again.2 in (
      symbol s.Equal ∷ again.0,
      again.1 ∙ append_assoc front (symbol s.Equal ∷ []) again.0,
      (((tt, a), (sign k.Equal ∷ [], token_lexemes again.0, refl, (sign k.Equal, refl, refl, refl), h.0), refl), h.1),
    )

pub after_equals_again : {A : Type 0} (d : ℕ) (p : Sql A) (f : A → List Token) → Respells d p f → Respells d (g.after k.Equal p) (λ a. symbol s.Equal ∷ f a)
after_equals_again d p f r ts a there small =
    let inner = behind_word d k.Equal p ts a there small in
    let h = r inner.0 a inner.1 inner.2 in
    (((tt, a), (sign k.Equal ∷ [], token_lexemes (f a), refl, (sign k.Equal, refl, refl, refl), h.0), refl), h.1)

pub parentheses_again : {A : Type 0} (d : ℕ) (o : Symbol) (p : Sql A) (f : A → List Token) → kind_of_symbol o ≡ k.Open → Respells d p f
    → Respells d (g.in_parentheses p) (λ a. symbol o ∷ (f a ++ symbol s.Close ∷ []))
parentheses_again d o p f open_ r ts a there small =
    let inner = within_parentheses d p ts a there small in
    let h = r inner.0 a inner.1 inner.2 in
    let rest : List Lexeme = token_lexemes (f a ++ symbol s.Close ∷ []) in (
      (
        (tt, a),
        (
          sign (kind_of_symbol o) ∷ [],
          rest,
          refl,
          (sign (kind_of_symbol o), refl, open_, refl),
          ((a, tt), (token_lexemes (f a), sign k.Close ∷ [], lexemes_append (f a) (symbol s.Close ∷ []), h.0, (sign k.Close, refl, refl, refl)), refl),
        ),
        refl,
      ),
      stands_append (f a) (symbol s.Close ∷ []) h.1 refl,
    )

pub pair_again : {A B : Type 0} (d : ℕ) (p : Sql A) (q : Sql B) (f : A → List Token) (h : B → List Token) → Respells d p f → Respells d q h → Respells d (seq p q) (λ x. f x.0 ++ h x.1)
pair_again d p q f h rp rq ts x (us, vs, split, hp, hq) small =
    let both = parts ts us vs split small in
    let left = rp us x.0 hp both.0 in
    let right = rq vs x.1 hq both.1 in
    ((token_lexemes (f x.0), token_lexemes (h x.1), lexemes_append (f x.0) (h x.1), left.0, right.0), stands_append (f x.0) (h x.1) left.1 right.1)

pub map_behind : {A B : Type 0} (d : ℕ) (p : Sql A) (make : A → B) (f : A → List Token) (h : B → List Token) (front : List Token) → ((a : A) → h (make a) ≡ front ++ f a) → Respells d p f
    → Behind d (map_phrase make p) h front
map_behind d p make f h front q r ts b (a, there, is) small =
    let again = r ts a there small in
    (f a, ap h is ∙ q a, ((a, again.0, is), again.1))

pub map_again : {A B : Type 0} (d : ℕ) (p : Sql A) (make : A → B) (f : A → List Token) (h : B → List Token) → ((a : A) → h (make a) ≡ f a) → Respells d p f → Respells d (map_phrase make p) h
map_again d p make f h q r = from_nothing d (map_phrase make p) h (map_behind d p make f h [] q r)

pub or_again : {A : Type 0} (d : ℕ) (p q : Sql A) (f : A → List Token) → Respells d p f → Respells d q f → Respells d (or p q) f
or_again d p q f rp rq ts a (inl there) small = let again = rp ts a there small in (inl again.0, again.1)
or_again d p q f rp rq ts a (inr there) small = let again = rq ts a there small in (inr again.0, again.1)

pub or_behind : {A : Type 0} (d : ℕ) (p q : Sql A) (f : A → List Token) (front : List Token) → Behind d p f front → Behind d q f front → Behind d (or p q) f front
or_behind d p q f front rp rq ts a (inl there) small = let again = rp ts a there small in (again.0, again.1, (inl again.2.0, again.2.1))
or_behind d p q f front rp rq ts a (inr there) small = let again = rq ts a there small in (again.0, again.1, (inr again.2.0, again.2.1))

-- nothing, or what the function gives
abbrev pub if_some : {A : Type 0} → (A → List Token) → Option A → List Token
if_some f None = []
if_some f (Some a) = f a

pub maybe_again : {A : Type 0} (d : ℕ) (p : Sql A) (f : A → List Token) → Respells d p f → Respells d (g.maybe p) (if_some f)
maybe_again {A} d p f r ts o (inl (a, there, is)) small =
    let again = r ts a there small in
    subst (λ (z : Option A). IsDerived d (g.maybe p) z (if_some f z)) (sym is) (inl (a, again.0, refl), again.1)
maybe_again {A} d p f r ts o (inr there) small = subst (λ (z : Option A). IsDerived d (g.maybe p) z (if_some f z)) (sym there.1) (inr (refl, refl), refl)

-- whether a word stands
pub optional_again : (d : ℕ) (v : Keyword) → Respells d (g.optional (kind_of_word v)) (λ b. tokens_if b (word v ∷ []))
optional_again d v ts true there small = (inl (tt, (sign (kind_of_word v), refl, refl, refl), refl), refl)
optional_again d v ts false there small = (inr (refl, refl), refl)

-- an optional word that is written
pub written_again : {A B : Type 0} (d : ℕ) (v : Keyword) (p : Sql A) (make : A → B) (f : A → List Token) (h : B → List Token) (front : List Token) → ((a : A) → h (make a) ≡ front ++ word v ∷ f a) → Respells d p f
    → Behind d (map_phrase (λ x. make x.1) (seq (g.optional (kind_of_word v)) p)) h front
written_again d v p make f h front q r ts b (x, (us, vs, split, word_there, there), is) small =
    let again = r vs x.1 there (parts ts us vs split small).1 in
    (word v ∷ f x.1, ap h is ∙ q x.1, (((true, x.1), (sign (kind_of_word v) ∷ [], token_lexemes (f x.1), refl, inl (tt, (sign (kind_of_word v), refl, refl, refl), refl), again.0), is), again.1))

-- ---- lists

module _ {A : Type 0} (d : ℕ) (p : Sql A) (f : A → List Token) (r : Respells d p f) where
  more_again : (ts : List Lexeme) (xs : List A) → Repeats (DerivesWithin sql d (g.after k.Comma p)) ts xs → AreSmall ts
      → Repeats (DerivesWithin sql d (g.after k.Comma p)) (token_lexemes (flat_map (λ y. comma ∷ f y) xs)) xs × Stands (flat_map (λ y. comma ∷ f y) xs)
  more_again ts [] there small = (refl, refl)
  more_again ts (x ∷ xs) there small =
      let both = parts ts there.0 there.1 there.2 small in
      let inner = behind_word d k.Comma p there.0 x there.3 both.0 in
      let again = r inner.0 x inner.1 inner.2 in
      let rest = more_again there.1 xs there.4 both.1 in (
        (
          token_lexemes (comma ∷ f x),
          token_lexemes (flat_map (λ y. comma ∷ f y) xs),
          lexemes_append (comma ∷ f x) (flat_map (λ y. comma ∷ f y) xs),
          ((tt, x), (sign k.Comma ∷ [], token_lexemes (f x), refl, (sign k.Comma, refl, refl, refl), again.0), refl),
          rest.0,
        ),
        stands_append (comma ∷ f x) (flat_map (λ y. comma ∷ f y) xs) again.1 rest.1,
      )

  pub list_again : Respells d (g.list p) (with_commas f)
  list_again ts xs ((x, more), (us, vs, split, there, behind), is) small =
      let both = parts ts us vs split small in
      let again = r us x there both.0 in
      let rest = more_again vs more behind both.1 in
      subst (λ (ys : List A). IsDerived d (g.list p) ys (with_commas f ys)) (sym is) (
        ((x, more), (token_lexemes (f x), token_lexemes (flat_map (λ y. comma ∷ f y) more), lexemes_append (f x) (flat_map (λ y. comma ∷ f y) more), again.0, rest.0), refl),
        stands_append (f x) (flat_map (λ y. comma ∷ f y) more) again.1 rest.1,
      )

  -- GROUP BY or ORDER BY, or nothing
  pub by_again : (v : Keyword) → Respells d (or (g.after (kind_of_word v) (g.after k.By (g.list p))) (empty [])) (by v f)
  by_again v ts [] there small = (inr (refl, refl), refl)
  by_again v ts (x ∷ xs) (inl there) small =
      let again = after_again d v (g.after k.By (g.list p)) (λ ys. word Rattle.wat_word.specs.declared.keyword.Keyword.TheVariants.By ∷ with_commas f ys)
      (after_again d Rattle.wat_word.specs.declared.keyword.Keyword.TheVariants.By (g.list p) (with_commas f) list_again) ts (x ∷ xs) there small in
      (inl again.0, again.1)
  by_again v ts (x ∷ xs) (inr there) small = let z : x ∷ xs ≡ [] = there.1 in cc

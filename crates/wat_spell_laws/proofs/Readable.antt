-- What spells a readable tree is derived, and gives what the tree is read as.
use Rattle.std.proofs.Common.{◌≡◌, ◌^◌, ◌≤◌, inl, inr, ℕ, ℤ, pos, negsuc, zero, suc, Bool, true, false, ◌&&◌, nat_lt, nat_le, if◌then◌else◌, List, [], ◌∷◌, ◌++◌, map, Option, Some, None, option_map, refl, sym, ◌∙◌, ap, subst, arith}
use Rattle.std.proofs.lemmas.Bool.{and_parts, ltb-true}
use Rattle.std.proofs.lemmas.Bool.Decides.{nat_tests}
use Rattle.std.specs.List.{list_all, flat_map}
use Rattle.wat_word.specs.Words.{is_name}
use Rattle.wat_word.specs.declared.keyword.Keyword.{Keyword}
use Rattle.wat_word.specs.declared.keyword.Keyword.TheVariants as w
use Rattle.wat_ast.specs.declared.expression.Expr.{Expr, ind-Expr, map-Expr, roll-Expr, fold-roll-Expr}
use Rattle.wat_ast.specs.declared.expression.Expr.TheVariants as e
use Rattle.wat_ast.specs.declared.expression.Expr.TheOpen.{Expr-F}
use Rattle.wat_ast.specs.declared.query.SelectItems.{SelectItems}
use Rattle.wat_ast.specs.declared.query.SelectItems.TheVariants as shown
use Rattle.wat_ast.specs.declared.query.Source.{Source}
use Rattle.wat_ast.specs.declared.query.OrderBy.{OrderBy}
use Rattle.wat_ast.specs.declared.query.OrderBy.TheVariants.{Column, Position}
use Rattle.wat_ast.specs.declared.query.OrderItem.{OrderItem}
use Rattle.wat_ast.specs.declared.query.Query.{Query}
use Rattle.wat_ast.specs.declared.statement.TypeName.{TypeName}
use Rattle.wat_ast.specs.declared.statement.TypeName.TheVariants as type_name
use Rattle.wat_ast.specs.declared.statement.Element.{Element}
use Rattle.wat_ast.specs.declared.statement.Element.TheVariants as element
use Rattle.wat_ast.specs.declared.statement.SetItem.{SetItem}
use Rattle.wat_ast.specs.declared.statement.InsertSource.{InsertSource}
use Rattle.wat_ast.specs.declared.statement.InsertSource.TheVariants as from
use Rattle.wat_ast.specs.declared.statement.Statement.{Statement}
use Rattle.wat_ast.specs.declared.statement.Statement.TheVariants as statement
use Rattle.wat_grammar.specs.Phrase.{seq, or, empty, many, map as map_phrase, Repeats, DerivesWithin}
use Rattle.wat_syntax.specs.declared.kind.Kind.TheVariants as k
use Rattle.wat_syntax.specs.Lexeme.{Lexeme, kind_of_word}
use Rattle.wat_syntax.specs.Members.{has_members}
use Rattle.wat_syntax.specs.Sql as g
use Rattle.wat_syntax.specs.Sql.{Sql, sql, max_nesting}
use Rattle.wat_spell.specs.declared.symbol.Symbol.{Symbol}
use Rattle.wat_spell.specs.declared.symbol.Symbol.TheVariants as s
use Rattle.wat_spell.specs.Tokens.{Token, word, name, number, symbol}
use Rattle.wat_spell.specs.Spelling.{Spelling, spelled, tokens_if, comma, with_commas, by, expression}
use Rattle.wat_spell.specs.Statements as spec
use Rattle.wat_spell.specs.Statements.{statement_tokens, element_tokens, type_tokens, column_rules}
use Rattle.wat_spell.proofs.Spelled.{spelled_named}
use Rattle.wat_spell_laws.specs.AsRead.{as_read, as_read_at, items_as_read, order_as_read, order_item_as_read, query_as_read, rows_as_read, set_as_read, statement_as_read}
use Rattle.wat_spell_laws.specs.Derived.{IsSpelled, sign, kind_of_symbol, name_lexeme, number_lexeme, token_lexemes, phrase_of, is_parsable, is_parsable_table}
use Rattle.wat_spell_laws.specs.Read.{can_stand}
use Rattle.wat_spell_laws.specs.Readable.{is_readable_expression, are_all, is_so, is_count, is_column, is_column_at, are_readable_items, is_readable_source, is_readable_order, is_readable_order_item, is_readable_query, is_readable_type, is_readable_element, are_readable_rows, is_readable_set, is_readable}
use Rattle.wat_spell_laws.proofs.Alike.{spelled_alike}
use Rattle.wat_spell_laws.proofs.Derives.{spelled_derives, named, column_derives}
use Rattle.wat_spell_laws.proofs.Lifts.{lexemes_append, down_to}
use Rattle.wat_spell_laws.proofs.Parsable.{Stands, stands_append, parsable_stands, parsable_named}
use Rattle.wat_spell_laws.proofs.Parts.{IsDerived, name_of, number_of}
use Rattle.wat_spell_laws.proofs.Respelled.{rules_of, made_by, rules_derive, rules_stand}

-- ---- expressions

pub as_read_derives : (x : Expr) → is_parsable (as_read x) ≡ true → IsSpelled (spelled x) (as_read x)
as_read_derives x f levels low =
    let alike = spelled_alike x in
    let again : (spelled (as_read x)).levels ≤ levels = omega (arith, alike.levels, low) in
    subst (λ (r : ℕ). DerivesWithin sql levels (phrase_of r) (token_lexemes (spelled x).tokens) (as_read x)) (sym alike.rank)
    (subst (λ (ts : List Lexeme). DerivesWithin sql levels (phrase_of (spelled (as_read x)).rank) ts (as_read x)) (sym alike.tokens.lexemes) (spelled_derives (as_read x) f levels again))

-- a column, by its names
record IsColumn (x : Expr) : Type 0 where
  pub table : Option (List ℕ)
  pub column : List ℕ
  pub is : x ≡ e.Named table column
  pub ok : (is_parsable_table table && is_name column) ≡ true

column_layer : {S : Type 0} (ex : S → Expr) (y : Expr-F S) → is_column (roll-Expr (map-Expr S Expr ex y)) ≡ true → IsColumn (roll-Expr (map-Expr S Expr ex y))
unfolding is_column
column_layer ex (Expr-F.Literal v) t = let z : false ≡ true = sym (fold-roll-Expr Bool is_column_at (Expr-F.Literal v)) ∙ t in cc
column_layer ex (Expr-F.Named table n) t = record {
  table = table;
  column = n;
  is = e.rolls-Named table n;
  ok = sym (fold-roll-Expr Bool is_column_at (Expr-F.Named table n)) ∙ t;
}
column_layer ex (Expr-F.Placed source column) t = let z : false ≡ true = sym (fold-roll-Expr Bool is_column_at (Expr-F.Placed source column)) ∙ t in cc
column_layer ex (Expr-F.Unary op a) t = let z : false ≡ true = sym (fold-roll-Expr Bool is_column_at (Expr-F.Unary op (ex a))) ∙ t in cc
column_layer ex (Expr-F.Binary op l r) t = let z : false ≡ true = sym (fold-roll-Expr Bool is_column_at (Expr-F.Binary op (ex l) (ex r))) ∙ t in cc
column_layer ex (Expr-F.IsNull a n) t = let z : false ≡ true = sym (fold-roll-Expr Bool is_column_at (Expr-F.IsNull (ex a) n)) ∙ t in cc
column_layer ex (Expr-F.Between a l h n) t = let z : false ≡ true = sym (fold-roll-Expr Bool is_column_at (Expr-F.Between (ex a) (ex l) (ex h) n)) ∙ t in cc
column_layer ex (Expr-F.InList a xs n) t = let z : false ≡ true = sym (fold-roll-Expr Bool is_column_at (Expr-F.InList (ex a) (map ex xs) n)) ∙ t in cc
column_layer ex (Expr-F.Aggregate kind None) t = let z : false ≡ true = sym (fold-roll-Expr Bool is_column_at (Expr-F.Aggregate kind None)) ∙ t in cc
column_layer ex (Expr-F.Aggregate kind (Some a)) t = let z : false ≡ true = sym (fold-roll-Expr Bool is_column_at (Expr-F.Aggregate kind (Some (ex a)))) ∙ t in cc

column_named : (x : Expr) → is_column x ≡ true → IsColumn x
column_named = ind-Expr (λ x. is_column x ≡ true → IsColumn x) (λ x y q. subst (λ (z : Expr-F Expr). is_column (roll-Expr z) ≡ true → IsColumn (roll-Expr z)) q (column_layer (λ z. z.0) y))

as_read_named : (table : Option (List ℕ)) (n : List ℕ) → as_read (e.Named table n) ≡ e.Named table n
unfolding as_read
as_read_named table n = ap as_read (sym (e.rolls-Named table n)) ∙ fold-roll-Expr Expr as_read_at (Expr-F.Named table n)

module _ (d : ℕ) (enough : max_nesting ≤ d) where
  abbrev Gives : {A : Type 0} → Sql A → A → List Token → Type 0
  Gives = IsDerived d

  expression_given : (x : Expr) → is_readable_expression x ≡ true → Gives g.expression (as_read x) (expression x)
  expression_given x h =
      let both = and_parts (is_parsable (as_read x)) (nat_le (spelled x).levels max_nesting) h in
      let low : (spelled x).levels ≤ d = grind (arith, nat_tests) in
      (down_to (spelled x).rank 0 d (token_lexemes (expression x)) (as_read x) (omega arith) (as_read_derives x both.0 d low), (spelled_alike x).tokens.stand ∙ parsable_stands (as_read x) both.0)

  -- ---- parts

  name_given : (n : List ℕ) → is_name n ≡ true → Gives g.name n (name_of n)
  name_given n f = ((name_lexeme n, refl, refl, named n f), ap (λ b. b && true) f)

  count_given : (n : ℤ) → is_count n ≡ true → Gives g.number n (number_of n)
  count_given (pos n) f = ((number_lexeme n, refl, refl, refl), ap (λ b. b && true) f)
  count_given (negsuc n) f = cc

  after_given : {A : Type 0} (v : Keyword) (p : Sql A) (a : A) (us : List Token) → Gives p a us → Gives (g.after (kind_of_word v) p) a (word v ∷ us)
  after_given v p a us h = (((tt, a), (sign (kind_of_word v) ∷ [], token_lexemes us, refl, (sign (kind_of_word v), refl, refl, refl), h.0), refl), h.1)

  equals_given : {A : Type 0} (p : Sql A) (a : A) (us : List Token) → Gives p a us → Gives (g.after k.Equal p) a (symbol s.Equal ∷ us)
  equals_given p a us h = (((tt, a), (sign k.Equal ∷ [], token_lexemes us, refl, (sign k.Equal, refl, refl, refl), h.0), refl), h.1)

  pair_given : {A B : Type 0} (p : Sql A) (q : Sql B) (a : A) (b : B) (us vs : List Token) → Gives p a us → Gives q b vs → Gives (seq p q) (a, b) (us ++ vs)
  pair_given p q a b us vs h l = ((token_lexemes us, token_lexemes vs, lexemes_append us vs, h.0, l.0), stands_append us vs h.1 l.1)

  made_given : {A B : Type 0} (f : A → B) (p : Sql A) (a : A) (us : List Token) → Gives p a us → Gives (map_phrase f p) (f a) us
  made_given f p a us h = ((a, h.0, refl), h.1)

  left_given : {A : Type 0} (p q : Sql A) (a : A) (us : List Token) → Gives p a us → Gives (or p q) a us
  left_given p q a us h = (inl h.0, h.1)

  right_given : {A : Type 0} (p q : Sql A) (a : A) (us : List Token) → Gives q a us → Gives (or p q) a us
  right_given p q a us h = (inr h.0, h.1)

  word_given : (v : Keyword) → Gives (g.optional (kind_of_word v)) true (word v ∷ [])
  word_given v = (inl (tt, (sign (kind_of_word v), refl, refl, refl), refl), refl)

  flag_given : (v : Keyword) (b : Bool) → Gives (g.optional (kind_of_word v)) b (tokens_if b (word v ∷ []))
  flag_given v true = word_given v
  flag_given v false = (inr (refl, refl), refl)

  parentheses_given : {A : Type 0} (o : Symbol) (p : Sql A) (a : A) (us : List Token) → kind_of_symbol o ≡ k.Open → Gives p a us → Gives (g.in_parentheses p) a (symbol o ∷ (us ++ symbol s.Close ∷ []))
  parentheses_given o p a us q h = (
    (
      (tt, a),
      (
        sign (kind_of_symbol o) ∷ [],
        token_lexemes (us ++ symbol s.Close ∷ []),
        refl,
        (sign (kind_of_symbol o), refl, q, refl),
        ((a, tt), (token_lexemes us, sign k.Close ∷ [], lexemes_append us (symbol s.Close ∷ []), h.0, (sign k.Close, refl, refl, refl)), refl),
      ),
      refl,
    ),
    stands_append us (symbol s.Close ∷ []) h.1 refl,
  )

  maybe_given : {A B : Type 0} (p : Sql B) (to : A → B) (f : A → List Token) (ok : A → Bool) (tokens : Option A → List Token) → tokens None ≡ [] → ((a : A) → tokens (Some a) ≡ f a)
      → ((a : A) → ok a ≡ true → Gives p (to a) (f a)) → (o : Option A) → is_so ok o ≡ true → Gives (g.maybe p) (option_map to o) (tokens o)
  maybe_given p to f ok tokens q r h None t = subst (λ (us : List Token). Gives (g.maybe p) None us) (sym q) (inr (refl, refl), refl)
  maybe_given p to f ok tokens q r h (Some a) t = let there = h a t in subst (λ (us : List Token). Gives (g.maybe p) (Some (to a)) us) (sym (r a)) (inl (to a, there.0, refl), there.1)

  -- ---- lists

  module _ {A B : Type 0} (p : Sql B) (to : A → B) (f : A → List Token) (ok : A → Bool) (h : (a : A) → ok a ≡ true → Gives p (to a) (f a)) where
    more_given : (xs : List A) → list_all ok xs ≡ true
        → Repeats (DerivesWithin sql d (g.after k.Comma p)) (token_lexemes (flat_map (λ y. comma ∷ f y) xs)) (map to xs) × Stands (flat_map (λ y. comma ∷ f y) xs)
    more_given [] t = (refl, refl)
    more_given (x ∷ xs) t =
        let both = and_parts (ok x) (list_all ok xs) t in
        let here = h x both.0 in
        let rest = more_given xs both.1 in (
          (
            token_lexemes (comma ∷ f x),
            token_lexemes (flat_map (λ y. comma ∷ f y) xs),
            lexemes_append (comma ∷ f x) (flat_map (λ y. comma ∷ f y) xs),
            ((tt, to x), (sign k.Comma ∷ [], token_lexemes (f x), refl, (sign k.Comma, refl, refl, refl), here.0), refl),
            rest.0,
          ),
          stands_append (comma ∷ f x) (flat_map (λ y. comma ∷ f y) xs) here.1 rest.1,
        )

    some_given : (x : A) (xs : List A) → list_all ok (x ∷ xs) ≡ true → Gives (g.list p) (map to (x ∷ xs)) (with_commas f (x ∷ xs))
    some_given x xs t =
        let both = and_parts (ok x) (list_all ok xs) t in
        let here = h x both.0 in
        let rest = more_given xs both.1 in (
          ((to x, map to xs), (token_lexemes (f x), token_lexemes (flat_map (λ y. comma ∷ f y) xs), lexemes_append (f x) (flat_map (λ y. comma ∷ f y) xs), here.0, rest.0), refl),
          stands_append (f x) (flat_map (λ y. comma ∷ f y) xs) here.1 rest.1,
        )

    list_given : (xs : List A) → are_all ok xs ≡ true → Gives (g.list p) (map to xs) (with_commas f xs)
    list_given [] t = cc
    list_given (x ∷ xs) t = some_given x xs t

    by_given : (v : Keyword) (xs : List A) → list_all ok xs ≡ true → Gives (or (g.after (kind_of_word v) (g.after k.By (g.list p))) (empty [])) (map to xs) (by v f xs)
    by_given v [] t = (inr (refl, refl), refl)
    by_given v (x ∷ xs) t = left_given (g.after (kind_of_word v) (g.after k.By (g.list p))) (empty []) (map to (x ∷ xs)) (by v f (x ∷ xs))
        (after_given v (g.after k.By (g.list p)) (map to (x ∷ xs)) (word w.By ∷ with_commas f (x ∷ xs)) (after_given w.By (g.list p) (map to (x ∷ xs)) (with_commas f (x ∷ xs)) (some_given x xs t)))

  itself : {A : Type 0} (xs : List A) → map (λ x. x) xs ≡ xs
  itself [] = refl
  itself {A} (x ∷ xs) = ap (λ (ys : List A). x ∷ ys) (itself xs)

  -- a list whose members are read as themselves
  same_given : {A : Type 0} (p : Sql A) (f : A → List Token) (ok : A → Bool) → ((a : A) → ok a ≡ true → Gives p a (f a)) → (xs : List A) → are_all ok xs ≡ true → Gives (g.list p) xs (with_commas f xs)
  same_given {A} p f ok h xs t = subst (λ (ys : List A). Gives (g.list p) ys (with_commas f xs)) (itself xs) (list_given p (λ x. x) f ok h xs t)

  names_given : (ns : List (List ℕ)) → are_all is_name ns ≡ true → Gives (g.in_parentheses (g.list g.name)) ns (symbol s.Open ∷ (with_commas name_of ns ++ symbol s.Close ∷ []))
  names_given ns t = parentheses_given s.Open (g.list g.name) ns (with_commas name_of ns) refl (same_given g.name name_of is_name name_given ns t)

  column_given : (x : Expr) → is_column x ≡ true → Gives g.column (as_read x) (expression x)
  column_given x t =
      let c = column_named x t in
      let tokens : expression (e.Named c.table c.column) ≡ Rattle.wat_spell.specs.Spelling.column c.table c.column = ap (λ (y : Spelling). y.tokens) (spelled_named c.table c.column) in
      subst (λ (z : Expr). Gives g.column (as_read z) (expression z)) (sym c.is)
      (subst (λ (z : Expr). Gives g.column z (expression (e.Named c.table c.column))) (sym (as_read_named c.table c.column)) (
        subst (λ (us : List Token). DerivesWithin sql d g.column (token_lexemes us) (e.Named c.table c.column)) (sym tokens) (column_derives d c.table c.column c.ok),
        parsable_stands (e.Named c.table c.column) (parsable_named c.table c.column ∙ c.ok),
      ))

  -- ---- queries

  condition_given : (v : Keyword) (o : Option Expr) → is_so is_readable_expression o ≡ true → Gives (g.maybe (g.after (kind_of_word v) g.expression)) (option_map as_read o) (spec.condition v o)
  condition_given v = maybe_given (g.after (kind_of_word v) g.expression) as_read (λ x. word v ∷ expression x) is_readable_expression (spec.condition v) refl (λ x. refl)
      (λ x t. after_given v g.expression (as_read x) (expression x) (expression_given x t))

  items_given : (x : SelectItems) → are_readable_items x ≡ true → Gives g.select_items (items_as_read x) (spec.select_items x)
  unfolding g.select_items
  items_given shown.Star t = (inl (tt, (sign k.Star, refl, refl, refl), refl), refl)
  items_given (shown.List xs) t =
      right_given (g.sign k.Star shown.Star) (map_phrase shown.List (g.list g.expression)) (shown.List (map as_read xs)) (with_commas expression xs)
      (made_given shown.List (g.list g.expression) (map as_read xs) (with_commas expression xs) (list_given g.expression as_read expression is_readable_expression expression_given xs t))

  alias_given : (o : Option (List ℕ)) → is_so is_name o ≡ true → Gives g.alias o (spec.alias o)
  unfolding g.alias
  alias_given None t = (inr (inr (refl, refl)), refl)
  alias_given (Some n) t = let there = name_given n t in (inr (inl (n, there.0, refl)), there.1)

  source_given : (x : Source) → is_readable_source x ≡ true → Gives g.source x (spec.source_tokens x)
  unfolding g.source
  source_given x t =
      let both = and_parts (is_name x.table) (is_so is_name x.alias) t in
      made_given (λ y. g.source_of y.0 y.1) (seq g.name g.alias) (x.table, x.alias) (name_of x.table ++ spec.alias x.alias)
      (pair_given g.name g.alias x.table x.alias (name_of x.table) (spec.alias x.alias) (name_given x.table both.0) (alias_given x.alias both.1))

  order_by_given : (x : OrderBy) → is_readable_order x ≡ true → Gives g.order_by (order_as_read x) (spec.order_by x)
  unfolding g.order_by
  order_by_given (Column x) t = let there = column_given x t in (inl (as_read x, there.0, refl), there.1)
  order_by_given (Position n) t = let there = count_given n t in (inr (n, there.0, refl), there.1)

  direction_given : (b : Bool) → Gives g.direction b (tokens_if b (word w.Desc ∷ []))
  unfolding g.direction
  direction_given true = (inr (inl (tt, (sign k.Desc, refl, refl, refl), refl)), refl)
  direction_given false = (inr (inr (refl, refl)), refl)

  order_given : (x : OrderItem) → is_readable_order_item x ≡ true → Gives g.order (order_item_as_read x) (spec.order_item x)
  unfolding g.order
  order_given x t =
      made_given (λ y. g.order_item y.0 y.1) (seq g.order_by g.direction) (order_as_read x.by, x.descending) (spec.order_item x)
      (pair_given g.order_by g.direction (order_as_read x.by) x.descending (spec.order_by x.by) (tokens_if x.descending (word w.Desc ∷ [])) (order_by_given x.by t) (direction_given x.descending))

  query_given : (q : Query) → is_readable_query q ≡ true → Gives g.query (query_as_read q) (spec.query q)
  unfolding g.query g.filter g.grouping g.having g.ordering
  query_given q t =
      let t1 = and_parts (are_readable_items q.items) _ t in
      let t2 = and_parts (are_all is_readable_source q.sources) _ t1.1 in
      let t3 = and_parts (is_so is_readable_expression q.filter) _ t2.1 in
      let t4 = and_parts (list_all is_column q.group) _ t3.1 in
      let t5 = and_parts (is_so is_readable_expression q.having) _ t4.1 in
      let order = by_given g.order order_item_as_read spec.order_item is_readable_order_item order_given w.Order q.order t5.1 in
      let having = pair_given g.having g.ordering _ _ (spec.condition w.Having q.having) _ (condition_given w.Having q.having t5.0) order in
      let group = pair_given g.grouping (seq g.having g.ordering) _ _ (by w.Group expression q.group) _ (by_given g.column as_read expression is_column column_given w.Group q.group t4.0) having in
      let filter = pair_given g.filter (seq g.grouping (seq g.having g.ordering)) _ _ (spec.condition w.Where q.filter) _ (condition_given w.Where q.filter t3.0) group in
      let sources = pair_given (g.list g.source) (seq g.filter (seq g.grouping (seq g.having g.ordering))) q.sources _ (with_commas spec.source_tokens q.sources) _
      (same_given g.source spec.source_tokens is_readable_source source_given q.sources t2.0) filter in
      let from = after_given w.From (seq (g.list g.source) (seq g.filter (seq g.grouping (seq g.having g.ordering)))) _ _ sources in
      let items = pair_given g.select_items (g.after k.From (seq (g.list g.source) (seq g.filter (seq g.grouping (seq g.having g.ordering))))) (items_as_read q.items) _ (spec.select_items q.items) _ (items_given q.items t1.0) from in
      let all = pair_given (g.optional k.Distinct) (seq g.select_items (g.after k.From (seq (g.list g.source) (seq g.filter (seq g.grouping (seq g.having g.ordering)))))) q.distinct _
      (tokens_if q.distinct (word w.Distinct ∷ [])) _ (flag_given w.Distinct q.distinct) items in
      after_given w.Select (map_phrase g.query_of (seq (g.optional k.Distinct) (seq g.select_items (g.after k.From (seq (g.list g.source) (seq g.filter (seq g.grouping (seq g.having g.ordering)))))))) (query_as_read q) _
      (made_given g.query_of (seq (g.optional k.Distinct) (seq g.select_items (g.after k.From (seq (g.list g.source) (seq g.filter (seq g.grouping (seq g.having g.ordering))))))) _ _ all)

  -- ---- tables

  type_given : (x : TypeName) → is_readable_type x ≡ true → Gives g.type_name x (type_tokens x)
  unfolding g.type_name
  type_given type_name.Integer t = (inl (tt, (sign k.Integer, refl, refl, refl), refl), refl)
  type_given (type_name.Char n) t =
      let there = after_given w.Char (map_phrase type_name.Char (g.in_parentheses g.number)) (type_name.Char n) (symbol s.OpenTight ∷ (number_of n ++ symbol s.Close ∷ []))
      (made_given type_name.Char (g.in_parentheses g.number) n (symbol s.OpenTight ∷ (number_of n ++ symbol s.Close ∷ [])) (parentheses_given s.OpenTight g.number n (number_of n) refl (count_given n t))) in
      (inr (inr (inl there.0)), there.1)
  type_given (type_name.Varchar n) t =
      let there = after_given w.Varchar (map_phrase type_name.Varchar (g.in_parentheses g.number)) (type_name.Varchar n) (symbol s.OpenTight ∷ (number_of n ++ symbol s.Close ∷ []))
      (made_given type_name.Varchar (g.in_parentheses g.number) n (symbol s.OpenTight ∷ (number_of n ++ symbol s.Close ∷ [])) (parentheses_given s.OpenTight g.number n (number_of n) refl (count_given n t))) in
      (inr (inr (inr there.0)), there.1)

  element_given : (x : Element) → is_readable_element x ≡ true → Gives g.element x (element_tokens x)
  unfolding g.element g.defined_column g.key_element
  element_given (element.Column n kind nullable key) t =
      let both = and_parts (is_name n) (is_readable_type kind) t in
      let typed = type_given kind both.1 in
      let named_there = name_given n both.0 in (
        inl (
          (n, (kind, rules_of nullable key)),
          (
            token_lexemes (name_of n),
            token_lexemes (type_tokens kind ++ column_rules nullable key),
            refl,
            named_there.0,
            (token_lexemes (type_tokens kind), token_lexemes (column_rules nullable key), lexemes_append (type_tokens kind) (column_rules nullable key), typed.0, rules_derive d nullable key),
          ),
          ap (g.column_element n kind) (sym (made_by nullable key)),
        ),
        stands_append (name_of n) (type_tokens kind ++ column_rules nullable key) named_there.1 (stands_append (type_tokens kind) (column_rules nullable key) typed.1 (rules_stand nullable key)),
      )
  element_given (element.Key ns) t =
      let columns : List Token = symbol s.Open ∷ (with_commas name_of ns ++ symbol s.Close ∷ []) in
      let made = made_given element.Key (g.in_parentheses (g.list g.name)) ns columns (names_given ns t) in
      let key = after_given w.Key (map_phrase element.Key (g.in_parentheses (g.list g.name))) (element.Key ns) columns made in
      let there = after_given w.Primary (g.after k.Key (map_phrase element.Key (g.in_parentheses (g.list g.name)))) (element.Key ns) (word w.Key ∷ columns) key in
      (inr there.0, there.1)

  index_column_given : (n : List ℕ) → is_name n ≡ true → Gives g.index_column n (name_of n)
  unfolding g.index_column
  index_column_given n t = let there = name_given n t in (((n, false), (token_lexemes (name_of n), [], refl, there.0, inr (refl, refl)), refl), there.1)

  -- ---- rows

  rows_given : (x : InsertSource) → are_readable_rows x ≡ true → Gives g.insert_source (rows_as_read x) (spec.insert_source x)
  unfolding g.insert_source
  rows_given (from.Values xs) t =
      let there = after_given w.Values (map_phrase from.Values (g.in_parentheses (g.list g.expression))) (from.Values (map as_read xs)) (symbol s.Open ∷ (with_commas expression xs ++ symbol s.Close ∷ []))
      (made_given from.Values (g.in_parentheses (g.list g.expression)) (map as_read xs) (symbol s.Open ∷ (with_commas expression xs ++ symbol s.Close ∷ []))
      (parentheses_given s.Open (g.list g.expression) (map as_read xs) (with_commas expression xs) refl (list_given g.expression as_read expression is_readable_expression expression_given xs t))) in
      (inl there.0, there.1)
  rows_given (from.Answer q) t = let there = query_given q t in (inr (query_as_read q, there.0, refl), there.1)

  columns_given : (o : Option (List (List ℕ))) → is_so (are_all is_name) o ≡ true → Gives g.insert_columns o (spec.insert_columns o)
  unfolding g.insert_columns
  columns_given None t = (inr (refl, refl), refl)
  columns_given (Some ns) t = let there = names_given ns t in (inl (ns, there.0, refl), there.1)

  set_given : (x : SetItem) → is_readable_set x ≡ true → Gives g.set_item (set_as_read x) (spec.set_item x)
  unfolding g.set_item
  set_given x t =
      let both = and_parts (is_name x.name) (is_readable_expression x.value) t in
      made_given (λ y. g.set_item_of y.0 y.1) (seq g.name (g.after k.Equal g.expression)) (x.name, as_read x.value) (spec.set_item x)
      (pair_given g.name (g.after k.Equal g.expression) x.name (as_read x.value) (name_of x.name) (symbol s.Equal ∷ expression x.value) (name_given x.name both.0)
      (equals_given g.expression (as_read x.value) (expression x.value) (expression_given x.value both.1)))

  -- ---- statements

  create_table_given : (n : List ℕ) (elements : List Element) → is_readable (statement.CreateTable n elements) ≡ true → Gives g.create (statement.CreateTable n elements) (spec.create_table n elements)
  unfolding g.create g.create_table
  create_table_given n elements t =
      let both = and_parts (is_name n) (are_all is_readable_element elements) t in
      let rows : List Token = symbol s.Open ∷ (with_commas element_tokens elements ++ symbol s.Close ∷ []) in
      let there = parentheses_given s.Open (g.list g.element) elements (with_commas element_tokens elements) refl (same_given g.element element_tokens is_readable_element element_given elements both.1) in
      let pair = pair_given g.name (g.in_parentheses (g.list g.element)) n elements (name_of n) rows (name_given n both.0) there in
      let made = made_given (λ x. statement.CreateTable x.0 x.1) (seq g.name (g.in_parentheses (g.list g.element))) (n, elements) (name_of n ++ rows) pair in
      let table = after_given w.Table (map_phrase (λ x. statement.CreateTable x.0 x.1) (seq g.name (g.in_parentheses (g.list g.element)))) (statement.CreateTable n elements) (name_of n ++ rows) made in
      after_given w.Create (or g.create_table g.create_index) (statement.CreateTable n elements) (word w.Table ∷ (name_of n ++ rows)) (left_given g.create_table g.create_index (statement.CreateTable n elements) (word w.Table ∷ (name_of n ++ rows)) table)

  create_index_given : (n table : List ℕ) (columns : List (List ℕ)) → is_readable (statement.CreateIndex n table columns) ≡ true → Gives g.create (statement.CreateIndex n table columns) (spec.create_index n table columns)
  unfolding g.create g.create_index
  create_index_given n table columns t =
      let t1 = and_parts (is_name n) (is_name table && are_all is_name columns) t in
      let t2 = and_parts (is_name table) (are_all is_name columns) t1.1 in
      let rows : List Token = symbol s.Open ∷ (with_commas name_of columns ++ symbol s.Close ∷ []) in
      let there = parentheses_given s.Open (g.list g.index_column) columns (with_commas name_of columns) refl (same_given g.index_column name_of is_name index_column_given columns t2.1) in
      let pair = pair_given g.name (g.in_parentheses (g.list g.index_column)) table columns (name_of table) rows (name_given table t2.0) there in
      let on = after_given w.On (seq g.name (g.in_parentheses (g.list g.index_column))) (table, columns) (name_of table ++ rows) pair in
      let all = pair_given g.name (g.after k.On (seq g.name (g.in_parentheses (g.list g.index_column)))) n (table, columns) (name_of n) (word w.On ∷ (name_of table ++ rows)) (name_given n t1.0) on in
      let made = made_given (λ x. statement.CreateIndex x.0 x.1.0 x.1.1) (seq g.name (g.after k.On (seq g.name (g.in_parentheses (g.list g.index_column))))) (n, (table, columns)) (name_of n ++ word w.On ∷ (name_of table ++ rows)) all in
      let index = after_given w.Index (map_phrase (λ x. statement.CreateIndex x.0 x.1.0 x.1.1) (seq g.name (g.after k.On (seq g.name (g.in_parentheses (g.list g.index_column)))))) (statement.CreateIndex n table columns)
      (name_of n ++ word w.On ∷ (name_of table ++ rows)) made in
      after_given w.Create (or g.create_table g.create_index) (statement.CreateIndex n table columns) (word w.Index ∷ (name_of n ++ word w.On ∷ (name_of table ++ rows)))
      (right_given g.create_table g.create_index (statement.CreateIndex n table columns) (word w.Index ∷ (name_of n ++ word w.On ∷ (name_of table ++ rows))) index)

  drop_table_given : (n : List ℕ) → is_name n ≡ true → Gives g.drop_table (statement.DropTable n) (spec.drop_table n)
  unfolding g.drop_table
  drop_table_given n t = after_given w.Drop (g.after k.Table (map_phrase statement.DropTable g.name)) (statement.DropTable n) (word w.Table ∷ name_of n)
      (after_given w.Table (map_phrase statement.DropTable g.name) (statement.DropTable n) (name_of n) (made_given statement.DropTable g.name n (name_of n) (name_given n t)))

  insert_given : (table : List ℕ) (columns : Option (List (List ℕ))) (rows : InsertSource) → is_readable (statement.Insert table columns rows) ≡ true
      → Gives g.insert (statement.Insert table columns (rows_as_read rows)) (spec.insert table columns rows)
  unfolding g.insert
  insert_given table columns rows t =
      let t1 = and_parts (is_name table) (is_so (are_all is_name) columns && are_readable_rows rows) t in
      let t2 = and_parts (is_so (are_all is_name) columns) (are_readable_rows rows) t1.1 in
      let behind = pair_given g.insert_columns g.insert_source columns (rows_as_read rows) (spec.insert_columns columns) (spec.insert_source rows) (columns_given columns t2.0) (rows_given rows t2.1) in
      let all = pair_given g.name (seq g.insert_columns g.insert_source) table (columns, rows_as_read rows) (name_of table) (spec.insert_columns columns ++ spec.insert_source rows) (name_given table t1.0) behind in
      let into = pair_given (g.optional k.Into) (seq g.name (seq g.insert_columns g.insert_source)) true (table, (columns, rows_as_read rows)) (word w.Into ∷ []) (name_of table ++ (spec.insert_columns columns ++ spec.insert_source rows)) (word_given w.Into) all in
      after_given w.Insert (map_phrase (λ x. statement.Insert x.1.0 x.1.1.0 x.1.1.1) (seq (g.optional k.Into) (seq g.name (seq g.insert_columns g.insert_source)))) (statement.Insert table columns (rows_as_read rows))
      ((word w.Into ∷ []) ++ (name_of table ++ (spec.insert_columns columns ++ spec.insert_source rows)))
      (made_given (λ x. statement.Insert x.1.0 x.1.1.0 x.1.1.1) (seq (g.optional k.Into) (seq g.name (seq g.insert_columns g.insert_source))) (true, (table, (columns, rows_as_read rows)))
      ((word w.Into ∷ []) ++ (name_of table ++ (spec.insert_columns columns ++ spec.insert_source rows))) into)

  filter_given : (o : Option Expr) → is_so is_readable_expression o ≡ true → Gives g.filter (option_map as_read o) (spec.condition w.Where o)
  unfolding g.filter
  filter_given o t = condition_given w.Where o t

  update_given : (table : List ℕ) (sets : List SetItem) (filter : Option Expr) → is_readable (statement.Update table sets filter) ≡ true
      → Gives g.update (statement.Update table (map set_as_read sets) (option_map as_read filter)) (spec.update table sets filter)
  unfolding g.update
  update_given table sets filter t =
      let t1 = and_parts (is_name table) (are_all is_readable_set sets && is_so is_readable_expression filter) t in
      let t2 = and_parts (are_all is_readable_set sets) (is_so is_readable_expression filter) t1.1 in
      let new : List SetItem = map set_as_read sets in
      let old : Option Expr = option_map as_read filter in
      let rest : List Token = with_commas spec.set_item sets ++ spec.condition w.Where filter in
      let behind = pair_given (g.list g.set_item) g.filter new old (with_commas spec.set_item sets) (spec.condition w.Where filter) (list_given g.set_item set_as_read spec.set_item is_readable_set set_given sets t2.0) (filter_given filter t2.1) in
      let set = after_given w.Set (seq (g.list g.set_item) g.filter) (new, old) rest behind in
      let all = pair_given g.name (g.after k.Set (seq (g.list g.set_item) g.filter)) table (new, old) (name_of table) (word w.Set ∷ rest) (name_given table t1.0) set in
      after_given w.Update (map_phrase (λ x. statement.Update x.0 x.1.0 x.1.1) (seq g.name (g.after k.Set (seq (g.list g.set_item) g.filter)))) (statement.Update table new old) (name_of table ++ word w.Set ∷ rest)
      (made_given (λ x. statement.Update x.0 x.1.0 x.1.1) (seq g.name (g.after k.Set (seq (g.list g.set_item) g.filter))) (table, (new, old)) (name_of table ++ word w.Set ∷ rest) all)

  delete_given : (table : List ℕ) (filter : Option Expr) → is_readable (statement.Delete table filter) ≡ true → Gives g.delete (statement.Delete table (option_map as_read filter)) (spec.delete table filter)
  unfolding g.delete
  delete_given table filter t =
      let both = and_parts (is_name table) (is_so is_readable_expression filter) t in
      let old : Option Expr = option_map as_read filter in
      let rest : List Token = name_of table ++ spec.condition w.Where filter in
      let pair = pair_given g.name g.filter table old (name_of table) (spec.condition w.Where filter) (name_given table both.0) (filter_given filter both.1) in
      let all = pair_given (g.optional k.From) (seq g.name g.filter) true (table, old) (word w.From ∷ []) rest (word_given w.From) pair in
      after_given w.Delete (map_phrase (λ x. statement.Delete x.1.0 x.1.1) (seq (g.optional k.From) (seq g.name g.filter))) (statement.Delete table old) ((word w.From ∷ []) ++ rest)
      (made_given (λ x. statement.Delete x.1.0 x.1.1) (seq (g.optional k.From) (seq g.name g.filter)) (true, (table, old)) ((word w.From ∷ []) ++ rest) all)

  commit_given : Gives g.commit statement.Commit (word w.Commit ∷ [])
  unfolding g.commit
  commit_given = after_given w.Commit (map_phrase (λ _. statement.Commit) (g.optional k.Work)) statement.Commit [] ((false, inr (refl, refl), refl), refl)

  checkpoint_given : Gives g.checkpoint statement.Checkpoint (word w.Checkpoint ∷ [])
  unfolding g.checkpoint
  checkpoint_given = ((tt, (sign k.Checkpoint, refl, refl, refl), refl), refl)

  abbrev back : Sql Statement
  back = or (g.sign k.Work statement.Rollback) (or (g.after k.To (g.after k.Savepoint (map_phrase statement.RollbackTo g.name))) (empty statement.Rollback))

  rollback_given : Gives g.rollback statement.Rollback (word w.Rollback ∷ [])
  unfolding g.rollback
  rollback_given = after_given w.Rollback back statement.Rollback [] (inr (inr (refl, refl)), refl)

  rollback_to_given : (n : List ℕ) → is_name n ≡ true → Gives g.rollback (statement.RollbackTo n) (spec.rollback_to n)
  unfolding g.rollback
  rollback_to_given n t =
      let there = after_given w.To (g.after k.Savepoint (map_phrase statement.RollbackTo g.name)) (statement.RollbackTo n) (word w.Savepoint ∷ name_of n)
      (after_given w.Savepoint (map_phrase statement.RollbackTo g.name) (statement.RollbackTo n) (name_of n) (made_given statement.RollbackTo g.name n (name_of n) (name_given n t))) in
      after_given w.Rollback back (statement.RollbackTo n) (word w.To ∷ word w.Savepoint ∷ name_of n) (inr (inl there.0), there.1)

  savepoint_given : (n : List ℕ) → is_name n ≡ true → Gives g.savepoint (statement.Savepoint n) (spec.savepoint n)
  unfolding g.savepoint
  savepoint_given n t = after_given w.Savepoint (map_phrase statement.Savepoint g.name) (statement.Savepoint n) (name_of n) (made_given statement.Savepoint g.name n (name_of n) (name_given n t))

  release_given : (n : List ℕ) → is_name n ≡ true → Gives g.release (statement.Release n) (spec.release n)
  unfolding g.release
  release_given n t = after_given w.Release (g.after k.Savepoint (map_phrase statement.Release g.name)) (statement.Release n) (word w.Savepoint ∷ name_of n)
      (after_given w.Savepoint (map_phrase statement.Release g.name) (statement.Release n) (name_of n) (made_given statement.Release g.name n (name_of n) (name_given n t)))

  level_given : (n : ℕ) → nat_lt n 4 ≡ true → Gives g.isolation_level n (number n ∷ [])
  unfolding g.isolation_level
  level_given n t =
      let small : nat_lt n (2 ^ 63) ≡ true = grind (arith, nat_tests) in
      ((number_lexeme n, refl, refl, ap (λ (b : Bool). if b then Some n else None) t), ap (λ b. b && true) small)

  switch_given : (on : Bool) → Gives g.switch on (word (spec.switch on) ∷ [])
  unfolding g.switch
  switch_given true = (inl (tt, (sign k.On, refl, refl, refl), refl), refl)
  switch_given false = (inr (inl (tt, (sign k.Off, refl, refl, refl), refl)), refl)

  option_given : (x : Statement) (us : List Token) → Gives (or g.set_level g.set_blocking) x us → Gives g.set_option x (word w.Set ∷ word w.Temporary ∷ word w.Option ∷ us)
  unfolding g.set_option
  option_given x us h = after_given w.Set (g.after k.Temporary (g.after k.Option (or g.set_level g.set_blocking))) x (word w.Temporary ∷ word w.Option ∷ us)
      (after_given w.Temporary (g.after k.Option (or g.set_level g.set_blocking)) x (word w.Option ∷ us) (after_given w.Option (or g.set_level g.set_blocking) x us h))

  set_level_given : (n : ℕ) → nat_lt n 4 ≡ true → Gives g.set_option (statement.SetLevel n) (spec.set_level n)
  unfolding g.set_level
  set_level_given n t =
      let there = after_given w.IsolationLevel (g.after k.Equal (map_phrase statement.SetLevel g.isolation_level)) (statement.SetLevel n) (symbol s.Equal ∷ number n ∷ [])
      (equals_given (map_phrase statement.SetLevel g.isolation_level) (statement.SetLevel n) (number n ∷ []) (made_given statement.SetLevel g.isolation_level n (number n ∷ []) (level_given n t))) in
      option_given (statement.SetLevel n) (word w.IsolationLevel ∷ symbol s.Equal ∷ number n ∷ []) (left_given g.set_level g.set_blocking (statement.SetLevel n) (word w.IsolationLevel ∷ symbol s.Equal ∷ number n ∷ []) there)

  set_blocking_given : (on : Bool) → Gives g.set_option (statement.SetBlocking on) (spec.set_blocking on)
  unfolding g.set_blocking
  set_blocking_given on =
      let there = after_given w.Blocking (g.after k.Equal (map_phrase statement.SetBlocking g.switch)) (statement.SetBlocking on) (symbol s.Equal ∷ word (spec.switch on) ∷ [])
      (equals_given (map_phrase statement.SetBlocking g.switch) (statement.SetBlocking on) (word (spec.switch on) ∷ []) (made_given statement.SetBlocking g.switch on (word (spec.switch on) ∷ []) (switch_given on))) in
      option_given (statement.SetBlocking on) (word w.Blocking ∷ symbol s.Equal ∷ word (spec.switch on) ∷ []) (right_given g.set_level g.set_blocking (statement.SetBlocking on) (word w.Blocking ∷ symbol s.Equal ∷ word (spec.switch on) ∷ []) there)

  pub statement_given : (x : Statement) → is_readable x ≡ true → Gives g.statement (statement_as_read x) (statement_tokens x)
  unfolding g.statement
  statement_given (statement.CreateTable n elements) t = let h = create_table_given n elements t in (inl h.0, h.1)
  statement_given (statement.CreateIndex n table columns) t = let h = create_index_given n table columns t in (inl h.0, h.1)
  statement_given (statement.DropTable n) t = let h = drop_table_given n t in (inr (inl h.0), h.1)
  statement_given (statement.Insert table columns rows) t = let h = insert_given table columns rows t in (inr (inr (inl h.0)), h.1)
  statement_given (statement.Update table sets filter) t = let h = update_given table sets filter t in (inr (inr (inr (inl h.0))), h.1)
  statement_given (statement.Delete table filter) t = let h = delete_given table filter t in (inr (inr (inr (inr (inl h.0)))), h.1)
  statement_given (statement.Select q) t = let h = query_given q t in (inr (inr (inr (inr (inr (inl (query_as_read q, h.0, refl)))))), h.1)
  statement_given statement.Commit t = let h = commit_given in (inr (inr (inr (inr (inr (inr (inl h.0)))))), h.1)
  statement_given statement.Checkpoint t = let h = checkpoint_given in (inr (inr (inr (inr (inr (inr (inr (inl h.0))))))), h.1)
  statement_given statement.Rollback t = let h = rollback_given in (inr (inr (inr (inr (inr (inr (inr (inr (inl h.0)))))))), h.1)
  statement_given (statement.RollbackTo n) t = let h = rollback_to_given n t in (inr (inr (inr (inr (inr (inr (inr (inr (inl h.0)))))))), h.1)
  statement_given (statement.Savepoint n) t = let h = savepoint_given n t in (inr (inr (inr (inr (inr (inr (inr (inr (inr (inl h.0))))))))), h.1)
  statement_given (statement.Release n) t = let h = release_given n t in (inr (inr (inr (inr (inr (inr (inr (inr (inr (inr (inl h.0)))))))))), h.1)
  statement_given (statement.SetLevel n) t = let h = set_level_given n t in (inr (inr (inr (inr (inr (inr (inr (inr (inr (inr (inr h.0)))))))))), h.1)
  statement_given (statement.SetBlocking on) t = let h = set_blocking_given on in (inr (inr (inr (inr (inr (inr (inr (inr (inr (inr (inr h.0)))))))))), h.1)

-- What is checked passes the checks again, as it is.
use Rattle.std.proofs.Common.{◌≡◌, ℕ, List, [], ◌∷◌, ◌++◌, map, Option, Some, None, Ok, unwrap_or, refl, ap, ap₂, sym, ◌∙◌}
use Rattle.std.specs.List.{flat_map, filter_map, cons_option}
use Rattle.std.specs.Option.{option_or, option_map, option_to_list}
use Rattle.std.proofs.lemmas.List.{map-append}
use Rattle.std.proofs.lemmas.List.Concat.{flat_map-append}
use Rattle.wat_ast.specs.declared.expression.Expr.{Expr}
use Rattle.wat_ast.specs.declared.query.SelectItems.{SelectItems}
use Rattle.wat_ast.specs.declared.query.SelectItems.TheVariants as items
use Rattle.wat_ast.specs.declared.query.OrderBy.{OrderBy}
use Rattle.wat_ast.specs.declared.query.OrderBy.TheVariants as by
use Rattle.wat_ast.specs.declared.query.OrderItem.{OrderItem}
use Rattle.wat_ast.specs.declared.query.Query.{Query}
use Rattle.wat_ast.specs.declared.statement.SetItem.{SetItem}
use Rattle.wat_ast.specs.declared.statement.InsertSource.{InsertSource}
use Rattle.wat_ast.specs.declared.statement.InsertSource.TheVariants.{Values, Answer}
use Rattle.wat_ast.specs.declared.statement.Statement.{Statement}
use Rattle.wat_ast.specs.declared.statement.Statement.TheVariants.{CreateTable, CreateIndex, DropTable, Insert, Update, Delete, Select, Commit, Checkpoint, Rollback, RollbackTo, Savepoint, Release, SetLevel, SetBlocking}
use Rattle.wat_walk.specs.Queries.{listed, order_column, expressions_of}
use Rattle.wat_schema.specs.declared.refusal.Refusal.{Refusal}
use Rattle.wat_schema.specs.Catalog.{Catalog, table_named}
use Rattle.wat_scope.specs.Scope.{Scope, query_scope, table_scope}
use Rattle.wat_names.specs.Refusals.{first, or_refused}
use Rattle.wat_names.specs.Columns.{table_refusals, source_refusals, column_refusals, in_expression, in_expressions, in_names, in_set, in_query, in_insert, columns_refusals, key_refusal, key_refusals, name_refusals}
use Rattle.wat_names.specs.Places.{placed, placed_items, placed_by, placed_order, placed_query, placed_set, placed_source, placed_statement}
use Rattle.wat_names.proofs.Firsts.{first-append}
use Rattle.wat_rules.specs.Rules.{rule_refusals}
use Rattle.wat_rules.specs.Check.{check}
use Rattle.wat_rules.proofs.CheckLemmas.{first_of_names, check_is}
use Rattle.wat_rules.proofs.SettledLemmas.{or_none, none_first, placed_again, passes_again, list_again, list_passes}

module _ (c : Catalog) (scope : Scope) where
  one : (x : Expr) → first (in_expressions c scope (x ∷ [])) ≡ None → first (in_expression c scope x) ≡ None
  one x none = (or_none (first (in_expression c scope x)) None (sym (first-append (in_expression c scope x) []) ∙ none)).0

  -- ---- the clauses of a query

  option_placed : (o : Option Expr) → option_to_list (option_map (placed c scope) o) ≡ map (placed c scope) (option_to_list o)
  option_placed None = refl
  option_placed (Some x) = refl

  listed_placed : (shown : SelectItems) → listed (placed_items c scope shown) ≡ map (placed c scope) (listed shown)
  listed_placed items.Star = refl
  listed_placed (items.List exprs) = refl

  order_placed : (item : OrderItem) (rest : List Expr) → cons_option (order_column (placed_order c scope item)) (map (placed c scope) rest) ≡ map (placed c scope) (cons_option (order_column item) rest)
  unfolding placed_order
  order_placed item rest = at item.by
    where
      at : (order : OrderBy) → cons_option (order_column (record { by = placed_by c scope order; descending = item.descending })) (map (placed c scope) rest)
          ≡ map (placed c scope) (cons_option (order_column (record { by = order; descending = item.descending })) rest)
      at (by.Column column) = refl
      at (by.Position n) = refl

  orders_placed : (order : List OrderItem) → filter_map order_column (map (placed_order c scope) order) ≡ map (placed c scope) (filter_map order_column order)
  orders_placed [] = refl
  orders_placed (item ∷ order) =
      ap (cons_option (order_column (placed_order c scope item))) (orders_placed order) ∙ order_placed item (filter_map order_column order)

  option_again : (o : Option Expr) → first (in_expressions c scope (option_to_list o)) ≡ None → option_map (placed c scope) (option_map (placed c scope) o) ≡ option_map (placed c scope) o
  option_again None none = refl
  option_again (Some x) none = ap Some (placed_again c scope x (one x none))

  option_passes : (o : Option Expr) → first (in_expressions c scope (option_to_list o)) ≡ None → in_expressions c scope (option_to_list (option_map (placed c scope) o)) ≡ []
  option_passes o none = ap (in_expressions c scope) (option_placed o) ∙ list_passes c scope (option_to_list o) none

  items_again : (shown : SelectItems) → first (in_expressions c scope (listed shown)) ≡ None → placed_items c scope (placed_items c scope shown) ≡ placed_items c scope shown
  items_again items.Star none = refl
  items_again (items.List exprs) none = ap items.List (list_again c scope exprs none)

  order_again : (item : OrderItem) (rest : List Expr) → first (in_expressions c scope (cons_option (order_column item) rest)) ≡ None
      → (placed_order c scope (placed_order c scope item) ≡ placed_order c scope item) × (first (in_expressions c scope rest) ≡ None)
  unfolding placed_order
  order_again item rest none = at item.by none
    where
      at : (order : OrderBy) → first (in_expressions c scope (cons_option (order_column (record { by = order; descending = item.descending })) rest)) ≡ None
          → (◌≡◌ {A = OrderItem} (record { by = placed_by c scope (placed_by c scope order); descending = item.descending }) (record { by = placed_by c scope order; descending = item.descending }))
          × (first (in_expressions c scope rest) ≡ None)
      at (by.Column column) none =
          let p = or_none (first (in_expression c scope column)) (first (in_expressions c scope rest)) (sym (first-append (in_expression c scope column) (in_expressions c scope rest)) ∙ none) in
          (ap (λ (x : Expr). record { by = by.Column x; descending = item.descending }) (placed_again c scope column p.0), p.1)
      at (by.Position n) none = (refl, none)

  orders_again : (order : List OrderItem) → first (in_expressions c scope (filter_map order_column order)) ≡ None → map (placed_order c scope) (map (placed_order c scope) order) ≡ map (placed_order c scope) order
  orders_again [] none = refl
  orders_again (item ∷ order) none =
      let p = order_again item (filter_map order_column order) none in
      ap₂ (λ (x : OrderItem) (xs : List OrderItem). x ∷ xs) p.0 (orders_again order p.1)

  -- ---- SET

  set_again : (set : SetItem) → first (in_set c scope set) ≡ None → (placed_set c scope (placed_set c scope set) ≡ placed_set c scope set) × (in_set c scope (placed_set c scope set) ≡ [])
  unfolding in_set placed_set
  set_again set none =
      let p = or_none (first (column_refusals c scope (None, set.name))) (first (in_expression c scope set.value)) (sym (first-append (column_refusals c scope (None, set.name)) (in_expression c scope set.value)) ∙ none) in (
        ap (λ (x : Expr). record { name = set.name; value = x }) (placed_again c scope set.value p.1),
        ap₂ (λ a b. a ++ b) (none_first (column_refusals c scope (None, set.name)) p.0) (passes_again c scope set.value p.1),
      )

  sets_again : (sets : List SetItem) → first (flat_map (in_set c scope) sets) ≡ None
      → (map (placed_set c scope) (map (placed_set c scope) sets) ≡ map (placed_set c scope) sets) × (flat_map (in_set c scope) (map (placed_set c scope) sets) ≡ [])
  sets_again [] none = (refl, refl)
  sets_again (set ∷ sets) none =
      let p = or_none (first (in_set c scope set)) (first (flat_map (in_set c scope) sets)) (sym (first-append (in_set c scope set) (flat_map (in_set c scope) sets)) ∙ none) in
      let here = set_again set p.0 in
      let rest = sets_again sets p.1 in
      (ap₂ (λ (x : SetItem) (xs : List SetItem). x ∷ xs) here.0 rest.0, ap₂ (λ a b. a ++ b) here.1 rest.1)

  keys_alike : (table : Option ℕ) (sets : List SetItem) → flat_map (key_refusal c table) (map (placed_set c scope) sets) ≡ flat_map (key_refusal c table) sets
  unfolding key_refusal placed_set
  keys_alike table [] = refl
  keys_alike table (set ∷ sets) = ap (λ rest. key_refusal c table set ++ rest) (keys_alike table sets)

-- ---- queries

abbrev query_of : Query → SelectItems → Option Expr → List Expr → Option Expr → List OrderItem → Query
query_of q shown filter group having order =
    record { distinct = q.distinct; items = shown; sources = q.sources; filter = filter; group = group; having = having; order = order }

query_again : (c : Catalog) (q : Query) → first (in_query c q) ≡ None → (placed_query c (placed_query c q) ≡ placed_query c q) × (in_query c (placed_query c q) ≡ [])
unfolding in_query
query_again c q none = (same, ap (in_expressions c s) exprs ∙ list_passes c s (expressions_of q) none)
  where
    s : Scope
    s = query_scope c q

    p : Expr → Expr
    p = placed c s

    parts : (xs ys : List Expr) → first (in_expressions c s (xs ++ ys)) ≡ None → (first (in_expressions c s xs) ≡ None) × (first (in_expressions c s ys) ≡ None)
    parts xs ys h = or_none (first (in_expressions c s xs)) (first (in_expressions c s ys)) (sym (ap first (flat_map-append (in_expression c s) xs ys) ∙ first-append (in_expressions c s xs) (in_expressions c s ys)) ∙ h)

    i : List Expr
    i = listed q.items

    f : List Expr
    f = option_to_list q.filter

    h : List Expr
    h = option_to_list q.having

    o : List Expr
    o = filter_map order_column q.order

    four : (first (in_expressions c s (i ++ f ++ q.group ++ h)) ≡ None) × (first (in_expressions c s o) ≡ None)
    four = parts (i ++ f ++ q.group ++ h) o none

    three : (first (in_expressions c s (i ++ f ++ q.group)) ≡ None) × (first (in_expressions c s h) ≡ None)
    three = parts (i ++ f ++ q.group) h four.0

    two : (first (in_expressions c s (i ++ f)) ≡ None) × (first (in_expressions c s q.group) ≡ None)
    two = parts (i ++ f) q.group three.0

    one_each : (first (in_expressions c s i) ≡ None) × (first (in_expressions c s f) ≡ None)
    one_each = parts i f two.0

    a : SelectItems
    a = placed_items c s q.items

    b : Option Expr
    b = option_map (placed c s) q.filter

    d : List Expr
    d = map (placed c s) q.group

    e : Option Expr
    e = option_map (placed c s) q.having

    same : placed_query c (placed_query c q) ≡ placed_query c q
    same =
        ap₂ (λ x y. query_of q x y (map (placed c s) d) (option_map (placed c s) e) (map (placed_order c s) (map (placed_order c s) q.order))) (items_again c s q.items one_each.0) (option_again c s q.filter one_each.1)
        ∙ (ap₂ (λ x y. query_of q a b x y (map (placed_order c s) (map (placed_order c s) q.order))) (list_again c s q.group two.1) (option_again c s q.having three.1)
        ∙ ap (query_of q a b d e) (orders_again c s q.order four.1))

    exprs : expressions_of (placed_query c q) ≡ map (placed c s) (expressions_of q)
    exprs =
        ap₂ (λ x y. x ++ y ++ d ++ option_to_list e ++ filter_map order_column (map (placed_order c s) q.order)) (listed_placed c s q.items) (option_placed c s q.filter)
        ∙ (ap₂ (λ x y. map p i ++ map p f ++ d ++ x ++ y) (option_placed c s q.having) (orders_placed c s q.order)
        ∙ sym (map-append p (i ++ f ++ q.group ++ h) o
        ∙ ap (λ xs. xs ++ map p o) (map-append p (i ++ f ++ q.group) h
        ∙ ap (λ xs. xs ++ map p h) (map-append p (i ++ f) q.group
        ∙ ap (λ xs. xs ++ map p q.group) (map-append p i f)))))

source_again : (c : Catalog) (source : InsertSource) → first (in_insert c source) ≡ None → (placed_source c (placed_source c source) ≡ placed_source c source) × (in_insert c (placed_source c source) ≡ [])
source_again c (Values values) none = (ap Values (list_again c [] values none), list_passes c [] values none)
source_again c (Answer q) none = let again = query_again c q none in (ap Answer again.0, again.1)

-- ---- statements

-- a statement that is its own placed form, without a column that is refused
abbrev IsDone : Catalog → Statement → Type 0
IsDone c s = (placed_statement c s ≡ s) × (columns_refusals c s ≡ [])

statement_again : (c : Catalog) (s : Statement) → first (columns_refusals c s) ≡ None → IsDone c (placed_statement c s)
statement_again c (CreateTable name elements) none = (refl, refl)
statement_again c (CreateIndex name table columns) none = (refl, none_first (in_names c (table_scope c table) columns) none)
statement_again c (DropTable name) none = (refl, refl)
statement_again c (Insert table columns source) none =
    let names = in_names c (table_scope c table) (unwrap_or columns []) in
    let p = or_none (first names) (first (in_insert c source)) (sym (first-append names (in_insert c source)) ∙ none) in
    let again = source_again c source p.1 in
    (ap (Insert table columns) again.0, ap₂ (λ a b. a ++ b) (none_first names p.0) again.1)
statement_again c (Update table sets filter) none =
    let scope = table_scope c table in
    let p = or_none (first (flat_map (in_set c scope) sets)) (first (in_expressions c scope (option_to_list filter)))
    (sym (first-append (flat_map (in_set c scope) sets) (in_expressions c scope (option_to_list filter))) ∙ none) in
    let again = sets_again c scope sets p.0 in
    (ap₂ (Update table) again.0 (option_again c scope filter p.1), ap₂ (λ a b. a ++ b) again.1 (option_passes c scope filter p.1))
statement_again c (Delete table filter) none =
    (ap (Delete table) (option_again c (table_scope c table) filter none), option_passes c (table_scope c table) filter none)
statement_again c (Select q) none = let again = query_again c q none in (ap Select again.0, again.1)
statement_again c Commit none = (refl, refl)
statement_again c Checkpoint none = (refl, refl)
statement_again c Rollback none = (refl, refl)
statement_again c (RollbackTo name) none = (refl, refl)
statement_again c (Savepoint name) none = (refl, refl)
statement_again c (Release name) none = (refl, refl)
statement_again c (SetLevel level) none = (refl, refl)
statement_again c (SetBlocking on) none = (refl, refl)

-- names of tables, visible names and keys that are set are asked alike
abbrev AreAlike : Catalog → Statement → Statement → Type 0
AreAlike c s t = (table_refusals c t ≡ table_refusals c s) × (source_refusals c t ≡ source_refusals c s) × (key_refusals c t ≡ key_refusals c s)

alike : (c : Catalog) (s : Statement) → AreAlike c s (placed_statement c s)
alike c (CreateTable name elements) = (refl, refl, refl)
alike c (CreateIndex name table columns) = (refl, refl, refl)
alike c (DropTable name) = (refl, refl, refl)
alike c (Insert table columns (Values values)) = (refl, refl, refl)
alike c (Insert table columns (Answer q)) = (refl, refl, refl)
alike c (Update table sets filter) = (refl, refl, keys_alike c (table_scope c table) (table_named c table) sets)
alike c (Delete table filter) = (refl, refl, refl)
alike c (Select q) = (refl, refl, refl)
alike c Commit = (refl, refl, refl)
alike c Checkpoint = (refl, refl, refl)
alike c Rollback = (refl, refl, refl)
alike c (RollbackTo name) = (refl, refl, refl)
alike c (Savepoint name) = (refl, refl, refl)
alike c (Release name) = (refl, refl, refl)
alike c (SetLevel level) = (refl, refl, refl)
alike c (SetBlocking on) = (refl, refl, refl)

-- what check found where it lets a statement through
abbrev HasPassed : Catalog → Statement → Statement → Type 0
HasPassed c s placed = (first (name_refusals c s) ≡ None) × (first (rule_refusals c (placed_statement c s)) ≡ None) × (placed_statement c s ≡ placed)

passed : (c : Catalog) (s placed : Statement) → check c s ≡ Ok placed → HasPassed c s placed
passed c s placed is = by (first (name_refusals c s)) (first (rule_refusals c (placed_statement c s))) (sym (check_is c s) ∙ is)
  where
    by : (n r : Option Refusal) → or_refused (placed_statement c s) (option_or n r) ≡ Ok placed → (n ≡ None) × (r ≡ None) × (placed_statement c s ≡ placed)
    by None None e = (refl, refl, cc)
    by None (Some r) e = cc
    by (Some n) r e = cc

name_parts : (c : Catalog) (s : Statement) → first (name_refusals c s) ≡ None
    → (first (table_refusals c s) ≡ None) × (first (source_refusals c s) ≡ None) × (first (columns_refusals c s) ≡ None) × (first (key_refusals c s) ≡ None)
name_parts c s none =
    let t = first (table_refusals c s) in
    let v = first (source_refusals c s) in
    let k = first (columns_refusals c s) in
    let four = or_none (option_or (option_or t v) k) (first (key_refusals c s)) (sym (first_of_names c s) ∙ none) in
    let three = or_none (option_or t v) k four.0 in
    let two = or_none t v three.0 in
    (two.0, two.1, three.1, four.1)

pub checked_again : (c : Catalog) (s placed : Statement) → check c s ≡ Ok placed → check c placed ≡ Ok placed
checked_again c s placed is =
    let t = placed_statement c s in
    let found = passed c s placed is in
    let names = name_parts c s found.0 in
    let done = statement_again c s names.2 in
    let same = alike c s in
    let name : first (name_refusals c t) ≡ None =
    first_of_names c t
    ∙ (ap₂ (λ a b. option_or (option_or (option_or a b) (first (columns_refusals c t))) (first (key_refusals c t))) (ap first same.0 ∙ names.0) (ap first same.1 ∙ names.1)
    ∙ ap₂ (λ a b. option_or (option_or None a) b) (ap first done.1) (ap first same.2 ∙ names.3)) in
    let rule : first (rule_refusals c (placed_statement c t)) ≡ None = ap (λ (x : Statement). first (rule_refusals c x)) done.0 ∙ found.1 in
    let again : check c t ≡ Ok t =
    check_is c t ∙ (ap₂ (λ a b. or_refused (placed_statement c t) (option_or a b)) name rule ∙ ap Ok done.0) in
    rw (← found.2) again

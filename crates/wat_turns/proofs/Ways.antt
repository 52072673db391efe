-- What a statement of each kind may mean.
use Rattle.std.proofs.Common.{◌≡◌, ℕ, Bool, true, false, cond, List, [], ◌∷◌, map, length, Option, Some, None, option_to_list, IsSomeAnd, Result, Ok, Err, refl, sym, ◌∙◌, ap}
use Rattle.std.specs.Option.{option_map_or}
use Rattle.wat_value.specs.declared.definition.TableDef.{TableDef}
use Rattle.wat_value.specs.declared.change.Act.{Act}
use Rattle.wat_value.specs.declared.change.Act.TheVariants.{OnRow, OnSchema}
use Rattle.wat_value.specs.declared.change.Change.{Change}
use Rattle.wat_value.specs.declared.change.Change.TheVariants as change
use Rattle.wat_value.specs.declared.change.SchemaChange.{SchemaChange}
use Rattle.wat_ast.specs.declared.expression.Expr.{Expr}
use Rattle.wat_ast.specs.declared.query.Query.{Query}
use Rattle.wat_ast.specs.declared.statement.Element.{Element}
use Rattle.wat_ast.specs.declared.statement.InsertSource.{InsertSource}
use Rattle.wat_ast.specs.declared.statement.SetItem.{SetItem}
use Rattle.wat_ast.specs.declared.statement.Statement.{Statement}
use Rattle.wat_ast.specs.declared.statement.Statement.TheVariants as s
use Rattle.wat_schema.specs.declared.refusal.Refusal.{Refusal}
use Rattle.wat_schema.specs.declared.refusal.Refusal.TheVariants.{NoTable, Arithmetic}
use Rattle.wat_schema.specs.Catalog.{Name, Catalog}
use Rattle.wat_schema.specs.Definitions.{allows}
use Rattle.wat_schema.specs.Tables.{Tables, catalog_of}
use Rattle.wat_names.specs.Refusals.{first, or_refused}
use Rattle.wat_names.specs.Places.{placed_statement, placed_query}
use Rattle.wat_rules.specs.Check.{check, refusals}
use Rattle.wat_rules.specs.Changes.{IsAllowed, change_of, changes_schema}
use Rattle.wat_rules.proofs.ChangeLemmas.{checked_change}
use Rattle.wat_expr.specs.Evaluation.{Combination}
use Rattle.wat_group.specs.declared.answer.Finished.{Finished}
use Rattle.wat_group.specs.declared.answer.Finished.TheVariants as finished
use Rattle.wat_group.specs.Query.{Row}
use Rattle.wat_meaning.specs.declared.reply.Meaning.{Meaning}
use Rattle.wat_meaning.specs.declared.reply.Reply.{Reply}
use Rattle.wat_meaning.specs.declared.reply.Reply.TheVariants.{Rows, Inserted, Updated, Deleted, Created, Dropped, Refused}
use Rattle.wat_meaning.specs.Meaning.{refusal_meaning, unless_refused, all_refusals, Made, Made.Changing, def_called, row_faults, changed, given_row, inserted, source_answer, met_rows, set_fails, after_set, updated, deleted, answer, shown, made, done, met, made_of, done_of, meaning_checked, after_check, meaning}
use Rattle.wat_history.specs.Fits.{is_no_syntax}
use Rattle.wat_turns.proofs.NoSyntax.{NoSyntax, checks_none, faults_none, keys_stand_none}

abbrev pub with_acts : Reply → List Act → Meaning
with_acts reply acts = record { answer = reply; acts = acts }

-- What holds of all refusals that are no Syntax, and of what else it may mean, holds of what it means.
module _ (P : Meaning → Type 0) (refused : (refusal : Refusal) → is_no_syntax refusal ≡ true → P (refusal_meaning refusal)) (t : Tables) where
  unless_way : (all : List Refusal) → NoSyntax all → (m : Meaning) → P m → P (unless_refused (first all) m)
  unless_way [] none m h = h
  unless_way (refusal ∷ all) none m h = refused refusal none.0

  changing_way : (reply : Reply) (changes : List Change) → P (with_acts reply (map OnRow changes)) → P (done t (Changing reply changes))
  unfolding done
  changing_way reply changes h = unless_way (all_refusals t changes) (keys_stand_none t changes) (with_acts reply (map OnRow changes)) h

  refused_way : (all : List Refusal) → NoSyntax all → (m : Made) → P (done t m) → P (done_of t (or_refused m (first all)))
  refused_way [] none m h = h
  refused_way (refusal ∷ all) none m h = refused refusal none.0

  changed_way : (def : TableDef) (rows : List Row) (reply : ℕ → Reply) (changes : List Change) → P (with_acts (reply (length changes)) (map OnRow changes)) → P (done_of t (changed def rows reply changes))
  changed_way def rows reply changes h = refused_way (row_faults def rows) (faults_none def rows) (Changing (reply (length changes)) changes) (changing_way (reply (length changes)) changes h)

  if_way : (b : Bool) (m n : Result Made Refusal) → P (done_of t m) → P (done_of t n) → P (done_of t (cond b m n))
  if_way true m n p q = p
  if_way false m n p q = q

  called_way : (name : Name) (make : TableDef → Result Made Refusal) (def : Option TableDef) → ((d : TableDef) → P (done_of t (make d))) → P (done_of t (option_map_or make def (Err (NoTable name))))
  called_way name make None more = refused (NoTable name) refl
  called_way name make (Some d) more = more d

  met_way : (c : Catalog) (x : Statement) (rows : Option (List Combination)) → ((all : List Combination) → P (done_of t (made c x all))) → P (done_of t (made_of c x rows))
  met_way c x None more = refused Arithmetic refl
  met_way c x (Some all) more = more all

  checked_way : (x : Statement) → (check (catalog_of t) x ≡ Ok (placed_statement (catalog_of t) x) → P (meaning_checked t (placed_statement (catalog_of t) x))) → P (meaning t x)
  unfolding meaning check
  checked_way x h = by (refusals (catalog_of t) x) (checks_none (catalog_of t) x) (λ e. h (ap (or_refused (placed_statement (catalog_of t) x)) e))
    where
      by : (all : List Refusal) → NoSyntax all → (first all ≡ None → P (meaning_checked t (placed_statement (catalog_of t) x))) → P (after_check t (or_refused (placed_statement (catalog_of t) x) (first all)))
      by [] none h = h refl
      by (refusal ∷ all) none h = refused refusal none.0

  -- ---- INSERT

  inserted_way : ((changes : List Change) → P (with_acts (Inserted (length changes)) (map OnRow changes))) → (columns : Option (List Name)) (found : Finished) (def : TableDef) → P (done_of t (inserted columns found def))
  inserted_way h columns finished.Arithmetic def = refused Arithmetic refl
  inserted_way h columns (finished.Rows values) def =
      let rows = map (given_row def columns) values in
      let changes = map (change.Insert def.number) rows in
      changed_way def rows Inserted changes (h changes)

  pub insert_way : ((changes : List Change) → P (with_acts (Inserted (length changes)) (map OnRow changes))) → (table : Name) (columns : Option (List Name)) (source : InsertSource) → P (meaning t (s.Insert table columns source))
  unfolding meaning_checked made
  insert_way h table columns source =
      let c = catalog_of t in
      checked_way (s.Insert table columns source) (λ e.
      let placed = placed_statement c (s.Insert table columns source) in
      met_way c placed (met t placed) (λ all. called_way table (inserted columns (source_answer c _ all)) (def_called c table) (inserted_way h columns (source_answer c _ all))))

  -- ---- UPDATE

  updated_way : ((changes : List Change) → P (with_acts (Updated (length changes)) (map OnRow changes))) → (sets : List SetItem) (rows : List Combination) (def : TableDef) → P (done_of t (updated sets rows def))
  updated_way h sets rows def =
      let found = met_rows def rows in
      let changes = map (λ row. change.Update def.number row (after_set def sets row)) found in
      let all = changed def (map (after_set def sets) found) Updated changes in
      if_way (set_fails sets found) (Err Arithmetic) all (refused Arithmetic refl) (changed_way def (map (after_set def sets) found) Updated changes (h changes))

  pub update_way : ((changes : List Change) → P (with_acts (Updated (length changes)) (map OnRow changes))) → (table : Name) (sets : List SetItem) (filter : Option Expr) → P (meaning t (s.Update table sets filter))
  unfolding meaning_checked made
  update_way h table sets filter =
      let c = catalog_of t in
      checked_way (s.Update table sets filter) (λ e.
      let placed = placed_statement c (s.Update table sets filter) in
      met_way c placed (met t placed) (λ all. called_way table (updated _ all) (def_called c table) (updated_way h _ all)))

  -- ---- DELETE

  deleted_way : ((changes : List Change) → P (with_acts (Deleted (length changes)) (map OnRow changes))) → (rows : List Combination) (def : TableDef) → P (done_of t (deleted rows def))
  deleted_way h rows def = let changes = map (change.Delete def.number) (met_rows def rows) in changed_way def [] Deleted changes (h changes)

  pub delete_way : ((changes : List Change) → P (with_acts (Deleted (length changes)) (map OnRow changes))) → (table : Name) (filter : Option Expr) → P (meaning t (s.Delete table filter))
  unfolding meaning_checked made
  delete_way h table filter =
      let c = catalog_of t in
      checked_way (s.Delete table filter) (λ e.
      let placed = placed_statement c (s.Delete table filter) in
      met_way c placed (met t placed) (λ all. called_way table (deleted all) (def_called c table) (deleted_way h all)))

  -- ---- SELECT

  shown_way : ((rows : List Row) → P (with_acts (Rows rows) [])) → (found : Finished) → P (done_of t (shown found))
  unfolding done
  shown_way h finished.Arithmetic = refused Arithmetic refl
  shown_way h (finished.Rows rows) = h rows

  pub select_way : ((rows : List Row) → P (with_acts (Rows rows) [])) → (q : Query) → P (meaning t (s.Select q))
  unfolding meaning_checked made
  select_way h q =
      let c = catalog_of t in
      checked_way (s.Select q) (λ e.
      let placed = placed_statement c (s.Select q) in
      met_way c placed (met t placed) (λ all. shown_way h (answer c (placed_query c q) all)))

  -- ---- CREATE and DROP

  altered_way : (reply : Reply) (alteration : Option SchemaChange) → IsSomeAnd alteration (λ change. allows change (catalog_of t) ≡ true) → ((change : SchemaChange) → P (with_acts reply (OnSchema change ∷ []))) → P (with_acts reply (map OnSchema (option_to_list alteration)))
  altered_way reply None allowed h = absurd allowed
  altered_way reply (Some change) allowed h = h change

  pub create_table_way : ((change : SchemaChange) → P (with_acts Created (OnSchema change ∷ []))) → (name : Name) (elements : List Element) → P (meaning t (s.CreateTable name elements))
  unfolding meaning_checked made done
  create_table_way h name elements =
      let x = s.CreateTable name elements in
      checked_way x (λ e. altered_way Created (change_of (catalog_of t) x) (checked_change (catalog_of t) x x e refl) h)

  pub create_index_way : ((change : SchemaChange) → P (with_acts Created (OnSchema change ∷ []))) → (name table : Name) (columns : List Name) → P (meaning t (s.CreateIndex name table columns))
  unfolding meaning_checked made done
  create_index_way h name table columns =
      let x = s.CreateIndex name table columns in
      checked_way x (λ e. altered_way Created (change_of (catalog_of t) x) (checked_change (catalog_of t) x x e refl) h)

  pub drop_way : ((change : SchemaChange) → P (with_acts Dropped (OnSchema change ∷ []))) → (name : Name) → P (meaning t (s.DropTable name))
  unfolding meaning_checked made done
  drop_way h name =
      let x = s.DropTable name in
      checked_way x (λ e. altered_way Dropped (change_of (catalog_of t) x) (checked_change (catalog_of t) x x e refl) h)

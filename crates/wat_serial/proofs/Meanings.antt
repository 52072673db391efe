-- What each kind of statement means over tables, by its table.
use Rattle.std.proofs.Common.{◌≡◌, ℕ, Bool, true, false, cond, ◌||◌, if◌then◌else◌, List, [], ◌∷◌, ◌++◌, map, length, filter, Option, Some, None, Result, Ok, Err, suc, option_to_list, refl, sym, ap, ap₂, ◌∙◌, inl, inr}
use Rattle.std.specs.List.{list_any, zip}
use Rattle.std.specs.Option.{option_map, option_map_or, option_and_then}
use Rattle.std.specs.Cmp.{on_total}
use Rattle.std.proofs.lemmas.Bool.{cases_Bool}
use Rattle.wat_value.specs.declared.definition.TableDef.{TableDef}
use Rattle.wat_value.specs.declared.change.Change.{Change}
use Rattle.wat_value.specs.declared.change.Change.TheVariants as change
use Rattle.wat_value.specs.declared.change.Act.TheVariants.{OnRow, OnSchema}
use Rattle.wat_value.specs.Fits.{key_of}
use Rattle.wat_value.specs.OrderLaws.{key_cmp_total, key_cmp_refl}
use Rattle.wat_ast.specs.declared.expression.Expr.{Expr}
use Rattle.wat_ast.specs.declared.query.Query.{Query}
use Rattle.wat_ast.specs.declared.statement.InsertSource.{InsertSource}
use Rattle.wat_ast.specs.declared.statement.SetItem.{SetItem}
use Rattle.wat_ast.specs.declared.statement.Statement.{Statement}
use Rattle.wat_ast.specs.declared.statement.Statement.TheVariants.{CreateIndex, CreateTable, Delete, DropTable, Insert, Select, Update}
use Rattle.wat_ast.specs.declared.statement.Element.{Element}
use Rattle.wat_rules.specs.Changes.{change_of}
use Rattle.wat_schema.specs.declared.refusal.Refusal.{Refusal}
use Rattle.wat_schema.specs.declared.refusal.Refusal.TheVariants.{NoTable, Arithmetic}
use Rattle.wat_schema.specs.Catalog.{Name, table_named}
use Rattle.wat_schema.specs.Tables.{Row, Table, Tables, IsTables, row_eq, by_key, rising, catalog_of, table_at}
use Rattle.wat_schema.proofs.RowOrder as row_order
use Rattle.wat_names.specs.Refusals.{first, or_refused}
use Rattle.wat_expr.specs.Evaluation.{Combination}
use Rattle.wat_group.specs.Query.{has_error}
use Rattle.wat_group.specs.declared.answer.Finished.{Finished}
use Rattle.wat_group.specs.declared.answer.Finished.TheVariants as finished
use Rattle.wat_meaning.specs.declared.reply.Meaning.{Meaning}
use Rattle.wat_meaning.specs.declared.reply.Reply.{Reply}
use Rattle.wat_meaning.specs.declared.reply.Reply.TheVariants.{Created, Deleted, Dropped, Inserted, Rows, Updated}
use Rattle.wat_meaning.specs.Meaning.{Made, Made.Changing, after_set, all_refusals, alone, answer, changed, def_called, deleted, done, done_of, given_row, inserted, made, made_of, meaning_checked, met, met_rows, passed, passes, refusal_meaning, row_faults, rows_where, set_fails, set_outcome, shown, source_answer, source_query, table_called, unless_refused, updated, with_def_called}
use Rattle.wat_meaning.proofs.ActsApply.{rows_rise}
use Rattle.wat_meaning.proofs.Alone.{met_alone, passed_alone, passing}
use Rattle.wat_meaning.proofs.Answering.{called_defs}
use Rattle.wat_meaning.proofs.Applying.{equal, itself, named}
use Rattle.wat_made.specs.Setting.{rows_after, sets_fail}
use Rattle.wat_serial.specs.Changing.{delete_acts, deleted_in, insert_acts, inserted_in, update_acts, updated_in, with_acts}
use Rattle.wat_serial.specs.Duplicates.{refusals_in}
use Rattle.wat_serial.proofs.Inserted.{refusals_are}

-- ---- what is met

pub checked_none : (t : Tables) (s : Statement) → met t s ≡ None → refusal_meaning Arithmetic ≡ meaning_checked t s
unfolding meaning_checked
checked_none t s none = sym (ap (λ o. done_of t (made_of (catalog_of t) s o)) none)

pub checked_some : (t : Tables) (s : Statement) (rows : List Combination) → met t s ≡ Some rows → done_of t (made (catalog_of t) s rows) ≡ meaning_checked t s
unfolding meaning_checked
checked_some t s rows some = sym (ap (λ o. done_of t (made_of (catalog_of t) s o)) some)

-- ---- the table

pub standing : (t : Tables) (name : Name) (x : Table) → table_called t name ≡ Some x → table_at t x.def.number ≡ Some x
standing t name x called = by (table_named (catalog_of t) name) called
  where
    by : (o : Option ℕ) → option_and_then (table_at t) o ≡ Some x → table_at t x.def.number ≡ Some x
    by None h = absurd (let no : ◌≡◌ {A = Option Table} None (Some x) = h in cc)
    by (Some n) h = ap (table_at t) (sym (named n x t.tables h)) ∙ h

pub made_here : (t : Tables) (name : Name) (x : Table) (make : TableDef → Result Made Refusal) → table_called t name ≡ Some x → with_def_called (catalog_of t) name make ≡ make x.def
made_here t name x make called = ap (λ o. option_map_or make o (Err (NoTable name))) (called_defs t name ∙ ap (option_map (λ z. z.def)) called)

pub made_nowhere : (t : Tables) (name : Name) (make : TableDef → Result Made Refusal) → table_called t name ≡ None → with_def_called (catalog_of t) name make ≡ Err (NoTable name)
made_nowhere t name make gone = ap (λ o. option_map_or make o (Err (NoTable name))) (called_defs t name ∙ ap (option_map (λ z. z.def)) gone)

-- ---- rows that are written

pub written : (t : Tables) (def : TableDef) (rows : List Row) (reply : ℕ → Reply) (changes : List Change)
    → done_of t (changed def rows reply changes) ≡ unless_refused (first (row_faults def rows ++ all_refusals t changes)) (with_acts (reply (length changes)) (map OnRow changes))
unfolding done
written t def rows reply changes = by (row_faults def rows)
  where
    by : (faults : List Refusal) → done_of t (or_refused (Changing (reply (length changes)) changes) (first faults))
        ≡ unless_refused (first (faults ++ all_refusals t changes)) (with_acts (reply (length changes)) (map OnRow changes))
    by [] = refl
    by (fault ∷ faults) = refl

-- ---- INSERT

inserts_of : (n : ℕ) (rows : List Row) → map OnRow (map (change.Insert n) rows) ≡ insert_acts n rows
inserts_of n [] = refl
inserts_of n (row ∷ rows) = ap (λ acts. OnRow (change.Insert n row) ∷ acts) (inserts_of n rows)

length-inserts : (n : ℕ) (rows : List Row) → length (map (change.Insert n) rows) ≡ length rows
length-inserts n [] = refl
length-inserts n (row ∷ rows) = ap suc (length-inserts n rows)

inserted_is : (t : Tables) (x : Table) (names : Option (List Name)) (values : Finished) → table_at t x.def.number ≡ Some x → inserted_in x names values ≡ done_of t (inserted names values x.def)
inserted_is t x names finished.Arithmetic at = refl
inserted_is t x names (finished.Rows values) at =
    let rows = map (given_row x.def names) values in
    let n = x.def.number in
    ap₂ (λ refusals m. unless_refused (first (row_faults x.def rows ++ refusals)) m) (sym (refusals_are n rows t x at refl))
    (ap₂ (λ count acts. with_acts (Inserted count) acts) (sym (length-inserts n rows)) (sym (inserts_of n rows)))
    ∙ sym (written t x.def rows Inserted (map (change.Insert n) rows))

module _ (t : Tables) (name : Name) (names : Option (List Name)) (source : InsertSource) (rows : List Combination) (is : option_map_or (passed t) (source_query source) (Some []) ≡ Some rows) where
  pub insert_is : (x : Table) → table_called t name ≡ Some x → inserted_in x names (source_answer (catalog_of t) source rows) ≡ meaning_checked t (Insert name names source)
  unfolding made
  insert_is x called =
      inserted_is t x names (source_answer (catalog_of t) source rows) (standing t name x called)
      ∙ ap (done_of t) (sym (made_here t name x (inserted names (source_answer (catalog_of t) source rows)) called))
      ∙ checked_some t (Insert name names source) rows is

  pub insert_nowhere : table_called t name ≡ None → refusal_meaning (NoTable name) ≡ meaning_checked t (Insert name names source)
  unfolding made
  insert_nowhere gone =
      ap (done_of t) (sym (made_nowhere t name (inserted names (source_answer (catalog_of t) source rows)) gone))
      ∙ checked_some t (Insert name names source) rows is

-- ---- the rows of a table

module _ (t : Tables) (ok : IsTables t) (name : Name) (test : Option Expr) (x : Table) (rows : List Combination) (called : table_called t name ≡ Some x) (is : passed t (rows_where name test) ≡ Some rows) where
  rises : rising (by_key x.def) x.rows ≡ true
  rises = rows_rise t ok.rows x.def.number x (standing t name x called)

  passing_rise : rising (by_key x.def) (passing test x.rows) ≡ true
  passing_rise =
      row_order.rising-filter (by_key x.def) row_eq (on_total (key_of x.def) key_cmp_total) itself equal (λ row. key_cmp_refl (key_of x.def row)) (λ row. passes test (alone row)) x.rows rises

  pub are_alone : rows ≡ map alone (passing test x.rows)
  are_alone = passed_alone t name test x rows called is

  pub in_order : met_rows x.def rows ≡ passing test x.rows
  in_order = ap (met_rows x.def) are_alone ∙ met_alone x.def (passing test x.rows) passing_rise

-- ---- UPDATE

no_refusals : (n : ℕ) (f : Row → Row) (rows : List Row) (t : Tables) → all_refusals t (map (λ row. change.Update n row (f row)) rows) ≡ []
no_refusals n f [] t = refl
no_refusals n f (row ∷ rows) t = no_refusals n f rows _

append-none : (xs : List Refusal) → xs ++ [] ≡ xs
append-none [] = refl
append-none (x ∷ xs) = ap (λ more. x ∷ more) (append-none xs)

module _ (def : TableDef) (sets : List SetItem) where
  fail_alike : (rows : List Row) → sets_fail sets (map alone rows) ≡ set_fails sets rows
  fail_alike [] = refl
  fail_alike (row ∷ rows) = ap (λ b. has_error (map (set_outcome row) sets) || b) (fail_alike rows)

  after_alike : (rows : List Row) → rows_after def sets (map alone rows) ≡ map (after_set def sets) rows
  after_alike [] = refl
  after_alike (row ∷ rows) = ap (λ more. after_set def sets row ∷ more) (after_alike rows)

updates_of : (n : ℕ) (f : Row → Row) (rows : List Row) → map OnRow (map (λ row. change.Update n row (f row)) rows) ≡ update_acts n (map alone rows) (map f rows)
updates_of n f [] = refl
updates_of n f (row ∷ rows) = ap (λ acts. OnRow (change.Update n row (f row)) ∷ acts) (updates_of n f rows)

length-updates : (n : ℕ) (f : Row → Row) (rows : List Row) → length (map (λ row. change.Update n row (f row)) rows) ≡ length (map alone rows)
length-updates n f [] = refl
length-updates n f (row ∷ rows) = ap suc (length-updates n f rows)

updated_is : (t : Tables) (def : TableDef) (sets : List SetItem) (rows : List Row)
    → updated_in def sets (map alone rows) ≡ done_of t (if set_fails sets rows then Err Arithmetic else changed def (map (after_set def sets) rows) Updated (map (λ row. change.Update def.number row (after_set def sets row)) rows))
updated_is t def sets rows = by (set_fails sets rows) refl
  where
    all : unless_refused (first (row_faults def (rows_after def sets (map alone rows)))) (with_acts (Updated (length (map alone rows))) (update_acts def.number (map alone rows) (rows_after def sets (map alone rows))))
        ≡ done_of t (changed def (map (after_set def sets) rows) Updated (map (λ row. change.Update def.number row (after_set def sets row)) rows))
    all =
        ap (λ after. unless_refused (first (row_faults def after)) (with_acts (Updated (length (map alone rows))) (update_acts def.number (map alone rows) after))) (after_alike def sets rows)
        ∙ ap₂ (λ refusals m. unless_refused (first refusals) m)
        (sym (append-none (row_faults def (map (after_set def sets) rows))) ∙ ap (λ more. row_faults def (map (after_set def sets) rows) ++ more) (sym (no_refusals def.number (after_set def sets) rows t)))
        (ap₂ (λ count acts. with_acts (Updated count) acts) (sym (length-updates def.number (after_set def sets) rows)) (sym (updates_of def.number (after_set def sets) rows)))
        ∙ sym (written t def (map (after_set def sets) rows) Updated (map (λ row. change.Update def.number row (after_set def sets row)) rows))

    by : (b : Bool) → set_fails sets rows ≡ b
        → updated_in def sets (map alone rows) ≡ done_of t (if set_fails sets rows then Err Arithmetic else changed def (map (after_set def sets) rows) Updated (map (λ row. change.Update def.number row (after_set def sets row)) rows))
    by true e = let failed = fail_alike def sets rows ∙ e in rw (failed, e) refl
    by false e = let sound = fail_alike def sets rows ∙ e in rw (sound, e) all

module _ (t : Tables) (name : Name) (sets : List SetItem) (test : Option Expr) (rows : List Combination) (is : passed t (rows_where name test) ≡ Some rows) where
  pub update_is : IsTables t → (x : Table) → table_called t name ≡ Some x → updated_in x.def sets rows ≡ meaning_checked t (Update name sets test)
  unfolding made
  update_is ok x called =
      ap (updated_in x.def sets) (are_alone t ok name test x rows called is)
      ∙ updated_is t x.def sets (passing test x.rows)
      ∙ ap (λ found. done_of t (if set_fails sets found then Err Arithmetic else changed x.def (map (after_set x.def sets) found) Updated (map (λ row. change.Update x.def.number row (after_set x.def sets row)) found)))
      (sym (in_order t ok name test x rows called is))
      ∙ ap (done_of t) (sym (made_here t name x (updated sets rows) called))
      ∙ checked_some t (Update name sets test) rows is

  pub update_nowhere : table_called t name ≡ None → refusal_meaning (NoTable name) ≡ meaning_checked t (Update name sets test)
  unfolding made
  update_nowhere gone = ap (done_of t) (sym (made_nowhere t name (updated sets rows) gone)) ∙ checked_some t (Update name sets test) rows is

-- ---- DELETE

none_refused : (n : ℕ) (rows : List Row) (t : Tables) → all_refusals t (map (change.Delete n) rows) ≡ []
none_refused n [] t = refl
none_refused n (row ∷ rows) t = none_refused n rows _

deletes_of : (n : ℕ) (rows : List Row) → map OnRow (map (change.Delete n) rows) ≡ delete_acts n (map alone rows)
deletes_of n [] = refl
deletes_of n (row ∷ rows) = ap (λ acts. OnRow (change.Delete n row) ∷ acts) (deletes_of n rows)

length-deletes : (n : ℕ) (rows : List Row) → length (map (change.Delete n) rows) ≡ length (map alone rows)
length-deletes n [] = refl
length-deletes n (row ∷ rows) = ap suc (length-deletes n rows)

deleted_is : (t : Tables) (def : TableDef) (rows : List Row) → deleted_in def (map alone rows) ≡ done_of t (changed def [] Deleted (map (change.Delete def.number) rows))
deleted_is t def rows =
    ap₂ (λ count acts. with_acts (Deleted count) acts) (sym (length-deletes def.number rows)) (sym (deletes_of def.number rows))
    ∙ ap (λ refusals. unless_refused (first refusals) (with_acts (Deleted (length (map (change.Delete def.number) rows))) (map OnRow (map (change.Delete def.number) rows)))) (sym (none_refused def.number rows t))
    ∙ sym (written t def [] Deleted (map (change.Delete def.number) rows))

module _ (t : Tables) (name : Name) (test : Option Expr) (rows : List Combination) (is : passed t (rows_where name test) ≡ Some rows) where
  pub delete_is : IsTables t → (x : Table) → table_called t name ≡ Some x → deleted_in x.def rows ≡ meaning_checked t (Delete name test)
  unfolding made
  delete_is ok x called =
      ap (deleted_in x.def) (are_alone t ok name test x rows called is)
      ∙ deleted_is t x.def (passing test x.rows)
      ∙ ap (λ found. done_of t (changed x.def [] Deleted (map (change.Delete x.def.number) found))) (sym (in_order t ok name test x rows called is))
      ∙ ap (done_of t) (sym (made_here t name x (deleted rows) called))
      ∙ checked_some t (Delete name test) rows is

  pub delete_nowhere : table_called t name ≡ None → refusal_meaning (NoTable name) ≡ meaning_checked t (Delete name test)
  unfolding made
  delete_nowhere gone = ap (done_of t) (sym (made_nowhere t name (deleted rows) gone)) ∙ checked_some t (Delete name test) rows is

-- ---- SELECT

pub select_is : (t : Tables) (q : Query) (rows : List Combination) → passed t q ≡ Some rows → done_of t (shown (answer (catalog_of t) q rows)) ≡ meaning_checked t (Select q)
unfolding made
select_is t q rows is = checked_some t (Select q) rows is

pub shown_rows : (t : Tables) (all : List Row) → with_acts (Rows all) [] ≡ done_of t (shown (finished.Rows all))
unfolding done
shown_rows t all = refl

-- ---- CREATE and DROP

pub creates_table : (t : Tables) (name : Name) (elements : List Element) → with_acts Created (map OnSchema (option_to_list (change_of (catalog_of t) (CreateTable name elements)))) ≡ meaning_checked t (CreateTable name elements)
unfolding meaning_checked made done
creates_table t name elements = refl

pub creates_index : (t : Tables) (name table : Name) (columns : List Name) → with_acts Created (map OnSchema (option_to_list (change_of (catalog_of t) (CreateIndex name table columns)))) ≡ meaning_checked t (CreateIndex name table columns)
unfolding meaning_checked made done
creates_index t name table columns = refl

pub drops_table : (t : Tables) (name : Name) → with_acts Dropped (map OnSchema (option_to_list (change_of (catalog_of t) (DropTable name)))) ≡ meaning_checked t (DropTable name)
unfolding meaning_checked made done
drops_table t name = refl

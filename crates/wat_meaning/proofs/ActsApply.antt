-- The acts of a statement's meaning apply.
use Rattle.std.proofs.Common.{◌≡◌, ℕ, ◌==◌, Bool, true, false, cond, List, [], ◌∷◌, map, length, if◌then◌else◌, is_some, IsSome, Option, Some, None, Result, Err, refl, sym, ap, ◌∙◌, subst, inl, inr}
use Rattle.std.specs.List.{find, list_any, list_all}
use Rattle.std.specs.Option.{option_and_then, option_map, option_map_or}
use Rattle.std.specs.Cmp.{on_total}
use Rattle.std.proofs.lemmas.Bool.{and_parts, and_from, or_left, or_right, cases_Bool}
use Rattle.wat_value.specs.declared.definition.TableDef.{TableDef}
use Rattle.wat_value.specs.declared.change.Change.{Change}
use Rattle.wat_value.specs.declared.change.Change.TheVariants as change
use Rattle.wat_value.specs.declared.change.Act.{Act}
use Rattle.wat_value.specs.declared.change.Act.TheVariants.{OnRow}
use Rattle.wat_value.specs.OrderLaws.{key_cmp_total, key_cmp_refl}
use Rattle.wat_value.specs.Fits.{fits, key_of}
use Rattle.wat_ast.specs.declared.expression.Expr.{Expr}
use Rattle.wat_ast.specs.declared.statement.Statement.{Statement}
use Rattle.wat_ast.specs.declared.statement.Statement.TheVariants.{Insert, Update, Delete}
use Rattle.wat_ast.specs.declared.statement.Statement.TheVariants as statement
use Rattle.wat_ast.specs.declared.statement.SetItem.{SetItem}
use Rattle.wat_ast.specs.declared.statement.InsertSource.{InsertSource}
use Rattle.wat_ast.specs.declared.statement.InsertSource.TheVariants.{Values, Answer}
use Rattle.wat_schema.specs.declared.refusal.Refusal.{Refusal}
use Rattle.wat_schema.specs.declared.refusal.Refusal.TheVariants.{NoTable, Arithmetic}
use Rattle.wat_schema.specs.Catalog.{Name, table_named, def_at}
use Rattle.wat_schema.specs.Tables.{Row, Table, Tables, row_eq, by_key, has_row, rising, is_table, IsTables, catalog_of, table_at, apply_all}
use Rattle.wat_schema.proofs.RowOrder as rows
use Rattle.wat_names.specs.Refusals.{first, or_refused}
use Rattle.wat_rules.specs.Check.{check, refusals}
use Rattle.wat_names.specs.Columns.{needed_of_insert}
use Rattle.wat_names.specs.Places.{placed_source, placed_statement}
use Rattle.wat_typing.specs.Rules.{given_rule}
use Rattle.wat_expr.specs.Evaluation.{Combination}
use Rattle.wat_group.specs.declared.answer.Finished.{Finished}
use Rattle.wat_group.specs.declared.answer.Finished.TheVariants as finished
use Rattle.wat_meaning.specs.declared.reply.Meaning.{Meaning}
use Rattle.wat_meaning.specs.declared.reply.Reply.{Reply}
use Rattle.wat_meaning.specs.declared.reply.Reply.TheVariants.{Inserted, Updated, Deleted}
use Rattle.wat_meaning.specs.Meaning.{rows_where, source_query, passes, passed, Made, Made.Changing, with_def_called, row_faults, all_refusals, unless_refused, changed, given_row, source_answer, inserted, alone, met_rows, set_fails, after_set, updated, deleted, made, done, met, made_of, done_of, meaning_checked, after_check, meaning}
use Rattle.wat_meaning.proofs.Defining.{creates_table, creates_index, drops}
use Rattle.wat_meaning.proofs.Replies.{with_acts, select_is_inert}
use Rattle.wat_meaning.proofs.Applying.{Applies, none_apply, equal, named, itself, deletes_apply, updates_apply, inserts_apply}
use Rattle.wat_meaning.proofs.Passed.{def_is, listed_def, named_once}
use Rattle.wat_meaning.proofs.Fitting.{is_typed, all_fit, fits_typed}
use Rattle.wat_meaning.proofs.Updating.{all_changed, all_typed}
use Rattle.wat_meaning.proofs.Alone.{passing, met_alone, passed_alone}
use Rattle.wat_meaning.proofs.Answering.{AreTyped, rows_fit, passed_fits}
use Rattle.wat_meaning.proofs.Distinct.{AreRising}
use Rattle.wat_meaning.proofs.Checked.{UpdatePassed, placed_sets, update_passed, updated_typed, needed_placed, source_passed, defs_scanned, inserted_typed}

abbrev DoApply : Tables → Meaning → Type 0
DoApply t m = Applies t m.acts

-- ---- tables in order

table_is : (n : ℕ) (x : Table) (xs : List Table) → list_all is_table xs ≡ true → find (λ z. n == z.def.number) xs ≡ Some x → is_table x ≡ true
table_is n x [] h k = cc
table_is n x (z ∷ zs) h k =
    let parts = and_parts (is_table z) (list_all is_table zs) h in
    let found : cond (n == z.def.number) (Some z) (find (λ w. n == w.def.number) zs) ≡ Some x = k in
    elim (cases_Bool (n == z.def.number)) [
      | inl here ↦
          let same : Some z ≡ Some x = rw here at found in
          let is : z ≡ x = cc in
          ap is_table (sym is) ∙ parts.0
      | inr other ↦ table_is n x zs parts.1 (rw other at found)
    ]

-- a table that stands under its number, with fitting rows in key order
record Standing (t : Tables) (x : Table) : Type 0 where
  at : table_at t x.def.number ≡ Some x
  fit : list_all (fits x.def) x.rows ≡ true
  up : rising (by_key x.def) x.rows ≡ true

standing : (t : Tables) (n : ℕ) (x : Table) → list_all is_table t.tables ≡ true → table_at t n ≡ Some x → Standing t x
standing t n x ok h =
    let is = and_parts (list_all (fits x.def) x.rows) (rising (by_key x.def) x.rows) (table_is n x t.tables ok h) in
    record { at = ap (table_at t) (sym (named n x t.tables h)) ∙ h; fit = is.0; up = is.1 }

rows_typed : (t : Tables) → list_all is_table t.tables ≡ true → AreTyped t
rows_typed t ok n x h = rows.list_all-to (fits x.def) (is_typed x.def.columns) (λ row is. fits_typed x.def.columns row is) x.rows (standing t n x ok h).fit

pub rows_rise : (t : Tables) → list_all is_table t.tables ≡ true → AreRising t
rows_rise t ok n x h = (standing t n x ok h).up

-- ---- the words of the meaning

-- what is made with the definition of a table makes acts that apply, if it does of each table that stands
apply_called : (t : Tables) (name : Name) (make : TableDef → Result Made Refusal) → list_all is_table t.tables ≡ true
    → ((n : ℕ) (x : Table) → table_named (catalog_of t) name ≡ Some n → table_at t n ≡ Some x → Standing t x → DoApply t (done_of t (make x.def))) → DoApply t (done_of t (with_def_called (catalog_of t) name make))
apply_called t name make ok each = by (table_named (catalog_of t) name) refl
  where
    found : (n : ℕ) (o : Option Table) → table_named (catalog_of t) name ≡ Some n → table_at t n ≡ o
        → DoApply t (done_of t (option_map_or make (option_map (λ x. x.def) o) (Err (NoTable name))))
    found n None e h = none_apply t
    found n (Some x) e h = each n x e h (standing t n x ok h)

    by : (o : Option ℕ) → table_named (catalog_of t) name ≡ o → DoApply t (done_of t (option_map_or make (option_and_then (def_at (catalog_of t)) o) (Err (NoTable name))))
    by None e = none_apply t
    by (Some n) e = subst (λ (d : Option TableDef). DoApply t (done_of t (option_map_or make d (Err (NoTable name))))) (sym (listed_def n t.tables)) (found n (table_at t n) e refl)

apply_met : (t : Tables) (s : Statement) → ((rows : List Combination) → met t s ≡ Some rows → DoApply t (done_of t (made (catalog_of t) s rows))) → DoApply t (meaning_checked t s)
unfolding meaning_checked
apply_met t s each = by (met t s) refl
  where
    by : (o : Option (List Combination)) → met t s ≡ o → DoApply t (done_of t (made_of (catalog_of t) s o))
    by None e = none_apply t
    by (Some rows) e = each rows e

apply_unless : (t : Tables) (refusals : List Refusal) (m : Meaning) → (refusals ≡ [] → DoApply t m) → DoApply t (unless_refused (first refusals) m)
apply_unless t [] m all = all refl
apply_unless t (refusal ∷ more) m all = none_apply t

apply_done : (t : Tables) (reply : Reply) (changes : List Change) → (all_refusals t changes ≡ [] → Applies t (map OnRow changes)) → DoApply t (done t (Changing reply changes))
unfolding done
apply_done t reply changes all = apply_unless t (all_refusals t changes) (with_acts reply (map OnRow changes)) all

apply_refused : (t : Tables) (faults : List Refusal) (m : Made) → (faults ≡ [] → DoApply t (done t m)) → DoApply t (done_of t (or_refused m (first faults)))
apply_refused t [] m all = all refl
apply_refused t (fault ∷ more) m all = none_apply t

apply_changed : (t : Tables) (def : TableDef) (rows : List Row) (reply : ℕ → Reply) (changes : List Change) → (row_faults def rows ≡ [] → all_refusals t changes ≡ [] → Applies t (map OnRow changes))
    → DoApply t (done_of t (changed def rows reply changes))
apply_changed t def rows reply changes all = apply_refused t (row_faults def rows) (Changing (reply (length changes)) changes) (λ faultless. apply_done t (reply (length changes)) changes (all faultless))

apply_if : (t : Tables) (b : Bool) (m n : Result Made Refusal) → DoApply t (done_of t m) → DoApply t (done_of t n) → DoApply t (done_of t (cond b m n))
apply_if t true m n p q = p
apply_if t false m n p q = q

-- ---- rows of a table

each_stands : (xs : List Row) → list_all (λ r. list_any (row_eq r) xs) xs ≡ true
each_stands [] = refl
each_stands (x ∷ xs) =
    and_from (list_any (row_eq x) (x ∷ xs)) (list_all (λ r. list_any (row_eq r) (x ∷ xs)) xs)
    (or_left (row_eq x x) (list_any (row_eq x) xs) (itself x))
    (rows.list_all-to (λ r. list_any (row_eq r) xs) (λ r. list_any (row_eq r) (x ∷ xs)) (λ r h. or_right (row_eq r x) (list_any (row_eq r) xs) h) xs (each_stands xs))

passing_stand : (test : Option Expr) (x : Table) → list_all (has_row x) (passing test x.rows) ≡ true
passing_stand test x = rows.list_all-filter (has_row x) (λ row. passes test (alone row)) x.rows (each_stands x.rows)

passing_rise : (test : Option Expr) (x : Table) → rising (by_key x.def) x.rows ≡ true → rising (by_key x.def) (passing test x.rows) ≡ true
passing_rise test x up =
    rows.rising-filter (by_key x.def) row_eq (on_total (key_of x.def) key_cmp_total) itself equal (λ row. key_cmp_refl (key_of x.def row)) (λ row. passes test (alone row)) x.rows up

-- the rows of a table that were met are those that pass, in their order
met_are : (t : Tables) (table : Name) (test : Option Expr) (n : ℕ) (x : Table) (met : List Combination) → table_named (catalog_of t) table ≡ Some n → table_at t n ≡ Some x → Standing t x
    → passed t (rows_where table test) ≡ Some met → met_rows x.def met ≡ passing test x.rows
met_are t table test n x met e h s is =
    ap (met_rows x.def) (passed_alone t table test x met (ap (option_and_then (table_at t)) e ∙ h) is) ∙ met_alone x.def (passing test x.rows) (passing_rise test x s.up)

-- ---- DELETE

apply_delete : (t : Tables) (test : Option Expr) (x : Table) (met : List Combination) → Standing t x → met_rows x.def met ≡ passing test x.rows → DoApply t (done_of t (deleted met x.def))
apply_delete t test x met s is =
    apply_changed t x.def [] Deleted (map (change.Delete x.def.number) (met_rows x.def met)) (λ faultless none.
    subst (λ (ds : List Row). Applies t (map OnRow (map (change.Delete x.def.number) ds))) (sym is)
    (deletes_apply x.def.number (passing test x.rows) t x s.at (passing_stand test x) (passing_rise test x s.up)))

checked_delete : (t : Tables) (table : Name) (test : Option Expr) → list_all is_table t.tables ≡ true → DoApply t (meaning_checked t (Delete table test))
unfolding made
checked_delete t table test ok =
    apply_met t (Delete table test) (λ rows is. apply_called t table (deleted rows) ok (λ n x e h s. apply_delete t test x rows s (met_are t table test n x rows e h s is)))

pub deletes : (t : Tables) (table : Name) (test : Option Expr) → list_all is_table t.tables ≡ true → DoApply t (meaning t (Delete table test))
unfolding meaning check
deletes t table test ok = by (first (refusals (catalog_of t) (Delete table test)))
  where
    by : (refusal : Option Refusal) → DoApply t (after_check t (or_refused (placed_statement (catalog_of t) (Delete table test)) refusal))
    by None = checked_delete t table _ ok
    by (Some refusal) = none_apply t

-- ---- UPDATE

apply_update : (t : Tables) (table : Name) (sets : List SetItem) (test : Option Expr) (met : List Combination) → UpdatePassed (catalog_of t) table sets → (n : ℕ) (x : Table)
    → table_named (catalog_of t) table ≡ Some n → table_at t n ≡ Some x → Standing t x → met_rows x.def met ≡ passing test x.rows → DoApply t (done_of t (updated (placed_sets (catalog_of t) table sets) met x.def))
apply_update t table sets test met may n x e h s is =
    subst (λ (found : List Row). DoApply t (done_of t (all found))) (sym is)
    (apply_if t (set_fails given ds) (Err Arithmetic) (changed x.def (map f ds) Updated changes) (none_apply t)
    (apply_changed t x.def (map f ds) Updated changes (λ faultless none.
    updates_apply x.def.number f ds t x s.at (passing_stand test x) (passing_rise test x s.up)
    (all_changed x.def f ds typed (λ row is. (one row is).1) (all_fit x.def (map f ds) (all_typed x.def f ds typed (λ row is. (one row is).0)) faultless)))))
  where
    given : List SetItem
    given = placed_sets (catalog_of t) table sets

    ds : List Row
    ds = passing test x.rows

    f : Row → Row
    f = after_set x.def given

    changes : List Change
    changes = map (λ row. change.Update x.def.number row (f row)) ds

    all : List Row → Result Made Refusal
    all found = if set_fails given found then Err Arithmetic else changed x.def (map f found) Updated (map (λ row. change.Update x.def.number row (f row)) found)

    one : (row : Row) → is_typed x.def.columns row ≡ true → (is_typed x.def.columns (f row) ≡ true) × (key_of x.def (f row) ≡ key_of x.def row)
    one row is = updated_typed (catalog_of t) table sets n x.def row may e (def_is t n x h) is

    typed : list_all (is_typed x.def.columns) ds ≡ true
    typed = rows.list_all-filter (is_typed x.def.columns) (λ row. passes test (alone row)) x.rows
        (rows.list_all-to (fits x.def) (is_typed x.def.columns) (λ row is. fits_typed x.def.columns row is) x.rows s.fit)

checked_update : (t : Tables) (table : Name) (sets : List SetItem) (test : Option Expr) → list_all is_table t.tables ≡ true → UpdatePassed (catalog_of t) table sets
    → DoApply t (meaning_checked t (Update table (placed_sets (catalog_of t) table sets) test))
unfolding made
checked_update t table sets test ok may =
    apply_met t (Update table (placed_sets (catalog_of t) table sets) test) (λ rows is.
    apply_called t table (updated (placed_sets (catalog_of t) table sets) rows) ok (λ n x e h s. apply_update t table sets test rows may n x e h s (met_are t table test n x rows e h s is)))

pub updates : (t : Tables) (table : Name) (sets : List SetItem) (test : Option Expr) → list_all is_table t.tables ≡ true → DoApply t (meaning t (Update table sets test))
unfolding meaning check
updates t table sets test ok = by (first (refusals (catalog_of t) (Update table sets test))) refl
  where
    by : (refusal : Option Refusal) → first (refusals (catalog_of t) (Update table sets test)) ≡ refusal
        → DoApply t (after_check t (or_refused (placed_statement (catalog_of t) (Update table sets test)) refusal))
    by None h = checked_update t table sets _ ok (update_passed (catalog_of t) table sets test h)
    by (Some refusal) h = none_apply t

-- ---- INSERT

apply_insert : (t : Tables) (columns : Option (List Name)) (found : Finished) (x : Table) → Standing t x
    → ((values : List Row) → found ≡ finished.Rows values → list_all (is_typed x.def.columns) (map (given_row x.def columns) values) ≡ true) → DoApply t (done_of t (inserted columns found x.def))
apply_insert t columns finished.Arithmetic x s typed = none_apply t
apply_insert t columns (finished.Rows values) x s typed =
    let rows = map (given_row x.def columns) values in
    apply_changed t x.def rows Inserted (map (change.Insert x.def.number) rows) (λ faultless none. inserts_apply x.def.number rows t x s.at (all_fit x.def rows (typed values refl) faultless) none)

-- what is met of a source is of typed rows
source_fits : (t : Tables) (table : Name) (columns : Option (List Name)) (source : InsertSource) (rows : List Combination) → AreTyped t → met t (Insert table columns source) ≡ Some rows
    → list_all (rows_fit (defs_scanned (catalog_of t) (source_query source))) rows ≡ true
source_fits t table columns (Values exprs) rows typed is = let none : [] ≡ rows = cc in ap (list_all (rows_fit [])) (sym none)
source_fits t table columns (Answer q) rows typed is = passed_fits t typed q rows is

checked_insert : (t : Tables) (table : Name) (columns : Option (List Name)) (source : InsertSource) → IsTables t → needed_of_insert (catalog_of t) source ≡ []
    → given_rule (catalog_of t) table columns source ≡ None → DoApply t (meaning_checked t (Insert table columns source))
unfolding made
checked_insert t table columns source ok needed rule =
    apply_met t (Insert table columns source) (λ rows is.
    apply_called t table (inserted columns (source_answer (catalog_of t) source rows)) ok.rows (λ n x e h s.
    apply_insert t columns (source_answer (catalog_of t) source rows) x s
    (inserted_typed (catalog_of t) table columns source rows n x.def e (def_is t n x h) (named_once (catalog_of t) n x.def ok.catalog (def_is t n x h)) needed rule (source_fits t table columns source rows (rows_typed t ok.rows) is))))

pub inserts : (t : Tables) (table : Name) (columns : Option (List Name)) (source : InsertSource) → IsTables t → DoApply t (meaning t (Insert table columns source))
unfolding meaning check
inserts t table columns source ok = by (first (refusals (catalog_of t) (Insert table columns source))) refl
  where
    by : (refusal : Option Refusal) → first (refusals (catalog_of t) (Insert table columns source)) ≡ refusal
        → DoApply t (after_check t (or_refused (placed_statement (catalog_of t) (Insert table columns source)) refusal))
    by None h =
        let p = source_passed (catalog_of t) table columns source h in
        checked_insert t table columns (placed_source (catalog_of t) source) ok (needed_placed (catalog_of t) source p.needed) p.rule
    by (Some refusal) h = none_apply t

-- ---- all statements

some_from : (t : Tables) (m : Meaning) → DoApply t m → IsSome (apply_all m.acts t)
some_from t m h = ap is_some h.1

-- what makes no acts
empty_some : (t : Tables) (acts : List Act) → acts ≡ [] → IsSome (apply_all acts t)
empty_some t acts h = ap (λ (a : List Act). is_some (apply_all a t)) h

other_applies : (t : Tables) (s : Statement) → (meaning_checked t s).acts ≡ [] → placed_statement (catalog_of t) s ≡ s → IsSome (apply_all (meaning t s).acts t)
unfolding meaning check
other_applies t s h is = by (first (refusals (catalog_of t) s))
  where
    by : (refusal : Option Refusal) → IsSome (apply_all (after_check t (or_refused (placed_statement (catalog_of t) s) refusal)).acts t)
    by None = empty_some t (meaning_checked t (placed_statement (catalog_of t) s)).acts (ap (λ (z : Statement). (meaning_checked t z).acts) is ∙ h)
    by (Some refusal) = refl

pub acts_apply : (t : Tables) (s : Statement) → IsTables t → IsSome (apply_all (meaning t s).acts t)
unfolding meaning_checked made done
acts_apply t (statement.CreateTable name elements) ok = some_from t (meaning t (statement.CreateTable name elements)) (creates_table t name elements)
acts_apply t (statement.CreateIndex name table columns) ok = some_from t (meaning t (statement.CreateIndex name table columns)) (creates_index t name table columns)
acts_apply t (statement.DropTable name) ok = some_from t (meaning t (statement.DropTable name)) (drops t name)
acts_apply t (statement.Insert table columns source) ok = some_from t (meaning t (Insert table columns source)) (inserts t table columns source ok)
acts_apply t (statement.Update table sets test) ok = some_from t (meaning t (Update table sets test)) (updates t table sets test ok.rows)
acts_apply t (statement.Delete table test) ok = some_from t (meaning t (Delete table test)) (deletes t table test ok.rows)
acts_apply t (statement.Select q) ok = empty_some t (meaning t (statement.Select q)).acts (select_is_inert t q)
acts_apply t statement.Commit ok = other_applies t statement.Commit refl refl
acts_apply t statement.Checkpoint ok = other_applies t statement.Checkpoint refl refl
acts_apply t statement.Rollback ok = other_applies t statement.Rollback refl refl
acts_apply t (statement.RollbackTo name) ok = other_applies t (statement.RollbackTo name) refl refl
acts_apply t (statement.Savepoint name) ok = other_applies t (statement.Savepoint name) refl refl
acts_apply t (statement.Release name) ok = other_applies t (statement.Release name) refl refl
acts_apply t (statement.SetLevel level) ok = other_applies t (statement.SetLevel level) refl refl
acts_apply t (statement.SetBlocking on) ok = other_applies t (statement.SetBlocking on) refl refl

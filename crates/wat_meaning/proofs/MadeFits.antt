-- What a checked statement makes of rows that fit, fits.
use Rattle.std.proofs.Common.{◌≡◌, ℕ, Bool, true, false, cond, ◌&&◌, List, [], ◌∷◌, map, length, if◌then◌else◌, Option, Some, None, Result, Ok, Err, refl, sym, ap, ◌∙◌, subst, inl, inr}
use Rattle.std.specs.List.{find, list_all}
use Rattle.std.specs.Option.{option_map, option_map_or, option_and_then}
use Rattle.std.proofs.lemmas.Bool.{and_parts, and_from, eqb-true, cases_Bool}
use Rattle.wat_value.specs.declared.definition.TableDef.{TableDef}
use Rattle.wat_value.specs.declared.change.Change.{Change}
use Rattle.wat_value.specs.declared.change.Change.TheVariants as change
use Rattle.wat_value.specs.Order.{key_cmp}
use Rattle.wat_value.specs.Fits.{fits, key_of}
use Rattle.wat_ast.specs.declared.expression.Expr.{Expr}
use Rattle.wat_ast.specs.declared.statement.SetItem.{SetItem}
use Rattle.wat_ast.specs.declared.statement.Statement.{Statement}
use Rattle.wat_ast.specs.declared.statement.Statement.TheVariants.{CreateTable, CreateIndex, DropTable, Insert, Update, Delete, Select}
use Rattle.wat_ast.specs.declared.statement.Statement.TheVariants as statement
use Rattle.wat_schema.specs.declared.refusal.Refusal.{Refusal}
use Rattle.wat_schema.specs.declared.refusal.Refusal.TheVariants.{NoTable, Arithmetic}
use Rattle.wat_schema.specs.Catalog.{Name, Catalog, Listing, has_number, table_named, def_at}
use Rattle.wat_schema.specs.Stored.{IsCatalog}
use Rattle.wat_schema.specs.Tables.{row_eq}
use Rattle.wat_schema.proofs.RowOrder as rows
use Rattle.wat_names.specs.Refusals.{first, or_refused}
use Rattle.wat_scope.specs.Scope.{table_scope}
use Rattle.wat_names.specs.Places.{placed, placed_query, placed_source, placed_statement}
use Rattle.wat_rules.specs.Check.{check, refusals}
use Rattle.wat_expr.specs.Evaluation.{Combination}
use Rattle.wat_group.specs.declared.answer.Finished.{Finished}
use Rattle.wat_group.specs.declared.answer.Finished.TheVariants as finished
use Rattle.wat_group.specs.Query.{Row, keys_at, in_key_order}
use Rattle.wat_meaning.specs.declared.reply.Reply.{Reply}
use Rattle.wat_meaning.specs.declared.reply.Reply.TheVariants.{Inserted, Updated}
use Rattle.wat_meaning.specs.Meaning.{Made, Made.Shown, Made.Changing, Made.Altering, rows_where, source_query, source_defs, def_called, row_faults, changed, given_row, answer, source_answer, sole_row, met_rows, set_fails, after_set, inserted, updated, deleted, shown, made}
use Rattle.wat_meaning.specs.Standing.{combination_fits, scanned_defs, change_fits}
use Rattle.wat_meaning.proofs.Applying.{itself}
use Rattle.wat_meaning.proofs.Passed.{named_once}
use Rattle.wat_meaning.proofs.Fitting.{is_typed, all_fit, fits_typed}
use Rattle.wat_meaning.proofs.Updating.{all_typed}
use Rattle.wat_meaning.proofs.Answering.{rows_fit, all_mapped, all_sorted}
use Rattle.wat_meaning.proofs.Checked.{placed_sets, UpdatePassed, update_passed, updated_typed, needed_placed, source_passed, inserted_typed}

-- what is made is no list of changes, or each of them fits
abbrev DoesFit : Catalog → Result Made Refusal → Type 0
DoesFit c (Err refusal) = Unit {0}
DoesFit c (Ok (Shown rows)) = Unit {0}
DoesFit c (Ok (Changing reply changes)) = list_all (change_fits c) changes ≡ true
DoesFit c (Ok (Altering reply alteration)) = Unit {0}

-- ---- the definition of a table that is written

numbered_among : (n : ℕ) (def : TableDef) (ls : List Listing) → option_map (λ l. l.def) (find (has_number n) ls) ≡ Some def → n ≡ def.number
numbered_among n def [] h = cc
numbered_among n def (l ∷ ls) h =
    let found : option_map (λ (z : Listing). z.def) (cond (has_number n l) (Some l) (find (has_number n) ls)) ≡ Some def = h in
    elim (cases_Bool (has_number n l)) [
      | inl here ↦
          let same : Some l.def ≡ Some def = rw here at found in
          let is : l.def ≡ def = cc in
          eqb-true n l.def.number here ∙ ap (λ (d : TableDef). d.number) is
      | inr other ↦ numbered_among n def ls (rw other at found)
    ]

numbered : (c : Catalog) (n : ℕ) (def : TableDef) → def_at c n ≡ Some def → n ≡ def.number
numbered c n def h = numbered_among n def c.tables h

called_fit : (c : Catalog) (name : Name) (make : TableDef → Result Made Refusal)
    → ((n : ℕ) (def : TableDef) → table_named c name ≡ Some n → def_at c n ≡ Some def → def_at c def.number ≡ Some def → def_called c name ≡ Some def → DoesFit c (make def))
    → DoesFit c (option_map_or make (def_called c name) (Err (NoTable name)))
called_fit c name make each = by (table_named c name) refl
  where
    found : (n : ℕ) (o : Option TableDef) → table_named c name ≡ Some n → def_at c n ≡ o → DoesFit c (option_map_or make o (Err (NoTable name)))
    found n None e h = tt
    found n (Some def) e h = each n def e h (ap (def_at c) (sym (numbered c n def h)) ∙ h) (ap (option_and_then (def_at c)) e ∙ h)

    by : (o : Option ℕ) → table_named c name ≡ o → DoesFit c (option_map_or make (option_and_then (def_at c) o) (Err (NoTable name)))
    by None e = tt
    by (Some n) e = found n (def_at c n) e refl

refused_fit : (c : Catalog) (faults : List Refusal) (reply : Reply) (changes : List Change) → (faults ≡ [] → list_all (change_fits c) changes ≡ true) → DoesFit c (or_refused (Changing reply changes) (first faults))
refused_fit c [] reply changes all = all refl
refused_fit c (fault ∷ more) reply changes all = tt

-- ---- INSERT

insert_fits : (c : Catalog) (def : TableDef) (n : ℕ) → def_at c n ≡ Some def → (rows : List Row) → list_all (fits def) rows ≡ true → list_all (change_fits c) (map (change.Insert n) rows) ≡ true
insert_fits c def n here [] fit = refl
insert_fits c def n here (row ∷ rows) fit =
    let p = and_parts (fits def row) (list_all (fits def) rows) fit in
    and_from (change_fits c (change.Insert n row)) (list_all (change_fits c) (map (change.Insert n) rows))
    (ap (λ (o : Option TableDef). option_map_or (λ d. fits d row) o false) here ∙ p.0) (insert_fits c def n here rows p.1)

inserted_fit : (c : Catalog) (columns : Option (List Name)) (found : Finished) (def : TableDef) → def_at c def.number ≡ Some def
    → ((values : List Row) → found ≡ finished.Rows values → list_all (is_typed def.columns) (map (given_row def columns) values) ≡ true) → DoesFit c (inserted columns found def)
inserted_fit c columns finished.Arithmetic def here typed = tt
inserted_fit c columns (finished.Rows values) def here typed =
    let rows = map (given_row def columns) values in
    refused_fit c (row_faults def rows) (Inserted (length (map (change.Insert def.number) rows))) (map (change.Insert def.number) rows)
    (λ faultless. insert_fits c def def.number here rows (all_fit def rows (typed values refl) faultless))

-- ---- UPDATE and DELETE

update_fits : (c : Catalog) (def : TableDef) (f : Row → Row) (n : ℕ) → def_at c n ≡ Some def → (rows : List Row) → list_all (is_typed def.columns) rows ≡ true
    → ((row : Row) → is_typed def.columns row ≡ true → key_of def (f row) ≡ key_of def row) → list_all (fits def) (map f rows) ≡ true
    → list_all (change_fits c) (map (λ row. change.Update n row (f row)) rows) ≡ true
update_fits c def f n here [] typed keys fit = refl
update_fits c def f n here (row ∷ rows) typed keys fit =
    let p = and_parts (is_typed def.columns row) (list_all (is_typed def.columns) rows) typed in
    let q = and_parts (fits def (f row)) (list_all (fits def) (map f rows)) fit in
    and_from (change_fits c (change.Update n row (f row))) (list_all (change_fits c) (map (λ row. change.Update n row (f row)) rows))
    (ap (λ (o : Option TableDef). option_map_or (λ d. row_eq (key_of d row) (key_of d (f row)) && fits d (f row)) o false) here
    ∙ and_from (row_eq (key_of def row) (key_of def (f row))) (fits def (f row)) (ap (row_eq (key_of def row)) (keys row p.0) ∙ itself (key_of def row)) q.0)
    (update_fits c def f n here rows p.1 keys q.1)

delete_fits : (c : Catalog) (def : TableDef) (n : ℕ) → def_at c n ≡ Some def → (rows : List Row) → list_all (change_fits c) (map (change.Delete n) rows) ≡ true
delete_fits c def n here [] = refl
delete_fits c def n here (row ∷ rows) =
    and_from (change_fits c (change.Delete n row)) (list_all (change_fits c) (map (change.Delete n) rows))
    (ap (λ (o : Option TableDef). option_map_or (λ d. true) o false) here) (delete_fits c def n here rows)

-- the row of a combination of one source
sole_typed : (def : TableDef) (rows : Combination) → rows_fit (def ∷ []) rows ≡ true → is_typed def.columns (sole_row rows) ≡ true
sole_typed def [] h = cc
sole_typed def (None ∷ rs) h = cc
sole_typed def (Some row ∷ rs) h = (and_parts (is_typed def.columns row) (rows_fit [] rs) h).0

met_typed : (def : TableDef) (met : List Combination) → list_all (rows_fit (def ∷ [])) met ≡ true → list_all (is_typed def.columns) (met_rows def met) ≡ true
met_typed def met fit =
    all_mapped (rows_fit (def ∷ [])) (is_typed def.columns) sole_row (sole_typed def) (in_key_order (def ∷ []) met)
    (all_sorted (rows_fit (def ∷ [])) (λ a b. key_cmp (keys_at (def ∷ []) a) (keys_at (def ∷ []) b)) met fit)

updated_fit : (c : Catalog) (table : Name) (sets : List SetItem) (met : List Combination) (n : ℕ) (def : TableDef) → UpdatePassed c table sets → table_named c table ≡ Some n → def_at c n ≡ Some def
    → def_at c def.number ≡ Some def → list_all (rows_fit (def ∷ [])) met ≡ true → DoesFit c (updated (placed_sets c table sets) met def)
updated_fit c table sets met n def may e at here fit = either (set_fails given ds)
  where
    given : List SetItem
    given = placed_sets c table sets

    ds : List Row
    ds = met_rows def met

    f : Row → Row
    f = after_set def given

    one : (row : Row) → is_typed def.columns row ≡ true → (is_typed def.columns (f row) ≡ true) × (key_of def (f row) ≡ key_of def row)
    one row is = updated_typed c table sets n def row may e at is

    changes : List Change
    changes = map (λ row. change.Update def.number row (f row)) ds

    either : (failed : Bool) → DoesFit c (if failed then Err Arithmetic else changed def (map f ds) Updated changes)
    either true = tt
    either false =
        refused_fit c (row_faults def (map f ds)) (Updated (length changes)) changes (λ faultless.
        update_fits c def f def.number here ds (met_typed def met fit) (λ row is. (one row is).1) (all_fit def (map f ds) (all_typed def f ds (met_typed def met fit) (λ row is. (one row is).0)) faultless))

-- ---- combinations of fitting rows

typed_from : (defs : List TableDef) (rows : Combination) → combination_fits defs rows ≡ true → rows_fit defs rows ≡ true
typed_from [] [] h = refl
typed_from [] (r ∷ rs) h = cc
typed_from (d ∷ ds) [] h = cc
typed_from (d ∷ ds) (None ∷ rs) h = cc
typed_from (d ∷ ds) (Some row ∷ rs) h =
    let p = and_parts (fits d row) (combination_fits ds rs) h in
    and_from (is_typed d.columns row) (rows_fit ds rs) (fits_typed d.columns row p.0) (typed_from ds rs p.1)

all_typed_from : (defs : List TableDef) (met : List Combination) → list_all (combination_fits defs) met ≡ true → list_all (rows_fit defs) met ≡ true
all_typed_from defs met h = rows.list_all-to (combination_fits defs) (rows_fit defs) (typed_from defs) met h

one_typed : (c : Catalog) (table : Name) (test : Option Expr) (def : TableDef) (met : List Combination) → def_called c table ≡ Some def → list_all (combination_fits (source_defs c (rows_where table test))) met ≡ true
    → list_all (rows_fit (def ∷ [])) met ≡ true
one_typed c table test def met called fit =
    let one : source_defs c (rows_where table test) ≡ def ∷ [] = rw called refl in
    all_typed_from (def ∷ []) met (ap (λ (defs : List TableDef). list_all (combination_fits defs) met) (sym one) ∙ fit)

let_through : (c : Catalog) (s : Statement) (met : List Combination) → IsCatalog c → first (refusals c s) ≡ None → list_all (combination_fits (scanned_defs c (placed_statement c s))) met ≡ true
    → DoesFit c (made c (placed_statement c s) met)
unfolding made
let_through c (Insert table columns source) met ok none fit =
    let p = source_passed c table columns source none in
    called_fit c table (inserted columns (source_answer c (placed_source c source) met)) (λ n def e at here called.
    inserted_fit c columns (source_answer c (placed_source c source) met) def here
    (inserted_typed c table columns (placed_source c source) met n def e at (named_once c n def ok at) (needed_placed c source p.needed) p.rule
    (all_typed_from (option_map_or (source_defs c) (source_query (placed_source c source)) []) met fit)))
let_through c (Update table sets test) met ok none fit =
    called_fit c table (updated (placed_sets c table sets) met) (λ n def e at here called.
    updated_fit c table sets met n def (update_passed c table sets test none) e at here (one_typed c table (option_map (placed c (table_scope c table)) test) def met called fit))
let_through c (Delete table test) met ok none fit = called_fit c table (deleted met) (λ n def e at here called. delete_fits c def def.number here (met_rows def met))
let_through c (Select q) met ok none fit = shows (answer c (placed_query c q) met)
  where
    shows : (found : Finished) → DoesFit c (shown found)
    shows finished.Arithmetic = tt
    shows (finished.Rows rows) = tt
let_through c (CreateTable name elements) met ok none fit = tt
let_through c (CreateIndex name table columns) met ok none fit = tt
let_through c (DropTable name) met ok none fit = tt
let_through c statement.Commit met ok none fit = tt
let_through c statement.Checkpoint met ok none fit = tt
let_through c statement.Rollback met ok none fit = tt
let_through c (statement.RollbackTo name) met ok none fit = tt
let_through c (statement.Savepoint name) met ok none fit = tt
let_through c (statement.Release name) met ok none fit = tt
let_through c (statement.SetLevel level) met ok none fit = tt
let_through c (statement.SetBlocking on) met ok none fit = tt

pub made_fits : (c : Catalog) (s placed : Statement) (met : List Combination) (reply : Reply) (changes : List Change) → IsCatalog c → check c s ≡ Ok placed
    → list_all (combination_fits (scanned_defs c placed)) met ≡ true → made c placed met ≡ Ok (Changing reply changes) → list_all (change_fits c) changes ≡ true
unfolding check
made_fits c s placed met reply changes ok checked fit is = by (first (refusals c s)) refl checked
  where
    by : (o : Option Refusal) → first (refusals c s) ≡ o → or_refused (placed_statement c s) o ≡ Ok placed → list_all (change_fits c) changes ≡ true
    by (Some refusal) h k = cc
    by None h k =
        let same : placed_statement c s ≡ placed = cc in
        subst (DoesFit c) is
        (subst (λ (z : Statement). DoesFit c (made c z met)) same
        (let_through c s met ok h (ap (λ (z : Statement). list_all (combination_fits (scanned_defs c z)) met) same ∙ fit)))

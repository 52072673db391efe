-- The change that is next is one of the table that the statement writes; it fits, and a row that it takes or alters stands as it says.
use Rattle.std.proofs.Common.{◌≡◌, ℕ, zero, suc, Bool, true, false, if◌then◌else◌, List, [], ◌∷◌, ◌++◌, length, drop, map, Option, Some, None, Result, Ok, Err, refl, sym, ap, ◌∙◌, subst, inl, inr}
use Rattle.std.specs.List.{list_all}
use Rattle.std.specs.Option.{option_map}
use Rattle.std.proofs.lemmas.Bool.{and_parts}
use Rattle.wat_list.specs.Has.{Has}
use Rattle.wat_list.proofs.Members.{has_map}
use Rattle.wat_value.specs.declared.definition.TableDef.{TableDef}
use Rattle.wat_value.specs.declared.change.Change.{Change}
use Rattle.wat_value.specs.declared.change.Change.TheVariants as change
use Rattle.wat_value.specs.Changes.{RowName, changed_row, changed_table, row_before}
use Rattle.wat_ast.specs.declared.statement.SetItem.{SetItem}
use Rattle.wat_ast.specs.declared.statement.Statement.{Statement}
use Rattle.wat_ast.specs.declared.statement.Statement.TheVariants.{Insert, Update, Delete, Select}
use Rattle.wat_ast.specs.declared.statement.Statement.TheVariants as statement
use Rattle.wat_schema.specs.declared.refusal.Refusal.{Refusal}
use Rattle.wat_schema.specs.declared.refusal.Refusal.TheVariants.{Arithmetic}
use Rattle.wat_schema.specs.Catalog.{Catalog, Listing, Name, def_at, in_order, listing_at}
use Rattle.wat_schema.specs.Tables.{Row, Tables}
use Rattle.wat_schema.proofs.Found.{known_by_number}
use Rattle.wat_names.specs.Refusals.{first, or_refused}
use Rattle.wat_expr.specs.Evaluation.{Combination}
use Rattle.wat_group.specs.declared.answer.Finished.{Finished}
use Rattle.wat_group.specs.declared.answer.Finished.TheVariants as finished
use Rattle.wat_group.specs.Query.{finish}
use Rattle.wat_meaning.specs.declared.reply.Reply.{Reply}
use Rattle.wat_meaning.specs.declared.reply.Reply.TheVariants.{Inserted, Updated}
use Rattle.wat_meaning.specs.Meaning.{Made, Made.Altering, Made.Changing, Made.Shown, row_faults, changed, given_row, inserted, updated, deleted, set_fails, after_set, met_rows, shown}
use Rattle.wat_meaning.specs.Standing.{change_fits}
use Rattle.wat_isolation.specs.Logs.{Item, view}
use Rattle.wat_isolation.specs.Sql.{sql}
use Rattle.wat_scans.specs.Look.{IsOf}
use Rattle.wat_scans.specs.Running.{Run, Task, Next, Next.ToChange, change_next, defs_of, items_of, made_by, made_next, next, row_changed, rows_found, target_of, task_of, with_target}
use Rattle.wat_scans.specs.Scans.{Progress}
use Rattle.wat_scans.specs.Still.{Granted}
use Rattle.wat_scans.specs.Told.{IsChecked, IsStepped}
use Rattle.wat_scans.proofs.Applied.{named_by}
use Rattle.wat_scans.proofs.Going.{IsDone, NextChange, done_change, next_change}
use Rattle.wat_scans.proofs.Meant.{order_ok}
use Rattle.wat_scans.proofs.Said.{all_fit, fit_parts}
use Rattle.wat_scans.proofs.Still.{IsStill, stands_if_old, still}
use Rattle.wat_driven.specs.Driven.{Drives}
use Rattle.wat_driven.proofs.DrivenLemmas.{recorded}

-- ---- the changes of a statement are of the table that it writes

abbrev AllOf : ℕ → List Change → Type 0
AllOf n changes = (ch : Change) → Has ch changes → changed_table ch ≡ n

abbrev OfTable : ℕ → Result Made Refusal → Type 0
OfTable n (Ok (Changing reply changes)) = AllOf n changes
OfTable n (Ok (Shown rows)) = Unit {0}
OfTable n (Ok (Altering reply alteration)) = Unit {0}
OfTable n (Err x) = Unit {0}

abbrev OfTarget : Option Listing → Result Made Refusal → Type 0
OfTarget target (Ok (Changing reply changes)) = (l : Listing) × (target ≡ Some l) × AllOf l.def.number changes
OfTarget target (Ok (Shown rows)) = Unit {0}
OfTarget target (Ok (Altering reply alteration)) = Unit {0}
OfTarget target (Err x) = Unit {0}

all_of_map : {A : Type 0} (n : ℕ) (make : A → Change) → ((x : A) → changed_table (make x) ≡ n) → (xs : List A) → AllOf n (map make xs)
all_of_map n make each xs ch has = let r = has_map make ch xs has in subst (λ z. changed_table z ≡ n) r.2 (each r.0)

unless_fault : (n : ℕ) (reply : Reply) (changes : List Change) → AllOf n changes → (o : Option Refusal) → OfTable n (or_refused (Changing reply changes) o)
unless_fault n reply changes all None = all
unless_fault n reply changes all (Some x) = tt

inserted_of : (columns : Option (List Name)) (found : Finished) (def : TableDef) → OfTable def.number (inserted columns found def)
inserted_of columns finished.Arithmetic def = tt
inserted_of columns (finished.Rows values) def =
    let rows = map (given_row def columns) values in
    unless_fault def.number (Inserted (length (map (change.Insert def.number) rows))) (map (change.Insert def.number) rows) (all_of_map def.number (change.Insert def.number) (λ row. refl) rows) (first (row_faults def rows))

updated_of : (sets : List SetItem) (met : List Combination) (def : TableDef) → OfTable def.number (updated sets met def)
updated_of sets met def = by (set_fails sets (met_rows def met))
  where
    changes : List Change
    changes = map (λ row. change.Update def.number row (after_set def sets row)) (met_rows def met)

    by : (b : Bool) → OfTable def.number (if b then Err Arithmetic else changed def (map (after_set def sets) (met_rows def met)) Updated changes)
    by true = tt
    by false = unless_fault def.number (Updated (length changes)) changes (all_of_map def.number (λ row. change.Update def.number row (after_set def sets row)) (λ row. refl) (met_rows def met))
        (first (row_faults def (map (after_set def sets) (met_rows def met))))

of_listing : (l : Listing) (what : Result Made Refusal) → OfTable l.def.number what → OfTarget (Some l) what
of_listing l (Err x) h = tt
of_listing l (Ok (Shown rows)) h = tt
of_listing l (Ok (Altering reply alteration)) h = tt
of_listing l (Ok (Changing reply changes)) h = (l, refl, h)

of_target : (target : Option Listing) (name : Name) (make : TableDef → Result Made Refusal) → ((def : TableDef) → OfTable def.number (make def)) → OfTarget target (with_target target name make)
of_target None name make each = tt
of_target (Some l) name make each = of_listing l (make l.def) (each l.def)

shown_of : (target : Option Listing) (found : Finished) → OfTarget target (shown found)
shown_of target finished.Arithmetic = tt
shown_of target (finished.Rows rows) = tt

made_of_target : (task : Task) (met : List Combination) (s : Statement) → OfTarget task.target (made_by task met s)
made_of_target task met (Insert table columns source) = of_target task.target table (inserted columns (rows_found task.plan source met)) (λ def. inserted_of columns (rows_found task.plan source met) def)
made_of_target task met (Update table sets filter) = of_target task.target table (updated sets met) (λ def. updated_of sets met def)
made_of_target task met (Delete table filter) = of_target task.target table (deleted met) (λ def. all_of_map def.number (change.Delete def.number) (λ row. refl) (met_rows def met))
made_of_target task met (Select q) = shown_of task.target (finish q (defs_of task.plan) met)
made_of_target task met (statement.CreateTable name elements) = tt
made_of_target task met (statement.CreateIndex name table columns) = tt
made_of_target task met (statement.DropTable name) = tt
made_of_target task met statement.Commit = tt
made_of_target task met statement.Checkpoint = tt
made_of_target task met statement.Rollback = tt
made_of_target task met (statement.RollbackTo name) = tt
made_of_target task met (statement.Savepoint name) = tt
made_of_target task met (statement.Release name) = tt
made_of_target task met (statement.SetLevel level) = tt
made_of_target task met (statement.SetBlocking on) = tt

number_is : (def : TableDef) (ch : Change) → (changed_row def ch).table ≡ changed_table ch
number_is def (change.Insert n row) = refl
number_is def (change.Update n old new) = refl
number_is def (change.Delete n old) = refl

-- ---- the change that is next

nothing_left : {A : Type 0} (n : ℕ) (x : A) (more : List A) → drop {A = A} n [] ≡ x ∷ more → ⊥
nothing_left zero x more e = cc
nothing_left (suc n) x more e = cc

has_left : {A : Type 0} (n : ℕ) (xs : List A) (x : A) (more : List A) → drop n xs ≡ x ∷ more → Has x xs
has_left n [] x more e = absurd (nothing_left n x more e)
has_left zero (y ∷ xs) x more e = let same : y ≡ x = cc in inl same
has_left (suc n) (y ∷ xs) x more e = inr (has_left n xs x more e)

next_of : (target : Option Listing) (made : List Change) (what : Result Made Refusal) (ch : Change) → OfTarget target what → made_next made what ≡ ToChange ch → (l : Listing) × (target ≡ Some l) × (changed_table ch ≡ l.def.number)
next_of target made (Err x) ch h e = cc
next_of target made (Ok (Shown rows)) ch h e = cc
next_of target made (Ok (Altering reply alteration)) ch h e = cc
next_of target made (Ok (Changing reply changes)) ch h e = by (drop (length made) changes) refl e
  where
    by : (left : List Change) → drop (length made) changes ≡ left → change_next reply left ≡ ToChange ch → (l : Listing) × (target ≡ Some l) × (changed_table ch ≡ l.def.number)
    by [] d k = cc
    by (x ∷ more) d k = let same : x ≡ ch = cc in (h.0, h.1, h.2 ch (subst (λ z. Has z changes) same (has_left (length made) changes x more d)))

target_known : (c : Catalog) → in_order c ≡ true → (s : Statement) (l : Listing) → target_of c s ≡ Some l → listing_at c l.def.number ≡ Some l
target_known c order (Insert table columns source) l e = known_by_number c table l order e
target_known c order (Update table sets filter) l e = known_by_number c table l order e
target_known c order (Delete table filter) l e = known_by_number c table l order e
target_known c order (Select q) l e = cc
target_known c order (statement.CreateTable name elements) l e = cc
target_known c order (statement.CreateIndex name table columns) l e = cc
target_known c order (statement.DropTable name) l e = cc
target_known c order statement.Commit l e = cc
target_known c order statement.Checkpoint l e = cc
target_known c order statement.Rollback l e = cc
target_known c order (statement.RollbackTo name) l e = cc
target_known c order (statement.Savepoint name) l e = cc
target_known c order (statement.Release name) l e = cc
target_known c order (statement.SetLevel level) l e = cc
target_known c order (statement.SetBlocking on) l e = cc

target_is : (c : Catalog) (s : Statement) → (task_of c s).target ≡ target_of c s
unfolding task_of
target_is c s = refl

module _ (c : Catalog) (s : Statement) (step : IsStepped s) (checked : IsChecked c s) (level : ℕ) (f : RowName → Option Row) (t : Tables) (is : IsOf c f t) (steps : List Granted) (run : Run) (rows : RowName → Option Row) (h : Drives c f level s steps run rows) (ch : Change) (n : next run ≡ ToChange ch) where
  abbrev visits : List (Item sql)
  visits = (recorded c f level s steps run rows h).visits

  abbrev k : IsStill c f s run visits
  k = still c s step checked level f t is steps run visits (recorded c f level s steps run rows h).leads

  abbrev x : NextChange run ch
  x = next_change run ch k.under_way.made n

  pub next_fits : change_fits c ch ≡ true
  next_fits = (and_parts (change_fits c ch) (list_all (change_fits c) x.left) (fit_parts c s step checked run visits k.under_way f t is k.alone run.made (ch ∷ x.left) (all_fit c s step checked run visits k.under_way f t is k.alone ch x)).1).0

  pub next_stands : (row : Row) → row_before ch ≡ Some row → rows (row_changed c ch) ≡ Some row
  next_stands row before =
      ap (λ (g : RowName → Option Row). g (row_changed c ch)) (recorded c f level s steps run rows h).seen ∙ stands_if_old c s step checked run visits k.under_way f t is k.alone ch n row before

  -- its row, in the table that is written
  pub record HasTarget : Type 0 where
    pub listing : Listing
    pub target : run.task.target ≡ Some listing
    pub stands : listing_at c (row_changed c ch).table ≡ Some listing
    pub row : row_changed c ch ≡ changed_row listing.def ch

  pub next_target : HasTarget
  next_target =
      let d : IsDone run (ToChange ch) = done_change run ch n in
      let r = next_of run.task.target run.made (made_by run.task d.at.met run.task.statement) ch (made_of_target run.task d.at.met run.task.statement) d.is in
      let named : target_of c s ≡ Some r.0 = sym (target_is c s) ∙ (ap (λ (z : Task). z.target) (sym k.under_way.task) ∙ r.1) in
      let known : listing_at c r.0.def.number ≡ Some r.0 = target_known c (order_ok c f t is) s r.0 named in
      let here : listing_at c (changed_table ch) ≡ Some r.0 = ap (listing_at c) r.2 ∙ known in
      let row : row_changed c ch ≡ changed_row r.0.def ch = named_by c ch r.0.def (ap (option_map (λ (l : Listing). l.def)) here) in
      record { listing = r.0; target = r.1; stands = ap (λ (z : RowName). listing_at c z.table) row ∙ (ap (listing_at c) (number_is r.0.def ch) ∙ here); row = row }

-- What holds of each answer with its acts, and so of every meaning.
use Rattle.std.proofs.Common.{◌≡◌, ℕ, Bool, true, false, cond, List, [], map, length, Option, Some, None, Result, Ok, Err, refl, ap, ◌∙◌}
use Rattle.std.specs.Option.{option_map_or}
use Rattle.std.proofs.lemmas.List.{length-map}
use Rattle.wat_value.specs.declared.definition.TableDef.{TableDef}
use Rattle.wat_value.specs.declared.change.Act.{Act}
use Rattle.wat_value.specs.declared.change.Act.TheVariants.{OnRow}
use Rattle.wat_value.specs.declared.change.Change.{Change}
use Rattle.wat_value.specs.declared.change.Change.TheVariants as change
use Rattle.wat_ast.specs.declared.query.Query.{Query}
use Rattle.wat_ast.specs.declared.statement.SetItem.{SetItem}
use Rattle.wat_ast.specs.declared.statement.Statement.{Statement}
use Rattle.wat_ast.specs.declared.statement.Statement.TheVariants.{CreateTable, CreateIndex, DropTable, Insert, Update, Delete, Select}
use Rattle.wat_schema.specs.declared.refusal.Refusal.{Refusal}
use Rattle.wat_schema.specs.declared.refusal.Refusal.TheVariants.{NoTable, Arithmetic}
use Rattle.wat_schema.specs.Catalog.{Name, Catalog}
use Rattle.wat_schema.specs.Tables.{Tables, catalog_of}
use Rattle.wat_names.specs.Refusals.{first, or_refused}
use Rattle.wat_rules.specs.Check.{check, refusals}
use Rattle.wat_names.specs.Places.{placed_statement}
use Rattle.wat_expr.specs.Evaluation.{Combination}
use Rattle.wat_group.specs.declared.answer.Finished.{Finished}
use Rattle.wat_group.specs.declared.answer.Finished.TheVariants as finished
use Rattle.wat_group.specs.Query.{Row}
use Rattle.wat_meaning.specs.declared.reply.Meaning.{Meaning}
use Rattle.wat_meaning.specs.declared.reply.Reply.{Reply}
use Rattle.wat_meaning.specs.declared.reply.Reply.TheVariants.{Rows, Inserted, Updated, Deleted, Created, Dropped, Refused}
use Rattle.wat_meaning.specs.Meaning.{refusal_meaning, unless_refused, all_refusals, Made, Made.Changing, def_called, row_faults, changed, given_row, inserted, source_answer, met_rows, set_fails, after_set, updated, deleted, answer, shown, made, done, met, made_of, done_of, meaning_checked, after_check, meaning}
use Rattle.wat_meaning.specs.Standing.{rows_counted}

abbrev pub with_acts : Reply → List Act → Meaning
with_acts reply acts = record { answer = reply; acts = acts }

-- What holds of each of these holds of every meaning.
record Ways (P : Meaning → Type 0) : Type 0 where
  refused : (refusal : Refusal) → P (refusal_meaning refusal)
  rows : (rows : List Row) → P (with_acts (Rows rows) [])
  inserted : (changes : List Change) → P (with_acts (Inserted (length changes)) (map OnRow changes))
  updated : (changes : List Change) → P (with_acts (Updated (length changes)) (map OnRow changes))
  deleted : (changes : List Change) → P (with_acts (Deleted (length changes)) (map OnRow changes))
  created : (acts : List Act) → P (with_acts Created acts)
  dropped : (acts : List Act) → P (with_acts Dropped acts)

module _ (P : Meaning → Type 0) (ways : Ways P) (t : Tables) where
  unless_way : (refusal : Option Refusal) (m : Meaning) → P m → P (unless_refused refusal m)
  unless_way None m h = h
  unless_way (Some refusal) m h = ways.refused refusal

  changing_way : (reply : Reply) (changes : List Change) → P (with_acts reply (map OnRow changes)) → P (done t (Changing reply changes))
  unfolding done
  changing_way reply changes h = unless_way (first (all_refusals t changes)) (with_acts reply (map OnRow changes)) h

  refused_way : (refusal : Option Refusal) (m : Made) → P (done t m) → P (done_of t (or_refused m refusal))
  refused_way None m h = h
  refused_way (Some refusal) m h = ways.refused refusal

  changed_way : (def : TableDef) (rows : List Row) (reply : ℕ → Reply) (changes : List Change) → P (with_acts (reply (length changes)) (map OnRow changes)) → P (done_of t (changed def rows reply changes))
  changed_way def rows reply changes h = refused_way (first (row_faults def rows)) (Changing (reply (length changes)) changes) (changing_way (reply (length changes)) changes h)

  if_way : (b : Bool) (m n : Result Made Refusal) → P (done_of t m) → P (done_of t n) → P (done_of t (cond b m n))
  if_way true m n p q = p
  if_way false m n p q = q

  inserted_way : (columns : Option (List Name)) (found : Finished) (def : TableDef) → P (done_of t (inserted columns found def))
  inserted_way columns finished.Arithmetic def = ways.refused Arithmetic
  inserted_way columns (finished.Rows values) def =
      let rows = map (given_row def columns) values in
      let changes = map (change.Insert def.number) rows in
      changed_way def rows Inserted changes (ways.inserted changes)

  updated_way : (sets : List SetItem) (rows : List Combination) (def : TableDef) → P (done_of t (updated sets rows def))
  updated_way sets rows def =
      let found = met_rows def rows in
      let changes = map (λ row. change.Update def.number row (after_set def sets row)) found in
      let all = changed def (map (after_set def sets) found) Updated changes in
      if_way (set_fails sets found) (Err Arithmetic) all (ways.refused Arithmetic) (changed_way def (map (after_set def sets) found) Updated changes (ways.updated changes))

  deleted_way : (rows : List Combination) (def : TableDef) → P (done_of t (deleted rows def))
  deleted_way rows def = let changes = map (change.Delete def.number) (met_rows def rows) in changed_way def [] Deleted changes (ways.deleted changes)

  called_way : (name : Name) (make : TableDef → Result Made Refusal) (def : Option TableDef) → ((d : TableDef) → P (done_of t (make d))) → P (done_of t (option_map_or make def (Err (NoTable name))))
  called_way name make None each = ways.refused (NoTable name)
  called_way name make (Some d) each = each d

  shown_way : (found : Finished) → P (done_of t (shown found))
  unfolding done
  shown_way finished.Arithmetic = ways.refused Arithmetic
  shown_way (finished.Rows rows) = ways.rows rows

  made_way : (c : Catalog) (s : Statement) (rows : List Combination) → P (done_of t (made c s rows))
  unfolding made done
  made_way c (CreateTable name elements) rows = ways.created _
  made_way c (CreateIndex name table columns) rows = ways.created _
  made_way c (DropTable name) rows = ways.dropped _
  made_way c (Insert table columns source) rows = called_way table (inserted columns (source_answer c source rows)) (def_called c table) (inserted_way columns (source_answer c source rows))
  made_way c (Update table sets filter) rows = called_way table (updated sets rows) (def_called c table) (updated_way sets rows)
  made_way c (Delete table filter) rows = called_way table (deleted rows) (def_called c table) (deleted_way rows)
  made_way c (Select q) rows = shown_way (answer c q rows)
  made_way c s rows = ways.rows []

  met_way : (c : Catalog) (s : Statement) (rows : Option (List Combination)) → P (done_of t (made_of c s rows))
  met_way c s None = ways.refused Arithmetic
  met_way c s (Some rows) = made_way c s rows

  checked_way : (s : Statement) → P (meaning_checked t s)
  unfolding meaning_checked
  checked_way s = met_way (catalog_of t) s (met t s)

  after_way : (checked : Result Statement Refusal) → P (after_check t checked)
  after_way (Err refusal) = ways.refused refusal
  after_way (Ok s) = checked_way s

  every_way : (s : Statement) → P (meaning t s)
  unfolding meaning
  every_way s = after_way (check (catalog_of t) s)

-- ---- refused statements and queries make no acts

abbrev IsInert : Meaning → Type 0
IsInert m = (refusal : Refusal) → m.answer ≡ Refused refusal → m.acts ≡ []

other_reply : (reply : Reply) (acts : List Act) → ((refusal : Refusal) → ¬ (reply ≡ Refused refusal)) → IsInert (with_acts reply acts)
other_reply reply acts other refusal e = absurd (other refusal e)

inert_ways : Ways IsInert
inert_ways = record {
  refused = λ refusal r e. refl;
  rows = λ rows. other_reply (Rows rows) [] (λ r e. cc);
  inserted = λ changes. other_reply (Inserted (length changes)) (map OnRow changes) (λ r e. cc);
  updated = λ changes. other_reply (Updated (length changes)) (map OnRow changes) (λ r e. cc);
  deleted = λ changes. other_reply (Deleted (length changes)) (map OnRow changes) (λ r e. cc);
  created = λ acts. other_reply Created acts (λ r e. cc);
  dropped = λ acts. other_reply Dropped acts (λ r e. cc);
}

pub refused_is_inert : (t : Tables) (s : Statement) → IsInert (meaning t s)
refused_is_inert t s = every_way IsInert inert_ways t s

shows_nothing : (t : Tables) (found : Finished) → (done_of t (shown found)).acts ≡ []
unfolding done
shows_nothing t finished.Arithmetic = refl
shows_nothing t (finished.Rows rows) = refl

selects_nothing : (t : Tables) (c : Catalog) (q : Query) (rows : Option (List Combination)) → (done_of t (made_of c (Select q) rows)).acts ≡ []
unfolding made
selects_nothing t c q None = refl
selects_nothing t c q (Some rows) = shows_nothing t (answer c q rows)

pub select_is_inert : (t : Tables) (q : Query) → (meaning t (Select q)).acts ≡ []
unfolding meaning check meaning_checked
select_is_inert t q = go (first (refusals (catalog_of t) (Select q)))
  where
    go : (refusal : Option Refusal) → (after_check t (or_refused (placed_statement (catalog_of t) (Select q)) refusal)).acts ≡ []
    go None = selects_nothing t (catalog_of t) _ _
    go (Some refusal) = refl

-- ---- the reply counts the acts

abbrev IsCounted : Meaning → Type 0
IsCounted m = (n : ℕ) → rows_counted m.answer ≡ Some n → length m.acts ≡ n

changes_counted : (changes : List Change) (n : ℕ) → Some (length changes) ≡ Some n → length (map OnRow changes) ≡ n
changes_counted changes n e = length-map changes OnRow ∙ (let is : length changes ≡ n = cc in is)

counted_ways : Ways IsCounted
counted_ways = record {
  refused = λ refusal n e. cc;
  rows = λ rows n e. cc;
  inserted = changes_counted;
  updated = changes_counted;
  deleted = changes_counted;
  created = λ acts n e. cc;
  dropped = λ acts n e. cc;
}

pub acts_counted : (t : Tables) (s : Statement) → IsCounted (meaning t s)
acts_counted t s = every_way IsCounted counted_ways t s

-- ---- what the checks say comes first

pub check_is_first : (t : Tables) (s : Statement) (refusal : Refusal) → check (catalog_of t) s ≡ Err refusal → meaning t s ≡ refusal_meaning refusal
unfolding meaning
check_is_first t s refusal e = ap (after_check t) e

pub check_lets_through : (t : Tables) (s placed : Statement) → check (catalog_of t) s ≡ Ok placed → meaning t s ≡ meaning_checked t placed
unfolding meaning
check_lets_through t s placed e = ap (after_check t) e

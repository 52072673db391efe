-- The next change of a statement is ready, at every level: it is formed, and its row is now as it finds it.
use Rattle.std.proofs.Common.{◌≡◌, Bool, true, false, ◌&&◌, if◌then◌else◌, List, [], ◌∷◌, ◌++◌, length, map, Option, Some, None, Ok, Err, refl, sym, ap, ◌∙◌, subst, inl, inr, ⊎_elim}
use Rattle.std.specs.List.{list_all}
use Rattle.std.specs.Option.{option_map, option_map_or}
use Rattle.std.specs.Ordering.{is_lt}
use Rattle.std.proofs.lemmas.Bool.{and_parts, and_from, both_ways}
use Rattle.std.proofs.lemmas.List.{append-nil}
use Rattle.wat_list.specs.Has.{Has, IsOnce}
use Rattle.wat_list.specs.Rising.{rising}
use Rattle.wat_list.proofs.Members.{has_map, has_right, all_has}
use Rattle.wat_value.specs.declared.value.Value.{Value}
use Rattle.wat_value.specs.declared.definition.TableDef.{TableDef}
use Rattle.wat_value.specs.declared.change.Change.{Change}
use Rattle.wat_value.specs.declared.change.Change.TheVariants as change
use Rattle.wat_value.specs.Changes.{RowName, row_name, changed_table, row_before}
use Rattle.wat_value.specs.Fits.{fits, key_of}
use Rattle.wat_value.specs.OrderLaws.{key_cmp_refl}
use Rattle.wat_ast.specs.declared.statement.SetItem.{SetItem}
use Rattle.wat_ast.specs.declared.statement.Statement.{Statement}
use Rattle.wat_ast.specs.declared.statement.Statement.TheVariants as s
use Rattle.wat_schema.specs.declared.refusal.Refusal.{Refusal}
use Rattle.wat_schema.specs.declared.refusal.Refusal.TheVariants.{Arithmetic}
use Rattle.wat_schema.specs.Catalog.{Catalog, Listing, Name, in_order, listing_at, listing_named}
use Rattle.wat_schema.specs.Tables.{Row, row_eq, inverse, by_key}
use Rattle.wat_schema.proofs.Found.{known_by_number}
use Rattle.wat_schema.proofs.TableLaws.{itself, equal}
use Rattle.wat_names.specs.Refusals.{first, or_refused}
use Rattle.wat_expr.specs.Evaluation.{Combination}
use Rattle.wat_group.specs.declared.answer.Finished.{Finished}
use Rattle.wat_group.specs.declared.answer.Finished.TheVariants as finished
use Rattle.wat_group.specs.Query.{finish, in_key_order, keys_at}
use Rattle.wat_meaning.specs.declared.reply.Reply.{Reply}
use Rattle.wat_meaning.specs.declared.reply.Reply.TheVariants.{Updated, Inserted, Deleted}
use Rattle.wat_meaning.specs.Meaning.{Made.Changing, row_faults, changed, given_row, inserted, updated, deleted, scanned, set_fails, after_set, met_rows, sole_row, shown, made, source_defs}
use Rattle.wat_meaning.specs.Standing.{combination_fits, change_fits, scanned_defs}
use Rattle.wat_meaning.proofs.MadeFits.{made_fits}
use Rattle.wat_plan.specs.Plans.{plan_of}
use Rattle.wat_scans.specs.Look.{look}
use Rattle.wat_scans.specs.Running.{Task, task_of, Run, Next.ToChange, next, rows_found, with_target, made_by, row_changed, defs_of, no_plan}
use Rattle.wat_scans.proofs.Found.{rows_fit}
use Rattle.wat_scans.proofs.Going.{NextChange, next_change}
use Rattle.wat_scans.proofs.Meant.{defs_are, made_is}
use Rattle.wat_steps.specs.State.{CoreState, schema_of}
use Rattle.wat_steps.specs.Visiting.{writes_rows}
use Rattle.wat_tied.specs.Ready.{IsReadyFor}
use Rattle.wat_tied.specs.Tied.{IsUnchanged, IsAimedAt, AreAims, HasMet, HasMetSo, MeetsWith, IsGoing, Ghost, Ties}
use Rattle.wat_tied.proofs.Keys as keys
use Rattle.wat_tied.proofs.Rise.{sorted_has, sort_rises, rise_mapped, map_same}

-- the inverse of a change that fits, and whose row stands and fits, fits
pub inverse_fits : (c : Catalog) (ch : Change) → change_fits c ch ≡ true → ((l : Listing) (row : Row) → listing_at c (changed_table ch) ≡ Some l → row_before ch ≡ Some row → fits l.def row ≡ true) → change_fits c (inverse ch) ≡ true
inverse_fits c (change.Insert n row) fit old = let at = keys.formed_listing c (change.Insert n row) fit in ap (λ o. option_map_or (λ def. true) (option_map (λ (z : Listing). z.def) o) false) at.1
inverse_fits c (change.Update n before after) fit old =
    let at = keys.formed_listing c (change.Update n before after) fit in
    let def : TableDef = at.0.def in
    let both : (row_eq (key_of def before) (key_of def after) && fits def after) ≡ true = sym (ap (λ o. option_map_or (λ d. row_eq (key_of d before) (key_of d after) && fits d after) (option_map (λ (z : Listing). z.def) o) false) at.1) ∙ fit in
    let same : key_of def before ≡ key_of def after = equal (key_of def before) (key_of def after) (and_parts (row_eq (key_of def before) (key_of def after)) (fits def after) both).0 in
    ap (λ o. option_map_or (λ d. row_eq (key_of d after) (key_of d before) && fits d before) (option_map (λ (z : Listing). z.def) o) false) at.1
    ∙ and_from (row_eq (key_of def after) (key_of def before)) (fits def before) (ap (row_eq (key_of def after)) same ∙ itself (key_of def after)) (old at.0 before at.1 refl)
inverse_fits c (change.Delete n before) fit old =
    let at = keys.formed_listing c (change.Delete n before) fit in ap (λ o. option_map_or (λ d. fits d before) (option_map (λ (z : Listing). z.def) o) false) at.1 ∙ old at.0 before at.1 refl

-- the changes that are made where nothing is refused
changing_is : (reply other : Reply) (cs changes : List Change) (o : Option Refusal) → or_refused (Changing reply cs) o ≡ Ok (Changing other changes) → cs ≡ changes
changing_is reply other cs changes None h = cc
changing_is reply other cs changes (Some x) h = absurd (cc)

-- ---- what an UPDATE or DELETE makes of the rows that it met

-- one change of each row, in key order
pub record IsOfRows (c : Catalog) (x : Statement) (met : List Combination) (changes : List Change) : Type 0 where
  pub l : Listing
  pub at : listing_at c l.def.number ≡ Some l
  pub sources : (task_of c x).plan.sources ≡ l ∷ []
  pub writes : writes_rows x ≡ true
  pub make : Row → Change
  pub before : (r : Row) → row_before (make r) ≡ Some r
  pub called : (r : Row) → row_changed c (make r) ≡ row_name l.def r
  pub are : map make (met_rows l.def met) ≡ changes

module _ (c : Catalog) (order : in_order c ≡ true) (met : List Combination) (reply : Reply) (changes : List Change) (ch : Change) (among : Has ch changes) (row : Row) (old : row_before ch ≡ Some row) where
  update_one : (table : Name) (sets : List SetItem) (filter : _) (o : Option Listing) → listing_named c table ≡ o → with_target o table (updated sets met) ≡ Ok (Changing reply changes) → IsOfRows c (s.Update table sets filter) met changes
  unfolding task_of plan_of
  update_one table sets filter None e h = absurd (cc)
  update_one table sets filter (Some l) e h = by (set_fails sets (met_rows l.def met)) h
    where
      at : listing_at c l.def.number ≡ Some l
      at = known_by_number c table l order e

      make : Row → Change
      make r = change.Update l.def.number r (after_set l.def sets r)

      all : List Change
      all = map (λ r. change.Update l.def.number r (after_set l.def sets r)) (met_rows l.def met)

      by : (b : Bool) → (if b then Err Arithmetic else changed l.def (map (after_set l.def sets) (met_rows l.def met)) Updated all) ≡ Ok (Changing reply changes) → IsOfRows c (s.Update table sets filter) met changes
      by true k = absurd (cc)
      by false k = record {
        l = l;
        at = at;
        sources = ap (λ o. Rattle.std.specs.List.cons_option o []) e;
        writes = refl;
        make = make;
        before = λ r. refl;
        called = λ r. keys.name c l (change.Update l.def.number r (after_set l.def sets r)) at;
        are = changing_is (Updated (length all)) reply all changes (first (row_faults l.def (map (after_set l.def sets) (met_rows l.def met)))) k;
      }

  delete_one : (table : Name) (filter : _) (o : Option Listing) → listing_named c table ≡ o → with_target o table (deleted met) ≡ Ok (Changing reply changes) → IsOfRows c (s.Delete table filter) met changes
  unfolding task_of plan_of
  delete_one table filter None e h = absurd (cc)
  delete_one table filter (Some l) e h =
      let at : listing_at c l.def.number ≡ Some l = known_by_number c table l order e in
      let all : List Change = map (change.Delete l.def.number) (met_rows l.def met) in
      record {
        l = l;
        at = at;
        sources = ap (λ o. Rattle.std.specs.List.cons_option o []) e;
        writes = refl;
        make = change.Delete l.def.number;
        before = λ r. refl;
        called = λ r. keys.name c l (change.Delete l.def.number r) at;
        are = changing_is (Deleted (length all)) reply all changes (first (row_faults l.def [])) h;
      }

  insert_none : (table : Name) (columns : Option (List Name)) (rows : Finished) (o : Option Listing) → with_target o table (inserted columns rows) ≡ Ok (Changing reply changes) → ⊥
  insert_none table columns rows None h = cc
  insert_none table columns finished.Arithmetic (Some l) h = cc
  insert_none table columns (finished.Rows values) (Some l) h =
      let given : List Row = map (given_row l.def columns) values in
      let all : List Change = map (change.Insert l.def.number) given in
      let are : all ≡ changes = changing_is (Inserted (length all)) reply all changes (first (row_faults l.def given)) h in
      let of = has_map (change.Insert l.def.number) ch given (subst (Has ch) (sym are) among) in
      let no : ◌≡◌ {A = Option Row} None (Some row) = ap row_before of.2 ∙ old in cc

  select_none : (rows : Finished) → shown rows ≡ Ok (Changing reply changes) → ⊥
  select_none finished.Arithmetic h = cc
  select_none (finished.Rows rows) h = cc

  pub of_rows : (x : Statement) → made_by (task_of c x) met x ≡ Ok (Changing reply changes) → IsOfRows c x met changes
  unfolding task_of plan_of
  of_rows (s.Insert table columns source) h = absurd (insert_none table columns (rows_found (task_of c (s.Insert table columns source)).plan source met) (listing_named c table) h)
  of_rows (s.Update table sets filter) h = update_one table sets filter (listing_named c table) refl h
  of_rows (s.Delete table filter) h = delete_one table filter (listing_named c table) refl h
  of_rows (s.Select q) h = absurd (select_none (finish q (defs_of (task_of c (s.Select q)).plan) met) h)
  of_rows (s.CreateTable name elements) h = absurd (cc)
  of_rows (s.CreateIndex name table columns) h = absurd (cc)
  of_rows (s.DropTable name) h = absurd (cc)
  of_rows s.Commit h = absurd (cc)
  of_rows s.Rollback h = absurd (cc)
  of_rows s.Checkpoint h = absurd (cc)
  of_rows (s.Savepoint name) h = absurd (cc)
  of_rows (s.RollbackTo name) h = absurd (cc)
  of_rows (s.Release name) h = absurd (cc)
  of_rows (s.SetLevel level) h = absurd (cc)
  of_rows (s.SetBlocking on) h = absurd (cc)

-- ---- they rise

sole_key : (def : TableDef) (row : Row) → keys_at (def ∷ []) (Some row ∷ []) ≡ key_of def row
sole_key def row = append-nil (key_of def row)

-- the rows of combinations of one row each, each row once, in key order
pub rows_rise : (def : TableDef) (met : List Combination) → ((d : Combination) → Has d met → (row : Row) × (d ≡ Some row ∷ [])) → IsOnce (map (λ d. key_of def (sole_row d)) met) → rising (by_key def) (met_rows def met) ≡ true
rows_rise def met each once =
    let k : Combination → List Value = keys_at (def ∷ []) in
    let same : (d : Combination) → Has d met → keys_at (def ∷ []) d ≡ key_of def (sole_row d) = λ d m. let r = each d m in subst (λ z. keys_at (def ∷ []) z ≡ key_of def (sole_row z)) (sym r.1) (sole_key def r.0) in
    rise_mapped (keys_at (def ∷ [])) (key_of def) sole_row (in_key_order (def ∷ []) met) (λ d m. same d (sorted_has (keys_at (def ∷ [])) d met m))
    (sort_rises (keys_at (def ∷ [])) met (subst IsOnce (sym (map_same (keys_at (def ∷ [])) (λ d. key_of def (sole_row d)) met same)) once))

-- what comes earlier in a list that rises is not the same
not_earlier : (def : TableDef) (make : Row → Change) → ((r : Row) → row_before (make r) ≡ Some r) → (rows : List Row) (made left : List Change) (ch : Change) (row : Row) → row_before ch ≡ Some row → rising (by_key def) rows ≡ true
    → map make rows ≡ made ++ ch ∷ left → IsUnchanged made row
not_earlier def make before rows [] left ch row old up are x has o = has
not_earlier def make before [] (y ∷ made) left ch row old up are x has o = absurd (cc)
not_earlier def make before (r ∷ rows) (y ∷ made) left ch row old up are x has o =
    let p = and_parts (list_all (λ other. is_lt (by_key def r other)) rows) (rising (by_key def) rows) up in
    let head : make r ≡ y = cc in
    let rest : map make rows ≡ made ++ ch ∷ left = cc in
    ⊎_elim
    (λ (e : y ≡ x).
    let both : Some r ≡ Some row = sym (before r) ∙ (ap row_before (head ∙ e) ∙ o) in
    let same : r ≡ row = cc in
    let of = has_map make ch rows (subst (Has ch) (sym rest) (has_right ch made (ch ∷ left) (inl refl))) in
    let that : Some of.0 ≡ Some row = sym (before of.0) ∙ (ap row_before of.2 ∙ old) in
    let again : of.0 ≡ row = cc in
    both_ways (is_lt (by_key def row row)) (ap is_lt (key_cmp_refl (key_of def row))) (subst (λ z. is_lt (by_key def z row) ≡ true) same (subst (λ z. is_lt (by_key def r z) ≡ true) again (all_has (λ other. is_lt (by_key def r other)) of.0 rows p.0 of.1))))
    (λ (n : Has x made). not_earlier def make before rows made left ch row old p.1 rest x n o)
    has

-- ---- the rows that were met fit

all_met : (defs : List TableDef) (met : List Combination) → ((d : Combination) → Has d met → combination_fits defs d ≡ true) → list_all (combination_fits defs) met ≡ true
all_met defs [] each = refl
all_met defs (d ∷ ds) each = and_from (combination_fits defs d) (list_all (combination_fits defs) ds) (each d (inl refl)) (all_met defs ds (λ x m. each x (inr m)))

defs_scanned : (c : Catalog) → in_order c ≡ true → (x : Statement) → defs_of (task_of c x).plan ≡ scanned_defs c x
unfolding task_of
defs_scanned c order x = by (scanned x)
  where
    by : (o : Option _) → defs_of (option_map_or (plan_of c) o no_plan) ≡ option_map_or (source_defs c) o []
    by None = refl
    by (Some q) = defs_are c order q

statement_of : (c : Catalog) (x : Statement) → (task_of c x).statement ≡ x
unfolding task_of
statement_of c x = refl

module _ (e : CoreState) (g : Ghost) (ties : Ties e g) (c : _) (run : Run) (was : IsGoing (schema_of e) (e.connections c) run (g.work c)) (meets : MeetsWith g.state c (Some run)) (ch : Change) (coming : next run ≡ ToChange ch) where
  abbrev cat : Catalog
  cat = schema_of e

  abbrev r : RowName
  r = row_changed cat ch

  n : NextChange run ch
  n = next_change run ch was.going.made coming

  met : HasMet g.state c run n.at
  met = subst (HasMetSo g.state c run) n.progress meets

  are : made_by (task_of cat was.statement) n.at.met was.statement ≡ Ok (Changing n.reply (run.made ++ ch ∷ n.left))
  are = ap (made_by (task_of cat was.statement) n.at.met) (sym (statement_of cat was.statement)) ∙ (ap (λ (z : Task). made_by z n.at.met z.statement) (sym was.going.task) ∙ n.are)

  module _ (row : Row) (old : row_before ch ≡ Some row) where
    o : IsOfRows cat was.statement n.at.met (run.made ++ ch ∷ n.left)
    o = of_rows cat ties.schema.order n.at.met n.reply (run.made ++ ch ∷ n.left) ch (has_right ch run.made (ch ∷ n.left) (inl refl)) row old was.statement are

    aims : AreAims g.state c run.task.plan o.l run.made n.at
    aims = met.aims (ap (λ (z : Task). writes_rows z.statement) was.going.task ∙ (ap writes_rows (statement_of cat was.statement) ∙ o.writes)) o.l (ap (λ (z : Task). z.plan.sources) was.going.task ∙ o.sources)

    of : (q : Row) × Has q (met_rows o.l.def n.at.met) × (o.make q ≡ ch)
    of = has_map o.make ch (met_rows o.l.def n.at.met) (subst (Has ch) (sym o.are) (has_right ch run.made (ch ∷ n.left) (inl refl)))

    is_row : of.0 ≡ row
    is_row = let both : Some of.0 ≡ Some row = sym (o.before of.0) ∙ (ap row_before of.2 ∙ old) in cc

    name : r ≡ row_name o.l.def row
    name = ap (row_changed cat) (sym of.2) ∙ (o.called of.0 ∙ ap (row_name o.l.def) is_row)

    aimed : (q : Combination) × Has q n.at.met × (sole_row q ≡ row)
    aimed =
        let d = has_map sole_row of.0 (in_key_order (o.l.def ∷ []) n.at.met) of.1 in
        (d.0, sorted_has (keys_at (o.l.def ∷ [])) d.0 n.at.met d.1, d.2 ∙ is_row)

    aim : IsAimedAt g.state c o.l run.made row
    aim =
        let x = aims.each aimed.0 aimed.1 in
        let same : x.0 ≡ row = ap sole_row (sym x.1) ∙ aimed.2 in
        subst (IsAimedAt g.state c o.l run.made) same x.2

    unchanged : IsUnchanged run.made row
    unchanged = not_earlier o.l.def o.make o.before (met_rows o.l.def n.at.met) run.made n.left ch row old
        (rows_rise o.l.def n.at.met (λ d m. let x = aims.each d m in (x.0, x.1)) aims.once) o.are

    pub row_now : look e.now r ≡ Some row
    row_now = ties.relates.now.rows r ∙ (ap g.state.now name ∙ aim.stands unchanged)

  fits_all : list_all (change_fits cat) (run.made ++ ch ∷ n.left) ≡ true
  fits_all = made_fits cat was.written was.statement n.at.met n.reply (run.made ++ ch ∷ n.left) ties.schema was.checked
      (all_met (scanned_defs cat was.statement) n.at.met
      (λ d m. subst (λ defs. combination_fits defs d ≡ true) (ap (λ (z : Task). defs_of z.plan) was.going.task ∙ defs_scanned cat ties.schema.order was.statement) (met.meeting.met d m)))
      (sym (made_is cat ties.schema.order was.statement was.stepped n.at.met) ∙ are)

  split_fits : (xs ys : List Change) → list_all (change_fits cat) (xs ++ ys) ≡ true → list_all (change_fits cat) ys ≡ true
  split_fits [] ys h = h
  split_fits (x ∷ xs) ys h = split_fits xs ys (and_parts (change_fits cat x) (list_all (change_fits cat) (xs ++ ys)) h).1

  fits_after : change_fits cat ch ≡ true
  fits_after = (and_parts (change_fits cat ch) (list_all (change_fits cat) n.left) (split_fits run.made (ch ∷ n.left) fits_all)).0

  pub ready_now : IsReadyFor e ch
  ready_now = record {
    formed = record {
      after = fits_after;
      before = inverse_fits cat ch fits_after (λ l row listing old.
          (rows_fit cat g.state.now e.now ties.relates.now r l row (ap (listing_at cat) (keys.of_table cat l ch listing) ∙ listing) (sym (ties.relates.now.rows r) ∙ row_now row old)).0);
    };
    stands = row_now;
  }

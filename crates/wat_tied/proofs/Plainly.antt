-- What a statement under way is answered is plain, at every level: each change is of a row that WHERE passes, each row once, in key order.
use Rattle.std.proofs.Common.{◌≡◌, ℕ, Bool, true, false, if◌then◌else◌, List, [], ◌∷◌, ◌++◌, length, drop, map, Option, Some, None, Result, Ok, Err, refl, sym, ap, ◌∙◌, subst, append-nil}
use Rattle.std.specs.List.{list_all, cons_option}
use Rattle.std.specs.Option.{option_map, option_and_then}
use Rattle.std.proofs.lemmas.Bool.{and_from}
use Rattle.wat_list.specs.Has.{Has}
use Rattle.wat_list.proofs.Members.{has_map}
use Rattle.wat_value.specs.declared.definition.TableDef.{TableDef}
use Rattle.wat_value.specs.declared.change.Act.TheVariants.{OnRow}
use Rattle.wat_value.specs.declared.change.Change.{Change}
use Rattle.wat_value.specs.declared.change.Change.TheVariants as change
use Rattle.wat_ast.specs.declared.expression.Expr.{Expr}
use Rattle.wat_ast.specs.declared.statement.InsertSource.{InsertSource}
use Rattle.wat_ast.specs.declared.statement.InsertSource.TheVariants as from
use Rattle.wat_ast.specs.declared.statement.SetItem.{SetItem}
use Rattle.wat_ast.specs.declared.statement.Statement.{Statement}
use Rattle.wat_ast.specs.declared.statement.Statement.TheVariants as s
use Rattle.wat_schema.specs.declared.refusal.Refusal.{Refusal}
use Rattle.wat_schema.specs.declared.refusal.Refusal.TheVariants.{Arithmetic}
use Rattle.wat_schema.specs.Catalog.{Catalog, Listing, Name, def_at, in_order, listing_named}
use Rattle.wat_schema.specs.Tables.{Row, by_key, rising}
use Rattle.wat_schema.proofs.Found.{known_by_number}
use Rattle.wat_names.specs.Refusals.{first, or_refused}
use Rattle.wat_rules.specs.Check.{check}
use Rattle.wat_expr.specs.Evaluation.{Combination}
use Rattle.wat_group.specs.declared.answer.Finished.{Finished}
use Rattle.wat_group.specs.declared.answer.Finished.TheVariants as finished
use Rattle.wat_group.specs.Query.{finish, in_key_order, keys_at}
use Rattle.wat_meaning.specs.declared.reply.Reply.{Reply}
use Rattle.wat_meaning.specs.declared.reply.Reply.TheVariants as meant
use Rattle.wat_meaning.specs.Meaning.{Made, Made.Shown, Made.Changing, Made.Altering, alone, passes, row_faults, changed, given_row, inserted, updated, deleted, set_fails, after_set, met_rows, sole_row, shown, made, def_called}
use Rattle.wat_plan.specs.Plans.{plan_of}
use Rattle.wat_history.specs.Connection.{Part}
use Rattle.wat_history.specs.Plain.{ArePlain, target, IsPlainChange, IsPlainAnswer, Plain}
use Rattle.wat_scans.specs.Recorded.{AllPass}
use Rattle.wat_scans.specs.Running.{Task, task_of, Run, Next.ToReply, change_next, made_next, next, rows_found, with_target, made_by, defs_of}
use Rattle.wat_scans.specs.Told.{IsStepped}
use Rattle.wat_scans.proofs.Going.{IsDone, done_reply, front_is, dropped}
use Rattle.wat_scans.proofs.Meant.{made_is}
use Rattle.wat_steps.specs.State.{CoreState, schema_of}
use Rattle.wat_steps.specs.Answering.{entry_at}
use Rattle.wat_steps.specs.Statements.{answer_saying}
use Rattle.wat_steps.specs.Visiting.{writes_rows}
use Rattle.wat_tied.specs.Tied.{AreAims, HasMet, HasMetSo, MeetsWith, IsGoing, Ghost, Ties}
use Rattle.wat_tied.proofs.Readied.{rows_rise}
use Rattle.wat_tied.proofs.Replies.{never_altering}
use Rattle.wat_tied.proofs.Rise.{sorted_has}

mapped_twice : {A B C : Type 0} (f : B → C) (g : A → B) (xs : List A) → map f (map g xs) ≡ map (λ x. f (g x)) xs
mapped_twice f g [] = refl
mapped_twice f g (x ∷ xs) = ap (λ z. f (g x) ∷ z) (mapped_twice f g xs)

mapped_long : {A B : Type 0} (f : A → B) (xs : List A) → length (map f xs) ≡ length xs
mapped_long f [] = refl
mapped_long f (x ∷ xs) = ap Rattle.std.proofs.Common.suc (mapped_long f xs)

all_from : {A : Type 0} (p : A → Bool) (xs : List A) → ((x : A) → Has x xs → p x ≡ true) → list_all p xs ≡ true
all_from p [] each = refl
all_from p (x ∷ xs) each = and_from (p x) (list_all p xs) (each x (Rattle.std.proofs.Common.inl refl)) (all_from p xs (λ y m. each y (Rattle.std.proofs.Common.inr m)))

-- what is made where nothing is refused
record IsChanging (reply other : Reply) (cs changes : List Change) : Type 0 where
  reply_is : reply ≡ other
  changes_are : cs ≡ changes

changing_is : (reply other : Reply) (cs changes : List Change) (o : Option Refusal) → or_refused (Changing reply cs) o ≡ Ok (Changing other changes) → IsChanging reply other cs changes
changing_is reply other cs changes None h = record { reply_is = cc; changes_are = cc }
changing_is reply other cs changes (Some x) h = absurd (cc)

-- the rows of an UPDATE or DELETE, as it met them
record AreRows (l : Listing) (filter : Option Expr) (met : List Combination) : Type 0 where
  pass : list_all (λ row. passes filter (alone row)) (met_rows l.def met) ≡ true
  rise : rising (by_key l.def) (met_rows l.def met) ≡ true

-- the count that a reply tells
abbrev CountIs : Reply → ℕ → Type 0
CountIs (meant.Inserted n) m = n ≡ m
CountIs (meant.Updated n) m = n ≡ m
CountIs (meant.Deleted n) m = n ≡ m
CountIs (meant.Rows rows) m = Unit {0}
CountIs meant.Created m = Unit {0}
CountIs meant.Dropped m = Unit {0}
CountIs (meant.Refused x) m = Unit {0}

-- what a statement made, and says of it
record IsPlainMade (c : Catalog) (x : Statement) (reply : Reply) (changes : List Change) : Type 0 where
  def : TableDef
  stands : target c x ≡ Some def
  acts : ArePlain c x def (map OnRow changes)
  counted : CountIs reply (length changes)

-- what is known of the rows that were met
record HasRows (l : Listing) (met : List Combination) : Type 0 where
  each : (d : Combination) → Has d met → (row : Row) × (d ≡ Some row ∷ [])
  once : Rattle.wat_list.specs.Has.IsOnce (map (λ d. Rattle.wat_value.specs.Fits.key_of l.def (sole_row d)) met)

module _ (c : Catalog) (order : in_order c ≡ true) (met : List Combination) (reply : Reply) (changes : List Change) where
  called : (name : Name) (l : Listing) → listing_named c name ≡ Some l → def_called c name ≡ Some l.def
  called name l e = ap (λ o. option_and_then (def_at c) (option_map (λ (z : Listing). z.def.number) o)) e ∙ ap (option_map (λ (z : Listing). z.def)) (known_by_number c name l order e)

  rows_are : (l : Listing) (filter : Option Expr) → HasRows l met → ((d : Combination) → Has d met → passes filter d ≡ true) → AreRows l filter met
  rows_are l filter k pass = record {
    pass = all_from (λ row. passes filter (alone row)) (met_rows l.def met) (λ row m.
        let d = has_map sole_row row (in_key_order (l.def ∷ []) met) m in
        let among : Has d.0 met = sorted_has (keys_at (l.def ∷ [])) d.0 met d.1 in
        let one = k.each d.0 among in
        subst (λ z. passes filter z ≡ true) (one.1 ∙ ap alone (ap sole_row (sym one.1) ∙ d.2)) (pass d.0 among));
    rise = rows_rise l.def met k.each k.once;
  }

  update_plain : (table : Name) (sets : List SetItem) (filter : Option Expr) (o : Option Listing) → listing_named c table ≡ o → ((l : Listing) → listing_named c table ≡ Some l → AreRows l filter met)
      → with_target o table (updated sets met) ≡ Ok (Changing reply changes) → IsPlainMade c (s.Update table sets filter) reply changes
  update_plain table sets filter None e rows h = absurd (cc)
  update_plain table sets filter (Some l) e rows h = by (set_fails sets (met_rows l.def met)) h
    where
      all : List Change
      all = map (λ r. change.Update l.def.number r (after_set l.def sets r)) (met_rows l.def met)

      by : (b : Bool) → (if b then Err Arithmetic else changed l.def (map (after_set l.def sets) (met_rows l.def met)) meant.Updated all) ≡ Ok (Changing reply changes) → IsPlainMade c (s.Update table sets filter) reply changes
      by true k = absurd (cc)
      by false k =
          let i = changing_is (meant.Updated (length all)) reply all changes (first (row_faults l.def (map (after_set l.def sets) (met_rows l.def met)))) k in
          let r = rows l e in
          record {
            def = l.def;
            stands = called table l e;
            acts = (met_rows l.def met, r.pass, r.rise, ap (map OnRow) (sym i.changes_are) ∙ mapped_twice OnRow (λ row. change.Update l.def.number row (after_set l.def sets row)) (met_rows l.def met));
            counted = subst (λ z. CountIs z (length changes)) i.reply_is (ap length i.changes_are);
          }

  delete_plain : (table : Name) (filter : Option Expr) (o : Option Listing) → listing_named c table ≡ o → ((l : Listing) → listing_named c table ≡ Some l → AreRows l filter met)
      → with_target o table (deleted met) ≡ Ok (Changing reply changes) → IsPlainMade c (s.Delete table filter) reply changes
  delete_plain table filter None e rows h = absurd (cc)
  delete_plain table filter (Some l) e rows h =
      let all : List Change = map (change.Delete l.def.number) (met_rows l.def met) in
      let i = changing_is (meant.Deleted (length all)) reply all changes (first (row_faults l.def [])) h in
      let r = rows l e in
      record {
        def = l.def;
        stands = called table l e;
        acts = (met_rows l.def met, r.pass, r.rise, ap (map OnRow) (sym i.changes_are) ∙ mapped_twice OnRow (change.Delete l.def.number) (met_rows l.def met));
        counted = subst (λ z. CountIs z (length changes)) i.reply_is (ap length i.changes_are);
      }

  insert_acts : (table : Name) (columns : Option (List Name)) (source : InsertSource) (l : Listing) (values : List Row) → map (change.Insert l.def.number) (map (given_row l.def columns) values) ≡ changes
      → made c (s.Insert table columns source) met ≡ Ok (Changing reply changes) → ArePlain c (s.Insert table columns source) l.def (map OnRow changes)
  unfolding made
  insert_acts table columns (from.Values exprs) l values are whole = (reply, changes, whole, refl)
  insert_acts table columns (from.Answer q) l values are whole =
      (map (given_row l.def columns) values, ap (map OnRow) (sym are) ∙ mapped_twice OnRow (change.Insert l.def.number) (map (given_row l.def columns) values))

  insert_plain : (table : Name) (columns : Option (List Name)) (source : InsertSource) (rows : Finished) (o : Option Listing) → listing_named c table ≡ o → with_target o table (inserted columns rows) ≡ Ok (Changing reply changes)
      → made c (s.Insert table columns source) met ≡ Ok (Changing reply changes) → IsPlainMade c (s.Insert table columns source) reply changes
  insert_plain table columns source rows None e h whole = absurd (cc)
  insert_plain table columns source finished.Arithmetic (Some l) e h whole = absurd (cc)
  insert_plain table columns source (finished.Rows values) (Some l) e h whole =
      let given : List Row = map (given_row l.def columns) values in
      let all : List Change = map (change.Insert l.def.number) given in
      let i = changing_is (meant.Inserted (length all)) reply all changes (first (row_faults l.def given)) h in
      record {
        def = l.def;
        stands = called table l e;
        acts = insert_acts table columns source l values i.changes_are whole;
        counted = subst (λ z. CountIs z (length changes)) i.reply_is (ap length i.changes_are);
      }

  select_none : (rows : Finished) → shown rows ≡ Ok (Changing reply changes) → ⊥
  select_none finished.Arithmetic h = cc
  select_none (finished.Rows rows) h = cc

  made_plain : (x : Statement) → IsStepped x → (writes_rows x ≡ true → (l : Listing) → (task_of c x).plan.sources ≡ l ∷ [] → HasRows l met) → AllPass (task_of c x).plan met
      → made_by (task_of c x) met x ≡ Ok (Changing reply changes) → IsPlainMade c x reply changes
  unfolding task_of plan_of
  made_plain (s.Insert table columns source) step rows pass h =
      insert_plain table columns source (rows_found (task_of c (s.Insert table columns source)).plan source met) (listing_named c table) refl h (sym (made_is c order (s.Insert table columns source) tt met) ∙ h)
  made_plain (s.Update table sets filter) step rows pass h = update_plain table sets filter (listing_named c table) refl (λ l e. rows_are l filter (rows refl l (ap (λ o. cons_option o []) e)) pass) h
  made_plain (s.Delete table filter) step rows pass h = delete_plain table filter (listing_named c table) refl (λ l e. rows_are l filter (rows refl l (ap (λ o. cons_option o []) e)) pass) h
  made_plain (s.Select q) step rows pass h = absurd (select_none (finish q (defs_of (task_of c (s.Select q)).plan) met) h)
  made_plain (s.CreateTable name elements) step rows pass h = absurd step
  made_plain (s.CreateIndex name table columns) step rows pass h = absurd step
  made_plain (s.DropTable name) step rows pass h = absurd step
  made_plain s.Commit step rows pass h = absurd step
  made_plain s.Rollback step rows pass h = absurd step
  made_plain s.Checkpoint step rows pass h = absurd step
  made_plain (s.Savepoint name) step rows pass h = absurd step
  made_plain (s.RollbackTo name) step rows pass h = absurd step
  made_plain (s.Release name) step rows pass h = absurd step
  made_plain (s.SetLevel level) step rows pass h = absurd step
  made_plain (s.SetBlocking on) step rows pass h = absurd step

-- ---- the answer

module _ (c : Catalog) (p : Part) (written x : Statement) (read : p.read ≡ Ok written) (checked : check c written ≡ Ok x) (changes : List Change) (acts : p.entry.acts ≡ map OnRow changes) where
  plain_change : (reply : Reply) (m : IsPlainMade c x reply changes) (count : ℕ) → count ≡ length changes → IsPlainChange c p count
  plain_change reply m count is = record {
    asked = written;
    read = read;
    placed = x;
    checked = checked;
    def = m.def;
    stands = m.stands;
    acts = subst (ArePlain c x m.def) (sym acts) m.acts;
    counted = ap length acts ∙ (mapped_long OnRow changes ∙ sym is);
  }

  plain_answer : (reply : Reply) → IsPlainMade c x reply changes → IsPlainAnswer c p (answer_saying 0 reply)
  plain_answer (meant.Rows rows) m = tt
  plain_answer (meant.Inserted n) m = plain_change (meant.Inserted n) m n m.counted
  plain_answer (meant.Updated n) m = plain_change (meant.Updated n) m n m.counted
  plain_answer (meant.Deleted n) m = plain_change (meant.Deleted n) m n m.counted
  plain_answer meant.Created m = tt
  plain_answer meant.Dropped m = tt
  plain_answer (meant.Refused y) m = tt

statement_of : (c : Catalog) (x : Statement) → (task_of c x).statement ≡ x
unfolding task_of
statement_of c x = refl

module _ (e : CoreState) (g : Ghost) (ties : Ties e g) (c : ℕ) (run : Run) (was : IsGoing (schema_of e) (e.connections c) run (g.work c)) (meets : MeetsWith g.state c (Some run)) (r : Reply) (coming : next run ≡ ToReply r) where
  abbrev cat : Catalog
  cat = schema_of e

  abbrev p : Part
  p = record { read = Rattle.wat_parse.specs.Parsing.parsed_at (e.connections c).script was.span; entry = entry_at was.span (e.connections c).level (answer_saying 0 r) (map OnRow run.made) }

  d : IsDone run (ToReply r)
  d = done_reply run r coming

  met : HasMet g.state c run d.at
  met = subst (HasMetSo g.state c run) d.progress meets

  rows : writes_rows was.statement ≡ true → (l : Listing) → (task_of cat was.statement).plan.sources ≡ l ∷ [] → HasRows l d.at.met
  rows writes l sources =
      let a : AreAims g.state c run.task.plan l run.made d.at = met.aims (ap (λ (z : Task). writes_rows z.statement) was.going.task ∙ (ap writes_rows (statement_of cat was.statement) ∙ writes)) l (ap (λ (z : Task). z.plan.sources) was.going.task ∙ sources) in
      record { each = λ q m. let x = a.each q m in (x.0, x.1); once = a.once }

  last : (reply : Reply) (changes rest left : List Change) → changes ≡ run.made ++ rest → rest ≡ left → change_next reply left ≡ ToReply r → IsChanging reply r changes run.made
  last reply changes rest [] split e j = record { reply_is = cc; changes_are = split ∙ (ap (λ z. run.made ++ z) e ∙ append-nil run.made) }
  last reply changes rest (x ∷ left) split e j = absurd (cc)

  by_made : (o : Result Made Refusal) → made_by run.task d.at.met run.task.statement ≡ o → made_next run.made o ≡ ToReply r → IsPlainAnswer cat p (answer_saying 0 r)
  by_made (Err x) e j = absurd (cc)
  by_made (Ok (Shown shown_rows)) e j = let same : meant.Rows shown_rows ≡ r = cc in subst (λ z. IsPlainAnswer cat p (answer_saying 0 z)) same tt
  by_made (Ok (Altering reply alteration)) e j = absurd (no run.task d.at.met run.task.statement e)
    where
      no : (task : Task) (m : List Combination) (x : Statement) → made_by task m x ≡ Ok (Altering reply alteration) → ⊥
      no task m x h = never_altering task m x reply alteration h
  by_made (Ok (Changing reply changes)) e j =
      let f = front_is run (ToReply r) was.going.made d reply changes e in
      let i = last reply changes f.0 (drop (length run.made) changes) f.1 (sym (dropped run.made f.0) ∙ ap (drop (length run.made)) (sym f.1)) j in
      let are : made_by (task_of cat was.statement) d.at.met was.statement ≡ Ok (Changing r run.made) =
      ap (made_by (task_of cat was.statement) d.at.met) (sym (statement_of cat was.statement)) ∙ (ap (λ (z : Task). made_by z d.at.met z.statement) (sym was.going.task) ∙ (e ∙ λ k. Ok (Changing (i.reply_is k) (i.changes_are k)))) in
      plain_answer cat p was.written was.statement was.read was.checked run.made refl r
      (made_plain cat ties.schema.order d.at.met r run.made was.statement was.stepped rows (subst (λ (z : Task). AllPass z.plan d.at.met) was.going.task met.passes) are)

  pub reply_is_plain : (least : ℕ) → Plain least cat p
  reply_is_plain least low = by_made (made_by run.task d.at.met run.task.statement) refl d.is

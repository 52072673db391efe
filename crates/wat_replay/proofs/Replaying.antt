-- Undoing all lists of a state gives the tables that the records before it have committed.
use Rattle.std.proofs.Common.{◌≡◌, ◌≢◌, ℕ, zero, suc, ◌<◌, ◌==◌, ◌&&◌, true, false, not, List, [], ◌∷◌, ◌++◌, take, drop, map, Option, Some, None, IsSome, refl, sym, ap, ◌∙◌, subst, inl, inr, if◌then◌else◌}
use Rattle.std.specs.Option.{option_and_then}
use Rattle.std.proofs.lemmas.Bool.{and_parts, and_from, or_parts, or_from, not-true, eq-eqb, eqb-true, ne_eqb, cases_Bool}
use Rattle.std.proofs.lemmas.List.{take-append-drop}
use Rattle.wat_value.specs.declared.definition.TableDef.{TableDef}
use Rattle.wat_value.specs.declared.change.Change.{Change}
use Rattle.wat_value.specs.declared.change.Change.TheVariants.{Insert, Update, Delete}
use Rattle.wat_value.specs.Changes.{changed_table}
use Rattle.wat_value.specs.Order.{key_eq}
use Rattle.wat_value.specs.declared.change.Act.{Act}
use Rattle.wat_value.specs.declared.change.Act.TheVariants.{OnRow, OnSchema}
use Rattle.wat_schema.specs.Catalog.{Catalog, def_at}
use Rattle.wat_schema.specs.Tables.{IsTables, Tables, no_tables, are_tables, apply, apply_all, apply_change, catalog_of, inverse}
use Rattle.wat_schema.proofs.TableLaws.{inverse_gives_back, change_keeps, act_keeps, itself, equal}
use Rattle.wat_replay.proofs.Moves.{Moves, Leads, TakesBack, ApartFrom, AllApart}
use Rattle.wat_replay.proofs.Sliding.{good_after, leads_once, leads_append, leads_split, moved, stayed, comes_last, backs, leads_back, apart_append, apart_backs, apart_front, apart_rest, apart_of_front, EachApart, apart_more}
use Rattle.wat_schema.specs.Changes.{are_of_one_row, have_one_key, changed_key}
use Rattle.wat_schema.proofs.Changing.{schema_stays, swap, inverse_of_row}
use Rattle.wat_schema.proofs.Database.{acts_hold, in_their_order, no_tables_hold}
use Rattle.wat_log_record.specs.declared.log_record.LogRecord.{LogRecord}
use Rattle.wat_log_record.specs.declared.log_record.LogRecord.TheVariants.{Changed, UndoTo, Commit, Rollback, Schema}
use Rattle.wat_replay.specs.State.{State, Lists, no_lists, empty_state, with_list, undo, undo_below, connections, undone, changes_row_of, are_apart, IsLawful}
use Rattle.wat_replay.specs.Replay.{lists_after, Allows, Applies, AppliesAll, Replays}
use Rattle.wat_replay.specs.Committed.{commits, commits_of, committed}

-- ---- changes of rows are such changes

pub twice : (change : Change) → inverse (inverse change) ≡ change
twice (Insert table row) = refl
twice (Update table before after) = refl
twice (Delete table before) = refl

key_sym : (o : Option TableDef) (a b : Change) → have_one_key o a b ≡ false → have_one_key o b a ≡ false
key_sym None a b h = refl
key_sym (Some def) a b h = elim (cases_Bool (key_eq (changed_key def b) (changed_key def a))) [
  | inl one ↦ absurd (let no : true ≡ false = sym (itself (changed_key def b)) ∙ ap (λ k. key_eq k (changed_key def b)) (equal (changed_key def b) (changed_key def a) one) ∙ h in cc)
  | inr two ↦ two
]

one_row_sym : (c : Catalog) (a b : Change) → are_of_one_row c a b ≡ false → are_of_one_row c b a ≡ false
one_row_sym c a b apart = elim (cases_Bool (changed_table b == changed_table a)) [
  | inr other ↦ ap (λ v. v && have_one_key (def_at c (changed_table b)) b a) other
  | inl one_table ↦
      let same : changed_table b ≡ changed_table a = eqb-true (changed_table b) (changed_table a) one_table in
      let ab : (changed_table a == changed_table b) ≡ true = eq-eqb (changed_table a) (changed_table b) (sym same) in
      let keys : have_one_key (def_at c (changed_table a)) a b ≡ false = sym (ap (λ v. v && have_one_key (def_at c (changed_table a)) a b) ab) ∙ apart in
      ap (λ v. v && have_one_key (def_at c (changed_table b)) b a) one_table ∙ ap (λ n. have_one_key (def_at c n) b a) same
      ∙ key_sym (def_at c (changed_table a)) a b keys
]

-- the inverse of a change that applies is of the same row
pub inverse_apart : (c : Catalog) (a b : Change) (t u : Tables) → (are_tables t ≡ true) × (catalog_of t ≡ c) → apply_change a t ≡ Some u → are_of_one_row c b a ≡ false → are_of_one_row c b (inverse a) ≡ false
inverse_apart c a b t u good h apart =
    ap (λ d. are_of_one_row d b (inverse a)) (sym good.1) ∙ inverse_of_row a b t u good.0 h ∙ ap (λ d. are_of_one_row d b a) good.1 ∙ apart

abbrev pub changes_of : Catalog → Moves Tables Change
changes_of c = record {
  made = apply_change;
  back = inverse;
  Good = λ t. (are_tables t ≡ true) × (catalog_of t ≡ c);
  Apart = λ a b. are_of_one_row c a b ≡ false;
  keeps = λ change t u good h. (change_keeps change t u good.0 h, schema_stays change t u good.0 h ∙ good.1);
  returns = λ change t u good h. inverse_gives_back change t u good.0 h;
  twice = twice;
  apart_back = λ a b. inverse_apart c a b;
  swaps = swap c;
}

-- ---- undoing as taking back

module _ (c : Catalog) where
  abbrev Good : Tables → Type 0
  Good t = (are_tables t ≡ true) × (catalog_of t ≡ c)

  pub record Undoing (changes : List Change) (t u : Tables) : Type 0 where
    pub good : Good u
    pub leads : Leads (changes_of c) changes u t

  pub undoing : (changes : List Change) (t u : Tables) → Good t → undo changes t ≡ Some u → Undoing changes t u
  undoing [] t u good h = let same : t ≡ u = cc in record { good = subst Good same good; leads = sym same }
  undoing (change ∷ changes) t u good h = by (λ v e. undoing changes t v good e) (undo changes t) refl h
    where
      by : ((v : Tables) → undo changes t ≡ Some v → Undoing changes t v) → (o : Option Tables) → undo changes t ≡ o
          → option_and_then (apply_change (inverse change)) o ≡ Some u → Undoing (change ∷ changes) t u
      by again None e h = absurd (let no : None ≡ Some u = h in cc)
      by again (Some v) e h =
          let rest = again v e in
          let m = changes_of c in
          let made : apply_change (inverse change) v ≡ Some u = h in
          let back : apply_change change u ≡ Some v = ap (λ x. apply_change x u) (sym (m.twice change)) ∙ m.returns (inverse change) v u rest.good made in
          record { good = m.keeps (inverse change) v u rest.good made; leads = (v, back, rest.leads) }

  pub undoes : (changes : List Change) (t u : Tables) → Good u → Leads (changes_of c) changes u t → undo changes t ≡ Some u
  undoes [] t u good leads = ap Some (sym leads)
  undoes (change ∷ changes) t u good leads =
      let m = changes_of c in
      ap (option_and_then (apply_change (inverse change))) (undoes changes t leads.0 (m.keeps change u leads.0 good leads.1) leads.2)
      ∙ m.returns change u leads.0 good leads.1

  pub record Back (lists : Lists) (n : ℕ) (t u : Tables) : Type 0 where
    pub good : Good u
    pub back : TakesBack (changes_of c) lists n t u

  pub below_takes : (lists : Lists) (n : ℕ) (t u : Tables) → Good t → undo_below n lists t ≡ Some u → Back lists n t u
  below_takes lists zero t u good h = let same : t ≡ u = cc in record { good = subst Good same good; back = same }
  below_takes lists (suc n) t u good h = by (λ v e. below_takes lists n t v good e) (undo_below n lists t) refl h
    where
      by : ((v : Tables) → undo_below n lists t ≡ Some v → Back lists n t v) → (o : Option Tables) → undo_below n lists t ≡ o
          → option_and_then (undo (lists n)) o ≡ Some u → Back lists (suc n) t u
      by again None e h = absurd (let no : None ≡ Some u = h in cc)
      by again (Some v) e h =
          let rest = again v e in
          let last = undoing (lists n) v u rest.good h in
          record { good = last.good; back = (v, rest.back, last.good, last.leads) }

  pub takes_below : (lists : Lists) (n : ℕ) (t u : Tables) → TakesBack (changes_of c) lists n t u → undo_below n lists t ≡ Some u
  takes_below lists zero t u back = ap Some back
  takes_below lists (suc n) t u back = ap (option_and_then (undo (lists n))) (takes_below lists n t back.0 back.1) ∙ undoes (lists n) back.0 u back.2 back.3

  -- ---- apart

  not_of : (x y : Change) → ApartFrom (changes_of c) x (y ∷ []) → are_of_one_row c x y ≡ false
  not_of x y a = one_row_sym c y x a.0

  from_any : (x : Change) (ys : List Change) → changes_row_of c x ys ≡ false → ApartFrom (changes_of c) x ys
  from_any x [] h = tt
  from_any x (y ∷ ys) h = let parts = or_parts (are_of_one_row c x y) (changes_row_of c x ys) h in (one_row_sym c x y parts.0, from_any x ys parts.1)

  to_any : (x : Change) (ys : List Change) → ApartFrom (changes_of c) x ys → changes_row_of c x ys ≡ false
  to_any x [] a = refl
  to_any x (y ∷ ys) a = or_from (are_of_one_row c x y) (changes_row_of c x ys) (one_row_sym c y x a.0) (to_any x ys a.1)

  each_from : (ys : List Change) (x : Change) → changes_row_of c x ys ≡ false → EachApart (changes_of c) ys x
  each_from [] x h = tt
  each_from (y ∷ ys) x h = let parts = or_parts (are_of_one_row c x y) (changes_row_of c x ys) h in (parts.0, each_from ys x parts.1)

  pub from_apart : (xs ys : List Change) → are_apart c xs ys ≡ true → AllApart (changes_of c) xs ys
  from_apart [] ys h = tt
  from_apart (x ∷ xs) ys h =
      let parts = and_parts (not (changes_row_of c x ys)) (are_apart c xs ys) h in
      (from_any x ys (not-true (changes_row_of c x ys) parts.0), from_apart xs ys parts.1)

  pub to_apart : (xs ys : List Change) → AllApart (changes_of c) xs ys → are_apart c xs ys ≡ true
  to_apart [] ys a = refl
  to_apart (x ∷ xs) ys a = and_from (not (changes_row_of c x ys)) (are_apart c xs ys) (ap not (to_any x ys a.0)) (to_apart xs ys a.1)

  none_apart : (xs : List Change) → AllApart (changes_of c) xs []
  none_apart [] = tt
  none_apart (x ∷ xs) = (tt, none_apart xs)

  acts_lead : (changes : List Change) (t u : Tables) → Leads (changes_of c) changes t u → apply_all (map OnRow changes) t ≡ Some u
  acts_lead [] t u leads = ap Some leads
  acts_lead (change ∷ changes) t u leads = ap (option_and_then (apply_all (map OnRow changes))) leads.1 ∙ acts_lead changes leads.0 u leads.2

-- ---- one list in the place of another

here : (conn : ℕ) (list : List Change) (lists : Lists) → with_list conn list lists conn ≡ list
here conn list lists = ap (λ b. if b then list else lists conn) (eq-eqb conn conn refl)

there : (conn : ℕ) (list : List Change) (lists : Lists) (other : ℕ) → other ≢ conn → with_list conn list lists other ≡ lists other
there conn list lists other not_it = ap (λ b. if b then list else lists other) (ne_eqb conn other (λ e. not_it (sym e)))

-- What one record more does.
pub record Stepped (entry : LogRecord) (s next : State) (u : Tables) : Type 0 where
  pub tables : are_tables next.tables ≡ true
  pub apart : (a b : ℕ) → a ≢ b → are_apart (catalog_of next.tables) (next.lists a) (next.lists b) ≡ true
  pub after : Tables
  pub undone : undone next ≡ Some after
  pub commits : apply_all (commits entry s.lists) u ≡ Some after

module _ (s : State) (u : Tables) (tables : are_tables s.tables ≡ true)
    (apart : (a b : ℕ) → a ≢ b → are_apart (catalog_of s.tables) (s.lists a) (s.lists b) ≡ true) (undoes_to : undone s ≡ Some u) where
  abbrev c : Catalog
  c = catalog_of s.tables

  abbrev m : Moves Tables Change
  m = changes_of c

  all_back : Back c s.lists connections s.tables u
  all_back = below_takes c s.lists connections s.tables u (tables, refl) undoes_to

  all_apart : (a b : ℕ) → a ≢ b → AllApart m (s.lists a) (s.lists b)
  all_apart a b not_one = from_apart c (s.lists a) (s.lists b) (apart a b not_one)

  -- a list of one connection becomes another, which is as apart from the lists of the others
  still_apart : (conn : ℕ) (list : List Change) → ((other : ℕ) → other ≢ conn → AllApart m list (s.lists other)) → ((other : ℕ) → other ≢ conn → AllApart m (s.lists other) list)
      → (a b : ℕ) → a ≢ b → AllApart m (with_list conn list s.lists a) (with_list conn list s.lists b)
  still_apart conn list of_others to_others a b not_one = elim (cases_Bool (conn == a)) [
    | inl is_a ↦
        let same : a ≡ conn = sym (eqb-true conn a is_a) in
        let not_b : b ≢ conn = λ e. not_one (same ∙ sym e) in
        subst (λ xs. AllApart m xs (with_list conn list s.lists b)) (sym (ap (with_list conn list s.lists) same ∙ here conn list s.lists))
        (subst (AllApart m list) (sym (there conn list s.lists b not_b)) (of_others b not_b))
    | inr not_a ↦
        let other_a : a ≢ conn = λ e. let no : true ≡ false = sym (eq-eqb conn a (sym e)) ∙ not_a in cc in
        subst (λ xs. AllApart m xs (with_list conn list s.lists b)) (sym (there conn list s.lists a other_a)) (elim (cases_Bool (conn == b)) [
          | inl is_b ↦
              let same : b ≡ conn = sym (eqb-true conn b is_b) in
              subst (AllApart m (s.lists a)) (sym (ap (with_list conn list s.lists) same ∙ here conn list s.lists)) (to_others a other_a)
          | inr not_b ↦
              let other_b : b ≢ conn = λ e. let no : true ≡ false = sym (eq-eqb conn b (sym e)) ∙ not_b in cc in
              subst (AllApart m (s.lists a)) (sym (there conn list s.lists b other_b)) (all_apart a b not_one)
        ])
  ]

  record Goes (conn : ℕ) (list : List Change) (t : Tables) : Type 0 where
    tables_stay : (are_tables t ≡ true) × (catalog_of t ≡ c)
    lists_apart : (a b : ℕ) → a ≢ b → are_apart (catalog_of t) (with_list conn list s.lists a) (with_list conn list s.lists b) ≡ true
    undone_to : undo_below connections (with_list conn list s.lists) t ≡ Some u

  changed : (conn : ℕ) (change : Change) (t : Tables) → conn < connections → Allows s (Changed conn change) → apply_change change s.tables ≡ Some t
      → Goes conn (s.lists conn ++ change ∷ []) t
  changed conn change t known allowed made = record {
    tables_stay = (change_keeps change s.tables t tables made, same);
    lists_apart = λ a b not_one. ap (λ d. are_apart d (with_list conn (s.lists conn ++ change ∷ []) s.lists a) (with_list conn (s.lists conn ++ change ∷ []) s.lists b)) same
        ∙ to_apart c (with_list conn (s.lists conn ++ change ∷ []) s.lists a) (with_list conn (s.lists conn ++ change ∷ []) s.lists b)
        (still_apart conn (s.lists conn ++ change ∷ [])
        (λ other not_it. apart_append m (s.lists conn) (change ∷ []) (s.lists other) (all_apart conn other (λ e. not_it (sym e))) (from_any c change (s.lists other) (allowed other not_it), tt))
        (λ other not_it. apart_more m (s.lists other) (s.lists conn) change (all_apart other conn not_it) (each_from c (s.lists other) change (allowed other not_it)))
        a b not_one);
    undone_to = takes_below c (with_list conn (s.lists conn ++ change ∷ []) s.lists) connections t u
        (moved m conn s.lists (with_list conn (s.lists conn ++ change ∷ []) s.lists) (there conn (s.lists conn ++ change ∷ []) s.lists) (change ∷ [])
        (λ other not_it. (from_any c change (s.lists other) (allowed other not_it), tt))
        (λ w v v2 good before more. subst (λ xs. Leads m xs w v2) (sym (here conn (s.lists conn ++ change ∷ []) s.lists)) (leads_append m (s.lists conn) (change ∷ []) w v v2 before more))
        connections s.tables u t known all_back.back (t, made, refl));
  }
    where
      same : catalog_of t ≡ catalog_of s.tables
      same = schema_stays change s.tables t tables made

  cut_back : (conn : ℕ) (kept cut : List Change) (t : Tables) → conn < connections → s.lists conn ≡ kept ++ cut → undo cut s.tables ≡ Some t → Goes conn kept t
  cut_back conn kept cut t known parts taken = record {
    tables_stay = un.good;
    lists_apart = λ a b not_one. ap (λ d. are_apart d (with_list conn kept s.lists a) (with_list conn kept s.lists b)) un.good.1
        ∙ to_apart c (with_list conn kept s.lists a) (with_list conn kept s.lists b)
        (still_apart conn kept
        (λ other not_it. apart_front m kept cut (s.lists other) (of_other other not_it))
        (λ other not_it. apart_of_front m (s.lists other) kept cut (subst (AllApart m (s.lists other)) parts (all_apart other conn not_it)))
        a b not_one);
    undone_to = takes_below c (with_list conn kept s.lists) connections t u
        (moved m conn s.lists (with_list conn kept s.lists) (there conn kept s.lists) (backs m cut)
        (λ other not_it. apart_backs m cut (s.lists other) t s.tables un.good un.leads (apart_rest m kept cut (s.lists other) (of_other other not_it)))
        (λ w v v2 good before more.
        let split = leads_split m kept cut w v (subst (λ xs. Leads m xs w v) parts before) in
        let kept_good = good_after m kept w split.0 good split.1 in
        let again : v2 ≡ split.0 = leads_once m (backs m cut) v v2 split.0 more (leads_back m cut split.0 v kept_good split.2) in
        subst (λ xs. Leads m xs w v2) (sym (here conn kept s.lists)) (subst (Leads m kept w) (sym again) split.1))
        connections s.tables u t known all_back.back (leads_back m cut t s.tables un.good un.leads));
  }
    where
      un : Undoing c cut s.tables t
      un = undoing c cut s.tables t (tables, refl) taken

      of_other : (other : ℕ) → other ≢ conn → AllApart m (kept ++ cut) (s.lists other)
      of_other other not_it = subst (λ xs. AllApart m xs (s.lists other)) parts (all_apart conn other (λ e. not_it (sym e)))

  record Commits (conn : ℕ) (t : Tables) : Type 0 where
    lists_apart : (a b : ℕ) → a ≢ b → are_apart c (with_list conn [] s.lists a) (with_list conn [] s.lists b) ≡ true
    undone_to : undo_below connections (with_list conn [] s.lists) s.tables ≡ Some t
    acts : apply_all (map OnRow (s.lists conn)) u ≡ Some t

  committing : (conn : ℕ) → conn < connections → (t : Tables) × Commits conn t
  committing conn known =
      let st = stayed m conn s.lists (with_list conn [] s.lists) (there conn [] s.lists) (λ other not_it. all_apart conn other (λ e. not_it (sym e))) (here conn [] s.lists)
      connections s.tables u known all_back.back in (
        st.0,
        record {
          lists_apart = λ a b not_one. to_apart c (with_list conn [] s.lists a) (with_list conn [] s.lists b)
              (still_apart conn [] (λ other not_it. tt) (λ other not_it. none_apart c (s.lists other)) a b not_one);
          undone_to = takes_below c (with_list conn [] s.lists) connections s.tables st.0 st.2;
          acts = acts_lead c (s.lists conn) u st.0 st.1;
        },
      )

  -- with no list at all
  none_undone : (n : ℕ) (lists : Lists) (t : Tables) → ((conn : ℕ) → lists conn ≡ []) → undo_below n lists t ≡ Some t
  none_undone zero lists t none = refl
  none_undone (suc n) lists t none = ap (option_and_then (undo (lists n))) (none_undone n lists t none) ∙ ap (λ xs. undo xs t) (none n)

  goes : (entry : LogRecord) (next : State) (conn : ℕ) (list : List Change) → Goes conn list next.tables → next.lists ≡ with_list conn list s.lists → commits entry s.lists ≡ [] → Stepped entry s next u
  goes entry next conn list g same nothing = record {
    tables = g.tables_stay.0;
    apart = subst (λ ls. (a b : ℕ) → a ≢ b → are_apart (catalog_of next.tables) (ls a) (ls b) ≡ true) (sym same) g.lists_apart;
    after = u;
    undone = ap (λ ls. undo_below connections ls next.tables) same ∙ g.undone_to;
    commits = ap (λ acts. apply_all acts u) nothing;
  }

  one_more : (entry : LogRecord) (next : State) → Applies entry s next → Stepped entry s next u
  one_more (Changed conn change) next a = goes (Changed conn change) next conn (s.lists conn ++ change ∷ []) (changed conn change next.tables a.conn a.allowed a.tables) a.lists refl
  one_more (UndoTo conn count) next a =
      goes (UndoTo conn count) next conn (take count (s.lists conn))
      (cut_back conn (take count (s.lists conn)) (drop count (s.lists conn)) next.tables a.conn (sym (take-append-drop count (s.lists conn))) a.tables) a.lists refl
  one_more (Rollback conn) next a = goes (Rollback conn) next conn [] (cut_back conn [] (s.lists conn) next.tables a.conn refl a.tables) a.lists refl
  one_more (Commit conn) next a =
      let d = committing conn a.conn in
      let same : s.tables ≡ next.tables = (let e : Some s.tables ≡ Some next.tables = a.tables in cc) in
      record {
        tables = ap are_tables (sym same) ∙ tables;
        apart = subst (λ ls. (x y : ℕ) → x ≢ y → are_apart (catalog_of next.tables) (ls x) (ls y) ≡ true) (sym a.lists)
            (subst (λ t. (x y : ℕ) → x ≢ y → are_apart (catalog_of t) (with_list conn [] s.lists x) (with_list conn [] s.lists y) ≡ true) same d.1.lists_apart);
        after = d.0;
        undone = ap (λ ls. undo_below connections ls next.tables) a.lists ∙ ap (undo_below connections (with_list conn [] s.lists)) (sym same) ∙ d.1.undone_to;
        commits = d.1.acts;
      }
  one_more (Schema change) next a =
      let unchanged : s.tables ≡ u = (let e : Some s.tables ≡ Some u = sym (none_undone connections s.lists s.tables a.allowed) ∙ undoes_to in cc) in
      record {
        tables = act_keeps (OnSchema change) s.tables next.tables tables a.tables;
        apart = λ x y not_one. ap (λ ls. are_apart (catalog_of next.tables) (ls x) (ls y)) a.lists ∙ ap (λ xs. are_apart (catalog_of next.tables) xs (s.lists y)) (a.allowed x);
        after = next.tables;
        undone = ap (λ ls. undo_below connections ls next.tables) a.lists ∙ none_undone connections s.lists next.tables a.allowed;
        commits = ap (option_and_then (apply_all [])) (ap (apply (OnSchema change)) (sym unchanged) ∙ a.tables);
      }

pub apply_all-append : (xs ys : List Act) (t : Tables) → apply_all (xs ++ ys) t ≡ option_and_then (apply_all ys) (apply_all xs t)
apply_all-append [] ys t = refl
apply_all-append (x ∷ xs) ys t = by (apply_all-append xs ys) (apply x t)
  where
    by : ((v : Tables) → apply_all (xs ++ ys) v ≡ option_and_then (apply_all ys) (apply_all xs v)) → (o : Option Tables) → option_and_then (apply_all (xs ++ ys)) o ≡ option_and_then (apply_all ys) (option_and_then (apply_all xs) o)
    by again None = refl
    by again (Some v) = again v

-- ---- the tables stay those of a database

undo_holds : (changes : List Change) (t u : Tables) → IsTables t → undo changes t ≡ Some u → IsTables u
undo_holds [] t u good h = let same : t ≡ u = cc in subst IsTables same good
undo_holds (change ∷ changes) t u good h = by (λ v e. undo_holds changes t v good e) (undo changes t) refl h
  where
    by : ((v : Tables) → undo changes t ≡ Some v → IsTables v) → (o : Option Tables) → undo changes t ≡ o → option_and_then (apply_change (inverse change)) o ≡ Some u → IsTables u
    by again None e h = absurd (let no : None ≡ Some u = h in cc)
    by again (Some v) e h = acts_hold (OnRow (inverse change)) v u (again v e) h

next_holds : (entry : LogRecord) (s next : State) → IsTables s.tables → Applies entry s next → IsTables next.tables
next_holds (Changed conn change) s next good a = acts_hold (OnRow change) s.tables next.tables good a.tables
next_holds (UndoTo conn count) s next good a = undo_holds (drop count (s.lists conn)) s.tables next.tables good a.tables
next_holds (Commit conn) s next good a = let same : s.tables ≡ next.tables = (let e : Some s.tables ≡ Some next.tables = a.tables in cc) in subst IsTables same good
next_holds (Rollback conn) s next good a = undo_holds (s.lists conn) s.tables next.tables good a.tables
next_holds (Schema change) s next good a = acts_hold (OnSchema change) s.tables next.tables good a.tables

some_of : (o : Option Tables) (t : Tables) → o ≡ Some t → IsSome o
some_of o t e = subst IsSome (sym e) refl

-- what can be undone, as tables
pub record Undone (s : State) : Type 0 where
  pub to : Tables
  pub is : undone s ≡ Some to

pub undone_of : (s : State) → IsLawful s → Undone s
undone_of s lawful = by (undone s) refl lawful.undoes
  where
    by : (o : Option Tables) → undone s ≡ o → IsSome o → Undone s
    by None e none = absurd (let no : false ≡ true = none in cc)
    by (Some u) e there = record { to = u; is = e }

stepped : (entry : LogRecord) (s next : State) (u : Tables) → IsLawful s → undone s ≡ Some u → Applies entry s next → Stepped entry s next u
stepped entry s next u lawful is a = one_more s u (in_their_order s.tables lawful.tables) lawful.apart is entry next a

-- a record that applies keeps a lawful state
pub stays_lawful : (entry : LogRecord) (s next : State) → IsLawful s → Applies entry s next → IsLawful next
stays_lawful entry s next lawful a =
    let u = undone_of s lawful in
    let st = stepped entry s next u.to lawful u.is a in
    record { tables = next_holds entry s next lawful.tables a; apart = st.apart; undoes = some_of (undone next) st.after st.undone }

pub all_stay_lawful : (entries : List LogRecord) (s last : State) → IsLawful s → AppliesAll entries s last → IsLawful last
all_stay_lawful [] s last lawful all = subst IsLawful all lawful
all_stay_lawful (entry ∷ entries) s last lawful all = all_stay_lawful entries all.0 last (stays_lawful entry s all.0 lawful all.1) all.2

-- undoing all lists of what records reach gives what they commit over what they began with
pub reached : (entries : List LogRecord) (s last : State) (u : Tables) → IsLawful s → AppliesAll entries s last → undone s ≡ Some u → undone last ≡ apply_all (commits_of entries s.lists) u
reached [] s last u lawful all is = ap undone (sym all) ∙ is
reached (entry ∷ entries) s last u lawful all is =
    let next = all.0 in
    let st = stepped entry s next u lawful is all.1 in
    reached entries next last st.after (stays_lawful entry s next lawful all.1) all.2 st.undone
    ∙ ap (λ ls. apply_all (commits_of entries ls) st.after) all.1.lists
    ∙ sym (ap (option_and_then (apply_all (commits_of entries (lists_after entry s.lists)))) st.commits)
    ∙ sym (apply_all-append (commits entry s.lists) (commits_of entries (lists_after entry s.lists)) u)

nothing_undone : (n : ℕ) → undo_below n no_lists no_tables ≡ Some no_tables
nothing_undone zero = refl
nothing_undone (suc n) = ap (option_and_then (undo [])) (nothing_undone n)

pub empty_is_lawful : IsLawful empty_state
empty_is_lawful = record { tables = no_tables_hold; apart = λ a b not_one. refl; undoes = some_of (undone empty_state) no_tables (nothing_undone connections) }

pub replay_is_committed : (entries : List LogRecord) (s : State) → Replays entries s → undone s ≡ committed entries
replay_is_committed entries s all = reached entries empty_state s no_tables empty_is_lawful all (nothing_undone connections)

-- In a lawful state the latest changes of any one connection can be undone, whatever the others have changed since.
pub can_undo : (s : State) (conn count : ℕ) → IsLawful s → conn < connections → (t : Tables) × (undo (drop count (s.lists conn)) s.tables ≡ Some t)
can_undo s conn count lawful known =
    let u = undone_of s lawful in
    let c = catalog_of s.tables in
    let m = changes_of c in
    let back = below_takes c s.lists connections s.tables u.to (in_their_order s.tables lawful.tables, refl) u.is in
    let last = comes_last m s.lists (s.lists conn) conn refl (λ d other. from_apart c (s.lists d) (s.lists conn) (lawful.apart d conn other)) connections s.tables u.to known back.back in
    let parts = leads_split m (take count (s.lists conn)) (drop count (s.lists conn)) last.0 s.tables (subst (λ xs. Leads m xs last.0 s.tables) (sym (take-append-drop count (s.lists conn))) last.2) in
    (parts.0, undoes c (drop count (s.lists conn)) s.tables parts.0 (good_after m (take count (s.lists conn)) last.0 parts.0 last.1 parts.1) parts.2)

-- a record that applies gives one state
pub one_next : (entry : LogRecord) (s next other : State) → Applies entry s next → Applies entry s other → next ≡ other
one_next entry s next other a b =
    let tables : next.tables ≡ other.tables = (let e : Some next.tables ≡ Some other.tables = sym a.tables ∙ b.tables in cc) in
    let lists : next.lists ≡ other.lists = a.lists ∙ sym b.lists in
    λ i. record { tables = tables i; lists = lists i }

-- What the turn of one statement is in the history of its connection.
use Rattle.std.proofs.Common.{◌≡◌, ℕ, ◌+◌, Bool, true, false, ◌&&◌, ◌||◌, cond, List, [], ◌∷◌, ◌++◌, map, Option, Some, None, option_map, unwrap_or, Result, Ok, Err, refl, sym, ◌∙◌, ap, subst, if◌then◌else◌, append-nil}
use Rattle.std.specs.List.{fold}
use Rattle.std.specs.Prelude.{⊤}
use Rattle.std.proofs.lemmas.Bool.{eq-eqb}
use Rattle.std.proofs.lemmas.List.{map-append}
use Rattle.std.proofs.lemmas.List.Concat.{flat_map-append}
use Rattle.wat_value.specs.declared.change.Act.{Act}
use Rattle.wat_value.specs.declared.change.Act.TheVariants.{OnRow, OnSchema}
use Rattle.wat_value.specs.declared.change.Change.{Change}
use Rattle.wat_value.specs.declared.change.SchemaChange.{SchemaChange}
use Rattle.wat_ast.specs.declared.expression.Expr.{Expr}
use Rattle.wat_ast.specs.declared.query.Query.{Query}
use Rattle.wat_ast.specs.declared.statement.Element.{Element}
use Rattle.wat_ast.specs.declared.statement.InsertSource.{InsertSource}
use Rattle.wat_ast.specs.declared.statement.SetItem.{SetItem}
use Rattle.wat_ast.specs.declared.statement.Statement.{Statement}
use Rattle.wat_ast.specs.declared.statement.Statement.TheVariants as s
use Rattle.wat_schema.specs.Catalog.{Name}
use Rattle.wat_schema.specs.Tables.{IsTables, Tables, apply_all}
use Rattle.wat_schema.specs.declared.refusal.Refusal.{Refusal}
use Rattle.wat_schema.specs.declared.refusal.Refusal.TheVariants.{Syntax}
use Rattle.wat_schema.proofs.Database.{all_acts_hold}
use Rattle.wat_rules.specs.Changes.{changes_schema}
use Rattle.wat_meaning.specs.declared.reply.Meaning.{Meaning}
use Rattle.wat_meaning.specs.declared.reply.Reply.{Reply as Meant}
use Rattle.wat_meaning.specs.declared.reply.Reply.TheVariants as meant
use Rattle.wat_meaning.specs.Meaning.{meaning, refusal_meaning}
use Rattle.wat_meaning.proofs.ActsApply.{acts_apply}
use Rattle.wat_conn.specs.declared.answer.Answer.{Answer}
use Rattle.wat_conn.specs.declared.answer.Answer.TheVariants.{Given, OpenTransaction, Refused, Unsupported}
use Rattle.wat_conn.specs.declared.answer.Reply.TheVariants as reply
use Rattle.wat_conn.specs.declared.session.TableName.{TableName}
use Rattle.wat_history.specs.Connection.{Connection, Part, Transaction, changes_of, ends, is_done, level_after, new_transaction, next, noted, opens, running, standing, with_part}
use Rattle.wat_history.specs.Cut.{is_stop, read_cut, statement_cut}
use Rattle.wat_history.specs.Fits.{MayAct, answers, answers_text, is_idle, is_no_syntax, refuses}
use Rattle.wat_history.specs.History.{Commit, effect}
use Rattle.wat_history.specs.History as history
use Rattle.wat_history.specs.Naming.{after_act}
use Rattle.wat_history.specs.Serial.{Means, says}
use Rattle.wat_history.specs.Single.{HasNextNumber, Stage, staged}
use Rattle.wat_commit_log.specs.Logged.{Transaction as Committed, acts_of, all_acts}
use Rattle.wat_commit_log.specs.Pending.{changes_in, fit}
use Rattle.wat_alone.specs.Alone.{State, Turn, answer_saying, made, pending, schema_turn, stays, taken_back, turn}
use Rattle.wat_alone.specs.Committing.{committed, committed_by}
use Rattle.wat_alone.proofs.MakingLemmas.{made_is}
use Rattle.wat_alone.proofs.Writable.{some_of}
use Rattle.wat_turns.proofs.Ways as ways
use Rattle.wat_turns.proofs.Standing.{OfRowsAlone, Stands, Steps, changes_in-map, steps}

-- The open transaction of the history is that of the turns.
abbrev pub SameOpen : Option Transaction → Option (List Change) → Type 0
SameOpen None None = ⊤
SameOpen (Some t) (Some changes) = (t.standing ≡ changes) × (effect t.parts ≡ map OnRow changes)
SameOpen o changes = ⊥

abbrev conn : ℕ → Option Transaction → Connection
conn level o = record { level = level; transaction = o }

abbrev pub conn_at : Option Transaction → Connection
conn_at o = conn 0 o

abbrev stage_of : Tables → Tables → ℕ → Stage
stage_of k t n = record { committed = k; now = t; commits = n }

abbrev pub stage_at : Tables → State → Stage
stage_at k st = stage_of k st.tables st.commits

-- the entry of a turn
abbrev pub part_by : ℕ → ℕ → Result Statement ℕ → Turn → Part
part_by from to read t = record { read = read; entry = record { from = from; to = to; level = 0; answer = t.answer; acts = t.acts } }

abbrev pub effects_of : List Commit → List (List Act)
effects_of h = map (λ (commit : Commit). effect commit.parts) h

-- these transactions are what a stop here may cut
abbrev pub CutAs : List Committed → Option (List Act) → Type 0
CutAs [] cut = ⊤
CutAs (one ∷ []) cut = cut ≡ Some (acts_of one)
CutAs all cut = ⊥

-- What one turn comes to, where these tables are committed and the connection stands so.
pub record Told (o : Option Transaction) (k : Tables) (st : State) (read : Result Statement ℕ) (from to : ℕ) (t : Turn) : Type 0 where
  pub answer : answers_text (conn_at o) read t.answer ≡ true
  pub acts : MayAct (conn_at o) read t.answer t.acts
  pub goes : is_stop t.answer ≡ false
  pub means : Means 0 st.tables (part_by from to read t)
  pub after : Tables
  pub applies : apply_all t.acts st.tables ≡ Some after
  pub number : HasNextNumber st.commits t.answer
  pub then_open : Option Transaction
  pub next_is : next (conn_at o) (part_by from to read t) ≡ conn_at then_open
  pub opening : SameOpen then_open t.next.changes
  pub committed_then : Tables
  pub staged_is : staged t.answer after (stage_at k st) ≡ stage_at committed_then t.next
  pub stands : Stands committed_then t.next
  pub same : map acts_of (committed_by t) ≡ effects_of (history.committed_by (conn_at o) (part_by from to read t) t.answer)
  pub names : (n : List TableName) → fold after_act n t.acts ≡ fold after_act n (all_acts (committed_by t))
  pub cut : CutAs (committed_by t) (read_cut k (conn_at o) read)

-- ---- small facts

no_reply : (r : Meant) (T : Type 0) → None ≡ Some r → T
no_reply r T h = cc

one_reply : (a b : Meant) → Some a ≡ Some b → a ≡ b
one_reply a b h = cc

no_read : (at : ℕ) (x : Statement) (T : Type 0) → Err at ≡ Ok x → T
no_read at x T h = cc

one_read : (r : Result Statement ℕ) (x y : Statement) → r ≡ Ok x → r ≡ Ok y → x ≡ y
one_read r x y h g = cc

one_tables : (a b : Tables) → Some a ≡ Some b → a ≡ b
one_tables a b h = cc

or_true : (b : Bool) → (b || true) ≡ true
or_true true = refl
or_true false = refl

same_changes : (acts : List Act) → changes_of acts ≡ changes_in acts
same_changes [] = refl
same_changes (OnRow change ∷ acts) = ap (λ (l : List Change). change ∷ l) (same_changes acts)
same_changes (OnSchema change ∷ acts) = same_changes acts

rows_name_none : (changes : List Change) (n : List TableName) → fold after_act n (map OnRow changes) ≡ n
rows_name_none [] n = refl
rows_name_none (x ∷ xs) n = rows_name_none xs n

rows_commit_none : (changes : List Change) → committed None (map OnRow changes) ≡ []
rows_commit_none [] = refl
rows_commit_none (x ∷ xs) = refl

-- what is open so far
opened : (o : Option Transaction) (changes : Option (List Change)) → SameOpen o changes → ((unwrap_or o new_transaction).standing ≡ unwrap_or changes []) × (effect (unwrap_or o new_transaction).parts ≡ map OnRow (unwrap_or changes []))
opened None None h = (refl, refl)
opened (Some t) (Some changes) h = h
opened None (Some changes) h = absurd h
opened (Some t) None h = absurd h

-- nothing is committed by a turn that moves no commit
unmoved : (k : Tables) (t : Turn) → Steps k t → committed_by t ≡ [] → Stands k t.next
unmoved k t h none = subst (λ (c : Tables). Stands c t.next) (sym (one_tables k h.after (ap (λ (l : List Committed). apply_all (all_acts l) k) (sym none) ∙ h.applies))) h.stands

-- ---- what is not served, and what is no statement

pub unserved : (o : Option Transaction) (k : Tables) (st : State) (x : Statement) (from to : ℕ) → SameOpen o st.changes → Stands k st → Told o k st (Ok x) from to (stays st Unsupported)
unserved o k st x from to opening stands = record {
  answer = refl;
  acts = refl;
  goes = refl;
  means = λ y r is has serial said. no_reply r _ said;
  after = st.tables;
  applies = refl;
  number = tt;
  then_open = o;
  next_is = refl;
  opening = opening;
  committed_then = k;
  staged_is = refl;
  stands = stands;
  same = refl;
  names = λ n. refl;
  cut = tt;
}

no_text : (o : Option Transaction) (k : Tables) (st : State) (at from to : ℕ) → SameOpen o st.changes → Stands k st → Told o k st (Err at) from to (stays st (Refused (Syntax at)))
no_text o k st at from to opening stands = record {
  answer = eq-eqb at at refl;
  acts = refl;
  goes = refl;
  means = λ y r is has serial said. no_read at y _ is;
  after = st.tables;
  applies = refl;
  number = tt;
  then_open = o;
  next_is = refl;
  opening = opening;
  committed_then = k;
  staged_is = refl;
  stands = stands;
  same = refl;
  names = λ n. refl;
  cut = tt;
}

-- ---- INSERT, UPDATE, DELETE and SELECT

-- how such a statement is noted
pub record OpensOne (x : Statement) : Type 0 where
  pub opens : opens x ≡ true
  pub level : (n : ℕ) → level_after x n ≡ n
  pub noted : (a : Answer) (acts : List Act) (t : Transaction) → noted x a acts t ≡ record t { standing = t.standing ++ changes_of acts }

-- what it may be answered by its meaning
pub record IsFine (x : Statement) (m : Meaning) : Type 0 where
  pub rows : OfRowsAlone m
  pub may : (c : Connection) → answers c x (answer_saying 0 m.answer) ≡ true
  pub acts : (c : Connection) → MayAct c (Ok x) (answer_saying 0 m.answer) m.acts
  pub goes : is_stop (answer_saying 0 m.answer) ≡ false
  pub says : says (answer_saying 0 m.answer) ≡ Some m.answer
  pub number : (commits : ℕ) → HasNextNumber commits (answer_saying 0 m.answer)
  pub staged : (after : Tables) (stage : Stage) → staged (answer_saying 0 m.answer) after stage ≡ record stage { now = after }
  pub goes_on : ends (answer_saying 0 m.answer) ≡ false
  pub done : is_done (answer_saying 0 m.answer) ≡ true
  pub none : (c : Connection) (p : Part) → history.committed_by c p (answer_saying 0 m.answer) ≡ []

may_refuse : (c : Connection) (refusal : Refusal) → is_no_syntax refusal ≡ true → (is_no_syntax refusal && (is_idle c || true)) ≡ true
may_refuse c refusal none = ap (λ (b : Bool). b && (is_idle c || true)) none ∙ or_true (is_idle c)

insert_fine : (t : Tables) (table : Name) (columns : Option (List Name)) (source : InsertSource) → IsFine (s.Insert table columns source) (meaning t (s.Insert table columns source))
insert_fine t table columns source = ways.insert_way (IsFine (s.Insert table columns source))
    (λ refusal none. record { rows = record { changes = []; are = refl }; may = λ c. may_refuse c refusal none; acts = λ c. refl; goes = refl; says = refl; number = λ k. tt; staged = λ after stage. refl; goes_on = refl; done = refl; none = λ c p. refl }) t
    (λ changes. record { rows = record { changes = changes; are = refl }; may = λ c. refl; acts = λ c. tt; goes = refl; says = refl; number = λ k. tt; staged = λ after stage. refl; goes_on = refl; done = refl; none = λ c p. refl })
    table columns source

update_fine : (t : Tables) (table : Name) (sets : List SetItem) (filter : Option Expr) → IsFine (s.Update table sets filter) (meaning t (s.Update table sets filter))
update_fine t table sets filter = ways.update_way (IsFine (s.Update table sets filter))
    (λ refusal none. record { rows = record { changes = []; are = refl }; may = λ c. may_refuse c refusal none; acts = λ c. refl; goes = refl; says = refl; number = λ k. tt; staged = λ after stage. refl; goes_on = refl; done = refl; none = λ c p. refl }) t
    (λ changes. record { rows = record { changes = changes; are = refl }; may = λ c. refl; acts = λ c. tt; goes = refl; says = refl; number = λ k. tt; staged = λ after stage. refl; goes_on = refl; done = refl; none = λ c p. refl })
    table sets filter

delete_fine : (t : Tables) (table : Name) (filter : Option Expr) → IsFine (s.Delete table filter) (meaning t (s.Delete table filter))
delete_fine t table filter = ways.delete_way (IsFine (s.Delete table filter))
    (λ refusal none. record { rows = record { changes = []; are = refl }; may = λ c. may_refuse c refusal none; acts = λ c. refl; goes = refl; says = refl; number = λ k. tt; staged = λ after stage. refl; goes_on = refl; done = refl; none = λ c p. refl }) t
    (λ changes. record { rows = record { changes = changes; are = refl }; may = λ c. refl; acts = λ c. tt; goes = refl; says = refl; number = λ k. tt; staged = λ after stage. refl; goes_on = refl; done = refl; none = λ c p. refl })
    table filter

select_fine : (t : Tables) (q : Query) → IsFine (s.Select q) (meaning t (s.Select q))
select_fine t q = ways.select_way (IsFine (s.Select q))
    (λ refusal none. record { rows = record { changes = []; are = refl }; may = λ c. may_refuse c refusal none; acts = λ c. refl; goes = refl; says = refl; number = λ k. tt; staged = λ after stage. refl; goes_on = refl; done = refl; none = λ c p. refl }) t
    (λ rows. record { rows = record { changes = []; are = refl }; may = λ c. refl; acts = λ c. refl; goes = refl; says = refl; number = λ k. tt; staged = λ after stage. refl; goes_on = refl; done = refl; none = λ c p. refl })
    q

abbrev grown : Transaction → Part → Transaction
grown t p = record { parts = t.parts ++ p ∷ []; standing = t.standing ++ changes_of p.entry.acts; savepoints = t.savepoints }

runs : (x : Statement) → OpensOne x → (o : Option Transaction) (p : Part) → option_map (with_part x p) (running x o) ≡ Some (grown (unwrap_or o new_transaction) p)
runs x kind None p =
    ap (λ (b : Bool). option_map (with_part x p) (if b then Some new_transaction else None)) kind.opens
    ∙ ap (λ (n : Transaction). Some (record n { parts = p ∷ [] })) (kind.noted p.entry.answer p.entry.acts new_transaction)
runs x kind (Some t) p = ap (λ (n : Transaction). Some (record n { parts = t.parts ++ p ∷ [] })) (kind.noted p.entry.answer p.entry.acts t)

-- the turn, where the changes fit and where they don't
abbrev row_turn : State → Meaning → Bool → Turn
row_turn st m b = cond b (record {
  answer = answer_saying 0 m.answer;
  acts = m.acts;
  commits = None;
  next = record { tables = made m.acts st.tables; changes = Some (pending st ++ changes_in m.acts); commits = st.commits };
}) (stays st Unsupported)

row_told : (o : Option Transaction) (k : Tables) (st : State) (x : Statement) (from to : ℕ) (u : Tables) (b : Bool) → OpensOne x → IsFine x (meaning st.tables x) → apply_all (meaning st.tables x).acts st.tables ≡ Some u
    → SameOpen o st.changes → Stands k st → Steps k (row_turn st (meaning st.tables x) b) → Told o k st (Ok x) from to (row_turn st (meaning st.tables x) b)
row_told o k st x from to u false kind fine makes opening stands step = unserved o k st x from to opening stands
row_told o k st x from to u true kind fine makes opening stands step =
    let m = meaning st.tables x in
    let t = row_turn st m true in
    let p = part_by from to (Ok x) t in
    let a = answer_saying 0 m.answer in
    let so_far = opened o st.changes opening in
    let acts : map OnRow (changes_in m.acts) ≡ m.acts = ap (map OnRow) (ap changes_in fine.rows.are ∙ changes_in-map fine.rows.changes) ∙ sym fine.rows.are in
    let none : committed_by t ≡ [] = ap (committed None) fine.rows.are ∙ rows_commit_none fine.rows.changes in
    let old = unwrap_or o new_transaction in
    record {
      answer = fine.may (conn_at o);
      acts = fine.acts (conn_at o);
      goes = fine.goes;
      means = λ y r is has serial said.
          let said_so : m.answer ≡ r = one_reply m.answer r (sym fine.says ∙ said) in
          ap (meaning st.tables) (sym (one_read (Ok x) x y refl is)) ∙ ap (λ (q : Meant). ways.with_acts q m.acts) said_so;
      after = made m.acts st.tables;
      applies = makes ∙ ap Some (sym (made_is m.acts st.tables u makes));
      number = fine.number st.commits;
      then_open = Some (grown old p);
      next_is = ap (λ (b : Bool). if b then conn (level_after x 0) (if ends a then None else option_map (with_part x p) (running x o)) else conn_at o) fine.done
          ∙ ap (λ (b : Bool). conn (level_after x 0) (if b then None else option_map (with_part x p) (running x o))) fine.goes_on
          ∙ (λ j. conn (kind.level 0 j) (runs x kind o p j));
      opening = (
        (λ j. so_far.0 j ++ same_changes m.acts j),
        flat_map-append (λ (q : Part). q.entry.acts) old.parts (p ∷ []) ∙ (λ j. so_far.1 j ++ append-nil m.acts j) ∙ ap (λ (l : List Act). map OnRow (pending st) ++ l) (sym acts) ∙ sym (map-append OnRow (pending st) (changes_in m.acts)),
      );
      committed_then = k;
      staged_is = fine.staged (made m.acts st.tables) (stage_at k st);
      stands = unmoved k t step none;
      same = ap (map acts_of) none ∙ ap effects_of (sym (fine.none (conn_at o) p));
      names = λ n. ap (fold after_act n) fine.rows.are ∙ rows_name_none fine.rows.changes n ∙ ap (λ (l : List Committed). fold after_act n (all_acts l)) (sym none);
      cut = subst (λ (l : List Committed). CutAs l (read_cut k (conn_at o) (Ok x))) (sym none) tt;
    }

connection_good : (k : Tables) (st : State) → Stands k st → IsTables st.tables
connection_good k st h = all_acts_hold (map OnRow (pending st)) k st.tables h.good h.changed

row_statement : (o : Option Transaction) (k : Tables) (st : State) (x : Statement) (from to : ℕ) → OpensOne x → IsFine x (meaning st.tables x) → SameOpen o st.changes → Stands k st
    → Steps k (row_turn st (meaning st.tables x) (fit (pending st ++ changes_in (meaning st.tables x).acts))) → Told o k st (Ok x) from to (row_turn st (meaning st.tables x) (fit (pending st ++ changes_in (meaning st.tables x).acts)))
row_statement o k st x from to kind fine opening stands step =
    let makes = some_of (apply_all (meaning st.tables x).acts st.tables) (acts_apply st.tables x (connection_good k st stands)) in
    row_told o k st x from to makes.0 (fit (pending st ++ changes_in (meaning st.tables x).acts)) kind fine makes.1 opening stands step

-- ---- CREATE and DROP

pub record IsOfSchema (x : Statement) : Type 0 where
  pub opens : opens x ≡ false
  pub level : (n : ℕ) → level_after x n ≡ n
  pub noted : (a : Answer) (acts : List Act) (t : Transaction) → noted x a acts t ≡ record t { standing = t.standing ++ changes_of acts }
  pub changes : changes_schema x ≡ true
  pub refuses : (c : Connection) (r : Refusal) → refuses c x r ≡ (is_no_syntax r && (is_idle c || false))
  pub cut : (t : Tables) (c : Connection) → statement_cut t c x ≡ Some (meaning t x).acts

-- in an open transaction
in_transaction : (t : Transaction) (changes : List Change) (k u : Tables) (n : ℕ) (x : Statement) (from to : ℕ) → IsOfSchema x → SameOpen (Some t) (Some changes) → Stands k (record { tables = u; changes = Some changes; commits = n })
    → Told (Some t) k (record { tables = u; changes = Some changes; commits = n }) (Ok x) from to (stays (record { tables = u; changes = Some changes; commits = n }) (OpenTransaction 1))
in_transaction t changes k u n x from to kind opening stands =
    let st : State = record { tables = u; changes = Some changes; commits = n } in
    let p = part_by from to (Ok x) (stays st (OpenTransaction 1)) in
    record {
      answer = kind.changes;
      acts = refl;
      goes = refl;
      means = λ y r is has serial said. no_reply r _ said;
      after = u;
      applies = refl;
      number = tt;
      then_open = Some (grown t p);
      next_is = λ j. conn (kind.level 0 j) (Some (record (kind.noted (OpenTransaction 1) [] t j) { parts = t.parts ++ p ∷ [] }));
      opening = (append-nil t.standing ∙ opening.0, flat_map-append (λ (q : Part). q.entry.acts) t.parts (p ∷ []) ∙ append-nil (effect t.parts) ∙ opening.1);
      committed_then = k;
      staged_is = refl;
      stands = stands;
      same = refl;
      names = λ n. refl;
      cut = tt;
    }

-- What holds of its turn, where no transaction is open and it means this.
abbrev SchemaTold : Tables → Tables → ℕ → Statement → ℕ → ℕ → Meaning → Type 0
SchemaTold k t n x from to m = m ≡ meaning t x → Told None k (record { tables = t; changes = None; commits = n }) (Ok x) from to (schema_turn (record { tables = t; changes = None; commits = n }) m)

abbrev idle_at : Tables → ℕ → State
idle_at t n = record { tables = t; changes = None; commits = n }

-- no transaction is open afterwards
still_idle : (x : Statement) → IsOfSchema x → (p : Part) → conn (level_after x 0) (option_map (with_part x p) (running x None)) ≡ conn_at None
still_idle x kind p = λ j. conn (kind.level 0 j) (option_map (with_part x p) (if kind.opens j then Some new_transaction else None))

refused_told : (k t : Tables) (n : ℕ) (x : Statement) (from to : ℕ) → IsOfSchema x → Stands k (idle_at t n) → (refusal : Refusal) → is_no_syntax refusal ≡ true → SchemaTold k t n x from to (refusal_meaning refusal)
refused_told k t n x from to kind stands refusal none e =
    let p = part_by from to (Ok x) (stays (idle_at t n) (Refused refusal)) in
    record {
      answer = kind.refuses (conn_at None) refusal ∙ ap (λ (b : Bool). b && (true || false)) none;
      acts = refl;
      goes = refl;
      means = λ y r is has serial said. ap (meaning t) (sym (one_read (Ok x) x y refl is)) ∙ sym e ∙ ap (λ (q : Meant). ways.with_acts q []) (one_reply (meant.Refused refusal) r said);
      after = t;
      applies = refl;
      number = tt;
      then_open = None;
      next_is = still_idle x kind p;
      opening = tt;
      committed_then = k;
      staged_is = refl;
      stands = stands;
      same = refl;
      names = λ n. refl;
      cut = tt;
    }

-- what a change of the schema leaves
altered_stands : (k : Tables) (t : Turn) → t.next.changes ≡ None → Steps k t → Stands t.next.tables t.next
altered_stands k t none h = subst (λ (c : Tables). Stands c t.next) (one_tables h.after t.next.tables (ap (λ (o : Option (List Change)). apply_all (map OnRow (unwrap_or o [])) h.after) (sym none) ∙ h.stands.changed)) h.stands

module _ (k t : Tables) (n : ℕ) (x : Statement) (from to : ℕ) (kind : IsOfSchema x) (stands : Stands k (idle_at t n)) (change : SchemaChange) where
  abbrev acts : List Act
  acts = OnSchema change ∷ []

  same_tables : k ≡ t
  same_tables = one_tables k t stands.changed

  cut_so : (m : Meaning) → m ≡ meaning t x → Some (meaning k x).acts ≡ Some m.acts
  cut_so m e = ap (λ (q : Tables). Some (meaning q x).acts) same_tables ∙ ap (λ (m : Meaning). Some m.acts) (sym e)

  step_of : (m : Meaning) → m ≡ meaning t x → Steps k (schema_turn (idle_at t n) (meaning t x)) → Steps k (schema_turn (idle_at t n) m)
  step_of m e step = subst (λ (m : Meaning). Steps k (schema_turn (idle_at t n) m)) (sym e) step

  made_so : (m : Meaning) → m.acts ≡ acts → m ≡ meaning t x → apply_all acts t ≡ Some (made acts t)
  made_so m is e =
      let makes = some_of (apply_all (meaning t x).acts t) (acts_apply t x (connection_good k (idle_at t n) stands)) in
      let makes_so : apply_all acts t ≡ Some makes.0 = ap (λ (l : List Act). apply_all l t) (sym is ∙ ap (λ (m : Meaning). m.acts) e) ∙ makes.1 in
      makes_so ∙ ap Some (sym (made_is acts t makes.0 makes_so))

  created_told : answers (conn_at None) x (Given (reply.Created (n + 1))) ≡ true → Steps k (schema_turn (idle_at t n) (meaning t x)) → SchemaTold k t n x from to (ways.with_acts meant.Created acts)
  created_told may step e =
      let m = ways.with_acts meant.Created acts in
      let p = part_by from to (Ok x) (schema_turn (idle_at t n) m) in
      record {
        answer = may;
        acts = tt;
        goes = refl;
        means = λ y r is has serial said. ap (meaning t) (sym (one_read (Ok x) x y refl is)) ∙ sym e ∙ ap (λ (q : Meant). ways.with_acts q acts) (one_reply meant.Created r said);
        after = made acts t;
        applies = made_so m refl e;
        number = refl;
        then_open = None;
        next_is = still_idle x kind p;
        opening = tt;
        committed_then = made acts t;
        staged_is = refl;
        stands = altered_stands k (schema_turn (idle_at t n) m) refl (step_of m e step);
        same = refl;
        names = λ n. refl;
        cut = kind.cut k (conn_at None) ∙ cut_so m e;
      }

  dropped_told : answers (conn_at None) x (Given (reply.Dropped (n + 1))) ≡ true → Steps k (schema_turn (idle_at t n) (meaning t x)) → SchemaTold k t n x from to (ways.with_acts meant.Dropped acts)
  dropped_told may step e =
      let m = ways.with_acts meant.Dropped acts in
      let p = part_by from to (Ok x) (schema_turn (idle_at t n) m) in
      record {
        answer = may;
        acts = tt;
        goes = refl;
        means = λ y r is has serial said. ap (meaning t) (sym (one_read (Ok x) x y refl is)) ∙ sym e ∙ ap (λ (q : Meant). ways.with_acts q acts) (one_reply meant.Dropped r said);
        after = made acts t;
        applies = made_so m refl e;
        number = refl;
        then_open = None;
        next_is = still_idle x kind p;
        opening = tt;
        committed_then = made acts t;
        staged_is = refl;
        stands = altered_stands k (schema_turn (idle_at t n) m) refl (step_of m e step);
        same = refl;
        names = λ n. refl;
        cut = kind.cut k (conn_at None) ∙ cut_so m e;
      }

-- ---- COMMIT and ROLLBACK

commit_none : (k t : Tables) (n from to : ℕ) → Stands k (idle_at t n) → Told None k (idle_at t n) (Ok s.Commit) from to (turn (idle_at t n) (Ok s.Commit))
commit_none k t n from to stands = record {
  answer = refl;
  acts = refl;
  goes = refl;
  means = λ y r is has serial said. no_reply r _ said;
  after = t;
  applies = refl;
  number = tt;
  then_open = None;
  next_is = refl;
  opening = tt;
  committed_then = k;
  staged_is = refl;
  stands = stands;
  same = refl;
  names = λ n. refl;
  cut = tt;
}

commit_some : (tr : Transaction) (changes : List Change) (k t : Tables) (n from to : ℕ) → SameOpen (Some tr) (Some changes) → Stands k (record { tables = t; changes = Some changes; commits = n })
    → Told (Some tr) k (record { tables = t; changes = Some changes; commits = n }) (Ok s.Commit) from to (turn (record { tables = t; changes = Some changes; commits = n }) (Ok s.Commit))
commit_some tr changes k t n from to opening stands =
    let st : State = record { tables = t; changes = Some changes; commits = n } in
    record {
      answer = refl;
      acts = refl;
      goes = refl;
      means = λ y r is has serial said. no_reply r _ said;
      after = t;
      applies = refl;
      number = refl;
      then_open = None;
      next_is = refl;
      opening = tt;
      committed_then = t;
      staged_is = refl;
      stands = altered_stands k (turn st (Ok s.Commit)) refl (steps k st (Ok s.Commit) stands);
      same = ap (λ (l : List Act). l ∷ []) (sym opening.1);
      names = λ n. sym (ap (fold after_act n) (append-nil (map OnRow changes)) ∙ rows_name_none changes n);
      cut = ap (λ (l : List Change). Some (map OnRow l)) opening.0;
    }

rolled_back : (o : Option Transaction) (k : Tables) (st : State) (from to : ℕ) → Stands k st → Told o k st (Ok s.Rollback) from to (turn st (Ok s.Rollback))
rolled_back o k st from to stands =
    let kept = unmoved k (turn st (Ok s.Rollback)) (steps k st (Ok s.Rollback) stands) refl in
    record {
      answer = refl;
      acts = refl;
      goes = refl;
      means = λ y r is has serial said. no_reply r _ said;
      after = st.tables;
      applies = refl;
      number = tt;
      then_open = None;
      next_is = refl;
      opening = tt;
      committed_then = k;
      staged_is = ap (λ (u : Tables). stage_of k u st.commits) (one_tables k (taken_back (pending st) st.tables) kept.changed);
      stands = kept;
      same = refl;
      names = λ n. refl;
      cut = tt;
    }

-- ---- every statement

insert_opens : (table : Name) (columns : Option (List Name)) (source : InsertSource) → OpensOne (s.Insert table columns source)
insert_opens table columns source = record { opens = refl; level = λ n. refl; noted = λ a acts t. refl }

update_opens : (table : Name) (sets : List SetItem) (filter : Option Expr) → OpensOne (s.Update table sets filter)
update_opens table sets filter = record { opens = refl; level = λ n. refl; noted = λ a acts t. refl }

delete_opens : (table : Name) (filter : Option Expr) → OpensOne (s.Delete table filter)
delete_opens table filter = record { opens = refl; level = λ n. refl; noted = λ a acts t. refl }

select_opens : (q : Query) → OpensOne (s.Select q)
select_opens q = record { opens = refl; level = λ n. refl; noted = λ a acts t. refl }

table_of_schema : (name : Name) (elements : List Element) → IsOfSchema (s.CreateTable name elements)
table_of_schema name elements = record { opens = refl; level = λ n. refl; noted = λ a acts t. refl; changes = refl; refuses = λ c r. refl; cut = λ t c. refl }

index_of_schema : (name table : Name) (columns : List Name) → IsOfSchema (s.CreateIndex name table columns)
index_of_schema name table columns = record { opens = refl; level = λ n. refl; noted = λ a acts t. refl; changes = refl; refuses = λ c r. refl; cut = λ t c. refl }

drop_of_schema : (name : Name) → IsOfSchema (s.DropTable name)
drop_of_schema name = record { opens = refl; level = λ n. refl; noted = λ a acts t. refl; changes = refl; refuses = λ c r. refl; cut = λ t c. refl }

create_table : (o : Option Transaction) (k t : Tables) (changes : Option (List Change)) (n : ℕ) (name : Name) (elements : List Element) (from to : ℕ) → SameOpen o changes → Stands k (record { tables = t; changes = changes; commits = n })
    → Told o k (record { tables = t; changes = changes; commits = n }) (Ok (s.CreateTable name elements)) from to (turn (record { tables = t; changes = changes; commits = n }) (Ok (s.CreateTable name elements)))
create_table None k t None n name elements from to opening stands =
    let x = s.CreateTable name elements in
    let kind = table_of_schema name elements in
    ways.create_table_way (SchemaTold k t n x from to) (refused_told k t n x from to kind stands) t
    (λ change. created_told k t n x from to kind stands change refl (steps k (idle_at t n) (Ok x) stands)) name elements refl
create_table (Some tr) k t (Some changes) n name elements from to opening stands = in_transaction tr changes k t n (s.CreateTable name elements) from to (table_of_schema name elements) opening stands
create_table None k t (Some changes) n name elements from to opening stands = absurd opening
create_table (Some tr) k t None n name elements from to opening stands = absurd opening

create_index : (o : Option Transaction) (k t : Tables) (changes : Option (List Change)) (n : ℕ) (name table : Name) (columns : List Name) (from to : ℕ) → SameOpen o changes → Stands k (record { tables = t; changes = changes; commits = n })
    → Told o k (record { tables = t; changes = changes; commits = n }) (Ok (s.CreateIndex name table columns)) from to (turn (record { tables = t; changes = changes; commits = n }) (Ok (s.CreateIndex name table columns)))
create_index None k t None n name table columns from to opening stands =
    let x = s.CreateIndex name table columns in
    let kind = index_of_schema name table columns in
    ways.create_index_way (SchemaTold k t n x from to) (refused_told k t n x from to kind stands) t
    (λ change. created_told k t n x from to kind stands change refl (steps k (idle_at t n) (Ok x) stands)) name table columns refl
create_index (Some tr) k t (Some changes) n name table columns from to opening stands = in_transaction tr changes k t n (s.CreateIndex name table columns) from to (index_of_schema name table columns) opening stands
create_index None k t (Some changes) n name table columns from to opening stands = absurd opening
create_index (Some tr) k t None n name table columns from to opening stands = absurd opening

drop_table : (o : Option Transaction) (k t : Tables) (changes : Option (List Change)) (n : ℕ) (name : Name) (from to : ℕ) → SameOpen o changes → Stands k (record { tables = t; changes = changes; commits = n })
    → Told o k (record { tables = t; changes = changes; commits = n }) (Ok (s.DropTable name)) from to (turn (record { tables = t; changes = changes; commits = n }) (Ok (s.DropTable name)))
drop_table None k t None n name from to opening stands =
    let x = s.DropTable name in
    let kind = drop_of_schema name in
    ways.drop_way (SchemaTold k t n x from to) (refused_told k t n x from to kind stands) t
    (λ change. dropped_told k t n x from to kind stands change refl (steps k (idle_at t n) (Ok x) stands)) name refl
drop_table (Some tr) k t (Some changes) n name from to opening stands = in_transaction tr changes k t n (s.DropTable name) from to (drop_of_schema name) opening stands
drop_table None k t (Some changes) n name from to opening stands = absurd opening
drop_table (Some tr) k t None n name from to opening stands = absurd opening

commit_told : (o : Option Transaction) (k t : Tables) (changes : Option (List Change)) (n from to : ℕ) → SameOpen o changes → Stands k (record { tables = t; changes = changes; commits = n })
    → Told o k (record { tables = t; changes = changes; commits = n }) (Ok s.Commit) from to (turn (record { tables = t; changes = changes; commits = n }) (Ok s.Commit))
commit_told None k t None n from to opening stands = commit_none k t n from to stands
commit_told (Some tr) k t (Some changes) n from to opening stands = commit_some tr changes k t n from to opening stands
commit_told None k t (Some changes) n from to opening stands = absurd opening
commit_told (Some tr) k t None n from to opening stands = absurd opening

statement_told : (o : Option Transaction) (k : Tables) (st : State) (x : Statement) (from to : ℕ) → SameOpen o st.changes → Stands k st → Told o k st (Ok x) from to (turn st (Ok x))
statement_told o k st (s.CreateTable name elements) from to opening stands = create_table o k st.tables st.changes st.commits name elements from to opening stands
statement_told o k st (s.CreateIndex name table columns) from to opening stands = create_index o k st.tables st.changes st.commits name table columns from to opening stands
statement_told o k st (s.DropTable name) from to opening stands = drop_table o k st.tables st.changes st.commits name from to opening stands
statement_told o k st (s.Insert table columns source) from to opening stands =
    row_statement o k st (s.Insert table columns source) from to (insert_opens table columns source) (insert_fine st.tables table columns source) opening stands (steps k st (Ok (s.Insert table columns source)) stands)
statement_told o k st (s.Update table sets filter) from to opening stands =
    row_statement o k st (s.Update table sets filter) from to (update_opens table sets filter) (update_fine st.tables table sets filter) opening stands (steps k st (Ok (s.Update table sets filter)) stands)
statement_told o k st (s.Delete table filter) from to opening stands =
    row_statement o k st (s.Delete table filter) from to (delete_opens table filter) (delete_fine st.tables table filter) opening stands (steps k st (Ok (s.Delete table filter)) stands)
statement_told o k st (s.Select q) from to opening stands =
    row_statement o k st (s.Select q) from to (select_opens q) (select_fine st.tables q) opening stands (steps k st (Ok (s.Select q)) stands)
statement_told o k st s.Commit from to opening stands = commit_told o k st.tables st.changes st.commits from to opening stands
statement_told o k st s.Rollback from to opening stands = rolled_back o k st from to stands
statement_told o k st (s.RollbackTo name) from to opening stands = unserved o k st (s.RollbackTo name) from to opening stands
statement_told o k st (s.Savepoint name) from to opening stands = unserved o k st (s.Savepoint name) from to opening stands
statement_told o k st (s.Release name) from to opening stands = unserved o k st (s.Release name) from to opening stands
statement_told o k st s.Checkpoint from to opening stands = unserved o k st s.Checkpoint from to opening stands
statement_told o k st (s.SetLevel level) from to opening stands = unserved o k st (s.SetLevel level) from to opening stands
statement_told o k st (s.SetBlocking on) from to opening stands = unserved o k st (s.SetBlocking on) from to opening stands

pub told : (o : Option Transaction) (k : Tables) (st : State) (read : Result Statement ℕ) (from to : ℕ) → SameOpen o st.changes → Stands k st → Told o k st read from to (turn st read)
told o k st (Err at) from to opening stands = no_text o k st at from to opening stands
told o k st (Ok x) from to opening stands = statement_told o k st x from to opening stands

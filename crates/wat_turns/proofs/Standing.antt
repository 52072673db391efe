-- The tables that are committed while one connection takes its turns, and the open changes over them.
use Rattle.std.proofs.Common.{◌≡◌, ◌⊎◌, inl, inr, ℕ, ◌+◌, Bool, true, false, cond, List, [], ◌∷◌, ◌++◌, map, Option, Some, None, IsSome, unwrap_or, Result, Ok, Err, refl, sym, ◌∙◌, ap, subst, append-nil}
use Rattle.std.specs.Option.{option_and_then}
use Rattle.std.proofs.lemmas.List.{map-append}
use Rattle.std.proofs.lemmas.List.Concat.{flat_map-append}
use Rattle.wat_value.specs.declared.change.Act.{Act}
use Rattle.wat_value.specs.declared.change.Act.TheVariants.{OnRow, OnSchema}
use Rattle.wat_value.specs.declared.change.Change.{Change}
use Rattle.wat_value.specs.declared.change.SchemaChange.{SchemaChange}
use Rattle.wat_ast.specs.declared.expression.Expr.{Expr}
use Rattle.wat_ast.specs.declared.query.Query.{Query}
use Rattle.wat_ast.specs.declared.statement.Element.{Element}
use Rattle.wat_ast.specs.declared.statement.InsertSource.{InsertSource}
use Rattle.wat_ast.specs.declared.statement.SetItem.{SetItem}
use Rattle.wat_ast.specs.declared.statement.Statement.{Statement}
use Rattle.wat_ast.specs.declared.statement.Statement.TheVariants as s
use Rattle.wat_schema.specs.Catalog.{Name}
use Rattle.wat_schema.specs.Tables.{IsTables, Tables, apply, apply_all, apply_change, are_tables, inverse}
use Rattle.wat_schema.specs.declared.refusal.Refusal.TheVariants.{Syntax}
use Rattle.wat_schema.proofs.Database.{acts_hold, all_acts_hold, in_their_order}
use Rattle.wat_schema.proofs.TableLaws.{inverse_gives_back}
use Rattle.wat_meaning.specs.declared.reply.Meaning.{Meaning}
use Rattle.wat_meaning.specs.Meaning.{meaning}
use Rattle.wat_meaning.proofs.ActsApply.{acts_apply}
use Rattle.wat_conn.specs.declared.answer.Answer.{Answer}
use Rattle.wat_conn.specs.declared.answer.Answer.TheVariants.{Given, OpenTransaction, Refused, Unsupported}
use Rattle.wat_conn.specs.declared.answer.Reply.TheVariants as reply
use Rattle.wat_history.specs.Connection.{Part}
use Rattle.wat_history.proofs.SerialLemmas.{apply_all-append, applied_both}
use Rattle.wat_commit_log.specs.Logged.{Transaction, OfRows, OfSchema, acts_of, all_acts}
use Rattle.wat_commit_log.specs.Pending.{changes_in, fit}
use Rattle.wat_alone.specs.Alone.{State, Turn, alone_turn, answer_saying, change_turn, commit_turn, is_refused, made, pending, rollback_turn, schema_turn, stays, taken_back, turn, turn_of}
use Rattle.wat_alone.specs.Committing.{committed, committed_by}
use Rattle.wat_alone.proofs.MakingLemmas.{made_is}
use Rattle.wat_alone.proofs.Writable.{some_of}
use Rattle.wat_turns.specs.Turns.{Lead, committed_from}
use Rattle.wat_turns.proofs.Ways as ways

-- These tables are committed, and the open changes make those of the connection of them.
pub record Stands (committed_now : Tables) (s : State) : Type 0 where
  pub good : IsTables committed_now
  pub changed : apply_all (map OnRow (pending s)) committed_now ≡ Some s.tables

-- What a turn commits applies to what is committed.
pub record Steps (committed_now : Tables) (t : Turn) : Type 0 where
  pub after : Tables
  pub applies : apply_all (all_acts (committed_by t)) committed_now ≡ Some after
  pub stands : Stands after t.next

pub begins : (t : Tables) → IsTables t → Stands t (record { tables = t; changes = None; commits = 0 })
begins t good = record { good = good; changed = refl }

stays_so : (c : Tables) (s : State) (answer : Answer) → Stands c s → Steps c (stays s answer)
stays_so c s answer h = record { after = c; applies = refl; stands = h }

some_is : (a b : Tables) → Some a ≡ Some b → a ≡ b
some_is a b e = cc

connection_good : (c : Tables) (s : State) → Stands c s → IsTables s.tables
connection_good c s h = all_acts_hold (map OnRow (pending s)) c s.tables h.good h.changed

-- ---- what statements mean

-- acts of rows alone
pub record OfRowsAlone (m : Meaning) : Type 0 where
  pub changes : List Change
  pub are : m.acts ≡ map OnRow changes

-- a change of the schema, unless it is refused
pub record OfOneSchema (m : Meaning) : Type 0 where
  pub change : SchemaChange
  pub is : m.acts ≡ OnSchema change ∷ []
  pub given : is_refused m.answer ≡ false

abbrev pub OfSchemaAlone : Meaning → Type 0
OfSchemaAlone m = (is_refused m.answer ≡ true) ⊎ OfOneSchema m

pub inserts : (t : Tables) (table : Name) (columns : Option (List Name)) (source : InsertSource) → OfRowsAlone (meaning t (s.Insert table columns source))
inserts t table columns source = ways.insert_way OfRowsAlone (λ refusal none. record { changes = []; are = refl }) t (λ changes. record { changes = changes; are = refl }) table columns source

pub updates : (t : Tables) (table : Name) (sets : List SetItem) (filter : Option Expr) → OfRowsAlone (meaning t (s.Update table sets filter))
updates t table sets filter = ways.update_way OfRowsAlone (λ refusal none. record { changes = []; are = refl }) t (λ changes. record { changes = changes; are = refl }) table sets filter

pub deletes : (t : Tables) (table : Name) (filter : Option Expr) → OfRowsAlone (meaning t (s.Delete table filter))
deletes t table filter = ways.delete_way OfRowsAlone (λ refusal none. record { changes = []; are = refl }) t (λ changes. record { changes = changes; are = refl }) table filter

pub selects : (t : Tables) (q : Query) → OfRowsAlone (meaning t (s.Select q))
selects t q = ways.select_way OfRowsAlone (λ refusal none. record { changes = []; are = refl }) t (λ rows. record { changes = []; are = refl }) q

pub creates_table : (t : Tables) (name : Name) (elements : List Element) → OfSchemaAlone (meaning t (s.CreateTable name elements))
creates_table t name elements = ways.create_table_way OfSchemaAlone (λ refusal none. inl refl) t (λ change. inr (record { change = change; is = refl; given = refl })) name elements

pub creates_index : (t : Tables) (name table : Name) (columns : List Name) → OfSchemaAlone (meaning t (s.CreateIndex name table columns))
creates_index t name table columns = ways.create_index_way OfSchemaAlone (λ refusal none. inl refl) t (λ change. inr (record { change = change; is = refl; given = refl })) name table columns

pub drops : (t : Tables) (name : Name) → OfSchemaAlone (meaning t (s.DropTable name))
drops t name = ways.drop_way OfSchemaAlone (λ refusal none. inl refl) t (λ change. inr (record { change = change; is = refl; given = refl })) name

-- ---- INSERT, UPDATE, DELETE and SELECT

none_committed : (changes : List Change) → committed None (map OnRow changes) ≡ []
none_committed [] = refl
none_committed (x ∷ xs) = refl

pub changes_in-map : (changes : List Change) → changes_in (map OnRow changes) ≡ changes
changes_in-map [] = refl
changes_in-map (x ∷ xs) = ap (λ (l : List Change). x ∷ l) (changes_in-map xs)

taken : (c : Tables) (st : State) (m : Meaning) (u : Tables) (b : Bool) → OfRowsAlone m → apply_all m.acts st.tables ≡ Some u → Stands c st
    → Steps c (cond b (record { answer = answer_saying 0 m.answer; acts = m.acts; commits = None; next = record { tables = made m.acts st.tables; changes = Some (pending st ++ changes_in m.acts); commits = st.commits } }) (stays st Unsupported))
taken c st m u true rows makes h =
    let acts : map OnRow (changes_in m.acts) ≡ m.acts = ap (map OnRow) (ap changes_in rows.are ∙ changes_in-map rows.changes) ∙ sym rows.are in
    record {
      after = c;
      applies = ap (λ (l : List Transaction). apply_all (all_acts l) c) (ap (committed None) rows.are ∙ none_committed rows.changes);
      stands = record {
        good = h.good;
        changed = ap (λ (l : List Act). apply_all l c) (map-append OnRow (pending st) (changes_in m.acts) ∙ ap (λ (l : List Act). map OnRow (pending st) ++ l) acts)
            ∙ applied_both (map OnRow (pending st)) m.acts c st.tables u h.changed makes ∙ ap Some (sym (made_is m.acts st.tables u makes));
      };
    }
taken c st m u false rows makes h = stays_so c st Unsupported h

change_steps : (c : Tables) (st : State) (x : Statement) → OfRowsAlone (meaning st.tables x) → Stands c st → Steps c (change_turn st (meaning st.tables x))
change_steps c st x rows h =
    let m = meaning st.tables x in
    let makes = some_of (apply_all m.acts st.tables) (acts_apply st.tables x (connection_good c st h)) in
    taken c st m makes.0 (fit (pending st ++ changes_in m.acts)) rows makes.1 h

-- ---- CREATE and DROP

schema_steps : (c t u : Tables) (n : ℕ) (m : Meaning) → OfSchemaAlone m → apply_all m.acts t ≡ Some u → Stands c (record { tables = t; changes = None; commits = n })
    → Steps c (schema_turn (record { tables = t; changes = None; commits = n }) m)
schema_steps c t u n m (inl refused) makes h =
    let st : State = record { tables = t; changes = None; commits = n } in
    subst (λ (b : Bool). Steps c (cond b (stays st (answer_saying 0 m.answer)) (record { answer = answer_saying (n + 1) m.answer; acts = m.acts; commits = None; next = record { tables = made m.acts t; changes = None; commits = n + 1 } }))) (sym refused)
    (stays_so c st (answer_saying 0 m.answer) h)
schema_steps c t u n m (inr one) makes h =
    let st : State = record { tables = t; changes = None; commits = n } in
    let same : c ≡ t = some_is c t h.changed in
    let done : Steps c (record { answer = answer_saying (n + 1) m.answer; acts = m.acts; commits = None; next = record { tables = made m.acts t; changes = None; commits = n + 1 } }) = record {
      after = u;
      applies = ap (λ (l : List Act). apply_all (all_acts (committed None l)) c) one.is ∙ ap (λ (l : List Act). apply_all l c) (sym one.is) ∙ ap (apply_all m.acts) same ∙ makes;
      stands = record {
        good = all_acts_hold m.acts t u (connection_good c st h) makes;
        changed = ap Some (sym (made_is m.acts t u makes));
      };
    } in
    subst (λ (b : Bool). Steps c (cond b (stays st (answer_saying 0 m.answer)) (record { answer = answer_saying (n + 1) m.answer; acts = m.acts; commits = None; next = record { tables = made m.acts t; changes = None; commits = n + 1 } }))) (sym one.given)
    done

alone_steps : (c t : Tables) (changes : Option (List Change)) (n : ℕ) (x : Statement) → OfSchemaAlone (meaning t x) → Stands c (record { tables = t; changes = changes; commits = n })
    → Steps c (alone_turn (record { tables = t; changes = changes; commits = n }) x)
alone_steps c t (Some changes) n x one h = stays_so c (record { tables = t; changes = Some changes; commits = n }) (OpenTransaction 1) h
alone_steps c t None n x one h =
    let makes = some_of (apply_all (meaning t x).acts t) (acts_apply t x (connection_good c (record { tables = t; changes = None; commits = n }) h)) in
    schema_steps c t makes.0 n (meaning t x) one makes.1 h

-- ---- COMMIT and ROLLBACK

commit_steps : (c t : Tables) (changes : Option (List Change)) (n : ℕ) → Stands c (record { tables = t; changes = changes; commits = n }) → Steps c (commit_turn (record { tables = t; changes = changes; commits = n }) changes)
commit_steps c t None n h = stays_so c (record { tables = t; changes = None; commits = n }) (Given reply.NothingToCommit) h
commit_steps c t (Some changes) n h = record {
  after = t;
  applies = ap (λ (l : List Act). apply_all l c) (append-nil (map OnRow changes)) ∙ h.changed;
  stands = record { good = connection_good c (record { tables = t; changes = Some changes; commits = n }) h; changed = refl };
}

-- what was changed is taken back
pub taken_all : (changes : List Change) (c u : Tables) → IsTables c → apply_all (map OnRow changes) c ≡ Some u → taken_back changes u ≡ c
taken_all [] c u good h = sym (some_is c u h)
taken_all (x ∷ xs) c u good h = by (λ mid good later. taken_all xs mid u good later) (apply_change x c) refl h
  where
    by : ((mid : Tables) → IsTables mid → apply_all (map OnRow xs) mid ≡ Some u → taken_back xs u ≡ mid) → (o : Option Tables) → apply_change x c ≡ o → option_and_then (apply_all (map OnRow xs)) o ≡ Some u → taken_back (x ∷ xs) u ≡ c
    by rest None is later = cc
    by rest (Some mid) is later =
        ap (λ (t : Tables). unwrap_or (apply_change (inverse x) t) t) (rest mid (acts_hold (OnRow x) c mid good is) later) ∙ ap (λ (o : Option Tables). unwrap_or o mid) (inverse_gives_back x c mid (in_their_order c good) is)

rollback_steps : (c : Tables) (st : State) → Stands c st → Steps c (rollback_turn st)
rollback_steps c st h = record {
  after = c;
  applies = refl;
  stands = record { good = h.good; changed = ap Some (sym (taken_all (pending st) c st.tables h.good h.changed)) };
}

-- ---- every statement

statement_steps : (c : Tables) (st : State) (x : Statement) → Stands c st → Steps c (turn_of st x)
statement_steps c st (s.CreateTable name elements) h = alone_steps c st.tables st.changes st.commits (s.CreateTable name elements) (creates_table st.tables name elements) h
statement_steps c st (s.CreateIndex name table columns) h = alone_steps c st.tables st.changes st.commits (s.CreateIndex name table columns) (creates_index st.tables name table columns) h
statement_steps c st (s.DropTable name) h = alone_steps c st.tables st.changes st.commits (s.DropTable name) (drops st.tables name) h
statement_steps c st (s.Insert table columns source) h = change_steps c st (s.Insert table columns source) (inserts st.tables table columns source) h
statement_steps c st (s.Update table sets filter) h = change_steps c st (s.Update table sets filter) (updates st.tables table sets filter) h
statement_steps c st (s.Delete table filter) h = change_steps c st (s.Delete table filter) (deletes st.tables table filter) h
statement_steps c st (s.Select q) h = change_steps c st (s.Select q) (selects st.tables q) h
statement_steps c st s.Commit h = commit_steps c st.tables st.changes st.commits h
statement_steps c st s.Rollback h = rollback_steps c st h
statement_steps c st (s.RollbackTo name) h = stays_so c st Unsupported h
statement_steps c st (s.Savepoint name) h = stays_so c st Unsupported h
statement_steps c st (s.Release name) h = stays_so c st Unsupported h
statement_steps c st s.Checkpoint h = stays_so c st Unsupported h
statement_steps c st (s.SetLevel level) h = stays_so c st Unsupported h
statement_steps c st (s.SetBlocking on) h = stays_so c st Unsupported h

pub steps : (c : Tables) (st : State) (read : Result Statement ℕ) → Stands c st → Steps c (turn st read)
steps c st (Err at) h = stays_so c st (Refused (Syntax at)) h
steps c st (Ok x) h = statement_steps c st x h

-- What the turns of a connection commit, and what stands behind them.
pub record Leads (c : Tables) (s last : State) (parts : List Part) : Type 0 where
  pub after : Tables
  pub applies : apply_all (all_acts (committed_from s parts)) c ≡ Some after
  pub stands : Stands after last

pub leads : (c : Tables) (st last : State) (parts : List Part) → Lead st parts last → Stands c st → Leads c st last parts
leads c st last [] same h = record { after = c; applies = refl; stands = subst (Stands c) same h }
leads c st last (p ∷ parts) turns h =
    let step = steps c st p.read h in
    let rest = leads step.after (turn st p.read).next last parts turns.1 step.stands in
    record {
      after = rest.after;
      applies = ap (λ (l : List Act). apply_all l c) (flat_map-append acts_of (committed_by (turn st p.read)) (committed_from (turn st p.read).next parts))
          ∙ applied_both (all_acts (committed_by (turn st p.read))) (all_acts (committed_from (turn st p.read).next parts)) c step.after rest.after step.applies rest.applies;
      stands = rest.stands;
    }

-- The entries of the statements that were answered.
use Rattle.std.proofs.Common.{◌≡◌, ℕ, ◌+◌, ◌<◌, ◌≤◌, Bool, true, false, List, [], ◌∷◌, ◌++◌, length, get_or, take, map, Option, None, Some, Result, Ok, Err, refl, sym, ◌∙◌, ap, subst, arith, append_assoc, append-nil}
use Rattle.std.specs.List.{fold}
use Rattle.std.proofs.lemmas.List.{length_push, take_more, map-append}
use Rattle.std.proofs.lemmas.List.Concat.{flat_map-append}
use Rattle.std.proofs.lemmas.List.Sums.{fold-append}
use Rattle.wat_value.specs.declared.change.Act.{Act}
use Rattle.wat_value.specs.declared.change.Change.{Change}
use Rattle.wat_ast.specs.declared.statement.Statement.{Statement}
use Rattle.wat_ast.specs.declared.statement.Statement.TheVariants as s
use Rattle.wat_parse.specs.declared.script.Span.{Span}
use Rattle.wat_parse.specs.Parsing.{parsed_at}
use Rattle.wat_parse.specs.Statements.{statements_of}
use Rattle.wat_schema.specs.Tables.{Tables}
use Rattle.wat_meaning.specs.declared.reply.Meaning.{Meaning}
use Rattle.wat_meaning.specs.Meaning.{meaning}
use Rattle.wat_conn.specs.declared.answer.Answer.{Answer}
use Rattle.wat_conn.specs.declared.answer.Reason.{Reason}
use Rattle.wat_conn.specs.declared.session.Entry.{Entry}
use Rattle.wat_conn.specs.declared.session.TableName.{TableName}
use Rattle.wat_history.specs.Connection.{Part, part_of, parts_of, span_of}
use Rattle.wat_history.specs.Naming.{after_act, names_of}
use Rattle.wat_commit_log.specs.Logged.{Transaction}
use Rattle.wat_commit_log.specs.Pending.{changes_in, fit}
use Rattle.wat_alone.specs.Alone.{State, alone_turn, begun, change_turn, commit_turn, is_refused, pending, schema_turn, turn, turn_of}
use Rattle.wat_alone.specs.Committing.{committed_by}
use Rattle.wat_turns.specs.Turns.{IsTurn, Lead, committed_from}
use Rattle.wat_session.specs.Session.{AreAnswered, acts_in, transactions_of}

-- one turn more
lead_more : (st mid : State) (parts : List Part) (p : Part) → Lead st parts mid → IsTurn mid p → Lead st (parts ++ p ∷ []) (turn mid p.read).next
lead_more st mid [] p same is = (subst (λ (x : State). IsTurn x p) (sym same) is, ap (λ (x : State). (turn x p.read).next) same)
lead_more st mid (q ∷ parts) p turns is = (turns.0, lead_more (turn st q.read).next mid parts p turns.1 is)

committed_more : (st mid : State) (parts : List Part) (p : Part) → Lead st parts mid → committed_from st (parts ++ p ∷ []) ≡ committed_from st parts ++ committed_by (turn mid p.read)
committed_more st mid [] p same = append-nil (committed_by (turn st p.read)) ∙ ap (λ (x : State). committed_by (turn x p.read)) same
committed_more st mid (q ∷ parts) p turns =
    ap (λ (l : List Transaction). committed_by (turn st q.read) ++ l) (committed_more (turn st q.read).next mid parts p turns.1)
    ∙ sym (append_assoc (committed_by (turn st q.read)) (committed_from (turn st q.read).next parts) (committed_by (turn mid p.read)))

-- the entries of so many statements, which lead to this state
pub record AreEntries (base : Tables) (text : List ℕ) (i : ℕ) (entries : List Entry) (state : State) : Type 0 where
  pub count : length entries ≡ i
  pub spans : map span_of entries ≡ take i (statements_of text)
  pub turns : Lead (begun base) (parts_of text entries) state

pub no_entries : (base : Tables) (text : List ℕ) → AreEntries base text 0 [] (begun base)
no_entries base text = record { count = refl; spans = refl; turns = refl }

abbrev pub entry_at : Span → Answer → List Act → Entry
entry_at span answer acts = record { from = span.from; to = span.to; level = 0; answer = answer; acts = acts }

module _ (base : Tables) (text : List ℕ) (i : ℕ) (entries : List Entry) (state : State) (span other : Span) (answer : Answer) (acts : List Act) (new : List Entry)
    (here : i < length (statements_of text)) (is : get_or (statements_of text) i other ≡ span) (old : AreEntries base text i entries state)
    (answered : answer ≡ (turn state (parsed_at text span)).answer) (acted : acts ≡ (turn state (parsed_at text span)).acts) (added : new ≡ entries ++ entry_at span answer acts ∷ []) where
  abbrev e : Entry
  e = entry_at span answer acts

  turned : IsTurn state (part_of text e)
  turned = record { level = refl; answer = answered; acts = acted }

  parts_more : parts_of text new ≡ parts_of text entries ++ part_of text e ∷ []
  parts_more = ap (parts_of text) added ∙ map-append (part_of text) entries (e ∷ [])

  pub entry_more : AreEntries base text (i + 1) new (turn state (parsed_at text span)).next
  entry_more = record {
    count = ap length added ∙ length_push entries e ∙ ap (λ (n : ℕ). n + 1) old.count;
    spans = ap (map span_of) added ∙ map-append span_of entries (e ∷ []) ∙ ap (λ (l : List Span). l ++ span ∷ []) old.spans
        ∙ ap (λ (s : Span). take i (statements_of text) ++ s ∷ []) (sym is) ∙ sym (take_more (statements_of text) i other here);
    turns = subst (λ (parts : List Part). Lead (begun base) parts (turn state (parsed_at text span)).next) (sym parts_more) (lead_more (begun base) state (parts_of text entries) (part_of text e) old.turns turned);
  }

  pub transactions_more : transactions_of base text new ≡ transactions_of base text entries ++ committed_by (turn state (parsed_at text span))
  transactions_more = ap (committed_from (begun base)) parts_more ∙ committed_more (begun base) state (parts_of text entries) (part_of text e) old.turns

  pub acts_more : acts_in new ≡ acts_in entries ++ acts
  acts_more = ap acts_in added ∙ flat_map-append (λ (x : Entry). x.acts) entries (e ∷ []) ∙ ap (λ (l : List Act). acts_in entries ++ l) (append-nil acts)

  pub names_more : (names new_names : List TableName) → names ≡ names_of base (acts_in entries) → new_names ≡ fold after_act names acts → new_names ≡ names_of base (acts_in new)
  names_more names new_names were then =
      then ∙ ap (λ (l : List TableName). fold after_act l acts) were ∙ sym (fold-append after_act (names_of base []) (acts_in entries) acts) ∙ ap (names_of base) (sym acts_more)

pub entries_end : (base : Tables) (text : List ℕ) (i : ℕ) (entries : List Entry) (state : State) (stop : Option Reason) → AreEntries base text i entries state → i ≤ length (statements_of text)
    → (stop ≡ None → i ≡ length (statements_of text)) → AreAnswered base text stop entries state
entries_end base text i entries state stop are within whole = record {
  spans = are.spans ∙ ap (λ (n : ℕ). take n (statements_of text)) (sym are.count);
  within = omega (arith, are.count, within);
  whole = λ none. are.count ∙ whole none;
  turns = are.turns;
}

-- ---- a statement takes at most one commit number

few_changed : (st : State) (m : Meaning) (b : Bool) → fit (pending st ++ changes_in m.acts) ≡ b → (change_turn st m).next.commits ≤ st.commits + 1
few_changed st m true is = rw is (omega arith)
few_changed st m false is = rw is (omega arith)

few_altered : (st : State) (m : Meaning) (b : Bool) → is_refused m.answer ≡ b → (schema_turn st m).next.commits ≤ st.commits + 1
few_altered st m true is = rw is (omega arith)
few_altered st m false is = rw is (omega arith)

few_alone : (t : Tables) (changes : Option (List Change)) (n : ℕ) (x : Statement) → (alone_turn (record { tables = t; changes = changes; commits = n }) x).next.commits ≤ n + 1
few_alone t (Some changes) n x = omega arith
few_alone t None n x = few_altered (record { tables = t; changes = None; commits = n }) (meaning t x) (is_refused (meaning t x).answer) refl

few_committed : (st : State) (changes : Option (List Change)) → (commit_turn st changes).next.commits ≤ st.commits + 1
few_committed st None = omega arith
few_committed st (Some changes) = omega arith

few_of : (st : State) (x : Statement) → (turn_of st x).next.commits ≤ st.commits + 1
few_of st (s.CreateTable name elements) = few_alone st.tables st.changes st.commits (s.CreateTable name elements)
few_of st (s.CreateIndex name table columns) = few_alone st.tables st.changes st.commits (s.CreateIndex name table columns)
few_of st (s.DropTable name) = few_alone st.tables st.changes st.commits (s.DropTable name)
few_of st (s.Insert table columns source) = few_changed st (meaning st.tables (s.Insert table columns source)) _ refl
few_of st (s.Update table sets filter) = few_changed st (meaning st.tables (s.Update table sets filter)) _ refl
few_of st (s.Delete table filter) = few_changed st (meaning st.tables (s.Delete table filter)) _ refl
few_of st (s.Select q) = few_changed st (meaning st.tables (s.Select q)) _ refl
few_of st s.Commit = few_committed st st.changes
few_of st s.Rollback = omega arith
few_of st (s.RollbackTo name) = omega arith
few_of st (s.Savepoint name) = omega arith
few_of st (s.Release name) = omega arith
few_of st s.Checkpoint = omega arith
few_of st (s.SetLevel level) = omega arith
few_of st (s.SetBlocking on) = omega arith

pub few_commits : (st : State) (read : Result Statement ℕ) → (turn st read).next.commits ≤ st.commits + 1
few_commits st (Err at) = omega arith
few_commits st (Ok x) = few_of st x

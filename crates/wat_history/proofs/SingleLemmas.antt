-- What one connection alone was answered is a serial history, numbered from 1.
use Rattle.std.proofs.Common.{◌≡◌, ℕ, ◌+◌, Bool, true, false, not, ◌⊎◌, inl, inr, List, [], ◌∷◌, ◌++◌, map, length, Option, Some, None, is_some, option_map, Result, Ok, Err, refl, ap, sym, subst, if◌then◌else◌, ◌∙◌, append-nil}
use Rattle.std.specs.List.{AllByRecursion, fold, flat_map, range_with_len}
use Rattle.std.specs.List.Sorted.{IsPermutation}
use Rattle.std.proofs.lemmas.List.Sorted.{IsPermutation-refl}
use Rattle.std.specs.Option.{option_map_or}
use Rattle.wat_value.specs.declared.change.Act.{Act}
use Rattle.wat_ast.specs.declared.statement.Statement.{Statement}
use Rattle.wat_ast.specs.declared.statement.Statement.TheVariants as s
use Rattle.wat_schema.specs.Tables.{Tables, apply_all}
use Rattle.wat_conn.specs.declared.answer.Reason.{Reason}
use Rattle.wat_conn.specs.declared.answer.Reply.TheVariants as reply
use Rattle.wat_conn.specs.declared.answer.Answer.{Answer}
use Rattle.wat_conn.specs.declared.answer.Answer.TheVariants.{Given, Refused, Deadlock, Unsupported, Stopped}
use Rattle.wat_conn.specs.declared.session.Session.{Session}
use Rattle.wat_history.specs.Connection.{Part, Transaction, Connection, new_transaction, new_connection, connection_after, next, after_answer, running, opens, ends, with_part}
use Rattle.wat_history.specs.Fits.{MayAct, IsAnswered, IsStopped, AreAnswered, answers, answers_text, is_idle}
use Rattle.wat_history.specs.History.{Commit, IsHistory, open_parts, committed_by, commits_from, commits_of, connections_of}
use Rattle.wat_history.specs.Serial.{Means, Follows, Serial}
use Rattle.wat_history.specs.Single.{Stage, IsAlone, HasNextNumber, begun, staged}
use Rattle.wat_history.proofs.SerialLemmas.{goes_on}
use Rattle.wat_history.proofs.OpenLemmas.{stopped_stays}

-- an entry by its parts
abbrev piece : Result Statement ℕ → ℕ → ℕ → ℕ → Answer → List Act → Part
piece read from to level answer acts = record { read = read; entry = record { from = from; to = to; level = level; answer = answer; acts = acts } }

abbrev commit_of : List Part → ℕ → Commit
commit_of parts number = record { number = number; parts = parts }

abbrev stage_of : Tables → ℕ → Stage
stage_of t number = record { committed = t; now = t; commits = number }

-- the one end of no acts
no_acts : (acts : List Act) (t after : Tables) → acts ≡ [] → apply_all acts t ≡ Some after → t ≡ after
no_acts acts t after none made = let same : Some t ≡ Some after = ap (λ (l : List Act). apply_all l t) (sym none) ∙ made in cc

follow_end : (base t after : Tables) (parts : List Part) → Follows 0 base parts t → t ≡ after → Follows 0 base parts after
follow_end base t after parts f e = subst (Follows 0 base parts) e f

-- ---- one entry

-- it commits, with the next number, what follows on the tables after the commits; or it commits nothing
pub record Commits (c : Connection) (stage : Stage) (p : Part) (after : Tables) : Type 0 where
  pub parts : List Part
  pub is : committed_by c p p.entry.answer ≡ commit_of parts (stage.commits + 1) ∷ []
  pub follows : Follows 0 stage.committed parts after
  pub left : staged p.entry.answer after stage ≡ stage_of after (stage.commits + 1)
  pub idle : open_parts (next c p) ≡ []

pub record GoesOn (c : Connection) (stage : Stage) (p : Part) (after : Tables) : Type 0 where
  pub is : committed_by c p p.entry.answer ≡ []
  pub committed : (staged p.entry.answer after stage).committed ≡ stage.committed
  pub commits : (staged p.entry.answer after stage).commits ≡ stage.commits
  pub follows : Follows 0 stage.committed (open_parts (next c p)) (staged p.entry.answer after stage).now

abbrev OneStep : Connection → Stage → Part → Tables → Type 0
OneStep c stage p after = Commits c stage p after ⊎ GoesOn c stage p after

not_idle : (c : Connection) → is_idle c ≡ true → c.transaction ≡ None
not_idle c h = none c.transaction h
  where
    none : (o : Option Transaction) → not (is_some o) ≡ true → o ≡ None
    none None e = refl
    none (Some tr) e = absurd (cc)

-- a connection without an open transaction follows on the tables after the commits at once
at_once : (c : Connection) (stage : Stage) → c.transaction ≡ None → Follows 0 stage.committed (open_parts c) stage.now → stage.committed ≡ stage.now
at_once c stage none f = subst (λ (o : Option Transaction). Follows 0 stage.committed (option_map_or (λ t. t.parts) o []) stage.now) none f

-- the open transaction where a statement that is answered leaves it
leaves : (c : Connection) (stage : Stage) (statement : Statement) (p : Part) (after : Tables) → ends p.entry.answer ≡ false → (opens statement ≡ false → p.entry.acts ≡ [])
    → Means 0 stage.now p → apply_all p.entry.acts stage.now ≡ Some after → Follows 0 stage.committed (open_parts c) stage.now → Follows 0 stage.committed (open_parts (after_answer c statement p)) after
leaves c stage statement p after goes quiet means made f = not_ended (ends p.entry.answer) goes
  where
    grown : (tr : Transaction) → Follows 0 stage.committed tr.parts stage.now → Follows 0 stage.committed (tr.parts ++ p ∷ []) after
    grown tr g = goes_on 0 stage.committed stage.now after tr.parts p g means made

    new : (b : Bool) → b ≡ opens statement → stage.committed ≡ stage.now → Follows 0 stage.committed (option_map_or (λ (t : Transaction). t.parts) (option_map (with_part statement p) (if b then Some new_transaction else None)) []) after
    new true e same = grown new_transaction same
    new false e same = same ∙ no_acts p.entry.acts stage.now after (quiet (sym e)) made

    run : (o : Option Transaction) → Follows 0 stage.committed (option_map_or (λ (t : Transaction). t.parts) o []) stage.now → Follows 0 stage.committed (option_map_or (λ (t : Transaction). t.parts) (option_map (with_part statement p) (running statement o)) []) after
    run None g = new (opens statement) refl g
    run (Some tr) g = grown tr g

    not_ended : (b : Bool) → b ≡ false → Follows 0 stage.committed (option_map_or (λ (t : Transaction). t.parts) (if b then None else option_map (with_part statement p) (running statement c.transaction)) []) after
    not_ended true e = absurd (cc)
    not_ended false e = run c.transaction f

-- A statement that opens no transaction has acts only where it is a CREATE or DROP.
quiet_reply : (c : Connection) (statement : Statement) (answer : Answer) (acts : List Act) → answers c statement answer ≡ true → MayAct c (Ok statement) answer acts → opens statement ≡ false → committed_by c (piece (Ok statement) 0 0 0 answer acts) answer ≡ [] → acts ≡ []
quiet_reply c (s.Insert table columns source) answer acts h may e none = absurd (cc)
quiet_reply c (s.Update table sets filter) answer acts h may e none = absurd (cc)
quiet_reply c (s.Delete table filter) answer acts h may e none = absurd (cc)
quiet_reply c (s.RollbackTo name) answer acts h may e none = absurd (cc)
quiet_reply c statement (Given (reply.Inserted count)) acts h may e none = absurd (cc)
quiet_reply c statement (Given (reply.Updated count)) acts h may e none = absurd (cc)
quiet_reply c statement (Given (reply.Deleted count)) acts h may e none = absurd (cc)
quiet_reply c statement (Given (reply.Created number)) acts h may e none = absurd (cc)
quiet_reply c statement (Given (reply.Dropped number)) acts h may e none = absurd (cc)
quiet_reply c statement (Given reply.BackToSavepoint) acts h may e none = absurd (cc)
quiet_reply c statement answer acts h may e none = may

-- of a text that is no statement
text_step : (c : Connection) (stage : Stage) (at from to level : ℕ) (answer : Answer) (acts : List Act) (after : Tables) → answers_text c (Err at) answer ≡ true → MayAct c (Err at) answer acts
    → apply_all acts stage.now ≡ Some after → Follows 0 stage.committed (open_parts c) stage.now → OneStep c stage (piece (Err at) from to level answer acts) after
text_step c stage at from to level (Refused refusal) acts after h may made f =
    inr (record { is = refl; committed = refl; commits = refl; follows = follow_end stage.committed stage.now after (open_parts c) f (no_acts acts stage.now after may made) })
text_step c stage at from to level answer acts after h may made f = absurd (cc)

schema_step : (c : Connection) (stage : Stage) (p : Part) (after : Tables) → is_idle c ≡ true → Means 0 stage.now p → apply_all p.entry.acts stage.now ≡ Some after → Follows 0 stage.committed (open_parts c) stage.now → Follows 0 stage.committed (p ∷ []) after
schema_step c stage p after idle means made f =
    let same = at_once c stage (not_idle c idle) f in
    let P : Tables → Type 0 = λ t. Follows 0 t (p ∷ []) after in subst P (sym same) (means, after, made, refl)

-- a connection that is idle stays so where a statement that opens no transaction is answered
stays_idle : (c : Connection) (statement : Statement) (p : Part) → is_idle c ≡ true → opens statement ≡ false → open_parts (after_answer c statement p) ≡ []
stays_idle c statement p idle quiet = of_end (ends p.entry.answer)
  where
    opened : (b : Bool) → b ≡ false → option_map_or (λ (t : Transaction). t.parts) (option_map (with_part statement p) (if b then Some new_transaction else None)) [] ≡ []
    opened true e = absurd (cc)
    opened false e = refl

    of_none : (o : Option Transaction) → o ≡ None → option_map_or (λ (t : Transaction). t.parts) (option_map (with_part statement p) (running statement o)) [] ≡ []
    of_none None e = opened (opens statement) quiet
    of_none (Some tr) e = absurd (cc)

    of_end : (b : Bool) → option_map_or (λ (t : Transaction). t.parts) (if b then None else option_map (with_part statement p) (running statement c.transaction)) [] ≡ []
    of_end true = refl
    of_end false = of_none c.transaction (not_idle c idle)

committed_step : (c : Connection) (stage : Stage) (statement : Statement) (from to level number : ℕ) (acts : List Act) (after : Tables) → answers c statement (Given (reply.Committed number)) ≡ true → MayAct c (Ok statement) (Given (reply.Committed number)) acts
    → Means 0 stage.now (piece (Ok statement) from to level (Given (reply.Committed number)) acts) → apply_all acts stage.now ≡ Some after → number ≡ stage.commits + 1 → Follows 0 stage.committed (open_parts c) stage.now
    → OneStep c stage (piece (Ok statement) from to level (Given (reply.Committed number)) acts) after
committed_step c stage s.Commit from to level number acts after h may means made numbered f =
    inl (record {
      parts = open_parts c;
      is = ap (λ (m : ℕ). commit_of (open_parts c) m ∷ []) numbered;
      follows = follow_end stage.committed stage.now after (open_parts c) f (no_acts acts stage.now after may made);
      left = ap (stage_of after) numbered;
      idle = refl;
    })
committed_step c stage statement from to level number acts after h may means made numbered f = absurd (cc)

created_step : (c : Connection) (stage : Stage) (statement : Statement) (from to level number : ℕ) (acts : List Act) (after : Tables) → answers c statement (Given (reply.Created number)) ≡ true → MayAct c (Ok statement) (Given (reply.Created number)) acts
    → Means 0 stage.now (piece (Ok statement) from to level (Given (reply.Created number)) acts) → apply_all acts stage.now ≡ Some after → number ≡ stage.commits + 1 → Follows 0 stage.committed (open_parts c) stage.now
    → OneStep c stage (piece (Ok statement) from to level (Given (reply.Created number)) acts) after
created_step c stage (s.CreateTable name elements) from to level number acts after h may means made numbered f =
    let p = piece (Ok (s.CreateTable name elements)) from to level (Given (reply.Created number)) acts in
    inl (record {
      parts = p ∷ [];
      is = ap (λ (m : ℕ). commit_of (p ∷ []) m ∷ []) numbered;
      follows = schema_step c stage p after h means made f;
      left = ap (stage_of after) numbered;
      idle = stays_idle c (s.CreateTable name elements) p h refl;
    })
created_step c stage (s.CreateIndex name table columns) from to level number acts after h may means made numbered f =
    let p = piece (Ok (s.CreateIndex name table columns)) from to level (Given (reply.Created number)) acts in
    inl (record {
      parts = p ∷ [];
      is = ap (λ (m : ℕ). commit_of (p ∷ []) m ∷ []) numbered;
      follows = schema_step c stage p after h means made f;
      left = ap (stage_of after) numbered;
      idle = stays_idle c (s.CreateIndex name table columns) p h refl;
    })
created_step c stage statement from to level number acts after h may means made numbered f = absurd (cc)

dropped_step : (c : Connection) (stage : Stage) (statement : Statement) (from to level number : ℕ) (acts : List Act) (after : Tables) → answers c statement (Given (reply.Dropped number)) ≡ true → MayAct c (Ok statement) (Given (reply.Dropped number)) acts
    → Means 0 stage.now (piece (Ok statement) from to level (Given (reply.Dropped number)) acts) → apply_all acts stage.now ≡ Some after → number ≡ stage.commits + 1 → Follows 0 stage.committed (open_parts c) stage.now
    → OneStep c stage (piece (Ok statement) from to level (Given (reply.Dropped number)) acts) after
dropped_step c stage (s.DropTable name) from to level number acts after h may means made numbered f =
    let p = piece (Ok (s.DropTable name)) from to level (Given (reply.Dropped number)) acts in
    inl (record {
      parts = p ∷ [];
      is = ap (λ (m : ℕ). commit_of (p ∷ []) m ∷ []) numbered;
      follows = schema_step c stage p after h means made f;
      left = ap (stage_of after) numbered;
      idle = stays_idle c (s.DropTable name) p h refl;
    })
dropped_step c stage statement from to level number acts after h may means made numbered f = absurd (cc)

statement_step : (c : Connection) (stage : Stage) (statement : Statement) (from to level : ℕ) (answer : Answer) (acts : List Act) (after : Tables) → answers c statement answer ≡ true → MayAct c (Ok statement) answer acts
    → Means 0 stage.now (piece (Ok statement) from to level answer acts) → apply_all acts stage.now ≡ Some after → HasNextNumber stage.commits answer → Follows 0 stage.committed (open_parts c) stage.now
    → OneStep c stage (piece (Ok statement) from to level answer acts) after
statement_step c stage statement from to level (Given (reply.Committed number)) acts after h may means made numbered f = committed_step c stage statement from to level number acts after h may means made numbered f
statement_step c stage statement from to level (Given (reply.Created number)) acts after h may means made numbered f = created_step c stage statement from to level number acts after h may means made numbered f
statement_step c stage statement from to level (Given (reply.Dropped number)) acts after h may means made numbered f = dropped_step c stage statement from to level number acts after h may means made numbered f
statement_step c stage statement from to level (Given reply.RolledBack) acts after h may means made numbered f = inr (record { is = refl; committed = refl; commits = refl; follows = refl })
statement_step c stage statement from to level (Deadlock cycle) acts after h may means made numbered f = inr (record { is = refl; committed = refl; commits = refl; follows = refl })
statement_step c stage statement from to level Unsupported acts after h may means made numbered f =
    inr (record { is = refl; committed = refl; commits = refl; follows = follow_end stage.committed stage.now after (open_parts c) f (no_acts acts stage.now after may made) })
statement_step c stage statement from to level (Stopped reason) acts after h may means made numbered f = absurd (cc)
statement_step c stage statement from to level answer acts after h may means made numbered f =
    inr (record { is = refl; committed = refl; commits = refl; follows = leaves c stage statement (piece (Ok statement) from to level answer acts) after refl (λ e. quiet_reply c statement answer acts h may e refl) means made f })

read_step : (c : Connection) (stage : Stage) (read : Result Statement ℕ) (from to level : ℕ) (answer : Answer) (acts : List Act) (after : Tables) → answers_text c read answer ≡ true → MayAct c read answer acts
    → Means 0 stage.now (piece read from to level answer acts) → apply_all acts stage.now ≡ Some after → HasNextNumber stage.commits answer → Follows 0 stage.committed (open_parts c) stage.now
    → OneStep c stage (piece read from to level answer acts) after
read_step c stage (Err at) from to level answer acts after h may means made numbered f = text_step c stage at from to level answer acts after h may made f
read_step c stage (Ok statement) from to level answer acts after h may means made numbered f = statement_step c stage statement from to level answer acts after h may means made numbered f

one_step : (c : Connection) (stage : Stage) (p : Part) (after : Tables) → IsAnswered c p → Means 0 stage.now p → apply_all p.entry.acts stage.now ≡ Some after → HasNextNumber stage.commits p.entry.answer
    → Follows 0 stage.committed (open_parts c) stage.now → OneStep c stage p after
one_step c stage p after answered means made numbered f = read_step c stage p.read p.entry.from p.entry.to p.entry.level p.entry.answer p.entry.acts after answered.answer answered.acts means made numbered f

-- ---- all entries

pub record IsHistoryFrom (c : Connection) (stage : Stage) (parts : List Part) (last : Stage) : Type 0 where
  pub serial : Serial 0 stage.committed (commits_from c parts) last.committed
  pub numbers : map (λ (commit : Commit). commit.number) (commits_from c parts) ≡ range_with_len (stage.commits + 1) (length (commits_from c parts))
  pub open_one : Follows 0 last.committed (open_parts (fold next c parts)) last.now

goes : (c : Connection) (stage : Stage) (p : Part) (after : Tables) (parts : List Part) (last : Stage) → GoesOn c stage p after → IsHistoryFrom (next c p) (staged p.entry.answer after stage) parts last → IsHistoryFrom c stage (p ∷ parts) last
goes c stage p after parts last g h =
    let rest = commits_from (next c p) parts in
    let all : rest ≡ commits_from c (p ∷ parts) = ap (λ (front : List Commit). front ++ rest) (sym g.is) in
    let S : Tables → Type 0 = λ t. Serial 0 t rest last.committed in
    let N : ℕ → Type 0 = λ n. map (λ (commit : Commit). commit.number) rest ≡ range_with_len (n + 1) (length rest) in
    record {
      serial = subst (λ (h : List Commit). Serial 0 stage.committed h last.committed) all (subst S g.committed h.serial);
      numbers = subst (λ (h : List Commit). map (λ (commit : Commit). commit.number) h ≡ range_with_len (stage.commits + 1) (length h)) all (subst N g.commits h.numbers);
      open_one = h.open_one;
    }

commits : (c : Connection) (stage : Stage) (p : Part) (after : Tables) (parts : List Part) (last : Stage) → Commits c stage p after → IsHistoryFrom (next c p) (staged p.entry.answer after stage) parts last → IsHistoryFrom c stage (p ∷ parts) last
commits c stage p after parts last g h =
    let rest = commits_from (next c p) parts in
    let one = commit_of g.parts (stage.commits + 1) in
    let all : one ∷ rest ≡ commits_from c (p ∷ parts) = ap (λ (front : List Commit). front ++ rest) (sym g.is) in
    let S : Stage → Type 0 = λ t. Serial 0 t.committed rest last.committed in
    let N : Stage → Type 0 = λ t. map (λ (commit : Commit). commit.number) rest ≡ range_with_len (t.commits + 1) (length rest) in
    let numbers : map (λ (commit : Commit). commit.number) rest ≡ range_with_len (stage.commits + 1 + 1) (length rest) = subst N g.left h.numbers in
    record {
      serial = subst (λ (h : List Commit). Serial 0 stage.committed h last.committed) all (after, g.follows, subst S g.left h.serial);
      numbers = subst (λ (h : List Commit). map (λ (commit : Commit). commit.number) h ≡ range_with_len (stage.commits + 1) (length h)) all (ap (λ (ns : List ℕ). (stage.commits + 1) ∷ ns) numbers);
      open_one = h.open_one;
    }

-- what follows on the tables after the commits, behind a commit
fresh : (c : Connection) (stage : Stage) (p : Part) (after : Tables) → Commits c stage p after → Follows 0 (staged p.entry.answer after stage).committed (open_parts (next c p)) (staged p.entry.answer after stage).now
fresh c stage p after g =
    let P : Stage → Type 0 = λ t. Follows 0 t.committed (open_parts (next c p)) t.now in
    subst P (sym g.left) (subst (λ (parts : List Part). Follows 0 after parts after) (sym g.idle) refl)

carried : (c : Connection) (stage : Stage) (p : Part) (after : Tables) → GoesOn c stage p after → Follows 0 (staged p.entry.answer after stage).committed (open_parts (next c p)) (staged p.entry.answer after stage).now
carried c stage p after g =
    let P : Tables → Type 0 = λ t. Follows 0 t (open_parts (next c p)) (staged p.entry.answer after stage).now in subst P (sym g.committed) g.follows

stopped_step : (stop : Option Reason) (c : Connection) (stage : Stage) (p : Part) (after : Tables) → IsStopped stop c p → apply_all p.entry.acts stage.now ≡ Some after → Follows 0 stage.committed (open_parts c) stage.now → GoesOn c stage p after
stopped_step stop c stage p after h made f =
    let stays = stopped_stays c p p.read h.reason h.answer in
    let now : stage.now ≡ (staged p.entry.answer after stage).now = no_acts p.entry.acts stage.now after h.acts made ∙ ap (λ (a : Answer). (staged a after stage).now) (sym h.answer) in
    record {
      is = ap (committed_by c p) h.answer;
      committed = ap (λ (a : Answer). (staged a after stage).committed) h.answer;
      commits = ap (λ (a : Answer). (staged a after stage).commits) h.answer;
      follows = subst (λ (d : Connection). Follows 0 stage.committed (open_parts d) (staged p.entry.answer after stage).now) (sym stays) (subst (Follows 0 stage.committed (open_parts c)) now f);
    }

ended : (c : Connection) (stage last : Stage) → stage ≡ last → Follows 0 stage.committed (open_parts c) stage.now → IsHistoryFrom c stage [] last
ended c stage last same f = record {
  serial = ap (λ (g : Stage). g.committed) same;
  numbers = refl;
  open_one = subst (λ (g : Stage). Follows 0 g.committed (open_parts c) g.now) same f;
}

all_stopped : (stop : Option Reason) (c : Connection) (stage : Stage) (parts : List Part) (last : Stage) → AllByRecursion (IsStopped stop c) parts → IsAlone stage parts last → Follows 0 stage.committed (open_parts c) stage.now → IsHistoryFrom c stage parts last
all_stopped stop c stage [] last h alone f = ended c stage last alone f
all_stopped stop c stage (p ∷ parts) last h alone f =
    let g = stopped_step stop c stage p alone.1 h.0 alone.2 f in
    let stays = stopped_stays c p p.read h.0.reason h.0.answer in
    let rest = all_stopped stop c (staged p.entry.answer alone.1 stage) parts last h.1 alone.4 (subst (λ (d : Connection). Follows 0 (staged p.entry.answer alone.1 stage).committed (open_parts d) (staged p.entry.answer alone.1 stage).now) stays (carried c stage p alone.1 g)) in
    goes c stage p alone.1 parts last g (subst (λ (d : Connection). IsHistoryFrom d (staged p.entry.answer alone.1 stage) parts last) (sym stays) rest)

step_on : (c : Connection) (stage : Stage) (p : Part) (after : Tables) (parts : List Part) (last : Stage) → OneStep c stage p after
    → (Follows 0 (staged p.entry.answer after stage).committed (open_parts (next c p)) (staged p.entry.answer after stage).now → IsHistoryFrom (next c p) (staged p.entry.answer after stage) parts last)
    → IsHistoryFrom c stage (p ∷ parts) last
step_on c stage p after parts last (inl g) rest = commits c stage p after parts last g (rest (fresh c stage p after g))
step_on c stage p after parts last (inr g) rest = goes c stage p after parts last g (rest (carried c stage p after g))

pub single : (stop : Option Reason) (c : Connection) (stage : Stage) (parts : List Part) (last : Stage) → AreAnswered stop c parts → IsAlone stage parts last → Follows 0 stage.committed (open_parts c) stage.now → IsHistoryFrom c stage parts last
single stop c stage [] last h alone f = ended c stage last alone f
single stop c stage (p ∷ parts) last (inl (answered, more)) alone f =
    step_on c stage p alone.1 parts last (one_step c stage p alone.1 answered alone.0 alone.2 alone.3 f)
    (λ g. single stop (next c p) (staged p.entry.answer alone.1 stage) parts last more alone.4 g)
single stop c stage (p ∷ parts) last (inr stopped) alone f = all_stopped stop c stage (p ∷ parts) last stopped alone f

-- ---- from the beginning

pub serial_alone : (stop : Option Reason) (base : Tables) (parts : List Part) (last : Stage) → AreAnswered stop new_connection parts → IsAlone (begun base) parts last → Serial 0 base (commits_from new_connection parts) last.committed
serial_alone stop base parts last h alone = (single stop new_connection (begun base) parts last h alone refl).serial

pub numbers_alone : (stop : Option Reason) (base : Tables) (parts : List Part) (last : Stage) → AreAnswered stop new_connection parts → IsAlone (begun base) parts last
    → map (λ (commit : Commit). commit.number) (commits_from new_connection parts) ≡ range_with_len 1 (length (commits_from new_connection parts))
numbers_alone stop base parts last h alone = (single stop new_connection (begun base) parts last h alone refl).numbers

pub open_alone : (stop : Option Reason) (base : Tables) (parts : List Part) (last : Stage) → AreAnswered stop new_connection parts → IsAlone (begun base) parts last → Follows 0 last.committed (open_parts (connection_after parts)) last.now
open_alone stop base parts last h alone = (single stop new_connection (begun base) parts last h alone refl).open_one

pub history_alone : (s : Session) (parts : List Part) → connections_of s ≡ parts ∷ [] → map (λ (commit : Commit). commit.number) (commits_from new_connection parts) ≡ range_with_len 1 (length (commits_from new_connection parts))
    → IsHistory s (commits_from new_connection parts)
history_alone s parts e numbers =
    let own = commits_from new_connection parts in
    let all : own ≡ commits_of s = sym (append-nil own) ∙ ap (flat_map (commits_from new_connection)) (sym e) in
    record { all = subst (λ (h : List Commit). IsPermutation h own) all (IsPermutation-refl own); numbers = numbers }

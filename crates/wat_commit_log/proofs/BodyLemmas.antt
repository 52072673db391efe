-- Reading a body record by record, and a log body by body: what was read so far, and that nothing else is spelled.
use Rattle.std.proofs.Common.{◌≡◌, ◌≢◌, ℕ, zero, suc, ◌+◌, ◌<◌, ◌≤◌, ◌==◌, Bool, true, false, cond, true≢false, List, [], ◌∷◌, ◌++◌, length, map, take, drop, get_or, All, Option, Some, None, IfSome, IfNone, IfOk, MatchOption, Result, Ok, Err, is_some, unwrap_or, refl, sym, ◌∙◌, ap, subst, inl, inr, arith, append_assoc, length-append, append-nil}
use Rattle.std.specs.Bool.{OnTrue, OnFalse}
use Rattle.std.specs.List.{flat_map, AllByRecursion}
use Rattle.std.specs.Option.{option_and_then}
use Rattle.std.proofs.lemmas.Bool.{cases_Bool, eqb-true}
use Rattle.std.proofs.lemmas.List.{map_push, take_more, take-append-drop, take-map, take_all, length-take-le}
use Rattle.std.proofs.lemmas.List.Elements.{All-nil, All-push, All-take}
use Rattle.wat_value.specs.declared.change.Change.{Change}
use Rattle.wat_value.specs.declared.change.SchemaChange.{SchemaChange}
use Rattle.wat_value.specs.declared.change.Act.{Act}
use Rattle.wat_value.specs.declared.change.Act.TheVariants.{OnRow, OnSchema}
use Rattle.wat_schema.specs.Definitions.{allows}
use Rattle.wat_schema.specs.Tables.{Tables, after_alter, apply, apply_all, apply_change, catalog_of, no_tables}
use Rattle.wat_gate.specs.Bodies.{bodies, IsWhole}
use Rattle.wat_log_record.specs.declared.log_record.LogRecord.{LogRecord}
use Rattle.wat_log_record.specs.declared.log_record.LogRecord.TheVariants as entries
use Rattle.wat_log_record.specs.Encoding.{record_bytes, IsEncodableRecord, SpellsRecord, SpellsNoRecord}
use Rattle.wat_log_record.proofs.Cancelling as cancelling
use Rattle.wat_replay.proofs.Replaying.{apply_all-append}
use Rattle.wat_commit_log.specs.Logged.{Transaction, OfRows, OfSchema, acts_of, all_acts, body_of, bytes_of, changed, records_of, HasActs, IsFramed, IsLogged, Restarts}
use Rattle.wat_commit_log.specs.Opening.{AreBodies}
use Rattle.wat_commit_log.specs.Reading.{AreNoRecords, AreRecords, Changes, IsBeforeCommit, Makes, ReadsBody, change_by, is_commit, schema_in}
use Rattle.wat_commit_log.proofs.LogLaws.{acts_more, all_acts-push, bodies_of-cancel}
use Rattle.wat_commit_log.proofs.PendingLemmas.{bytes_of-append, each_append}

pub on_true : (b : Bool) (P : Type 0) → b ≡ true → OnTrue b P → P
on_true true P is h = h
on_true false P is h = cc

pub on_false : (b : Bool) (P : Type 0) → b ≡ false → OnFalse b P → P
on_false true P is h = cc
on_false false P is h = h

pub if_some : {X : Type 0} (o : Option X) (x : X) (Q : X → Type 0) → o ≡ Some x → IfSome o Q → Q x
if_some o x Q is says = subst (λ v. IfSome v Q) is says

pub if_none : {X : Type 0} (o : Option X) (P : Type 0) → ((x : X) → o ≡ Some x → ⊥) → IfNone o P → P
if_none None P never says = says
if_none (Some x) P never says = absurd (never x refl)

-- ---- the records of a body

-- before the first record
pub none_read : AreRecords [] []
none_read = record { spelled = refl; encodable = tt }

-- one record more
pub record_read : (front rest : List ℕ) (records : List LogRecord) (next : LogRecord) (n : ℕ) → AreRecords front records → SpellsRecord rest next n → AreRecords (front ++ take n rest) (records ++ next ∷ [])
record_read front rest records next n so_far spells = record {
  spelled = (λ i. so_far.spelled i ++ spells.spelled i) ∙ ap (λ (l : List ℕ). bytes_of records ++ l) (sym (append-nil (record_bytes next))) ∙ sym (bytes_of-append records (next ∷ []));
  encodable = each_append IsEncodableRecord records (next ∷ []) so_far.encodable (spells.encodable, tt);
}

-- records whose bytes begin with those of others have these first
record BeginsWith (records front : List LogRecord) (rest : List ℕ) : Type 0 where
  more : List LogRecord
  whole : records ≡ front ++ more
  rest_is : rest ≡ bytes_of more
  encodable : AllByRecursion IsEncodableRecord more

some_bytes : (entry : LogRecord) (s : List ℕ) → record_bytes entry ++ s ≢ []
some_bytes (entries.Changed m x) s e = cc
some_bytes (entries.UndoTo m x) s e = cc
some_bytes (entries.Commit m) s e = cc
some_bytes (entries.Rollback m) s e = cc
some_bytes (entries.Schema x) s e = cc

split_at : (front records : List LogRecord) (rest : List ℕ) → AllByRecursion IsEncodableRecord front → AllByRecursion IsEncodableRecord records → bytes_of records ≡ bytes_of front ++ rest → BeginsWith records front rest
split_at [] records rest pf pr e = record { more = records; whole = refl; rest_is = sym e; encodable = pr }
split_at (x ∷ xs) [] rest pf pr e = absurd (some_bytes x (bytes_of xs ++ rest) (sym (e ∙ append_assoc (record_bytes x) (bytes_of xs) rest)))
split_at (x ∷ xs) (y ∷ ys) rest pf pr e =
    let same = cancelling.records y x (bytes_of ys) (bytes_of xs ++ rest) pr.0 pf.0 (e ∙ append_assoc (record_bytes x) (bytes_of xs) rest) in
    let tail = split_at xs ys rest pf.1 pr.1 same.1 in
    record { more = tail.more; whole = λ i. same.0 i ∷ tail.whole i; rest_is = tail.rest_is; encodable = tail.encodable }

-- where no record comes next
pub no_record_next : (front rest bytes : List ℕ) (records : List LogRecord) → AreRecords front records → bytes ≡ front ++ rest → 0 < length rest → SpellsNoRecord rest → AreNoRecords bytes
no_record_next front rest bytes records so_far is some none all are =
    let split = split_at records all rest so_far.encodable are.encodable (sym are.spelled ∙ is ∙ ap (λ (l : List ℕ). l ++ rest) so_far.spelled) in
    by split.more split.rest_is split.encodable
  where
    by : (more : List LogRecord) → rest ≡ bytes_of more → AllByRecursion IsEncodableRecord more → ⊥
    by [] rest_is encodable = omega (arith, ap length rest_is)
    by (next ∷ more) rest_is encodable = none next encodable.0 (bytes_of more) rest_is

pub record_size : (rest : List ℕ) (next : LogRecord) (n : ℕ) → SpellsRecord rest next n → 0 < n
record_size rest next zero spells = absurd (some_bytes next [] (append-nil (record_bytes next) ∙ sym spells.spelled))
record_size rest next (suc n) spells = omega arith

-- a body of records spells no other list
pub records_once : (bytes : List ℕ) (xs ys : List LogRecord) → AreRecords bytes xs → AreRecords bytes ys → xs ≡ ys
records_once bytes xs ys a b =
    let split = split_at xs ys [] a.encodable b.encodable (sym b.spelled ∙ a.spelled ∙ sym (append-nil (bytes_of xs))) in
    by split.more split.rest_is split.whole
  where
    by : (more : List LogRecord) → [] ≡ bytes_of more → ys ≡ xs ++ more → xs ≡ ys
    by [] none whole = sym (whole ∙ append-nil xs)
    by (next ∷ more) none whole = absurd (some_bytes next (bytes_of more) (sym none))

-- ---- what the records make of the tables

pub change_is : (r : LogRecord) (change : Change) → change_by r ≡ Some change → r ≡ changed change
change_is (entries.Changed conn c) change h = by (conn == 1) refl h
  where
    by : (b : Bool) → (conn == 1) ≡ b → cond b (Some c) None ≡ Some change → entries.Changed conn c ≡ changed change
    by true here h = let same : c ≡ change = cc in let one : conn ≡ 1 = eqb-true conn 1 here in λ i. entries.Changed (one i) (same i)
    by false here h = cc
change_is (entries.UndoTo conn count) change h = cc
change_is (entries.Commit conn) change h = cc
change_is (entries.Rollback conn) change h = cc
change_is (entries.Schema c) change h = cc

pub no_changes : (t : Tables) → Changes t [] t
no_changes t = record { changes = []; are = refl; made = refl }

-- the first change, and the others
pub change_first : (before mid after : Tables) (r : LogRecord) (change : Change) (rs : List LogRecord) → change_by r ≡ Some change → apply_change change before ≡ Some mid → Changes mid rs after → Changes before (r ∷ rs) after
change_first before mid after r change rs is makes rest = record {
  changes = change ∷ rest.changes;
  are = λ i. change_is r change is i ∷ rest.are i;
  made = ap (option_and_then (apply_all (map OnRow rest.changes))) makes ∙ rest.made;
}

record Split (before : Tables) (r : LogRecord) (rs : List LogRecord) (after : Tables) : Type 0 where
  pub change : Change
  pub is : r ≡ changed change
  pub mid : Tables
  pub makes : apply_change change before ≡ Some mid
  pub rest : Changes mid rs after

split_changes : (before after : Tables) (r : LogRecord) (rs : List LogRecord) → Changes before (r ∷ rs) after → Split before r rs after
split_changes before after r rs made = by made.changes made.are made.made
  where
    mid_of : (change : Change) (changes : List Change) (o : Option Tables) → r ≡ changed change → rs ≡ map changed changes → apply_change change before ≡ o → option_and_then (apply_all (map OnRow changes)) o ≡ Some after → Split before r rs after
    mid_of change changes None is are makes later = cc
    mid_of change changes (Some mid) is are makes later = record { change = change; is = is; mid = mid; makes = makes; rest = record { changes = changes; are = are; made = later } }

    by : (changes : List Change) → r ∷ rs ≡ map changed changes → apply_all (map OnRow changes) before ≡ Some after → Split before r rs after
    by [] are makes = cc
    by (change ∷ changes) are makes =
        let head : r ≡ changed change = cc in
        let tail : rs ≡ map changed changes = cc in
        mid_of change changes (apply_change change before) head tail refl makes

-- no change comes next
pub no_change_next : (before after : Tables) (r : LogRecord) (rs : List LogRecord) → change_by r ≡ None → Changes before (r ∷ rs) after → ⊥
no_change_next before after r rs none made =
    let s = split_changes before after r rs made in
    let some : change_by r ≡ Some s.change = ap change_by s.is in
    let no : None ≡ Some s.change = sym none ∙ some in cc

-- it doesn't apply
pub change_fails : (before after : Tables) (r : LogRecord) (change : Change) (rs : List LogRecord) → change_by r ≡ Some change → is_some (apply_change change before) ≡ false → Changes before (r ∷ rs) after → ⊥
change_fails before after r change rs is fails made =
    let s = split_changes before after r rs made in
    let some : Some change ≡ Some s.change = sym is ∙ ap change_by s.is in
    let same : change ≡ s.change = cc in
    true≢false (sym (ap is_some s.makes) ∙ ap (λ (c : Change). is_some (apply_change c before)) (sym same) ∙ fails)

-- it applies, and the others go on
pub change_goes_on : (before after : Tables) (r : LogRecord) (change : Change) (rs : List LogRecord) → change_by r ≡ Some change → Changes before (r ∷ rs) after → Changes (unwrap_or (apply_change change before) before) rs after
change_goes_on before after r change rs is made =
    let s = split_changes before after r rs made in
    let some : Some change ≡ Some s.change = sym is ∙ ap change_by s.is in
    let same : change ≡ s.change = cc in
    let mid : unwrap_or (apply_change change before) before ≡ s.mid = ap (λ (c : Change). unwrap_or (apply_change c before) before) same ∙ ap (λ (o : Option Tables). unwrap_or o before) s.makes in
    subst (λ (t : Tables). Changes t rs after) (sym mid) s.rest

applies : (o : Option Tables) (t : Tables) → is_some o ≡ true → o ≡ Some (unwrap_or o t)
applies None t h = cc
applies (Some u) t h = refl

pub change_comes : (before after : Tables) (r : LogRecord) (change : Change) (rs : List LogRecord) → change_by r ≡ Some change → is_some (apply_change change before) ≡ true → Changes (unwrap_or (apply_change change before) before) rs after → Changes before (r ∷ rs) after
change_comes before after r change rs is some rest = change_first before (unwrap_or (apply_change change before) before) after r change rs is (applies (apply_change change before) before some) rest

-- ---- the bodies of a log

-- before the first body
pub no_bodies : (all : List (List ℕ)) → all ≡ [] → AreBodies all no_tables
no_bodies all none = record { transactions = []; bodies = none; framed = All-nil IsFramed; is = refl }

-- one body more
pub body_read : (all : List (List ℕ)) (gate : ℕ) (body : List ℕ) (before after : Tables) → AreBodies (take gate all) before → gate < length all → body ≡ get_or all gate [] → ReadsBody before body after → AreBodies (take (gate + 1) all) after
body_read all gate body before after so_far there is reads = record {
  transactions = so_far.transactions ++ reads.transaction ∷ [];
  bodies = take_more all gate [] there ∙ (λ i. so_far.bodies i ++ (sym is ∙ reads.is) i ∷ []) ∙ sym (map_push body_of so_far.transactions reads.transaction);
  framed = All-push IsFramed so_far.transactions reads.transaction so_far.framed reads.framed;
  is = acts_more so_far.transactions reads.transaction before after so_far.is reads.made;
}

-- The last of a list of transactions.
record Last (ts : List Transaction) (front : List (List ℕ)) (body : List ℕ) : Type 0 where
  pub init : List Transaction
  pub last : Transaction
  pub is : ts ≡ init ++ last ∷ []
  pub front_is : map body_of init ≡ front
  pub body_is : body_of last ≡ body

last_of : (ts : List Transaction) (front : List (List ℕ)) (body : List ℕ) → front ++ body ∷ [] ≡ map body_of ts → Last ts front body
last_of [] [] body e = cc
last_of [] (x ∷ xs) body e = cc
last_of (t ∷ []) [] body e = let head : body ≡ body_of t = cc in record { init = []; last = t; is = refl; front_is = refl; body_is = sym head }
last_of (t ∷ u ∷ ts) [] body e = cc
last_of (t ∷ ts) (x ∷ xs) body e =
    let head : x ≡ body_of t = cc in
    let tail : xs ++ body ∷ [] ≡ map body_of ts = cc in
    let rest = last_of ts xs body tail in
    record { init = t ∷ rest.init; last = rest.last; is = ap (λ (l : List Transaction). t ∷ l) rest.is; front_is = λ i. sym head i ∷ rest.front_is i; body_is = rest.body_is }

-- the acts before the last transaction apply
prefix_applies : (xs ys : List Act) (t u : Tables) → option_and_then (apply_all ys) (apply_all xs t) ≡ Some u → (mid : Tables) × (apply_all xs t ≡ Some mid) × (apply_all ys mid ≡ Some u)
prefix_applies xs ys t u h = by (apply_all xs t) refl h
  where
    by : (o : Option Tables) → apply_all xs t ≡ o → option_and_then (apply_all ys) o ≡ Some u → (mid : Tables) × (apply_all xs t ≡ Some mid) × (apply_all ys mid ≡ Some u)
    by None is h = cc
    by (Some mid) is h = (mid, is, h)

some_is : (a b : Tables) → Some a ≡ Some b → a ≡ b
some_is a b e = cc

-- a body that is no transaction over the tables so far
pub body_refused : (all : List (List ℕ)) (gate : ℕ) (body : List ℕ) (before : Tables) → AreBodies (take gate all) before → gate < length all → body ≡ get_or all gate []
    → ((t : Tables) → ReadsBody before body t → ⊥) → (t : Tables) → AreBodies (take (gate + 1) all) t → ⊥
body_refused all gate body before so_far there is none t are =
    let last = last_of are.transactions (take gate all) (get_or all gate []) (sym (take_more all gate [] there) ∙ are.bodies) in
    let framed : All IsFramed (last.init ++ last.last ∷ []) = subst (All IsFramed) last.is are.framed in
    let acts = sym (ap (λ (ts : List Transaction). apply_all (all_acts ts) no_tables) last.is ∙ ap (λ (a : List Act). apply_all a no_tables) (all_acts-push last.init last.last) ∙ apply_all-append (all_acts last.init) (acts_of last.last) no_tables) ∙ are.is in
    let parts = prefix_applies (all_acts last.init) (acts_of last.last) no_tables t acts in
    let init_framed = front_all last.init (last.last ∷ []) framed in
    let same = bodies_of-cancel last.init so_far.transactions init_framed so_far.framed (last.front_is ∙ so_far.bodies) in
    let mid : parts.0 ≡ before = some_is parts.0 before (sym parts.1 ∙ ap (λ (ts : List Transaction). apply_all (all_acts ts) no_tables) same ∙ so_far.is) in
    none t (record {
      transaction = last.last;
      is = is ∙ sym last.body_is;
      framed = last_all last.init last.last framed;
      made = ap (apply_all (acts_of last.last)) (sym mid) ∙ parts.2;
    })
  where
    front_all : (xs ys : List Transaction) → All IsFramed (xs ++ ys) → All IsFramed xs
    front_all xs ys h = λ k d within. subst IsFramed (get_front xs ys k d within) (h k d (omega (arith, within, length-append xs ys)))
      where
        get_front : (xs ys : List Transaction) (k : ℕ) (d : Transaction) → k < length xs → get_or (xs ++ ys) k d ≡ get_or xs k d
        get_front [] ys k d within = absurd (omega (arith, within))
        get_front (x ∷ xs) ys zero d within = refl
        get_front (x ∷ xs) ys (suc k) d within = get_front xs ys k d (omega (arith, within))

    last_all : (xs : List Transaction) (x : Transaction) → All IsFramed (xs ++ x ∷ []) → IsFramed x
    last_all [] x h = h 0 x (omega arith)
    last_all (y ∷ ys) x h = last_all ys x (λ k d within. h (suc k) d (omega (arith, within)))

-- all bodies were read
pub all_read : (content : List ℕ) (gate : ℕ) (t : Tables) → IsWhole content → length (bodies content) ≤ gate → AreBodies (take gate (bodies content)) t → Restarts content t
all_read content gate t whole end are = record {
  transactions = are.transactions;
  logged = record { whole = whole; bodies = sym (take_all gate (bodies content) end) ∙ are.bodies; framed = are.framed };
  is = are.is;
}

-- the first bodies of a log that restarts are those of transactions whose acts apply
pub first_bodies : (content : List ℕ) (t : Tables) (n : ℕ) → Restarts content t → (u : Tables) × AreBodies (take n (bodies content)) u
first_bodies content t n r =
    let ts = r.transactions in
    let cut = prefix_applies (all_acts (take n ts)) (all_acts (drop n ts)) no_tables t
    (sym (apply_all-append (all_acts (take n ts)) (all_acts (drop n ts)) no_tables) ∙ ap (λ (a : List Act). apply_all a no_tables) (joined n ts) ∙ r.is) in
    (cut.0, record { transactions = take n ts; bodies = ap (take n) r.logged.bodies ∙ take-map body_of n ts; framed = All-take IsFramed n ts r.logged.framed; is = cut.1 })
  where
    joined : (n : ℕ) (ts : List Transaction) → all_acts (take n ts) ++ all_acts (drop n ts) ≡ all_acts ts
    joined zero ts = refl
    joined (suc n) [] = refl
    joined (suc n) (t ∷ ts) = append_assoc (acts_of t) (all_acts (take n ts)) (all_acts (drop n ts)) ∙ ap (λ (a : List Act). acts_of t ++ a) (joined n ts)

-- a log some of whose bodies are no transactions gives no tables
pub no_restart : (content : List ℕ) (n : ℕ) → ((t : Tables) → AreBodies (take n (bodies content)) t → ⊥) → (t : Tables) → Restarts content t → ⊥
no_restart content n none t r = let first = first_bodies content t n r in none first.0 first.1

-- ---- the parts of a transaction's records

pub schema_is : (rs : List LogRecord) (change : SchemaChange) → schema_in rs ≡ Some change → rs ≡ entries.Schema change ∷ []
schema_is [] change h = cc
schema_is (entries.Schema c ∷ []) change h = let same : c ≡ change = cc in ap (λ (d : SchemaChange). entries.Schema d ∷ []) same
schema_is (entries.Schema c ∷ r ∷ rs) change h = cc
schema_is (entries.Changed conn c ∷ rs) change h = cc
schema_is (entries.UndoTo conn count ∷ rs) change h = cc
schema_is (entries.Commit conn ∷ rs) change h = cc
schema_is (entries.Rollback conn ∷ rs) change h = cc

pub commit_is : (r : LogRecord) → is_commit r ≡ true → r ≡ entries.Commit 1
commit_is (entries.Changed conn c) h = cc
commit_is (entries.UndoTo conn count) h = cc
commit_is (entries.Commit conn) h = ap entries.Commit (eqb-true conn 1 h)
commit_is (entries.Rollback conn) h = cc
commit_is (entries.Schema c) h = cc

-- the last record and those before it are known by their list
pub lasts : (xs ys : List LogRecord) (x y : LogRecord) → xs ++ x ∷ [] ≡ ys ++ y ∷ [] → (xs ≡ ys) × (x ≡ y)
lasts [] [] x y e = let same : x ≡ y = cc in (refl, same)
lasts [] (v ∷ []) x y e = cc
lasts [] (v ∷ w ∷ ys) x y e = cc
lasts (u ∷ []) [] x y e = cc
lasts (u ∷ v ∷ xs) [] x y e = cc
lasts (u ∷ xs) (v ∷ ys) x y e =
    let head : u ≡ v = cc in
    let tail : xs ++ x ∷ [] ≡ ys ++ y ∷ [] = cc in
    let rest = lasts xs ys x y tail in
    ((λ i. head i ∷ rest.0 i), rest.1)

none_there : (changes : List Change) → map changed changes ≡ [] → changes ≡ []
none_there [] e = refl
none_there (change ∷ changes) e = cc

-- a schema change alone
pub schema_made : (before after : Tables) (change : SchemaChange) (rs : List LogRecord) → schema_in rs ≡ Some change → apply (OnSchema change) before ≡ Some after → Makes before rs after
schema_made before after change rs is makes = record {
  transaction = OfSchema change;
  are = schema_is rs change is;
  some = tt;
  made = ap (option_and_then (apply_all [])) makes;
}

no_commit_schema : (change : SchemaChange) (changes : List Change) → entries.Schema change ∷ [] ≢ map changed changes ++ entries.Commit 1 ∷ []
no_commit_schema change [] e = cc
no_commit_schema change (c ∷ cs) e = cc

pub schema_fails : (before after : Tables) (change : SchemaChange) (rs : List LogRecord) → schema_in rs ≡ Some change → is_some (apply (OnSchema change) before) ≡ false → Makes before rs after → ⊥
schema_fails before after change rs is fails makes = by makes.transaction (sym (schema_is rs change is) ∙ makes.are) makes.made
  where
    by : (t : Transaction) → entries.Schema change ∷ [] ≡ records_of t → apply_all (acts_of t) before ≡ Some after → ⊥
    by (OfRows changes) are made = no_commit_schema change changes are
    by (OfSchema other) are made =
        let same : change ≡ other = cc in
        let one : option_and_then (apply_all []) (apply (OnSchema other) before) ≡ Some after = made in
        none_makes (apply (OnSchema other) before) (ap (λ (c : SchemaChange). is_some (apply (OnSchema c) before)) (sym same) ∙ fails) one
      where
        none_makes : (o : Option Tables) → is_some o ≡ false → option_and_then (apply_all []) o ≡ Some after → ⊥
        none_makes None fails e = cc
        none_makes (Some t) fails e = cc

-- changes, and the Commit
pub rows_made : (before after : Tables) (front rs : List LogRecord) → IsBeforeCommit rs front → Changes before front after → Makes before rs after
rows_made before after front rs is made = record {
  transaction = OfRows made.changes;
  are = is.is ∙ ap (λ (l : List LogRecord). l ++ entries.Commit 1 ∷ []) made.are;
  some = λ none. is.some (made.are ∙ ap (map changed) none);
  made = made.made;
}

pub rows_fail : (before after : Tables) (front rs : List LogRecord) → IsBeforeCommit rs front → ((t : Tables) → Changes before front t → ⊥) → Makes before rs after → ⊥
rows_fail before after front rs is fails makes = by makes.transaction (sym is.is ∙ makes.are) makes.made
  where
    by : (t : Transaction) → front ++ entries.Commit 1 ∷ [] ≡ records_of t → apply_all (acts_of t) before ≡ Some after → ⊥
    by (OfRows changes) are made = fails after (record { changes = changes; are = (lasts front (map changed changes) (entries.Commit 1) (entries.Commit 1) are).0; made = made })
    by (OfSchema change) are made =
        let last = lasts front [] (entries.Commit 1) (entries.Schema change) are in
        let no = last.1 in cc

-- neither
pub no_transaction : (before after : Tables) (rs : List LogRecord) → schema_in rs ≡ None → ((front : List LogRecord) → IsBeforeCommit rs front → ⊥) → Makes before rs after → ⊥
no_transaction before after rs no_schema no_rows makes = by makes.transaction makes.are makes.some
  where
    by : (t : Transaction) → rs ≡ records_of t → HasActs t → ⊥
    by (OfRows changes) are some = no_rows (map changed changes) (record { is = are; some = λ none. some (none_there changes none) })
    by (OfSchema change) are some = let found : schema_in rs ≡ Some change = ap schema_in are in let no : None ≡ Some change = sym no_schema ∙ found in cc

-- ---- a body

pub body_made : (before after : Tables) (body : List ℕ) (rs : List LogRecord) → AreRecords body rs → Makes before rs after → ReadsBody before body after
body_made before after body rs are makes = record {
  transaction = makes.transaction;
  is = are.spelled ∙ ap bytes_of makes.are;
  framed = record { some = makes.some; encodable = subst (AllByRecursion IsEncodableRecord) makes.are are.encodable };
  made = makes.made;
}

pub body_fails : (before after : Tables) (body : List ℕ) (rs : List LogRecord) → AreRecords body rs → ((t : Tables) → Makes before rs t → ⊥) → ReadsBody before body after → ⊥
body_fails before after body rs are fails reads =
    let same = records_once body rs (records_of reads.transaction) are (record { spelled = reads.is; encodable = reads.framed.encodable }) in
    fails after (record { transaction = reads.transaction; are = same; some = reads.framed.some; made = reads.made })

pub body_none : (before after : Tables) (body : List ℕ) → AreNoRecords body → ReadsBody before body after → ⊥
body_none before after body none reads = none (records_of reads.transaction) (record { spelled = reads.is; encodable = reads.framed.encodable })

-- ---- answers of calls

-- where the call answers true
pub map_true : {E : Type 0} (r : Result Bool E) (P Q : Type 0) → (P → Q) → IfOk r (λ b. OnTrue b P) → IfOk r (λ b. OnTrue b Q)
map_true (Ok true) P Q f h = f h
map_true (Ok false) P Q f h = tt
map_true (Err e) P Q f h = tt

-- where it answers false
pub map_false : {E : Type 0} (r : Result Bool E) (P Q : Type 0) → (P → Q) → IfOk r (λ b. OnFalse b P) → IfOk r (λ b. OnFalse b Q)
map_false (Ok true) P Q f h = tt
map_false (Ok false) P Q f h = f h
map_false (Err e) P Q f h = tt

pub schema_true : {E : Type 0} (r : Result Bool E) (before after : Tables) (change : SchemaChange) (rs : List LogRecord) → schema_in rs ≡ Some change → IfOk r (λ b. b ≡ allows change (catalog_of before))
    → IfOk r (λ b. OnTrue b (after ≡ after_alter change before)) → IfOk r (λ b. OnTrue b (Makes before rs after))
schema_true (Ok true) before after change rs is allowed altered =
    schema_made before after change rs is (ap (λ (b : Bool). cond b (Some (after_alter change before)) None) (sym allowed) ∙ ap Some (sym altered))
schema_true (Ok false) before after change rs is allowed altered = tt
schema_true (Err e) before after change rs is allowed altered = tt

pub match_some : {X : Type 0} (o : Option X) (x : X) (P : Type 0) (Q : X → Type 0) → o ≡ Some x → MatchOption o P Q → Q x
match_some o x P Q is says = subst (λ v. MatchOption v P Q) is says

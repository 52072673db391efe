-- The text of one record more.
use Rattle.std.specs.Prelude.{zero, suc}
use Rattle.wat_schema.specs.Tables.{inverse}
use Rattle.std.proofs.Common.{◌≡◌, ℕ, ◌+◌, ◌<◌, length, take, get_or, List, [], ◌∷◌, ◌++◌, map, Option, Some, None, unwrap_or, refl, sym, ap, ap₂, ◌∙◌, subst}
use Rattle.std.specs.List.{flat_map}
use Rattle.std.specs.Option.{option_to_list, option_and_then}
use Rattle.std.proofs.lemmas.List.{append_assoc, append-nil, take_more}
use Rattle.std.proofs.lemmas.Grind.{flat_map-append}
use Rattle.wat_value.specs.declared.change.Change.{Change}
use Rattle.wat_value.specs.declared.change.Act.{Act}
use Rattle.wat_value.specs.declared.change.Act.TheVariants.{OnRow, OnSchema}
use Rattle.wat_ast.specs.declared.statement.Statement.{Statement}
use Rattle.wat_schema.specs.Catalog.{Catalog}
use Rattle.wat_schema.specs.Tables.{IsTables, Tables, apply, apply_all, apply_change, catalog_of, no_tables}
use Rattle.wat_schema.proofs.Changing.{schema_stays}
use Rattle.wat_schema.proofs.Database.{acts_hold, in_their_order}
use Rattle.wat_log_record.specs.declared.log_record.LogRecord.{LogRecord}
use Rattle.wat_log_record.specs.declared.log_record.LogRecord.TheVariants.{Changed, UndoTo, Commit, Rollback, Schema}
use Rattle.wat_replay.specs.State.{State, Lists, no_lists, empty_state, undo, undo_below, connections, undone, IsLawful}
use Rattle.wat_replay.specs.Replay.{lists_after, Applies, AppliesAll, Replays}
use Rattle.wat_replay.specs.Committed.{commits_of, committed, lists_after_all}
use Rattle.wat_replay.proofs.Replaying.{apply_all-append, all_stay_lawful, empty_is_lawful, replay_is_committed, undone_of}
use Rattle.wat_written.specs.Written.{statement_of}
use Rattle.wat_script_texts.specs.Texts.{ended_text, script_text}
use Rattle.wat_script_texts.specs.Written.{statements_from, transactions_from, commit_behind, acts_of}
use Rattle.wat_translated.specs.Translated.{unless_empty, transaction, transactions_of, translated}
use Rattle.wat_translated.proofs.Transactions.{all_acts}
use Rattle.wat_translate.specs.Writing.{statements_by, transaction_by, transactions_by}

-- ---- the schema of committed tables

undo_stays : (changes : List Change) (t u : Tables) → IsTables t → undo changes t ≡ Some u → IsTables u × (catalog_of u ≡ catalog_of t)
undo_stays [] t u is h = let same : t ≡ u = cc in (subst IsTables same is, ap catalog_of (sym same))
undo_stays (change ∷ changes) t u is h = by (λ v e. undo_stays changes t v is e) (undo changes t) refl h
  where
    by : ((v : Tables) → undo changes t ≡ Some v → IsTables v × (catalog_of v ≡ catalog_of t)) → (o : Option Tables) → undo changes t ≡ o → option_and_then (apply_change (inverse change)) o ≡ Some u
        → IsTables u × (catalog_of u ≡ catalog_of t)
    by again None e k = let no : None ≡ Some u = k in cc
    by again (Some v) e k =
        let before = again v e in
        (acts_hold (OnRow (inverse change)) v u before.0 k, schema_stays (inverse change) v u (in_their_order v before.0) k ∙ before.1)

below_stays : (n : ℕ) (lists : Lists) (t u : Tables) → IsTables t → undo_below n lists t ≡ Some u → IsTables u × (catalog_of u ≡ catalog_of t)
below_stays zero lists t u is h = let same : t ≡ u = cc in (subst IsTables same is, ap catalog_of (sym same))
below_stays (suc n) lists t u is h = by (λ v e. below_stays n lists t v is e) (undo_below n lists t) refl h
  where
    by : ((v : Tables) → undo_below n lists t ≡ Some v → IsTables v × (catalog_of v ≡ catalog_of t)) → (o : Option Tables) → undo_below n lists t ≡ o → option_and_then (undo (lists n)) o ≡ Some u
        → IsTables u × (catalog_of u ≡ catalog_of t)
    by again None e k = let no : None ≡ Some u = k in cc
    by again (Some v) e k =
        let before = again v e in
        let after = undo_stays (lists n) v u before.0 k in
        (after.0, after.1 ∙ before.1)

-- What the records before have committed: tables of the same schema as the state's.
pub record HasCommitted (entries : List LogRecord) (s : State) : Type 0 where
  pub tables : Tables
  pub is : committed entries ≡ Some tables
  pub are : IsTables tables
  pub schema : catalog_of tables ≡ catalog_of s.tables

pub committed_at : (entries : List LogRecord) (s : State) → Replays entries s → HasCommitted entries s
committed_at entries s r =
    let lawful = all_stay_lawful entries empty_state s empty_is_lawful r in
    let u = undone_of s lawful in
    let stays = below_stays connections s.lists s.tables u.to lawful.tables u.is in
    record { tables = u.to; is = sym (replay_is_committed entries s r) ∙ u.is; are = stays.0; schema = stays.1 }

-- ---- transactions, one after another

more_transactions : (xs ys : List (List Act)) (t u : Tables) → apply_all (acts_of xs) t ≡ Some u → transactions_from t (xs ++ ys) ≡ transactions_from t xs ++ transactions_from u ys
more_transactions [] ys t u h = let same : t ≡ u = cc in ap (λ (v : Tables). transactions_from v ys) same
more_transactions (x ∷ xs) ys t u h = by (λ v k. more_transactions xs ys v u k) (apply_all x t) refl (sym (apply_all-append x (acts_of xs) t) ∙ h)
  where
    by : ((v : Tables) → apply_all (acts_of xs) v ≡ Some u → transactions_from v (xs ++ ys) ≡ transactions_from v xs ++ transactions_from u ys)
        → (o : Option Tables) → apply_all x t ≡ o → option_and_then (apply_all (acts_of xs)) o ≡ Some u → transactions_from t (x ∷ xs ++ ys) ≡ transactions_from t (x ∷ xs) ++ transactions_from u ys
    by again None e k = let no : None ≡ Some u = k in cc
    by again (Some v) e k =
        ap (λ (w : Tables). (statements_from t x ++ commit_behind x) ++ transactions_from w (xs ++ ys)) (ap (λ o. unwrap_or o t) e)
        ∙ ap (λ rest. (statements_from t x ++ commit_behind x) ++ rest) (again v k)
        ∙ sym (append_assoc (statements_from t x ++ commit_behind x) (transactions_from v xs) (transactions_from u ys))
        ∙ ap (λ (w : Tables). ((statements_from t x ++ commit_behind x) ++ transactions_from w xs) ++ transactions_from u ys) (sym (ap (λ o. unwrap_or o t) e))

last_transaction : (entries : List LogRecord) (entry : LogRecord) (lists : Lists) → transactions_of (entries ++ entry ∷ []) lists ≡ transactions_of entries lists ++ transaction entry (lists_after_all entries lists)
last_transaction [] entry lists = append-nil (transaction entry lists)
last_transaction (x ∷ xs) entry lists =
    ap (λ rest. transaction x lists ++ rest) (last_transaction xs entry (lists_after x lists))
    ∙ sym (append_assoc (transaction x lists) (transactions_of xs (lists_after x lists)) (transaction entry (lists_after_all xs (lists_after x lists))))

pub lists_reached : (entries : List LogRecord) (s last : State) → AppliesAll entries s last → lists_after_all entries s.lists ≡ last.lists
lists_reached [] s last h = ap (λ (x : State). x.lists) h
lists_reached (x ∷ xs) s last h = ap (lists_after_all xs) (sym h.1.lists) ∙ lists_reached xs h.0 last h.2

-- ---- the statements of one transaction, over one schema

rows_by : (changes : List Change) (t : Tables) → IsTables t → statements_from t (map OnRow changes) ≡ statements_by (catalog_of t) (map OnRow changes)
rows_by [] t is = refl
rows_by (change ∷ changes) t is = ap (λ rest. option_to_list (statement_of (catalog_of t) (OnRow change)) ++ rest) (by (λ u good. rows_by changes u good) (apply_change change t) refl)
  where
    by : ((u : Tables) → IsTables u → statements_from u (map OnRow changes) ≡ statements_by (catalog_of u) (map OnRow changes))
        → (o : Option Tables) → apply_change change t ≡ o → statements_from (unwrap_or (apply_change change t) t) (map OnRow changes) ≡ statements_by (catalog_of t) (map OnRow changes)
    by again None e = ap (λ o. statements_from (unwrap_or o t) (map OnRow changes)) e ∙ again t is
    by again (Some u) e =
        ap (λ o. statements_from (unwrap_or o t) (map OnRow changes)) e
        ∙ again u (acts_hold (OnRow change) t u is e)
        ∙ ap (λ (c : Catalog). statements_by c (map OnRow changes)) (schema_stays change t u (in_their_order t is) e)

unless_by : (changes : List Change) (t : Tables) → IsTables t → transactions_from t (unless_empty changes) ≡ transactions_by (catalog_of t) (unless_empty changes)
unless_by [] t is = refl
unless_by (change ∷ changes) t is = ap (λ (xs : List Statement). (xs ++ commit_behind (map OnRow (change ∷ changes))) ++ []) (rows_by (change ∷ changes) t is)

one_by : (entry : LogRecord) (lists : Lists) (t : Tables) → IsTables t → transactions_from t (transaction entry lists) ≡ transactions_by (catalog_of t) (transaction entry lists)
one_by (Changed conn change) lists t is = refl
one_by (UndoTo conn count) lists t is = refl
one_by (Commit conn) lists t is = unless_by (lists conn) t is
one_by (Rollback conn) lists t is = refl
one_by (Schema change) lists t is = refl

-- ---- the text

pub text_more : (entries : List LogRecord) (entry : LogRecord) (s : State) → Replays entries s
    → translated (entries ++ entry ∷ []) ≡ translated entries ++ script_text (transactions_by (catalog_of s.tables) (transaction entry s.lists))
text_more entries entry s r =
    let c = committed_at entries s r in
    let before = transactions_of entries no_lists in
    let last = transaction entry s.lists in
    let listed : transactions_of (entries ++ entry ∷ []) no_lists ≡ before ++ last =
    last_transaction entries entry no_lists ∙ ap (λ (lists : Lists). before ++ transaction entry lists) (lists_reached entries empty_state s r) in
    let applied : apply_all (acts_of before) no_tables ≡ Some c.tables = ap (λ (acts : List Act). apply_all acts no_tables) (all_acts entries no_lists) ∙ c.is in
    let by : transactions_from c.tables last ≡ transactions_by (catalog_of s.tables) last = one_by entry s.lists c.tables c.are ∙ ap (λ (z : Catalog). transactions_by z last) c.schema in
    ap (λ (all : List (List Act)). script_text (transactions_from no_tables all)) listed
    ∙ ap script_text (more_transactions before last no_tables c.tables applied)
    ∙ flat_map-append ended_text (transactions_from no_tables before) (transactions_from c.tables last)
    ∙ ap (λ (xs : List Statement). translated entries ++ script_text xs) by

-- the statements of one act more
pub push_more : (c : Catalog) (acts : List Act) (i : ℕ) (d : Act) (old out new : List ℕ) → i < length acts → out ≡ old ++ script_text (statements_by c (take i acts))
    → new ≡ out ++ flat_map ended_text (option_to_list (statement_of c (get_or acts i d))) → new ≡ old ++ script_text (statements_by c (take (i + 1) acts))
push_more c acts i d old out new there before after =
    let one = option_to_list (statement_of c (get_or acts i d)) in
    let front = statements_by c (take i acts) in
    let more : statements_by c (take (i + 1) acts) ≡ front ++ one =
    ap (statements_by c) (take_more acts i d there) ∙ flat_map-append (λ act. option_to_list (statement_of c act)) (take i acts) (get_or acts i d ∷ []) ∙ ap (λ (xs : List Statement). front ++ xs) (append-nil one) in
    after ∙ ap (λ (t : List ℕ). t ++ flat_map ended_text one) before ∙ append_assoc old (script_text front) (flat_map ended_text one)
    ∙ ap (λ (t : List ℕ). old ++ t) (sym (ap script_text more ∙ flat_map-append ended_text front one))

-- the statements of acts, and then COMMIT or nothing
pub push_both : (old mid new : List ℕ) (front behind : List Statement) → mid ≡ old ++ script_text front → new ≡ mid ++ script_text behind → new ≡ old ++ script_text (front ++ behind)
push_both old mid new front behind a b =
    b ∙ ap (λ (t : List ℕ). t ++ script_text behind) a ∙ append_assoc old (script_text front) (script_text behind) ∙ ap (λ (t : List ℕ). old ++ t) (sym (flat_map-append ended_text front behind))

-- a transaction, or none
pub text_some : (c d : Catalog) (acts : List Act) (all : List (List Act)) (old new : List ℕ) → c ≡ d → new ≡ old ++ script_text (transaction_by c acts) → option_to_list (Some acts) ≡ all → new ≡ old ++ script_text (transactions_by d all)
text_some c d acts all old new same is e =
    is ∙ ap (λ (z : Catalog). old ++ script_text (transaction_by z acts)) same
    ∙ ap (λ (xs : List Statement). old ++ script_text xs) (sym (append-nil (transaction_by d acts)))
    ∙ ap (λ (xs : List (List Act)). old ++ script_text (transactions_by d xs)) e

pub text_none : (d : Catalog) (all : List (List Act)) (old : List ℕ) → option_to_list None ≡ all → old ≡ old ++ script_text (transactions_by d all)
text_none d all old e = sym (append-nil old) ∙ ap (λ (xs : List (List Act)). old ++ script_text (transactions_by d xs)) e

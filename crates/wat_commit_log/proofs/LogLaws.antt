-- Restart gives one answer, and what one frame more makes of it.
use Rattle.std.proofs.Common.{◌≡◌, ◌≢◌, ℕ, List, [], ◌∷◌, ◌++◌, map, Option, Some, All, refl, sym, ◌∙◌, ap, subst, append-nil, arith}
use Rattle.std.specs.List.{flat_map, AllByRecursion}
use Rattle.std.specs.Option.{option_and_then}
use Rattle.std.proofs.lemmas.List.{map_push}
use Rattle.std.proofs.lemmas.List.Concat.{flat_map-append}
use Rattle.std.proofs.lemmas.List.Elements.{All-nil, All-head, All-tail, All-push}
use Rattle.wat_value.specs.declared.change.Change.{Change}
use Rattle.wat_value.specs.declared.change.SchemaChange.{SchemaChange}
use Rattle.wat_value.specs.declared.change.Act.{Act}
use Rattle.wat_schema.specs.Tables.{Tables, apply_all, no_tables}
use Rattle.wat_gate.specs.Bodies.{bodies, open_gate}
use Rattle.wat_gate.proofs.Frames.{front-nil, whole_at}
use Rattle.wat_log_record.specs.declared.log_record.LogRecord.{LogRecord}
use Rattle.wat_log_record.specs.declared.log_record.LogRecord.TheVariants as entries
use Rattle.wat_log_record.specs.Bodies.{SpellsRecords}
use Rattle.wat_log_record.proofs.Cancelling.{spelled_once}
use Rattle.wat_replay.proofs.Replaying.{apply_all-append}
use Rattle.wat_commit_log.specs.Logged.{Transaction, OfRows, OfSchema, acts_of, all_acts, body_of, changed, records_of, IsFramed, IsLogged, Restarts, AddsFrame}

-- the records of a transaction are those of no other
commits_apart : (changes : List Change) → map changed changes ++ entries.Commit 1 ∷ [] ≢ []
commits_apart [] e = cc
commits_apart (change ∷ changes) e = cc

changes_of-cancel : (xs ys : List Change) → map changed xs ++ entries.Commit 1 ∷ [] ≡ map changed ys ++ entries.Commit 1 ∷ [] → xs ≡ ys
changes_of-cancel [] [] e = refl
changes_of-cancel [] (y ∷ ys) e = cc
changes_of-cancel (x ∷ xs) [] e = cc
changes_of-cancel (x ∷ xs) (y ∷ ys) e =
    let head : x ≡ y = cc in
    let tail : map changed xs ++ entries.Commit 1 ∷ [] ≡ map changed ys ++ entries.Commit 1 ∷ [] = cc in
    let rest = changes_of-cancel xs ys tail in
    λ i. head i ∷ rest i

no_schema : (changes : List Change) (change : SchemaChange) → map changed changes ++ entries.Commit 1 ∷ [] ≢ entries.Schema change ∷ []
no_schema [] change e = cc
no_schema (x ∷ xs) change e = cc

pub records_of-cancel : (t u : Transaction) → records_of t ≡ records_of u → t ≡ u
records_of-cancel (OfRows xs) (OfRows ys) e = ap OfRows (changes_of-cancel xs ys e)
records_of-cancel (OfRows xs) (OfSchema d) e = absurd (no_schema xs d e)
records_of-cancel (OfSchema c) (OfRows ys) e = absurd (no_schema ys c (sym e))
records_of-cancel (OfSchema c) (OfSchema d) e = let same : c ≡ d = cc in ap OfSchema same

some_records : (t : Transaction) → records_of t ≢ []
some_records (OfRows changes) e = commits_apart changes e
some_records (OfSchema change) e = cc

pub spells_one : (t : Transaction) → IsFramed t → SpellsRecords (body_of t) (records_of t)
spells_one t framed = record { spelled = refl; some = some_records t; encodable = framed.encodable }

pub body_of-cancel : (t u : Transaction) → IsFramed t → IsFramed u → body_of t ≡ body_of u → t ≡ u
body_of-cancel t u ft fu e =
    records_of-cancel t u (spelled_once (body_of t) (records_of t) (records_of u) (spells_one t ft) (record { spelled = e; some = some_records u; encodable = fu.encodable }))

pub bodies_of-cancel : (ts us : List Transaction) → All IsFramed ts → All IsFramed us → map body_of ts ≡ map body_of us → ts ≡ us
bodies_of-cancel [] [] ht hu e = refl
bodies_of-cancel [] (u ∷ us) ht hu e = cc
bodies_of-cancel (t ∷ ts) [] ht hu e = cc
bodies_of-cancel (t ∷ ts) (u ∷ us) ht hu e =
    let head : body_of t ≡ body_of u = cc in
    let tail : map body_of ts ≡ map body_of us = cc in
    let first = body_of-cancel t u (All-head IsFramed t ts ht) (All-head IsFramed u us hu) head in
    let rest = bodies_of-cancel ts us (All-tail IsFramed t ts ht) (All-tail IsFramed u us hu) tail in
    λ i. first i ∷ rest i

some_is : (a b : Tables) → Some a ≡ Some b → a ≡ b
some_is a b e = cc

-- Restart over the same bytes gives the same tables.
pub restarts_once : (content : List ℕ) (t u : Tables) → Restarts content t → Restarts content u → t ≡ u
restarts_once content t u r s =
    let same = bodies_of-cancel r.transactions s.transactions r.logged.framed s.logged.framed (sym r.logged.bodies ∙ s.logged.bodies) in
    some_is t u (sym r.is ∙ ap (λ ts. apply_all (all_acts ts) no_tables) same ∙ s.is)

-- A new log, which is one closed gate, has no tables.
pub restarts_empty : Restarts (0 ∷ []) no_tables
restarts_empty =
    let closed : 0 ≢ open_gate = λ e. omega arith in
    let log = whole_at [] [] 0 [] (0 ∷ []) front-nil closed refl in
    record {
      transactions = [];
      logged = record { whole = log.1; bodies = log.0; framed = All-nil IsFramed };
      is = refl;
    }

-- one transaction more
pub all_acts-push : (ts : List Transaction) (t : Transaction) → all_acts (ts ++ t ∷ []) ≡ all_acts ts ++ acts_of t
all_acts-push ts t = flat_map-append acts_of ts (t ∷ []) ∙ ap (λ (more : List Act). all_acts ts ++ more) (append-nil (acts_of t))

pub acts_more : (ts : List Transaction) (t : Transaction) (before after : Tables) → apply_all (all_acts ts) no_tables ≡ Some before → apply_all (acts_of t) before ≡ Some after
    → apply_all (all_acts (ts ++ t ∷ [])) no_tables ≡ Some after
acts_more ts t before after was makes =
    ap (λ (acts : List Act). apply_all acts no_tables) (all_acts-push ts t)
    ∙ apply_all-append (all_acts ts) (acts_of t) no_tables
    ∙ ap (option_and_then (apply_all (acts_of t))) was
    ∙ makes

pub restarts_more : (old new : List ℕ) (t u : Tables) (transaction : Transaction) → Restarts old t → IsFramed transaction → apply_all (acts_of transaction) t ≡ Some u → AddsFrame transaction old new → Restarts new u
restarts_more old new t u transaction log framed makes adds = record {
  transactions = log.transactions ++ transaction ∷ [];
  logged = record {
    whole = adds.whole;
    bodies = adds.bodies ∙ ap (λ (all : List (List ℕ)). all ++ body_of transaction ∷ []) log.logged.bodies ∙ sym (map_push body_of log.transactions transaction);
    framed = All-push IsFramed log.transactions transaction log.logged.framed framed;
  };
  is = acts_more log.transactions transaction t u log.is makes;
}

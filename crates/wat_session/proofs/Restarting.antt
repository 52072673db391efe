-- What the frames of a statement's transaction make of the log.
use Rattle.std.proofs.Common.{◌≡◌, ◌≤◌, ℕ, List, [], ◌∷◌, ◌++◌, length, map, Option, None, Some, All, refl, sym, ◌∙◌, ap, arith}
use Rattle.std.proofs.lemmas.List.{map-append}
use Rattle.std.proofs.lemmas.List.Concat.{flat_map-append}
use Rattle.std.proofs.lemmas.List.Elements.{All-append}
use Rattle.wat_value.specs.declared.change.Act.{Act}
use Rattle.wat_value.specs.declared.change.Act.TheVariants.{OnRow, OnSchema}
use Rattle.wat_value.specs.declared.change.Change.{Change}
use Rattle.wat_schema.specs.Tables.{Tables, apply_all, no_tables}
use Rattle.wat_gate.specs.Bodies.{bodies, IsWhole}
use Rattle.wat_history.proofs.SerialLemmas.{applied_both}
use Rattle.wat_commit_log.specs.Logged.{Transaction, OfRows, OfSchema, acts_of, all_acts, body_of, IsFramed, Restarts}
use Rattle.wat_alone.specs.Committing.{committed, framed, saved}

-- a transaction without a frame has no acts
pub all_saved : (ts : List Transaction) → all_acts (saved ts) ≡ all_acts ts
all_saved [] = refl
all_saved (OfRows [] ∷ ts) = all_saved ts
all_saved (OfRows (x ∷ xs) ∷ ts) = ap (λ (l : List Act). map OnRow (x ∷ xs) ++ l) (all_saved ts)
all_saved (OfSchema change ∷ ts) = ap (λ (l : List Act). OnSchema change ∷ l) (all_saved ts)

-- a statement commits one transaction or none
pub few_committed : (commits : Option (List Change)) (acts : List Act) → length (committed commits acts) ≤ 1
few_committed (Some changes) acts = omega arith
few_committed None [] = omega arith
few_committed None (OnSchema change ∷ []) = omega arith
few_committed None (OnSchema change ∷ act ∷ acts) = omega arith
few_committed None (OnRow change ∷ acts) = omega arith

pub restarts_same : (old new : List ℕ) (t : Tables) → Restarts old t → IsWhole new → bodies new ≡ bodies old → Restarts new t
restarts_same old new t log whole same = record {
  transactions = log.transactions;
  logged = record { whole = whole; bodies = same ∙ log.logged.bodies; framed = log.logged.framed };
  is = log.is;
}

pub restarts_more : (old new : List ℕ) (t u : Tables) (more : List Transaction) → Restarts old t → All IsFramed (saved more) → IsWhole new → bodies new ≡ bodies old ++ map body_of (saved more)
    → apply_all (all_acts more) t ≡ Some u → Restarts new u
restarts_more old new t u more log are whole added makes = record {
  transactions = log.transactions ++ saved more;
  logged = record {
    whole = whole;
    bodies = added ∙ ap (λ (all : List (List ℕ)). all ++ map body_of (saved more)) log.logged.bodies ∙ sym (map-append body_of log.transactions (saved more));
    framed = All-append IsFramed log.transactions (saved more) log.logged.framed are;
  };
  is = ap (λ (l : List Act). apply_all l no_tables) (flat_map-append acts_of log.transactions (saved more) ∙ ap (λ (l : List Act). all_acts log.transactions ++ l) (all_saved more))
      ∙ applied_both (all_acts log.transactions) (all_acts more) no_tables t u log.is makes;
}

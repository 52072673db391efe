-- Which connection is the first that has a transaction open.
use Rattle.std.proofs.Common.{◌≡◌, ℕ, zero, suc, ◌+◌, ◌<◌, ◌≤◌, Bool, true, false, List, length, get_or, Option, Some, None, refl, sym, ap, ◌∙◌, subst, arith, below_more}
use Rattle.std.specs.Prelude.{slice_get, unwrap_or, is_some, nat_lt, MatchOption}
use Rattle.std.proofs.lemmas.Bool.{both_ways, ltb-false, ltb-true}
use Rattle.std.proofs.lemmas.Option.{unwrap_or-slice_get}
use Rattle.wat_steps.specs.Fresh.{connection_with}
use Rattle.wat_steps.specs.State.{ConnectionState, CoreState}
use Rattle.wat_steps.specs.Statements.{IsLeastOpen, IsOpen}
use Rattle.wat_core.specs.CoreParts.{CoreParts, HasCore}
use Rattle.wat_core.specs.Opened.{IsFirstOpen, NoneOpen, is_open}
use Rattle.wat_core.specs.Parts.{connection_of}
use Rattle.wat_core.proofs.PartLemmas.{there_is}

pub none_open : (states : List ConnectionState) → NoneOpen states 0
none_open states d one low = absurd (omega arith)

-- the connection at a place of the list
pub at_place : (states : List ConnectionState) (i : ℕ) (k : ConnectionState) → i < length states → k ≡ get_or states i k → connection_of states (i + 1) ≡ k
at_place states i k low is =
    let on : i + 1 ≡ suc i = omega arith in
    ap (connection_of states) on ∙ ap (λ (o : Option ConnectionState). unwrap_or o (connection_with None)) (there_is states i k low is)

-- one more has none
pub none_more : (states : List ConnectionState) (i : ℕ) (k : ConnectionState) → i < length states → k ≡ get_or states i k → is_some k.transaction ≡ false → NoneOpen states i → NoneOpen states (i + 1)
none_more states i k low is shut none zero one up = absurd (omega arith)
none_more states i k low is shut none (suc d) one up =
    let on : d + 1 ≡ suc d = omega arith in
    let less : d < i + 1 = omega arith in
    subst (λ (n : ℕ). is_open states n ≡ false) on
    (below_more (λ (n : ℕ). is_open states (n + 1) ≡ false) i (λ n below. none (n + 1) (omega arith) (omega arith))
    (ap (λ (o : ConnectionState). is_some o.transaction) (at_place states i k low is) ∙ shut) d less)

-- it is the first
pub first_is : (states : List ConnectionState) (i : ℕ) (k : ConnectionState) → i < length states → k ≡ get_or states i k → is_some k.transaction ≡ true → NoneOpen states i → IsFirstOpen states (i + 1)
first_is states i k low is shown none = record {
  from_one = omega arith;
  within = omega arith;
  open_here = ap (λ (o : ConnectionState). is_some o.transaction) (at_place states i k low is) ∙ shown;
  none_before = λ other one less. none other one (omega arith);
}

-- in a state with these connections
pub least_is : (e : CoreState) (parts : CoreParts) (found : Option ℕ) → HasCore e parts → MatchOption found (NoneOpen parts.states (length parts.states)) (IsFirstOpen parts.states)
    → MatchOption found ((d : ℕ) → IsOpen e d → ⊥) (IsLeastOpen e)
least_is e parts None has none = λ d is. let high = is.within in let count = has.count in
    both_ways (is_some (e.connections d).transaction) (ap (λ (k : ConnectionState). is_some k.transaction) (has.connections d) ∙ none d is.from_one (omega (arith, high, count))) is.has_transaction
least_is e parts (Some d) has first = let high = first.within in let count = has.count in record {
  is_open = record {
    from_one = first.from_one;
    within = omega (arith, high, count);
    has_transaction = ap (λ (k : ConnectionState). is_some k.transaction) (has.connections d) ∙ first.open_here;
  };
  least = λ other is. by other is (nat_lt other d) refl;
}
  where
    by : (other : ℕ) → IsOpen e other → (b : Bool) → nat_lt other d ≡ b → d ≤ other
    by other is true less =
        absurd (both_ways (is_some (e.connections other).transaction) (ap (λ (k : ConnectionState). is_some k.transaction) (has.connections other) ∙ first.none_before other is.from_one (ltb-true other d less)) is.has_transaction)
    by other is false less = ltb-false other d less

-- The connections of a state as a list, and their requests.
use Rattle.std.proofs.Common.{◌≡◌, ℕ, zero, suc, ◌+◌, ◌-◌, ◌<◌, ◌≤◌, ◌==◌, Bool, true, false, cond, List, [], ◌∷◌, ◌++◌, length, get_or, Option, Some, None, refl, sym, ap, ◌∙◌, subst, arith}
use Rattle.std.specs.Prelude.{slice_get, slice_set, unwrap_or}
use Rattle.std.specs.List.{cons_option, filter_map, range_with_len}
use Rattle.std.specs.Option.{option_to_list}
use Rattle.std.proofs.lemmas.List.Elements.{filter_map-append}
use Rattle.std.proofs.lemmas.List.{get_or-set_other, get_or-set_same, length-set}
use Rattle.std.proofs.lemmas.Option.{unwrap_or-slice_get}
use Rattle.std.proofs.lemmas.Bool.{both_ways, eqb-true, eq-eqb}
use Rattle.wat_locks.specs.declared.want.Want.{Want}
use Rattle.wat_locks.specs.declared.held.Held.{Held}
use Rattle.wat_cycle.specs.declared.request.Request.{Request}
use Rattle.wat_steps.specs.Fresh.{connection_with}
use Rattle.wat_steps.specs.State.{ConnectionState, CoreState, requests_of}
use Rattle.wat_steps.specs.Asking.{asking}
use Rattle.wat_core.specs.Parts.{HasParts, connection_of, request_in, requests_in}

-- the connection at a place of the list
pub there_is : (xs : List ConnectionState) (i : ℕ) (k : ConnectionState) → i < length xs → k ≡ get_or xs i k → slice_get xs i ≡ Some k
there_is [] i k low is = absurd (omega arith)
there_is (x ∷ xs) zero k low is = ap Some (sym is)
there_is (x ∷ xs) (suc i) k low is = let less : i < length xs = omega arith in there_is xs i k less is

-- one number more
pub range_more : (a n : ℕ) → range_with_len a (n + 1) ≡ range_with_len a n ++ (a + n) ∷ []
range_more a n = ap (range_with_len a) (up n) ∙ by a n
  where
    up : (m : ℕ) → m + 1 ≡ suc m
    up m = omega arith

    by : (b m : ℕ) → range_with_len b (suc m) ≡ range_with_len b m ++ (b + m) ∷ []
    by b zero = let e : b ≡ b + 0 = omega arith in ap (λ (x : ℕ). x ∷ []) e
    by b (suc m) = let e : (b + 1) + m ≡ b + suc m = omega arith in ap (λ (xs : List ℕ). b ∷ xs) (by (b + 1) m) ∙ ap (λ (x : ℕ). (b ∷ range_with_len (b + 1) m) ++ x ∷ []) e

as_list : {Y : Type 0} (o : Option Y) → cons_option o [] ≡ option_to_list o
as_list None = refl
as_list (Some y) = refl

one_of : {X Y : Type 0} (f : X → Option Y) (x : X) → filter_map f (x ∷ []) ≡ option_to_list (f x)
one_of f x = as_list (f x)

-- one connection more
pub requests_more : (states : List ConnectionState) (i : ℕ) (k : ConnectionState) → slice_get states i ≡ Some k
    → filter_map (λ c. request_in c (connection_of states c)) (range_with_len 1 (i + 1)) ≡ filter_map (λ c. request_in c (connection_of states c)) (range_with_len 1 i) ++ option_to_list (request_in (i + 1) k)
requests_more states i k is =
    ap (filter_map f) (range_more 1 i)
    ∙ filter_map-append f (range_with_len 1 i) ((1 + i) ∷ [])
    ∙ ap (λ (rs : List Request). filter_map f (range_with_len 1 i) ++ rs) (one_of f (1 + i) ∙ ap option_to_list (ap (λ (n : ℕ). f n) up ∙ here))
  where
    f : ℕ → Option Request
    f c = request_in c (connection_of states c)

    up : 1 + i ≡ suc i
    up = omega arith

    same : suc i ≡ i + 1
    same = omega arith

    here : f (suc i) ≡ request_in (i + 1) k
    here = ap (λ (o : Option ConnectionState). request_in (suc i) (unwrap_or o (connection_with None))) is ∙ ap (λ (n : ℕ). request_in n k) same

-- the requests of a state are those of its connections
pub requests_are : (e : CoreState) (states : List ConnectionState) (held : List Held) → HasParts e states held → requests_of e ≡ requests_in states
requests_are e states held parts = λ i. filter_map (λ c. request_in c (parts.connections c i)) (range_with_len 1 (parts.count i))

-- the connection that is anew
set_here : (states : List ConnectionState) (k : ConnectionState) (c d : ℕ) → 1 ≤ c → c ≤ length states → c ≡ d → connection_of (slice_set states (c - 1) k) d ≡ k
set_here states k c d one within same = subst (λ (n : ℕ). connection_of (slice_set states (c - 1) k) n ≡ k) same (by c one within)
  where
    by : (n : ℕ) → 1 ≤ n → n ≤ length states → connection_of (slice_set states (n - 1) k) n ≡ k
    by zero low high = absurd (omega arith)
    by (suc n) low high =
        let back : suc n - 1 ≡ n = omega arith in
        let less : n < length states = omega arith in
        ap (λ (m : ℕ). unwrap_or (slice_get (slice_set states m k) n) (connection_with None)) back
        ∙ unwrap_or-slice_get (slice_set states n k) n (connection_with None)
        ∙ get_or-set_same states n k (connection_with None) less

-- the others stay
set_elsewhere : (states : List ConnectionState) (k : ConnectionState) (c d : ℕ) → 1 ≤ c → (c ≡ d → ⊥) → connection_of (slice_set states (c - 1) k) d ≡ connection_of states d
set_elsewhere states k c zero one other = refl
set_elsewhere states k c (suc d) one other =
    let apart : d ≡ c - 1 → ⊥ = λ e. other (up e) in
    unwrap_or-slice_get (slice_set states (c - 1) k) d (connection_with None)
    ∙ get_or-set_other states (c - 1) d k (connection_with None) apart
    ∙ sym (unwrap_or-slice_get states d (connection_with None))
  where
    up : d ≡ c - 1 → c ≡ suc d
    up e = omega (arith, e, one)

-- a connection anew
pub connection_set : (states : List ConnectionState) (c : ℕ) (k : ConnectionState) (d : ℕ) → 1 ≤ c → c ≤ length states → connection_of (slice_set states (c - 1) k) d ≡ cond (c == d) k (connection_of states d)
connection_set states c k d one within = by (c == d) refl
  where
    by : (b : Bool) → (c == d) ≡ b → connection_of (slice_set states (c - 1) k) d ≡ cond (c == d) k (connection_of states d)
    by true e = set_here states k c d one within (eqb-true c d e) ∙ sym (ap (λ (b : Bool). cond b k (connection_of states d)) e)
    by false e = set_elsewhere states k c d one (λ same. both_ways (c == d) e (eq-eqb c d same)) ∙ sym (ap (λ (b : Bool). cond b k (connection_of states d)) e)

-- the connection of that number
pub connection_here : (e : CoreState) (states : List ConnectionState) (held : List Held) (c : ℕ) (k : ConnectionState) → HasParts e states held → 1 ≤ c → slice_get states (c - 1) ≡ Some k → e.connections c ≡ k
connection_here e states held c k parts one is = by c one is
  where
    by : (n : ℕ) → 1 ≤ n → slice_get states (n - 1) ≡ Some k → e.connections n ≡ k
    by zero low s = absurd (omega arith)
    by (suc n) low s =
        let back : suc n - 1 ≡ n = omega arith in
        parts.connections (suc n) ∙ ap (λ (o : Option ConnectionState). unwrap_or o (connection_with None)) (ap (λ (m : ℕ). slice_get states m) (sym back) ∙ s)

-- the state in which the connection waits
pub asking_parts : (e : CoreState) (states : List ConnectionState) (held : List Held) (c : ℕ) (wants : List Want) (k : ConnectionState) → 1 ≤ c → c ≤ length states
    → HasParts e states held → slice_get states (c - 1) ≡ Some k → HasParts (asking c wants e) (slice_set states (c - 1) (record k { request = Some wants })) held
asking_parts e states held c wants k one within parts is = record {
  count = parts.count ∙ sym (length-set states (c - 1) (record k { request = Some wants }));
  connections = λ d.
      ap (λ (o : ConnectionState). cond (c == d) (record o { request = Some wants }) (e.connections d)) (connection_here e states held c k parts one is)
      ∙ ap (λ (o : ConnectionState). cond (c == d) (record k { request = Some wants }) o) (parts.connections d)
      ∙ sym (connection_set states c (record k { request = Some wants }) d one within);
  held = parts.held;
}

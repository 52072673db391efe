-- The worked steps.
use Rattle.std.proofs.Common.{◌≡◌, ℕ, Bool, true, false, List, [], ◌∷◌, Some, refl, sym, ap, subst, ◌∙◌, inl, inr, map, arith}
use Rattle.std.specs.List.{find}
use Rattle.std.specs.Ordering.{is_lt}
use Rattle.wat_list.specs.Has.{Has, HasSame}
use Rattle.wat_value.specs.declared.value.Value.{Value}
use Rattle.wat_value.specs.Order.{key_cmp, key_eq}
use Rattle.wat_value.specs.Fits.{key_of}
use Rattle.wat_schema.specs.Tables.{Row}
use Rattle.wat_isolation.specs.Sql.{IndexName}
use Rattle.wat_isolation.specs.Naming.{key_in, owner_in, same_key_is}
use Rattle.wat_locks.specs.declared.held.Held.{Held}
use Rattle.wat_locks.specs.Held.{entry, IsNamedBefore, IsLeastOpposing}
use Rattle.wat_level.specs.Wanted.{long_want, read_lock, write_lock}
use Rattle.wat_level.specs.Change.{change_wants}
use Rattle.wat_cycle.specs.declared.request.Request.{Request}
use Rattle.wat_cycle.specs.Walk.{IsWalk, IsCycle}
use Rattle.wat_cycle.specs.Waits.{Blocks}
use Rattle.wat_scans.specs.Running.{Run, Next, Next.ToVisit, Next.ToChange, next}
use Rattle.wat_steps.specs.State.{CoreState, Progressed.Moved, Progressed.Waiting, IsPosition}
use Rattle.wat_steps.specs.Answering.{IsSame}
use Rattle.wat_steps.specs.Visiting.{IsSeen, wants_of}
use Rattle.wat_steps.specs.Making.{IsSpot}
use Rattle.wat_steps.specs.Step.{GoesOn, IsStep}
use Rattle.wat_steps.specs.Cases.{t, t_def, two, insertion, whole, selecting, first_state, second_state, third_state, spot, seen, against_insert}

pub has_itself : {A : Type 0} (xs : List A) → HasSame xs xs
has_itself xs x = (λ h. h, λ h. h)

pub is_itself : (e : CoreState) → IsSame e e
is_itself e = record { held = has_itself e.held; vacant = has_itself e.vacant; others = refl }

-- ---- the row is inserted

abbrev in_t : IndexName
in_t = record { table = 1; index = 0 }

no_position : (run : Run) (key : List Value) → IsPosition (first_state run) in_t key → ⊥
unfolding owner_in
no_position run key (inl p) = absurd (cc p.1.0)
no_position run key (inr h) = absurd h

is_spot : (run : Run) → IsSpot (first_state run) 1 t insertion 0 spot
is_spot run = record {
  number = refl;
  leaves = refl;
  enters = refl;
  successor = λ key e other above at. no_position run other at;
  inherits = (λ e. absurd (cc e), λ h. absurd h.1);
}

made : (run : Run) → GoesOn 1 (first_state run) run (ToChange insertion) Moved (second_state run)
made run = (t, refl, (spot ∷ [], inl (refl, spot, [], refl, is_spot run, refl), inl (λ w wanted h held opposes. held, (refl, is_itself (second_state run)))))

pub inserts : (run : Run) → next run ≡ ToChange insertion → IsStep (first_state run) 1 Moved (second_state run)
unfolding IsStep
inserts run asks = inl (subst (λ (n : Next). GoesOn 1 (first_state run) run n Moved (second_state run)) (sym asks) (made run))

-- ---- the other one waits for it

only_row : (key : List Value) (row : Row) → find (λ (x : Row). key_eq (key_of t_def x) key) (two ∷ []) ≡ Some row → two ≡ key
only_row key row e = by (key_eq two key) refl e
  where
    by : (b : Bool) → key_eq two key ≡ b → find (λ (x : Row). key_eq (key_of t_def x) key) (two ∷ []) ≡ Some row → two ≡ key
    by true same e = same_key_is two key same
    by false same e = absurd (cc)

none_below : (run : Run) (key : List Value) → is_lt (key_cmp key two) ≡ true → IsPosition (second_state run) in_t key → ⊥
unfolding owner_in
none_below run key below (inl p) = no (subst (λ (k : List Value). is_lt (key_cmp k two) ≡ true) (sym (only_row key p.0 p.1.0)) below)
  where
    no : is_lt (key_cmp two two) ≡ true → ⊥
    no e = cc
none_below run key below (inr h) = absurd h

is_seen : (run : Run) → IsSeen (second_state run) in_t whole seen
unfolding owner_in key_in
is_seen run = record {
  first = (refl, inl (two, (refl, refl)), λ other above below at. none_below run other below at);
  row = λ inside. (refl, refl);
}

abbrev inserted_row : Held
inserted_row = entry 1 (long_want (write_lock 1 two))

-- Write on the row, AntiPhantom on its key, and on the end
abbrev first_held : List Held
first_held = map (entry 1) (change_wants t_def insertion (spot ∷ []))

named_first : (h : Held) → Has h first_held → IsNamedBefore inserted_row h
named_first h (inl e) = subst (IsNamedBefore inserted_row) e (inr (refl, omega (arith)))
named_first h (inr (inl e)) = subst (IsNamedBefore inserted_row) e (inr (refl, omega (arith)))
named_first h (inr (inr (inl e))) = subst (IsNamedBefore inserted_row) e (inr (refl, omega (arith)))
named_first h (inr (inr (inr x))) = elim x [ ]

held_by_first : (h : Held) → Has h first_held → h.conn ≡ 1
held_by_first h (inl e) = ap (λ (g : Held). g.conn) (sym e)
held_by_first h (inr (inl e)) = ap (λ (g : Held). g.conn) (sym e)
held_by_first h (inr (inr (inl e))) = ap (λ (g : Held). g.conn) (sym e)
held_by_first h (inr (inr (inr x))) = elim x [ ]

apart : ◌≡◌ {A = ℕ} 1 2 → ⊥
apart e = cc

least : IsLeastOpposing first_held 2 (read_lock 1 two) inserted_row
least = record { stands = inl refl; opposes = (apart, (refl, refl)); first = λ h has opposes. named_first h has }

abbrev asked_by_second : List Request
asked_by_second = record { conn = 2; wants = wants_of selecting whole [] seen } ∷ []

abbrev WaitsFor : ℕ → ℕ → Type 0
WaitsFor = Blocks first_held asked_by_second

to_first : (c d : ℕ) → WaitsFor c d → d ≡ 1
to_first c d b = sym b.7 ∙ held_by_first b.2 b.6

from_second : (c d : ℕ) → WaitsFor c d → c ≡ 2
from_second c d b = by b.0 b.3 b.4
  where
    by : (r : Request) → Has r asked_by_second → r.conn ≡ c → c ≡ 2
    by r (inl e) at = sym at ∙ ap (λ (q : Request). q.conn) (sym e)
    by r (inr x) at = elim x [ ]

no_cycle : (others : List ℕ) → IsCycle WaitsFor 2 others → ⊥
no_cycle [] cycle = apart (sym (to_first 2 2 cycle.0))
no_cycle (x ∷ xs) cycle = apart (sym (to_first 2 x cycle.0.0) ∙ second xs cycle.0.1)
  where
    second : (more : List ℕ) → IsWalk WaitsFor x more 2 → x ≡ 2
    second [] walk = from_second x 2 walk
    second (y ∷ ys) walk = from_second x y walk.0

waiting : (run : Run) → GoesOn 2 (second_state run) selecting (ToVisit whole [] []) (Waiting against_insert) (third_state run)
waiting run = (seen, is_seen run, inr (against_insert, inl (inserted_row, least, refl), inr (no_cycle, refl, is_itself (third_state run))))

pub waits : (run : Run) → IsStep (second_state run) 2 (Waiting against_insert) (third_state run)
unfolding IsStep next
waits run = inl (waiting run)

-- clap's walk over words that do not begin with `-`, below the name of a command.
use Rattle.std.proofs.Common.{◌≡◌, ◌∙◌, ap, ap₂, refl, ℕ, Bool, true, false, List, [], ◌∷◌, Option, Some, None}
use Rattle.std.specs.Prelude.{fold, if◌then◌else◌, ◌||◌}
use Rattle.std.specs.List.{list_any}
use Rattle.clap.specs.Walk.{Held, Row, Rule, Step, Text, Waiting, Walk, after_step, arg_by_index, finished, idle, is_multiple, next_position, nothing_held, positional, positional_held, rows_after, settled, to_positional, value, walked, word_met}
use Rattle.clap.specs.Simple.{Shape}
use Rattle.clap.specs.Kinds.{Kinds, or_else}
use Rattle.clap.specs.Faults.{check_fault, defaults_fault, level_fault, settle_fault, step_fault, turn_fault, walk_fault, word_fault}
use Rattle.wat_words.specs.Commands.{is_dashed}
use Rattle.wat_words.proofs.Undashed.{no_other_fault, word_is_plain}

-- where such a walk stands
pub record Spot : Type 0 where
  pub held : Held
  pub is_many : Bool
  pub position : ℕ
  pub is_trailing : Bool

abbrev pub wait : Bool → Waiting
wait true = positional
wait false = idle

abbrev pub walk_of : Spot → Walk
walk_of q = record { held = q.held; waiting = wait q.is_many; position = q.position; is_trailing = q.is_trailing; stopped = None }

abbrev pub start : Spot
start = record { held = nothing_held; is_many = false; position = 1; is_trailing = false }

abbrev pub spot_by : List Rule → Option Rule → Text → Spot → Spot
spot_by c None a q = q
spot_by c (Some r) a q = record {
  held = positional_held c r a q.held;
  is_many = is_multiple r;
  position = next_position r q.position;
  is_trailing = q.is_trailing || r.trailing_var_arg;
}

abbrev pub next_spot : List Rule → Spot → Text → Spot
next_spot c q a = spot_by c (arg_by_index c q.position) a q

abbrev pub plain_spot : List Rule → Spot → List Text → Spot
plain_spot c q [] = q
plain_spot c q (a ∷ rest) = plain_spot c (next_spot c q a) rest

abbrev pub plain_fault : Shape → Spot → List Text → Kinds
plain_fault s q [] = []
plain_fault s q (a ∷ rest) = or_else (step_fault s q.position q.held value) (plain_fault s (next_spot s.rules q a) rest)

pub either_false : (a b : Bool) → (a || b) ≡ false → (a ≡ false) × (b ≡ false)
either_false true b e = cc
either_false false b e = (refl, e)

met : (c : List Rule) (many trailing : Bool) (p : ℕ) (a : Text) (h : Held) → is_dashed a ≡ false → word_met c [] trailing (wait many) p a h ≡ (h, value)
met c many true p a h plain = refl
met c true false p a h plain = word_is_plain a plain c positional p h
met c false false p a h plain = word_is_plain a plain c idle p h

no_word_fault : (s : Shape) (many trailing : Bool) (a : Text) (h : Held) → is_dashed a ≡ false → word_fault s [] trailing (wait many) a h ≡ []
no_word_fault s many true a h plain = refl
no_word_fault s true false a h plain = no_other_fault a plain s h
no_word_fault s false false a h plain = no_other_fault a plain s h

goes : (c : List Rule) (r : Option Rule) (a : Text) (q : Spot) → to_positional c r a (walk_of q) q.held ≡ walk_of (spot_by c r a q)
goes c None a q = refl
goes c (Some r) a q = by (is_multiple r)
  where
    wait_is : (m : Bool) → (if m then positional else idle) ≡ wait m
    wait_is true = refl
    wait_is false = refl

    by : (m : Bool) → to_positional c (Some r) a (walk_of q) q.held ≡ walk_of (spot_by c (Some r) a q)
    by m = ap (λ (w : Waiting). record (walk_of (spot_by c (Some r) a q)) { waiting = w }) (wait_is (is_multiple r))

step : (c : List Rule) (q : Spot) (a : Text) → is_dashed a ≡ false → walked c [] (walk_of q) a ≡ walk_of (next_spot c q a)
unfolding walked
step c q a plain =
    ap (λ (m : Held × Step). after_step c a (walk_of q) m.0 m.1) (met c q.is_many q.is_trailing q.position a q.held plain)
    ∙ goes c (arg_by_index c q.position) a q

turn : (s : Shape) (q : Spot) (a : Text) → is_dashed a ≡ false → turn_fault s [] (walk_of q) a ≡ step_fault s q.position q.held value
turn s q a plain =
    ap₂ (λ (k : Kinds) (m : Held × Step). or_else k (step_fault s q.position m.0 m.1)) (no_word_fault s q.is_many q.is_trailing a q.held plain)
    (met s.rules q.is_many q.is_trailing q.position a q.held plain)

pub walk_is : (c : List Rule) (q : Spot) (words : List Text) → list_any is_dashed words ≡ false → fold (walked c []) (walk_of q) words ≡ walk_of (plain_spot c q words)
walk_is c q [] plain = refl
walk_is c q (a ∷ rest) plain =
    let both = either_false (is_dashed a) (list_any is_dashed rest) plain in
    ap (λ (w : Walk). fold (walked c []) w rest) (step c q a both.0) ∙ walk_is c (next_spot c q a) rest both.1

pub fault_is : (s : Shape) (q : Spot) (words : List Text) → list_any is_dashed words ≡ false → walk_fault s [] (walk_of q) words ≡ plain_fault s q words
unfolding walk_fault
fault_is s q [] plain = refl
fault_is s q (a ∷ rest) plain =
    let both = either_false (is_dashed a) (list_any is_dashed rest) plain in
    ap₂ (λ (k : Kinds) (w : Walk). or_else k (walk_fault s [] w rest)) (turn s q a both.0) (step s.rules q a both.0)
    ∙ ap (λ (k : Kinds). or_else (step_fault s q.position q.held value) k) (fault_is s (next_spot s.rules q a) rest both.1)

-- after the walk
abbrev pub end_fault : Shape → Held → Kinds
end_fault s h = or_else (settle_fault s.rules s.args_override_self h)
    (or_else (defaults_fault (settled s.rules h).rows s.rules) (check_fault s (finished s.rules h) false))

abbrev pub plain_level : Shape → List Text → Kinds
plain_level s words = or_else (plain_fault s start words) (end_fault s (plain_spot s.rules start words).held)

pub level_is : (s : Shape) (words : List Text) → list_any is_dashed words ≡ false → level_fault s [] nothing_held words false [] ≡ plain_level s words
level_is s words plain =
    ap₂ (λ (k : Kinds) (w : Walk). or_else k (end_fault s w.held)) (fault_is s start words plain) (walk_is s.rules start words plain)

abbrev pub plain_rows : Shape → List Text → List Row
plain_rows s words = finished s.rules (plain_spot s.rules start words).held

pub rows_are : (s : Shape) (words : List Text) → list_any is_dashed words ≡ false → rows_after s.rules [] words ≡ plain_rows s words
rows_are s words plain = ap (λ (w : Walk). finished s.rules w.held) (walk_is s.rules start words plain)

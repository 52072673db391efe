-- How clap reads the name of a command, for any list of subcommands.
use Rattle.std.proofs.Common.{◌≡◌, ◌∙◌, sym, ap, refl, Bool, false, List, [], ◌∷◌, Some, None, map}
use Rattle.std.specs.Prelude.{fold, find, is_some, codes}
use Rattle.std.specs.Str.{bytes_eq}
use Rattle.clap.specs.Walk.{Names, Text, Walk, answers_to, finished, nothing_held, rows_after, settled, stop_after, walk, walk_from, walked}
use Rattle.clap.specs.Simple.{App, Shape, built, entered, label_of}
use Rattle.clap.specs.Kinds.{Kinds, or_else}
use Rattle.clap.specs.Faults.{built_fault, check_fault, defaults_fault, entered_fault, level_fault, settle_fault, turn_fault, walk_fault}
use Rattle.clap.specs.declared.error.ErrorKind.TheVariants.{UnknownArgument, InvalidSubcommand, MissingSubcommand}
use Rattle.clap.specs.declared.error.ErrorKind.{ErrorKind}
use Rattle.clap.proofs.WalkLemmas.{walk_stopped}
use Rattle.clap.proofs.FaultLemmas.{stopped_fault}
use Rattle.wat_words.specs.Commands.{is_dashed}
use Rattle.wat_words.specs.Line.{command_line}
use Rattle.wat_words.proofs.Undashed.{no_dashes, no_long, no_short}

abbrev pub ready_top : Shape
ready_top = (built command_line).top

abbrev pub stopped_at : Text → List Text → Walk
stopped_at name rest = record (walk_from nothing_held) { stopped = Some (name, rest) }

pub or_else_nil : (k : Kinds) → or_else k [] ≡ k
or_else_nil [] = refl
or_else_nil (x ∷ xs) = refl

pub first_wins : (k : ErrorKind) (ks a b : Kinds) → a ≡ k ∷ ks → or_else a b ≡ k ∷ ks
first_wins k ks a b e = ap (λ (t : Kinds). or_else t b) e

-- a level's faults, by the walk over its words
abbrev pub level_by : Shape → Names → List Text → Bool → Kinds → Walk → Kinds
level_by s names words has below w = or_else (walk_fault s names (walk_from nothing_held) words)
    (or_else below (or_else (settle_fault s.rules s.args_override_self w.held)
    (or_else (defaults_fault (settled s.rules w.held).rows s.rules)
    (check_fault s (finished s.rules w.held) has))))

module _ (subs : List Shape) where
  abbrev names : Names
  names = map label_of subs

  abbrev line : App
  line = record { top = ready_top; subs = subs }

  walk_in : (name : Text) (rest : List Text) → find (answers_to name) names ≡ Some (name, [])
      → walk [] names nothing_held (name ∷ rest) ≡ stopped_at name rest
  unfolding walked
  walk_in name rest found =
      let first : walked [] names (walk_from nothing_held) name ≡ stopped_at name [] = rw found refl in
      ap (λ (w : Walk). fold (walked [] names) w rest) first ∙ sym (walk_stopped [] names (walk_from nothing_held) name [] rest)

  no_walk_fault : (name : Text) (rest : List Text) → find (answers_to name) names ≡ Some (name, []) → bytes_eq name (codes "help") ≡ false
      → walk_fault ready_top names (walk_from nothing_held) (name ∷ rest) ≡ []
  unfolding walked walk_fault
  no_walk_fault name rest found other =
      rw (found, other) (stopped_fault ready_top names (walk_from nothing_held) (name, []) rest)

  -- the words of a command are left to its subcommand
  pub enters : (name : Text) (sub : Shape) (rest : List Text) → find (answers_to name) names ≡ Some (name, [])
      → find (λ s. answers_to name (label_of s)) subs ≡ Some sub → bytes_eq name (codes "help") ≡ false
      → built_fault line nothing_held (name ∷ rest) ≡ level_fault sub [] nothing_held rest false []
  unfolding defaults_fault
  enters name sub rest found found_sub other =
      let by : built_fault line nothing_held (name ∷ rest) ≡ level_by ready_top names (name ∷ rest) (is_some (entered line (Some (name, rest)))) (entered_fault line (Some (name, rest))) (stopped_at name rest) =
      ap (λ (w : Walk). level_by ready_top names (name ∷ rest) (is_some (entered line w.stopped)) (entered_fault line w.stopped) w) (walk_in name rest found) in
      let below = level_fault sub [] nothing_held rest false [] in
      let last : or_else (walk_fault ready_top names (walk_from nothing_held) (name ∷ rest)) (or_else below []) ≡ below =
      ap (λ (k : Kinds). or_else k (or_else below [])) (no_walk_fault name rest found other) ∙ or_else_nil below in
      by ∙ rw found_sub last

  pub enters_with : (name : Text) (sub : Shape) (rest : List Text) → find (answers_to name) names ≡ Some (name, [])
      → find (λ s. answers_to name (label_of s)) subs ≡ Some sub
      → entered line (stop_after [] names (name ∷ rest)) ≡ Some (sub.name, rows_after sub.rules [] rest)
  enters_with name sub rest found found_sub =
      ap (λ (w : Walk). entered line w.stopped) (walk_in name rest found) ∙ rw found_sub refl

  -- a word that names no command is refused
  pub refuses : (name : Text) (rest : List Text) → find (answers_to name) names ≡ None → is_dashed name ≡ false
      → built_fault line nothing_held (name ∷ rest) ≡ UnknownArgument ∷ InvalidSubcommand ∷ []
  unfolding walk_fault
  refuses name rest missing plain =
      let turn : turn_fault ready_top names (walk_from nothing_held) name ≡ UnknownArgument ∷ InvalidSubcommand ∷ [] =
      rw (missing, no_dashes name plain, no_long name plain, no_short name plain) refl in
      first_wins _ _ _ _ (first_wins _ _ _ _ turn)

  -- no word at all is refused
  pub refuses_none : built_fault line nothing_held [] ≡ MissingSubcommand ∷ []
  unfolding walk_fault defaults_fault
  refuses_none = refl

-- clap's reading of the words is the definition's.
use Rattle.std.proofs.Common.{◌≡◌, ◌∙◌, sym, ap, subst, refl, Bool, true, false, List, [], ◌∷◌, Option, Some, None, map}
use Rattle.std.specs.Prelude.{codes, not, find, ◌&&◌, ◌||◌}
use Rattle.std.specs.List.{list_any}
use Rattle.std.specs.Str.{bytes_eq}
use Rattle.std.proofs.lemmas.Slice.Eq.{bytes_eq-Decides}
use Rattle.clap.specs.Walk.{Rule, Text, answers_to}
use Rattle.clap.specs.Simple.{Shape, built, label_of, subcommand_of}
use Rattle.clap.specs.Kinds.{Kinds}
use Rattle.clap.specs.Faults.{fault_of}
use Rattle.wat_words.specs.declared.Command.{Command}
use Rattle.wat_words.specs.Commands.{command_of, is_dashed, is_for_clap, plain_of}
use Rattle.wat_words.specs.Line.{command_line, command_named, found_command, run_rules}
use Rattle.wat_words.proofs.TopLaw.{enters, enters_with, refuses, refuses_none}
use Rattle.wat_words.proofs.PlainWalk.{either_false, level_is}
use Rattle.wat_words.proofs.LeafLaws.{LeafReads, Reads, dump_law, init_law, ready, run_law, translate_law}

abbrev subs : List Shape
subs = (built command_line).subs

abbrev pub WordsRead : List Text → Type 0
WordsRead words = Reads (fault_of command_line words) (found_command (subcommand_of command_line words)) (command_of words)

moved : (a b : Kinds) (x y wanted : Option Command) → a ≡ b → x ≡ y → Reads b y wanted → Reads a x wanted
moved a b x y wanted e f h = rw (e, f) h

-- a level that fails
fails : (k : _) (ks a : Kinds) (x wanted : Option Command) → a ≡ k ∷ ks → wanted ≡ None → Reads a x wanted
fails k ks a x wanted e none = rw e none

-- ---- one command

plain_law : (name : Text) (rules : List Rule) (rest : List Text) (wanted : Option Command)
    → find (answers_to name) (map label_of subs) ≡ Some (name, []) → find (λ s. answers_to name (label_of s)) subs ≡ Some (ready name rules)
    → bytes_eq name (codes "help") ≡ false → (ready name rules).name ≡ name
    → list_any is_dashed rest ≡ false → LeafReads name rules rest wanted
    → Reads (fault_of command_line (name ∷ rest)) (found_command (subcommand_of command_line (name ∷ rest))) wanted
plain_law name rules rest wanted found found_sub other named plain leaf =
    let sub = ready name rules in
    moved _ _ _ _ wanted (enters subs name sub rest found found_sub other ∙ level_is sub rest plain)
    (ap found_command (enters_with subs name sub rest found found_sub) ∙ ap command_named named) leaf

-- ---- which name it is

flip : (a b : Text) → bytes_eq a b ≡ false → bytes_eq b a ≡ false
flip a b e = go (bytes_eq b a) refl
  where
    go : (t : Bool) → bytes_eq b a ≡ t → bytes_eq b a ≡ false
    go false f = f
    go true f = let same : a ≡ b = sym ((bytes_eq-Decides b a).0 f) in let bad : bytes_eq a b ≡ true = (bytes_eq-Decides a b).1 same in cc

choose : (P : Text → Type 0) (t name : Text) → P t → (bytes_eq name t ≡ false → P name) → P name
choose P t name hit miss = go (bytes_eq name t) refl
  where
    go : (b : Bool) → bytes_eq name t ≡ b → P name
    go true e = subst P (sym ((bytes_eq-Decides name t).0 e)) hit
    go false e = miss e

record IsOther (name : Text) : Type 0 where
  init : bytes_eq name (codes "init") ≡ false
  run : bytes_eq name (codes "run") ≡ false
  translate : bytes_eq name (codes "translate") ≡ false
  dump : bytes_eq name (codes "dump") ≡ false

by_name : (P : Text → Type 0) → P (codes "init") → P (codes "run") → P (codes "translate") → P (codes "dump") → ((name : Text) → IsOther name → P name) → (name : Text) → P name
by_name P init run translate dump other name =
    choose P (codes "init") name init (λ e0. choose P (codes "run") name run (λ e1. choose P (codes "translate") name translate (λ e2. choose P (codes "dump") name dump (λ e3. other name (record {
      init = e0;
      run = e1;
      translate = e2;
      dump = e3;
    })))))

no_such_command : (name : Text) (rest : List Text) → IsOther name → plain_of name rest ≡ None
no_such_command name rest o = rw (o.init, o.run, o.translate, o.dump) refl

not_found : (name : Text) → IsOther name → find (answers_to name) (map label_of subs) ≡ None
not_found name o = rw (flip _ _ o.init, flip _ _ o.run, flip _ _ o.translate, flip _ _ o.dump) refl

-- ---- the words that clap is given

split : (a b : Bool) → (a && b) ≡ true → (a ≡ true) × (b ≡ true)
split true b e = (refl, e)
split false b e = cc

not_true : (a : Bool) → not a ≡ true → a ≡ false
not_true true e = cc
not_true false e = refl

undashed : (name : Text) (rest : List Text) → is_for_clap (name ∷ rest) ≡ true → (is_dashed name || list_any is_dashed rest) ≡ false
undashed name rest e = not_true _ (split _ _ e).1

abbrev AtName : Text → Type 0
AtName name = (rest : List Text) → (is_dashed name || list_any is_dashed rest) ≡ false
    → Reads (fault_of command_line (name ∷ rest)) (found_command (subcommand_of command_line (name ∷ rest))) (plain_of name rest)

named : (name : Text) (rules : List Rule)
    → find (answers_to name) (map label_of subs) ≡ Some (name, []) → find (λ s. answers_to name (label_of s)) subs ≡ Some (ready name rules)
    → bytes_eq name (codes "help") ≡ false → (ready name rules).name ≡ name
    → ((rest : List Text) → LeafReads name rules rest (plain_of name rest)) → AtName name
named name rules found found_sub other same leaf rest plain =
    plain_law name rules rest (plain_of name rest) found found_sub other same (either_false (is_dashed name) (list_any is_dashed rest) plain).1 (leaf rest)

other_read : (name : Text) → IsOther name → AtName name
other_read name o rest plain =
    fails _ _ _ _ _ (refuses subs name rest (not_found name o) (either_false (is_dashed name) (list_any is_dashed rest) plain).0) (no_such_command name rest o)

pub words_law : (words : List Text) → is_for_clap words ≡ true → WordsRead words
words_law [] readable = fails _ _ _ _ _ (refuses_none subs) refl
words_law (name ∷ rest) readable =
    let plain = undashed name rest readable in
    let is : command_of (name ∷ rest) ≡ plain_of name rest = rw plain refl in
    subst (λ (wanted : Option Command). Reads (fault_of command_line (name ∷ rest)) (found_command (subcommand_of command_line (name ∷ rest))) wanted) (sym is)
    (by_name AtName
    (named (codes "init") [] refl refl refl refl init_law)
    (named (codes "run") run_rules refl refl refl refl run_law)
    (named (codes "translate") [] refl refl refl refl translate_law)
    (named (codes "dump") [] refl refl refl refl dump_law)
    other_read name rest plain)

-- ---- words that clap is not given are no command

help_is_none : (name : Text) (rest : List Text) → bytes_eq name (codes "help") ≡ true → plain_of name rest ≡ None
help_is_none name rest e = subst (λ (n : Text). plain_of n rest ≡ None) (sym ((bytes_eq-Decides name (codes "help")).0 e)) refl

pub refused_law : (words : List Text) → is_for_clap words ≡ false → command_of words ≡ None
refused_law [] e = cc
refused_law (name ∷ rest) e = go (list_any is_dashed (name ∷ rest)) refl (bytes_eq name (codes "help")) refl
  where
    go : (d : Bool) → list_any is_dashed (name ∷ rest) ≡ d → (h : Bool) → bytes_eq name (codes "help") ≡ h → command_of (name ∷ rest) ≡ None
    go true f h g = rw f refl
    go false f true g = rw f (help_is_none name rest g)
    go false f false g = let bad : true ≡ false = rw (g, f) at e in cc

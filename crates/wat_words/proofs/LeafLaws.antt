-- What clap makes of the words after the name of each command.
use Rattle.std.proofs.Common.{◌≡◌, refl, List, [], ◌∷◌, Option, None}
use Rattle.std.specs.Prelude.{codes}
use Rattle.clap.specs.Walk.{Rule, Text}
use Rattle.clap.specs.Simple.{Shape, built_leaf, inherited}
use Rattle.clap.specs.Kinds.{Kinds}
use Rattle.clap.specs.Faults.{defaults_fault}
use Rattle.wat_words.specs.declared.Command.{Command}
use Rattle.wat_words.specs.declared.Command.TheVariants.{Init, Translate, Dump}
use Rattle.wat_words.specs.Commands.{alone, run_of}
use Rattle.wat_words.specs.Line.{command_named, leaf, run_rules}
use Rattle.wat_words.proofs.PlainWalk.{plain_level}
use Rattle.wat_words.proofs.TopLaw.{ready_top}

-- where clap has no fault, the command that was found is the wanted one; else there is none
abbrev pub Reads : Kinds → Option Command → Option Command → Type 0
Reads [] found wanted = found ≡ wanted
Reads (k ∷ ks) found wanted = wanted ≡ None

-- the subcommand as built
abbrev pub ready : Text → List Rule → Shape
ready name rules = built_leaf (inherited ready_top (leaf name rules))

abbrev pub LeafReads : Text → List Rule → List Text → Option Command → Type 0
LeafReads name rules rest wanted = Reads (plain_level (ready name rules) rest) (command_named name) wanted

pub init_law : (rest : List Text) → LeafReads (codes "init") [] rest (alone Init rest)
unfolding defaults_fault
init_law [] = refl
init_law (a ∷ rest) = refl

pub translate_law : (rest : List Text) → LeafReads (codes "translate") [] rest (alone Translate rest)
unfolding defaults_fault
translate_law [] = refl
translate_law (a ∷ rest) = refl

pub dump_law : (rest : List Text) → LeafReads (codes "dump") [] rest (alone Dump rest)
unfolding defaults_fault
dump_law [] = refl
dump_law (a ∷ rest) = refl

pub run_law : (rest : List Text) → LeafReads (codes "run") run_rules rest (run_of rest)
unfolding defaults_fault
run_law [] = refl
run_law (a ∷ []) = refl
run_law (a ∷ b ∷ rest) = refl

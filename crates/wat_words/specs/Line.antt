-- The commands as `clap` sees them, and what the program makes of what `clap` found.
use Rattle.std.specs.Prelude.{ℕ, true, false, List, [], ◌∷◌, codes, Option, None, Some, if◌then◌else◌}
use Rattle.std.specs.Str.{bytes_eq}
use Rattle.clap.specs.Words.{App, Shape, Row, Rule, new_rule}
use Rattle.clap.specs.Simple.{new_shape}
use Rattle.clap.specs.declared.builder.action.ArgAction.TheVariants.{Set}
use Rattle.wat_words.specs.declared.Command.{Command}
use Rattle.wat_words.specs.declared.Command.TheVariants.{Init, Run, Translate, Dump}

-- a word that has to be there
abbrev pub word_rule : List ℕ → Rule
word_rule name = record (new_rule name) { required = true; action = Some Set }

abbrev pub leaf : List ℕ → List Rule → Shape
leaf name rules = record (new_shape name) { rules = rules }

abbrev pub leaf_app : List ℕ → List Rule → App
leaf_app name rules = record { top = leaf name rules; subs = [] }

abbrev pub run_rules : List Rule
run_rules = word_rule (codes "script") ∷ []

abbrev pub leaves : List Shape
leaves = leaf (codes "init") [] ∷ leaf (codes "run") run_rules ∷ leaf (codes "translate") [] ∷ leaf (codes "dump") [] ∷ []

abbrev pub empty_line : App
empty_line = record {
  top = record (new_shape (codes "watsql")) {
    no_binary_name = true;
    disable_help_flag = true;
    disable_help_subcommand = true;
    subcommand_required = true;
  };
  subs = [];
}

abbrev pub command_line : App
command_line = record { top = record empty_line.top { is_leaf = false }; subs = leaves }

-- the command of this name
abbrev pub command_named : List ℕ → Option Command
command_named name =
    if bytes_eq name (codes "init") then Some Init
    else if bytes_eq name (codes "run") then Some Run
    else if bytes_eq name (codes "translate") then Some Translate
    else if bytes_eq name (codes "dump") then Some Dump
    else None

-- the command of the subcommand that `clap` found with its entries
abbrev pub found_command : Option (List ℕ × List Row) → Option Command
found_command None = None
found_command (Some p) = command_named p.0

-- Which lists of words are which command. The words stand without the program's name.
use Rattle.std.specs.Prelude.{ℕ, Bool, true, false, not, ◌&&◌, ◌==◌, List, [], ◌∷◌, Option, None, Some, if◌then◌else◌, codes, drop}
use Rattle.std.specs.List.{list_any}
use Rattle.std.specs.Str.{bytes_eq}
use Rattle.wat_words.specs.declared.Command.{Command}
use Rattle.wat_words.specs.declared.Command.TheVariants.{Init, Run, Translate, Dump}

-- the word begins with `-`
abbrev pub is_dashed : List ℕ → Bool
is_dashed [] = false
is_dashed (c ∷ rest) = c == 45

-- a command with no words after it
abbrev pub alone : Command → List (List ℕ) → Option Command
alone command [] = Some command
alone command (word ∷ rest) = None

-- `run SCRIPT`
abbrev pub run_of : List (List ℕ) → Option Command
run_of (script ∷ []) = Some Run
run_of _ = None

-- the commands, by their name and the words after it
abbrev pub plain_of : List ℕ → List (List ℕ) → Option Command
plain_of name rest =
    if bytes_eq name (codes "init") then alone Init rest
    else if bytes_eq name (codes "run") then run_of rest
    else if bytes_eq name (codes "translate") then alone Translate rest
    else if bytes_eq name (codes "dump") then alone Dump rest
    else None

-- the command that the words are: none where a word begins with `-`
abbrev pub command_of : List (List ℕ) → Option Command
command_of [] = None
command_of (name ∷ rest) = if list_any is_dashed (name ∷ rest) then None else plain_of name rest

-- the words that name the command's scripts
abbrev pub names_of : Command → List (List ℕ) → List (List ℕ)
names_of Init words = []
names_of Run words = drop 1 words
names_of Translate words = []
names_of Dump words = []

-- the words that `clap` is given to read: none begins with `-`, and the first is not `help`
abbrev pub is_for_clap : List (List ℕ) → Bool
is_for_clap [] = true
is_for_clap (name ∷ rest) = not (bytes_eq name (codes "help")) && not (list_any is_dashed (name ∷ rest))

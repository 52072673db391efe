-- From what `try_get_matches_from` ensures to the definition.
use Rattle.std.proofs.Common.{◌≡◌, ◌⊎◌, ◌∙◌, sym, ap, subst, refl, inl, inr, true, List, [], ◌∷◌, Option, None}
use Rattle.clap.specs.Walk.{Text}
use Rattle.clap.specs.Words.{App, HasMatchesOf, IsAmong, Kinds, fault_of, is_simple, is_simple_and_free, subcommand_of, subcommand_rows_of}
use Rattle.clap.specs.declared.parser.matches.ArgMatches.{ArgMatches}
use Rattle.clap.specs.declared.error.ErrorKind.{ErrorKind}
use Rattle.clap.specs.declared.error.ErrorKind.TheVariants.{OutOfMemory}
use Rattle.wat_words.specs.declared.Command.{Command}
use Rattle.wat_words.specs.Commands.{command_of, is_for_clap}
use Rattle.wat_words.specs.Line.{command_line, found_command}
use Rattle.wat_words.proofs.LeafLaws.{Reads}
use Rattle.wat_words.proofs.WordsLaw.{words_law}

simple : is_simple command_line ≡ true
simple = refl

free : is_simple_and_free command_line ≡ true
free = refl

pub taken : (a : App) (words : List Text) (m : ArgMatches) → a ≡ command_line → is_for_clap words ≡ true → HasMatchesOf a words m
    → (is_simple_and_free a ≡ true → fault_of a words ≡ []) → found_command (subcommand_rows_of m) ≡ command_of words
taken a words m e readable matches kinds =
    let empty : fault_of command_line words ≡ [] = subst (λ (x : App). fault_of x words ≡ []) e (kinds (ap is_simple_and_free e ∙ free)) in
    let sub : subcommand_rows_of m ≡ subcommand_of command_line words = (matches (ap is_simple e ∙ simple)).1 ∙ ap (λ (x : App). subcommand_of x words) e in
    ap found_command sub ∙ subst (λ (k : Kinds). Reads k (found_command (subcommand_of command_line words)) (command_of words)) empty (words_law words readable)

refused_by : (k : ErrorKind) (kinds : Kinds) (x wanted : Option Command) → IsAmong k kinds → Reads kinds x wanted → None ≡ wanted
refused_by k [] x wanted among reads = absurd among
refused_by k (y ∷ ys) x wanted among reads = sym reads

pub refused : (a : App) (words : List Text) (k : ErrorKind) → a ≡ command_line → is_for_clap words ≡ true → (k ≡ OutOfMemory → ⊥)
    → (is_simple_and_free a ≡ true → (k ≡ OutOfMemory) ⊎ IsAmong k (fault_of a words)) → None ≡ command_of words
refused a words k e readable other kinds = go (kinds (ap is_simple_and_free e ∙ free))
  where
    go : (k ≡ OutOfMemory) ⊎ IsAmong k (fault_of a words) → None ≡ command_of words
    go (inl memory) = absurd (other memory)
    go (inr among) = refused_by k (fault_of command_line words) _ _ (subst (λ (x : App). IsAmong k (fault_of x words)) e among) (words_law words readable)

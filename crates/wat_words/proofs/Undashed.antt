-- What clap makes of a word that does not begin with `-`.
use Rattle.std.proofs.Common.{◌≡◌, refl, ℕ, false, List, [], ◌∷◌, None}
use Rattle.std.specs.Str.{bytes_eq}
use Rattle.clap.specs.Lexer.{long_of, short_of}
use Rattle.clap.specs.Walk.{Held, Rule, Text, Waiting, plain_word, subcommand_or_other}
use Rattle.clap.specs.Simple.{Shape}
use Rattle.clap.specs.Faults.{other_fault}
use Rattle.wat_words.specs.Commands.{is_dashed}

module _ (a : Text) (plain : is_dashed a ≡ false) where
  pub no_dashes : bytes_eq a (45 ∷ 45 ∷ []) ≡ false
  no_dashes = go a plain
    where
      go : (t : Text) → is_dashed t ≡ false → bytes_eq t (45 ∷ 45 ∷ []) ≡ false
      go [] p = refl
      go (x ∷ xs) p = rw p refl

  pub no_long : long_of a ≡ None
  no_long = go a plain
    where
      go : (t : Text) → is_dashed t ≡ false → long_of t ≡ None
      go [] p = refl
      go (x ∷ xs) p = rw p refl

  pub no_short : short_of a ≡ None
  no_short = go a plain
    where
      go : (t : Text) → is_dashed t ≡ false → short_of t ≡ None
      go [] p = refl
      go (x ∷ xs) p = rw p refl

  pub word_is_plain : (c : List Rule) (waiting : Waiting) (position : ℕ) (h : Held) → subcommand_or_other c None waiting position a h ≡ plain_word c waiting a h
  word_is_plain c waiting position h = rw (no_dashes, no_long, no_short) refl

  pub no_other_fault : (s : Shape) (h : Held) → other_fault s None a h ≡ []
  no_other_fault s h = rw (no_dashes, no_long, no_short) refl

use Rattle.std.proofs.Common.{◌∙◌, sym, map, string_bytes}
use Rattle.clap.specs.Words.{app_of, kind_of}
use Rattle.wat_words.proofs.WordsLaw.{refused_law}
use Rattle.wat_words.proofs.ReadLemmas.{refused, taken}
use Rattle.wat_words.proofs.read_words.Goals as goal

pub returns-then-not-is_for_clap-clause-command : goal.returns-then-not-is_for_clap-clause-command
returns-then-not-is_for_clap-clause-command c = sym (refused_law (map string_bytes c.args.words.now) (sym c.is_for_clap.ensures ∙ c.if-not-is_for_clap.true))

pub returns-in-Ok-clause-command : goal.returns-in-Ok-clause-command
returns-in-Ok-clause-command c =
    c.found_command.ensures
    ∙ taken (app_of c.in_ok-line.line) (map string_bytes c.args.words.now) c.in-Ok.matches c.in_ok-line.ensures
    (sym c.is_for_clap.ensures ∙ c.if-not-is_for_clap.false) c.in-Ok.ensures.matches c.in-Ok.ensures.kinds

pub returns-clause-command : goal.returns-clause-command
returns-clause-command c =
    refused (app_of c.in_ok-line.line) (map string_bytes c.args.words.now) (kind_of c.in-Err.error) c.in_ok-line.ensures
    (sym c.is_for_clap.ensures ∙ c.if-not-is_for_clap.false) (λ q. c.in_default.not-OutOfMemory (c.kind.ensures ∙ q)) c.in-Err.ensures.kinds

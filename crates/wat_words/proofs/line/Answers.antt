use Rattle.std.proofs.Common.{◌∙◌, ap, ap₂}
use Rattle.std.proofs.lemmas.Result.{IfOk-weaker}
use Rattle.clap.specs.Words.{App, Shape, with_subcommand}
use Rattle.wat_words.proofs.line.Goals as goal

abbrev top_of : App → Shape
top_of a = a.top

pub returns : goal.returns
returns c =
    let s0 = c.empty_line.ensures in
    let s1 = c.in_ok-subcommand.ensures.shape c.alone.ensures.local ∙ ap₂ with_subcommand s0 (ap top_of c.alone.ensures.app) in
    let s2 = c.in_ok-subcommand-2.ensures.shape c.in_ok-run.ensures.local ∙ ap₂ with_subcommand s1 (ap top_of c.in_ok-run.ensures.app) in
    let s3 = c.in_ok-subcommand-3.ensures.shape c.alone-2.ensures.local ∙ ap₂ with_subcommand s2 (ap top_of c.alone-2.ensures.app) in
    IfOk-weaker c.subcommand-4.result _ _ (λ r h. h.shape c.alone-3.ensures.local ∙ ap₂ with_subcommand s3 (ap top_of c.alone-3.ensures.app)) c.subcommand-4.ensures

use Rattle.std.proofs.Common.{◌∙◌, sym, ap}
use Rattle.wat_word.specs.Words.{is_name}
use Rattle.wat_record.proofs.ReadingLemmas.{no_name_of, not_utf8, not_name}
use Rattle.wat_record.proofs.reading.read_name.Goals as goal

pub returns-in_default-from_utf8 : goal.returns-in_default-from_utf8
returns-in_default-from_utf8 c =
    no_name_of c.args.bytes.now c.in-Some.text.now c.in-Some.rest.now c.in-Some.ensures (not_utf8 c.in-Some.text.now c.in_default-from_utf8.ensures.cases.0)

pub returns-in-None : goal.returns-in-None
returns-in-None c =
    let none = rw c.in-None.is at c.in_ok-name.ensures.none in
    no_name_of c.args.bytes.now c.in-Some.text.now c.in-Some.rest.now c.in-Some.ensures
    (not_name c.in-Some.text.now (ap is_name (sym c.in-Ok.ensures.cases.0) ∙ none))

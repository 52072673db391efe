use Rattle.std.proofs.lemmas.Str.{utf8_valid_len-IsUtf8}
use Rattle.wat_begin.proofs.scripts.not_text_at.Goals as goal

pub returns-in-Ok-clause-whole : goal.returns-in-Ok-clause-whole
returns-in-Ok-clause-whole c = utf8_valid_len-IsUtf8 c.args.bytes.now c.in-Ok.ensures.cases.1

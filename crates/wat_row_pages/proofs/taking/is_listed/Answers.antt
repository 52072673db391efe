use Rattle.std.proofs.Common.{◌∙◌}
use Rattle.wat_payload.proofs.Seen.{contains_is}
use Rattle.wat_row_pages.proofs.taking.is_listed.Goals as goal

pub returns : goal.returns
returns c = c.contains.ensures ∙ contains_is c.args.set.now.keys c.args.page

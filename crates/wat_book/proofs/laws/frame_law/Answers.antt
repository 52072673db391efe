use Rattle.wat_book.proofs.Working.{same_section, same_works, works_on}
use Rattle.wat_book.proofs.laws.frame_law.Goals as goal

pub returns : goal.returns
returns c = record { others = same_section; none = same_works; more = works_on }

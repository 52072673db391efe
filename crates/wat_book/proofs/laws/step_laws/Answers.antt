use Rattle.wat_book.proofs.Working.{takes_free, takes_new, gives, writes, same_owned, saved_owned, section_saved}
use Rattle.wat_book.proofs.laws.step_laws.Goals as goal

pub returns : goal.returns
returns c = record {
  takes_free = takes_free;
  takes_new = takes_new;
  gives = gives;
  writes = writes;
  same = same_owned;
  saved = saved_owned;
  saved_others = section_saved;
}

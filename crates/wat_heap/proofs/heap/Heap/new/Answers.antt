use Rattle.std.proofs.Common.{Option, None, refl, sym, ap, ◌∙◌}
use Rattle.wat_directory.specs.Known.{room_left}
use Rattle.wat_heap.proofs.heap.Heap.new.Goals as goal

pub returns : goal.returns
returns c defs = record {
  on = λ page. None;
  place = λ table key. None;
  stand = λ page. tt;
  named = record { allowed = λ page. tt; once = λ page table key. refl; found = λ table key. refl };
  knows = record {
    pages = c.new.ensures.pages;
    places = c.new.ensures.places;
    rooms = λ page. c.new.ensures.rooms page ∙ sym (ap room_left (c.new.ensures.pages page));
    are = c.new.ensures.are;
  };
}

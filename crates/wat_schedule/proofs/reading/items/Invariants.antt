use Rattle.std.proofs.Common.{◌≡◌, map}
use Rattle.std.specs.List.{All}
use Rattle.wat_schedule.specs.Schedule.{IsConnection, item_text}
use Rattle.wat_schedule.proofs.reading.items.Given as goal

abbrev pub invariant-loop-word : goal.invariant-loop-word
invariant-loop-word l =
    record {
      can_next : (goal.iterator-loop-word).can_next l.word-iterator;
      is_finite : (goal.iterator-loop-word).is_finite l.word-iterator;
      read : map item_text l.items ≡ map (λ w. w.now) l.yielded;
      within : All (λ item. IsConnection l.count item.conn) l.items;
    }

use Rattle.std.proofs.Common.{◌≡◌, ◌+◌, ◌++◌, drop}
use Rattle.std.specs.List.{flat_map, enumerate_from}
use Rattle.wat_print.specs.Printed.{entry_text}
use Rattle.wat_print.proofs.session.push_entries.Given as goal

-- the text so far, and that of what is left
abbrev pub invariant-loop-i : goal.invariant-loop-i
invariant-loop-i l =
    l.out.items ++ flat_map (entry_text l.names) (enumerate_from (l.i + 1) (drop l.i l.entries))
    ≡ l.fn.out.items ++ flat_map (entry_text l.names) (enumerate_from 1 l.entries)

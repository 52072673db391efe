use Rattle.std.proofs.Common.{◌≡◌, ◌++◌, List, Ok, map, take, string_bytes}
use Rattle.wat_begin.specs.Readings.{Reading, AreReadings, scripts_of}
use Rattle.wat_begin.proofs.scripts.read_scripts.Given as goal

-- the scripts so far were asked for and read, and are text
abbrev pub invariant-loop-i : goal.invariant-loop-i
invariant-loop-i g l =
    let told = g.L.Scripts.texts in
    let asked = g.L.Scripts.asked in
    let faults = g.L.Scripts.faults in
    let names = take l.i (map string_bytes l.names) in
    record {
      read : (rs : List Reading) × AreReadings (told l.fn.scripts) (faults l.fn.scripts) (faults l.scripts) names rs × (scripts_of 1 rs ≡ Ok l.texts);
      asked : asked l.scripts ≡ asked l.fn.scripts ++ names;
      texts : told l.scripts ≡ told l.fn.scripts;
      kept : faults l.scripts ≡ faults l.fn.scripts;
    }

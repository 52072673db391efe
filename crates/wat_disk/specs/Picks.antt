-- What a stop leaves, where one of what it may leave is picked.
use Rattle.std.specs.Prelude.{ℕ, ◌+◌, ◌-◌, min, List, [], ◌∷◌, length, replicate, ◌==◌, if◌then◌else◌}
use Rattle.wat_disk.specs.declared.replay.Pick.{Pick}
use Rattle.wat_disk.specs.declared.replay.Pick.TheVariants.{Old, New, Torn}
use Rattle.wat_disk.specs.Bytes.{written}
use Rattle.wat_disk.specs.Disk.{Image}
use Rattle.wat_disk.specs.Acts.{Act, Wrote, Synced, content_after}

-- what is left of a write of these bytes: nothing, all of it, or one byte throughout its range and the gap before it
abbrev pub pick_written : Pick → List ℕ → ℕ → List ℕ → List ℕ
pick_written Old old at bytes = old
pick_written New old at bytes = written old at bytes
pick_written (Torn byte) old at bytes =
    let from = min at (length old) in written old from (replicate (at + length bytes - from) byte)

-- what is left after one act more, where a read gave so much before it and so much was left
abbrev pub pick_next : Pick → Image → Image → Act → Image
pick_next pick content left (Wrote changed at bytes) file = if file == changed then pick_written pick (left file) at bytes else left file
pick_next pick content left (Synced synced) file = if file == synced then content file else left file

-- what is left after these acts, the newest of them first
abbrev pub picked_after : Pick → Image → List Act → Image
picked_after pick base [] = base
picked_after pick base (act ∷ earlier) = pick_next pick (content_after base earlier) (picked_after pick base earlier) act

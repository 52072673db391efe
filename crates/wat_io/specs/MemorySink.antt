use Rattle.std.specs.Prelude.{ℕ, ◌-◌, ◌==◌, ◌||◌, Bool, List, length}
use Rattle.wat_io.specs.Calls as calls
use Rattle.wat_io.specs.declared.memory_sink.MemorySink.{MemorySink}

-- what it took
abbrev pub bytes_of : MemorySink → List ℕ
bytes_of sink = sink.taken.items

-- for how many bytes in all there is room
abbrev pub room_of : MemorySink → ℕ
room_of sink = sink.room

-- for how many bytes there is room yet
abbrev pub room_left : MemorySink → ℕ
room_left sink = room_of sink - length (bytes_of sink)

-- the numbers of the writes that fail, from 0
abbrev pub fails_of : MemorySink → List ℕ
fails_of sink = sink.writes.failing.items

-- how many writes were made, which is the next one's number
abbrev pub writes_of : MemorySink → ℕ
writes_of sink = sink.writes.made

-- whether the next write is one of those that fail, or finds no room
abbrev pub is_to_fail : MemorySink → Bool
is_to_fail sink = calls.is_to_fail sink.writes || room_left sink == 0

-- how often a write has failed
abbrev pub faults_of : MemorySink → ℕ
faults_of sink = sink.writes.faults

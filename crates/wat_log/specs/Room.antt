-- The room that a log has for a commit.
use Rattle.std.specs.Prelude.{ℕ, ◌+◌, ◌<◌, ◌^◌, List, length}
use Rattle.wat_gate.specs.declared.gate_log.GateLog.{GateLog}

-- The log ends below 2^64 with a frame of these bytes and a Commit record behind them too.
abbrev pub HasCommitRoom : GateLog → List ℕ → Type 0
HasCommitRoom log bytes = log.end + 9 + length bytes < 2 ^ 64

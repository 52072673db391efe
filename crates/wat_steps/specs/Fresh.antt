-- The state in which nothing is done.
use Rattle.std.specs.Prelude.{ℕ, zero, suc, true, false, List, [], length, slice_get, Option, Some, None}
use Rattle.wat_schema.specs.Tables.{Tables}
use Rattle.wat_parse.specs.Statements.{statements_of}
use Rattle.wat_steps.specs.State.{ConnectionState, CoreState}

-- a connection that has this script before it
abbrev pub asked : List ℕ → ConnectionState
asked script = record {
  script = script;
  left = statements_of script;
  transcript = [];
  level = 0;
  blocking = true;
  transaction = None;
  work = None;
  request = None;
  has_ended = false;
}

-- Connections are numbered from 1. Any other number has nothing to do.
abbrev pub script_of : List (List ℕ) → ℕ → Option (List ℕ)
script_of scripts zero = None
script_of scripts (suc c) = slice_get scripts c

abbrev pub connection_with : Option (List ℕ) → ConnectionState
connection_with None = record (asked []) { left = []; has_ended = true }
connection_with (Some script) = asked script

unfoldable pub fresh : Tables → List (List ℕ) → CoreState
fresh base scripts = record {
  base = base;
  committed = base;
  now = base;
  count = length scripts;
  connections = λ c. connection_with (script_of scripts c);
  held = [];
  vacant = [];
  moments = [];
  stop = None;
}

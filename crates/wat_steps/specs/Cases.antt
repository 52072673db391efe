-- Two connections over a small table: one inserts a row, and the other comes to it.
use Rattle.std.specs.Prelude.{pos, true, false, ◌==◌, if◌then◌else◌, [], ◌∷◌, Some, None, codes}
use Rattle.wat_value.specs.declared.value.Value.TheVariants.{Int}
use Rattle.wat_value.specs.declared.bound.Bound.TheVariants.{Free}
use Rattle.wat_value.specs.declared.place.Place.TheVariants.{At, End}
use Rattle.wat_value.specs.declared.change.Change.{Change}
use Rattle.wat_value.specs.declared.change.Change.TheVariants as change
use Rattle.wat_value.specs.declared.definition.Kind.TheVariants as kind
use Rattle.wat_value.specs.declared.definition.TableDef.{TableDef}
use Rattle.wat_ast.specs.declared.query.Query.{Query}
use Rattle.wat_ast.specs.declared.statement.Statement.TheVariants as s
use Rattle.wat_schema.specs.Catalog.{Listing}
use Rattle.wat_schema.specs.Tables.{Row, Tables}
use Rattle.wat_meaning.specs.Meaning.{rows_where}
use Rattle.wat_locks.specs.declared.held.Against.{Against}
use Rattle.wat_level.specs.declared.change.Spot.{Spot}
use Rattle.wat_level.specs.Wanted.{write_lock}
use Rattle.wat_plan.specs.declared.choice.PlanStep.{PlanStep}
use Rattle.wat_scans.specs.declared.scan.Scan.{Scan}
use Rattle.wat_scans.specs.declared.scan.Seen.{Seen}
use Rattle.wat_scans.specs.Running.{Run}
use Rattle.wat_steps.specs.State.{ConnectionState, CoreState}
use Rattle.wat_steps.specs.Answering.{no_changes}
use Rattle.wat_steps.specs.Asking.{asking}
use Rattle.wat_steps.specs.Visiting.{wants_of}
use Rattle.wat_steps.specs.Making.{changed}

-- t (k INTEGER PRIMARY KEY)
abbrev pub t_def : TableDef
t_def = record { number = 1; name = codes "t"; columns = record { name = codes "k"; kind = kind.Integer; nullable = false } ∷ []; key = 0 ∷ [] }

abbrev pub t : Listing
t = record { def = t_def; indexes = [] }

abbrev pub no_rows : Tables
no_rows = record { tables = record { def = t_def; indexes = []; rows = [] } ∷ []; next = 2 }

abbrev pub two : Row
two = Int (pos 2) ∷ []

-- the row is to be inserted
abbrev pub insertion : Change
insertion = change.Insert 1 two

abbrev pub primary : PlanStep
primary = record { source = 0; index = 0 }

abbrev pub whole : Scan
whole = record { step = primary; interval = record { lower = Free; upper = Free }; from = Free }

abbrev pub rows_of_t : Query
rows_of_t = rows_where (codes "t") None

-- SELECT * FROM t, before its first visit
abbrev pub selecting : Run
selecting = record {
  task = record { statement = s.Select rows_of_t; plan = record { query = rows_of_t; sources = t ∷ []; steps = primary ∷ [] }; target = None };
  level = 3;
  progress = Some (record { scan = Some whole; taken = []; met = [] });
  made = [];
}

-- a connection at level 3 that waits for locks, with this statement under way
abbrev pub running : Run → ConnectionState
running run = record {
  script = [];
  left = record { from = 0; to = 0 } ∷ [];
  transcript = [];
  level = 3;
  blocking = true;
  transaction = Some no_changes;
  work = Some run;
  request = None;
  has_ended = false;
}

-- The first connection has a statement under way that inserts the row, the second one a SELECT, and nothing is done yet.
abbrev pub first_state : Run → CoreState
first_state inserting = record {
  base = no_rows;
  committed = no_rows;
  now = no_rows;
  count = 2;
  connections = λ c. if c == 1 then running inserting else running selecting;
  held = [];
  vacant = [];
  moments = [];
  stop = None;
}

-- no position lies past the row
abbrev pub spot : Spot
spot = record { index = 0; leaves = None; enters = Some two; successor = End; inherits = false }

-- the row is inserted
abbrev pub second_state : Run → CoreState
second_state inserting = changed 1 (first_state inserting) inserting t insertion (spot ∷ [])

-- the SELECT comes to it
abbrev pub seen : Seen
seen = record { place = At two; row = Some two }

abbrev pub against_insert : Against
against_insert = record { holder = 1; lock = write_lock 1 two }

-- and waits
abbrev pub third_state : Run → CoreState
third_state inserting = asking 2 (wants_of selecting whole [] seen) (second_state inserting)

-- The state of the core: what connections have asked, what they have done, and what they hold.
use Rattle.std.specs.Prelude.{ℕ, ◌==◌, Bool, List, map, Option, if◌then◌else◌}
use Rattle.std.specs.List.{filter_map, range_with_len}
use Rattle.std.specs.Option.{option_map}
use Rattle.wat_value.specs.declared.value.Value.{Value}
use Rattle.wat_value.specs.declared.bound.Bound.{Bound}
use Rattle.wat_value.specs.declared.place.Place.{Place}
use Rattle.wat_value.specs.declared.change.Change.{Change}
use Rattle.wat_value.specs.Bounds as bounds
use Rattle.wat_schema.specs.Catalog.{Catalog, Name}
use Rattle.wat_schema.specs.Tables.{Tables, catalog_of}
use Rattle.wat_parse.specs.declared.script.Span.{Span}
use Rattle.wat_isolation.specs.Sql.{IndexName}
use Rattle.wat_locks.specs.declared.want.Want.{Want}
use Rattle.wat_locks.specs.declared.held.Held.{Held}
use Rattle.wat_locks.specs.declared.held.Against.{Against}
use Rattle.wat_cycle.specs.declared.request.Request.{Request}
use Rattle.wat_conn.specs.declared.answer.Reason.{Reason}
use Rattle.wat_conn.specs.declared.session.Entry.{Entry}
use Rattle.wat_scans.specs.Look.{look}
use Rattle.wat_scans.specs.Running.{Run}
use Rattle.wat_scans.specs.Sources as sources

-- ---- a connection

-- An open transaction: its changes that are not undone, the first one first, and its savepoints, the latest first, each with how many changes stood
-- there.
pub record OpenTransaction : Type 0 where
  pub standing : List Change
  pub savepoints : List (Name × ℕ)

-- what a connection is asked, has been answered and has under way
pub record ConnectionState : Type 0 where
  pub script : List ℕ
  -- the places of the statements that have no answer yet
  pub left : List Span
  pub transcript : List Entry
  pub level : ℕ
  -- it waits for locks, instead of being told that another connection holds them
  pub blocking : Bool
  pub transaction : Option OpenTransaction
  -- the statement under way
  pub work : Option Run
  -- what it waits for
  pub request : Option (List Want)
  pub has_ended : Bool

-- ---- all connections

-- a key that no row has any more, and the connection whose open transaction moved or deleted the row that had it
pub record VacantKey : Type 0 where
  pub conn : ℕ
  pub index : IndexName
  pub key : List Value

pub record CoreState : Type 0 where
  -- the tables when the session began
  pub base : Tables
  -- those that the commits have made of it
  pub committed : Tables
  -- and those with the changes of all open transactions, too
  pub now : Tables
  -- how many connections there are
  pub count : ℕ
  -- from 1 on
  pub connections : ℕ → ConnectionState
  pub held : List Held
  pub vacant : List VacantKey
  -- of the commits
  pub moments : List ℕ
  pub stop : Option Reason

-- what a step is seen to do
pub data Progressed : Type 0 where
  Moved : Progressed
  Answered : Progressed
  Waiting : Against → Progressed
  Ended : Progressed

abbrev pub schema_of : CoreState → Catalog
schema_of e = catalog_of e.now

-- ---- requests

abbrev pub request_of : CoreState → ℕ → Option Request
request_of e c = option_map (λ wants. record { conn = c; wants = wants }) (e.connections c).request

-- the requests of the connections that wait
abbrev pub requests_of : CoreState → List Request
requests_of e = filter_map (request_of e) (range_with_len 1 e.count)

-- ---- positions

-- the keys that are vacant, whoever left them
abbrev pub vacant_keys : CoreState → List (IndexName × List Value)
vacant_keys e = map (λ (v : VacantKey). (v.index, v.key)) e.vacant

-- a position of an index: the key of a row that stands now, or a vacant key
abbrev pub IsPosition : CoreState → IndexName → List Value → Type 0
IsPosition e = sources.IsPosition (schema_of e) (look e.now) (vacant_keys e)

-- the first position that a bound admits, or the end
abbrev pub IsFirstFrom : CoreState → IndexName → Bound → Place → Type 0
IsFirstFrom e i bound place = bounds.IsFirstFrom (IsPosition e i) bound place

-- ---- one connection's state anew

abbrev pub with_connection : ℕ → ConnectionState → CoreState → CoreState
with_connection c k e = record e { connections = λ d. if c == d then k else e.connections d }

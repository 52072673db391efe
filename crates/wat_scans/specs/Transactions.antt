-- The statements of a transaction, one after another, over tables as lists.
use Rattle.std.specs.Prelude.{◌≡◌, List, [], ◌∷◌, ◌++◌, Option, Some}
use Rattle.wat_value.specs.declared.change.Act.{Act}
use Rattle.wat_value.specs.Changes.{RowName}
use Rattle.wat_ast.specs.declared.statement.Statement.{Statement}
use Rattle.wat_schema.specs.Catalog.{Catalog}
use Rattle.wat_schema.specs.Tables.{Row, Tables, apply_all}
use Rattle.wat_meaning.specs.declared.reply.Reply.{Reply}
use Rattle.wat_meaning.specs.Meaning.{meaning_checked}
use Rattle.wat_isolation.specs.Logs.{Item, view, Alone}
use Rattle.wat_isolation.specs.Naming.{scheme_of}
use Rattle.wat_isolation.specs.Sql.{sql}
use Rattle.wat_scans.specs.Look.{IsOf}

-- A checked statement, what was recorded of it, the newest first, and its acts. What it said is kept where it is to be its meaning: not at a lower
-- level, nor where others stood in its way.
pub record Entry : Type 0 where
  pub asked : Statement
  pub items : List (Item sql)
  pub acts : List Act
  pub said : Option Reply

-- Over every tables by which what was recorded is so, the statement means what it said, with its acts; and what is recorded is what these do.
pub record IsDetermined (c : Catalog) (e : Entry) : Type 0 where
  pub means : (f : RowName → Option Row) (t : Tables) → IsOf c f t → Alone sql (scheme_of c) f e.items → (reply : Reply) → e.said ≡ Some reply → meaning_checked t e.asked ≡ record { answer = reply; acts = e.acts }
  pub moves : (f : RowName → Option Row) (t : Tables) → IsOf c f t → Alone sql (scheme_of c) f e.items → (after : Tables) × (apply_all e.acts t ≡ Some after) × IsOf c (view sql f e.items) after

abbrev pub AllDetermined : Catalog → List Entry → Type 0
AllDetermined c [] = Unit {0}
AllDetermined c (e ∷ more) = IsDetermined c e × AllDetermined c more

-- the log of these statements, the last one first
abbrev pub log_of : List Entry → List (Item sql)
log_of [] = []
log_of (e ∷ more) = e.items ++ log_of more

-- The acts of these statements, the last one first, lead from the first tables to the last, and each statement means what it said over the
-- tables that the acts of those before it leave.
abbrev pub EachSays : Tables → List Entry → Tables → Type 0
EachSays first [] last = first ≡ last
EachSays first (e ∷ more) last =
    (mid : Tables) × EachSays first more mid × (apply_all e.acts mid ≡ Some last)
    × ((reply : Reply) → e.said ≡ Some reply → meaning_checked mid e.asked ≡ record { answer = reply; acts = e.acts })

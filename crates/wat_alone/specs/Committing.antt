-- The transactions that statements commit.
use Rattle.std.specs.Prelude.{List, [], ◌∷◌, Bool, true, false, Option, None, Some}
use Rattle.std.specs.List.{flat_map}
use Rattle.wat_value.specs.declared.change.Change.{Change}
use Rattle.wat_value.specs.declared.change.Act.{Act}
use Rattle.wat_value.specs.declared.change.Act.TheVariants.{OnRow, OnSchema}
use Rattle.wat_commit_log.specs.Logged.{Transaction, OfRows, OfSchema}
use Rattle.wat_alone.specs.Alone.{Turn}

-- what is committed by the changes that are given out, if they are, or by the one act that is a change of the schema
abbrev pub committed : Option (List Change) → List Act → List Transaction
committed (Some changes) acts = OfRows changes ∷ []
committed None (OnSchema change ∷ []) = OfSchema change ∷ []
committed None acts = []

-- the transaction that a statement commits, if it commits one
abbrev pub committed_by : Turn → List Transaction
committed_by t = committed t.commits t.acts

-- a transaction without changes has no frame
abbrev pub framed : Transaction → List Transaction
framed (OfRows []) = []
framed (OfRows (change ∷ changes)) = OfRows (change ∷ changes) ∷ []
framed (OfSchema change) = OfSchema change ∷ []

-- those that have a frame
abbrev pub saved : List Transaction → List Transaction
saved transactions = flat_map framed transactions

abbrev pub is_of_schema : Act → Bool
is_of_schema (OnSchema change) = true
is_of_schema (OnRow change) = false

-- The pages of the worked files stand for what the records of their log reach.
use Rattle.std.proofs.Common.{◌≡◌, ◌≢◌, ℕ, ◌+◌, ◌<◌, ◌≤◌, ◌==◌, Bool, true, false, List, [], ◌∷◌, ◌++◌, take, Some, refl, sym, ◌∙◌, ap, arith, rules}
use Rattle.std.specs.Prelude.{if◌then◌else◌}
use Rattle.std.specs.List.{flat_map}
use Rattle.std.proofs.lemmas.Bool.{ne_eqb}
use Rattle.wat_word.specs.Words.{keyword, reserved}
use Rattle.wat_gate.specs.Bodies.{bodies, body_of}
use Rattle.wat_value.specs.Encoding.{count_bytes, int_bytes}
use Rattle.wat_value.specs.declared.change.Change.{Change}
use Rattle.wat_value.specs.declared.change.Change.TheVariants.{Insert}
use Rattle.wat_value.specs.declared.change.SchemaChange.TheVariants.{CreateTable}
use Rattle.wat_schema.specs.Tables.{Row, Tables}
use Rattle.wat_log_record.specs.declared.log_record.LogRecord.{LogRecord}
use Rattle.wat_log_record.specs.declared.log_record.LogRecord.TheVariants.{Changed, Commit, Schema}
use Rattle.wat_log_record.specs.Encoding.{number_bytes, record_bytes}
use Rattle.wat_log_record.specs.Bodies.{SpellsRecords, SpellsLog}
use Rattle.wat_replay.specs.State.{State, Lists, no_lists, empty_state, connections}
use Rattle.wat_replay.specs.Replay.{lists_after, Applies, AppliesAll, Replays}
use Rattle.wat_files.specs.Formed.{IsSound, state_of}
use Rattle.wat_files_worked.specs.Files
use Rattle.wat_files_worked.proofs.Whole.{def, row, tables, is_formed}

abbrev insert : ℕ → ℕ → LogRecord
insert key value = Changed 1 (Insert 1 (row key value))

abbrev first : List LogRecord
first = Schema (CreateTable def) ∷ []

abbrev second : List LogRecord
second = insert 1 10 ∷ insert 3 30 ∷ insert 5 50 ∷ Commit 1 ∷ []

abbrev tables_with : List Row → Tables
tables_with rows = record { tables = record { def = def; indexes = []; rows = rows } ∷ []; next = 2 }

abbrev lists_2 : Lists
lists_2 = lists_after (insert 1 10) no_lists

abbrev lists_3 : Lists
lists_3 = lists_after (insert 3 30) lists_2

abbrev lists_4 : Lists
lists_4 = lists_after (insert 5 50) lists_3

abbrev lists_5 : Lists
lists_5 = lists_after (Commit 1) lists_4

in_range : 1 < connections
unfolding connections
in_range = omega arith

made : Applies (Schema (CreateTable def)) empty_state (record { tables = tables_with []; lists = no_lists })
made = record { conn = tt; allowed = λ conn. refl; tables = refl; lists = refl }

inserted_1 : Applies (insert 1 10) (record { tables = tables_with []; lists = no_lists }) (record { tables = tables_with (row 1 10 ∷ []); lists = lists_2 })
inserted_1 = record { conn = in_range; allowed = λ other differ. refl; tables = refl; lists = refl }

inserted_3 : Applies (insert 3 30) (record { tables = tables_with (row 1 10 ∷ []); lists = lists_2 }) (record { tables = tables_with (row 1 10 ∷ row 3 30 ∷ []); lists = lists_3 })
inserted_3 = record { conn = in_range; allowed = λ other differ. (let e : (1 == other) ≡ false = ne_eqb 1 other (λ same. differ (sym same)) in rw e refl); tables = refl; lists = refl }

inserted_5 : Applies (insert 5 50) (record { tables = tables_with (row 1 10 ∷ row 3 30 ∷ []); lists = lists_3 }) (record { tables = tables; lists = lists_4 })
inserted_5 = record { conn = in_range; allowed = λ other differ. (let e : (1 == other) ≡ false = ne_eqb 1 other (λ same. differ (sym same)) in rw e refl); tables = refl; lists = refl }

committed : Applies (Commit 1) (record { tables = tables; lists = lists_4 }) (record { tables = tables; lists = lists_5 })
committed = record { conn = in_range; allowed = tt; tables = refl; lists = refl }

none_left : (b : Bool) (x y z : List Change) → (if b then [] else (if b then x else (if b then y else (if b then z else [])))) ≡ []
none_left true x y z = refl
none_left false x y z = refl

same_lists : (conn : ℕ) → lists_5 conn ≡ no_lists conn
same_lists conn = none_left (1 == conn) (lists_4 1) (lists_3 1) (lists_2 1)

replayed : Replays (first ++ second) (state_of tables no_lists)
replayed = (
  record { tables = tables_with []; lists = no_lists },
  made,
  (
    record { tables = tables_with (row 1 10 ∷ []); lists = lists_2 },
    inserted_1,
    (
      record { tables = tables_with (row 1 10 ∷ row 3 30 ∷ []); lists = lists_3 },
      inserted_3,
      (
        record { tables = tables; lists = lists_4 },
        inserted_5,
        (record { tables = tables; lists = lists_5 }, committed, λ i. record { tables = tables; lists = λ conn. same_lists conn i }),
      ),
    ),
  ),
)

spells_first : SpellsRecords (5 ∷ 1 ∷ Files.definition) first
unfolding number_bytes count_bytes keyword reserved
spells_first = record { spelled = refl; some = λ e. cc; encodable = search rules }

spells_second : SpellsRecords (Files.inserted 1 10 ++ Files.inserted 3 30 ++ Files.inserted 5 50 ++ 3 ∷ 0 ∷ 1 ∷ []) second
unfolding number_bytes count_bytes int_bytes
spells_second = record { spelled = refl; some = λ e. cc; encodable = search rules }

spells_log : SpellsLog (take 2 (bodies Files.log)) (first ++ second)
unfolding bodies body_of
spells_log = (first, second, spells_first, refl, (second, [], spells_second, refl, refl))

pub is_sound : IsSound Files.whole_files
is_sound = record { formed = is_formed; agrees = record { earlier = first ++ second; spelled = spells_log; replayed = replayed } }

-- What is drawn at the number 7, as another program computed it from the rules.
use Rattle.std.specs.Prelude.{◌≡◌, [], ◌∷◌, codes, map}
use Rattle.std.specs.List.{range_with_len}
use Rattle.wat_gen.specs.declared.statement.Statement.TheVariants.{CreateIndex, Insert, Update, Delete, Count, Commit, SetLevel}
use Rattle.wat_gen.specs.Statements.{drawn_transaction}
use Rattle.wat_gen.specs.Session.{level_of, script_text}
use Rattle.wat_gen.specs.Schedule.{drawn_turn, turn_of}

-- the first transaction
abbrev pub FirstTransaction : Type 0
FirstTransaction = (drawn_transaction 7).0 ≡ Delete 231 ∷ Update 19 673 678 ∷ Insert 764 39 ∷ Commit ∷ []

-- the first turn
abbrev pub FirstTurn : Type 0
FirstTurn = (drawn_turn 7).0 ≡ turn_of 7

-- the levels of the scripts, from the first one on
abbrev pub Levels : Type 0
Levels = map level_of (range_with_len 1 8) ≡ 3 ∷ 2 ∷ 3 ∷ 0 ∷ 3 ∷ 2 ∷ 3 ∷ 0 ∷ []

-- statements as they are written
abbrev pub Texts : Type 0
Texts =
    (script_text (CreateIndex ∷ Insert 10 1 ∷ Delete 231 ∷ Commit ∷ []) ≡ codes "CREATE INDEX gv ON g (v); INSERT INTO g VALUES (10, 1); DELETE FROM g WHERE k = 231; COMMIT;") × (script_text (SetLevel 2 ∷ Update 19 673 678 ∷ Count 32 41 ∷ []) ≡ codes "SET TEMPORARY OPTION ISOLATION_LEVEL = 2; UPDATE g SET v = 19 WHERE k BETWEEN 673 AND 678; SELECT COUNT(*), SUM(k) FROM g WHERE v BETWEEN 32 AND 41;")

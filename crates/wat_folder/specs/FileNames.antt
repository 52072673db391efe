-- The names of the files in the folder of a real disk.
use Rattle.std.specs.Prelude.{ℕ, List, [], ◌∷◌, codes, slice_index_or}

-- the names, in the order of the files' numbers
abbrev pub file_names : List (List ℕ)
file_names =
    codes "main.wat" ∷ codes "before.wat" ∷ codes "log.wat" ∷ codes "backup.wat" ∷ codes "copy.wat" ∷ codes "mirror.wat" ∷ codes "leader.wat" ∷ codes "spare.wat" ∷ []

-- the name of a file
abbrev pub file_name : ℕ → List ℕ
file_name file = slice_index_or file_names file []

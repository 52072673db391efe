-- Words, reserved words and names.
use Rattle.std.specs.Prelude.{ℕ, Bool, not, ◌&&◌, ◌||◌, if◌then◌else◌, ◌==◌, nat_le, List, [], ◌∷◌, length, codes, slice_index, Option, Some, None, is_some}
use Rattle.std.specs.Char.{is_ascii_alphabetic, is_ascii_alphanumeric, is_ascii_uppercase}
use Rattle.std.specs.List.{list_all}
use Rattle.std.specs.Str.{str_eq_ignore_ascii_case}
use denote.Enum.Bare.{sameb}
use Rattle.wat_word.specs.contracts.keyword.Keyword.{the_type}
use Rattle.wat_word.specs.declared.keyword.Keyword.{Keyword}
use Rattle.wat_word.specs.declared.keyword.Keyword.TheVariants as k

-- a letter, or `_`
abbrev pub begins_word : ℕ → Bool
begins_word b = is_ascii_alphabetic b || b == 95

-- a letter, a digit, or `_`
abbrev pub is_word_byte : ℕ → Bool
is_word_byte b = is_ascii_alphanumeric b || b == 95

-- letters, digits and `_`, of which the first is no digit: at most 128 bytes in all
abbrev pub is_word : List ℕ → Bool
is_word t = nat_le (length t) 128 && begins_word (slice_index t 0) && list_all is_word_byte t

-- no letter is a capital
abbrev pub is_lower : List ℕ → Bool
is_lower = list_all (λ b. not (is_ascii_uppercase b))

-- the reserved words
unfoldable pub reserved : List (List ℕ × Keyword)
reserved =
    (codes "AND", k.And) ∷ (codes "AS", k.As) ∷ (codes "ASC", k.Asc) ∷ (codes "BETWEEN", k.Between) ∷
    (codes "BLOCKING", k.Blocking) ∷ (codes "BY", k.By) ∷ (codes "CHAR", k.Char) ∷ (codes "CHECKPOINT", k.Checkpoint) ∷
    (codes "COMMIT", k.Commit) ∷ (codes "COUNT", k.Count) ∷ (codes "CREATE", k.Create) ∷ (codes "DELETE", k.Delete) ∷
    (codes "DESC", k.Desc) ∷ (codes "DISTINCT", k.Distinct) ∷ (codes "DROP", k.Drop) ∷ (codes "FOREIGN", k.Foreign) ∷
    (codes "FROM", k.From) ∷ (codes "GROUP", k.Group) ∷ (codes "HAVING", k.Having) ∷ (codes "IN", k.In) ∷
    (codes "INDEX", k.Index) ∷ (codes "INSERT", k.Insert) ∷ (codes "INT", k.Int) ∷ (codes "INTEGER", k.Integer) ∷
    (codes "INTO", k.Into) ∷ (codes "IS", k.Is) ∷ (codes "ISOLATION_LEVEL", k.IsolationLevel) ∷ (codes "KEY", k.Key) ∷
    (codes "MAX", k.Max) ∷ (codes "MIN", k.Min) ∷ (codes "NOT", k.Not) ∷ (codes "NULL", k.Null) ∷
    (codes "NUMERIC", k.Numeric) ∷ (codes "OFF", k.Off) ∷ (codes "ON", k.On) ∷ (codes "OPTION", k.Option) ∷
    (codes "OR", k.Or) ∷ (codes "ORDER", k.Order) ∷ (codes "PRIMARY", k.Primary) ∷ (codes "REFERENCES", k.References) ∷
    (codes "RELEASE", k.Release) ∷ (codes "RESTRICT", k.Restrict) ∷ (codes "ROLLBACK", k.Rollback) ∷ (codes "SAVEPOINT", k.Savepoint) ∷
    (codes "SELECT", k.Select) ∷ (codes "SET", k.Set) ∷ (codes "SUM", k.Sum) ∷ (codes "TABLE", k.Table) ∷
    (codes "TEMPORARY", k.Temporary) ∷ (codes "TO", k.To) ∷ (codes "UPDATE", k.Update) ∷ (codes "VALUES", k.Values) ∷
    (codes "VARCHAR", k.Varchar) ∷ (codes "WHERE", k.Where) ∷ (codes "WORK", k.Work) ∷ []

-- the same letters, where a capital is the same as its small letter
abbrev pub is_same_word : List ℕ → List ℕ → Bool
is_same_word = str_eq_ignore_ascii_case

abbrev pub is_same_keyword : Keyword → Keyword → Bool
is_same_keyword = sameb the_type

-- what the first entry with this word stands for
abbrev pub read_by : List (List ℕ × Keyword) → List ℕ → Option Keyword
read_by [] t = None
read_by (w ∷ ws) t = if is_same_word w.0 t then Some w.1 else read_by ws t

-- the word of the first entry that stands for this
abbrev pub spelled_in : List (List ℕ × Keyword) → Keyword → List ℕ
spelled_in [] w = []
spelled_in (v ∷ vs) w = if is_same_keyword v.1 w then v.0 else spelled_in vs w

-- where the words stand in the list that begin with this small letter, from one place up to another; for another byte the whole list
abbrev pub places : ℕ → ℕ × ℕ
places letter =
    if letter == 97 then (0, 3) else
    (if letter == 98 then (3, 6) else
    (if letter == 99 then (6, 11) else
    (if letter == 100 then (11, 15) else
    (if letter == 102 then (15, 17) else
    (if letter == 103 then (17, 18) else
    (if letter == 104 then (18, 19) else
    (if letter == 105 then (19, 27) else
    (if letter == 107 then (27, 28) else
    (if letter == 109 then (28, 30) else
    (if letter == 110 then (30, 33) else
    (if letter == 111 then (33, 38) else
    (if letter == 112 then (38, 39) else
    (if letter == 114 then (39, 43) else
    (if letter == 115 then (43, 47) else
    (if letter == 116 then (47, 50) else
    (if letter == 117 then (50, 51) else
    (if letter == 118 then (51, 53) else
    (if letter == 119 then (53, 55) else
    (0, 55)))))))))))))))))))

-- how a reserved word is spelled, in capitals
unfoldable pub spelling : Keyword → List ℕ
spelling = spelled_in reserved

-- the reserved word that a text spells, in any case
unfoldable pub keyword : List ℕ → Option Keyword
keyword = read_by reserved

-- whether a text is a reserved word, in any case
abbrev pub is_reserved : List ℕ → Bool
is_reserved t = is_some (keyword t)

-- a word in lower case that is not reserved
abbrev pub is_name : List ℕ → Bool
is_name t = is_word t && is_lower t && not (is_reserved t)

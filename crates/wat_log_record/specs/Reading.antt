-- What bytes begin with, for the contracts of the readers of parts.
use Rattle.std.specs.Prelude.{◌≡◌, ℕ, List, ◌++◌, length}
use Rattle.std.specs.List.{AllByRecursion}
use Rattle.wat_value.specs.declared.definition.Column.{Column}
use Rattle.wat_log_record.specs.Encoding.{IsEncodableColumn}

-- The bytes are those of x, and the rest behind them.
pub record Begins {X : Type 0} (spell : X → List ℕ) (Can : X → Type 0) (bytes : List ℕ) (x : X) (rest : List ℕ) : Type 0 where
  pub spelled : bytes ≡ spell x ++ rest
  pub can : Can x

-- They begin with those of no x.
abbrev pub BeginsNone : {X : Type 0} → (X → List ℕ) → (X → Type 0) → List ℕ → Type 0
BeginsNone {X = X} spell Can bytes = (x : X) → Can x → (rest : List ℕ) → bytes ≡ spell x ++ rest → ⊥

-- this many columns, each of which can be spelled
pub record AreColumns (count : ℕ) (columns : List Column) : Type 0 where
  pub many : length columns ≡ count
  pub each : AllByRecursion IsEncodableColumn columns

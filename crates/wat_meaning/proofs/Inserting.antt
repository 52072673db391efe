-- The rows that an INSERT makes have values of their columns' types.
use Rattle.std.proofs.Common.{◌≡◌, ℕ, zero, suc, Bool, true, false, List, [], ◌∷◌, map, get_or, Option, Some, None, unwrap_or, slice_get, slice_index_or, nat_eq, position, refl, sym, ap, ap₂, ◌∙◌}
use Rattle.std.specs.List.{find, list_any, list_all}
use Rattle.std.specs.Option.{option_map, option_and_then, option_map_or}
use Rattle.std.specs.Str.{bytes_eq}
use Rattle.std.specs.Cmp.Lexicographic.{pointwise}
use Rattle.std.proofs.lemmas.Bool.{and_parts, and_from, or_parts, eqb-true, eq-eqb}
use Rattle.std.proofs.lemmas.List.Quantifiers.{position-Some}
use Rattle.std.proofs.lemmas.Option.{slice_get-get_or}
use Rattle.wat_value.specs.declared.value.Value.{Value}
use Rattle.wat_value.specs.declared.value.Value.TheVariants as v
use Rattle.wat_value.specs.declared.definition.Kind.{Kind}
use Rattle.wat_value.specs.declared.definition.Column.{Column}
use Rattle.wat_value.specs.declared.definition.TableDef.{TableDef}
use Rattle.wat_value.specs.Fits.{has_type}
use Rattle.wat_schema.specs.Catalog.{Name, Catalog, def_at, ordinal, repeats}
use Rattle.wat_schema.specs.Definitions.{same_name}
use Rattle.wat_schema.specs.Tables.{Row}
use Rattle.wat_schema.proofs.LookUps.{find_by_position}
use Rattle.wat_types.specs.declared.typing.ExprType.{ExprType}
use Rattle.wat_types.specs.declared.typing.ExprType.TheVariants.{Null}
use Rattle.wat_types.specs.Types.{kind_type}
use Rattle.wat_typing.specs.Rules.{column_type, type_named, goes_into, misfits, given_types}
use Rattle.wat_meaning.specs.Meaning.{given_columns, given_value, given_row}
use Rattle.wat_meaning.proofs.Typed.{is_of, goes}
use Rattle.wat_meaning.proofs.Passed.{each_goes, kind_at, kind_named, type_named_is}
use Rattle.wat_meaning.proofs.Fitting.{has_kind, is_typed}

pub same_bytes : (a b : List ℕ) → bytes_eq a b ≡ true → a ≡ b
same_bytes [] [] h = refl
same_bytes [] (y ∷ ys) h = cc
same_bytes (x ∷ xs) [] h = cc
same_bytes (x ∷ xs) (y ∷ ys) h =
    let p = and_parts (nat_eq x y) (bytes_eq xs ys) h in
    ap₂ (λ (a : ℕ) (rest : List ℕ). a ∷ rest) (eqb-true x y p.0) (same_bytes xs ys p.1)

pub bytes_itself : (a : List ℕ) → bytes_eq a a ≡ true
bytes_itself [] = refl
bytes_itself (x ∷ xs) = and_from (nat_eq x x) (bytes_eq xs xs) (eq-eqb x x refl) (bytes_itself xs)

none_at : {X : Type 0} (p : X → Bool) (xs : List X) (j : ℕ) (x : X) → list_any p xs ≡ false → slice_get xs j ≡ Some x → p x ≡ false
none_at p [] j x none at = cc
none_at p (y ∷ ys) zero x none at =
    let is : y ≡ x = cc in
    ap p (sym is) ∙ (or_parts (p y) (list_any p ys) none).0
none_at p (y ∷ ys) (suc j) x none at = none_at p ys j x (or_parts (p y) (list_any p ys) none).1 at

-- ---- columns by name, where no name is given twice

found_itself : (columns : List Column) (j : ℕ) (column : Column) → repeats same_name columns ≡ false → slice_get columns j ≡ Some column
    → find (λ other. bytes_eq column.name other.name) columns ≡ Some column
found_itself [] j column once at = cc
found_itself (c ∷ cs) zero column once at =
    let is : c ≡ column = cc in
    let here : bytes_eq column.name c.name ≡ true = ap (λ (z : Column). bytes_eq column.name z.name) is ∙ bytes_itself column.name in
    rw here (ap Some is)
found_itself (c ∷ cs) (suc j) column once at =
    let p = or_parts (list_any (λ y. same_name y c) cs) (repeats same_name cs) once in
    let other : bytes_eq column.name c.name ≡ false = none_at (λ y. same_name y c) cs j column p.0 at in
    rw other (found_itself cs j column p.1 at)

by_place : (def : TableDef) (o : Option ℕ) → unwrap_or (option_map (kind_at def) o) Null ≡ unwrap_or (option_map column_type (option_and_then (slice_get def.columns) o)) Null
by_place def None = refl
by_place def (Some i) = refl

-- the type of a column is found by its name
kind_of_column : (def : TableDef) (j : ℕ) (column : Column) → repeats same_name def.columns ≡ false → slice_get def.columns j ≡ Some column → kind_named def column.name ≡ kind_type column.kind
kind_of_column def j column once at =
    by_place def (ordinal def column.name)
    ∙ ap (λ (o : Option Column). unwrap_or (option_map column_type o) Null) (sym (find_by_position (λ other. bytes_eq column.name other.name) def.columns) ∙ found_itself def.columns j column once at)

-- ---- the columns that are given values

-- each named column has its type in the list
abbrev Agree : TableDef → List Name → List ExprType → Type 0
Agree def names types = (i : ℕ) (name : Name) → slice_get names i ≡ Some name → slice_get types i ≡ Some (kind_named def name)

agree_named : (c : Catalog) (n : ℕ) (def : TableDef) → def_at c n ≡ Some def → (names : List Name) → Agree def names (map (type_named c (Some n)) names)
agree_named c n def is [] i name at = cc
agree_named c n def is (x ∷ xs) zero name at =
    let same : x ≡ name = cc in
    ap Some (type_named_is c n def x is ∙ ap (kind_named def) same)
agree_named c n def is (x ∷ xs) (suc i) name at = agree_named c n def is xs i name at

mapped_at : {X Y : Type 0} (f : X → Y) (xs : List X) (i : ℕ) (y : Y) → slice_get (map f xs) i ≡ Some y → (x : X) × (slice_get xs i ≡ Some x) × (f x ≡ y)
mapped_at f [] i y at = cc
mapped_at f (x ∷ xs) zero y at = (x, refl, (let is : f x ≡ y = cc in is))
mapped_at f (x ∷ xs) (suc i) y at = mapped_at f xs i y at

map_at : {X Y : Type 0} (f : X → Y) (xs : List X) (i : ℕ) (x : X) → slice_get xs i ≡ Some x → slice_get (map f xs) i ≡ Some (f x)
map_at f [] i x at = cc
map_at f (y ∷ ys) zero x at = let is : y ≡ x = cc in ap (λ (z : _). Some (f z)) is
map_at f (y ∷ ys) (suc i) x at = map_at f ys i x at

agree_all : (def : TableDef) → repeats same_name def.columns ≡ false → Agree def (map (λ column. column.name) def.columns) (map column_type def.columns)
agree_all def once i name at =
    let m = mapped_at (λ (column : Column). column.name) def.columns i name at in
    map_at column_type def.columns i m.0 m.1 ∙ ap Some (sym (kind_of_column def i m.0 once m.1) ∙ ap (kind_named def) m.2)

pub agree : (c : Catalog) (n : ℕ) (def : TableDef) → def_at c n ≡ Some def → repeats same_name def.columns ≡ false → (columns : Option (List Name))
    → Agree def (given_columns def columns) (given_types c (Some n) columns)
agree c n def is once (Some names) = agree_named c n def is names
agree c n def is once None = λ i name at.
    ap (λ (o : Option TableDef). slice_get (map column_type (option_map_or (λ d. d.columns) o [])) i) is ∙ agree_all def once i name at

-- ---- values

value_fits : (kind : Kind) (given types : List ExprType) (values : Row) (i : ℕ) → misfits given types ≡ false → pointwise is_of types values ≡ true → slice_get given i ≡ Some (kind_type kind)
    → has_type kind (slice_index_or values i v.Null) ≡ true
value_fits kind [] types values i fit are at = cc
value_fits kind (g ∷ gs) [] [] i fit are at = refl
value_fits kind (g ∷ gs) [] (w ∷ ws) i fit are at = cc
value_fits kind (g ∷ gs) (t ∷ ts) [] i fit are at = cc
value_fits kind (g ∷ gs) (t ∷ ts) (w ∷ ws) zero fit are at =
    let is : g ≡ kind_type kind = cc in
    goes kind t w (ap (goes_into t) (sym is) ∙ (each_goes g t gs ts fit).0) (and_parts (is_of t w) (pointwise is_of ts ws) are).0
value_fits kind (g ∷ gs) (t ∷ ts) (w ∷ ws) (suc i) fit are at = value_fits kind gs ts ws i (each_goes g t gs ts fit).1 (and_parts (is_of t w) (pointwise is_of ts ws) are).1 at

typed_map : (f : Column → Value) (columns : List Column) → ((j : ℕ) (column : Column) → slice_get columns j ≡ Some column → has_kind column (f column) ≡ true) → is_typed columns (map f columns) ≡ true
typed_map f [] each = refl
typed_map f (c ∷ cs) each = and_from (has_kind c (f c)) (is_typed cs (map f cs)) (each zero c refl) (typed_map f cs (λ j column at. each (suc j) column at))

one_given : (def : TableDef) (names : List Name) (given types : List ExprType) (values : Row) → repeats same_name def.columns ≡ false → Agree def names given → misfits given types ≡ false
    → pointwise is_of types values ≡ true → (j : ℕ) (column : Column) → slice_get def.columns j ≡ Some column → has_kind column (given_value names values column) ≡ true
one_given def names given types values once agrees fit are j column at = by (position (bytes_eq column.name) names) refl
  where
    by : (o : Option ℕ) → position (bytes_eq column.name) names ≡ o → has_kind column (unwrap_or (option_map (λ i. slice_index_or values i v.Null) o) v.Null) ≡ true
    by None h = refl
    by (Some i) h =
        let found = position-Some (bytes_eq column.name) names i [] h in
        let name = get_or names i [] in
        value_fits column.kind given types values i fit are
        (agrees i name (slice_get-get_or names i [] found.0) ∙ ap Some (ap (kind_named def) (sym (same_bytes column.name name found.1)) ∙ kind_of_column def j column once at))

-- a row that INSERT makes of values that go into their columns
pub given_typed : (c : Catalog) (n : ℕ) (def : TableDef) → def_at c n ≡ Some def → repeats same_name def.columns ≡ false → (columns : Option (List Name)) (types : List ExprType) (values : Row)
    → misfits (given_types c (Some n) columns) types ≡ false → pointwise is_of types values ≡ true → is_typed def.columns (given_row def columns values) ≡ true
given_typed c n def is once columns types values fit are =
    typed_map (given_value (given_columns def columns) values) def.columns
    (one_given def (given_columns def columns) (given_types c (Some n) columns) types values once (agree c n def is once columns) fit are)

pub all_given : (c : Catalog) (n : ℕ) (def : TableDef) → def_at c n ≡ Some def → repeats same_name def.columns ≡ false → (columns : Option (List Name)) (types : List ExprType) (rows : List Row)
    → misfits (given_types c (Some n) columns) types ≡ false → list_all (pointwise is_of types) rows ≡ true → list_all (is_typed def.columns) (map (given_row def columns) rows) ≡ true
all_given c n def is once columns types [] fit are = refl
all_given c n def is once columns types (row ∷ rows) fit are =
    let p = and_parts (pointwise is_of types row) (list_all (pointwise is_of types) rows) are in
    and_from (is_typed def.columns (given_row def columns row)) (list_all (is_typed def.columns) (map (given_row def columns) rows))
    (given_typed c n def is once columns types row fit p.0) (all_given c n def is once columns types rows fit p.1)

-- The schema change of a CREATE or DROP that breaks no rule is allowed.
use Rattle.std.proofs.Common.{◌≡◌, ℕ, zero, suc, ◌+◌, ◌≤◌, ◌==◌, nat_lt, nat_le, Bool, true, false, not, ◌&&◌, ◌||◌, List, [], ◌∷◌, ◌++◌, map, length, get_or, slice_get, position, Option, Some, None, unwrap_or, cond, IsSome, is_some, is_none, refl, sym, ap, ap₂, ◌∙◌, append-nil, arith}
use Rattle.std.specs.Prelude.{IsSomeAnd}
use Rattle.std.specs.List.{find, list_any, list_all, flat_map, filter_map, fold, position_from}
use Rattle.std.specs.Option.{option_map, option_and_then}
use Rattle.std.specs.Str.{bytes_eq}
use Rattle.std.proofs.lemmas.Bool.{and_parts, and_from, or_parts, or_from, or_left, or_right, not_from_false, le-leb, eqb-true, eq-eqb, ltb-false}
use Rattle.std.proofs.lemmas.List.{map-append, length-map}
use Rattle.std.proofs.lemmas.List.Quantifiers.{position-Some}
use Rattle.std.proofs.lemmas.Option.{slice_get-get_or}
use Rattle.wat_value.specs.declared.definition.Column.{Column}
use Rattle.wat_value.specs.declared.definition.Kind.TheVariants.{Integer}
use Rattle.wat_value.specs.declared.definition.TableDef.{TableDef}
use Rattle.wat_value.specs.declared.definition.IndexDef.{IndexDef}
use Rattle.wat_value.specs.declared.change.SchemaChange.TheVariants as schema
use Rattle.wat_ast.specs.declared.statement.Element.{Element}
use Rattle.wat_ast.specs.declared.statement.Statement.TheVariants.{CreateTable}
use Rattle.wat_schema.specs.Catalog.{Name, Catalog, Listing, has_name, has_number, table_named, listing_at, listing_named, has_index_named, repeats}
use Rattle.wat_schema.specs.Definitions.{number_named, same_name, width, width_of, widths, width_at, takes_null, may_be_null, lacks_column, is_bad_key, is_bad_length, is_full, table_rules, bad_definition, bad_table, bad_index, bad_index_at, is_definition, next_index, next_index_at, allows_index_here, allows_index_of, allows}
use Rattle.wat_rules.specs.Changes.{column_of, keys_of, numbers_named, with_key, made_table, made_index, IsAllowed}

-- ---- rules and names

none_broken : (rules : List Bool) (n i : ℕ) (b : Bool) → is_none (position_from (λ broken. broken) n rules) ≡ true → slice_get rules i ≡ Some b → b ≡ false
none_broken [] n i b h at = cc
none_broken (true ∷ rs) n i b h at = cc
none_broken (false ∷ rs) n zero b h at = let is : false ≡ b = cc in sym is
none_broken (false ∷ rs) n (suc i) b h at = none_broken rs (n + 1) i b h at

same_bytes : (a b : List ℕ) → bytes_eq a b ≡ true → a ≡ b
same_bytes [] [] h = refl
same_bytes [] (y ∷ ys) h = cc
same_bytes (x ∷ xs) [] h = cc
same_bytes (x ∷ xs) (y ∷ ys) h =
    let p = and_parts (x == y) (bytes_eq xs ys) h in
    ap₂ (λ (a : ℕ) (rest : List ℕ). a ∷ rest) (eqb-true x y p.0) (same_bytes xs ys p.1)

bytes_itself : (a : List ℕ) → bytes_eq a a ≡ true
bytes_itself [] = refl
bytes_itself (x ∷ xs) = and_from (x == x) (bytes_eq xs xs) (eq-eqb x x refl) (bytes_itself xs)

all_too : {X : Type 0} (p q : X → Bool) → ((x : X) → p x ≡ true → q x ≡ true) → (xs : List X) → list_all p xs ≡ true → list_all q xs ≡ true
all_too p q too [] h = refl
all_too p q too (x ∷ xs) h =
    let parts = and_parts (p x) (list_all p xs) h in
    and_from (q x) (list_all q xs) (too x parts.0) (all_too p q too xs parts.1)

-- ---- DROP

some_here : (found : Bool) (t : Listing) (rest : Option Listing) → found ≡ true → IsSome (cond found (Some t) rest)
some_here true t rest is = refl
some_here false t rest is = cc

some_later : (found : Bool) (t : Listing) (rest : Option Listing) → IsSome rest → IsSome (cond found (Some t) rest)
some_later true t rest some = refl
some_later false t rest some = some

number_here : (p : Listing → Bool) (t : Listing) (tables : List Listing) (number : ℕ) (passes : Bool)
    → option_map (λ (t : Listing). t.def.number) (cond passes (Some t) (find p tables)) ≡ Some number
    → (option_map (λ (t : Listing). t.def.number) (find p tables) ≡ Some number → IsSome (find (has_number number) tables))
    → IsSome (cond (has_number number t) (Some t) (find (has_number number) tables))
number_here p t tables number true is later =
    let same : number ≡ t.def.number = cc in
    some_here (has_number number t) t (find (has_number number) tables) (eq-eqb number t.def.number same)
number_here p t tables number false is later = some_later (has_number number t) t (find (has_number number) tables) (later is)

-- the number of a table that is found is found
number_found : (p : Listing → Bool) (tables : List Listing) (number : ℕ) → option_map (λ (t : Listing). t.def.number) (find p tables) ≡ Some number → IsSome (find (has_number number) tables)
number_found p [] number is = cc
number_found p (t ∷ tables) number is = number_here p t tables number (p t) is (λ rest. number_found p tables number rest)

pub drop_allowed : (c : Catalog) (name : Name) → IsSome (table_named c name) → IsSomeAnd (option_map schema.DropTable (table_named c name)) (λ change. allows change c ≡ true)
drop_allowed c name = by (table_named c name) refl
  where
    by : (o : Option ℕ) → table_named c name ≡ o → IsSome o → IsSomeAnd (option_map schema.DropTable o) (λ change. allows change c ≡ true)
    by None e some = cc
    by (Some n) e some = number_found (has_name name) c.tables n e

-- ---- CREATE INDEX

pub index_allowed : (c : Catalog) (name table : Name) (columns : List Name) → IsSome (table_named c table) → has_index_named c name ≡ false
    → option_and_then (λ n. bad_index_at c n (numbers_named c n columns)) (table_named c table) ≡ None
    → IsSomeAnd (option_and_then (λ n. option_map (made_index c name n columns) (next_index_at c n)) (table_named c table)) (λ change. allows change c ≡ true)
index_allowed c name table columns some free = by (table_named c table) refl some
  where
    at : (n : ℕ) (o : Option Listing) → listing_at c n ≡ o → IsSome o → option_and_then (λ t. bad_index t (numbers_named c n columns)) o ≡ None
        → IsSomeAnd (option_map (made_index c name n columns) (option_map next_index o)) (λ change. allows change c ≡ true)
    at n None e some bad = cc
    at n (Some l) e some bad =
        let index : IndexDef = record { number = next_index l; table = n; name = name; columns = numbers_named c n columns } in
        let here : allows_index_here index l ≡ true = and_from (next_index l == next_index l) (is_none (bad_index l (numbers_named c n columns))) (eq-eqb (next_index l) (next_index l) refl) (ap is_none bad) in
        and_from (allows_index_of index (listing_at c n)) (not (has_index_named c name)) (ap (allows_index_of index) e ∙ here) (not_from_false (has_index_named c name) free)

    by : (o : Option ℕ) → table_named c table ≡ o → IsSome o → option_and_then (λ n. bad_index_at c n (numbers_named c n columns)) o ≡ None
        → IsSomeAnd (option_and_then (λ n. option_map (made_index c name n columns) (next_index_at c n)) o) (λ change. allows change c ≡ true)
    by None e some bad = cc
    by (Some n) e some bad = at n (listing_at c n) refl (number_found (has_name table) c.tables n e) bad

-- ---- CREATE TABLE: columns that a primary key makes NOT NULL

level : (n : ℕ) → nat_le n n ≡ true
level n = le-leb n n (omega arith)

joined : {X Y : Type 0} (f : X → Y) (keys : List (List X)) → flat_map (λ key. key) (map (map f) keys) ≡ map f (flat_map (λ key. key) keys)
joined f [] = refl
joined f (k ∷ ks) = ap (λ ys. map f k ++ ys) (joined f ks) ∙ sym (map-append f k (flat_map (λ key. key) ks))

module _ (key : List Name) where
  abbrev keyed : List Column → List Column
  keyed columns = map (with_key key) columns

  any_named : (c : Column) (columns : List Column) → list_any (λ y. same_name y (with_key key c)) (keyed columns) ≡ list_any (λ y. same_name y c) columns
  unfolding with_key
  any_named c [] = refl
  any_named c (x ∷ xs) = ap (λ rest. same_name x c || rest) (any_named c xs)

  repeats_keyed : (columns : List Column) → repeats same_name (keyed columns) ≡ repeats same_name columns
  repeats_keyed [] = refl
  repeats_keyed (x ∷ xs) = ap₂ (λ a b. a || b) (any_named x xs) (repeats_keyed xs)

  bad_keyed : (columns : List Column) → list_any (λ column. is_bad_length column.kind) (keyed columns) ≡ list_any (λ column. is_bad_length column.kind) columns
  unfolding with_key
  bad_keyed [] = refl
  bad_keyed (x ∷ xs) = ap (λ rest. is_bad_length x.kind || rest) (bad_keyed xs)

  widths_from : (n : ℕ) (columns : List Column) → fold (λ a column. a + width column.kind) n (keyed columns) ≡ fold (λ a column. a + width column.kind) n columns
  unfolding with_key
  widths_from n [] = refl
  widths_from n (x ∷ xs) = widths_from (n + width x.kind) xs

  widths_keyed : (columns : List Column) → widths (keyed columns) ≡ widths columns
  widths_keyed columns = widths_from 0 columns

  width_keyed : (columns : List Column) (i : ℕ) → width_of (slice_get (keyed columns) i) ≡ width_of (slice_get columns i)
  unfolding with_key
  width_keyed [] i = refl
  width_keyed (x ∷ xs) zero = refl
  width_keyed (x ∷ xs) (suc i) = width_keyed xs i

  width_at_from : (columns : List Column) (w : ℕ) (numbers : List ℕ) → fold (λ a i. a + width_of (slice_get (keyed columns) i)) w numbers ≡ fold (λ a i. a + width_of (slice_get columns i)) w numbers
  width_at_from columns w [] = refl
  width_at_from columns w (n ∷ ns) =
      ap (λ z. fold (λ a i. a + width_of (slice_get (keyed columns) i)) (w + z) ns) (width_keyed columns n) ∙ width_at_from columns (w + width_of (slice_get columns n)) ns

  width_at_keyed : (columns : List Column) (numbers : List ℕ) → width_at (keyed columns) numbers ≡ width_at columns numbers
  width_at_keyed columns numbers = width_at_from columns 0 numbers

  lacks_keyed : (columns : List Column) (numbers : List ℕ) → lacks_column (keyed columns) numbers ≡ lacks_column columns numbers
  lacks_keyed columns numbers = ap (λ n. list_any (λ i. nat_le n i) numbers) (length-map columns (with_key key))

  -- a column that the key names takes no Null
  null_at : (columns : List Column) (i : ℕ) (column : Column) → slice_get columns i ≡ Some column → list_any (λ name. bytes_eq name column.name) key ≡ true → takes_null (slice_get (keyed columns) i) ≡ false
  unfolding with_key
  null_at [] i column at is = cc
  null_at (x ∷ xs) zero column at is =
      let e : x ≡ column = cc in
      let named : list_any (λ name. bytes_eq name x.name) key ≡ true = ap (λ (c : Column). list_any (λ name. bytes_eq name c.name) key) e ∙ is in
      either x.nullable (list_any (λ name. bytes_eq name x.name) key) named
    where
      either : (a b : Bool) → b ≡ true → (a && not b) ≡ false
      either true true h = refl
      either false true h = refl
      either a false h = cc
  null_at (x ∷ xs) (suc i) column at is = null_at xs i column at is

  none_null : (columns : List Column) (names : List Name) → list_all (λ name. list_any (λ other. bytes_eq other name) key) names ≡ true → lacks_column columns (map (number_named columns) names) ≡ false
      → may_be_null (keyed columns) (map (number_named columns) names) ≡ false
  none_null columns [] all within = refl
  none_null columns (x ∷ xs) all within =
      or_from (takes_null (slice_get (keyed columns) (number_named columns x))) (may_be_null (keyed columns) (map (number_named columns) xs))
      (by (position (λ column. bytes_eq x column.name) columns) refl w.0 a.0)
      (none_null columns xs a.1 w.1)
    where
      a : (list_any (λ other. bytes_eq other x) key ≡ true) × (list_all (λ name. list_any (λ other. bytes_eq other name) key) xs ≡ true)
      a = and_parts (list_any (λ other. bytes_eq other x) key) (list_all (λ name. list_any (λ other. bytes_eq other name) key) xs) all

      w : (nat_le (length columns) (number_named columns x) ≡ false) × (lacks_column columns (map (number_named columns) xs) ≡ false)
      w = or_parts (nat_le (length columns) (number_named columns x)) (lacks_column columns (map (number_named columns) xs)) within

      by : (o : Option ℕ) → position (λ column. bytes_eq x column.name) columns ≡ o → nat_le (length columns) (number_named columns x) ≡ false → list_any (λ other. bytes_eq other x) key ≡ true
          → takes_null (slice_get (keyed columns) (number_named columns x)) ≡ false
      by None k within in_key = absurd (let no : true ≡ false = sym (level (length columns)) ∙ ap (λ (o : Option ℕ). nat_le (length columns) (unwrap_or o (length columns))) (sym k) ∙ within in cc)
      by (Some i) k within in_key =
          let d : Column = record { name = []; kind = Integer; nullable = false } in
          let found = position-Some (λ (column : Column). bytes_eq x column.name) columns i d k in
          let column = get_or columns i d in
          ap (λ (o : Option ℕ). takes_null (slice_get (keyed columns) (unwrap_or o (length columns)))) k
          ∙ null_at columns i column (slice_get-get_or columns i d found.0)
          (ap (λ (n : Name). list_any (λ other. bytes_eq other n) key) (sym (same_bytes x column.name found.1)) ∙ in_key)

in_itself : (names : List Name) → list_all (λ name. list_any (λ other. bytes_eq other name) names) names ≡ true
in_itself [] = refl
in_itself (x ∷ xs) =
    and_from (list_any (λ other. bytes_eq other x) (x ∷ xs)) (list_all (λ name. list_any (λ other. bytes_eq other name) (x ∷ xs)) xs)
    (or_left (bytes_eq x x) (list_any (λ other. bytes_eq other x) xs) (bytes_itself x))
    (all_too (λ name. list_any (λ other. bytes_eq other name) xs) (λ name. list_any (λ other. bytes_eq other name) (x ∷ xs))
    (λ name h. or_right (bytes_eq x name) (list_any (λ other. bytes_eq other name) xs) h) xs (in_itself xs))

-- the rules of a table with the key of its columns' numbers
abbrev rules_by : Bool → Bool → List Column → List ℕ → List Bool
rules_by full keyless columns key =
    repeats same_name columns
    ∷ (keyless || (length key == 0))
    ∷ is_bad_key columns key
    ∷ (nat_lt 64 (length columns) || nat_lt 16 (length key))
    ∷ list_any (λ column. is_bad_length column.kind) columns
    ∷ nat_lt 3500 (2 + widths columns)
    ∷ nat_lt 400 (width_at columns key)
    ∷ full
    ∷ []

rules_keyed : (full keyless : Bool) (key : List Name) (columns : List Column) (numbers : List ℕ) → rules_by full keyless (map (with_key key) columns) numbers ≡ rules_by full keyless columns numbers
rules_keyed full keyless key columns numbers =
    ap₂ (λ (a : Bool) (more : List Bool). a ∷ (keyless || (length numbers == 0)) ∷ more) (repeats_keyed key columns)
    (ap₂ (λ (a : Bool) (more : List Bool). a ∷ more) (ap (λ b. repeats ◌==◌ numbers || b) (lacks_keyed key columns numbers))
    (ap₂ (λ (a : Bool) (more : List Bool). a ∷ more) (ap (λ n. nat_lt 64 n || nat_lt 16 (length numbers)) (length-map columns (with_key key)))
    (ap₂ (λ (a : Bool) (more : List Bool). a ∷ more) (bad_keyed key columns)
    (ap₂ (λ (a : Bool) (more : List Bool). a ∷ more) (ap (λ n. nat_lt 3500 (2 + n)) (widths_keyed key columns))
    (ap (λ n. nat_lt 400 n ∷ full ∷ []) (width_at_keyed key columns numbers))))))

pub table_allowed : (c : Catalog) (name : Name) (columns : List Column) (keys : List (List Name)) → is_some (table_named c name) ≡ false → bad_table c columns keys ≡ None
    → allows (schema.CreateTable (made_table c.next name columns (flat_map (λ key. key) keys))) c ≡ true
table_allowed c name columns keys new bad =
    and_from ((c.next == c.next) && is_none (listing_named c name)) (is_definition (is_full c) def)
    (and_from (c.next == c.next) (is_none (listing_named c name)) (eq-eqb c.next c.next refl) (free (listing_named c name) new))
    (and_from (not (may_be_null def.columns def.key)) (is_none (bad_definition (is_full c) def.columns (def.key ∷ [])))
    (not_from_false (may_be_null def.columns def.key) (none_null key columns key (in_itself key) within)) unbroken)
  where
    key : List Name
    key = flat_map (λ key. key) keys

    numbers : List ℕ
    numbers = map (number_named columns) key

    def : TableDef
    def = made_table c.next name columns key

    free : (o : Option Listing) → is_some (option_map (λ (l : Listing). l.def.number) o) ≡ false → is_none o ≡ true
    free None h = refl
    free (Some l) h = cc

    rules : List Bool
    rules = table_rules (is_full c) columns (map (map (number_named columns)) keys)

    kept : is_none (position_from (λ broken. broken) 1 rules) ≡ true
    kept = ap is_none bad

    all_numbers : List ℕ
    all_numbers = flat_map (λ k. k) (map (map (number_named columns)) keys)

    one : not (length (map (map (number_named columns)) keys) == 1) ≡ false
    one = (or_parts (not (length (map (map (number_named columns)) keys) == 1)) (length all_numbers == 0)
        (none_broken rules 1 1 (not (length (map (map (number_named columns)) keys) == 1) || (length all_numbers == 0)) kept refl)).0

    key_kept : is_bad_key columns all_numbers ≡ false
    key_kept = none_broken rules 1 2 (is_bad_key columns all_numbers) kept refl

    within : lacks_column columns numbers ≡ false
    within = (or_parts (repeats ◌==◌ numbers) (lacks_column columns numbers) (ap (is_bad_key columns) (sym (joined (number_named columns) keys)) ∙ key_kept)).1

    unbroken : is_none (bad_definition (is_full c) def.columns (def.key ∷ [])) ≡ true
    unbroken =
        ap (λ (ns : List ℕ). is_none (position_from (λ broken. broken) 1 (rules_by (is_full c) false def.columns ns))) (append-nil numbers)
        ∙ ap (λ (bs : List Bool). is_none (position_from (λ broken. broken) 1 bs)) (rules_keyed (is_full c) false key columns numbers)
        ∙ ap₂ (λ (keyless : Bool) (ns : List ℕ). is_none (position_from (λ broken. broken) 1 (rules_by (is_full c) keyless columns ns))) (sym one) (sym (joined (number_named columns) keys))
        ∙ kept

-- ---- the columns of a table that is allowed

pub few_columns : (c : Catalog) (name : Name) (elements : List Element) → IsAllowed c (CreateTable name elements) → length (filter_map column_of elements) ≤ 64
few_columns c name elements allowed =
    ltb-false 64 (length columns) (ap (nat_lt 64) (sym (length-map columns (with_key key)))
    ∙ (or_parts (nat_lt 64 (length def.columns)) (nat_lt 16 (length (def.key ++ [])))
    (none_broken (table_rules (is_full c) def.columns (def.key ∷ [])) 1 3 (nat_lt 64 (length def.columns) || nat_lt 16 (length (def.key ++ []))) rules.1 refl)).0)
  where
    columns : List Column
    columns = filter_map column_of elements

    key : List Name
    key = flat_map (λ key. key) (keys_of elements)

    def : TableDef
    def = made_table c.next name columns key

    definition : ((def.number == c.next) && is_none (listing_named c def.name) ≡ true) × (is_definition (is_full c) def ≡ true)
    definition = and_parts ((def.number == c.next) && is_none (listing_named c def.name)) (is_definition (is_full c) def) allowed

    rules : (not (may_be_null def.columns def.key) ≡ true) × (is_none (bad_definition (is_full c) def.columns (def.key ∷ [])) ≡ true)
    rules = and_parts (not (may_be_null def.columns def.key)) (is_none (bad_definition (is_full c) def.columns (def.key ∷ []))) definition.1

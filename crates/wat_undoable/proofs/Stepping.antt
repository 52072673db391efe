-- One change is undone, or it can't be.
use Rattle.std.proofs.Common.{◌≡◌, ◌≢◌, ◌⊎◌, ◌↔◌, inl, inr, ⊎_elim, ℕ, ◌==◌, ◌&&◌, ◌||◌, Bool, true, false, not, List, [], ◌∷◌, Option, Some, None, refl, sym, ◌∙◌, ap, subst, if◌then◌else◌}
use Rattle.std.specs.Prelude.{is_some, IfOk, Result, Ok, Err, MatchBool}
use Rattle.wat_images.specs.declared.refusal.PageRefusal.{PageRefusal}
use Rattle.std.specs.List.{list_all, list_any}
use Rattle.std.proofs.lemmas.Bool.{cases_Bool, cases_eq, eq-eqb, eqb-true, and_parts, and_from}
use Rattle.wat_list.specs.Has.{Has}
use Rattle.wat_value.specs.declared.definition.TableDef.{TableDef}
use Rattle.wat_value.specs.declared.change.Change.{Change}
use Rattle.wat_value.specs.declared.change.Change.TheVariants.{Insert, Update, Delete}
use Rattle.wat_value.specs.declared.change.Act.TheVariants.{OnRow}
use Rattle.wat_value.specs.Changes.{changed_table, row_before, row_after}
use Rattle.wat_value.specs.Fits.{key_of, fits}
use Rattle.wat_value.specs.Order.{key_eq}
use Rattle.wat_schema.specs.Catalog.{Catalog, def_at}
use Rattle.wat_schema.specs.Changes.{are_of_one_row, changed_key, have_one_key}
use Rattle.wat_schema.specs.Tables.{Tables, IsTables, catalog_of, row_at, apply_change, inverse}
use Rattle.wat_schema.proofs.TableLaws.{itself, equal}
use Rattle.wat_schema.proofs.Changing.{schema_stays, changes_one_row}
use Rattle.wat_schema.proofs.Database.{in_their_order, acts_hold}
use Rattle.wat_replay.specs.State.{Lists, changes_row_of, are_apart}
use Rattle.wat_recover.specs.Asked.{fits_change}
use Rattle.wat_recover.proofs.Asking.{applies, not_there, not_fit, not_before}
use Rattle.wat_rows.specs.Rows.{Row, RowMap}
use Rattle.wat_undoable.specs.declared.trial.Trial.{Trial}
use Rattle.wat_undoable.specs.declared.trial.Undone.{Undone}
use Rattle.wat_undoable.specs.Trial.{undone_at, row_on, row_now, IsPlaced, SetsUndone}
use Rattle.wat_undoable.specs.Undoing.{Changes, Tried, Claimed, Keeps, Clashes, MayUndo, Undid}

-- ---- the change that takes one back is of its row

pub same_table : (change : Change) → changed_table (inverse change) ≡ changed_table change
same_table (Insert table row) = refl
same_table (Update table before after) = refl
same_table (Delete table before) = refl

pub same_key : (def : TableDef) (change : Change) → fits_change def (inverse change) ≡ true → changed_key def (inverse change) ≡ changed_key def change
same_key def (Insert table row) fit = refl
same_key def (Update table before after) fit = equal (key_of def after) (key_of def before) (and_parts (key_eq (key_of def after) (key_of def before)) (fits def before) fit).0
same_key def (Delete table before) fit = refl

-- ---- two lists that clash

of_any : (c : Catalog) (x : Change) (ys : List Change) (y : Change) → Has y ys → are_of_one_row c x y ≡ true → changes_row_of c x ys ≡ true
of_any c x [] y has one = absurd has
of_any c x (z ∷ ys) y (inl same) one = ap (λ b. b || changes_row_of c x ys) (ap (are_of_one_row c x) same ∙ one)
of_any c x (z ∷ ys) y (inr later) one = by (are_of_one_row c x z) (of_any c x ys y later one)
  where
    by : (b : Bool) → changes_row_of c x ys ≡ true → (b || changes_row_of c x ys) ≡ true
    by true is = refl
    by false is = is

not_apart : (c : Catalog) (xs ys : List Change) (x y : Change) → Has x xs → Has y ys → are_of_one_row c x y ≡ true → are_apart c xs ys ≡ false
not_apart c [] ys x y has other one = absurd has
not_apart c (z ∷ xs) ys x y (inl same) other one = ap (λ b. not b && are_apart c xs ys) (ap (λ (w : Change). changes_row_of c w ys) same ∙ of_any c x ys y other one)
not_apart c (z ∷ xs) ys x y (inr later) other one = by (not (changes_row_of c z ys)) (not_apart c xs ys x y later other one)
  where
    by : (b : Bool) → are_apart c xs ys ≡ false → (b && are_apart c xs ys) ≡ false
    by true is = is
    by false is = refl

one_undone : (x y : Undone) → Some x ≡ Some y → x ≡ y
one_undone x y e = cc

-- ---- a change that can't be undone

pub no_change : (change : Change) (u : Tables) → (is_some (apply_change change u) ≡ true → ⊥) → apply_change change u ≡ None
no_change change u none = by (apply_change change u) refl
  where
    by : (o : Option Tables) → apply_change change u ≡ o → apply_change change u ≡ None
    by None is = is
    by (Some next) is = absurd (none (ap is_some is))

abbrev pub Blocked : Catalog → Lists → Change → Tables → Type 0
Blocked schema lists change u = (apply_change (inverse change) u ≡ None) ⊎ Clashes schema lists

-- what is known where the change back was looked at
pub record Looked (schema : Catalog) (change : Change) (def : TableDef) (table : ℕ) (key : Row) : Type 0 where
  pub table_is : table ≡ changed_table (inverse change)
  pub stands : def_at schema (changed_table (inverse change)) ≡ Some def
  pub fit : fits_change def (inverse change) ≡ true
  pub key_is : key ≡ changed_key def (inverse change)

module _ (schema : Catalog) (rows : RowMap) (lists : Lists) (u : Tables) (trial : Trial) (tried : Tried schema rows lists u trial) (conn : ℕ) (change : Change) (has : Has change (lists conn)) where
  in_tables : (def : TableDef) (o : Option TableDef) → def_at schema (changed_table (inverse change)) ≡ o → def_at (catalog_of u) (changed_table (inverse change)) ≡ o
  in_tables def o is = ap (λ (c : Catalog). def_at c (changed_table (inverse change))) tried.is ∙ is

  pub no_table : def_at schema (changed_table (inverse change)) ≡ None → Blocked schema lists change u
  no_table is = inl (no_change (inverse change) u (not_there (inverse change) u (ap (λ (c : Catalog). def_at c (changed_table (inverse change))) tried.is ∙ is)))

  pub no_fit : (def : TableDef) → def_at schema (changed_table (inverse change)) ≡ Some def → fits_change def (inverse change) ≡ false → Blocked schema lists change u
  no_fit def stands bad = inl (no_change (inverse change) u (not_fit (inverse change) u def tried.tables (in_tables def (Some def) stands) bad))

  module _ (def : TableDef) (table : ℕ) (key : Row) (looked : Looked schema change def table key) where
    own_key : changed_key def change ≡ key
    own_key = sym (same_key def change looked.fit) ∙ sym looked.key_is

    own_table : table ≡ changed_table change
    own_table = looked.table_is ∙ same_table change

    stands : def_at schema (changed_table change) ≡ Some def
    stands = ap (def_at schema) (sym (same_table change)) ∙ looked.stands

    row_is : row_at u (changed_table (inverse change)) (changed_key def (inverse change)) ≡ row_now trial rows table key
    row_is = (λ i. row_at u (sym looked.table_is i) (sym looked.key_is i)) ∙ tried.at table key

    clash : (x : Undone) → Changes schema lists table key x.conn → x.conn ≢ conn → Clashes schema lists
    clash x d other =
        let same : d.def ≡ def = (let e : Some d.def ≡ Some def = sym d.stands ∙ ap (def_at schema) looked.table_is ∙ looked.stands in cc) in
        let keys : changed_key def d.change ≡ key = ap (λ (f : TableDef). changed_key f d.change) (sym same) ∙ equal (changed_key d.def d.change) key d.key_is in
        let tables : (changed_table change == changed_table d.change) ≡ true = eq-eqb (changed_table change) (changed_table d.change) (sym own_table ∙ d.table_is) in
        let one_key : have_one_key (def_at schema (changed_table change)) change d.change ≡ true =
        ap (λ (o : Option TableDef). have_one_key o change d.change) stands ∙ (λ i. key_eq (own_key i) (keys i)) ∙ itself key in
        record {
          a = conn;
          b = x.conn;
          others = λ e. other (sym e);
          clash = not_apart schema (lists conn) (lists x.conn) change d.change has d.has (and_from (changed_table change == changed_table d.change) (have_one_key (def_at schema (changed_table change)) change d.change) tables one_key);
        }

    no_row : (row_now trial rows table key ≡ row_before (inverse change) → ⊥) → Blocked schema lists change u
    no_row bad = inl (no_change (inverse change) u (not_before (inverse change) u def tried.tables (in_tables def (Some def) looked.stands) (λ e. bad (sym row_is ∙ e))))

    pub may_not : (MayUndo trial rows conn table key (inverse change) → ⊥) → Blocked schema lists change u
    may_not bad = by (undone_at trial table key) refl
      where
        by : (o : Option Undone) → undone_at trial table key ≡ o → Blocked schema lists change u
        by None is = no_row (λ e. bad (record { own = λ x there. (let no : None ≡ Some x = sym is ∙ there in cc); before = e }))
        by (Some x) is = ⊎_elim
            (λ (same : x.conn ≡ conn). no_row (λ e. bad (record { own = λ y there. ap (λ (z : Undone). z.conn) (one_undone y x (sym there ∙ is)) ∙ same; before = e })))
            (λ (other : x.conn ≢ conn). inr (clash x (tried.owned table key x is) other))
            (cases_eq x.conn conn)

    -- ---- a change that is undone

    module _ (may : MayUndo trial rows conn table key (inverse change)) (after : Trial) (undone : Undone) (conn_is : undone.conn ≡ conn) (row_as : undone.row ≡ row_after (inverse change)) (sets : SetsUndone table key undone trial after) where
      record Next : Type 0 where
        to : Tables
        made : apply_change (inverse change) u ≡ Some to

      next : Next
      next = by (apply_change (inverse change) u) refl (applies (inverse change) u def tried.tables (in_tables def (Some def) looked.stands) (record { fit = looked.fit; there = row_is ∙ may.before }))
        where
          by : (o : Option Tables) → apply_change (inverse change) u ≡ o → is_some o ≡ true → Next
          by None is some = absurd (let no : false ≡ true = some in cc)
          by (Some to) is some = record { to = to; made = is }

      abbrev here : ℕ → Row → Bool
      here t k = (table == t) && key_eq key k

      at_here : (t : ℕ) (k : Row) → here t k ≡ true → (table ≡ t) × (key ≡ k)
      at_here t k is = let parts = and_parts (table == t) (key_eq key k) is in (eqb-true table t parts.0, equal key k parts.1)

      at_next : (t : ℕ) (k : Row) (b : Bool) → here t k ≡ b → row_at next.to t k ≡ (if b then row_after (inverse change) else row_at u t k) → undone_at after t k ≡ (if b then Some undone else undone_at trial t k)
          → row_at next.to t k ≡ row_now after rows t k
      at_next t k true is row known = row ∙ sym row_as ∙ sym (ap (λ (o : Option Undone). row_on o (rows t k)) known)
      at_next t k false is row known = row ∙ tried.at t k ∙ sym (ap (λ (o : Option Undone). row_on o (rows t k)) known)

      rows_after : (t : ℕ) (k : Row) → row_at next.to t k ≡ (if here t k then row_after (inverse change) else row_at u t k)
      rows_after t k =
          changes_one_row (inverse change) u next.to def (in_their_order u tried.tables) next.made (in_tables def (Some def) looked.stands) t k
          ∙ (λ i. if (sym looked.table_is i == t) && key_eq (sym looked.key_is i) k then row_after (inverse change) else row_at u t k)

      owned_by : (t : ℕ) (k : Row) (x : Undone) (b : Bool) → here t k ≡ b → (if b then Some undone else undone_at trial t k) ≡ Some x → Changes schema lists t k x.conn
      owned_by t k x true is known =
          let same : x ≡ undone = sym (one_undone undone x known) in
          let place = at_here t k is in
          subst (Changes schema lists t k) (sym (ap (λ (z : Undone). z.conn) same ∙ conn_is)) (record {
            change = change;
            has = has;
            table_is = sym place.0 ∙ own_table;
            def = def;
            stands = ap (def_at schema) (sym place.0 ∙ own_table) ∙ stands;
            key_is = ap (λ (r : Row). key_eq r k) (own_key ∙ place.1) ∙ itself k;
          })
      owned_by t k x false is known = tried.owned t k x known

      claims : undone_at after (changed_table change) (changed_key def change) ≡ Some undone
      claims =
          sets.at (changed_table change) (changed_key def change)
          ∙ ap (λ b. if b then Some undone else undone_at trial (changed_table change) (changed_key def change))
          (and_from (table == changed_table change) (key_eq key (changed_key def change)) (eq-eqb table (changed_table change) own_table) (ap (key_eq key) own_key ∙ itself key))

      keeps : Keeps schema trial after
      keeps other it claimed = by (here (changed_table it) (changed_key claimed.def it)) refl (sets.at (changed_table it) (changed_key claimed.def it))
        where
          by : (b : Bool) → here (changed_table it) (changed_key claimed.def it) ≡ b → undone_at after (changed_table it) (changed_key claimed.def it) ≡ (if b then Some undone else undone_at trial (changed_table it) (changed_key claimed.def it)) → Claimed schema after other it
          by true is known =
              let place = at_here (changed_table it) (changed_key claimed.def it) is in
              let was : undone_at trial table key ≡ Some claimed.undone = (λ i. undone_at trial (place.0 i) (place.1 i)) ∙ claimed.at in
              record { def = claimed.def; stands = claimed.stands; undone = undone; at = known; own = conn_is ∙ sym (may.own claimed.undone was) ∙ claimed.own }
          by false is known = record { def = claimed.def; stands = claimed.stands; undone = claimed.undone; at = known ∙ claimed.at; own = claimed.own }

      pub undid : Undid schema rows lists conn change u trial after
      undid = record {
        next = next.to;
        made = next.made;
        tried = record {
          placed = sets.placed;
          tables = acts_hold (OnRow (inverse change)) u next.to tried.tables next.made;
          is = schema_stays (inverse change) u next.to (in_their_order u tried.tables) next.made ∙ tried.is;
          at = λ t k. at_next t k (here t k) refl (rows_after t k) (sets.at t k);
          owned = λ t k x is. owned_by t k x (here t k) refl (sym (sets.at t k) ∙ is);
        };
        claimed = record { def = def; stands = stands; undone = undone; at = claims; own = conn_is };
        keeps = keeps;
      }

-- ---- whether a change may be undone, by what was looked up

pub may_known : (trial : Trial) (rows : RowMap) (conn table : ℕ) (key : Row) (change : Change) (x : Undone) (b : Bool) → undone_at trial table key ≡ Some x → (b ≡ true) ↔ ((x.conn ≡ conn) × (x.row ≡ row_before change))
    → (b ≡ true) ↔ MayUndo trial rows conn table key change
may_known trial rows conn table key change x b known own = (
  λ is. record {
    own = λ y there. ap (λ (z : Undone). z.conn) (one_undone y x (sym there ∙ known)) ∙ (own.0 is).0;
    before = ap (λ (o : Option Undone). row_on o (rows table key)) known ∙ (own.0 is).1;
  },
  λ may. own.1 (may.own x known, sym (ap (λ (o : Option Undone). row_on o (rows table key)) known) ∙ may.before),
)

pub may_stands : (trial : Trial) (rows : RowMap) (conn table : ℕ) (key : Row) (change : Change) (b : Bool) → undone_at trial table key ≡ None → (b ≡ true) ↔ (rows table key ≡ row_before change)
    → (b ≡ true) ↔ MayUndo trial rows conn table key change
may_stands trial rows conn table key change b none stands = (
  λ is. record {
    own = λ y there. absurd (let no : None ≡ Some y = sym none ∙ there in cc);
    before = ap (λ (o : Option Undone). row_on o (rows table key)) none ∙ stands.0 is;
  },
  λ may. stands.1 (sym (ap (λ (o : Option Undone). row_on o (rows table key)) none) ∙ may.before),
)

pub if_ok : (r : Result Bool PageRefusal) (P Q : Bool → Type 0) → ((b : Bool) → P b → Q b) → IfOk r P → IfOk r Q
if_ok (Ok b) P Q says is = says b is
if_ok (Err refusal) P Q says is = tt

pub not_may : (b : Bool) (P : Type 0) → (b ≡ true) ↔ P → b ≡ false → P → ⊥
not_may b P may is p = let no : true ≡ false = sym (may.1 p) ∙ is in cc

-- ---- with what the calls say

module _ (schema : Catalog) (rows : RowMap) (lists : Lists) (u : Tables) (trial : Trial) (tried : Tried schema rows lists u trial) (conn : ℕ) (change : Change) (has : Has change (lists conn)) (back : Change) (back_is : back ≡ inverse change) (table : ℕ)
    (table_is : table ≡ changed_table back) where
  table_there : table ≡ changed_table (inverse change)
  table_there = table_is ∙ ap changed_table back_is

  pub none_table : def_at schema table ≡ None → Blocked schema lists change u
  none_table none = no_table schema rows lists u trial tried conn change has (ap (def_at schema) (sym table_there) ∙ none)

  module _ (def : TableDef) (stands : def_at schema table ≡ Some def) (fit : Bool) (fit_is : fit ≡ fits_change def back) where
    there : def_at schema (changed_table (inverse change)) ≡ Some def
    there = ap (def_at schema) (sym table_there) ∙ stands

    fit_there : fit ≡ fits_change def (inverse change)
    fit_there = fit_is ∙ ap (fits_change def) back_is

    pub none_fit : fit ≡ false → Blocked schema lists change u
    none_fit bad = no_fit schema rows lists u trial tried conn change has def there (sym fit_there ∙ bad)

    module _ (good : fit ≡ true) (key : Row) (key_is : key ≡ changed_key def back) (b : Bool) (may : (b ≡ true) ↔ MayUndo trial rows conn table key back) where
      looked : Looked schema change def table key
      looked = record { table_is = table_there; stands = there; fit = sym fit_there ∙ good; key_is = key_is ∙ ap (changed_key def) back_is }

      pub none_may : b ≡ false → Blocked schema lists change u
      none_may is = may_not schema rows lists u trial tried conn change has def table key looked (λ m. not_may b (MayUndo trial rows conn table key back) may is (subst (MayUndo trial rows conn table key) (sym back_is) m))

      pub all_done : b ≡ true → (after : Trial) (row : Option Row) → row ≡ row_after back → SetsUndone table key (record { conn = conn; row = row }) trial after → Undid schema rows lists conn change u trial after
      all_done is after row row_is sets =
          undid schema rows lists u trial tried conn change has def table key looked (subst (MayUndo trial rows conn table key) back_is (may.0 is)) after (record { conn = conn; row = row }) refl (row_is ∙ ap row_after back_is) sets

pub match_true : (b : Bool) (P Q : Type 0) → b ≡ true → MatchBool b P Q → P
match_true true P Q is m = m
match_true false P Q is m = absurd (let no : false ≡ true = is in cc)

pub match_false : (b : Bool) (P Q : Type 0) → b ≡ false → MatchBool b P Q → Q
match_false true P Q is m = absurd (let no : true ≡ false = is in cc)
match_false false P Q is m = m

-- What a change that applies makes of one table, told by keys.
use Rattle.std.proofs.Common.{◌≡◌, ℕ, Bool, true, false, not, cond, ◌&&◌, if◌then◌else◌, List, [], ◌∷◌, map, filter, Option, Some, None, is_some, refl, sym, ap, ◌∙◌, inl, inr}
use Rattle.std.specs.List.{list_all}
use Rattle.std.proofs.lemmas.Bool.{and_parts, and_from, not-true, cases_Bool}
use Rattle.wat_value.specs.declared.definition.TableDef.{TableDef}
use Rattle.wat_value.specs.declared.change.Change.{Change}
use Rattle.wat_value.specs.declared.change.Change.TheVariants.{Insert, Update, Delete}
use Rattle.wat_value.specs.Fits.{fits, key_of}
use Rattle.wat_value.specs.Changes.{row_after, row_before}
use Rattle.wat_schema.specs.Changes.{changed_key}
use Rattle.wat_list.specs.Rising.{rising}
use Rattle.wat_schema.specs.Tables.{Table, Row, row_eq, by_key, has_row, has_key, row_with, with_row, is_table, after_insert, after_update, after_delete}
use Rattle.wat_schema.proofs.Keyed.{at, alike, at_between, at_without, at_gone, stands_at, at_stands, at_changed, at_changed_other}
use Rattle.wat_schema.proofs.TableLaws.{itself, equal, taken, insert_back, update_back, delete_back}

-- what a change makes of its table
abbrev pub one : Change → Table → Option Table
one (Insert table row) = after_insert row
one (Update table before after) = after_update before after
one (Delete table before) = after_delete before

abbrev pub fits_of : TableDef → Change → Bool
fits_of def (Insert table row) = fits def row
fits_of def (Update table before after) = row_eq (key_of def before) (key_of def after) && fits def after
fits_of def (Delete table before) = true

pub record Asks (change : Change) (x : Table) : Type 0 where
  pub there : row_with x (changed_key x.def change) ≡ row_before change
  pub fit : fits_of x.def change ≡ true

pub record Sets (change : Change) (x y : Table) : Type 0 where
  pub def : y.def ≡ x.def
  pub indexes : y.indexes ≡ x.indexes
  pub order : rising (by_key y.def) y.rows ≡ true
  pub at_keys : (k : Row) → row_with y k ≡ cond (row_eq (changed_key x.def change) k) (row_after change) (row_with x k)

none_there : {X : Type 0} (o : Option X) → is_some o ≡ false → o ≡ None
none_there None h = refl
none_there (Some x) h = cc

made_so : {X : Type 0} (b : Bool) (a : X) → b ≡ true → cond b (Some a) None ≡ Some a
made_so b a h = ap (λ v. cond v (Some a) None) h

order_of : (x : Table) → is_table x ≡ true → rising (by_key x.def) x.rows ≡ true
order_of x ok = (and_parts (list_all (fits x.def) x.rows) (rising (by_key x.def) x.rows) ok).1

pub asks : (change : Change) (x y : Table) → is_table x ≡ true → one change x ≡ Some y → Asks change x
asks (Insert table row) x y ok h =
    let got = taken (fits x.def row && not (has_key x (key_of x.def row))) (record x { rows = with_row x.def row x.rows }) y h in
    let parts = and_parts (fits x.def row) (not (has_key x (key_of x.def row))) got.0 in
    let free : has_key x (key_of x.def row) ≡ false = not-true (has_key x (key_of x.def row)) parts.1 in
    record { there = none_there (row_with x (key_of x.def row)) free; fit = parts.0 }
asks (Update table before after) x y ok h =
    let got = taken (has_row x before && row_eq (key_of x.def before) (key_of x.def after) && fits x.def after) (record x { rows = map (λ row. if row_eq row before then after else row) x.rows }) y h in
    let first = and_parts (has_row x before && row_eq (key_of x.def before) (key_of x.def after)) (fits x.def after) got.0 in
    let both = and_parts (has_row x before) (row_eq (key_of x.def before) (key_of x.def after)) first.0 in
    record { there = stands_at (key_of x.def) before x.rows (order_of x ok) both.0; fit = and_from (row_eq (key_of x.def before) (key_of x.def after)) (fits x.def after) both.1 first.1 }
asks (Delete table before) x y ok h =
    let got = taken (has_row x before) (record x { rows = filter (λ row. not (row_eq row before)) x.rows }) y h in
    record { there = stands_at (key_of x.def) before x.rows (order_of x ok) got.0; fit = refl }

pub sets : (change : Change) (x y : Table) → is_table x ≡ true → is_table y ≡ true → one change x ≡ Some y → Sets change x y
sets (Insert table row) x y ok kept h =
    let got = taken (fits x.def row && not (has_key x (key_of x.def row))) (record x { rows = with_row x.def row x.rows }) y h in
    record {
      def = ap (λ z. z.def) (sym got.1);
      indexes = ap (λ z. z.indexes) (sym got.1);
      order = order_of y kept;
      at_keys = λ k. ap (λ z. row_with z k) (sym got.1) ∙ at_between (key_of x.def) k row x.rows;
    }
sets (Update table before after) x y ok kept h = record {
  def = ap (λ z. z.def) (sym got.1);
  indexes = ap (λ z. z.indexes) (sym got.1);
  order = order_of y kept;
  at_keys = λ k. ap (λ z. row_with z k) (sym got.1) ∙ at_key k;
}
  where
    got : ((has_row x before && row_eq (key_of x.def before) (key_of x.def after) && fits x.def after) ≡ true) × (record x { rows = map (λ row. if row_eq row before then after else row) x.rows } ≡ y)
    got = taken (has_row x before && row_eq (key_of x.def before) (key_of x.def after) && fits x.def after) (record x { rows = map (λ row. if row_eq row before then after else row) x.rows }) y h

    a : Asks (Update table before after) x
    a = asks (Update table before after) x y ok h

    one_key : key_of x.def before ≡ key_of x.def after
    one_key = equal (key_of x.def before) (key_of x.def after) (and_parts (row_eq (key_of x.def before) (key_of x.def after)) (fits x.def after) a.fit).0

    at_key : (k : Row) → at (key_of x.def) k (map (λ row. if row_eq row before then after else row) x.rows) ≡ cond (row_eq (key_of x.def before) k) (Some after) (row_with x k)
    at_key k = elim (cases_Bool (row_eq (key_of x.def before) k)) [
      | inl here ↦
          let is : key_of x.def before ≡ k = equal (key_of x.def before) k here in
          ap (λ j. at (key_of x.def) j (map (λ row. if row_eq row before then after else row) x.rows)) (sym is)
          ∙ at_changed (key_of x.def) before after one_key x.rows a.there ∙ sym (ap (λ b. cond b (Some after) (row_with x k)) here)
      | inr other ↦ at_changed_other (key_of x.def) before after one_key k x.rows other ∙ sym (ap (λ b. cond b (Some after) (row_with x k)) other)
    ]
sets (Delete table before) x y ok kept h = record {
  def = ap (λ z. z.def) (sym got.1);
  indexes = ap (λ z. z.indexes) (sym got.1);
  order = order_of y kept;
  at_keys = λ k. ap (λ z. row_with z k) (sym got.1) ∙ at_key k;
}
  where
    got : (has_row x before ≡ true) × (record x { rows = filter (λ row. not (row_eq row before)) x.rows } ≡ y)
    got = taken (has_row x before) (record x { rows = filter (λ row. not (row_eq row before)) x.rows }) y h

    at_key : (k : Row) → at (key_of x.def) k (filter (λ row. not (row_eq row before)) x.rows) ≡ cond (row_eq (key_of x.def before) k) None (row_with x k)
    at_key k = elim (cases_Bool (row_eq (key_of x.def before) k)) [
      | inl here ↦
          let is : key_of x.def before ≡ k = equal (key_of x.def before) k here in
          ap (λ j. at (key_of x.def) j (filter (λ row. not (row_eq row before)) x.rows)) (sym is)
          ∙ at_gone (key_of x.def) before x.rows (order_of x ok) got.0 ∙ sym (ap (λ b. cond b None (row_with x k)) here)
      | inr other ↦ at_without (key_of x.def) k before x.rows other ∙ sym (ap (λ b. cond b None (row_with x k)) other)
    ]

pub record Made (change : Change) (x : Table) : Type 0 where
  pub to : Table
  pub made : one change x ≡ Some to

-- what is asked is enough
pub makes : (change : Change) (x : Table) → is_table x ≡ true → Asks change x → Made change x
makes (Insert table row) x ok a =
    let free : has_key x (key_of x.def row) ≡ false = ap is_some a.there in
    let may = and_from (fits x.def row) (not (has_key x (key_of x.def row))) a.fit (ap not free) in
    record { to = record x { rows = with_row x.def row x.rows }; made = made_so (fits x.def row && not (has_key x (key_of x.def row))) (record x { rows = with_row x.def row x.rows }) may }
makes (Update table before after) x ok a =
    let here : has_row x before ≡ true = at_stands (key_of x.def) (key_of x.def before) before x.rows a.there in
    let parts = and_parts (row_eq (key_of x.def before) (key_of x.def after)) (fits x.def after) a.fit in
    let may = and_from (has_row x before && row_eq (key_of x.def before) (key_of x.def after)) (fits x.def after) (and_from (has_row x before) (row_eq (key_of x.def before) (key_of x.def after)) here parts.0) parts.1 in
    record {
      to = record x { rows = map (λ row. if row_eq row before then after else row) x.rows };
      made = made_so (has_row x before && row_eq (key_of x.def before) (key_of x.def after) && fits x.def after) (record x { rows = map (λ row. if row_eq row before then after else row) x.rows }) may;
    }
makes (Delete table before) x ok a =
    let here : has_row x before ≡ true = at_stands (key_of x.def) (key_of x.def before) before x.rows a.there in
    record { to = record x { rows = filter (λ row. not (row_eq row before)) x.rows }; made = made_so (has_row x before) (record x { rows = filter (λ row. not (row_eq row before)) x.rows }) here }

both_set : (a b k : Row) (new_a new_b old : Option Row) → row_eq a b ≡ false
    → cond (row_eq b k) new_b (cond (row_eq a k) new_a old) ≡ cond (row_eq a k) new_a (cond (row_eq b k) new_b old)
both_set a b k new_a new_b old apart = elim (cases_Bool (row_eq a k)) [
  | inl is_a ↦
      let not_b : row_eq b k ≡ false = elim (cases_Bool (row_eq b k)) [
        | inl is_b ↦ absurd (let one : a ≡ b = equal a k is_a ∙ sym (equal b k is_b) in let no : true ≡ false = sym (itself b) ∙ ap (λ j. row_eq j b) (sym one) ∙ apart in cc)
        | inr other ↦ other
      ] in
      rw (is_a, not_b) refl
  | inr not_a ↦ rw not_a refl
]

pub one_keeps : (change : Change) (x y : Table) → is_table x ≡ true → one change x ≡ Some y → is_table y ≡ true
one_keeps (Insert table row) x y ok h = (insert_back row x y ok h).kept
one_keeps (Update table before after) x y ok h = (update_back before after x y ok h).kept
one_keeps (Delete table before) x y ok h = (delete_back before x y ok h).kept

-- two changes of rows with other keys
pub record Swapped (a b : Change) (x z : Table) : Type 0 where
  pub between : Table
  pub first : one b x ≡ Some between
  pub second : one a between ≡ Some z

pub swap_here : (a b : Change) (x y z : Table) → is_table x ≡ true → row_eq (changed_key x.def a) (changed_key x.def b) ≡ false → one a x ≡ Some y → one b y ≡ Some z → Swapped a b x z
swap_here a b x y z ok apart h k = record { between = m.to; first = m.made; second = n.made ∙ ap Some same }
  where
    y_ok : is_table y ≡ true
    y_ok = one_keeps a x y ok h

    z_ok : is_table z ≡ true
    z_ok = one_keeps b y z y_ok k

    to_y : Sets a x y
    to_y = sets a x y ok y_ok h

    to_z : Sets b y z
    to_z = sets b y z y_ok z_ok k

    asked_a : Asks a x
    asked_a = asks a x y ok h

    asked_b : Asks b y
    asked_b = asks b y z y_ok k

    b_key : changed_key y.def b ≡ changed_key x.def b
    b_key = ap (λ d. changed_key d b) to_y.def

    b_there : row_with x (changed_key x.def b) ≡ row_before b
    b_there = sym (to_y.at_keys (changed_key x.def b) ∙ ap (λ v. cond v (row_after a) (row_with x (changed_key x.def b))) apart) ∙ ap (row_with y) (sym b_key) ∙ asked_b.there

    m : Made b x
    m = makes b x ok (record { there = b_there; fit = ap (λ d. fits_of d b) (sym to_y.def) ∙ asked_b.fit })

    m_ok : is_table m.to ≡ true
    m_ok = one_keeps b x m.to ok m.made

    to_m : Sets b x m.to
    to_m = sets b x m.to ok m_ok m.made

    a_key : changed_key m.to.def a ≡ changed_key x.def a
    a_key = ap (λ d. changed_key d a) to_m.def

    other_way : row_eq (changed_key x.def b) (changed_key x.def a) ≡ false
    other_way = elim (cases_Bool (row_eq (changed_key x.def b) (changed_key x.def a))) [
      | inl one ↦ absurd (let no : true ≡ false = sym (itself (changed_key x.def a)) ∙ ap (row_eq (changed_key x.def a)) (sym (equal (changed_key x.def b) (changed_key x.def a) one)) ∙ apart in cc)
      | inr two ↦ two
    ]

    a_there : row_with m.to (changed_key m.to.def a) ≡ row_before a
    a_there = ap (row_with m.to) a_key ∙ to_m.at_keys (changed_key x.def a) ∙ ap (λ v. cond v (row_after b) (row_with x (changed_key x.def a))) other_way ∙ asked_a.there

    n : Made a m.to
    n = makes a m.to m_ok (record { there = a_there; fit = ap (λ d. fits_of d a) to_m.def ∙ asked_a.fit })

    n_ok : is_table n.to ≡ true
    n_ok = one_keeps a m.to n.to m_ok n.made

    to_n : Sets a m.to n.to
    to_n = sets a m.to n.to m_ok n_ok n.made

    defs : n.to.def ≡ z.def
    defs = to_n.def ∙ to_m.def ∙ sym to_y.def ∙ sym to_z.def

    indexed : n.to.indexes ≡ z.indexes
    indexed = to_n.indexes ∙ to_m.indexes ∙ sym to_y.indexes ∙ sym to_z.indexes

    n_rows : (k : Row) → row_with n.to k ≡ cond (row_eq (changed_key x.def a) k) (row_after a) (cond (row_eq (changed_key x.def b) k) (row_after b) (row_with x k))
    n_rows k = to_n.at_keys k ∙ ap (λ j. cond (row_eq j k) (row_after a) (row_with m.to k)) a_key ∙ ap (λ o. cond (row_eq (changed_key x.def a) k) (row_after a) o) (to_m.at_keys k)

    z_rows : (k : Row) → row_with z k ≡ cond (row_eq (changed_key x.def b) k) (row_after b) (cond (row_eq (changed_key x.def a) k) (row_after a) (row_with x k))
    z_rows k = to_z.at_keys k ∙ ap (λ j. cond (row_eq j k) (row_after b) (row_with y k)) b_key ∙ ap (λ o. cond (row_eq (changed_key x.def b) k) (row_after b) o) (to_y.at_keys k)

    z_order : rising (by_key n.to.def) z.rows ≡ true
    z_order = ap (λ d. rising (by_key d) z.rows) defs ∙ to_z.order

    each : (k : Row) → at (key_of n.to.def) k n.to.rows ≡ at (key_of n.to.def) k z.rows
    each k = n_rows k ∙ sym (both_set (changed_key x.def a) (changed_key x.def b) k (row_after a) (row_after b) (row_with x k) apart) ∙ sym (z_rows k) ∙ ap (λ d. at (key_of d) k z.rows) (sym defs)

    all_rows : n.to.rows ≡ z.rows
    all_rows = alike (key_of n.to.def) n.to.rows z.rows to_n.order z_order each

    same : n.to ≡ z
    same = λ i. record { def = defs i; indexes = indexed i; rows = all_rows i }

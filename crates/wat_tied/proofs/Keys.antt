-- The keys that a change leaves and comes to, as the core lists them and as the law of isolation asks for them.
use Rattle.std.proofs.Common.{◌≡◌, ℕ, ◌==◌, Bool, true, false, ◌&&◌, if◌then◌else◌, List, Option, Some, None, refl, sym, ap, ◌∙◌, subst}
use Rattle.std.specs.Option.{option_map, option_map_or}
use Rattle.std.proofs.lemmas.Bool.{and_parts, eqb-true, eq-eqb}
use Rattle.wat_list.specs.Has.{Has}
use Rattle.wat_list.proofs.Members.{any_has, has_any}
use Rattle.wat_value.specs.declared.value.Value.{Value}
use Rattle.wat_value.specs.declared.definition.TableDef.{TableDef}
use Rattle.wat_value.specs.declared.change.Change.{Change}
use Rattle.wat_value.specs.declared.change.Change.TheVariants as change
use Rattle.wat_value.specs.Changes.{RowName, row_name, changed_table, changed_row, row_before, row_after}
use Rattle.wat_value.specs.Fits.{fits, key_of}
use Rattle.wat_value.specs.Indexes.{index_numbers, index_key}
use Rattle.wat_schema.specs.Catalog.{Catalog, Listing, listing_at, has_number}
use Rattle.wat_schema.specs.Tables.{row_eq, inverse}
use Rattle.wat_schema.proofs.TableLaws.{equal}
use Rattle.wat_isolation.specs.Rows.{key_at}
use Rattle.wat_isolation.specs.Sql.{sql, IndexName}
use Rattle.wat_isolation.specs.Naming.{is_indexed, same_key, same_key_is, key_in, KeyOf, key_parts, scheme_of}
use Rattle.wat_isolation.proofs.Naming.{has_key_in}
use Rattle.wat_meaning.specs.Standing.{change_fits}
use Rattle.wat_protocol.specs.Moves.{left_key}
use Rattle.wat_scans.specs.Running.{row_changed}
use Rattle.wat_scans.proofs.Applied.{named_by}
use Rattle.wat_scans.proofs.Found.{find_has}
use Rattle.wat_tied.specs.Tied.{IsFormed}

number_is : (def : TableDef) (ch : Change) → (changed_row def ch).table ≡ changed_table ch
number_is def (change.Insert n row) = refl
number_is def (change.Update n old new) = refl
number_is def (change.Delete n old) = refl

pub numbered : (l : Listing) (index : ℕ) → is_indexed l index ≡ true → Has index (index_numbers l.indexes)
numbered l index h = let r = any_has (λ n. n == index) (index_numbers l.indexes) h in subst (λ z. Has z (index_numbers l.indexes)) (eqb-true r.0 index r.2) r.1

pub is_numbered : (l : Listing) (index : ℕ) → Has index (index_numbers l.indexes) → is_indexed l index ≡ true
is_numbered l index h = has_any (λ n. n == index) index (index_numbers l.indexes) h (eq-eqb index index refl)

-- a key that the one row has and the other has not is left
left_is : (l : Listing) (index : ℕ) (x before : List Value) (after : Option (List Value)) → index_key l.def l.indexes index before ≡ x
    → ((row : List Value) → after ≡ Some row → index_key l.def l.indexes index row ≡ x → ⊥) → left_key l index (Some before) after ≡ Some x
left_is l index x before None e off = ap Some e
left_is l index x before (Some after) e off = by (same_key (index_key l.def l.indexes index before) (index_key l.def l.indexes index after)) refl
  where
    by : (t : Bool) → same_key (index_key l.def l.indexes index before) (index_key l.def l.indexes index after) ≡ t → (if t then None else Some (index_key l.def l.indexes index before)) ≡ Some x
    by true k = absurd (off after refl (sym (same_key_is (index_key l.def l.indexes index before) (index_key l.def l.indexes index after) k) ∙ e))
    by false k = ap Some e

-- a key that is left is one of the row before
pub left_of_row : (l : Listing) (index : ℕ) (x : List Value) (old new : Option (List Value)) → left_key l index old new ≡ Some x → (row : List Value) × (old ≡ Some row) × (index_key l.def l.indexes index row ≡ x)
left_of_row l index x None new h = absurd (cc)
left_of_row l index x (Some row) None h = (row, refl, cc)
left_of_row l index x (Some row) (Some after) h = by (same_key (index_key l.def l.indexes index row) (index_key l.def l.indexes index after)) h
  where
    by : (t : Bool) → (if t then None else Some (index_key l.def l.indexes index row)) ≡ Some x → (before : List Value) × (Some row ≡ Some before) × (index_key l.def l.indexes index before ≡ x)
    by true k = absurd (cc)
    by false k = (row, refl, cc)

module _ (c : Catalog) (l : Listing) (ch : Change) (listing : listing_at c (changed_table ch) ≡ Some l) where
  pub number : changed_table ch ≡ l.def.number
  number = eqb-true (changed_table ch) l.def.number (find_has (has_number (changed_table ch)) l c.tables listing).1

  pub name : row_changed c ch ≡ changed_row l.def ch
  name = named_by c ch l.def (ap (λ o. option_map (λ (z : Listing). z.def) o) listing)

  abbrev r : RowName
  r = row_changed c ch

  pub of_table : r.table ≡ changed_table ch
  of_table = ap (λ (z : RowName). z.table) name ∙ number_is l.def ch

  -- ---- the rows of a change have its key

  pub key_before : (row : List Value) → row_before ch ≡ Some row → key_of l.def row ≡ (changed_row l.def ch).key
  key_before = by ch
    where
      by : (x : Change) (row : List Value) → row_before x ≡ Some row → key_of l.def row ≡ (changed_row l.def x).key
      by (change.Insert n new) row h = absurd (cc)
      by (change.Update n old new) row h = let s : old ≡ row = cc in ap (key_of l.def) (sym s)
      by (change.Delete n old) row h = let s : old ≡ row = cc in ap (key_of l.def) (sym s)

  pub key_after : change_fits c ch ≡ true → (row : List Value) → row_after ch ≡ Some row → key_of l.def row ≡ (changed_row l.def ch).key
  key_after = by ch listing
    where
      by : (x : Change) → listing_at c (changed_table x) ≡ Some l → change_fits c x ≡ true → (row : List Value) → row_after x ≡ Some row → key_of l.def row ≡ (changed_row l.def x).key
      by (change.Insert n new) at fit row h = let s : new ≡ row = cc in ap (key_of l.def) (sym s)
      by (change.Update n old new) at fit row h =
          let s : new ≡ row = cc in
          let both : (row_eq (key_of l.def old) (key_of l.def new) && fits l.def new) ≡ true = sym (ap (λ o. option_map_or (λ def. row_eq (key_of def old) (key_of def new) && fits def new) (option_map (λ (z : Listing). z.def) o) false) at) ∙ fit in
          ap (key_of l.def) (sym s) ∙ sym (equal (key_of l.def old) (key_of l.def new) (and_parts (row_eq (key_of l.def old) (key_of l.def new)) (fits l.def new) both).0)
      by (change.Delete n old) at fit row h = absurd (cc)

  -- ---- keys in the indexes

  -- a row with the change's key has its key in each index of the table
  pub key_there : (index : ℕ) (row : List Value) → is_indexed l index ≡ true → key_of l.def row ≡ (changed_row l.def ch).key
      → key_at sql (scheme_of c) (record { table = changed_table ch; index = index }) r (Some row) ≡ Some (index_key l.def l.indexes index row)
  key_there index row has primary =
      let called : r ≡ row_name l.def row = name ∙ (λ j. record { table = (number_is l.def ch ∙ number) j; key = (sym primary) j }) in
      let at : key_in c (record { table = l.def.number; index = index }) (row_name l.def row) row ≡ Some (index_key l.def l.indexes index row) = has_key_in c l index row (ap (listing_at c) (sym number) ∙ listing) has in
      (λ j. key_in c (record { table = number j; index = index }) (called j) row) ∙ at

  pub record KeyHere (i : IndexName) (row x : List Value) : Type 0 where
    pub table : i.table ≡ changed_table ch
    pub indexed : is_indexed l i.index ≡ true
    pub key : index_key l.def l.indexes i.index row ≡ x

  pub key_here : (i : IndexName) (row x : List Value) → key_at sql (scheme_of c) i r (Some row) ≡ Some x → KeyHere i row x
  key_here i row x h =
      let k : KeyOf c i r row x = key_parts c i r row x h in
      let at : i.table ≡ changed_table ch = k.table ∙ of_table in
      let same : Some k.listing ≡ Some l = sym k.stands ∙ (ap (listing_at c) at ∙ listing) in
      let is : k.listing ≡ l = cc in
      record {
        table = at;
        indexed = subst (λ (z : Listing). is_indexed z i.index ≡ true) is k.indexed;
        key = subst (λ (z : Listing). index_key z.def z.indexes i.index row ≡ x) is k.key;
      }

  pub record LeavesIn (i : IndexName) (x : List Value) (old new : Option (List Value)) : Type 0 where
    pub table : i.table ≡ changed_table ch
    pub indexed : is_indexed l i.index ≡ true
    pub leaves : left_key l i.index old new ≡ Some x

  -- a key that the row has before and not after
  pub left_some : (old new : Option (List Value)) → ((row : List Value) → new ≡ Some row → key_of l.def row ≡ (changed_row l.def ch).key) → (i : IndexName) (x : List Value)
      → key_at sql (scheme_of c) i r old ≡ Some x → (key_at sql (scheme_of c) i r new ≡ Some x → ⊥) → LeavesIn i x old new
  left_some None new primary i x h off = absurd (cc)
  left_some (Some row) new primary i x h off =
      let k : KeyHere i row x = key_here i row x h in
      record {
        table = k.table;
        indexed = k.indexed;
        leaves = left_is l i.index x row new k.key (λ after at key. off (subst (λ (o : Option (List Value)). key_at sql (scheme_of c) i r o ≡ Some x) (sym at)
            (subst (λ (n : ℕ). key_at sql (scheme_of c) (record { table = n; index = i.index }) r (Some after) ≡ Some x) (sym k.table) (key_there i.index after k.indexed (primary after at) ∙ ap Some key))));
      }

  -- and back
  pub left_from : (old new : Option (List Value)) → ((row : List Value) → old ≡ Some row → key_of l.def row ≡ (changed_row l.def ch).key) → (index : ℕ) → is_indexed l index ≡ true → (x : List Value)
      → left_key l index old new ≡ Some x → key_at sql (scheme_of c) (record { table = changed_table ch; index = index }) r old ≡ Some x
  left_from old new primary index has x h =
      let f = left_of_row l index x old new h in
      ap (key_at sql (scheme_of c) (record { table = changed_table ch; index = index }) r) f.1 ∙ (key_there index f.0 has (primary f.0 f.1) ∙ ap Some f.2)

-- ---- a change and its inverse

pub table_back : (ch : Change) → changed_table (inverse ch) ≡ changed_table ch
table_back (change.Insert n row) = refl
table_back (change.Update n old new) = refl
table_back (change.Delete n old) = refl

pub before_back : (ch : Change) → row_before (inverse ch) ≡ row_after ch
before_back (change.Insert n row) = refl
before_back (change.Update n old new) = refl
before_back (change.Delete n old) = refl

pub after_back : (ch : Change) → row_after (inverse ch) ≡ row_before ch
after_back (change.Insert n row) = refl
after_back (change.Update n old new) = refl
after_back (change.Delete n old) = refl

pub inverse_back : (ch : Change) → inverse (inverse ch) ≡ ch
inverse_back (change.Insert n row) = refl
inverse_back (change.Update n old new) = refl
inverse_back (change.Delete n old) = refl

pub formed_back : (c : Catalog) (ch : Change) → IsFormed c ch → IsFormed c (inverse ch)
formed_back c ch f = record { after = f.before; before = ap (change_fits c) (inverse_back ch) ∙ f.after }

-- the table of a change that fits stands
pub formed_listing : (c : Catalog) (ch : Change) → change_fits c ch ≡ true → (l : Listing) × (listing_at c (changed_table ch) ≡ Some l)
formed_listing c (change.Insert n row) fit = by (listing_at c n) refl fit
  where
    by : (o : Option Listing) → listing_at c n ≡ o → option_map_or (λ def. fits def row) (option_map (λ (z : Listing). z.def) o) false ≡ true → (l : Listing) × (listing_at c n ≡ Some l)
    by None at k = absurd (cc)
    by (Some l) at k = (l, at)
formed_listing c (change.Update n old new) fit = by (listing_at c n) refl fit
  where
    by : (o : Option Listing) → listing_at c n ≡ o → option_map_or (λ def. row_eq (key_of def old) (key_of def new) && fits def new) (option_map (λ (z : Listing). z.def) o) false ≡ true → (l : Listing) × (listing_at c n ≡ Some l)
    by None at k = absurd (cc)
    by (Some l) at k = (l, at)
formed_listing c (change.Delete n old) fit = by (listing_at c n) refl fit
  where
    by : (o : Option Listing) → listing_at c n ≡ o → option_map_or (λ def. true) (option_map (λ (z : Listing). z.def) o) false ≡ true → (l : Listing) × (listing_at c n ≡ Some l)
    by None at k = absurd (cc)
    by (Some l) at k = (l, at)

-- and the row is the same
pub row_back : (c : Catalog) (ch : Change) → IsFormed c ch → row_changed c (inverse ch) ≡ row_changed c ch
row_back c ch f =
    let at = formed_listing c ch f.after in
    let back : listing_at c (changed_table (inverse ch)) ≡ Some at.0 = ap (listing_at c) (table_back ch) ∙ at.1 in
    name c at.0 (inverse ch) back ∙ (by ch at.0 at.1 f.after ∙ sym (name c at.0 ch at.1))
  where
    by : (x : Change) (l : Listing) → listing_at c (changed_table x) ≡ Some l → change_fits c x ≡ true → changed_row l.def (inverse x) ≡ changed_row l.def x
    by (change.Insert n row) l at fit = refl
    by (change.Update n old new) l at fit = ap (λ (k : List Value). record { table = n; key = k }) (key_after c l (change.Update n old new) at fit new refl)
    by (change.Delete n old) l at fit = refl

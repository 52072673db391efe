-- A schema made again of its definitions, one after another.
use Rattle.std.proofs.Common.{◌≡◌, ℕ, ◌+◌, ◌<◌, ◌≤◌, Bool, true, false, ◌&&◌, cond, List, [], ◌∷◌, drop, length, slice_get, Option, Some, None, nat_le, refl, sym, ap, subst, ◌∙◌, add-one, arith}
use Rattle.std.specs.Option.{option_and_then}
use Rattle.std.proofs.Math.Seq.{drop-cons}
use Rattle.std.proofs.lemmas.Bool.{lt-leb}
use Rattle.std.proofs.lemmas.List.{drop_all}
use Rattle.std.proofs.lemmas.Option.{slice_get_within, get_or_from_slice_get}
use Rattle.wat_value.specs.declared.definition.TableDef.{TableDef}
use Rattle.wat_value.specs.declared.definition.IndexDef.{IndexDef}
use Rattle.wat_value.specs.declared.change.SchemaChange.TheVariants.{CreateTable, CreateIndex}
use Rattle.wat_schema.specs.Catalog.{Catalog}
use Rattle.wat_schema.specs.Definitions.{allows_index, allows_table, altered}
use Rattle.wat_schema.specs.Making.{followed_by, numbered_from, with_tables_of, with_indexes_of}

drop_at : {A : Type 0} (xs : List A) (i : ℕ) (x : A) → slice_get xs i ≡ Some x → drop i xs ≡ x ∷ drop (i + 1) xs
drop_at xs i x is = let within = slice_get_within xs i x is in rw (add-one, drop-cons xs i x within, get_or_from_slice_get xs i x x is)

module _ {X Y : Type 0} (F : X → Option Y) where
  -- what was made is what goes on, where anything was made
  goes_on : (b : Bool) (made new : X) → Some new ≡ cond b (Some made) None → cond b (F made) None ≡ F new
  goes_on true made new e = ap F (let same : Some made ≡ Some new = sym e in cc)
  goes_on false made new e = cc

  stops : (b : Bool) (made : X) → None ≡ cond b (Some made) None → cond b (F made) None ≡ None
  stops true made e = cc
  stops false made e = refl

pub tables_on : (defs : List TableDef) (i : ℕ) (def : TableDef) (c new : Catalog) (r : Option Catalog) → with_tables_of (drop i defs) c ≡ r → slice_get defs i ≡ Some def
    → Some new ≡ with_tables_of (def ∷ []) c → with_tables_of (drop (i + 1) defs) new ≡ r
tables_on defs i def c new r so_far at made =
    sym (goes_on (with_tables_of (drop (i + 1) defs)) (nat_le c.next def.number && allows_table (numbered_from def.number c) def) (altered (CreateTable def) (numbered_from def.number c)) new made)
    ∙ sym (ap (λ ds. with_tables_of ds c) (drop_at defs i def at)) ∙ so_far

pub tables_stop : (defs : List TableDef) (i : ℕ) (def : TableDef) (c : Catalog) (r : Option Catalog) → with_tables_of (drop i defs) c ≡ r → slice_get defs i ≡ Some def
    → None ≡ with_tables_of (def ∷ []) c → None ≡ r
tables_stop defs i def c r so_far at none =
    sym (stops (with_tables_of (drop (i + 1) defs)) (nat_le c.next def.number && allows_table (numbered_from def.number c) def) (altered (CreateTable def) (numbered_from def.number c)) none)
    ∙ sym (ap (λ ds. with_tables_of ds c) (drop_at defs i def at)) ∙ so_far

pub indexes_on : (indexes : List IndexDef) (i : ℕ) (index : IndexDef) (c new : Catalog) (r : Option Catalog) → with_indexes_of (drop i indexes) c ≡ r → slice_get indexes i ≡ Some index
    → Some new ≡ with_indexes_of (index ∷ []) c → with_indexes_of (drop (i + 1) indexes) new ≡ r
indexes_on indexes i index c new r so_far at made =
    sym (goes_on (with_indexes_of (drop (i + 1) indexes)) (allows_index c index) (altered (CreateIndex index) c) new made)
    ∙ sym (ap (λ is. with_indexes_of is c) (drop_at indexes i index at)) ∙ so_far

pub indexes_stop : (indexes : List IndexDef) (i : ℕ) (index : IndexDef) (c : Catalog) (r : Option Catalog) → with_indexes_of (drop i indexes) c ≡ r → slice_get indexes i ≡ Some index
    → None ≡ with_indexes_of (index ∷ []) c → None ≡ r
indexes_stop indexes i index c r so_far at none =
    sym (stops (with_indexes_of (drop (i + 1) indexes)) (allows_index c index) (altered (CreateIndex index) c) none)
    ∙ sym (ap (λ is. with_indexes_of is c) (drop_at indexes i index at)) ∙ so_far

-- the number after the last table's is past the next one
pub not_followed : (indexes : List IndexDef) (i next after : ℕ) (c : Catalog) (r : Option Catalog) → with_indexes_of (drop i indexes) c ≡ r → length indexes ≤ i
    → after ≡ c.next → next < after → None ≡ option_and_then (followed_by next) r
not_followed indexes i next after c r so_far all is less =
    let made : Some c ≡ r = sym (ap (λ is. with_indexes_of is c) (drop_all i indexes all)) ∙ so_far in
    let past : nat_le c.next next ≡ false = lt-leb c.next next (omega arith) in
    subst (λ o. None ≡ option_and_then (followed_by next) o) made (rw past refl)

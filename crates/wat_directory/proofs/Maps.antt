-- Maps of maps by tables and keys.
use Rattle.std.proofs.Common.{◌≡◌, ℕ, ◌==◌, ◌&&◌, Bool, true, false, if◌then◌else◌, List, [], ◌∷◌, Option, Some, None, refl, sym, ap, ap₂, ◌∙◌, inl, inr, arith}
use Rattle.std.specs.Prelude.{cond}
use Rattle.std.specs.Option.{option_and_then}
use Rattle.std.specs.Ordering.{nat_cmp}
use Rattle.std.specs.BTreeMap.{BTreeMap, get, is_at, Updates, UpdatesBy}
use Rattle.std.proofs.lemmas.Bool.{cases_Bool, eqb-true}
use Rattle.std.proofs.lemmas.Grind.{common_steps}
use Rattle.wat_value.specs.Order.{key_cmp, key_eq}
use Rattle.wat_rows.specs.Rows.{Row}

pub bridge : (page q : ℕ) → is_at (nat_cmp page) q ≡ (page == q)
bridge page q = grind (arith, common_steps)

-- a map after a change, by the numbers that are its keys
pub updated : {X : Type 0} (old new : BTreeMap ℕ X) (page : ℕ) (w : Option X) → Updates nat_cmp old new page w → (q : ℕ) → get nat_cmp new q ≡ (if page == q then w else get nat_cmp old q)
updated old new page w u q = u.0 q ∙ ap (λ b. cond b w (get nat_cmp old q)) (bridge page q)

abbrev pub Keys : Type 0
Keys = BTreeMap Row ℕ

abbrev pub by_key : Row → Option Keys → Option ℕ
by_key key o = option_and_then (λ keys. get key_cmp keys key) o

-- one table's keys are others, of which one is changed
pub set_in : (old new : BTreeMap ℕ Keys) (kept keys : Keys) (table : ℕ) (key : Row) (w : Option ℕ)
    → ((t : ℕ) → get nat_cmp new t ≡ (if table == t then Some keys else get nat_cmp old t))
    → ((k : Row) → get key_cmp kept k ≡ by_key k (get nat_cmp old table)) → Updates key_cmp kept keys key w
    → (t : ℕ) (k : Row) → by_key k (get nat_cmp new t) ≡ (if (table == t) && key_eq key k then w else by_key k (get nat_cmp old t))
set_in old new kept keys table key w is was u t k = elim (cases_Bool (table == t)) [
  | inl same ↦
      ap (by_key k) (is t) ∙ ap (λ b. by_key k (if b then Some keys else get nat_cmp old t)) same ∙ u.0 k
      ∙ ap (λ o. cond (is_at (key_cmp key) k) w o) (was k ∙ ap (λ n. by_key k (get nat_cmp old n)) (eqb-true table t same))
      ∙ sym (ap (λ b. if b && key_eq key k then w else by_key k (get nat_cmp old t)) same)
  | inr far ↦
      ap (by_key k) (is t) ∙ ap (λ b. by_key k (if b then Some keys else get nat_cmp old t)) far
      ∙ sym (ap (λ b. if b && key_eq key k then w else by_key k (get nat_cmp old t)) far)
]

-- the same, where the table's keys were taken out first
pub set_taken : (old mid new : BTreeMap ℕ Keys) (kept keys : Keys) (table : ℕ) (key : Row) (w : Option ℕ)
    → ((t : ℕ) → get nat_cmp mid t ≡ (if table == t then None else get nat_cmp old t)) → ((k : Row) → get key_cmp kept k ≡ by_key k (get nat_cmp old table))
    → Updates key_cmp kept keys key w → Updates nat_cmp mid new table (Some keys)
    → (t : ℕ) (k : Row) → by_key k (get nat_cmp new t) ≡ (if (table == t) && key_eq key k then w else by_key k (get nat_cmp old t))
set_taken old mid new kept keys table key w left was u put = set_in old new kept keys table key w each was u
  where
    each : (t : ℕ) → get nat_cmp new t ≡ (if table == t then Some keys else get nat_cmp old t)
    each t = updated mid new table (Some keys) put t ∙ elim (cases_Bool (table == t)) [
      | inl same ↦ ap (λ b. if b then Some keys else get nat_cmp mid t) same ∙ sym (ap (λ b. if b then Some keys else get nat_cmp old t) same)
      | inr far ↦
          ap (λ b. if b then Some keys else get nat_cmp mid t) far ∙ left t ∙ ap (λ b. if b then None else get nat_cmp old t) far ∙ sym (ap (λ b. if b then Some keys else get nat_cmp old t) far)
    ]

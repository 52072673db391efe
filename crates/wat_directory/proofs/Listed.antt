-- The keys of a table, as they are listed.
use Rattle.std.proofs.Common.{◌≡◌, ◌⊎◌, ◌↔◌, inl, inr, ℕ, ◌&&◌, Bool, true, false, List, [], ◌∷◌, Option, Some, None, Result, Ok, Err, refl, sym, ap, ap₂, subst, ◌∙◌}
use Rattle.std.specs.Prelude.{cond, is_some, IsSome, IfOk}
use Rattle.std.specs.List.{AllByRecursion, list_all}
use Rattle.std.specs.List.Sorted.{IsStrictlySortedBy}
use Rattle.std.specs.Ordering.{is_eq, is_lt}
use Rattle.std.specs.declared.cmp.Ordering.{Ordering}
use Rattle.std.specs.declared.cmp.Ordering.TheVariants.{Less, Equal, Greater}
use Rattle.std.specs.BTreeMap.{is_at}
use Rattle.std.specs.Map.{lookup, keys_of}
use Rattle.std.proofs.lemmas.Bool.{cases_Bool}
use Rattle.wat_list.specs.Has.{Has}
use Rattle.wat_list.specs.Rising.{rising}
use Rattle.wat_value.specs.Order.{key_cmp}
use Rattle.wat_rows.specs.Rows.{Row}
use Rattle.wat_rows.proofs.Lists.{same_key, key_itself}

all_less : (x : Row) (ys : List Row) → AllByRecursion (λ y. key_cmp x y ≡ Less) ys → list_all (λ other. is_lt (key_cmp x other)) ys ≡ true
all_less x [] all = refl
all_less x (y ∷ ys) all = ap₂ (λ a b. a && b) (ap is_lt all.0) (all_less x ys all.1)

pub rising_from : (keys : List Row) → IsStrictlySortedBy key_cmp keys → rising key_cmp keys ≡ true
unfolding IsStrictlySortedBy
rising_from [] sorted = refl
rising_from (x ∷ xs) sorted = ap₂ (λ a b. a && b) (all_less x xs sorted.0) (rising_from xs sorted.1)

found_at : (key : Row) (x : ℕ) (test : Bool) (o : Option ℕ) → test ≡ true → is_some (cond test (Some x) o) ≡ true
found_at key x test o is = ap (λ b. is_some (cond b (Some x) o)) is

found_behind : (x : ℕ) (test : Bool) (o : Option ℕ) → is_some o ≡ true → is_some (cond test (Some x) o) ≡ true
found_behind x true o is = refl
found_behind x false o is = is

pub has_found : (key : Row) (es : List (Row × ℕ)) → Has key (keys_of es) → is_some (lookup (is_at (key_cmp key)) es) ≡ true
has_found key [] has = absurd has
has_found key (e ∷ es) (inl same) = found_at key e.1 (is_at (key_cmp key) e.0) (lookup (is_at (key_cmp key)) es) (subst (λ k. is_at (key_cmp key) k ≡ true) (sym same) (key_itself key))
has_found key (e ∷ es) (inr rest) = found_behind e.1 (is_at (key_cmp key) e.0) (lookup (is_at (key_cmp key)) es) (has_found key es rest)

pub found_has : (key : Row) (es : List (Row × ℕ)) → is_some (lookup (is_at (key_cmp key)) es) ≡ true → Has key (keys_of es)
found_has key [] some = absurd (let no : false ≡ true = some in cc)
found_has key (e ∷ es) some = elim (cases_Bool (is_at (key_cmp key) e.0)) [
  | inl here ↦ inl (sym (same_key key e.0 here))
  | inr far ↦ inr (found_has key es (sym (ap (λ b. is_some (cond b (Some e.1) (lookup (is_at (key_cmp key)) es))) far) ∙ some))
]

pub if_ok : {T E : Type 0} (r : Result T E) (P Q : T → Type 0) → ((x : T) → P x → Q x) → IfOk r P → IfOk r Q
if_ok (Ok x) P Q f h = f x h
if_ok (Err e) P Q f h = tt

pub listed : (key : Row) (es : List (Row × ℕ)) (keys : List Row) (place : Option ℕ) → keys ≡ keys_of es → place ≡ lookup (is_at (key_cmp key)) es → Has key keys ↔ IsSome place
listed key es keys place is there = (
  λ has. ap is_some there ∙ has_found key es (subst (λ l. Has key l) is has),
  λ some. subst (λ l. Has key l) (sym is) (found_has key es (sym (ap is_some there) ∙ some)),
)

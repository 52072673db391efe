-- How many row pages there are, by the bytes of their cells.
use Rattle.std.proofs.Common.{◌≡◌, ◌≢◌, ◌⊎◌, inl, inr, ℕ, ◌+◌, ◌*◌, ◌<◌, ◌≤◌, ◌==◌, Bool, true, false, List, [], ◌∷◌, length, Option, Some, None, refl, sym, ap, subst, ◌∙◌, arith}
use Rattle.std.specs.Prelude.{cond, nat_eq, if◌then◌else◌}
use Rattle.std.specs.List.{AllByRecursion}
use Rattle.std.specs.List.Sorted.{IsStrictlySortedBy}
use Rattle.std.specs.Ordering.{nat_cmp, is_eq}
use Rattle.std.specs.declared.cmp.Ordering.TheVariants.{Less}
use Rattle.std.specs.BTreeMap.{BTreeMap, get, is_at, IsOrdered}
use Rattle.std.specs.Map.{lookup, keys_of}
use Rattle.std.proofs.lemmas.Bool.{cases_Bool, eqb-true, eq-eqb}
use Rattle.wat_rows.specs.Rows.{Row, RowMap}
use Rattle.wat_directory.specs.declared.row_page.RowPage.{RowPage}
use Rattle.wat_directory.specs.declared.directory.Directory.{Directory}
use Rattle.wat_directory.specs.Known.{NoRoomFor, own_on, page_at, row_pages, used_in, used_bytes}
use Rattle.wat_directory.proofs.Maps.{bridge}

none_below : (k : ℕ) (es : List (ℕ × RowPage)) → AllByRecursion (λ y. nat_cmp k y ≡ Less) (keys_of es) → lookup (is_at (nat_cmp k)) es ≡ None
none_below k [] all = refl
none_below k (e ∷ es) all = ap (λ o. cond (is_eq o) (Some e.1) (lookup (is_at (nat_cmp k)) es)) all.0 ∙ none_below k es all.1

all_found : (es : List (ℕ × RowPage)) → IsStrictlySortedBy nat_cmp (keys_of es) → ((p : ℕ) (entry : RowPage) → lookup (is_at (nat_cmp p)) es ≡ Some entry → 500 < entry.used) → AllByRecursion (λ (e : ℕ × RowPage). 500 < e.1.used) es
unfolding IsStrictlySortedBy
all_found [] sorted found = tt
all_found (x ∷ xs) sorted found = (
  found x.0 x.1 (ap (λ b. cond b (Some x.1) (lookup (is_at (nat_cmp x.0)) xs)) (bridge x.0 x.0 ∙ eq-eqb x.0 x.0 refl)),
  all_found xs sorted.1 (λ p entry is. found p entry (there p entry is (cases_Bool (p == x.0)))),
)
  where
    there : (p : ℕ) (entry : RowPage) → lookup (is_at (nat_cmp p)) xs ≡ Some entry → ((p == x.0) ≡ true) ⊎ ((p == x.0) ≡ false) → lookup (is_at (nat_cmp p)) (x ∷ xs) ≡ Some entry
    there p entry is (inl same) =
        let no : None ≡ Some entry = sym (none_below x.0 xs sorted.0) ∙ ap (λ q. lookup (is_at (nat_cmp q)) xs) (sym (eqb-true p x.0 same)) ∙ is in
        absurd (let never : None ≡ Some entry = no in cc)
    there p entry is (inr far) = ap (λ b. cond b (Some x.1) (lookup (is_at (nat_cmp p)) xs)) (bridge p x.0 ∙ far) ∙ is

few : (es : List (ℕ × RowPage)) → AllByRecursion (λ (e : ℕ × RowPage). 500 < e.1.used) es → 501 * length es ≤ used_in es
few [] all = omega arith
few (e ∷ es) all = omega (arith, all.0, few es all.1)

pub counted : (d : Directory) (rows : RowMap) (table : ℕ) (key : Row) (size : ℕ) → IsOrdered nat_cmp d.pages → size ≤ 3506 → NoRoomFor d rows table key size → 501 * row_pages d ≤ used_bytes d
counted d rows table key size ordered small none =
    few d.pages.entries (all_found d.pages.entries ordered (λ p entry is. much (own_on d rows table key p) entry.used (none p entry is)))
  where
    much : (own used : ℕ) → 4080 + own < used + size → 500 < used
    much own used h = omega (arith, h, small)

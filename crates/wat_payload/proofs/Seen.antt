-- The set of the pages that were met.
use Rattle.std.proofs.Common.{◌≡◌, ⊎_elim, ℕ, ◌<◌, ◌≤◌, ◌^◌, ◌||◌, not, Bool, true, false, cond, List, [], ◌∷◌, ◌++◌, length, refl, sym, ap, ap₂, ◌∙◌, subst, append_assoc}
use Rattle.std.specs.Prelude.{nat_eq, All}
use Rattle.std.specs.List.{list_any, AllByRecursion, IsDistinct}
use Rattle.std.specs.List.Sorted.{IsStrictlySortedBy}
use Rattle.std.specs.Ordering.{nat_cmp, match_ordering}
use Rattle.std.specs.declared.cmp.Ordering.{Ordering}
use Rattle.std.specs.declared.cmp.Ordering.TheVariants.{Less, Equal, Greater}
use Rattle.std.specs.Cmp.{nat_eq_equiv}
use Rattle.std.proofs.lemmas.Map.Keys.{IsDistinct-push}
use Rattle.std.specs.BTreeMap.{is_at}
use Rattle.std.specs.BTreeSet.{BTreeSet, insert_key, Updates}
use Rattle.std.proofs.lemmas.Bool.{cases_eq, eq-eqb, ne_eqb}
use Rattle.std.proofs.lemmas.List.Elements.{All-from_recursion, recursion_from_All}
use Rattle.std.proofs.lemmas.List.Folds.{list_any-append}
use Rattle.std.proofs.lemmas.Map.Views.{length-le_from_below}
use Rattle.wat_images.proofs.Maps.{bridge}
use Rattle.wat_payload.specs.Reading.{IsSetOf}

pub contains_is : (keys : List ℕ) (page : ℕ) → list_any (is_at (nat_cmp page)) keys ≡ list_any (nat_eq page) keys
contains_is keys page i = list_any (λ q. bridge page q i) keys

same_way : (a b : ℕ) → nat_eq a b ≡ nat_eq b a
same_way a b = ⊎_elim (λ (e : a ≡ b). eq-eqb a b e ∙ sym (eq-eqb b a (sym e))) (λ apart. ne_eqb a b apart ∙ sym (ne_eqb b a (λ e. apart (sym e)))) (cases_eq a b)

choose : (b c : Bool) → cond b true c ≡ (c || (b || false))
choose true true = refl
choose true false = refl
choose false true = refl
choose false false = refl

small_insert : (keys : List ℕ) (page : ℕ) → AllByRecursion (λ (k : ℕ). k < 2 ^ 32) keys → page < 2 ^ 32 → AllByRecursion (λ (k : ℕ). k < 2 ^ 32) (insert_key nat_cmp keys page)
small_insert [] page all fits = (fits, tt)
small_insert (key ∷ keys) page all fits = at (nat_cmp page key) (insert_key nat_cmp keys page) (small_insert keys page all.1 fits)
  where
    at : (o : Ordering) (rest : List ℕ) → AllByRecursion (λ (k : ℕ). k < 2 ^ 32) rest → AllByRecursion (λ (k : ℕ). k < 2 ^ 32) (match_ordering o (page ∷ key ∷ keys) (key ∷ keys) (key ∷ rest))
    at Less rest more = (fits, all)
    at Equal rest more = all
    at Greater rest more = (all.0, more)

pub none_seen : (keys : List ℕ) → keys ≡ [] → IsStrictlySortedBy nat_cmp keys → IsSetOf keys []
none_seen keys is sorted = record {
  same = λ page. ap (λ l. list_any (nat_eq page) l) is;
  small = subst (λ l. All (λ (k : ℕ). k < 2 ^ 32) l) (sym is) (All-from_recursion (λ (k : ℕ). k < 2 ^ 32) [] tt);
  sorted = sorted;
}

-- one page more
pub one_seen : (old new : BTreeSet ℕ) (list : List ℕ) (page : ℕ) → IsSetOf old.keys list → page < 2 ^ 32 → Updates nat_cmp old new page true → new.keys ≡ insert_key nat_cmp old.keys page → IsStrictlySortedBy nat_cmp new.keys → IsSetOf new.keys (list ++ page ∷ [])
one_seen old new list page set fits updates is sorted = record {
  same = λ q.
      sym (contains_is new.keys q) ∙ updates.0 q ∙ ap₂ (λ b c. cond b true c) (bridge page q ∙ same_way page q) (contains_is old.keys q ∙ set.same q) ∙ choose (nat_eq q page) (list_any (nat_eq q) list) ∙ sym (list_any-append (nat_eq q) list (page ∷ []));
  small = subst (λ l. All (λ (k : ℕ). k < 2 ^ 32) l) (sym is) (All-from_recursion (λ (k : ℕ). k < 2 ^ 32) (insert_key nat_cmp old.keys page) (small_insert old.keys page (recursion_from_All (λ (k : ℕ). k < 2 ^ 32) old.keys set.small) fits));
  sorted = sorted;
}

-- there are only so many pages
pub few_seen : (keys list : List ℕ) → IsSetOf keys list → length keys ≤ 2 ^ 32
few_seen keys list set = length-le_from_below (2 ^ 32) keys set.sorted set.small

-- what an insertion answers
pub seen_before : (keys list : List ℕ) (page : ℕ) → IsSetOf keys list → (b : Bool) → b ≡ not (list_any (is_at (nat_cmp page)) keys) → false ≡ b → list_any (nat_eq page) list ≡ true
seen_before keys list page set b is came = sym (set.same page) ∙ sym (contains_is keys page) ∙ by (list_any (is_at (nat_cmp page)) keys) (came ∙ is)
  where
    by : (t : Bool) → false ≡ not t → t ≡ true
    by true e = refl
    by false e = absurd (let no : false ≡ true = e in cc)

pub seen_new : (keys list : List ℕ) (page : ℕ) → IsSetOf keys list → (b : Bool) → b ≡ not (list_any (is_at (nat_cmp page)) keys) → true ≡ b → list_any (nat_eq page) list ≡ false
seen_new keys list page set b is new = sym (set.same page) ∙ sym (contains_is keys page) ∙ by (list_any (is_at (nat_cmp page)) keys) (new ∙ is)
  where
    by : (t : Bool) → true ≡ not t → t ≡ false
    by true e = absurd (let no : true ≡ false = e in cc)
    by false e = refl

pub distinct_more : (met list : List ℕ) (page : ℕ) → IsDistinct nat_eq (met ++ list) → list_any (nat_eq page) (met ++ list) ≡ false → IsDistinct nat_eq (met ++ (list ++ page ∷ []))
distinct_more met list page once new = subst (IsDistinct nat_eq) (append_assoc met list (page ∷ [])) (IsDistinct-push nat_eq_equiv (met ++ list) page once new)

pub numbered_more : (list : List ℕ) (page old new : ℕ) → All (λ (p : ℕ). (0 < p) × (p < old)) list → new ≡ old → 0 < page → page < old → All (λ (p : ℕ). (0 < p) × (p < new)) (list ++ page ∷ [])
numbered_more list page old new all same some below =
    subst (λ n. All (λ (p : ℕ). (0 < p) × (p < n)) (list ++ page ∷ [])) (sym same) (All-from_recursion (λ (p : ℕ). (0 < p) × (p < old)) (list ++ page ∷ []) (more list (recursion_from_All (λ (p : ℕ). (0 < p) × (p < old)) list all)))
  where
    more : (xs : List ℕ) → AllByRecursion (λ (p : ℕ). (0 < p) × (p < old)) xs → AllByRecursion (λ (p : ℕ). (0 < p) × (p < old)) (xs ++ page ∷ [])
    more [] h = ((some, below), tt)
    more (x ∷ xs) h = (h.0, more xs h.1)

-- Maps of pages by their numbers.
use Rattle.std.proofs.Common.{◌≡◌, ℕ, List, [], ◌∷◌, length, Some, sym, ◌∙◌, arith}
use Rattle.std.specs.Prelude.{nat_eq, cond}
use Rattle.std.specs.Ordering.{nat_cmp, match_ordering}
use Rattle.std.specs.declared.cmp.Ordering.{Ordering}
use Rattle.std.specs.declared.cmp.Ordering.TheVariants.{Less, Equal, Greater}
use Rattle.std.specs.BTreeMap.{BTreeMap, get, is_at, insert_entry, Updates}
use Rattle.std.proofs.lemmas.Grind.{common_steps}
use Rattle.std.specs.Map.{lookup}
use Rattle.wat_restore.specs.Images.{AllWhole}

pub bridge : (page q : ℕ) → is_at (nat_cmp page) q ≡ nat_eq page q
bridge page q = grind (arith, common_steps)

pub get_is : (pages : BTreeMap ℕ (List ℕ)) (page : ℕ) → get nat_cmp pages page ≡ lookup (nat_eq page) pages.entries
get_is pages page i = lookup (λ q. bridge page q i) pages.entries

pub updates_is : (old new : BTreeMap ℕ (List ℕ)) (page : ℕ) (bytes : List ℕ) → Updates nat_cmp old new page (Some bytes) → (q : ℕ) → lookup (nat_eq q) new.entries ≡ cond (nat_eq page q) (Some bytes) (lookup (nat_eq q) old.entries)
updates_is old new page bytes updates q = sym (get_is new q) ∙ updates.0 q ∙ (λ i. cond (bridge page q i) (Some bytes) (get_is old q i))

pub whole_insert : (entries : List (ℕ × List ℕ)) (page : ℕ) (bytes : List ℕ) → AllWhole entries → length bytes ≡ 4096 → AllWhole (insert_entry nat_cmp entries page bytes)
whole_insert [] page bytes whole long = (long, tt)
whole_insert (entry ∷ entries) page bytes whole long = at (nat_cmp page entry.0) (insert_entry nat_cmp entries page bytes) (whole_insert entries page bytes whole.1 long)
  where
    at : (o : Ordering) (rest : List (ℕ × List ℕ)) → AllWhole rest → AllWhole (match_ordering o ((page, bytes) ∷ entry ∷ entries) ((entry.0, bytes) ∷ entries) (entry ∷ rest))
    at Less rest all = (long, whole)
    at Equal rest all = (long, whole.1)
    at Greater rest all = (whole.0, all)

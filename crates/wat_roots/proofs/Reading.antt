-- What the chains and the list that were read say together.
use Rattle.std.proofs.Common.{◌≡◌, inl, inr, ℕ, ◌*◌, ◌<◌, List, [], ◌++◌, refl, sym, ◌∙◌, ap, subst}
use Rattle.wat_restore.specs.Head.{Head}
use Rattle.wat_book.specs.Book.{Book, Section, SameBook}
use Rattle.wat_book.specs.Chains.{IsReadChain, BreaksAt, all_pages}
use Rattle.wat_images.specs.declared.refusal.PageRefusal.{PageRefusal}
use Rattle.wat_images.specs.Refusal.{IfDamaged}
use Rattle.wat_pages.specs.declared.pages.Pages.{Pages}
use Rattle.wat_pages.specs.Pages.{SameHead}
use Rattle.wat_pages.specs.Header.{head_of}
use Rattle.wat_files.specs.Chains.{IsFreeList, FreeBreaksAt, CatalogStops, ChainsStop}
use Rattle.wat_files.specs.Formed.{IsAtPage}
use Rattle.wat_free_list.specs.Whole.{whole_pages}
use Rattle.wat_free_list.proofs.Going.{whole_same}
use Rattle.wat_roots.specs.declared.roots.Roots.{Roots}
use Rattle.wat_roots.specs.Roots.{HasRoots, head_now}
use Rattle.wat_roots.proofs.Going.{at_page, page_to}
use Rattle.wat_roots.proofs.Linking.{reads_whole, breaks_whole}

pub whole_path : (a b : Book) → SameBook a b → whole_pages b ≡ whole_pages a
whole_path a b same = λ i page. whole_same a b same page i

pub head_path : (a b : Pages) → SameHead a b → head_now b ≡ head_now a
head_path a b same = λ i. head_of (same.header i) (same.limit i) (same.count i) (same.free i)

-- ---- chains

pub chain_read : (book : Book) (met list payload : List ℕ) (first root : ℕ) → first ≡ root → IsReadChain (all_pages book) met first list payload → IsReadChain (whole_pages book) met root list payload
chain_read book met list payload first root same reads = subst (λ (n : ℕ). IsReadChain (whole_pages book) met n list payload) same (reads_whole book met first list payload reads)

pub chain_breaks : (refusal : PageRefusal) (book : Book) (met : List ℕ) (first root : ℕ) → first ≡ root → IfDamaged refusal (λ file at. (file ≡ 0) × (here : ℕ) × (at ≡ 4096 * here) × BreaksAt (all_pages book) met first here)
    → IfDamaged refusal (λ file at. IsAtPage file at (BreaksAt (whole_pages book) met root))
chain_breaks refusal book met first root same = at_page refusal (BreaksAt (all_pages book) met first) (BreaksAt (whole_pages book) met root)
    (λ here breaks. subst (λ (n : ℕ). BreaksAt (whole_pages book) met n here) same (breaks_whole book met first here breaks))

pub catalog_breaks : (refusal : PageRefusal) (book : Book) (head : Head) (first : ℕ) → first ≡ head.catalog → 0 < first → IfDamaged refusal (λ file at. (file ≡ 0) × (here : ℕ) × (at ≡ 4096 * here) × BreaksAt (all_pages book) [] first here)
    → IfDamaged refusal (λ file at. IsAtPage file at (CatalogStops (whole_pages book) head))
catalog_breaks refusal book head first same some = at_page refusal (BreaksAt (all_pages book) [] first) (CatalogStops (whole_pages book) head)
    (λ here breaks. inr (subst (λ (n : ℕ). 0 < n) same some, subst (λ (n : ℕ). BreaksAt (whole_pages book) [] n here) same (breaks_whole book [] first here breaks)))

-- ---- all of them

module _ (a b c : Book) (p q r : Pages) (two : SameBook a b) (three : SameBook a c) (same_two : SameHead p q) (same_three : SameHead p r) (cat schema : List ℕ) (some : 0 < (head_now p).catalog) (catalog : IsReadChain (whole_pages a) [] (head_now p).catalog cat schema) where
  second_at : (met list payload : List ℕ) → met ≡ cat → IsReadChain (whole_pages b) met (head_now q).rollback list payload → IsReadChain (whole_pages a) cat (head_now p).rollback list payload
  second_at met list payload same reads =
      subst (λ (w : Section). IsReadChain w cat (head_now p).rollback list payload) (whole_path a b two)
      (subst (λ (h : Head). IsReadChain (whole_pages b) cat h.rollback list payload) (head_path p q same_two) (subst (λ (m : List ℕ). IsReadChain (whole_pages b) m (head_now q).rollback list payload) same reads))

  pub second_stops : (refusal : PageRefusal) (met : List ℕ) → met ≡ cat → IfDamaged refusal (λ file at. IsAtPage file at (BreaksAt (whole_pages b) met (head_now q).rollback))
      → IfDamaged refusal (λ file at. IsAtPage file at (ChainsStop (whole_pages a) (head_now p)))
  second_stops refusal met same = page_to refusal (BreaksAt (whole_pages b) met (head_now q).rollback) (ChainsStop (whole_pages a) (head_now p))
      (λ page breaks. inr (inl (record {
        some = some;
        list = cat;
        payload = schema;
        catalog = catalog;
        stops = subst (λ (w : Section). BreaksAt w cat (head_now p).rollback page) (whole_path a b two)
            (subst (λ (h : Head). BreaksAt (whole_pages b) cat h.rollback page) (head_path p q same_two) (subst (λ (m : List ℕ). BreaksAt (whole_pages b) m (head_now q).rollback page) same breaks));
      })))

  module _ (met roll changes : List ℕ) (met_is : met ≡ cat) (rollback : IsReadChain (whole_pages b) met (head_now q).rollback roll changes) (chains : List ℕ) (joined : chains ≡ cat ++ roll) (first : ℕ) (first_is : first ≡ (head_now r).free) where
    free_first : first ≡ (head_now p).free
    free_first = first_is ∙ ap (λ (h : Head). h.free) (head_path p r same_three)

    pub third_stops : (refusal : PageRefusal) (more : List ℕ) → more ≡ chains → IfDamaged refusal (λ file at. (file ≡ 0) × (here : ℕ) × (at ≡ 4096 * here) × FreeBreaksAt (whole_pages c) more first here)
        → IfDamaged refusal (λ file at. IsAtPage file at (ChainsStop (whole_pages a) (head_now p)))
    third_stops refusal more same = at_page refusal (FreeBreaksAt (whole_pages c) more first) (ChainsStop (whole_pages a) (head_now p))
        (λ page breaks. inr (inr (record {
          some = some;
          list = cat;
          payload = schema;
          catalog = catalog;
          second = roll;
          changes = changes;
          rollback = second_at met roll changes met_is rollback;
          stops = subst (λ (w : Section). FreeBreaksAt w (cat ++ roll) (head_now p).free page) (whole_path a c three)
              (subst (λ (n : ℕ). FreeBreaksAt (whole_pages c) (cat ++ roll) n page) free_first (subst (λ (m : List ℕ). FreeBreaksAt (whole_pages c) m first page) (same ∙ joined) breaks));
        })))

    pub roots : (more free listed : List ℕ) → more ≡ chains → IsFreeList (whole_pages c) more first free → listed ≡ chains ++ free → (roots : Roots) → roots.schema.items ≡ schema → roots.changes.items ≡ changes → roots.listed.items ≡ listed
        → HasRoots (whole_pages a) (head_now p) roots
    roots more free listed same list all_are them schema_is changes_are listed_are = record {
      chains = record { catalog = cat; schema = schema; rollback = roll; changes = changes; free = free };
      has = record {
        some = some;
        catalog = catalog;
        rollback = second_at met roll changes met_is rollback;
        free = subst (λ (w : Section). IsFreeList w (cat ++ roll) (head_now p).free free) (whole_path a c three)
            (subst (λ (n : ℕ). IsFreeList (whole_pages c) (cat ++ roll) n free) free_first (subst (λ (m : List ℕ). IsFreeList (whole_pages c) m first free) (same ∙ joined) list));
      };
      schema = sym schema_is;
      changes = sym changes_are;
      listed = sym (listed_are ∙ all_are ∙ ap (λ l. l ++ free) joined);
    }

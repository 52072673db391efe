-- Pages under writes, whole and torn, and images laid over main.
use Rattle.std.proofs.Common.{◌≡◌, ◌≢◌, ◌⊎◌, ⊎_elim, ℕ, ◌+◌, ◌-◌, ◌*◌, ◌<◌, ◌≤◌, min, Bool, true, false, List, [], ◌∷◌, ◌++◌, length, take, drop, Option, Some, None, refl, sym, ◌∙◌, ap, subst, arith, length-append, append_assoc}
use Rattle.std.specs.Prelude.{nat_eq, cond, replicate, MatchOption}
use Rattle.std.specs.List.{AllByRecursion, IsDistinct}
use Rattle.std.specs.Map.{lookup, keys_of}
use Rattle.std.proofs.lemmas.Bool.{cases_eq, cases_order, eq-eqb, ne_eqb}
use Rattle.std.proofs.lemmas.List.{take_at, drop_at, take-take, drop-take, drop-drop, length-take, length-replicate, take_min}
use Rattle.std.proofs.lemmas.Map.Keys.{IsDistinct-head, IsDistinct-tail}
use Rattle.wat_disk.specs.Bytes.{written, Torn}
use Rattle.wat_disk.specs.LeftProofs.{torn_written, length-written}
use Rattle.wat_restore.specs.Restored.{page_at, HasPage, laid}

-- a page that ends before both ends of a common front
page_in_front : (page m : ℕ) (old new : List ℕ) → 4096 * page + 4096 ≤ m → take m new ≡ take m old → page_at new page ≡ page_at old page
page_in_front page m old new within same =
    sym (drop-take (4096 * page) 4096 new)
    ∙ ap (drop (4096 * page)) (sym (take-take (4096 * page + 4096) m new within) ∙ ap (take (4096 * page + 4096)) same ∙ take-take (4096 * page + 4096) m old within)
    ∙ drop-take (4096 * page) 4096 old

-- a page past the start of a common rest
page_in_rest : (page m : ℕ) (old new : List ℕ) → m ≤ 4096 * page → drop m new ≡ drop m old → page_at new page ≡ page_at old page
page_in_rest page m old new past same =
    let k = 4096 * page - m in
    let at : m + k ≡ 4096 * page = omega arith in
    ap (take 4096)
    (ap (λ (n : ℕ). drop n new) (sym at) ∙ sym (drop-drop k m new) ∙ ap (drop k) same ∙ drop-drop k m old ∙ ap (λ (n : ℕ). drop n old) at)

-- a torn write of one page leaves each other whole page
pub torn_other : (page q : ℕ) (bytes : List ℕ) (old new : List ℕ) → page ≢ q → Torn (4096 * q) 4096 old new → HasPage old page bytes → HasPage new page bytes
torn_other page q bytes old new other torn has = record {
  whole = omega (arith, has.whole, torn.no_shorter);
  is = ⊎_elim
      (λ (less : page < q). page_in_front page (min (4096 * q) (length old)) old new (omega (arith, has.whole)) (torn.before ∙ short) ∙ has.is)
      (λ (more : q < page). page_in_rest page (4096 * q + 4096) old new (omega arith) torn.after ∙ has.is)
      apart;
}
  where
    apart : (page < q) ⊎ (q < page)
    apart = ⊎_elim (λ same. absurd (other same)) (λ rest. rest) (cases_order page q)

    short : take (4096 * q) old ≡ take (min (4096 * q) (length old)) old
    short = sym (take_min (4096 * q) old)

pub written_page : (page : ℕ) (main bytes : List ℕ) → length bytes ≡ 4096 → HasPage (written main (4096 * page) bytes) page bytes
written_page page main bytes long = record {
  whole = omega (arith, length-written main bytes (4096 * page), long);
  is = ap (take 4096) (ap (drop (4096 * page)) split ∙ drop_at front rest (4096 * page) front_long) ∙ take_at bytes (drop (4096 * page + length bytes) main) 4096 long;
}
  where
    front : List ℕ
    front = take (4096 * page) main ++ replicate (4096 * page - length main) 0

    rest : List ℕ
    rest = bytes ++ drop (4096 * page + length bytes) main

    front_long : length front ≡ 4096 * page
    front_long = omega (arith, length-append (take (4096 * page) main) (replicate (4096 * page - length main) 0), length-take (4096 * page) main, length-replicate {A = ℕ} (4096 * page - length main) 0)

    split : written main (4096 * page) bytes ≡ front ++ rest
    split = append_assoc front bytes (drop (4096 * page + length bytes) main)

pub written_other : (page q : ℕ) (main bytes new : List ℕ) → length new ≡ 4096 → page ≢ q → HasPage main page bytes → HasPage (written main (4096 * q) new) page bytes
written_other page q main bytes new long other has =
    torn_other page q bytes main (written main (4096 * q) new) other (subst (λ (n : ℕ). Torn (4096 * q) n main (written main (4096 * q) new)) long (torn_written main new (4096 * q))) has

none_among : (page : ℕ) (images : List (ℕ × List ℕ)) → AllByRecursion (λ (q : ℕ). nat_eq page q ≡ false) (keys_of images) → lookup (nat_eq page) images ≡ None
none_among page [] apart = refl
none_among page (image ∷ images) apart =
    ap (λ (b : Bool). cond b (Some image.1) (lookup (nat_eq page) images)) apart.0 ∙ none_among page images apart.1

pub match_none : {A : Type 0} (o : Option A) (P Q : Type 0) (R : A → Type 0) → (P → Q) → MatchOption o P R → MatchOption o Q R
match_none None P Q R f p = f p
match_none (Some x) P Q R f p = p

module _ (image : ℕ × List ℕ) (images : List (ℕ × List ℕ)) (main bytes : List ℕ) (page : ℕ) (long : length image.1 ≡ 4096) (once : IsDistinct nat_eq (keys_of (image ∷ images)))
    (has : MatchOption (lookup (nat_eq page) (image ∷ images)) (HasPage main page bytes) (λ image. image ≡ bytes)) where
  abbrev next : List ℕ
  next = written main (4096 * image.0) image.1

  at_test : (b : Bool) → nat_eq page image.0 ≡ b → MatchOption (cond b (Some image.1) (lookup (nat_eq page) images)) (HasPage main page bytes) (λ image. image ≡ bytes)
  at_test b is = subst (λ (c : Bool). MatchOption (cond c (Some image.1) (lookup (nat_eq page) images)) (HasPage main page bytes) (λ image. image ≡ bytes)) is has

  here : page ≡ image.0 → MatchOption (lookup (nat_eq page) images) (HasPage next page bytes) (λ image. image ≡ bytes)
  here same =
      let is : image.1 ≡ bytes = at_test true (eq-eqb page image.0 same) in
      let none : lookup (nat_eq page) images ≡ None = none_among page images
      (subst (λ (q : ℕ). AllByRecursion (λ (y : ℕ). nat_eq q y ≡ false) (keys_of images)) (sym same) (IsDistinct-head nat_eq image.0 (keys_of images) once)) in
      let there : HasPage next page bytes = subst (HasPage next page) is (subst (λ (q : ℕ). HasPage (written main (4096 * q) image.1) page image.1) same (written_page page main image.1 long)) in
      subst (λ (o : Option (List ℕ)). MatchOption o (HasPage next page bytes) (λ image. image ≡ bytes)) (sym none) there

  there : page ≢ image.0 → MatchOption (lookup (nat_eq page) images) (HasPage next page bytes) (λ image. image ≡ bytes)
  there other = match_none (lookup (nat_eq page) images) (HasPage main page bytes) (HasPage next page bytes) (λ image. image ≡ bytes) (written_other page image.0 main bytes image.1 long other)
      (at_test false (ne_eqb page image.0 other))

  laid_first : MatchOption (lookup (nat_eq page) images) (HasPage next page bytes) (λ image. image ≡ bytes)
  laid_first = ⊎_elim here there (cases_eq page image.0)

-- a page of main with images laid over it: its image, else as it was
pub laid_page : (images : List (ℕ × List ℕ)) (main bytes : List ℕ) (page : ℕ) → AllByRecursion (λ (image : ℕ × List ℕ). length image.1 ≡ 4096) images → IsDistinct nat_eq (keys_of images)
    → MatchOption (lookup (nat_eq page) images) (HasPage main page bytes) (λ image. image ≡ bytes) → HasPage (laid main images) page bytes
laid_page [] main bytes page whole once has = has
laid_page (image ∷ images) main bytes page whole once has =
    laid_page images (written main (4096 * image.0) image.1) bytes page whole.1 (IsDistinct-tail nat_eq image.0 (keys_of images) once) (laid_first image images main bytes page whole.0 once has)

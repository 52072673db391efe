-- What frames of images stand for.
use Rattle.std.proofs.Common.{◌≡◌, ℕ, zero, suc, ◌*◌, ◌/◌, ◌%◌, ◌<◌, ◌≤◌, ◌^◌, Bool, true, false, List, [], ◌∷◌, ◌++◌, length, take, drop, Option, Some, None, refl, sym, ◌∙◌, ap, subst, arith, length-append, length-drop, append_assoc}
use Rattle.std.specs.Prelude.{nat_eq, cond, MatchOption, All, IsSome}
use Rattle.std.specs.List.{flat_map, list_any, AllByRecursion, IsDistinct}
use Rattle.std.specs.Map.{lookup, keys_of}
use Rattle.std.specs.Int.{w32, to_be_bytes, from_be_bytes}
use Rattle.std.proofs.lemmas.List.{take_at, drop_at, length-take-le, append-nil}
use Rattle.std.proofs.lemmas.List.Concat.{flat_map-append}
use Rattle.std.proofs.lemmas.List.Elements.{All-push}
use Rattle.std.proofs.lemmas.Nat.{from_be_bytes-to_be_bytes_4, div-add-mod'}
use Rattle.wat_gate.specs.Bodies.{bodies, IsWhole}
use Rattle.wat_gate.proofs.Frames.{length-be}
use Rattle.wat_disk.specs.Disk.{Image}
use Rattle.wat_restore.specs.Restored.{HasPage, image_bytes, images_from, images_of, images_in, IsImageLog, Checkpoint, RestoresTo, image_of, IsCovered, KeepsPagesBut}
use Rattle.wat_restore.specs.Images.{AllWhole, encoded}
use Rattle.wat_restore.proofs.Laid.{laid_page}

pub whole-append : (xs ys : List (ℕ × List ℕ)) → AllWhole xs → AllWhole ys → AllWhole (xs ++ ys)
whole-append [] ys first second = second
whole-append (x ∷ xs) ys first second = (first.0, whole-append xs ys first.1 second)

whole_from : (n : ℕ) (bytes : List ℕ) → 4100 * n ≤ length bytes → AllWhole (images_from n bytes)
whole_from zero bytes room = tt
whole_from (suc n) bytes room =
    (length-take-le 4096 (drop 4 bytes) (omega (arith, room, length-drop 4 bytes)), whole_from n (drop 4100 bytes) (omega (arith, room, length-drop 4100 bytes)))

whole_of : (body : List ℕ) → AllWhole (images_of body)
unfolding images_of
whole_of body = whole_from (length body / 4100) body (omega (arith, div-add-mod' (length body) 4100))

-- the images of every log are whole
pub all_whole : (frames : List (List ℕ)) → AllWhole (flat_map images_of frames)
all_whole [] = tt
all_whole (body ∷ frames) = whole-append (images_of body) (flat_map images_of frames) (whole_of body) (all_whole frames)

-- ---- images as they are written
pub length-encoded : (images : List (ℕ × List ℕ)) → AllWhole images → length (encoded images) ≡ 4100 * length images
length-encoded [] whole = refl
length-encoded (image ∷ images) whole =
    omega (arith, length-append (image_bytes image) (encoded images), length-append (to_be_bytes w32 image.0) image.1, length-be image.0, whole.0, length-encoded images whole.1)

from_encoded : (images : List (ℕ × List ℕ)) → AllWhole images → AllByRecursion (λ (image : ℕ × List ℕ). image.0 < 2 ^ 32) images → images_from (length images) (encoded images) ≡ images
from_encoded [] whole fits = refl
from_encoded (image ∷ images) whole fits =
    let number = to_be_bytes w32 image.0 in
    let long : length (image_bytes image) ≡ 4100 = omega (arith, length-append number image.1, length-be image.0, whole.0) in
    let split : encoded (image ∷ images) ≡ number ++ (image.1 ++ encoded images) = append_assoc number image.1 (encoded images) in
    let page : from_be_bytes w32 (take 4 (encoded (image ∷ images))) ≡ image.0 =
    ap (λ (l : List ℕ). from_be_bytes w32 (take 4 l)) split ∙ ap (from_be_bytes w32) (take_at number (image.1 ++ encoded images) 4 (length-be image.0)) ∙ from_be_bytes-to_be_bytes_4 image.0 fits.0 in
    let bytes : take 4096 (drop 4 (encoded (image ∷ images))) ≡ image.1 =
    ap (λ (l : List ℕ). take 4096 (drop 4 l)) split ∙ ap (take 4096) (drop_at number (image.1 ++ encoded images) 4 (length-be image.0)) ∙ take_at image.1 (encoded images) 4096 whole.0 in
    let rest : images_from (length images) (drop 4100 (encoded (image ∷ images))) ≡ images =
    ap (images_from (length images)) (drop_at (image_bytes image) (encoded images) 4100 long) ∙ from_encoded images whole.1 fits.1 in
    (λ i. (page i, bytes i) ∷ rest i)

pub images_of-encoded : (images : List (ℕ × List ℕ)) → AllWhole images → AllByRecursion (λ (image : ℕ × List ℕ). image.0 < 2 ^ 32) images → images_of (encoded images) ≡ images
unfolding images_of
images_of-encoded images whole fits =
    let n : length (encoded images) / 4100 ≡ length images = omega (arith, length-encoded images whole) in
    ap (λ (k : ℕ). images_from k (encoded images)) n ∙ from_encoded images whole fits

pub encoded_whole : (images : List (ℕ × List ℕ)) → AllWhole images → length (encoded images) % 4100 ≡ 0
encoded_whole images whole = omega (arith, length-encoded images whole)

-- ---- each page of the checkpoint is covered
pub covered_restores : (saved : Checkpoint) (files : Image) → IsCovered saved files → RestoresTo saved files
covered_restores saved files covered = record {
  log = covered.log;
  pages = λ page below. laid_page (images_in (files 1)) (files 0) (saved.page page) page (all_whole (bodies (files 1))) covered.log.once (covered.pages page below);
}

match_weaker : (o : Option (List ℕ)) (P : Type 0) (R : List ℕ → Type 0) → P → MatchOption o (Unit {0}) R → MatchOption o P R
match_weaker None P R p r = p
match_weaker (Some x) P R p r = r

match_cond : (b : Bool) (x : List ℕ) (o more : Option (List ℕ)) (P : Type 0) (R : List ℕ → Type 0) → (MatchOption o P R → MatchOption more P R) → MatchOption (cond b (Some x) o) P R → MatchOption (cond b (Some x) more) P R
match_cond true x o more P R goes_on r = r
match_cond false x o more P R goes_on r = goes_on r

pub match-append : (page : ℕ) (xs ys : List (ℕ × List ℕ)) (P : Type 0) (R : List ℕ → Type 0) → MatchOption (lookup (nat_eq page) xs) P R → MatchOption (lookup (nat_eq page) ys) (Unit {0}) R → MatchOption (lookup (nat_eq page) (xs ++ ys)) P R
match-append page [] ys P R first second = match_weaker (lookup (nat_eq page) ys) P R first second
match-append page (x ∷ xs) ys P R first second =
    match_cond (nat_eq page x.0) x.1 (lookup (nat_eq page) xs) (lookup (nat_eq page) (xs ++ ys)) P R (λ r. match-append page xs ys P R r second) first

-- the log has images more
pub covered_added : (saved : Checkpoint) (files new : Image) (body : List ℕ) (images : List (ℕ × List ℕ)) → IsCovered saved files → new 0 ≡ files 0 → IsWhole (new 1) → bodies (new 1) ≡ bodies (files 1) ++ body ∷ []
    → length body % 4100 ≡ 0 → images_of body ≡ images → IsDistinct nat_eq (keys_of (images_in (files 1) ++ images))
    → ((page : ℕ) → page < saved.count → MatchOption (lookup (nat_eq page) images) (Unit {0}) (λ image. image ≡ saved.page page)) → IsCovered saved new
covered_added saved files new body images covered main whole added size is once right = record {
  log = record {
    whole = whole;
    images = subst (All (λ (b : List ℕ). length b % 4100 ≡ 0)) (sym added) (All-push (λ (b : List ℕ). length b % 4100 ≡ 0) (bodies (files 1)) body covered.log.images size);
    once = subst (λ (l : List (ℕ × List ℕ)). IsDistinct nat_eq (keys_of l)) (sym all) once;
  };
  pages = λ page below.
      subst (λ (l : List (ℕ × List ℕ)). MatchOption (lookup (nat_eq page) l) (HasPage (new 0) page (saved.page page)) (λ image. image ≡ saved.page page)) (sym all)
      (subst (λ (l : List ℕ). MatchOption (lookup (nat_eq page) (images_in (files 1) ++ images)) (HasPage l page (saved.page page)) (λ image. image ≡ saved.page page)) (sym main)
      (match-append page (images_in (files 1)) images (HasPage (files 0) page (saved.page page)) (λ image. image ≡ saved.page page) (covered.pages page below) (right page below)));
}
  where
    all : images_in (new 1) ≡ images_in (files 1) ++ images
    all = ap (flat_map images_of) added ∙ flat_map-append images_of (bodies (files 1)) (body ∷ []) ∙ ap (λ (l : List (ℕ × List ℕ)). images_in (files 1) ++ l) (append-nil (images_of body) ∙ is)

no_none : IsSome {T = List ℕ} None → ⊥
no_none is = cc

-- only pages that have images have changed in main
pub covered_written : (saved : Checkpoint) (files new : Image) (pages : List ℕ) → IsCovered saved files → new 1 ≡ files 1 → KeepsPagesBut pages (files 0) (new 0)
    → ((page : ℕ) → page < saved.count → list_any (nat_eq page) pages ≡ true → IsSome (image_of files page)) → IsCovered saved new
covered_written saved files new pages covered before keeps imaged = record {
  log = subst IsImageLog (sym before) covered.log;
  pages = λ page below.
      subst (λ (l : List ℕ). MatchOption (lookup (nat_eq page) (images_in l)) (HasPage (new 0) page (saved.page page)) (λ image. image ≡ saved.page page)) (sym before)
      (kept (lookup (nat_eq page) (images_in (files 1))) page (imaged page below) (covered.pages page below));
}
  where
    tested : (b : Bool) → (b ≡ true → ⊥) → b ≡ false
    tested true never = absurd (never refl)
    tested false never = refl

    kept : (o : Option (List ℕ)) (page : ℕ) → (list_any (nat_eq page) pages ≡ true → IsSome o) → MatchOption o (HasPage (files 0) page (saved.page page)) (λ image. image ≡ saved.page page)
        → MatchOption o (HasPage (new 0) page (saved.page page)) (λ image. image ≡ saved.page page)
    kept None page some has = keeps page (saved.page page) (tested (list_any (nat_eq page) pages) (λ here. no_none (some here))) has
    kept (Some image) page some has = has

-- the log has the same images
pub covered_same : (saved : Checkpoint) (files new : Image) → IsCovered saved files → new 0 ≡ files 0 → IsWhole (new 1) → bodies (new 1) ≡ bodies (files 1) → IsCovered saved new
covered_same saved files new covered main whole same = record {
  log = record {
    whole = whole;
    images = subst (All (λ (b : List ℕ). length b % 4100 ≡ 0)) (sym same) covered.log.images;
    once = subst (λ (l : List (List ℕ)). IsDistinct nat_eq (keys_of (flat_map images_of l))) (sym same) covered.log.once;
  };
  pages = λ page below.
      subst (λ (l : List (List ℕ)). MatchOption (lookup (nat_eq page) (flat_map images_of l)) (HasPage (new 0) page (saved.page page)) (λ image. image ≡ saved.page page)) (sym same)
      (subst (λ (l : List ℕ). MatchOption (image_of files page) (HasPage l page (saved.page page)) (λ image. image ≡ saved.page page)) (sym main) (covered.pages page below));
}

-- one frame more is so many images more
pub images_in-push : (frames : List (List ℕ)) (body : List ℕ) (images : List (ℕ × List ℕ)) → images_of body ≡ images → flat_map images_of (frames ++ body ∷ []) ≡ flat_map images_of frames ++ images
images_in-push frames body images is = flat_map-append images_of frames (body ∷ []) ∙ ap (λ (l : List (ℕ × List ℕ)). flat_map images_of frames ++ l) (append-nil (images_of body) ∙ is)

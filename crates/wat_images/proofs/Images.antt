-- What the images that were read so far say of the checkpoint log.
use Rattle.std.proofs.Common.{◌≡◌, ◌≢◌, ◌⊎◌, inl, inr, ⊎_elim, ℕ, zero, suc, ◌+◌, ◌-◌, ◌*◌, ◌/◌, ◌%◌, ◌<◌, ◌≤◌, Bool, true, false, List, [], ◌∷◌, ◌++◌, length, take, drop, get_or, Option, Some, None, refl, sym, ◌∙◌, ap, subst, arith, append_assoc}
use Rattle.std.specs.Prelude.{nat_eq, cond, All, is_some, ◌||◌}
use Rattle.std.specs.Bool.{OnTrue, OnFalse}
use Rattle.std.specs.List.{flat_map, list_any, AllByRecursion, IsDistinct}
use Rattle.std.specs.Map.{lookup, keys_of}
use Rattle.std.specs.Cmp.{nat_eq_equiv}
use Rattle.std.specs.Ordering.{nat_cmp}
use Rattle.std.specs.BTreeMap.{BTreeMap, get, insert_entry, Updates}
use Rattle.std.specs.Int.{w32, from_be_bytes}
use Rattle.std.proofs.lemmas.Bool.{cases_eq, eq-eqb, ne_eqb, eqb-true}
use Rattle.std.proofs.lemmas.List.{map-append, append-nil, take_more, take_all, drop-drop, take-take, drop-take}
use Rattle.std.proofs.lemmas.List.Elements.{recursion_from_All, All-from_recursion, All-push}
use Rattle.std.proofs.lemmas.Map.Keys.{IsDistinct-push, IsDistinct-head, IsDistinct-tail}
use Rattle.std.proofs.lemmas.Map.Made.{is_some-lookup}
use Rattle.wat_disk.specs.Disk.{Told, SameFiles}
use Rattle.wat_gate.specs.Bodies.{bodies, IsWhole}
use Rattle.wat_gate.specs.GateLog.{file_of, IsLogOf}
use Rattle.wat_gate.specs.declared.gate_log.GateLog.{GateLog}
use Rattle.wat_gate.proofs.Logs.{log_same}
use Rattle.wat_restore.specs.Images.{AllWhole}
use Rattle.wat_restore.specs.Restored.{images_from, images_of}
use Rattle.wat_restore.specs.Opening.{AreImages}
use Rattle.wat_restore.proofs.Covering.{images_in-push}
use Rattle.wat_images.specs.Reading.{AreWhole, HasImages, image_in, CanAdd, AddsImages, ReadsFrames, IsCheckpointLog}
use Rattle.wat_images.proofs.Maps.{get_is, updates_is, whole_insert}
use Rattle.wat_images.proofs.Frames.{distinct_front}

none_twice : IsDistinct nat_eq []
unfolding IsDistinct
none_twice = tt

-- ---- one image more

push_case : (page q : ℕ) (image : List ℕ) (x : ℕ × List ℕ) (images : List (ℕ × List ℕ)) (b : Bool) → nat_eq q x.0 ≡ b → cond (nat_eq q x.0) (Some x.1) (lookup (nat_eq q) images) ≡ None
    → (lookup (nat_eq q) images ≡ None → lookup (nat_eq q) (images ++ (page, image) ∷ []) ≡ cond (nat_eq q page) (Some image) None)
    → cond (nat_eq q x.0) (Some x.1) (lookup (nat_eq q) (images ++ (page, image) ∷ [])) ≡ cond (nat_eq q page) (Some image) None
push_case page q image x images true is was rest = let no : Some x.1 ≡ None = ap (λ b. cond b (Some x.1) (lookup (nat_eq q) images)) (sym is) ∙ was in cc
push_case page q image x images false is was rest =
    ap (λ b. cond b (Some x.1) (lookup (nat_eq q) (images ++ (page, image) ∷ []))) is ∙ rest (ap (λ b. cond b (Some x.1) (lookup (nat_eq q) images)) (sym is) ∙ was)

lookup-push : (page q : ℕ) (image : List ℕ) (images : List (ℕ × List ℕ)) → lookup (nat_eq q) images ≡ None → lookup (nat_eq q) (images ++ (page, image) ∷ []) ≡ cond (nat_eq q page) (Some image) None
lookup-push page q image [] none = refl
lookup-push page q image (x ∷ images) none = push_case page q image x images (nat_eq q x.0) refl none (λ rest. lookup-push page q image images rest)

-- what was there stays
lookup-keeps : (q : ℕ) (images more : List (ℕ × List ℕ)) (image : List ℕ) → lookup (nat_eq q) images ≡ Some image → lookup (nat_eq q) (images ++ more) ≡ Some image
lookup-keeps q [] more image is = cc
lookup-keeps q (x ∷ images) more image is = at (nat_eq q x.0) is (lookup-keeps q images more image)
  where
    at : (b : Bool) → cond b (Some x.1) (lookup (nat_eq q) images) ≡ Some image → (lookup (nat_eq q) images ≡ Some image → lookup (nat_eq q) (images ++ more) ≡ Some image)
        → cond b (Some x.1) (lookup (nat_eq q) (images ++ more)) ≡ Some image
    at true is rest = is
    at false is rest = rest is

absent : (page : ℕ) (images : List (ℕ × List ℕ)) → lookup (nat_eq page) images ≡ None → list_any (nat_eq page) (keys_of images) ≡ false
absent page images none = sym (is_some-lookup (nat_eq page) images) ∙ ap is_some none

keys-push : (images : List (ℕ × List ℕ)) (image : ℕ × List ℕ) → keys_of (images ++ image ∷ []) ≡ keys_of images ++ image.0 ∷ []
keys-push images image = map-append (λ (x : ℕ × List ℕ). x.0) images (image ∷ [])

apart_here : (page : ℕ) (xs : List ℕ) → IsDistinct nat_eq (xs ++ page ∷ []) → list_any (nat_eq page) xs ≡ true → ⊥
apart_here page [] once there = cc
apart_here page (x ∷ xs) once there = ⊎_elim
    (λ (here : nat_eq page x ≡ true). let no : nat_eq x page ≡ false = last_of page (λ y. nat_eq x y ≡ false) xs (IsDistinct-head nat_eq x (xs ++ page ∷ []) once) in
    let is : true ≡ false = sym (eq-eqb x page (sym (eqb-true page x here))) ∙ no in cc)
    (λ (later : list_any (nat_eq page) xs ≡ true). apart_here page xs (IsDistinct-tail nat_eq x (xs ++ page ∷ []) once) later)
    (true_or (nat_eq page x) (list_any (nat_eq page) xs) there)
  where
    last_of : (page : ℕ) (P : ℕ → Type 0) (xs : List ℕ) → AllByRecursion P (xs ++ page ∷ []) → P page
    last_of page P [] all = all.0
    last_of page P (x ∷ xs) all = last_of page P xs all.1

    true_or : (b c : Bool) → (b || c) ≡ true → (b ≡ true) ⊎ (c ≡ true)
    true_or true c is = inl refl
    true_or false c is = inr is

module _ (old new : BTreeMap ℕ (List ℕ)) (page : ℕ) (image : List ℕ) (before : List (ℕ × List ℕ)) (has : HasImages old.entries before) where
  -- a page without an image
  pub image_added : get nat_cmp old page ≡ None → Updates nat_cmp old new page (Some image) → HasImages new.entries (before ++ (page, image) ∷ [])
  image_added fresh updates = record {
    same = λ q. at q (lookup (nat_eq q) before) refl;
    once = subst (IsDistinct nat_eq) (sym (keys-push before (page, image))) (IsDistinct-push nat_eq_equiv (keys_of before) page has.once (absent page before none));
  }
    where
      none : lookup (nat_eq page) before ≡ None
      none = sym (has.same page) ∙ sym (get_is old page) ∙ fresh

      now : (q : ℕ) → lookup (nat_eq q) new.entries ≡ cond (nat_eq page q) (Some image) (lookup (nat_eq q) before)
      now q = updates_is old new page image updates q ∙ ap (λ o. cond (nat_eq page q) (Some image) o) (has.same q)

      turned : (q : ℕ) → nat_eq page q ≡ nat_eq q page
      turned q = ⊎_elim (λ (is : page ≡ q). eq-eqb page q is ∙ sym (eq-eqb q page (sym is))) (λ (isnt : page ≢ q). ne_eqb page q isnt ∙ sym (ne_eqb q page (λ e. isnt (sym e)))) (cases_eq page q)

      at : (q : ℕ) (o : Option (List ℕ)) → lookup (nat_eq q) before ≡ o → lookup (nat_eq q) new.entries ≡ lookup (nat_eq q) (before ++ (page, image) ∷ [])
      at q None is = now q ∙ ap (λ b. cond b (Some image) (lookup (nat_eq q) before)) (turned q) ∙ ap (λ o. cond (nat_eq q page) (Some image) o) is ∙ sym (lookup-push page q image before is)
      at q (Some x) is =
          let other : nat_eq page q ≡ false = ne_eqb page q (λ e. let no : None ≡ Some x = sym none ∙ ap (λ p. lookup (nat_eq p) before) e ∙ is in cc) in
          now q ∙ ap (λ b. cond b (Some image) (lookup (nat_eq q) before)) other ∙ is ∙ sym (lookup-keeps q before ((page, image) ∷ []) x is)

  -- a page that has one
  pub image_there : is_some (get nat_cmp old page) ≡ true → IsDistinct nat_eq (keys_of (before ++ (page, image) ∷ [])) → ⊥
  image_there some once = apart_here page (keys_of before) (subst (IsDistinct nat_eq) (keys-push before (page, image)) once) (sym (is_some-lookup (nat_eq page) before) ∙ ap is_some (sym (has.same page) ∙ sym (get_is old page)) ∙ some)

pub is_none : (o : Option (List ℕ)) → is_some o ≡ false → o ≡ None
is_none None e = refl
is_none (Some x) e = cc

-- four bytes as a number
pub four_read : (bytes : List ℕ) → 4 ≤ length bytes → from_be_bytes w32 (take 4 bytes) ≡ get_or bytes 0 0 * 16777216 + get_or bytes 1 0 * 65536 + get_or bytes 2 0 * 256 + get_or bytes 3 0
four_read [] long = absurd (omega arith)
four_read (a ∷ []) long = absurd (omega arith)
four_read (a ∷ b ∷ []) long = absurd (omega arith)
four_read (a ∷ b ∷ c ∷ []) long = absurd (omega arith)
four_read (a ∷ b ∷ c ∷ d ∷ rest) long = omega arith

-- the image in these bytes, as it is read
pub image_read : (bytes held : List ℕ) (page : ℕ) → length bytes ≡ 4100 → page ≡ from_be_bytes w32 (take 4 bytes) → held ≡ take (length bytes - 4) (drop 4 bytes) → (page, held) ≡ image_in bytes
image_read bytes held page long number is =
    let size : length bytes - 4 ≡ 4096 = omega (arith, long) in
    let rest : held ≡ take 4096 (drop 4 bytes) = is ∙ ap (λ n. take n (drop 4 bytes)) size in
    (λ i. (number i, rest i))

pub whole_added : (old new : BTreeMap ℕ (List ℕ)) (page : ℕ) (image : List ℕ) → AreWhole old.entries → length image ≡ 4096 → new.entries ≡ insert_entry nat_cmp old.entries page image → AreWhole new.entries
whole_added old new page image are long is = record {
  whole = All-from_recursion (λ (entry : ℕ × List ℕ). length entry.1 ≡ 4096) new.entries
      (subst AllWhole (sym is) (whole_insert old.entries page image (recursion_from_All (λ (entry : ℕ × List ℕ). length entry.1 ≡ 4096) old.entries are.whole) long));
}

pub whole_none : (entries : List (ℕ × List ℕ)) → entries ≡ [] → AreWhole entries
whole_none entries none = record { whole = subst (All (λ (entry : ℕ × List ℕ). length entry.1 ≡ 4096)) (sym none) (All-from_recursion (λ (entry : ℕ × List ℕ). length entry.1 ≡ 4096) [] tt) }

-- ---- the images of a body

pub images_from-push : (n : ℕ) (bytes : List ℕ) → images_from (n + 1) bytes ≡ images_from n bytes ++ image_in (drop (4100 * n) bytes) ∷ []
images_from-push zero bytes = refl
images_from-push (suc n) bytes =
    let first = image_in bytes in
    let place : 4100 + 4100 * n ≡ 4100 * suc n = omega arith in
    let next : drop (4100 * n) (drop 4100 bytes) ≡ drop (4100 * suc n) bytes = drop-drop (4100 * n) 4100 bytes ∙ ap (λ m. drop m bytes) place in
    let count : suc n + 1 ≡ suc (n + 1) = omega arith in
    ap (λ k. images_from k bytes) count ∙ ap (λ l. first ∷ l) (images_from-push n (drop 4100 bytes) ∙ ap (λ l. images_from n (drop 4100 bytes) ++ image_in l ∷ []) next)

-- the first images of more
pub images_from-more : (n m : ℕ) (bytes : List ℕ) → images_from (n + m) bytes ≡ images_from n bytes ++ images_from m (drop (4100 * n) bytes)
images_from-more zero m bytes = let count : 0 + m ≡ m = omega arith in ap (λ k. images_from k bytes) count
images_from-more (suc n) m bytes =
    let first = image_in bytes in
    let count : suc n + m ≡ suc (n + m) = omega arith in
    let place : 4100 + 4100 * n ≡ 4100 * suc n = omega arith in
    let next : drop (4100 * n) (drop 4100 bytes) ≡ drop (4100 * suc n) bytes = drop-drop (4100 * n) 4100 bytes ∙ ap (λ k. drop k bytes) place in
    ap (λ k. images_from k bytes) count ∙ ap (λ l. first ∷ l) (images_from-more n m (drop 4100 bytes) ∙ ap (λ l. images_from n (drop 4100 bytes) ++ images_from m l) next)

pub has_none : (entries before : List (ℕ × List ℕ)) (body : List ℕ) → HasImages entries before → HasImages entries (before ++ images_from 0 body)
has_none entries before body has = subst (HasImages entries) (sym (append-nil before)) has

pub has_more : (entries before : List (ℕ × List ℕ)) (i : ℕ) (body bytes : List ℕ) → image_in bytes ≡ image_in (drop (4100 * i) body) → HasImages entries ((before ++ images_from i body) ++ image_in bytes ∷ []) → HasImages entries (before ++ images_from (i + 1) body)
has_more entries before i body bytes is has =
    subst (HasImages entries) (append_assoc before (images_from i body) (image_in bytes ∷ []) ∙ ap (λ x. before ++ (images_from i body ++ x ∷ [])) is ∙ ap (λ l. before ++ l) (sym (images_from-push i body))) has

-- the image in a slice
cut : (l : List ℕ) → image_in (take 4100 l) ≡ image_in l
cut l i = (ap (from_be_bytes w32) (take-take 4 4100 l (omega arith)) i, (ap (take 4096) (drop-take 4 4096 l) ∙ take-take 4096 4096 (drop 4 l) (omega arith)) i)

pub image_slice : (body bytes : List ℕ) (at : ℕ) → bytes ≡ take 4100 (drop at body) → image_in bytes ≡ image_in (drop at body)
image_slice body bytes at is = ap image_in is ∙ cut (drop at body)

-- an image comes twice among all, where it does among the first
pub twice_among : (before : List (ℕ × List ℕ)) (i n : ℕ) (body bytes : List ℕ) → i < n → n ≡ length body / 4100 → image_in bytes ≡ image_in (drop (4100 * i) body)
    → (IsDistinct nat_eq (keys_of ((before ++ images_from i body) ++ image_in bytes ∷ [])) → ⊥) → CanAdd before body → ⊥
unfolding images_of
twice_among before i n body bytes less count is twice can =
    let m = n - (i + 1) in
    let split : (i + 1) + m ≡ length body / 4100 = omega (arith, less, count) in
    let more = images_from m (drop (4100 * (i + 1)) body) in
    let first : (before ++ images_from i body) ++ image_in bytes ∷ [] ≡ before ++ images_from (i + 1) body =
    append_assoc before (images_from i body) (image_in bytes ∷ []) ∙ ap (λ x. before ++ (images_from i body ++ x ∷ [])) is ∙ ap (λ l. before ++ l) (sym (images_from-push i body)) in
    let all : before ++ images_from (length body / 4100) body ≡ (before ++ images_from (i + 1) body) ++ more =
    ap (λ k. before ++ images_from k body) (sym split) ∙ ap (λ l. before ++ l) (images_from-more (i + 1) m body) ∙ sym (append_assoc before (images_from (i + 1) body) more) in
    let key : ℕ × List ℕ → ℕ = λ x. x.0 in
    twice (subst (λ l. IsDistinct nat_eq (keys_of l)) (sym first)
    (distinct_front (keys_of (before ++ images_from (i + 1) body)) (keys_of more) (subst (IsDistinct nat_eq) (ap (λ l. keys_of l) all ∙ map-append key (before ++ images_from (i + 1) body) more) can.once)))

pub adds_all : (entries before : List (ℕ × List ℕ)) (n : ℕ) (body : List ℕ) → n ≡ length body / 4100 → length body % 4100 ≡ 0 → HasImages entries (before ++ images_from n body) → AddsImages before body entries
unfolding images_of
adds_all entries before n body count whole has = record { whole = whole; has = subst (λ k. HasImages entries (before ++ images_from k body)) count has }

-- ---- the frames

pub reads_none : (entries : List (ℕ × List ℕ)) → entries ≡ [] → ReadsFrames [] entries
reads_none entries none = record {
  whole = All-from_recursion (λ (body : List ℕ). length body % 4100 ≡ 0) [] tt;
  has = subst (λ l. HasImages l []) (sym none) (record { same = λ page. refl; once = none_twice });
}

images-more : (done : List (List ℕ)) (body : List ℕ) → flat_map images_of (done ++ body ∷ []) ≡ flat_map images_of done ++ images_of body
images-more done body = images_in-push done body (images_of body) refl

-- one frame more was read
pub reads_more : (all : List (List ℕ)) (gate : ℕ) (body : List ℕ) (new : List (ℕ × List ℕ)) → gate < length all → body ≡ get_or all gate [] → All (λ (b : List ℕ). length b % 4100 ≡ 0) (take gate all)
    → AddsImages (flat_map images_of (take gate all)) body new → ReadsFrames (take (gate + 1) all) new
reads_more all gate body new there is whole adds =
    let more : take (gate + 1) all ≡ take gate all ++ body ∷ [] = take_more all gate [] there ∙ ap (λ b. take gate all ++ b ∷ []) (sym is) in
    subst (λ l. ReadsFrames l new) (sym more) (record {
      whole = All-push (λ (b : List ℕ). length b % 4100 ≡ 0) (take gate all) body whole adds.whole;
      has = subst (HasImages new) (sym (images-more (take gate all) body)) adds.has;
    })

-- a frame is no images
pub no_more : (all : List (List ℕ)) (gate : ℕ) (body : List ℕ) → gate < length all → body ≡ get_or all gate [] → (CanAdd (flat_map images_of (take gate all)) body → ⊥) → AreImages (take (gate + 1) all) → ⊥
no_more all gate body there is none are =
    let more : take (gate + 1) all ≡ take gate all ++ body ∷ [] = take_more all gate [] there ∙ ap (λ b. take gate all ++ b ∷ []) (sym is) in
    let both : AreImages (take gate all ++ body ∷ []) = subst AreImages more are in
    none (record {
      whole = last_of (take gate all) (recursion_from_All (λ (b : List ℕ). length b % 4100 ≡ 0) (take gate all ++ body ∷ []) both.whole);
      once = subst (λ l. IsDistinct nat_eq (keys_of l)) (images-more (take gate all) body) both.once;
    })
  where
    last_of : (xs : List (List ℕ)) → AllByRecursion (λ (b : List ℕ). length b % 4100 ≡ 0) (xs ++ body ∷ []) → length body % 4100 ≡ 0
    last_of [] all = all.0
    last_of (x ∷ xs) all = last_of xs all.1

pub are_images : (all : List (List ℕ)) (entries : List (ℕ × List ℕ)) → ReadsFrames all entries → AreImages all
are_images all entries read = record { whole = read.whole; once = read.has.once }

-- all frames are read
pub reads_all : (all : List (List ℕ)) (n : ℕ) (entries : List (ℕ × List ℕ)) → length all ≤ n → ReadsFrames (take n all) entries → ReadsFrames all entries
reads_all all n entries past read = subst (λ l. ReadsFrames l entries) (take_all n all past) read

pub on_true : (b : Bool) (P : Type 0) → b ≡ true → OnTrue b P → P
on_true b P e says = subst (λ v. OnTrue v P) e says

pub on_false : (b : Bool) (P : Type 0) → b ≡ false → OnFalse b P → P
on_false b P e says = subst (λ v. OnFalse v P) e says

-- the log was opened, and its images were read
pub opened_log : (mid new : Told) (log : GateLog) (images : BTreeMap ℕ (List ℕ)) → IsLogOf mid log → file_of log ≡ 1 → SameFiles mid.content new.content → ReadsFrames (bodies (mid.content (file_of log))) images.entries
    → IsCheckpointLog new (record { log = log; images = images })
opened_log mid new log images known file same read =
    let place : mid.content (file_of log) ≡ new.content 1 = ap (λ (f : ℕ). mid.content f) file ∙ sym (same 1) in
    let whole : IsWhole (new.content 1) = subst IsWhole place known.whole in
    let all : ReadsFrames (bodies (new.content 1)) images.entries = subst (λ (l : List ℕ). ReadsFrames (bodies l) images.entries) place read in
    record {
      known = log_same mid new log (same (file_of log)) known;
      log = record { whole = whole; images = all.whole; once = all.has.once };
      images = all.has;
    }

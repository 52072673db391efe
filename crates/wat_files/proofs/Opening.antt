-- The first steps of the walk, over the checkpoint log and the header: they stop at one place, and not where there is a header.
use Rattle.std.proofs.Common.{◌≡◌, ◌≢◌, ◌⊎◌, ⊎_elim, ℕ, ◌+◌, ◌*◌, ◌%◌, ◌<◌, ◌≤◌, List, [], ◌∷◌, ◌++◌, length, take, drop, get_or, refl, sym, ◌∙◌, ap, subst, inl, inr, arith, length-take-le, take-append-drop}
use Rattle.std.specs.Prelude.{nat_eq, false}
use Rattle.std.specs.List.{flat_map, AllByRecursion, IsDistinct}
use Rattle.std.specs.Map.{keys_of}
use Rattle.std.proofs.lemmas.Bool.{cases_lt}
use Rattle.std.proofs.lemmas.Grind.{flat_map-append}
use Rattle.std.proofs.lemmas.List.{map-append, take-take}
use Rattle.std.proofs.lemmas.List.Elements.{All-take}
use Rattle.std.proofs.lemmas.Map.Keys.{IsDistinct-head, IsDistinct-tail, IsDistinct-cons}
use Rattle.wat_disk.specs.Disk.{Image}
use Rattle.wat_gate.specs.Bodies.{bodies, gate_place, IsWhole, IsBrokenAt, IsAtGate, open_gate}
use Rattle.wat_restore.specs.Restored.{images_of, IsImageLog}
use Rattle.wat_restore.specs.Head.{Head}
use Rattle.wat_restore.specs.Opening.{AreImages, IsNoImageFrameAt, IsBrokenLog, HasNoImages, HasNoHead, FailsAt}
use Rattle.wat_files.specs.Formed.{HasHeader}

-- ---- the first of frames of images

apart_front : (q : ℕ) (xs ys : List ℕ) → AllByRecursion (λ (y : ℕ). nat_eq q y ≡ false) (xs ++ ys) → AllByRecursion (λ (y : ℕ). nat_eq q y ≡ false) xs
apart_front q [] ys all = tt
apart_front q (x ∷ xs) ys all = (all.0, apart_front q xs ys all.1)

none_twice : IsDistinct nat_eq []
unfolding IsDistinct
none_twice = tt

distinct_front : (xs ys : List ℕ) → IsDistinct nat_eq (xs ++ ys) → IsDistinct nat_eq xs
distinct_front [] ys once = none_twice
distinct_front (x ∷ xs) ys once = IsDistinct-cons nat_eq x xs (apart_front x xs ys (IsDistinct-head nat_eq x (xs ++ ys) once)) (distinct_front xs ys (IsDistinct-tail nat_eq x (xs ++ ys) once))

abbrev pages_in : List (List ℕ) → List ℕ
pages_in all = keys_of (flat_map images_of all)

pages_split : (n : ℕ) (all : List (List ℕ)) → pages_in all ≡ pages_in (take n all) ++ pages_in (drop n all)
pages_split n all =
    ap pages_in (sym (take-append-drop n all)) ∙ ap keys_of (flat_map-append images_of (take n all) (drop n all)) ∙ map-append (λ (image : ℕ × List ℕ). image.0) (flat_map images_of (take n all)) (flat_map images_of (drop n all))

fewer_images : (n : ℕ) (all : List (List ℕ)) → AreImages all → AreImages (take n all)
fewer_images n all are = record {
  whole = All-take (λ body. length body % 4100 ≡ 0) n all are.whole;
  once = distinct_front (pages_in (take n all)) (pages_in (drop n all)) (subst (IsDistinct nat_eq) (pages_split n all) are.once);
}

all_images : (before : List ℕ) → IsImageLog before → AreImages (bodies before)
all_images before log = record { whole = log.images; once = log.once }

-- ---- a gate log that is whole isn't broken

pub not_broken : (content : List ℕ) (at : ℕ) → IsBrokenAt content at → IsWhole content → ⊥
not_broken content at broken whole = ⊎_elim
    (λ (past : length content ≤ at). omega (arith, past, broken.place, whole.there))
    (λ (opened : get_or content at 0 ≡ open_gate). whole.closed (subst (λ (n : ℕ). get_or content n 0 ≡ open_gate) broken.place opened))
    broken.broken

no_frame : (before : List ℕ) (at : ℕ) → IsImageLog before → IsNoImageFrameAt before at → ⊥
no_frame before at log stops = stops.none (fewer_images (stops.frame + 1) (bodies before) (all_images before log))

pub header_or_stop : (files : Image) (head : Head) (file at : ℕ) → HasHeader files head → FailsAt files file at → ⊥
header_or_stop files head file at has fails = ⊎_elim
    (λ (broken : IsBrokenLog files file at). not_broken (files 1) at broken.broken has.log.whole)
    (λ (later : HasNoImages files file at ⊎ HasNoHead files file at). ⊎_elim
    (λ (frame : HasNoImages files file at). no_frame (files 1) at has.log frame.frame)
    (λ (none : HasNoHead files file at). none.none head has.is)
    later)
    fails

-- ---- it stops at one place

-- two stops are at the same place
abbrev pub Same : ℕ → ℕ → ℕ → ℕ → Type 0
Same f a g b = (f ≡ g) × (a ≡ b)

earlier_images : (m n : ℕ) (all : List (List ℕ)) → m ≤ n → AreImages (take n all) → AreImages (take m all)
earlier_images m n all less are = subst AreImages (take-take m n all less) (fewer_images m (take n all) are)

frame_before : (before : List ℕ) (a b : ℕ) (x : IsNoImageFrameAt before a) (y : IsNoImageFrameAt before b) → x.frame < y.frame → ⊥
frame_before before a b x y less = x.none (earlier_images (x.frame + 1) y.frame (bodies before) (omega arith) y.so_far)

frame_once : (before : List ℕ) (a b : ℕ) → IsNoImageFrameAt before a → IsNoImageFrameAt before b → a ≡ b
frame_once before a b x y = ⊎_elim
    (λ (less : x.frame < y.frame). absurd (frame_before before a b x y less))
    (λ (more : y.frame ≤ x.frame). ⊎_elim
    (λ (less : y.frame < x.frame). absurd (frame_before before b a y x less))
    (λ (least : x.frame ≤ y.frame). x.gate.place ∙ ap (gate_place before) (omega arith) ∙ sym y.gate.place)
    (cases_lt y.frame x.frame))
    (cases_lt x.frame y.frame)

whole_behind : (files : Image) (f a : ℕ) → HasNoImages files f a ⊎ HasNoHead files f a → IsWhole (files 1)
whole_behind files f a stops = ⊎_elim (λ (frame : HasNoImages files f a). frame.whole) (λ (none : HasNoHead files f a). none.log.whole) stops

behind_once : (files : Image) (f a g b : ℕ) → HasNoImages files f a ⊎ HasNoHead files f a → HasNoImages files g b ⊎ HasNoHead files g b → Same f a g b
behind_once files f a g b x y = ⊎_elim
    (λ (one : HasNoImages files f a). ⊎_elim
    (λ (other : HasNoImages files g b). (one.in_before ∙ sym other.in_before, frame_once (files 1) a b one.frame other.frame))
    (λ (none : HasNoHead files g b). absurd (no_frame (files 1) a none.log one.frame))
    y)
    (λ (none : HasNoHead files f a). ⊎_elim
    (λ (other : HasNoImages files g b). absurd (no_frame (files 1) b none.log other.frame))
    (λ (other : HasNoHead files g b). (none.in_main ∙ sym other.in_main, none.place ∙ sym other.place))
    y)
    x

pub head_stop_once : (files : Image) (f a g b : ℕ) → FailsAt files f a → FailsAt files g b → Same f a g b
head_stop_once files f a g b x y = ⊎_elim
    (λ (one : IsBrokenLog files f a). ⊎_elim
    (λ (other : IsBrokenLog files g b). (one.in_before ∙ sym other.in_before, one.broken.place ∙ sym other.broken.place))
    (λ (later : HasNoImages files g b ⊎ HasNoHead files g b). absurd (not_broken (files 1) a one.broken (whole_behind files g b later)))
    y)
    (λ (one : HasNoImages files f a ⊎ HasNoHead files f a). ⊎_elim
    (λ (other : IsBrokenLog files g b). absurd (not_broken (files 1) b other.broken (whole_behind files f a one)))
    (λ (other : HasNoImages files g b ⊎ HasNoHead files g b). behind_once files f a g b one other)
    y)
    x

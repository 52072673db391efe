-- A reserved word is found among those that begin as the text does.
use Rattle.std.proofs.Common.{◌≡◌, ℕ, ◌-◌, ◌==◌, List, [], ◌∷◌, take, drop, slice_index, Bool, true, false, Option, Some, None, refl, sym, ap, ◌∙◌, subst, eqb-true, map, if◌then◌else◌}
use Rattle.std.proofs.lemmas.List.{take-map, drop-map}
use Rattle.std.specs.Char.{to_ascii_lowercase}
use Rattle.std.specs.Str.{str_to_ascii_lowercase, bytes_eq}
use Rattle.wat_word.specs.declared.keyword.Keyword.{Keyword}
use Rattle.wat_word.specs.Words.{reserved, keyword, read_by, places}

-- the entries of the list from one place up to another
abbrev pub cut : ℕ × ℕ → List (List ℕ × Keyword)
cut at = take (at.1 - at.0) (drop at.0 reserved)

-- what the first entry with these small letters stands for
abbrev pub read_low : List (List ℕ × Keyword) → List ℕ → Option Keyword
read_low [] u = None
read_low (w ∷ ws) u = if bytes_eq (str_to_ascii_lowercase w.0) u then Some w.1 else read_low ws u

pub low_same : (ws : List (List ℕ × Keyword)) (t : List ℕ) → read_by ws t ≡ read_low ws (str_to_ascii_lowercase t)
low_same [] t = refl
low_same (w ∷ ws) t = ap (λ r. if bytes_eq (str_to_ascii_lowercase w.0) (str_to_ascii_lowercase t) then Some w.1 else r) (low_same ws t)

-- between the places the same is found as in the whole list
abbrev Same : ℕ → List ℕ → ℕ × ℕ → Type 0
Same y us at = read_low (cut at) (y ∷ us) ≡ read_low reserved (y ∷ us)

decided : (y c : ℕ) (P : ℕ × ℕ → Type 0) (a b : ℕ × ℕ) (d : Bool) → (y == c) ≡ d → (y ≡ c → P a) → P b → P (if d then a else b)
decided y c P a b true e found other = found (eqb-true y c e)
decided y c P a b false e found other = other

branch : (y c : ℕ) (P : ℕ × ℕ → Type 0) (a b : ℕ × ℕ) → (y ≡ c → P a) → P b → P (if y == c then a else b)
branch y c P a b found other = decided y c P a b (y == c) refl found other

at : (c : ℕ) (r : ℕ × ℕ) (y : ℕ) (us : List ℕ) → Same c us r → y ≡ c → Same y us r
at c r y us same e = subst (λ x. Same x us r) (sym e) same

pub by_letter : (y : ℕ) (us : List ℕ) → Same y us (places y)
unfolding reserved
by_letter y us =
    branch y 97 (Same y us) (0, 3) _ (at 97 (0, 3) y us refl) (
    branch y 98 (Same y us) (3, 6) _ (at 98 (3, 6) y us refl) (
    branch y 99 (Same y us) (6, 11) _ (at 99 (6, 11) y us refl) (
    branch y 100 (Same y us) (11, 15) _ (at 100 (11, 15) y us refl) (
    branch y 102 (Same y us) (15, 17) _ (at 102 (15, 17) y us refl) (
    branch y 103 (Same y us) (17, 18) _ (at 103 (17, 18) y us refl) (
    branch y 104 (Same y us) (18, 19) _ (at 104 (18, 19) y us refl) (
    branch y 105 (Same y us) (19, 27) _ (at 105 (19, 27) y us refl) (
    branch y 107 (Same y us) (27, 28) _ (at 107 (27, 28) y us refl) (
    branch y 109 (Same y us) (28, 30) _ (at 109 (28, 30) y us refl) (
    branch y 110 (Same y us) (30, 33) _ (at 110 (30, 33) y us refl) (
    branch y 111 (Same y us) (33, 38) _ (at 111 (33, 38) y us refl) (
    branch y 112 (Same y us) (38, 39) _ (at 112 (38, 39) y us refl) (
    branch y 114 (Same y us) (39, 43) _ (at 114 (39, 43) y us refl) (
    branch y 115 (Same y us) (43, 47) _ (at 115 (43, 47) y us refl) (
    branch y 116 (Same y us) (47, 50) _ (at 116 (47, 50) y us refl) (
    branch y 117 (Same y us) (50, 51) _ (at 117 (50, 51) y us refl) (
    branch y 118 (Same y us) (51, 53) _ (at 118 (51, 53) y us refl) (
    branch y 119 (Same y us) (53, 55) _ (at 119 (53, 55) y us refl) (
    refl)))))))))))))))))))

pub found : (text : List ℕ) → read_by (cut (places (to_ascii_lowercase (slice_index text 0)))) text ≡ keyword text
unfolding reserved keyword
found [] = refl
found (x ∷ rest) =
    low_same (cut (places (to_ascii_lowercase x))) (x ∷ rest)
    ∙ by_letter (to_ascii_lowercase x) (str_to_ascii_lowercase rest)
    ∙ sym (low_same reserved (x ∷ rest))

pub found_at : (text : List ℕ) (letter from to : ℕ) → letter ≡ to_ascii_lowercase (slice_index text 0) → (from, to) ≡ places letter → read_by (take (to - from) (drop from reserved)) text ≡ keyword text
found_at text letter from to e p =
    ap (λ r. read_by (cut r) text) p ∙ ap (λ x. read_by (cut (places x)) text) e ∙ found text

pub between : {X : Type 0} (f : X → List ℕ × Keyword) (from count : ℕ) (xs : List X) (text : List ℕ) → read_by (map f (take count (drop from xs))) text ≡ read_by (take count (drop from (map f xs))) text
between f from count xs text = ap (λ ws. read_by ws text) (sym (take-map f count (drop from xs)) ∙ ap (take count) (sym (drop-map f from xs)))

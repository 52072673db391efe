-- Proofs, for the law that a stop may leave what a read gives; no definition stands here.
use Rattle.std.proofs.Common.{◌≡◌, ℕ, ◌+◌, ◌-◌, Bool, true, false, min, max, List, [], ◌∷◌, ◌++◌, length, take, drop, refl, sym, ◌∙◌, ap, subst, arith, append_assoc, length-append, length-drop}
use Rattle.std.proofs.lemmas.List.{length-take, length-replicate, take_at, drop_at}
use Rattle.std.specs.Prelude.{◌==◌, Vec, MatchBool, if◌then◌else◌, replicate}
use Rattle.std.specs.declared.alloc.Global.{Global}
use Rattle.wat_disk.specs.declared.memory.Entry.{Entry}
use Rattle.wat_disk.specs.Acts.{Act, Wrote, Synced, content_after, LeftAfter}
use Rattle.wat_disk.specs.Bytes.{written, Torn}
use Rattle.wat_disk.specs.Disk.{Image}
use Rattle.wat_disk.specs.Memory.{bytes_at, acts_until}
use Rattle.wat_disk.specs.Kept.{IsRecord}

module _ (old bytes : List ℕ) (at : ℕ) where
  abbrev n : ℕ
  n = length bytes

  abbrev zeros : List ℕ
  zeros = replicate (at - length old) 0

  front_len : length (take at old ++ zeros) ≡ at
  front_len = omega (arith, length-append (take at old) zeros, length-take at old, length-replicate {A = ℕ} (at - length old) 0)

  middle_len : length (take at old ++ zeros ++ bytes) ≡ at + n
  middle_len = omega (arith, length-append (take at old ++ zeros) bytes, front_len)

  pub length-written : length (written old at bytes) ≡ max (length old) (at + n)
  length-written = omega (arith, length-append (take at old ++ zeros ++ bytes) (drop (at + n) old), middle_len, length-drop (at + n) old)

  -- a stop may leave a write whole
  pub torn_written : Torn at n old (written old at bytes)
  torn_written =
      let rest = zeros ++ bytes ++ drop (at + n) old in
      let split : written old at bytes ≡ take at old ++ (zeros ++ bytes ++ drop (at + n) old) = simp append_assoc in
      record {
        before = ap (take (min at (length old))) split ∙ take_at (take at old) rest (min at (length old)) (length-take at old);
        after = drop_at (take at old ++ zeros ++ bytes) (drop (at + n) old) (at + n) middle_len;
        no_shorter = omega (arith, length-written);
        no_longer = omega (arith, length-written);
      }

pub either_way : (b : Bool) (x y : List ℕ) (P Q : List ℕ → Type 0) → P x → Q y → MatchBool b (P (if b then x else y)) (Q (if b then x else y))
either_way true x y P Q p q = p
either_way false x y P Q p q = q

pub both_ways : (b : Bool) (P Q : Type 0) → P → Q → MatchBool b P Q
both_ways true P Q p q = p
both_ways false P Q p q = q

-- a stop may leave what a read gives
pub content_is_left : (base : Image) (acts : List Act) (file : ℕ) → LeftAfter base acts file (content_after base acts file)
content_is_left base [] file = refl
content_is_left base (Wrote changed at bytes ∷ earlier) file =
    let was = content_after base earlier file in
    either_way (file == changed) (written was at bytes) was
    (λ left. (before : List ℕ) × LeftAfter base earlier file before × Torn at (length bytes) before left) (LeftAfter base earlier file)
    (was, content_is_left base earlier file, torn_written was bytes at) (content_is_left base earlier file)
content_is_left base (Synced synced ∷ earlier) file =
    both_ways (file == synced) (content_after base earlier file ≡ content_after base earlier file) (LeftAfter base earlier file (content_after base earlier file)) refl (content_is_left base earlier file)

-- the files of a record may be left
pub reads_as_left : (base files : List (Vec ℕ Global)) (entries : List Entry) (bytes : List ℕ) (moment : ℕ) → IsRecord base files entries bytes moment
    → (file : ℕ) → LeftAfter (bytes_at base) (acts_until moment [] entries bytes) file (bytes_at files file)
reads_as_left base files entries bytes moment is file =
    let acts = acts_until moment [] entries bytes in
    subst (LeftAfter (bytes_at base) acts file) (sym (is.replayed file)) (content_is_left (bytes_at base) acts file)

-- What is picked is among what a stop may leave, and how the picking goes on from act to act.
use Rattle.std.proofs.Common.{◌≡◌, ℕ, ◌+◌, ◌-◌, ◌<◌, ◌≤◌, Bool, min, List, [], ◌∷◌, length, take, drop, get_or, drop-cons, add-one, replicate, refl, sym, ◌∙◌, ap, subst, arith, length-drop}
use Rattle.std.specs.Prelude.{◌==◌, if◌then◌else◌, Vec}
use Rattle.std.specs.declared.alloc.Global.{Global}
use Rattle.std.proofs.lemmas.Bool.{le-leb, lt-leb}
use Rattle.std.proofs.lemmas.List.{take_min, drop_all, length-replicate}
use Rattle.wat_disk.specs.declared.memory.Entry.{Entry}
use Rattle.wat_disk.specs.declared.replay.Pick.{Pick}
use Rattle.wat_disk.specs.declared.replay.Pick.TheVariants.{Old, New, Torn as TornTo}
use Rattle.wat_disk.specs.Acts.{Act, Wrote, Synced, content_after, LeftAfter}
use Rattle.wat_disk.specs.Bytes.{written, Torn}
use Rattle.wat_disk.specs.Disk.{Image}
use Rattle.wat_disk.specs.Memory.{bytes_at, count_of, act_of, acts_until}
use Rattle.wat_disk.specs.Kept.{count_all}
use Rattle.wat_disk.specs.Picks.{pick_written, pick_next, picked_after}
use Rattle.wat_disk.specs.LeftProofs.{torn_written, either_way}
use Rattle.wat_disk.proofs.Writes.{torn_same}

-- what is picked of a write, a stop may leave
pick_torn : (pick : Pick) (old bytes : List ℕ) (at : ℕ) → Torn at (length bytes) old (pick_written pick old at bytes)
pick_torn Old old bytes at = torn_same at (length bytes) old
pick_torn New old bytes at = torn_written old bytes at
pick_torn (TornTo byte) old bytes at =
    let from = min at (length old) in
    let count = at + length bytes - from in
    let torn = torn_written old (replicate count byte) from in
    let size : length (replicate count byte) ≡ count = length-replicate {A = ℕ} count byte in
    let end : from + length (replicate count byte) ≡ at + length bytes = omega (arith, size) in
    let place : min from (length old) ≡ from = omega arith in
    let left = written old from (replicate count byte) in
    record {
      before = ap (λ (k : ℕ). take k left) (sym place) ∙ torn.before ∙ take_min at old;
      after = ap (λ (k : ℕ). drop k left) (sym end) ∙ torn.after ∙ ap (λ (k : ℕ). drop k old) end;
      no_shorter = torn.no_shorter;
      no_longer = omega (arith, torn.no_longer, end);
    }

pub picked_is_left : (pick : Pick) (base : Image) (acts : List Act) (file : ℕ) → LeftAfter base acts file (picked_after pick base acts file)
picked_is_left pick base [] file = refl
picked_is_left pick base (Wrote changed at bytes ∷ earlier) file =
    let was = picked_after pick base earlier file in
    let so_far = picked_is_left pick base earlier file in
    either_way (file == changed) (pick_written pick was at bytes) was
    (λ left. (before : List ℕ) × LeftAfter base earlier file before × Torn at (length bytes) before left) (LeftAfter base earlier file)
    (was, so_far, pick_torn pick was bytes at) so_far
picked_is_left pick base (Synced synced ∷ earlier) file =
    either_way (file == synced) (content_after base earlier file) (picked_after pick base earlier file)
    (λ left. left ≡ content_after base earlier file) (LeftAfter base earlier file) refl (picked_is_left pick base earlier file)

-- The files after some of the acts up to a moment; of the others the entries and their bytes are left.
pub record IsReplay (t : ℕ) (pick : Pick) (base content left : List (Vec ℕ Global)) (entries : List Entry) (bytes : List ℕ) (all : List Act) : Type 0 where
  pub acts : List Act
  pub rest : acts_until t acts entries bytes ≡ all
  pub kept : length bytes ≡ count_all entries
  pub content_is : (file : ℕ) → bytes_at content file ≡ content_after (bytes_at base) acts file
  pub left_is : (file : ℕ) → bytes_at left file ≡ picked_after pick (bytes_at base) acts file
  pub content_eight : length content ≡ 8
  pub left_eight : length left ≡ 8

-- one act more, on images that are known file by file
content_more : (base now : Image) (acts : List Act) (act : Act) → ((file : ℕ) → now file ≡ content_after base acts file)
    → (file : ℕ) → content_after now (act ∷ []) file ≡ content_after base (act ∷ acts) file
content_more base now acts (Wrote changed at bytes) is file = (λ i. if file == changed then written (is file i) at bytes else is file i)
content_more base now acts (Synced synced) is file = is file

picked_more : (pick : Pick) (base now left : Image) (acts : List Act) (act : Act) → ((file : ℕ) → now file ≡ content_after base acts file) → ((file : ℕ) → left file ≡ picked_after pick base acts file)
    → (file : ℕ) → pick_next pick now left act file ≡ picked_after pick base (act ∷ acts) file
picked_more pick base now left acts (Wrote changed at bytes) is left_is file = (λ i. if file == changed then pick_written pick (left_is file i) at bytes else left_is file i)
picked_more pick base now left acts (Synced synced) is left_is file = (λ i. if file == synced then is file i else left_is file i)

module _ (t : ℕ) (pick : Pick) (base content left : List (Vec ℕ Global)) (entry : Entry) (entries : List Entry) (bytes : List ℕ) (all : List Act)
    (so_far : IsReplay t pick base content left (entry ∷ entries) bytes all) where
  abbrev act : Act
  act = act_of entry.file entry.deed bytes

  pub entry_fits : count_of entry.deed ≤ length bytes
  entry_fits = omega (arith, so_far.kept)

  kept_behind : length (drop (count_of entry.deed) bytes) ≡ count_all entries
  kept_behind = omega (arith, so_far.kept, length-drop (count_of entry.deed) bytes)

  -- an act up to the moment
  pub replays_act : (new_content new_left : List (Vec ℕ Global)) → entry.moment ≤ t
      → ((file : ℕ) → bytes_at new_content file ≡ content_after (bytes_at content) (act ∷ []) file) → ((file : ℕ) → bytes_at new_left file ≡ pick_next pick (bytes_at content) (bytes_at left) act file)
      → length new_content ≡ 8 → length new_left ≡ 8 → IsReplay t pick base new_content new_left entries (drop (count_of entry.deed) bytes) all
  replays_act new_content new_left now content_is left_is content_eight left_eight = record {
    acts = act ∷ so_far.acts;
    rest = ap (λ (b : Bool). acts_until t (if b then act ∷ so_far.acts else so_far.acts) entries (drop (count_of entry.deed) bytes)) (sym (le-leb entry.moment t now)) ∙ so_far.rest;
    kept = kept_behind;
    content_is = λ file. content_is file ∙ content_more (bytes_at base) (bytes_at content) so_far.acts act so_far.content_is file;
    left_is = λ file. left_is file ∙ picked_more pick (bytes_at base) (bytes_at content) (bytes_at left) so_far.acts act so_far.content_is so_far.left_is file;
    content_eight = content_eight;
    left_eight = left_eight;
  }

  -- an act of a later moment
  pub skips_act : t < entry.moment → IsReplay t pick base content left entries (drop (count_of entry.deed) bytes) all
  skips_act later = record {
    acts = so_far.acts;
    rest = ap (λ (b : Bool). acts_until t (if b then act ∷ so_far.acts else so_far.acts) entries (drop (count_of entry.deed) bytes)) (sym (lt-leb entry.moment t later)) ∙ so_far.rest;
    kept = kept_behind;
    content_is = so_far.content_is;
    left_is = so_far.left_is;
    content_eight = so_far.content_eight;
    left_eight = so_far.left_eight;
  }

-- The entry at an index, in a loop over all of them.
module _ (t : ℕ) (pick : Pick) (base content left : List (Vec ℕ Global)) (entries : List Entry) (i : ℕ) (none : Entry) (short : i < length entries) (bytes behind : List ℕ) (all : List Act)
    (so_far : IsReplay t pick base content left (drop i entries) bytes all) (behind_is : behind ≡ drop (count_of (get_or entries i none).deed) bytes) where
  abbrev entry_at : Entry
  entry_at = get_or entries i none

  at_head : IsReplay t pick base content left (entry_at ∷ drop (i + 1) entries) bytes all
  at_head = subst (λ (es : List Entry). IsReplay t pick base content left es bytes all) (drop-cons entries i none short ∙ ap (λ (k : ℕ). entry_at ∷ drop k entries) (sym (add-one i))) so_far

  pub fits_at : count_of entry_at.deed ≤ length bytes
  fits_at = entry_fits t pick base content left entry_at (drop (i + 1) entries) bytes all at_head

  pub replays_at : (content_new left_new : List (Vec ℕ Global)) → entry_at.moment ≤ t
      → ((file : ℕ) → bytes_at content_new file ≡ content_after (bytes_at content) (act_of entry_at.file entry_at.deed bytes ∷ []) file)
      → ((file : ℕ) → bytes_at left_new file ≡ pick_next pick (bytes_at content) (bytes_at left) (act_of entry_at.file entry_at.deed bytes) file)
      → length content_new ≡ 8 → length left_new ≡ 8 → IsReplay t pick base content_new left_new (drop (i + 1) entries) behind all
  replays_at content_new left_new now content_is left_is content_eight left_eight =
      subst (λ (bs : List ℕ). IsReplay t pick base content_new left_new (drop (i + 1) entries) bs all) (sym behind_is)
      (replays_act t pick base content left entry_at (drop (i + 1) entries) bytes all at_head content_new left_new now content_is left_is content_eight left_eight)

  pub skips_at : (content_same left_same : List (Vec ℕ Global)) → content_same ≡ content → left_same ≡ left → t < entry_at.moment
      → IsReplay t pick base content_same left_same (drop (i + 1) entries) behind all
  skips_at content_same left_same content_is left_is later =
      subst (λ (files : List (Vec ℕ Global)). IsReplay t pick base files left_same (drop (i + 1) entries) behind all) (sym content_is)
      (subst (λ (files : List (Vec ℕ Global)). IsReplay t pick base content files (drop (i + 1) entries) behind all) (sym left_is)
      (subst (λ (bs : List ℕ). IsReplay t pick base content left (drop (i + 1) entries) bs all) (sym behind_is)
      (skips_act t pick base content left entry_at (drop (i + 1) entries) bytes all at_head later)))

-- all acts are replayed
pub replayed_all : (t : ℕ) (pick : Pick) (base content left : List (Vec ℕ Global)) (entries : List Entry) (i : ℕ) (bytes : List ℕ) (all : List Act) → length entries ≤ i
    → IsReplay t pick base content left (drop i entries) bytes all → (file : ℕ) → bytes_at left file ≡ picked_after pick (bytes_at base) all file
replayed_all t pick base content left entries i bytes all end so_far file =
    let rest : so_far.acts ≡ all = ap (λ (es : List Entry). acts_until t so_far.acts es bytes) (sym (drop_all i entries end)) ∙ so_far.rest in
    so_far.left_is file ∙ ap (λ (acts : List Act). picked_after pick (bytes_at base) acts file) rest

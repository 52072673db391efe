-- Files that were empty and are written.
use Rattle.std.proofs.Common.{◌≡◌, ◌≢◌, ℕ, ◌+◌, ◌≤◌, List, [], ◌++◌, length, sym, ◌∙◌, ap, arith}
use Rattle.std.proofs.lemmas.List.{append-nil, drop_all}
use Rattle.wat_disk.specs.Bytes.{written, Torn}
use Rattle.wat_disk.specs.Disk.{Image, Told, IsSynced, InFile, SameOthers, EachStop}
use Rattle.wat_disk.proofs.Stops.{goes_on, weaker}
use Rattle.wat_create.specs.Made.{KeepsBefore}

-- bytes written over none
pub written_new : (old new bytes : List ℕ) → old ≡ [] → new ≡ written old 0 bytes → new ≡ bytes
written_new old new bytes empty is =
    is ∙ (λ i. written (empty i) 0 bytes) ∙ ap (λ (rest : List ℕ). bytes ++ rest) (drop_all (0 + length bytes) [] (omega arith)) ∙ append-nil bytes

-- A file on the disk stays so while another is written.
pub synced_other : (file other : ℕ) (old new : Told) (Step : List ℕ → List ℕ → Type 0) → other ≢ file → IsSynced old other → SameOthers file old.content new.content → EachStop old new (InFile file Step) → IsSynced new other
synced_other file other old new Step not_it synced same stops image now =
    let found = stops.each new.moment image stops.later (omega arith) now in
    found.2.others other not_it ∙ synced found.0 found.1 ∙ sym (same other not_it)

-- main or the log is written
in_file : (file : ℕ) (old new : Image) → 1 ≢ file → file ≤ 2 → SameOthers file old new → KeepsBefore old new
in_file file old new not_before low same = record { before = same 1 not_before; others = λ other high. same other (λ e. omega (arith, e, high, low)) }

then_file : (file : ℕ) (before image after : Image) → 1 ≢ file → file ≤ 2 → KeepsBefore before image → SameOthers file image after → KeepsBefore before after
then_file file before image after not_before low keeps same =
    let more = in_file file image after not_before low same in
    record { before = more.before ∙ keeps.before; others = λ other high. more.others other high ∙ keeps.others other high }

pub one_kept : (old new : Image) → SameOthers 0 old new → KeepsBefore old new
one_kept old new same = in_file 0 old new (λ e. omega (arith, e)) (omega arith) same

pub both_kept : (old mid new : Image) → SameOthers 0 old mid → SameOthers 2 mid new → KeepsBefore old new
both_kept old mid new first second = then_file 2 old mid new (λ e. omega (arith, e)) (omega arith) (one_kept old mid first) second

module _ (old mid : Told) (n : ℕ) (first : EachStop old mid (InFile 0 (Torn 0 n))) where
  pub one_stops : EachStop old mid KeepsBefore
  one_stops = weaker old mid (InFile 0 (Torn 0 n)) KeepsBefore first (λ before image left step. one_kept before image step.others)

  pub both_stops : (new : Told) (m : ℕ) → EachStop mid new (InFile 2 (Torn 0 m)) → EachStop old new KeepsBefore
  both_stops new m second = goes_on old mid new KeepsBefore (InFile 2 (Torn 0 m)) one_stops second
      (λ before image after was now one two. then_file 2 before image after (λ e. omega (arith, e)) (omega arith) one two.others)

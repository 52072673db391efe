-- The numbers of scans that have short locks.
use Rattle.std.specs.Prelude.{◌≡◌, ℕ, ◌<◌, List, Some}
use Rattle.wat_list.specs.Has.{Has}
use Rattle.wat_locks.specs.declared.want.Want.{Want}
use Rattle.wat_locks.specs.declared.held.Held.{Held}

-- the scans with short locks have numbers below this one
abbrev pub AreBelow : ℕ → List Held → Type 0
AreBelow most held = (h : Held) (scan : ℕ) → Has h held → h.short ≡ Some scan → scan < most

abbrev pub AreWantedBelow : ℕ → List Want → Type 0
AreWantedBelow most wants = (w : Want) (scan : ℕ) → Has w wants → w.short ≡ Some scan → scan < most

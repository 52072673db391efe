-- No change of another connection brings, takes or changes a row whose key lies within a scan of an open transaction.
use Rattle.std.proofs.Common.{◌≡◌, ℕ, List, ◌⊎◌, Option, Some, sym, ap, ◌∙◌, subst, inl, inr}
use Rattle.wat_isolation.specs.World.{World}
use Rattle.wat_isolation.specs.Rows.{set_row, key_at, Within}
use Rattle.wat_isolation.specs.Logs.{Scan, Scanned}
use Rattle.wat_isolation.specs.Machine.{Place, Lock, State, IsPos, May, happens, Event.Change}
use Rattle.wat_isolation.specs.Kept.{Kept, SameAt}
use Rattle.wat_isolation.proofs.Basics.{row_same, put-same}
use Rattle.wat_isolation.proofs.Changing.{key_row}
use Rattle.wat_isolation.proofs.Footprints.{footprint_same}

module _ (w : World) (s : State w) (k : Kept w s) (d : ℕ) (r : w.Row) (after : Option w.Content) (wants : List (Lock w)) (next : w.Index → Place w) (may : May w s (Change d r after wants next)) (c : ℕ) (ne : d ≡ c → ⊥) (at : Scan w) (scanned : Scanned w at (s.conns c).log) (x : w.Key) (within : Within w at.lo at.hi x) where
  abbrev t : State w
  t = happens w s (Change d r after wants next)

  same : SameAt w s t at
  same = footprint_same w s k (Change d r after wants next) may c ne at scanned

  by_row : s.scheme.row_of at.index x ≡ r → IsPos w s at.index x → after ≡ s.now r
  by_row e pos = sym (subst (λ q. s.now q ≡ set_row w s.now r after q) e (same.rows x within pos) ∙ put-same w.same (row_same w) s.now r after)

  pub unchanged_within : key_at w s.scheme at.index r after ≡ Some x ⊎ (key_at w s.scheme at.index r (s.now r) ≡ Some x) → after ≡ s.now r
  unchanged_within (inl h) =
      let e : s.scheme.row_of at.index x ≡ r = key_row w s.scheme at.index r after x h in
      by_row e (same.none_new x within (inl (subst (λ q. key_at w s.scheme at.index q (set_row w s.now r after q) ≡ Some x) (sym e) (ap (key_at w s.scheme at.index r) (put-same w.same (row_same w) s.now r after) ∙ h))))
  unchanged_within (inr h) =
      let e : s.scheme.row_of at.index x ≡ r = key_row w s.scheme at.index r (s.now r) x h in
      by_row e (inl (subst (λ q. key_at w s.scheme at.index q (s.now q) ≡ Some x) (sym e) h))

-- Few pages for what they hold.
use Rattle.std.proofs.Common.{◌≡◌, ◌⊎◌, inl, inr, ⊎_elim, ℕ, ◌+◌, ◌*◌, ◌/◌, ◌<◌, ◌≤◌, arith}
use Rattle.wat_budget.specs.Budget.{Kinds, IsBudgeted, total, budget}

below_next : (m : ℕ) → m < 250 * (m / 250 + 1)
below_next m = omega arith

-- where no page is free
pub within : (p m : ℕ) (k : Kinds) → IsBudgeted p m k → k.free ≡ 0 → total k ≤ budget p m
within p m k b none = elim b.catalog [
  | inl c ↦ elim b.rollback [
    | inl r ↦ elim b.rows [ inl w ↦ omega (arith, b.opened, c, r, w, none) | inr w ↦ omega (arith, b.opened, c, r, w, none, below_next m) ]
    | inr r ↦ elim b.rows [ inl w ↦ omega (arith, b.opened, c, r, w, none, below_next m) | inr w ↦ omega (arith, b.opened, c, r, w, none, below_next m) ]
  ]
  | inr c ↦ elim b.rollback [
    | inl r ↦ elim b.rows [ inl w ↦ omega (arith, b.opened, c, r, w, none, below_next m) | inr w ↦ omega (arith, b.opened, c, r, w, none, below_next m) ]
    | inr r ↦ elim b.rows [ inl w ↦ omega (arith, b.opened, c, r, w, none, below_next m) | inr w ↦ omega (arith, b.opened, c, r, w, none, below_next m) ]
  ]
]

-- at opening
pub opens : (p m : ℕ) (k : Kinds) → total k ≤ p → IsBudgeted p m k
opens p m k within_p = record { first = k; opened = within_p; catalog = inl (omega arith); rollback = inl (omega arith); rows = inl (omega arith) }

-- a greater size
pub grows : (p m more : ℕ) (k : Kinds) → m ≤ more → IsBudgeted p m k → IsBudgeted p more k
grows p m more k le b = record {
  first = b.first;
  opened = b.opened;
  catalog = ⊎_elim (λ a. inl a) (λ a. inr (omega arith)) b.catalog;
  rollback = ⊎_elim (λ a. inl a) (λ a. inr (omega arith)) b.rollback;
  rows = ⊎_elim (λ a. inl a) (λ a. inr (omega arith)) b.rows;
}

-- a row page more; it was free, or is new
pub takes_row : (p m : ℕ) (k : Kinds) (free : ℕ) → 501 * k.rows ≤ m → IsBudgeted p m k → IsBudgeted p m (record k { rows = k.rows + 1; free = free })
takes_row p m k free few b = record { first = b.first; opened = b.opened; catalog = b.catalog; rollback = b.rollback; rows = inr (omega arith) }

-- a row page less
pub frees_row : (p m : ℕ) (k : Kinds) (rows free : ℕ) → rows ≤ k.rows → IsBudgeted p m k → IsBudgeted p m (record k { rows = rows; free = free })
frees_row p m k rows free fewer b = record {
  first = b.first;
  opened = b.opened;
  catalog = b.catalog;
  rollback = b.rollback;
  rows = ⊎_elim (λ a. inl (omega arith)) (λ a. inr (omega arith)) b.rows;
}

-- the chains written anew
pub saves : (p m : ℕ) (k : Kinds) (catalog rollback free schema changes : ℕ) → 4080 * catalog ≤ schema + 4079 → schema ≤ m → 4080 * rollback ≤ changes + 4079 → changes ≤ 2 * m + 2
    → IsBudgeted p m k → IsBudgeted p m (record k { catalog = catalog; rollback = rollback; free = free })
saves p m k catalog rollback free schema changes a b c d budgeted = record {
  first = budgeted.first;
  opened = budgeted.opened;
  catalog = inr (omega arith);
  rollback = inr (omega arith);
  rows = budgeted.rows;
}

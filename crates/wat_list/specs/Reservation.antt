-- What contracts see of a list that takes its room ahead of time.
use Rattle.std.specs.Prelude.{ℕ, List, refl}
use Rattle.std.specs.Coded.{Coded, code_by, coded×, coded_list, coded_ℕ}

-- the items, and how many more fit without memory
pub record Reservation (T : Type 0) : Type 0 where
  pub items : List T
  pub spare : ℕ

-- a reservation is stored as the pair of its fields
abbrev pub coded_reservation : {T : Type 0} → Coded T → Coded (Reservation T)
coded_reservation {T} item =
    code_by (List T × ℕ) (coded× (coded_list item) coded_ℕ) (λ r. (r.items, r.spare)) (λ p. record { items = p.0; spare = p.1 }) (λ _. refl)

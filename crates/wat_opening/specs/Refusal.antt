-- Why a database isn't opened.
use Rattle.std.specs.Prelude.{ℕ}
use Rattle.wat_images.specs.declared.refusal.PageRefusal.{PageRefusal}
use Rattle.wat_images.specs.declared.refusal.PageRefusal.TheVariants as pages
use Rattle.wat_opening.specs.declared.refusal.OpenWhy.{OpenWhy}
use Rattle.wat_opening.specs.declared.refusal.OpenWhy.TheVariants.{NoDatabase, Damaged, PageLimit, DiskFault, Memory}

-- a fact of the file and the place, where the refusal tells them
abbrev pub IfDamaged : OpenWhy → (ℕ → ℕ → Type 0) → Type 0
IfDamaged NoDatabase P = Unit {0}
IfDamaged (Damaged file at) P = P file.0 at
IfDamaged (PageLimit count limit) P = Unit {0}
IfDamaged DiskFault P = Unit {0}
IfDamaged Memory P = Unit {0}

-- a fact of the count and the limit, where the refusal tells them
abbrev pub IfPageLimit : OpenWhy → (ℕ → ℕ → Type 0) → Type 0
IfPageLimit NoDatabase P = Unit {0}
IfPageLimit (Damaged file at) P = Unit {0}
IfPageLimit (PageLimit count limit) P = P count limit
IfPageLimit DiskFault P = Unit {0}
IfPageLimit Memory P = Unit {0}

-- What is told of files that are all empty: that there is no database, or why it wasn't found out.
abbrev pub IsOnEmpty : OpenWhy → Type 0
IsOnEmpty NoDatabase = Unit {0}
IsOnEmpty (Damaged file at) = ⊥
IsOnEmpty (PageLimit count limit) = ⊥
IsOnEmpty DiskFault = Unit {0}
IsOnEmpty Memory = Unit {0}

-- why a database isn't opened, where its pages or its log refused so
abbrev pub open_why : PageRefusal → OpenWhy
open_why pages.DiskFault = DiskFault
open_why (pages.Damaged file at) = Damaged file at
open_why (pages.PageLimit count limit) = PageLimit count limit
open_why pages.Memory = Memory

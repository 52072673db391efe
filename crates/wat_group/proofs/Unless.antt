-- What was not failed.
use Rattle.std.proofs.Common.{◌≡◌, Bool, true, false, Option, Some, None, refl}
use Rattle.wat_group.specs.Query.{unless}

pub from_some : {X : Type 0} (failed : Bool) (x y : X) → Some y ≡ unless failed x → (failed ≡ false) × (y ≡ x)
from_some true x y is = cc
from_some false x y is = (refl, cc)

pub from_none : {X : Type 0} (failed : Bool) (x : X) → ◌≡◌ {A = Option X} None (unless failed x) → failed ≡ true
from_none true x is = refl
from_none false x is = cc

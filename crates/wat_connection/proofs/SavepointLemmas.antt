-- Savepoints as they are kept, and as they are seen.
use Rattle.std.proofs.Common.{◌≡◌, ℕ, zero, suc, ◌+◌, ◌-◌, ◌<◌, ◌≤◌, Bool, true, false, cond, List, [], ◌∷◌, ◌++◌, length, map, take, reverse, get_or, refl, sym, ap, ◌∙◌, subst, arith}
use Rattle.std.proofs.lemmas.List.{reverse-append, take_more}
use Rattle.std.specs.Str.{bytes_eq}
use Rattle.wat_schema.specs.Catalog.{Name}
use Rattle.wat_history.specs.Connection.{back_from}
use Rattle.wat_connection.specs.declared.savepoints.Savepoint.{Savepoint}
use Rattle.wat_connection.specs.Savepoints.{save_of, saves_of, IsNewest, AreNested}

-- one savepoint more is the latest
pub saves_more : (xs : List Savepoint) (x : Savepoint) → saves_of (xs ++ x ∷ []) ≡ save_of x ∷ saves_of xs
saves_more xs x = ap (map save_of) (reverse-append xs (x ∷ []))

-- the latest of the first so many
pub saves_up_to : (xs : List Savepoint) (n : ℕ) (x : Savepoint) → n < length xs → x ≡ get_or xs n x → saves_of (take (n + 1) xs) ≡ save_of x ∷ saves_of (take n xs)
saves_up_to xs n x h is =
    ap saves_of (take_more xs n x h) ∙ ap (λ (y : Savepoint). saves_of (take n xs ++ y ∷ [])) (sym is) ∙ saves_more (take n xs) x

-- it has another name
pub look_on : (name : Name) (xs : List Savepoint) (n : ℕ) (x : Savepoint) → n < length xs → x ≡ get_or xs n x → bytes_eq name x.name ≡ false
    → back_from name (saves_of (take (n + 1) xs)) ≡ back_from name (saves_of (take n xs))
look_on name xs n x h is other =
    ap (back_from name) (saves_up_to xs n x h is)
    ∙ ap (λ (b : Bool). cond b (save_of x ∷ saves_of (take n xs)) (back_from name (saves_of (take n xs)))) other

-- it has this name
pub look_here : (name : Name) (xs : List Savepoint) (n : ℕ) (x : Savepoint) → n < length xs → x ≡ get_or xs n x → bytes_eq name x.name ≡ true
    → back_from name (saves_of (take (n + 1) xs)) ≡ saves_of (take (n + 1) xs)
look_here name xs n x h is same =
    ap (back_from name) (saves_up_to xs n x h is)
    ∙ ap (λ (b : Bool). cond b (save_of x ∷ saves_of (take n xs)) (back_from name (saves_of (take n xs)))) same
    ∙ sym (saves_up_to xs n x h is)

-- where more changes stand
pub nested_more : (n m : ℕ) (saves : List (Name × ℕ)) → n ≤ m → AreNested n saves → AreNested m saves
nested_more n m [] h nested = tt
nested_more n m (save ∷ earlier) h nested = let within = nested.0 in (omega (arith, within), nested.1)

-- among those from one on back
pub nested_back : (name : Name) (n : ℕ) (saves : List (Name × ℕ)) → AreNested n saves → AreNested n (back_from name saves)
nested_back name n [] nested = tt
nested_back name n (save ∷ earlier) nested = by (bytes_eq name save.0) (nested_back name n earlier (nested_more save.1 n earlier nested.0 nested.1))
  where
    by : (b : Bool) → AreNested n (back_from name earlier) → AreNested n (cond b (save ∷ earlier) (back_from name earlier))
    by true later = nested
    by false later = later

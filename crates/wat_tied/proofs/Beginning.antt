-- The core is tied where nothing is done.
use Rattle.std.proofs.Common.{◌≡◌, ℕ, zero, suc, ◌+◌, ◌<◌, List, [], ◌∷◌, ◌++◌, length, Option, Some, None, IsPermutation, refl, sym, ap, ◌∙◌, subst, arith}
use Rattle.std.specs.List.{flat_map, range_with_len}
use Rattle.std.proofs.lemmas.List.Sorted.{IsPermutation-refl}
use Rattle.std.specs.Prelude.{slice_get}
use Rattle.wat_schema.specs.Tables.{Tables, IsTables, catalog_of}
use Rattle.wat_isolation.specs.Machine as law
use Rattle.wat_isolation.specs.Naming.{scheme_of}
use Rattle.wat_isolation.specs.Sql.{sql}
use Rattle.wat_isolation.proofs.Whole.{all_hold}
use Rattle.wat_scans.specs.Look.{look, IsOf}
use Rattle.wat_steps.specs.Fresh.{connection_with, script_of, fresh}
use Rattle.wat_parse.specs.declared.script.Span.{Span}
use Rattle.wat_tied.specs.Told.{parts_told, commits_told, IsTold}
use Rattle.wat_list.specs.Has.{Has}
use Rattle.wat_history.specs.Connection.{Part}
use Rattle.wat_tied.specs.Tied.{AreStanding, standing_in, IsIdle, GoesWith, IsInside, IsAbsent, MeetsWith, IsTied}

-- of a connection with nothing done
stands : (base : Tables) (script : Option (List ℕ)) → AreStanding (catalog_of base) (standing_in (connection_with script).transaction (connection_with script).work) []
stands base None = record { formed = λ change has. absurd has; same = refl }
stands base (Some script) = record { formed = λ change has. absurd has; same = refl }

is_idle : (script : Option (List ℕ)) → IsIdle (law.idle sql) [] [] (connection_with script).transaction
is_idle None = (refl, refl, refl)
is_idle (Some script) = (refl, refl, refl)

goes : (base : Tables) (script : Option (List ℕ)) → GoesWith (catalog_of base) (connection_with script) (connection_with script).work []
goes base None = refl
goes base (Some script) = refl

meets : (s : law.State sql) (c : ℕ) (script : Option (List ℕ)) → MeetsWith s c (connection_with script).work
meets s c None = tt
meets s c (Some script) = tt

told_first : (script : Option (List ℕ)) → IsTold (connection_with script) []
told_first None = record { goes = λ s m e. absurd (none_left s m e); open_parts = λ e. refl; opens = λ e w. refl }
  where
    none_left : (s : Span) (m : List Span) → [] ≡ s ∷ m → ⊥
    none_left s m e = cc
told_first (Some script) = record { goes = λ s m e. refl; open_parts = λ e. refl; opens = λ e w. refl }

no_part : (p : Part) (o : Option (List ℕ)) → Has p (parts_told (connection_with o)) → ⊥
no_part p None m = m
no_part p (Some script) m = m

none_told : (scripts : List (List ℕ)) (k n : ℕ) → flat_map (λ c. commits_told (connection_with (script_of scripts c))) (range_with_len k n) ≡ []
none_told scripts k zero = refl
none_told scripts k (suc n) = ap (λ z. z ++ flat_map (λ c. commits_told (connection_with (script_of scripts c))) (range_with_len (k + 1) n)) (one (script_of scripts k)) ∙ none_told scripts (k + 1) n
  where
    one : (o : Option (List ℕ)) → commits_told (connection_with o) ≡ []
    one None = refl
    one (Some script) = refl

none_past : (scripts : List (List ℕ)) (c : ℕ) → (c < length scripts → ⊥) → slice_get scripts c ≡ None
none_past [] c out = refl
none_past (script ∷ scripts) zero out = absurd (out (omega arith))
none_past (script ∷ scripts) (suc c) out = none_past scripts c (λ l. out (omega (arith, l)))

-- a connection that there isn't has nothing to do
nothing : (base : Tables) (scripts : List (List ℕ)) (c : ℕ) → (IsInside (fresh base scripts) c → ⊥) → IsAbsent ((fresh base scripts).connections c)
unfolding fresh
nothing base scripts zero out = record { no_transaction = refl; none_left = refl }
nothing base scripts (suc c) out =
    subst (λ (o : Option (List ℕ)). IsAbsent (connection_with o)) (sym (none_past scripts c (λ l. out (record { from_one = omega arith; within = omega (arith, l) })))) (record { no_transaction = refl; none_left = refl })

pub begins : (base : Tables) (scripts : List (List ℕ)) → IsTables base → IsTied (fresh base scripts)
unfolding fresh
begins base scripts tables = record {
  ghost = record { state = s; entries = λ c. []; work = λ c. []; history = [] };
  ties = record {
    schema = tables.catalog;
    kept = (all_hold sql (scheme_of (catalog_of base)) (look base) [] tt).kept;
    relates = record { scheme = refl; now = is; base = is; locks = λ c m has. absurd has; vacant = record { sound = λ o has. absurd has; full = λ c i x v o. absurd o } };
    log = λ c. refl;
    standing = λ c. stands base (script_of scripts c);
    idle = λ c. is_idle (script_of scripts c);
    parts = λ c p has. absurd has;
    serial = refl;
    told = λ c. told_first (script_of scripts c);
    plain = λ c p m. absurd (no_part p (script_of scripts c) m);
    history = record { all = subst (λ z. IsPermutation z []) (sym (none_told scripts 1 (length scripts))) (IsPermutation-refl []); numbers = refl; moments = refl };
    outside = λ c out. nothing base scripts c out;
    works = λ going c. goes base (script_of scripts c);
    meets = λ going c. meets s c (script_of scripts c);
  };
}
  where
    s : law.State sql
    s = law.start sql (scheme_of (catalog_of base)) (look base)

    is : IsOf (catalog_of base) (look base) base
    is = record { tables = tables; schema = refl; rows = λ r. refl }

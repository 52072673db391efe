-- A source that has the visible name of an earlier one.
use Rattle.std.proofs.Common.{◌≡◌, ℕ, ◌+◌, ◌<◌, Bool, true, false, not, if◌then◌else◌, ◌||◌, List, [], ◌∷◌, ◌++◌, map, take, drop, length, get_or, Some, refl, sym, ap, ap₂, ◌∙◌}
use Rattle.std.specs.List.{list_any}
use Rattle.std.specs.Str.{bytes_eq}
use Rattle.std.proofs.lemmas.List.{take_more, drop_more}
use Rattle.wat_schema.specs.Catalog.{Name}
use Rattle.wat_schema.specs.declared.refusal.Refusal.{Refusal}
use Rattle.wat_schema.specs.declared.refusal.Refusal.TheVariants.{Ambiguous}
use Rattle.wat_schema.proofs.Once.{bytes_eq-turned, not_turned}
use Rattle.wat_scope.specs.declared.scope.Visible.{Visible}
use Rattle.wat_scope.specs.Scope.{Scope}
use Rattle.wat_names.specs.Refusals.{first}
use Rattle.wat_names.specs.Columns.{has_visible, named_again}

among_names : (n : Name) (sources : Scope) → has_visible sources n ≡ list_any (bytes_eq n) (map (λ source. source.name) sources)
among_names n [] = refl
among_names n (source ∷ sources) = ap₂ (λ a b. a || b) (bytes_eq-turned source.name n) (among_names n sources)

-- The next source, after those so far. `fresh` says whether its name is none of theirs.
module _ (scope : Scope) (i : ℕ) (d : Visible) (within : i < length scope) (before : List Name) (so_far : before ≡ map (λ source. source.name) (take i scope))
    (n : Name) (is : n ≡ (get_or scope i d).name) (fresh : Bool) (says : fresh ≡ not (list_any (bytes_eq n) before)) where
  had : has_visible (take i scope) (get_or scope i d).name ≡ not fresh
  had =
      among_names (get_or scope i d).name (take i scope)
      ∙ sym (ap₂ (λ m ns. list_any (bytes_eq m) ns) is so_far)
      ∙ not_turned fresh (list_any (bytes_eq n) before) says

  from_here : first (named_again (take i scope) (drop i scope)) ≡ first (named_again (take i scope) (get_or scope i d ∷ drop (i + 1) scope))
  from_here = ap (λ rest. first (named_again (take i scope) rest)) (drop_more scope i d within)

  refused : (b : Bool) → b ≡ true → (x : Refusal) (more : List Refusal) → first ((if b then x ∷ [] else []) ++ more) ≡ Some x
  refused b is_new x more = ap (λ (v : Bool). first ((if v then x ∷ [] else []) ++ more)) is_new

  passed : (b : Bool) → b ≡ false → (x : Refusal) (more : List Refusal) → first ((if b then x ∷ [] else []) ++ more) ≡ first more
  passed b is_old x more = ap (λ (v : Bool). first ((if v then x ∷ [] else []) ++ more)) is_old

  pub named_here : fresh ≡ false → first (named_again (take i scope) (drop i scope)) ≡ Some (Ambiguous (get_or scope i d).name)
  named_here is_old =
      from_here
      ∙ refused (has_visible (take i scope) (get_or scope i d).name) (had ∙ ap not is_old) (Ambiguous (get_or scope i d).name) (named_again (take i scope ++ get_or scope i d ∷ []) (drop (i + 1) scope))

  pub named_later : fresh ≡ true → first (named_again (take i scope) (drop i scope)) ≡ first (named_again (take (i + 1) scope) (drop (i + 1) scope))
  named_later is_new =
      from_here
      ∙ passed (has_visible (take i scope) (get_or scope i d).name) (had ∙ ap not is_new) (Ambiguous (get_or scope i d).name) (named_again (take i scope ++ get_or scope i d ∷ []) (drop (i + 1) scope))
      ∙ ap (λ (b : Scope). first (named_again b (drop (i + 1) scope))) (sym (take_more scope i d within))

-- The changes that connections may still commit.
use Rattle.std.specs.Prelude.{if◌then◌else◌}
use Rattle.std.proofs.lemmas.Bool.{eq-eqb}
use Rattle.std.proofs.Common.{◌≡◌, ℕ, ◌+◌, ◌<◌, ◌≤◌, List, [], ◌∷◌, ◌++◌, length, map, take, drop, get_or, Option, Some, None, MatchOption, refl, sym, ap, ◌∙◌, subst, arith}
use Rattle.std.specs.Prelude.{slice_get}
use Rattle.std.proofs.lemmas.List.{take_all, take-append-le, take_more, map_push, length-append}
use Rattle.std.proofs.lemmas.Option.{get_or_from_slice_get}
use Rattle.wat_value.specs.declared.change.Change.{Change}
use Rattle.wat_value.specs.declared.change.Act.{Act}
use Rattle.wat_value.specs.declared.change.Act.TheVariants.{OnRow}
use Rattle.wat_replay.specs.State.{Lists, with_list}
use Rattle.wat_recover.specs.Goes.{Popped}
use Rattle.wat_undo.proofs.Keeping.{with_own, with_twice}
use Rattle.wat_translated.specs.Translated.{unless_empty}

with_here : (conn : ℕ) (list : List Change) (lists : Lists) → with_list conn list lists conn ≡ list
with_here conn list lists = ap (λ b. if b then list else lists conn) (eq-eqb conn conn refl)

-- what is left when the first of a connection's changes are left
abbrev pub left : ℕ → ℕ → Lists → Lists
left conn count lists = with_list conn (take count (lists conn)) lists

-- one change less, behind those that are left
pub one_less : (conn count : ℕ) (old new : Lists) (change : Change) → Popped conn change old new → count < length (old conn) → left conn count new ≡ left conn count old
one_less conn count old new change p more =
    let rest_here : new conn ≡ p.rest = ap (λ (lists : Lists). lists conn) p.is ∙ with_here conn p.rest old in
    let counted : length (old conn) ≡ length p.rest + 1 = ap length p.was ∙ length-append p.rest (change ∷ []) in
    let same : take count (new conn) ≡ take count (old conn) =
    ap (take count) rest_here ∙ sym (ap (take count) p.was ∙ take-append-le count p.rest (change ∷ []) (omega (arith, counted, more))) in
    ap (λ (list : List Change). with_list conn list new) same
    ∙ ap (with_list conn (take count (old conn))) p.is
    ∙ with_twice old conn p.rest (take count (old conn))

pub shorter : (conn : ℕ) (old new : Lists) (change : Change) → Popped conn change old new → length (new conn) < length (old conn)
shorter conn old new change p =
    let rest_here : new conn ≡ p.rest = ap (λ (lists : Lists). lists conn) p.is ∙ with_here conn p.rest old in
    omega (arith, ap length rest_here, ap length p.was ∙ length-append p.rest (change ∷ []))

pub none_more : (conn count : ℕ) (lists : Lists) → length (lists conn) ≤ count → left conn count lists ≡ lists
none_more conn count lists few = with_own lists conn (take count (lists conn)) (sym (take_all count (lists conn) few))

-- ---- the transaction of a connection

pub none_of : (changes : List Change) → length changes ≡ 0 → unless_empty changes ≡ []
none_of [] h = refl
none_of (change ∷ changes) h = absurd (omega (arith, h))

pub some_of : (changes : List Change) → 0 < length changes → unless_empty changes ≡ map OnRow changes ∷ []
some_of [] h = absurd (omega (arith, h))
some_of (change ∷ changes) h = refl

pub popped_of : (conn : ℕ) (old new : Lists) (o : Option Change) (Same : Type 0) → MatchOption o ((old conn ≡ []) × Same) (λ change. Popped conn change old new) → 0 < length (old conn) → (change : Change) × Popped conn change old new
popped_of conn old new None Same h some = absurd (omega (arith, ap length h.0, some))
popped_of conn old new (Some change) Same h some = (change, h)

pub pushed : (lists : List Change) (i : ℕ) (x y : Change) (old new : List Act) → slice_get lists i ≡ Some x → y ≡ x → old ≡ map OnRow (take i lists) → new ≡ old ++ OnRow y ∷ [] → i < length lists → new ≡ map OnRow (take (i + 1) lists)
pushed lists i x y old new at same before after there =
    after
    ∙ ap (λ (acts : List Act). acts ++ OnRow y ∷ []) before
    ∙ ap (λ (z : Change). map OnRow (take i lists) ++ OnRow z ∷ []) (same ∙ sym (get_or_from_slice_get lists i x x at))
    ∙ sym (map_push OnRow (take i lists) (get_or lists i x))
    ∙ sym (ap (map OnRow) (take_more lists i x there))

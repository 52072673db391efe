-- What the sets of kinds tell of the next token.
use Rattle.std.proofs.Common.{◌≡◌, Bool, true, false, ◌||◌, not, List, [], ◌∷◌, ◌++◌, inl, inr, refl, sym, ◌∙◌, ap}
use Rattle.wat_grammar.specs.Phrase.{Grammar, has, sees}
use Rattle.wat_grammar.specs.Predictive.{are_apart, is_part}
use Rattle.wat_grammar.proofs.Outcomes.{and_true, or_true, not_true}

module _ {K X N E : Type 0} (g : Grammar K X N E) where
  has-append : (ks ls : List K) (k : K) → has g (ks ++ ls) k ≡ (has g ks k || has g ls k)
  has-append [] ls k = refl
  has-append (j ∷ ks) ls k = assoc (g.same k j) _ _ _ (has-append ks ls k)
    where
      assoc : (a b c d : Bool) → b ≡ (c || d) → (a || b) ≡ ((a || c) || d)
      assoc true b c d e = refl
      assoc false b c d e = e

  pub sees-append : (ks ls : List K) (ts : List X) → sees g (ks ++ ls) ts ≡ (sees g ks ts || sees g ls ts)
  sees-append ks ls [] = refl
  sees-append ks ls (x ∷ ts) = has-append ks ls (g.kind x)

  pub sees_left : (ks ls : List K) (ts : List X) → sees g ks ts ≡ true → sees g (ks ++ ls) ts ≡ true
  sees_left ks ls ts s = sees-append ks ls ts ∙ ap (λ b. b || sees g ls ts) s

  pub sees_right : (ks ls : List K) (ts : List X) → sees g ls ts ≡ true → sees g (ks ++ ls) ts ≡ true
  sees_right ks ls ts s = sees-append ks ls ts ∙ (ap (λ b. sees g ks ts || b) s ∙ any_true (sees g ks ts))
    where
      any_true : (b : Bool) → (b || true) ≡ true
      any_true true = refl
      any_true false = refl

  pub sees_neither : (ks ls : List K) (ts : List X) → sees g (ks ++ ls) ts ≡ false → (sees g ks ts ≡ false) × (sees g ls ts ≡ false)
  sees_neither ks ls ts s = both (sees g ks ts) (sees g ls ts) (sym (sees-append ks ls ts) ∙ s)
    where
      both : (a b : Bool) → (a || b) ≡ false → (a ≡ false) × (b ≡ false)
      both true b e = cc
      both false b e = (refl, e)

  pub sees_front : (ks : List K) (us vs : List X) → sees g ks us ≡ true → sees g ks (us ++ vs) ≡ true
  sees_front ks [] vs s = cc
  sees_front ks (x ∷ us) vs s = s

  module _ (same_true : (a b : K) → g.same a b ≡ true → a ≡ b) where
    has_apart : (ks ls : List K) (k : K) → are_apart g ks ls ≡ true → has g ks k ≡ true → has g ls k ≡ false
    has_apart [] ls k a h = cc
    has_apart (j ∷ ks) ls k a h = elim (or_true (g.same k j) _ h) [
      | inl e ↦ (ap (has g ls) (same_true k j e) ∙ not_true _ (and_true (not (has g ls j)) _ a).0)
      | inr i ↦ has_apart ks ls k (and_true (not (has g ls j)) _ a).1 i
    ]

    pub sees_apart : (ks ls : List K) (ts : List X) → are_apart g ks ls ≡ true → sees g ls ts ≡ true → sees g ks ts ≡ false
    sees_apart ks ls [] a s = refl
    sees_apart ks ls (x ∷ ts) a s = decide (has g ks (g.kind x)) refl
      where
        decide : (b : Bool) → has g ks (g.kind x) ≡ b → b ≡ false
        decide true e = let f : has g ls (g.kind x) ≡ false = has_apart ks ls (g.kind x) a e in let s' : has g ls (g.kind x) ≡ true = s in cc
        decide false e = refl

    has_part : (ks ls : List K) (k : K) → is_part g ks ls ≡ true → has g ks k ≡ true → has g ls k ≡ true
    has_part [] ls k a h = cc
    has_part (j ∷ ks) ls k a h = elim (or_true (g.same k j) _ h) [
      | inl e ↦ (ap (has g ls) (same_true k j e) ∙ (and_true (has g ls j) _ a).0)
      | inr i ↦ has_part ks ls k (and_true (has g ls j) _ a).1 i
    ]

    pub sees_part : (ks ls : List K) (ts : List X) → is_part g ks ls ≡ true → sees g ks ts ≡ true → sees g ls ts ≡ true
    sees_part ks ls [] a s = s
    sees_part ks ls (x ∷ ts) a s = has_part ks ls (g.kind x) a s

    pub sees_part_none : (ks ls : List K) (ts : List X) → is_part g ks ls ≡ true → sees g ls ts ≡ false → sees g ks ts ≡ false
    sees_part_none ks ls ts a s = decide (sees g ks ts) refl
      where
        decide : (b : Bool) → sees g ks ts ≡ b → b ≡ false
        decide true e = let f : sees g ls ts ≡ true = sees_part ks ls ts a e in cc
        decide false e = refl

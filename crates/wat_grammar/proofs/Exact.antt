-- What is read within a number of levels is what is derived, and an error stands at the first fault.
use Rattle.std.proofs.Common.{◌≡◌, ◌==◌, ℕ, zero, suc, true, false, not, List, [], ◌∷◌, ◌++◌, Result, Ok, Err, refl, sym, ◌∙◌, ap, subst}
use Rattle.std.proofs.lemmas.List.{append-nil}
use Rattle.std.specs.List.{AllByRecursion}
use Rattle.wat_grammar.specs.Phrase.{Phrase, Grammar, Outcome, DerivesInside, DerivesWithin, sees, can_be_empty, first_kinds, read_inside, read_within, whole, FailsAt}
use Rattle.wat_grammar.specs.Predictive.{more, is_part, is_predictive, is_alive, IsPredictive}
use Rattle.wat_grammar.proofs.Outcomes.{and_true}
use Rattle.wat_grammar.proofs.Choice.{sees_part, sees_part_none}
use Rattle.wat_grammar.proofs.Sound.{Takes, sound}
use Rattle.wat_grammar.proofs.Complete.{begins, must_begin, complete}
use Rattle.wat_grammar.proofs.Viable.{Leads, some, viable, alive_any}
use Rattle.wat_grammar.proofs.Online.{LeavesEnd, IsAlike, ends, online, alike_err}

module _ {K X N E : Type 0} (g : Grammar K X N E) (example : K → X) (h : IsPredictive g example) where
  pub record IsRight (levels : ℕ) (n : N) : Type 0 where
    pub starts : (ts : List X) (e : E) → DerivesInside g levels n ts e → sees g (g.entry n) ts ≡ true
    pub is_sound : (ts : List X) (e : E) (r : List X) → read_inside g levels n ts ≡ Ok (e, r) → Takes (DerivesInside g levels n) ts e r
    pub is_complete : (us : List X) (e : E) (r : List X) → DerivesInside g levels n us e → sees g (g.exit n) r ≡ false → read_inside g levels n (us ++ r) ≡ Ok (e, r)
    pub has_some : (levels == 0) ≡ false → (us : List X) × (e : E) × DerivesInside g levels n us e × AllByRecursion g.IsToken us
    pub is_viable : (ts r : List X) → (levels == 0) ≡ false → read_inside g levels n ts ≡ Err r → Leads g.IsToken (DerivesInside g levels n) ts r
    pub has_ends : (ts : List X) → LeavesEnd ts (read_inside g levels n ts)
    pub is_online : (x : X) (vs vs' us : List X) → IsAlike x vs vs' (read_inside g levels n (us ++ x ∷ vs)) (read_inside g levels n (us ++ x ∷ vs'))

  right : (levels : ℕ) (n : N) → IsRight levels n
  right zero n = record {
    starts = λ ts e d. absurd d;
    is_sound = λ ts e r q. cc;
    is_complete = λ us e r d s. absurd d;
    has_some = λ z. cc;
    is_viable = λ ts r z q. cc;
    has_ends = λ ts. ([], refl);
    is_online = λ x vs vs' us. alike_err x vs vs' us;
  }
  right (suc levels) n =
      let v = and_true (is_predictive g example false (g.rule n)) _ (h.rules n) in
      let v2 = and_true (is_part g (first_kinds g (g.rule n)) (g.entry n)) _ v.1 in
      let v3 = and_true (is_part g (more g (g.rule n)) (g.exit n)) _ v2.1 in
      let v4 = and_true (not (can_be_empty (g.rule n))) _ v3.1 in
      let deep = not (levels == 0) in
      let starts_in = λ (m : N). (right levels m).starts in
      let sound_in = λ (m : N). (right levels m).is_sound in
      let ends_in = λ (m : N). (right levels m).has_ends in
      let some_in = λ (m : N). (right levels m).has_some in
      let start : (ts : List X) (e : E) → DerivesInside g (suc levels) n ts e → sees g (first_kinds g (g.rule n)) ts ≡ true
      = λ ts e d. must_begin g (can_be_empty (g.rule n)) (first_kinds g (g.rule n)) ts v4.0 (begins g h.same_refl levels (DerivesInside g levels) starts_in (g.rule n) ts e d) in
      record {
        starts = λ ts e d. sees_part g h.same_true (first_kinds g (g.rule n)) (g.entry n) ts v2.0 (start ts e d);
        is_sound = sound g h.same_true levels (read_inside g levels) (DerivesInside g levels) sound_in (g.rule n);
        is_complete = λ us e r d s. complete g example h.same_true h.same_refl levels (read_inside g levels) (DerivesInside g levels) starts_in (λ m. (right levels m).is_complete)
            false (g.rule n) v.0 us e r d (sees_part_none g h.same_true (more g (g.rule n)) (g.exit n) r v3.0 s);
        has_some = λ z. some g example h.same_true h.are_tokens levels (read_inside g levels) (DerivesInside g levels) some_in sound_in (λ m ts r z. (right levels m).is_viable ts r z)
            false deep (g.rule n) refl v.0 (alive_any deep (g.rule n) v4.1);
        is_viable = λ ts r z. viable g example h.same_true h.are_tokens levels (read_inside g levels) (DerivesInside g levels) some_in sound_in (λ m ts r z. (right levels m).is_viable ts r z)
            false deep (g.rule n) (λ e. cc) refl v.0 (alive_any deep (g.rule n) v4.1) ts r;
        has_ends = ends g levels (read_inside g levels) ends_in (g.rule n);
        is_online = λ x vs vs'. online g example h.same_true h.same_refl levels (read_inside g levels) (DerivesInside g levels) starts_in sound_in ends_in x vs vs' (λ m. (right levels m).is_online x vs vs') false (g.rule n) v.0;
      }

  module _ {A : Type 0} (levels : ℕ) (p : Phrase K X N E A) (v : is_predictive g example false p ≡ true) (l : is_alive false p ≡ true) where
    p_sound : (ts : List X) (a : A) (r : List X) → read_within g levels p ts ≡ Ok (a, r) → Takes (DerivesWithin g levels p) ts a r
    p_sound = sound g h.same_true levels (read_inside g levels) (DerivesInside g levels) (λ m. (right levels m).is_sound) p

    p_complete : (us : List X) (a : A) → DerivesWithin g levels p us a → read_within g levels p (us ++ []) ≡ Ok (a, [])
    p_complete us a d = complete g example h.same_true h.same_refl levels (read_inside g levels) (DerivesInside g levels) (λ m. (right levels m).starts) (λ m. (right levels m).is_complete) false p v us a [] d refl

    p_viable : (ts r : List X) → read_within g levels p ts ≡ Err r → Leads g.IsToken (DerivesWithin g levels p) ts r
    p_viable = viable g example h.same_true h.are_tokens levels (read_inside g levels) (DerivesInside g levels) (λ m. (right levels m).has_some) (λ m. (right levels m).is_sound) (λ m ts r z. (right levels m).is_viable ts r z)
        false (not (levels == 0)) p (λ e. cc) refl v (alive_any (not (levels == 0)) p l)

    p_online : (x : X) (vs vs' us : List X) → IsAlike x vs vs' (read_within g levels p (us ++ x ∷ vs)) (read_within g levels p (us ++ x ∷ vs'))
    p_online x vs vs' = online g example h.same_true h.same_refl levels (read_inside g levels) (DerivesInside g levels) (λ m. (right levels m).starts) (λ m. (right levels m).is_sound) (λ m. (right levels m).has_ends)
        x vs vs' (λ m. (right levels m).is_online x vs vs') false p v

    ok_same : (a b : A) → (let o : Result A (List X) = Ok a in o) ≡ Ok b → a ≡ b
    ok_same a b e = cc

    whole_ok : (o : Outcome X A) (a : A) → whole o ≡ Ok a → o ≡ Ok (a, [])
    whole_ok (Ok (b, [])) a e = let q : b ≡ a = cc in ap (λ (z : A). Ok (z, [])) q
    whole_ok (Ok (b, x ∷ ts)) a e = cc
    whole_ok (Err r) a e = cc

    -- What is read is derived.
    pub derived : (ts : List X) (a : A) → whole (read_within g levels p ts) ≡ Ok a → DerivesWithin g levels p ts a
    derived ts a e =
        let t = p_sound ts a [] (whole_ok _ a e) in
        subst (λ (z : List X). DerivesWithin g levels p z a) (sym (t.1 ∙ append-nil t.0)) t.2

    -- What is derived is read.
    pub found : (ts : List X) (a : A) → DerivesWithin g levels p ts a → whole (read_within g levels p ts) ≡ Ok a
    found ts a d = ap (λ (z : List X). whole (read_within g levels p z)) (sym (append-nil ts)) ∙ ap whole (p_complete ts a d)

    -- No tokens have two trees.
    pub unambiguous : (ts : List X) (a b : A) → DerivesWithin g levels p ts a → DerivesWithin g levels p ts b → a ≡ b
    unambiguous ts a b d d' = ok_same a b (sym (found ts a d) ∙ found ts b d')

    -- what leaves a token begins nothing with it
    none_after : (us : List X) (x : X) (vs : List X) (o : Outcome X A) → read_within g levels p (us ++ x ∷ vs) ≡ o
        → ((more : List X) → IsAlike x vs more o (read_within g levels p (us ++ x ∷ more)) → whole (read_within g levels p (us ++ x ∷ more)) ≡ Err (x ∷ more))
        → (more : List X) (a : A) → DerivesWithin g levels p (us ++ x ∷ more) a → ⊥
    none_after us x vs o e k more a d =
        let alike : IsAlike x vs more o (read_within g levels p (us ++ x ∷ more)) =
        subst (λ (y : Outcome X A). IsAlike x vs more y (read_within g levels p (us ++ x ∷ more))) e (p_online x vs more us) in
        let no : whole (read_within g levels p (us ++ x ∷ more)) ≡ Err (x ∷ more) = k more alike in
        let yes : whole (read_within g levels p (us ++ x ∷ more)) ≡ Ok a = found (us ++ x ∷ more) a d in
        cc

    failed_err : (ts r : List X) → read_within g levels p ts ≡ Err r → FailsAt g levels p ts r
    failed_err ts [] e =
        let w = p_viable ts [] e in
        let same : ts ≡ w.0 = w.3 ∙ append-nil w.0 in (
          w.0,
          w.3,
          (w.1, w.2, w.5, w.4),
          λ a d. (
              let yes : whole (read_within g levels p w.0) ≡ Ok a = found w.0 a d in
              let no : whole (read_within g levels p w.0) ≡ Err [] = ap (λ (z : List X). whole (read_within g levels p z)) (sym same) ∙ ap whole e in
              cc),
        )
    failed_err ts (x ∷ r) e =
        let w = p_viable ts (x ∷ r) e in
        (w.0, w.3, (w.1, w.2, w.5, w.4), none_after w.0 x r (Err (x ∷ r)) (ap (read_within g levels p) (sym w.3) ∙ e) (λ more a. ap whole (a [] refl)))

    failed_cases : (ts r : List X) (o : Outcome X A) → read_within g levels p ts ≡ o → whole o ≡ Err r → FailsAt g levels p ts r
    failed_cases ts r (Ok (a, [])) e w = cc
    failed_cases ts r (Ok (a, x ∷ vs)) e w =
        let q : x ∷ vs ≡ r = cc in
        let t = p_sound ts a (x ∷ vs) e in
        subst (FailsAt g levels p ts) q (
          t.0,
          t.1,
          ([], a, tt, subst (λ (z : List X). DerivesWithin g levels p z a) (sym (append-nil t.0)) t.2),
          none_after t.0 x vs (Ok (a, x ∷ vs)) (ap (read_within g levels p) (sym t.1) ∙ e) (λ more a. ap whole (a [] refl)),
        )
    failed_cases ts r (Err s) e w = let q : s ≡ r = cc in subst (FailsAt g levels p ts) q (failed_err ts s e)

    -- An error stands at the first fault.
    pub fails : (ts r : List X) → whole (read_within g levels p ts) ≡ Err r → FailsAt g levels p ts r
    fails ts r w = failed_cases ts r (read_within g levels p ts) refl w

-- How changes of one hand slide past those of the others.
use Rattle.std.proofs.Common.{◌≡◌, ◌≢◌, inl, inr, ℕ, zero, suc, ◌<◌, ◌≤◌, List, [], ◌∷◌, ◌++◌, Some, refl, sym, ap, ◌∙◌, subst, arith}
use Rattle.std.proofs.lemmas.Bool.{cases_order}
use Rattle.wat_replay.proofs.Moves.{Moves, Leads, TakesBack, ApartFrom, AllApart}

module _ {T C : Type 0} (m : Moves T C) where
  pub good_after : (cs : List C) (t u : T) → m.Good t → Leads m cs t u → m.Good u
  good_after [] t u good leads = subst m.Good leads good
  good_after (c ∷ cs) t v good leads = good_after cs leads.0 v (m.keeps c t leads.0 good leads.1) leads.2

  one_state : (x y : T) → Some x ≡ Some y → x ≡ y
  one_state x y e = cc

  -- changes lead to one state
  pub leads_once : (cs : List C) (t u v : T) → Leads m cs t u → Leads m cs t v → u ≡ v
  leads_once [] t u v a b = sym a ∙ b
  leads_once (c ∷ cs) t u v a b =
      let same : a.0 ≡ b.0 = one_state a.0 b.0 (sym a.1 ∙ b.1) in
      leads_once cs b.0 u v (subst (λ s. Leads m cs s u) same a.2) b.2

  pub leads_append : (cs ds : List C) (t u v : T) → Leads m cs t u → Leads m ds u v → Leads m (cs ++ ds) t v
  leads_append [] ds t u v a b = subst (λ s. Leads m ds s v) (sym a) b
  leads_append (c ∷ cs) ds t u v a b = (a.0, a.1, leads_append cs ds a.0 u v a.2 b)

  pub leads_split : (cs ds : List C) (t v : T) → Leads m (cs ++ ds) t v → (u : T) × Leads m cs t u × Leads m ds u v
  leads_split [] ds t v a = (t, refl, a)
  leads_split (c ∷ cs) ds t v a = let rest = leads_split cs ds a.0 v a.2 in (rest.0, (a.0, a.1, rest.1), rest.2)

  -- one change is made before these and not behind them
  slide_one : (ds : List C) (c : C) (t u v : T) → ApartFrom m c ds → m.Good t → Leads m ds t u → m.made c u ≡ Some v
      → (w : T) × (m.made c t ≡ Some w) × Leads m ds w v
  slide_one [] c t u v apart good leads made = (v, ap (m.made c) leads ∙ made, refl)
  slide_one (d ∷ ds) c t u v apart good leads made =
      let rest = slide_one ds c leads.0 u v apart.1 (m.keeps d t leads.0 good leads.1) leads.2 made in
      let first = m.swaps d c t leads.0 rest.0 apart.0 good leads.1 rest.1 in
      (first.0, first.1, (rest.0, first.2, rest.2))

  pub slide : (ds cs : List C) (t u v : T) → AllApart m cs ds → m.Good t → Leads m ds t u → Leads m cs u v
      → (w : T) × Leads m cs t w × Leads m ds w v
  slide ds [] t u v apart good leads more = (t, refl, subst (Leads m ds t) more leads)
  slide ds (c ∷ cs) t u v apart good leads more =
      let first = slide_one ds c t u more.0 apart.0 good leads more.1 in
      let rest = slide ds cs first.0 more.0 v apart.1 (m.keeps c t first.0 good first.1) first.2 more.2 in
      (rest.0, (first.0, first.1, rest.1), rest.2)

  -- what takes these back, the last of them first
  abbrev pub backs : List C → List C
  backs [] = []
  backs (c ∷ cs) = backs cs ++ m.back c ∷ []

  pub leads_back : (cs : List C) (t u : T) → m.Good t → Leads m cs t u → Leads m (backs cs) u t
  leads_back [] t u good leads = sym leads
  leads_back (c ∷ cs) t u good leads =
      leads_append (backs cs) (m.back c ∷ []) u leads.0 t (leads_back cs leads.0 u (m.keeps c t leads.0 good leads.1) leads.2)
      (t, m.returns c t leads.0 good leads.1, refl)

  pub apart_append : (cs ds es : List C) → AllApart m cs es → AllApart m ds es → AllApart m (cs ++ ds) es
  apart_append [] ds es a b = b
  apart_append (c ∷ cs) ds es a b = (a.0, apart_append cs ds es a.1 b)

  apart_from_back : (c : C) (ds : List C) (t u : T) → m.Good t → m.made c t ≡ Some u → ApartFrom m c ds → ApartFrom m (m.back c) ds
  apart_from_back c [] t u good made apart = tt
  apart_from_back c (d ∷ ds) t u good made apart = (m.apart_back c d t u good made apart.0, apart_from_back c ds t u good made apart.1)

  pub apart_backs : (cs ds : List C) (t u : T) → m.Good t → Leads m cs t u → AllApart m cs ds → AllApart m (backs cs) ds
  apart_backs [] ds t u good leads apart = tt
  apart_backs (c ∷ cs) ds t u good leads apart =
      apart_append (backs cs) (m.back c ∷ []) ds (apart_backs cs ds leads.0 u (m.keeps c t leads.0 good leads.1) leads.2 apart.1)
      (apart_from_back c ds t leads.0 good leads.1 apart.0, tt)

  pub apart_front : (cs ds es : List C) → AllApart m (cs ++ ds) es → AllApart m cs es
  apart_front [] ds es a = tt
  apart_front (c ∷ cs) ds es a = (a.0, apart_front cs ds es a.1)

  pub apart_rest : (cs ds es : List C) → AllApart m (cs ++ ds) es → AllApart m ds es
  apart_rest [] ds es a = a
  apart_rest (c ∷ cs) ds es a = apart_rest cs ds es a.1

  apart_from_front : (c : C) (ds es : List C) → ApartFrom m c (ds ++ es) → ApartFrom m c ds
  apart_from_front c [] es a = tt
  apart_from_front c (d ∷ ds) es a = (a.0, apart_from_front c ds es a.1)

  pub apart_of_front : (cs ds es : List C) → AllApart m cs (ds ++ es) → AllApart m cs ds
  apart_of_front [] ds es a = tt
  apart_of_front (c ∷ cs) ds es a = (apart_from_front c ds es a.0, apart_of_front cs ds es a.1)

  apart_from_more : (c : C) (ds : List C) (e : C) → ApartFrom m c ds → m.Apart e c → ApartFrom m c (ds ++ e ∷ [])
  apart_from_more c [] e a b = (b, tt)
  apart_from_more c (d ∷ ds) e a b = (a.0, apart_from_more c ds e a.1 b)

  -- each of these is apart from one
  abbrev pub EachApart : List C → C → Type 0
  EachApart [] e = Unit {0}
  EachApart (c ∷ cs) e = m.Apart e c × EachApart cs e

  pub apart_more : (cs ds : List C) (e : C) → AllApart m cs ds → EachApart cs e → AllApart m cs (ds ++ e ∷ [])
  apart_more [] ds e a b = tt
  apart_more (c ∷ cs) ds e a b = (apart_from_more c ds e a.0 b.0, apart_more cs ds e a.1 b.1)

  -- the hands below n have the same lists
  same_below : (old new : ℕ → List C) (n : ℕ) (t u : T) → ((d : ℕ) → d < n → new d ≡ old d) → TakesBack m old n t u → TakesBack m new n t u
  same_below old new zero t u same back = back
  same_below old new (suc n) t u same back =
      (back.0, same_below old new n t back.0 (λ d l. same d (omega arith)) back.1, back.2, subst (λ cs. Leads m cs u back.0) (sym (same n (omega arith))) back.3)

  module _ (c : ℕ) (old new : ℕ → List C) (others : (d : ℕ) → d ≢ c → new d ≡ old d) where
    below_is_other : (d n : ℕ) → d < n → n ≤ c → d ≢ c
    below_is_other d n l k e = omega arith

    -- More changes of one hand: taking all back leads where it led, if it does so for that hand.
    module _ (ps : List C) (apart : (d : ℕ) → d ≢ c → AllApart m ps (old d)) where
      below : (n : ℕ) (t u t2 : T) → n ≤ c → m.Good u → TakesBack m old n t u → Leads m ps t t2 → (u2 : T) × TakesBack m new n t2 u2 × Leads m ps u u2
      below zero t u t2 l good back leads = (t2, refl, subst (λ s. Leads m ps s t2) back leads)
      below (suc n) t u t2 l good back leads =
          let other = below_is_other n (suc n) (omega arith) l in
          let v_good = good_after (old n) u back.0 good back.3 in
          let rest = below n t back.0 t2 (omega arith) v_good back.1 leads in
          let slid = slide (old n) ps u back.0 rest.0 (apart n other) good back.3 rest.2 in
          let good2 = good_after ps u slid.0 good slid.1 in
          (slid.0, (rest.0, rest.1, good2, subst (λ cs. Leads m cs slid.0 rest.0) (sym (others n other)) slid.2), slid.1)

      pub moved : ((u v v2 : T) → m.Good u → Leads m (old c) u v → Leads m ps v v2 → Leads m (new c) u v2)
          → (n : ℕ) (t u t2 : T) → c < n → TakesBack m old n t u → Leads m ps t t2 → TakesBack m new n t2 u
      moved joins zero t u t2 l back leads = absurd (omega arith)
      moved joins (suc n) t u t2 l back leads = elim (cases_order n c) [
        | inl here ↦
            let at_c : Leads m (old c) u back.0 = subst (λ d. Leads m (old d) u back.0) here back.3 in
            let v_good = good_after (old n) u back.0 back.2 back.3 in
            let rest = below n t back.0 t2 (omega arith) v_good back.1 leads in
            let joined = joins u back.0 rest.0 back.2 at_c rest.2 in
            (rest.0, rest.1, back.2, subst (λ d. Leads m (new d) u rest.0) (sym here) joined)
        | inr other ↦
            let past : c < n = elim other [ inl less ↦ absurd (omega arith) | inr more ↦ omega arith ] in
            let not_it : n ≢ c = λ e. omega arith in
            (back.0, moved joins n t back.0 t2 past back.1 leads, back.2, subst (λ cs. Leads m cs u back.0) (sym (others n not_it)) back.3)
      ]

    -- The changes of one hand stay for good: taking back those of the others leads to where they lead.
    pub stayed : ((d : ℕ) → d ≢ c → AllApart m (old c) (old d)) → new c ≡ []
        → (n : ℕ) (t u : T) → c < n → TakesBack m old n t u → (u2 : T) × Leads m (old c) u u2 × TakesBack m new n t u2
    stayed apart none zero t u l back = absurd (omega arith)
    stayed apart none (suc n) t u l back = elim (cases_order n c) [
      | inl here ↦
          let at_c : Leads m (old c) u back.0 = subst (λ d. Leads m (old d) u back.0) here back.3 in
          let v_good = good_after (old n) u back.0 back.2 back.3 in
          let no_more : Leads m (new n) back.0 back.0 = subst (λ cs. Leads m cs back.0 back.0) (sym (ap new here ∙ none)) refl in
          (back.0, at_c, (back.0, same_below old new n t back.0 (λ d l. others d (below_is_other d n l (omega arith))) back.1, v_good, no_more))
      | inr other ↦
          let past : c < n = elim other [ inl less ↦ absurd (omega arith) | inr more ↦ omega arith ] in
          let not_it : n ≢ c = λ e. omega arith in
          let rest = stayed apart none n t back.0 past back.1 in
          let slid = slide (old n) (old c) u back.0 rest.0 (apart n not_it) back.2 back.3 rest.1 in
          let good2 = good_after (old c) u slid.0 back.2 slid.1 in
          (slid.0, slid.1, (rest.0, rest.2, good2, subst (λ cs. Leads m cs slid.0 rest.0) (sym (others n not_it)) slid.2))
    ]

-- The changes of one hand could be made last: so they can be taken back first.
module _ {T C : Type 0} (m : Moves T C) (lists : ℕ → List C) (cs : List C) where
  past_below : (n : ℕ) (t u v : T) → ((d : ℕ) → d < n → AllApart m (lists d) cs) → m.Good u → TakesBack m lists n t v → Leads m cs u v → (w : T) × m.Good w × Leads m cs w t
  past_below zero t u v apart good back leads = (u, good, subst (Leads m cs u) (sym back) leads)
  past_below (suc n) t u v apart good back leads =
      let slid = slide m cs (lists n) u v back.0 (apart n (omega arith)) good leads back.3 in
      past_below n t slid.0 back.0 (λ d l. apart d (omega arith)) (good_after m (lists n) u slid.0 good slid.1) back.1 slid.2

  pub comes_last : (c : ℕ) → lists c ≡ cs → ((d : ℕ) → d ≢ c → AllApart m (lists d) cs) → (n : ℕ) (t u : T) → c < n → TakesBack m lists n t u → (w : T) × m.Good w × Leads m cs w t
  comes_last c is apart zero t u l back = absurd (omega arith)
  comes_last c is apart (suc n) t u l back = elim (cases_order n c) [
    | inl here ↦
        let mine : Leads m cs u back.0 = subst (λ xs. Leads m xs u back.0) (ap lists here ∙ is) back.3 in
        past_below n t u back.0 (λ d less. apart d (λ e. omega arith)) back.2 back.1 mine
    | inr other ↦
        let past : c < n = elim other [ inl less ↦ absurd (omega arith) | inr more ↦ omega arith ] in
        comes_last c is apart n t back.0 past back.1
  ]

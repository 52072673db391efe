-- What a transaction sees: the tables with its own changes.
use Rattle.std.proofs.Common.{◌≡◌, List, [], ◌∷◌, ◌⊎◌, Option, Some, refl, sym, ap, ◌∙◌, subst, inl, inr, ⊎_elim}
use Rattle.wat_isolation.specs.World.{World}
use Rattle.wat_isolation.specs.Rows.{Scheme, Tables, set_row, key_at, IsLive, Lookup}
use Rattle.wat_isolation.specs.Logs.{Item, Item.Saw, Item.Did, Item.Looked, Item.Peeked, view, Alone, ChangesApply, Version}
use Rattle.wat_isolation.proofs.Basics.{row_same, put-same, put-other, put_cases}

-- one change, at a row, over two tables that agree there
pub set_at : (w : World) (f h : Tables w) (q : w.Row) (a : Option w.Content) (r : w.Row) → f r ≡ h r → set_row w f q a r ≡ set_row w h q a r
set_at w f h q a r e =
    ⊎_elim
    (λ (k : (r ≡ q) × (set_row w f q a r ≡ a)). subst (λ z. set_row w f q a z ≡ set_row w h q a z) (sym k.0) (put-same w.same (row_same w) f q a ∙ sym (put-same w.same (row_same w) h q a)))
    (λ (k : (r ≡ q → ⊥) × (set_row w f q a r ≡ f r)). k.1 ∙ (e ∙ sym (put-other w.same (row_same w) h q a r k.0)))
    (put_cases w.same (row_same w) f q a r)

-- the view at a row is given by the tables at that row alone
pub view_at : (w : World) (f h : Tables w) (l : List (Item w)) (r : w.Row) → f r ≡ h r → view w f l r ≡ view w h l r
view_at w f h [] r e = e
view_at w f h (Saw s ∷ l) r e = view_at w f h l r e
view_at w f h (Looked q v ∷ l) r e = view_at w f h l r e
view_at w f h (Peeked q v ∷ l) r e = view_at w f h l r e
view_at w f h (Did q b a ∷ l) r e = set_at w (view w f l) (view w h l) q a r (view_at w f h l r e)

pub alone_applies : (w : World) (g : Scheme w) (f : Tables w) (l : List (Item w)) → Alone w g f l → ChangesApply w f l
alone_applies w g f [] h = tt
alone_applies w g f (Saw s ∷ l) h = alone_applies w g f l h.0
alone_applies w g f (Looked q v ∷ l) h = alone_applies w g f l h.0
alone_applies w g f (Peeked q v ∷ l) h = alone_applies w g f l h
alone_applies w g f (Did q b a ∷ l) h = (alone_applies w g f l h.0, h.1)

-- a row of which there is no version is seen as the tables have it
pub view_untouched : (w : World) (f : Tables w) (l : List (Item w)) (r : w.Row) → ((v : Option w.Content) → Version w r v l → ⊥) → view w f l r ≡ f r
view_untouched w f [] r none = refl
view_untouched w f (Saw s ∷ l) r none = view_untouched w f l r none
view_untouched w f (Looked q v ∷ l) r none = view_untouched w f l r none
view_untouched w f (Peeked q v ∷ l) r none = view_untouched w f l r none
view_untouched w f (Did q b a ∷ l) r none =
    put-other w.same (row_same w) (view w f l) q a r (λ (e : r ≡ q). none b (inl (sym e, refl))) ∙ view_untouched w f l r (λ v h. none v (inr (inr h)))

-- A transaction that never changed the row sees it as the tables have it; else that and what it sees are versions of it.
abbrev pub Untouched : (w : World) → Tables w → List (Item w) → w.Row → Type 0
Untouched w f l r = (view w f l r ≡ f r) × ((v : Option w.Content) → Version w r v l → ⊥)

abbrev pub BothVersions : (w : World) → Tables w → List (Item w) → w.Row → Type 0
BothVersions w f l r = Version w r (f r) l × Version w r (view w f l r) l

pub versions : (w : World) (f : Tables w) (l : List (Item w)) (r : w.Row) → ChangesApply w f l → Untouched w f l r ⊎ BothVersions w f l r
versions w f [] r h = inl (refl, λ v k. k)
versions w f (Saw s ∷ l) r h = versions w f l r h
versions w f (Looked q v ∷ l) r h = versions w f l r h
versions w f (Peeked q v ∷ l) r h = versions w f l r h
versions w f (Did q b a ∷ l) r h =
    ⊎_elim
    (λ (k : (r ≡ q) × (set_row w (view w f l) q a r ≡ a)). inr (
      ⊎_elim
          (λ (u : Untouched w f l r). inl (sym k.0, sym h.1 ∙ (ap (view w f l) (sym k.0) ∙ u.0)))
          (λ (u : BothVersions w f l r). inr (inr u.0))
          (versions w f l r h.0),
      inr (inl (sym k.0, sym k.1)),
    ))
    (λ (k : (r ≡ q → ⊥) × (set_row w (view w f l) q a r ≡ view w f l r)). ⊎_elim
    (λ (u : Untouched w f l r). inl (k.1 ∙ u.0, no_more q b a l r k.0 u.1))
    (λ (u : BothVersions w f l r). inr (inr (inr u.0), inr (inr (subst (λ z. Version w r z l) (sym k.1) u.1))))
    (versions w f l r h.0))
    (put_cases w.same (row_same w) (view w f l) q a r)
  where
    no_more : (q : w.Row) (b a : Option w.Content) (l : List (Item w)) (r : w.Row) → (r ≡ q → ⊥) → ((v : Option w.Content) → Version w r v l → ⊥) → (v : Option w.Content) → Version w r v (Did q b a ∷ l) → ⊥
    no_more q b a l r ne none v (inl e) = ne (sym e.0)
    no_more q b a l r ne none v (inr (inl e)) = ne (sym e.0)
    no_more q b a l r ne none v (inr (inr k)) = none v k

-- a row found at a key stands there
pub lookup_stands : (w : World) (g : Scheme w) (i : w.Index) (f : Tables w) (x : w.Key) (v : w.Content) → Lookup w g i f x v → IsLive w g i f x
lookup_stands w g i f x v h = ap (key_at w g i (g.row_of i x)) h.0 ∙ h.1

-- what is found at a key is given by its row
pub lookup_at : (w : World) (g : Scheme w) (i : w.Index) (f h : Tables w) (x : w.Key) (v : w.Content) → f (g.row_of i x) ≡ h (g.row_of i x) → Lookup w g i f x v → Lookup w g i h x v
lookup_at w g i f h x v e k = (sym e ∙ k.0, k.1)

pub lookup_same : (w : World) (g : Scheme w) (i : w.Index) (f : Tables w) (x : w.Key) (v u : w.Content) → Lookup w g i f x v → Lookup w g i f x u → v ≡ u
lookup_same w g i f x v u a b = let e : Some v ≡ Some u = sym a.0 ∙ b.0 in cc

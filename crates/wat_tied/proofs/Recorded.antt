-- What was changed and undone is seen as before, and what was read changes nothing.
use Rattle.std.proofs.Common.{◌≡◌, true, List, [], ◌∷◌, ◌++◌, reverse, Option, refl, sym, ap, ◌∙◌, subst, inl, inr, ⊎_elim}
use Rattle.std.specs.List.{fold, list_all}
use Rattle.std.proofs.lemmas.Bool.{and_from}
use Rattle.std.proofs.lemmas.List.{reverse-append, reverse-reverse}
use Rattle.wat_list.specs.Has.{Has}
use Rattle.wat_list.proofs.Members.{has_cases}
use Rattle.wat_value.specs.declared.change.Change.{Change}
use Rattle.wat_value.specs.Changes.{RowName, row_before, row_after}
use Rattle.wat_schema.specs.Catalog.{Catalog}
use Rattle.wat_schema.specs.Tables.{Row}
use Rattle.wat_isolation.specs.Rows.{set_row}
use Rattle.wat_isolation.specs.Logs.{Item, Item.Saw, Item.Did, Item.Looked, Item.Peeked, Alone, view}
use Rattle.wat_isolation.specs.Naming.{scheme_of}
use Rattle.wat_isolation.specs.Sql.{sql}
use Rattle.wat_isolation.proofs.Basics.{row_same, put_cases}
use Rattle.wat_isolation.proofs.Views.{view_at}
use Rattle.wat_isolation.proofs.Statements.{view_parts}
use Rattle.wat_meaning.specs.Standing.{change_fits}
use Rattle.wat_scans.specs.Running.{row_changed, change_item, items_of}
use Rattle.wat_tied.specs.Tied.{AreReads, IsFormed}
use Rattle.wat_tied.proofs.Changed.{fold_append}
use Rattle.wat_tied.proofs.Undone.{undo_items}

-- reading changes nothing
pub view_of_reads : (f : RowName → Option Row) (items : List (Item sql)) → AreReads items → view sql f items ≡ f
view_of_reads f [] h = refl
view_of_reads f (Saw s ∷ items) h = view_of_reads f items h
view_of_reads f (Did r b a ∷ items) h = absurd h
view_of_reads f (Looked r v ∷ items) h = absurd h
view_of_reads f (Peeked r v ∷ items) h = view_of_reads f items h

pub has_reversed : {A : Type 0} (x : A) (xs : List A) → Has x (reverse xs) → Has x xs
has_reversed x [] h = h
has_reversed x (y ∷ ys) h = ⊎_elim
    (λ (m : Has x (reverse ys)). inr (has_reversed x ys m))
    (λ (m : Has x (y ∷ [])). ⊎_elim (λ e. inl e) (λ n. absurd n) m)
    (has_cases x (reverse ys) (y ∷ []) (subst (Has x) (reverse-append (y ∷ []) ys) h))

pub reversed_has : {A : Type 0} (x : A) (xs : List A) → Has x xs → Has x (reverse xs)
reversed_has {A} x xs h = has_reversed x (reverse xs) (subst (Has x) (sym (reverse-reverse xs)) h)

pub all_fit : (c : Catalog) (changes : List Change) → ((ch : Change) → Has ch changes → IsFormed c ch) → list_all (change_fits c) changes ≡ true
all_fit c [] formed = refl
all_fit c (ch ∷ changes) formed = and_from (change_fits c ch) (list_all (change_fits c) changes) (formed ch (inl refl)).after (all_fit c changes (λ x has. formed x (inr has)))

-- the items of these changes, the last one first
abbrev pub did_items : Catalog → List Change → List (Item sql) → List (Item sql)
did_items c [] base = base
did_items c (ch ∷ changes) base = change_item c ch ∷ did_items c changes base

fold_last : {A B : Type 0} (f : B → A → B) (b : B) (x : A) (xs : List A) → fold f b (reverse (x ∷ xs)) ≡ f (fold f b (reverse xs)) x
fold_last f b x xs = ap (fold f b) (reverse-append (x ∷ []) xs) ∙ fold_append f b (reverse xs) (x ∷ [])

did_reversed : (c : Catalog) (changes : List Change) (base : List (Item sql)) → items_of c (reverse changes) base ≡ did_items c changes base
did_reversed c [] base = refl
did_reversed c (ch ∷ changes) base = fold_last (λ items x. change_item c x ∷ items) base ch changes ∙ ap (λ z. change_item c ch ∷ z) (did_reversed c changes base)

pub did_is : (c : Catalog) (changes : List Change) (base : List (Item sql)) → items_of c changes base ≡ did_items c (reverse changes) base
did_is c changes base = ap (λ z. items_of c z base) (sym (reverse-reverse changes)) ∙ did_reversed c (reverse changes) base

again : (q : RowName) (was became : Option Row) (h : RowName → Option Row) (r : RowName) → h q ≡ was → set_row sql (set_row sql h q became) q was r ≡ h r
again q was became h r is = ⊎_elim
    (λ (o : (r ≡ q) × (set_row sql (set_row sql h q became) q was r ≡ was)). o.1 ∙ (sym is ∙ ap h (sym o.0)))
    (λ (o : (r ≡ q → ⊥) × (set_row sql (set_row sql h q became) q was r ≡ set_row sql h q became r)). o.1 ∙ ⊎_elim
    (λ (p : (r ≡ q) × (set_row sql h q became r ≡ became)). absurd (o.0 p.0))
    (λ (p : (r ≡ q → ⊥) × (set_row sql h q became r ≡ h r)). p.1)
    (put_cases sql.same (row_same sql) h q became r))
    (put_cases sql.same (row_same sql) (set_row sql h q became) q was r)

-- what was changed and undone is seen as before
pub undone_view : (c : Catalog) (f : RowName → Option Row) (changes : List Change) (base : List (Item sql)) → Alone sql (scheme_of c) f (did_items c changes base) → (r : RowName) → view sql f (undo_items c changes ++ did_items c changes base) r ≡ view sql f base r
undone_view c f [] base alone r = refl
undone_view c f (ch ∷ changes) base alone r =
    let h : RowName → Option Row = view sql f (did_items c changes base) in
    let q : RowName = row_changed c ch in
    ap (λ z. z r) (view_parts sql f (undo_items c changes ++ Did q (row_after ch) (row_before ch) ∷ []) (change_item c ch ∷ did_items c changes base))
    ∙ (ap (λ z. z r) (view_parts sql (set_row sql h q (row_after ch)) (undo_items c changes) (Did q (row_after ch) (row_before ch) ∷ []))
    ∙ (view_at sql (set_row sql (set_row sql h q (row_after ch)) q (row_before ch)) h (undo_items c changes) r (again q (row_before ch) (row_after ch) h r alone.1)
    ∙ (ap (λ z. z r) (sym (view_parts sql f (undo_items c changes) (did_items c changes base))) ∙ undone_view c f changes base alone.0 r)))

-- Rows by their keys, where they stand in the order of these.
use Rattle.std.proofs.Common.{◌≡◌, Bool, true, false, not, cond, ◌||◌, if◌then◌else◌, List, [], ◌∷◌, ◌++◌, map, filter, Option, Some, None, is_none, refl, sym, ap, ap₂, ◌∙◌, inl, inr}
use Rattle.std.specs.declared.cmp.Ordering.{Ordering}
use Rattle.std.specs.declared.cmp.Ordering.TheVariants.{Less, Equal, Greater}
use Rattle.std.specs.Ordering.{is_lt, is_gt, is_eq, ordering_reverse}
use Rattle.std.specs.List.{find, list_any, list_all}
use Rattle.std.specs.Option.{option_or}
use Rattle.std.proofs.lemmas.Bool.{and_parts, or_left, or_right, cases_Bool}
use Rattle.std.proofs.lemmas.List.Folds.{find-append}
use Rattle.wat_value.specs.Order.{key_cmp}
use Rattle.wat_value.specs.OrderLaws.{key_cmp_total, key_cmp_level, key_cmp_refl}
use Rattle.wat_list.specs.Rising.{rising}
use Rattle.wat_schema.specs.Tables.{Row, row_eq}
use Rattle.wat_schema.proofs.Placed.{found_first, found_later}
use Rattle.wat_schema.proofs.RowOrder.{less_is}
use Rattle.wat_schema.proofs.TableLaws.{itself, equal}

not_lt_itself : (a b : Row) → a ≡ b → is_lt (key_cmp a b) ≡ false
not_lt_itself a b e = ap (λ x. is_lt (key_cmp x b)) e ∙ ap is_lt (key_cmp_refl b)

not_gt_itself : (a b : Row) → a ≡ b → is_gt (key_cmp a b) ≡ false
not_gt_itself a b e = ap (λ x. is_gt (key_cmp x b)) e ∙ ap is_gt (key_cmp_refl b)

pub other_row : (a b : Row) (o : Ordering) → key_cmp a b ≡ o → is_eq o ≡ false → row_eq a b ≡ false
other_row a b o h e = ap is_eq h ∙ e

module _ {X : Type 0} (p : X → Bool) where
  pub find_kept : (q : X → Bool) → ((x : X) → p x ≡ true → q x ≡ true) → (xs : List X) → find p (filter q xs) ≡ find p xs
  find_kept q keeps [] = refl
  find_kept q keeps (x ∷ xs) = elim (cases_Bool (p x)) [
    | inl here ↦ rw (keeps x here, here) refl
    | inr other ↦ elim (cases_Bool (q x)) [
      | inl kept ↦ rw (kept, other) (find_kept q keeps xs)
      | inr gone ↦ rw (gone, other) (find_kept q keeps xs)
    ]
  ]

  pub find_gone : (q : X → Bool) → ((x : X) → p x ≡ true → q x ≡ false) → (xs : List X) → find p (filter q xs) ≡ None
  find_gone q goes [] = refl
  find_gone q goes (x ∷ xs) = elim (cases_Bool (q x)) [
    | inl kept ↦ elim (cases_Bool (p x)) [
      | inl here ↦ absurd (let no : true ≡ false = sym kept ∙ goes x here in cc)
      | inr other ↦ rw (kept, other) (find_gone q goes xs)
    ]
    | inr gone ↦ rw gone (find_gone q goes xs)
  ]

  pub found_is : (x : X) (xs : List X) → find p xs ≡ Some x → p x ≡ true
  found_is x [] h = absurd (let no : None ≡ Some x = h in cc)
  found_is x (y ∷ ys) h = elim (cases_Bool (p y)) [
    | inl here ↦ let same : Some y ≡ Some x = sym (found_first p y ys here) ∙ h in let it : y ≡ x = cc in ap p (sym it) ∙ here
    | inr other ↦ found_is x ys (sym (found_later p y ys other) ∙ h)
  ]

  pub none_found : (xs : List X) → list_any p xs ≡ false → find p xs ≡ None
  none_found [] h = refl
  none_found (x ∷ xs) h = elim (cases_Bool (p x)) [
    | inl here ↦ absurd (let no : true ≡ false = sym (or_left (p x) (list_any p xs) here) ∙ h in cc)
    | inr other ↦ rw other (none_found xs (let rest : (p x || list_any p xs) ≡ false = h in rw other at rest))
  ]

  pub none_there : (xs : List X) → find p xs ≡ None → list_any p xs ≡ false
  none_there [] h = refl
  none_there (x ∷ xs) h = elim (cases_Bool (p x)) [
    | inl here ↦ absurd (let no : Some x ≡ None = sym (found_first p x xs here) ∙ h in cc)
    | inr other ↦ rw other (none_there xs (sym (found_later p x xs other) ∙ h))
  ]

-- rows with keys
module _ (key : Row → Row) where
  abbrev pub cmp : Row → Row → Ordering
  cmp a b = key_cmp (key a) (key b)

  abbrev pub has : Row → Row → Bool
  has k row = row_eq (key row) k

  -- the row with a key
  abbrev pub at : Row → List Row → Option Row
  at k rows = find (has k) rows

  is_key : (k x : Row) → has k x ≡ true → key x ≡ k
  is_key k x h = equal (key x) k h

  pub at_first : (x : Row) (xs : List Row) → at (key x) (x ∷ xs) ≡ Some x
  at_first x xs = found_first (has (key x)) x xs (itself (key x))

  -- no row below all of these is one of them
  none_above : (k : Row) (xs : List Row) → list_all (λ y. is_lt (key_cmp k (key y))) xs ≡ true → at k xs ≡ None
  none_above k [] h = refl
  none_above k (x ∷ xs) h =
      let parts = and_parts (is_lt (key_cmp k (key x))) (list_all (λ y. is_lt (key_cmp k (key y))) xs) h in
      elim (cases_Bool (has k x)) [
        | inl here ↦ absurd (let no : true ≡ false = sym parts.0 ∙ not_lt_itself k (key x) (sym (is_key k x here)) in cc)
        | inr other ↦ found_later (has k) x xs other ∙ none_above k xs parts.1
      ]

  lower : (a b : Row) (xs : List Row) → key_cmp a b ≡ Less → list_all (λ y. is_lt (key_cmp b (key y))) xs ≡ true → list_all (λ y. is_lt (key_cmp a (key y))) xs ≡ true
  lower a b [] l h = refl
  lower a b (x ∷ xs) l h =
      let parts = and_parts (is_lt (key_cmp b (key x))) (list_all (λ y. is_lt (key_cmp b (key y))) xs) h in
      let here : is_lt (key_cmp a (key x)) ≡ true = ap is_lt (key_cmp_total.trans a b (key x) l (less_is (key_cmp b (key x)) parts.0)) in
      rw here (lower a b xs l parts.1)

  -- Rows in order are determined by what stands at each key.
  pub alike : (xs ys : List Row) → rising cmp xs ≡ true → rising cmp ys ≡ true → ((k : Row) → at k xs ≡ at k ys) → xs ≡ ys
  alike [] [] r s same = refl
  alike [] (y ∷ ys) r s same = absurd (let no : None ≡ Some y = same (key y) ∙ at_first y ys in cc)
  alike (x ∷ xs) [] r s same = absurd (let no : Some x ≡ None = sym (at_first x xs) ∙ same (key x) in cc)
  alike (x ∷ xs) (y ∷ ys) r s same = by (key_cmp (key x) (key y)) refl (alike xs ys x_parts.1 y_parts.1)
    where
      x_parts : (list_all (λ other. is_lt (cmp x other)) xs ≡ true) × (rising cmp xs ≡ true)
      x_parts = and_parts (list_all (λ other. is_lt (cmp x other)) xs) (rising cmp xs) r

      y_parts : (list_all (λ other. is_lt (cmp y other)) ys ≡ true) × (rising cmp ys ≡ true)
      y_parts = and_parts (list_all (λ other. is_lt (cmp y other)) ys) (rising cmp ys) s

      x_there : at (key x) (y ∷ ys) ≡ Some x
      x_there = sym (same (key x)) ∙ at_first x xs

      y_there : at (key y) (x ∷ xs) ≡ Some y
      y_there = same (key y) ∙ at_first y ys

      by : (o : Ordering) → key_cmp (key x) (key y) ≡ o → (((k : Row) → at k xs ≡ at k ys) → xs ≡ ys) → x ∷ xs ≡ y ∷ ys
      by Less e rest =
          let first : is_lt (key_cmp (key x) (key y)) ≡ true = ap is_lt e in
          let all : list_all (λ z. is_lt (key_cmp (key x) (key z))) (y ∷ ys) ≡ true = rw first (lower (key x) (key y) ys e y_parts.0) in
          absurd (let no : None ≡ Some x = sym (none_above (key x) (y ∷ ys) all) ∙ x_there in cc)
      by Greater e rest =
          let back : key_cmp (key y) (key x) ≡ Less = key_cmp_total.antisymm (key y) (key x) ∙ ap ordering_reverse e in
          let first : is_lt (key_cmp (key y) (key x)) ≡ true = ap is_lt back in
          let all : list_all (λ z. is_lt (key_cmp (key y) (key z))) (x ∷ xs) ≡ true = rw first (lower (key y) (key x) xs back x_parts.0) in
          absurd (let no : None ≡ Some y = sym (none_above (key y) (x ∷ xs) all) ∙ y_there in cc)
      by Equal e rest = ap₂ (λ a b. a ∷ b) it (rest tails)
        where
          one_key : key x ≡ key y
          one_key = key_cmp_level (key x) (key y) e

          it : x ≡ y
          it =
              let is : has (key x) y ≡ true = ap (λ k. row_eq k (key x)) (sym one_key) ∙ itself (key x) in
              let found : Some y ≡ Some x = sym (found_first (has (key x)) y ys is) ∙ x_there in
              cc

          tails : (k : Row) → at k xs ≡ at k ys
          tails k = elim (cases_Bool (has k x)) [
            | inl here ↦
                let kx : key x ≡ k = is_key k x here in
                let none_x : at k xs ≡ None = ap (λ j. at j xs) (sym kx) ∙ none_above (key x) xs x_parts.0 in
                let none_y : at k ys ≡ None = ap (λ j. at j ys) (sym kx ∙ one_key) ∙ none_above (key y) ys y_parts.0 in
                none_x ∙ sym none_y
            | inr other ↦
                let other_y : has k y ≡ false = ap (λ j. row_eq j k) (sym one_key) ∙ other in
                sym (found_later (has k) x xs other) ∙ same k ∙ found_later (has k) y ys other_y
          ]

  abbrev pub between : Row → List Row → List Row
  between r xs = filter (λ other. is_lt (cmp other r)) xs ++ r ∷ filter (λ other. is_gt (cmp other r)) xs

  pub at_between : (k r : Row) (xs : List Row) → at k (between r xs) ≡ cond (row_eq (key r) k) (Some r) (at k xs)
  at_between k r xs = find-append (has k) (filter (λ other. is_lt (cmp other r)) xs) (r ∷ filter (λ other. is_gt (cmp other r)) xs) ∙ by (key_cmp k (key r)) refl
    where
      or_none : (o : Option Row) → option_or o None ≡ o
      or_none None = refl
      or_none (Some x) = refl

      by : (o : Ordering) → key_cmp k (key r) ≡ o → option_or (at k (filter (λ other. is_lt (cmp other r)) xs)) (at k (r ∷ filter (λ other. is_gt (cmp other r)) xs)) ≡ cond (row_eq (key r) k) (Some r) (at k xs)
      by Less e =
          let back : key_cmp (key r) k ≡ Greater = key_cmp_total.antisymm (key r) k ∙ ap ordering_reverse e in
          let other : row_eq (key r) k ≡ false = ap is_eq back in
          let first : at k (filter (λ other. is_lt (cmp other r)) xs) ≡ at k xs =
          find_kept (has k) (λ other. is_lt (cmp other r)) (λ x h. ap (λ j. is_lt (key_cmp j (key r))) (is_key k x h) ∙ ap is_lt e) xs in
          let rest : at k (filter (λ other. is_gt (cmp other r)) xs) ≡ None =
          find_gone (has k) (λ other. is_gt (cmp other r)) (λ x h. ap (λ j. is_gt (key_cmp j (key r))) (is_key k x h) ∙ ap is_gt e) xs in
          let last : at k (r ∷ filter (λ other. is_gt (cmp other r)) xs) ≡ None = found_later (has k) r (filter (λ other. is_gt (cmp other r)) xs) other ∙ rest in
          ap₂ option_or first last ∙ or_none (at k xs) ∙ sym (ap (λ b. cond b (Some r) (at k xs)) other)
      by Greater e =
          let back : key_cmp (key r) k ≡ Less = key_cmp_total.antisymm (key r) k ∙ ap ordering_reverse e in
          let other : row_eq (key r) k ≡ false = ap is_eq back in
          let first : at k (filter (λ other. is_lt (cmp other r)) xs) ≡ None =
          find_gone (has k) (λ other. is_lt (cmp other r)) (λ x h. ap (λ j. is_lt (key_cmp j (key r))) (is_key k x h) ∙ ap is_lt e) xs in
          let rest : at k (filter (λ other. is_gt (cmp other r)) xs) ≡ at k xs =
          find_kept (has k) (λ other. is_gt (cmp other r)) (λ x h. ap (λ j. is_gt (key_cmp j (key r))) (is_key k x h) ∙ ap is_gt e) xs in
          let last : at k (r ∷ filter (λ other. is_gt (cmp other r)) xs) ≡ at k xs = found_later (has k) r (filter (λ other. is_gt (cmp other r)) xs) other ∙ rest in
          ap₂ option_or first last ∙ sym (ap (λ b. cond b (Some r) (at k xs)) other)
      by Equal e =
          let one : k ≡ key r = key_cmp_level k (key r) e in
          let here : row_eq (key r) k ≡ true = ap (λ j. row_eq j k) (sym one) ∙ itself k in
          let first : at k (filter (λ other. is_lt (cmp other r)) xs) ≡ None =
          find_gone (has k) (λ other. is_lt (cmp other r)) (λ x h. not_lt_itself (key x) (key r) (is_key k x h ∙ one)) xs in
          let last : at k (r ∷ filter (λ other. is_gt (cmp other r)) xs) ≡ Some r = found_first (has k) r (filter (λ other. is_gt (cmp other r)) xs) here in
          ap₂ option_or first last ∙ sym (ap (λ b. cond b (Some r) (at k xs)) here)

  pub at_without : (k r : Row) (xs : List Row) → row_eq (key r) k ≡ false → at k (filter (λ row. not (row_eq row r)) xs) ≡ at k xs
  at_without k r xs other = find_kept (has k) (λ row. not (row_eq row r)) keeps xs
    where
      keeps : (x : Row) → has k x ≡ true → not (row_eq x r) ≡ true
      keeps x h = elim (cases_Bool (row_eq x r)) [
        | inl one ↦ absurd (let no : true ≡ false = sym h ∙ ap (λ y. has k y) (equal x r one) ∙ other in cc)
        | inr two ↦ ap not two
      ]

  -- where a row stands in order, it stands at its key
  pub stands_at : (r : Row) (xs : List Row) → rising cmp xs ≡ true → list_any (row_eq r) xs ≡ true → at (key r) xs ≡ Some r
  stands_at r [] h k = absurd (let no : false ≡ true = k in cc)
  stands_at r (x ∷ xs) h k = elim (cases_Bool (row_eq r x)) [
    | inl here ↦ let it : r ≡ x = equal r x here in ap (λ y. at (key y) (x ∷ xs)) it ∙ at_first x xs ∙ ap Some (sym it)
    | inr other ↦
        let parts = and_parts (list_all (λ y. is_lt (cmp x y)) xs) (rising cmp xs) h in
        let later : list_any (row_eq r) xs ≡ true = (let rest : (row_eq r x || list_any (row_eq r) xs) ≡ true = k in rw other at rest) in
        let above : is_lt (cmp x r) ≡ true = among r xs parts.0 later in
        let not_it : has (key r) x ≡ false = other_row (key x) (key r) Less (less_is (key_cmp (key x) (key r)) above) refl in
        found_later (has (key r)) x xs not_it ∙ stands_at r xs parts.1 later
  ]
    where
      among : (r : Row) (ys : List Row) → list_all (λ y. is_lt (cmp x y)) ys ≡ true → list_any (row_eq r) ys ≡ true → is_lt (cmp x r) ≡ true
      among r [] a b = absurd (let no : false ≡ true = b in cc)
      among r (y ∷ ys) a b = elim (cases_Bool (row_eq r y)) [
        | inl here ↦ ap (λ z. is_lt (cmp x z)) (equal r y here) ∙ (and_parts (is_lt (cmp x y)) (list_all (λ z. is_lt (cmp x z)) ys) a).0
        | inr other ↦ among r ys (and_parts (is_lt (cmp x y)) (list_all (λ z. is_lt (cmp x z)) ys) a).1 (let rest : (row_eq r y || list_any (row_eq r) ys) ≡ true = b in rw other at rest)
      ]

  pub at_stands : (k r : Row) (xs : List Row) → at k xs ≡ Some r → list_any (row_eq r) xs ≡ true
  at_stands k r [] h = absurd (let no : None ≡ Some r = h in cc)
  at_stands k r (x ∷ xs) h = elim (cases_Bool (has k x)) [
    | inl here ↦
        let found : Some x ≡ Some r = sym (found_first (has k) x xs here) ∙ h in
        let it : x ≡ r = cc in
        or_left (row_eq r x) (list_any (row_eq r) xs) (ap (row_eq r) it ∙ itself r)
    | inr other ↦ or_right (row_eq r x) (list_any (row_eq r) xs) (at_stands k r xs (sym (found_later (has k) x xs other) ∙ h))
  ]

  -- no row has the key of one that was taken out
  pub at_gone : (r : Row) (xs : List Row) → rising cmp xs ≡ true → list_any (row_eq r) xs ≡ true → at (key r) (filter (λ row. not (row_eq row r)) xs) ≡ None
  at_gone r [] h k = refl
  at_gone r (x ∷ xs) h k = elim (cases_Bool (row_eq r x)) [
    | inl here ↦
        let it : r ≡ x = equal r x here in
        let gone : row_eq x r ≡ true = ap (row_eq x) it ∙ itself x in
        let parts = and_parts (list_all (λ y. is_lt (cmp x y)) xs) (rising cmp xs) h in
        let none : at (key r) xs ≡ None = ap (λ y. at (key y) xs) it ∙ none_above (key x) xs parts.0 in
        let some_gone : (ys : List Row) → at (key r) ys ≡ None → at (key r) (filter (λ row. not (row_eq row r)) ys) ≡ None = none_left in
        rw gone (none_left xs none)
    | inr other ↦
        let parts = and_parts (list_all (λ y. is_lt (cmp x y)) xs) (rising cmp xs) h in
        let later : list_any (row_eq r) xs ≡ true = (let rest : (row_eq r x || list_any (row_eq r) xs) ≡ true = k in rw other at rest) in
        let there : at (key r) (x ∷ xs) ≡ Some r = stands_at r (x ∷ xs) h k in
        let kept : row_eq x r ≡ false = not_same x other in
        let not_it : has (key r) x ≡ false = not_first x other there in
        rw (kept, not_it) (at_gone r xs parts.1 later)
  ]
    where
      none_left : (ys : List Row) → at (key r) ys ≡ None → at (key r) (filter (λ row. not (row_eq row r)) ys) ≡ None
      none_left [] n = refl
      none_left (y ∷ ys) n = elim (cases_Bool (has (key r) y)) [
        | inl here ↦ absurd (let no : Some y ≡ None = sym (found_first (has (key r)) y ys here) ∙ n in cc)
        | inr other ↦
            let rest = none_left ys (sym (found_later (has (key r)) y ys other) ∙ n) in
            elim (cases_Bool (row_eq y r)) [
              | inl gone ↦ rw gone rest
              | inr kept ↦ rw (kept, other) rest
            ]
      ]

      not_same : (y : Row) → row_eq r y ≡ false → row_eq y r ≡ false
      not_same y other = elim (cases_Bool (row_eq y r)) [
        | inl one ↦ absurd (let no : true ≡ false = sym (itself r) ∙ ap (row_eq r) (sym (equal y r one)) ∙ other in cc)
        | inr two ↦ two
      ]

      not_first : (y : Row) → row_eq r y ≡ false → at (key r) (y ∷ xs) ≡ Some r → has (key r) y ≡ false
      not_first y other there = elim (cases_Bool (has (key r) y)) [
        | inl one ↦
            let found : Some y ≡ Some r = sym (found_first (has (key r)) y xs one) ∙ there in
            let it : y ≡ r = cc in
            absurd (let no : true ≡ false = sym (itself r) ∙ ap (row_eq r) (sym it) ∙ other in cc)
        | inr two ↦ two
      ]

  module _ (before after : Row) (one_key : key before ≡ key after) where
    abbrev pub changed : Row → Row
    changed row = if row_eq row before then after else row

    pub at_changed_other : (k : Row) (xs : List Row) → row_eq (key before) k ≡ false → at k (map changed xs) ≡ at k xs
    at_changed_other k [] other = refl
    at_changed_other k (x ∷ xs) other = elim (cases_Bool (row_eq x before)) [
      | inl here ↦
          let not_after : has k after ≡ false = ap (λ j. row_eq j k) (sym one_key) ∙ other in
          let not_x : has k x ≡ false = ap (λ y. has k y) (equal x before here) ∙ other in
          rw (here, not_after, not_x) (at_changed_other k xs other)
      | inr kept ↦ elim (cases_Bool (has k x)) [
        | inl is ↦ rw (kept, is) refl
        | inr isnt ↦ rw (kept, isnt) (at_changed_other k xs other)
      ]
    ]

    pub at_changed : (xs : List Row) → at (key before) xs ≡ Some before → at (key before) (map changed xs) ≡ Some after
    at_changed [] h = absurd (let no : None ≡ Some before = h in cc)
    at_changed (x ∷ xs) h = elim (cases_Bool (row_eq x before)) [
      | inl here ↦ let is_after : has (key before) after ≡ true = ap (λ j. row_eq j (key before)) (sym one_key) ∙ itself (key before) in rw (here, is_after) refl
      | inr kept ↦ elim (cases_Bool (has (key before) x)) [
        | inl is ↦
            let found : Some x ≡ Some before = sym (found_first (has (key before)) x xs is) ∙ h in
            let it : x ≡ before = cc in
            absurd (let no : true ≡ false = sym (itself before) ∙ ap (λ y. row_eq y before) (sym it) ∙ kept in cc)
        | inr isnt ↦ rw (kept, isnt) (at_changed xs (sym (found_later (has (key before)) x xs isnt) ∙ h))
      ]
    ]

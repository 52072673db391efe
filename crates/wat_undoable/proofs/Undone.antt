-- The changes of a connection, and of all, are undone one by one.
use Rattle.std.proofs.Common.{◌≡◌, ◌≢◌, ◌⊎◌, inl, inr, ⊎_elim, ℕ, zero, suc, ◌+◌, ◌-◌, ◌<◌, ◌≤◌, ◌==◌, ◌&&◌, ◌||◌, Bool, true, false, not, List, [], ◌∷◌, drop, length, slice_get, Option, Some, None, IsSome, refl, sym, ◌∙◌, ap, subst, arith, if◌then◌else◌}
use Rattle.std.specs.List.{list_all, list_any, AllByRecursion}
use Rattle.std.specs.Option.{option_and_then}
use Rattle.std.proofs.lemmas.Bool.{cases_Bool, cases_lt, eqb-true, and_parts}
use Rattle.wat_list.specs.Has.{Has}
use Rattle.wat_value.specs.declared.definition.TableDef.{TableDef}
use Rattle.wat_value.specs.declared.change.Change.{Change}
use Rattle.wat_value.specs.Changes.{changed_table}
use Rattle.wat_value.specs.Order.{key_eq}
use Rattle.wat_schema.specs.Catalog.{Catalog, def_at}
use Rattle.wat_schema.specs.Changes.{are_of_one_row, changed_key, have_one_key}
use Rattle.wat_schema.specs.Tables.{Tables, IsTables, catalog_of, row_at, apply_change, inverse}
use Rattle.wat_schema.proofs.TableLaws.{equal}
use Rattle.wat_replay.specs.State.{State, Lists, undo, undo_below, undone, connections, changes_row_of, are_apart}
use Rattle.wat_recover.specs.Listed.{IsLeastFrom}
use Rattle.wat_rows.specs.Rows.{Row, RowMap}
use Rattle.wat_files.specs.Formed.{CanUndo, state_of}
use Rattle.wat_undoable.specs.declared.trial.Trial.{Trial}
use Rattle.wat_undoable.specs.declared.trial.Undone.{Undone}
use Rattle.wat_undoable.specs.Trial.{undone_at, row_on, row_now, IsNew}
use Rattle.wat_undoable.specs.Undoing.{Tried, Claimed, Keeps, Clashes, Undid, UndidAll}

-- ---- one list

drop_at : (xs : List Change) (i : ℕ) (x : Change) → slice_get xs i ≡ Some x → drop i xs ≡ x ∷ drop (suc i) xs
drop_at [] i x is = absurd (let no : None ≡ Some x = is in cc)
drop_at (y ∷ xs) zero x is = let same : y ≡ x = cc in ap (λ (z : Change). z ∷ xs) same
drop_at (y ∷ xs) (suc i) x is = drop_at xs i x is

pub has_at : (xs : List Change) (i : ℕ) (x : Change) → slice_get xs i ≡ Some x → Has x xs
has_at [] i x is = absurd (let no : None ≡ Some x = is in cc)
has_at (y ∷ xs) zero x is = inl (let same : y ≡ x = cc in same)
has_at (y ∷ xs) (suc i) x is = inr (has_at xs i x is)

drop_all : (xs : List Change) → drop (length xs) xs ≡ []
drop_all [] = refl
drop_all (x ∷ xs) = drop_all xs

none_whole : (xs : List Change) (i : ℕ) (v : Tables) → undo (drop i xs) v ≡ None → undo xs v ≡ None
none_whole xs zero v is = is
none_whole [] (suc i) v is = is
none_whole (x ∷ xs) (suc i) v is = ap (option_and_then (apply_change (inverse x))) (none_whole xs i v is)

claimed_still : (schema : Catalog) (old new : Trial) (conn : ℕ) (changes : List Change) → Keeps schema old new → AllByRecursion (Claimed schema old conn) changes → AllByRecursion (Claimed schema new conn) changes
claimed_still schema old new conn [] keeps all = tt
claimed_still schema old new conn (x ∷ xs) keeps all = (keeps conn x all.0, claimed_still schema old new conn xs keeps all.1)

module _ (schema : Catalog) (rows : RowMap) (lists : Lists) (conn : ℕ) (v : Tables) where
  pub none_yet : (trial : Trial) (left : ℕ) → left ≡ length (lists conn) → Tried schema rows lists v trial → UndidAll schema rows lists conn (drop left (lists conn)) v trial trial
  none_yet trial left is tried =
      subst (λ (l : List Change). UndidAll schema rows lists conn l v trial trial) (sym (ap (λ n. drop n (lists conn)) is ∙ drop_all (lists conn)))
      (record { next = v; undone = refl; tried = tried; claimed = tt; keeps = λ other it claimed. claimed })

  pub one_more : (old mid new : Trial) (left : ℕ) (change : Change) → slice_get (lists conn) (left - 1) ≡ Some change → 0 < left → (all : UndidAll schema rows lists conn (drop left (lists conn)) v old mid)
      → Undid schema rows lists conn change all.next mid new → UndidAll schema rows lists conn (drop (left - 1) (lists conn)) v old new
  one_more old mid new left change at some all one =
      let next : suc (left - 1) ≡ left = omega (arith, some) in
      let list : drop (left - 1) (lists conn) ≡ change ∷ drop left (lists conn) = drop_at (lists conn) (left - 1) change at ∙ ap (λ n. change ∷ drop n (lists conn)) next in
      subst (λ (l : List Change). UndidAll schema rows lists conn l v old new) (sym list) (record {
        next = one.next;
        undone = ap (option_and_then (apply_change (inverse change))) all.undone ∙ one.made;
        tried = one.tried;
        claimed = (one.claimed, claimed_still schema mid new conn (drop left (lists conn)) one.keeps all.claimed);
        keeps = λ other it claimed. one.keeps other it (all.keeps other it claimed);
      })

  pub not_all : (old mid : Trial) (left : ℕ) (change : Change) → slice_get (lists conn) (left - 1) ≡ Some change → 0 < left → (all : UndidAll schema rows lists conn (drop left (lists conn)) v old mid)
      → (apply_change (inverse change) all.next ≡ None) ⊎ Clashes schema lists → (undo (lists conn) v ≡ None) ⊎ Clashes schema lists
  not_all old mid left change at some all (inl none) =
      let next : suc (left - 1) ≡ left = omega (arith, some) in
      let list : drop (left - 1) (lists conn) ≡ change ∷ drop left (lists conn) = drop_at (lists conn) (left - 1) change at ∙ ap (λ n. change ∷ drop n (lists conn)) next in
      inl (none_whole (lists conn) (left - 1) v (ap (λ (l : List Change). undo l v) list ∙ ap (option_and_then (apply_change (inverse change))) all.undone ∙ none))
  not_all old mid left change at some all (inr clash) = inr clash

-- ---- all lists

same_then : (o : Option Tables) → option_and_then (λ (v : Tables). Some v) o ≡ o
same_then None = refl
same_then (Some v) = refl

module _ (lists : Lists) (t : Tables) where
  skipped : (from many : ℕ) → ((other : ℕ) → from ≤ other → other < from + many → lists other ≡ []) → undo_below (from + many) lists t ≡ undo_below from lists t
  skipped from zero none = let e : from + 0 ≡ from = omega arith in ap (λ n. undo_below n lists t) e
  skipped from (suc many) none =
      let e : from + suc many ≡ suc (from + many) = omega arith in
      ap (λ n. undo_below n lists t) e ∙ ap (λ (l : List Change). option_and_then (undo l) (undo_below (from + many) lists t)) (none (from + many) (omega arith) (omega arith))
      ∙ same_then (undo_below (from + many) lists t) ∙ skipped from many (λ other least less. none other least (omega (arith, less)))

  pub skip_to : (from to : ℕ) → from ≤ to → ((other : ℕ) → from ≤ other → other < to → lists other ≡ []) → undo_below to lists t ≡ undo_below from lists t
  skip_to from to less none =
      let e : from + (to - from) ≡ to = omega (arith, less) in
      ap (λ n. undo_below n lists t) (sym e) ∙ skipped from (to - from) (λ other least below. none other least (omega (arith, below, less)))

  none_more : (from many : ℕ) → undo_below from lists t ≡ None → undo_below (from + many) lists t ≡ None
  none_more from zero none = let e : from + 0 ≡ from = omega arith in ap (λ n. undo_below n lists t) e ∙ none
  none_more from (suc many) none =
      let e : from + suc many ≡ suc (from + many) = omega arith in
      ap (λ n. undo_below n lists t) e ∙ ap (option_and_then (undo (lists (from + many)))) (none_more from many none)

  pub none_at_all : (n : ℕ) → n ≤ 65536 → undo_below n lists t ≡ None → undone (state_of t lists) ≡ None
  unfolding connections
  none_at_all n less none = let e : n + (65536 - n) ≡ 65536 = omega (arith, less) in ap (λ k. undo_below k lists t) (sym e) ∙ none_more n (65536 - n) none

  pub undone_to : (n : ℕ) → n ≤ 65536 → ((other : ℕ) → n ≤ other → lists other ≡ []) → undone (state_of t lists) ≡ undo_below n lists t
  unfolding connections
  undone_to n less none = skip_to n 65536 less (λ other least below. none other least)

-- ---- lists that are apart

module _ (schema : Catalog) (trial : Trial) (a b : ℕ) (others : a ≢ b) where
  keys_of_one : (x y : Change) (o : Option TableDef) → have_one_key o x y ≡ true → (def : TableDef) → o ≡ Some def → changed_key def x ≡ changed_key def y
  keys_of_one x y None one def is = absurd (let no : false ≡ true = one in cc)
  keys_of_one x y (Some d) one def is = let same : d ≡ def = cc in subst (λ (f : TableDef). changed_key f x ≡ changed_key f y) same (equal (changed_key d x) (changed_key d y) one)

  two_rows : (x y : Change) → Claimed schema trial a x → Claimed schema trial b y → are_of_one_row schema x y ≡ false
  two_rows x y mine its = ⊎_elim (λ (one : are_of_one_row schema x y ≡ true). absurd (others (same one))) (λ two. two) (cases_Bool (are_of_one_row schema x y))
    where
      same : are_of_one_row schema x y ≡ true → a ≡ b
      same one =
          let parts = and_parts (changed_table x == changed_table y) (have_one_key (def_at schema (changed_table x)) x y) one in
          let tables : changed_table x ≡ changed_table y = eqb-true (changed_table x) (changed_table y) parts.0 in
          let defs : its.def ≡ mine.def = (let e : Some its.def ≡ Some mine.def = sym its.stands ∙ ap (def_at schema) (sym tables) ∙ mine.stands in cc) in
          let keys : changed_key mine.def x ≡ changed_key its.def y = keys_of_one x y (def_at schema (changed_table x)) parts.1 mine.def mine.stands ∙ ap (λ (f : TableDef). changed_key f y) (sym defs) in
          let known : mine.undone ≡ its.undone = (let e : Some mine.undone ≡ Some its.undone = sym mine.at ∙ (λ i. undone_at trial (tables i) (keys i)) ∙ its.at in cc) in
          sym mine.own ∙ ap (λ (u : Undone). u.conn) known ∙ its.own

  none_of : (x : Change) (ys : List Change) → Claimed schema trial a x → AllByRecursion (Claimed schema trial b) ys → changes_row_of schema x ys ≡ false
  none_of x [] mine its = refl
  none_of x (y ∷ ys) mine its = ap (λ v. v || changes_row_of schema x ys) (two_rows x y mine its.0) ∙ none_of x ys mine its.1

  pub lists_apart : (xs ys : List Change) → AllByRecursion (Claimed schema trial a) xs → AllByRecursion (Claimed schema trial b) ys → are_apart schema xs ys ≡ true
  lists_apart [] ys mine its = refl
  lists_apart (x ∷ xs) ys mine its = ap (λ v. not v && are_apart schema xs ys) (none_of x ys mine.0 its) ∙ lists_apart xs ys mine.1 its

-- ---- so far

-- The lists of the connections below a number are undone.
pub record Sofar (schema : Catalog) (rows : RowMap) (lists : Lists) (t : Tables) (n : ℕ) (trial : Trial) : Type 0 where
  pub next : Tables
  pub undone : undo_below n lists t ≡ Some next
  pub tried : Tried schema rows lists next trial
  pub claimed : (conn : ℕ) → conn < n → AllByRecursion (Claimed schema trial conn) (lists conn)

module _ (schema : Catalog) (rows : RowMap) (lists : Lists) (t : Tables) where
  pub at_first : (trial : Trial) → IsNew trial → IsTables t → catalog_of t ≡ schema → ((table : ℕ) (key : Row) → rows table key ≡ row_at t table key) → Sofar schema rows lists t 0 trial
  at_first trial new ok is same = record {
    next = t;
    undone = refl;
    tried = record {
      placed = new.placed;
      tables = ok;
      is = is;
      at = λ table key. sym (same table key) ∙ sym (ap (λ (o : Option Undone). row_on o (rows table key)) (new.none table key));
      owned = λ table key x there. absurd (let no : None ≡ Some x = sym (new.none table key) ∙ there in cc);
    };
    claimed = λ conn less. absurd (omega (arith, less));
  }

  claims_to : (trial after : Trial) (from conn : ℕ) → Sofar schema rows lists t from trial → ((other : ℕ) → from ≤ other → other < conn → lists other ≡ []) → Keeps schema trial after
      → AllByRecursion (Claimed schema after conn) (lists conn) → (other : ℕ) → other < conn + 1 → AllByRecursion (Claimed schema after other) (lists other)
  claims_to trial after from conn so none keeps now other less = ⊎_elim
      (λ (before : other < from). claimed_still schema trial after other (lists other) keeps (so.claimed other before))
      (λ (least : from ≤ other). ⊎_elim
      (λ (below : other < conn). subst (AllByRecursion (Claimed schema after other)) (sym (none other least below)) tt)
      (λ (not_below : conn ≤ other). let same : conn ≡ other = omega (arith, less, not_below) in subst (λ (n : ℕ). AllByRecursion (Claimed schema after n) (lists n)) same now)
      (cases_lt other conn))
      (cases_lt other from)

  pub list_more : (trial after : Trial) (from conn : ℕ) (so : Sofar schema rows lists t from trial) → from ≤ conn → ((other : ℕ) → from ≤ other → other < conn → lists other ≡ []) → UndidAll schema rows lists conn (lists conn) so.next trial after
      → Sofar schema rows lists t (conn + 1) after
  list_more trial after from conn so least none all =
      let e : conn + 1 ≡ suc conn = omega arith in
      record {
        next = all.next;
        undone = ap (λ n. undo_below n lists t) e ∙ ap (option_and_then (undo (lists conn))) (skip_to lists t from conn least none ∙ so.undone) ∙ all.undone;
        tried = all.tried;
        claimed = claims_to trial after from conn so none all.keeps all.claimed;
      }

  pub cannot : (trial : Trial) (from conn : ℕ) (so : Sofar schema rows lists t from trial) → catalog_of t ≡ schema → from ≤ conn → conn < 65536 → ((other : ℕ) → from ≤ other → other < conn → lists other ≡ [])
      → (undo (lists conn) so.next ≡ None) ⊎ Clashes schema lists → CanUndo (state_of t lists) → ⊥
  cannot trial from conn so is least few none (inl not_undone) can =
      let e : conn + 1 ≡ suc conn = omega arith in
      let here : undo_below (conn + 1) lists t ≡ None = ap (λ n. undo_below n lists t) e ∙ ap (option_and_then (undo (lists conn))) (skip_to lists t from conn least none ∙ so.undone) ∙ not_undone in
      let no : false ≡ true = subst IsSome (none_at_all lists t (conn + 1) (omega (arith, few)) here) can.undoes in cc
  cannot trial from conn so is least few none (inr clash) can =
      let no : false ≡ true = sym clash.clash ∙ ap (λ (c : Catalog). are_apart c (lists clash.a) (lists clash.b)) (sym is) ∙ can.apart clash.a clash.b clash.others in cc

  claims_all : (trial : Trial) (from : ℕ) → Sofar schema rows lists t from trial → ((other : ℕ) → from ≤ other → lists other ≡ []) → (conn : ℕ) → AllByRecursion (Claimed schema trial conn) (lists conn)
  claims_all trial from so none conn = ⊎_elim
      (λ (below : conn < from). so.claimed conn below)
      (λ (least : from ≤ conn). subst (AllByRecursion (Claimed schema trial conn)) (sym (none conn least)) tt)
      (cases_lt conn from)

  pub can : (trial : Trial) (from : ℕ) (so : Sofar schema rows lists t from trial) → catalog_of t ≡ schema → from ≤ 65536 → ((other : ℕ) → from ≤ other → lists other ≡ []) → CanUndo (state_of t lists)
  can trial from so is few none = record {
    apart = λ a b others.
        ap (λ (c : Catalog). are_apart c (lists a) (lists b)) is ∙ lists_apart schema trial a b others (lists a) (lists b) (claims_all trial from so none a) (claims_all trial from so none b);
    undoes = subst IsSome (sym (undone_to lists t from few none ∙ so.undone)) refl;
  }

-- How a record is made step by step.
use Rattle.std.proofs.Common.{◌≡◌, ◌≢◌, ℕ, zero, suc, ◌+◌, ◌<◌, ◌≤◌, ◌^◌, ◌==◌, Bool, true, false, cond, List, [], ◌∷◌, ◌++◌, length, take, drop, Option, Some, None, is_some, if◌then◌else◌, refl, sym, ap, ◌∙◌, subst, arith, inl, inr, length-append}
use Rattle.std.specs.Option.{MatchOption, option_and_then}
use Rattle.std.proofs.lemmas.Bool.{eq-eqb, eqb-true, ne_eqb, cases_Bool, cases_eq, cases_lt}
use Rattle.std.proofs.lemmas.List.{take-append-drop, take-take, take_at, drop_at, drop-append-le, length-take-le, take_all, drop_all}
use Rattle.wat_value.specs.declared.change.Change.{Change}
use Rattle.wat_schema.specs.Tables.{Tables, apply_change, inverse}
use Rattle.wat_log_record.specs.declared.log_record.LogRecord.TheVariants.{Changed, UndoTo, Commit}
use Rattle.wat_replay.specs.State.{State, Lists, IsLawful, no_lists, with_list, undo, undo_below, undone, connections}
use Rattle.wat_replay.specs.Replay.{Allows, Applies}
use Rattle.wat_replay.proofs.Replaying.{can_undo, reached}
use Rattle.wat_recover.specs.Goes.{Popped}

-- a number of 16 bits is a connection's
pub known : (conn : ℕ) → conn < 2 ^ 16 → conn < connections
unfolding connections
known conn small = omega arith

-- ---- lists

with_here : (conn : ℕ) (list : List Change) (lists : Lists) → with_list conn list lists conn ≡ list
with_here conn list lists = ap (λ b. if b then list else lists conn) (eq-eqb conn conn refl)

with_same : (conn : ℕ) (lists : Lists) → with_list conn (lists conn) lists ≡ lists
with_same conn lists = λ i other. by other i
  where
    by : (other : ℕ) → with_list conn (lists conn) lists other ≡ lists other
    by other = elim (cases_Bool (conn == other)) [
      | inl here ↦ ap (λ b. if b then lists conn else lists other) here ∙ ap lists (eqb-true conn other here)
      | inr there ↦ ap (λ b. if b then lists conn else lists other) there
    ]

with_twice : (conn : ℕ) (list first : List Change) (lists : Lists) → with_list conn list (with_list conn first lists) ≡ with_list conn list lists
with_twice conn list first lists = λ i other. by other (conn == other) i
  where
    by : (other : ℕ) (b : Bool) → cond b list (cond b first (lists other)) ≡ cond b list (lists other)
    by other true = refl
    by other false = refl

-- ---- undoing, one change after another

undo_append : (xs ys : List Change) (t : Tables) → undo (xs ++ ys) t ≡ option_and_then (undo xs) (undo ys t)
undo_append [] ys t = sym (all (undo ys t))
  where
    all : (o : Option Tables) → option_and_then (undo []) o ≡ o
    all None = refl
    all (Some v) = refl
undo_append (x ∷ xs) ys t = ap (option_and_then (apply_change (inverse x))) (undo_append xs ys t) ∙ two (undo ys t)
  where
    two : (o : Option Tables) → option_and_then (apply_change (inverse x)) (option_and_then (undo xs) o) ≡ option_and_then (undo (x ∷ xs)) o
    two None = refl
    two (Some v) = refl

-- all changes stay
pub none_cut : (s : State) (conn : ℕ) → conn < connections → Applies (UndoTo conn (length (s.lists conn))) s s
none_cut s conn known = record {
  conn = known;
  allowed = omega arith;
  tables = ap (λ cs. undo cs s.tables) (drop_all (length (s.lists conn)) (s.lists conn) (omega arith));
  lists = sym (ap (λ l. with_list conn l s.lists) (take_all (length (s.lists conn)) (s.lists conn) (omega arith)) ∙ with_same conn s.lists);
}

parts_of_list : (n m : ℕ) (xs : List Change) → n ≤ m → m ≤ length xs → drop n (take m xs) ++ drop m xs ≡ drop n xs
parts_of_list n m xs less within =
    let len = length-take-le m xs within in
    sym (drop-append-le n (take m xs) (drop m xs) (omega arith)) ∙ ap (drop n) (take-append-drop m xs)

-- first some are undone, and then more
pub cut_further : (s mid next : State) (conn m n : ℕ) → n ≤ m → Applies (UndoTo conn m) s mid → Applies (UndoTo conn n) mid next → Applies (UndoTo conn n) s next
cut_further s mid next conn m n less a b =
    let here : mid.lists conn ≡ take m (s.lists conn) = ap (λ ls. ls conn) a.lists ∙ with_here conn (take m (s.lists conn)) s.lists in
    record {
      conn = a.conn;
      allowed = omega (arith, a.allowed);
      tables =
          ap (λ cs. undo cs s.tables) (sym (parts_of_list n m (s.lists conn) less a.allowed))
          ∙ undo_append (drop n (take m (s.lists conn))) (drop m (s.lists conn)) s.tables
          ∙ ap (option_and_then (undo (drop n (take m (s.lists conn))))) a.tables
          ∙ ap (λ cs. undo (drop n cs) mid.tables) (sym here) ∙ b.tables;
      lists = b.lists ∙ ap (λ cs. with_list conn (take n cs) mid.lists) here ∙ ap (λ cs. with_list conn cs mid.lists) (take-take n m (s.lists conn) less)
          ∙ ap (with_list conn (take n (s.lists conn))) a.lists ∙ with_twice conn (take n (s.lists conn)) (take m (s.lists conn)) s.lists;
    }

-- the last change is taken off, and its inverse made
pub record LastUndone (s : State) (conn n : ℕ) (change : Change) (lists : Lists) : Type 0 where
  pub to : Tables
  pub makes : apply_change (inverse change) s.tables ≡ Some to
  pub applies : Applies (UndoTo conn n) s (record { tables = to; lists = lists })

pub last_undone : (s : State) (conn n : ℕ) (change : Change) (lists : Lists) → IsLawful s → conn < connections → length (s.lists conn) ≡ n + 1 → Popped conn change s.lists lists → LastUndone s conn n change lists
last_undone s conn n change lists lawful known len p =
    let short : length p.rest ≡ n = omega (arith, len, ap length p.was, length-append p.rest (change ∷ [])) in
    let last : drop n (s.lists conn) ≡ change ∷ [] = ap (drop n) p.was ∙ drop_at p.rest (change ∷ []) n short in
    let front : take n (s.lists conn) ≡ p.rest = ap (take n) p.was ∙ take_at p.rest (change ∷ []) n short in
    let t = can_undo s conn n lawful known in
    record {
      to = t.0;
      makes = ap (λ cs. undo cs s.tables) (sym last) ∙ t.1;
      applies = record {
        conn = known;
        allowed = omega (arith, len);
        tables = t.1;
        lists = p.is ∙ ap (λ cs. with_list conn cs s.lists) (sym front);
      };
    }

-- ---- committing, one change after another

abbrev pub left : State → ℕ → ℕ → State
left s conn n = record { tables = s.tables; lists = with_list conn (take n (s.lists conn)) s.lists }

-- one more is taken off
pub one_less : (s : State) (conn n : ℕ) (change : Change) (lists : Lists) → suc n ≤ length (s.lists conn) → Popped conn change (left s conn (suc n)).lists lists → (record { tables = s.tables; lists = lists }) ≡ left s conn n
one_less s conn n change lists within p =
    let xs = s.lists conn in
    let here : take (suc n) xs ≡ p.rest ++ change ∷ [] = sym (with_here conn (take (suc n) xs) s.lists) ∙ p.was in
    let short : length p.rest ≡ n = omega (arith, length-take-le (suc n) xs within, ap length here, length-append p.rest (change ∷ [])) in
    let front : take n xs ≡ p.rest = sym (take-take n (suc n) xs (omega arith)) ∙ ap (take n) here ∙ take_at p.rest (change ∷ []) n short in
    let is : lists ≡ with_list conn (take n xs) s.lists =
    p.is ∙ with_twice conn p.rest (take (suc n) xs) s.lists ∙ ap (λ cs. with_list conn cs s.lists) (sym front) in
    λ i. record { tables = s.tables; lists = is i }

pub not_empty : (s : State) (conn n : ℕ) → suc n ≤ length (s.lists conn) → (left s conn (suc n)).lists conn ≡ [] → ⊥
not_empty s conn n within none =
    omega (arith, length-take-le (suc n) (s.lists conn) within, ap length (sym (with_here conn (take (suc n) (s.lists conn)) s.lists) ∙ none))

pub committed_so : (s : State) (conn : ℕ) → conn < connections → Applies (Commit conn) s (left s conn 0)
committed_so s conn known = record { conn = known; allowed = tt; tables = refl; lists = refl }

-- ---- rolling back

-- what is committed stays
pub same_undone : (s next : State) (conn : ℕ) (t : Tables) → IsLawful s → Applies (UndoTo conn 0) s next → undone s ≡ Some t → undone next ≡ Some t
same_undone s next conn t lawful a is = reached (UndoTo conn 0 ∷ []) s next t lawful (next, a, refl) is

none_undone : (n : ℕ) (lists : Lists) (t : Tables) → ((conn : ℕ) → lists conn ≡ []) → undo_below n lists t ≡ Some t
none_undone zero lists t none = refl
none_undone (suc n) lists t none = ap (option_and_then (undo (lists n))) (none_undone n lists t none) ∙ ap (λ xs. undo xs t) (none n)

-- where no list has a change, the tables are what undoing gives
pub closed : (s : State) (t : Tables) → ((conn : ℕ) → s.lists conn ≡ []) → undone s ≡ Some t → s ≡ record { tables = t; lists = no_lists }
closed s t none is =
    let same : s.tables ≡ t = (let e : Some s.tables ≡ Some t = sym (none_undone connections s.lists s.tables none) ∙ is in cc) in
    λ i. record { tables = same i; lists = λ conn. none conn i }

-- a list of another connection stays
pub other_list : (s next : State) (conn count other : ℕ) → other ≢ conn → Applies (UndoTo conn count) s next → next.lists other ≡ s.lists other
other_list s next conn count other not_it a =
    ap (λ ls. ls other) a.lists ∙ ap (λ b. if b then take count (s.lists conn) else s.lists other) (ne_eqb conn other (λ e. not_it (sym e)))

pub own_list : (s next : State) (conn : ℕ) → Applies (UndoTo conn 0) s next → next.lists conn ≡ []
own_list s next conn a = ap (λ ls. ls conn) a.lists ∙ with_here conn [] s.lists

-- ---- changing

pub some_from : (o : Option Tables) → is_some o ≡ true → (t : Tables) × (o ≡ Some t)
some_from None none = absurd (let no : false ≡ true = none in cc)
some_from (Some t) some = (t, refl)

pub changed_so : (s : State) (conn : ℕ) (change : Change) (t : Tables) → conn < connections → Allows s (Changed conn change) → apply_change change s.tables ≡ Some t
    → Applies (Changed conn change) s (record { tables = t; lists = with_list conn (s.lists conn ++ change ∷ []) s.lists })
changed_so s conn change t known allowed made = record { conn = known; allowed = allowed; tables = made; lists = refl }

-- how many changes are left
pub left_length : (s mid : State) (conn n : ℕ) → Applies (UndoTo conn n) s mid → length (mid.lists conn) ≡ n
left_length s mid conn n a =
    ap length (ap (λ ls. ls conn) a.lists ∙ with_here conn (take n (s.lists conn)) s.lists) ∙ length-take-le n (s.lists conn) a.allowed

pub popped_left : (stands : State → Type 0) (s : State) (conn n : ℕ) (o : Option Change) → suc n ≤ length (s.lists conn)
    → MatchOption o (((left s conn (suc n)).lists conn ≡ []) × stands (left s conn (suc n))) (λ change. (lists : Lists) × Popped conn change (left s conn (suc n)).lists lists × stands (record { tables = s.tables; lists = lists }))
    → stands (left s conn n)
popped_left stands s conn n None within m = absurd (not_empty s conn n within m.0)
popped_left stands s conn n (Some change) within m = subst stands (one_less s conn n change m.0 within m.1) m.2

-- the lists of the connections up to the one that was rolled back are empty
pub closed_more : (mid next : State) (from conn : ℕ) → Applies (UndoTo conn 0) mid next → ((other : ℕ) → other < from → mid.lists other ≡ []) → ((other : ℕ) → from ≤ other → other < conn → mid.lists other ≡ [])
    → (other : ℕ) → other < conn + 1 → next.lists other ≡ []
closed_more mid next from conn a front back other less = elim (cases_eq other conn) [
  | inl same ↦ ap next.lists same ∙ own_list mid next conn a
  | inr apart ↦ other_list mid next conn 0 other apart a ∙ elim (cases_lt other from) [ inl before ↦ front other before | inr behind ↦ back other behind (omega arith) ]
]

pub all_closed : (mid : State) (from : ℕ) → ((other : ℕ) → other < from → mid.lists other ≡ []) → ((other : ℕ) → from ≤ other → mid.lists other ≡ []) → (other : ℕ) → mid.lists other ≡ []
all_closed mid from front back other = elim (cases_lt other from) [ inl before ↦ front other before | inr behind ↦ back other behind ]

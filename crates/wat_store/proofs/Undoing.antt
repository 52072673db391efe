-- How changes are undone on the objects, one after another.
use Rattle.std.proofs.Common.{◌≡◌, ◌≢◌, ℕ, suc, ◌+◌, ◌≤◌, ◌<◌, length, List, [], ◌∷◌, ◌++◌, take, Option, Some, None, refl, sym, ap, ◌∙◌, subst, arith, inl, inr}
use Rattle.std.specs.Option.{MatchOption}
use Rattle.std.proofs.lemmas.List.{take_all}
use Rattle.std.proofs.lemmas.Bool.{cases_Bool, eqb-true}
use Rattle.std.specs.Prelude.{◌==◌, true, false, if◌then◌else◌}
use Rattle.wat_disk.specs.Disk.{Told}
use Rattle.wat_book.specs.Book.{Book}
use Rattle.wat_pages.specs.declared.pages.Pages.{Pages}
use Rattle.wat_pages.specs.Pages.{book_of, IsPagesOf}
use Rattle.wat_value.specs.declared.change.Change.{Change}
use Rattle.wat_schema.specs.Tables.{Tables, apply_change, inverse}
use Rattle.wat_log_record.specs.declared.log_record.LogRecord.TheVariants.{UndoTo}
use Rattle.wat_replay.specs.State.{State, Lists, IsLawful, with_list, connections}
use Rattle.wat_replay.specs.Replay.{Applies}
use Rattle.wat_recover.specs.Goes.{Popped}
use Rattle.wat_recover.proofs.Stepping.{left, LastUndone, last_undone}
use Rattle.wat_objects.specs.declared.objects.Objects.{Objects}
use Rattle.wat_objects.specs.Objects.{pages_of, Holds, HoldsOn}

-- all changes of the connection stand
pub all_left : (s : State) (conn n : ℕ) → n ≡ length (s.lists conn) → s ≡ left s conn n
all_left s conn n all = λ i. record { tables = s.tables; lists = λ other. by other i }
  where
    here : take n (s.lists conn) ≡ s.lists conn
    here = take_all n (s.lists conn) (omega (arith, all))

    by : (other : ℕ) → s.lists other ≡ with_list conn (take n (s.lists conn)) s.lists other
    by other = elim (cases_Bool (conn == other)) [
      | inl same ↦ sym (ap (λ b. if b then take n (s.lists conn) else s.lists other) same ∙ here ∙ ap s.lists (eqb-true conn other same))
      | inr apart ↦ sym (ap (λ b. if b then take n (s.lists conn) else s.lists other) apart)
    ]

abbrev pub PoppedOn : Objects → Objects → ℕ → Option Change → Type 0
PoppedOn objects after conn popped = (book : Book) (s : State) → HoldsOn book objects s
    → MatchOption popped ((s.lists conn ≡ []) × HoldsOn book after s) (λ change. (lists : Lists) × Popped conn change s.lists lists × HoldsOn book after (record { tables = s.tables; lists = lists }))

-- a change was taken off the connection's list
pub record Taken (told : Told) (after : Objects) (conn n : ℕ) (change : Change) (s : State) : Type 0 where
  pub lists : Lists
  pub last : LastUndone s conn n change lists
  pub holds : Holds told after (record { tables = s.tables; lists = lists })

pub taken : (told : Told) (objects after : Objects) (conn n : ℕ) (popped : Option Change) (change : Change) (s : State) → PoppedOn objects after conn popped → pages_of after ≡ pages_of objects → popped ≡ Some change → conn < connections
    → Holds told objects s → IsLawful s → length (s.lists conn) ≡ n + 1 → Taken told after conn n change s
taken told objects after conn n popped change s on pages is known holds lawful len =
    let book = book_of told (pages_of objects) in
    let p = subst (λ (o : Option Change). MatchOption o ((s.lists conn ≡ []) × HoldsOn book after s) (λ change. (lists : Lists) × Popped conn change s.lists lists × HoldsOn book after (record { tables = s.tables; lists = lists }))) is (on book s holds.on) in
    record {
      lists = p.0;
      last = last_undone s conn n change p.0 lawful known len p.1;
      holds = record {
        known = subst (λ (x : Pages). IsPagesOf told x) (sym pages) holds.known;
        on = subst (λ (x : Pages). HoldsOn (book_of told x) after (record { tables = s.tables; lists = p.0 })) (sym pages) p.2;
      };
    }

pub held_after : (told : Told) (objects after : Objects) (conn : ℕ) (popped : Option Change) (change : Change) (s : State) → PoppedOn objects after conn popped → pages_of after ≡ pages_of objects → popped ≡ Some change → Holds told objects s
    → (lists : Lists) × Holds told after (record { tables = s.tables; lists = lists })
held_after told objects after conn popped change s on pages is holds =
    let book = book_of told (pages_of objects) in
    let p = subst (λ (o : Option Change). MatchOption o ((s.lists conn ≡ []) × HoldsOn book after s) (λ change. (lists : Lists) × Popped conn change s.lists lists × HoldsOn book after (record { tables = s.tables; lists = lists }))) is (on book s holds.on) in (
      p.0,
      record {
        known = subst (λ (x : Pages). IsPagesOf told x) (sym pages) holds.known;
        on = subst (λ (x : Pages). HoldsOn (book_of told x) after (record { tables = s.tables; lists = p.0 })) (sym pages) p.2;
      },
    )

none_there : (xs : List Change) (n : ℕ) → xs ≡ [] → length xs ≡ n + 1 → ⊥
none_there xs n none len = omega (arith, len, ap length none)

pub taken_none : (told : Told) (objects after : Objects) (conn n : ℕ) (popped : Option Change) (s : State) → PoppedOn objects after conn popped → popped ≡ None → Holds told objects s → length (s.lists conn) ≡ n + 1 → ⊥
taken_none told objects after conn n popped s on is holds len =
    let book = book_of told (pages_of objects) in
    let p = subst (λ (o : Option Change). MatchOption o ((s.lists conn ≡ []) × HoldsOn book after s) (λ change. (lists : Lists) × Popped conn change s.lists lists × HoldsOn book after (record { tables = s.tables; lists = lists }))) is (on book s holds.on) in
    none_there (s.lists conn) n p.0 len

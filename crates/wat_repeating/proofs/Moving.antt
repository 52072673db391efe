-- One call on the pages behind another.
use Rattle.std.proofs.Common.{◌↔◌, Bool, true, false, List, [], ◌≡◌, ℕ, ◌≤◌, Option, Some, None, Result, Ok, Err, refl, sym, ap, ◌∙◌, subst, arith}
use Rattle.std.specs.Prelude.{MatchOption, OnOk}
use Rattle.wat_faults.specs.Faults.{HasCause, Rose}
use Rattle.wat_disk.specs.Disk.{EachStop, SameFiles}
use Rattle.wat_disk.specs.declared.disk.Disk.{Ghosts}
use Rattle.wat_restore.specs.Safe.{IsSafe}
use Rattle.wat_images.specs.declared.refusal.PageRefusal.{PageRefusal}
use Rattle.wat_images.specs.declared.refusal.PageRefusal.TheVariants.{DiskFault, Damaged, PageLimit, Memory}
use Rattle.wat_images.specs.Refusal.{IfDamaged, IfPageLimit}
use Rattle.wat_images.proofs.Writing.{if_damaged}
use Rattle.wat_files.specs.Formed.{AppliesBody}
use Rattle.wat_pages.specs.declared.pages.Pages.{Pages}
use Rattle.wat_pages.specs.Pages.{stored_of, IsPagesOf, book_of}
use Rattle.wat_pages.proofs.Changed.{reads_cover, reads_safe, page_same}
use Rattle.wat_value.specs.declared.change.Change.{Change}
use Rattle.wat_cells.specs.Going.{Goes, Keeps}
use Rattle.wat_cells.proofs.Then.{goes_nowhere, limit_to}
use Rattle.wat_log_record.specs.declared.log_record.LogRecord.{LogRecord}
use Rattle.wat_recover.specs.Goes.{Answers, Popped, Went}
use Rattle.wat_recover.specs.declared.target.TargetError.{TargetError}
use Rattle.wat_recover.specs.declared.target.TargetError.TheVariants.{Failed}
use Rattle.wat_replay.specs.State.{State, Lists}
use Rattle.wat_objects.specs.declared.objects.Objects.{Objects}
use Rattle.wat_objects.specs.Objects.{pages_of, Holds, HoldsOn}
use Rattle.wat_objects.proofs.Holding.{holds_same}
use Rattle.wat_repeating.specs.declared.on_pages.OnPages.{OnPages}
use Rattle.wat_repeating.specs.OnPages.{Stands, Moves, IsFull}
use Rattle.wat_repeating.specs.Repeated.{StopsThere}
use Rattle.wat_repeating.specs.MoveProofs.{not_both}

module _ {D : Type 0} {g : Ghosts D} where
  -- ---- one call

  -- a call of the objects that went well
  pub moves_by : (x y : OnPages D g) → (g.tells_content → Goes (g.told x.disk) (g.told y.disk) (pages_of x.objects) (pages_of y.objects)) → (g.tells_content → Keeps (g.told x.disk) (g.told y.disk) (pages_of y.objects)) → x.refused ≡ None → y.refused ≡ None
      → (g.told x.disk).faults ≤ (g.told y.disk).faults → Moves x y
  moves_by x y goes keeps none fine later = record {
    goes = goes;
    safe = λ tells ok saved safe. (keeps tells).safe saved safe;
    rests = λ refusal is. absurd (not_both none is);
    later = later;
    fault = λ was is. absurd (not_both fine is);
    limited = λ refusal was is. absurd (not_both fine is);
  }

  -- one that was refused
  pub moves_refused : (x y : OnPages D g) (r : PageRefusal) → (g.tells_content → Goes (g.told x.disk) (g.told y.disk) (pages_of x.objects) (pages_of y.objects)) → x.refused ≡ None → y.refused ≡ Some r
      → (r ≡ DiskFault → Rose (g.told x.disk).faults (g.told y.disk).faults) → (g.told x.disk).faults ≤ (g.told y.disk).faults → IfPageLimit r IsFull → Moves x y
  moves_refused x y r goes none some rose later full = record {
    goes = goes;
    safe = λ tells ok saved safe. absurd (not_both ok some);
    rests = λ refusal is. absurd (not_both none is);
    later = later;
    fault = λ was is. rose (let e : Some r ≡ Some DiskFault = sym some ∙ is in cc);
    limited = λ refusal was is. let same : r ≡ refusal = (let e : Some r ≡ Some refusal = sym some ∙ is in cc) in subst (λ (q : PageRefusal). IfPageLimit q IsFull) same full;
  }

  -- one that works in memory alone
  pub moves_beside : (x y : OnPages D g) → y.disk ≡ x.disk → pages_of y.objects ≡ pages_of x.objects → y.refused ≡ x.refused → Moves x y
  moves_beside x y disk pages refused = record {
    goes = λ tells. subst (λ (p : Pages). Goes (g.told x.disk) (g.told y.disk) (pages_of x.objects) p) (sym pages)
        (subst (λ (d : D). Goes (g.told x.disk) (g.told d) (pages_of x.objects) (pages_of x.objects)) (sym disk) (goes_nowhere (g.told x.disk) (pages_of x.objects)));
    safe = λ tells ok saved safe. subst (λ (d : D). IsSafe saved (g.told d)) (sym disk) safe;
    rests = λ refusal is. (disk, refused ∙ is);
    later = subst (λ (d : D). (g.told x.disk).faults ≤ (g.told d).faults) (sym disk) (omega arith);
    fault = λ was is. absurd (not_both was (sym refused ∙ is));
    limited = λ refusal was is. absurd (not_both was (sym refused ∙ is));
  }

  -- the log is read
  pub moves_reading : (x y : OnPages D g) → SameFiles (g.told x.disk).content (g.told y.disk).content → EachStop (g.told x.disk) (g.told y.disk) SameFiles → y.objects ≡ x.objects → y.refused ≡ x.refused → x.refused ≡ None
      → (g.told x.disk).faults ≤ (g.told y.disk).faults → Moves x y
  moves_reading x y same stops objects refused none later = record {
    goes = λ tells. subst (λ (o : Objects). Goes (g.told x.disk) (g.told y.disk) (pages_of x.objects) (pages_of o)) (sym objects)
        (record { others = λ file from. same file; limit = refl; stored = refl; header = refl; stops = λ saved safe. reads_cover saved (g.told x.disk) (g.told y.disk) safe stops });
    safe = λ tells ok saved safe. reads_safe saved (g.told x.disk) (g.told y.disk) safe same stops;
    rests = λ refusal is. absurd (not_both none is);
    later = later;
    fault = λ was is. absurd (not_both none (sym refused ∙ is));
    limited = λ refusal was is. absurd (not_both none (sym refused ∙ is));
  }

  -- ---- what stands

  pub stands_by : (x y : OnPages D g) (s next : State) → Stands x s → Goes (g.told x.disk) (g.told y.disk) (pages_of x.objects) (pages_of y.objects) → Keeps (g.told x.disk) (g.told y.disk) (pages_of y.objects) → y.refused ≡ None
      → Holds (g.told y.disk) y.objects next → Stands y next
  stands_by x y s next is goes keeps fine holds = record {
    tells = is.tells;
    going = fine;
    holds = holds;
    saved = is.saved;
    safe = keeps.safe is.saved is.safe;
    counted = is.counted ∙ sym goes.stored;
  }

  -- ---- a fault is told

  pub went_by : (x y : OnPages D g) (P Q : Type 0) → Moves x y → HasCause (g.told x.disk).faults (g.told y.disk).faults P → (P → Q) → (Q → P) → Went Moves (λ (v : OnPages D g). (g.told v.disk).faults) x y Q
  went_by x y P Q moves cause to from = record {
    beside = moves;
    cause = record { later = cause.later; rose = λ q. cause.rose (from q); kept = λ none. cause.kept (λ p. none (to p)) };
  }

-- ---- what a call answers

abbrev err : {B : Type 0} → PageRefusal → Result B PageRefusal
err p = Err p

same_refusal : {B : Type 0} (p q : PageRefusal) → err {B = B} p ≡ err {B = B} q → p ≡ q
same_refusal {B} p q is = let e : err {B = B} p ≡ err {B = B} q = is in cc

pub cause_as : (a b : ℕ) (P Q : Type 0) → (P → Q) → (Q → P) → HasCause a b P → HasCause a b Q
cause_as a b P Q to from cause = record { later = cause.later; rose = λ q. cause.rose (from q); kept = λ none. cause.kept (λ p. none (to p)) }

error_of : {A : Type 0} (r : Result A TargetError) (e : TargetError) → r ≡ Err e → r ≡ Err Failed → e ≡ Failed
error_of r e is failed = let both : Err e ≡ Err Failed = sym is ∙ failed in cc

-- the call failed, and so does this one
pub cause_err : {A B : Type 0} (a b : ℕ) (r : Result A TargetError) (e : TargetError) (p : PageRefusal) → r ≡ Err e → ((p ≡ DiskFault) ↔ (e ≡ Failed)) → HasCause a b (r ≡ Err Failed) → HasCause a b (err {B = B} p ≡ err {B = B} DiskFault)
cause_err {A} {B} a b r e p is fault = cause_as a b (r ≡ Err Failed) (err {B = B} p ≡ err {B = B} DiskFault)
    (λ failed. ap (err {B = B}) (fault.1 (error_of r e is failed)))
    (λ told. is ∙ ap (λ (x : TargetError). Err x) (fault.0 (same_refusal {B = B} p DiskFault told)))

-- the call went well, and this one too
pub cause_ok : {A B : Type 0} (a b : ℕ) (r : Result A TargetError) (x : A) (y : B) → r ≡ Ok x → HasCause a b (r ≡ Err Failed) → (q : Result B PageRefusal) → q ≡ Ok y → HasCause a b (q ≡ Err DiskFault)
cause_ok {A} {B} a b r x y is cause q ok = cause_as a b (r ≡ Err Failed) (q ≡ Err DiskFault)
    (λ failed. absurd (let no : Ok x ≡ Err Failed = sym is ∙ failed in cc))
    (λ told. absurd (let no : Ok y ≡ Err DiskFault = sym ok ∙ told in cc)) cause

-- the call went well, but a refusal was met in it
pub cause_met : {D A B : Type 0} {g : Ghosts D} (x y : OnPages D g) (r : Result A TargetError) (a : A) (p : PageRefusal) → r ≡ Ok a → x.refused ≡ None → y.refused ≡ Some p → Moves x y → HasCause (g.told x.disk).faults (g.told y.disk).faults (r ≡ Err Failed)
    → HasCause (g.told x.disk).faults (g.told y.disk).faults (err {B = B} p ≡ err {B = B} DiskFault)
cause_met {D} {A} {B} {g} x y r a p is none some moves cause = record {
  later = cause.later;
  rose = λ told. moves.fault none (some ∙ ap (λ (q : PageRefusal). Some q) (same_refusal {B = B} p DiskFault told));
  kept = λ fine. cause.kept (λ failed. let no : Ok a ≡ Err Failed = sym is ∙ failed in cc);
}

-- a call behind one that hasn't failed
pub cause_then : (a b c : ℕ) (P : Type 0) → HasCause a b ⊥ → HasCause b c P → HasCause a c P
cause_then a b c P first next = subst (λ (n : ℕ). HasCause n c P) (first.kept (λ x. x)) next

pub cause_still : (a : ℕ) → HasCause a a ⊥
cause_still a = record { later = omega arith; rose = λ p. absurd p; kept = λ none. refl }

pub cause_fine : (a b : ℕ) (P : Type 0) → (P → ⊥) → HasCause a b P → HasCause a b ⊥
cause_fine a b P fine cause = cause_as a b P ⊥ fine (λ no. absurd no) cause

-- what stands is not refused
pub none_met : {D : Type 0} {g : Ghosts D} (y : OnPages D g) (entry : LogRecord) (s : State) (b : Bool) (p : PageRefusal) → Answers (λ (v : State). Stands y v) entry s b → y.refused ≡ Some p → ⊥
none_met y entry s true p answer some = not_both answer.2.going some
none_met y entry s false p answer some = not_both answer.1.going some

-- ---- calls in memory

module _ {D : Type 0} {g : Ghosts D} where
  pub stands_beside : (x y : OnPages D g) (s next : State) → Stands x s → y.disk ≡ x.disk → pages_of y.objects ≡ pages_of x.objects → y.refused ≡ x.refused → HoldsOn (book_of (g.told x.disk) (pages_of x.objects)) y.objects next → Stands y next
  stands_beside x y s next is disk pages refused on = record {
    tells = is.tells;
    going = refused ∙ is.going;
    holds = record {
      known = subst (λ (d : D). IsPagesOf (g.told d) (pages_of y.objects)) (sym disk) (subst (λ (p : Pages). IsPagesOf (g.told x.disk) p) (sym pages) is.holds.known);
      on = subst (λ (d : D). HoldsOn (book_of (g.told d) (pages_of y.objects)) y.objects next) (sym disk)
          (subst (λ (p : Pages). HoldsOn (book_of (g.told x.disk) p) y.objects next) (sym pages) on);
    };
    saved = is.saved;
    safe = subst (λ (d : D). IsSafe is.saved (g.told d)) (sym disk) is.safe;
    counted = is.counted ∙ sym (ap stored_of pages);
  }

  pub popped_on : (x y : OnPages D g) (conn : ℕ) (s : State) (o : Option Change) → Stands x s → y.disk ≡ x.disk → pages_of y.objects ≡ pages_of x.objects → y.refused ≡ x.refused
      → MatchOption o ((s.lists conn ≡ []) × HoldsOn (book_of (g.told x.disk) (pages_of x.objects)) y.objects s)
      (λ change. (lists : Lists) × Popped conn change s.lists lists × HoldsOn (book_of (g.told x.disk) (pages_of x.objects)) y.objects (record { tables = s.tables; lists = lists }))
      → MatchOption o ((s.lists conn ≡ []) × Stands y s) (λ change. (lists : Lists) × Popped conn change s.lists lists × Stands y (record { tables = s.tables; lists = lists }))
  popped_on x y conn s None is disk pages refused m = (m.0, stands_beside x y s s is disk pages refused m.1)
  popped_on x y conn s (Some change) is disk pages refused m = (m.0, m.1, stands_beside x y s (record { tables = s.tables; lists = m.0 }) is disk pages refused m.2)

  -- the log is read, and what stands stands
  pub stands_reading : (x y : OnPages D g) (s : State) → Stands x s → SameFiles (g.told x.disk).content (g.told y.disk).content → EachStop (g.told x.disk) (g.told y.disk) SameFiles → y.objects ≡ x.objects → y.refused ≡ x.refused → Stands y s
  stands_reading x y s is same stops objects refused = record {
    tells = is.tells;
    going = refused ∙ is.going;
    holds = subst (λ (o : Objects). Holds (g.told y.disk) o s) (sym objects) (record {
      known = subst (λ (o : Objects). IsPagesOf (g.told y.disk) (pages_of o)) objects (y.known is.tells (refused ∙ is.going));
      on = holds_same (book_of (g.told x.disk) (pages_of x.objects)) (book_of (g.told y.disk) (pages_of x.objects)) x.objects x.objects s is.holds.on
          (record { pages = λ page below. page_same (g.told x.disk) (g.told y.disk) (pages_of x.objects) (pages_of x.objects) same refl page; count = refl; first = refl })
          (record { schema = refl; catalog = refl; undo = refl; header = refl }) refl;
    });
    saved = is.saved;
    safe = reads_safe is.saved (g.told x.disk) (g.told y.disk) is.safe same stops;
    counted = is.counted ∙ sym (ap (λ (o : Objects). stored_of (pages_of o)) objects);
  }

-- ---- a call of the objects that went well

abbrev okt : {B : Type 0} → B → Result B TargetError
okt b = Ok b

abbrev errt : {B : Type 0} → TargetError → Result B TargetError
errt e = Err e

pub went_ok : {D A B : Type 0} {g : Ghosts D} (x y : OnPages D g) (r : Result A PageRefusal) (a : A) (b : B) → r ≡ Ok a → Moves x y → HasCause (g.told x.disk).faults (g.told y.disk).faults (r ≡ Err DiskFault)
    → Went Moves (λ (v : OnPages D g). (g.told v.disk).faults) x y (okt {B = B} b ≡ errt {B = B} Failed)
went_ok {D} {A} {B} {g} x y r a b is moves cause = went_by x y (r ≡ Err DiskFault) (okt {B = B} b ≡ errt {B = B} Failed) moves cause
    (λ fault. absurd (let no : Ok a ≡ Err DiskFault = sym is ∙ fault in cc))
    (λ failed. absurd (let no : okt {B = B} b ≡ errt {B = B} Failed = failed in cc))

-- no damage was met
pub no_damage : {A : Type 0} (r : Result A TargetError) (P Q : Type 0) → OnOk r (P → ⊥) → P → OnOk r Q
no_damage (Ok x) P Q never is = absurd (never is)
no_damage (Err e) P Q never is = tt

ok_not : {A : Type 0} (r : Result A PageRefusal) (x : A) → r ≡ Ok x → r ≡ Err DiskFault → ⊥
ok_not r x is fault = let no : Ok x ≡ Err DiskFault = sym is ∙ fault in cc

-- one more call that went well
pub cause_next : {A : Type 0} (a b c : ℕ) (r : Result A PageRefusal) (x : A) → HasCause a b ⊥ → r ≡ Ok x → HasCause b c (r ≡ Err DiskFault) → HasCause a c ⊥
cause_next a b c r x first is next = cause_then a b c ⊥ first (cause_fine b c (r ≡ Err DiskFault) (ok_not r x is) next)

-- where it stops
pub stops_there : (refusal : PageRefusal) (here : ℕ) (body : List ℕ) (s : State) → ((next : State) → AppliesBody body s next → ⊥) → IfDamaged refusal (λ file place. (file ≡ 2) × (place ≡ here)) → IfDamaged refusal (StopsThere here body s)
stops_there refusal here body s none = if_damaged refusal (λ file place. (file ≡ 2) × (place ≡ here)) (StopsThere here body s) (λ file place is. record { in_log = is.0; place = is.1; none = none })

pub not_damaged : (refusal : PageRefusal) (P : ℕ → ℕ → Type 0) → IfDamaged refusal (λ file at. ⊥) → IfDamaged refusal P
not_damaged refusal P = if_damaged refusal (λ file at. ⊥) P (λ file at no. absurd no)

pub of_frame : (refusal : PageRefusal) (here : ℕ) (body : List ℕ) (s : State) (P : ℕ → ℕ → Type 0) → ((file at : ℕ) → StopsThere here body s file at → P file at) → IfDamaged refusal (StopsThere here body s) → IfDamaged refusal P
of_frame refusal here body s P says = if_damaged refusal (StopsThere here body s) P says

-- ---- a call that was refused

err_same : {A : Type 0} (r : Result A PageRefusal) (p q : PageRefusal) → r ≡ Err p → r ≡ Err q → p ≡ q
err_same r p q is also = let e : Err p ≡ Err q = sym is ∙ also in cc

pub went_err : {D A : Type 0} {g : Ghosts D} (x y : OnPages D g) (r : Result A PageRefusal) (p : PageRefusal) (F : Type 0) → r ≡ Err p → (F ↔ (p ≡ DiskFault)) → (g.tells_content → Goes (g.told x.disk) (g.told y.disk) (pages_of x.objects) (pages_of y.objects))
    → x.refused ≡ None → y.refused ≡ Some p → HasCause (g.told x.disk).faults (g.told y.disk).faults (r ≡ Err DiskFault) → IfPageLimit p IsFull → Went Moves (λ (v : OnPages D g). (g.told v.disk).faults) x y F
went_err {D} {A} {g} x y r p F is fault goes none some cause full = went_by x y (r ≡ Err DiskFault) F
    (moves_refused x y p goes none some (λ e. cause.rose (is ∙ ap (λ (q : PageRefusal). Err q) e)) cause.later full) cause
    (λ failed. fault.1 (err_same r p DiskFault is failed))
    (λ failed. is ∙ ap (λ (q : PageRefusal). Err q) (fault.0 failed))

-- no page limit was met
pub not_limited : (refusal : PageRefusal) → IfPageLimit refusal (λ count limit. ⊥) → IfPageLimit refusal IsFull
not_limited refusal none = limit_to refusal (λ count limit. ⊥) IsFull (λ count limit no. absurd no) none

-- the cause of a call that gave up
pub limited_cause : {D : Type 0} {g : Ghosts D} (x y : OnPages D g) (refusal : PageRefusal) → Moves x y → x.refused ≡ None → IfPageLimit refusal (λ count limit. y.refused ≡ Some (PageLimit count limit)) → IfPageLimit refusal IsFull
limited_cause x y DiskFault moves none is = tt
limited_cause x y (Damaged file at) moves none is = tt
limited_cause x y (PageLimit count limit) moves none is = moves.limited (PageLimit count limit) none is
limited_cause x y Memory moves none is = tt

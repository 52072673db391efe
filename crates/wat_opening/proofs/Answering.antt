-- What an opening answers, over its steps.
use Rattle.std.proofs.Common.{◌≡◌, ℕ, ◌≤◌, ◌==◌, List, [], ◌∷◌, length, Result, Ok, Err, refl, sym, ◌∙◌, arith}
use Rattle.std.proofs.lemmas.Bool.{eq-eqb, eqb-true}
use Rattle.std.specs.Prelude.{◌↔◌, IsTrue, IfOk, IfErr}
use Rattle.wat_faults.specs.Faults.{Rose}
use Rattle.wat_disk.specs.Disk.{Told, EachStop, SameFiles}
use Rattle.wat_disk.proofs.Stops.{synced_same}
use Rattle.wat_restore.specs.Restored.{Checkpoint}
use Rattle.wat_restore.specs.Safe.{IsSafe}
use Rattle.wat_images.specs.declared.refusal.PageRefusal.{PageRefusal}
use Rattle.wat_images.specs.declared.refusal.PageRefusal.TheVariants as pages
use Rattle.wat_images.specs.Refusal as pages_refusal
use Rattle.wat_pages.proofs.Changed.{reads_cover, reads_safe}
use Rattle.wat_cells.proofs.Then.{covers_then}
use Rattle.wat_schema.specs.Tables.{Tables}
use Rattle.wat_keeping.specs.Durable.{IsDatabase, LeavesEither}
use Rattle.wat_keeping.proofs.Calls.{call_behind}
use Rattle.wat_opening.specs.declared.refusal.OpenWhy.TheVariants.{NoDatabase, Damaged, PageLimit, DiskFault, Memory}
use Rattle.wat_opening.specs.Refusal.{IfDamaged, IfPageLimit, IsOnEmpty, open_why}
use Rattle.wat_opening.specs.Opening.{IsOnDisk, LeavesPages}
use Rattle.wat_opening.proofs.Reading.{load_stops}

-- ---- results

pub ok_to : {T E : Type 0} (r : Result T E) (P Q : T → Type 0) → ((x : T) → P x → Q x) → IfOk r P → IfOk r Q
ok_to (Ok x) P Q f is = f x is
ok_to (Err e) P Q f is = tt

pub any_ok : {T E : Type 0} (r : Result T E) (Q : Type 0) → Q → IfOk r (λ x. Q)
any_ok (Ok x) Q is = is
any_ok (Err e) Q is = tt

pub err_to : {T E : Type 0} (r : Result T E) (P Q : E → Type 0) → ((e : E) → P e → Q e) → IfErr r P → IfErr r Q
err_to (Ok x) P Q f is = tt
err_to (Err e) P Q f is = f e is

-- ---- lengths

pub none_long : (xs : List ℕ) (n : ℕ) → n ≡ length xs → IsTrue (n == 0) ↔ (xs ≡ [])
none_long [] n e = (λ h. refl, λ h. eq-eqb n 0 e)
none_long (x ∷ xs) n e = (λ h. absurd (let none = eqb-true n 0 h in omega (arith, none, e)), λ h. absurd (let no : x ∷ xs ≡ [] = h in cc))

-- ---- refusals

pub any_damage : (refusal : PageRefusal) (Q : Type 0) → Q → pages_refusal.IfDamaged refusal (λ file at. Q)
any_damage pages.DiskFault Q is = tt
any_damage (pages.Damaged file at) Q is = is
any_damage (pages.PageLimit count limit) Q is = tt
any_damage pages.Memory Q is = tt

pub why_damaged : (refusal : PageRefusal) (P Q : ℕ → ℕ → Type 0) → ((file at : ℕ) → P file at → Q file at) → pages_refusal.IfDamaged refusal P → IfDamaged (open_why refusal) Q
why_damaged pages.DiskFault P Q f is = tt
why_damaged (pages.Damaged file at) P Q f is = f file.0 at is
why_damaged (pages.PageLimit count limit) P Q f is = tt
why_damaged pages.Memory P Q f is = tt

pub why_limited : (refusal : PageRefusal) (P Q : ℕ → ℕ → Type 0) → ((count limit : ℕ) → P count limit → Q count limit) → pages_refusal.IfPageLimit refusal P → IfPageLimit (open_why refusal) Q
why_limited pages.DiskFault P Q f is = tt
why_limited (pages.Damaged file at) P Q f is = tt
why_limited (pages.PageLimit count limit) P Q f is = f count limit is
why_limited pages.Memory P Q f is = tt

pub why_on_empty : (refusal : PageRefusal) → pages_refusal.IfDamaged refusal (λ file at. ⊥) → pages_refusal.IfPageLimit refusal (λ count limit. ⊥) → IsOnEmpty (open_why refusal)
why_on_empty pages.DiskFault undamaged unlimited = tt
why_on_empty (pages.Damaged file at) undamaged unlimited = undamaged
why_on_empty (pages.PageLimit count limit) undamaged unlimited = unlimited
why_on_empty pages.Memory undamaged unlimited = tt

pub never_none : (refusal : PageRefusal) → open_why refusal ≡ NoDatabase → ⊥
never_none pages.DiskFault e = let no : DiskFault ≡ NoDatabase = e in cc
never_none (pages.Damaged file at) e = let no : Damaged file at ≡ NoDatabase = e in cc
never_none (pages.PageLimit count limit) e = let no : PageLimit count limit ≡ NoDatabase = e in cc
never_none pages.Memory e = let no : Memory ≡ NoDatabase = e in cc

pub why_fault : (refusal : PageRefusal) → open_why refusal ≡ DiskFault → refusal ≡ pages.DiskFault
why_fault pages.DiskFault e = λ i. pages.DiskFault
why_fault (pages.Damaged file at) e = absurd (let no : Damaged file at ≡ DiskFault = e in cc)
why_fault (pages.PageLimit count limit) e = absurd (let no : PageLimit count limit ≡ DiskFault = e in cc)
why_fault pages.Memory e = absurd (let no : Memory ≡ DiskFault = e in cc)

pub rose_then : (a b c : ℕ) → a ≤ b → Rose b c → Rose a c
rose_then a b c later rose = omega (arith, later, rose)

-- ---- one step behind another

pub leaves_then : (old mid new : Told) → LeavesPages old mid → ((saved : Checkpoint) → IsSafe saved old → IsSafe saved mid) → LeavesPages mid new → LeavesPages old new
leaves_then old mid new one safe two = record {
  others = λ file from. two.others file from ∙ one.others file from;
  stops = λ saved is. covers_then saved old mid new (one.stops saved is) (two.stops saved (safe saved is));
}

-- a step that reads
module _ (old mid : Told) (same : SameFiles old.content mid.content) (stops : EachStop old mid SameFiles) where
  pub read_leaves : LeavesPages old mid
  read_leaves = record { others = λ file from. same file; stops = λ saved safe. reads_cover saved old mid safe stops }

  pub read_safe : (saved : Checkpoint) → IsSafe saved old → IsSafe saved mid
  read_safe saved safe = reads_safe saved old mid safe same stops

  pub read_there : IsOnDisk old → IsOnDisk mid
  read_there there = record {
    main = synced_same 0 old mid there.main same stops;
    before = synced_same 1 old mid there.before same stops;
    log = synced_same 2 old mid there.log same stops;
  }

  pub read_content : old.content ≡ mid.content
  read_content = λ i file. sym (same file) i

  pub read_stops : (limit : ℕ) (t : Tables) → IsOnDisk old → IsDatabase limit t old.content → EachStop old mid (LeavesEither limit t t)
  read_stops limit t there is = load_stops old mid limit t there is (λ saved safe. reads_cover saved old mid safe stops)

  pub read_then : (new : Told) (limit : ℕ) (t : Tables) → IsOnDisk old → IsDatabase limit t old.content → EachStop mid new (LeavesEither limit t t) → EachStop old new (LeavesEither limit t t)
  read_then new limit t there is next = call_behind old mid new limit t t (read_stops limit t there is) next

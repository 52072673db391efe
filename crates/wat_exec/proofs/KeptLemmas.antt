-- Changes that are kept, and what is next of them.
use Rattle.std.proofs.Common.{◌≡◌, ℕ, ◌+◌, ◌<◌, ◌≤◌, zero, suc, List, [], ◌∷◌, ◌++◌, length, take, drop, get_or, Option, Some, None, is_none, Result, Ok, Err, false, refl, sym, ap, ◌∙◌, subst, arith, drop-cons, length-take-le}
use Rattle.std.proofs.lemmas.List.{drop_all}
use Rattle.wat_value.specs.declared.change.Change.{Change}
use Rattle.wat_schema.specs.declared.refusal.Refusal.{Refusal}
use Rattle.wat_expr.specs.Evaluation.{Combination}
use Rattle.wat_meaning.specs.declared.reply.Reply.{Reply}
use Rattle.wat_scans.specs.Running.{Next.ToChange, Next.ToReply, Next.ToVisit, Task, change_next, made_by, made_next, progress_next, scanned_next}
use Rattle.wat_scans.specs.Scans.{Progress}
use Rattle.wat_changing.specs.Decided.{reply_of}
use Rattle.wat_changing.specs.declared.counted.Counted.{Counted}
use Rattle.wat_scans.specs.declared.scan.Scan.{Scan}
use Rattle.wat_scans.specs.declared.scan.Taken.{Taken}
use Rattle.wat_meaning.specs.Meaning.{Made, Made.Altering, Made.Changing, Made.Shown}
use Rattle.wat_visits.specs.Nesting.{met_if_done, met_when_done}
use Rattle.wat_exec.specs.declared.changes.Changes.{Changes}
use Rattle.wat_exec.specs.declared.changes.Step.TheVariants as step
use Rattle.wat_exec.specs.Making.{AreKept, AreMade, left_in, made_in, step_of}

-- the next of those that are left
pub next_change : (reply : Reply) (all : List Change) (n : ℕ) (x : Change) → n < length all → x ≡ get_or all n x → change_next reply (drop n all) ≡ ToChange x
next_change reply all n x h e = ap (change_next reply) (drop-cons all n x h) ∙ ap ToChange (sym e)

-- none is left
pub next_reply : (reply : Reply) (all : List Change) (n : ℕ) → length all ≤ n → change_next reply (drop n all) ≡ ToReply reply
next_reply reply all n h = ap (change_next reply) (drop_all n all h)

-- where all visits are made, what is next is what is left
pub kept_next : (task : Task) (progress : Option Progress) (c : Changes) → AreMade task progress c → progress_next task (take c.made c.all.items) progress ≡ left_in c
kept_next task progress c kept =
    ap (progress_next task (take c.made c.all.items)) kept.progress_is
    ∙ ap (scanned_next task (take c.made c.all.items) kept.at) kept.none
    ∙ ap (made_next (take c.made c.all.items)) kept.are
    ∙ ap (λ n. change_next (reply_of c.counted (length c.all.items)) (drop n c.all.items)) (length-take-le c.made c.all.items kept.within)

one_left : (reply : Reply) (left : List Change) (change : Change) → change_next reply left ≡ ToChange change → (more : List Change) × (left ≡ change ∷ more)
one_left reply [] change e = cc
one_left reply (x ∷ more) change e = (more, cc)

taken_one : (xs : List Change) (n : ℕ) (x : Change) (more : List Change) → drop n xs ≡ x ∷ more → (n < length xs) × (take (suc n) xs ≡ take n xs ++ x ∷ [])
taken_one [] zero x more e = cc
taken_one [] (suc n) x more e = cc
taken_one (y ∷ ys) zero x more e = (omega arith, cc)
taken_one (y ∷ ys) (suc n) x more e = let r = taken_one ys n x more e in (omega (arith, r.0), ap (λ l. y ∷ l) r.1)

-- a change that is next comes behind those that are made
pub made_one_more : (c : Changes) (change : Change) → left_in c ≡ ToChange change → (c.made < length c.all.items) × (take (c.made + 1) c.all.items ≡ take c.made c.all.items ++ change ∷ [])
made_one_more c change e =
    let left = one_left (reply_of c.counted (length c.all.items)) (drop c.made c.all.items) change e in
    let r = taken_one c.all.items c.made change left.0 left.1 in
    let on : c.made + 1 ≡ suc c.made = omega arith in
    (r.0, ap (λ n. take n c.all.items) on ∙ r.1)

-- ---- what is next where no changes are kept

-- where not all visits are made, a visit is next
pub visit_next : (task : Task) (made : List Change) (progress : Option Progress) → is_none progress ≡ false → None ≡ met_when_done progress → step.Visit ≡ step_of (progress_next task made progress)
visit_next task made None some none = cc
visit_next task made (Some w) some none = by w.scan none
  where
    by : (o : Option Scan) → None ≡ met_if_done w o → step.Visit ≡ step_of (scanned_next task made w o)
    by None e = cc
    by (Some s) e = refl

-- all visits are made, and this was met
pub record HasMet (progress : Option Progress) (met : List Combination) : Type 0 where
  pub at : Progress
  pub progress_is : progress ≡ Some at
  pub none : at.scan ≡ None
  pub met_is : at.met ≡ met

pub has_met : (progress : Option Progress) (met : List Combination) → Some met ≡ met_when_done progress → HasMet progress met
has_met None met e = cc
has_met (Some w) met e = by w.scan refl e
  where
    by : (o : Option Scan) → w.scan ≡ o → Some met ≡ met_if_done w o → HasMet (Some w) met
    by None is same = record { at = w; progress_is = refl; none = is; met_is = cc }
    by (Some s) is same = cc

pub decided_next : (task : Task) (made : List Change) (progress : Option Progress) (met : List Combination) (what : Result Made Refusal) → Some met ≡ met_when_done progress → what ≡ made_by task met task.statement
    → progress_next task made progress ≡ made_next made what
decided_next task made progress met what e is =
    let h = has_met progress met e in
    ap (progress_next task made) h.progress_is ∙ ap (scanned_next task made h.at) h.none
    ∙ ap (λ m. made_next made (made_by task m task.statement)) h.met_is ∙ ap (made_next made) (sym is)

pub decided_kept : (task : Task) (progress : Option Progress) (met : List Combination) (c : Changes) → Some met ≡ met_when_done progress → c.made ≡ 0
    → Ok (Changing (reply_of c.counted (length c.all.items)) c.all.items) ≡ made_by task met task.statement → AreMade task progress c
decided_kept task progress met c e zero_made is =
    let h = has_met progress met e in
    record { within = omega (arith, zero_made); at = h.at; progress_is = h.progress_is; none = h.none; are = ap (λ m. made_by task m task.statement) h.met_is ∙ sym is }

left_no_visit : (reply : Reply) (left : List Change) (scan : Scan) (ts : List Taken) (met : List Combination) → change_next reply left ≡ ToVisit scan ts met → ⊥
left_no_visit reply [] scan ts met e = cc
left_no_visit reply (x ∷ more) scan ts met e = cc

made_no_visit : (made : List Change) (what : Result Made Refusal) (scan : Scan) (ts : List Taken) (met : List Combination) → made_next made what ≡ ToVisit scan ts met → ⊥
made_no_visit made (Err refusal) scan ts met e = cc
made_no_visit made (Ok (Shown rows)) scan ts met e = cc
made_no_visit made (Ok (Changing reply changes)) scan ts met e = left_no_visit reply (drop (length made) changes) scan ts met e
made_no_visit made (Ok (Altering reply alteration)) scan ts met e = cc

-- where a visit is next, these scans are under way
pub to_visit : (task : Task) (made : List Change) (progress : Option Progress) (scan : Scan) (ts : List Taken) (met : List Combination) → progress_next task made progress ≡ ToVisit scan ts met
    → progress ≡ Some (record { scan = Some scan; taken = ts; met = met })
to_visit task made None scan ts met e = cc
to_visit task made (Some w) scan ts met e = by w.scan refl e
  where
    by : (o : Option Scan) → w.scan ≡ o → scanned_next task made w o ≡ ToVisit scan ts met → ◌≡◌ {A = Option Progress} (Some w) (Some (record { scan = Some scan; taken = ts; met = met }))
    by None is k = absurd (made_no_visit made (made_by task w.met task.statement) scan ts met k)
    by (Some s) is k =
        let same : s ≡ scan = cc in
        let outside : w.taken ≡ ts = cc in
        let found : w.met ≡ met = cc in
        λ i. Some (record { scan = (is ∙ ap Some same) i; taken = outside i; met = found i })

-- ---- one change more

pub counted_one : (task : Task) (progress : Option Progress) (changes : Option Changes) (c : Changes) (change : Change) → changes ≡ Some c → AreKept task progress changes
    → progress_next task (made_in changes) progress ≡ ToChange change → take (c.made + 1) c.all.items ≡ made_in changes ++ change ∷ []
counted_one task progress None c change e kept next = cc
counted_one task progress (Some d) c change e kept next =
    let same : d ≡ c = cc in
    subst (λ (z : Changes). take (z.made + 1) z.all.items ≡ take d.made d.all.items ++ change ∷ []) same (made_one_more d change (sym (kept_next task progress d kept) ∙ next)).1

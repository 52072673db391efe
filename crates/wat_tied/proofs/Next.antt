-- What is next is a visit where a scan is under way alone.
use Rattle.std.proofs.Common.{◌≡◌, Bool, true, false, List, [], ◌∷◌, length, drop, Option, Some, None, Result, Ok, Err, refl, sym, ap, ◌∙◌}
use Rattle.std.proofs.lemmas.Bool.{both_ways}
use Rattle.wat_value.specs.declared.change.Change.{Change}
use Rattle.wat_schema.specs.declared.refusal.Refusal.{Refusal}
use Rattle.wat_expr.specs.Evaluation.{Combination}
use Rattle.wat_meaning.specs.declared.reply.Reply.{Reply}
use Rattle.wat_meaning.specs.Meaning.{Made, Made.Shown, Made.Changing, Made.Altering}
use Rattle.wat_scans.specs.declared.scan.Scan.{Scan}
use Rattle.wat_scans.specs.declared.scan.Taken.{Taken}
use Rattle.wat_scans.specs.Running.{Run, Next, Next.ToVisit, Next.ToChange, Next.ToRefuse, Next.ToReply, next, made_by, change_next, made_next, scanned_next, progress_next}
use Rattle.wat_scans.specs.Scans.{Progress}

is_visit : Next → Bool
is_visit (ToVisit scan ts met) = true
is_visit (ToChange ch) = false
is_visit (ToRefuse x) = false
is_visit (ToReply r) = false

change_no : (reply : Reply) (changes : List Change) → is_visit (change_next reply changes) ≡ false
unfolding is_visit
change_no reply [] = refl
change_no reply (c ∷ cs) = refl

made_no : (made : List Change) (r : Result Made Refusal) → is_visit (made_next made r) ≡ false
unfolding is_visit
made_no made (Err refusal) = refl
made_no made (Ok (Shown rows)) = refl
made_no made (Ok (Changing reply changes)) = change_no reply (drop (length made) changes)
made_no made (Ok (Altering reply alteration)) = refl

pub visit_progress : (run : Run) (scan : Scan) (ts : List Taken) (met : List Combination) → next run ≡ ToVisit scan ts met → run.progress ≡ Some (record { scan = Some scan; taken = ts; met = met })
unfolding next is_visit
visit_progress run scan ts met h = by run.progress refl h
  where
    at : (w : Progress) (s : Option Scan) → w.scan ≡ s → scanned_next run.task run.made w s ≡ ToVisit scan ts met → w ≡ record { scan = Some scan; taken = ts; met = met }
    at w (Some s) f j =
        let one : s ≡ scan = cc in
        let two : w.taken ≡ ts = cc in
        let three : w.met ≡ met = cc in
        λ i. record { scan = (f ∙ ap Some one) i; taken = two i; met = three i }
    at w None f j = absurd (both_ways (is_visit (made_next run.made (made_by run.task w.met run.task.statement))) (made_no run.made (made_by run.task w.met run.task.statement)) (ap is_visit j))

    by : (o : Option Progress) → run.progress ≡ o → progress_next run.task run.made o ≡ ToVisit scan ts met → run.progress ≡ Some (record { scan = Some scan; taken = ts; met = met })
    by None e k = absurd (both_ways true (sym (ap is_visit k)) refl)
    by (Some w) e k = e ∙ ap Some (at w w.scan refl k)

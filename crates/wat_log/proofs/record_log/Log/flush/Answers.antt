use Rattle.std.proofs.Common.{◌≡◌, ◌≢◌, ℕ, List, [], ◌∷◌, ◌++◌, length, refl, arith, sym, ◌∙◌, ap, subst, append-nil}
use Rattle.std.proofs.lemmas.Bool.{eqb-true}
use Rattle.std.specs.Prelude.{Bool, Vec, vec_len, nat_eq}
use Rattle.std.specs.declared.alloc.Global.{Global}
use Rattle.std.specs.List.{flat_map}
use Rattle.wat_disk.specs.Disk.{IsSynced, InFile, EachStop}
use Rattle.wat_gate.specs.Bodies.{KeepsOrAdds}
use Rattle.wat_log_record.specs.declared.log_record.LogRecord.{LogRecord}
use Rattle.wat_log_record.specs.Encoding.{record_bytes}
use Rattle.wat_log.specs.Log.{HasRecords}
use Rattle.wat_log.proofs.Bodies.{appended_records}
use Rattle.wat_log.proofs.Records.{some_bytes_left, none_noted}
use Rattle.wat_log.proofs.record_log.Log.flush.Goals as goal

empty_bytes : (bytes : List ℕ) → length bytes ≡ 0 → bytes ≡ []
empty_bytes [] e = refl
empty_bytes (x ∷ xs) e = absurd (omega (arith, e))

-- the test of a `Vec`, on its items
tested : (held : Vec ℕ Global) (test : Bool) → test ≡ nat_eq (vec_len held) 0 → test ≡ nat_eq (length held.items) 0
tested held test is = is ∙ ap (λ (n : ℕ). nat_eq n 0) held.ok.0

pub returns-then-is_empty-clause-records : goal.returns-then-is_empty-clause-records
returns-then-is_empty-clause-records g c tells flushed noted has is_noted =
    let bytes = c.args.self.now.noted.items in
    let empty = empty_bytes bytes (eqb-true (length bytes) 0 (sym (tested c.args.self.now.noted c.is_empty.result c.is_empty.ensures) ∙ c.if-is_empty.true)) in
    let none = none_noted noted (sym is_noted.spelled ∙ empty) in
    subst (λ (entries : List LogRecord). HasRecords ((g.D.Disk.told c.args.disk.now).content 2) entries) (sym (append-nil flushed) ∙ ap (λ (z : List LogRecord). flushed ++ z) (sym none)) has

pub returns-clause-records : goal.returns-clause-records
returns-clause-records g c tells flushed noted has is_noted =
    let log = c.args.self.now in
    let some : log.noted.items ≢ [] = some_bytes_left log.noted.items c.is_empty.result (tested log.noted c.is_empty.result c.is_empty.ensures) c.if-is_empty.false in
    appended_records c.append-appended.result (g.D.Disk.told c.args.disk.now) (g.D.Disk.told c.append-appended.new.disk) log.gate c.append-appended.new.self log.frame.body
    flushed noted log.known_file c.append-appended.ensures.file has
    (record { spelled = log.noted_in_frame ∙ is_noted.spelled; some = λ none. some (is_noted.spelled ∙ ap (flat_map record_bytes) none); encodable = is_noted.encodable })
    (c.append-appended.ensures.known tells) (c.append-appended.ensures.added tells)

pub returns-clause-stops : goal.returns-clause-stops
returns-clause-stops g c tells some synced =
    let log = c.args.self.now in
    subst (λ (body : List ℕ). EachStop (g.D.Disk.told c.args.disk.now) (g.D.Disk.told c.append-appended.new.disk) (InFile 2 (KeepsOrAdds body))) log.noted_in_frame
    (subst (λ (file : ℕ). EachStop (g.D.Disk.told c.args.disk.now) (g.D.Disk.told c.append-appended.new.disk) (InFile file (KeepsOrAdds log.frame.body))) log.known_file
    (c.append-appended.ensures.stops tells (subst (λ (file : ℕ). IsSynced (g.D.Disk.told c.args.disk.now) file) (sym log.known_file) synced)))

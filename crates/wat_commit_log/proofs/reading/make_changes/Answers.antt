use Rattle.std.proofs.Common.{◌≡◌, ◌+◌, ◌<◌, ◌∷◌, ℕ, List, length, Some, None, is_some, true, false, get_or, drop, unwrap_or, sym, ◌∙◌, ap, subst}
use Rattle.std.specs.Option.{option_copied}
use Rattle.std.proofs.lemmas.List.{drop_more}
use Rattle.wat_schema.specs.Tables.{Tables, apply_change}
use Rattle.wat_log_record.specs.declared.log_record.LogRecord.{LogRecord}
use Rattle.wat_commit_log.specs.Reading.{Changes, change_by}
use Rattle.wat_commit_log.proofs.BodyLemmas.{change_comes, change_fails, change_goes_on, no_change_next}
use Rattle.wat_commit_log.proofs.reading.make_changes.Goals as goal

-- the records that are left
left_is : (rs : List LogRecord) (i : ℕ) (r : LogRecord) → i < length rs → r ≡ get_or rs i r → drop i rs ≡ r ∷ drop (i + 1) rs
left_is rs i r here is = drop_more rs i r here ∙ ap (λ (x : LogRecord). x ∷ drop (i + 1) rs) (sym is)

pub returns-in_default-clause-none : goal.returns-in_default-clause-none
returns-in_default-clause-none c t made =
    let rs = c.args.records.now in
    let i = c.loop-record.record-index in
    let r = c.record-item.result in
    let before = c.loop-record.tables in
    let none : change_by r ≡ None = sym c.change_of.ensures ∙ ap option_copied c.in_default.is in
    no_change_next before t r (drop (i + 1) rs) none (subst (λ (l : List LogRecord). Changes before l t) (left_is rs i r c.loop-record-test.true c.record-item.is) (c.loop-record.invariant.goes t made))

pub returns-then-not-branch-clause-none : goal.returns-then-not-branch-clause-none
returns-then-not-branch-clause-none c t made =
    let rs = c.args.records.now in
    let i = c.loop-record.record-index in
    let r = c.record-item.result in
    let before = c.loop-record.tables in
    let change = c.in-Some.change.now in
    let is : change_by r ≡ Some change = sym c.change_of.ensures ∙ ap option_copied c.in-Some.is in
    let fails : is_some (apply_change change before) ≡ false = sym c.in_ok-change.ensures.applied ∙ c.if-not-branch.true in
    change_fails before t r change (drop (i + 1) rs) is fails (subst (λ (l : List LogRecord). Changes before l t) (left_is rs i r c.loop-record-test.true c.record-item.is) (c.loop-record.invariant.goes t made))

pub loop-record-preserved : goal.loop-record-preserved
loop-record-preserved c =
    let rs = c.args.records.now in
    let i = c.loop-record.record-index in
    let r = c.record-item.result in
    let rest = drop (i + 1) rs in
    let before = c.loop-record.tables in
    let change = c.in-Some.change.now in
    let is : change_by r ≡ Some change = sym c.change_of.ensures ∙ ap option_copied c.in-Some.is in
    let applies : is_some (apply_change change before) ≡ true = sym c.in_ok-change.ensures.applied ∙ c.if-not-branch.false in
    let after : c.change.new.self ≡ unwrap_or (apply_change change before) before = c.in_ok-change.ensures.after in
    let left : drop i rs ≡ r ∷ rest = left_is rs i r c.loop-record-test.true c.record-item.is in
    record {
      comes = λ t made. c.loop-record.invariant.comes t (subst (λ (l : List LogRecord). Changes before l t) (sym left)
          (change_comes before t r change rest is applies (subst (λ (u : Tables). Changes u rest t) after made)));
      goes = λ t made. subst (λ (u : Tables). Changes u rest t) (sym after)
          (change_goes_on before t r change rest is (subst (λ (l : List LogRecord). Changes before l t) left (c.loop-record.invariant.goes t made)));
    }

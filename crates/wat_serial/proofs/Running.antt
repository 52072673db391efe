-- Acts and statements, one after another.
use Rattle.std.proofs.Common.{◌≡◌, ℕ, suc, ◌+◌, ◌<◌, Bool, true, false, if◌then◌else◌, List, [], ◌∷◌, length, drop, get_or, Option, Some, None, IsSome, unwrap_or, Result, Ok, Err, refl, sym, ap, ◌∙◌, subst, add-one}
use Rattle.std.specs.Option.{option_and_then}
use Rattle.std.proofs.lemmas.List.{at_drop_more}
use Rattle.wat_value.specs.declared.change.Act.{Act}
use Rattle.wat_ast.specs.declared.statement.Statement.{Statement}
use Rattle.wat_schema.specs.declared.refusal.Refusal.{Refusal}
use Rattle.wat_schema.specs.declared.refusal.Refusal.TheVariants.{Syntax}
use Rattle.wat_meaning.specs.Meaning.{has_meaning, meaning}
use Rattle.wat_schema.specs.Tables.{Tables, apply, apply_all}
use Rattle.wat_parse.specs.declared.script.Span.{Span}
use Rattle.wat_serial.specs.declared.script.ScriptRefusal.{ScriptRefusal}
use Rattle.wat_serial.specs.declared.script.ScriptRefusal.TheVariants.{Refused}
use Rattle.wat_serial.specs.Script.{after_meaning, after_span, after_statement, followed, is_commit, run_from}

-- ---- acts

first_applies : (act : Act) (acts : List Act) (t u : Tables) → IsSome (apply_all (act ∷ acts) t) → u ≡ unwrap_or (apply act t) t → apply_all acts u ≡ apply_all (act ∷ acts) t
first_applies act acts t u all is = by (apply act t) refl
  where
    by : (o : Option Tables) → apply act t ≡ o → apply_all acts u ≡ apply_all (act ∷ acts) t
    by None e = absurd (let no : IsSome (option_and_then (apply_all acts) None) = subst (λ o. IsSome (option_and_then (apply_all acts) o)) e all in cc)
    by (Some v) e = ap (apply_all acts) (is ∙ ap (λ o. unwrap_or o t) e) ∙ sym (ap (option_and_then (apply_all acts)) e)

pub one_act : (acts : List Act) (i : ℕ) (act : Act) (start : Option Tables) (t u : Tables) → i < length acts → act ≡ get_or acts i act → IsSome start → apply_all (drop i acts) t ≡ start → u ≡ unwrap_or (apply act t) t
    → apply_all (drop (i + 1) acts) u ≡ start
one_act acts i act start t u within at some so_far is =
    let here : apply_all (drop i acts) t ≡ apply_all (act ∷ drop (i + 1) acts) t =
    at_drop_more (λ rest. apply_all rest t) acts i act within ∙ ap (λ a. apply_all (a ∷ drop (i + 1) acts) t) (sym at) in
    let all : IsSome (apply_all (act ∷ drop (i + 1) acts) t) = subst (λ o. IsSome o) (sym so_far ∙ here) some in
    first_applies act (drop (i + 1) acts) t u all is ∙ sym here ∙ so_far

-- ---- statements

module _ (text : List ℕ) (spans : List Span) (i : ℕ) (span : Span) (number : ℕ) (t : Tables) (start : Result Tables ScriptRefusal) (within : i < length spans) (at : span ≡ get_or spans i span)
    (so_far : run_from text (suc number) (drop i spans) t ≡ start) where
  here : followed (suc number) (run_from text (suc (suc number)) (drop (i + 1) spans)) (after_span text span t) ≡ start
  here = sym (at_drop_more (λ rest. run_from text (suc number) rest t) spans i span within ∙ ap (λ s. run_from text (suc number) (s ∷ drop (i + 1) spans) t) (sym at)) ∙ so_far

  pub one_statement : (u : Tables) → after_span text span t ≡ Ok u → run_from text (suc (number + 1)) (drop (i + 1) spans) u ≡ start
  one_statement u is =
      ap (λ n. run_from text (suc n) (drop (i + 1) spans) u) (add-one number)
      ∙ sym (ap (followed (suc number) (run_from text (suc (suc number)) (drop (i + 1) spans))) is) ∙ here

  pub refused_here : (refusal : Refusal) → after_span text span t ≡ Err refusal → start ≡ Err (Refused (number + 1) refusal)
  refused_here refusal is =
      sym here ∙ ap (followed (suc number) (run_from text (suc (suc number)) (drop (i + 1) spans))) is ∙ ap (λ n. Err (Refused n refusal)) (sym (add-one number))

module _ (place : ℕ) (s : Statement) (t : Tables) where
  pub commits : is_commit s ≡ true → after_statement place s t ≡ Ok t
  commits h = ap (λ b. if b then Ok t else if has_meaning s then after_meaning t (meaning t s) else Err (Syntax place)) h

  pub means : is_commit s ≡ false → has_meaning s ≡ true → after_statement place s t ≡ after_meaning t (meaning t s)
  means h k =
      ap (λ b. if b then Ok t else if has_meaning s then after_meaning t (meaning t s) else Err (Syntax place)) h
      ∙ ap (λ b. if b then after_meaning t (meaning t s) else Err (Syntax place)) k

  pub is_refused : is_commit s ≡ false → has_meaning s ≡ false → after_statement place s t ≡ Err (Syntax place)
  is_refused h k =
      ap (λ b. if b then Ok t else if has_meaning s then after_meaning t (meaning t s) else Err (Syntax place)) h
      ∙ ap (λ b. if b then after_meaning t (meaning t s) else Err (Syntax place)) k

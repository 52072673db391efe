-- The script of the statements that write acts makes these acts.
use Rattle.std.proofs.Common.{◌≡◌, ℕ, suc, Bool, true, false, ◌||◌, ◌&&◌, cond, List, [], ◌∷◌, ◌++◌, map, Option, Some, None, unwrap_or, Ok, refl, sym, ◌∙◌, ap, subst, append_assoc}
use Rattle.std.proofs.lemmas.Bool.{and_parts}
use Rattle.std.specs.List.{list_all, list_any}
use Rattle.std.specs.Option.{option_and_then, option_map, option_to_list}
use Rattle.wat_value.specs.declared.definition.TableDef.{TableDef}
use Rattle.wat_value.specs.declared.change.Act.{Act}
use Rattle.wat_value.specs.declared.change.Act.TheVariants.{OnRow, OnSchema}
use Rattle.wat_value.specs.declared.change.Change.{Change}
use Rattle.wat_value.specs.declared.change.Change.TheVariants as change
use Rattle.wat_value.specs.declared.change.SchemaChange.TheVariants as schema
use Rattle.wat_value.specs.Changes.{changed_table}
use Rattle.wat_ast.specs.declared.expression.Expr.{Expr}
use Rattle.wat_ast.specs.declared.statement.SetItem.{SetItem}
use Rattle.wat_ast.specs.declared.statement.Statement.{Statement}
use Rattle.wat_ast.specs.declared.statement.Statement.TheVariants as statement
use Rattle.wat_schema.specs.declared.refusal.Refusal.{Refusal}
use Rattle.wat_schema.specs.Catalog.{Catalog, Name, def_at}
use Rattle.wat_schema.specs.Tables.{IsTables, Tables, apply, apply_all, catalog_of}
use Rattle.wat_schema.proofs.Database.{acts_hold}
use Rattle.wat_names.specs.Refusals.{or_refused}
use Rattle.wat_meaning.specs.Meaning.{has_meaning, meaning}
use Rattle.wat_serial.specs.Script.{is_commit, after_meaning, followed, refusal_of}
use Rattle.wat_spell_laws.specs.AsRead.{statement_as_read}
use Rattle.wat_spell_laws.specs.Readable.{is_readable}
use Rattle.wat_written.specs.Written.{create_index, statement_of, statement_of_change, update, sets_of, where_key}
use Rattle.wat_written_laws.specs.Meant.{meant, reply_of}
use Rattle.wat_written_laws.specs.Named.{act_named, all_named}
use Rattle.wat_script_texts.specs.Runs.{is_run, after_tree, run_trees_from}
use Rattle.wat_script_texts.specs.Written.{IsWritten, ends, commits, writes, leaves, statements_from, alters, commit_behind, acts_of, transactions_from}
use Rattle.wat_script_texts.proofs.Running.{commit_as_read}

-- ---- what statements write acts

IsPlain : Option Statement → Type 0
IsPlain None = Unit {0}
IsPlain (Some s) = (is_commit s ≡ false) × (has_meaning s ≡ true)

plain_update : (n : Name) (sets : List SetItem) (test : Option Expr) → IsPlain (update n sets test)
unfolding IsPlain
plain_update n [] test = tt
plain_update n (x ∷ xs) test = (refl, refl)

plain_change : (c : Change) (o : Option TableDef) → IsPlain (option_and_then (λ def. statement_of_change def c) o)
unfolding IsPlain
plain_change c None = tt
plain_change (change.Insert n row) (Some def) = (refl, refl)
plain_change (change.Update n before after) (Some def) = plain_update def.name (sets_of def after) (where_key def before)
plain_change (change.Delete n row) (Some def) = (refl, refl)

plain_made : (f : TableDef → Statement) → ((d : TableDef) → (is_commit (f d) ≡ false) × (has_meaning (f d) ≡ true)) → (o : Option TableDef) → IsPlain (option_map f o)
unfolding IsPlain
plain_made f h None = tt
plain_made f h (Some def) = h def

plain : (c : Catalog) (act : Act) → IsPlain (statement_of c act)
unfolding IsPlain
plain c (OnRow change) = plain_change change (def_at c (changed_table change))
plain c (OnSchema (schema.CreateTable def)) = (refl, refl)
plain c (OnSchema (schema.DropTable n)) = plain_made (λ def. statement.DropTable def.name) (λ d. (refl, refl)) (def_at c n)
plain c (OnSchema (schema.CreateIndex index)) = plain_made (create_index index) (λ d. (refl, refl)) (def_at c index.table)

is_plain : (c : Catalog) (act : Act) (s : Statement) → statement_of c act ≡ Some s → (is_commit s ≡ false) × (has_meaning s ≡ true)
unfolding IsPlain
is_plain c act s e = subst IsPlain e (plain c act)

runs : (s : Statement) → has_meaning s ≡ true → is_run s ≡ true
runs s h = either (is_commit s) (has_meaning s) h
  where
    either : (c m : Bool) → m ≡ true → (c || m) ≡ true
    either true m e = refl
    either false m e = e

-- ---- one act

no_refusal : (act : Act) → refusal_of (reply_of act) ≡ None
no_refusal (OnRow (change.Insert n row)) = refl
no_refusal (OnRow (change.Update n before after)) = refl
no_refusal (OnRow (change.Delete n row)) = refl
no_refusal (OnSchema (schema.CreateTable def)) = refl
no_refusal (OnSchema (schema.DropTable n)) = refl
no_refusal (OnSchema (schema.CreateIndex index)) = refl

after_meant : (t u : Tables) (act : Act) → apply act t ≡ Some u → after_meaning t (meant act) ≡ Ok u
after_meant t u act e =
    ap (λ (o : Option Refusal). or_refused (unwrap_or (apply_all (act ∷ []) t) t) o) (no_refusal act)
    ∙ ap (λ (o : Option Tables). or_refused (unwrap_or (option_and_then (apply_all []) o) t) None) e

after_act : (t u : Tables) (act : Act) (s : Statement) → apply act t ≡ Some u → is_commit s ≡ false → meaning t (statement_as_read s) ≡ meant act → after_tree (statement_as_read s) t ≡ Ok u
after_act t u act s e c m =
    ap (λ (b : Bool). cond b (Ok t) (after_meaning t (meaning t (statement_as_read s)))) (commit_as_read s ∙ c)
    ∙ ap (after_meaning t) m ∙ after_meant t u act e

-- ---- acts, one after another

rest_applies : (t v u : Tables) (act : Act) (acts : List Act) → apply act t ≡ Some v → apply_all (act ∷ acts) t ≡ Some u → apply_all acts v ≡ Some u
rest_applies t v u act acts a e = sym (ap (option_and_then (apply_all acts)) a) ∙ e

pub record MakesActs (t u : Tables) (xs : List Statement) : Type 0 where
  pub readable : list_all is_readable xs ≡ true
  pub runs : list_all is_run xs ≡ true
  pub gives : (number : ℕ) → run_trees_from number (map statement_as_read xs) t ≡ Ok u

module _ (made : (t u : Tables) (s : Statement) (act : Act) → IsTables t → apply act t ≡ Some u → statement_of (catalog_of t) act ≡ Some s → meaning t (statement_as_read s) ≡ meant act)
    (unwritten : (t u : Tables) (act : Act) → IsTables t → apply act t ≡ Some u → statement_of (catalog_of t) act ≡ None → u ≡ t)
    (readable : (t u : Tables) (s : Statement) (act : Act) → IsTables t → apply act t ≡ Some u → all_named (catalog_of t) ≡ true → act_named act ≡ true
    → statement_of (catalog_of t) act ≡ Some s → is_readable s ≡ true)
    (kept : (t u : Tables) (act : Act) → IsTables t → apply act t ≡ Some u → all_named (catalog_of t) ≡ true → act_named act ≡ true → all_named (catalog_of u) ≡ true) where
  pub makes_acts : {t : Tables} {acts : List Act} {xs : List Statement} → IsWritten t acts xs → (u : Tables) → IsTables t → all_named (catalog_of t) ≡ true → list_all act_named acts ≡ true
      → apply_all acts t ≡ Some u → MakesActs t u xs
  makes_acts (ends t) u ok named all e = record {
    readable = refl;
    runs = refl;
    gives = λ number. let same : t ≡ u = cc in ap (λ (v : Tables). Ok v) same;
  }
  makes_acts (commits t acts xs more) u ok named all e =
      let rest = makes_acts more u ok named all e in
      record { readable = rest.readable; runs = rest.runs; gives = λ number. rest.gives (suc number) }
  makes_acts (writes t v act s acts xs a is more) u ok named all e =
      let both = and_parts (act_named act) (list_all act_named acts) all in
      let p = is_plain (catalog_of t) act s is in
      let rest = makes_acts more u (acts_hold act t v ok a) (kept t v act ok a named both.0) both.1 (rest_applies t v u act acts a e) in
      record {
        readable = ap (λ b. b && list_all is_readable xs) (readable t v s act ok a named both.0 is) ∙ rest.readable;
        runs = ap (λ b. b && list_all is_run xs) (runs s p.1) ∙ rest.runs;
        gives = λ number.
            ap (followed number (run_trees_from (suc number) (map statement_as_read xs))) (after_act t v act s a p.0 (made t v s act ok a is)) ∙ rest.gives (suc number);
      }
  makes_acts (leaves t v act acts xs a is more) u ok named all e =
      let both = and_parts (act_named act) (list_all act_named acts) all in
      let rest = makes_acts more u (acts_hold act t v ok a) (kept t v act ok a named both.0) both.1 (rest_applies t v u act acts a e) in
      subst (λ (w : Tables). MakesActs w u xs) (unwritten t v act ok a is) rest

-- ---- transactions, one after another

written_one : (t v : Tables) (act : Act) (acts : List Act) (xs : List Statement) (o : Option Statement) → statement_of (catalog_of t) act ≡ o → apply act t ≡ Some v → IsWritten v acts xs
    → IsWritten t (act ∷ acts) (option_to_list o ++ xs)
written_one t v act acts xs None is a h = leaves t v act acts xs a is h
written_one t v act acts xs (Some s) is a h = writes t v act s acts xs a is h

written_act : (act : Act) (acts more : List Act) (ys : List Statement) (t u : Tables) (o : Option Tables) → apply act t ≡ o → option_and_then (apply_all acts) o ≡ Some u
    → ((v : Tables) → apply_all acts v ≡ Some u → IsWritten v (acts ++ more) (statements_from v acts ++ ys)) → IsWritten t (act ∷ (acts ++ more)) (statements_from t (act ∷ acts) ++ ys)
written_act act acts more ys t u None a e h = cc
written_act act acts more ys t u (Some v) a e h =
    let here = option_to_list (statement_of (catalog_of t) act) in
    let split : statements_from t (act ∷ acts) ++ ys ≡ here ++ (statements_from v acts ++ ys) =
    ap (λ (o : Option Tables). (here ++ statements_from (unwrap_or o t) acts) ++ ys) a ∙ append_assoc here (statements_from v acts) ys in
    subst (λ (zs : List Statement). IsWritten t (act ∷ (acts ++ more)) zs) (sym split)
    (written_one t v act (acts ++ more) (statements_from v acts ++ ys) (statement_of (catalog_of t) act) refl a (h v e))

written_then : (acts more : List Act) (ys : List Statement) (t u : Tables) → apply_all acts t ≡ Some u → IsWritten u more ys → IsWritten t (acts ++ more) (statements_from t acts ++ ys)
written_then [] more ys t u e h = let same : t ≡ u = cc in subst (λ (v : Tables). IsWritten v more ys) (sym same) h
written_then (act ∷ acts) more ys t u e h = written_act act acts more ys t u (apply act t) refl e (λ v f. written_then acts more ys v u f h)

committed : (acts : List Act) (u : Tables) (more : List Act) (ys : List Statement) → IsWritten u more ys → IsWritten u more (commit_behind acts ++ ys)
committed acts u more ys h = decide (list_any alters acts)
  where
    decide : (b : Bool) → IsWritten u more (cond b [] (statement.Commit ∷ []) ++ ys)
    decide true = h
    decide false = commits u more ys h

-- acts apply where the first of them do, and the others over what these leave
record IsParted (acts more : List Act) (t u : Tables) : Type 0 where
  between : Tables
  first : apply_all acts t ≡ Some between
  second : apply_all more between ≡ Some u

parted_act : (act : Act) (acts more : List Act) (t u : Tables) (o : Option Tables) → apply act t ≡ o → option_and_then (apply_all (acts ++ more)) o ≡ Some u
    → ((v : Tables) → apply_all (acts ++ more) v ≡ Some u → IsParted acts more v u) → IsParted (act ∷ acts) more t u
parted_act act acts more t u None a e h = cc
parted_act act acts more t u (Some v) a e h =
    let rest = h v e in
    record { between = rest.between; first = ap (option_and_then (apply_all acts)) a ∙ rest.first; second = rest.second }

parted : (acts more : List Act) (t u : Tables) → apply_all (acts ++ more) t ≡ Some u → IsParted acts more t u
parted [] more t u e = record { between = t; first = refl; second = e }
parted (act ∷ acts) more t u e = parted_act act acts more t u (apply act t) refl e (λ v f. parted acts more v u f)

pub transactions_written : (log : List (List Act)) (t u : Tables) → apply_all (acts_of log) t ≡ Some u → IsWritten t (acts_of log) (transactions_from t log)
transactions_written [] t u e = ends t
transactions_written (acts ∷ log) t u e =
    let p = parted acts (acts_of log) t u e in
    let rest = transactions_written log p.between u p.second in
    let same : transactions_from t (acts ∷ log) ≡ statements_from t acts ++ (commit_behind acts ++ transactions_from p.between log) =
    ap (λ (o : Option Tables). (statements_from t acts ++ commit_behind acts) ++ transactions_from (unwrap_or o t) log) p.first
    ∙ append_assoc (statements_from t acts) (commit_behind acts) (transactions_from p.between log) in
    subst (λ (zs : List Statement). IsWritten t (acts ++ acts_of log) zs) (sym same)
    (written_then acts (acts_of log) (commit_behind acts ++ transactions_from p.between log) t p.between p.first (committed acts p.between (acts_of log) (transactions_from p.between log) rest))

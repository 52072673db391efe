-- A script that is read as trees is run as these.
use Rattle.std.proofs.Common.{◌≡◌, ℕ, suc, Bool, true, false, ◌||◌, cond, List, [], ◌∷◌, map, Result, Ok, Err, refl, ◌∙◌, ap}
use Rattle.std.proofs.lemmas.Bool.{and_parts}
use Rattle.std.specs.List.{list_all}
use Rattle.wat_ast.specs.declared.statement.Statement.{Statement}
use Rattle.wat_ast.specs.declared.statement.Statement.TheVariants as statement
use Rattle.wat_parse.specs.declared.script.Span.{Span}
use Rattle.wat_parse.specs.Parsing.{parsed_at}
use Rattle.wat_schema.specs.declared.refusal.Refusal.{Refusal}
use Rattle.wat_schema.specs.declared.refusal.Refusal.TheVariants.{Syntax}
use Rattle.wat_schema.specs.Tables.{Tables}
use Rattle.wat_meaning.specs.Meaning.{has_meaning, meaning}
use Rattle.wat_serial.specs.declared.script.ScriptRefusal.{ScriptRefusal}
use Rattle.wat_serial.specs.Script.{is_commit, after_meaning, after_statement, after_text, followed, run_from}
use Rattle.wat_spell_laws.specs.AsRead.{statement_as_read}
use Rattle.wat_script_texts.specs.Runs.{is_run, after_tree, run_trees_from}

pub run_as_read : (x : Statement) → is_run (statement_as_read x) ≡ is_run x
run_as_read (statement.CreateTable n elements) = refl
run_as_read (statement.CreateIndex n table columns) = refl
run_as_read (statement.DropTable n) = refl
run_as_read (statement.Insert table columns rows) = refl
run_as_read (statement.Update table sets filter) = refl
run_as_read (statement.Delete table filter) = refl
run_as_read (statement.Select q) = refl
run_as_read statement.Commit = refl
run_as_read statement.Checkpoint = refl
run_as_read statement.Rollback = refl
run_as_read (statement.RollbackTo n) = refl
run_as_read (statement.Savepoint n) = refl
run_as_read (statement.Release n) = refl
run_as_read (statement.SetLevel n) = refl
run_as_read (statement.SetBlocking on) = refl

pub commit_as_read : (x : Statement) → is_commit (statement_as_read x) ≡ is_commit x
commit_as_read (statement.CreateTable n elements) = refl
commit_as_read (statement.CreateIndex n table columns) = refl
commit_as_read (statement.DropTable n) = refl
commit_as_read (statement.Insert table columns rows) = refl
commit_as_read (statement.Update table sets filter) = refl
commit_as_read (statement.Delete table filter) = refl
commit_as_read (statement.Select q) = refl
commit_as_read statement.Commit = refl
commit_as_read statement.Checkpoint = refl
commit_as_read statement.Rollback = refl
commit_as_read (statement.RollbackTo n) = refl
commit_as_read (statement.Savepoint n) = refl
commit_as_read (statement.Release n) = refl
commit_as_read (statement.SetLevel n) = refl
commit_as_read (statement.SetBlocking on) = refl

one_of : (c m : Bool) (a b other : Result Tables Refusal) → (c || m) ≡ true → cond c a (cond m b other) ≡ cond c a b
one_of true m a b other h = refl
one_of false true a b other h = refl
one_of false false a b other h = let z : false ≡ true = h in cc

after_same : (place : ℕ) (s : Statement) (t : Tables) → is_run s ≡ true → after_statement place s t ≡ after_tree s t
after_same place s t h = one_of (is_commit s) (has_meaning s) (Ok t) (after_meaning t (meaning t s)) (Err (Syntax place)) h

followed_same : (number : ℕ) (f g : Tables → Result Tables ScriptRefusal) → ((t : Tables) → f t ≡ g t) → (r : Result Tables Refusal) → followed number f r ≡ followed number g r
followed_same number f g h (Ok t) = h t
followed_same number f g h (Err refusal) = refl

pub run_same : (text : List ℕ) (number : ℕ) (spans : List Span) (xs : List Statement) → map (parsed_at text) spans ≡ map (λ x. Ok (statement_as_read x)) xs → list_all is_run xs ≡ true
    → (t : Tables) → run_from text number spans t ≡ run_trees_from number (map statement_as_read xs) t
run_same text number [] [] e ok t = refl
run_same text number [] (x ∷ xs) e ok t = cc
run_same text number (span ∷ spans) [] e ok t = cc
run_same text number (span ∷ spans) (x ∷ xs) e ok t =
    let both = and_parts (is_run x) (list_all is_run xs) ok in
    let here : parsed_at text span ≡ Ok (statement_as_read x) = cc in
    let more : map (parsed_at text) spans ≡ map (λ y. Ok (statement_as_read y)) xs = cc in
    let rest = run_from text (suc number) spans in
    ap (λ (o : Result Statement ℕ). followed number rest (after_text span.from o t)) here
    ∙ ap (followed number rest) (after_same span.from (statement_as_read x) t (run_as_read x ∙ both.0))
    ∙ followed_same number rest (run_trees_from (suc number) (map statement_as_read xs)) (run_same text (suc number) spans xs more both.1) (after_tree (statement_as_read x) t)

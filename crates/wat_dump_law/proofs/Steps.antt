-- Statements that make acts one after another, put together of parts.
use Rattle.std.proofs.Common.{◌≡◌, List, [], ◌∷◌, ◌++◌, Some, refl, sym, ap, subst, ◌∙◌, append_assoc, append-nil}
use Rattle.std.specs.Option.{option_and_then}
use Rattle.wat_value.specs.declared.change.Act.{Act}
use Rattle.wat_ast.specs.declared.statement.Statement.{Statement}
use Rattle.wat_ast.specs.declared.statement.Statement.TheVariants.{Commit}
use Rattle.wat_schema.specs.Tables.{Row, Tables, apply, apply_all, catalog_of}
use Rattle.wat_written.specs.Written.{statement_of}
use Rattle.wat_script_texts.specs.Written.{IsWritten, commits, writes}
use Rattle.wat_dump.specs.Dump.{commit_of}

-- The acts lead from these tables to those, and the statements write them.
pub record Goes (t : Tables) (acts : List Act) (xs : List Statement) (u : Tables) : Type 0 where
  pub written : (more : List Act) (rest : List Statement) → IsWritten u more rest → IsWritten t (acts ++ more) (xs ++ rest)
  pub made : (more : List Act) → apply_all (acts ++ more) t ≡ apply_all more u

pub goes_none : (t : Tables) → Goes t [] [] t
goes_none t = record { written = λ more rest w. w; made = λ more. refl }

pub goes_one : (t u : Tables) (act : Act) (s : Statement) → apply act t ≡ Some u → statement_of (catalog_of t) act ≡ Some s → Goes t (act ∷ []) (s ∷ []) u
goes_one t u act s applies is = record {
  written = λ more rest w. writes t u act s more rest applies is w;
  made = λ more. ap (option_and_then (apply_all more)) applies;
}

pub goes_both : (t u v : Tables) (a b : List Act) (x y : List Statement) → Goes t a x u → Goes u b y v → Goes t (a ++ b) (x ++ y) v
goes_both t u v a b x y first later = record {
  written = λ more rest w.
      subst (λ (acts : List Act). IsWritten t acts ((x ++ y) ++ rest)) (sym (append_assoc a b more))
      (subst (λ (ss : List Statement). IsWritten t (a ++ (b ++ more)) ss) (sym (append_assoc x y rest)) (first.written (b ++ more) (y ++ rest) (later.written more rest w)));
  made = λ more. ap (λ (acts : List Act). apply_all acts t) (append_assoc a b more) ∙ first.made (b ++ more) ∙ later.made more;
}

-- COMMIT may stand behind them
pub goes_commit : (t u : Tables) (a : List Act) (x : List Statement) (rows : List Row) → Goes t a x u → Goes t a (x ++ commit_of rows) u
goes_commit t u a x [] go = record {
  written = λ more rest w. subst (λ (ss : List Statement). IsWritten t (a ++ more) (ss ++ rest)) (sym (append-nil x)) (go.written more rest w);
  made = go.made;
}
goes_commit t u a x (row ∷ rows) go = record {
  written = λ more rest w.
      subst (λ (ss : List Statement). IsWritten t (a ++ more) ss) (sym (append_assoc x (Commit ∷ []) rest)) (go.written more (Commit ∷ rest) (commits u more rest w));
  made = go.made;
}

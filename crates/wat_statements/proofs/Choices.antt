-- The first token of a statement tells which it is.
use Rattle.std.proofs.Common.{◌≡◌, ℕ, List, [], ◌∷◌, if◌then◌else◌, refl, ap}
use Rattle.wat_grammar.specs.Phrase.{first_kinds, sees, map, read_within}
use Rattle.wat_syntax.specs.Lexeme.{Lexeme}
use Rattle.wat_syntax.specs.declared.kind.Kind.{Kind}
use Rattle.wat_syntax.specs.declared.kind.Kind.TheVariants as k
use Rattle.wat_ast.specs.declared.statement.Statement.TheVariants as s
use Rattle.wat_syntax.specs.Sql.{sql, create, drop_table, insert, update, delete, query, commit, checkpoint, rollback, savepoint, release, set_option, statement}

-- with which kinds of token the statements begin
record Firsts : Type 0 where
  create : List Kind
  drop : List Kind
  insert : List Kind
  update : List Kind
  delete : List Kind
  query : List Kind
  commit : List Kind
  checkpoint : List Kind
  rollback : List Kind
  savepoint : List Kind
  release : List Kind

computed : Firsts
computed = record {
  create = first_kinds sql create;
  drop = first_kinds sql drop_table;
  insert = first_kinds sql insert;
  update = first_kinds sql update;
  delete = first_kinds sql delete;
  query = first_kinds sql query;
  commit = first_kinds sql commit;
  checkpoint = first_kinds sql checkpoint;
  rollback = first_kinds sql rollback;
  savepoint = first_kinds sql savepoint;
  release = first_kinds sql release;
}

single : Firsts
single = record {
  create = k.Create ∷ [];
  drop = k.Drop ∷ [];
  insert = k.Insert ∷ [];
  update = k.Update ∷ [];
  delete = k.Delete ∷ [];
  query = k.Select ∷ [];
  commit = k.Commit ∷ [];
  checkpoint = k.Checkpoint ∷ [];
  rollback = k.Rollback ∷ [];
  savepoint = k.Savepoint ∷ [];
  release = k.Release ∷ [];
}

are_single : computed ≡ single
unfolding computed single create drop_table insert update delete query commit checkpoint rollback savepoint release
are_single = refl

pub statement_is : (levels : ℕ) (ts : List Lexeme) → read_within sql levels statement ts
    ≡ (if sees sql (k.Create ∷ []) ts then read_within sql levels create ts else (
    if sees sql (k.Drop ∷ []) ts then read_within sql levels drop_table ts else (
    if sees sql (k.Insert ∷ []) ts then read_within sql levels insert ts else (
    if sees sql (k.Update ∷ []) ts then read_within sql levels update ts else (
    if sees sql (k.Delete ∷ []) ts then read_within sql levels delete ts else (
    if sees sql (k.Select ∷ []) ts then read_within sql levels (map s.Select query) ts else (
    if sees sql (k.Commit ∷ []) ts then read_within sql levels commit ts else (
    if sees sql (k.Checkpoint ∷ []) ts then read_within sql levels checkpoint ts else (
    if sees sql (k.Rollback ∷ []) ts then read_within sql levels rollback ts else (
    if sees sql (k.Savepoint ∷ []) ts then read_within sql levels savepoint ts else (
    if sees sql (k.Release ∷ []) ts then read_within sql levels release ts else read_within sql levels set_option ts)))))))))))
unfolding statement computed single
statement_is levels ts =
    ap (λ (f : Firsts).
    if sees sql f.create ts then read_within sql levels create ts else (
    if sees sql f.drop ts then read_within sql levels drop_table ts else (
    if sees sql f.insert ts then read_within sql levels insert ts else (
    if sees sql f.update ts then read_within sql levels update ts else (
    if sees sql f.delete ts then read_within sql levels delete ts else (
    if sees sql f.query ts then read_within sql levels (map s.Select query) ts else (
    if sees sql f.commit ts then read_within sql levels commit ts else (
    if sees sql f.checkpoint ts then read_within sql levels checkpoint ts else (
    if sees sql f.rollback ts then read_within sql levels rollback ts else (
    if sees sql f.savepoint ts then read_within sql levels savepoint ts else (
    if sees sql f.release ts then read_within sql levels release ts else read_within sql levels set_option ts))))))))))) are_single

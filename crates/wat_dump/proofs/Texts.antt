-- One statement more, in loops that write.
use Rattle.std.proofs.Common.{◌≡◌, ℕ, ◌+◌, ◌<◌, ◌==◌, Bool, true, false, cond, List, [], ◌∷◌, ◌++◌, map, filter, take, get_or, length, refl, sym, ap, ap₂, ◌∙◌}
use Rattle.std.specs.List.{flat_map}
use Rattle.std.proofs.lemmas.List.{append_assoc, append-nil, take_more}
use Rattle.std.proofs.lemmas.Grind.{flat_map-append}
use Rattle.wat_value.specs.declared.definition.TableDef.{TableDef}
use Rattle.wat_value.specs.declared.definition.IndexDef.{IndexDef}
use Rattle.wat_ast.specs.declared.statement.Statement.{Statement}
use Rattle.wat_expr.specs.Evaluation.{Combination}
use Rattle.wat_schema.specs.Catalog.{Catalog}
use Rattle.wat_schema.specs.Tables.{Row, Tables, catalog_of, rows_or_none}
use Rattle.wat_meaning.specs.Meaning.{alone, table_called}
use Rattle.wat_script_texts.specs.Texts.{ended_text, script_text}
use Rattle.wat_dump.specs.Dump.{commit_of, index_made, row_made, table_made, table_statements, written}
use Rattle.wat_dump.specs.Dumping.{combination_statements, index_statements, row_statements, statements_called}

pub push_both : (old mid new : List ℕ) (front behind : List Statement) → mid ≡ old ++ script_text front → new ≡ mid ++ script_text behind → new ≡ old ++ script_text (front ++ behind)
push_both old mid new front behind a b =
    b ∙ ap (λ (t : List ℕ). t ++ script_text behind) a ∙ append_assoc old (script_text front) (script_text behind) ∙ ap (λ (t : List ℕ). old ++ t) (sym (flat_map-append ended_text front behind))

module _ (c : Catalog) (def : TableDef) where
  both_indexes : (xs ys : List IndexDef) → index_statements c def (xs ++ ys) ≡ index_statements c def xs ++ index_statements c def ys
  both_indexes [] ys = refl
  both_indexes (x ∷ xs) ys = by (both_indexes xs ys) (def.number == x.table)
    where
      own : List IndexDef → List IndexDef
      own zs = filter (λ (index : IndexDef). def.number == index.table) zs

      by : (index_statements c def (xs ++ ys) ≡ index_statements c def xs ++ index_statements c def ys) → (b : Bool) → flat_map (written c) (map index_made (cond b (x ∷ own (xs ++ ys)) (own (xs ++ ys)))) ≡ flat_map (written c) (map index_made (cond b (x ∷ own xs) (own xs))) ++ index_statements c def ys
      by again true =
          ap (λ (rest : List Statement). written c (index_made x) ++ rest) again
          ∙ sym (append_assoc (written c (index_made x)) (index_statements c def xs) (index_statements c def ys))
      by again false = again

  pub index_more : (xs : List IndexDef) (i : ℕ) (d : IndexDef) (old out new : List ℕ) → i < length xs → out ≡ old ++ script_text (index_statements c def (take i xs))
      → new ≡ out ++ script_text (index_statements c def (get_or xs i d ∷ [])) → new ≡ old ++ script_text (index_statements c def (take (i + 1) xs))
  index_more xs i d old out new within before after =
      push_both old out new _ _ before after
      ∙ ap (λ (ss : List Statement). old ++ script_text ss) (sym (ap (index_statements c def) (take_more xs i d within) ∙ both_indexes (take i xs) (get_or xs i d ∷ [])))

  pub index_goes : (xs : List IndexDef) (i : ℕ) (x : IndexDef) (old out new : List ℕ) → i < length xs → x ≡ get_or xs i x → out ≡ old ++ script_text (index_statements c def (take i xs))
      → new ≡ out ++ script_text (index_statements c def (x ∷ [])) → new ≡ old ++ script_text (index_statements c def (take (i + 1) xs))
  index_goes xs i x old out new within is before after =
      index_more xs i x old out new within before (after ∙ ap (λ (y : IndexDef). out ++ script_text (index_statements c def (y ∷ []))) is)

  pub one_index : (x : IndexDef) (out new : List ℕ) (b : Bool) → (def.number == x.table) ≡ b → new ≡ cond b (out ++ script_text (written c (index_made x))) out → new ≡ out ++ script_text (index_statements c def (x ∷ []))
  one_index x out new true is e =
      e ∙ ap (λ (ss : List Statement). out ++ script_text ss) (sym (append-nil (written c (index_made x))))
      ∙ ap (λ (z : Bool). out ++ script_text (flat_map (written c) (map index_made (cond z (x ∷ []) [])))) (sym is)
  one_index x out new false is e =
      e ∙ sym (append-nil out)
      ∙ ap (λ (z : Bool). out ++ script_text (flat_map (written c) (map index_made (cond z (x ∷ []) [])))) (sym is)

  -- so many statements are still to come
  pub row_more : (row : Combination) (rest : List Combination) (out new all : List ℕ) → out ++ script_text (flat_map (combination_statements c def) (row ∷ rest)) ≡ all
      → new ≡ out ++ script_text (combination_statements c def row) → new ++ script_text (flat_map (combination_statements c def) rest) ≡ all
  row_more row rest out new all before after =
      ap (λ (t : List ℕ). t ++ script_text (flat_map (combination_statements c def) rest)) after
      ∙ append_assoc out (script_text (combination_statements c def row)) (script_text (flat_map (combination_statements c def) rest))
      ∙ ap (λ (t : List ℕ). out ++ t) (sym (flat_map-append ended_text (combination_statements c def row) (flat_map (combination_statements c def) rest)))
      ∙ before

  pub rows_alone : (rows : List Row) → flat_map (combination_statements c def) (map alone rows) ≡ row_statements c def rows
  rows_alone [] = refl
  rows_alone (row ∷ rows) = ap (λ (rest : List Statement). combination_statements c def (alone row) ++ rest) (rows_alone rows)

  pub row_ends : (rows : List Row) (rest : List Combination) (old out : List ℕ) → rest ≡ []
      → out ++ script_text (flat_map (combination_statements c def) rest) ≡ old ++ script_text (flat_map (combination_statements c def) (map alone rows)) → out ≡ old ++ script_text (row_statements c def rows)
  row_ends rows rest old out none so =
      sym (append-nil out) ∙ ap (λ (rs : List Combination). out ++ script_text (flat_map (combination_statements c def) rs)) (sym none) ∙ so ∙ ap (λ (ss : List Statement). old ++ script_text ss) (rows_alone rows)

-- CREATE TABLE, then the indexes, then the rows with COMMIT
pub whole_table : (t : Tables) (c : Catalog) (def : TableDef) (indexes : List IndexDef) (old one two three : List ℕ) → c ≡ catalog_of t
    → one ≡ old ++ script_text (written c (table_made def)) → two ≡ one ++ script_text (index_statements c def indexes)
    → three ≡ two ++ script_text (row_statements (catalog_of t) def (rows_or_none (table_called t def.name)) ++ commit_of (rows_or_none (table_called t def.name)))
    → three ≡ old ++ script_text (statements_called t indexes def)
whole_table t c def indexes old one two three is a b e =
    push_both old two three (first ++ between) (last ++ commit)
    (push_both old one two first between
    (a ∙ ap (λ (z : Catalog). old ++ script_text (written z (table_made def))) is)
    (b ∙ ap (λ (z : Catalog). one ++ script_text (index_statements z def indexes)) is)) e
    ∙ ap (λ (ss : List Statement). old ++ script_text ss) same
  where
    rows : List Row
    rows = rows_or_none (table_called t def.name)

    own : List IndexDef
    own = filter (λ (index : IndexDef). def.number == index.table) indexes

    first : List Statement
    first = written (catalog_of t) (table_made def)

    between : List Statement
    between = index_statements (catalog_of t) def indexes

    last : List Statement
    last = row_statements (catalog_of t) def rows

    commit : List Statement
    commit = commit_of rows

    same : (first ++ between) ++ (last ++ commit) ≡ statements_called t indexes def
    same =
        sym (append_assoc (first ++ between) last commit)
        ∙ ap (λ (ss : List Statement). ss ++ commit)
        (append_assoc first between last ∙ ap (λ (ss : List Statement). first ++ ss) (sym (flat_map-append (written (catalog_of t)) (map index_made own) (map (row_made def) rows))))

-- the statements of one table more
pub table_goes : (t : Tables) (indexes : List IndexDef) (defs : List TableDef) (i : ℕ) (x : TableDef) (old out new : List ℕ) → i < length defs → x ≡ get_or defs i x
    → out ≡ old ++ script_text (flat_map (statements_called t indexes) (take i defs)) → new ≡ out ++ script_text (statements_called t indexes x)
    → new ≡ old ++ script_text (flat_map (statements_called t indexes) (take (i + 1) defs))
table_goes t indexes defs i x old out new within is before after =
    let one = statements_called t indexes x in
    let front = flat_map (statements_called t indexes) (take i defs) in
    push_both old out new front one before after
    ∙ ap (λ (ss : List Statement). old ++ script_text (front ++ ss)) (sym (append-nil one))
    ∙ ap (λ (y : TableDef). old ++ script_text (front ++ (statements_called t indexes y ++ []))) is
    ∙ ap (λ (ss : List Statement). old ++ script_text ss)
    (sym (ap (flat_map (statements_called t indexes)) (take_more defs i x within) ∙ flat_map-append (statements_called t indexes) (take i defs) (get_or defs i x ∷ [])))

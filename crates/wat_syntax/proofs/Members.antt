-- What the grammar derives has no empty list.
use Rattle.std.proofs.Common.{◌≡◌, inl, inr, ℕ, Bool, true, false, ◌&&◌, List, [], ◌∷◌, ◌++◌, Option, Some, None, refl, sym, ◌∙◌, ap, subst}
use Rattle.std.specs.List.{list_all}
use Rattle.wat_ast.specs.declared.query.SelectItems.{SelectItems}
use Rattle.wat_ast.specs.declared.query.SelectItems.TheVariants as shown
use Rattle.wat_ast.specs.declared.query.Source.{Source}
use Rattle.wat_ast.specs.declared.query.OrderItem.{OrderItem}
use Rattle.wat_ast.specs.declared.query.Query.{Query}
use Rattle.wat_ast.specs.declared.expression.Expr.{Expr}
use Rattle.wat_ast.specs.declared.statement.Element.{Element}
use Rattle.wat_ast.specs.declared.statement.Element.TheVariants as element
use Rattle.wat_ast.specs.declared.statement.InsertSource.{InsertSource}
use Rattle.wat_ast.specs.declared.statement.InsertSource.TheVariants as from
use Rattle.wat_ast.specs.declared.statement.SetItem.{SetItem}
use Rattle.wat_ast.specs.declared.statement.Statement.{Statement}
use Rattle.wat_ast.specs.declared.statement.Statement.TheVariants as s
use Rattle.wat_grammar.specs.Phrase.{Repeats, DerivesWithin, seq, or, empty, map as map_phrase}
use Rattle.wat_syntax.specs.declared.kind.Kind.{Kind}
use Rattle.wat_syntax.specs.declared.kind.Kind.TheVariants as k
use Rattle.wat_syntax.specs.Lexeme.{Lexeme}
use Rattle.wat_syntax.specs.Sql.{Sql, sql, after, in_parentheses, list, select_items, query, source, defined_column, key_element, create_table, create_index, create, drop_table, insert_source, insert_columns, insert, update, delete, commit, checkpoint, rollback, savepoint, release, set_level, set_blocking, set_option, statement}
use Rattle.wat_syntax.specs.Sql as g
use Rattle.wat_syntax.specs.Members.{has_members, has_members_or_none, element_has_members, items_have_members, query_has_members, source_has_members, lists_have_members}

both : (a b : Bool) → a ≡ true → b ≡ true → (a && b) ≡ true
both a b p q = ap (λ (t : Bool). t && b) p ∙ q

module _ (d : ℕ) where
  -- what is derived passes the test
  abbrev Passes : {A : Type 0} → Sql A → (A → Bool) → Type 0
  Passes {A} p test = (ts : List Lexeme) (a : A) → DerivesWithin sql d p ts a → test a ≡ true

  behind : {A : Type 0} (kind : Kind) (p : Sql A) (test : A → Bool) → Passes p test → Passes (after kind p) test
  behind kind p test h ts a ((u, b), (us, vs, split, there, rest), is) = ap test is ∙ h vs b rest

  enclosed : {A : Type 0} (p : Sql A) (test : A → Bool) → Passes p test → Passes (in_parentheses p) test
  enclosed p test h ts a ((u, b), (us, vs, split, open_, ((c, u'), (us', vs', split', there, close), is')), is) = ap test is ∙ ap test is' ∙ h us' c there

  some : {A : Type 0} (p : Sql A) → Passes (list p) has_members
  some p ts xs ((x, more), there, is) = ap has_members is

  more_pass : {A : Type 0} (p : Sql A) (test : A → Bool) → Passes p test → (ts : List Lexeme) (xs : List A) → Repeats (DerivesWithin sql d p) ts xs → list_all test xs ≡ true
  more_pass p test h ts [] r = refl
  more_pass p test h ts (x ∷ xs) (us, vs, split, there, rest) = both (test x) (list_all test xs) (h us x there) (more_pass p test h vs xs rest)

  all_pass : {A : Type 0} (p : Sql A) (test : A → Bool) → Passes p test → Passes (list p) (list_all test)
  all_pass p test h ts xs ((x, more), (us, vs, split, there, rest), is) =
      ap (list_all test) is ∙ both (test x) (list_all test more) (h us x there) (more_pass (after k.Comma p) test (behind k.Comma p test h) vs more rest)

  -- ---- queries

  items_pass : Passes select_items items_have_members
  unfolding select_items
  items_pass ts x (inl there) = ap items_have_members there.2
  items_pass ts x (inr (xs, there, is)) = ap items_have_members is ∙ some g.expression ts xs there

  abbrev Rest : Type 0
  Rest = Option Expr × (List Expr × (Option Expr × List OrderItem))

  from_pass : Passes (after k.From (seq (list g.source) (seq g.filter (seq g.grouping (seq g.having g.ordering))))) (λ (z : List Source × Rest). has_members z.0)
  from_pass ts z ((u, y), (us, vs, split, word, (us1, vs1, split1, sources_there, more)), is) = ap (λ (z : List Source × Rest). has_members z.0) is ∙ some g.source us1 y.0 sources_there

  query_pass : Passes query query_has_members
  unfolding query
  query_pass ts x ((u, y), (us, vs, split, word, ((distinct, (items, (sources, rest))), (us1, vs1, split1, word1, (us2, vs2, split2, items_there, from_there)), made)), is) =
      ap query_has_members is ∙ ap query_has_members made ∙ both (items_have_members items) (has_members sources) (items_pass us2 items items_there) (from_pass vs2 (sources, rest) from_there)

  -- ---- tables

  element_pass : Passes g.element element_has_members
  unfolding g.element defined_column key_element
  element_pass ts x (inl (parts, there, is)) = ap element_has_members is
  element_pass ts x (inr ((u, y), (us, vs, split, word, ((u1, y1), (us1, vs1, split1, word1, (ns, there, made)), is1)), is)) =
      ap element_has_members is ∙ ap element_has_members is1 ∙ ap element_has_members made ∙ enclosed (list g.name) has_members (some g.name) vs1 ns there

  elements_pass : Passes (list g.element) (λ ys. has_members ys && list_all element_has_members ys)
  elements_pass ts xs there = both (has_members xs) (list_all element_has_members xs) (some g.element ts xs there) (all_pass g.element element_has_members element_pass ts xs there)

  create_pass : Passes create lists_have_members
  unfolding create create_table create_index
  create_pass ts x ((u, y), (us, vs, split, word, inl ((u1, y1), (us1, vs1, split1, word1, ((n, xs), (us2, vs2, split2, named, there), made)), is1)), is) =
      ap lists_have_members is ∙ ap lists_have_members is1 ∙ ap lists_have_members made
      ∙ enclosed (list g.element) (λ ys. has_members ys && list_all element_has_members ys) elements_pass vs2 xs there
  create_pass ts x ((u, y), (us, vs, split, word, inr ((u1, y1), (us1, vs1, split1, word1, ((n, z), (us2, vs2, split2, named, ((u3, z3), (us3, vs3, split3, on, (us4, vs4, split4, table, there)), is3)), made)), is1)), is) =
      ap lists_have_members is ∙ ap lists_have_members is1 ∙ ap lists_have_members made ∙ ap (λ (z : List ℕ × List (List ℕ)). has_members z.1) is3
      ∙ enclosed (list g.index_column) has_members (some g.index_column) vs4 z3.1 there

  drop_pass : Passes drop_table lists_have_members
  unfolding drop_table
  drop_pass ts x ((u, y), (us, vs, split, word, ((u1, y1), (us1, vs1, split1, word1, (n, there, made)), is1)), is) = ap lists_have_members is ∙ ap lists_have_members is1 ∙ ap lists_have_members made

  -- ---- rows

  columns_pass : Passes insert_columns has_members_or_none
  unfolding insert_columns
  columns_pass ts o (inl (xs, there, is)) = ap has_members_or_none is ∙ enclosed (list g.name) has_members (some g.name) ts xs there
  columns_pass ts o (inr there) = ap has_members_or_none there.1

  rows_pass : Passes insert_source source_has_members
  unfolding insert_source
  rows_pass ts x (inl ((u, y), (us, vs, split, word, (xs, there, made)), is)) =
      ap source_has_members is ∙ ap source_has_members made ∙ enclosed (list g.expression) has_members (some g.expression) vs xs there
  rows_pass ts x (inr (q, there, made)) = ap source_has_members made ∙ query_pass ts q there

  insert_pass : Passes insert lists_have_members
  unfolding insert
  insert_pass ts x ((u, y), (us, vs, split, word, ((into, (n, (columns, rows))), (us1, vs1, split1, into_there, (us2, vs2, split2, named, (us3, vs3, split3, columns_there, rows_there))), made)), is) =
      ap lists_have_members is ∙ ap lists_have_members made ∙ both (has_members_or_none columns) (source_has_members rows) (columns_pass us3 columns columns_there) (rows_pass vs3 rows rows_there)

  update_pass : Passes update lists_have_members
  unfolding update
  update_pass ts x ((u, y), (us, vs, split, word, ((n, z), (us1, vs1, split1, named, ((u2, z2), (us2, vs2, split2, set, (us3, vs3, split3, sets_there, filter_there)), is2)), made)), is) =
      ap lists_have_members is ∙ ap lists_have_members made ∙ ap (λ (z : List SetItem × Option Expr). has_members z.0) is2 ∙ some g.set_item us3 z2.0 sets_there

  delete_pass : Passes delete lists_have_members
  unfolding delete
  delete_pass ts x ((u, y), (us, vs, split, word, (parts, there, made)), is) = ap lists_have_members is ∙ ap lists_have_members made

  -- ---- transactions and options, which have no lists

  commit_pass : Passes commit lists_have_members
  unfolding commit
  commit_pass ts x ((u, y), (us, vs, split, word, (work, there, made)), is) = ap lists_have_members is ∙ ap lists_have_members made

  checkpoint_pass : Passes checkpoint lists_have_members
  unfolding checkpoint
  checkpoint_pass ts x there = ap lists_have_members there.2

  back_pass : Passes (or (g.sign k.Work s.Rollback) (or (after k.To (after k.Savepoint (map_phrase s.RollbackTo g.name))) (empty s.Rollback))) lists_have_members
  back_pass ts x (inl there) = ap lists_have_members there.2
  back_pass ts x (inr (inl ((u, y), (us, vs, split, word, ((u1, y1), (us1, vs1, split1, word1, (n, there, made)), is1)), is))) = ap lists_have_members is ∙ ap lists_have_members is1 ∙ ap lists_have_members made
  back_pass ts x (inr (inr there)) = ap lists_have_members there.1

  rollback_pass : Passes rollback lists_have_members
  unfolding rollback
  rollback_pass ts x ((u, y), (us, vs, split, word, there), is) = ap lists_have_members is ∙ back_pass vs y there

  savepoint_pass : Passes savepoint lists_have_members
  unfolding savepoint
  savepoint_pass ts x ((u, y), (us, vs, split, word, (n, there, made)), is) = ap lists_have_members is ∙ ap lists_have_members made

  release_pass : Passes release lists_have_members
  unfolding release
  release_pass ts x ((u, y), (us, vs, split, word, ((u1, y1), (us1, vs1, split1, word1, (n, there, made)), is1)), is) = ap lists_have_members is ∙ ap lists_have_members is1 ∙ ap lists_have_members made

  level_pass : Passes set_level lists_have_members
  unfolding set_level
  level_pass ts x ((u, y), (us, vs, split, word, ((u1, y1), (us1, vs1, split1, word1, (n, there, made)), is1)), is) = ap lists_have_members is ∙ ap lists_have_members is1 ∙ ap lists_have_members made

  blocking_pass : Passes set_blocking lists_have_members
  unfolding set_blocking
  blocking_pass ts x ((u, y), (us, vs, split, word, ((u1, y1), (us1, vs1, split1, word1, (on, there, made)), is1)), is) = ap lists_have_members is ∙ ap lists_have_members is1 ∙ ap lists_have_members made

  either_option : Passes (or set_level set_blocking) lists_have_members
  either_option ts x (inl there) = level_pass ts x there
  either_option ts x (inr there) = blocking_pass ts x there

  option_pass : Passes set_option lists_have_members
  unfolding set_option
  option_pass ts x ((u, y), (us, vs, split, word, ((u1, y1), (us1, vs1, split1, word1, ((u2, y2), (us2, vs2, split2, word2, there), is2)), is1)), is) =
      ap lists_have_members is ∙ ap lists_have_members is1 ∙ ap lists_have_members is2 ∙ either_option vs2 y2 there

  pub statement_pass : (ts : List Lexeme) (x : Statement) → DerivesWithin sql d statement ts x → lists_have_members x ≡ true
  unfolding statement
  statement_pass ts x (inl h) = create_pass ts x h
  statement_pass ts x (inr (inl h)) = drop_pass ts x h
  statement_pass ts x (inr (inr (inl h))) = insert_pass ts x h
  statement_pass ts x (inr (inr (inr (inl h)))) = update_pass ts x h
  statement_pass ts x (inr (inr (inr (inr (inl h))))) = delete_pass ts x h
  statement_pass ts x (inr (inr (inr (inr (inr (inl (q, there, made))))))) = ap lists_have_members made ∙ query_pass ts q there
  statement_pass ts x (inr (inr (inr (inr (inr (inr (inl h))))))) = commit_pass ts x h
  statement_pass ts x (inr (inr (inr (inr (inr (inr (inr (inl h)))))))) = checkpoint_pass ts x h
  statement_pass ts x (inr (inr (inr (inr (inr (inr (inr (inr (inl h))))))))) = rollback_pass ts x h
  statement_pass ts x (inr (inr (inr (inr (inr (inr (inr (inr (inr (inl h)))))))))) = savepoint_pass ts x h
  statement_pass ts x (inr (inr (inr (inr (inr (inr (inr (inr (inr (inr (inl h))))))))))) = release_pass ts x h
  statement_pass ts x (inr (inr (inr (inr (inr (inr (inr (inr (inr (inr (inr h))))))))))) = option_pass ts x h

-- The tokens with which the rules begin.
use Rattle.std.proofs.Common.{◌≡◌, [], ◌∷◌, refl}
use Rattle.wat_grammar.specs.Phrase.{first_kinds}
use Rattle.wat_syntax.specs.declared.kind.Kind.TheVariants as k
use Rattle.wat_syntax.specs.Sql.{sql, column, set_level, defined_column, create_table, column_rule}

pub first_column : first_kinds sql column ≡ k.Name ∷ []
unfolding column
first_column = refl

pub first_set_level : first_kinds sql set_level ≡ k.IsolationLevel ∷ []
unfolding set_level
first_set_level = refl

pub first_defined_column : first_kinds sql defined_column ≡ k.Name ∷ []
unfolding defined_column
first_defined_column = refl

pub first_create_table : first_kinds sql create_table ≡ k.Table ∷ []
unfolding create_table
first_create_table = refl

pub first_rule : first_kinds sql column_rule ≡ k.Not ∷ k.Null ∷ k.Primary ∷ []
unfolding column_rule
first_rule = refl

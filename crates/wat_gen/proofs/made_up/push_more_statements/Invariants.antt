use Rattle.std.proofs.Common.{◌≡◌, ◌++◌, codes, string_bytes, take}
use Rattle.std.specs.List.{flat_map}
use Rattle.wat_gen.specs.Statements.{statement_text}
use Rattle.wat_gen.proofs.made_up.push_more_statements.Given as goal

abbrev pub invariant-loop-statement : goal.invariant-loop-statement
invariant-loop-statement l =
    string_bytes l.text ≡ string_bytes l.initial.text ++ flat_map (λ statement. codes " " ++ statement_text statement) (take l.statement-index l.statements)

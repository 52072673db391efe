-- Running a script: each statement is read by the grammar, means what it means over the tables so far, and its acts are made.
use Rattle.std.specs.Prelude.{⊤, ◌≡◌, ℕ, suc, Bool, true, false, List, [], ◌∷◌, Option, Some, None, Result, Ok, Err, unwrap_or, if◌then◌else◌}
use Rattle.wat_ast.specs.declared.statement.Statement.{Statement}
use Rattle.wat_ast.specs.declared.statement.Statement.TheVariants.{Commit}
use Rattle.wat_schema.specs.declared.refusal.Refusal.{Refusal}
use Rattle.wat_schema.specs.declared.refusal.Refusal.TheVariants.{Syntax}
use Rattle.wat_schema.specs.Tables.{Tables, apply_all}
use Rattle.wat_names.specs.Refusals.{or_refused}
use Rattle.wat_meaning.specs.declared.reply.Meaning.{Meaning}
use Rattle.wat_meaning.specs.declared.reply.Reply.{Reply}
use Rattle.wat_meaning.specs.declared.reply.Reply.TheVariants as reply
use Rattle.wat_meaning.specs.Meaning.{has_meaning, meaning}
use Rattle.wat_parse.specs.declared.script.Span.{Span}
use Rattle.wat_parse.specs.Parsing.{parsed_at}
use Rattle.wat_parse.specs.Statements.{statements_of}
use Rattle.wat_serial.specs.declared.script.ScriptRefusal.{ScriptRefusal}
use Rattle.wat_serial.specs.declared.script.ScriptRefusal.TheVariants.{Refused, Memory}

abbrev pub refusal_of : Reply → Option Refusal
refusal_of (reply.Refused refusal) = Some refusal
refusal_of r = None

-- the tables with the acts made, or the refusal
abbrev pub after_meaning : Tables → Meaning → Result Tables Refusal
after_meaning t m = or_refused (unwrap_or (apply_all m.acts t) t) (refusal_of m.answer)

abbrev pub is_commit : Statement → Bool
is_commit Commit = true
is_commit s = false

-- What a statement makes of the tables, whose first token is at this place. COMMIT leaves them, and another statement that has no meaning over
-- tables is refused there.
abbrev pub after_statement : ℕ → Statement → Tables → Result Tables Refusal
after_statement place s t = if is_commit s then Ok t else if has_meaning s then after_meaning t (meaning t s) else Err (Syntax place)

-- what the text at a span makes of them
abbrev pub after_text : ℕ → Result Statement ℕ → Tables → Result Tables Refusal
after_text place (Err at) t = Err (Syntax at)
after_text place (Ok s) t = after_statement place s t

abbrev pub after_span : List ℕ → Span → Tables → Result Tables Refusal
after_span text span t = after_text span.from (parsed_at text span) t

-- what follows on a statement with this number
abbrev pub followed : ℕ → (Tables → Result Tables ScriptRefusal) → Result Tables Refusal → Result Tables ScriptRefusal
followed number rest (Err refusal) = Err (Refused number refusal)
followed number rest (Ok t) = rest t

-- the statements in order, of which the first has this number
abbrev pub run_from : List ℕ → ℕ → List Span → Tables → Result Tables ScriptRefusal
run_from text number [] t = Ok t
run_from text number (span ∷ spans) t = followed number (run_from text (suc number) spans) (after_span text span t)

-- the tables after a script, or the first statement that is refused
abbrev pub run : List ℕ → Tables → Result Tables ScriptRefusal
run text t = run_from text 1 (statements_of text) t

-- the refusal of what was computed, unless memory ran out
abbrev pub IsRefusedOrMemory : Result Tables ScriptRefusal → ScriptRefusal → Type 0
IsRefusedOrMemory outcome (Refused number refusal) = outcome ≡ Err (Refused number refusal)
IsRefusedOrMemory outcome Memory = ⊤

-- what was computed, unless memory ran out
abbrev pub IsUnlessMemory : Result Tables ScriptRefusal → Result Tables ScriptRefusal → Type 0
IsUnlessMemory outcome (Ok t) = outcome ≡ Ok t
IsUnlessMemory outcome (Err refusal) = IsRefusedOrMemory outcome refusal

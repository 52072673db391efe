-- What a statement does can be written.
use Rattle.std.proofs.Common.{◌≡◌, Option, Some, None, IsSome, All, refl, sym, subst}
use Rattle.wat_ast.specs.declared.statement.Statement.{Statement}
use Rattle.wat_schema.specs.Tables.{IsTables, Tables, apply_all}
use Rattle.wat_meaning.specs.declared.reply.Meaning.{Meaning}
use Rattle.wat_meaning.specs.Meaning.{meaning}
use Rattle.wat_meaning.proofs.ActsApply.{acts_apply}
use Rattle.wat_commit_log.specs.Pending.{IsWritableAct}
use Rattle.wat_commit_log.proofs.WritingLemmas.{acts_writable}

pub some_of : (o : Option Tables) → IsSome o → (t : Tables) × (o ≡ Some t)
some_of None h = cc
some_of (Some t) h = (t, refl)

pub meant_writable : (m : Meaning) (t : Tables) (s : Statement) → m ≡ meaning t s → IsTables t → All IsWritableAct m.acts
meant_writable m t s is ok =
    let makes = some_of (apply_all (meaning t s).acts t) (acts_apply t s ok) in
    subst (λ (n : Meaning). All IsWritableAct n.acts) (sym is) (acts_writable (meaning t s).acts t makes.0 ok makes.1)

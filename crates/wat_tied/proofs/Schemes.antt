-- What a CREATE or DROP means: it is refused without acts, or it says that it is made.
use Rattle.std.proofs.Common.{◌≡◌, ◌≢◌, ℕ, true, [], ◌∷◌, map, ◌⊎◌, Option, Some, None, refl, sym, ap, ◌∙◌, subst, inl, inr}
use Rattle.std.specs.Prelude.{IsSomeAnd, option_to_list}
use Rattle.wat_value.specs.declared.change.Act.TheVariants.{OnSchema}
use Rattle.wat_value.specs.declared.change.SchemaChange.{SchemaChange}
use Rattle.wat_ast.specs.declared.statement.Statement.{Statement}
use Rattle.wat_ast.specs.declared.statement.Statement.TheVariants as s
use Rattle.wat_schema.specs.declared.refusal.Refusal.{Refusal}
use Rattle.wat_schema.specs.Catalog.{Catalog}
use Rattle.wat_schema.specs.Definitions.{allows}
use Rattle.wat_schema.specs.Tables.{Tables, catalog_of}
use Rattle.wat_names.specs.Places.{placed_statement}
use Rattle.wat_names.specs.Refusals.{first, or_refused}
use Rattle.wat_rules.specs.Changes.{change_of, changes_schema, IsAllowed}
use Rattle.wat_rules.specs.Check.{check, refusals}
use Rattle.wat_rules.proofs.ChangeLemmas.{checked_change}
use Rattle.wat_meaning.specs.declared.reply.Reply.{Reply}
use Rattle.wat_meaning.specs.declared.reply.Reply.TheVariants as meant
use Rattle.wat_meaning.specs.Meaning.{made, done, meaning_checked, after_check, meaning}
use Rattle.wat_history.specs.Connection.{Part, Connection, opens}
use Rattle.wat_history.specs.Plain.{IsPlainAnswer as IsPlainTold}
use Rattle.wat_history.specs.History.{committed_by}
use Rattle.wat_steps.specs.Statements.{answer_saying}

-- it says that the table or index is created, or dropped
abbrev pub IsMade : Reply → Type 0
IsMade r = (r ≡ meant.Created) ⊎ (r ≡ meant.Dropped)

-- a schema statement opens no transaction
pub opens_none : (x : Statement) → changes_schema x ≡ true → opens x ≡ Rattle.std.proofs.Common.false
opens_none (s.CreateTable a b) h = refl
opens_none (s.CreateIndex a b d) h = refl
opens_none (s.DropTable a) h = refl
opens_none (s.Insert a b d) h = absurd (cc)
opens_none (s.Update a b d) h = absurd (cc)
opens_none (s.Delete a b) h = absurd (cc)
opens_none (s.Select a) h = absurd (cc)
opens_none s.Commit h = refl
opens_none s.Rollback h = refl
opens_none s.Checkpoint h = refl
opens_none (s.Savepoint a) h = absurd (cc)
opens_none (s.RollbackTo a) h = absurd (cc)
opens_none (s.Release a) h = absurd (cc)
opens_none (s.SetLevel a) h = refl
opens_none (s.SetBlocking a) h = refl

record IsMeant (t : Tables) (x : Statement) : Type 0 where
  says : IsMade (meaning_checked t x).answer
  acts : (meaning_checked t x).acts ≡ map OnSchema (option_to_list (change_of (catalog_of t) x))

checked_meant : (t : Tables) (x : Statement) → changes_schema x ≡ true → IsMeant t x
unfolding meaning_checked made done
checked_meant t (s.CreateTable a b) h = record { says = inl refl; acts = refl }
checked_meant t (s.CreateIndex a b d) h = record { says = inl refl; acts = refl }
checked_meant t (s.DropTable a) h = record { says = inr refl; acts = refl }
checked_meant t (s.Insert a b d) h = absurd (cc)
checked_meant t (s.Update a b d) h = absurd (cc)
checked_meant t (s.Delete a b) h = absurd (cc)
checked_meant t (s.Select a) h = absurd (cc)
checked_meant t s.Commit h = absurd (cc)
checked_meant t s.Rollback h = absurd (cc)
checked_meant t s.Checkpoint h = absurd (cc)
checked_meant t (s.Savepoint a) h = absurd (cc)
checked_meant t (s.RollbackTo a) h = absurd (cc)
checked_meant t (s.Release a) h = absurd (cc)
checked_meant t (s.SetLevel a) h = absurd (cc)
checked_meant t (s.SetBlocking a) h = absurd (cc)

placed_schema : (c : Catalog) (x : Statement) → changes_schema x ≡ true → changes_schema (placed_statement c x) ≡ true
placed_schema c (s.CreateTable a b) h = refl
placed_schema c (s.CreateIndex a b d) h = refl
placed_schema c (s.DropTable a) h = refl
placed_schema c (s.Insert a b d) h = absurd (cc)
placed_schema c (s.Update a b d) h = absurd (cc)
placed_schema c (s.Delete a b) h = absurd (cc)
placed_schema c (s.Select a) h = absurd (cc)
placed_schema c s.Commit h = absurd (cc)
placed_schema c s.Rollback h = absurd (cc)
placed_schema c s.Checkpoint h = absurd (cc)
placed_schema c (s.Savepoint a) h = absurd (cc)
placed_schema c (s.RollbackTo a) h = absurd (cc)
placed_schema c (s.Release a) h = absurd (cc)
placed_schema c (s.SetLevel a) h = absurd (cc)
placed_schema c (s.SetBlocking a) h = absurd (cc)

-- refused, without acts; or made, with one
abbrev pub IsRefusedOrMade : Tables → Statement → Type 0
IsRefusedOrMade t x = ((refusal : Refusal) × ((meaning t x).answer ≡ meant.Refused refusal) × ((meaning t x).acts ≡ [])) ⊎ (IsMade (meaning t x).answer × ((meaning t x).acts ≢ []))

pub schema_meant : (t : Tables) (x : Statement) → changes_schema x ≡ true → IsRefusedOrMade t x
unfolding meaning check
schema_meant t x h = by (first (refusals (catalog_of t) x)) refl
  where
    some : (o : Option SchemaChange) → IsSomeAnd o (λ c. allows c (catalog_of t) ≡ true) → map OnSchema (option_to_list o) ≢ []
    some None k = absurd k
    some (Some c) k = λ e. cc

    by : (o : Option Refusal) → first (refusals (catalog_of t) x) ≡ o
        → ((refusal : Refusal) × ((after_check t (or_refused (placed_statement (catalog_of t) x) o)).answer ≡ meant.Refused refusal) × ((after_check t (or_refused (placed_statement (catalog_of t) x) o)).acts ≡ []))
        ⊎ (IsMade (after_check t (or_refused (placed_statement (catalog_of t) x) o)).answer × ((after_check t (or_refused (placed_statement (catalog_of t) x) o)).acts ≢ []))
    by (Some refusal) e = inl (refusal, refl, refl)
    by None e =
        let placed : Statement = placed_statement (catalog_of t) x in
        let is : changes_schema placed ≡ true = placed_schema (catalog_of t) x h in
        let m = checked_meant t placed is in
        let allowed : IsAllowed (catalog_of t) placed = checked_change (catalog_of t) x placed (ap (or_refused placed) e) is in
        inr (m.says, λ none. some (change_of (catalog_of t) placed) allowed (sym m.acts ∙ none))

-- what is made is committed alone, by its number
pub made_commits : (number : ℕ) (r : Reply) → IsMade r → (c : Connection) (p : Part) → committed_by c p (answer_saying number r) ≡ record { number = number; parts = p ∷ [] } ∷ []
made_commits number r (inl e) c p = ap (λ z. committed_by c p (answer_saying number z)) e
made_commits number r (inr e) c p = ap (λ z. committed_by c p (answer_saying number z)) e

pub made_done : (number : ℕ) (r : Reply) → IsMade r → Rattle.wat_history.specs.Connection.is_done (answer_saying number r) ≡ true
made_done number r (inl e) = ap (λ z. Rattle.wat_history.specs.Connection.is_done (answer_saying number z)) e
made_done number r (inr e) = ap (λ z. Rattle.wat_history.specs.Connection.is_done (answer_saying number z)) e

pub made_plain_told : (number : ℕ) (r : Reply) → IsMade r → (cat : Catalog) (p : Part) → IsPlainTold cat p (answer_saying number r)
made_plain_told number r (inl e) cat p = subst (λ z. IsPlainTold cat p (answer_saying number z)) (sym e) tt
made_plain_told number r (inr e) cat p = subst (λ z. IsPlainTold cat p (answer_saying number z)) (sym e) tt

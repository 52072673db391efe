-- Where the payloads of the chains fail.
use Rattle.std.proofs.Common.{◌≡◌, ◌≢◌, inl, inr, ℕ, List, Option, Some, None, refl, sym, subst}
use Rattle.wat_restore.specs.Head.{Head}
use Rattle.wat_book.specs.Book.{Section}
use Rattle.wat_images.specs.declared.refusal.PageRefusal.{PageRefusal}
use Rattle.wat_images.specs.Refusal.{IfDamaged}
use Rattle.wat_images.proofs.Writing.{if_damaged}
use Rattle.wat_schema.specs.Catalog.{Catalog}
use Rattle.wat_schema.specs.Stored.{IsCatalog}
use Rattle.wat_replay.specs.State.{Lists, no_lists}
use Rattle.wat_spelled.specs.Changes.{TellsLists, SpellsLists}
use Rattle.wat_spelled.specs.Schema.{SpellsSchema}
use Rattle.wat_files.specs.Chains.{Chains}
use Rattle.wat_files.specs.Formed.{IsAtPage, HoldsSchema, FailsInCatalog}
use Rattle.wat_roots.proofs.Going.{page_to}
use Rattle.wat_catalog_chain.specs.Definitions.{SpellsThis, SpellsNoSchema, SpellsBadSchema}
use Rattle.wat_loading.specs.Parts.{IfSpelled, TellParts}

pub of_page : (refusal : PageRefusal) (page : ℕ) (Q : Type 0) → Q → IfDamaged refusal (λ file at. IsAtPage file at (λ here. here ≡ page)) → IfDamaged refusal (λ file at. IsAtPage file at (λ here. (here ≡ page) × Q))
of_page refusal page Q is = page_to refusal (λ here. here ≡ page) (λ here. (here ≡ page) × Q) (λ here same. (same, is))

-- a chain that isn't empty tells what it spells
pub tells_spelled : (first : ℕ) (payload : List ℕ) (lists : Lists) → first ≢ 0 → SpellsLists payload lists → TellsLists first payload lists
tells_spelled first payload lists some spells = record { none = λ none. absurd (some none); some = λ is. spells }

pub none_told : (first : ℕ) (payload : List ℕ) → first ≡ 0 → TellsLists first payload no_lists
none_told first payload none = record { none = λ is. refl; some = λ some. absurd (some none) }

module _ (pages : Section) (log : List ℕ) (head : Head) (chains : Chains) (payload changes : List ℕ) (schema_is : payload ≡ chains.schema) (changes_are : changes ≡ chains.changes) where
  pub no_schema : (refusal : PageRefusal) → IfDamaged refusal (λ file at. IsAtPage file at (λ here. (here ≡ head.catalog) × SpellsNoSchema payload head.next_table)) → IfDamaged refusal (FailsInCatalog pages log head chains)
  no_schema refusal = if_damaged refusal (λ file at. IsAtPage file at (λ here. (here ≡ head.catalog) × SpellsNoSchema payload head.next_table)) (FailsInCatalog pages log head chains)
      (λ file at is. inl (record {
        page = is.page;
        stops = (is.stops.0, λ schema holds. is.stops.1 schema holds.next (subst (λ (bytes : List ℕ). SpellsSchema bytes schema) (sym schema_is) holds.spells));
        in_main = is.in_main;
        place = is.place;
      }))

  record Spelled : Type 0 where
    schema : Catalog
    holds : HoldsSchema head chains.schema schema

  some_schema : (o : Option Catalog) → IfSpelled payload head.next_table o → Spelled
  some_schema None bad = record { schema = bad.schema; holds = record { spells = subst (λ (bytes : List ℕ). SpellsSchema bytes bad.schema) schema_is bad.spells; next = bad.numbered } }
  some_schema (Some schema) this = record { schema = schema; holds = record { spells = subst (λ (bytes : List ℕ). SpellsSchema bytes schema) schema_is this.spells; next = this.numbered } }

  pub no_changes : (refusal : PageRefusal) (o : Option Catalog) → IfSpelled payload head.next_table o
      → IfDamaged refusal (λ file at. IsAtPage file at (λ here. (here ≡ head.rollback) × ((lists : Lists) → TellsLists head.rollback changes lists → ⊥))) → IfDamaged refusal (FailsInCatalog pages log head chains)
  no_changes refusal o spelled =
      let found = some_schema o spelled in
      if_damaged refusal (λ file at. IsAtPage file at (λ here. (here ≡ head.rollback) × ((lists : Lists) → TellsLists head.rollback changes lists → ⊥))) (FailsInCatalog pages log head chains)
      (λ file at is. inr (
        found.schema,
        found.holds,
        inl (record {
          page = is.page;
          stops = (is.stops.0, λ lists tells. is.stops.1 lists (subst (λ (bytes : List ℕ). TellsLists head.rollback bytes lists) (sym changes_are) tells));
          in_main = is.in_main;
          place = is.place;
        }),
      ))

  pub bad_schema : (refusal : PageRefusal) (lists : Lists) → SpellsBadSchema payload head.next_table → TellsLists head.rollback changes lists → IfDamaged refusal (λ file at. IsAtPage file at (λ here. here ≡ head.catalog))
      → IfDamaged refusal (FailsInCatalog pages log head chains)
  bad_schema refusal lists bad tells =
      if_damaged refusal (λ file at. IsAtPage file at (λ here. here ≡ head.catalog)) (FailsInCatalog pages log head chains)
      (λ file at is. inr (
        bad.schema,
        record { spells = subst (λ (bytes : List ℕ). SpellsSchema bytes bad.schema) schema_is bad.spells; next = bad.numbered },
        inr (
          lists,
          subst (λ (bytes : List ℕ). TellsLists head.rollback bytes lists) changes_are tells,
          inl (record { page = is.page; stops = (is.stops, bad.bad); in_main = is.in_main; place = is.place }),
        ),
      ))

  pub parts : (schema : Catalog) (lists : Lists) → SpellsThis payload head.next_table schema → TellsLists head.rollback changes lists → IsCatalog schema → TellParts head chains schema lists
  parts schema lists this tells ok = record {
    holds = record { spells = subst (λ (bytes : List ℕ). SpellsSchema bytes schema) schema_is this.spells; next = this.numbered };
    tells = subst (λ (bytes : List ℕ). TellsLists head.rollback bytes lists) changes_are tells;
    catalog = ok;
  }

pub never_damaged : (refusal : PageRefusal) (P : ℕ → ℕ → Type 0) → IfDamaged refusal (λ file at. ⊥) → IfDamaged refusal P
never_damaged refusal P = if_damaged refusal (λ file at. ⊥) P (λ file at no. absurd no)

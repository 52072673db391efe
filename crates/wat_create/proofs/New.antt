-- The pages of a new database.
use Rattle.std.proofs.Common.{◌≡◌, ℕ, ◌+◌, ◌-◌, ◌<◌, ◌^◌, List, [], ◌∷◌, ◌++◌, length, take, drop, replicate, refl, ◌∙◌, ap, arith, length-append}
use Rattle.std.specs.Prelude.{nat_eq, Result, Ok, Err, IfOk}
use Rattle.std.specs.List.{IsDistinct}
use Rattle.std.proofs.lemmas.List.{take_at, drop_at, take_all, length-replicate}
use Rattle.std.proofs.lemmas.Map.Keys.{IsDistinct-cons}
use Rattle.wat_restore.specs.Head.{IsHead, head_bytes, head_fields}
use Rattle.wat_restore.specs.Restored.{HasPage}
use Rattle.wat_book.specs.Chains.{IsChainPage, chain_front}
use Rattle.wat_book.proofs.Chaining.{none_twice}
use Rattle.wat_schema.specs.Catalog.{Catalog}
use Rattle.wat_schema.specs.Stored.{IsCatalog}
use Rattle.wat_log_record.specs.Encoding.{number_bytes}
use Rattle.wat_spelled.specs.Schema.{SpellsSchema}
use Rattle.wat_create.specs.Made.{first_head, no_listings, catalog_page, main_bytes}

pub long_head : (limit : ℕ) → length (head_bytes (first_head limit)) ≡ 4096
unfolding head_bytes
long_head limit = omega (arith, length-append (head_fields (first_head limit)) (replicate (4096 - 56) 0), length-replicate {A = ℕ} (4096 - 56) 0)

-- the header, where zeros are put behind its fields
pub padded_head : (front : List ℕ) (limit : ℕ) → front ≡ head_fields (first_head limit) → front ++ replicate (4096 - length front) 0 ≡ head_bytes (first_head limit)
unfolding head_bytes
padded_head front limit is =
    let count : 4096 - length front ≡ 4096 - 56 = omega (arith, ap length is) in
    (λ i. is i ++ replicate (count i) 0)

-- the catalog's page up to its zeros
abbrev catalog_front : List ℕ
catalog_front = chain_front 0 4 ++ no_listings

pub long_catalog : length catalog_page ≡ 4096
unfolding catalog_page
long_catalog = omega (arith, length-append catalog_front (replicate (4080 - 4) 0), length-replicate {A = ℕ} (4080 - 4) 0)

pub padded_catalog : catalog_front ++ replicate (4096 - 20) 0 ≡ catalog_page
unfolding catalog_page
padded_catalog = refl

pub long_main : (limit : ℕ) → length (main_bytes limit) ≡ 8192
long_main limit = omega (arith, length-append (head_bytes (first_head limit)) catalog_page, long_head limit, long_catalog)

pub first_page : (limit : ℕ) → HasPage (main_bytes limit) 0 (head_bytes (first_head limit))
first_page limit = record {
  whole = omega (arith, long_main limit);
  is = take_at (head_bytes (first_head limit)) catalog_page 4096 (long_head limit);
}

pub second_page : (limit : ℕ) → HasPage (main_bytes limit) 1 catalog_page
second_page limit = record {
  whole = omega (arith, long_main limit);
  is = ap (take 4096) (drop_at (head_bytes (first_head limit)) catalog_page 4096 (long_head limit)) ∙ take_all 4096 catalog_page (omega (arith, long_catalog));
}

pub is_head : (limit : ℕ) → limit < 2 ^ 32 → IsHead (head_bytes (first_head limit)) (first_head limit)
is_head limit small = record {
  bytes = refl;
  fits = record { some = omega arith; limit = small; count = omega arith; frames = omega arith; place = omega arith; catalog = omega arith; rollback = omega arith; free = omega arith; next_table = omega arith };
}

in_front : take 16 catalog_page ≡ chain_front 0 4
unfolding catalog_page
in_front = refl

in_part : take 4 (drop 16 catalog_page) ≡ no_listings
unfolding catalog_page
in_part = refl

pub in_chain : IsChainPage catalog_page 0 no_listings
in_chain = record { front = in_front; payload = in_part; short = omega arith; number = omega arith; whole = long_catalog }

pub one_alone : IsDistinct nat_eq (1 ∷ [])
one_alone = IsDistinct-cons nat_eq 1 [] tt none_twice

-- the catalog without tables
abbrev pub schema : Catalog
schema = record { tables = []; next = 1 }

pub spells_schema : SpellsSchema no_listings schema
unfolding number_bytes
spells_schema = record { bytes = refl; few = omega arith; encodable = tt; order = refl; numbered = refl }

pub is_catalog : IsCatalog schema
is_catalog = record { order = refl; next = omega arith; few = omega arith; tables = refl; names = refl; indexes = refl }

-- a fact of what is answered, from another
pub if_ok : {T E : Type 0} (r : Result T E) (P Q : T → Type 0) → ((x : T) → P x → Q x) → IfOk r P → IfOk r Q
if_ok (Ok x) P Q says is = says x is
if_ok (Err e) P Q says is = tt

-- Chains of pages: how a payload of any length stands on pages of one owner. The catalog, the changes to roll back and the roots of trees stand so.
use Rattle.std.specs.Prelude.{◌≡◌, ◌⊎◌, ℕ, ◌+◌, ◌*◌, ◌<◌, ◌≤◌, ◌^◌, nat_eq, nat_lt, true, if◌then◌else◌, List, [], ◌∷◌, ◌++◌, length, take, drop, replicate, Option, Some, None, IsSome}
use Rattle.std.specs.List.{list_any, IsDistinct}
use Rattle.std.specs.Int.{w16, w32, to_be_bytes}
use Rattle.wat_book.specs.Book.{Book, Section}

-- the first 16 bytes of a page of a chain: the kind, the next page or 0, the number of bytes of its part, and zeros
abbrev pub chain_front : ℕ → ℕ → List ℕ
chain_front next count = 2 ∷ 0 ∷ 0 ∷ 0 ∷ to_be_bytes w32 next ++ to_be_bytes w16 count ++ replicate 6 0

-- A page of a chain: the next page or 0, and a part of the payload. The bytes behind the part mean nothing.
pub record IsChainPage (page : List ℕ) (next : ℕ) (part : List ℕ) : Type 0 where
  pub front : take 16 page ≡ chain_front next (length part)
  pub payload : take (length part) (drop 16 page) ≡ part
  pub short : length part ≤ 4080
  pub number : next < 2 ^ 32
  pub whole : length page ≡ 4096

-- There is such a page here.
abbrev pub IsLink : Option (List ℕ) → ℕ → List ℕ → Type 0
IsLink None next part = ⊥
IsLink (Some page) next part = IsChainPage page next part

-- There is no page, or none of a chain.
abbrev pub IsNoLink : Option (List ℕ) → Type 0
IsNoLink page = (next : ℕ) (part : List ℕ) → IsLink page next part → ⊥

-- These pages begin a chain, from the first of them on: each tells the next, the last of them tells `end`, and these bytes are their parts.
abbrev pub BeginsChain : Section → ℕ → List ℕ → List ℕ → ℕ → Type 0
BeginsChain pages first [] payload end = (first ≡ end) × (payload ≡ [])
BeginsChain pages first (here ∷ rest) payload end =
    (first ≡ here) × (0 < here) × (next : ℕ) × (part others : List ℕ) × IsLink (pages here) next part × (payload ≡ part ++ others) × BeginsChain pages next rest others end

-- These pages are the chain from the first of them on, and hold the payload.
abbrev pub IsChain : Section → ℕ → List ℕ → List ℕ → Type 0
IsChain pages first list payload = BeginsChain pages first list payload 0

-- ---- an owner's chain

-- The section has these pages alone.
abbrev pub HasAlone : Section → List ℕ → Type 0
HasAlone pages list = (page : ℕ) → IsSome (pages page) → list_any (nat_eq page) list ≡ true

-- All pages of the section are one chain, which holds the payload.
pub record HoldsPayload (pages : Section) (first : ℕ) (payload : List ℕ) : Type 0 where
  pub list : List ℕ
  pub chain : IsChain pages first list payload
  pub all : HasAlone pages list

-- The same, on as few pages as the payload needs: none for an empty payload, and else each page but the last is full.
pub record HoldsBriefly (pages : Section) (first : ℕ) (payload : List ℕ) : Type 0 where
  pub holds : HoldsPayload pages first payload
  pub few : 4080 * length holds.list ≤ length payload + 4079

-- ---- a chain that is read, whoever has its pages

-- the pages below the count
abbrev pub all_pages : Book → Section
all_pages book page = if nat_lt page book.count then Some (book.page page) else None

-- The pages from the first on are a chain. None of them comes twice, or was met before.
pub record IsReadChain (pages : Section) (met : List ℕ) (first : ℕ) (list payload : List ℕ) : Type 0 where
  pub chain : IsChain pages first list payload
  pub once : IsDistinct nat_eq (met ++ list)

-- The pages from the first on are no chain, and this is the first page that breaks the rules: it comes twice or was met before, or it is no page of a chain.
pub record BreaksAt (pages : Section) (met : List ℕ) (first here : ℕ) : Type 0 where
  pub list : List ℕ
  pub payload : List ℕ
  pub begins : BeginsChain pages first list payload here
  pub once : IsDistinct nat_eq (met ++ list)
  pub some : 0 < here
  pub broken : (list_any (nat_eq here) (met ++ list) ≡ true) ⊎ IsNoLink (pages here)

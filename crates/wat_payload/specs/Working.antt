-- The pages of an owner, while its chain is written anew.
use Rattle.std.specs.Prelude.{◌≡◌, ◌≢◌, ℕ, ◌+◌, ◌*◌, ◌≤◌, nat_eq, false, true, List, ◌∷◌, length, IsSome}
use Rattle.std.specs.List.{list_any, IsDistinct}
use Rattle.wat_book.specs.Book.{Book, Owners, Section, section, IsOwned, Works}
use Rattle.wat_book.specs.Chains.{IsChain, HasAlone}

-- One page of the section stays where it is, if it isn't 0; it is none of the list.
pub record IsKept (pages : Section) (kept : ℕ) (list : List ℕ) : Type 0 where
  pub there : kept ≢ 0 → IsSome (pages kept)
  pub apart : list_any (nat_eq kept) list ≡ false

-- These pages are left to be freed, beside the one that stays.
pub record IsLeft (pages : Section) (kept : ℕ) (rest : List ℕ) : Type 0 where
  pub all : HasAlone pages (kept ∷ rest)
  pub there : (page : ℕ) → list_any (nat_eq page) rest ≡ true → IsSome (pages page)
  pub once : IsDistinct nat_eq rest
  pub stays : IsKept pages kept rest

-- These pages are a chain that holds the payload, beside the one that stays.
pub record IsTail (pages : Section) (kept first : ℕ) (list payload : List ℕ) : Type 0 where
  pub chain : IsChain pages first list payload
  pub all : HasAlone pages (kept ∷ list)
  pub stays : IsKept pages kept list

-- The owner freed that many pages, and these are left.
pub record Freed (me : ℕ) (old : Book) (owners : Owners) (free : List ℕ) (new : Book) (kept : ℕ) (rest : List ℕ) (many : ℕ) : Type 0 where
  pub next : Owners
  pub unused : List ℕ
  pub owned : IsOwned new next unused
  pub works : Works me old owners new next
  pub left : IsLeft (section new next me) kept rest
  pub count : new.count ≡ old.count
  pub more : length unused ≡ length free + many

-- The owner took that many pages, and its chain are these.
pub record Took (me : ℕ) (old : Book) (owners : Owners) (free : List ℕ) (new : Book) (kept first : ℕ) (list payload : List ℕ) (many : ℕ) : Type 0 where
  pub next : Owners
  pub unused : List ℕ
  pub owned : IsOwned new next unused
  pub works : Works me old owners new next
  pub tail : IsTail (section new next me) kept first list payload
  pub sum : length free + new.count ≡ length unused + many + old.count

-- The chain was laid on as few pages as the payload needs.
pub record LaidBriefly (me : ℕ) (old : Book) (owners : Owners) (free : List ℕ) (new : Book) (kept first : ℕ) (payload : List ℕ) : Type 0 where
  pub list : List ℕ
  pub took : Took me old owners free new kept first list payload (length list)
  pub few : 4080 * length list ≤ length payload + 4079

-- All pages of the section are this chain, which holds the payload.
pub record IsWhole (pages : Section) (first : ℕ) (list payload : List ℕ) : Type 0 where
  pub chain : IsChain pages first list payload
  pub all : HasAlone pages list

-- The owner has worked, and its pages are this chain.
pub record WorkedTo (me : ℕ) (old : Book) (owners : Owners) (new : Book) (first : ℕ) (list payload : List ℕ) : Type 0 where
  pub next : Owners
  pub free : List ℕ
  pub owned : IsOwned new next free
  pub works : Works me old owners new next
  pub whole : IsWhole (section new next me) first list payload

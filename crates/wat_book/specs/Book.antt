-- Pages and whose they are: each is the header's, free, or a page of one object (a chain, the rows, a tree).
use Rattle.std.specs.Prelude.{◌≡◌, ◌≢◌, ◌⊎◌, ℕ, ◌+◌, ◌<◌, ◌≤◌, ◌==◌, ◌&&◌, nat_lt, nat_eq, true, List, [], ◌∷◌, take, drop, if◌then◌else◌, Option, Some, None}
use Rattle.std.specs.List.{list_any}
use Rattle.std.specs.Int.{w32, from_be_bytes}

-- the pages now: how many, the bytes of each, and the first free one or 0
pub record Book : Type 0 where
  pub count : ℕ
  pub page : ℕ → List ℕ
  pub first_free : ℕ

-- the owner of each page, by a number
abbrev pub Owners : Type 0
Owners = ℕ → ℕ

-- whose the free pages are, and the header's
abbrev pub nobody : ℕ
nobody = 0

abbrev pub header : ℕ
header = 1

-- the pages of one owner, with their bytes; an object is told by these alone
abbrev pub Section : Type 0
Section = ℕ → Option (List ℕ)

abbrev pub section : Book → Owners → ℕ → Section
section book owners who page = if nat_lt page book.count && (owners page == who) then Some (book.page page) else None

-- ---- the free pages

-- the number of the next page, in a free page or one of a chain
abbrev pub next_in : List ℕ → ℕ
next_in bytes = from_be_bytes w32 (take 4 (drop 4 bytes))

-- a free page: its kind, and the next one or 0
abbrev pub IsFreePage : Option (List ℕ) → ℕ → Type 0
IsFreePage None next = ⊥
IsFreePage (Some bytes) next = (take 1 bytes ≡ 4 ∷ []) × (next ≡ next_in bytes)

-- these pages, from the first of them on, each telling the next
abbrev pub IsFreeChain : Section → ℕ → List ℕ → Type 0
IsFreeChain pages first [] = first ≡ 0
IsFreeChain pages first (here ∷ rest) = (first ≡ here) × (0 < here) × (next : ℕ) × IsFreePage (pages here) next × IsFreeChain pages next rest

-- The free pages are in the list, and no others.
pub record AreFree (book : Book) (owners : Owners) (free : List ℕ) : Type 0 where
  pub chain : IsFreeChain (section book owners nobody) book.first_free free
  pub all : (page : ℕ) → page < book.count → owners page ≡ nobody → list_any (nat_eq page) free ≡ true

-- Page 0 is the header's alone, and the free pages are listed.
pub record IsOwned (book : Book) (owners : Owners) (free : List ℕ) : Type 0 where
  pub some : 0 < book.count
  pub first : owners 0 ≡ header
  pub unused : AreFree book owners free

-- ---- what an object may do

-- One of the owners has worked: it took free pages and new ones, and freed some of its own. All pages of others have their bytes and their owner.
pub record Works (me : ℕ) (old : Book) (owners : Owners) (new : Book) (next : Owners) : Type 0 where
  pub count : old.count ≤ new.count
  pub others : (page : ℕ) → page < old.count → owners page ≢ me → owners page ≢ nobody → (new.page page ≡ old.page page) × (next page ≡ owners page)
  pub mine : (page : ℕ) → page < old.count → (owners page ≡ me) ⊎ (owners page ≡ nobody) → (next page ≡ me) ⊎ (next page ≡ nobody)
  pub added : (page : ℕ) → old.count ≤ page → page < new.count → (next page ≡ me) ⊎ (next page ≡ nobody)

-- After the work of one owner the pages have these owners, and these are free.
pub record WorksTo (me : ℕ) (old : Book) (owners : Owners) (new : Book) (next : Owners) (free : List ℕ) : Type 0 where
  pub owned : IsOwned new next free
  pub works : Works me old owners new next

-- One owner has worked on the pages, and its own pages have P.
pub record Worked (me : ℕ) (old : Book) (owners : Owners) (new : Book) (P : Section → Type 0) : Type 0 where
  pub next : Owners
  pub free : List ℕ
  pub owned : IsOwned new next free
  pub works : Works me old owners new next
  pub holds : P (section new next me)

-- the owners, where one page has changed hands
abbrev pub with_owner : ℕ → ℕ → Owners → Owners
with_owner page who owners other = if page == other then who else owners other

-- ---- what the calls of pages make of the book

-- all pages are as they were
pub record SameBook (old new : Book) : Type 0 where
  pub pages : (page : ℕ) → page < old.count → new.page page ≡ old.page page
  pub count : new.count ≡ old.count
  pub first : new.first_free ≡ old.first_free

-- all pages but the header's are as they were
pub record SameButHeader (old new : Book) : Type 0 where
  pub pages : (page : ℕ) → 1 ≤ page → page < old.count → new.page page ≡ old.page page
  pub count : new.count ≡ old.count
  pub first : new.first_free ≡ old.first_free

-- A page is handed out: the first free one, or else a new one.
abbrev pub page_taken : Book → ℕ
page_taken book = if book.first_free == 0 then book.count else book.first_free

pub record TakesPage (old new : Book) : Type 0 where
  pub pages : (page : ℕ) → page < old.count → new.page page ≡ old.page page
  pub count : new.count ≡ (if old.first_free == 0 then old.count + 1 else old.count)
  pub first : new.first_free ≡ (if old.first_free == 0 then 0 else next_in (old.page old.first_free))

-- A page is taken back: it is the first free one, and tells the one before.
pub record GivesPage (given : ℕ) (old new : Book) : Type 0 where
  pub others : (page : ℕ) → page < old.count → page ≢ given → new.page page ≡ old.page page
  pub kind : take 1 (new.page given) ≡ 4 ∷ []
  pub tells : next_in (new.page given) ≡ old.first_free
  pub count : new.count ≡ old.count
  pub first : new.first_free ≡ given

-- a page is written
pub record Writes (written : ℕ) (bytes : List ℕ) (old new : Book) : Type 0 where
  pub others : (page : ℕ) → page < old.count → page ≢ written → new.page page ≡ old.page page
  pub is : new.page written ≡ bytes
  pub count : new.count ≡ old.count
  pub first : new.first_free ≡ old.first_free

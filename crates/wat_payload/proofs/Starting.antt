-- What is known of an owner's pages once its chain was read, and what the work from there comes to.
use Rattle.std.proofs.Common.{◌≡◌, ◌≢◌, ℕ, ◌==◌, ◌&&◌, List, [], ◌∷◌, Some, None, if◌then◌else◌, length, ◌+◌, ◌-◌, ◌*◌, ◌<◌, refl, sym, ap, ap₂, ◌∙◌, subst, arith, inl, inr}
use Rattle.std.specs.Prelude.{nat_lt}
use Rattle.std.proofs.lemmas.Bool.{cases_Bool, ltb-true}
use Rattle.std.proofs.lemmas.List.{nil_from_length}
use Rattle.wat_book.specs.Book.{Book, Owners, nobody, header, Section, section, SameBook, IsOwned, Works, Worked}
use Rattle.wat_book.specs.Chains.{IsChain, HasAlone, HoldsPayload, HoldsBriefly, all_pages, IsReadChain}
use Rattle.wat_book.proofs.Working.{works_on, same_works, same_owned}
use Rattle.wat_book.proofs.Chaining.{one_chain, section_in_all}
use Rattle.wat_payload.specs.Working.{IsLeft, IsTail, IsWhole, Freed}
use Rattle.wat_payload.proofs.Laying.{all_left, others_left, no_chain, worked_freed}

-- reads change no section
same_section : (old now : Book) (owners : Owners) (who : ℕ) → SameBook old now → section now owners who ≡ section old owners who
same_section old now owners who same = λ i page. each page i
  where
    each : (page : ℕ) → section now owners who page ≡ section old owners who page
    each page = elim (cases_Bool (nat_lt page old.count)) [
      | inl within ↦ ap₂ (λ n x. if nat_lt page n && (owners page == who) then Some x else None) same.count (same.pages page (ltb-true page old.count within))
      | inr past ↦
          ap (λ n. if nat_lt page n && (owners page == who) then Some (now.page page) else None) same.count
          ∙ ap (λ b. if b && (owners page == who) then Some (now.page page) else None) past
          ∙ sym (ap (λ b. if b && (owners page == who) then Some (old.page page) else None) past)
    ]

-- The pages of the list are the owner's chain.
pub record Started (me : ℕ) (old : Book) (owners : Owners) (free : List ℕ) (now : Book) (first : ℕ) (list : List ℕ) : Type 0 where
  pub payload : List ℕ
  pub owned : IsOwned now owners free
  pub works : Works me old owners now owners
  pub whole : IsWhole (section now owners me) first list payload

-- the list that was read is the owner's
pub read_is : (me : ℕ) (old : Book) (owners : Owners) (first : ℕ) (before list payload : List ℕ) → (held : HoldsPayload (section old owners me) first before) → IsReadChain (all_pages old) [] first list payload → held.list ≡ list
read_is me old owners first before list payload held read = (one_chain (all_pages old) first held.list list before payload (section_in_all old owners me first held.list before held.chain) read.chain).0

pub started : (me : ℕ) (old : Book) (owners : Owners) (free : List ℕ) (now : Book) (first : ℕ) (before list payload : List ℕ) → IsOwned old owners free → (held : HoldsPayload (section old owners me) first before) → SameBook old now
    → IsReadChain (all_pages old) [] first list payload → Started me old owners free now first list
started me old owners free now first before list payload owned held same read = record {
  payload = before;
  owned = same_owned old now owners free same owned;
  works = same_works me old now owners same;
  whole = record {
    chain = subst (λ (s : Section). IsChain s first list before) (sym sections) (subst (λ l. IsChain (section old owners me) first l before) lists held.chain);
    all = subst (λ (s : Section). HasAlone s list) (sym sections) (subst (HasAlone (section old owners me)) lists held.all);
  };
}
  where
    lists : held.list ≡ list
    lists = read_is me old owners first before list payload held read

    sections : section now owners me ≡ section old owners me
    sections = same_section old now owners me same

pub worked_before : (me : ℕ) (old : Book) (owners : Owners) (free : List ℕ) (now : Book) (first : ℕ) (list : List ℕ) → Started me old owners free now first list → (new : Book) (P : Section → Type 0) → me ≢ nobody → Worked me now owners new P → Worked me old owners new P
worked_before me old owners free now first list s new P real w = record { next = w.next; free = w.free; owned = w.owned; works = works_on me old now new owners owners w.next real s.works w.works; holds = w.holds }

-- a chain is given up as a whole, or all but its first page, or there is none
module _ (pages : Section) (first : ℕ) (list payload : List ℕ) (w : IsWhole pages first list payload) where
  pub whole_left : IsLeft pages 0 list
  whole_left = all_left pages first list payload w.chain w.all

  pub behind_left : (here : ℕ) (behind : List ℕ) → list ≡ here ∷ behind → IsLeft pages here behind
  behind_left here behind is = others_left pages first here behind payload (subst (λ l. IsChain pages first l payload) is w.chain) (subst (HasAlone pages) is w.all)

  pub whole_none : length list ≡ 0 → IsTail pages 0 0 [] []
  whole_none none =
      let is = nil_from_length list none in
      no_chain pages first payload (subst (λ l. IsChain pages first l payload) is w.chain) (subst (HasAlone pages) is w.all)

pub gives_up : (me : ℕ) (old : Book) (owners : Owners) (free : List ℕ) (new : Book) (many : ℕ) (payload : List ℕ) → me ≢ header → length payload ≡ 0 → Freed me old owners free new 0 [] many → Worked me old owners new (λ mine. HoldsBriefly mine 0 payload)
gives_up me old owners free new many payload plain none f =
    subst (λ l. Worked me old owners new (λ mine. HoldsBriefly mine 0 l)) (sym (nil_from_length payload none)) (worked_freed me old owners free new many plain f)

-- the first page of a chain that was read
pub stays_first : (pages : Section) (met : List ℕ) (first : ℕ) (list payload : List ℕ) (now : ℕ) → IsReadChain pages met first list payload → first ≢ 0 → ((here : ℕ) (behind : List ℕ) → list ≡ here ∷ behind → now ≡ here) → now ≡ first
stays_first pages met first [] payload now read some at = absurd (some read.chain.0)
stays_first pages met first (here ∷ behind) payload now read some at = at here behind refl ∙ sym read.chain.0

-- what was too much for the pages that were read is too much for the owner's
pub too_much : (held list : List ℕ) (free limit count now size : ℕ) → held ≡ list → now ≡ count → 4080 * (length list + free + (limit - now)) < size → 4080 * (length held + free + (limit - count)) < size
too_much held list free limit count now size lists same want =
    let left : limit - now ≡ limit - count = ap (λ n. limit - n) same in
    let long : length held ≡ length list = ap length lists in
    omega (arith, want, left, long)

pub too_much_behind : (list : List ℕ) (here : ℕ) (behind : List ℕ) (free left size : ℕ) → list ≡ here ∷ behind → 4080 * (1 + length behind + free + left) < size → 4080 * (length list + free + left) < size
too_much_behind list here behind free left size is want = let long : length list ≡ length (here ∷ behind) = ap length is in omega (arith, want, long)

pub too_much_none : (list : List ℕ) (free left size : ℕ) → length list ≡ 0 → 4080 * (free + left) < size → 4080 * (length list + free + left) < size
too_much_none list free left size none want = omega (arith, want, none)

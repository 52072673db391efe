-- Lists on a chain of pages: what is written there, and what is read.
use Rattle.std.proofs.Common.{◌≡◌, ◌≢◌, ◌⊎◌, inl, inr, ℕ, ◌+◌, ◌-◌, ◌*◌, ◌<◌, ◌≤◌, List, [], ◌∷◌, ◌++◌, length, refl, sym, ◌∙◌, ap, subst, arith, length-append}
use Rattle.wat_value.specs.declared.change.Change.{Change}
use Rattle.wat_value.specs.Encoding.{count_bytes}
use Rattle.wat_replay.specs.State.{Lists, no_lists}
use Rattle.std.specs.List.{flat_map}
use Rattle.wat_book.specs.Book.{Book, Owners, Section, section, Worked}
use Rattle.wat_book.specs.Chains.{IsChain, HoldsPayload, HoldsBriefly, all_pages, IsReadChain, BreaksAt}
use Rattle.wat_book.proofs.Chaining.{one_chain, none_from_zero, section_in_all, sound}
use Rattle.wat_images.specs.declared.refusal.PageRefusal.{PageRefusal}
use Rattle.wat_images.specs.Refusal.{IfDamaged, IfPageLimit}
use Rattle.wat_images.proofs.Writing.{if_damaged}
use Rattle.wat_undo.specs.Kept.{lists_of}
use Rattle.wat_undo.specs.Payload.{entry_bytes, rollback_bytes, payload_of, AreEntries, SpellsLists, TellsLists, HoldsLists, LoadsLists, SpellsNone, FailsToLoad}
use Rattle.wat_spelled.proofs.Spelling.{told_once}

abbrev pub Entries : Type 0
Entries = List (ℕ × List Change)

two_bytes : (n : ℕ) (rest : List ℕ) → count_bytes n ++ rest ≡ [] → ⊥
unfolding count_bytes
two_bytes n rest none = omega (arith, ap length none, length-append (count_bytes n) rest)

-- ---- what is saved

pub tells_lists : (pages : Section) (first : ℕ) (payload : List ℕ) (entries : Entries) → AreEntries entries → payload ≡ payload_of entries → HoldsBriefly pages first payload → TellsLists first payload (lists_of entries)
tells_lists pages first payload [] are is held = record {
  none = λ zero_page. refl;
  some = λ some. absurd (some (empty held.holds.list held.holds.chain held.few));
}
  where
    empty : (list : List ℕ) → IsChain pages first list payload → 4080 * length list ≤ length payload + 4079 → first ≡ 0
    empty [] chain few = chain.0
    empty (page ∷ list) chain few = absurd (let size = ap length is in omega (arith, few, size))
tells_lists pages first payload (entry ∷ entries) are is held = record {
  none = λ zero_page.
      absurd (two_bytes (length (entry ∷ entries)) (flat_map entry_bytes (entry ∷ entries)) (sym is ∙ (none_from_zero pages held.holds.list payload (subst (λ f. IsChain pages f held.holds.list payload) zero_page held.holds.chain)).1));
  some = λ some. record { entries = entry ∷ entries; are = are; bytes = is; lists_are = refl };
}

pub saves_lists : (me : ℕ) (old : Book) (owners : Owners) (new : Book) (first : ℕ) (payload : List ℕ) (entries : Entries) → AreEntries entries → payload ≡ payload_of entries → Worked me old owners new (λ mine. HoldsBriefly mine first payload)
    → Worked me old owners new (λ mine. HoldsLists mine first (lists_of entries))
saves_lists me old owners new first payload entries are is w = record {
  next = w.next;
  free = w.free;
  owned = w.owned;
  works = w.works;
  holds = record { payload = payload; holds = w.holds; tells = tells_lists (section new w.next me) first payload entries are is w.holds };
}

-- the first page that is written from, and the payload that is written, by their other names
pub needed_by : (S : Section) (f g free count : ℕ) (before bytes payload : List ℕ) (refusal : PageRefusal) → f ≡ g → bytes ≡ payload
    → ((held : HoldsPayload S f before) → IfPageLimit refusal (λ now limit. 4080 * (length held.list + free + (limit - count)) < length bytes))
    → (held : HoldsPayload S g before) → IfPageLimit refusal (λ now limit. 4080 * (length held.list + free + (limit - count)) < length payload)
needed_by S f g free count before bytes payload refusal same is needs =
    subst (λ (p : ℕ). (held : HoldsPayload S p before) → IfPageLimit refusal (λ now limit. 4080 * (length held.list + free + (limit - count)) < length payload)) same
    (subst (λ (l : List ℕ). (held : HoldsPayload S f before) → IfPageLimit refusal (λ now limit. 4080 * (length held.list + free + (limit - count)) < length l)) is needs)

-- ---- what is loaded

pub loads_none : (pages : Section) (first : ℕ) (list payload : List ℕ) (entries : Entries) → IsReadChain pages [] first list payload → first ≡ 0 → entries ≡ [] → LoadsLists pages first (lists_of entries)
loads_none pages first list payload entries read zero_page none = record {
  list = list;
  payload = payload;
  chain = read;
  tells = record { none = λ is. ap (λ (es : Entries). lists_of es) none; some = λ some. absurd (some zero_page) };
}

pub loads_some : (pages : Section) (first : ℕ) (list payload : List ℕ) (lists : Lists) → IsReadChain pages [] first list payload → first ≢ 0 → SpellsLists payload lists → LoadsLists pages first lists
loads_some pages first list payload lists read some spelled = record {
  list = list;
  payload = payload;
  chain = read;
  tells = record { none = λ zero_page. absurd (some zero_page); some = λ is. spelled };
}

module _ (book : Book) (owners : Owners) (me first : ℕ) (lists : Lists) (held : HoldsLists (section book owners me) first lists) where
  chain_held : IsChain (all_pages book) first held.holds.holds.list held.payload
  chain_held = section_in_all book owners me first held.holds.holds.list held.payload held.holds.holds.chain

  pub loads_same : (found : Lists) → LoadsLists (all_pages book) first found → found ≡ lists
  loads_same found l =
      let same : held.payload ≡ l.payload = (one_chain (all_pages book) first held.holds.holds.list l.list held.payload l.payload chain_held l.chain.chain).1 in
      told_once first l.payload found lists l.tells (subst (λ p. TellsLists first p lists) same held.tells)

  pub never_fails : (here : ℕ) → FailsToLoad (all_pages book) first here → ⊥
  never_fails here (inl breaks) = sound (all_pages book) first here held.holds.holds.list held.payload chain_held breaks
  never_fails here (inr none) =
      let same : held.payload ≡ none.payload = (one_chain (all_pages book) first held.holds.holds.list none.list held.payload none.payload chain_held none.chain.chain).1 in
      none.none lists (subst (λ p. SpellsLists p lists) same (held.tells.some none.some))

-- where loading fails
abbrev pub LoadFails : Section → ℕ → PageRefusal → Type 0
LoadFails pages first refusal = IfDamaged refusal (λ file at. (file ≡ 0) × (here : ℕ) × (at ≡ 4096 * here) × FailsToLoad pages first here)

pub fails_in_chain : (refusal : PageRefusal) (pages : Section) (first : ℕ) → IfDamaged refusal (λ file at. (file ≡ 0) × (here : ℕ) × (at ≡ 4096 * here) × BreaksAt pages [] first here) → LoadFails pages first refusal
fails_in_chain refusal pages first =
    if_damaged refusal (λ file at. (file ≡ 0) × (here : ℕ) × (at ≡ 4096 * here) × BreaksAt pages [] first here) (λ file at. (file ≡ 0) × (here : ℕ) × (at ≡ 4096 * here) × FailsToLoad pages first here)
    (λ file at is. (is.0, is.1, is.2, inl is.3))

pub fails_never : (refusal : PageRefusal) (book : Book) (owners : Owners) (me first : ℕ) (lists : Lists) → HoldsLists (section book owners me) first lists → LoadFails (all_pages book) first refusal → IfDamaged refusal (λ file at. ⊥)
fails_never refusal book owners me first lists held =
    if_damaged refusal (λ file at. (file ≡ 0) × (here : ℕ) × (at ≡ 4096 * here) × FailsToLoad (all_pages book) first here) (λ file at. ⊥) (λ file at is. never_fails book owners me first lists held is.1 is.3)

pub spells_none : (pages : Section) (first : ℕ) (list payload : List ℕ) → IsReadChain pages [] first list payload → first ≢ 0 → ((lists : Lists) → SpellsLists payload lists → ⊥) → FailsToLoad pages first first
spells_none pages first list payload read some none = inr (record { list = list; payload = payload; chain = read; place = refl; some = some; none = none })

-- One page of an owner is freed, taken or written; and what the steps come to.
use Rattle.std.proofs.Common.{◌≡◌, ◌≢◌, ◌⊎◌, inl, inr, ⊎_elim, ℕ, ◌+◌, ◌-◌, ◌*◌, ◌<◌, ◌≤◌, ◌==◌, ◌&&◌, ◌||◌, true, false, if◌then◌else◌, List, [], ◌∷◌, ◌++◌, length, take, drop, get_or, Option, Some, None, add-one, drop-cons, refl, sym, ap, ap₂, ◌∙◌, subst, arith}
use Rattle.std.specs.Prelude.{nat_eq, nat_lt, IsSome}
use Rattle.std.specs.List.{list_any, AllByRecursion}
use Rattle.std.proofs.lemmas.Bool.{cases_Bool, cases_eq, eq-eqb, ne_eqb, lt-ltb, ltb-true, or_left, or_right}
use Rattle.std.proofs.Math.ListN.{drop_of_length-le}
use Rattle.std.proofs.lemmas.List.{take-append-drop, drop-drop}
use Rattle.std.proofs.lemmas.Map.Keys.{IsDistinct-head, IsDistinct-tail}
use Rattle.wat_book.specs.Book.{Book, Owners, nobody, header, Section, section, IsFreeChain, IsOwned, Works, WorksTo, Worked, with_owner, page_taken, TakesPage, GivesPage, Writes}
use Rattle.wat_book.specs.Chains.{IsChainPage, IsLink, IsChain, HasAlone, HoldsBriefly}
use Rattle.wat_book.proofs.Working.{works_on, section_at, owner_here, owner_there, chain_owned, takes_free, takes_new, gives, writes, same_works}
use Rattle.wat_book.proofs.Chaining.{both_false, once_here, chain_distinct, chain_there, chain_kept, in_section}
use Rattle.wat_pages.specs.declared.pages.Pages.{Pages}
use Rattle.wat_pages.specs.declared.within.Within.{Within}
use Rattle.wat_pages.specs.declared.within.Within.TheVariants.{Limit, Any}
use Rattle.wat_pages.specs.Pages.{limit_of}
use Rattle.wat_pages.specs.Within.{bound_of}
use Rattle.wat_payload.specs.Working.{IsLeft, IsTail, Freed, Took, LaidBriefly, WorkedTo}

none_some : {X : Type 0} (o : Option X) → o ≡ None → IsSome o → ⊥
none_some None is some = let no : false ≡ true = some in cc
none_some (Some x) is some = let no : Some x ≡ None = is in cc

-- ---- sections of two books

past : (book : Book) (owners : Owners) (me page : ℕ) → (page < book.count → ⊥) → section book owners me page ≡ None
past book owners me page far = elim (cases_Bool (nat_lt page book.count)) [
  | inl within ↦ absurd (far (ltb-true page book.count within))
  | inr out ↦ ap (λ b. if b && (owners page == me) then Some (book.page page) else None) out
]

others_none : (book : Book) (owners : Owners) (me page : ℕ) → owners page ≢ me → section book owners me page ≡ None
others_none book owners me page apart = elim (nat_lt page book.count) as (λ v. (if v && (owners page == me) then Some (book.page page) else None) ≡ None) [
  | true ↦ ap (λ b. if b then Some (book.page page) else None) (ne_eqb (owners page) me apart)
  | false ↦ refl
]

section_alike : (a b : Book) (x y : Owners) (me page : ℕ) → (page < a.count → page < b.count) → (page < b.count → page < a.count) → (page < a.count → b.page page ≡ a.page page) → y page ≡ x page → section b y me page ≡ section a x me page
section_alike a b x y me page to from bytes owner = elim (cases_Bool (nat_lt page a.count)) [
  | inl within ↦
      let below = ltb-true page a.count within in
      ap (λ v. if v && (y page == me) then Some (b.page page) else None) (lt-ltb page b.count (to below))
      ∙ ap₂ (λ o p. if o == me then Some p else None) owner (bytes below)
      ∙ sym (ap (λ v. if v && (x page == me) then Some (a.page page) else None) (lt-ltb page a.count below))
  | inr out ↦
      let far : page < a.count → ⊥ = λ below. let no : true ≡ false = sym (lt-ltb page a.count below) ∙ out in cc in
      past b y me page (λ below. far (from below)) ∙ sym (past a x me page far)
]

owner_of : (book : Book) (owners : Owners) (me page : ℕ) → IsSome (section book owners me page) → (page < book.count) × (owners page ≡ me)
owner_of book owners me page some = by (section book owners me page) refl some
  where
    by : (o : Option (List ℕ)) → section book owners me page ≡ o → IsSome o → (page < book.count) × (owners page ≡ me)
    by None is there = absurd (none_some {X = List ℕ} None refl there)
    by (Some bytes) is there = let at = in_section book owners me page bytes is in (at.0, at.1)

among_more : (page x y : ℕ) (list : List ℕ) → list_any (nat_eq page) (x ∷ list) ≡ true → list_any (nat_eq page) (x ∷ y ∷ list) ≡ true
among_more page x y list there = elim (cases_Bool (nat_eq page x)) [
  | inl here ↦ or_left (nat_eq page x) (list_any (nat_eq page) (y ∷ list)) here
  | inr other ↦ or_right (nat_eq page x) (list_any (nat_eq page) (y ∷ list)) (or_right (nat_eq page y) (list_any (nat_eq page) list) (let t : (nat_eq page x || list_any (nat_eq page) list) ≡ true = there in rw other at t))
]

among_less : (page x y : ℕ) (list : List ℕ) → page ≢ y → list_any (nat_eq page) (x ∷ y ∷ list) ≡ true → list_any (nat_eq page) (x ∷ list) ≡ true
among_less page x y list apart there = elim (cases_Bool (nat_eq page x)) [
  | inl here ↦ or_left (nat_eq page x) (list_any (nat_eq page) list) here
  | inr other ↦
      let t : (nat_eq page x || (nat_eq page y || list_any (nat_eq page) list)) ≡ true = there in
      let u : (nat_eq page y || list_any (nat_eq page) list) ≡ true = rw other at t in
      or_right (nat_eq page x) (list_any (nat_eq page) list) (rw (ne_eqb page y apart) at u)
]

among_second : (page x : ℕ) (list : List ℕ) → list_any (nat_eq page) (x ∷ page ∷ list) ≡ true
among_second page x list = or_right (nat_eq page x) (list_any (nat_eq page) (page ∷ list)) (or_left (nat_eq page page) (list_any (nat_eq page) list) (eq-eqb page page refl))

not_among : (page x : ℕ) (list : List ℕ) → list_any (nat_eq x) list ≡ false → list_any (nat_eq page) list ≡ true → page ≢ x
not_among page x list none there same = let no : true ≡ false = sym there ∙ ap (λ p. list_any (nat_eq p) list) same ∙ none in cc

none_among : (x : ℕ) (list : List ℕ) → AllByRecursion (λ (y : ℕ). nat_eq x y ≡ false) list → list_any (nat_eq x) list ≡ false
none_among x [] all = refl
none_among x (y ∷ list) all = ap (λ b. b || list_any (nat_eq x) list) all.0 ∙ none_among x list all.1

-- ---- where the work begins

-- all pages of a chain are to be freed
pub all_left : (pages : Section) (first : ℕ) (list payload : List ℕ) → IsChain pages first list payload → HasAlone pages list → IsLeft pages 0 list
all_left pages first list payload chain all = record {
  all = λ page some. or_right (nat_eq page 0) (list_any (nat_eq page) list) (all page some);
  there = λ page among. (chain_there pages first 0 list payload chain page among).0;
  once = chain_distinct pages first list payload chain;
  stays = record {
    there = λ no. absurd (no refl);
    apart = elim (cases_Bool (list_any (nat_eq 0) list)) [ inr none ↦ none | inl among ↦ absurd (let some = (chain_there pages first 0 list payload chain 0 among).1 in omega arith) ];
  };
}

-- all but the first
pub others_left : (pages : Section) (first here : ℕ) (behind payload : List ℕ) → IsChain pages first (here ∷ behind) payload → HasAlone pages (here ∷ behind) → IsLeft pages here behind
others_left pages first here behind payload chain all = record {
  all = all;
  there = λ page among. (chain_there pages first 0 (here ∷ behind) payload chain page (or_right (nat_eq page here) (list_any (nat_eq page) behind) among)).0;
  once = IsDistinct-tail nat_eq here behind (chain_distinct pages first (here ∷ behind) payload chain);
  stays = record {
    there = λ some. (chain_there pages first 0 (here ∷ behind) payload chain here (or_left (nat_eq here here) (list_any (nat_eq here) behind) (eq-eqb here here refl))).0;
    apart = once_here pages here behind payload (refl, chain.1, chain.2, chain.3, chain.4, chain.5, chain.6, chain.7);
  };
}

-- none is left
pub none_left : (pages : Section) (kept : ℕ) → IsLeft pages kept [] → IsTail pages kept 0 [] []
none_left pages kept left = record { chain = (refl, refl); all = left.all; stays = left.stays }

pub no_chain : (pages : Section) (first : ℕ) (payload : List ℕ) → IsChain pages first [] payload → HasAlone pages [] → IsTail pages 0 0 [] []
no_chain pages first payload chain all = record {
  chain = (refl, refl);
  all = λ page some. or_right (nat_eq page 0) false (all page some);
  stays = record { there = λ no. absurd (no refl); apart = refl };
}

-- ---- pages that are freed

pub freed_none : (me : ℕ) (book : Book) (owners : Owners) (free : List ℕ) (kept : ℕ) (list : List ℕ) → IsOwned book owners free → IsLeft (section book owners me) kept list → Freed me book owners free book kept list 0
freed_none me book owners free kept list owned left = record {
  next = owners;
  unused = free;
  owned = owned;
  works = same_works me book book owners (record { pages = λ page below. refl; count = refl; first = refl });
  left = left;
  count = refl;
  more = omega arith;
}

pub freed_one : (me : ℕ) (old : Book) (owners : Owners) (free : List ℕ) (mid new : Book) (kept page : ℕ) (rest : List ℕ) (many : ℕ) → me ≢ nobody → me ≢ header → Freed me old owners free mid kept (page ∷ rest) many → GivesPage page mid new
    → Freed me old owners free new kept rest (many + 1)
freed_one me old owners free mid new kept page rest many real plain f g = record {
  next = next;
  unused = page ∷ f.unused;
  owned = step.owned;
  works = works_on me old mid new owners f.next next real f.works step.works;
  left = record {
    all = λ p some. among_less p kept page rest (λ e. gone p e some) (f.left.all p (subst IsSome (same p (λ e. gone p e some)) some));
    there = λ p among. let apart = not_among p page rest once among in subst IsSome (sym (same p apart)) (f.left.there p (or_right (nat_eq p page) (list_any (nat_eq p) rest) among));
    once = IsDistinct-tail nat_eq page rest f.left.once;
    stays = record {
      there = λ some. subst IsSome (sym (same kept kept_apart)) (f.left.stays.there some);
      apart = (both_false (nat_eq kept page) (list_any (nat_eq kept) rest) f.left.stays.apart).1;
    };
  };
  count = g.count ∙ f.count;
  more = omega (arith, f.more);
}
  where
    next : Owners
    next = with_owner page nobody f.next

    mine : (page < mid.count) × (f.next page ≡ me)
    mine = owner_of mid f.next me page (f.left.there page (or_left (nat_eq page page) (list_any (nat_eq page) rest) (eq-eqb page page refl)))

    step : WorksTo me mid f.next new next (page ∷ f.unused)
    step = gives me page f.unused mid new f.next real plain mine.0 mine.1 f.owned g

    same : (p : ℕ) → p ≢ page → section new next me p ≡ section mid f.next me p
    same p apart = section_alike mid new f.next next me p (λ below. omega (arith, g.count, below)) (λ below. omega (arith, g.count, below)) (λ below. g.others p below apart) (owner_there page nobody p f.next apart)

    gone : (p : ℕ) → p ≡ page → IsSome (section new next me p) → ⊥
    gone p e some = real (sym (owner_of new next me p some).1 ∙ ap next e ∙ owner_here page nobody f.next)

    once : list_any (nat_eq page) rest ≡ false
    once = none_among page rest (IsDistinct-head nat_eq page rest f.left.once)

    kept_apart : kept ≢ page
    kept_apart e = let no : true ≡ false = sym (eq-eqb kept page e) ∙ (both_false (nat_eq kept page) (list_any (nat_eq kept) rest) f.left.stays.apart).0 in cc

-- ---- a page that is taken

pub took_none : (me : ℕ) (book : Book) (owners : Owners) (free : List ℕ) (kept : ℕ) → IsOwned book owners free → IsTail (section book owners me) kept 0 [] [] → Took me book owners free book kept 0 [] [] 0
took_none me book owners free kept owned tail = record {
  next = owners;
  unused = free;
  owned = owned;
  works = same_works me book book owners (record { pages = λ page below. refl; count = refl; first = refl });
  tail = tail;
  sum = omega arith;
}

-- What taking a page comes to, whether it was free or is new.
record Taking (me : ℕ) (old : Book) (owners : Owners) (free : List ℕ) (mid : Book) (page : ℕ) : Type 0 where
  next : Owners
  unused : List ℕ
  owned : IsOwned mid next unused
  works : Works me old owners mid next
  mine : next page ≡ me
  others : (p : ℕ) → p ≢ page → next p ≡ owners p
  fresh : section old owners me page ≡ None
  some : 0 < page
  below : page < mid.count
  more : (p : ℕ) → p < old.count → p < mid.count
  no_more : (p : ℕ) → p ≢ page → p < mid.count → p < old.count
  sum : length free + mid.count ≡ length unused + 1 + old.count

taking : (me : ℕ) (old : Book) (owners : Owners) (free : List ℕ) (mid : Book) (page : ℕ) → me ≢ nobody → IsOwned old owners free → TakesPage old mid → page ≡ page_taken old → Taking me old owners free mid page
taking me old owners [] mid page real o t is = record {
  next = with_owner old.count me owners;
  unused = [];
  owned = step.owned;
  works = step.works;
  mine = ap (with_owner old.count me owners) here ∙ owner_here old.count me owners;
  others = λ p apart. owner_there old.count me p owners (λ e. apart (e ∙ sym here));
  fresh = past old owners me page (λ below. omega (arith, below, here));
  some = omega (arith, here, o.some);
  below = omega (arith, here, count);
  more = λ p below. omega (arith, below, count);
  no_more = λ p apart below. omega (arith, apart, below, count, here);
  sum = omega (arith, count);
}
  where
    none : (old.first_free == 0) ≡ true
    none = eq-eqb old.first_free 0 o.unused.chain

    here : page ≡ old.count
    here = is ∙ ap (λ b. if b then old.count else old.first_free) none

    count : mid.count ≡ old.count + 1
    count = t.count ∙ ap (λ b. if b then old.count + 1 else old.count) none

    step : WorksTo me old owners mid (with_owner old.count me owners) []
    step = takes_new me old mid owners real o t
taking me old owners (first ∷ rest) mid page real o t is = record {
  next = with_owner first me owners;
  unused = rest;
  owned = step.owned;
  works = step.works;
  mine = ap (with_owner first me owners) here ∙ owner_here first me owners;
  others = λ p apart. owner_there first me p owners (λ e. apart (e ∙ sym here));
  fresh = others_none old owners me page (λ e. real (sym e ∙ ap owners here ∙ at.1));
  some = omega (arith, here, at.2);
  below = omega (arith, here, at.0, count);
  more = λ p below. omega (arith, below, count);
  no_more = λ p apart below. omega (arith, below, count);
  sum = omega (arith, count);
}
  where
    chain : IsFreeChain (section old owners nobody) old.first_free (first ∷ rest)
    chain = o.unused.chain

    at : (first < old.count) × (owners first ≡ nobody) × (0 < first)
    at = chain_owned old owners old.first_free (first ∷ rest) chain first (or_left (nat_eq first first) (list_any (nat_eq first) rest) (eq-eqb first first refl))

    some : (old.first_free == 0) ≡ false
    some = ne_eqb old.first_free 0 (λ e. omega (arith, chain.0, chain.1, e))

    here : page ≡ first
    here = is ∙ ap (λ b. if b then old.count else old.first_free) some ∙ chain.0

    count : mid.count ≡ old.count
    count = t.count ∙ ap (λ b. if b then old.count + 1 else old.count) some

    step : WorksTo me old owners mid (with_owner first me owners) rest
    step = takes_free me first rest old mid owners real o t

-- A page of the chain is put in front of it.
pub took_one : (me : ℕ) (old : Book) (owners : Owners) (free : List ℕ) (mid new : Book) (kept page next : ℕ) (list rest bytes part : List ℕ) → me ≢ nobody → me ≢ header → IsOwned old owners free → IsTail (section old owners me) kept next list rest
    → TakesPage old mid → page ≡ page_taken old → IsChainPage bytes next part → Writes page bytes mid new → Took me old owners free new kept page (page ∷ list) (part ++ rest) 1
took_one me old owners free mid new kept page next list rest bytes part real plain o tail t is link w = record {
  next = taken.next;
  unused = taken.unused;
  owned = step.owned;
  works = works_on me old mid new owners taken.next taken.next real taken.works step.works;
  tail = record {
    chain = (
      refl,
      taken.some,
      next,
      part,
      rest,
      subst (λ x. IsLink x next part) (sym here) link,
      refl,
      chain_kept (section old owners me) (section new taken.next me) next 0 list rest (λ p among. same p (λ e. fresh_apart p (chain_there (section old owners me) next 0 list rest tail.chain p among).0 e)) tail.chain,
    );
    all = λ p some. elim (cases_eq p page) [
      | inl e ↦ subst (λ x. list_any (nat_eq x) (kept ∷ page ∷ list) ≡ true) (sym e) (among_second page kept list)
      | inr apart ↦ among_more p kept page list (tail.all p (subst IsSome (same p apart) some))
    ];
    stays = record {
      there = λ some. subst IsSome (sym (same kept kept_apart)) (tail.stays.there some);
      apart = ap (λ b. b || list_any (nat_eq kept) list) (ne_eqb kept page kept_apart) ∙ tail.stays.apart;
    };
  };
  sum = omega (arith, taken.sum, w.count);
}
  where
    taken : Taking me old owners free mid page
    taken = taking me old owners free mid page real o t is

    step : WorksTo me mid taken.next new taken.next taken.unused
    step = writes me page bytes taken.unused mid new taken.next real taken.mine taken.owned w

    here : section new taken.next me page ≡ Some bytes
    here = section_at new taken.next me page (omega (arith, taken.below, w.count)) taken.mine ∙ ap Some w.is

    same : (p : ℕ) → p ≢ page → section new taken.next me p ≡ section old owners me p
    same p apart = section_alike old new owners taken.next me p
        (λ below. let m = taken.more p below in omega (arith, m, w.count))
        (λ below. taken.no_more p apart (omega (arith, below, w.count)))
        (λ below. w.others p (taken.more p below) apart ∙ t.pages p below)
        (taken.others p apart)

    fresh_apart : (p : ℕ) → IsSome (section old owners me p) → p ≡ page → ⊥
    fresh_apart p some e = none_some (section old owners me page) taken.fresh (subst (λ x. IsSome (section old owners me x)) e some)

    kept_apart : kept ≢ page
    kept_apart e = elim (cases_eq kept 0) [
      | inl zero_page ↦ omega (arith, zero_page, e, taken.some)
      | inr some ↦ fresh_apart kept (tail.stays.there some) e
    ]

-- one page more
pub took_more : (me : ℕ) (old : Book) (owners : Owners) (free : List ℕ) (mid new : Book) (kept first page : ℕ) (list more payload longer : List ℕ) (many : ℕ) → me ≢ nobody → (a : Took me old owners free mid kept first list payload many)
    → Took me mid a.next a.unused new kept page more longer 1 → Took me old owners free new kept page more longer (many + 1)
took_more me old owners free mid new kept first page list more payload longer many real a b = record {
  next = b.next;
  unused = b.unused;
  owned = b.owned;
  works = works_on me old mid new owners a.next b.next real a.works b.works;
  tail = b.tail;
  sum = omega (arith, a.sum, b.sum);
}

-- where no page is free and the count has come to the limit, there were too few pages
pub too_few : (me : ℕ) (old : Book) (owners : Owners) (free : List ℕ) (new : Book) (kept first : ℕ) (list payload : List ℕ) (limit : ℕ) → (a : Took me old owners free new kept first list payload (length list)) → new.first_free ≡ 0 → limit ≤ new.count
    → length free + (limit - old.count) ≤ length list
too_few me old owners free new kept first list payload limit a none full = by a.unused refl
  where
    by : (unused : List ℕ) → a.unused ≡ unused → length free + (limit - old.count) ≤ length list
    by [] is = omega (arith, a.sum, ap length is, full, a.works.count)
    by (x ∷ xs) is = let chain : IsFreeChain (section new a.next nobody) new.first_free (x ∷ xs) = subst (IsFreeChain (section new a.next nobody) new.first_free) is a.owned.unused.chain in absurd (omega (arith, chain.0, chain.1, none))

-- ---- the page that stays

pub worked_first : (me : ℕ) (old : Book) (owners : Owners) (free : List ℕ) (new : Book) (page next : ℕ) (list rest bytes part : List ℕ) → me ≢ nobody → 0 < page → IsOwned old owners free → IsTail (section old owners me) page next list rest
    → IsChainPage bytes next part → Writes page bytes old new → WorkedTo me old owners new page (page ∷ list) (part ++ rest)
worked_first me old owners free new page next list rest bytes part real some o tail link w = record {
  next = owners;
  free = free;
  owned = step.owned;
  works = step.works;
  whole = record {
    chain = (
      refl,
      some,
      next,
      part,
      rest,
      subst (λ x. IsLink x next part) (sym here) link,
      refl,
      chain_kept (section old owners me) (section new owners me) next 0 list rest (λ p among. same p (not_among p page list tail.stays.apart among)) tail.chain,
    );
    all = λ p there. elim (cases_eq p page) [
      | inl e ↦ or_left (nat_eq p page) (list_any (nat_eq p) list) (eq-eqb p page e)
      | inr apart ↦ tail.all p (subst IsSome (same p apart) there)
    ];
  };
}
  where
    mine : (page < old.count) × (owners page ≡ me)
    mine = owner_of old owners me page (tail.stays.there (λ e. omega (arith, some, e)))

    step : WorksTo me old owners new owners free
    step = writes me page bytes free old new owners real mine.1 o w

    here : section new owners me page ≡ Some bytes
    here = section_at new owners me page (omega (arith, mine.0, w.count)) mine.1 ∙ ap Some w.is

    same : (p : ℕ) → p ≢ page → section new owners me p ≡ section old owners me p
    same p apart = section_alike old new owners owners me p (λ below. omega (arith, below, w.count)) (λ below. omega (arith, below, w.count)) (λ below. w.others p below apart) refl

-- ---- what the steps come to

no_header : (me : ℕ) (book : Book) (owners : Owners) (free : List ℕ) → me ≢ header → IsOwned book owners free → IsSome (section book owners me 0) → ⊥
no_header me book owners free plain o some = plain (sym (owner_of book owners me 0 some).1 ∙ o.first)

without_zero : (me : ℕ) (book : Book) (owners : Owners) (free list : List ℕ) → me ≢ header → IsOwned book owners free → HasAlone (section book owners me) (0 ∷ list) → HasAlone (section book owners me) list
without_zero me book owners free list plain o all page some = elim (cases_eq page 0) [
  | inl e ↦ absurd (no_header me book owners free plain o (subst (λ p. IsSome (section book owners me p)) e some))
  | inr apart ↦ let t : (nat_eq page 0 || list_any (nat_eq page) list) ≡ true = all page some in rw (ne_eqb page 0 apart) at t
]

-- the chain is given up
pub worked_freed : (me : ℕ) (old : Book) (owners : Owners) (free : List ℕ) (new : Book) (many : ℕ) → me ≢ header → Freed me old owners free new 0 [] many → Worked me old owners new (λ mine. HoldsBriefly mine 0 [])
worked_freed me old owners free new many plain f = record {
  next = f.next;
  free = f.unused;
  owned = f.owned;
  works = f.works;
  holds = record {
    holds = record { list = []; chain = (refl, refl); all = without_zero me new f.next f.unused [] plain f.owned f.left.all };
    few = omega arith;
  };
}

-- there was none before
pub worked_laid : (me : ℕ) (old : Book) (owners : Owners) (free : List ℕ) (new : Book) (first : ℕ) (payload : List ℕ) → me ≢ header → LaidBriefly me old owners free new 0 first payload → Worked me old owners new (λ mine. HoldsBriefly mine first payload)
worked_laid me old owners free new first payload plain l = record {
  next = l.took.next;
  free = l.took.unused;
  owned = l.took.owned;
  works = l.took.works;
  holds = record {
    holds = record { list = l.list; chain = l.took.tail.chain; all = without_zero me new l.took.next l.took.unused l.list plain l.took.owned l.took.tail.all };
    few = l.few;
  };
}

-- its first page stays
pub worked_anew : (me : ℕ) (old : Book) (owners : Owners) (free : List ℕ) (a b new : Book) (here next many : ℕ) (front back payload : List ℕ) → me ≢ nobody → (f : Freed me old owners free a here [] many) → (l : LaidBriefly me a f.next f.unused b here next back)
    → WorkedTo me b l.took.next new here (here ∷ l.list) (front ++ back) → payload ≡ front ++ back → 4080 + length back ≤ length payload + 4079 → (4080 + length back ≡ length payload) ⊎ (back ≡ []) → Worked me old owners new (λ mine. HoldsBriefly mine here payload)
worked_anew me old owners free a b new here next many front back payload real f l w is some either = record {
  next = w.next;
  free = w.free;
  owned = w.owned;
  works = works_on me old b new owners l.took.next w.next real (works_on me old a b owners f.next l.took.next real f.works l.took.works) w.works;
  holds = record {
    holds = record { list = here ∷ l.list; chain = subst (IsChain (section new w.next me) here (here ∷ l.list)) (sym is) w.whole.chain; all = w.whole.all };
    few = ⊎_elim (λ (full : 4080 + length back ≡ length payload). omega (arith, full, l.few)) (λ (none : back ≡ []). omega (arith, some, l.few, ap length none)) either;
  };
}

-- ---- a payload that is laid part by part, from the last one on

-- These bytes are laid, and so many parts are left in front of them.
pub record LaysOn (me : ℕ) (old : Book) (owners : Owners) (free : List ℕ) (new : Book) (kept first : ℕ) (payload : List ℕ) (size left : ℕ) : Type 0 where
  pub list : List ℕ
  pub took : Took me old owners free new kept first list payload (length list)
  pub few : 4080 * (length list + left) ≤ size + 4079

pub lays_none : (me : ℕ) (book : Book) (owners : Owners) (free : List ℕ) (kept : ℕ) (payload : List ℕ) (left : ℕ) → IsOwned book owners free → IsTail (section book owners me) kept 0 [] [] → length payload ≤ 4080 * left → 4080 * left ≤ length payload + 4079
    → LaysOn me book owners free book kept 0 (drop (4080 * left) payload) (length payload) left
lays_none me book owners free kept payload left owned tail enough few = record {
  list = [];
  took = subst (λ l. Took me book owners free book kept 0 [] l 0) (sym (drop_of_length-le payload enough)) (took_none me book owners free kept owned tail);
  few = omega (arith, few);
}

pub lays_more : (me : ℕ) (old : Book) (owners : Owners) (free : List ℕ) (mid new : Book) (kept first page : ℕ) (rest part payload : List ℕ) (size left now : ℕ) → me ≢ nobody → left ≡ now + 1 → (a : LaysOn me old owners free mid kept first rest size left)
    → Took me mid a.took.next a.took.unused new kept page (page ∷ a.list) (part ++ rest) 1 → payload ≡ part ++ rest → LaysOn me old owners free new kept page payload size now
lays_more me old owners free mid new kept first page rest part payload size left now real one a b is = record {
  list = page ∷ a.list;
  took = subst (λ l. Took me old owners free new kept page (page ∷ a.list) l (length (page ∷ a.list))) (sym is) (count (took_more me old owners free mid new kept first page a.list (page ∷ a.list) rest (part ++ rest) (length a.list) real a.took b));
  few = omega (arith, a.few, one);
}
  where
    count : Took me old owners free new kept page (page ∷ a.list) (part ++ rest) (length a.list + 1) → Took me old owners free new kept page (page ∷ a.list) (part ++ rest) (length (page ∷ a.list))
    count t = let same : length a.list + 1 ≡ length (page ∷ a.list) = omega arith in subst (λ n. Took me old owners free new kept page (page ∷ a.list) (part ++ rest) n) same t

-- nothing is left
pub lays_all : (me : ℕ) (old : Book) (owners : Owners) (free : List ℕ) (new : Book) (kept first : ℕ) (payload : List ℕ) (left : ℕ) → left ≤ 0 → LaysOn me old owners free new kept first (drop (4080 * left) payload) (length payload) left → LaidBriefly me old owners free new kept first payload
lays_all me old owners free new kept first payload left none a = record {
  list = a.list;
  took = subst (λ l. Took me old owners free new kept first a.list l (length a.list)) all a.took;
  few = omega (arith, a.few);
}
  where
    all : drop (4080 * left) payload ≡ payload
    all = let nothing : 4080 * left ≡ 0 = omega arith in ap (λ n. drop n payload) nothing

-- a page was wanted, and none is free
pub lays_too_few : (me : ℕ) (old : Book) (owners : Owners) (free : List ℕ) (new : Book) (kept first : ℕ) (payload : List ℕ) (size left limit : ℕ) → (a : LaysOn me old owners free new kept first payload size left) → 0 < left → new.first_free ≡ 0 → limit ≤ new.count
    → 4080 * (length free + (limit - old.count)) < size
lays_too_few me old owners free new kept first payload size left limit a some none full =
    let few = too_few me old owners free new kept first a.list payload limit a.took none full in
    omega (arith, few, a.few, some)

pub part_before : (payload part : List ℕ) (left now : ℕ) → left ≡ now + 1 → part ≡ take 4080 (drop (4080 * now) payload) → drop (4080 * now) payload ≡ part ++ drop (4080 * left) payload
part_before payload part left now one is =
    sym (take-append-drop 4080 (drop (4080 * now) payload)) ∙ ap (λ p. p ++ drop 4080 (drop (4080 * now) payload)) (sym is)
    ∙ ap (λ l. part ++ l) (drop-drop 4080 (4080 * now) payload ∙ ap (λ n. drop n payload) (let same : 4080 * now + 4080 ≡ 4080 * left = omega (arith, one) in same))

-- ---- pages that are freed in a row

pub freed_at : (me : ℕ) (old : Book) (owners : Owners) (free : List ℕ) (mid new : Book) (kept : ℕ) (list : List ℕ) (i : ℕ) → i < length list → me ≢ nobody → me ≢ header → Freed me old owners free mid kept (drop i list) i → GivesPage (get_or list i 0) mid new
    → Freed me old owners free new kept (drop (i + 1) list) (i + 1)
freed_at me old owners free mid new kept list i here real plain f g = freed_one me old owners free mid new kept (get_or list i 0) (drop (i + 1) list) i real plain (subst (λ l. Freed me old owners free mid kept l i) (next list i here) f) g
  where
    next : (xs : List ℕ) (n : ℕ) → n < length xs → drop n xs ≡ get_or xs n 0 ∷ drop (n + 1) xs
    next xs n less = rw (add-one, drop-cons xs n 0)

pub freed_all : (me : ℕ) (old : Book) (owners : Owners) (free : List ℕ) (new : Book) (kept : ℕ) (list : List ℕ) (i : ℕ) → length list ≤ i → i ≤ length list → Freed me old owners free new kept (drop i list) i → Freed me old owners free new kept [] (length list)
freed_all me old owners free new kept list i past within f =
    let all : i ≡ length list = omega (arith, past, within) in
    subst (λ n. Freed me old owners free new kept [] n) all (subst (λ l. Freed me old owners free new kept l i) (drop_of_length-le list past) f)

-- the bound is kept to
pub within_one : (old mid : Book) (bound now : ℕ) → TakesPage old mid → (old.first_free ≡ 0 → old.count < bound) → now ≡ mid.count → (now ≡ old.count) ⊎ (now ≤ bound)
within_one old mid bound now t within same = elim (cases_eq old.first_free 0) [
  | inl none ↦
      let count : mid.count ≡ old.count + 1 = t.count ∙ ap (λ b. if b then old.count + 1 else old.count) (eq-eqb old.first_free 0 none) in
      let less = within none in
      inr (omega (arith, count, less, same))
  | inr some ↦
      let count : mid.count ≡ old.count = t.count ∙ ap (λ b. if b then old.count + 1 else old.count) (ne_eqb old.first_free 0 some) in
      inl (same ∙ count)
]

pub within_more : (old mid new bound : ℕ) → (mid ≡ old) ⊎ (mid ≤ bound) → (new ≡ mid) ⊎ (new ≤ bound) → (new ≡ old) ⊎ (new ≤ bound)
within_more old mid new bound one (inr two) = inr two
within_more old mid new bound (inl one) (inl two) = inl (two ∙ one)
within_more old mid new bound (inr one) (inl two) = inr (omega (arith, one, two))

pub bound_same : (within : Within) (a b : Pages) → limit_of b ≡ limit_of a → bound_of within b ≡ bound_of within a
bound_same Limit a b same = same
bound_same Any a b same = refl

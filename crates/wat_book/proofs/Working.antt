-- How the work of one owner leaves the others alone.
use Rattle.std.proofs.Common.{◌≡◌, ◌≢◌, ◌⊎◌, inl, inr, ⊎_elim, ℕ, ◌+◌, ◌<◌, ◌≤◌, ◌==◌, ◌&&◌, ◌||◌, Bool, true, false, if◌then◌else◌, List, [], ◌∷◌, length, Option, Some, None, refl, sym, ap, ap₂, ◌∙◌, subst, arith}
use Rattle.std.specs.Prelude.{nat_eq, nat_lt}
use Rattle.std.specs.List.{list_any}
use Rattle.std.proofs.lemmas.Bool.{cases_Bool, eq-eqb, eqb-true, ne_eqb, lt-ltb, ltb-true, cases_order, or_left, or_right}
use Rattle.wat_book.specs.Book.{Book, Owners, nobody, header, Section, section, IsFreePage, IsFreeChain, IsOwned, Works, WorksTo, with_owner, next_in, TakesPage, GivesPage, Writes, SameBook, SameButHeader}

-- one step of work after another
pub works_on : (me : ℕ) (a b c : Book) (x y z : Owners) → me ≢ nobody → Works me a x b y → Works me b y c z → Works me a x c z
works_on me a b c x y z real one two = record {
  count = omega (arith, one.count, two.count);
  others = λ page below not_me not_free.
      let first = one.others page below not_me not_free in
      let second = two.others page (omega (arith, one.count)) (λ e. not_me (sym first.1 ∙ e)) (λ e. not_free (sym first.1 ∙ e)) in
      (second.0 ∙ first.0, second.1 ∙ first.1);
  mine = λ page below either. two.mine page (omega (arith, one.count)) (one.mine page below either);
  added = λ page from below. by page from below (cases_Bool (nat_lt page b.count));
}
  where
    by : (page : ℕ) → a.count ≤ page → page < c.count → (nat_lt page b.count ≡ true) ⊎ (nat_lt page b.count ≡ false) → (z page ≡ me) ⊎ (z page ≡ nobody)
    by page from below (inl yes_below) = let l = ltb-true page b.count yes_below in two.mine page l (one.added page from l)
    by page from below (inr not_below) = two.added page (at_least page b.count not_below) below
      where
        at_least : (p n : ℕ) → nat_lt p n ≡ false → n ≤ p
        at_least p n h = elim (cases_order n p) [
          | inl same ↦ omega arith
          | inr order ↦ elim order [ inl less ↦ omega arith | inr more ↦ absurd (let no : true ≡ false = sym (lt-ltb p n more) ∙ h in cc) ]
        ]

pub section_at : (book : Book) (owners : Owners) (who page : ℕ) → page < book.count → owners page ≡ who → section book owners who page ≡ Some (book.page page)
section_at book owners who page below is = ap₂ (λ a b. if a && b then Some (book.page page) else None) (lt-ltb page book.count below) (eq-eqb (owners page) who is)

-- the pages of the others are as they were
pub same_section : (me who : ℕ) (old new : Book) (owners next : Owners) → who ≢ me → who ≢ nobody → Works me old owners new next → section new next who ≡ section old owners who
same_section me who old new owners next not_me not_free w = λ i page. each page i
  where
    none_new : (page : ℕ) → next page ≢ who → section new next who page ≡ None
    none_new page other = elim (nat_lt page new.count) as (λ v. (if v && (next page == who) then Some (new.page page) else None) ≡ None) [
      | true ↦ ap (λ b. if b then Some (new.page page) else None) (ne_eqb (next page) who other)
      | false ↦ refl
    ]

    none_old : (page : ℕ) → owners page ≢ who → section old owners who page ≡ None
    none_old page other = elim (nat_lt page old.count) as (λ v. (if v && (owners page == who) then Some (old.page page) else None) ≡ None) [
      | true ↦ ap (λ b. if b then Some (old.page page) else None) (ne_eqb (owners page) who other)
      | false ↦ refl
    ]

    of_mine : (page : ℕ) → (next page ≡ me) ⊎ (next page ≡ nobody) → next page ≢ who
    of_mine page (inl is) e = not_me (sym e ∙ is)
    of_mine page (inr is) e = not_free (sym e ∙ is)

    past_new : (page : ℕ) → nat_lt page new.count ≡ false → section new next who page ≡ None
    past_new page h = ap (λ b. if b && (next page == who) then Some (new.page page) else None) h

    past_old : (page : ℕ) → nat_lt page old.count ≡ false → section old owners who page ≡ None
    past_old page h = ap (λ b. if b && (owners page == who) then Some (old.page page) else None) h

    at_least : (p n : ℕ) → nat_lt p n ≡ false → n ≤ p
    at_least p n h = elim (cases_order n p) [
      | inl same ↦ omega arith
      | inr order ↦ elim order [ inl less ↦ omega arith | inr more ↦ absurd (let no : true ≡ false = sym (lt-ltb p n more) ∙ h in cc) ]
    ]

    each : (page : ℕ) → section new next who page ≡ section old owners who page
    each page = elim (cases_Bool (nat_lt page old.count)) [
      | inr past ↦ elim (cases_Bool (nat_lt page new.count)) [
        | inr far ↦ past_new page far ∙ sym (past_old page past)
        | inl there ↦ none_new page (of_mine page (w.added page (at_least page old.count past) (ltb-true page new.count there))) ∙ sym (past_old page past)
      ]
      | inl within ↦
          let below = ltb-true page old.count within in
          elim (cases_Bool (owners page == me)) [
            | inl is_me ↦
                let is = eqb-true (owners page) me is_me in
                none_new page (of_mine page (w.mine page below (inl is))) ∙ sym (none_old page (λ e. not_me (sym e ∙ is)))
            | inr isnt_me ↦ elim (cases_Bool (owners page == nobody)) [
              | inl is_free ↦
                  let is = eqb-true (owners page) nobody is_free in
                  none_new page (of_mine page (w.mine page below (inr is))) ∙ sym (none_old page (λ e. not_free (sym e ∙ is)))
              | inr isnt_free ↦
                  let kept = w.others page below (λ e. let no : true ≡ false = sym (eq-eqb (owners page) me e) ∙ isnt_me in cc) (λ e. let no : true ≡ false = sym (eq-eqb (owners page) nobody e) ∙ isnt_free in cc) in
                  elim (cases_Bool (owners page == who)) [
                    | inl is_who ↦
                        let is = eqb-true (owners page) who is_who in
                        section_at new next who page (omega (arith, w.count)) (kept.1 ∙ is) ∙ ap Some kept.0 ∙ sym (section_at old owners who page below is)
                    | inr isnt_who ↦
                        let other : owners page ≢ who = λ e. let no : true ≡ false = sym (eq-eqb (owners page) who e) ∙ isnt_who in cc in
                        none_new page (λ e. other (sym kept.1 ∙ e)) ∙ sym (none_old page other)
                  ]
            ]
          ]
    ]

-- ---- the free list

-- pages that the chain does not name may change
chain_same : (p q : Section) (first : ℕ) (free : List ℕ) → ((page : ℕ) → list_any (nat_eq page) free ≡ true → q page ≡ p page) → IsFreeChain p first free → IsFreeChain q first free
chain_same p q first [] same chain = chain
chain_same p q first (here ∷ rest) same chain = (
  chain.0,
  chain.1,
  chain.2,
  subst (λ o. IsFreePage o chain.2) (sym (same here (or_left (nat_eq here here) (list_any (nat_eq here) rest) (eq-eqb here here refl)))) chain.3,
  chain_same p q chain.2 rest (λ page there. same page (or_right (nat_eq page here) (list_any (nat_eq page) rest) there)) chain.4,
)

-- the pages of a chain are among the section's
pub chain_owned : (book : Book) (owners : Owners) (first : ℕ) (free : List ℕ) → IsFreeChain (section book owners nobody) first free → (page : ℕ) → list_any (nat_eq page) free ≡ true
    → (page < book.count) × (owners page ≡ nobody) × (0 < page)
chain_owned book owners first [] chain page there = absurd (let no : false ≡ true = there in cc)
chain_owned book owners first (here ∷ rest) chain page there = elim (cases_Bool (nat_eq page here)) [
  | inl is ↦
      let same : page ≡ here = eqb-true page here is in
      let owned = here_owned in
      (subst (λ p. p < book.count) (sym same) owned.0, ap owners same ∙ owned.1, subst (λ p. 0 < p) (sym same) chain.1)
  | inr other ↦ chain_owned book owners chain.2 rest chain.4 page (let r : (nat_eq page here || list_any (nat_eq page) rest) ≡ true = there in rw other at r)
]
  where
    by : (a b : Bool) → nat_lt here book.count ≡ a → (owners here == nobody) ≡ b → IsFreePage (if a && b then Some (book.page here) else None) chain.2 → (here < book.count) × (owners here ≡ nobody)
    by true true x y is = (ltb-true here book.count x, eqb-true (owners here) nobody y)
    by true false x y is = absurd is
    by false b x y is = absurd is

    here_owned : (here < book.count) × (owners here ≡ nobody)
    here_owned = by (nat_lt here book.count) (owners here == nobody) refl refl chain.3

no_page : (next : ℕ) → IsFreePage None next → ⊥
no_page next h = h

one_next : (o : Option (List ℕ)) (a b : ℕ) → IsFreePage o a → IsFreePage o b → a ≡ b
one_next None a b x y = absurd x
one_next (Some bytes) a b x y = x.1 ∙ sym y.1

-- one chain begins at a page
chain_unique : (p : Section) (first : ℕ) (xs ys : List ℕ) → IsFreeChain p first xs → IsFreeChain p first ys → xs ≡ ys
chain_unique p first [] [] a b = refl
chain_unique p first [] (y ∷ ys) a b = absurd (omega (arith, a, b.0, b.1))
chain_unique p first (x ∷ xs) [] a b = absurd (omega (arith, b, a.0, a.1))
chain_unique p first (x ∷ xs) (y ∷ ys) a b =
    let same : x ≡ y = sym a.0 ∙ b.0 in
    let next : a.2 ≡ b.2 = one_next (p x) a.2 b.2 a.3 (subst (λ z. IsFreePage (p z) b.2) (sym same) b.3) in
    ap₂ (λ z zs. z ∷ zs) same (chain_unique p b.2 xs ys (subst (λ n. IsFreeChain p n xs) next a.4) b.4)

-- what stands in a chain begins one that is no longer
record Within (p : Section) (here : ℕ) (xs : List ℕ) : Type 0 where
  rest : List ℕ
  chain : IsFreeChain p here (here ∷ rest)
  shorter : length rest < length xs

within : (p : Section) (first here : ℕ) (xs : List ℕ) → IsFreeChain p first xs → list_any (nat_eq here) xs ≡ true → Within p here xs
within p first here [] chain there = absurd (let no : false ≡ true = there in cc)
within p first here (x ∷ xs) chain there = elim (cases_Bool (nat_eq here x)) [
  | inl is ↦
      let same : here ≡ x = eqb-true here x is in
      record { rest = xs; chain = subst (λ z. IsFreeChain p z (z ∷ xs)) (sym same) (refl, chain.1, chain.2, chain.3, chain.4); shorter = omega arith }
  | inr other ↦
      let w = within p chain.2 here xs chain.4 (let r : (nat_eq here x || list_any (nat_eq here) xs) ≡ true = there in rw other at r) in
      record { rest = w.rest; chain = w.chain; shorter = omega (arith, w.shorter) }
]

-- no page comes twice
pub chain_once : (p : Section) (first here : ℕ) (rest : List ℕ) → IsFreeChain p first (here ∷ rest) → list_any (nat_eq here) rest ≡ false
chain_once p first here rest chain = elim (cases_Bool (list_any (nat_eq here) rest)) [
  | inr none ↦ none
  | inl there ↦
      let w = within p chain.2 here rest chain.4 there in
      let whole : IsFreeChain p here (here ∷ rest) = (refl, chain.1, chain.2, chain.3, chain.4) in
      let same : here ∷ w.rest ≡ here ∷ rest = chain_unique p here (here ∷ w.rest) (here ∷ rest) w.chain whole in
      let lengths : length (here ∷ w.rest) ≡ length (here ∷ rest) = ap length same in
      absurd (omega (arith, lengths, w.shorter))
]

pub owner_here : (page who : ℕ) (owners : Owners) → with_owner page who owners page ≡ who
owner_here page who owners = ap (λ b. if b then who else owners page) (eq-eqb page page refl)

pub owner_there : (page who other : ℕ) (owners : Owners) → other ≢ page → with_owner page who owners other ≡ owners other
owner_there page who other owners apart = ap (λ b. if b then who else owners other) (ne_eqb page other (λ e. apart (sym e)))

-- a section is told by what it names
section_same : (old new : Book) (owners next : Owners) (who page : ℕ) → page < old.count → page < new.count → new.page page ≡ old.page page → next page ≡ owners page → section new next who page ≡ section old owners who page
section_same old new owners next who page a b bytes owner =
    ap (λ v. if v && (next page == who) then Some (new.page page) else None) (lt-ltb page new.count b)
    ∙ ap₂ (λ o x. if o == who then Some x else None) owner bytes
    ∙ sym (ap (λ v. if v && (owners page == who) then Some (old.page page) else None) (lt-ltb page old.count a))

-- A page that is handed out.
pub takes_free : (me here : ℕ) (rest : List ℕ) (old new : Book) (owners : Owners) → me ≢ nobody → IsOwned old owners (here ∷ rest) → TakesPage old new → WorksTo me old owners new (with_owner here me owners) rest
takes_free me here rest old new owners real o t = record { owned = owned; works = works }
  where
    chain : IsFreeChain (section old owners nobody) old.first_free (here ∷ rest)
    chain = o.unused.chain

    first_is : old.first_free ≡ here
    first_is = chain.0

    some : (old.first_free == 0) ≡ false
    some = ne_eqb old.first_free 0 (λ e. omega (arith, chain.0, chain.1, e))

    count : new.count ≡ old.count
    count = t.count ∙ ap (λ b. if b then old.count + 1 else old.count) some

    mine : (here < old.count) × (owners here ≡ nobody) × (0 < here)
    mine = chain_owned old owners old.first_free (here ∷ rest) chain here (or_left (nat_eq here here) (list_any (nat_eq here) rest) (eq-eqb here here refl))

    next_is : new.first_free ≡ chain.2
    next_is =
        t.first ∙ ap (λ b. if b then 0 else next_in (old.page old.first_free)) some ∙ ap (λ p. next_in (old.page p)) first_is
        ∙ sym (told (section old owners nobody here) (section_at old owners nobody here mine.0 mine.1) chain.3)
      where
        told : (x : Option (List ℕ)) → x ≡ Some (old.page here) → IsFreePage x chain.2 → chain.2 ≡ next_in (old.page here)
        told x e is = let there : IsFreePage (Some (old.page here)) chain.2 = subst (λ y. IsFreePage y chain.2) e is in there.1

    not_here : (page : ℕ) → list_any (nat_eq page) rest ≡ true → page ≢ here
    not_here page there e = let no : true ≡ false = sym there ∙ ap (λ p. list_any (nat_eq p) rest) e ∙ chain_once (section old owners nobody) old.first_free here rest chain in cc

    kept : (page : ℕ) → list_any (nat_eq page) rest ≡ true → section new (with_owner here me owners) nobody page ≡ section old owners nobody page
    kept page there =
        let at = chain_owned old owners chain.2 rest chain.4 page there in
        section_same old new owners (with_owner here me owners) nobody page at.0 (omega (arith, count, at.0)) (t.pages page at.0) (owner_there here me page owners (not_here page there))

    still : (page : ℕ) → page < new.count → with_owner here me owners page ≡ nobody → list_any (nat_eq page) rest ≡ true
    still page below is =
        let other : page ≢ here = λ e. real (sym (owner_here here me owners) ∙ ap (with_owner here me owners) (sym e) ∙ is) in
        let was : owners page ≡ nobody = sym (owner_there here me page owners other) ∙ is in
        let among : (nat_eq page here || list_any (nat_eq page) rest) ≡ true = o.unused.all page (omega (arith, count, below)) was in
        let isnt : nat_eq page here ≡ false = ne_eqb page here other in
        rw isnt at among

    owned : IsOwned new (with_owner here me owners) rest
    owned = record {
      some = omega (arith, count, o.some);
      first = owner_there here me 0 owners (λ e. omega (arith, chain.1, e)) ∙ o.first;
      unused = record {
        chain = subst (λ n. IsFreeChain (section new (with_owner here me owners) nobody) n rest) (sym next_is)
            (chain_same (section old owners nobody) (section new (with_owner here me owners) nobody) chain.2 rest kept chain.4);
        all = still;
      };
    }

    works : Works me old owners new (with_owner here me owners)
    works = record {
      count = omega (arith, count);
      others = λ page below not_me not_free. (t.pages page below, owner_there here me page owners (λ e. not_free (ap owners e ∙ mine.1)));
      mine = λ page below either. elim (cases_Bool (here == page)) [
        | inl is ↦ inl (ap (λ b. if b then me else owners page) is)
        | inr other ↦ let same : with_owner here me owners page ≡ owners page = ap (λ b. if b then me else owners page) other in ⊎_elim (λ a. inl (same ∙ a)) (λ b. inr (same ∙ b)) either
      ];
      added = λ page from below. absurd (omega (arith, count, from, below));
    }

pub takes_new : (me : ℕ) (old new : Book) (owners : Owners) → me ≢ nobody → IsOwned old owners [] → TakesPage old new → WorksTo me old owners new (with_owner old.count me owners) []
takes_new me old new owners real o t = record { owned = owned; works = works }
  where
    none : (old.first_free == 0) ≡ true
    none = eq-eqb old.first_free 0 o.unused.chain

    count : new.count ≡ old.count + 1
    count = t.count ∙ ap (λ b. if b then old.count + 1 else old.count) none

    owned : IsOwned new (with_owner old.count me owners) []
    owned = record {
      some = omega (arith, count);
      first = owner_there old.count me 0 owners (λ e. omega (arith, o.some, e)) ∙ o.first;
      unused = record {
        chain = t.first ∙ ap (λ b. if b then 0 else next_in (old.page old.first_free)) none;
        all = λ page below is.
            let other : page ≢ old.count = λ e. real (sym (owner_here old.count me owners) ∙ ap (with_owner old.count me owners) (sym e) ∙ is) in
            o.unused.all page (omega (arith, count, below, other)) (sym (owner_there old.count me page owners other) ∙ is);
      };
    }

    works : Works me old owners new (with_owner old.count me owners)
    works = record {
      count = omega (arith, count);
      others = λ page below not_me not_free. (t.pages page below, owner_there old.count me page owners (λ e. omega (arith, below, e)));
      mine = λ page below either.
          let same : with_owner old.count me owners page ≡ owners page = owner_there old.count me page owners (λ e. omega (arith, below, e)) in
          ⊎_elim (λ a. inl (same ∙ a)) (λ b. inr (same ∙ b)) either;
      added = λ page from below.
          let is : page ≡ old.count = omega (arith, count, from, below) in
          inl (ap (with_owner old.count me owners) is ∙ owner_here old.count me owners);
    }

-- A page that is taken back.
pub gives : (me page : ℕ) (free : List ℕ) (old new : Book) (owners : Owners) → me ≢ nobody → me ≢ header → page < old.count → owners page ≡ me → IsOwned old owners free → GivesPage page old new
    → WorksTo me old owners new (with_owner page nobody owners) (page ∷ free)
gives me page free old new owners real other below mine o g = record { owned = owned; works = works }
  where
    not_first : page ≢ 0
    not_first e = other (sym mine ∙ ap owners e ∙ o.first)

    here : section new (with_owner page nobody owners) nobody page ≡ Some (new.page page)
    here = section_at new (with_owner page nobody owners) nobody page (omega (arith, g.count, below)) (owner_here page nobody owners)

    kept : (p : ℕ) → list_any (nat_eq p) free ≡ true → section new (with_owner page nobody owners) nobody p ≡ section old owners nobody p
    kept p there =
        let at = chain_owned old owners old.first_free free o.unused.chain p there in
        let apart : p ≢ page = λ e. real (sym mine ∙ ap owners (sym e) ∙ at.1) in
        section_same old new owners (with_owner page nobody owners) nobody p at.0 (omega (arith, g.count, at.0)) (g.others p at.0 apart) (owner_there page nobody p owners apart)

    owned : IsOwned new (with_owner page nobody owners) (page ∷ free)
    owned = record {
      some = omega (arith, g.count, o.some);
      first = owner_there page nobody 0 owners (λ e. not_first (sym e)) ∙ o.first;
      unused = record {
        chain = (
          g.first,
          omega (arith, not_first),
          old.first_free,
          subst (λ x. IsFreePage x old.first_free) (sym here) (g.kind, sym g.tells),
          chain_same (section old owners nobody) (section new (with_owner page nobody owners) nobody) old.first_free free kept o.unused.chain,
        );
        all = λ p below_p is. elim (cases_Bool (nat_eq p page)) [
          | inl same ↦ or_left (nat_eq p page) (list_any (nat_eq p) free) same
          | inr apart ↦
              let not_it : p ≢ page = λ e. let no : true ≡ false = sym (eq-eqb p page e) ∙ apart in cc in
              or_right (nat_eq p page) (list_any (nat_eq p) free) (o.unused.all p (omega (arith, g.count, below_p)) (sym (owner_there page nobody p owners not_it) ∙ is))
        ];
      };
    }

    works : Works me old owners new (with_owner page nobody owners)
    works = record {
      count = omega (arith, g.count);
      others = λ p below_p not_me not_free.
          let apart : p ≢ page = λ e. not_me (ap owners e ∙ mine) in
          (g.others p below_p apart, owner_there page nobody p owners apart);
      mine = λ p below_p either. elim (cases_Bool (page == p)) [
        | inl is ↦ inr (ap (λ b. if b then nobody else owners p) is)
        | inr apart ↦ let same : with_owner page nobody owners p ≡ owners p = ap (λ b. if b then nobody else owners p) apart in ⊎_elim (λ a. inl (same ∙ a)) (λ b. inr (same ∙ b)) either
      ];
      added = λ p from below_p. absurd (omega (arith, g.count, from, below_p));
    }

-- A page of one's own that is written.
pub writes : (me page : ℕ) (bytes : List ℕ) (free : List ℕ) (old new : Book) (owners : Owners) → me ≢ nobody → owners page ≡ me → IsOwned old owners free → Writes page bytes old new
    → WorksTo me old owners new owners free
writes me page bytes free old new owners real mine o w = record { owned = owned; works = works }
  where
    kept : (p : ℕ) → list_any (nat_eq p) free ≡ true → section new owners nobody p ≡ section old owners nobody p
    kept p there =
        let at = chain_owned old owners old.first_free free o.unused.chain p there in
        let apart : p ≢ page = λ e. real (sym mine ∙ ap owners (sym e) ∙ at.1) in
        section_same old new owners owners nobody p at.0 (omega (arith, w.count, at.0)) (w.others p at.0 apart) refl

    owned : IsOwned new owners free
    owned = record {
      some = omega (arith, w.count, o.some);
      first = o.first;
      unused = record {
        chain = subst (λ n. IsFreeChain (section new owners nobody) n free) (sym w.first) (chain_same (section old owners nobody) (section new owners nobody) old.first_free free kept o.unused.chain);
        all = λ p below is. o.unused.all p (omega (arith, w.count, below)) is;
      };
    }

    works : Works me old owners new owners
    works = record {
      count = omega (arith, w.count);
      others = λ p below not_me not_free. (w.others p below (λ e. not_me (ap owners e ∙ mine)), refl);
      mine = λ p below either. either;
      added = λ p from below. absurd (omega (arith, w.count, from, below));
    }

-- ---- what leaves all pages, or all but the header's

-- one owner may do nothing
pub same_works : (me : ℕ) (old new : Book) (owners : Owners) → SameBook old new → Works me old owners new owners
same_works me old new owners same = record {
  count = omega (arith, same.count);
  others = λ page below not_me not_free. (same.pages page below, refl);
  mine = λ page below either. either;
  added = λ page from below. absurd (omega (arith, same.count, from, below));
}

module _ (old new : Book) (owners : Owners) (same : SameButHeader old new) (first : owners 0 ≡ header) where
  pub section_saved : (who : ℕ) → who ≢ header → section new owners who ≡ section old owners who
  section_saved who other = λ i page. each page i
    where
      past : (page : ℕ) → nat_lt page old.count ≡ false → section new owners who page ≡ section old owners who page
      past page h =
          ap (λ n. if nat_lt page n && (owners page == who) then Some (new.page page) else None) same.count
          ∙ ap (λ b. if b && (owners page == who) then Some (new.page page) else None) h
          ∙ sym (ap (λ b. if b && (owners page == who) then Some (old.page page) else None) h)

      none : (book : Book) (page : ℕ) → owners page ≢ who → section book owners who page ≡ None
      none book page apart = elim (nat_lt page book.count) as (λ v. (if v && (owners page == who) then Some (book.page page) else None) ≡ None) [
        | true ↦ ap (λ b. if b then Some (book.page page) else None) (ne_eqb (owners page) who apart)
        | false ↦ refl
      ]

      each : (page : ℕ) → section new owners who page ≡ section old owners who page
      each page = elim (cases_Bool (nat_lt page old.count)) [
        | inr far ↦ past page far
        | inl within ↦
            let below = ltb-true page old.count within in
            elim (cases_Bool (nat_eq page 0)) [
              | inl zero_page ↦
                  let apart : owners page ≢ who = λ e. other (sym e ∙ ap owners (eqb-true page 0 zero_page) ∙ first) in
                  none new page apart ∙ sym (none old page apart)
              | inr some_page ↦
                  let some : page ≢ 0 = λ e. let no : true ≡ false = sym (eq-eqb page 0 e) ∙ some_page in cc in
                  section_same old new owners owners who page below (omega (arith, same.count, below)) (same.pages page (omega (arith, some)) below) refl
            ]
      ]

pub saved_owned : (old new : Book) (owners : Owners) (free : List ℕ) → SameButHeader old new → IsOwned old owners free → IsOwned new owners free
saved_owned old new owners free same o = record {
  some = omega (arith, same.count, o.some);
  first = o.first;
  unused = record {
    chain = subst (λ n. IsFreeChain (section new owners nobody) n free) (sym same.first)
        (subst (λ p. IsFreeChain p old.first_free free) (sym (section_saved old new owners same o.first nobody (λ e. omega (arith, e)))) o.unused.chain);
    all = λ page below is. o.unused.all page (omega (arith, same.count, below)) is;
  };
}

pub but_header : (old new : Book) → SameBook old new → SameButHeader old new
but_header old new same = record { pages = λ page some below. same.pages page below; count = same.count; first = same.first }

pub same_owned : (old new : Book) (owners : Owners) (free : List ℕ) → SameBook old new → IsOwned old owners free → IsOwned new owners free
same_owned old new owners free same o = saved_owned old new owners free (but_header old new same) o

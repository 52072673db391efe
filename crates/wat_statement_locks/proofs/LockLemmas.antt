-- Locks that come, and locks that go.
use Rattle.std.proofs.Common.{◌≡◌, ℕ, zero, suc, ◌+◌, ◌<◌, ◌≤◌, Bool, true, false, not, ◌&&◌, ◌==◌, List, [], ◌∷◌, ◌++◌, length, map, filter, take, get_or, Option, Some, None, ◌⊎◌, refl, sym, ap, ◌∙◌, subst, inl, inr, ⊎_elim, arith, below_more}
use Rattle.std.specs.Prelude.{is_some, Result, Ok, Err, IfOk, OnErr}
use Rattle.std.specs.List.{list_any}
use Rattle.std.specs.declared.alloc.AllocError.{AllocError}
use Rattle.std.proofs.lemmas.List.{take_more}
use Rattle.std.proofs.lemmas.Bool.{eqb-true, eq-eqb, both_ways}
use Rattle.wat_list.specs.Has.{Has, HasSame}
use Rattle.wat_list.proofs.Members.{has_cases, has_left, has_right, has_map, map_has, has_filter, filter_has, has_any}
use Rattle.wat_locks.specs.declared.want.Want.{Want}
use Rattle.wat_locks.specs.declared.held.Held.{Held}
use Rattle.wat_locks.specs.declared.held.Against.{Against}
use Rattle.wat_locks.specs.declared.held.Asked.{Asked}
use Rattle.wat_locks.specs.declared.held.Asked.TheVariants as asked
use Rattle.wat_locks.specs.Held.{Adds, AreFree, Frees, IsFree, IsLeastOpposing, Named, Opposes, Answers, entry, is_for}
use Rattle.wat_steps.specs.Answering.{without_short}
use Rattle.wat_statement_locks.specs.Scans.{AreBelow, AreWantedBelow}
use Rattle.wat_statement_locks.specs.Visiting.{without_scan}

-- ---- numbers of scans

-- the lock is a short one of the connection, for a scan with a number below this one
abbrev pub IsShortBelow : ℕ → ℕ → Held → Type 0
IsShortBelow conn most h = (h.conn ≡ conn) × (scan : ℕ) × (h.short ≡ Some scan) × (scan < most)

pub none_short : (conn : ℕ) (held : List Held) → Frees held held (IsShortBelow conn 0)
none_short conn held h = (λ there. (there, λ p. let low = p.3 in absurd (omega (arith, low))), λ p. p.0)

-- one scan more
pub one_scan_more : (conn i : ℕ) (a b c : List Held) → Frees a b (IsShortBelow conn i) → Frees b c (λ h. (h.conn ≡ conn) × (h.short ≡ Some i)) → Frees a c (IsShortBelow conn (i + 1))
one_scan_more conn i a b c first second h = (
  λ there. let mid = (second h).0 there in
      let old = (first h).0 mid.0 in (
        old.0,
        λ p. below_more (λ k. h.short ≡ Some k → ⊥) i (λ k low e. old.1 (p.0, k, e, low)) (λ e. mid.1 (p.0, e)) p.1 p.3 p.2,
      ),
  λ p. (second h).1 (
    (first h).1 (p.0, λ q. let low = q.3 in p.1 (q.0, q.1, q.2, omega (arith, low))),
    λ q. p.1 (q.0, i, q.1, omega arith),
  ),
)

pub below_fewer : (most : ℕ) (old new : List Held) → ((h : Held) → Has h new → Has h old) → AreBelow most old → AreBelow most new
below_fewer most old new fewer below h scan there is = below h scan (fewer h there) is

pub frees_fewer : (P : Held → Type 0) (old new : List Held) → Frees old new P → (h : Held) → Has h new → Has h old
frees_fewer P old new frees h there = ((frees h).0 there).0

pub below_more_scans : (most more : ℕ) (held : List Held) → most ≤ more → AreBelow most held → AreBelow more held
below_more_scans most more held up below h scan there is = let low = below h scan there is in omega (arith, low)

-- the locks that come are for scans below, too
pub below_adds : (most conn : ℕ) (wants : List Want) (old new : List Held) → AreBelow most old → AreWantedBelow most wants → Adds old new conn wants → AreBelow most new
below_adds most conn wants old new below wanted adds h scan there is =
    ⊎_elim
    (λ (was : Has h old). below h scan was is)
    (λ (come : Has h (map (entry conn) wants)). let w = has_map (entry conn) h wants come in wanted w.0 scan w.1 (ap (λ (x : Held). x.short) w.2 ∙ is))
    (has_cases h old (map (entry conn) wants) ((adds h).0 there))

pub below_same : (most : ℕ) (old new : List Held) → AreBelow most old → HasSame new old → AreBelow most new
below_same most old new below same = below_fewer most old new (λ h there. (same h).0 there) below

pub none_wanted : (wants : List Want) → AreWantedBelow 0 (take 0 wants)
none_wanted wants w scan there is = absurd there

pub one_want_more : (wants : List Want) (i most more : ℕ) (x : Want) → i < length wants → x ≡ get_or wants i x → AreWantedBelow most (take i wants) → most ≤ more
    → ((scan : ℕ) → x.short ≡ Some scan → scan < more) → AreWantedBelow more (take (i + 1) wants)
one_want_more wants i most more x h is below up here w scan there short =
    ⊎_elim
    (λ (was : Has w (take i wants)). let low = below w scan was short in omega (arith, low))
    (λ (one : Has w (x ∷ [])). ⊎_elim (λ (e : x ≡ w). here scan (ap (λ (v : Want). v.short) e ∙ short)) (λ (no : ⊥). absurd no) one)
    (has_cases w (take i wants) (x ∷ []) (subst (λ (ws : List Want). Has w ws) (take_more wants i x h ∙ ap (λ (y : Want). take i wants ++ y ∷ []) (sym is)) there))

-- ---- a statement's end

-- the connection's short locks are gone, whatever scans they were for
pub statement_freed : (conn most : ℕ) (old new : List Held) → AreBelow most old → Frees old new (IsShortBelow conn most) → HasSame new (without_short conn old)
statement_freed conn most old new below frees x = (
  λ there. let was = (frees x).0 there in filter_has keeps x old was.0 (stays (x.conn == conn) x.short refl refl was.0 was.1),
  λ there. let was = has_filter keeps x old there in
      (frees x).1 (was.0, λ p. both_ways (keeps x) (goes p.0 p.1 p.2) was.1),
)
  where
    keeps : Held → Bool
    keeps h = not ((h.conn == conn) && is_some h.short)

    goes : x.conn ≡ conn → (scan : ℕ) → x.short ≡ Some scan → keeps x ≡ false
    goes e scan s = ap (λ (b : Bool). not (b && is_some x.short)) (eq-eqb x.conn conn e) ∙ ap (λ (o : Option ℕ). not (true && is_some o)) s

    stays : (b : Bool) (short : Option ℕ) → (x.conn == conn) ≡ b → x.short ≡ short → Has x old → (IsShortBelow conn most x → ⊥) → keeps x ≡ true
    stays false short e s was left = ap (λ (b : Bool). not (b && is_some x.short)) e
    stays true None e s was left = ap (λ (b : Bool). not (b && is_some x.short)) e ∙ ap (λ (o : Option ℕ). not (true && is_some o)) s
    stays true (Some scan) e s was left = absurd (left (eqb-true x.conn conn e, scan, s, below x scan was s))

-- ---- a transaction's end

pub transaction_freed : (conn : ℕ) (old new : List Held) → Frees old new (λ h. h.conn ≡ conn) → HasSame new (filter (λ (h : Held). not (h.conn == conn)) old)
transaction_freed conn old new frees x = (
  λ there. let was = (frees x).0 there in filter_has keeps x old was.0 (stays (x.conn == conn) refl was.1),
  λ there. let was = has_filter keeps x old there in
      (frees x).1 (was.0, λ e. both_ways (keeps x) (ap not (eq-eqb x.conn conn e)) was.1),
)
  where
    keeps : Held → Bool
    keeps h = not (h.conn == conn)

    stays : (b : Bool) → (x.conn == conn) ≡ b → (x.conn ≡ conn → ⊥) → keeps x ≡ true
    stays false e other = ap not e
    stays true e other = absurd (other (eqb-true x.conn conn e))

-- ---- a visit

-- what is free is free among fewer locks of others
pub free_still : (conn : ℕ) (wants : List Want) (old new : List Held) → ((h : Held) → Has h new → Has h old ⊎ (h.conn ≡ conn)) → AreFree old conn wants → AreFree new conn wants
free_still conn wants old new from free w wanted h there opposes =
    ⊎_elim (λ (was : Has h old). free w wanted h was opposes) (λ (own : h.conn ≡ conn). opposes.0 own) (from h there)

-- nothing is named where all is free
pub free_not_named : (conn : ℕ) (wants : List Want) (held : List Held) (a : Against) → AreFree held conn wants → Named held conn wants a → ⊥
free_not_named conn [] held a free named = named
free_not_named conn (w ∷ ws) held a free named =
    ⊎_elim
    (λ (here : (h : Held) × IsLeastOpposing held conn w.lock h × (Rattle.wat_locks.specs.Held.against h ≡ a)). free w (inl refl) here.0 here.1.stands here.1.opposes)
    (λ (later : IsFree held conn w.lock × Named held conn ws a). free_not_named conn ws held a (λ v there. free v (inr there)) later.1)
    named

abbrev IsOfScan : ℕ → ℕ → Held → Type 0
IsOfScan conn scan h = (h.conn ≡ conn) × (h.short ≡ Some scan)

scan_goes : (conn scan : ℕ) (h : Held) → IsOfScan conn scan h → ((h.conn == conn) && is_for scan h.short) ≡ true
scan_goes conn scan h p = ap (λ (b : Bool). b && is_for scan h.short) (eq-eqb h.conn conn p.0) ∙ ap (λ (o : Option ℕ). true && is_for scan o) p.1 ∙ ap (λ (b : Bool). true && b) (eq-eqb scan scan refl)

scan_stays : (conn scan : ℕ) (h : Held) → (IsOfScan conn scan h → ⊥) → not ((h.conn == conn) && is_for scan h.short) ≡ true
scan_stays conn scan h left = by (h.conn == conn) h.short refl refl
  where
    at : (other : ℕ) → h.conn ≡ conn → h.short ≡ Some other → (b : Bool) → (other == scan) ≡ b → not b ≡ true
    at other own s false e = refl
    at other own s true e = absurd (left (own, s ∙ ap Some (eqb-true other scan e)))

    by : (b : Bool) (short : Option ℕ) → (h.conn == conn) ≡ b → h.short ≡ short → not ((h.conn == conn) && is_for scan h.short) ≡ true
    by false short e s = ap (λ (b : Bool). not (b && is_for scan h.short)) e
    by true None e s = ap (λ (b : Bool). not (b && is_for scan h.short)) e ∙ ap (λ (o : Option ℕ). not (true && is_for scan o)) s
    by true (Some other) e s =
        ap (λ (b : Bool). not (b && is_for scan h.short)) e ∙ ap (λ (o : Option ℕ). not (true && is_for scan o)) s ∙ at other (eqb-true h.conn conn e) s (other == scan) refl

-- the locks come, those of the scan go, and the locks that came come once more
pub visit_made : (conn scan : ℕ) (wants : List Want) (old mid freed new : List Held) → Adds old mid conn wants → Frees mid freed (IsOfScan conn scan) → Adds freed new conn wants
    → HasSame new (without_scan conn scan old ++ map (entry conn) wants)
visit_made conn scan wants old mid freed new got frees again x = (
  λ there. ⊎_elim
      (λ (left : Has x freed). let was = (frees x).0 left in
      ⊎_elim
      (λ (before : Has x old). has_left x (without_scan conn scan old) (map (entry conn) wants) (filter_has keeps x old before (scan_stays conn scan x was.1)))
      (λ (come : Has x (map (entry conn) wants)). has_right x (without_scan conn scan old) (map (entry conn) wants) come)
      (has_cases x old (map (entry conn) wants) ((got x).0 was.0)))
      (λ (come : Has x (map (entry conn) wants)). has_right x (without_scan conn scan old) (map (entry conn) wants) come)
      (has_cases x freed (map (entry conn) wants) ((again x).0 there)),
  λ there. ⊎_elim
      (λ (left : Has x (without_scan conn scan old)). let was = has_filter keeps x old left in
      (again x).1 (has_left x freed (map (entry conn) wants) ((frees x).1 ((got x).1 (has_left x old (map (entry conn) wants) was.0), λ p. both_ways (keeps x) (ap not (scan_goes conn scan x p)) was.1))))
      (λ (come : Has x (map (entry conn) wants)). (again x).1 (has_right x freed (map (entry conn) wants) come))
      (has_cases x (without_scan conn scan old) (map (entry conn) wants) there),
)
  where
    keeps : Held → Bool
    keeps h = not ((h.conn == conn) && is_for scan h.short)

-- the wants that are not short stand still
pub long_stand : (conn scan : ℕ) (wants : List Want) (old mid freed : List Held) → Adds old mid conn wants → Frees mid freed (IsOfScan conn scan) → (w : Want) → Has w wants → w.short ≡ None → Has (entry conn w) freed
long_stand conn scan wants old mid freed got frees w wanted long =
    (frees (entry conn w)).1 ((got (entry conn w)).1 (has_right (entry conn w) old (map (entry conn) wants) (map_has (entry conn) w wants wanted)), λ p. let no : None ≡ Some scan = sym long ∙ p.1 in absurd (cc))

-- the wants are free there, too
pub free_after : (conn scan : ℕ) (wants : List Want) (old mid freed : List Held) → AreFree old conn wants → Adds old mid conn wants → Frees mid freed (IsOfScan conn scan) → AreFree freed conn wants
free_after conn scan wants old mid freed free got frees =
    free_still conn wants old freed (λ h there. ⊎_elim (λ (was : Has h old). inl was) (λ (come : Has h (map (entry conn) wants)). let w = has_map (entry conn) h wants come in inr (sym (ap (λ (x : Held). x.conn) w.2))) (has_cases h old (map (entry conn) wants) ((got h).0 ((frees h).0 there).0))) free

-- where none of the wants is short and all stand, nothing comes
pub nothing_comes : (conn : ℕ) (wants : List Want) (held : List Held) → ((w : Want) → Has w wants → Has (entry conn w) held) → Adds held held conn wants
nothing_comes conn wants held stand x = (
  λ there. has_left x held (map (entry conn) wants) there,
  λ there. ⊎_elim
      (λ (was : Has x held). was)
      (λ (come : Has x (map (entry conn) wants)). let w = has_map (entry conn) x wants come in subst (λ (h : Held). Has h held) w.2 (stand w.0 w.1))
      (has_cases x held (map (entry conn) wants) there),
)

-- ---- an ask

pub wanted_up : (most more : ℕ) (wants : List Want) → most ≤ more → AreWantedBelow most wants → AreWantedBelow more wants
wanted_up most more wants up below w scan there short = let low = below w scan there short in omega (arith, low)

-- whatever is answered, the scans with short locks are below
pub asked_below : (most conn : ℕ) (wants : List Want) (old new : List Held) (r : Result Asked AllocError) → AreBelow most old → AreWantedBelow most wants
    → IfOk r (λ a. Answers old new conn wants a) → OnErr r (HasSame new old) → AreBelow most new
asked_below most conn wants old new (Ok asked.Granted) below wanted answers err = below_adds most conn wants old new below wanted answers.1
asked_below most conn wants old new (Ok (asked.Against a)) below wanted answers err = subst (λ (held : List Held). AreBelow most held) (sym answers.1) below
asked_below most conn wants old new (Err e) below wanted answers err = below_same most old new below err

-- none of them is short
pub none_is_short : (wants : List Want) → list_any (λ (w : Want). is_some w.short) wants ≡ false → (w : Want) → Has w wants → w.short ≡ None
none_is_short wants none w there = by w.short refl
  where
    by : (short : Option ℕ) → w.short ≡ short → w.short ≡ None
    by None e = e
    by (Some scan) e = absurd (both_ways (list_any (λ (v : Want). is_some v.short) wants) none (has_any (λ (v : Want). is_some v.short) w wants there (ap is_some e)))

-- Serial histories: what they make, their prefixes, and how they go on.
use Rattle.std.proofs.Common.{◌≡◌, ℕ, zero, suc, nat_le, Bool, true, false, ◌||◌, List, [], ◌∷◌, ◌++◌, length, take, Option, Some, None, unwrap_or, refl, ap, sym, subst, ◌∙◌, arith}
use Rattle.std.specs.Option.{option_and_then}
use Rattle.std.proofs.lemmas.Bool.{leb-true, le-leb}
use Rattle.wat_value.specs.declared.change.Act.{Act}
use Rattle.wat_schema.specs.Tables.{Tables, apply, apply_all}
use Rattle.wat_rules.specs.Changes.{changes_schema}
use Rattle.wat_history.specs.Connection.{Part}
use Rattle.wat_history.specs.History.{Commit, effect, effects}
use Rattle.wat_history.specs.Serial.{Means, Follows, Serial, after}

pub apply_all-append : (xs ys : List Act) (t : Tables) → apply_all (xs ++ ys) t ≡ option_and_then (apply_all ys) (apply_all xs t)
apply_all-append [] ys t = refl
apply_all-append (x ∷ xs) ys t = by (apply_all-append xs ys) (apply x t)
  where
    by : ((v : Tables) → apply_all (xs ++ ys) v ≡ option_and_then (apply_all ys) (apply_all xs v)) → (o : Option Tables) → option_and_then (apply_all (xs ++ ys)) o ≡ option_and_then (apply_all ys) (option_and_then (apply_all xs) o)
    by h None = refl
    by h (Some v) = h v

-- acts, and then more
pub applied_both : (xs ys : List Act) (t mid u : Tables) → apply_all xs t ≡ Some mid → apply_all ys mid ≡ Some u → apply_all (xs ++ ys) t ≡ Some u
applied_both xs ys t mid u first second = apply_all-append xs ys t ∙ (ap (option_and_then (apply_all ys)) first ∙ second)

-- ---- what is made

pub follows_makes : (least : ℕ) (t u : Tables) (parts : List Part) → Follows least t parts u → apply_all (effect parts) t ≡ Some u
follows_makes least t u [] f = ap Some f
follows_makes least t u (p ∷ parts) f = applied_both p.entry.acts (effect parts) t f.1 u f.2 (follows_makes least f.1 u parts f.3)

pub serial_makes : (least : ℕ) (base t : Tables) (h : List Commit) → Serial least base h t → apply_all (effects h) base ≡ Some t
serial_makes least base t [] s = ap Some s
serial_makes least base t (commit ∷ h) s =
    applied_both (effect commit.parts) (effects h) base s.0 t (follows_makes least base s.0 commit.parts s.1) (serial_makes least s.0 t h s.2)

pub some_once : (o : Option Tables) (t u : Tables) → o ≡ Some t → o ≡ Some u → t ≡ u
some_once o t u a b = cc

pub one_end : (least : ℕ) (base t u : Tables) (h : List Commit) → Serial least base h t → Serial least base h u → t ≡ u
one_end least base t u h a b = some_once (apply_all (effects h) base) t u (serial_makes least base t h a) (serial_makes least base u h b)

-- ---- prefixes

pub prefixed : (least : ℕ) (base t : Tables) (h : List Commit) (count : ℕ) → Serial least base h t → (mid : Tables) × Serial least base (take count h) mid
prefixed least base t [] zero s = (base, refl)
prefixed least base t [] (suc count) s = (base, refl)
prefixed least base t (commit ∷ h) zero s = (base, refl)
prefixed least base t (commit ∷ h) (suc count) s = let more = prefixed least s.0 t h count s.2 in (more.0, (s.0, s.1, more.1))

-- The tables after the first so many transactions are those that they lead to.
pub after_is : (least : ℕ) (base mid : Tables) (h : List Commit) (count : ℕ) → Serial least base (take count h) mid → after base h count ≡ mid
after_is least base mid h count s = ap (λ o. unwrap_or o base) (serial_makes least base mid (take count h) s)

pub prefix_after : (least : ℕ) (base t : Tables) (h : List Commit) (count : ℕ) → Serial least base h t → Serial least base (take count h) (after base h count)
prefix_after least base t h count s =
    let found = prefixed least base t h count s in
    subst (Serial least base (take count h)) (sym (after_is least base found.0 h count found.1)) found.1

take_whole : (h : List Commit) → take (length h) h ≡ h
take_whole [] = refl
take_whole (commit ∷ h) = ap (λ rest. commit ∷ rest) (take_whole h)

pub after_all : (least : ℕ) (base t : Tables) (h : List Commit) → Serial least base h t → after base h (length h) ≡ t
after_all least base t h s = after_is least base t h (length h) (subst (λ (g : List Commit). Serial least base g t) (sym (take_whole h)) s)

-- ---- going on

pub goes_on : (least : ℕ) (t mid u : Tables) (parts : List Part) (p : Part) → Follows least t parts mid → Means least mid p → apply_all p.entry.acts mid ≡ Some u → Follows least t (parts ++ p ∷ []) u
goes_on least t mid u [] p f means made = let P : Tables → Type 0 = λ v. Follows least v (p ∷ []) u in subst P (sym f) (means, u, made, refl)
goes_on least t mid u (q ∷ parts) p f means made = (f.0, f.1, f.2, goes_on least f.1 mid u parts p f.3 means made)

pub grows : (least : ℕ) (base mid t : Tables) (h : List Commit) (commit : Commit) → Serial least base h mid → Follows least mid commit.parts t → Serial least base (h ++ commit ∷ []) t
grows least base mid t [] commit s f = let P : Tables → Type 0 = λ v. Serial least v (commit ∷ []) t in subst P (sym s) (t, f, refl)
grows least base mid t (other ∷ h) commit s f = (s.0, s.1, grows least s.0 mid t h commit s.2 f)

-- ---- fewer levels

or_right : (b : Bool) → (b || true) ≡ true
or_right true = refl
or_right false = refl

or_false : (b : Bool) → (b || false) ≡ true → b ≡ true
or_false true h = refl
or_false false h = h

pub at_least : (least more level : ℕ) (b : Bool) → nat_le least more ≡ true → (nat_le more level || b) ≡ true → (nat_le least level || b) ≡ true
at_least least more level true h k = or_right (nat_le least level)
at_least least more level false h k =
    let low = leb-true least more h in
    let high = leb-true more level (or_false (nat_le more level) k) in
    ap (λ x. x || false) (le-leb least level (omega arith))

pub means_higher : (least more : ℕ) (t : Tables) (p : Part) → nat_le least more ≡ true → Means least t p → Means more t p
means_higher least more t p h m = λ statement r read has serial said. m statement r read has (at_least least more p.entry.level (changes_schema statement) h serial) said

pub follows_higher : (least more : ℕ) (t u : Tables) (parts : List Part) → nat_le least more ≡ true → Follows least t parts u → Follows more t parts u
follows_higher least more t u [] h f = f
follows_higher least more t u (p ∷ parts) h f = (means_higher least more t p h f.0, f.1, f.2, follows_higher least more f.1 u parts h f.3)

pub serial_higher : (least more : ℕ) (base t : Tables) (h : List Commit) → nat_le least more ≡ true → Serial least base h t → Serial more base h t
serial_higher least more base t [] le s = s
serial_higher least more base t (commit ∷ h) le s = (s.0, follows_higher least more base s.0 commit.parts le s.1, serial_higher least more s.0 t h le s.2)

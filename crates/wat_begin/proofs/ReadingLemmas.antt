-- What a script that was read comes to, and readings of several.
use Rattle.std.proofs.Common.{◌≡◌, ℕ, ◌+◌, ◌<◌, ◌≤◌, Bool, true, false, if◌then◌else◌, List, [], ◌∷◌, ◌++◌, length, map, take, Option, Result, Ok, Err, String, Global, string_bytes, nat_lt, arith, refl, sym, ◌∙◌, ap, subst, suc, get_or, append_assoc}
use Rattle.std.proofs.lemmas.List.{length-map, length-take, length-take-le, map-append, take-map, take_all, take_more}
use Rattle.std.proofs.lemmas.Bool.{lt-ltb, le-ltb}
use Rattle.std.specs.Str.Lossy.{utf8_valid_len}
use Rattle.wat_io.specs.Scripts.{Texts}
use Rattle.wat_begin.specs.Readings.{Reading, Holds, Missing, Failing, MayRead, AreReadings, names_asked, script_of, scripts_of, script_limit}
use Rattle.wat_begin.specs.Faults.{◌>>=◌, UnlessMemory}
use Rattle.wat_begin.specs.declared.fault.Fault.{Fault}
use Rattle.wat_begin.specs.declared.fault.Fault.TheVariants.{Usage, CannotRead, TooLong, NotText, NoDatabase, Exists, Damaged, DiskFault, Memory}

-- a text that is shorter than where it was cut is whole
pub cut_whole : (n : ℕ) (text : List ℕ) → length (take (n + 1) text) ≤ n → take (n + 1) text ≡ text
cut_whole n text h = take_all (n + 1) text (omega (arith, length-take (n + 1) text, h))

-- what was read into an empty list
appended : (n : ℕ) (old bytes text : List ℕ) → old ≡ [] → bytes ≡ old ++ take n text → bytes ≡ take n text
appended n old bytes text empty read = rw empty at read

-- a read of no more than n bytes, which was cut behind one more, is of the whole text
pub whole_read : (n : ℕ) (old bytes text : List ℕ) → old ≡ [] → bytes ≡ old ++ take (n + 1) text → length bytes ≤ n → bytes ≡ text
whole_read n old bytes text empty read short =
    let e = appended (n + 1) old bytes text empty read in
    e ∙ cut_whole n text (omega (arith, short, ap length e))

pub long_read : (n : ℕ) (old bytes text : List ℕ) → old ≡ [] → bytes ≡ old ++ take (n + 1) text → n < length bytes → n < length text
long_read n old bytes text empty read long =
    let e = ap length (appended (n + 1) old bytes text empty read) in
    omega (arith, long, e, length-take (n + 1) text)

pub too_long : (i : ℕ) (text : List ℕ) → script_limit < length text → script_of i (Holds text) ≡ Err (TooLong i)
too_long i text h = rw (lt-ltb script_limit (length text) h) refl

pub not_text : (i : ℕ) (text : List ℕ) → length text ≤ script_limit → utf8_valid_len text < length text → script_of i (Holds text) ≡ Err (NotText i (utf8_valid_len text))
not_text i text short h = rw (le-ltb script_limit (length text) short, lt-ltb (utf8_valid_len text) (length text) h) refl

pub is_text : (i : ℕ) (text : List ℕ) → length text ≤ script_limit → utf8_valid_len text ≡ length text → script_of i (Holds text) ≡ Ok text
is_text i text short h = rw (le-ltb script_limit (length text) short, le-ltb (utf8_valid_len text) (length text) (omega (arith, h))) refl

-- As many readings as names.
length-readings : (told : Option Texts) (before now : ℕ) (names : List (List ℕ)) (rs : List Reading) → AreReadings told before now names rs → length rs ≡ length names
length-readings told before now [] [] h = refl
length-readings told before now (name ∷ names) (r ∷ rs) h = ap suc (length-readings told h.0 now names rs h.2)
length-readings told before now [] (r ∷ rs) h = absurd h
length-readings told before now (name ∷ names) [] h = absurd h

-- The readings so far, and one more.
AreReadings-more : (told : Option Texts) (before between now : ℕ) (names : List (List ℕ)) (rs : List Reading) (name : List ℕ) (r : Reading) →
    AreReadings told before between names rs → MayRead told between now name r → AreReadings told before now (names ++ name ∷ []) (rs ++ r ∷ [])
AreReadings-more told before between now [] [] name r h here = (now, subst (λ (n : ℕ). MayRead told n now name r) h here, refl)
AreReadings-more told before between now (x ∷ xs) (y ∷ ys) name r h here = (h.0, h.1, AreReadings-more told h.0 between now xs ys name r h.2 here)
AreReadings-more told before between now [] (y ∷ ys) name r h here = absurd h
AreReadings-more told before between now (x ∷ xs) [] name r h here = absurd h

bind_ok : {A B : Type 0} (r : Result A Fault) (f : A → Result B Fault) (y : B) → (r >>= f) ≡ Ok y → (x : A) × (r ≡ Ok x) × (f x ≡ Ok y)
bind_ok (Ok x) f y h = (x, refl, h)
bind_ok (Err e) f y h = cc

-- The scripts so far, and one more.
scripts_of-ok : (i : ℕ) (rs : List Reading) (texts : List (List ℕ)) (k : ℕ) (r : Reading) (text : List ℕ) → scripts_of i rs ≡ Ok texts → k ≡ i + length rs → script_of k r ≡ Ok text → scripts_of i (rs ++ r ∷ []) ≡ Ok (texts ++ text ∷ [])
scripts_of-ok i [] texts k r text h at e =
    let here : k ≡ i = omega (arith, at) in
    let e' = rw here at e in
    let none : [] ≡ texts = cc in
    rw e' (ap (λ (ts : List (List ℕ)). Ok (ts ++ text ∷ [])) none)
scripts_of-ok i (x ∷ xs) texts k r text h at e =
    let first = bind_ok (script_of i x) (λ t. scripts_of (i + 1) xs >>= λ ts. Ok (t ∷ ts)) texts h in
    let rest = bind_ok (scripts_of (i + 1) xs) (λ ts. Ok (first.0 ∷ ts)) texts first.2 in
    let more = scripts_of-ok (i + 1) xs rest.0 k r text rest.1 (omega (arith, at)) e in
    let whole : first.0 ∷ rest.0 ≡ texts = cc in
    rw (first.1, more) (ap (λ (ts : List (List ℕ)). Ok (ts ++ text ∷ [])) whole)

-- The scripts so far, and a fault.
scripts_of-err : (i : ℕ) (rs : List Reading) (texts : List (List ℕ)) (k : ℕ) (r : Reading) (fault : Fault) → scripts_of i rs ≡ Ok texts → k ≡ i + length rs → script_of k r ≡ Err fault → scripts_of i (rs ++ r ∷ []) ≡ Err fault
scripts_of-err i [] texts k r fault h at e =
    let here : k ≡ i = omega (arith, at) in
    let e' = rw here at e in
    rw e' refl
scripts_of-err i (x ∷ xs) texts k r fault h at e =
    let first = bind_ok (script_of i x) (λ t. scripts_of (i + 1) xs >>= λ ts. Ok (t ∷ ts)) texts h in
    let rest = bind_ok (scripts_of (i + 1) xs) (λ ts. Ok (first.0 ∷ ts)) texts first.2 in
    let more = scripts_of-err (i + 1) xs rest.0 k r fault rest.1 (omega (arith, at)) e in
    rw (first.1, more) refl

-- What follows from a fault's cause, unless memory was wanted.
pub UnlessMemory-map : (A B : Type 0) (fault : Fault) (P Q : Type 0) → (P → Q) → UnlessMemory {A = A} (Err fault) P → UnlessMemory {A = B} (Err fault) Q
UnlessMemory-map A B Memory P Q f h = tt
UnlessMemory-map A B Usage P Q f h = f h
UnlessMemory-map A B (CannotRead i) P Q f h = f h
UnlessMemory-map A B (TooLong i) P Q f h = f h
UnlessMemory-map A B (NotText i at) P Q f h = f h
UnlessMemory-map A B NoDatabase P Q f h = f h
UnlessMemory-map A B Exists P Q f h = f h
UnlessMemory-map A B (Damaged at) P Q f h = f h
UnlessMemory-map A B DiskFault P Q f h = f h

fault_names_of : (A : Type 0) (names : List (List ℕ)) (k at : ℕ) (text : List ℕ) (b c : Bool) (fault : Fault) →
    (if b then Err (TooLong k) else if c then Err (NotText k at) else Ok text) ≡ Err fault → names_asked {A = A} names (Err fault) ≡ take k names
fault_names_of A names k at text true c fault e = let same : TooLong k ≡ fault = cc in subst (λ (f : Fault). names_asked {A = A} names (Err f) ≡ take k names) same refl
fault_names_of A names k at text false true fault e = let same : NotText k at ≡ fault = cc in subst (λ (f : Fault). names_asked {A = A} names (Err f) ≡ take k names) same refl
fault_names_of A names k at text false false fault e = cc

-- Where script number k is at fault, the first k names were asked for.
fault_names : (A : Type 0) (names : List (List ℕ)) (k : ℕ) (r : Reading) (fault : Fault) → script_of k r ≡ Err fault → names_asked {A = A} names (Err fault) ≡ take k names
fault_names A names k (Holds text) fault e = fault_names_of A names k (utf8_valid_len text) text (nat_lt script_limit (length text)) (nat_lt (utf8_valid_len text) (length text)) fault e
fault_names A names k Missing fault e = let same : CannotRead k ≡ fault = cc in subst (λ (f : Fault). names_asked {A = A} names (Err f) ≡ take k names) same refl
fault_names A names k Failing fault e = let same : CannotRead k ≡ fault = cc in subst (λ (f : Fault). names_asked {A = A} names (Err f) ≡ take k names) same refl

-- The names up to the one at a place, and that one.
pub one_more_name : (names : List (String Global)) (i : ℕ) (name : String Global) → i < length names → name ≡ get_or names i name →
    take (i + 1) (map string_bytes names) ≡ take i (map string_bytes names) ++ string_bytes name ∷ []
one_more_name names i name within is =
    take-map string_bytes (i + 1) names
    ∙ ap (map string_bytes) (take_more names i name within ∙ ap (λ n. take i names ++ n ∷ []) (sym is))
    ∙ map-append string_bytes (take i names) (name ∷ [])
    ∙ ap (λ ns. ns ++ string_bytes name ∷ []) (sym (take-map string_bytes i names))

-- all the names
pub all_names : (names : List (String Global)) (i : ℕ) → length names ≤ i → take i (map string_bytes names) ≡ map string_bytes names
all_names names i all = take_all i (map string_bytes names) (omega (arith, all, length-map names string_bytes))

-- The names that were asked for so far, and one more.
pub asked_more : (names : List (List ℕ)) (i : ℕ) (name : List ℕ) (start asked now : List (List ℕ)) → take (i + 1) names ≡ take i names ++ name ∷ [] → asked ≡ start ++ take i names → now ≡ asked ++ name ∷ [] →
    now ≡ start ++ take (i + 1) names
asked_more names i name start asked now more so_far here = here ∙ ap (λ a. a ++ name ∷ []) so_far ∙ append_assoc start (take i names) (name ∷ []) ∙ ap (λ ns. start ++ ns) (sym more)

-- A fault of the script behind those so far: the names up to it were asked for.
pub asked_here : (told : Option Texts) (names : List (List ℕ)) (i mid now : ℕ) (name : List ℕ) (start asked_now : List (List ℕ)) (fault : Fault) → asked_now ≡ start ++ take (i + 1) names →
    UnlessMemory {A = List ℕ} (Err fault) ((reading : Reading) × MayRead told mid now name reading × (Err fault ≡ script_of (i + 1) reading)) →
    UnlessMemory {A = List (List ℕ)} (Err fault) (asked_now ≡ start ++ names_asked {A = List (List ℕ)} names (Err fault))
asked_here told names i mid now name start asked_now fault is here =
    UnlessMemory-map (List ℕ) (List (List ℕ)) fault ((reading : Reading) × MayRead told mid now name reading × (Err fault ≡ script_of (i + 1) reading)) (asked_now ≡ start ++ names_asked {A = List (List ℕ)} names (Err fault))
    (λ h. is ∙ ap (λ ns. start ++ ns) (sym (fault_names (List (List ℕ)) names (i + 1) h.0 fault (sym h.2)))) here

-- A fault of the script behind those so far is a fault of all.
pub fault_here : (told : Option Texts) (names : List (List ℕ)) (i start mid now : ℕ) (name : List ℕ) (rs : List Reading) (texts : List (List ℕ)) (fault : Fault) →
    take (i + 1) names ≡ take i names ++ name ∷ [] → length (take i names) ≡ i → AreReadings told start mid (take i names) rs → scripts_of 1 rs ≡ Ok texts →
    UnlessMemory {A = List ℕ} (Err fault) ((reading : Reading) × MayRead told mid now name reading × (Err fault ≡ script_of (i + 1) reading)) →
    UnlessMemory {A = List (List ℕ)} (Err fault) ((all : List Reading) × AreReadings told start now (names_asked {A = List (List ℕ)} names (Err fault)) all × (Err fault ≡ scripts_of 1 all))
fault_here told names i start mid now name rs texts fault more many so_far ok here =
    let count = length-readings told start mid (take i names) rs so_far in
    UnlessMemory-map (List ℕ) (List (List ℕ)) fault ((reading : Reading) × MayRead told mid now name reading × (Err fault ≡ script_of (i + 1) reading))
    ((all : List Reading) × AreReadings told start now (names_asked {A = List (List ℕ)} names (Err fault)) all × (Err fault ≡ scripts_of 1 all))
    (λ h. (
      rs ++ h.0 ∷ [],
      subst (λ (ns : List (List ℕ)). AreReadings told start now ns (rs ++ h.0 ∷ [])) (sym (fault_names (List (List ℕ)) names (i + 1) h.0 fault (sym h.2) ∙ more)) (AreReadings-more told start mid now (take i names) rs name h.0 so_far h.1),
      sym (scripts_of-err 1 rs texts (i + 1) h.0 fault ok (omega (arith, count, many)) (sym h.2)),
    )) here

-- One more script was read.
pub text_here : (told : Option Texts) (names : List (List ℕ)) (i start mid now : ℕ) (name : List ℕ) (rs : List Reading) (texts : List (List ℕ)) (text : List ℕ) →
    take (i + 1) names ≡ take i names ++ name ∷ [] → length (take i names) ≡ i → AreReadings told start mid (take i names) rs → scripts_of 1 rs ≡ Ok texts →
    (reading : Reading) × MayRead told mid now name reading × (Ok text ≡ script_of (i + 1) reading) →
    (all : List Reading) × AreReadings told start now (take (i + 1) names) all × (scripts_of 1 all ≡ Ok (texts ++ text ∷ []))
text_here told names i start mid now name rs texts text more many so_far ok here =
    let count = length-readings told start mid (take i names) rs so_far in (
      rs ++ here.0 ∷ [],
      subst (λ (ns : List (List ℕ)). AreReadings told start now ns (rs ++ here.0 ∷ [])) (sym more) (AreReadings-more told start mid now (take i names) rs name here.0 so_far here.1),
      scripts_of-ok 1 rs texts (i + 1) here.0 text ok (omega (arith, count, many)) (sym here.2),
    )

-- as many names as were taken
pub taken_names : (names : List (String Global)) (i : ℕ) → i < length names → length (take i (map string_bytes names)) ≡ i
taken_names names i within = length-take-le i (map string_bytes names) (omega (arith, within, length-map names string_bytes))

-- Whether one token ahead is enough to read by a grammar.
use Rattle.std.specs.Prelude.{◌≡◌, Bool, true, false, ◌&&◌, ◌||◌, not, if◌then◌else◌, List, [], ◌++◌, Option, is_some}
use Rattle.std.specs.List.{list_all}
use Rattle.wat_grammar.specs.Phrase.{Phrase, token, empty, seq, or, many, map, level, nested, Grammar, has, can_be_empty, first_kinds}

-- the kinds of token with which the phrase may go on where it could end
abbrev pub more : {K X N E A : Type 0} → Grammar K X N E → Phrase K X N E A → List K
more g (token k f) = []
more g (empty a) = []
more g (seq p q) = if can_be_empty q then more g p ++ more g q else more g q
more g (or p q) = if can_be_empty q then first_kinds g p ++ (more g p ++ more g q) else more g p ++ more g q
more g (many p) = first_kinds g p ++ more g p
more g (map f p) = more g p
more g (level p) = more g p
more g (nested n) = g.exit n

abbrev pub are_apart : {K X N E : Type 0} → Grammar K X N E → List K → List K → Bool
are_apart g ks ls = list_all (λ k. not (has g ls k)) ks

abbrev pub is_part : {K X N E : Type 0} → Grammar K X N E → List K → List K → Bool
is_part g ks ls = list_all (has g ls) ks

-- whether something is derived, where levels may be opened if `deep` is true
abbrev pub is_alive : {K X N E A : Type 0} → Bool → Phrase K X N E A → Bool
is_alive deep (token k f) = true
is_alive deep (empty a) = true
is_alive deep (seq p q) = is_alive deep p && is_alive deep q
is_alive deep (or p q) = is_alive deep p || is_alive deep q
is_alive deep (many p) = true
is_alive deep (map f p) = is_alive deep p
is_alive deep (level p) = deep && is_alive deep p
is_alive deep (nested n) = deep

-- whether it is refused at its first token where no level may be opened
abbrev pub is_level : {K X N E A : Type 0} → Phrase K X N E A → Bool
is_level (token k f) = false
is_level (empty a) = false
is_level (seq p q) = false
is_level (or p q) = is_level p && is_level q
is_level (many p) = false
is_level (map f p) = is_level p
is_level (level p) = true
is_level (nested n) = false

-- whether something is derived, or else it is refused at its first token
abbrev pub is_safe : {K X N E A : Type 0} → Bool → Phrase K X N E A → Bool
is_safe deep p = is_alive deep p || is_level p

-- `example` has a token of each kind
abbrev pub is_example : {K X N E A : Type 0} → Grammar K X N E → K → (X → Option A) → X → Bool
is_example g k f x = g.same (g.kind x) k && is_some (f x)

-- One token ahead tells which way to go: no phrase goes on with a token with which the next may begin.
abbrev pub is_predictive : {K X N E A : Type 0} → Grammar K X N E → (K → X) → (deep : Bool) → Phrase K X N E A → Bool
is_predictive g example deep (token k f) = is_example g k f (example k)
is_predictive g example deep (empty a) = true
is_predictive g example deep (seq p q) = is_predictive g example deep p && (is_predictive g example deep q && are_apart g (more g p) (first_kinds g q))
is_predictive g example deep (or p q) = is_predictive g example deep p && (is_predictive g example deep q && (are_apart g (first_kinds g p) (first_kinds g q) && (not (can_be_empty p) && (is_safe deep p && is_safe deep q))))
is_predictive g example deep (many p) = is_predictive g example deep p && (not (can_be_empty p) && (are_apart g (more g p) (first_kinds g p) && is_safe deep p))
is_predictive g example deep (map f p) = is_predictive g example deep p
is_predictive g example deep (level p) = is_predictive g example true p
is_predictive g example deep (nested n) = true

-- the phrase of that name begins and goes on as said, and isn't out of reach
abbrev pub is_sound_rule : {K X N E : Type 0} → Grammar K X N E → (K → X) → N → Bool
is_sound_rule g example n =
    is_predictive g example false (g.rule n) && (is_part g (first_kinds g (g.rule n)) (g.entry n) && (is_part g (more g (g.rule n)) (g.exit n)
    && (not (can_be_empty (g.rule n)) && is_alive false (g.rule n))))

-- The kinds are told apart, the examples are tokens that some text has, and each phrase that nests is as its grammar says.
pub record IsPredictive {K X N E : Type 0} (g : Grammar K X N E) (example : K → X) : Type 0 where
  pub same_true : (a b : K) → g.same a b ≡ true → a ≡ b
  pub same_refl : (a : K) → g.same a a ≡ true
  pub are_tokens : (k : K) → g.IsToken (example k)
  pub rules : (n : N) → is_sound_rule g example n ≡ true

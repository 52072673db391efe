-- The groups of a script, token by token.
use Rattle.std.proofs.Common.{◌≡◌, ℕ, Bool, true, false, cond, List, [], ◌∷◌, ◌++◌, Option, Some, None, refl, sym, ◌∙◌, ap, append_assoc}
use Rattle.std.specs.List.{flat_map}
use Rattle.std.specs.Option.{option_to_list}
use Rattle.wat_lex.specs.declared.token.Token.{Token}
use Rattle.wat_parse.specs.declared.script.Span.{Span}
use Rattle.wat_parse.specs.Statements.{is_semicolon, before_first, groups, last_of, span_of, lengthened}

-- the spans from an open group on
abbrev pub spans_from : List ℕ → Option Span → List Token → List Span
spans_from text group [] = option_to_list group
spans_from text group (t ∷ ts) = cond (is_semicolon text t) (option_to_list group ++ spans_from text None ts) (spans_from text (Some (lengthened group t)) ts)

append_nil : {A : Type 0} (xs : List A) → xs ++ [] ≡ xs
append_nil [] = refl
append_nil (x ∷ xs) = ap (λ ys. x ∷ ys) (append_nil xs)

-- a group, and then the rest of the first group
abbrev join : List Token → List (List Token) → List (List Token)
join g [] = g ∷ []
join g (h ∷ hs) = (g ++ h) ∷ hs

join-before_first : (g : List Token) (t : Token) (hs : List (List Token)) → join g (before_first t hs) ≡ join (g ++ t ∷ []) hs
join-before_first g t [] = refl
join-before_first g t (h ∷ hs) = ap (λ (k : List Token). k ∷ hs) (sym (append_assoc g (t ∷ []) h))

join_one : (t : Token) (hs : List (List Token)) → join (t ∷ []) hs ≡ before_first t hs
join_one t [] = refl
join_one t (h ∷ hs) = refl

last_of-push : (t : Token) (ts : List Token) (u : Token) → last_of t (ts ++ u ∷ []) ≡ u
last_of-push t [] u = refl
last_of-push t (v ∷ ts) u = last_of-push v ts u

abbrev open_span : Token → List Token → Span
open_span t ts = record { from = t.from; to = (last_of t ts).to }

spanned : ℕ → ℕ → Span
spanned a b = record { from = a; to = b }

lengthened-open : (t : Token) (ts : List Token) (u : Token) → lengthened (Some (open_span t ts)) u ≡ open_span t (ts ++ u ∷ [])
unfolding spanned
lengthened-open t ts u = ap (λ (v : Token). spanned t.from v.to) (sym (last_of-push t ts u))

-- what the groups give, where one is open, and where none is
AreSpanned : List ℕ → List Token → Type 0
AreSpanned text ts =
    ((t : Token) (g : List Token) → spans_from text (Some (open_span t g)) ts ≡ flat_map span_of (join (t ∷ g) (groups text ts)))
    × (spans_from text None ts ≡ flat_map span_of (groups text ts))

open_step : (text : List ℕ) (t : Token) (g : List Token) (u : Token) (us : List Token) (b : Bool) → AreSpanned text us
    → cond b (option_to_list (Some (open_span t g)) ++ spans_from text None us) (spans_from text (Some (lengthened (Some (open_span t g)) u)) us)
    ≡ flat_map span_of (join (t ∷ g) (cond b ([] ∷ groups text us) (before_first u (groups text us))))
unfolding AreSpanned
open_step text t g u us true h =
    ap (λ (k : List Token). open_span t k ∷ spans_from text None us) (sym (append_nil g))
    ∙ ap (λ (r : List Span). open_span t (g ++ []) ∷ r) h.1
open_step text t g u us false h =
    ap (λ (s : Span). spans_from text (Some s) us) (lengthened-open t g u)
    ∙ h.0 t (g ++ u ∷ [])
    ∙ ap (λ (k : List (List Token)). flat_map span_of k) (sym (join-before_first (t ∷ g) u (groups text us)))

closed_step : (text : List ℕ) (u : Token) (us : List Token) (b : Bool) → AreSpanned text us
    → cond b (option_to_list None ++ spans_from text None us) (spans_from text (Some (lengthened None u)) us)
    ≡ flat_map span_of (cond b ([] ∷ groups text us) (before_first u (groups text us)))
unfolding AreSpanned
closed_step text u us true h = h.1
closed_step text u us false h = h.0 u [] ∙ ap (λ (k : List (List Token)). flat_map span_of k) (join_one u (groups text us))

spanned_all : (text : List ℕ) (ts : List Token) → AreSpanned text ts
unfolding AreSpanned
spanned_all text [] = ((λ t g. ap (λ (k : List Token). open_span t k ∷ []) (sym (append_nil g))), refl)
spanned_all text (u ∷ us) = ((λ t g. open_step text t g u us (is_semicolon text u) (spanned_all text us)), closed_step text u us (is_semicolon text u) (spanned_all text us))

pub spans_from-groups : (text : List ℕ) (ts : List Token) → spans_from text None ts ≡ flat_map span_of (groups text ts)
unfolding AreSpanned
spans_from-groups text ts = (spanned_all text ts).1

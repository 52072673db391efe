-- Texts that grow by tokens.
use Rattle.std.proofs.Common.{◌≡◌, ℕ, ◌||◌, List, [], ◌∷◌, ◌++◌, refl, sym, ◌∙◌, ap, append_assoc}
use Rattle.wat_spell.specs.Growing.{Growing, put, puts, empty}
use Rattle.wat_spell.specs.Tokens.{Token, gap, token_text, is_tight_behind, is_tight_before, written}

pub puts_append : (w : Growing) (ts us : List Token) → puts w (ts ++ us) ≡ puts (puts w ts) us
puts_append w [] us = refl
puts_append w (t ∷ ts) us = puts_append (put w t) ts us

behind : (w : Growing) (t : Token) (ts : List Token) → (puts (put w t) ts).text ≡ w.text ++ gap (w.is_tight || is_tight_before t) ++ written (t ∷ ts)
behind w t [] = refl
behind w t (u ∷ ts) =
    let here = gap (w.is_tight || is_tight_before t) in
    let between = gap (is_tight_behind t || is_tight_before u) in
    behind (put w t) u ts
    ∙ append_assoc (w.text ++ here ++ token_text t) between (written (u ∷ ts))
    ∙ append_assoc (w.text ++ here) (token_text t) (between ++ written (u ∷ ts))
    ∙ ap (λ (z : List ℕ). w.text ++ here ++ z) (sym (append_assoc (token_text t) between (written (u ∷ ts))))

-- what is written from nothing on
pub puts_written : (ts : List Token) → (puts empty ts).text ≡ written ts
puts_written [] = refl
puts_written (t ∷ ts) = behind empty t ts

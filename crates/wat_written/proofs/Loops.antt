-- One column more, in loops over columns.
use Rattle.std.proofs.Common.{◌≡◌, ℕ, zero, suc, ◌+◌, ◌<◌, List, [], ◌∷◌, ◌++◌, length, get_or, take, Option, Some, None, refl, sym, ap, ◌∙◌, arith}
use Rattle.std.specs.List.{cons_option, filter_map, fold, range_with_len}
use Rattle.std.proofs.lemmas.List.{append-nil, take_more}
use Rattle.std.proofs.lemmas.List.Elements.{filter_map-append}
use Rattle.wat_ast.specs.declared.expression.BinaryOp.TheVariants.{And}
use Rattle.wat_ast.specs.declared.expression.Expr.{Expr}
use Rattle.wat_ast.specs.declared.expression.Expr.TheVariants.{Binary}
use Rattle.wat_written.specs.Joining.{with_test}
use Rattle.wat_written.specs.Written.{all_of}

fold_push : (left : Expr) (tests : List Expr) (test : Expr) → fold (Binary And) left (tests ++ test ∷ []) ≡ Binary And (fold (Binary And) left tests) test
fold_push left [] test = refl
fold_push left (t ∷ tests) test = fold_push (Binary And left t) tests test

all_push : (tests : List Expr) (test : Option Expr) → all_of (tests ++ cons_option test []) ≡ with_test (all_of tests) test
all_push tests None = ap all_of (append-nil tests)
all_push [] (Some test) = refl
all_push (t ∷ tests) (Some test) = ap Some (fold_push t tests test)

pub tests_more : (h : ℕ → Option Expr) (numbers : List ℕ) (i : ℕ) (tests test next : Option Expr) → i < length numbers
    → tests ≡ all_of (filter_map h (take i numbers)) → test ≡ h (get_or numbers i 0) → next ≡ with_test tests test → next ≡ all_of (filter_map h (take (i + 1) numbers))
tests_more h numbers i tests test next within before test_is next_is =
    next_is ∙ ap (λ (o : Option Expr). with_test o test) before ∙ ap (with_test (all_of (filter_map h (take i numbers)))) test_is
    ∙ sym (all_push (filter_map h (take i numbers)) (h (get_or numbers i 0)))
    ∙ ap all_of (sym (filter_map-append h (take i numbers) (get_or numbers i 0 ∷ [])))
    ∙ ap (λ (ns : List ℕ). all_of (filter_map h ns)) (sym (take_more numbers i 0 within))

counting_more : (a n j : ℕ) → a + n ≡ j → range_with_len a (suc n) ≡ range_with_len a n ++ j ∷ []
counting_more a zero j e = let is : a ≡ j = omega arith in ap (λ k. k ∷ []) is
counting_more a (suc n) j e = ap (λ ns. a ∷ ns) (counting_more (a + 1) n j (omega arith))

pub sets_more : {X : Type 0} (h : ℕ → Option X) (n : ℕ) (sets next : List X) → sets ≡ filter_map h (range_with_len 0 n) → next ≡ sets ++ filter_map h (n ∷ []) → next ≡ filter_map h (range_with_len 0 (n + 1))
sets_more h n sets next before is =
    let one : n + 1 ≡ suc n = omega arith in
    is ∙ ap (λ xs. xs ++ filter_map h (n ∷ [])) before ∙ sym (filter_map-append h (range_with_len 0 n) (n ∷ []))
    ∙ ap (filter_map h) (sym (counting_more 0 n n (omega arith)) ∙ ap (range_with_len 0) (sym one))

pub names_more : {X : Type 0} (h : ℕ → Option X) (numbers : List ℕ) (i : ℕ) (items next : List X) → i < length numbers → items ≡ filter_map h (take i numbers) → next ≡ items ++ filter_map h (get_or numbers i 0 ∷ [])
    → next ≡ filter_map h (take (i + 1) numbers)
names_more h numbers i items next within before is =
    is ∙ ap (λ xs. xs ++ filter_map h (get_or numbers i 0 ∷ [])) before ∙ sym (filter_map-append h (take i numbers) (get_or numbers i 0 ∷ []))
    ∙ ap (λ (ns : List ℕ). filter_map h ns) (sym (take_more numbers i 0 within))

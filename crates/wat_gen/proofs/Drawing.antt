-- What is drawn in several draws, one more at a time.
use Rattle.std.proofs.Common.{◌≡◌, ◌∙◌, sym, ap, refl, subst, ℕ, zero, suc, ◌+◌, ◌*◌, ◌/◌, ◌%◌, ◌^◌, List, [], ◌∷◌, ◌++◌, map, add-one, add-zero, arith}
use Rattle.std.specs.List.{flat_map, range_with_len}
use Rattle.std.proofs.lemmas.List.{append-nil, append_assoc, map_push}
use Rattle.std.proofs.lemmas.List.Concat.{flat_map-append}
use Rattle.std.proofs.Math.Nat.{mod-add-mod}
use Rattle.wat_gen.specs.declared.statement.Statement.{Statement}
use Rattle.wat_gen.specs.Numbers.{Drawn, Gives, ◌>>=◌, draw, for_each, given, in_a_row}
use Rattle.wat_gen.specs.Statements.{drawn_of_kind, drawn_transaction, drawn_transactions}
use Rattle.wat_gen.specs.Session.{drawn_script, opening, script_text}

-- what is drawn first, and then what is drawn for it
pub gives_bind : {A B : Type 0} (d : Drawn A) (f : A → Drawn B) (x y z : ℕ) (a : A) (b : B) → Gives d x a y → Gives (f a) y b z → Gives (d >>= f) x b z
gives_bind {A} d f x y z a b first second = ap (λ (p : A × ℕ). f p.0 p.1) first ∙ second

-- a draw, step by step
pub draw_steps : (below x : ℕ) → Gives (draw below) x ((x * 6364136223846793005 % 2 ^ 64 + 1442695040888963407) % 2 ^ 64 / 2 ^ 33 % below) ((x * 6364136223846793005 % 2 ^ 64 + 1442695040888963407) % 2 ^ 64)
unfolding draw
draw_steps below x =
    ap (λ y. (y / 2 ^ 33 % below, y)) (sym (mod-add-mod (x * 6364136223846793005) (2 ^ 64) 1442695040888963407))

-- a statement of the kind that was drawn
pub gives_kind : (kind k x y : ℕ) (s : Statement) → kind ≡ k → Gives (drawn_of_kind k) x s y → Gives (drawn_of_kind kind) x s y
gives_kind kind k x y s e g = ap (λ n. drawn_of_kind n x) e ∙ g

one_more : {A : Type 0} (d : Drawn A) (n x : ℕ) → in_a_row (suc n) d x ≡ ((in_a_row n d x).0 ++ (d (in_a_row n d x).1).0 ∷ [], (d (in_a_row n d x).1).1)
one_more d zero x = refl
one_more {A} d (suc n) x =
    ap (λ (p : List A × ℕ). ((d x).0 ∷ p.0, p.1)) (one_more d n (d x).1)

-- so many in a row, behind others
abbrev pub behind : {A : Type 0} → List A → ℕ → Drawn A → Drawn (List A)
behind front n d = in_a_row n d >>= (λ values. given (front ++ values))

-- one more in a row behind others
pub behind_more : {A : Type 0} (front : List A) (d : Drawn A) (n x y z : ℕ) (values : List A) (value : A) → Gives (behind front n d) x values y → Gives d y value z → Gives (behind front (n + 1) d) x (values ++ value ∷ []) z
behind_more {A} front d n x y z values value before last =
    ap (λ m. behind front m d x) (add-one n) ∙ ap (λ (p : List A × ℕ). (front ++ p.0, p.1)) (one_more d n x) ∙ ap (λ l. (l, (d (in_a_row n d x).1).1)) (sym (append_assoc front (in_a_row n d x).0 ((d (in_a_row n d x).1).0 ∷ []))) ∙ ap (λ (p : List A × ℕ). (p.0 ++ (d p.1).0 ∷ [], (d p.1).1)) before ∙ ap (λ (q : A × ℕ). (values ++ q.0 ∷ [], q.1)) last

flat_more : (xs : List (List Statement)) (y : List Statement) → flat_map (λ (s : List Statement). s) (xs ++ y ∷ []) ≡ flat_map (λ (s : List Statement). s) xs ++ y
flat_more xs y =
    flat_map-append (λ (s : List Statement). s) xs (y ∷ []) ∙ ap (λ l. flat_map (λ (s : List Statement). s) xs ++ l) (append-nil y)

-- one more transaction
pub transactions_more : (n x y z : ℕ) (before more : List Statement) → Gives (drawn_transactions n) x before y → Gives drawn_transaction y more z → Gives (drawn_transactions (n + 1)) x (before ++ more) z
unfolding drawn_transactions
transactions_more n x y z before more first last =
    let d = drawn_transaction in
    let row = in_a_row n d x in
    ap (λ m. (flat_map (λ (s : List Statement). s) (in_a_row m d x).0, (in_a_row m d x).1)) (add-one n) ∙ ap (λ (p : List (List Statement) × ℕ). (flat_map (λ (s : List Statement). s) p.0, p.1)) (one_more d n x) ∙ ap (λ l. (l, (d row.1).1)) (flat_more row.0 (d row.1).0) ∙ ap (λ (p : List Statement × ℕ). (p.0 ++ (d p.1).0, (d p.1).1)) first ∙ ap (λ (q : List Statement × ℕ). (before ++ q.0, q.1)) last

pub no_transactions : (x : ℕ) → Gives (drawn_transactions 0) x [] x
unfolding drawn_transactions
no_transactions x = refl

-- a script from its parts
pub script_from : (count script x y : ℕ) (none begun all transactions : List Statement) → none ≡ [] → begun ≡ none ++ opening script → Gives (drawn_transactions count) x transactions y → all ≡ begun ++ transactions → Gives (drawn_script count script) x all y
unfolding drawn_script
script_from count script x y none begun all transactions e_none e_begun drawn e_all =
    let whole : all ≡ opening script ++ transactions = e_all ∙ ap (λ l. l ++ transactions) (e_begun ∙ ap (λ l. l ++ opening script) e_none) in
    gives_bind (drawn_transactions count) (λ l. given (opening script ++ l)) x y y transactions all drawn (ap (λ l. (l, y)) (sym whole))

one_more_each : {A : Type 0} (f : ℕ → Drawn A) (ns : List ℕ) (n x : ℕ) → for_each (ns ++ n ∷ []) f x ≡ ((for_each ns f x).0 ++ (f n (for_each ns f x).1).0 ∷ [], (f n (for_each ns f x).1).1)
one_more_each f [] n x = refl
one_more_each {A} f (m ∷ ns) n x =
    ap (λ (p : List A × ℕ). ((f m x).0 ∷ p.0, p.1)) (one_more_each f ns n (f m x).1)

range_more : (a n : ℕ) → range_with_len a (suc n) ≡ range_with_len a n ++ (a + n) ∷ []
range_more a zero = ap (λ k. k ∷ []) (sym (add-zero a))
range_more a (suc n) =
    let e : (a + 1) + n ≡ a + suc n = omega arith in
    ap (λ t. a ∷ t) (range_more (a + 1) n ∙ ap (λ k. range_with_len (a + 1) n ++ k ∷ []) e)

for_each_more : {A : Type 0} (f : ℕ → Drawn A) (a n x : ℕ) → for_each (range_with_len a (n + 1)) f x ≡ ((for_each (range_with_len a n) f x).0 ++ (f (a + n) (for_each (range_with_len a n) f x).1).0 ∷ [], (f (a + n) (for_each (range_with_len a n) f x).1).1)
for_each_more f a n x =
    ap (λ ns. for_each ns f x) (ap (range_with_len a) (add-one n) ∙ range_more a n) ∙ one_more_each f (range_with_len a n) (a + n) x

-- the texts of the first n scripts, and the number that follows them
pub record AreDrawn (count n x : ℕ) (texts : List (List ℕ)) (y : ℕ) : Type 0 where
  pub number : y ≡ (for_each (range_with_len 1 n) (drawn_script count) x).1
  pub texts_are : texts ≡ map script_text (for_each (range_with_len 1 n) (drawn_script count) x).0

-- one more script
pub scripts_more : (count n script x y z : ℕ) (texts : List (List ℕ)) (text : List ℕ) (statements : List Statement) → script ≡ 1 + n → AreDrawn count n x texts y → Gives (drawn_script count script) y statements z → text ≡ script_text statements → AreDrawn count (n + 1) x (texts ++ text ∷ []) z
scripts_more count n script x y z texts text statements is_next before last written =
    let f = drawn_script count in
    let row = for_each (range_with_len 1 n) f x in
    let next : f (1 + n) row.1 ≡ (statements, z) = ap (λ k. f k row.1) (sym is_next) ∙ ap (f script) (sym before.number) ∙ last in
    let all = for_each_more f 1 n x in
    let texts_of : List (List Statement) → List (List ℕ) = map script_text in
    record {
      number = sym (ap (λ (p : List (List Statement) × ℕ). p.1) all ∙ ap (λ (p : List Statement × ℕ). p.1) next);
      texts_are =
          ap (λ l. l ++ text ∷ []) before.texts_are ∙ ap (λ t. texts_of row.0 ++ t ∷ []) (written ∙ ap (λ (p : List Statement × ℕ). script_text p.0) (sym next)) ∙ sym (map_push script_text row.0 (f (1 + n) row.1).0) ∙ ap (λ (p : List (List Statement) × ℕ). texts_of p.0) (sym all);
    }

-- the texts of so many scripts, with the same in other words
pub the_same : (count n m x y : ℕ) (texts others : List (List ℕ)) → n ≡ m → texts ≡ others → AreDrawn count n x texts y → AreDrawn count m x others y
the_same count n m x y texts others e_n e_texts drawn =
    let of_number : ℕ → Type 0 = λ k. AreDrawn count k x others y in
    let of_texts : List (List ℕ) → Type 0 = λ t. AreDrawn count n x t y in
    subst of_number e_n (subst of_texts e_texts drawn)

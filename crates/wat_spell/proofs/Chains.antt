-- The operations of a chain that wait for their first operand.
use Rattle.std.proofs.Common.{◌≡◌, ◌≤◌, ◌<◌, ℕ, max, nat_lt, Bool, false, if◌then◌else◌, ◌+◌, List, [], ◌∷◌, ◌++◌, sym, ◌∙◌, ap, append_assoc, arith}
use Rattle.std.proofs.lemmas.List.{append-nil}
use Rattle.std.proofs.lemmas.Bool.Decides.{nat_tests}
use Rattle.wat_ast.specs.declared.expression.BinaryOp.{BinaryOp}
use Rattle.wat_ast.specs.declared.expression.Expr.{Expr, size-Expr}
use Rattle.wat_ast.specs.declared.expression.Expr.TheVariants as e
use Rattle.wat_ast.specs.declared.expression.Expr.TheViews.{sized-Binary}
use Rattle.wat_spell.specs.declared.expression.Operation.{Operation}
use Rattle.wat_spell.specs.Growing.{Growing, put, puts}
use Rattle.wat_spell.specs.Tokens.{Token}
use Rattle.wat_spell.specs.Spelling.{Spelling, spelled, placed, enclosed, expression, operator_token, operator_rank, left_rank, right_rank}
use Rattle.wat_spell.proofs.Spelled.{spelled_binary}
use Rattle.wat_spell.proofs.Writes.{puts_append}

-- an operator and its right operand
abbrev pub operation : Operation → List Token
operation x = operator_token x.op ∷ (placed (right_rank x.op) (spelled x.right.now)).tokens

-- The operations behind the first operand. The innermost comes last.
abbrev pub operations : List Operation → List Token
operations [] = []
operations (x ∷ inner) = operations inner ++ operation x

operations_push : (xs : List Operation) (x : Operation) → operations (xs ++ x ∷ []) ≡ operation x ++ operations xs
operations_push [] x = sym (append-nil (operation x))
operations_push (y ∷ xs) x = ap (λ (ts : List Token). ts ++ operation y) (operations_push xs x) ∙ append_assoc (operation x) (operations xs) (operation y)

-- the greatest depth of a right operand
abbrev pub depth : List Operation → ℕ
depth [] = 0
depth (x ∷ xs) = max (size-Expr x.right.now) (depth xs)

depth_push : (xs : List Operation) (x : Operation) → depth (xs ++ x ∷ []) ≡ max (depth xs) (size-Expr x.right.now)
depth_push [] x = omega arith
depth_push (y ∷ xs) x = omega (arith, depth_push xs x)

placed_tokens : (place : ℕ) (x : Spelling) → place ≤ x.rank → placed place x ≡ x
placed_tokens place x h = let f : nat_lt x.rank place ≡ false = grind (arith, nat_tests) in ap (λ (b : Bool). if b then enclosed x else x) f

pub begins : (ops more : List Operation) (x : Operation) (place : ℕ) (op : BinaryOp) (l r : Expr) → place ≡ left_rank op → ops ≡ [] → more ≡ ops ++ x ∷ [] → x.op ≡ op → x.right.now ≡ r
    → (placed place (spelled l)).tokens ++ operations more ≡ expression (e.Binary op l r)
begins ops more x place op l r p n m o q =
    ap (λ (k : ℕ). (placed k (spelled l)).tokens ++ operations more) p
    ∙ ap (λ (ys : List Operation). (placed (left_rank op) (spelled l)).tokens ++ operations ys) (m ∙ ap (λ (ys : List Operation). ys ++ x ∷ []) n)
    ∙ ap (λ (o' : BinaryOp). (placed (left_rank op) (spelled l)).tokens ++ operator_token o' ∷ (placed (right_rank o') (spelled x.right.now)).tokens) o
    ∙ ap (λ (r' : Expr). (placed (left_rank op) (spelled l)).tokens ++ operator_token op ∷ (placed (right_rank op) (spelled r')).tokens) q
    ∙ sym (ap (λ (y : Spelling). y.tokens) (spelled_binary op l r))

pub begins_below : (ops more : List Operation) (x : Operation) (l r : Expr) → ops ≡ [] → more ≡ ops ++ x ∷ [] → x.right.now ≡ r → depth more ≤ max (size-Expr l) (size-Expr r)
begins_below ops more x l r n m q =
    let d : depth more ≡ max (size-Expr x.right.now) 0 = ap depth (m ∙ ap (λ (ys : List Operation). ys ++ x ∷ []) n) in
    let s : size-Expr x.right.now ≡ size-Expr r = ap size-Expr q in
    omega arith

pub goes_down : (ops more : List Operation) (x : Operation) (place place' : ℕ) (first next : Expr) (op : BinaryOp) (l r : Expr) (whole : List Token)
    → first ≡ e.Binary op l r → place ≤ operator_rank op → place' ≡ left_rank op → next ≡ l → more ≡ ops ++ x ∷ [] → x.op ≡ op → x.right.now ≡ r
    → (placed place (spelled first)).tokens ++ operations ops ≡ whole → (placed place' (spelled next)).tokens ++ operations more ≡ whole
goes_down ops more x place place' first next op l r whole f h p n m o q before =
    let s : spelled first ≡ spelled (e.Binary op l r) = ap spelled f in
    let t : spelled first ≡ _ = s ∙ spelled_binary op l r in
    let k : (spelled first).rank ≡ operator_rank op = ap (λ (y : Spelling). y.rank) t in
    let left = (placed (left_rank op) (spelled l)).tokens in
    let right = operator_token op ∷ (placed (right_rank op) (spelled r)).tokens in
    let here : (placed place (spelled first)).tokens ≡ left ++ right =
    ap (λ (y : Spelling). y.tokens) (placed_tokens place (spelled first) (omega arith)) ∙ ap (λ (y : Spelling). y.tokens) t in
    let behind : operations more ≡ right ++ operations ops =
    ap operations m ∙ operations_push ops x
    ∙ ap (λ (o' : BinaryOp). (operator_token o' ∷ (placed (right_rank o') (spelled x.right.now)).tokens) ++ operations ops) o
    ∙ ap (λ (r' : Expr). (operator_token op ∷ (placed (right_rank op) (spelled r')).tokens) ++ operations ops) q in
    ap (λ (j : ℕ). (placed j (spelled next)).tokens ++ operations more) p
    ∙ ap (λ (y : Expr). (placed (left_rank op) (spelled y)).tokens ++ operations more) n
    ∙ ap (λ (ts : List Token). left ++ ts) behind
    ∙ sym (append_assoc left right (operations ops))
    ∙ ap (λ (ts : List Token). ts ++ operations ops) (sym here)
    ∙ before

pub sizes : (first : Expr) (op : BinaryOp) (l r : Expr) → first ≡ e.Binary op l r → (size-Expr l < size-Expr first) × (size-Expr r < size-Expr first)
sizes first op l r f =
    let s : size-Expr (e.Binary op l r) ≡ max 0 (max (size-Expr l) (max (size-Expr r) 0)) + 1 = sized-Binary op l r in
    let t : size-Expr first ≡ size-Expr (e.Binary op l r) = ap size-Expr f in
    (omega arith, omega arith)

pub down_below : (ops more : List Operation) (x : Operation) (first : Expr) (op : BinaryOp) (l r : Expr) (low bound : ℕ)
    → first ≡ e.Binary op l r → more ≡ ops ++ x ∷ [] → x.right.now ≡ r → size-Expr first ≤ low → low ≤ bound → depth ops ≤ bound → depth more ≤ bound
down_below ops more x first op l r low bound f m q a b d =
    let e : depth more ≡ max (depth ops) (size-Expr x.right.now) = ap depth m ∙ depth_push ops x in
    let s : size-Expr x.right.now ≡ size-Expr r = ap size-Expr q in
    omega (arith, sizes first op l r f)

pub goes_up : (ops rest : List Operation) (x : Operation) (w w' w'' : Growing) (whole : Growing) → ops ≡ rest ++ x ∷ [] → w' ≡ put w (operator_token x.op)
    → w'' ≡ puts w' (placed (right_rank x.op) (spelled x.right.now)).tokens → puts w (operations ops) ≡ whole → puts w'' (operations rest) ≡ whole
goes_up ops rest x w w' w'' whole m a b before =
    ap (λ (v : Growing). puts v (operations rest)) (b ∙ ap (λ (v : Growing). puts v (placed (right_rank x.op) (spelled x.right.now)).tokens) a)
    ∙ sym (puts_append w (operation x) (operations rest))
    ∙ ap (puts w) (sym (ap operations m ∙ operations_push rest x))
    ∙ before

pub up_below : (ops rest : List Operation) (x : Operation) (bound : ℕ) → ops ≡ rest ++ x ∷ [] → depth ops ≤ bound → (size-Expr x.right.now ≤ bound) × (depth rest ≤ bound)
up_below ops rest x bound m h =
    let e : depth ops ≡ max (depth rest) (size-Expr x.right.now) = ap depth m ∙ depth_push rest x in
    (omega arith, omega arith)

use Rattle.std.proofs.Common.{◌≡◌, ◌≤◌, refl, ◌∙◌, ap, arith}
use Rattle.wat_ast.specs.declared.expression.Expr.{size-Expr}
use Rattle.wat_spell.specs.Growing.{puts}
use Rattle.wat_spell.specs.Spelling.{placed, spelled}
use Rattle.wat_spell.proofs.Chains.{begins, begins_below, goes_down, sizes, down_below, goes_up, up_below}
use Rattle.wat_spell.proofs.expression.+spelling.Goals as goal

pub chain-down-init : goal.chain-down-init
chain-down-init t c = record {
  tokens = begins _ _ _ _ _ _ _ c.left_rank-place.ensures c.new-operations.ensures.items c.in_ok-push.ensures.items refl refl;
  first = omega arith;
  right = begins_below _ _ _ _ _ c.new-operations.ensures.items c.in_ok-push.ensures.items refl;
}

pub chain-down-preserved : goal.chain-down-preserved
chain-down-preserved t c =
    let less = sizes _ _ _ _ c.in-Binary.is in
    let place : c.down.place ≤ c.operator_rank.result = omega arith in
    let first : size-Expr c.get-first.result.now ≡ size-Expr c.in-Binary.left = ap size-Expr c.get-first.ensures in
    record {
      tokens = goes_down _ _ _ _ _ _ _ _ _ _ _ c.in-Binary.is (omega (arith, c.operator_rank.ensures.value)) c.left_rank-place-in-Binary.ensures c.get-first.ensures c.in_ok-push-in-Binary.ensures.items refl c.get.ensures
          c.down.invariant.tokens;
      first = omega (arith, c.down.invariant.first);
      right = down_below _ _ _ _ _ _ _ _ _ c.in-Binary.is c.in_ok-push-in-Binary.ensures.items c.get.ensures c.down.invariant.first (omega arith) c.down.invariant.right;
    }

pub chain-placed-requires-in-Some : goal.chain-placed-requires-in-Some
chain-placed-requires-in-Some t c = let low = (up_below _ _ _ _ c.in-Some.ensures.items c.up.invariant.right).0 in (omega (arith, low), tt)

pub chain-up-preserved : goal.chain-up-preserved
chain-up-preserved t c = record {
  tokens = goes_up _ _ _ _ _ _ _ c.in-Some.ensures.items c.in_ok-operator.ensures
      (c.in_ok-placed-2.ensures ∙ ap (λ k. puts c.operator.new.writing (placed k (spelled c.in-Some.operation.right.now)).tokens) c.right_rank.ensures) c.up.invariant.tokens;
  right = (up_below _ _ _ _ c.in-Some.ensures.items c.up.invariant.right).1;
}

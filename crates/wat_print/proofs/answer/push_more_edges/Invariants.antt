use Rattle.std.proofs.Common.{◌≡◌, ◌++◌, codes, drop}
use Rattle.std.specs.List.{flat_map}
use Rattle.wat_print.specs.Answers.{edge_text}
use Rattle.wat_print.proofs.answer.push_more_edges.Given as goal

-- the text so far, and that of what is left
abbrev pub invariant-loop-edge : goal.invariant-loop-edge
invariant-loop-edge l =
    l.out.items ++ flat_map (λ edge. codes ", " ++ edge_text l.names edge) (drop l.edge-index l.edges)
    ≡ l.fn.out.items ++ flat_map (λ edge. codes ", " ++ edge_text l.names edge) l.edges

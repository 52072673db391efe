use Rattle.std.proofs.Common.{◌≡◌, ◌-◌, suc, drop, sym, ap, ◌∙◌, arith}
use Rattle.wat_recover.specs.Listed.{lists_of}
use Rattle.wat_recover.proofs.Listing.{behind, none_more, none_within}
use Rattle.wat_recover.proofs.change_lists.last_of.Goals as goal

pub loop-i-preserved : goal.loop-i-preserved
loop-i-preserved c =
    let i = c.loop-i.i - 1 in
    let next : suc i ≡ c.loop-i.i = omega arith in
    record {
      within = omega (arith, c.loop-i.invariant.within);
      none =
          ap (λ ys. lists_of ys c.args.conn) (behind c.args.standing.now i c.in-Some.s.now (sym c.in-Some.ensures))
          ∙ none_more c.in-Some.s.now (drop (suc i) c.args.standing.now) c.args.conn c.if-s-conn.false
          (ap (λ n. lists_of (drop n c.args.standing.now) c.args.conn) next ∙ c.loop-i.invariant.none);
    }

pub returns-in-None : goal.returns-in-None
returns-in-None c = absurd (none_within c.args.standing.now (c.loop-i.i - 1) (omega (arith, c.loop-i.invariant.within)) c.in-None.ensures)

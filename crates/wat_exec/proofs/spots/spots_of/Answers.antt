use Rattle.std.proofs.Common.{◌≡◌, ◌+◌, ◌++◌, ℕ, List, Option, Result, Ok, Err, take, get_or, option_to_list, sym, ◌∙◌, subst}
use Rattle.std.proofs.lemmas.List.{take_all, take_more}
use Rattle.wat_level.specs.declared.change.Spot.{Spot}
use Rattle.wat_visits.specs.declared.source.SourceError.{SourceError}
use Rattle.wat_visits.specs.declared.source.SourceError.TheVariants.{Failed}
use Rattle.wat_visits.specs.Sourced.{Sourced}
use Rattle.wat_value.specs.Indexes.{index_numbers}
use Rattle.wat_exec.proofs.Causes.{same_cause, then_cause}
use Rattle.wat_exec.proofs.SpotLemmas.{AreAmong, all_among, more_among, spot_less}
use Rattle.wat_exec.proofs.spots.spots_of.Goals as goal

pub loop-index-preserved : goal.loop-index-preserved
loop-index-preserved g c =
    let t = g.R.RowSource in
    let Tells : Sourced → Type 0 = λ s. t.stands_for c.args.rows.now s in
    let l = c.args.table.now in
    let change = c.args.change.now in
    let items = c.deref-index-items.result.now in
    let i = c.loop-index.index-index in
    let n = get_or items i 0 in
    let found = c.in_ok-found.found in
    let more = more_among Tells l change (take i items) c.loop-index.spots n found c.loop-index.invariant.among
    (spot_less (t.stands_for c.loop-index.rows) Tells (λ s told. c.loop-index.invariant.stays s told) l change n found c.in_ok-found.ensures.spot) in
    let numbers = subst (λ (z : List ℕ). AreAmong Tells l change z (c.loop-index.spots ++ option_to_list found)) (sym (take_more items i 0 c.loop-index-test.true)) more in
    record {
      among = subst (AreAmong Tells l change (take (i + 1) items)) (sym c.in_ok-push_found.ensures) numbers;
      stays = λ s told. c.in_ok-found.ensures.stays s (c.loop-index.invariant.stays s told);
      beside = g.met.R.RowSource.goes_on c.args.rows.now c.loop-index.rows c.spot_in.new.rows c.loop-index.invariant.beside c.in_ok-found.ensures.beside;
      cause = then_cause (t.failures c.args.rows.now) (t.failures c.loop-index.rows) (t.failures c.spot_in.new.rows) ⊥ ⊥ c.loop-index.invariant.cause (λ no. no)
          (same_cause (t.failures c.loop-index.rows) (t.failures c.spot_in.new.rows) (◌≡◌ {A = Result (Option Spot) SourceError} (Ok found) (Err Failed)) ⊥ c.in_ok-found.ensures.cause (λ e. cc) (λ no. absurd no));
    }

pub returns-clause-spots : goal.returns-clause-spots
returns-clause-spots g c =
    let Tells : Sourced → Type 0 = λ s. g.R.RowSource.stands_for c.args.rows.now s in
    let l = c.args.table.now in
    let change = c.args.change.now in
    let items = c.deref-index-items.result.now in
    let whole : take c.loop-index.index-index items ≡ index_numbers l.indexes = take_all c.loop-index.index-index items c.loop-index-test.false ∙ (c.deref-index-items.ensures.value ∙ c.in_ok-numbers.ensures) in
    all_among Tells l change c.loop-index.spots (subst (λ (z : List ℕ). AreAmong Tells l change z c.loop-index.spots) whole c.loop-index.invariant.among)

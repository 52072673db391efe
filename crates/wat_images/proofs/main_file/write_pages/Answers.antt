-- Each turn writes the first page that is left.
use Rattle.std.proofs.Common.{◌≡◌, ◌++◌, ◌∷◌, ℕ, List, refl, sym, ◌∙◌, ap, subst}
use Rattle.std.specs.Prelude.{map}
use Rattle.std.specs.Map.{keys_of}
use Rattle.std.specs.Map.Iter.{deref_pair}
use Rattle.std.proofs.lemmas.Map.Iter.{rest_more, rest_so_far}
use Rattle.wat_restore.specs.Restored.{laid}
use Rattle.wat_restore.specs.Images.{AllWhole}
use Rattle.wat_images.proofs.Writing.{one_write, no_write, key_place, caused, no_cause}
use Rattle.wat_images.proofs.main_file.write_pages.Goals as goal

pub loop-page-init : goal.loop-page-init
loop-page-init g c =
    let all = c.into_iter-page-iterator.ensures.into_iter_gives.0 in
    record {
      left = λ tells. ap (laid ((g.D.Disk.told c.args.disk.now).content 0)) all;
      long = λ whole. subst AllWhole all whole;
      others = λ other not_it. refl;
      stops = no_write _ _;
      cause = no_cause _;
    }

pub loop-page-preserved : goal.loop-page-preserved
loop-page-preserved g c =
    let i = c.loop-page.invariant in
    let p = c.in-Some.page.now in
    let b = c.in-Some.bytes.now in
    let entries = c.args.pages.now.entries in
    let mid = (g.D.Disk.told c.loop-page.disk).content 0 in
    let left : c.loop-page.page-iterator ≡ (p, b) ∷ c.next.new.self = rest_more deref_pair _ _ c.next.result (c.in-Some.page, c.in-Some.bytes) c.in-Some.is c.next.ensures.steps in
    let so_far : entries ≡ map deref_pair c.loop-page.yielded ++ (p, b) ∷ c.next.new.self =
    sym c.into_iter-page-iterator.ensures.into_iter_gives.0 ∙ rest_so_far deref_pair _ _ _ c.loop-page.yielded_by ∙ ap (λ (l : List (ℕ × List ℕ)). map deref_pair c.loop-page.yielded ++ l) left in
    record {
      left = λ tells. ap (λ (main : List ℕ). laid main c.next.new.self) (c.in_ok-write_main.ensures.written tells) ∙ ap (laid mid) (sym left) ∙ i.left tells;
      long = λ whole. i.long (subst AllWhole (sym left) (c.write_main.ensures.long, whole));
      others = λ other not_it. c.write_main.ensures.others other not_it ∙ i.others other not_it;
      stops = one_write _ _ _ (keys_of entries) (keys_of (map deref_pair c.loop-page.yielded)) (keys_of c.next.new.self) p _ _ (key_place entries (map deref_pair c.loop-page.yielded) c.next.new.self p b so_far) refl c.write_main.ensures.long i.stops c.write_main.ensures.stops;
      cause = caused _ _ _ _ i.cause c.in_ok-write_main.ensures.cause (λ e. cc);
    }

pub returns-in_err-write_main-clause-stops : goal.returns-in_err-write_main-clause-stops
returns-in_err-write_main-clause-stops g c =
    let i = c.loop-page.invariant in
    let p = c.in-Some.page.now in
    let b = c.in-Some.bytes.now in
    let entries = c.args.pages.now.entries in
    let left : c.loop-page.page-iterator ≡ (p, b) ∷ c.next.new.self = rest_more deref_pair _ _ c.next.result (c.in-Some.page, c.in-Some.bytes) c.in-Some.is c.next.ensures.steps in
    let so_far : entries ≡ map deref_pair c.loop-page.yielded ++ (p, b) ∷ c.next.new.self =
    sym c.into_iter-page-iterator.ensures.into_iter_gives.0 ∙ rest_so_far deref_pair _ _ _ c.loop-page.yielded_by ∙ ap (λ (l : List (ℕ × List ℕ)). map deref_pair c.loop-page.yielded ++ l) left in
    one_write _ _ _ (keys_of entries) (keys_of (map deref_pair c.loop-page.yielded)) (keys_of c.next.new.self) p _ _ (key_place entries (map deref_pair c.loop-page.yielded) c.next.new.self p b so_far) refl c.write_main.ensures.long i.stops c.write_main.ensures.stops

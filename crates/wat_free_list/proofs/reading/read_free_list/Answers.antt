use Rattle.std.proofs.Common.{◌≡◌, ◌+◌, ◌∷◌, ◌<◌, ℕ, List, [], ◌++◌, false, length, refl, sym, ◌∙◌, ap, subst, arith, append_assoc}
use Rattle.std.specs.Prelude.{nat_eq, if◌then◌else◌}
use Rattle.std.specs.List.{IsDistinct, list_any}
use Rattle.std.proofs.lemmas.List.{append-nil}
use Rattle.wat_pages.specs.Pages.{book_of}
use Rattle.wat_images.proofs.Writing.{no_cause, caused}
use Rattle.wat_payload.specs.Reading.{IsSetOf}
use Rattle.wat_payload.proofs.Going.{covers_none, covers_then, same_then}
use Rattle.wat_payload.proofs.Seen.{seen_before, seen_new, one_seen, few_seen, distinct_more}
use Rattle.wat_files.specs.Chains.{BeginsFree}
use Rattle.wat_free_list.specs.Whole.{whole_pages}
use Rattle.wat_free_list.proofs.Going.{free_on, free_ends, breaks_here, breaks_again}
use Rattle.wat_free_list.proofs.reading.read_free_list.Goals as goal

pub loop-here-init : goal.loop-here-init
loop-here-init g c =
    let met = c.args.met.now in
    let none : met ++ c.new-list.result.items ≡ met = ap (λ l. met ++ l) c.new-list.ensures.items ∙ append-nil met in
    record {
      set = subst (IsSetOf c.in_ok-seen.seen.keys) (sym none) c.in_ok-seen.ensures;
      begins = λ tells. subst (λ l. BeginsFree (whole_pages (book_of (g.D.Disk.told c.args.disk.now) c.args.pages.now)) c.args.first l c.args.first) (sym c.new-list.ensures.items) refl;
      small = omega arith;
      once = subst (IsDistinct nat_eq) (sym none) c.requires.once;
      same = record { count = refl; limit = refl; free = refl; stored = refl; header = refl };
      book = λ tells. record { pages = λ page below. refl; count = refl; first = refl };
      known = c.requires.known;
      others = λ file from. refl;
      stops = λ tells saved safe. covers_none saved _ safe;
      safe = λ tells saved safe. safe;
      cause = no_cause _;
    }

pub loop-here-smaller : goal.loop-here-smaller
loop-here-smaller g c =
    let old = c.loop-here.seen.keys in
    let new = c.insert.new.self.keys in
    let more : length new ≡ length old + 1 = c.in_ok-insert.ensures.len ∙ ap (λ b. length old + (if b then 1 else 0)) c.if-not-branch.false in
    let few = few_seen new _ (one_seen c.loop-here.seen c.insert.new.self _ c.loop-here.here c.loop-here.invariant.set c.loop-here.invariant.small c.in_ok-insert.ensures.updates c.in_ok-insert.ensures.keys c.insert.ensures.ordered) in
    omega (arith, more, few)

pub loop-here-preserved : goal.loop-here-preserved
loop-here-preserved g c =
    let i = c.loop-here.invariant in
    let met = c.args.met.now in
    let list = c.loop-here.list.items in
    let here = c.loop-here.here in
    let r = c.read_free.ensures in
    let pushed = c.in_ok-push.ensures.items in
    let new : list_any (nat_eq here) (met ++ list) ≡ false = seen_new c.loop-here.seen.keys (met ++ list) here i.set _ c.in_ok-insert.ensures.added (sym c.if-not-branch.false) in
    record {
      set = subst (λ l. IsSetOf c.insert.new.self.keys (met ++ l)) (sym pushed) (longer met list here c.insert.new.self.keys
          (one_seen c.loop-here.seen c.insert.new.self (met ++ list) here i.set i.small c.in_ok-insert.ensures.updates c.in_ok-insert.ensures.keys c.insert.ensures.ordered));
      begins = λ tells. subst (λ l. BeginsFree (whole_pages (book_of (g.D.Disk.told c.args.disk.now) c.args.pages.now)) c.args.first l c.in-Ok.next) (sym pushed)
          (free_on (book_of (g.D.Disk.told c.args.disk.now) c.args.pages.now) (book_of (g.D.Disk.told c.loop-here.disk) c.loop-here.pages) c.args.first here c.in-Ok.next list
          (i.book tells) (i.begins tells) (omega arith) (c.in-Ok.ensures.free tells));
      small = omega arith;
      once = subst (λ l. IsDistinct nat_eq (met ++ l)) (sym pushed) (distinct_more met list here i.once new);
      same = record {
        count = r.same.count ∙ i.same.count;
        limit = r.same.limit ∙ i.same.limit;
        free = r.same.free ∙ i.same.free;
        stored = r.same.stored ∙ i.same.stored;
        header = r.same.header ∙ i.same.header;
      };
      book = λ tells. same_then _ _ _ (i.book tells) (c.in-Ok.ensures.pages tells);
      known = c.in-Ok.ensures.known;
      others = λ file from. r.others file from ∙ i.others file from;
      stops = λ tells saved safe. covers_then saved _ _ _ (i.stops tells saved safe) (r.stops tells saved (i.safe tells saved safe));
      safe = λ tells saved safe. c.in-Ok.ensures.safe tells saved (i.safe tells saved safe);
      cause = caused _ _ _ _ i.cause r.cause (λ e. let ok = c.in-Ok.is in cc);
    }
  where
    longer : (met list : List ℕ) (here : ℕ) (keys : List ℕ) → IsSetOf keys ((met ++ list) ++ here ∷ []) → IsSetOf keys (met ++ (list ++ here ∷ []))
    longer met list here keys = subst (IsSetOf keys) (append_assoc met list (here ∷ []))

pub returns-in-Err-clause-damaged : goal.returns-in-Err-clause-damaged
returns-in-Err-clause-damaged g c tells =
    let i = c.loop-here.invariant in
    breaks_here c.in-Err.refusal _ _ c.args.met.now _ c.args.first c.loop-here.here (i.book tells) (i.begins tells) i.once (omega arith) (c.in-Err.ensures.damaged tells)

pub returns-in-Err-clause-stops : goal.returns-in-Err-clause-stops
returns-in-Err-clause-stops g c tells saved safe =
    let i = c.loop-here.invariant in covers_then saved _ _ _ (i.stops tells saved safe) (c.read_free.ensures.stops tells saved (i.safe tells saved safe))

pub returns-then-not-branch-clause-damaged : goal.returns-then-not-branch-clause-damaged
returns-then-not-branch-clause-damaged g c tells =
    let i = c.loop-here.invariant in
    breaks_again _ (book_of (g.D.Disk.told c.args.disk.now) c.args.pages.now) c.args.met.now c.loop-here.list.items c.args.first c.loop-here.here (i.begins tells) i.once (omega arith)
    (seen_before c.loop-here.seen.keys (c.args.met.now ++ c.loop-here.list.items) c.loop-here.here i.set _ c.in_ok-insert.ensures.added (sym c.if-not-branch.true)) c.damaged_at.ensures.place

pub returns-clause-read : goal.returns-clause-read
returns-clause-read g c tells =
    let i = c.loop-here.invariant in
    let end : c.loop-here.here ≡ 0 = omega arith in
    record {
      chain = free_ends _ c.args.first c.loop-here.list.items (subst (BeginsFree (whole_pages (book_of (g.D.Disk.told c.args.disk.now) c.args.pages.now)) c.args.first c.loop-here.list.items) end (i.begins tells));
      once = i.once;
    }

pub returns-in_err-push-clause-stops : goal.returns-in_err-push-clause-stops
returns-in_err-push-clause-stops g c tells saved safe =
    let i = c.loop-here.invariant in covers_then saved _ _ _ (i.stops tells saved safe) (c.read_free.ensures.stops tells saved (i.safe tells saved safe))

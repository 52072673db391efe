use Rattle.std.proofs.Common.{◌≡◌, ◌<◌, ◌+◌, ◌++◌, ◌∷◌, [], arith, rules, map, string_bytes, length}
use Rattle.std.proofs.lemmas.Grind.{common_steps}
use Rattle.wat_begin.proofs.ReadingLemmas.{asked_here, asked_more, fault_here, one_more_name, taken_names, text_here}
use Rattle.wat_begin.proofs.scripts.read_scripts.Goals as goal

pub returns-in-Err-clause-asked : goal.returns-in-Err-clause-asked
returns-in-Err-clause-asked g c =
    let names = map string_bytes c.args.names.now in
    let within : c.loop-i.i < length c.args.names.now = omega arith in
    let more = one_more_name c.args.names.now c.loop-i.i c.index-names-i.result within c.index-names-i.is in
    let now = rw c.as_str.ensures.value at c.in-Err.ensures.asked in
    asked_here _ names c.loop-i.i _ _ _ _ _ c.in-Err.fault (asked_more names c.loop-i.i _ _ _ _ more c.loop-i.invariant.asked now) c.in-Err.ensures.read

pub returns-in-Err-clause-asked_first : goal.returns-in-Err-clause-asked_first
returns-in-Err-clause-asked_first g c =
    let names = map string_bytes c.args.names.now in
    let within : c.loop-i.i < length c.args.names.now = omega arith in
    let more = one_more_name c.args.names.now c.loop-i.i c.index-names-i.result within c.index-names-i.is in
    let now = rw c.as_str.ensures.value at c.in-Err.ensures.asked in
    (c.loop-i.i + 1, asked_more names c.loop-i.i _ _ _ _ more c.loop-i.invariant.asked now)

pub returns-in-Err-clause-read : goal.returns-in-Err-clause-read
returns-in-Err-clause-read g c =
    let names = map string_bytes c.args.names.now in
    let within : c.loop-i.i < length c.args.names.now = omega arith in
    let more = one_more_name c.args.names.now c.loop-i.i c.index-names-i.result within c.index-names-i.is in
    let so_far = c.loop-i.invariant.read in
    let here = rw (c.loop-i.invariant.texts, c.as_str.ensures.value) at c.in-Err.ensures.read in
    fault_here _ names c.loop-i.i _ _ _ _ so_far.0 _ c.in-Err.fault more (taken_names c.args.names.now c.loop-i.i within) so_far.1 so_far.2 here

pub returns-then-is_err-clause-asked_first : goal.returns-then-is_err-clause-asked_first
returns-then-is_err-clause-asked_first g c =
    let names = map string_bytes c.args.names.now in
    let within : c.loop-i.i < length c.args.names.now = omega arith in
    let more = one_more_name c.args.names.now c.loop-i.i c.index-names-i.result within c.index-names-i.is in
    let now = rw c.as_str.ensures.value at c.in-Ok.ensures.asked in
    (c.loop-i.i + 1, asked_more names c.loop-i.i _ _ _ _ more c.loop-i.invariant.asked now)

pub loop-i-preserved : goal.loop-i-preserved
loop-i-preserved g c =
    let names = map string_bytes c.args.names.now in
    let within : c.loop-i.i < length c.args.names.now = omega arith in
    let more = one_more_name c.args.names.now c.loop-i.i c.index-names-i.result within c.index-names-i.is in
    let so_far = c.loop-i.invariant.read in
    let here = rw (c.loop-i.invariant.texts, c.as_str.ensures.value) at c.in-Ok.ensures.read in
    let now = rw c.as_str.ensures.value at c.in-Ok.ensures.asked in
    let pushed : c.push.new.self ≡ c.loop-i.texts ++ c.in-Ok.text ∷ [] = grind (arith, common_steps) in
    record {
      read = rw pushed (text_here _ names c.loop-i.i _ _ _ _ so_far.0 _ c.in-Ok.text more (taken_names c.args.names.now c.loop-i.i within) so_far.1 so_far.2 here);
      asked = asked_more names c.loop-i.i _ _ _ _ more c.loop-i.invariant.asked now;
      texts = search rules;
      kept = search rules;
    }

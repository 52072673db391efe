use Rattle.wat_index.proofs.KeySetLemmas.{has_with, has_without, rising_with, rising_without, with_there, without_missing, same_sets}
use Rattle.wat_index.proofs.laws.key_set_law.Goals as goal

pub returns-clause-with : goal.returns-clause-with
returns-clause-with c key other keys = has_with key other keys

pub returns-clause-without : goal.returns-clause-without
returns-clause-without c key other keys = has_without key other keys

pub returns-clause-with_order : goal.returns-clause-with_order
returns-clause-with_order c key keys up = rising_with key keys up

pub returns-clause-without_order : goal.returns-clause-without_order
returns-clause-without_order c key keys up = rising_without key keys up

pub returns-clause-there : goal.returns-clause-there
returns-clause-there c key keys up has = with_there key keys up has

pub returns-clause-missing : goal.returns-clause-missing
returns-clause-missing c key keys up off = without_missing key keys up off

pub returns-clause-same : goal.returns-clause-same
returns-clause-same c a b up other same = same_sets a b up other same

use Rattle.std.proofs.Common.{◌≡◌, ◌↔◌, ℕ, List, Option, Some, true, sym, ap, subst, ◌∙◌}
use Rattle.std.specs.Prelude.{IsSome}
use Rattle.std.specs.Map.{keys_of}
use Rattle.wat_list.specs.Has.{Has}
use Rattle.wat_list.specs.Rising.{rising}
use Rattle.wat_value.specs.Order.{key_cmp}
use Rattle.wat_rows.specs.Rows.{Row}
use Rattle.wat_directory.specs.Known.{place_in}
use Rattle.wat_directory.proofs.Maps.{by_key}
use Rattle.wat_directory.proofs.Listed.{if_ok, listed, rising_from}
use Rattle.wat_directory.proofs.places.Places.keys.Goals as goal

pub returns-in-Some-clause-order : goal.returns-in-Some-clause-order
returns-in-Some-clause-order c =
    if_ok c.copied_keys.result (λ copies. copies ≡ keys_of c.in-Some.keys.now.entries) (λ copies. rising key_cmp copies ≡ true)
    (λ copies is. ap (rising key_cmp) is ∙ rising_from (keys_of c.in-Some.keys.now.entries) c.copied_keys.ensures.ordered) c.copied_keys.ensures.keys

pub returns-in-Some-clause-all : goal.returns-in-Some-clause-all
returns-in-Some-clause-all c =
    if_ok c.copied_keys.result (λ copies. copies ≡ keys_of c.in-Some.keys.now.entries) (λ copies. (key : Row) → Has key copies ↔ IsSome (place_in c.args.self.now c.args.table key))
    (λ copies is key. listed key c.in-Some.keys.now.entries copies (place_in c.args.self.now c.args.table key) is (ap (by_key key) (sym c.in-Some.ensures.value))) c.copied_keys.ensures.keys

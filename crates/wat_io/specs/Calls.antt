use Rattle.std.specs.Prelude.{◌==◌, Bool}
use Rattle.std.specs.List.{list_any}
use Rattle.wat_io.specs.declared.calls.Calls.{Calls}

-- whether the next call is one of those that fail
abbrev pub is_to_fail : Calls → Bool
is_to_fail calls = list_any (λ number. number == calls.made) calls.failing.items

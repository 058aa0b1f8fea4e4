-- Inner: a sum of counts as it lies in memory.
use Rattle.std.specs.Prelude.{ℕ, ◌+◌, ◌*◌, ◌^◌, ◌<◌, Option, option_map, IfSome}
use Rattle.csub_guard_run.specs.declared.total.Total.{Total}

-- the number that the two parts are
abbrev pub worth : Total → ℕ
worth t = t.high * 10 ^ 38 + t.low

abbrev pub worth_of : Option Total → Option ℕ
worth_of total = option_map worth total

-- the lower part has at most 38 digits
abbrev pub HasRoom : Option Total → Type 0
HasRoom total = IfSome total (λ t. t.low < 10 ^ 38)

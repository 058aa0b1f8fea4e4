use Rattle.std.proofs.Common.{◌≡◌, ◌++◌, map, drop, take}
use Rattle.std.specs.Prelude.{filter}
use Rattle.base_types.specs.Names.{is_same_name}
use Rattle.csub_run.specs.ProgramAnswers.{bare_name}
use Rattle.csub_run.proofs.interface.bare_names.Given as goal

-- the names so far, and those of the names that are left
abbrev pub invariant-loop-name : goal.invariant-loop-name
invariant-loop-name l =
    map bare_name (filter (λ n. is_same_name (take 2 n) l.sign) l.names)
    ≡ l.bare.items ++ map bare_name (filter (λ n. is_same_name (take 2 n) l.sign) (drop l.name-index l.names))

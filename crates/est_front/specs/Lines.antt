-- To believe: what is written about a static fault. A place of the source is shown by its line and column.
use Rattle.std.specs.Prelude.{ℕ, List, ◌++◌, flat_map, codes, decimal}
use Rattle.est_names.specs.declared.refusal.NameFault.{NameFault}
use Rattle.est_names.specs.declared.refusal.NameFault.TheVariants as naming
use Rattle.est_expand.specs.declared.refusal.ScopeFault.{ScopeFault}
use Rattle.est_expand.specs.declared.refusal.ScopeFault.TheVariants as scope
use Rattle.est_front.specs.declared.refusal.Fault.{Fault}
use Rattle.est_front.specs.declared.refusal.Fault.TheVariants as faults
use Rattle.est_front.specs.Positions.{position}

-- a text about a place of a source
abbrev pub placed : List ℕ → ℕ → List ℕ → List ℕ
placed source place text =
    decimal (position source place).line ++ (codes ":"
    ++ (decimal (position source place).column ++ (codes ": " ++ text)))

-- a text about the names of a source, where the main module has this name
abbrev pub name_text : List ℕ → List ℕ → NameFault → List ℕ
name_text source main (naming.DuplicateModule at) = placed source at.start (codes "module declared twice")
name_text source main naming.NoMain = codes "no module " ++ main
name_text source main (naming.DuplicateSignal at) = placed source at.start (codes "signal declared twice")
name_text source main (naming.RelationName at) = placed source at.start (codes "not an input")

abbrev pub scope_text : List ℕ → ScopeFault → List ℕ
scope_text source (scope.UnknownModule at) = placed source at.start (codes "unknown module")
scope_text source (scope.Recursive at names) =
    placed source at.start (codes "recursive run" ++ flat_map (λ name. codes " " ++ name) names.items)
scope_text source (scope.BadRename at) = placed source at.start (codes "bad renaming")
scope_text source (scope.UnknownSignal at) = placed source at.start (codes "unknown signal")
scope_text source (scope.Unbound at formal) = placed source at.start (codes "unbound " ++ formal)
scope_text source (scope.UnknownTrap at) = placed source at.start (codes "unknown trap")
scope_text source (scope.EmitInput at) = placed source at.start (codes "input emitted")

abbrev pub fault_text : List ℕ → List ℕ → Fault → List ℕ
fault_text source main (faults.BadByte place) = placed source place (codes "bad byte")
fault_text source main (faults.OpenComment place) = placed source place (codes "open comment")
fault_text source main (faults.BigNumber place) = placed source place (codes "number too large")
fault_text source main (faults.Syntax token place) = placed source place (codes "syntax")
fault_text source main (faults.Name fault) = name_text source main fault
fault_text source main (faults.Scope fault) = scope_text source fault
fault_text source main (faults.BadCount at) = placed source at.start (codes "bad count")
fault_text source main (faults.InstantLoop at) = placed source at.start (codes "instantaneous loop")

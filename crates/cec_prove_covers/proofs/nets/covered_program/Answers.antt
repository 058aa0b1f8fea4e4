use Rattle.std.specs.Prelude.{IfOk, IfSome}
use Rattle.std.proofs.Common.{◌+◌, ◌≤◌, length, map, subst, sym, arith}
use Rattle.std.proofs.lemmas.List.{length-map}
use Rattle.base_types.specs.declared.bounds.TheConstants.Limits.{SIGNALS}
use Rattle.base_types.specs.declared.interface.SignalInfo.{SignalInfo}
use Rattle.est_ast.specs.FlatPrograms.{IsFlat, IsNamed}
use Rattle.est_ast.specs.FlatTrees.{Flat}
use Rattle.est_ast.specs.FlatViews.{flat_of}
use Rattle.est_ast.specs.NewSignals.{new_in}
use Rattle.est_cover.proofs.Exports.{covered-flat, covered-named}
use Rattle.est_kernel.specs.Plain.{program_of}
use Rattle.cec_prove_covers.specs.Stages.{IsCoveredProgram}
use Rattle.cec_prove_covers.proofs.nets.covered_program.Goals as goal

pub cover_program-requires-clause-interface : goal.cover_program-requires-clause-interface
cover_program-requires-clause-interface c =
    omega (arith, c.requires.flat.interface, length-map c.args.flat.now.signals.items (λ (s : SignalInfo). s.name))

pub kernel_of-requires-clause-flat : goal.kernel_of-requires-clause-flat
kernel_of-requires-clause-flat c =
    subst (λ (f : Flat). length f.signals + new_in f.body ≤ SIGNALS → IsFlat f) (sym c.in_ok-made.ensures)
    (λ room. covered-flat (flat_of c.args.flat.now) c.args.first (map (λ (s : SignalInfo). s.name) c.args.names.now) c.requires.flat c.requires.new room)

pub kernel_of-requires-clause-named : goal.kernel_of-requires-clause-named
kernel_of-requires-clause-named c =
    subst IsNamed (sym c.in_ok-made.ensures)
    (covered-named (flat_of c.args.flat.now) c.args.first (map (λ (s : SignalInfo). s.name) c.args.names.now) c.requires.flat c.requires.named c.requires.new)

pub returns : goal.returns
returns c =
    subst (λ (f : Flat). IfOk c.kernel_of.result (λ o. IfSome o (λ p. IsCoveredProgram f (program_of p)))) c.in_ok-made.ensures c.kernel_of.ensures

use Rattle.std.proofs.Common.{◌≡◌, ◌+◌, ◌≤◌, length, sym, subst, arith}
use Rattle.std.proofs.lemmas.List.{length-map}
use Rattle.base_types.specs.declared.bounds.TheConstants.Limits.{SIGNALS}
use Rattle.base_types.specs.declared.interface.SignalInfo.{SignalInfo}
use Rattle.est_ast.specs.FlatPrograms.{IsFlat, IsNamed}
use Rattle.est_ast.specs.FlatViews.{flat_of}
use Rattle.est_ast.specs.NewSignals.{new_in}
use Rattle.est_dismantle.specs.Expansions.{Expanded, expansion}
use Rattle.est_kernel.specs.Plain.{program_of}
use Rattle.cec_prove_covers.proofs.NewSignals.{expansion-signals}
use Rattle.cec_prove_covers.proofs.nets.kernel_of.Goals as goal

pub returns-then-len-le-SIGNALS : goal.returns-then-len-le-SIGNALS
returns-then-len-le-SIGNALS c =
    let p = program_of c.in-Ok.program in
    let flat = flat_of c.args.flat in
    let same = c.in_ok-flat.ensures.ok in
    let expands = subst (λ f. expansion (flat_of f) ≡ Expanded p) same c.in-Ok.ensures.expands in
    let count = expansion-signals flat p expands in
    let room : length flat.signals + new_in flat.body ≤ SIGNALS =
    omega (arith, count, length-map c.in-Ok.program.signals.items (λ (s : SignalInfo). s.name)) in
    let whole = subst (λ f. IsFlat (flat_of f)) (sym same) (c.requires.flat room) in
    let named = subst (λ f. IsNamed (flat_of f)) (sym same) c.requires.named in
    record { expands = expands; formed = c.in-Ok.ensures.well_formed whole; names = c.in-Ok.ensures.names whole named }

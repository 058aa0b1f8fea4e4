use Rattle.std.proofs.Common.{◌≡◌, ◌+◌, [], ◌∷◌, ◌++◌, take, sym, ap, ◌∙◌}
use Rattle.est_kernel.specs.Plain.{program_of}
use Rattle.net_gen.proofs.Naming.{take-found}
use Rattle.net_gen.proofs.names.input_names.Goals as goal

pub loop-signal-preserved : goal.loop-signal-preserved
loop-signal-preserved c =
    let names = (program_of c.args.program.now).signals in
    c.in_ok-push.ensures.items ∙ ap (λ xs. xs ++ c.in_ok-copied_name.field-0 ∷ []) c.loop-signal.invariant
    ∙ sym (take-found names c.loop-signal.signal c.in_ok-copied_name.field-0 c.in_ok-copied_name.ensures)

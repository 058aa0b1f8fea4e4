use Rattle.std.proofs.Common.{ℕ, List, [], get_or, sym, ap, ◌∙◌, arith, Bor, Some}
use Rattle.std.proofs.lemmas.Bool.{not-true, not-false}
use Rattle.net_ir.proofs.Exports.{members-next, once-next, again-here}
use Rattle.csub_read.proofs.names.name_set.Goals as goal

pub returns-then-not-branch-clause-fault : goal.returns-then-not-branch-clause-fault
returns-then-not-branch-clause-fault c =
    let bytes = λ (w : Bor (List ℕ)). w.now in
    let i = c.loop-name.name-index in
    let key = get_or c.args.names.now i (record { ref_ptr = (0, 0); now = [] }) in
    c.loop-name.invariant.once
    ∙ again-here bytes c.args.names.now i (record { ref_ptr = (0, 0); now = [] }) (omega arith)
    (sym (c.loop-name.invariant.members key.now) ∙ not-false _ (sym c.in_ok-insert.ensures.added ∙ c.if-not-branch.true))
    ∙ ap Some (sym c.in_ok-copy.ensures)

pub loop-name-preserved : goal.loop-name-preserved
loop-name-preserved c =
    let bytes = λ (w : Bor (List ℕ)). w.now in
    let i = c.loop-name.name-index in
    let key = get_or c.args.names.now i (record { ref_ptr = (0, 0); now = [] }) in
    record {
      once = c.loop-name.invariant.once
          ∙ once-next bytes c.args.names.now i (record { ref_ptr = (0, 0); now = [] }) (omega arith)
          (sym (c.loop-name.invariant.members key.now) ∙ not-true _ (sym c.in_ok-insert.ensures.added ∙ c.if-not-branch.false));
      members = λ name. members-next bytes c.args.names.now i (record { ref_ptr = (0, 0); now = [] }) (omega arith) name _ _
          (c.loop-name.invariant.members name) (c.in_ok-insert.ensures.updates.0 (record { ref_ptr = (0, 0); now = name }));
    }

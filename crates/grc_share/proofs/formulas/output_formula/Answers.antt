use Rattle.std.proofs.Common.{◌≡◌, true, length, refl, sym, ap, ◌∙◌, nat_lt, arith}
use Rattle.std.proofs.lemmas.Bool.{lt-ltb}
use Rattle.std.proofs.lemmas.List.{length-map}
use Rattle.std.proofs.lemmas.Result.{IfOk-weaker}
use Rattle.est_kernel.specs.Plain.{given_count, program_of}
use Rattle.grc_graph.specs.Formulas.{Input, Value, any_of}
use Rattle.grc_graph.specs.PlainGraphs.{wire_at}
use Rattle.grc_share.specs.Renamings.{values}
use Rattle.grc_share.proofs.RenamedFormulas.{stands-as}
use Rattle.grc_share.proofs.SharedFormulas.{given-some, not-empty}
use Rattle.grc_share.proofs.formulas.output_formula.Goals as goal

pub returns : goal.returns
returns c =
    let s = c.args.signal.0 in
    let list = c.args.emissions.now in
    let given : nat_lt s (given_count (program_of c.args.graph.now.program)) ≡ true = lt-ltb s _ (omega arith) in
    let some = not-empty (length list) (sym c.is_empty.ensures ∙ c.if-is_empty.false) in
    IfOk-weaker c.either.result _ _
    (λ f h insts names low. stands-as insts names _ _ f
    (given-some s _ (values names list) given (λ e. omega (arith, some, ap length e, length-map list (λ v. Value (wire_at names v.0)))))
    (h insts names (Input s) (any_of (values names list)) (record { same = refl; fits = refl }) (c.in_ok-emitted.ensures insts names low)))
    c.either.ensures

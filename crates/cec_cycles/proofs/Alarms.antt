-- What it says that the output of a check is never true.
use Rattle.std.proofs.Common.{◌≡◌, ◌≤◌, zero, suc, Bool, true, false, List, [], ◌∷◌, length, map, refl, sym, ap, ◌∙◌, subst}
use Rattle.std.proofs.Common.{arith, All}
use Rattle.std.specs.List.{AllByRecursion}
use Rattle.std.proofs.lemmas.List.{length-take-le}
use Rattle.base_types.specs.Items.{EachEvent}
use Rattle.est_kernel.specs.Plain.{Program, given_count, given_names}
use Rattle.est_kernel.specs.WellFormed.{IsWellFormed}
use Rattle.net_ir.specs.declared.netlist.NetOut.{NetOut}
use Rattle.net_ir.specs.Gates.{value_in}
use Rattle.net_ir.specs.Netlists.{Netlist}
use Rattle.net_ir.specs.Runs.{Shown, initial_latches, net_run, net_values_run, shown}
use Rattle.net_opt.specs.Optimized.{Optimizes}
use Rattle.sat_kernel.specs.declared.literals.Literal.{Literal}
use Rattle.sat_kernel.specs.Clauses.{literal_value}
use Rattle.net_never.specs.GateClauses.{signed}
use Rattle.net_never.specs.Never.{FitsInputs, IsNever}
use Rattle.net_search.specs.Decisions.{IsDecision}
use Rattle.net_search.specs.declared.decisions.Decision.{Decision}
use Rattle.net_search.specs.declared.decisions.Decision.TheVariants.{Never, Reached, Unknown}
use Rattle.cec_compile.specs.Meaning.{IsEvent}
use Rattle.cec_prove_sources.specs.NetClaims.{output_net}
use Rattle.cec_prove_sources.specs.RelationClauses.{all_relation_clauses}
use Rattle.cec_prove_sources.proofs.Exports.{allowed, each-event}
use Rattle.cec_cycles.specs.Alarms.{IsAlarmDecision, NeverAlarms}

outputs-false : (outs : List NetOut) → length outs ≡ 1 → (values : List Bool)
    → literal_value (value_in values) (signed (output_net outs 0) true) ≡ false
    → map (λ (o : NetOut). value_in values o.net.0) outs ≡ false ∷ []
outputs-false [] one values h = absurd (omega arith)
outputs-false (o ∷ []) one values h = ap (λ b. b ∷ []) h
outputs-false (o ∷ x ∷ outs) one values h = absurd (omega arith)

all-quiet : (net : Netlist) → length net.outputs ≡ 1 → (runs : List (List Bool))
    → AllByRecursion (λ values. literal_value (value_in values) (signed (output_net net.outputs 0) true) ≡ false) runs
    → All (λ (s : Shown). s.outputs ≡ false ∷ []) (map (shown net) runs)
all-quiet net one [] all k s low = absurd (omega arith)
all-quiet net one (values ∷ runs) all zero s low = outputs-false net.outputs one values all.0
all-quiet net one (values ∷ runs) all (suc k) s low = all-quiet net one runs all.1 k s (omega arith)

-- the optimized check is never true, so the check raises no alarm
pub never-alarms : (check small : Netlist) (p : Program) → IsWellFormed p → check.inputs ≡ given_names p
    → Optimizes check small → length small.outputs ≡ 1
    → IsNever small (all_relation_clauses p.relations) (signed (output_net small.outputs 0) true) → NeverAlarms p check
never-alarms check small p fits inputs o same never = λ items are.
    let few : given_count p ≤ length p.signals = let i = fits.interface in omega arith in
    let count : given_count p ≡ length check.inputs = sym (ap length inputs ∙ length-take-le (given_count p) p.signals few) in
    let wide : EachEvent (FitsInputs check) items = each-event (IsEvent p) (FitsInputs check) (λ event is. is.wide ∙ count) items are in
    let narrow : EachEvent (FitsInputs small) items =
    each-event (IsEvent p) (FitsInputs small) (λ event is. is.wide ∙ count ∙ ap length (sym o.replaces.interface.inputs)) items are in
    let known = allowed small p fits.relations items (initial_latches small) are in
    let runs : net_run small items ≡ net_run check items = o.replaces.followed.runs items wide in
    subst (All (λ (s : Shown). s.outputs ≡ false ∷ [])) runs
    (all-quiet small same (net_values_run small items) (never items narrow known))

-- a decision about the one output of the optimized check
pub alarm-decision : (check small : Netlist) (p : Program) (clauses : List (List Literal)) (bad : Literal) (decision : Decision) → IsWellFormed p
    → check.inputs ≡ given_names p → Optimizes check small → length small.outputs ≡ 1 → clauses ≡ all_relation_clauses p.relations
    → bad ≡ signed (output_net small.outputs 0) true → IsDecision small clauses bad decision → IsAlarmDecision p check decision
alarm-decision check small p clauses bad Never fits inputs o same are is never =
    never-alarms check small p fits inputs o same (subst (IsNever small (all_relation_clauses p.relations)) is (subst (λ k. IsNever small k bad) are never))
alarm-decision check small p clauses bad (Reached events) fits inputs o same are is reached = tt
alarm-decision check small p clauses bad (Unknown count) fits inputs o same are is unknown = tt

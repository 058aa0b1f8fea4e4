-- The assignments of a sound module as equations, and as steps of a plan.
use Rattle.std.proofs.Common.{◌≡◌, ℕ, ◌+◌, ◌<◌, true, List, [], ◌∷◌, ◌++◌, length, map, get_or, All, refl, sym, ap, ◌∙◌, arith, subst, append_assoc}
use Rattle.std.specs.List.{AllByRecursion}
use Rattle.std.proofs.lemmas.List.{length-map, get_or-map}
use Rattle.base_types.specs.Distinct.{all_differ}
use Rattle.base_types.specs.Names.{is_same_name}
use Rattle.net_ir.specs.NameLists.{is_among}
use Rattle.net_expressions.specs.Names.{names_in}
use Rattle.net_expressions.specs.Trees.{Expr}
use Rattle.run_steps.specs.Equations.{NameEquation}
use Rattle.run_steps.specs.Slots.{slot_in}
use Rattle.run_steps.specs.Steps.{driven, equation_step, IsLocal, AreSound}
use Rattle.run_steps.specs.Order.{slots_read, no_equation}
use Rattle.run_steps.specs.Solvers.{ordered_steps}
use Rattle.run_steps.proofs.Exports.{all-made, value-local, driven-count, output-slot}
use Rattle.vlog_text.specs.Machine.{given_inputs, driven_names}
use Rattle.vlog_text.specs.Trees.{Assign, VerilogModule}
use Rattle.vlog_run.specs.Loops.{equation_of, equations_of}
use Rattle.vlog_run.specs.Plans.{given_names, no_assign, step_at}
use Rattle.vlog_run.proofs.Described.{IsSound}

outputs-same : (assigns : List (Assign Expr)) → map (λ e. e.output) (map equation_of assigns) ≡ map (λ a. a.target) assigns
outputs-same [] = refl
outputs-same (a ∷ assigns) = ap (λ l. a.target ∷ l) (outputs-same assigns)

-- the names that have a value are those that the module drives
pub names-are : (design : VerilogModule) → driven (given_names design) (equations_of design) ≡ driven_names design
names-are design =
    append_assoc (given_inputs design) (map (λ r. r.name) design.registers) (map (λ e. e.output) (equations_of design))
    ∙ ap (λ outs. given_inputs design ++ (map (λ r. r.name) design.registers ++ outs)) (outputs-same design.assigns)

assigns-local : (assigns : List (Assign Expr)) → AllByRecursion IsLocal (map equation_of assigns)
assigns-local [] = tt
assigns-local (a ∷ assigns) = (λ u v same. value-local u v a.value same, assigns-local assigns)

pub reads-same : (names : List (List ℕ)) (assigns : List (Assign Expr))
    → map (λ a. map (slot_in names) (names_in a.value)) assigns ≡ slots_read names (map equation_of assigns)
reads-same names [] = refl
reads-same names (a ∷ assigns) = ap (λ l. map (slot_in names) (names_in a.value) ∷ l) (reads-same names assigns)

pub sound-equations : (design : VerilogModule) → IsSound design → AreSound (given_names design) (equations_of design)
sound-equations design sound = record {
  differ = ap (all_differ is_same_name) (names-are design) ∙ sound.differ;
  reads_driven = all-made (λ (e : NameEquation). AllByRecursion (λ x. is_among x (driven (given_names design) (equations_of design)) ≡ true) e.reads)
      equation_of design.assigns
      (subst (λ names. AllByRecursion (λ (a : Assign Expr). AllByRecursion (λ x. is_among x names ≡ true) (names_in a.value)) design.assigns)
      (sym (names-are design)) sound.reads);
  local = assigns-local design.assigns;
}

-- each target has a slot
pub targets-low : (design : VerilogModule) → IsSound design → All (λ a. slot_in (driven_names design) a.target < length (driven_names design)) design.assigns
targets-low design sound k d h =
    let es = equations_of design in
    let given = given_names design in
    let low : k < length es = omega (arith, h, length-map design.assigns equation_of) in
    let at = get_or-map equation_of design.assigns k d no_equation h in
    let slot = output-slot given es (sound-equations design sound).differ k low in
    let own : slot_in (driven given es) (get_or design.assigns k d).target ≡ length given + k =
    sym (ap (λ e. slot_in (driven given es) e.output) at) ∙ slot in
    subst (λ names. slot_in names (get_or design.assigns k d).target < length names) (names-are design) (omega (arith, own, low, driven-count given es))

-- the steps of the assignments in an order are those of their equations
pub steps-are : (design : VerilogModule) (order : List ℕ) → AllByRecursion (λ k. k < length design.assigns) order
    → map (step_at (driven_names design) design.assigns) order ≡ ordered_steps (given_names design) (equations_of design) order
steps-are design [] all = refl
steps-are design (k ∷ order) all =
    let names = driven (given_names design) (equations_of design) in
    let at = get_or-map equation_of design.assigns k no_assign no_equation all.0 in
    let own : step_at names design.assigns k ≡ equation_step names (get_or (equations_of design) k no_equation) = sym (ap (equation_step names) at) in
    let here : step_at (driven_names design) design.assigns k ≡ equation_step names (get_or (equations_of design) k no_equation) =
    ap (λ ns. step_at ns design.assigns k) (sym (names-are design)) ∙ own in
    rw (here, steps-are design order all.1) refl

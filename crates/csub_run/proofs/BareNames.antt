-- The names of a program's inputs differ without their signs too.
use Rattle.std.proofs.Common.{◌≡◌, true, [], ◌++◌, map, take, None}
use Rattle.std.specs.Prelude.{codes}
use Rattle.std.proofs.lemmas.List.Elements.{filter_passes, recursion_from_All}
use Rattle.base_types.specs.Distinct.{all_differ}
use Rattle.base_types.specs.Names.{is_same_name}
use Rattle.run_steps.proofs.Exports.{differ-behind, differ-filter, in-parts, once-of}
use Rattle.csub_text.specs.Grammar.{begins_input}
use Rattle.csub_text.specs.NameLists.{first_again}
use Rattle.csub_text.specs.Names.{declared, inputs_of}
use Rattle.csub_text.specs.Trees.{Program}
use Rattle.csub_run.specs.ProgramAnswers.{bare_inputs}
use Rattle.csub_run.specs.Runners.{KeepsNames}
use Rattle.csub_run.proofs.Machines.{names-once}

-- where all names that are declared differ
pub once-differ : (p : Program) → first_again [] (declared p) ≡ None → all_differ is_same_name (bare_inputs p) ≡ true
once-differ p once =
    let states = map (λ s. s.name) p.states in
    let all = (once-of [] (declared p) once).differ in
    let globals = (in-parts states p.globals (in-parts (states ++ p.globals) p.locals all).first).second in
    differ-behind (codes "I_") (inputs_of p)
    (recursion_from_All (λ x. is_same_name (take 2 x) (codes "I_") ≡ true) (inputs_of p) (filter_passes begins_input p.globals))
    (differ-filter begins_input p.globals globals)

pub inputs-differ : (p : Program) → KeepsNames p → all_differ is_same_name (bare_inputs p) ≡ true
inputs-differ p fits = once-differ p (names-once p fits)

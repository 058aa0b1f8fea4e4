use Rattle.std.proofs.Common.{sym, ap, ◌∙◌, length, map, arith}
use Rattle.std.proofs.lemmas.List.{length-map}
use Rattle.net_ir.proofs.Exports.{once-differ}
use Rattle.run_steps.proofs.Exports.{driven-count}
use Rattle.run_steps.specs.Steps.{driven}
use Rattle.vlog_text.specs.Machine.{driven_names}
use Rattle.vlog_text.specs.Views.{module_of, assign_of}
use Rattle.vlog_run.specs.Loops.{equation_of, equations_of}
use Rattle.vlog_run.specs.Plans.{given_names}
use Rattle.vlog_run.proofs.Described.{described-sound}
use Rattle.vlog_run.proofs.ModuleEquations.{names-are, reads-same}
use Rattle.vlog_run.proofs.plan.resolved_names.Goals as goal

pub slot_table-requires : goal.slot_table-requires
slot_table-requires c =
    let design = module_of c.args.design.now in
    let names = ap (map (λ w. w.now)) c.deref.ensures.value ∙ c.in_ok-names.ensures in
    rw names (once-differ (driven_names design) (described-sound c.requires.0 design c.requires.1).differ)

pub overflow_sub-result : goal.overflow_sub-result
overflow_sub-result c =
    let design = module_of c.args.design.now in
    let wide = length-map c.args.design.now.assigns.items assign_of in
    let all = sym (length-map c.in_ok-names.names.items (λ w. w.now)) ∙ ap length (c.in_ok-names.ensures ∙ sym (names-are design))
    ∙ driven-count (given_names design) (equations_of design) in
    omega (arith, all, wide, length-map design.assigns equation_of, c.len.ensures, c.len-2.ensures)

pub returns : goal.returns
returns c =
    let design = module_of c.args.design.now in
    let wide = length-map c.args.design.now.assigns.items assign_of in
    let names = c.in_ok-names.ensures ∙ sym (names-are design) in
    let all = sym (length-map c.in_ok-names.names.items (λ w. w.now)) ∙ ap length names ∙ driven-count (given_names design) (equations_of design) in
    let count = length-map design.assigns equation_of in
    let keys = c.in_ok-slots.ensures ∙ ap (map (λ w. w.now)) c.deref.ensures.value ∙ names in
    record {
      names_are = names;
      keys_are = keys;
      first_is = omega (arith, all, wide, count, c.len.ensures, c.len-2.ensures);
      reads_are = c.in_ok-reads.ensures
          ∙ rw (keys, c.deref-2.ensures.value) (reads-same (driven (given_names design) (equations_of design)) design.assigns);
    }

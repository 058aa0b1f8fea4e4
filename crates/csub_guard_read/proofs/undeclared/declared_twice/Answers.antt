use Rattle.std.proofs.Common.{◌∙◌, ℕ, List, [], ap, map, Bor}
use Rattle.std.specs.HashSet.{contains_by}
use Rattle.std.specs.List.{list_any}
use Rattle.csub_guard.specs.Names.{declared}
use Rattle.csub_guard.specs.Views.{program_of}
use Rattle.base_types.specs.Names.{is_same_name}
use Rattle.net_expressions.proofs.Exports.{again-first}
use Rattle.net_expressions.specs.NameTables.{again_from}
use Rattle.csub_guard_read.proofs.undeclared.declared_twice.Goals as goal

pub returns : goal.returns
returns c =
    let known = λ (n : List ℕ). contains_by (λ (k : Bor (List ℕ)). is_same_name n k.now) c.new-none.result in
    let p = program_of c.args.program.now in
    c.in_ok-table.ensures.again ∙ ap (again_from known) (ap (map (λ w. w.now)) c.deref.ensures.value ∙ c.in_ok-names.ensures)
    ∙ again-first known [] (declared p) (λ n. ap (list_any (λ (k : Bor (List ℕ)). is_same_name n k.now)) c.new-none.ensures.empty)

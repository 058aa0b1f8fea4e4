use Rattle.std.proofs.Common.{◌∙◌, ◌≡◌, ℕ, List, ap, Bor}
use Rattle.std.specs.HashSet.{contains_by}
use Rattle.std.proofs.lemmas.Result.{IfOk-weaker}
use Rattle.base_types.specs.Names.{is_same_name}
use Rattle.net_ir.specs.NameLists.{first_again, is_among}
use Rattle.net_ir.specs.Runs.{netlist_of}
use Rattle.net_expressions.specs.NameTables.{again_from, name_told}
use Rattle.net_expressions.proofs.Exports.{again-first}
use Rattle.vlog_reset.specs.Faults.{own_names}
use Rattle.vlog_reset.proofs.naming.name_again.Goals as goal

pub returns : goal.returns
returns c =
    let known = λ (n : List ℕ). contains_by (λ (k : Bor (List ℕ)). is_same_name n k.now) c.in_ok-known.known in
    let own = own_names (netlist_of c.args.net.now) in
    let names = c.args.names.now in
    let same : (n : List ℕ) → known n ≡ is_among n own = λ n. c.in_ok-known.ensures n ∙ ap (is_among n) (c.deref.ensures.value ∙ c.in_ok-own.ensures) in
    IfOk-weaker c.name_again_among.result (λ again. name_told again ≡ again_from known names) (λ again. name_told again ≡ first_again own names)
    (λ again e. e ∙ again-first known own names same) c.name_again_among.ensures

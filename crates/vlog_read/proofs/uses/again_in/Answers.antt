use Rattle.std.proofs.Common.{◌∙◌, ℕ, List, ap, map, Bor}
use Rattle.std.specs.HashSet.{contains_by}
use Rattle.std.specs.List.{list_any}
use Rattle.base_types.specs.Names.{is_same_name}
use Rattle.vlog_read.proofs.NameLaws.{again-none}
use Rattle.vlog_read.proofs.uses.again_in.Goals as goal

pub returns : goal.returns
returns c =
    let known = λ (n : List ℕ). contains_by (λ (k : Bor (List ℕ)). is_same_name n k.now) c.new-none.result in
    c.in_ok-table.ensures.again
    ∙ again-none known (map (λ w. w.now) c.args.names.now) (λ n. ap (list_any (λ (k : Bor (List ℕ)). is_same_name n k.now)) c.new-none.ensures.empty)

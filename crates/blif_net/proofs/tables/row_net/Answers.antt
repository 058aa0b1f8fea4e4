use Rattle.std.proofs.Common.{ℕ, Some, None, List, ap, arith, subst}
use Rattle.std.proofs.lemmas.Result.{IfOk-weaker}
use Rattle.blif_net.specs.Depths.{cells_depth, or_constant}
use Rattle.blif_net.specs.Drawings.{Deepens, read_depths}
use Rattle.blif_net.proofs.DepthLaws.{deepens-then, deepens-whole}
use Rattle.blif_net.proofs.tables.row_net.Goals as goal

pub returns-in-Some-clause-deep : goal.returns-in-Some-clause-deep
returns-in-Some-clause-deep c =
    let first = c.args.first in
    let a = c.args.gates.now.items in
    let new = c.joined_cells.new.gates.items in
    let f = λ (depths : List ℕ). cells_depth None c.args.cells.now (read_depths c.args.reads.now depths) in
    deepens-whole first a new c.in-Some.net f
    (subst (λ o. Deepens first a new o f) c.in-Some.is c.in_ok-net.ensures.deep)

pub returns-in-None-clause-deep : goal.returns-in-None-clause-deep
returns-in-None-clause-deep c =
    let first = c.args.first in
    let a = c.args.gates.now.items in
    let b = c.joined_cells.new.gates.items in
    let new = c.push_gate.new.gates.items in
    let f = λ (depths : List ℕ). cells_depth None c.args.cells.now (read_depths c.args.reads.now depths) in
    let one = subst (λ o. Deepens first a b o f) c.in-None.is c.in_ok-net.ensures.deep in
    IfOk-weaker c.push_gate.result (λ n. Deepens first b new (Some n) (λ depths. Some 0))
    (λ n. Deepens first a new (Some n) (λ depths. Some (or_constant (f depths))))
    (λ n two. deepens-then first a b new None (Some n) f (λ depths. Some 0) (λ depths. Some (or_constant (f depths))) one two
    (λ given wide. ap (λ o. Some (or_constant o)) (one.deep given wide))
    (λ given wide. omega arith))
    c.push_gate.ensures.deep

use Rattle.std.proofs.Common.{length, ap, refl, ◌∙◌, arith}
use Rattle.est_kernel.specs.Plain.{term_of}
use Rattle.est_kernel.specs.StaticCodes.{has_code}
use Rattle.grc_graph.proofs.Exports.{codes_of_body, codes_at, statement_count-le, tree_nests, tree_numbers}
use Rattle.grc_layout.proofs.Growth.{body_grown}
use Rattle.grc_layout.proofs.tree.select.Goals as goal

pub resumed_codes-requires : goal.resumed_codes-requires
resumed_codes-requires c = (codes_at _ _ 0 (codes_of_body _ _ c.requires.codes)).resumed_in

pub select_part-requires-clause-codes : goal.select_part-requires-clause-codes
select_part-requires-clause-codes c = codes_of_body _ _ c.requires.codes

pub select_part-requires-clause-paths : goal.select_part-requires-clause-paths
select_part-requires-clause-paths c = omega (arith, c.requires.limits.size, statement_count-le (term_of c.args.body.now))

pub select_part-requires-clause-places : goal.select_part-requires-clause-places
select_part-requires-clause-places c = omega (arith, c.requires.limits.size, statement_count-le (term_of c.args.body.now), ap length c.new.ensures.items)

pub select_part-requires-clause-leaves : goal.select_part-requires-clause-leaves
select_part-requires-clause-leaves c = omega (arith, c.requires.limits.size, statement_count-le (term_of c.args.body.now))

pub invariant_of-result : goal.invariant_of-result
invariant_of-result c =
    let tree = body_grown (record { nodes = c.new.result; leaves = 0 }) c.select_part.new.draft c.has_some_code-live.result (term_of c.args.body.now)
    c.new.ensures.items refl
    (c.has_some_code-live.ensures ∙ ap has_code (c.resumed_codes.ensures
    ∙ (codes_at _ _ 0 (codes_of_body _ (term_of c.args.body.now) c.requires.codes)).resumed))
    c.in_ok-select_part.ensures.grown in
    record {
      nested = tree_nests c.select_part.new.draft.nodes.items (term_of c.args.body.now) tree.nodes;
      numbered = tree_numbers c.select_part.new.draft.nodes.items c.select_part.new.draft.leaves (term_of c.args.body.now) tree.nodes tree.leaves;
      few = omega (
        arith,
        c.in_ok-select_part.ensures.few,
        ap length c.new.ensures.items,
        statement_count-le (term_of c.args.body.now),
        c.requires.limits.size,
      );
    }

pub returns-clause-nodes : goal.returns-clause-nodes
returns-clause-nodes c =
    let tree = body_grown (record { nodes = c.new.result; leaves = 0 }) c.select_part.new.draft c.has_some_code-live.result (term_of c.args.body.now)
    c.new.ensures.items refl
    (c.has_some_code-live.ensures ∙ ap has_code (c.resumed_codes.ensures
    ∙ (codes_at _ _ 0 (codes_of_body _ (term_of c.args.body.now) c.requires.codes)).resumed))
    c.in_ok-select_part.ensures.grown in
    tree.nodes

pub returns-clause-leaves : goal.returns-clause-leaves
returns-clause-leaves c =
    let tree = body_grown (record { nodes = c.new.result; leaves = 0 }) c.select_part.new.draft c.has_some_code-live.result (term_of c.args.body.now)
    c.new.ensures.items refl
    (c.has_some_code-live.ensures ∙ ap has_code (c.resumed_codes.ensures
    ∙ (codes_at _ _ 0 (codes_of_body _ (term_of c.args.body.now) c.requires.codes)).resumed))
    c.in_ok-select_part.ensures.grown in
    tree.leaves

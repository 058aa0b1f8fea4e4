use Rattle.std.proofs.Common.{◌≡◌, [], ◌+◌, length, ap, refl, sym, ◌∙◌, arith}
use Rattle.std.proofs.lemmas.List.{append-nil, length-map}
use Rattle.grc_graph.specs.SelectionTrees.{resumes, body_tree}
use Rattle.grc_graph.specs.TreeForms.{tree_node}
use Rattle.net_state_enc.proofs.trees.code_tree.Goals as goal

pub returns-clause-shape : goal.returns-clause-shape
returns-clause-shape c body tree =
    c.in_ok-made.ensures.shape (resumes body) body 0 0 [] [] (record {
      nodes_all = tree ∙ sym (append-nil (body_tree body));
      begins = refl;
      ends = (let counts : c.len.result ≡ length c.args.tree.now.nodes.items = omega arith in counts)
          ∙ sym (length-map c.args.tree.now.nodes.items tree_node) ∙ ap length tree
          ∙ (let z : length (body_tree body) ≡ 0 + length (body_tree body) = omega arith in z);
    })

pub tree_between-requires-clause-whole : goal.tree_between-requires-clause-whole
tree_between-requires-clause-whole c d some =
    let counts : c.len.result ≡ length c.args.tree.now.nodes.items = omega arith in
    omega (arith, counts, c.args.tree.now.nested.ended 0 d (omega arith))

use Rattle.std.proofs.Common.{◌≡◌, List, subst, arith, ◌∙◌}
use Rattle.net_ir.specs.Runs.{netlist_of}
use Rattle.net_follow.specs.declared.literals.Equation.{Equation}
use Rattle.net_follow.specs.Frames.{all_claims}
use Rattle.net_follow.specs.Matching.{AreShown}
use Rattle.net_follow.proofs.Induction.{followed}
use Rattle.net_follow.proofs.checking.unshown_places.Goals as goal

pub returns : goal.returns
returns c = λ none.
    let a = c.args.old.now in
    let b = c.args.new.now in
    let facts : c.deref.result.now ≡ all_claims (netlist_of a) (netlist_of b) c.args.claims.now = c.deref.ensures.value ∙ c.in_ok-facts.ensures in
    followed (netlist_of a) (netlist_of b) c.args.claims.now (record {
      old_is = a.is_net;
      new_is = b.is_net;
      same_inputs = omega (arith, a.inputs.ok.0, b.inputs.ok.0);
      same_outputs = omega (arith, a.outputs.ok.0, b.outputs.ok.0);
      shown_facts = subst (λ (fs : List Equation). AreShown (netlist_of a) (netlist_of b) fs) facts (c.in_ok-unshown_facts.ensures none);
    })

use Rattle.std.proofs.Common.{◌∙◌, ◌++◌, ap, sym}
use Rattle.std.proofs.lemmas.Result.{on_ok_weaker}
use Rattle.est_kernel.specs.Plain.{term_of}
use Rattle.est_kernel.specs.Terms.{Seq, Loop, Par, Trap, Local}
use Rattle.grc_graph.specs.PlainInstances.{layer_of}
use Rattle.grc_graph.specs.Edges.{edges_at}
use Rattle.grc_dep.specs.Found.{found_by}
use Rattle.grc_dep.proofs.PartReads.{own_codes}
use Rattle.grc_dep.proofs.instance_edges.push_edges_at.Goals as goal

pub part_at-whole-requires : goal.part_at-whole-requires
part_at-whole-requires c = own_codes c.args.codes.now (term_of c.args.statement.now.body.now) c.args.at.path.0 c.requires.codes

pub returns-in-Seq : goal.returns-in-Seq
returns-in-Seq c =
    let left = c.part_at-left.ensures.body ∙ ap term_of c.deref-in-Seq.ensures in
    let right = c.part_at-right.ensures.body ∙ ap term_of c.deref-in-Seq-2.ensures in
    let whole = (λ i. Seq (left i) (right i)) ∙ sym (ap term_of c.in-Seq.is) in
    on_ok_weaker c.push_seq.result (λ h B bound. h B ∙ λ i. c.args.pairs.now.items
    ++ found_by c.args.lookups.now (edges_at B (whole i) (c.part_at-whole.ensures.path i) (layer_of c.args.at.layer))) c.push_seq.ensures

pub returns-in-Loop : goal.returns-in-Loop
returns-in-Loop c =
    let part = c.part_at-part-in-Loop.ensures.body ∙ ap term_of c.deref-in-Loop.ensures in
    let whole = (λ i. Loop c.in-Loop.field-0 (part i)) ∙ sym (ap term_of c.in-Loop.is) in
    on_ok_weaker c.push_loop.result (λ h B bound. h B c.in-Loop.field-0 ∙ λ i. c.args.pairs.now.items
    ++ found_by c.args.lookups.now (edges_at B (whole i) (c.part_at-whole.ensures.path i) (layer_of c.args.at.layer))) c.push_loop.ensures

pub returns-in-Par : goal.returns-in-Par
returns-in-Par c =
    let left = c.part_at-left-in-Par.ensures.body ∙ ap term_of c.deref-in-Par.ensures in
    let right = c.part_at-right-in-Par.ensures.body ∙ ap term_of c.deref-in-Par-2.ensures in
    let whole = (λ i. Par (left i) (right i)) ∙ sym (ap term_of c.in-Par.is) in
    on_ok_weaker c.push_par.result (λ h B bound. h B ∙ λ i. c.args.pairs.now.items
    ++ found_by c.args.lookups.now (edges_at B (whole i) (c.part_at-whole.ensures.path i) (layer_of c.args.at.layer))) c.push_par.ensures

pub returns-in-Trap : goal.returns-in-Trap
returns-in-Trap c =
    let part = c.part_at-part-in-Trap.ensures.body ∙ ap term_of c.deref-in-Trap.ensures in
    let whole = (λ i. Trap (part i)) ∙ sym (ap term_of c.in-Trap.is) in
    on_ok_weaker c.push_trap.result (λ h B bound. h B ∙ λ i. c.args.pairs.now.items
    ++ found_by c.args.lookups.now (edges_at B (whole i) (c.part_at-whole.ensures.path i) (layer_of c.args.at.layer))) c.push_trap.ensures

pub returns-in-Local : goal.returns-in-Local
returns-in-Local c =
    let part = c.part_at-part-in-Local.ensures.body ∙ ap term_of c.deref-in-Local.ensures in
    let whole = (λ i. Local c.in-Local.field-0.0 (part i)) ∙ sym (ap term_of c.in-Local.is) in
    on_ok_weaker c.push_local.result (λ h B bound. h B c.in-Local.field-0.0 ∙ λ i. c.args.pairs.now.items
    ++ found_by c.args.lookups.now (edges_at B (whole i) (c.part_at-whole.ensures.path i) (layer_of c.args.at.layer))) c.push_local.ensures

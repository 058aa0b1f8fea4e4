use Rattle.std.proofs.Common.{◌≡◌, ◌+◌, [], ◌∷◌, ap, arith, length, refl, ◌∙◌}
use Rattle.est_kernel.specs.declared.programs.KernelProgram.{KernelProgram}
use Rattle.net_cycles.proofs.Beginnings.{begun}
use Rattle.net_gen.proofs.Exports.{numbers_are_few}
use Rattle.net_cycles.proofs.base.begin.Goals as goal

pub overflow_cast-leaves : goal.overflow_cast-leaves
overflow_cast-leaves c = omega (arith, (numbers_are_few c.args.graph.now).leaves, c.len-leaves.ensures)

pub overflow_add-first-2 : goal.overflow_add-first-2
overflow_add-first-2 c =
    let few = numbers_are_few c.args.graph.now in
    let given = ap (λ p. p.inputs + p.both) c.program-program.ensures in
    omega (arith, few.given, few.leaves, given, c.len-leaves.ensures)

pub overflow_add-base : goal.overflow_add-base
overflow_add-base c =
    let few = numbers_are_few c.args.graph.now in
    let given = ap (λ p. p.inputs + p.both) c.program-program.ensures in
    omega (arith, few.given, few.leaves, given, c.len-leaves.ensures)

pub returns : goal.returns
returns c =
    let few = numbers_are_few c.args.graph.now in
    let given = ap (λ (p : KernelProgram). p.inputs + p.both) c.program-program.ensures in
    let list = c.in_ok-list.ensures.items ∙ (λ i. c.silent.ensures i ∷ (c.silent-2.ensures i ∷ [])) in
    let leaves : c.len-leaves.result ≡ length c.args.graph.now.next.items = omega (arith, c.len-leaves.ensures, c.args.graph.now.next.ok.0) in
    begun c.args.graph.now _ _ given leaves (omega (arith, given, leaves)) (omega (arith, few.given, few.leaves)) refl refl list

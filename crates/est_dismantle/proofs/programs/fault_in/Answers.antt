use Rattle.std.proofs.Common.{refl, sym, ◌∙◌, arith}
use Rattle.est_ast.specs.FlatViews.{flat_of}
use Rattle.est_dismantle.proofs.Limits.{bad-expansion, large-expansion, high-expansion, trapped-expansion, whole-expansion}
use Rattle.est_dismantle.proofs.programs.fault_in.Goals as goal

pub returns-in-Some : goal.returns-in-Some
returns-in-Some c = bad-expansion (flat_of c.args.flat.now) c.args.flat.now.body refl c.in-Some.place (sym c.first_bad.ensures ∙ c.in-Some.is)

pub returns-then-extent-gt-KERNEL_NODES : goal.returns-then-extent-gt-KERNEL_NODES
returns-then-extent-gt-KERNEL_NODES c =
    large-expansion (flat_of c.args.flat.now) c.args.flat.now.body refl c.measure-extent.result
    (sym c.first_bad.ensures ∙ c.in-None.is) c.measure-extent.ensures (omega arith)

pub returns-then-extent-gt-KERNEL_HEIGHT : goal.returns-then-extent-gt-KERNEL_HEIGHT
returns-then-extent-gt-KERNEL_HEIGHT c =
    high-expansion (flat_of c.args.flat.now) c.args.flat.now.body refl c.measure-extent.result (sym c.first_bad.ensures ∙ c.in-None.is) c.measure-extent.ensures
    (omega arith) (omega arith)

pub returns-then-extent-gt-TRAPS : goal.returns-then-extent-gt-TRAPS
returns-then-extent-gt-TRAPS c =
    trapped-expansion (flat_of c.args.flat.now) c.args.flat.now.body refl c.measure-extent.result
    (sym c.first_bad.ensures ∙ c.in-None.is) c.measure-extent.ensures (omega arith) (omega arith) (omega arith)

pub returns-else-extent-gt-TRAPS : goal.returns-else-extent-gt-TRAPS
returns-else-extent-gt-TRAPS c =
    whole-expansion (flat_of c.args.flat.now) c.args.flat.now.body refl c.measure-extent.result
    (sym c.first_bad.ensures ∙ c.in-None.is) c.measure-extent.ensures (omega arith) (omega arith) (omega arith)

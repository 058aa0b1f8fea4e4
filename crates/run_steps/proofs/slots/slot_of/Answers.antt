use Rattle.std.proofs.Common.{sym, ◌∙◌}
use Rattle.base_types.specs.Names.{is_same_name}
use Rattle.net_ir.proofs.Exports.{position-some, position-none}
use Rattle.run_steps.proofs.slots.slot_of.Goals as goal

pub returns-in-Some : goal.returns-in-Some
returns-in-Some c = sym (position-some (λ k. k.now) (is_same_name c.args.name.now) c.args.slots.now.keys c.in-Some.slot (sym c.in-Some.ensures.index))

pub returns-in-None : goal.returns-in-None
returns-in-None c = c.len.ensures.len ∙ sym (position-none (λ k. k.now) (is_same_name c.args.name.now) c.args.slots.now.keys (sym c.in-None.ensures.index))

use Rattle.std.proofs.Common.{sym, ap, ◌∙◌, arith}
use Rattle.base_types.specs.Names.{is_same_name}
use Rattle.est_cover.proofs.FreshNames.{any-here}
use Rattle.est_cover.proofs.names.is_among.Goals as goal

pub returns-then-eq : goal.returns-then-eq
returns-then-eq c =
    sym (any-here c.args.name.now c.args.signals.now c.loop-signal.signal-index c.signal-item.result (omega arith) c.signal-item.is
    (ap (is_same_name c.args.name.now) (sym c.bytes.ensures) ∙ sym c.if-eq.ensures))
    ∙ c.loop-signal.invariant

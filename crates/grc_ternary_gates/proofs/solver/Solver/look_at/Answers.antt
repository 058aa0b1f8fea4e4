use Rattle.std.proofs.Common.{◌≡◌, ◌<◌, true, length, slice_index_or, arith, ap, sym, ◌∙◌}
use Rattle.std.proofs.lemmas.List.{get_or_read}
use Rattle.grc_ternary_gates.specs.declared.gates.Gate.TheVariants.{Source}
use Rattle.grc_ternary_gates.specs.declared.gates.Value.TheVariants.{Unknown}
use Rattle.grc_ternary_gates.specs.Systems.{gate_at, gate_status, is_unknown, status_of, statuses_of}
use Rattle.grc_ternary_gates.proofs.Deciding.{goes-on}
use Rattle.grc_ternary_gates.proofs.solver.Solver.look_at.Goals as goal

pub returns-then-not-is_unknown-clause-goes_on : goal.returns-then-not-is_unknown-clause-goes_on
returns-then-not-is_unknown-clause-goes_on c = λ todo u.
    let vs = c.args.self.now.values.items in
    let all = c.args.system.now.gates.items in
    let node = c.args.node in
    let len = c.requires.fits.values in
    let low : node < length vs = let n = c.requires.node in omega arith in
    let read : c.index.result.now ≡ slice_index_or vs node Unknown = get_or_read vs _ _ low c.index.ensures Unknown in
    let gate : c.index-then-is_unknown.result.now ≡ gate_at all node = get_or_read all _ _ c.requires.node c.index-then-is_unknown.ensures (Source 0) in
    let was : is_unknown (slice_index_or vs node Unknown) ≡ true = ap is_unknown (sym read) ∙ sym c.is_unknown.ensures ∙ c.if-is_unknown.true in
    let says : status_of c.gate_value-value.result ≡ gate_status c.args.sources.now (statuses_of vs) (gate_at all node) =
    c.gate_value-value.ensures ∙ ap (λ xs. gate_status c.args.sources.now (statuses_of xs) c.index-then-is_unknown.result.now) c.deref.ensures.value
    ∙ ap (gate_status c.args.sources.now (statuses_of vs)) gate in
    goes-on all c.args.sources.now c.args.self.now c.decide.new.self node c.gate_value-value.result todo c.requires.fits c.requires.node was
    (sym c.is_unknown-then-is_unknown.ensures ∙ c.if-not-is_unknown.true) says c.decide.ensures u

use Rattle.std.proofs.Common.{◌∙◌, ap, map}
use Rattle.std.proofs.lemmas.Simd.{map-map}
use Rattle.base_types.specs.CodeSet.{members}
use Rattle.est_codes.proofs.walk.entry_sets.Goals as goal

pub returns : goal.returns
returns c = λ found body lists. record {
  started = ap (λ l. map members l) c.in_ok-started_sets.ensures ∙ map-map members (λ e. e.started) c.args.entries.now ∙ lists.started;
  resumed = ap (λ l. map members l) c.in_ok-resumed_sets.ensures ∙ map-map members (λ e. e.resumed) c.args.entries.now ∙ lists.resumed;
}

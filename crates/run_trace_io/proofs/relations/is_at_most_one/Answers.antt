use Rattle.std.proofs.Common.{◌<◌, ◌≤◌, map, length, refl, sym, ◌∙◌, arith}
use Rattle.std.proofs.lemmas.Bool.{false≢true}
use Rattle.std.proofs.lemmas.List.{get_or-map, length-map}
use Rattle.base_types.specs.declared.indices.SigId.{SigId}
use Rattle.run_trace_io.proofs.Finding.{IsFound-more, two_present, Meets-found}
use Rattle.run_trace_io.proofs.relations.is_at_most_one.Goals as goal

pub loop-signal-preserved : goal.loop-signal-preserved
loop-signal-preserved c =
    let signals = c.args.signals.now in
    let numbers = map (λ (s : SigId). s.0) signals in
    let i = c.loop-signal.signal-index in
    let low : i < length numbers = omega (arith, length-map signals (λ (s : SigId). s.0)) in
    let is = get_or-map (λ (s : SigId). s.0) signals i (record { 0 = 0 }) 0 (omega arith) in
    IsFound-more c.args.event.now numbers i _ low is c.loop-signal.found c.in-Some.next c.is_present.result c.loop-signal.invariant c.is_present.ensures.0
    c.is_present.ensures.1 (sym c.found_after.ensures ∙ c.in-Some.is)

pub returns-in-None : goal.returns-in-None
returns-in-None c =
    let signals = c.args.signals.now in
    let numbers = map (λ (s : SigId). s.0) signals in
    let i = c.loop-signal.signal-index in
    let low : i < length numbers = omega (arith, length-map signals (λ (s : SigId). s.0)) in
    let is = get_or-map (λ (s : SigId). s.0) signals i (record { 0 = 0 }) 0 (omega arith) in (
      λ e. absurd (false≢true e),
      λ meets. absurd (two_present c.args.event.now numbers i _ low is c.loop-signal.found c.is_present.result
          c.loop-signal.invariant c.is_present.ensures.0 (sym c.found_after.ensures ∙ c.in-None.is) meets),
    )

pub returns : goal.returns
returns c =
    let signals = c.args.signals.now in
    let all : length (map (λ (s : SigId). s.0) signals) ≤ c.loop-signal.signal-index = omega (arith, length-map signals (λ (s : SigId). s.0)) in (
      λ e. Meets-found c.args.event.now (map (λ (s : SigId). s.0) signals) c.loop-signal.found c.loop-signal.signal-index all c.loop-signal.invariant,
      λ meets.
          refl,
    )

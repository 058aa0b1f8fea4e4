-- Events up to the first one to which a program has no reaction.
use Rattle.std.proofs.Common.{◌≡◌, ◌<◌, ℕ, ◌+◌, Bool, List, [], ◌∷◌, ◌++◌, Vec, length, map, take, slice_index_or, sym, ap, ◌∙◌, subst, arith}
use Rattle.std.specs.declared.alloc.Global.{Global}
use Rattle.std.proofs.lemmas.List.{length-map, length-take-le, take-map, take_more}
use Rattle.est_kernel.specs.Plain.{Program}
use Rattle.grc_graph.specs.PlainWireNames.{wire_name_of}
use Rattle.grc_ternary_stops.specs.Stops.{IsStop, plain_events}
use Rattle.grc_ternary_stops.specs.declared.stops.StuckEvent.{StuckEvent}
use Rattle.net_never.specs.Reached.{events_of, items_of}
use Rattle.cec_compile.specs.Meaning.{AreItems}
use Rattle.cec_prove_sources.specs.Verdicts.{IsTraceOf}
use Rattle.cec_prove_sources.specs.declared.questions.Layout.TheVariants.{LinePerInstant}
use Rattle.cec_cycles.specs.Findings.{IsStuck}
use Rattle.cec_cycles.specs.declared.findings.Stuck.{Stuck}

split : (events : List (Vec Bool Global)) (k : ℕ) → k < length events
    → events_of (take (k + 1) events) ≡ take k (plain_events events) ++ slice_index_or (plain_events events) k [] ∷ []
split events k low =
    sym (take-map (λ (event : Vec Bool Global). event.items) (k + 1) events)
    ∙ take_more (plain_events events) k [] (let n = length-map events (λ (event : Vec Bool Global). event.items) in omega arith)

pub is-stuck : (p : Program) (events : List (Vec Bool Global)) (stop : StuckEvent) (stuck : Stuck) → IsStop p events stop
    → AreItems p (items_of (events_of (take (stop.before + 1) events)))
    → IsTraceOf LinePerInstant p (events_of (take (stop.before + 1) events)) stuck.trace.items
    → stuck.instant ≡ stop.before + 1 → stuck.wires ≡ stop.wires → IsStuck p stuck
is-stuck p events stop stuck is fit trace number wires =
    let plain = plain_events events in
    let apart = split events stop.before is.low in
    let count = length-map events (λ (event : Vec Bool Global). event.items) in
    let low = is.low in
    let front : length (take stop.before plain) ≡ stop.before = length-take-le stop.before plain (omega arith) in
    record {
      events = take stop.before plain;
      event = slice_index_or plain stop.before [];
      items_fit = subst (λ es. AreItems p (items_of es)) apart fit;
      unknown = is.unknown;
      stops = is.stops;
      named = ap (λ ws. map wire_name_of ws.items) wires ∙ is.named;
      number = number ∙ ap (λ n. n + 1) (sym front);
      is_trace = subst (λ es. IsTraceOf LinePerInstant p es stuck.trace.items) apart trace;
    }

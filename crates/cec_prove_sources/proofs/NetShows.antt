-- What a netlist whose inputs have relations shows of the output of a claim.
use Rattle.std.proofs.Common.{◌≡◌, ◌<◌, ℕ, Bool, true, false, not, ◌&&◌, ◌||◌, List, [], ◌∷◌, ◌++◌, length, map, refl, sym, ap, ◌∙◌}
use Rattle.std.proofs.Common.{subst, arith, Option, Some, None, if◌then◌else◌}
use Rattle.std.specs.Prelude.{All, nat_eq}
use Rattle.std.specs.List.{AllByRecursion, list_all}
use Rattle.std.proofs.lemmas.Bool.{and_from, and_parts}
use Rattle.std.proofs.lemmas.List.{get_or-map, get_or_append_left, length-append, length-map}
use Rattle.base_types.specs.Items.{Item, Event, Reset, EachEvent}
use Rattle.base_types.specs.Relations.{Relation}
use Rattle.est_kernel.specs.WellFormed.{RelatesGiven}
use Rattle.net_ir.specs.declared.netlist.NetOut.{NetOut}
use Rattle.net_ir.specs.Gates.{value_in}
use Rattle.net_ir.specs.Netlists.{Netlist, output_names}
use Rattle.net_ir.specs.Runs.{initial_latches, net_values, net_values_run, next_latches, shown, values_from}
use Rattle.net_ir.proofs.Exports.{value_in-gate_values}
use Rattle.sat_kernel.specs.declared.literals.Literal.{Literal}
use Rattle.sat_kernel.specs.Clauses.{IsModel, literal_value}
use Rattle.net_never.specs.GateClauses.{signed}
use Rattle.net_never.specs.Never.{IsNever}
use Rattle.net_never.specs.Reached.{are_met, is_reached, items_of, last_or}
use Rattle.net_never.proofs.Exports.{model-both, model-parts}
use Rattle.cec_prove_sources.specs.Claims.{claimed}
use Rattle.cec_prove_sources.specs.DeviceClaims.{is_true_at, row_meets}
use Rattle.cec_prove_sources.specs.DeviceVerdicts.{AnswersDeviceBroken, AnswersDeviceHolds, AsksDevice}
use Rattle.cec_prove_sources.specs.Devices.{Device, FitsDevice, IsEventOver}
use Rattle.cec_prove_sources.specs.NetClaims.{allowed_clauses, assumed_clauses, bad_literal, output_net}
use Rattle.cec_prove_sources.specs.NetDevices.{RelatesInputs, net_device, net_rows, row_of}
use Rattle.cec_prove_sources.specs.RelationClauses.{all_relation_clauses}
use Rattle.cec_prove_sources.specs.TraceTexts.{IsTraceOver}
use Rattle.cec_prove_sources.specs.Verdicts.{HasPlace, HasPlaceIfAny, PlainQuestion}
use Rattle.cec_prove_sources.specs.declared.questions.Claim.{Claim}
use Rattle.cec_prove_sources.specs.declared.questions.Claim.TheVariants.{Never, Always}
use Rattle.cec_prove_sources.specs.declared.questions.Layout.{Layout}
use Rattle.cec_prove_sources.proofs.Relating.{IsOver, relations-met}

-- ---- events

pub each-event : (P Q : List Bool → Type 0) → ((event : List Bool) → P event → Q event) → (items : List Item) → EachEvent P items → EachEvent Q items
each-event P Q more [] each = tt
each-event P Q more (Event event ∷ items) each = (more event each.0, each-event P Q more items each.1)
each-event P Q more (Reset ∷ items) each = each-event P Q more items each

-- items that fit a device have one value for each input
pub wide-items : (d : Device) (items : List Item) → FitsDevice d items → EachEvent (λ event. length event ≡ length d.inputs) items
wide-items d items fits = each-event (IsEventOver (length d.inputs) d.relations) (λ event. length event ≡ length d.inputs) (λ event is. is.wide) items fits

-- the nets of the inputs have their values
inputs-values : (net : Netlist) (latches inputs : List Bool) (given : ℕ) → length inputs ≡ given
    → IsOver (value_in (net_values net latches inputs)) inputs given
inputs-values net latches inputs given wide n low =
    let within : n < length (inputs ++ latches) = rw (length-append inputs latches) (omega arith) in
    value_in-gate_values (inputs ++ latches) net.gates n within ∙ get_or_append_left inputs latches false n (omega arith)

-- what the relations allow is allowed in each instant
pub allowed-events : (net : Netlist) (relations : List Relation) (given : ℕ) → All (RelatesGiven given) relations → (items : List Item) (latches : List Bool)
    → EachEvent (IsEventOver given relations) items
    → AllByRecursion (λ values. IsModel (value_in values) (all_relation_clauses relations)) (values_from net latches items)
allowed-events net relations given fits [] latches are = tt
allowed-events net relations given fits (Event inputs ∷ items) latches are = (
  relations-met (value_in (net_values net latches inputs)) inputs given (inputs-values net latches inputs given are.0.wide) relations fits are.0.meets,
  allowed-events net relations given fits items (next_latches net (net_values net latches inputs)) are.1,
)
allowed-events net relations given fits (Reset ∷ items) latches are = allowed-events net relations given fits items (initial_latches net) are

-- ---- what a claim asks of one value

-- the value of what breaks a claim
abbrev broken_value : Claim → Bool → Bool
broken_value claim b = if not (claimed claim) then b else not b

breaking : (claim : Claim) (b : Bool) → broken_value claim b ≡ true → b ≡ not (claimed claim)
breaking Never b e = e
breaking Always true e = sym e
breaking Always false e = refl

keeping : (claim : Claim) (b : Bool) → broken_value claim b ≡ false → b ≡ claimed claim
keeping Never b e = e
keeping Always true e = refl
keeping Always false e = sym e

unbroken : (claim : Claim) → broken_value claim (claimed claim) ≡ false
unbroken Never = refl
unbroken Always = refl

-- ---- an instant

-- the instants of a run as rows
abbrev pub rows_of : Netlist → List (List Bool) → List (List Bool)
rows_of net runs = map row_of (map (shown net) runs)

abbrev pub InRange : Netlist → Option ℕ → Type 0
InRange net None = Unit {0}
InRange net (Some place) = place < length net.outputs

-- the clause of one net
one-true : (b : Bool) → b ≡ true → ((b || false) && true) ≡ true
one-true true e = refl
one-true false e = e

true-one : (b : Bool) → ((b || false) && true) ≡ true → b ≡ true
true-one true e = refl
true-one false e = e

pub true-shown : (net : Netlist) (k : ℕ) → k < length net.outputs → (values : List Bool)
    → is_true_at k (row_of (shown net values)) ≡ value_in values (output_net net.outputs k)
true-shown net k low values =
    let f = λ (o : NetOut). value_in values o.net.0 in
    get_or_append_left (map f net.outputs) (value_in values net.paused ∷ []) false k (subst (λ n. k < n) (sym (length-map net.outputs f)) low)
    ∙ get_or-map f net.outputs k (record { name = []; net = record { 0 = 0 } }) false low

assumed-model : (net : Netlist) (assumed : Option ℕ) → InRange net assumed → (values : List Bool) → row_meets assumed (row_of (shown net values)) ≡ true
    → IsModel (value_in values) (assumed_clauses net.outputs assumed)
assumed-model net None low values meets = refl
assumed-model net (Some k) low values meets = one-true (value_in values (output_net net.outputs k)) (sym (true-shown net k low values) ∙ meets)

model-assumed : (net : Netlist) (assumed : Option ℕ) → InRange net assumed → (values : List Bool)
    → IsModel (value_in values) (assumed_clauses net.outputs assumed) → row_meets assumed (row_of (shown net values)) ≡ true
model-assumed net None low values model = refl
model-assumed net (Some k) low values model = true-shown net k low values ∙ true-one (value_in values (output_net net.outputs k)) model

-- ---- runs

trues-shown : (net : Netlist) (k : ℕ) → k < length net.outputs → (runs : List (List Bool))
    → map (is_true_at k) (rows_of net runs) ≡ map (λ values. value_in values (output_net net.outputs k)) runs
trues-shown net k low [] = refl
trues-shown net k low (v ∷ runs) =
    let one = true-shown net k low v in
    let others = trues-shown net k low runs in
    λ i. one i ∷ others i

all-models : (net : Netlist) (known : List (List Literal)) (assumed : Option ℕ) → InRange net assumed → (runs : List (List Bool))
    → list_all (row_meets assumed) (rows_of net runs) ≡ true → AllByRecursion (λ values. IsModel (value_in values) known) runs
    → AllByRecursion (λ values. IsModel (value_in values) (known ++ assumed_clauses net.outputs assumed)) runs
all-models net known assumed low [] meets models = tt
all-models net known assumed low (v ∷ runs) meets models =
    let parts = and_parts (row_meets assumed (row_of (shown net v))) (list_all (row_meets assumed) (rows_of net runs)) meets in (
      model-both (value_in v) known (assumed_clauses net.outputs assumed) models.0 (assumed-model net assumed low v parts.0),
      all-models net known assumed low runs parts.1 models.1,
    )

each-claimed : (net : Netlist) (claim : Claim) (k : ℕ) → k < length net.outputs → (runs : List (List Bool))
    → AllByRecursion (λ values. literal_value (value_in values) (bad_literal net.outputs claim k) ≡ false) runs
    → AllByRecursion (λ row. is_true_at k row ≡ claimed claim) (rows_of net runs)
each-claimed net claim k low [] never = tt
each-claimed net claim k low (v ∷ runs) never = (
  true-shown net k low v ∙ keeping claim (value_in v (output_net net.outputs k)) never.0,
  each-claimed net claim k low runs never.1,
)

all-met : (net : Netlist) (known : List (List Literal)) (assumed : Option ℕ) → InRange net assumed → (runs : List (List Bool))
    → list_all (are_met (known ++ assumed_clauses net.outputs assumed)) runs ≡ true → list_all (row_meets assumed) (rows_of net runs) ≡ true
all-met net known assumed low [] met = refl
all-met net known assumed low (v ∷ runs) met =
    let clauses = known ++ assumed_clauses net.outputs assumed in
    let parts = and_parts (are_met clauses v) (list_all (are_met clauses) runs) met in
    let model = model-parts (value_in v) known (assumed_clauses net.outputs assumed) parts.0 in
    and_from (row_meets assumed (row_of (shown net v))) (list_all (row_meets assumed) (rows_of net runs))
    (model-assumed net assumed low v model.1) (all-met net known assumed low runs parts.1)

last-broken : (claim : Claim) (n : ℕ) (b : Bool) (runs : List (List Bool))
    → last_or (broken_value claim b) (map (λ values. literal_value (value_in values) (signed n (not (claimed claim)))) runs) ≡ true
    → last_or b (map (λ values. value_in values n) runs) ≡ not (claimed claim)
last-broken claim n b [] e = breaking claim b e
last-broken claim n b (v ∷ runs) e = last-broken claim n (value_in v n) runs e

-- what it is that events reach a literal
pub reached-parts : (net : Netlist) (clauses : List (List Literal)) (bad : Literal) (events : List (List Bool)) → is_reached net clauses bad events ≡ true
    → (list_all (are_met clauses) (net_values_run net (items_of events)) ≡ true)
    × (last_or false (map (λ values. literal_value (value_in values) bad) (net_values_run net (items_of events))) ≡ true)
reached-parts net clauses bad events reached =
    let runs = net_values_run net (items_of events) in
    let wide = list_all (λ (event : List Bool). nat_eq (length event) (length net.inputs)) events in
    let met = list_all (are_met clauses) runs in
    let ends = last_or false (map (λ (values : List Bool). literal_value (value_in values) bad) runs) in
    and_parts met ends (and_parts wide (met && ends) reached).1

-- ---- answers

pub place-low : (net : Netlist) (name : List ℕ) (k : ℕ) → HasPlace (output_names net) name k → k < length net.outputs
place-low net name k has = subst (λ n. k < n) (length-map net.outputs (λ (o : NetOut). o.name)) has.low

pub assumed-low : (net : Netlist) (name : Option (List ℕ)) (k : Option ℕ) → HasPlaceIfAny (output_names net) name k → InRange net k
assumed-low net None None has = tt
assumed-low net None (Some k) has = absurd has
assumed-low net (Some name) None has = absurd has
assumed-low net (Some name) (Some k) has = place-low net name k has

pub device-holds : (relations : List Relation) (net : Netlist) (q : PlainQuestion) (place : ℕ) (assumed : Option ℕ) (clauses : List (List Literal))
    (bad : Literal) → RelatesInputs relations net → AsksDevice (net_device relations net) q place assumed
    → clauses ≡ allowed_clauses relations net.outputs assumed → bad ≡ bad_literal net.outputs q.claim place
    → IsNever net clauses bad → AnswersDeviceHolds (net_device relations net) q
device-holds relations net q place assumed clauses bad related asks are is never =
    let d = net_device relations net in
    let low = place-low net q.signal place asks.signal in
    let range = assumed-low net q.assumed assumed asks.assumes in
    let known = subst (λ (k : List (List Literal)). IsNever net k bad) are never in
    let shows = subst (IsNever net (allowed_clauses relations net.outputs assumed)) is known in
    record {
      place = place;
      assumed = assumed;
      asks = asks;
      holds = λ items fits. (
        net_rows net items,
        refl,
        λ meets.
            let runs = net_values_run net items in
            let allowed = allowed-events net relations (length net.inputs) related items (initial_latches net) fits in
            each-claimed net q.claim place low runs (shows items (wide-items d items fits)
            (all-models net (all_relation_clauses relations) assumed range runs meets allowed)),
      );
    }

pub device-broken : (layout : Layout) (relations : List Relation) (net : Netlist) (q : PlainQuestion) (place : ℕ) (assumed : Option ℕ)
    (events : List (List Bool)) (trace : List ℕ) → AsksDevice (net_device relations net) q place assumed
    → FitsDevice (net_device relations net) (items_of events)
    → is_reached net (allowed_clauses relations net.outputs assumed) (bad_literal net.outputs q.claim place) events ≡ true
    → IsTraceOver layout net.inputs relations events trace → AnswersDeviceBroken layout (net_device relations net) q trace
device-broken layout relations net q place assumed events trace asks fits reached is_trace =
    let low = place-low net q.signal place asks.signal in
    let range = assumed-low net q.assumed assumed asks.assumes in
    let runs = net_values_run net (items_of events) in
    let bad = bad_literal net.outputs q.claim place in
    let reaches = reached-parts net (allowed_clauses relations net.outputs assumed) bad events reached in
    let last = subst (λ b. last_or b (map (λ (values : List Bool). literal_value (value_in values) bad) runs) ≡ true) (sym (unbroken q.claim)) reaches.1 in
    record {
      place = place;
      assumed = assumed;
      asks = asks;
      events = events;
      broken = record {
        items_fit = fits;
        rows = net_rows net (items_of events);
        shows = refl;
        assumes = all-met net (all_relation_clauses relations) assumed range runs reaches.0;
        breaks = ap (last_or (claimed q.claim)) (trues-shown net place low runs)
            ∙ last-broken q.claim (output_net net.outputs place) (claimed q.claim) runs last;
      };
      is_trace = is_trace;
    }

-- What holds of a device holds of one that shows what it shows.
use Rattle.std.proofs.Common.{◌≡◌, ℕ, Bool, true, false, List, [], ◌∷◌, ◌++◌, map, Option, Some, None, length, refl, sym, ap, subst, ◌∙◌}
use Rattle.std.specs.Prelude.{All}
use Rattle.base_types.specs.Items.{Item}
use Rattle.base_types.proofs.Exports.{wide_events}
use Rattle.base_types.specs.Relations.{MeetsAll, Relation}
use Rattle.est_kernel.specs.WellFormed.{RelatesGiven}
use Rattle.net_ir.specs.NameLists.{is_among}
use Rattle.net_ir.specs.Netlists.{Netlist}
use Rattle.net_never.specs.Reached.{items_of}
use Rattle.net_opt.specs.Optimized.{Optimizes}
use Rattle.cec_prove_sources.specs.Surveys.{Presence, Never, Always, Found, about}
use Rattle.cec_prove_sources.specs.Verdicts.{HasPlace, HasPlaceIfAny, PlainQuestion}
use Rattle.cec_prove_sources.specs.declared.questions.Claim.{Claim}
use Rattle.cec_prove_sources.specs.declared.questions.Claim.TheVariants as claims
use Rattle.cec_prove_sources.specs.declared.questions.Comparison.{Comparison}
use Rattle.cec_prove_sources.specs.declared.questions.Comparison.TheVariants as comparisons
use Rattle.cec_prove_sources.specs.declared.questions.Layout.{Layout}
use Rattle.cec_prove_sources.specs.declared.questions.Layout.TheVariants.{LinePerInstant, OneLine}
use Rattle.cec_prove_sources.specs.declared.questions.Survey.{Survey}
use Rattle.cec_prove_sources.specs.declared.questions.Survey.TheVariants as surveys
use Rattle.cec_prove_sources.specs.declared.questions.Verdict.{Verdict}
use Rattle.cec_prove_sources.specs.declared.questions.Verdict.TheVariants as verdicts
use Rattle.cec_prove_sources.specs.DeviceClaims.{BreaksDevice, DeviceHolds}
use Rattle.cec_prove_sources.specs.Devices.{Device, FitsDevice, IsEventOver}
use Rattle.cec_prove_sources.specs.NetDevices.{RelatesInputs, Renders, net_device, row_of}
use Rattle.cec_prove_sources.specs.DeviceSameness.{AreDifferentDevices, AreSameDevices, IsDeviceComparison, SharesNames}
use Rattle.cec_prove_sources.specs.DeviceSurveys.{BreaksDeviceIfAny, IsDevicePresence, IsDeviceSurvey, IsDeviceSurveyText}
use Rattle.cec_prove_sources.specs.DeviceVerdicts.{AnswersDeviceBroken, AnswersDeviceHolds, AsksDevice, IsDeviceVerdict}
use Rattle.cec_prove_sources.specs.DeviceVerdicts.{IsNoOutput}
use Rattle.cec_prove_sources.specs.TraceTexts.{IsTraceOver}
use Rattle.cec_prove_sources.proofs.NetShows.{each-event, wide-items}
use Rattle.cec_prove_sources.proofs.SurveyLines.{AllZip-weaker}

-- items that fit one of two devices with as many inputs and the same relations fit the other one
pub fits-by : (d e : Device) → d.inputs ≡ e.inputs → d.relations ≡ e.relations → (items : List Item) → FitsDevice d items → FitsDevice e items
fits-by d e inputs relations items fits =
    each-event (IsEventOver (length d.inputs) d.relations) (IsEventOver (length e.inputs) e.relations)
    (λ event is. record { wide = is.wide ∙ ap length inputs; meets = subst (λ (rs : List Relation). MeetsAll rs event) relations is.meets }) items fits

-- an optimized netlist shows what the netlist shows
pub small-renders : (relations : List Relation) (old new : Netlist) → Optimizes old new → Renders (net_device relations new) (net_device relations old)
small-renders relations old new o =
    let kept = o.replaces.interface in
    record {
      inputs = kept.inputs;
      outputs = kept.outputs;
      relations = refl;
      shows = λ items rows fits is.
          let wide = wide-items (net_device relations new) items fits in
          is ∙ ap (map row_of) (o.replaces.followed.runs items (wide_events (length new.inputs) (length old.inputs) (ap length kept.inputs) items wide));
    }

-- the relations that a netlist's inputs have are over those of the optimized one
pub small-related : (relations : List Relation) (old new : Netlist) → Optimizes old new → RelatesInputs relations old → RelatesInputs relations new
small-related relations old new o related =
    subst (λ (names : List (List ℕ)). All (RelatesGiven (length names)) relations) (sym o.replaces.interface.inputs) related

module _ (d e : Device) (r : Renders d e) where
  back : (items : List Item) → FitsDevice e items → FitsDevice d items
  back items fits = fits-by e d (sym r.inputs) (sym r.relations) items fits

  -- ---- answers

  holds : (claim : Claim) (place : ℕ) (assumed : Option ℕ) → DeviceHolds d claim place assumed → DeviceHolds e claim place assumed
  holds claim place assumed h = λ items fits.
      let fit = back items fits in
      let found = h items fit in
      (found.0, r.shows items found.0 fit found.1, found.2)

  breaks : (claim : Claim) (place : ℕ) (assumed : Option ℕ) (events : List (List Bool)) → BreaksDevice d claim place assumed events
      → BreaksDevice e claim place assumed events
  breaks claim place assumed events b = record {
    items_fit = fits-by d e r.inputs r.relations (items_of events) b.items_fit;
    rows = b.rows;
    shows = r.shows (items_of events) b.rows b.items_fit b.shows;
    assumes = b.assumes;
    breaks = b.breaks;
  }

  pub trace-by : (layout : Layout) (events : List (List Bool)) (trace : List ℕ) → IsTraceOver layout d.inputs d.relations events trace
      → IsTraceOver layout e.inputs e.relations events trace
  trace-by layout events trace is =
      subst (λ (relations : List Relation). IsTraceOver layout e.inputs relations events trace) r.relations
      (subst (λ (names : List (List ℕ)). IsTraceOver layout names d.relations events trace) r.inputs is)

  asks : (q : PlainQuestion) (place : ℕ) (assumed : Option ℕ) → AsksDevice d q place assumed → AsksDevice e q place assumed
  asks q place assumed a = record {
    signal = subst (λ (names : List (List ℕ)). HasPlace names q.signal place) r.outputs a.signal;
    assumes = subst (λ (names : List (List ℕ)). HasPlaceIfAny names q.assumed assumed) r.outputs a.assumes;
  }

  answers-holds : (q : PlainQuestion) → AnswersDeviceHolds d q → AnswersDeviceHolds e q
  answers-holds q a = record {
    place = a.place;
    assumed = a.assumed;
    asks = asks q a.place a.assumed a.asks;
    holds = holds q.claim a.place a.assumed a.holds;
  }

  answers-broken : (layout : Layout) (q : PlainQuestion) (trace : List ℕ) → AnswersDeviceBroken layout d q trace → AnswersDeviceBroken layout e q trace
  answers-broken layout q trace a = record {
    place = a.place;
    assumed = a.assumed;
    asks = asks q a.place a.assumed a.asks;
    events = a.events;
    broken = breaks q.claim a.place a.assumed a.events a.broken;
    is_trace = trace-by layout a.events trace a.is_trace;
  }

  no-output : (name : Option (List ℕ)) → IsNoOutput d name → IsNoOutput e name
  no-output None none = none
  no-output (Some name) none = subst (λ (names : List (List ℕ)). is_among name names ≡ false) r.outputs none

  pub renders-verdict : (q : PlainQuestion) (verdict : Verdict) → IsDeviceVerdict d q verdict → IsDeviceVerdict e q verdict
  renders-verdict q verdicts.Holds says = answers-holds q says
  renders-verdict q (verdicts.Broken trace) says = answers-broken LinePerInstant q trace.items says
  renders-verdict q (verdicts.Open depth) says = record { place = says.place; assumed = says.assumed; asks = asks q says.place says.assumed says.asks }
  renders-verdict q verdicts.NoSignal says = subst (λ (names : List (List ℕ)). is_among q.signal names ≡ false) r.outputs says
  renders-verdict q verdicts.NoAssumed says = no-output q.assumed says

  -- ---- surveys

  breaks-if-any : (claim : Claim) (name : List ℕ) (assumed trace : Option (List ℕ)) → BreaksDeviceIfAny d claim name assumed trace
      → BreaksDeviceIfAny e claim name assumed trace
  breaks-if-any claim name assumed None says = says
  breaks-if-any claim name assumed (Some trace) says = answers-broken OneLine (about claim name assumed) trace says

  presence : (assumed : Option (List ℕ)) (name : List ℕ) (known : Presence) → IsDevicePresence d assumed name known → IsDevicePresence e assumed name known
  presence assumed name Never says = answers-holds (about claims.Never name assumed) says
  presence assumed name Always says = answers-holds (about claims.Always name assumed) says
  presence assumed name (Found present absent) says =
      (breaks-if-any claims.Never name assumed present says.0, breaks-if-any claims.Always name assumed absent says.1)

  survey-text : (assumed : Option (List ℕ)) (text : List ℕ) (whole : Bool) → IsDeviceSurveyText d assumed d.outputs text whole
      → IsDeviceSurveyText e assumed e.outputs text whole
  survey-text assumed text whole s =
      subst (λ (names : List (List ℕ)). IsDeviceSurveyText e assumed names text whole) r.outputs (record {
        presences = s.presences;
        known = AllZip-weaker (IsDevicePresence d assumed) (IsDevicePresence e assumed) (presence assumed) d.outputs s.presences s.known;
        written = s.written;
        each_known = s.each_known;
      })

  pub renders-survey : (assumed : Option (List ℕ)) (survey : Survey) → IsDeviceSurvey d assumed survey → IsDeviceSurvey e assumed survey
  renders-survey assumed (surveys.Whole text) says = survey-text assumed text.items true says
  renders-survey assumed (surveys.Partly text) says = survey-text assumed text.items false says
  renders-survey assumed surveys.NoAssumed says = no-output assumed says

-- ---- comparisons

module _ (d d' e e' : Device) (r : Renders d d') (s : Renders e e') where
  shares : SharesNames d e → SharesNames d' e'
  shares same = record {
    inputs = sym r.inputs ∙ same.inputs ∙ s.inputs;
    outputs = sym r.outputs ∙ same.outputs ∙ s.outputs;
    relations = sym r.relations ∙ same.relations ∙ s.relations;
  }

  are-same : AreSameDevices d e → AreSameDevices d' e'
  are-same same = record {
    names = shares same.names;
    rows = λ items fits.
        let fit = fits-by d' d (sym r.inputs) (sym r.relations) items fits in
        let found = same.rows items fit in
        (found.0, r.shows items found.0 fit found.1, s.shows items found.0 (fits-by d e same.names.inputs same.names.relations items fit) found.2);
  }

  are-different : (trace : List ℕ) → AreDifferentDevices d e trace → AreDifferentDevices d' e' trace
  are-different trace a =
      let items = items_of a.events in
      let t = a.difference in
      record {
        names = shares a.names;
        events = a.events;
        difference = record {
          items_fit = fits-by d d' r.inputs r.relations items t.items_fit;
          left = t.left;
          left_last = t.left_last;
          left_shows = r.shows items (t.left ++ t.left_last ∷ []) t.items_fit t.left_shows;
          right = t.right;
          right_last = t.right_last;
          right_shows = s.shows items (t.right ++ t.right_last ∷ []) (fits-by d e a.names.inputs a.names.relations items t.items_fit) t.right_shows;
          differ = t.differ;
        };
        is_trace = trace-by d d' r LinePerInstant a.events trace a.is_trace;
      }

  pub renders-comparison : (comparison : Comparison) → IsDeviceComparison d e comparison → IsDeviceComparison d' e' comparison
  renders-comparison comparisons.Same says = are-same says
  renders-comparison (comparisons.Different trace) says = are-different trace.items says
  renders-comparison (comparisons.Open depth) says = shares says
  renders-comparison comparisons.OtherGiven says = λ same. says (r.inputs ∙ same ∙ sym s.inputs)
  renders-comparison comparisons.OtherOutgoing says =
      (sym r.inputs ∙ says.0 ∙ s.inputs, λ same. says.1 (r.outputs ∙ same ∙ sym s.outputs))
  renders-comparison comparisons.OtherRelations says = λ same. says (r.relations ∙ same ∙ sym s.relations)

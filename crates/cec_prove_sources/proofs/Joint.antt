-- What a netlist that keeps what a program means shows of it, and the answers that it carries back to the program.
use Rattle.std.proofs.Common.{◌≡◌, ◌<◌, ◌≤◌, ℕ, Bool, true, false, not, ◌&&◌, List, [], ◌∷◌, length, map, get_or, refl, sym, ap, ◌∙◌}
use Rattle.std.proofs.Common.{subst, arith, Option, Some, None}
use Rattle.std.specs.Prelude.{All, IfOk, Result}
use Rattle.std.specs.List.{AllByRecursion, list_all}
use Rattle.std.proofs.lemmas.List.{get_or-map, length-take-le}
use Rattle.std.proofs.lemmas.Result.{IfOk-weaker}
use Rattle.base_types.specs.Items.{Item}
use Rattle.base_types.specs.Relations.{Relation}
use Rattle.est_kernel.specs.Plain.{Program, given_count, outgoing_names}
use Rattle.est_kernel.specs.Reactions.{Answer}
use Rattle.est_kernel.specs.WellFormed.{IsWellFormed, RelatesGiven}
use Rattle.net_ir.specs.declared.netlist.NetOut.{NetOut}
use Rattle.net_ir.specs.Gates.{value_in}
use Rattle.net_ir.specs.NameLists.{is_among}
use Rattle.net_ir.specs.Netlists.{Netlist, output_names}
use Rattle.net_ir.specs.Runs.{Shown, net_values_run, shown, values_from}
use Rattle.net_opt.specs.Optimized.{Optimizes}
use Rattle.sat_kernel.specs.Clauses.{IsModel}
use Rattle.net_never.specs.Never.{FitsInputs}
use Rattle.net_never.specs.Reached.{items_of, last_or}
use Rattle.cec_compile.specs.Meaning.{AreItems, IsEvent}
use Rattle.cec_compile.specs.NetMeaning.{NetKeeps, net_seen}
use Rattle.cec_prove_sources.specs.Claims.{ClaimHolds, IsBroken, claimed, is_present, meets_assumed}
use Rattle.cec_prove_sources.specs.DeviceClaims.{BreaksDevice, DeviceHolds, is_true_at, row_meets}
use Rattle.cec_prove_sources.specs.DeviceFindings.{IsDeviceFinding}
use Rattle.cec_prove_sources.specs.DeviceSurveys.{BreaksDeviceIfAny, IsDevicePresence, IsDeviceSurvey, IsDeviceSurveyText}
use Rattle.cec_prove_sources.specs.DeviceVerdicts.{AnswersDeviceBroken, AnswersDeviceHolds, AsksDevice, IsDeviceVerdict, IsNoOutput}
use Rattle.cec_prove_sources.specs.Devices.{Device, FitsDevice, IsEventOver}
use Rattle.cec_prove_sources.specs.Findings.{IsFinding}
use Rattle.cec_prove_sources.specs.NetClaims.{output_net}
use Rattle.cec_prove_sources.specs.NetDevices.{RelatesInputs, net_device, row_of}
use Rattle.cec_prove_sources.specs.RelationClauses.{all_relation_clauses}
use Rattle.cec_prove_sources.specs.Surveys.{BreaksIfAny, IsPresence, IsSurvey, IsSurveyText, Presence, Never, Always, Found, about}
use Rattle.cec_prove_sources.specs.TraceTexts.{IsTraceOver}
use Rattle.cec_prove_sources.specs.Verdicts.{AnswersBroken, AnswersHolds, AsksOf, HasPlace, HasPlaceIfAny, IsNone, IsVerdict, PlainQuestion}
use Rattle.cec_prove_sources.specs.declared.questions.Claim.{Claim}
use Rattle.cec_prove_sources.specs.declared.questions.Claim.TheVariants as claims
use Rattle.cec_prove_sources.specs.declared.questions.Finding.{Finding}
use Rattle.cec_prove_sources.specs.declared.questions.Finding.TheVariants as findings
use Rattle.cec_prove_sources.specs.declared.questions.Layout.{Layout}
use Rattle.cec_prove_sources.specs.declared.questions.Layout.TheVariants.{LinePerInstant, OneLine}
use Rattle.cec_prove_sources.specs.declared.questions.Survey.{Survey}
use Rattle.cec_prove_sources.specs.declared.questions.Survey.TheVariants as surveys
use Rattle.cec_prove_sources.specs.declared.questions.Verdict.{Verdict}
use Rattle.cec_prove_sources.specs.declared.questions.Verdict.TheVariants as verdicts
use Rattle.cec_prove_sources.proofs.NetShows.{InRange, allowed-events, assumed-low, each-event, place-low, rows_of, true-shown}
use Rattle.cec_prove_sources.proofs.SurveyLines.{AllZip-weaker}
use Rattle.cec_prove_sources.proofs.TextRuns.{texts-show}

-- what the program's relations allow is allowed in each instant
pub allowed : (net : Netlist) (p : Program) → All (RelatesGiven (given_count p)) p.relations → (items : List Item) (latches : List Bool) → AreItems p items
    → AllByRecursion (λ values. IsModel (value_in values) (all_relation_clauses p.relations)) (values_from net latches items)
allowed net p fits items latches are =
    allowed-events net p.relations (given_count p) fits items latches
    (each-event (IsEvent p) (IsEventOver (given_count p) p.relations) (λ event is. record { wide = is.wide; meets = is.meets }) items are)

pub inputs-count : (net : Netlist) (p : Program) → IsWellFormed p → NetKeeps net p → length net.inputs ≡ given_count p
inputs-count net p fits keeps =
    let count : given_count p ≤ length p.signals = let i = fits.interface in omega arith in
    ap length keeps.inputs ∙ length-take-le (given_count p) p.signals count

-- a netlist that replaces one that keeps what a program means does so too
pub replaced-keeps : (net new : Netlist) (p : Program) → IsWellFormed p → NetKeeps net p → Optimizes net new → NetKeeps new p
replaced-keeps net new p fits keeps o = record {
  name = o.replaces.interface.name ∙ keeps.name;
  inputs = o.replaces.interface.inputs ∙ keeps.inputs;
  outputs = o.replaces.interface.outputs ∙ keeps.outputs;
  runs = λ items are.
      let found = keeps.runs items are in
      let count = sym (inputs-count net p fits keeps) in
      (found.0, found.1, o.replaces.followed.runs items (each-event (IsEvent p) (FitsInputs net) (λ event is. is.wide ∙ count) items are) ∙ found.2);
}

-- ---- an answer and the row of its instant

present-shown : (net : Netlist) (k : ℕ) → k < length net.outputs → (values : List Bool) (a : Answer) → shown net values ≡ net_seen a
    → is_present k a ≡ value_in values (output_net net.outputs k)
present-shown net k low values a here =
    let outputs : map (λ (o : NetOut). value_in values o.net.0) net.outputs ≡ a.outputs = ap (λ (s : Shown). s.outputs) here in
    ap (λ l. get_or l k false) (sym outputs)
    ∙ get_or-map (λ (o : NetOut). value_in values o.net.0) net.outputs k (record { name = []; net = record { 0 = 0 } }) false low

-- an instant and an answer show whether an outgoing signal is present
row-present : (net : Netlist) (k : ℕ) → k < length net.outputs → (values : List Bool) (a : Answer) → shown net values ≡ net_seen a
    → is_true_at k (row_of (shown net values)) ≡ is_present k a
row-present net k low values a here = true-shown net k low values ∙ sym (present-shown net k low values a here)

row-assumed : (net : Netlist) (assumed : Option ℕ) → InRange net assumed → (values : List Bool) (a : Answer) → shown net values ≡ net_seen a
    → row_meets assumed (row_of (shown net values)) ≡ meets_assumed assumed a
row-assumed net None low values a here = refl
row-assumed net (Some k) low values a here = row-present net k low values a here

rows-present : (net : Netlist) (k : ℕ) → k < length net.outputs → (runs : List (List Bool)) (answers : List Answer)
    → map (shown net) runs ≡ map net_seen answers → map (is_true_at k) (rows_of net runs) ≡ map (is_present k) answers
rows-present net k low [] [] e = refl
rows-present net k low [] (a ∷ answers) e = cc
rows-present net k low (v ∷ runs) [] e = cc
rows-present net k low (v ∷ runs) (a ∷ answers) e =
    let here : shown net v ≡ net_seen a = cc in
    let rest : map (shown net) runs ≡ map net_seen answers = cc in
    let one = row-present net k low v a here in
    let others = rows-present net k low runs answers rest in
    λ i. one i ∷ others i

rows-assumed : (net : Netlist) (assumed : Option ℕ) → InRange net assumed → (runs : List (List Bool)) (answers : List Answer)
    → map (shown net) runs ≡ map net_seen answers → list_all (row_meets assumed) (rows_of net runs) ≡ list_all (meets_assumed assumed) answers
rows-assumed net assumed low [] [] e = refl
rows-assumed net assumed low [] (a ∷ answers) e = cc
rows-assumed net assumed low (v ∷ runs) [] e = cc
rows-assumed net assumed low (v ∷ runs) (a ∷ answers) e =
    let here : shown net v ≡ net_seen a = cc in
    let rest : map (shown net) runs ≡ map net_seen answers = cc in
    let one = row-assumed net assumed low v a here in
    let others = rows-assumed net assumed low runs answers rest in
    λ i. one i && others i

each-present : (net : Netlist) (k : ℕ) → k < length net.outputs → (b : Bool) (runs : List (List Bool)) (answers : List Answer)
    → map (shown net) runs ≡ map net_seen answers → AllByRecursion (λ row. is_true_at k row ≡ b) (rows_of net runs)
    → AllByRecursion (λ a. is_present k a ≡ b) answers
each-present net k low b runs [] e each = tt
each-present net k low b [] (a ∷ answers) e each = cc
each-present net k low b (v ∷ runs) (a ∷ answers) e each =
    let here : shown net v ≡ net_seen a = cc in
    let rest : map (shown net) runs ≡ map net_seen answers = cc in
    (sym (row-present net k low v a here) ∙ each.0, each-present net k low b runs answers rest each.1)

-- ---- answers about the netlist are answers about the program

related-inputs : (net : Netlist) (p : Program) → IsWellFormed p → NetKeeps net p → RelatesInputs p.relations net
related-inputs net p fits keeps = subst (λ n. All (RelatesGiven n) p.relations) (sym (inputs-count net p fits keeps)) fits.relations

-- what is answered about a netlist with these relations, which are the program's
pub of-program : {V E : Type 0} (P : Device → V → Type 0) (Q : V → Type 0) (net : Netlist) (relations own : List Relation) (r : Result V E) → relations ≡ own
    → ((v : V) → P (net_device own net) v → Q v) → IfOk r (P (net_device relations net)) → IfOk r Q
of-program P Q net relations own r same carry says =
    IfOk-weaker r (P (net_device own net)) Q carry (subst (λ (rs : List Relation). IfOk r (P (net_device rs net))) same says)

pub related-as : (net : Netlist) (p : Program) (relations : List Relation) → relations ≡ p.relations → IsWellFormed p → NetKeeps net p
    → RelatesInputs relations net
related-as net p relations same fits keeps = subst (λ (rs : List Relation). RelatesInputs rs net) (sym same) (related-inputs net p fits keeps)

pub asks-device : (net : Netlist) (p : Program) (relations : List Relation) (q : PlainQuestion) (place : ℕ) (assumed : Option ℕ) → NetKeeps net p
    → AsksOf p q place assumed → AsksDevice (net_device relations net) q place assumed
asks-device net p relations q place assumed keeps a = record {
  signal = subst (λ (names : List (List ℕ)). HasPlace names q.signal place) (sym keeps.outputs) a.signal;
  assumes = subst (λ (names : List (List ℕ)). HasPlaceIfAny names q.assumed assumed) (sym keeps.outputs) a.assumes;
}

module _ (net : Netlist) (p : Program) (fits : IsWellFormed p) (keeps : NetKeeps net p) where
  pub program-fits : (items : List Item) → AreItems p items → FitsDevice (net_device p.relations net) items
  program-fits items are =
      each-event (IsEvent p) (IsEventOver (length net.inputs) p.relations)
      (λ event is. record { wide = is.wide ∙ sym (inputs-count net p fits keeps); meets = is.meets }) items are

  pub fits-program : (items : List Item) → FitsDevice (net_device p.relations net) items → AreItems p items
  fits-program items are =
      each-event (IsEventOver (length net.inputs) p.relations) (IsEvent p)
      (λ event is. record { wide = is.wide ∙ inputs-count net p fits keeps; meets = is.meets }) items are

  asks-of : (q : PlainQuestion) (place : ℕ) (assumed : Option ℕ) → AsksDevice (net_device p.relations net) q place assumed → AsksOf p q place assumed
  asks-of q place assumed a = record {
    signal = subst (λ (names : List (List ℕ)). HasPlace names q.signal place) keeps.outputs a.signal;
    assumes = subst (λ (names : List (List ℕ)). HasPlaceIfAny names q.assumed assumed) keeps.outputs a.assumes;
  }

  claim-holds : (claim : Claim) (place : ℕ) (assumed : Option ℕ) → place < length net.outputs → InRange net assumed
      → DeviceHolds (net_device p.relations net) claim place assumed → ClaimHolds p claim place assumed
  claim-holds claim place assumed low range holds = λ items are.
      let r = keeps.runs items are in
      let h = holds items (program-fits items are) in
      let runs = net_values_run net items in (
        r.0,
        r.1,
        λ meets.
            let rows = subst (λ rows. list_all (row_meets assumed) rows ≡ true) (sym h.1) (rows-assumed net assumed range runs r.0 r.2 ∙ meets) in
            each-present net place low (claimed claim) runs r.0 r.2 (subst (AllByRecursion (λ row. is_true_at place row ≡ claimed claim)) h.1 (h.2 rows)),
      )

  claim-broken : (claim : Claim) (place : ℕ) (assumed : Option ℕ) (events : List (List Bool)) → place < length net.outputs → InRange net assumed
      → BreaksDevice (net_device p.relations net) claim place assumed events → IsBroken p claim place assumed events
  claim-broken claim place assumed events low range b =
      let items = items_of events in
      let are = fits-program items b.items_fit in
      let r = keeps.runs items are in
      let runs = net_values_run net items in
      record {
        items_fit = are;
        answers = r.0;
        runs = r.1;
        assumes = sym (rows-assumed net assumed range runs r.0 r.2) ∙ subst (λ rows. list_all (row_meets assumed) rows ≡ true) b.shows b.assumes;
        breaks = ap (last_or (claimed claim)) (sym (rows-present net place low runs r.0 r.2))
            ∙ subst (λ rows. last_or (claimed claim) (map (is_true_at place) rows) ≡ not (claimed claim)) b.shows b.breaks;
      }

  answers-holds : (q : PlainQuestion) → AnswersDeviceHolds (net_device p.relations net) q → AnswersHolds p q
  answers-holds q a =
      let low = place-low net q.signal a.place a.asks.signal in
      let range = assumed-low net q.assumed a.assumed a.asks.assumes in
      let holds = claim-holds q.claim a.place a.assumed low range a.holds in
      record {
        place = a.place;
        assumed = a.assumed;
        asks = asks-of q a.place a.assumed a.asks;
        holds = holds;
        texts = texts-show p q.claim a.place a.assumed holds;
      }

  answers-broken : (layout : Layout) (q : PlainQuestion) (trace : List ℕ) → AnswersDeviceBroken layout (net_device p.relations net) q trace
      → AnswersBroken layout p q trace
  answers-broken layout q trace a =
      let low = place-low net q.signal a.place a.asks.signal in
      let range = assumed-low net q.assumed a.assumed a.asks.assumes in
      record {
        place = a.place;
        assumed = a.assumed;
        asks = asks-of q a.place a.assumed a.asks;
        events = a.events;
        broken = claim-broken q.claim a.place a.assumed a.events low range a.broken;
        is_trace = subst (λ (names : List (List ℕ)). IsTraceOver layout names p.relations a.events trace) keeps.inputs a.is_trace;
      }

  no-output : (name : Option (List ℕ)) → IsNoOutput (net_device p.relations net) name → IsNone p name
  no-output None none = none
  no-output (Some name) none = subst (λ (names : List (List ℕ)). is_among name names ≡ false) keeps.outputs none

  pub program-finding : (layout : Layout) (q : PlainQuestion) (finding : Finding) → IsDeviceFinding layout (net_device p.relations net) q finding
      → IsFinding layout p q finding
  program-finding layout q findings.Holds says = answers-holds q says
  program-finding layout q (findings.Broken trace) says = answers-broken layout q trace.items says
  program-finding layout q (findings.Open depth) says =
      record { place = says.place; assumed = says.assumed; asks = asks-of q says.place says.assumed says.asks }

  pub program-verdict : (q : PlainQuestion) (verdict : Verdict) → IsDeviceVerdict (net_device p.relations net) q verdict → IsVerdict p q verdict
  program-verdict q verdicts.Holds says = answers-holds q says
  program-verdict q (verdicts.Broken trace) says = answers-broken LinePerInstant q trace.items says
  program-verdict q (verdicts.Open depth) says =
      record { place = says.place; assumed = says.assumed; asks = asks-of q says.place says.assumed says.asks }
  program-verdict q verdicts.NoSignal says = subst (λ (names : List (List ℕ)). is_among q.signal names ≡ false) keeps.outputs says
  program-verdict q verdicts.NoAssumed says = no-output q.assumed says

  -- ---- surveys

  breaks-if-any : (claim : Claim) (name : List ℕ) (assumed trace : Option (List ℕ))
      → BreaksDeviceIfAny (net_device p.relations net) claim name assumed trace → BreaksIfAny p claim name assumed trace
  breaks-if-any claim name assumed None says = says
  breaks-if-any claim name assumed (Some trace) says = answers-broken OneLine (about claim name assumed) trace says

  presence : (assumed : Option (List ℕ)) (name : List ℕ) (known : Presence) → IsDevicePresence (net_device p.relations net) assumed name known
      → IsPresence p assumed name known
  presence assumed name Never says = answers-holds (about claims.Never name assumed) says
  presence assumed name Always says = answers-holds (about claims.Always name assumed) says
  presence assumed name (Found present absent) says =
      (breaks-if-any claims.Never name assumed present says.0, breaks-if-any claims.Always name assumed absent says.1)

  survey-text : (assumed : Option (List ℕ)) (text : List ℕ) (whole : Bool)
      → IsDeviceSurveyText (net_device p.relations net) assumed (output_names net) text whole → IsSurveyText p assumed (outgoing_names p) text whole
  survey-text assumed text whole s =
      subst (λ (names : List (List ℕ)). IsSurveyText p assumed names text whole) keeps.outputs (record {
        presences = s.presences;
        known = AllZip-weaker (IsDevicePresence (net_device p.relations net) assumed) (IsPresence p assumed) (presence assumed) (output_names net) s.presences
            s.known;
        written = s.written;
        each_known = s.each_known;
      })

  pub program-survey : (assumed : Option (List ℕ)) (survey : Survey) → IsDeviceSurvey (net_device p.relations net) assumed survey → IsSurvey p assumed survey
  program-survey assumed (surveys.Whole text) says = survey-text assumed text.items true says
  program-survey assumed (surveys.Partly text) says = survey-text assumed text.items false says
  program-survey assumed surveys.NoAssumed says = no-output assumed says

-- The text of a net that can be embedded means the net.
use Rattle.std.proofs.Common.{◌≡◌, ℕ, ◌+◌, Bool, true, false, List, [], ◌∷◌, ◌++◌, length, map, get_or, refl, sym, ap, ap₂, ◌∙◌, subst, arith}
use Rattle.std.proofs.Common.{Option, Some, None, ⊎_elim}
use Rattle.std.specs.Prelude.{filter, nat_eq, if◌then◌else◌}
use Rattle.std.proofs.lemmas.Bool.{cases_Bool, eqb-true}
use Rattle.std.proofs.lemmas.List.{length-map, get_or-map, ext_get_or}
use Rattle.base_types.specs.Distinct.{all_differ}
use Rattle.base_types.specs.Names.{is_same_name}
use Rattle.base_facts.proofs.Lists.{map-composed}
use Rattle.base_types.specs.Items.{Item, Event, Reset, EachEvent}
use Rattle.net_ir.specs.declared.netlist.Latch.{Latch}
use Rattle.net_ir.specs.declared.netlist.NetOut.{NetOut}
use Rattle.net_ir.specs.Gates.{value_in}
use Rattle.net_ir.specs.Netlists.{Netlist, output_names}
use Rattle.net_ir.specs.Runs.{shown, net_values, net_values_run, next_latches, initial_latches, values_from}
use Rattle.net_ir.specs.Writing.{IsWritable}
use Rattle.net_ir.proofs.Exports.{get_or-numbered, length-next, length-numbered, map-numbered}
use Rattle.net_expressions.proofs.Exports.{any_latch, any_output}
use Rattle.csub_text.specs.Machine.{Memory}
use Rattle.csub_text.specs.Written.{shown_by_call}
use Rattle.csub_embed.specs.Faults.{IsEmbeddable}
use Rattle.csub_embed.specs.Machine.{Frame, Call, InstanceStates, SeenCall, SeenOf, react, reset, seen, with_instance, left_state, seen_after, run_calls}
use Rattle.csub_embed.specs.Machine.{own_seen, own_items}
use Rattle.csub_embed.specs.Machine.{BeginsReset, with_given}
use Rattle.csub_embed.specs.Texts.{AreEmbedFiles, IsEmbedFile}
use Rattle.csub_embed.specs.Trees.{StateVariable, Component, name_of_state}
use Rattle.csub_embed.specs.Written.{net_state, net_component, body_text, files_beside, files_with, written, Means}
use Rattle.csub_embed.specs.declared.layout.EmbedFile.{EmbedFile}
use Rattle.csub_embed.specs.declared.layout.EmbedFile.TheVariants.{Header, Declarations, Definitions}
use Rattle.csub_embed.specs.declared.layout.EmbedLayout.{EmbedLayout}
use Rattle.csub_embed.proofs.Frames.{reset-set}
use Rattle.csub_embed.proofs.NetCalls.{Keeps, Leaves, call-leaves}
use Rattle.csub_embed.proofs.NetNames.{differ-states}
use Rattle.csub_embed.proofs.NetSound.{sound-net, spelled-net}
use Rattle.csub_embed.proofs.Spelling.{kinds-component}

-- ---- one call

frame : Netlist → List Bool → Memory → Frame → Frame
frame net inputs state around =
    record { state = state; given = with_given net.inputs inputs around.given; shown = around.shown; local = around.local }

react-leaves : (net : Netlist) → IsWritable net → (latches inputs : List Bool) (state : Memory) (around : Frame) → length latches ≡ length net.latches
    → length inputs ≡ length net.inputs → Keeps net state latches
    → Leaves net (net_values net latches inputs) (react (net_component net) inputs state around)
unfolding frame
react-leaves net is latches inputs state around wide_l wide_i keeps =
    call-leaves net is latches inputs (frame net inputs state around) around.given wide_l wide_i keeps refl

seen-net : (net : Netlist) (values : List Bool) (f : Frame) → Leaves net values f → seen (net_component net) f ≡ shown_by_call (shown net values)
seen-net net values f leaves =
    let a = length-map (output_names net) f.shown in
    let b = length-map net.outputs (λ (o : NetOut). o.name) in
    let c = length-map net.outputs (λ (o : NetOut). value_in values o.net.0) in
    let outputs : map f.shown (output_names net) ≡ map (λ o. value_in values o.net.0) net.outputs =
    ext_get_or false (map f.shown (output_names net)) (map (λ o. value_in values o.net.0) net.outputs) (omega arith)
    (λ k h.
    get_or-map f.shown (output_names net) k [] false (omega arith)
    ∙ ap f.shown (get_or-map (λ (o : NetOut). o.name) net.outputs k any_output [] (omega arith)) ∙ leaves.outputs k (omega arith)
    ∙ sym (get_or-map (λ (o : NetOut). value_in values o.net.0) net.outputs k any_output false (omega arith))) in
    ap₂ (λ o x. record { outputs = o; answer = x }) outputs leaves.answer

kept-next : (net : Netlist) (values : List Bool) (f : Frame) → Leaves net values f → Keeps net f.state (next_latches net values)
kept-next net values f leaves j h =
    leaves.states j h ∙ sym (get_or-map (λ (l : Latch). value_in values l.from.0) net.latches j any_latch false h)

kept-reset : (net : Netlist) → IsWritable net → (state : Memory) → Keeps net (reset (net_component net).states state) (initial_latches net)
kept-reset net is state j h =
    let z : 0 + j ≡ j = omega arith in
    let d : StateVariable = record { name = []; init = false } in
    let n = length-numbered net_state 0 net.latches in
    let latch = get_or net.latches j any_latch in
    let at : get_or (net_component net).states j d ≡ net_state j latch = get_or-numbered net_state 0 net.latches j d any_latch h
    ∙ ap (λ k. net_state k latch) z in
    ap (λ (s : StateVariable). reset (net_component net).states state s.name) (sym at)
    ∙ reset-set (net_component net).states state (ap (all_differ is_same_name) (map-numbered name_of_state net_state 0 net.latches) ∙ differ-states net is) j d
    (omega arith)
    ∙ ap (λ (s : StateVariable). s.init) at ∙ sym (get_or-map (λ (l : Latch). l.init) net.latches j any_latch false h)

-- ---- calls on one instance, among others

-- what an instance is known to hold: the values of the latches, or nothing before its first reset
abbrev Knows : Netlist → Memory → Option (List Bool) → List Item → Type 0
Knows net state None items = BeginsReset items
Knows net state (Some latches) items = Keeps net state latches × (length latches ≡ length net.latches)

-- what the net shows
abbrev shown_from : Netlist → Option (List Bool) → List Item → List (List Bool)
shown_from net None items = net_values_run net items
shown_from net (Some latches) items = values_from net latches items

tagged-apart : (j k : ℕ) (xs : List SeenCall) (rest : List SeenOf) → nat_eq j k ≡ false
    → own_seen k (map (λ s. record { instance = j; seen = s }) xs ++ rest) ≡ own_seen k rest
tagged-apart j k [] rest other = refl
tagged-apart j k (x ∷ xs) rest other =
    ap (λ b. map (λ (s : SeenOf). s.seen) (if b then record { instance = j; seen = x } ∷ filter (λ (s : SeenOf). nat_eq s.instance k)
    (map (λ s. record { instance = j; seen = s }) xs ++ rest)
    else filter (λ (s : SeenOf). nat_eq s.instance k) (map (λ s. record { instance = j; seen = s }) xs ++ rest))) other
    ∙ tagged-apart j k xs rest other

tagged-own : (j k : ℕ) (xs : List SeenCall) (rest : List SeenOf) → nat_eq j k ≡ true
    → own_seen k (map (λ s. record { instance = j; seen = s }) xs ++ rest) ≡ xs ++ own_seen k rest
tagged-own j k [] rest same = refl
tagged-own j k (x ∷ xs) rest same =
    ap (λ b. map (λ (s : SeenOf). s.seen) (if b then record { instance = j; seen = x } ∷ filter (λ (s : SeenOf). nat_eq s.instance k)
    (map (λ s. record { instance = j; seen = s }) xs ++ rest)
    else filter (λ (s : SeenOf). nat_eq s.instance k) (map (λ s. record { instance = j; seen = s }) xs ++ rest))) same
    ∙ ap (λ l. x ∷ l) (tagged-own j k xs rest same)

-- the items of the calls from a call on
items-apart : (k : ℕ) (x : Call) (calls : List Call) → nat_eq x.instance k ≡ false → own_items k (x ∷ calls) ≡ own_items k calls
items-apart k x calls other =
    ap (λ b. map (λ (y : Call). y.item) (if b then x ∷ filter (λ (y : Call). nat_eq y.instance k) calls
    else filter (λ (y : Call). nat_eq y.instance k) calls)) other

items-own : (k : ℕ) (x : Call) (calls : List Call) → nat_eq x.instance k ≡ true → own_items k (x ∷ calls) ≡ x.item ∷ own_items k calls
items-own k x calls same =
    ap (λ b. map (λ (y : Call). y.item) (if b then x ∷ filter (λ (y : Call). nat_eq y.instance k) calls
    else filter (λ (y : Call). nat_eq y.instance k) calls)) same

module _ (net : Netlist) (is : IsWritable net) (k : ℕ) where
  abbrev c : Component
  c = net_component net

  abbrev Fits : List Bool → Type 0
  Fits inputs = length inputs ≡ length net.inputs

  abbrev Told : List Call → Type 0
  Told calls = (instances : InstanceStates) (known : Option (List Bool)) → Knows net (instances k) known (own_items k calls)
      → EachEvent Fits (own_items k calls)
      → own_seen k (run_calls c instances calls) ≡ map (λ v. shown_by_call (shown net v)) (shown_from net known (own_items k calls))

  -- an own call
  own : (x : Call) (calls : List Call) → nat_eq x.instance k ≡ true → x.instance ≡ k → Told calls → (instances : InstanceStates) (known : Option (List Bool))
      → Knows net (instances k) known (x.item ∷ own_items k calls) → EachEvent Fits (x.item ∷ own_items k calls)
      → seen_after c x.item x.around (instances x.instance)
      ++ own_seen k (run_calls c (with_instance x.instance (left_state c x.item x.around (instances x.instance)) instances) calls)
      ≡ map (λ v. shown_by_call (shown net v)) (shown_from net known (x.item ∷ own_items k calls))
  own x calls same at later instances known knows fits = go x.item known knows fits
    where
      here : (s : Memory) → with_instance x.instance s instances k ≡ s
      here s = ap (λ b. if b then s else instances k) same

      go : (item : Item) (known : Option (List Bool)) → Knows net (instances k) known (item ∷ own_items k calls) → EachEvent Fits (item ∷ own_items k calls)
          → seen_after c item x.around (instances x.instance) ++ own_seen k (run_calls c (with_instance x.instance (left_state c item x.around
          (instances x.instance)) instances) calls)
          ≡ map (λ v. shown_by_call (shown net v)) (shown_from net known (item ∷ own_items k calls))
      go (Event inputs) None knows fits = absurd knows
      go (Event inputs) (Some latches) knows fits =
          let values = net_values net latches inputs in
          let keeps : Keeps net (instances x.instance) latches = subst (λ i. Keeps net (instances i) latches) (sym at) knows.0 in
          let behind = react c inputs (instances x.instance) x.around in
          let leaves = react-leaves net is latches inputs (instances x.instance) x.around knows.1 fits.0 keeps in
          let rest = later (with_instance x.instance behind.state instances) (Some (next_latches net values))
          (subst (λ m. Keeps net m (next_latches net values)) (sym (here behind.state)) (kept-next net values behind leaves), length-next net values) fits.1 in
          ap₂ (λ s l. s ∷ l) (seen-net net values behind leaves) rest
      go Reset known knows fits =
          let wide = length-map net.latches (λ (l : Latch). l.init) in
          let rest = later (with_instance x.instance (reset c.states (instances x.instance)) instances) (Some (initial_latches net)) (
            subst (λ m. Keeps net m (initial_latches net)) (sym (here (reset c.states (instances x.instance)))) (kept-reset net is
                (instances x.instance)),
            wide,
          ) fits in
          rest ∙ from-reset known
        where
          from-reset : (known : Option (List Bool)) → map (λ v. shown_by_call (shown net v)) (values_from net (initial_latches net) (own_items k calls))
              ≡ map (λ v. shown_by_call (shown net v)) (shown_from net known (Reset ∷ own_items k calls))
          from-reset None = refl
          from-reset (Some latches) = refl

  calls-shown : (calls : List Call) → Told calls
  calls-shown [] instances None knows fits = refl
  calls-shown [] instances (Some latches) knows fits = refl
  calls-shown (x ∷ calls) instances known knows fits =
      let state = instances x.instance in
      let rest = run_calls c (with_instance x.instance (left_state c x.item x.around state) instances) calls in
      let P : List Item → Type 0 = λ items. Knows net (instances k) known items in
      let Q : List Item → Type 0 = EachEvent Fits in
      ⊎_elim
      (λ same.
      let items = items-own k x calls same in
      tagged-own x.instance k (seen_after c x.item x.around state) rest same
      ∙ own x calls same (eqb-true x.instance k same) (calls-shown calls) instances known (subst P items knows) (subst Q items fits)
      ∙ ap (λ l. map (λ v. shown_by_call (shown net v)) (shown_from net known l)) (sym items))
      (λ other.
      let items = items-apart k x calls other in
      let stays : with_instance x.instance (left_state c x.item x.around state) instances k ≡ instances k =
      ap (λ b. if b then left_state c x.item x.around state else instances k) other in
      tagged-apart x.instance k (seen_after c x.item x.around state) rest other
      ∙ calls-shown calls (with_instance x.instance (left_state c x.item x.around state) instances) known
      (subst (λ m. Knows net m known (own_items k calls)) (sym stays) (subst P items knows)) (subst Q items fits)
      ∙ ap (λ l. map (λ v. shown_by_call (shown net v)) (shown_from net known l)) (sym items))
      (cases_Bool (nat_eq x.instance k))

-- ---- the files

file-net : (layout : EmbedLayout) (net : Netlist) → IsWritable net → IsEmbeddable net → IsEmbedFile layout (written layout net) (net_component net)
file-net layout net is fits = record {
  body = body_text layout (net_component net);
  framed = refl;
  tokens = kinds-component layout (net_component net) (spelled-net net is fits);
}

files-net : (file : EmbedFile) (packed : Bool) (net : Netlist) → IsWritable net → IsEmbeddable net
    → AreEmbedFiles packed (files_beside file packed (written (record { packed = packed; file = file }) net) net) (net_component net)
files-net Header packed net is fits = file-net (record { packed = packed; file = Header }) net is fits
files-net Declarations packed net is fits =
    (file-net (record { packed = packed; file = Declarations }) net is fits, file-net (record { packed = packed; file = Definitions }) net is fits)
files-net Definitions packed net is fits =
    (file-net (record { packed = packed; file = Declarations }) net is fits, file-net (record { packed = packed; file = Definitions }) net is fits)

pub Means-written : (layout : EmbedLayout) (net : Netlist) → IsWritable net → IsEmbeddable net
    → Means layout.packed (files_with layout (written layout net) net) net
Means-written layout net is fits = record {
  component = net_component net;
  describes = record { files_are = files-net layout.file layout.packed net is fits; sound = sound-net net is fits };
  name = refl;
  inputs = refl;
  outputs = refl;
  states = refl;
  shows = λ instances calls k begins widths.
      calls-shown net is k calls instances None begins widths ∙ map-composed shown_by_call (shown net) (net_values_run net (own_items k calls));
}

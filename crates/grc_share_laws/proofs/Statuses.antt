-- In a solution of a program's graph: whether a member of a status wire is true is what its shared equation gives.
use Rattle.std.proofs.Common.{◌≡◌, ℕ, ◌<◌, Bool, true, false, ◌||◌, ◌==◌, cond, List, [], ◌∷◌, ◌++◌, length, get_or, zero, suc}
use Rattle.std.proofs.Common.{Option, Some, None, refl, sym, ap, ◌∙◌, subst}
use Rattle.std.proofs.Common.{⊎_elim, arith}
use Rattle.std.specs.Prelude.{Contains, filter, nat_lt, option_map}
use Rattle.std.specs.List.{list_any}
use Rattle.std.proofs.lemmas.Bool.{and_from, and_parts, eq-eqb, false≢true, or_cases, or_left, or_right}
use Rattle.std.proofs.lemmas.List.Elements.{Contains-append_right}
use Rattle.std.proofs.lemmas.Option.{none-some}
use Rattle.base_facts.proofs.Lists.{contains-map}
use Rattle.est_kernel.specs.Plain.{Program, given_count, interface_of, outgoing_count}
use Rattle.est_kernel.specs.Preorder.{statement_count}
use Rattle.est_kernel.specs.Terms.{Term, Nothing, Pause, Emit, Exit, Present, Suspend, Seq, Loop, Par, Trap, Local, Awake}
use Rattle.grc_graph.specs.Equations.{emissions, is_wire, output_equation}
use Rattle.grc_graph.specs.Equations as given
use Rattle.grc_graph.specs.Formulas.{Formula, Input, Value, any_of}
use Rattle.grc_graph.specs.GraphRuns.{PlainGraph, formula_value, graph_of, program_spots, program_wires}
use Rattle.grc_graph.specs.Instances.{body_instances}
use Rattle.grc_graph.specs.Layers.{Layer, Resumed, Started, Liveness, layer_above, same_layer}
use Rattle.grc_graph.specs.Nodes.{node_at, spot_node}
use Rattle.grc_graph.specs.Readings.{Valuation}
use Rattle.grc_graph.specs.Rows.{live_in, program_rows, row_at, spot_at}
use Rattle.grc_graph.specs.Scopes.{Scope, Binding, Entering, Outgoing, BoundAt, Unbound}
use Rattle.grc_graph.specs.Spots.{Spot}
use Rattle.grc_graph.specs.Walk.{State}
use Rattle.grc_graph.specs.Wires.{Wire, Out, Go, StatusOf, same_wire, status_wire}
use Rattle.grc_graph.proofs.Exports.{IsStatus, LiveAt, in_layers, live_instance, live_of, out_only, program_placed, program_spots_by_row, same_layer-self}
use Rattle.grc_graph.proofs.Exports.{same_wire-self, same_wire-true, wire_only}
use Rattle.grc_share.specs.SharedGraphs.{emits_on, emitted_on, go_value, is_least, shared_emissions}
use Rattle.grc_share.specs.SharedInstances.{Sharing, body_sharing, key, one_instance, one_status}
use Rattle.grc_share.specs.SharedWires.{first_root, one_wire, shared_layer, shared_wire}
use Rattle.grc_share.proofs.Exports.{IsLive, named-one_wire, one_wire-named, wires_live, first_among, first_key, one_instance-named, program_gives}
use Rattle.grc_solutions.proofs.Exports.{range_has}
use Rattle.grc_share_laws.specs.SharedReactions.{some_member}
use Rattle.grc_share_laws.proofs.Around.{above-key}
use Rattle.grc_share_laws.proofs.Equated.{met, out-there-equation, spot-there, status-there}
use Rattle.grc_share_laws.proofs.Exclusion.{Runs}
use Rattle.base_facts.proofs.Tests.{same-tests}
use Rattle.grc_share_laws.proofs.Lists.{any-from, any-append, any-some, filter-has, filter-some, of-mapped}
use Rattle.grc_share_laws.proofs.MemberValues.{go-some, member-from, one-instance-back, out-alone, status-some}
use Rattle.grc_share_laws.proofs.Outputs.{scope-out}
use Rattle.grc_share_laws.proofs.Settled.{Solution, binds, is-live, is-there, mfrom-go}

-- ---- the or of a list

module _ (g : PlainGraph) (q : State) (event : List Bool) (U : Valuation) where
  pub any-worth : (fs : List Formula) → formula_value g q event U (any_of fs) ≡ list_any (λ a. formula_value g q event U a) fs
  any-worth [] = refl
  any-worth (a ∷ []) = or-false (formula_value g q event U a)
    where
      or-false : (b : Bool) → b ≡ (b || false)
      or-false true = refl
      or-false false = refl
  any-worth (a ∷ (b ∷ fs)) = ap (λ y. formula_value g q event U a || y) (any-worth (b ∷ fs))

-- ---- emissions

-- what emits on a wire is what the node names
emits-same : (w : Wire) (t : Term) (B : Scope) (n : ℕ) (l : Layer) → given.emits_on w t B l ≡ is_wire (emitted_on (node_at B t n l)) w
emits-same w Nothing B n l = refl
emits-same w Pause B n Resumed = refl
emits-same w Pause B n (Started r) = refl
emits-same w (Emit s) B n l = refl
emits-same w (Exit k) B n l = refl
emits-same w (Present e p q) B n Resumed = refl
emits-same w (Present e p q) B n (Started r) = refl
emits-same w (Suspend e p) B n Resumed = refl
emits-same w (Suspend e p) B n (Started r) = refl
emits-same w (Seq p q) B n Resumed = refl
emits-same w (Seq p q) B n (Started r) = refl
emits-same w (Loop at p) B n l = refl
emits-same w (Par p q) B n Resumed = refl
emits-same w (Par p q) B n (Started r) = refl
emits-same w (Trap p) B n l = refl
emits-same w (Local s p) B n l = refl
emits-same w (Awake e p) B n l = refl

-- what emits is an Emit, in each of its layers
record EmitsAs (B : Scope) (t : Term) (v : Wire) (l : Layer) : Type 0 where
  pub signal : ℕ
  pub wire : status_wire (B signal) signal l ≡ Some v
  pub each : (n : ℕ) (j : Layer) → emitted_on (node_at B t n j) ≡ status_wire (B signal) signal j

emits-as : (B : Scope) (t : Term) (n : ℕ) (l : Layer) (v : Wire) → emitted_on (node_at B t n l) ≡ Some v → EmitsAs B t v l
emits-as B Nothing n l v e = absurd (none-some v e)
emits-as B Pause n Resumed v e = absurd (none-some v e)
emits-as B Pause n (Started r) v e = absurd (none-some v e)
emits-as B (Emit s) n l v e = record { signal = s; wire = e; each = λ m j. refl }
emits-as B (Exit k) n l v e = absurd (none-some v e)
emits-as B (Present t p q) n Resumed v e = absurd (none-some v e)
emits-as B (Present t p q) n (Started r) v e = absurd (none-some v e)
emits-as B (Suspend t p) n Resumed v e = absurd (none-some v e)
emits-as B (Suspend t p) n (Started r) v e = absurd (none-some v e)
emits-as B (Seq p q) n Resumed v e = absurd (none-some v e)
emits-as B (Seq p q) n (Started r) v e = absurd (none-some v e)
emits-as B (Loop at p) n l v e = absurd (none-some v e)
emits-as B (Par p q) n Resumed v e = absurd (none-some v e)
emits-as B (Par p q) n (Started r) v e = absurd (none-some v e)
emits-as B (Trap p) n l v e = absurd (none-some v e)
emits-as B (Local s p) n l v e = absurd (none-some v e)
emits-as B (Awake t p) n l v e = absurd (none-some v e)

module _ (g : PlainGraph) (q : State) (event : List Bool) (U : Valuation) where
  -- an emission that is there
  emission-from : (w : Wire) (xs : List Spot) (x : Spot) → Contains xs x → is_wire (emitted_on (spot_node x)) w ≡ true → U (Go x.path x.layer) ≡ true
      → list_any (λ a. formula_value g q event U a) (emissions w xs) ≡ true
  emission-from w [] x c e v = absurd (omega (arith, c.1))
  emission-from w (y ∷ ys) x c e v = by c.0 c.1 c.2 (λ d. emission-from w ys x d e v)
    where
      head : (b : Bool) → b ≡ true → U (Go y.path y.layer) ≡ true
          → list_any (λ a. formula_value g q event U a) (cond b (Value (Go y.path y.layer) ∷ emissions w ys) (emissions w ys)) ≡ true
      head true i h = or_left (U (Go y.path y.layer)) (list_any (λ a. formula_value g q event U a) (emissions w ys)) h
      head false i h = absurd (false≢true i)

      tail : (b : Bool) → list_any (λ a. formula_value g q event U a) (emissions w ys) ≡ true
          → list_any (λ a. formula_value g q event U a) (cond b (Value (Go y.path y.layer) ∷ emissions w ys) (emissions w ys)) ≡ true
      tail true h = or_right (U (Go y.path y.layer)) (list_any (λ a. formula_value g q event U a) (emissions w ys)) h
      tail false h = h

      by : (i : ℕ) → i < length (y ∷ ys) → get_or (y ∷ ys) i x ≡ x
          → (Contains ys x → list_any (λ a. formula_value g q event U a) (emissions w ys) ≡ true)
          → list_any (λ a. formula_value g q event U a) (emissions w (y ∷ ys)) ≡ true
      by zero l z rest =
          head (given.emits_on w y.statement y.scope y.layer)
          (emits-same w y.statement y.scope y.path y.layer ∙ subst (λ u. is_wire (emitted_on (spot_node u)) w ≡ true) (sym z) e)
          (subst (λ (u : Spot). U (Go u.path u.layer) ≡ true) (sym z) v)
      by (suc i) l z rest = tail (given.emits_on w y.statement y.scope y.layer) (rest (i, omega (arith, l), z))

  emission-some : (w : Wire) (xs : List Spot) → list_any (λ a. formula_value g q event U a) (emissions w xs) ≡ true
      → (x : Spot) × (Contains xs x) × (is_wire (emitted_on (spot_node x)) w ≡ true) × (U (Go x.path x.layer) ≡ true)
  emission-some w [] h = absurd (false≢true h)
  emission-some w (y ∷ ys) h = by (given.emits_on w y.statement y.scope y.layer) refl h (λ k. emission-some w ys k)
    where
      later : (x : Spot) × (Contains ys x) × (is_wire (emitted_on (spot_node x)) w ≡ true) × (U (Go x.path x.layer) ≡ true)
          → (x : Spot) × (Contains (y ∷ ys) x) × (is_wire (emitted_on (spot_node x)) w ≡ true) × (U (Go x.path x.layer) ≡ true)
      later r = (r.0, Contains-append_right (y ∷ []) ys r.0 r.1, r.2, r.3)

      by : (b : Bool) → given.emits_on w y.statement y.scope y.layer ≡ b
          → list_any (λ a. formula_value g q event U a) (cond b (Value (Go y.path y.layer) ∷ emissions w ys) (emissions w ys)) ≡ true
          → (list_any (λ a. formula_value g q event U a) (emissions w ys) ≡ true
          → (x : Spot) × (Contains ys x) × (is_wire (emitted_on (spot_node x)) w ≡ true) × (U (Go x.path x.layer) ≡ true))
          → (x : Spot) × (Contains (y ∷ ys) x) × (is_wire (emitted_on (spot_node x)) w ≡ true) × (U (Go x.path x.layer) ≡ true)
      by true e k rest =
          ⊎_elim
          (λ v. (y, (0, omega arith, refl), sym (emits-same w y.statement y.scope y.path y.layer) ∙ e, v))
          (λ v. later (rest v))
          (or_cases (U (Go y.path y.layer)) (list_any (λ a. formula_value g q event U a) (emissions w ys)) k)
      by false e k rest = later (rest k)

-- the instance that names a shared one
pub named-live : (K : Sharing) (n : ℕ) (l : Layer) → live_in (K.live n) l ≡ true → live_in (K.live n) (shared_layer K n l) ≡ true
named-live K n Resumed h = h
named-live K n (Started r) h = first_among K.root (K.live n).roots r h

pub named-one : (K : Sharing) (n : ℕ) (l : Layer) → one_instance K n l (shared_layer K n l) ≡ true
named-one K n Resumed = refl
named-one K n (Started r) = eq-eqb (K.root r) (K.root (first_root K.root (K.live n).roots r)) (sym (first_key K.root (K.live n).roots r))

-- a wire that one is
wire-of : (w v : Wire) (o : Option Wire) → o ≡ Some v → is_wire o w ≡ true → v ≡ w
wire-of w v o e h = same_wire-true v w (subst (λ x. is_wire x w ≡ true) e h)

is-some : (o : Option Wire) (w : Wire) → is_wire o w ≡ true → (v : Wire) × (o ≡ Some v)
is-some None w h = absurd (false≢true h)
is-some (Some v) w h = (v, refl)

mapped-some : (f : Wire → Wire) (o : Option Wire) (w : Wire) → is_wire (option_map f o) w ≡ true → (v : Wire) × (o ≡ Some v) × (f v ≡ w)
mapped-some f None w h = absurd (false≢true h)
mapped-some f (Some v) w h = (v, refl, same_wire-true (f v) w h)

-- ---- a solution

module _ (p : Program) (q : State) (event : List Bool) (V : Valuation) (F : Solution p q event V) where
  abbrev K : Sharing
  K = body_sharing p.body

  -- the wire on which an instance emits
  abbrev pub wire-at : ℕ → Layer → Option Wire
  wire-at n l = emitted_on (node_at (row_at (program_rows p) n).scope (row_at (program_rows p) n).statement n l)

  live-same : (n : ℕ) → n < statement_count p.body → (row_at (program_rows p) n).live ≡ (body_sharing p.body).live n
  live-same n h = program_gives p F.kernel n (omega arith) (omega (arith, h))

  -- ---- two instances that are one emit on one wire

  record EmitsOne (n : ℕ) (v : Wire) (j : Layer) : Type 0 where
    pub wire : Wire
    pub emits : wire-at n j ≡ Some wire
    pub one : one_wire (body_sharing p.body) v wire ≡ true
    pub live : IsLive (body_sharing p.body) v
    pub live-too : IsLive (body_sharing p.body) wire

  emits-one : (n : ℕ) (l j : Layer) (v : Wire) → LiveAt p n l → LiveAt p n j → one_instance (body_sharing p.body) n l j ≡ true → wire-at n l ≡ Some v
      → EmitsOne n v j
  emits-one n l j v at too o e = by (B x.signal) refl
    where
      B : Scope
      B = (row_at (program_rows p) n).scope

      x : EmitsAs (row_at (program_rows p) n).scope (row_at (program_rows p) n).statement v l
      x = emits-as (row_at (program_rows p) n).scope (row_at (program_rows p) n).statement n l v e

      from : (u w : Wire) (y : Binding) → (row_at (program_rows p) n).scope x.signal ≡ y → status_wire y x.signal l ≡ Some u
          → status_wire y x.signal j ≡ Some w → one_wire (body_sharing p.body) u w ≡ true → IsLive (body_sharing p.body) u
          → IsLive (body_sharing p.body) w → EmitsOne n v j
      from u w y i f g one a b =
          let same : u ≡ v = some (sym f ∙ ap (λ z. status_wire z x.signal l) (sym i) ∙ x.wire) in
          record {
            wire = w;
            emits = x.each n j ∙ ap (λ z. status_wire z x.signal j) i ∙ g;
            one = subst (λ z. one_wire (body_sharing p.body) z w ≡ true) same one;
            live = subst (IsLive (body_sharing p.body)) same a;
            live-too = b;
          }
        where
          some : {a b : Wire} → Some a ≡ Some b → a ≡ b
          some e = cc

      by : (y : Binding) → (row_at (program_rows p) n).scope x.signal ≡ y → EmitsOne n v j
      by Entering i = absurd (none-some v (ap (λ z. status_wire z x.signal l) (sym i) ∙ x.wire))
      by Outgoing i = from (Out x.signal) (Out x.signal) Outgoing i refl refl (eq-eqb x.signal x.signal refl) tt tt
      by (BoundAt b) i =
          let bound = (program_placed p n at.within).binders x.signal b i in
          let around = binds p q event V F n at.within x.signal b i in
          let alive : (k : Layer) → live_in (row_at (program_rows p) n).live k ≡ true → live_in ((body_sharing p.body).live b) (layer_above b k) ≡ true =
          λ k h. subst (λ (a : Liveness). live_in a (layer_above b k) ≡ true) (live-same b around.0)
          (live_of (row_at (program_rows p) b).live (layer_above b k) (bound.live k (in_layers (row_at (program_rows p) n).live k h))) in
          from (StatusOf b (layer_above b l)) (StatusOf b (layer_above b j)) (BoundAt b) i refl refl
          (and_from (b == b) (one_status (body_sharing p.body) b (layer_above b l) (layer_above b j)) (eq-eqb b b refl)
          (eq-eqb (key (body_sharing p.body) b (layer_above b l)) (key (body_sharing p.body) b (layer_above b j))
          (above-key p q event V F.kernel F.codes F.state F.solves F.walk b n l j around.0 around.1 at.live too.live o)))
          (alive l at.live) (alive j too.live)
      by Unbound i = absurd (none-some v (ap (λ z. status_wire z x.signal l) (sym i) ∙ x.wire))

  -- ---- the given wires

  -- where an instance that emits runs, the wire is true
  emitted-true : (n : ℕ) (l : Layer) (v : Wire) → Runs V n l → wire-at n l ≡ Some v → V v ≡ true
  emitted-true n l v h e = by (B x.signal) refl
    where
      at : LiveAt p n l
      at = is-live p q event V F n l h

      B : Scope
      B = (row_at (program_rows p) n).scope

      x : EmitsAs (row_at (program_rows p) n).scope (row_at (program_rows p) n).statement v l
      x = emits-as (row_at (program_rows p) n).scope (row_at (program_rows p) n).statement n l v e

      some : {a b : Wire} → Some a ≡ Some b → a ≡ b
      some e = cc

      emits : (w : Wire) → w ≡ v → list_any (λ a. formula_value (graph_of p) q event V a) (emissions w (program_spots p)) ≡ true
      emits w i =
          emission-from (graph_of p) q event V w (program_spots p) (spot_at (program_rows p) (record { path = n; layer = l }))
          (spot-there p F.kernel F.limits F.codes n l at)
          (subst (λ o. is_wire o w ≡ true) (sym e) (subst (λ z. same_wire z w ≡ true) i (same_wire-self w))) h

      by : (y : Binding) → (row_at (program_rows p) n).scope x.signal ≡ y → V v ≡ true
      by Entering i = absurd (none-some v (ap (λ z. status_wire z x.signal l) (sym i) ∙ x.wire))
      by Outgoing i =
          let same : Out x.signal ≡ v = some (ap (λ z. status_wire z x.signal l) (sym i) ∙ x.wire) in
          let o = scope-out p n x.signal F.codes at.within i in
          let given = cond (nat_lt x.signal (given_count p)) (Input x.signal ∷ []) [] in
          subst (λ w. V w ≡ true) same
          (met p F.kernel F.limits F.codes q event V F.solves (output_equation (given_count p) (program_spots p) x.signal)
          (out-there-equation p F.kernel F.limits F.codes x.signal o)
          ∙ any-worth (graph_of p) q event V (given ++ emissions (Out x.signal) (program_spots p))
          ∙ any-append (λ a. formula_value (graph_of p) q event V a) given (emissions (Out x.signal) (program_spots p)) ∙ or_right (list_any
          (λ a. formula_value (graph_of p) q event V a) given) (list_any (λ a. formula_value (graph_of p) q event V a) (emissions (Out x.signal)
          (program_spots p))) (emits (Out x.signal) same))
      by (BoundAt b) i =
          let same : StatusOf b (layer_above b l) ≡ v = some (ap (λ z. status_wire z x.signal l) (sym i) ∙ x.wire) in
          let bound = (program_placed p n at.within).binders x.signal b i in
          let alive = live_of (row_at (program_rows p) b).live (layer_above b l) (bound.live l (in_layers (row_at (program_rows p) n).live l at.live)) in
          let there : LiveAt p b (layer_above b l) = record { within = (binds p q event V F n at.within x.signal b i).0; live = alive } in
          subst (λ w. V w ≡ true) same
          (met p F.kernel F.limits F.codes q event V F.solves
          (record { wire = StatusOf b (layer_above b l); formula = any_of (emissions (StatusOf b (layer_above b l)) (program_spots p)) })
          (status-there p F.kernel F.limits F.codes b (layer_above b l) there bound.local)
          ∙ any-worth (graph_of p) q event V (emissions (StatusOf b (layer_above b l)) (program_spots p)) ∙ emits (StatusOf b (layer_above b l)) same)
      by Unbound i = absurd (none-some v (ap (λ z. status_wire z x.signal l) (sym i) ∙ x.wire))

  -- an instance that runs and emits on a wire
  record EmittedBy (w : Wire) : Type 0 where
    pub path : ℕ
    pub layer : Layer
    pub runs : Runs V path layer
    pub emits : wire-at path layer ≡ Some w

  emitted-by : (w : Wire) → list_any (λ a. formula_value (graph_of p) q event V a) (emissions w (program_spots p)) ≡ true → EmittedBy w
  emitted-by w h =
      let r = emission-some (graph_of p) q event V w (program_spots p) h in
      of-mapped (λ (x : Spot). is_wire (emitted_on (spot_node x)) w ≡ true → V (Go x.path x.layer) ≡ true → EmittedBy w) (spot_at (program_rows p))
      (body_instances p.body) (λ i c. found i.path i.layer) r.0 (subst (λ xs. Contains xs r.0) (program_spots_by_row p F.kernel) r.1) r.2 r.3
    where
      found : (n : ℕ) (l : Layer) → is_wire (wire-at n l) w ≡ true → V (Go n l) ≡ true → EmittedBy w
      found n l emits runs =
          let s = is-some (wire-at n l) w emits in
          record { path = n; layer = l; runs = runs; emits = s.1 ∙ ap Some (wire-of w s.0 (wire-at n l) s.1 emits) }

  -- ---- the shared ones

  abbrev pub shared-worth : Wire → Bool
  shared-worth w = list_any (λ a. formula_value (graph_of p) q event (some_member p V) a) (shared_emissions p w)

  -- what runs and emits on a member has a shared instance that emits on the shared wire
  shared-from : (u w : Wire) → IsLive (body_sharing p.body) w → shared_wire (body_sharing p.body) w ≡ w → one_wire (body_sharing p.body) u w ≡ true
      → EmittedBy u
      → shared-worth w ≡ true
  shared-from u w alive own one x =
      let K = body_sharing p.body in
      let n = x.path in
      let l = x.layer in
      let j = shared_layer K n l in
      let at = is-live p q event V F n l x.runs in
      let in-K = subst (λ (a : Liveness). live_in a l ≡ true) (live-same n at.within) at.live in
      let too : LiveAt p n j = record {
        within = at.within;
        live = subst (λ (a : Liveness). live_in a j ≡ true) (sym (live-same n at.within)) (named-live K n l in-K);
      } in
      let y = emits-one n l j u at too (named-one K n l) x.emits in
      let least : same_layer (shared_layer K n j) j ≡ true =
      subst (λ z. same_layer z j ≡ true) (one_instance-named K n l j in-K (named-one K n l)) (same_layer-self j) in
      let shared : shared_wire K y.wire ≡ w =
      sym (one_wire-named K u y.wire y.live y.one y.live-too) ∙ one_wire-named K u w y.live one alive ∙ own in
      let spot = spot_at (program_rows p) (record { path = n; layer = j }) in
      any-from (λ a. formula_value (graph_of p) q event (some_member p V) a) (shared_emissions p w) (go_value spot)
      (contains-map go_value (filter (emits_on K w) (program_spots p)) spot
      (filter-has (emits_on K w) (program_spots p) spot (spot-there p F.kernel F.limits F.codes n j too)
      (and_from (is_least K spot) (is_wire (option_map (shared_wire K) (wire-at n j)) w) least
      (subst (λ o. is_wire (option_map (shared_wire K) o) w ≡ true) (sym y.emits)
      (subst (λ z. same_wire z w ≡ true) (sym shared) (same_wire-self w))))))
      (mfrom-go p q event V F n l j (named-one K n l) x.runs)

  -- and the other way round
  shared-some : (w : Wire) → IsLive (body_sharing p.body) w → shared_wire (body_sharing p.body) w ≡ w → shared-worth w ≡ true → some_member p V w ≡ true
  shared-some w alive own h =
      let K = body_sharing p.body in
      let worth = λ (a : Formula). formula_value (graph_of p) q event (some_member p V) a in
      let a = any-some worth (shared_emissions p w) h in
      of-mapped (λ f. worth f ≡ true → some_member p V w ≡ true) go_value (filter (emits_on K w) (program_spots p)) (λ x c runs.
      let f = filter-some (emits_on K w) (program_spots p) x c in
      of-mapped (λ (y : Spot). emits_on K w y ≡ true → some_member p V (Go y.path y.layer) ≡ true → some_member p V w ≡ true) (spot_at (program_rows p))
      (body_instances p.body) (λ i d. from i.path i.layer (live_instance p i.path i.layer d)) x
      (subst (λ xs. Contains xs x) (program_spots_by_row p F.kernel) f.0) f.1 runs) a.0 a.1 a.2
    where
      from : (n : ℕ) (j : Layer) → LiveAt p n j → emits_on (body_sharing p.body) w (spot_at (program_rows p) (record { path = n; layer = j })) ≡ true
          → some_member p V (Go n j) ≡ true → some_member p V w ≡ true
      from n j at emits runs =
          let K = body_sharing p.body in
          let spot = spot_at (program_rows p) (record { path = n; layer = j }) in
          let s = mapped-some (shared_wire K) (wire-at n j) w (and_parts (is_least K spot) (is_wire (option_map (shared_wire K) (wire-at n j)) w) emits).1 in
          let m = go-some p V n j runs in
          let too = is-live p q event V F n m.0 m.2 in
          let y = emits-one n j m.0 s.0 at too (one-instance-back K n m.0 j m.1) s.1 in
          let shared : shared_wire K y.wire ≡ shared_wire K w = sym (one_wire-named K s.0 y.wire y.live y.one y.live-too) ∙ s.2 ∙ sym own in
          member-from p V (is-there p q event V F) y.wire w (named-one_wire K y.wire w y.live-too shared alive)
          (emitted-true n m.0 y.wire m.2 y.emits)

  pub status-met : (b : ℕ) (l : Layer) → Contains (program_wires p) (StatusOf b l) → shared_wire (body_sharing p.body) (StatusOf b l) ≡ StatusOf b l
      → some_member p V (StatusOf b l) ≡ shared-worth (StatusOf b l)
  status-met b l c own =
      let alive = wires_live p F.kernel (StatusOf b l) c in
      same-tests (some_member p V (StatusOf b l)) (shared-worth (StatusOf b l))
      (λ h.
      let r = status-some p V b l h in
      let w = StatusOf b r.0 in
      let at = wire_only p F.kernel IsStatus b r.0 (is-there p q event V F w r.2) in
      shared-from w (StatusOf b l) alive own
      (and_from (b == b) (one_status (body_sharing p.body) b r.0 l) (eq-eqb b b refl)
      (eq-eqb (key (body_sharing p.body) b r.0) (key (body_sharing p.body) b l) r.1))
      (emitted-by w
      (sym (any-worth (graph_of p) q event V (emissions w (program_spots p)))
      ∙ sym (met p F.kernel F.limits F.codes q event V F.solves (record { wire = w; formula = any_of (emissions w (program_spots p)) })
      (status-there p F.kernel F.limits F.codes b r.0 (record { within = at.within; live = at.live }) at.has)) ∙ r.2)))
      (shared-some (StatusOf b l) alive own)

  -- ---- outgoing signals

  abbrev given-list : ℕ → List Formula
  given-list s = cond (nat_lt s (given_count p)) (Input s ∷ []) []

  pub out-met : (s : ℕ) → Contains (program_wires p) (Out s)
      → some_member p V (Out s)
      ≡ list_any (λ a. formula_value (graph_of p) q event (some_member p V) a)
      (cond (nat_lt s (given_count p)) (Input s ∷ []) [] ++ shared_emissions p (Out s))
  out-met s c =
      let bounds = out_only p F.kernel s c in
      let outgoing : Contains (interface_of p).outgoing s = range_has p.inputs (outgoing_count p) s bounds.0 (omega (arith, bounds.1)) in
      let all = program_spots p in
      let equation : V (Out s) ≡ list_any (λ a. formula_value (graph_of p) q event V a) (given-list s ++ emissions (Out s) all) =
      met p F.kernel F.limits F.codes q event V F.solves (output_equation (given_count p) all s)
      (out-there-equation p F.kernel F.limits F.codes s outgoing) ∙ any-worth (graph_of p) q event V (given-list s ++ emissions (Out s) all) in
      same-tests (some_member p V (Out s)) (list_any (λ a. formula_value (graph_of p) q event (some_member p V) a) (given-list s ++ shared_emissions p (Out s)))
      (λ h.
      let v = sym equation ∙ sym (out-alone p V (is-there p q event V F) s) ∙ h in
      ⊎_elim
      (λ k. any-append (λ a. formula_value (graph_of p) q event (some_member p V) a) (given-list s) (shared_emissions p (Out s)) ∙ or_left (list_any
      (λ a. formula_value (graph_of p) q event (some_member p V) a) (given-list s)) (list_any (λ a. formula_value (graph_of p) q event
      (some_member p V) a) (shared_emissions p (Out s))) (from-given (nat_lt s (given_count p)) k))
      (λ k. any-append (λ a. formula_value (graph_of p) q event (some_member p V) a) (given-list s) (shared_emissions p (Out s)) ∙ or_right (list_any
      (λ a. formula_value (graph_of p) q event (some_member p V) a) (given-list s)) (list_any (λ a. formula_value (graph_of p) q event
      (some_member p V) a) (shared_emissions p (Out s))) (shared-from (Out s) (Out s) tt refl (eq-eqb s s refl) (emitted-by (Out s) k)))
      (or_cases (list_any (λ a. formula_value (graph_of p) q event V a) (given-list s)) (list_any (λ a. formula_value (graph_of p) q event V a) (emissions
      (Out s) all)) (sym (any-append (λ a. formula_value (graph_of p) q event V a) (given-list s) (emissions (Out s) all)) ∙ v)))
      (λ h.
      ⊎_elim
      (λ k. out-alone p V (is-there p q event V F) s ∙ equation
      ∙ any-append (λ a. formula_value (graph_of p) q event V a) (given-list s) (emissions (Out s) all) ∙ or_left (list_any (λ a. formula_value
      (graph_of p) q event V a) (given-list s)) (list_any (λ a. formula_value (graph_of p) q event V a) (emissions (Out s) all)) (to-given (nat_lt s
      (given_count p)) k))
      (λ k. shared-some (Out s) tt refl k)
      (or_cases (list_any (λ a. formula_value (graph_of p) q event (some_member p V) a) (given-list s)) (list_any (λ a. formula_value (graph_of p) q event
      (some_member p V) a) (shared_emissions p (Out s))) (sym (any-append (λ a. formula_value (graph_of p) q event (some_member p V) a) (given-list s)
      (shared_emissions p (Out s))) ∙ h)))
    where
      from-given : (b : Bool) → list_any (λ a. formula_value (graph_of p) q event V a) (cond b (Input s ∷ []) []) ≡ true
          → list_any (λ a. formula_value (graph_of p) q event (some_member p V) a) (cond b (Input s ∷ []) []) ≡ true
      from-given true h = h
      from-given false h = h

      to-given : (b : Bool) → list_any (λ a. formula_value (graph_of p) q event (some_member p V) a) (cond b (Input s ∷ []) []) ≡ true
          → list_any (λ a. formula_value (graph_of p) q event V a) (cond b (Input s ∷ []) []) ≡ true
      to-given true h = h
      to-given false h = h

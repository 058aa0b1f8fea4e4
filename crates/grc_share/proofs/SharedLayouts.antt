-- A shared graph is laid out over the shared instances and wires, in order.
use Rattle.std.proofs.Common.{◌≡◌, ℕ, ◌<◌, ◌&&◌, ◌||◌, Bool, true, false, cond, List, [], ◌∷◌, ◌++◌, length, map, get_or, refl, sym, ap, ◌∙◌, subst, ⊎_elim}
use Rattle.std.proofs.Common.{arith}
use Rattle.std.specs.Prelude.{Contains, filter}
use Rattle.std.specs.List.{flat_map, list_any, range_with_len}
use Rattle.std.proofs.lemmas.Bool.{both_ways, cases_Bool}
use Rattle.std.proofs.lemmas.List.Elements.{Contains-get_or, filter-append}
use Rattle.est_kernel.specs.Plain.{Program, outgoing_count}
use Rattle.est_kernel.specs.WellFormed.{IsKernel, IsWellFormed}
use Rattle.grc_graph.specs.declared.trees.SelNode.{SelNode}
use Rattle.grc_graph.specs.declared.wires.Wire as stored
use Rattle.grc_graph.specs.GraphRuns.{program_wires}
use Rattle.grc_graph.specs.Instances.{Instance, body_instances}
use Rattle.grc_graph.specs.Layers.{Layer, Resumed, layer_above, same_layer}
use Rattle.grc_graph.specs.Layouts.{IsLaidOut, has_status, is_among, laid_names, laid_wires}
use Rattle.grc_graph.specs.PlainInstances.{instance_at, wire_of}
use Rattle.grc_graph.specs.Rows.{program_rows, row_at}
use Rattle.grc_graph.specs.SelectionTrees.{body_leaves, body_tree}
use Rattle.grc_graph.specs.TreeForms.{tree_node}
use Rattle.grc_graph.specs.Wires.{Wire, Out, Go, StatusOf, End, instance_codes, listed, same_wire}
use Rattle.grc_graph.proofs.Exports.{LiveAt, live_instance, same_layer-self, same_wire-self, same_wire-true}
use Rattle.grc_share.specs.Renamings.{is_named}
use Rattle.grc_share.specs.SharedGraphs.{shared_instances}
use Rattle.grc_share.specs.SharedInstances.{body_sharing}
use Rattle.grc_share.specs.SharedWires.{shared_layer, shared_wire, shared_wires}
use Rattle.grc_share.proofs.Enclosing.{shared-enclosed}
use Rattle.grc_share.proofs.InstanceNumbers.{named-itself}
use Rattle.grc_share.proofs.Ranks.{passing}
use Rattle.grc_share.proofs.SharedNaming.{own-by_instance}

-- ---- lists

flat_map-filter : {X Y : Type 0} (S : Y → Bool) (N : X → Bool) (R L : X → List Y) → ((x : X) → N x ≡ true → filter S (R x) ≡ L x)
    → ((x : X) → N x ≡ false → filter S (R x) ≡ []) → (xs : List X) → filter S (flat_map R xs) ≡ flat_map L (filter N xs)
flat_map-filter S N R L own other [] = refl
flat_map-filter S N R L own other (x ∷ xs) =
    filter-append S (R x) (flat_map R xs) ∙ by (N x) refl (flat_map-filter S N R L own other xs)
  where
    by : (b : Bool) → N x ≡ b → filter S (flat_map R xs) ≡ flat_map L (filter N xs)
        → filter S (R x) ++ filter S (flat_map R xs) ≡ flat_map L (cond b (x ∷ filter N xs) (filter N xs))
    by true e rest = λ i. own x e i ++ rest i
    by false e rest = λ i. other x e i ++ rest i

filter-keeps : {X Y : Type 0} (S : Y → Bool) (f : X → Y) → ((x : X) → S (f x) ≡ true) → (xs : List X) → filter S (map f xs) ≡ map f xs
filter-keeps S f h [] = refl
filter-keeps S f h (x ∷ xs) = ap (λ b. cond b (f x ∷ filter S (map f xs)) (filter S (map f xs))) (h x) ∙ ap (λ ys. f x ∷ ys) (filter-keeps S f h xs)

filter-drops : {X Y : Type 0} (S : Y → Bool) (f : X → Y) → ((x : X) → S (f x) ≡ false) → (xs : List X) → filter S (map f xs) ≡ []
filter-drops S f h [] = refl
filter-drops S f h (x ∷ xs) = ap (λ b. cond b (f x ∷ filter S (map f xs)) (filter S (map f xs))) (h x) ∙ filter-drops S f h xs

filter-if : {Y : Type 0} (S : Y → Bool) (b : Bool) (u : Y) → filter S (cond b (u ∷ []) []) ≡ cond (S u && b) (u ∷ []) []
filter-if S false u = by (S u)
  where
    by : (a : Bool) → [] ≡ cond (a && false) (u ∷ []) []
    by true = refl
    by false = refl
filter-if S true u = by (S u)
  where
    by : (a : Bool) → cond a (u ∷ []) [] ≡ cond (a && true) (u ∷ []) []
    by true = refl
    by false = refl

-- a wire among those that pass
any-filter : (S : Wire → Bool) (u : Wire) (ws : List Wire) → list_any (same_wire u) (filter S ws) ≡ (S u && list_any (same_wire u) ws)
any-filter S u [] = by (S u)
  where
    by : (a : Bool) → false ≡ (a && false)
    by true = refl
    by false = refl
any-filter S u (w ∷ ws) = by (S w) refl (same_wire u w) refl (any-filter S u ws)
  where
    by : (a : Bool) → S w ≡ a → (b : Bool) → same_wire u w ≡ b → list_any (same_wire u) (filter S ws) ≡ (S u && list_any (same_wire u) ws)
        → list_any (same_wire u) (cond a (w ∷ filter S ws) (filter S ws)) ≡ (S u && (same_wire u w || list_any (same_wire u) ws))
    by true f true e rest =
        ap (λ b. b || list_any (same_wire u) (filter S ws)) e ∙ sym (λ i. (ap S (same_wire-true u w e) ∙ f) i && (e i || list_any (same_wire u) ws))
    by false f true e rest =
        rest ∙ (λ i. (ap S (same_wire-true u w e) ∙ f) i && list_any (same_wire u) ws)
        ∙ sym (λ i. (ap S (same_wire-true u w e) ∙ f) i && (same_wire u w || list_any (same_wire u) ws))
    by true f false e rest = ap (λ b. b || list_any (same_wire u) (filter S ws)) e ∙ rest ∙ sym (λ i. S u && (e i || list_any (same_wire u) ws))
    by false f false e rest = rest ∙ sym (λ i. S u && (e i || list_any (same_wire u) ws))

-- ---- the wires of instances

layer-of-go : (j l : Layer) (n : ℕ) → Go n j ≡ Go n l → j ≡ l
layer-of-go j l n e = cc

layer-of-status : (j l : Layer) (n : ℕ) → StatusOf n j ≡ StatusOf n l → j ≡ l
layer-of-status j l n e = cc

layer-of-end : (j l : Layer) (n k : ℕ) → End n j k ≡ End n l k → j ≡ l
layer-of-end j l n k e = cc

module _ (p : Program) where
  abbrev own : Wire → Bool
  own w = same_wire (shared_wire (body_sharing p.body) w) w

  own-wire : (w : Wire) → shared_wire (body_sharing p.body) w ≡ w → own w ≡ true
  own-wire w e = ap (λ v. same_wire v w) e ∙ same_wire-self w

  other-wire : (w : Wire) → ((shared_wire (body_sharing p.body) w ≡ w) → ⊥) → own w ≡ false
  other-wire w h = ⊎_elim (λ t. absurd (h (same_wire-true (shared_wire (body_sharing p.body) w) w t))) (λ f. f) (cases_Bool (own w))

  -- of an instance that names its shared one
  named-wires : (x : Instance) → is_named (body_sharing p.body) x ≡ true
      → filter own (laid_wires p (program_wires p) x) ≡ laid_wires p (shared_wires p) x
  named-wires x h =
      let K = body_sharing p.body in
      let n = x.path in
      let l = x.layer in
      let ks = listed (instance_codes (row_at (program_rows p) n).statement l) in
      let u = StatusOf n l in
      let layer : shared_layer K n l ≡ l = λ t. (named-itself K x h t).layer in
      let status : List Wire = cond (has_status (program_wires p) n l) (u ∷ []) [] in
      ap (λ b. cond b (Go n l ∷ filter own (status ++ map (End n l) ks)) (filter own (status ++ map (End n l) ks)))
      (own-wire (Go n l) (ap (Go n) layer))
      ∙ ap (λ ws. Go n l ∷ ws) (filter-append own status (map (End n l) ks)
      ∙ (λ t. (filter-if own (has_status (program_wires p) n l) u ∙ ap (λ b. cond b (u ∷ []) []) (sym (any-filter own u (program_wires p)))) t
      ++ filter-keeps own (End n l) (λ k. own-wire (End n l k) (ap (λ j. End n j k) layer)) ks t))

  -- of another
  other-wires : (x : Instance) → is_named (body_sharing p.body) x ≡ false → filter own (laid_wires p (program_wires p) x) ≡ []
  other-wires x h =
      let K = body_sharing p.body in
      let n = x.path in
      let l = x.layer in
      let ks = listed (instance_codes (row_at (program_rows p) n).statement l) in
      let u = StatusOf n l in
      let status : List Wire = cond (has_status (program_wires p) n l) (u ∷ []) [] in
      let not-layer : ((shared_layer K n l ≡ l) → ⊥) =
      λ e. both_ways (is_named K x) h (ap (λ j. same_layer j l) e ∙ same_layer-self l) in
      let no-go = other-wire (Go n l) (λ e. not-layer (layer-of-go (shared_layer K n l) l n e)) in
      let no-status = other-wire u (λ e. not-layer (layer-of-status (shared_layer K n l) l n (own-by_instance K u e))) in
      let no-end = λ (k : ℕ). other-wire (End n l k) (λ e. not-layer (layer-of-end (shared_layer K n l) l n k e)) in
      ap (λ b. cond b (Go n l ∷ filter own (status ++ map (End n l) ks)) (filter own (status ++ map (End n l) ks))) no-go
      ∙ filter-append own status (map (End n l) ks)
      ∙ (λ t. (filter-if own (has_status (program_wires p) n l) u
      ∙ ap (λ a. cond (a && has_status (program_wires p) n l) (u ∷ []) []) no-status) t ++ filter-drops own (End n l) no-end ks t)

  -- the names of the shared wires are those of the shared instances, in order
  shared-laid : program_wires p ≡ laid_names p (body_instances p.body) (program_wires p)
      → shared_wires p ≡ laid_names p (shared_instances p) (shared_wires p)
  shared-laid e =
      let outs : List Wire = map Out (range_with_len p.inputs (outgoing_count p)) in
      ap (filter own) e ∙ filter-append own outs (flat_map (laid_wires p (program_wires p)) (body_instances p.body))
      ∙ (λ t. filter-keeps own Out (λ s. own-wire (Out s) refl) (range_with_len p.inputs (outgoing_count p)) t
      ++ flat_map-filter own (is_named (body_sharing p.body)) (laid_wires p (program_wires p)) (laid_wires p (shared_wires p)) named-wires other-wires
      (body_instances p.body) t)

  -- ---- the layout

  module _ (kernel : IsKernel p.body) (insts : List Instance) (same : insts ≡ shared_instances p) where
    -- a shared instance is one of the body that names its shared one
    record Found (i : ℕ) : Type 0 where
      inside : Contains (body_instances p.body) (instance_at insts i)
      named : is_named (body_sharing p.body) (instance_at insts i) ≡ true

    found : (i : ℕ) → i < length insts → Found i
    found i l =
        let d : Instance = record { path = 0; layer = Resumed } in
        let P = is_named (body_sharing p.body) in
        let h = passing P (body_instances p.body) i (omega (arith, ap length same)) in
        let read : get_or (body_instances p.body) h.place d ≡ instance_at insts i = sym (ap (λ (xs : List Instance). get_or xs i d) same ∙ h.read d d) in
        record {
          inside = subst (λ x. Contains (body_instances p.body) x) read (Contains-get_or (body_instances p.body) h.place d h.low);
          named = ap P (sym read) ∙ h.passes d;
        }

    live : (i : ℕ) → i < length insts → LiveAt p (instance_at insts i).path (instance_at insts i).layer
    live i l = live_instance p (instance_at insts i).path (instance_at insts i).layer (found i l).inside

    pub shared-layout : (wires : List stored.Wire) (nodes : List SelNode) (count : ℕ) → IsWellFormed p
        → program_wires p ≡ laid_names p (body_instances p.body) (program_wires p) → map (wire_of insts) wires ≡ shared_wires p
        → map tree_node nodes ≡ body_tree p.body → count ≡ length (body_leaves p.body) → IsLaidOut p insts wires nodes count
    shared-layout wires nodes count formed laid names tree leaves = record {
      formed = formed;
      within = λ i l. (live i l).within;
      live = λ i l. (live i l).live;
      enclosed = λ i n l is.
          let x = instance_at insts i in
          ap (λ xs. is_among xs n (layer_above n x.layer)) same ∙ shared-enclosed p kernel x.path n x.layer (live i l) (found i l).named is;
      names = names ∙ shared-laid laid ∙ (λ t. laid_names p (sym same t) (sym names t));
      tree = tree;
      leaves = leaves;
    }

-- The least member of a wire's shared wire, read from those of instances.
use Rattle.std.proofs.Common.{◌≡◌, ℕ, ◌<◌, List, [], ◌∷◌, ◌++◌, length, get_or, Some, None, sym, ap, ◌∙◌, subst, ⊎_elim, arith}
use Rattle.std.specs.Prelude.{Contains}
use Rattle.std.proofs.Math.Seq.{get_or-append_seam}
use Rattle.std.proofs.lemmas.Bool.{cases_lt}
use Rattle.std.proofs.lemmas.List.{get_or-map, get_or_append_left, length-append, length-map}
use Rattle.std.proofs.lemmas.List.Elements.{Contains-get_or}
use Rattle.base_types.specs.declared.indices.InstId.{InstId}
use Rattle.base_types.specs.declared.indices.WireId.{WireId}
use Rattle.est_kernel.specs.Plain.{Program, program_of}
use Rattle.est_kernel.specs.Preorder.{statement_count}
use Rattle.est_kernel.specs.WellFormed.{IsKernel}
use Rattle.est_kernel.proofs.Exports.{trees_are_kernels_lem}
use Rattle.grc_graph.specs.declared.graph.Graph.{Graph}
use Rattle.grc_graph.specs.declared.instances.Instance as stored
use Rattle.grc_graph.specs.declared.neighbours.Neighbours.{Neighbours}
use Rattle.grc_graph.specs.declared.wires.Wire as kept
use Rattle.grc_graph.specs.declared.wires.Wire.TheVariants as wires
use Rattle.grc_graph.specs.BuiltGraphs.{IsGraphOf}
use Rattle.grc_graph.specs.GraphRuns.{program_wires}
use Rattle.grc_graph.specs.Instances.{Instance}
use Rattle.grc_graph.specs.Layers.{Resumed}
use Rattle.grc_graph.specs.Neighbouring.{instances_in, names_in}
use Rattle.grc_graph.specs.PlainGraphs.{instance_at, instances_of, names_of, wire_at, wire_of}
use Rattle.grc_graph.specs.PlainInstances.{instance_of, layer_of}
use Rattle.grc_graph.specs.Wires.{Wire, Go, StatusOf, End}
use Rattle.grc_graph.specs.WireTables.{IsNumberOf, owner}
use Rattle.grc_graph.proofs.Exports.{first_instance, name_at, path_within}
use Rattle.grc_share.specs.LeastMembers.{AreLeast, HasResumedStatus, RootIn, shared_of}
use Rattle.grc_share.specs.SharedInstances.{Sharing, body_sharing, key}
use Rattle.grc_share.specs.SharedWires.{shared_layer, shared_wire}
use Rattle.grc_share.proofs.LeastInstances.{root_of}
use Rattle.grc_share.proofs.WireMembers.{end-there, status-resumed, status-started, status-there}

-- what is true of each of a list and of one more
pub each-more : {X : Type 0} (P : ℕ → X → Type 0) (xs : List X) (x : X) (n : ℕ) → length xs ≡ n
    → ((i : ℕ) (d : X) → i < length xs → P i (get_or xs i d)) → P n x
    → (i : ℕ) (d : X) → i < length (xs ++ (x ∷ [])) → P i (get_or (xs ++ (x ∷ [])) i d)
each-more P xs x n e old new i d l =
    ⊎_elim (λ a. subst (P i) (sym (get_or_append_left xs (x ∷ []) d i a)) (old i d a))
    (λ a.
    let z : i ≡ length xs = omega (arith, a, l, length-append xs (x ∷ [])) in
    let y : n ≡ i = omega (arith, z, e) in
    subst (P i) (sym (ap (λ k. get_or (xs ++ (x ∷ [])) k d) z ∙ get_or-append_seam xs x [] d)) (subst (λ k. P k x) y new))
    (cases_lt i (length xs))

none_id : InstId
none_id = record { 0 = 0 }

module _ (g : Graph) (built : IsGraphOf g (program_of g.program)) (least : List InstId) (near : Neighbours)
    (near_instances : instances_in near ≡ instances_of g) (near_names : names_in near ≡ names_of g) where
  abbrev p : Program
  p = program_of g.program

  abbrev K : Sharing
  K = body_sharing (program_of g.program).body

  kernel : IsKernel (program_of g.program).body
  kernel = trees_are_kernels_lem g.program.body

  abbrev at : ℕ → Instance
  at i = instance_at (instances_of g) i

  -- the number of the least member of an instance's shared instance
  abbrev number : ℕ → ℕ
  number i = (get_or least i (record { 0 = 0 })).0

  abbrev there : ℕ → Instance
  there i = instance_at (instances_in near) (number i)

  pub record Least (i : ℕ) : Type 0 where
    pub low : number i < length (instances_in near)
    pub named : there i ≡ shared_of K (at i)

  pub least-at : length least ≡ length g.instances.list.items → AreLeast K g.instances.list.items least → (i : ℕ) → i < length g.instances.list.items → Least i
  least-at long are i low =
      let insts = g.instances.list.items in
      let n = are i (record { 0 = 0 }) (omega (arith, low, long)) first_instance in
      record {
        low = subst (λ (xs : List Instance). number i < length xs) (sym near_instances) n.within;
        named =
            ap (λ (xs : List Instance). instance_at xs (number i)) near_instances ∙ n.same _
            ∙ ap (shared_of K) (sym (name_at insts i first_instance _ low));
      }

  module _ (w : ℕ) (x : kept.Wire) (low : w < length g.wires.items) (is : x ≡ get_or g.wires.items w x) where
    name-of : wire_at (names_of g) w ≡ wire_of (instances_of g) x
    name-of = get_or-map (wire_of (instances_of g)) g.wires.items w x _ low ∙ ap (wire_of (instances_of g)) (sym is)

    pub in-range : (i : ℕ) → owner x ≡ Some i → i < length g.instances.list.items
    in-range i o = g.tables.runs.own_in w i x low (ap owner (sym is) ∙ o)

    own-name : Contains (names_of g) (wire_at (names_of g) w)
    own-name = Contains-get_or (names_of g) w _ (omega (arith, low, length-map g.wires.items (wire_of (instances_of g))))

    own-wire : (u : Wire) → wire_of (instances_of g) x ≡ u → Contains (program_wires (program_of g.program)) u
    own-wire u e =
        subst (λ v. Contains (program_wires (program_of g.program)) v) (name-of ∙ e)
        (subst (λ (ns : List Wire). Contains ns (wire_at (names_of g) w)) built.wires own-name)

    found : (u v : Wire) (r : ℕ) → wire_of (instances_of g) x ≡ v → u ≡ shared_wire K v → IsNumberOf (names_in near) r u
        → IsNumberOf (names_of g) r (shared_wire K (wire_at (names_of g) w))
    found u v r e f h =
        subst (λ (ns : List Wire). IsNumberOf ns r (shared_wire K (wire_at (names_of g) w))) near_names
        (subst (IsNumberOf (names_in near) r) (f ∙ sym (ap (shared_wire K) (name-of ∙ e))) h)

    pub go-least : (i r : ℕ) → x ≡ wires.Go (record { 0 = i }) → Least i
        → IsNumberOf (names_in near) r (Go (there i).path (there i).layer) → IsNumberOf (names_of g) r (shared_wire K (wire_at (names_of g) w))
    go-least i r e l h =
        found (Go (there i).path (there i).layer) (Go (at i).path (at i).layer) r (ap (wire_of (instances_of g)) e)
        (ap (λ (y : Instance). Go y.path y.layer) l.named) h

    pub end-least : (i r c : ℕ) → x ≡ wires.End (record { 0 = i }) c → Least i
        → IsNumberOf (names_in near) r (End (there i).path (there i).layer c) → IsNumberOf (names_of g) r (shared_wire K (wire_at (names_of g) w))
    end-least i r c e l h =
        found (End (there i).path (there i).layer c) (End (at i).path (at i).layer c) r (ap (wire_of (instances_of g)) e)
        (ap (λ (y : Instance). End y.path y.layer c) l.named) h

    pub end-some : (i c : ℕ) → x ≡ wires.End (record { 0 = i }) c → Least i → ¬ Contains (names_in near) (End (there i).path (there i).layer c) → ⊥
    end-some i c e l none =
        none (subst (λ u. Contains (names_in near) u) (sym (ap (λ (y : Instance). End y.path y.layer c) l.named))
        (subst (λ (ns : List Wire). Contains ns (End (at i).path (shared_layer K (at i).path (at i).layer) c)) (sym (near_names ∙ built.wires))
        (end-there (program_of g.program) kernel g.laid_out.formed.body (at i).path (at i).layer c (own-wire _ (ap (wire_of (instances_of g)) e)))))

    -- the instance of a status
    module _ (i : ℕ) (y : stored.Instance) (e : x ≡ wires.Local (record { 0 = i })) (f : y ≡ get_or g.instances.list.items i y) where
      inside : i < length g.instances.list.items
      inside = in-range i (ap owner e)

      named : instance_of y ≡ at i
      named = ap instance_of f ∙ sym (name_at g.instances.list.items i y _ inside)

      status : Contains (program_wires (program_of g.program)) (StatusOf (at i).path (at i).layer)
      status = own-wire _ (ap (wire_of (instances_of g)) e)

      pub status-resumed-least : (r : WireId) → HasResumedStatus K (names_in near) (instance_of y) (Some r)
          → IsNumberOf (names_of g) r.0 (shared_wire K (wire_at (names_of g) w))
      status-resumed-least r h =
          let a = subst (λ (z : Instance). HasResumedStatus K (names_in near) z (Some r)) named h in
          let b = subst (λ (ns : List Wire). Contains ns (StatusOf (at i).path Resumed)) (near_names ∙ built.wires) (r.0, a.1.within, a.1.same _) in
          found (StatusOf (at i).path Resumed) (StatusOf (at i).path (at i).layer) r.0 (ap (wire_of (instances_of g)) e)
          (ap (StatusOf (at i).path) (sym (status-resumed (program_of g.program) kernel (at i).path (at i).layer status b a.0))) a.1

      pub status-started-least : (r : ℕ) → Least i → HasResumedStatus K (names_in near) (instance_of y) None
          → IsNumberOf (names_in near) r (StatusOf (there i).path (there i).layer)
          → IsNumberOf (names_of g) r (shared_wire K (wire_at (names_of g) w))
      status-started-least r l h n =
          let a = subst (λ (z : Instance). HasResumedStatus K (names_in near) z None) named h in
          let b = λ (q : K.resumed (at i).path ≡ key K (at i).path (at i).layer).
          subst (λ (ns : List Wire). ¬ Contains ns (StatusOf (at i).path Resumed)) (near_names ∙ built.wires) (a q) in
          found (StatusOf (there i).path (there i).layer) (StatusOf (at i).path (at i).layer) r (ap (wire_of (instances_of g)) e)
          (ap (λ (z : Instance). StatusOf z.path z.layer) l.named
          ∙ ap (StatusOf (at i).path) (sym (status-started (program_of g.program) kernel (at i).path (at i).layer status b))) n

      pub status-some : Least i → ¬ Contains (names_in near) (StatusOf (there i).path (there i).layer) → ⊥
      status-some l none =
          none (subst (λ u. Contains (names_in near) u) (sym (ap (λ (z : Instance). StatusOf z.path z.layer) l.named))
          (subst (λ (ns : List Wire). Contains ns (StatusOf (at i).path (shared_layer K (at i).path (at i).layer))) (sym (near_names ∙ built.wires))
          (status-there (program_of g.program) kernel (at i).path (at i).layer status)))

      -- its statement and its root are among so many
      pub path-low : (count : ℕ) → count ≡ statement_count (program_of g.program).body → y.path.0 < count
      path-low count n = omega (arith, n, path_within (program_of g.program).body g.instances.list.items i y built.instances inside f)

      pub root-low : (count : ℕ) → count ≡ statement_count (program_of g.program).body → RootIn count (layer_of y.layer)
      root-low count n = root_of (program_of g.program) kernel g.instances.list.items built.instances i y count n f inside

-- The region of a wire of a graph, by the list of heads.
use Rattle.std.proofs.Common.{◌≡◌, ℕ, ◌+◌, ◌<◌, ◌≤◌, true, false, ◌&&◌, List, [], ◌∷◌, ◌++◌, length, get_or, Option, Some, None, refl, sym, ap}
use Rattle.std.proofs.Common.{◌∙◌, subst, ⊎_elim, arith}
use Rattle.std.specs.Prelude.{Contains, IsTrue, if◌then◌else◌}
use Rattle.std.proofs.lemmas.Bool.{cases_lt, eq-eqb, ne_eqb, ltb-true}
use Rattle.std.proofs.lemmas.List.{length-map, get_or-map, length_push, get_or_append_left, get_or_push}
use Rattle.base_types.specs.declared.indices.InstId.{InstId}
use Rattle.base_types.specs.declared.indices.WireId.{WireId}
use Rattle.est_kernel.specs.Plain.{program_of, term_of}
use Rattle.est_kernel.specs.Preorder.{statement_count}
use Rattle.est_kernel.specs.Terms.{Term}
use Rattle.grc_graph.specs.declared.graph.Graph.{Graph}
use Rattle.grc_graph.specs.declared.instances.Instance.{Instance}
use Rattle.grc_graph.specs.declared.wires.Wire.{Wire as Stored}
use Rattle.grc_graph.specs.declared.wires.Wire.TheVariants as wires
use Rattle.grc_graph.specs.BuiltGraphs.{IsGraphOf}
use Rattle.grc_graph.specs.GraphShapes.{wire_fits}
use Rattle.grc_graph.specs.Instances as plain
use Rattle.grc_graph.specs.Layers.{Layer, Resumed, Started, same_layer}
use Rattle.grc_graph.specs.PlainGraphs.{instances_of, names_of, wire_at, wire_of}
use Rattle.grc_graph.specs.PlainInstances.{instance_of, layer_of}
use Rattle.grc_graph.specs.WireTables.{IsNumberOf}
use Rattle.grc_graph.specs.Wires.{Go, End, same_wire}
use Rattle.grc_graph.proofs.Exports.{at_layer, same_layer-self}
use Rattle.grc_solutions_laws.specs.Heads.{head_in, head_go, region_of}
use Rattle.grc_regions.specs.HeadLists.{heads_of, head_number}
use Rattle.grc_regions.specs.Regions.{IsRegion, AreRegionsBefore}
use Rattle.grc_regions.proofs.HeadReads.{heads-at}
use Rattle.grc_regions.proofs.LiveHeads.{heads_live}

-- ---- heads by number

pub head-wire : (body : Term) (n : ℕ) (l : Layer) → head_go body n l ≡ Go (head_number (head_in 0 body 0 n) l) l
head-wire body n Resumed = refl
head-wire body n (Started r) = refl

-- a head lies in no region
pub own-region : (body : Term) (n : ℕ) (l : Layer) → head_number (head_in 0 body 0 n) l ≡ n → region_of body (Go n l) ≡ None
own-region body n l e =
    let whole : same_wire (Go n l) (head_go body n l) ≡ true
    = ap (same_wire (Go n l)) (head-wire body n l ∙ ap (λ h. Go h l) e) ∙ ap (λ b. b && same_layer l l) (eq-eqb n n refl) ∙ same_layer-self l in
    ap (λ b. if b then None else Some (head_go body n l)) whole

other-region : (body : Term) (n : ℕ) (l : Layer) → (head_number (head_in 0 body 0 n) l ≡ n → ⊥)
    → region_of body (Go n l) ≡ Some (Go (head_number (head_in 0 body 0 n) l) l)
other-region body n l d =
    let h = head_number (head_in 0 body 0 n) l in
    let whole : same_wire (Go n l) (head_go body n l) ≡ false
    = ap (same_wire (Go n l)) (head-wire body n l) ∙ ap (λ b. b && same_layer l l) (ne_eqb n h (λ e. d (sym e))) in
    ap (λ b. if b then None else Some (head_go body n l)) whole ∙ ap Some (head-wire body n l)

end-region : (body : Term) (n : ℕ) (l : Layer) (k : ℕ) → region_of body (End n l k) ≡ Some (Go (head_number (head_in 0 body 0 n) l) l)
end-region body n l k = ap Some (head-wire body n l)

-- ---- wires and instances of a graph

module _ (g : Graph) where
  abbrev body : Term
  body = term_of g.program.body

  pub named : (w : ℕ) (x : Stored) → w < length g.wires.items → x ≡ get_or g.wires.items w x → wire_at (names_of g) w ≡ wire_of (instances_of g) x
  named w x low at = get_or-map (wire_of (instances_of g)) g.wires.items w x _ low ∙ ap (wire_of (instances_of g)) (sym at)

  -- the instance of a wire is one of the graph's
  fits : (w : ℕ) (x : Stored) → w < length g.wires.items → x ≡ get_or g.wires.items w x → IsTrue (wire_fits (length g.instances.list.items) x)
  fits w x low at = subst (λ y. IsTrue (wire_fits (length g.instances.list.items) y)) (sym at) (g.indices.wires_fit w x low)

  pub end-low : (w : ℕ) (x : Stored) (i : InstId) (k : ℕ) → w < length g.wires.items → x ≡ get_or g.wires.items w x → x ≡ wires.End i k
      → i.0 < length (instances_of g)
  end-low w x i k low at is =
      let few = ltb-true i.0 (length g.instances.list.items) (subst (λ y. IsTrue (wire_fits (length g.instances.list.items) y)) is (fits w x low at)) in
      omega (arith, few, length-map g.instances.list.items instance_of)

  -- and is of a statement
  pub path-low : (i : ℕ) (own : Instance) → IsNumberOf (instances_of g) i (instance_of own) → own.path.0 < statement_count body
  path-low i own number =
      omega (arith, g.laid_out.within i number.within, ap (λ (x : plain.Instance). x.path) (number.same (record { path = 0; layer = Resumed })))

  abbrev head : List ℕ → Instance → ℕ
  head heads own = head_number (get_or heads own.path.0 0) (layer_of own.layer)

  head-is : (heads : List ℕ) (own : Instance) → heads ≡ heads_of 0 body 0 → own.path.0 < statement_count body
      → head heads own ≡ head_number (head_in 0 body 0 own.path.0) (layer_of own.layer)
  head-is heads own is low =
      let z : 0 + own.path.0 ≡ own.path.0 = omega arith in
      ap (λ h. head_number h (layer_of own.layer))
      (ap (λ hs. get_or hs own.path.0 0) is ∙ heads-at 0 body 0 own.path.0 low ∙ ap (head_in 0 body 0) z)

  -- the head of an instance is live
  pub head-live : IsGraphOf g (program_of g.program)
      → (heads : List ℕ) (own : Instance) (i : ℕ) → heads ≡ heads_of 0 body 0 → IsNumberOf (instances_of g) i (instance_of own)
      → Contains (instances_of g) (record { path = head heads own; layer = layer_of own.layer })
  head-live built heads own i is number =
      let here : Contains (instances_of g) (instance_of own) = (i, number.within, number.same (instance_of own)) in
      subst (λ h. Contains (instances_of g) (at_layer h (layer_of own.layer))) (sym (head-is heads own is (path-low i own number)))
      (subst (λ xs. Contains xs (at_layer (head_number (head_in 0 body 0 own.path.0) (layer_of own.layer)) (layer_of own.layer)))
      (sym built.instances)
      (heads_live body own.path.0 (layer_of own.layer) (subst (λ xs. Contains xs (instance_of own)) built.instances here)))

  module _ (w : ℕ) (x : Stored) (low : w < length g.wires.items) (at : x ≡ get_or g.wires.items w x) (heads : List ℕ) (is : heads ≡ heads_of 0 body 0)
      (own : Instance) (i : InstId) (number : IsNumberOf (instances_of g) i.0 (instance_of own)) (found : Option WireId) where
    go-named : x ≡ wires.Go i → wire_at (names_of g) w ≡ Go own.path.0 (layer_of own.layer)
    go-named go = named w x low at ∙ ap (wire_of (instances_of g)) go ∙ ap (λ (y : plain.Instance). Go y.path y.layer) (number.same _)

    pub go-own : x ≡ wires.Go i → head heads own ≡ own.path.0 → IsRegion (names_of g) (region_of body (wire_at (names_of g) w)) None
    go-own go e =
        subst (λ r. IsRegion (names_of g) r None)
        (sym (ap (region_of body) (go-named go)
        ∙ own-region body own.path.0 (layer_of own.layer) (sym (head-is heads own is (path-low i.0 own number)) ∙ e))) tt

    pub go-other : x ≡ wires.Go i → (head heads own ≡ own.path.0 → ⊥) → IsRegion (names_of g) (Some (Go (head heads own) (layer_of own.layer))) found
        → IsRegion (names_of g) (region_of body (wire_at (names_of g) w)) found
    go-other go d has =
        let same = head-is heads own is (path-low i.0 own number) in
        subst (λ r. IsRegion (names_of g) r found)
        (sym (ap (region_of body) (go-named go) ∙ other-region body own.path.0 (layer_of own.layer) (λ e. d (same ∙ e))))
        (subst (λ h. IsRegion (names_of g) (Some (Go h (layer_of own.layer))) found) same has)

    pub end-found : (k : ℕ) → x ≡ wires.End i k → IsRegion (names_of g) (Some (Go (head heads own) (layer_of own.layer))) found
        → IsRegion (names_of g) (region_of body (wire_at (names_of g) w)) found
    end-found k ends has =
        let same = head-is heads own is (path-low i.0 own number) in
        let name : wire_at (names_of g) w ≡ End own.path.0 (layer_of own.layer) k
        = named w x low at ∙ ap (wire_of (instances_of g)) ends ∙ ap (λ (y : plain.Instance). End y.path y.layer k) (number.same _) in
        subst (λ r. IsRegion (names_of g) r found) (sym (ap (region_of body) name ∙ end-region body own.path.0 (layer_of own.layer) k))
        (subst (λ h. IsRegion (names_of g) (Some (Go h (layer_of own.layer))) found) same has)

-- ---- one region more

pub one-more : (g : Graph) (n : ℕ) (regions : List (Option WireId)) (found : Option WireId) → AreRegionsBefore g n regions
    → IsRegion (names_of g) (region_of (term_of g.program.body) (wire_at (names_of g) n)) found → AreRegionsBefore g (n + 1) (regions ++ found ∷ [])
one-more g n regions found before here = record {
  each = length_push regions found ∙ ap (λ m. m + 1) before.each;
  are = λ w low. ⊎_elim
      (λ l. subst (IsRegion (names_of g) (region_of (term_of g.program.body) (wire_at (names_of g) w)))
      (sym (get_or_append_left regions (found ∷ []) None w (omega (arith, l, before.each)))) (before.are w l))
      (λ l. let e : w ≡ n = omega (arith, l, low) in
      subst (λ m. IsRegion (names_of g) (region_of (term_of g.program.body) (wire_at (names_of g) m)) (get_or (regions ++ found ∷ []) m None)) (sym e)
      (subst (IsRegion (names_of g) (region_of (term_of g.program.body) (wire_at (names_of g) n))) (sym (get_or_push regions found None n before.each)) here))
      (cases_lt w n);
}

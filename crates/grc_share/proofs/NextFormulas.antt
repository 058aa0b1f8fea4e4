-- The formulas of the next state, without the starts that name no shared instance.
use Rattle.std.proofs.Common.{◌≡◌, ℕ, ◌+◌, ◌<◌, ◌≤◌, Bool, true, false, not, cond, List, [], ◌∷◌, ◌++◌, length, map, get_or, take, refl, sym, ap, ◌∙◌, arith}
use Rattle.std.proofs.Common.{Box, Global}
use Rattle.std.specs.Prelude.{filter}
use Rattle.std.specs.List.{flat_map}
use Rattle.std.proofs.lemmas.List.{get_or-map, length-map, map-append, map_more, take_all}
use Rattle.std.proofs.lemmas.Simd.{map-map}
use Rattle.base_types.specs.declared.indices.InstId.{InstId}
use Rattle.base_types.specs.declared.indices.WireId.{WireId}
use Rattle.est_kernel.specs.Plain.{Program, program_of}
use Rattle.grc_graph.specs.declared.formulas.Formula as stored
use Rattle.grc_graph.specs.declared.formulas.Formula.TheVariants as formulas
use Rattle.grc_graph.specs.declared.graph.Graph.{Graph}
use Rattle.grc_graph.specs.BuiltGraphs.{IsGraphOf}
use Rattle.grc_graph.specs.Equations.{kept_start, next_formula}
use Rattle.grc_graph.specs.Formulas.{Formula, Const, Value, Selected, Kept, Held, Conjunction, Disjunction, any_of}
use Rattle.grc_graph.specs.GraphRuns.{graph_of}
use Rattle.grc_graph.specs.Instances.{Instance}
use Rattle.grc_graph.specs.Layers.{Layer, Resumed, Started, body_layers, same_layer}
use Rattle.grc_graph.specs.PlainGraphs.{formula_of, instances_of, names_of, wire_at}
use Rattle.grc_graph.specs.SelectionTrees.{body_leaves}
use Rattle.grc_graph.specs.Wires.{Wire, Go}
use Rattle.grc_graph.proofs.Exports.{same_layer-true}
use Rattle.grc_share.specs.Renamings.{StandsIn, is_kept_other, is_other_start, named_starts, values}
use Rattle.grc_share.specs.SharedGraphs.{renamed, shared_graph, shared_instances}
use Rattle.grc_share.specs.SharedInstances.{Sharing, body_sharing}
use Rattle.grc_share.specs.SharedWires.{shared_layer, shared_wires}

-- the or of wires is no start of an instance
pub values-no_starts : (K : Sharing) (names : List Wire) (list : List WireId)
    → renamed K (any_of (values names list)) ≡ named_starts K (any_of (values names list))
values-no_starts K names [] = refl
values-no_starts K names (w ∷ []) = refl
values-no_starts K names (w ∷ (v ∷ vs)) = ap (Disjunction (renamed K (Value (wire_at names w.0)))) (values-no_starts K names (v ∷ vs))

-- what selects a leaf without those starts, over layers
starts-kept : (K : Sharing) (n : ℕ) (ls : List Layer) (held : Formula) → named_starts K held ≡ held
    → named_starts K (any_of (flat_map (kept_start n) ls ++ (held ∷ [])))
    ≡ any_of (flat_map (kept_start n) (filter (λ l. same_layer (shared_layer K n l) l) ls) ++ (held ∷ []))
starts-kept K n [] held e = e
starts-kept K n (Resumed ∷ ls) held e = starts-kept K n ls held e
starts-kept K n (Started r ∷ ls) held e = by (same_layer (shared_layer K n (Started r)) (Started r)) refl (starts-kept K n ls held e)
  where
    named : List Layer
    named = filter (λ l. same_layer (shared_layer K n l) l) ls

    start : Layer → Formula
    start l = Conjunction (Value (Go n l)) (Kept n l)

    rest : Formula
    rest = any_of (flat_map (kept_start n) ls ++ (held ∷ []))

    some : (s : Formula) (fs : List Formula) (h : Formula) → any_of (s ∷ (fs ++ (h ∷ []))) ≡ Disjunction s (any_of (fs ++ (h ∷ [])))
    some s [] h = refl
    some s (f ∷ fs) h = refl

    by : (b : Bool) → same_layer (shared_layer K n (Started r)) (Started r) ≡ b
        → named_starts K rest ≡ any_of (flat_map (kept_start n) (filter (λ l. same_layer (shared_layer K n l) l) ls) ++ (held ∷ []))
        → named_starts K (any_of (start (Started r) ∷ (flat_map (kept_start n) ls ++ (held ∷ []))))
        ≡ any_of (flat_map (kept_start n) (cond b (Started r ∷ named) named) ++ (held ∷ []))
    by true f h =
        let same : shared_layer K n (Started r) ≡ Started r = same_layer-true _ (Started r) f in
        ap (named_starts K) (some (start (Started r)) (flat_map (kept_start n) ls) held)
        ∙ ap (λ b. cond (not b) (named_starts K rest) (Disjunction (renamed K (start (Started r))) (named_starts K rest))) f
        ∙ (λ i. Disjunction (start (same i)) (h i))
        ∙ sym (some (start (Started r)) (flat_map (kept_start n) (filter (λ l. same_layer (shared_layer K n l) l) ls)) held)
    by false f h =
        ap (named_starts K) (some (start (Started r)) (flat_map (kept_start n) ls) held)
        ∙ ap (λ b. cond (not b) (named_starts K rest) (Disjunction (renamed K (start (Started r))) (named_starts K rest))) f
        ∙ h

-- of a leaf
pub next-named : (K : Sharing) (n : ℕ) (ls : List Layer)
    → named_starts K (next_formula n ls) ≡ next_formula n (filter (λ l. same_layer (shared_layer K n l) l) ls)
next-named K n ls = starts-kept K n ls (Conjunction (Selected n) (Held n Resumed)) refl

-- of all leaves
pub next-shared : (p : Program) → map (named_starts (body_sharing p.body)) (graph_of p).next ≡ (shared_graph p).next
next-shared p =
    let K = body_sharing p.body in
    map-map (named_starts K) (λ n. next_formula n (body_layers p.body n)) (body_leaves p.body)
    ∙ ap (λ f. map f (body_leaves p.body)) (λ i n. next-named K n (body_layers p.body n) i)

-- ---- leaf by leaf

module _ (g : Graph) (built : IsGraphOf g (program_of g.program)) where
  next-plain : (graph_of (program_of g.program)).next ≡ map (formula_of (instances_of g) (names_of g)) g.next.items
  next-plain = sym (ap (λ x. x.next) built.graph)

  pub next-many : length (graph_of (program_of g.program)).next ≡ length g.next.items
  next-many = ap length next-plain ∙ length-map g.next.items (formula_of (instances_of g) (names_of g))

  -- one more leaf
  pub leaf-more : (i : ℕ) (d f : stored.Formula) (list : List stored.Formula) → i < length g.next.items
      → StandsIn (program_of g.program)
      (named_starts (body_sharing (program_of g.program).body) (formula_of (instances_of g) (names_of g) (get_or g.next.items i d))) f
      → map (formula_of (shared_instances (program_of g.program)) (shared_wires (program_of g.program))) list
      ≡ map (named_starts (body_sharing (program_of g.program).body)) (take i (graph_of (program_of g.program)).next)
      → map (formula_of (shared_instances (program_of g.program)) (shared_wires (program_of g.program))) (list ++ (f ∷ []))
      ≡ map (named_starts (body_sharing (program_of g.program).body)) (take (i + 1) (graph_of (program_of g.program)).next)
  leaf-more i d f list low stands so_far =
      let p = program_of g.program in
      let F = formula_of (shared_instances p) (shared_wires p) in
      let G = named_starts (body_sharing p.body) in
      let ns = (graph_of p).next in
      let here : get_or ns i (Const false) ≡ formula_of (instances_of g) (names_of g) (get_or g.next.items i d) =
      ap (λ xs. get_or xs i (Const false)) next-plain ∙ get_or-map (formula_of (instances_of g) (names_of g)) g.next.items i d (Const false) low in
      map-append F list (f ∷ []) ∙ (λ t. so_far t ++ (stands.same t ∷ []))
      ∙ ap (λ x. map G (take i ns) ++ (G x ∷ [])) (sym here)
      ∙ sym (map_more G ns i (Const false) (omega (arith, low, next-many)))

  -- all leaves
  pub leaves-all : (i : ℕ) (fs : List Formula) → length g.next.items ≤ i
      → fs ≡ map (named_starts (body_sharing (program_of g.program).body)) (take i (graph_of (program_of g.program)).next)
      → fs ≡ (shared_graph (program_of g.program)).next
  leaves-all i fs l e =
      e ∙ ap (map (named_starts (body_sharing (program_of g.program).body))) (take_all i (graph_of (program_of g.program)).next (omega (arith, l, next-many)))
      ∙ next-shared (program_of g.program)

-- ---- formulas by their form

-- what is no disjunction is no or of a start
pub no-starts : (K : Sharing) (insts : List Instance) (names : List Wire) (f : stored.Formula)
    → ((x y : Box stored.Formula Global) → f ≡ formulas.Or x y → ⊥)
    → renamed K (formula_of insts names f) ≡ named_starts K (formula_of insts names f)
no-starts K insts names (formulas.Const b) h = refl
no-starts K insts names formulas.Boot h = refl
no-starts K insts names (formulas.Input s) h = refl
no-starts K insts names (formulas.Wire w) h = refl
no-starts K insts names (formulas.Selected n) h = refl
no-starts K insts names (formulas.Upto i k) h = refl
no-starts K insts names (formulas.Kept i) h = refl
no-starts K insts names (formulas.Held i) h = refl
no-starts K insts names (formulas.Not' _ a) h = refl
no-starts K insts names (formulas.And' _ a _ b) h = refl
no-starts K insts names (formulas.Or' _ a _ b) h = absurd (h _ _ refl)
no-starts K insts names (formulas.AnyOf v) h = values-no_starts K names v.items

-- what is no conjunction is no start, and what does not say `Kept` is not that a start is kept
pub not-start : (K : Sharing) (insts : List Instance) (names : List Wire) (f : stored.Formula)
    → ((x y : Box stored.Formula Global) → f ≡ formulas.And x y → ⊥)
    → false ≡ is_other_start K (formula_of insts names f)
not-start K insts names (formulas.Const b) h = refl
not-start K insts names formulas.Boot h = refl
not-start K insts names (formulas.Input s) h = refl
not-start K insts names (formulas.Wire w) h = refl
not-start K insts names (formulas.Selected n) h = refl
not-start K insts names (formulas.Upto i k) h = refl
not-start K insts names (formulas.Kept i) h = refl
not-start K insts names (formulas.Held i) h = refl
not-start K insts names (formulas.Not' _ a) h = refl
not-start K insts names (formulas.And' _ a _ b) h = absurd (h _ _ refl)
not-start K insts names (formulas.Or' _ a _ b) h = refl
not-start K insts names (formulas.AnyOf v) h = by v.items
  where
    by : (list : List WireId) → false ≡ is_other_start K (any_of (values names list))
    by [] = refl
    by (w ∷ []) = refl
    by (w ∷ (v ∷ vs)) = refl

pub not-kept : (K : Sharing) (insts : List Instance) (names : List Wire) (f : stored.Formula)
    → ((i : InstId) → f ≡ formulas.Kept i → ⊥) → false ≡ is_kept_other K (formula_of insts names f)
not-kept K insts names (formulas.Const b) h = refl
not-kept K insts names formulas.Boot h = refl
not-kept K insts names (formulas.Input s) h = refl
not-kept K insts names (formulas.Wire w) h = refl
not-kept K insts names (formulas.Selected n) h = refl
not-kept K insts names (formulas.Upto i k) h = refl
not-kept K insts names (formulas.Kept i) h = absurd (h i refl)
not-kept K insts names (formulas.Held i) h = refl
not-kept K insts names (formulas.Not' _ a) h = refl
not-kept K insts names (formulas.And' _ a _ b) h = refl
not-kept K insts names (formulas.Or' _ a _ b) h = refl
not-kept K insts names (formulas.AnyOf v) h = by v.items
  where
    by : (list : List WireId) → false ≡ is_kept_other K (any_of (values names list))
    by [] = refl
    by (w ∷ []) = refl
    by (w ∷ (v ∷ vs)) = refl

-- a disjunction, whose left part is such a start or is not
pub start-dropped : (K : Sharing) (a b : Formula) → is_other_start K a ≡ true → named_starts K b ≡ named_starts K (Disjunction a b)
start-dropped K a b h = sym (ap (λ c. cond c (named_starts K b) (Disjunction (renamed K a) (named_starts K b))) h)

pub start-stays : (K : Sharing) (a b : Formula) → is_other_start K a ≡ false → Disjunction (renamed K a) (named_starts K b) ≡ named_starts K (Disjunction a b)
start-stays K a b h = sym (ap (λ c. cond c (named_starts K b) (Disjunction (renamed K a) (named_starts K b))) h)

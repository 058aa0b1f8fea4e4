-- The formulas of shared wires, from those of their least members.
use Rattle.std.proofs.Common.{◌≡◌, ℕ, ◌<◌, ◌==◌, Bool, true, false, cond, List, [], ◌∷◌, ◌++◌, length, get_or, refl, sym, ap, ◌∙◌, subst}
use Rattle.std.proofs.Common.{zero, suc, Option, Some, ⊎_elim, arith}
use Rattle.std.specs.Prelude.{All, Contains, IsTrue, nat_lt, slice_get}
use Rattle.std.specs.List.{list_any}
use Rattle.std.proofs.lemmas.Bool.{and_from, and_parts, both_ways, cases_Bool, eq-eqb, eqb-true, ne_eqb}
use Rattle.std.proofs.lemmas.List.{get_or-map, length-map}
use Rattle.std.proofs.lemmas.Option.{get_or_from_slice_get}
use Rattle.base_types.specs.declared.indices.InstId.{InstId}
use Rattle.base_types.specs.declared.indices.WireId.{WireId}
use Rattle.est_kernel.specs.Plain.{Program, given_count, program_of}
use Rattle.est_kernel.specs.Preorder.{statement_count}
use Rattle.est_kernel.specs.WellFormed.{IsKernel}
use Rattle.est_kernel.proofs.Exports.{trees_are_kernels_lem}
use Rattle.grc_graph.specs.declared.formulas.Formula as stored
use Rattle.grc_graph.specs.declared.formulas.Formula.TheVariants as formulas
use Rattle.grc_graph.specs.declared.graph.Graph.{Graph}
use Rattle.grc_graph.specs.declared.instances.Instance as listed
use Rattle.grc_graph.specs.declared.wires.Wire as kept
use Rattle.grc_graph.specs.declared.wires.Wire.TheVariants as wires
use Rattle.grc_graph.specs.BuiltGraphs.{IsGraphOf}
use Rattle.grc_graph.specs.Formulas.{Formula, Input, Value, Conjunction, Disjunction, any_of}
use Rattle.grc_graph.specs.GraphRuns.{graph_of}
use Rattle.grc_graph.specs.GraphShapes.{formula_fits}
use Rattle.grc_graph.specs.Instances.{Instance}
use Rattle.grc_graph.specs.Layers.{Layer, Resumed, Started}
use Rattle.grc_graph.specs.PlainGraphs.{formula_of, instance_at, instances_of, names_of, wire_at, wire_of}
use Rattle.grc_graph.specs.PlainInstances.{instance_of}
use Rattle.grc_graph.specs.Rows.{live_in, program_rows, row_at}
use Rattle.grc_graph.specs.Wires.{Wire, Out, Go, StatusOf}
use Rattle.grc_graph.specs.WireTables.{HasInstance, IsNumberOf, owner}
use Rattle.grc_graph.proofs.Exports.{instance_live, live_instance, name_at, place_once}
use Rattle.grc_share.specs.LeastMembers.{shared_of}
use Rattle.grc_share.specs.Renamings.{AreEmissions, AreNumbersOf, StandsFor, StandsIn, formula_at, own_in, values}
use Rattle.grc_share.specs.SharedGraphs.{formula_for, has_own, is_guarded, renamed, shared_end, shared_go}
use Rattle.grc_share.specs.SharedGraphs.{shared_formula, shared_instances}
use Rattle.grc_share.specs.SharedInstances.{Sharing, body_sharing}
use Rattle.grc_share.specs.SharedWires.{first_root, shared_layer, shared_wire, shared_wires}
use Rattle.grc_share.proofs.InstanceNumbers.{least-names}
use Rattle.grc_share.proofs.RowsLive.{program_gives}
use Rattle.grc_share.proofs.SharedNaming.{own-layer-end, own-layer-go}

-- ---- by cases of an instance

pub go-own : (p : Program) (x : Instance) (f : Formula) → own_in (body_sharing p.body) x ≡ true
    → Disjunction (renamed (body_sharing p.body) f) (renamed (body_sharing p.body) (formula_for (graph_of p).equations (Go x.path (Started x.path))))
    ≡ shared_go p x.path x.layer f
go-own p x f h = by x.layer refl
  where
    by : (l : Layer) → x.layer ≡ l
        → Disjunction (renamed (body_sharing p.body) f) (renamed (body_sharing p.body) (formula_for (graph_of p).equations (Go x.path (Started x.path))))
        ≡ shared_go p x.path x.layer f
    by Resumed e = absurd (both_ways (own_in (body_sharing p.body) x) (λ t. own_in (body_sharing p.body) (record { path = x.path; layer = e t })) h)
    by (Started r) e =
        let own : has_own (body_sharing p.body) x.path r ≡ true = (λ t. own_in (body_sharing p.body) (record { path = x.path; layer = sym e t })) ∙ h in
        sym ((λ t. shared_go p x.path (e t) f)
        ∙ ap (λ b. cond b (Disjunction (renamed (body_sharing p.body) f)
        (renamed (body_sharing p.body) (formula_for (graph_of p).equations (Go x.path (Started x.path))))) (renamed (body_sharing p.body) f)) own)

pub go-alone : (p : Program) (x : Instance) (f : Formula) → own_in (body_sharing p.body) x ≡ false
    → renamed (body_sharing p.body) f ≡ shared_go p x.path x.layer f
go-alone p x f h = by x.layer refl
  where
    by : (l : Layer) → x.layer ≡ l → renamed (body_sharing p.body) f ≡ shared_go p x.path x.layer f
    by Resumed e = λ t. shared_go p x.path (sym e t) f
    by (Started r) e =
        let own : has_own (body_sharing p.body) x.path r ≡ false = (λ t. own_in (body_sharing p.body) (record { path = x.path; layer = sym e t })) ∙ h in
        sym ((λ t. shared_go p x.path (e t) f)
        ∙ ap (λ b. cond b (Disjunction (renamed (body_sharing p.body) f)
        (renamed (body_sharing p.body) (formula_for (graph_of p).equations (Go x.path (Started x.path))))) (renamed (body_sharing p.body) f)) own)

pub end-guarded : (p : Program) (n : ℕ) (l : Layer) (f : Formula) → is_guarded (row_at (program_rows p) n).statement ≡ true
    → Conjunction (Value (Go n l)) (renamed (body_sharing p.body) f) ≡ shared_end p n l f
end-guarded p n l f h =
    sym (ap (λ b. cond b (Conjunction (Value (Go n l)) (renamed (body_sharing p.body) f)) (renamed (body_sharing p.body) f)) h)

pub end-free : (p : Program) (n : ℕ) (l : Layer) (f : Formula) → is_guarded (row_at (program_rows p) n).statement ≡ false
    → renamed (body_sharing p.body) f ≡ shared_end p n l f
end-free p n l f h =
    sym (ap (λ b. cond b (Conjunction (Value (Go n l)) (renamed (body_sharing p.body) f)) (renamed (body_sharing p.body) f)) h)

-- ---- members that are started by themselves

module _ (g : Graph) (built : IsGraphOf g (program_of g.program)) (least instances : List InstId) (wires : List ℕ)
    (are : AreNumbersOf g least instances wires) where
  abbrev p : Program
  p = program_of g.program

  abbrev K : Sharing
  K = body_sharing (program_of g.program).body

  kernel : IsKernel (program_of g.program).body
  kernel = trees_are_kernels_lem g.program.body

  abbrev at : ℕ → Instance
  at i = instance_at (instances_of g) i

  abbrev number : ℕ → ℕ
  number i = (get_or least i (record { 0 = 0 })).0

  number-of : (i : ℕ) → i < length g.instances.list.items → IsNumberOf (instances_of g) (number i) (shared_of K (at i))
  number-of i low = least-names g i (get_or least i (record { 0 = 0 })) low (are.least_instances i (record { 0 = 0 }) (omega (arith, low, are.each_least)))

  named : (i : ℕ) → i < length g.instances.list.items → at (number i) ≡ shared_of K (at i)
  named i low = (number-of i low).same _

  number-low : (i : ℕ) → i < length g.instances.list.items → number i < length g.instances.list.items
  number-low i low = omega (arith, (number-of i low).within, length-map g.instances.list.items instance_of)

  once : (i j : ℕ) → i < length g.instances.list.items → j < length g.instances.list.items → at i ≡ at j → i ≡ j
  once i j a b e = place_once g.instances.list.items i j g.tables.ascend a b e

  -- a start at its own root is live where the statement is among its roots
  own-live : (n : ℕ) → n < statement_count (program_of g.program).body → Contains (instances_of g) (record { path = n; layer = Started n })
      → list_any (λ s. s == n) (K.live n).roots ≡ true
  own-live n low c =
      let x = live_instance (program_of g.program) n (Started n)
      (subst (λ (xs : List Instance). Contains xs (record { path = n; layer = Started n })) built.instances c) in
      subst (λ a. live_in a (Started n) ≡ true) (program_gives (program_of g.program) kernel n (omega arith) (omega (arith, low))) x.live

  live-own : (n : ℕ) → n < statement_count (program_of g.program).body → list_any (λ s. s == n) (K.live n).roots ≡ true
      → Contains (instances_of g) (record { path = n; layer = Started n })
  live-own n low h =
      subst (λ (xs : List Instance). Contains xs (record { path = n; layer = Started n })) (sym built.instances)
      (instance_live (program_of g.program) n (Started n) low
      (subst (λ a. live_in a (Started n) ≡ true) (sym (program_gives (program_of g.program) kernel n (omega arith) (omega (arith, low)))) h))

  module _ (i : ℕ) (low : i < length g.instances.list.items) (r : ℕ) (layer : (at i).layer ≡ Started r)
      (within : (at i).path < statement_count (program_of g.program).body) where
    abbrev n : ℕ
    n = (at i).path

    here : at i ≡ record { path = n; layer = Started r }
    here = λ t. record { path = n; layer = layer t }

    own-test : own_in K (at i) ≡ has_own K n r
    own-test = λ t. own_in K (record { path = n; layer = layer t })

    -- one that is found, and is not the least itself
    pub own-found : (j : ℕ) → IsNumberOf (instances_of g) j (record { path = n; layer = Started n }) → (j ≡ i → ⊥) → number j ≡ i → own_in K (at i) ≡ true
    own-found j f other same =
        let low-j : j < length g.instances.list.items = omega (arith, f.within, length-map g.instances.list.items instance_of) in
        let e : at i ≡ shared_of K (record { path = n; layer = Started n }) = ap at (sym same) ∙ named j low-j ∙ ap (shared_of K) (f.same _) in
        let root : first_root K.root (K.live n).roots n ≡ r = started (sym (sym layer ∙ ap (λ z. z.layer) e)) in
        let apart : (n == r) ≡ false = ne_eqb n r (λ q. other (once j i low-j low (f.same _ ∙ (λ t. record { path = n; layer = Started (q t) }) ∙ sym here))) in
        own-test
        ∙ and_from (list_any (λ s. s == n) (K.live n).roots) _ (own-live n within (j, f.within, f.same _))
        (and_from (first_root K.root (K.live n).roots n == r) _ (eq-eqb _ r root) (ap (λ b. cond b false true) apart))
      where
        started : {a b : ℕ} → Started a ≡ Started b → a ≡ b
        started e = cc

    -- what has one has it at a number that is another, whose least member is this one
    own-is : own_in K (at i) ≡ true → (j : ℕ) → IsNumberOf (instances_of g) j (record { path = n; layer = Started n }) → (j ≡ i → ⊥) × (number j ≡ i)
    own-is h j f =
        let a = and_parts (list_any (λ s. s == n) (K.live n).roots) _ (sym own-test ∙ h) in
        let b = and_parts (first_root K.root (K.live n).roots n == r) _ a.1 in
        let root : first_root K.root (K.live n).roots n ≡ r = eqb-true _ r b.0 in
        let low-j : j < length g.instances.list.items = omega (arith, f.within, length-map g.instances.list.items instance_of) in (
          λ q.
              let same : n ≡ r = started (sym (ap (λ z. z.layer) (f.same _)) ∙ ap (λ z. (at z).layer) q ∙ layer) in
              both_ways (cond (n == r) false true) (ap (λ c. cond c false true) (eq-eqb n r same)) b.1,
          once (number j) i (number-low j low-j) low
              (named j low-j ∙ ap (shared_of K) (f.same _) ∙ (λ t. record { path = n; layer = Started (root t) }) ∙ sym here),
        )
      where
        started : {a b : ℕ} → Started a ≡ Started b → a ≡ b
        started e = cc

    pub own-same : (j : ℕ) → IsNumberOf (instances_of g) j (record { path = n; layer = Started n }) → ((j ≡ i → ⊥) → (number j ≡ i) → ⊥)
        → own_in K (at i) ≡ false
    own-same j f apart =
        ⊎_elim (λ h. let x = own-is h j f in absurd (apart x.0 x.1)) (λ h. h) (cases_Bool (own_in K (at i)))

    pub own-missing : ¬ Contains (instances_of g) (record { path = n; layer = Started n }) → own_in K (at i) ≡ false
    own-missing none =
        ⊎_elim (λ h. absurd (none (live-own n within (and_parts (list_any (λ s. s == n) (K.live n).roots) _ (sym own-test ∙ h)).0))) (λ h. h)
        (cases_Bool (own_in K (at i)))

-- ---- by cases of a wire

-- the formula of an output, and of a status
pub output-stands : (p : Program) (s : ℕ) (list : List WireId) (f : stored.Formula) (a : Formula) → AreEmissions p (Out s) list
    → ((insts : List Instance) (names : List Wire) → All (λ w. w.0 < length names) list
    → StandsFor insts names (any_of (cond (nat_lt s (given_count p)) (Input s ∷ []) [] ++ values names list)) f)
    → StandsIn p (shared_formula p (Out s) a) f
output-stands p s list f a h k =
    let r = k (shared_instances p) (shared_wires p) h.within in
    record { same = r.same ∙ ap (λ l. any_of (cond (nat_lt s (given_count p)) (Input s ∷ []) [] ++ l)) h.named; fits = r.fits }

pub status-stands : (p : Program) (n : ℕ) (l : Layer) (list : List WireId) (f : stored.Formula) (a : Formula) → AreEmissions p (StatusOf n l) list
    → ((insts : List Instance) (names : List Wire) → All (λ w. w.0 < length names) list → StandsFor insts names (any_of (values names list)) f)
    → StandsIn p (shared_formula p (StatusOf n l) a) f
status-stands p n l list f a h k =
    let r = k (shared_instances p) (shared_wires p) h.within in
    record { same = r.same ∙ ap any_of h.named; fits = r.fits }

-- the wire that was read by its number
module _ (g : Graph) (w : ℕ) (x : kept.Wire) (low : w < length g.wires.items) (is : x ≡ get_or g.wires.items w x) where
  pub wire-read : wire_at (names_of g) w ≡ wire_of (instances_of g) x
  wire-read = get_or-map (wire_of (instances_of g)) g.wires.items w x _ low ∙ ap (wire_of (instances_of g)) (sym is)

  -- its instance
  pub instance-low : (i : ℕ) → owner x ≡ Some i → i < length g.instances.list.items
  instance-low i o = g.tables.runs.own_in w i x low (ap owner (sym is) ∙ o)

  -- where it is its own shared wire, its instance names its shared one
  pub go-own-layer : (i : ℕ) → x ≡ wires.Go (record { 0 = i })
      → shared_wire (body_sharing (program_of g.program).body) (wire_at (names_of g) w) ≡ wire_at (names_of g) w
      → shared_layer (body_sharing (program_of g.program).body) (instance_at (instances_of g) i).path (instance_at (instances_of g) i).layer
      ≡ (instance_at (instances_of g) i).layer
  go-own-layer i e own =
      let K = body_sharing (program_of g.program).body in
      own-layer-go K (instance_at (instances_of g) i).path (instance_at (instances_of g) i).layer
      (subst (λ u. shared_wire K u ≡ u) (wire-read ∙ ap (wire_of (instances_of g)) e) own)

  pub end-own-layer : (i k : ℕ) → x ≡ wires.End (record { 0 = i }) k
      → shared_wire (body_sharing (program_of g.program).body) (wire_at (names_of g) w) ≡ wire_at (names_of g) w
      → shared_layer (body_sharing (program_of g.program).body) (instance_at (instances_of g) i).path (instance_at (instances_of g) i).layer
      ≡ (instance_at (instances_of g) i).layer
  end-own-layer i k e own =
      let K = body_sharing (program_of g.program).body in
      own-layer-end K (instance_at (instances_of g) i).path (instance_at (instances_of g) i).layer k
      (subst (λ u. shared_wire K u ≡ u) (wire-read ∙ ap (wire_of (instances_of g)) e) own)

-- the instance that was read by its number
module _ (g : Graph) (i : ℕ) (x : listed.Instance) (low : i < length g.instances.list.items) (is : x ≡ get_or g.instances.list.items i x) where
  pub instance-read : instance_at (instances_of g) i ≡ instance_of x
  instance-read = name_at g.instances.list.items i x _ low ∙ ap instance_of (sym is)

  pub path-low : x.path.0 < statement_count (program_of g.program).body
  path-low =
      omega (arith, g.laid_out.within i (omega (arith, low, length-map g.instances.list.items instance_of)), ap (λ (z : Instance). z.path) instance-read)

  -- what a search for its statement, started at its own root, answers
  pub own-sought : (near : List Instance) (r : Option InstId) → near ≡ instances_of g
      → HasInstance near r (record { path = x.path.0; layer = Started x.path.0 })
      → HasInstance (instances_of g) r (record { path = (instance_at (instances_of g) i).path; layer = Started (instance_at (instances_of g) i).path })
  own-sought near r e h =
      subst (λ n. HasInstance (instances_of g) r (record { path = n; layer = Started n })) (sym (ap (λ z. z.path) instance-read))
      (subst (λ (xs : List Instance). HasInstance xs r (record { path = x.path.0; layer = Started x.path.0 })) e h)

-- the formula that was read by its number fits
pub formula-fits : (g : Graph) (least instances : List InstId) (numbers : List ℕ) → AreNumbersOf g least instances numbers → (w : ℕ) (f : stored.Formula)
    → w < length g.wires.items → slice_get g.equations.items w ≡ Some f → IsTrue (formula_fits (length instances) (length numbers) f)
formula-fits g least instances numbers are w f low is =
    let same = sym (get_or_from_slice_get g.equations.items w f f is) in
    subst (λ n. IsTrue (formula_fits n (length numbers) f)) (sym (are.numbers.each_instance ∙ length-map g.instances.list.items instance_of))
    (subst (λ n. IsTrue (formula_fits (length g.instances.list.items) n f)) (sym (are.numbers.each_wire ∙ length-map g.wires.items (wire_of (instances_of g))))
    (subst (λ x. IsTrue (formula_fits (length g.instances.list.items) (length g.wires.items) x)) (sym same)
    (g.indices.equations_fit w f (omega (arith, low, g.indices.equations_all)))))

-- what is given or emitted, where something is emitted
pub not-empty : (n : ℕ) → (n == 0) ≡ false → 0 < n
not-empty zero e = absurd (both_ways (0 == 0) e refl)
not-empty (suc n) e = omega arith

pub given-some : (s : ℕ) (b : Bool) (fs : List Formula) → b ≡ true → (fs ≡ [] → ⊥) → Disjunction (Input s) (any_of fs) ≡ any_of (cond b (Input s ∷ []) [] ++ fs)
given-some s b [] e h = absurd (h refl)
given-some s b (x ∷ xs) e h = sym (ap (λ c. any_of (cond c (Input s ∷ []) [] ++ (x ∷ xs))) e)

-- the formula that was read by its number
pub formula-read : (g : Graph) (w : ℕ) (f : stored.Formula) → slice_get g.equations.items w ≡ Some f
    → formula_of (instances_of g) (names_of g) f ≡ formula_at g w
formula-read g w f is = ap (formula_of (instances_of g) (names_of g)) (sym (get_or_from_slice_get g.equations.items w f formulas.Boot is))

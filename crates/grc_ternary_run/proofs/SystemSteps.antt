-- The gates of a graph's wires, one after another.
use Rattle.std.proofs.Common.{◌≡◌, ℕ, ◌+◌, ◌-◌, ◌<◌, ◌≤◌, List, [], ◌∷◌, ◌++◌, length, slice_index_or, IsTrue, All, refl, sym, ap}
use Rattle.std.proofs.Common.{◌∙◌, subst, ⊎_elim, arith}
use Rattle.std.proofs.lemmas.Bool.{cases_eq, cases_lt, ltb-true}
use Rattle.std.proofs.lemmas.List.{get_or_append_left, get_or_push, length_push, length-append, get_or-append-add, get_or_default}
use Rattle.grc_formulas.specs.WordLaws.{AreWordsOf}
use Rattle.grc_ternary_gates.specs.declared.gates.Gate.{Gate}
use Rattle.grc_ternary_gates.specs.declared.gates.Gate.TheVariants as gates
use Rattle.grc_ternary_gates.specs.Systems.{gate_at, gate_fits}
use Rattle.grc_ternary_gates.specs.Tables.{AreGates, GateSays, Meaning, Shape, TableFits}
use Rattle.grc_ternary_gates.proofs.Exports.{extends-refl, fits-more, gate-stays}
use Rattle.grc_ternary_run.specs.declared.formulas.Making.{Making}
use Rattle.grc_ternary_run.specs.Chains.{AreChains}
use Rattle.grc_ternary_run.specs.Meanings.{GateMade, Ready, meaning_of, shape_of}
use Rattle.grc_ternary_run.specs.Systems.{CountsOf, GatesMade, equation_at}
use Rattle.grc_ternary_run.proofs.Making.{ready-stays}

-- a gate that reads no source fits whatever sources there are
fits-sources : (n m : ℕ) (g : Gate) → IsTrue (gate_fits n 0 g) → IsTrue (gate_fits n m g)
fits-sources n m (gates.Source k) fits = let h = ltb-true k 0 fits in absurd (omega arith)
fits-sources n m (gates.Same a) fits = fits
fits-sources n m (gates.Not a) fits = fits
fits-sources n m (gates.And a b) fits = fits
fits-sources n m (gates.Or a b) fits = fits

-- once the chains are made, gates can be
pub ready-begun : (m : Making) (table : List Gate) → AreWordsOf m.graph.now m.words.now
    → CountsOf m.graph.now m.words.now m.counts → AreChains m.graph.now m.words.now table m.chains.now → Ready m table
ready-begun m table a counted chains =
    let some = a.one_per_statement in
    let all = counted.statements in
    let fit : TableFits (shape_of m) table =
    λ k low. fits-sources (length m.graph.now.wires.items + k) (shape_of m).sources (gate_at table k) (chains.fit k low) in
    record {
      words = a;
      small = counted.small;
      some = omega arith;
      each = chains.each;
      extends = extends-refl (shape_of m) table fit;
      chains = λ i v low run. let says = chains.says i v low run in record { low = says.low; value = λ S T fixed. says.value S T fixed };
    }

pub no-gates : (m : Making) (table : List Gate) → Ready m table → GatesMade m table [] 0
no-gates m table r = record { ready = r; each = refl; says = λ v low. absurd (omega arith) }

-- the gate of one more wire
pub gates-more : (m : Making) (old new : List Gate) (made : List Gate) (count : ℕ) (g : Gate) → GatesMade m old made count
    → GateMade m old new g (meaning_of m (equation_at m.graph.now count)) → GatesMade m new (made ++ g ∷ []) (count + 1)
gates-more m old new made count g so one =
    let each = so.each in
    let more = length_push made g in
    record {
      ready = ready-stays m old new so.ready one.extends;
      each = omega arith;
      says = λ v low. ⊎_elim
          (λ (same : v ≡ count).
          let at : gate_at (made ++ g ∷ []) v ≡ g = ap (gate_at (made ++ g ∷ [])) same ∙ get_or_push made g (gates.Source 0) count each in
          let G : Gate → ℕ → Type 0 = λ x n. GateSays (shape_of m) new x (meaning_of m (equation_at m.graph.now n)) in
          subst (λ x. G x v) (sym at) (subst (G g) (sym same) one.says))
          (λ (apart : v ≡ count → ⊥).
          let under : v < count = omega arith in
          let at : gate_at (made ++ g ∷ []) v ≡ gate_at made v = get_or_append_left made (g ∷ []) (gates.Source 0) v (omega arith) in
          let G : Gate → Type 0 = λ x. GateSays (shape_of m) new x (meaning_of m (equation_at m.graph.now v)) in
          subst G (sym at) (gate-stays (shape_of m) old new (gate_at made v) (meaning_of m (equation_at m.graph.now v)) one.extends (so.says v under)))
          (cases_eq v count);
    }

pub gates-are : (m : Making) (table front : List Gate) → GatesMade m table front (length m.graph.now.wires.items)
    → AreGates (shape_of m) front table (λ v. meaning_of m (equation_at m.graph.now v))
gates-are m table front made = record { each = made.each; fit = made.ready.extends.fit; says = made.says }

-- all gates read nodes and sources that there are
pub all-fit : (b : Shape) (front table : List Gate) (F : ℕ → Meaning) → AreGates b front table F
    → All (λ g. IsTrue (gate_fits (length (front ++ table)) b.sources g)) (front ++ table)
all-fit b front table F a n d low =
    let each = a.each in
    let whole = length-append front table in
    let G : ℕ → Gate → Type 0 = λ k g. IsTrue (gate_fits k b.sources g) in
    let whole_is : b.wires + length table ≡ length (front ++ table) = omega arith in
    ⊎_elim
    (λ (wire : n < b.wires).
    let at = get_or_append_left front table d n (omega arith) in
    let same = get_or_default front n d (gates.Source 0) (omega arith) in
    subst (G (length (front ++ table))) (sym (at ∙ same)) (subst (λ k. G k (gate_at front n)) whole_is (a.says n wire).fits))
    (λ (gate : b.wires ≤ n).
    let k = n - b.wires in
    let e : length front + k ≡ n = omega arith in
    let under : k < length table = omega arith in
    let at : slice_index_or (front ++ table) n d ≡ slice_index_or table k d =
    ap (λ j. slice_index_or (front ++ table) j d) (sym e) ∙ get_or-append-add front table k d in
    let same = get_or_default table k d (gates.Source 0) under in
    subst (G (length (front ++ table))) (sym (at ∙ same))
    (fits-more (b.wires + k) (length (front ++ table)) b.sources (gate_at table k) (omega arith) (a.fit k under)))
    (cases_lt n b.wires)

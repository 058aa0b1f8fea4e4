-- The chains of ends, one wire on.
use Rattle.std.proofs.Common.{◌≡◌, ℕ, suc, ◌+◌, ◌-◌, ◌<◌, ◌≤◌, Bool, true, false, not, ◌==◌, ◌&&◌, nat_lt, List, [], ◌∷◌, ◌++◌, length}
use Rattle.std.proofs.Common.{slice_index, IsTrue, refl, sym, ap, ◌∙◌, subst, ⊎_elim, arith}
use Rattle.std.proofs.lemmas.Bool.{lt-ltb, cases_eq, eqb-true, eq-eqb, and_from, and_parts, ltb-true, false≢true}
use Rattle.std.proofs.Common.{take, drop, length-drop, slice_index_or}
use Rattle.std.specs.List.{prefix_len}
use Rattle.std.proofs.lemmas.List.Sums.{prefix_len_is}
use Rattle.std.proofs.lemmas.List.{get_or_append_left, get_or_push, length_push, take_all}
use Rattle.est_kernel.specs.Statuses.{Status, disjunction}
use Rattle.grc_graph.specs.declared.graph.Graph.{Graph}
use Rattle.grc_graph.specs.declared.wires.Wire.{Wire}
use Rattle.grc_graph.specs.declared.wires.Wire.TheVariants as wires
use Rattle.grc_formulas.specs.WordLaws.{first_end}
use Rattle.grc_formulas.specs.declared.table.Words.{Words}
use Rattle.grc_ternary_gates.specs.declared.gates.Gate.{Gate}
use Rattle.grc_ternary_gates.specs.declared.gates.Gate.TheVariants as gates
use Rattle.grc_ternary_gates.specs.Systems.{gate_fits, gate_status}
use Rattle.grc_ternary_gates.specs.Tables.{Extends, GateSays, Meaning, NodeSays, Shape, nodes_of}
use Rattle.grc_ternary_gates.proofs.Exports.{extends-length, extends-refl, node-stays, or-says, pushed-extends, pushed-says, wire-says}
use Rattle.grc_ternary_run.specs.Chains.{ChainsSoFar, IsRun, any_status, bare, continues, continues_as, is_end_of, wire_number}

-- a node with another meaning that is always the same
pub node-means : (b : Shape) (t : List Gate) (n : ℕ) (m k : Meaning) → ((S : List Bool) (T : ℕ → Status) → m S T ≡ k S T) → NodeSays b t n m → NodeSays b t n k
node-means b t n m k same says = record { low = says.low; value = λ S T fixed. says.value S T fixed ∙ same S T }

pub gate-means : (b : Shape) (t : List Gate) (g : Gate) (m k : Meaning) → ((S : List Bool) (T : ℕ → Status) → m S T ≡ k S T)
    → GateSays b t g m → GateSays b t g k
gate-means b t g m k same says = record { fits = says.fits; value = λ S T fixed. says.value S T fixed ∙ same S T }

-- whatever a gate says, it is a meaning
pub gate-any : (b : Shape) (t : List Gate) (g : Gate) → IsTrue (gate_fits (b.wires + length t) b.sources g)
    → GateSays b t g (λ S T. gate_status S (nodes_of b.wires S T t) g)
gate-any b t g fits = record { fits = fits; value = λ S T fixed. refl }

-- one more chain
chains-more : (g : Graph) (w : Words) (old new : List Gate) (chains : List ℕ) (count node : ℕ) → ChainsSoFar g w old chains count
    → Extends (bare g 0) old new → node < length g.wires.items + length new
    → ((i : ℕ) → IsRun g w i count → NodeSays (bare g 0) new node (λ S T. any_status T (first_end w i) (count + 1 - first_end w i)))
    → ChainsSoFar g w new (chains ++ node ∷ []) (count + 1)
chains-more g w old new chains count node so e low says =
    let each = so.each in
    let more = length_push chains node in
    let longer = extends-length (bare g 0) old new e in
    let at : slice_index (chains ++ node ∷ []) count ≡ node = get_or_push chains node 0 count each in
    let before : (v : ℕ) → v < count → slice_index (chains ++ node ∷ []) v ≡ slice_index chains v = λ v h.
    get_or_append_left chains (node ∷ []) 0 v (omega arith) in
    record {
      each = omega arith;
      fit = e.fit;
      low = λ v h. ⊎_elim
          (λ (same : v ≡ count). let here = ap (slice_index (chains ++ node ∷ [])) same ∙ at in omega arith)
          (λ (apart : v ≡ count → ⊥).
          let under : v < count = omega arith in let b = before v under in let l = so.low v under in omega arith)
          (cases_eq v count);
      says = λ i v h run. ⊎_elim
          (λ (same : v ≡ count).
          let here : node ≡ slice_index (chains ++ node ∷ []) v = sym (ap (slice_index (chains ++ node ∷ [])) same ∙ at) in
          let N : ℕ → ℕ → Type 0 = λ n u. NodeSays (bare g 0) new n (λ S T. any_status T (first_end w i) (u + 1 - first_end w i)) in
          subst (λ n. N n v) here (subst (N node) (sym same) (says i (subst (IsRun g w i) same run))))
          (λ (apart : v ≡ count → ⊥).
          let under : v < count = omega arith in
          let N : ℕ → Type 0 = λ n. NodeSays (bare g 0) new n (λ S T. any_status T (first_end w i) (v + 1 - first_end w i)) in
          subst N (sym (before v under)) (node-stays (bare g 0) old new (slice_index chains v) _ e (so.says i v under run)))
          (cases_eq v count);
    }

run-test : (w : Words) (i v : ℕ) (x : Wire) → is_end_of i x ≡ true → continues_as w v x ≡ (nat_lt 0 v && not (first_end w i == v))
run-test w i v (wires.Go j) h = absurd (false≢true h)
run-test w i v (wires.End j c) h = ap (λ n. nat_lt 0 v && not (first_end w n == v)) (eqb-true j.0 i h)
run-test w i v (wires.Local j) h = absurd (false≢true h)
run-test w i v (wires.Out s) h = absurd (false≢true h)

-- whether an end of an instance is its first
is-first : (g : Graph) (w : Words) (i v : ℕ) → IsRun g w i v → continues g w v ≡ false → first_end w i ≡ v
is-first g w i v run off = ⊎_elim
    (λ (same : first_end w i ≡ v). same)
    (λ (apart : first_end w i ≡ v → ⊥).
    let from = run.from in
    let test = run-test w i v (wire_number g v) (run.ends v from (omega arith)) in
    let some : nat_lt 0 v ≡ true = lt-ltb 0 v (omega arith) in
    let other : not (first_end w i == v) ≡ true = by (first_end w i == v) refl apart in
    absurd (false≢true (sym off ∙ test ∙ and_from (nat_lt 0 v) (not (first_end w i == v)) some other)))
    (cases_eq (first_end w i) v)
  where
    by : (b : Bool) → (first_end w i == v) ≡ b → (first_end w i ≡ v → ⊥) → not (first_end w i == v) ≡ true
    by true e apart = absurd (apart (eqb-true (first_end w i) v e))
    by false e apart = ap not e

is-later : (g : Graph) (w : Words) (i v : ℕ) → IsRun g w i v → continues g w v ≡ true → first_end w i < v
is-later g w i v run on = ⊎_elim
    (λ (same : first_end w i ≡ v).
    let from = run.from in
    let test = run-test w i v (wire_number g v) (run.ends v from (omega arith)) in
    let never : not (first_end w i == v) ≡ false = ap not (eq-eqb (first_end w i) v same) in
    absurd (false≢true (sym (and-false (nat_lt 0 v)) ∙ ap (λ b. nat_lt 0 v && b) (sym never) ∙ sym test ∙ on)))
    (λ (apart : first_end w i ≡ v → ⊥). let from = run.from in omega arith)
    (cases_eq (first_end w i) v)
  where
    and-false : (b : Bool) → (b && false) ≡ false
    and-false true = refl
    and-false false = refl

-- a wire that begins a run, or is no end
pub begins-chain : (g : Graph) (w : Words) (table : List Gate) (chains : List ℕ) (v : ℕ) → ChainsSoFar g w table chains v → v < length g.wires.items
    → continues g w v ≡ false → ChainsSoFar g w table (chains ++ v ∷ []) (v + 1)
begins-chain g w table chains v so low off =
    chains-more g w table table chains v v so (extends-refl (bare g 0) table so.fit) (omega arith) (λ i run.
    let first = is-first g w i v run off in
    let count : v + 1 - first_end w i ≡ 1 = omega arith in
    let at : first_end w i + 0 ≡ v = omega arith in
    node-means (bare g 0) table v (λ S T. T v) (λ S T. any_status T (first_end w i) (v + 1 - first_end w i))
    (λ S T. sym (ap (any_status T (first_end w i)) count ∙ ap T at)) (wire-says (bare g 0) table v low))

-- a wire that goes on with a run
pub goes-on-chain : (g : Graph) (w : Words) (table : List Gate) (chains : List ℕ) (v last : ℕ) → ChainsSoFar g w table chains v → v < length g.wires.items
    → 0 < v → last ≡ slice_index chains (v - 1) → continues g w v ≡ true
    → ChainsSoFar g w (table ++ gates.Or last v ∷ []) (chains ++ (length g.wires.items + length table) ∷ []) (v + 1)
goes-on-chain g w table chains v last so low some is on =
    let b = bare g 0 in
    let under : v - 1 < v = omega arith in
    let last_low : last < length g.wires.items + length table = let l = so.low (v - 1) under in omega arith in
    let fits : IsTrue (gate_fits (b.wires + length table) b.sources (gates.Or last v)) =
    and_from _ _ (lt-ltb last (b.wires + length table) last_low) (lt-ltb v (b.wires + length table) (omega arith)) in
    let e : Extends b table (table ++ gates.Or last v ∷ []) = pushed-extends b table (gates.Or last v) _ so.fit (gate-any b table (gates.Or last v) fits) in
    chains-more g w table (table ++ gates.Or last v ∷ []) chains v (length g.wires.items + length table) so e
    (let more = length_push table (gates.Or last v) in omega arith) (λ i run.
    let later = is-later g w i v run on in
    let first = first_end w i in
    let run_before : IsRun g w i (v - 1) = record { from = omega arith; ends = λ u from to. run.ends u from (omega arith) } in
    let N : ℕ → Type 0 = λ n. NodeSays b table n (λ S T. any_status T first (v - 1 + 1 - first)) in
    let before : N last = subst N (sym is) (so.says i (v - 1) under run_before) in
    let says = or-says b table last v (λ S T. any_status T first (v - 1 + 1 - first)) (λ S T. T v) before (wire-says b table v low) in
    let count : v + 1 - first ≡ suc (v - first) = omega arith in
    let same : v - 1 + 1 - first ≡ v - first = omega arith in
    let at : first + (v - first) ≡ v = omega arith in
    node-means b (table ++ gates.Or last v ∷ []) (b.wires + length table)
    (λ S T. disjunction (any_status T first (v - 1 + 1 - first)) (T v)) (λ S T. any_status T first (v + 1 - first))
    (λ S T. (λ j. disjunction (any_status T first (same j)) (T (sym at j))) ∙ sym (ap (any_status T first) count))
    (pushed-says b table (gates.Or last v) _ says))

-- no wire has a chain at first
pub no-chains : (g : Graph) (w : Words) (table : List Gate) → length table ≡ 0 → ChainsSoFar g w table [] 0
no-chains g w table none = record {
  each = refl;
  fit = λ k low. absurd (omega arith);
  low = λ v h. absurd (omega arith);
  says = λ i v h run. absurd (omega arith);
}

-- the first wire begins its run
pub is-some : (g : Graph) (w : Words) (v : ℕ) → continues g w v ≡ true → 0 < v
is-some g w v on = by (wire_number g v) on where
  by : (x : Wire) → continues_as w v x ≡ true → 0 < v
  by (wires.Go j) h = absurd (false≢true h)
  by (wires.End j c) h = ltb-true 0 v (and_parts (nat_lt 0 v) (not (first_end w j.0 == v)) h).0
  by (wires.Local j) h = absurd (false≢true h)
  by (wires.Out s) h = absurd (false≢true h)

-- so many of the ends behind a place pass
pub counted : (p : Wire → Bool) (items xs : List Wire) (first n count : ℕ) (d : Wire) → xs ≡ items → first ≡ n
    → count ≤ length (take (length xs - first) (drop first xs))
    → ((k : ℕ) (e : Wire) → k < count → p (slice_index_or (take (length xs - first) (drop first xs)) k e) ≡ true)
    → (count < length (take (length xs - first) (drop first xs)) → p (slice_index_or (take (length xs - first) (drop first xs)) count d) ≡ false)
    → count ≡ prefix_len p (drop n items)
counted p items xs first n count d same at le passes stops =
    let all = take (length xs - first) (drop first xs) in
    let many = length-drop first xs in
    let whole : all ≡ drop first xs = take_all (length xs - first) (drop first xs) (omega arith) in
    sym (prefix_len_is p all count d le (λ k low. passes k d low) stops)
    ∙ ap (prefix_len p) whole ∙ (λ i. prefix_len p (drop (at i) (same i)))

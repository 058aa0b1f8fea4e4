-- What the gates of a table say, and that the least solution of gates over a table is that of the wires' meanings.
use Rattle.std.proofs.Common.{◌≡◌, ℕ, zero, suc, ◌+◌, ◌-◌, ◌<◌, ◌≤◌, Bool, false, nat_lt, List, [], ◌∷◌, ◌++◌, length}
use Rattle.std.proofs.Common.{slice_index_or, IsTrue, refl, sym, ap, ◌∙◌, subst, ⊎_elim, arith}
use Rattle.std.proofs.lemmas.Bool.{ltb-true, lt-ltb, le-ltb, cases_lt, cases_eq, and_parts, and_from}
use Rattle.std.proofs.lemmas.List.{get_or_append_left, get_or-append-add, get_or_push, length_push, length-append, append-nil, append_assoc}
use Rattle.est_kernel.specs.Laws.{IsBelow}
use Rattle.est_kernel.specs.Statuses.{Status, Unknown, known, opposite, conjunction, disjunction}
use Rattle.grc_ternary_gates.specs.declared.gates.Gate.{Gate}
use Rattle.grc_ternary_gates.specs.declared.gates.Gate.TheVariants as gates
use Rattle.grc_ternary_gates.specs.Systems.{IsLeastSolution, IsSolution, gate_at, gate_fits, gate_status}
use Rattle.grc_ternary_gates.specs.Tables.{AreGates, Extends, GateSays, IsFixed, IsLeastOf, Meaning, NodeSays, Shape, TableFits, node_status, nodes_of}
use Rattle.grc_ternary_gates.specs.Tables.{table_values}

-- each gate adds one value
pub length-values : (w : ℕ) (S : List Bool) (T : ℕ → Status) (values : List Status) (t : List Gate)
    → length (table_values w S T values t) ≡ length values + length t
length-values w S T values [] = omega arith
length-values w S T values (g ∷ t) =
    let v = gate_status S (node_status w T values) g in
    omega (arith, length-values w S T (values ++ v ∷ []) t, length_push values v)

pub values-append : (w : ℕ) (S : List Bool) (T : ℕ → Status) (values : List Status) (first others : List Gate)
    → table_values w S T values (first ++ others) ≡ table_values w S T (table_values w S T values first) others
values-append w S T values [] others = refl
values-append w S T values (g ∷ first) others = values-append w S T (values ++ gate_status S (node_status w T values) g ∷ []) first others

-- the values that are given stay
pub value-stays : (w : ℕ) (S : List Bool) (T : ℕ → Status) (values : List Status) (t : List Gate) (n : ℕ) → n < length values
    → slice_index_or (table_values w S T values t) n Unknown ≡ slice_index_or values n Unknown
value-stays w S T values [] n low = refl
value-stays w S T values (g ∷ t) n low =
    let v = gate_status S (node_status w T values) g in
    let longer : n < length (values ++ v ∷ []) = omega (arith, length_push values v) in
    value-stays w S T (values ++ v ∷ []) t n longer ∙ get_or_append_left values (v ∷ []) Unknown n low

-- the status of a wire, and of a node behind the wires
pub at-wire : (w : ℕ) (T : ℕ → Status) (values : List Status) (n : ℕ) → n < w → node_status w T values n ≡ T n
at-wire w T values n low = rw (lt-ltb n w low) refl

pub at-gate : (w : ℕ) (T : ℕ → Status) (values : List Status) (n : ℕ) → w ≤ n → node_status w T values n ≡ slice_index_or values (n - w) Unknown
at-gate w T values n high = rw (le-ltb n w high) refl

-- more values change nothing of the nodes so far
pub node-same : (w : ℕ) (S : List Bool) (T : ℕ → Status) (values : List Status) (t : List Gate) (n : ℕ) → n < w + length values
    → node_status w T (table_values w S T values t) n ≡ node_status w T values n
node-same w S T values t n low = ⊎_elim
    (λ (wire : n < w). at-wire w T (table_values w S T values t) n wire ∙ sym (at-wire w T values n wire))
    (λ (gate : w ≤ n).
    at-gate w T (table_values w S T values t) n gate ∙ value-stays w S T values t (n - w) (omega arith) ∙ sym (at-gate w T values n gate))
    (cases_lt n w)

-- a gate has the same status, where the nodes that it may read have
pub gate-agrees : (S : List Bool) (U V : ℕ → Status) (nodes sources : ℕ) (g : Gate) → IsTrue (gate_fits nodes sources g)
    → ((n : ℕ) → n < nodes → U n ≡ V n) → gate_status S U g ≡ gate_status S V g
gate-agrees S U V nodes sources (gates.Source k) fits same = refl
gate-agrees S U V nodes sources (gates.Same a) fits same = same a (ltb-true a nodes fits)
gate-agrees S U V nodes sources (gates.Not a) fits same = ap opposite (same a (ltb-true a nodes fits))
gate-agrees S U V nodes sources (gates.And a b) fits same =
    let p = and_parts (nat_lt a nodes) (nat_lt b nodes) fits in
    let x = same a (ltb-true a nodes p.0) in
    let y = same b (ltb-true b nodes p.1) in
    λ i. conjunction (x i) (y i)
gate-agrees S U V nodes sources (gates.Or a b) fits same =
    let p = and_parts (nat_lt a nodes) (nat_lt b nodes) fits in
    let x = same a (ltb-true a nodes p.0) in
    let y = same b (ltb-true b nodes p.1) in
    λ i. disjunction (x i) (y i)

pub lt-more : (a n m : ℕ) → n ≤ m → IsTrue (nat_lt a n) → IsTrue (nat_lt a m)
lt-more a n m le h = let l = ltb-true a n h in lt-ltb a m (omega arith)

-- what reads few nodes may read more
pub fits-more : (n m sources : ℕ) (g : Gate) → n ≤ m → IsTrue (gate_fits n sources g) → IsTrue (gate_fits m sources g)
fits-more n m sources (gates.Source k) le fits = fits
fits-more n m sources (gates.Same a) le fits = lt-more a n m le fits
fits-more n m sources (gates.Not a) le fits = lt-more a n m le fits
fits-more n m sources (gates.And a b) le fits =
    let p = and_parts (nat_lt a n) (nat_lt b n) fits in and_from _ _ (lt-more a n m le p.0) (lt-more b n m le p.1)
fits-more n m sources (gates.Or a b) le fits =
    let p = and_parts (nat_lt a n) (nat_lt b n) fits in and_from _ _ (lt-more a n m le p.0) (lt-more b n m le p.1)

-- the nodes of a part of a table are those of the whole
pub part-same : (b : Shape) (old new : List Gate) (S : List Bool) (T : ℕ → Status) (n : ℕ) → Extends b old new → n < b.wires + length old
    → nodes_of b.wires S T new n ≡ nodes_of b.wires S T old n
part-same b old new S T n e low =
    let values = table_values b.wires S T [] old in
    let many = length-values b.wires S T [] old in
    ap (λ t. nodes_of b.wires S T t n) e.more.1
    ∙ ap (λ vs. node_status b.wires T vs n) (values-append b.wires S T [] old e.more.0)
    ∙ node-same b.wires S T values e.more.0 n (omega arith)

pub extends-length : (b : Shape) (old new : List Gate) → Extends b old new → length old ≤ length new
extends-length b old new e = omega (arith, ap length e.more.1, length-append old e.more.0)

pub extends-refl : (b : Shape) (t : List Gate) → TableFits b t → Extends b t t
extends-refl b t fit = record { fit = fit; more = ([], sym (append-nil t)) }

pub extends-both : (b : Shape) (old mid new : List Gate) → Extends b old mid → Extends b mid new → Extends b old new
extends-both b old mid new e f = record {
  fit = f.fit;
  more = (e.more.0 ++ f.more.0, f.more.1 ∙ ap (λ t. t ++ f.more.0) e.more.1 ∙ append_assoc old e.more.0 f.more.0);
}

pub node-stays : (b : Shape) (old new : List Gate) (n : ℕ) (m : Meaning) → Extends b old new → NodeSays b old n m → NodeSays b new n m
node-stays b old new n m e says = record {
  low = let l = says.low in let k = extends-length b old new e in omega arith;
  value = λ S T fixed. part-same b old new S T n e says.low ∙ says.value S T fixed;
}

pub gate-stays : (b : Shape) (old new : List Gate) (g : Gate) (m : Meaning) → Extends b old new → GateSays b old g m → GateSays b new g m
gate-stays b old new g m e says = record {
  fits = let k = extends-length b old new e in fits-more (b.wires + length old) (b.wires + length new) b.sources g (omega arith) says.fits;
  value = λ S T fixed.
      gate-agrees S (nodes_of b.wires S T new) (nodes_of b.wires S T old) (b.wires + length old) b.sources g says.fits
      (λ n low. part-same b old new S T n e low) ∙ says.value S T fixed;
}

-- one more gate of a table fits
table-more : (b : Shape) (t : List Gate) (g : Gate) → TableFits b t → IsTrue (gate_fits (b.wires + length t) b.sources g) → TableFits b (t ++ g ∷ [])
table-more b t g fit fits k low = ⊎_elim
    (λ (same : k ≡ length t).
    let at : gate_at (t ++ g ∷ []) k ≡ g = ap (gate_at (t ++ g ∷ [])) same ∙ get_or_push t g (gates.Source 0) (length t) refl in
    subst (λ x. IsTrue (gate_fits (b.wires + k) b.sources x)) (sym at)
    (subst (λ n. IsTrue (gate_fits (b.wires + n) b.sources g)) (sym same) fits))
    (λ (apart : k ≡ length t → ⊥).
    let more = length_push t g in
    let under : k < length t = omega arith in
    let at : gate_at (t ++ g ∷ []) k ≡ gate_at t k = get_or_append_left t (g ∷ []) (gates.Source 0) k under in
    subst (λ x. IsTrue (gate_fits (b.wires + k) b.sources x)) (sym at) (fit k under))
    (cases_eq k (length t))

pub pushed-extends : (b : Shape) (t : List Gate) (g : Gate) (m : Meaning) → TableFits b t → GateSays b t g m → Extends b t (t ++ g ∷ [])
pushed-extends b t g m fit says = record { fit = table-more b t g fit says.fits; more = (g ∷ [], refl) }

-- a gate at the end of a table is a node of its meaning
pub pushed-says : (b : Shape) (t : List Gate) (g : Gate) (m : Meaning) → GateSays b t g m → NodeSays b (t ++ g ∷ []) (b.wires + length t) m
pushed-says b t g m says = record {
  low = let more = length_push t g in omega arith;
  value = λ S T fixed.
      let values = table_values b.wires S T [] t in
      let many = length-values b.wires S T [] t in
      let v = gate_status S (node_status b.wires T values) g in
      let e : b.wires + length t - b.wires ≡ length values = omega arith in
      ap (λ vs. node_status b.wires T vs (b.wires + length t)) (values-append b.wires S T [] t (g ∷ []))
      ∙ at-gate b.wires T (values ++ v ∷ []) (b.wires + length t) (omega arith)
      ∙ ap (λ n. slice_index_or (values ++ v ∷ []) n Unknown) e ∙ get_or_push values v Unknown (length values) refl ∙ says.value S T fixed;
}

-- what gates say
pub wire-says : (b : Shape) (t : List Gate) (w : ℕ) → w < b.wires → NodeSays b t w (λ S T. T w)
wire-says b t w low = record {
  low = omega arith;
  value = λ S T fixed. at-wire b.wires T (table_values b.wires S T [] t) w low;
}

pub source-says : (b : Shape) (t : List Gate) (k : ℕ) → k < b.sources → GateSays b t (gates.Source k) (λ S T. known (slice_index_or S k false))
source-says b t k low = record { fits = lt-ltb k b.sources low; value = λ S T fixed. refl }

pub same-says : (b : Shape) (t : List Gate) (n : ℕ) (m : Meaning) → NodeSays b t n m → GateSays b t (gates.Same n) m
same-says b t n m says = record { fits = lt-ltb n (b.wires + length t) says.low; value = λ S T fixed. says.value S T fixed }

pub not-says : (b : Shape) (t : List Gate) (n : ℕ) (m : Meaning) → NodeSays b t n m → GateSays b t (gates.Not n) (λ S T. opposite (m S T))
not-says b t n m says = record { fits = lt-ltb n (b.wires + length t) says.low; value = λ S T fixed. ap opposite (says.value S T fixed) }

pub and-says : (b : Shape) (t : List Gate) (n o : ℕ) (m k : Meaning) → NodeSays b t n m → NodeSays b t o k
    → GateSays b t (gates.And n o) (λ S T. conjunction (m S T) (k S T))
and-says b t n o m k x y = record {
  fits = and_from _ _ (lt-ltb n (b.wires + length t) x.low) (lt-ltb o (b.wires + length t) y.low);
  value = λ S T fixed. let p = x.value S T fixed in let q = y.value S T fixed in λ i. conjunction (p i) (q i);
}

pub or-says : (b : Shape) (t : List Gate) (n o : ℕ) (m k : Meaning) → NodeSays b t n m → NodeSays b t o k
    → GateSays b t (gates.Or n o) (λ S T. disjunction (m S T) (k S T))
or-says b t n o m k x y = record {
  fits = and_from _ _ (lt-ltb n (b.wires + length t) x.low) (lt-ltb o (b.wires + length t) y.low);
  value = λ S T fixed. let p = x.value S T fixed in let q = y.value S T fixed in λ i. disjunction (p i) (q i);
}

-- each gate of a table has the status of its operands
gate-met : (b : Shape) (S : List Bool) (T : ℕ → Status) (values : List Status) (t : List Gate) (k : ℕ)
    → ((j : ℕ) → j < length t → IsTrue (gate_fits (b.wires + (length values + j)) b.sources (gate_at t j))) → k < length t
    → slice_index_or (table_values b.wires S T values t) (length values + k) Unknown
    ≡ gate_status S (node_status b.wires T (table_values b.wires S T values t)) (gate_at t k)
gate-met b S T values [] k fits h = absurd (omega arith)
gate-met b S T values (g ∷ t) zero fits h =
    let w = b.wires in
    let v = gate_status S (node_status w T values) g in
    let all = table_values w S T (values ++ v ∷ []) t in
    let longer = length_push values v in
    let e : length values + 0 ≡ length values = omega arith in
    let here : IsTrue (gate_fits (w + length values) b.sources g) = rw e at (fits zero (omega arith)) in
    let stays : slice_index_or all (length values) Unknown ≡ v =
    value-stays w S T (values ++ v ∷ []) t (length values) (omega arith) ∙ get_or_push values v Unknown (length values) refl in
    let below : (n : ℕ) → n < w + length values → node_status w T values n ≡ node_status w T all n =
    λ n low. sym (node-same w S T (values ++ v ∷ []) t n (omega arith) ∙ node-same w S T values (g ∷ []) n low) in
    ap (λ n. slice_index_or all n Unknown) e ∙ stays ∙ gate-agrees S (node_status w T values) (node_status w T all) (w + length values) b.sources g here below
gate-met b S T values (g ∷ t) (suc k) fits h =
    let w = b.wires in
    let v = gate_status S (node_status w T values) g in
    let longer = length_push values v in
    let e : length values + suc k ≡ length (values ++ v ∷ []) + k = omega arith in
    ap (λ n. slice_index_or (table_values w S T (values ++ v ∷ []) t) n Unknown) e
    ∙ gate-met b S T (values ++ v ∷ []) t k
    (λ j low. let f : length values + suc j ≡ length (values ++ v ∷ []) + j = omega arith in rw f at (fits (suc j) (omega arith))) (omega arith)

pub table-met : (b : Shape) (S : List Bool) (T : ℕ → Status) (t : List Gate) (k : ℕ) → TableFits b t → k < length t
    → nodes_of b.wires S T t (b.wires + k) ≡ gate_status S (nodes_of b.wires S T t) (gate_at t k)
table-met b S T t k fit low =
    let e : b.wires + k - b.wires ≡ 0 + k = omega arith in
    at-gate b.wires T (table_values b.wires S T [] t) (b.wires + k) (omega arith)
    ∙ ap (λ n. slice_index_or (table_values b.wires S T [] t) n Unknown) e
    ∙ gate-met b S T [] t k (λ j h. let f : j ≡ 0 + j = omega arith in subst (λ n. IsTrue (gate_fits (b.wires + n) b.sources (gate_at t j))) f (fit j h)) low

-- The least solution of gates over a table is that of the meanings of the wires.
pub least-of-wires : (b : Shape) (all table : List Gate) (F : ℕ → Meaning) (S : List Bool) (V : ℕ → Status) → AreGates b all table F → IsFixed S
    → IsLeastSolution (all ++ table) S V → IsLeastOf b.wires (λ w T. F w S T) V
least-of-wires b all table F S V a fixed l = record {
  solves = λ w low. met w (omega arith) ∙ ap (gate_status S V) (left w low)
      ∙ gate-agrees S V (nodes_of b.wires S V table) (b.wires + length table) b.sources (gate_at all w) (a.says w low).fits agree
      ∙ (a.says w low).value S V fixed;
  least = λ U solves w low.
      let N = nodes_of b.wires S U table in
      let at : (v : ℕ) → v < b.wires → N v ≡ U v = λ v h. at-wire b.wires U (table_values b.wires S U [] table) v h in
      let wires : (v : ℕ) → v < b.wires → N v ≡ gate_status S N (gate_at (all ++ table) v) = λ v h.
      at v h ∙ solves v h ∙ sym ((a.says v h).value S U fixed) ∙ ap (gate_status S N) (sym (left v h)) in
      let inner : (k : ℕ) → k < length table → N (b.wires + k) ≡ gate_status S N (gate_at (all ++ table) (b.wires + k)) = λ k h.
      table-met b S U table k a.fit h ∙ ap (gate_status S N) (sym (right k)) in
      let solution : IsSolution (all ++ table) S N = record {
        met = λ n h. ⊎_elim
            (λ (wire : n < b.wires). wires n wire)
            (λ (gate : b.wires ≤ n).
            let e : n ≡ b.wires + (n - b.wires) = omega arith in
            let P : ℕ → Type 0 = λ x. N x ≡ gate_status S N (gate_at (all ++ table) x) in
            let m = whole in
            subst P (sym e) (inner (n - b.wires) (omega arith)))
            (cases_lt n b.wires);
      } in
      let B : Status → Type 0 = λ x. IsBelow (V w) x in
      subst B (at w low) (l.least N solution w (let m = whole in omega arith));
}
  where
    whole : length (all ++ table) ≡ b.wires + length table
    whole = let e = a.each in omega (arith, length-append all table)

    left : (w : ℕ) → w < b.wires → gate_at (all ++ table) w ≡ gate_at all w
    left w low = let e = a.each in get_or_append_left all table (gates.Source 0) w (omega arith)

    right : (k : ℕ) → gate_at (all ++ table) (b.wires + k) ≡ gate_at table k
    right k = ap (λ n. gate_at (all ++ table) (n + k)) (sym a.each) ∙ get_or-append-add all table k (gates.Source 0)

    met : (n : ℕ) → n < b.wires + length table → V n ≡ gate_status S V (gate_at (all ++ table) n)
    met n low = l.solves.met n (let m = whole in omega arith)

    up-to : (n k : ℕ) → k < n → k < length table → V (b.wires + k) ≡ nodes_of b.wires S V table (b.wires + k)
    up-to zero k under low = absurd (omega arith)
    up-to (suc n) k under low =
        met (b.wires + k) (omega arith) ∙ ap (gate_status S V) (right k)
        ∙ gate-agrees S V (nodes_of b.wires S V table) (b.wires + k) b.sources (gate_at table k) (a.fit k low) (λ i h. ⊎_elim
        (λ (wire : i < b.wires). sym (at-wire b.wires V (table_values b.wires S V [] table) i wire))
        (λ (gate : b.wires ≤ i).
        let e : i ≡ b.wires + (i - b.wires) = omega arith in
        let P : ℕ → Type 0 = λ x. V x ≡ nodes_of b.wires S V table x in
        subst P (sym e) (up-to n (i - b.wires) (omega arith) (omega arith)))
        (cases_lt i b.wires))
        ∙ sym (table-met b S V table k a.fit low)

    agree : (n : ℕ) → n < b.wires + length table → V n ≡ nodes_of b.wires S V table n
    agree n low = ⊎_elim
        (λ (wire : n < b.wires). sym (at-wire b.wires V (table_values b.wires S V [] table) n wire))
        (λ (gate : b.wires ≤ n).
        let e : n ≡ b.wires + (n - b.wires) = omega arith in
        let P : ℕ → Type 0 = λ x. V x ≡ nodes_of b.wires S V table x in
        subst P (sym e) (up-to (length table) (n - b.wires) (omega arith) (omega arith)))
        (cases_lt n b.wires)

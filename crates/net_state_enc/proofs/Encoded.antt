-- The netlist that holds a program's state in a code.
use Rattle.std.proofs.Common.{◌≡◌, ℕ, suc, ◌+◌, ◌-◌, ◌*◌, ◌<◌, ◌≤◌, ◌⊎◌, inl, inr, Bool, true, false, List, [], ◌∷◌, ◌++◌, length, map, refl, sym, ap}
use Rattle.std.proofs.Common.{◌∙◌}
use Rattle.std.proofs.Common.{subst, arith, All, length-append}
use Rattle.std.specs.Prelude.{nat_le, min, replicate, if◌then◌else◌}
use Rattle.std.proofs.lemmas.Bool.{le-leb, lt-leb}
use Rattle.std.proofs.lemmas.List.{length-map, length-replicate}
use Rattle.std.proofs.lemmas.List.Elements.{All-append, All-nil, All-cons, All-weaker, All-map}
use Rattle.std.proofs.lemmas.List.Sums.{count_by-le-length}
use Rattle.base_types.specs.Items.{Item, Event, Reset}
use Rattle.est_kernel.specs.Terms.{Term}
use Rattle.grc_graph.specs.declared.trees.SelNode.{SelNode}
use Rattle.grc_graph.specs.declared.trees.SelTree.{SelTree}
use Rattle.grc_graph.specs.SelectionTrees.{body_leaves, resumes}
use Rattle.grc_graph.specs.TreeForms.{LeavesAscend, is_leaf}
use Rattle.net_ir.specs.declared.netlist.Latch.{Latch}
use Rattle.net_ir.specs.Gates.{value_in}
use Rattle.net_ir.specs.Netlists.{Netlist}
use Rattle.net_ir.specs.Runs.{net_values, initial_latches, next_latches}
use Rattle.net_state_enc.specs.declared.codes.Literal.{Literal}
use Rattle.net_state_enc.specs.declared.codes.Way.{Way}
use Rattle.net_state_enc.specs.declared.codes.Way.TheVariants.{Loose}
use Rattle.net_state_enc.specs.Codes.{LeafCode, leaf_codes, with_front, front_code, front_width, width_by, part_way, branch_way}
use Rattle.net_state_enc.specs.EncodedCounts.{encoded_bits, tree_widths}
use Rattle.net_state_enc.specs.Encodings.{IsTreeOf, SelectsWell, Encodes}
use Rattle.net_state_enc.specs.Meeting.{LatchesMeet}
use Rattle.net_state_enc.specs.Plans.{needs_of}
use Rattle.net_state_enc.specs.Recodings.{IsCodedNet, read_latches, write_latches}
use Rattle.net_state_enc.specs.Shapes.{Shape, NoLeaf, OneLeaf, OneOf, AllOf, widths_of, shape_of}
use Rattle.net_state_enc.specs.Widths.{Widths, several_parts, parallel_widths, branch_width, all_marked}
use Rattle.net_state_enc.proofs.CodeValues.{Within}
use Rattle.net_state_enc.proofs.CodeCases.{Coding, second_alone, first_alone, two, coding, part-first, part-second, parallel-width, branch-by, leaf-width}
use Rattle.net_state_enc.proofs.CodeCases.{codes-within}
use Rattle.net_state_enc.proofs.NumberCodes.{front-length}
use Rattle.net_state_enc.proofs.ShapeLaws.{widths-are, latches-back, codes-many}

-- ---- no leaf wants more bits than there are

abbrev EachShort : ℕ → List LeafCode → Type 0
EachShort w es = All (λ (e : LeafCode). length e.needs ≤ w) es

short-wider : (v w : ℕ) (es : List LeafCode) → v ≤ w → EachShort v es → EachShort w es
short-wider v w es low s = All-weaker (λ (e : LeafCode). length e.needs ≤ v) (λ (e : LeafCode). length e.needs ≤ w) (λ e h. omega arith) es s

short-front : (v w : ℕ) (f : List Literal) (es : List LeafCode) → length f + v ≤ w → EachShort v es → EachShort w (map (with_front f) es)
short-front v w f es low s =
    All-map (λ (e : LeafCode). length e.needs ≤ w) (with_front f) es
    (All-weaker (λ (e : LeafCode). length e.needs ≤ v) (λ (e : LeafCode). length (f ++ e.needs) ≤ w) (λ e h. omega (arith, length-append f e.needs)) es s)

short-coded : (f g : Way → ℕ → List LeafCode) (a b : Widths) (way : Way) (bit : ℕ) (w : Widths) (es : List LeafCode) → Coding f g a b way bit w es
    → ((way : Way) (bit : ℕ) → EachShort (width_by way a) (f way bit)) → ((way : Way) (bit : ℕ) → EachShort (width_by way b) (g way bit))
    → EachShort (width_by way w) es
short-coded f g a b way bit w es (second_alone h) fa gb = gb way bit
short-coded f g a b way bit w es (first_alone h) fa gb = fa way bit
short-coded f g a b way bit w es (two h k) fa gb =
    let p = part_way way (a.parts + b.parts) 0 in
    let q = part_way way (a.parts + b.parts) a.parts in
    All-append (λ (e : LeafCode). length e.needs ≤ width_by way (several_parts a b)) (f p bit) (g q bit)
    (short-wider (width_by p a) (width_by way (several_parts a b)) (f p bit) (part-first way a b) (fa p bit))
    (short-wider (width_by q b) (width_by way (several_parts a b)) (g q bit) (part-second way a b) (gb q bit))

codes-short : (t : Shape) (way : Way) (bit : ℕ) → EachShort (width_by way (widths_of t)) (leaf_codes t way bit)
codes-short NoLeaf way bit = All-nil (λ (e : LeafCode). length e.needs ≤ width_by way (widths_of NoLeaf))
codes-short (OneLeaf k) way bit =
    let w = width_by way (widths_of (OneLeaf k)) in
    let e = leaf-width way in
    let l = front-length way false bit in
    All-cons (λ (x : LeafCode). length x.needs ≤ w) (record { leaf = k; needs = front_code way false bit }) [] (omega arith)
    (All-nil (λ (x : LeafCode). length x.needs ≤ w))
codes-short (OneOf a b) way bit =
    short-coded (leaf_codes a) (leaf_codes b) (widths_of a) (widths_of b) way bit _ _
    (coding (leaf_codes a) (leaf_codes b) (widths_of a) (widths_of b) way bit) (codes-short a) (codes-short b)
codes-short (AllOf x y a b) way bit =
    let A = widths_of a in
    let B = widths_of b in
    let said = all_marked x y A B in
    let base = bit + front_width way said in
    let both = branch_width x A + branch_width y B in
    let first = leaf_codes a (branch_way x) base in
    let second = leaf_codes b (branch_way y) (base + branch_width x A) in
    let p = branch-by x A in
    let q = branch-by y B in
    let wide = parallel-width way x y A B in
    let l = front-length way said bit in
    short-front both (width_by way (parallel_widths x y A B)) (front_code way said bit) (first ++ second) (omega arith)
    (All-append (λ (e : LeafCode). length e.needs ≤ both) first second
    (short-wider (width_by (branch_way x) A) both first (omega arith) (codes-short a (branch_way x) base))
    (short-wider (width_by (branch_way y) B) both second (omega arith) (codes-short b (branch_way y) (base + branch_width x A))))

pub needs-short : (t : Shape) (codes : List (List Literal)) → codes ≡ needs_of (leaf_codes t Loose 0)
    → All (λ (ls : List Literal). length ls ≤ (widths_of t).loose) codes
needs-short t codes e =
    subst (All (λ (ls : List Literal). length ls ≤ (widths_of t).loose)) (sym e)
    (All-map (λ (ls : List Literal). length ls ≤ (widths_of t).loose) (λ (x : LeafCode). x.needs) (leaf_codes t Loose 0) (codes-short t Loose 0))

pub needs-within : (t : Shape) (codes : List (List Literal)) → codes ≡ needs_of (leaf_codes t Loose 0)
    → All (λ (ls : List Literal). All (λ (l : Literal). l.bit < (widths_of t).loose) ls) codes
needs-within t codes e =
    let w = (widths_of t).loose in
    let P = λ (ls : List Literal). All (λ (l : Literal). l.bit < w) ls in
    subst (All P) (sym e)
    (All-map P (λ (x : LeafCode). x.needs) (leaf_codes t Loose 0)
    (All-weaker (λ (x : LeafCode). Within 0 (0 + w) x.needs) (λ (x : LeafCode). P x.needs)
    (λ x h. All-weaker (λ (l : Literal). (0 ≤ l.bit) × (l.bit < 0 + w)) (λ (l : Literal). l.bit < w) (λ l q. (let r = q.1 in omega arith)) x.needs h)
    (leaf_codes t Loose 0) (codes-within t Loose 0)))

-- ---- in each instant

meets-more : (P Q : List Bool → Type 0) (net : Netlist) → ((l : List Bool) → length l ≡ length net.latches → P l → Q l) → (items : List Item) (l : List Bool)
    → length l ≡ length net.latches → LatchesMeet P net l items → LatchesMeet Q net l items
meets-more P Q net more [] l len m = tt
meets-more P Q net more (Event inputs ∷ items) l len m =
    let values = net_values net l inputs in
    (more l len m.0, meets-more P Q net more items (next_latches net values) (length-map net.latches (λ (x : Latch). value_in values x.from.0)) m.1)
meets-more P Q net more (Reset ∷ items) l len m =
    meets-more P Q net more items (initial_latches net) (length-map net.latches (λ (x : Latch). x.init)) m

pub latches-many : (net : Netlist) (n : ℕ) → initial_latches net ≡ true ∷ replicate n false → length net.latches ≡ suc n
latches-many net n e = sym (length-map net.latches (λ (x : Latch). x.init)) ∙ ap length e ∙ ap suc (length-replicate n false)

-- ---- the result

module _ (net new : Netlist) (body : Term) (tree : SelTree) (width : ℕ) (codes : List (List Literal)) (is : IsTreeOf tree body)
    (inits : initial_latches net ≡ true ∷ replicate tree.leaves false) where
  wide-bits : width ≡ (tree_widths body).loose → width < tree.leaves → tree.leaves ≤ 1024 → encoded_bits body ≡ width
  wide-bits wide low few =
      let l = is.leaves in
      let yes : nat_le (length (body_leaves body)) 1024 ≡ true = le-leb (length (body_leaves body)) 1024 (omega arith) in
      ap (λ b. if b then min (length (body_leaves body)) (tree_widths body).loose else length (body_leaves body)) yes ∙ (omega arith)

  same-bits : (tree.leaves ≤ (tree_widths body).loose) ⊎ (1024 < tree.leaves) → encoded_bits body ≡ tree.leaves
  same-bits (inl low) =
      let l = is.leaves in
      by (nat_le (length (body_leaves body)) 1024)
    where
      by : (b : Bool) → (if b then min (length (body_leaves body)) (tree_widths body).loose else length (body_leaves body)) ≡ tree.leaves
      by true = let l = is.leaves in omega arith
      by false = sym is.leaves
  same-bits (inr many) =
      let l = is.leaves in
      let no : nat_le (length (body_leaves body)) 1024 ≡ false = lt-leb (length (body_leaves body)) 1024 (omega arith) in
      ap (λ b. if b then min (length (body_leaves body)) (tree_widths body).loose else length (body_leaves body)) no ∙ sym is.leaves

  pub encodes-coded : IsCodedNet net new width codes → codes ≡ needs_of (leaf_codes (shape_of (resumes body) body 0 0) Loose 0)
      → width ≡ (widths_of (shape_of (resumes body) body 0 0)).loose → width < tree.leaves → tree.leaves ≤ 1024 → Encodes net new body
  encodes-coded made codes_are width_is low few =
      let wide = width_is ∙ ap (λ (w : Widths). w.loose) (widths-are body) in
      record {
        name = made.name;
        inputs = made.inputs;
        outputs = made.outputs;
        carries = made.wires;
        count = latches-many new width made.latches
            ∙ (let e = wide-bits wide low few in let q : suc width ≡ 1 + encoded_bits body = omega arith in q);
        latches = made.latches ∙ ap (λ n. true ∷ replicate n false) (sym (wide-bits wide low few));
        runs = λ items fit meets. made.runs items fit (meets-more (SelectsWell body) (λ l. read_latches codes (write_latches codes width l) ≡ l) net
            (λ l len well. gives-back wide codes_are l len well) items (initial_latches net) (length-map net.latches (λ (x : Latch). x.init)) meets);
      }
    where
      gives-back : width ≡ (tree_widths body).loose → codes ≡ needs_of (leaf_codes (shape_of (resumes body) body 0 0) Loose 0)
          → (l : List Bool) → length l ≡ length net.latches → SelectsWell body l → read_latches codes (write_latches codes width l) ≡ l
      gives-back wide codes_are [] len well = absurd (omega (arith, len, latches-many net tree.leaves inits))
      gives-back wide codes_are (b ∷ bits) len well =
          (λ i. read_latches (codes_are i) (write_latches (codes_are i) (wide i) (b ∷ bits)))
          ∙ latches-back body (b ∷ bits) b bits refl (let q = is.leaves in omega (arith, len, latches-many net tree.leaves inits)) well

  pub encodes-copy : new ≡ net → (tree.leaves ≤ (tree_widths body).loose) ⊎ (1024 < tree.leaves) → Encodes net new body
  encodes-copy same wide = subst (λ n. Encodes net n body) (sym same) (record {
    name = refl;
    inputs = refl;
    outputs = refl;
    carries = refl;
    count = latches-many net tree.leaves inits
        ∙ (let e = same-bits wide in let q : suc tree.leaves ≡ 1 + encoded_bits body = omega arith in q);
    latches = inits ∙ ap (λ n. true ∷ replicate n false) (sym (same-bits wide));
    runs = λ items fit meets. record { shows = refl; carries = refl };
  })

-- ---- its size

sized : (gates old leaves nodes width : ℕ) → gates ≤ old + (2 + 3 * (leaves * width)) → leaves ≤ nodes → 0 < leaves → gates ≤ old + 64 * (nodes * (1 + width))
sized gates old leaves nodes width few low some =
    let d = nodes - leaves in
    let e : nodes ≡ leaves + d = omega arith in
    subst (λ n. gates ≤ old + 64 * (n * (1 + width))) (sym e) (omega (arith, few))

pub coded-size : (tree : SelTree) (net new : Netlist) (width : ℕ) (codes : List (List Literal)) → IsCodedNet net new width codes → length codes ≡ tree.leaves
    → width < tree.leaves → LeavesAscend tree.nodes.items tree.leaves
    → length new.gates ≤ length net.gates + 64 * (length tree.nodes.items * length new.latches)
coded-size tree net new width codes made many low order =
    let few = order.counted ∙ refl in
    let below = count_by-le-length (λ (x : SelNode). is_leaf x.form) tree.nodes.items in
    let latches : length new.latches ≡ 1 + width = latches-many new width made.latches ∙ (let q : suc width ≡ 1 + width = omega arith in q) in
    subst (λ n. length new.gates ≤ length net.gates + 64 * (length tree.nodes.items * n)) (sym latches)
    (sized (length new.gates) (length net.gates) tree.leaves (length tree.nodes.items) width
    (subst (λ n. length new.gates ≤ length net.gates + (2 + 3 * (n * width))) many made.few) (omega (arith, few, below)) (omega arith))

-- how many leaves a code has
pub codes-of-tree : (tree : SelTree) (body : Term) (codes : List (List Literal)) → IsTreeOf tree body
    → codes ≡ needs_of (leaf_codes (shape_of (resumes body) body 0 0) Loose 0) → length codes ≡ tree.leaves
codes-of-tree tree body codes is e = ap length e ∙ codes-many body ∙ sym is.leaves

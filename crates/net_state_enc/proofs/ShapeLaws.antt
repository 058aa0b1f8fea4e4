-- Shapes of selection trees: what they come to, and the order of their leaves.
use Rattle.std.proofs.Common.{◌≡◌, ℕ, zero, suc, ◌+◌, ◌<◌, Bool, true, false, ◌&&◌, ◌||◌, List, [], ◌∷◌, ◌++◌, length, map, refl, sym, ap, ◌∙◌, arith}
use Rattle.std.proofs.Common.{length-append, slice_index_or}
use Rattle.std.specs.Prelude.{if◌then◌else◌}
use Rattle.std.proofs.lemmas.List.{append-nil, map-append, length-map}
use Rattle.std.proofs.lemmas.Simd.{map-map}
use Rattle.est_kernel.specs.Terms.{Term, Pause, Present, Suspend, Seq, Loop, Par, Trap, Local}
use Rattle.est_kernel.specs.Preorder.{statement_count}
use Rattle.grc_graph.specs.Layers.{can_pass}
use Rattle.grc_graph.specs.Selections.{well_formed}
use Rattle.grc_graph.specs.SelectionTrees.{Form, Leaf, Exclusive, Parallel, Passing, resumes, second_resumes, leaf_paths, body_leaves, selecting}
use Rattle.grc_graph.specs.TreeJudgements.{Judgement, combined, none_selected}
use Rattle.grc_graph.proofs.Exports.{judged_body}
use Rattle.net_ir.specs.Gates.{value_in}
use Rattle.net_state_enc.specs.declared.codes.Literal.{Literal}
use Rattle.net_state_enc.specs.declared.codes.Way.{Way}
use Rattle.net_state_enc.specs.declared.codes.Way.TheVariants.{Full, Loose}
use Rattle.grc_graph.specs.SelectionFolds.{fold_tree}
use Rattle.net_state_enc.specs.EncodedCounts.{joined_widths, tree_widths}
use Rattle.net_state_enc.specs.Widths.{Widths, no_widths, all_marked, branch_width}
use Rattle.net_state_enc.specs.Shapes.{Shape, NoLeaf, OneLeaf, OneOf, AllOf, widths_of, holds_in, formed_in, joined_shape, shape_of}
use Rattle.net_state_enc.specs.Codes.{LeafCode, leaf_codes, with_front, front_code, front_width, part_way, branch_way, are_met, wants, bit_of}
use Rattle.net_state_enc.specs.Drafts.{wanted}
use Rattle.net_state_enc.specs.Plans.{needs_of}
use Rattle.net_state_enc.specs.Recodings.{tabulated, read_code, write_code, read_latches, write_latches}
use Rattle.net_state_enc.proofs.CodeValues.{selections}
use Rattle.net_state_enc.proofs.CodeCases.{Coding, second_alone, first_alone, two, coding, no-codes}
use Rattle.net_state_enc.proofs.CodeLaws.{back}

-- ---- one fold of a tree and another

module _ {X Y : Type 0} (none : X) (join : Form → X → X → X) (nothing : Y) (joined : Form → Y → Y → Y) (h : X → Y) (e : h none ≡ nothing)
    (each : (f : Form) (a b : X) → h (join f a b) ≡ joined f (h a) (h b)) where
  fused-if : (b : Bool) (x : X) (y : Y) → h x ≡ y → h (if b then x else none) ≡ (if b then y else nothing)
  fused-if true x y q = q
  fused-if false x y q = e

  fused : (b : Bool) (t : Term) (n k : ℕ) → h (fold_tree none join b t n k) ≡ fold_tree nothing joined b t n k
  fused b Pause n k = fused-if b _ _ (each (Leaf k) none none ∙ (λ i. joined (Leaf k) (e i) (e i)))
  fused b (Present x p q) n k =
      let one = fused (resumes p) p (n + 1) k in
      let other = fused (resumes q) q (n + 1 + statement_count p) (k + length (leaf_paths (resumes p) p (n + 1))) in
      fused-if b _ _ (each Exclusive _ _ ∙ (λ i. joined Exclusive (one i) (other i)))
  fused b (Suspend x p) n k =
      let one = fused (resumes p) p (n + 1) k in
      fused-if b _ _ (each Passing _ none ∙ (λ i. joined Passing (one i) (e i)))
  fused b (Seq p q) n k =
      let one = fused (resumes p) p (n + 1) k in
      let other = fused (second_resumes p q) q (n + 1 + statement_count p) (k + length (leaf_paths (resumes p) p (n + 1))) in
      fused-if b _ _ (each Exclusive _ _ ∙ (λ i. joined Exclusive (one i) (other i)))
  fused b (Loop at p) n k =
      let one = fused (resumes p) p (n + 1) k in
      fused-if b _ _ (each Passing _ none ∙ (λ i. joined Passing (one i) (e i)))
  fused b (Par p q) n k =
      let one = fused (resumes p) p (n + 1) k in
      let other = fused (resumes q) q (n + 1 + statement_count p) (k + length (leaf_paths (resumes p) p (n + 1))) in
      fused-if b _ _ (each (Parallel (can_pass p) (can_pass q)) _ _ ∙ (λ i. joined (Parallel (can_pass p) (can_pass q)) (one i) (other i)))
  fused b (Trap p) n k =
      let one = fused (resumes p) p (n + 1) k in
      fused-if b _ _ (each Passing _ none ∙ (λ i. joined Passing (one i) (e i)))
  fused b (Local s p) n k =
      let one = fused (resumes p) p (n + 1) k in
      fused-if b _ _ (each Passing _ none ∙ (λ i. joined Passing (one i) (e i)))
  fused b _ n k = e

widths-joined : (f : Form) (a b : Shape) → widths_of (joined_shape f a b) ≡ joined_widths f (widths_of a) (widths_of b)
widths-joined (Leaf k) a b = refl
widths-joined _ a b = refl

-- the widths of a shape are those of its tree
pub widths-are : (body : Term) → widths_of (shape_of (resumes body) body 0 0) ≡ tree_widths body
widths-are body = fused NoLeaf joined_shape no_widths joined_widths widths_of refl widths-joined (resumes body) body 0 0

judged : List Bool → Shape → Judgement
judged bits t = record { holds = holds_in (value_in bits) t; formed = formed_in (value_in bits) t }

judged-joined : (bits : List Bool) (f : Form) (a b : Shape) → judged bits (joined_shape f a b) ≡ combined bits f (judged bits a) (judged bits b)
unfolding judged
judged-joined bits (Leaf k) a b = refl
judged-joined bits _ a b = refl

judged-nothing : (bits : List Bool) → judged bits NoLeaf ≡ none_selected
unfolding judged
judged-nothing bits = refl

-- leaves are selected as the shape wants where they are a well-formed selection of the body
pub formed-body : (bits : List Bool) (body : Term) → well_formed (selecting (body_leaves body) bits) body 0 ≡ true
    → formed_in (value_in bits) (shape_of (resumes body) body 0 0) ≡ true
unfolding judged
formed-body bits body formed =
    ap (λ j. j.formed) (fused NoLeaf joined_shape none_selected (combined bits) (judged bits) (judged-nothing bits) (judged-joined bits) (resumes body) body 0 0
    ∙ judged_body bits body)
    ∙ formed

-- ---- leaves are numbered in order

pub ascending : ℕ → ℕ → List ℕ
ascending k zero = []
ascending k (suc n) = k ∷ ascending (k + 1) n

ascending-append : (k m n : ℕ) → ascending k m ++ ascending (k + m) n ≡ ascending k (m + n)
unfolding ascending
ascending-append k zero n =
    let a : k + 0 ≡ k = omega arith in
    let b : n ≡ 0 + n = omega arith in
    ap (λ j. ascending j n) a ∙ ap (ascending k) b
ascending-append k (suc m) n =
    let a : k + suc m ≡ k + 1 + m = omega arith in
    let b : suc (m + n) ≡ suc m + n = omega arith in
    ap (λ j. k ∷ (ascending (k + 1) m ++ ascending j n)) a ∙ ap (λ l. k ∷ l) (ascending-append (k + 1) m n) ∙ ap (ascending k) b

abbrev leaves_in : Shape → List ℕ
leaves_in NoLeaf = []
leaves_in (OneLeaf k) = k ∷ []
leaves_in (OneOf a b) = leaves_in a ++ leaves_in b
leaves_in (AllOf x y a b) = leaves_in a ++ leaves_in b

leaves-if : (b : Bool) (x : Shape) (us : List ℕ) (k : ℕ) → leaves_in x ≡ ascending k (length us)
    → leaves_in (if b then x else NoLeaf) ≡ ascending k (length (if b then us else []))
unfolding ascending
leaves-if true x us k e = e
leaves-if false x us k e = refl

leaves-two : (xs ys us vs : List ℕ) (k : ℕ) → xs ≡ ascending k (length us) → ys ≡ ascending (k + length us) (length vs)
    → xs ++ ys ≡ ascending k (length (us ++ vs))
leaves-two xs ys us vs k e f =
    (λ i. e i ++ f i) ∙ ascending-append k (length us) (length vs) ∙ ap (ascending k) (sym (length-append us vs))

pub leaves-shape : (b : Bool) (t : Term) (n k : ℕ) → leaves_in (shape_of b t n k) ≡ ascending k (length (leaf_paths b t n))
unfolding ascending
leaves-shape b Pause n k = leaves-if b (OneLeaf k) (n ∷ []) k refl
leaves-shape b (Present x p q) n k = leaves-if b _ _ k (leaves-two _ _ (leaf_paths (resumes p) p (n + 1)) (leaf_paths (resumes q) q (n + 1 + statement_count
    p)) k
    (leaves-shape (resumes p) p (n + 1) k) (leaves-shape (resumes q) q (n + 1 + statement_count p) (k + length (leaf_paths (resumes p) p (n + 1)))))
leaves-shape b (Suspend x p) n k = leaves-if b _ _ k (leaves-shape (resumes p) p (n + 1) k)
leaves-shape b (Seq p q) n k = leaves-if b _ _ k (leaves-two _ _ (leaf_paths (resumes p) p (n + 1))
    (leaf_paths (second_resumes p q) q (n + 1 + statement_count p)) k (leaves-shape (resumes p) p (n + 1) k)
    (leaves-shape (second_resumes p q) q (n + 1 + statement_count p) (k + length (leaf_paths (resumes p) p (n + 1)))))
leaves-shape b (Loop at p) n k = leaves-if b _ _ k (leaves-shape (resumes p) p (n + 1) k)
leaves-shape b (Par p q) n k = leaves-if b _ _ k (leaves-two _ _ (leaf_paths (resumes p) p (n + 1)) (leaf_paths (resumes q) q (n + 1 + statement_count p)) k
    (leaves-shape (resumes p) p (n + 1) k) (leaves-shape (resumes q) q (n + 1 + statement_count p) (k + length (leaf_paths (resumes p) p (n + 1)))))
leaves-shape b (Trap p) n k = leaves-if b _ _ k (leaves-shape (resumes p) p (n + 1) k)
leaves-shape b (Local s p) n k = leaves-if b _ _ k (leaves-shape (resumes p) p (n + 1) k)
leaves-shape b _ n k = refl

-- the leaves of a code, in order
abbrev leaves_of : List LeafCode → List ℕ
leaves_of es = map (λ (e : LeafCode). e.leaf) es

leaves-front : (f : List Literal) (es : List LeafCode) → leaves_of (map (with_front f) es) ≡ leaves_of es
leaves-front f es = map-map (λ (e : LeafCode). e.leaf) (with_front f) es

leaves-coded : (f g : Way → ℕ → List LeafCode) (a b : Widths) (way : Way) (bit : ℕ) (w : Widths) (es : List LeafCode) (xs ys : List ℕ)
    → Coding f g a b way bit w es → (a.parts ≡ 0 → xs ≡ []) → (b.parts ≡ 0 → ys ≡ [])
    → ((way : Way) (bit : ℕ) → leaves_of (f way bit) ≡ xs) → ((way : Way) (bit : ℕ) → leaves_of (g way bit) ≡ ys) → leaves_of es ≡ xs ++ ys
leaves-coded f g a b way bit w es xs ys (second_alone h) nx ny fx gy = gy way bit ∙ ap (λ l. l ++ ys) (sym (nx h))
leaves-coded f g a b way bit w es xs ys (first_alone h) nx ny fx gy = fx way bit ∙ sym (append-nil xs) ∙ ap (λ l. xs ++ l) (sym (ny h))
leaves-coded f g a b way bit w es xs ys (two h k) nx ny fx gy =
    map-append (λ (e : LeafCode). e.leaf) (f (part_way way (a.parts + b.parts) 0) bit) (g (part_way way (a.parts + b.parts) a.parts) bit)
    ∙ (λ i. fx (part_way way (a.parts + b.parts) 0) bit i ++ gy (part_way way (a.parts + b.parts) a.parts) bit i)

leaves-absent : (t : Shape) (xs : List ℕ) → (widths_of t).parts ≡ 0 → leaves_of (leaf_codes t Full 0) ≡ xs → xs ≡ []
leaves-absent t xs none e = sym e ∙ ap leaves_of (no-codes t Full 0 none)

pub codes-leaves : (t : Shape) (way : Way) (bit : ℕ) → leaves_of (leaf_codes t way bit) ≡ leaves_in t
codes-leaves (OneOf a b) way bit =
    leaves-coded (leaf_codes a) (leaf_codes b) (widths_of a) (widths_of b) way bit _ _ (leaves_in a) (leaves_in b)
    (coding (leaf_codes a) (leaf_codes b) (widths_of a) (widths_of b) way bit)
    (λ none. leaves-absent a (leaves_in a) none (codes-leaves a Full 0)) (λ none. leaves-absent b (leaves_in b) none (codes-leaves b Full 0))
    (codes-leaves a) (codes-leaves b)
codes-leaves (AllOf x y a b) way bit =
    let said = all_marked x y (widths_of a) (widths_of b) in
    let base = bit + front_width way said in
    let first = leaf_codes a (branch_way x) base in
    let second = leaf_codes b (branch_way y) (base + branch_width x (widths_of a)) in
    leaves-front (front_code way said bit) (first ++ second) ∙ map-append (λ (e : LeafCode). e.leaf) first second
    ∙ (λ i. codes-leaves a (branch_way x) base i ++ codes-leaves b (branch_way y) (base + branch_width x (widths_of a)) i)
codes-leaves _ way bit = refl

-- ---- leaves by their places

wanted-by : (S : ℕ → Bool) (es : List LeafCode) (k n i : ℕ) (bits : List Bool) → leaves_of es ≡ ascending k n → length bits ≡ n
    → ((j : ℕ) → S (k + j) ≡ slice_index_or bits j false) → bit_of S es i ≡ wanted (needs_of es) bits i
unfolding ascending
wanted-by S [] k n i bits e len same = refl
wanted-by S (x ∷ es) k zero i bits e len same = cc
wanted-by S (x ∷ es) k (suc n) i [] e len same = absurd (omega (arith, len))
wanted-by S (x ∷ es) k (suc n) i (b ∷ bits) e len same =
    let leaf : x.leaf ≡ k = cc in
    let rest : leaves_of es ≡ ascending (k + 1) n = cc in
    let at : k ≡ k + 0 = omega arith in
    let here : S x.leaf ≡ b = ap S (leaf ∙ at) ∙ same 0 in
    let later = wanted-by S es (k + 1) n i bits rest (omega (arith, len)) (λ j. let p : k + 1 + j ≡ k + suc j = omega arith in ap S p ∙ same (suc j)) in
    (λ j. (here j && wants i x.needs) || later j)

selections-by : (S : ℕ → Bool) (es : List LeafCode) (k n : ℕ) (bits : List Bool) → leaves_of es ≡ ascending k n → length bits ≡ n
    → ((j : ℕ) → S (k + j) ≡ slice_index_or bits j false) → selections S es ≡ bits
unfolding ascending
selections-by S [] k zero [] e len same = refl
selections-by S [] k zero (b ∷ bits) e len same = absurd (omega (arith, len))
selections-by S [] k (suc n) bits e len same = cc
selections-by S (x ∷ es) k zero bits e len same = cc
selections-by S (x ∷ es) k (suc n) [] e len same = absurd (omega (arith, len))
selections-by S (x ∷ es) k (suc n) (b ∷ bits) e len same =
    let leaf : x.leaf ≡ k = cc in
    let rest : leaves_of es ≡ ascending (k + 1) n = cc in
    let at : k ≡ k + 0 = omega arith in
    let here : S x.leaf ≡ b = ap S (leaf ∙ at) ∙ same 0 in
    let later = selections-by S es (k + 1) n bits rest (omega (arith, len)) (λ j. let p : k + 1 + j ≡ k + suc j = omega arith in ap S p ∙ same (suc j)) in
    (λ j. here j ∷ later j)

value-tabulated : (f : ℕ → Bool) (n k i : ℕ) → i < n → value_in (tabulated f n k) i ≡ f (k + i)
value-tabulated f zero k i low = absurd (omega arith)
value-tabulated f (suc n) k zero low = let e : k ≡ k + 0 = omega arith in ap f e
value-tabulated f (suc n) k (suc i) low = value-tabulated f n (k + 1) i (omega arith) ∙ (let e : k + 1 + i ≡ k + suc i = omega arith in ap f e)

-- the code of well-formed leaves gives them back
code-back : (t : Shape) (bits : List Bool) → leaves_in t ≡ ascending 0 (length bits) → formed_in (value_in bits) t ≡ true
    → read_code (needs_of (leaf_codes t Loose 0)) (write_code (needs_of (leaf_codes t Loose 0)) (widths_of t).loose bits) ≡ bits
code-back t bits leaves formed =
    let es = leaf_codes t Loose 0 in
    let codes = needs_of es in
    let width = (widths_of t).loose in
    let S = value_in bits in
    let B = value_in (write_code codes width bits) in
    let at : (j : ℕ) → S (0 + j) ≡ slice_index_or bits j false = λ j. let e : 0 + j ≡ j = omega arith in ap S e in
    let order = codes-leaves t Loose 0 ∙ leaves in
    map-map (are_met B) (λ (e : LeafCode). e.needs) es
    ∙ back S B t formed Loose 0 tt tt (λ i low high.
    let inside : i < width = omega arith in
    let e : 0 + i ≡ i = omega arith in
    value-tabulated (wanted codes bits) width 0 i inside ∙ ap (wanted codes bits) e ∙ sym (wanted-by S es 0 (length bits) i bits order refl at))
    ∙ selections-by S es 0 (length bits) bits order refl at

-- so do the latches of a netlist
pub latches-back : (body : Term) (l : List Bool) (b : Bool) (bits : List Bool) → l ≡ b ∷ bits → length bits ≡ length (body_leaves body)
    → well_formed (selecting (body_leaves body) bits) body 0 ≡ true
    → read_latches (needs_of (leaf_codes (shape_of (resumes body) body 0 0) Loose 0))
    (write_latches (needs_of (leaf_codes (shape_of (resumes body) body 0 0) Loose 0)) (tree_widths body).loose l) ≡ l
latches-back body l b bits is len formed =
    let t = shape_of (resumes body) body 0 0 in
    let codes = needs_of (leaf_codes t Loose 0) in
    let width : (widths_of t).loose ≡ (tree_widths body).loose = ap (λ (w : Widths). w.loose) (widths-are body) in
    let order = leaves-shape (resumes body) body 0 0 ∙ ap (ascending 0) (sym len) in
    ap (λ x. read_latches codes (write_latches codes (tree_widths body).loose x)) is
    ∙ ap (λ w. b ∷ read_code codes (write_code codes w bits)) (sym width)
    ∙ ap (λ x. b ∷ x) (code-back t bits order (formed-body bits body formed)) ∙ sym is

ascending-length : (k n : ℕ) → length (ascending k n) ≡ n
unfolding ascending
ascending-length k zero = refl
ascending-length k (suc n) = ap suc (ascending-length (k + 1) n)

-- there are as many codes as leaves
pub codes-many : (body : Term) → length (needs_of (leaf_codes (shape_of (resumes body) body 0 0) Loose 0)) ≡ length (body_leaves body)
codes-many body =
    let es = leaf_codes (shape_of (resumes body) body 0 0) Loose 0 in
    length-map es (λ (e : LeafCode). e.needs) ∙ sym (length-map es (λ (e : LeafCode). e.leaf))
    ∙ ap length (codes-leaves (shape_of (resumes body) body 0 0) Loose 0 ∙ leaves-shape (resumes body) body 0 0)
    ∙ ascending-length 0 (length (body_leaves body))

-- The gates of formulas.
use Rattle.std.proofs.Common.{◌≡◌, ℕ, ◌+◌, ◌-◌, ◌<◌, ◌≤◌, Bool, true, false, ◌==◌, List, [], ◌∷◌, ◌++◌, length, slice_index, slice_index_or}
use Rattle.std.proofs.Common.{refl, sym, ap, ◌∙◌, subst, ⊎_elim, arith, drop, length-drop}
use Rattle.std.specs.Prelude.{if◌then◌else◌, nat_lt, nat_le}
use Rattle.std.proofs.lemmas.List.Sums.{prefix_len-le-length, prefix_len_passes}
use Rattle.std.proofs.lemmas.List.{get_or-drop, drop_more}
use Rattle.base_types.specs.declared.indices.WireId.{WireId}
use Rattle.std.proofs.lemmas.Bool.{and_parts, cases_eq, eqb-true, eqb-false, false≢true, lt-ltb, ltb-true}
use Rattle.est_kernel.specs.Statuses.{Status, Minus, known, opposite, conjunction, disjunction}
use Rattle.grc_graph.specs.declared.formulas.Formula.{Formula}
use Rattle.grc_graph.specs.declared.wires.Wire.{Wire}
use Rattle.grc_graph.specs.declared.wires.Wire.TheVariants as wires
use Rattle.grc_formulas.specs.WordLaws.{ends_upto, first_end, is_end_upto}
use Rattle.grc_ternary_gates.specs.declared.gates.Gate.{Gate}
use Rattle.grc_ternary_gates.specs.declared.gates.Gate.TheVariants as gates
use Rattle.grc_ternary_gates.specs.Tables.{Extends, Meaning}
use Rattle.grc_ternary_gates.proofs.Exports.{and-says, extends-both, extends-refl, node-stays, not-says, or-says, pushed-extends, pushed-says, same-says}
use Rattle.grc_ternary_gates.proofs.Exports.{source-says}
use Rattle.grc_ternary_gates.proofs.Exports.{wire-says}
use Rattle.grc_ternary_run.specs.declared.formulas.Making.{Making}
use Rattle.grc_ternary_run.specs.Chains.{IsRun, any_status, is_end_of, wire_number}
use Rattle.grc_ternary_run.specs.Meanings.{GateMade, NodeMade, PairMade, Ready, any_meaning, constant_gate, meaning_of, shape_of}
use Rattle.grc_ternary_run.specs.Meanings.{source_meaning, upto_gate, upto_meaning}
use Rattle.grc_ternary_run.specs.Numbers.{input_number, selected_number}
use Rattle.grc_ternary_run.proofs.ChainSteps.{gate-means}

-- gates can be made over a table that grew
pub ready-stays : (m : Making) (old new : List Gate) → Ready m old → Extends (shape_of m) old new → Ready m new
ready-stays m old new r e = record {
  words = r.words;
  small = r.small;
  some = r.some;
  each = r.each;
  extends = extends-refl (shape_of m) new e.fit;
  chains = λ i v low run. node-stays (shape_of m) old new _ _ e (r.chains i v low run);
}

-- a gate of which no part is made
pub source-made : (m : Making) (t : List Gate) (k : ℕ) → Ready m t → k < (shape_of m).sources → GateMade m t t (gates.Source k) (source_meaning k)
source-made m t k r low = record { extends = r.extends; says = source-says (shape_of m) t k low }

pub constant-made : (m : Making) (t : List Gate) (b : Bool) → Ready m t → GateMade m t t (constant_gate b) (λ S T. known b)
constant-made m t true r = record {
  extends = r.extends;
  says = record {
    fits = lt-ltb 1 (shape_of m).sources (omega arith);
    value = λ S T fixed. ap known fixed.one;
  };
}
constant-made m t false r = record {
  extends = r.extends;
  says = record {
    fits = lt-ltb 0 (shape_of m).sources (omega arith);
    value = λ S T fixed. ap known fixed.zero;
  };
}

pub input-low : (m : Making) (s : ℕ) → input_number m.counts s < (shape_of m).sources
input-low m s = by (nat_lt s m.counts.given) refl where
  by : (b : Bool) → nat_lt s m.counts.given ≡ b → (if b then 3 + s else 0) < (shape_of m).sources
  by true e = let h = ltb-true s m.counts.given e in omega arith
  by false e = omega arith

pub selected-low : (m : Making) (t : List Gate) (n : ℕ) → Ready m t → selected_number m.counts n < (shape_of m).sources
selected-low m t n r = let s = r.some in omega arith

pub wire-made : (m : Making) (t : List Gate) (w : ℕ) → Ready m t → w < length m.graph.now.wires.items → GateMade m t t (gates.Same w) (λ S T. T w)
wire-made m t w r low = record { extends = r.extends; says = same-says (shape_of m) t w (λ S T. T w) (wire-says (shape_of m) t w low) }

pub wire-node : (m : Making) (t : List Gate) (w : ℕ) → Ready m t → w < length m.graph.now.wires.items → NodeMade m t t w (λ S T. T w)
wire-node m t w r low = record { extends = r.extends; says = wire-says (shape_of m) t w low }

-- a gate that is put at the end of the table
pub node-made : (m : Making) (old mid : List Gate) (g : Gate) (f : Meaning) → GateMade m old mid g f
    → NodeMade m old (mid ++ g ∷ []) (length m.graph.now.wires.items + length mid) f
node-made m old mid g f made = record {
  extends = extends-both (shape_of m) old mid (mid ++ g ∷ []) made.extends (pushed-extends (shape_of m) mid g f made.extends.fit made.says);
  says = pushed-says (shape_of m) mid g f made.says;
}

pub pair-made : (m : Making) (old mid new : List Gate) (n o : ℕ) (f h : Meaning) → NodeMade m old mid n f → NodeMade m mid new o h
    → PairMade m old new n o f h
pair-made m old mid new n o f h first second = record {
  extends = extends-both (shape_of m) old mid new first.extends second.extends;
  left = node-stays (shape_of m) mid new n f second.extends first.says;
  right = second.says;
}

pub not-made : (m : Making) (old new : List Gate) (n : ℕ) (f : Meaning) → NodeMade m old new n f → GateMade m old new (gates.Not n) (λ S T. opposite (f S T))
not-made m old new n f made = record { extends = made.extends; says = not-says (shape_of m) new n f made.says }

pub and-made : (m : Making) (old new : List Gate) (n o : ℕ) (f h : Meaning) → PairMade m old new n o f h
    → GateMade m old new (gates.And n o) (λ S T. conjunction (f S T) (h S T))
and-made m old new n o f h made = record { extends = made.extends; says = and-says (shape_of m) new n o f h made.left made.right }

pub or-made : (m : Making) (old new : List Gate) (n o : ℕ) (f h : Meaning) → PairMade m old new n o f h
    → GateMade m old new (gates.Or n o) (λ S T. disjunction (f S T) (h S T))
or-made m old new n o f h made = record { extends = made.extends; says = or-says (shape_of m) new n o f h made.left made.right }

-- the same of formulas that are equal to those of which the pair is made
pub and-formula : (m : Making) (old new : List Gate) (n o : ℕ) (f h k l : Formula) → f ≡ k → h ≡ l
    → PairMade m old new n o (meaning_of m f) (meaning_of m h)
    → GateMade m old new (gates.And n o) (λ S T. conjunction (meaning_of m k S T) (meaning_of m l S T))
and-formula m old new n o f h k l e g made =
    let one = subst (λ x. PairMade m old new n o (meaning_of m x) (meaning_of m h)) e made in
    let both = subst (λ y. PairMade m old new n o (meaning_of m k) (meaning_of m y)) g one in
    and-made m old new n o (meaning_of m k) (meaning_of m l) both

pub or-formula : (m : Making) (old new : List Gate) (n o : ℕ) (f h k l : Formula) → f ≡ k → h ≡ l
    → PairMade m old new n o (meaning_of m f) (meaning_of m h)
    → GateMade m old new (gates.Or n o) (λ S T. disjunction (meaning_of m k S T) (meaning_of m l S T))
or-formula m old new n o f h k l e g made =
    let one = subst (λ x. PairMade m old new n o (meaning_of m x) (meaning_of m h)) e made in
    let both = subst (λ y. PairMade m old new n o (meaning_of m k) (meaning_of m y)) g one in
    or-made m old new n o (meaning_of m k) (meaning_of m l) both

-- an end with a code of at most k is an end
upto-end : (i k : ℕ) (x : Wire) → is_end_upto i k x ≡ true → is_end_of i x ≡ true
upto-end i k (wires.Go j) h = absurd (false≢true h)
upto-end i k (wires.End j c) h = (and_parts (j.0 == i) (nat_le c k) h).0
upto-end i k (wires.Local j) h = absurd (false≢true h)
upto-end i k (wires.Out s) h = absurd (false≢true h)

-- what says that an instance ends with at most a code
pub upto-made : (m : Making) (t : List Gate) (i k : ℕ) → Ready m t → i < length m.graph.now.instances.list.items
    → GateMade m t t (upto_gate m i k) (upto_meaning m i k)
upto-made m t i k r low = by ((ends_upto m.graph.now m.words.now i k) == 0) refl
  where
    within : (first_end m.words.now i) ≤ length m.graph.now.wires.items
    within = let e = r.words.one_per_instance.2 in r.words.fit.ends i (record { 0 = 0 }) (omega arith)

    far : (first_end m.words.now i) + (ends_upto m.graph.now m.words.now i k) ≤ length m.graph.now.wires.items
    far =
        let a = prefix_len-le-length (is_end_upto i k) (drop (first_end m.words.now i) m.graph.now.wires.items) in
        let d = length-drop (first_end m.words.now i) m.graph.now.wires.items in
        let h = within in omega arith

    run : 0 < (ends_upto m.graph.now m.words.now i k)
        → IsRun m.graph.now m.words.now i ((first_end m.words.now i) + (ends_upto m.graph.now m.words.now i k) - 1)
    run some = record {
      from = omega arith;
      ends = λ u from to.
          let e : (first_end m.words.now i) + (u - (first_end m.words.now i)) ≡ u = omega arith in
          let at = get_or-drop (first_end m.words.now i) m.graph.now.wires.items (u - (first_end m.words.now i)) (wires.Out (record { 0 = 0 })) in
          let passes = prefix_len_passes (is_end_upto i k) (drop (first_end m.words.now i) m.graph.now.wires.items) (u - (first_end m.words.now i))
          (wires.Out (record { 0 = 0 })) (omega arith) in
          upto-end i k (wire_number m.graph.now u) (ap (λ n. is_end_upto i k (wire_number m.graph.now n)) (sym e) ∙ ap (is_end_upto i k) (sym at) ∙ passes);
    }

    by : (b : Bool) → ((ends_upto m.graph.now m.words.now i k) == 0) ≡ b
        → GateMade m t t
        (if b then gates.Source 0 else gates.Same (slice_index m.chains.now ((first_end m.words.now i) + (ends_upto m.graph.now m.words.now i k) - 1)))
        (upto_meaning m i k)
    by true e =
        let none : 0 ≡ (ends_upto m.graph.now m.words.now i k) = sym (eqb-true (ends_upto m.graph.now m.words.now i k) 0 e) in
        let made = constant-made m t false r in
        record {
          extends = r.extends;
          says = gate-means (shape_of m) t (gates.Source 0) (λ S T. Minus) (upto_meaning m i k)
              (λ S T. ap (any_status T (first_end m.words.now i)) none) made.says;
        }
    by false e =
        let apart = eqb-false (ends_upto m.graph.now m.words.now i k) 0 e in
        let some : 0 < (ends_upto m.graph.now m.words.now i k) =
        ⊎_elim (λ (z : (ends_upto m.graph.now m.words.now i k) ≡ 0). absurd (apart z))
        (λ (z : ends_upto m.graph.now m.words.now i k ≡ 0 → ⊥). omega arith) (cases_eq (ends_upto m.graph.now m.words.now i k) 0) in
        let all : (first_end m.words.now i) + (ends_upto m.graph.now m.words.now i k) - 1 + 1 - (first_end m.words.now i)
        ≡ (ends_upto m.graph.now m.words.now i k) = omega arith in
        let h = far in
        let node = r.chains i ((first_end m.words.now i) + (ends_upto m.graph.now m.words.now i k) - 1) (omega arith) (run some) in
        record {
          extends = r.extends;
          says = gate-means (shape_of m) t (gates.Same (slice_index m.chains.now ((first_end m.words.now i) + (ends_upto m.graph.now m.words.now i k) - 1)))
              (λ S T. any_status T (first_end m.words.now i)
              ((first_end m.words.now i) + (ends_upto m.graph.now m.words.now i k) - 1 + 1 - (first_end m.words.now i)))
              (upto_meaning m i k) (λ S T. ap (any_status T (first_end m.words.now i)) all)
              (same-says (shape_of m) t (slice_index m.chains.now ((first_end m.words.now i) + (ends_upto m.graph.now m.words.now i k) - 1)) _ node);
        }

-- the or of wires, one wire more at the front
any-cons : (S : List Bool) (T : ℕ → Status) (v : WireId) (vs : List WireId) → 0 < length vs
    → any_meaning (v ∷ vs) S T ≡ disjunction (T v.0) (any_meaning vs S T)
any-cons S T v [] some = absurd (omega arith)
any-cons S T v (u ∷ vs) some = refl

length-zero : (vs : List WireId) → length vs ≡ 0 → vs ≡ []
length-zero [] e = refl
length-zero (v ∷ vs) e = absurd (omega arith)

pub any-last : (m : Making) (t : List Gate) (list : List WireId) (last : ℕ) (d : WireId) → Ready m t → length list ≡ last + 1
    → (slice_index_or list last d).0 < length m.graph.now.wires.items
    → NodeMade m t t (slice_index_or list last d).0 (any_meaning (drop last list))
any-last m t list last d r many low =
    let behind = length-drop (last + 1) list in
    let end : drop (last + 1) list ≡ [] = length-zero (drop (last + 1) list) (omega arith) in
    let all : drop last list ≡ slice_index_or list last d ∷ [] = drop_more list last d (omega arith) ∙ ap (λ vs. slice_index_or list last d ∷ vs) end in
    subst (λ vs. NodeMade m t t (slice_index_or list last d).0 (any_meaning vs)) (sym all) (wire-node m t (slice_index_or list last d).0 r low)

pub any-more : (m : Making) (old mid : List Gate) (list : List WireId) (place node : ℕ) (d : WireId) → Ready m old → place + 1 < length list
    → (slice_index_or list place d).0 < length m.graph.now.wires.items → NodeMade m old mid node (any_meaning (drop (place + 1) list))
    → NodeMade m old (mid ++ gates.Or (slice_index_or list place d).0 node ∷ []) (length m.graph.now.wires.items + length mid) (any_meaning (drop place list))
any-more m old mid list place node d r low fits made =
    let v = slice_index_or list place d in
    let rest = drop (place + 1) list in
    let behind = length-drop (place + 1) list in
    let all : drop place list ≡ v ∷ rest = drop_more list place d (omega arith) in
    let here = wire-says (shape_of m) mid v.0 fits in
    let says = gate-means (shape_of m) mid (gates.Or v.0 node) (λ S T. disjunction (T v.0) (any_meaning rest S T)) (any_meaning (drop place list))
    (λ S T. sym (ap (λ vs. any_meaning vs S T) all ∙ any-cons S T v rest (omega arith)))
    (or-says (shape_of m) mid v.0 node (λ S T. T v.0) (any_meaning rest) here made.says) in
    node-made m old mid (gates.Or v.0 node) (any_meaning (drop place list)) (record { extends = made.extends; says = says })

pub same-made : (m : Making) (old new : List Gate) (n : ℕ) (f : Meaning) → NodeMade m old new n f → GateMade m old new (gates.Same n) f
same-made m old new n f made = record { extends = made.extends; says = same-says (shape_of m) new n f made.says }

-- a list that is not empty
pub is-filled : (list : List WireId) (b : Bool) → b ≡ (length list == 0) → b ≡ false → 0 < length list
is-filled [] b is h = absurd (false≢true (sym h ∙ is))
is-filled (v ∷ vs) b is h = omega arith

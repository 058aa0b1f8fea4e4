-- Gates that are copied over other nets.
use Rattle.std.proofs.Common.{◌≡◌, ℕ, suc, ◌+◌, ◌-◌, ◌<◌, ◌≤◌, Bool, false, None, List, [], ◌∷◌, ◌++◌, length, map, refl, sym}
use Rattle.std.proofs.Common.{ap, ◌∙◌, subst, arith, All, slice_index_or, append_assoc, inl, inr}
use Rattle.std.specs.Option.{option_map}
use Rattle.std.proofs.lemmas.List.{get_or_append_left, get_or_push, length_push, length-map, get_or-map, get_or-append_right}
use Rattle.std.proofs.lemmas.List.Elements.{All-head, All-tail, filter_map-append}
use Rattle.std.proofs.lemmas.Bool.{cases_lt}
use Rattle.std.proofs.Common.{length-append}
use Rattle.base_types.specs.declared.indices.WireId.{WireId}
use Rattle.net_ir.specs.declared.netlist.Gate.{Gate}
use Rattle.net_ir.specs.Gates.{operand_end, ReadsLower, op_value, value_in, gate_values, carried}
use Rattle.net_ir.proofs.Exports.{ReadsLower-rest}
use Rattle.net_simp.specs.Renaming.{renamed_op}
use Rattle.net_simp.specs.SameRuns.{carried_value, carried_values}
use Rattle.net_simp.proofs.Exports.{reads-low, renamed-value, renamed-low}
use Rattle.net_state_enc.specs.Recodings.{copied}

-- nets stand for others: so many for so many
pub record Stands (first here : ℕ) (f : ℕ → ℕ) (v w : List Bool) : Type 0 where
  pub old_many : length v ≡ first
  pub new_many : length w ≡ here
  pub low : (n : ℕ) → n < first → f n < here
  pub same : (n : ℕ) → n < first → value_in w (f n) ≡ value_in v n

stands-step : (first here : ℕ) (f : ℕ → ℕ) (v w : List Bool) (x y : Bool) → f first ≡ here → x ≡ y → Stands first here f v w
    → Stands (first + 1) (here + 1) f (v ++ x ∷ []) (w ++ y ∷ [])
stands-step first here f v w x y at e s = record {
  old_many = length_push v x ∙ (let a = s.old_many in omega arith);
  new_many = length_push w y ∙ (let a = s.new_many in omega arith);
  low = λ n h. elim (cases_lt n first) [
    | inl before ↦ let l = s.low n before in omega arith
    | inr after ↦ let q : n ≡ first = omega arith in subst (λ m. f m < here + 1) (sym q) (omega (arith, at))
  ];
  same = λ n h. elim (cases_lt n first) [
    | inl before ↦
        let l = s.low n before in
        get_or_append_left w (y ∷ []) false (f n) (let a = s.new_many in omega arith) ∙ s.same n before
        ∙ sym (get_or_append_left v (x ∷ []) false n (let a = s.old_many in omega arith))
    | inr after ↦
        let q : n ≡ first = omega arith in
        get_or_push w y false (f n) (s.new_many ∙ sym (ap f q ∙ at)) ∙ sym e ∙ sym (get_or_push v x false n (s.old_many ∙ sym q))
  ];
}

pub copies-stand : (first here : ℕ) (f : ℕ → ℕ) (v w : List Bool) (gates : List Gate) → ReadsLower first gates
    → ((k : ℕ) → k < length gates → f (first + k) ≡ here + k) → Stands first here f v w
    → Stands (first + length gates) (here + length gates) f (gate_values v gates) (gate_values w (map (copied f) gates))
copies-stand first here f v w [] reads step s =
    let a : first ≡ first + 0 = omega arith in
    let b : here ≡ here + 0 = omega arith in
    subst (λ n. Stands n (here + 0) f v w) a (subst (λ n. Stands first n f v w) b s)
copies-stand first here f v w (g ∷ gates) reads step s =
    let x = op_value (value_in v) g.op in
    let y = op_value (value_in w) (renamed_op f g.op) in
    let low : operand_end g.op ≤ first = (let r = reads 0 g (omega arith) in omega arith) in
    let e : y ≡ x = renamed-value f (value_in w) (value_in v) g.op (λ n read. s.same n (reads-low g.op n first read low)) in
    let at : f first ≡ here = (let p : first ≡ first + 0 = omega arith in ap f p) ∙ step 0 (omega arith) ∙ (let p : here + 0 ≡ here = omega arith in p) in
    let rest = copies-stand (first + 1) (here + 1) f (v ++ x ∷ []) (w ++ y ∷ []) gates (ReadsLower-rest first g gates reads)
    (λ k h. let p : first + 1 + k ≡ first + suc k = omega arith in let q : here + suc k ≡ here + 1 + k = omega arith in
    ap f p ∙ step (suc k) (omega arith) ∙ q)
    (stands-step first here f v w x y at (sym e) s) in
    let a : first + 1 + length gates ≡ first + suc (length gates) = omega arith in
    let b : here + 1 + length gates ≡ here + suc (length gates) = omega arith in
    let all = gate_values (v ++ x ∷ []) gates in
    let new = gate_values (w ++ y ∷ []) (map (copied f) gates) in
    subst (λ n. Stands n (here + suc (length gates)) f all new) a (subst (λ n. Stands (first + 1 + length gates) n f all new) b rest)

-- copies read lower nets
pub copies-read : (first here : ℕ) (f : ℕ → ℕ) (gates : List Gate) → ReadsLower first gates → ((n : ℕ) → n < first → f n < here)
    → ((k : ℕ) → k < length gates → f (first + k) ≡ here + k) → ReadsLower here (map (copied f) gates)
copies-read first here f gates reads low step = λ k d h.
    let many = length-map gates (copied f) in
    let inside : k < length gates = omega arith in
    let g = slice_index_or gates k d in
    let end : operand_end g.op ≤ first + k = reads k d inside in
    subst (λ (x : Gate). operand_end x.op ≤ here + k) (sym (get_or-map (copied f) gates k d d inside))
    (renamed-low f g.op (here + k) (λ n read.
    let below = reads-low g.op n (first + k) read end in
    elim (cases_lt n first) [
      | inl before ↦ let l = low n before in omega arith
      | inr after ↦
          let at : n ≡ first + (n - first) = omega arith in
          let e = ap f at ∙ step (n - first) (omega arith) in
          omega (arith, e)
    ]))

pub reads-append : (first : ℕ) (xs ys : List Gate) → ReadsLower first xs → ReadsLower (first + length xs) ys → ReadsLower first (xs ++ ys)
reads-append first xs ys rx ry = λ k d h. elim (cases_lt k (length xs)) [
  | inl before ↦
      subst (λ (g : Gate). operand_end g.op ≤ first + k) (sym (get_or_append_left xs ys d k before)) (rx k d before)
  | inr after ↦
      let at = get_or-append_right xs ys (length xs) k d refl after in
      let low = ry (k - length xs) d (omega (arith, length-append xs ys)) in
      subst (λ (g : Gate). operand_end g.op ≤ first + k) (sym at) (omega arith)
]

-- ---- the wires that they carry

pub carried-append : (xs ys : List Gate) → carried (xs ++ ys) ≡ carried xs ++ carried ys
carried-append xs ys = filter_map-append (λ (g : Gate). option_map (λ (w : WireId). w.0) g.wire) xs ys

pub carried-none : (gates : List Gate) → All (λ (g : Gate). g.wire ≡ None) gates → carried gates ≡ []
carried-none [] silent = refl
carried-none (g ∷ gates) silent =
    let here : g.wire ≡ None = All-head (λ (x : Gate). x.wire ≡ None) g gates silent in
    let rest = carried-none gates (All-tail (λ (x : Gate). x.wire ≡ None) g gates silent) in
    rw here rest

pub carried-copied : (f : ℕ → ℕ) (gates : List Gate) → carried (map (copied f) gates) ≡ carried gates
carried-copied f [] = refl
carried-copied f (g ∷ gates) =
    carried-append (copied f g ∷ []) (map (copied f) gates) ∙ ap (λ ws. carried (g ∷ []) ++ ws) (carried-copied f gates)
    ∙ sym (carried-append (g ∷ []) gates)

pub carried_values-append : (n : ℕ) (xs ys : List Gate) (V : List Bool)
    → carried_values n (xs ++ ys) V ≡ carried_values n xs V ++ carried_values (n + length xs) ys V
carried_values-append n [] ys V = let e : n ≡ n + 0 = omega arith in ap (λ k. carried_values k ys V) e
carried_values-append n (x ∷ xs) ys V =
    let e : n + 1 + length xs ≡ n + suc (length xs) = omega arith in
    let here = carried_value x.wire (value_in V n) in
    ap (λ bs. here ++ bs) (carried_values-append (n + 1) xs ys V) ∙ sym (append_assoc here (carried_values (n + 1) xs V) (carried_values (n + 1 + length xs) ys
    V))
    ∙ ap (λ k. (here ++ carried_values (n + 1) xs V) ++ carried_values k ys V) e

pub carried_values-none : (n : ℕ) (gates : List Gate) (V : List Bool) → All (λ (g : Gate). g.wire ≡ None) gates → carried_values n gates V ≡ []
carried_values-none n [] V silent = refl
carried_values-none n (g ∷ gates) V silent =
    let here : g.wire ≡ None = All-head (λ (x : Gate). x.wire ≡ None) g gates silent in
    ap (λ w. carried_value w (value_in V n) ++ carried_values (n + 1) gates V) here
    ∙ carried_values-none (n + 1) gates V (All-tail (λ (x : Gate). x.wire ≡ None) g gates silent)

pub carried_values-copied : (f : ℕ → ℕ) (n m : ℕ) (gates : List Gate) (V W : List Bool)
    → ((k : ℕ) → k < length gates → value_in W (m + k) ≡ value_in V (n + k))
    → carried_values m (map (copied f) gates) W ≡ carried_values n gates V
carried_values-copied f n m [] V W same = refl
carried_values-copied f n m (g ∷ gates) V W same =
    let p : m ≡ m + 0 = omega arith in
    let q : n + 0 ≡ n = omega arith in
    let here : value_in W m ≡ value_in V n = ap (value_in W) p ∙ same 0 (omega arith) ∙ ap (value_in V) q in
    let rest = carried_values-copied f (n + 1) (m + 1) gates V W (λ k h.
    let a : m + 1 + k ≡ m + suc k = omega arith in let b : n + suc k ≡ n + 1 + k = omega arith in
    ap (value_in W) a ∙ same (suc k) (omega arith) ∙ ap (value_in V) b) in
    (λ i. carried_value g.wire (here i) ++ rest i)

-- The values of gates, one after another, are the only ones that meet the gates' equations.
use Rattle.std.proofs.Common.{◌≡◌, ℕ, ◌+◌, ◌<◌, ◌≤◌, zero, suc, Bool, false, not, List, [], ◌∷◌, ◌++◌, length, take, refl, sym, ap, ◌∙◌, subst, arith, ◌↔◌}
use Rattle.std.proofs.lemmas.List.{take_all, take_at, take-take, take_more, get_or-take, get_or_append_left, get_or_push, length_push, length-take-le}
use Rattle.net_ir.specs.declared.netlist.Op.{Op}
use Rattle.net_ir.specs.declared.netlist.Op.TheVariants.{Const, Copy, Not, And, Or}
use Rattle.net_ir.specs.declared.netlist.Gate.{Gate}
use Rattle.net_ir.specs.Gates.{operand_end, ReadsLower, op_value, value_in, gate_values, Solves}

-- an operator's value depends on the nets that it reads alone
pub op_value-same : (u v : ℕ → Bool) (op : Op) (end : ℕ) → operand_end op ≤ end → ((n : ℕ) → n < end → u n ≡ v n) → op_value u op ≡ op_value v op
op_value-same u v (Const b) end low same = refl
op_value-same u v (Copy n) end low same = same n.0 (omega arith)
op_value-same u v (Not n) end low same = ap not (same n.0 (omega arith))
op_value-same u v (And m n) end low same =
    let p = same m.0 (omega arith) in let q = same n.0 (omega arith) in cc
op_value-same u v (Or m n) end low same =
    let p = same m.0 (omega arith) in let q = same n.0 (omega arith) in cc

-- each gate adds one value
pub length-gate_values : (values : List Bool) (gates : List Gate) → length (gate_values values gates) ≡ length values + length gates
length-gate_values values [] = omega arith
length-gate_values values (g ∷ gates) =
    let v = op_value (value_in values) g.op in
    omega (arith, length-gate_values (values ++ v ∷ []) gates, length_push values v)

-- gates in two parts: the values of the first part, and then those of the other
pub gate_values-append : (values : List Bool) (first others : List Gate) → gate_values values (first ++ others) ≡ gate_values (gate_values values first) others
gate_values-append values [] others = refl
gate_values-append values (g ∷ first) others =
    gate_values-append (values ++ op_value (value_in values) g.op ∷ []) first others

-- the values that are given stay, whatever gates follow
pub value_in-gate_values : (values : List Bool) (gates : List Gate) (n : ℕ) → n < length values → value_in (gate_values values gates) n ≡ value_in values n
value_in-gate_values values [] n low = refl
value_in-gate_values values (g ∷ gates) n low =
    let v = op_value (value_in values) g.op in
    let longer : n < length (values ++ v ∷ []) = omega (arith, length_push values v) in
    value_in-gate_values (values ++ v ∷ []) gates n longer ∙ get_or_append_left values (v ∷ []) false n low

pub take-gate_values : (values : List Bool) (gates : List Gate) → take (length values) (gate_values values gates) ≡ values
take-gate_values values [] = take_all (length values) values (omega arith)
take-gate_values values (g ∷ gates) =
    let v = op_value (value_in values) g.op in
    let all = gate_values (values ++ v ∷ []) gates in
    let longer = length_push values v in
    sym (take-take (length values) (length (values ++ v ∷ [])) all (omega arith)) ∙ ap (take (length values)) (take-gate_values (values ++ v ∷ []) gates)
    ∙ take_at values (v ∷ []) (length values) refl

-- what the gates after the first one read
pub ReadsLower-rest : (start : ℕ) (g : Gate) (gates : List Gate) → ReadsLower start (g ∷ gates) → ReadsLower (start + 1) gates
ReadsLower-rest start g gates reads = λ k d h. let low = reads (suc k) d (omega arith) in omega arith

-- the equations of the first gate and of those after it
pub Solves-cons : (start : ℕ) (g : Gate) (gates : List Gate) (values : List Bool) → value_in values start ≡ op_value (value_in values) g.op
    → Solves (start + 1) gates values → Solves start (g ∷ gates) values
Solves-cons start g gates values here rest zero d h =
    let e : start + 0 ≡ start = omega arith in ap (value_in values) e ∙ here
Solves-cons start g gates values here rest (suc k) d h =
    let e : start + suc k ≡ start + 1 + k = omega arith in ap (value_in values) e ∙ rest k d (omega arith)

pub Solves-rest : (start : ℕ) (g : Gate) (gates : List Gate) (values : List Bool) → Solves start (g ∷ gates) values → Solves (start + 1) gates values
Solves-rest start g gates values solves k d h =
    let e : start + 1 + k ≡ start + suc k = omega arith in ap (value_in values) e ∙ solves (suc k) d (omega arith)

-- the values of gates, one after another, meet every gate's equation
pub Solves-gate_values : (start : ℕ) (values : List Bool) (gates : List Gate) → length values ≡ start → ReadsLower start gates
    → Solves start gates (gate_values values gates)
Solves-gate_values start values [] len reads = λ k d h. absurd (omega arith)
Solves-gate_values start values (g ∷ gates) len reads =
    let v = op_value (value_in values) g.op in
    let all = gate_values (values ++ v ∷ []) gates in
    let longer = length_push values v in
    let stays : value_in all start ≡ v = value_in-gate_values (values ++ v ∷ []) gates start (omega arith) ∙ get_or_push values v false start len in
    let low = reads 0 g (omega arith) in
    let below = λ (n : ℕ) (h : n < start). value_in-gate_values (values ++ v ∷ []) gates n (omega arith)
    ∙ get_or_append_left values (v ∷ []) false n (omega arith) in
    let same = op_value-same (value_in all) (value_in values) g.op start (omega arith) below in
    Solves-cons start g gates all (stays ∙ sym same) (Solves-gate_values (start + 1) (values ++ v ∷ []) gates (omega arith)
    (ReadsLower-rest start g gates reads))

-- values that meet every gate's equation are those of the gates, one after another
pub gate_values-from_Solves : (start : ℕ) (gates : List Gate) (values : List Bool) → ReadsLower start gates → length values ≡ start + length gates
    → Solves start gates values → values ≡ gate_values (take start values) gates
gate_values-from_Solves start [] values reads len solves = sym (take_all start values (omega arith))
gate_values-from_Solves start (g ∷ gates) values reads len solves =
    let v = op_value (value_in (take start values)) g.op in
    let low = reads 0 g (omega arith) in
    let same = op_value-same (value_in values) (value_in (take start values)) g.op start (omega arith) (λ n h. sym (get_or-take start values n false h)) in
    let e : start ≡ start + 0 = omega arith in
    let here : value_in values start ≡ v = ap (value_in values) e ∙ solves 0 g (omega arith) ∙ same in
    let more : take (start + 1) values ≡ take start values ++ v ∷ [] = take_more values start false (omega arith)
    ∙ ap (λ x. take start values ++ x ∷ []) here in
    gate_values-from_Solves (start + 1) gates values (ReadsLower-rest start g gates reads) (omega arith) (Solves-rest start g gates values solves)
    ∙ ap (λ x. gate_values x gates) more

-- so the two say the same
pub Solves_iff : (start : ℕ) (gates : List Gate) (values : List Bool) → ReadsLower start gates → length values ≡ start + length gates
    → Solves start gates values ↔ (values ≡ gate_values (take start values) gates)
Solves_iff start gates values reads len = (
  gate_values-from_Solves start gates values reads len,
  λ e. subst (Solves start gates) (sym e) (Solves-gate_values start (take start values) gates (length-take-le start values (omega arith)) reads),
)

-- Gates over nets that moved.
use Rattle.std.proofs.Common.{◌≡◌, ◌<◌, ◌≤◌, ◌+◌, ◌-◌, ℕ, zero, suc, Bool, List, [], ◌∷◌, ◌++◌, length, map, get_or, refl, sym, ap, ◌∙◌, subst, arith, ⊎_elim}
use Rattle.std.proofs.Common.{if◌then◌else◌}
use Rattle.std.proofs.lemmas.Bool.{cases_lt, lt-ltb, le-ltb}
use Rattle.std.proofs.lemmas.List.{get_or_append_left, get_or-append-add, get_or-map, length-append, length-map}
use Rattle.net_ir.specs.declared.netlist.Gate.{Gate}
use Rattle.net_ir.specs.Gates.{ReadsLower, Solves, gate_values, op_value, operand_end, value_in}
use Rattle.net_ir.proofs.Exports.{any_gate}
use Rattle.net_simp.specs.Renaming.{renamed_op}
use Rattle.net_simp.proofs.Exports.{reads-low, renamed-low, renamed-value}
use Rattle.net_pair.specs.Layout.{moved, moved_gate}
use Rattle.net_pair.specs.declared.moving.Shift.{Shift}

-- ---- the number that a net gets

pub moved-input : (s : Shift) (n : ℕ) → n < s.first_latch → moved s n ≡ n
moved-input s n low = rw (lt-ltb n s.first_latch low) refl

pub moved-latch : (s : Shift) (n : ℕ) → s.first_latch ≤ n → n < s.first_gate → moved s n ≡ n + s.latches
moved-latch s n high low = rw (le-ltb n s.first_latch high, lt-ltb n s.first_gate low) refl

pub moved-gate : (s : Shift) (n : ℕ) → s.first_latch ≤ n → s.first_gate ≤ n → moved s n ≡ n + s.gates
moved-gate s n high past = rw (le-ltb n s.first_latch high, le-ltb n s.first_gate past) refl

pub moved-below : (s : Shift) (n : ℕ) → s.latches ≤ s.gates → moved s n ≤ n + s.gates
moved-below s n order = ⊎_elim (λ low. let e = moved-input s n low in omega arith)
    (λ high. ⊎_elim
    (λ low. let e = moved-latch s n high low in omega arith)
    (λ past. let e = moved-gate s n high past in omega arith)
    (cases_lt n s.first_gate))
    (cases_lt n s.first_latch)

-- ---- equations of gates in two parts

pub Solves-left : (start : ℕ) (xs ys : List Gate) (v : List Bool) → Solves start (xs ++ ys) v → Solves start xs v
Solves-left start xs ys v solves = λ k d h.
    solves k d (omega (arith, length-append xs ys)) ∙ ap (λ (g : Gate). op_value (value_in v) g.op) (get_or_append_left xs ys d k h)

pub Solves-right : (start next : ℕ) (xs ys : List Gate) (v : List Bool) → next ≡ start + length xs → Solves start (xs ++ ys) v → Solves next ys v
Solves-right start next xs ys v is solves = λ k d h.
    let at : next + k ≡ start + (length xs + k) = omega arith in
    ap (value_in v) at ∙ solves (length xs + k) d (omega (arith, length-append xs ys))
    ∙ ap (λ (g : Gate). op_value (value_in v) g.op) (get_or-append-add xs ys k d)

pub reads-both : (start next : ℕ) (xs ys : List Gate) → next ≡ start + length xs → ReadsLower start xs → ReadsLower next ys → ReadsLower start (xs ++ ys)
reads-both start next xs ys is left right = λ k d h. ⊎_elim
    (λ low. subst (λ (g : Gate). operand_end g.op ≤ start + k) (sym (get_or_append_left xs ys d k low)) (left k d low))
    (λ high.
    let j = k - length xs in
    let at : length xs + j ≡ k = omega arith in
    let inside : j < length ys = omega (arith, length-append xs ys) in
    let e : get_or (xs ++ ys) k d ≡ get_or ys j d = ap (λ n. get_or (xs ++ ys) n d) (sym at) ∙ get_or-append-add xs ys j d in
    let less : operand_end (get_or ys j d).op ≤ start + k = let r = right j d inside in omega arith in
    subst (λ (g : Gate). operand_end g.op ≤ start + k) (sym e) less)
    (cases_lt k (length xs))

-- ---- gates that moved

-- they read lower nets
pub ReadsLower-moved : (f : ℕ → ℕ) (start to : ℕ) (gates : List Gate) → ReadsLower start gates
    → ((k n : ℕ) → n < start + k → f n < to + k) → ReadsLower to (map (moved_gate f) gates)
ReadsLower-moved f start to gates reads below = λ k d h.
    let inside : k < length gates = omega (arith, length-map gates (moved_gate f)) in
    let g = get_or gates k any_gate in
    let low = reads k any_gate inside in
    subst (λ (x : Gate). operand_end x.op ≤ to + k) (sym (get_or-map (moved_gate f) gates k any_gate d inside))
    (renamed-low f g.op (to + k) (λ n read. below k n (reads-low g.op n (start + k) read low)))

-- their equations
pub moved-equations : (f : ℕ → ℕ) (start to : ℕ) (gates : List Gate) (v : List Bool) → Solves to (map (moved_gate f) gates) v
    → ((k : ℕ) → k < length gates → f (start + k) ≡ to + k)
    → (k : ℕ) → k < length gates → value_in v (f (start + k)) ≡ op_value (value_in v) (renamed_op f (get_or gates k any_gate).op)
moved-equations f start to gates v solves at k h =
    ap (value_in v) (at k h) ∙ solves k any_gate (omega (arith, length-map gates (moved_gate f)))
    ∙ ap (λ (g : Gate). op_value (value_in v) g.op) (get_or-map (moved_gate f) gates k any_gate any_gate h)

-- their values
pub moved-values : (f : ℕ → ℕ) (u v : List Bool) (start : ℕ) (gates : List Gate) → ReadsLower start gates → Solves start gates u
    → ((n : ℕ) → n < start → value_in v (f n) ≡ value_in u n)
    → ((k : ℕ) → k < length gates → value_in v (f (start + k)) ≡ op_value (value_in v) (renamed_op f (get_or gates k any_gate).op))
    → (bound n : ℕ) → n < bound → n < start + length gates → value_in v (f n) ≡ value_in u n
moved-values f u v start gates reads solves low gate zero n below inside = absurd (omega arith)
moved-values f u v start gates reads solves low gate (suc bound) n below inside = ⊎_elim (low n)
    (λ high.
    let k = n - start in
    let at : start + k ≡ n = omega arith in
    let here : k < length gates = omega arith in
    let g = get_or gates k any_gate in
    let end = reads k any_gate here in
    let same = renamed-value f (value_in v) (value_in u) g.op (λ m read.
    let less = reads-low g.op m (start + k) read end in
    moved-values f u v start gates reads solves low gate bound m (omega arith) (omega arith)) in
    subst (λ m. value_in v (f m) ≡ value_in u m) at (gate k here ∙ same ∙ sym (solves k any_gate here)))
    (cases_lt n start)

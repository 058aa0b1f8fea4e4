-- What gates that are drawn behind others keep.
use Rattle.std.proofs.Common.{◌≡◌, ℕ, ◌+◌, ◌<◌, ◌≤◌, ◌^◌, suc, Bool, false, List, [], ◌∷◌, ◌++◌, length, refl, sym, ap, ◌∙◌, arith, append_assoc}
use Rattle.std.proofs.Common.{Option, Some, None, All}
use Rattle.std.proofs.lemmas.List.{append-nil, length-append, length_push, get_or_push}
use Rattle.base_types.specs.declared.indices.NetId.{NetId}
use Rattle.net_ir.specs.declared.netlist.Op.{Op}
use Rattle.net_ir.specs.declared.netlist.Gate.{Gate}
use Rattle.net_ir.specs.Gates.{operand_end, op_value, value_in, gate_values}
use Rattle.net_ir.proofs.Exports.{ReadsLower-push, carried-silent, length-gate_values, gate_values-append, value_in-gate_values}
use Rattle.blif_net.specs.Drawings.{IsDrawing, Draws, is_low, said, read_values}

-- one more gate
pub draws-push : (first : ℕ) (old : List Gate) (op : Op) → IsDrawing first old → operand_end op ≤ first + length old → first + length old < 2 ^ 32
    → Draws first old (old ++ record { op = op; wire = None } ∷ []) (Some (record { 0 = first + length old })) false
    (λ values. op_value (value_in values) op)
draws-push first old op d low few =
    let g : Gate = record { op = op; wire = None } in
    let longer = length_push old g in
    record {
      drawing = record {
        few = omega (arith, longer, few);
        reads_lower = ReadsLower-push first old g d.reads_lower low;
        silent = carried-silent old g refl ∙ d.silent;
      };
      more = g ∷ [];
      added = refl;
      low = omega (arith, longer);
      says = λ given wide.
          let values = gate_values given old in
          let count : length values ≡ first + length old = length-gate_values given old ∙ ap (λ n. n + length old) wide in
          ap (λ l. value_in l (first + length old)) (gate_values-append given old (g ∷ []))
          ∙ get_or_push values (op_value (value_in values) op) false (first + length old) count;
    }

-- no more gates
pub draws-none : (first : ℕ) (gates : List Gate) (net : Option NetId) (none : Bool) → IsDrawing first gates → is_low (first + length gates) net
    → Draws first gates gates net none (said none net)
draws-none first gates net none d low = record {
  drawing = d;
  more = [];
  added = sym (append-nil gates);
  low = low;
  says = λ given wide. refl;
}

-- the same value
pub draws-value : (first : ℕ) (old new : List Gate) (net : Option NetId) (none : Bool) (f g : List Bool → Bool)
    → ((values : List Bool) → f values ≡ g values) → Draws first old new net none f → Draws first old new net none g
draws-value first old new net none f g same d = record {
  drawing = d.drawing;
  more = d.more;
  added = d.added;
  low = d.low;
  says = λ given wide. d.says given wide ∙ same (gate_values given old);
}

-- where there is a net, its value is no other
pub draws-some : (first : ℕ) (old new : List Gate) (net : NetId) (none other : Bool) (f : List Bool → Bool)
    → Draws first old new (Some net) none f → Draws first old new (Some net) other f
draws-some first old new net none other f d = record {
  drawing = d.drawing;
  more = d.more;
  added = d.added;
  low = d.low;
  says = d.says;
}

-- what is drawn stays
module _ (first : ℕ) (old new : List Gate) (net : Option NetId) (none : Bool) (f : List Bool → Bool) (d : Draws first old new net none f) where
  pub longer : length new ≡ length old + length d.more
  longer = ap length d.added ∙ length-append old d.more

  pub value-stays : (given : List Bool) → length given ≡ first → (n : ℕ) → n < first + length old
      → value_in (gate_values given new) n ≡ value_in (gate_values given old) n
  value-stays given wide n low =
      let count : length (gate_values given old) ≡ first + length old = length-gate_values given old ∙ ap (λ n. n + length old) wide in
      ap (λ gs. value_in (gate_values given gs) n) d.added ∙ ap (λ l. value_in l n) (gate_values-append given old d.more)
      ∙ value_in-gate_values (gate_values given old) d.more n (omega (arith, count, low))

  pub said-stays : (given : List Bool) → length given ≡ first → (other : Option NetId) (b : Bool) → is_low (first + length old) other
      → said b other (gate_values given new) ≡ said b other (gate_values given old)
  said-stays given wide None b low = refl
  said-stays given wide (Some n) b low = value-stays given wide n.0 low

  pub reads-stay : (given : List Bool) → length given ≡ first → (nets : List NetId) → All (λ n. n.0 < first + length old) nets
      → read_values nets (gate_values given new) ≡ read_values nets (gate_values given old)
  reads-stay given wide [] low = refl
  reads-stay given wide (n ∷ nets) low =
      let here = value-stays given wide n.0 (low 0 n (omega arith)) in
      rw (here, reads-stay given wide nets (λ k d h. low (suc k) d (omega (arith, h)))) refl

  pub low-later : (other : Option NetId) → is_low (first + length old) other → is_low (first + length new) other
  low-later None low = low
  low-later (Some n) low = omega (arith, low, longer)

  pub all-later : (nets : List NetId) → All (λ n. n.0 < first + length old) nets → All (λ n. n.0 < first + length new) nets
  all-later nets low k e h = let here = low k e h in omega (arith, here, longer)

-- one drawing behind another
pub draws-then : (first : ℕ) (a b c : List Gate) (m n : Option NetId) (p q : Bool) (f g h : List Bool → Bool)
    → Draws first a b m p f → Draws first b c n q g
    → ((given : List Bool) → length given ≡ first → g (gate_values given b) ≡ h (gate_values given a))
    → Draws first a c n q h
draws-then first a b c m n p q f g h one two same = record {
  drawing = two.drawing;
  more = one.more ++ two.more;
  added = two.added ∙ ap (λ l. l ++ two.more) one.added ∙ append_assoc a one.more two.more;
  low = two.low;
  says = λ given wide. two.says given wide ∙ same given wide;
}

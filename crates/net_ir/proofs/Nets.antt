-- The parts of a netlist's values, its nets case by case, and what is told of a run.
use Rattle.std.proofs.Common.{Bool, List, None, [], ap, arith, drop, false, get_or, length, map, refl, subst, suc, zero, ℕ, ⊎_elim, ◌++◌, ◌+◌, ◌-◌, ◌<◌}
use Rattle.std.proofs.Common.{◌∙◌, ◌∷◌, ◌≡◌}
use Rattle.std.proofs.lemmas.Bool.{cases_lt}
use Rattle.std.proofs.lemmas.List.{length-drop, length-map}
use Rattle.std.specs.List.{AllByRecursion}
use Rattle.base_types.specs.Items.{Event, Item, Reset}
use Rattle.net_ir.proofs.Values.{length-gate_values}
use Rattle.net_ir.specs.Gates.{value_in}
use Rattle.net_ir.specs.Netlists.{Netlist, first_gate, net_count}
use Rattle.net_ir.specs.Numbered.{numbered}
use Rattle.net_ir.specs.Runs.{initial_latches, net_values, next_latches, values_from}
use Rattle.net_ir.specs.declared.netlist.Gate.{Gate}
use Rattle.net_ir.specs.declared.netlist.Op.TheVariants as ops
use Rattle.net_ir.specs.declared.netlist.Latch.{Latch}

pub length-next : (net : Netlist) (values : List Bool) → length (next_latches net values) ≡ length net.latches
length-next net values = length-map net.latches (λ (l : Latch). value_in values l.from.0)

-- the values that follow those of the inputs and the latches
abbrev pub gate_part : Netlist → List Bool → List Bool
gate_part net values = drop (first_gate net) values

pub length-gate_part : (net : Netlist) (latches inputs : List Bool) → length (inputs ++ latches) ≡ first_gate net
    → length (gate_part net (net_values net latches inputs)) ≡ length net.gates
length-gate_part net latches inputs wide =
    length-drop (first_gate net) (net_values net latches inputs) ∙ omega (arith, length-gate_values (inputs ++ latches) net.gates)

-- what g gives of the latch values and the inputs of each event
abbrev pub told_from : {X : Type 0} → Netlist → (List Bool → List Bool → X) → List Bool → List Item → List X
told_from net g latches [] = []
told_from net g latches (Event inputs ∷ items) =
    g latches inputs ∷ told_from net g (next_latches net (net_values net latches inputs)) items
told_from net g latches (Reset ∷ items) = told_from net g (initial_latches net) items

-- where g is a function of the values of the nets
pub told-values : {X : Type 0} (net : Netlist) (h : List Bool → X) (latches : List Bool) (items : List Item)
    → told_from net (λ l i. h (net_values net l i)) latches items ≡ map h (values_from net latches items)
told-values net h latches [] = refl
told-values net h latches (Event inputs ∷ items) =
    ap (λ x. h (net_values net latches inputs) ∷ x) (told-values net h (next_latches net (net_values net latches inputs)) items)
told-values net h latches (Reset ∷ items) = told-values net h (initial_latches net) items

-- a number of a net is that of an input, of a latch or of a gate
pub net_cases : {C : Type 0} (net : Netlist) (n : ℕ) → n < net_count net → (n < length net.inputs → C)
    → ((j : ℕ) → j < length net.latches → n ≡ length net.inputs + j → C) → ((k : ℕ) → k < length net.gates → n ≡ first_gate net + k → C) → C
net_cases net n h input latch gate = ⊎_elim input
    (λ past. ⊎_elim
    (λ low. latch (n - length net.inputs) (omega arith) (omega arith))
    (λ high. gate (n - first_gate net) (omega arith) (omega arith))
    (cases_lt n (first_gate net)))
    (cases_lt n (length net.inputs))

pub numbered-at : {X Y : Type 0} (P : Y → Type 0) (f : ℕ → X → Y) (n : ℕ) (xs : List X) (k : ℕ) (d : X) → k < length xs → AllByRecursion P (numbered f n xs)
    → P (f (n + k) (get_or xs k d))
numbered-at P f n [] k d h all = absurd (omega arith)
numbered-at P f n (x ∷ xs) zero d h all =
    let s : n ≡ n + 0 = omega arith in subst (λ m. P (f m x)) s all.0
numbered-at P f n (x ∷ xs) (suc k) d h all =
    let s : n + 1 + k ≡ n + suc k = omega arith in subst (λ m. P (f m (get_or xs k d))) s (numbered-at P f (n + 1) xs k d (omega arith) all.1)

pub any_gate : Gate
any_gate = record { op = ops.Const false; wire = None }

abbrev pub output_part : Netlist → List Bool → List Bool
output_part net values = map (λ o. value_in values o.net.0) net.outputs

-- The depths of nets, one after another.
use Rattle.std.proofs.Common.{◌≡◌, ℕ, ◌+◌, ◌≤◌, ◌<◌, ◌^◌, List, [], ◌∷◌, ◌++◌, length, All, refl, sym, ap, ◌∙◌, arith}
use Rattle.std.proofs.lemmas.Grind.{common_steps}
use Rattle.std.proofs.lemmas.List.{length_push, length-replicate, get_or-replicate}
use Rattle.std.proofs.lemmas.List.Elements.{All-push, All-get_or, All-from_get_or}
use Rattle.std.specs.Prelude.{max, replicate, slice_index_or}
use Rattle.net_ir.specs.Gates.{operand_end}
use Rattle.net_ir.specs.declared.netlist.Gate.{Gate}
use Rattle.net_ir.specs.declared.netlist.Op.{Op}
use Rattle.net_ir.specs.declared.netlist.Op.TheVariants.{Const, Copy, Not, And, Or}
use Rattle.blif_net.specs.Depths.{op_depth, gate_depths}
use Rattle.blif_net.proofs.Exports.{gate_depths-push, length-gate_depths}

higher : (a b most : ℕ) → a ≤ most → b ≤ most → max a b + 1 ≤ most + 1
higher a b most p q = grind (arith, common_steps, p, q)

op_depth-low : (depths : List ℕ) (op : Op) (most : ℕ) → All (λ d. d ≤ most) depths → operand_end op ≤ length depths
    → op_depth (λ n. slice_index_or depths n 0) op ≤ most + 1
op_depth-low depths (Const b) most low within = omega arith
op_depth-low depths (Copy n) most low within = omega (arith, All-get_or (λ d. d ≤ most) depths n.0 0 (omega (arith, within)) low)
op_depth-low depths (Not n) most low within = omega (arith, All-get_or (λ d. d ≤ most) depths n.0 0 (omega (arith, within)) low)
op_depth-low depths (And m n) most low within =
    higher _ _ most (All-get_or (λ d. d ≤ most) depths m.0 0 (grind (arith, common_steps, within)) low)
    (All-get_or (λ d. d ≤ most) depths n.0 0 (grind (arith, common_steps, within)) low)
op_depth-low depths (Or m n) most low within =
    higher _ _ most (All-get_or (λ d. d ≤ most) depths m.0 0 (grind (arith, common_steps, within)) low)
    (All-get_or (λ d. d ≤ most) depths n.0 0 (grind (arith, common_steps, within)) low)

-- the depths up to the first nets and some gates, none of them above the number of these gates
pub record DepthsSoFar (first : ℕ) (gates : List Gate) (depths : List ℕ) : Type 0 where
  pub is : depths ≡ gate_depths (replicate first 0) gates
  pub low : All (λ d. d ≤ length gates) depths

pub no_gate : (first : ℕ) → DepthsSoFar first [] (replicate first 0)
no_gate first = record {
  is = refl;
  low = All-from_get_or (λ d. d ≤ 0) (replicate first 0) 0 (λ i within.
      omega (arith, get_or-replicate {A = ℕ} first i 0 0 (omega (arith, within, length-replicate {A = ℕ} first 0))));
}

pub count_so_far : (first : ℕ) (gates : List Gate) (depths : List ℕ) → DepthsSoFar first gates depths → length depths ≡ first + length gates
count_so_far first gates depths so =
    ap length so.is ∙ length-gate_depths (replicate first 0) gates ∙ ap (λ n. n + length gates) (length-replicate first 0)

pub one_gate_more : (first : ℕ) (gates : List Gate) (depths : List ℕ) (g : Gate) (depth : ℕ) → DepthsSoFar first gates depths
    → operand_end g.op ≤ length depths → depth ≡ op_depth (λ n. slice_index_or depths n 0) g.op → DepthsSoFar first (gates ++ g ∷ []) (depths ++ depth ∷ [])
one_gate_more first gates depths g depth so within is = record {
  is = ap (λ d. depths ++ d ∷ []) is ∙ ap (λ l. l ++ op_depth (λ n. slice_index_or l n 0) g.op ∷ []) so.is ∙ sym (gate_depths-push (replicate first 0) gates g);
  low = All-push (λ d. d ≤ length (gates ++ g ∷ [])) depths depth
      (All-from_get_or (λ d. d ≤ length (gates ++ g ∷ [])) depths 0 (λ i low.
      omega (arith, length_push gates g, All-get_or (λ d. d ≤ length gates) depths i 0 low so.low)))
      (omega (arith, length_push gates g, is, op_depth-low depths g.op (length gates) so.low within));
}

-- none is above a number that a word of 32 bits holds
pub small_so_far : (first : ℕ) (gates : List Gate) (depths : List ℕ) → DepthsSoFar first gates depths → length gates < 2 ^ 32
    → All (λ d. d < 2 ^ 32) depths
small_so_far first gates depths so few =
    All-from_get_or (λ d. d < 2 ^ 32) depths 0 (λ i within. omega (arith, few, All-get_or (λ d. d ≤ length gates) depths i 0 within so.low))

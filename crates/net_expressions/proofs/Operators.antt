-- Inner: the expressions of operators: their names, their values, and that they are plain.
use Rattle.std.proofs.Common.{◌≡◌, ℕ, ◌<◌, ◌≤◌, Bool, true, false, ◌&&◌, ◌||◌, List, refl, ap, arith}
use Rattle.std.specs.List.{AllByRecursion}
use Rattle.net_ir.specs.declared.netlist.Op.{Op}
use Rattle.net_ir.specs.declared.netlist.Op.TheVariants as ops
use Rattle.net_ir.specs.Gates.{operand_end, op_value}
use Rattle.net_expressions.specs.Names.{names_in}
use Rattle.net_expressions.specs.Operators.{op_expr}
use Rattle.net_expressions.specs.Values.{value_of}
use Rattle.net_expressions.proofs.Spelling.{IsPlain}

-- the names in an operator's expression are those of the nets that it reads
pub op-names : (P : List ℕ → Type 0) (word : ℕ → List ℕ) (op : Op) (end : ℕ) → operand_end op ≤ end → ((n : ℕ) → n < end → P (word n))
    → AllByRecursion P (names_in (op_expr word op))
op-names P word (ops.Const b) end low each = tt
op-names P word (ops.Copy n) end low each = (each n.0 (omega arith), tt)
op-names P word (ops.Not n) end low each = (each n.0 (omega arith), tt)
op-names P word (ops.And m n) end low each = (each m.0 (omega arith), (each n.0 (omega arith), tt))
op-names P word (ops.Or m n) end low each = (each m.0 (omega arith), (each n.0 (omega arith), tt))

pub plain-op : (P : List ℕ → Type 0) (word : ℕ → List ℕ) (op : Op) (end : ℕ) → operand_end op ≤ end → ((n : ℕ) → n < end → P (word n))
    → IsPlain P (op_expr word op)
plain-op P word (ops.Const b) end low each = tt
plain-op P word (ops.Copy n) end low each = each n.0 (omega arith)
plain-op P word (ops.Not n) end low each = each n.0 (omega arith)
plain-op P word (ops.And m n) end low each = (each m.0 (omega arith), each n.0 (omega arith))
plain-op P word (ops.Or m n) end low each = (each m.0 (omega arith), each n.0 (omega arith))

-- its value is what the operator makes of the values of the names
pub op-expr-value : (m : List ℕ → Bool) (word : ℕ → List ℕ) (op : Op) → value_of m (op_expr word op) ≡ op_value (λ n. m (word n)) op
op-expr-value m word (ops.Const b) = refl
op-expr-value m word (ops.Copy n) = refl
op-expr-value m word (ops.Not n) = refl
op-expr-value m word (ops.And a b) = ap (λ x. m (word a.0) && x) (and-true (m (word b.0)))
  where
    and-true : (b : Bool) → (b && true) ≡ b
    and-true true = refl
    and-true false = refl
op-expr-value m word (ops.Or a b) = ap (λ x. m (word a.0) || x) (or-false (m (word b.0)))
  where
    or-false : (b : Bool) → (b || false) ≡ b
    or-false true = refl
    or-false false = refl

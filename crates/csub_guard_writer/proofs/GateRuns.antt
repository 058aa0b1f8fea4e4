-- Behind each gate the memory has the values of the nets so far, but for the gates that are skipped.
use Rattle.std.proofs.Common.{◌≡◌, ℕ, ◌+◌, ◌<◌, ◌≤◌, suc, Bool, true, false, not, ◌&&◌, ◌||◌, cond, List, [], ◌∷◌, length, get_or}
use Rattle.std.proofs.Common.{Some, refl, sym, ap, ◌∙◌, subst, arith, ⊎_elim}
use Rattle.std.specs.Prelude.{if◌then◌else◌, count_by, option_and_then}
use Rattle.std.proofs.lemmas.Bool.{cases_lt}
use Rattle.std.proofs.lemmas.Option.{slice_get-get_or, none-some, same_Some}
use Rattle.base_facts.proofs.Lists.{count_by-yes, count_by-no}
use Rattle.base_types.proofs.Exports.{same_name-self}
use Rattle.base_types.specs.Names.{is_same_name}
use Rattle.net_ir.specs.declared.netlist.Gate.{Gate}
use Rattle.net_ir.specs.declared.netlist.Op.{Op}
use Rattle.net_ir.specs.declared.netlist.Op.TheVariants as ops
use Rattle.net_ir.specs.Gates.{operand_end, op_value, value_in, Solves}
use Rattle.net_ir.specs.Netlists.{Netlist, first_gate}
use Rattle.net_ir.specs.Writing.{IsWritable}
use Rattle.csub_text.specs.Machine.{Memory, with_value, value_of}
use Rattle.csub_text.specs.Written.{gate_name, gate_assign, net_name, op_expr}
use Rattle.csub_text.proofs.Exports.{gate-new, net_name-gate}
use Rattle.net_expressions.proofs.Exports.{any_gate, gate-low, op-expr-value}
use Rattle.csub_guard.specs.Machine.{Counted, run_assigns, chosen, run_pieces}
use Rattle.csub_guard_blocks.specs.Blocks.{head_of, head_name, zero_assign}
use Rattle.csub_guard_blocks.specs.Owners.{Owner, Free, Inner, Outer}
use Rattle.csub_guard_writer.specs.Meaning.{is_skipped}
use Rattle.csub_guard_writer.proofs.BlockRuns.{gate_piece, gate_pieces}
use Rattle.csub_guard_writer.proofs.OwnerFacts.{AllRead}

op_value-read : (u v : ℕ → Bool) (op : Op) → AllRead (λ n. u n ≡ v n) op → op_value u op ≡ op_value v op
op_value-read u v (ops.Const b) all = refl
op_value-read u v (ops.Copy a) all = all
op_value-read u v (ops.Not a) all = ap not all
op_value-read u v (ops.And a b) all = ap (λ x. x && u b.0) all.0 ∙ ap (λ x. v a.0 && x) all.1
op_value-read u v (ops.Or a b) all = ap (λ x. x || u b.0) all.0 ∙ ap (λ x. v a.0 || x) all.1

-- what holds of each net below the end of the operands, and of each that is read, holds of what is read
read-both : (P Q R : ℕ → Type 0) (op : Op) (end : ℕ) → operand_end op ≤ end → AllRead P op → ((i : ℕ) → i < end → P i → R i) → AllRead R op
read-both P Q R (ops.Const b) end low all f = tt
read-both P Q R (ops.Copy a) end low all f = f a.0 (omega (arith, low)) all
read-both P Q R (ops.Not a) end low all f = f a.0 (omega (arith, low)) all
read-both P Q R (ops.And a b) end low all f = (f a.0 (omega (arith, low)) all.0, f b.0 (omega (arith, low)) all.1)
read-both P Q R (ops.Or a b) end low all f = (f a.0 (omega (arith, low)) all.0, f b.0 (omega (arith, low)) all.1)

pub head-net : (net : Netlist) (h : ℕ) → h < length net.gates → net_name net (first_gate net + h) ≡ head_name net h
head-net net h low =
    net_name-gate net h any_gate low
    ∙ ap (gate_name h) (sym (ap (option_and_then (λ (g : Gate). g.wire)) (slice_get-get_or net.gates h any_gate low)))

module _ (net : Netlist) (is : IsWritable net) (owners : List Owner) (values : List Bool) where
  -- whether the head at a place runs
  abbrev runs : ℕ → Bool
  runs h = value_in values (first_gate net + h)

  abbrev owner : ℕ → Owner
  owner k = get_or owners k Free

  -- a net that no call skips: it is no gate, or one that is not skipped
  abbrev pub IsShown : ℕ → Type 0
  IsShown i = (k : ℕ) → i ≡ first_gate net + k → is_skipped net values (owner k) ≡ false

  -- the memory has the values of the nets below a number that are not skipped
  abbrev pub Has : ℕ → Memory → Type 0
  Has end m = (i : ℕ) → i < end → IsShown i → m (net_name net i) ≡ value_in values i

  -- what the owners and the values meet
  pub record Fits : Type 0 where
    -- a gate of a head stands behind it, and the head belongs to none
    pub heads : (k h : ℕ) → head_of (owner k) ≡ Some h → (h < k) × (owner h ≡ Free)
    -- one that is used beside is 0 where its head does not run
    pub quiet : (k h : ℕ) → k < length net.gates → owner k ≡ Outer h → runs h ≡ false → value_in values (first_gate net + k) ≡ false
    -- what a gate reads that is not skipped is not skipped
    pub reads : (k : ℕ) → k < length net.gates → ((h : ℕ) → head_of (owner k) ≡ Some h → runs h ≡ true)
        → AllRead IsShown (get_or net.gates k any_gate).op

  module _ (fit : Fits) (solves : Solves (first_gate net) net.gates values) where
    -- one net more
    put : (n : ℕ) (m : Memory) (x : Bool) → n < length net.gates → Has (first_gate net + n) m
        → (is_skipped net values (owner n) ≡ false → x ≡ value_in values (first_gate net + n))
        → Has (first_gate net + (n + 1)) (with_value (gate_name n (get_or net.gates n any_gate).wire) x m)
    put n m x low has new i h seen = ⊎_elim
        (λ below. ap (λ b. if b then x else m (net_name net i)) (gate-new net is n i low below) ∙ has i below seen)
        (λ last.
        let e : i ≡ first_gate net + n = omega (arith, h, last) in
        let target = gate_name n (get_or net.gates n any_gate).wire in
        let name : net_name net i ≡ target = ap (net_name net) e ∙ net_name-gate net n any_gate low in
        let it : is_same_name (net_name net i) target ≡ true = ap (λ y. is_same_name y target) name ∙ same_name-self target in
        ap (λ b. if b then x else m (net_name net i)) it ∙ new (seen n e) ∙ ap (value_in values) (sym e))
        (cases_lt i (first_gate net + n))

    pass : (n : ℕ) (m : Memory) → Has (first_gate net + n) m → is_skipped net values (owner n) ≡ true → Has (first_gate net + (n + 1)) m
    pass n m has hidden i h seen = ⊎_elim (λ below. has i below seen)
        (λ last. let e : i ≡ first_gate net + n = omega (arith, h, last) in
        let no : is_skipped net values (owner n) ≡ false = seen n e in cc)
        (cases_lt i (first_gate net + n))

    -- what a gate makes of the nets so far
    made : (n : ℕ) (m : Memory) → n < length net.gates → Has (first_gate net + n) m → ((h : ℕ) → head_of (owner n) ≡ Some h → runs h ≡ true)
        → value_of m (op_expr (net_name net) (get_or net.gates n any_gate).op) ≡ value_in values (first_gate net + n)
    made n m low has on =
        let op = (get_or net.gates n any_gate).op in
        op-expr-value m (net_name net) op
        ∙ op_value-read (λ i. m (net_name net i)) (value_in values) op
        (read-both IsShown IsShown (λ i. m (net_name net i) ≡ value_in values i) op (first_gate net + n) (gate-low net is n low) (fit.reads n low on)
        (λ i below seen. has i below seen))
        ∙ sym (solves n any_gate low)

    -- the test of a gate's block
    test : (n h : ℕ) (m : Memory) → n < length net.gates → Has (first_gate net + n) m → head_of (owner n) ≡ Some h → m (head_name net h) ≡ runs h
    test n h m low has e =
        let head = fit.heads n h e in
        ap m (sym (head-net net h (omega (arith, head.0, low))))
        ∙ has (first_gate net + h) (omega (arith, head.0))
        (λ k s. let same : h ≡ k = omega (arith, s) in
        ap (λ j. is_skipped net values (owner j)) (sym same) ∙ ap (is_skipped net values) head.1)

    -- behind a gate
    record Behind (n : ℕ) (o : Owner) (c d : Counted) : Type 0 where
      memory : Has (first_gate net + (n + 1)) d.memory
      count : d.count ≡ c.count + cond (is_skipped net values o) 0 1

    step : (n : ℕ) (g : Gate) (o : Owner) (c : Counted) → n < length net.gates → g ≡ get_or net.gates n any_gate → o ≡ owner n
        → Has (first_gate net + n) c.memory → Behind n o c (run_assigns (chosen (gate_piece net n g o) c.memory) c)
    step n g Free c low here own has = record {
      memory = subst (λ (x : Gate). Has (first_gate net + (n + 1)) (with_value (gate_name n x.wire) (value_of c.memory (op_expr (net_name net) x.op)) c.memory))
          (sym here) (put n c.memory _ low has (λ seen. made n c.memory low has (λ h e. absurd (none-some h (ap head_of own ∙ e)))));
      count = refl;
    }
    step n g (Inner h) c low here own has = by (runs h) refl
      where
        tested : c.memory (head_name net h) ≡ runs h
        tested = test n h c.memory low has (sym (ap head_of own))

        by : (b : Bool) → runs h ≡ b → Behind n (Inner h) c (run_assigns (chosen (gate_piece net n g (Inner h)) c.memory) c)
        by true e = subst (λ b. Behind n (Inner h) c (run_assigns (if b then gate_assign net n g ∷ [] else []) c)) (sym (tested ∙ e)) (record {
          memory = subst (λ (x : Gate). Has (first_gate net + (n + 1))
              (with_value (gate_name n x.wire) (value_of c.memory (op_expr (net_name net) x.op)) c.memory))
              (sym here) (put n c.memory _ low has
              (λ seen. made n c.memory low has (λ i q. ap runs (sym (same_Some h i (ap head_of own ∙ q))) ∙ e)));
          count = ap {B = ℕ} (λ b. c.count + cond (not b) 0 1) (sym e);
        })
        by false e = subst (λ b. Behind n (Inner h) c (run_assigns (if b then gate_assign net n g ∷ [] else []) c)) (sym (tested ∙ e)) (record {
          memory = pass n c.memory has (ap (is_skipped net values) (sym own) ∙ ap not e);
          count = ap {B = ℕ} (λ b. c.count + cond (not b) 0 1) (sym e);
        })
    step n g (Outer h) c low here own has = by (runs h) refl
      where
        tested : c.memory (head_name net h) ≡ runs h
        tested = test n h c.memory low has (sym (ap head_of own))

        zero_of : Gate → Counted
        zero_of x = run_assigns (zero_assign (record { place = n; gate = x; shown = true }) ∷ []) c

        by : (b : Bool) → runs h ≡ b → Behind n (Outer h) c (run_assigns (chosen (gate_piece net n g (Outer h)) c.memory) c)
        by true e = subst (λ b. Behind n (Outer h) c (run_assigns
            (if b then gate_assign net n g ∷ [] else zero_assign (record { place = n; gate = g; shown = true }) ∷ []) c))
            (sym (tested ∙ e)) (record {
              memory = subst (λ (x : Gate). Has (first_gate net + (n + 1))
                  (with_value (gate_name n x.wire) (value_of c.memory (op_expr (net_name net) x.op)) c.memory))
                  (sym here) (put n c.memory _ low has
                  (λ seen. made n c.memory low has (λ i q. ap runs (sym (same_Some h i (ap head_of own ∙ q))) ∙ e)));
              count = refl;
            })
        by false e = subst (λ b. Behind n (Outer h) c (run_assigns
            (if b then gate_assign net n g ∷ [] else zero_assign (record { place = n; gate = g; shown = true }) ∷ []) c))
            (sym (tested ∙ e)) (record {
              memory = subst (λ (x : Gate). Has (first_gate net + (n + 1)) (with_value (gate_name n x.wire) false c.memory))
                  (sym here) (put n c.memory false low has (λ seen. sym (fit.quiet n h low (sym own) e)));
              count = refl;
            })

    -- how many gates are not skipped
    abbrev pub ran : List Owner → ℕ
    ran [] = 0
    ran (o ∷ os) = cond (is_skipped net values o) 0 1 + ran os

    pub record BehindGates (end : ℕ) (os : List Owner) (c d : Counted) : Type 0 where
      pub memory : Has (first_gate net + end) d.memory
      pub count : d.count ≡ c.count + ran os

    -- the gates from place n on
    pub gates-run : (n : ℕ) (gates : List Gate) (os : List Owner) (c : Counted) → length os ≡ length gates → n + length gates ≡ length net.gates
        → ((k : ℕ) → k < length gates → get_or gates k any_gate ≡ get_or net.gates (n + k) any_gate)
        → ((k : ℕ) → k < length gates → get_or os k Free ≡ owner (n + k))
        → Has (first_gate net + n) c.memory
        → BehindGates (length net.gates) os c (run_pieces (gate_pieces net n gates os) c)
    gates-run n [] [] c wide all same own has = record {
      memory = subst (λ k. Has (first_gate net + k) c.memory) (omega (arith, all)) has;
      count = omega arith;
    }
    gates-run n [] (o ∷ os) c wide all same own has = absurd (omega (arith, wide))
    gates-run n (g ∷ gates) [] c wide all same own has = absurd (omega (arith, wide))
    gates-run n (g ∷ gates) (o ∷ os) c wide all same own has =
        let z : n + 0 ≡ n = omega arith in
        let here : g ≡ get_or net.gates n any_gate = same 0 (omega arith) ∙ ap (λ k. get_or net.gates k any_gate) z in
        let mine : o ≡ owner n = own 0 (omega arith) ∙ ap owner z in
        let one = step n g o c (omega (arith, all)) here mine has in
        let rest = gates-run (n + 1) gates os (run_assigns (chosen (gate_piece net n g o) c.memory) c) (omega (arith, wide)) (omega (arith, all))
        (λ k h. let s : n + suc k ≡ n + 1 + k = omega arith in same (suc k) (omega (arith, h)) ∙ ap (λ j. get_or net.gates j any_gate) s)
        (λ k h. let s : n + suc k ≡ n + 1 + k = omega arith in own (suc k) (omega (arith, h)) ∙ ap owner s) one.memory in
        record { memory = rest.memory; count = omega (arith, rest.count, one.count) }

    pub ran-all : (os : List Owner) → ran os + count_by (is_skipped net values) os ≡ length os
    ran-all [] = refl
    ran-all (o ∷ os) = by (ran-all os) (is_skipped net values o) refl
      where
        by : ran os + count_by (is_skipped net values) os ≡ length os → (b : Bool) → is_skipped net values o ≡ b
            → cond (is_skipped net values o) 0 1 + ran os + count_by (is_skipped net values) (o ∷ os) ≡ suc (length os)
        by rest true e = omega (arith, rest, count_by-yes (is_skipped net values) o os e, ap {B = ℕ} (λ b. cond b 0 1) e)
        by rest false e = omega (arith, rest, count_by-no (is_skipped net values) o os e, ap {B = ℕ} (λ b. cond b 0 1) e)

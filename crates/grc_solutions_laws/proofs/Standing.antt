-- Where a statement stands in the list of live instances, and that each of its parts stands there too: what proofs on
-- wires take of a statement beside its wires.
use Rattle.std.proofs.Common.{◌≡◌, ℕ, ◌+◌, ◌≤◌, true, false, ◌&&◌, ◌==◌, cond, ltb, List, ◌++◌, refl, sym, ◌∙◌, arith}
use Rattle.base_types.specs.declared.place.Span.{Span}
use Rattle.est_kernel.specs.Terms.{Expression, Term, Present, Suspend, Seq, Loop, Par, Trap, Local}
use Rattle.est_kernel.specs.Preorder.{statement_count}
use Rattle.est_kernel.specs.StaticCodes.{started_codes, resumed_codes, instant_loops, NoInstantLoop}
use Rattle.grc_graph.specs.Layers.{Layer, Liveness, liveness_at, part_liveness, second_liveness, loop_liveness}
use Rattle.grc_graph.specs.Scopes.{Scope, bind}
use Rattle.grc_graph.specs.Wires.{StatusOf}
use Rattle.grc_graph.specs.Formulas.{Formula, Negation}
use Rattle.grc_graph.specs.Spots.{Spot, spots, spots_at, test_formula, tested_entry, suspended_entry, branch_entry, second_entry, loop_entry, part_entry}
use Rattle.grc_graph.specs.Equations.{emits_on}
use Rattle.grc_graph.specs.Selected.{HasExitCodes}
use Rattle.grc_graph.specs.Readings.{Valuation}
use Rattle.grc_graph.proofs.Exports.{Agrees, only_agrees, first_agrees, second_agrees}
use Rattle.grc_solutions.proofs.Exports.{Above, above_more, above_bind, Root}
use Rattle.grc_solutions_laws.proofs.Residues.{no_loops-left, no_loops-right, loop_body}
use Rattle.grc_solutions_laws.proofs.Emissions.{Whole, whole_only, whole_first, whole_second}
use Rattle.grc_solutions_laws.proofs.Meets.{low_second}

module _ (V : Valuation) (L : ℕ → List Layer) (all : List Spot) where
  pub record Stands (a : Liveness) (B : Scope) (f : Layer → Formula) (t : Term) (n : ℕ) : Type 0 where
    pub agrees : Agrees L a t n
    pub low : (r : ℕ) → Root r a.roots → r ≤ n
    pub loops : NoInstantLoop t
    pub kernel : HasExitCodes t
    pub above : Above B n
    pub whole : Whole V L all B f t n

  low_more : {a : Liveness} {B : Scope} {f : Layer → Formula} {t : Term} (n m : ℕ) → n ≤ m → Stands a B f t n → (r : ℕ) → Root r a.roots → r ≤ m
  low_more n m l c r i = let k : r ≤ n = c.low r i in omega arith

  -- a lone part, which may see one more binder
  only_part : (a b : Liveness) (B C : Scope) (f g : Layer → Formula) (t p : Term) (n : ℕ) → Stands a B f t n → statement_count t ≡ 1 + statement_count p →
      ((m : ℕ) → liveness_at a t n m ≡ cond (m == n) a (liveness_at b p (n + 1) m)) → spots L B f t n ≡ spots_at L B f t n ++ spots L C g p (n + 1) →
      ((j : ℕ) (i l : Layer) → emits_on (StatusOf j i) t B l ≡ false) → ((r : ℕ) → Root r b.roots → r ≤ n + 1) → NoInstantLoop p → HasExitCodes p →
      Above C (n + 1) → Stands b C g p (n + 1)
  only_part a b B C f g t p n c count live parts silent low nl k above = record {
    agrees = only_agrees L a b t p n count live c.agrees;
    low = low;
    loops = nl;
    kernel = k;
    above = above;
    whole = whole_only V L all B C f g t p n count parts silent c.whole;
  }

  -- two parts in the scope of the whole
  two_parts : (a b d : Liveness) (B : Scope) (f g h : Layer → Formula) (t p q : Term) (n : ℕ) → Stands a B f t n →
      statement_count t ≡ 1 + statement_count p + statement_count q →
      ((m : ℕ) → liveness_at a t n m ≡ cond (m == n) a (cond (ltb m (n + 1 + statement_count p)) (liveness_at b p (n + 1) m)
      (liveness_at d q (n + 1 + statement_count p) m))) →
      spots L B f t n ≡ spots_at L B f t n ++ (spots L B g p (n + 1) ++ spots L B h q (n + 1 + statement_count p)) →
      ((j : ℕ) (i l : Layer) → emits_on (StatusOf j i) t B l ≡ false) → ((r : ℕ) → Root r b.roots → r ≤ n + 1) →
      ((r : ℕ) → Root r d.roots → r ≤ n + 1 + statement_count p) → instant_loops t ≡ instant_loops p ++ instant_loops q → HasExitCodes p × HasExitCodes q →
      Stands b B g p (n + 1) × Stands d B h q (n + 1 + statement_count p)
  two_parts a b d B f g h t p q n c count live parts silent low_p low_q loops k = (
    record {
      agrees = first_agrees L a b d t p q n count live c.agrees;
      low = low_p;
      loops = no_loops-left (instant_loops p) (instant_loops q) (sym loops ∙ c.loops);
      kernel = k.0;
      above = above_more B n (n + 1) (omega arith) c.above;
      whole = whole_first V L all B f g h t p q n c.above count parts silent c.whole;
    },
    record {
      agrees = second_agrees L a b d t p q n count live c.agrees;
      low = low_q;
      loops = no_loops-right (instant_loops p) (instant_loops q) (sym loops ∙ c.loops);
      kernel = k.1;
      above = above_more B n (n + 1 + statement_count p) (omega arith) c.above;
      whole = whole_second V L all B f g h t p q n c.above count parts silent c.whole;
    },
  )

  pub present_parts : {a : Liveness} {B : Scope} {f : Layer → Formula} {x : Expression} {p q : Term} {n : ℕ} → Stands a B f (Present x p q) n →
      Stands (part_liveness a p) B (tested_entry n (n + 1) (test_formula B x)) p (n + 1)
      × Stands (part_liveness a q) B (tested_entry n (n + 1 + statement_count p) (λ l. Negation (test_formula B x l))) q (n + 1 + statement_count p)
  present_parts {a} {B} {f} {x} {p} {q} {n} c =
      two_parts a (part_liveness a p) (part_liveness a q) B f _ _ (Present x p q) p q n c refl (λ m. refl) refl (λ j i l. refl)
      (low_more n (n + 1) (omega arith) c) (low_more n (n + 1 + statement_count p) (omega arith) c) refl c.kernel

  pub suspended_part : {a : Liveness} {B : Scope} {f : Layer → Formula} {x : Expression} {p : Term} {n : ℕ} → Stands a B f (Suspend x p) n →
      Stands (part_liveness a p) B (suspended_entry n (test_formula B x)) p (n + 1)
  suspended_part {a} {B} {f} {x} {p} {n} c =
      only_part a (part_liveness a p) B B f _ (Suspend x p) p n c refl (λ m. refl) refl (λ j i l. refl) (low_more n (n + 1) (omega arith) c) c.loops c.kernel
      (above_more B n (n + 1) (omega arith) c.above)

  pub seq_parts : {a : Liveness} {B : Scope} {f : Layer → Formula} {p q : Term} {n : ℕ} → Stands a B f (Seq p q) n →
      Stands (part_liveness a p) B (branch_entry n (n + 1)) p (n + 1)
      × Stands (second_liveness a p q (n + 1 + statement_count p)) B (second_entry n (n + 1 + statement_count p)) q (n + 1 + statement_count p)
  seq_parts {a} {B} {f} {p} {q} {n} c =
      two_parts a (part_liveness a p) (second_liveness a p q (n + 1 + statement_count p)) B f _ _ (Seq p q) p q n c refl (λ m. refl)
      refl (λ j i l. refl) (low_more n (n + 1) (omega arith) c)
      (low_second (started_codes p 0) (a.resumed && resumed_codes p 0) a.roots n (n + 1 + statement_count p) (omega arith) c.low) refl c.kernel

  pub loop_part : {a : Liveness} {B : Scope} {f : Layer → Formula} {at : Span} {p : Term} {n : ℕ} → Stands a B f (Loop at p) n →
      Stands (loop_liveness a p (n + 1)) B (loop_entry n) p (n + 1)
  loop_part {a} {B} {f} {at} {p} {n} c =
      only_part a (loop_liveness a p (n + 1)) B B f _ (Loop at p) p n c refl (λ m. refl) refl (λ j i l. refl)
      (low_second true (a.resumed && resumed_codes p 0) a.roots n (n + 1) (omega arith) c.low) (loop_body at p c.loops).1 c.kernel
      (above_more B n (n + 1) (omega arith) c.above)

  pub par_parts : {a : Liveness} {B : Scope} {f : Layer → Formula} {p q : Term} {n : ℕ} → Stands a B f (Par p q) n →
      Stands (part_liveness a p) B (branch_entry n (n + 1)) p (n + 1)
      × Stands (part_liveness a q) B (branch_entry n (n + 1 + statement_count p)) q (n + 1 + statement_count p)
  par_parts {a} {B} {f} {p} {q} {n} c =
      two_parts a (part_liveness a p) (part_liveness a q) B f _ _ (Par p q) p q n c refl (λ m. refl) refl (λ j i l. refl)
      (low_more n (n + 1) (omega arith) c) (low_more n (n + 1 + statement_count p) (omega arith) c) refl c.kernel

  pub trap_part : {a : Liveness} {B : Scope} {f : Layer → Formula} {p : Term} {n : ℕ} → Stands a B f (Trap p) n →
      Stands (part_liveness a p) B (part_entry n) p (n + 1)
  trap_part {a} {B} {f} {p} {n} c =
      only_part a (part_liveness a p) B B f _ (Trap p) p n c refl (λ m. refl) refl (λ j i l. refl) (low_more n (n + 1) (omega arith) c) c.loops c.kernel
      (above_more B n (n + 1) (omega arith) c.above)

  pub local_part : {a : Liveness} {B : Scope} {f : Layer → Formula} {s : ℕ} {p : Term} {n : ℕ} → Stands a B f (Local s p) n →
      Stands (part_liveness a p) (bind B s n) (part_entry n) p (n + 1)
  local_part {a} {B} {f} {s} {p} {n} c =
      only_part a (part_liveness a p) B (bind B s n) f _ (Local s p) p n c refl (λ m. refl) refl (λ j i l. refl)
      (low_more n (n + 1) (omega arith) c) c.loops c.kernel (above_bind B n s c.above)

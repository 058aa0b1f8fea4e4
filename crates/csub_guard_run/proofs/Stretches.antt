-- Inner: assignments as steps, one more, and the value that is returned behind them.
use Rattle.std.proofs.Common.{◌≡◌, ℕ, ◌+◌, ◌<◌, ◌≤◌, List, [], ◌∷◌, ◌++◌, length, map, All, sym, ◌∙◌, ap, arith, subst}
use Rattle.std.specs.List.{AllByRecursion}
use Rattle.std.proofs.lemmas.List.{length-append, map-append}
use Rattle.std.proofs.lemmas.List.Elements.{All-from_recursion}
use Rattle.csub_guard.specs.Names.{declared}
use Rattle.csub_guard.specs.Views.{program_of}
use Rattle.csub_guard.specs.declared.trees.GuardedProgram.{GuardedProgram}
use Rattle.csub_run.specs.Plans.{assign_step}
use Rattle.csub_text.specs.Machine.{value_of}
use Rattle.csub_text.specs.Trees.{Assign}
use Rattle.csub_text.specs.Views.{assign_of}
use Rattle.csub_text.specs.declared.trees.Assign.{Assign as CodeAssign}
use Rattle.run_steps.specs.Expressions.{expr_value}
use Rattle.run_steps.specs.Plans.{Makes, Adds, Compiles}
use Rattle.run_steps.specs.Slots.{slot_in, memory_in}
use Rattle.run_steps.specs.declared.term.Term.{Term}
use Rattle.run_steps.proofs.Exports.{value-is, says-is}
use Rattle.csub_guard_run.specs.declared.plan.Body.{Body}
use Rattle.csub_guard_run.specs.declared.plan.Stretch.{Stretch}
use Rattle.csub_guard_run.specs.Plans.{AreLow, IsStretch, AreBlocks, IsBody, IsEnd}

-- the slots of what is assigned, in code
pub low-each : (names : List (List ℕ)) (xs : List CodeAssign) (n : ℕ) → n ≡ length names → AreLow names (map assign_of xs)
    → All (λ a. slot_in names a.to < n) xs
low-each names xs n is low = All-from_recursion (λ (a : CodeAssign). slot_in names a.to < n) xs (go xs low)
  where
    go : (xs : List CodeAssign) → AreLow names (map assign_of xs) → AllByRecursion (λ (a : CodeAssign). slot_in names a.to < n) xs
    go [] low = tt
    go (a ∷ xs) low = (omega (arith, is, low.0), go xs low.1)

low-more : (names : List (List ℕ)) (xs : List Assign) (a : Assign) → AreLow names xs → slot_in names a.target < length names → AreLow names (xs ++ a ∷ [])
low-more names [] a low is = (is, tt)
low-more names (x ∷ xs) a low is = (low.0, low-more names xs a low.1 is)

-- a step more
pub stretch-more : (names : List (List ℕ)) (assigns : List Assign) (a : Assign) (old new : Stretch) → IsStretch names assigns old
    → Adds (assign_step names a) old.plan new.plan → new.plan.tables ≡ old.plan.tables → slot_in names a.target < length names → new.count ≡ old.count + 1
    → IsStretch names (assigns ++ a ∷ []) new
stretch-more names assigns a old new is adds tables low counted =
    let wide = length-append assigns (a ∷ []) in
    record {
      named = adds.named ∙ is.named;
      tables = tables ∙ is.tables;
      makes = subst (Makes new.plan) (sym (map-append (assign_step names) assigns (a ∷ []))) (adds.makes (map (assign_step names) assigns) is.makes);
      counts = omega (arith, counted, is.counts, wide);
      low = low-more names assigns a is.low low;
    }

-- the value that is returned behind the last assignments
pub ends-by : (program : GuardedProgram) (names : List (List ℕ)) (old new : Body) (t : Term) → names ≡ declared (program_of program)
    → IsBody names (program_of program).body old → new.blocks.items ≡ old.blocks.items → new.last.count ≡ old.last.count
    → Compiles (expr_value names program.answer) old.last.plan t new.last.plan → new.last.plan.named < new.last.plan.slots
    → new.last.plan.free ≤ new.last.plan.slots → IsEnd (program_of program) new t
ends-by program names old new t same is blocks counted compiles named free =
    let p = program_of program in
    let made = subst (λ ks. IsBody ks p.body old) same is in
    record {
      makes = record {
        segments = made.segments;
        behind = made.behind;
        split = made.split;
        blocks = subst (λ l. AreBlocks (declared p) made.segments l) (sym blocks) made.blocks;
        last = record {
          named = compiles.keeps.named ∙ made.last.named;
          tables = compiles.keeps.tables ∙ made.last.tables;
          makes = compiles.keeps.makes (map (assign_step (declared p)) made.behind) made.last.makes;
          counts = counted ∙ made.last.counts;
          low = made.last.low;
        };
      };
      named_low = named;
      free_low = free;
      says = says-is new.last.plan t (expr_value names program.answer) (λ values. value_of (memory_in (declared p) values) p.answer)
          (λ values. value-is names program.answer values ∙ ap (λ ks. value_of (memory_in ks values) p.answer) same) compiles.says;
    }

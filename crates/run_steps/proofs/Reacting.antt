-- What one instant of registers gives, where their plan solves equations.
use Rattle.std.proofs.Common.{◌≡◌, ℕ, ◌+◌, ◌<◌, ◌≤◌, zero, suc, Bool, List, [], ◌∷◌, ◌++◌, length, map, take, All, refl, sym, ap, ◌∙◌, arith, subst}
use Rattle.std.proofs.lemmas.List.{length-append, length-take-le}
use Rattle.std.proofs.lemmas.List.Elements.{recursion_from_All}
use Rattle.run_steps.specs.Slots.{value_at, memory_in}
use Rattle.run_steps.specs.Equations.{NameEquation}
use Rattle.run_steps.specs.Steps.{settled, driven, AreSound, AreSolved}
use Rattle.run_steps.specs.Plans.{made}
use Rattle.run_steps.specs.Registers.{Frame, Advances}
use Rattle.run_steps.specs.Solvers.{ordered_steps, IsSolver, AreSlots}
use Rattle.run_steps.proofs.Makings.{taken-front, through}
use Rattle.run_steps.proofs.Solving.{solved}

take-take : {X : Type 0} (m n : ℕ) (l : List X) → m ≤ n → take m (take n l) ≡ take m l
take-take zero n l h = refl
take-take (suc m) zero l h = absurd (omega (arith, h))
take-take (suc m) (suc n) [] h = refl
take-take (suc m) (suc n) (x ∷ l) h = ap (λ t. x ∷ t) (take-take m n l (omega (arith, h)))

-- An instant: its valuation is the only one that meets the equations at the values of inputs and registers, and the
-- registers and outputs have its values of these names.
pub record IsReaction (given : List (List ℕ)) (equations : List NameEquation) (old : Frame) (inputs : List Bool) (sources shown : List (List ℕ))
    (new : Frame) : Type 0 where
  pub valuation : List ℕ → Bool
  pub solves : AreSolved given equations (inputs ++ old.registers) valuation
  pub registers : new.registers ≡ map valuation sources
  pub outputs : new.outputs ≡ map valuation shown

pub reaction : (given : List (List ℕ)) (equations : List NameEquation) → AreSound given equations → (old new : Frame) (inputs : List Bool)
    (sources shown : List (List ℕ)) → IsSolver given equations old.plan → AreSlots (driven given equations) sources old.sources
    → AreSlots (driven given equations) shown old.shown → length given ≡ length inputs + length old.registers → Advances old inputs new
    → IsReaction given equations old inputs sources shown new
reaction given equations sound old new inputs sources shown solver from to count adv =
    let names = driven given equations in
    let first = length given in
    let n = old.plan.named in
    let behind = made old.plan.lookups adv.start in
    let small = take n adv.start in
    let wide : length small ≡ length names = length-take-le n adv.start (omega (arith, adv.each_slot, adv.named_low)) ∙ solver.named_is in
    let front_low : first ≤ n = omega (arith, solver.named_is, length-append given (map (λ e. e.output) equations)) in
    let front : take first small ≡ inputs ++ old.registers =
    take-take first n adv.start front_low ∙ ap (λ k. take k adv.start) count ∙ adv.front in
    let after = settled (ordered_steps given equations solver.order) small in
    let makes : take n behind ≡ after = solver.makes.made_is adv.start (omega (arith, adv.each_slot)) in
    let v = memory_in names after in
    let taken : (slots : List ℕ) (xs : List (List ℕ)) → AreSlots names xs slots → map (value_at behind) slots ≡ map v xs = λ slots xs picked.
    let low = subst (λ m. All (λ slot. slot < m) slots) (sym solver.named_is) picked.low in
    taken-front n slots behind (recursion_from_All (λ slot. slot < n) slots low) ∙ ap (λ l. map (value_at l) slots) makes
    ∙ ap (map (value_at after)) picked.are ∙ through names after xs in
    record {
      valuation = v;
      solves = subst (λ l. AreSolved given equations l v) front (solved given equations sound solver.order solver.ordered small wide);
      registers = adv.registers ∙ taken old.sources sources from;
      outputs = adv.outputs ∙ taken old.shown shown to;
    }

-- Inner: machines in whose instants equations are met, at values of inputs and of registers.
use Rattle.std.proofs.Common.{◌≡◌, ℕ, ◌+◌, Bool, List, [], ◌∷◌, ◌++◌, length, map, sym, ap, ◌∙◌, arith, subst}
use Rattle.std.specs.List.{AllByRecursion}
use Rattle.std.proofs.lemmas.List.{length-append, length-map, map-append}
use Rattle.base_facts.proofs.Lists.{same-parts}
use Rattle.run_steps.specs.Equations.{NameEquation}
use Rattle.run_steps.specs.Registers.{Frame, Advances}
use Rattle.run_steps.specs.Solvers.{AreSlots, IsPlanOf}
use Rattle.run_steps.specs.Steps.{driven, AreSound, AreSolved}
use Rattle.run_steps.proofs.Reacting.{reaction}

-- ---- what is so of what is made of each element of a list

pub all-of-made : {X Y : Type 0} (P : Y → Type 0) (f : X → Y) (xs : List X) → AllByRecursion P (map f xs) → AllByRecursion (λ x. P (f x)) xs
all-of-made P f [] all = tt
all-of-made P f (x ∷ xs) all = (all.0, all-of-made P f xs all.1)

pub all-made : {X Y : Type 0} (P : Y → Type 0) (f : X → Y) (xs : List X) → AllByRecursion (λ x. P (f x)) xs → AllByRecursion P (map f xs)
all-made P f [] all = tt
all-made P f (x ∷ xs) all = (all.0, all-made P f xs all.1)

-- ---- instants

-- the inputs and the registers have these values, and every equation is met
pub record IsMet (inputs targets : List (List ℕ)) (equations : List NameEquation) (registers given : List Bool) (v : List ℕ → Bool) : Type 0 where
  pub inputs_are : map v inputs ≡ given
  pub targets_are : map v targets ≡ registers
  pub met : AllByRecursion (λ (e : NameEquation). v e.output ≡ e.value v) equations

-- that is what an instant is
pub record IsEquational (inputs targets : List (List ℕ)) (equations : List NameEquation) (instant : List Bool → List Bool → (List ℕ → Bool) → Type 0)
    : Type 0 where
  pub makes : (registers given : List Bool) (v : List ℕ → Bool) → IsMet inputs targets equations registers given v → instant registers given v
  pub tells : (registers given : List Bool) (v : List ℕ → Bool) → instant registers given v → IsMet inputs targets equations registers given v

-- a valuation is one of an instant, and each other one agrees with it on these names
pub record IsOnlyOne (I : (List ℕ → Bool) → Type 0) (names : List (List ℕ)) (v : List ℕ → Bool) : Type 0 where
  pub instant : I v
  pub only : (u : List ℕ → Bool) → I u → map u names ≡ map v names

-- an instant of registers: its valuation, which gives the registers and the outputs their values
pub record IsDecided (I : (List ℕ → Bool) → Type 0) (names sources shown : List (List ℕ)) (new : Frame) : Type 0 where
  pub valuation : List ℕ → Bool
  pub decides : IsOnlyOne I names valuation
  pub registers : new.registers ≡ map valuation sources
  pub outputs : new.outputs ≡ map valuation shown

module _ {inputs targets : List (List ℕ)} {equations : List NameEquation} {instant : List Bool → List Bool → (List ℕ → Bool) → Type 0}
    (k : IsEquational inputs targets equations instant) {names : List (List ℕ)} (same : driven (inputs ++ targets) equations ≡ names) where
  -- what solves the equations is the only valuation of an instant
  pub solved-only : (registers given : List Bool) (v : List ℕ → Bool) → length given ≡ length inputs
      → AreSolved (inputs ++ targets) equations (given ++ registers) v → IsOnlyOne (instant registers given) names v
  solved-only registers given v wide s =
      let parts = same-parts (map v inputs) (map v targets) given registers (length-map inputs v ∙ sym wide) (sym (map-append v inputs targets) ∙ s.kept) in
      record {
        instant = k.makes registers given v (record { inputs_are = parts.0; targets_are = parts.1; met = s.met });
        only = λ u is.
            let m = k.tells registers given u is in
            let begins : map u (inputs ++ targets) ≡ given ++ registers =
            map-append u inputs targets ∙ ap (λ l. l ++ map u targets) m.inputs_are ∙ ap (λ l. given ++ l) m.targets_are in
            subst (λ ns. map u ns ≡ map v ns) same (s.only u begins m.met);
      }

  -- what an instant makes of registers whose plan solves the equations
  pub decided : AreSound (inputs ++ targets) equations → (sources shown : List (List ℕ)) (old new : Frame) (given : List Bool)
      → IsPlanOf (inputs ++ targets) equations names sources shown old.plan old.sources old.shown → length given ≡ length inputs
      → length old.registers ≡ length targets → Advances old given new → IsDecided (instant old.registers given) names sources shown new
  decided sound sources shown old new given plan wide kept adv =
      let count : length (inputs ++ targets) ≡ length given + length old.registers = omega (arith, length-append inputs targets, wide, kept) in
      let r = reaction (inputs ++ targets) equations sound old new given sources shown plan.solver
      (subst (λ ns. AreSlots ns sources old.sources) (sym same) plan.sources_are) (subst (λ ns. AreSlots ns shown old.shown) (sym same) plan.shown_are)
      count adv in
      record {
        valuation = r.valuation;
        decides = solved-only old.registers given r.valuation wide r.solves;
        registers = r.registers;
        outputs = r.outputs;
      }

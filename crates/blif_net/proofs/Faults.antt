-- The first of some names that is none of a netlist's.
use Rattle.std.proofs.Common.{◌≡◌, ℕ, ◌+◌, ◌-◌, ◌<◌, true, List, [], ◌∷◌, ◌++◌, length, map, take, drop, get_or, slice_index_or}
use Rattle.std.proofs.Common.{refl, sym, ap, ◌∙◌, subst, arith, All, inl, inr, None, Result, Ok, Err}
use Rattle.std.proofs.lemmas.Bool.{cases_lt}
use Rattle.std.proofs.lemmas.List.{take-append-drop, drop_more, get_or-take, length-take-le, get_or_default}
use Rattle.blif_run.specs.CircuitAnswers.{tells_pause, listed_count, listed_names}
use Rattle.std.specs.Result.{OnOk}
use Rattle.base_types.specs.declared.stop.Stop.{Stop}
use Rattle.base_types.specs.declared.stop.Stop.TheVariants.{Fault, NoMemory}
use Rattle.base_types.specs.Stops.{FaultIs, IfFault}
use Rattle.net_ir.specs.NameLists.{first_again}
use Rattle.blif_text.specs.Circuits.{Circuit}
use Rattle.blif_read.specs.declared.fault.BlifFault.{BlifFault}
use Rattle.blif_read.specs.declared.fault.BlifFault.TheVariants.{Again, Loop}
use Rattle.blif_run.specs.Loops.{LoopFault}
use Rattle.blif_net.specs.Checking.{IsAgain}
use Rattle.blif_net.specs.Interfaces.{IsFirstWithout, NamesFit, IsFit, HasName, IsCircuitFault}

pub first-at : {X : Type 0} (P : X → Type 0) (xs : List X) (i : ℕ) (d : X) → i < length xs
    → ((k : ℕ) (e : X) → k < i → P (slice_index_or xs k e)) → (P (get_or xs i d) → ⊥) → IsFirstWithout P xs (get_or xs i d)
first-at P xs i d low fit lacks = record {
  before = take i xs;
  after = drop (i + 1) xs;
  splits = sym (take-append-drop i xs) ∙ ap (λ l. take i xs ++ l) (drop_more xs i d low);
  fit = λ k e h.
      let inside : k < i = omega (arith, h, length-take-le i xs (omega (arith, low))) in
      subst P (sym (get_or-take i xs k e inside)) (fit k e inside);
  lacks = lacks;
}

-- outputs of which the last is `_paused`: how many are listed, and what stands behind them
pub listed-pauses : (outputs : List (List ℕ)) → tells_pause outputs ≡ true → listed_count outputs ≡ length outputs - 1
listed-pauses outputs is = rw is refl

-- what is so of the elements so far, and of the next one
pub more-at : {X : Type 0} (P : X → Type 0) (xs : List X) (i : ℕ) (x : X) → i < length xs → x ≡ get_or xs i x → P x
    → ((k : ℕ) (d : X) → k < i → P (slice_index_or xs k d)) → (k : ℕ) (d : X) → k < i + 1 → P (slice_index_or xs k d)
more-at P xs i x low is here before k d h =
    elim (cases_lt k i) [
      | inl less ↦ before k d less
      | inr more ↦
          let e : k ≡ i = omega arith in
          subst P (is ∙ get_or_default xs i x d low ∙ ap (λ j. get_or xs j d) (sym e)) here
    ]

pub first-copied : {X : Type 0} (P : X → Type 0) (xs : List X) (i : ℕ) (x copy : X) → i < length xs → x ≡ get_or xs i x → copy ≡ x
    → ((k : ℕ) (d : X) → k < i → P (slice_index_or xs k d)) → (P x → ⊥) → IsFirstWithout P xs copy
first-copied P xs i x copy low is same fit lacks =
    subst (IsFirstWithout P xs) (sym (same ∙ is)) (first-at P xs i x low fit (subst (λ y. P y → ⊥) is lacks))

pub map-same : {X : Type 0} (xs : List X) → map (λ x. x) xs ≡ xs
map-same [] = refl
map-same (x ∷ xs) = ap (λ l. x ∷ l) (map-same xs)

-- behind the last check: the names fit, or one stands again
pub once-fits : {T : Type 0} (c : Circuit) (r : Result T (Stop BlifFault)) → NamesFit c → All (HasName c.inputs) (listed_names c.outputs)
    → OnOk r (first_again [] (listed_names c.outputs) ≡ None) → OnOk r (IsFit c)
once-fits c (Ok x) names outputs once = record { names = names; outputs = outputs; once = once }
once-fits c (Err stop) names outputs once = tt

pub once-fault : {T : Type 0} (c : Circuit) (r : Result T (Stop BlifFault)) → NamesFit c → All (HasName c.inputs) (listed_names c.outputs)
    → IfFault r (IsAgain (listed_names c.outputs)) → IfFault r (IsCircuitFault c)
once-fault c (Ok x) names outputs is = tt
once-fault c (Err NoMemory) names outputs is = tt
once-fault c (Err (Fault (Again word))) names outputs is = record { names = names; outputs = outputs; again = is }
once-fault c (Err (Fault _)) names outputs is = absurd is

-- a combinational cycle, where the names fit
pub loop-fits : (c : Circuit) (stop : Stop BlifFault) → IsFit c → FaultIs (LoopFault c) stop → FaultIs (IsCircuitFault c) stop
loop-fits c (Fault (Loop names)) fits is = record { fits = fits; cycle = is }
loop-fits c (Fault _) fits is = absurd is
loop-fits c NoMemory fits is = tt

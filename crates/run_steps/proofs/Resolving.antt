-- What the resolved names of sound equations give: an order, or a loop.
use Rattle.std.proofs.Common.{◌≡◌, ℕ, ◌+◌, ◌<◌, true, List, [], ◌∷◌, length, map, All, sym, ap, ◌∙◌, arith, subst}
use Rattle.std.specs.List.{AllByRecursion}
use Rattle.std.proofs.lemmas.List.{length-map}
use Rattle.std.proofs.lemmas.List.Elements.{All-from_recursion}
use Rattle.base_facts.proofs.Lists.{all-unmapped}
use Rattle.net_ir.specs.NameLists.{is_among}
use Rattle.net_ir.proofs.Exports.{found-low}
use Rattle.run_steps.specs.Slots.{slot_in}
use Rattle.run_steps.specs.Equations.{NameEquation, IsEquationLoop, HasNoEquationLoop}
use Rattle.run_steps.specs.Steps.{driven, AreSound}
use Rattle.run_steps.specs.Order.{edges_from, IsEvaluationOrder, NoWalk, AreWalked, slots_read}
use Rattle.run_steps.specs.Solvers.{equation_edges, IsResolved, AreSlots}
use Rattle.run_steps.proofs.EquationEdges.{reads-low, walked-loop, no-loop}
use Rattle.run_steps.proofs.Places.{driven-count}

-- what is said of the parts of values, of the values
pub parts-within : {V : Type 0} (items : V → List ℕ) (bound : ℕ) (vs : List V) → All (λ slots. All (λ slot. slot < bound) slots) (map items vs)
    → All (λ v. All (λ slot. slot < bound) (items v)) vs
parts-within items bound vs all = all-unmapped (λ slots. All (λ slot. slot < bound) slots) items vs all

-- the slots of names that have a value
slots-low : (names xs : List (List ℕ)) → AllByRecursion (λ x. is_among x names ≡ true) xs
    → AllByRecursion (λ slot. slot < length names) (map (slot_in names) xs)
slots-low names [] all = tt
slots-low names (x ∷ xs) all = (found-low x names all.0, slots-low names xs all.1)

pub slots-are : (names keys picked : List (List ℕ)) (slots : List ℕ) → keys ≡ names → slots ≡ map (slot_in keys) picked
    → AllByRecursion (λ x. is_among x names ≡ true) picked → AreSlots names picked slots
slots-are names keys picked slots same are among =
    let is = are ∙ ap (λ ks. map (slot_in ks) picked) same in
    record {
      are = is;
      low = subst (λ l. All (λ slot. slot < length names) l) (sym is)
          (All-from_recursion (λ slot. slot < length names) (map (slot_in names) picked) (slots-low names picked among));
    }

module _ (given : List (List ℕ)) (equations : List NameEquation) (sound : AreSound given equations) (names keys : List (List ℕ)) (first : ℕ)
    (reads : List (List ℕ)) (is : IsResolved given equations names keys first reads) where
  abbrev own : List (List ℕ)
  own = slots_read (driven given equations) equations

  pub reads-count : length reads ≡ length equations
  reads-count = ap length is.reads_are ∙ length-map equations (λ (e : NameEquation). map (slot_in (driven given equations)) e.reads)

  pub each-name : length names ≡ first + length reads
  each-name =
      let all = ap length is.names_are ∙ driven-count given equations in
      omega (arith, all, is.first_is, reads-count)

  pub reads-within : All (λ slots. All (λ slot. slot < first + length reads) slots) reads
  reads-within =
      subst (λ rs. All (λ slots. All (λ slot. slot < first + length rs) slots) rs) (sym is.reads_are)
      (subst (λ f. All (λ slots. All (λ slot. slot < f + length own) slots) own) (sym is.first_is) (reads-low given equations sound))

  edges-are : edges_from first 0 reads ≡ equation_edges given equations
  edges-are = ap (λ n. edges_from n 0 reads) is.first_is ∙ ap (λ rs. edges_from (length given) 0 rs) is.reads_are

  pub ordered : (order : List ℕ) → IsEvaluationOrder (length reads) (edges_from first 0 reads) order
      → IsEvaluationOrder (length equations) (equation_edges given equations) order
  ordered order h =
      subst (λ n. IsEvaluationOrder n (equation_edges given equations) order) reads-count
      (subst (λ es. IsEvaluationOrder (length reads) es order) edges-are h)

  pub acyclic : NoWalk (edges_from first 0 reads) → HasNoEquationLoop equations
  acyclic none = no-loop given equations sound (rw edges-are at none)

  pub loop : (found : List (List ℕ)) → AreWalked (edges_from first 0 reads) names first found → IsEquationLoop equations found
  loop found walked =
      walked-loop given equations sound found
      (subst (λ f. AreWalked (equation_edges given equations) (driven given equations) f found) is.first_is
      (subst (λ ns. AreWalked (equation_edges given equations) ns first found) is.names_are
      (subst (λ es. AreWalked es names first found) edges-are walked)))

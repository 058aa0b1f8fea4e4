-- The emissions on the status wire of a Local are those of its body, in the layer that sees the wire.
use Rattle.std.proofs.Common.{◌≡◌, ℕ, ◌+◌, ◌≤◌, Bool, true, false, ◌&&◌, ◌||◌, List, [], ◌∷◌, map, refl, ap, ◌∙◌, arith}
use Rattle.std.specs.List.{list_any}
use Rattle.std.proofs.lemmas.List.Folds.{list_any-append}
use Rattle.std.proofs.lemmas.Bool.{ne_eqb, cond_both}
use Rattle.base_facts.proofs.Tests.{or-false}
use Rattle.est_kernel.specs.Terms.{Term, Local}
use Rattle.est_kernel.specs.StaticCodes.{has_code, resumed_codes}
use Rattle.grc_graph.specs.Layers.{Layer, Resumed, Started, Liveness, part_liveness, layer_above, same_layer}
use Rattle.grc_graph.specs.Scopes.{Scope, bind}
use Rattle.grc_graph.specs.Wires.{StatusOf}
use Rattle.grc_graph.specs.Formulas.{Formula}
use Rattle.grc_graph.specs.Spots.{Spot, spots, spots_at, part_entry}
use Rattle.grc_graph.specs.Walk.{Values, with_value, started_walk, resumed_walk}
use Rattle.grc_graph.specs.Selected.{HasExitCodes}
use Rattle.grc_graph.specs.Readings.{Valuation}
use Rattle.grc_graph.specs.Coherence.{statuses, StartedWalked, ResumedWalked}
use Rattle.grc_solutions.proofs.Exports.{spot, Above, above_bind, Root}
use Rattle.grc_solutions_laws.proofs.Residues.{resumed_live}
use Rattle.grc_graph.proofs.Exports.{Agrees, above_within, same_layer-self}
use Rattle.grc_solutions_laws.proofs.Emissions.{emission, emitted, Whole}
use Rattle.grc_solutions_laws.proofs.Bridge.{started_any, resumed_any, split}
use Rattle.grc_solutions_laws.proofs.WalkEmits.{Reach, started_silent, resumed_silent, started_emits, resumed_emits, guard_bits}
use Rattle.grc_solutions_laws.proofs.Meets.{any_single, any_nothing, own_fresh, own_shows}
use Rattle.grc_solutions_laws.proofs.Standing.{Stands, local_part}

module _ (V : Valuation) (all : List Spot) (L : ℕ → List Layer) where
  pub started_emissions : (a : Liveness) (s : ℕ) (p : Term) (B : Scope) (f : Layer → Formula) (n r : ℕ) → HasExitCodes p → Above B n → Agrees L a p (n + 1) →
      Root r a.roots → emitted V (StatusOf n (Started r)) (spots L (bind B s n) f p (n + 1)) ≡
      started_any (emission V (StatusOf n (Started r))) (bind B s n) f p (n + 1) (Started r)
  started_emissions a s p B f n r k ab g i =
      let W = StatusOf n (Started r) in
      let F = emission V W in
      split F L a (bind B s n) f p (n + 1) k g
      ∙ ap (λ b. b || list_any (λ j. started_any F (bind B s n) f p (n + 1) (Started j)) a.roots)
      (silent_and a.resumed (resumed_silent V W s p (bind B s n) f (n + 1) k (own_fresh n (Started r)) (above_bind B n s ab)
      (own_shows B n s Resumed (Started r) false ab refl)))
      ∙ any_single (λ j. started_any F (bind B s n) f p (n + 1) (Started j)) r a.roots i
      (λ j z. started_silent V W s p (bind B s n) f (n + 1) (Started j) k (own_fresh n (Started r))
      (own_shows B n s (Started j) (Started r) false ab (differs j z)))
    where
      silent_and : (c : Bool) {x : Bool} → x ≡ false → (c && x) ≡ false
      silent_and true e = e
      silent_and false e = refl

      differs : (j : ℕ) → (j ≡ r → ⊥) → same_layer (layer_above n (Started j)) (Started r) ≡ false
      differs j z = cond_both _ (Started j) Resumed (λ y. same_layer y (Started r) ≡ false) (λ u. ne_eqb j r z) (λ u. refl)

  pub resumed_emissions : (a : Liveness) (s : ℕ) (p : Term) (B : Scope) (f : Layer → Formula) (n : ℕ) → HasExitCodes p → Above B n → Agrees L a p (n + 1) →
      ((r : ℕ) → Root r a.roots → r ≤ n) → emitted V (StatusOf n Resumed) (spots L (bind B s n) f p (n + 1)) ≡
      (a.resumed && resumed_any (emission V (StatusOf n Resumed)) (bind B s n) f p (n + 1))
  resumed_emissions a s p B f n k ab g l =
      let W = StatusOf n Resumed in
      let F = emission V W in
      split F L a (bind B s n) f p (n + 1) k g
      ∙ ap (λ b. (a.resumed && resumed_any F (bind B s n) f p (n + 1)) || b)
      (any_nothing (λ j. started_any F (bind B s n) f p (n + 1) (Started j)) a.roots
      (λ j i. started_silent V W s p (bind B s n) f (n + 1) (Started j) k (own_fresh n Resumed)
      (own_shows B n s (Started j) Resumed false ab (ap (λ y. same_layer y Resumed) (above_within n j (l j i))))))
      ∙ or-false _

  -- the emissions of the whole list on a Local's own wire are in its body
  pub local_own : (x : ℕ) (p : Term) (B : Scope) (f : Layer → Formula) (n : ℕ) (y : Layer) → Whole V L all B f (Local x p) n →
      emitted V (StatusOf n y) all ≡ emitted V (StatusOf n y) (spots L (bind B x n) (part_entry n) p (n + 1))
  local_own x p B f n y w =
      w.own n y (omega arith) (omega arith)
      ∙ list_any-append (emission V (StatusOf n y)) (spots_at L B f (Local x p) n) (spots L (bind B x n) (part_entry n) p (n + 1))
      ∙ ap (λ b. b || emitted V (StatusOf n y) (spots L (bind B x n) (part_entry n) p (n + 1))) (none (L n))
    where
      none : (ls : List Layer) → list_any (emission V (StatusOf n y)) (map (λ l. spot B f (Local x p) n l) ls) ≡ false
      none [] = refl
      none (l ∷ ls) = none ls

  -- where its body is walked, they are the walk's
  pub local_started : (a : Liveness) (x : ℕ) (p : Term) (B : Scope) (f : Layer → Formula) (n r : ℕ) (v : Values) (b : Bool) →
      Stands V L all a B f (Local x p) n → Root r a.roots → StartedWalked V p (n + 1) (Started r) (with_value v x (V (StatusOf n (Started r)))) b →
      emitted V (StatusOf n (Started r)) all ≡ (b && (started_walk (statuses V) p (n + 1) (Started r) (with_value v x (V (StatusOf n (Started r))))).signals x)
  local_started a x p B f n r v b c i one =
      let y = Started r in
      let W = StatusOf n y in
      local_own x p B f n y c.whole
      ∙ started_emissions (part_liveness a p) x p B _ n r c.kernel c.above (local_part V L all c).agrees i
      ∙ started_emits V W x true p (bind B x n) _ (n + 1) y (with_value v x (V W)) b c.loops c.kernel one (own_fresh n y)
      (own_shows B n x y y true c.above (ap (λ z. same_layer z y) (above_within n r (c.low r i)) ∙ same_layer-self y))

  pub local_resumed : (S : ℕ → Bool) (a : Liveness) (x : ℕ) (p : Term) (B : Scope) (f : Layer → Formula) (n : ℕ) (v : Values) (b : Bool) →
      Stands V L all a B f (Local x p) n → a.resumed ≡ true → Reach S p (n + 1) b → (has_code (resumed_codes p) ≡ true →
      ResumedWalked V S p (n + 1) (with_value v x (V (StatusOf n Resumed))) b) →
      emitted V (StatusOf n Resumed) all ≡ (b && (resumed_walk (statuses V) S p (n + 1) (with_value v x (V (StatusOf n Resumed)))).signals x)
  local_resumed S a x p B f n v b c i up one =
      let W = StatusOf n Resumed in
      let v2 = with_value v x (V W) in
      let wp = resumed_walk (statuses V) S p (n + 1) v2 in
      local_own x p B f n Resumed c.whole
      ∙ resumed_emissions (part_liveness a p) x p B _ n c.kernel c.above (local_part V L all c).agrees c.low
      ∙ ap (λ y. (y && has_code (resumed_codes p)) && resumed_any (emission V W) (bind B x n) (part_entry n) p (n + 1)) i
      ∙ guard_bits (has_code (resumed_codes p)) true b (wp.signals x) _
      (λ z. resumed_emits V S W x true p (bind B x n) _ (n + 1) v2 b c.loops c.kernel up (one z) (own_fresh n Resumed) (above_bind B n x c.above)
      (own_shows B n x Resumed Resumed true c.above refl))
      (λ z. resumed_live S p (n + 1) c.loops c.kernel (up.held z) (up.selected z))

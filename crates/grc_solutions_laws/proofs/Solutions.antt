-- A solution of a program's graph is a walk, with the outgoing signals that it emits.
use Rattle.std.proofs.Common.{◌≡◌, ℕ, zero, suc, ◌+◌, ◌<◌, ◌≤◌, Bool, true, false, ◌||◌, List, [], ◌∷◌, length, get_or, map, refl, ◌∙◌, subst, inl}
use Rattle.std.proofs.Common.{arith}
use Rattle.std.specs.List.{list_any, flat_map, range_with_len, All, Contains}
use Rattle.base_facts.proofs.Lists.{Every}
use Rattle.est_kernel.specs.Terms.{Term}
use Rattle.est_kernel.specs.StaticCodes.{has_code, resumed_codes, NoInstantLoop}
use Rattle.est_kernel.specs.Reactions.{is_given}
use Rattle.grc_graph.specs.Layers.{Resumed, Started, body_layers, body_liveness}
use Rattle.grc_graph.specs.Scopes.{Scope}
use Rattle.grc_graph.specs.Wires.{Wire, Out, same_wire}
use Rattle.grc_graph.specs.Spots.{Spot, body_entry}
use Rattle.grc_graph.specs.Equations.{equations, instance_equations, output_equation}
use Rattle.grc_graph.specs.Residuals.{holds}
use Rattle.grc_graph.specs.Walk.{Values, State, is_initial}
use Rattle.grc_graph.specs.Selected.{HasExitCodes, IsState}
use Rattle.grc_graph.specs.Readings.{Valuation, seen_values, state_holds_at}
use Rattle.grc_graph.specs.Coherence.{StartedWalked, ResumedWalked}
use Rattle.grc_solutions_laws.specs.GraphWalks.{selected_of}
use Rattle.grc_solutions.proofs.Exports.{every_of_all, every_left, EachStarted, EachResumed, layered, range_has}
use Rattle.grc_graph.proofs.Exports.{body_agrees}
use Rattle.grc_solutions_laws.proofs.Emissions.{emitted}
use Rattle.grc_solutions_laws.proofs.EndForms.{val}
use Rattle.grc_solutions_laws.proofs.Meets.{Met, head_started, head_resumed, finds_self}
use Rattle.grc_solutions_laws.proofs.Told.{told_started, told_resumed}
use Rattle.grc_solutions_laws.proofs.Joint.{Alive, met_at, met_spots}
use Rattle.grc_solutions_laws.proofs.Tops.{state_finds, state_reach}
use Rattle.grc_solutions_laws.proofs.Tops as tops

module _ (inputs outs given_count : ℕ) (body : Term) where
  abbrev B0 : Scope
  B0 = tops.B0 inputs outs body

  abbrev body_all : List Spot
  body_all = tops.body_all inputs outs body

  -- what a solution in a state and an event is worth
  module _ (q : State) (event : List Bool) (V : Valuation) (nl : NoInstantLoop body) (kernel : HasExitCodes body) (state : IsState q body)
      (met : All (λ e. V e.wire ≡ val B0 body q (is_given event) V e.formula) (equations given_count (range_with_len inputs outs) body_all))
      (others : (w : Wire) → list_any (λ e. same_wire w e.wire) (equations given_count (range_with_len inputs outs) body_all) ≡ false → V w ≡ false) where
    abbrev v : Values
    v = seen_values (is_given event) V B0 Resumed

    abbrev S : ℕ → Bool
    S = selected_of q

    spots_met : Every (Alive B0 body q (is_given event) V body_all) body_all
    spots_met = met_spots inputs outs given_count body q event V kernel met others

    each_met : ((has_code (resumed_codes body) ≡ true) → EachResumed (Met B0 body q (is_given event) V body_all) B0 body_entry body 0)
        × EachStarted (Met B0 body q (is_given event) V body_all) B0 body_entry body 0 (Started 0)
    each_met =
        let l = layered (body_layers body) (Alive B0 body q (is_given event) V body_all) (Met B0 body q (is_given event) V body_all)
        (met_at B0 body q (is_given event) V body_all) (body_liveness body) B0 body_entry body 0 kernel (body_agrees body) spots_met in
        (l.0, l.1 0 (inl refl))

    pub top_started : StartedWalked V body 0 (Started 0) v (is_initial q)
    top_started =
        told_started B0 body q (is_given event) V body_all (body_layers body) body 0 0 v (is_initial q) (tops.body_stands inputs outs body V nl kernel)
        (inl refl) each_met.1
        (record { each = λ s. tops.seen_free inputs outs body (is_given event) V (B0 s) s (tops.no_bound inputs outs body s) })
        (head_started (Met B0 body q (is_given event) V body_all) B0 body_entry body 0 (Started 0) kernel each_met.1).go

    pub top_resumed : has_code (resumed_codes body) ≡ true → ResumedWalked V S body 0 v (holds S body 0)
    top_resumed live =
        told_resumed B0 body q (is_given event) V body_all (body_layers body) S body 0 v (holds S body 0) (tops.body_stands inputs outs body V nl kernel)
        live (each_met.0 live)
        (record { each = λ s. refl }) (state_finds q body) (state_reach q body state)
        ((head_resumed (Met B0 body q (is_given event) V body_all) B0 body_entry body 0 kernel (each_met.0 live)).go
        ∙ finds_self (λ m. state_holds_at q body m) S body 0 (state_finds q body))

    output_row : (os : List ℕ) → Every (λ e. V e.wire ≡ val B0 body q (is_given event) V e.formula) (map (output_equation given_count body_all) os) → (o : ℕ) →
        Contains os o → V (Out o) ≡ val B0 body q (is_given event) V (output_equation given_count body_all o).formula
    output_row os h o c = go os h c.0 c.1 c.2
      where
        go : (xs : List ℕ) → Every (λ e. V e.wire ≡ val B0 body q (is_given event) V e.formula) (map (output_equation given_count body_all) xs) → (k : ℕ) →
            k < length xs → get_or xs k o ≡ o → V (Out o) ≡ val B0 body q (is_given event) V (output_equation given_count body_all o).formula
        go [] h k l e = absurd (omega arith)
        go (x ∷ xs) h zero l e = subst (λ y. V (Out y) ≡ val B0 body q (is_given event) V (output_equation given_count body_all y).formula) e h.0
        go (x ∷ xs) h (suc k) l e = go xs h.1 k (omega arith) e

    pub output_value : length event ≡ given_count → (o : ℕ) → inputs ≤ o → o < inputs + outs → V (Out o) ≡ (is_given event o || emitted V (Out o) body_all)
    output_value w o i j =
        let every = every_of_all (λ e. V e.wire ≡ val B0 body q (is_given event) V e.formula)
        (equations given_count (range_with_len inputs outs) body_all) met in
        let rows = every_left (λ e. V e.wire ≡ val B0 body q (is_given event) V e.formula)
        (map (output_equation given_count body_all) (range_with_len inputs outs)) (flat_map (instance_equations body_all) body_all) every in
        output_row (range_with_len inputs outs) rows o (range_has inputs outs o i j) ∙ tops.output_means inputs outs body given_count q event V w o

-- What the resolved names of a sound circuit give: a plan.
use Rattle.std.proofs.Common.{◌≡◌, ℕ, ◌<◌, true, List, [], ◌∷◌, length, map, All, refl, ap, ◌∙◌, arith, subst}
use Rattle.std.proofs.lemmas.List.{length-map}
use Rattle.std.proofs.lemmas.List.Elements.{recursion_from_All}
use Rattle.net_ir.specs.NameLists.{is_among}
use Rattle.blif_text.specs.Circuits.{Circuit, CircuitLatch, Table}
use Rattle.blif_text.specs.Runs.{driven_names}
use Rattle.blif_text.proofs.Exports.{IsSound}
use Rattle.run_steps.specs.Slots.{slot_in}
use Rattle.run_steps.specs.Plans.{Planned, Makes}
use Rattle.run_steps.specs.Order.{IsEvaluationOrder, slots_read}
use Rattle.run_steps.specs.Solvers.{IsResolved, equation_edges, ordered_steps}
use Rattle.run_steps.proofs.Exports.{all-made, reads-count, slots-are}
use Rattle.blif_run.specs.Loops.{equation_of, equations_of}
use Rattle.blif_run.specs.Plans.{IsPlan, given_names, all_names}
use Rattle.blif_run.specs.Truths.{step_at}
use Rattle.blif_run.proofs.CircuitEquations.{names-are, sound-equations, table-steps}

widths : (names : List (List ℕ)) (tables : List Table) → map length (slots_read names (map equation_of tables)) ≡ map (λ t. length t.inputs) tables
widths names [] = refl
widths names (t ∷ tables) = rw (length-map t.inputs (slot_in names), widths names tables) refl

module _ (c : Circuit) (sound : IsSound c) (names keys : List (List ℕ)) (first : ℕ) (reads : List (List ℕ))
    (is : IsResolved (given_names c) (equations_of c) names keys first reads) where
  pub tables-count : length reads ≡ length c.tables
  tables-count =
      reads-count (given_names c) (equations_of c) (sound-equations c sound) names keys first reads is ∙ length-map c.tables equation_of

  pub each-input : map length reads ≡ map (λ t. length t.inputs) c.tables
  each-input = ap (map length) is.reads_are ∙ widths (all_names c) c.tables

  pub planned : (order : List ℕ) (plan : Planned) (sources shown : List ℕ) → plan.named ≡ length names
      → IsEvaluationOrder (length (equations_of c)) (equation_edges (given_names c) (equations_of c)) order
      → Makes plan (map (step_at c.tables first reads) order)
      → sources ≡ map (slot_in keys) (map (λ l. l.source) c.latches) → shown ≡ map (slot_in keys) c.outputs → IsPlan c plan sources shown
  planned order plan sources shown named h makes kept given =
      let nodes : All (λ k. k < length c.tables) order = λ k d low.
      omega (arith, h.against.nodes k d low, h.each_node, length-map c.tables equation_of) in
      let steps_are : map (step_at c.tables first reads) order ≡ ordered_steps (given_names c) (equations_of c) order =
      ap (λ n. map (step_at c.tables n reads) order) is.first_is ∙ ap (λ rs. map (step_at c.tables (length (given_names c)) rs) order) is.reads_are
      ∙ table-steps c sound order (recursion_from_All (λ k. k < length c.tables) order nodes) in
      let same = is.keys_are ∙ names-are c in
      record {
        solver = record {
          named_is = named ∙ ap length is.names_are;
          order = order;
          ordered = h;
          makes = subst (λ steps. Makes plan steps) steps_are makes;
        };
        sources_are = slots-are (driven_names c) keys (map (λ l. l.source) c.latches) sources same kept
            (all-made (λ x. is_among x (driven_names c) ≡ true) (λ (l : CircuitLatch). l.source) c.latches sound.driven.sources);
        shown_are = slots-are (driven_names c) keys c.outputs shown same given sound.driven.outputs;
      }

-- The first wires of shared instances.
use Rattle.std.proofs.Common.{◌≡◌, ℕ, ◌+◌, ◌<◌, true, false, List, [], ◌∷◌, ◌++◌, length, sym, ap, ◌∙◌, subst, ⊎_elim, arith, length-append}
use Rattle.std.specs.Prelude.{slice_index}
use Rattle.std.proofs.lemmas.Bool.{cases_lt}
use Rattle.std.proofs.lemmas.List.{get_or_append_left, get_or-append-add}
use Rattle.est_kernel.specs.Plain.{program_of}
use Rattle.grc_graph.specs.declared.graph.Graph.{Graph}
use Rattle.grc_graph.specs.Layers.{Resumed}
use Rattle.grc_graph.specs.PlainGraphs.{instance_at, instances_of}
use Rattle.grc_share.specs.Renamings.{is_named}
use Rattle.grc_share.specs.SharedInstances.{body_sharing}
use Rattle.grc_share.specs.Tables.{AreFirstsOf, named_before}
use Rattle.grc_share.proofs.Ranks.{rank-below, rank-more, rank-same}

module _ (g : Graph) (numbers : List ℕ) (i : ℕ) (firsts : List ℕ) (low : i < length (instances_of g)) (h : AreFirstsOf g numbers i firsts) where
  -- an instance that names its shared one
  pub firsts-own : (m : ℕ) → is_named (body_sharing (program_of g.program).body) (instance_at (instances_of g) i) ≡ true
      → m ≡ slice_index numbers (slice_index g.first_wires.items i) → AreFirstsOf g numbers (i + 1) (firsts ++ m ∷ [])
  firsts-own m named e = record {
    each = omega (
      arith,
      length-append firsts (m ∷ []),
      h.each,
      rank-more (is_named (body_sharing (program_of g.program).body)) (instances_of g) i (record { path = 0; layer = Resumed }) low named,
    );
    own = λ j l n. ⊎_elim
        (λ lt.
        let before = rank-below (is_named (body_sharing (program_of g.program).body)) (instances_of g) j i (record { path = 0; layer = Resumed })
        (omega arith) n lt in
        get_or_append_left firsts (m ∷ []) 0 (named_before g j) (omega (arith, h.each, before)) ∙ h.own j lt n)
        (λ ge.
        let q : i ≡ j = omega arith in
        subst (λ k. slice_index (firsts ++ m ∷ []) (named_before g k) ≡ slice_index numbers (slice_index g.first_wires.items k)) q
        (ap (λ k. slice_index (firsts ++ m ∷ []) k) (let z : named_before g i ≡ length firsts + 0 = omega (arith, h.each) in z)
        ∙ get_or-append-add firsts (m ∷ []) 0 0 ∙ e))
        (cases_lt j i);
  }

  -- another
  pub firsts-other : is_named (body_sharing (program_of g.program).body) (instance_at (instances_of g) i) ≡ false → AreFirstsOf g numbers (i + 1) firsts
  firsts-other other = record {
    each = omega (
      arith,
      h.each,
      rank-same (is_named (body_sharing (program_of g.program).body)) (instances_of g) i (record { path = 0; layer = Resumed }) low other,
    );
    own = λ j l n. ⊎_elim (λ lt. h.own j lt n)
        (λ ge.
        let q : j ≡ i = omega arith in
        let t : true ≡ false = sym n ∙ ap (λ k. is_named (body_sharing (program_of g.program).body) (instance_at (instances_of g) k)) q ∙ other in
        absurd (cc))
        (cases_lt j i);
  }

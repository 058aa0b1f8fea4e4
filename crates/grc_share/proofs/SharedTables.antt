-- The shared instances of a graph, as they are listed.
use Rattle.std.proofs.Common.{◌≡◌, ℕ, zero, suc, ◌<◌, ◌≤◌, List, length, map, get_or, refl, sym, ap, ◌∙◌, ⊎_elim, arith}
use Rattle.std.proofs.lemmas.Bool.{cases_lt}
use Rattle.std.proofs.lemmas.List.{get_or-map, length-map}
use Rattle.est_kernel.specs.Plain.{program_of}
use Rattle.est_kernel.specs.Preorder.{statement_count}
use Rattle.grc_graph.specs.declared.graph.Graph.{Graph}
use Rattle.grc_graph.specs.declared.instances.Instance as stored
use Rattle.grc_graph.specs.BuiltGraphs.{IsGraphOf}
use Rattle.grc_graph.specs.Instances.{Instance}
use Rattle.grc_graph.specs.Layers.{Resumed}
use Rattle.grc_graph.specs.PlainGraphs.{instances_of}
use Rattle.grc_graph.specs.PlainInstances.{instance_of}
use Rattle.grc_graph.specs.WireTables.{AreBelow, Ascending, comes_before}
use Rattle.grc_share.specs.Renamings.{is_named}
use Rattle.grc_share.specs.SharedGraphs.{shared_instances}
use Rattle.grc_share.specs.SharedInstances.{body_sharing}
use Rattle.grc_share.proofs.Ranks.{Passing, passing, rank-few, rank-rises}
use Rattle.grc_share.proofs.WireRanks.{named-filter}

module _ (g : Graph) (built : IsGraphOf g (program_of g.program)) (list : List stored.Instance)
    (same : map instance_of list ≡ shared_instances (program_of g.program)) where
  many : length list ≡ length (shared_instances (program_of g.program))
  many = sym (length-map list instance_of) ∙ ap length same

  -- what stands at a place of the list stands in the graph
  pub found : (k : ℕ) → k < length list → Passing (is_named (body_sharing (program_of g.program).body)) (instances_of g) k
  found k l = passing (is_named (body_sharing (program_of g.program).body)) (instances_of g) k (omega (arith, many, ap length (named-filter g built)))

  pub found-low : (k : ℕ) (l : k < length list) → (found k l).place < length g.instances.list.items
  found-low k l = omega (arith, (found k l).low, length-map g.instances.list.items instance_of)

  pub found-read : (k : ℕ) (l : k < length list) (d : stored.Instance)
      → instance_of (get_or list k d) ≡ instance_of (get_or g.instances.list.items (found k l).place d)
  found-read k l d =
      let x : Instance = instance_of d in
      sym (get_or-map instance_of list k d x l) ∙ ap (λ (xs : List Instance). get_or xs k x) (same ∙ named-filter g built) ∙ (found k l).read x x
      ∙ get_or-map instance_of g.instances.list.items (found k l).place d x (found-low k l)

  pub found-rises : (i j : ℕ) (l : i < length list) (m : j < length list) → i < j → (found i l).place < (found j m).place
  found-rises i j l m lt =
      ⊎_elim (λ q. q)
      (λ q.
      let r = rank-rises (is_named (body_sharing (program_of g.program).body)) (instances_of g) (found j m).place (found i l).place q in
      absurd (omega (arith, r, (found i l).ranked, (found j m).ranked)))
      (cases_lt (found i l).place (found j m).place)

  pub shared-ascending : Ascending list
  shared-ascending i j d lt low =
      let l : i < length list = omega arith in
      (λ t. comes_before (found-read i l d t) (found-read j low d t))
      ∙ g.tables.ascend (found i l).place (found j low).place d (found-rises i j l low lt) (found-low j low)

  pub shared-few : length list ≤ length g.instances.list.items
  shared-few = by (length list) refl
    where
      by : (n : ℕ) → length list ≡ n → length list ≤ length g.instances.list.items
      by zero e = omega (arith, e)
      by (suc n) e =
          let l : n < length list = omega (arith, e) in
          omega (arith, e, (found n l).ranked, rank-few (is_named (body_sharing (program_of g.program).body)) (instances_of g) (found n l).place, found-low n l)

  -- each is of a statement of the body
  pub shared-below : AreBelow (statement_count (program_of g.program).body) list
  shared-below i d l =
      let there = (found i l).place in
      let x : Instance = record { path = 0; layer = Resumed } in
      let path = ap (λ (y : Instance). y.path) (found-read i l d) in
      let read = ap (λ (y : Instance). y.path) (get_or-map instance_of g.instances.list.items there d x (found-low i l)) in
      omega (arith, g.laid_out.within there (found i l).low, path, read)

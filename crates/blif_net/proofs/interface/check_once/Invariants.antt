use Rattle.std.proofs.Common.{◌≡◌, ℕ, List, [], map, take, drop}
use Rattle.std.specs.HashSet.{contains_by}
use Rattle.base_types.specs.Names.{is_same_name}
use Rattle.net_ir.specs.NameLists.{is_among, first_again}
use Rattle.blif_net.proofs.interface.check_once.Given as goal

-- no word stands twice so far, and the set has those so far
abbrev pub invariant-loop-word : goal.invariant-loop-word
invariant-loop-word l = record {
  once : first_again [] (map (λ (w : List ℕ). w) l.words)
      ≡ first_again (take l.word-index (map (λ (w : List ℕ). w) l.words)) (drop l.word-index (map (λ (w : List ℕ). w) l.words));
  members : (name : List ℕ) → contains_by (λ k. is_same_name name k.now) l.seen
      ≡ is_among name (take l.word-index (map (λ (w : List ℕ). w) l.words));
}

-- The shared wires of a program are among its wires, and each is its own shared wire.
use Rattle.std.proofs.Common.{◌≡◌, ℕ, ◌<◌, Bool, true, List, [], ◌∷◌, map, refl, sym, ap, subst}
use Rattle.std.proofs.Common.{arith}
use Rattle.std.specs.Prelude.{Contains}
use Rattle.est_kernel.specs.Plain.{Program}
use Rattle.est_kernel.specs.Preorder.{statement_count}
use Rattle.est_kernel.specs.Terms.{Term}
use Rattle.est_kernel.specs.WellFormed.{IsKernel, KeepsLimits}
use Rattle.grc_graph.specs.Formulas.{Formula}
use Rattle.grc_graph.specs.GraphRuns.{program_wires}
use Rattle.grc_graph.specs.Layers.{Layer, Resumed, Started}
use Rattle.grc_graph.specs.Rows.{live_in, program_rows, row_at}
use Rattle.grc_graph.specs.Wires.{Wire, Out, Go, StatusOf, End, instance_codes, same_wire}
use Rattle.grc_graph.proofs.Exports.{IsEnd, IsGo, IsStatus, wire_only, wire_there, codes_below-kernel, program_kernel, same_wire-true}
use Rattle.grc_share.specs.SharedInstances.{body_sharing}
use Rattle.grc_share.specs.SharedWires.{shared_layer, shared_wire, shared_wires, status_layer}
use Rattle.grc_share.proofs.Exports.{IsLive, program_gives}
use Rattle.grc_solutions.specs.GraphWires.{equation_wires}
use Rattle.grc_share_laws.proofs.Lists.{filter-some}

-- the wires of the shared equations
pub equation-names : (f : Wire → Formula) (ws : List Wire) → equation_wires (map (λ (w : Wire). record { wire = w; formula = f w }) ws) ≡ ws
equation-names f [] = refl
equation-names f (w ∷ ws) = ap (λ us. w ∷ us) (equation-names f ws)

module _ (p : Program) (kernel : IsKernel p.body) (limits : KeepsLimits p.body) where
  pub row_live : (n : ℕ) → n < statement_count p.body → (row_at (program_rows p) n).live ≡ (body_sharing p.body).live n
  row_live n h = program_gives p kernel n (omega arith) (omega (arith, h))

  codes-same : (t : Term) (l : Layer) (n k : ℕ) → instance_codes t (shared_layer (body_sharing p.body) n l) k ≡ true → instance_codes t l k ≡ true
  codes-same t Resumed n k h = h
  codes-same t (Started r) n k h = h

  -- a live wire whose shared wire is there is there
  pub back : (w : Wire) → IsLive (body_sharing p.body) w → Contains (program_wires p) (shared_wire (body_sharing p.body) w) → Contains (program_wires p) w
  back (Out s) v c = c
  back (Go n l) v c =
      let x = wire_only p kernel IsGo n (shared_layer (body_sharing p.body) n l) c in
      wire_there p kernel IsGo n l tt (record { within = x.within; live = subst (λ a. live_in a l ≡ true) (sym (row_live n x.within)) v; has = tt })
  back (StatusOf n l) v c =
      let x = wire_only p kernel IsStatus n (status_layer (body_sharing p.body) n l) c in
      wire_there p kernel IsStatus n l tt (record { within = x.within; live = subst (λ a. live_in a l ≡ true) (sym (row_live n x.within)) v; has = x.has })
  back (End n l k) v c =
      let x = wire_only p kernel (IsEnd k) n (shared_layer (body_sharing p.body) n l) c in
      let has = codes-same (row_at (program_rows p) n).statement l n k x.has in
      wire_there p kernel (IsEnd k) n l (codes_below-kernel (row_at (program_rows p) n).statement l k (program_kernel p n kernel limits x.within) has) (record {
        within = x.within;
        live = subst (λ a. live_in a l ≡ true) (sym (row_live n x.within)) v;
        has = has;
      })

  abbrev named : Wire → Bool
  named w = same_wire (shared_wire (body_sharing p.body) w) w

  -- shared wires are wires of the program, and each its own shared wire
  pub shared-there : (u : Wire) → Contains (shared_wires p) u → Contains (program_wires p) u
  shared-there u c = (filter-some named (program_wires p) u c).0

  pub shared-itself : (u : Wire) → Contains (shared_wires p) u → shared_wire (body_sharing p.body) u ≡ u
  shared-itself u c = same_wire-true (shared_wire (body_sharing p.body) u) u (filter-some named (program_wires p) u c).1

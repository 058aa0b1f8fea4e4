-- The instance around an instance: it is live, and stands before it.
use Rattle.std.proofs.Common.{◌≡◌, ℕ, ◌+◌, ◌<◌, sym, subst, arith, Some}
use Rattle.std.specs.Prelude.{Contains}
use Rattle.est_kernel.specs.Plain.{Program}
use Rattle.est_kernel.specs.Preorder.{statement_count}
use Rattle.grc_graph.specs.Instances.{body_instances}
use Rattle.grc_graph.specs.Layers.{Layer, layer_above}
use Rattle.grc_graph.specs.Rows.{row_at, program_rows}
use Rattle.grc_graph.specs.Statements.{Entry, Body, Part, Branch, Then, Else, Suspended, Second, Looped, around}
use Rattle.grc_graph.proofs.LiveInstances.{Upwards, part_up, second_up, loop_up, above_itself}
use Rattle.grc_graph.proofs.RowFacts.{PartOf, Entered, program_placed}
use Rattle.grc_graph.proofs.RowReads.{length-program_rows}
use Rattle.grc_graph.proofs.WireNames.{LiveAt, instance_live, in_layers, live_of}

-- the instance of the statement around, as seen from a live instance
pub record LiveAround (p : Program) (n c : ℕ) (l : Layer) : Type 0 where
  pub before : n < c
  pub within : n < statement_count p.body
  pub live : Contains (body_instances p.body) (record { path = n; layer = layer_above n l })

-- where the liveness of a part comes from that of the statement around it
live-around : (p : Program) (n c : ℕ) (l : Layer) → LiveAt p c l → n < c → n < statement_count p.body
    → Upwards (row_at (program_rows p) n).live n (row_at (program_rows p) c).live → LiveAround p n c l
live-around p n c l live before within up =
    let here = in_layers (row_at (program_rows p) c).live l live.live in
    let there = live_of (row_at (program_rows p) n).live (layer_above n l) (up.up l here) in
    record { before = before; within = within; live = instance_live p n (layer_above n l) within there }

part-around : (p : Program) (n c : ℕ) (l : Layer) → LiveAt p c l → PartOf (program_rows p) c n → LiveAround p n c l
part-around p n c l live part =
    let W = program_rows p in
    let many = length-program_rows p in
    let low : n < statement_count p.body = omega (arith, part.within) in
    let roots = (program_placed p n low).roots in
    live-around p n c l live part.before low
    (subst (Upwards (row_at W n).live n) (sym part.live) (part_up (row_at W n).live (row_at W c).statement n roots))

entered-around : (p : Program) (n c : ℕ) (l : Layer) (x : Entry) → LiveAt p c l → Entered (program_rows p) c x → around x ≡ Some n → LiveAround p n c l
entered-around p n c l Body live e is = absurd (cc)
entered-around p n c l (Part m) live e is = let same : m ≡ n = cc in part-around p n c l live (subst (PartOf (program_rows p) c) same e)
entered-around p n c l (Branch m) live e is = let same : m ≡ n = cc in part-around p n c l live (subst (PartOf (program_rows p) c) same e)
entered-around p n c l (Then m t) live e is = let same : m ≡ n = cc in part-around p n c l live (subst (PartOf (program_rows p) c) same e.part)
entered-around p n c l (Else m t) live e is = let same : m ≡ n = cc in part-around p n c l live (subst (PartOf (program_rows p) c) same e.part)
entered-around p n c l (Suspended m t) live e is = let same : m ≡ n = cc in part-around p n c l live (subst (PartOf (program_rows p) c) same e.part)
entered-around p n c l (Second m) live e is =
    let same : m ≡ n = cc in
    let W = program_rows p in
    let many = length-program_rows p in
    let x = subst (λ i. Entered W c (Second i)) same e in
    live-around p n c l live (omega (arith, x.before)) (omega (arith, x.within))
    (subst (Upwards (row_at W n).live n) (sym x.live)
    (second_up (row_at W n).live (row_at W (n + 1)).statement (row_at W c).statement n c (omega (arith, x.before)) x.roots))
entered-around p n c l (Looped m) live e is =
    let same : m ≡ n = cc in
    let W = program_rows p in
    let many = length-program_rows p in
    let x = subst (λ i. Entered W c (Looped i)) same e in
    live-around p n c l live (omega (arith, x.number)) (omega (arith, x.within))
    (subst (Upwards (row_at W n).live n) (sym x.live) (loop_up (row_at W n).live (row_at W c).statement n c (omega (arith, x.number)) x.roots))

pub row-around : (p : Program) (n c : ℕ) (l : Layer) → LiveAt p c l → around (row_at (program_rows p) c).entry ≡ Some n → LiveAround p n c l
row-around p n c l live is = entered-around p n c l (row_at (program_rows p) c).entry live (program_placed p c live.within).entered is

-- a live instance runs in its own layer
pub own-layer : (p : Program) (c : ℕ) (l : Layer) → LiveAt p c l → layer_above c l ≡ l
own-layer p c l live =
    above_itself (row_at (program_rows p) c).live c l (program_placed p c live.within).roots (in_layers (row_at (program_rows p) c).live l live.live)

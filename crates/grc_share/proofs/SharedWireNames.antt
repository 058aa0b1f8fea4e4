-- Wires of a program are one shared wire exactly where they have one shared name.
use Rattle.std.proofs.Common.{◌≡◌, ℕ, ◌==◌, ◌&&◌, true, sym, ap, ◌∙◌, subst, arith}
use Rattle.std.specs.Prelude.{Contains, ⊤}
use Rattle.std.proofs.lemmas.Bool.{eq-eqb, eqb-true, false≢true, and_parts, and_from}
use Rattle.est_kernel.specs.Plain.{Program}
use Rattle.est_kernel.specs.WellFormed.{IsKernel}
use Rattle.grc_graph.specs.GraphRuns.{program_wires}
use Rattle.grc_graph.specs.Layers.{Layer}
use Rattle.grc_graph.specs.Rows.{live_in}
use Rattle.grc_graph.specs.Wires.{Wire, Out, Go, StatusOf, End}
use Rattle.grc_graph.proofs.Exports.{IsGo, IsStatus, IsEnd, Kind, wire_named, wire_only}
use Rattle.grc_share.specs.SharedInstances.{Sharing, body_sharing, key, one_instance, one_status}
use Rattle.grc_share.specs.SharedWires.{one_wire, shared_layer, shared_wire, status_layer}
use Rattle.grc_share.proofs.RowsLive.{program_gives}
use Rattle.grc_share.proofs.SharedNames.{named-one_instance, named-one_status, one_instance-named, one_status-named}

-- a wire of an instance that is live
abbrev pub IsLive : Sharing → Wire → Type 0
IsLive K (Out s) = ⊤
IsLive K (Go n l) = live_in (K.live n) l ≡ true
IsLive K (StatusOf n l) = live_in (K.live n) l ≡ true
IsLive K (End n l k) = live_in (K.live n) l ≡ true

pub one_wire-named : (K : Sharing) (u w : Wire) → IsLive K u → one_wire K u w ≡ true → IsLive K w → shared_wire K u ≡ shared_wire K w
one_wire-named K (Out s) (Out t) v h x = ap Out (eqb-true s t h)
one_wire-named K (Out s) (Go n l) v h x = absurd (false≢true h)
one_wire-named K (Out s) (StatusOf n l) v h x = absurd (false≢true h)
one_wire-named K (Out s) (End n l k) v h x = absurd (false≢true h)
one_wire-named K (Go m j) (Out t) v h x = absurd (false≢true h)
one_wire-named K (Go m j) (Go n l) v h x =
    let p = and_parts (m == n) (one_instance K n j l) h in
    let e = eqb-true m n p.0 in
    ap (λ i. Go i (shared_layer K i j)) e ∙ ap (Go n) (one_instance-named K n j l (subst (λ i. live_in (K.live i) j ≡ true) e v) p.1)
one_wire-named K (Go m j) (StatusOf n l) v h x = absurd (false≢true h)
one_wire-named K (Go m j) (End n l k) v h x = absurd (false≢true h)
one_wire-named K (StatusOf m j) (Out t) v h x = absurd (false≢true h)
one_wire-named K (StatusOf m j) (Go n l) v h x = absurd (false≢true h)
one_wire-named K (StatusOf m j) (StatusOf n l) v h x =
    let p = and_parts (m == n) (one_status K n j l) h in
    let e = eqb-true m n p.0 in
    ap (λ i. StatusOf i (status_layer K i j)) e
    ∙ ap (StatusOf n) (one_status-named K n j l (subst (λ i. live_in (K.live i) j ≡ true) e v) x (eqb-true (key K n j) (key K n l) p.1))
one_wire-named K (StatusOf m j) (End n l k) v h x = absurd (false≢true h)
one_wire-named K (End m j i) (Out t) v h x = absurd (false≢true h)
one_wire-named K (End m j i) (Go n l) v h x = absurd (false≢true h)
one_wire-named K (End m j i) (StatusOf n l) v h x = absurd (false≢true h)
one_wire-named K (End m j i) (End n l k) v h x =
    let p = and_parts (m == n) (one_instance K n j l && i == k) h in
    let q = and_parts (one_instance K n j l) (i == k) p.1 in
    let e = eqb-true m n p.0 in
    ap (λ z. End z (shared_layer K z j) i) e ∙ ap (λ z. End n z i) (one_instance-named K n j l (subst (λ z. live_in (K.live z) j ≡ true) e v) q.0)
    ∙ ap (End n (shared_layer K n l)) (eqb-true i k q.1)

-- layers at numbers that are one
moved : (f : ℕ → Layer → Layer) (m n : ℕ) (j : Layer) (l : Layer) → m ≡ n → f m j ≡ l → f n j ≡ l
moved f m n j l e h = sym (ap (λ x. f x j) e) ∙ h

pub named-one_wire : (K : Sharing) (u w : Wire) → IsLive K u → shared_wire K u ≡ shared_wire K w → IsLive K w → one_wire K u w ≡ true
named-one_wire K (Out s) (Out t) v h x = let e : s ≡ t = cc in eq-eqb s t e
named-one_wire K (Out s) (Go n l) v h x = absurd (cc)
named-one_wire K (Out s) (StatusOf n l) v h x = absurd (cc)
named-one_wire K (Out s) (End n l k) v h x = absurd (cc)
named-one_wire K (Go m j) (Out t) v h x = absurd (cc)
named-one_wire K (Go m j) (Go n l) v h x =
    let e : m ≡ n = cc in
    let f : shared_layer K m j ≡ shared_layer K n l = cc in
    and_from (m == n) (one_instance K n j l) (eq-eqb m n e) (named-one_instance K n j l (moved (shared_layer K) m n j (shared_layer K n l) e f))
named-one_wire K (Go m j) (StatusOf n l) v h x = absurd (cc)
named-one_wire K (Go m j) (End n l k) v h x = absurd (cc)
named-one_wire K (StatusOf m j) (Out t) v h x = absurd (cc)
named-one_wire K (StatusOf m j) (Go n l) v h x = absurd (cc)
named-one_wire K (StatusOf m j) (StatusOf n l) v h x =
    let e : m ≡ n = cc in
    let f : status_layer K m j ≡ status_layer K n l = cc in
    and_from (m == n) (one_status K n j l) (eq-eqb m n e)
    (eq-eqb (key K n j) (key K n l)
    (named-one_status K n j l (subst (λ i. live_in (K.live i) j ≡ true) e v) x (moved (status_layer K) m n j (status_layer K n l) e f)))
named-one_wire K (StatusOf m j) (End n l k) v h x = absurd (cc)
named-one_wire K (End m j i) (Out t) v h x = absurd (cc)
named-one_wire K (End m j i) (Go n l) v h x = absurd (cc)
named-one_wire K (End m j i) (StatusOf n l) v h x = absurd (cc)
named-one_wire K (End m j i) (End n l k) v h x =
    let e : m ≡ n = cc in
    let f : shared_layer K m j ≡ shared_layer K n l = cc in
    let g : i ≡ k = cc in
    and_from (m == n) (one_instance K n j l && i == k) (eq-eqb m n e)
    (and_from (one_instance K n j l) (i == k) (named-one_instance K n j l (moved (shared_layer K) m n j (shared_layer K n l) e f)) (eq-eqb i k g))

-- ---- the wires of a program

live_at : (p : Program) → IsKernel p.body → (c : Kind) (n : ℕ) (l : Layer) → Contains (program_wires p) (wire_named c n l)
    → live_in ((body_sharing p.body).live n) l ≡ true
live_at p kernel c n l h =
    let w = wire_only p kernel c n l h in
    subst (λ a. live_in a l ≡ true) (program_gives p kernel n (omega arith) (omega (arith, w.within))) w.live

pub wires_live : (p : Program) → IsKernel p.body → (w : Wire) → Contains (program_wires p) w → IsLive (body_sharing p.body) w
wires_live p kernel (Out s) h = tt
wires_live p kernel (Go n l) h = live_at p kernel IsGo n l h
wires_live p kernel (StatusOf n l) h = live_at p kernel IsStatus n l h
wires_live p kernel (End n l k) h = live_at p kernel (IsEnd k) n l h

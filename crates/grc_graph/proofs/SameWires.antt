-- Tests of layers and of wires say equality.
use Rattle.std.proofs.Common.{ap, arith, refl, sym, true, ◌&&◌, ◌==◌, ◌≡◌}
use Rattle.std.proofs.lemmas.Bool.{and_parts, eq-eqb, eqb-true, false≢true}
use Rattle.grc_graph.specs.Instances.{LayerBefore}
use Rattle.grc_graph.specs.Layers.{Layer, Resumed, Started, same_layer}
use Rattle.grc_graph.specs.Wires.{End, Go, Out, StatusOf, Wire, same_wire}

pub same_layer-true : (k l : Layer) → same_layer k l ≡ true → k ≡ l
same_layer-true Resumed Resumed h = refl
same_layer-true Resumed (Started r) h = absurd (false≢true h)
same_layer-true (Started q) Resumed h = absurd (false≢true h)
same_layer-true (Started q) (Started r) h = ap Started (eqb-true q r h)

pub same_layer-self : (l : Layer) → same_layer l l ≡ true
same_layer-self Resumed = refl
same_layer-self (Started r) = eq-eqb r r refl

pub same_wire-self : (w : Wire) → same_wire w w ≡ true
same_wire-self (Out s) = eq-eqb s s refl
same_wire-self (Go n l) = λ i. eq-eqb n n refl i && same_layer-self l i
same_wire-self (StatusOf n l) = λ i. eq-eqb n n refl i && same_layer-self l i
same_wire-self (End n l k) = λ i. eq-eqb n n refl i && (same_layer-self l i && eq-eqb k k refl i)

pub same_wire-true : (u v : Wire) → same_wire u v ≡ true → u ≡ v
same_wire-true (Out s) (Out t) e = ap Out (eqb-true s t e)
same_wire-true (Out s) (Go n l) e = absurd (false≢true e)
same_wire-true (Out s) (StatusOf n l) e = absurd (false≢true e)
same_wire-true (Out s) (End n l k) e = absurd (false≢true e)
same_wire-true (Go m j) (Out t) e = absurd (false≢true e)
same_wire-true (Go m j) (Go n l) e = let h = and_parts (m == n) (same_layer j l) e in λ i. Go (eqb-true m n h.0 i) (same_layer-true j l h.1 i)
same_wire-true (Go m j) (StatusOf n l) e = absurd (false≢true e)
same_wire-true (Go m j) (End n l k) e = absurd (false≢true e)
same_wire-true (StatusOf m j) (Out t) e = absurd (false≢true e)
same_wire-true (StatusOf m j) (Go n l) e = absurd (false≢true e)
same_wire-true (StatusOf m j) (StatusOf n l) e = let h = and_parts (m == n) (same_layer j l) e in λ i. StatusOf (eqb-true m n h.0 i) (same_layer-true j l h.1 i)
same_wire-true (StatusOf m j) (End n l k) e = absurd (false≢true e)
same_wire-true (End m j i) (Out t) e = absurd (false≢true e)
same_wire-true (End m j i) (Go n l) e = absurd (false≢true e)
same_wire-true (End m j i) (StatusOf n l) e = absurd (false≢true e)
same_wire-true (End m j i) (End n l k) e =
    let h = and_parts (m == n) (same_layer j l && i == k) e in
    let g = and_parts (same_layer j l) (i == k) h.1 in
    λ x. End (eqb-true m n h.0 x) (same_layer-true j l g.0 x) (eqb-true i k g.1 x)

pub same_wire-back : (u w : Wire) → same_wire u w ≡ true → w ≡ u
same_wire-back u w h = sym (same_wire-true u w h)

pub layer_irrefl : (l : Layer) → ¬ LayerBefore l l
layer_irrefl Resumed h = h
layer_irrefl (Started r) h = omega (arith, h)

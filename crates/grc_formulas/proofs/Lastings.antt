-- What is seen of the end of a parallel, by the loop bodies around it.
use Rattle.std.proofs.Common.{◌≡◌, ℕ, ◌<◌, ◌≤◌, ◌==◌, ◌&&◌, ◌||◌, Bool, true, false, length, slice_index_or, Option, Some, None, Box}
use Rattle.std.proofs.Common.{refl, sym, ap, ◌∙◌, ⊎_elim, arith}
use Rattle.std.specs.Prelude.{Vec}
use Rattle.std.specs.Global.{Global}
use Rattle.std.proofs.lemmas.Bool.{cases_lt, eq-eqb}
use Rattle.est_kernel.specs.declared.statements.Kernel.{Kernel}
use Rattle.est_kernel.specs.declared.statements.Kernel.TheVariants as kernels
use Rattle.est_kernel.specs.Plain.{term_of}
use Rattle.est_kernel.specs.Terms.{Term}
use Rattle.grc_graph.specs.declared.loops.LoopBodies.{LoopBodies}
use Rattle.grc_graph.specs.Layers.{Layer, Resumed, Started, layer_above}
use Rattle.grc_graph.specs.LoopKeys.{body_sharing}
use Rattle.grc_graph.specs.LoopTables.{KeepsLoops}
use Rattle.grc_graph.specs.PlainGraphs.{lasting_in}
use Rattle.grc_graph.specs.Readings.{Valuation}
use Rattle.grc_graph.specs.Wires.{End}
use Rattle.grc_graph.proofs.Exports.{above_behind}
use Rattle.grc_formulas.specs.Enclosures.{lasts}

or-none : (a b : Bool) → a ≡ (a || (false && b))
or-none true b = refl
or-none false b = refl

or-itself : (a : Bool) → (a || (true && a)) ≡ (a || (false && a))
or-itself true = refl
or-itself false = refl

pub none-seen : (loops : Option (Vec LoopBodies Global)) (body : Term) (V : Valuation) (n : ℕ) (l : Layer) → loops ≡ None
    → lasting_in loops body V (End n l 1) ≡ (V (End n l 1) || (false && V (End n Resumed 1)))
none-seen loops body V n l e = ap (λ o. lasting_in o body V (End n l 1)) e ∙ or-none (V (End n l 1)) (V (End n Resumed 1))

pub resumed-seen : (loops : Option (Vec LoopBodies Global)) (body : Term) (V : Valuation) (n : ℕ)
    → lasting_in loops body V (End n Resumed 1) ≡ (V (End n Resumed 1) || (false && V (End n Resumed 1)))
resumed-seen None body V n = or-none (V (End n Resumed 1)) (V (End n Resumed 1))
resumed-seen (Some loops) body V n =
    let K = body_sharing body in
    ap (λ b. V (End n Resumed 1) || (b && V (End n Resumed 1))) (eq-eqb (K.resumed n) (K.resumed n) refl) ∙ or-itself (V (End n Resumed 1))

pub started-seen : (loops : Option (Vec LoopBodies Global)) (list : Vec LoopBodies Global) (body : Term) (V : Valuation) (n r : ℕ) (a b : LoopBodies)
    → loops ≡ Some list → KeepsLoops (Some list) body → n < length list.items → r < length list.items → a ≡ slice_index_or list.items n a
    → b ≡ slice_index_or list.items r b
    → lasting_in loops body V (End n (Started r) 1) ≡ (V (End n (Started r) 1) || ((a.inside == b.above) && V (End n Resumed 1)))
started-seen loops list body V n r a b e are low root read read_root =
    let inside = sym (ap (λ (x : LoopBodies). x.inside) read ∙ (are.1 n a low).1) in
    let above = sym (ap (λ (x : LoopBodies). x.above) read_root ∙ (are.1 r b root).0) in
    ap (λ o. lasting_in o body V (End n (Started r) 1)) e
    ∙ λ i. V (End n (Started r) 1) || ((inside i == above i) && V (End n Resumed 1))

-- the root of a layer in which a statement is seen is no lower than the statement
pub root-above : (n r : ℕ) → layer_above n (Started r) ≡ Started r → r ≤ n
root-above n r e = ⊎_elim (λ lt. absurd (apart (sym (above_behind n r lt) ∙ e))) (λ ge. ge) (cases_lt n r)
  where
    apart : Resumed ≡ Started r → ⊥
    apart q = cc

-- of what is no parallel nothing is asked
pub no-parallel : (body : Kernel) → ((x y : Box Kernel Global) → body ≡ kernels.Par x y → ⊥) → (L : Valuation) (n : ℕ) (l : Layer)
    → lasts L (term_of body) n l ≡ true
no-parallel (kernels.Par' _ p _ q) h L n l = absurd (h _ _ refl)
no-parallel _ h L n l = refl

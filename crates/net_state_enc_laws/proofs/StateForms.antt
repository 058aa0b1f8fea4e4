-- A state of a body is a well-formed selection.
use Rattle.std.proofs.Common.{◌≡◌, ℕ, Bool, true, false, not, ◌==◌, List, [], ◌∷◌, refl, sym, ap, ◌∙◌, All}
use Rattle.std.specs.Prelude.{if◌then◌else◌}
use Rattle.std.proofs.lemmas.Bool.{false≢true}
use Rattle.std.proofs.lemmas.List.Elements.{All-head, All-tail}
use Rattle.est_kernel.specs.Terms.{Term}
use Rattle.grc_graph.specs.Selections.{well_formed}
use Rattle.grc_graph.specs.SelectionTrees.{selecting}
use Rattle.grc_graph.proofs.Exports.{holds-none, formed-part}

chosen-false : (t b : Bool) (rest : Bool) → b ≡ false → rest ≡ false → (if t then b else rest) ≡ false
chosen-false true b rest e f = e
chosen-false false b rest e f = f

selecting-nothing : (ms : List ℕ) (bits : List Bool) (n : ℕ) → All (λ (b : Bool). b ≡ false) bits → selecting ms bits n ≡ false
selecting-nothing [] bits n off = refl
selecting-nothing (m ∷ ms) [] n off = refl
selecting-nothing (m ∷ ms) (b ∷ bits) n off =
    chosen-false (n == m) b (selecting ms bits n) (All-head (λ (b : Bool). b ≡ false) b bits off)
    (selecting-nothing ms bits n (All-tail (λ (b : Bool). b ≡ false) b bits off))

pub nothing-is-formed : (ms : List ℕ) (bits : List Bool) (body : Term) → All (λ (b : Bool). b ≡ false) bits → well_formed (selecting ms bits) body 0 ≡ true
nothing-is-formed ms bits body off =
    formed-part (selecting ms bits) body 0
    (λ some. absurd (false≢true (sym (holds-none (selecting ms bits) body 0 (λ m. selecting-nothing ms bits m off)) ∙ some)))

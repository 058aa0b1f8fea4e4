use Rattle.std.proofs.Common.{◌≡◌, ◌||◌, ◌&&◌, Bool, true, false, refl, sym, ap, ◌∙◌, subst, arith}
use Rattle.std.specs.Prelude.{Result, Ok, Err, IfOk}
use Rattle.est_kernel.specs.declared.statements.Kernel.{Kernel}
use Rattle.est_kernel.specs.Plain.{term_of}
use Rattle.grc_graph.specs.Layers.{Resumed}
use Rattle.grc_graph.specs.PlainGraphs.{plain_graph}
use Rattle.grc_graph.specs.PlainInstances.{layer_of}
use Rattle.grc_graph.specs.Readings.{Valuation}
use Rattle.grc_graph.specs.Wires.{End}
use Rattle.grc_formulas.specs.Enclosures.{lasts}
use Rattle.grc_formulas.specs.Holdings.{LastsMade}
use Rattle.grc_formulas.proofs.HoldingSteps.{both-lasts, constant-says, own-lasts}
use Rattle.grc_formulas.proofs.Lastings.{no-parallel}
use Rattle.grc_formulas.proofs.Saying.{extends-refl}
use Rattle.grc_formulas.specs.WordLaws.{late_bounds}
use Rattle.grc_formulas.proofs.held.lasts_source.Goals as goal

-- two things said of what a call that did not fail answers, together
if_both : {T E : Type 0} (r : Result T E) (P Q R : T → Type 0) → ((x : T) → P x → Q x → R x) → IfOk r P → IfOk r Q → IfOk r R
if_both (Ok x) P Q R f p q = f x p q
if_both (Err y) P Q R f p q = tt

or-false : (a b : Bool) → (a || (false && b)) ≡ a
or-false true b = refl
or-false false b = refl

pub returns-then-sees_resumed : goal.returns-then-sees_resumed
returns-then-sees_resumed c =
    let g = c.args.graph.now in
    let n = c.args.path in
    let l = layer_of c.args.layer in
    if_both c.either.result _ _ (LastsMade g (term_of c.args.body.now) n l c.args.rows.now.items c.either.new.rows.items)
    (λ z grown is. both-lasts g c.args.near.now c.find_end.result c.find_end-then-sees_resumed.result c.wire_source-own.result
    c.wire_source-resumed.result
    (term_of c.args.body.now) n l c.args.rows.now.items c.either.new.rows.items z c.requires.names c.find_end.ensures
    c.find_end-then-sees_resumed.ensures c.wire_source-own.ensures c.wire_source-resumed.ensures c.requires.fit
    (c.sees_resumed.ensures.rows c.if-sees_resumed.true)
    (λ V. ap (λ (k : Kernel). lasts ((plain_graph g).lasting V) (term_of k) n l) c.in-Par.is ∙ c.sees_resumed.ensures.sees V
    ∙ ap (λ b. V (End n l 1) || (b && V (End n Resumed 1))) c.if-sees_resumed.true)
    grown is)
    c.either.ensures.rows c.either.ensures.source

pub returns-else-sees_resumed : goal.returns-else-sees_resumed
returns-else-sees_resumed c =
    let g = c.args.graph.now in
    let n = c.args.path in
    let l = layer_of c.args.layer in
    own-lasts g c.args.near.now c.find_end.result c.wire_source-own.result (term_of c.args.body.now) n l c.args.rows.now.items c.requires.names
    c.find_end.ensures c.wire_source-own.ensures c.requires.fit
    (λ V. ap (λ (k : Kernel). lasts ((plain_graph g).lasting V) (term_of k) n l) c.in-Par.is ∙ c.sees_resumed.ensures.sees V
    ∙ ap (λ b. V (End n l 1) || (b && V (End n Resumed 1))) c.if-sees_resumed.false ∙ or-false (V (End n l 1)) (V (End n Resumed 1)))

pub returns-in_default : goal.returns-in_default
returns-in_default c =
    let g = c.args.graph.now in
    record {
      extends = extends-refl (late_bounds g 0) c.args.rows.now.items c.requires.fit;
      few = omega arith;
      says = constant-says g c.args.rows.now.items true _
          (λ t. sym (no-parallel c.args.body.now c.in_default.not-Par ((plain_graph g).lasting t.valuation) c.args.path (layer_of c.args.layer)));
    }

use Rattle.std.proofs.Common.{◌≡◌, map, ◌++◌, codes, refl, sym, ◌∙◌, ap, subst}
use Rattle.std.specs.Prelude.{replicate}
use Rattle.base_types.specs.Relations.{relation_of}
use Rattle.est_kernel.specs.Plain.{term_of}
use Rattle.est_ast.specs.FlatViews.{flat_of}
use Rattle.est_ast.specs.NewSignals.{new_in}
use Rattle.est_dismantle.specs.Expansions.{Expanded, expansion, kernel_body, program_in}
use Rattle.est_dismantle.proofs.WholePrograms.{program-made}
use Rattle.est_dismantle.proofs.programs.program.Goals as goal

pub new_body-requires : goal.new_body-requires
new_body-requires c =
    subst (λ f. expansion (flat_of f) ≡ Expanded (program_in (flat_of f) (kernel_body (flat_of f)))) (sym c.deref.ensures) c.requires

pub returns : goal.returns
returns c =
    let code = c.into_inner-name.result in let flat = flat_of code in let taken = c.deref.ensures ∙ sym c.into_inner-name.ensures in
    program-made flat _ (map (λ s. s.name) c.in_ok-signals.signals.items) (map relation_of code.relations.items) (term_of c.into_inner.result)
    refl
    (c.in_ok-signals.ensures
    ∙ ap (λ n. flat.signals ++ replicate n (codes "x")) (c.in_ok-expanded.ensures.signals ∙ ap (λ f. new_in (flat_of f).body) taken))
    refl
    (ap term_of c.into_inner.ensures ∙ c.in_ok-expanded.ensures.term ∙ ap (λ f. kernel_body (flat_of f)) taken)
    ∙ ap (λ f. program_in (flat_of f) (kernel_body (flat_of f))) c.into_inner-name.ensures

use Rattle.std.proofs.Common.{◌≡◌, ℕ, List, Bor, map, length, ap, ◌∙◌, arith}
use Rattle.std.specs.Prelude.{flat_map}
use Rattle.std.proofs.lemmas.List.{length-map}
use Rattle.est_ast.specs.Views.{module_of, decl_of}
use Rattle.est_expand.specs.Scopes.{main_scope}
use Rattle.est_expand.specs.Flattening.{relation_in, relations_in}
use Rattle.est_expand.specs.Views.{interface_of}
use Rattle.est_expand.proofs.expansion.main_head.Goals as goal

pub returns : goal.returns
returns c =
    let m = module_of c.args.main.now in
    let shown = c.args.shown.now in
    let bytes = λ (name : Bor (List ℕ)). name.now in
    let inputs : c.len.result ≡ length (interface_of shown).inputs = omega (arith, c.len.ensures, shown.inputs.ok, length-map shown.inputs.items bytes) in
    let both : c.len-2.result ≡ length (interface_of shown).both = omega (arith, c.len-2.ensures, shown.both.ok, length-map shown.both.items bytes) in
    let outputs : c.len-3.result ≡ length (interface_of shown).outputs =
    omega (arith, c.len-3.ensures, shown.outputs.ok, length-map shown.outputs.items bytes) in
    let same = c.requires.shown in
    record {
      name = c.in_ok-name.ensures ∙ c.bytes.ensures;
      inputs = inputs ∙ ap (λ f. length f.inputs) same;
      both = both ∙ ap (λ f. length f.both) same;
      outputs = outputs ∙ ap (λ f. length f.outputs) same;
      relations = c.in_ok-relations.ensures
          ∙ ap (λ ds. map (relation_in c.in_ok-scope.scope) (flat_map relations_in (map decl_of ds))) c.deref.ensures.value
          ∙ ap (λ s. map (relation_in s) (flat_map relations_in m.decls)) (c.in_ok-scope.ensures ∙ ap main_scope same);
    }

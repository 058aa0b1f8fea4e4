-- The rows of statements that hold a list.
use Rattle.std.proofs.Common.{◌≡◌, map, ap, ◌∙◌}
use Rattle.std.specs.Prelude.{Option}
use Rattle.std.specs.declared.alloc.Global.{Global}
use Rattle.std.specs.declared.boxed.Box.{Box}
use Rattle.std.specs.declared.vec.Vec.{Vec}
use Rattle.base_types.specs.declared.place.Span.{Span}
use Rattle.est_ast.specs.declared.trees.Case.{Case}
use Rattle.est_ast.specs.declared.trees.Form.{Form}
use Rattle.est_ast.specs.declared.trees.Form.TheVariants as forms
use Rattle.est_ast.specs.declared.trees.Stmt.{Stmt as CodeStmt}
use Rattle.est_ast.specs.FlatTrees as flat
use Rattle.est_ast.specs.Trees.{stmts, cases}
use Rattle.est_ast.specs.Views.{form_of, stmt_of, case_of, part_of}
use Rattle.est_ast.proofs.Exports.{form-Seq, form-Par, form-AwaitCase, form-PresentCase, form-AbortCase}
use Rattle.est_expand.specs.Walks.{give, after}
use Rattle.est_expand.specs.Flattening.{Around, part, each, each_case}
use Rattle.est_expand.specs.declared.place.Source.{Source}
use Rattle.est_expand.specs.Views.{inside_of, form_walk}

module _ (source : Source) (around : Around) (at : Span) (form : Form) where
  pub row-Seq : (v : Vec CodeStmt Global) → form ≡ forms.Seq v
      → form_walk source around at (form_of form) ≡ after (each (inside_of source around) (stmts (map stmt_of v.items)))
      (λ parts. give (flat.At at (flat.Seq parts)))
  row-Seq v is = ap (λ f. form_walk source around at (form_of f)) is ∙ ap (form_walk source around at) (form-Seq v)

  pub row-Par : (v : Vec CodeStmt Global) → form ≡ forms.Par v
      → form_walk source around at (form_of form) ≡ after (each (inside_of source around) (stmts (map stmt_of v.items)))
      (λ parts. give (flat.At at (flat.Par parts)))
  row-Par v is = ap (λ f. form_walk source around at (form_of f)) is ∙ ap (form_walk source around at) (form-Par v)

  pub row-AwaitCase : (v : Vec Case Global) → form ≡ forms.AwaitCase v
      → form_walk source around at (form_of form) ≡ after (each_case around.scope (inside_of source around) (cases (map case_of v.items)))
      (λ cases. give (flat.At at (flat.AwaitCase cases)))
  row-AwaitCase v is = ap (λ f. form_walk source around at (form_of f)) is ∙ ap (form_walk source around at) (form-AwaitCase v)

  pub row-PresentCase : (v : Vec Case Global) (q : Option (Box CodeStmt Global)) → form ≡ forms.PresentCase v q
      → form_walk source around at (form_of form)
      ≡ after (each_case around.scope (inside_of source around) (cases (map case_of v.items)))
      (λ cases. after (part (inside_of source around) (part_of q)) (λ q. give (flat.At at (flat.PresentCase cases q))))
  row-PresentCase v q is = ap (λ f. form_walk source around at (form_of f)) is ∙ ap (form_walk source around at) (form-PresentCase v q)

  pub row-AbortCase : (p : Box CodeStmt Global) (v : Vec Case Global) → form ≡ forms.AbortCase p v
      → form_walk source around at (form_of form)
      ≡ after (inside_of source around (stmt_of p.value)) (λ p. after (each_case around.scope (inside_of source around) (cases (map case_of v.items)))
      (λ cases. give (flat.At at (flat.AbortCase p cases))))
  row-AbortCase p v is = ap (λ f. form_walk source around at (form_of f)) is ∙ ap (form_walk source around at) (form-AbortCase p v)

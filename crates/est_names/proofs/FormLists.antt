-- The lists of forms with cases and another part.
use Rattle.std.proofs.Common.{◌≡◌, ◌++◌, map, ap, ◌∙◌}
use Rattle.std.specs.Prelude.{Option}
use Rattle.std.specs.declared.alloc.Global.{Global}
use Rattle.std.specs.declared.boxed.Box.{Box}
use Rattle.std.specs.declared.vec.Vec.{Vec}
use Rattle.est_ast.specs.declared.trees.Case.{Case}
use Rattle.est_ast.specs.declared.trees.Form.{Form}
use Rattle.est_ast.specs.declared.trees.Form.TheVariants as forms
use Rattle.est_ast.specs.declared.trees.Stmt.{Stmt}
use Rattle.est_ast.specs.Trees.{cases}
use Rattle.est_ast.specs.Views.{form_of, case_of, part_of, stmt_of}
use Rattle.est_ast.proofs.Exports.{form-PresentCase, form-AbortCase}
use Rattle.est_names.specs.NameFaults.{signal_lists, signal_lists_in, signal_lists_cases, signal_lists_part}

pub signal_lists-PresentCase : (form : Form) (v : Vec Case Global) (q : Option (Box Stmt Global))
    → form ≡ forms.PresentCase v q
    → signal_lists_in (form_of form) ≡ signal_lists_cases (cases (map case_of v.items)) ++ signal_lists_part (part_of q)
signal_lists-PresentCase form v q is = ap (λ f. signal_lists_in (form_of f)) is ∙ ap signal_lists_in (form-PresentCase v q)

pub signal_lists-AbortCase : (form : Form) (p : Box Stmt Global) (v : Vec Case Global)
    → form ≡ forms.AbortCase p v
    → signal_lists_in (form_of form) ≡ signal_lists (stmt_of p.value) ++ signal_lists_cases (cases (map case_of v.items))
signal_lists-AbortCase form p v is = ap (λ f. signal_lists_in (form_of f)) is ∙ ap signal_lists_in (form-AbortCase p v)

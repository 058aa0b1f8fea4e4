use Rattle.std.proofs.Common.{◌≡◌, ℕ, List, Bor, Ok, map, sym, ap, ◌∙◌}
use Rattle.std.specs.Prelude.{Result}
use Rattle.est_ast.specs.FlatTrees as flat
use Rattle.est_ast.specs.Trees.{Module, SourceProgram}
use Rattle.est_ast.specs.Views.{module_of}
use Rattle.est_expand.specs.Faults.{FlattenFault}
use Rattle.est_expand.specs.Flattening.{flat_program, flattened, main_flattening}
use Rattle.est_expand.specs.Scopes.{main_interface, main_signals}
use Rattle.est_expand.specs.Walks.{WalkCounts, beginning, meet_signals, on_ok}
use Rattle.est_expand.proofs.expansion.flat_main.Goals as goal

flattens : (modules : SourceProgram) (main : Module) (names : List (List ℕ)) (first : ℕ) (none met after : WalkCounts) (body : flat.Stmt) (whole : flat.Flat)
    → names ≡ main_signals (main_interface main) → none ≡ beginning → meet_signals names none ≡ Ok (first, met)
    → main_flattening modules main met ≡ Ok (body, after) → whole ≡ flat_program main body after → flattened modules main ≡ Ok whole
flattens modules main names first none met after body whole same begun meets walks is =
    let last : flat.Stmt × WalkCounts → Result flat.Flat FlattenFault = λ done. Ok (flat_program main done.0 done.1) in
    let walk : ℕ × WalkCounts → Result (flat.Stmt × WalkCounts) FlattenFault = λ done. main_flattening modules main done.1 in
    let counted : meet_signals (main_signals (main_interface main)) beginning ≡ Ok (first, met) =
    ap (λ ns. meet_signals ns beginning) (sym same) ∙ ap (meet_signals names) (sym begun) ∙ meets in
    ap (λ r. on_ok (on_ok r walk) last) counted ∙ ap (λ r. on_ok r last) walks ∙ ap Ok (sym is)

pub returns : goal.returns
returns c =
    let bytes = λ (name : Bor (List ℕ)). name.now in
    flattens (map module_of c.args.modules.now) (module_of c.args.main.now) (map bytes c.deref.result.now) _ _ _ _ _ _
    (ap (map bytes) c.deref.ensures.value ∙ c.in_ok-main_names.ensures ∙ ap main_signals c.in_ok-shown.ensures)
    c.nothing-met.ensures c.in_ok-meet_signals.ensures.walks c.in_ok-body.ensures (c.assembled.ensures (module_of c.args.main.now) c.in_ok-head.ensures)

-- Lists that a walk finds part by part.
use Rattle.std.proofs.Common.{◌≡◌, List, [], ◌∷◌, ◌++◌, map, refl, ap, sym, ◌∙◌, Result, Ok, Err}
use Rattle.std.specs.declared.alloc.Global.{Global}
use Rattle.std.specs.declared.vec.Vec.{Vec}
use Rattle.est_ast.specs.declared.trees.SigExpr.{SigExpr}
use Rattle.est_ast.specs.declared.trees.SigExpr.TheVariants as nodes
use Rattle.est_ast.specs.FlatTrees as flat
use Rattle.est_ast.specs.Trees.{exprs}
use Rattle.est_ast.specs.Views.{expr_of}
use Rattle.est_ast.proofs.Exports.{expr-And, expr-Or}
use Rattle.est_expand.specs.Faults.{FlattenFault}
use Rattle.est_expand.specs.Scopes.{NameScope}
use Rattle.est_expand.specs.Walks.{on_ok}
use Rattle.est_expand.specs.Tests.{test, tests}

-- a fault stays the fault, and a value goes on
pub fault_stays : {A B : Type 0} (r : Result A FlattenFault) (next : A → Result B FlattenFault) (fault : FlattenFault) → r ≡ Err fault
    → on_ok r next ≡ Err fault
fault_stays r next fault is = ap (λ r. on_ok r next) is

pub value_passes : {A B : Type 0} (r : Result A FlattenFault) (next : A → Result B FlattenFault) (value : A) → r ≡ Ok value → on_ok r next ≡ next value
value_passes r next value is = ap (λ r. on_ok r next) is

-- tests in front of others
abbrev pub before_exprs : List flat.Expr → flat.Exprs → flat.Exprs
before_exprs [] others = others
before_exprs (e ∷ es) others = flat.MoreExprs e (before_exprs es others)

abbrev pub exprs_behind : List flat.Expr → Result flat.Exprs FlattenFault → Result flat.Exprs FlattenFault
exprs_behind es found = on_ok found (λ others. Ok (before_exprs es others))

pub before_exprs-push : (es : List flat.Expr) (e : flat.Expr) (others : flat.Exprs) →
    before_exprs (es ++ e ∷ []) others ≡ before_exprs es (flat.MoreExprs e others)
before_exprs-push [] e others = refl
before_exprs-push (d ∷ es) e others = ap (flat.MoreExprs d) (before_exprs-push es e others)

pub before_exprs-all : (es : List flat.Expr) → before_exprs es flat.NoExprs ≡ flat.exprs es
before_exprs-all [] = refl
before_exprs-all (e ∷ es) = ap (flat.MoreExprs e) (before_exprs-all es)

-- one more test was found
pub exprs_behind-step : (es : List flat.Expr) (e : flat.Expr) (found : Result flat.Exprs FlattenFault)
    → exprs_behind es (on_ok found (λ others. Ok (flat.MoreExprs e others))) ≡ exprs_behind (es ++ e ∷ []) found
exprs_behind-step es e (Ok others) = ap Ok (sym (before_exprs-push es e others))
exprs_behind-step es e (Err fault) = refl

-- a list of tests
pub test-And : (scope : NameScope) (e : SigExpr) (v : Vec SigExpr Global) → e ≡ nodes.And v
    → test scope (expr_of e) ≡ on_ok (tests scope (exprs (map expr_of v.items))) (λ parts. Ok (flat.And parts))
test-And scope e v is = ap (λ e. test scope (expr_of e)) is ∙ ap (test scope) (expr-And v)

pub test-Or : (scope : NameScope) (e : SigExpr) (v : Vec SigExpr Global) → e ≡ nodes.Or v
    → test scope (expr_of e) ≡ on_ok (tests scope (exprs (map expr_of v.items))) (λ parts. Ok (flat.Or parts))
test-Or scope e v is = ap (λ e. test scope (expr_of e)) is ∙ ap (test scope) (expr-Or v)

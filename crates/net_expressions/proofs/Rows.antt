-- Inner: the plain forms of the nodes that hold a list, one row a node.
use Rattle.std.proofs.Common.{◌≡◌, ℕ, Bool, List, [], ◌∷◌, ◌++◌, map, refl, ◌∙◌, ap}
use Rattle.std.specs.Prelude.{flat_map}
use Rattle.std.proofs.lemmas.List.{map-append, append-nil}
use Rattle.std.specs.declared.alloc.Global.{Global}
use Rattle.std.specs.declared.boxed.Box.{Box}
use Rattle.std.specs.declared.vec.Vec.{Vec}
use Rattle.net_expressions.specs.declared.trees.Expr.{Expr, Row_of-Expr, end_of-Expr, more_of-Expr, items-the_row-Expr, items_hidden-the_row-Expr-0}
use Rattle.net_expressions.specs.declared.trees.Expr.TheBlock.{hidden-the_row-Expr-0}
use Rattle.net_expressions.specs.declared.trees.Expr.TheVariants as exprs
use Rattle.net_expressions.specs.Trees.{And, Or, MoreExprs}
use Rattle.net_expressions.specs.Views.{expr_of, exprs_of}
use Rattle.net_expressions.specs.Names.{names_in, all_names}
use Rattle.net_expressions.specs.Plain.{names_at}
use Rattle.net_expressions.specs.Reading as reading

row-exprs : {n : _} (row : Row_of-Expr n) → exprs_of row ≡ reading.exprs (map expr_of (items-the_row-Expr _ row))
row-exprs end_of-Expr = refl
row-exprs (more_of-Expr e row) = ap (MoreExprs (expr_of e)) (row-exprs row)

pub expr-And : (v : Vec Expr Global) → expr_of (exprs.And v) ≡ And (reading.exprs (map expr_of v.items))
expr-And v = ap And (row-exprs (hidden-the_row-Expr-0 v) ∙ ap (λ l. reading.exprs (map expr_of l)) (items_hidden-the_row-Expr-0 v))

pub expr-Or : (v : Vec Expr Global) → expr_of (exprs.Or v) ≡ Or (reading.exprs (map expr_of v.items))
expr-Or v = ap Or (row-exprs (hidden-the_row-Expr-0 v) ∙ ap (λ l. reading.exprs (map expr_of l)) (items_hidden-the_row-Expr-0 v))

pub ruleset list_rows = (expr-And, expr-Or)

-- ---- their names

names-list : (l : List Expr) → all_names (reading.exprs (map expr_of l)) ≡ flat_map names_at l
unfolding names_at
names-list [] = refl
names-list (e ∷ l) = ap (λ k. names_in (expr_of e) ++ k) (names-list l)

pub names-Name : (name : List ℕ) → names_at (exprs.Name name) ≡ name ∷ []
unfolding names_at
names-Name name = refl

pub names-Const : (value : Bool) → names_at (exprs.Const value) ≡ []
unfolding names_at
names-Const value = refl

pub names-Not : (e : Box Expr Global) → names_at (exprs.Not e) ≡ names_at e.value
unfolding names_at
names-Not e = refl

pub names-And : (v : Vec Expr Global) → names_at (exprs.And v) ≡ flat_map names_at v.items
unfolding names_at
names-And v = ap names_in (expr-And v) ∙ names-list v.items

pub names-Or : (v : Vec Expr Global) → names_at (exprs.Or v) ≡ flat_map names_at v.items
unfolding names_at
names-Or v = ap names_in (expr-Or v) ∙ names-list v.items

pub names-is : (e : Expr) → names_at e ≡ names_in (expr_of e)
unfolding names_at
names-is e = refl

pub ruleset name_rows = (names-Name, names-Const, names-Not, names-And, names-Or, map-append, append-nil)

pub ruleset names_told = (names-is, append-nil)

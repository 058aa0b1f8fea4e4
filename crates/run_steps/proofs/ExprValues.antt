-- The values of expressions, one row a node, and of parts that are joined; and which names a value depends on.
use Rattle.std.proofs.Common.{◌≡◌, ℕ, Bool, true, false, not, ◌&&◌, ◌||◌, List, [], ◌∷◌, ◌++◌, map, refl, ap, ◌∙◌, arith, Contains}
use Rattle.std.proofs.lemmas.List.Elements.{Contains-append_left, Contains-append_right}
use Rattle.std.specs.declared.alloc.Global.{Global}
use Rattle.std.specs.declared.boxed.Box.{Box}
use Rattle.std.specs.declared.vec.Vec.{Vec}
use Rattle.net_expressions.specs.declared.trees.Expr.{Expr}
use Rattle.net_expressions.specs.declared.trees.Expr.TheVariants as nodes
use Rattle.net_expressions.specs.Values.{value_of, all_of, any_of}
use Rattle.net_expressions.specs.Names.{names_in, all_names}
use Rattle.net_expressions.specs.Trees.{Expr as Tree, Exprs, Name, Const, Not, And, Or, NoExprs, MoreExprs}
use Rattle.net_expressions.specs.Reading.{exprs}
use Rattle.net_expressions.specs.Views.{expr_of}
use Rattle.net_expressions.proofs.Exports.{expr-And, expr-Or}
use Rattle.run_steps.specs.Slots.{slot_in, value_at, memory_in}
use Rattle.run_steps.specs.Plans.{joined}
use Rattle.run_steps.specs.declared.term.Junction.{Junction}
use Rattle.run_steps.specs.declared.term.Junction.TheVariants as junctions
use Rattle.run_steps.specs.Expressions.{expr_value, joined_all, parts_value}

all-list : (names : List (List ℕ)) (values : List Bool) (l : List Expr)
    → all_of (memory_in names values) (exprs (map expr_of l)) ≡ joined_all junctions.And (map (λ e. expr_value names e values) l)
unfolding expr_value
all-list names values [] = refl
all-list names values (e ∷ l) = ap (λ b. value_of (memory_in names values) (expr_of e) && b) (all-list names values l)

any-list : (names : List (List ℕ)) (values : List Bool) (l : List Expr)
    → any_of (memory_in names values) (exprs (map expr_of l)) ≡ joined_all junctions.Or (map (λ e. expr_value names e values) l)
unfolding expr_value
any-list names values [] = refl
any-list names values (e ∷ l) = ap (λ b. value_of (memory_in names values) (expr_of e) || b) (any-list names values l)

pub value-Name : (names : List (List ℕ)) (name : List ℕ) (values : List Bool) → expr_value names (nodes.Name name) values ≡ value_at values (slot_in names name)
unfolding expr_value
value-Name names name values = refl

pub value-Const : (names : List (List ℕ)) (value : Bool) (values : List Bool) → expr_value names (nodes.Const value) values ≡ value
unfolding expr_value
value-Const names value values = refl

pub value-Not : (names : List (List ℕ)) (e : Box Expr Global) (values : List Bool)
    → expr_value names (nodes.Not e) values ≡ not (expr_value names e.value values)
unfolding expr_value
value-Not names e values = refl

pub value-And : (names : List (List ℕ)) (v : Vec Expr Global) (values : List Bool)
    → expr_value names (nodes.And v) values ≡ parts_value names junctions.And v.items values
unfolding expr_value
value-And names v values = ap (value_of (memory_in names values)) (expr-And v) ∙ all-list names values v.items

pub value-Or : (names : List (List ℕ)) (v : Vec Expr Global) (values : List Bool)
    → expr_value names (nodes.Or v) values ≡ parts_value names junctions.Or v.items values
unfolding expr_value
value-Or names v values = ap (value_of (memory_in names values)) (expr-Or v) ∙ any-list names values v.items

pub value-is : (names : List (List ℕ)) (e : Expr) (values : List Bool) → expr_value names e values ≡ value_of (memory_in names values) (expr_of e)
unfolding expr_value
value-is names e values = refl

-- ---- one part more

and-more : (bs : List Bool) (b : Bool) → joined_all junctions.And (bs ++ b ∷ []) ≡ (joined_all junctions.And bs && b)
and-more [] true = refl
and-more [] false = refl
and-more (true ∷ bs) b = and-more bs b
and-more (false ∷ bs) b = refl

or-more : (bs : List Bool) (b : Bool) → joined_all junctions.Or (bs ++ b ∷ []) ≡ (joined_all junctions.Or bs || b)
or-more [] true = refl
or-more [] false = refl
or-more (true ∷ bs) b = refl
or-more (false ∷ bs) b = or-more bs b

pub joined-more : (junction : Junction) (bs : List Bool) (b : Bool) → joined_all junction (bs ++ b ∷ []) ≡ joined junction (joined_all junction bs) b
joined-more junctions.And bs b = and-more bs b
joined-more junctions.Or bs b = or-more bs b

pub joined-one : (junction : Junction) (b : Bool) → joined_all junction (b ∷ []) ≡ b
joined-one junctions.And true = refl
joined-one junctions.And false = refl
joined-one junctions.Or true = refl
joined-one junctions.Or false = refl

-- ---- valuations that agree on the names in an expression give it the same value

mutual
  pub value-local : (u v : List ℕ → Bool) (e : Tree) → ((x : List ℕ) → Contains (names_in e) x → u x ≡ v x) → value_of u e ≡ value_of v e
  value-local u v (Name name) same = same name (0, omega arith, refl)
  value-local u v (Const value) same = refl
  value-local u v (Not e) same = ap not (value-local u v e same)
  value-local u v (And parts) same = all-local u v parts same
  value-local u v (Or parts) same = any-local u v parts same

  all-local : (u v : List ℕ → Bool) (es : Exprs) → ((x : List ℕ) → Contains (all_names es) x → u x ≡ v x) → all_of u es ≡ all_of v es
  all-local u v NoExprs same = refl
  all-local u v (MoreExprs e others) same =
      ap (λ b. b && all_of u others) (value-local u v e (λ x has. same x (Contains-append_left (names_in e) (all_names others) x has)))
      ∙ ap (λ b. value_of v e && b) (all-local u v others (λ x has. same x (Contains-append_right (names_in e) (all_names others) x has)))

  any-local : (u v : List ℕ → Bool) (es : Exprs) → ((x : List ℕ) → Contains (all_names es) x → u x ≡ v x) → any_of u es ≡ any_of v es
  any-local u v NoExprs same = refl
  any-local u v (MoreExprs e others) same =
      ap (λ b. b || any_of u others) (value-local u v e (λ x has. same x (Contains-append_left (names_in e) (all_names others) x has)))
      ∙ ap (λ b. value_of v e || b) (any-local u v others (λ x has. same x (Contains-append_right (names_in e) (all_names others) x has)))

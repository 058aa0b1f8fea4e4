-- What no text spells, by hand: the trees that the grammar has no production for.
use Rattle.std.proofs.Common.{ℕ, List, []}
use Rattle.base_types.specs.declared.place.Span.{Span}
use Rattle.est_ast.specs.declared.tokens.Token.{Token}
use Rattle.est_ast.specs.Trees.{Expr, Not, And, Or, Round, Exprs, NoExprs, MoreExprs, Immediate, Count, Seq, Par, Stmts, NoCases, Excludes}
use Rattle.est_ast.specs.Grammar.{SpellsExpr, Disjunction, Conjunction, Negation, SpellsEvent, SpellsCount, SpellsTest, SpellsItem, SpellsCases}
use Rattle.est_ast.specs.Grammar.{SpellsRelation, SpellsProgram}

module _ (tokens : List Token) where
  no_conjunction_below_a_not : (parts : Exprs) → SpellsExpr Negation (And parts) tokens → ⊥
  no_conjunction_below_a_not parts h = h

  no_disjunction_below_a_not : (parts : Exprs) → SpellsExpr Negation (Or parts) tokens → ⊥
  no_disjunction_below_a_not parts h = h

  no_disjunction_in_a_conjunction : (parts : Exprs) → SpellsExpr Conjunction (Or parts) tokens → ⊥
  no_disjunction_in_a_conjunction parts h = h

  no_conjunction_of_none : SpellsExpr Disjunction (And NoExprs) tokens → ⊥
  no_conjunction_of_none h = h

  no_conjunction_of_one : (e : Expr) → SpellsExpr Disjunction (And (MoreExprs e NoExprs)) tokens → ⊥
  no_conjunction_of_one e h = h.second

  no_negated_event : (e : Expr) → SpellsEvent (Not e) tokens → ⊥
  no_negated_event e h = h

  no_event_in_round_brackets : (e : Expr) → SpellsEvent (Round e) tokens → ⊥
  no_event_in_round_brackets e h = h

  no_event_of_parts : (parts : Exprs) → SpellsEvent (And parts) tokens → ⊥
  no_event_of_parts parts h = h

  no_immediate_count : (event : Expr) → SpellsCount (Immediate event) tokens → ⊥
  no_immediate_count event h = h

  no_counted_test : (count : ℕ) (span : Span) (event : Expr) → SpellsTest (Count count span event) tokens → ⊥
  no_counted_test count span event h = h

  no_list_is_an_item : (parts : Stmts) → SpellsItem (Seq parts) tokens → ⊥
  no_list_is_an_item parts h = h

  no_branches_are_an_item : (parts : Stmts) → SpellsItem (Par parts) tokens → ⊥
  no_branches_are_an_item parts h = h

  no_case_at_all : SpellsCases NoCases tokens → ⊥
  no_case_at_all h = h

  no_exclusion_of_none : SpellsRelation (Excludes []) tokens → ⊥
  no_exclusion_of_none h = h

  no_module_at_all : SpellsProgram [] tokens → ⊥
  no_module_at_all h = h

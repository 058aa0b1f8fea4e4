-- To believe: the grammar of expressions, over tokens of any kind, given the sign of each. In words, with `~`, `&` and
-- `|` for the operators:
--
--   expr = conj { "|" conj }
--   conj = neg { "&" neg }
--   neg  = "~" neg | NAME | BIT | "(" expr ")"
use Rattle.std.specs.Prelude.{ℕ, suc, max, Bool, List}
use Rattle.base_reader.specs.Languages.{Empty, One, Then, Led}
use Rattle.net_expressions.specs.Trees.{Expr, Name, Const, Exprs, NoExprs, MoreExprs}
use Rattle.net_expressions.specs.Trees as trees
use Rattle.net_expressions.specs.Signs.{Sign, NotSign, OpenSign, CloseSign, AndSign, OrSign, signed, named, constant}

-- ---- what is written

mutual
  -- an expression with its brackets; a list of one part is that part
  pub data Written : Type 0 where
    Word : (name : List ℕ) → Written
    Bit : (value : Bool) → Written
    Not : (e : Written) → Written
    Round : (e : Written) → Written
    And : (parts : Writtens) → Written
    Or : (parts : Writtens) → Written

  pub data Writtens : Type 0 where
    NoneWritten : Writtens
    MoreWritten : (e : Written) (others : Writtens) → Writtens

-- brackets leave no trace
abbrev mutual
  pub meant : Written → Expr
  meant (Word name) = Name name
  meant (Bit value) = Const value
  meant (Not e) = trees.Not (meant e)
  meant (Round e) = meant e
  meant (And parts) = trees.And (all_meant parts)
  meant (Or parts) = trees.Or (all_meant parts)

  pub all_meant : Writtens → Exprs
  all_meant NoneWritten = NoExprs
  all_meant (MoreWritten e others) = MoreExprs (meant e) (all_meant others)

-- how many negations and brackets stand one in another
abbrev mutual
  pub written_nesting : Written → ℕ
  written_nesting (Word name) = 0
  written_nesting (Bit value) = 0
  written_nesting (Not e) = suc (written_nesting e)
  written_nesting (Round e) = suc (written_nesting e)
  written_nesting (And parts) = all_nesting parts
  written_nesting (Or parts) = all_nesting parts

  pub all_nesting : Writtens → ℕ
  all_nesting NoneWritten = 0
  all_nesting (MoreWritten e others) = max (written_nesting e) (all_nesting others)

-- ---- how it is spelled

-- expr, conj and neg
pub data Tier : Type 0 where
  Disjunction : Tier
  Conjunction : Tier
  Negation : Tier

abbrev mutual
  pub SpellsExpr : {K : Type 0} → (K → Sign) → Tier → Written → List K → Type 0
  -- NAME
  SpellsExpr sign tier (Word n) = One (named sign) n
  -- BIT
  SpellsExpr sign tier (Bit value) = One (constant sign) value
  -- "~" neg
  SpellsExpr sign tier (Not e) = Led (signed sign NotSign) (λ _. SpellsExpr sign Negation e)
  -- "(" expr ")"
  SpellsExpr sign tier (Round e) =
      Led (signed sign OpenSign) (λ _. Then (SpellsExpr sign Disjunction e) (One (signed sign CloseSign) tt))
  -- neg "&" neg { "&" neg }
  SpellsExpr sign Disjunction (And parts) = SpellsExprs sign AndSign Negation parts
  SpellsExpr sign Conjunction (And parts) = SpellsExprs sign AndSign Negation parts
  SpellsExpr sign Negation (And parts) = λ _. ⊥
  -- conj "|" conj { "|" conj }
  SpellsExpr sign Disjunction (Or parts) = SpellsExprs sign OrSign Conjunction parts
  SpellsExpr sign Conjunction (Or parts) = λ _. ⊥
  SpellsExpr sign Negation (Or parts) = λ _. ⊥

  -- two parts or more, with the operator between them
  pub SpellsExprs : {K : Type 0} → (K → Sign) → Sign → Tier → Writtens → List K → Type 0
  SpellsExprs sign mark tier NoneWritten = λ _. ⊥
  SpellsExprs sign mark tier (MoreWritten e others) =
      Then (SpellsExpr sign tier e) (SpellsNextExprs sign mark tier others)

  pub SpellsNextExprs : {K : Type 0} → (K → Sign) → Sign → Tier → Writtens → List K → Type 0
  SpellsNextExprs sign mark tier NoneWritten = λ _. ⊥
  SpellsNextExprs sign mark tier (MoreWritten e others) =
      Then (Led (signed sign mark) (λ _. SpellsExpr sign tier e)) (SpellsOtherExprs sign mark tier others)

  pub SpellsOtherExprs : {K : Type 0} → (K → Sign) → Sign → Tier → Writtens → List K → Type 0
  SpellsOtherExprs sign mark tier NoneWritten = Empty
  SpellsOtherExprs sign mark tier (MoreWritten e others) =
      Then (Led (signed sign mark) (λ _. SpellsExpr sign tier e)) (SpellsOtherExprs sign mark tier others)

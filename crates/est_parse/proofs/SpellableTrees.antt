-- Inner: each tree that the grammar gives to tokens is spellable.
use Rattle.std.proofs.Common.{inl, inr, List, [], ◌∷◌, arith}
use Rattle.std.specs.List.{All}
use Rattle.std.proofs.lemmas.List.Elements.{All-nil, All-cons}
use Rattle.est_ast.specs.declared.tokens.Token.{Token}
use Rattle.est_ast.specs.declared.tokens.Reserved.{Reserved}
use Rattle.est_ast.specs.declared.tokens.Reserved.TheVariants as words
use Rattle.est_ast.specs.declared.tokens.Mark.{Mark}
use Rattle.est_ast.specs.declared.tokens.Mark.TheVariants as marks
use Rattle.est_ast.specs.Trees.{Expr, Tick, Sig, Not, And, Or, Round, Square, Exprs, NoExprs, MoreExprs, Delay, Plain, Immediate, Count, Stmt, At, Form}
use Rattle.est_ast.specs.Trees.{Nothing, Pause, Halt, Emit, Sustain, Await, AwaitCase, Present, PresentCase, Loop, LoopEach, Every, Repeat, Abort, AbortCase}
use Rattle.est_ast.specs.Trees.{WeakAbort, Suspend, Trap, Exit, Signal, Run, Seq, Par, Group, Part, Missing, Written, Handler, NoHandler, Handled, Stmts}
use Rattle.est_ast.specs.Trees.{NoStmts, MoreStmts, Cases, NoCases, MoreCases, NamedRelation, Implies, Excludes, Decl, Input, InputOutput, Output, Relations}
use Rattle.est_ast.specs.Trees.{Module}
use Rattle.est_ast.specs.Grammar.{mark, name, Listed, TestTier, Disjunction, Conjunction, Negation, SpellsExpr, SpellsExprs, SpellsOtherExprs, SpellsEvent}
use Rattle.est_ast.specs.Grammar.{SpellsDelay, SpellsCount, SpellsTest, Level, Whole, Line, Item, Spells, SpellsSeq, SpellsPar, SpellsStmts}
use Rattle.est_ast.specs.Grammar.{SpellsOtherStmts, SpellsItem, SpellsPart, SpellsDo, SpellsHandler, SpellsCases, SpellsOtherCases, SpellsRelation, SpellsDecl}
use Rattle.est_ast.specs.Grammar.{SpellsModule}
use Rattle.base_reader.specs.Languages.{Empty, One, Maybe, Parted, Many}
use Rattle.base_reader.specs.Languages.{Loop as Steps}
use Rattle.est_parse.specs.Laws.{TreesAreSpellable}
use Rattle.est_parse.specs.Spellable.{AreExprs, AreStmts, IsListed, IsExpr, EachExpr, IsEvent, IsDelay, IsCount, IsTest, IsStmt, IsForm, IsPart, IsHandler}
use Rattle.est_parse.specs.Spellable.{EachStmt, AreCases, EachCase, IsRelation, IsDecl, IsModule}

mutual
  expr-is : (tier : TestTier) (e : Expr) (tokens : List Token) → SpellsExpr tier e tokens → IsExpr tier e
  expr-is tier (Tick span) tokens m = tt
  expr-is tier (Sig n) tokens m = tt
  expr-is tier (Not e) tokens m = expr-is Negation e m.rest m.behind
  expr-is tier (Round e) tokens m = expr-is Disjunction e m.behind.front m.behind.first
  expr-is tier (Square e) tokens m = expr-is Disjunction e m.behind.front m.behind.first
  expr-is Disjunction (And parts) tokens m = exprs-are words.And Negation parts tokens m
  expr-is Conjunction (And parts) tokens m = exprs-are words.And Negation parts tokens m
  expr-is Negation (And parts) tokens m = absurd m
  expr-is Disjunction (Or parts) tokens m = exprs-are words.Or Conjunction parts tokens m
  expr-is Conjunction (Or parts) tokens m = absurd m
  expr-is Negation (Or parts) tokens m = absurd m

  exprs-are : (w : Reserved) (tier : TestTier) (parts : Exprs) (tokens : List Token) → SpellsExprs w tier parts tokens → AreExprs parts × EachExpr tier parts
  exprs-are w tier NoExprs tokens m = absurd m
  exprs-are w tier (MoreExprs e NoExprs) tokens m = absurd m.second
  exprs-are w tier (MoreExprs e (MoreExprs next others)) tokens m = (
    tt,
    (
      expr-is tier e m.front m.first,
      (
        expr-is tier next m.second.first.rest m.second.first.behind,
        each-expr w tier others m.second.back m.second.second,
      ),
    ),
  )

  each-expr : (w : Reserved) (tier : TestTier) (others : Exprs) (tokens : List Token) → SpellsOtherExprs w tier others tokens → EachExpr tier others
  each-expr w tier NoExprs tokens m = tt
  each-expr w tier (MoreExprs e others) tokens m = (expr-is tier e m.first.rest m.first.behind, each-expr w tier others m.back m.second)

event-is : (e : Expr) (tokens : List Token) → SpellsEvent e tokens → IsEvent e
event-is (Tick span) tokens m = tt
event-is (Sig n) tokens m = tt
event-is (Square e) tokens m = expr-is Disjunction e m.behind.front m.behind.first
event-is (Not e) tokens m = absurd m
event-is (And parts) tokens m = absurd m
event-is (Or parts) tokens m = absurd m
event-is (Round e) tokens m = absurd m

delay-is : (delay : Delay) (tokens : List Token) → SpellsDelay delay tokens → IsDelay delay
delay-is (Plain event) tokens m = event-is event tokens m
delay-is (Immediate event) tokens m = event-is event m.rest m.behind
delay-is (Count count span event) tokens m = event-is event m.back m.second

count-is : (delay : Delay) (tokens : List Token) → SpellsCount delay tokens → IsCount delay
count-is (Plain event) tokens m = event-is event tokens m
count-is (Immediate event) tokens m = absurd m
count-is (Count count span event) tokens m = event-is event m.back m.second

test-is : (delay : Delay) (tokens : List Token) → SpellsTest delay tokens → IsTest delay
test-is (Plain event) tokens m = event-is event tokens m
test-is (Immediate event) tokens m = event-is event m.rest m.behind
test-is (Count count span event) tokens m = absurd m

listed-is : {A : Type 0} (m : Mark) (L : A → List Token → Type 0) (values : List A) (tokens : List Token) → Listed (mark m) L values tokens → IsListed values
listed-is m L [] tokens member = absurd member
listed-is m L (v ∷ others) tokens member = tt

-- what may stand behind the last part of a list
abbrev pub last_of : Level → List Token → Type 0
last_of Item = Maybe (mark marks.Semicolon)
last_of Line = Empty
last_of Whole = Empty

mutual
  stmt-is : (level : Level) (p : Stmt) (tokens : List Token) → Spells level p tokens → IsStmt level p
  stmt-is Item (At span form) tokens m = item-is Item form tokens m.1
  stmt-is Line (At span form) tokens (inl m) = item-is Line form m.front m.first.1
  stmt-is Line (At span form) tokens (inr m) = seq-is Line (λ parts are. are) form tokens m.1
  stmt-is Whole (At span form) tokens (inl (inl m)) = item-is Whole form m.front m.first.1
  stmt-is Whole (At span form) tokens (inl (inr m)) = seq-is Whole (λ parts are. are) form tokens m.1
  stmt-is Whole (At span form) tokens (inr m) = par-is form tokens m.1

  item-is : (level : Level) (form : Form) (tokens : List Token) → SpellsItem form tokens → IsForm level form
  item-is level Nothing tokens m = tt
  item-is level Pause tokens m = tt
  item-is level Halt tokens m = tt
  item-is level (Emit n) tokens m = tt
  item-is level (Sustain n) tokens m = tt
  item-is level (Exit n) tokens m = tt
  item-is level (Run n renames) tokens m = tt
  item-is level (Group p) tokens m = stmt-is Whole p m.behind.front m.behind.first
  item-is level (Await delay q) tokens m = (delay-is delay m.behind.front m.behind.first, do-is words.Await q m.behind.back m.behind.second)
  item-is level (AwaitCase cases) tokens m = cases-are cases m.behind.front m.behind.first
  item-is level (Present e p q) tokens m =
      let b = m.behind.second in
      (expr-is Disjunction e m.behind.front m.behind.first, part-is words.Then p b.front b.first, part-is words.Else q b.second.front b.second.first)
  item-is level (PresentCase cases q) tokens m =
      (cases-are cases m.behind.front m.behind.first, part-is words.Else q m.behind.second.front m.behind.second.first)
  item-is level (Loop p) tokens m = stmt-is Whole p m.behind.front m.behind.first
  item-is level (LoopEach p delay) tokens m = (stmt-is Whole p m.behind.front m.behind.first, count-is delay m.behind.second.rest m.behind.second.behind)
  item-is level (Every delay p) tokens m =
      let b = m.behind.second.behind in (delay-is delay m.behind.front m.behind.first, stmt-is Whole p b.front b.first)
  item-is level (Repeat count span p) tokens m =
      let b = m.second.behind.second.behind in stmt-is Whole p b.front b.first
  item-is level (Abort p delay q) tokens m =
      let b = m.behind.second.behind in (stmt-is Whole p m.behind.front m.behind.first, delay-is delay b.front b.first, do-is words.Abort q b.back b.second)
  item-is level (AbortCase p cases) tokens m =
      let b = m.behind.second.behind in (stmt-is Whole p m.behind.front m.behind.first, cases-are cases b.front b.first)
  item-is level (WeakAbort p delay) tokens m =
      let b = m.behind.behind in (stmt-is Whole p b.front b.first, delay-is delay b.second.rest b.second.behind)
  item-is level (Suspend p delay) tokens m = (stmt-is Whole p m.behind.front m.behind.first, test-is delay m.behind.second.rest m.behind.second.behind)
  item-is level (Trap n p handler) tokens m =
      let b = m.behind.second.behind in (stmt-is Whole p b.front b.first, handler-is handler b.second.front b.second.first)
  item-is level (Signal names p) tokens m =
      let b = m.behind.second.behind in (listed-is marks.Comma (One name) names m.behind.front m.behind.first, stmt-is Whole p b.front b.first)
  item-is level (Seq parts) tokens m = absurd m
  item-is level (Par parts) tokens m = absurd m

  -- lists, in places for them
  seq-is : (level : Level) → ((parts : Stmts) → AreStmts parts × EachStmt Item parts → IsForm level (Seq parts)) →
      (form : Form) (tokens : List Token) → SpellsSeq form tokens → IsForm level form
  seq-is level holds (Seq parts) tokens m = holds parts (stmts-are marks.Semicolon Item parts tokens m)
  seq-is level holds _ tokens m = absurd m

  par-is : (form : Form) (tokens : List Token) → SpellsPar form tokens → IsForm Whole form
  par-is (Par parts) tokens m = stmts-are marks.DoubleBar Line parts tokens m
  par-is _ tokens m = absurd m

  stmts-are : (m : Mark) (level : Level) (parts : Stmts) (tokens : List Token) → SpellsStmts m level (last_of level) parts tokens →
      AreStmts parts × EachStmt level parts
  stmts-are m level NoStmts tokens member = absurd member
  stmts-are m level (MoreStmts p NoStmts) tokens member = absurd member.second
  stmts-are m level (MoreStmts p (MoreStmts next others)) tokens member =
      let b = member.second in
      (tt, (stmt-is level p member.front member.first, (stmt-is level next b.first.rest b.first.behind, each-stmt m level others b.back b.second)))

  each-stmt : (m : Mark) (level : Level) (others : Stmts) (tokens : List Token) → SpellsOtherStmts m level (last_of level) others tokens →
      EachStmt level others
  each-stmt m level NoStmts tokens member = tt
  each-stmt m level (MoreStmts p others) tokens member =
      (stmt-is level p member.first.rest member.first.behind, each-stmt m level others member.back member.second)

  part-is : (w : Reserved) (q : Part) (tokens : List Token) → SpellsPart w q tokens → IsPart q
  part-is w Missing tokens m = tt
  part-is w (Written p) tokens m = stmt-is Whole p m.rest m.behind

  do-is : (w : Reserved) (q : Part) (tokens : List Token) → SpellsDo w q tokens → IsPart q
  do-is w Missing tokens m = tt
  do-is w (Written p) tokens m = stmt-is Whole p m.behind.front m.behind.first

  handler-is : (handler : Handler) (tokens : List Token) → SpellsHandler handler tokens → IsHandler handler
  handler-is NoHandler tokens m = tt
  handler-is (Handled n p) tokens m = stmt-is Whole p m.behind.second.rest m.behind.second.behind

  cases-are : (cases : Cases) (tokens : List Token) → SpellsCases cases tokens → AreCases cases
  cases-are NoCases tokens m = absurd m
  cases-are (MoreCases event body others) tokens m =
      let b = m.first.behind in (expr-is Disjunction event b.front b.first, part-is words.Do body b.back b.second, each-case others m.back m.second)

  each-case : (others : Cases) (tokens : List Token) → SpellsOtherCases others tokens → EachCase others
  each-case NoCases tokens m = tt
  each-case (MoreCases event body others) tokens m =
      let b = m.first.behind in (expr-is Disjunction event b.front b.first, part-is words.Do body b.back b.second, each-case others m.back m.second)

relation-is : (relation : NamedRelation) (tokens : List Token) → SpellsRelation relation tokens → IsRelation relation
relation-is (Implies cause effect) tokens m = tt
relation-is (Excludes []) tokens m = absurd m
relation-is (Excludes (first ∷ [])) tokens m = absurd m.second.behind
relation-is (Excludes (first ∷ next ∷ others)) tokens m = omega arith

-- every part of a list
each-step : {A : Type 0} (m : Mark) (L : A → List Token → Type 0) (P : A → Type 0) → ((v : A) (tokens : List Token) → L v tokens → P v) →
    (values : List A) (tokens : List Token) → Steps (Parted (mark m) (λ _. L) Empty) values tokens → All P values
each-step m L P holds [] tokens member = All-nil P
each-step m L P holds (v ∷ others) tokens member =
    All-cons P v others (holds v member.first.rest member.first.behind) (each-step m L P holds others member.back member.second)

each-listed : {A : Type 0} (m : Mark) (L : A → List Token → Type 0) (P : A → Type 0) → ((v : A) (tokens : List Token) → L v tokens → P v) →
    (values : List A) (tokens : List Token) → Listed (mark m) L values tokens → All P values
each-listed m L P holds [] tokens member = absurd member
each-listed m L P holds (v ∷ others) tokens member = All-cons P v others (holds v member.front member.first)
    (each-step m L P holds others member.back member.second)

each-of-many : {A : Type 0} (L : A → List Token → Type 0) (P : A → Type 0) → ((v : A) (tokens : List Token) → L v tokens → P v) →
    (values : List A) (tokens : List Token) → Many L values tokens → All P values
each-of-many L P holds [] tokens member = All-nil P
each-of-many L P holds (v ∷ others) tokens member = All-cons P v others (holds v member.front member.first)
    (each-of-many L P holds others member.back member.second)

decl-is : (decl : Decl) (tokens : List Token) → SpellsDecl decl tokens → IsDecl decl
decl-is (Input names) tokens m = listed-is marks.Comma (One name) names m.behind.front m.behind.first
decl-is (InputOutput names) tokens m = listed-is marks.Comma (One name) names m.behind.front m.behind.first
decl-is (Output names) tokens m = listed-is marks.Comma (One name) names m.behind.front m.behind.first
decl-is (Relations relations) tokens m = (
  listed-is marks.Comma SpellsRelation relations m.behind.front m.behind.first,
  each-listed marks.Comma SpellsRelation IsRelation relation-is relations m.behind.front m.behind.first,
)

module-is : (m : Module) (tokens : List Token) → SpellsModule m tokens → IsModule m
module-is m tokens member =
    let b = member.behind.second.behind in
    record { decls = each-of-many SpellsDecl IsDecl decl-is m.decls b.front b.first; body = stmt-is Whole m.body b.second.front b.second.first }

pub trees-are-spellable : TreesAreSpellable
trees-are-spellable [] tokens m = absurd m
trees-are-spellable (first ∷ others) tokens m = record {
  modules = tt;
  each = All-cons IsModule first others (module-is first m.front m.first) (each-of-many SpellsModule IsModule module-is others m.back m.second);
}

-- To believe: the grammar of the source language, as a relation between whole lists of tokens and trees, one case for
-- each production. Optional words, the optional `;`, `.` for `end module` and `positive` leave no trace in the tree. A
-- list of one part is that part. In words:
--
--   program = module { module }
--   module  = "module" NAME ":" { decl } stmt ( "end" "module" | "." )
--
--   decl    = ( "input" | "output" | "inputoutput" ) NAME { "," NAME } ";" | "relation" rel { "," rel } ";"
--   rel     = NAME "=>" NAME | NAME "#" NAME { "#" NAME }
--
--   stmt    = seq { "||" seq }
--   seq     = item { ";" item } [ ";" ]
--   case    = "case" expr [ "do" stmt ]
--
--   delay   = [ "immediate" | NUMBER ] event
--   count   = [ NUMBER ] event
--   event   = NAME | "tick" | "[" expr "]"
--
--   expr    = conj { "or" conj }
--   conj    = neg { "and" neg }
--   neg     = "not" neg | NAME | "tick" | "(" expr ")" | "[" expr "]"
--
-- The items are the clauses of SpellsItem. The statements are those of Berry, "The Constructive Semantics of Pure
-- Esterel", in the concrete syntax of Berry, "The Esterel v5 Language Primer".
use Rattle.std.specs.Prelude.{◌≡◌, ◌⊎◌, ℕ, List, [], ◌∷◌, Option, Some, None, if◌then◌else◌}
use Rattle.std.specs.Str.{bytes_eq}
use Rattle.base_types.specs.declared.place.Span.{Span}
use Rattle.est_ast.specs.declared.tokens.Token.{Token}
use Rattle.est_ast.specs.declared.tokens.Kind.{Kind}
use Rattle.est_ast.specs.declared.tokens.Kind.TheVariants as kinds
use Rattle.est_ast.specs.declared.tokens.Reserved.{Reserved}
use Rattle.est_ast.specs.declared.tokens.Reserved.TheVariants as words
use Rattle.est_ast.specs.declared.tokens.Mark.{Mark}
use Rattle.est_ast.specs.declared.tokens.Mark.TheVariants as marks
use Rattle.est_ast.specs.declared.trees.Name.{Name}
use Rattle.est_ast.specs.declared.trees.Rename.{Rename}
use Rattle.est_ast.specs.Spelling.{spelling, sign}
use Rattle.est_ast.specs.Trees.{Expr, Tick, Sig, Not, And, Or, Round, Square, Exprs, NoExprs, MoreExprs, Delay, Plain}
use Rattle.est_ast.specs.Trees.{Immediate, Count, Stmt, At, Form, Nothing, Pause, Halt, Emit, Sustain, Await, AwaitCase}
use Rattle.est_ast.specs.Trees.{Present, PresentCase, Loop, LoopEach, Every, Repeat, Abort, AbortCase, WeakAbort}
use Rattle.est_ast.specs.Trees.{Suspend, Trap, Exit, Signal, Run, Seq, Par, Group, Part, Missing, Written, Handler}
use Rattle.est_ast.specs.Trees.{NoHandler, Handled, Stmts, NoStmts, MoreStmts, Cases, NoCases, MoreCases, NamedRelation}
use Rattle.est_ast.specs.Trees.{Implies, Excludes, Decl, Input, InputOutput, Output, Relations, Module, SourceProgram}
use Rattle.base_reader.specs.Languages.{Empty, One, Then, Led, Maybe, Parted, Many}
use Rattle.base_reader.specs.Languages.{Loop as Steps}

-- this reserved word: the one that is spelled so
abbrev pub is_word : Reserved → Kind → Option (Unit {0})
is_word word (kinds.Reserved other) = if bytes_eq (spelling other) (spelling word) then Some tt else None
is_word word _ = None

abbrev pub word : Reserved → Token → Option (Unit {0})
word w token = is_word w token.kind

-- this mark
abbrev pub is_mark : Mark → Kind → Option (Unit {0})
is_mark mark (kinds.Mark other) = if bytes_eq (sign other) (sign mark) then Some tt else None
is_mark mark _ = None

abbrev pub mark : Mark → Token → Option (Unit {0})
mark m token = is_mark m token.kind

-- NAME: an identifier that is no reserved word, with its place
abbrev pub name_at : Span → Kind → Option Name
name_at span (kinds.Ident text) = Some (record { text = text; span = span })
name_at span _ = None

abbrev pub name : Token → Option Name
name token = name_at token.span token.kind

-- NUMBER, with its place
abbrev pub number_at : Span → Kind → Option (ℕ × Span)
number_at span (kinds.Number value) = Some (value, span)
number_at span _ = None

abbrev pub number : Token → Option (ℕ × Span)
number token = number_at token.span token.kind

-- "tick", by its place
abbrev pub tick_at : Span → Kind → Option Span
tick_at span (kinds.Reserved words.Tick) = Some span
tick_at span _ = None

abbrev pub tick : Token → Option Span
tick token = tick_at token.span token.kind

-- The place of a list of tokens goes from the start of the first to the end of the last.
abbrev pub end_of : Token → List Token → ℕ
end_of token [] = token.span.end
end_of token (next ∷ others) = end_of next others

abbrev pub span_of : List Token → Span
span_of [] = record { start = 0; end = 0 }
span_of (token ∷ others) = record { start = token.span.start; end = end_of token others }

-- what these tokens spell has this place
abbrev pub Over : Span → (List Token → Type 0) → List Token → Type 0
Over span L tokens = (span ≡ span_of tokens) × L tokens

-- one or more, with separators between them
abbrev pub Listed : {A : Type 0} → (Token → Option (Unit {0})) → (A → List Token → Type 0) → List A → List Token →
    Type 0
Listed separator L [] = λ _. ⊥
Listed separator L (first ∷ others) = Then (L first) (Steps (Parted separator (λ _. L) Empty) others)

-- "end" [ w ]
abbrev pub Ends : Reserved → List Token → Type 0
Ends w = Led (word words.End) (λ _. Maybe (word w))

-- expr, conj and neg
pub data TestTier : Type 0 where
  Disjunction : TestTier
  Conjunction : TestTier
  Negation : TestTier

abbrev mutual
  pub SpellsExpr : TestTier → Expr → List Token → Type 0
  -- "tick"
  SpellsExpr tier (Tick span) = One tick span
  -- NAME
  SpellsExpr tier (Sig n) = One name n
  -- "not" neg
  SpellsExpr tier (Not e) = Led (word words.Not) (λ _. SpellsExpr Negation e)
  -- "(" expr ")"
  SpellsExpr tier (Round e) =
      Led (mark marks.LeftParenthesis) (λ _. Then (SpellsExpr Disjunction e) (One (mark marks.RightParenthesis) tt))
  -- "[" expr "]"
  SpellsExpr tier (Square e) =
      Led (mark marks.LeftBracket) (λ _. Then (SpellsExpr Disjunction e) (One (mark marks.RightBracket) tt))
  -- neg "and" neg { "and" neg }
  SpellsExpr Disjunction (And parts) = SpellsExprs words.And Negation parts
  SpellsExpr Conjunction (And parts) = SpellsExprs words.And Negation parts
  SpellsExpr Negation (And parts) = λ _. ⊥
  -- conj "or" conj { "or" conj }
  SpellsExpr Disjunction (Or parts) = SpellsExprs words.Or Conjunction parts
  SpellsExpr Conjunction (Or parts) = λ _. ⊥
  SpellsExpr Negation (Or parts) = λ _. ⊥

  -- two parts or more, with the word between them
  pub SpellsExprs : Reserved → TestTier → Exprs → List Token → Type 0
  SpellsExprs w tier NoExprs = λ _. ⊥
  SpellsExprs w tier (MoreExprs e others) = Then (SpellsExpr tier e) (SpellsNextExprs w tier others)

  pub SpellsNextExprs : Reserved → TestTier → Exprs → List Token → Type 0
  SpellsNextExprs w tier NoExprs = λ _. ⊥
  SpellsNextExprs w tier (MoreExprs e others) = Then (Led (word w) (λ _. SpellsExpr tier e))
      (SpellsOtherExprs w tier others)

  pub SpellsOtherExprs : Reserved → TestTier → Exprs → List Token → Type 0
  SpellsOtherExprs w tier NoExprs = Empty
  SpellsOtherExprs w tier (MoreExprs e others) = Then (Led (word w) (λ _. SpellsExpr tier e))
      (SpellsOtherExprs w tier others)

-- event = NAME | "tick" | "[" expr "]"
abbrev pub SpellsEvent : Expr → List Token → Type 0
SpellsEvent (Tick span) = SpellsExpr Negation (Tick span)
SpellsEvent (Sig n) = SpellsExpr Negation (Sig n)
SpellsEvent (Square e) = SpellsExpr Negation (Square e)
SpellsEvent _ = λ _. ⊥

-- delay = [ "immediate" | NUMBER ] event
abbrev pub SpellsDelay : Delay → List Token → Type 0
SpellsDelay (Plain event) = SpellsEvent event
SpellsDelay (Immediate event) = Led (word words.Immediate) (λ _. SpellsEvent event)
SpellsDelay (Count count span event) = Then (One number (count, span)) (SpellsEvent event)

-- count = [ NUMBER ] event
abbrev pub SpellsCount : Delay → List Token → Type 0
SpellsCount (Plain event) = SpellsEvent event
SpellsCount (Immediate event) = λ _. ⊥
SpellsCount (Count count span event) = Then (One number (count, span)) (SpellsEvent event)

-- [ "immediate" ] event
abbrev pub SpellsTest : Delay → List Token → Type 0
SpellsTest (Plain event) = SpellsEvent event
SpellsTest (Immediate event) = Led (word words.Immediate) (λ _. SpellsEvent event)
SpellsTest (Count count span event) = λ _. ⊥

-- ren = NAME "/" NAME, first the name here and then the one in the module
abbrev pub SpellsRename : Rename → List Token → Type 0
SpellsRename rename = Then (One name rename.actual) (Led (mark marks.Slash) (λ _. One name rename.formal))

-- [ "[" "signal" ren { "," ren } "]" ]
abbrev pub SpellsRenames : List Rename → List Token → Type 0
SpellsRenames [] = Empty
SpellsRenames (rename ∷ others) =
    Led (mark marks.LeftBracket) (λ _. Led (word words.Signal) (λ _.
    Then (Listed (mark marks.Comma) SpellsRename (rename ∷ others)) (One (mark marks.RightBracket) tt)))

-- stmt, seq and item
pub data Level : Type 0 where
  Whole : Level
  Line : Level
  Item : Level

-- a seq: one item and maybe a last ";", or more items
abbrev pub OnLine : Span → (List Token → Type 0) → (List Token → Type 0) → List Token → Type 0
OnLine span item items tokens = Then (Over span item) (Maybe (mark marks.Semicolon)) tokens ⊎ Over span items tokens

abbrev mutual
  pub Spells : Level → Stmt → List Token → Type 0
  Spells Item (At span form) = Over span (SpellsItem form)
  Spells Line (At span form) = OnLine span (SpellsItem form) (SpellsSeq form)
  Spells Whole (At span form) = λ tokens. OnLine span (SpellsItem form) (SpellsSeq form) tokens
      ⊎ Over span (SpellsPar form) tokens

  -- item ";" item { ";" item } [ ";" ]
  pub SpellsSeq : Form → List Token → Type 0
  SpellsSeq (Seq parts) = SpellsStmts marks.Semicolon Item (Maybe (mark marks.Semicolon)) parts
  SpellsSeq _ = λ _. ⊥

  -- seq "||" seq { "||" seq }
  pub SpellsPar : Form → List Token → Type 0
  SpellsPar (Par parts) = SpellsStmts marks.DoubleBar Line Empty parts
  SpellsPar _ = λ _. ⊥

  -- two parts or more, with the mark between them, and what ends them
  pub SpellsStmts : Mark → Level → (List Token → Type 0) → Stmts → List Token → Type 0
  SpellsStmts m level last NoStmts = λ _. ⊥
  SpellsStmts m level last (MoreStmts p others) = Then (Spells level p) (SpellsNextStmts m level last others)

  pub SpellsNextStmts : Mark → Level → (List Token → Type 0) → Stmts → List Token → Type 0
  SpellsNextStmts m level last NoStmts = λ _. ⊥
  SpellsNextStmts m level last (MoreStmts p others) =
      Then (Led (mark m) (λ _. Spells level p)) (SpellsOtherStmts m level last others)

  pub SpellsOtherStmts : Mark → Level → (List Token → Type 0) → Stmts → List Token → Type 0
  SpellsOtherStmts m level last NoStmts = last
  SpellsOtherStmts m level last (MoreStmts p others) =
      Then (Led (mark m) (λ _. Spells level p)) (SpellsOtherStmts m level last others)

  pub SpellsItem : Form → List Token → Type 0
  -- "nothing"
  SpellsItem Nothing = One (word words.Nothing) tt
  -- "pause"
  SpellsItem Pause = One (word words.Pause) tt
  -- "halt"
  SpellsItem Halt = One (word words.Halt) tt
  -- "emit" NAME
  SpellsItem (Emit n) = Led (word words.Emit) (λ _. One name n)
  -- "sustain" NAME
  SpellsItem (Sustain n) = Led (word words.Sustain) (λ _. One name n)
  -- "exit" NAME
  SpellsItem (Exit n) = Led (word words.Exit) (λ _. One name n)
  -- "[" stmt "]"
  SpellsItem (Group p) = Led (mark marks.LeftBracket) (λ _. Then (Spells Whole p) (One (mark marks.RightBracket) tt))
  -- "await" delay [ "do" stmt "end" [ "await" ] ]
  SpellsItem (Await delay q) = Led (word words.Await) (λ _. Then (SpellsDelay delay) (SpellsDo words.Await q))
  -- "await" case { case } "end" [ "await" ]
  SpellsItem (AwaitCase cases) = Led (word words.Await) (λ _. Then (SpellsCases cases) (Ends words.Await))
  -- "present" expr [ "then" stmt ] [ "else" stmt ] "end" [ "present" ]
  SpellsItem (Present e p q) =
      Led (word words.Present) (λ _. Then (SpellsExpr Disjunction e)
      (Then (SpellsPart words.Then p) (Then (SpellsPart words.Else q) (Ends words.Present))))
  -- "present" case { case } [ "else" stmt ] "end" [ "present" ]
  SpellsItem (PresentCase cases q) =
      Led (word words.Present) (λ _. Then (SpellsCases cases) (Then (SpellsPart words.Else q) (Ends words.Present)))
  -- "loop" stmt "end" [ "loop" ]
  SpellsItem (Loop p) = Led (word words.Loop) (λ _. Then (Spells Whole p) (Ends words.Loop))
  -- "loop" stmt "each" count
  SpellsItem (LoopEach p delay) =
      Led (word words.Loop) (λ _. Then (Spells Whole p) (Led (word words.Each) (λ _. SpellsCount delay)))
  -- "every" delay "do" stmt "end" [ "every" ]
  SpellsItem (Every delay p) =
      Led (word words.Every) (λ _. Then (SpellsDelay delay)
      (Led (word words.Do) (λ _. Then (Spells Whole p) (Ends words.Every))))
  -- [ "positive" ] "repeat" NUMBER "times" stmt "end" [ "repeat" ]
  SpellsItem (Repeat count span p) =
      Then (Maybe (word words.Positive)) (Led (word words.Repeat) (λ _. Then (One number (count, span))
      (Led (word words.Times) (λ _. Then (Spells Whole p) (Ends words.Repeat)))))
  -- "abort" stmt "when" delay [ "do" stmt "end" [ "abort" ] ]
  SpellsItem (Abort p delay q) =
      Led (word words.Abort) (λ _. Then (Spells Whole p)
      (Led (word words.When) (λ _. Then (SpellsDelay delay) (SpellsDo words.Abort q))))
  -- "abort" stmt "when" case { case } "end" [ "abort" ]
  SpellsItem (AbortCase p cases) =
      Led (word words.Abort) (λ _. Then (Spells Whole p)
      (Led (word words.When) (λ _. Then (SpellsCases cases) (Ends words.Abort))))
  -- "weak" "abort" stmt "when" delay
  SpellsItem (WeakAbort p delay) =
      Led (word words.Weak) (λ _. Led (word words.Abort)
      (λ _. Then (Spells Whole p) (Led (word words.When) (λ _. SpellsDelay delay))))
  -- "suspend" stmt "when" [ "immediate" ] event
  SpellsItem (Suspend p delay) =
      Led (word words.Suspend) (λ _. Then (Spells Whole p) (Led (word words.When) (λ _. SpellsTest delay)))
  -- "trap" NAME "in" stmt [ "handle" NAME "do" stmt ] "end" [ "trap" ]
  SpellsItem (Trap n p handler) =
      Led (word words.Trap) (λ _. Then (One name n) (Led (word words.In) (λ _.
      Then (Spells Whole p) (Then (SpellsHandler handler) (Ends words.Trap)))))
  -- "signal" NAME { "," NAME } "in" stmt "end" [ "signal" ]
  SpellsItem (Signal names p) =
      Led (word words.Signal) (λ _. Then (Listed (mark marks.Comma) (One name) names)
      (Led (word words.In) (λ _. Then (Spells Whole p) (Ends words.Signal))))
  -- "run" NAME [ "[" "signal" ren { "," ren } "]" ]
  SpellsItem (Run n renames) = Led (word words.Run) (λ _. Then (One name n) (SpellsRenames renames))
  -- lists are no items
  SpellsItem (Seq parts) = λ _. ⊥
  SpellsItem (Par parts) = λ _. ⊥

  -- [ w stmt ]
  pub SpellsPart : Reserved → Part → List Token → Type 0
  SpellsPart w Missing = Empty
  SpellsPart w (Written p) = Led (word w) (λ _. Spells Whole p)

  -- [ "do" stmt "end" [ w ] ]
  pub SpellsDo : Reserved → Part → List Token → Type 0
  SpellsDo w Missing = Empty
  SpellsDo w (Written p) = Led (word words.Do) (λ _. Then (Spells Whole p) (Ends w))

  -- [ "handle" NAME "do" stmt ]
  pub SpellsHandler : Handler → List Token → Type 0
  SpellsHandler NoHandler = Empty
  SpellsHandler (Handled n p) = Led (word words.Handle)
      (λ _. Then (One name n) (Led (word words.Do) (λ _. Spells Whole p)))

  -- case { case }, where case = "case" expr [ "do" stmt ]
  pub SpellsCases : Cases → List Token → Type 0
  SpellsCases NoCases = λ _. ⊥
  SpellsCases (MoreCases event body others) =
      Then (Led (word words.Case) (λ _. Then (SpellsExpr Disjunction event) (SpellsPart words.Do body)))
      (SpellsOtherCases others)

  pub SpellsOtherCases : Cases → List Token → Type 0
  SpellsOtherCases NoCases = Empty
  SpellsOtherCases (MoreCases event body others) =
      Then (Led (word words.Case) (λ _. Then (SpellsExpr Disjunction event) (SpellsPart words.Do body)))
      (SpellsOtherCases others)

-- rel = NAME "=>" NAME | NAME "#" NAME { "#" NAME }
abbrev pub SpellsRelation : NamedRelation → List Token → Type 0
SpellsRelation (Implies cause effect) = Then (One name cause) (Led (mark marks.Arrow) (λ _. One name effect))
SpellsRelation (Excludes []) = λ _. ⊥
SpellsRelation (Excludes (first ∷ others)) =
    Then (One name first) (Led (mark marks.Hash) (λ _. Listed (mark marks.Hash) (One name) others))

-- decl = ( "input" | "output" | "inputoutput" ) NAME { "," NAME } ";" | "relation" rel { "," rel } ";"
abbrev pub SpellsDeclared : {A : Type 0} → Reserved → (A → List Token → Type 0) → List A → List Token → Type 0
SpellsDeclared w L values = Led (word w) (λ _. Then (Listed (mark marks.Comma) L values)
    (One (mark marks.Semicolon) tt))

abbrev pub SpellsDecl : Decl → List Token → Type 0
SpellsDecl (Input names) = SpellsDeclared words.Input (One name) names
SpellsDecl (InputOutput names) = SpellsDeclared words.InputOutput (One name) names
SpellsDecl (Output names) = SpellsDeclared words.Output (One name) names
SpellsDecl (Relations relations) = SpellsDeclared words.Relation SpellsRelation relations

-- ( "end" "module" | "." )
abbrev pub EndsModule : List Token → Type 0
EndsModule tokens =
    One (mark marks.Period) tt tokens ⊎ Led (word words.End) (λ _. One (word words.Module) tt) tokens

-- module = "module" NAME ":" { decl } stmt ( "end" "module" | "." )
abbrev pub SpellsModule : Module → List Token → Type 0
SpellsModule m =
    Led (word words.Module) (λ _. Then (One name m.name) (Led (mark marks.Colon) (λ _.
    Then (Many SpellsDecl m.decls) (Then (Spells Whole m.body) EndsModule))))

-- program = module { module }
abbrev pub SpellsProgram : SourceProgram → List Token → Type 0
SpellsProgram [] = λ _. ⊥
SpellsProgram (first ∷ others) = Then (SpellsModule first) (Many SpellsModule others)

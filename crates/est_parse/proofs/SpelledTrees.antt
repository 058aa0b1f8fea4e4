-- Inner: the grammar has each spellable tree to the tokens of its one spelling.
use Rattle.std.proofs.Common.{◌≡◌, inl, inr, ℕ, List, [], ◌∷◌, map, refl, sym, ap, ap₂, arith}
use Rattle.std.specs.Prelude.{⊤}
use Rattle.std.proofs.lemmas.List.{append-nil}
use Rattle.std.proofs.lemmas.List.Elements.{All-head, All-tail}
use Rattle.base_types.specs.declared.place.Span.{Span}
use Rattle.est_ast.specs.declared.tokens.Token.{Token}
use Rattle.est_ast.specs.declared.tokens.Kind.{Kind}
use Rattle.est_ast.specs.declared.tokens.Kind.TheVariants as kinds
use Rattle.est_ast.specs.declared.tokens.Reserved.{Reserved}
use Rattle.est_ast.specs.declared.tokens.Reserved.TheVariants as words
use Rattle.est_ast.specs.declared.tokens.Mark.{Mark}
use Rattle.est_ast.specs.declared.tokens.Mark.TheVariants as marks
use Rattle.est_ast.specs.declared.trees.Name.{Name}
use Rattle.est_ast.specs.declared.trees.Rename.{Rename}
use Rattle.est_ast.specs.Trees.{Expr, Tick, Sig, Not, And, Or, Round, Square, Exprs, NoExprs, MoreExprs, Delay, Plain, Immediate, Count, Stmt, At, Form}
use Rattle.est_ast.specs.Trees.{Nothing, Pause, Halt, Emit, Sustain, Await, AwaitCase, Present, PresentCase, Loop, LoopEach, Every, Repeat, Abort, AbortCase}
use Rattle.est_ast.specs.Trees.{WeakAbort, Suspend, Trap, Exit, Signal, Run, Seq, Par, Group, Part, Missing, Written, Handler, NoHandler, Handled, Stmts}
use Rattle.est_ast.specs.Trees.{NoStmts, MoreStmts, Cases, NoCases, MoreCases, NamedRelation, Implies, Excludes, Decl, Input, InputOutput, Output, Relations}
use Rattle.est_ast.specs.Trees.{Module}
use Rattle.est_ast.specs.Trees.{SourceProgram}
use Rattle.est_ast.specs.Grammar.{word, mark, name_at, name, number_at, number, tick_at, tick, span_of, Listed, TestTier, Disjunction, Conjunction, Negation}
use Rattle.est_ast.specs.Grammar.{SpellsExpr, SpellsExprs, SpellsOtherExprs, SpellsEvent, SpellsDelay, SpellsCount, SpellsTest, SpellsRename, SpellsRenames}
use Rattle.est_ast.specs.Grammar.{Level, Whole, Line, Item, Spells, SpellsSeq, SpellsPar, SpellsStmts, SpellsOtherStmts, SpellsItem, SpellsPart}
use Rattle.est_ast.specs.Grammar.{SpellsDo, SpellsHandler, SpellsCases, SpellsOtherCases, SpellsRelation, SpellsDecl, EndsModule, SpellsModule, SpellsProgram}
use Rattle.base_reader.specs.Languages.{One, Then, Maybe}
use Rattle.est_parse.specs.Laws.{kinds_of, SpellingsAreGrammatical}
use Rattle.est_parse.specs.OneSpelling.{listed, expr_tokens, exprs_tokens, other_exprs_tokens, delay_tokens, rename_tokens, renames_tokens, stmt_tokens}
use Rattle.est_parse.specs.OneSpelling.{form_tokens, part_tokens, do_tokens, handler_tokens, stmts_tokens, other_stmts_tokens, cases_tokens, relation_tokens}
use Rattle.est_parse.specs.OneSpelling.{decl_tokens, module_tokens, tokens_of}
use Rattle.est_parse.specs.OneSpelling.{name as name_tokens}
use Rattle.est_parse.specs.Spellable.{AreExprs, AreStmts, IsListed, IsExpr, EachExpr, IsEvent, IsDelay, IsCount, IsTest, IsStmt, IsForm, IsPart, IsHandler}
use Rattle.est_parse.specs.Spellable.{EachStmt, AreCases, EachCase, IsRelation, IsDecl, IsModule, IsSpellable}
use Rattle.est_parse.specs.Unplaced.{nowhere, unplaced_name, unplaced_rename, unplaced_expr, unplaced_exprs, unplaced_delay, unplaced_stmt, unplaced_form}
use Rattle.est_parse.specs.Unplaced.{unplaced_part, unplaced_handler, unplaced_stmts, unplaced_cases, unplaced_relation, unplaced_decl, unplaced_module}
use Rattle.est_parse.specs.Unplaced.{unplaced}
use Rattle.est_parse.proofs.SpellableTrees.{last_of}
use Rattle.est_parse.proofs.Having.{Has, HasAll, one-has, none-has, both-has, trail-has, word-has, mark-has, the-word, the-mark, word-then, ends-has, made-has}
use Rattle.est_parse.proofs.Having.{listed-has, many-has, steps-has}

ap-three : {A B C D : Type 0} (f : A → B → C → D) {x y : A} {u v : B} {s t : C} → x ≡ y → u ≡ v → s ≡ t → f x u s ≡ f y v t
ap-three {A} {B} {C} {D} f p q r = ap₂ (λ (g : C → D) c. g c) (ap₂ f p q) r

-- the language has this value, but for its places
abbrev HasExpr : (Expr → List Token → Type 0) → Expr → Type 0
HasExpr L e = Has (λ found. unplaced_expr found ≡ unplaced_expr e) L (expr_tokens e)

abbrev HasDelay : (Delay → List Token → Type 0) → Delay → Type 0
HasDelay L delay = Has (λ found. unplaced_delay found ≡ unplaced_delay delay) L (delay_tokens delay)

-- Names, numbers and `tick`.

name-has : (n : Name) → Has (λ found. unplaced_name found ≡ unplaced_name n) (One name) (name_tokens n)
name-has n = one-has (λ token is. (record { text = n.text; span = token.span }, refl, ap (name_at token.span) is))

number-has : (value : ℕ) → Has (λ found. found.0 ≡ value) (One number) (kinds.Number value ∷ [])
number-has value = one-has (λ token is. ((value, token.span), refl, ap (number_at token.span) is))

tick-has : Has (λ _. ⊤) (One tick) (kinds.Reserved words.Tick ∷ [])
tick-has = one-has (λ token is. (token.span, tt, ap (tick_at token.span) is))

names-has : (m : Mark) (names : List Name) → IsListed names →
    Has (λ found. map unplaced_name found ≡ map unplaced_name names) (Listed (mark m) (One name)) (listed m name_tokens names)
names-has m names some = listed-has unplaced_name (One name) name_tokens (λ _. ⊤) (λ n _. name-has n) m names some (λ k d lt. tt)

rename-has : (rename : Rename) → Has (λ found. unplaced_rename found ≡ unplaced_rename rename) SpellsRename (rename_tokens rename)
rename-has rename =
    made-has (both-has (name-has rename.actual) (mark-has marks.Slash (name-has rename.formal)))
    (λ found. record { actual = found.0; formal = found.1 }) (λ found same. ap₂ (λ a b. record { actual = a; formal = b }) same.0 same.1)
    (λ found tokens member. member)

renames-has : (renames : List Rename) → Has (λ found. map unplaced_rename found ≡ map unplaced_rename renames) SpellsRenames (renames_tokens renames)
renames-has [] = none-has [] refl refl
renames-has (rename ∷ others) =
    made-has (mark-has marks.LeftBracket (word-has words.Signal (trail-has
    (both-has (rename-has rename) (steps-has unplaced_rename SpellsRename rename_tokens (λ _. ⊤) (λ r _. rename-has r) marks.Comma others (λ k d lt. tt)))
    (the-mark marks.RightBracket))))
    (λ found. found.0 ∷ found.1) (λ found same. ap₂ (λ a b. a ∷ b) same.0 same.1) (λ found tokens member. member)

-- Tests.

mutual
  expr-has : (tier : TestTier) (e : Expr) → IsExpr tier e → HasExpr (SpellsExpr tier) e
  expr-has tier (Tick span) is = made-has tick-has Tick (λ found same. refl) (λ found tokens member. member)
  expr-has tier (Sig n) is = made-has (name-has n) Sig (λ found same. ap Sig same) (λ found tokens member. member)
  expr-has tier (Not e) is = made-has (word-has words.Not (expr-has Negation e is)) Not (λ found same. ap Not same) (λ found tokens member. member)
  expr-has tier (Round e) is =
      made-has (mark-has marks.LeftParenthesis (trail-has (expr-has Disjunction e is) (the-mark marks.RightParenthesis))) Round (λ found same. ap Round same)
      (λ found tokens member. member)
  expr-has tier (Square e) is =
      made-has (mark-has marks.LeftBracket (trail-has (expr-has Disjunction e is) (the-mark marks.RightBracket))) Square (λ found same. ap Square same)
      (λ found tokens member. member)
  expr-has Disjunction (And parts) is = made-has (exprs-has words.And Negation parts is.0 is.1) And (λ found same. ap And same) (λ found tokens member. member)
  expr-has Conjunction (And parts) is = made-has (exprs-has words.And Negation parts is.0 is.1) And (λ found same. ap And same) (λ found tokens member. member)
  expr-has Negation (And parts) is = absurd is
  expr-has Disjunction (Or parts) is = made-has (exprs-has words.Or Conjunction parts is.0 is.1) Or (λ found same. ap Or same) (λ found tokens member. member)
  expr-has Conjunction (Or parts) is = absurd is
  expr-has Negation (Or parts) is = absurd is

  exprs-has : (w : Reserved) (tier : TestTier) (parts : Exprs) → AreExprs parts → EachExpr tier parts →
      Has (λ found. unplaced_exprs found ≡ unplaced_exprs parts) (SpellsExprs w tier) (exprs_tokens w parts)
  exprs-has w tier NoExprs many each = absurd many
  exprs-has w tier (MoreExprs e NoExprs) many each = absurd many
  exprs-has w tier (MoreExprs e (MoreExprs next others)) many each =
      made-has (both-has (expr-has tier e each.0) (both-has (word-has w (expr-has tier next each.1.0)) (other-exprs-has w tier others each.1.1)))
      (λ found. MoreExprs found.0 (MoreExprs found.1.0 found.1.1)) (λ found same. ap₂ MoreExprs same.0 (ap₂ MoreExprs same.1.0 same.1.1))
      (λ found tokens member. member)

  other-exprs-has : (w : Reserved) (tier : TestTier) (others : Exprs) → EachExpr tier others →
      Has (λ found. unplaced_exprs found ≡ unplaced_exprs others) (SpellsOtherExprs w tier) (other_exprs_tokens w others)
  other-exprs-has w tier NoExprs each = none-has NoExprs refl refl
  other-exprs-has w tier (MoreExprs e others) each =
      made-has (both-has (word-has w (expr-has tier e each.0)) (other-exprs-has w tier others each.1))
      (λ found. MoreExprs found.0 found.1) (λ found same. ap₂ MoreExprs same.0 same.1) (λ found tokens member. member)

-- Events and delays.

event-has : (e : Expr) → IsEvent e → HasExpr SpellsEvent e
event-has (Tick span) is = made-has tick-has Tick (λ found same. refl) (λ found tokens member. member)
event-has (Sig n) is = made-has (name-has n) Sig (λ found same. ap Sig same) (λ found tokens member. member)
event-has (Square e) is =
    made-has (mark-has marks.LeftBracket (trail-has (expr-has Disjunction e is) (the-mark marks.RightBracket))) Square (λ found same. ap Square same)
    (λ found tokens member. member)
event-has (Not e) is = absurd is
event-has (And parts) is = absurd is
event-has (Or parts) is = absurd is
event-has (Round e) is = absurd is

-- a delay in each of its three places, where it is a plain one, and where it has a number
counted : (count : ℕ) (event : Expr) → IsEvent event →
    Has (λ (found : (ℕ × Span) × Expr). (found.0.0 ≡ count) × (unplaced_expr found.1 ≡ unplaced_expr event))
    (λ found. Then (One number found.0) (SpellsEvent found.1)) (kinds.Number count ∷ expr_tokens event)
counted count event is = made-has (both-has (number-has count) (event-has event is)) (λ found. found) (λ found same. same) (λ found tokens member. member)

delay-has : (delay : Delay) → IsDelay delay → HasDelay SpellsDelay delay
delay-has (Plain event) is = made-has (event-has event is) Plain (λ found same. ap Plain same) (λ found tokens member. member)
delay-has (Immediate event) is = made-has (word-has words.Immediate (event-has event is)) Immediate (λ found same. ap Immediate same)
    (λ found tokens member. member)
delay-has (Count count span event) is =
    made-has (counted count event is) (λ found. Count found.0.0 found.0.1 found.1) (λ found same. ap₂ (λ n e. Count n nowhere e) same.0 same.1)
    (λ found tokens member. member)

count-has : (delay : Delay) → IsCount delay → HasDelay SpellsCount delay
count-has (Plain event) is = made-has (event-has event is) Plain (λ found same. ap Plain same) (λ found tokens member. member)
count-has (Immediate event) is = absurd is
count-has (Count count span event) is =
    made-has (counted count event is) (λ found. Count found.0.0 found.0.1 found.1) (λ found same. ap₂ (λ n e. Count n nowhere e) same.0 same.1)
    (λ found tokens member. member)

test-has : (delay : Delay) → IsTest delay → HasDelay SpellsTest delay
test-has (Plain event) is = made-has (event-has event is) Plain (λ found same. ap Plain same) (λ found tokens member. member)
test-has (Immediate event) is = made-has (word-has words.Immediate (event-has event is)) Immediate (λ found same. ap Immediate same)
    (λ found tokens member. member)
test-has (Count count span event) is = absurd is

-- Statements.

-- these forms, in a place of this level
abbrev HasForm : (Form → List Token → Type 0) → Form → List Kind → Type 0
HasForm L target spelling = Has (λ found. unplaced_form found ≡ target) L spelling

abbrev HasStmt : Level → Form → List Kind → Type 0
HasStmt level target spelling = Has (λ found. unplaced_stmt found ≡ At nowhere target) (Spells level) spelling

as-item : (level : Level) (found : Form) (tokens : List Token) → SpellsItem found tokens → Spells level (At (span_of tokens) found) tokens
as-item Item found tokens member = (refl, member)
as-item Line found tokens member = inl (record { front = tokens; back = []; cut = sym (append-nil tokens); first = (refl, member); second = inl refl })
as-item Whole found tokens member = inl (inl (record { front = tokens; back = []; cut = sym (append-nil tokens); first = (refl, member); second = inl refl }))

placed-has : {L : Form → List Token → Type 0} {target : Form} {spelling : List Kind} → (level : Level) → HasForm L target spelling →
    ((found : Form) (tokens : List Token) → L found tokens → Spells level (At (span_of tokens) found) tokens) → HasStmt level target spelling
placed-has {L} {target} {spelling} level r place = record { gives = go }
  where
    go : (tokens : List Token) → kinds_of tokens ≡ spelling → (found : Stmt) × (unplaced_stmt found ≡ At nowhere target) × Spells level found tokens
    go tokens is = let a = r.gives tokens is in (At (span_of tokens) a.0, ap (At nowhere) a.1, place a.0 tokens a.2)

item-has : {target : Form} {spelling : List Kind} → (level : Level) → HasForm SpellsItem target spelling → HasStmt level target spelling
item-has level r = placed-has level r (as-item level)

-- it may be missing
last-none : (level : Level) → last_of level []
last-none Item = inl refl
last-none Line = refl
last-none Whole = refl

-- `positive` is left out
unsigned-has : {A : Type 0} {P : A → Type 0} {L : A → List Token → Type 0} {spelling : List Kind} → Has P L spelling →
    Has P (λ v. Then (Maybe (word words.Positive)) (L v)) spelling
unsigned-has {A} {P} {L} {spelling} r = record { gives = go }
  where
    go : (tokens : List Token) → kinds_of tokens ≡ spelling → (v : A) × P v × Then (Maybe (word words.Positive)) (L v) tokens
    go tokens is = let a = r.gives tokens is in (a.0, a.1, record { front = []; back = tokens; cut = refl; first = inl refl; second = a.2 })

mutual
  stmt-has : (level : Level) (p : Stmt) → IsStmt level p → Has (λ found. unplaced_stmt found ≡ unplaced_stmt p) (Spells level) (stmt_tokens p)
  stmt-has level (At span form) is = form-has level form is

  form-has : (level : Level) (form : Form) → IsForm level form → HasStmt level (unplaced_form form) (form_tokens form)
  form-has level Nothing is = item-has level (record { gives = λ tokens same. (Nothing, refl, (the-word words.Nothing).takes tokens same) })
  form-has level Pause is = item-has level (record { gives = λ tokens same. (Pause, refl, (the-word words.Pause).takes tokens same) })
  form-has level Halt is = item-has level (record { gives = λ tokens same. (Halt, refl, (the-word words.Halt).takes tokens same) })
  form-has level (Emit n) is = item-has level (made-has (word-has words.Emit (name-has n)) Emit (λ found same. ap Emit same) (λ found tokens member. member))
  form-has level (Sustain n) is = item-has level (made-has (word-has words.Sustain (name-has n)) Sustain (λ found same. ap Sustain same)
      (λ found tokens member. member))
  form-has level (Exit n) is = item-has level (made-has (word-has words.Exit (name-has n)) Exit (λ found same. ap Exit same) (λ found tokens member. member))
  form-has level (Group p) is = item-has level (made-has (mark-has marks.LeftBracket (trail-has (stmt-has Whole p is) (the-mark marks.RightBracket))) Group
      (λ found same. ap Group same) (λ found tokens member. member))
  form-has level (Await delay q) is = item-has level (made-has (word-has words.Await (both-has (delay-has delay is.0) (do-has words.Await q is.1)))
      (λ found. Await found.0 found.1) (λ found same. ap₂ Await same.0 same.1) (λ found tokens member. member))
  form-has level (AwaitCase cases) is = item-has level (made-has (word-has words.Await (trail-has (cases-has cases is) (ends-has words.Await))) AwaitCase
      (λ found same. ap AwaitCase same) (λ found tokens member. member))
  form-has level (Present e p q) is = item-has level (made-has (word-has words.Present
      (both-has (expr-has Disjunction e is.0) (both-has (part-has words.Then p is.1) (trail-has (part-has words.Else q is.2) (ends-has words.Present)))))
      (λ found. Present found.0 found.1.0 found.1.1) (λ found same. ap-three Present same.0 same.1.0 same.1.1)
      (λ found tokens member. member))
  form-has level (PresentCase cases q) is = item-has level (made-has
      (word-has words.Present (both-has (cases-has cases is.0) (trail-has (part-has words.Else q is.1) (ends-has words.Present))))
      (λ found. PresentCase found.0 found.1) (λ found same. ap₂ PresentCase same.0 same.1) (λ found tokens member. member))
  form-has level (Loop p) is = item-has level (made-has (word-has words.Loop (trail-has (stmt-has Whole p is) (ends-has words.Loop))) Loop
      (λ found same. ap Loop same) (λ found tokens member. member))
  form-has level (LoopEach p delay) is = item-has level (made-has (word-has words.Loop
      (both-has (stmt-has Whole p is.0) (word-has words.Each (count-has delay is.1)))) (λ found. LoopEach found.0 found.1)
      (λ found same. ap₂ LoopEach same.0 same.1) (λ found tokens member. member))
  form-has level (Every delay p) is = item-has level (made-has (word-has words.Every
      (both-has (delay-has delay is.0) (word-has words.Do (trail-has (stmt-has Whole p is.1) (ends-has words.Every))))) (λ found. Every found.0 found.1)
      (λ found same. ap₂ Every same.0 same.1) (λ found tokens member. member))
  form-has level (Repeat count span p) is =
      item-has level (made-has (unsigned-has (word-has words.Repeat (both-has (number-has count)
      (word-has words.Times (trail-has (stmt-has Whole p is) (ends-has words.Repeat))))))
      (λ found. Repeat found.0.0 found.0.1 found.1) (λ found same. ap₂ (λ n b. Repeat n nowhere b) same.0 same.1) (λ found tokens member. member))
  form-has level (Abort p delay q) is = item-has level (made-has (word-has words.Abort
      (both-has (stmt-has Whole p is.0) (word-has words.When (both-has (delay-has delay is.1) (do-has words.Abort q is.2)))))
      (λ found. Abort found.0 found.1.0 found.1.1) (λ found same. ap-three Abort same.0 same.1.0 same.1.1)
      (λ found tokens member. member))
  form-has level (AbortCase p cases) is = item-has level (made-has
      (word-has words.Abort (both-has (stmt-has Whole p is.0) (word-has words.When (trail-has (cases-has cases is.1) (ends-has words.Abort)))))
      (λ found. AbortCase found.0 found.1) (λ found same. ap₂ AbortCase same.0 same.1) (λ found tokens member. member))
  form-has level (WeakAbort p delay) is = item-has level (made-has
      (word-has words.Weak (word-has words.Abort (both-has (stmt-has Whole p is.0) (word-has words.When (delay-has delay is.1)))))
      (λ found. WeakAbort found.0 found.1) (λ found same. ap₂ WeakAbort same.0 same.1) (λ found tokens member. member))
  form-has level (Suspend p delay) is = item-has level (made-has (word-has words.Suspend
      (both-has (stmt-has Whole p is.0) (word-has words.When (test-has delay is.1)))) (λ found. Suspend found.0 found.1)
      (λ found same. ap₂ Suspend same.0 same.1) (λ found tokens member. member))
  form-has level (Trap n p handler) is = item-has level (made-has (word-has words.Trap
      (both-has (name-has n) (word-has words.In (both-has (stmt-has Whole p is.0) (trail-has (handler-has handler is.1) (ends-has words.Trap))))))
      (λ found. Trap found.0 found.1.0 found.1.1) (λ found same. ap-three Trap same.0 same.1.0 same.1.1)
      (λ found tokens member. member))
  form-has level (Signal names p) is = item-has level (made-has (word-has words.Signal
      (both-has (names-has marks.Comma names is.0) (word-has words.In (trail-has (stmt-has Whole p is.1) (ends-has words.Signal)))))
      (λ found. Signal found.0 found.1) (λ found same. ap₂ Signal same.0 same.1) (λ found tokens member. member))
  form-has level (Run n renames) is = item-has level (made-has (word-has words.Run (both-has (name-has n) (renames-has renames))) (λ found. Run found.0 found.1)
      (λ found same. ap₂ Run same.0 same.1) (λ found tokens member. member))
  form-has Whole (Seq parts) is = placed-has {L = SpellsSeq} Whole
      (made-has (stmts-has marks.Semicolon Item parts is.0 is.1) Seq (λ found same. ap Seq same)
      (λ found tokens member. member)) (λ found tokens member. inl (inr (refl, member)))
  form-has Line (Seq parts) is = placed-has {L = SpellsSeq} Line (made-has
      (stmts-has marks.Semicolon Item parts is.0 is.1) Seq (λ found same. ap Seq same)
      (λ found tokens member. member)) (λ found tokens member. inr (refl, member))
  form-has Item (Seq parts) is = absurd is
  form-has Whole (Par parts) is = placed-has {L = SpellsPar} Whole
      (made-has (stmts-has marks.DoubleBar Line parts is.0 is.1) Par (λ found same. ap Par same) (λ found tokens member. member))
      (λ found tokens member. inr (refl, member))
  form-has Line (Par parts) is = absurd is
  form-has Item (Par parts) is = absurd is

  part-has : (w : Reserved) (q : Part) → IsPart q → Has (λ found. unplaced_part found ≡ unplaced_part q) (SpellsPart w) (part_tokens w q)
  part-has w Missing is = none-has Missing refl refl
  part-has w (Written p) is = made-has (word-has w (stmt-has Whole p is)) Written (λ found same. ap Written same) (λ found tokens member. member)

  do-has : (w : Reserved) (q : Part) → IsPart q → Has (λ found. unplaced_part found ≡ unplaced_part q) (SpellsDo w) (do_tokens q)
  do-has w Missing is = none-has Missing refl refl
  do-has w (Written p) is = made-has (word-has words.Do (trail-has (stmt-has Whole p is) (ends-has w))) Written (λ found same. ap Written same)
      (λ found tokens member. member)

  handler-has : (handler : Handler) → IsHandler handler → Has (λ found. unplaced_handler found ≡ unplaced_handler handler) SpellsHandler
      (handler_tokens handler)
  handler-has NoHandler is = none-has NoHandler refl refl
  handler-has (Handled n p) is =
      made-has (word-has words.Handle (both-has (name-has n) (word-has words.Do (stmt-has Whole p is))))
      (λ found. Handled found.0 found.1) (λ found same. ap₂ Handled same.0 same.1) (λ found tokens member. member)

  stmts-has : (m : Mark) (level : Level) (parts : Stmts) → AreStmts parts → EachStmt level parts →
      Has (λ found. unplaced_stmts found ≡ unplaced_stmts parts) (SpellsStmts m level (last_of level)) (stmts_tokens m parts)
  stmts-has m level NoStmts many each = absurd many
  stmts-has m level (MoreStmts p NoStmts) many each = absurd many
  stmts-has m level (MoreStmts p (MoreStmts next others)) many each =
      made-has (both-has (stmt-has level p each.0) (both-has (mark-has m (stmt-has level next each.1.0)) (other-stmts-has m level others each.1.1)))
      (λ found. MoreStmts found.0 (MoreStmts found.1.0 found.1.1)) (λ found same. ap₂ MoreStmts same.0 (ap₂ MoreStmts same.1.0 same.1.1))
      (λ found tokens member. member)

  other-stmts-has : (m : Mark) (level : Level) (others : Stmts) → EachStmt level others →
      Has (λ found. unplaced_stmts found ≡ unplaced_stmts others) (SpellsOtherStmts m level (last_of level)) (other_stmts_tokens m others)
  other-stmts-has m level NoStmts each = none-has NoStmts refl (last-none level)
  other-stmts-has m level (MoreStmts p others) each =
      made-has (both-has (mark-has m (stmt-has level p each.0)) (other-stmts-has m level others each.1))
      (λ found. MoreStmts found.0 found.1) (λ found same. ap₂ MoreStmts same.0 same.1) (λ found tokens member. member)

  cases-has : (cases : Cases) → AreCases cases → Has (λ found. unplaced_cases found ≡ unplaced_cases cases) SpellsCases (cases_tokens cases)
  cases-has NoCases is = absurd is
  cases-has (MoreCases event body others) is =
      made-has (both-has (word-has words.Case (both-has (expr-has Disjunction event is.0) (part-has words.Do body is.1))) (other-cases-has others is.2))
      (λ found. MoreCases found.0.0 found.0.1 found.1) (λ found same. ap-three MoreCases same.0.0 same.0.1 same.1)
      (λ found tokens member. member)

  other-cases-has : (others : Cases) → EachCase others → Has (λ found. unplaced_cases found ≡ unplaced_cases others) SpellsOtherCases (cases_tokens others)
  other-cases-has NoCases is = none-has NoCases refl refl
  other-cases-has (MoreCases event body others) is =
      made-has (both-has (word-has words.Case (both-has (expr-has Disjunction event is.0) (part-has words.Do body is.1))) (other-cases-has others is.2))
      (λ found. MoreCases found.0.0 found.0.1 found.1) (λ found same. ap-three MoreCases same.0.0 same.0.1 same.1)
      (λ found tokens member. member)

-- Modules.

relation-has : (relation : NamedRelation) → IsRelation relation → Has (λ found. unplaced_relation found ≡ unplaced_relation relation) SpellsRelation
    (relation_tokens relation)
relation-has (Implies cause effect) is =
    made-has (both-has (name-has cause) (mark-has marks.Arrow (name-has effect))) (λ found. Implies found.0 found.1) (λ found same. ap₂ Implies same.0 same.1)
    (λ found tokens member. member)
relation-has (Excludes []) is = absurd (omega arith)
relation-has (Excludes (first ∷ [])) is = absurd (omega arith)
relation-has (Excludes (first ∷ next ∷ others)) is =
    made-has (both-has (name-has first) (mark-has marks.Hash (names-has marks.Hash (next ∷ others) tt)))
    (λ found. Excludes (found.0 ∷ found.1)) (λ found same. ap₂ (λ a b. Excludes (a ∷ b)) same.0 same.1) (λ found tokens member. member)

decl-has : (decl : Decl) → IsDecl decl → Has (λ found. unplaced_decl found ≡ unplaced_decl decl) SpellsDecl (decl_tokens decl)
decl-has (Input names) is = made-has (word-has words.Input (trail-has (names-has marks.Comma names is) (the-mark marks.Semicolon))) Input
    (λ found same. ap Input same) (λ found tokens member. member)
decl-has (InputOutput names) is = made-has (word-has words.InputOutput (trail-has (names-has marks.Comma names is) (the-mark marks.Semicolon))) InputOutput
    (λ found same. ap InputOutput same) (λ found tokens member. member)
decl-has (Output names) is = made-has (word-has words.Output (trail-has (names-has marks.Comma names is) (the-mark marks.Semicolon))) Output
    (λ found same. ap Output same) (λ found tokens member. member)
decl-has (Relations relations) is =
    made-has (word-has words.Relation (trail-has (listed-has unplaced_relation SpellsRelation relation_tokens IsRelation relation-has marks.Comma relations is.0
    is.1) (the-mark marks.Semicolon)))
    Relations (λ found same. ap Relations same) (λ found tokens member. member)

ends-module-has : HasAll EndsModule (kinds.Reserved words.End ∷ kinds.Reserved words.Module ∷ [])
ends-module-has = record { takes = λ tokens is. inr ((word-then words.End (the-word words.Module)).takes tokens is) }

module-has : (m : Module) → IsModule m → Has (λ found. unplaced_module found ≡ unplaced_module m) SpellsModule (module_tokens m)
module-has m is =
    made-has (word-has words.Module (both-has (name-has m.name) (mark-has marks.Colon
    (both-has (many-has unplaced_decl SpellsDecl decl_tokens IsDecl decl-has m.decls is.decls) (trail-has (stmt-has Whole m.body is.body) ends-module-has)))))
    (λ found. record { name = found.0; decls = found.1.0; body = found.1.1 })
    (λ found same. ap-three (λ n ds b. record { name = n; decls = ds; body = b }) same.0 same.1.0 same.1.1) (λ found tokens member. member)

program-has : (p : SourceProgram) → IsSpellable p → Has (λ found. unplaced found ≡ unplaced p) SpellsProgram (tokens_of p)
program-has [] is = absurd is.modules
program-has (m ∷ others) is =
    made-has (both-has (module-has m (All-head IsModule m others is.each))
    (many-has unplaced_module SpellsModule module_tokens IsModule module-has others (All-tail IsModule m others is.each)))
    (λ found. found.0 ∷ found.1) (λ found same. ap₂ (λ a b. a ∷ b) same.0 same.1) (λ found tokens member. member)

pub spellings-are-grammatical : SpellingsAreGrammatical
spellings-are-grammatical p is tokens spelled = (program-has p is).gives tokens spelled

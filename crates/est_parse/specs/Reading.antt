-- Inner: the reading function of the grammar, from the left with one token ahead.
use Rattle.std.specs.Prelude.{ℕ, zero, suc, Bool, false, List, ◌∷◌, Option, Ok}
use Rattle.base_types.specs.declared.place.Span.{Span}
use Rattle.est_ast.specs.declared.tokens.Token.{Token}
use Rattle.est_ast.specs.declared.tokens.Reserved.{Reserved}
use Rattle.est_ast.specs.declared.tokens.Reserved.TheVariants as words
use Rattle.est_ast.specs.declared.tokens.Mark.{Mark}
use Rattle.est_ast.specs.declared.tokens.Mark.TheVariants as marks
use Rattle.est_ast.specs.declared.trees.Name.{Name}
use Rattle.est_ast.specs.declared.trees.Rename.{Rename}
use Rattle.est_ast.specs.Trees.{Expr, Tick, Sig, Not, And, Or, Round, Square, exprs, Delay, Plain, Immediate, Stmt, At}
use Rattle.est_ast.specs.Trees.{Form, Nothing, Pause, Halt, Emit, Sustain, Every, Repeat, WeakAbort, Suspend, Trap}
use Rattle.est_ast.specs.Trees.{Exit, Signal, Run, Seq, Par, Group, Part, Handler, Stmts, Cases, cases, NamedRelation}
use Rattle.est_ast.specs.Trees.{Implies, Excludes, Decl, Input, InputOutput, Output, Relations, Module, SourceProgram}
use Rattle.est_ast.specs.Grammar.{word, mark, name, number, span_of}
use Rattle.est_parse.specs.declared.openings.Opening.{Opening}
use Rattle.est_parse.specs.declared.openings.Opening.TheVariants as openings
use Rattle.est_parse.specs.declared.openings.Flat.{Flat}
use Rattle.est_parse.specs.declared.openings.Block.{Block}
use Rattle.est_parse.specs.declared.openings.Flat.TheVariants as flats
use Rattle.est_parse.specs.declared.openings.Block.TheVariants as blocks
use Rattle.est_parse.specs.declared.openings.Bracket.{Bracket}
use Rattle.est_parse.specs.declared.openings.Bracket.TheVariants as brackets
use Rattle.est_parse.specs.declared.openings.Declaration.{Declaration}
use Rattle.est_parse.specs.declared.openings.Declaration.TheVariants as declarations
use Rattle.est_parse.specs.Openings.{opening, is_deep, Leaf, TickLeaf, NameLeaf, part_start, event_start, declaration}
use Rattle.est_parse.specs.Parts.{stmt_list, part_of, handler_of, renames_of, count_of, Tail, CaseTail}
use Rattle.est_parse.specs.Parts.{DelayTail, await_of, abort_of, Choice, CaseChoice, TestChoice, present_of, loop_of}
use Rattle.est_parse.specs.Parts.{Head, GroupHead, LoopHead, EveryHead, RepeatHead, AbortHead, WeakHead}
use Rattle.est_parse.specs.Parts.{SuspendHead, TrapHead, SignalHead}
use Rattle.base_expressions.specs.declared.language.Joint.{Joint}
use Rattle.base_expressions.specs.declared.language.Joint.TheVariants as joints
use Rattle.base_expressions.specs.Reading as tiers
use Rattle.base_reader.specs.Readings.{Read, Rule, follow, taken_of, refuse, give, mapped, both, trail, ahead, on, the}
use Rattle.base_reader.specs.Readings.{maybe, loop, placed}
use Rattle.base_reader.specs.Choice.{optional_or, may, trailing, choose}

-- one or more with separators between them
abbrev pub list_step : {A : Type 0} → Mark → Rule Token A → Rule Token (Option A)
list_step m p = optional_or (mark m) (λ _. p) (give tt)

abbrev pub listed : {A : Type 0} → Mark → Rule Token A → Rule Token (List A)
listed m p = mapped (λ found. found.0 ∷ found.1) (both p (loop (list_step m p)))

-- "end" and maybe the word
abbrev pub ends : Reserved → Rule Token (Unit {0})
ends w = on (word words.End) (λ _. may (word w))

-- Tests.

abbrev pub closing_mark : Bracket → Token → Option (Unit {0})
closing_mark brackets.Round = mark marks.RightParenthesis
closing_mark brackets.Square = mark marks.RightBracket

abbrev pub leaf_of : Leaf → Expr
leaf_of (TickLeaf span) = Tick span
leaf_of (NameLeaf n) = Sig n

abbrev pub bracketed : Bracket → Expr → Expr
bracketed brackets.Round = Round
bracketed brackets.Square = Square

abbrev pub joint_mark : Joint → Token → Option (Unit {0})
joint_mark joints.And = word words.And
joint_mark joints.Or = word words.Or

abbrev pub joined : Joint → List Expr → Expr
joined joints.And es = And (exprs es)
joined joints.Or es = Or (exprs es)

-- tests as expressions by tiers
abbrev pub tests : tiers.Tiers Token Bracket Leaf Expr
tests = record {
  opening = part_start;
  closing = closing_mark;
  mark = joint_mark;
  leaf = leaf_of;
  negation = Not;
  bracketed = bracketed;
  joined = joined;
}

abbrev pub expr : ℕ → Rule Token Expr
expr room = tiers.expr tests room

-- what an event begins with, it begins as a part of a test does
abbrev pub event : ℕ → Rule Token Expr
event room = choose event_start tiers.is_deep room (λ o. tiers.opened tests o (tiers.inside tests room))

abbrev pub immediate : Rule Token Expr → Rule Token Delay
immediate event = mapped Immediate (on (word words.Immediate) (λ _. event))

abbrev pub count : Rule Token Expr → Rule Token Delay
count event = ahead number (mapped count_of (both (the number) event)) (mapped Plain event)

abbrev pub delay : Rule Token Expr → Rule Token Delay
delay event = ahead (word words.Immediate) (immediate event) (count event)

abbrev pub test : Rule Token Expr → Rule Token Delay
test event = ahead (word words.Immediate) (immediate event) (mapped Plain event)

-- Statements.

-- the rules for tests, events and statements at a room
pub record Rules : Type 0 where
  pub expr : Rule Token Expr
  pub event : Rule Token Expr
  pub whole : Rule Token Stmt

abbrev pub part : Reserved → Rule Token Stmt → Rule Token Part
part w whole = mapped part_of (optional_or (word w) (λ _. whole) (give tt))

abbrev pub do_part : Reserved → Rule Token Stmt → Rule Token Part
do_part w whole = mapped part_of (optional_or (word words.Do) (λ _. trail whole (ends w)) (give tt))

-- what comes after "case"
abbrev pub case_behind : Rules → Rule Token (Expr × Part)
case_behind r = both r.expr (part words.Do r.whole)

abbrev pub case_step : Rules → Rule Token (Option (Expr × Part))
case_step r = optional_or (word words.Case) (λ _. case_behind r) (give tt)

abbrev pub case_list : Rules → Rule Token Cases
case_list r = mapped (λ found. cases (found.0 ∷ found.1))
    (both (on (word words.Case) (λ _. case_behind r)) (loop (case_step r)))

abbrev pub tail : Reserved → Rules → Rule Token Tail
tail w r =
    ahead (word words.Case) (mapped CaseTail (trail (case_list r) (ends w)))
    (mapped (λ found. DelayTail found.0 found.1) (both (delay r.event) (do_part w r.whole)))

abbrev pub choice : Rules → Rule Token Choice
choice r =
    ahead (word words.Case)
    (mapped (λ found. CaseChoice found.0 found.1) (both (case_list r)
    (trail (part words.Else r.whole) (ends words.Present))))
    (mapped (λ found. TestChoice found.0 found.1.0 found.1.1)
    (both r.expr (both (part words.Then r.whole) (trail (part words.Else r.whole) (ends words.Present)))))

abbrev pub loop_tail : Rules → Rule Token (Option Delay)
loop_tail r = optional_or (word words.Each) (λ _. count r.event) (ends words.Loop)

abbrev pub repeat_parts : Rules → Rule Token ((ℕ × Span) × Stmt)
repeat_parts r = both (the number) (on (word words.Times) (λ _. trail r.whole (ends words.Repeat)))

abbrev pub handler : Rules → Rule Token Handler
handler r = mapped handler_of (optional_or (word words.Handle)
    (λ _. both (the name) (on (word words.Do) (λ _. r.whole))) (give tt))

abbrev pub rename : Rule Token Rename
rename = mapped (λ found. record { actual = found.0; formal = found.1 })
    (both (the name) (on (mark marks.Slash) (λ _. the name)))

abbrev pub renames : Rule Token (List Rename)
renames =
    mapped renames_of (optional_or (mark marks.LeftBracket)
    (λ _. on (word words.Signal) (λ _. trail (listed marks.Comma rename) (the (mark marks.RightBracket)))) (give tt))

-- what comes after the token of an item without a statement in it
abbrev pub flat_behind : Flat → Rule Token Form
flat_behind flats.Nothing = give Nothing
flat_behind flats.Pause = give Pause
flat_behind flats.Halt = give Halt
flat_behind flats.Emit = mapped Emit (the name)
flat_behind flats.Sustain = mapped Sustain (the name)
flat_behind flats.Exit = mapped Exit (the name)
flat_behind flats.Run = mapped (λ found. Run found.0 found.1) (both (the name) renames)

-- what stands between the token of an item and its statement
abbrev pub head : Block → Rule Token Expr → Rule Token Head
head blocks.Group event = give GroupHead
head blocks.Loop event = give LoopHead
head blocks.Every event = mapped EveryHead (trail (delay event) (the (word words.Do)))
head blocks.Repeat event = mapped (λ found. RepeatHead found.0 found.1) (trail (the number) (the (word words.Times)))
head blocks.Positive event =
    on (word words.Repeat) (λ _. mapped (λ found. RepeatHead found.0 found.1)
    (trail (the number) (the (word words.Times))))
head blocks.Abort event = give AbortHead
head blocks.Weak event = on (word words.Abort) (λ _. give WeakHead)
head blocks.Suspend event = give SuspendHead
head blocks.Trap event = mapped TrapHead (trail (the name) (the (word words.In)))
head blocks.Signal event = mapped SignalHead (trail (listed marks.Comma (the name)) (the (word words.In)))

-- what comes after the statement
abbrev pub closing : Rules → Head → Stmt → Rule Token Form
closing r GroupHead p = mapped (λ _. Group p) (the (mark marks.RightBracket))
closing r LoopHead p = mapped (λ d. loop_of (p, d)) (loop_tail r)
closing r (EveryHead d) p = mapped (λ _. Every d p) (ends words.Every)
closing r (RepeatHead count span) p = mapped (λ _. Repeat count span p) (ends words.Repeat)
closing r AbortHead p = mapped (λ t. abort_of (p, t)) (on (word words.When) (λ _. tail words.Abort r))
closing r WeakHead p = mapped (λ d. WeakAbort p d) (on (word words.When) (λ _. delay r.event))
closing r SuspendHead p = mapped (λ d. Suspend p d) (on (word words.When) (λ _. test r.event))
closing r (TrapHead n) p = mapped (λ h. Trap n p h) (trail (handler r) (ends words.Trap))
closing r (SignalHead names) p = mapped (λ _. Signal names p) (ends words.Signal)

-- an item with a statement in it
abbrev pub blocked : Rules → Rule Token Head → Rule Token Form
blocked r before tokens = follow (before tokens) (λ h rest. follow (r.whole rest) (closing r h))

-- what comes after the token that begins an item
abbrev pub item_behind : Opening → Rules → Rule Token Form
item_behind (openings.Flat flat) r = flat_behind flat
item_behind openings.Await r = mapped await_of (tail words.Await r)
item_behind openings.Present r = mapped present_of (choice r)
item_behind (openings.Block block) r = blocked r (head block r.event)

abbrev pub form : ℕ → Rules → Rule Token Form
form room inner = choose opening is_deep room (λ o. item_behind o inner)

abbrev pub item : ℕ → Rules → Rule Token Stmt
item room inner = mapped (λ found. At found.1 found.0) (placed span_of (form room inner))

-- parts with a mark between them, and the place of the whole
abbrev pub stmt_parts : (Stmts → Form) → Rule Token Stmt → Rule Token (Option Stmt) → Rule Token Stmt
stmt_parts node part step =
    mapped (λ found. stmt_list node (found.0.0 ∷ found.0.1) found.1) (placed span_of (both part (loop step)))

-- what was read so far, in front of the parts that are left: the place ends where those end
abbrev pub finished : (List Stmt → Span → Stmt) → List Token → Read Token (List Stmt) → Read Token Stmt
finished f tokens read = follow read (λ others rest. Ok (f others (span_of (taken_of tokens rest)), rest))

abbrev pub line_step : ℕ → Rules → Rule Token (Option Stmt)
line_step room inner = trailing (mark marks.Semicolon) opening (item room inner)

abbrev pub line : ℕ → Rules → Rule Token Stmt
line room inner = stmt_parts Seq (item room inner) (line_step room inner)

abbrev pub whole_step : ℕ → Rules → Rule Token (Option Stmt)
whole_step room inner = optional_or (mark marks.DoubleBar) (λ _. line room inner) (give tt)

abbrev pub whole : ℕ → Rules → Rule Token Stmt
whole room inner = stmt_parts Par (line room inner) (whole_step room inner)

abbrev pub no_rules : Rules
no_rules = record { expr = refuse; event = refuse; whole = refuse }

abbrev pub rules_of : ℕ → Rules → Rules
rules_of room inner = record { expr = expr room; event = event room; whole = whole room inner }

-- the rules inside what the next token opens, never used where there is no room
abbrev pub inside : ℕ → Rules
inside zero = no_rules
inside (suc room) = rules_of room (inside room)

abbrev pub rules : ℕ → Rules
rules room = rules_of room (inside room)

abbrev pub statement : ℕ → Rule Token Stmt
statement room = (rules room).whole

-- Modules.

-- what comes after the first name of a relation
pub data Related : Type 0 where
  Effect : Name → Related
  Others : List Name → Related

abbrev pub relation_of : Name × Related → NamedRelation
relation_of (first, Effect effect) = Implies first effect
relation_of (first, Others others) = Excludes (first ∷ others)

abbrev pub relation : Rule Token NamedRelation
relation =
    mapped relation_of (both (the name)
    (ahead (mark marks.Arrow) (mapped Effect (on (mark marks.Arrow) (λ _. the name)))
    (mapped Others (on (mark marks.Hash) (λ _. listed marks.Hash (the name))))))

abbrev pub declared : {A : Type 0} → Rule Token A → Rule Token (List A)
declared p = trail (listed marks.Comma p) (the (mark marks.Semicolon))

abbrev pub declaration_behind : Declaration → Rule Token Decl
declaration_behind declarations.Input = mapped Input (declared (the name))
declaration_behind declarations.InputOutput = mapped InputOutput (declared (the name))
declaration_behind declarations.Output = mapped Output (declared (the name))
declaration_behind declarations.Relation = mapped Relations (declared relation)

abbrev pub is_deep_declaration : Declaration → Bool
is_deep_declaration _ = false

abbrev pub decl : ℕ → Rule Token Decl
decl room = choose declaration is_deep_declaration room declaration_behind

abbrev pub decl_step : ℕ → Rule Token (Option Decl)
decl_step room = maybe declaration (decl room)

abbrev pub ends_module : Rule Token (Unit {0})
ends_module = ahead (mark marks.Period) (the (mark marks.Period)) (on (word words.End) (λ _. the (word words.Module)))

abbrev pub module_rule : ℕ → Rule Token Module
module_rule room =
    on (word words.Module) (λ _. mapped (λ found. record { name = found.0; decls = found.1.0; body = found.1.1 })
    (both (the name) (on (mark marks.Colon) (λ _. both (loop (decl_step room)) (trail (statement room) ends_module)))))

abbrev pub module_step : ℕ → Rule Token (Option Module)
module_step room = maybe (word words.Module) (module_rule room)

abbrev pub program : ℕ → Rule Token SourceProgram
program room = mapped (λ found. found.0 ∷ found.1) (both (module_rule room) (loop (module_step room)))

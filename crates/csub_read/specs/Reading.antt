-- Inner: the reading function of the grammar, from the left with one token ahead. What it makes of an expression is
-- left open: it makes what is written, and what that means.
use Rattle.std.specs.Prelude.{ℕ, List, map, Option, Some, None, Result}
use Rattle.std.specs.Borrow.{Bor}
use Rattle.csub_text.specs.Tokens.{Kind, Static, Int, Return, Void, React, LeftParenthesis, RightParenthesis, LeftBrace}
use Rattle.csub_text.specs.Tokens.{RightBrace, Semicolon, Equals}
use Rattle.csub_text.specs.Trees.{Expr, StateVariable, Program}
use Rattle.csub_text.specs.Trees as trees
use Rattle.csub_text.specs.Grammar.{is, sign, name, bit, own_name, global_name, WrittenAssign, WrittenProgram}
use Rattle.net_expressions.specs.Grammar.{Written}
use Rattle.net_expressions.specs.Reading as reading
pub use Rattle.net_expressions.specs.Reading.{Maker, makes_expr, makes_written, FindsBy, GivesKinds}
use Rattle.base_reader.specs.declared.faults.ReadError.{ReadError}
use Rattle.base_reader.specs.Readings.{Read, Rule, mapped, both, trail, ahead, on, the, maybe, loop}
use Rattle.net_expressions.specs.declared.kinds.Token.{Token}
use Rattle.csub_read.specs.declared.tokens.Kind.{Kind as CodeKind}
use Rattle.csub_text.specs.declared.trees.Assign.{Assign as CodeAssign}
use Rattle.csub_text.specs.declared.trees.CProgram.{CProgram}
use Rattle.csub_text.specs.Views.{expr_of, state_of}
use Rattle.csub_read.specs.Tokens.{kind_of}

-- what code returned of its tokens, seen by a view, is what a function answers on their kinds, unless memory ran out
abbrev pub FindsKinds : {X Y : Type 0} → (X → Y) → Result (X × Bor (List (Token CodeKind))) ReadError → Read Kind Y
    → Type 0
FindsKinds = FindsBy kind_of

-- expr
abbrev pub expr : {A : Type 0} → Maker A → ℕ → Rule Kind A
expr = reading.expr sign

-- ---- whole texts

-- a state, after "static"
abbrev pub state_behind : Rule Kind StateVariable
state_behind =
    on (is Int) (λ _. mapped (λ found. record { name = found.0; init = found.1 })
    (both (the own_name) (on (is Equals) (λ _. trail (the bit) (the (is Semicolon))))))

abbrev pub state_rule : Rule Kind StateVariable
state_rule = on (is Static) (λ _. state_behind)

abbrev pub state_step : Rule Kind (Option StateVariable)
state_step = maybe (is Static) state_rule

-- a global, after "int"
abbrev pub global_behind : Rule Kind (List ℕ)
global_behind = trail (the global_name) (the (is Semicolon))

-- after "int": a global, or "react", which ends the list
abbrev pub global_tail : Rule Kind (Option (List ℕ))
global_tail =
    ahead (is React) (mapped (λ _. None) (the (is React))) (mapped Some global_behind)

abbrev pub global_step : Rule Kind (Option (List ℕ))
global_step = on (is Int) (λ _. global_tail)

-- a local, after "int"
abbrev pub local_behind : Rule Kind (List ℕ)
local_behind = trail (the own_name) (the (is Semicolon))

abbrev pub local_rule : Rule Kind (List ℕ)
local_rule = on (is Int) (λ _. local_behind)

abbrev pub local_step : Rule Kind (Option (List ℕ))
local_step = maybe (is Int) local_rule

-- what an assignment has after its name
abbrev pub assign_behind : {A : Type 0} → Maker A → ℕ → Rule Kind A
assign_behind m room = on (is Equals) (λ _. trail (expr m room) (the (is Semicolon)))

abbrev pub assign_rule : {A : Type 0} → Maker A → ℕ → Rule Kind (List ℕ × A)
assign_rule m room = both (the name) (assign_behind m room)

abbrev pub assign_step : {A : Type 0} → Maker A → ℕ → Rule Kind (Option (List ℕ × A))
assign_step m room = maybe name (assign_rule m room)

abbrev pub answer_rule : {A : Type 0} → Maker A → ℕ → Rule Kind A
answer_rule m room =
    on (is Return) (λ _. trail (expr m room) (on (is Semicolon) (λ _. the (is RightBrace))))

-- the parts of a text
pub record Parts (A : Type 0) : Type 0 where
  pub states : List StateVariable
  pub globals : List (List ℕ)
  pub locals : List (List ℕ)
  pub body : List (List ℕ × A)
  pub answer : A

abbrev pub parts_of : {A : Type 0} → List StateVariable × (List (List ℕ) × (List (List ℕ) × (List (List ℕ × A) × A)))
    → Parts A
parts_of found = record {
  states = found.0;
  globals = found.1.0;
  locals = found.1.1.0;
  body = found.1.1.1.0;
  answer = found.1.1.1.1;
}

-- the assignments and the expression returned
abbrev pub body_rule : {A : Type 0} → Maker A → ℕ → Rule Kind (List (List ℕ × A) × A)
body_rule m room = both (loop (assign_step m room)) (answer_rule m room)

-- what comes after "react", where a rule is given for what comes after the locals
abbrev pub function_rule : {B : Type 0} → Rule Kind B → Rule Kind (List (List ℕ) × B)
function_rule body =
    on (is LeftParenthesis) (λ _. on (is Void) (λ _. on (is RightParenthesis) (λ _. on (is LeftBrace) (λ _.
    both (loop local_step) body))))

-- a whole text, the same
abbrev pub whole_rule : {B : Type 0} → Rule Kind B
    → Rule Kind (List StateVariable × (List (List ℕ) × (List (List ℕ) × B)))
whole_rule body = both (loop state_step) (both (loop global_step) (function_rule body))

abbrev pub text_rule : {A : Type 0} → Maker A → ℕ → Rule Kind (Parts A)
text_rule m room = mapped parts_of (whole_rule (body_rule m room))

abbrev pub written_assign : List ℕ × Written → WrittenAssign
written_assign a = record { target = a.0; value = a.1 }

abbrev pub written_of : Parts Written → WrittenProgram
written_of p = record {
  states = p.states;
  globals = p.globals;
  locals = p.locals;
  body = map written_assign p.body;
  answer = p.answer;
}

abbrev pub expr_assign : List ℕ × Expr → trees.Assign
expr_assign a = record { target = a.0; value = a.1 }

abbrev pub expr_program : Parts Expr → Program
expr_program p = record {
  states = p.states;
  globals = p.globals;
  locals = p.locals;
  body = map expr_assign p.body;
  answer = p.answer;
}

-- the plain forms of an assignment and of a program, as their parts
abbrev pub pair_of : CodeAssign → List ℕ × Expr
pair_of a = (a.to, expr_of a.value)

abbrev pub parts_in : CProgram → Parts Expr
parts_in p = record {
  states = map state_of p.states.items;
  globals = p.globals.items;
  locals = p.locals.items;
  body = map pair_of p.body.items;
  answer = expr_of p.answer;
}

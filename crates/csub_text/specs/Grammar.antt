-- To believe: the grammar of the C subset, as a relation between whole lists of tokens and what is written. In words,
-- with the expressions of expr_text over `!`, `&`, `|`, `0` and `1`:
--
--   text   = { state } { global } "int" "react" "(" "void" ")" "{" { local } { assign } "return" expr ";" "}"
--
--   state  = "static" "int" NAME "=" ( "0" | "1" ) ";"
--   global = "int" NAME ";"        The name begins with I_ or O_ and is longer.
--   local  = "int" NAME ";"        The name does not begin with I_ or O_, and neither does that of a state.
--   assign = NAME "=" expr ";"
use Rattle.std.specs.Prelude.{ℕ, max, Bool, true, false, ◌||◌, ◌&&◌, List, [], ◌∷◌, length, nat_lt}
use Rattle.std.specs.Prelude.{take, codes, Option, Some, None, if◌then◌else◌, map}
use Rattle.base_types.specs.Names.{is_same_name}
use Rattle.base_reader.specs.Languages.{One as Single, Then, Led, Loop, Many, Within}
use Rattle.csub_text.specs.Tokens.{Kind, Static, Int, Return, Void, React, If, Else, LeftParenthesis}
use Rattle.csub_text.specs.Tokens.{RightParenthesis, LeftBrace, RightBrace, Semicolon, Equals, Zero, One, Bar}
use Rattle.csub_text.specs.Tokens.{Ampersand, Bang, Named, Bad}
use Rattle.csub_text.specs.Trees.{StateVariable, Assign, Program}
use Rattle.net_expressions.specs.Signs.{Sign, NameSign, BitSign, NotSign, OpenSign, CloseSign, AndSign, OrSign}
use Rattle.net_expressions.specs.Signs.{OtherSign}
use Rattle.net_expressions.specs.Signs.{numbered_as, named, constant}
use Rattle.net_expressions.specs.Grammar.{Written, meant, written_nesting, Disjunction, SpellsExpr}

-- ---- tests of one token

-- a number for each kind, the same for all names
abbrev pub kind_number : Kind → ℕ
kind_number Static = 0
kind_number Int = 1
kind_number Return = 2
kind_number Void = 3
kind_number React = 4
kind_number If = 5
kind_number Else = 6
kind_number LeftParenthesis = 7
kind_number RightParenthesis = 8
kind_number LeftBrace = 9
kind_number RightBrace = 10
kind_number Semicolon = 11
kind_number Equals = 12
kind_number Zero = 13
kind_number One = 14
kind_number Bar = 15
kind_number Ampersand = 16
kind_number Bang = 17
kind_number (Named name) = 18
kind_number Bad = 19

-- this word or mark
abbrev pub is : Kind → Kind → Option (Unit {0})
is kind = numbered_as kind_number (kind_number kind)

-- what a token is in an expression
abbrev pub sign : Kind → Sign
sign (Named n) = NameSign n
sign Zero = BitSign false
sign One = BitSign true
sign Bang = NotSign
sign LeftParenthesis = OpenSign
sign RightParenthesis = CloseSign
sign Ampersand = AndSign
sign Bar = OrSign
sign others = OtherSign

-- NAME
abbrev pub name : Kind → Option (List ℕ)
name = named sign

-- "0" | "1"
abbrev pub bit : Kind → Option Bool
bit = constant sign

-- the names of inputs begin with I_, those of outputs with O_
abbrev pub begins_input : List ℕ → Bool
begins_input name = is_same_name (take 2 name) (codes "I_")

abbrev pub begins_output : List ℕ → Bool
begins_output name = is_same_name (take 2 name) (codes "O_")

abbrev pub begins_global : List ℕ → Bool
begins_global name = begins_input name || begins_output name

-- NAME of a global
abbrev pub global_name : Kind → Option (List ℕ)
global_name (Named n) = if begins_global n && nat_lt 2 (length n) then Some n else None
global_name others = None

-- NAME of a state or a local
abbrev pub own_name : Kind → Option (List ℕ)
own_name (Named n) = if begins_global n then None else Some n
own_name others = None

-- expr
abbrev pub SpellsExpression : Written → List Kind → Type 0
SpellsExpression = SpellsExpr sign Disjunction

-- ---- whole texts

pub record WrittenAssign : Type 0 where
  pub target : List ℕ
  pub value : Written

pub record WrittenProgram : Type 0 where
  pub states : List StateVariable
  pub globals : List (List ℕ)
  pub locals : List (List ℕ)
  pub body : List WrittenAssign
  pub answer : Written

-- "static" "int" NAME "=" ( "0" | "1" ) ";"
abbrev pub SpellsState : StateVariable → List Kind → Type 0
SpellsState s =
    Led (is Static) (λ _. Led (is Int) (λ _. Then (Single own_name s.name)
    (Led (is Equals) (λ _. Then (Single bit s.init) (Single (is Semicolon) tt)))))

-- "int" NAME ";", and after the last global "int" "react"
abbrev pub SpellsGlobal : Option (List ℕ) → List Kind → Type 0
SpellsGlobal None = Led (is Int) (λ _. Single (is React) tt)
SpellsGlobal (Some n) = Led (is Int) (λ _. Then (Single global_name n) (Single (is Semicolon) tt))

-- "int" NAME ";"
abbrev pub SpellsLocal : List ℕ → List Kind → Type 0
SpellsLocal n = Led (is Int) (λ _. Then (Single own_name n) (Single (is Semicolon) tt))

-- NAME "=" expr ";"
abbrev pub SpellsAssign : WrittenAssign → List Kind → Type 0
SpellsAssign a =
    Then (Single name a.target)
    (Led (is Equals) (λ _. Then (SpellsExpression a.value) (Single (is Semicolon) tt)))

-- "return" expr ";" "}"
abbrev pub SpellsAnswer : Written → List Kind → Type 0
SpellsAnswer e =
    Led (is Return) (λ _. Then (SpellsExpression e) (Led (is Semicolon) (λ _. Single (is RightBrace) tt)))

abbrev pub SpellsText : WrittenProgram → List Kind → Type 0
SpellsText p =
    Then (Many SpellsState p.states) (Then (Loop SpellsGlobal p.globals)
    (Led (is LeftParenthesis) (λ _. Led (is Void) (λ _. Led (is RightParenthesis) (λ _. Led (is LeftBrace) (λ _.
    Then (Many SpellsLocal p.locals) (Then (Many SpellsAssign p.body) (SpellsAnswer p.answer))))))))

abbrev pub body_nesting : List WrittenAssign → ℕ
body_nesting [] = 0
body_nesting (a ∷ body) = max (written_nesting a.value) (body_nesting body)

abbrev pub text_nesting : WrittenProgram → ℕ
text_nesting p = max (body_nesting p.body) (written_nesting p.answer)

-- the tokens spell what is written, and its expressions are nested at most so deep
abbrev pub IsText : ℕ → WrittenProgram → List Kind → Type 0
IsText = Within SpellsText text_nesting

-- the program that is written
abbrev pub assign_meant : WrittenAssign → Assign
assign_meant a = record { target = a.target; value = meant a.value }

abbrev pub program_meant : WrittenProgram → Program
program_meant p = record {
  states = p.states;
  globals = p.globals;
  locals = p.locals;
  body = map assign_meant p.body;
  answer = meant p.answer;
}

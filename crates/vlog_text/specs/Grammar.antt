-- To believe: the grammar of the subset, as a relation between whole lists of tokens and what is written. In words,
-- with the expressions of expr_text over `~`, `&`, `|`, where BIT is `1'b0` or `1'b1`:
--
--   text   = "module" NAME "(" NAME { "," NAME } ")" ";" { decl } { init } { assign }
--            "always" "@" "(" "posedge" NAME ")" "begin" { NAME "<=" NAME ";" } "end" "endmodule"
--
--   decl   = ( "input" | "output" | "wire" | "reg" ) NAME ";"
--   init   = "initial" NAME "=" BIT ";"
--   assign = "assign" NAME "=" expr ";"
use Rattle.std.specs.Prelude.{ℕ, max, Bool, true, false, List, [], ◌∷◌, map, Option, Some, None}
use Rattle.base_reader.specs.Languages.{Empty, One as Single, Then, Led, Loop, Many, Parted, Within}
use Rattle.net_expressions.specs.Signs.{Sign, NameSign, BitSign, NotSign, OpenSign, CloseSign, AndSign, OrSign}
use Rattle.net_expressions.specs.Signs.{OtherSign}
use Rattle.net_expressions.specs.Signs.{numbered_as, named, constant}
use Rattle.net_expressions.specs.Trees.{Expr}
use Rattle.net_expressions.specs.Grammar.{Written, written_nesting, meant, Disjunction, SpellsExpr}
use Rattle.vlog_text.specs.Trees.{Sort, Declaration, Initial, Assign, Next, Source}
use Rattle.vlog_text.specs.Tokens.{Kind, ModuleWord, InitialWord, AssignWord, AlwaysWord, PosedgeWord, BeginWord}
use Rattle.vlog_text.specs.Tokens.{EndWord, EndmoduleWord, LeftParenthesis, RightParenthesis, Comma, Semicolon, Equals}
use Rattle.vlog_text.specs.Tokens.{At, Bar, Ampersand, Tilde, Becomes, Zero, One, Declares, Named, Bad}

-- ---- tests of one token

-- a number for each kind, the same for all names, and for all words that declare
abbrev pub kind_number : Kind → ℕ
kind_number ModuleWord = 0
kind_number InitialWord = 1
kind_number AssignWord = 2
kind_number AlwaysWord = 3
kind_number PosedgeWord = 4
kind_number BeginWord = 5
kind_number EndWord = 6
kind_number EndmoduleWord = 7
kind_number LeftParenthesis = 8
kind_number RightParenthesis = 9
kind_number Comma = 10
kind_number Semicolon = 11
kind_number Equals = 12
kind_number At = 13
kind_number Bar = 14
kind_number Ampersand = 15
kind_number Tilde = 16
kind_number Becomes = 17
kind_number Zero = 18
kind_number One = 19
kind_number (Declares sort) = 20
kind_number (Named name) = 21
kind_number Bad = 22

-- this word or mark
abbrev pub is : Kind → Kind → Option (Unit {0})
is kind = numbered_as kind_number (kind_number kind)

-- what a token is in an expression
abbrev pub sign : Kind → Sign
sign (Named n) = NameSign n
sign Zero = BitSign false
sign One = BitSign true
sign Tilde = NotSign
sign LeftParenthesis = OpenSign
sign RightParenthesis = CloseSign
sign Ampersand = AndSign
sign Bar = OrSign
sign others = OtherSign

-- NAME
abbrev pub name : Kind → Option (List ℕ)
name = named sign

-- BIT
abbrev pub bit : Kind → Option Bool
bit = constant sign

-- "input" | "output" | "wire" | "reg"
abbrev pub sort : Kind → Option Sort
sort (Declares s) = Some s
sort others = None

-- expr
abbrev pub SpellsExpression : Written → List Kind → Type 0
SpellsExpression = SpellsExpr sign Disjunction

-- ---- whole texts

-- NAME { "," NAME }
abbrev pub SpellsPorts : List (List ℕ) → List Kind → Type 0
SpellsPorts [] = λ _. ⊥
SpellsPorts (n ∷ others) = Then (Single name n) (Loop (Parted (is Comma) (λ _. Single name) Empty) others)

-- "module" NAME "(" NAME { "," NAME } ")" ";"
abbrev pub SpellsHead : List ℕ → List (List ℕ) → List Kind → Type 0
SpellsHead n ports =
    Led (is ModuleWord) (λ _. Then (Single name n) (Led (is LeftParenthesis) (λ _. Then (SpellsPorts ports)
    (Led (is RightParenthesis) (λ _. Single (is Semicolon) tt)))))

-- ( "input" | "output" | "wire" | "reg" ) NAME ";"
abbrev pub SpellsDeclaration : Declaration → List Kind → Type 0
SpellsDeclaration d = Then (Single sort d.sort) (Then (Single name d.name) (Single (is Semicolon) tt))

-- "initial" NAME "=" BIT ";"
abbrev pub SpellsInitial : Initial → List Kind → Type 0
SpellsInitial i =
    Led (is InitialWord) (λ _. Then (Single name i.name)
    (Led (is Equals) (λ _. Then (Single bit i.value) (Single (is Semicolon) tt))))

-- "assign" NAME "=" expr ";"
abbrev pub SpellsAssign : Assign Written → List Kind → Type 0
SpellsAssign a =
    Led (is AssignWord) (λ _. Then (Single name a.target)
    (Led (is Equals) (λ _. Then (SpellsExpression a.value) (Single (is Semicolon) tt))))

-- NAME "<=" NAME ";"
abbrev pub SpellsNext : Next → List Kind → Type 0
SpellsNext n =
    Then (Single name n.target)
    (Led (is Becomes) (λ _. Then (Single name n.source) (Single (is Semicolon) tt)))

-- "always" "@" "(" "posedge" NAME ")" "begin"
abbrev pub SpellsClock : List ℕ → List Kind → Type 0
SpellsClock clock =
    Led (is AlwaysWord) (λ _. Led (is At) (λ _. Led (is LeftParenthesis) (λ _. Led (is PosedgeWord) (λ _.
    Then (Single name clock) (Led (is RightParenthesis) (λ _. Single (is BeginWord) tt))))))

-- and after it { NAME "<=" NAME ";" } "end" "endmodule"
abbrev pub SpellsClocked : List ℕ → List Next → List Kind → Type 0
SpellsClocked clock nexts =
    Then (SpellsClock clock)
    (Then (Many SpellsNext nexts) (Led (is EndWord) (λ _. Single (is EndmoduleWord) tt)))

abbrev pub SpellsText : Source Written → List Kind → Type 0
SpellsText s =
    Then (SpellsHead s.name s.ports) (Then (Many SpellsDeclaration s.declarations)
    (Then (Many SpellsInitial s.initials) (Then (Many SpellsAssign s.assigns) (SpellsClocked s.clock s.nexts))))

abbrev pub assigns_nesting : List (Assign Written) → ℕ
assigns_nesting [] = 0
assigns_nesting (a ∷ assigns) = max (written_nesting a.value) (assigns_nesting assigns)

-- the tokens spell what is written, and its expressions are nested at most so deep
abbrev pub IsText : ℕ → Source Written → List Kind → Type 0
IsText = Within SpellsText (λ s. assigns_nesting s.assigns)

-- what is said, without brackets
abbrev pub assign_meant : Assign Written → Assign Expr
assign_meant a = record { target = a.target; value = meant a.value }

abbrev pub source_meant : Source Written → Source Expr
source_meant s = record {
  name = s.name;
  ports = s.ports;
  declarations = s.declarations;
  initials = s.initials;
  assigns = map assign_meant s.assigns;
  clock = s.clock;
  nexts = s.nexts;
}

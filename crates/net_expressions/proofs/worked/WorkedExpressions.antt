-- Worked expressions, by hand: their names, values and texts, the names of a net's parts, and how a text is cut into tokens.
use Rattle.std.proofs.Common.{◌≡◌, ℕ, ◌==◌, Bool, true, false, List, [], ◌∷◌, map, Option, None, Some, codes, refl, if◌then◌else◌}
use Rattle.std.specs.Fmt.{digits}
use Rattle.std.specs.Prelude.{filter}
use Rattle.net_ir.specs.declared.netlist.Op.{Op}
use Rattle.net_ir.specs.declared.netlist.Op.TheVariants as ops
use Rattle.net_ir.specs.Netlists.{Netlist}
use Rattle.net_expressions.specs.Trees.{Expr, Name, Const, Not, And, Or, Exprs, NoExprs, MoreExprs}
use Rattle.net_expressions.specs.Names.{names_in, or_else}
use Rattle.net_expressions.specs.Values.{value_of}
use Rattle.net_expressions.specs.Texts.{text_of}
use Rattle.net_expressions.specs.NetNames.{name_of_net, gate_names}
use Rattle.net_expressions.specs.Operators.{op_expr}
use Rattle.net_expressions.specs.Lexemes.{PlacedToken, Front, Gap, Lexeme, Wrong, is_space, begins_name, mark_front, tokens_behind, place_of}
use Rattle.net_expressions.specs.Signs.{Sign, NameSign, BitSign, NotSign, OpenSign, CloseSign, AndSign, OrSign, OtherSign, sign_number, signed, named, constant}

abbrev two : Expr → Expr → Exprs
two d e = MoreExprs d (MoreExprs e NoExprs)

abbrev a : Expr
a = Name (codes "a")

abbrev b : Expr
b = Name (codes "b")

-- !(a & b) | b | 1, without its brackets
abbrev some : Expr
some = Or (MoreExprs (Not (And (two a b))) (MoreExprs b (MoreExprs (Const true) NoExprs)))

names : names_in some ≡ codes "a" ∷ codes "b" ∷ codes "b" ∷ []
names = refl

first_of_two : or_else None (Some (codes "b")) ∷ or_else (Some (codes "a")) (Some (codes "b")) ∷ or_else (Some (codes "a")) None ∷ or_else None None ∷ []
    ≡ Some (codes "b") ∷ Some (codes "a") ∷ Some (codes "a") ∷ None ∷ []
first_of_two = refl

-- ---- values, where the name of one byte alone is true

abbrev valued : Expr → Bool
valued e = value_of (λ name. if true then name_is_a name else false) e
  where
    name_is_a : List ℕ → Bool
    name_is_a [] = false
    name_is_a (c ∷ cs) = c == 97

values : map valued (a ∷ b ∷ Const true ∷ Const false ∷ Not a ∷ Not b ∷ []) ≡ true ∷ false ∷ true ∷ false ∷ false ∷ true ∷ []
values = refl

of_ands : map (λ parts. valued (And parts)) (two a a ∷ two a b ∷ two b a ∷ two b b ∷ NoExprs ∷ []) ≡ true ∷ false ∷ false ∷ false ∷ true ∷ []
of_ands = refl

of_ors : map (λ parts. valued (Or parts)) (two a a ∷ two a b ∷ two b a ∷ two b b ∷ NoExprs ∷ []) ≡ true ∷ true ∷ true ∷ false ∷ false ∷ []
of_ors = refl

-- ---- texts

abbrev spelled : Expr → List ℕ
spelled = text_of (codes "!") (λ v. if v then codes "1" else codes "0")

texts : map spelled (a ∷ Const true ∷ Const false ∷ Not a ∷ And (MoreExprs a (MoreExprs b (MoreExprs a NoExprs))) ∷ Or (two (Not a) b) ∷ And NoExprs ∷ [])
    ≡ codes "a" ∷ codes "1" ∷ codes "0" ∷ codes "!a" ∷ codes "a & b & a" ∷ codes "!a | b" ∷ [] ∷ []
texts = refl

-- ---- nets

abbrev net : Netlist
net = record {
  name = codes "T";
  inputs = codes "A" ∷ codes "B" ∷ [];
  outputs = [];
  paused = 0;
  latches = record { init = false; from = record { 0 = 3 } } ∷ [];
  gates = record { op = ops.Const true; wire = None }
      ∷ record { op = ops.Const true; wire = Some (record { 0 = 12 }) } ∷ record { op = ops.Const true; wire = None } ∷ [];
}

of_gates : gate_names net ≡ codes "g0" ∷ codes "w12" ∷ codes "g2" ∷ []
unfolding digits
of_gates = refl

of_nets : map (name_of_net (λ n. codes "I_") net) (0 ∷ 1 ∷ 2 ∷ 3 ∷ 4 ∷ 5 ∷ [])
    ≡ codes "I_" ∷ codes "I_" ∷ codes "s0" ∷ codes "g0" ∷ codes "w12" ∷ codes "g2" ∷ []
unfolding digits
of_nets = refl

operators : map (op_expr (λ n. if n == 3 then codes "a" else codes "b"))
    (ops.Const true ∷ ops.Const false ∷ ops.Copy (record { 0 = 3 }) ∷ ops.Not (record { 0 = 3 })
    ∷ ops.And (record { 0 = 3 }) (record { 0 = 4 }) ∷ ops.Or (record { 0 = 4 }) (record { 0 = 3 }) ∷ [])
    ≡ Const true ∷ Const false ∷ a ∷ Not a ∷ And (two a b) ∷ Or (two b a) ∷ []
operators = refl

-- ---- tokens

spaces : filter is_space (8 ∷ 9 ∷ 10 ∷ 11 ∷ 12 ∷ 13 ∷ 14 ∷ 31 ∷ 32 ∷ 33 ∷ 160 ∷ []) ≡ 9 ∷ 10 ∷ 12 ∷ 13 ∷ 32 ∷ []
spaces = refl

begin_a_name : filter begins_name (64 ∷ 65 ∷ 90 ∷ 91 ∷ 94 ∷ 95 ∷ 96 ∷ 97 ∷ 122 ∷ 123 ∷ 48 ∷ []) ≡ 65 ∷ 90 ∷ 95 ∷ 97 ∷ 122 ∷ []
begin_a_name = refl

marks : mark_front {K = ℕ} (Some 7) ∷ mark_front {K = ℕ} None ∷ [] ≡ Lexeme 0 7 ∷ Wrong ∷ []
marks = refl

-- 65 and the byte behind it are a token, and so is 66 alone; 32 is a gap, 37 with two more bytes too
abbrev front : ℕ → List ℕ → Front ℕ
front c cs = if c == 32 then Gap 0 else if c == 37 then Gap 2 else if c == 65 then Lexeme 1 1 else if c == 66 then Lexeme 0 2 else Wrong

abbrev cut : List ℕ → List (PlacedToken ℕ)
cut = tokens_behind 0 front 0 0

abbrev token : ℕ → ℕ → PlacedToken ℕ
token kind at = record { kind = kind; at = at }

cut_to_its_end : cut (65 ∷ 66 ∷ 66 ∷ 32 ∷ 37 ∷ 65 ∷ 65 ∷ 66 ∷ []) ≡ token 1 0 ∷ token 2 2 ∷ token 2 7 ∷ []
cut_to_its_end = refl

cut_to_what_is_wrong : cut (66 ∷ 32 ∷ 33 ∷ 66 ∷ []) ≡ token 2 0 ∷ token 0 2 ∷ []
cut_to_what_is_wrong = refl

places : place_of 9 (token 1 3 ∷ token 1 4 ∷ []) ∷ place_of {K = ℕ} 9 [] ∷ [] ≡ 3 ∷ 9 ∷ []
places = refl

-- ---- signs

abbrev signs : List Sign
signs = NameSign (codes "a") ∷ BitSign true ∷ NotSign ∷ OpenSign ∷ CloseSign ∷ AndSign ∷ OrSign ∷ OtherSign ∷ []

numbers : map sign_number signs ≡ 0 ∷ 1 ∷ 2 ∷ 3 ∷ 4 ∷ 5 ∷ 6 ∷ 7 ∷ []
numbers = refl

abbrev itself : Sign → Sign
itself = λ s. s

of_one_sign : map (signed itself AndSign) signs ≡ None ∷ None ∷ None ∷ None ∷ None ∷ Some tt ∷ None ∷ None ∷ []
of_one_sign = refl

of_a_name : map (named itself) (NameSign (codes "a") ∷ BitSign true ∷ OtherSign ∷ []) ≡ Some (codes "a") ∷ None ∷ None ∷ []
of_a_name = refl

of_a_constant : map (constant itself) (NameSign (codes "a") ∷ BitSign true ∷ BitSign false ∷ OtherSign ∷ []) ≡ None ∷ Some true ∷ Some false ∷ None ∷ []
of_a_constant = refl

-- Inner: the kinds of tokens as numbers, and what the tests of single tokens take.
use Rattle.std.proofs.Common.{◌≡◌, ℕ, Bool, true, false, IsTrue, cond, eqb, ltb, eq-eqb, List, [], ◌∷◌, get_or, Option, Some, None, is_some, refl, sym, ◌∙◌, ap}
use Rattle.std.proofs.Common.{subst}
use Rattle.std.specs.Str.{bytes_eq}
use Rattle.std.proofs.lemmas.Bool.{eqb-true}
use Rattle.std.proofs.lemmas.Slice.Eq.{bytes_eq-Decides}
use Rattle.base_types.specs.declared.place.Span.{Span}
use Rattle.est_ast.specs.declared.tokens.Token.{Token}
use Rattle.est_ast.specs.declared.tokens.Kind.{Kind}
use Rattle.est_ast.specs.declared.tokens.Kind.TheVariants as kinds
use Rattle.est_ast.specs.declared.tokens.Reserved.{Reserved}
use Rattle.est_ast.specs.declared.tokens.Reserved.TheVariants as words
use Rattle.est_ast.specs.declared.tokens.Mark.{Mark}
use Rattle.est_ast.specs.declared.tokens.Mark.TheVariants as marks
use Rattle.est_ast.specs.Spelling.{spelling, sign}
use Rattle.est_ast.specs.Grammar.{is_word, word, is_mark, mark, name_at, name, number_at, number}
use Rattle.est_ast.proofs.Exports.{read_word, read-spelling, mark_of, mark_of-head}
use Rattle.base_expressions.specs.Reading.{Negates, Opens}
use Rattle.base_reader.proofs.Exports.{has, Test, test-of}
use Rattle.est_parse.specs.declared.openings.Opening.{Opening}
use Rattle.est_parse.specs.declared.openings.Opening.TheVariants as openings
use Rattle.est_parse.specs.declared.openings.Flat.TheVariants as flats
use Rattle.est_parse.specs.declared.openings.Block.TheVariants as blocks
use Rattle.est_parse.specs.declared.openings.Bracket.TheVariants as brackets
use Rattle.est_parse.specs.declared.openings.Declaration.TheVariants as declarations
use Rattle.est_parse.specs.Openings.{kind_of, opening_of, opening, part_at, part_start, event_in, event_start}
use Rattle.est_parse.specs.Openings.{declaration_of, declaration}

abbrev pub word_class : Reserved → ℕ
word_class words.Abort = 0
word_class words.And = 1
word_class words.Await = 2
word_class words.Case = 3
word_class words.Do = 4
word_class words.Each = 5
word_class words.Else = 6
word_class words.Emit = 7
word_class words.End = 8
word_class words.Every = 9
word_class words.Exit = 10
word_class words.Halt = 11
word_class words.Handle = 12
word_class words.Immediate = 13
word_class words.In = 14
word_class words.Input = 15
word_class words.InputOutput = 16
word_class words.Loop = 17
word_class words.Module = 18
word_class words.Not = 19
word_class words.Nothing = 20
word_class words.Or = 21
word_class words.Output = 22
word_class words.Pause = 23
word_class words.Positive = 24
word_class words.Present = 25
word_class words.Relation = 26
word_class words.Repeat = 27
word_class words.Run = 28
word_class words.Signal = 29
word_class words.Suspend = 30
word_class words.Sustain = 31
word_class words.Then = 32
word_class words.Tick = 33
word_class words.Times = 34
word_class words.Trap = 35
word_class words.Weak = 36
word_class words.When = 37

abbrev pub mark_class : Mark → ℕ
mark_class marks.Semicolon = 40
mark_class marks.DoubleBar = 41
mark_class marks.LeftBracket = 42
mark_class marks.RightBracket = 43
mark_class marks.LeftParenthesis = 44
mark_class marks.RightParenthesis = 45
mark_class marks.Comma = 46
mark_class marks.Slash = 47
mark_class marks.Colon = 48
mark_class marks.Hash = 49
mark_class marks.Arrow = 50
mark_class marks.Period = 51

abbrev pub kind_class : Kind → ℕ
kind_class (kinds.Reserved w) = word_class w
kind_class (kinds.Mark m) = mark_class m
kind_class (kinds.Ident text) = 60
kind_class (kinds.Number value) = 61

abbrev pub class : Token → ℕ
class token = kind_class token.kind

abbrev all_words : List (ℕ × Reserved)
all_words = (0, words.Abort) ∷ (1, words.And) ∷ (2, words.Await) ∷ (3, words.Case) ∷ (4, words.Do) ∷ (5, words.Each) ∷ (6, words.Else) ∷ (7, words.Emit) ∷
    (8, words.End) ∷ (9, words.Every) ∷ (10, words.Exit) ∷ (11, words.Halt) ∷ (12, words.Handle) ∷ (13, words.Immediate) ∷ (14, words.In) ∷ (15, words.Input) ∷
    (16, words.InputOutput) ∷ (17, words.Loop) ∷ (18, words.Module) ∷ (19, words.Not) ∷ (20, words.Nothing) ∷ (21, words.Or) ∷ (22, words.Output) ∷
    (23, words.Pause) ∷ (24, words.Positive) ∷ (25, words.Present) ∷ (26, words.Relation) ∷ (27, words.Repeat) ∷ (28, words.Run) ∷ (29, words.Signal) ∷
    (30, words.Suspend) ∷ (31, words.Sustain) ∷ (32, words.Then) ∷ (33, words.Tick) ∷ (34, words.Times) ∷ (35, words.Trap) ∷ (36, words.Weak) ∷ (37, words.When)
    ∷ []

abbrev all_marks : List (ℕ × Mark)
all_marks = (40, marks.Semicolon) ∷ (41, marks.DoubleBar) ∷ (42, marks.LeftBracket) ∷ (43, marks.RightBracket) ∷ (44, marks.LeftParenthesis) ∷
    (45, marks.RightParenthesis) ∷ (46, marks.Comma) ∷ (47, marks.Slash) ∷ (48, marks.Colon) ∷ (49, marks.Hash) ∷ (50, marks.Arrow) ∷ (51, marks.Period) ∷ []

abbrev of_number : {A : Type 0} → A → List (ℕ × A) → ℕ → A
of_number other [] k = other
of_number other (entry ∷ entries) k = cond (eqb entry.0 k) entry.1 (of_number other entries k)

-- the word and the mark of a number
abbrev word_of : ℕ → Reserved
word_of k = of_number words.Abort all_words k

abbrev mark_of_class : ℕ → Mark
mark_of_class k = of_number marks.Semicolon all_marks k

word_of-class : (w : Reserved) → word_of (word_class w) ≡ w
word_of-class words.Abort = refl
word_of-class _ = refl

mark_of_class-class : (m : Mark) → mark_of_class (mark_class m) ≡ m
mark_of_class-class marks.Semicolon = refl
mark_of_class-class _ = refl

low_word : (w : Reserved) → IsTrue (ltb (word_class w) 40)
low_word words.Abort = refl
low_word _ = refl

high_mark : (m : Mark) → ltb (mark_class m) 40 ≡ false
high_mark marks.Semicolon = refl
high_mark _ = refl

low_mark : (m : Mark) → IsTrue (ltb (mark_class m) 60)
low_mark marks.Semicolon = refl
low_mark _ = refl

-- a token that a test takes is of the kind that the test is for
pub word-kind : (w : Reserved) (kind : Kind) (x : Unit {0}) → is_word w kind ≡ Some x → kind ≡ kinds.Reserved w
word-kind w (kinds.Reserved v) x is = go (bytes_eq (spelling v) (spelling w)) refl is
  where
    go : (b : Bool) → bytes_eq (spelling v) (spelling w) ≡ b → cond b (Some tt) None ≡ Some x → kinds.Reserved v ≡ kinds.Reserved w
    go true same is = ap kinds.Reserved (sym (read-spelling v) ∙ ap read_word ((bytes_eq-Decides (spelling v) (spelling w)).0 same) ∙ read-spelling w)
    go false same is = cc
word-kind w (kinds.Mark m) x is = cc
word-kind w (kinds.Ident n) x is = cc
word-kind w (kinds.Number n) x is = cc

pub mark-kind : (m : Mark) (kind : Kind) (x : Unit {0}) → is_mark m kind ≡ Some x → kind ≡ kinds.Mark m
mark-kind m (kinds.Mark o) x is = go (bytes_eq (sign o) (sign m)) refl is
  where
    go : (b : Bool) → bytes_eq (sign o) (sign m) ≡ b → cond b (Some tt) None ≡ Some x → kinds.Mark o ≡ kinds.Mark m
    go true same is = ap kinds.Mark (sym (mark_of-head o) ∙ ap (λ bytes. mark_of (get_or bytes 0 0)) ((bytes_eq-Decides (sign o) (sign m)).0 same)
        ∙ mark_of-head m)
    go false same is = cc
mark-kind m (kinds.Reserved w) x is = cc
mark-kind m (kinds.Ident n) x is = cc
mark-kind m (kinds.Number n) x is = cc

-- a word and a mark are taken by their own tests
pub word-self : (w : Reserved) → is_word w (kinds.Reserved w) ≡ Some tt
word-self w = ap (λ b. cond b (Some tt) None) ((bytes_eq-Decides (spelling w) (spelling w)).1 refl)

pub mark-self : (m : Mark) → is_mark m (kinds.Mark m) ≡ Some tt
mark-self m = ap (λ b. cond b (Some tt) None) ((bytes_eq-Decides (sign m) (sign m)).1 refl)

-- a kind is known by its number
class-word : (w : Reserved) (kind : Kind) → kind_class kind ≡ word_class w → kind ≡ kinds.Reserved w
class-word w (kinds.Reserved v) is = ap kinds.Reserved (sym (word_of-class v) ∙ ap word_of is ∙ word_of-class w)
class-word w (kinds.Mark m) is = let e = sym (high_mark m) ∙ ap (λ k. ltb k 40) is ∙ low_word w in cc
class-word w (kinds.Ident text) is = let e : false ≡ true = ap (λ k. ltb k 40) is ∙ low_word w in cc
class-word w (kinds.Number value) is = let e : false ≡ true = ap (λ k. ltb k 40) is ∙ low_word w in cc

class-mark : (m : Mark) (kind : Kind) → kind_class kind ≡ mark_class m → kind ≡ kinds.Mark m
class-mark m (kinds.Mark o) is = ap kinds.Mark (sym (mark_of_class-class o) ∙ ap mark_of_class is ∙ mark_of_class-class m)
class-mark m (kinds.Reserved w) is = let e = sym (high_mark m) ∙ ap (λ k. ltb k 40) (sym is) ∙ low_word w in cc
class-mark m (kinds.Ident text) is = let e : false ≡ true = ap (λ k. ltb k 60) is ∙ low_mark m in cc
class-mark m (kinds.Number value) is = let e : false ≡ true = ap (λ k. ltb k 60) is ∙ low_mark m in cc

one-of : (j k : ℕ) → has (j ∷ []) k ≡ true → k ≡ j
one-of j k is = go (eqb j k) refl is
  where
    go : (b : Bool) → eqb j k ≡ b → cond b true false ≡ true → k ≡ j
    go true same is = sym (eqb-true j k same)
    go false same is = cc

has-self : (j : ℕ) → has (j ∷ []) j ≡ true
has-self j = ap (λ b. cond b true false) (eq-eqb j j refl)

abbrev at_kind : Kind → Token
at_kind kind = record { kind = kind; span = record { start = 0; end = 0 } }

-- The tests.

pub word-test : (w : Reserved) → Test class (word w) (word_class w ∷ [])
word-test w = record {
  hit = λ token x is. subst (λ k. has (word_class w ∷ []) (kind_class k) ≡ true) (sym (word-kind w token.kind x is)) (has-self (word_class w));
  sure = λ token is. (tt, ap (is_word w) (class-word w token.kind (one-of (word_class w) (class token) is)) ∙ word-self w);
  token = at_kind (kinds.Reserved w);
  value = tt;
  takes = word-self w;
}

pub mark-test : (m : Mark) → Test class (mark m) (mark_class m ∷ [])
mark-test m = record {
  hit = λ token x is. subst (λ k. has (mark_class m ∷ []) (kind_class k) ≡ true) (sym (mark-kind m token.kind x is)) (has-self (mark_class m));
  sure = λ token is. (tt, ap (is_mark m) (class-mark m token.kind (one-of (mark_class m) (class token) is)) ∙ mark-self m);
  token = at_kind (kinds.Mark m);
  value = tt;
  takes = mark-self m;
}

pub name-test : Test class name (60 ∷ [])
name-test = test-of (60 ∷ []) (λ token. agrees token.span token.kind) (at_kind (kinds.Ident []))
    (record { text = []; span = record { start = 0; end = 0 } }) refl
  where
    agrees : (span : Span) (kind : Kind) → is_some (name_at span kind) ≡ has (60 ∷ []) (kind_class kind)
    agrees span (kinds.Ident text) = refl
    agrees span (kinds.Number value) = refl
    agrees span (kinds.Reserved words.Abort) = refl
    agrees span (kinds.Reserved _) = refl
    agrees span (kinds.Mark marks.Semicolon) = refl
    agrees span (kinds.Mark _) = refl

pub number-test : Test class number (61 ∷ [])
number-test = test-of (61 ∷ []) (λ token. agrees token.span token.kind) (at_kind (kinds.Number 0)) (0, record { start = 0; end = 0 }) refl
  where
    agrees : (span : Span) (kind : Kind) → is_some (number_at span kind) ≡ has (61 ∷ []) (kind_class kind)
    agrees span (kinds.Ident text) = refl
    agrees span (kinds.Number value) = refl
    agrees span (kinds.Reserved words.Abort) = refl
    agrees span (kinds.Reserved _) = refl
    agrees span (kinds.Mark marks.Semicolon) = refl
    agrees span (kinds.Mark _) = refl

-- what begins an item
abbrev pub opening_set : List ℕ
opening_set = 42 ∷ 20 ∷ 23 ∷ 11 ∷ 7 ∷ 31 ∷ 10 ∷ 28 ∷ 2 ∷ 25 ∷ 17 ∷ 9 ∷ 27 ∷ 24 ∷ 0 ∷ 36 ∷ 30 ∷ 35 ∷ 29 ∷ []

pub opening-test : Test class opening opening_set
opening-test = test-of opening_set (λ token. agrees token.kind) (at_kind (kinds.Reserved words.Nothing)) (openings.Flat flats.Nothing) refl
  where
    agrees : (kind : Kind) → is_some (opening_of kind) ≡ has opening_set (kind_class kind)
    agrees (kinds.Ident text) = refl
    agrees (kinds.Number value) = refl
    agrees (kinds.Reserved words.Nothing) = refl
    agrees (kinds.Reserved _) = refl
    agrees (kinds.Mark marks.LeftBracket) = refl
    agrees (kinds.Mark _) = refl

-- what begins a part of a test
abbrev pub factor_set : List ℕ
factor_set = 60 ∷ 19 ∷ 33 ∷ 44 ∷ 42 ∷ []

pub part-test : Test class part_start factor_set
part-test = test-of factor_set (λ token. agrees token.span token.kind) (at_kind (kinds.Reserved words.Not)) Negates refl
  where
    agrees : (span : Span) (kind : Kind) → is_some (part_at span kind) ≡ has factor_set (kind_class kind)
    agrees span (kinds.Ident text) = refl
    agrees span (kinds.Number value) = refl
    agrees span (kinds.Reserved words.Not) = refl
    agrees span (kinds.Reserved _) = refl
    agrees span (kinds.Mark marks.LeftBracket) = refl
    agrees span (kinds.Mark _) = refl

-- what begins an event
abbrev pub event_set : List ℕ
event_set = 60 ∷ 33 ∷ 42 ∷ []

pub event-test : Test class event_start event_set
event-test = test-of event_set (λ token. agrees token.span token.kind) (at_kind (kinds.Mark marks.LeftBracket)) (Opens brackets.Square) refl
  where
    agrees : (span : Span) (kind : Kind) → is_some (event_in (part_at span kind)) ≡ has event_set (kind_class kind)
    agrees span (kinds.Ident text) = refl
    agrees span (kinds.Number value) = refl
    agrees span (kinds.Reserved words.Not) = refl
    agrees span (kinds.Reserved _) = refl
    agrees span (kinds.Mark marks.LeftBracket) = refl
    agrees span (kinds.Mark _) = refl

-- what begins a declaration
abbrev pub declaration_set : List ℕ
declaration_set = 15 ∷ 16 ∷ 22 ∷ 26 ∷ []

pub declaration-test : Test class declaration declaration_set
declaration-test = test-of declaration_set (λ token. agrees token.kind) (at_kind (kinds.Reserved words.Input)) declarations.Input refl
  where
    agrees : (kind : Kind) → is_some (declaration_of kind) ≡ has declaration_set (kind_class kind)
    agrees (kinds.Ident text) = refl
    agrees (kinds.Number value) = refl
    agrees (kinds.Reserved words.Input) = refl
    agrees (kinds.Reserved _) = refl
    agrees (kinds.Mark marks.LeftBracket) = refl
    agrees (kinds.Mark _) = refl

-- The token that begins an item is of the kind of its opening, and the other way round.

-- the test for the token of an opening
abbrev pub kind_test : Kind → Token → Option (Unit {0})
kind_test (kinds.Reserved w) = word w
kind_test (kinds.Mark m) = mark m
kind_test (kinds.Ident text) = λ _. None
kind_test (kinds.Number value) = λ _. None

abbrev kind_or : Kind → Option Opening → Kind
kind_or kind None = kind
kind_or kind (Some o) = kind_of o

kind_or-opening : (kind : Kind) → kind_or kind (opening_of kind) ≡ kind
kind_or-opening (kinds.Ident text) = refl
kind_or-opening (kinds.Number value) = refl
kind_or-opening (kinds.Reserved words.Nothing) = refl
kind_or-opening (kinds.Reserved _) = refl
kind_or-opening (kinds.Mark marks.LeftBracket) = refl
kind_or-opening (kinds.Mark _) = refl

opening_of-kind : (o : Opening) → opening_of (kind_of o) ≡ Some o
opening_of-kind (openings.Flat flats.Nothing) = refl
opening_of-kind (openings.Flat _) = refl
opening_of-kind openings.Await = refl
opening_of-kind openings.Present = refl
opening_of-kind (openings.Block blocks.Group) = refl
opening_of-kind (openings.Block _) = refl

kind_test-self : (kind : Kind) (token : Token) → token.kind ≡ kind → is_some (opening_of kind) ≡ true → kind_test kind token ≡ Some tt
kind_test-self (kinds.Reserved w) token is opens = ap (is_word w) is ∙ word-self w
kind_test-self (kinds.Mark m) token is opens = ap (is_mark m) is ∙ mark-self m
kind_test-self (kinds.Ident text) token is opens = cc
kind_test-self (kinds.Number value) token is opens = cc

kind_test-kind : (kind : Kind) (token : Token) → kind_test kind token ≡ Some tt → token.kind ≡ kind
kind_test-kind (kinds.Reserved w) token is = word-kind w token.kind tt is
kind_test-kind (kinds.Mark m) token is = mark-kind m token.kind tt is
kind_test-kind (kinds.Ident text) token is = cc
kind_test-kind (kinds.Number value) token is = cc

-- what opens an item is a token of that kind
pub opened-kind : (o : Opening) (token : Token) → opening token ≡ Some o → kind_test (kind_of o) token ≡ Some tt
opened-kind o token is = kind_test-self (kind_of o) token (sym (kind_or-opening token.kind) ∙ ap (kind_or token.kind) is) (ap is_some (opening_of-kind o))

pub kind-opens : (o : Opening) (token : Token) → kind_test (kind_of o) token ≡ Some tt → opening token ≡ Some o
kind-opens o token is = ap opening_of (kind_test-kind (kind_of o) token is) ∙ opening_of-kind o

-- The names of a source's modules and of their interfaces are names: a letter, and then letters, digits and `_`.
use Rattle.std.proofs.Common.{◌≡◌, ℕ, zero, suc, ◌+◌, ◌<◌, ◌≤◌, true, List, [], ◌∷◌, ◌++◌, length, take, drop, get_or, Option, Some, None, refl}
use Rattle.std.proofs.Common.{◌∙◌, ap, subst, arith}
use Rattle.std.specs.Prelude.{⊤, IsTrue, flat_map}
use Rattle.std.proofs.lemmas.Bool.Decides.{nat_tests}
use Rattle.std.proofs.lemmas.List.Elements.{All-nil, All-cons, All-head, All-tail, All-rest, All-same, All-append, All-take, All-drop, All-map}
use Rattle.std.proofs.Math.Seq.{take-append_seam, drop-append_seam}
use Rattle.std.specs.List.{All, list_all}
use Rattle.std.proofs.lemmas.Bool.{and_from}
use Rattle.base_types.specs.declared.place.Span.{Span}
use Rattle.base_types.specs.Names.{is_letter, is_name_byte, is_name}
use Rattle.est_ast.specs.declared.tokens.Token.{Token}
use Rattle.est_ast.specs.declared.tokens.Kind.{Kind}
use Rattle.est_ast.specs.declared.tokens.Kind.TheVariants as kinds
use Rattle.est_ast.specs.declared.tokens.Mark.TheVariants as marks
use Rattle.est_ast.specs.declared.tokens.Reserved.{Reserved}
use Rattle.est_ast.specs.declared.tokens.Reserved.TheVariants as words
use Rattle.est_ast.specs.declared.trees.Name.{Name}
use Rattle.est_ast.specs.Lexemes.{IsLetter, IsNameByte, BeginsWithWord, LexicalPart, BeginsPart, Space, LineComment, BlockComment, Word, Numeral, Sign}
use Rattle.est_ast.specs.Lexing.{Makes, IsFrontToken, TextPiece, Cuts, token_at, tokens_from, Tokens, LexesAs}
use Rattle.est_ast.specs.Trees.{Decl, Input, InputOutput, Output, Relations, Module, SourceProgram}
use Rattle.est_ast.specs.Grammar.{name_at, name, word, mark, Listed, Whole, Spells, SpellsDeclared, SpellsDecl, EndsModule, SpellsModule, SpellsProgram}
use Rattle.base_reader.specs.Languages.{Empty, One, Then, Led, Optional, Parted, Many}
use Rattle.base_reader.specs.Languages.{Loop as Steps}
use Rattle.est_names.specs.Names.{texts}
use Rattle.est_expand.specs.Scopes.{inputs_in, both_in, outputs_in}
use Rattle.est_expand.specs.NamedModules.{IsNamedModule}
use Rattle.est_front.specs.Sources.{SourceReadsAs}

-- ---- the identifiers among the tokens

letter_is : (byte : ℕ) → IsLetter byte → is_letter byte ≡ true
letter_is byte h = grind (arith, nat_tests)

name_byte_is : (byte : ℕ) → IsNameByte byte → is_name_byte byte ≡ true
name_byte_is byte h = grind (arith, nat_tests)

name_bytes_are : (text : List ℕ) (n : ℕ) → n ≤ length text → ((k : ℕ) → k < n → IsNameByte (get_or text k 0)) → list_all is_name_byte (take n text) ≡ true
name_bytes_are text zero within all = refl
name_bytes_are [] (suc n) within all = refl
name_bytes_are (byte ∷ text) (suc n) within all =
    and_from (is_name_byte byte) (list_all is_name_byte (take n text)) (name_byte_is byte (all 0 (omega arith)))
    (name_bytes_are text n (omega arith) (λ k below. all (suc k) (omega arith)))

-- a word's bytes are a name
word_is_name : (text : List ℕ) (n : ℕ) → BeginsWithWord text n → IsTrue (is_name (take n text))
word_is_name text zero word = absurd (omega (arith, word.some))
word_is_name [] (suc n) word = absurd (omega (arith, word.within))
word_is_name (byte ∷ text) (suc n) word =
    and_from (is_letter byte) (list_all is_name_byte (take n text)) (letter_is byte word.letter)
    (name_bytes_are text n (omega (arith, word.within)) (λ k below. word.name_bytes (suc k) (omega arith)))

made_name : (part : LexicalPart) (text : List ℕ) (width : ℕ) (n : List ℕ) → BeginsPart part text width → Makes part (take width text) (Some (kinds.Ident n)) →
    IsTrue (is_name n)
made_name Word text width n begins makes = ap is_name makes.0 ∙ word_is_name text width begins
made_name Space text width n begins makes = absurd makes
made_name LineComment text width n begins makes = absurd makes
made_name BlockComment text width n begins makes = absurd makes
made_name Numeral text width n begins makes = absurd makes
made_name Sign text width n begins makes = absurd makes

abbrev text_in : Option Name → List ℕ
text_in None = []
text_in (Some n) = n.text

kind_named : (text : List ℕ) (width : ℕ) (span : Span) (kind : Kind) (n : Name) → IsFrontToken text width (Some kind) → name_at span kind ≡ Some n →
    IsTrue (is_name n.text)
kind_named text width span (kinds.Ident bytes) n front is =
    subst (λ t. IsTrue (is_name t)) (ap text_in is) (made_name front.part text width bytes front.longest.begins front.makes)
kind_named text width span (kinds.Reserved other) n front is = absurd (cc)
kind_named text width span (kinds.Mark other) n front is = absurd (cc)
kind_named text width span (kinds.Number value) n front is = absurd (cc)

-- where the token is an identifier, it is a name
abbrev pub IsNamed : Token → Type 0
IsNamed token = (n : Name) → name token ≡ Some n → IsTrue (is_name n.text)

front_named : (text : List ℕ) (start width : ℕ) (token : Option Kind) → IsFrontToken text width token → All IsNamed (token_at start width token)
front_named text start width None front = All-nil IsNamed
front_named text start width (Some kind) front =
    All-cons IsNamed (record { kind = kind; span = record { start = start; end = start + width } }) []
    (λ n is. kind_named text width (record { start = start; end = start + width }) kind n front is) (All-nil IsNamed)

pieces_named : (pieces : List TextPiece) (start : ℕ) (text rest : List ℕ) → Cuts pieces text rest → All IsNamed (tokens_from start pieces)
pieces_named [] start text rest cut = All-nil IsNamed
pieces_named (piece ∷ pieces) start text rest cut =
    All-append IsNamed (token_at start piece.width piece.token) (tokens_from (start + piece.width) pieces)
    (front_named text start piece.width piece.token cut.0) (pieces_named pieces (start + piece.width) (drop piece.width text) rest cut.1)

pub tokens_named : (text : List ℕ) (tokens : List Token) → LexesAs text (Tokens tokens) → All IsNamed tokens
tokens_named text tokens lexes = All-same IsNamed tokens (tokens_from 0 lexes.pieces) lexes.comes_to.1 (pieces_named lexes.pieces 0 text lexes.rest lexes.cut)

-- ---- what such tokens spell

-- a language whose words give a fact, where their identifiers are names
abbrev Gives : (List Token → Type 0) → Type 0 → Type 0
Gives L Q = (tokens : List Token) → All IsNamed tokens → L tokens → Q

front_of : (tokens front back : List Token) → tokens ≡ front ++ back → All IsNamed tokens → All IsNamed front
front_of tokens front back cut named =
    subst (λ l. All IsNamed l) (take-append_seam front back) (All-take IsNamed (length front) (front ++ back) (subst (λ l. All IsNamed l) cut named))

back_of : (tokens front back : List Token) → tokens ≡ front ++ back → All IsNamed tokens → All IsNamed back
back_of tokens front back cut named =
    subst (λ l. All IsNamed l) (drop-append_seam front back) (All-drop IsNamed (length front) (front ++ back) (subst (λ l. All IsNamed l) cut named))

name_given : (n : Name) → Gives (One name n) (IsTrue (is_name n.text))
name_given n tokens named one = All-head IsNamed one.token [] (subst (λ l. All IsNamed l) one.only named) n one.passes

both_given : (L M : List Token → Type 0) (Q R : Type 0) → Gives L Q → Gives M R → Gives (Then L M) (Q × R)
both_given L M Q R first second tokens named spelled = (
  first spelled.front (front_of tokens spelled.front spelled.back spelled.cut named) spelled.first,
  second spelled.back (back_of tokens spelled.front spelled.back spelled.cut named) spelled.second,
)

led_given : {X : Type 0} (test : Token → Option X) (L : X → List Token → Type 0) (Q : Type 0) → ((x : X) → Gives (L x) Q) → Gives (Led test L) Q
led_given test L Q behind tokens named led =
    behind led.value led.rest (All-rest IsNamed led.token led.rest tokens led.cut named) led.behind

steps_given : {A : Type 0} (S : Option A → List Token → Type 0) (Q : A → Type 0) → ((a : A) → Gives (S (Some a)) (Q a)) → (list : List A) →
    Gives (Steps S list) (All Q list)
steps_given S Q each [] tokens named spelled = All-nil Q
steps_given S Q each (a ∷ others) tokens named spelled =
    let both = both_given (S (Some a)) (Steps S others) (Q a) (All Q others) (each a) (steps_given S Q each others) tokens named spelled in
    All-cons Q a others both.0 both.1

-- ---- the names of modules

abbrev IsName : List ℕ → Type 0
IsName n = IsTrue (is_name n)

abbrev IsNameThere : Name → Type 0
IsNameThere n = IsTrue (is_name n.text)

names_given : (names : List Name) → Gives (Listed (mark marks.Comma) (One name) names) (All IsNameThere names)
names_given [] tokens named spelled = absurd spelled
names_given (n ∷ others) tokens named spelled =
    let both = both_given (One name n) (Steps (Parted (mark marks.Comma) (λ _. One name) Empty) others) (IsNameThere n) (All IsNameThere others) (name_given n)
    (steps_given (Parted (mark marks.Comma) (λ _. One name) Empty) IsNameThere
    (λ m. led_given (mark marks.Comma) (λ _. One name m) (IsNameThere m) (λ _. name_given m)) others) tokens named spelled in
    All-cons IsNameThere n others both.0 both.1

declared_given : (w : Reserved) (names : List Name) → Gives (SpellsDeclared w (One name) names) (All IsName (texts names))
declared_given w names tokens named spelled =
    let listed = led_given (word w) (λ _. Then (Listed (mark marks.Comma) (One name) names) (One (mark marks.Semicolon) tt)) (All IsNameThere names × ⊤)
    (λ _. both_given (Listed (mark marks.Comma) (One name) names) (One (mark marks.Semicolon) tt) (All IsNameThere names) ⊤ (names_given names) (λ _ _ _. tt))
    tokens named spelled in
    All-map IsName (λ n. n.text) names listed.0

record DeclaresNames (decl : Decl) : Type 0 where
  inputs : All IsName (inputs_in decl)
  both : All IsName (both_in decl)
  outputs : All IsName (outputs_in decl)

decl_given : (decl : Decl) → Gives (SpellsDecl decl) (DeclaresNames decl)
decl_given (Input names) tokens named spelled =
    record { inputs = declared_given words.Input names tokens named spelled; both = All-nil IsName; outputs = All-nil IsName }
decl_given (InputOutput names) tokens named spelled =
    record { inputs = All-nil IsName; both = declared_given words.InputOutput names tokens named spelled; outputs = All-nil IsName }
decl_given (Output names) tokens named spelled =
    record { inputs = All-nil IsName; both = All-nil IsName; outputs = declared_given words.Output names tokens named spelled }
decl_given (Relations relations) tokens named spelled = record { inputs = All-nil IsName; both = All-nil IsName; outputs = All-nil IsName }

declared_in_all : (f : Decl → List (List ℕ)) → ((decl : Decl) → DeclaresNames decl → All IsName (f decl)) → (decls : List Decl) → All DeclaresNames decls
    → All IsName (flat_map f decls)
declared_in_all f each [] all = All-nil IsName
declared_in_all f each (decl ∷ decls) all =
    All-append IsName (f decl) (flat_map f decls) (each decl (All-head DeclaresNames decl decls all))
    (declared_in_all f each decls (All-tail DeclaresNames decl decls all))

named_module : (m : Module) → IsTrue (is_name m.name.text) → All DeclaresNames m.decls → IsNamedModule m
named_module m name_is decls = record {
  name = name_is;
  names = All-append IsName (flat_map inputs_in m.decls) (flat_map both_in m.decls ++ flat_map outputs_in m.decls)
      (declared_in_all inputs_in (λ decl d. d.inputs) m.decls decls)
      (All-append IsName (flat_map both_in m.decls) (flat_map outputs_in m.decls) (declared_in_all both_in (λ decl d. d.both) m.decls decls)
      (declared_in_all outputs_in (λ decl d. d.outputs) m.decls decls));
}

module_given : (m : Module) → Gives (SpellsModule m) (IsNamedModule m)
module_given m tokens named spelled =
    let Behind : List Token → Type 0 = Then (Many SpellsDecl m.decls) (Then (Spells Whole m.body) EndsModule) in
    let parts = led_given (word words.Module) (λ _. Then (One name m.name) (Led (mark marks.Colon) (λ _. Behind)))
    (IsNameThere m.name × (All DeclaresNames m.decls × ⊤))
    (λ _. both_given (One name m.name) (Led (mark marks.Colon) (λ _. Behind)) (IsNameThere m.name) (All DeclaresNames m.decls × ⊤) (name_given m.name)
    (led_given (mark marks.Colon) (λ _. Behind) (All DeclaresNames m.decls × ⊤)
    (λ _. both_given (Many SpellsDecl m.decls) (Then (Spells Whole m.body) EndsModule) (All DeclaresNames m.decls) ⊤
    (steps_given (Optional SpellsDecl) DeclaresNames decl_given m.decls) (λ _ _ _. tt)))) tokens named spelled in
    named_module m parts.0 parts.1.0

program_given : (modules : SourceProgram) → Gives (SpellsProgram modules) (All IsNamedModule modules)
program_given [] tokens named spelled = absurd spelled
program_given (m ∷ others) tokens named spelled =
    let both = both_given (SpellsModule m) (Many SpellsModule others) (IsNamedModule m) (All IsNamedModule others) (module_given m)
    (steps_given (Optional SpellsModule) IsNamedModule module_given others) tokens named spelled in
    All-cons IsNamedModule m others both.0 both.1

-- the modules of a source have names, and so have their interfaces
pub modules_named : (text : List ℕ) (tree : SourceProgram) → SourceReadsAs text tree → All IsNamedModule tree
modules_named text tree reads = program_given tree reads.tokens (tokens_named text reads.tokens reads.lexes) reads.spells.0

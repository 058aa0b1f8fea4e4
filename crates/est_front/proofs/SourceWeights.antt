-- What a source's modules declare has room in the source: the names that a module declares, one behind another, and its relations.
use Rattle.std.proofs.Common.{◌≡◌, ℕ, ◌+◌, ◌<◌, ◌≤◌, List, [], ◌∷◌, ◌++◌, length, take, drop, Option, Some, None, sym, ap, ◌∙◌, subst, arith}
use Rattle.std.specs.List.{sum_by}
use Rattle.std.proofs.lemmas.List.{length-take, length-drop}
use Rattle.std.proofs.lemmas.List.Sums.{sum_by-append, sum_by-cons}
use Rattle.est_ast.specs.declared.tokens.Kind.{Kind}
use Rattle.est_ast.specs.declared.tokens.Kind.TheVariants as kinds
use Rattle.est_ast.specs.declared.tokens.Mark.{Mark}
use Rattle.est_ast.specs.declared.tokens.Mark.TheVariants as marks
use Rattle.est_ast.specs.declared.tokens.Reserved.{Reserved}
use Rattle.est_ast.specs.declared.tokens.Reserved.TheVariants as words
use Rattle.est_ast.specs.declared.tokens.Token.{Token}
use Rattle.est_ast.specs.declared.trees.Name.{Name}
use Rattle.base_types.specs.declared.place.Span.{Span}
use Rattle.est_ast.specs.Grammar.{name_at, name, is_mark, mark, word, Listed, Whole, Spells, SpellsRelation, SpellsDeclared, SpellsDecl, EndsModule}
use Rattle.est_ast.specs.Grammar.{SpellsModule, SpellsProgram}
use Rattle.est_ast.specs.Lexemes.{LexicalPart, Space, LineComment, BlockComment, Word, Numeral, Sign}
use Rattle.est_ast.specs.Lexing.{Makes, IsFrontToken, TextPiece, Cuts, token_at, tokens_from, Tokens, LexesAs}
use Rattle.est_ast.specs.Trees.{NamedRelation, Implies, Excludes, Decl, Input, InputOutput, Output, Relations, Module, SourceProgram}
use Rattle.est_ast.proofs.Exports.{front_fits}
use Rattle.base_reader.specs.Languages.{Empty, One, Then, Led, Optional, Parted, Many}
use Rattle.base_reader.specs.Languages.{Loop as Steps}

-- ---- tokens

-- an identifier weighs its bytes, every other token one
abbrev weight : Kind → ℕ
weight (kinds.Ident bytes) = length bytes
weight (kinds.Reserved other) = 1
weight (kinds.Mark other) = 1
weight (kinds.Number value) = 1

abbrev pub token_weight : List Token → ℕ
token_weight tokens = sum_by (λ t. weight t.kind) tokens

made_bytes : (part : LexicalPart) (bytes text : List ℕ) → Makes part text (Some (kinds.Ident bytes)) → bytes ≡ text
made_bytes Word bytes text makes = makes.0
made_bytes Space bytes text makes = absurd makes
made_bytes LineComment bytes text makes = absurd makes
made_bytes BlockComment bytes text makes = absurd makes
made_bytes Numeral bytes text makes = absurd makes
made_bytes Sign bytes text makes = absurd makes

kind_weight : (text : List ℕ) (width : ℕ) (kind : Kind) → IsFrontToken text width (Some kind) → 0 < width → width ≤ length text → weight kind ≤ width
kind_weight text width (kinds.Ident bytes) front some within =
    let same = made_bytes front.part bytes (take width text) front.makes in
    omega (arith, ap (λ (b : List ℕ). length b) same, length-take width text)
kind_weight text width (kinds.Reserved other) front some within = some
kind_weight text width (kinds.Mark other) front some within = some
kind_weight text width (kinds.Number value) front some within = some

front_weight : (text : List ℕ) (start width : ℕ) (token : Option Kind) → IsFrontToken text width token → token_weight (token_at start width token) ≤ width
front_weight text start width None front = omega arith
front_weight text start width (Some kind) front =
    let fits = front_fits text width (Some kind) front in
    let few = kind_weight text width kind front fits.0 fits.1 in omega arith

pieces_weight : (pieces : List TextPiece) (text rest : List ℕ) (start : ℕ) → Cuts pieces text rest → token_weight (tokens_from start pieces) ≤ length text
pieces_weight [] text rest start cut = omega arith
pieces_weight (piece ∷ pieces) text rest start cut =
    let fits = front_fits text piece.width piece.token cut.0 in
    let first = front_weight text start piece.width piece.token cut.0 in
    let behind = pieces_weight pieces (drop piece.width text) rest (start + piece.width) cut.1 in
    omega (
      arith,
      fits.1,
      length-drop piece.width text,
      sum_by-append (λ (t : Token). weight t.kind) (token_at start piece.width piece.token) (tokens_from (start + piece.width) pieces),
    )

pub tokens_weigh : (text : List ℕ) (tokens : List Token) → LexesAs text (Tokens tokens) → token_weight tokens ≤ length text
tokens_weigh text tokens lexes =
    subst (λ ts. token_weight ts ≤ length text) (sym lexes.comes_to.1) (pieces_weight lexes.pieces text lexes.rest 0 lexes.cut)

-- ---- what they spell

-- the words of a language weigh so much at least
abbrev Weighs : (List Token → Type 0) → ℕ → Type 0
Weighs L n = (tokens : List Token) → L tokens → n ≤ token_weight tokens

weight_of_parts : (tokens front back : List Token) → tokens ≡ front ++ back → token_weight tokens ≡ token_weight front + token_weight back
weight_of_parts tokens front back cut = ap token_weight cut ∙ sum_by-append (λ (t : Token). weight t.kind) front back

weight_of_first : (tokens rest : List Token) (token : Token) → tokens ≡ token ∷ rest → token_weight tokens ≡ weight token.kind + token_weight rest
weight_of_first tokens rest token cut = ap token_weight cut ∙ sum_by-cons (λ (t : Token). weight t.kind) token rest

both_weigh : (L M : List Token → Type 0) (m n : ℕ) → Weighs L m → Weighs M n → Weighs (Then L M) (m + n)
both_weigh L M m n first second tokens spelled =
    let front = first spelled.front spelled.first in
    let back = second spelled.back spelled.second in
    omega (arith, weight_of_parts tokens spelled.front spelled.back spelled.cut)

led_weighs : {X : Type 0} (test : Token → Option X) (L : X → List Token → Type 0) (n : ℕ) → ((x : X) → Weighs (L x) n) → Weighs (Led test L) n
led_weighs test L n behind tokens led =
    let rest = behind led.value led.rest led.behind in
    omega (arith, weight_of_first tokens led.rest led.token led.cut)

name_in : (span : Span) (kind : Kind) (n : Name) → name_at span kind ≡ Some n → length n.text ≤ weight kind
name_in span (kinds.Ident bytes) n is =
    let same : bytes ≡ n.text = cc in
    omega (arith, ap (λ (b : List ℕ). length b) same)
name_in span (kinds.Reserved other) n is = absurd (cc)
name_in span (kinds.Mark other) n is = absurd (cc)
name_in span (kinds.Number value) n is = absurd (cc)

name_weighs : (n : Name) → Weighs (One name n) (length n.text)
name_weighs n tokens one =
    let first = name_in one.token.span one.token.kind n one.passes in
    omega (arith, weight_of_first tokens [] one.token one.only)

mark_in : (m : Mark) (kind : Kind) (u : Unit {0}) → is_mark m kind ≡ Some u → 1 ≤ weight kind
mark_in m (kinds.Mark other) u is = omega arith
mark_in m (kinds.Ident bytes) u is = absurd (cc)
mark_in m (kinds.Reserved other) u is = absurd (cc)
mark_in m (kinds.Number value) u is = absurd (cc)

-- a mark weighs one, whatever is behind it
marked_weighs : (m : Mark) (L : Unit {0} → List Token → Type 0) → Weighs (Led (mark m) L) 1
marked_weighs m L tokens led =
    let first = mark_in m led.token.kind led.value led.passes in
    omega (arith, weight_of_first tokens led.rest led.token led.cut)

steps_weigh : {A : Type 0} (S : Option A → List Token → Type 0) (f : A → ℕ) → ((a : A) → Weighs (S (Some a)) (f a)) → (list : List A) →
    Weighs (Steps S list) (sum_by f list)
steps_weigh S f each [] tokens spelled = omega arith
steps_weigh S f each (a ∷ others) tokens spelled =
    let both = both_weigh (S (Some a)) (Steps S others) (f a) (sum_by f others) (each a) (steps_weigh S f each others) tokens spelled in
    omega (arith, sum_by-cons f a others)

-- ---- declarations

listed_weigh : {A : Type 0} (L : A → List Token → Type 0) (f : A → ℕ) → ((a : A) → Weighs (L a) (f a)) → (list : List A) →
    Weighs (Listed (mark marks.Comma) L list) (sum_by f list)
listed_weigh L f each [] tokens spelled = absurd spelled
listed_weigh L f each (a ∷ others) tokens spelled =
    let both = both_weigh (L a) (Steps (Parted (mark marks.Comma) (λ _. L) Empty) others) (f a) (sum_by f others) (each a)
    (steps_weigh (Parted (mark marks.Comma) (λ _. L) Empty) f (λ b. led_weighs (mark marks.Comma) (λ _. L b) (f b) (λ _. each b)) others) tokens spelled in
    omega (arith, sum_by-cons f a others)

declared_weigh : {A : Type 0} (w : Reserved) (L : A → List Token → Type 0) (f : A → ℕ) → ((a : A) → Weighs (L a) (f a)) → (list : List A) →
    Weighs (SpellsDeclared w L list) (sum_by f list)
declared_weigh w L f each list tokens spelled =
    let both = led_weighs (word w) (λ _. Then (Listed (mark marks.Comma) L list) (One (mark marks.Semicolon) tt)) (sum_by f list + 0)
    (λ _. both_weigh (Listed (mark marks.Comma) L list) (One (mark marks.Semicolon) tt) (sum_by f list) 0 (listed_weigh L f each list)
    (λ _ _. omega arith)) tokens spelled in
    omega arith

relation_weighs : (r : NamedRelation) → Weighs (SpellsRelation r) 1
relation_weighs (Implies cause effect) tokens spelled =
    let both = both_weigh (One name cause) (Led (mark marks.Arrow) (λ _. One name effect)) 0 1 (λ _ _. omega arith)
    (marked_weighs marks.Arrow (λ _. One name effect)) tokens spelled in
    omega arith
relation_weighs (Excludes []) tokens spelled = absurd spelled
relation_weighs (Excludes (first ∷ others)) tokens spelled =
    let both = both_weigh (One name first) (Led (mark marks.Hash) (λ _. Listed (mark marks.Hash) (One name) others)) 0 1 (λ _ _. omega arith)
    (marked_weighs marks.Hash (λ _. Listed (mark marks.Hash) (One name) others)) tokens spelled in
    omega arith

-- the bytes of the names that a declaration declares, or the number of its relations
abbrev pub decl_weight : Decl → ℕ
decl_weight (Input names) = sum_by (λ n. length n.text) names
decl_weight (InputOutput names) = sum_by (λ n. length n.text) names
decl_weight (Output names) = sum_by (λ n. length n.text) names
decl_weight (Relations relations) = sum_by (λ r. 1) relations

decl_weighs : (decl : Decl) → Weighs (SpellsDecl decl) (decl_weight decl)
decl_weighs (Input names) = declared_weigh words.Input (One name) (λ n. length n.text) name_weighs names
decl_weighs (InputOutput names) = declared_weigh words.InputOutput (One name) (λ n. length n.text) name_weighs names
decl_weighs (Output names) = declared_weigh words.Output (One name) (λ n. length n.text) name_weighs names
decl_weighs (Relations relations) = declared_weigh words.Relation SpellsRelation (λ r. 1) relation_weighs relations

-- ---- modules

-- the bytes of a module's name and what its declarations weigh
abbrev pub module_weight : Module → ℕ
module_weight m = length m.name.text + sum_by decl_weight m.decls

module_weighs : (m : Module) → Weighs (SpellsModule m) (module_weight m)
module_weighs m tokens spelled =
    let Body : List Token → Type 0 = Then (Spells Whole m.body) EndsModule in
    let Behind : List Token → Type 0 = Then (Many SpellsDecl m.decls) Body in
    let parts = led_weighs (word words.Module) (λ _. Then (One name m.name) (Led (mark marks.Colon) (λ _. Behind)))
    (length m.name.text + (sum_by decl_weight m.decls + 0))
    (λ _. both_weigh (One name m.name) (Led (mark marks.Colon) (λ _. Behind)) (length m.name.text) (sum_by decl_weight m.decls + 0) (name_weighs m.name)
    (led_weighs (mark marks.Colon) (λ _. Behind) (sum_by decl_weight m.decls + 0)
    (λ _. both_weigh (Many SpellsDecl m.decls) Body (sum_by decl_weight m.decls) 0 (steps_weigh (Optional SpellsDecl) decl_weight decl_weighs m.decls)
    (λ _ _. omega arith)))) tokens spelled in
    omega arith

pub program_weighs : (modules : SourceProgram) → Weighs (SpellsProgram modules) (sum_by module_weight modules)
program_weighs [] tokens spelled = absurd spelled
program_weighs (m ∷ others) tokens spelled =
    let both = both_weigh (SpellsModule m) (Many SpellsModule others) (module_weight m) (sum_by module_weight others) (module_weighs m)
    (steps_weigh (Optional SpellsModule) module_weight module_weighs others) tokens spelled in
    omega (arith, sum_by-cons module_weight m others)

-- Inner: judgements on declarations, modules and programs.
use Rattle.std.proofs.Common.{◌≡◌, ◌⊎◌, inl, inr, ℕ, max, true, false, List, [], ◌∷◌, Option, Some, None, refl, sym, ap, subst, arith}
use Rattle.est_ast.specs.declared.tokens.Token.{Token}
use Rattle.est_ast.specs.declared.tokens.Kind.{Kind}
use Rattle.est_ast.specs.declared.tokens.Kind.TheVariants as kinds
use Rattle.est_ast.specs.declared.tokens.Reserved.{Reserved}
use Rattle.est_ast.specs.declared.tokens.Reserved.TheVariants as words
use Rattle.est_ast.specs.declared.tokens.Mark.TheVariants as marks
use Rattle.est_ast.specs.declared.trees.Name.{Name}
use Rattle.est_ast.specs.Trees.{NamedRelation, Implies, Excludes, Decl, Input, InputOutput, Output, Relations, Module, SourceProgram}
use Rattle.est_ast.specs.Grammar.{is_word, mark, name, Listed, Whole, Spells, SpellsRelation, SpellsDecl, EndsModule, SpellsModule, SpellsProgram}
use Rattle.est_ast.specs.Nesting.{nesting, program_nesting, IsProgram}
use Rattle.base_reader.specs.Exact.{Exactly}
use Rattle.base_reader.specs.Languages.{One, Then, Led, Both, Optional, Many}
use Rattle.base_reader.specs.Choice.{Made}
use Rattle.base_reader.specs.Readings.{Rule, the, whole}
use Rattle.base_reader.proofs.Exports.{Advances, Shape, one_shape, Lang, Reads, the-reads, both-reads, led-reads, trail-reads, ahead-reads, mapped-reads}
use Rattle.base_reader.proofs.Exports.{told-reads, made-reads, shape-reads, Turn, list_depth, Steps, look-steps, loop-reads, Advances-step, Arm, arm}
use Rattle.base_reader.proofs.Exports.{choose-lang, choose-reads, whole-reads as exact-reads, list_depth-flat}
use Rattle.est_parse.specs.declared.openings.Declaration.{Declaration}
use Rattle.est_parse.specs.declared.openings.Declaration.TheVariants as declarations
use Rattle.est_parse.specs.Openings.{declaration_of, declaration}
use Rattle.est_parse.specs.Reading.{Related, Effect, Others, relation_of, relation, list_step, declared, declaration_behind, decl}
use Rattle.est_parse.specs.Reading.{decl_step, ends_module, module_rule, module_step, program}
use Rattle.est_parse.proofs.TokenKinds.{word_class, mark_class, class, word-kind, word-test, mark-test, declaration_set, declaration-test}
use Rattle.est_parse.proofs.Lists.{name-reads, listed-reads, list-advances}
use Rattle.est_parse.proofs.StmtLaws.{statement-reads, names_depth}

-- Relations.

abbrev Relates : Related → List Token → Type 0
Relates (Effect effect) = Led (mark marks.Arrow) (λ _. One name effect)
Relates (Others others) = Led (mark marks.Hash) (λ _. Listed (mark marks.Hash) (One name) others)

abbrev EitherRelated : Related → List Token → Type 0
EitherRelated v tokens = Made Effect (λ n. Led (mark marks.Arrow) (λ _. One name n)) v tokens
    ⊎ Made Others (λ ns. Led (mark marks.Hash) (λ _. Listed (mark marks.Hash) (One name) ns)) v tokens

related_to : (v : Related) (tokens : List Token) → EitherRelated v tokens → Relates v tokens
related_to v tokens (inl made) = subst (λ v. Relates v tokens) made.1 made.2
related_to v tokens (inr made) = subst (λ v. Relates v tokens) made.1 made.2

related_from : (v : Related) (tokens : List Token) → Relates v tokens → EitherRelated v tokens
related_from (Effect effect) tokens member = inl (effect, refl, member)
related_from (Others others) tokens member = inr (others, refl, member)

relation_to : (found : Name × Related) (tokens : List Token) → Both (One name) Relates found tokens → SpellsRelation (relation_of found) tokens
relation_to (first, Effect effect) tokens member = member
relation_to (first, Others others) tokens member = member

relation_from : (v : NamedRelation) (tokens : List Token) → SpellsRelation v tokens → Made relation_of (Both (One name) Relates) v tokens
relation_from (Implies cause effect) tokens member = ((cause, Effect effect), refl, member)
relation_from (Excludes []) tokens member = absurd member
relation_from (Excludes (first ∷ others)) tokens member = ((first, Others others), refl, member)

abbrev relation_shape : Shape
relation_shape = record { starts = 60 ∷ []; empty = false; after = mark_class marks.Hash ∷ [] }

relation-reads : {room : Option ℕ} → Reads class (λ _. relation) SpellsRelation (λ _. 0) relation_shape room
relation-reads =
    shape-reads relation_shape (made-reads relation_of SpellsRelation (λ _. 0)
    (both-reads name-reads (told-reads Relates (ahead-reads (mark-test marks.Arrow)
    (mapped-reads Effect (λ _. 0) (led-reads (mark-test marks.Arrow) name-reads) (λ _. refl))
    (mapped-reads Others (λ _. 0) (led-reads (mark-test marks.Hash) (listed-reads marks.Hash name-reads refl)) (λ names. sym (names_depth names))) refl refl
    refl refl)
    related_to related_from) refl) (λ _. refl) relation_to relation_from) refl refl refl

-- Declarations.

abbrev Declares : {A : Type 0} → (A → List Token → Type 0) → List A → List Token → Type 0
Declares L values = Then (Listed (mark marks.Comma) L values) (One (mark marks.Semicolon) tt)

abbrev DeclBehind : Declaration → Decl → List Token → Type 0
DeclBehind declarations.Input = Made Input (Declares (One name))
DeclBehind declarations.InputOutput = Made InputOutput (Declares (One name))
DeclBehind declarations.Output = Made Output (Declares (One name))
DeclBehind declarations.Relation = Made Relations (Declares SpellsRelation)

abbrev decl_word : Declaration → Reserved
decl_word declarations.Input = words.Input
decl_word declarations.InputOutput = words.InputOutput
decl_word declarations.Output = words.Output
decl_word declarations.Relation = words.Relation

declaration-kind : (kind : Kind) (d : Declaration) → declaration_of kind ≡ Some d → kind ≡ kinds.Reserved (decl_word d)
declaration-kind (kinds.Reserved words.Input) declarations.Input is = refl
declaration-kind (kinds.Reserved words.InputOutput) declarations.InputOutput is = refl
declaration-kind (kinds.Reserved words.Output) declarations.Output is = refl
declaration-kind (kinds.Reserved words.Relation) declarations.Relation is = refl
declaration-kind _ _ is = cc

decl-behind : (token : Token) (rest : List Token) (d : Declaration) → token.kind ≡ kinds.Reserved (decl_word d) → (v : Decl) → DeclBehind d v rest →
    SpellsDecl v (token ∷ rest)
decl-behind token rest declarations.Input is v made =
    subst (λ v. SpellsDecl v (token ∷ rest)) made.1 (record {
      token = token;
      value = tt;
      rest = rest;
      cut = refl;
      passes = ap (is_word words.Input) is;
      behind = made.2;
    })
decl-behind token rest declarations.InputOutput is v made =
    subst (λ v. SpellsDecl v (token ∷ rest)) made.1 (record {
      token = token;
      value = tt;
      rest = rest;
      cut = refl;
      passes = ap (is_word words.InputOutput) is;
      behind = made.2;
    })
decl-behind token rest declarations.Output is v made =
    subst (λ v. SpellsDecl v (token ∷ rest)) made.1 (record {
      token = token;
      value = tt;
      rest = rest;
      cut = refl;
      passes = ap (is_word words.Output) is;
      behind = made.2;
    })
decl-behind token rest declarations.Relation is v made =
    subst (λ v. SpellsDecl v (token ∷ rest)) made.1 (record {
      token = token;
      value = tt;
      rest = rest;
      cut = refl;
      passes = ap (is_word words.Relation) is;
      behind = made.2;
    })

decl_to : (v : Decl) (tokens : List Token) → Led declaration (λ d. DeclBehind d v) tokens → SpellsDecl v tokens
decl_to v tokens led = subst (λ ts. SpellsDecl v ts) (sym led.cut)
    (decl-behind led.token led.rest led.value (declaration-kind led.token.kind led.value led.passes) v led.behind)

decl_from : (v : Decl) (tokens : List Token) → SpellsDecl v tokens → Led declaration (λ d. DeclBehind d v) tokens
decl_from (Input names) tokens led =
    record {
      token = led.token;
      value = declarations.Input;
      rest = led.rest;
      cut = led.cut;
      passes = ap declaration_of (word-kind words.Input led.token.kind tt led.passes);
      behind = (names, refl, led.behind);
    }
decl_from (InputOutput names) tokens led =
    record {
      token = led.token;
      value = declarations.InputOutput;
      rest = led.rest;
      cut = led.cut;
      passes = ap declaration_of (word-kind words.InputOutput led.token.kind tt led.passes);
      behind = (names, refl, led.behind);
    }
decl_from (Output names) tokens led =
    record {
      token = led.token;
      value = declarations.Output;
      rest = led.rest;
      cut = led.cut;
      passes = ap declaration_of (word-kind words.Output led.token.kind tt led.passes);
      behind = (names, refl, led.behind);
    }
decl_from (Relations relations) tokens led =
    record {
      token = led.token;
      value = declarations.Relation;
      rest = led.rest;
      cut = led.cut;
      passes = ap declaration_of (word-kind words.Relation led.token.kind tt led.passes);
      behind = (relations, refl, led.behind);
    }

names-declared : {room : Option ℕ} → Reads class (λ _. declared (the name)) (Declares (One name)) (list_depth (λ _. 0))
    (record { starts = 60 ∷ []; empty = false; after = [] }) room
names-declared = trail-reads (listed-reads marks.Comma name-reads refl) (the-reads (mark-test marks.Semicolon)) refl

abbrev decl_rule : Declaration → ℕ → Rule Token Decl
decl_rule d n = declaration_behind d

abbrev decl_shape : Shape
decl_shape = one_shape declaration_set

decl-arms : (room : Option ℕ) (d : Declaration) → Arm class (λ _. 0) false [] (λ n. decl_rule d n) (DeclBehind d) room
decl-arms room declarations.Input = arm Input names-declared (λ names. sym (list_depth-flat names)) refl
decl-arms room declarations.InputOutput = arm InputOutput names-declared (λ names. sym (list_depth-flat names)) refl
decl-arms room declarations.Output = arm Output names-declared (λ names. sym (list_depth-flat names)) refl
decl-arms room declarations.Relation =
    arm Relations (trail-reads (listed-reads marks.Comma relation-reads refl) (the-reads (mark-test marks.Semicolon)) refl)
    (λ relations. sym (list_depth-flat relations)) refl

decl-lang : Lang class (λ v. Led declaration (λ d. DeclBehind d v)) (λ _. 0) decl_shape
decl-lang = choose-lang DeclBehind declaration-test (record { kind = kinds.Reserved words.Input; span = record { start = 0; end = 0 } }) declarations.Input refl
    (decl-arms None declarations.Input)

decl-reads : (room : Option ℕ) → Reads class decl SpellsDecl (λ _. 0) decl_shape room
decl-reads None = told-reads SpellsDecl (record { lang = decl-lang; laws = tt }) decl_to decl_from
decl-reads (Some room) = told-reads SpellsDecl (choose-reads decl_rule decl-lang room (λ d. decl-arms (Some room) d)) decl_to decl_from

abbrev decl_turn : Turn
decl_turn = record { starts = declaration_set; empty = true; more = []; last = declaration_set }

decl-steps : (room : Option ℕ) → Steps class decl_step (Optional SpellsDecl) (λ _. 0) decl_turn room
decl-steps room = look-steps declaration-test (decl-reads room) refl refl

-- Modules.

ends-module-reads : {room : Option ℕ} → Reads class (λ _. ends_module) (λ _. EndsModule) (λ _. 0)
    (one_shape (mark_class marks.Period ∷ word_class words.End ∷ [])) room
ends-module-reads = ahead-reads (mark-test marks.Period) (the-reads (mark-test marks.Period))
    (led-reads (word-test words.End) (the-reads (word-test words.Module))) refl refl refl refl

abbrev ModuleBehind : Module → List Token → Type 0
ModuleBehind m =
    Then (One name m.name) (Led (mark marks.Colon) (λ _. Then (Many SpellsDecl m.decls) (Then (Spells Whole m.body) EndsModule)))

abbrev module_depth : Module → ℕ
module_depth m = nesting m.body

abbrev module_shape : Shape
module_shape = one_shape (word_class words.Module ∷ [])

module-reads : (room : Option ℕ) → Reads class module_rule SpellsModule module_depth module_shape room
module-reads room =
    led-reads (word-test words.Module) (made-reads (λ found. record { name = found.0; decls = found.1.0; body = found.1.1 }) ModuleBehind module_depth
    (both-reads name-reads (led-reads (mark-test marks.Colon) (both-reads (loop-reads (decl-steps room) refl)
    (trail-reads (statement-reads room) ends-module-reads refl) refl)) refl)
    (λ found. omega (arith, list_depth-flat found.1.0)) (λ found tokens member. member) (λ m tokens member. ((m.name, (m.decls, m.body)), refl, member)))

abbrev module_turn : Turn
module_turn = record { starts = word_class words.Module ∷ []; empty = true; more = []; last = word_class words.Module ∷ [] }

module-steps : (room : Option ℕ) → Steps class module_step (Optional SpellsModule) module_depth module_turn room
module-steps room = look-steps (word-test words.Module) (module-reads room) refl refl

modules_depth : (others : List Module) → program_nesting others ≡ list_depth module_depth others
modules_depth [] = refl
modules_depth (m ∷ others) = ap (max (nesting m.body)) (modules_depth others)

abbrev program_shape : Shape
program_shape = record { starts = word_class words.Module ∷ []; empty = false; after = word_class words.Module ∷ [] }

program-reads : (room : Option ℕ) → Reads class program SpellsProgram program_nesting program_shape room
program-reads room =
    made-reads (λ found. found.0 ∷ found.1) SpellsProgram program_nesting (both-reads (module-reads room) (loop-reads (module-steps room) refl) refl)
    (λ found. ap (max (nesting found.0.body)) (modules_depth found.1)) (λ found tokens member. member) from
  where
    from : (v : SourceProgram) (tokens : List Token) → SpellsProgram v tokens →
        Made {A = Module × List Module} (λ found. found.0 ∷ found.1) (Both SpellsModule (Many SpellsModule)) v tokens
    from [] tokens member = absurd member
    from (m ∷ others) tokens member = ((m, others), refl, member)

-- THE THEOREM: the reading function is exact over whole token lists.
pub program-exact : (room : ℕ) (tokens : List Token) → Exactly IsProgram room tokens (whole (program room) tokens)
program-exact = exact-reads (λ room. program-reads (Some room))

-- what the loops in code want to know
pub decl-advances : (room : ℕ) → Advances (decl_step room)
decl-advances room = Advances-step (decl-steps (Some room)) refl

pub module-advances : (room : ℕ) → Advances (module_step room)
module-advances room = Advances-step (module-steps (Some room)) refl

pub relations-advances : Advances (list_step marks.Comma relation)
relations-advances = list-advances 0 marks.Comma relation-reads refl

-- Inner: judgements on declarations, assignments and whole texts.
use Rattle.std.proofs.Common.{◌≡◌, ◌⊎◌, inl, inr, ℕ, max, true, false, IsTrue, List, [], ◌∷◌, map, Option, Some, None, refl, ap, subst, arith}
use Rattle.csub_text.specs.Tokens.{Kind, Static, Int, Return, Void, React, LeftParenthesis, RightParenthesis, LeftBrace}
use Rattle.csub_text.specs.Tokens.{RightBrace, Semicolon, Equals}
use Rattle.csub_text.specs.Trees.{StateVariable}
use Rattle.csub_text.specs.Grammar.{is, sign, name, bit, own_name, global_name, SpellsExpression, WrittenAssign}
use Rattle.csub_text.specs.Grammar.{WrittenProgram, SpellsState, SpellsGlobal, SpellsLocal, SpellsAssign, SpellsAnswer, SpellsText}
use Rattle.csub_text.specs.Grammar.{body_nesting, text_nesting, IsText}
use Rattle.base_reader.specs.Exact.{Exactly}
use Rattle.base_reader.specs.Languages.{Then, Led, Loop, Optional, Many}
use Rattle.base_reader.specs.Languages.{One as Single}
use Rattle.base_reader.specs.Choice.{Made}
use Rattle.base_reader.specs.Readings.{Rule, mapped, the, loop, whole}
use Rattle.base_reader.proofs.Exports.{Advances, mapped-mapped, apart, Shape, one_shape, Stops, Laws, Reads, the-reads, both-reads, led-reads, trail-reads}
use Rattle.base_reader.proofs.Exports.{ahead-reads, mapped-reads, told-reads, made-reads, same-reads, shape-reads, Turn, step_depth, list_depth, AfterStep}
use Rattle.base_reader.proofs.Exports.{StepLaws, Steps, look-steps, loop-reads, Advances-step, whole-reads as exact-reads, list_depth-flat}
use Rattle.csub_read.specs.Reading.{makes_written, expr, state_rule, state_step, global_step, local_rule, local_step, assign_rule, assign_step}
use Rattle.csub_read.specs.Reading.{answer_rule, body_rule, whole_rule, text_rule, parts_of, written_assign, written_of}
use Rattle.csub_read.specs.Tokens.{spelled}
use Rattle.csub_read.proofs.TokenKinds.{class, is-test, name_set, name-test, own-test, global-test, bit-test, begins_set, sign-begins, sign-follows}
use Rattle.net_expressions.specs.Grammar.{Written, written_nesting}
use Rattle.net_expressions.proofs.Exports.{exprs_known, class-reads}

abbrev expr_shape : Shape
expr_shape = record { starts = begins_set; empty = false; after = 16 ∷ 15 ∷ [] }

expr-reads : (room : ℕ) → Reads class (λ n. expr makes_written n) SpellsExpression written_nesting expr_shape (Some room)
expr-reads room = class-reads class expr_shape (exprs_known sign spelled room).whole (λ e. e) sign-begins sign-follows

own-reads : {room : Option ℕ} → Reads class (λ _. the own_name) (Single own_name) (λ _. 0) (one_shape (18 ∷ [])) room
own-reads = the-reads own-test

pub end-reads : {room : Option ℕ} → Reads class (λ _. the (is Semicolon)) (Single (is Semicolon)) (λ _. 0) (one_shape (11 ∷ [])) room
end-reads = the-reads (is-test Semicolon (omega arith))

-- ---- states

abbrev StateBehind : StateVariable → List Kind → Type 0
StateBehind s = Then (Single own_name s.name) (Led (is Equals) (λ _. Then (Single bit s.init) (Single (is Semicolon) tt)))

state-reads : {room : Option ℕ} → Reads class (λ _. state_rule) SpellsState (λ _. 0) (one_shape (0 ∷ [])) room
state-reads =
    led-reads (is-test Static (omega arith))
    (led-reads (is-test Int (omega arith)) (made-reads (λ found. record { name = found.0; init = found.1 }) StateBehind (λ _. 0)
    (both-reads own-reads (led-reads (is-test Equals (omega arith)) (trail-reads (the-reads bit-test) end-reads refl)) refl) (λ _. refl)
    (λ found tokens member. member) (λ s tokens member. ((s.name, s.init), refl, member))))

abbrev pub turn_of : List ℕ → Turn
turn_of set = record { starts = set; empty = true; more = []; last = set }

state-steps : {room : Option ℕ} → Steps class (λ _. state_step) (Optional SpellsState) (λ _. 0) (turn_of (0 ∷ [])) room
state-steps = look-steps (is-test Static (omega arith)) state-reads refl refl

-- ---- globals

abbrev GlobalBehind : Option (List ℕ) → List Kind → Type 0
GlobalBehind None = Single (is React) tt
GlobalBehind (Some n) = Then (Single global_name n) (Single (is Semicolon) tt)

abbrev EitherGlobal : Option (List ℕ) → List Kind → Type 0
EitherGlobal v tokens = Made {A = Unit {0}} (λ _. None) (Single (is React)) v tokens ⊎ Made Some
    (λ n. Then (Single global_name n) (Single (is Semicolon) tt)) v tokens

global_to : (v : Option (List ℕ)) (tokens : List Kind) → EitherGlobal v tokens → GlobalBehind v tokens
global_to v tokens (inl made) = subst (λ v. GlobalBehind v tokens) made.1 made.2
global_to v tokens (inr made) = subst (λ v. GlobalBehind v tokens) made.1 made.2

global_from : (v : Option (List ℕ)) (tokens : List Kind) → GlobalBehind v tokens → EitherGlobal v tokens
global_from None tokens member = inl (tt, refl, member)
global_from (Some n) tokens member = inr (n, refl, member)

global_spells : (v : Option (List ℕ)) (tokens : List Kind) → Led (is Int) (λ _. GlobalBehind v) tokens → SpellsGlobal v tokens
global_spells None tokens member = member
global_spells (Some n) tokens member = member

global_spelled : (v : Option (List ℕ)) (tokens : List Kind) → SpellsGlobal v tokens → Led (is Int) (λ _. GlobalBehind v) tokens
global_spelled None tokens member = member
global_spelled (Some n) tokens member = member

abbrev no_depth : Option (List ℕ) → ℕ
no_depth = step_depth (λ _. 0)

global-reads : {room : Option ℕ} → Reads class (λ _. global_step) SpellsGlobal no_depth (one_shape (1 ∷ [])) room
global-reads =
    shape-reads (one_shape (1 ∷ [])) (told-reads SpellsGlobal (led-reads (is-test Int (omega arith)) (told-reads GlobalBehind
    (ahead-reads (is-test React (omega arith)) (mapped-reads {A = Unit {0}} (λ _. None) no_depth (the-reads (is-test React (omega arith))) (λ _. refl))
    (mapped-reads Some no_depth (trail-reads (the-reads global-test) end-reads refl) (λ _. refl)) refl refl refl refl) global_to global_from))
    global_spells global_spelled) refl refl refl

abbrev global_turn : Turn
global_turn = record { starts = 1 ∷ []; empty = false; more = []; last = [] }

after_global : (v : Option (List ℕ)) (rest : List Kind) → AfterStep class global_turn v rest → Stops class [] rest
after_global None rest stops = stops
after_global (Some n) rest stops = stops

global-laws : (room : Option ℕ) → Laws class (λ _. global_step) SpellsGlobal no_depth (one_shape (1 ∷ [])) room
    → StepLaws class (λ _. global_step) SpellsGlobal (λ _. 0) global_turn room
global-laws None laws = tt
global-laws (Some n) laws = (
  laws.0,
  λ value front rest member stops. laws.1 value front rest member (after_global value rest stops),
)

global-steps : (room : Option ℕ) → Steps class (λ _. global_step) SpellsGlobal (λ _. 0) global_turn room
global-steps room =
    let r = global-reads {room = room} in
    record {
      opens = λ value tokens member. r.lang.begins (Some value) tokens member;
      closes = λ tokens member. r.lang.begins None tokens member;
      end = Int ∷ React ∷ [];
      ends = record { token = Int; value = tt; rest = React ∷ []; cut = refl; passes = refl; behind = record { token = React; only = refl; passes = refl } };
      laws = global-laws room r.laws;
    }

-- ---- locals and assignments

local-reads : {room : Option ℕ} → Reads class (λ _. local_rule) SpellsLocal (λ _. 0) (one_shape (1 ∷ [])) room
local-reads = led-reads (is-test Int (omega arith)) (trail-reads own-reads end-reads refl)

local-steps : {room : Option ℕ} → Steps class (λ _. local_step) (Optional SpellsLocal) (λ _. 0) (turn_of (1 ∷ [])) room
local-steps = look-steps (is-test Int (omega arith)) local-reads refl refl

abbrev pub SpellsPair : List ℕ × Written → List Kind → Type 0
SpellsPair a = Then (Single name a.0) (Led (is Equals) (λ _. Then (SpellsExpression a.1) (Single (is Semicolon) tt)))

abbrev pub pair_depth : List ℕ × Written → ℕ
pair_depth a = max 0 (written_nesting a.1)

pub assign-reads : (room : ℕ) → Reads class (λ n. assign_rule makes_written n) SpellsPair pair_depth (one_shape name_set) (Some room)
assign-reads room = both-reads (the-reads name-test) (led-reads (is-test Equals (omega arith)) (trail-reads (expr-reads room) end-reads refl)) refl

pub assign-steps : (room : ℕ) → Steps class (λ n. assign_step makes_written n) (Optional SpellsPair) pair_depth (turn_of name_set) (Some room)
assign-steps room = look-steps name-test (assign-reads room) refl refl

pub answer-reads : (room : ℕ) → Reads class (λ n. answer_rule makes_written n) SpellsAnswer written_nesting (one_shape (2 ∷ [])) (Some room)
answer-reads room =
    led-reads (is-test Return (omega arith)) (trail-reads (expr-reads room)
    (led-reads (is-test Semicolon (omega arith)) (the-reads (is-test RightBrace (omega arith)))) refl)

-- ---- whole texts

-- whatever stands behind the locals
abbrev pub SpellsWhole : {B : Type 0} → (B → List Kind → Type 0) → List StateVariable × (List (List ℕ) × (List (List ℕ) × B)) → List Kind → Type 0
SpellsWhole L p =
    Then (Many SpellsState p.0) (Then (Loop SpellsGlobal p.1.0)
    (Led (is LeftParenthesis) (λ _. Led (is Void) (λ _. Led (is RightParenthesis) (λ _. Led (is LeftBrace) (λ _.
    Then (Many SpellsLocal p.1.1.0) (L p.1.1.1)))))))

abbrev pub whole_depth : {B : Type 0} → (B → ℕ) → List StateVariable × (List (List ℕ) × (List (List ℕ) × B)) → ℕ
whole_depth d p =
    max (list_depth (λ _. 0) p.0) (max (list_depth (λ _. 0) p.1.0) (max (list_depth (λ _. 0) p.1.1.0) (d p.1.1.1)))

abbrev pub whole_shape : Shape
whole_shape = record { starts = 0 ∷ 1 ∷ []; empty = false; after = [] }

pub whole-reads : {B : Type 0} {p : ℕ → Rule Kind B} {L : B → List Kind → Type 0} {d : B → ℕ} {starts : List ℕ} {room : ℕ}
    → Reads class p L d (record { starts = starts; empty = false; after = [] }) (Some room) → IsTrue (apart (1 ∷ []) starts)
    → Reads class (λ n. whole_rule (p n)) (SpellsWhole L) (whole_depth d) whole_shape (Some room)
whole-reads {room = room} behind away =
    shape-reads whole_shape
    (both-reads (loop-reads state-steps refl) (both-reads (loop-reads (global-steps (Some room)) refl)
    (led-reads (is-test LeftParenthesis (omega arith))
    (led-reads (is-test Void (omega arith)) (led-reads (is-test RightParenthesis (omega arith)) (led-reads (is-test LeftBrace (omega arith))
    (both-reads (loop-reads local-steps refl) behind away))))) refl) refl) refl refl refl

abbrev Found : Type 0
Found = List StateVariable × (List (List ℕ) × (List (List ℕ) × (List (List ℕ × Written) × Written)))

abbrev SpellsBody : List (List ℕ × Written) × Written → List Kind → Type 0
SpellsBody b = Then (Many SpellsPair b.0) (SpellsAnswer b.1)

abbrev found_depth : Found → ℕ
found_depth = whole_depth (λ b. max (list_depth pair_depth b.0) (written_nesting b.1))

found-reads : (room : ℕ) → Reads class (λ n. whole_rule (body_rule makes_written n)) (SpellsWhole SpellsBody) found_depth whole_shape (Some room)
found-reads room = whole-reads (both-reads (loop-reads (assign-steps room) refl) (answer-reads room) refl) refl

body-depth : (body : List (List ℕ × Written)) → body_nesting (map written_assign body) ≡ list_depth pair_depth body
body-depth [] = refl
body-depth (a ∷ body) = omega (arith, body-depth body)

pairs-to : (body : List (List ℕ × Written)) (tokens : List Kind) → Many SpellsPair body tokens → Many SpellsAssign (map written_assign body) tokens
pairs-to [] tokens member = member
pairs-to (a ∷ body) tokens member = record {
  front = member.front;
  back = member.back;
  cut = member.cut;
  first = member.first;
  second = pairs-to body member.back member.second;
}

abbrev pair_in : WrittenAssign → List ℕ × Written
pair_in a = (a.target, a.value)

pairs-from : (body : List WrittenAssign) (tokens : List Kind) → Many SpellsAssign body tokens → Many SpellsPair (map pair_in body) tokens
pairs-from [] tokens member = member
pairs-from (a ∷ body) tokens member = record {
  front = member.front;
  back = member.back;
  cut = member.cut;
  first = member.first;
  second = pairs-from body member.back member.second;
}

pairs-are : (body : List WrittenAssign) → map written_assign (map pair_in body) ≡ body
pairs-are [] = refl
pairs-are (a ∷ body) = ap (λ l. a ∷ l) (pairs-are body)

-- assignments as they are written
pub assigns-reads : (room : ℕ) → Reads class (λ n. mapped (map written_assign) (loop (assign_step makes_written n))) (Many SpellsAssign) body_nesting
    (record { starts = name_set; empty = true; after = name_set }) (Some room)
assigns-reads room =
    made-reads (map written_assign) (Many SpellsAssign) body_nesting (loop-reads (assign-steps room) refl) body-depth pairs-to
    (λ body tokens member. (map pair_in body, pairs-are body, pairs-from body tokens member))

abbrev program_in : Found → WrittenProgram
program_in found = written_of (parts_of found)

text-to : (found : Found) (tokens : List Kind) → SpellsWhole SpellsBody found tokens → SpellsText (program_in found) tokens
text-to found tokens member =
    let a = member.second in
    let b = a.second in
    let c = b.behind in
    let d = c.behind in
    let e = d.behind in
    let f = e.behind in
    let g = f.second in
    record {
      front = member.front;
      back = member.back;
      cut = member.cut;
      first = member.first;
      second = record {
        front = a.front;
        back = a.back;
        cut = a.cut;
        first = a.first;
        second = record {
          token = b.token;
          value = b.value;
          rest = b.rest;
          cut = b.cut;
          passes = b.passes;
          behind = record {
            token = c.token;
            value = c.value;
            rest = c.rest;
            cut = c.cut;
            passes = c.passes;
            behind = record {
              token = d.token;
              value = d.value;
              rest = d.rest;
              cut = d.cut;
              passes = d.passes;
              behind = record {
                token = e.token;
                value = e.value;
                rest = e.rest;
                cut = e.cut;
                passes = e.passes;
                behind = record {
                  front = f.front;
                  back = f.back;
                  cut = f.cut;
                  first = f.first;
                  second = record { front = g.front; back = g.back; cut = g.cut; first = pairs-to found.1.1.1.0 g.front g.first; second = g.second };
                };
              };
            };
          };
        };
      };
    }

text-from : (p : WrittenProgram) (tokens : List Kind) → SpellsText p tokens → Made program_in (SpellsWhole SpellsBody) p tokens
text-from p tokens member =
    let a = member.second in
    let b = a.second in
    let c = b.behind in
    let d = c.behind in
    let e = d.behind in
    let f = e.behind in
    let g = f.second in (
      (p.states, (p.globals, (p.locals, (map pair_in p.body, p.answer)))),
      ap (λ body. record { states = p.states; globals = p.globals; locals = p.locals; body = body; answer = p.answer }) (pairs-are p.body),
      record {
        front = member.front;
        back = member.back;
        cut = member.cut;
        first = member.first;
        second = record {
          front = a.front;
          back = a.back;
          cut = a.cut;
          first = a.first;
          second = record {
            token = b.token;
            value = b.value;
            rest = b.rest;
            cut = b.cut;
            passes = b.passes;
            behind = record {
              token = c.token;
              value = c.value;
              rest = c.rest;
              cut = c.cut;
              passes = c.passes;
              behind = record {
                token = d.token;
                value = d.value;
                rest = d.rest;
                cut = d.cut;
                passes = d.passes;
                behind = record {
                  token = e.token;
                  value = e.value;
                  rest = e.rest;
                  cut = e.cut;
                  passes = e.passes;
                  behind = record {
                    front = f.front;
                    back = f.back;
                    cut = f.cut;
                    first = f.first;
                    second = record { front = g.front; back = g.back; cut = g.cut; first = pairs-from p.body g.front g.first; second = g.second };
                  };
                };
              };
            };
          };
        };
      },
    )

text-reads : (room : ℕ) → Reads class (λ n. mapped program_in (whole_rule (body_rule makes_written n))) SpellsText text_nesting whole_shape (Some room)
text-reads room =
    made-reads program_in SpellsText text_nesting (found-reads room)
    (λ found. omega (arith, list_depth-flat found.0, list_depth-flat found.1.0, list_depth-flat found.1.1.0, body-depth found.1.1.1.0)) text-to text-from

-- the program that is written in a text
abbrev pub written_rule : ℕ → Rule Kind WrittenProgram
written_rule n = mapped written_of (text_rule makes_written n)

written-reads : (room : ℕ) → Reads class written_rule SpellsText text_nesting whole_shape (Some room)
written-reads room =
    same-reads written_rule (text-reads room)
    (λ n tokens. mapped-mapped parts_of written_of (whole_rule (body_rule makes_written n) tokens))

-- THE THEOREM: the reading function is exact over whole lists of kinds
pub text-exact : (room : ℕ) (tokens : List Kind) → Exactly IsText room tokens (whole (written_rule room) tokens)
text-exact = exact-reads written-reads

-- what loops in code want to know
pub state-advances : Advances state_step
state-advances = Advances-step (state-steps {room = Some 0}) refl

pub global-advances : Advances global_step
global-advances = Advances-step (global-steps (Some 0)) refl

pub local-advances : Advances local_step
local-advances = Advances-step (local-steps {room = Some 0}) refl

pub assign-advances : (room : ℕ) → Advances (assign_step makes_written room)
assign-advances room = Advances-step (assign-steps room) refl

-- Inner: judgements on ports, declarations, assignments and whole texts.
use Rattle.std.proofs.Common.{◌≡◌, ℕ, max, true, false, List, [], ◌∷◌, Option, Some, refl, ap, arith}
use Rattle.base_reader.specs.Exact.{Exactly}
use Rattle.base_reader.specs.Languages.{Empty, Then, Led, Both, Loop, Optional, Many, Parted}
use Rattle.base_reader.specs.Languages.{One as Single}
use Rattle.base_reader.specs.Choice.{Made}
use Rattle.base_reader.specs.Readings.{the, on, whole}
use Rattle.base_reader.proofs.Exports.{Advances, Shape, one_shape, Reads, the-reads, give-reads, both-reads, led-reads, trail-reads, made-reads, shape-reads}
use Rattle.base_reader.proofs.Exports.{Turn, list_depth, Steps, or-steps, look-steps, loop-reads, Advances-step, whole-reads as exact-reads, list_depth-flat}
use Rattle.net_expressions.specs.Grammar.{Written, written_nesting}
use Rattle.net_expressions.specs.Reading.{makes_written}
use Rattle.net_expressions.proofs.Exports.{exprs_known, class-reads}
use Rattle.vlog_text.specs.Trees.{Sort, Declaration, Initial, Assign, Next, Source}
use Rattle.vlog_text.specs.Tokens.{Kind, ModuleWord, InitialWord, AssignWord, AlwaysWord, PosedgeWord, BeginWord}
use Rattle.vlog_text.specs.Tokens.{EndWord, EndmoduleWord, LeftParenthesis, RightParenthesis, Comma, Semicolon, Equals}
use Rattle.vlog_text.specs.Tokens.{At, Becomes}
use Rattle.vlog_text.specs.Grammar.{kind_number, is, sign, name, bit, SpellsExpression, SpellsPorts, SpellsHead, SpellsDeclaration, SpellsInitial}
use Rattle.vlog_text.specs.Grammar.{SpellsAssign, SpellsNext, SpellsClock, SpellsClocked, SpellsText, assigns_nesting, IsText}
use Rattle.vlog_read.specs.Lexed.{spelled}
use Rattle.vlog_read.specs.Reading.{expr, port_step, ports_rule, head_rule, declaration_rule, declaration_step, initial_behind, initial_step}
use Rattle.vlog_read.specs.Reading.{assign_rule, assign_step, clock_rule, next_rule, next_step, clocked_rule, Found, source_of, found_rule, text_rule}
use Rattle.vlog_read.proofs.TokenKinds.{is-test, name-test, bit-test, sort-test, begins_set, sign-begins, sign-follows}

abbrev expr_shape : Shape
expr_shape = record { starts = begins_set; empty = false; after = 15 ∷ 14 ∷ [] }

expr-reads : (room : ℕ) → Reads kind_number (λ n. expr makes_written n) SpellsExpression written_nesting expr_shape (Some room)
expr-reads room = class-reads kind_number expr_shape (exprs_known sign spelled room).whole (λ e. e) sign-begins sign-follows

name-reads : {room : Option ℕ} → Reads kind_number (λ _. the name) (Single name) (λ _. 0) (one_shape (21 ∷ [])) room
name-reads = the-reads name-test

end-reads : {room : Option ℕ} → Reads kind_number (λ _. the (is Semicolon)) (Single (is Semicolon)) (λ _. 0) (one_shape (11 ∷ [])) room
end-reads = the-reads (is-test Semicolon)

abbrev turn_of : List ℕ → Turn
turn_of set = record { starts = set; empty = true; more = []; last = set }

-- ---- the head

port-steps : {room : Option ℕ} → Steps kind_number (λ _. port_step) (Parted (is Comma) (λ _. Single name) Empty) (λ _. 0) (turn_of (10 ∷ [])) room
port-steps = or-steps (is-test Comma) name-reads give-reads refl

ports-from : (ports : List (List ℕ)) (tokens : List Kind) → SpellsPorts ports tokens →
    Made {A = List ℕ × List (List ℕ)} (λ found. found.0 ∷ found.1)
    (Both (Single name) (Loop (Parted (is Comma) (λ _. Single name) Empty))) ports tokens
ports-from [] tokens member = absurd member
ports-from (n ∷ others) tokens member = ((n, others), refl, member)

ports-reads : {room : Option ℕ} → Reads kind_number (λ _. ports_rule) SpellsPorts (λ _. 0)
    (record { starts = 21 ∷ []; empty = false; after = 10 ∷ [] }) room
ports-reads =
    shape-reads (record { starts = 21 ∷ []; empty = false; after = 10 ∷ [] })
    (made-reads (λ found. found.0 ∷ found.1) SpellsPorts (λ _. 0) (both-reads name-reads (loop-reads port-steps refl) refl)
    (λ found. omega (arith, list_depth-flat found.1)) (λ found tokens member. member) ports-from) refl refl refl

abbrev HeadFound : List ℕ × List (List ℕ) → List Kind → Type 0
HeadFound found = SpellsHead found.0 found.1

head-reads : {room : Option ℕ} → Reads kind_number (λ _. head_rule) HeadFound (λ _. max 0 0) (one_shape (0 ∷ [])) room
head-reads =
    led-reads (is-test ModuleWord) (both-reads name-reads (led-reads (is-test LeftParenthesis) (trail-reads ports-reads
    (led-reads (is-test RightParenthesis) end-reads) refl)) refl)

-- ---- declarations, first values and assignments

abbrev pub declared_as : Sort × List ℕ → Declaration
declared_as found = record { sort = found.0; name = found.1 }

declaration-reads : {room : Option ℕ} → Reads kind_number (λ _. declaration_rule) SpellsDeclaration (λ _. 0) (one_shape (20 ∷ [])) room
declaration-reads =
    made-reads declared_as SpellsDeclaration (λ _. 0) (both-reads (the-reads sort-test) (trail-reads name-reads end-reads refl) refl) (λ _. refl)
    (λ found tokens member. member) (λ d tokens member. ((d.sort, d.name), refl, member))

declaration-steps : {room : Option ℕ} → Steps kind_number (λ _. declaration_step) (Optional SpellsDeclaration) (λ _. 0) (turn_of (20 ∷ [])) room
declaration-steps = look-steps sort-test declaration-reads refl refl

abbrev InitialBehind : Initial → List Kind → Type 0
InitialBehind i = Then (Single name i.name) (Led (is Equals) (λ _. Then (Single bit i.value) (Single (is Semicolon) tt)))

initial-reads : {room : Option ℕ} → Reads kind_number (λ _. on (is InitialWord) (λ _. initial_behind)) SpellsInitial (λ _. 0) (one_shape (1 ∷ [])) room
initial-reads =
    led-reads (is-test InitialWord) (made-reads (λ found. record { name = found.0; value = found.1 }) InitialBehind (λ _. 0)
    (both-reads name-reads (led-reads (is-test Equals) (trail-reads (the-reads bit-test) end-reads refl)) refl) (λ _. refl)
    (λ found tokens member. member) (λ i tokens member. ((i.name, i.value), refl, member)))

initial-steps : {room : Option ℕ} → Steps kind_number (λ _. initial_step) (Optional SpellsInitial) (λ _. 0) (turn_of (1 ∷ [])) room
initial-steps = look-steps (is-test InitialWord) initial-reads refl refl

abbrev AssignBehind : Assign Written → List Kind → Type 0
AssignBehind a = Then (Single name a.target) (Led (is Equals) (λ _. Then (SpellsExpression a.value) (Single (is Semicolon) tt)))

abbrev assign_depth : Assign Written → ℕ
assign_depth a = written_nesting a.value

assign-reads : (room : ℕ) → Reads kind_number (λ n. assign_rule makes_written n) SpellsAssign assign_depth (one_shape (2 ∷ [])) (Some room)
assign-reads room =
    led-reads (is-test AssignWord) (made-reads (λ found. record { target = found.0; value = found.1 }) AssignBehind assign_depth
    (both-reads name-reads (led-reads (is-test Equals) (trail-reads (expr-reads room) end-reads refl)) refl) (λ found. omega arith)
    (λ found tokens member. member) (λ a tokens member. ((a.target, a.value), refl, member)))

assign-steps : (room : ℕ) → Steps kind_number (λ n. assign_step makes_written n) (Optional SpellsAssign) assign_depth (turn_of (2 ∷ [])) (Some room)
assign-steps room = look-steps (is-test AssignWord) (assign-reads room) refl refl

-- ---- registers

clock-reads : {room : Option ℕ} → Reads kind_number (λ _. clock_rule) SpellsClock (λ _. 0) (one_shape (3 ∷ [])) room
clock-reads =
    led-reads (is-test AlwaysWord) (led-reads (is-test At) (led-reads (is-test LeftParenthesis) (led-reads (is-test PosedgeWord)
    (trail-reads name-reads (led-reads (is-test RightParenthesis) (the-reads (is-test BeginWord))) refl))))

abbrev pub next_as : List ℕ × List ℕ → Next
next_as found = record { target = found.0; source = found.1 }

next-reads : {room : Option ℕ} → Reads kind_number (λ _. next_rule) SpellsNext (λ _. 0) (one_shape (21 ∷ [])) room
next-reads =
    made-reads next_as SpellsNext (λ _. 0) (both-reads name-reads (led-reads (is-test Becomes) (trail-reads name-reads end-reads refl)) refl) (λ _. refl)
    (λ found tokens member. member) (λ n tokens member. ((n.target, n.source), refl, member))

next-steps : {room : Option ℕ} → Steps kind_number (λ _. next_step) (Optional SpellsNext) (λ _. 0) (turn_of (21 ∷ [])) room
next-steps = look-steps name-test next-reads refl refl

abbrev ClockedFound : List ℕ × List Next → List Kind → Type 0
ClockedFound found = SpellsClocked found.0 found.1

abbrev clocked_depth : List ℕ × List Next → ℕ
clocked_depth found = max 0 (list_depth (λ _. 0) found.1)

clocked-reads : {room : Option ℕ} → Reads kind_number (λ _. clocked_rule) ClockedFound clocked_depth (one_shape (3 ∷ [])) room
clocked-reads =
    shape-reads (one_shape (3 ∷ []))
    (both-reads clock-reads (trail-reads (loop-reads next-steps refl) (led-reads (is-test EndWord) (the-reads (is-test EndmoduleWord))) refl) refl)
    refl refl refl

-- ---- whole texts

abbrev SpellsFound : Found Written → List Kind → Type 0
SpellsFound f =
    Then (HeadFound f.0) (Then (Many SpellsDeclaration f.1.0) (Then (Many SpellsInitial f.1.1.0)
    (Then (Many SpellsAssign f.1.1.1.0) (ClockedFound f.1.1.1.1))))

abbrev found_depth : Found Written → ℕ
found_depth f =
    max (max 0 0) (max (list_depth (λ _. 0) f.1.0) (max (list_depth (λ _. 0) f.1.1.0)
    (max (list_depth assign_depth f.1.1.1.0) (clocked_depth f.1.1.1.1))))

found-reads : (room : ℕ) → Reads kind_number (λ n. found_rule makes_written n) SpellsFound found_depth (one_shape (0 ∷ [])) (Some room)
found-reads room =
    shape-reads (one_shape (0 ∷ []))
    (both-reads head-reads (both-reads (loop-reads declaration-steps refl) (both-reads (loop-reads initial-steps refl)
    (both-reads (loop-reads (assign-steps room) refl) clocked-reads refl) refl) refl) refl) refl refl refl

abbrev text_depth : Source Written → ℕ
text_depth s = assigns_nesting s.assigns

assigns-depth : (assigns : List (Assign Written)) → assigns_nesting assigns ≡ list_depth assign_depth assigns
assigns-depth [] = refl
assigns-depth (a ∷ assigns) = ap (max (written_nesting a.value)) (assigns-depth assigns)

text-from : (s : Source Written) (tokens : List Kind) → SpellsText s tokens → Made source_of SpellsFound s tokens
text-from s tokens member = (((s.name, s.ports), (s.declarations, (s.initials, (s.assigns, (s.clock, s.nexts))))), refl, member)

text-reads : (room : ℕ) → Reads kind_number (λ n. text_rule makes_written n) SpellsText text_depth (one_shape (0 ∷ [])) (Some room)
text-reads room =
    made-reads source_of SpellsText text_depth (found-reads room)
    (λ f. omega (arith, list_depth-flat f.1.0, list_depth-flat f.1.1.0, list_depth-flat f.1.1.1.1.1, assigns-depth f.1.1.1.0))
    (λ f tokens member. member) text-from

-- THE THEOREM: the reading function is exact over whole lists of kinds
pub text-exact : (room : ℕ) (tokens : List Kind) → Exactly IsText room tokens (whole (text_rule makes_written room) tokens)
text-exact = exact-reads text-reads

-- what loops in code want to know
pub port-advances : Advances port_step
port-advances = Advances-step (port-steps {room = Some 0}) refl

pub declaration-advances : Advances declaration_step
declaration-advances = Advances-step (declaration-steps {room = Some 0}) refl

pub initial-advances : Advances initial_step
initial-advances = Advances-step (initial-steps {room = Some 0}) refl

pub next-advances : Advances next_step
next-advances = Advances-step (next-steps {room = Some 0}) refl

pub assign-advances : (room : ℕ) → Advances (assign_step makes_written room)
assign-advances room = Advances-step (assign-steps room) refl

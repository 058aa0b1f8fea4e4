-- Inner: judgements on what the whole grammar uses: words, names, and lists with separators.
use Rattle.std.proofs.Common.{◌≡◌, ℕ, false, IsTrue, List, [], ◌∷◌, ◌++◌, ◌<◌, length, map, Option, Some, Ok, Err, Result, Bor, refl, sym, ◌∙◌, ap}
use Rattle.std.proofs.Common.{arith}
use Rattle.est_ast.specs.declared.tokens.Token.{Token}
use Rattle.est_ast.specs.declared.tokens.Reserved.{Reserved}
use Rattle.est_ast.specs.declared.tokens.Reserved.TheVariants as words
use Rattle.est_ast.specs.declared.tokens.Mark.{Mark}
use Rattle.base_types.specs.declared.place.Span.{Span}
use Rattle.est_ast.specs.Trees.{Stmt, At, Form, Stmts, stmts}
use Rattle.est_parse.specs.Parts.{stmt_list}
use Rattle.est_ast.specs.Grammar.{mark, name, Listed, Ends}
use Rattle.base_reader.specs.Languages.{Empty, One, Both, Loop, Parted}
use Rattle.base_reader.specs.Choice.{Made, entered, fits}
use Rattle.std.specs.Option.{option_map_or}
use Rattle.std.proofs.lemmas.List.{append_assoc, map-id}
use Rattle.base_expressions.specs.Reading.{Opening}
use Rattle.base_expressions.specs.Reading as tiers
use Rattle.base_expressions.specs.Views.{FindsBy}
use Rattle.base_reader.specs.Found.{Finds}
use Rattle.base_reader.specs.declared.faults.ReadError.{ReadError}
use Rattle.base_reader.specs.declared.faults.ReadError.TheVariants as errors
use Rattle.est_ast.specs.Grammar.{span_of}
use Rattle.base_reader.specs.Readings.{Read, Rule, refuse, give, follow, mapped, on, the, picked, turn, loop, taken_of}
use Rattle.base_reader.proofs.Exports.{Advances, loop-unfolds, apart, Shape, one_shape, no_shape, then_shape, Reads, the-reads, give-reads, both-reads}
use Rattle.base_reader.proofs.Exports.{led-reads, may-reads, made-reads, or_turn, step_shape, list_depth, or-steps, loop-reads, Advances-step}
use Rattle.est_parse.specs.declared.openings.Bracket.{Bracket}
use Rattle.est_parse.specs.Openings.{Leaf, part_start, event_start}
use Rattle.est_parse.specs.Reading.{list_step, listed, ends, tests, event, finished, stmt_parts}
use Rattle.est_parse.proofs.TokenKinds.{word_class, mark_class, class, word-test, mark-test, name-test}

pub name-reads : {room : Option ℕ} → Reads class (λ _. the name) (One name) (λ _. 0) (one_shape (60 ∷ [])) room
name-reads = the-reads name-test

abbrev pub ends_shape : Reserved → Shape
ends_shape w = record { starts = word_class words.End ∷ []; empty = false; after = word_class w ∷ [] }

pub ends-reads : {room : Option ℕ} → (w : Reserved) → Reads class (λ _. ends w) (λ _. Ends w) (λ _. 0) (ends_shape w) room
ends-reads w = led-reads (word-test words.End) (may-reads (word-test w))

-- one or more with separators between them
abbrev pub listed_shape : Mark → Shape → Shape
listed_shape m s = then_shape s (step_shape (or_turn (mark_class m ∷ []) s no_shape))

pub listed-reads : {A : Type 0} {p : ℕ → Rule Token A} {L : A → List Token → Type 0} {d : A → ℕ} {s : Shape} {room : Option ℕ} →
    (m : Mark) → Reads class p L d s room → IsTrue (apart s.after (mark_class m ∷ [])) →
    Reads class (λ n. listed m (p n)) (Listed (mark m) L) (list_depth d) (listed_shape m s) room
listed-reads {A} {p} {L} {d} {s} {room} m r away =
    made-reads {A = A × List A} (λ found. found.0 ∷ found.1) (Listed (mark m) L) (list_depth d)
    (both-reads r (loop-reads (or-steps (mark-test m) r give-reads refl) away) away) (λ found. refl) (λ found tokens member. member) from
  where
    from : (value : List A) (tokens : List Token) → Listed (mark m) L value tokens →
        Made {A = A × List A} (λ found. found.0 ∷ found.1) (Both L (Loop (Parted (mark m) (λ _. L) Empty))) value tokens
    from [] tokens member = absurd member
    from (value ∷ others) tokens member = ((value, others), refl, member)

-- a list of more than one
pub stmt_list-many : (node : Stmts → Form) (parts : List Stmt) (span : Span) → 1 < length parts → stmt_list node parts span ≡ At span (node (stmts parts))
stmt_list-many node [] span many = absurd (omega arith)
stmt_list-many node (p ∷ []) span many = absurd (omega arith)
stmt_list-many node (p ∷ next ∷ others) span many = refl

-- Code that a reader of plain tokens read, where the tokens are plain themselves.
pub finds-plain : {T X Y : Type 0} (view : X → Y) (result : Result (X × Bor (List T)) ReadError) (p : Rule T Y) (tokens : List T) →
    FindsBy (λ t. t) view result (p (map (λ t. t) tokens)) → Finds view result (p tokens)
finds-plain view (Ok found) p tokens is = ap p (sym (map-id tokens)) ∙ is ∙ ap (λ ts. Ok (view found.0, ts)) (map-id found.1.now)
finds-plain view (Err (errors.Fault fault)) p tokens is = ap p (sym (map-id tokens)) ∙ is
finds-plain view (Err errors.NoMemory) p tokens is = tt

-- where what begins an event begins the next part of a test, an event is that part
pub event-part : (room : ℕ) (tokens : List Token) → picked event_start tokens ≡ picked part_start tokens
    → tiers.neg tests room (tiers.inside tests room) tokens ≡ event room tokens
event-part room tokens same =
    ap (λ o. option_map_or {T = Opening Bracket Leaf × List Token}
    (λ found. entered (fits (tiers.is_deep found.0) room) (tiers.opened tests found.0 (tiers.inside tests room)) tokens found.1) o (refuse tokens)) (sym same)

-- What loops in code keep.

-- a token and what it opens, once both are read
pub on-read : {X A : Type 0} (test : Token → Option X) (p : X → Rule Token A) (tokens : List Token) (x : X) (behind : List Token) (read : Read Token A) →
    picked test tokens ≡ Some (x, behind) → p x behind ≡ read → on test p tokens ≡ read
on-read {X} {A} test p tokens x behind read next is = ap (λ o. option_map_or {T = X × List Token} (λ found. p found.0 found.1) o (refuse tokens)) next ∙ is

after-begun : (node : Stmts → Form) (step : Rule Token (Option Stmt)) (tokens : List Token) (p : Stmt) (r : Read Token (List Stmt)) →
    finished (λ others. stmt_list node (p ∷ others)) tokens r
    ≡ follow {B = Stmt} (follow {B = (Stmt × List Stmt) × Span} (follow {B = Stmt × List Stmt} r (λ other. give (p, other)))
    (λ value rest. Ok ((value, span_of (taken_of tokens rest)), rest)))
    (λ found. give (stmt_list node (found.0.0 ∷ found.0.1) found.1))
after-begun node step tokens p (Ok found) = refl
after-begun node step tokens p (Err fault) = refl

-- the first part of a list with a place is read
pub finished-begun : (node : Stmts → Form) (part : Rule Token Stmt) (step : Rule Token (Option Stmt)) (tokens : List Token) (p : Stmt) (rest : List Token) →
    part tokens ≡ Ok (p, rest) → finished (λ others. stmt_list node (p ∷ others)) tokens (loop step rest) ≡ stmt_parts node part step tokens
finished-begun node part step tokens p rest is =
    after-begun node step tokens p (loop step rest)
    ∙ sym (ap (λ r. follow {B = Stmt} (follow {B = (Stmt × List Stmt) × Span}
    (follow {B = Stmt × List Stmt} r (λ value. mapped (λ other. (value, other)) (loop step)))
    (λ value rest. Ok ((value, span_of (taken_of tokens rest)), rest)))
    (λ found. give (stmt_list node (found.0.0 ∷ found.0.1) found.1))) is)

-- one more part is read
pub finished-grown : (step : Rule Token (Option Stmt)) → Advances step →
    (f : List Stmt → Span → Stmt) (front : List Stmt) (tokens from : List Token) (p : Stmt) (rest : List Token) →
    step from ≡ Ok (Some p, rest) →
    finished (λ others. f ((front ++ p ∷ []) ++ others)) tokens (loop step rest) ≡ finished (λ others. f (front ++ others)) tokens (loop step from)
finished-grown step advances f front tokens from p rest is =
    sym (ap (finished (λ others. f (front ++ others)) tokens) (loop-unfolds step advances from ∙ ap (λ r. follow r (turn (loop step))) is)
    ∙ go (loop step rest))
  where
    go : (r : Read Token (List Stmt)) → finished (λ others. f (front ++ others)) tokens (follow r (λ others. give (p ∷ others))) ≡
        finished (λ others. f ((front ++ p ∷ []) ++ others)) tokens r
    go (Ok found) = ap (λ parts. Ok (f parts (span_of (taken_of tokens found.1)), found.1)) (sym (append_assoc front (p ∷ []) found.0))
    go (Err fault) = refl

-- the steps of a list of names, and of any list whose parts are read
pub list-advances : {A : Type 0} {p : ℕ → Rule Token A} {L : A → List Token → Type 0} {d : A → ℕ} {s : Shape} (room : ℕ) (m : Mark) →
    Reads class p L d s (Some room) → IsTrue (apart s.after (mark_class m ∷ [])) → Advances (list_step m (p room))
list-advances room m r away = Advances-step (or-steps (mark-test m) r give-reads refl) away

pub names-advances : (m : Mark) → Advances (list_step m (the name))
names-advances m = list-advances 0 m name-reads refl

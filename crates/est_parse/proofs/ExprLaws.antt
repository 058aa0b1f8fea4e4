-- Inner: judgements on tests, events and delays.
use Rattle.std.proofs.Common.{◌≡◌, ◌⊎◌, inl, inr, ℕ, suc, IsTrue, List, [], ◌∷◌, Option, Some, None, refl, sym, ◌∙◌, ap, subst, arith}
use Rattle.std.specs.Option.{option_map}
use Rattle.base_types.specs.declared.place.Span.{Span}
use Rattle.est_ast.specs.declared.tokens.Token.{Token}
use Rattle.est_ast.specs.declared.tokens.Kind.{Kind}
use Rattle.est_ast.specs.declared.tokens.Kind.TheVariants as kinds
use Rattle.est_ast.specs.declared.tokens.Reserved.{Reserved}
use Rattle.est_ast.specs.declared.tokens.Reserved.TheVariants as words
use Rattle.est_ast.specs.declared.tokens.Mark.TheVariants as marks
use Rattle.est_ast.specs.declared.trees.Name.{Name}
use Rattle.est_ast.specs.Trees.{Expr, Tick, Sig, Not, And, Or, Round, Square, Exprs, NoExprs, MoreExprs, Delay, Plain, Immediate, Count, exprs}
use Rattle.est_ast.specs.Grammar.{is_word, word, mark, name_at, name, number, tick_at, tick, TestTier, Disjunction, Conjunction, Negation, SpellsExpr}
use Rattle.est_ast.specs.Grammar.{SpellsExprs, SpellsNextExprs, SpellsOtherExprs, SpellsEvent, SpellsDelay, SpellsCount, SpellsTest}
use Rattle.est_ast.specs.Nesting.{expr_nesting, exprs_nesting, delay_nesting}
use Rattle.base_expressions.specs.Reading.{Opening, Negates, Opens, IsLeaf}
use Rattle.base_expressions.proofs.Exports.{Behind, IsGrammar, Kinds, KnownExprs, TellsOpenings, part-to, negation-from, bracket-from, leaf-from, IsRow, AtTier}
use Rattle.base_expressions.proofs.Exports.{IsBelow, IsNode, tier-of}
use Rattle.base_expressions.proofs.Judgements as tiers
use Rattle.base_reader.specs.Languages.{One, Then, Led, Both}
use Rattle.base_reader.specs.Choice.{Made}
use Rattle.base_reader.specs.Readings.{Rule}
use Rattle.base_reader.proofs.Exports.{apart, Test, Shape, one_shape, Reads, the-reads, both-reads, led-reads, ahead-reads, mapped-reads, told-reads}
use Rattle.base_reader.proofs.Exports.{shape-reads}
use Rattle.est_parse.specs.declared.openings.Bracket.{Bracket}
use Rattle.est_parse.specs.declared.openings.Bracket.TheVariants as brackets
use Rattle.est_parse.specs.Openings.{Leaf, TickLeaf, NameLeaf, part_at, part_start, event_in, event_start}
use Rattle.est_parse.specs.Parts.{count_of}
use Rattle.est_parse.specs.Reading.{leaf_of, bracketed, closing_mark, tests, event}
use Rattle.est_parse.specs.Reading.{immediate, count, delay, test}
use Rattle.est_parse.proofs.TokenKinds.{word_class, mark_class, class, word-kind, mark-kind, word-test, mark-test, number-test, factor_set, part-test}
use Rattle.est_parse.proofs.TokenKinds.{event_set, event-test}

-- Parts of tests.

-- the marks that open brackets
abbrev opening_mark : Bracket → Token → Option (Unit {0})
opening_mark brackets.Round = mark marks.LeftParenthesis
opening_mark brackets.Square = mark marks.LeftBracket

not-passes : (span : Span) (kind : Kind) → part_at span kind ≡ Some Negates → is_word words.Not kind ≡ Some tt
not-passes span (kinds.Reserved words.Not) is = refl
not-passes span (kinds.Mark marks.LeftBracket) is = cc
not-passes span _ is = cc

bracket-passes : (b : Bracket) (span : Span) (kind : Kind) → part_at span kind ≡ Some (Opens b)
    → opening_mark b (record { kind = kind; span = span }) ≡ Some tt
bracket-passes brackets.Round span (kinds.Mark marks.LeftParenthesis) is = refl
bracket-passes brackets.Square span (kinds.Mark marks.LeftBracket) is = refl
bracket-passes brackets.Round span (kinds.Reserved words.Not) is = cc
bracket-passes brackets.Square span (kinds.Reserved words.Not) is = cc
bracket-passes _ span _ is = cc

bracket-takes : (b : Bracket) (token : Token) → opening_mark b token ≡ Some tt → part_start token ≡ Some (Opens b)
bracket-takes brackets.Round token is = ap (part_at token.span) (mark-kind marks.LeftParenthesis token.kind tt is)
bracket-takes brackets.Square token is = ap (part_at token.span) (mark-kind marks.LeftBracket token.kind tt is)

tick-takes : (span : Span) (kind : Kind) (at : Span) → tick_at span kind ≡ Some at → part_at span kind ≡ Some (IsLeaf (TickLeaf at))
tick-takes span (kinds.Reserved words.Tick) at is = ap (option_map (λ at. IsLeaf (TickLeaf at))) is
tick-takes span _ at is = cc

name-takes : (span : Span) (kind : Kind) (n : Name) → name_at span kind ≡ Some n → part_at span kind ≡ Some (IsLeaf (NameLeaf n))
name-takes span (kinds.Ident text) n is = ap (option_map (λ n. IsLeaf (NameLeaf n))) is
name-takes span (kinds.Reserved w) n is = cc
name-takes span (kinds.Mark m) n is = cc
name-takes span (kinds.Number value) n is = cc

leaf-to : (leaf : Leaf) (span : Span) (kind : Kind) → part_at span kind ≡ Some (IsLeaf leaf)
    → SpellsExpr Negation (leaf_of leaf) (record { kind = kind; span = span } ∷ [])
leaf-to (TickLeaf at) span (kinds.Reserved words.Tick) is =
    let same : span ≡ at = cc in record { token = record { kind = kinds.Reserved words.Tick; span = span }; only = refl; passes = ap Some same }
leaf-to (NameLeaf n) span (kinds.Ident text) is =
    let same : record { text = text; span = span } ≡ n = cc in
    record { token = record { kind = kinds.Ident text; span = span }; only = refl; passes = ap Some same }
leaf-to (TickLeaf at) span (kinds.Mark marks.LeftBracket) is = cc
leaf-to (NameLeaf n) span (kinds.Reserved words.Not) is = cc
leaf-to (NameLeaf n) span (kinds.Mark marks.LeftBracket) is = cc
leaf-to _ span _ is = cc

begins : TellsOpenings tests (word words.Not) opening_mark
begins = record {
  negates_hit = λ token. not-passes token.span token.kind;
  negates_sure = λ token is. ap (part_at token.span) (word-kind words.Not token.kind tt is);
  opens_hit = λ b token. bracket-passes b token.span token.kind;
  opens_sure = bracket-takes;
}

abbrev Parts : Expr → List Token → Type 0
Parts = SpellsExpr Negation

abbrev Tests : Expr → List Token → Type 0
Tests = SpellsExpr Disjunction

-- a part that such a token begins
abbrev Opened : (Token → Option (Opening Bracket Leaf)) → Expr → List Token → Type 0
Opened start v = Led start (λ o. Behind tests Parts Tests o v)

abbrev part-from : (v : Expr) (tokens : List Token) → Parts v tokens → Opened part_start v tokens
part-from (Tick span) tokens one = leaf-from Parts Tests begins tick span (TickLeaf span) (λ token. tick-takes token.span token.kind span) tokens one
part-from (Sig n) tokens one = leaf-from Parts Tests begins name n (NameLeaf n) (λ token. name-takes token.span token.kind n) tokens one
part-from (Not e) tokens led = negation-from Parts Tests begins e tokens led
part-from (Round e) tokens led = bracket-from Parts Tests begins brackets.Round e tokens led
part-from (Square e) tokens led = bracket-from Parts Tests begins brackets.Square e tokens led
part-from (And parts) tokens member = absurd member
part-from (Or parts) tokens member = absurd member

bracket-to : (b : Bracket) (e : Expr) (tokens : List Token) → Led (opening_mark b) (λ _. Then (SpellsExpr Disjunction e) (One (closing_mark b) tt)) tokens
    → SpellsExpr Negation (bracketed b e) tokens
bracket-to brackets.Round e tokens led = led
bracket-to brackets.Square e tokens led = led

-- Tiers.

exprs-of : (others : Exprs) → (es : List Expr) × (exprs es ≡ others)
exprs-of NoExprs = ([], refl)
exprs-of (MoreExprs e others) = let es = exprs-of others in (e ∷ es.0, ap (MoreExprs e) es.1)

row : (w : Reserved) (tier : TestTier) →
    IsRow (word w) (SpellsExpr tier) expr_nesting exprs exprs_nesting (SpellsExprs w tier) (SpellsNextExprs w tier) (SpellsOtherExprs w tier)
row w tier = record { listed = exprs-of; none = (refl, refl, refl, refl); more = λ e es. (refl, refl, refl, refl) }

conjunction : (v : Expr) → AtTier (SpellsExpr Negation) (SpellsExpr Conjunction) And v
conjunction (And parts) = IsNode parts refl refl
conjunction (Tick span) = IsBelow refl
conjunction _ = IsBelow refl

disjunction : (v : Expr) → AtTier (SpellsExpr Conjunction) (SpellsExpr Disjunction) Or v
disjunction (Or parts) = IsNode parts refl refl
disjunction (Tick span) = IsBelow refl
disjunction _ = IsBelow refl

leaf-nesting : (leaf : Leaf) → expr_nesting (leaf_of leaf) ≡ 0
leaf-nesting (TickLeaf span) = refl
leaf-nesting (NameLeaf n) = refl

bracket-nesting : (b : Bracket) (e : Expr) → expr_nesting (bracketed b e) ≡ suc (expr_nesting e)
bracket-nesting brackets.Round e = refl
bracket-nesting brackets.Square e = refl

-- The judgements.

-- some place and a token at it
abbrev nowhere : Span
nowhere = record { start = 0; end = 0 }

grammar : IsGrammar tests Parts (SpellsExpr Conjunction) Tests class factor_set expr_nesting
grammar = record {
  parts = record {
    test = part-test;
    token = record { kind = kinds.Reserved words.Tick; span = nowhere };
    leaf = TickLeaf nowhere;
    takes = refl;
    to = part-to Parts Tests begins (λ e tokens led. led) bracket-to (λ leaf token. leaf-to leaf token.span token.kind);
    from = part-from;
  };
  conjunctions = tier-of (row words.And Negation) And (SpellsExpr Conjunction) (λ r. refl) (λ r. refl) conjunction;
  disjunctions = tier-of (row words.Or Conjunction) Or (SpellsExpr Disjunction) (λ r. refl) (λ r. refl) disjunction;
  leaf_depth = leaf-nesting;
  negation_depth = λ e. refl;
  bracket_depth = bracket-nesting;
}

abbrev closing_class : Bracket → ℕ
closing_class brackets.Round = mark_class marks.RightParenthesis
closing_class brackets.Square = mark_class marks.RightBracket

closing-test : (b : Bracket) → Test class (closing_mark b) (closing_class b ∷ [])
closing-test brackets.Round = mark-test marks.RightParenthesis
closing-test brackets.Square = mark-test marks.RightBracket

closing-apart : (b : Bracket) → IsTrue (apart (word_class words.And ∷ word_class words.Or ∷ []) (closing_class b ∷ []))
closing-apart brackets.Round = refl
closing-apart brackets.Square = refl

sorts : Kinds tests class factor_set (word_class words.And) (word_class words.Or) closing_class
sorts = record {
  and_test = word-test words.And;
  or_test = word-test words.Or;
  closing_test = closing-test;
  starts_in = refl;
  and_in = refl;
  or_in = refl;
  or_apart = refl;
  closing_apart = closing-apart;
}

abbrev pub expr_shape : Shape
expr_shape = tiers.expr_shape factor_set (word_class words.And) (word_class words.Or)

abbrev pub KnownTests : Option ℕ → Type 0
KnownTests = KnownExprs tests Parts Tests expr_nesting class factor_set (word_class words.And) (word_class words.Or)

pub exprs_alone : KnownTests None
exprs_alone = tiers.exprs_alone sorts grammar

pub exprs_known : (room : ℕ) → KnownTests (Some room)
exprs_known = tiers.exprs_known sorts grammar

-- Events.

only-event : (p : Option (Opening Bracket Leaf)) (o : Opening Bracket Leaf) → event_in p ≡ Some o → p ≡ Some o
only-event None o is = is
only-event (Some Negates) o is = cc
only-event (Some (Opens brackets.Round)) o is = cc
only-event (Some (Opens brackets.Square)) o is = is
only-event (Some (IsLeaf leaf)) o is = is

-- a part of a test that begins so is an event
is-event : (o : Opening Bracket Leaf) → event_in (Some o) ≡ Some o → (v : Expr) (rest tokens : List Token) → Behind tests Parts Tests o v rest
    → Parts v tokens → SpellsEvent v tokens
is-event Negates is v rest tokens made = cc
is-event (Opens brackets.Round) is v rest tokens made = cc
is-event (Opens brackets.Square) is v rest tokens made = subst (λ v. Parts v tokens → SpellsEvent v tokens) made.1 (λ part. part)
is-event (IsLeaf (TickLeaf at)) is v rest tokens made = subst (λ v. Parts v tokens → SpellsEvent v tokens) made.1 (λ part. part)
is-event (IsLeaf (NameLeaf n)) is v rest tokens made = subst (λ v. Parts v tokens → SpellsEvent v tokens) made.1 (λ part. part)

event-to : (v : Expr) (tokens : List Token) → Opened event_start v tokens → SpellsEvent v tokens
event-to v tokens led =
    let is = only-event (part_start led.token) led.value led.passes in
    is-event led.value (ap event_in (sym is) ∙ led.passes) v led.rest tokens led.behind (grammar.parts.to v tokens
    (record { token = led.token; value = led.value; rest = led.rest; cut = led.cut; passes = is; behind = led.behind }))

narrowed : (v : Expr) (tokens : List Token) (led : Opened part_start v tokens) → event_in (Some led.value) ≡ Some led.value
    → Opened event_start v tokens
narrowed v tokens led same = record {
  token = led.token;
  value = led.value;
  rest = led.rest;
  cut = led.cut;
  passes = ap event_in led.passes ∙ same;
  behind = led.behind;
}

event-from : (v : Expr) (tokens : List Token) → SpellsEvent v tokens → Opened event_start v tokens
event-from (Tick span) tokens part = narrowed (Tick span) tokens (part-from (Tick span) tokens part) refl
event-from (Sig n) tokens part = narrowed (Sig n) tokens (part-from (Sig n) tokens part) refl
event-from (Square e) tokens part = narrowed (Square e) tokens (part-from (Square e) tokens part) refl
event-from (Not e) tokens part = absurd part
event-from (Round e) tokens part = absurd part
event-from (And parts) tokens part = absurd part
event-from (Or parts) tokens part = absurd part

abbrev pub event_shape : Shape
event_shape = one_shape event_set

pub event_known : (room : Option ℕ) → Reads class event SpellsEvent expr_nesting event_shape room
event_known = tiers.part_known sorts grammar (record {
  test = event-test;
  token = record { kind = kinds.Reserved words.Tick; span = nowhere };
  leaf = TickLeaf nowhere;
  takes = refl;
  to = event-to;
  from = event-from;
})

-- Delays, on an event's judgement.

abbrev pub immediate_shape : Shape
immediate_shape = one_shape (word_class words.Immediate ∷ [])

abbrev pub count_shape : Shape
count_shape = one_shape (61 ∷ event_set)

abbrev pub delay_shape : Shape
delay_shape = one_shape (word_class words.Immediate ∷ 61 ∷ event_set)

abbrev pub test_shape : Shape
test_shape = one_shape (word_class words.Immediate ∷ event_set)

abbrev NumberAndEvent : (ℕ × Span) × Expr → List Token → Type 0
NumberAndEvent = Both (One number) SpellsEvent

abbrev ImmediateEvent : Expr → List Token → Type 0
ImmediateEvent v = Led (word words.Immediate) (λ _. SpellsEvent v)

count_to : (v : Delay) (tokens : List Token) → Made count_of NumberAndEvent v tokens ⊎ Made Plain SpellsEvent v tokens → SpellsCount v tokens
count_to v tokens (inl made) = subst (λ v. SpellsCount v tokens) made.1 made.2
count_to v tokens (inr made) = subst (λ v. SpellsCount v tokens) made.1 made.2

count_from : (v : Delay) (tokens : List Token) → SpellsCount v tokens → Made count_of NumberAndEvent v tokens ⊎ Made Plain SpellsEvent v tokens
count_from (Plain event) tokens member = inr (event, refl, member)
count_from (Immediate event) tokens member = absurd member
count_from (Count value span event) tokens member = inl (((value, span), event), refl, member)

delay_to : (v : Delay) (tokens : List Token) → Made Immediate ImmediateEvent v tokens ⊎ SpellsCount v tokens → SpellsDelay v tokens
delay_to v tokens (inl made) = subst (λ v. SpellsDelay v tokens) made.1 made.2
delay_to (Plain event) tokens (inr member) = member
delay_to (Immediate event) tokens (inr member) = absurd member
delay_to (Count value span event) tokens (inr member) = member

delay_from : (v : Delay) (tokens : List Token) → SpellsDelay v tokens → Made Immediate ImmediateEvent v tokens ⊎ SpellsCount v tokens
delay_from (Plain event) tokens member = inr member
delay_from (Immediate event) tokens member = inl (event, refl, member)
delay_from (Count value span event) tokens member = inr member

test_to : (v : Delay) (tokens : List Token) → Made Immediate ImmediateEvent v tokens ⊎ Made Plain SpellsEvent v tokens → SpellsTest v tokens
test_to v tokens (inl made) = subst (λ v. SpellsTest v tokens) made.1 made.2
test_to v tokens (inr made) = subst (λ v. SpellsTest v tokens) made.1 made.2

test_from : (v : Delay) (tokens : List Token) → SpellsTest v tokens → Made Immediate ImmediateEvent v tokens ⊎ Made Plain SpellsEvent v tokens
test_from (Plain event) tokens member = inr (event, refl, member)
test_from (Immediate event) tokens member = inl (event, refl, member)
test_from (Count value span event) tokens member = absurd member

immediate-reads : {p : ℕ → Rule Token Expr} {room : Option ℕ} → Reads class p SpellsEvent expr_nesting event_shape room →
    Reads class (λ n. immediate (p n)) (Made Immediate ImmediateEvent) delay_nesting immediate_shape room
immediate-reads k = mapped-reads Immediate delay_nesting (led-reads (word-test words.Immediate) k) (λ _. refl)

pub count-reads : {p : ℕ → Rule Token Expr} {room : Option ℕ} → Reads class p SpellsEvent expr_nesting event_shape room →
    Reads class (λ n. count (p n)) SpellsCount delay_nesting count_shape room
count-reads k =
    shape-reads count_shape (told-reads SpellsCount (ahead-reads number-test
    (mapped-reads count_of delay_nesting (both-reads (the-reads number-test) k refl) (λ _. omega arith))
    (mapped-reads Plain delay_nesting k (λ _. refl)) refl refl refl refl)
    count_to count_from) refl refl refl

pub delay-reads : {p : ℕ → Rule Token Expr} {room : Option ℕ} → Reads class p SpellsEvent expr_nesting event_shape room →
    Reads class (λ n. delay (p n)) SpellsDelay delay_nesting delay_shape room
delay-reads k =
    shape-reads delay_shape (told-reads SpellsDelay (ahead-reads (word-test words.Immediate) (immediate-reads k) (count-reads k) refl refl refl refl) delay_to
    delay_from) refl refl refl

pub test-reads : {p : ℕ → Rule Token Expr} {room : Option ℕ} → Reads class p SpellsEvent expr_nesting event_shape room →
    Reads class (λ n. test (p n)) SpellsTest delay_nesting test_shape room
test-reads k =
    shape-reads test_shape (told-reads SpellsTest (ahead-reads (word-test words.Immediate) (immediate-reads k)
    (mapped-reads Plain delay_nesting k (λ _. refl)) refl refl refl refl)
    test_to test_from) refl refl refl

-- Inner: the worked example's judgements.
use Rattle.std.proofs.Common.{◌≡◌, ℕ, zero, suc, max, true, false, List, [], ◌∷◌, Option, Some, None, is_some, refl, sym, ap, subst, arith}
use Rattle.base_reader.specs.declared.statements.Token.{Token}
use Rattle.base_reader.specs.declared.statements.Token.TheVariants as kinds
use Rattle.base_reader.specs.declared.statements.Opening.{Opening}
use Rattle.base_reader.specs.declared.statements.Opening.TheVariants as openings
use Rattle.base_reader.specs.Languages.{Empty, One, Then, Led, Both, Loop, Maybe, Parted}
use Rattle.base_reader.specs.Choice.{Made, Only, adds, fits}
use Rattle.base_reader.specs.Readings.{Rule, whole}
use Rattle.base_reader.specs.Exact.{Exactly}
use Rattle.base_reader.specs.StatementGrammar.{Plain, Nothing, Pause, Group, Sequence, Plains, NoPlains, More, nothing, pause, semicolon, open_bracket}
use Rattle.base_reader.specs.StatementGrammar.{close_bracket, Item, Items, Spells, SpellsOthers, nesting, deepest, IsStatement}
use Rattle.base_reader.specs.StatementReading.{opening, is_deep, behind, plains, list_of, item, step, items, statement, inside}
use Rattle.base_reader.proofs.Sets.{has, Test, test-of}
use Rattle.base_reader.proofs.Nesting.{Below, by_room}
use Rattle.base_reader.proofs.Loops.{Advances}
use Rattle.base_reader.proofs.Readers.{Shape, Lang, Reads, the-reads, give-reads, both-reads, trail-reads, told-reads, made-reads, same-reads, shape-reads}
use Rattle.base_reader.proofs.Steps.{list_depth, Steps, trailing-steps, loop-reads, Advances-step}
use Rattle.base_reader.proofs.Choices.{Arm, arm, choose-lang, choose-reads, whole-reads}

-- the kinds of tokens
abbrev class : Token → ℕ
class kinds.Nothing = 0
class kinds.Pause = 1
class kinds.Semicolon = 2
class kinds.Open = 3
class kinds.Close = 4

semicolon-test : Test class semicolon (2 ∷ [])
semicolon-test = test-of (2 ∷ []) agrees kinds.Semicolon tt refl
  where
    agrees : (token : Token) → is_some (semicolon token) ≡ has (2 ∷ []) (class token)
    agrees kinds.Semicolon = refl
    agrees _ = refl

close_bracket-test : Test class close_bracket (4 ∷ [])
close_bracket-test = test-of (4 ∷ []) agrees kinds.Close tt refl
  where
    agrees : (token : Token) → is_some (close_bracket token) ≡ has (4 ∷ []) (class token)
    agrees kinds.Close = refl
    agrees _ = refl

opening-test : Test class opening (0 ∷ 1 ∷ 3 ∷ [])
opening-test = test-of (0 ∷ 1 ∷ 3 ∷ []) agrees kinds.Nothing openings.Nothing refl
  where
    agrees : (token : Token) → is_some (opening token) ≡ has (0 ∷ 1 ∷ 3 ∷ []) (class token)
    agrees kinds.Nothing = refl
    agrees _ = refl

-- An item is what its opening has behind it.

abbrev Behind : Opening → Plain → List Token → Type 0
Behind openings.Nothing = Only Nothing
Behind openings.Pause = Only Pause
Behind openings.Group = Made Group (λ body. Then (Spells Items body) (One close_bracket tt))

-- a token with nothing behind it
one-led : {X : Type 0} {test : Token → Option X} (token : Token) (x : X) (rest : List Token) → test token ≡ Some x → Empty rest → One test x (token ∷ rest)
one-led token x rest takes none = record { token = token; only = ap (λ r. token ∷ r) none; passes = takes }

behind-item : (token : Token) (rest : List Token) (o : Opening) → opening token ≡ Some o → (value : Plain) → Behind o value rest →
    Spells Item value (token ∷ rest)
behind-item kinds.Nothing rest openings.Nothing takes value made =
    subst (λ v. Spells Item v (kinds.Nothing ∷ rest)) made.1 (one-led {test = nothing} kinds.Nothing tt rest refl made.2)
behind-item kinds.Pause rest openings.Pause takes value made = subst (λ v. Spells Item v (kinds.Pause ∷ rest)) made.1
    (one-led {test = pause} kinds.Pause tt rest refl made.2)
behind-item kinds.Open rest openings.Group takes value made =
    subst (λ v. Spells Item v (kinds.Open ∷ rest)) made.1 (record { token = kinds.Open; value = tt; rest = rest; cut = refl; passes = refl; behind = made.2 })
behind-item _ rest _ takes value made = cc

item-to : (value : Plain) (tokens : List Token) → Led opening (λ o. Behind o value) tokens → Spells Item value tokens
item-to value tokens led = subst (λ ts. Spells Item value ts) (sym led.cut) (behind-item led.token led.rest led.value led.passes value led.behind)

opens_nothing : (token : Token) → nothing token ≡ Some tt → opening token ≡ Some openings.Nothing
opens_nothing kinds.Nothing is = refl
opens_nothing _ is = cc

opens_pause : (token : Token) → pause token ≡ Some tt → opening token ≡ Some openings.Pause
opens_pause kinds.Pause is = refl
opens_pause _ is = cc

opens_group : (token : Token) → open_bracket token ≡ Some tt → opening token ≡ Some openings.Group
opens_group kinds.Open is = refl
opens_group _ is = cc

item-from : (value : Plain) (tokens : List Token) → Spells Item value tokens → Led opening (λ o. Behind o value) tokens
item-from Nothing tokens one = record {
  token = one.token;
  value = openings.Nothing;
  rest = [];
  cut = one.only;
  passes = opens_nothing one.token one.passes;
  behind = (tt, refl, refl);
}
item-from Pause tokens one = record {
  token = one.token;
  value = openings.Pause;
  rest = [];
  cut = one.only;
  passes = opens_pause one.token one.passes;
  behind = (tt, refl, refl);
}
item-from (Group body) tokens led = record {
  token = led.token;
  value = openings.Group;
  rest = led.rest;
  cut = led.cut;
  passes = opens_group led.token led.passes;
  behind = (body, refl, led.behind);
}
item-from (Sequence parts) tokens member = absurd member

-- A list is its items.

-- what stands behind the first item
abbrev Step : Option Plain → List Token → Type 0
Step = Parted semicolon (λ _. Spells Item) (Maybe semicolon)

abbrev items_of : Plains → List Plain
items_of NoPlains = []
items_of (More plain others) = plain ∷ items_of others

plains-items : (others : Plains) → plains (items_of others) ≡ others
plains-items NoPlains = refl
plains-items (More plain others) = ap (More plain) (plains-items others)

deepest-plains : (others : List Plain) → deepest (plains others) ≡ list_depth nesting others
deepest-plains [] = refl
deepest-plains (plain ∷ others) = ap (max (nesting plain)) (deepest-plains others)

list-nesting : (value : Plain × List Plain) → nesting (list_of (value.0 ∷ value.1)) ≡ max (nesting value.0) (list_depth nesting value.1)
list-nesting (plain, []) = omega arith
list-nesting (plain, next ∷ others) = ap (λ n. max (nesting plain) (max (nesting next) n)) (deepest-plains others)

others-to : (others : List Plain) (tokens : List Token) → Loop Step others tokens → SpellsOthers (plains others) tokens
others-to [] tokens member = member
others-to (plain ∷ others) tokens member = record {
  front = member.front;
  back = member.back;
  cut = member.cut;
  first = member.first;
  second = others-to others member.back member.second;
}

others-from : (others : Plains) (tokens : List Token) → SpellsOthers others tokens → Loop Step (items_of others) tokens
others-from NoPlains tokens member = member
others-from (More plain others) tokens member = record {
  front = member.front;
  back = member.back;
  cut = member.cut;
  first = member.first;
  second = others-from others member.back member.second;
}

alone : (value : Plain) (tokens : List Token) → Then (Spells Item value) (Maybe semicolon) tokens → Spells Items value tokens
alone (Sequence parts) tokens member = absurd member.first
alone Nothing tokens member = member
alone _ tokens member = member

list-to : (value : Plain × List Plain) (tokens : List Token) → Both (Spells Item) (Loop Step) value tokens → Spells Items (list_of (value.0 ∷ value.1)) tokens
list-to (plain, []) tokens member = alone plain tokens member
list-to (plain, next ∷ others) tokens member =
    let behind = member.second in
    record {
      front = member.front;
      back = member.back;
      cut = member.cut;
      first = member.first;
      second = record { front = behind.front; back = behind.back; cut = behind.cut; first = behind.first; second = others-to others behind.back behind.second };
    }

list-from : (value : Plain) (tokens : List Token) → Spells Items value tokens →
    Made {A = Plain × List Plain} (λ value. list_of (value.0 ∷ value.1)) (Both (Spells Item) (Loop Step)) value tokens
list-from (Sequence (More plain (More next others))) tokens member =
    let behind = member.second in (
      (plain, next ∷ items_of others),
      ap (λ o. Sequence (More plain (More next o))) (plains-items others),
      record {
        front = member.front;
        back = member.back;
        cut = member.cut;
        first = member.first;
        second = record {
          front = behind.front;
          back = behind.back;
          cut = behind.cut;
          first = behind.first;
          second = others-from others behind.back behind.second;
        };
      },
    )
list-from (Sequence (More plain NoPlains)) tokens member = absurd member.second
list-from (Sequence NoPlains) tokens member = absurd member
list-from Nothing tokens member = ((Nothing, []), refl, member)
list-from Pause tokens member = ((Pause, []), refl, member)
list-from (Group body) tokens member = ((Group body, []), refl, member)

-- The judgements.

abbrev item_shape : Shape
item_shape = record { starts = 0 ∷ 1 ∷ 3 ∷ []; empty = false; after = [] }

abbrev list_shape : Shape
list_shape = record { starts = 0 ∷ 1 ∷ 3 ∷ []; empty = false; after = 0 ∷ 1 ∷ 2 ∷ 3 ∷ [] }

abbrev IsRead : Option ℕ → Type 0
IsRead room = Reads class statement (Spells Items) nesting list_shape room

abbrev rule : Opening → ℕ → Rule Token Plain
rule o n = behind o (inside n)

pub statement-is : (n : ℕ) (tokens : List Token) → statement n tokens ≡ items n (inside n) tokens
statement-is zero tokens = refl
statement-is (suc n) tokens = refl

nothing-arm : {room : Option ℕ} → Arm class nesting false [] (λ n. rule openings.Nothing n) (Behind openings.Nothing) room
nothing-arm = arm (λ _. Nothing) give-reads (λ _. refl) refl

arms : (room : ℕ) → IsRead (fits true room) → (o : Opening) → Arm class nesting (is_deep o) [] (λ n. rule o (adds (is_deep o) n)) (Behind o)
    (fits (is_deep o) room)
arms room k openings.Nothing = nothing-arm
arms room k openings.Pause = arm (λ _. Pause) give-reads (λ _. refl) refl
arms room k openings.Group = arm Group (trail-reads k (the-reads close_bracket-test) refl) (λ _. refl) refl

item-lang : Lang class (λ value. Led opening (λ o. Behind o value)) nesting item_shape
item-lang = choose-lang Behind opening-test kinds.Nothing openings.Nothing refl (nothing-arm {room = None})

item-reads : (room : ℕ) → IsRead (fits true room) → Reads class (λ n. item n (inside n)) (Spells Item) nesting item_shape (Some room)
item-reads room k = told-reads (Spells Item) (choose-reads rule item-lang room (arms room k)) item-to item-from

steps : {room : Option ℕ} → Reads class (λ n. item n (inside n)) (Spells Item) nesting item_shape room →
    Steps class (λ n. step n (inside n)) Step nesting (record { starts = 2 ∷ []; empty = true; more = []; last = 2 ∷ 0 ∷ 1 ∷ 3 ∷ [] }) room
steps k = trailing-steps semicolon-test opening-test k refl refl

items-reads : {room : Option ℕ} → Reads class (λ n. item n (inside n)) (Spells Item) nesting item_shape room → IsRead room
items-reads k =
    same-reads statement
    (shape-reads list_shape (made-reads (λ value. list_of (value.0 ∷ value.1)) (Spells Items) nesting
    (both-reads k (loop-reads (steps k) refl) refl) list-nesting list-to list-from) refl refl refl)
    statement-is

alone-reads : IsRead None
alone-reads = items-reads (told-reads (Spells Item) (record { lang = item-lang; laws = tt }) item-to item-from)

inside-reads : (room : ℕ) → Below (λ n. IsRead (Some n)) room → IsRead (fits true room)
inside-reads zero below = alone-reads
inside-reads (suc room) below = below

statement-reads : (room : ℕ) → IsRead (Some room)
statement-reads = by_room (λ n. IsRead (Some n)) (λ room below. items-reads (item-reads room (inside-reads room below)))

inside-known : (room : ℕ) → IsRead (fits true room)
inside-known zero = alone-reads
inside-known (suc room) = statement-reads room

-- what a loop over the items wants to know
pub step-advances : (room : ℕ) → Advances (step room (inside room))
step-advances room = Advances-step (steps (item-reads room (inside-known room))) refl

-- THE THEOREM of the worked example
pub statement-exact : (room : ℕ) (tokens : List Token) → Exactly IsStatement room tokens (whole (statement room) tokens)
statement-exact = whole-reads statement-reads

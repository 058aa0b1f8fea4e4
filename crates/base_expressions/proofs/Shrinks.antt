-- Inner: what is left behind a rule is no more than what stood before it, and the steps of a list take a token each.
use Rattle.std.proofs.Common.{ℕ, zero, suc, ◌+◌, ◌≤◌, ◌<◌, Bool, List, [], ◌∷◌, length, map, Option, Some, None, Ok, Err, subst, arith}
use Rattle.std.proofs.lemmas.List.{length-map}
use Rattle.std.specs.Option.{option_map, option_map_or}
use Rattle.base_reader.specs.Readings.{Read, Rule, refuse, give, follow, mapped, both, trail, the, when, turn, turns, loop}
use Rattle.base_reader.specs.Choice.{choose, entered, fits}
use Rattle.base_reader.proofs.Exports.{Advances}
use Rattle.base_expressions.specs.declared.language.Joint.{Joint}
use Rattle.base_expressions.specs.declared.language.Joint.TheVariants as joints
use Rattle.base_expressions.specs.Reading.{Opening, Negates, Opens, IsLeaf, Tiers, Rules, is_deep, opened, neg, list_of, list_step, listed, below, inside}

-- what a value is worth, and the tokens behind it, are at most so many
abbrev Leaves : {T A : Type 0} → (A → ℕ) → ℕ → Read T A → Type 0
Leaves worth n (Ok found) = worth found.0 + length found.1 ≤ n
Leaves worth n (Err fault) = Unit {0}

abbrev Spends : {T A : Type 0} → (A → ℕ) → Rule T A → Type 0
Spends {T} {A} worth p = (tokens : List T) → Leaves worth (length tokens) (p tokens)

abbrev nothing : {A : Type 0} → A → ℕ
nothing _ = 0

-- a part that a step gives is worth a token
abbrev a_token : {A : Type 0} → Option A → ℕ
a_token None = 0
a_token (Some part) = 1

leaves-more : {T A : Type 0} (worth : A → ℕ) (m n : ℕ) (r : Read T A) → m ≤ n → Leaves worth m r → Leaves worth n r
leaves-more worth m n (Ok found) more low = omega (arith, more, low)
leaves-more worth m n (Err fault) more low = tt

spends-follow : {T A B : Type 0} (worth : A → ℕ) (worth' : B → ℕ) (n : ℕ) (r : Read T A) (go : A → Rule T B) → Leaves worth n r
    → ((a : A) → Spends worth' (go a)) → Leaves worth' n (follow r go)
spends-follow worth worth' n (Ok found) go low each =
    leaves-more worth' (length found.1) n (go found.0 found.1) (omega (arith, low)) (each found.0 found.1)
spends-follow worth worth' n (Err fault) go low each = tt

spends-mapped : {T A B : Type 0} (f : A → B) (p : Rule T A) → Spends nothing p → Spends nothing (mapped f p)
spends-mapped f p k tokens = spends-follow nothing nothing (length tokens) (p tokens) (λ value. give (f value)) (k tokens) (λ value tokens. omega arith)

spends-both : {T A B : Type 0} (p : Rule T A) (q : Rule T B) → Spends nothing p → Spends nothing q → Spends nothing (both p q)
spends-both {T} {A} {B} p q k l tokens =
    spends-follow {B = A × B} nothing nothing (length tokens) (p tokens) (λ value. mapped (λ other. (value, other)) q) (k tokens)
    (λ value. spends-mapped {B = A × B} (λ other. (value, other)) q l)

spends-trail : {T A B : Type 0} (p : Rule T A) (q : Rule T B) → Spends nothing p → Spends nothing q → Spends nothing (trail p q)
spends-trail p q k l tokens =
    spends-follow nothing nothing (length tokens) (p tokens) (λ value. mapped (λ _. value) q) (k tokens) (λ value. spends-mapped (λ _. value) q l)

-- a token is taken before what it opens
spends-when : {T X A : Type 0} (worth : A → ℕ) (test : T → Option X) (p : X → Rule T A) (q : Rule T A)
    → ((x : X) (rest : List T) → Leaves worth (suc (length rest)) (p x rest)) → Spends worth q → Spends worth (when test p q)
spends-when worth test p q each other [] = other []
spends-when {T} {X} {A} worth test p q each other (token ∷ rest) = go (test token)
  where
    go : (o : Option X) → Leaves worth (suc (length rest)) (option_map_or {T = X × List T} (λ found. p found.0 found.1)
        (option_map {T = X} {U = X × List T} (λ value. (value, rest)) o) (q (token ∷ rest)))
    go None = other (token ∷ rest)
    go (Some x) = each x rest

spends-the : {T X : Type 0} (test : T → Option X) → Spends nothing (the test)
spends-the test = spends-when nothing test give refuse (λ x rest. omega arith) (λ tokens. tt)

spends-choose : {T X A : Type 0} (test : T → Option X) (deep : X → Bool) (room : ℕ) (p : X → Rule T A) → ((x : X) → Spends nothing (p x))
    → Spends nothing (choose test deep room p)
spends-choose {T} {X} {A} test deep room p each tokens =
    spends-when nothing test (λ x. entered (fits (deep x) room) (p x) tokens) refuse (λ x rest. enter x rest (fits (deep x) room)) (λ other. tt) tokens
  where
    enter : (x : X) (rest : List T) (o : Option ℕ) → Leaves nothing (suc (length rest)) (entered o (p x) tokens rest)
    enter x rest None = tt
    enter x rest (Some less) = leaves-more nothing (length rest) (suc (length rest)) (p x rest) (omega arith) (each x rest)

-- ---- steps of a list

spends-step : {T A : Type 0} (mark : T → Option (Unit {0})) (p : Rule T A) → Spends nothing p → Spends a_token (list_step mark p)
spends-step {T} {A} mark p k =
    spends-when a_token mark (λ _. mapped Some p) (mapped {A = Unit {0}} (λ _. None) (give tt)) (λ x rest. some (length rest) (p rest) (k rest))
    (λ tokens. omega arith)
  where
    some : (n : ℕ) (r : Read T A) → Leaves nothing n r → Leaves a_token (suc n) (follow r (λ value. give (Some value)))
    some n (Ok found) low = omega (arith, low)
    some n (Err fault) low = tt

spends-turns : {T A : Type 0} (step : Rule T (Option A)) → Spends a_token step → (n : ℕ) → Spends nothing (turns n step)
spends-turns step k zero tokens = omega arith
spends-turns {T} {A} step k (suc n) tokens =
    spends-follow a_token nothing (length tokens) (step tokens) (turn (turns n step)) (k tokens) (each (spends-turns step k n))
  where
    each : Spends nothing (turns n step) → (o : Option A) → Spends nothing (turn (turns n step) o)
    each less None = λ tokens. omega arith
    each less (Some value) = spends-mapped (λ others. value ∷ others) (turns n step) less

spends-listed : {T A : Type 0} (mark : T → Option (Unit {0})) (node : List A → A) (p : Rule T A) → Spends nothing p → Spends nothing (listed mark node p)
spends-listed {T} {A} mark node p k =
    spends-mapped {A = A × List A} (λ found. list_of node (found.0 ∷ found.1)) (both p (loop (list_step mark p)))
    (spends-both p (loop (list_step mark p)) k (λ tokens. spends-turns (list_step mark p) (spends-step mark p k) (suc (length tokens)) tokens))

advances : {T A : Type 0} (mark : T → Option (Unit {0})) (p : Rule T A) → Spends nothing p → Advances (list_step mark p)
advances mark p k tokens value rest is =
    let low = subst (Leaves a_token (length tokens)) is (spends-step mark p k tokens) in omega (arith, low)

-- ---- the rules

module _ {T B F A : Type 0} (t : Tiers T B F A) where
  record SpendRules (r : Rules T A) : Type 0 where
    part : Spends nothing r.part
    whole : Spends nothing r.whole

  spends-opened : (r : Rules T A) → SpendRules r → (o : Opening B F) → Spends nothing (opened t o r)
  spends-opened r k Negates = spends-mapped t.negation r.part k.part
  spends-opened r k (Opens b) =
      spends-mapped (t.bracketed b) (trail r.whole (the (t.closing b))) (spends-trail r.whole (the (t.closing b)) k.whole (spends-the (t.closing b)))
  spends-opened r k (IsLeaf leaf) = λ tokens. omega arith

  spends-neg : (room : ℕ) (r : Rules T A) → SpendRules r → Spends nothing (neg t room r)
  spends-neg room r k = spends-choose t.opening is_deep room (λ o. opened t o r) (spends-opened r k)

  spends-below : (joint : Joint) (room : ℕ) (r : Rules T A) → SpendRules r → Spends nothing (below t joint room r)
  spends-below joints.And room r k = spends-neg room r k
  spends-below joints.Or room r k = spends-listed (t.mark joints.And) (t.joined joints.And) (neg t room r) (spends-neg room r k)

  spends-inside : (room : ℕ) → SpendRules (inside t room)
  spends-inside zero = record { part = λ tokens. tt; whole = λ tokens. tt }
  spends-inside (suc room) =
      let k = spends-inside room in record {
        part = spends-neg room (inside t room) k;
        whole = spends-listed (t.mark joints.Or) (t.joined joints.Or) (below t joints.Or room (inside t room)) (spends-below joints.Or room (inside t room) k);
      }

  -- what the loop over parts wants to know
  pub part-advances : (joint : Joint) (room : ℕ) → Advances (list_step (t.mark joint) (below t joint room (inside t room)))
  part-advances joint room = advances (t.mark joint) (below t joint room (inside t room)) (spends-below joint room (inside t room) (spends-inside room))

-- fewer plain tokens are fewer tokens
pub shorter : {X Y : Type 0} (f : X → Y) (xs ys : List X) → length (map f xs) < length (map f ys) → length xs < length ys
shorter f xs ys low = let a = length-map xs f in let b = length-map ys f in omega (arith, low, a, b)

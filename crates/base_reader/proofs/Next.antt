-- The next token of a list, and whether a test takes it.
use Rattle.std.proofs.Common.{subst, ◌≡◌, List, [], ◌∷◌, ◌++◌, Option, Some, None, refl, sym, ◌∙◌, ap}
use Rattle.std.specs.Option.{option_map, option_map_or}
use Rattle.std.proofs.lemmas.List.{append_assoc}
use Rattle.base_reader.specs.Languages.{One, Then, Led}
use Rattle.base_reader.specs.Readings.{Rule, next_of, picked, when, ahead}

-- the test gives the next token no value, or there is none
abbrev pub Refuses : {T X : Type 0} → (T → Option X) → List T → Type 0
Refuses test [] = Unit {0}
Refuses test (token ∷ rest) = test token ≡ None

-- the test gives the next token this value
abbrev pub Takes : {T X : Type 0} → (T → Option X) → X → List T → Type 0
Takes test value [] = ⊥
Takes test value (token ∷ rest) = test token ≡ Some value

-- what stands behind the next token of the rest does not change the next token of the whole
pub next_of-append : {T : Type 0} (front other rest : List T) → next_of other ≡ next_of rest →
    next_of (front ++ other) ≡ next_of (front ++ rest)
next_of-append [] other rest same = same
next_of-append (token ∷ front) other rest same = refl

pub next_of-append_cut : {T : Type 0} (tokens front other rest : List T) → tokens ≡ front ++ rest →
    next_of other ≡ next_of rest → next_of (front ++ other) ≡ next_of tokens
next_of-append_cut tokens front other rest cut same = next_of-append front other rest same ∙ ap next_of (sym cut)

-- a list with the next token of another is that token and some rest
pub next_of-some : {T : Type 0} (tokens : List T) (token : T) → next_of tokens ≡ Some token →
    (rest : List T) × (tokens ≡ token ∷ rest)
next_of-some [] token is = cc
next_of-some (other ∷ rest) token is = (rest, cc)

pub next_of-none : {T : Type 0} (tokens : List T) → next_of tokens ≡ None → tokens ≡ []
next_of-none [] is = refl
next_of-none (other ∷ rest) is = cc

pub Refuses-alike : {T X : Type 0} (test : T → Option X) (tokens other : List T) →
    next_of other ≡ next_of tokens → Refuses test tokens → Refuses test other
Refuses-alike test [] [] same refuses = tt
Refuses-alike test [] (token ∷ rest) same refuses = cc
Refuses-alike test (token ∷ rest) [] same refuses = tt
Refuses-alike test (token ∷ rest) (token' ∷ rest') same refuses = cc

-- what is picked of a list that the test refuses, and of one that it takes
pub picked-refused : {T X : Type 0} (test : T → Option X) (tokens : List T) → Refuses test tokens →
    picked test tokens ≡ None
picked-refused test [] refuses = refl
picked-refused test (token ∷ rest) refuses = ap (option_map (λ value. (value, rest))) refuses

pub picked-taken : {T X : Type 0} (test : T → Option X) (token : T) (rest : List T) (value : X) →
    test token ≡ Some value → picked test (token ∷ rest) ≡ Some (value, rest)
picked-taken test token rest value takes = ap (option_map (λ value. (value, rest))) takes

-- a rule with a test on a list that the test refuses
pub when-refused : {T X A : Type 0} (test : T → Option X) (p : X → Rule T A) (q : Rule T A)
    (tokens : List T) → Refuses test tokens → when test p q tokens ≡ q tokens
when-refused test p q tokens refuses = ap (λ o. option_map_or (λ found. p found.0 found.1) o (q tokens)) (picked-refused test tokens refuses)

pub ahead-refused : {T X A : Type 0} (test : T → Option X) (p q : Rule T A) (tokens : List T) →
    Refuses test tokens → ahead test p q tokens ≡ q tokens
ahead-refused test p q tokens refuses = ap (λ o. option_map_or (λ _. p tokens) o (q tokens)) (picked-refused test tokens refuses)

-- and on one that it takes
pub when-taken : {T X A : Type 0} (test : T → Option X) (p : X → Rule T A) (q : Rule T A) (token : T)
    (rest : List T) (value : X) → test token ≡ Some value → when test p q (token ∷ rest) ≡ p value rest
when-taken test p q token rest value takes = ap (λ o. option_map_or (λ found. p found.0 found.1) o (q (token ∷ rest)))
    (picked-taken test token rest value takes)

pub ahead-taken : {T X A : Type 0} (test : T → Option X) (p q : Rule T A) (tokens : List T) (value : X) →
    Takes test value tokens → ahead test p q tokens ≡ p tokens
ahead-taken test p q [] value takes = absurd takes
ahead-taken test p q (token ∷ rest) value takes = ap (λ o. option_map_or (λ _. p (token ∷ rest)) o (q (token ∷ rest)))
    (picked-taken test token rest value takes)

pub Takes-alike : {T X : Type 0} (test : T → Option X) (value : X) (tokens other : List T) →
    next_of other ≡ next_of tokens → Takes test value tokens → Takes test value other
Takes-alike test value [] other same takes = absurd takes
Takes-alike test value (token ∷ rest) [] same takes = cc
Takes-alike test value (token ∷ rest) (token' ∷ rest') same takes = cc

-- what a test says of a list that begins with a token known by another test
pub One-refuses : {T X Y : Type 0} (test : T → Option X) (other : T → Option Y) (value : X) →
    ((token : T) → test token ≡ Some value → other token ≡ None) → (tokens rest : List T) →
    One test value tokens → Refuses other (tokens ++ rest)
One-refuses test other value refuses tokens rest one = subst (λ ts. Refuses other (ts ++ rest)) (sym one.only) (refuses one.token one.passes)

pub One-takes : {T X Y : Type 0} (test : T → Option X) (other : T → Option Y) (value : X) (y : Y) →
    ((token : T) → test token ≡ Some value → other token ≡ Some y) → (tokens rest : List T) →
    One test value tokens → Takes other y (tokens ++ rest)
One-takes test other value y takes tokens rest one = subst (λ ts. Takes other y (ts ++ rest)) (sym one.only) (takes one.token one.passes)

pub Led-refuses : {T X Y : Type 0} (test : T → Option X) (other : T → Option Y) (L : X → List T → Type 0) →
    ((token : T) (value : X) → test token ≡ Some value → other token ≡ None) → (tokens rest : List T) →
    Led test L tokens → Refuses other (tokens ++ rest)
Led-refuses test other L refuses tokens rest led = subst (λ ts. Refuses other (ts ++ rest)) (sym led.cut) (refuses led.token led.value led.passes)

pub Led-takes : {T X Y : Type 0} (test : T → Option X) (other : T → Option Y) (L : X → List T → Type 0)
    (y : X → Y) → ((token : T) (value : X) → test token ≡ Some value → other token ≡ Some (y value)) →
    (tokens rest : List T) (led : Led test L tokens) → Takes other (y led.value) (tokens ++ rest)
Led-takes test other L y takes tokens rest led = subst (λ ts. Takes other (y led.value) (ts ++ rest)) (sym led.cut) (takes led.token led.value led.passes)

-- what a test says of a list whose first part is not empty
pub Then-refuses : {T X : Type 0} (test : T → Option X) (L M : List T → Type 0) →
    ((tokens rest : List T) → L tokens → Refuses test (tokens ++ rest)) → (tokens rest : List T) →
    Then L M tokens → Refuses test (tokens ++ rest)
Then-refuses test L M refuses tokens rest member =
    subst (λ ts. Refuses test ts) (sym (ap (λ ts. ts ++ rest) member.cut ∙ append_assoc member.front member.back rest))
    (refuses member.front (member.back ++ rest) member.first)

pub Then-takes : {T X : Type 0} (test : T → Option X) (x : X) (L M : List T → Type 0) →
    ((tokens rest : List T) → L tokens → Takes test x (tokens ++ rest)) → (tokens rest : List T) →
    Then L M tokens → Takes test x (tokens ++ rest)
Then-takes test x L M takes tokens rest member =
    subst (λ ts. Takes test x ts) (sym (ap (λ ts. ts ++ rest) member.cut ∙ append_assoc member.front member.back rest))
    (takes member.front (member.back ++ rest) member.first)

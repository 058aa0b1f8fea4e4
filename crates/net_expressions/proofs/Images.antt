-- Inner: rules that make what a function makes of what other rules make, and the steps of loops in code.
use Rattle.std.proofs.Common.{◌≡◌, ℕ, zero, suc, ◌<◌, Bool, false, List, [], ◌∷◌, ◌++◌, map, length, Option, Some, None, is_some, Result, Ok, Err, refl}
use Rattle.std.proofs.Common.{◌∙◌, sym, ap, subst}
use Rattle.std.specs.Option.{option_map, option_map_or}
use Rattle.std.proofs.lemmas.List.{append-nil}
use Rattle.std.proofs.lemmas.Bool.{false≢true}
use Rattle.base_reader.specs.declared.faults.Fault.{Fault}
use Rattle.base_reader.specs.Readings.{Read, Rule, refuse, give, follow, mapped, both, trail, on, the, when, ahead, maybe, picked, turn, turns, loop}
use Rattle.base_reader.specs.Readings.{end_of}
use Rattle.base_reader.specs.Choice.{optional_or, choose, entered, fits}
use Rattle.base_reader.proofs.Exports.{Advances, loop-last}
pub use Rattle.base_expressions.proofs.Exports.{shorter}

-- the second rule reads what the first one does, and gives what f makes of it
abbrev pub Image : {T A B : Type 0} → (A → B) → Rule T A → Rule T B → Type 0
Image {T} f p q = (tokens : List T) → mapped f p tokens ≡ q tokens

-- the same of an answer
abbrev pub moved : {T A B : Type 0} → (A → B) → Read T A → Read T B
moved f read = follow read (λ value. give (f value))

pub image-give : {T A B : Type 0} (f : A → B) (a : A) → Image {T = T} f (give a) (give (f a))
image-give f a tokens = refl

pub image-refuse : {T A B : Type 0} (f : A → B) → Image {T = T} f refuse refuse
image-refuse f tokens = refl

pub image-mapped : {T A B C D : Type 0} (f : A → B) (p : Rule T A) (q : Rule T B) (g : A → C) (h : C → D) (k : B → D) → ((a : A) → h (g a) ≡ k (f a))
    → Image f p q →
    Image h (mapped g p) (mapped k q)
image-mapped {T} {A} {B} f p q g h k same image tokens = go (p tokens) ∙ ap (moved k) (image tokens)
  where
    go : (r : Read T A) → moved h (moved g r) ≡ moved k (moved f r)
    go (Ok found) = ap (λ d. Ok (d, found.1)) (same found.0)
    go (Err fault) = refl

pub image-both : {T A B C D : Type 0} (f : A → B) (p : Rule T A) (q : Rule T B) (g : C → D) (r : Rule T C) (s : Rule T D) → Image f p q → Image g r s →
    Image {A = A × C} {B = B × D} (λ v. (f v.0, g v.1)) (both p r) (both q s)
image-both {T} {A} {B} {C} {D} f p q g r s first second tokens = go (p tokens)
    ∙ ap (λ (x : Read T B). follow {B = B × D} x (λ value. mapped {A = D} {B = B × D} (λ other. (value, other)) s)) (first tokens)
  where
    behind : (a : A) (x : Read T C) → moved {A = A × C} {B = B × D} (λ v. (f v.0, g v.1)) (moved {A = C} {B = A × C} (λ other. (a, other)) x)
        ≡ moved {A = D} {B = B × D} (λ other. (f a, other)) (moved g x)
    behind a (Ok found) = refl
    behind a (Err fault) = refl

    go : (x : Read T A) → moved {A = A × C} {B = B × D} (λ v. (f v.0, g v.1))
        (follow {B = A × C} x (λ value. mapped {A = C} {B = A × C} (λ other. (value, other)) r))
        ≡ follow {B = B × D} (moved f x) (λ value. mapped {A = D} {B = B × D} (λ other. (value, other)) s)
    go (Ok found) = behind found.0 (r found.1) ∙ ap (moved {A = D} {B = B × D} (λ other. (f found.0, other))) (second found.1)
    go (Err fault) = refl

pub image-trail : {T A B C : Type 0} (f : A → B) (p : Rule T A) (q : Rule T B) (r : Rule T C) → Image f p q → Image f (trail p r) (trail q r)
image-trail {T} {A} {B} {C} f p q r image tokens = go (p tokens) ∙ ap (λ (x : Read T B). follow x (λ value. mapped (λ _. value) r)) (image tokens)
  where
    behind : (a : A) (x : Read T C) → moved f (moved (λ _. a) x) ≡ moved (λ _. f a) x
    behind a (Ok found) = refl
    behind a (Err fault) = refl

    go : (x : Read T A) → moved f (follow x (λ value. mapped (λ _. value) r)) ≡ follow (moved f x) (λ value. mapped (λ _. value) r)
    go (Ok found) = behind found.0 (r found.1)
    go (Err fault) = refl

pub image-when : {T X A B : Type 0} (f : A → B) (test : T → Option X) (p : X → Rule T A) (q : X → Rule T B) (r : Rule T A) (s : Rule T B)
    → ((x : X) → Image f (p x) (q x)) → Image f r s →
    Image f (when test p r) (when test q s)
image-when {T} {X} {A} {B} f test p q r s image other tokens = go (picked test tokens)
  where
    go : (o : Option (X × List T)) → moved f (option_map_or {T = X × List T} (λ found. p found.0 found.1) o (r tokens))
        ≡ option_map_or {T = X × List T} (λ found. q found.0 found.1) o (s tokens)
    go None = other tokens
    go (Some found) = image found.0 found.1

pub image-on : {T X A B : Type 0} (f : A → B) (test : T → Option X) (p : Rule T A) (q : Rule T B) → Image f p q → Image f (on test (λ _. p)) (on test (λ _. q))
image-on f test p q image = image-when f test (λ _. p) (λ _. q) refuse refuse (λ _. image) (image-refuse f)

pub image-ahead : {T X A B : Type 0} (f : A → B) (test : T → Option X) (p : Rule T A) (q : Rule T B) (r : Rule T A) (s : Rule T B) → Image f p q → Image f r s
    → Image f (ahead test p r) (ahead test q s)
image-ahead {T} {X} {A} {B} f test p q r s image other tokens = go (picked test tokens)
  where
    go : (o : Option (X × List T)) → moved f (option_map_or {T = X × List T} (λ _. p tokens) o (r tokens))
        ≡ option_map_or {T = X × List T} (λ _. q tokens) o (s tokens)
    go None = other tokens
    go (Some found) = image tokens

pub image-maybe : {T X A B : Type 0} (f : A → B) (test : T → Option X) (p : Rule T A) (q : Rule T B) → Image f p q
    → Image (option_map f) (maybe test p) (maybe test q)
image-maybe f test p q image =
    image-ahead (option_map f) test (mapped Some p) (mapped Some q) (give None) (give None) (image-mapped f p q Some (option_map f) Some (λ a. refl) image)
    (image-give (option_map f) None)

pub image-optional_or : {T X A B : Type 0} (f : A → B) (test : T → Option X) (p : Rule T A) (q : Rule T B) (r : Rule T (Unit {0})) → Image f p q
    → Image (option_map f) (optional_or test (λ _. p) r) (optional_or test (λ _. q) r)
image-optional_or {T} {X} {A} {B} f test p q r image =
    image-when (option_map f) test (λ _. mapped Some p) (λ _. mapped Some q) (mapped (λ _. None) r) (mapped (λ _. None) r)
    (λ _. image-mapped f p q Some (option_map f) Some (λ a. refl) image) ends
  where
    none : (x : Read T (Unit {0})) → moved {B = Option B} (option_map f) (moved {A = Unit {0}} (λ _. None) x) ≡ moved {A = Unit {0}} (λ _. None) x
    none (Ok found) = refl
    none (Err fault) = refl

    ends : Image (option_map f) (mapped {A = Unit {0}} (λ _. None) r) (mapped {A = Unit {0}} (λ _. None) r)
    ends tokens = none (r tokens)

pub image-turns : {T A B : Type 0} (f : A → B) (p : Rule T (Option A)) (q : Rule T (Option B)) → Image (option_map f) p q → (n : ℕ)
    → Image (map f) (turns n p) (turns n q)
image-turns f p q image zero tokens = refl
image-turns {T} {A} {B} f p q image (suc n) tokens = go (λ rest. image-turns f p q image n rest) (p tokens)
    ∙ ap (λ (x : Read T (Option B)). follow x (turn (turns n q))) (image tokens)
  where
    grown : (a : A) (x : Read T (List A)) → moved (map f) (moved (λ others. a ∷ others) x) ≡ moved (λ others. f a ∷ others) (moved (map f) x)
    grown a (Ok found) = refl
    grown a (Err fault) = refl

    go : Image (map f) (turns n p) (turns n q) → (x : Read T (Option A)) → moved (map f) (follow x (turn (turns n p)))
        ≡ follow (moved (option_map f) x) (turn (turns n q))
    go before (Ok (None, rest)) = refl
    go before (Ok (Some a, rest)) = grown a (turns n p rest) ∙ ap (moved (λ others. f a ∷ others)) (before rest)
    go before (Err fault) = refl

pub image-loop : {T A B : Type 0} (f : A → B) (p : Rule T (Option A)) (q : Rule T (Option B)) → Image (option_map f) p q → Image (map f) (loop p) (loop q)
image-loop f p q image tokens = image-turns f p q image (suc (length tokens)) tokens

pub image-entered : {T A B : Type 0} (f : A → B) (o : Option ℕ) (p : Rule T A) (q : Rule T B) → Image f p q → (tokens : List T)
    → Image f (entered o p tokens) (entered o q tokens)
image-entered f None p q image tokens rest = refl
image-entered f (Some room) p q image tokens rest = image rest

pub image-choose : {T X A B : Type 0} (f : A → B) (test : T → Option X) (deep : X → Bool) (room : ℕ) (p : X → Rule T A) (q : X → Rule T B)
    → ((x : X) → Image f (p x) (q x)) →
    Image f (choose test deep room p) (choose test deep room q)
image-choose {T} {X} {A} {B} f test deep room p q image tokens = go (picked test tokens)
  where
    go : (o : Option (X × List T)) → moved f
        (option_map_or {T = X × List T} (λ found. entered (fits (deep found.0) room) (p found.0) tokens found.1) o (refuse tokens))
        ≡ option_map_or {T = X × List T} (λ found. entered (fits (deep found.0) room) (q found.0) tokens found.1) o (refuse tokens)
    go None = refl
    go (Some found) = image-entered f (fits (deep found.0) room) (p found.0) (q found.0) (image found.0) tokens found.1

pub image-self : {T A : Type 0} (p : Rule T A) → Image (λ a. a) p p
image-self {T} {A} p tokens = go (p tokens)
  where
    go : (x : Read T A) → moved (λ a. a) x ≡ x
    go (Ok found) = refl
    go (Err fault) = refl

-- ---- what loops in code want to know

abbrev rest_or : {T A : Type 0} → List T → Read T A → List T
rest_or other (Ok found) = found.1
rest_or other (Err fault) = other

abbrev gives : {T A : Type 0} → Read T (Option A) → Bool
gives (Ok found) = is_some found.0
gives (Err fault) = false

pub image-advances : {T A B : Type 0} (f : A → B) (p : Rule T (Option A)) (q : Rule T (Option B)) → Image (option_map f) p q → Advances p → Advances q
image-advances {T} {A} {B} f p q image advances tokens value rest reads = go (p tokens) refl (image tokens ∙ reads)
  where
    go : (x : Read T (Option A)) → p tokens ≡ x → moved (option_map f) x ≡ Ok (Some value, rest) → length rest < length tokens
    go (Ok (Some a, other)) at same = subst (λ r. length r < length tokens) (ap (rest_or rest) same) (advances tokens a other at)
    go (Ok (None, other)) at same = absurd (false≢true (ap gives same))
    go (Err fault) at same = absurd (false≢true (ap gives same))

-- the whole text, with nothing behind it
abbrev pub made : {A B : Type 0} → (A → B) → Result A Fault → Result B Fault
made f (Ok value) = Ok (f value)
made f (Err fault) = Err fault

pub end-made : {T A B : Type 0} (f : A → B) (x : Read T A) → end_of (moved f x) ≡ made f (end_of x)
end-made f (Ok (a, [])) = refl
end-made f (Ok (a, token ∷ rest)) = refl
end-made f (Err fault) = refl

-- the end of a list
pub list-ended : {T A : Type 0} (step : Rule T (Option A)) (front : List A) (tokens rest : List T) → step tokens ≡ Ok (None, rest)
    → mapped (λ others. front ++ others) (loop step) tokens ≡ Ok (front, rest)
list-ended step front tokens rest none = loop-last step (λ others. front ++ others) tokens rest none ∙ ap (λ l. Ok (l, rest)) (append-nil front)

-- a step whose token is taken
pub maybe-on : {T X A : Type 0} (test : T → Option X) (q : X → Rule T A) (tokens : List T) (x : X) (behind : List T) (value : A) (rest : List T)
    → picked test tokens ≡ Some (x, behind) → q x behind ≡ Ok (value, rest) →
    maybe test (on test q) tokens ≡ Ok (Some value, rest)
maybe-on {T} {X} {A} test q tokens x behind value rest next read =
    ap (λ o. option_map_or {T = X × List T} (λ _. moved {B = Option A} Some (option_map_or {T = X × List T} (λ found. q found.0 found.1) o (refuse tokens))) o
    (give None tokens)) next
    ∙ ap (moved {B = Option A} Some) read

pub maybe-both : {T X A : Type 0} (test : T → Option X) (q : Rule T A) (tokens : List T) (x : X) (behind : List T) (value : X × A) (rest : List T)
    → picked test tokens ≡ Some (x, behind) →
    mapped (λ v. (x, v)) q behind ≡ Ok (value, rest) → maybe test (both (the test) q) tokens ≡ Ok (Some value, rest)
maybe-both {T} {X} {A} test q tokens x behind value rest next read =
    ap (λ o. option_map_or {T = X × List T} (λ _. moved {B = Option (X × A)} Some
    (follow {B = X × A} (option_map_or {T = X × List T} (λ found. give found.0 found.1) o (refuse tokens))
    (λ v. mapped {B = X × A} (λ other. (v, other)) q))) o (give None tokens)) next
    ∙ ap (moved {B = Option (X × A)} Some) read

pub maybe-last : {T X A : Type 0} (test : T → Option X) (p : Rule T A) (tokens : List T) → picked test tokens ≡ None → maybe test p tokens ≡ Ok (None, tokens)
maybe-last {T} {X} {A} test p tokens none = ap (λ o. option_map_or {T = X × List T} (λ _. mapped {B = Option A} Some p tokens) o (give None tokens)) none

-- behind a token that is taken, what does not begin with another
pub on-apart : {T X Y A : Type 0} (test : T → Option X) (other : T → Option Y) (p : Rule T (Option A)) (q : Rule T A) (tokens : List T) (x : X)
    (behind : List T) (value : A) (rest : List T)
    → picked test tokens ≡ Some (x, behind) → picked other behind ≡ None → q behind ≡ Ok (value, rest) → on test (λ _. ahead other p (mapped Some q)) tokens
    ≡ Ok (Some value, rest)
on-apart {T} {X} {Y} {A} test other p q tokens x behind value rest next none read =
    ap (λ o. option_map_or {T = X × List T} (λ found. ahead {A = Option A} other p (mapped {B = Option A} Some q) found.1) o (refuse tokens)) next
    ∙ ap (λ o. option_map_or {T = Y × List T} (λ _. p behind) o (mapped {B = Option A} Some q behind)) none
    ∙ ap (moved {B = Option A} Some) read

-- the same where a value is made of both
pub maybe-made : {T X A B : Type 0} (test : T → Option X) (f : X × A → B) (q : Rule T A) (tokens : List T) (x : X) (behind : List T) (value : B)
    (rest : List T) → picked test tokens ≡ Some (x, behind) → mapped (λ v. f (x, v)) q behind ≡ Ok (value, rest)
    → maybe test (mapped f (both (the test) q)) tokens ≡ Ok (Some value, rest)
maybe-made {T} {X} {A} {B} test f q tokens x behind value rest next read =
    ap (λ o. option_map_or {T = X × List T} (λ _. moved {B = Option B} Some (moved {A = X × A} {B = B} f
    (follow {B = X × A} (option_map_or {T = X × List T} (λ found. give found.0 found.1) o (refuse tokens))
    (λ v. mapped {B = X × A} (λ other. (v, other)) q)))) o (give None tokens)) next
    ∙ ap (moved {B = Option B} Some) (sym (twice (q behind)) ∙ read)
  where
    twice : (r : Read T A) → moved (λ v. f (x, v)) r ≡ moved {A = X × A} {B = B} f (moved {B = X × A} (λ v. (x, v)) r)
    twice (Ok found) = refl
    twice (Err fault) = refl

-- Inner: the judgement on a choice by the next token, where some tokens take of the room.
use Rattle.std.proofs.Common.{◌≡◌, ℕ, zero, suc, ◌≤◌, Bool, true, false, IsTrue, List, [], ◌∷◌, ◌++◌, Option, Some, None, Ok, refl, sym, ◌∙◌, ap, subst, arith}
use Rattle.std.specs.Option.{option_map, option_map_or}
use Rattle.base_reader.specs.Languages.{Led, Within}
use Rattle.base_reader.specs.Choice.{Made, adds, fits, entered, choose}
use Rattle.base_reader.specs.Readings.{Rule, refuse, too_deep, picked, mapped, whole}
use Rattle.base_reader.specs.Exact.{BeginsMember, Exactly}
use Rattle.base_reader.proofs.Sets.{within, Test}
use Rattle.base_reader.proofs.Next.{Refuses, Refuses-alike, next_of-some}
use Rattle.base_reader.proofs.Laws.{Answers, Runs, Totally}
use Rattle.base_reader.proofs.Proper.{Within-grows}
use Rattle.base_reader.proofs.Runs.{taken_on, refused_here, passed_on}
use Rattle.base_reader.proofs.Nesting.{Under, lifted_on}
use Rattle.base_reader.proofs.Whole.{whole-exact}
use Rattle.base_reader.proofs.Readers.{Shape, Starts, Stops, Lang, Reads, stops-within, mapped-reads}

-- one side of a choice: the judgement on it, and what it adds to the nesting
pub record Arm {T A : Type 0} (class : T → ℕ) (D : A → ℕ) (deep : Bool) (after : List ℕ) (p : ℕ → Rule T A) (L : A → List T → Type 0)
    (room : Option ℕ) : Type 0 where
  pub d : A → ℕ
  pub shape : Shape
  pub reads : Reads class p L d shape room
  pub below : IsTrue (within shape.after after)
  pub deepens : (value : A) (tokens : List T) → L value tokens → D value ≡ adds deep (d value)

abbrev drops : Bool → ℕ → ℕ
drops true zero = zero
drops true (suc n) = n
drops false n = n

drops-adds : (deep : Bool) (n : ℕ) → drops deep (adds deep n) ≡ n
drops-adds true n = refl
drops-adds false n = refl

-- a side that makes a node
pub arm : {T A B : Type 0} {class : T → ℕ} {D : A → ℕ} {deep : Bool} {after : List ℕ} {p : ℕ → Rule T B} {L : B → List T → Type 0} {e : B → ℕ} {s : Shape}
    {room : Option ℕ} →
    (f : B → A) → Reads class p L e s room → ((value : B) → D (f value) ≡ adds deep (e value)) → IsTrue (within s.after after) →
    Arm class D deep after (λ n. mapped f (p n)) (Made f L) room
arm {T} {A} {B} {class} {D} {deep} {after} {p} {L} {e} {s} {room} f r deepens below = record {
  d = λ value. drops deep (D value);
  shape = s;
  reads = mapped-reads f (λ value. drops deep (D value)) r (λ value. ap (drops deep) (deepens value) ∙ drops-adds deep (e value));
  below = below;
  deepens = λ value tokens made.
      subst (λ v. D v ≡ adds deep (drops deep (D v))) made.1 (deepens made.0
      ∙ ap (adds deep) (sym (ap (drops deep) (deepens made.0) ∙ drops-adds deep (e made.0))));
}

-- the language of a choice, where some side takes no room
pub choose-lang : {T X A : Type 0} {class : T → ℕ} {test : T → Option X} {set : List ℕ} {after : List ℕ} {D : A → ℕ} {q : ℕ → Rule T A} {room : Option ℕ} →
    (L : X → A → List T → Type 0) → Test class test set → (token : T) (x : X) → test token ≡ Some x → Arm class D false after q (L x) room →
    Lang class (λ value. Led test (λ x. L x value)) D (record { starts = set; empty = false; after = after })
choose-lang {T} {X} {A} {class} {test} {set} {after} {D} {q} {room} L t token x takes a = record {
  begins = λ value tokens led. subst (Starts class (record { starts = set; empty = false; after = after })) (sym led.cut)
      (t.hit led.token led.value led.passes);
  value = a.reads.lang.value;
  tokens = token ∷ a.reads.lang.tokens;
  member = record { token = token; value = x; rest = a.reads.lang.tokens; cut = refl; passes = takes; behind = a.reads.lang.member };
  flat = omega (arith, a.reads.lang.flat, a.deepens a.reads.lang.value a.reads.lang.tokens a.reads.lang.member);
}

module _ {T X A : Type 0} (class : T → ℕ) (test : T → Option X) (set after : List ℕ) (D : A → ℕ) (deep : X → Bool) (p : X → ℕ → Rule T A)
    (L : X → A → List T → Type 0) where
  abbrev rule : ℕ → Rule T A
  rule n = choose test deep n (λ x. p x n)

  abbrev W : ℕ → A → List T → Type 0
  W = Within (λ value. Led test (λ x. L x value)) D

  picked_none : (tokens : List T) → Refuses test tokens → picked test tokens ≡ None
  picked_none [] refuses = refl
  picked_none (token ∷ rest) refuses = ap (option_map (λ value. (value, rest))) refuses

  rule-refused : (n : ℕ) (tokens : List T) → Refuses test tokens → rule n tokens ≡ refuse tokens
  rule-refused n tokens refuses =
      ap (λ o. option_map_or {T = X × List T} (λ found. entered (fits (deep found.0) n) (p found.0 n) tokens found.1) o (refuse tokens))
      (picked_none tokens refuses)

  rule-taken : (n : ℕ) (token : T) (rest : List T) (x : X) → test token ≡ Some x → (b : Bool) → deep x ≡ b →
      rule n (token ∷ rest) ≡ entered (fits b n) (p x n) (token ∷ rest) rest
  rule-taken n token rest x takes b is =
      ap (λ o. option_map_or {T = X × List T} (λ found. entered (fits (deep found.0) n) (p found.0 n) (token ∷ rest) found.1)
      (option_map (λ value. (value, rest)) o) (refuse (token ∷ rest))) takes
      ∙ ap (λ b. entered (fits b n) (p x n) (token ∷ rest) rest) is

  module _ (lang : Lang class (λ value. Led test (λ x. L x value)) D (record { starts = set; empty = false; after = after })) where
    begins : (n : ℕ) → BeginsMember (W n) []
    begins n = (lang.value, lang.tokens, (lang.member, omega (arith, lang.flat)))

    led : (x : X) (b : Bool) (room : Option ℕ) (a : Arm class D b after (λ n. p x (adds b n)) (L x) room) (n : ℕ) (token : T) → test token ≡ Some x →
        (value : A) (tokens : List T) → Within (L x) a.d n value tokens → W (adds b n) value (token ∷ tokens)
    led x b room a n token takes value tokens member = (
      record { token = token; value = x; rest = tokens; cut = refl; passes = takes; behind = member.0 },
      fit b (a.d value) (D value) (a.deepens value tokens member.0) member.1,
    )
      where
        fit : (b : Bool) (k m : ℕ) → m ≡ adds b k → k ≤ n → m ≤ adds b n
        fit true k m is le = omega arith
        fit false k m is le = omega arith

    -- what the token opens, at a room where it fits
    opened : (x : X) (b : Bool) → deep x ≡ b → (room : ℕ) → Arm class D b after (λ n. p x (adds b n)) (L x) (fits b room) → (token : T) → test token ≡ Some x →
        (rest : List T) → Answers rule W room (token ∷ rest) (entered (fits b room) (p x room) (token ∷ rest) rest)
    opened x false is room a token takes rest =
        taken_on (λ n. p x n) rule (Within (L x) a.d) W room token (λ n value tokens member. led x false (Some room) a n token takes value tokens member)
        (λ more other. rule-taken more token other x takes false is) rest (p x room rest) (a.reads.laws.0 rest)
    opened x true is (suc room) a token takes rest =
        passed_on rule rule (Under (λ n. W (suc n))) W (suc room) (token ∷ rest) out (λ more other le same. refl) (p x (suc room) rest)
        (lifted_on rule (λ n. W (suc n)) room (token ∷ rest) (p x (suc room) rest)
        (taken_on (λ n. p x (suc n)) (λ n. rule (suc n)) (Within (L x) a.d) (λ n. W (suc n)) room token
        (λ n value tokens member. led x true (Some room) a n token takes value tokens member)
        (λ more other. rule-taken (suc more) token other x takes true is) rest (p x (suc room) rest) (a.reads.laws.0 rest)))
      where
        out : (n : ℕ) (value : A) (tokens : List T) → Under (λ n. W (suc n)) n value tokens → W n value tokens
        out zero value tokens member = absurd member
        out (suc n) value tokens member = member
    opened x true is zero a token takes rest = record {
      front = [];
      rest = token ∷ rest;
      cut = refl;
      place = refl;
      begins = begins 0;
      steady = λ more other le fits same.
          ap (λ n. rule n other) (fits refl)
          ∙ (let o = next_of-some other token same in ap (rule 0) o.1 ∙ rule-taken 0 token o.0 x takes true is ∙ ap too_deep (sym o.1));
      deeper = λ d. let l = a.reads.lang in
          (suc (a.d l.value), l.value, l.tokens, led x true None a (a.d l.value) token takes l.value l.tokens (l.member, omega arith));
    }

    runs : (room : ℕ) → ((x : X) → Arm class D (deep x) after (λ n. p x (adds (deep x) n)) (L x) (fits (deep x) room)) → Runs rule W room
    runs room arms [] = refused_here rule W room [] (begins room) (λ more other same. rule-refused more other (Refuses-alike test [] other same tt))
    runs room arms (token ∷ rest) = go (test token) refl
      where
        go : (o : Option X) → test token ≡ o → Answers rule W room (token ∷ rest) (rule room (token ∷ rest))
        go None is =
            subst (λ r. Answers rule W room (token ∷ rest) r) (sym (rule-refused room (token ∷ rest) is))
            (refused_here rule W room (token ∷ rest) (begins room) (λ more other same.
            rule-refused more other (Refuses-alike test (token ∷ rest) other same is)))
        go (Some x) is =
            subst (λ r. Answers rule W room (token ∷ rest) r) (sym (rule-taken room token rest x is (deep x) refl))
            (opened x (deep x) refl room (arms x) token is rest)

    total : (room : ℕ) → ((x : X) → Arm class D (deep x) after (λ n. p x (adds (deep x) n)) (L x) (fits (deep x) room)) →
        Totally rule W (λ _. Stops class after) room
    total room arms value front rest member stops =
        let led = member.0 in
        ap (λ ts. rule room (ts ++ rest)) led.cut ∙ rule-taken room led.token (led.rest ++ rest) led.value led.passes (deep led.value) refl
        ∙ go (deep led.value) room (arms led.value) led.behind member.1
      where
        go : (b : Bool) (room : ℕ) → (a : Arm class D b after (λ n. p member.0.value (adds b n)) (L member.0.value) (fits b room)) →
            L member.0.value value member.0.rest → D value ≤ room →
            entered (fits b room) (p member.0.value room) (member.0.token ∷ member.0.rest ++ rest) (member.0.rest ++ rest) ≡ Ok (value, rest)
        go false room a behind le = a.reads.laws.1 value member.0.rest rest (behind, omega (arith, le, a.deepens value member.0.rest behind))
            (stops-within class a.shape.after after rest a.below stops)
        go true (suc room) a behind le = a.reads.laws.1 value member.0.rest rest (behind, omega (arith, le, a.deepens value member.0.rest behind))
            (stops-within class a.shape.after after rest a.below stops)
        go true zero a behind le = absurd (omega (arith, le, a.deepens value member.0.rest behind))

-- a choice by the next token
pub choose-reads : {T X A : Type 0} {class : T → ℕ} {test : T → Option X} {set after : List ℕ} {D : A → ℕ} {deep : X → Bool} {L : X → A → List T → Type 0} →
    (p : X → ℕ → Rule T A) → Lang class (λ value. Led test (λ x. L x value)) D (record { starts = set; empty = false; after = after }) → (room : ℕ) →
    ((x : X) → Arm class D (deep x) after (λ n. p x (adds (deep x) n)) (L x) (fits (deep x) room)) →
    Reads class (λ n. choose test deep n (λ x. p x n)) (λ value. Led test (λ x. L x value)) D (record { starts = set; empty = false; after = after })
    (Some room)
choose-reads {T} {X} {A} {class} {test} {set} {after} {D} {deep} {L} p lang room arms = record {
  lang = lang;
  laws = (runs class test set after D deep p L lang room arms, total class test set after D deep p L lang room arms);
}

-- THE COROLLARY: a rule that reads at each room is exact over whole lists.
pub whole-reads : {T A : Type 0} {class : T → ℕ} {p : ℕ → Rule T A} {L : A → List T → Type 0} {d : A → ℕ} {s : Shape} →
    ((room : ℕ) → Reads class p L d s (Some room)) →
    (room : ℕ) (tokens : List T) → Exactly (Within L d) room tokens (whole (p room) tokens)
whole-reads {T} {A} {class} {p} {L} {d} {s} reads room tokens =
    whole-exact p (Within L d) (λ _. Stops class s.after) (Within-grows L d) (λ value. tt) (λ n. (reads n).laws.1) room (reads room).laws.0 tokens

-- The first law of a loop, and the loop as one step and the loop.
use Rattle.std.proofs.Common.{◌≡◌, ℕ, zero, suc, ◌+◌, ◌-◌, ◌<◌, ◌≤◌, List, [], ◌∷◌, ◌++◌, length, Option, Some, None, Ok, Err, refl, sym, ◌∙◌, ap, subst, arith}
use Rattle.std.proofs.Common.{length-append}
use Rattle.std.proofs.lemmas.List.{append_assoc, append-nil}
use Rattle.std.specs.Option.{option_map_or}
use Rattle.base_reader.specs.declared.faults.Fault.{Fault}
use Rattle.base_reader.specs.Languages.{Led, Optional, Loop, Many}
use Rattle.base_reader.specs.Readings.{Read, Rule, picked, give, follow, mapped, both, optional, turn, turns, loop, many}
use Rattle.base_reader.specs.Exact.{BeginsMember, BeginsDeeper}
use Rattle.base_reader.proofs.Next.{next_of-append_cut}
use Rattle.base_reader.proofs.Laws.{Took, Answers, Runs}
use Rattle.base_reader.proofs.Proper.{Grows, Loop-grows, Led-grows, Optional-grows}
use Rattle.base_reader.proofs.Runs.{same-runs}
use Rattle.base_reader.proofs.Parts.{optional-runs}

-- a step that gives a value takes a token
abbrev pub Advances : {T A : Type 0} → Rule T (Option A) → Type 0
Advances {T} {A} step = (tokens : List T) (value : A) (rest : List T) → step tokens ≡ Ok (Some value, rest) → length rest < length tokens

-- more turns than there are tokens are all the same
pub turns-enough : {T A : Type 0} (step : Rule T (Option A)) → Advances step → (left other : ℕ)
    (tokens : List T) → length tokens < left → length tokens < other →
    turns left step tokens ≡ turns other step tokens
turns-enough step advances zero other tokens enough enough' = absurd (omega arith)
turns-enough step advances (suc left) zero tokens enough enough' = absurd (omega arith)
turns-enough {T} {A} step advances (suc left) (suc other) tokens enough enough' = go (step tokens) refl (turns-enough step advances left other)
  where
    go : (r : Read T (Option A)) → step tokens ≡ r →
        ((rest : List T) → length rest < left → length rest < other → turns left step rest ≡ turns other step rest) →
        follow r (turn (turns left step)) ≡ follow r (turn (turns other step))
    go (Ok (None, rest)) is same = refl
    go (Ok (Some value, rest)) is same =
        let shorter = advances tokens value rest is in
        ap (λ r. follow r (λ others. give (value ∷ others))) (same rest (omega arith) (omega arith))
    go (Err fault) is same = refl

-- a loop is a step, and the loop behind it
pub loop-unfolds : {T A : Type 0} (step : Rule T (Option A)) → Advances step → (tokens : List T) →
    loop step tokens ≡ follow (step tokens) (turn (loop step))
loop-unfolds {T} {A} step advances tokens = go (step tokens) refl
  where
    go : (r : Read T (Option A)) → step tokens ≡ r →
        follow r (turn (turns (length tokens) step)) ≡ follow r (turn (loop step))
    go (Ok (None, rest)) is = refl
    go (Ok (Some value, rest)) is =
        let shorter = advances tokens value rest is in
        ap (λ r. follow r (λ others. give (value ∷ others))) (turns-enough step advances (length tokens) (suc (length rest)) rest (omega arith) (omega arith))
    go (Err fault) is = refl

-- as many turns as there are tokens, and some more
abbrev surplus : {T A : Type 0} → (ℕ → Rule T (Option A)) → ℕ → ℕ → Rule T (List A)
surplus step spare room tokens = turns (suc (length tokens + spare)) (step room) tokens

module _ {T A : Type 0} (step : ℕ → Rule T (Option A)) (S : ℕ → Option A → List T → Type 0) (room : ℕ)
    (grows : Grows S) (last : List T) (ends : S 0 None last)
    (advances : (n : ℕ) (value : A) (front : List T) → S n (Some value) front → 0 < length front) where
  -- what a step with a value leaves to do
  after_step : (spare more : ℕ) (value : A) (front other : List T) → 0 < length front →
      step more (front ++ other) ≡ Ok (Some value, other) →
      surplus step spare more (front ++ other) ≡ mapped (λ others. value ∷ others)
      (surplus step (length front - 1 + spare) more) other
  after_step spare more value front other longer took =
      let count : length (front ++ other) + spare ≡ suc (length other + (length front - 1 + spare)) = omega (arith, length-append front other) in
      ap (λ r. follow r (turn (turns (length (front ++ other) + spare) (step more)))) took
      ∙ ap (λ n. mapped (λ others. value ∷ others) (turns n (step more)) other) count

  behind_step : (value : A) (front : List T) → S room (Some value) front → (middle rest : List T) →
      BeginsDeeper (λ n. Loop (S n)) middle rest → BeginsDeeper (λ n. Loop (S n)) (front ++ middle) rest
  behind_step value front member middle [] deeper = deeper
  behind_step value front member middle (token ∷ rest) deeper = (
    room + deeper.0,
    value ∷ deeper.1,
    deeper.2,
    record {
      front = front;
      back = middle ++ token ∷ deeper.2;
      cut = append_assoc front middle (token ∷ deeper.2);
      first = grows room (room + deeper.0) (Some value) front (omega arith) member;
      second = Loop-grows S grows deeper.0 (room + deeper.0) deeper.1 (middle ++ token ∷ deeper.2) (omega arith) deeper.3;
    },
  )

  -- a member of the step is the beginning of a list of steps
  begun : (n : ℕ) (value : Option A) (tokens : List T) → S n value tokens →
      (values : List A) × (tail : List T) × Loop (S n) values (tokens ++ tail)
  begun n None tokens member = ([], [], subst (λ ts. S n None ts) (sym (append-nil tokens)) member)
  begun n (Some value) tokens member = (
    value ∷ [],
    last,
    record {
      front = tokens;
      back = last;
      cut = refl;
      first = member;
      second = grows 0 n None last (omega arith) ends;
    },
  )

  begun_deeper : (front rest : List T) → BeginsDeeper S front rest → BeginsDeeper (λ n. Loop (S n)) front rest
  begun_deeper front [] deeper = deeper
  begun_deeper front (token ∷ rest) deeper =
      let b = begun deeper.0 deeper.1 (front ++ token ∷ deeper.2) deeper.3 in
      (deeper.0, b.0, deeper.2 ++ b.1, subst (λ ts. Loop (S deeper.0) b.0 ts) (append_assoc front (token ∷ deeper.2) b.1) b.2)

  more_on : (spare : ℕ) (tokens : List T) (value : A) (rest : List T) →
      Took step S room tokens (Some value) rest → (spare' : ℕ) →
      ((front : List T) → tokens ≡ front ++ rest → spare' ≡ length front - 1 + spare) →
      (answer : Read T (List A)) → Answers (surplus step spare') (λ n. Loop (S n)) room rest answer →
      Answers (surplus step spare)
      (λ n. Loop (S n)) room tokens (follow answer (λ others. give (value ∷ others)))
  more_on spare tokens value rest took spare' count (Ok found) took' =
      let longer = advances room value took.front took.member in
      record {
        front = took.front ++ took'.front;
        cut = took.cut ∙ ap (λ r. took.front ++ r) took'.cut ∙ sym (append_assoc took.front took'.front found.1);
        member = record { front = took.front; back = took'.front; cut = refl; first = took.member; second = took'.member };
        steady = λ more other le same.
            ap (surplus step spare more) (append_assoc took.front took'.front other)
            ∙ after_step spare more value took.front (took'.front ++ other) longer
            (took.steady more (took'.front ++ other) le (next_of-append_cut rest took'.front other found.1 took'.cut same))
            ∙ ap (λ n. mapped (λ others. value ∷ others) (surplus step n more) (took'.front ++ other)) (sym (count took.front took.cut))
            ∙ ap (λ r. follow r (λ others. give (value ∷ others))) (took'.steady more other le same);
      }
  more_on spare tokens value rest took spare' count (Err fault) stopped =
      let longer = advances room value took.front took.member in
      record {
        front = took.front ++ stopped.front;
        rest = stopped.rest;
        cut = took.cut ∙ ap (λ r. took.front ++ r) stopped.cut ∙ sym (append_assoc took.front stopped.front stopped.rest);
        place = stopped.place;
        begins = let b : BeginsMember (Loop (S room)) stopped.front = stopped.begins in (
          value ∷ b.0,
          b.1,
          record {
            front = took.front;
            back = stopped.front ++ b.1;
            cut = append_assoc took.front stopped.front b.1;
            first = took.member;
            second = b.2;
          },
        );
        steady = λ more other le fits same.
            ap (surplus step spare more) (append_assoc took.front stopped.front other)
            ∙ after_step spare more value took.front (stopped.front ++ other) longer
            (took.steady more (stopped.front ++ other) le (next_of-append_cut rest stopped.front other stopped.rest stopped.cut same))
            ∙ ap (λ n. mapped (λ others. value ∷ others) (surplus step n more) (stopped.front ++ other)) (sym (count took.front took.cut))
            ∙ ap (λ r. follow r (λ others. give (value ∷ others))) (stopped.steady more other le fits same);
        deeper = λ deep. behind_step value took.front took.member stopped.front stopped.rest (stopped.deeper deep);
      }

  step_on : (spare : ℕ) (tokens : List T) →
      ((spare' : ℕ) (rest : List T) → length rest < length tokens → Answers (surplus step spare') (λ n. Loop (S n)) room rest (surplus step spare' room rest)) →
      (answer : Read T (Option A)) → Answers step S room tokens answer → Answers (surplus step spare)
      (λ n. Loop (S n)) room tokens (follow answer (turn (turns (length tokens + spare) (step room))))
  step_on spare tokens others (Ok (None, rest)) took = record {
    front = took.front;
    cut = took.cut;
    member = took.member;
    steady = λ more other le same. ap (λ r. follow r (turn (turns (length (took.front ++ other) + spare) (step more)))) (took.steady more other le same);
  }
  step_on spare tokens others (Ok (Some value, rest)) took =
      let longer = advances room value took.front took.member in
      let sizes : length tokens ≡ length took.front + length rest = ap length took.cut ∙ length-append took.front rest in
      let spare' : ℕ = length took.front - 1 + spare in
      let count : suc (length rest + spare') ≡ length tokens + spare = omega arith in
      subst (λ n. Answers (surplus step spare) (λ n. Loop (S n)) room tokens (mapped (λ others. value ∷ others) (turns n (step room)) rest)) count
      (more_on spare tokens value rest took spare' (λ front cut. let e : length tokens ≡ length front + length rest = ap length cut
      ∙ length-append front rest in omega arith)
      (surplus step spare' room rest) (others spare' rest (omega arith)))
  step_on spare tokens others (Err fault) stopped = record {
    front = stopped.front;
    rest = stopped.rest;
    cut = stopped.cut;
    place = stopped.place;
    begins = let b : BeginsMember (S room) stopped.front = stopped.begins in
        let c = begun room b.0 (stopped.front ++ b.1) b.2 in
        (c.0, b.1 ++ c.1, subst (λ ts. Loop (S room) c.0 ts) (append_assoc stopped.front b.1 c.1) c.2);
    steady = λ more other le fits same. ap (λ r. follow r (turn (turns (length (stopped.front ++ other) + spare) (step more))))
        (stopped.steady more other le fits same);
    deeper = λ deep. begun_deeper stopped.front stopped.rest (stopped.deeper deep);
  }

  shorter_on : (runs : Runs step S room) (bound spare : ℕ) (tokens : List T) → length tokens < bound →
      Answers (surplus step spare) (λ n. Loop (S n)) room tokens (surplus step spare room tokens)
  shorter_on runs zero spare tokens less = absurd (omega arith)
  shorter_on runs (suc bound) spare tokens less =
      step_on spare tokens (λ spare' rest shorter. shorter_on runs bound spare' rest (omega arith)) (step room tokens) (runs tokens)

  pub loop-runs : Runs step S room → Runs (λ n. loop (step n)) (λ n. Loop (S n)) room
  loop-runs runs =
      same-runs (surplus step 0) (λ n. loop (step n)) (λ n. Loop (S n)) (λ n. Loop (S n)) room (λ n value tokens member. member)
      (λ n tokens. let count : length tokens ≡ length tokens + 0 = omega arith in ap (λ k. turns (suc k) (step n) tokens) count)
      (λ tokens. shorter_on runs (suc (length tokens)) 0 tokens (omega arith))

-- a step that runs, and whose members with a value are not empty, takes a token whenever it gives a value
pub Advances-runs : {T A : Type 0} (step : ℕ → Rule T (Option A)) (S : ℕ → Option A → List T → Type 0)
    (room : ℕ) → ((value : A) (front : List T) → S room (Some value) front → 0 < length front) →
    Runs step S room → Advances (step room)
Advances-runs step S room advances runs tokens value rest is =
    let took : Took step S room tokens (Some value) rest = subst (λ r. Answers step S room tokens r) is (runs tokens) in
    let longer = advances value took.front took.member in
    let sizes : length tokens ≡ length took.front + length rest = ap length took.cut ∙ length-append took.front rest in
    omega arith

-- two functions of the value, one after the other
pub mapped-mapped : {T A B C : Type 0} (f : A → B) (g : B → C) (read : Read T A) →
    follow (follow read (λ value. give (f value)))
    (λ value. give (g value)) ≡ follow read (λ value. give (g (f value)))
mapped-mapped f g (Ok found) = refl
mapped-mapped f g (Err fault) = refl

-- What a loop in code keeps: the values so far in front of the loop on the rest. A step with a value moves the
-- value to those in front.
pub loop-more : {T A B : Type 0} (step : Rule T (Option A)) → Advances step → (f : List A → B)
    (tokens : List T) (value : A) (rest : List T) → step tokens ≡ Ok (Some value, rest) →
    mapped f (loop step) tokens ≡ mapped (λ others. f (value ∷ others)) (loop step) rest
loop-more step advances f tokens value rest is =
    ap (λ r. follow r (λ values. give (f values))) (loop-unfolds step advances tokens ∙ ap (λ r. follow r (turn (loop step))) is)
    ∙ mapped-mapped (λ others. value ∷ others) f (loop step rest)

-- A step without a value ends it, and a fault of the step is one of the loop.
pub loop-last : {T A B : Type 0} (step : Rule T (Option A)) (f : List A → B) (tokens rest : List T) →
    step tokens ≡ Ok (None, rest) → mapped f (loop step) tokens ≡ Ok (f [], rest)
loop-last step f tokens rest is = ap (λ r. follow (follow r (turn (turns (length tokens) step))) (λ values. give (f values))) is

pub loop-fault : {T A B : Type 0} (step : Rule T (Option A)) (f : List A → B) (tokens : List T)
    (fault : Fault) → step tokens ≡ Err fault → mapped f (loop step) tokens ≡ Err fault
loop-fault step f tokens fault is = ap (λ r. follow (follow r (turn (turns (length tokens) step))) (λ values. give (f values))) is

-- a rule leaves no more tokens than there were
pub length-rest : {T A : Type 0} (p : ℕ → Rule T A) (L : ℕ → A → List T → Type 0) (room : ℕ) →
    Runs p L room → (tokens : List T) (value : A) (rest : List T) → p room tokens ≡ Ok (value, rest) →
    length rest ≤ length tokens
length-rest p L room runs tokens value rest is =
    let took : Took p L room tokens value rest = subst (λ r. Answers p L room tokens r) is (runs tokens) in
    let sizes : length tokens ≡ length took.front + length rest = ap length took.cut ∙ length-append took.front rest in
    omega arith

-- what each of the tokens opens, as long as the next token opens something
module _ {T X A : Type 0} (test : T → Option X) (p : ℕ → X → Rule T A) (L : ℕ → X → A → List T → Type 0)
    (room : ℕ) (runs : (x : X) → Runs (λ n. p n x) (λ n. L n x) room) where
  led_not_empty : (n : ℕ) (value : A) (front : List T) → Led test (λ x. L n x value) front → 0 < length front
  led_not_empty n value front led = omega (arith, ap length led.cut)

  pub many-runs : ((x : X) → Grows (λ n. L n x)) → Runs (λ n. many test (p n))
      (λ n. Many (λ value. Led test (λ x. L n x value))) room
  many-runs grows =
      loop-runs (λ n. optional test (p n)) (λ n. Optional (λ value. Led test (λ x. L n x value))) room
      (Optional-grows (λ n value. Led test (λ x. L n x value)) (Led-grows test L grows)) [] refl led_not_empty
      (optional-runs test p L room runs)

  pub Advances-many : Advances (optional test (p room))
  Advances-many =
      Advances-runs (λ n. optional test (p n)) (λ n. Optional (λ value. Led test (λ x. L n x value))) room
      (λ value front led. led_not_empty room value front led)
      (optional-runs test p L room runs)

-- A part and a loop behind it, once the part is read.
pub loop-begun : {T A B C : Type 0} (p : Rule T A) (step : Rule T (Option B)) (f : A → List B → C)
    (tokens : List T) (value : A) (rest : List T) → p tokens ≡ Ok (value, rest) → mapped (f value)
    (loop step) rest ≡ mapped (λ found. f found.0 found.1) (both p (loop step)) tokens
loop-begun {T} {A} {B} p step f tokens value rest is =
    sym (ap (λ r. follow (follow {B = A × List B} r (λ v. mapped (λ others. (v, others)) (loop step))) (λ found. give (f found.0 found.1))) is
    ∙ mapped-mapped {B = A × List B} (λ others. (value, others)) (λ found. f found.0 found.1) (loop step rest))

-- functions that agree everywhere
pub mapped-same : {T A B : Type 0} (f g : A → B) → ((value : A) → f value ≡ g value) → (read : Read T A) →
    follow read (λ value. give (f value)) ≡ follow read (λ value. give (g value))
mapped-same f g same (Ok found) = ap (λ value. Ok (value, found.1)) (same found.0)
mapped-same f g same (Err fault) = refl

-- A loop in code that pushes each value on a list: it begins with none, and a step with a value pushes that.
pub loop-started : {T A : Type 0} (step : Rule T (Option A)) (tokens : List T) →
    mapped (λ others. [] ++ others) (loop step) tokens ≡ loop step tokens
loop-started {T} {A} step tokens = go (loop step tokens)
  where
    go : (read : Read T (List A)) → follow read (λ values. give ([] ++ values)) ≡ read
    go (Ok found) = refl
    go (Err fault) = refl

pub loop-push : {T A : Type 0} (step : Rule T (Option A)) → Advances step → (front : List A)
    (tokens : List T) (value : A) (rest : List T) → step tokens ≡ Ok (Some value, rest) →
    mapped (λ others. (front ++ value ∷ []) ++ others) (loop step) rest ≡ mapped (λ others. front ++ others)
    (loop step) tokens
loop-push step advances front tokens value rest is =
    mapped-same (λ others. (front ++ value ∷ []) ++ others) (λ others. front ++ value ∷ others) (λ others. append_assoc front (value ∷ []) others)
    (loop step rest)
    ∙ sym (loop-more step advances (λ others. front ++ others) tokens value rest is)

-- the step of a repeated part, once code has looked at the next token and read what it opens
pub optional-some : {T X A : Type 0} (test : T → Option X) (p : X → Rule T A) (tokens : List T) (x : X)
    (behind : List T) (value : A) (rest : List T) → picked test tokens ≡ Some (x, behind) →
    p x behind ≡ Ok (value, rest) → optional test p tokens ≡ Ok (Some value, rest)
optional-some {T} {X} test p tokens x behind value rest next read =
    ap (λ o. option_map_or {T = X × List T} (λ found. mapped Some (p found.0) found.1) o (give None tokens)) next
    ∙ ap (λ r. follow r (λ v. give (Some v))) read

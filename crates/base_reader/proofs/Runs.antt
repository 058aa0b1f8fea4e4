-- The first law for each rule: L and M are the languages of the parts, W that of the whole.
use Rattle.std.proofs.Common.{◌≡◌, ℕ, ◌+◌, ◌≤◌, false, List, [], ◌∷◌, ◌++◌, Option, Some, None, Ok, Err, refl, sym, ◌∙◌, ap, subst, arith}
use Rattle.std.proofs.lemmas.List.{append_assoc}
use Rattle.std.specs.Option.{option_map, option_map_or}
use Rattle.base_reader.specs.Languages.{One, Then, Led, Both}
use Rattle.base_reader.specs.Readings.{Read, Rule, next_of, fault_at, refuse, give, follow, mapped, both, lead, trail, when, ahead, on, the}
use Rattle.base_reader.specs.Exact.{BeginsMember, BeginsDeeper}
use Rattle.base_reader.proofs.Next.{Refuses-alike, Takes-alike, next_of-append_cut, when-refused, when-taken, ahead-refused, ahead-taken}
use Rattle.base_reader.proofs.Laws.{Took, Stopped, Answers, Runs}
use Rattle.base_reader.proofs.Proper.{Proper}

-- a rule that gives a value and takes no token
pub give-runs : {T A : Type 0} (value : A) (W : ℕ → A → List T → Type 0) (room : ℕ) → W room value [] →
    Runs (λ _. give value) W room
give-runs value W room member tokens = record {
  front = [];
  cut = refl;
  member = member;
  steady = λ more other le same. refl;
}

-- the next token does not change from the fault's place on, whatever the language in which it is deeper
deeper-into : {T A B : Type 0} (L : ℕ → A → List T → Type 0) (W : ℕ → B → List T → Type 0) (into : A → B)
    (widen : (n : ℕ) (value : A) (tokens : List T) → L n value tokens → W n (into value) tokens) (front rest : List T) → BeginsDeeper L front rest →
    BeginsDeeper W front rest
deeper-into L W into widen front [] deeper = deeper
deeper-into L W into widen front (token ∷ rest) deeper =
    (deeper.0, into deeper.1, deeper.2, widen deeper.0 deeper.1 (front ++ token ∷ deeper.2) deeper.3)

-- A rule that passes the tokens on to another, wherever the next token is the same.
module _ {T A : Type 0} (p w : ℕ → Rule T A) (L W : ℕ → A → List T → Type 0) (room : ℕ) (tokens : List T)
    (widen : (n : ℕ) (value : A) (tokens : List T) → L n value tokens → W n value tokens)
    (same_rule : (more : ℕ) (other : List T) → room ≤ more → next_of other ≡ next_of tokens → w more other ≡ p more other) where
  pub passed_on : (answer : Read T A) → Answers p L room tokens answer → Answers w W room tokens answer
  passed_on (Ok found) took = record {
    front = took.front;
    cut = took.cut;
    member = widen room found.0 took.front took.member;
    steady = λ more other le same. same_rule more (took.front ++ other) le (next_of-append_cut tokens took.front other found.1 took.cut same)
        ∙ took.steady more other le same;
  }
  passed_on (Err fault) stopped = record {
    front = stopped.front;
    rest = stopped.rest;
    cut = stopped.cut;
    place = stopped.place;
    begins = let b : BeginsMember (L room) stopped.front = stopped.begins in (b.0, b.1, widen room b.0 (stopped.front ++ b.1) b.2);
    steady = λ more other le fits same. same_rule more (stopped.front ++ other) le (next_of-append_cut tokens stopped.front other stopped.rest stopped.cut same)
        ∙ stopped.steady more other le fits same;
    deeper = λ deep. deeper-into L W (λ value. value) widen stopped.front stopped.rest (stopped.deeper deep);
  }

-- the same rule in other words, for a wider language
pub same-runs : {T A : Type 0} (p w : ℕ → Rule T A) (L W : ℕ → A → List T → Type 0) (room : ℕ) →
    ((n : ℕ) (value : A) (tokens : List T) → L n value tokens → W n value tokens) →
    ((n : ℕ) (tokens : List T) → w n tokens ≡ p n tokens) → Runs p L room → Runs w W room
same-runs p w L W room widen same runs tokens =
    subst (λ r. Answers w W room tokens r) (sym (same room tokens))
    (passed_on p w L W room tokens widen (λ more other le alike. same more other) (p room tokens) (runs tokens))

-- a function of the value
module _ {T A B : Type 0} (f : A → B) (p : ℕ → Rule T A) (L : ℕ → A → List T → Type 0)
    (W : ℕ → B → List T → Type 0) (room : ℕ)
    (widen : (n : ℕ) (value : A) (tokens : List T) → L n value tokens → W n (f value) tokens) where
  mapped_on : (tokens : List T) (answer : Read T A) → Answers p L room tokens answer →
      Answers (λ n. mapped f (p n)) W room tokens (follow answer (λ value. give (f value)))
  mapped_on tokens (Ok found) took = record {
    front = took.front;
    cut = took.cut;
    member = widen room found.0 took.front took.member;
    steady = λ more other le same. ap (λ r. follow r (λ value. give (f value))) (took.steady more other le same);
  }
  mapped_on tokens (Err fault) stopped = record {
    front = stopped.front;
    rest = stopped.rest;
    cut = stopped.cut;
    place = stopped.place;
    begins = let b : BeginsMember (L room) stopped.front = stopped.begins in (f b.0, b.1, widen room b.0 (stopped.front ++ b.1) b.2);
    steady = λ more other le fits same. ap (λ r. follow r (λ value. give (f value))) (stopped.steady more other le fits same);
    deeper = λ deep. deeper-into L W f widen stopped.front stopped.rest (stopped.deeper deep);
  }

  pub mapped-runs : Runs p L room → Runs (λ n. mapped f (p n)) W room
  mapped-runs runs tokens = mapped_on tokens (p room tokens) (runs tokens)

-- a member of the first part, and what is deeper in the second
deeper-second : {T A B : Type 0} (L : ℕ → A → List T → Type 0) (M : ℕ → B → List T → Type 0) → Proper L →
    Proper M → (room : ℕ) (value : A) (front : List T) → L room value front → (middle rest : List T) →
    BeginsDeeper M middle rest → BeginsDeeper (λ n. Both (L n) (M n)) (front ++ middle) rest
deeper-second L M proper_l proper_m room value front member middle [] deeper = deeper
deeper-second L M proper_l proper_m room value front member middle (token ∷ rest) deeper = (
  room + deeper.0,
  (value, deeper.1),
  deeper.2,
  record {
    front = front;
    back = middle ++ token ∷ deeper.2;
    cut = append_assoc front middle (token ∷ deeper.2);
    first = proper_l.grows room (room + deeper.0) value front (omega arith) member;
    second = proper_m.grows deeper.0 (room + deeper.0) deeper.1 (middle ++ token ∷ deeper.2) (omega arith) deeper.3;
  },
)

-- what is deeper in the first part, with some member of the second
deeper-first : {T A B : Type 0} (L : ℕ → A → List T → Type 0) (M : ℕ → B → List T → Type 0) → Proper M →
    (front rest : List T) → BeginsDeeper L front rest → BeginsDeeper (λ n. Both (L n) (M n)) front rest
deeper-first L M proper_m front [] deeper = deeper
deeper-first L M proper_m front (token ∷ rest) deeper = (
  deeper.0,
  (deeper.1, proper_m.value),
  deeper.2 ++ proper_m.tokens,
  record {
    front = front ++ token ∷ deeper.2;
    back = proper_m.tokens;
    cut = sym (append_assoc front (token ∷ deeper.2) proper_m.tokens);
    first = deeper.3;
    second = proper_m.grows 0 deeper.0 proper_m.value proper_m.tokens (omega arith) proper_m.member;
  },
)

-- one part and then another
module _ {T A B : Type 0} (p : ℕ → Rule T A) (q : ℕ → Rule T B) (L : ℕ → A → List T → Type 0)
    (M : ℕ → B → List T → Type 0) (proper_l : Proper L) (proper_m : Proper M) (room : ℕ) where
  second_on : (tokens : List T) (value : A) (rest : List T) → Took p L room tokens value rest →
      (answer : Read T B) → Answers q M room rest answer → Answers (λ n. both (p n) (q n))
      (λ n. Both (L n) (M n)) room tokens (follow answer (λ other. give (value, other)))
  second_on tokens value rest took (Ok found) took' = record {
    front = took.front ++ took'.front;
    cut = took.cut ∙ ap (λ r. took.front ++ r) took'.cut ∙ sym (append_assoc took.front took'.front found.1);
    member = record { front = took.front; back = took'.front; cut = refl; first = took.member; second = took'.member };
    steady = λ more other le same.
        ap (both (p more) (q more)) (append_assoc took.front took'.front other)
        ∙ ap (λ r. follow r (λ v. mapped (λ o. (v, o)) (q more))) (took.steady more (took'.front ++ other) le
        (next_of-append_cut rest took'.front other found.1 took'.cut same))
        ∙ ap (λ r. follow r (λ o. give (value, o))) (took'.steady more other le same);
  }
  second_on tokens value rest took (Err fault) stopped = record {
    front = took.front ++ stopped.front;
    rest = stopped.rest;
    cut = took.cut ∙ ap (λ r. took.front ++ r) stopped.cut ∙ sym (append_assoc took.front stopped.front stopped.rest);
    place = stopped.place;
    begins = let b : BeginsMember (M room) stopped.front = stopped.begins in (
      (value, b.0),
      b.1,
      record {
        front = took.front;
        back = stopped.front ++ b.1;
        cut = append_assoc took.front stopped.front b.1;
        first = took.member;
        second = b.2;
      },
    );
    steady = λ more other le fits same.
        ap (both (p more) (q more)) (append_assoc took.front stopped.front other)
        ∙ ap (λ r. follow r (λ v. mapped (λ o. (v, o)) (q more))) (took.steady more (stopped.front ++ other) le
        (next_of-append_cut rest stopped.front other stopped.rest stopped.cut same))
        ∙ ap (λ r. follow r (λ o. give (value, o))) (stopped.steady more other le fits same);
    deeper = λ deep. deeper-second L M proper_l proper_m room value took.front took.member stopped.front stopped.rest (stopped.deeper deep);
  }

  first_on : ((rest : List T) → Answers q M room rest (q room rest)) → (tokens : List T)
      (answer : Read T A) → Answers p L room tokens answer → Answers (λ n. both (p n) (q n))
      (λ n. Both (L n) (M n)) room tokens (follow answer (λ value. mapped (λ other. (value, other)) (q room)))
  first_on runs_q tokens (Ok found) took = second_on tokens found.0 found.1 took (q room found.1) (runs_q found.1)
  first_on runs_q tokens (Err fault) stopped = record {
    front = stopped.front;
    rest = stopped.rest;
    cut = stopped.cut;
    place = stopped.place;
    begins = let b : BeginsMember (L room) stopped.front = stopped.begins in (
      (b.0, proper_m.value),
      b.1 ++ proper_m.tokens,
      record {
        front = stopped.front ++ b.1;
        back = proper_m.tokens;
        cut = sym (append_assoc stopped.front b.1 proper_m.tokens);
        first = b.2;
        second = proper_m.grows 0 room proper_m.value proper_m.tokens (omega arith) proper_m.member;
      },
    );
    steady = λ more other le fits same. ap (λ r. follow r (λ v. mapped (λ o. (v, o)) (q more))) (stopped.steady more other le fits same);
    deeper = λ deep. deeper-first L M proper_m stopped.front stopped.rest (stopped.deeper deep);
  }

  pub both-runs : Runs p L room → Runs q M room → Runs (λ n. both (p n) (q n)) (λ n. Both (L n) (M n)) room
  both-runs runs_p runs_q tokens = first_on runs_q tokens (p room tokens) (runs_p tokens)

-- the second's value alone, and the first's
lead-is : {T A B : Type 0} (p : Rule T A) (q : Rule T B) (tokens : List T) →
    lead p q tokens ≡ mapped (λ v. v.1) (both p q) tokens
lead-is {T} {A} {B} p q tokens = outer (p tokens)
  where
    inner : (a : A) (r : Read T B) → r ≡ follow (follow {B = A × B} r (λ b. give (a, b))) (λ v. give (v.1))
    inner a (Ok found) = refl
    inner a (Err fault) = refl

    outer : (r : Read T A) → follow r (λ _. q) ≡ follow (follow {B = A × B} r (λ a. mapped (λ b. (a, b)) q))
        (λ v. give (v.1))
    outer (Ok found) = inner found.0 (q found.1)
    outer (Err fault) = refl

pub trail-is : {T A B : Type 0} (p : Rule T A) (q : Rule T B) (tokens : List T) →
    trail p q tokens ≡ mapped (λ v. v.0) (both p q) tokens
trail-is {T} {A} {B} p q tokens = outer (p tokens)
  where
    inner : (a : A) (r : Read T B) →
        follow r (λ _. give a) ≡ follow (follow {B = A × B} r (λ b. give (a, b))) (λ v. give (v.0))
    inner a (Ok found) = refl
    inner a (Err fault) = refl

    outer : (r : Read T A) →
        follow r (λ a. mapped (λ _. a) q) ≡ follow (follow {B = A × B} r (λ a. mapped (λ b. (a, b)) q))
        (λ v. give (v.0))
    outer (Ok found) = inner found.0 (q found.1)
    outer (Err fault) = refl

-- one part and then another, with one of the values
module _ {T A B : Type 0} (p : ℕ → Rule T A) (q : ℕ → Rule T B) (L : ℕ → A → List T → Type 0)
    (M : ℕ → B → List T → Type 0) (proper_l : Proper L) (proper_m : Proper M) (room : ℕ)
    (runs_p : Runs p L room) (runs_q : Runs q M room) where
  pub lead-runs : (W : ℕ → B → List T → Type 0) →
      ((n : ℕ) (value : A) (other : B) (tokens : List T) → Then (L n value) (M n other) tokens → W n other tokens) →
      Runs (λ n. lead (p n) (q n)) W room
  lead-runs W widen =
      same-runs (λ n. mapped (λ v. v.1) (both (p n) (q n))) (λ n. lead (p n) (q n)) W W room (λ n value tokens member. member)
      (λ n tokens. lead-is (p n) (q n) tokens)
      (mapped-runs (λ v. v.1) (λ n. both (p n) (q n)) (λ n. Both (L n) (M n)) W room (λ n value tokens member. widen n value.0 value.1 tokens member)
      (both-runs p q L M proper_l proper_m room runs_p runs_q))

  pub trail-runs : (W : ℕ → A → List T → Type 0) →
      ((n : ℕ) (value : A) (other : B) (tokens : List T) → Then (L n value) (M n other) tokens → W n value tokens) →
      Runs (λ n. trail (p n) (q n)) W room
  trail-runs W widen =
      same-runs (λ n. mapped (λ v. v.0) (both (p n) (q n))) (λ n. trail (p n) (q n)) W W room (λ n value tokens member. member)
      (λ n tokens. trail-is (p n) (q n) tokens)
      (mapped-runs (λ v. v.0) (λ n. both (p n) (q n)) (λ n. Both (L n) (M n)) W room (λ n value tokens member. widen n value.0 value.1 tokens member)
      (both-runs p q L M proper_l proper_m room runs_p runs_q))

-- A rule that takes the next token and goes on with another.
module _ {T A : Type 0} (p w : ℕ → Rule T A) (L W : ℕ → A → List T → Type 0) (room : ℕ) (token : T)
    (widen : (n : ℕ) (value : A) (tokens : List T) → L n value tokens → W n value (token ∷ tokens))
    (goes_on : (more : ℕ) (other : List T) → w more (token ∷ other) ≡ p more other) where
  pub taken_on : (rest : List T) (answer : Read T A) → Answers p L room rest answer →
      Answers w W room (token ∷ rest) answer
  taken_on rest (Ok found) took = record {
    front = token ∷ took.front;
    cut = ap (λ r. token ∷ r) took.cut;
    member = widen room found.0 took.front took.member;
    steady = λ more other le same. goes_on more (took.front ++ other) ∙ took.steady more other le same;
  }
  taken_on rest (Err fault) stopped = record {
    front = token ∷ stopped.front;
    rest = stopped.rest;
    cut = ap (λ r. token ∷ r) stopped.cut;
    place = stopped.place;
    begins = let b : BeginsMember (L room) stopped.front = stopped.begins in (b.0, b.1, widen room b.0 (stopped.front ++ b.1) b.2);
    steady = λ more other le fits same. goes_on more (stopped.front ++ other) ∙ stopped.steady more other le fits same;
    deeper = λ deep. behind stopped.front stopped.rest (stopped.deeper deep);
  }
    where
      behind : (front rest : List T) → BeginsDeeper L front rest → BeginsDeeper W (token ∷ front) rest
      behind front [] deeper = deeper
      behind front (next ∷ rest) deeper = (deeper.0, deeper.1, deeper.2, widen deeper.0 deeper.1 (front ++ next ∷ deeper.2) deeper.3)

-- A rule that refuses the list at once.
pub refused_here : {T A : Type 0} (w : ℕ → Rule T A) (W : ℕ → A → List T → Type 0) (room : ℕ)
    (tokens : List T) → BeginsMember (W room) [] →
    ((more : ℕ) (other : List T) → next_of other ≡ next_of tokens → w more other ≡ refuse other) →
    Stopped w W room tokens (fault_at false tokens)
refused_here w W room tokens begins refuses = record {
  front = [];
  rest = tokens;
  cut = refl;
  place = refl;
  begins = begins;
  steady = λ more other le fits same. refuses more other same;
  deeper = λ deep. cc;
}

-- A token to which the test gives a value, and then the rule for the value: some token has to be such.
module _ {T X A : Type 0} (test : T → Option X) (p : ℕ → X → Rule T A) (L : ℕ → X → A → List T → Type 0)
    (W : ℕ → A → List T → Type 0) (room : ℕ)
    (widen : (n : ℕ) (value : A) (tokens : List T) → Led test (λ x. L n x value) tokens → W n value tokens) where
  led_on : (q : ℕ → Rule T A) (token : T) (x : X) → test token ≡ Some x → (rest : List T) →
      Answers (λ n. p n x) (λ n. L n x) room rest (p room x rest) →
      Answers (λ n. when test (p n) (q n)) W room (token ∷ rest) (p room x rest)
  led_on q token x takes rest =
      taken_on (λ n. p n x) (λ n. when test (p n) (q n)) (λ n. L n x) W room token
      (λ n value tokens member. widen n value (token ∷ tokens) (record
      { token = token; value = x; rest = tokens; cut = refl; passes = takes; behind = member }))
      (λ more other. when-taken test (p more) (q more) token other x takes)
      rest (p room x rest)

  pub when-runs : (q : ℕ → Rule T A) (M : ℕ → A → List T → Type 0) →
      ((n : ℕ) (value : A) (tokens : List T) → M n value tokens → W n value tokens) →
      ((x : X) → Runs (λ n. p n x) (λ n. L n x) room) → Runs q M room →
      Runs (λ n. when test (p n) (q n)) W room
  when-runs q M otherwise runs_p runs_q [] =
      passed_on q (λ n. when test (p n) (q n)) M W room [] otherwise
      (λ more other le same. when-refused test (p more) (q more) other (Refuses-alike test [] other same tt)) (q room []) (runs_q [])
  when-runs q M otherwise runs_p runs_q (token ∷ rest) = go (test token) refl
    where
      go : (o : Option X) → test token ≡ o → Answers (λ n. when test (p n) (q n)) W room (token ∷ rest)
          (option_map_or {T = X × List T} (λ found. p room found.0 found.1) (option_map (λ value. (value, rest)) o) (q room (token ∷ rest)))
      go None is = passed_on q (λ n. when test (p n) (q n)) M W room (token ∷ rest) otherwise
          (λ more other le same. when-refused test (p more) (q more) other (Refuses-alike test (token ∷ rest) other same is)) (q room (token ∷ rest))
          (runs_q (token ∷ rest))
      go (Some x) is = led_on q token x is rest (runs_p x rest)

  pub on-runs : (token : T) (x : X) → test token ≡ Some x → Proper (λ n. L n x) →
      ((x : X) → Runs (λ n. p n x) (λ n. L n x) room) → Runs (λ n. on test (p n)) W room
  on-runs token x takes proper runs_p tokens = go tokens
    where
      begins : BeginsMember (W room) []
      begins = (
        proper.value,
        token ∷ proper.tokens,
        widen room proper.value (token ∷ proper.tokens) (record {
          token = token;
          value = x;
          rest = proper.tokens;
          cut = refl;
          passes = takes;
          behind = proper.grows 0 room proper.value proper.tokens (omega arith) proper.member;
        }),
      )

      at : (token : T) (rest : List T) (o : Option X) → test token ≡ o →
          Answers (λ n. on test (p n)) W room (token ∷ rest)
          (option_map_or {T = X × List T} (λ found. p room found.0 found.1) (option_map (λ value. (value, rest)) o) (refuse (token ∷ rest)))
      at token rest None is = refused_here (λ n. on test (p n)) W room (token ∷ rest) begins
          (λ more other same. when-refused test (p more) refuse other (Refuses-alike test (token ∷ rest) other same is))
      at token rest (Some x) is = led_on (λ _. refuse) token x is rest (runs_p x rest)

      go : (tokens : List T) → Answers (λ n. on test (p n)) W room tokens (on test (p room) tokens)
      go [] = refused_here (λ n. on test (p n)) W room [] begins (λ more other same.
          when-refused test (p more) refuse other (Refuses-alike test [] other same tt))
      go (token ∷ rest) = at token rest (test token) refl

-- a choice by the next token, which is not taken
pub ahead-runs : {T X A : Type 0} (test : T → Option X) (p q : ℕ → Rule T A)
    (L M W : ℕ → A → List T → Type 0) (room : ℕ) →
    ((n : ℕ) (value : A) (tokens : List T) → L n value tokens → W n value tokens) →
    ((n : ℕ) (value : A) (tokens : List T) → M n value tokens → W n value tokens) → Runs p L room →
    Runs q M room → Runs (λ n. ahead test (p n) (q n)) W room
ahead-runs test p q L M W room widen otherwise runs_p runs_q [] =
    passed_on q (λ n. ahead test (p n) (q n)) M W room [] otherwise
    (λ more other le same. ahead-refused test (p more) (q more) other (Refuses-alike test [] other same tt)) (q room []) (runs_q [])
ahead-runs {T} {X} {A} test p q L M W room widen otherwise runs_p runs_q (token ∷ rest) = go (test token) refl
  where
    go : (o : Option X) → test token ≡ o → Answers (λ n. ahead test (p n) (q n)) W room (token ∷ rest)
        (option_map_or {T = X × List T} (λ _. p room (token ∷ rest)) (option_map (λ value. (value, rest)) o) (q room (token ∷ rest)))
    go None is = passed_on q (λ n. ahead test (p n) (q n)) M W room (token ∷ rest) otherwise
        (λ more other le same. ahead-refused test (p more) (q more) other (Refuses-alike test (token ∷ rest) other same is)) (q room (token ∷ rest))
        (runs_q (token ∷ rest))
    go (Some x) is = passed_on p (λ n. ahead test (p n) (q n)) L W room (token ∷ rest) widen
        (λ more other le same. ahead-taken test (p more) (q more) other x (Takes-alike test x (token ∷ rest) other same is)) (p room (token ∷ rest))
        (runs_p (token ∷ rest))

-- one value, with no token
abbrev pub OnlyValue : {T A : Type 0} → A → A → List T → Type 0
OnlyValue value other tokens = (other ≡ value) × (tokens ≡ [])

-- one token to which the test gives a value: some token has to be such
pub the-runs : {T X : Type 0} (test : T → Option X) (token : T) (x : X) → test token ≡ Some x →
    (W : ℕ → X → List T → Type 0) →
    ((n : ℕ) (value : X) (tokens : List T) → One test value tokens → W n value tokens) → (room : ℕ) →
    Runs (λ _. the test) W room
the-runs {T} {X} test token x takes W widen room =
    on-runs test (λ _. give) (λ _. OnlyValue) W room one token x takes
    (record { grows = λ room more value tokens le member. member; value = x; tokens = []; member = (refl, refl) })
    (λ x. give-runs x (λ _. OnlyValue x) room (refl, refl))
  where
    one : (n : ℕ) (value : X) (tokens : List T) → Led test (λ x. OnlyValue x value) tokens → W n value tokens
    one n value tokens led = widen n value tokens (record {
      token = led.token;
      only = led.cut ∙ ap (λ r. led.token ∷ r) led.behind.1;
      passes = led.passes ∙ ap Some (sym led.behind.0);
    })

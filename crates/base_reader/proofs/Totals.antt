-- The second law for each rule: L and M are the languages of the parts, W that of the whole; F, G and H say
-- what may stand behind.
use Rattle.std.proofs.Common.{◌≡◌, ◌⊎◌, inl, inr, ℕ, List, [], ◌∷◌, ◌++◌, length, Option, Some, None, Ok, refl, sym, ◌∙◌, ap}
use Rattle.std.proofs.lemmas.List.{append_assoc}
use Rattle.base_reader.specs.Languages.{One, Then, Led, Both, Optional, Loop, Many, Placed}
use Rattle.base_reader.specs.Readings.{Rule, refuse, give, follow, mapped, both, lead, trail, when, ahead, on, the, optional, maybe, turn, turns, loop, many}
use Rattle.base_reader.specs.Readings.{taken_of, placed}
use Rattle.base_reader.proofs.Next.{Refuses, Takes, when-refused, when-taken, ahead-refused, ahead-taken}
use Rattle.base_reader.proofs.Laws.{Totally}
use Rattle.base_reader.proofs.Parts.{taken_of-append}
use Rattle.base_reader.proofs.Loops.{Advances, loop-unfolds}

-- a value without a token
pub give-total : {T A : Type 0} (value : A) (W : ℕ → A → List T → Type 0) (H : A → List T → Type 0) (room : ℕ) →
    ((other : A) (tokens : List T) → W room other tokens → (other ≡ value) × (tokens ≡ [])) → Totally (λ _. give value) W H room
give-total value W H room narrow other front rest member follows =
    let n = narrow other front member in
    ap (λ f. Ok (value, f ++ rest)) n.1 ∙ ap (λ v. Ok (v, rest)) (sym n.0)

-- a function of the value
pub mapped-total : {T A B : Type 0} (f : A → B) (p : ℕ → Rule T A) (L : ℕ → A → List T → Type 0)
    (F : A → List T → Type 0) (W : ℕ → B → List T → Type 0) (H : B → List T → Type 0) (room : ℕ) →
    ((value : B) (tokens rest : List T) → W room value tokens → H value rest → (other : A) × (f other ≡ value) × L room other tokens × F other rest) →
    Totally p L F room → Totally (λ n. mapped f (p n)) W H room
mapped-total f p L F W H room narrow total value front rest member follows =
    let n = narrow value front rest member follows in
    ap (λ r. follow r (λ v. give (f v))) (total n.0 front rest n.2 n.3) ∙ ap (λ v. Ok (v, rest)) n.1

-- one part and then another: what begins the second, or stands behind it where it is empty, may follow the first
module _ {T A B : Type 0} (p : ℕ → Rule T A) (q : ℕ → Rule T B) (L : ℕ → A → List T → Type 0)
    (M : ℕ → B → List T → Type 0) (F : A → List T → Type 0) (G : B → List T → Type 0) (room : ℕ)
    (joins : (value : A) (other : B) (middle rest : List T) → M room other middle → G other rest → F value (middle ++ rest))
    (total_p : Totally p L F room) (total_q : Totally q M G room) where
  -- both parts, read one after the other
  first_read : (value : A) (other : B) (tokens rest : List T) →
      (member : Then (L room value) (M room other) tokens) → G other rest →
      p room (tokens ++ rest) ≡ Ok (value, member.back ++ rest)
  first_read value other tokens rest member follows =
      ap (λ ts. p room (ts ++ rest)) member.cut ∙ ap (p room) (append_assoc member.front member.back rest)
      ∙ total_p value member.front (member.back ++ rest) member.first (joins value other member.back rest member.second follows)

  pub both-total : Totally (λ n. both (p n) (q n)) (λ n. Both (L n) (M n)) (λ pair. G pair.1) room
  both-total pair front rest member follows =
      ap (λ r. follow r (λ v. mapped (λ o. (v, o)) (q room))) (first_read pair.0 pair.1 front rest member follows)
      ∙ ap (λ r. follow r (λ o. give (pair.0, o))) (total_q pair.1 member.back rest member.second follows)

  pub lead-total : (W : ℕ → B → List T → Type 0) (H : B → List T → Type 0) →
      ((other : B) (tokens rest : List T) → W room other tokens → H other rest → (value : A) × Then (L room value) (M room other) tokens × G other rest) →
      Totally (λ n. lead (p n) (q n)) W H room
  lead-total W H narrow other front rest member follows =
      let n = narrow other front rest member follows in
      ap (λ r. follow r (λ _. q room)) (first_read n.0 other front rest n.1 n.2)
      ∙ total_q other n.1.back rest n.1.second n.2

  pub trail-total : (W : ℕ → A → List T → Type 0) (H : A → List T → Type 0) →
      ((value : A) (tokens rest : List T) → W room value tokens → H value rest → (other : B) × Then (L room value) (M room other) tokens × G other rest) →
      Totally (λ n. trail (p n) (q n)) W H room
  trail-total W H narrow value front rest member follows =
      let n = narrow value front rest member follows in
      ap (λ r. follow r (λ v. mapped (λ _. v) (q room))) (first_read value n.0 front rest n.1 n.2)
      ∙ ap (λ r. follow r (λ _. give value)) (total_q n.0 n.1.back rest n.1.second n.2)

-- a token to which the test gives a value, and then the rule for the value
module _ {T X A : Type 0} (test : T → Option X) (p : ℕ → X → Rule T A) (L : ℕ → X → A → List T → Type 0)
    (F : A → List T → Type 0) (room : ℕ)
    (total_p : (x : X) → Totally (λ n. p n x) (λ n. L n x) F room) where
  led_read : (q : Rule T A) (value : A) (front rest : List T) → Led test (λ x. L room x value) front →
      F value rest → when test (p room) q (front ++ rest) ≡ Ok (value, rest)
  led_read q value front rest led follows =
      ap (λ ts. when test (p room) q (ts ++ rest)) led.cut
      ∙ when-taken test (p room) q led.token (led.rest ++ rest) led.value led.passes
      ∙ total_p led.value value led.rest rest led.behind follows

  pub on-total : (W : ℕ → A → List T → Type 0) →
      ((value : A) (tokens : List T) → W room value tokens → Led test (λ x. L room x value) tokens) →
      Totally (λ n. on test (p n)) W F room
  on-total W narrow value front rest member follows = led_read refuse value front rest (narrow value front member) follows

  -- the other side, where the test refuses what begins it
  pub when-total : (q : ℕ → Rule T A) (M : ℕ → A → List T → Type 0) (G : A → List T → Type 0)
      (W : ℕ → A → List T → Type 0) (H : A → List T → Type 0) →
      ((value : A) (tokens rest : List T) → W room value tokens → H value rest →
      (Led test (λ x. L room x value) tokens × F value rest) ⊎ (M room value tokens × G value rest × Refuses test (tokens ++ rest))) →
      Totally q M G room → Totally (λ n. when test (p n) (q n)) W H room
  when-total q M G W H narrow total_q value front rest member follows = go (narrow value front rest member follows)
    where
      go :
          (Led test (λ x. L room x value) front × F value rest) ⊎ (M room value front × G value rest × Refuses test (front ++ rest)) →
          when test (p room) (q room) (front ++ rest) ≡ Ok (value, rest)
      go (inl l) = led_read (q room) value front rest l.0 l.1
      go (inr m) = when-refused test (p room) (q room) (front ++ rest) m.2 ∙ total_q value front rest m.0 m.1

-- a choice by the next token, which is not taken
pub ahead-total : {T X A : Type 0} (test : T → Option X) (p q : ℕ → Rule T A)
    (L M : ℕ → A → List T → Type 0) (F G : A → List T → Type 0) (W : ℕ → A → List T → Type 0)
    (H : A → List T → Type 0) (room : ℕ) →
    ((value : A) (tokens rest : List T) → W room value tokens → H value rest →
    (L room value tokens × F value rest × (x : X) × Takes test x (tokens ++ rest)) ⊎ (M room value tokens × G value rest × Refuses test (tokens ++ rest))) →
    Totally p L F room → Totally q M G room → Totally (λ n. ahead test (p n) (q n)) W H room
ahead-total {T} {X} {A} test p q L M F G W H room narrow total_p total_q value front rest member follows = go (narrow value front rest member follows)
  where
    go :
        (L room value front × F value rest × (x : X) × Takes test x (front ++ rest)) ⊎ (M room value front × G value rest × Refuses test (front ++ rest)) →
        ahead test (p room) (q room) (front ++ rest) ≡ Ok (value, rest)
    go (inl l) = ahead-taken test (p room) (q room) (front ++ rest) l.2 l.3 ∙ total_p value front rest l.0 l.1
    go (inr m) = ahead-refused test (p room) (q room) (front ++ rest) m.2 ∙ total_q value front rest m.0 m.1

-- the part, and what a function says of its tokens
pub placed-total : {T A P : Type 0} (place : List T → P) (p : ℕ → Rule T A) (L : ℕ → A → List T → Type 0)
    (F : A → List T → Type 0) (room : ℕ) → Totally p L F room → Totally (λ n. placed place (p n))
    (λ n. Placed place (L n)) (λ value. F value.0) room
placed-total place p L F room total value front rest member follows =
    ap (λ r. follow r (λ v left. Ok ((v, place (taken_of (front ++ rest) left)), left))) (total value.0 front rest member.1 follows)
    ∙ ap (λ ts. Ok ((value.0, place ts), rest)) (taken_of-append (front ++ rest) front rest refl)
    ∙ ap (λ at. Ok ((value.0, at), rest)) (sym member.0)

-- what may stand behind a part that may be left out: G where it is, F where it is not
abbrev pub AfterOptional : {T A : Type 0} → (List T → Type 0) → (A → List T → Type 0) → Option A → List T →
    Type 0
AfterOptional G F None rest = G rest
AfterOptional G F (Some value) rest = F value rest

-- what the next token opens, or nothing
pub optional-total : {T X A : Type 0} (test : T → Option X) (p : ℕ → X → Rule T A)
    (L : ℕ → X → A → List T → Type 0) (F : A → List T → Type 0) (G : List T → Type 0) (room : ℕ) →
    ((rest : List T) → G rest → Refuses test rest) → ((x : X) → Totally (λ n. p n x) (λ n. L n x) F room) →
    Totally (λ n. optional test (p n)) (λ n. Optional (λ v. Led test (λ x. L n x v)))
    (AfterOptional G F) room
optional-total test p L F G room ends total_p None front rest member follows =
    ap (λ ts. optional test (p room) (ts ++ rest)) member
    ∙ when-refused test (λ x. mapped Some (p room x)) (give None) rest (ends rest follows)
optional-total test p L F G room ends total_p (Some value) front rest member follows =
    ap (λ ts. optional test (p room) (ts ++ rest)) member.cut
    ∙ when-taken test (λ x. mapped Some (p room x)) (give None) member.token (member.rest ++ rest) member.value member.passes
    ∙ ap (λ r. follow r (λ v. give (Some v))) (total_p member.value value member.rest rest member.behind follows)

-- the part, where the next token is one that begins it
pub maybe-total : {T X A : Type 0} (test : T → Option X) (p : ℕ → Rule T A) (L : ℕ → A → List T → Type 0)
    (F : A → List T → Type 0) (G : List T → Type 0) (room : ℕ) →
    ((rest : List T) → G rest → Refuses test rest) →
    ((value : A) (tokens rest : List T) → L room value tokens → (x : X) × Takes test x (tokens ++ rest)) →
    Totally p L F room → Totally (λ n. maybe test (p n)) (λ n. Optional (L n)) (AfterOptional G F) room
maybe-total test p L F G room ends begins total_p None front rest member follows =
    ap (λ ts. maybe test (p room) (ts ++ rest)) member
    ∙ ahead-refused test (mapped Some (p room)) (give None) rest (ends rest follows)
maybe-total test p L F G room ends begins total_p (Some value) front rest member follows =
    let b = begins value front rest member in
    ahead-taken test (mapped Some (p room)) (give None) (front ++ rest) b.0 b.1
    ∙ ap (λ r. follow r (λ v. give (Some v))) (total_p value front rest member follows)

-- a loop: what begins the steps behind a step, or stands behind them, may follow it
module _ {T A : Type 0} (step : ℕ → Rule T (Option A)) (S : ℕ → Option A → List T → Type 0)
    (F : Option A → List T → Type 0) (room : ℕ)
    (joins : (value : A) (others : List A) (middle rest : List T) → Loop (S room) others middle → F None rest → F (Some value) (middle ++ rest))
    (advances : Advances (step room)) (total : Totally step S F room) where
  pub loop-total : Totally (λ n. loop (step n)) (λ n. Loop (S n)) (λ _. F None) room
  loop-total [] front rest member follows =
      ap (λ r. follow r (turn (turns (length (front ++ rest)) (step room)))) (total None front rest member follows)
  loop-total (value ∷ others) front rest member follows =
      loop-unfolds (step room) advances (front ++ rest)
      ∙ ap (λ ts. follow (step room (ts ++ rest)) (turn (loop (step room)))) member.cut
      ∙ ap (λ ts. follow (step room ts) (turn (loop (step room)))) (append_assoc member.front member.back rest)
      ∙ ap (λ r. follow r (turn (loop (step room)))) (total (Some value) member.front (member.back ++ rest) member.first
      (joins value others member.back rest member.second follows))
      ∙ ap (λ r. follow r (λ v. give (value ∷ v))) (loop-total others member.back rest member.second follows)

-- anything may stand behind
abbrev pub AnyRest : {T A : Type 0} → A → List T → Type 0
AnyRest value rest = Unit {0}

-- one token to which the test gives a value
pub the-total : {T X : Type 0} (test : T → Option X) (W : ℕ → X → List T → Type 0) (F : X → List T → Type 0)
    (room : ℕ) → ((value : X) (tokens : List T) → W room value tokens → One test value tokens) →
    Totally (λ _. the test) W F room
the-total test W F room narrow value front rest member follows =
    let one = narrow value front member in
    ap (λ ts. the test (ts ++ rest)) one.only ∙ when-taken test give refuse one.token rest value one.passes

-- what each of the tokens opens: one that opens the next, or what may stand behind them all, may follow it
pub many-total : {T X A : Type 0} (test : T → Option X) (p : ℕ → X → Rule T A)
    (L : ℕ → X → A → List T → Type 0) (F : A → List T → Type 0) (G : List T → Type 0) (room : ℕ) →
    ((rest : List T) → G rest → Refuses test rest) →
    ((value : A) (others : List A) (middle rest : List T) → Many (λ v. Led test (λ x. L room x v)) others middle → G rest → F value (middle ++ rest)) →
    Advances (optional test (p room)) → ((x : X) → Totally (λ n. p n x) (λ n. L n x) F room) →
    Totally (λ n. many test (p n)) (λ n. Many (λ value. Led test (λ x. L n x value))) (λ _. G) room
many-total test p L F G room ends joins advances total_p =
    loop-total (λ n. optional test (p n)) (λ n. Optional (λ value. Led test (λ x. L n x value))) (AfterOptional G F) room joins advances
    (optional-total test p L F G room ends total_p)

-- Inner: one judgement on a rule. It says that the rule reads a language exactly, with a nesting of its values, and
-- by kinds of tokens what begins a member, whether one is empty, and what must not stand behind one. Each combinator
-- leads from judgements on the parts to one on the whole.
use Rattle.std.proofs.Common.{◌≡◌, ◌⊎◌, inl, inr, ℕ, ◌≤◌, max, Bool, true, false, ◌&&◌, IsTrue, List, [], ◌∷◌, ◌++◌, Option, Some, None, refl, sym, ◌∙◌, ap}
use Rattle.std.proofs.Common.{subst, arith}
use Rattle.base_reader.specs.Languages.{Empty, One, Then, Led, Both, Placed, Within, Maybe}
use Rattle.base_reader.specs.Choice.{Made, may}
use Rattle.base_reader.specs.Readings.{Rule, give, mapped, both, trail, ahead, on, the, placed}
use Rattle.base_reader.proofs.Sets.{has, within, apart, those, Test, missed, has-front, has-back, out-front, out-back, has-within, out-within, out-apart}
use Rattle.base_reader.proofs.Next.{Refuses, Takes}
use Rattle.base_reader.proofs.Laws.{Runs, Totally}
use Rattle.base_reader.proofs.Proper.{Proper, Within-proper}
use Rattle.base_reader.proofs.Runs.{trail-is, give-runs, mapped-runs, same-runs, both-runs, when-runs, ahead-runs, on-runs, the-runs}
use Rattle.base_reader.proofs.Parts.{placed-runs}
use Rattle.base_reader.proofs.Totals.{give-total, mapped-total, both-total, when-total, ahead-total, on-total, the-total, placed-total}

-- what begins a member, whether one is empty, and what must not stand behind one
pub record Shape : Type 0 where
  pub starts : List ℕ
  pub empty : Bool
  pub after : List ℕ

-- the shape of one token, of no token, of one part and then another, of a token and a part, of either of two parts
abbrev pub one_shape : List ℕ → Shape
one_shape set = record { starts = set; empty = false; after = [] }

abbrev pub no_shape : Shape
no_shape = record { starts = []; empty = true; after = [] }

abbrev pub maybe_shape : List ℕ → Shape
maybe_shape set = record { starts = set; empty = true; after = set }

abbrev pub then_shape : Shape → Shape → Shape
then_shape s t = record { starts = s.starts ++ those s.empty t.starts; empty = s.empty && t.empty; after = t.after ++ those t.empty s.after }

abbrev pub led_shape : List ℕ → Shape → Shape
led_shape set s = record { starts = set; empty = false; after = s.after }

abbrev pub either_shape : Shape → Shape → Shape
either_shape s t = record { starts = s.starts ++ t.starts; empty = false; after = s.after ++ t.after }

-- the list begins with a token of these kinds, or is empty where that is allowed
abbrev pub Starts : {T : Type 0} → (T → ℕ) → Shape → List T → Type 0
Starts class s [] = IsTrue s.empty
Starts class s (token ∷ rest) = has s.starts (class token) ≡ true

-- the list does not go on with a token of these kinds
abbrev pub Stops : {T : Type 0} → (T → ℕ) → List ℕ → List T → Type 0
Stops class after [] = Unit {0}
Stops class after (token ∷ rest) = has after (class token) ≡ false

-- what the kinds say of a language, and a member without nesting
pub record Lang {T A : Type 0} (class : T → ℕ) (L : A → List T → Type 0) (d : A → ℕ) (s : Shape) : Type 0 where
  pub begins : (value : A) (tokens : List T) → L value tokens → Starts class s tokens
  pub value : A
  pub tokens : List T
  pub member : L value tokens
  pub flat : d value ≤ 0

-- both laws at a room, or nothing where there is none
abbrev pub Laws : {T A : Type 0} → (T → ℕ) → (ℕ → Rule T A) → (A → List T → Type 0) → (A → ℕ) → Shape → Option ℕ → Type 0
Laws class p L d s None = Unit {0}
Laws class p L d s (Some room) = Runs p (Within L d) room × Totally p (Within L d) (λ _. Stops class s.after) room

-- THE JUDGEMENT
pub record Reads {T A : Type 0} (class : T → ℕ) (p : ℕ → Rule T A) (L : A → List T → Type 0) (d : A → ℕ) (s : Shape) (room : Option ℕ) : Type 0 where
  pub lang : Lang class L d s
  pub laws : Laws class p L d s room

pub proper-lang : {T A : Type 0} {class : T → ℕ} {L : A → List T → Type 0} {d : A → ℕ} {s : Shape} → Lang class L d s →
    Proper (Within L d)
proper-lang {T} {A} {class} {L} {d} {s} lang = Within-proper L d lang.value lang.tokens lang.member lang.flat

-- What may stand behind.

pub stops-front : {T : Type 0} (class : T → ℕ) (js ks : List ℕ) (rest : List T) → Stops class (js ++ ks) rest → Stops class js rest
stops-front class js ks [] stops = tt
stops-front class js ks (token ∷ rest) stops = out-front js ks (class token) stops

pub stops-back : {T : Type 0} (class : T → ℕ) (js ks : List ℕ) (rest : List T) → Stops class (js ++ ks) rest → Stops class ks rest
stops-back class js ks [] stops = tt
stops-back class js ks (token ∷ rest) stops = out-back js ks (class token) stops

pub stops-within : {T : Type 0} (class : T → ℕ) (js ks : List ℕ) (rest : List T) → IsTrue (within js ks) → Stops class ks rest → Stops class js rest
stops-within class js ks [] inside stops = tt
stops-within class js ks (token ∷ rest) inside stops = out-within js ks (class token) inside stops

-- a part that begins with none of the kinds, before what goes on with none of them where the part may be empty
pub stops-before : {T : Type 0} (class : T → ℕ) (js : List ℕ) (s : Shape) (middle rest : List T) → IsTrue (apart js s.starts) →
    Starts class s middle → Stops class (those s.empty js) rest → Stops class js (middle ++ rest)
stops-before class js s [] rest away empty stops = subst (λ b. Stops class (those b js) rest) empty stops
stops-before class js s (token ∷ middle) rest away starts stops = out-apart js s.starts (class token) away starts

-- what a test says of a list, by the kinds
pub stops-refuse : {T X : Type 0} {class : T → ℕ} {test : T → Option X} {set : List ℕ} → Test class test set → (rest : List T) →
    Stops class set rest → Refuses test rest
stops-refuse t [] stops = tt
stops-refuse t (token ∷ rest) stops = missed t token stops

pub starts-take : {T X : Type 0} {class : T → ℕ} {test : T → Option X} {set : List ℕ} → Test class test set → (tokens rest : List T) →
    (s : Shape) → IsTrue (within s.starts set) → s.empty ≡ false → Starts class s tokens → (x : X) × Takes test x (tokens ++ rest)
starts-take t [] rest s inside some starts = let e : false ≡ true = sym some ∙ starts in cc
starts-take {T} {X} {class} {test} {set} t (token ∷ tokens) rest s inside some starts = t.sure token (has-within s.starts set (class token) inside starts)

starts-both : {T : Type 0} (class : T → ℕ) (s t : Shape) (front back : List T) → Starts class s front → Starts class t back →
    Starts class (then_shape s t) (front ++ back)
starts-both class s t (token ∷ front) back starts others = has-front s.starts (those s.empty t.starts) (class token) starts
starts-both class s t [] (token ∷ back) starts others =
    has-back s.starts (those s.empty t.starts) (class token) (subst (λ b. has (those b t.starts) (class token) ≡ true) (sym starts) others)
starts-both class s t [] [] starts others = subst (λ b. IsTrue (b && t.empty)) (sym starts) others

-- The second law of the same rule for a narrower language.
pub same-total : {T A : Type 0} (p : ℕ → Rule T A) (L : ℕ → A → List T → Type 0) (F : A → List T → Type 0)
    (W : ℕ → A → List T → Type 0) (H : A → List T → Type 0) (room : ℕ) →
    ((value : A) (tokens rest : List T) → W room value tokens → H value rest → L room value tokens × F value rest) →
    Totally p L F room → Totally p W H room
same-total p L F W H room narrow total value front rest member follows =
    let n = narrow value front rest member follows in total value front rest n.0 n.1

-- one token
pub the-reads : {T X : Type 0} {class : T → ℕ} {test : T → Option X} {set : List ℕ} {room : Option ℕ} → Test class test set →
    Reads class (λ _. the test) (One test) (λ _. 0) (one_shape set) room
the-reads {T} {X} {class} {test} {set} {room} t = record {
  lang = record {
    begins = λ value tokens one. subst (Starts class (one_shape set)) (sym one.only) (t.hit one.token value one.passes);
    value = t.value;
    tokens = t.token ∷ [];
    member = record { token = t.token; only = refl; passes = t.takes };
    flat = omega arith;
  };
  laws = go room;
}
  where
    go : (room : Option ℕ) → Laws class (λ _. the test) (One test) (λ _. 0) (one_shape set) room
    go None = tt
    go (Some n) = (
      the-runs test t.token t.value t.takes (Within (One test) (λ _. 0)) (λ more value tokens one. (one, omega arith)) n,
      the-total test (Within (One test) (λ _. 0)) (λ _. Stops class []) n (λ value tokens member. member.0),
    )

-- no token
pub give-reads : {T : Type 0} {class : T → ℕ} {room : Option ℕ} →
    Reads {T = T} {A = Unit {0}} class (λ _. give tt) (λ _. Empty) (λ _. 0) no_shape room
give-reads {T} {class} {room} = record {
  lang = record {
    begins = λ value tokens none. subst (Starts class no_shape) (sym none) refl;
    value = tt;
    tokens = [];
    member = refl;
    flat = omega arith;
  };
  laws = go room;
}
  where
    go : (room : Option ℕ) → Laws {T = T} {A = Unit {0}} class (λ _. give tt) (λ _. Empty) (λ _. 0) no_shape room
    go None = tt
    go (Some n) = (
      give-runs tt (Within (λ _. Empty) (λ _. 0)) n (refl, omega arith),
      give-total tt (Within (λ _. Empty) (λ _. 0)) (λ _. Stops class []) n (λ other tokens member. (refl, member.0)),
    )

-- one part and then another
pub both-reads : {T A B : Type 0} {class : T → ℕ} {p : ℕ → Rule T A} {L : A → List T → Type 0} {d : A → ℕ} {s : Shape}
    {q : ℕ → Rule T B} {M : B → List T → Type 0} {e : B → ℕ} {t : Shape} {room : Option ℕ} →
    Reads class p L d s room → Reads class q M e t room → IsTrue (apart s.after t.starts) →
    Reads class (λ n. both (p n) (q n)) (Both L M) (λ v. max (d v.0) (e v.1))
    (then_shape s t) room
both-reads {T} {A} {B} {class} {p} {L} {d} {s} {q} {M} {e} {t} {room} r k away = record {
  lang = record {
    begins = λ value tokens member. subst (Starts class (then_shape s t)) (sym member.cut)
        (starts-both class s t member.front member.back (r.lang.begins value.0 member.front member.first) (k.lang.begins value.1 member.back member.second));
    value = (r.lang.value, k.lang.value);
    tokens = r.lang.tokens ++ k.lang.tokens;
    member = record { front = r.lang.tokens; back = k.lang.tokens; cut = refl; first = r.lang.member; second = k.lang.member };
    flat = omega (arith, r.lang.flat, k.lang.flat);
  };
  laws = go room r.laws k.laws;
}
  where
    go : (room : Option ℕ) → Laws class p L d s room → Laws class q M e t room →
        Laws class (λ n. both (p n) (q n)) (Both L M) (λ v. max (d v.0) (e v.1))
        (then_shape s t) room
    go None first second = tt
    go (Some n) first second = (
      same-runs (λ n. both (p n) (q n)) (λ n. both (p n) (q n)) (λ n. Both (Within L d n) (Within M e n)) (Within (Both L M) (λ v. max (d v.0) (e v.1))) n
          (λ more value tokens member. (
            record { front = member.front; back = member.back; cut = member.cut; first = member.first.0; second = member.second.0 },
            omega (arith, member.first.1, member.second.1),
          ))
          (λ _ _. refl)
          (both-runs p q (Within L d) (Within M e) (proper-lang r.lang) (proper-lang k.lang) n first.0 second.0),
      same-total (λ n. both (p n) (q n)) (λ n. Both (Within L d n) (Within M e n)) (λ _. Stops class (t.after ++ those t.empty s.after))
          (Within (Both L M) (λ v. max (d v.0) (e v.1))) (λ _. Stops class (t.after ++ those t.empty s.after)) n
          (λ value tokens rest member stops. (
            record {
              front = member.0.front;
              back = member.0.back;
              cut = member.0.cut;
              first = (member.0.first, omega (arith, member.1));
              second = (member.0.second, omega (arith, member.1));
            },
            stops,
          ))
          (both-total p q (Within L d) (Within M e) (λ _. Stops class s.after) (λ _. Stops class (t.after ++ those t.empty s.after)) n
          (λ value other middle rest member stops. stops-before class s.after t middle rest away (k.lang.begins other middle member.0)
          (stops-back class t.after (those t.empty s.after) rest stops))
          first.1
          (same-total q (Within M e) (λ _. Stops class t.after) (Within M e) (λ _. Stops class (t.after ++ those t.empty s.after)) n
          (λ value tokens rest member stops. (member, stops-front class t.after (those t.empty s.after) rest stops)) second.1)),
    )

-- a token, and then a part
pub led-reads : {T X A : Type 0} {class : T → ℕ} {test : T → Option X} {set : List ℕ} {p : ℕ → Rule T A} {L : A → List T → Type 0}
    {d : A → ℕ} {s : Shape} {room : Option ℕ} → Test class test set → Reads class p L d s room →
    Reads class (λ n. on test (λ _. p n)) (λ v. Led test (λ _. L v)) d (led_shape set s) room
led-reads {T} {X} {A} {class} {test} {set} {p} {L} {d} {s} {room} t r = record {
  lang = record {
    begins = λ value tokens led. subst (Starts class (led_shape set s)) (sym led.cut) (t.hit led.token led.value led.passes);
    value = r.lang.value;
    tokens = t.token ∷ r.lang.tokens;
    member = record { token = t.token; value = t.value; rest = r.lang.tokens; cut = refl; passes = t.takes; behind = r.lang.member };
    flat = r.lang.flat;
  };
  laws = go room r.laws;
}
  where
    go : (room : Option ℕ) → Laws class p L d s room →
        Laws class (λ n. on test (λ _. p n)) (λ v. Led test (λ _. L v)) d (led_shape set s) room
    go None laws = tt
    go (Some n) laws = (
      on-runs test (λ n _. p n) (λ n _. Within L d n) (Within (λ v. Led test (λ _. L v)) d) n
          (λ more value tokens led. (
            record {
              token = led.token;
              value = led.value;
              rest = led.rest;
              cut = led.cut;
              passes = led.passes;
              behind = led.behind.0;
            },
            led.behind.1,
          ))
          t.token t.value t.takes (proper-lang r.lang) (λ _. laws.0),
      on-total test (λ n _. p n) (λ n _. Within L d n) (λ _. Stops class s.after) n (λ _. laws.1) (Within (λ v. Led test (λ _. L v)) d)
          (λ value tokens member. record {
            token = member.0.token;
            value = member.0.value;
            rest = member.0.rest;
            cut = member.0.cut;
            passes = member.0.passes;
            behind = (member.0.behind, member.1);
          }),
    )

-- a function of the value
pub mapped-reads : {T A B : Type 0} {class : T → ℕ} {p : ℕ → Rule T A} {L : A → List T → Type 0} {d : A → ℕ} {s : Shape} {room : Option ℕ} →
    (f : A → B) (D : B → ℕ) → Reads class p L d s room → ((value : A) → D (f value) ≡ d value) →
    Reads class (λ n. mapped f (p n)) (Made f L) D s room
mapped-reads {T} {A} {B} {class} {p} {L} {d} {s} {room} f D r deep = record {
  lang = record {
    begins = λ value tokens member. r.lang.begins member.0 tokens member.2;
    value = f r.lang.value;
    tokens = r.lang.tokens;
    member = (r.lang.value, refl, r.lang.member);
    flat = omega (arith, r.lang.flat, deep r.lang.value);
  };
  laws = go room r.laws;
}
  where
    go : (room : Option ℕ) → Laws class p L d s room → Laws class (λ n. mapped f (p n)) (Made f L) D s room
    go None laws = tt
    go (Some n) laws = (
      mapped-runs f p (Within L d) (Within (Made f L) D) n (λ more value tokens member. ((value, refl, member.0), omega (arith, member.1, deep value))) laws.0,
      mapped-total f p (Within L d) (λ _. Stops class s.after) (Within (Made f L) D) (λ _. Stops class s.after) n
          (λ value tokens rest member stops. let made = member.0 in
          (made.0, made.1, (made.2, omega (arith, member.1, deep made.0, ap D made.1)), stops)) laws.1,
    )

-- the same rule, for the same language in other words
pub told-reads : {T A : Type 0} {class : T → ℕ} {p : ℕ → Rule T A} {L : A → List T → Type 0} {d : A → ℕ} {s : Shape} {room : Option ℕ} →
    (W : A → List T → Type 0) → Reads class p L d s room → ((value : A) (tokens : List T) → L value tokens → W value tokens) →
    ((value : A) (tokens : List T) → W value tokens → L value tokens) → Reads class p W d s room
told-reads {T} {A} {class} {p} {L} {d} {s} {room} W r to from = record {
  lang = record {
    begins = λ value tokens member. r.lang.begins value tokens (from value tokens member);
    value = r.lang.value;
    tokens = r.lang.tokens;
    member = to r.lang.value r.lang.tokens r.lang.member;
    flat = r.lang.flat;
  };
  laws = go room r.laws;
}
  where
    go : (room : Option ℕ) → Laws class p L d s room → Laws class p W d s room
    go None laws = tt
    go (Some n) laws = (
      same-runs p p (Within L d) (Within W d) n (λ more value tokens member. (to value tokens member.0, member.1)) (λ _ _. refl) laws.0,
      same-total p (Within L d) (λ _. Stops class s.after) (Within W d) (λ _. Stops class s.after) n
          (λ value tokens rest member stops. ((from value tokens member.0, member.1), stops)) laws.1,
    )

-- both at once
pub made-reads : {T A B : Type 0} {class : T → ℕ} {p : ℕ → Rule T A} {L : A → List T → Type 0} {d : A → ℕ} {s : Shape} {room : Option ℕ} →
    (f : A → B) (W : B → List T → Type 0) (D : B → ℕ) → Reads class p L d s room → ((value : A) → D (f value) ≡ d value) →
    ((value : A) (tokens : List T) → L value tokens → W (f value) tokens) →
    ((value : B) (tokens : List T) → W value tokens → Made f L value tokens) →
    Reads class (λ n. mapped f (p n)) W D s room
made-reads {T} {A} {B} {class} {p} {L} {d} {s} {room} f W D r deep to from =
    told-reads W (mapped-reads f D r deep) (λ value tokens made. subst (λ v. W v tokens) made.1 (to made.0 tokens made.2)) from

-- an equal rule
pub same-reads : {T A : Type 0} {class : T → ℕ} {p : ℕ → Rule T A} {L : A → List T → Type 0} {d : A → ℕ} {s : Shape} {room : Option ℕ} →
    (w : ℕ → Rule T A) → Reads class p L d s room → ((n : ℕ) (tokens : List T) → w n tokens ≡ p n tokens) → Reads class w L d s room
same-reads {T} {A} {class} {p} {L} {d} {s} {room} w r same = record { lang = r.lang; laws = go room r.laws }
  where
    go : (room : Option ℕ) → Laws class p L d s room → Laws class w L d s room
    go None laws = tt
    go (Some n) laws = (
      same-runs p w (Within L d) (Within L d) n (λ more value tokens member. member) same laws.0,
      λ value front rest member stops. same n (front ++ rest) ∙ laws.1 value front rest member stops,
    )

-- a wider shape
pub shape-reads : {T A : Type 0} {class : T → ℕ} {p : ℕ → Rule T A} {L : A → List T → Type 0} {d : A → ℕ} {t : Shape} {room : Option ℕ} →
    (s : Shape) → Reads class p L d t room → IsTrue (within t.starts s.starts) → t.empty ≡ s.empty → IsTrue (within t.after s.after) →
    Reads class p L d s room
shape-reads {T} {A} {class} {p} {L} {d} {t} {room} s r starts empty after = record {
  lang = record {
    begins = λ value tokens member. wider tokens (r.lang.begins value tokens member);
    value = r.lang.value;
    tokens = r.lang.tokens;
    member = r.lang.member;
    flat = r.lang.flat;
  };
  laws = go room r.laws;
}
  where
    wider : (tokens : List T) → Starts class t tokens → Starts class s tokens
    wider [] none = sym empty ∙ none
    wider (token ∷ tokens) begins = has-within t.starts s.starts (class token) starts begins

    go : (room : Option ℕ) → Laws class p L d t room → Laws class p L d s room
    go None laws = tt
    go (Some n) laws = (
      laws.0,
      λ value front rest member stops. laws.1 value front rest member (stops-within class t.after s.after rest after stops),
    )

-- the first's value alone
pub trail-reads : {T A : Type 0} {class : T → ℕ} {p : ℕ → Rule T A} {L : A → List T → Type 0} {d : A → ℕ} {s : Shape}
    {q : ℕ → Rule T (Unit {0})} {M : Unit {0} → List T → Type 0} {t : Shape} {room : Option ℕ} →
    Reads class p L d s room → Reads class q M (λ _. 0) t room → IsTrue (apart s.after t.starts) →
    Reads class (λ n. trail (p n) (q n)) (λ v. Then (L v) (M tt)) d
    (then_shape s t) room
trail-reads {T} {A} {class} {p} {L} {d} {s} {q} {M} {t} {room} r k away =
    same-reads (λ n. trail (p n) (q n))
    (made-reads {A = A × Unit {0}} (λ v. v.0) (λ v. Then (L v) (M tt)) d (both-reads r k away) (λ v. omega arith)
    (λ value tokens member. member) (λ value tokens member. ((value, tt), refl, member)))
    (λ n tokens. trail-is (p n) (q n) tokens)

-- a word or a mark that may be left out
pub may-reads : {T : Type 0} {class : T → ℕ} {test : T → Option (Unit {0})} {set : List ℕ} {room : Option ℕ} → Test class test set →
    Reads class (λ _. may test) (λ _. Maybe test) (λ _. 0) (maybe_shape set) room
may-reads {T} {class} {test} {set} {room} t = record {
  lang = record {
    begins = λ value tokens member. begun tokens member;
    value = tt;
    tokens = [];
    member = inl refl;
    flat = omega arith;
  };
  laws = go room;
}
  where
    begun : (tokens : List T) → Maybe test tokens → Starts class (maybe_shape set) tokens
    begun tokens (inl none) = subst (Starts class (maybe_shape set)) (sym none) refl
    begun tokens (inr one) = subst (Starts class (maybe_shape set)) (sym one.only) (t.hit one.token tt one.passes)

    parts : (n : ℕ) (value : Unit {0}) (tokens rest : List T) → Within (λ _. Maybe test) (λ _. 0) n value tokens → Stops class set rest →
        (Led test (λ _. Empty) tokens × Unit {0}) ⊎ (Empty tokens × Unit {0} × Refuses test (tokens ++ rest))
    parts n value tokens rest (inl none, le) stops = inr (none, tt, subst (λ ts. Refuses test (ts ++ rest)) (sym none) (stops-refuse t rest stops))
    parts n value tokens rest (inr one, le) stops = inl (
      record {
        token = one.token;
        value = tt;
        rest = [];
        cut = one.only;
        passes = one.passes;
        behind = refl;
      },
      tt,
    )

    go : (room : Option ℕ) → Laws class (λ _. may test) (λ _. Maybe test) (λ _. 0) (maybe_shape set) room
    go None = tt
    go (Some n) = (
      when-runs test (λ _. give) (λ _ _ _. Empty) (Within (λ _. Maybe test) (λ _. 0)) n
          (λ more value tokens led. (inr (record { token = led.token; only = led.cut ∙ ap (λ r. led.token ∷ r) led.behind; passes = led.passes }), omega arith))
          (λ _. give tt) (λ _ _. Empty) (λ more value tokens none. (inl none, omega arith)) (λ x. give-runs x (λ _ _. Empty) n refl)
          (give-runs tt (λ _ _. Empty) n refl),
      when-total test (λ _. give) (λ _ _ _. Empty) (λ _ _. Unit {0}) n
          (λ x. give-total x (λ _ _. Empty) (λ _ _. Unit {0}) n (λ other tokens none. (refl, none)))
          (λ _. give tt) (λ _ _. Empty) (λ _ _. Unit {0}) (Within (λ _. Maybe test) (λ _. 0)) (λ _. Stops class set)
          (λ value tokens rest member stops. parts n value tokens rest member stops)
          (give-total tt (λ _ _. Empty) (λ _ _. Unit {0}) n (λ other tokens none. (refl, none))),
    )

-- the part, and what a function says of its tokens
pub placed-reads : {T A P : Type 0} {class : T → ℕ} {p : ℕ → Rule T A} {L : A → List T → Type 0} {d : A → ℕ} {s : Shape} {room : Option ℕ} →
    (place : List T → P) → Reads class p L d s room → Reads class (λ n. placed place (p n)) (Placed place L) (λ v. d v.0) s room
placed-reads {T} {A} {P} {class} {p} {L} {d} {s} {room} place r = record {
  lang = record {
    begins = λ value tokens member. r.lang.begins value.0 tokens member.1;
    value = (r.lang.value, place r.lang.tokens);
    tokens = r.lang.tokens;
    member = (refl, r.lang.member);
    flat = r.lang.flat;
  };
  laws = go room r.laws;
}
  where
    go : (room : Option ℕ) → Laws class p L d s room → Laws class (λ n. placed place (p n)) (Placed place L) (λ v. d v.0) s room
    go None laws = tt
    go (Some n) laws = (
      same-runs (λ n. placed place (p n)) (λ n. placed place (p n)) (λ n. Placed place (Within L d n)) (Within (Placed place L) (λ v. d v.0)) n
          (λ more value tokens member. ((member.0, member.1.0), member.1.1)) (λ _ _. refl) (placed-runs place p (Within L d) n laws.0),
      same-total (λ n. placed place (p n)) (λ n. Placed place (Within L d n)) (λ _. Stops class s.after) (Within (Placed place L) (λ v. d v.0))
          (λ _. Stops class s.after) n
          (λ value tokens rest member stops. ((member.0.0, (member.0.1, member.1)), stops))
          (placed-total place p (Within L d) (λ _. Stops class s.after) n laws.1),
    )

-- what stands next chooses between two, and is not taken
pub ahead-reads : {T X A : Type 0} {class : T → ℕ} {test : T → Option X} {set : List ℕ} {p : ℕ → Rule T A} {L : A → List T → Type 0}
    {d : A → ℕ} {s : Shape} {q : ℕ → Rule T A} {M : A → List T → Type 0} {t : Shape} {room : Option ℕ} → Test class test set →
    Reads class p L d s room → Reads class q M d t room → IsTrue (within s.starts set) → s.empty ≡ false →
    IsTrue (apart set t.starts) → t.empty ≡ false →
    Reads class (λ n. ahead test (p n) (q n)) (λ v ts. L v ts ⊎ M v ts) d
    (either_shape s t) room
ahead-reads {T} {X} {A} {class} {test} {set} {p} {L} {d} {s} {q} {M} {t} {room} k r r' inside some away some' = record {
  lang = record {
    begins = λ value tokens member. begun value tokens member;
    value = r.lang.value;
    tokens = r.lang.tokens;
    member = inl r.lang.member;
    flat = r.lang.flat;
  };
  laws = go room r.laws r'.laws;
}
  where
    first_side : (tokens : List T) → Starts class s tokens → Starts class (either_shape s t) tokens
    first_side [] starts = sym some ∙ starts
    first_side (token ∷ tokens) starts = has-front s.starts t.starts (class token) starts

    second_side : (tokens : List T) → Starts class t tokens → Starts class (either_shape s t) tokens
    second_side [] starts = sym some' ∙ starts
    second_side (token ∷ tokens) starts = has-back s.starts t.starts (class token) starts

    begun : (value : A) (tokens : List T) → L value tokens ⊎ M value tokens → Starts class (either_shape s t) tokens
    begun value tokens (inl member) = first_side tokens (r.lang.begins value tokens member)
    begun value tokens (inr member) = second_side tokens (r'.lang.begins value tokens member)

    refused : (tokens rest : List T) → Starts class t tokens → Refuses test (tokens ++ rest)
    refused [] rest starts = let e : false ≡ true = sym some' ∙ starts in cc
    refused (token ∷ tokens) rest starts = missed k token (out-apart set t.starts (class token) away starts)

    parts : (n : ℕ) (value : A) (tokens rest : List T) → Within (λ v ts. L v ts ⊎ M v ts) d n value tokens → Stops class (s.after ++ t.after) rest →
        (Within L d n value tokens × Stops class s.after rest × (x : X) × Takes test x (tokens ++ rest))
        ⊎ (Within M d n value tokens × Stops class t.after rest × Refuses test (tokens ++ rest))
    parts n value tokens rest (inl member, le) stops =
        let x = starts-take k tokens rest s inside some (r.lang.begins value tokens member) in
        inl ((member, le), stops-front class s.after t.after rest stops, x.0, x.1)
    parts n value tokens rest (inr member, le) stops =
        inr ((member, le), stops-back class s.after t.after rest stops, refused tokens rest (r'.lang.begins value tokens member))

    go : (room : Option ℕ) → Laws class p L d s room → Laws class q M d t room →
        Laws class (λ n. ahead test (p n) (q n)) (λ v ts. L v ts ⊎ M v ts) d (either_shape s t) room
    go None laws laws' = tt
    go (Some n) laws laws' = (
      ahead-runs test p q (Within L d) (Within M d) (Within (λ v ts. L v ts ⊎ M v ts) d) n
          (λ more value tokens member. (inl member.0, member.1)) (λ more value tokens member. (inr member.0, member.1)) laws.0 laws'.0,
      ahead-total test p q (Within L d) (Within M d) (λ _. Stops class s.after) (λ _. Stops class t.after) (Within (λ v ts. L v ts ⊎ M v ts) d)
          (λ _. Stops class (s.after ++ t.after)) n
          (λ value tokens rest member stops. parts n value tokens rest member stops) laws.1 laws'.1,
    )

-- Inner: judgements on the steps of lists, on lists, and on parts that may be left out.
use Rattle.std.proofs.Common.{◌≡◌, ◌⊎◌, inl, inr, ℕ, ◌<◌, ◌≤◌, max, Bool, true, false, IsTrue, List, [], ◌∷◌, ◌++◌, length, Option, Some, None, Ok, is_some}
use Rattle.std.proofs.Common.{refl, sym, ◌∙◌, ap, subst, arith}
use Rattle.std.proofs.lemmas.List.{append_assoc}
use Rattle.base_reader.specs.Languages.{Led, Optional, Loop, Within, Maybe, Parted}
use Rattle.base_reader.specs.Choice.{Made, optional_or, trailing}
use Rattle.std.specs.Option.{option_map_or}
use Rattle.base_reader.specs.Readings.{Rule, picked, give, follow, mapped, maybe, loop}
use Rattle.base_reader.proofs.Sets.{has-within, within, apart, those, Test, has-front, has-back}
use Rattle.base_reader.proofs.Next.{Refuses}
use Rattle.base_reader.proofs.Laws.{Runs, Totally}
use Rattle.base_reader.proofs.Proper.{Within-grows}
use Rattle.base_reader.proofs.Runs.{give-runs, mapped-runs, same-runs, when-runs}
use Rattle.base_reader.proofs.Parts.{OnlyNone, maybe-runs}
use Rattle.base_reader.proofs.Loops.{Advances, loop-runs, Advances-runs, loop-more, mapped-same}
use Rattle.base_reader.proofs.Totals.{AfterOptional, give-total, mapped-total, when-total, maybe-total, loop-total}
use Rattle.base_reader.proofs.Readers.{Shape, one_shape, maybe_shape, Starts, Stops, Laws, Reads, stops-front, stops-back, stops-before, stops-refuse}
use Rattle.base_reader.proofs.Readers.{starts-take, same-total}

-- What begins a step, whether the end of a list may be empty, what must not stand behind a step, and what not behind
-- the end.
pub record Turn : Type 0 where
  pub starts : List ℕ
  pub empty : Bool
  pub more : List ℕ
  pub last : List ℕ

abbrev pub step_depth : {A : Type 0} → (A → ℕ) → Option A → ℕ
step_depth d None = 0
step_depth d (Some value) = d value

abbrev pub list_depth : {A : Type 0} → (A → ℕ) → List A → ℕ
list_depth d [] = 0
list_depth d (value ∷ others) = max (d value) (list_depth d others)

abbrev pub AfterStep : {T A : Type 0} → (T → ℕ) → Turn → Option A → List T → Type 0
AfterStep class t None rest = Stops class t.last rest
AfterStep class t (Some value) rest = Stops class t.more rest

abbrev pub StepLaws : {T A : Type 0} → (T → ℕ) → (ℕ → Rule T (Option A)) → (Option A → List T → Type 0) → (A → ℕ) → Turn → Option ℕ → Type 0
StepLaws class p S d t None = Unit {0}
StepLaws class p S d t (Some room) = Runs p (Within S (step_depth d)) room × Totally p (Within S (step_depth d)) (AfterStep class t) room

-- the judgement on a step
pub record Steps {T A : Type 0} (class : T → ℕ) (p : ℕ → Rule T (Option A)) (S : Option A → List T → Type 0) (d : A → ℕ) (t : Turn)
    (room : Option ℕ) : Type 0 where
  pub opens : (value : A) (tokens : List T) → S (Some value) tokens → Starts class (one_shape t.starts) tokens
  pub closes : (tokens : List T) → S None tokens → Starts class (record { starts = t.starts; empty = t.empty; after = [] }) tokens
  pub end : List T
  pub ends : S None end
  pub laws : StepLaws class p S d t room

-- what the token opens, or else what ends the list
abbrev pub or_turn : List ℕ → Shape → Shape → Turn
or_turn set s t = record { starts = set ++ t.starts; empty = t.empty; more = s.after; last = t.after ++ those t.empty set }

module _ {T X A : Type 0} (class : T → ℕ) (test : T → Option X) (set : List ℕ) (p : ℕ → Rule T A) (L : A → List T → Type 0)
    (d : A → ℕ) (s : Shape) (q : ℕ → Rule T (Unit {0})) (E : Unit {0} → List T → Type 0) (t : Shape) (k : Test class test set)
    (away : IsTrue (apart set t.starts)) where
  or_opens : (r : Option ℕ) → Reads class p L d s r → Reads class q E (λ _. 0) t r → (value : A) (tokens : List T) →
      Led test (λ _. L value) tokens → Starts class (one_shape (set ++ t.starts)) tokens
  or_opens r first other value tokens led = subst (Starts class (one_shape (set ++ t.starts))) (sym led.cut)
      (has-front set t.starts (class led.token) (k.hit led.token led.value led.passes))

  or_closes : (tokens : List T) → Starts class t tokens → Starts class (record { starts = set ++ t.starts; empty = t.empty; after = [] }) tokens
  or_closes [] starts = starts
  or_closes (token ∷ tokens) starts = has-back set t.starts (class token) starts

  or_widen : (n : ℕ) (value : Option A) (tokens : List T) → Led test (λ _. Made Some (Within L d n) value) tokens →
      Within (Parted test (λ _. L) (E tt)) (step_depth d) n value tokens
  or_widen n value tokens led =
      subst (λ o. Within (Parted test (λ _. L) (E tt)) (step_depth d) n o tokens) led.behind.1
      (record { token = led.token; value = led.value; rest = led.rest; cut = led.cut; passes = led.passes; behind = led.behind.2.0 }, led.behind.2.1)

  or_end : (n : ℕ) (value : Option A) (tokens : List T) → Made {A = Unit {0}} (λ _. None) (λ _. Within E (λ _. 0) n tt) value tokens →
      Within (Parted test (λ _. L) (E tt)) (step_depth d) n value tokens
  or_end n value tokens member = subst (λ o. Within (Parted test (λ _. L) (E tt)) (step_depth d) n o tokens) member.1 (member.2.0, omega arith)

  or_parts : (r : Option ℕ) → Reads class q E (λ _. 0) t r → (n : ℕ) (value : Option A) (tokens rest : List T) →
      Within (Parted test (λ _. L) (E tt)) (step_depth d) n value tokens → AfterStep class (or_turn set s t) value rest →
      (Led test (λ _. Made Some (Within L d n) value) tokens × AfterStep class (or_turn set s t) value rest)
      ⊎ (Made {A = Unit {0}} (λ _. None) (λ _. Within E (λ _. 0) n tt) value tokens × Stops class t.after rest × Refuses test (tokens ++ rest))
  or_parts r other n (Some value) tokens rest member stops =
      let led = member.0 in
      inl (
        record { token = led.token; value = led.value; rest = led.rest; cut = led.cut; passes = led.passes; behind = (value, refl, (led.behind, member.1)) },
        stops,
      )
  or_parts r other n None tokens rest member stops =
      inr (
        (tt, refl, (member.0, omega arith)),
        stops-front class t.after (those t.empty set) rest stops,
        stops-refuse k (tokens ++ rest) (stops-before class set t tokens rest away (other.lang.begins tt tokens member.0)
            (stops-back class t.after (those t.empty set) rest stops)),
      )

  or_laws : (room : Option ℕ) → Reads class p L d s room → Reads class q E (λ _. 0) t room → Laws class p L d s room → Laws class q E (λ _. 0) t room →
      StepLaws class (λ n. optional_or test (λ _. p n) (q n)) (Parted test (λ _. L) (E tt)) d (or_turn set s t) room
  or_laws None first other laws laws' = tt
  or_laws (Some n) first other laws laws' = (
    when-runs test (λ n _. mapped Some (p n)) (λ n _. Made Some (Within L d n)) (Within (Parted test (λ _. L) (E tt)) (step_depth d)) n or_widen
        (λ n. mapped (λ _. None) (q n)) (λ n. Made {A = Unit {0}} (λ _. None) (λ _. Within E (λ _. 0) n tt)) or_end
        (λ _. mapped-runs Some p (Within L d) (λ n. Made Some (Within L d n)) n (λ n value tokens member. (value, refl, member)) laws.0)
        (mapped-runs {A = Unit {0}} (λ _. None) q (Within E (λ _. 0)) (λ n. Made {A = Unit {0}} (λ _. None) (λ _. Within E (λ _. 0) n tt)) n
        (λ n value tokens member. (tt, refl, member)) laws'.0),
    when-total test (λ n _. mapped Some (p n)) (λ n _. Made Some (Within L d n)) (AfterStep class (or_turn set s t)) n
        (λ _. mapped-total Some p (Within L d) (λ _. Stops class s.after) (λ n. Made Some (Within L d n)) (AfterStep class (or_turn set s t)) n
        (λ value tokens rest member stops. (member.0, member.1, member.2, subst (λ o. AfterStep class (or_turn set s t) o rest) (sym member.1) stops)) laws.1)
        (λ n. mapped (λ _. None) (q n)) (λ n. Made {A = Unit {0}} (λ _. None) (λ _. Within E (λ _. 0) n tt)) (λ _. Stops class t.after)
        (Within (Parted test (λ _. L) (E tt)) (step_depth d)) (AfterStep class (or_turn set s t))
        (λ value tokens rest member stops. or_parts (Some n) other n value tokens rest member stops)
        (mapped-total {A = Unit {0}} (λ _. None) q (Within E (λ _. 0)) (λ _. Stops class t.after)
        (λ n. Made {A = Unit {0}} (λ _. None) (λ _. Within E (λ _. 0) n tt)) (λ _. Stops class t.after) n
        (λ value tokens rest member stops. (tt, member.1, member.2, stops)) laws'.1),
  )

pub or-steps : {T X A : Type 0} {class : T → ℕ} {test : T → Option X} {set : List ℕ} {p : ℕ → Rule T A} {L : A → List T → Type 0}
    {d : A → ℕ} {s : Shape} {q : ℕ → Rule T (Unit {0})} {E : Unit {0} → List T → Type 0} {t : Shape} {room : Option ℕ} →
    Test class test set → Reads class p L d s room → Reads class q E (λ _. 0) t room → IsTrue (apart set t.starts) →
    Steps class (λ n. optional_or test (λ _. p n) (q n)) (Parted test (λ _. L) (E tt)) d (or_turn set s t) room
or-steps {T} {X} {A} {class} {test} {set} {p} {L} {d} {s} {q} {E} {t} {room} k first other away = record {
  opens = or_opens class test set p L d s q E t k away room first other;
  closes = λ tokens member. or_closes class test set p L d s q E t k away tokens (other.lang.begins tt tokens member);
  end = other.lang.tokens;
  ends = other.lang.member;
  laws = or_laws class test set p L d s q E t k away room first other first.laws other.laws;
}

-- the part, where a token that begins it stands next
abbrev pub look_turn : List ℕ → Shape → Turn
look_turn set s = record { starts = set; empty = true; more = s.after; last = set }

module _ {T X A : Type 0} (class : T → ℕ) (start : T → Option X) (set : List ℕ) (p : ℕ → Rule T A) (L : A → List T → Type 0)
    (d : A → ℕ) (s : Shape) (k : Test class start set) (inside : IsTrue (within s.starts set)) (some : s.empty ≡ false) where
  look_opens : (value : A) (tokens : List T) → Starts class s tokens → Starts class (one_shape set) tokens
  look_opens value [] starts = sym some ∙ starts
  look_opens value (token ∷ tokens) starts = has-within s.starts set (class token) inside starts

  look_to : (n : ℕ) (value : Option A) (tokens : List T) → Optional (Within L d n) value tokens → Within (Optional L) (step_depth d) n value tokens
  look_to n None tokens member = (member, omega arith)
  look_to n (Some value) tokens member = member

  look_from : (n : ℕ) (value : Option A) (tokens rest : List T) → Within (Optional L) (step_depth d) n value tokens →
      AfterStep class (look_turn set s) value rest →
      Optional (Within L d n) value tokens × AfterOptional (Stops class set) (λ _. Stops class s.after) value rest
  look_from n None tokens rest member stops = (member.0, stops)
  look_from n (Some value) tokens rest member stops = (member, stops)

  look_total : (n : ℕ) → Reads class p L d s (Some n) → Totally (λ n. maybe start (p n)) (λ n. Optional (Within L d n))
      (AfterOptional (Stops class set) (λ _. Stops class s.after)) n
  look_total n r =
      maybe-total start p (Within L d) (λ _. Stops class s.after) (Stops class set) n (λ rest stops. stops-refuse k rest stops)
      (λ value tokens rest member. starts-take k tokens rest s inside some (r.lang.begins value tokens member.0)) r.laws.1

  look_laws : (room : Option ℕ) → Reads class p L d s room → StepLaws class (λ n. maybe start (p n)) (Optional L) d (look_turn set s) room
  look_laws None r = tt
  look_laws (Some n) r = (
    same-runs (λ n. maybe start (p n)) (λ n. maybe start (p n)) (λ n. Optional (Within L d n)) (Within (Optional L) (step_depth d)) n look_to (λ _ _. refl)
        (maybe-runs start p (Within L d) n r.laws.0),
    same-total (λ n. maybe start (p n)) (λ n. Optional (Within L d n)) (AfterOptional (Stops class set) (λ _. Stops class s.after))
        (Within (Optional L) (step_depth d)) (AfterStep class (look_turn set s)) n
        (λ value tokens rest member stops. look_from n value tokens rest member stops) (look_total n r),
  )

pub look-steps : {T X A : Type 0} {class : T → ℕ} {start : T → Option X} {set : List ℕ} {p : ℕ → Rule T A} {L : A → List T → Type 0}
    {d : A → ℕ} {s : Shape} {room : Option ℕ} → Test class start set → Reads class p L d s room → IsTrue (within s.starts set) → s.empty ≡ false →
    Steps class (λ n. maybe start (p n)) (Optional L) d (look_turn set s) room
look-steps {T} {X} {A} {class} {start} {set} {p} {L} {d} {s} {room} k r inside some = record {
  opens = λ value tokens member. look_opens class start set p L d s k inside some value tokens (r.lang.begins value tokens member);
  closes = λ tokens none. subst (Starts class (maybe_shape set)) (sym none) refl;
  end = [];
  ends = refl;
  laws = look_laws class start set p L d s k inside some room r;
}

-- a separator and the part behind it, or a last separator, or nothing
abbrev pub trailing_turn : List ℕ → List ℕ → Shape → Turn
trailing_turn separators set s = record { starts = separators; empty = true; more = s.after; last = separators ++ set }

module _ {T X A : Type 0} (class : T → ℕ) (separator : T → Option (Unit {0})) (separators : List ℕ) (start : T → Option X) (set : List ℕ)
    (p : ℕ → Rule T A) (L : A → List T → Type 0) (d : A → ℕ) (s : Shape) (j : Test class separator separators) (k : Test class start set)
    (inside : IsTrue (within s.starts set)) (some : s.empty ≡ false) where
  trailing_to : (n : ℕ) (value : Option A) (tokens : List T) → Led separator (λ _. Optional (Within L d n) value) tokens →
      Within (Parted separator (λ _. L) (Maybe separator)) (step_depth d) n value tokens
  trailing_to n None tokens led = (inr (record { token = led.token; only = led.cut ∙ ap (λ r. led.token ∷ r) led.behind; passes = led.passes }), omega arith)
  trailing_to n (Some value) tokens led =
      (record { token = led.token; value = led.value; rest = led.rest; cut = led.cut; passes = led.passes; behind = led.behind.0 }, led.behind.1)

  trailing_end : (n : ℕ) (value : Option A) (tokens : List T) → OnlyNone value tokens →
      Within (Parted separator (λ _. L) (Maybe separator)) (step_depth d) n value tokens
  trailing_end n None tokens none = (inl none, omega arith)
  trailing_end n (Some value) tokens none = absurd none

  trailing_parts : (n : ℕ) (value : Option A) (tokens rest : List T) → Within (Parted separator (λ _. L) (Maybe separator)) (step_depth d) n value tokens →
      AfterStep class (trailing_turn separators set s) value rest →
      (Led separator (λ _. Optional (Within L d n) value) tokens × AfterOptional (Stops class set) (λ _. Stops class s.after) value rest)
      ⊎ (OnlyNone value tokens × Unit {0} × Refuses separator (tokens ++ rest))
  trailing_parts n None tokens rest (inl none, le) stops =
      inr (none, tt, subst (λ ts. Refuses separator (ts ++ rest)) (sym none) (stops-refuse j rest (stops-front class separators set rest stops)))
  trailing_parts n None tokens rest (inr one, le) stops =
      inl (record { token = one.token; value = tt; rest = []; cut = one.only; passes = one.passes; behind = refl }, stops-back class separators set rest stops)
  trailing_parts n (Some value) tokens rest (led, le) stops =
      inl (record { token = led.token; value = led.value; rest = led.rest; cut = led.cut; passes = led.passes; behind = (led.behind, le) }, stops)

  trailing_laws : (room : Option ℕ) → Reads class p L d s room →
      StepLaws class (λ n. trailing separator start (p n)) (Parted separator (λ _. L) (Maybe separator)) d (trailing_turn separators set s) room
  trailing_laws None r = tt
  trailing_laws (Some n) r = (
    when-runs separator (λ n _. maybe start (p n)) (λ n _. Optional (Within L d n))
        (Within (Parted separator (λ _. L) (Maybe separator)) (step_depth d)) n trailing_to
        (λ _. give None) (λ _. OnlyNone) trailing_end (λ _. maybe-runs start p (Within L d) n r.laws.0) (give-runs None (λ _. OnlyNone) n refl),
    when-total separator (λ n _. maybe start (p n)) (λ n _. Optional (Within L d n)) (AfterOptional (Stops class set) (λ _. Stops class s.after)) n
        (λ _. look_total class start set p L d s k inside some n r)
        (λ _. give None) (λ _. OnlyNone) (λ _ _. Unit {0}) (Within (Parted separator (λ _. L) (Maybe separator)) (step_depth d))
        (AfterStep class (trailing_turn separators set s))
        (λ value tokens rest member stops. trailing_parts n value tokens rest member stops)
        (give-total None (λ _. OnlyNone) (λ _ _. Unit {0}) n only_none),
  )
    where
      only_none : (other : Option A) (tokens : List T) → OnlyNone other tokens → (other ≡ None) × (tokens ≡ [])
      only_none None tokens none = (refl, none)
      only_none (Some value) tokens none = absurd none

pub trailing-steps : {T X A : Type 0} {class : T → ℕ} {separator : T → Option (Unit {0})} {separators : List ℕ} {start : T → Option X} {set : List ℕ}
    {p : ℕ → Rule T A} {L : A → List T → Type 0} {d : A → ℕ} {s : Shape} {room : Option ℕ} → Test class separator separators → Test class start set →
    Reads class p L d s room → IsTrue (within s.starts set) → s.empty ≡ false →
    Steps class (λ n. trailing separator start (p n)) (Parted separator (λ _. L) (Maybe separator)) d (trailing_turn separators set s) room
trailing-steps {T} {X} {A} {class} {separator} {separators} {start} {set} {p} {L} {d} {s} {room} j k r inside some = record {
  opens = λ value tokens led. subst (Starts class (one_shape separators)) (sym led.cut) (j.hit led.token led.value led.passes);
  closes = λ tokens member. closed tokens member;
  end = [];
  ends = inl refl;
  laws = trailing_laws class separator separators start set p L d s j k inside some room r;
}
  where
    closed : (tokens : List T) → Maybe separator tokens → Starts class (maybe_shape separators) tokens
    closed tokens (inl none) = subst (Starts class (maybe_shape separators)) (sym none) refl
    closed tokens (inr one) = subst (Starts class (maybe_shape separators)) (sym one.only) (j.hit one.token tt one.passes)

-- the step alone: a part that may be left out
abbrev pub step_shape : Turn → Shape
step_shape t = record { starts = t.starts; empty = t.empty; after = t.more ++ t.last }

pub step-reads : {T A : Type 0} {class : T → ℕ} {p : ℕ → Rule T (Option A)} {S : Option A → List T → Type 0} {d : A → ℕ} {t : Turn} {room : Option ℕ} →
    Steps class p S d t room → Reads class p S (step_depth d) (step_shape t) room
step-reads {T} {A} {class} {p} {S} {d} {t} {room} k = record {
  lang = record { begins = begins; value = None; tokens = k.end; member = k.ends; flat = omega arith };
  laws = go room k.laws;
}
  where
    first : (tokens : List T) → Starts class (one_shape t.starts) tokens → Starts class (step_shape t) tokens
    first [] starts = cc
    first (token ∷ tokens) starts = starts

    second : (tokens : List T) → Starts class (record { starts = t.starts; empty = t.empty; after = [] }) tokens → Starts class (step_shape t) tokens
    second [] starts = starts
    second (token ∷ tokens) starts = starts

    begins : (value : Option A) (tokens : List T) → S value tokens → Starts class (step_shape t) tokens
    begins None tokens member = second tokens (k.closes tokens member)
    begins (Some value) tokens member = first tokens (k.opens value tokens member)

    stops : (value : Option A) (rest : List T) → Stops class (t.more ++ t.last) rest → AfterStep class t value rest
    stops None rest after = stops-back class t.more t.last rest after
    stops (Some value) rest after = stops-front class t.more t.last rest after

    go : (room : Option ℕ) → StepLaws class p S d t room → Laws class p S (step_depth d) (step_shape t) room
    go None laws = tt
    go (Some n) laws = (
      laws.0,
      same-total p (Within S (step_depth d)) (AfterStep class t) (Within S (step_depth d)) (λ _. Stops class (t.more ++ t.last)) n
          (λ value tokens rest member after. (member, stops value rest after)) laws.1,
    )

-- a list of steps, up to one without a value
module _ {T A : Type 0} (class : T → ℕ) (p : ℕ → Rule T (Option A)) (S : Option A → List T → Type 0) (d : A → ℕ) (t : Turn) (room : Option ℕ)
    (k : Steps class p S d t room) (away : IsTrue (apart t.more t.starts)) where
  loop_begins : (values : List A) (tokens : List T) → Loop S values tokens → Starts class (record { starts = t.starts; empty = t.empty; after = [] }) tokens
  loop_begins [] tokens member = k.closes tokens member
  loop_begins (value ∷ others) tokens member =
      subst (Starts class (record { starts = t.starts; empty = t.empty; after = [] })) (sym member.cut)
      (go member.front member.back (k.opens value member.front member.first))
    where
      go : (front back : List T) → Starts class (one_shape t.starts) front →
          Starts class (record { starts = t.starts; empty = t.empty; after = [] }) (front ++ back)
      go [] back starts = cc
      go (token ∷ front) back starts = starts

  loop_to : (n : ℕ) (values : List A) (tokens : List T) → Loop (Within S (step_depth d) n) values tokens → Within (Loop S) (list_depth d) n values tokens
  loop_to n [] tokens member = (member.0, omega arith)
  loop_to n (value ∷ others) tokens member =
      let back = loop_to n others member.back member.second in
      (record { front = member.front; back = member.back; cut = member.cut; first = member.first.0; second = back.0 }, omega (arith, member.first.1, back.1))

  loop_from : (n : ℕ) (values : List A) (tokens : List T) → Loop S values tokens → list_depth d values ≤ n → Loop (Within S (step_depth d) n) values tokens
  loop_from n [] tokens member le = (member, omega arith)
  loop_from n (value ∷ others) tokens member le =
      record {
        front = member.front;
        back = member.back;
        cut = member.cut;
        first = (member.first, omega (arith, le));
        second = loop_from n others member.back member.second (omega (arith, le));
      }

  step_not_empty : (n : ℕ) (value : A) (front : List T) → Within S (step_depth d) n (Some value) front → 0 < length front
  step_not_empty n value front member = go front (k.opens value front member.0)
    where
      go : (front : List T) → Starts class (one_shape t.starts) front → 0 < length front
      go [] starts = cc
      go (token ∷ front) starts = omega arith

  abbrev AfterAny : Option A → List T → Type 0
  AfterAny None rest = Stops class (t.more ++ t.last) rest
  AfterAny (Some value) rest = Stops class t.more rest

  any_stops : (value : Option A) (rest : List T) → AfterAny value rest → AfterStep class t value rest
  any_stops None rest after = stops-back class t.more t.last rest after
  any_stops (Some value) rest after = after

  loop_joins : (n : ℕ) (value : A) (others : List A) (middle rest : List T) → Loop (Within S (step_depth d) n) others middle → AfterAny None rest →
      AfterAny (Some value) (middle ++ rest)
  loop_joins n value others middle rest member stops =
      stops-before class t.more (record { starts = t.starts; empty = t.empty; after = [] }) middle rest away
      (loop_begins others middle (loop_to n others middle member).0) (thin t.empty rest stops)
    where
      thin : (b : Bool) (rest : List T) → Stops class (t.more ++ t.last) rest → Stops class (those b t.more) rest
      thin true rest stops = stops-front class t.more t.last rest stops
      thin false [] stops = tt
      thin false (token ∷ rest) stops = refl

  advances-steps : (n : ℕ) → StepLaws class p S d t (Some n) → Advances (p n)
  advances-steps n laws = Advances-runs p (Within S (step_depth d)) n (λ value front member. step_not_empty n value front member) laws.0

  loop_laws : (room : Option ℕ) → StepLaws class p S d t room → Laws class (λ n. loop (p n)) (Loop S) (list_depth d) (step_shape t) room
  loop_laws None laws = tt
  loop_laws (Some n) laws = (
    same-runs (λ n. loop (p n)) (λ n. loop (p n)) (λ n. Loop (Within S (step_depth d) n)) (Within (Loop S) (list_depth d)) n loop_to (λ _ _. refl)
        (loop-runs p (Within S (step_depth d)) n (Within-grows S (step_depth d)) k.end (k.ends, omega arith) step_not_empty laws.0),
    same-total (λ n. loop (p n)) (λ n. Loop (Within S (step_depth d) n)) (λ _. AfterAny None) (Within (Loop S) (list_depth d))
        (λ _. Stops class (t.more ++ t.last)) n
        (λ values tokens rest member stops. (loop_from n values tokens member.0 member.1, stops))
        (loop-total p (Within S (step_depth d)) AfterAny n (λ value others middle rest member stops. loop_joins n value others middle rest member stops)
        (advances-steps n laws)
        (same-total p (Within S (step_depth d)) (AfterStep class t) (Within S (step_depth d)) AfterAny n
        (λ value tokens rest member after. (member, any_stops value rest after)) laws.1)),
  )

pub loop-reads : {T A : Type 0} {class : T → ℕ} {p : ℕ → Rule T (Option A)} {S : Option A → List T → Type 0} {d : A → ℕ} {t : Turn} {room : Option ℕ} →
    Steps class p S d t room → IsTrue (apart t.more t.starts) → Reads class (λ n. loop (p n)) (Loop S) (list_depth d) (step_shape t) room
loop-reads {T} {A} {class} {p} {S} {d} {t} {room} k away = record {
  lang = record {
    begins = λ values tokens member. wide tokens (loop_begins class p S d t room k away values tokens member);
    value = [];
    tokens = k.end;
    member = k.ends;
    flat = omega arith;
  };
  laws = loop_laws class p S d t room k away room k.laws;
}
  where
    wide : (tokens : List T) → Starts class (record { starts = t.starts; empty = t.empty; after = [] }) tokens → Starts class (step_shape t) tokens
    wide [] starts = starts
    wide (token ∷ tokens) starts = starts

-- a step that gives a value takes a token, as code that turns it wants to know
pub Advances-step : {T A : Type 0} {class : T → ℕ} {p : ℕ → Rule T (Option A)} {S : Option A → List T → Type 0} {d : A → ℕ} {t : Turn} {n : ℕ} →
    Steps class p S d t (Some n) → IsTrue (apart t.more t.starts) → Advances (p n)
Advances-step {T} {A} {class} {p} {S} {d} {t} {n} k away = advances-steps class p S d t (Some n) k away n k.laws

-- What code knows of a list that it reads.

-- a separator and a part behind it
pub trailing-some : {T X A : Type 0} (separator : T → Option (Unit {0})) (start : T → Option X) (p : Rule T A) (tokens behind : List T) (value : A)
    (rest : List T) →
    picked separator tokens ≡ Some (tt, behind) → is_some (picked start behind) ≡ true → p behind ≡ Ok (value, rest) →
    trailing separator start p tokens ≡ Ok (Some value, rest)
trailing-some {T} {X} {A} separator start p tokens behind value rest next begins read =
    ap (λ o. option_map_or {T = Unit {0} × List T} (λ found. maybe start p found.1) o (give None tokens)) next ∙ go (picked start behind) begins
  where
    go : (o : Option (X × List T)) → is_some o ≡ true → option_map_or {T = X × List T} (λ _. mapped Some p behind) o (give None behind) ≡ Ok (Some value, rest)
    go None begins = cc
    go (Some found) begins = ap (λ r. follow r (λ v. give (Some v))) read

-- a token and the part behind it
pub optional_or-some : {T X A : Type 0} (test : T → Option X) (p : X → Rule T A) (q : Rule T (Unit {0})) (tokens : List T) (x : X) (behind : List T) (value : A)
    (rest : List T) →
    picked test tokens ≡ Some (x, behind) → p x behind ≡ Ok (value, rest) → optional_or test p q tokens ≡ Ok (Some value, rest)
optional_or-some {T} {X} {A} test p q tokens x behind value rest next read =
    ap (λ o. option_map_or {T = X × List T} (λ found. mapped Some (p found.0) found.1) o (mapped (λ _. None) q tokens)) next
    ∙ ap (λ r. follow r (λ v. give (Some v))) read

-- the part, where a token that begins it stands next
pub maybe-some : {T X A : Type 0} (start : T → Option X) (p : Rule T A) (tokens : List T) (x : X) (behind : List T) (value : A) (rest : List T) →
    picked start tokens ≡ Some (x, behind) → p tokens ≡ Ok (value, rest) → maybe start p tokens ≡ Ok (Some value, rest)
maybe-some {T} {X} {A} start p tokens x behind value rest next read =
    ap (λ o. option_map_or {T = X × List T} (λ _. mapped Some p tokens) o (give None tokens)) next
    ∙ ap (λ r. follow r (λ v. give (Some v))) read

-- One more value is read: in front of what is left of the list it stands behind those that were read before.
pub loop-grown : {T A B : Type 0} (step : Rule T (Option A)) → Advances step → (f : List A → B) (front : List A) (tokens : List T) (value : A) (rest : List T) →
    step tokens ≡ Ok (Some value, rest) →
    mapped (λ others. f ((front ++ value ∷ []) ++ others)) (loop step) rest ≡ mapped (λ others. f (front ++ others)) (loop step) tokens
loop-grown step advances f front tokens value rest is =
    mapped-same (λ others. f ((front ++ value ∷ []) ++ others)) (λ others. f (front ++ value ∷ others))
    (λ others. ap f (append_assoc front (value ∷ []) others)) (loop step rest)
    ∙ sym (loop-more step advances (λ others. f (front ++ others)) tokens value rest is)

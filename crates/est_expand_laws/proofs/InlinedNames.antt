-- Inner: what names mean where the body of a module stands for a `run` of it.
use Rattle.std.proofs.Common.{◌≡◌, ℕ, ◌+◌, ◌<◌, ◌||◌, ◌&&◌, Bool, true, false, nat_lt, List, [], ◌∷◌, map, refl, ap, sym, subst}
use Rattle.std.proofs.Common.{◌∙◌, Option, Some, None, Result, Ok, Err, arith}
use Rattle.std.specs.Prelude.{not, is_some, drop, if◌then◌else◌}
use Rattle.std.specs.Option.{option_map, option_or}
use Rattle.std.proofs.lemmas.Bool.{eq-eqb, ne_eqb}
use Rattle.base_types.specs.declared.place.Span.{Span}
use Rattle.base_types.specs.Names.{is_same_name}
use Rattle.base_types.proofs.Exports.{same_name-is}
use Rattle.est_ast.specs.declared.trees.Name.{Name}
use Rattle.est_ast.specs.declared.trees.Rename.{Rename}
use Rattle.est_ast.specs.FlatTrees as flat
use Rattle.est_ast.specs.Trees.{Expr, Tick, Sig, Not, And, Or, Round, Square, Exprs, NoExprs, MoreExprs, Delay, Plain, Immediate, Count, Module}
use Rattle.est_names.specs.Names.{texts, is_among}
use Rattle.est_expand.specs.declared.scope.Meaning.{Meaning}
use Rattle.est_expand.specs.Faults.{FlattenFault, UnknownSignal, Unbound, UnknownTrap, EmitInput, BadRename}
use Rattle.est_expand.specs.Scopes.{NameScope, meaning, binding, Formal, interface}
use Rattle.est_expand.specs.Walks.{on_ok}
use Rattle.est_expand.specs.Tests.{found_or, signal_of, test, tests, awaited}
use Rattle.est_expand.specs.Runs.{formal_names, renamed, opened, chain_with}
use Rattle.est_expand.specs.Flattening.{traps_between, exit_of, emitted}
use Rattle.est_expand_laws.specs.Inlining.{own, Place, inside_binders, actual, inside_module, name_by, test_by, tests_by, delay_by}
use Rattle.est_expand_laws.specs.Laws.{is_limit}

-- ---- results

-- What a walk over a program gives, and the walk over the inlined one. Two values are so related. A limit is the same one,
-- and behind another fault the second walk may go on.
abbrev pub Follows : {A B : Type 0} → (A → B → Type 0) → Result A FlattenFault → Result B FlattenFault → Type 0
Follows R (Ok a) (Ok b) = R a b
Follows R (Ok a) (Err g) = ⊥
Follows R (Err f) (Ok b) = is_limit f ≡ false
Follows R (Err f) (Err g) = is_limit f ≡ true → f ≡ g

pub fault-follows : {A B : Type 0} (R : A → B → Type 0) (f : FlattenFault) (s : Result B FlattenFault) → is_limit f ≡ false → Follows R (Err f) s
fault-follows R f (Ok b) other = other
fault-follows R f (Err g) other = λ limit. absurd (cc)

pub on_ok-follows : {A B C D : Type 0} (R : A → B → Type 0) (Q : C → D → Type 0) (r : Result A FlattenFault) (s : Result B FlattenFault)
    (next : A → Result C FlattenFault) (more : B → Result D FlattenFault)
    → Follows R r s → ((a : A) (b : B) → R a b → Follows Q (next a) (more b)) → Follows Q (on_ok r next) (on_ok s more)
on_ok-follows R Q (Ok a) (Ok b) next more is on = on a b is
on_ok-follows R Q (Ok a) (Err g) next more is on = absurd is
on_ok-follows R Q (Err f) (Ok b) next more is on = fault-follows Q f (more b) is
on_ok-follows R Q (Err f) (Err g) next more is on = is

pub if-follows : {A B : Type 0} (R : A → B → Type 0) (b c : Bool) (r : Result A FlattenFault) (s : Result B FlattenFault) (f : FlattenFault)
    → b ≡ c → Follows R r s → Follows R (if b then r else Err f) (if c then s else Err f)
if-follows R true true r s f is same = same
if-follows R true false r s f is same = absurd (cc)
if-follows R false true r s f is same = absurd (cc)
if-follows R false false r s f is same = λ limit. refl

-- it has a value, or a fault that is no limit
abbrev pub NoLimit : {A : Type 0} → Result A FlattenFault → Type 0
NoLimit r = (f : FlattenFault) → r ≡ Err f → is_limit f ≡ false

no_limit-Ok : {A : Type 0} (a : A) → NoLimit (Ok a)
no_limit-Ok a f is = absurd (cc)

no_limit-Err : {A : Type 0} (g : FlattenFault) → is_limit g ≡ false → NoLimit {A = A} (Err g)
no_limit-Err g other f is = let same : g ≡ f = cc in ap is_limit (sym same) ∙ other

no_limit-on_ok : {A B : Type 0} (r : Result A FlattenFault) (next : A → Result B FlattenFault) → NoLimit r → ((a : A) → NoLimit (next a))
    → NoLimit (on_ok r next)
no_limit-on_ok (Ok a) next none more = more a
no_limit-on_ok (Err g) next none more = no_limit-Err g (none g refl)

no_limit-if : {A : Type 0} (b : Bool) (r s : Result A FlattenFault) → NoLimit r → NoLimit s → NoLimit (if b then r else s)
no_limit-if true r s first second = first
no_limit-if false r s first second = second

pub no_limit-found_or : {A : Type 0} (fault : FlattenFault) (found : Option A) → is_limit fault ≡ false → NoLimit (found_or fault found)
no_limit-found_or fault (Some a) other = no_limit-Ok a
no_limit-found_or fault None other = no_limit-Err fault other

-- what only the walk over the program asks for
pub only-follows : {A C D : Type 0} (Q : C → D → Type 0) (r : Result A FlattenFault) (next : A → Result C FlattenFault) (s : Result D FlattenFault)
    → NoLimit r → ((a : A) → r ≡ Ok a → Follows Q (next a) s) → Follows Q (on_ok r next) s
only-follows Q (Ok a) next s none on = on a refl
only-follows Q (Err f) next s none on = fault-follows Q f s (none f refl)

-- ---- what is found

-- what is found in the program is found in the inlined one
abbrev pub Found : {A : Type 0} → (A → A → Type 0) → Option A → Option A → Type 0
Found R (Some a) (Some b) = R a b
Found R (Some a) None = ⊥
Found R None found = Unit {0}

found_or-follows : {A : Type 0} (R : A → A → Type 0) (f g : FlattenFault) (o p : Option A) → is_limit f ≡ false → Found R o p
    → Follows R (found_or f o) (found_or g p)
found_or-follows R f g (Some a) (Some b) other is = is
found_or-follows R f g (Some a) None other is = absurd is
found_or-follows R f g None p other is = fault-follows R f (found_or g p) other

-- ---- names of modules

pub own-same : (depth : ℕ) (x y : List ℕ) → is_same_name (own depth x) (own depth y) ≡ is_same_name x y
own-same depth x y = ap (λ b. b && is_same_name x y) (eq-eqb depth depth refl)

own-apart : (depth deeper : ℕ) (x y : List ℕ) → depth < deeper → is_same_name (own depth x) (own deeper y) ≡ false
own-apart depth deeper x y low = ap (λ b. b && is_same_name x y) (ne_eqb depth deeper (λ same. omega (arith, low, same)))

-- At a place a name becomes the module's own only if it is that, and no name becomes one of a module that stands deeper.
pub record Apart (here : Place) : Type 0 where
  pub here_own : (x y : List ℕ) → is_same_name x y ≡ false → is_same_name (here.becomes x) (own here.depth y) ≡ false
  pub below : (x y : List ℕ) (deeper : ℕ) → here.depth < deeper → is_same_name (here.becomes x) (own deeper y) ≡ false

pub apart-main : (depth : ℕ) → Apart (record { depth = depth; becomes = own depth })
apart-main depth = record {
  here_own = λ x y differ. own-same depth x y ∙ differ;
  below = λ x y deeper low. own-apart depth deeper x y low;
}

pub apart-binders : (names : List (List ℕ)) (here : Place) → Apart here → Apart (inside_binders names here)
apart-binders names here apart = record {
  here_own = λ x y differ. inside x y differ (is_among x names);
  below = λ x y deeper low. beneath x y deeper low (is_among x names);
}
  where
    inside : (x y : List ℕ) → is_same_name x y ≡ false → (b : Bool)
        → is_same_name (if b then own here.depth x else here.becomes x) (own here.depth y) ≡ false
    inside x y differ true = own-same here.depth x y ∙ differ
    inside x y differ false = apart.here_own x y differ

    beneath : (x y : List ℕ) (deeper : ℕ) → here.depth < deeper → (b : Bool)
        → is_same_name (if b then own here.depth x else here.becomes x) (own deeper y) ≡ false
    beneath x y deeper low true = own-apart here.depth deeper x y low
    beneath x y deeper low false = apart.below x y deeper low

pub apart-module : (m : Module) (renames : List Rename) (here : Place) → Apart here → Apart (inside_module m renames here)
apart-module m renames here apart = record {
  here_own = λ x y differ. inside x y differ (is_among x (formal_names (interface m)));
  below = λ x y deeper low. beneath x y deeper low (is_among x (formal_names (interface m)));
}
  where
    inside : (x y : List ℕ) → is_same_name x y ≡ false → (b : Bool)
        → is_same_name (if b then here.becomes (actual renames x) else own (here.depth + 1) x) (own (here.depth + 1) y) ≡ false
    inside x y differ true = apart.below (actual renames x) y (here.depth + 1) (omega arith)
    inside x y differ false = own-same (here.depth + 1) x y ∙ differ

    beneath : (x y : List ℕ) (deeper : ℕ) → here.depth + 1 < deeper → (b : Bool)
        → is_same_name (if b then here.becomes (actual renames x) else own (here.depth + 1) x) (own deeper y) ≡ false
    beneath x y deeper low true = apart.below (actual renames x) y deeper (omega (arith, low))
    beneath x y deeper low false = own-apart (here.depth + 1) deeper x y low

-- names without what was written before them
pub texts-by : (becomes : List ℕ → List ℕ) (names : List Name) → texts (map (name_by becomes) names) ≡ map becomes (texts names)
texts-by becomes [] = refl
texts-by becomes (name ∷ names) = ap (λ l. becomes name.text ∷ l) (texts-by becomes names)

pub without-own : (depth : ℕ) (names : List (List ℕ)) → map (drop 1) (map (own depth) names) ≡ names
without-own depth [] = refl
without-own depth (name ∷ names) = ap (λ l. name ∷ l) (without-own depth names)

-- ---- traps

-- each trap that an exit of the module can reach is so far away in the inlined module
abbrev pub ExitsStay : ℕ → List (List ℕ) → List (List ℕ) → Type 0
ExitsStay depth traps others = (x : List ℕ) → Found (λ k l. k ≡ l) (traps_between x traps) (traps_between (own depth x) others)

further : (o p : Option ℕ) → Found (λ k l. k ≡ l) o p → Found (λ k l. k ≡ l) (option_map (λ k. k + 1) o) (option_map (λ k. k + 1) p)
further None p is = tt
further (Some k) (Some l) is = ap (λ k. k + 1) is
further (Some k) None is = is

pub exits-more : (depth : ℕ) (traps others : List (List ℕ)) (name : List ℕ) → ExitsStay depth traps others
    → ExitsStay depth (name ∷ traps) (own depth name ∷ others)
exits-more depth traps others name stay x =
    subst (λ b. Found (λ k l. k ≡ l) (traps_between x (name ∷ traps)) (if b then Some 0 else option_map (λ k. k + 1) (traps_between (own depth x) others)))
    (sym (own-same depth x name)) (by (is_same_name x name))
  where
    by : (b : Bool) → Found (λ k l. k ≡ l) (if b then Some 0 else option_map (λ k. k + 1) (traps_between x traps))
        (if b then Some 0 else option_map (λ k. k + 1) (traps_between (own depth x) others))
    by true = refl
    by false = further (traps_between x traps) (traps_between (own depth x) others) (stay x)

pub exit_of-follows : (depth : ℕ) (traps others : List (List ℕ)) (name : Name) → ExitsStay depth traps others
    → Follows (λ k l. k ≡ l) (exit_of traps name) (exit_of others (name_by (own depth) name))
exit_of-follows depth traps others name stay =
    found_or-follows (λ k l. k ≡ l) (UnknownTrap name.span) (UnknownTrap name.span) (traps_between name.text traps)
    (traps_between (own depth name.text) others) refl (stay name.text)

-- ---- signals

module _ (inputs : ℕ) where
  -- The same signal. In the inlined module it is an input only if the main module has it as one.
  pub record Same (m k : Meaning) : Type 0 where
    pub signal : m.signal ≡ k.signal
    pub given : (k.input || nat_lt k.signal inputs) ≡ nat_lt k.signal inputs

  -- each name means the signal that the name means which it becomes
  abbrev pub Means : (List ℕ → List ℕ) → NameScope → NameScope → Type 0
  Means becomes scope other = (x : List ℕ) → Found Same (meaning scope x) (meaning other (becomes x))

  abbrev local_signal : ℕ → Meaning
  local_signal s = record { signal = s; input = false }

  regroup : {A : Type 0} (p q : Bool) (a b : A) → (if q then a else if p then a else b) ≡ (if p || q then a else b)
  regroup true true a b = refl
  regroup true false a b = refl
  regroup false true a b = refl
  regroup false false a b = refl

  means-one : (here : Place) (scope other : NameScope) (name : List ℕ) (next more : ℕ) → Apart here → next ≡ more → Means here.becomes scope other
      → Means (λ x. if is_same_name x name then own here.depth x else here.becomes x) ((name, local_signal next) ∷ scope)
      ((own here.depth name, local_signal more) ∷ other)
  means-one here scope other name next more apart same means x = by (is_same_name x name) refl
    where
      by : (b : Bool) → is_same_name x name ≡ b
          → Found Same (if b then Some (local_signal next) else meaning scope x)
          (meaning ((own here.depth name, local_signal more) ∷ other) (if b then own here.depth x else here.becomes x))
      by true is =
          subst (λ b. Found Same (Some (local_signal next)) (if b then Some (local_signal more) else meaning other (own here.depth x)))
          (sym (own-same here.depth x name ∙ is)) (record { signal = same; given = refl })
      by false is =
          subst (λ b. Found Same (meaning scope x) (if b then Some (local_signal more) else meaning other (here.becomes x)))
          (sym (apart.here_own x name is)) (means x)

  apart-one : (here : Place) (name : List ℕ) → Apart here
      → Apart (record here { becomes = λ x. if is_same_name x name then own here.depth x else here.becomes x })
  apart-one here name apart = record {
    here_own = λ x y differ. inside x y differ (is_same_name x name);
    below = λ x y deeper low. beneath x y deeper low (is_same_name x name);
  }
    where
      inside : (x y : List ℕ) → is_same_name x y ≡ false → (b : Bool)
          → is_same_name (if b then own here.depth x else here.becomes x) (own here.depth y) ≡ false
      inside x y differ true = own-same here.depth x y ∙ differ
      inside x y differ false = apart.here_own x y differ

      beneath : (x y : List ℕ) (deeper : ℕ) → here.depth < deeper → (b : Bool)
          → is_same_name (if b then own here.depth x else here.becomes x) (own deeper y) ≡ false
      beneath x y deeper low true = own-apart here.depth deeper x y low
      beneath x y deeper low false = apart.below x y deeper low

  pub means-binders : (names : List (List ℕ)) (next more : ℕ) (here : Place) (scope other : NameScope) → Apart here → next ≡ more
      → Means here.becomes scope other
      → Means (inside_binders names here).becomes (binding false names next scope) (binding false (map (own here.depth) names) more other)
  means-binders [] next more here scope other apart same means x = means x
  means-binders (name ∷ names) next more here scope other apart same means x =
      let one : Place = record here { becomes = λ x. if is_same_name x name then own here.depth x else here.becomes x } in
      subst (λ n. Found Same (meaning (binding false (name ∷ names) next scope) x) (meaning (binding false (map (own here.depth) (name ∷ names)) more other) n))
      (regroup (is_same_name x name) (is_among x names) (own here.depth x) (here.becomes x))
      (means-binders names (next + 1) (more + 1) one ((name, local_signal next) ∷ scope) ((own here.depth name, local_signal more) ∷ other)
      (apart-one here name apart) (ap (λ k. k + 1) same) (means-one here scope other name next more apart same means) x)

  -- ---- tests and what is emitted

  module _ (becomes : List ℕ → List ℕ) (scope other : NameScope) (means : Means becomes scope other) where
    signal_of-follows : (name : Name) → Follows Same (signal_of scope name) (signal_of other (name_by becomes name))
    signal_of-follows name =
        found_or-follows Same (UnknownSignal name.span) (UnknownSignal name.span) (meaning scope name.text) (meaning other (becomes name.text)) refl
        (means name.text)

    pub emitted-follows : (name : Name) → Follows (λ s t. s ≡ t) (emitted inputs scope name) (emitted inputs other (name_by becomes name))
    emitted-follows name =
        on_ok-follows Same (λ s t. s ≡ t) (signal_of scope name) (signal_of other (name_by becomes name)) _ _ (signal_of-follows name) (λ m k same.
        by m k same m.input (nat_lt m.signal inputs) (k.input || nat_lt k.signal inputs)
        (ap (λ s. nat_lt s inputs) same.signal ∙ sym same.given))
      where
        by : (m k : Meaning) → Same m k → (a b c : Bool) → b ≡ c
            → Follows (λ s t. s ≡ t) (if a || b then Err (EmitInput name.span) else Ok m.signal) (if c then Err (EmitInput name.span) else Ok k.signal)
        by m k same true b true is = λ limit. refl
        by m k same true b false is = refl
        by m k same false true true is = λ limit. refl
        by m k same false true false is = absurd (cc)
        by m k same false false true is = absurd (cc)
        by m k same false false false is = same.signal

    mutual
      pub test-follows : (e : Expr) → Follows (λ a b. a ≡ b) (test scope e) (test other (test_by becomes e))
      test-follows (Tick span) = refl
      test-follows (Sig name) =
          on_ok-follows Same (λ a b. a ≡ b) (signal_of scope name) (signal_of other (name_by becomes name)) _ _ (signal_of-follows name)
          (λ m k same. ap flat.Sig same.signal)
      test-follows (Not e) =
          on_ok-follows (λ a b. a ≡ b) (λ a b. a ≡ b) (test scope e) (test other (test_by becomes e)) _ _ (test-follows e) (λ a b is. ap flat.Not is)
      test-follows (And es) =
          on_ok-follows (λ a b. a ≡ b) (λ a b. a ≡ b) (tests scope es) (tests other (tests_by becomes es)) _ _ (tests-follow es) (λ a b is. ap flat.And is)
      test-follows (Or es) =
          on_ok-follows (λ a b. a ≡ b) (λ a b. a ≡ b) (tests scope es) (tests other (tests_by becomes es)) _ _ (tests-follow es) (λ a b is. ap flat.Or is)
      test-follows (Round e) = test-follows e
      test-follows (Square e) = test-follows e

      tests-follow : (es : Exprs) → Follows (λ a b. a ≡ b) (tests scope es) (tests other (tests_by becomes es))
      tests-follow NoExprs = refl
      tests-follow (MoreExprs e es) =
          on_ok-follows (λ a b. a ≡ b) (λ a b. a ≡ b) (test scope e) (test other (test_by becomes e)) _ _ (test-follows e) (λ a b is.
          on_ok-follows (λ a b. a ≡ b) (λ a b. a ≡ b) (tests scope es) (tests other (tests_by becomes es)) _ _ (tests-follow es) (λ us vs are.
          ap (λ x. flat.MoreExprs x us) is ∙ ap (flat.MoreExprs b) are))

    pub awaited-follows : (d : Delay) → Follows (λ a b. a ≡ b) (awaited scope d) (awaited other (delay_by becomes d))
    awaited-follows (Plain e) =
        on_ok-follows (λ a b. a ≡ b) (λ a b. a ≡ b) (test scope e) (test other (test_by becomes e)) _ _ (test-follows e) (λ a b is. ap flat.Plain is)
    awaited-follows (Immediate e) =
        on_ok-follows (λ a b. a ≡ b) (λ a b. a ≡ b) (test scope e) (test other (test_by becomes e)) _ _ (test-follows e) (λ a b is. ap flat.Immediate is)
    awaited-follows (Count count span e) =
        on_ok-follows (λ a b. a ≡ b) (λ a b. a ≡ b) (test scope e) (test other (test_by becomes e)) _ _ (test-follows e)
        (λ a b is. ap (flat.Count count span) is)

-- ---- runs

-- A formal that is renamed means what its actual means.
renamed-means : (formals : List Formal) (scope given : NameScope) (renames : List Rename) (result : NameScope) → renamed formals scope given renames ≡ Ok result
    → (x : List ℕ) → option_or (meaning result x) (meaning scope x) ≡ option_or (meaning given x) (meaning scope (actual renames x))
renamed-means formals scope given [] result is x =
    let same : given ≡ result = cc in ap (λ g. option_or (meaning g x) (meaning scope x)) (sym same)
renamed-means formals scope given (r ∷ rs) result is x =
    by (is_among r.formal.text (formal_names formals)) (meaning given r.formal.text) refl (meaning scope r.actual.text) refl is
    (λ a. renamed-means formals scope ((r.formal.text, a) ∷ given) rs result)
  where
    -- the first renaming of a formal gives its actual, and others pass by
    found : (o : Option Meaning) → meaning given r.formal.text ≡ o → is_some o ≡ false → (a : Meaning) → meaning scope r.actual.text ≡ Some a → (b : Bool)
        → is_same_name x r.formal.text ≡ b
        → option_or (if b then Some a else meaning given x) (meaning scope (actual rs x))
        ≡ option_or (meaning given x) (meaning scope (if b then r.actual.text else actual rs x))
    found (Some k) before new a means b same = absurd (cc)
    found None before new a means true same =
        sym (ap (λ n. option_or (meaning given n) (meaning scope r.actual.text)) (same_name-is x r.formal.text same)
        ∙ ap (λ o. option_or o (meaning scope r.actual.text)) before ∙ means)
    found None before new a means false same = refl

    by : (among : Bool) (o : Option Meaning) → meaning given r.formal.text ≡ o → (p : Option Meaning) → meaning scope r.actual.text ≡ p
        → (if among && not (is_some o) then on_ok (found_or (UnknownSignal r.actual.span) p)
        (λ a. renamed formals scope ((r.formal.text, a) ∷ given) rs) else Err (BadRename r.formal.span)) ≡ Ok result
        → ((a : Meaning) → renamed formals scope ((r.formal.text, a) ∷ given) rs ≡ Ok result → (x : List ℕ)
        → option_or (meaning result x) (meaning scope x) ≡ option_or (meaning ((r.formal.text, a) ∷ given) x) (meaning scope (actual rs x)))
        → option_or (meaning result x) (meaning scope x) ≡ option_or (meaning given x) (meaning scope (actual (r ∷ rs) x))
    by true None before (Some a) means gives others = others a gives x ∙ found None before refl a means (is_same_name x r.formal.text) refl
    by true None before None means gives others = absurd (cc)
    by true (Some k) before p means gives others = absurd (cc)
    by false o before p means gives others = absurd (cc)

abbrev SameSignal : Meaning → Meaning → Type 0
SameSignal m k = m.signal ≡ k.signal

same-self : (o : Option Meaning) → Found SameSignal o o
same-self None = tt
same-self (Some m) = refl

-- A formal means what it is given, or else what its own name means at the `run`, and another name what it meant.
opened-means : (place : Span) (scope given inner : NameScope) (formals : List Formal) (result : NameScope) → opened place scope given inner formals ≡ Ok result
    → (x : List ℕ) → Found SameSignal (meaning inner x) (option_or (meaning given x) (meaning scope x))
    → Found SameSignal (meaning result x) (option_or (meaning given x) (meaning scope x))
opened-means place scope given inner [] result is x before =
    let same : inner ≡ result = cc in subst (λ s. Found SameSignal (meaning s x) (option_or (meaning given x) (meaning scope x))) same before
opened-means place scope given inner (f ∷ fs) result is x before =
    by (option_or (meaning given f.name) (meaning scope f.name)) refl is
    (λ a opens. opened-means place scope given ((f.name, record { signal = a.signal; input = f.input }) ∷ inner) fs result opens x)
  where
    step : (a : Meaning) → option_or (meaning given f.name) (meaning scope f.name) ≡ Some a → (b : Bool) → is_same_name x f.name ≡ b
        → Found SameSignal (if b then Some (record { signal = a.signal; input = f.input }) else meaning inner x)
        (option_or (meaning given x) (meaning scope x))
    step a means true same =
        subst (λ o. Found SameSignal (Some (record { signal = a.signal; input = f.input })) o)
        (sym (ap (λ n. option_or (meaning given n) (meaning scope n)) (same_name-is x f.name same) ∙ means)) refl
    step a means false same = before

    by : (o : Option Meaning) → option_or (meaning given f.name) (meaning scope f.name) ≡ o
        → on_ok (found_or (Unbound place f.name) o) (λ a. opened place scope given ((f.name, record { signal = a.signal; input = f.input }) ∷ inner) fs)
        ≡ Ok result
        → ((a : Meaning) → opened place scope given ((f.name, record { signal = a.signal; input = f.input }) ∷ inner) fs ≡ Ok result
        → Found SameSignal (meaning ((f.name, record { signal = a.signal; input = f.input }) ∷ inner) x) (option_or (meaning given x) (meaning scope x))
        → Found SameSignal (meaning result x) (option_or (meaning given x) (meaning scope x)))
        → Found SameSignal (meaning result x) (option_or (meaning given x) (meaning scope x))
    by None means opens others = absurd (cc)
    by (Some a) means opens others = others a opens (step a means (is_same_name x f.name) refl)

-- what is no formal means nothing
opened-alone : (place : Span) (scope given inner : NameScope) (formals : List Formal) (result : NameScope) → opened place scope given inner formals ≡ Ok result
    → (x : List ℕ) → is_among x (formal_names formals) ≡ false → meaning result x ≡ meaning inner x
opened-alone place scope given inner [] result is x out = let same : inner ≡ result = cc in ap (λ s. meaning s x) (sym same)
opened-alone place scope given inner (f ∷ fs) result is x out =
    by (option_or (meaning given f.name) (meaning scope f.name)) is (is_same_name x f.name) (is_among x (formal_names fs)) refl refl out
    (λ a opens. opened-alone place scope given ((f.name, record { signal = a.signal; input = f.input }) ∷ inner) fs result opens x)
  where
    by : (o : Option Meaning)
        → on_ok (found_or (Unbound place f.name) o) (λ a. opened place scope given ((f.name, record { signal = a.signal; input = f.input }) ∷ inner) fs)
        ≡ Ok result
        → (b c : Bool) → is_same_name x f.name ≡ b → is_among x (formal_names fs) ≡ c → (b || c) ≡ false
        → ((a : Meaning) → opened place scope given ((f.name, record { signal = a.signal; input = f.input }) ∷ inner) fs ≡ Ok result
        → is_among x (formal_names fs) ≡ false → meaning result x ≡ meaning ((f.name, record { signal = a.signal; input = f.input }) ∷ inner) x)
        → meaning result x ≡ meaning inner x
    by None opens b c same among none others = absurd (cc)
    by (Some a) opens true c same among none others = absurd (cc)
    by (Some a) opens false true same among none others = absurd (cc)
    by (Some a) opens false false same among none others =
        others a opens among ∙ ap (λ b. if b then Some (record { signal = a.signal; input = f.input }) else meaning inner x) same

-- the scope of a module's body, and what the names in it become
pub means-module : (inputs : ℕ) (m : Module) (renames : List Rename) (here : Place) (scope other given result : NameScope) (place : Span)
    → renamed (interface m) scope [] renames ≡ Ok given
    → opened place scope given [] (interface m) ≡ Ok result
    → Means inputs here.becomes scope other
    → Means inputs (inside_module m renames here).becomes result other
means-module inputs m renames here scope other given result place gives opens means x = by (is_among x (formal_names (interface m))) refl
  where
    through : (o p q : Option Meaning) → Found SameSignal o p → Found (Same inputs) p q → Found (Same inputs) o q
    through None p q first second = tt
    through (Some a) None q first second = absurd first
    through (Some a) (Some b) None first second = second
    through (Some a) (Some b) (Some c) first second = record { signal = first ∙ second.signal; given = second.given }

    by : (b : Bool) → is_among x (formal_names (interface m)) ≡ b
        → Found (Same inputs) (meaning result x) (meaning other (if b then here.becomes (actual renames x) else own (here.depth + 1) x))
    by true there =
        through (meaning result x) (meaning scope (actual renames x)) (meaning other (here.becomes (actual renames x)))
        (subst (λ o. Found SameSignal (meaning result x) o) (renamed-means (interface m) scope [] renames given gives x)
        (opened-means place scope given [] (interface m) result opens x tt)) (means (actual renames x))
    by false out =
        subst (λ o. Found (Same inputs) o (meaning other (own (here.depth + 1) x)))
        (sym (opened-alone place scope given [] (interface m) result opens x out)) tt

-- ---- what a `run` asks for is no limit

pub no_limit-chain_with : (chain : List (List ℕ)) (name : Name) → NoLimit (chain_with chain name)
no_limit-chain_with chain name = no_limit-if (is_among name.text chain) _ _ (no_limit-Err _ refl) (no_limit-Ok _)

pub no_limit-renamed : (formals : List Formal) (scope given : NameScope) (renames : List Rename) → NoLimit (renamed formals scope given renames)
no_limit-renamed formals scope given [] = no_limit-Ok given
no_limit-renamed formals scope given (r ∷ rs) =
    no_limit-if (is_among r.formal.text (formal_names formals) && not (is_some (meaning given r.formal.text))) _ _
    (no_limit-on_ok (signal_of scope r.actual) _ (no_limit-found_or (UnknownSignal r.actual.span) (meaning scope r.actual.text) refl)
    (λ a. no_limit-renamed formals scope ((r.formal.text, a) ∷ given) rs)) (no_limit-Err _ refl)

pub no_limit-opened : (place : Span) (scope given inner : NameScope) (formals : List Formal) → NoLimit (opened place scope given inner formals)
no_limit-opened place scope given inner [] = no_limit-Ok inner
no_limit-opened place scope given inner (f ∷ fs) =
    no_limit-on_ok (found_or (Unbound place f.name) (option_or (meaning given f.name) (meaning scope f.name))) _
    (no_limit-found_or (Unbound place f.name) (option_or (meaning given f.name) (meaning scope f.name)) refl)
    (λ a. no_limit-opened place scope given ((f.name, record { signal = a.signal; input = f.input }) ∷ inner) fs)

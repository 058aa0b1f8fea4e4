-- Inner: what names mean where their binders stand beside one another.
use Rattle.std.proofs.Common.{◌≡◌, ℕ, ◌+◌, ◌||◌, ◌&&◌, Bool, true, false, cond, List, [], ◌∷◌, map, length, refl, ap, sym, ◌∙◌, nat_lt, Option, Some, None}
use Rattle.std.proofs.Common.{Result, Ok, Err, arith}
use Rattle.std.specs.Prelude.{not, find, if◌then◌else◌, is_some}
use Rattle.std.specs.Option.{option_map, option_or}
use Rattle.std.specs.List.{list_all}
use Rattle.std.specs.Cmp.Lexicographic.{nat_list_eq_equiv}
use Rattle.std.proofs.lemmas.Bool.{or_left}
use Rattle.base_types.specs.declared.place.Span.{Span}
use Rattle.base_types.specs.Names.{is_same_name}
use Rattle.base_types.proofs.Exports.{same_name-is}
use Rattle.est_ast.specs.declared.trees.Name.{Name}
use Rattle.est_ast.specs.declared.trees.Rename.{Rename}
use Rattle.est_ast.specs.FlatTrees as flat
use Rattle.est_ast.specs.Trees.{Expr, Exprs, Delay, Module, SourceProgram}
use Rattle.est_names.specs.Names.{is_among}
use Rattle.est_expand.specs.declared.scope.Meaning.{Meaning}
use Rattle.est_expand.specs.Faults.{FlattenFault, UnknownModule, BadRename, UnknownSignal, Unbound, UnknownTrap, EmitInput}
use Rattle.est_expand.specs.Scopes.{NameScope, meaning, binding, Formal, interface}
use Rattle.est_expand.specs.Walks.{on_ok}
use Rattle.est_expand.specs.Tests.{found_or, signal_of, test, tests, awaited}
use Rattle.est_expand.specs.Runs.{module_named, formal_names, renamed, opened}
use Rattle.est_expand.specs.Flattening.{numbers, traps_between, exit_of, emitted}
use Rattle.est_expand.specs.Renaming.{Pairs, are_same, beside, SameName, SameExpr, BothTick, BothSig, BothNot, BothAnd, BothOr, BothRound, BothSquare}
use Rattle.est_expand.specs.Renaming.{SameExprs, BothNoExprs, BothMoreExprs, SameDelay, BothPlain, BothImmediate, BothCount, both_formals, SameRenames}
use Rattle.est_expand.specs.Renaming.{BothNoRenames, BothMoreRenames, is_same_formal, SameRun, SameModule, SameModules, BothNoModules, BothMoreModules}
use Rattle.est_expand.specs.Renaming.{without_formal, BothAre}

-- ---- results

pub on_ok-both : {A B C D : Type 0} (R : A → B → Type 0) (Q : C → D → Type 0) (r : Result A FlattenFault) (s : Result B FlattenFault)
    (next : A → Result C FlattenFault) (more : B → Result D FlattenFault)
    → BothAre R r s → ((a : A) (b : B) → R a b → BothAre Q (next a) (more b)) → BothAre Q (on_ok r next) (on_ok s more)
on_ok-both R Q (Ok a) (Ok b) next more same on = on a b same
on_ok-both R Q (Ok a) (Err g) next more same on = absurd same
on_ok-both R Q (Err f) (Ok b) next more same on = absurd same
on_ok-both R Q (Err f) (Err g) next more same on = same

both-weaker : {A B : Type 0} (R Q : A → B → Type 0) (r : Result A FlattenFault) (s : Result B FlattenFault)
    → ((a : A) (b : B) → R a b → Q a b) → BothAre R r s → BothAre Q r s
both-weaker R Q (Ok a) (Ok b) weaker same = weaker a b same
both-weaker R Q (Ok a) (Err g) weaker same = same
both-weaker R Q (Err f) (Ok b) weaker same = same
both-weaker R Q (Err f) (Err g) weaker same = same

pub both-refl : {A : Type 0} (r : Result A FlattenFault) → BothAre (λ a b. a ≡ b) r r
both-refl (Ok a) = refl
both-refl (Err f) = refl

found_or-both : {A : Type 0} (f g : FlattenFault) (o p : Option A) → without_formal f ≡ without_formal g → o ≡ p
    → BothAre (λ a b. a ≡ b) (found_or f o) (found_or g p)
found_or-both f g (Some a) (Some b) fault same = cc
found_or-both f g (Some a) None fault same = absurd (cc)
found_or-both f g None (Some b) fault same = absurd (cc)
found_or-both f g None None fault same = fault

pub if-both : {A B : Type 0} (R : A → B → Type 0) (b c : Bool) (r : Result A FlattenFault) (s : Result B FlattenFault) (f g : FlattenFault)
    → without_formal f ≡ without_formal g → b ≡ c → BothAre R r s → BothAre R (if b then r else Err f) (if c then s else Err g)
if-both R true true r s f g fault is same = same
if-both R true false r s f g fault is same = absurd (cc)
if-both R false true r s f g fault is same = absurd (cc)
if-both R false false r s f g fault is same = fault

-- ---- names

-- the nearest binders of two names that are the same: both or none
pair_alike : (p q rest : Bool) → (if p || q then p && q else rest) ≡ true → p ≡ q
pair_alike true true rest is = refl
pair_alike true false rest is = absurd (cc)
pair_alike false true rest is = absurd (cc)
pair_alike false false rest is = refl

pair_passed : (p q rest : Bool) → (if p || q then p && q else rest) ≡ true → p ≡ false → rest ≡ true
pair_passed true q rest is apart = absurd (cc)
pair_passed false true rest is apart = absurd (cc)
pair_passed false false rest is apart = is

-- a name has one name that is the same
are_same-one : (pairs : Pairs) (a b x y : List ℕ) → are_same pairs a b ≡ true → are_same pairs x y ≡ true
    → is_same_name a x ≡ is_same_name b y
are_same-one [] a b x y ab xy = ap (λ n. is_same_name n x) (same_name-is a b ab) ∙ ap (is_same_name b) (same_name-is x y xy)
are_same-one (pair ∷ pairs) a b x y ab xy =
    by (is_same_name a u) (is_same_name x u) refl refl
    (are_same-one pairs a b x y)
  where
    u : List ℕ
    u = pair.0

    v : List ℕ
    v = pair.1

    bv : is_same_name a u ≡ is_same_name b v
    bv = pair_alike (is_same_name a u) (is_same_name b v) (are_same pairs a b) ab

    yv : is_same_name x u ≡ is_same_name y v
    yv = pair_alike (is_same_name x u) (is_same_name y v) (are_same pairs x y) xy

    by : (p q : Bool) → is_same_name a u ≡ p → is_same_name x u ≡ q
        → (are_same pairs a b ≡ true → are_same pairs x y ≡ true → is_same_name a x ≡ is_same_name b y) → is_same_name a x ≡ is_same_name b y
    by true q au xu others =
        nat_list_eq_equiv.congr a u x au ∙ nat_list_eq_equiv.symm u x ∙ yv ∙ nat_list_eq_equiv.symm y v ∙ sym (nat_list_eq_equiv.congr b v y (sym bv ∙ au))
    by false true au xu others =
        nat_list_eq_equiv.symm a x ∙ nat_list_eq_equiv.congr x u a xu ∙ nat_list_eq_equiv.symm u a ∙ bv ∙ nat_list_eq_equiv.symm b v
        ∙ sym (nat_list_eq_equiv.congr y v b (sym yv ∙ xu)) ∙ nat_list_eq_equiv.symm y b
    by false false au xu others =
        others (pair_passed (is_same_name a u) (is_same_name b v) (are_same pairs a b) ab au)
        (pair_passed (is_same_name x u) (is_same_name y v) (are_same pairs x y) xy xu)

-- binders of both have names that are the same, or none has
bound_alike : (pairs : Pairs) (a b : List ℕ) → are_same pairs a b ≡ true → is_among a (map (λ p. p.0) pairs) ≡ is_among b (map (λ p. p.1) pairs)
bound_alike [] a b is = refl
bound_alike (pair ∷ pairs) a b is =
    by (is_same_name a pair.0) (is_same_name b pair.1) is (bound_alike pairs a b)
  where
    by : (p q : Bool) → (if p || q then p && q else are_same pairs a b) ≡ true
        → (are_same pairs a b ≡ true → is_among a (map (λ p. p.0) pairs) ≡ is_among b (map (λ p. p.1) pairs))
        → (p || is_among a (map (λ p. p.0) pairs)) ≡ (q || is_among b (map (λ p. p.1) pairs))
    by true true is others = refl
    by true false is others = absurd (cc)
    by false true is others = absurd (cc)
    by false false is others = others is

or_move : (a b c : Bool) → ((a || b) || c) ≡ (b || (a || c))
or_move true true c = refl
or_move true false c = refl
or_move false b c = refl

beside-among : (names others : List (List ℕ)) (pairs : Pairs) (a b : List ℕ) → length names ≡ length others → are_same (beside names others pairs) a b ≡ true
    → (is_among a names || is_among a (map (λ p. p.0) pairs)) ≡ (is_among b others || is_among b (map (λ p. p.1) pairs))
beside-among [] [] pairs a b long is = bound_alike pairs a b is
beside-among [] (y ∷ ys) pairs a b long is = absurd (omega (arith, long))
beside-among (x ∷ xs) [] pairs a b long is = absurd (omega (arith, long))
beside-among (x ∷ xs) (y ∷ ys) pairs a b long is =
    let more : length xs ≡ length ys = omega (arith, long) in
    or_move (is_same_name a x) (is_among a xs) (is_among a (map (λ p. p.0) pairs)) ∙ beside-among xs ys ((x, y) ∷ pairs) a b more is
    ∙ sym (or_move (is_same_name b y) (is_among b ys) (is_among b (map (λ p. p.1) pairs)))

-- what holds of all pairs of binders
all_beside : (f : List ℕ × List ℕ → Bool) (names others : List (List ℕ)) (pairs : Pairs) → list_all f (beside names others pairs) ≡ true →
    list_all f pairs ≡ true
all_beside f [] others pairs all = all
all_beside f (x ∷ xs) [] pairs all = all
all_beside f (x ∷ xs) (y ∷ ys) pairs all = second (f (x, y)) (list_all f pairs) (all_beside f xs ys ((x, y) ∷ pairs) all)
  where
    second : (a b : Bool) → (a && b) ≡ true → b ≡ true
    second true b is = is
    second false b is = absurd (cc)

nearest_beside : (f : List ℕ × List ℕ → Bool) (x y : List ℕ) (names others : List (List ℕ)) (pairs : Pairs)
    → list_all f (beside names others ((x, y) ∷ pairs)) ≡ true → f (x, y) ≡ true
nearest_beside f x y names others pairs all = first (f (x, y)) (list_all f pairs) (all_beside f names others ((x, y) ∷ pairs) all)
  where
    first : (a b : Bool) → (a && b) ≡ true → a ≡ true
    first true b is = refl
    first false b is = absurd (cc)

-- ---- scopes

-- names that are the same mean the same
abbrev pub Agree : Pairs → NameScope → NameScope → Type 0
Agree pairs scope other = (a b : List ℕ) → are_same pairs a b ≡ true → meaning scope a ≡ meaning other b

pub agree-none : Agree [] [] []
agree-none a b is = refl

pub agree-self : (scope : NameScope) → Agree [] scope scope
agree-self scope a b is = ap (meaning scope) (same_name-is a b is)

agree-more : (pairs : Pairs) (scope other : NameScope) (x y : List ℕ) (m n : Meaning) → m ≡ n → Agree pairs scope other
    → Agree ((x, y) ∷ pairs) ((x, m) ∷ scope) ((y, n) ∷ other)
agree-more pairs scope other x y m n same agree a b is = by (is_same_name a x) (is_same_name b y) is
  where
    by : (p q : Bool) → (if p || q then p && q else are_same pairs a b) ≡ true →
        (if p then Some m else meaning scope a) ≡ (if q then Some n else meaning other b)
    by true true is = ap Some same
    by true false is = absurd (cc)
    by false true is = absurd (cc)
    by false false is = agree a b is

abbrev meant : Bool → ℕ → Meaning
meant input s = record { signal = s; input = input }

pub agree-binding : (pairs : Pairs) (input : Bool) (names others : List (List ℕ)) (next more : ℕ) (scope other : NameScope) → length names ≡ length others →
    next ≡ more
    → Agree pairs scope other → Agree (beside names others pairs) (binding input names next scope) (binding input others more other)
agree-binding pairs input [] [] next more scope other long same agree = agree
agree-binding pairs input [] (y ∷ ys) next more scope other long same agree = absurd (omega (arith, long))
agree-binding pairs input (x ∷ xs) [] next more scope other long same agree = absurd (omega (arith, long))
agree-binding pairs input (x ∷ xs) (y ∷ ys) next more scope other long same agree =
    let less : length xs ≡ length ys = omega (arith, long) in
    agree-binding ((x, y) ∷ pairs) input xs ys (next + 1) (more + 1) ((x, meant input next) ∷ scope) ((y, meant input more) ∷ other) less (ap (λ k. k + 1) same)
    (agree-more pairs scope other x y (meant input next) (meant input more) (ap (meant input) same) agree)

pub numbers-alike : (names others : List (List ℕ)) (next more : ℕ) → length names ≡ length others → next ≡ more → numbers next names ≡ numbers more others
numbers-alike [] [] next more long same = refl
numbers-alike [] (y ∷ ys) next more long same = absurd (omega (arith, long))
numbers-alike (x ∷ xs) [] next more long same = absurd (omega (arith, long))
numbers-alike (x ∷ xs) (y ∷ ys) next more long same =
    let less : length xs ≡ length ys = omega (arith, long) in
    ap (λ k. k ∷ numbers (next + 1) xs) same ∙ ap (λ ks. more ∷ ks) (numbers-alike xs ys (next + 1) (more + 1) less (ap (λ k. k + 1) same))

-- ---- traps

abbrev pub AgreeTraps : Pairs → List (List ℕ) → List (List ℕ) → Type 0
AgreeTraps pairs traps others = (a b : List ℕ) → are_same pairs a b ≡ true → traps_between a traps ≡ traps_between b others

pub agree_traps-none : AgreeTraps [] [] []
agree_traps-none a b is = refl

pub agree_traps-more : (pairs : Pairs) (traps others : List (List ℕ)) (x y : List ℕ) → AgreeTraps pairs traps others →
    AgreeTraps ((x, y) ∷ pairs) (x ∷ traps) (y ∷ others)
agree_traps-more pairs traps others x y agree a b is = by (is_same_name a x) (is_same_name b y) is
  where
    by : (p q : Bool) → (if p || q then p && q else are_same pairs a b) ≡ true
        → (if p then Some 0 else option_map (λ k. k + 1) (traps_between a traps)) ≡ (if q then Some 0 else option_map (λ k. k + 1) (traps_between b others))
    by true true is = refl
    by true false is = absurd (cc)
    by false true is = absurd (cc)
    by false false is = ap (option_map (λ k. k + 1)) (agree a b is)

pub exit_of-both : (pairs : Pairs) (traps others : List (List ℕ)) (n m : Name) → AgreeTraps pairs traps others → SameName pairs n m
    → BothAre (λ a b. a ≡ b) (exit_of traps n) (exit_of others m)
exit_of-both pairs traps others n m agree same =
    found_or-both (UnknownTrap n.span) (UnknownTrap m.span) (traps_between n.text traps) (traps_between m.text others) (ap UnknownTrap same.place)
    (agree n.text m.text same.same)

-- ---- signals and tests

module _ (pairs : Pairs) (scope other : NameScope) (agree : Agree pairs scope other) where
  signal_of-both : (n m : Name) → SameName pairs n m → BothAre (λ a b. a ≡ b) (signal_of scope n) (signal_of other m)
  signal_of-both n m same =
      found_or-both (UnknownSignal n.span) (UnknownSignal m.span) (meaning scope n.text) (meaning other m.text) (ap UnknownSignal same.place)
      (agree n.text m.text same.same)

  pub emitted-both : (inputs : ℕ) (n m : Name) → SameName pairs n m → BothAre (λ a b. a ≡ b) (emitted inputs scope n) (emitted inputs other m)
  emitted-both inputs n m same =
      on_ok-both (λ a b. a ≡ b) (λ a b. a ≡ b) (signal_of scope n) (signal_of other m) _ _ (signal_of-both n m same) (λ s t is.
      by s t is (s.input || nat_lt s.signal inputs) (t.input || nat_lt t.signal inputs) (ap (λ (k : Meaning). k.input || nat_lt k.signal inputs) is))
    where
      by : (s t : Meaning) → s ≡ t → (b c : Bool) → b ≡ c
          → BothAre (λ a b. a ≡ b) (if b then Err (EmitInput n.span) else Ok s.signal) (if c then Err (EmitInput m.span) else Ok t.signal)
      by s t is true true both = ap EmitInput same.place
      by s t is true false both = absurd (cc)
      by s t is false true both = absurd (cc)
      by s t is false false both = ap (λ (k : Meaning). k.signal) is

  mutual
    pub test-both : {e f : Expr} → SameExpr pairs e f → BothAre (λ a b. a ≡ b) (test scope e) (test other f)
    test-both (BothTick span) = refl
    test-both (BothSig {n = n} {m = m} same) =
        on_ok-both (λ a b. a ≡ b) (λ a b. a ≡ b) (signal_of scope n) (signal_of other m) _ _ (signal_of-both n m same)
        (λ s t is. ap (λ (k : Meaning). flat.Sig k.signal) is)
    test-both (BothNot {e = e} {f = f} same) = on_ok-both (λ a b. a ≡ b) (λ a b. a ≡ b) (test scope e) (test other f) _ _ (test-both same)
        (λ a b is. ap flat.Not is)
    test-both (BothAnd {es = es} {fs = fs} same) = on_ok-both (λ a b. a ≡ b) (λ a b. a ≡ b) (tests scope es) (tests other fs) _ _ (tests-both same)
        (λ a b is. ap flat.And is)
    test-both (BothOr {es = es} {fs = fs} same) = on_ok-both (λ a b. a ≡ b) (λ a b. a ≡ b) (tests scope es) (tests other fs) _ _ (tests-both same)
        (λ a b is. ap flat.Or is)
    test-both (BothRound same) = test-both same
    test-both (BothSquare same) = test-both same

    tests-both : {es fs : Exprs} → SameExprs pairs es fs → BothAre (λ a b. a ≡ b) (tests scope es) (tests other fs)
    tests-both BothNoExprs = refl
    tests-both (BothMoreExprs {e = e} {f = f} {es = es} {fs = fs} same others) =
        on_ok-both (λ a b. a ≡ b) (λ a b. a ≡ b) (test scope e) (test other f) _ _ (test-both same) (λ a b is.
        on_ok-both (λ a b. a ≡ b) (λ a b. a ≡ b) (tests scope es) (tests other fs) _ _ (tests-both others) (λ us vs are.
        ap (λ x. flat.MoreExprs x us) is ∙ ap (flat.MoreExprs b) are))

  pub awaited-both : {d e : Delay} → SameDelay pairs d e → BothAre (λ a b. a ≡ b) (awaited scope d) (awaited other e)
  awaited-both (BothPlain {e = e} {f = f} same) = on_ok-both (λ a b. a ≡ b) (λ a b. a ≡ b) (test scope e) (test other f) _ _ (test-both same)
      (λ a b is. ap flat.Plain is)
  awaited-both (BothImmediate {e = e} {f = f} same) =
      on_ok-both (λ a b. a ≡ b) (λ a b. a ≡ b) (test scope e) (test other f) _ _ (test-both same) (λ a b is. ap flat.Immediate is)
  awaited-both (BothCount {e = e} {f = f} count span same) =
      on_ok-both (λ a b. a ≡ b) (λ a b. a ≡ b) (test scope e) (test other f) _ _ (test-both same) (λ a b is. ap (flat.Count count span) is)

-- ---- renamings

abbrev pub renamed_names : List Rename → List (List ℕ)
renamed_names renames = map (λ r. r.formal.text) renames

-- what is in the one scope, and these names, are in the other
abbrev Keeps : List (List ℕ) → NameScope → NameScope → Type 0
Keeps names given inner = (a : List ℕ) → (is_among a names || is_some (meaning given a)) ≡ true → is_some (meaning inner a) ≡ true

keeps-more : (x : List ℕ) (m : Meaning) (names : List (List ℕ)) (given inner : NameScope) → Keeps names ((x, m) ∷ given) inner → Keeps (x ∷ names) given inner
keeps-more x m names given inner keeps a there = keeps a (by (is_same_name a x) (is_among a names) (meaning given a) there)
  where
    or_true : (b : Bool) → (b || true) ≡ true
    or_true true = refl
    or_true false = refl

    by : (p b : Bool) (o : Option Meaning) → ((p || b) || is_some o) ≡ true → (b || is_some (if p then Some m else o)) ≡ true
    by true b o there = or_true b
    by false b o there = there

module _ (formals signals : Pairs) (scope other : NameScope) (agree : Agree signals scope other) where
  given-more : (given given' : NameScope) (x y : List ℕ) (a b : Meaning) → are_same formals x y ≡ true → a ≡ b → Agree formals given given'
      → Agree formals ((x, a) ∷ given) ((y, b) ∷ given')
  given-more given given' x y a b same is agrees p q are =
      ap (λ c. if c then Some a else meaning given p) (are_same-one formals p q x y are same)
      ∙ ap (λ o. if is_same_name q y then Some a else o) (agrees p q are)
      ∙ ap (λ k. if is_same_name q y then Some k else meaning given' q) is

  module _ (ms ns : List Formal) (among : (a b : List ℕ) → are_same formals a b ≡ true → is_among a (formal_names ms) ≡ is_among b (formal_names ns)) where
    abbrev Renamed : List Rename → NameScope → NameScope → NameScope → Type 0
    Renamed renames given g h = Agree formals g h × Keeps (renamed_names renames) given g

    renamed-both : {rs ss : List Rename} → SameRenames formals signals rs ss → (given given' : NameScope) → Agree formals given given'
        → BothAre (Renamed rs given) (renamed ms scope given rs) (renamed ns other given' ss)
    renamed-both BothNoRenames given given' agrees = (agrees, λ a there. there)
    renamed-both (BothMoreRenames {r = r} {s = s} {rs = rs} {ss = ss} formal actual others) given given' agrees =
        if-both (Renamed (r ∷ rs) given) (is_among r.formal.text (formal_names ms) && not (is_some (meaning given r.formal.text)))
        (is_among s.formal.text (formal_names ns) && not (is_some (meaning given' s.formal.text))) _ _ (BadRename r.formal.span) (BadRename s.formal.span)
        (ap BadRename formal.place)
        (ap (λ b. b && not (is_some (meaning given r.formal.text))) (among r.formal.text s.formal.text formal.same)
        ∙ ap (λ o. is_among s.formal.text (formal_names ns) && not (is_some o)) (agrees r.formal.text s.formal.text formal.same))
        (on_ok-both (λ a b. a ≡ b) (Renamed (r ∷ rs) given) (signal_of scope r.actual) (signal_of other s.actual) _ _
        (signal_of-both signals scope other agree r.actual s.actual actual) (λ a b is.
        both-weaker (Renamed rs ((r.formal.text, a) ∷ given)) (Renamed (r ∷ rs) given)
        (renamed ms scope ((r.formal.text, a) ∷ given) rs) (renamed ns other ((s.formal.text, b) ∷ given') ss)
        (λ g h both. (both.0, keeps-more r.formal.text a (renamed_names rs) given g both.1))
        (renamed-both others ((r.formal.text, a) ∷ given) ((s.formal.text, b) ∷ given')
        (given-more given given' r.formal.text s.formal.text a b formal.same is agrees))))

-- ---- the scopes of modules

module _ (f g : List ℕ × List ℕ → Bool) (place : Span) (scope other given given' : NameScope)
    (means : (a b : List ℕ) → f (a, b) ≡ true → g (a, b) ≡ true → option_or (meaning given a) (meaning scope a) ≡
    option_or (meaning given' b) (meaning other b)) where
  opened-both : (ms ns : List Formal) (pairs : Pairs) (inner inner' : NameScope) → map (λ formal. formal.input) ms ≡ map (λ formal. formal.input) ns
      → list_all f (beside (formal_names ms) (formal_names ns) pairs) ≡ true → list_all g (beside (formal_names ms) (formal_names ns) pairs) ≡ true
      → Agree pairs inner inner'
      → BothAre (Agree (beside (formal_names ms) (formal_names ns) pairs)) (opened place scope given inner ms) (opened place other given' inner' ns)
  opened-both [] [] pairs inner inner' alike fs gs agrees = agrees
  opened-both [] (y ∷ ys) pairs inner inner' alike fs gs agrees = absurd (cc)
  opened-both (x ∷ xs) [] pairs inner inner' alike fs gs agrees = absurd (cc)
  opened-both (x ∷ xs) (y ∷ ys) pairs inner inner' alike fs gs agrees =
      let input : x.input ≡ y.input = cc in
      let more : map (λ (formal : Formal). formal.input) xs ≡ map (λ (formal : Formal). formal.input) ys = cc in
      let fits = nearest_beside f x.name y.name (formal_names xs) (formal_names ys) pairs fs in
      let goes = nearest_beside g x.name y.name (formal_names xs) (formal_names ys) pairs gs in
      on_ok-both (λ a b. a ≡ b) (Agree (beside (formal_names xs) (formal_names ys) ((x.name, y.name) ∷ pairs)))
      (found_or (Unbound place x.name) (option_or (meaning given x.name) (meaning scope x.name)))
      (found_or (Unbound place y.name) (option_or (meaning given' y.name) (meaning other y.name))) _ _
      (found_or-both (Unbound place x.name) (Unbound place y.name) (option_or (meaning given x.name) (meaning scope x.name))
      (option_or (meaning given' y.name) (meaning other y.name)) refl (means x.name y.name fits goes)) (λ a b is.
      opened-both xs ys ((x.name, y.name) ∷ pairs) ((x.name, meant x.input a.signal) ∷ inner) ((y.name, meant y.input b.signal) ∷ inner') more fs gs
      (agree-more pairs inner inner' x.name y.name (meant x.input a.signal) (meant y.input b.signal)
      (ap (λ i. meant i a.signal) input ∙ ap (λ (k : Meaning). meant y.input k.signal) is) agrees))

-- a formal that is renamed has its actual, and else the names are the same at the `run`
formal_means : (o s t : Option Meaning) (c d : Bool) → (c || d) ≡ true → (c ≡ true → is_some o ≡ true) → (d ≡ true → s ≡ t) → option_or o s ≡ option_or o t
formal_means (Some k) s t c d either given here = refl
formal_means None s t true d either given here = let no : false ≡ true = given refl in absurd (cc)
formal_means None s t false d either given here = here either

-- what follows the scopes of two runs that are the same
pub run-both : {C D : Type 0} (Q : C → D → Type 0) (next : NameScope → Result C FlattenFault) (more : NameScope → Result D FlattenFault)
    (signals : Pairs) (place : Span) (scope other : NameScope) (m n : Module) (rs ss : List Rename) → Agree signals scope other
    → map (λ formal. formal.input) (interface m) ≡ map (λ formal. formal.input) (interface n)
    → list_all (λ pair. are_same (both_formals m n) pair.0 pair.1) (both_formals m n) ≡ true
    → SameRun signals m n rs ss
    → ((inner within : NameScope) → Agree (both_formals m n) inner within → BothAre Q (next inner) (more within))
    → BothAre Q
    (on_ok (renamed (interface m) scope [] rs) (λ given. on_ok (opened place scope given [] (interface m)) next))
    (on_ok (renamed (interface n) other [] ss) (λ given. on_ok (opened place other given [] (interface n)) more))
run-both Q next more signals place scope other m n rs ss agree inputs formals run on =
    on_ok-both (Renamed (both_formals m n) signals scope other agree (interface m) (interface n) among rs []) Q
    (renamed (interface m) scope [] rs) (renamed (interface n) other [] ss) _ _
    (renamed-both (both_formals m n) signals scope other agree (interface m) (interface n) among run.renamed [] [] (λ a b is. refl)) (λ g h given.
    on_ok-both (Agree (both_formals m n)) Q (opened place scope g [] (interface m)) (opened place other h [] (interface n)) next more
    (opened-both (λ pair. are_same (both_formals m n) pair.0 pair.1) (is_same_formal signals rs) place scope other g h
    (λ a b same left.
    ap (λ o. option_or o (meaning scope a)) (given.0 a b same)
    ∙ formal_means (meaning h b) (meaning scope a) (meaning other b) (is_among a (renamed_names rs)) (are_same signals a b) left
    (λ there. ap is_some (sym (given.0 a b same)) ∙ given.1 a (or_left (is_among a (renamed_names rs)) false there)) (agree a b))
    (interface m) (interface n) [] [] [] inputs formals run.left agree-none)
    on)
  where
    long : (ms ns : List Formal) → map (λ formal. formal.input) ms ≡ map (λ formal. formal.input) ns → length (formal_names ms) ≡ length (formal_names ns)
    long [] [] alike = refl
    long [] (y ∷ ys) alike = absurd (cc)
    long (x ∷ xs) [] alike = absurd (cc)
    long (x ∷ xs) (y ∷ ys) alike =
        let more : map (λ (formal : Formal). formal.input) xs ≡ map (λ (formal : Formal). formal.input) ys = cc in omega (arith, long xs ys more)

    or_none : (b : Bool) → (b || false) ≡ b
    or_none true = refl
    or_none false = refl

    among : (a b : List ℕ) → are_same (both_formals m n) a b ≡ true → is_among a (formal_names (interface m)) ≡ is_among b (formal_names (interface n))
    among a b is =
        sym (or_none (is_among a (formal_names (interface m))))
        ∙ beside-among (formal_names (interface m)) (formal_names (interface n)) [] a b (long (interface m) (interface n) inputs) is
        ∙ or_none (is_among b (formal_names (interface n)))

-- ---- modules

module _ (modules others : SourceProgram) where
  -- both modules of a name are found, or none is
  abbrev FoundBoth : Option Module → Option Module → Type 0
  FoundBoth (Some m) (Some n) = SameModule modules others m n
  FoundBoth (Some m) None = ⊥
  FoundBoth None (Some n) = ⊥
  FoundBoth None None = Unit {0}

  find-both : (name : List ℕ) {ms ns : SourceProgram} → SameModules modules others ms ns
      → FoundBoth (find (λ m. is_same_name name m.name.text) ms) (find (λ m. is_same_name name m.name.text) ns)
  find-both name BothNoModules = tt
  find-both name (BothMoreModules {m = m} {n = n} {ms = ms} {ns = ns} same more) =
      by (is_same_name name m.name.text) (is_same_name name n.name.text) (ap (is_same_name name) same.name) (find-both name more)
    where
      by : (b c : Bool) → b ≡ c → FoundBoth (find (λ m. is_same_name name m.name.text) ms) (find (λ m. is_same_name name m.name.text) ns)
          → FoundBoth (cond b (Some m) (find (λ m. is_same_name name m.name.text) ms)) (cond c (Some n) (find (λ m. is_same_name name m.name.text) ns))
      by true true is found = same
      by true false is found = absurd (cc)
      by false true is found = absurd (cc)
      by false false is found = found

  -- the modules that both names of a `run` lead to
  pub record FoundModules (name : Name) (m n : Module) : Type 0 where
    pub first : module_named modules name ≡ Ok m
    pub second : module_named others name ≡ Ok n
    pub same : SameModule modules others m n

  pub module_named-both : (name : Name) → SameModules modules others modules others →
      BothAre (FoundModules name) (module_named modules name) (module_named others name)
  module_named-both name same =
      by (find (λ m. is_same_name name.text m.name.text) modules) (find (λ m. is_same_name name.text m.name.text) others) refl refl (find-both name.text same)
    where
      by : (o p : Option Module) → module_named modules name ≡ found_or (UnknownModule name.span) o →
          module_named others name ≡ found_or (UnknownModule name.span) p
          → FoundBoth o p → BothAre (FoundModules name) (found_or (UnknownModule name.span) o) (found_or (UnknownModule name.span) p)
      by (Some m) (Some n) first second found = record { first = first; second = second; same = found }
      by (Some m) None first second found = found
      by None (Some n) first second found = found
      by None None first second found = refl

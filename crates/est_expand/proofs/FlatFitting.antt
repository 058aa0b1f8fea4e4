-- Inner: what a walk gives keeps what a flat program keeps.
use Rattle.std.proofs.Common.{◌≡◌, ℕ, zero, suc, ◌+◌, ◌-◌, ◌<◌, ◌≤◌, ◌==◌, ◌||◌, Bool, true, false, cond, nat_lt, nat_le, List, [], ◌∷◌, ◌++◌, map, length}
use Rattle.std.proofs.Common.{refl, ap, sym, subst, ◌∙◌, Option, Some, None, Result, Ok, Err, IsTrue, arith, length-append, append_assoc, add-one}
use Rattle.std.specs.Prelude.{⊤, IfOk, if◌then◌else◌}
use Rattle.std.specs.Option.{option_map, option_or}
use Rattle.std.proofs.lemmas.Result.{IfOk-weaker}
use Rattle.std.proofs.lemmas.List.{append-nil}
use Rattle.std.proofs.lemmas.Bool.{eq-eqb, ltb-true, ltb-false, leb-true, leb-false}
use Rattle.base_types.specs.declared.bounds.TheConstants.Limits.{STATEMENTS, SIGNALS}
use Rattle.base_types.specs.declared.place.Span.{Span}
use Rattle.base_types.specs.Names.{is_same_name}
use Rattle.est_ast.specs.declared.trees.Name.{Name}
use Rattle.est_ast.specs.declared.trees.Rename.{Rename}
use Rattle.est_ast.specs.FlatTrees as flat
use Rattle.est_ast.specs.Trees.{Expr, Tick, Sig, Not, And, Or, Round, Square, Exprs, NoExprs, MoreExprs, Delay, Plain, Immediate, Count, Stmt, At, Form}
use Rattle.est_ast.specs.Trees.{Nothing, Pause, Halt, Emit, Sustain, Await, AwaitCase, Present, PresentCase, Loop, LoopEach, Every, Repeat, Abort, AbortCase}
use Rattle.est_ast.specs.Trees.{WeakAbort, Suspend, Trap, Exit, Signal, Run, Seq, Par, Group, Part, Missing, Written, Handler, NoHandler, Handled, Stmts}
use Rattle.est_ast.specs.Trees.{NoStmts, MoreStmts, Cases, NoCases, MoreCases, Module, SourceProgram}
use Rattle.est_names.specs.Names.{texts}
use Rattle.est_expand.specs.declared.scope.Meaning.{Meaning}
use Rattle.est_expand.specs.Faults.{FlattenFault, EmitInput, Unbound, UnknownTrap, TooManySignals, TooManyStatements}
use Rattle.est_expand.specs.Scopes.{NameScope, meaning, binding, Formal, interface}
use Rattle.est_expand.specs.Walks.{WalkCounts, FlatWalk, on_ok, give, stop, after, meet_statement, meet_signals, meet_added}
use Rattle.est_expand.specs.Tests.{found_or, signal_of, test, tests, awaited}
use Rattle.est_expand.specs.Runs.{module_named, chain_with, formal_names, renamed, opened}
use Rattle.est_expand.specs.Flattening.{Around, in_signals, in_trap, part, each, each_case, numbers, meet_delay, traps_between, exit_of, handler, emitted, ran}
use Rattle.est_expand.specs.Flattening.{row, flattening}
use Rattle.est_ast.specs.FlatFits as fits
use Rattle.est_ast.specs.NewSignals.{new_by, new_in, new_in_form, new_in_part, new_in_stmts, new_in_cases}

-- ---- results

-- where there is a value, go on
pub on_ok-IfOk : {A B : Type 0} (r : Result A FlattenFault) (next : A → Result B FlattenFault) (P : A → Type 0) (Q : B → Type 0)
    → IfOk r P → ((a : A) → P a → IfOk (next a) Q) → IfOk (on_ok r next) Q
on_ok-IfOk (Ok a) next P Q is more = more a is
on_ok-IfOk (Err fault) next P Q is more = tt

pub found_or-IfOk : {A : Type 0} (fault : FlattenFault) (found : Option A) (P : A → Type 0) → ((a : A) → found ≡ Some a → P a) → IfOk (found_or fault found) P
found_or-IfOk fault (Some a) P is = is a refl
found_or-IfOk fault None P is = tt

pub if-IfOk : {A : Type 0} (b : Bool) (r : Result A FlattenFault) (fault : FlattenFault) (P : A → Type 0) → (b ≡ true → IfOk r P)
    → IfOk (if b then r else Err fault) P
if-IfOk true r fault P is = is refl
if-IfOk false r fault P is = tt

-- ---- names

-- what names mean is visible
abbrev pub SeesNames : NameScope → (ℕ → Bool) → Type 0
SeesNames scope visible = (name : List ℕ) (m : Meaning) → meaning scope name ≡ Some m → visible m.signal ≡ true

pub sees_none : (visible : ℕ → Bool) → SeesNames [] visible
sees_none visible name m is = absurd (cc)

or_true : (b : Bool) → (b || true) ≡ true
or_true true = refl
or_true false = refl

-- a name more, of a signal that is visible
pub sees_more : (scope : NameScope) (visible : ℕ → Bool) (name : List ℕ) (m : Meaning) → SeesNames scope visible → visible m.signal ≡ true →
    SeesNames ((name, m) ∷ scope) visible
sees_more scope visible name m sees shown n k is = by (is_same_name n name) is
  where
    by : (b : Bool) → (if b then Some m else meaning scope n) ≡ Some k → visible k.signal ≡ true
    by true is = let same : m ≡ k = cc in ap (λ k. visible k.signal) (sym same) ∙ shown
    by false is = sees n k is

-- more is visible
sees_above : (scope : NameScope) (visible : ℕ → Bool) (s : ℕ) → SeesNames scope visible → SeesNames scope (λ t. t == s || visible t)
sees_above scope visible s sees n k is = ap (λ b. k.signal == s || b) (sees n k is) ∙ or_true (k.signal == s)

self_seen : (s : ℕ) (visible : ℕ → Bool) → (s == s || visible s) ≡ true
self_seen s visible = ap (λ b. b || visible s) (eq-eqb s s refl)

pub sees_binding : (input : Bool) (names : List (List ℕ)) (next : ℕ) (scope : NameScope) (visible : ℕ → Bool) → SeesNames scope visible
    → SeesNames (binding input names next scope) (fits.binding (numbers next names) visible)
sees_binding input [] next scope visible sees = sees
sees_binding input (name ∷ names) next scope visible sees =
    let m : Meaning = record { signal = next; input = input } in
    let more : ℕ → Bool = λ t. t == next || visible t in
    sees_binding input names (next + 1) ((name, m) ∷ scope) more
    (sees_more scope more name m (sees_above scope visible next sees) (self_seen next visible))

signal_of-IfOk : (scope : NameScope) (visible : ℕ → Bool) (name : Name) → SeesNames scope visible → IfOk (signal_of scope name) (λ m. visible m.signal ≡ true)
signal_of-IfOk scope visible name sees = found_or-IfOk _ (meaning scope name.text) (λ m. visible m.signal ≡ true) (λ m is. sees name.text m is)

-- ---- tests

mutual
  test-IfOk : (scope : NameScope) (visible : ℕ → Bool) (e : Expr) → SeesNames scope visible → IfOk (test scope e) (λ f. fits.TestFits visible f)
  test-IfOk scope visible (Tick span) sees = tt
  test-IfOk scope visible (Sig name) sees =
      on_ok-IfOk (signal_of scope name) _ (λ m. visible m.signal ≡ true) _ (signal_of-IfOk scope visible name sees) (λ m is. is)
  test-IfOk scope visible (Not e) sees = on_ok-IfOk (test scope e) _ (fits.TestFits visible) _ (test-IfOk scope visible e sees) (λ f is. is)
  test-IfOk scope visible (And parts) sees = on_ok-IfOk (tests scope parts) _ (fits.TestsFit visible) _ (tests-IfOk scope visible parts sees) (λ f is. is)
  test-IfOk scope visible (Or parts) sees = on_ok-IfOk (tests scope parts) _ (fits.TestsFit visible) _ (tests-IfOk scope visible parts sees) (λ f is. is)
  test-IfOk scope visible (Round e) sees = test-IfOk scope visible e sees
  test-IfOk scope visible (Square e) sees = test-IfOk scope visible e sees

  tests-IfOk : (scope : NameScope) (visible : ℕ → Bool) (es : Exprs) → SeesNames scope visible → IfOk (tests scope es) (λ fs. fits.TestsFit visible fs)
  tests-IfOk scope visible NoExprs sees = tt
  tests-IfOk scope visible (MoreExprs e others) sees =
      on_ok-IfOk (test scope e) _ (fits.TestFits visible) _ (test-IfOk scope visible e sees) (λ f is.
      on_ok-IfOk (tests scope others) _ (fits.TestsFit visible) _ (tests-IfOk scope visible others sees) (λ fs are. (is, are)))

-- how many signals an abortion by a delay will need
abbrev adds : Delay → ℕ
adds (Plain event) = 0
adds (Immediate event) = 0
adds (Count count span event) = if nat_le count 1 then 0 else 1

awaited-IfOk : (scope : NameScope) (visible : ℕ → Bool) (delay : Delay) → SeesNames scope visible
    → IfOk (awaited scope delay) (λ d. fits.DelayFits visible d × (new_by d ≡ adds delay))
awaited-IfOk scope visible (Plain event) sees = on_ok-IfOk (test scope event) _ (fits.TestFits visible) _ (test-IfOk scope visible event sees)
    (λ f is. (is, refl))
awaited-IfOk scope visible (Immediate event) sees = on_ok-IfOk (test scope event) _ (fits.TestFits visible) _ (test-IfOk scope visible event sees)
    (λ f is. (is, refl))
awaited-IfOk scope visible (Count count span event) sees = on_ok-IfOk (test scope event) _ (fits.TestFits visible) _ (test-IfOk scope visible event sees)
    (λ f is. (is, refl))

-- ---- traps and what is emitted

later : (between : Option ℕ) (n : ℕ) → ((k : ℕ) → between ≡ Some k → k < n) → (k : ℕ) → option_map (λ k. k + 1) between ≡ Some k → k < n + 1
later None n low k is = absurd (cc)
later (Some j) n low k is = let same : j + 1 ≡ k = cc in omega (arith, low j refl)

traps_between-within : (name : List ℕ) (traps : List (List ℕ)) (k : ℕ) → traps_between name traps ≡ Some k → k < length traps
traps_between-within name [] k is = absurd (cc)
traps_between-within name (trap ∷ traps) k is = by (is_same_name name trap) (traps_between-within name traps) is
  where
    by : (b : Bool) → ((j : ℕ) → traps_between name traps ≡ Some j → j < length traps)
        → (if b then Some 0 else option_map (λ k. k + 1) (traps_between name traps)) ≡ Some k → k < length (trap ∷ traps)
    by true others is = let first : 0 ≡ k = cc in omega arith
    by false others is = omega (arith, later (traps_between name traps) (length traps) others k is)

exit_of-IfOk : (traps : List (List ℕ)) (name : Name) → IfOk (exit_of traps name) (λ k. k < length traps)
exit_of-IfOk traps name = found_or-IfOk _ (traps_between name.text traps) (λ k. k < length traps) (traps_between-within name.text traps)

emitted-IfOk : (inputs : ℕ) (scope : NameScope) (visible : ℕ → Bool) (name : Name) → SeesNames scope visible
    → IfOk (emitted inputs scope name) (λ s. (visible s ≡ true) × (inputs ≤ s))
emitted-IfOk inputs scope visible name sees =
    on_ok-IfOk (signal_of scope name) _ (λ m. visible m.signal ≡ true) _ (signal_of-IfOk scope visible name sees)
    (λ m is. by m is m.input (nat_lt m.signal inputs) refl)
  where
    by : (m : Meaning) → visible m.signal ≡ true → (b c : Bool) → nat_lt m.signal inputs ≡ c
        → IfOk (if b || c then Err (EmitInput name.span) else Ok m.signal) (λ s. (visible s ≡ true) × (inputs ≤ s))
    by m is true c given = tt
    by m is false true given = tt
    by m is false false given = (is, ltb-false m.signal inputs given)

-- ---- runs

renamed-IfOk : (formals : List Formal) (scope given : NameScope) (visible : ℕ → Bool) (renames : List Rename) → SeesNames scope visible
    → SeesNames given visible
    → IfOk (renamed formals scope given renames) (λ given. SeesNames given visible)
renamed-IfOk formals scope given visible [] sees shows = shows
renamed-IfOk formals scope given visible (rename ∷ renames) sees shows =
    if-IfOk _ _ _ (λ given. SeesNames given visible) (λ _.
    on_ok-IfOk (signal_of scope rename.actual) _ (λ m. visible m.signal ≡ true) (λ given. SeesNames given visible)
    (signal_of-IfOk scope visible rename.actual sees) (λ m is.
    renamed-IfOk formals scope ((rename.formal.text, m) ∷ given) visible renames sees (sees_more given visible rename.formal.text m shows is)))

either_seen : (given here : Option Meaning) (visible : ℕ → Bool) → ((m : Meaning) → given ≡ Some m → visible m.signal ≡ true) →
    ((m : Meaning) → here ≡ Some m → visible m.signal ≡ true)
    → (m : Meaning) → option_or given here ≡ Some m → visible m.signal ≡ true
either_seen (Some k) here visible shows sees m is = shows m is
either_seen None here visible shows sees m is = sees m is

opened-IfOk : (place : Span) (scope given inner : NameScope) (visible : ℕ → Bool) (formals : List Formal) → SeesNames scope visible → SeesNames given visible →
    SeesNames inner visible
    → IfOk (opened place scope given inner formals) (λ inner. SeesNames inner visible)
opened-IfOk place scope given inner visible [] sees shows holds = holds
opened-IfOk place scope given inner visible (formal ∷ formals) sees shows holds =
    on_ok-IfOk (found_or (Unbound place formal.name) (option_or (meaning given formal.name) (meaning scope formal.name))) _ (λ m. visible m.signal ≡ true)
    (λ inner. SeesNames inner visible)
    (found_or-IfOk _ (option_or (meaning given formal.name) (meaning scope formal.name)) (λ m. visible m.signal ≡ true)
    (either_seen (meaning given formal.name) (meaning scope formal.name) visible (shows formal.name) (sees formal.name))) (λ m is.
    opened-IfOk place scope given ((formal.name, record { signal = m.signal; input = formal.input }) ∷ inner) visible formals sees shows
    (sees_more inner visible formal.name (record { signal = m.signal; input = formal.input }) holds is))

any-IfOk : {A : Type 0} (r : Result A FlattenFault) → IfOk r (λ a. ⊤)
any-IfOk (Ok a) = tt
any-IfOk (Err fault) = tt

-- ---- what a walk keeps

-- the signals that the environment sees have been met, and there are not too many
pub record Begun (seen : ℕ) (met : WalkCounts) : Type 0 where
  pub shown : seen ≤ length met.signals
  pub few : length met.signals + met.added ≤ SIGNALS

-- the first list begins the second one
abbrev pub Begins : List (List ℕ) → List (List ℕ) → Type 0
Begins names all = (more : List (List ℕ)) × (all ≡ names ++ more)

-- Between what was met before and after: signals are only added, so many are announced, and what is found is in its place
-- in every program with at least the signals that have been met.
pub record Kept (met met' : WalkCounts) (new : ℕ) (InPlace : ℕ → Type 0) : Type 0 where
  pub begins : Begins met.signals met'.signals
  pub grows : length met.signals ≤ length met'.signals
  pub added : met'.added ≡ met.added + new
  pub few : length met'.signals + met'.added ≤ SIGNALS
  pub in_place : (all : ℕ) → length met'.signals ≤ all → InPlace all

begun_after : (seen : ℕ) (met met' : WalkCounts) (new : ℕ) (F : ℕ → Type 0) → Begun seen met → Kept met met' new F → Begun seen met'
begun_after seen met met' new F begun kept = record { shown = omega (arith, begun.shown, kept.grows); few = kept.few }

nothing_met : (seen : ℕ) (met : WalkCounts) (F : ℕ → Type 0) → Begun seen met → ((all : ℕ) → F all) → Kept met met 0 F
nothing_met seen met F begun is = record {
  begins = ([], sym (append-nil met.signals));
  grows = omega arith;
  added = omega arith;
  few = begun.few;
  in_place = λ all low. is all;
}

both : (met met' met'' : WalkCounts) (n m : ℕ) (F G : ℕ → Type 0) → Kept met met' n F → Kept met' met'' m G → Kept met met'' (n + m) (λ all. F all × G all)
both met met' met'' n m F G f g = record {
  begins = (f.begins.0 ++ g.begins.0, g.begins.1 ∙ ap (λ l. l ++ g.begins.0) f.begins.1 ∙ append_assoc met.signals f.begins.0 g.begins.0);
  grows = omega (arith, f.grows, g.grows);
  added = omega (arith, f.added, g.added);
  few = g.few;
  in_place = λ all low. (f.in_place all (omega (arith, g.grows, low)), g.in_place all low);
}

kept_as : (met met' : WalkCounts) (n m : ℕ) (F G : ℕ → Type 0) → Kept met met' n F → n ≡ m → ((all : ℕ) → F all → G all) → Kept met met' m G
kept_as met met' n m F G f same as_ = record {
  begins = f.begins;
  grows = f.grows;
  added = omega (arith, f.added, same);
  few = f.few;
  in_place = λ all low. as_ all (f.in_place all low);
}

meet_added-IfOk : (seen : ℕ) (met : WalkCounts) → Begun seen met → IfOk (meet_added met) (λ d. Kept met d.1 1 (λ all. ⊤))
meet_added-IfOk seen met begun =
    let r : Result (Unit {0} × WalkCounts) FlattenFault = Ok (tt, record met { added = met.added + 1 }) in
    if-IfOk (nat_lt (length met.signals + met.added) SIGNALS) r TooManySignals (λ d. Kept met d.1 1 (λ all. ⊤)) (λ low.
    let few = ltb-true (length met.signals + met.added) SIGNALS low in
    record { begins = ([], sym (append-nil met.signals)); grows = omega arith; added = refl; few = omega (arith, few); in_place = λ all _. tt })

meet_delay-IfOk : (seen : ℕ) (met : WalkCounts) (delay : Delay) → Begun seen met → IfOk (meet_delay delay met) (λ d. Kept met d.1 (adds delay) (λ all. ⊤))
meet_delay-IfOk seen met (Plain event) begun = nothing_met seen met (λ all. ⊤) begun (λ all. tt)
meet_delay-IfOk seen met (Immediate event) begun = nothing_met seen met (λ all. ⊤) begun (λ all. tt)
meet_delay-IfOk seen met (Count count span event) begun = by (nat_lt 1 count) (nat_le count 1) refl refl
  where
    by : (b c : Bool) → nat_lt 1 count ≡ b → nat_le count 1 ≡ c
        → IfOk ((if b then meet_added else give tt) met) (λ d. Kept met d.1 (if c then 0 else 1) (λ all. ⊤))
    by true true more less = absurd (omega (arith, ltb-true 1 count more, leb-true count 1 less))
    by true false more less = meet_added-IfOk seen met begun
    by false true more less = nothing_met seen met (λ all. ⊤) begun (λ all. tt)
    by false false more less = absurd (omega (arith, ltb-false 1 count more, leb-false count 1 less))

numbers_local : (inputs seen all next : ℕ) (names : List (List ℕ)) → seen ≤ next → next + length names ≤ all →
    fits.AreLocal inputs seen all (numbers next names)
numbers_local inputs seen all next [] low high = tt
numbers_local inputs seen all next (name ∷ names) low high =
    let more : next + 1 + length names ≤ all = omega (arith, high) in
    (low, omega (arith, high), numbers_local inputs seen all (next + 1) names (omega (arith, low)) more)

meet_signals-IfOk : (inputs seen : ℕ) (met : WalkCounts) (names : List (List ℕ)) → Begun seen met
    → IfOk (meet_signals names met) (λ d. Kept met d.1 0 (λ all. fits.AreLocal inputs seen all (numbers d.0 names)))
meet_signals-IfOk inputs seen met names begun =
    let r : Result (ℕ × WalkCounts) FlattenFault = Ok (length met.signals, record met { signals = met.signals ++ names }) in
    if-IfOk (nat_le (length met.signals + length names + met.added) SIGNALS) r TooManySignals
    (λ d. Kept met d.1 0 (λ all. fits.AreLocal inputs seen all (numbers d.0 names))) (λ low.
    let few = leb-true (length met.signals + length names + met.added) SIGNALS low in
    let all_of = length-append met.signals names in
    record {
      begins = (names, refl);
      grows = omega (arith, all_of);
      added = omega arith;
      few = omega (arith, few, all_of);
      in_place = λ all high. numbers_local inputs seen all (length met.signals) names begun.shown (omega (arith, all_of, high));
    })

pub meet_statement-IfOk : (met : WalkCounts) → IfOk (meet_statement met) (λ d. (d.1.signals ≡ met.signals) × (d.1.added ≡ met.added))
meet_statement-IfOk met =
    let r : Result (Unit {0} × WalkCounts) FlattenFault = Ok (tt, record met { statements = met.statements + 1 }) in
    if-IfOk (nat_lt met.statements STATEMENTS) r TooManyStatements (λ d. (d.1.signals ≡ met.signals) × (d.1.added ≡ met.added)) (λ low. (refl, refl))

-- ---- statements

module _ (inputs seen : ℕ) where
  -- what names mean is visible, and the traps of the module stand around
  pub record Sees (around : Around) (place : fits.Scope) : Type 0 where
    pub names : SeesNames around.scope place.visible
    pub traps : length around.traps ≤ place.traps

  pub sees_signals : (names : List (List ℕ)) (next : ℕ) (around : Around) (place : fits.Scope) → Sees around place
      → Sees (in_signals names next around) (fits.in_signals (numbers next names) place)
  sees_signals names next around place sees = record { names = sees_binding false names next around.scope place.visible sees.names; traps = sees.traps }

  sees_trap : (name : List ℕ) (around : Around) (place : fits.Scope) → Sees around place → Sees (in_trap name around) (fits.in_trap place)
  sees_trap name around place sees = record { names = sees.names; traps = omega (arith, sees.traps) }

  -- a statement that is found keeps what a flat statement keeps
  abbrev pub InsideFits : (Around → Stmt → FlatWalk flat.Stmt) → Type 0
  InsideFits inside = (around : Around) (place : fits.Scope) (p : Stmt) (met : WalkCounts) → Sees around place → Begun seen met
      → IfOk (inside around p met) (λ d. Kept met d.1 (new_in d.0) (λ all. fits.Fits inputs seen all place d.0))

  module _ (inside : Around → Stmt → FlatWalk flat.Stmt) (keeps : InsideFits inside) (around : Around) (place : fits.Scope) (sees : Sees around place) where
    part-IfOk : (q : Part) (met : WalkCounts) → Begun seen met → IfOk (part (inside around) q met)
        (λ d. Kept met d.1 (new_in_part d.0) (λ all. fits.PartFits inputs seen all place d.0))
    part-IfOk Missing met begun = nothing_met seen met (λ all. ⊤) begun (λ all. tt)
    part-IfOk (Written p) met begun =
        on_ok-IfOk (inside around p met) _ (λ d. Kept met d.1 (new_in d.0) (λ all. fits.Fits inputs seen all place d.0)) _ (keeps around place p met sees begun)
        (λ d is. is)

    each-IfOk : (ps : Stmts) (met : WalkCounts) → Begun seen met → IfOk (each (inside around) ps met)
        (λ d. Kept met d.1 (new_in_stmts d.0) (λ all. fits.AllFit inputs seen all place d.0))
    each-IfOk NoStmts met begun = nothing_met seen met (λ all. ⊤) begun (λ all. tt)
    each-IfOk (MoreStmts p others) met begun =
        on_ok-IfOk (inside around p met) _ (λ d. Kept met d.1 (new_in d.0) (λ all. fits.Fits inputs seen all place d.0)) _ (keeps around place p met sees begun)
        (λ d is.
        on_ok-IfOk (each (inside around) others d.1) _ (λ e. Kept d.1 e.1 (new_in_stmts e.0) (λ all. fits.AllFit inputs seen all place e.0)) _
        (each-IfOk others d.1 (begun_after seen met d.1 _ _ begun is)) (λ e are. both met d.1 e.1 _ _ _ _ is are))

    cases-IfOk : (cs : Cases) (met : WalkCounts) → Begun seen met
        → IfOk (each_case around.scope (inside around) cs met) (λ d. Kept met d.1 (new_in_cases d.0) (λ all. fits.CasesFit inputs seen all place d.0))
    cases-IfOk NoCases met begun = nothing_met seen met (λ all. ⊤) begun (λ all. tt)
    cases-IfOk (MoreCases event body others) met begun =
        on_ok-IfOk (test around.scope event) _ (fits.TestFits place.visible) _ (test-IfOk around.scope place.visible event sees.names) (λ f there.
        on_ok-IfOk (part (inside around) body met) _ (λ d. Kept met d.1 (new_in_part d.0) (λ all. fits.PartFits inputs seen all place d.0)) _
        (part-IfOk body met begun) (λ d is.
        on_ok-IfOk (each_case around.scope (inside around) others d.1) _
        (λ e. Kept d.1 e.1 (new_in_cases e.0) (λ all. fits.CasesFit inputs seen all place e.0)) _
        (cases-IfOk others d.1 (begun_after seen met d.1 _ _ begun is))
        (λ e are. kept_as met e.1 _ _ _ _ (both met d.1 e.1 _ _ _ _ is are) refl (λ all h. (there, h.0, h.1)))))

    handler-IfOk : (name : Name) (handled : Handler) (met : WalkCounts) → Begun seen met
        → IfOk (handler (inside around) name handled met) (λ d. Kept met d.1 (new_in_part d.0) (λ all. fits.PartFits inputs seen all place d.0))
    handler-IfOk name NoHandler met begun = nothing_met seen met (λ all. ⊤) begun (λ all. tt)
    handler-IfOk name (Handled handled p) met begun = by (is_same_name handled.text name.text)
      where
        by : (b : Bool) → IfOk ((if b then after (inside around p) (λ p. give (flat.Written p)) else stop (UnknownTrap handled.span)) met)
            (λ d. Kept met d.1 (new_in_part d.0) (λ all. fits.PartFits inputs seen all place d.0))
        by true =
            on_ok-IfOk (inside around p met) _ (λ d. Kept met d.1 (new_in d.0) (λ all. fits.Fits inputs seen all place d.0)) _
            (keeps around place p met sees begun) (λ d is. is)
        by false = tt

  module _ (modules : SourceProgram) (inside : Around → Stmt → FlatWalk flat.Stmt) (keeps : InsideFits inside) where
    -- what a row keeps
    abbrev RowFits : fits.Scope → WalkCounts → flat.Stmt × WalkCounts → Type 0
    RowFits place met d = Kept met d.1 (new_in d.0) (λ all. fits.Fits inputs seen all place d.0)

    ran-IfOk : (around : Around) (place : fits.Scope) (name : Name) (renames : List Rename) (met : WalkCounts) → Sees around place → Begun seen met
        → IfOk (ran modules inputs inside around name renames met) (RowFits place met)
    ran-IfOk around place name renames met sees begun =
        on_ok-IfOk (module_named modules name) _ (λ m. ⊤) _ (any-IfOk (module_named modules name)) (λ m _.
        on_ok-IfOk (chain_with around.chain name) _ (λ chain. ⊤) _ (any-IfOk (chain_with around.chain name)) (λ chain _.
        on_ok-IfOk (renamed (interface m) around.scope [] renames) _ (λ given. SeesNames given place.visible) _
        (renamed-IfOk (interface m) around.scope [] place.visible renames sees.names (sees_none place.visible)) (λ given shows.
        on_ok-IfOk (opened name.span around.scope given [] (interface m)) _ (λ scope. SeesNames scope place.visible) _
        (opened-IfOk name.span around.scope given [] place.visible (interface m) sees.names shows (sees_none place.visible)) (λ scope holds.
        keeps (record { scope = scope; traps = []; chain = chain }) place m.body met (record { names = holds; traps = omega arith }) begun))))

    row-IfOk : (around : Around) (place : fits.Scope) (at : Span) (form : Form) (met : WalkCounts) → Sees around place → Begun seen met
        → IfOk (row modules inputs inside around at form met) (RowFits place met)
    row-IfOk around place at Nothing met sees begun = nothing_met seen met (λ all. ⊤) begun (λ all. tt)
    row-IfOk around place at Pause met sees begun = nothing_met seen met (λ all. ⊤) begun (λ all. tt)
    row-IfOk around place at Halt met sees begun = nothing_met seen met (λ all. ⊤) begun (λ all. tt)
    row-IfOk around place at (Emit name) met sees begun =
        on_ok-IfOk (emitted inputs around.scope name) _ (λ s. (place.visible s ≡ true) × (inputs ≤ s)) _
        (emitted-IfOk inputs around.scope place.visible name sees.names)
        (λ s is. nothing_met seen met _ begun (λ all. is))
    row-IfOk around place at (Sustain name) met sees begun =
        on_ok-IfOk (emitted inputs around.scope name) _ (λ s. (place.visible s ≡ true) × (inputs ≤ s)) _
        (emitted-IfOk inputs around.scope place.visible name sees.names)
        (λ s is. nothing_met seen met _ begun (λ all. is))
    row-IfOk around place at (Await delay q) met sees begun =
        on_ok-IfOk (awaited around.scope delay) _ (λ d. fits.DelayFits place.visible d × (new_by d ≡ adds delay)) _
        (awaited-IfOk around.scope place.visible delay sees.names) (λ d there.
        on_ok-IfOk (part (inside around) q met) _ (λ e. Kept met e.1 (new_in_part e.0) (λ all. fits.PartFits inputs seen all place e.0)) _
        (part-IfOk inside keeps around place sees q met begun)
        (λ e is. kept_as met e.1 _ _ _ _ is refl (λ all h. (there.0, h))))
    row-IfOk around place at (AwaitCase cases) met sees begun =
        on_ok-IfOk (each_case around.scope (inside around) cases met) _
        (λ d. Kept met d.1 (new_in_cases d.0) (λ all. fits.CasesFit inputs seen all place d.0)) _
        (cases-IfOk inside keeps around place sees cases met begun) (λ d is. is)
    row-IfOk around place at (Present e p q) met sees begun =
        on_ok-IfOk (test around.scope e) _ (fits.TestFits place.visible) _ (test-IfOk around.scope place.visible e sees.names) (λ f there.
        on_ok-IfOk (part (inside around) p met) _ (λ d. Kept met d.1 (new_in_part d.0) (λ all. fits.PartFits inputs seen all place d.0)) _
        (part-IfOk inside keeps around place sees p met begun) (λ d is.
        on_ok-IfOk (part (inside around) q d.1) _ (λ e. Kept d.1 e.1 (new_in_part e.0) (λ all. fits.PartFits inputs seen all place e.0)) _
        (part-IfOk inside keeps around place sees q d.1 (begun_after seen met d.1 _ _ begun is))
        (λ e are. kept_as met e.1 _ _ _ _ (both met d.1 e.1 _ _ _ _ is are) refl (λ all h. (there, h.0, h.1)))))
    row-IfOk around place at (PresentCase cases q) met sees begun =
        on_ok-IfOk (each_case around.scope (inside around) cases met) _
        (λ d. Kept met d.1 (new_in_cases d.0) (λ all. fits.CasesFit inputs seen all place d.0)) _
        (cases-IfOk inside keeps around place sees cases met begun) (λ d is.
        on_ok-IfOk (part (inside around) q d.1) _ (λ e. Kept d.1 e.1 (new_in_part e.0) (λ all. fits.PartFits inputs seen all place e.0)) _
        (part-IfOk inside keeps around place sees q d.1 (begun_after seen met d.1 _ _ begun is)) (λ e are. both met d.1 e.1 _ _ _ _ is are))
    row-IfOk around place at (Loop p) met sees begun =
        on_ok-IfOk (inside around p met) _ (RowFits place met) _ (keeps around place p met sees begun) (λ d is. is)
    row-IfOk around place at (LoopEach p delay) met sees begun =
        on_ok-IfOk (meet_delay delay met) _ (λ d. Kept met d.1 (adds delay) (λ all. ⊤)) _ (meet_delay-IfOk seen met delay begun) (λ u counted.
        on_ok-IfOk (inside around p u.1) _ (RowFits place u.1) _ (keeps around place p u.1 sees (begun_after seen met u.1 _ _ begun counted)) (λ d is.
        on_ok-IfOk (awaited around.scope delay) _ (λ d. fits.DelayFits place.visible d × (new_by d ≡ adds delay)) _
        (awaited-IfOk around.scope place.visible delay sees.names) (λ e there.
        kept_as met d.1 _ _ _ _ (both met u.1 d.1 _ _ _ _ counted is) (ap (λ n. n + new_in d.0) (sym there.1)) (λ all h. (h.1, there.0)))))
    row-IfOk around place at (Every delay p) met sees begun =
        on_ok-IfOk (meet_delay delay met) _ (λ d. Kept met d.1 (adds delay) (λ all. ⊤)) _ (meet_delay-IfOk seen met delay begun) (λ u counted.
        on_ok-IfOk (awaited around.scope delay) _ (λ d. fits.DelayFits place.visible d × (new_by d ≡ adds delay)) _
        (awaited-IfOk around.scope place.visible delay sees.names) (λ e there.
        on_ok-IfOk (inside around p u.1) _ (RowFits place u.1) _ (keeps around place p u.1 sees (begun_after seen met u.1 _ _ begun counted)) (λ d is.
        kept_as met d.1 _ _ _ _ (both met u.1 d.1 _ _ _ _ counted is) (ap (λ n. n + new_in d.0) (sym there.1)) (λ all h. (there.0, h.1)))))
    row-IfOk around place at (Repeat count span p) met sees begun =
        on_ok-IfOk (inside around p met) _ (RowFits place met) _ (keeps around place p met sees begun) (λ d is. is)
    row-IfOk around place at (Abort p delay q) met sees begun =
        on_ok-IfOk (meet_delay delay met) _ (λ d. Kept met d.1 (adds delay) (λ all. ⊤)) _ (meet_delay-IfOk seen met delay begun) (λ u counted.
        let begun_p = begun_after seen met u.1 _ _ begun counted in
        on_ok-IfOk (inside around p u.1) _ (RowFits place u.1) _ (keeps around place p u.1 sees begun_p) (λ d is.
        on_ok-IfOk (awaited around.scope delay) _ (λ d. fits.DelayFits place.visible d × (new_by d ≡ adds delay)) _
        (awaited-IfOk around.scope place.visible delay sees.names) (λ e there.
        on_ok-IfOk (part (inside around) q d.1) _ (λ e. Kept d.1 e.1 (new_in_part e.0) (λ all. fits.PartFits inputs seen all place e.0)) _
        (part-IfOk inside keeps around place sees q d.1 (begun_after seen u.1 d.1 _ _ begun_p is)) (λ f are.
        kept_as met f.1 _ _ _ _ (both met u.1 f.1 _ _ _ _ counted (both u.1 d.1 f.1 _ _ _ _ is are))
        (ap (λ n. n + (new_in d.0 + new_in_part f.0)) (sym there.1))
        (λ all h. (h.1.0, there.0, h.1.1))))))
    row-IfOk around place at (AbortCase p cases) met sees begun =
        on_ok-IfOk (inside around p met) _ (RowFits place met) _ (keeps around place p met sees begun) (λ d is.
        on_ok-IfOk (each_case around.scope (inside around) cases d.1) _
        (λ e. Kept d.1 e.1 (new_in_cases e.0) (λ all. fits.CasesFit inputs seen all place e.0)) _
        (cases-IfOk inside keeps around place sees cases d.1 (begun_after seen met d.1 _ _ begun is)) (λ e are. both met d.1 e.1 _ _ _ _ is are))
    row-IfOk around place at (WeakAbort p delay) met sees begun =
        on_ok-IfOk (inside around p met) _ (RowFits place met) _ (keeps around place p met sees begun) (λ d is.
        on_ok-IfOk (awaited around.scope delay) _ (λ d. fits.DelayFits place.visible d × (new_by d ≡ adds delay)) _
        (awaited-IfOk around.scope place.visible delay sees.names) (λ e there.
        kept_as met d.1 _ _ _ _ is refl (λ all h. (h, there.0))))
    row-IfOk around place at (Suspend p delay) met sees begun =
        on_ok-IfOk (inside around p met) _ (RowFits place met) _ (keeps around place p met sees begun) (λ d is.
        on_ok-IfOk (awaited around.scope delay) _ (λ d. fits.DelayFits place.visible d × (new_by d ≡ adds delay)) _
        (awaited-IfOk around.scope place.visible delay sees.names) (λ e there.
        kept_as met d.1 _ _ _ _ is refl (λ all h. (h, there.0))))
    row-IfOk around place at (Trap name p handled) met sees begun =
        on_ok-IfOk (inside (in_trap name.text around) p met) _ (RowFits (fits.in_trap place) met) _
        (keeps (in_trap name.text around) (fits.in_trap place) p met (sees_trap name.text around place sees) begun) (λ d is.
        on_ok-IfOk (handler (inside around) name handled d.1) _ (λ e. Kept d.1 e.1 (new_in_part e.0) (λ all. fits.PartFits inputs seen all place e.0)) _
        (handler-IfOk inside keeps around place sees name handled d.1 (begun_after seen met d.1 _ _ begun is)) (λ e are. both met d.1 e.1 _ _ _ _ is are))
    row-IfOk around place at (Exit name) met sees begun =
        on_ok-IfOk (exit_of around.traps name) _ (λ k. k < length around.traps) _ (exit_of-IfOk around.traps name)
        (λ k is. let inside_its : k < place.traps = omega (arith, is, sees.traps) in nothing_met seen met _ begun (λ all. inside_its))
    row-IfOk around place at (Signal names p) met sees begun =
        on_ok-IfOk (meet_signals (texts names) met) _ (λ d. Kept met d.1 0 (λ all. fits.AreLocal inputs seen all (numbers d.0 (texts names)))) _
        (meet_signals-IfOk inputs seen met (texts names) begun) (λ u local.
        on_ok-IfOk (inside (in_signals (texts names) u.0 around) p u.1) _ (RowFits (fits.in_signals (numbers u.0 (texts names)) place) u.1) _
        (keeps (in_signals (texts names) u.0 around) (fits.in_signals (numbers u.0 (texts names)) place) p u.1
        (sees_signals (texts names) u.0 around place sees) (begun_after seen met u.1 _ _ begun local))
        (λ d is. let n : 0 + new_in d.0 ≡ new_in d.0 = omega arith in kept_as met d.1 _ _ _ _ (both met u.1 d.1 _ _ _ _ local is) n (λ all h. h)))
    row-IfOk around place at (Run name renames) met sees begun = ran-IfOk around place name renames met sees begun
    row-IfOk around place at (Seq parts) met sees begun =
        on_ok-IfOk (each (inside around) parts met) _ (λ d. Kept met d.1 (new_in_stmts d.0) (λ all. fits.AllFit inputs seen all place d.0)) _
        (each-IfOk inside keeps around place sees parts met begun) (λ d is. is)
    row-IfOk around place at (Par parts) met sees begun =
        on_ok-IfOk (each (inside around) parts met) _ (λ d. Kept met d.1 (new_in_stmts d.0) (λ all. fits.AllFit inputs seen all place d.0)) _
        (each-IfOk inside keeps around place sees parts met begun) (λ d is. is)
    row-IfOk around place at (Group p) met sees begun = keeps around place p met sees begun

  -- so does every statement
  pub flattening-IfOk : (modules : SourceProgram) (room : ℕ) → InsideFits (flattening modules inputs room)
  unfolding flattening
  flattening-IfOk modules zero around place (At at form) met sees begun =
      on_ok-IfOk (meet_statement met) _ (λ d. ⊤) _ (any-IfOk (meet_statement met)) (λ d _. tt)
  flattening-IfOk modules (suc room) around place (At at form) met sees begun =
      on_ok-IfOk (meet_statement met) _ (λ d. (d.1.signals ≡ met.signals) × (d.1.added ≡ met.added)) _ (meet_statement-IfOk met) (λ d same.
      let begun' : Begun seen d.1 = record { shown = omega (arith, begun.shown, ap length same.0); few = omega (arith, begun.few, ap length same.0, same.1) } in
      IfOk-weaker (row modules inputs (flattening modules inputs room) around at form d.1)
      (RowFits modules (flattening modules inputs room) (flattening-IfOk modules room) place d.1) _
      (λ e kept. record {
        begins = (kept.begins.0, kept.begins.1 ∙ ap (λ l. l ++ kept.begins.0) same.0);
        grows = omega (arith, kept.grows, ap length same.0);
        added = omega (arith, kept.added, same.1);
        few = kept.few;
        in_place = kept.in_place;
      })
      (row-IfOk modules (flattening modules inputs room) (flattening-IfOk modules room) around place at form d.1 sees begun'))

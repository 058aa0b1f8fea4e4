-- Steps of walks over lists, runs and statements.
use Rattle.std.proofs.Common.{◌≡◌, ℕ, ◌+◌, zero, suc, List, [], ◌∷◌, ◌++◌, length, drop, refl, ap, sym, ◌∙◌, Result, Ok, Err, Bool, true, false, take, ◌-◌}
use Rattle.std.proofs.Common.{arith, add-one, length-append}
use Rattle.std.specs.Prelude.{if◌then◌else◌}
use Rattle.std.proofs.lemmas.List.{drop-drop, take-append-le}
use Rattle.std.proofs.Math.Seq.{take-length}
use Rattle.est_names.specs.Names.{is_among}
use Rattle.est_expand.specs.declared.scope.Meaning.{Meaning}
use Rattle.base_types.specs.declared.place.Span.{Span}
use Rattle.est_ast.specs.declared.trees.Name.{Name}
use Rattle.est_ast.specs.declared.trees.Rename.{Rename}
use Rattle.est_ast.specs.FlatTrees as flat
use Rattle.est_ast.specs.Trees.{Expr, Stmt, At, Form, Part, Stmts, MoreStmts, Cases, MoreCases, Module, SourceProgram}
use Rattle.est_expand.specs.declared.refusal.ExpandFault.{ExpandFault}
use Rattle.est_expand.specs.Answers.{AnswersAsDefined}
use Rattle.est_expand.specs.Faults.{FlattenFault, Recursive, TooDeep}
use Rattle.est_expand.specs.Scopes.{NameScope, binding, interface}
use Rattle.est_expand.specs.Walks.{WalkCounts, FlatWalk, on_ok, meet_statement}
use Rattle.est_expand.specs.Tests.{test}
use Rattle.est_expand.specs.Runs.{module_named, chain_with, renamed, opened}
use Rattle.est_expand.specs.Flattening.{Around, part, each, each_case, ran, row, flattening}
use Rattle.est_expand.specs.Views.{one_case}
use Rattle.est_expand.proofs.FoundLists.{fault_stays, value_passes}

-- the same answer of an equal definition
pub answers_along : {A B : Type 0} (view : A → B) (result : Result A ExpandFault) (defined other : Result B FlattenFault)
    → other ≡ defined → AnswersAsDefined view result defined → AnswersAsDefined view result other
answers_along view (Ok value) defined other same is = same ∙ is
answers_along view (Err error) defined other same is = λ fault the. same ∙ is fault the

-- ---- statements in a list

abbrev pub before_stmts : List flat.Stmt → flat.Stmts → flat.Stmts
before_stmts [] others = others
before_stmts (p ∷ ps) others = flat.MoreStmts p (before_stmts ps others)

abbrev pub stmts_behind : List flat.Stmt → Result (flat.Stmts × WalkCounts) FlattenFault → Result (flat.Stmts × WalkCounts) FlattenFault
stmts_behind ps found = on_ok found (λ done. Ok (before_stmts ps done.0, done.1))

before_stmts-push : (ps : List flat.Stmt) (p : flat.Stmt) (others : flat.Stmts) → before_stmts (ps ++ p ∷ []) others ≡ before_stmts ps (flat.MoreStmts p others)
before_stmts-push [] p others = refl
before_stmts-push (q ∷ ps) p others = ap (flat.MoreStmts q) (before_stmts-push ps p others)

pub before_stmts-all : (ps : List flat.Stmt) → before_stmts ps flat.NoStmts ≡ flat.stmts ps
before_stmts-all [] = refl
before_stmts-all (p ∷ ps) = ap (flat.MoreStmts p) (before_stmts-all ps)

stmts_behind-step : (ps : List flat.Stmt) (p : flat.Stmt) (found : Result (flat.Stmts × WalkCounts) FlattenFault)
    → stmts_behind ps (on_ok found (λ others. Ok (flat.MoreStmts p others.0, others.1))) ≡ stmts_behind (ps ++ p ∷ []) found
stmts_behind-step ps p (Ok others) = ap (λ l. Ok (l, others.1)) (sym (before_stmts-push ps p others.0))
stmts_behind-step ps p (Err fault) = refl

module _ (inside : Stmt → FlatWalk flat.Stmt) where
  -- one more statement was found
  pub each-step : (ps : List flat.Stmt) (s : Stmt) (others : Stmts) (met met' : WalkCounts) (p : flat.Stmt) → inside s met ≡ Ok (p, met')
      → stmts_behind ps (each inside (MoreStmts s others) met) ≡ stmts_behind (ps ++ p ∷ []) (each inside others met')
  each-step ps s others met met' p is =
      ap (stmts_behind ps) (value_passes (inside s met) _ (p, met') is) ∙ stmts_behind-step ps p (each inside others met')

  -- a fault in a list
  pub each-fault : (ps : List flat.Stmt) (s : Stmt) (others : Stmts) (met : WalkCounts) (fault : FlattenFault) → inside s met ≡ Err fault
      → stmts_behind ps (each inside (MoreStmts s others) met) ≡ Err fault
  each-fault ps s others met fault is = ap (stmts_behind ps) (fault_stays (inside s met) _ fault is)

-- ---- cases

abbrev pub before_cases : List (flat.Expr × flat.Part) → flat.Cases → flat.Cases
before_cases [] others = others
before_cases (c ∷ cs) others = flat.MoreCases c.0 c.1 (before_cases cs others)

abbrev pub cases_behind : List (flat.Expr × flat.Part) → Result (flat.Cases × WalkCounts) FlattenFault → Result (flat.Cases × WalkCounts) FlattenFault
cases_behind cs found = on_ok found (λ done. Ok (before_cases cs done.0, done.1))

before_cases-push : (cs : List (flat.Expr × flat.Part)) (c : flat.Expr × flat.Part) (others : flat.Cases) →
    before_cases (cs ++ c ∷ []) others ≡ before_cases cs (flat.MoreCases c.0 c.1 others)
before_cases-push [] c others = refl
before_cases-push (d ∷ cs) c others = ap (flat.MoreCases d.0 d.1) (before_cases-push cs c others)

pub before_cases-all : (cs : List (flat.Expr × flat.Part)) → before_cases cs flat.NoCases ≡ flat.cases cs
before_cases-all [] = refl
before_cases-all (c ∷ cs) = ap (flat.MoreCases c.0 c.1) (before_cases-all cs)

cases_behind-step : (cs : List (flat.Expr × flat.Part)) (c : flat.Expr × flat.Part) (found : Result (flat.Cases × WalkCounts) FlattenFault)
    → cases_behind cs (on_ok found (λ others. Ok (flat.MoreCases c.0 c.1 others.0, others.1))) ≡ cases_behind (cs ++ c ∷ []) found
cases_behind-step cs c (Ok others) = ap (λ l. Ok (l, others.1)) (sym (before_cases-push cs c others.0))
cases_behind-step cs c (Err fault) = refl

module _ (scope : NameScope) (inside : Stmt → FlatWalk flat.Stmt) where
  -- a list begins with a case
  abbrev and_others : Cases → Result ((flat.Expr × flat.Part) × WalkCounts) FlattenFault → Result (flat.Cases × WalkCounts) FlattenFault
  and_others others found =
      on_ok found (λ done. on_ok (each_case scope inside others done.1) (λ more. Ok (flat.MoreCases done.0.0 done.0.1 more.0, more.1)))

  body_first : (others : Cases) (event : flat.Expr) (found : Result (flat.Part × WalkCounts) FlattenFault)
      → on_ok found (λ body. on_ok (each_case scope inside others body.1) (λ more. Ok (flat.MoreCases event body.0 more.0, more.1)))
      ≡ and_others others (on_ok found (λ body. Ok ((event, body.0), body.1)))
  body_first others event (Ok body) = refl
  body_first others event (Err fault) = refl

  event_first : (others : Cases) (body : Part) (met : WalkCounts) (found : Result flat.Expr FlattenFault)
      → on_ok found (λ event. on_ok (part inside body met) (λ body. on_ok (each_case scope inside others body.1)
      (λ more. Ok (flat.MoreCases event body.0 more.0, more.1))))
      ≡ and_others others (on_ok found (λ event. on_ok (part inside body met) (λ body. Ok ((event, body.0), body.1))))
  event_first others body met (Ok event) = body_first others event (part inside body met)
  event_first others body met (Err fault) = refl

  pub each_case-first : (c : Expr × Part) (others : Cases) (met : WalkCounts)
      → each_case scope inside (MoreCases c.0 c.1 others) met ≡ and_others others (one_case scope inside c met)
  each_case-first c others met = event_first others c.1 met (test scope c.0)

  -- one more case was found
  pub each_case-step : (cs : List (flat.Expr × flat.Part)) (c : Expr × Part) (others : Cases) (met met' : WalkCounts) (d : flat.Expr × flat.Part) →
      one_case scope inside c met ≡ Ok (d, met')
      → cases_behind cs (each_case scope inside (MoreCases c.0 c.1 others) met) ≡ cases_behind (cs ++ d ∷ []) (each_case scope inside others met')
  each_case-step cs c others met met' d is =
      ap (cases_behind cs) (each_case-first c others met ∙ ap (and_others others) is) ∙ cases_behind-step cs d (each_case scope inside others met')

  -- a fault in a list
  pub each_case-fault : (cs : List (flat.Expr × flat.Part)) (c : Expr × Part) (others : Cases) (met : WalkCounts) (fault : FlattenFault) →
      one_case scope inside c met ≡ Err fault
      → cases_behind cs (each_case scope inside (MoreCases c.0 c.1 others) met) ≡ Err fault
  each_case-fault cs c others met fault is = ap (cases_behind cs) (each_case-first c others met ∙ ap (and_others others) is)

-- ---- binders

pub drop-binding : (input : Bool) (names : List (List ℕ)) (next : ℕ) (scope : NameScope) → drop (length names) (binding input names next scope) ≡ scope
drop-binding input [] next scope = refl
drop-binding input (name ∷ names) next scope =
    let b : List ℕ × Meaning = (name, record { signal = next; input = input }) in
    ap (λ n. drop n (binding input names (next + 1) (b ∷ scope))) (sym (add-one (length names)))
    ∙ sym (drop-drop 1 (length names) (binding input names (next + 1) (b ∷ scope))) ∙ ap (drop 1) (drop-binding input names (next + 1) (b ∷ scope))

-- ---- runs

entered : (b : Bool) (fault : FlattenFault) (chain entering : List (List ℕ)) → (if b then Err fault else Ok chain) ≡ Ok entering → entering ≡ chain
entered true fault chain entering is = absurd (cc)
entered false fault chain entering is = cc

-- a module that is entered is the last of its chain
pub chain_with-Ok : (chain : List (List ℕ)) (name : Name) (entering : List (List ℕ)) → chain_with chain name ≡ Ok entering → entering ≡ chain ++ name.text ∷ []
chain_with-Ok chain name entering is =
    entered (is_among name.text chain) (Recursive name.span (chain ++ name.text ∷ [])) (chain ++ name.text ∷ []) entering is

pub take-push : {A : Type 0} (xs : List A) (x : A) → take (length (xs ++ x ∷ []) - 1) (xs ++ x ∷ []) ≡ xs
take-push xs x =
    let n : length (xs ++ x ∷ []) - 1 ≡ length xs = omega (arith, length-append xs (x ∷ [])) in
    ap (λ n. take n (xs ++ x ∷ [])) n ∙ take-append-le (length xs) xs (x ∷ []) (omega arith) ∙ take-length xs

on_ok-on_ok : {A B C : Type 0} (r : Result A FlattenFault) (f : A → Result B FlattenFault) (g : B → Result C FlattenFault)
    → on_ok r (λ a. on_ok (f a) g) ≡ on_ok (on_ok r f) g
on_ok-on_ok (Ok a) f g = refl
on_ok-on_ok (Err fault) f g = refl

module _ (modules : SourceProgram) (inputs : ℕ) where
  -- a `run` is the body of its module in the scope that it opens
  pub ran-inside : (inside : Around → Stmt → FlatWalk flat.Stmt) (around : Around) (name : Name) (renames : List Rename) (m : Module) (chain : List (List ℕ))
      (scope : NameScope) (met : WalkCounts)
      → module_named modules name ≡ Ok m
      → chain_with around.chain name ≡ Ok chain
      → on_ok (renamed (interface m) around.scope [] renames) (λ given. opened name.span around.scope given [] (interface m)) ≡ Ok scope
      → ran modules inputs inside around name renames met ≡ inside (record { scope = scope; traps = []; chain = chain }) m.body met
  ran-inside inside around name renames m chain scope met the enters opens =
      value_passes (module_named modules name) _ m the ∙ value_passes (chain_with around.chain name) _ chain enters
      ∙ on_ok-on_ok (renamed (interface m) around.scope [] renames) (λ given. opened name.span around.scope given [] (interface m))
      (λ scope. inside (record { scope = scope; traps = []; chain = chain }) m.body met)
      ∙ value_passes _ _ scope opens

  -- ---- statements

  -- with room for one more, a statement is its row behind its count
  pub flattening-in : (room more : ℕ) (around : Around) (at : Span) (form : Form) (met : WalkCounts) → room ≡ more + 1
      → flattening modules inputs room around (At at form) met
      ≡ on_ok (meet_statement met) (λ done. row modules inputs (flattening modules inputs more) around at form done.1)
  unfolding flattening
  flattening-in room more around at form met is =
      ap (λ r. flattening modules inputs r around (At at form) met) (is ∙ add-one more)

  -- without room, it is too deep
  pub flattening-deep : (room : ℕ) (around : Around) (at : Span) (form : Form) (met : WalkCounts) → room ≡ 0
      → flattening modules inputs room around (At at form) met ≡ on_ok (meet_statement met) (λ done. Err TooDeep)
  unfolding flattening
  flattening-deep room around at form met is = ap (λ r. flattening modules inputs r around (At at form) met) is

  -- where it cannot be counted, that is the fault
  pub flattening-uncounted : (room : ℕ) (around : Around) (at : Span) (form : Form) (met : WalkCounts) (fault : FlattenFault) → meet_statement met ≡ Err fault
      → flattening modules inputs room around (At at form) met ≡ Err fault
  unfolding flattening
  flattening-uncounted zero around at form met fault is = fault_stays (meet_statement met) _ fault is
  flattening-uncounted (suc room) around at form met fault is = fault_stays (meet_statement met) _ fault is

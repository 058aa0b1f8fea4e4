-- Inner: the walk over a program gives what the walk over its inlined main module gives.
use Rattle.std.proofs.Common.{◌≡◌, ℕ, zero, suc, ◌+◌, ◌≤◌, ◌||◌, Bool, true, false, nat_lt, List, [], ◌∷◌, ◌++◌, map, length, refl, ap, sym, subst, ◌∙◌}
use Rattle.std.proofs.Common.{Option, Some, None, Result, Ok, Err, arith}
use Rattle.std.specs.Prelude.{nat_le, find, drop, flat_map, if◌then◌else◌, IfOk}
use Rattle.std.specs.Option.{option_map_or}
use Rattle.std.proofs.lemmas.Bool.{lt-ltb}
use Rattle.std.proofs.lemmas.List.{map-append, length-map}
use Rattle.base_types.specs.declared.bounds.TheConstants.Limits.{STATEMENTS, SIGNALS, DEPTH}
use Rattle.base_types.specs.declared.place.Span.{Span}
use Rattle.base_types.specs.Names.{is_same_name}
use Rattle.base_types.specs.Relations as flat_relations
use Rattle.est_ast.specs.declared.trees.Name.{Name}
use Rattle.est_ast.specs.declared.trees.Rename.{Rename}
use Rattle.est_ast.specs.FlatTrees as flat
use Rattle.est_ast.specs.Trees.{Delay, Plain, Immediate, Count, Stmt, At, Form, Nothing, Pause, Halt, Emit, Sustain, Await, AwaitCase, Present, PresentCase}
use Rattle.est_ast.specs.Trees.{Loop, LoopEach, Every, Repeat, Abort, AbortCase, WeakAbort, Suspend, Trap, Exit, Signal, Run, Seq, Par, Group, Part}
use Rattle.est_ast.specs.Trees.{Missing, Written, Handler, NoHandler, Handled, Stmts, NoStmts, MoreStmts, Cases, NoCases, MoreCases, NamedRelation, Implies}
use Rattle.est_ast.specs.Trees.{Excludes, Decl, Input, InputOutput, Output, Relations, Module, SourceProgram}
use Rattle.est_names.specs.Names.{texts}
use Rattle.est_expand.specs.declared.scope.Meaning.{Meaning}
use Rattle.est_expand.specs.Faults.{FlattenFault, UnknownModule, UnknownTrap, TooManySignals, TooManyStatements}
use Rattle.est_expand.specs.Scopes.{NameScope, meaning, binding, interface, inputs_in, both_in, outputs_in, ModuleInterface, main_interface, main_signals}
use Rattle.est_expand.specs.Scopes.{main_scope}
use Rattle.est_expand.specs.Walks.{WalkCounts, beginning, FlatWalk, on_ok, give, stop, after, knowing, meet_statement, meet_signals, meet_added}
use Rattle.est_expand.specs.Tests.{found_or, test, awaited}
use Rattle.est_expand.specs.Runs.{chain_with, renamed, opened}
use Rattle.est_expand.specs.Flattening.{Around, in_signals, in_trap, part, each, each_case, meet_delay, exit_of, handler, emitted, row, flattening}
use Rattle.est_expand.specs.Flattening.{related, relation_in, relations_in, around_main, main_walk, flattened}
use Rattle.est_expand.proofs.Exports.{numbers-alike}
use Rattle.est_expand_laws.specs.Inlining as copy
use Rattle.est_expand_laws.specs.Inlining.{own, Place, inside_binders, inside_module, name_by, test_by, delay_by, part_by, stmts_by, cases_by, handler_by}
use Rattle.est_expand_laws.specs.Inlining.{inlining}
use Rattle.est_expand_laws.specs.Inlining.{relation_by, decl_by, in_main, inlined}
use Rattle.est_expand_laws.specs.Laws.{with_source_names, is_limit, InliningIsFlattening, InliningKeepsLimits}
use Rattle.est_expand_laws.proofs.InlinedNames.{Follows, fault-follows, on_ok-follows, if-follows, only-follows, Found, own-same, Apart, apart-main}
use Rattle.est_expand_laws.proofs.InlinedNames.{apart-binders}
use Rattle.est_expand_laws.proofs.InlinedNames.{apart-module, texts-by, without-own, ExitsStay, exits-more, exit_of-follows, Same, Means, means-binders}
use Rattle.est_expand_laws.proofs.InlinedNames.{emitted-follows, test-follows, awaited-follows, means-module, no_limit-chain_with, no_limit-renamed}
use Rattle.est_expand_laws.proofs.InlinedNames.{no_limit-opened}

two : {A B C : Type 0} (f : A → B → C) {a a' : A} {b b' : B} → a ≡ a' → b ≡ b' → f a b ≡ f a' b'
two f {a = a} {a' = a'} {b = b} {b' = b'} p q = ap (λ x. f x b) p ∙ ap (f a') q

applied : {A B : Type 0} {f g : A → B} {a b : A} → f ≡ g → a ≡ b → f a ≡ g b
applied p q = two (λ f a. f a) p q

-- ---- what is met

-- the same was met, with names behind what was written before them
pub record Alike (met other : WalkCounts) : Type 0 where
  pub statements : met.statements ≡ other.statements
  pub added : met.added ≡ other.added
  pub names : met.signals ≡ map (drop 1) other.signals

alike_count : (met other : WalkCounts) → Alike met other → length met.signals ≡ length other.signals
alike_count met other is = ap length is.names ∙ length-map other.signals (drop 1)

-- two walks gave the same
abbrev pub Done : {A : Type 0} → A × WalkCounts → A × WalkCounts → Type 0
Done d e = (d.0 ≡ e.0) × Alike d.1 e.1

abbrev pub FollowingWalks : {A : Type 0} → FlatWalk A → FlatWalk A → Type 0
FollowingWalks walk more = (met other : WalkCounts) → Alike met other → Follows Done (walk met) (more other)

meet_statement-follows : FollowingWalks meet_statement meet_statement
meet_statement-follows met other is =
    if-follows Done (nat_lt met.statements STATEMENTS) (nat_lt other.statements STATEMENTS) (Ok (tt, record met { statements = met.statements + 1 }))
    (Ok (tt, record other { statements = other.statements + 1 })) TooManyStatements (ap (λ n. nat_lt n STATEMENTS) is.statements)
    (refl, record { statements = ap (λ n. n + 1) is.statements; added = is.added; names = is.names })

meet_added-follows : FollowingWalks meet_added meet_added
meet_added-follows met other is =
    if-follows Done (nat_lt (length met.signals + met.added) SIGNALS) (nat_lt (length other.signals + other.added) SIGNALS)
    (Ok (tt, record met { added = met.added + 1 })) (Ok (tt, record other { added = other.added + 1 })) TooManySignals
    (two (λ n k. nat_lt (n + k) SIGNALS) (alike_count met other is) is.added)
    (refl, record { statements = is.statements; added = ap (λ n. n + 1) is.added; names = is.names })

meet_signals-follows : (names others : List (List ℕ)) → names ≡ map (drop 1) others → FollowingWalks (meet_signals names) (meet_signals others)
meet_signals-follows names others same met other is =
    let count = alike_count met other is in
    let long : length names ≡ length others = ap length same ∙ length-map others (drop 1) in
    let total : length met.signals + length names + met.added ≡ length other.signals + length others + other.added = omega (arith, count, long, is.added) in
    if-follows Done (nat_le (length met.signals + length names + met.added) SIGNALS) (nat_le (length other.signals + length others + other.added) SIGNALS)
    (Ok (length met.signals, record met { signals = met.signals ++ names })) (Ok (length other.signals, record other { signals = other.signals ++ others }))
    TooManySignals (ap (λ n. nat_le n SIGNALS) total) (
      count,
      record {
        statements = is.statements;
        added = is.added;
        names = two (λ xs ys. xs ++ ys) is.names same ∙ sym (map-append (drop 1) other.signals others);
      },
    )

meet_delay-follows : (becomes : List ℕ → List ℕ) (d : Delay) → FollowingWalks (meet_delay d) (meet_delay (delay_by becomes d))
meet_delay-follows becomes (Plain event) met other is = (refl, is)
meet_delay-follows becomes (Immediate event) met other is = (refl, is)
meet_delay-follows becomes (Count count span event) met other is = by (nat_lt 1 count)
  where
    by : (b : Bool) → Follows Done ((if b then meet_added else give tt) met) ((if b then meet_added else give tt) other)
    by true = meet_added-follows met other is
    by false = (refl, is)

-- ---- what stands around two statements

module _ (inputs : ℕ) where
  -- around a statement of a module and what it becomes
  pub record Stands (here : Place) (around other : Around) : Type 0 where
    pub apart : Apart here
    pub names : Means inputs here.becomes around.scope other.scope
    pub exits : ExitsStay here.depth around.traps other.traps

  stands-signals : (here : Place) (around other : Around) (names : List Name) (next more : ℕ) → next ≡ more → Stands here around other
      → Stands (inside_binders (texts names) here) (in_signals (texts names) next around) (in_signals (texts (map (name_by (own here.depth)) names)) more other)
  stands-signals here around other names next more same is = record {
    apart = apart-binders (texts names) here is.apart;
    names = subst (λ l. Means inputs (inside_binders (texts names) here).becomes (binding false (texts names) next around.scope)
        (binding false l more other.scope)) (sym (texts-by (own here.depth) names))
        (means-binders inputs (texts names) next more here around.scope other.scope is.apart same is.names);
    exits = is.exits;
  }

  stands-trap : (here : Place) (around other : Around) (name : Name) → Stands here around other
      → Stands here (in_trap name.text around) (in_trap (own here.depth name.text) other)
  stands-trap here around other name is = record {
    apart = is.apart;
    names = is.names;
    exits = exits-more here.depth around.traps other.traps name.text is.exits;
  }

  -- ---- statements

  -- what a statement becomes gives the same
  abbrev pub InsideFollows : (Around → Stmt → FlatWalk flat.Stmt) → (Around → Stmt → FlatWalk flat.Stmt) → (Place → Stmt → Stmt) → Type 0
  InsideFollows inside within becoming =
      (here : Place) (around other : Around) → Stands here around other → (p : Stmt) → FollowingWalks (inside around p) (within other (becoming here p))

  module _ (inside within : Around → Stmt → FlatWalk flat.Stmt) (becoming : Place → Stmt → Stmt) (follows : InsideFollows inside within becoming) where
    module _ (here : Place) (around other : Around) (is : Stands here around other) where
      part-follows : (p : Part) → FollowingWalks (part (inside around) p) (part (within other) (part_by (becoming here) p))
      part-follows Missing met met' alike = (refl, alike)
      part-follows (Written p) met met' alike =
          on_ok-follows Done Done (inside around p met) (within other (becoming here p) met') _ _ (follows here around other is p met met' alike)
          (λ d e done. (ap flat.Written done.0, done.1))

      each-follows : (ps : Stmts) → FollowingWalks (each (inside around) ps) (each (within other) (stmts_by (becoming here) ps))
      each-follows NoStmts met met' alike = (refl, alike)
      each-follows (MoreStmts p ps) met met' alike =
          on_ok-follows Done Done (inside around p met) (within other (becoming here p) met') _ _ (follows here around other is p met met' alike) (λ d e done.
          on_ok-follows Done Done (each (inside around) ps d.1) (each (within other) (stmts_by (becoming here) ps) e.1) _ _
          (each-follows ps d.1 e.1 done.1) (λ ds es all. (two flat.MoreStmts done.0 all.0, all.1)))

      test-here : (e : _) → Follows (λ a b. a ≡ b) (test around.scope e) (test other.scope (test_by here.becomes e))
      test-here = test-follows inputs here.becomes around.scope other.scope is.names

      awaited-here : (d : Delay) → Follows (λ a b. a ≡ b) (awaited around.scope d) (awaited other.scope (delay_by here.becomes d))
      awaited-here = awaited-follows inputs here.becomes around.scope other.scope is.names

      emitted-here : (n : Name) → Follows (λ a b. a ≡ b) (emitted inputs around.scope n) (emitted inputs other.scope (name_by here.becomes n))
      emitted-here = emitted-follows inputs here.becomes around.scope other.scope is.names

      cases-follow : (cs : Cases)
          → FollowingWalks (each_case around.scope (inside around) cs) (each_case other.scope (within other) (cases_by here.becomes (becoming here) cs))
      cases-follow NoCases met met' alike = (refl, alike)
      cases-follow (MoreCases e p cs) met met' alike =
          on_ok-follows (λ a b. a ≡ b) Done (test around.scope e) (test other.scope (test_by here.becomes e)) _ _ (test-here e) (λ x y tested.
          on_ok-follows Done Done (part (inside around) p met) (part (within other) (part_by (becoming here) p) met') _ _ (part-follows p met met' alike)
          (λ u v done.
          on_ok-follows Done Done (each_case around.scope (inside around) cs u.1)
          (each_case other.scope (within other) (cases_by here.becomes (becoming here) cs) v.1) _ _
          (cases-follow cs u.1 v.1 done.1) (λ us vs all. (applied (two (λ e p cs. flat.MoreCases e p cs) tested done.0) all.0, all.1))))

      handler-follows : (name : Name) (h : Handler)
          → FollowingWalks (handler (inside around) name h)
          (handler (within other) (name_by (own here.depth) name) (handler_by (own here.depth) (becoming here) h))
      handler-follows name NoHandler met met' alike = (refl, alike)
      handler-follows name (Handled n p) met met' alike =
          by (is_same_name n.text name.text) (is_same_name (own here.depth n.text) (own here.depth name.text)) (sym (own-same here.depth n.text name.text))
        where
          by : (c d : Bool) → c ≡ d → Follows Done ((if c then after (inside around p) (λ p. give (flat.Written p)) else stop (UnknownTrap n.span)) met)
              ((if d then after (within other (becoming here p)) (λ p. give (flat.Written p)) else stop (UnknownTrap n.span)) met')
          by true true same =
              on_ok-follows Done Done (inside around p met) (within other (becoming here p) met') _ _ (follows here around other is p met met' alike)
              (λ d e done. (ap flat.Written done.0, done.1))
          by true false same = absurd (cc)
          by false true same = absurd (cc)
          by false false same = λ limit. refl

    module _ (modules : SourceProgram) where
      run-follows : (here : Place) (around other : Around) → Stands here around other → (at : Span) (name : Name) (renames : List Rename)
          → FollowingWalks (row modules inputs inside around at (Run name renames))
          (row [] inputs within other at (copy.row modules becoming here (Run name renames)))
      run-follows here around other is at name renames met met' alike = by (find (λ m. is_same_name name.text m.name.text) modules)
        where
          by : (o : Option Module) → Follows Done
              (knowing (found_or (UnknownModule name.span) o) (λ m. knowing (chain_with around.chain name) (λ chain.
              knowing (renamed (interface m) around.scope [] renames) (λ given. knowing (opened name.span around.scope given [] (interface m)) (λ scope.
              inside (record { scope = scope; traps = []; chain = chain }) m.body)))) met)
              (row [] inputs within other at (copy.ran becoming here name renames o) met')
          by None = fault-follows Done (UnknownModule name.span) (row [] inputs within other at (Run name renames) met') refl
          by (Some m) =
              only-follows Done (chain_with around.chain name) _ (within other (becoming (inside_module m renames here) m.body) met')
              (no_limit-chain_with around.chain name) (λ chain enters.
              only-follows Done (renamed (interface m) around.scope [] renames) _ (within other (becoming (inside_module m renames here) m.body) met')
              (no_limit-renamed (interface m) around.scope [] renames) (λ given gives.
              only-follows Done (opened name.span around.scope given [] (interface m)) _ (within other (becoming (inside_module m renames here) m.body) met')
              (no_limit-opened name.span around.scope given [] (interface m)) (λ scope opens.
              follows (inside_module m renames here) (record { scope = scope; traps = []; chain = chain }) other
              (record {
                apart = apart-module m renames here is.apart;
                names = means-module inputs m renames here around.scope other.scope given scope name.span gives opens is.names;
                exits = λ x. tt;
              }) m.body met met' alike)))

      row-follows : (here : Place) (around other : Around) → Stands here around other → (at : Span) (f : Form)
          → FollowingWalks (row modules inputs inside around at f) (row [] inputs within other at (copy.row modules becoming here f))
      row-follows here around other is at Nothing met met' alike = (refl, alike)
      row-follows here around other is at Pause met met' alike = (refl, alike)
      row-follows here around other is at Halt met met' alike = (refl, alike)
      row-follows here around other is at (Emit n) met met' alike =
          on_ok-follows (λ s t. s ≡ t) Done (emitted inputs around.scope n) (emitted inputs other.scope (name_by here.becomes n)) _ _
          (emitted-here here around other is n) (λ s t done. (ap (λ k. flat.At at (flat.Emit k)) done, alike))
      row-follows here around other is at (Sustain n) met met' alike =
          on_ok-follows (λ s t. s ≡ t) Done (emitted inputs around.scope n) (emitted inputs other.scope (name_by here.becomes n)) _ _
          (emitted-here here around other is n) (λ s t done. (ap (λ k. flat.At at (flat.Sustain k)) done, alike))
      row-follows here around other is at (Await d q) met met' alike =
          on_ok-follows (λ s t. s ≡ t) Done (awaited around.scope d) (awaited other.scope (delay_by here.becomes d)) _ _
          (awaited-here here around other is d) (λ x y there.
          on_ok-follows Done Done (part (inside around) q met) (part (within other) (part_by (becoming here) q) met') _ _
          (part-follows here around other is q met met' alike) (λ u v done. (two (λ x q. flat.At at (flat.Await x q)) there done.0, done.1)))
      row-follows here around other is at (AwaitCase cs) met met' alike =
          on_ok-follows Done Done (each_case around.scope (inside around) cs met)
          (each_case other.scope (within other) (cases_by here.becomes (becoming here) cs) met') _ _
          (cases-follow here around other is cs met met' alike) (λ u v done. (ap (λ cs. flat.At at (flat.AwaitCase cs)) done.0, done.1))
      row-follows here around other is at (Present e p q) met met' alike =
          on_ok-follows (λ s t. s ≡ t) Done (test around.scope e) (test other.scope (test_by here.becomes e)) _ _ (test-here here around other is e)
          (λ x y there.
          on_ok-follows Done Done (part (inside around) p met) (part (within other) (part_by (becoming here) p) met') _ _
          (part-follows here around other is p met met' alike) (λ u v done.
          on_ok-follows Done Done (part (inside around) q u.1) (part (within other) (part_by (becoming here) q) v.1) _ _
          (part-follows here around other is q u.1 v.1 done.1) (λ k l last.
          (applied (two (λ e p q. flat.At at (flat.Present e p q)) there done.0) last.0, last.1))))
      row-follows here around other is at (PresentCase cs q) met met' alike =
          on_ok-follows Done Done (each_case around.scope (inside around) cs met)
          (each_case other.scope (within other) (cases_by here.becomes (becoming here) cs) met') _ _
          (cases-follow here around other is cs met met' alike) (λ u v done.
          on_ok-follows Done Done (part (inside around) q u.1) (part (within other) (part_by (becoming here) q) v.1) _ _
          (part-follows here around other is q u.1 v.1 done.1) (λ k l last. (two (λ cs q. flat.At at (flat.PresentCase cs q)) done.0 last.0, last.1)))
      row-follows here around other is at (Loop p) met met' alike =
          on_ok-follows Done Done (inside around p met) (within other (becoming here p) met') _ _ (follows here around other is p met met' alike)
          (λ u v done. (ap (λ p. flat.At at (flat.Loop p)) done.0, done.1))
      row-follows here around other is at (LoopEach p d) met met' alike =
          on_ok-follows Done Done (meet_delay d met) (meet_delay (delay_by here.becomes d) met') _ _ (meet_delay-follows here.becomes d met met' alike)
          (λ c c' counted.
          on_ok-follows Done Done (inside around p c.1) (within other (becoming here p) c'.1) _ _ (follows here around other is p c.1 c'.1 counted.1)
          (λ u v done.
          on_ok-follows (λ s t. s ≡ t) Done (awaited around.scope d) (awaited other.scope (delay_by here.becomes d)) _ _
          (awaited-here here around other is d) (λ x y there. (two (λ p x. flat.At at (flat.LoopEach p x)) done.0 there, done.1))))
      row-follows here around other is at (Every d p) met met' alike =
          on_ok-follows Done Done (meet_delay d met) (meet_delay (delay_by here.becomes d) met') _ _ (meet_delay-follows here.becomes d met met' alike)
          (λ c c' counted.
          on_ok-follows (λ s t. s ≡ t) Done (awaited around.scope d) (awaited other.scope (delay_by here.becomes d)) _ _
          (awaited-here here around other is d) (λ x y there.
          on_ok-follows Done Done (inside around p c.1) (within other (becoming here p) c'.1) _ _ (follows here around other is p c.1 c'.1 counted.1)
          (λ u v done. (two (λ x p. flat.At at (flat.Every x p)) there done.0, done.1))))
      row-follows here around other is at (Repeat count span p) met met' alike =
          on_ok-follows Done Done (inside around p met) (within other (becoming here p) met') _ _ (follows here around other is p met met' alike)
          (λ u v done. (ap (λ p. flat.At at (flat.Repeat count span p)) done.0, done.1))
      row-follows here around other is at (Abort p d q) met met' alike =
          on_ok-follows Done Done (meet_delay d met) (meet_delay (delay_by here.becomes d) met') _ _ (meet_delay-follows here.becomes d met met' alike)
          (λ c c' counted.
          on_ok-follows Done Done (inside around p c.1) (within other (becoming here p) c'.1) _ _ (follows here around other is p c.1 c'.1 counted.1)
          (λ u v done.
          on_ok-follows (λ s t. s ≡ t) Done (awaited around.scope d) (awaited other.scope (delay_by here.becomes d)) _ _
          (awaited-here here around other is d) (λ x y there.
          on_ok-follows Done Done (part (inside around) q u.1) (part (within other) (part_by (becoming here) q) v.1) _ _
          (part-follows here around other is q u.1 v.1 done.1) (λ k l last.
          (applied (two (λ p x q. flat.At at (flat.Abort p x q)) done.0 there) last.0, last.1)))))
      row-follows here around other is at (AbortCase p cs) met met' alike =
          on_ok-follows Done Done (inside around p met) (within other (becoming here p) met') _ _ (follows here around other is p met met' alike)
          (λ u v done.
          on_ok-follows Done Done (each_case around.scope (inside around) cs u.1)
          (each_case other.scope (within other) (cases_by here.becomes (becoming here) cs) v.1) _ _
          (cases-follow here around other is cs u.1 v.1 done.1) (λ k l last. (two (λ p cs. flat.At at (flat.AbortCase p cs)) done.0 last.0, last.1)))
      row-follows here around other is at (WeakAbort p d) met met' alike =
          on_ok-follows Done Done (inside around p met) (within other (becoming here p) met') _ _ (follows here around other is p met met' alike)
          (λ u v done.
          on_ok-follows (λ s t. s ≡ t) Done (awaited around.scope d) (awaited other.scope (delay_by here.becomes d)) _ _
          (awaited-here here around other is d) (λ x y there. (two (λ p x. flat.At at (flat.WeakAbort p x)) done.0 there, done.1)))
      row-follows here around other is at (Suspend p d) met met' alike =
          on_ok-follows Done Done (inside around p met) (within other (becoming here p) met') _ _ (follows here around other is p met met' alike)
          (λ u v done.
          on_ok-follows (λ s t. s ≡ t) Done (awaited around.scope d) (awaited other.scope (delay_by here.becomes d)) _ _
          (awaited-here here around other is d) (λ x y there. (two (λ p x. flat.At at (flat.Suspend p x)) done.0 there, done.1)))
      row-follows here around other is at (Trap n p h) met met' alike =
          on_ok-follows Done Done (inside (in_trap n.text around) p met) (within (in_trap (own here.depth n.text) other) (becoming here p) met') _ _
          (follows here (in_trap n.text around) (in_trap (own here.depth n.text) other) (stands-trap here around other n is) p met met' alike)
          (λ u v done.
          on_ok-follows Done Done (handler (inside around) n h u.1)
          (handler (within other) (name_by (own here.depth) n) (handler_by (own here.depth) (becoming here) h) v.1) _ _
          (handler-follows here around other is n h u.1 v.1 done.1) (λ x y last. (two (λ p q. flat.At at (flat.Trap p q)) done.0 last.0, last.1)))
      row-follows here around other is at (Exit n) met met' alike =
          on_ok-follows (λ s t. s ≡ t) Done (exit_of around.traps n) (exit_of other.traps (name_by (own here.depth) n)) _ _
          (exit_of-follows here.depth around.traps other.traps n is.exits) (λ s t done. (ap (λ k. flat.At at (flat.Exit k)) done, alike))
      row-follows here around other is at (Signal ns p) met met' alike =
          let ms : List Name = map (name_by (own here.depth)) ns in
          let written : texts ns ≡ map (drop 1) (texts ms) =
          sym (ap (map (drop 1)) (texts-by (own here.depth) ns) ∙ without-own here.depth (texts ns)) in
          let long : length (texts ns) ≡ length (texts ms) = ap length written ∙ length-map (texts ms) (drop 1) in
          on_ok-follows Done Done (meet_signals (texts ns) met) (meet_signals (texts ms) met') _ _
          (meet_signals-follows (texts ns) (texts ms) written met met' alike) (λ c c' counted.
          on_ok-follows Done Done (inside (in_signals (texts ns) c.0 around) p c.1)
          (within (in_signals (texts ms) c'.0 other) (becoming (inside_binders (texts ns) here) p) c'.1) _ _
          (follows (inside_binders (texts ns) here) (in_signals (texts ns) c.0 around) (in_signals (texts ms) c'.0 other)
          (stands-signals here around other ns c.0 c'.0 counted.0 is) p c.1 c'.1 counted.1) (λ u v done.
          (two (λ ns p. flat.At at (flat.Signal ns p)) (numbers-alike (texts ns) (texts ms) c.0 c'.0 long counted.0) done.0, done.1)))
      row-follows here around other is at (Run name renames) met met' alike = run-follows here around other is at name renames met met' alike
      row-follows here around other is at (Seq ps) met met' alike =
          on_ok-follows Done Done (each (inside around) ps met) (each (within other) (stmts_by (becoming here) ps) met') _ _
          (each-follows here around other is ps met met' alike) (λ u v done. (ap (λ ps. flat.At at (flat.Seq ps)) done.0, done.1))
      row-follows here around other is at (Par ps) met met' alike =
          on_ok-follows Done Done (each (inside around) ps met) (each (within other) (stmts_by (becoming here) ps) met') _ _
          (each-follows here around other is ps met met' alike) (λ u v done. (ap (λ ps. flat.At at (flat.Par ps)) done.0, done.1))
      row-follows here around other is at (Group p) met met' alike = follows here around other is p met met' alike

  pub flattening-follows : (modules : SourceProgram) (room : ℕ)
      → InsideFollows (flattening modules inputs room) (flattening [] inputs room) (inlining modules room)
  unfolding flattening inlining
  flattening-follows modules zero here around other is (At at form) met met' alike =
      on_ok-follows Done Done (meet_statement met) (meet_statement met') _ _ (meet_statement-follows met met' alike) (λ d e done limit. refl)
  flattening-follows modules (suc room) here around other is (At at form) met met' alike =
      on_ok-follows Done Done (meet_statement met) (meet_statement met') _ _ (meet_statement-follows met met' alike) (λ d e done.
      row-follows (flattening modules inputs room) (flattening [] inputs room) (inlining modules room) (flattening-follows modules room) modules here
      around other is at form d.1 e.1 done.1)

-- ---- the main module

abbrev interface_by : ModuleInterface → ModuleInterface
interface_by i = record { inputs = map (own 0) i.inputs; both = map (own 0) i.both; outputs = map (own 0) i.outputs }

-- a list of what declarations declare
flat_map-by : {A B : Type 0} (f : Decl → List A) (h : A → B) (g : Decl → List B) → ((d : Decl) → g (decl_by (own 0) d) ≡ map h (f d)) → (ds : List Decl)
    → flat_map g (map (decl_by (own 0)) ds) ≡ map h (flat_map f ds)
flat_map-by f h g each [] = refl
flat_map-by f h g each (d ∷ ds) = two (λ xs ys. xs ++ ys) (each d) (flat_map-by f h g each ds) ∙ sym (map-append h (f d) (flat_map f ds))

inputs_in-by : (d : Decl) → inputs_in (decl_by (own 0) d) ≡ map (own 0) (inputs_in d)
inputs_in-by (Input names) = texts-by (own 0) names
inputs_in-by (InputOutput names) = refl
inputs_in-by (Output names) = refl
inputs_in-by (Relations relations) = refl

both_in-by : (d : Decl) → both_in (decl_by (own 0) d) ≡ map (own 0) (both_in d)
both_in-by (Input names) = refl
both_in-by (InputOutput names) = texts-by (own 0) names
both_in-by (Output names) = refl
both_in-by (Relations relations) = refl

outputs_in-by : (d : Decl) → outputs_in (decl_by (own 0) d) ≡ map (own 0) (outputs_in d)
outputs_in-by (Input names) = refl
outputs_in-by (InputOutput names) = refl
outputs_in-by (Output names) = texts-by (own 0) names
outputs_in-by (Relations relations) = refl

relations_in-by : (d : Decl) → relations_in (decl_by (own 0) d) ≡ map (relation_by (own 0)) (relations_in d)
relations_in-by (Input names) = refl
relations_in-by (InputOutput names) = refl
relations_in-by (Output names) = refl
relations_in-by (Relations relations) = refl

main_interface-by : (modules : SourceProgram) (main : Module) → main_interface (inlined modules main) ≡ interface_by (main_interface main)
main_interface-by modules main =
    applied (two (λ ns ms ks. record { inputs = ns; both = ms; outputs = ks }) (flat_map-by inputs_in (own 0) inputs_in inputs_in-by main.decls)
    (flat_map-by both_in (own 0) both_in both_in-by main.decls)) (flat_map-by outputs_in (own 0) outputs_in outputs_in-by main.decls)

main_signals-by : (i : ModuleInterface) → main_signals (interface_by i) ≡ map (own 0) (main_signals i)
main_signals-by i =
    sym (map-append (own 0) i.inputs (i.both ++ i.outputs) ∙ ap (λ l. map (own 0) i.inputs ++ l) (map-append (own 0) i.both i.outputs))

-- ---- its scope

meaning-by : (input : Bool) (names : List (List ℕ)) (next more : ℕ) (scope other : NameScope) → next ≡ more
    → ((x : List ℕ) → meaning other (own 0 x) ≡ meaning scope x)
    → (x : List ℕ) → meaning (binding input (map (own 0) names) more other) (own 0 x) ≡ meaning (binding input names next scope) x
meaning-by input [] next more scope other same means = means
meaning-by input (name ∷ names) next more scope other same means =
    let m : ℕ → Meaning = λ s. record { signal = s; input = input } in
    meaning-by input names (next + 1) (more + 1) ((name, m next) ∷ scope) ((own 0 name, m more) ∷ other) (ap (λ k. k + 1) same) (λ x.
    applied (two (λ b o k. if b then Some (m k) else o) (own-same 0 x name) (means x)) (sym same))

main_scope-by : (i : ModuleInterface) (x : List ℕ) → meaning (main_scope (interface_by i)) (own 0 x) ≡ meaning (main_scope i) x
main_scope-by i =
    let inputs : length i.inputs ≡ length (map (own 0) i.inputs) = sym (length-map i.inputs (own 0)) in
    let both : length i.both ≡ length (map (own 0) i.both) = sym (length-map i.both (own 0)) in
    meaning-by true i.inputs 0 0 _ _ refl (meaning-by false i.both (length i.inputs) (length (map (own 0) i.inputs)) _ _ inputs
    (meaning-by false i.outputs (length i.inputs + length i.both) (length (map (own 0) i.inputs) + length (map (own 0) i.both)) [] []
    (two (λ n k. n + k) inputs both) (λ x. refl)))

-- what is an input there is one of the main module's
abbrev GivenInputs : ℕ → NameScope → Type 0
GivenInputs inputs scope = (x : List ℕ) (m : Meaning) → meaning scope x ≡ Some m → (m.input || nat_lt m.signal inputs) ≡ nat_lt m.signal inputs

given-more : (inputs : ℕ) (scope : NameScope) (name : List ℕ) (k : Meaning) → (k.input || nat_lt k.signal inputs) ≡ nat_lt k.signal inputs
    → GivenInputs inputs scope → GivenInputs inputs ((name, k) ∷ scope)
given-more inputs scope name k is given x m found = by (is_same_name x name) found
  where
    by : (b : Bool) → (if b then Some k else meaning scope x) ≡ Some m → (m.input || nat_lt m.signal inputs) ≡ nat_lt m.signal inputs
    by true found = let same : k ≡ m = cc in subst (λ (m : Meaning). (m.input || nat_lt m.signal inputs) ≡ nat_lt m.signal inputs) same is
    by false found = given x m found

given-binding : (inputs : ℕ) (input : Bool) (names : List (List ℕ)) (next : ℕ) (scope : NameScope) → (input ≡ true → next + length names ≤ inputs)
    → GivenInputs inputs scope → GivenInputs inputs (binding input names next scope)
given-binding inputs input [] next scope low given = given
given-binding inputs input (name ∷ names) next scope low given =
    given-binding inputs input names (next + 1) ((name, record { signal = next; input = input }) ∷ scope) (λ is. omega (arith, low is))
    (given-more inputs scope name (record { signal = next; input = input }) (by input low) given)
  where
    by : (b : Bool) → (b ≡ true → next + length (name ∷ names) ≤ inputs) → (b || nat_lt next inputs) ≡ nat_lt next inputs
    by true low = sym (lt-ltb next inputs (omega (arith, low refl)))
    by false low = refl

given-main : (i : ModuleInterface) → GivenInputs (length i.inputs) (main_scope i)
given-main i =
    given-binding (length i.inputs) true i.inputs 0 _ (λ is. omega arith)
    (given-binding (length i.inputs) false i.both (length i.inputs) _ (λ is. absurd (cc))
    (given-binding (length i.inputs) false i.outputs (length i.inputs + length i.both) [] (λ is. absurd (cc)) (λ x m found. absurd (cc))))

means-main : (i : ModuleInterface) → Means (length i.inputs) (own 0) (main_scope i) (main_scope (interface_by i))
means-main i x =
    subst (λ o. Found (Same (length i.inputs)) (meaning (main_scope i) x) o) (sym (main_scope-by i x)) (by (meaning (main_scope i) x) (given-main i x))
  where
    by : (o : Option Meaning) → ((m : Meaning) → o ≡ Some m → (m.input || nat_lt m.signal (length i.inputs)) ≡ nat_lt m.signal (length i.inputs))
        → Found (Same (length i.inputs)) o o
    by None given = tt
    by (Some m) given = record { signal = refl; given = given m refl }

-- ---- programs

related-by : (i : ModuleInterface) (name : Name) → related (main_scope (interface_by i)) (name_by (own 0) name) ≡ related (main_scope i) name
related-by i name = ap (λ found. option_map_or (λ (s : Meaning). s.signal) found 0) (main_scope-by i name.text)

all_related-by : (i : ModuleInterface) (names : List Name)
    → map (related (main_scope (interface_by i))) (map (name_by (own 0)) names) ≡ map (related (main_scope i)) names
all_related-by i [] = refl
all_related-by i (name ∷ names) = two (λ s l. s ∷ l) (related-by i name) (all_related-by i names)

relation-by : (i : ModuleInterface) (r : NamedRelation) → relation_in (main_scope (interface_by i)) (relation_by (own 0) r) ≡ relation_in (main_scope i) r
relation-by i (Implies cause effect) = two flat_relations.Implies (related-by i cause) (related-by i effect)
relation-by i (Excludes names) = ap flat_relations.Excludes (all_related-by i names)

relations-by : (i : ModuleInterface) (rs : List NamedRelation)
    → map (relation_in (main_scope (interface_by i))) (map (relation_by (own 0)) rs) ≡ map (relation_in (main_scope i)) rs
relations-by i [] = refl
relations-by i (r ∷ rs) = two (λ r l. r ∷ l) (relation-by i r) (relations-by i rs)

abbrev flat_with : List ℕ → List (List ℕ) → ℕ → ℕ → ℕ → List flat_relations.Relation → flat.Stmt → flat.Flat
flat_with name signals inputs both outputs relations body = record {
  name = name;
  signals = signals;
  inputs = inputs;
  both = both;
  outputs = outputs;
  relations = relations;
  body = body;
}

-- the flat form of a main module by itself, with this interface and these relations
abbrev flattened_with : List ℕ → Stmt → ModuleInterface → List NamedRelation → Result flat.Flat FlattenFault
flattened_with name body i relations =
    on_ok (after (meet_signals (main_signals i))
    (λ _. flattening [] (length i.inputs) (DEPTH + 1) (record { scope = main_scope i; traps = []; chain = name ∷ [] }) body) beginning)
    (λ done.
    Ok (flat_with name done.1.signals (length i.inputs) (length i.both) (length i.outputs) (map (relation_in (main_scope i)) relations) done.0))

-- the second program is the first one, but for what is written before names
abbrev SameFlat : flat.Flat → flat.Flat → Type 0
SameFlat f g = with_source_names g ≡ f

walks-follow : (modules : SourceProgram) (main : Module)
    → Follows SameFlat (flattened modules main)
    (flattened_with main.name.text (inlining modules (DEPTH + 1) in_main main.body) (interface_by (main_interface main))
    (map (relation_by (own 0)) (flat_map relations_in main.decls)))
walks-follow modules main =
    let i = main_interface main in
    let j = interface_by i in
    let body = inlining modules (DEPTH + 1) in_main main.body in
    let around : Around = record { scope = main_scope j; traps = []; chain = main.name.text ∷ [] } in
    let inputs : length j.inputs ≡ length i.inputs = length-map i.inputs (own 0) in
    let both : length j.both ≡ length i.both = length-map i.both (own 0) in
    let outputs : length j.outputs ≡ length i.outputs = length-map i.outputs (own 0) in
    let written : main_signals i ≡ map (drop 1) (main_signals j) =
    sym (ap (map (drop 1)) (main_signals-by i) ∙ without-own 0 (main_signals i)) in
    let stands : Stands (length i.inputs) in_main (around_main main) around =
    record { apart = apart-main 0; names = means-main i; exits = λ x. tt } in
    on_ok-follows Done SameFlat (main_walk modules main beginning)
    (after (meet_signals (main_signals j)) (λ _. flattening [] (length j.inputs) (DEPTH + 1) around body) beginning) _ _
    (on_ok-follows Done Done (meet_signals (main_signals i) beginning) (meet_signals (main_signals j) beginning) _ _
    (meet_signals-follows (main_signals i) (main_signals j) written beginning beginning (record { statements = refl; added = refl; names = refl }))
    (λ d e begun.
    subst (λ n. Follows Done (flattening modules (length i.inputs) (DEPTH + 1) (around_main main) main.body d.1)
    (flattening [] n (DEPTH + 1) around body e.1)) (sym inputs)
    (flattening-follows (length i.inputs) modules (DEPTH + 1) in_main (around_main main) around stands main.body d.1 e.1 begun.1)))
    (λ d e done.
    made main.name.text d.1.signals (map (drop 1) e.1.signals) (length i.inputs) (length j.inputs) (length i.both) (length j.both) (length i.outputs)
    (length j.outputs) (map (relation_in (main_scope i)) (flat_map relations_in main.decls))
    (map (relation_in (main_scope j)) (map (relation_by (own 0)) (flat_map relations_in main.decls))) d.0 e.0 done.1.names inputs both outputs
    (relations-by i (flat_map relations_in main.decls)) done.0)
  where
    made : (name : List ℕ) (ns ms : List (List ℕ)) (a b c d e f : ℕ) (rs qs : List flat_relations.Relation) (p q : flat.Stmt)
        → ns ≡ ms → b ≡ a → d ≡ c → f ≡ e → qs ≡ rs → p ≡ q
        → flat_with name ms b d f qs q ≡ flat_with name ns a c e rs p
    made name ns ms a b c d e f rs qs p q names inputs both outputs relations body = cc

flattened-follows : (modules : SourceProgram) (main : Module) → Follows SameFlat (flattened modules main) (flattened [] (inlined modules main))
flattened-follows modules main =
    subst (λ s. Follows SameFlat (flattened modules main) s) (sym as_one) (walks-follow modules main)
  where
    as_one : flattened [] (inlined modules main)
        ≡ flattened_with main.name.text (inlining modules (DEPTH + 1) in_main main.body) (interface_by (main_interface main))
        (map (relation_by (own 0)) (flat_map relations_in main.decls))
    as_one =
        two (flattened_with main.name.text (inlining modules (DEPTH + 1) in_main main.body)) (main_interface-by modules main)
        (flat_map-by relations_in (relation_by (own 0)) relations_in relations_in-by main.decls)

-- ---- laws

value-follows : {A B : Type 0} (view : B → A) (r : Result A FlattenFault) (s : Result B FlattenFault) → Follows (λ a b. view b ≡ a) r s
    → IfOk r (λ a. on_ok s (λ b. Ok (view b)) ≡ Ok a)
value-follows view (Ok a) (Ok b) is = ap Ok is
value-follows view (Ok a) (Err g) is = absurd is
value-follows view (Err f) s is = tt

limit-follows : {A B : Type 0} (R : A → B → Type 0) (r : Result A FlattenFault) (s : Result B FlattenFault) (fault : FlattenFault) → Follows R r s
    → is_limit fault ≡ true
    → r ≡ Err fault → s ≡ Err fault
limit-follows R (Ok a) s fault is limit ends = absurd (cc)
limit-follows R (Err f) (Ok b) fault is limit ends =
    let same : f ≡ fault = cc in
    let no : true ≡ false = sym limit ∙ ap is_limit (sym same) ∙ is in absurd (cc)
limit-follows R (Err f) (Err g) fault is limit ends =
    let same : f ≡ fault = cc in ap Err (sym (is (ap is_limit same ∙ limit)) ∙ same)

pub inlining-flattens : InliningIsFlattening
inlining-flattens modules main = value-follows with_source_names (flattened modules main) (flattened [] (inlined modules main)) (flattened-follows modules main)

pub inlining-limits : InliningKeepsLimits
inlining-limits modules main fault limit ends =
    limit-follows SameFlat (flattened modules main) (flattened [] (inlined modules main)) fault (flattened-follows modules main) limit ends

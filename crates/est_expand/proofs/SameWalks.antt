-- Inner: programs that are the same but for the names of what their modules bind have flat forms that are the same but for
-- the names of local signals.
use Rattle.std.proofs.Common.{◌≡◌, ℕ, zero, suc, ◌+◌, ◌≤◌, Bool, true, false, nat_lt, List, [], ◌++◌, length, refl, ap, sym, subst, ◌∙◌, Ok, Err, arith}
use Rattle.std.proofs.Common.{length-append, take}
use Rattle.std.specs.Prelude.{nat_le, if◌then◌else◌}
use Rattle.std.proofs.lemmas.List.{take-append-le, length-map}
use Rattle.base_types.specs.declared.bounds.TheConstants.Limits.{STATEMENTS, SIGNALS, DEPTH}
use Rattle.base_types.specs.declared.place.Span.{Span}
use Rattle.base_types.specs.Names.{is_same_name}
use Rattle.est_ast.specs.declared.trees.Name.{Name}
use Rattle.est_ast.specs.FlatTrees as flat
use Rattle.est_ast.specs.Trees.{Delay, Stmt, Form, Part, Handler, Stmts, Cases, Module, SourceProgram}
use Rattle.est_names.specs.Names.{texts}
use Rattle.est_expand.specs.Faults.{UnknownTrap, TooManySignals, TooManyStatements}
use Rattle.est_expand.specs.Scopes.{interface, ModuleInterface, main_interface, main_signals, main_scope}
use Rattle.est_expand.specs.Walks.{WalkCounts, beginning, FlatWalk, give, stop, after, meet_statement, meet_signals, meet_added}
use Rattle.est_expand.specs.Tests.{test, awaited}
use Rattle.est_expand.specs.Runs.{module_named, chain_with}
use Rattle.est_expand.specs.Flattening.{Around, in_signals, in_trap, part, each, each_case, numbers, meet_delay, exit_of, handler, emitted, row, flattening}
use Rattle.est_expand.specs.Flattening.{around_main, main_walk, flattened}
use Rattle.est_expand.specs.Renaming.{Binders, no_binders, in_both_signals, in_both_traps, both_formals, SameDelay, BothPlain, BothImmediate, BothCount}
use Rattle.est_expand.specs.Renaming.{SameStmt, BothAt, SameForm, BothNothing, BothPause, BothHalt, BothEmit, BothSustain, BothAwait, BothAwaitCase}
use Rattle.est_expand.specs.Renaming.{BothPresent, BothPresentCase, BothLoop, BothLoopEach, BothEvery, BothRepeat, BothAbort, BothAbortCase, BothWeakAbort}
use Rattle.est_expand.specs.Renaming.{BothSuspend, BothTrap, BothExit, BothSignal, BothRun, BothSeq, BothPar, BothGroup, SamePart, BothMissing, BothWritten}
use Rattle.est_expand.specs.Renaming.{SameHandler, BothNoHandler, BothHandled, SameStmts, BothNoStmts, BothMoreStmts, SameCases, BothNoCases, BothMoreCases}
use Rattle.est_expand.specs.Renaming.{SamePrograms, BothAre, SameButForNames}
use Rattle.est_expand.proofs.SameNames.{on_ok-both, if-both, both-refl, Agree, agree-self, agree-binding, numbers-alike, AgreeTraps, agree_traps-none}
use Rattle.est_expand.proofs.SameNames.{agree_traps-more, exit_of-both, emitted-both, test-both, awaited-both, run-both, FoundModules, module_named-both}

ap_two : {A B C : Type 0} (f : A → B → C) (a a' : A) (b b' : B) → a ≡ a' → b ≡ b' → f a b ≡ f a' b'
ap_two f a a' b b' p q = ap (λ x. f x b) p ∙ ap (f a') q

-- ---- what is met

-- The same was met but for the names of local signals. The interface has so many.
pub record Alike (seen : ℕ) (met other : WalkCounts) : Type 0 where
  pub statements : met.statements ≡ other.statements
  pub added : met.added ≡ other.added
  pub count : length met.signals ≡ length other.signals
  pub shown : seen ≤ length met.signals
  pub names : take seen met.signals ≡ take seen other.signals

module _ (seen : ℕ) where
  -- two walks gave the same
  abbrev pub Done : {A : Type 0} → A × WalkCounts → A × WalkCounts → Type 0
  Done d e = (d.0 ≡ e.0) × Alike seen d.1 e.1

  abbrev pub AlikeWalks : {A : Type 0} → FlatWalk A → FlatWalk A → Type 0
  AlikeWalks walk more = (met other : WalkCounts) → Alike seen met other → BothAre Done (walk met) (more other)

  meet_statement-alike : AlikeWalks meet_statement meet_statement
  meet_statement-alike met other is =
      if-both Done (nat_lt met.statements STATEMENTS) (nat_lt other.statements STATEMENTS) (Ok (tt, record met { statements = met.statements + 1 }))
      (Ok (tt, record other { statements = other.statements + 1 })) TooManyStatements TooManyStatements refl
      (ap (λ n. nat_lt n STATEMENTS) is.statements)
      (refl, record { statements = ap (λ n. n + 1) is.statements; added = is.added; count = is.count; shown = is.shown; names = is.names })

  meet_added-alike : AlikeWalks meet_added meet_added
  meet_added-alike met other is =
      if-both Done (nat_lt (length met.signals + met.added) SIGNALS) (nat_lt (length other.signals + other.added) SIGNALS)
      (Ok (tt, record met { added = met.added + 1 })) (Ok (tt, record other { added = other.added + 1 })) TooManySignals TooManySignals refl
      (ap_two (λ n k. nat_lt (n + k) SIGNALS) (length met.signals) (length other.signals) met.added other.added is.count is.added)
      (refl, record { statements = is.statements; added = ap (λ n. n + 1) is.added; count = is.count; shown = is.shown; names = is.names })

  meet_signals-alike : (names others : List (List ℕ)) → length names ≡ length others → AlikeWalks (meet_signals names) (meet_signals others)
  meet_signals-alike names others long met other is =
      let all = length-append met.signals names in
      let same = length-append other.signals others in
      let total : length met.signals + length names + met.added ≡ length other.signals + length others + other.added =
      omega (arith, is.count, long, is.added) in
      let low : seen ≤ length other.signals = omega (arith, is.shown, is.count) in
      if-both Done (nat_le (length met.signals + length names + met.added) SIGNALS) (nat_le (length other.signals + length others + other.added) SIGNALS)
      (Ok (length met.signals, record met { signals = met.signals ++ names })) (Ok (length other.signals, record other { signals = other.signals ++ others }))
      TooManySignals TooManySignals refl (ap (λ n. nat_le n SIGNALS) total) (
        is.count,
        record {
          statements = is.statements;
          added = is.added;
          count = omega (arith, all, same, is.count, long);
          shown = omega (arith, all, is.shown);
          names = take-append-le seen met.signals names is.shown ∙ is.names ∙ sym (take-append-le seen other.signals others low);
        },
      )

  meet_delay-alike : {signals : List (List ℕ × List ℕ)} {d e : Delay} → SameDelay signals d e → AlikeWalks (meet_delay d) (meet_delay e)
  meet_delay-alike (BothPlain same) met other is = (refl, is)
  meet_delay-alike (BothImmediate same) met other is = (refl, is)
  meet_delay-alike (BothCount count span same) met other is = by (nat_lt 1 count)
    where
      by : (b : Bool) → BothAre Done ((if b then meet_added else give tt) met) ((if b then meet_added else give tt) other)
      by true = meet_added-alike met other is
      by false = (refl, is)

-- ---- what stands around two statements

pub record AroundBoth (b : Binders) (around other : Around) : Type 0 where
  pub scope : Agree b.signals around.scope other.scope
  pub traps : AgreeTraps b.traps around.traps other.traps
  pub chain : around.chain ≡ other.chain

around_signals : (b : Binders) (around other : Around) (ns ms : List Name) (next more : ℕ) → length ns ≡ length ms → next ≡ more → AroundBoth b around other
    → AroundBoth (in_both_signals ns ms b) (in_signals (texts ns) next around) (in_signals (texts ms) more other)
around_signals b around other ns ms next more long same is =
    let longs : length (texts ns) ≡ length (texts ms) = length-map ns (λ n. n.text) ∙ long ∙ sym (length-map ms (λ n. n.text)) in
    record {
      scope = agree-binding b.signals false (texts ns) (texts ms) next more around.scope other.scope longs same is.scope;
      traps = is.traps;
      chain = is.chain;
    }

around_traps : (b : Binders) (around other : Around) (n m : Name) → AroundBoth b around other
    → AroundBoth (in_both_traps n m b) (in_trap n.text around) (in_trap m.text other)
around_traps b around other n m is = record {
  scope = is.scope;
  traps = agree_traps-more b.traps around.traps other.traps n.text m.text is.traps;
  chain = is.chain;
}

-- ---- statements

module _ (modules others : SourceProgram) (seen : ℕ) where
  -- statements that are the same give the same
  abbrev pub InsideBoth : (Around → Stmt → FlatWalk flat.Stmt) → (Around → Stmt → FlatWalk flat.Stmt) → Type 0
  InsideBoth inside within =
      (b : Binders) (around other : Around) → AroundBoth b around other → (p q : Stmt) → SameStmt modules others b p q
      → AlikeWalks seen (inside around p) (within other q)

  module _ (inside within : Around → Stmt → FlatWalk flat.Stmt) (both : InsideBoth inside within) where
    part-both : {b : Binders} {p q : Part} → SamePart modules others b p q → (around other : Around) → AroundBoth b around other
        → AlikeWalks seen (part (inside around) p) (part (within other) q)
    part-both BothMissing around other is met met' alike = (refl, alike)
    part-both (BothWritten {b = b} {p = p} {q = q} same) around other is met met' alike =
        on_ok-both (Done seen) (Done seen) (inside around p met) (within other q met') _ _ (both b around other is p q same met met' alike)
        (λ d e done. (ap flat.Written done.0, done.1))

    each-both : {b : Binders} {ps qs : Stmts} → SameStmts modules others b ps qs → (around other : Around) → AroundBoth b around other
        → AlikeWalks seen (each (inside around) ps) (each (within other) qs)
    each-both BothNoStmts around other is met met' alike = (refl, alike)
    each-both (BothMoreStmts {b = b} {p = p} {q = q} {ps = ps} {qs = qs} same more) around other is met met' alike =
        on_ok-both (Done seen) (Done seen) (inside around p met) (within other q met') _ _ (both b around other is p q same met met' alike) (λ d e done.
        on_ok-both (Done seen) (Done seen) (each (inside around) ps d.1) (each (within other) qs e.1) _ _ (each-both more around other is d.1 e.1 done.1)
        (λ ds es all. (ap_two flat.MoreStmts d.0 e.0 ds.0 es.0 done.0 all.0, all.1)))

    cases-both : {b : Binders} {cs ds : Cases} → SameCases modules others b cs ds → (around other : Around) → AroundBoth b around other
        → AlikeWalks seen (each_case around.scope (inside around) cs) (each_case other.scope (within other) ds)
    cases-both BothNoCases around other is met met' alike = (refl, alike)
    cases-both (BothMoreCases {b = b} {e = e} {f = f} {p = p} {q = q} {cs = cs} {ds = ds} event body more) around other is met met' alike =
        on_ok-both (λ a b. a ≡ b) (Done seen) (test around.scope e) (test other.scope f) _ _ (test-both b.signals around.scope other.scope is.scope event)
        (λ x y tested.
        on_ok-both (Done seen) (Done seen) (part (inside around) p met) (part (within other) q met') _ _ (part-both body around other is met met' alike)
        (λ u v done.
        on_ok-both (Done seen) (Done seen) (each_case around.scope (inside around) cs u.1) (each_case other.scope (within other) ds v.1) _ _
        (cases-both more around other is u.1 v.1 done.1) (λ us vs all.
        (ap (λ z. flat.MoreCases z u.0 us.0) tested ∙ ap_two (flat.MoreCases y) u.0 v.0 us.0 vs.0 done.0 all.0, all.1))))

    handler-both : {b : Binders} {n m : Name} {h k : Handler} → SameHandler modules others b n m h k → (around other : Around) → AroundBoth b around other
        → AlikeWalks seen (handler (inside around) n h) (handler (within other) m k)
    handler-both BothNoHandler around other is met met' alike = (refl, alike)
    handler-both (BothHandled {b = b} {n = n} {m = m} {n' = n'} {m' = m'} {p = p} {q = q} place named same) around other is met met' alike =
        by (is_same_name n'.text n.text) (is_same_name m'.text m.text) named
      where
        by : (c d : Bool) → c ≡ d → BothAre (Done seen)
            ((if c then after (inside around p) (λ p. give (flat.Written p)) else stop (UnknownTrap n'.span)) met)
            ((if d then after (within other q) (λ p. give (flat.Written p)) else stop (UnknownTrap m'.span)) met')
        by true true same_names =
            on_ok-both (Done seen) (Done seen) (inside around p met) (within other q met') _ _ (both b around other is p q same met met' alike)
            (λ d e done. (ap flat.Written done.0, done.1))
        by true false same_names = absurd (cc)
        by false true same_names = absurd (cc)
        by false false same_names = ap UnknownTrap place

    module _ (inputs : ℕ) (programs : SamePrograms modules others) where
      row-both : {b : Binders} {f g : Form} → SameForm modules others b f g → (around other : Around) → AroundBoth b around other → (at : Span)
          → AlikeWalks seen (row modules inputs inside around at f) (row others inputs within other at g)
      row-both BothNothing around other is at met met' alike = (refl, alike)
      row-both BothPause around other is at met met' alike = (refl, alike)
      row-both BothHalt around other is at met met' alike = (refl, alike)
      row-both (BothEmit {b = b} {n = n} {m = m} same) around other is at met met' alike =
          on_ok-both (λ s t. s ≡ t) (Done seen) (emitted inputs around.scope n) (emitted inputs other.scope m) _ _
          (emitted-both b.signals around.scope other.scope is.scope inputs n m same) (λ s t done. (ap (λ k. flat.At at (flat.Emit k)) done, alike))
      row-both (BothSustain {b = b} {n = n} {m = m} same) around other is at met met' alike =
          on_ok-both (λ s t. s ≡ t) (Done seen) (emitted inputs around.scope n) (emitted inputs other.scope m) _ _
          (emitted-both b.signals around.scope other.scope is.scope inputs n m same) (λ s t done. (ap (λ k. flat.At at (flat.Sustain k)) done, alike))
      row-both (BothAwait {b = b} {d = d} {e = e} {p = p} {q = q} delay same) around other is at met met' alike =
          on_ok-both (λ s t. s ≡ t) (Done seen) (awaited around.scope d) (awaited other.scope e) _ _
          (awaited-both b.signals around.scope other.scope is.scope delay) (λ x y there.
          on_ok-both (Done seen) (Done seen) (part (inside around) p met) (part (within other) q met') _ _ (part-both same around other is met met' alike)
          (λ u v done. (ap_two (λ x q. flat.At at (flat.Await x q)) x y u.0 v.0 there done.0, done.1)))
      row-both (BothAwaitCase {cs = cs} {ds = ds} same) around other is at met met' alike =
          on_ok-both (Done seen) (Done seen) (each_case around.scope (inside around) cs met) (each_case other.scope (within other) ds met') _ _
          (cases-both same around other is met met' alike) (λ u v done. (ap (λ cs. flat.At at (flat.AwaitCase cs)) done.0, done.1))
      row-both (BothPresent {b = b} {e = e} {f = f} {p = p} {q = q} {p' = p'} {q' = q'} event same more) around other is at met met' alike =
          on_ok-both (λ s t. s ≡ t) (Done seen) (test around.scope e) (test other.scope f) _ _ (test-both b.signals around.scope other.scope is.scope event)
          (λ x y there.
          on_ok-both (Done seen) (Done seen) (part (inside around) p met) (part (within other) p' met') _ _ (part-both same around other is met met' alike)
          (λ u v done.
          on_ok-both (Done seen) (Done seen) (part (inside around) q u.1) (part (within other) q' v.1) _ _ (part-both more around other is u.1 v.1 done.1)
          (λ k l last.
          (ap (λ x. flat.At at (flat.Present x u.0 k.0)) there ∙ ap_two (λ p q. flat.At at (flat.Present y p q)) u.0 v.0 k.0 l.0 done.0 last.0, last.1))))
      row-both (BothPresentCase {cs = cs} {ds = ds} {p = p} {q = q} same more) around other is at met met' alike =
          on_ok-both (Done seen) (Done seen) (each_case around.scope (inside around) cs met) (each_case other.scope (within other) ds met') _ _
          (cases-both same around other is met met' alike) (λ u v done.
          on_ok-both (Done seen) (Done seen) (part (inside around) p u.1) (part (within other) q v.1) _ _ (part-both more around other is u.1 v.1 done.1)
          (λ k l last.
          (ap_two (λ cs q. flat.At at (flat.PresentCase cs q)) u.0 v.0 k.0 l.0 done.0 last.0, last.1)))
      row-both (BothLoop {b = b} {p = p} {q = q} same) around other is at met met' alike =
          on_ok-both (Done seen) (Done seen) (inside around p met) (within other q met') _ _ (both b around other is p q same met met' alike)
          (λ u v done. (ap (λ p. flat.At at (flat.Loop p)) done.0, done.1))
      row-both (BothLoopEach {b = b} {p = p} {q = q} {d = d} {e = e} same delay) around other is at met met' alike =
          on_ok-both (Done seen) (Done seen) (meet_delay d met) (meet_delay e met') _ _ (meet_delay-alike seen delay met met' alike) (λ c c' counted.
          on_ok-both (Done seen) (Done seen) (inside around p c.1) (within other q c'.1) _ _ (both b around other is p q same c.1 c'.1 counted.1) (λ u v done.
          on_ok-both (λ s t. s ≡ t) (Done seen) (awaited around.scope d) (awaited other.scope e) _ _
          (awaited-both b.signals around.scope other.scope is.scope delay) (λ x y there.
          (ap_two (λ p x. flat.At at (flat.LoopEach p x)) u.0 v.0 x y done.0 there, done.1))))
      row-both (BothEvery {b = b} {d = d} {e = e} {p = p} {q = q} delay same) around other is at met met' alike =
          on_ok-both (Done seen) (Done seen) (meet_delay d met) (meet_delay e met') _ _ (meet_delay-alike seen delay met met' alike) (λ c c' counted.
          on_ok-both (λ s t. s ≡ t) (Done seen) (awaited around.scope d) (awaited other.scope e) _ _
          (awaited-both b.signals around.scope other.scope is.scope delay) (λ x y there.
          on_ok-both (Done seen) (Done seen) (inside around p c.1) (within other q c'.1) _ _ (both b around other is p q same c.1 c'.1 counted.1) (λ u v done.
          (ap_two (λ x p. flat.At at (flat.Every x p)) x y u.0 v.0 there done.0, done.1))))
      row-both (BothRepeat {b = b} {p = p} {q = q} count span same) around other is at met met' alike =
          on_ok-both (Done seen) (Done seen) (inside around p met) (within other q met') _ _ (both b around other is p q same met met' alike)
          (λ u v done. (ap (λ p. flat.At at (flat.Repeat count span p)) done.0, done.1))
      row-both (BothAbort {b = b} {p = p} {q = q} {d = d} {e = e} {p' = p'} {q' = q'} same delay more) around other is at met met' alike =
          on_ok-both (Done seen) (Done seen) (meet_delay d met) (meet_delay e met') _ _ (meet_delay-alike seen delay met met' alike) (λ c c' counted.
          on_ok-both (Done seen) (Done seen) (inside around p c.1) (within other q c'.1) _ _ (both b around other is p q same c.1 c'.1 counted.1) (λ u v done.
          on_ok-both (λ s t. s ≡ t) (Done seen) (awaited around.scope d) (awaited other.scope e) _ _
          (awaited-both b.signals around.scope other.scope is.scope delay) (λ x y there.
          on_ok-both (Done seen) (Done seen) (part (inside around) p' u.1) (part (within other) q' v.1) _ _ (part-both more around other is u.1 v.1 done.1)
          (λ k l last.
          (ap (λ p. flat.At at (flat.Abort p x k.0)) done.0 ∙ ap_two (λ x q. flat.At at (flat.Abort v.0 x q)) x y k.0 l.0 there last.0, last.1)))))
      row-both (BothAbortCase {b = b} {p = p} {q = q} {cs = cs} {ds = ds} same more) around other is at met met' alike =
          on_ok-both (Done seen) (Done seen) (inside around p met) (within other q met') _ _ (both b around other is p q same met met' alike) (λ u v done.
          on_ok-both (Done seen) (Done seen) (each_case around.scope (inside around) cs u.1) (each_case other.scope (within other) ds v.1) _ _
          (cases-both more around other is u.1 v.1 done.1) (λ k l last.
          (ap_two (λ p cs. flat.At at (flat.AbortCase p cs)) u.0 v.0 k.0 l.0 done.0 last.0, last.1)))
      row-both (BothWeakAbort {b = b} {p = p} {q = q} {d = d} {e = e} same delay) around other is at met met' alike =
          on_ok-both (Done seen) (Done seen) (inside around p met) (within other q met') _ _ (both b around other is p q same met met' alike) (λ u v done.
          on_ok-both (λ s t. s ≡ t) (Done seen) (awaited around.scope d) (awaited other.scope e) _ _
          (awaited-both b.signals around.scope other.scope is.scope delay) (λ x y there.
          (ap_two (λ p x. flat.At at (flat.WeakAbort p x)) u.0 v.0 x y done.0 there, done.1)))
      row-both (BothSuspend {b = b} {p = p} {q = q} {d = d} {e = e} same delay) around other is at met met' alike =
          on_ok-both (Done seen) (Done seen) (inside around p met) (within other q met') _ _ (both b around other is p q same met met' alike) (λ u v done.
          on_ok-both (λ s t. s ≡ t) (Done seen) (awaited around.scope d) (awaited other.scope e) _ _
          (awaited-both b.signals around.scope other.scope is.scope delay) (λ x y there.
          (ap_two (λ p x. flat.At at (flat.Suspend p x)) u.0 v.0 x y done.0 there, done.1)))
      row-both (BothTrap {b = b} {n = n} {m = m} {p = p} {q = q} {h = h} {k = k} same handled) around other is at met met' alike =
          on_ok-both (Done seen) (Done seen) (inside (in_trap n.text around) p met) (within (in_trap m.text other) q met') _ _
          (both (in_both_traps n m b) (in_trap n.text around) (in_trap m.text other) (around_traps b around other n m is) p q same met met' alike) (λ u v done.
          on_ok-both (Done seen) (Done seen) (handler (inside around) n h u.1) (handler (within other) m k v.1) _ _
          (handler-both handled around other is u.1 v.1 done.1)
          (λ x y last. (ap_two (λ p q. flat.At at (flat.Trap p q)) u.0 v.0 x.0 y.0 done.0 last.0, last.1)))
      row-both (BothExit {b = b} {n = n} {m = m} same) around other is at met met' alike =
          on_ok-both (λ s t. s ≡ t) (Done seen) (exit_of around.traps n) (exit_of other.traps m) _ _
          (exit_of-both b.traps around.traps other.traps n m is.traps same)
          (λ s t done. (ap (λ k. flat.At at (flat.Exit k)) done, alike))
      row-both (BothSignal {b = b} {ns = ns} {ms = ms} {p = p} {q = q} long same) around other is at met met' alike =
          let longs : length (texts ns) ≡ length (texts ms) = length-map ns (λ n. n.text) ∙ long ∙ sym (length-map ms (λ n. n.text)) in
          on_ok-both (Done seen) (Done seen) (meet_signals (texts ns) met) (meet_signals (texts ms) met') _ _
          (meet_signals-alike seen (texts ns) (texts ms) longs met met' alike) (λ c c' counted.
          on_ok-both (Done seen) (Done seen) (inside (in_signals (texts ns) c.0 around) p c.1) (within (in_signals (texts ms) c'.0 other) q c'.1) _ _
          (both (in_both_signals ns ms b) (in_signals (texts ns) c.0 around) (in_signals (texts ms) c'.0 other)
          (around_signals b around other ns ms c.0 c'.0 long counted.0 is) p q same c.1 c'.1 counted.1) (λ u v done. (
            ap_two (λ ns p. flat.At at (flat.Signal ns p)) (numbers c.0 (texts ns)) (numbers c'.0 (texts ms)) u.0 v.0
                (numbers-alike (texts ns) (texts ms) c.0 c'.0 longs counted.0) done.0,
            done.1,
          )))
      row-both (BothRun {b = b} {rs = rs} {ss = ss} name runs) around other is at met met' alike =
          on_ok-both (FoundModules modules others name) (Done seen) (module_named modules name) (module_named others name) _ _
          (module_named-both modules others name programs) (λ m n found.
          on_ok-both (λ c d. c ≡ d) (Done seen) (chain_with around.chain name) (chain_with other.chain name) _ _ (same_chain is.chain) (λ c d chains.
          run-both (Done seen) _ _ b.signals name.span around.scope other.scope m n rs ss is.scope found.same.inputs found.same.formals
          (runs m n found.first found.second)
          (λ scope scope' agrees.
          both (record { signals = both_formals m n; traps = [] }) (record { scope = scope; traps = []; chain = c })
          (record { scope = scope'; traps = []; chain = d })
          (record { scope = agrees; traps = agree_traps-none; chain = chains }) m.body n.body found.same.body met met' alike)))
        where
          same_chain : {chain more : List (List ℕ)} → chain ≡ more → BothAre (λ c d. c ≡ d) (chain_with chain name) (chain_with more name)
          same_chain {chain = chain} chains = subst (λ more. BothAre (λ c d. c ≡ d) (chain_with chain name) (chain_with more name)) chains
              (both-refl (chain_with chain name))
      row-both (BothSeq {ps = ps} {qs = qs} same) around other is at met met' alike =
          on_ok-both (Done seen) (Done seen) (each (inside around) ps met) (each (within other) qs met') _ _ (each-both same around other is met met' alike)
          (λ u v done. (ap (λ ps. flat.At at (flat.Seq ps)) done.0, done.1))
      row-both (BothPar {ps = ps} {qs = qs} same) around other is at met met' alike =
          on_ok-both (Done seen) (Done seen) (each (inside around) ps met) (each (within other) qs met') _ _ (each-both same around other is met met' alike)
          (λ u v done. (ap (λ ps. flat.At at (flat.Par ps)) done.0, done.1))
      row-both (BothGroup {b = b} {p = p} {q = q} same) around other is at met met' alike = both b around other is p q same met met' alike

  flattening-both : (inputs : ℕ) → SamePrograms modules others → (room : ℕ) → InsideBoth (flattening modules inputs room) (flattening others inputs room)
  unfolding flattening
  flattening-both inputs programs zero b around other is p q (BothAt span same) met met' alike =
      on_ok-both (Done seen) (Done seen) (meet_statement met) (meet_statement met') _ _ (meet_statement-alike seen met met' alike) (λ d e done. refl)
  flattening-both inputs programs (suc room) b around other is p q (BothAt span same) met met' alike =
      on_ok-both (Done seen) (Done seen) (meet_statement met) (meet_statement met') _ _ (meet_statement-alike seen met met' alike) (λ d e done.
      row-both (flattening modules inputs room) (flattening others inputs room)
      (flattening-both inputs programs room) inputs programs same around other is span d.1 e.1 done.1)

-- ---- programs

-- so many signals has the interface of the main module
abbrev seen_by : ModuleInterface → ℕ
seen_by i = length i.inputs + (length i.both + length i.outputs)

abbrev Begun : ℕ → ℕ × WalkCounts → ℕ × WalkCounts → Type 0
Begun seen d e = Alike seen d.1 e.1

first-both : (i : ModuleInterface) → BothAre (Begun (seen_by i)) (meet_signals (main_signals i) beginning) (meet_signals (main_signals i) beginning)
first-both i = by (nat_le (length beginning.signals + length (main_signals i) + beginning.added) SIGNALS)
  where
    by : (b : Bool) → BothAre (Begun (seen_by i))
        (if b then Ok (length beginning.signals, record beginning { signals = beginning.signals ++ main_signals i }) else Err TooManySignals)
        (if b then Ok (length beginning.signals, record beginning { signals = beginning.signals ++ main_signals i }) else Err TooManySignals)
    by true =
        let all = length-append i.inputs (i.both ++ i.outputs) in
        record { statements = refl; added = refl; count = refl; shown = omega (arith, all, length-append i.both i.outputs); names = refl }
    by false = refl

pub flattened-both : (modules others : SourceProgram) (main : Module) (body : Stmt) → SamePrograms modules others
    → SameStmt modules others no_binders main.body body
    → BothAre SameButForNames (flattened modules main) (flattened others (record main { body = body }))
flattened-both modules others main body programs same =
    let i = main_interface main in
    let other : Module = record main { body = body } in
    on_ok-both (Done (seen_by i)) SameButForNames (main_walk modules main beginning) (main_walk others other beginning) _ _
    (on_ok-both (Begun (seen_by i)) (Done (seen_by i)) (meet_signals (main_signals i) beginning) (meet_signals (main_signals i) beginning) _ _ (first-both i)
    (λ d e begun.
    flattening-both modules others (seen_by i) (length i.inputs) programs (DEPTH + 1) no_binders (around_main main) (around_main other)
    (record { scope = agree-self (main_scope i); traps = agree_traps-none; chain = refl }) main.body body same d.1 e.1 begun))
    (λ d e done. record {
      name = refl;
      inputs = refl;
      both = refl;
      outputs = refl;
      relations = refl;
      body = done.0;
      count = done.1.count;
      interface = done.1.names;
    })

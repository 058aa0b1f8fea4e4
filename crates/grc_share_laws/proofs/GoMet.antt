-- In a solution of a program's graph: whether a member of a `go` is true is what its shared equation gives.
use Rattle.std.proofs.Common.{◌≡◌, ℕ, ◌+◌, ◌<◌, Bool, true, false, not, ◌&&◌, ◌||◌, ◌==◌, cond, List, [], ◌++◌, refl, sym, ap, ◌∙◌, subst}
use Rattle.std.proofs.Common.{⊎_elim, arith}
use Rattle.std.specs.Prelude.{Contains}
use Rattle.std.specs.List.{list_any}
use Rattle.std.proofs.lemmas.Bool.{and_from, and_left, and_parts, and_right, both_ways, cases_Bool, cases_eq, cond-false, cond-true, eq-eqb, eqb-true}
use Rattle.std.proofs.lemmas.Bool.{false≢true}
use Rattle.std.proofs.lemmas.Bool.{false_from_ne_true, ne_eqb, or_cases, or_left, or_right}
use Rattle.est_kernel.specs.Plain.{Program, interface_count}
use Rattle.est_kernel.specs.Preorder.{statement_count}
use Rattle.est_kernel.specs.StaticCodes.{resumed_codes, started_codes}
use Rattle.est_kernel.specs.Terms.{Expression}
use Rattle.grc_graph.specs.Formulas.{Selected}
use Rattle.grc_graph.specs.GraphRuns.{formula_value, graph_of, program_wires}
use Rattle.grc_graph.specs.Layers.{Layer, Resumed, Started, Liveness, body_liveness, root_if}
use Rattle.grc_graph.specs.Readings.{Valuation}
use Rattle.grc_graph.specs.Rows.{Row, entry_formula, live_in, program_rows, row_at}
use Rattle.grc_graph.specs.Scopes.{program_scope}
use Rattle.grc_graph.specs.Spots.{test_formula}
use Rattle.grc_graph.specs.Statements.{Entry, Body, Part, Branch, Then, Else, Suspended, Second, Looped}
use Rattle.grc_graph.specs.Walk.{State}
use Rattle.grc_graph.specs.Wires.{Wire, Go, End}
use Rattle.grc_graph.proofs.Exports.{Entered, LoopedPart, PartOf, SecondPart, TestedPart, program_placed, IsEnd, LiveAt, wire_only, length-program_rows}
use Rattle.grc_graph.proofs.Exports.{row_read, stands_whole}
use Rattle.grc_share.specs.SharedGraphs.{has_own}
use Rattle.grc_share.specs.SharedInstances.{Sharing, body_sharing, one_instance}
use Rattle.grc_share.specs.SharedWires.{first_root}
use Rattle.grc_share.proofs.Exports.{Rises, first_least, first_key, first_same, program_gives}
use Rattle.grc_share_laws.specs.SharedReactions.{some_member}
use Rattle.grc_share_laws.proofs.Around.{Among, among-given, among-left, roots-low}
use Rattle.grc_share_laws.proofs.EndsAlike.{and-like}
use Rattle.grc_share_laws.proofs.Equated.{go-met}
use Rattle.grc_share_laws.proofs.Exclusion.{Runs}
use Rattle.base_facts.proofs.Tests.{same-tests}
use Rattle.grc_share_laws.proofs.MemberValues.{end-alone, end-from, end-some, go-alone, go-some}
use Rattle.grc_share_laws.proofs.Settled.{Binds, Solution, binds, is-live, is-there, mfrom-go, settle, test-alike, test-settled}

-- a start at a statement's own root is none besides itself
own-self : (K : Sharing) (n : ℕ) → has_own K n n ≡ false
own-self K n =
    and_right (list_any (λ s. s == n) (K.live n).roots) (first_root K.root (K.live n).roots n == n && cond (n == n) false true)
    (and_right (first_root K.root (K.live n).roots n == n) (cond (n == n) false true) (cond-true (n == n) false true (eq-eqb n n refl)))

module _ (p : Program) (q : State) (event : List Bool) (V : Valuation) (F : Solution p q event V) where
  abbrev K : Sharing
  K = body_sharing p.body

  abbrev c : ℕ → ℕ
  c = (body_sharing p.body).root

  abbrev W : List Row
  W = program_rows p

  abbrev J : Valuation
  J = some_member p V

  abbrev roots : ℕ → List ℕ
  roots n = (row_at (program_rows p) n).live.roots

  -- the value of what lets an instance run, from the values of all members
  abbrev pub entry-worth : ℕ → Layer → Bool
  entry-worth n l =
      formula_value (graph_of p) q event (some_member p V)
      (entry_formula (row_at (program_rows p) n).scope (row_at (program_rows p) n).entry n l)

  here : (u : Wire) → V u ≡ true → Contains (program_wires p) u
  here = is-there p q event V F

  -- ---- what is resumed

  pub resumed-go : (n : ℕ) → LiveAt p n Resumed → some_member p V (Go n Resumed) ≡ entry-worth n Resumed
  resumed-go n at =
      go-alone p V here n ∙ go-met p F.kernel F.limits F.codes q event V F.solves n Resumed at
      ∙ by (row_at W n).entry (program_placed p n at.within).entered
    where
      alone : (m : ℕ) → V (Go m Resumed) ≡ some_member p V (Go m Resumed)
      alone m = sym (go-alone p V here m)

      by : (x : Entry) → Entered (program_rows p) n x
          → formula_value (graph_of p) q event V (entry_formula (row_at (program_rows p) n).scope x n Resumed)
          ≡ formula_value (graph_of p) q event (some_member p V) (entry_formula (row_at (program_rows p) n).scope x n Resumed)
      by Body e = refl
      by (Part m) e = alone m
      by (Branch m) e = ap (λ b. b && formula_value (graph_of p) q event V (Selected n)) (alone m)
      by (Then m t) e = ap (λ b. b && formula_value (graph_of p) q event V (Selected n)) (alone m)
      by (Else m t) e = ap (λ b. b && formula_value (graph_of p) q event V (Selected n)) (alone m)
      by (Suspended m t) e =
          let B = (row_at (program_rows p) n).scope in
          let a = formula_value (graph_of p) q event V (test_formula B t Resumed) in
          let b = formula_value (graph_of p) q event (some_member p V) (test_formula B t Resumed) in
          let around : Binds p q event V F B m = subst (λ x. Binds p q event V F x m) e.scope
          (binds p q event V F m (omega (arith, e.part.within, length-program_rows p))) in
          and-like (V (Go m Resumed)) (some_member p V (Go m Resumed)) (not a) (not b) (alone m)
          (λ h. ap not (sym (test-settled p q event V F B m Resumed around h t)))
      by (Second m) e = ap (λ b. b && formula_value (graph_of p) q event V (Selected n)) (alone m)
      by (Looped m) e = alone m

  -- ---- what is started with the statement around it

  -- where TV are the values of a test at the roots of starts, and TJ those from all members
  part-go : (m n r : ℕ) (TV TJ : ℕ → Bool) → n < statement_count p.body → (row_at (program_rows p) n).live.roots ≡ (row_at (program_rows p) m).live.roots
      → ((s : ℕ) → LiveAt p n (Started s) → V (Go n (Started s)) ≡ (V (Go m (Started s)) && TV s))
      → ((s : ℕ) → Runs V m (Started s) → TJ s ≡ TV s)
      → ((s : ℕ) → LiveAt p m (Started s) → one_instance (body_sharing p.body) m (Started s) (Started r) ≡ true → TJ s ≡ TJ r)
      → some_member p V (Go n (Started r)) ≡ (some_member p V (Go m (Started r)) && TJ r)
  part-go m n r TV TJ lt same eq settled alike =
      same-tests (some_member p V (Go n (Started r))) (some_member p V (Go m (Started r)) && TJ r)
      (λ h. let x = go-some p V n (Started r) h in up x.0 x.1 x.2)
      (λ h. let y = and_parts (some_member p V (Go m (Started r))) (TJ r) h in let x = go-some p V m (Started r) y.0 in down x.0 x.1 x.2 y.1)
    where
      up : (j : Layer) → one_instance (body_sharing p.body) n j (Started r) ≡ true → V (Go n j) ≡ true
          → (some_member p V (Go m (Started r)) && TJ r) ≡ true
      up Resumed o v = absurd (false≢true o)
      up (Started s) o v =
          let y = and_parts (V (Go m (Started s))) (TV s) (sym (eq s (is-live p q event V F n (Started s) v)) ∙ v) in
          and_from (some_member p V (Go m (Started r))) (TJ r) (mfrom-go p q event V F m (Started s) (Started r) o y.0)
          (sym (alike s (is-live p q event V F m (Started s) y.0) o) ∙ settled s y.0 ∙ y.1)

      down : (j : Layer) → one_instance (body_sharing p.body) m j (Started r) ≡ true → V (Go m j) ≡ true → TJ r ≡ true
          → some_member p V (Go n (Started r)) ≡ true
      down Resumed o v t = absurd (false≢true o)
      down (Started s) o v t =
          let around = is-live p q event V F m (Started s) v in
          let at : LiveAt p n (Started s) = record { within = lt; live = subst (Among s) (sym same) around.live } in
          mfrom-go p q event V F n (Started s) (Started r) o
          (eq s at ∙ and_from (V (Go m (Started s))) (TV s) v (sym (settled s v) ∙ alike s around o ∙ t))

  -- one that has no root of its own is not started by itself
  none-own : (m n r : ℕ) → m < statement_count p.body → m < n → n < statement_count p.body
      → (row_at (program_rows p) n).live.roots ≡ (row_at (program_rows p) m).live.roots → has_own (body_sharing p.body) n r ≡ false
  none-own m n r around lt within same =
      and_left (list_any (λ s. s == n) (K.live n).roots) _
      (false_from_ne_true (list_any (λ s. s == n) (K.live n).roots) (λ e.
      omega (
        arith,
        lt,
        roots-low m n (roots m) (program_placed p m around).roots
            (subst (Among n) same (subst (λ (a : Liveness). Among n a.roots) (sym (program_gives p F.kernel n (omega arith) (omega (arith, within)))) e)),
      )))

  -- ---- what has a root of its own

  -- X s is what starts it with the statement around it, in the start with the root s; `end 0` of the resumed part e starts
  -- it at its own root
  own-go : (m n r e : ℕ) (some own : Bool) (X : ℕ → Wire) (fr fo : Bool) → m < n → m < statement_count p.body → n < statement_count p.body
      → (row_at (program_rows p) n).live.roots ≡ cond some (row_at (program_rows p) m).live.roots [] ++ root_if own n
      → ((s : ℕ) → LiveAt p n (Started s) → (s ≡ n → ⊥) → V (Go n (Started s)) ≡ V (X s))
      → (LiveAt p n (Started n) → V (Go n (Started n)) ≡ V (End e Resumed 0))
      → ((s : ℕ) → V (X s) ≡ true → (some ≡ true) × Among s (row_at (program_rows p) m).live.roots)
      → (some_member p V (X r) ≡ true → (s : ℕ) × ((body_sharing p.body).root s ≡ (body_sharing p.body).root r) × (V (X s) ≡ true))
      → ((s : ℕ) → (body_sharing p.body).root s ≡ (body_sharing p.body).root r → V (X s) ≡ true → some_member p V (X r) ≡ true)
      → (r ≡ n → fr ≡ some_member p V (End e Resumed 0)) → ((r ≡ n → ⊥) → fr ≡ some_member p V (X r)) → fo ≡ some_member p V (End e Resumed 0)
      → LiveAt p n (Started r) → first_root (body_sharing p.body).root ((body_sharing p.body).live n).roots r ≡ r
      → some_member p V (Go n (Started r)) ≡ cond (has_own (body_sharing p.body) n r) (fr || fo) fr
  own-go m n r e some own X fr fo lt around within same eq eq-own down X-some X-from fr-own fr-else fo-is at named =
      ⊎_elim
      (λ i. equal i ∙ sym (cond-false (has_own (body_sharing p.body) n r) (fr || fo) fr (subst (λ x. has_own (body_sharing p.body) n x ≡ false) (sym i)
      (own-self (body_sharing p.body) n))))
      (λ i. ⊎_elim
      (λ h. other i h ∙ sym (cond-true (has_own (body_sharing p.body) n r) (fr || fo) fr h))
      (λ h. alone i h ∙ sym (cond-false (has_own (body_sharing p.body) n r) (fr || fo) fr h))
      (cases_Bool (has_own (body_sharing p.body) n r)))
      (cases_eq r n)
    where
      rows-same : (row_at (program_rows p) n).live ≡ (body_sharing p.body).live n
      rows-same = program_gives p F.kernel n (omega arith) (omega (arith, within))

      in-roots : (s : ℕ) → LiveAt p n (Started s) → Among s ((body_sharing p.body).live n).roots
      in-roots s x = subst (λ (a : Liveness). Among s a.roots) rows-same x.live

      from-roots : (s : ℕ) → Among s ((body_sharing p.body).live n).roots → LiveAt p n (Started s)
      from-roots s x = record { within = within; live = subst (λ (a : Liveness). Among s a.roots) (sym rows-same) x }

      ended-own : some_member p V (End e Resumed 0) ≡ V (End e Resumed 0)
      ended-own = end-alone p V (is-there p q event V F) e 0

      -- started with the statement around it
      low : (s : ℕ) → V (X s) ≡ true → s < n
      low s v = omega (arith, lt, roots-low m s (row_at (program_rows p) m).live.roots (program_placed p m around).roots (down s v).1)

      lives : (s : ℕ) → V (X s) ≡ true → LiveAt p n (Started s)
      lives s v =
          let d = down s v in
          record {
            within = within;
            live = subst (Among s) (sym same)
                (among-left s (cond some (row_at (program_rows p) m).live.roots []) (root_if own n)
                (among-given s some (row_at (program_rows p) m).live.roots d.0 d.1));
          }

      with-it : (s : ℕ) → (body_sharing p.body).root s ≡ (body_sharing p.body).root r → V (X s) ≡ true → some_member p V (Go n (Started r)) ≡ true
      with-it s o v =
          mfrom-go p q event V F n (Started s) (Started r) (eq-eqb ((body_sharing p.body).root s) ((body_sharing p.body).root r) o)
          (eq s (lives s v) (λ i. omega (arith, i, low s v)) ∙ v)

      by-itself : (body_sharing p.body).root n ≡ (body_sharing p.body).root r → LiveAt p n (Started n) → V (End e Resumed 0) ≡ true
          → some_member p V (Go n (Started r)) ≡ true
      by-itself o x v =
          mfrom-go p q event V F n (Started n) (Started r) (eq-eqb ((body_sharing p.body).root n) ((body_sharing p.body).root r) o) (eq-own x ∙ v)

      -- a member that runs is started by itself or with the statement around it
      cases : (P : Type 0) → ((body_sharing p.body).root n ≡ (body_sharing p.body).root r → LiveAt p n (Started n) → V (End e Resumed 0) ≡ true → P)
          → ((s : ℕ) → (body_sharing p.body).root s ≡ (body_sharing p.body).root r → V (X s) ≡ true → P) → some_member p V (Go n (Started r)) ≡ true → P
      cases P f g h = let x = go-some p V n (Started r) h in by x.0 x.1 x.2
        where
          by : (j : Layer) → one_instance (body_sharing p.body) n j (Started r) ≡ true → V (Go n j) ≡ true → P
          by Resumed o v = absurd (false≢true o)
          by (Started s) o v =
              let i = eqb-true ((body_sharing p.body).root s) ((body_sharing p.body).root r) o in
              let x = is-live p q event V F n (Started s) v in
              ⊎_elim
              (λ z. f (subst (λ y. (body_sharing p.body).root y ≡ (body_sharing p.body).root r) z i) (subst (λ y. LiveAt p n (Started y)) z x)
              (sym (eq-own (subst (λ y. LiveAt p n (Started y)) z x)) ∙ subst (λ y. V (Go n (Started y)) ≡ true) z v))
              (λ z. g s i (sym (eq s x z) ∙ v))
              (cases_eq s n)

      equal : r ≡ n → some_member p V (Go n (Started r)) ≡ fr
      equal i =
          same-tests (some_member p V (Go n (Started r))) fr
          (cases (fr ≡ true) (λ o x v. fr-own i ∙ ended-own ∙ v)
          (λ s o v.
          let x = in-roots s (lives s v) in
          let first = first_same (body_sharing p.body).root ((body_sharing p.body).live n).roots s r o x in
          absurd (omega (arith, low s v, first_least (body_sharing p.body).root ((body_sharing p.body).live n).roots s (rises) x, first, named, i))))
          (λ h. by-itself (ap (body_sharing p.body).root (sym i)) (subst (λ y. LiveAt p n (Started y)) i at) (sym ended-own ∙ sym (fr-own i) ∙ h))
        where
          rises : Rises ((body_sharing p.body).live n).roots
          rises = subst (λ (a : Liveness). Rises a.roots) rows-same (program_placed p n within).roots.rises

      other : (r ≡ n → ⊥) → has_own (body_sharing p.body) n r ≡ true → some_member p V (Go n (Started r)) ≡ (fr || fo)
      other i h =
          let a = and_parts (list_any (λ s. s == n) ((body_sharing p.body).live n).roots) (first_root (body_sharing p.body).root
          ((body_sharing p.body).live n).roots n == r && cond (n == r) false true) h in
          let first = eqb-true (first_root (body_sharing p.body).root ((body_sharing p.body).live n).roots n) r (and_parts (first_root
          (body_sharing p.body).root ((body_sharing p.body).live n).roots n == r) (cond (n == r) false true) a.1).0 in
          let one : (body_sharing p.body).root n ≡ (body_sharing p.body).root r =
          sym (first_key (body_sharing p.body).root ((body_sharing p.body).live n).roots n) ∙ ap (body_sharing p.body).root first in
          same-tests (some_member p V (Go n (Started r))) (fr || fo)
          (cases ((fr || fo) ≡ true) (λ o x v. or_right fr fo (fo-is ∙ ended-own ∙ v)) (λ s o v. or_left fr fo (fr-else i ∙ X-from s o v)))
          (λ k. ⊎_elim (λ l. let x = X-some (sym (fr-else i) ∙ l) in with-it x.0 x.1 x.2)
          (λ l. by-itself one (from-roots n a.0) (sym ended-own ∙ sym fo-is ∙ l)) (or_cases fr fo k))

      alone : (r ≡ n → ⊥) → has_own (body_sharing p.body) n r ≡ false → some_member p V (Go n (Started r)) ≡ fr
      alone i h =
          same-tests (some_member p V (Go n (Started r))) fr
          (cases (fr ≡ true)
          (λ o x v.
          let first = first_same (body_sharing p.body).root ((body_sharing p.body).live n).roots n r o (in-roots n x) ∙ named in
          absurd (both_ways (has_own (body_sharing p.body) n r) h
          (and_from (list_any (λ s. s == n) ((body_sharing p.body).live n).roots) (first_root (body_sharing p.body).root
          ((body_sharing p.body).live n).roots n == r && cond (n == r) false true) (in-roots n x)
          (and_from (first_root (body_sharing p.body).root ((body_sharing p.body).live n).roots n == r) (cond (n == r) false true) (eq-eqb (first_root
          (body_sharing p.body).root ((body_sharing p.body).live n).roots n) r first)
          (cond-false (n == r) false true (ne_eqb n r (λ z. i (sym z))))))))
          (λ s o v. fr-else i ∙ X-from s o v))
          (λ l. let x = X-some (sym (fr-else i) ∙ l) in with-it x.0 x.1 x.2)

  -- ---- what is started

  -- what lets the start of a statement with a root run, for an entry
  abbrev start-worth : ℕ → Valuation → Entry → ℕ → Bool
  start-worth n U x s = formula_value (graph_of p) q event U (entry_formula (row_at (program_rows p) n).scope x n (Started s))

  abbrev StartMet : (n r : ℕ) → Entry → Type 0
  StartMet n r x =
      some_member p V (Go n (Started r))
      ≡ cond (has_own (body_sharing p.body) n r) (start-worth n (some_member p V) x r || start-worth n (some_member p V) x n)
      (start-worth n (some_member p V) x r)

  pub started-go : (n r : ℕ) → LiveAt p n (Started r) → first_root (body_sharing p.body).root ((body_sharing p.body).live n).roots r ≡ r
      → some_member p V (Go n (Started r))
      ≡ cond (has_own (body_sharing p.body) n r) (entry-worth n (Started r) || entry-worth n (Started n)) (entry-worth n (Started r))
  started-go n r at named = by (row_at W n).entry refl (program_placed p n at.within).entered
    where
      -- what the given equation says
      given : (x : Entry) → (row_at (program_rows p) n).entry ≡ x → (s : ℕ) → LiveAt p n (Started s) → V (Go n (Started s)) ≡ start-worth n V x s
      given x i s z = subst (λ y. V (Go n (Started s)) ≡ start-worth n V y s) i (go-met p F.kernel F.limits F.codes q event V F.solves n (Started s) z)

      -- a part with no root of its own
      plain : (x : Entry) (m : ℕ) → PartOf (program_rows p) n m → some_member p V (Go n (Started r)) ≡ start-worth n (some_member p V) x r → StartMet n r x
      plain x m part e =
          let around : m < statement_count p.body = omega (arith, part.within, length-program_rows p) in
          e ∙ sym (cond-false (has_own (body_sharing p.body) n r) _ (start-worth n (some_member p V) x r)
          (none-own m n r around part.before at.within (ap (λ (a : Liveness). a.roots) part.live)))

      and-true : (a : Bool) → (a && true) ≡ a
      and-true true = refl
      and-true false = refl

      -- one that runs where the statement around it does
      with-it : (x : Entry) (m : ℕ) → (row_at (program_rows p) n).entry ≡ x → PartOf (program_rows p) n m
          → ((U : Valuation) (s : ℕ) → start-worth n U x s ≡ U (Go m (Started s))) → StartMet n r x
      with-it x m i part is =
          plain x m part
          (part-go m n r (λ s. true) (λ s. true) at.within (ap (λ (a : Liveness). a.roots) part.live)
          (λ s z. given x i s z ∙ is V s ∙ sym (and-true (V (Go m (Started s))))) (λ s h. refl) (λ s z o. refl)
          ∙ and-true (some_member p V (Go m (Started r))) ∙ sym (is (some_member p V) r))

      -- a branch of a test
      tested : (x : Entry) (m : ℕ) (t : Expression) (f : Bool → Bool) → (row_at (program_rows p) n).entry ≡ x → TestedPart (program_rows p) n m t
          → ((U : Valuation) (s : ℕ) → start-worth n U x s
          ≡ (U (Go m (Started s)) && f (formula_value (graph_of p) q event U (test_formula (row_at (program_rows p) n).scope t (Started s))))) → StartMet n r x
      tested x m t f i e is =
          plain x m e.part
          (part-go m n r (λ s. f (test V s)) (λ s. f (test (some_member p V) s)) at.within roots-same
          (λ s z. given x i s z ∙ is V s)
          (λ s h. ap f (test-settled p q event V F (row_at (program_rows p) n).scope m (Started s) around h t))
          (λ s z o. ap f (test-alike p q event V F (row_at (program_rows p) n).scope m (Started s) (Started r) around z.live root o t))
          ∙ sym (is (some_member p V) r))
        where
          test : Valuation → ℕ → Bool
          test U s = formula_value (graph_of p) q event U (test_formula (row_at (program_rows p) n).scope t (Started s))

          roots-same : (row_at (program_rows p) n).live.roots ≡ (row_at (program_rows p) m).live.roots
          roots-same = ap (λ (a : Liveness). a.roots) e.part.live

          around : Binds p q event V F (row_at (program_rows p) n).scope m
          around =
              subst (λ y. Binds p q event V F y m) e.scope (binds p q event V F m (omega (arith, e.part.within, length-program_rows p)))

          root : live_in (row_at (program_rows p) m).live (Started r) ≡ true
          root = subst (Among r) roots-same at.live

      -- the body
      whole : n ≡ 0 → (row_at (program_rows p) n).entry ≡ Body → StartMet n r Body
      whole z i =
          let one : r ≡ 0 = only r at.live in
          settle p q event V F (Go n (Started r)) (λ h. let x = go-some p V n (Started r) h in member x.0 x.1 x.2)
          ∙ given Body i r at
          ∙ sym (cond-false (has_own (body_sharing p.body) n r) _ (start-worth n (some_member p V) Body r)
          (subst (λ y. has_own (body_sharing p.body) n y ≡ false) (z ∙ sym one) (own-self (body_sharing p.body) n)))
        where
          roots-here : (row_at (program_rows p) n).live.roots ≡ (body_liveness p.body).roots
          roots-here =
              subst (λ y. (row_at (program_rows p) y).live.roots ≡ (body_liveness p.body).roots) (sym z)
              (ap (λ (x : Row). x.live.roots)
              (row_read (program_rows p) (body_liveness p.body) (program_scope p.inputs (interface_count p)) Body p.body 0 (stands_whole
              (program_rows p))).same)

          only : (s : ℕ) → Among s (row_at (program_rows p) n).live.roots → s ≡ 0
          only s h = ⊎_elim (λ e. sym (eqb-true 0 s e)) (λ e. absurd (false≢true e)) (or_cases (0 == s) false (subst (Among s) roots-here h))

          member : (j : Layer) → one_instance (body_sharing p.body) n j (Started r) ≡ true → V (Go n j) ≡ true → V (Go n (Started r)) ≡ true
          member Resumed o v = absurd (false≢true o)
          member (Started s) o v =
              subst (λ y. V (Go n (Started y)) ≡ true) (only s (is-live p q event V F n (Started s) v).live ∙ sym (only r at.live)) v

      -- a member of an end of what is started
      end-member : (e s : ℕ) → some_member p V (End e (Started s) 0) ≡ true
          → (y : ℕ) × ((body_sharing p.body).root y ≡ (body_sharing p.body).root s) × (V (End e (Started y) 0) ≡ true)
      end-member e s h = let x = end-some p V e (Started s) 0 h in go x.0 x.1 x.2
        where
          go : (j : Layer) → one_instance (body_sharing p.body) e j (Started s) ≡ true → V (End e j 0) ≡ true
              → (y : ℕ) × ((body_sharing p.body).root y ≡ (body_sharing p.body).root s) × (V (End e (Started y) 0) ≡ true)
          go Resumed o v = absurd (false≢true o)
          go (Started y) o v = (y, eqb-true ((body_sharing p.body).root y) ((body_sharing p.body).root s) o, v)

      go-member : (m s : ℕ) → some_member p V (Go m (Started s)) ≡ true
          → (y : ℕ) × ((body_sharing p.body).root y ≡ (body_sharing p.body).root s) × (V (Go m (Started y)) ≡ true)
      go-member m s h = let x = go-some p V m (Started s) h in go x.0 x.1 x.2
        where
          go : (j : Layer) → one_instance (body_sharing p.body) m j (Started s) ≡ true → V (Go m j) ≡ true
              → (y : ℕ) × ((body_sharing p.body).root y ≡ (body_sharing p.body).root s) × (V (Go m (Started y)) ≡ true)
          go Resumed o v = absurd (false≢true o)
          go (Started y) o v = (y, eqb-true ((body_sharing p.body).root y) ((body_sharing p.body).root s) o, v)

      -- the second part of a sequence
      second : (m : ℕ) → (row_at (program_rows p) n).entry ≡ Second m → SecondPart (program_rows p) n m → StartMet n r (Second m)
      second m i e =
          let W = program_rows p in
          let around : m < statement_count p.body = omega (arith, e.within, length-program_rows p) in
          own-go m n r (m + 1) (started_codes (row_at W (m + 1)).statement 0) ((row_at W m).live.resumed && resumed_codes (row_at W (m + 1)).statement 0)
          (λ s. End (m + 1) (Started s) 0) (start-worth n (some_member p V) (Second m) r) (start-worth n (some_member p V) (Second m) n) (omega
          (arith, e.before)) around at.within
          (ap (λ (a : Liveness). a.roots) e.live)
          (λ s z d. given (Second m) i s z ∙ ap (λ b. V (End (m + 1) (cond b Resumed (Started s)) 0)) (ne_eqb s n d))
          (λ z. given (Second m) i n z ∙ ap (λ b. V (End (m + 1) (cond b Resumed (Started n)) 0)) (eq-eqb n n refl))
          (λ s v. let x = wire_only p F.kernel (IsEnd 0) (m + 1) (Started s) (here (End (m + 1) (Started s) 0) v) in
          (x.has, subst (Among s) (ap (λ (a : Liveness). a.roots) e.first.live) x.live))
          (end-member (m + 1) r)
          (λ s o v. end-from p V here (m + 1) (Started s) (Started r) 0 (eq-eqb ((body_sharing p.body).root s) ((body_sharing p.body).root r) o) v)
          (λ d. ap (λ b. some_member p V (End (m + 1) (cond b Resumed (Started r)) 0)) (eq-eqb r n d))
          (λ d. ap (λ b. some_member p V (End (m + 1) (cond b Resumed (Started r)) 0)) (ne_eqb r n d))
          (ap (λ b. some_member p V (End (m + 1) (cond b Resumed (Started n)) 0)) (eq-eqb n n refl))
          at named

      -- the body of a loop
      looped : (m : ℕ) → (row_at (program_rows p) n).entry ≡ Looped m → LoopedPart (program_rows p) n m → StartMet n r (Looped m)
      looped m i e =
          let W = program_rows p in
          let around : m < statement_count p.body = omega (arith, e.within, length-program_rows p) in
          let next : (s : ℕ) → s ≡ n → s ≡ m + 1 = λ s d. d ∙ e.number in
          let other : (s : ℕ) → (s ≡ n → ⊥) → s ≡ m + 1 → ⊥ = λ s d f. d (f ∙ sym e.number) in
          own-go m n r (m + 1) true ((row_at W m).live.resumed && resumed_codes (row_at W n).statement 0)
          (λ s. Go m (Started s)) (start-worth n (some_member p V) (Looped m) r) (start-worth n (some_member p V) (Looped m) n) (omega
          (arith, e.number)) around at.within
          (ap (λ (a : Liveness). a.roots) e.live)
          (λ s z d. given (Looped m) i s z ∙ ap (λ b. V (cond b (End (m + 1) Resumed 0) (Go m (Started s)))) (ne_eqb s (m + 1) (other s d)))
          (λ z. given (Looped m) i n z ∙ ap (λ b. V (cond b (End (m + 1) Resumed 0) (Go m (Started n)))) (eq-eqb n (m + 1) (next n refl)))
          (λ s v. (refl, (is-live p q event V F m (Started s) v).live))
          (go-member m r)
          (λ s o v. mfrom-go p q event V F m (Started s) (Started r) (eq-eqb ((body_sharing p.body).root s) ((body_sharing p.body).root r) o) v)
          (λ d. ap (λ b. some_member p V (cond b (End (m + 1) Resumed 0) (Go m (Started r)))) (eq-eqb r (m + 1) (next r d)))
          (λ d. ap (λ b. some_member p V (cond b (End (m + 1) Resumed 0) (Go m (Started r)))) (ne_eqb r (m + 1) (other r d)))
          (ap (λ b. some_member p V (cond b (End (m + 1) Resumed 0) (Go m (Started n)))) (eq-eqb n (m + 1) (next n refl)))
          at named

      by : (x : Entry) → (row_at (program_rows p) n).entry ≡ x → Entered (program_rows p) n x → StartMet n r (row_at (program_rows p) n).entry
      by Body i e = subst (StartMet n r) (sym i) (whole e i)
      by (Part m) i e = subst (StartMet n r) (sym i) (with-it (Part m) m i e (λ U s. refl))
      by (Branch m) i e = subst (StartMet n r) (sym i) (with-it (Branch m) m i e (λ U s. refl))
      by (Then m t) i e = subst (StartMet n r) (sym i) (tested (Then m t) m t (λ b. b) i e (λ U s. refl))
      by (Else m t) i e = subst (StartMet n r) (sym i) (tested (Else m t) m t not i e (λ U s. refl))
      by (Suspended m t) i e = subst (StartMet n r) (sym i) (with-it (Suspended m t) m i e.part (λ U s. refl))
      by (Second m) i e = subst (StartMet n r) (sym i) (second m i e)
      by (Looped m) i e = subst (StartMet n r) (sym i) (looped m i e)

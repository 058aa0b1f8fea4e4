-- One more instance whose sources say that it is kept and that it is held.
use Rattle.std.proofs.Common.{◌≡◌, ℕ, ◌+◌, ◌<◌, ◌≤◌, Bool, true, false, ◌&&◌, ◌||◌, List, [], ◌∷◌, ◌++◌, length, map, take, drop, slice_index_or, refl, sym, ap}
use Rattle.std.proofs.Common.{◌∙◌, subst, arith, Option, Some, None, inl, inr}
use Rattle.std.specs.List.{sum_by}
use Rattle.std.proofs.lemmas.List.Sums.{sum_by-append}
use Rattle.std.specs.Prelude.{MatchOption, Vec}
use Rattle.std.specs.Global.{Global}
use Rattle.std.proofs.lemmas.Bool.{cases_lt}
use Rattle.std.proofs.lemmas.List.{get_or_append_left, get_or_push, length_push, length-map, take_all, take_more}
use Rattle.base_types.specs.declared.indices.WireId.{WireId}
use Rattle.est_kernel.specs.Plain.{program_of}
use Rattle.est_kernel.specs.Preorder.{statement_count}
use Rattle.est_kernel.specs.Reactions.{is_given}
use Rattle.est_kernel.specs.Terms.{Expression, Term, Nothing, Pause, Emit, Exit, Present, Suspend, Seq, Loop, Par, Trap, Local, Awake}
use Rattle.est_kernel.specs.WellFormed.{IsKernel}
use Rattle.grc_graph.specs.declared.graph.Graph.{Graph}
use Rattle.grc_graph.specs.declared.loops.LoopBodies.{LoopBodies}
use Rattle.grc_graph.specs.declared.neighbours.Neighbours.{Neighbours}
use Rattle.grc_graph.specs.declared.statements.Binding as bindings
use Rattle.grc_graph.specs.Instances.{Instance}
use Rattle.grc_graph.specs.Layers.{Layer, Resumed, Started, layer_above, same_layer}
use Rattle.grc_graph.specs.Neighbouring.{names_in}
use Rattle.grc_graph.specs.PlainGraphs.{names_of, instances_of, instance_at, lasting_in, plain_graph}
use Rattle.grc_graph.specs.Readings.{Valuation, seen_value, seen_values}
use Rattle.grc_graph.specs.Scopes.{Binding, Entering, Outgoing, BoundAt, Unbound, Scope}
use Rattle.grc_graph.specs.Statements.{signals_in, signals_of}
use Rattle.grc_graph.specs.StatementViews.{binding_of}
use Rattle.grc_graph.specs.Walk.{Values, truth}
use Rattle.grc_graph.specs.WireTables.{HasName, IsNumberOf}
use Rattle.grc_graph.specs.Wires.{Wire, Go, End}
use Rattle.grc_formulas.specs.declared.table.Source.{Source}
use Rattle.grc_formulas.specs.declared.table.Source.TheVariants as sources
use Rattle.grc_formulas.specs.declared.table.Row as tables
use Rattle.grc_formulas.specs.declared.tests_of.Tested.{Tested}
use Rattle.grc_formulas.specs.Building.{Says, Extends, RowsFit, with_both, both_source, with_either, either_source}
use Rattle.grc_formulas.specs.Enclosures.{around, kept_of, held_of, lasts, suspends, IsWithin, IsOutermost}
use Rattle.grc_formulas.specs.Holdings.{readings, HoldingsMade, AboveMade, OwnMade, LastsMade, held_around, OwnFew}
use Rattle.grc_formulas.specs.Sizes.{statement_row, instance_rows, lasting_rows}
use Rattle.grc_graph.specs.RowCosts.{test_of, rows_by, with_lasting}
use Rattle.grc_formulas.specs.Occasions.{Occasion}
use Rattle.grc_formulas.specs.Testing.{TestMade, wire_source}
use Rattle.grc_formulas.specs.WordLaws.{late_bounds}
use Rattle.grc_formulas.proofs.Enclosed.{program_follows}
use Rattle.grc_formulas.proofs.RowCounts.{both-few, either-few, both-none, either-none}
use Rattle.grc_formulas.proofs.Saying.{says-more, extends-refl, extends-trans, makes-both, makes-either}
use Rattle.grc_formulas.proofs.TestSteps.{wire-says}

says-as : (g : Graph) (rs : List tables.Row) (s : Source) (m n : Occasion g → Bool) → ((t : Occasion g) → m t ≡ n t) → Says g (late_bounds g 0) rs s m
    → Says g (late_bounds g 0) rs s n
says-as g rs s m n e h = record { fits = h.fits; value = λ t off. h.value t off ∙ e t }

pub constant-says : (g : Graph) (rs : List tables.Row) (b : Bool) (m : Occasion g → Bool) → ((t : Occasion g) → b ≡ m t)
    → Says g (late_bounds g 0) rs (sources.Const b) m
constant-says g rs b m e = record { fits = refl; value = λ t off. e t }

-- ---- a suspension itself

pub own-none : (g : Graph) (x : Instance) (rs : List tables.Row) → RowsFit (late_bounds g 0) rs
    → ((t : Occasion g) → false ≡ suspends (is_given t.event) t.valuation (statement_row g x.path).scope (statement_row g x.path).statement x.path x.layer)
    → OwnMade g x rs rs (sources.Const false)
own-none g x rs f e = record {
  extends = extends-refl (late_bounds g 0) rs f;
  few = none-few (test_of (statement_row g x.path).statement) x.layer;
  says = constant-says g rs false _ e;
}
  where
    none-few : (o : Option Expression) (l : Layer) → OwnFew o l rs rs (sources.Const false)
    none-few None l = (omega arith, refl)
    none-few (Some e) Resumed = omega arith
    none-few (Some e) (Started r) = (omega arith, refl)

-- what a statement with this test suspends
abbrev pub suspends_by : Values → Valuation → Scope → Option Expression → ℕ → Layer → Bool
suspends_by given V B None n l = false
suspends_by given V B (Some e) n l = same_layer l Resumed && (V (Go n Resumed) && truth e (seen_values given V B Resumed))

pub suspends-test : (given : Values) (V : Valuation) (B : Scope) (t : Term) (n : ℕ) (l : Layer) →
    suspends given V B t n l ≡ suspends_by given V B (test_of t) n l
suspends-test given V B Nothing n l = refl
suspends-test given V B Pause n l = refl
suspends-test given V B (Emit s) n l = refl
suspends-test given V B (Exit k) n l = refl
suspends-test given V B (Present e p q) n l = refl
suspends-test given V B (Suspend e p) n l = refl
suspends-test given V B (Seq p q) n l = refl
suspends-test given V B (Loop at p) n l = refl
suspends-test given V B (Par p q) n l = refl
suspends-test given V B (Trap p) n l = refl
suspends-test given V B (Local s p) n l = refl
suspends-test given V B (Awake e p) n l = refl

tested-signals : (t : Term) (e : Expression) → test_of t ≡ Some e → signals_of t ≡ signals_in e
tested-signals Nothing e is = absurd (cc)
tested-signals Pause e is = absurd (cc)
tested-signals (Emit s) e is = absurd (cc)
tested-signals (Exit k) e is = absurd (cc)
tested-signals (Present d p q) e is = absurd (cc)
tested-signals (Suspend d p) e is = let same : d ≡ e = cc in ap signals_in same
tested-signals (Seq p q) e is = absurd (cc)
tested-signals (Loop at p) e is = absurd (cc)
tested-signals (Par p q) e is = absurd (cc)
tested-signals (Trap p) e is = absurd (cc)
tested-signals (Local s p) e is = absurd (cc)
tested-signals (Awake d p) e is = absurd (cc)

pub own-other : (g : Graph) (x : Instance) (rs : List tables.Row) (o : Option Expression) → RowsFit (late_bounds g 0) rs
    → test_of (statement_row g x.path).statement ≡ o
    → ((t : Occasion g) → suspends_by (is_given t.event) t.valuation (statement_row g x.path).scope o x.path x.layer ≡ false)
    → OwnMade g x rs rs (sources.Const false)
own-other g x rs o f is e =
    own-none g x rs f (λ t. sym (suspends-test (is_given t.event) t.valuation (statement_row g x.path).scope (statement_row g x.path).statement x.path x.layer
    ∙ ap (λ y. suspends_by (is_given t.event) t.valuation (statement_row g x.path).scope y x.path x.layer) is ∙ e t))

-- what the list of statements says of a suspension's signals
suspension-signals : (g : Graph) (c : ℕ) (e : Expression) (signals : List bindings.Binding) → test_of (statement_row g c).statement ≡ Some e
    → map binding_of signals ≡ map (statement_row g c).scope (signals_of (statement_row g c).statement)
    → map binding_of signals ≡ map (statement_row g c).scope (signals_in e)
suspension-signals g c e signals is listed = listed ∙ ap (map (statement_row g c).scope) (tested-signals (statement_row g c).statement e is)

pub suspension-room : (g : Graph) (c : ℕ) (e : Expression) (signals : List bindings.Binding) → test_of (statement_row g c).statement ≡ Some e
    → map binding_of signals ≡ map (statement_row g c).scope (signals_of (statement_row g c).statement) → length signals ≡ length (signals_in e)
suspension-room g c e signals is listed =
    sym (length-map signals binding_of) ∙ ap length (suspension-signals g c e signals is listed) ∙ length-map (signals_in e) (statement_row g c).scope

go-says : (g : Graph) (near : Neighbours) (go : WireId) (u : Wire) (rs : List tables.Row) → names_in near ≡ names_of g → IsNumberOf (names_in near) go.0 u
    → Says g (late_bounds g 0) rs (sources.Wire go) (λ t. t.valuation u)
go-says g near go u rs e h = wire-says g near (Some go) u rs e h

pub own-suspends : (g : Graph) (near : Neighbours) (c : ℕ) (e : Expression) (signals : List bindings.Binding) (go : WireId)
    (old mid new : List tables.Row) (tested : Tested) (own : Source) → test_of (statement_row g c).statement ≡ Some e
    → map binding_of signals ≡ map (statement_row g c).scope (signals_of (statement_row g c).statement) → names_in near ≡ names_of g
    → IsNumberOf (names_in near) go.0 (Go c Resumed) → TestMade g signals e 0 old mid tested → new ≡ with_both mid (sources.Wire go) tested.source
    → own ≡ both_source mid (sources.Wire go) tested.source → OwnMade g (record { path = c; layer = Resumed }) old new own
own-suspends g near c e signals go old mid new tested own is listed names h m grown fresh =
    let b = late_bounds g 0 in
    let B = (statement_row g c).scope in
    let many = suspension-room g c e signals is listed in
    let whole : take (length (signals_in e)) (drop 0 signals) ≡ signals = take_all (length (signals_in e)) signals (omega arith) in
    let read = ap (map binding_of) whole ∙ suspension-signals g c e signals is listed in
    let wire = go-says g near go (Go c Resumed) mid names h in
    let test = m.says B read in
    let made = makes-both g b mid (sources.Wire go) tested.source _ _ m.extends.fit wire test in
    let last = with_both mid (sources.Wire go) tested.source in
    let x : Instance = record { path = c; layer = Resumed } in
    let done : OwnMade g x old last (both_source mid (sources.Wire go) tested.source) = record {
      extends = extends-trans b old mid last m.extends made.extends;
      few = subst (λ o. OwnFew o Resumed old last (both_source mid (sources.Wire go) tested.source)) (sym is)
          (omega (arith, m.few, both-few mid (sources.Wire go) tested.source));
      says = says-as g last (both_source mid (sources.Wire go) tested.source) _ _
          (λ t. sym (suspends-test (is_given t.event) t.valuation B (statement_row g c).statement c Resumed
          ∙ ap (λ o. suspends_by (is_given t.event) t.valuation B o c Resumed) is)) made.says;
    } in
    subst (λ rs. OwnMade g x old rs own) (sym grown) (subst (λ s. OwnMade g x old last s) (sym fresh) done)

-- ---- what is said from around

follows-of : (g : Graph) (t : Occasion g) (c : ℕ) → IsKernel (program_of g.program).body → c < statement_count (program_of g.program).body
    → MatchOption (around (statement_row g c).entry) (IsOutermost (readings g t) (statement_row g c) c)
    (λ n. IsWithin (readings g t) (statement_row g n) (statement_row g c) n c)
follows-of g t c kernel low = program_follows (program_of g.program) (is_given t.event) ((plain_graph g).lasting t.valuation) c kernel low

pub above-none : (g : Graph) (x : Instance) (rs : List tables.Row) → RowsFit (late_bounds g 0) rs → IsKernel (program_of g.program).body
    → x.path < statement_count (program_of g.program).body → around (statement_row g x.path).entry ≡ None
    → AboveMade g x rs rs (sources.Const true) (sources.Const false)
above-none g x rs f kernel low is =
    let law = λ (t : Occasion g). subst (λ o. MatchOption o (IsOutermost (readings g t) (statement_row g x.path) x.path)
    (λ n. IsWithin (readings g t) (statement_row g n) (statement_row g x.path) n x.path)) is (follows-of g t x.path kernel low) in
    record {
      extends = extends-refl (late_bounds g 0) rs f;
      few = omega arith;
      kept_says = constant-says g rs true _ (λ t. sym ((law t).kept x.layer));
      held_says = constant-says g rs false _ (λ t. ap (λ o. held_around (readings g t) o x.layer) (sym is));
    }

pub above-some : (g : Graph) (x : Instance) (rs mid new : List tables.Row) (n : ℕ) (i : ℕ) (kept held : List Source) (count : ℕ)
    (lasting own held_own d : Source) → IsKernel (program_of g.program).body → x.path < statement_count (program_of g.program).body
    → around (statement_row g x.path).entry ≡ Some n → HoldingsMade g rs rs kept held count → i < count
    → instance_at (instances_of g) i ≡ record { path = n; layer = layer_above n x.layer }
    → LastsMade g (statement_row g n).statement n (layer_above n x.layer) rs mid lasting → new ≡ with_both mid (slice_index_or kept i d) lasting
    → own ≡ both_source mid (slice_index_or kept i d) lasting → held_own ≡ slice_index_or held i d → AboveMade g x rs new own held_own
above-some g x rs mid new n i kept held count lasting own held_own d kernel low is m h here said grown fresh read =
    let b = late_bounds g 0 in
    let law = λ (t : Occasion g). subst (λ o. MatchOption o (IsOutermost (readings g t) (statement_row g x.path) x.path)
    (λ k. IsWithin (readings g t) (statement_row g k) (statement_row g x.path) k x.path)) is (follows-of g t x.path kernel low) in
    let k = slice_index_or kept i d in
    let first : Says g b rs k (λ t. kept_of (readings g t) n (layer_above n x.layer)) =
    says-as g rs k _ _ (λ t. ap (λ (y : Instance). kept_of (readings g t) y.path y.layer) here) (m.kept_says i d h) in
    let made = makes-both g b mid k lasting _ _ said.extends.fit (says-more g b rs mid k _ said.extends first) said.says in
    let whole = with_both mid k lasting in
    let grows = extends-trans b rs mid whole said.extends made.extends in
    let kept_here : Says g b whole (both_source mid k lasting) (λ t. kept_of (readings g t) x.path x.layer) =
    says-as g whole (both_source mid k lasting) _ _ (λ t. sym ((law t).kept x.layer)) made.says in
    let held_there : Says g b rs (slice_index_or held i d) (λ t. held_around (readings g t) (around (statement_row g x.path).entry) x.layer) =
    says-as g rs (slice_index_or held i d) _ _ (λ t. ap (λ (y : Instance). held_of (readings g t) y.path y.layer) here
    ∙ ap (λ o. held_around (readings g t) o x.layer) (sym is)) (m.held_says i d h) in
    let done : AboveMade g x rs whole (both_source mid k lasting) (slice_index_or held i d) = record {
      extends = grows;
      few = omega (arith, said.few, both-few mid k lasting);
      kept_says = kept_here;
      held_says = says-more g b rs whole (slice_index_or held i d) _ grows held_there;
    } in
    subst (λ z. AboveMade g x rs z own held_own) (sym grown) (subst (λ z. AboveMade g x rs whole z held_own) (sym fresh)
    (subst (λ z. AboveMade g x rs whole (both_source mid k lasting) z) (sym read) done))

-- what is seen of a parallel's end is its own end, or also that of the resumed one
pub own-lasts : (g : Graph) (near : Neighbours) (found : Option WireId) (x : Source) (s : Term) (n : ℕ) (l : Layer) (rs : List tables.Row)
    → names_in near ≡ names_of g → HasName (names_in near) found (End n l 1) → x ≡ wire_source found → RowsFit (late_bounds g 0) rs
    → ((V : Valuation) → lasts ((plain_graph g).lasting V) s n l ≡ V (End n l 1)) → LastsMade g s n l rs rs x
own-lasts g near found x s n l rs names has is fit e = record {
  extends = extends-refl (late_bounds g 0) rs fit;
  few = omega arith;
  says = says-as g rs x _ _ (λ t. sym (e t.valuation))
      (subst (λ y. Says g (late_bounds g 0) rs y (λ t. t.valuation (End n l 1))) (sym is) (wire-says g near found (End n l 1) rs names has));
}

pub both-lasts : (g : Graph) (near : Neighbours) (found other : Option WireId) (x y : Source) (s : Term) (n : ℕ) (l : Layer) (rs new : List tables.Row)
    (z : Source) → names_in near ≡ names_of g → HasName (names_in near) found (End n l 1) → HasName (names_in near) other (End n Resumed 1)
    → x ≡ wire_source found → y ≡ wire_source other → RowsFit (late_bounds g 0) rs → lasting_rows g ≡ 1
    → ((V : Valuation) → lasts ((plain_graph g).lasting V) s n l ≡ (V (End n l 1) || V (End n Resumed 1)))
    → new ≡ with_either rs x y → z ≡ either_source rs x y → LastsMade g s n l rs new z
both-lasts g near found other x y s n l rs new z names has there is also fit one e grown fresh =
    let b = late_bounds g 0 in
    let own = subst (λ v. Says g b rs v (λ t. t.valuation (End n l 1))) (sym is) (wire-says g near found (End n l 1) rs names has) in
    let resumed = subst (λ v. Says g b rs v (λ t. t.valuation (End n Resumed 1))) (sym also) (wire-says g near other (End n Resumed 1) rs names there) in
    let made = makes-either g b rs x y _ _ fit own resumed in
    let done : LastsMade g s n l rs (with_either rs x y) (either_source rs x y) = record {
      extends = made.extends;
      few = omega (arith, either-few rs x y, one);
      says = says-as g (with_either rs x y) (either_source rs x y) _ _ (λ t. sym (e t.valuation)) made.says;
    } in
    subst (λ r. LastsMade g s n l rs r z) (sym grown) (subst (λ v. LastsMade g s n l rs (with_either rs x y) v) (sym fresh) done)

-- what is seen of the ends of parallels is nothing else of a suspension
seen-lasting : (loops : Option (Vec LoopBodies Global)) (body : Term) (given : Values) (V : Valuation) (b : Binding) (s : ℕ) (l : Layer)
    → seen_value given (lasting_in loops body V) b s l ≡ seen_value given V b s l
seen-lasting None body given V b s l = refl
seen-lasting (Some loops) body given V Entering s l = refl
seen-lasting (Some loops) body given V Outgoing s l = refl
seen-lasting (Some loops) body given V (BoundAt n) s l = refl
seen-lasting (Some loops) body given V Unbound s l = refl

go-lasting : (loops : Option (Vec LoopBodies Global)) (body : Term) (V : Valuation) (n : ℕ) (l : Layer)
    → lasting_in loops body V (Go n l) ≡ V (Go n l)
go-lasting None body V n l = refl
go-lasting (Some loops) body V n l = refl

suspends-lasting : (loops : Option (Vec LoopBodies Global)) (body : Term) (given : Values) (V : Valuation) (B : Scope) (t : Term) (n : ℕ) (l : Layer)
    → suspends given (lasting_in loops body V) B t n l ≡ suspends given V B t n l
suspends-lasting loops body given V B (Suspend e p) n l = λ i.
    same_layer l Resumed
    && (go-lasting loops body V n Resumed i && truth e (λ s. seen-lasting loops body given V (B s) s Resumed i))
suspends-lasting loops body given V B _ n l = refl

-- ---- one more instance

held-follows : (g : Graph) (t : Occasion g) (x : Instance) → IsKernel (program_of g.program).body → x.path < statement_count (program_of g.program).body
    → layer_above x.path x.layer ≡ x.layer
    → (held_around (readings g t) (around (statement_row g x.path).entry) x.layer || (kept_of (readings g t) x.path x.layer
    && suspends (is_given t.event) t.valuation (statement_row g x.path).scope (statement_row g x.path).statement x.path x.layer))
    ≡ held_of (readings g t) x.path x.layer
held-follows g t x kernel low own = by_entry (around (statement_row g x.path).entry) (follows-of g t x.path kernel low)
  where
    other : suspends (is_given t.event) (readings g t).wires (statement_row g x.path).scope (statement_row g x.path).statement x.path x.layer
        ≡ suspends (is_given t.event) t.valuation (statement_row g x.path).scope (statement_row g x.path).statement x.path x.layer
    other =
        suspends-lasting g.loops (program_of g.program).body (is_given t.event) t.valuation (statement_row g x.path).scope
        (statement_row g x.path).statement x.path x.layer

    by_entry : (o : Option ℕ) → MatchOption o (IsOutermost (readings g t) (statement_row g x.path) x.path)
        (λ n. IsWithin (readings g t) (statement_row g n) (statement_row g x.path) n x.path)
        → (held_around (readings g t) o x.layer || (kept_of (readings g t) x.path x.layer
        && suspends (is_given t.event) t.valuation (statement_row g x.path).scope (statement_row g x.path).statement x.path x.layer))
        ≡ held_of (readings g t) x.path x.layer
    by_entry None law =
        ap (λ b. b && suspends (is_given t.event) t.valuation (statement_row g x.path).scope (statement_row g x.path).statement x.path x.layer)
        (law.kept x.layer)
        ∙ sym (law.held x.layer ∙ ap (λ l. suspends (is_given t.event) (readings g t).wires (statement_row g x.path).scope (statement_row g x.path).statement
        x.path l) own ∙ other)
    by_entry (Some n) law =
        sym (law.held x.layer ∙ ap (λ l. held_of (readings g t) n (layer_above n x.layer) || (kept_of (readings g t) x.path x.layer
        && suspends (is_given t.event) (readings g t).wires (statement_row g x.path).scope (statement_row g x.path).statement x.path l)) own
        ∙ ap (λ b. held_of (readings g t) n (layer_above n x.layer) || (kept_of (readings g t) x.path x.layer && b)) other)

pub holdings-begun : (g : Graph) (rs : List tables.Row) → RowsFit (late_bounds g 0) rs → HoldingsMade g rs rs [] [] 0
holdings-begun g rs f = record {
  extends = extends-refl (late_bounds g 0) rs f;
  few = omega arith;
  kept_all = refl;
  held_all = refl;
  kept_says = λ i d h. absurd (omega arith);
  held_says = λ i d h. absurd (omega arith);
}

-- the rows of one more instance
rows-of-other : (r1 r2 r3 r4 : List tables.Row) (above_kept above_held own both_own : Source) → length r2 ≤ length r1 → own ≡ sources.Const false
    → r3 ≡ with_both r2 above_kept own → both_own ≡ both_source r2 above_kept own → r4 ≡ with_either r3 above_held both_own
    → length r4 + 1 ≤ length r1 + 1
rows-of-other r1 r2 r3 r4 above_kept above_held own both_own few is g3 s3 g4 =
    let third : r3 ≡ r2 = g3 ∙ ap (with_both r2 above_kept) is ∙ (both-none r2 above_kept).0 in
    let none : both_own ≡ sources.Const false = s3 ∙ ap (both_source r2 above_kept) is ∙ (both-none r2 above_kept).1 in
    let fourth : r4 ≡ r2 = g4 ∙ ap (with_either r3 above_held) none ∙ either-none r3 above_held ∙ third in
    omega (arith, ap length fourth, few)

rows-of-one : (o : Option Expression) (l : Layer) (r1 r2 r3 r4 : List tables.Row) (above_kept above_held own both_own : Source) → OwnFew o l r1 r2 own
    → r3 ≡ with_both r2 above_kept own → both_own ≡ both_source r2 above_kept own → r4 ≡ with_either r3 above_held both_own
    → length r4 + 1 ≤ length r1 + rows_by o l
rows-of-one None l r1 r2 r3 r4 above_kept above_held own both_own few g3 s3 g4 =
    rows-of-other r1 r2 r3 r4 above_kept above_held own both_own few.0 few.1 g3 s3 g4
rows-of-one (Some e) Resumed r1 r2 r3 r4 above_kept above_held own both_own few g3 s3 g4 =
    omega (arith, few, ap length g3, both-few r2 above_kept own, ap length g4, either-few r3 above_held both_own)
rows-of-one (Some e) (Started r) r1 r2 r3 r4 above_kept above_held own both_own few g3 s3 g4 =
    rows-of-other r1 r2 r3 r4 above_kept above_held own both_own few.0 few.1 g3 s3 g4

lasting-more : (loops : Option (Vec LoopBodies Global)) (rows : ℕ) → with_lasting loops rows ≡ rows + with_lasting loops 0
lasting-more None rows = omega arith
lasting-more (Some loops) rows = omega arith

sum-more : (g : Graph) (i : ℕ) (x : Instance) → i < length (instances_of g) → instance_at (instances_of g) i ≡ x
    → sum_by (instance_rows g) (take (i + 1) (instances_of g)) ≡ sum_by (instance_rows g) (take i (instances_of g)) + instance_rows g x
sum-more g i x low here =
    let y = instance_at (instances_of g) i in
    let split = ap (sum_by (instance_rows g)) (take_more (instances_of g) i (record { path = 0; layer = Resumed }) low)
    ∙ sum_by-append (instance_rows g) (take i (instances_of g)) (y ∷ []) in
    let same : instance_rows g y ≡ instance_rows g x = ap (instance_rows g) here in
    omega arith

pub holdings-step : (g : Graph) (x : Instance) (old r0 r1 r2 r3 r4 : List tables.Row) (kept held : List Source) (i : ℕ)
    (above_kept above_held own both_own last : Source)
    → IsKernel (program_of g.program).body → x.path < statement_count (program_of g.program).body → layer_above x.path x.layer ≡ x.layer
    → i < length (instances_of g) → instance_at (instances_of g) i ≡ x → HoldingsMade g old r0 kept held i → AboveMade g x r0 r1 above_kept above_held →
    OwnMade g x r1 r2 own
    → r3 ≡ with_both r2 above_kept own → both_own ≡ both_source r2 above_kept own → r4 ≡ with_either r3 above_held both_own
    → last ≡ either_source r3 above_held both_own → HoldingsMade g old r4 (kept ++ above_kept ∷ []) (held ++ last ∷ []) (i + 1)
holdings-step g x old r0 r1 r2 r3 r4 kept held i above_kept above_held own both_own last kernel low layer within here m a o g3 s3 g4 s4 =
    let b = late_bounds g 0 in
    let kept2 = says-more g b r1 r2 above_kept _ o.extends a.kept_says in
    let held2 = says-more g b r1 r2 above_held _ o.extends a.held_says in
    let made3 = makes-both g b r2 above_kept own _ _ o.extends.fit kept2 o.says in
    let x3 = subst (λ z. Extends b r2 z) (sym g3) made3.extends in
    let H = λ (t : Occasion g). held_around (readings g t) (around (statement_row g x.path).entry) x.layer in
    let K = λ (t : Occasion g). kept_of (readings g t) x.path x.layer in
    let O = λ (t : Occasion g). suspends (is_given t.event) t.valuation (statement_row g x.path).scope (statement_row g x.path).statement x.path x.layer in
    let says3 : Says g b r3 both_own (λ t. K t && O t) = subst (λ z. Says g b z both_own (λ t. K t && O t)) (sym g3)
    (subst (λ s. Says g b (with_both r2 above_kept own) s (λ t. K t && O t)) (sym s3) made3.says) in
    let held3 = says-more g b r2 r3 above_held _ x3 held2 in
    let made4 = makes-either g b r3 above_held both_own H (λ t. K t && O t) x3.fit held3 says3 in
    let x4 = subst (λ z. Extends b r3 z) (sym g4) made4.extends in
    let says4 : Says g b r4 last (λ t. H t || (K t && O t)) = subst (λ z. Says g b z last (λ t. H t || (K t && O t))) (sym g4)
    (subst (λ s. Says g b (with_either r3 above_held both_own) s (λ t. H t || (K t && O t))) (sym s4) made4.says) in
    let x02 = extends-trans b r0 r1 r2 a.extends o.extends in
    let x24 = extends-trans b r2 r3 r4 x3 x4 in
    let x04 = extends-trans b r0 r2 r4 x02 x24 in
    let kept4 = says-more g b r2 r4 above_kept _ x24 kept2 in
    record {
      extends = extends-trans b old r0 r4 m.extends x04;
      few = omega (
        arith,
        m.few,
        a.few,
        sum-more g i x within here,
        rows-of-one (test_of (statement_row g x.path).statement) x.layer r1 r2 r3 r4 above_kept above_held own both_own o.few g3 s3 g4,
        lasting-more g.loops (rows_by (test_of (statement_row g x.path).statement) x.layer),
      );
      kept_all = omega (arith, m.kept_all, length_push kept above_kept);
      held_all = omega (arith, m.held_all, length_push held last);
      kept_says = λ k d h. elim (cases_lt k i) [
        | inl less ↦
            subst (λ s. Says g b r4 s (λ t. kept_of (readings g t) (instance_at (instances_of g) k).path (instance_at (instances_of g) k).layer))
            (sym (get_or_append_left kept (above_kept ∷ []) d k (omega (arith, m.kept_all))))
            (says-more g b r0 r4 (slice_index_or kept k d) _ x04 (m.kept_says k d less))
        | inr more ↦
            let at : k ≡ i = omega arith in
            let is : instance_at (instances_of g) k ≡ x = ap (instance_at (instances_of g)) at ∙ here in
            subst (λ s. Says g b r4 s (λ t. kept_of (readings g t) (instance_at (instances_of g) k).path (instance_at (instances_of g) k).layer))
            (sym (get_or_push kept above_kept d k (omega (arith, m.kept_all))))
            (says-as g r4 above_kept _ _ (λ t. ap (λ (y : Instance). kept_of (readings g t) y.path y.layer) (sym is)) kept4)
      ];
      held_says = λ k d h. elim (cases_lt k i) [
        | inl less ↦
            subst (λ s. Says g b r4 s (λ t. held_of (readings g t) (instance_at (instances_of g) k).path (instance_at (instances_of g) k).layer))
            (sym (get_or_append_left held (last ∷ []) d k (omega (arith, m.held_all))))
            (says-more g b r0 r4 (slice_index_or held k d) _ x04 (m.held_says k d less))
        | inr more ↦
            let at : k ≡ i = omega arith in
            let is : instance_at (instances_of g) k ≡ x = ap (instance_at (instances_of g)) at ∙ here in
            subst (λ s. Says g b r4 s (λ t. held_of (readings g t) (instance_at (instances_of g) k).path (instance_at (instances_of g) k).layer))
            (sym (get_or_push held last d k (omega (arith, m.held_all))))
            (says-as g r4 last _ _ (λ t. held-follows g t x kernel low layer ∙ ap (λ (y : Instance). held_of (readings g t) y.path y.layer) (sym is)) says4)
      ];
    }

-- from now on
pub holdings-now : (g : Graph) (old rs : List tables.Row) (kept held : List Source) (i : ℕ) → HoldingsMade g old rs kept held i →
    HoldingsMade g rs rs kept held i
holdings-now g old rs kept held i m = record {
  extends = extends-refl (late_bounds g 0) rs m.extends.fit;
  few = omega arith;
  kept_all = m.kept_all;
  held_all = m.held_all;
  kept_says = m.kept_says;
  held_says = m.held_says;
}

-- Tests as sources, from their parts; and wires as sources.
use Rattle.std.proofs.Common.{◌≡◌, ℕ, ◌+◌, ◌<◌, ◌≤◌, zero, suc, true, false, List, [], ◌∷◌, ◌++◌, length, map, take, drop, slice_index_or, refl}
use Rattle.std.proofs.Common.{sym, ap, ◌∙◌, subst, arith, Option, Some, None, length-append, inl, inr}
use Rattle.std.specs.List.{list_any}
use Rattle.std.specs.Prelude.{Contains}
use Rattle.std.proofs.lemmas.Bool.{lt-ltb, cases_Bool}
use Rattle.std.proofs.Common.{drop-cons}
use Rattle.std.proofs.lemmas.List.{length-map, length_push, take-take, take-map, map-append, take_at, drop_at, drop-drop, drop-take, drop-map}
use Rattle.base_types.specs.declared.indices.WireId.{WireId}
use Rattle.est_kernel.specs.Reactions.{is_given}
use Rattle.est_kernel.specs.Terms.{Expression, Tick, Sig, Not, And, Or}
use Rattle.grc_graph.specs.declared.graph.Graph.{Graph}
use Rattle.grc_graph.specs.declared.neighbours.Neighbours.{Neighbours}
use Rattle.grc_graph.specs.declared.statements.Binding as bindings
use Rattle.grc_graph.specs.Layers.{Resumed}
use Rattle.grc_graph.specs.Neighbouring.{names_in}
use Rattle.grc_graph.specs.PlainGraphs.{names_of, wire_of, instances_of}
use Rattle.grc_graph.specs.Readings.{seen_value}
use Rattle.grc_graph.specs.Scopes.{Scope, Binding}
use Rattle.grc_graph.specs.Statements.{signals_in}
use Rattle.grc_graph.specs.StatementViews.{binding_of}
use Rattle.grc_graph.specs.WireTables.{HasName}
use Rattle.grc_graph.specs.Wires.{Wire, Go, same_wire}
use Rattle.grc_graph.proofs.Exports.{same_wire-back}
use Rattle.grc_formulas.specs.declared.table.Source.{Source}
use Rattle.grc_formulas.specs.declared.table.Source.TheVariants as sources
use Rattle.grc_formulas.specs.declared.table.Row as tables
use Rattle.grc_formulas.specs.declared.tests_of.Tested.{Tested}
use Rattle.grc_formulas.specs.Building.{Says, RowsFit, new_source, with_both, both_source, with_either, either_source}
use Rattle.grc_formulas.specs.Testing.{TestMade, SignalSaid, wire_source}
use Rattle.grc_formulas.specs.WordLaws.{late_bounds}
use Rattle.grc_formulas.proofs.RowCounts.{both-few, either-few}
use Rattle.grc_formulas.proofs.Saying.{says-more, extends-refl, extends-trans, makes-not, makes-both, makes-either, grows-not, grows-both, grows-either}
use Rattle.grc_formulas.proofs.Saying.{fits-grown}

contains-next : (w : Wire) (ws : List Wire) (u : Wire) → Contains ws u → Contains (w ∷ ws) u
contains-next w ws u c = (suc c.0, omega (arith, c.1), c.2)

-- a name that is not among the wires
pub none-such : (u : Wire) (ws : List Wire) → (Contains ws u → ⊥) → list_any (same_wire u) ws ≡ false
none-such u [] h = refl
none-such u (w ∷ ws) h = elim (cases_Bool (same_wire u w)) [
  | inl here ↦ absurd (h (zero, omega arith, same_wire-back u w here))
  | inr other ↦ rw (other, none-such u ws (λ c. h (contains-next w ws u c))) refl
]

-- a wire that is looked up by name says its value
pub wire-says : (g : Graph) (near : Neighbours) (r : Option WireId) (u : Wire) (rs : List tables.Row) → names_in near ≡ names_of g → HasName (names_in near) r u
    → Says g (late_bounds g 0) rs (wire_source r) (λ t. t.valuation u)
wire-says g near None u rs e h = record {
  fits = refl;
  value = λ t off. sym (off u (none-such u (names_of g) (subst (λ ws. Contains ws u → ⊥) e h)));
}
wire-says g near (Some w) u rs e h =
    let many = length-map g.wires.items (wire_of (instances_of g)) in
    let within : w.0 < length (names_of g) = subst (λ (ws : List Wire). w.0 < length ws) e h.within in
    record {
      fits = lt-ltb w.0 (length g.wires.items) (omega arith);
      value = λ t off. ap t.valuation (ap (λ ws. slice_index_or ws w.0 (Go 0 Resumed)) (sym e) ∙ h.same (Go 0 Resumed));
    }

-- ---- tests

first-binding : (signals : List bindings.Binding) (place : ℕ) (d : bindings.Binding) (b : Binding) → place < length signals
    → map binding_of (take 1 (drop place signals)) ≡ b ∷ [] → binding_of (slice_index_or signals place d) ≡ b
first-binding signals place d b low e =
    let here = ap (λ xs. map binding_of (take 1 xs)) (drop-cons signals place d low) in
    let one : binding_of (slice_index_or signals place d) ∷ [] ≡ b ∷ [] = sym here ∙ e in
    cc

split-first : (signals : List bindings.Binding) (B : Scope) (place : ℕ) (xs ys : List ℕ)
    → map binding_of (take (length (xs ++ ys)) (drop place signals)) ≡ map B (xs ++ ys)
    → map binding_of (take (length xs) (drop place signals)) ≡ map B xs
split-first signals B place xs ys e =
    let many = length-append xs ys in
    let left = ap (take (length xs)) e in
    let short : length xs ≤ length (xs ++ ys) = omega arith in
    ap (map binding_of) (sym (take-take (length xs) (length (xs ++ ys)) (drop place signals) short))
    ∙ sym (take-map binding_of (length xs) (take (length (xs ++ ys)) (drop place signals))) ∙ left ∙ ap (take (length xs)) (map-append B xs ys)
    ∙ take_at (map B xs) (map B ys) (length xs) (length-map xs B)

split-second : (signals : List bindings.Binding) (B : Scope) (place : ℕ) (xs ys : List ℕ)
    → map binding_of (take (length (xs ++ ys)) (drop place signals)) ≡ map B (xs ++ ys)
    → map binding_of (take (length ys) (drop (place + length xs) signals)) ≡ map B ys
split-second signals B place xs ys e =
    let right = ap (drop (length xs)) e in
    ap (λ ws. map binding_of (take (length ys) ws)) (sym (drop-drop (length xs) place signals))
    ∙ ap (map binding_of) (sym (drop-take (length xs) (length ys) (drop place signals)))
    ∙ ap (λ n. map binding_of (drop (length xs) (take n (drop place signals)))) (sym (length-append xs ys))
    ∙ sym (drop-map binding_of (length xs) (take (length (xs ++ ys)) (drop place signals))) ∙ right ∙ ap (drop (length xs)) (map-append B xs ys)
    ∙ drop_at (map B xs) (map B ys) (length xs) (length-map xs B)

pub test-tick : (g : Graph) (signals : List bindings.Binding) (e : Expression) (place : ℕ) (rs : List tables.Row) → RowsFit (late_bounds g 0) rs → e ≡ Tick
    → TestMade g signals e place rs rs (record { source = sources.Const true; after = place })
test-tick g signals e place rs f is = subst (λ x. TestMade g signals x place rs rs (record { source = sources.Const true; after = place })) (sym is) (record {
  extends = extends-refl (late_bounds g 0) rs f;
  few = omega arith;
  after = omega arith;
  fits = refl;
  says = λ B h. record { fits = refl; value = λ t off. refl };
})

pub test-signal : (g : Graph) (signals : List bindings.Binding) (e : Expression) (s place : ℕ) (d : bindings.Binding) (x : Source) (rs : List tables.Row)
    → RowsFit (late_bounds g 0) rs → e ≡ Sig s → place + length (signals_in e) ≤ length signals → SignalSaid g s (slice_index_or signals place d) x
    → TestMade g signals e place rs rs (record { source = x; after = place + 1 })
test-signal g signals e s place d x rs f is room said =
    let low : place < length signals = omega (arith, ap (λ y. length (signals_in y)) is) in
    subst (λ y. TestMade g signals y place rs rs (record { source = x; after = place + 1 })) (sym is) (record {
      extends = extends-refl (late_bounds g 0) rs f;
      few = omega arith;
      after = refl;
      fits = (said rs).fits;
      says = λ B h.
          let binding = first-binding signals place d (B s) low h in
          record {
            fits = (said rs).fits;
            value = λ t off. (said rs).value t off ∙ ap (λ b. seen_value (is_given t.event) t.valuation b s Resumed) binding;
          };
    })

pub test-not : (g : Graph) (signals : List bindings.Binding) (e a : Expression) (place : ℕ) (old mid new : List tables.Row) (made : Tested) (s : Source) →
    e ≡ Not a
    → TestMade g signals a place old mid made → new ≡ mid ++ tables.TheVariants.Not made.source ∷ [] → s ≡ new_source mid
    → TestMade g signals e place old new (record { source = s; after = made.after })
test-not g signals e a place old mid new made s is m grown fresh =
    let b = late_bounds g 0 in
    let row = tables.TheVariants.Not made.source in
    let grows = grows-not b mid made.source m.extends.fit m.fits in
    let done : TestMade g signals (Not a) place old (mid ++ row ∷ []) (record { source = new_source mid; after = made.after }) = record {
      extends = extends-trans b old mid (mid ++ row ∷ []) m.extends grows.extends;
      few = omega (arith, m.few, length_push mid row);
      after = m.after;
      fits = grows.fits;
      says = λ B h. (makes-not g b mid made.source _ m.extends.fit (m.says B h)).says;
    } in
    subst (λ y. TestMade g signals y place old new (record { source = s; after = made.after })) (sym is)
    (subst (λ rs. TestMade g signals (Not a) place old rs (record { source = s; after = made.after })) (sym grown)
    (subst (λ x. TestMade g signals (Not a) place old (mid ++ row ∷ []) (record { source = x; after = made.after })) (sym fresh) done))

pub test-and : (g : Graph) (signals : List bindings.Binding) (e a b : Expression) (place : ℕ) (old one two new : List tables.Row) (x y : Tested) (s : Source)
    → e ≡ And a b → TestMade g signals a place old one x → TestMade g signals b x.after one two y → new ≡ with_both two x.source y.source
    → s ≡ both_source two x.source y.source → TestMade g signals e place old new (record { source = s; after = y.after })
test-and g signals e a b place old one two new x y s is m k grown fresh =
    let bounds = late_bounds g 0 in
    let first = fits-grown bounds one two x.source k.extends m.fits in
    let last = with_both two x.source y.source in
    let fit = k.extends.fit in
    let grows = grows-both bounds two x.source y.source fit first k.fits in
    let many = length-append (signals_in a) (signals_in b) in
    let done : TestMade g signals (And a b) place old last (record { source = both_source two x.source y.source; after = y.after }) = record {
      extends = extends-trans bounds old two last (extends-trans bounds old one two m.extends k.extends) grows.extends;
      few = omega (arith, m.few, k.few, both-few two x.source y.source);
      after = omega (arith, m.after, k.after);
      fits = grows.fits;
      says = λ B h.
          let left = says-more g bounds one two x.source _ k.extends (m.says B (split-first signals B place (signals_in a) (signals_in b) h)) in
          let at = split-second signals B place (signals_in a) (signals_in b) h in
          let right = k.says B (ap (λ n. map binding_of (take (length (signals_in b)) (drop n signals))) m.after ∙ at) in
          (makes-both g bounds two x.source y.source _ _ fit left right).says;
    } in
    subst (λ z. TestMade g signals z place old new (record { source = s; after = y.after })) (sym is)
    (subst (λ rs. TestMade g signals (And a b) place old rs (record { source = s; after = y.after })) (sym grown)
    (subst (λ z. TestMade g signals (And a b) place old last (record { source = z; after = y.after })) (sym fresh) done))

pub test-or : (g : Graph) (signals : List bindings.Binding) (e a b : Expression) (place : ℕ) (old one two new : List tables.Row) (x y : Tested) (s : Source)
    → e ≡ Or a b → TestMade g signals a place old one x → TestMade g signals b x.after one two y → new ≡ with_either two x.source y.source
    → s ≡ either_source two x.source y.source → TestMade g signals e place old new (record { source = s; after = y.after })
test-or g signals e a b place old one two new x y s is m k grown fresh =
    let bounds = late_bounds g 0 in
    let first = fits-grown bounds one two x.source k.extends m.fits in
    let last = with_either two x.source y.source in
    let fit = k.extends.fit in
    let grows = grows-either bounds two x.source y.source fit first k.fits in
    let many = length-append (signals_in a) (signals_in b) in
    let done : TestMade g signals (Or a b) place old last (record { source = either_source two x.source y.source; after = y.after }) = record {
      extends = extends-trans bounds old two last (extends-trans bounds old one two m.extends k.extends) grows.extends;
      few = omega (arith, m.few, k.few, either-few two x.source y.source);
      after = omega (arith, m.after, k.after);
      fits = grows.fits;
      says = λ B h.
          let left = says-more g bounds one two x.source _ k.extends (m.says B (split-first signals B place (signals_in a) (signals_in b) h)) in
          let at = split-second signals B place (signals_in a) (signals_in b) h in
          let right = k.says B (ap (λ n. map binding_of (take (length (signals_in b)) (drop n signals))) m.after ∙ at) in
          (makes-either g bounds two x.source y.source _ _ fit left right).says;
    } in
    subst (λ z. TestMade g signals z place old new (record { source = s; after = y.after })) (sym is)
    (subst (λ rs. TestMade g signals (Or a b) place old rs (record { source = s; after = y.after })) (sym grown)
    (subst (λ z. TestMade g signals (Or a b) place old last (record { source = z; after = y.after })) (sym fresh) done))

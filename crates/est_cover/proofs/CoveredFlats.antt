-- Inner: the covered program keeps what a flat program keeps.
use Rattle.std.proofs.Common.{◌≡◌, ℕ, ◌+◌, ◌≤◌, nat_lt, List, ◌++◌, length, take, drop, refl, sym, ap, subst, ◌∙◌, arith, All}
use Rattle.std.proofs.Common.{IsTrue, append_assoc}
use Rattle.std.proofs.lemmas.List.{length-append, length-take-le, take-append-drop, take_at}
use Rattle.std.proofs.lemmas.List.Elements.{All-append}
use Rattle.base_types.specs.declared.bounds.TheConstants.Limits.{SIGNALS}
use Rattle.base_types.specs.Distinct.{all_differ}
use Rattle.base_types.specs.Names.{is_name, is_same_name}
use Rattle.est_ast.specs.FlatTrees.{Flat}
use Rattle.est_ast.specs.FlatFits.{Fits}
use Rattle.est_ast.specs.FlatPrograms.{IsFlat, IsNamed, whole_scope}
use Rattle.est_ast.specs.NewSignals.{new_in}
use Rattle.est_cover.specs.Covered.{covered, visible_count}
use Rattle.est_cover.specs.NewNames.{AreNew}
use Rattle.est_cover.proofs.Fitting.{body-fits}

-- new elements after the first ones
inserted-length : {X : Type 0} (seen : ℕ) (names signals : List X) →
    length (take seen signals ++ (names ++ drop seen signals)) ≡ length signals + length names
inserted-length seen names signals =
    let whole = ap length (take-append-drop seen signals) in
    omega (
      arith,
      whole,
      length-append (take seen signals) (drop seen signals),
      length-append (take seen signals) (names ++ drop seen signals),
      length-append names (drop seen signals),
    )

inserted-front : {X : Type 0} (seen count : ℕ) (names signals : List X) → seen ≤ length signals → count ≡ seen + length names →
    take count (take seen signals ++ (names ++ drop seen signals)) ≡ take seen signals ++ names
inserted-front seen count names signals within is =
    ap (take count) (sym (append_assoc (take seen signals) names (drop seen signals)))
    ∙ take_at (take seen signals ++ names) (drop seen signals) count
    (omega (arith, is, length-append (take seen signals) names, length-take-le seen signals within))

-- the signals that the environment sees
pub front-of : (flat : Flat) (first : ℕ) (names : List (List ℕ)) → visible_count flat ≤ length flat.signals →
    take (visible_count (covered flat first names)) (covered flat first names).signals ≡ take (visible_count flat) flat.signals ++ names
front-of flat first names within =
    inserted-front (visible_count flat) (visible_count (covered flat first names)) names flat.signals within (omega arith)

pub length-of : (flat : Flat) (first : ℕ) (names : List (List ℕ)) → length (covered flat first names).signals ≡ length flat.signals + length names
length-of flat first names = inserted-length (visible_count flat) names flat.signals

covered-body : (flat : Flat) (first : ℕ) (names : List (List ℕ)) → IsFlat flat → length flat.signals + length names ≤ SIGNALS →
    Fits flat.inputs (visible_count flat + length names) (length flat.signals + length names) (whole_scope (covered flat first names))
    (covered flat first names).body
covered-body flat first names is room =
    body-fits flat.inputs (visible_count flat) (length flat.signals) first (length names) (omega arith) (omega (arith, room))
    (whole_scope flat) (whole_scope (covered flat first names)) flat.body refl
    (let e : visible_count (covered flat first names) ≡ visible_count flat + length names = omega arith in ap (λ k s. nat_lt s k) e)
    refl is.interface is.body

-- it is a flat program, where there is room for its signals and no two have one name
pub covered-flat : (flat : Flat) (first : ℕ) (names : List (List ℕ)) → IsFlat flat → AreNew (take (visible_count flat) flat.signals) names
    → length (covered flat first names).signals + new_in (covered flat first names).body ≤ SIGNALS → IsFlat (covered flat first names)
covered-flat flat first names is new room =
    let long = length-of flat first names in
    let seen : visible_count flat + length names ≡ visible_count (covered flat first names) = omega arith in
    let body = covered-body flat first names is (omega (arith, long, room)) in
    record {
      interface = omega (arith, long, seen, is.interface);
      room = room;
      body = subst (λ k. Fits flat.inputs k (length (covered flat first names).signals) (whole_scope (covered flat first names))
          (covered flat first names).body) seen
          (subst (λ k. Fits flat.inputs (visible_count flat + length names) k (whole_scope (covered flat first names)) (covered flat first names).body)
          (sym long) body);
      relations = is.relations;
      differ = ap (all_differ is_same_name) (front-of flat first names is.interface) ∙ new.differ;
    }

-- the names of its interface can be written
pub covered-named : (flat : Flat) (first : ℕ) (names : List (List ℕ)) → IsFlat flat → IsNamed flat → AreNew (take (visible_count flat) flat.signals) names
    → IsNamed (covered flat first names)
covered-named flat first names is named new = record {
  name = named.name;
  names = subst (All (λ n. IsTrue (is_name n))) (sym (front-of flat first names is.interface))
      (All-append (λ n. IsTrue (is_name n)) (take (visible_count flat) flat.signals) names named.names new.written);
}

-- Edges that are found, list by list.
use Rattle.std.proofs.Common.{◌≡◌, ℕ, ◌+◌, Bool, true, false, List, [], ◌∷◌, ◌++◌, map, refl, ap, sym, ◌∙◌, append_assoc, add-one}
use Rattle.std.specs.Prelude.{◌&&◌, flat_map, filter, if◌then◌else◌, Option}
use Rattle.std.proofs.lemmas.List.{append-nil, map-append}
use Rattle.std.proofs.lemmas.List.Elements.{filter-append}
use Rattle.std.proofs.lemmas.List.Concat.{flat_map-append}
use Rattle.est_kernel.specs.Terms.{Expression, Tick, Sig, Not, And, Or}
use Rattle.grc_graph.specs.Layers.{Layer}
use Rattle.grc_graph.specs.Scopes.{Scope}
use Rattle.grc_graph.specs.Statements.{signals_in}
use Rattle.grc_graph.specs.Wires.{Wire, status_wire, listed, codes_below}
use Rattle.grc_graph.specs.Edges.{Edge, edge, edges_if, status_to, test_to}
use Rattle.grc_graph.specs.WireOrders.{WireEdge}
use Rattle.grc_graph.proofs.Exports.{codes_below-none}
use Rattle.grc_dep.specs.Names.{number_of}
use Rattle.grc_dep.specs.Found.{pair_of, found}

pub found_append : (ws : List Wire) (es fs : List Edge) → found ws (es ++ fs) ≡ found ws es ++ found ws fs
unfolding found
found_append ws es fs = flat_map-append (λ (e : Edge). pair_of (number_of ws e.from) (number_of ws e.to)) es fs

pub found_none : (ws : List Wire) → found ws [] ≡ []
unfolding found
found_none ws = refl

pub found_edge : (ws : List Wire) (u v : Wire) (i j : Option ℕ) → number_of ws u ≡ i → number_of ws v ≡ j → found ws (edge u v ∷ []) ≡ pair_of i j
unfolding found
found_edge ws u v i j e f = append-nil (pair_of (number_of ws u) (number_of ws v)) ∙ λ k. pair_of (e k) (f k)

pub nothing_found : (ws : List Wire) (xs : List WireEdge) (b : Bool) (es : List Edge) → b ≡ false → xs ≡ xs ++ found ws (edges_if b es)
nothing_found ws xs b es e =
    sym (ap (λ l. xs ++ l) (ap (λ c. found ws (edges_if c es)) e ∙ found_none ws) ∙ append-nil xs)

-- ---- one list behind another

pub pushed_2 : (ws : List Wire) (t t1 t2 : List WireEdge) (a b : List Edge) → t1 ≡ t ++ found ws a → t2 ≡ t1 ++ found ws b → t2 ≡ t ++ found ws (a ++ b)
pushed_2 ws t t1 t2 a b e f =
    f ∙ ap (λ l. l ++ found ws b) e ∙ append_assoc t (found ws a) (found ws b) ∙ ap (λ l. t ++ l) (sym (found_append ws a b))

pub pushed_3 : (ws : List Wire) (t t1 t2 t3 : List WireEdge) (a b c : List Edge) → t1 ≡ t ++ found ws a → t2 ≡ t1 ++ found ws b → t3 ≡ t2 ++ found ws c
    → t3 ≡ t ++ found ws (a ++ (b ++ c))
pushed_3 ws t t1 t2 t3 a b c e f g = pushed_2 ws t t1 t3 a (b ++ c) e (pushed_2 ws t1 t2 t3 b c f g)

pub pushed_4 : (ws : List Wire) (t t1 t2 t3 t4 : List WireEdge) (a b c d : List Edge) → t1 ≡ t ++ found ws a → t2 ≡ t1 ++ found ws b
    → t3 ≡ t2 ++ found ws c → t4 ≡ t3 ++ found ws d → t4 ≡ t ++ found ws (a ++ (b ++ (c ++ d)))
pushed_4 ws t t1 t2 t3 t4 a b c d e f g h = pushed_2 ws t t1 t4 a (b ++ (c ++ d)) e (pushed_3 ws t1 t2 t3 t4 b c d f g h)

pub pushed_5 : (ws : List Wire) (t t1 t2 t3 t4 t5 : List WireEdge) (a b c d x : List Edge) → t1 ≡ t ++ found ws a → t2 ≡ t1 ++ found ws b
    → t3 ≡ t2 ++ found ws c → t4 ≡ t3 ++ found ws d → t5 ≡ t4 ++ found ws x → t5 ≡ t ++ found ws (a ++ (b ++ (c ++ (d ++ x))))
pushed_5 ws t t1 t2 t3 t4 t5 a b c d x e f g h i =
    pushed_2 ws t t1 t5 a (b ++ (c ++ (d ++ x))) e (pushed_4 ws t1 t2 t3 t4 t5 b c d x f g h i)

pub pushed_6 : (ws : List Wire) (t t1 t2 t3 t4 t5 t6 : List WireEdge) (a b c d x y : List Edge) → t1 ≡ t ++ found ws a → t2 ≡ t1 ++ found ws b
    → t3 ≡ t2 ++ found ws c → t4 ≡ t3 ++ found ws d → t5 ≡ t4 ++ found ws x → t6 ≡ t5 ++ found ws y
    → t6 ≡ t ++ found ws (a ++ (b ++ (c ++ (d ++ (x ++ y)))))
pushed_6 ws t t1 t2 t3 t4 t5 t6 a b c d x y e f g h i j =
    pushed_2 ws t t1 t6 a (b ++ (c ++ (d ++ (x ++ y)))) e (pushed_5 ws t1 t2 t3 t4 t5 t6 b c d x y f g h i j)

-- ---- code by code

-- the edges of a list of codes are those of its parts
pub record Adds (F : List ℕ → List Edge) : Type 0 where
  pub none : F [] ≡ []
  pub both : (ks js : List ℕ) → F (ks ++ js) ≡ F ks ++ F js

pub map_adds : (f : ℕ → Edge) → Adds (λ ks. map f ks)
map_adds f = record { none = refl; both = λ ks js. map-append f ks js }

pub flat_map_adds : (f : ℕ → List Edge) → Adds (λ ks. flat_map f ks)
flat_map_adds f = record { none = refl; both = λ ks js. flat_map-append f ks js }

pub filter_adds : (f : ℕ → Edge) (p : ℕ → Bool) → Adds (λ ks. map f (filter p ks))
filter_adds f p = record { none = refl; both = λ ks js. ap (map f) (filter-append p ks js) ∙ map-append f (filter p ks) (filter p js) }

below_more : (n : ℕ) (A : ℕ → Bool) (b : Bool) → A n ≡ b → codes_below (n + 1) A ≡ codes_below n A ++ (if b then n ∷ [] else [])
unfolding codes_below
below_more n A b e = ap (λ k. codes_below k A) (add-one n) ∙ ap (λ t. codes_below n A ++ (if t then n ∷ [] else [])) e

if_one : (F : List ℕ → List Edge) (b : Bool) (n : ℕ) → F [] ≡ [] → F (if b then n ∷ [] else []) ≡ edges_if b (F (n ∷ []))
if_one F true n e = refl
if_one F false n e = e

pub codes_begin : (ws : List Wire) (F : List ℕ → List Edge) (A : ℕ → Bool) (xs : List WireEdge) → Adds F → xs ≡ xs ++ found ws (F (codes_below 0 A))
codes_begin ws F A xs h =
    sym (ap (λ l. xs ++ l) (ap (λ ks. found ws (F ks)) (codes_below-none A) ∙ ap (found ws) h.none ∙ found_none ws) ∙ append-nil xs)

pub codes_step : (ws : List Wire) (F : List ℕ → List Edge) (A : ℕ → Bool) (n : ℕ) (b : Bool) (xs pairs new : List WireEdge) → Adds F → b ≡ A n
    → pairs ≡ xs ++ found ws (F (codes_below n A)) → new ≡ pairs ++ found ws (edges_if b (F (n ∷ []))) → new ≡ xs ++ found ws (F (codes_below (n + 1) A))
codes_step ws F A n b xs pairs new h e so here =
    here ∙ ap (λ l. l ++ found ws (edges_if b (F (n ∷ [])))) so ∙ append_assoc xs (found ws (F (codes_below n A))) (found ws (edges_if b (F (n ∷ []))))
    ∙ ap (λ l. xs ++ l) (sym (found_append ws (F (codes_below n A)) (edges_if b (F (n ∷ []))))
    ∙ ap (λ l. found ws (F (codes_below n A) ++ l)) (sym (if_one F b n h.none))
    ∙ ap (found ws) (sym (h.both (codes_below n A) (if b then n ∷ [] else [])) ∙ ap F (sym (below_more n A b (sym e)))))

pub codes_end : (ws : List Wire) (F : List ℕ → List Edge) (A : ℕ → Bool) (n end : ℕ) (xs pairs : List WireEdge) → n ≡ end
    → codes_below end A ≡ listed A → pairs ≡ xs ++ found ws (F (codes_below n A)) → pairs ≡ xs ++ found ws (F (listed A))
codes_end ws F A n end xs pairs e all so = so ∙ ap (λ ks. xs ++ found ws (F ks)) (ap (λ k. codes_below k A) e ∙ all)

pub two_tests : (f : ℕ → Edge) (n : ℕ) (q a : Bool) → edges_if (q && a) (f n ∷ []) ≡ edges_if a (map f (if q then n ∷ [] else []))
two_tests f n true true = refl
two_tests f n true false = refl
two_tests f n false true = refl
two_tests f n false false = refl

-- ---- the status wires of a test

pub test_to-signals : (B : Scope) (e : Expression) (l : Layer) (w : Wire) → test_to B e l w ≡ flat_map (λ s. status_to (status_wire (B s) s l) w) (signals_in e)
test_to-signals B Tick l w = refl
test_to-signals B (Sig s) l w = sym (append-nil (status_to (status_wire (B s) s l) w))
test_to-signals B (Not a) l w = test_to-signals B a l w
test_to-signals B (And a b) l w =
    (λ i. test_to-signals B a l w i ++ test_to-signals B b l w i)
    ∙ sym (flat_map-append (λ s. status_to (status_wire (B s) s l) w) (signals_in a) (signals_in b))
test_to-signals B (Or a b) l w =
    (λ i. test_to-signals B a l w i ++ test_to-signals B b l w i)
    ∙ sym (flat_map-append (λ s. status_to (status_wire (B s) s l) w) (signals_in a) (signals_in b))

-- A formula over the numbers of shared instances and wires stands for the formula over their names.
use Rattle.std.proofs.Common.{◌≡◌, ℕ, ◌+◌, ◌<◌, ◌&&◌, true, List, [], ◌∷◌, length, map, get_or, refl, sym, ap, ◌∙◌, subst}
use Rattle.std.specs.Prelude.{All, IsTrue, nat_lt, slice_index}
use Rattle.std.specs.List.{list_all}
use Rattle.std.proofs.lemmas.Bool.{and_from, and_parts, lt-ltb, ltb-true}
use Rattle.std.proofs.lemmas.List.Sums.{AllPass-from_list_all}
use Rattle.std.proofs.lemmas.List.Elements.{All-head, All-tail}
use Rattle.base_types.specs.declared.indices.InstId.{InstId}
use Rattle.base_types.specs.declared.indices.WireId.{WireId}
use Rattle.grc_graph.specs.declared.formulas.Formula as stored
use Rattle.grc_graph.specs.declared.formulas.Formula.TheVariants as formulas
use Rattle.grc_graph.specs.Formulas.{Formula, Value, Upto, Kept, Held, Conjunction, Disjunction, any_of}
use Rattle.grc_graph.specs.GraphShapes.{formula_fits}
use Rattle.grc_graph.specs.Instances.{Instance}
use Rattle.grc_graph.specs.PlainGraphs.{formula_of, instance_at, wire_at}
use Rattle.grc_graph.specs.Wires.{Wire}
use Rattle.grc_share.specs.LeastMembers.{shared_of}
use Rattle.grc_share.specs.Renamings.{AreNumbers, StandsFor, renamed_wires, values}
use Rattle.grc_share.specs.SharedGraphs.{renamed}
use Rattle.grc_share.specs.SharedInstances.{Sharing}
use Rattle.grc_share.specs.SharedWires.{shared_wire}

-- ---- words with parts

pub both-stand : (insts : List Instance) (names : List Wire) (a b : Formula) (f g w : stored.Formula)
    → formula_of insts names w ≡ Conjunction (formula_of insts names f) (formula_of insts names g)
    → formula_fits (length insts) (length names) w ≡ (formula_fits (length insts) (length names) f && formula_fits (length insts) (length names) g)
    → StandsFor insts names a f → StandsFor insts names b g → StandsFor insts names (Conjunction a b) w
both-stand insts names a b f g w e z h k = record {
  same = e ∙ λ i. Conjunction (h.same i) (k.same i);
  fits = z ∙ and_from (formula_fits (length insts) (length names) f) (formula_fits (length insts) (length names) g) h.fits k.fits;
}

pub either-stands : (insts : List Instance) (names : List Wire) (a b : Formula) (f g w : stored.Formula)
    → formula_of insts names w ≡ Disjunction (formula_of insts names f) (formula_of insts names g)
    → formula_fits (length insts) (length names) w ≡ (formula_fits (length insts) (length names) f && formula_fits (length insts) (length names) g)
    → StandsFor insts names a f → StandsFor insts names b g → StandsFor insts names (Disjunction a b) w
either-stands insts names a b f g w e z h k = record {
  same = e ∙ λ i. Disjunction (h.same i) (k.same i);
  fits = z ∙ and_from (formula_fits (length insts) (length names) f) (formula_fits (length insts) (length names) g) h.fits k.fits;
}

pub stands-as : (insts : List Instance) (names : List Wire) (a b : Formula) (f : stored.Formula) → a ≡ b → StandsFor insts names a f → StandsFor insts names b f
stands-as insts names a b f e h = record { same = h.same ∙ e; fits = h.fits }

-- ---- the or of wires

renamed-any : (K : Sharing) (fs : List Formula) → renamed K (any_of fs) ≡ any_of (map (renamed K) fs)
renamed-any K [] = refl
renamed-any K (a ∷ []) = refl
renamed-any K (a ∷ (b ∷ fs)) = ap (Disjunction (renamed K a)) (renamed-any K (b ∷ fs))

-- numbers that are all in range
pub fits-all : (n : ℕ) (list : List WireId) → All (λ w. w.0 < n) list → list_all (λ (w : WireId). nat_lt w.0 n) list ≡ true
fits-all n [] h = refl
fits-all n (w ∷ ws) h =
    and_from (nat_lt w.0 n) (list_all (λ (w : WireId). nat_lt w.0 n) ws) (lt-ltb w.0 n (All-head (λ (w : WireId). w.0 < n) w ws h))
    (fits-all n ws (All-tail (λ (w : WireId). w.0 < n) w ws h))

module _ (K : Sharing) (insts : List Instance) (names : List Wire) (shared : List Instance) (shared_names : List Wire)
    (instances : List InstId) (wires : List ℕ) (are : AreNumbers K insts names shared shared_names instances wires) where
  pub wire-named : (w : ℕ) → w < length wires → wire_at shared_names (slice_index wires w) ≡ shared_wire K (wire_at names w)
  wire-named w l = (are.wire_numbers w l).same _

  pub instance-named : (i : ℕ) (d : InstId) → i < length instances → instance_at shared (get_or instances i d).0 ≡ shared_of K (instance_at insts i)
  instance-named i d l = (are.instance_numbers i d l).same _

  wires-renamed : (list : List WireId) → All (λ w. w.0 < length wires) list
      → values shared_names (renamed_wires wires list) ≡ map (renamed K) (values names list)
  wires-renamed [] h = refl
  wires-renamed (w ∷ ws) h =
      let low = All-head (λ (v : WireId). v.0 < length wires) w ws h in
      let rest = wires-renamed ws (All-tail (λ (v : WireId). v.0 < length wires) w ws h) in
      λ i. Value (wire-named w.0 low i) ∷ rest i

  wires-low : (list : List WireId) → All (λ w. w.0 < length wires) list
      → list_all (λ (w : WireId). nat_lt w.0 (length shared_names)) (renamed_wires wires list) ≡ true
  wires-low [] h = refl
  wires-low (w ∷ ws) h =
      and_from (nat_lt (slice_index wires w.0) (length shared_names)) _
      (lt-ltb (slice_index wires w.0) (length shared_names) (are.wire_numbers w.0 (All-head (λ (v : WireId). v.0 < length wires) w ws h)).within)
      (wires-low ws (All-tail (λ (v : WireId). v.0 < length wires) w ws h))

  pub any-renamed : (list : List WireId) (f : stored.Formula) (out : List WireId)
      → formula_of shared shared_names f ≡ any_of (values shared_names out)
      → formula_fits (length shared) (length shared_names) f ≡ list_all (λ (w : WireId). nat_lt w.0 (length shared_names)) out
      → out ≡ renamed_wires wires list → All (λ w. w.0 < length wires) list
      → StandsFor shared shared_names (renamed K (any_of (values names list))) f
  any-renamed list f out e z is h = record {
    same = e ∙ ap (λ l. any_of (values shared_names l)) is ∙ ap any_of (wires-renamed list h) ∙ sym (renamed-any K (values names list));
    fits = z ∙ ap (list_all (λ (w : WireId). nat_lt w.0 (length shared_names))) is ∙ wires-low list h;
  }

  -- ---- words without parts

  pub wire-stands : (w : ℕ) → w < length wires → StandsFor shared shared_names (renamed K (Value (wire_at names w)))
      (formulas.Wire (record { 0 = slice_index wires w }))
  wire-stands w l = record { same = ap Value (wire-named w l); fits = lt-ltb (slice_index wires w) (length shared_names) (are.wire_numbers w l).within }

  pub upto-stands : (i : ℕ) (k : ℕ) (d : InstId) → i < length instances
      → StandsFor shared shared_names (renamed K (Upto (instance_at insts i).path (instance_at insts i).layer k)) (formulas.Upto (get_or instances i d) k)
  upto-stands i k d l = record {
    same = ap (λ (x : Instance). Upto x.path x.layer k) (instance-named i d l);
    fits = lt-ltb (get_or instances i d).0 (length shared) (are.instance_numbers i d l).within;
  }

  pub kept-stands : (i : ℕ) (d : InstId) → i < length instances
      → StandsFor shared shared_names (renamed K (Kept (instance_at insts i).path (instance_at insts i).layer)) (formulas.Kept (get_or instances i d))
  kept-stands i d l = record {
    same = ap (λ (x : Instance). Kept x.path x.layer) (instance-named i d l);
    fits = lt-ltb (get_or instances i d).0 (length shared) (are.instance_numbers i d l).within;
  }

  pub held-stands : (i : ℕ) (d : InstId) → i < length instances
      → StandsFor shared shared_names (renamed K (Held (instance_at insts i).path (instance_at insts i).layer)) (formulas.Held (get_or instances i d))
  held-stands i d l = record {
    same = ap (λ (x : Instance). Held x.path x.layer) (instance-named i d l);
    fits = lt-ltb (get_or instances i d).0 (length shared) (are.instance_numbers i d l).within;
  }

-- ---- what fits, and how large it is

pub fits-left : (i n : ℕ) (a b : stored.Formula) → IsTrue (formula_fits i n a && formula_fits i n b) → IsTrue (formula_fits i n a)
fits-left i n a b h = (and_parts (formula_fits i n a) (formula_fits i n b) h).0

pub fits-right : (i n : ℕ) (a b : stored.Formula) → IsTrue (formula_fits i n a && formula_fits i n b) → IsTrue (formula_fits i n b)
fits-right i n a b h = (and_parts (formula_fits i n a) (formula_fits i n b) h).1

pub fits-any : (n : ℕ) (list read : List WireId) → read ≡ list → IsTrue (list_all (λ (w : WireId). nat_lt w.0 n) list) → All (λ w. w.0 < n) read
fits-any n list read e h =
    subst (λ (l : List WireId). All (λ (w : WireId). w.0 < n) l) (sym e)
    (λ k d l. ltb-true (get_or list k d).0 n (AllPass-from_list_all (λ (w : WireId). nat_lt w.0 n) list h k d l))

abbrev pub weight : stored.Formula → ℕ
weight (formulas.Const b) = 1
weight formulas.Boot = 1
weight (formulas.Input s) = 1
weight (formulas.Wire v) = 1
weight (formulas.Selected p) = 1
weight (formulas.Upto i k) = 1
weight (formulas.Kept i) = 1
weight (formulas.Held i) = 1
weight (formulas.Not' _ a) = weight a + 1
weight (formulas.And' _ a _ b) = weight a + weight b + 1
weight (formulas.Or' _ a _ b) = weight a + weight b + 1
weight (formulas.AnyOf v) = 1

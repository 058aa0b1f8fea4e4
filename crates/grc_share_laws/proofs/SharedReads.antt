-- What the equations of shared wires read: shared wires from which a shared edge leads to their own.
--
-- A formula of a built graph names live instances alone, since its numbers fit. So a wire that it reads is one of the
-- program's where its shared wire is, and then the edge from it is a shared edge.
use Rattle.std.proofs.Common.{◌≡◌, ℕ, ◌<◌, true, List, [], ◌∷◌, length, map, get_or}
use Rattle.std.specs.Prelude.{All, IsTrue, nat_lt}
use Rattle.std.proofs.lemmas.Bool.{and_parts, ltb-true}
use Rattle.std.proofs.lemmas.List.Elements.{All-head, All-tail}
use Rattle.std.proofs.lemmas.List.Sums.{AllPass-from_list_all}
use Rattle.base_types.specs.declared.indices.WireId.{WireId}
use Rattle.grc_graph.specs.declared.formulas.Formula as stored
use Rattle.grc_graph.specs.declared.formulas.Formula.TheVariants as formulas
use Rattle.grc_graph.specs.Formulas.{Formula, Const, Boot, Input, Value, Selected, Upto, Kept, Held, Negation, Conjunction, Disjunction, any_of}
use Rattle.grc_graph.specs.GraphShapes.{formula_fits}
use Rattle.grc_graph.specs.Instances.{Instance}
use Rattle.grc_graph.specs.PlainGraphs.{formula_of, instance_at, wire_at}
use Rattle.grc_graph.specs.Reads.{ReadsOnly}
use Rattle.grc_graph.specs.Rows.{live_in}
use Rattle.grc_graph.specs.Wires.{Wire, End}
use Rattle.grc_share.specs.SharedGraphs.{renamed}
use Rattle.grc_share.specs.SharedInstances.{Sharing}
use Rattle.grc_share.specs.SharedWires.{shared_wire}
use Rattle.grc_share.proofs.Exports.{IsLive}

-- ---- renamed formulas read shared wires

pub renamed-reads : (K : Sharing) (P Q : Wire → Type 0) → ((u : Wire) → P u → Q (shared_wire K u)) → (f : Formula) → ReadsOnly P f
    → ReadsOnly Q (renamed K f)
renamed-reads K P Q g (Const b) h = tt
renamed-reads K P Q g Boot h = tt
renamed-reads K P Q g (Input s) h = tt
renamed-reads K P Q g (Value w) h = g w h
renamed-reads K P Q g (Selected n) h = tt
renamed-reads K P Q g (Upto n l k) h = λ j le. g (End n l j) (h j le)
renamed-reads K P Q g (Kept n l) h = absurd h
renamed-reads K P Q g (Held n l) h = absurd h
renamed-reads K P Q g (Negation a) h = renamed-reads K P Q g a h
renamed-reads K P Q g (Conjunction a b) h = (renamed-reads K P Q g a h.0, renamed-reads K P Q g b h.1)
renamed-reads K P Q g (Disjunction a b) h = (renamed-reads K P Q g a h.0, renamed-reads K P Q g b h.1)

-- ---- formulas that fit read what is live

module _ (K : Sharing) (P : Wire → Type 0) (insts : List Instance) (names : List Wire)
    (instances_live : (i : ℕ) → i < length insts → live_in (K.live (instance_at insts i).path) (instance_at insts i).layer ≡ true)
    (names_live : (w : ℕ) → w < length names → IsLive K (wire_at names w)) where
  abbrev pub Both : Wire → Type 0
  Both u = P u × IsLive K u

  any-live : (list : List WireId) → All (λ w. w.0 < length names) list → ReadsOnly P (any_of (map (λ w. Value (wire_at names w.0)) list))
      → ReadsOnly Both (any_of (map (λ w. Value (wire_at names w.0)) list))
  any-live [] low h = tt
  any-live (w ∷ []) low h = (h, names_live w.0 (All-head (λ (v : WireId). v.0 < length names) w [] low))
  any-live (w ∷ (v ∷ vs)) low h = (
    (h.0, names_live w.0 (All-head (λ (v : WireId). v.0 < length names) w (v ∷ vs) low)),
    any-live (v ∷ vs) (All-tail (λ (v : WireId). v.0 < length names) w (v ∷ vs) low) h.1,
  )

  pub reads-live : (f : stored.Formula) → IsTrue (formula_fits (length insts) (length names) f) → ReadsOnly P (formula_of insts names f)
      → ReadsOnly Both (formula_of insts names f)
  reads-live (formulas.Const b) fits h = tt
  reads-live formulas.Boot fits h = tt
  reads-live (formulas.Input s) fits h = tt
  reads-live (formulas.Wire w) fits h = (h, names_live w.0 (ltb-true w.0 (length names) fits))
  reads-live (formulas.Selected p) fits h = tt
  reads-live (formulas.Upto i k) fits h = λ j le. (h j le, instances_live i.0 (ltb-true i.0 (length insts) fits))
  reads-live (formulas.Kept i) fits h = absurd h
  reads-live (formulas.Held i) fits h = absurd h
  reads-live (formulas.Not' _ a) fits h = reads-live a fits h
  reads-live (formulas.And' _ a _ b) fits h =
      let p = and_parts (formula_fits (length insts) (length names) a) (formula_fits (length insts) (length names) b) fits in
      (reads-live a p.0 h.0, reads-live b p.1 h.1)
  reads-live (formulas.Or' _ a _ b) fits h =
      let p = and_parts (formula_fits (length insts) (length names) a) (formula_fits (length insts) (length names) b) fits in
      (reads-live a p.0 h.0, reads-live b p.1 h.1)
  reads-live (formulas.AnyOf v) fits h =
      any-live v.items
      (λ k d l. ltb-true (get_or v.items k d).0 (length names)
      (AllPass-from_list_all (λ (w : WireId). nat_lt w.0 (length names)) v.items fits k d l)) h

-- A circuit that has the constants alone.
use Rattle.std.proofs.Common.{◌≡◌, ℕ, ◌+◌, ◌*◌, ◌<◌, ◌≤◌, ◌^◌, zero, suc, true, false, Bool, List, [], ◌∷◌, ◌++◌, length, replicate, slice_index_or, refl, sym}
use Rattle.std.proofs.Common.{ap, ◌∙◌, subst, arith, Option, Some, None, inl, inr}
use Rattle.std.specs.List.{sum_by}
use Rattle.std.proofs.lemmas.Bool.{cases_lt}
use Rattle.std.proofs.lemmas.List.{get_or-replicate, length-replicate}
use Rattle.std.proofs.lemmas.List.Folds.{sum_by-replicate}
use Rattle.std.proofs.Math.ListN.{get_or-eq_default}
use Rattle.base_types.specs.declared.indices.NetId.{NetId}
use Rattle.base_types.specs.declared.indices.WireId.{WireId}
use Rattle.est_kernel.specs.Plain.{program_of, given_count}
use Rattle.grc_graph.specs.declared.graph.Graph.{Graph}
use Rattle.grc_formulas.specs.declared.table.Words.{Words}
use Rattle.net_ir.specs.declared.netlist.Gate.{Gate}
use Rattle.net_ir.specs.declared.netlist.Op.TheVariants.{Const}
use Rattle.net_ir.specs.Gates.{ReadsLower}
use Rattle.net_ir.proofs.Exports.{ReadsLower-push}
use Rattle.net_gen.specs.Drawings.{Drawing, with_gate}
use Rattle.net_gen.specs.Growing.{spare, spent}
use Rattle.net_gen.specs.Making.{Begun}
use Rattle.net_gen.specs.Senses.{Sense, Sound, Stands, Table, first_of, net_sense, wire_sense}
use Rattle.net_gen.proofs.Growth.{stands-new, stands-more}
use Rattle.net_gen.proofs.Sensing.{op-const}

-- an empty table
abbrev pub no_entries : ℕ → List (Option NetId)
no_entries n = replicate n None

none-there : (n k : ℕ) (a : NetId) → slice_index_or (no_entries n) k None ≡ Some a → ⊥
none-there n k a e = elim (cases_lt k n) [
  | inl low ↦ let empty : slice_index_or (no_entries n) k None ≡ None = get_or-replicate n k None None low in cc
  | inr high ↦
      let many : length (no_entries n) ≡ n = length-replicate n None in
      let out : length (no_entries n) ≤ k = omega arith in
      let empty : slice_index_or (no_entries n) k None ≡ None = get_or-eq_default (no_entries n) None out in cc
]

empty-table : (g : Graph) (d : Drawing) (n : ℕ) (senses : ℕ → Sense g) → Table g d (no_entries n) senses
empty-table g d n senses = λ k a e. absurd (none-there n k a e)

spare-empty : (n : ℕ) → sum_by spare (no_entries n) ≡ n
spare-empty n = sum_by-replicate spare n None ∙ (omega arith)

abbrev pub constant : Bool → Gate
constant b = record { op = Const b; wire = None }

abbrev first_drawing : (given first n m : ℕ) → Drawing
first_drawing given first n m = record {
  given = given;
  first = first;
  no = record { 0 = first };
  yes = record { 0 = first + 1 };
  gates = constant false ∷ (constant true ∷ []);
  wires = no_entries n;
  ends = no_entries n;
  rows = no_entries m;
}

no-carrier : (k : ℕ) (x : Gate) (v : WireId) → k < 2 → (slice_index_or (constant false ∷ (constant true ∷ [])) k x).wire ≡ Some v → ⊥
no-carrier zero x v h e = cc
no-carrier (suc zero) x v h e = cc
no-carrier (suc (suc k)) x v h e = absurd (omega arith)

constants-stand : (g : Graph) (given first n m : ℕ) → first ≡ first_of g
    → Stands g (first_drawing given first n m) first (λ t. false) × Stands g (first_drawing given first n m) (first + 1) (λ t. true)
constants-stand g given first n m e =
    let bare : Drawing = record (first_drawing given first n m) { gates = [] } in
    let one = with_gate bare (Const false) None in
    let no = stands-new g bare (Const false) None _ e (op-const g bare false) in
    let yes = stands-new g one (Const true) None _ e (op-const g one true) in
    let at : first + 0 ≡ first = omega arith in
    let more = stands-more g one (Const true) None (first + 0) _ e no in (
      record { below = omega (arith, more.below); says = ap (net_sense g (constant false ∷ (constant true ∷ []))) (sym at) ∙ more.says },
      record { below = yes.below; says = yes.says },
    )

first-reads : (first : ℕ) → ReadsLower first (constant false ∷ (constant true ∷ []))
first-reads first =
    let none : ReadsLower first [] = λ k d h. absurd (omega arith) in
    ReadsLower-push first (constant false ∷ []) (constant true) (ReadsLower-push first [] (constant false) none (omega arith)) (omega arith)

begun-at : (g : Graph) (w : Words) (given first : ℕ) → given ≡ given_count (program_of g.program) → first ≡ first_of g → first + 2 < 2 ^ 32
    → Begun g w (first_drawing given first (length g.wires.items) (length w.rows.items))
begun-at g w given first eg ef room =
    let n = length g.wires.items in
    let m = length w.rows.items in
    let d = first_drawing given first n m in
    let stand = constants-stand g given first n m ef in
    record {
      sound = record {
        given = eg;
        first = ef;
        numbered = omega arith;
        reads = first-reads first;
        no = stand.0;
        yes = stand.1;
        wires = empty-table g d n _;
        ends = empty-table g d n _;
        rows = empty-table g d m _;
        carrying = λ k x v h e. absurd (no-carrier k x v (omega arith) e);
        wires_all = length-replicate n None;
        ends_all = length-replicate n None;
        rows_all = length-replicate m None;
      };
      carries = refl;
      within = omega (arith, spare-empty n);
    }

-- a circuit with these parts
pub begun : (g : Graph) (w : Words) (d : Drawing) → d.given ≡ given_count (program_of g.program) → d.first ≡ first_of g → first_of g + 2 < 2 ^ 32
    → d.no ≡ record { 0 = d.first } → d.yes ≡ record { 0 = d.first + 1 } → d.gates ≡ constant false ∷ (constant true ∷ [])
    → d.wires ≡ no_entries (length g.wires.items) → d.ends ≡ no_entries (length g.wires.items) → d.rows ≡ no_entries (length w.rows.items) → Begun g w d
begun g w d eg ef room never always gates ws es rs =
    let same : d ≡ first_drawing d.given d.first (length g.wires.items) (length w.rows.items) = λ i. record {
      given = d.given;
      first = d.first;
      no = never i;
      yes = always i;
      gates = gates i;
      wires = ws i;
      ends = es i;
      rows = rs i;
    } in
    subst (Begun g w) (sym same) (begun-at g w d.given d.first eg ef (omega arith))

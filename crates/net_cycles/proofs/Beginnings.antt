-- Gates that begin with the constants.
use Rattle.std.proofs.Common.{◌≡◌, ℕ, zero, suc, ◌+◌, ◌<◌, ◌^◌, Bool, true, false, [], ◌∷◌, ◌++◌, length, None, sym, ap, ◌∙◌, subst, arith}
use Rattle.std.proofs.lemmas.List.{get_or_push, length_push, get_or_append_left}
use Rattle.est_kernel.specs.Plain.{program_of, given_count}
use Rattle.grc_graph.specs.declared.graph.Graph.{Graph}
use Rattle.net_gen.specs.Senses.{first_of}
use Rattle.net_ir.specs.declared.netlist.Gate.{Gate}
use Rattle.net_ir.specs.declared.netlist.Op.TheVariants as ops
use Rattle.net_ir.specs.Gates.{ReadsLower, carried, gate_values, value_in}
use Rattle.net_unroll.specs.declared.growing.Growing.{Growing}
use Rattle.net_cycles.specs.declared.base.Base.{Base}
use Rattle.net_cycles.specs.Bases.{IsBase}

abbrev pub constant : Bool → Gate
constant b = record { op = ops.Const b; wire = None }

reads-nothing : (first : ℕ) → ReadsLower first (constant false ∷ (constant true ∷ []))
reads-nothing first zero d low = omega arith
reads-nothing first (suc zero) d low = omega arith
reads-nothing first (suc (suc k)) d low = absurd (omega arith)

pub begun : (g : Graph) (b : Base) (d : Growing) → b.given ≡ given_count (program_of g.program) → b.leaves ≡ length g.next.items → d.first ≡ first_of g
    → first_of g + 2 < 2 ^ 32 → b.no.0 ≡ d.first → b.yes.0 ≡ d.first + 1 → d.list.items ≡ constant false ∷ (constant true ∷ []) → IsBase g b d
begun g b d given leaves first few never always list =
    let many : length d.list.items ≡ 2 = ap length list in
    record {
      given = given;
      leaves = leaves;
      first = first;
      few = few;
      no = record {
        low = omega arith;
        never = λ front wide.
            ap (λ l. value_in (gate_values front l) b.no.0) list
            ∙ get_or_append_left (front ++ false ∷ []) (true ∷ []) false b.no.0 (let n = length_push front false in omega arith)
            ∙ get_or_push front false false b.no.0 (omega arith);
      };
      yes = record {
        low = omega arith;
        always = λ front wide.
            ap (λ l. value_in (gate_values front l) b.yes.0) list
            ∙ get_or_push (front ++ false ∷ []) true false b.yes.0 (let n = length_push front false in omega arith);
      };
      growing = record {
        reads = subst (ReadsLower d.first) (sym list) (reads-nothing d.first);
        numbered = omega arith;
      };
      silent = ap carried list;
    }

use Rattle.std.proofs.Common.{◌≡◌, ◌+◌, ◌-◌, ◌≤◌, ◌++◌, ◌∙◌, ℕ, List, Bool, length, map, All, subst, sym, ap, arith, ◌*◌, Vec, Global}
use Rattle.net_ir.specs.declared.netlist.Gate.{Gate}
use Rattle.net_ir.specs.Gates.{operand_end}
use Rattle.net_ir.specs.Netlists.{first_gate}
use Rattle.net_ir.specs.Runs.{netlist_of}
use Rattle.net_simp.specs.Renaming.{stand_in}
use Rattle.net_state_enc.specs.declared.codes.Literal.{Literal}
use Rattle.net_state_enc.specs.Codes.{are_met}
use Rattle.net_state_enc.specs.Drafts.{Grew, EachSays, bits_at, literals_of, literals_at}
use Rattle.net_state_enc.specs.Recodings.{code_base, first_behind, copied, numbers_from}
use Rattle.std.proofs.lemmas.List.{length-map}
use Rattle.net_state_enc.proofs.GateLaws.{grew-length}
use Rattle.net_state_enc.proofs.Drawing.{names-many, copies-drawn, reads-within}
use Rattle.net_state_enc.proofs.netlist.draw_copies.Goals as goal

pub copy_gates-requires : goal.copy_gates-requires
copy_gates-requires c =
    let net = netlist_of c.args.net.now in
    let leaves = c.in_ok-leaves.leaves.items in
    let given = ap length c.deref.ensures.value in
    let many = names-many c.in_ok-names.names.items c.deref.result.now (c.args.draft.now.first - c.args.width) c.next_number-here.result c.len.result
    c.in_ok-names.ensures in
    let first = c.requires.first in
    let count = c.requires.count in
    let leaf_count = c.in_ok-leaves.ensures.count in
    let gates_count = c.len.ensures in
    let ok = c.args.net.now.gates.ok.0 in
    let names = ap length c.deref-2.ensures.value in
    let all : first_gate net + length net.gates ≤ length c.deref-2.result.now = omega arith in
    subst (All (λ (g : Gate). operand_end g.op ≤ length c.deref-2.result.now)) (sym c.deref-3.ensures.value)
    (reads-within (first_gate net) (length c.deref-2.result.now) net.gates c.args.net.now.is_net.reads_lower all)

pub returns-clause-drawn : goal.returns-clause-drawn
returns-clause-drawn c =
    let net = netlist_of c.args.net.now in
    let width = c.args.width in
    let codes = literals_of c.args.codes.now in
    let F = first_behind net width in
    let before = c.args.draft.now.gates.items in
    let decode = c.leaf_nets.new.draft.gates.items in
    let names = c.in_ok-names.names.items in
    let leaves = c.deref.result.now in
    let base = c.args.draft.now.first - width in
    let first : c.args.draft.now.first ≡ F = c.requires.first in
    let at : base ≡ code_base net = omega arith in
    let codes_many = length-map c.args.codes.now (λ (x : Vec Literal Global). x.items) in
    let most : 2 * (length c.args.codes.now * width) ≡ 2 * (length codes * width) = ap (λ n. 2 * (n * width)) (sym codes_many) in
    let grew = subst (λ n. Grew F before decode n) most
    (subst (λ f. Grew f before decode (2 * (length c.args.codes.now * width))) first c.in_ok-leaves.ensures.grew) in
    let M = λ (k : ℕ) (v : List Bool). are_met (bits_at base v) (literals_at c.args.codes.now k) in
    let says = subst (λ ns. EachSays F decode ns M) (sym c.deref.ensures.value) (subst (λ f. EachSays f decode c.in_ok-leaves.leaves.items M) first
    c.in_ok-leaves.ensures.says) in
    let many : length leaves ≡ length codes = ap length c.deref.ensures.value ∙ c.in_ok-leaves.ensures.count ∙ sym codes_many in
    let there : c.next_number-here.result ≡ F + length decode = c.next_number-here.ensures
    ∙ ap (λ f. f + length decode) (c.in_ok-leaves.ensures.first ∙ first) in
    let gates_many : c.len.result ≡ length net.gates = omega (arith, c.len.ensures, c.args.net.now.gates.ok.0) in
    let is = c.in_ok-names.ensures ∙ ap (λ n. (numbers_from 0 base ++ leaves) ++ numbers_from c.next_number-here.result n) gates_many in
    let all = c.in_ok-copy_gates.ensures.gates ∙ (λ i. decode ++ map (copied (stand_in (c.deref-2.ensures.value i))) (c.deref-3.ensures.value i)) in
    copies-drawn net width codes before decode c.copy_gates.new.draft.gates.items names leaves base c.next_number-here.result c.args.net.now.is_net
    (let q = c.requires.count in let ok = c.args.net.now.latches.ok.0 in omega (arith, codes_many)) at there grew c.requires.silent many says is all

pub next_number-here-requires : goal.next_number-here-requires
next_number-here-requires c =
    omega (
      arith,
      c.requires.room,
      c.in_ok-leaves.ensures.first,
      grew-length c.args.draft.now.first c.args.draft.now.gates.items c.leaf_nets.new.draft.gates.items (2 * (length c.args.codes.now * c.args.width))
          c.in_ok-leaves.ensures.grew,
    )

pub new_names-requires : goal.new_names-requires
new_names-requires c =
    omega (
      arith,
      c.requires.room,
      c.in_ok-leaves.ensures.first,
      c.next_number-here.ensures,
      c.len.ensures,
      c.args.net.now.gates.ok.0,
      grew-length c.args.draft.now.first c.args.draft.now.gates.items c.leaf_nets.new.draft.gates.items (2 * (length c.args.codes.now * c.args.width))
          c.in_ok-leaves.ensures.grew,
    )

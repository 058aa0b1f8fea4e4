use Rattle.std.proofs.Common.{◌≡◌, ◌+◌, ◌*◌, ◌^◌, ◌<◌, ◌≤◌, ◌∙◌, ℕ, Bool, List, true, false, length, map, drop, slice_index_or, subst, sym, ap}
use Rattle.std.proofs.Common.{arith, Vec, Global}
use Rattle.std.proofs.lemmas.List.{length-map, length_push}
use Rattle.net_ir.specs.declared.netlist.Op.TheVariants.{Const}
use Rattle.net_ir.specs.declared.netlist.Gate.{Gate}
use Rattle.net_ir.specs.Runs.{netlist_of}
use Rattle.net_ir.specs.Netlists.{net_count}
use Rattle.net_simp.specs.Renaming.{stand_in}
use Rattle.net_state_enc.specs.declared.codes.Literal.{Literal}
use Rattle.net_state_enc.specs.Drafts.{Grew, Says, EachSays, literals_of, values_of, wanted}
use Rattle.net_state_enc.specs.Recodings.{first_behind, latch_net}
use Rattle.net_state_enc.proofs.GateLaws.{coded-few, grew-length, says-push, silent_gate}
use Rattle.net_state_enc.proofs.Drawing.{copies-length, copies-low, copies-stay, all-drawn}
use Rattle.net_state_enc.proofs.netlist.drawing_of.Goals as goal

pub draw_bits-requires-clause-low : goal.draw_bits-requires-clause-low
draw_bits-requires-clause-low c =
    let net = netlist_of c.args.net.now in
    let width = c.args.width in
    let codes = literals_of c.args.codes.now in
    let codes_many = length-map c.args.codes.now (λ (x : Vec Literal Global). x.items) in
    let count : length codes + 1 ≡ length net.latches = (let q = c.requires.count in omega (arith, codes_many)) in
    let first : c.draw_copies.new.draft.first ≡ first_behind net width
    = c.in_ok-names.ensures.first ∙ c.in_ok-no.ensures.first ∙ c.in_ok-yes.ensures.first
    ∙ (let q : c.len.result + 1 + width ≡ first_behind net width = omega (arith, c.len.ensures, c.args.net.now.inputs.ok.0) in q) in
    let names = c.in_ok-names.names.items in
    let gates = c.draw_copies.new.draft.gates.items in
    λ k l low.
    let n = (slice_index_or net.latches k l).from.0 in
    let inside : n < net_count net = c.args.net.now.is_net.latches_in_range k l low in
    let here = copies-low net width codes c.push-2.new.self.gates.items gates names count c.in_ok-names.ensures.drawn n inside in
    subst (λ ns. stand_in ns n < c.draw_copies.new.draft.first + length gates) (sym c.deref.ensures.value) (omega (arith, first, here))

pub draw_bits-requires-clause-no : goal.draw_bits-requires-clause-no
draw_bits-requires-clause-no c =
    let net = netlist_of c.args.net.now in
    let width = c.args.width in
    let codes = literals_of c.args.codes.now in
    let F = first_behind net width in
    let start : c.push.new.self.first ≡ F
    = c.in_ok-yes.ensures.first ∙ (let q : c.len.result + 1 + width ≡ F = omega (arith, c.len.ensures, c.args.net.now.inputs.ok.0) in q) in
    let first : c.draw_copies.new.draft.first ≡ F = c.in_ok-names.ensures.first ∙ c.in_ok-no.ensures.first ∙ start in
    let before = c.push-2.new.self.gates.items in
    let said = says-push F c.push.new.self.gates.items before (Const false) c.in_ok-no.no.0 c.in_ok-no.ensures.gates
    (c.in_ok-no.ensures.number ∙ ap (λ f. f + length c.push.new.self.gates.items) start) in
    subst (λ f. Says f c.draw_copies.new.draft.gates.items c.in_ok-no.no.0 (λ v. false)) (sym first)
    (copies-stay net width codes before c.draw_copies.new.draft.gates.items c.in_ok-names.names.items c.in_ok-names.ensures.drawn c.in_ok-no.no.0 (λ v. false)
    said)

pub returns : goal.returns
returns c =
    let net = netlist_of c.args.net.now in
    let width = c.args.width in
    let codes = literals_of c.args.codes.now in
    let codes_many = length-map c.args.codes.now (λ (x : Vec Literal Global). x.items) in
    let F = first_behind net width in
    let start : c.push.new.self.first ≡ F
    = c.in_ok-yes.ensures.first ∙ (let q : c.len.result + 1 + width ≡ F = omega (arith, c.len.ensures, c.args.net.now.inputs.ok.0) in q) in
    let first : c.draw_copies.new.draft.first ≡ F = c.in_ok-names.ensures.first ∙ c.in_ok-no.ensures.first ∙ start in
    let names = c.in_ok-names.names.items in
    let mid = c.draw_copies.new.draft.gates.items in
    let gates = c.draw_bits.new.draft.gates.items in
    let bits = c.in_ok-bits.bits.items in
    let leaves = drop 1 c.args.net.now.latches.items in
    let two : length c.push-2.new.self.gates.items ≡ 2 = ap length c.in_ok-no.ensures.gates ∙ length_push c.push.new.self.gates.items (silent_gate (Const
    false))
    ∙ ap (λ n. n + 1) (ap length c.in_ok-yes.ensures.gates ∙ length_push c.new.result.items (silent_gate (Const true))
    ∙ ap (λ (gs : List Gate). length gs + 1) c.new.ensures.items) in
    let most : length c.args.codes.now * width ≡ length codes * width = ap (λ n. n * width) (sym codes_many) in
    let grew = subst (λ n. Grew F mid gates n) most (subst (λ f. Grew f mid gates (length c.args.codes.now * width)) first c.in_ok-bits.ensures.grew) in
    let M = λ (ns : _) (i : ℕ) (v : List Bool). wanted codes (values_of mid (map (latch_net (stand_in ns)) leaves) v) i in
    let says = subst (λ f. EachSays f gates bits (M names)) first
    (subst (λ ns. EachSays c.draw_copies.new.draft.first gates bits (M ns)) c.deref.ensures.value c.in_ok-bits.ensures.says) in
    let small = coded-few (length codes) width (omega (arith, codes_many, c.requires.leaves)) (omega (arith, codes_many, c.requires.narrow)) in
    let fits : F + length gates ≤ 2 ^ 32 =
    omega (
      arith,
      small,
      two,
      c.requires.nets,
      c.requires.narrow,
      c.requires.leaves,
      copies-length net width codes c.push-2.new.self.gates.items mid names c.in_ok-names.ensures.drawn,
      grew-length F mid gates (length codes * width) grew,
    ) in
    all-drawn net width codes c.push-2.new.self.gates.items mid gates names bits leaves two c.in_ok-names.ensures.drawn grew says c.in_ok-bits.ensures.count
    fits

pub push-requires : goal.push-requires
push-requires c = omega (arith, c.requires.nets, c.requires.narrow, c.requires.leaves, c.len.ensures, ap length c.new.ensures.items)

pub push-requires-2 : goal.push-requires-2
push-requires-2 c =
    let one = ap length c.in_ok-yes.ensures.gates ∙ length_push c.new.result.items (silent_gate (Const true)) in
    omega (arith, c.requires.nets, c.requires.narrow, c.requires.leaves, c.len.ensures, c.in_ok-yes.ensures.first, one, ap length c.new.ensures.items)

pub draw_copies-requires-clause-room : goal.draw_copies-requires-clause-room
draw_copies-requires-clause-room c =
    let one = ap length c.in_ok-yes.ensures.gates ∙ length_push c.new.result.items (silent_gate (Const true)) in
    let two = ap length c.in_ok-no.ensures.gates ∙ length_push c.push.new.self.gates.items (silent_gate (Const false)) in
    let small = coded-few (length c.args.codes.now) c.args.width c.requires.leaves c.requires.narrow in
    omega (
      arith,
      small,
      one,
      two,
      c.requires.nets,
      c.requires.narrow,
      c.requires.leaves,
      c.len.ensures,
      c.in_ok-yes.ensures.first,
      c.in_ok-no.ensures.first,
      ap length c.new.ensures.items,
    )

pub draw_bits-requires-clause-room : goal.draw_bits-requires-clause-room
draw_bits-requires-clause-room c =
    let net = netlist_of c.args.net.now in
    let width = c.args.width in
    let codes = literals_of c.args.codes.now in
    let codes_many = length-map c.args.codes.now (λ (x : Vec Literal Global). x.items) in
    let one = ap length c.in_ok-yes.ensures.gates ∙ length_push c.new.result.items (silent_gate (Const true)) in
    let two = ap length c.in_ok-no.ensures.gates ∙ length_push c.push.new.self.gates.items (silent_gate (Const false)) in
    let small = coded-few (length codes) width (omega (arith, codes_many, c.requires.leaves)) (omega (arith, codes_many, c.requires.narrow)) in
    let most : length c.args.codes.now * width ≡ length codes * width = ap (λ n. n * width) (sym codes_many) in
    omega (
      arith,
      small,
      most,
      one,
      two,
      c.requires.nets,
      c.requires.narrow,
      c.requires.leaves,
      c.len.ensures,
      c.in_ok-yes.ensures.first,
      c.in_ok-no.ensures.first,
      c.in_ok-names.ensures.first,
      ap length c.new.ensures.items,
      copies-length net width codes c.push-2.new.self.gates.items c.draw_copies.new.draft.gates.items c.in_ok-names.names.items c.in_ok-names.ensures.drawn,
    )

use Rattle.std.proofs.Common.{◌≡◌, ◌++◌, ◌∷◌, [], ap, sym, subst, ◌∙◌, append_assoc, OnOk}
use Rattle.std.specs.Prelude.{option_and_then}
use Rattle.std.proofs.lemmas.Option.{slice_get-get_or}
use Rattle.net_ir.specs.Runs.{netlist_of}
use Rattle.csub_text.specs.Written.{gate_name}
use Rattle.csub_guard_blocks.specs.Blocks.{if_line, head_name}
use Rattle.csub_guard_blocks.proofs.blocks.put_if.Goals as goal

pub returns : goal.returns
returns c =
    let gates = (netlist_of c.args.net.now).gates in
    let g = c.index.result.now in
    let name : gate_name c.args.head g.wire ≡ head_name (netlist_of c.args.net.now) c.args.head
    = ap (gate_name c.args.head) (ap (λ h. h.wire) c.index.ensures
    ∙ sym (ap (option_and_then (λ h. h.wire)) (slice_get-get_or gates c.args.head g c.requires))) in
    let close = 41 ∷ 32 ∷ 123 ∷ 10 ∷ [] in
    let open_ = 105 ∷ 102 ∷ 32 ∷ 40 ∷ [] in
    let whole : c.put_gate_name.new.text.items ++ close ≡ c.args.text.now.items ++ if_line (head_name (netlist_of c.args.net.now) c.args.head)
    = ap (λ t. t ++ close) (c.in_ok-put_gate_name.ensures ∙ ap (λ t. t ++ gate_name c.args.head g.wire) c.in_ok-put.ensures)
    ∙ append_assoc (c.args.text.now.items ++ open_) (gate_name c.args.head g.wire) close
    ∙ append_assoc c.args.text.now.items open_ (gate_name c.args.head g.wire ++ close)
    ∙ ap (λ n. c.args.text.now.items ++ (open_ ++ (n ++ close))) name in
    subst (λ t. OnOk c.put-2.result (c.put-2.new.text.items ≡ t)) whole c.put-2.ensures

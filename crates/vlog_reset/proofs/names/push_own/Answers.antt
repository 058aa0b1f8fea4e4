use Rattle.std.proofs.Common.{◌≡◌, ℕ, ◌∷◌, [], ◌++◌, length, map, ap, ◌∙◌, arith}
use Rattle.std.specs.Prelude.{codes, decimal}
use Rattle.std.specs.List.{range_with_len}
use Rattle.std.proofs.lemmas.Result.{on_ok_weaker}
use Rattle.net_ir.specs.Runs.{netlist_of}
use Rattle.vlog_text.specs.Written.{clock_name}
use Rattle.vlog_reset.proofs.OwnNames.{own-pushed}
use Rattle.vlog_reset.proofs.names.push_own.Goals as goal

pub returns : goal.returns
returns c =
    let net = netlist_of c.args.net.now in
    let old = c.args.names.now.items in
    let states = λ (n : ℕ). map (λ k. codes "state" ++ decimal k) (range_with_len 0 n) in
    let gates = λ (n : ℕ). map (λ k. codes "gate" ++ decimal k) (range_with_len 0 n) in
    let s = c.len.result in
    let g = c.len-2.result in
    let few : s ≡ length net.latches = omega (arith, c.len.ensures, c.args.net.now.latches.ok.0) in
    let many : g ≡ length net.gates = omega (arith, c.len-2.ensures, c.args.net.now.gates.ok.0) in
    on_ok_weaker c.push_numbered-2.result
    (λ e. e ∙ ap (λ t. t ++ gates g) (c.in_ok-push_numbered.ensures ∙ ap (λ t. t ++ states s) c.in_ok-push_name.ensures)
    ∙ ap (λ n. ((old ++ clock_name ∷ []) ++ states n) ++ gates g) few ∙ ap (λ n. ((old ++ clock_name ∷ []) ++ states (length net.latches)) ++ gates n) many
    ∙ own-pushed old net) c.push_numbered-2.ensures

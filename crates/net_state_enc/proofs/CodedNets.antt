-- All that the netlist that holds a code is.
use Rattle.std.proofs.Common.{◌≡◌, ℕ, zero, suc, ◌+◌, true, false, List, [], ◌∷◌, length, map, drop, refl, ap, arith}
use Rattle.std.specs.Prelude.{replicate}
use Rattle.std.proofs.lemmas.List.{length-drop}
use Rattle.std.proofs.lemmas.Simd.{map-map}
use Rattle.base_types.specs.declared.indices.NetId.{NetId}
use Rattle.net_ir.specs.declared.netlist.Gate.{Gate}
use Rattle.net_ir.specs.declared.netlist.Latch.{Latch}
use Rattle.net_ir.specs.declared.netlist.NetOut.{NetOut}
use Rattle.net_ir.specs.Netlists.{Netlist, IsNet}
use Rattle.net_ir.specs.Runs.{initial_latches}
use Rattle.net_simp.specs.Renaming.{stand_in, renamed_out}
use Rattle.net_state_enc.specs.declared.codes.Literal.{Literal}
use Rattle.net_state_enc.specs.Recodings.{Drawn, bit_latch, boot_net, coded_net, IsCodedNet}
use Rattle.net_state_enc.proofs.CodedInstants.{Coded, wires-stay, coded-is-net, coded-runs}
use Rattle.net_state_enc.proofs.Drawing.{latches-split, leaves-off}

off-latches : (bits : List NetId) (n : ℕ) → length bits ≡ n → map (λ (l : Latch). l.init) (map bit_latch bits) ≡ replicate n false
off-latches [] zero e = refl
off-latches [] (suc n) e = absurd (omega (arith, e))
off-latches (b ∷ bits) zero e = absurd (omega (arith, e))
off-latches (b ∷ bits) (suc n) e = ap (λ bs. false ∷ bs) (off-latches bits n (omega (arith, e)))

module _ (net : Netlist) (width : ℕ) (codes : List (List Literal)) (names : List NetId) (gates : List Gate) (bits : List NetId) (n : IsNet net)
    (count : length codes + 1 ≡ length net.latches) (inits : initial_latches net ≡ true ∷ replicate (length codes) false)
    (drawn : Drawn net (map (λ (l : Latch). l.from) (drop 1 net.latches)) width codes names gates bits) where
  coded-of : Coded net (boot_net net.latches) (drop 1 net.latches) width codes names gates bits
  coded-of = record {
    is_net = n;
    latches = latches-split net (length codes) inits;
    count = (let l = length-drop 1 net.latches in omega arith);
    drawn = drawn;
  }

  pub drawn-is-net : IsNet (coded_net net (stand_in names) gates bits)
  drawn-is-net = coded-is-net net (boot_net net.latches) (drop 1 net.latches) width codes names gates bits coded-of

  pub is-coded-net : IsCodedNet net (coded_net net (stand_in names) gates bits) width codes
  is-coded-net = record {
    name = refl;
    inputs = refl;
    outputs = map-map (λ (o : NetOut). o.name) (renamed_out (stand_in names)) net.outputs;
    latches = ap (λ bs. true ∷ bs) (off-latches bits width drawn.bit_count);
    wires = wires-stay net (boot_net net.latches) (drop 1 net.latches) width codes names gates bits coded-of;
    few = drawn.few;
    runs = coded-runs net (boot_net net.latches) (drop 1 net.latches) width codes names gates bits coded-of (leaves-off net (length codes) inits);
  }

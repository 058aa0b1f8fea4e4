use Rattle.std.proofs.Common.{◌≡◌, ◌+◌, ◌*◌, ◌^◌, ◌≤◌, length, take}
use Rattle.std.specs.Prelude.{flat_map}
use Rattle.net_ir.specs.Runs.{netlist_of}
use Rattle.net_writer.proofs.parts.put_part.Given as goal

-- the place is that behind the parts of the sections so far, of which none was put
abbrev pub invariant-loop-section : goal.invariant-loop-section
invariant-loop-section g l = record {
  text : l.text.items ≡ l.initial.text.items;
  place : l.place + length (flat_map (g.T.NetText.parts_in (netlist_of l.net)) (take l.section-index g.T.NetText.sections)) ≡ l.k;
  few : l.k ≤ l.place + l.section-index * 2 ^ 64;
}

use Rattle.std.proofs.Common.{◌≡◌, ℕ, Bool, length, take, All, IsTrue}
use Rattle.net_ir.specs.Netlists.{net_count}
use Rattle.net_ir.specs.Runs.{netlist_of}
use Rattle.net_opt.specs.Shown.{IsClosed}
use Rattle.net_opt.specs.Showing.{marked, AllAre, Follow}
use Rattle.net_opt.proofs.showing.shown_marks.Given as goal

abbrev pub invariant-loop-output : goal.invariant-loop-output
invariant-loop-output l = record {
  count : length l.marks.items ≡ net_count (netlist_of l.net);
  are : (P : ℕ → Bool) → IsClosed (netlist_of l.net) P → AllAre P l.marks.items l.found.items;
  follow : Follow (netlist_of l.net) l.marks.items l.found.items 0;
  paused : IsTrue (marked l.marks.items l.net.paused.0);
  outputs : All (λ o. IsTrue (marked l.marks.items o.net.0)) (take l.output-index l.output-items);
}

abbrev pub invariant-loop-step : goal.invariant-loop-step
invariant-loop-step l = record {
  count : length l.marks.items ≡ net_count (netlist_of l.net);
  are : (P : ℕ → Bool) → IsClosed (netlist_of l.net) P → AllAre P l.marks.items l.found.items;
  follow : Follow (netlist_of l.net) l.marks.items l.found.items l.step;
  paused : IsTrue (marked l.marks.items l.net.paused.0);
  outputs : All (λ o. IsTrue (marked l.marks.items o.net.0)) l.net.outputs.items;
}

use Rattle.std.proofs.Common.{◌≡◌, ℕ, ◌+◌, ◌<◌, ◌||◌, ◌==◌, length, subst, sym, ap, ◌∙◌, arith}
use Rattle.std.specs.List.{list_any}
use Rattle.net_ir.specs.declared.netlist.Latch.{Latch}
use Rattle.net_ir.specs.declared.netlist.NetOut.{NetOut}
use Rattle.net_ir.specs.Netlists.{first_gate}
use Rattle.net_ir.specs.Runs.{netlist_of}
use Rattle.net_simp.specs.Renaming.{stand_in}
use Rattle.net_simp.specs.Needs.{marked, NeedsMet, Needed}
use Rattle.net_simp.proofs.needs.mark_needed.Goals as goal

pub returns : goal.returns
returns c =
    let net = netlist_of c.args.net.now in
    let names = c.args.draft.now.names.items in
    let begun = c.args.marks.now in
    let outs = λ (n : ℕ). c.mark_outputs.ensures.marks n
    ∙ ap (λ ns. marked begun n || list_any (λ (o : NetOut). stand_in ns o.net.0 == n) c.deref-2.result.now) c.deref.ensures.value
    ∙ ap (λ os. marked begun n || list_any (λ (o : NetOut). stand_in names o.net.0 == n) os) c.deref-2.ensures.value in
    let after_outs = c.mark_outputs.new.marks in
    let lats = λ (n : ℕ). c.mark_latches.ensures.marks n
    ∙ ap (λ ns. marked after_outs n || list_any (λ (l : Latch). stand_in ns l.from.0 == n) c.deref-4.result.now) c.deref-3.ensures.value
    ∙ ap (λ ls. marked after_outs n || list_any (λ (l : Latch). stand_in names l.from.0 == n) ls) c.deref-4.ensures.value in
    let paused = c.stand_in.ensures ∙ ap (λ ns. stand_in ns net.paused) c.deref-5.ensures.value in
    let after_lats = c.mark_latches.new.marks in
    let lat_of = λ (n : ℕ). list_any (λ (l : Latch). stand_in names l.from.0 == n) net.latches in
    record {
      before = c.mark.new.marks;
      count = c.mark.ensures.count ∙ c.mark_latches.ensures.count ∙ c.mark_outputs.ensures.count;
      roots = λ n. c.mark.ensures.marks n ∙ ap (λ m. marked after_lats n || m == n) paused
          ∙ ap (λ b. b || stand_in names net.paused == n) (lats n ∙ ap (λ b. b || lat_of n) (outs n));
      needs = subst (λ gs. NeedsMet (first_gate net) gs c.mark.new.marks c.mark_reads.new.marks 0) c.deref-6.ensures.value
          (subst (λ f. NeedsMet f c.deref-6.result.now c.mark.new.marks c.mark_reads.new.marks 0) c.requires.first c.mark_reads.ensures);
    }

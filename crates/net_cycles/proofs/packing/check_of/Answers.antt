use Rattle.std.proofs.Common.{◌≡◌, ◌≤◌, length, sym, ap, ◌∙◌, subst, arith}
use Rattle.std.specs.List.{range_with_len}
use Rattle.std.proofs.lemmas.List.{length-map}
use Rattle.base_types.specs.declared.interface.SignalInfo.{SignalInfo}
use Rattle.est_kernel.specs.Plain.{program_of, interface_count}
use Rattle.net_ir.specs.Runs.{netlist_of}
use Rattle.net_unroll.specs.Copies.{CanUnroll}
use Rattle.net_unroll.specs.Laws.{IsSchedule}
use Rattle.net_unroll.specs.Rails.{IsAlarm}
use Rattle.net_cycles.specs.Packings.{WatchesAll}
use Rattle.net_cycles.proofs.Packed.{can-check, is-check, nodes-all, watches-all}
use Rattle.net_cycles.proofs.packing.check_of.Goals as goal

pub raise_alarm-requires-clause-can : goal.raise_alarm-requires-clause-can
raise_alarm-requires-clause-can c =
    let d = c.args.drawn in
    let s = c.args.schedule.now in
    subst (λ xs. CanUnroll d.gates xs c.deref-2.result.now d.base.no s) (sym c.deref.ensures.value)
    (subst (λ xs. CanUnroll d.gates c.args.system.now.gates.items xs d.base.no s) (sym c.deref-2.ensures.value) c.requires.drawn.can)

pub raise_alarm-requires-clause-watched : goal.raise_alarm-requires-clause-watched
raise_alarm-requires-clause-watched c =
    let y = c.args.system.now in
    let many : c.len.result ≡ length y.gates.items = omega (arith, c.len.ensures, y.gates.ok.0) in
    let watched = c.deref-3.ensures.value ∙ c.in_ok-watched.ensures ∙ ap (range_with_len 0) many in
    subst (λ xs. IsSchedule xs c.deref-3.result.now) (sym c.deref.ensures.value)
    (subst (IsSchedule y.gates.items) (sym watched) (nodes-all (length y.gates.items)))

pub check_around-requires : goal.check_around-requires
check_around-requires c =
    let g = c.args.graph.now in
    let signals : interface_count (program_of g.program) ≤ length (program_of g.program).signals =
    omega (arith, length-map g.program.signals.items (λ (s : SignalInfo). s.name), c.requires.signals) in
    can-check g c.args.words.now c.args.system.now c.args.schedule.now c.deref-3.result.now c.args.drawn (netlist_of c.args.net.now) c.raise_alarm.new.gates
    c.in_ok-alarm.alarm.0 c.requires.drawn signals c.requires.around
    (subst (λ xs. IsAlarm c.args.drawn.gates c.raise_alarm.new.gates c.args.system.now.gates.items xs c.args.schedule.now c.deref-3.result.now
    c.in_ok-alarm.alarm.0)
    c.deref-2.ensures.value
    (subst (λ xs. IsAlarm c.args.drawn.gates c.raise_alarm.new.gates xs c.deref-2.result.now c.args.schedule.now c.deref-3.result.now c.in_ok-alarm.alarm.0)
    c.deref.ensures.value c.in_ok-alarm.ensures.made))

pub returns : goal.returns
returns c =
    let y = c.args.system.now in
    let many : c.len.result ≡ length y.gates.items = omega (arith, c.len.ensures, y.gates.ok.0) in
    let watched = c.deref-3.ensures.value ∙ c.in_ok-watched.ensures ∙ ap (range_with_len 0) many in
    record {
      after = c.raise_alarm.new.gates;
      watched = c.deref-3.result.now;
      alarm = c.in_ok-alarm.alarm;
      is_alarm = subst
          (λ xs. IsAlarm c.args.drawn.gates c.raise_alarm.new.gates y.gates.items xs c.args.schedule.now c.deref-3.result.now c.in_ok-alarm.alarm.0)
          c.deref-2.ensures.value
          (subst (λ xs. IsAlarm c.args.drawn.gates c.raise_alarm.new.gates xs c.deref-2.result.now c.args.schedule.now c.deref-3.result.now
          c.in_ok-alarm.alarm.0)
          c.deref.ensures.value c.in_ok-alarm.ensures.made);
      watches = subst (WatchesAll (length y.gates.items)) (sym watched) (watches-all (length y.gates.items));
      check_around = is-check (netlist_of c.args.net.now) (netlist_of c.in_ok-check.check) c.raise_alarm.new.gates c.in_ok-alarm.alarm c.in_ok-check.ensures;
    }

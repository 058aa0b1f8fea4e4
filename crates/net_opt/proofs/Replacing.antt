-- Netlists that replace others, one after another.
use Rattle.std.proofs.Common.{◌≡◌, Bool, List, [], ◌∷◌, ◌++◌, ◌≤◌, length, map, refl, sym, ap, ◌∙◌, subst, arith}
use Rattle.std.proofs.lemmas.List.{length-map}
use Rattle.base_types.specs.Items.{Item, Event, Reset, EachEvent}
use Rattle.net_ir.specs.declared.netlist.Gate.{Gate}
use Rattle.net_ir.specs.declared.netlist.Latch.{Latch}
use Rattle.net_ir.specs.Gates.{carried, gate_values, value_in, op_value}
use Rattle.net_ir.specs.Netlists.{Netlist, net_count}
use Rattle.net_ir.specs.Runs.{shown, net_values, initial_latches, next_latches, values_from}
use Rattle.net_follow.specs.Following.{IsWide}
use Rattle.net_follow.proofs.Exports.{followed-by-runs}
use Rattle.net_simp.specs.SameRuns.{SameParts, SameRuns}
use Rattle.net_opt.specs.Optimized.{Replaces, Optimizes}
use Rattle.net_opt.specs.Silencing.{silent_gate, silent_net}
use Rattle.net_opt.proofs.Parts.{silent-wires}

-- ---- wires that are forgotten

silent-values : (v : List Bool) (gates : List Gate) → gate_values v (map silent_gate gates) ≡ gate_values v gates
silent-values v [] = refl
silent-values v (g ∷ gates) = silent-values (v ++ op_value (value_in v) g.op ∷ []) gates

silent-from : (net : Netlist) (latches : List Bool) (items : List Item) → map (shown (silent_net net)) (values_from (silent_net net) latches items)
    ≡ map (shown net) (values_from net latches items)
silent-from net latches [] = refl
silent-from net latches (Event inputs ∷ items) =
    let same = silent-values (inputs ++ latches) net.gates in
    λ i. shown net (same i) ∷ (ap (λ v. map (shown (silent_net net)) (values_from (silent_net net) (next_latches net v) items)) same
    ∙ silent-from net (next_latches net (net_values net latches inputs)) items) i
silent-from net latches (Reset ∷ items) = silent-from net (initial_latches net) items

pub silent-optimizes : (net : Netlist) → Optimizes net (silent_net net)
silent-optimizes net = record {
  replaces = record {
    interface = record { name = refl; inputs = refl; outputs = refl; silent = silent-wires net.gates };
    followed = followed-by-runs net (silent_net net) (λ items fit. silent-from net (initial_latches net) items);
  };
  fewer_gates = omega (arith, length-map net.gates silent_gate);
  fewer_latches = omega arith;
}

-- ---- one after another

wide-through : (old mid : Netlist) → mid.inputs ≡ old.inputs → (items : List Item) → EachEvent (IsWide old) items → EachEvent (IsWide mid) items
wide-through old mid same items fit = subst (λ inputs. EachEvent (λ event. length event ≡ length inputs) items) (sym same) fit

pub replaces-twice : (old mid new : Netlist) → Replaces old mid → Replaces mid new → Replaces old new
replaces-twice old mid new a b =
    let p = a.interface in
    let q = b.interface in
    record {
      interface = record {
        name = q.name ∙ p.name;
        inputs = q.inputs ∙ p.inputs;
        outputs = q.outputs ∙ p.outputs;
        silent = q.silent;
      };
      followed = followed-by-runs old new
          (λ items fit. b.followed.runs items (wide-through old mid p.inputs items fit) ∙ a.followed.runs items fit);
    }

pub optimizes-twice : (old mid new : Netlist) → Optimizes old mid → Optimizes mid new → Optimizes old new
optimizes-twice old mid new a b = record {
  replaces = replaces-twice old mid new a.replaces b.replaces;
  fewer_gates = omega (arith, a.fewer_gates, b.fewer_gates);
  fewer_latches = omega (arith, a.fewer_latches, b.fewer_latches);
}

-- a simplified netlist has as many latches, and no more nets
simplified-sizes : (old new : Netlist) → SameParts old new → (length new.latches ≡ length old.latches) × (net_count new ≤ net_count old)
simplified-sizes old new parts =
    let latches : length new.latches ≡ length old.latches =
    sym (length-map new.latches (λ (l : Latch). l.init)) ∙ ap length parts.latches ∙ length-map old.latches (λ (l : Latch). l.init) in
    let inputs = ap length parts.inputs in
    let gates = parts.fewer in
    (latches, omega arith)

pub simplified-count : (old new : Netlist) → SameParts old new → net_count new ≤ net_count old
simplified-count old new parts = (simplified-sizes old new parts).1

simplified-optimizes : (old new : Netlist) → carried old.gates ≡ [] → SameParts old new → SameRuns old new → Optimizes old new
simplified-optimizes old new silent parts runs =
    let same = (simplified-sizes old new parts).0 in
    record {
      replaces = record {
        interface = record { name = parts.name; inputs = parts.inputs; outputs = parts.outputs; silent = parts.carries ∙ silent };
        followed = followed-by-runs old new (λ items fit. (runs items fit).shows);
      };
      fewer_gates = parts.fewer;
      fewer_latches = omega arith;
    }

pub optimizes-simply : (given small new : Netlist) → Optimizes given small → SameParts small new → SameRuns small new → Optimizes given new
optimizes-simply given small new so_far parts runs =
    optimizes-twice given small new so_far (simplified-optimizes small new so_far.replaces.interface.silent parts runs)

-- the better of two, after others
pub optimizes-then : (best new : Netlist) → Optimizes best new → (given : Netlist) → Optimizes given best → Optimizes given new
optimizes-then best new better given so_far = optimizes-twice given best new so_far better

-- What the netlist of two netlists whose inputs have relations shows of them.
use Rattle.std.proofs.Common.{◌≡◌, Bool, true, false, List, [], ◌∷◌, ◌++◌, length, map, get_or, None, refl, sym, ap, subst, ◌∙◌, append-nil, arith}
use Rattle.std.specs.List.{AllByRecursion}
use Rattle.std.proofs.lemmas.List.{get_or-map, length-map}
use Rattle.base_types.specs.Items.{Item}
use Rattle.base_types.specs.Relations.{Relation}
use Rattle.base_types.proofs.Exports.{wide_events}
use Rattle.net_ir.specs.declared.netlist.NetOut.{NetOut}
use Rattle.net_ir.specs.Gates.{value_in}
use Rattle.net_ir.specs.Netlists.{Netlist}
use Rattle.net_ir.specs.Runs.{Shown, initial_latches, net_run, net_values_run, shown}
use Rattle.net_opt.specs.Optimized.{Optimizes}
use Rattle.sat_kernel.specs.declared.literals.Literal.{Literal}
use Rattle.sat_kernel.specs.Clauses.{IsModel, literal_value}
use Rattle.net_never.specs.Never.{IsNever}
use Rattle.net_never.specs.Reached.{is_reached, items_of, last_or}
use Rattle.net_pair.specs.Pairs.{IsPair, any_differ, differences, is_different, shown_difference}
use Rattle.net_pair.proofs.Exports.{different-apart, length-runs, runs-same}
use Rattle.cec_prove_sources.specs.DeviceSameness.{SameRows, SharesNames, TellsApart}
use Rattle.cec_prove_sources.specs.Devices.{FitsDevice}
use Rattle.cec_prove_sources.specs.NetClaims.{allowed_clauses, bad_literal, output_net}
use Rattle.cec_prove_sources.specs.NetDevices.{RelatesInputs, net_device, net_rows, row_of}
use Rattle.cec_prove_sources.specs.PairRuns.{IsSmallPair}
use Rattle.cec_prove_sources.specs.RelationClauses.{all_relation_clauses}
use Rattle.cec_prove_sources.specs.declared.questions.Claim.TheVariants.{Never}
use Rattle.cec_prove_sources.proofs.NetShows.{allowed-events, reached-parts, wide-items}

pub optimized-outputs : (old new : Netlist) → Optimizes old new → length new.outputs ≡ length old.outputs
optimized-outputs old new o =
    sym (length-map new.outputs (λ (o : NetOut). o.name)) ∙ ap length o.replaces.interface.outputs ∙ length-map old.outputs (λ (o : NetOut). o.name)

runs-long : (a b : Netlist) (items : List Item) → length (net_run a items) ≡ length (net_run b items)
runs-long a b items =
    length-map (net_values_run a items) (shown a) ∙ length-runs a b (initial_latches a) (initial_latches b) items
    ∙ sym (length-map (net_values_run b items) (shown b))

-- the optimized pair of two netlists is a pair of them
pub small-pair : (left right net : Netlist) → IsSmallPair left right net → left.inputs ≡ right.inputs → IsPair left right net
small-pair left right net small same =
    let a = small.small_left in
    let b = small.small_right in
    let kept-left = small.left_optimized.replaces in
    let kept-right = small.right_optimized.replaces in
    let kept = small.optimized.replaces in
    record {
      inputs = kept.interface.inputs ∙ small.is_pair.inputs ∙ kept-left.interface.inputs;
      outputs = optimized-outputs small.both net small.optimized ∙ small.is_pair.outputs;
      runs = λ items fits.
          let fit-right = wide_events (length left.inputs) (length right.inputs) (ap length same) items fits in
          let fit-pair = wide_events (length left.inputs) (length a.inputs) (ap length (sym kept-left.interface.inputs)) items fits in
          let fit-both = wide_events (length a.inputs) (length small.both.inputs) (ap length (sym small.is_pair.inputs)) items fit-pair in
          kept.followed.runs items fit-both ∙ small.is_pair.runs items fit-pair
          ∙ (λ i. map shown_difference (differences (kept-left.followed.runs items fits i) (kept-right.followed.runs items fit-right i)));
    }

-- ---- one output that is never true, or at last

shown-output : (net : Netlist) → length net.outputs ≡ 1 → (values : List Bool) (d : Bool) → shown net values ≡ shown_difference d
    → value_in values (output_net net.outputs 0) ≡ d
shown-output net one values d here =
    let outputs : map (λ (o : NetOut). value_in values o.net.0) net.outputs ≡ d ∷ [] = ap (λ (s : Shown). s.outputs) here in
    sym (get_or-map (λ (o : NetOut). value_in values o.net.0) net.outputs 0 (record { name = []; net = record { 0 = 0 } }) false (omega arith))
    ∙ ap (λ l. get_or l 0 false) outputs

never-different : (net : Netlist) → length net.outputs ≡ 1 → (runs : List (List Bool)) (ds : List Bool) → map (shown net) runs ≡ map shown_difference ds
    → AllByRecursion (λ values. literal_value (value_in values) (bad_literal net.outputs Never 0) ≡ false) runs → AllByRecursion (λ d. d ≡ false) ds
never-different net one runs [] e never = tt
never-different net one [] (d ∷ ds) e never = cc
never-different net one (v ∷ runs) (d ∷ ds) e never =
    let here : shown net v ≡ shown_difference d = cc in
    let rest : map (shown net) runs ≡ map shown_difference ds = cc in
    (sym (shown-output net one v d here) ∙ never.0, never-different net one runs ds rest never.1)

shown-outputs : (net : Netlist) → length net.outputs ≡ 1 → (runs : List (List Bool)) (ds : List Bool) → map (shown net) runs ≡ map shown_difference ds
    → map (λ values. literal_value (value_in values) (bad_literal net.outputs Never 0)) runs ≡ ds
shown-outputs net one [] [] e = refl
shown-outputs net one [] (d ∷ ds) e = cc
shown-outputs net one (v ∷ runs) [] e = cc
shown-outputs net one (v ∷ runs) (d ∷ ds) e =
    let here : shown net v ≡ shown_difference d = cc in
    let rest : map (shown net) runs ≡ map shown_difference ds = cc in
    let value = shown-output net one v d here in
    let others = shown-outputs net one runs ds rest in
    λ i. value i ∷ others i

-- ---- netlists that never differ

pub outputs-long : (relations : List Relation) (left right : Netlist) → SharesNames (net_device relations left) (net_device relations right)
    → length left.outputs ≡ length right.outputs
outputs-long relations left right names =
    sym (length-map left.outputs (λ (o : NetOut). o.name)) ∙ ap length names.outputs ∙ length-map right.outputs (λ (o : NetOut). o.name)

pub pair-same : (relations : List Relation) (left right net : Netlist) (clauses : List (List Literal)) (bad : Literal) → RelatesInputs relations left
    → SharesNames (net_device relations left) (net_device relations right) → IsPair left right net → clauses ≡ allowed_clauses relations net.outputs None
    → bad ≡ bad_literal net.outputs Never 0 → IsNever net clauses bad → SameRows (net_device relations left) (net_device relations right)
pair-same relations left right net clauses bad related names pair are-clauses is-bad never items fits =
    let wide = wide-items (net_device relations left) items fits in
    let fit = wide_events (length left.inputs) (length net.inputs) (ap length (sym pair.inputs)) items wide in
    let runs = net_values_run net items in
    let plain : clauses ≡ all_relation_clauses relations = are-clauses ∙ append-nil (all_relation_clauses relations) in
    let met = subst (λ k. AllByRecursion (λ values. IsModel (value_in values) k) runs) (sym plain)
    (allowed-events net relations (length left.inputs) related items (initial_latches net) fits) in
    let shows = subst (λ (l : Literal). IsNever net clauses l) is-bad never in
    let same = runs-same left right (outputs-long relations left right names) items
    (never-different net pair.outputs runs (differences (net_run left items) (net_run right items)) (pair.runs items wide) (shows items fit met)) in
    (net_rows left items, refl, ap (map row_of) same)

-- ---- netlists whose last rows differ

-- two lists end, and the rows of their last elements are not the same
record RowsApart (xs ys : List Shown) : Type 0 where
  pub left : List (List Bool)
  pub left_last : List Bool
  pub left_is : left ++ left_last ∷ [] ≡ map row_of xs
  pub right : List (List Bool)
  pub right_last : List Bool
  pub right_is : right ++ right_last ∷ [] ≡ map row_of ys
  pub differ : left_last ≡ right_last → ⊥

rows-apart : (v : Bool) (x y : Shown) (xs ys : List Shown) → length xs ≡ length ys → last_or v (differences (x ∷ xs) (y ∷ ys)) ≡ true
    → RowsApart (x ∷ xs) (y ∷ ys)
rows-apart v x y [] [] e last = record {
  left = [];
  left_last = row_of x;
  left_is = refl;
  right = [];
  right_last = row_of y;
  right_is = refl;
  differ = λ same. different-apart x x (ap (any_differ false (row_of x)) same ∙ last) refl;
}
rows-apart v x y [] (y' ∷ ys) e last = absurd (omega arith)
rows-apart v x y (x' ∷ xs) [] e last = absurd (omega arith)
rows-apart v x y (x' ∷ xs) (y' ∷ ys) e last =
    let r = rows-apart (is_different x y) x' y' xs ys (omega arith) last in
    record {
      left = row_of x ∷ r.left;
      left_last = r.left_last;
      left_is = ap (λ l. row_of x ∷ l) r.left_is;
      right = row_of y ∷ r.right;
      right_last = r.right_last;
      right_is = ap (λ l. row_of y ∷ l) r.right_is;
      differ = r.differ;
    }

all-apart : (xs ys : List Shown) → length xs ≡ length ys → last_or false (differences xs ys) ≡ true → RowsApart xs ys
all-apart [] [] e last = cc
all-apart [] (y ∷ ys) e last = absurd (omega arith)
all-apart (x ∷ xs) [] e last = absurd (omega arith)
all-apart (x ∷ xs) (y ∷ ys) e last = rows-apart false x y xs ys (omega arith) last

pub pair-different : (relations : List Relation) (left right net : Netlist) (events : List (List Bool)) → IsPair left right net
    → FitsDevice (net_device relations left) (items_of events)
    → is_reached net (allowed_clauses relations net.outputs None) (bad_literal net.outputs Never 0) events ≡ true
    → TellsApart (net_device relations left) (net_device relations right) events
pair-different relations left right net events pair fits reached =
    let items = items_of events in
    let wide = wide-items (net_device relations left) items fits in
    let reaches = reached-parts net (allowed_clauses relations net.outputs None) (bad_literal net.outputs Never 0) events reached in
    let ds = differences (net_run left items) (net_run right items) in
    let last = ap (last_or false) (sym (shown-outputs net pair.outputs (net_values_run net items) ds (pair.runs items wide))) ∙ reaches.1 in
    let ends = all-apart (net_run left items) (net_run right items) (runs-long left right items) last in
    record {
      items_fit = fits;
      left = ends.left;
      left_last = ends.left_last;
      left_shows = ends.left_is;
      right = ends.right;
      right_last = ends.right_last;
      right_shows = ends.right_is;
      differ = ends.differ;
    }

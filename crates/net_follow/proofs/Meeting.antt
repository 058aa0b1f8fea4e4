-- The values of two netlists in one instant, and in two, meet the equations that say so.
use Rattle.std.proofs.Common.{◌≡◌, ℕ, ◌+◌, ◌<◌, Bool, true, false, not, ◌&&◌, ◌||◌, List, ◌++◌, length, map, slice_index_or, refl}
use Rattle.std.proofs.Common.{sym, ap, ◌∙◌, subst, arith, All}
use Rattle.std.proofs.Common.{length-append}
use Rattle.std.proofs.lemmas.List.{length-map, get_or-map, get_or_append_left, get_or-append-add}
use Rattle.std.proofs.lemmas.List.Elements.{All-append, All-map}
use Rattle.base_facts.proofs.Tests.{and-true-at}
use Rattle.net_ir.specs.declared.netlist.Op.{Op}
use Rattle.net_ir.specs.declared.netlist.Op.TheVariants.{Const, Copy, Not, And, Or}
use Rattle.net_ir.specs.declared.netlist.Gate.{Gate}
use Rattle.net_ir.specs.declared.netlist.Latch.{Latch}
use Rattle.net_ir.specs.Gates.{value_in, op_value, Solves}
use Rattle.net_ir.specs.Netlists.{Netlist, IsNet, first_gate}
use Rattle.net_ir.specs.Runs.{net_values, initial_latches, next_latches}
use Rattle.net_ir.proofs.Exports.{All-numbered, Solves-gate_values, value_in-gate_values}
use Rattle.net_follow.specs.declared.literals.Side.{Side}
use Rattle.net_follow.specs.declared.literals.Side.TheVariants.{Always, Old, New}
use Rattle.net_follow.specs.declared.literals.Equation.{Equation}
use Rattle.net_follow.specs.Literals.{IsSteady, Meets, MeetsAll, moved_equation}
use Rattle.net_follow.specs.Frames.{gate_equation, gate_equations, input_equations, init_equations, link_equations, net_equations, instant_equations}
use Rattle.net_follow.specs.Frames.{first_equations, step_equations, frame, in_two}
use Rattle.net_follow.specs.Matching.{HoldIn}

-- ---- one equation

or-denied : (a b : Bool) → not (a || b) ≡ (not a && not b)
or-denied true b = refl
or-denied false b = refl

and-same : (a b c d : Bool) → a ≡ c → b ≡ d → (a && b) ≡ (c && d)
and-same a b c d p q = λ i. p i && q i

-- a net that has the value of another
copy-meets : (V : Bool → Side → ℕ → Bool) (o l : Bool) → IsSteady V → o ≡ l → o ≡ (l && V false Always 0)
copy-meets V o l steady same = same ∙ and-true-at l (V false Always 0) (steady false 0)

-- a net that has the value that its operator makes of others
pub gate-meets : (V : Bool → Side → ℕ → Bool) (late : Bool) (side : Side) (values : ℕ → Bool) → IsSteady V → ((n : ℕ) → V late side n ≡ values n)
    → (n : ℕ) (op : Op) → values n ≡ op_value values op → Meets V (gate_equation late side n op)
gate-meets V late side values steady same n (Const true) is = copy-meets V (V late side n) (V false Always 0) steady (same n ∙ is ∙ sym (steady false 0))
gate-meets V late side values steady same n (Const false) is =
    copy-meets V (not (V late side n)) (V false Always 0) steady (ap not (same n ∙ is) ∙ sym (steady false 0))
gate-meets V late side values steady same n (Copy a) is = copy-meets V (V late side n) (V late side a.0) steady (same n ∙ is ∙ sym (same a.0))
gate-meets V late side values steady same n (Not a) is =
    copy-meets V (V late side n) (not (V late side a.0)) steady (same n ∙ is ∙ ap not (sym (same a.0)))
gate-meets V late side values steady same n (And a b) is =
    same n ∙ is ∙ and-same (values a.0) (values b.0) (V late side a.0) (V late side b.0) (sym (same a.0)) (sym (same b.0))
gate-meets V late side values steady same n (Or a b) is =
    ap not (same n ∙ is) ∙ or-denied (values a.0) (values b.0)
    ∙ and-same (not (values a.0)) (not (values b.0)) (not (V late side a.0)) (not (V late side b.0)) (ap not (sym (same a.0))) (ap not (sym (same b.0)))

-- ---- the equations of gates, inputs and latches

pub gates-meet : (V : Bool → Side → ℕ → Bool) (late : Bool) (side : Side) (values : List Bool) → IsSteady V → ((n : ℕ) → V late side n ≡ value_in values n)
    → (first : ℕ) (gates : List Gate) → Solves first gates values → MeetsAll V (gate_equations late side first gates)
gates-meet V late side values steady same first gates solves =
    All-numbered (λ e. Meets V e) (λ n (g : Gate). gate_equation late side n g.op) first gates
    (λ k d low. gate-meets V late side (value_in values) steady same (first + k) (slice_index_or gates k d).op (solves k d low))

pub inputs-meet : (V : Bool → Side → ℕ → Bool) (late : Bool) → IsSteady V → (inputs : List (List ℕ))
    → ((n : ℕ) → n < length inputs → V late New n ≡ V late Old n)
    → MeetsAll V (input_equations late inputs)
inputs-meet V late steady inputs same =
    All-numbered (λ e. Meets V e) _ 0 inputs (λ k d low. copy-meets V (V late New (0 + k)) (V late Old (0 + k)) steady (same (0 + k) (omega arith)))

pub inits-meet : (V : Bool → Side → ℕ → Bool) (side : Side) → IsSteady V → (first : ℕ) (latches : List Latch)
    → ((k : ℕ) (d : Latch) → k < length latches → V false side (first + k) ≡ (slice_index_or latches k d).init) → MeetsAll V (init_equations side first latches)
inits-meet V side steady first latches same =
    All-numbered (λ e. Meets V e) (λ n (l : Latch). gate_equation false side n (Const l.init)) first latches
    (λ k d low. gate-meets V false side (λ n. V false side n) steady (λ n. refl) (first + k) (Const (slice_index_or latches k d).init) (same k d low))

pub links-meet : (V : Bool → Side → ℕ → Bool) (side : Side) → IsSteady V → (first : ℕ) (latches : List Latch)
    → ((k : ℕ) (d : Latch) → k < length latches → V true side (first + k) ≡ V false side (slice_index_or latches k d).from.0)
    → MeetsAll V (link_equations side first latches)
links-meet V side steady first latches same =
    All-numbered (λ e. Meets V e) _ first latches
    (λ k d low. copy-meets V (V true side (first + k)) (V false side (slice_index_or latches k d).from.0) steady (same k d low))

-- ---- the values of a netlist

pub values-solve : (net : Netlist) → IsNet net → (latches inputs : List Bool) → length latches ≡ length net.latches → length inputs ≡ length net.inputs
    → Solves (first_gate net) net.gates (net_values net latches inputs)
values-solve net is latches inputs many wide =
    Solves-gate_values (first_gate net) (inputs ++ latches) net.gates (length-append inputs latches ∙ (λ i. wide i + many i)) is.reads_lower

pub input-value : (net : Netlist) (latches inputs : List Bool) (n : ℕ) → n < length inputs → value_in (net_values net latches inputs) n ≡ value_in inputs n
input-value net latches inputs n low =
    value_in-gate_values (inputs ++ latches) net.gates n (omega (arith, length-append inputs latches)) ∙ get_or_append_left inputs latches false n low

pub latch-value : (net : Netlist) (latches inputs : List Bool) (first k : ℕ) → length inputs ≡ first → k < length latches
    → value_in (net_values net latches inputs) (first + k) ≡ value_in latches k
latch-value net latches inputs first k wide low =
    value_in-gate_values (inputs ++ latches) net.gates (first + k) (omega (arith, length-append inputs latches))
    ∙ ap (λ n. value_in (inputs ++ latches) (n + k)) (sym wide) ∙ get_or-append-add inputs latches k false

-- ---- one instant, and two

pub steady-two : (f g : Side → ℕ → Bool) → ((n : ℕ) → f Always n ≡ true) → ((n : ℕ) → g Always n ≡ true) → IsSteady (in_two f g)
steady-two f g a b false n = a n
steady-two f g a b true n = b n

pub moved-now : (facts : List Equation) (f g : Side → ℕ → Bool) → MeetsAll (λ late. f) facts → MeetsAll (in_two f g) (map (moved_equation false) facts)
moved-now facts f g all = All-map (λ e. Meets (in_two f g) e) (moved_equation false) facts all

pub moved-later : (facts : List Equation) (f g : Side → ℕ → Bool) → MeetsAll (λ late. g) facts → MeetsAll (in_two f g) (map (moved_equation true) facts)
moved-later facts f g all = All-map (λ e. Meets (in_two f g) e) (moved_equation true) facts all

All-mapped : {X Y : Type 0} (P : X → Type 0) (f : Y → X) (ys : List Y) → All P (map f ys) → All (λ y. P (f y)) ys
All-mapped P f ys all = λ k d low. subst P (get_or-map f ys k d (f d) low) (all k (f d) (omega (arith, length-map ys f)))

pub now-moved : (facts : List Equation) (f g : Side → ℕ → Bool) → MeetsAll (in_two f g) (map (moved_equation false) facts) → MeetsAll (λ late. f) facts
now-moved facts f g all = All-mapped (λ e. Meets (in_two f g) e) (moved_equation false) facts all

pub later-moved : (facts : List Equation) (f g : Side → ℕ → Bool) → MeetsAll (in_two f g) (map (moved_equation true) facts) → MeetsAll (λ late. g) facts
later-moved facts f g all = All-mapped (λ e. Meets (in_two f g) e) (moved_equation true) facts all

-- latch values of two netlists, and values of the inputs
pub record Fits (old new : Netlist) (s t inputs : List Bool) : Type 0 where
  pub old_is : IsNet old
  pub new_is : IsNet new
  pub same_inputs : length new.inputs ≡ length old.inputs
  pub old_count : length s ≡ length old.latches
  pub new_count : length t ≡ length new.latches
  pub wide : length inputs ≡ length old.inputs

abbrev pub frame_of : Netlist → Netlist → List Bool → List Bool → List Bool → Side → ℕ → Bool
frame_of old new s t inputs = frame (net_values old s inputs) (net_values new t inputs)

same-inputs : (old new : Netlist) (s t inputs : List Bool) → Fits old new s t inputs → (n : ℕ) → n < length old.inputs
    → value_in (net_values new t inputs) n ≡ value_in (net_values old s inputs) n
same-inputs old new s t inputs fits n low =
    let h : n < length inputs = omega (arith, fits.wide) in
    input-value new t inputs n h ∙ sym (input-value old s inputs n h)

pub instant-meets : (V : Bool → Side → ℕ → Bool) (late : Bool) (old new : Netlist) (s t inputs : List Bool) → IsSteady V → Fits old new s t inputs
    → ((side : Side) (n : ℕ) → V late side n ≡ frame_of old new s t inputs side n) → MeetsAll V (instant_equations late old new)
instant-meets V late old new s t inputs steady fits same =
    let E = λ (e : Equation). Meets V e in
    let wide : length inputs ≡ length new.inputs = fits.wide ∙ sym fits.same_inputs in
    All-append E (input_equations late old.inputs ++ net_equations late Old old) (net_equations late New new)
    (All-append E (input_equations late old.inputs) (net_equations late Old old)
    (inputs-meet V late steady old.inputs (λ n low. same New n ∙ same-inputs old new s t inputs fits n low ∙ sym (same Old n)))
    (gates-meet V late Old (net_values old s inputs) steady (same Old) (first_gate old) old.gates
    (values-solve old fits.old_is s inputs fits.old_count fits.wide)))
    (gates-meet V late New (net_values new t inputs) steady (same New) (first_gate new) new.gates
    (values-solve new fits.new_is t inputs fits.new_count wide))

init-value : (net : Netlist) (inputs : List Bool) → length inputs ≡ length net.inputs → (k : ℕ) (d : Latch) → k < length net.latches
    → value_in (net_values net (initial_latches net) inputs) (length net.inputs + k) ≡ (slice_index_or net.latches k d).init
init-value net inputs wide k d low =
    let many = length-map net.latches (λ (l : Latch). l.init) in
    latch-value net (initial_latches net) inputs (length net.inputs) k wide (omega (arith, many))
    ∙ get_or-map (λ (l : Latch). l.init) net.latches k d false low

link-value : (net : Netlist) (values inputs : List Bool) → length inputs ≡ length net.inputs → (k : ℕ) (d : Latch) → k < length net.latches
    → value_in (net_values net (next_latches net values) inputs) (length net.inputs + k) ≡ value_in values (slice_index_or net.latches k d).from.0
link-value net values inputs wide k d low =
    let many = length-map net.latches (λ (l : Latch). value_in values l.from.0) in
    latch-value net (next_latches net values) inputs (length net.inputs) k wide (omega (arith, many))
    ∙ get_or-map (λ (l : Latch). value_in values l.from.0) net.latches k d false low

-- in the first instant
pub first-meets : (old new : Netlist) (inputs : List Bool) → Fits old new (initial_latches old) (initial_latches new) inputs
    → let f = frame_of old new (initial_latches old) (initial_latches new) inputs in MeetsAll (in_two f f) (first_equations old new)
first-meets old new inputs fits =
    let s = initial_latches old in
    let t = initial_latches new in
    let f = frame_of old new s t inputs in
    let V = in_two f f in
    let E = λ (e : Equation). Meets V e in
    let steady = steady-two f f (λ n. refl) (λ n. refl) in
    let wide : length inputs ≡ length new.inputs = fits.wide ∙ sym fits.same_inputs in
    All-append E (instant_equations false old new ++ init_equations Old (length old.inputs) old.latches) (init_equations New (length new.inputs) new.latches)
    (All-append E (instant_equations false old new) (init_equations Old (length old.inputs) old.latches)
    (instant-meets V false old new s t inputs steady fits (λ side n. refl))
    (inits-meet V Old steady (length old.inputs) old.latches (init-value old inputs fits.wide)))
    (inits-meet V New steady (length new.inputs) new.latches (init-value new inputs wide))

-- in two instants, one after the other
pub step-meets : (old new : Netlist) (facts : List Equation) (s t inputs others : List Bool) → Fits old new s t inputs
    → Fits old new (next_latches old (net_values old s inputs)) (next_latches new (net_values new t inputs)) others
    → HoldIn facts (net_values old s inputs) (net_values new t inputs)
    → MeetsAll (in_two (frame_of old new s t inputs)
    (frame_of old new (next_latches old (net_values old s inputs)) (next_latches new (net_values new t inputs)) others)) (step_equations old new facts)
step-meets old new facts s t inputs others fits later hold =
    let v = net_values old s inputs in
    let w = net_values new t inputs in
    let f = frame v w in
    let g = frame_of old new (next_latches old v) (next_latches new w) others in
    let V = in_two f g in
    let E = λ (e : Equation). Meets V e in
    let steady = steady-two f g (λ n. refl) (λ n. refl) in
    let wide : length others ≡ length new.inputs = later.wide ∙ sym later.same_inputs in
    let now = instant_equations false old new in
    let kept = map (moved_equation false) facts in
    let then = instant_equations true old new in
    let old_links = link_equations Old (length old.inputs) old.latches in
    let new_links = link_equations New (length new.inputs) new.latches in
    All-append E (now ++ kept ++ then ++ old_links) new_links
    (All-append E (now ++ kept ++ then) old_links
    (All-append E (now ++ kept) then
    (All-append E now kept (instant-meets V false old new s t inputs steady fits (λ side n. refl)) (moved-now facts f g hold))
    (instant-meets V true old new (next_latches old v) (next_latches new w) others steady later (λ side n. refl)))
    (links-meet V Old steady (length old.inputs) old.latches (link-value old v others later.wide)))
    (links-meet V New steady (length new.inputs) new.latches (link-value new w others wide))

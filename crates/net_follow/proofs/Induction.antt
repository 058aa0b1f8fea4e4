-- Claims that are proved by induction over instants make one netlist follow another.
use Rattle.std.proofs.Common.{◌≡◌, ℕ, suc, Bool, true, false, ◌&&◌, List, [], ◌∷◌, ◌++◌, length, map, refl, sym, subst, arith, All}
use Rattle.std.proofs.lemmas.List.{length-map, get_or_append_left}
use Rattle.std.proofs.Common.{length-append}
use Rattle.base_types.specs.Items.{Item, Event, EachEvent}
use Rattle.base_machines.specs.Machines.{Follows}
use Rattle.base_machines.proofs.Exports.{shows-through, shows-computed, computed-shows}
use Rattle.net_ir.specs.declared.netlist.Latch.{Latch}
use Rattle.net_ir.specs.declared.netlist.NetOut.{NetOut}
use Rattle.net_ir.specs.Gates.{value_in}
use Rattle.net_ir.specs.Netlists.{Netlist, IsNet}
use Rattle.net_ir.specs.Runs.{shown, net_values, initial_latches, next_latches, net_machine, net_run, values_from}
use Rattle.net_ir.proofs.Exports.{length-next}
use Rattle.net_follow.specs.declared.literals.Equation.{Equation}
use Rattle.net_follow.specs.Literals.{Meets}
use Rattle.net_follow.specs.Frames.{output_equations, shows_equation, all_claims, frame, in_two}
use Rattle.net_follow.specs.Following.{IsWide, ShowSame, AlikeFrom, IsFollowed}
use Rattle.net_follow.specs.Matching.{HoldIn, Matches, AreShown}
use Rattle.net_follow.proofs.Meeting.{Fits, frame_of, first-meets, step-meets, now-moved, later-moved, steady-two}

and-kept : (x y : Bool) → x ≡ (y && true) → x ≡ y
and-kept x true h = h
and-kept x false h = h

-- a net of the new netlist shows what one of the old shows
shown-same : (v w : List Bool) (m n : ℕ) → Meets (λ late. frame v w) (shows_equation m n) → value_in w m ≡ value_in v n
shown-same v w m n meets = and-kept (value_in w m) (value_in v n) meets

outputs-same : (v w : List Bool) (old new : List NetOut) → length new ≡ length old → HoldIn (output_equations old new) v w
    → map (λ o. value_in w o.net.0) new ≡ map (λ o. value_in v o.net.0) old
outputs-same v w [] [] many hold = refl
outputs-same v w [] (p ∷ new) many hold = absurd (omega arith)
outputs-same v w (o ∷ old) [] many hold = absurd (omega arith)
outputs-same v w (o ∷ old) (p ∷ new) many hold =
    let here = shown-same v w p.net.0 o.net.0 (hold 0 (shows_equation p.net.0 o.net.0) (omega arith)) in
    let rest = outputs-same v w old new (omega arith) (λ k d low. hold (suc k) d (omega arith)) in
    λ i. here i ∷ rest i

All-front : {X : Type 0} (P : X → Type 0) (xs : List X) (y : X) → All P (xs ++ y ∷ []) → All P xs
All-front P xs y all = λ k d low. subst P (get_or_append_left xs (y ∷ []) d k low) (all k d (omega (arith, length-append xs (y ∷ []))))

All-behind : {X : Type 0} (P : X → Type 0) (xs ys : List X) → All P (xs ++ ys) → All P ys
All-behind P [] ys all = all
All-behind P (x ∷ xs) ys all = All-behind P xs ys (λ k d low. all (suc k) d (omega arith))

-- where the claims hold, both show the same
show-same : (old new : Netlist) (claims : List Equation) (v w : List Bool) → length new.outputs ≡ length old.outputs
    → HoldIn (all_claims old new claims) v w → ShowSame old new v w
show-same old new claims v w many hold =
    let P = λ (e : Equation). Meets (λ late. frame v w) e in
    let outs = output_equations old.outputs new.outputs in
    let last = shows_equation new.paused old.paused in
    let front = All-front P (claims ++ outs) last hold in
    let outputs = outputs-same v w old.outputs new.outputs many (All-behind P claims outs front) in
    let paused = shown-same v w new.paused old.paused (All-behind P (claims ++ outs) (last ∷ []) hold 0 last (omega arith)) in
    λ i. record { outputs = outputs i; paused = paused i }

-- two netlists, of which the claims are shown
pub record IsInductive (old new : Netlist) (claims : List Equation) : Type 0 where
  pub old_is : IsNet old
  pub new_is : IsNet new
  pub same_inputs : length new.inputs ≡ length old.inputs
  pub same_outputs : length new.outputs ≡ length old.outputs
  pub shown_facts : AreShown old new (all_claims old new claims)

initial-count : (net : Netlist) → length (initial_latches net) ≡ length net.latches
initial-count net = length-map net.latches (λ (l : Latch). l.init)

starts : (old new : Netlist) (claims : List Equation) → IsInductive old new claims
    → Matches old new (all_claims old new claims) (initial_latches old) (initial_latches new)
starts old new claims is = record {
  old_count = initial-count old;
  new_count = initial-count new;
  hold = λ inputs wide.
      let f = frame_of old new (initial_latches old) (initial_latches new) inputs in
      let fits : Fits old new (initial_latches old) (initial_latches new) inputs = record {
        old_is = is.old_is;
        new_is = is.new_is;
        same_inputs = is.same_inputs;
        old_count = initial-count old;
        new_count = initial-count new;
        wide = wide;
      } in
      now-moved (all_claims old new claims) f f
      (is.shown_facts.at_first.entails (in_two f f) (steady-two f f (λ n. refl) (λ n. refl)) (first-meets old new inputs fits));
}

next-matches : (old new : Netlist) (claims : List Equation) → IsInductive old new claims → (s t inputs : List Bool)
    → Matches old new (all_claims old new claims) s t → IsWide old inputs
    → Matches old new (all_claims old new claims) (next_latches old (net_values old s inputs)) (next_latches new (net_values new t inputs))
next-matches old new claims is s t inputs matches wide =
    let v = net_values old s inputs in
    let w = net_values new t inputs in
    record {
      old_count = length-next old v;
      new_count = length-next new w;
      hold = λ others also_wide.
          let f = frame_of old new s t inputs in
          let g = frame_of old new (next_latches old v) (next_latches new w) others in
          let fits : Fits old new s t inputs = record {
            old_is = is.old_is;
            new_is = is.new_is;
            same_inputs = is.same_inputs;
            old_count = matches.old_count;
            new_count = matches.new_count;
            wide = wide;
          } in
          let after : Fits old new (next_latches old v) (next_latches new w) others = record {
            old_is = is.old_is;
            new_is = is.new_is;
            same_inputs = is.same_inputs;
            old_count = length-next old v;
            new_count = length-next new w;
            wide = also_wide;
          } in
          later-moved (all_claims old new claims) f g (is.shown_facts.later.entails (in_two f g) (steady-two f g (λ n. refl) (λ n. refl))
          (step-meets old new (all_claims old new claims) s t inputs others fits after (matches.hold inputs wide)));
    }

follows : (old new : Netlist) (claims : List Equation) → IsInductive old new claims
    → Follows (net_machine old) (net_machine new) (IsWide old) (ShowSame old new) (Matches old new (all_claims old new claims))
follows old new claims is = record {
  agrees = record {
    starts = starts old new claims is;
    steps = λ s t inputs v w matches wide v_is w_is.
        let facts = all_claims old new claims in
        let a = net_values old s inputs in
        let b = net_values new t inputs in
        let same = show-same old new claims a b is.same_outputs (matches.hold inputs wide) in
        let next = next-matches old new claims is s t inputs matches wide in (
          subst (λ y. ShowSame old new v y) (sym w_is) (subst (λ x. ShowSame old new x b) (sym v_is) same),
          subst (λ y. Matches old new facts (next_latches old v) (next_latches new y)) (sym w_is)
              (subst (λ x. Matches old new facts (next_latches old x) (next_latches new b)) (sym v_is) next),
        );
  };
  moves = λ s t inputs v matches wide v_is. (net_values new t inputs, refl);
}

runs : (old new : Netlist) (claims : List Equation) → IsInductive old new claims
    → (items : List Item) → EachEvent (IsWide old) items → net_run new items ≡ net_run old items
runs old new claims is items fit =
    let start = initial_latches old in
    let next = λ (l inputs values : List Bool). next_latches old values in
    let begin = initial_latches new in
    let after = λ (l inputs values : List Bool). next_latches new values in
    let old_shows = shows-computed start (net_values old) next (shown old) start items in
    let new_shows = shows-through (net_machine old) (net_machine new) (IsWide old) (ShowSame old new) (Matches old new (all_claims old new claims))
    (shown old) (shown new) (follows old new claims is) (λ v w same. same) start begin items (net_run old items)
    (starts old new claims is) fit old_shows in
    sym (computed-shows begin (net_values new) after (shown new) begin items (net_run old items) new_shows)

-- ---- the same over all items, step by step

head-same : {X : Type 0} (x y : X) (xs ys : List X) → x ∷ xs ≡ y ∷ ys → x ≡ y
head-same x y xs ys same = cc

tail-same : {X : Type 0} (x y : X) (xs ys : List X) → x ∷ xs ≡ y ∷ ys → xs ≡ ys
tail-same x y xs ys same = cc

next-alike : (old new : Netlist) (s t inputs : List Bool) → AlikeFrom old new s t → IsWide old inputs
    → AlikeFrom old new (next_latches old (net_values old s inputs)) (next_latches new (net_values new t inputs))
next-alike old new s t inputs alike wide = λ items fit.
    tail-same (shown new (net_values new t inputs)) (shown old (net_values old s inputs))
    (map (shown new) (values_from new (next_latches new (net_values new t inputs)) items))
    (map (shown old) (values_from old (next_latches old (net_values old s inputs)) items))
    (alike (Event inputs ∷ items) (wide, fit))

shows-alike : (old new : Netlist) (s t inputs : List Bool) → AlikeFrom old new s t → IsWide old inputs
    → ShowSame old new (net_values old s inputs) (net_values new t inputs)
shows-alike old new s t inputs alike wide =
    head-same (shown new (net_values new t inputs)) (shown old (net_values old s inputs)) [] [] (alike (Event inputs ∷ []) (wide, tt))

alike-follows : (old new : Netlist) → ((items : List Item) → EachEvent (IsWide old) items → net_run new items ≡ net_run old items)
    → Follows (net_machine old) (net_machine new) (IsWide old) (ShowSame old new) (AlikeFrom old new)
alike-follows old new runs = record {
  agrees = record {
    starts = runs;
    steps = λ s t inputs v w alike wide v_is w_is.
        let a = net_values old s inputs in
        let b = net_values new t inputs in
        let same = shows-alike old new s t inputs alike wide in
        let next = next-alike old new s t inputs alike wide in (
          subst (λ y. ShowSame old new v y) (sym w_is) (subst (λ x. ShowSame old new x b) (sym v_is) same),
          subst (λ y. AlikeFrom old new (next_latches old v) (next_latches new y)) (sym w_is)
              (subst (λ x. AlikeFrom old new (next_latches old x) (next_latches new b)) (sym v_is) next),
        );
  };
  moves = λ s t inputs v alike wide v_is. (net_values new t inputs, refl);
}

-- where the same is shown over all items
pub followed-by-runs : (old new : Netlist) → ((items : List Item) → EachEvent (IsWide old) items → net_run new items ≡ net_run old items)
    → IsFollowed old new
followed-by-runs old new same = record { runs = same; follows = alike-follows old new same }

pub followed : (old new : Netlist) (claims : List Equation) → IsInductive old new claims → IsFollowed old new
followed old new claims is = followed-by-runs old new (runs old new claims is)

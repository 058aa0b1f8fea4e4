-- What is pushed to a plan: gates, lookups, and terms that are joined.
use Rattle.std.proofs.Common.{◌≡◌, ℕ, ◌+◌, ◌<◌, ◌≤◌, Bool, List, [], ◌∷◌, ◌++◌, take, All, Result, Ok, Err, refl, sym, ap, ◌∙◌, arith, subst}
use Rattle.std.specs.Prelude.{OnOk, if◌then◌else◌, true, false}
use Rattle.run_steps.specs.declared.term.Term.{Term}
use Rattle.run_steps.specs.declared.term.Junction.{Junction}
use Rattle.run_steps.specs.declared.gate.Gate.{Gate}
use Rattle.run_steps.specs.Slots.{value_at}
use Rattle.run_steps.specs.Plans.{number_of, looked_up, Planned, made, Adds, table_step, term_value, AddsTerm, joined, Joins}
use Rattle.run_steps.specs.Plans.{IsOperand, IsTable}
use Rattle.run_steps.specs.Records.{term_truth, gate_lookup}
use Rattle.run_steps.proofs.Makings.{step-adds, operand-keeps, operand-says, looked-take, keeps-trans}
use Rattle.run_steps.proofs.TermValues.{gate-term}

-- a gate that gives a slot of a name the value of a term
pub gate-adds : (old new : Planned) (output : ℕ) (t : Term) (g : Gate) → new.named ≡ old.named → old.slots ≤ new.slots
    → new.lookups ≡ old.lookups ++ gate_lookup g ∷ [] → g.output ≡ output → g.left ≡ t.left → g.right ≡ t.right → g.truth ≡ number_of (term_truth t)
    → output < old.named → new.tables ≡ old.tables → AddsTerm output t old new
gate-adds old new output t g named slots more out left right truth low tables = record {
  tables = tables;
  adds = λ f said.
      step-adds old new (gate_lookup g) named slots more (record { output = output; value = f }) out low
      (λ values wide. gate-term g t left right truth (made old.lookups values) ∙ said.says values wide);
}

-- a lookup that is no gate
pub lookup-adds : (old new : Planned) (output : ℕ) (reads : List ℕ) (truth : List Bool) → new.named ≡ old.named → old.slots ≤ new.slots
    → new.lookups ≡ old.lookups ++ record { output = output; reads = reads; truth = truth } ∷ [] → output < old.named → All (λ slot. slot < old.named) reads
    → Adds (table_step output reads truth) old new
lookup-adds old new output reads truth named slots more low reads_low =
    step-adds old new (record { output = output; reads = reads; truth = truth }) named slots more (table_step output reads truth) refl low
    (λ values wide. looked-take old.named reads truth (made old.lookups values) reads_low)

-- a gate that gives a free slot the value of a term
pub operand-is : (old new : Planned) (t u : Term) (g : Gate) → new.named ≡ old.named → old.slots ≤ new.slots
    → new.lookups ≡ old.lookups ++ gate_lookup g ∷ [] → g.output ≡ old.free → g.left ≡ t.left → g.right ≡ t.right → g.truth ≡ number_of (term_truth t)
    → old.named < old.free → new.free ≡ old.free + 1 → new.free ≤ new.slots → u.left ≡ old.free → u.right ≡ old.free
    → ((values : List Bool) → term_value u values ≡ (if value_at values old.free then true else false)) → new.tables ≡ old.tables → IsOperand t old u new
operand-is old new t u g named slots more out left right truth above free room u_left u_right copies tables =
    let value : (values : List Bool) → looked_up (gate_lookup g).reads (gate_lookup g).truth values ≡ term_value t values =
    gate-term g t left right truth in
    record {
      keeps = operand-keeps old new (gate_lookup g) named slots more t above out free room value tables;
      one_slot = u_left ∙ sym u_right;
      fits = record { left_low = omega (arith, u_left, free); right_low = omega (arith, u_right, free) };
      says = operand-says old new (gate_lookup g) named slots more t above out free room value tables u u_left u_right copies;
    }

-- two operands, joined
pub pair-joins : (a b c : Planned) (junction : Junction) (l r x y p : Term) → IsOperand l a x b → IsOperand r b y c → p.left ≡ x.left → p.right ≡ y.left
    → ((values : List Bool) → term_value p values ≡ joined junction (term_value x values) (term_value y values)) → Joins junction l r a p c
pair-joins a b c junction l r x y p first second left right value = record {
  keeps = keeps-trans a b c first.keeps second.keeps;
  says = λ f g left_says right_says.
      let sx = second.keeps.says x f (first.says f left_says) in
      let sy = second.says g (first.keeps.says r g right_says) in
      record {
        fits = record {
          left_low = subst (λ k. k < c.free) (sym left) sx.fits.left_low;
          right_low = subst (λ k. k < c.free) (sym right) sy.fits.left_low;
        };
        says = λ values wide.
            let w = made c.lookups values in
            value w ∙ ap (λ v. joined junction v (term_value y w)) (sx.says values wide) ∙ ap (joined junction (f (take c.named w))) (sy.says values wide);
      };
}

-- a small table
pub table-adds : (old new : Planned) (output : ℕ) (reads : List ℕ) (truth : List Bool) (t : Term) → old.named < old.free → output < old.named
    → All (λ slot. slot < old.named) reads → IsTable output reads truth t → AddsTerm output t old new → Adds (table_step output reads truth) old new
table-adds old new output reads truth t above low reads_low is adds =
    adds.adds (looked_up reads truth) (record {
      fits = is.fits old.free (omega (arith, above, low)) (λ k d h. omega (arith, reads_low k d h, above));
      says = λ values wide. is.value_is (made old.lookups values) ∙ looked-take old.named reads truth (made old.lookups values) reads_low;
    })

-- what follows where a call is done
pub on-ok : {T E : Type 0} (r : Result T E) (P Q : Type 0) → (P → Q) → OnOk r P → OnOk r Q
on-ok (Ok x) P Q f p = f p
on-ok (Err e) P Q f p = tt

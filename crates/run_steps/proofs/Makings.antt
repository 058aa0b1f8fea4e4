-- Lookups behind one another, and what a plan makes with one more.
use Rattle.std.proofs.Common.{◌≡◌, ℕ, ◌+◌, ◌<◌, ◌≤◌, Bool, true, false, List, [], ◌∷◌, ◌++◌, length, map, take, set, All, refl, sym, ap, ◌∙◌, arith}
use Rattle.std.specs.Prelude.{if◌then◌else◌}
use Rattle.std.specs.List.{AllByRecursion}
use Rattle.std.proofs.lemmas.List.{length-set, get_or-take, take-set-le, get_or-set_same, get_or-set_other}
use Rattle.std.proofs.lemmas.List.Elements.{recursion_from_All}
use Rattle.std.proofs.Math.Seq.{take-set-lt}
use Rattle.run_steps.specs.declared.term.Term.{Term}
use Rattle.run_steps.specs.Slots.{slot_in, value_at, memory_in}
use Rattle.run_steps.specs.Steps.{Step, step_made, settled}
use Rattle.run_steps.specs.Plans.{number_of, looked_up, Lookup, Planned, lookup_made, made, Makes, Adds, chosen, term_value, Says, KeepsTerms}

pub made-append : (ls ms : List Lookup) (values : List Bool) → made (ls ++ ms) values ≡ made ms (made ls values)
made-append [] ms values = refl
made-append (l ∷ ls) ms values = made-append ls ms (lookup_made l values)

pub length-made : (ls : List Lookup) (values : List Bool) → length (made ls values) ≡ length values
length-made [] values = refl
length-made (l ∷ ls) values = length-made ls (lookup_made l values) ∙ length-set values l.output (looked_up l.reads l.truth values)

pub settled-append : (ss ts : List Step) (values : List Bool) → settled (ss ++ ts) values ≡ settled ts (settled ss values)
settled-append [] ts values = refl
settled-append (s ∷ ss) ts values = settled-append ss ts (step_made s values)

pub length-settled : (ss : List Step) (values : List Bool) → length (settled ss values) ≡ length values
length-settled [] values = refl
length-settled (s ∷ ss) values = length-settled ss (step_made s values) ∙ length-set values s.output (s.value values)

-- what is taken of the first slots
pub taken-front : (n : ℕ) (slots : List ℕ) (values : List Bool) → AllByRecursion (λ k. k < n) slots
    → map (value_at values) slots ≡ map (value_at (take n values)) slots
taken-front n [] values all = refl
taken-front n (slot ∷ slots) values all =
    ap (λ v. v ∷ map (value_at values) slots) (sym (get_or-take n values slot false all.0))
    ∙ ap (λ vs. value_at (take n values) slot ∷ vs) (taken-front n slots values all.1)

-- the values of slots are those of their names
pub through : (names : List (List ℕ)) (values : List Bool) (xs : List (List ℕ))
    → map (value_at values) (map (slot_in names) xs) ≡ map (memory_in names values) xs
through names values [] = refl
through names values (x ∷ xs) = ap (λ l. value_at values (slot_in names x) ∷ l) (through names values xs)

-- the first slots are enough where no others are read
pub looked-take : (n : ℕ) (reads : List ℕ) (truth values : List Bool) → All (λ slot. slot < n) reads
    → looked_up reads truth values ≡ looked_up reads truth (take n values)
looked-take n reads truth values low =
    ap (λ vs. value_at truth (number_of vs)) (taken-front n reads values (recursion_from_All (λ slot. slot < n) reads low))

-- a term whose slots are others
pub term-same : (t : Term) (values : List Bool) (k : ℕ) (b : Bool) → t.left < k → t.right < k → term_value t (set values k b) ≡ term_value t values
term-same t values k b left right =
    ap (λ v. chosen t v (value_at (set values k b) t.right)) (get_or-set_other values k t.left b false (λ e. absurd (omega (arith, left, e))))
    ∙ ap (chosen t (value_at values t.left)) (get_or-set_other values k t.right b false (λ e. absurd (omega (arith, right, e))))

own-value : (b : Bool) → (if b then true else false) ≡ b
own-value true = refl
own-value false = refl

-- ---- one lookup more

module _ (old new : Planned) (l : Lookup) (named : new.named ≡ old.named) (slots : old.slots ≤ new.slots) (more : new.lookups ≡ old.lookups ++ l ∷ []) where
  made-more : (values : List Bool) → made new.lookups values ≡ lookup_made l (made old.lookups values)
  made-more values = ap (λ ls. made ls values) more ∙ made-append old.lookups (l ∷ []) values

  -- the names behind it, where it gives none of them a value
  names-same : old.named ≤ l.output → (values : List Bool) → take new.named (made new.lookups values) ≡ take old.named (made old.lookups values)
  names-same above values =
      let w = made old.lookups values in
      ap (λ n. take n (made new.lookups values)) named ∙ ap (take old.named) (made-more values)
      ∙ take-set-le old.named w l.output (looked_up l.reads l.truth w) above

  pub scratch-makes : old.named ≤ l.output → (steps : List Step) → Makes old steps → Makes new steps
  scratch-makes above steps makes = record {
    made_is = λ values wide.
        names-same above values ∙ makes.made_is values (omega (arith, slots, wide)) ∙ ap (λ n. settled steps (take n values)) (sym named);
  }

  -- a step is added
  pub step-adds : (s : Step) → l.output ≡ s.output → s.output < old.named
      → ((values : List Bool) → old.slots ≤ length values
      → looked_up l.reads l.truth (made old.lookups values) ≡ s.value (take old.named (made old.lookups values)))
      → Adds s old new
  step-adds s output low value = record {
    named = named;
    makes = λ steps makes. record {
      made_is = λ values wide.
          let w = made old.lookups values in
          let narrow : old.slots ≤ length values = omega (arith, slots, wide) in
          ap (λ n. take n (made new.lookups values)) named ∙ ap (take old.named) (made-more values)
          ∙ ap (λ k. take old.named (set w k (looked_up l.reads l.truth w))) output
          ∙ take-set-lt old.named w s.output (looked_up l.reads l.truth w) low
          ∙ ap (set (take old.named w) s.output) (value values narrow)
          ∙ ap (step_made s) (makes.made_is values narrow)
          ∙ sym (settled-append steps (s ∷ []) (take old.named values))
          ∙ ap (λ n. settled (steps ++ s ∷ []) (take n values)) (sym named);
    };
  }

  -- a slot that was free gets the value of a term
  module _ (t : Term) (above : old.named < old.free) (output : l.output ≡ old.free) (free : new.free ≡ old.free + 1) (room : new.free ≤ new.slots)
      (value : (values : List Bool) → looked_up l.reads l.truth values ≡ term_value t values) (tables : new.tables ≡ old.tables) where
    beyond : old.named ≤ l.output
    beyond = omega (arith, above, output)

    pub operand-keeps : KeepsTerms old new
    operand-keeps = record {
      named = named;
      free = omega (arith, free);
      tables = tables;
      makes = scratch-makes beyond;
      says = λ u f said. record {
        fits = record { left_low = omega (arith, said.fits.left_low, free); right_low = omega (arith, said.fits.right_low, free) };
        says = λ values wide.
            let w = made old.lookups values in
            let narrow : old.slots ≤ length values = omega (arith, slots, wide) in
            ap (term_value u) (made-more values)
            ∙ term-same u w l.output (looked_up l.reads l.truth w) (omega (arith, said.fits.left_low, output)) (omega (arith, said.fits.right_low, output))
            ∙ said.says values narrow ∙ ap f (sym (names-same beyond values));
      };
    }

    -- that slot says what the term says
    pub operand-says : (u : Term) → u.left ≡ old.free → u.right ≡ old.free
        → ((values : List Bool) → term_value u values ≡ (if value_at values old.free then true else false))
        → (f : List Bool → Bool) → Says old t f → Says new u f
    operand-says u left right copies f said = record {
      fits = record { left_low = omega (arith, left, free); right_low = omega (arith, right, free) };
      says = λ values wide.
          let w = made old.lookups values in
          let narrow : old.slots ≤ length values = omega (arith, slots, wide) in
          let inside : l.output < length w = omega (arith, length-made old.lookups values, output, free, room, wide) in
          copies (made new.lookups values) ∙ own-value (value_at (made new.lookups values) old.free)
          ∙ ap (λ v. value_at v old.free) (made-more values) ∙ ap (value_at (lookup_made l w)) (sym output)
          ∙ get_or-set_same w l.output (looked_up l.reads l.truth w) false inside
          ∙ value w ∙ said.says values narrow ∙ ap f (sym (names-same beyond values));
    }

-- ---- functions that are the same

pub says-is : (plan : Planned) (t : Term) (f g : List Bool → Bool) → ((values : List Bool) → f values ≡ g values) → Says plan t f → Says plan t g
says-is plan t f g same said = record {
  fits = said.fits;
  says = λ values wide. said.says values wide ∙ same (take plan.named (made plan.lookups values));
}

-- the steps are the same where their outputs and values are
pub same-step : (s t : Step) → s.output ≡ t.output → ((values : List Bool) → s.value values ≡ t.value values) → s ≡ t
same-step s t output value = λ i. record { output = output i; value = λ values. value values i }

pub adds-is : (s t : Step) (old new : Planned) → s.output ≡ t.output → ((values : List Bool) → s.value values ≡ t.value values) → Adds s old new
    → Adds t old new
adds-is s t old new output value adds = record {
  named = adds.named;
  makes = λ steps makes. record {
    made_is = λ values wide. (adds.makes steps makes).made_is values wide ∙ ap (λ u. settled (steps ++ u ∷ []) (take new.named values))
        (same-step s t output value);
  };
}

pub keeps-refl : (plan : Planned) → KeepsTerms plan plan
keeps-refl plan = record { named = refl; free = omega arith; tables = refl; makes = λ steps makes. makes; says = λ t f said. said }

pub keeps-trans : (a b c : Planned) → KeepsTerms a b → KeepsTerms b c → KeepsTerms a c
keeps-trans a b c first second = record {
  named = second.named ∙ first.named;
  free = omega (arith, first.free, second.free);
  tables = second.tables ∙ first.tables;
  makes = λ steps makes. second.makes steps (first.makes steps makes);
  says = λ t f said. second.says t f (first.says t f said);
}

-- a step whose value was compiled before
pub adds-behind : (s : Step) (old mid new : Planned) → KeepsTerms old mid → Adds s mid new → Adds s old new
adds-behind s old mid new keeps adds = record {
  named = adds.named ∙ keeps.named;
  makes = λ steps makes. adds.makes steps (keeps.makes steps makes);
}

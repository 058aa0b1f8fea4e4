-- The run of a program, as a function, and the runs of its machine.
use Rattle.std.proofs.Common.{◌≡◌, List, [], ◌∷◌, map, Option, Some, None, refl, sym, ap, ◌∙◌}
use Rattle.base_types.specs.Items.{Item, Event, Reset}
use Rattle.est_kernel.specs.Plain.{Program, Interface, interface_of}
use Rattle.est_kernel.specs.ProgramMachine.{program_machine}
use Rattle.est_kernel.specs.Reactions.{Answer, Reaction, react, before, goes_on, run_from, run_of}
use Rattle.est_kernel.specs.Terms.{Term}
use Rattle.base_machines.specs.Machines.{IsRunFrom}

-- a run of the machine with these answers
pub record Answers (p : Program) (r : Term) (items : List Item) (answers : List Answer) : Type 0 where
  pub reactions : List Reaction
  pub run : IsRunFrom (program_machine p) r items reactions
  pub told : answers ≡ map (λ x. x.answer) reactions

abbrev held_answers : Option (List Answer) → List Answer
held_answers None = []
held_answers (Some answers) = answers

-- a run as a function is a run of the machine
pub answers-run : (p : Program) (r : Term) (items : List Item) (answers : List Answer)
    → run_from (interface_of p) p.body r items ≡ Some answers → Answers p r items answers
answers-run p r [] [] e = record { reactions = []; run = tt; told = refl }
answers-run p r [] (a ∷ answers) e = cc
answers-run p r (Event event ∷ items) answers e =
    by_reaction (λ s rest. answers-run p s items rest) (react (interface_of p) r event) refl e
  where
    goes : ((s : Term) (rest : List Answer) → run_from (interface_of p) p.body s items ≡ Some rest → Answers p s items rest)
        → (x : Reaction) → react (interface_of p) r event ≡ Some x → (later : Option (List Answer))
        → run_from (interface_of p) p.body x.residual items ≡ later → before x.answer later ≡ Some answers
        → Answers p r (Event event ∷ items) answers
    goes behind x is None f h = cc
    goes behind x is (Some rest) f h =
        let more = behind x.residual rest f in record {
          reactions = x ∷ more.reactions;
          run = (is, more.run);
          told = ap held_answers (sym h) ∙ ap (λ l. x.answer ∷ l) more.told;
        }

    by_reaction : ((s : Term) (rest : List Answer) → run_from (interface_of p) p.body s items ≡ Some rest → Answers p s items rest)
        → (o : Option Reaction) → react (interface_of p) r event ≡ o
        → goes_on o (λ s. run_from (interface_of p) p.body s items) ≡ Some answers → Answers p r (Event event ∷ items) answers
    by_reaction behind None is h = cc
    by_reaction behind (Some x) is h = goes behind x is (run_from (interface_of p) p.body x.residual items) refl h
answers-run p r (Reset ∷ items) answers e =
    let more = answers-run p p.body items answers e in
    record { reactions = more.reactions; run = more.run; told = more.told }

-- and each run of the machine is the run as a function
pub run-answers : (p : Program) (r : Term) (items : List Item) (reactions : List Reaction) → IsRunFrom (program_machine p) r items reactions
    → run_from (interface_of p) p.body r items ≡ Some (map (λ x. x.answer) reactions)
run-answers p r [] [] run = refl
run-answers p r [] (x ∷ reactions) run = absurd run
run-answers p r (Event event ∷ items) [] run = absurd run
run-answers p r (Event event ∷ items) (x ∷ reactions) run =
    ap (λ o. goes_on o (λ s. run_from (interface_of p) p.body s items)) run.0
    ∙ ap (before x.answer) (run-answers p x.residual items reactions run.1)
run-answers p r (Reset ∷ items) reactions run = run-answers p p.body items reactions run

-- What a machine shows over a trace, told of what it runs.
use Rattle.std.proofs.Common.{◌≡◌, ℕ, List, [], ◌∷◌, length, Result, subst, ap, ◌∙◌}
use Rattle.base_types.specs.Items.{Item, Event, Reset, EachEvent}
use Rattle.base_types.specs.Relations.{Relation, MeetsAll}
use Rattle.base_types.specs.SinkChanges.{SinkChange}
use Rattle.net_ir.specs.Netlists.{Netlist}
use Rattle.run_trace_io.specs.Answers.{beginning}
use Rattle.run_over_traces.specs.declared.running.RunFault.{RunFault}
use Rattle.run_over_traces.specs.Languages.{ShowsNet, IsOfNet, IsOfProgram}
use Rattle.run_over_traces.specs.Machines.{ShownAnswer, Brings, answer_lines}
use Rattle.run_over_traces.specs.Running.{IsTraceFront, RunsTrace}
use Rattle.run_over_traces.proofs.Events.{events-fit, runs-along}
use Rattle.run_over_traces.proofs.Stepping.{runs-so}

-- what a machine brings is what its program does
brings-so : {S P : Type 0} (shows : S → List Item → List ShownAnswer → Type 0) (program_shows : P → List Item → List ShownAnswer → Type 0) (s : S) (p : P)
    (names : List (List ℕ)) (items : List Item) (text : List ℕ) → IsOfProgram shows program_shows s p → Brings shows names s items text
    → Brings program_shows names p items text
brings-so shows program_shows s p names items text is brings =
    record { answers = brings.answers; shown = is.told items brings.answers brings.shown; lines = brings.lines }

-- over the interface of the program itself
pub runs-own : {S P : Type 0} (shows : S → List Item → List ShownAnswer → Type 0) (program_shows : P → List Item → List ShownAnswer → Type 0) (s : S) (p : P)
    (own_names own_given : List (List ℕ)) → IsOfProgram shows program_shows s p → (trace : List ℕ) (names given : List (List ℕ)) (relations : List Relation)
    (c : SinkChange) (result : Result (Unit {0}) RunFault) → names ≡ own_names → given ≡ own_given → relations ≡ []
    → RunsTrace (Brings shows names s) (beginning trace given relations) c result
    → RunsTrace (Brings program_shows own_names p) (beginning trace own_given []) c result
runs-own shows program_shows s p own_names own_given is trace names given relations c result named same free runs =
    let by_name = subst (λ n. RunsTrace (Brings shows n s) (beginning trace given relations) c result) named runs in
    let by_input = subst (λ g. RunsTrace (Brings shows own_names s) (beginning trace g relations) c result) same by_name in
    runs-so (Brings shows own_names s) (Brings program_shows own_names p) (beginning trace own_given []) c result
    (λ items text brings. brings-so shows program_shows s p own_names items text is brings)
    (subst (λ x. RunsTrace (Brings shows own_names s) (beginning trace own_given x) c result) free by_input)

pub widths : (n : ℕ) (relations : List Relation) (items : List Item) → EachEvent (λ event. (length event ≡ n) × MeetsAll relations event) items
    → EachEvent (λ event. length event ≡ n) items
widths n relations [] fits = tt
widths n relations (Event event ∷ items) fits = (fits.0.0, widths n relations items fits.1)
widths n relations (Reset ∷ items) fits = widths n relations items fits

-- over a trace of a net's inputs
pub runs-net : {S : Type 0} (shows : S → List Item → List ShownAnswer → Type 0) (s : S) (net : Netlist) → IsOfNet shows s net
    → (trace : List ℕ) (names given : List (List ℕ)) (relations : List Relation) (c : SinkChange) (result : Result (Unit {0}) RunFault)
    → given ≡ net.inputs → RunsTrace (Brings shows names s) (beginning trace given relations) c result
    → RunsTrace (ShowsNet names net) (beginning trace given relations) c result
runs-net shows s net is trace names given relations c result same runs =
    runs-along (Brings shows names s) (ShowsNet names net) (beginning trace given relations) c result along runs
  where
    along : (items : List Item) (text : List ℕ) → IsTraceFront (beginning trace given relations) items → Brings shows names s items text
        → ShowsNet names net items text
    along items text front brings =
        let fits = subst (λ g. EachEvent (λ event. (length event ≡ length g) × MeetsAll relations event) items) same
        (events-fit trace given relations items front) in
        brings.lines ∙ ap (answer_lines names) (is.told items brings.answers (widths (length net.inputs) relations items fits) brings.shown)

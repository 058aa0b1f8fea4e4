use Rattle.std.proofs.Common.{◌≡◌, ◌+◌, ◌++◌, length, IsTrue, All, sym, ap, ◌∙◌, subst}
use Rattle.grc_ternary_gates.specs.Systems.{gate_fits}
use Rattle.grc_ternary_run.specs.declared.formulas.Making.{Making}
use Rattle.grc_ternary_run.specs.Meanings.{meaning_of, shape_of}
use Rattle.grc_ternary_run.specs.Systems.{equation_at}
use Rattle.grc_ternary_run.proofs.SystemSteps.{all-fit, gates-are}
use Rattle.grc_ternary_run.proofs.systems.make_system.Goals as goal

pub new-requires : goal.new-requires
new-requires c =
    let counts = c.count_sources-counts.result in
    let m : Making = record { graph = c.args.graph; words = c.args.words; chains = c.deref.result; counts = counts } in
    let front = c.in_ok-gates.gates.items in
    let table = c.make_gates.new.table.items in
    let all = all-fit (shape_of m) front table (λ v. meaning_of m (equation_at m.graph.now v)) (gates-are m table front c.in_ok-gates.ensures) in
    let whole : c.append.new.gates.items ≡ front ++ table = c.in_ok-append.ensures ∙ ap (λ l. front ++ l) c.deref-2.ensures.value in
    let fit = subst (λ gs. All (λ g. IsTrue (gate_fits (length gs) (3 + counts.given + counts.statements) g)) gs) (sym whole) all in
    let gates = c.append.new.gates.items in
    record { fit = subst (λ n. All (λ g. IsTrue (gate_fits (length gates) n g)) gates) (sym c.sources.ensures) fit }

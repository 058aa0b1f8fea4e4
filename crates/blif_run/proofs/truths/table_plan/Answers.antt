use Rattle.std.proofs.Common.{◌≡◌, ◌+◌, ◌<◌, ◌≤◌, ◌++◌, [], ◌∷◌, length, map, take, get_or, sym, ap, ◌∙◌, subst, arith}
use Rattle.std.proofs.lemmas.List.{length-map, get_or-map, map-append, take_more}
use Rattle.base_facts.proofs.Lists.{all-unmapped}
use Rattle.blif_text.specs.Plain.{plain_table}
use Rattle.run_steps.specs.Plans.{Adds, Makes}
use Rattle.blif_run.specs.Truths.{no_table, step_of, step_at}
use Rattle.blif_run.proofs.truths.table_plan.Goals as goal

pub push_step-requires-clause-few : goal.push_step-requires-clause-few
push_step-requires-clause-few c =
    let few = all-unmapped (λ t. length t.inputs ≤ 8) plain_table c.args.tables.now c.requires.few in
    let t = c.index-tables-table.result in
    rw (c.index-tables-table.is) (few _ t (c.requires.nodes c.loop-table.table-index 0 (omega arith)))

pub push_step-requires-clause-each_input : goal.push_step-requires-clause-each_input
push_step-requires-clause-each_input c =
    let tables = c.args.tables.now in
    let reads = c.args.reads.now in
    let table = c.index-tables-table.result in
    let read = c.index-reads-table.result in
    let t = get_or c.args.order.now c.loop-table.table-index 0 in
    let node : t < length tables = c.requires.nodes c.loop-table.table-index 0 (omega arith) in
    let lists = map (λ r. r.items) reads in
    let low : t < length lists = omega (arith, node, c.requires.each_table, length-map reads (λ r. r.items)) in
    let few : t < length (map plain_table tables) = omega (arith, node, length-map tables plain_table) in
    let left = get_or-map length lists t [] 0 low ∙ ap length (get_or-map (λ r. r.items) reads t read [] (omega (arith, node, c.requires.each_table))) in
    let right = get_or-map (λ x. length x.inputs) (map plain_table tables) t no_table 0 few
    ∙ ap (λ x. length x.inputs) (get_or-map plain_table tables t table no_table node) in
    ap length c.deref.ensures.value ∙ ap (λ r. length r.items) c.index-reads-table.is ∙ sym left ∙ ap (λ l. get_or l t 0) c.requires.each_input ∙ right
    ∙ ap (λ x. length x.inputs.items) (sym c.index-tables-table.is)

pub loop-table-preserved : goal.loop-table-preserved
loop-table-preserved c =
    let tables = map plain_table c.args.tables.now in
    let reads = map (λ r. r.items) c.args.reads.now in
    let step = step_at tables c.args.first reads in
    let order = c.args.order.now in
    let i = c.loop-table.table-index in
    let t = get_or order i 0 in
    let old = c.loop-table.plan in
    let new = c.push_step.new.plan in
    let low : i < length order = omega arith in
    let node : t < length c.args.tables.now = c.requires.nodes i 0 low in
    let table : get_or tables t no_table ≡ plain_table c.index-tables-table.result =
    get_or-map plain_table c.args.tables.now t c.index-tables-table.result no_table node ∙ ap plain_table (sym c.index-tables-table.is) in
    let read : get_or reads t [] ≡ c.deref.result.now =
    get_or-map (λ r. r.items) c.args.reads.now t c.index-reads-table.result [] (omega (arith, node, c.requires.each_table))
    ∙ ap (λ r. r.items) (sym c.index-reads-table.is) ∙ sym c.deref.ensures.value in
    let is : step_of (plain_table c.index-tables-table.result) (c.args.first + t) c.deref.result.now ≡ step t =
    ap (λ x. step_of x (c.args.first + t) c.deref.result.now) (sym table) ∙ ap (step_of (get_or tables t no_table) (c.args.first + t)) (sym read) in
    let next : Adds (step t) old new = subst (λ s. Adds s old new) is c.in_ok-push_step.ensures in
    let more : map step (take (i + 1) order) ≡ map step (take i order) ++ step t ∷ [] =
    ap (map step) (take_more order i 0 low) ∙ map-append step (take i order) (t ∷ []) in
    record {
      names = next.named ∙ c.loop-table.invariant.names;
      steps = subst (λ l. Makes new l) (sym more) (next.makes (map step (take i order)) c.loop-table.invariant.steps);
    }

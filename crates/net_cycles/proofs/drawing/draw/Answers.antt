use Rattle.std.proofs.Common.{◌≡◌, ℕ, ◌<◌, ◌≤◌, [], length, take, sym, ap, ◌∙◌, subst, arith}
use Rattle.std.proofs.lemmas.List.{length-append, length-take-le}
use Rattle.grc_graph.specs.declared.formulas.Formula.{Formula}
use Rattle.grc_formulas.specs.Occasions.{Occasion}
use Rattle.net_cycles.specs.Bases.{CarryWires, IsReady, RowsAdded, sources_of}
use Rattle.net_unroll.specs.Copies.{CanUnroll, IsUnrolled}
use Rattle.net_cycles.proofs.Parts.{can-unroll, drawn-base, drawn-can, drawn-reads, drawn-says, late-fit, late-rows, ready-copies}
use Rattle.net_cycles.proofs.drawing.draw.Goals as goal

pub unroll-requires : goal.unroll-requires
unroll-requires c =
    let g = c.args.graph.now in
    let w = c.args.words.now in
    let y = c.args.system.now in
    let b = c.in_ok-base.field-0.base in
    let rs = c.add_rows.new.rows.items in
    let d = c.add_rows.new.gates in
    let added = c.in_ok-add_rows.ensures in
    let ready = subst (λ l. IsReady g w b l rs d) (c.as_slice.ensures.value ∙ c.new-none.ensures.items) added.ready in
    let many = added.many in
    let early : w.early ≤ length rs = omega arith in
    let all = can-unroll g w y b c.args.schedule.now rs d c.requires ready early in
    let e = c.as_slice-4.ensures.value ∙ c.in_ok-sources.ensures ∙ ap (sources_of b w) c.as_slice-2.ensures.value in
    record {
      can = subst (λ l. CanUnroll d l c.as_slice-4.result.now b.no c.args.schedule.now) (sym c.as_slice-3.ensures.value)
          (subst (λ l. CanUnroll d y.gates.items l b.no c.args.schedule.now) (sym e) all);
    }

pub add_rows-requires-2-clause-ready : goal.add_rows-requires-2-clause-ready
add_rows-requires-2-clause-ready c =
    let g = c.args.graph.now in
    let w = c.args.words.now in
    let y = c.args.system.now in
    let b = c.in_ok-base.field-0.base in
    let rs = c.add_rows.new.rows.items in
    let one = c.add_rows.new.gates in
    let two = c.unroll.new.gates in
    let s = c.args.schedule.now in
    let ss = c.in_ok-sources.sources.items in
    let nodes = c.in_ok-nodes.nodes.items in
    let ready = subst (λ l. IsReady g w b l rs one) (c.as_slice.ensures.value ∙ c.new-none.ensures.items) c.in_ok-add_rows.ensures.ready in
    let u = subst (λ l. IsUnrolled one two l ss nodes s) c.as_slice-3.ensures.value
    (subst (λ l. IsUnrolled one two c.as_slice-3.result.now l nodes s) c.as_slice-4.ensures.value c.in_ok-nodes.ensures.made) in
    let taken : c.in_ok-copies.copies.items ≡ take (length g.wires.items) nodes = c.in_ok-copies.ensures
    ∙ ap (λ l. take (length c.wires.result.now) l) c.as_slice-5.ensures.value ∙ ap (λ n. take n nodes) (ap length c.wires.ensures) in
    let is = c.requires.system in
    let each = is.gates.each in
    let all = u.made.each in
    let few : length g.wires.items ≤ length nodes = omega (arith, ap length is.whole, length-append is.front is.table) in
    subst (λ l. IsReady g w b l rs two) (sym c.as_slice-6.ensures.value)
    (ready-copies g w y b s rs ss nodes c.in_ok-copies.copies.items one two ready u taken few)

pub add_rows-requires-2-clause-fits : goal.add_rows-requires-2-clause-fits
add_rows-requires-2-clause-fits c =
    let g = c.args.graph.now in
    let w = c.args.words.now in
    let y = c.args.system.now in
    let b = c.in_ok-base.field-0.base in
    let nodes = c.in_ok-nodes.nodes.items in
    let u = c.in_ok-nodes.ensures.made in
    let taken : c.in_ok-copies.copies.items ≡ take (length g.wires.items) nodes = c.in_ok-copies.ensures
    ∙ ap (λ l. take (length c.wires.result.now) l) c.as_slice-5.ensures.value ∙ ap (λ n. take n nodes) (ap length c.wires.ensures) in
    let is = c.requires.system in
    let each = is.gates.each in
    let all = u.made.each ∙ ap length c.as_slice-3.ensures.value in
    let few : length g.wires.items ≤ length nodes = omega (arith, ap length is.whole, length-append is.front is.table) in
    let many : length c.as_slice-6.result.now ≡ length g.wires.items = ap length (c.as_slice-6.ensures.value ∙ taken)
    ∙ length-take-le (length g.wires.items) nodes few in
    λ k row above low.
    late-rows g w b c.add_rows.new.gates (length c.as_slice-6.result.now) (length c.add_rows.new.rows.items) c.requires.words
    c.in_ok-add_rows.ensures.ready.base
    (omega arith) k row above (omega (arith, low, c.len-all.ensures, w.rows.ok.0))

pub returns : goal.returns
returns c =
    let g = c.args.graph.now in
    let w = c.args.words.now in
    let y = c.args.system.now in
    let b = c.in_ok-base.field-0.base in
    let rs = c.add_rows.new.rows.items in
    let one = c.add_rows.new.gates in
    let two = c.unroll.new.gates in
    let three = c.add_rows-2.new.gates in
    let four = c.next_nets.new.gates in
    let last_rows = c.add_rows-2.new.rows.items in
    let s = c.args.schedule.now in
    let ss = c.in_ok-sources.sources.items in
    let nodes = c.in_ok-nodes.nodes.items in
    let copies = c.in_ok-copies.copies.items in
    let next = c.in_ok-next.next.items in
    let added = c.in_ok-add_rows.ensures in
    let ready : IsReady g w b [] rs one = subst (λ l. IsReady g w b l rs one) (c.as_slice.ensures.value ∙ c.new-none.ensures.items) added.ready in
    let many = added.many in
    let early : w.early ≤ length rs = omega arith in
    let same : ss ≡ sources_of b w rs = c.in_ok-sources.ensures ∙ ap (sources_of b w) c.as_slice-2.ensures.value in
    let u : IsUnrolled one two y.gates.items ss nodes s = subst (λ l. IsUnrolled one two l ss nodes s) c.as_slice-3.ensures.value
    (subst (λ l. IsUnrolled one two c.as_slice-3.result.now l nodes s) c.as_slice-4.ensures.value c.in_ok-nodes.ensures.made) in
    let taken : copies ≡ take (length g.wires.items) nodes = c.in_ok-copies.ensures
    ∙ ap (λ l. take (length c.wires.result.now) l) c.as_slice-5.ensures.value ∙ ap (λ n. take n nodes) (ap length c.wires.ensures) in
    let all : c.len-all.result ≡ length w.rows.items = omega (arith, c.len-all.ensures, w.rows.ok.0) in
    let late : RowsAdded g w b two three copies last_rows (length w.rows.items) = subst (λ n. RowsAdded g w b two three copies last_rows n) all
    (subst (λ l. RowsAdded g w b two three l last_rows c.len-all.result) c.as_slice-6.ensures.value c.in_ok-add_rows-2.ensures) in
    let made = c.in_ok-next.ensures in
    let find = c.schedules_find_least.ensures in
    let given = c.source_nets_are_sources.ensures in
    let following = λ (t : Occasion g) (k : CarryWires g copies three t) (j : ℕ) (f : Formula) (low : j < length g.next.items).
    made.says t (subst (λ l. CarryWires g l three t) (sym c.as_slice-7.ensures.value) k) j f low in
    record {
      base = drawn-base find given g w y b s c.requires one two three four rs ss nodes copies last_rows next ready early same u taken late made.grew following;
      many = made.many;
      low = made.low;
      fits = late-fit find given g w y b s c.requires one two three four rs ss nodes copies last_rows next ready early same u taken late made.grew following;
      reads = drawn-reads find given g w y b s c.requires one two three four rs ss nodes copies last_rows next ready early same u taken late made.grew
          following;
      can = drawn-can find given g w y b s c.requires one two three four rs ss nodes copies last_rows next ready early same u taken late made.grew following;
      says = drawn-says find given g w y b s c.requires one two three four rs ss nodes copies last_rows next ready early same u taken late made.grew following;
    }

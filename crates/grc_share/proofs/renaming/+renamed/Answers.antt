-- One answer per form: what stands in it goes by the numbers of its shared ones.
use Rattle.std.proofs.Common.{length, IsTrue, refl, sym, ap, ◌∙◌, subst, arith}
use Rattle.std.proofs.lemmas.Bool.{ltb-true}
use Rattle.std.proofs.lemmas.Result.{IfOk-weaker}
use Rattle.grc_graph.specs.declared.formulas.Formula.{Formula}
use Rattle.grc_graph.specs.Formulas.{any_of}
use Rattle.grc_graph.specs.GraphShapes.{formula_fits}
use Rattle.grc_graph.specs.PlainGraphs.{formula_of}
use Rattle.grc_share.specs.Renamings.{values}
use Rattle.grc_share.specs.SharedGraphs.{renamed}
use Rattle.grc_share.proofs.RenamedFormulas.{any-renamed, fits-any, fits-left, fits-right, held-stands, kept-stands, stands-as, upto-stands, weight}
use Rattle.grc_share.proofs.RenamedFormulas.{wire-stands}
use Rattle.grc_share.proofs.renaming.+renamed.Goals as goal

pub renamed-requires : goal.renamed-requires
renamed-requires t c =
    let m = c.args.numbers.now in
    let fits = subst (λ (f : Formula). IsTrue (formula_fits (length m.instances.now) (length m.wires.now) f)) c.in-Not.is c.requires in
    let whole = ap weight c.in-Not.is in
    let part = ap weight c.deref.ensures in
    (omega arith, subst (λ (f : Formula). IsTrue (formula_fits (length m.instances.now) (length m.wires.now) f)) (sym c.deref.ensures) fits)

pub renamed-requires-in-And : goal.renamed-requires-in-And
renamed-requires-in-And t c =
    let m = c.args.numbers.now in
    let fits = subst (λ (f : Formula). IsTrue (formula_fits (length m.instances.now) (length m.wires.now) f)) c.in-And.is c.requires in
    let whole = ap weight c.in-And.is in
    let part = ap weight c.deref-in-And.ensures in (
      omega arith,
      subst (λ (f : Formula). IsTrue (formula_fits (length m.instances.now) (length m.wires.now) f)) (sym c.deref-in-And.ensures)
          (fits-left (length m.instances.now) (length m.wires.now) c.in-And.left.value c.in-And.right.value fits),
    )

pub renamed-requires-in-And-2 : goal.renamed-requires-in-And-2
renamed-requires-in-And-2 t c =
    let m = c.args.numbers.now in
    let fits = subst (λ (f : Formula). IsTrue (formula_fits (length m.instances.now) (length m.wires.now) f)) c.in-And.is c.requires in
    let whole = ap weight c.in-And.is in
    let part = ap weight c.deref-in-And-2.ensures in (
      omega arith,
      subst (λ (f : Formula). IsTrue (formula_fits (length m.instances.now) (length m.wires.now) f)) (sym c.deref-in-And-2.ensures)
          (fits-right (length m.instances.now) (length m.wires.now) c.in-And.left.value c.in-And.right.value fits),
    )

pub renamed-requires-in-Or : goal.renamed-requires-in-Or
renamed-requires-in-Or t c =
    let m = c.args.numbers.now in
    let fits = subst (λ (f : Formula). IsTrue (formula_fits (length m.instances.now) (length m.wires.now) f)) c.in-Or.is c.requires in
    let whole = ap weight c.in-Or.is in
    let part = ap weight c.deref-in-Or.ensures in (
      omega arith,
      subst (λ (f : Formula). IsTrue (formula_fits (length m.instances.now) (length m.wires.now) f)) (sym c.deref-in-Or.ensures)
          (fits-left (length m.instances.now) (length m.wires.now) c.in-Or.left.value c.in-Or.right.value fits),
    )

pub renamed-requires-in-Or-2 : goal.renamed-requires-in-Or-2
renamed-requires-in-Or-2 t c =
    let m = c.args.numbers.now in
    let fits = subst (λ (f : Formula). IsTrue (formula_fits (length m.instances.now) (length m.wires.now) f)) c.in-Or.is c.requires in
    let whole = ap weight c.in-Or.is in
    let part = ap weight c.deref-in-Or-2.ensures in (
      omega arith,
      subst (λ (f : Formula). IsTrue (formula_fits (length m.instances.now) (length m.wires.now) f)) (sym c.deref-in-Or-2.ensures)
          (fits-right (length m.instances.now) (length m.wires.now) c.in-Or.left.value c.in-Or.right.value fits),
    )

pub rename_wires-requires : goal.rename_wires-requires
rename_wires-requires t c =
    let m = c.args.numbers.now in
    let fits = subst (λ (f : Formula). IsTrue (formula_fits (length m.instances.now) (length m.wires.now) f)) c.in-AnyOf.is c.requires in
    fits-any (length m.wires.now) c.in-AnyOf.list.items c.deref-in-AnyOf.result.now c.deref-in-AnyOf.ensures.value fits

pub returns-in-Wire : goal.returns-in-Wire
returns-in-Wire t c = λ K insts names shared wires are.
    let m = c.args.numbers.now in
    let fits = subst (λ (f : Formula). IsTrue (formula_fits (length m.instances.now) (length m.wires.now) f)) c.in-Wire.is c.requires in
    stands-as shared wires _ _ _ (ap (λ f. renamed K (formula_of insts names f)) (sym c.in-Wire.is))
    (wire-stands K insts names shared wires _ _ are c.in-Wire.w.0 (ltb-true _ _ fits))

pub returns-in-Upto : goal.returns-in-Upto
returns-in-Upto t c = λ K insts names shared wires are.
    let m = c.args.numbers.now in
    let fits = subst (λ (f : Formula). IsTrue (formula_fits (length m.instances.now) (length m.wires.now) f)) c.in-Upto.is c.requires in
    stands-as shared wires _ _ _ (ap (λ f. renamed K (formula_of insts names f)) (sym c.in-Upto.is))
    (upto-stands K insts names shared wires _ _ are c.in-Upto.i.0 c.in-Upto.code _ (ltb-true _ _ fits))

pub returns-in-Kept : goal.returns-in-Kept
returns-in-Kept t c = λ K insts names shared wires are.
    let m = c.args.numbers.now in
    let fits = subst (λ (f : Formula). IsTrue (formula_fits (length m.instances.now) (length m.wires.now) f)) c.in-Kept.is c.requires in
    stands-as shared wires _ _ _ (ap (λ f. renamed K (formula_of insts names f)) (sym c.in-Kept.is))
    (kept-stands K insts names shared wires _ _ are c.in-Kept.i.0 _ (ltb-true _ _ fits))

pub returns-in-Held : goal.returns-in-Held
returns-in-Held t c = λ K insts names shared wires are.
    let m = c.args.numbers.now in
    let fits = subst (λ (f : Formula). IsTrue (formula_fits (length m.instances.now) (length m.wires.now) f)) c.in-Held.is c.requires in
    stands-as shared wires _ _ _ (ap (λ f. renamed K (formula_of insts names f)) (sym c.in-Held.is))
    (held-stands K insts names shared wires _ _ are c.in-Held.i.0 _ (ltb-true _ _ fits))

pub returns-in_ok-inner-in-Not : goal.returns-in_ok-inner-in-Not
returns-in_ok-inner-in-Not t c = λ K insts names shared wires are.
    let F = λ (f : Formula). renamed K (formula_of insts names f) in
    let inner = stands-as shared wires _ _ _ (ap F c.deref.ensures) (c.in_ok-inner-in-Not.ensures K insts names shared wires are) in
    IfOk-weaker c.negated.result _ _ (λ f h. stands-as shared wires _ _ _ (ap F (sym c.in-Not.is)) (h shared wires _ inner)) c.negated.ensures

pub returns-in_ok-second-in-And : goal.returns-in_ok-second-in-And
returns-in_ok-second-in-And t c = λ K insts names shared wires are.
    let F = λ (f : Formula). renamed K (formula_of insts names f) in
    let left = stands-as shared wires _ _ _ (ap F c.deref-in-And.ensures) (c.in_ok-first-in-And.ensures K insts names shared wires are) in
    let right = stands-as shared wires _ _ _ (ap F c.deref-in-And-2.ensures) (c.in_ok-second-in-And.ensures K insts names shared wires are) in
    IfOk-weaker c.both.result _ _ (λ f h. stands-as shared wires _ _ _ (ap F (sym c.in-And.is)) (h shared wires _ _ left right)) c.both.ensures

pub returns-in_ok-second-in-Or : goal.returns-in_ok-second-in-Or
returns-in_ok-second-in-Or t c = λ K insts names shared wires are.
    let F = λ (f : Formula). renamed K (formula_of insts names f) in
    let left = stands-as shared wires _ _ _ (ap F c.deref-in-Or.ensures) (c.in_ok-first-in-Or.ensures K insts names shared wires are) in
    let right = stands-as shared wires _ _ _ (ap F c.deref-in-Or-2.ensures) (c.in_ok-second-in-Or.ensures K insts names shared wires are) in
    IfOk-weaker c.either.result _ _ (λ f h. stands-as shared wires _ _ _ (ap F (sym c.in-Or.is)) (h shared wires _ _ left right)) c.either.ensures

pub returns-in_ok-wires-in-AnyOf : goal.returns-in_ok-wires-in-AnyOf
returns-in_ok-wires-in-AnyOf t c = λ K insts names shared wires are.
    let m = c.args.numbers.now in
    let F = λ (f : Formula). renamed K (formula_of insts names f) in
    let fits = subst (λ (f : Formula). IsTrue (formula_fits (length m.instances.now) (length m.wires.now) f)) c.in-AnyOf.is c.requires in
    let low = fits-any (length m.wires.now) c.in-AnyOf.list.items c.deref-in-AnyOf.result.now c.deref-in-AnyOf.ensures.value fits in
    stands-as shared wires _ _ _ (ap (λ l. renamed K (any_of (values names l))) c.deref-in-AnyOf.ensures.value ∙ ap F (sym c.in-AnyOf.is))
    (any-renamed K insts names shared wires _ _ are c.deref-in-AnyOf.result.now _ c.in_ok-wires-in-AnyOf.wires.items refl refl
    c.in_ok-wires-in-AnyOf.ensures low)

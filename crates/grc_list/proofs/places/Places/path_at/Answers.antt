use Rattle.std.proofs.Common.{◌≡◌, ◌∙◌, ◌++◌, ◌∷◌, [], ap, sym, reverse, append_assoc, arith}
use Rattle.std.proofs.lemmas.List.{reverse-append}
use Rattle.est_kernel.specs.Plain.{term_of}
use Rattle.grc_graph.specs.WireNames.{path_at}
use Rattle.grc_list.specs.PlaceViews.{place_of}
use Rattle.grc_graph.proofs.Exports.{first_path}
use Rattle.grc_list.proofs.Climbing.{place_leads_up}
use Rattle.grc_list.proofs.places.Places.path_at.Goals as goal

pub loop-at-smaller : goal.loop-at-smaller
loop-at-smaller c =
    let places = c.args.self.now in
    let up = place_leads_up place_of places.list.items (term_of places.body.now) c.loop-at.at c.index-place.result.now places.listed (omega arith)
    c.loop-at.invariant.within c.index-place.ensures in
    up.before

pub loop-at-preserved : goal.loop-at-preserved
loop-at-preserved c =
    let places = c.args.self.now in
    let body = term_of places.body.now in
    let x = c.index-place.result.now in
    let steps = c.loop-at.steps.items in
    let up = place_leads_up place_of places.list.items body c.loop-at.at x places.listed (omega arith) c.loop-at.invariant.within c.index-place.ensures in
    record {
      within = omega (arith, up.before, c.loop-at.invariant.within);
      path = ap (λ l. path_at body x.parent ++ reverse l) c.in_ok-push.ensures.items
          ∙ ap (λ l. path_at body x.parent ++ l) (reverse-append steps (x.child ∷ []))
          ∙ sym (append_assoc (path_at body x.parent) (x.child ∷ []) (reverse steps)) ∙ ap (λ l. l ++ reverse steps) (sym up.path) ∙ c.loop-at.invariant.path;
    }

pub returns : goal.returns
returns c =
    let body = term_of c.args.self.now.body.now in
    let e : c.loop-at.at ≡ 0 = omega arith in
    c.reverse.ensures.items ∙ ap (λ l. l ++ reverse c.loop-at.steps.items) (sym (ap (path_at body) e ∙ first_path body)) ∙ c.loop-at.invariant.path

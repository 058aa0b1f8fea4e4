use Rattle.std.proofs.Common.{rules, ◌≡◌, ◌+◌, ◌<◌, [], ◌∷◌, ◌++◌, length, get_or, refl, sym, ap, ◌∙◌, subst, arith}
use Rattle.base_types.specs.declared.indices.WireId.{WireId}
use Rattle.grc_share.specs.LeastMembers.{ArePlaces}
use Rattle.grc_share.proofs.Leaders.{leaders-next, places-next}
use Rattle.grc_share.proofs.numbering.leading.Goals as goal

pub loop-w-preserved : goal.loop-w-preserved
loop-w-preserved c =
    let members = c.args.members.now in
    let n = c.loop-w.w in
    let least = c.loop-w.least.items in
    let x : WireId = get_or members n (record { 0 = 0 }) in
    let low : n < length members = omega arith in
    let count : c.len.result ≡ length least = search rules in
    let numbers = c.in_ok-push.ensures.items ∙ ap (λ k. c.loop-w.numbers.items ++ (k ∷ [])) count in
    record {
      least = leaders-next members least c.push_leader.new.least.items n x low refl c.in_ok-push_leader.ensures.own c.push_leader.ensures.other
          c.loop-w.invariant.least;
      places = subst (ArePlaces members (n + 1) c.push_leader.new.least.items) (sym numbers)
          (places-next members least c.push_leader.new.least.items n x low refl c.in_ok-push_leader.ensures.own c.push_leader.ensures.other
          c.loop-w.numbers.items c.loop-w.invariant.places);
    }

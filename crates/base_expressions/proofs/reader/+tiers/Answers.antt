use Rattle.std.proofs.Common.{◌∷◌, ◌∙◌, map, arith}
use Rattle.std.proofs.lemmas.List.{map-append}
use Rattle.base_reader.specs.Readings.{give}
use Rattle.base_reader.proofs.Exports.{loop-begun, optional_or-some, loop-grown}
use Rattle.base_expressions.specs.Reading.{list_of, below, list_step, inside}
use Rattle.base_expressions.proofs.Shrinks.{part-advances, shorter}
use Rattle.base_expressions.proofs.reader.+tiers.Goals as goal

pub read_joined-loop-behind-init : goal.read_joined-loop-behind-init
read_joined-loop-behind-init g t c =
    let lang = g.L.ExprLanguage in
    let part = below lang.tiers c.args.joint c.args.room (inside lang.tiers c.args.room) in record {
      some = omega (arith, c.in_ok-push.ensures.len);
      whole = rw (c.in_ok-push.ensures.items, c.new-parts.ensures.items)
          (loop-begun part (list_step (lang.tiers.mark c.args.joint) part) (λ value others. list_of (lang.tiers.joined c.args.joint) (value ∷ others))
          (map lang.token_of c.args.tokens.now) (lang.tree_of c.in_ok-first.first) (map lang.token_of c.in_ok-first.rest.now) c.in_ok-first.ensures);
    }

pub read_joined-loop-behind-smaller : goal.read_joined-loop-behind-smaller
read_joined-loop-behind-smaller g t c =
    let lang = g.L.ExprLanguage in
    shorter lang.token_of c.in_ok-part.behind.now c.loop-behind.rest.now
    (part-advances lang.tiers c.args.joint c.args.room (map lang.token_of c.loop-behind.rest.now) (lang.tree_of c.in_ok-part.part)
    (map lang.token_of c.in_ok-part.behind.now)
    (optional_or-some (lang.tiers.mark c.args.joint) (λ _. below lang.tiers c.args.joint c.args.room (inside lang.tiers c.args.room)) (give tt)
    (map lang.token_of c.loop-behind.rest.now) tt (map lang.token_of c.in-Some.behind.now) (lang.tree_of c.in_ok-part.part)
    (map lang.token_of c.in_ok-part.behind.now) c.in-Some.ensures c.in_ok-part.ensures))

pub read_joined-loop-behind-preserved : goal.read_joined-loop-behind-preserved
read_joined-loop-behind-preserved g t c =
    let lang = g.L.ExprLanguage in
    let part = below lang.tiers c.args.joint c.args.room (inside lang.tiers c.args.room) in record {
      some = omega (arith, c.in_ok-push-2.ensures.len);
      whole = rw (c.in_ok-push-2.ensures.items, map-append)
          (loop-grown (list_step (lang.tiers.mark c.args.joint) part) (part-advances lang.tiers c.args.joint c.args.room)
          (list_of (lang.tiers.joined c.args.joint)) (map lang.tree_of c.loop-behind.parts.items) (map lang.token_of c.loop-behind.rest.now)
          (lang.tree_of c.in_ok-part.part) (map lang.token_of c.in_ok-part.behind.now)
          (optional_or-some (lang.tiers.mark c.args.joint) (λ _. part) (give tt) (map lang.token_of c.loop-behind.rest.now) tt
          (map lang.token_of c.in-Some.behind.now) (lang.tree_of c.in_ok-part.part)
          (map lang.token_of c.in_ok-part.behind.now) c.in-Some.ensures c.in_ok-part.ensures))
          ∙ c.loop-behind.invariant.whole;
    }

-- Inner: the reading function of expressions makes what is meant of what is written.
use Rattle.std.proofs.Common.{◌≡◌, ℕ, zero, suc, List, [], ◌∷◌, map, refl, ap}
use Rattle.net_expressions.specs.Trees.{Expr, MoreExprs}
use Rattle.net_expressions.specs.Trees as trees
use Rattle.net_expressions.specs.Signs.{Sign, signed}
use Rattle.net_expressions.specs.Grammar.{Written, meant, all_meant}
use Rattle.net_expressions.specs.Reading.{exprs, writtens, expr_joined, written_joined, makes_expr, makes_written, Leaf, NameLeaf, BitLeaf, joint_sign}
use Rattle.net_expressions.specs.Reading.{tiers_of, expr}
use Rattle.net_expressions.proofs.Images.{Image, image-refuse, image-mapped, image-both, image-trail, image-optional_or, image-loop, image-choose}
use Rattle.base_expressions.specs.Reading.{Opening, Negates, Opens, IsLeaf, Rules, is_deep, opened, neg, list_of, list_step, listed, below, rules_of, inside}
use Rattle.base_expressions.specs.declared.language.Joint.{Joint}
use Rattle.base_expressions.specs.declared.language.Joint.TheVariants as joints
use Rattle.base_reader.specs.Readings.{Rule, give, both, trail, the, loop}

all-meant : (es : List Written) → all_meant (writtens es) ≡ exprs (map meant es)
all-meant [] = refl
all-meant (e ∷ others) = ap (MoreExprs (meant e)) (all-meant others)

joined-meant : (joint : Joint) (es : List Written) → meant (written_joined joint es) ≡ expr_joined joint (map meant es)
joined-meant joints.And es = ap trees.And (all-meant es)
joined-meant joints.Or es = ap trees.Or (all-meant es)

list-meant : (joint : Joint) (es : List Written) → meant (list_of (written_joined joint) es) ≡ list_of (expr_joined joint) (map meant es)
list-meant joint [] = joined-meant joint []
list-meant joint (e ∷ []) = refl
list-meant joint (e ∷ next ∷ others) = joined-meant joint (e ∷ next ∷ others)

module _ {K : Type 0} (sign : K → Sign) where
  record MeantRules (w : Rules K Written) (e : Rules K Expr) : Type 0 where
    part : Image meant w.part e.part
    whole : Image meant w.whole e.whole

  opened-meant : (o : Opening (Unit {0}) Leaf) (w : Rules K Written) (e : Rules K Expr) → MeantRules w e
      → Image meant (opened (tiers_of sign makes_written) o w) (opened (tiers_of sign makes_expr) o e)
  opened-meant Negates w e k tokens = image-mapped meant w.part e.part makes_written.negation meant trees.Not (λ a. refl) k.part tokens
  opened-meant (Opens b) w e k tokens =
      let closing = (tiers_of sign makes_written).closing b in
      image-mapped meant (trail w.whole (the closing)) (trail e.whole (the closing)) makes_written.round meant (λ e. e) (λ a. refl)
      (image-trail meant w.whole e.whole (the closing) k.whole) tokens
  opened-meant (IsLeaf (NameLeaf n)) w e k tokens = refl
  opened-meant (IsLeaf (BitLeaf b)) w e k tokens = refl

  neg-meant : (room : ℕ) (w : Rules K Written) (e : Rules K Expr) → MeantRules w e
      → Image meant (neg (tiers_of sign makes_written) room w) (neg (tiers_of sign makes_expr) room e)
  neg-meant room w e k =
      image-choose meant (tiers_of sign makes_written).opening is_deep room (λ o. opened (tiers_of sign makes_written) o w)
      (λ o. opened (tiers_of sign makes_expr) o e) (λ o. opened-meant o w e k)

  listed-meant : (joint : Joint) (w : Rule K Written) (e : Rule K Expr) → Image meant w e
      → Image meant (listed (signed sign (joint_sign joint)) (written_joined joint) w) (listed (signed sign (joint_sign joint)) (expr_joined joint) e)
  listed-meant joint w e k =
      let mark = signed sign (joint_sign joint) in
      image-mapped {A = Written × List Written} {B = Expr × List Expr} (λ v. (meant v.0, map meant v.1)) (both w (loop (list_step mark w)))
      (both e (loop (list_step mark e))) (λ found. list_of (written_joined joint) (found.0 ∷ found.1)) meant
      (λ found. list_of (expr_joined joint) (found.0 ∷ found.1)) (λ found. list-meant joint (found.0 ∷ found.1))
      (image-both meant w e (map meant) (loop (list_step mark w)) (loop (list_step mark e)) k
      (image-loop meant (list_step mark w) (list_step mark e) (image-optional_or meant mark w e (give tt) k)))

  rules-meant : (room : ℕ) (w : Rules K Written) (e : Rules K Expr) → MeantRules w e
      → MeantRules (rules_of (tiers_of sign makes_written) room w) (rules_of (tiers_of sign makes_expr) room e)
  rules-meant room w e k =
      let written = tiers_of sign makes_written in
      let plain = tiers_of sign makes_expr in
      let part = neg-meant room w e k in
      record {
        part = part;
        whole = listed-meant joints.Or (below written joints.Or room w) (below plain joints.Or room e)
            (listed-meant joints.And (neg written room w) (neg plain room e) part);
      }

  inside-meant : (room : ℕ) → MeantRules (inside (tiers_of sign makes_written) room) (inside (tiers_of sign makes_expr) room)
  inside-meant zero = record { part = image-refuse meant; whole = image-refuse meant }
  inside-meant (suc room) =
      rules-meant room (inside (tiers_of sign makes_written) room) (inside (tiers_of sign makes_expr) room) (inside-meant room)

  pub expr-meant : (room : ℕ) → Image meant (expr sign makes_written room) (expr sign makes_expr room)
  expr-meant room =
      (rules-meant room (inside (tiers_of sign makes_written) room) (inside (tiers_of sign makes_expr) room) (inside-meant room)).whole

-- Lines with one more point.
use Rattle.std.proofs.Common.{◌≡◌, ◌<◌, ◌+◌, ℕ, Bool, true, ◌&&◌, List, [], ◌∷◌, ◌++◌, length, get_or, take, Option, refl, sym, ap, subst, ◌∙◌, arith}
use Rattle.std.proofs.Math.Bool.{and-true}
use Rattle.std.proofs.lemmas.List.{append-nil, append_assoc, length-append, take_all, take_more, length-take-le}
use Rattle.std.proofs.lemmas.List.Folds.{list_all-append}
use Rattle.std.specs.List.{list_all}
use Rattle.est_ast.specs.FlatTrees.{Flat}
use Rattle.est_cover.specs.declared.points.Point.{Point}
use Rattle.est_cover.specs.Points.{points_of}
use Rattle.cec_prove_covers.specs.Coverings.{AreReaches, IsCoveringText, IsReach}
use Rattle.cec_prove_covers.specs.Lines.{Reach, covering_text, is_decided, point_text}
use Rattle.cec_prove_covers.specs.Stages.{IsCoveringPart}

reaches-more : (flat : Flat) (assumed : Option (List ℕ)) (number : ℕ) (reaches : List Reach) (r : Reach) → AreReaches flat assumed number reaches
    → IsReach flat assumed (number + length reaches) r → AreReaches flat assumed number (reaches ++ r ∷ [])
reaches-more flat assumed number [] r are is =
    (subst (λ k. IsReach flat assumed k r) (let e : number + 0 ≡ number = omega arith in e) is, tt)
reaches-more flat assumed number (q ∷ reaches) r are is = (
  are.0,
  reaches-more flat assumed (number + 1) reaches r are.1
      (subst (λ k. IsReach flat assumed k r) (let e : number + length (q ∷ reaches) ≡ number + 1 + length reaches = omega arith in e) is),
)

text-more : (source : List ℕ) (points : List Point) (reaches : List Reach) (point : Point) (r : Reach) → length points ≡ length reaches
    → covering_text source (points ++ point ∷ []) (reaches ++ r ∷ []) ≡ covering_text source points reaches ++ point_text source point r
text-more source [] [] point r same = append-nil (point_text source point r)
text-more source [] (q ∷ reaches) point r same = absurd (omega (arith, same))
text-more source (p ∷ points) [] point r same = absurd (omega (arith, same))
text-more source (p ∷ points) (q ∷ reaches) point r same =
    ap (λ t. point_text source p q ++ t) (text-more source points reaches point r (omega (arith, same)))
    ∙ sym (append_assoc (point_text source p q) (covering_text source points reaches) (point_text source point r))

pub part-none : (source : List ℕ) (flat : Flat) (assumed : Option (List ℕ)) (points : List Point) → IsCoveringPart source flat assumed points 0 [] true
part-none source flat assumed points =
    record { reaches = []; low = omega arith; count = refl; known = tt; written = refl; each_decided = refl }

pub part-more : (source : List ℕ) (flat : Flat) (assumed : Option (List ℕ)) (points : List Point) (number : ℕ) (text new : List ℕ)
    (whole sure : Bool) (point : Point) (r : Reach) → number < length points → point ≡ get_or points number point → IsReach flat assumed number r
    → new ≡ text ++ point_text source point r → sure ≡ (whole && is_decided r) → IsCoveringPart source flat assumed points number text whole
    → IsCoveringPart source flat assumed points (number + 1) new sure
part-more source flat assumed points number text new whole sure point r low at is grown both part = record {
  reaches = part.reaches ++ r ∷ [];
  low = omega (arith, low);
  count = length-append part.reaches (r ∷ []) ∙ ap (λ k. k + 1) part.count;
  known = reaches-more flat assumed 0 part.reaches r part.known
      (subst (λ k. IsReach flat assumed k r) (let e : number ≡ 0 + length part.reaches = omega (arith, part.count) in e) is);
  written = grown ∙ ap (λ t. t ++ point_text source point r) part.written
      ∙ sym (text-more source (take number points) part.reaches point r
      (omega (arith, part.count, length-take-le number points part.low)))
      ∙ ap (λ ps. covering_text source ps (part.reaches ++ r ∷ [])) (ap (λ p. take number points ++ p ∷ []) at ∙ sym (take_more points number point low));
  each_decided = both ∙ ap (λ b. b && is_decided r) part.each_decided ∙ ap (λ b. list_all is_decided part.reaches && b) (sym (and-true (is_decided r)))
      ∙ sym (list_all-append is_decided part.reaches (r ∷ []));
}

pub part-all : (source : List ℕ) (flat : Flat) (assumed : Option (List ℕ)) (points : List Point) (text : List ℕ) (whole : Bool) → points ≡ points_of flat
    → IsCoveringPart source flat assumed points (length points) text whole → IsCoveringText source flat assumed text whole
part-all source flat assumed points text whole is part = record {
  reaches = part.reaches;
  count = part.count ∙ ap length is;
  known = part.known;
  written = part.written ∙ ap (λ ps. covering_text source ps part.reaches) (take_all (length points) points (omega arith) ∙ is);
  each_decided = part.each_decided;
}

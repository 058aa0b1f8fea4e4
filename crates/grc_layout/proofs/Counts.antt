-- When instances are too many: with more of them behind, and after some that were appended.
use Rattle.std.proofs.Common.{◌≡◌, ◌+◌, List, [], ◌∷◌, ◌++◌, length, map, ap, ◌∙◌, arith, append_assoc, length-append}
use Rattle.std.proofs.lemmas.List.{length-map}
use Rattle.grc_graph.specs.Instances as plain
use Rattle.grc_graph.specs.Instances.{instances, instances_at}
use Rattle.grc_graph.specs.PlainInstances.{instance_of}
use Rattle.grc_graph.specs.declared.instances.Instance.{Instance}
use Rattle.grc_layout.specs.Copying.{Gains, IsTooMany, Reaches}
use Rattle.grc_layout.specs.declared.refusal.CopyFault.{CopyFault}
use Rattle.grc_layout.specs.declared.refusal.CopyFault.TheVariants.{TooManyInstances, NoMemory}

pub IsTooMany-append : (old : List Instance) (xs ys : List plain.Instance) (e : CopyFault) → IsTooMany old xs e → IsTooMany old (xs ++ ys) e
IsTooMany-append old xs ys TooManyInstances h = omega (arith, length-append xs ys)
IsTooMany-append old xs ys NoMemory h = tt

pub length-gained : (old new : List Instance) (xs : List plain.Instance) → Gains old new xs → length new ≡ length old + length xs
length-gained old new xs g =
    omega (arith, length-map new instance_of, length-map old instance_of, ap length g.list, length-append (map instance_of old) xs)

pub IsTooMany-after : (old new : List Instance) (xs ys : List plain.Instance) (e : CopyFault) → Gains old new xs → IsTooMany new ys e →
    IsTooMany old (xs ++ ys) e
IsTooMany-after old new xs ys TooManyInstances g h = omega (arith, length-append xs ys, length-gained old new xs g)
IsTooMany-after old new xs ys NoMemory g h = tt

pub Gains-append : (old mid new : List Instance) (xs ys : List plain.Instance) → Gains old mid xs → Gains mid new ys → Gains old new (xs ++ ys)
Gains-append old mid new xs ys g h = record {
  list = h.list ∙ ap (λ l. l ++ ys) g.list ∙ append_assoc (map instance_of old) xs ys;
  few = λ l. h.few (g.few l);
}

pub Reaches-more : (old mid new : List Instance) (all : List plain.Instance) (x : plain.Instance) (rest : List plain.Instance)
    → Reaches old mid all (x ∷ rest) → Gains mid new (x ∷ []) → Reaches old new all rest
Reaches-more old mid new all x rest r g = record {
  list = ap (λ l. l ++ rest) g.list ∙ append_assoc (map instance_of mid) (x ∷ []) rest ∙ r.list;
  few = λ l. g.few (r.few l);
}

-- too many with one more, of which others come
pub IsTooMany-reached : (old mid : List Instance) (all : List plain.Instance) (x : plain.Instance) (rest : List plain.Instance) (e : CopyFault)
    → Reaches old mid all (x ∷ rest) → IsTooMany mid (x ∷ []) e → IsTooMany old all e
IsTooMany-reached old mid all x rest TooManyInstances r h =
    omega (
      arith,
      ap length r.list,
      length-append (map instance_of mid) (x ∷ rest),
      length-append (map instance_of old) all,
      length-map mid instance_of,
      length-map old instance_of,
    )
IsTooMany-reached old mid all x rest NoMemory r h = tt

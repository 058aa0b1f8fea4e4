-- The shared instances of a graph by number.
use Rattle.std.proofs.Common.{◌≡◌, ℕ, ◌+◌, ◌<◌, ◌==◌, ◌≤◌, true, false, not, cond, List, [], ◌∷◌, ◌++◌, length, map, get_or, take, refl, sym}
use Rattle.std.proofs.Common.{ap, ◌∙◌, subst, ⊎_elim, arith}
use Rattle.std.specs.Prelude.{filter, slice_index}
use Rattle.std.proofs.Math.Seq.{get_or-append_seam}
use Rattle.std.proofs.lemmas.Bool.{cases_Bool, cases_eq, cases_lt, eq-eqb, ne_eqb}
use Rattle.std.proofs.lemmas.List.{get_or_append_left, length-append, length-map, length-take}
use Rattle.std.proofs.lemmas.List.Elements.{filter_more}
use Rattle.std.proofs.lemmas.List.Filters.{length-filter_both}
use Rattle.base_types.specs.declared.indices.InstId.{InstId}
use Rattle.est_kernel.specs.Plain.{program_of}
use Rattle.grc_graph.specs.declared.graph.Graph.{Graph}
use Rattle.grc_graph.specs.declared.instances.Instance as stored
use Rattle.grc_graph.specs.declared.neighbours.Neighbours.{Neighbours}
use Rattle.grc_graph.specs.Instances.{Instance}
use Rattle.grc_graph.specs.Layers.{Resumed, same_layer}
use Rattle.grc_graph.specs.Neighbouring.{instances_in, names_in}
use Rattle.grc_graph.specs.PlainGraphs.{instance_at, instances_of, names_of}
use Rattle.grc_graph.specs.PlainInstances.{instance_of}
use Rattle.grc_graph.specs.Wires.{Wire, Go}
use Rattle.grc_graph.specs.WireTables.{IsNumberOf}
use Rattle.grc_graph.proofs.Exports.{first_instance, name_at, place_once, same_layer-self, same_layer-true}
use Rattle.grc_share.specs.LeastMembers.{AreLeast, IsLeastMember, shared_of}
use Rattle.grc_share.specs.Renamings.{AreOwnPlaces, TellNamed, if_named, is_named}
use Rattle.grc_share.specs.SharedGraphs.{shared_instances}
use Rattle.grc_share.specs.SharedInstances.{Sharing, body_sharing}
use Rattle.grc_share.specs.SharedWires.{shared_layer}
use Rattle.grc_share.proofs.WireMembers.{layer-twice}

-- numbers stay where a list grows
pub number-left : {X : Type 0} (xs ys : List X) (i : ℕ) (x : X) → IsNumberOf xs i x → IsNumberOf (xs ++ ys) i x
number-left xs ys i x h = record {
  within = omega (arith, h.within, length-append xs ys);
  same = λ d. get_or_append_left xs ys d i h.within ∙ h.same d;
}

pub number-last : {X : Type 0} (xs : List X) (x : X) (n : ℕ) → length xs ≡ n → IsNumberOf (xs ++ (x ∷ [])) n x
number-last xs x n e = subst (λ k. IsNumberOf (xs ++ (x ∷ [])) k x) e (record {
  within = omega (arith, length-append xs (x ∷ []));
  same = λ d. get_or-append_seam xs x [] d;
})

-- what names a shared instance names itself
pub shared-named : (K : Sharing) (x : Instance) → is_named K (shared_of K x) ≡ true
shared-named K x = ap (λ l. same_layer l (shared_layer K x.path x.layer)) (layer-twice K x.path x.layer) ∙ same_layer-self (shared_layer K x.path x.layer)

pub named-itself : (K : Sharing) (x : Instance) → is_named K x ≡ true → shared_of K x ≡ x
named-itself K x h = λ t. record { path = x.path; layer = same_layer-true (shared_layer K x.path x.layer) x.layer h t }

module _ (g : Graph) where
  abbrev K : Sharing
  K = body_sharing (program_of g.program).body

  abbrev at : ℕ → Instance
  at i = instance_at (instances_of g) i

  -- the least member, by name
  pub least-names : (i : ℕ) (k : InstId) → i < length g.instances.list.items
      → IsLeastMember (body_sharing (program_of g.program).body) g.instances.list.items i k
      → IsNumberOf (instances_of g) k.0 (shared_of (body_sharing (program_of g.program).body) (instance_at (instances_of g) i))
  least-names i k low h =
      subst (λ x. IsNumberOf (instances_of g) k.0 (shared_of (body_sharing (program_of g.program).body) x))
      (sym (name_at g.instances.list.items i first_instance _ low)) (h first_instance)

  -- it is the instance itself exactly where that names its shared instance
  pub tells : (i : ℕ) (k : InstId) → i < length g.instances.list.items → IsLeastMember (body_sharing (program_of g.program).body) g.instances.list.items i k
      → (k.0 == i) ≡ is_named (body_sharing (program_of g.program).body) (instance_at (instances_of g) i)
  tells i k low h = ⊎_elim own other (cases_eq k.0 i)
    where
      number : IsNumberOf (instances_of g) k.0 (shared_of (body_sharing (program_of g.program).body) (instance_at (instances_of g) i))
      number = least-names i k low h

      own : k.0 ≡ i → (k.0 == i) ≡ is_named (body_sharing (program_of g.program).body) (instance_at (instances_of g) i)
      own e =
          let same = sym (number.same (record { path = 0; layer = Resumed })) ∙ ap (instance_at (instances_of g)) e in
          let x = instance_at (instances_of g) i in
          eq-eqb k.0 i e ∙ sym (ap (λ (z : Instance). same_layer z.layer x.layer) same ∙ same_layer-self x.layer)

      other : (k.0 ≡ i → ⊥) → (k.0 == i) ≡ is_named (body_sharing (program_of g.program).body) (instance_at (instances_of g) i)
      other apart =
          ne_eqb k.0 i apart
          ∙ sym (⊎_elim
          (λ t.
          let k-low : k.0 < length g.instances.list.items = omega (arith, number.within, length-map g.instances.list.items instance_of) in
          let same = number.same (record { path = 0; layer = Resumed })
          ∙ named-itself (body_sharing (program_of g.program).body) (instance_at (instances_of g) i) t in
          absurd (apart (place_once g.instances.list.items k.0 i g.tables.ascend k-low low same)))
          (λ f. f) (cases_Bool (is_named (body_sharing (program_of g.program).body) (instance_at (instances_of g) i))))

  pub tell-named : (least : List InstId) → length least ≡ length g.instances.list.items
      → AreLeast (body_sharing (program_of g.program).body) g.instances.list.items least
      → TellNamed (body_sharing (program_of g.program).body) (instances_of g) least
  tell-named least e are = record {
    each = e ∙ sym (length-map g.instances.list.items instance_of);
    named = λ i d l. tells i (get_or least i d) (omega (arith, l, e)) (are i d l);
  }

  -- ---- the instances that name their shared ones

  -- one more
  pub if-own : (i : ℕ) → is_named (body_sharing (program_of g.program).body) (instance_at (instances_of g) i) ≡ true
      → if_named (body_sharing (program_of g.program).body) (instance_at (instances_of g) i) ≡ instance_at (instances_of g) i ∷ []
  if-own i h = ap (λ b. cond b (instance_at (instances_of g) i ∷ []) []) h

  pub if-other : (i : ℕ) → is_named (body_sharing (program_of g.program).body) (instance_at (instances_of g) i) ≡ false
      → if_named (body_sharing (program_of g.program).body) (instance_at (instances_of g) i) ≡ []
  if-other i h = ap (λ b. cond b (instance_at (instances_of g) i ∷ []) []) h

  pub own-next : (n : ℕ) (list new : List stored.Instance) → n < length g.instances.list.items
      → map instance_of new ≡ map instance_of list ++ if_named (body_sharing (program_of g.program).body) (instance_at (instances_of g) n)
      → map instance_of list ≡ filter (is_named (body_sharing (program_of g.program).body)) (take n (instances_of g))
      → map instance_of new ≡ filter (is_named (body_sharing (program_of g.program).body)) (take (n + 1) (instances_of g))
  own-next n list new low e h =
      e ∙ ap (λ xs. xs ++ if_named (body_sharing (program_of g.program).body) (instance_at (instances_of g) n)) h
      ∙ sym (filter_more (is_named (body_sharing (program_of g.program).body)) (instances_of g) n (record { path = 0; layer = Resumed })
      (omega (arith, low, length-map g.instances.list.items instance_of)))

  -- there are no more of them than instances
  pub own-few : (n : ℕ) (list : List stored.Instance) → n ≤ length g.instances.list.items
      → map instance_of list ≡ filter (is_named (body_sharing (program_of g.program).body)) (take n (instances_of g)) → length list ≤ n
  own-few n list low e =
      let f = is_named (body_sharing (program_of g.program).body) in
      let xs = take n (instances_of g) in
      omega (
        arith,
        length-map list instance_of,
        ap length e,
        length-filter_both f (λ x. not (f x)) (λ x. refl) xs,
        length-take n (instances_of g),
        length-map g.instances.list.items instance_of,
        low,
      )

  pub places-next : (n : ℕ) (list new : List stored.Instance) (places : List ℕ) → length places ≡ n
      → map instance_of new ≡ map instance_of list ++ if_named (body_sharing (program_of g.program).body) (instance_at (instances_of g) n)
      → AreOwnPlaces (body_sharing (program_of g.program).body) (instances_of g) list places
      → AreOwnPlaces (body_sharing (program_of g.program).body) (instances_of g) new (places ++ (length list ∷ []))
  places-next n list new places each e h i l named = ⊎_elim before here (cases_lt i (length places))
    where
      before : i < length places → IsNumberOf (map instance_of new) (slice_index (places ++ (length list ∷ [])) i) (instance_at (instances_of g) i)
      before a =
          subst (λ k. IsNumberOf (map instance_of new) k (instance_at (instances_of g) i))
          (sym (get_or_append_left places (length list ∷ []) 0 i a))
          (subst (λ (xs : List Instance). IsNumberOf xs (slice_index places i) (instance_at (instances_of g) i)) (sym e)
          (number-left (map instance_of list) (if_named (body_sharing (program_of g.program).body) (instance_at (instances_of g) n)) (slice_index places i)
          (instance_at (instances_of g) i) (h i a named)))

      here : length places ≤ i → IsNumberOf (map instance_of new) (slice_index (places ++ (length list ∷ [])) i) (instance_at (instances_of g) i)
      here a =
          let z : i ≡ length places = omega (arith, a, l, length-append places (length list ∷ [])) in
          let y : i ≡ n = z ∙ each in
          let last = map instance_of list ++ (instance_at (instances_of g) i ∷ []) in
          let grown : map instance_of new ≡ last =
          e ∙ ap (λ k. map instance_of list ++ if_named (body_sharing (program_of g.program).body) (instance_at (instances_of g) k)) (sym y)
          ∙ ap (λ xs. map instance_of list ++ xs) (if-own i named) in
          subst (λ k. IsNumberOf (map instance_of new) k (instance_at (instances_of g) i))
          (sym (ap (slice_index (places ++ (length list ∷ []))) z ∙ get_or-append_seam places (length list) [] 0))
          (subst (λ (xs : List Instance). IsNumberOf xs (length list) (instance_at (instances_of g) i)) (sym grown)
          (number-last (map instance_of list) (instance_at (instances_of g) i) (length list) (length-map list instance_of)))

  -- the number of the shared instance of an instance, by the place of its least member
  pub number-at : (list : List stored.Instance) (places : List ℕ) (i : ℕ) (k : InstId) → i < length g.instances.list.items
      → IsLeastMember (body_sharing (program_of g.program).body) g.instances.list.items i k
      → map instance_of list ≡ shared_instances (program_of g.program) → length places ≡ length g.instances.list.items
      → AreOwnPlaces (body_sharing (program_of g.program).body) (instances_of g) list places
      → IsNumberOf (shared_instances (program_of g.program)) (slice_index places k.0)
      (shared_of (body_sharing (program_of g.program).body) (instance_at (instances_of g) i))
  number-at list places i k low h names each own =
      let number = least-names i k low h in
      let same = number.same (record { path = 0; layer = Resumed }) in
      let k-low : k.0 < length places = omega (arith, number.within, length-map g.instances.list.items instance_of, each) in
      let K = body_sharing (program_of g.program).body in
      subst (λ (xs : List Instance). IsNumberOf xs (slice_index places k.0) (shared_of K (instance_at (instances_of g) i))) names
      (subst (λ x. IsNumberOf (map instance_of list) (slice_index places k.0) x) same
      (own k.0 k-low (ap (is_named (body_sharing (program_of g.program).body)) same
      ∙ shared-named (body_sharing (program_of g.program).body) (instance_at (instances_of g) i))))

-- the `go` of an instance, as the tables of a graph have it
pub go-number : (g : Graph) (near : Neighbours) (i go : ℕ) → instances_in near ≡ instances_of g → names_in near ≡ names_of g
    → IsNumberOf (names_in near) go (Go (instance_at (instances_in near) i).path (instance_at (instances_in near) i).layer)
    → IsNumberOf (names_of g) go (Go (instance_at (instances_of g) i).path (instance_at (instances_of g) i).layer)
go-number g near i go e n h =
    subst (λ (xs : List Instance). IsNumberOf (names_of g) go (Go (instance_at xs i).path (instance_at xs i).layer)) e
    (subst (λ (ns : List Wire). IsNumberOf ns go (Go (instance_at (instances_in near) i).path (instance_at (instances_in near) i).layer)) n h)

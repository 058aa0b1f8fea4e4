-- In which layers the parts of a statement are live, from the positions that the walk gives them.
use Rattle.std.proofs.Common.{◌≡◌, ℕ, ◌+◌, ◌≤◌, Bool, true, false, ◌&&◌, ◌||◌, List, [], ◌∷◌, ◌++◌, length, map, drop, refl, sym, ap, ◌∙◌, subst, arith}
use Rattle.std.specs.Prelude.{if◌then◌else◌}
use Rattle.std.proofs.lemmas.List.{drop-append-le}
use Rattle.std.proofs.lemmas.List.{map-append}
use Rattle.std.proofs.lemmas.Simd.{map-map}
use Rattle.std.proofs.Math.Seq.{drop-append_seam}
use Rattle.est_kernel.specs.declared.code_lists.Codes.{Codes}
use Rattle.est_kernel.specs.Terms.{Term, Nothing, Pause, Emit, Exit, Present, Suspend, Seq, Loop, Par, Trap, Local, Awake}
use Rattle.est_kernel.specs.StaticCodes.{has_code, started_codes, resumed_codes}
use Rattle.grc_graph.specs.CodeTables.{CodesFrom, set_at}
use Rattle.grc_graph.proofs.Exports.{codes_at}
use Rattle.grc_graph.specs.Layers.{Resumed, Started, Liveness, body_liveness, root_if, part_liveness, second_liveness, loop_liveness}
use Rattle.grc_graph.specs.Instances as plain
use Rattle.grc_graph.specs.Instances.{instances, instances_at, body_instances}
use Rattle.grc_graph.specs.declared.instances.Instance.{Instance}
use Rattle.grc_layout.specs.declared.lists.Position.{Position}
use Rattle.grc_layout.specs.declared.refusal.CopyFault.{CopyFault}
use Rattle.grc_layout.specs.declared.refusal.CopyFault.TheVariants.{TooManyInstances, NoMemory}
use Rattle.grc_layout.specs.Faults.{FaultHasCause}
use Rattle.grc_layout.specs.Copying.{liveness_of, part_instances, starts, resumed_instances, Gains, IsTooMany}
use Rattle.grc_layout.proofs.Counts.{Gains-append, IsTooMany-append, IsTooMany-after}

-- a statement's own instances come first
pub too_many_at_first : (old : List Instance) (a : Liveness) (t : Term) (n : ℕ) (e : CopyFault) → IsTooMany old (instances_at a n) e →
    IsTooMany old (instances a t n) e
too_many_at_first old a Nothing n e h = h
too_many_at_first old a Pause n e h = h
too_many_at_first old a (Emit s) n e h = h
too_many_at_first old a (Exit k) n e h = h
too_many_at_first old a (Present x p q) n e h = IsTooMany-append old _ _ e h
too_many_at_first old a (Suspend x p) n e h = IsTooMany-append old _ _ e h
too_many_at_first old a (Seq p q) n e h = IsTooMany-append old _ _ e h
too_many_at_first old a (Loop at p) n e h = IsTooMany-append old _ _ e h
too_many_at_first old a (Par p q) n e h = IsTooMany-append old _ _ e h
too_many_at_first old a (Trap p) n e h = IsTooMany-append old _ _ e h
too_many_at_first old a (Local s p) n e h = IsTooMany-append old _ _ e h
too_many_at_first old a (Awake x p) n e h = IsTooMany-append old _ _ e h

-- a position that says where a part is live
pub record Shows (at : Position) (roots : List ℕ) (a : Liveness) (n : ℕ) : Type 0 where
  pub path : at.path ≡ n
  pub live : liveness_of at roots ≡ a

liveness_by : (at : Position) (roots : List ℕ) (a : Liveness) → at.resumed ≡ a.resumed → drop at.base roots ≡ a.roots → liveness_of at roots ≡ a
liveness_by at roots a r d = λ i. record { resumed = r i; roots = d i }

pub part_shows : (c : Codes) (at pos : Position) (roots : List ℕ) (p : Term) (n : ℕ)
    → CodesFrom c p n
    → pos.path ≡ n
    → pos.base ≡ at.base
    → pos.resumed ≡ (at.resumed && has_code (set_at c.resumed.items n))
    → Shows pos roots (part_liveness (liveness_of at roots) p) n
part_shows c at pos roots p n h e b r =
    let here = codes_at c p n h in
    record {
      path = e;
      live = liveness_by pos roots (part_liveness (liveness_of at roots) p)
          (r ∙ (λ i. at.resumed && has_code (here.resumed i)))
          (λ i. drop (b i) roots);
    }

drop_more : (base : ℕ) (roots more : List ℕ) → base ≤ length roots → drop base (roots ++ more) ≡ drop base roots ++ more
drop_more base roots more h = drop-append-le base roots more h

-- the roots of a second part: from those of the sequence, or none, and its own
second_roots : (b : Bool) (base : ℕ) (roots more : List ℕ) → base ≤ length roots
    → drop (if b then base else length roots) (roots ++ more) ≡ (if b then drop base roots else []) ++ more
second_roots true base roots more h = drop_more base roots more h
second_roots false base roots more h = drop-append_seam roots more

pub second_shows : (c : Codes) (at pos : Position) (roots roots' : List ℕ) (end next : ℕ) (holds : Bool) (p q : Term) (n m : ℕ)
    → CodesFrom c p (n + 1)
    → CodesFrom c q m
    → at.path ≡ n
    → next ≡ m
    → pos.path ≡ next
    → pos.base ≡ (if set_at c.started.items (at.path + 1) 0 then at.base else end)
    → pos.resumed ≡ (at.resumed
    && ((set_at c.started.items (at.path + 1) 0 || set_at c.resumed.items (at.path + 1) 0)
    && has_code (set_at c.resumed.items next)))
    → end ≡ length roots
    → at.base ≤ length roots
    → holds ≡ (at.resumed && set_at c.resumed.items (at.path + 1) 0)
    → roots' ≡ roots ++ root_if holds next
    → Shows pos roots' (second_liveness (liveness_of at roots) p q m) m
second_shows c at pos roots roots' end next holds p q n m hp hq en e v b r l w o s =
    let first = codes_at c p (n + 1) hp in
    let second = codes_at c q m hq in
    let ks : (λ k. set_at c.started.items (at.path + 1) k) ≡ started_codes p
    = (λ i. set_at c.started.items (en i + 1)) ∙ first.started in
    let kd : (λ k. set_at c.resumed.items (at.path + 1) k) ≡ resumed_codes p
    = (λ i. set_at c.resumed.items (en i + 1)) ∙ first.resumed in
    let kq : (λ k. set_at c.resumed.items next k) ≡ resumed_codes q
    = (λ i. set_at c.resumed.items (e i)) ∙ second.resumed in
    let own : roots' ≡ roots ++ root_if (at.resumed && resumed_codes p 0) m
    = s ∙ (λ i. roots ++ root_if (o i) (e i)) ∙ (λ i. roots ++ root_if (at.resumed && kd i 0) m) in
    record {
      path = v ∙ e;
      live = liveness_by pos roots' (second_liveness (liveness_of at roots) p q m)
          (r ∙ (λ i. at.resumed && ((ks i 0 || kd i 0) && has_code (kq i))))
          ((λ i. drop (b i) (own i))
          ∙ (λ i. drop (if ks i 0 then at.base else l i) (roots ++ root_if (at.resumed && resumed_codes p 0) m))
          ∙ second_roots (started_codes p 0) at.base roots (root_if (at.resumed && resumed_codes p 0) m) w);
    }

-- a loop's body is a part, once its own root stands behind the others
pub loop_instances : (c : Codes) (at : Position) (roots roots' : List ℕ) (holds : Bool) (p : Term) (n : ℕ)
    → CodesFrom c p n
    → at.base ≤ length roots
    → holds ≡ (at.resumed && set_at c.resumed.items n 0)
    → roots' ≡ roots ++ root_if holds n
    → part_instances (liveness_of at roots') p n ≡ instances (loop_liveness (liveness_of at roots) p n) p n
loop_instances c at roots roots' holds p n h w o s =
    let here = codes_at c p n h in
    let own : drop at.base roots' ≡ drop at.base roots ++ root_if (at.resumed && resumed_codes p 0) n
    = (λ i. drop at.base (s i))
    ∙ (λ i. drop at.base (roots ++ root_if (o i) n))
    ∙ (λ i. drop at.base (roots ++ root_if (at.resumed && here.resumed i 0) n))
    ∙ drop_more at.base roots (root_if (at.resumed && resumed_codes p 0) n) w in
    λ i. instances (record { resumed = at.resumed && has_code (resumed_codes p); roots = own i }) p n

-- what a walk over a part says, in the part's own terms
pub gains_at : (old new : List Instance) (at : Position) (roots : List ℕ) (k p : Term) (a : Liveness) (n : ℕ)
    → Shows at roots a n
    → k ≡ p
    → Gains old new (instances (liveness_of at roots) k at.path)
    → Gains old new (instances a p n)
gains_at old new at roots k p a n s e g = subst (λ l. Gains old new l) (λ i. instances (s.live i) (e i) (s.path i)) g

pub too_many_at : (old : List Instance) (at : Position) (roots : List ℕ) (k p : Term) (a : Liveness) (n : ℕ) (f : CopyFault)
    → Shows at roots a n
    → k ≡ p
    → IsTooMany old (instances (liveness_of at roots) k at.path) f
    → IsTooMany old (instances a p n) f
too_many_at old at roots k p a n f s e g = subst (λ l. IsTooMany old l f) (λ i. instances (s.live i) (e i) (s.path i)) g

-- what is appended behind, where both and the later have other names
pub gains_then : (old mid new : List Instance) (own more more' all : List plain.Instance)
    → all ≡ own ++ more
    → more' ≡ more
    → Gains old mid own
    → Gains mid new more'
    → Gains old new all
gains_then old mid new own more more' all e f g h =
    subst (λ l. Gains old new l) (sym e) (Gains-append old mid new own more g (subst (λ l. Gains mid new l) f h))

pub too_many_then : (old mid : List Instance) (own more more' all : List plain.Instance) (f : CopyFault)
    → all ≡ own ++ more
    → more' ≡ more
    → Gains old mid own
    → IsTooMany mid more' f
    → IsTooMany old all f
too_many_then old mid own more more' all f e g h k =
    subst (λ l. IsTooMany old l f) (sym e) (IsTooMany-after old mid own more f h (subst (λ l. IsTooMany mid l f) g k))

pub too_many_in_first : (old mid : List Instance) (own first first' second all : List plain.Instance) (f : CopyFault)
    → all ≡ own ++ (first ++ second)
    → first' ≡ first
    → Gains old mid own
    → IsTooMany mid first' f
    → IsTooMany old all f
too_many_in_first old mid own first first' second all f e g h k =
    too_many_then old mid own (first ++ second) (first ++ second) all f e refl h
    (IsTooMany-append mid first second f (subst (λ l. IsTooMany mid l f) g k))

-- the resumed instance comes before the started ones
pub instances_in_order : (a : Liveness) (n : ℕ) → resumed_instances n a.resumed ++ starts n a.roots ≡ instances_at a n
instances_in_order a n =
    ap (λ l. resumed_instances n a.resumed ++ l) (sym (map-map (λ l. record { path = n; layer = l }) Started a.roots))
    ∙ sym (map-append (λ l. record { path = n; layer = l }) (if a.resumed then Resumed ∷ [] else []) (map Started a.roots))

-- where a body is live
pub body_shows : (b : Bool) (A : ℕ → Bool) (roots : List ℕ) (body : Term)
    → b ≡ has_code A
    → A ≡ resumed_codes body
    → roots ≡ 0 ∷ []
    → Shows (record { path = 0; resumed = b; base = 0 }) roots (body_liveness body) 0
body_shows b A roots body h e r = record {
  path = refl;
  live = λ i. record { resumed = (h ∙ λ j. has_code (e j)) i; roots = r i };
}

-- the fault of a walk that began with no instance
pub fault_of : (old : List Instance) (body : Term) (f : CopyFault) → old ≡ [] → IsTooMany old (body_instances body) f → FaultHasCause body f
fault_of old body TooManyInstances e h = omega (arith, ap length e)
fault_of old body NoMemory e h = tt

-- From a statement's place the child numbers on the way up to the body are its path, from the last step to the first.
use Rattle.std.proofs.Common.{◌≡◌, ℕ, zero, suc, ◌+◌, ◌-◌, ◌<◌, ◌≤◌, List, [], ◌∷◌, ◌++◌, map, length, get_or, refl, ap, sym, subst, ◌∙◌, arith}
use Rattle.std.proofs.Common.{append_assoc, length-append, ⊎_elim}
use Rattle.std.specs.Prelude.{Option}
use Rattle.std.proofs.lemmas.Bool.{cases_lt}
use Rattle.std.proofs.lemmas.List.{get_or_append_left, get_or-append-add, get_or-map, length-map, map-append}
use Rattle.est_kernel.specs.Terms.{Term, Nothing, Pause, Emit, Exit, Present, Suspend, Seq, Loop, Par, Trap, Local, Awake}
use Rattle.est_kernel.specs.Preorder.{statement_count, preorder}
use Rattle.grc_graph.specs.WireNames.{below, paths, path_at, bound_signal, bound_at}
use Rattle.grc_graph.proofs.Exports.{long_one, long_two, long_below, length-paths, length-preorder, first_path}
use Rattle.grc_list.specs.Places.{Place, place, places, body_places}

-- ---- lengths

one_place : (x : Place) (p : Term) (n : ℕ) → length (places n 0 p (n + 1)) ≡ statement_count p → length (x ∷ places n 0 p (n + 1)) ≡ 1 + statement_count p
one_place x p n e = long_one x (places n 0 p (n + 1)) _ e

two_places : (x : Place) (p q : Term) (n : ℕ) → length (places n 0 p (n + 1)) ≡ statement_count p
    → length (places n 1 q (n + (1 + statement_count p))) ≡ statement_count q
    → length (x ∷ (places n 0 p (n + 1) ++ places n 1 q (n + (1 + statement_count p)))) ≡ 1 + statement_count p + statement_count q
two_places x p q n e f = long_two x (places n 0 p (n + 1)) (places n 1 q (n + (1 + statement_count p))) _ _ e f

pub length-places : (a c : ℕ) (t : Term) (n : ℕ) → length (places a c t n) ≡ statement_count t
length-places a c (Present e p q) n =
    two_places (place a c (Present e p q)) p q n (length-places n 0 p (n + 1)) (length-places n 1 q (n + (1 + statement_count p)))
length-places a c (Suspend e p) n = one_place (place a c (Suspend e p)) p n (length-places n 0 p (n + 1))
length-places a c (Seq p q) n =
    two_places (place a c (Seq p q)) p q n (length-places n 0 p (n + 1)) (length-places n 1 q (n + (1 + statement_count p)))
length-places a c (Loop at p) n = one_place (place a c (Loop at p)) p n (length-places n 0 p (n + 1))
length-places a c (Par p q) n =
    two_places (place a c (Par p q)) p q n (length-places n 0 p (n + 1)) (length-places n 1 q (n + (1 + statement_count p)))
length-places a c (Trap p) n = one_place (place a c (Trap p)) p n (length-places n 0 p (n + 1))
length-places a c (Local s p) n = one_place (place a c (Local s p)) p n (length-places n 0 p (n + 1))
length-places a c (Awake e p) n = one_place (place a c (Awake e p)) p n (length-places n 0 p (n + 1))
length-places a c _ n = refl

-- ---- the first place is that of the statement itself

first_place : (a c : ℕ) (t : Term) (n : ℕ) (d : Place) → get_or (places a c t n) 0 d ≡ place a c t
first_place a c Nothing n d = refl
first_place a c _ n d = refl

-- ---- each other place leads to one before it

-- the place of the statement at j leads to one before it, where the numbers begin at n
record Climb (whole : List (List ℕ)) (n j : ℕ) (x : Place) : Type 0 where
  pub from : ℕ
  pub before : from < j
  pub parent : x.parent ≡ n + from
  pub path : get_or whole j [] ≡ get_or whole from [] ++ x.child ∷ []

-- so do all places of a statement but the first
record Climbs (a c : ℕ) (t : Term) (n : ℕ) : Type 0 where
  pub each : (j : ℕ) (d : Place) → 0 < j → j < statement_count t → Climb (paths t) n j (get_or (places a c t n) j d)

-- a part with the child number c stands at o in the whole
record PartAt (whole : List (List ℕ)) (c : ℕ) (p : Term) (o : ℕ) : Type 0 where
  pub behind : 0 < o
  pub first : get_or whole 0 [] ≡ []
  pub each : (m : ℕ) → m < statement_count p → get_or whole (o + m) [] ≡ c ∷ get_or (paths p) m []

climb_part : (whole : List (List ℕ)) (p : Term) (c n o i : ℕ) (d : Place) → PartAt whole c p o → Climbs n c p (n + o) → i < statement_count p
    → Climb whole n (o + i) (get_or (places n c p (n + o)) i d)
climb_part whole p c n o zero d at inner low =
    subst (λ x. Climb whole n (o + 0) x) (sym (first_place n c p (n + o) d)) (record {
      from = 0;
      before = omega (arith, at.behind);
      parent = omega arith;
      path = at.each 0 low ∙ ap (λ l. c ∷ l) (first_path p) ∙ ap (λ l. l ++ c ∷ []) (sym at.first);
    })
climb_part whole p c n o (suc i) d at inner low =
    let up = inner.each (suc i) d (omega arith) low in
    let x = get_or (places n c p (n + o)) (suc i) d in
    record {
      from = o + up.from;
      before = omega (arith, up.before);
      parent = omega (arith, up.parent);
      path = at.each (suc i) low ∙ ap (λ l. c ∷ l) up.path ∙ ap (λ l. l ++ x.child ∷ []) (sym (at.each up.from (omega (arith, up.before, low))));
    }

part_one : (p : Term) → PartAt ([] ∷ below 0 (paths p)) 0 p 1
part_one p = record {
  behind = omega arith;
  first = refl;
  each = λ m h.
      let e : 1 + m ≡ suc m = omega arith in
      ap (λ k. get_or ([] ∷ below 0 (paths p)) k []) e ∙ get_or-map (λ path. 0 ∷ path) (paths p) m [] [] (omega (arith, length-paths p, h));
}

part_first : (p q : Term) → PartAt ([] ∷ (below 0 (paths p) ++ below 1 (paths q))) 0 p 1
part_first p q = record {
  behind = omega arith;
  first = refl;
  each = λ m h.
      let e : 1 + m ≡ suc m = omega arith in
      ap (λ k. get_or ([] ∷ (below 0 (paths p) ++ below 1 (paths q))) k []) e
      ∙ get_or_append_left (below 0 (paths p)) (below 1 (paths q)) [] m (omega (arith, long_below 0 (paths p) _ (length-paths p), h))
      ∙ get_or-map (λ path. 0 ∷ path) (paths p) m [] [] (omega (arith, length-paths p, h));
}

part_second : (p q : Term) → PartAt ([] ∷ (below 0 (paths p) ++ below 1 (paths q))) 1 q (1 + statement_count p)
part_second p q = record {
  behind = omega arith;
  first = refl;
  each = λ m h.
      let e : (1 + statement_count p) + m ≡ suc (length (below 0 (paths p)) + m) = omega (arith, long_below 0 (paths p) _ (length-paths p)) in
      ap (λ k. get_or ([] ∷ (below 0 (paths p) ++ below 1 (paths q))) k []) e
      ∙ get_or-append-add (below 0 (paths p)) (below 1 (paths q)) m []
      ∙ get_or-map (λ path. 1 ∷ path) (paths q) m [] [] (omega (arith, length-paths q, h));
}

climb_one : (x : Place) (p : Term) (n : ℕ) → Climbs n 0 p (n + 1) → (j : ℕ) (d : Place) → 0 < j → j < 1 + statement_count p
    → Climb ([] ∷ below 0 (paths p)) n j (get_or (x ∷ places n 0 p (n + 1)) j d)
climb_one x p n inner zero d h low = absurd (omega (arith, h))
climb_one x p n inner (suc i) d h low =
    let e : 1 + i ≡ suc i = omega arith in
    subst (λ j. Climb ([] ∷ below 0 (paths p)) n j (get_or (places n 0 p (n + 1)) i d)) e
    (climb_part _ p 0 n 1 i d (part_one p) inner (omega (arith, low)))

climb_two : (x : Place) (p q : Term) (n : ℕ) → Climbs n 0 p (n + 1) → Climbs n 1 q (n + (1 + statement_count p)) → (j : ℕ) (d : Place) → 0 < j
    → j < 1 + statement_count p + statement_count q
    → Climb ([] ∷ (below 0 (paths p) ++ below 1 (paths q))) n j (get_or (x ∷ (places n 0 p (n + 1) ++ places n 1 q (n + (1 + statement_count p)))) j d)
climb_two x p q n one two zero d h low = absurd (omega (arith, h))
climb_two x p q n one two (suc i) d h low = ⊎_elim left right (cases_lt i (statement_count p))
  where
    whole : List (List ℕ)
    whole = [] ∷ (below 0 (paths p) ++ below 1 (paths q))

    ps : List Place
    ps = places n 0 p (n + 1)

    qs : List Place
    qs = places n 1 q (n + (1 + statement_count p))

    left : i < statement_count p → Climb whole n (suc i) (get_or (ps ++ qs) i d)
    left l =
        let e : 1 + i ≡ suc i = omega arith in
        subst (λ j. Climb whole n j (get_or (ps ++ qs) i d)) e
        (subst (λ y. Climb whole n (1 + i) y) (sym (get_or_append_left ps qs d i (omega (arith, length-places n 0 p (n + 1), l))))
        (climb_part whole p 0 n 1 i d (part_first p q) one l))

    right : statement_count p ≤ i → Climb whole n (suc i) (get_or (ps ++ qs) i d)
    right l =
        let k = i - statement_count p in
        let at : (1 + statement_count p) + k ≡ suc i = omega arith in
        let there : length ps + k ≡ i = omega (arith, length-places n 0 p (n + 1)) in
        subst (λ j. Climb whole n j (get_or (ps ++ qs) i d)) at
        (subst (λ y. Climb whole n ((1 + statement_count p) + k) y) (sym (get_or-append-add ps qs k d) ∙ ap (λ m. get_or (ps ++ qs) m d) there)
        (climb_part whole q 1 n (1 + statement_count p) k d (part_second p q) two (omega (arith, low))))

climbs : (a c : ℕ) (t : Term) (n : ℕ) → Climbs a c t n
climbs a c (Present e p q) n = record { each = climb_two _ p q n (climbs n 0 p (n + 1)) (climbs n 1 q (n + (1 + statement_count p))) }
climbs a c (Suspend e p) n = record { each = climb_one _ p n (climbs n 0 p (n + 1)) }
climbs a c (Seq p q) n = record { each = climb_two _ p q n (climbs n 0 p (n + 1)) (climbs n 1 q (n + (1 + statement_count p))) }
climbs a c (Loop at p) n = record { each = climb_one _ p n (climbs n 0 p (n + 1)) }
climbs a c (Par p q) n = record { each = climb_two _ p q n (climbs n 0 p (n + 1)) (climbs n 1 q (n + (1 + statement_count p))) }
climbs a c (Trap p) n = record { each = climb_one _ p n (climbs n 0 p (n + 1)) }
climbs a c (Local s p) n = record { each = climb_one _ p n (climbs n 0 p (n + 1)) }
climbs a c (Awake e p) n = record { each = climb_one _ p n (climbs n 0 p (n + 1)) }
climbs a c _ n = record { each = λ j d h low. absurd (omega (arith, h, low)) }

-- a place of a body leads to one before it, whose path is the same without the last step
pub record LeadsUp (body : Term) (j : ℕ) (x : Place) : Type 0 where
  pub before : x.parent < j
  pub path : path_at body j ≡ path_at body x.parent ++ x.child ∷ []

pub leads_up : (body : Term) (j : ℕ) (d : Place) → 0 < j → j < statement_count body → LeadsUp body j (get_or (body_places body) j d)
leads_up body j d h low =
    let up = (climbs 0 0 body 0).each j d h low in
    let x = get_or (body_places body) j d in
    let e : x.parent ≡ up.from = omega (arith, up.parent) in
    record { before = omega (arith, up.before, e); path = up.path ∙ ap (λ k. path_at body k ++ x.child ∷ []) (sym e) }

-- ---- the signals that are bound

bound_two : (b : Option ℕ) (xs ys : List Place) (ps qs : List Term) → map (λ x. x.bound) xs ≡ map bound_signal ps → map (λ x. x.bound) ys ≡ map bound_signal qs
    → b ∷ map (λ x. x.bound) (xs ++ ys) ≡ b ∷ map bound_signal (ps ++ qs)
bound_two b xs ys ps qs e f =
    ap (λ l. b ∷ l) (map-append (λ (x : Place). x.bound) xs ys ∙ ap (λ l. l ++ map (λ x. x.bound) ys) e ∙ ap (λ l. map bound_signal ps ++ l) f
    ∙ sym (map-append bound_signal ps qs))

bounds : (a c : ℕ) (t : Term) (n : ℕ) → map (λ x. x.bound) (places a c t n) ≡ map bound_signal (preorder t)
bounds a c (Present e p q) n = bound_two _ _ _ (preorder p) (preorder q) (bounds n 0 p (n + 1)) (bounds n 1 q (n + (1 + statement_count p)))
bounds a c (Suspend e p) n = ap (λ l. bound_signal (Suspend e p) ∷ l) (bounds n 0 p (n + 1))
bounds a c (Seq p q) n = bound_two _ _ _ (preorder p) (preorder q) (bounds n 0 p (n + 1)) (bounds n 1 q (n + (1 + statement_count p)))
bounds a c (Loop at p) n = ap (λ l. bound_signal (Loop at p) ∷ l) (bounds n 0 p (n + 1))
bounds a c (Par p q) n = bound_two _ _ _ (preorder p) (preorder q) (bounds n 0 p (n + 1)) (bounds n 1 q (n + (1 + statement_count p)))
bounds a c (Trap p) n = ap (λ l. bound_signal (Trap p) ∷ l) (bounds n 0 p (n + 1))
bounds a c (Local s p) n = ap (λ l. bound_signal (Local s p) ∷ l) (bounds n 0 p (n + 1))
bounds a c (Awake e p) n = ap (λ l. bound_signal (Awake e p) ∷ l) (bounds n 0 p (n + 1))
bounds a c _ n = refl

pub bound_at-place : (body : Term) (j : ℕ) (d : Place) → j < statement_count body → (get_or (body_places body) j d).bound ≡ bound_at body j
bound_at-place body j d low =
    sym (get_or-map (λ (x : Place). x.bound) (body_places body) j d d.bound (omega (arith, length-places 0 0 body 0, low)))
    ∙ ap (λ l. get_or l j d.bound) (bounds 0 0 body 0)
    ∙ get_or-map bound_signal (preorder body) j Nothing d.bound (omega (arith, length-preorder body, low))

-- ---- the list of the program

-- where a statement with these two parts was appended, and then the parts
pub two_behind : (old l1 l2 l3 : List Place) (a c n k1 k2 : ℕ) (t p q : Term) → l1 ≡ old ++ place a c t ∷ [] → n ≡ length old → k1 ≡ length l1 → k2 ≡ length l2
    → l2 ≡ l1 ++ places n 0 p k1 → l3 ≡ l2 ++ places n 1 q k2
    → places a c t n ≡ place a c t ∷ (places n 0 p (n + 1) ++ places n 1 q (n + (1 + statement_count p))) → l3 ≡ old ++ places a c t n
two_behind old l1 l2 l3 a c n k1 k2 t p q e1 o f1 f2 e2 e3 whole =
    let m1 : k1 ≡ n + 1 = omega (arith, o, f1, ap length e1, length-append old (place a c t ∷ [])) in
    let m2 : k2 ≡ n + (1 + statement_count p) =
    omega (arith, o, f2, m1, f1, ap length e2, length-append l1 (places n 0 p k1), length-places n 0 p k1) in
    e3 ∙ ap (λ l. l ++ places n 1 q k2) (e2 ∙ ap (λ l. l ++ places n 0 p k1) e1)
    ∙ append_assoc (old ++ place a c t ∷ []) (places n 0 p k1) (places n 1 q k2) ∙ append_assoc old (place a c t ∷ []) (places n 0 p k1 ++ places n 1 q k2)
    ∙ ap (λ k. old ++ (place a c t ∷ (places n 0 p k ++ places n 1 q k2))) m1
    ∙ ap (λ k. old ++ (place a c t ∷ (places n 0 p (n + 1) ++ places n 1 q k))) m2
    ∙ ap (λ l. old ++ l) (sym whole)

-- the places of a body are as many as its statements
pub length-body_places : {X : Type 0} (f : X → Place) (list : List X) (body : Term) → map f list ≡ body_places body → length list ≡ statement_count body
length-body_places f list body e = sym (length-map list f) ∙ ap length e ∙ length-places 0 0 body 0

-- a place of the list is that of the body
pub place_in : {X : Type 0} (f : X → Place) (list : List X) (body : Term) (n : ℕ) (x : X) → map f list ≡ body_places body → n < length list
    → x ≡ get_or list n x → f x ≡ get_or (body_places body) n (f x)
place_in f list body n x e low at = ap f at ∙ sym (get_or-map f list n x (f x) low) ∙ ap (λ l. get_or l n (f x)) e

pub place_leads_up : {X : Type 0} (f : X → Place) (list : List X) (body : Term) (n : ℕ) (x : X) → map f list ≡ body_places body → 0 < n → n < length list
    → x ≡ get_or list n x → LeadsUp body n (f x)
place_leads_up f list body n x e h low at =
    subst (LeadsUp body n) (sym (place_in f list body n x e low at)) (leads_up body n (f x) h (omega (arith, low, length-body_places f list body e)))

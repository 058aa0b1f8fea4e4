-- The leaves of a body's selection tree are the pauses whose resumed instance is live.
use Rattle.std.proofs.Common.{◌≡◌, ℕ, ◌+◌, Bool, true, false, ◌&&◌, List, [], ◌∷◌, ◌++◌, map, get_or, refl, sym, ap, ◌∙◌, subst}
use Rattle.std.specs.Prelude.{if◌then◌else◌, filter}
use Rattle.std.proofs.lemmas.List.{map-append, append-nil}
use Rattle.std.proofs.lemmas.Bool.{false≢true}
use Rattle.std.proofs.lemmas.List.Elements.{filter-append}
use Rattle.est_kernel.specs.Terms.{Term, Nothing, Pause, Present, Suspend, Seq, Loop, Par, Trap, Local, Awake}
use Rattle.est_kernel.specs.Preorder.{statement_count, preorder}
use Rattle.est_kernel.proofs.Exports.{length-preorder}
use Rattle.grc_graph.specs.Layers.{Resumed, Started, Liveness, part_liveness, second_liveness, loop_liveness, body_liveness}
use Rattle.grc_graph.specs.Instances.{Instance, instances_at, instances}
use Rattle.grc_graph.specs.Selected.{HasExitCodes}
use Rattle.grc_graph.specs.SelectionTrees.{leaf_paths, resumes, second_resumes}
use Rattle.grc_graph.specs.InstanceLaws.{is_pause, is_resumed_pause, LeavesAreResumedPauses}
use Rattle.grc_graph.proofs.CodeReads.{StandsAt, stands_whole, stands_head, stands_tail, stands_left, stands_right}
use Rattle.grc_graph.proofs.LiveInstances.{at_layer, split_layers}
use Rattle.grc_graph.proofs.TreeSelections.{leaves_none}

-- the paths of the resumed pauses among these instances
abbrev pauses : Term → List Instance → List ℕ
pauses body xs = map (λ x. x.path) (filter (is_resumed_pause body) xs)

pauses-append : (body : Term) (xs ys : List Instance) → pauses body (xs ++ ys) ≡ pauses body xs ++ pauses body ys
pauses-append body xs ys =
    ap (λ l. map (λ x. x.path) l) (filter-append (is_resumed_pause body) xs ys)
    ∙ map-append (λ x. x.path) (filter (is_resumed_pause body) xs) (filter (is_resumed_pause body) ys)

started_none : (body : Term) (n : ℕ) (roots : List ℕ) → filter (is_resumed_pause body) (map (λ r. at_layer n (Started r)) roots) ≡ []
started_none body n [] = refl
started_none body n (r ∷ rs) = started_none body n rs

-- of the instances of one statement
resumed_found : (body : Term) (b : Bool) (n : ℕ) → filter (is_resumed_pause body) (map (at_layer n) (if b then Resumed ∷ [] else []))
    ≡ (if b then (if is_pause (get_or (preorder body) n Nothing) then at_layer n Resumed ∷ [] else []) else [])
resumed_found body true n = refl
resumed_found body false n = refl

path_if : (b c : Bool) (n : ℕ) → map (λ x. x.path) (if b then (if c then at_layer n Resumed ∷ [] else []) else []) ≡
    (if b then (if c then n ∷ [] else []) else [])
path_if true true n = refl
path_if true false n = refl
path_if false c n = refl

here_found : (body : Term) (a : Liveness) (t : Term) (n : ℕ) → get_or (preorder body) n Nothing ≡ t
    → pauses body (instances_at a n) ≡ (if a.resumed then (if is_pause t then n ∷ [] else []) else [])
here_found body a t n e =
    ap (λ l. pauses body l) (sym (split_layers a n))
    ∙ pauses-append body (map (at_layer n) (if a.resumed then Resumed ∷ [] else [])) (map (λ r. at_layer n (Started r)) a.roots)
    ∙ (λ i. map (λ x. x.path) (resumed_found body a.resumed n i) ++ map (λ x. x.path) (started_none body n a.roots i))
    ∙ append-nil _
    ∙ path_if a.resumed (is_pause (get_or (preorder body) n Nothing)) n
    ∙ ap (λ t. if a.resumed then (if is_pause t then n ∷ [] else []) else []) e

nothing_if : (b c : Bool) (n : ℕ) → c ≡ false → (if b then (if c then n ∷ [] else []) else []) ≡ []
nothing_if true true n h = absurd (false≢true (sym h))
nothing_if true false n h = refl
nothing_if false c n h = refl

-- what the parts of a statement give
parts_if : (b : Bool) (r s : Bool) (p q : Term) (n m : ℕ)
    → leaf_paths (b && r) p n ++ leaf_paths (b && s) q m ≡ (if b then leaf_paths r p n ++ leaf_paths s q m else [])
parts_if true r s p q n m = refl
parts_if false r s p q n m = λ i. leaves_none p n i ++ leaves_none q m i

part_if : (b r : Bool) (p : Term) (n : ℕ) → leaf_paths (b && r) p n ≡ (if b then leaf_paths r p n else [])
part_if true r p n = refl
part_if false r p n = leaves_none p n

one_found : (body : Term) (a b : Liveness) (t p : Term) (n : ℕ) (r : Bool)
    → preorder t ≡ t ∷ preorder p
    → StandsAt (preorder body) n (preorder t)
    → is_pause t ≡ false
    → b.resumed ≡ (a.resumed && r)
    → instances a t n ≡ instances_at a n ++ instances b p (n + 1)
    → leaf_paths a.resumed t n ≡ (if a.resumed then leaf_paths r p (n + 1) else [])
    → (StandsAt (preorder body) (n + 1) (preorder p) → leaf_paths b.resumed p (n + 1) ≡ pauses body (instances b p (n + 1)))
    → leaf_paths a.resumed t n ≡ pauses body (instances a t n)
one_found body a b t p n r o h np e i l f =
    let s = subst (λ l. StandsAt (preorder body) n l) o h in
    l ∙ sym (part_if a.resumed r p (n + 1)) ∙ ap (λ v. leaf_paths v p (n + 1)) (sym e) ∙ f (stands_tail (preorder body) n t (preorder p) s)
    ∙ ap (λ v. v ++ pauses body (instances b p (n + 1)))
    (sym (here_found body a t n (stands_head (preorder body) n t Nothing (preorder p) s) ∙ nothing_if a.resumed (is_pause t) n np))
    ∙ sym (pauses-append body (instances_at a n) (instances b p (n + 1))) ∙ ap (λ v. pauses body v) (sym i)

two_found : (body : Term) (a b c : Liveness) (t p q : Term) (n : ℕ) (r s : Bool)
    → preorder t ≡ t ∷ (preorder p ++ preorder q)
    → StandsAt (preorder body) n (preorder t)
    → is_pause t ≡ false
    → b.resumed ≡ (a.resumed && r)
    → c.resumed ≡ (a.resumed && s)
    → instances a t n ≡ instances_at a n ++ (instances b p (n + 1) ++ instances c q (n + 1 + statement_count p))
    → leaf_paths a.resumed t n ≡ (if a.resumed then leaf_paths r p (n + 1) ++ leaf_paths s q (n + 1 + statement_count p) else [])
    → (StandsAt (preorder body) (n + 1) (preorder p) → leaf_paths b.resumed p (n + 1) ≡ pauses body (instances b p (n + 1)))
    → (StandsAt (preorder body) (n + 1 + statement_count p) (preorder q)
    → leaf_paths c.resumed q (n + 1 + statement_count p) ≡ pauses body (instances c q (n + 1 + statement_count p)))
    → leaf_paths a.resumed t n ≡ pauses body (instances a t n)
two_found body a b c t p q n r s o h np e k i l f g =
    let m = n + 1 + statement_count p in
    let P = instances b p (n + 1) in
    let Q = instances c q m in
    let w = subst (λ l. StandsAt (preorder body) n l) o h in
    let parts = stands_tail (preorder body) n t (preorder p ++ preorder q) w in
    l ∙ sym (parts_if a.resumed r s p q (n + 1) m) ∙ (λ j. leaf_paths (sym e j) p (n + 1) ++ leaf_paths (sym k j) q m)
    ∙ (λ j. f (stands_left (preorder body) (n + 1) (preorder p) (preorder q) parts) j
    ++ g (stands_right (preorder body) (n + 1) m (preorder p) (preorder q) (ap (λ x. n + 1 + x) (length-preorder p)) parts) j)
    ∙ sym (pauses-append body P Q)
    ∙ ap (λ v. v ++ pauses body (P ++ Q))
    (sym (here_found body a t n (stands_head (preorder body) n t Nothing (preorder p ++ preorder q) w) ∙ nothing_if a.resumed (is_pause t) n np))
    ∙ sym (pauses-append body (instances_at a n) (P ++ Q)) ∙ ap (λ v. pauses body v) (sym i)

leaf_found : (body : Term) (a : Liveness) (t : Term) (n : ℕ) → StandsAt (preorder body) n (t ∷ [])
    → leaf_paths a.resumed t n ≡ (if a.resumed then (if is_pause t then n ∷ [] else []) else [])
    → leaf_paths a.resumed t n ≡ pauses body (instances_at a n)
leaf_found body a t n h e = e ∙ sym (here_found body a t n (stands_head (preorder body) n t Nothing [] h))

none_if : (b : Bool) → ◌≡◌ {A = List ℕ} [] (if b then [] else [])
none_if true = refl
none_if false = refl

found : (body : Term) (a : Liveness) (t : Term) (n : ℕ) → HasExitCodes t → StandsAt (preorder body) n (preorder t) →
    leaf_paths a.resumed t n ≡ pauses body (instances a t n)
found body a Pause n k h = leaf_found body a Pause n h refl
found body a (Present e p q) n k h = two_found body a (part_liveness a p) (part_liveness a q) (Present e p q) p q n (resumes p)
    (resumes q) refl h refl refl refl refl refl
    (found body (part_liveness a p) p (n + 1) k.0) (found body (part_liveness a q) q (n + 1 + statement_count p) k.1)
found body a (Suspend e p) n k h = one_found body a (part_liveness a p) (Suspend e p) p n (resumes p) refl h refl refl refl refl
    (found body (part_liveness a p) p (n + 1) k)
found body a (Seq p q) n k h = two_found body a (part_liveness a p) (second_liveness a p q (n + 1 + statement_count p)) (Seq p q) p q n (resumes p)
    (second_resumes p q) refl h refl refl refl refl refl
    (found body (part_liveness a p) p (n + 1) k.0) (found body (second_liveness a p q (n + 1 + statement_count p)) q (n + 1 + statement_count p) k.1)
found body a (Loop at p) n k h = one_found body a (loop_liveness a p (n + 1)) (Loop at p) p n (resumes p) refl h refl refl refl refl
    (found body (loop_liveness a p (n + 1)) p (n + 1) k)
found body a (Par p q) n k h = two_found body a (part_liveness a p) (part_liveness a q) (Par p q) p q n (resumes p) (resumes q) refl h refl refl refl refl refl
    (found body (part_liveness a p) p (n + 1) k.0) (found body (part_liveness a q) q (n + 1 + statement_count p) k.1)
found body a (Trap p) n k h = one_found body a (part_liveness a p) (Trap p) p n (resumes p) refl h refl refl refl refl
    (found body (part_liveness a p) p (n + 1) k)
found body a (Local s p) n k h = one_found body a (part_liveness a p) (Local s p) p n (resumes p) refl h refl refl refl refl
    (found body (part_liveness a p) p (n + 1) k)
found body a (Awake e p) n k h = absurd k
found body a t n k h = leaf_found body a t n h (none_if a.resumed)

pub leaves_are_resumed_pauses_lem : LeavesAreResumedPauses
leaves_are_resumed_pauses_lem body k = found body (body_liveness body) body 0 k (stands_whole (preorder body))

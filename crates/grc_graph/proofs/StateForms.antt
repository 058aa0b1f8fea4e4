-- What is selected as a state wants is well formed.
use Rattle.std.proofs.Common.{Bool, false, refl, sym, true, ℕ, ◌&&◌, ◌+◌, ◌||◌, ◌≡◌}
use Rattle.std.proofs.lemmas.Bool.{false≢true, or_left, or_right}
use Rattle.est_kernel.specs.Preorder.{statement_count}
use Rattle.est_kernel.specs.Terms.{Local, Loop, Par, Present, Seq, Suspend, Term, Trap}
use Rattle.grc_graph.specs.Layers.{can_pass}
use Rattle.grc_graph.specs.Residuals.{holds}
use Rattle.grc_graph.specs.Selected.{IsSelected, IsState}
use Rattle.grc_graph.specs.Selections.{at_most_one, each_or_over, well_formed}
use Rattle.grc_graph.specs.Walk.{Selecting}

pub exclusive : (p q wp wq : Bool) → ((p || q) ≡ true → (p && q) ≡ false) → wp ≡ true → wq ≡ true → (at_most_one p q && (wp && wq)) ≡ true
exclusive true true wp wq apart e f = absurd (false≢true (sym (apart refl)))
exclusive true false wp wq apart e f = λ i. e i && f i
exclusive false q wp wq apart e f = λ i. e i && f i

pub together : (p x q y wp wq : Bool) → ((p || q) ≡ true → (p || x) ≡ true) → ((p || q) ≡ true → (q || y) ≡ true) → wp ≡ true → wq ≡ true
    → (each_or_over p x q y && (wp && wq)) ≡ true
together false x false y wp wq over over_y e f = λ i. e i && f i
together true x q y wp wq over over_y e f = λ i. over_y refl i && (e i && f i)
together false x true y wp wq over over_y e f = λ i. (over refl i && true) && (e i && f i)

-- where a part that holds a selected pause is selected as its form wants
pub formed-part : (S : ℕ → Bool) (t : Term) (n : ℕ) → (holds S t n ≡ true → IsSelected S t n) → well_formed S t n ≡ true
formed-part S (Present e p q) n h =
    let m = n + 1 + statement_count p in
    exclusive (holds S p (n + 1)) (holds S q m) (well_formed S p (n + 1)) (well_formed S q m) (λ some. (h some).0)
    (formed-part S p (n + 1) (λ k. (h (or_left (holds S p (n + 1)) (holds S q m) k)).1 k))
    (formed-part S q m (λ k. (h (or_right (holds S p (n + 1)) (holds S q m) k)).2 k))
formed-part S (Suspend e p) n h = formed-part S p (n + 1) h
formed-part S (Seq p q) n h =
    let m = n + 1 + statement_count p in
    exclusive (holds S p (n + 1)) (holds S q m) (well_formed S p (n + 1)) (well_formed S q m) (λ some. (h some).0)
    (formed-part S p (n + 1) (λ k. (h (or_left (holds S p (n + 1)) (holds S q m) k)).1 k))
    (formed-part S q m (λ k. ((h (or_right (holds S p (n + 1)) (holds S q m) k)).2 k).1))
formed-part S (Loop at p) n h = formed-part S p (n + 1) h
formed-part S (Par p q) n h =
    let m = n + 1 + statement_count p in
    together (holds S p (n + 1)) (can_pass p) (holds S q m) (can_pass q) (well_formed S p (n + 1)) (well_formed S q m)
    (λ some. (h some).0) (λ some. (h some).1)
    (formed-part S p (n + 1) (λ k. (h (or_left (holds S p (n + 1)) (holds S q m) k)).2 k))
    (formed-part S q m (λ k. (h (or_right (holds S p (n + 1)) (holds S q m) k)).3 k))
formed-part S (Trap p) n h = formed-part S p (n + 1) h
formed-part S (Local s p) n h = formed-part S p (n + 1) h
formed-part S _ n h = refl

pub states-are-formed : (S : ℕ → Bool) (body : Term) → IsState (Selecting S) body → well_formed S body 0 ≡ true
states-are-formed S body state = formed-part S body 0 state

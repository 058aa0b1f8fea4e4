-- Texts that are written piece by piece.
use Rattle.std.proofs.Common.{◌≡◌, ℕ, ◌+◌, ◌-◌, ◌*◌, ◌<◌, ◌==◌, zero, suc, Bool, List, [], ◌∷◌, ◌++◌, length, take, set, ap, ◌∙◌, sym, arith, append_assoc}
use Rattle.std.proofs.Common.{if◌then◌else◌, codes, decimal}
use Rattle.std.proofs.lemmas.List.{take_more_set}
use Rattle.base_types.specs.Draws.{next_state, state_after, drawn}
use Rattle.est_gen.specs.Events.{event_from}
use Rattle.est_gen.specs.Sources.{names_from, statement, branch_text, branches_text}

-- two pieces, three, and so on, each behind the text before it
pub written-2 : (t a b t1 : List ℕ) → t1 ≡ t ++ a → t1 ++ b ≡ t ++ (a ++ b)
written-2 t a b t1 e = ap (λ x. x ++ b) e ∙ append_assoc t a b

pub written-3 : (t a b c t1 t2 : List ℕ) → t1 ≡ t ++ a → t2 ≡ t1 ++ b → t2 ++ c ≡ t ++ (a ++ (b ++ c))
written-3 t a b c t1 t2 e f = written-2 t1 b c t2 f ∙ written-2 t a (b ++ c) t1 e

pub written-4 : (t a b c d t1 t2 t3 : List ℕ) → t1 ≡ t ++ a → t2 ≡ t1 ++ b → t3 ≡ t2 ++ c → t3 ++ d ≡ t ++ (a ++ (b ++ (c ++ d)))
written-4 t a b c d t1 t2 t3 e f g = written-3 t1 b c d t2 t3 f g ∙ written-2 t a (b ++ (c ++ d)) t1 e

pub written-6 : (t a b c d p q t1 t2 t3 t4 t5 : List ℕ) → t1 ≡ t ++ a → t2 ≡ t1 ++ b → t3 ≡ t2 ++ c → t4 ≡ t3 ++ d → t5 ≡ t4 ++ p →
    t5 ++ q ≡ t ++ (a ++ (b ++ (c ++ (d ++ (p ++ q)))))
written-6 t a b c d p q t1 t2 t3 t4 t5 e f g h i =
    written-4 t2 c d p q t3 t4 t5 g h i ∙ written-3 t a b (c ++ (d ++ (p ++ q))) t1 t2 e f

pub written-7 : (t a b c d p q r t1 t2 t3 t4 t5 t6 : List ℕ) → t1 ≡ t ++ a → t2 ≡ t1 ++ b → t3 ≡ t2 ++ c → t4 ≡ t3 ++ d → t5 ≡ t4 ++ p → t6 ≡ t5 ++ q →
    t6 ++ r ≡ t ++ (a ++ (b ++ (c ++ (d ++ (p ++ (q ++ r))))))
written-7 t a b c d p q r t1 t2 t3 t4 t5 t6 e f g h i j =
    written-4 t3 d p q r t4 t5 t6 h i j ∙ written-4 t a b c (d ++ (p ++ (q ++ r))) t1 t2 t3 e f g

-- the state after some draws and some more
pub state_after-add : (m n x : ℕ) → state_after (m + n) x ≡ state_after n (state_after m x)
state_after-add zero n x = let e : 0 + n ≡ n = omega arith in ap (λ k. state_after k x) e
state_after-add (suc m) n x = let e : suc m + n ≡ suc (m + n) = omega arith in ap (λ k. state_after k x) e ∙ state_after-add m n (next_state x)

-- one name more
pub names_from-more : (mark : List ℕ) (number count : ℕ) → number < count
    → names_from mark number (count - number) ≡ (if number == 0 then [] else codes ", ")
    ++ ((mark ++ decimal number) ++ names_from mark (number + 1) (count - (number + 1)))
names_from-more mark number count low = let e : count - number ≡ suc (count - (number + 1)) = omega arith in ap (names_from mark number) e

-- one branch more
pub branches_text-more : (number count x : ℕ) → number < count
    → branches_text number (count - number) x ≡ (if number == 0 then [] else codes "||\n")
    ++ (branch_text number x ++ branches_text (number + 1) (count - (number + 1)) (state_after 3 x))
branches_text-more number count x low = let e : count - number ≡ suc (count - (number + 1)) = omega arith in ap (λ n. branches_text number n x) e

-- one draw more
pub state_after-more : (number count x : ℕ) → number < count → state_after (count - number) x ≡ state_after (count - (number + 1)) (next_state x)
state_after-more number count x low = let e : count - number ≡ suc (count - (number + 1)) = omega arith in ap (λ n. state_after n x) e

pub event_from-more : (number count x : ℕ) → number < count → event_from (count - number) x ≡
    (drawn (next_state x) 4 == 0) ∷ event_from (count - (number + 1)) (next_state x)
event_from-more number count x low = let e : count - number ≡ suc (count - (number + 1)) = omega arith in ap (λ n. event_from n x) e

-- the three draws of one branch more
pub state_after-branch : (number count x : ℕ) → number < count →
    state_after (3 * (count - number)) x ≡ state_after (3 * (count - (number + 1))) (state_after 3 x)
state_after-branch number count x low =
    let e : 3 * (count - number) ≡ 3 + 3 * (count - (number + 1)) = omega arith in
    ap (λ n. state_after n x) e ∙ state_after-add 3 (3 * (count - (number + 1))) x

-- one truth value more, at its place
pub event-more : (event : List Bool) (number x : ℕ) (rest : List Bool) → number < length event →
    take (number + 1) (set event number (x == 0)) ++ rest ≡ take number event ++ ((x == 0) ∷ rest)
event-more event number x rest low = ap (λ l. l ++ rest) (take_more_set event number (x == 0) low) ∙ append_assoc (take number event) ((x == 0) ∷ []) rest

-- the line of a branch, by its three draws
pub branch_text-is : (x x1 x2 x3 shape input output number k : ℕ) → x1 ≡ next_state x → x2 ≡ next_state x1 → x3 ≡ next_state x2 → shape ≡ drawn x1 4 →
    input ≡ drawn x2 8 → output ≡ drawn x3 8 → shape ≡ k
    → statement k number input output ≡ branch_text number x
branch_text-is x x1 x2 x3 shape input output number k e1 e2 e3 s i o is =
    ap (λ y. statement y number input output) (sym is ∙ s ∙ ap (λ y. drawn y 4) e1)
    ∙ ap (λ y. statement (drawn (state_after 1 x) 4) number y output) (i ∙ ap (λ y. drawn y 8) (e2 ∙ ap next_state e1))
    ∙ ap (λ y. statement (drawn (state_after 1 x) 4) number (drawn (state_after 2 x) 8) y)
    (o ∙ ap (λ y. drawn y 8) (e3 ∙ ap next_state (e2 ∙ ap next_state e1)))

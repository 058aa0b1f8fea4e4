-- The static codes of each statement stand at its number in the lists of a body's codes.
use Rattle.std.proofs.Common.{◌≡◌, ℕ, ◌+◌, ◌<◌, ◌≤◌, Bool, List, [], ◌∷◌, ◌++◌, length, map, get_or, refl, sym, ap, ◌∙◌, subst, arith, length-append}
use Rattle.std.proofs.lemmas.List.{length-map, map-append, get_or_append_left, get_or-append-add}
use Rattle.base_types.specs.CodeSet.{members}
use Rattle.base_types.specs.Codes.{no_code}
use Rattle.est_kernel.specs.declared.code_lists.Codes.{Codes}
use Rattle.est_kernel.specs.CodeLists.{AreCodesOf}
use Rattle.est_kernel.specs.Sizes.{size_of}
use Rattle.est_kernel.specs.Terms.{Term, Nothing, Pause, Emit, Exit, Present, Suspend, Seq, Loop, Par, Trap, Local, Awake}
use Rattle.est_kernel.specs.Preorder.{statement_count, preorder}
use Rattle.est_kernel.specs.StaticCodes.{started_codes, resumed_codes}
use Rattle.est_kernel.proofs.Exports.{length-preorder}
use Rattle.grc_graph.specs.CodeTables.{HasCodesAt, CodesFrom}

-- a list stands in another at this place
pub record StandsAt {A : Type 0} (xs : List A) (n : ℕ) (ys : List A) : Type 0 where
  pub within : n + length ys ≤ length xs
  pub same : (k : ℕ) (d : A) → k < length ys → get_or xs (n + k) d ≡ get_or ys k d

pub stands_whole : {A : Type 0} (xs : List A) → StandsAt xs 0 xs
stands_whole xs = record { within = omega arith; same = λ k d h. ap (λ m. get_or xs m d) (omega arith) }

pub stands_left : {A : Type 0} (xs : List A) (n : ℕ) (ys zs : List A) → StandsAt xs n (ys ++ zs) → StandsAt xs n ys
stands_left xs n ys zs h = record {
  within = omega (arith, h.within, length-append ys zs);
  same = λ k d l. h.same k d (omega (arith, length-append ys zs)) ∙ get_or_append_left ys zs d k l;
}

pub stands_right : {A : Type 0} (xs : List A) (n m : ℕ) (ys zs : List A) → n + length ys ≡ m → StandsAt xs n (ys ++ zs) → StandsAt xs m zs
stands_right xs n m ys zs e h = record {
  within = omega (arith, h.within, length-append ys zs);
  same = λ k d l.
      ap (λ i. get_or xs i d) (let f : m + k ≡ n + (length ys + k) = omega arith in f)
      ∙ h.same (length ys + k) d (omega (arith, length-append ys zs)) ∙ get_or-append-add ys zs k d;
}

pub stands_tail : {A : Type 0} (xs : List A) (n : ℕ) (y : A) (ys : List A) → StandsAt xs n (y ∷ ys) → StandsAt xs (n + 1) ys
stands_tail xs n y ys h = stands_right xs n (n + 1) (y ∷ []) ys refl h

pub stands_head : {A : Type 0} (xs : List A) (n : ℕ) (y d : A) (ys : List A) → StandsAt xs n (y ∷ ys) → get_or xs n d ≡ y
stands_head xs n y d ys h = ap (λ i. get_or xs i d) (let e : n ≡ n + 0 = omega arith in e) ∙ h.same 0 d (omega arith)

-- the codes of the statements of t stand in the lists from n on
record Lists (c : Codes) (t : Term) (n : ℕ) : Type 0 where
  pub started : StandsAt (map members c.started.items) n (map started_codes (preorder t))
  pub resumed : StandsAt (map members c.resumed.items) n (map resumed_codes (preorder t))

codes_here : (c : Codes) (t : Term) (n : ℕ) (ps : List Term)
    → StandsAt (map members c.started.items) n (map started_codes (t ∷ ps))
    → StandsAt (map members c.resumed.items) n (map resumed_codes (t ∷ ps))
    → HasCodesAt c t n
codes_here c t n ps h g = record {
  started_in = omega (arith, h.within, length-map c.started.items members);
  resumed_in = omega (arith, g.within, length-map c.resumed.items members);
  started = stands_head _ n _ no_code _ h;
  resumed = stands_head _ n _ no_code _ g;
}

one_part : (c : Codes) (t p : Term) (n : ℕ) → preorder t ≡ t ∷ preorder p → Lists c t n → HasCodesAt c t n × Lists c p (n + 1)
one_part c t p n e h =
    let s = subst (λ l. StandsAt (map members c.started.items) n (map started_codes l)) e h.started in
    let r = subst (λ l. StandsAt (map members c.resumed.items) n (map resumed_codes l)) e h.resumed in
    (codes_here c t n (preorder p) s r, record { started = stands_tail _ n _ _ s; resumed = stands_tail _ n _ _ r })

counts : (f : Term → ℕ → Bool) (p : Term) (n : ℕ) → n + 1 + length (map f (preorder p)) ≡ n + 1 + statement_count p
counts f p n = ap (λ k. n + 1 + k) (length-map (preorder p) f ∙ length-preorder p)

two_parts : (c : Codes) (t p q : Term) (n : ℕ) → preorder t ≡ t ∷ (preorder p ++ preorder q) → Lists c t n
    → HasCodesAt c t n × Lists c p (n + 1) × Lists c q (n + 1 + statement_count p)
two_parts c t p q n e h =
    let s = subst (λ l. StandsAt (map members c.started.items) n (map started_codes l)) e h.started in
    let r = subst (λ l. StandsAt (map members c.resumed.items) n (map resumed_codes l)) e h.resumed in
    let ss = subst (λ l. StandsAt (map members c.started.items) (n + 1) l) (map-append started_codes (preorder p) (preorder q)) (stands_tail _ n _ _ s) in
    let rr = subst (λ l. StandsAt (map members c.resumed.items) (n + 1) l) (map-append resumed_codes (preorder p) (preorder q)) (stands_tail _ n _ _ r) in (
      codes_here c t n (preorder p ++ preorder q) s r,
      record { started = stands_left _ _ _ _ ss; resumed = stands_left _ _ _ _ rr },
      record {
        started = stands_right _ (n + 1) _ _ _ (counts started_codes p n) ss;
        resumed = stands_right _ (n + 1) _ _ _ (counts resumed_codes p n) rr;
      },
    )

codes_from : (c : Codes) (t : Term) (n : ℕ) → Lists c t n → CodesFrom c t n
codes_from c (Present e p q) n h =
    let r = two_parts c (Present e p q) p q n refl h in (r.0, codes_from c p (n + 1) r.1, codes_from c q _ r.2)
codes_from c (Suspend e p) n h = let r = one_part c (Suspend e p) p n refl h in (r.0, codes_from c p (n + 1) r.1)
codes_from c (Seq p q) n h =
    let r = two_parts c (Seq p q) p q n refl h in (r.0, codes_from c p (n + 1) r.1, codes_from c q _ r.2)
codes_from c (Loop at p) n h = let r = one_part c (Loop at p) p n refl h in (r.0, codes_from c p (n + 1) r.1)
codes_from c (Par p q) n h =
    let r = two_parts c (Par p q) p q n refl h in (r.0, codes_from c p (n + 1) r.1, codes_from c q _ r.2)
codes_from c (Trap p) n h = let r = one_part c (Trap p) p n refl h in (r.0, codes_from c p (n + 1) r.1)
codes_from c (Local s p) n h = let r = one_part c (Local s p) p n refl h in (r.0, codes_from c p (n + 1) r.1)
codes_from c (Awake e p) n h = let r = one_part c (Awake e p) p n refl h in (r.0, codes_from c p (n + 1) r.1)
codes_from c t n h = codes_here c t n [] h.started h.resumed

pub codes_of_body : (c : Codes) (body : Term) → AreCodesOf c body → CodesFrom c body 0
codes_of_body c body h = codes_from c body 0 (record {
  started = subst (λ l. StandsAt l 0 (map started_codes (preorder body))) (sym h.started) (stands_whole _);
  resumed = subst (λ l. StandsAt l 0 (map resumed_codes (preorder body))) (sym h.resumed) (stands_whole _);
})

-- of a statement itself, whatever its form
pub codes_at : (c : Codes) (t : Term) (n : ℕ) → CodesFrom c t n → HasCodesAt c t n
codes_at c Nothing n h = h
codes_at c Pause n h = h
codes_at c (Emit s) n h = h
codes_at c (Exit k) n h = h
codes_at c _ n h = h.0

-- tests only add to the size
pub statement_count-le : (t : Term) → statement_count t ≤ size_of t
statement_count-le (Present e p q) = omega (arith, statement_count-le p, statement_count-le q)
statement_count-le (Suspend e p) = omega (arith, statement_count-le p)
statement_count-le (Seq p q) = omega (arith, statement_count-le p, statement_count-le q)
statement_count-le (Loop at p) = omega (arith, statement_count-le p)
statement_count-le (Par p q) = omega (arith, statement_count-le p, statement_count-le q)
statement_count-le (Trap p) = omega (arith, statement_count-le p)
statement_count-le (Local s p) = omega (arith, statement_count-le p)
statement_count-le (Awake e p) = omega (arith, statement_count-le p)
statement_count-le _ = omega arith

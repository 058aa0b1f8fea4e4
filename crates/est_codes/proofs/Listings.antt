-- A statement's entry is put before those of its parts.
use Rattle.std.proofs.Common.{◌≡◌, ◌<◌, List, [], ◌∷◌, ◌++◌, length, drop, map, refl, sym, ap, ◌∙◌, subst, arith, append_assoc, length-append}
use Rattle.std.proofs.Math.ListN.{set}
use Rattle.std.proofs.lemmas.List.{map-append, length-map}
use Rattle.base_facts.proofs.Lists.{map-set-append}
use Rattle.base_types.specs.CodeSet.{members}
use Rattle.est_kernel.specs.Terms.{Term, Nothing, Pause, Emit, Exit, Present, Suspend, Seq, Loop, Par, Trap, Local, Awake}
use Rattle.est_kernel.specs.StaticCodes.{started_codes, resumed_codes, instant_loops}
use Rattle.est_kernel.specs.Preorder.{preorder}
use Rattle.est_codes.specs.declared.entries.Entry.{Entry}
use Rattle.est_codes.specs.declared.walk.Found.{Found}
use Rattle.est_codes.specs.Entries.{HasCodesOf, Lists, ListsParts}
use Rattle.est_codes.specs.Faults.{IsLeastSpan}

-- the place of a statement lies before the entries of its parts
at_in : {A B : Type 0} (f : A → B) (old end : List A) (x : A) (rest : List B)
    → map f end ≡ map f (old ++ x ∷ []) ++ rest
    → length old < length end
at_in f old end x rest e =
    let counts : length (map f end) ≡ length (map f (old ++ x ∷ []) ++ rest) = ap length e in
    omega (
      arith,
      length-map end f,
      counts,
      length-append (map f (old ++ x ∷ [])) rest,
      length-map (old ++ x ∷ []) f,
      length-append old (x ∷ []),
    )

-- a statement stands before all in it
preorder_own : (p : Term) → preorder p ≡ p ∷ drop 1 (preorder p)
preorder_own Nothing = refl
preorder_own Pause = refl
preorder_own (Emit s) = refl
preorder_own (Exit k) = refl
preorder_own (Present e p q) = refl
preorder_own (Suspend e p) = refl
preorder_own (Seq p q) = refl
preorder_own (Loop at p) = refl
preorder_own (Par p q) = refl
preorder_own (Trap p) = refl
preorder_own (Local s p) = refl
preorder_own (Awake e p) = refl

-- one kind of codes, once the statement's own entry is written
own_put : {B : Type 0} (f : Entry → B) (g : Term → B) (old start end : List Entry) (x y : Entry) (p : Term)
    → start ≡ old ++ x ∷ []
    → map f end ≡ map f start ++ map g (drop 1 (preorder p))
    → f y ≡ g p
    → map f (set end (length old) y) ≡ map f old ++ map g (preorder p)
own_put f g old start end x y p pushed parts own =
    map-set-append f old end x y (map g (drop 1 (preorder p)))
    (parts ∙ ap (λ l. map f l ++ map g (drop 1 (preorder p))) pushed)
    ∙ ap (λ b. map f old ++ b ∷ map g (drop 1 (preorder p))) own
    ∙ ap (λ l. map f old ++ map g l) (sym (preorder_own p))

pub listed : (old start end : List Entry) (x : Entry) (found : Found) (p : Term)
    → start ≡ old ++ x ∷ []
    → ListsParts start end found p
    → Lists old (set end (length old) found.entry) found p
listed old start end x found p pushed parts = record {
  started = own_put (λ e. members e.started) started_codes old start end x found.entry p pushed parts.started parts.entry.started;
  resumed = own_put (λ e. members e.resumed) resumed_codes old start end x found.entry p pushed parts.resumed parts.entry.resumed;
  entry = parts.entry;
  least = parts.least;
}

-- the place of a statement lies before the entries of its parts
pub listed_in : (old start end : List Entry) (x : Entry) (found : Found) (p : Term)
    → start ≡ old ++ x ∷ []
    → ListsParts start end found p
    → length old < length end
listed_in old start end x found p pushed parts =
    at_in (λ e. members e.started) old end x (map started_codes (drop 1 (preorder p)))
    (parts.started ∙ ap (λ l. map (λ e. members e.started) l ++ map started_codes (drop 1 (preorder p))) pushed)

-- one kind of codes of two parts, one after the other
two_put : {B : Type 0} (f : Entry → B) (g : Term → B) (old mid end : List Entry) (p q : Term)
    → map f mid ≡ map f old ++ map g (preorder p)
    → map f end ≡ map f mid ++ map g (preorder q)
    → map f end ≡ map f old ++ map g (preorder p ++ preorder q)
two_put f g old mid end p q first second =
    second
    ∙ ap (λ l. l ++ map g (preorder q)) first
    ∙ append_assoc (map f old) (map g (preorder p)) (map g (preorder q))
    ∙ ap (λ l. map f old ++ l) (sym (map-append g (preorder p) (preorder q)))

pub listed_two : (old mid end : List Entry) (first second found : Found) (entry : Entry) (p q t : Term)
    → Lists old mid first p
    → Lists mid end second q
    → drop 1 (preorder t) ≡ preorder p ++ preorder q
    → found.entry ≡ entry
    → HasCodesOf entry t
    → IsLeastSpan found.least (instant_loops t)
    → ListsParts old end found t
listed_two old mid end first second found entry p q t one two order same codes least = record {
  started = two_put (λ e. members e.started) started_codes old mid end p q one.started two.started
      ∙ ap (λ l. map (λ e. members e.started) old ++ map started_codes l) (sym order);
  resumed = two_put (λ e. members e.resumed) resumed_codes old mid end p q one.resumed two.resumed
      ∙ ap (λ l. map (λ e. members e.resumed) old ++ map resumed_codes l) (sym order);
  entry = subst (λ x. HasCodesOf x t) (sym same) codes;
  least = least;
}

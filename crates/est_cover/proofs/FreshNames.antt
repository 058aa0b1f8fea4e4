-- Inner: names of new signals.
use Rattle.std.proofs.Common.{◌≡◌, ℕ, ◌<◌, ◌≤◌, ◌^◌, ◌==◌, ◌||◌, Bool, true, false, not, List, [], ◌∷◌, ◌++◌, length, map, refl, sym}
use Rattle.std.proofs.Common.{ap, ◌∙◌, arith, All}
use Rattle.std.proofs.Common.{IsTrue, append_assoc, append-nil, decimal, nat_le, get_or, drop, ◌+◌}
use Rattle.std.specs.List.{list_any, list_all}
use Rattle.std.specs.Str.Parse.{AllDigits}
use Rattle.std.proofs.lemmas.Bool.{and_parts, or_parts, and_from, or_from, not-true, false_from_ne_true, not_from_false, le-leb}
use Rattle.std.proofs.lemmas.Fmt.{decimal_is_IsNumeral}
use Rattle.std.proofs.lemmas.List.{map-append}
use Rattle.std.proofs.lemmas.List.Elements.{All-append, All-cons, All-nil}
use Rattle.std.proofs.lemmas.List.Folds.{list_any-append}
use Rattle.std.proofs.lemmas.Str.Parse.{digit_at}
use Rattle.base_facts.proofs.Lists.{drop-at}
use Rattle.base_types.specs.declared.interface.SignalInfo.{SignalInfo}
use Rattle.base_types.specs.Distinct.{all_differ}
use Rattle.base_types.specs.Names.{is_digit, is_letter, is_name, is_name_byte, is_same_name}
use Rattle.base_types.proofs.Exports.{same_name-is, same_name-self}
use Rattle.est_cover.specs.NewNames.{AreNew}

-- ---- digits

or_middle : (a b c : Bool) → b ≡ true → ((a || b) || c) ≡ true
or_middle true b c h = refl
or_middle false b c h = ap (λ d. d || c) h

digit-byte : (c : ℕ) → 48 ≤ c → c ≤ 57 → is_name_byte c ≡ true
digit-byte c low high =
    or_middle (is_letter c) (is_digit c) (c == 95) (and_from (nat_le 48 c) (nat_le c 57) (le-leb 48 c low) (le-leb c 57 high))

digits-bytes : (ds : List ℕ) → AllDigits 10 ds → list_all is_name_byte ds ≡ true
digits-bytes [] h = refl
digits-bytes (c ∷ cs) h =
    let within = digit_at (c ∷ cs) 0 h (omega arith) in
    and_from (is_name_byte c) (list_all is_name_byte cs) (digit-byte c within.0 within.1) (digits-bytes cs h.1)

pub numbered-name : (number : ℕ) → number < 2 ^ 64 → IsTrue (is_name (112 ∷ decimal number))
numbered-name number low = digits-bytes (decimal number) (decimal_is_IsNumeral number low).0.1

-- ---- names that differ

differ-more : (xs : List (List ℕ)) (y : List ℕ) → all_differ is_same_name xs ≡ true → list_any (is_same_name y) xs ≡ false
    → all_differ is_same_name (xs ++ y ∷ []) ≡ true
differ-more [] y h out = refl
differ-more (x ∷ xs) y h out =
    let parts = and_parts (not (list_any (is_same_name x) xs)) (all_differ is_same_name xs) h in
    let outs = or_parts (is_same_name y x) (list_any (is_same_name y) xs) out in
    let other : is_same_name x y ≡ false = false_from_ne_true (is_same_name x y)
    (λ same. let e = same_name-is x y same in let f : is_same_name y x ≡ true = ap (λ n. is_same_name n x) (sym e) ∙ same_name-self x in cc) in
    let any : list_any (is_same_name x) (xs ++ y ∷ []) ≡ false =
    list_any-append (is_same_name x) xs (y ∷ [])
    ∙ or_from (list_any (is_same_name x) xs) (is_same_name x y || false) (not-true (list_any (is_same_name x) xs) parts.0)
    (or_from (is_same_name x y) false other refl) in
    and_from (not (list_any (is_same_name x) (xs ++ y ∷ []))) (all_differ is_same_name (xs ++ y ∷ []))
    (not_from_false (list_any (is_same_name x) (xs ++ y ∷ [])) any) (differ-more xs y parts.1 outs.1)

-- one more name
pub new-more : {X : Type 0} (f : X → List ℕ) (given : List (List ℕ)) (old new : List X) (x : X) → new ≡ old ++ x ∷ [] → IsTrue (is_name (f x))
    → list_any (is_same_name (f x)) given ≡ false → list_any (is_same_name (f x)) (map f old) ≡ false → AreNew given (map f old)
    → AreNew given (map f new)
new-more f given old new x is written apart fresh before =
    let grown : map f new ≡ map f old ++ f x ∷ [] = ap (map f) is ∙ map-append f old (x ∷ []) in
    let out : list_any (is_same_name (f x)) (given ++ map f old) ≡ false =
    list_any-append (is_same_name (f x)) given (map f old)
    ∙ or_from (list_any (is_same_name (f x)) given) (list_any (is_same_name (f x)) (map f old)) apart fresh in
    rw grown (record {
      written = All-append (λ n. IsTrue (is_name n)) (map f old) (f x ∷ []) before.written (All-cons (λ n. IsTrue (is_name n)) (f x) [] written (All-nil
          (λ n. IsTrue (is_name n))));
      differ = ap (all_differ is_same_name) (sym (append_assoc given (map f old) (f x ∷ [])))
          ∙ differ-more (given ++ map f old) (f x) before.differ out;
    })

-- no name yet
pub new-none : (given : List (List ℕ)) → IsTrue (all_differ is_same_name given) → AreNew given []
new-none given h = record { written = All-nil (λ n. IsTrue (is_name n)); differ = ap (all_differ is_same_name) (append-nil given) ∙ h }

-- ---- names that can be written

pub named-all : (names : List (List ℕ)) → list_all is_name names ≡ true → All (λ n. IsTrue (is_name n)) names
named-all [] h = All-nil (λ n. IsTrue (is_name n))
named-all (n ∷ names) h =
    let parts = and_parts (is_name n) (list_all is_name names) h in
    All-cons (λ m. IsTrue (is_name m)) n names parts.0 (named-all names parts.1)

-- ---- names among others

pub any-here : (name : List ℕ) (l : List SignalInfo) (i : ℕ) (s : SignalInfo) → i < length l → s ≡ get_or l i s → is_same_name name s.name ≡ true
    → list_any (is_same_name name) (map (λ t. t.name) (drop i l)) ≡ true
any-here name l i s h is same =
    ap (λ m. list_any (is_same_name name) (map (λ (t : SignalInfo). t.name) m)) (drop-at l i s h is)
    ∙ ap (λ b. b || list_any (is_same_name name) (map (λ (t : SignalInfo). t.name) (drop (i + 1) l))) same

pub ruleset name_rows = (new-none, numbered-name)

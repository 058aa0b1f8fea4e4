-- Lists and gates without what is not marked.
use Rattle.std.proofs.Common.{◌≡◌, ℕ, ◌+◌, ◌-◌, ◌<◌, ◌≤◌, zero, suc, Bool, true, false, not, ◌&&◌, ◌||◌, List, [], ◌∷◌, ◌++◌, length, map, take}
use Rattle.std.proofs.Common.{slice_index_or, if◌then◌else◌, refl, sym, ap, ◌∙◌, subst, arith, inl, inr, IsTrue, All, append_assoc}
use Rattle.std.proofs.lemmas.Bool.{cases_lt, cases_Bool, both_ways}
use Rattle.std.proofs.lemmas.List.{length_push, get_or_append_left, get_or_push, append-nil, take_more, length-take-le, map-append}
use Rattle.std.proofs.lemmas.List.Elements.{All-cons}
use Rattle.net_ir.specs.declared.netlist.Op.{Op}
use Rattle.net_ir.specs.declared.netlist.Op.TheVariants.{Const, Copy, Not, And, Or}
use Rattle.net_ir.specs.declared.netlist.Gate.{Gate}
use Rattle.net_ir.specs.Gates.{operand_end, ReadsLower, op_value, value_in, gate_values, carried}
use Rattle.net_ir.proofs.Exports.{ReadsLower-rest}
use Rattle.net_simp.specs.Renaming.{renamed_op}
use Rattle.net_simp.specs.Packing.{rank}
use Rattle.net_opt.specs.Keeping.{kept, kept_gate}
use Rattle.net_opt.specs.Showing.{marked}
use Rattle.net_opt.specs.Shown.{IsRead}

-- ---- how many are marked before a net

rank-on : (marks : List Bool) (n : ℕ) → marked marks n ≡ true → rank marks (n + 1) ≡ rank marks n + 1
rank-on marks n on =
    let e : n + 1 ≡ suc n = omega arith in
    ap (rank marks) e ∙ ap (λ b. rank marks n + (if b then 1 else 0)) on

rank-off : (marks : List Bool) (n : ℕ) → marked marks n ≡ false → rank marks (n + 1) ≡ rank marks n
rank-off marks n off =
    let e : n + 1 ≡ suc n = omega arith in
    let f = ap (rank marks) e ∙ ap (λ b. rank marks n + (if b then 1 else 0)) off in
    omega arith

rank-within : (marks : List Bool) (n k : ℕ) → (rank marks n ≤ rank marks (n + k)) × (rank marks (n + k) ≤ rank marks n + k)
rank-within marks n zero =
    let e : n + 0 ≡ n = omega arith in
    let f = ap (rank marks) e in
    (omega arith, omega arith)
rank-within marks n (suc k) =
    let before = rank-within marks n k in
    let low = before.0 in
    let high = before.1 in
    let e : n + suc k ≡ n + k + 1 = omega arith in
    let f = ap (rank marks) e in
    elim (cases_Bool (marked marks (n + k))) [
      | inl on ↦ let g = rank-on marks (n + k) on in (omega arith, omega arith)
      | inr off ↦ let g = rank-off marks (n + k) off in (omega arith, omega arith)
    ]

pub rank-below : (marks : List Bool) (m n : ℕ) → m + 1 ≤ n → IsTrue (marked marks m) → rank marks m + 1 ≤ rank marks n
rank-below marks m n low on =
    let step = rank-on marks m on in
    let rise = (rank-within marks (m + 1) (n - (m + 1))).0 in
    let e : m + 1 + (n - (m + 1)) ≡ n = omega arith in
    let f = ap (rank marks) e in
    omega arith

pub rank-small : (marks : List Bool) (n : ℕ) → rank marks n ≤ n
rank-small marks n =
    let e : 0 + n ≡ n = omega arith in
    let f = ap (rank marks) e in
    let w = (rank-within marks 0 n).1 in
    omega arith

-- where one of them is not marked, there are fewer
pub rank-smaller : (marks : List Bool) (k n : ℕ) → k < n → marked marks k ≡ false → rank marks n < n
rank-smaller marks k n low off =
    let step = rank-off marks k off in
    let before = rank-small marks k in
    let rise = (rank-within marks (k + 1) (n - (k + 1))).1 in
    let e : k + 1 + (n - (k + 1)) ≡ n = omega arith in
    let f = ap (rank marks) e in
    omega arith

-- where all of them are, there are as many
pub rank-whole : (marks : List Bool) (n : ℕ) → ((m : ℕ) → m < n → IsTrue (marked marks m)) → rank marks n ≡ n
rank-whole marks zero all = refl
rank-whole marks (suc n) all =
    let before = rank-whole marks n (λ m low. all m (omega arith)) in
    let step = rank-on marks n (all n (omega arith)) in
    let e : n + 1 ≡ suc n = omega arith in
    let f = ap (rank marks) e in
    omega arith

-- ---- what is left of a list

kept-on : {X : Type 0} (marks : List Bool) (n : ℕ) (x : X) (xs : List X) → marked marks n ≡ true → kept marks n (x ∷ xs) ≡ x ∷ kept marks (n + 1) xs
kept-on marks n x xs on = ap (λ b. if b then x ∷ kept marks (n + 1) xs else kept marks (n + 1) xs) on

kept-off : {X : Type 0} (marks : List Bool) (n : ℕ) (x : X) (xs : List X) → marked marks n ≡ false → kept marks n (x ∷ xs) ≡ kept marks (n + 1) xs
kept-off marks n x xs off = ap (λ b. if b then x ∷ kept marks (n + 1) xs else kept marks (n + 1) xs) off

pub kept-count : {X : Type 0} (marks : List Bool) (n : ℕ) (xs : List X) → rank marks n + length (kept marks n xs) ≡ rank marks (n + length xs)
kept-count marks n [] =
    let e : n ≡ n + 0 = omega arith in
    let f = ap (rank marks) e in
    omega arith
kept-count marks n (x ∷ xs) =
    let rest = kept-count marks (n + 1) xs in
    let e : n + 1 + length xs ≡ n + length (x ∷ xs) = omega arith in
    let f = ap (rank marks) e in
    elim (cases_Bool (marked marks n)) [
      | inl on ↦
          let many = ap length (kept-on marks n x xs on) in
          let step = rank-on marks n on in
          omega arith
      | inr off ↦
          let many = ap length (kept-off marks n x xs off) in
          let step = rank-off marks n off in
          omega arith
    ]

pub kept-fewer : {X : Type 0} (marks : List Bool) (n : ℕ) (xs : List X) → length (kept marks n xs) ≤ length xs
kept-fewer marks n xs =
    let many = kept-count marks n xs in
    let within = (rank-within marks n (length xs)).1 in
    omega arith

-- a mark, by the number of a place behind the first
mark-first : (marks : List Bool) (n : ℕ) → IsTrue (marked marks n) → IsTrue (marked marks (n + 0))
mark-first marks n on = let e : n + 0 ≡ n = omega arith in ap (marked marks) e ∙ on

mark-next : (marks : List Bool) (n k : ℕ) → IsTrue (marked marks (n + 1 + k)) → IsTrue (marked marks (n + suc k))
mark-next marks n k on = let e : n + suc k ≡ n + 1 + k = omega arith in ap (marked marks) e ∙ on

pub All-kept : {X Y : Type 0} (P : Y → Type 0) (g : X → Y) (marks : List Bool) (n : ℕ) (xs : List X)
    → ((k : ℕ) (d : X) → k < length xs → IsTrue (marked marks (n + k)) → P (g (slice_index_or xs k d))) → All P (map g (kept marks n xs))
All-kept P g marks n [] fit = λ k d low. absurd (omega arith)
All-kept P g marks n (x ∷ xs) fit =
    let rest = All-kept P g marks (n + 1) xs (λ k d low on. fit (suc k) d (omega arith) (mark-next marks n k on)) in
    elim (cases_Bool (marked marks n)) [
      | inl on ↦ subst (λ ys. All P (map g ys)) (sym (kept-on marks n x xs on))
          (All-cons P (g x) (map g (kept marks (n + 1) xs)) (fit 0 x (omega arith) (mark-first marks n on)) rest)
      | inr off ↦ subst (λ ys. All P (map g ys)) (sym (kept-off marks n x xs off)) rest
    ]

-- the values of what is left
pub kept-values : {X : Type 0} (e h : X → Bool) (marks : List Bool) (n : ℕ) (xs : List X)
    → ((k : ℕ) (d : X) → k < length xs → IsTrue (marked marks (n + k)) → e (slice_index_or xs k d) ≡ h (slice_index_or xs k d))
    → map e (kept marks n xs) ≡ kept marks n (map h xs)
kept-values e h marks n [] same = refl
kept-values e h marks n (x ∷ xs) same =
    let rest = kept-values e h marks (n + 1) xs (λ k d low on. same (suc k) d (omega arith) (mark-next marks n k on)) in
    elim (cases_Bool (marked marks n)) [
      | inl on ↦
          let here = same 0 x (omega arith) (mark-first marks n on) in
          ap (map e) (kept-on marks n x xs on) ∙ (λ i. here i ∷ rest i) ∙ sym (kept-on marks n (h x) (map h xs) on)
      | inr off ↦ ap (map e) (kept-off marks n x xs off) ∙ rest ∙ sym (kept-off marks n (h x) (map h xs) off)
    ]

-- ---- what is left of gates

-- gates that read lower nets, and of which the marked ones read marked nets
pub record Reading (marks : List Bool) (n : ℕ) (gates : List Gate) : Type 0 where
  pub lower : ReadsLower n gates
  pub closed : (k : ℕ) (d : Gate) → k < length gates → IsTrue (marked marks (n + k)) → IsRead (marked marks) (slice_index_or gates k d).op

reading-rest : (marks : List Bool) (n : ℕ) (g : Gate) (gates : List Gate) → Reading marks n (g ∷ gates) → Reading marks (n + 1) gates
reading-rest marks n g gates r = record {
  lower = ReadsLower-rest n g gates r.lower;
  closed = λ k d low on. r.closed (suc k) d (omega arith) (mark-next marks n k on);
}

first-end : (marks : List Bool) (n : ℕ) (g : Gate) (gates : List Gate) → Reading marks n (g ∷ gates) → operand_end g.op ≤ n
first-end marks n g gates r = let low = r.lower 0 g (omega arith) in omega arith

first-read : (marks : List Bool) (n : ℕ) (g : Gate) (gates : List Gate) → Reading marks n (g ∷ gates) → marked marks n ≡ true → IsRead (marked marks) g.op
first-read marks n g gates r on = r.closed 0 g (omega arith) (mark-first marks n on)

pub kept-silent : (f : ℕ → ℕ) (gates : List Gate) → carried (map (kept_gate f) gates) ≡ []
kept-silent f [] = refl
kept-silent f (g ∷ gates) = kept-silent f gates

-- what an operator reads over the new numbers
new-end : (marks : List Bool) (f : ℕ → ℕ) (n : ℕ) (op : Op) → ((m : ℕ) → m < n → f m ≡ rank marks m) → operand_end op ≤ n → IsRead (marked marks) op
    → operand_end (renamed_op f op) ≤ rank marks n
new-end marks f n (Const b) ranked end read = omega arith
new-end marks f n (Copy m) ranked end read = let e = ranked m.0 (omega arith) in let low = rank-below marks m.0 n (omega arith) read in omega arith
new-end marks f n (Not m) ranked end read = let e = ranked m.0 (omega arith) in let low = rank-below marks m.0 n (omega arith) read in omega arith
new-end marks f n (And l m) ranked end read =
    let d = ranked l.0 (omega arith) in
    let e = ranked m.0 (omega arith) in
    let low = rank-below marks l.0 n (omega arith) read.0 in
    let high = rank-below marks m.0 n (omega arith) read.1 in
    omega arith
new-end marks f n (Or l m) ranked end read =
    let d = ranked l.0 (omega arith) in
    let e = ranked m.0 (omega arith) in
    let low = rank-below marks l.0 n (omega arith) read.0 in
    let high = rank-below marks m.0 n (omega arith) read.1 in
    omega arith

lower-cons : (start : ℕ) (g : Gate) (gates : List Gate) → operand_end g.op ≤ start → ReadsLower (start + 1) gates → ReadsLower start (g ∷ gates)
lower-cons start g gates here rest zero d low = omega arith
lower-cons start g gates here rest (suc k) d low = let next = rest k d (omega arith) in omega arith

pub kept-lower : (marks : List Bool) (f : ℕ → ℕ) (n : ℕ) (gates : List Gate) → ((m : ℕ) → m < n + length gates → f m ≡ rank marks m)
    → Reading marks n gates → ReadsLower (rank marks n) (map (kept_gate f) (kept marks n gates))
kept-lower marks f n [] ranked r = λ k d low. absurd (omega arith)
kept-lower marks f n (g ∷ gates) ranked r =
    let rest = kept-lower marks f (n + 1) gates (λ m low. ranked m (omega arith)) (reading-rest marks n g gates r) in
    elim (cases_Bool (marked marks n)) [
      | inl on ↦ subst (λ gs. ReadsLower (rank marks n) (map (kept_gate f) gs)) (sym (kept-on marks n g gates on))
          (lower-cons (rank marks n) (kept_gate f g) (map (kept_gate f) (kept marks (n + 1) gates))
          (new-end marks f n g.op (λ m low. ranked m (omega arith)) (first-end marks n g gates r) (first-read marks n g gates r on))
          (subst (λ m. ReadsLower m (map (kept_gate f) (kept marks (n + 1) gates))) (rank-on marks n on) rest))
      | inr off ↦ subst (λ gs. ReadsLower (rank marks n) (map (kept_gate f) gs)) (sym (kept-off marks n g gates off))
          (subst (λ m. ReadsLower m (map (kept_gate f) (kept marks (n + 1) gates))) (rank-off marks n off) rest)
    ]

-- ---- the values of marked nets

-- of the nets below this number the marked ones have their values, by their new numbers
pub record Carries (marks : List Bool) (f : ℕ → ℕ) (n : ℕ) (v w : List Bool) : Type 0 where
  pub old_count : length v ≡ n
  pub new_count : length w ≡ rank marks n
  pub low : (k : ℕ) → k < n → IsTrue (marked marks k) → f k < length w
  pub same : (k : ℕ) → k < n → IsTrue (marked marks k) → value_in w (f k) ≡ value_in v k

carries-keep : (marks : List Bool) (f : ℕ → ℕ) (n : ℕ) (v w : List Bool) (b : Bool) → f n ≡ rank marks n → marked marks n ≡ true → Carries marks f n v w
    → Carries marks f (n + 1) (v ++ b ∷ []) (w ++ b ∷ [])
carries-keep marks f n v w b ranked on c =
    let longer = length_push v b in
    let also = length_push w b in
    let step = rank-on marks n on in
    let old = c.old_count in
    let new = c.new_count in
    record {
      old_count = omega arith;
      new_count = omega arith;
      low = λ k below here. elim (cases_lt k n) [
        | inl before ↦ let l = c.low k before here in omega arith
        | inr after ↦
            let e : k ≡ n = omega arith in
            let g = ap f e in
            omega arith
      ];
      same = λ k below here. elim (cases_lt k n) [
        | inl before ↦ get_or_append_left w (b ∷ []) false (f k) (c.low k before here) ∙ c.same k before here
            ∙ sym (get_or_append_left v (b ∷ []) false k (omega arith))
        | inr after ↦
            let e : k ≡ n = omega arith in
            let g = ap f e in
            get_or_push w b false (f k) (omega arith) ∙ sym (get_or_push v b false k (omega arith))
      ];
    }

carries-skip : (marks : List Bool) (f : ℕ → ℕ) (n : ℕ) (v w : List Bool) (b : Bool) → marked marks n ≡ false → Carries marks f n v w
    → Carries marks f (n + 1) (v ++ b ∷ []) w
carries-skip marks f n v w b off c =
    let longer = length_push v b in
    let step = rank-off marks n off in
    let old = c.old_count in
    let new = c.new_count in
    let before : (k : ℕ) → k < n + 1 → IsTrue (marked marks k) → k < n = λ k below here. elim (cases_lt k n) [
      | inl low ↦ low
      | inr after ↦
          let e : n ≡ k = omega arith in
          absurd (both_ways (marked marks n) off (ap (marked marks) e ∙ here))
    ] in
    record {
      old_count = omega arith;
      new_count = omega arith;
      low = λ k below here. c.low k (before k below here) here;
      same = λ k below here. c.same k (before k below here) here
          ∙ sym (get_or_append_left v (b ∷ []) false k (let l = before k below here in omega arith));
    }

pub carries-list : (marks : List Bool) (f : ℕ → ℕ) (n : ℕ) (v w xs : List Bool) → ((m : ℕ) → m < n + length xs → f m ≡ rank marks m)
    → Carries marks f n v w → Carries marks f (n + length xs) (v ++ xs) (w ++ kept marks n xs)
carries-list marks f n v w [] ranked c =
    let e : n ≡ n + 0 = omega arith in
    subst (λ m. Carries marks f m (v ++ []) (w ++ [])) e
    (subst (λ x. Carries marks f n x (w ++ [])) (sym (append-nil v)) (subst (λ y. Carries marks f n v y) (sym (append-nil w)) c))
carries-list marks f n v w (b ∷ xs) ranked c =
    let e : n + 1 + length xs ≡ n + length (b ∷ xs) = omega arith in
    let at = ranked n (omega arith) in
    let late = λ (m : ℕ) (low : m < n + 1 + length xs). ranked m (omega arith) in
    let more = append_assoc v (b ∷ []) xs in
    subst (λ m. Carries marks f m (v ++ b ∷ xs) (w ++ kept marks n (b ∷ xs))) e
    (subst (λ x. Carries marks f (n + 1 + length xs) x (w ++ kept marks n (b ∷ xs))) more (elim (cases_Bool (marked marks n)) [
      | inl on ↦ subst (λ ys. Carries marks f (n + 1 + length xs) (v ++ b ∷ [] ++ xs) (w ++ ys)) (sym (kept-on marks n b xs on))
          (subst (λ y. Carries marks f (n + 1 + length xs) (v ++ b ∷ [] ++ xs) y) (append_assoc w (b ∷ []) (kept marks (n + 1) xs))
          (carries-list marks f (n + 1) (v ++ b ∷ []) (w ++ b ∷ []) xs late (carries-keep marks f n v w b at on c)))
      | inr off ↦ subst (λ ys. Carries marks f (n + 1 + length xs) (v ++ b ∷ [] ++ xs) (w ++ ys)) (sym (kept-off marks n b xs off))
          (carries-list marks f (n + 1) (v ++ b ∷ []) w xs late (carries-skip marks f n v w b off c))
    ]))

-- what an operator makes of them
read-value : (marks : List Bool) (f : ℕ → ℕ) (n : ℕ) (v w : List Bool) (op : Op) → Carries marks f n v w → operand_end op ≤ n → IsRead (marked marks) op
    → op_value (value_in w) (renamed_op f op) ≡ op_value (value_in v) op
read-value marks f n v w (Const b) c end read = refl
read-value marks f n v w (Copy m) c end read = c.same m.0 (omega arith) read
read-value marks f n v w (Not m) c end read = ap not (c.same m.0 (omega arith) read)
read-value marks f n v w (And l m) c end read =
    let p = c.same l.0 (omega arith) read.0 in
    let q = c.same m.0 (omega arith) read.1 in
    λ i. p i && q i
read-value marks f n v w (Or l m) c end read =
    let p = c.same l.0 (omega arith) read.0 in
    let q = c.same m.0 (omega arith) read.1 in
    λ i. p i || q i

pub carries-gates : (marks : List Bool) (f : ℕ → ℕ) (n : ℕ) (v w : List Bool) (gates : List Gate) → ((m : ℕ) → m < n + length gates → f m ≡ rank marks m)
    → Reading marks n gates → Carries marks f n v w
    → Carries marks f (n + length gates) (gate_values v gates) (gate_values w (map (kept_gate f) (kept marks n gates)))
carries-gates marks f n v w [] ranked r c = let e : n ≡ n + 0 = omega arith in subst (λ m. Carries marks f m v w) e c
carries-gates marks f n v w (g ∷ gates) ranked r c =
    let e : n + 1 + length gates ≡ n + length (g ∷ gates) = omega arith in
    let late = λ (m : ℕ) (low : m < n + 1 + length gates). ranked m (omega arith) in
    let y = op_value (value_in v) g.op in
    let rest = reading-rest marks n g gates r in
    subst (λ m. Carries marks f m (gate_values (v ++ y ∷ []) gates) (gate_values w (map (kept_gate f) (kept marks n (g ∷ gates))))) e
    (elim (cases_Bool (marked marks n)) [
      | inl on ↦
          let same = read-value marks f n v w g.op c (first-end marks n g gates r) (first-read marks n g gates r on) in
          subst (λ gs. Carries marks f (n + 1 + length gates) (gate_values (v ++ y ∷ []) gates) (gate_values w (map (kept_gate f) gs)))
          (sym (kept-on marks n g gates on))
          (subst (λ x. Carries marks f (n + 1 + length gates) (gate_values (v ++ y ∷ []) gates)
          (gate_values (w ++ x ∷ []) (map (kept_gate f) (kept marks (n + 1) gates)))) (sym same)
          (carries-gates marks f (n + 1) (v ++ y ∷ []) (w ++ y ∷ []) gates late rest (carries-keep marks f n v w y (ranked n (omega arith)) on c)))
      | inr off ↦
          subst (λ gs. Carries marks f (n + 1 + length gates) (gate_values (v ++ y ∷ []) gates) (gate_values w (map (kept_gate f) gs)))
          (sym (kept-off marks n g gates off))
          (carries-gates marks f (n + 1) (v ++ y ∷ []) w gates late rest (carries-skip marks f n v w y off c))
    ])

-- ---- a list, one after another

kept-end : {X : Type 0} (marks : List Bool) (n : ℕ) (xs : List X) (x : X) → kept marks n (xs ++ x ∷ []) ≡ kept marks n xs ++ kept marks (n + length xs) (x ∷ [])
kept-end marks n [] x = let e : n ≡ n + 0 = omega arith in ap (λ m. kept marks m (x ∷ [])) e
kept-end marks n (y ∷ xs) x =
    let e : n + 1 + length xs ≡ n + length (y ∷ xs) = omega arith in
    let rest = kept-end marks (n + 1) xs x ∙ ap (λ m. kept marks (n + 1) xs ++ kept marks m (x ∷ [])) e in
    elim (cases_Bool (marked marks n)) [
      | inl on ↦ kept-on marks n y (xs ++ x ∷ []) on ∙ ap (λ ys. y ∷ ys) rest
          ∙ ap (λ ys. ys ++ kept marks (n + length (y ∷ xs)) (x ∷ [])) (sym (kept-on marks n y xs on))
      | inr off ↦ kept-off marks n y (xs ++ x ∷ []) off ∙ rest
          ∙ ap (λ ys. ys ++ kept marks (n + length (y ∷ xs)) (x ∷ [])) (sym (kept-off marks n y xs off))
    ]

kept-take : {X : Type 0} (marks : List Bool) (n k : ℕ) (xs : List X) (d : X) → k < length xs
    → kept marks n (take (k + 1) xs) ≡ kept marks n (take k xs) ++ kept marks (n + k) (slice_index_or xs k d ∷ [])
kept-take marks n k xs d low =
    let e : length (take k xs) ≡ k = length-take-le k xs (omega arith) in
    ap (kept marks n) (take_more xs k d low) ∙ kept-end marks n (take k xs) (slice_index_or xs k d)
    ∙ ap (λ m. kept marks n (take k xs) ++ kept marks (n + m) (slice_index_or xs k d ∷ [])) e

pub kept-more : {X Y : Type 0} (g : X → Y) (marks : List Bool) (n k : ℕ) (xs : List X) (d : X) → k < length xs → marked marks (n + k) ≡ true
    → map g (kept marks n (take (k + 1) xs)) ≡ map g (kept marks n (take k xs)) ++ g (slice_index_or xs k d) ∷ []
kept-more g marks n k xs d low on =
    ap (map g) (kept-take marks n k xs d low ∙ ap (λ ys. kept marks n (take k xs) ++ ys) (kept-on marks (n + k) (slice_index_or xs k d) [] on))
    ∙ map-append g (kept marks n (take k xs)) (slice_index_or xs k d ∷ [])

pub kept-past : {X Y : Type 0} (g : X → Y) (marks : List Bool) (n k : ℕ) (xs : List X) (d : X) → k < length xs → marked marks (n + k) ≡ false
    → map g (kept marks n (take (k + 1) xs)) ≡ map g (kept marks n (take k xs))
kept-past g marks n k xs d low off =
    ap (map g) (kept-take marks n k xs d low ∙ ap (λ ys. kept marks n (take k xs) ++ ys) (kept-off marks (n + k) (slice_index_or xs k d) [] off)
    ∙ append-nil (kept marks n (take k xs)))

-- Operators of one form have one value.
use Rattle.std.proofs.Common.{◌≡◌, ℕ, ◌+◌, ◌<◌, Bool, true, false, not, ◌&&◌, ◌||◌, ◌==◌, if◌then◌else◌, refl, sym, ap, ◌∙◌, arith}
use Rattle.std.specs.Prelude.{nat_lt}
use Rattle.std.proofs.lemmas.Bool.{eqb-true, eq-eqb, and_parts, and_from, false≢true}
use Rattle.base_facts.proofs.Tests.{and-turned, or-turned}
use Rattle.net_ir.specs.declared.netlist.Op.{Op}
use Rattle.net_ir.specs.declared.netlist.Op.TheVariants.{Const, Copy, Not, And, Or}
use Rattle.net_ir.specs.Gates.{op_value}
use Rattle.net_simp.specs.declared.forms.Form.{Form}
use Rattle.net_simp.specs.declared.forms.Form.TheVariants as forms
use Rattle.net_simp.specs.Forms.{form_of}
use Rattle.net_simp.specs.Drafts.{same_form}

abbrev form_value : (ℕ → Bool) → Form → Bool
form_value V (forms.Const b) = b
form_value V (forms.Copy n) = V n
form_value V (forms.Not n) = not (V n)
form_value V (forms.And m n) = V m && V n
form_value V (forms.Or m n) = V m || V n

ordered-and : (V : ℕ → Bool) (m n : ℕ) (b : Bool) → form_value V (if b then forms.And m n else forms.And n m) ≡ (V m && V n)
ordered-and V m n true = refl
ordered-and V m n false = and-turned (V n) (V m)

ordered-or : (V : ℕ → Bool) (m n : ℕ) (b : Bool) → form_value V (if b then forms.Or m n else forms.Or n m) ≡ (V m || V n)
ordered-or V m n true = refl
ordered-or V m n false = or-turned (V n) (V m)

form-value : (V : ℕ → Bool) (op : Op) → form_value V (form_of op) ≡ op_value V op
form-value V (Const b) = refl
form-value V (Copy n) = refl
form-value V (Not n) = refl
form-value V (And m n) = ordered-and V m.0 n.0 (nat_lt m.0 n.0)
form-value V (Or m n) = ordered-or V m.0 n.0 (nat_lt m.0 n.0)

pub same-value : (V : ℕ → Bool) (op other : Op) → form_of op ≡ form_of other → op_value V op ≡ op_value V other
same-value V op other same = sym (form-value V op) ∙ ap (form_value V) same ∙ form-value V other

same-bool : (a b : Bool) → same_form (forms.Const a) (forms.Const b) ≡ true → a ≡ b
same-bool true true e = refl
same-bool true false e = absurd (false≢true e)
same-bool false true e = absurd (false≢true e)
same-bool false false e = refl

itself-bool : (a : Bool) → same_form (forms.Const a) (forms.Const a) ≡ true
itself-bool true = refl
itself-bool false = refl

pub same_form-itself : (x : Form) → same_form x x ≡ true
same_form-itself (forms.Const b) = itself-bool b
same_form-itself (forms.Copy n) = eq-eqb n n refl
same_form-itself (forms.Not n) = eq-eqb n n refl
same_form-itself (forms.And m n) = and_from (m == m) (n == n) (eq-eqb m m refl) (eq-eqb n n refl)
same_form-itself (forms.Or m n) = and_from (m == m) (n == n) (eq-eqb m m refl) (eq-eqb n n refl)

pub same_form-is : (x y : Form) → same_form x y ≡ true → x ≡ y
same_form-is (forms.Const a) (forms.Const b) e = ap forms.Const (same-bool a b e)
same_form-is (forms.Copy a) (forms.Copy b) e = ap forms.Copy (eqb-true a b e)
same_form-is (forms.Not a) (forms.Not b) e = ap forms.Not (eqb-true a b e)
same_form-is (forms.And a b) (forms.And c d) e =
    let p = and_parts (a == c) (b == d) e in
    let l = eqb-true a c p.0 in let r = eqb-true b d p.1 in cc
same_form-is (forms.Or a b) (forms.Or c d) e =
    let p = and_parts (a == c) (b == d) e in
    let l = eqb-true a c p.0 in let r = eqb-true b d p.1 in cc
same_form-is (forms.Const a) (forms.Copy c) e = absurd (false≢true e)
same_form-is (forms.Const a) (forms.Not c) e = absurd (false≢true e)
same_form-is (forms.Const a) (forms.And c d) e = absurd (false≢true e)
same_form-is (forms.Const a) (forms.Or c d) e = absurd (false≢true e)
same_form-is (forms.Copy a) (forms.Const c) e = absurd (false≢true e)
same_form-is (forms.Copy a) (forms.Not c) e = absurd (false≢true e)
same_form-is (forms.Copy a) (forms.And c d) e = absurd (false≢true e)
same_form-is (forms.Copy a) (forms.Or c d) e = absurd (false≢true e)
same_form-is (forms.Not a) (forms.Const c) e = absurd (false≢true e)
same_form-is (forms.Not a) (forms.Copy c) e = absurd (false≢true e)
same_form-is (forms.Not a) (forms.And c d) e = absurd (false≢true e)
same_form-is (forms.Not a) (forms.Or c d) e = absurd (false≢true e)
same_form-is (forms.And a b) (forms.Const c) e = absurd (false≢true e)
same_form-is (forms.And a b) (forms.Copy c) e = absurd (false≢true e)
same_form-is (forms.And a b) (forms.Not c) e = absurd (false≢true e)
same_form-is (forms.And a b) (forms.Or c d) e = absurd (false≢true e)
same_form-is (forms.Or a b) (forms.Const c) e = absurd (false≢true e)
same_form-is (forms.Or a b) (forms.Copy c) e = absurd (false≢true e)
same_form-is (forms.Or a b) (forms.Not c) e = absurd (false≢true e)
same_form-is (forms.Or a b) (forms.And c d) e = absurd (false≢true e)

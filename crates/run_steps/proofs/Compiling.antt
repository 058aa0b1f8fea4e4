-- Expressions that are compiled, form by form.
use Rattle.std.proofs.Common.{◌≡◌, ℕ, ◌+◌, ◌<◌, suc, Bool, not, List, [], ◌∷◌, ◌++◌, length, map, take, get_or}
use Rattle.std.proofs.Common.{sym, ap, ◌∙◌, subst, arith, Result, Ok, Err}
use Rattle.std.specs.Prelude.{IfOk}
use Rattle.std.specs.declared.alloc.Global.{Global}
use Rattle.std.specs.declared.boxed.Box.{Box}
use Rattle.std.specs.declared.vec.Vec.{Vec}
use Rattle.std.proofs.Math.Seq.{take-length}
use Rattle.std.proofs.lemmas.List.{map-append, take_more}
use Rattle.net_expressions.specs.declared.trees.Expr.{Expr}
use Rattle.net_expressions.specs.declared.trees.Expr.TheVariants as nodes
use Rattle.run_steps.specs.declared.term.Term.{Term}
use Rattle.run_steps.specs.declared.term.Junction.{Junction}
use Rattle.run_steps.specs.declared.term.Junction.TheVariants as junctions
use Rattle.run_steps.specs.Slots.{slot_in, value_at}
use Rattle.run_steps.specs.Plans.{Planned, Compiles, Joins, Says, joined, made, term_value}
use Rattle.run_steps.proofs.Makings.{says-is, keeps-refl, keeps-trans}
use Rattle.run_steps.specs.Expressions.{expr_value, joined_all, parts_value}
use Rattle.run_steps.proofs.ExprValues.{value-Name, value-Const, value-Not, value-And, value-Or, joined-more, joined-one}

-- values that are the same are compiled by the same term
compiles-is : (f g : List Bool → Bool) (old new : Planned) (t : Term) → ((values : List Bool) → f values ≡ g values)
    → Compiles f old t new → Compiles g old t new
compiles-is f g old new t same is = record { keeps = is.keeps; says = says-is new t f g same is.says }

-- a term of the plan as it is
says-compiles : (f : List Bool → Bool) (plan : Planned) (t : Term) → Says plan t f → Compiles f plan t plan
says-compiles f plan t says = record { keeps = keeps-refl plan; says = says }

module _ (keys : List (List ℕ)) where
  pub name-compiles : (e : Expr) (name : List ℕ) (slot : ℕ) (plan : Planned) (t : Term) → e ≡ nodes.Name name → slot ≡ slot_in keys name
      → Says plan t (λ values. value_at values slot) → Compiles (expr_value keys e) plan t plan
  name-compiles e name slot plan t is at says =
      compiles-is (λ values. value_at values slot) (expr_value keys e) plan plan t
      (λ values. ap (value_at values) at ∙ sym (value-Name keys name values) ∙ sym (ap (λ x. expr_value keys x values) is))
      (says-compiles (λ values. value_at values slot) plan t says)

  pub const-compiles : (e : Expr) (value : Bool) (plan : Planned) (t : Term) → e ≡ nodes.Const value → Says plan t (λ values. value)
      → Compiles (expr_value keys e) plan t plan
  const-compiles e value plan t is says =
      compiles-is (λ values. value) (expr_value keys e) plan plan t
      (λ values. sym (value-Const keys value values) ∙ sym (ap (λ x. expr_value keys x values) is)) (says-compiles (λ values. value) plan t says)

  pub not-compiles : (e : Expr) (part : Box Expr Global) (old new : Planned) (t u : Term) → e ≡ nodes.Not part
      → Compiles (expr_value keys part.value) old t new → u.left ≡ t.left → u.right ≡ t.right
      → ((values : List Bool) → term_value u values ≡ not (term_value t values)) → Compiles (expr_value keys e) old u new
  not-compiles e part old new t u is own left right other = record {
    keeps = own.keeps;
    says = record {
      fits = record {
        left_low = subst (λ k. k < new.free) (sym left) own.says.fits.left_low;
        right_low = subst (λ k. k < new.free) (sym right) own.says.fits.right_low;
      };
      says = λ values wide.
          let w = made new.lookups values in
          let small = take new.named w in
          other w ∙ ap not (own.says.says values wide) ∙ sym (value-Not keys part small) ∙ sym (ap (λ x. expr_value keys x small) is);
    };
  }

  pub and-compiles : (e : Expr) (v : Vec Expr Global) (old new : Planned) (t : Term) → e ≡ nodes.And v
      → Compiles (parts_value keys junctions.And v.items) old t new → Compiles (expr_value keys e) old t new
  and-compiles e v old new t is own =
      compiles-is (parts_value keys junctions.And v.items) (expr_value keys e) old new t
      (λ values. sym (value-And keys v values) ∙ sym (ap (λ x. expr_value keys x values) is)) own

  pub or-compiles : (e : Expr) (v : Vec Expr Global) (old new : Planned) (t : Term) → e ≡ nodes.Or v
      → Compiles (parts_value keys junctions.Or v.items) old t new → Compiles (expr_value keys e) old t new
  or-compiles e v old new t is own =
      compiles-is (parts_value keys junctions.Or v.items) (expr_value keys e) old new t
      (λ values. sym (value-Or keys v values) ∙ sym (ap (λ x. expr_value keys x values) is)) own

  pub none-compiles : (junction : Junction) (parts : List Expr) (value : Bool) (plan : Planned) (t : Term) → parts ≡ [] → value ≡ joined_all junction []
      → Says plan t (λ values. value) → Compiles (parts_value keys junction parts) plan t plan
  none-compiles junction parts value plan t none is says =
      compiles-is (λ values. value) (parts_value keys junction parts) plan plan t
      (λ values. is ∙ sym (ap (λ l. parts_value keys junction l values) none)) (says-compiles (λ values. value) plan t says)

  pub first-compiles : (junction : Junction) (e : Expr) (old new : Planned) (t : Term) → Compiles (expr_value keys e) old t new
      → Compiles (parts_value keys junction (e ∷ [])) old t new
  first-compiles junction e old new t own =
      compiles-is (expr_value keys e) (parts_value keys junction (e ∷ [])) old new t (λ values. sym (joined-one junction (expr_value keys e values))) own

  parts-more : (junction : Junction) (parts : List Expr) (e : Expr) (values : List Bool)
      → joined junction (parts_value keys junction parts values) (expr_value keys e values) ≡ parts_value keys junction (parts ++ e ∷ []) values
  parts-more junction parts e values =
      sym (ap (joined_all junction) (map-append (λ x. expr_value keys x values) parts (e ∷ []))
      ∙ joined-more junction (map (λ x. expr_value keys x values) parts) (expr_value keys e values))

  -- one part more
  pub next-compiles : (junction : Junction) (parts : List Expr) (e : Expr) (a b c d : Planned) (t u r : Term)
      → Compiles (parts_value keys junction parts) a t b → Compiles (expr_value keys e) b u c → Joins junction t u c r d
      → Compiles (parts_value keys junction (parts ++ e ∷ [])) a r d
  next-compiles junction parts e a b c d t u r before next joins =
      let said = joins.says (parts_value keys junction parts) (expr_value keys e)
      (next.keeps.says t (parts_value keys junction parts) before.says) next.says in
      record {
        keeps = keeps-trans a b d before.keeps (keeps-trans b c d next.keeps joins.keeps);
        says = says-is d r (λ values. joined junction (parts_value keys junction parts values) (expr_value keys e values))
            (parts_value keys junction (parts ++ e ∷ [])) (parts-more junction parts e) said;
      }

-- what follows where a call gives a value
pub if-ok : {T E : Type 0} (r : Result T E) (P Q : T → Type 0) → ((x : T) → P x → Q x) → IfOk r P → IfOk r Q
if-ok (Ok x) P Q f p = f x p
if-ok (Err e) P Q f p = tt

-- the parts so far, the first one before the others
pub front-more : (parts others : List Expr) (x d : Expr) (i : ℕ) → parts ≡ x ∷ others → i < length others
    → take (i + 1 + 1) parts ≡ take (i + 1) parts ++ get_or others i d ∷ []
front-more parts others x d i is low =
    let s : i + 1 ≡ suc i = omega arith in
    let wide : i + 1 < length parts = omega (arith, ap length is, low) in
    take_more parts (i + 1) d wide
    ∙ ap (λ y. take (i + 1) parts ++ y ∷ []) (ap (λ l. get_or l (i + 1) d) is ∙ ap (λ k. get_or (x ∷ others) k d) s)

pub front-one : (parts others : List Expr) (x : Expr) → parts ≡ x ∷ others → take (0 + 1) parts ≡ x ∷ []
front-one parts others x is = ap (take (0 + 1)) is

pub front-all : (parts others : List Expr) (x : Expr) (i : ℕ) → parts ≡ x ∷ others → i ≡ length others → take (i + 1) parts ≡ parts
front-all parts others x i is at =
    let n : i + 1 ≡ length parts = omega (arith, ap length is, at) in ap (λ k. take k parts) n ∙ take-length parts

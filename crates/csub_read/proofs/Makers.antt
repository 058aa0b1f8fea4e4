-- Inner: the reading function makes what is meant of what is written: rules for the one are images of rules for the other.
use Rattle.std.proofs.Common.{◌≡◌, ℕ, List, [], ◌∷◌, map, refl, sym, ◌∙◌, ap}
use Rattle.csub_text.specs.Tokens.{Kind, Semicolon, Equals}
use Rattle.csub_text.specs.Trees.{Expr}
use Rattle.csub_text.specs.Grammar.{is, sign, name, assign_meant, program_meant}
use Rattle.net_expressions.specs.Grammar.{Written, meant}
use Rattle.net_expressions.proofs.Exports.{Image, image-mapped, image-both, image-trail, image-on, image-maybe, image-loop, image-self, image-advances, made}
use Rattle.net_expressions.proofs.Exports.{end-made, expr-meant}
use Rattle.base_reader.specs.Readings.{Rule, mapped, both, trail, on, the, loop, end_of, whole}
use Rattle.base_reader.proofs.Exports.{Advances}
use Rattle.csub_read.proofs.TextLaws.{assign-advances}
use Rattle.csub_read.specs.Reading.{makes_expr, makes_written, expr, state_step, global_step, local_step}
use Rattle.csub_read.specs.Reading.{assign_rule, assign_step, answer_rule, body_rule, function_rule, whole_rule, text_rule, Parts, parts_of, written_assign}
use Rattle.csub_read.specs.Reading.{written_of, expr_assign, expr_program}

-- ---- texts

abbrev pub pair_meant : List ℕ × Written → List ℕ × Expr
pair_meant a = (a.0, meant a.1)

abbrev pub parts_meant : Parts Written → Parts Expr
parts_meant p = record { states = p.states; globals = p.globals; locals = p.locals; body = map pair_meant p.body; answer = meant p.answer }

pub assign-meant : (room : ℕ) → Image pair_meant (assign_rule makes_written room) (assign_rule makes_expr room)
assign-meant room =
    image-both (λ a. a) (the name) (the name) meant (on (is Equals) (λ _. trail (expr makes_written room) (the (is Semicolon))))
    (on (is Equals) (λ _. trail (expr makes_expr room) (the (is Semicolon)))) (image-self (the name))
    (image-on meant (is Equals) (trail (expr makes_written room) (the (is Semicolon))) (trail (expr makes_expr room) (the (is Semicolon)))
    (image-trail meant (expr makes_written room) (expr makes_expr room) (the (is Semicolon)) (expr-meant sign room)))

pub answer-meant : (room : ℕ) → Image meant (answer_rule makes_written room) (answer_rule makes_expr room)
answer-meant room = image-on meant _ _ _ (image-trail meant (expr makes_written room) (expr makes_expr room) _ (expr-meant sign room))

pub assigns-mean : (room : ℕ) → Advances (assign_step makes_expr room)
assigns-mean room =
    image-advances pair_meant (assign_step makes_written room) (assign_step makes_expr room)
    (image-maybe pair_meant name (assign_rule makes_written room) (assign_rule makes_expr room) (assign-meant room)) (assign-advances room)

pub loop-meant : (room : ℕ) → Image (map pair_meant) (loop (assign_step makes_written room)) (loop (assign_step makes_expr room))
loop-meant room =
    image-loop pair_meant (assign_step makes_written room) (assign_step makes_expr room)
    (image-maybe pair_meant name (assign_rule makes_written room) (assign_rule makes_expr room) (assign-meant room))

body-meant : (room : ℕ) → Image (λ v. (map pair_meant v.0, meant v.1)) (body_rule makes_written room) (body_rule makes_expr room)
body-meant room =
    image-both (map pair_meant) (loop (assign_step makes_written room)) (loop (assign_step makes_expr room)) meant (answer_rule makes_written room)
    (answer_rule makes_expr room) (loop-meant room) (answer-meant room)

-- whatever stands behind the locals
function-image : {B C : Type 0} (f : B → C) (p : Rule Kind B) (q : Rule Kind C) → Image f p q
    → Image (λ v. (v.0, f v.1)) (function_rule p) (function_rule q)
function-image f p q image =
    image-on _ _ _ _ (image-on _ _ _ _ (image-on _ _ _ _ (image-on _ _ _ _
    (image-both (λ a. a) (loop local_step) (loop local_step) f p q (image-self (loop local_step)) image))))

pub whole-image : {B C : Type 0} (f : B → C) (p : Rule Kind B) (q : Rule Kind C) → Image f p q
    → Image (λ v. (v.0, (v.1.0, (v.1.1.0, f v.1.1.1)))) (whole_rule p) (whole_rule q)
whole-image f p q image =
    image-both (λ a. a) (loop state_step) (loop state_step) (λ v. (v.0, (v.1.0, f v.1.1))) (both (loop global_step) (function_rule p))
    (both (loop global_step) (function_rule q)) (image-self (loop state_step))
    (image-both (λ a. a) (loop global_step) (loop global_step) (λ v. (v.0, f v.1)) (function_rule p) (function_rule q)
    (image-self (loop global_step)) (function-image f p q image))

text-meant : (room : ℕ) → Image parts_meant (text_rule makes_written room) (text_rule makes_expr room)
text-meant room =
    image-mapped _ (whole_rule (body_rule makes_written room)) (whole_rule (body_rule makes_expr room)) parts_of parts_meant parts_of (λ found. refl)
    (whole-image (λ v. (map pair_meant v.0, meant v.1)) (body_rule makes_written room) (body_rule makes_expr room) (body-meant room))

pub whole-meant : (room : ℕ) (tokens : List Kind) → whole (text_rule makes_expr room) tokens ≡ made parts_meant (whole (text_rule makes_written room) tokens)
whole-meant room tokens = sym (ap end_of (text-meant room tokens)) ∙ end-made parts_meant (text_rule makes_written room tokens)

pub whole-written : (room : ℕ) (tokens : List Kind) → whole (mapped written_of (text_rule makes_written room)) tokens
    ≡ made written_of (whole (text_rule makes_written room) tokens)
whole-written room tokens = end-made written_of (text_rule makes_written room tokens)

-- what is written and what it means are the same program
pub body-means : (body : List (List ℕ × Written)) → map expr_assign (map pair_meant body) ≡ map assign_meant (map written_assign body)
body-means [] = refl
body-means (a ∷ body) = ap (λ l. assign_meant (written_assign a) ∷ l) (body-means body)

pub parts-means : (p : Parts Written) → expr_program (parts_meant p) ≡ program_meant (written_of p)
parts-means p = ap (λ body. record { states = p.states; globals = p.globals; locals = p.locals; body = body; answer = meant p.answer }) (body-means p.body)

-- Inner: the reading function makes what is meant of what is written: rules for the one are images of rules for the other.
use Rattle.std.proofs.Common.{◌≡◌, ℕ, List, map, refl, sym, ◌∙◌, ap}
use Rattle.base_reader.specs.Readings.{both, trail, on, the, loop, end_of, whole}
use Rattle.base_reader.proofs.Exports.{Advances}
use Rattle.net_expressions.specs.Trees.{Expr}
use Rattle.net_expressions.specs.Grammar.{Written, meant}
use Rattle.net_expressions.specs.Reading.{makes_expr, makes_written}
use Rattle.net_expressions.proofs.Exports.{Image, image-mapped, image-both, image-trail, image-on, image-maybe, image-loop, image-self, image-advances, made}
use Rattle.net_expressions.proofs.Exports.{end-made, expr-meant}
use Rattle.vlog_text.specs.Tokens.{Kind, AssignWord, Semicolon, Equals}
use Rattle.vlog_text.specs.Grammar.{is, sign, name, assign_meant, source_meant}
use Rattle.vlog_read.specs.Reading.{expr, head_rule, declaration_step, initial_step, assign_behind, assign_rule, assign_step, clocked_rule}
use Rattle.vlog_read.specs.Reading.{Found, source_of, found_rule, text_rule}
use Rattle.vlog_read.proofs.TextLaws.{assign-advances}

behind-meant : (room : ℕ) → Image assign_meant (assign_behind makes_written room) (assign_behind makes_expr room)
behind-meant room =
    image-mapped (λ v. (v.0, meant v.1)) (both (the name) (on (is Equals) (λ _. trail (expr makes_written room) (the (is Semicolon)))))
    (both (the name) (on (is Equals) (λ _. trail (expr makes_expr room) (the (is Semicolon)))))
    (λ found. record { target = found.0; value = found.1 }) assign_meant (λ found. record { target = found.0; value = found.1 }) (λ found. refl)
    (image-both (λ a. a) (the name) (the name) meant (on (is Equals) (λ _. trail (expr makes_written room) (the (is Semicolon))))
    (on (is Equals) (λ _. trail (expr makes_expr room) (the (is Semicolon)))) (image-self (the name))
    (image-on meant (is Equals) (trail (expr makes_written room) (the (is Semicolon))) (trail (expr makes_expr room) (the (is Semicolon)))
    (image-trail meant (expr makes_written room) (expr makes_expr room) (the (is Semicolon)) (expr-meant sign room))))

assign-meant : (room : ℕ) → Image assign_meant (assign_rule makes_written room) (assign_rule makes_expr room)
assign-meant room = image-on assign_meant (is AssignWord) (assign_behind makes_written room) (assign_behind makes_expr room) (behind-meant room)

pub assigns-mean : (room : ℕ) → Advances (assign_step makes_expr room)
assigns-mean room =
    image-advances assign_meant (assign_step makes_written room) (assign_step makes_expr room)
    (image-maybe assign_meant (is AssignWord) (assign_rule makes_written room) (assign_rule makes_expr room) (assign-meant room)) (assign-advances room)

abbrev pub found_meant : Found Written → Found Expr
found_meant f = (f.0, (f.1.0, (f.1.1.0, (map assign_meant f.1.1.1.0, f.1.1.1.1))))

found-meant : (room : ℕ) → Image found_meant (found_rule makes_written room) (found_rule makes_expr room)
found-meant room =
    image-both (λ a. a) head_rule head_rule (λ v. (v.0, (v.1.0, (map assign_meant v.1.1.0, v.1.1.1))))
    (both (loop declaration_step) (both (loop initial_step) (both (loop (assign_step makes_written room)) clocked_rule)))
    (both (loop declaration_step) (both (loop initial_step) (both (loop (assign_step makes_expr room)) clocked_rule)))
    (image-self head_rule)
    (image-both (λ a. a) (loop declaration_step) (loop declaration_step) (λ v. (v.0, (map assign_meant v.1.0, v.1.1)))
    (both (loop initial_step) (both (loop (assign_step makes_written room)) clocked_rule))
    (both (loop initial_step) (both (loop (assign_step makes_expr room)) clocked_rule)) (image-self (loop declaration_step))
    (image-both (λ a. a) (loop initial_step) (loop initial_step) (λ v. (map assign_meant v.0, v.1))
    (both (loop (assign_step makes_written room)) clocked_rule) (both (loop (assign_step makes_expr room)) clocked_rule)
    (image-self (loop initial_step))
    (image-both (map assign_meant) (loop (assign_step makes_written room)) (loop (assign_step makes_expr room)) (λ a. a) clocked_rule clocked_rule
    (image-loop assign_meant (assign_step makes_written room) (assign_step makes_expr room)
    (image-maybe assign_meant (is AssignWord) (assign_rule makes_written room) (assign_rule makes_expr room) (assign-meant room)))
    (image-self clocked_rule))))

text-meant : (room : ℕ) → Image source_meant (text_rule makes_written room) (text_rule makes_expr room)
text-meant room =
    image-mapped found_meant (found_rule makes_written room) (found_rule makes_expr room) source_of source_meant source_of (λ found. refl) (found-meant room)

pub whole-meant : (room : ℕ) (tokens : List Kind) → whole (text_rule makes_expr room) tokens ≡ made source_meant (whole (text_rule makes_written room) tokens)
whole-meant room tokens = sym (ap end_of (text-meant room tokens)) ∙ end-made source_meant (text_rule makes_written room tokens)

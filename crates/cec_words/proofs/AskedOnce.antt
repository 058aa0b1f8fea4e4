-- Inner: what is given has no option twice, and what is asked of two files.
use Rattle.std.proofs.Common.{◌≡◌, ℕ, ◌≤◌, Bool, true, false, List, [], ◌∷◌, length, refl, sym, ap, ◌∙◌, Option, Some, None}
use Rattle.std.specs.Prelude.{nat_le, if◌then◌else◌, option_map, option_and_then}
use Rattle.std.specs.Cmp.Derive.{both_true}
use Rattle.std.specs.Option.{option_to_list}
use Rattle.cec_words.specs.declared.asked.Asked.{Asked}
use Rattle.cec_words.specs.declared.given.Files.{Files}
use Rattle.cec_words.specs.declared.given.Files.TheVariants as kept
use Rattle.cec_words.specs.declared.given.Given.{Given}
use Rattle.cec_words.specs.declared.steps.Way as code_ways
use Rattle.cec_words.specs.CommandNames as commands
use Rattle.cec_words.specs.CommandNames.{Command}
use Rattle.cec_words.specs.Readings.{each_once, head, on_two, asked, asked_once, run_asked, exec_asked}
use Rattle.cec_words.specs.Slots.{files_list, flag_list, both_files, slots}
use Rattle.cec_words.specs.Views.{plain_way}

one-value : {X : Type 0} (o : Option X) → nat_le (length (option_to_list o)) 1 ≡ true
one-value None = refl
one-value (Some x) = refl

one-flag : (b : Bool) → nat_le (length (flag_list b)) 1 ≡ true
one-flag true = refl
one-flag false = refl

slots-once : (g : Given) → each_once (slots g) ≡ true
slots-once g =
    both_true (both_true (both_true (both_true (both_true (both_true (both_true (one-value (option_map plain_way g.via)) (one-value g.main)) (one-value g.pick))
    (one-value g.start)) (one-value g.branches)) (one-value g.run)) (one-flag g.encode)) (one-flag g.guard)

once-asked : (command : Command) (g : Given) → asked_once command (slots g) ≡ asked command (slots g)
once-asked command g = ap (λ b. if b then asked command (slots g) else None) (slots-once g)

two-made : (make : ℕ → ℕ → Option Asked) (files : Files) (f t : ℕ) → both_files files ≡ Some (f, t) → on_two make (files_list files) ≡ make f t
two-made make kept.None f t is = cc
two-made make (kept.One a) f t is = cc
two-made make (kept.Two a b) f t is =
    let both : (a, b) ≡ (f, t) = cc in
    ap (λ (k : ℕ × ℕ). make k.0 k.1) both

-- a run of a source, and of a text
pub run-once : (g : Given) (f t : ℕ) (way : code_ways.Way) → both_files g.files ≡ Some (f, t) → g.via ≡ Some way
    → run_asked (slots g) (plain_way way) f t ≡ asked_once commands.Run (slots g)
run-once g f t way files via =
    sym (once-asked commands.Run g
    ∙ two-made (λ f t. option_and_then (λ w. run_asked (slots g) w f t) (head (option_to_list (option_map plain_way g.via)))) g.files f t files
    ∙ ap (λ o. option_and_then (λ w. run_asked (slots g) w f t) (head (option_to_list (option_map plain_way o)))) via)

pub exec-once : (g : Given) (f t : ℕ) (way : code_ways.Way) → both_files g.files ≡ Some (f, t) → g.via ≡ Some way
    → exec_asked (plain_way way) f t ≡ asked_once commands.Exec (slots g)
exec-once g f t way files via =
    sym (once-asked commands.Exec g
    ∙ two-made (λ f t. option_and_then (λ w. exec_asked w f t) (head (option_to_list (option_map plain_way g.via)))) g.files f t files
    ∙ ap (λ o. option_and_then (λ w. exec_asked w f t) (head (option_to_list (option_map plain_way o)))) via)

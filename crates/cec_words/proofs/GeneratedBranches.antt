-- Words that ask for a generated source give a number of branches for which there is one.
use Rattle.std.proofs.Common.{ℕ, ◌+◌, ◌<◌, ◌≤◌, Bool, true, false, ◌&&◌, nat_le, List, [], ◌∷◌, Option, Some, None, refl, arith, All, ◌≡◌}
use Rattle.std.specs.Prelude.{⊤, IfSome, if◌then◌else◌, option_map, option_and_then}
use Rattle.std.proofs.lemmas.Bool.{leb-true, and_parts}
use Rattle.std.proofs.lemmas.List.Elements.{All-nil, All-cons, All-head}
use Rattle.base_types.specs.declared.bounds.TheConstants.Limits.{BRANCHES, LOAD_INSTANTS}
use Rattle.base_types.specs.Names.{is_same_name}
use Rattle.std.specs.Prelude.{codes}
use Rattle.cec_words.specs.declared.asked.Asked.{Asked}
use Rattle.cec_words.specs.declared.asked.Asked.TheVariants as asks
use Rattle.cec_words.specs.declared.asked.Source.{Source}
use Rattle.cec_words.specs.declared.asked.Value.{Value}
use Rattle.cec_words.specs.declared.asked.Via.TheVariants as vias
use Rattle.cec_words.specs.CommandNames as commands
use Rattle.cec_words.specs.CommandNames.{Command}
use Rattle.cec_words.specs.OptionNames as settings
use Rattle.cec_words.specs.OptionNames.{Setting}
use Rattle.cec_words.specs.Parts as parts
use Rattle.cec_words.specs.Parts.{Spelling, Bare, Valued, Part, WordStep, Waits, Ends, Way, Text, Tri}
use Rattle.cec_words.specs.CommonWords.{is_plain}
use Rattle.cec_words.specs.Commands.{command_of, options, way_of, pick_of, named, number_within, part_of, spelled_step, step_of}
use Rattle.cec_words.specs.Numbers.{number, is_empty}
use Rattle.cec_words.specs.Readings.{Gathered, with_part, after_step, gathered, head, each_once, source, run_asked, exec_asked, on_one, on_two, asked}
use Rattle.cec_words.specs.Readings.{asked_once, asked_behind, asked_by}

-- a number of branches for which there is a generated source
abbrev pub IsGood : ℕ → Type 0
IsGood n = (0 < n) × (n ≤ BRANCHES)

-- ---- one word

abbrev GoodPart : Part → Type 0
GoodPart (parts.Branches n) = IsGood n
GoodPart others = ⊤

abbrev GoodStep : WordStep → Type 0
GoodStep (Ends part) = GoodPart part
GoodStep (Waits setting) = ⊤

made : {X Y : Type 0} (Q : Y → Type 0) (make : X → Y) → ((x : X) → Q (make x)) → (o : Option X) → IfSome (option_map make o) Q
made Q make all None = tt
made Q make all (Some x) = all x

number_good : (value : List ℕ) → IfSome (number_within 1 BRANCHES value) IsGood
number_good value = by (number value)
  where
    inside : (n : ℕ) (b : Bool) → (nat_le 1 n && nat_le n BRANCHES) ≡ b → IfSome (if b then Some n else None) IsGood
    inside n false e = tt
    inside n true e =
        let both = and_parts (nat_le 1 n) (nat_le n BRANCHES) e in
        (omega (arith, leb-true 1 n both.0), leb-true n BRANCHES both.1)

    by : (o : Option ℕ) → IfSome (option_and_then (λ n. if nat_le 1 n && nat_le n BRANCHES then Some n else None) o) IsGood
    by None = tt
    by (Some n) = inside n (nat_le 1 n && nat_le n BRANCHES) refl

branches_good : (o : Option ℕ) → IfSome o IsGood → IfSome (option_map parts.Branches o) GoodPart
branches_good None good = tt
branches_good (Some n) good = good

part_good : (setting : Setting) (place : Value) (value : List ℕ) → IfSome (part_of setting place value) GoodPart
part_good settings.Main place value = tt
part_good settings.Via place value = made GoodPart parts.Via (λ v. tt) (way_of value)
part_good settings.Pick place value = made GoodPart parts.Pick (λ p. tt) (pick_of value)
part_good settings.Start place value = made GoodPart parts.Start (λ n. tt) (number value)
part_good settings.Branches place value = branches_good (number_within 1 BRANCHES value) (number_good value)
part_good settings.Encode place value = tt
part_good settings.Guard place value = tt
part_good settings.Run place value = made GoodPart parts.Run (λ n. tt) (number_within 0 LOAD_INSTANTS value)

ends_good : (o : Option Part) → IfSome o GoodPart → IfSome (option_map Ends o) GoodStep
ends_good None good = tt
ends_good (Some part) good = good

bare_good : (at : ℕ) (word : List ℕ) (setting : Setting) → IfSome (spelled_step at word (Bare setting)) GoodStep
bare_good at word settings.Main = tt
bare_good at word settings.Via = tt
bare_good at word settings.Pick = tt
bare_good at word settings.Start = tt
bare_good at word settings.Branches = tt
bare_good at word settings.Run = tt
bare_good at word settings.Encode = tt
bare_good at word settings.Guard = tt

spelled_good : (at : ℕ) (word : List ℕ) (o : Option Spelling) → IfSome (option_and_then (spelled_step at word) o) GoodStep
spelled_good at word None = tt
spelled_good at word (Some (Bare setting)) = bare_good at word setting
spelled_good at word (Some (Valued setting start)) = ends_good _ (part_good setting _ _)

step_good : (command : Command) (waiting : Option Setting) (at : ℕ) (word : List ℕ) → IfSome (step_of command waiting at word) GoodStep
step_good command (Some setting) at word = by (is_plain word)
  where
    by : (b : Bool) → IfSome (if b then option_map Ends (part_of setting (record { word = at; start = 0 }) word) else None) GoodStep
    by true = ends_good _ (part_good setting _ _)
    by false = tt
step_good command None at word = by (is_plain word)
  where
    by : (b : Bool) → IfSome (if b then Some (Ends (parts.File at)) else option_and_then (spelled_step at word) (named (options command) word)) GoodStep
    by true = tt
    by false = spelled_good at word (named (options command) word)

-- ---- all words

abbrev AreGood : Gathered → Type 0
AreGood g = All IsGood g.branches

with_good : (part : Part) (g : Gathered) → GoodPart part → AreGood g → AreGood (with_part part g)
with_good (parts.File at) g good all = all
with_good (parts.Via v) g good all = all
with_good (parts.Main v) g good all = all
with_good (parts.Pick p) g good all = all
with_good (parts.Start n) g good all = all
with_good (parts.Branches n) g good all = All-cons IsGood n g.branches good all
with_good (parts.Run n) g good all = all
with_good parts.Encode g good all = all
with_good parts.Guard g good all = all

after_good : (rest : Option Setting → Option Gathered) (o : Option WordStep) → IfSome o GoodStep → ((w : Option Setting) → IfSome (rest w) AreGood) →
    IfSome (after_step rest o) AreGood
after_good rest None good all = tt
after_good rest (Some (Waits setting)) good all = all (Some setting)
after_good rest (Some (Ends part)) good all = by (rest None) (all None)
  where
    by : (o : Option Gathered) → IfSome o AreGood → IfSome (option_map (with_part part) o) AreGood
    by None is = tt
    by (Some g) is = with_good part g good is

gathered_good : (command : Command) (waiting : Option Setting) (at : ℕ) (words : List (List ℕ)) → IfSome (gathered command waiting at words) AreGood
gathered_good command None at [] = All-nil IsGood
gathered_good command (Some setting) at [] = tt
gathered_good command None at (word ∷ words) =
    after_good (λ w. gathered command w (at + 1) words) (step_of command None at word) (step_good command None at word)
    (λ w. gathered_good command w (at + 1) words)
gathered_good command (Some setting) at (word ∷ words) =
    after_good (λ w. gathered command w (at + 1) words) (step_of command (Some setting) at word) (step_good command (Some setting) at word)
    (λ w. gathered_good command w (at + 1) words)

-- ---- what is asked

-- of what is asked for, a generated source has a number of branches for which there is one
abbrev pub AsksWell : Asked → Type 0
AsksWell (asks.Gen start branches instants) = IsGood branches
AsksWell others = ⊤

one_well : (make : ℕ → Asked) → ((f : ℕ) → AsksWell (make f)) → (files : List ℕ) → IfSome (on_one make files) AsksWell
one_well make all [] = tt
one_well make all (file ∷ []) = all file
one_well make all (file ∷ other ∷ files) = tt

two_well : (make : ℕ → ℕ → Option Asked) → ((f t : ℕ) → IfSome (make f t) AsksWell) → (files : List ℕ) → IfSome (on_two make files) AsksWell
two_well make all [] = tt
two_well make all (file ∷ []) = tt
two_well make all (file ∷ trace ∷ []) = all file trace
two_well make all (file ∷ trace ∷ other ∷ files) = tt

generated_well : (branches starts : List ℕ) (runs : Option ℕ) → All IsGood branches
    → IfSome (option_and_then (λ s. option_map (λ b. asks.Gen s b runs) (head branches)) (head starts)) AsksWell
generated_well branches [] runs all = tt
generated_well [] (s ∷ starts) runs all = tt
generated_well (b ∷ branches) (s ∷ starts) runs all = All-head IsGood b branches all

run_well : (g : Gathered) (f t : ℕ) (o : Option Way) → IfSome (option_and_then (λ w. run_asked g w f t) o) AsksWell
run_well g f t None = tt
run_well g f t (Some (Text vias.Blif)) = tt
run_well g f t (Some (Text vias.C)) = by (source g f).encode
  where
    by : (b : Bool) → IfSome (if b then None else Some (asks.Run vias.C (source g f) t)) AsksWell
    by true = tt
    by false = tt
run_well g f t (Some (Text vias.Guard)) = by (source g f).encode
  where
    by : (b : Bool) → IfSome (if b then None else Some (asks.Run vias.Guard (source g f) t)) AsksWell
    by true = tt
    by false = tt
run_well g f t (Some (Text vias.Verilog)) = by (source g f).encode
  where
    by : (b : Bool) → IfSome (if b then None else Some (asks.Run vias.Verilog (source g f) t)) AsksWell
    by true = tt
    by false = tt
run_well g f t (Some Tri) = by (is_empty g.picks && is_empty g.encodes)
  where
    by : (b : Bool) → IfSome (if b then Some (asks.RunTri (source g f) t) else None) AsksWell
    by true = tt
    by false = tt

exec_well : (f t : ℕ) (o : Option Way) → IfSome (option_and_then (λ w. exec_asked w f t) o) AsksWell
exec_well f t None = tt
exec_well f t (Some (Text v)) = tt
exec_well f t (Some Tri) = tt

asked_well : (command : Command) (g : Gathered) → AreGood g → IfSome (asked command g) AsksWell
asked_well commands.Blif g all = one_well (λ f. asks.Blif (source g f)) (λ f. tt) g.files
asked_well commands.C g all = one_well (λ f. asks.C (source g f)) (λ f. tt) g.files
asked_well commands.Verilog g all = one_well (λ f. asks.Verilog (source g f)) (λ f. tt) g.files
asked_well commands.Grc g all = one_well (λ f. asks.Grc (source g f)) (λ f. tt) g.files
asked_well commands.Check g all = one_well (λ f. asks.Check (source g f)) (λ f. tt) g.files
asked_well commands.Run g all =
    two_well (λ f t. option_and_then (λ w. run_asked g w f t) (head g.vias)) (λ f t. run_well g f t (head g.vias)) g.files
asked_well commands.Exec g all =
    two_well (λ f t. option_and_then (λ w. exec_asked w f t) (head g.vias)) (λ f t. exec_well f t (head g.vias)) g.files
asked_well commands.Gen g all = by (is_empty g.files)
  where
    by : (b : Bool) → IfSome (if b
        then option_and_then (λ s. option_map (λ b. asks.Gen s b (head g.runs)) (head g.branches)) (head g.starts) else None) AsksWell
    by true = generated_well g.branches g.starts (head g.runs) all
    by false = tt

once_well : (command : Command) (o : Option Gathered) → IfSome o AreGood → IfSome (option_and_then (asked_once command) o) AsksWell
once_well command None all = tt
once_well command (Some g) all = by (each_once g)
  where
    by : (b : Bool) → IfSome (if b then asked command g else None) AsksWell
    by true = asked_well command g all
    by false = tt

behind_well : (words : List (List ℕ)) (o : Option Command) → IfSome (option_and_then (asked_behind words) o) AsksWell
behind_well words None = tt
behind_well words (Some command) = once_well command (gathered command None 1 words) (gathered_good command None 1 words)

pub asks-well : (words : List (List ℕ)) → IfSome (asked_by words) AsksWell
asks-well [] = tt
asks-well (word ∷ words) = by (is_same_name word (codes "--help"))
  where
    help : (b : Bool) → IfSome (if b then Some asks.Help else None) AsksWell
    help true = tt
    help false = tt

    by : (b : Bool) → IfSome (if b then (if is_empty words then Some asks.Help else None) else option_and_then (asked_behind words) (command_of word)) AsksWell
    by true = help (is_empty words)
    by false = behind_well words (command_of word)

-- The lines of a text, taken one after another.
use Rattle.std.proofs.Common.{◌≡◌, ℕ, ◌-◌, ◌<◌, Bool, true, false, not, List, [], ◌∷◌, ◌++◌, length, map, refl, sym, ap, ◌∙◌, arith, append_assoc}
use Rattle.std.proofs.Common.{Option, Some, None, suc}
use Rattle.std.specs.Prelude.{slice_get, flat_map, filter_map, if◌then◌else◌}
use Rattle.std.specs.Bool.{OnTrue}
use Rattle.std.specs.Option.{option_map, option_to_list}
use Rattle.std.proofs.lemmas.Bool.{not-true, not-false, both_ways}
use Rattle.blif_text.specs.Lines.{Line, is_clean, words}
use Rattle.std.proofs.lemmas.List.Elements.{filter_map-append}
use Rattle.blif_text.specs.Statements.{Statement, Model, Inputs, Outputs, Latch, Names, Row, End, Said, statement_of, said_by, said_in, is_end, is_refused}
use Rattle.blif_text.specs.Statements.{first_refused}
use Rattle.blif_read.specs.PlainStatements.{last_of}

-- the last one, and what it is made of
pub last_of-map : {X : Type 0} (f : X → Statement) (xs : List X) → last_of (map f xs) ≡ option_map f (slice_get xs (length xs - 1))
last_of-map f [] = refl
last_of-map f (x ∷ []) = refl
last_of-map f (x ∷ y ∷ xs) =
    let e : length (x ∷ y ∷ xs) - 1 ≡ suc (length (y ∷ xs) - 1) = omega arith in
    last_of-map f (y ∷ xs) ∙ ap (λ n. option_map f (slice_get (x ∷ y ∷ xs) n)) (sym e)

-- a text may end behind `.end` alone
pub first_refused-last : (after : ℕ) (s : Statement) → first_refused after (Some s) [] ≡ (if is_end s then None else Some after)
first_refused-last after (Model name) = refl
first_refused-last after (Inputs names) = refl
first_refused-last after (Outputs names) = refl
first_refused-last after (Latch source target init) = refl
first_refused-last after (Names inputs output) = refl
first_refused-last after (Row cells) = refl
first_refused-last after End = refl

-- what more lines say, behind those so far
pub says-more : (before : List Statement) (here more : List Said)
    → before ++ filter_map (λ line. line.says) (here ++ more) ≡ (before ++ filter_map (λ line. line.says) here) ++ filter_map (λ line. line.says) more
says-more before here more =
    ap (λ l. before ++ l) (filter_map-append (λ (line : Said). line.says) here more) ∙ sym (append_assoc before _ _)

-- the last one, by what `last` answers
pub last_of-last : {X : Type 0} (f : X → Statement) (xs : List X) (last : Option X) → last ≡ slice_get xs (length xs - 1)
    → option_map f last ≡ last_of (map f xs)
last_of-last f xs last is = ap (option_map f) is ∙ sym (last_of-map f xs)

last_of-push : (before : List Statement) (s : Statement) → last_of (before ++ s ∷ []) ≡ Some s
last_of-push [] s = refl
last_of-push (t ∷ []) s = refl
last_of-push (t ∷ u ∷ before) s = last_of-push (u ∷ before) s

-- whether a line is refused, whatever stands behind it
refused-step : (after number : ℕ) (before says : Option Statement) (more : List Said)
    → first_refused after before (record { number = number; says = says } ∷ more) ≡
    (if is_refused before says then Some number else first_refused after says more)
refused-step after number None says more = refl
refused-step after number (Some s) says more = refl

-- a line that was taken, or not, where it was asked whether it may stand there
pub place-put : (taken : Bool) (old new : List Statement) (says : Option Statement) → taken ≡ not (is_refused (last_of old) says)
    → OnTrue taken (new ≡ old ++ option_to_list says) → (number after : ℕ) (more : List Said)
    → first_refused after (last_of old) (record { number = number; says = says } ∷ more) ≡
    (if taken then first_refused after (last_of new) more else Some number)
place-put false old new says is same number after more =
    let refused : is_refused (last_of old) says ≡ true = not-false _ (sym is) in
    refused-step after number (last_of old) says more ∙ rw refused refl
place-put true old new None is same number after more = absurd (both_ways (not (is_refused (last_of old) None)) (refuses_none (last_of old)) (sym is))
  where
    refuses_none : (before : Option Statement) → not (is_refused before None) ≡ false
    refuses_none before = refl
place-put true old new (Some s) is same number after more =
    let taken : is_refused (last_of old) (Some s) ≡ false = not-true _ (sym is) in
    refused-step after number (last_of old) (Some s) more ∙ rw taken (ap (λ o. first_refused after o more) (sym (ap last_of same ∙ last_of-push old s)))

-- what is said in a line of words
pub said_in-words : (line : Line) → is_clean line.bytes ≡ true → 0 < length (words line.bytes)
    → said_in line ≡ record { number = line.number; says = statement_of (words line.bytes) } ∷ []
said_in-words line clean some = rw clean (go (words line.bytes) some)
  where
    go : (ws : List (List ℕ)) → 0 < length ws → said_by line.number ws ≡ record { number = line.number; says = statement_of ws } ∷ []
    go [] none = absurd (omega arith)
    go (w ∷ ws) s = refl

pub filter_map-says : (number : ℕ) (says : Option Statement)
    → filter_map (λ (said : Said). said.says) (record { number = number; says = says } ∷ []) ≡ option_to_list says
filter_map-says number None = refl
filter_map-says number (Some s) = refl

-- one more line is not refused
pub refused-more : (after : ℕ) (whole : Option ℕ) (taken : Bool) (old new : List Statement) (line : Line) (lines more : List Line) (number : ℕ)
    → whole ≡ first_refused after (last_of old) (flat_map said_in lines) → lines ≡ line ∷ more
    → ((a : ℕ) (rest : List Said) → first_refused a (last_of old) (said_in line ++ rest) ≡ (if taken then first_refused a (last_of new) rest else Some number))
    → taken ≡ true → whole ≡ first_refused after (last_of new) (flat_map said_in more)
refused-more after whole taken old new line lines more number before are place went =
    before ∙ ap (λ ls. first_refused after (last_of old) (flat_map said_in ls)) are ∙ place after (flat_map said_in more)
    ∙ ap (λ b. if b then first_refused after (last_of new) (flat_map said_in more) else Some number) went

-- and adds what it says
pub says-next : (whole : List Statement) (taken : Bool) (old new : List Statement) (line : Line) (lines more : List Line)
    → whole ≡ old ++ filter_map (λ said. said.says) (flat_map said_in lines) → lines ≡ line ∷ more
    → OnTrue taken (new ≡ old ++ filter_map (λ said. said.says) (said_in line)) → taken ≡ true
    → whole ≡ new ++ filter_map (λ said. said.says) (flat_map said_in more)
says-next whole false old new line lines more before are same went = absurd (both_ways false refl went)
says-next whole true old new line lines more before are same went =
    before ∙ ap (λ ls. old ++ filter_map (λ (said : Said). said.says) (flat_map said_in ls)) are
    ∙ says-more old (said_in line) (flat_map said_in more) ∙ ap (λ l. l ++ filter_map (λ (said : Said). said.says) (flat_map said_in more)) (sym same)

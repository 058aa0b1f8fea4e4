-- What texts show of a claim that holds of their program.
use Rattle.std.proofs.Common.{◌≡◌, ℕ, Bool, true, List, [], ◌∷◌, map, Option, Some, None, refl, sym, ap, ◌∙◌}
use Rattle.std.specs.List.{AllByRecursion, list_all}
use Rattle.std.proofs.lemmas.Bool.{and_parts, and_from}
use Rattle.base_machines.specs.Machines.{Machine}
use Rattle.est_kernel.specs.Plain.{Program}
use Rattle.est_kernel.specs.Reactions.{Answer}
use Rattle.blif_text.specs.Runs.{circuit_machine}
use Rattle.csub_text.specs.Machine.{program_machine}
use Rattle.vlog_text.specs.Machine.{vlog_machine}
use Rattle.cec_compile.specs.Meaning.{Keeps, Seen, seen_of, circuit_seen, call_seen, module_seen}
use Rattle.cec_prove_sources.specs.Claims.{ClaimHolds, claimed, is_present, meets_assumed}
use Rattle.cec_prove_sources.specs.TextClaims.{ShowsClaim, TextsShow, is_seen, sees_assumed}
use Rattle.cec_prove_sources.specs.declared.questions.Claim.{Claim}

assumed-seen : (assumed : Option ℕ) (a : Answer) → meets_assumed assumed a ≡ sees_assumed assumed (seen_of a)
assumed-seen None a = refl
assumed-seen (Some place) a = refl

all-meet : {X : Type 0} (see : X → Seen) (assumed : Option ℕ) (answers : List Answer) (xs : List X) → map seen_of answers ≡ map see xs
    → list_all (λ x. sees_assumed assumed (see x)) xs ≡ true → list_all (meets_assumed assumed) answers ≡ true
all-meet see assumed [] xs e sees = refl
all-meet see assumed (a ∷ answers) [] e sees = cc
all-meet see assumed (a ∷ answers) (x ∷ xs) e sees =
    let here : seen_of a ≡ see x = cc in
    let rest : map seen_of answers ≡ map see xs = cc in
    let parts = and_parts (sees_assumed assumed (see x)) (list_all (λ y. sees_assumed assumed (see y)) xs) sees in
    and_from (meets_assumed assumed a) (list_all (meets_assumed assumed) answers)
    (assumed-seen assumed a ∙ ap (sees_assumed assumed) here ∙ parts.0) (all-meet see assumed answers xs rest parts.1)

each-shown : {X : Type 0} (see : X → Seen) (place : ℕ) (b : Bool) (answers : List Answer) (xs : List X) → map seen_of answers ≡ map see xs
    → AllByRecursion (λ a. is_present place a ≡ b) answers → AllByRecursion (λ x. is_seen place (see x) ≡ b) xs
each-shown see place b answers [] e each = tt
each-shown see place b [] (x ∷ xs) e each = cc
each-shown see place b (a ∷ answers) (x ∷ xs) e each =
    let here : see x ≡ seen_of a = cc in
    let rest : map seen_of answers ≡ map see xs = cc in
    (ap (is_seen place) here ∙ each.0, each-shown see place b answers xs rest each.1)

machine-shows : {X : Type 0} (M : Machine X) (see : X → Seen) (p : Program) (claim : Claim) (place : ℕ) (assumed : Option ℕ) → Keeps M see p
    → ClaimHolds p claim place assumed → ShowsClaim M see p claim place assumed
machine-shows M see p claim place assumed keeps holds items are xs run sees =
    let k = keeps.runs items are in
    let h = holds items are in
    let same : h.0 ≡ k.0 = some-same h.0 k.0 (sym h.1 ∙ k.1) in
    let shown = ap (map seen_of) same ∙ k.2.each_run xs run in
    each-shown see place (claimed claim) h.0 xs shown (h.2 (all-meet see assumed h.0 xs shown sees))
  where
    some-same : (xs ys : List Answer) → Some xs ≡ Some ys → xs ≡ ys
    some-same xs ys e = cc

pub texts-show : (p : Program) (claim : Claim) (place : ℕ) (assumed : Option ℕ) → ClaimHolds p claim place assumed → TextsShow p claim place assumed
texts-show p claim place assumed holds = record {
  blif = λ text keeps. machine-shows (circuit_machine keeps.circuit) (circuit_seen p) p claim place assumed keeps.keeps holds;
  c = λ text keeps. machine-shows (program_machine keeps.program) (call_seen keeps.program) p claim place assumed keeps.keeps holds;
  verilog = λ text keeps. machine-shows (vlog_machine keeps.design) (module_seen p) p claim place assumed keeps.keeps holds;
}

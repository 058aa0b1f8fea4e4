use Rattle.std.proofs.Common.{◌≡◌, ℕ, get_or, inl, inr, sym, ◌∙◌, ap, arith}
use Rattle.std.proofs.lemmas.Bool.Decides.{not_from_Decides, eqb_tells}
use Rattle.std.proofs.lemmas.List.{get_or_default}
use Rattle.std.proofs.lemmas.Slice.Eq.{bytes_eq-Decides}
use Rattle.est_ast.specs.Spelling.{spelling}
use Rattle.est_ast.specs.declared.tokens.Reserved.TheVariants.{Abort}
use Rattle.est_lex.specs.declared.words.TheConstants.{WORDS}
use Rattle.est_lex.proofs.WordPlaces.{place, word_at_place, place_within}
use Rattle.est_lex.proofs.words.reserved.Goals as goal

pub loop-word-preserved : goal.loop-word-preserved
loop-word-preserved c = λ k d low same.
    let differs = not_from_Decides _ (bytes_eq-Decides c.args.text.now c.bytes_of.result.now) (sym c.eq.ensures ∙ c.if-eq.false) in
    let bytes : c.bytes_of.result.now ≡ spelling (get_or WORDS c.loop-word.word-index d) =
    c.bytes_of.ensures ∙ ap spelling (get_or_default WORDS c.loop-word.word-index _ d (omega arith)) in
    elim (eqb_tells k c.loop-word.word-index) [
      | inl here ↦ differs (same ∙ ap (λ (j : ℕ). spelling (get_or WORDS j d)) here.1 ∙ sym bytes)
      | inr there ↦ c.loop-word.invariant k d (omega arith) same
    ]

pub returns : goal.returns
returns c = λ other same.
    c.loop-word.invariant (place other) Abort (omega (arith, place_within other)) (same ∙ ap spelling (sym (word_at_place other)))

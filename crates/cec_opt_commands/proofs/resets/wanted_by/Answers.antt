use Rattle.std.specs.Prelude.{option_map, ok_or}
use Rattle.std.specs.String.{string_bytes}
use Rattle.std.proofs.Common.{◌≡◌, ℕ, List, Option, Result, ◌∷◌, ◌++◌, ◌+◌, None, drop, drop-cons, map, refl, suc, sym, ap, ◌∙◌, arith, codes}
use Rattle.cec_opt_texts.specs.Related.{result_then}
use Rattle.cec_opt_commands.specs.Resets.{Wanted, bad_word, needs_value, wanted_by, with_value, with_word}
use Rattle.cec_opt_commands.specs.Views.{wanted_is}
use Rattle.cec_opt_commands.proofs.WantedWords.{its-value, waiting-word, whole-word}
use Rattle.cec_opt_commands.proofs.resets.wanted_by.Goals as goal
use Rattle.cec_opt_commands.proofs.resets.wanted_by.Goals.{in-None+then-needs_value, in-None+else-needs_value+in-Some-with_word, in-Some+in-Some-with_value}

pub loop-word-preserved : goal.loop-word-preserved
loop-word-preserved c =
    let words = c.args.words.now in
    let i = c.loop-word.word-index in
    let rest = map string_bytes (drop (i + 1) words) in
    let key = option_map (λ k. k.now) c.loop-word.key in
    let more : suc i ≡ i + 1 = omega arith in
    let are : map string_bytes (drop i words) ≡ string_bytes c.word-item.result ∷ rest = ap (map string_bytes)
    (drop-cons words i c.word-item.result (omega arith) ∙ ap (λ s. s ∷ drop (suc i) words) (sym c.word-item.is)
    ∙ ap (λ n. c.word-item.result ∷ drop n words) more) in
    let left = map string_bytes (drop i words) in
    let word = string_bytes c.word-item.result in
    let wanted = wanted_is c.loop-word.with in
    let next : List ℕ → Option Wanted → Result Wanted (List ℕ) = λ fault o. result_then (λ n. wanted_by n None rest) (ok_or o fault) in
    elim c.match-key.branch [
      | in-None+then-needs_value w ↦ rw (w.with-is, w.key-is, w.as_bytes-then-needs_value.ensures.value)
          (waiting-word (wanted_by wanted) key left rest word (next (bad_word word) (with_word wanted word)) _ refl are
          (ap (option_map (λ k. k.now)) w.in-None.is)
          (ap needs_value (sym w.as_bytes.ensures.value) ∙ sym w.needs_value.ensures ∙ w.if-needs_value.true) c.loop-word.invariant)
      | in-None+else-needs_value+in-Some-with_word w ↦ rw (w.with-is, w.key-is, w.in-None.is)
          (whole-word (wanted_by wanted) key left rest word (next (bad_word word) (with_word wanted word)) _ _ refl are
          (ap (option_map (λ k. k.now)) w.in-None.is)
          (ap needs_value (sym w.as_bytes.ensures.value) ∙ sym w.needs_value.ensures ∙ w.if-needs_value.false)
          (ap (λ x. next (bad_word word) (with_word wanted x)) (sym w.deref.ensures)
          ∙ ap (next (bad_word word)) (sym w.with_word.ensures ∙ ap (option_map wanted_is) w.in-Some-with_word.is)) c.loop-word.invariant)
      | in-Some+in-Some-with_value w ↦ rw (w.with-is, w.key-is)
          (its-value (wanted_by wanted) (next (codes "bad option: " ++ w.in-Some.name.now) (with_value wanted w.in-Some.name.now word))
          (ap (option_map (λ k. k.now)) w.in-Some.is) are refl c.loop-word.invariant
          (ap (λ x. next (codes "bad option: " ++ w.in-Some.name.now) (with_value wanted w.in-Some.name.now x)) (sym w.deref-in-Some.ensures)
          ∙ ap (next (codes "bad option: " ++ w.in-Some.name.now)) (sym w.with_value.ensures ∙ ap (option_map wanted_is) w.in-Some-with_value.is)))
    ]

use Rattle.std.specs.Prelude.{option_map}
use Rattle.std.specs.String.{string_bytes}
use Rattle.std.proofs.Common.{◌≡◌, ℕ, List, Option, Result, ◌∷◌, ◌+◌, None, drop, drop-cons, map, refl, suc, sym, ap, ◌∙◌, arith}
use Rattle.cec_prove_commands.specs.Views.{job_is}
use Rattle.cec_prove_commands.specs.Words.{Job, Request, after_option, is_flag, job_asked, with_option, with_text}
use Rattle.cec_prove_commands.proofs.Options.{flag-word, key-word, value-word}
use Rattle.cec_prove_commands.proofs.words.job_asked.Goals as goal
use Rattle.cec_prove_commands.proofs.words.job_asked.Goals.{in-None+then-is_flag+in-Some-with_text, in-None+else-is_flag, in-Some+in-Some-with_option}

pub loop-word-preserved : goal.loop-word-preserved
loop-word-preserved c =
    let options = c.args.options.now in
    let i = c.loop-word.word-index in
    let rest = map string_bytes (drop (i + 1) options) in
    let key = option_map (λ k. k.now) c.loop-word.key in
    let more : suc i ≡ i + 1 = omega arith in
    let words : map string_bytes (drop i options) ≡ string_bytes c.word-item.result ∷ rest = ap (map string_bytes)
    (drop-cons options i c.word-item.result (omega arith) ∙ ap (λ s. s ∷ drop (suc i) options) (sym c.word-item.is)
    ∙ ap (λ n. c.word-item.result ∷ drop n options) more) in
    let left = map string_bytes (drop i options) in
    let word = string_bytes c.word-item.result in
    let job = job_is c.loop-word.with in
    let next : List ℕ → Option Job → Result Request (List ℕ) = λ k. after_option k (λ n. job_asked n None rest) in
    elim c.match-key.branch [
      | in-None+then-is_flag+in-Some-with_text w ↦ rw (w.with-is, w.key-is, w.in-None.is)
          (flag-word (job_asked job) key left rest word (next word (with_text job)) _ _ refl words (ap (option_map (λ k. k.now)) w.in-None.is)
          (ap is_flag (sym w.as_bytes.ensures.value) ∙ sym w.is_flag.ensures ∙ w.if-is_flag.true)
          (ap (next word) (sym w.with_text.ensures ∙ ap (option_map job_is) w.in-Some-with_text.is)) c.loop-word.invariant)
      | in-None+else-is_flag w ↦ rw (w.with-is, w.key-is, w.as_bytes-else-is_flag.ensures.value)
          (key-word (job_asked job) key left rest word (next word (with_text job)) _ refl words (ap (option_map (λ k. k.now)) w.in-None.is)
          (ap is_flag (sym w.as_bytes.ensures.value) ∙ sym w.is_flag.ensures ∙ w.if-is_flag.false) c.loop-word.invariant)
      | in-Some+in-Some-with_option w ↦ rw (w.with-is, w.key-is)
          (value-word (job_asked job) key w.in-Some.name.now left rest w.as_bytes-in-Some.result.now
          (next w.in-Some.name.now (with_option job w.in-Some.name.now w.as_bytes-in-Some.result.now)) _ _ refl
          (words ∙ ap (λ b. b ∷ rest) (sym w.as_bytes-in-Some.ensures.value)) (ap (option_map (λ k. k.now)) w.in-Some.is)
          (ap (next w.in-Some.name.now) (sym w.with_option.ensures ∙ ap (option_map job_is) w.in-Some-with_option.is)) c.loop-word.invariant)
    ]

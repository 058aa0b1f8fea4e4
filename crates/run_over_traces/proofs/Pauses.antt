-- Inner: the outputs of a net and a last one that says whether it pauses, told as the net tells them.
use Rattle.std.proofs.Common.{◌≡◌, ℕ, ◌-◌, Bool, true, false, if◌then◌else◌, List, [], ◌∷◌, ◌++◌, length, map, take, get_or, refl, sym, ap, ◌∙◌}
use Rattle.std.proofs.lemmas.List.{length-map}
use Rattle.std.proofs.Math.Seq.{take-append_seam, get_or-append_seam}
use Rattle.base_facts.proofs.Lists.{last-is, last-place}
use Rattle.base_types.specs.Names.{is_same_name}
use Rattle.base_types.proofs.Exports.{same_name-self}
use Rattle.net_ir.specs.declared.netlist.NetOut.{NetOut}
use Rattle.net_ir.specs.Gates.{value_in}
use Rattle.net_ir.specs.Netlists.{Netlist}
use Rattle.net_ir.specs.Runs.{Shown, shown}
use Rattle.run_trace_io.specs.declared.lines.Word.{Word}
use Rattle.run_trace_io.specs.declared.lines.Word.TheVariants.{Bare}
use Rattle.run_over_traces.specs.Languages.{shown_answer, word_of}
use Rattle.run_over_traces.specs.Pauses.{tells_pause, listed_count, answer_of}

module _ (paused : List ℕ) where
  tells-last : (names : List (List ℕ)) → tells_pause paused (names ++ paused ∷ []) ≡ true
  tells-last names = ap (is_same_name paused) (last-is names paused []) ∙ same_name-self paused

  pub listed-last : (names : List (List ℕ)) → listed_count paused (names ++ paused ∷ []) ≡ length names
  listed-last names =
      ap (λ b. if b then length (names ++ paused ∷ []) - 1 else length (names ++ paused ∷ [])) (tells-last names) ∙ last-place names paused

  answer-last : (names : List (List ℕ)) (s : Shown) → length s.outputs ≡ length names
      → answer_of paused (names ++ paused ∷ []) (s.outputs ++ s.paused ∷ []) ≡ shown_answer s
  answer-last names s same =
      let tells = tells-last names in
      let count : listed_count paused (names ++ paused ∷ []) ≡ length s.outputs = listed-last names ∙ sym same in
      let place : length (names ++ paused ∷ []) - 1 ≡ length s.outputs = last-place names paused ∙ sym same in
      let first : take (listed_count paused (names ++ paused ∷ [])) (s.outputs ++ s.paused ∷ []) ≡ s.outputs =
      ap (λ k. take k (s.outputs ++ s.paused ∷ [])) count ∙ take-append_seam s.outputs (s.paused ∷ []) in
      let value : get_or (s.outputs ++ s.paused ∷ []) (length (names ++ paused ∷ []) - 1) false ≡ s.paused =
      ap (λ k. get_or (s.outputs ++ s.paused ∷ []) k false) place ∙ get_or-append_seam s.outputs s.paused [] false in
      rw (first, tells, value) refl

  -- the rows of a net's run as answers
  pub answers-run : (net : Netlist) (names : List (List ℕ)) (runs : List (List Bool)) → length names ≡ length net.outputs
      → map (answer_of paused (names ++ paused ∷ [])) (map (λ (s : Shown). s.outputs ++ s.paused ∷ []) (map (shown net) runs))
      ≡ map shown_answer (map (shown net) runs)
  answers-run net names [] same = refl
  answers-run net names (values ∷ runs) same =
      let wide = length-map net.outputs (λ (o : NetOut). value_in values o.net.0) in
      let here = answer-last names (shown net values) (wide ∙ sym same) in
      ap (λ x. x ∷ map (answer_of paused (names ++ paused ∷ [])) (map (λ (s : Shown). s.outputs ++ s.paused ∷ []) (map (shown net) runs))) here
      ∙ ap (λ x. shown_answer (shown net values) ∷ x) (answers-run net names runs same)

  -- where the last output has another name, there is no word
  pub bare-word : (outputs : List (List ℕ)) (values : List Bool) → tells_pause paused outputs ≡ false → Bare ≡ (answer_of paused outputs values).word
  bare-word outputs values tells = sym (ap (λ b. if b then word_of (get_or values (length outputs - 1) false) else Bare) tells)

  -- and else it is that of the last value
  pub last-word : (outputs : List (List ℕ)) (values : List Bool) (word : Word) → tells_pause paused outputs ≡ true → length values ≡ length outputs
      → word ≡ word_of (get_or values (length values - 1) false) → word ≡ (answer_of paused outputs values).word
  last-word outputs values word tells same is =
      is ∙ ap (λ n. word_of (get_or values (n - 1) false)) same ∙ sym (ap (λ b. if b then word_of (get_or values (length outputs - 1) false) else Bare) tells)

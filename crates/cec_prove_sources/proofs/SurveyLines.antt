-- A survey with one more output.
use Rattle.std.proofs.Common.{◌≡◌, ℕ, Bool, true, ◌&&◌, List, [], ◌∷◌, ◌++◌, length, Option, refl, sym, ap, ◌∙◌, arith}
use Rattle.std.proofs.Math.Bool.{and-true}
use Rattle.std.proofs.lemmas.List.{append-nil, append_assoc}
use Rattle.std.proofs.lemmas.List.Folds.{list_all-append}
use Rattle.std.proofs.lemmas.Slice.Zip.{AllZip-long, all_zipped_more}
use Rattle.std.specs.List.{AllZip, list_all}
use Rattle.cec_prove_sources.specs.DeviceFindings.{AddsDevicePresence}
use Rattle.cec_prove_sources.specs.DeviceSurveys.{IsDevicePresence, IsDeviceSurveyText}
use Rattle.cec_prove_sources.specs.Devices.{Device}
use Rattle.cec_prove_sources.specs.Surveys.{Presence, is_known, presence_text, survey_text}

pub AllZip-weaker : {A B : Type 0} (P Q : A → B → Type 0) → ((a : A) (b : B) → P a b → Q a b) → (xs : List A) (ys : List B) → AllZip P xs ys → AllZip Q xs ys
AllZip-weaker P Q more [] [] all = all
AllZip-weaker P Q more [] (y ∷ ys) all = absurd all
AllZip-weaker P Q more (x ∷ xs) [] all = absurd all
AllZip-weaker P Q more (x ∷ xs) (y ∷ ys) all = (more x y all.0, AllZip-weaker P Q more xs ys all.1)

text-more : (names : List (List ℕ)) (known : List Presence) (name : List ℕ) (k : Presence) → length known ≡ length names
    → survey_text (names ++ name ∷ []) (known ++ k ∷ []) ≡ survey_text names known ++ presence_text name k
text-more [] [] name k e = append-nil (presence_text name k)
text-more [] (j ∷ known) name k e = absurd (omega arith)
text-more (n ∷ names) [] name k e = absurd (omega arith)
text-more (n ∷ names) (j ∷ known) name k e =
    ap (λ t. presence_text n j ++ t) (text-more names known name k (omega arith))
    ∙ sym (append_assoc (presence_text n j) (survey_text names known) (presence_text name k))

pub survey-none : (d : Device) (assumed : Option (List ℕ)) → IsDeviceSurveyText d assumed [] [] true
survey-none d assumed = record { presences = []; known = tt; written = refl; each_known = refl }

pub survey-more : (d : Device) (assumed : Option (List ℕ)) (names : List (List ℕ)) (name text new : List ℕ) (whole sure : Bool)
    → IsDeviceSurveyText d assumed names text whole → AddsDevicePresence d assumed name text new sure
    → IsDeviceSurveyText d assumed (names ++ name ∷ []) new (whole && sure)
survey-more d assumed names name text new whole sure survey adds = record {
  presences = survey.presences ++ adds.presence ∷ [];
  known = all_zipped_more (IsDevicePresence d assumed) names survey.presences name adds.presence survey.known adds.is;
  written = adds.lines ∙ ap (λ t. t ++ presence_text name adds.presence) survey.written
      ∙ sym (text-more names survey.presences name adds.presence (AllZip-long (IsDevicePresence d assumed) names survey.presences survey.known));
  each_known = (λ i. survey.each_known i && adds.sure_of_it i) ∙ ap (λ b. list_all is_known survey.presences && b) (sym (and-true (is_known adds.presence)))
      ∙ sym (list_all-append is_known survey.presences (adds.presence ∷ []));
}

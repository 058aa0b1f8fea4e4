-- What is seen of an instance depends on the calls on it alone.
use Rattle.std.proofs.Common.{◌≡◌, ℕ, Bool, true, false, List, [], ◌∷◌, ◌++◌, map, refl, sym, ap, ap₂, ◌∙◌, ⊎_elim}
use Rattle.std.specs.Prelude.{filter, nat_eq, if◌then◌else◌}
use Rattle.std.proofs.lemmas.Bool.{cases_Bool, eqb-true}
use Rattle.csub_text.specs.Machine.{Memory}
use Rattle.csub_embed.specs.Machine.{Call, InstanceStates, SeenCall, SeenOf, left_state, own_seen, run_calls, seen_after, with_instance}
use Rattle.csub_embed.specs.Trees.{Component}
use Rattle.cec_opt_embed.specs.Instances.{AreApart, own_calls}

-- what is seen of a call, before what is seen of those after it
own-tagged : (b : Bool) (j k : ℕ) → nat_eq j k ≡ b → (xs : List SeenCall) (rest : List SeenOf)
    → own_seen k (map (λ s. record { instance = j; seen = s }) xs ++ rest) ≡ (if b then xs else []) ++ own_seen k rest
own-tagged true j k same [] rest = refl
own-tagged false j k other [] rest = refl
own-tagged true j k same (x ∷ xs) rest =
    let more = map (λ s. record { instance = j; seen = s }) xs ++ rest in
    ap (λ b. map (λ (s : SeenOf). s.seen) (if b then record { instance = j; seen = x } ∷ filter (λ (s : SeenOf). nat_eq s.instance k) more
    else filter (λ (s : SeenOf). nat_eq s.instance k) more)) same
    ∙ ap (λ l. x ∷ l) (own-tagged true j k same xs rest)
own-tagged false j k other (x ∷ xs) rest =
    let more = map (λ s. record { instance = j; seen = s }) xs ++ rest in
    ap (λ b. map (λ (s : SeenOf). s.seen) (if b then record { instance = j; seen = x } ∷ filter (λ (s : SeenOf). nat_eq s.instance k) more
    else filter (λ (s : SeenOf). nat_eq s.instance k) more)) other
    ∙ own-tagged false j k other xs rest

own-first : (b : Bool) (k : ℕ) (x : Call) (calls : List Call) → nat_eq x.instance k ≡ b
    → own_calls k (x ∷ calls) ≡ (if b then x ∷ own_calls k calls else own_calls k calls)
own-first b k x calls same = ap (λ t. if t then x ∷ own_calls k calls else own_calls k calls) same

-- the states of an instance where others are called too, and where it is called alone
module _ (c : Component) (k : ℕ) where
  abbrev Told : List Call → Type 0
  Told calls = (instances alone : InstanceStates) → instances k ≡ alone k
      → own_seen k (run_calls c instances calls) ≡ own_seen k (run_calls c alone (own_calls k calls))

  abbrev after : InstanceStates → Call → InstanceStates
  after instances x = with_instance x.instance (left_state c x.item x.around (instances x.instance)) instances

  abbrev shown : InstanceStates → Call → List SeenCall
  shown instances x = seen_after c x.item x.around (instances x.instance)

  own-call : (x : Call) (calls : List Call) → Told calls → nat_eq x.instance k ≡ true → Told (x ∷ calls)
  own-call x calls later same instances alone e =
      let states : instances x.instance ≡ alone x.instance = ap instances (eqb-true x.instance k same) ∙ e
      ∙ sym (ap alone (eqb-true x.instance k same)) in
      let left : after instances x k ≡ after alone x k =
      ap (λ b. if b then left_state c x.item x.around (instances x.instance) else instances k) same
      ∙ ap (λ (m : Memory). left_state c x.item x.around m) states
      ∙ sym (ap (λ b. if b then left_state c x.item x.around (alone x.instance) else alone k) same) in
      own-tagged true x.instance k same (shown instances x) (run_calls c (after instances x) calls)
      ∙ ap₂ (λ xs l. xs ++ l) (ap (λ (m : Memory). seen_after c x.item x.around m) states) (later (after instances x) (after alone x) left)
      ∙ sym (ap (λ l. own_seen k (run_calls c alone l)) (own-first true k x calls same)
      ∙ own-tagged true x.instance k same (shown alone x) (run_calls c (after alone x) (own_calls k calls)))

  other-call : (x : Call) (calls : List Call) → Told calls → nat_eq x.instance k ≡ false → Told (x ∷ calls)
  other-call x calls later other instances alone e =
      let left : after instances x k ≡ instances k =
      ap (λ b. if b then left_state c x.item x.around (instances x.instance) else instances k) other in
      own-tagged false x.instance k other (shown instances x) (run_calls c (after instances x) calls)
      ∙ later (after instances x) alone (left ∙ e)
      ∙ sym (ap (λ l. own_seen k (run_calls c alone l)) (own-first false k x calls other))

  apart-told : (calls : List Call) → Told calls
  apart-told [] = λ instances alone e. refl
  apart-told (x ∷ calls) = ⊎_elim (own-call x calls (apart-told calls)) (other-call x calls (apart-told calls)) (cases_Bool (nat_eq x.instance k))

pub apart : (c : Component) → AreApart c
apart c = λ instances calls k. apart-told c k calls instances instances refl

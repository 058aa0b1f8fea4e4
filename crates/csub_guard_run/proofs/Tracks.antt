-- Inner: what is made on one track is what the plans of the body make.
use Rattle.std.proofs.Common.{◌≡◌, ℕ, ◌+◌, ◌-◌, ◌^◌, ◌<◌, ◌≤◌, Bool, true, false, List, [], ◌∷◌, ◌++◌, All, length, take, drop, get_or}
use Rattle.std.proofs.Common.{refl, sym, ◌∙◌, ap, arith, subst, append_assoc}
use Rattle.std.specs.Prelude.{flat_map, if◌then◌else◌, slice_range}
use Rattle.std.specs.List.{AllByRecursion}
use Rattle.std.proofs.Math.Seq.{drop-append_seam, take-append_seam}
use Rattle.std.proofs.lemmas.Grind.{flat_map-append}
use Rattle.std.proofs.lemmas.List.{append-nil, length-append, take_more, get_or_default}
use Rattle.std.proofs.lemmas.List.Elements.{All-from_recursion}
use Rattle.base_facts.proofs.Lists.{drop-at}
use Rattle.run_steps.specs.Plans.{Lookup, made}
use Rattle.run_steps.specs.Slots.{value_at}
use Rattle.run_steps.proofs.Exports.{length-made, made-append}
use Rattle.csub_guard_run.specs.declared.plan.Block.{Block}
use Rattle.csub_guard_run.specs.declared.plan.Body.{Body}
use Rattle.csub_guard_run.specs.declared.track.Jump.{Jump}
use Rattle.csub_guard_run.specs.declared.track.Track.{Track}
use Rattle.csub_guard_run.specs.Runs.{BodyFits, behind_before, blocks_made, blocks_count, body_made, body_count}
use Rattle.csub_guard_run.specs.Tracks.{block_lookups, jump_at, jumps_at, IsTrack, before_jump, jump_made, jump_place, jump_count, jumps_made, jumps_count}
use Rattle.csub_guard_run.specs.Tracks.{track_made, track_count, IsInOrder, AreInOrder}
use Rattle.csub_guard_run.proofs.Counting.{first-made, second-made, first-counted, second-counted, fits-more}

-- ---- parts of lists

middle-part : {X : Type 0} (xs before part behind : List X) (from to : ℕ) → xs ≡ before ++ (part ++ behind) → from ≡ length before
    → to ≡ length before + length part → slice_range xs from to ≡ part
middle-part xs before part behind from to is begins ends =
    let n : to - from ≡ length part = omega (arith, begins, ends) in
    ap (λ k. take k (drop from xs)) n ∙ ap (λ k. take (length part) (drop k xs)) begins ∙ ap (λ l. take (length part) (drop (length before) l)) is
    ∙ ap (take (length part)) (drop-append_seam before (part ++ behind)) ∙ take-append_seam part behind

-- ---- the law: what the blocks make, where what is pending was not made so far

record Follows (blocks : List Block) (last gates : List Lookup) (at : ℕ) (jumps : List Jump) (values after : List Bool) : Type 0 where
  made_is : jumps_made gates at jumps values ≡ made last (blocks_made blocks after)
  counted : jumps_count gates at jumps values ≡ blocks_count blocks after

track-follows : (blocks : List Block) (last gates done pending : List Lookup) (at place : ℕ) (values : List Bool)
    → gates ≡ done ++ (pending ++ (flat_map block_lookups blocks ++ last)) → at ≡ length done → place ≡ length done + length pending
    → Follows blocks last gates at (jumps_at place blocks) values (made pending values)
track-follows [] last gates done pending at place values is begins here =
    let whole : gates ≡ done ++ ((pending ++ last) ++ []) = is ∙ ap (λ l. done ++ l) (sym (append-nil (pending ++ last))) in
    let n = ap length whole ∙ length-append done ((pending ++ last) ++ []) ∙ ap (λ l. length done + length l) (append-nil (pending ++ last)) in
    record {
      made_is = ap (λ l. made l values) (middle-part gates done (pending ++ last) [] at (length gates) whole begins n) ∙ made-append pending last values;
      counted = refl;
    }
track-follows (b ∷ blocks) last gates done pending at place values is begins here =
    go (value_at middle b.test) refl (λ d p a l v. track-follows blocks last gates d p a l v)
  where
    w : List Bool
    w = made pending values

    middle : List Bool
    middle = behind_before b w

    before : List Lookup
    before = b.before.plan.lookups

    second : List Lookup
    second = b.second.plan.lookups

    first : List Lookup
    first = b.first.plan.lookups

    rest : List Lookup
    rest = flat_map block_lookups blocks ++ last

    j : Jump
    j = jump_at place b

    jumps : List Jump
    jumps = jumps_at (place + length (block_lookups b)) blocks

    up_to : List Lookup
    up_to = done ++ (pending ++ before)

    whole : gates ≡ done ++ (pending ++ (before ++ (second ++ (first ++ rest))))
    whole = is ∙ ap (λ l. done ++ (pending ++ l)) (append_assoc (block_lookups b) (flat_map block_lookups blocks) last
        ∙ append_assoc before (second ++ first) rest ∙ ap (λ l. before ++ l) (append_assoc second first rest))

    split : gates ≡ done ++ ((pending ++ before) ++ (second ++ (first ++ rest)))
    split = whole ∙ ap (λ l. done ++ l) (sym (append_assoc pending before (second ++ (first ++ rest))))

    behind : gates ≡ up_to ++ (second ++ (first ++ rest))
    behind = split ∙ sym (append_assoc done (pending ++ before) (second ++ (first ++ rest)))

    first_behind : gates ≡ (up_to ++ second) ++ (first ++ rest)
    first_behind = behind ∙ sym (append_assoc up_to second (first ++ rest))

    rest_behind : gates ≡ ((up_to ++ second) ++ first) ++ ([] ++ rest)
    rest_behind = first_behind ∙ sym (append_assoc (up_to ++ second) first rest)

    shown : length (pending ++ before) ≡ length pending + length before
    shown = length-append pending before

    long : length up_to ≡ length done + (length pending + length before)
    long = length-append done (pending ++ before) ∙ ap (λ n. length done + n) shown

    longer : length (up_to ++ second) ≡ length done + (length pending + length before) + length second
    longer = length-append up_to second ∙ ap (λ n. n + length second) long

    longest : length ((up_to ++ second) ++ first) ≡ length done + (length pending + length before) + length second + length first
    longest = length-append (up_to ++ second) first ∙ ap (λ n. n + length first) longer

    own : length (block_lookups b) ≡ length before + (length second + length first)
    own = length-append before (second ++ first) ∙ ap (λ n. length before + n) (length-append second first)

    reached : before_jump gates at j values ≡ middle
    reached = ap (λ l. made l values)
        (middle-part gates done (pending ++ before) (second ++ (first ++ rest)) at j.second split begins (omega (arith, here, shown)))
        ∙ made-append pending before values

    skipped : slice_range gates j.second j.first ≡ second
    skipped = middle-part gates up_to second (first ++ rest) j.second j.first behind (omega (arith, here, long)) (omega (arith, here, long))

    go : (t : Bool) → value_at middle b.test ≡ t
        → ((d p : List Lookup) (a l : ℕ) (v : List Bool) → gates ≡ d ++ (p ++ rest) → a ≡ length d → l ≡ length d + length p
        → Follows blocks last gates a (jumps_at l blocks) v (made p v))
        → Follows (b ∷ blocks) last gates at (j ∷ jumps) values w
    go true tested further =
        let found : value_at (before_jump gates at j values) b.test ≡ true = ap (λ l. value_at l b.test) reached ∙ tested in
        let to : jump_place gates at j values ≡ j.first = ap (λ t. if t then j.first else j.next) found in
        let made_here : jump_made gates at j values ≡ middle =
        ap (λ t. if t then before_jump gates at j values else made (slice_range gates j.second j.first) (before_jump gates at j values)) found ∙ reached in
        let count : jump_count gates at j values ≡ j.before_count + j.first_count =
        ap (λ t. j.before_count + (if t then j.first_count else j.second_count)) found in
        let more = further (up_to ++ second) first j.first (place + length (block_lookups b)) middle first_behind
        (omega (arith, here, longer)) (omega (arith, here, longer, own)) in
        let counts = ap (λ p. jumps_count gates p jumps (jump_made gates at j values)) to ∙ ap (jumps_count gates j.first jumps) made_here ∙ more.counted
        ∙ ap (blocks_count blocks) (sym (first-made b w tested)) in
        record {
          made_is = ap (λ p. jumps_made gates p jumps (jump_made gates at j values)) to ∙ ap (jumps_made gates j.first jumps) made_here ∙ more.made_is
              ∙ ap (λ l. made last (blocks_made blocks l)) (sym (first-made b w tested));
          counted = omega (arith, count, counts, first-counted b w tested);
        }
    go false tested further =
        let found : value_at (before_jump gates at j values) b.test ≡ false = ap (λ l. value_at l b.test) reached ∙ tested in
        let to : jump_place gates at j values ≡ j.next = ap (λ t. if t then j.first else j.next) found in
        let made_here : jump_made gates at j values ≡ made second middle =
        ap (λ t. if t then before_jump gates at j values else made (slice_range gates j.second j.first) (before_jump gates at j values)) found
        ∙ ap (λ l. made l (before_jump gates at j values)) skipped ∙ ap (made second) reached in
        let count : jump_count gates at j values ≡ j.before_count + j.second_count =
        ap (λ t. j.before_count + (if t then j.first_count else j.second_count)) found in
        let more = further ((up_to ++ second) ++ first) [] j.next (place + length (block_lookups b)) (made second middle)
        rest_behind (omega (arith, here, longest, own)) (omega (arith, here, longest, own)) in
        let counts = ap (λ p. jumps_count gates p jumps (jump_made gates at j values)) to ∙ ap (jumps_count gates j.next jumps) made_here ∙ more.counted
        ∙ ap (blocks_count blocks) (sym (second-made b w tested)) in
        record {
          made_is = ap (λ p. jumps_made gates p jumps (jump_made gates at j values)) to ∙ ap (jumps_made gates j.next jumps) made_here ∙ more.made_is
              ∙ ap (λ l. made last (blocks_made blocks l)) (sym (second-made b w tested));
          counted = omega (arith, count, counts, second-counted b w tested);
        }

whole-track : (body : Body) (t : Track) (values : List Bool) → IsTrack body t
    → Follows body.blocks.items body.last.plan.lookups t.gates.lookups 0 (jumps_at 0 body.blocks.items) values values
whole-track body t values is =
    track-follows body.blocks.items body.last.plan.lookups t.gates.lookups [] [] 0 0 values is.lookups refl refl

pub track-made : (body : Body) (t : Track) (values : List Bool) → IsTrack body t → track_made t values ≡ body_made body values
track-made body t values is = ap (λ l. jumps_made t.gates.lookups 0 l values) is.jumps ∙ (whole-track body t values is).made_is

pub track-counted : (body : Body) (t : Track) (values : List Bool) → IsTrack body t → track_count t values ≡ body_count body values
track-counted body t values is =
    ap (λ l. jumps_count t.gates.lookups 0 l values + t.behind) is.jumps
    ∙ ap (λ n. jumps_count t.gates.lookups 0 (jumps_at 0 body.blocks.items) values + n) is.behind
    ∙ ap (λ n. n + body.last.count) (whole-track body t values is).counted

pub track-fits : (body : Body) (t : Track) (n : ℕ) → IsTrack body t → t.gates.slots ≤ n → BodyFits n body
track-fits body t n is wide = record {
  blocks = λ k d h. fits-more t.gates.slots n (get_or body.blocks.items k d) wide (is.fits.blocks k d h);
  last = omega (arith, is.fits.last, wide);
}

-- ---- places

blocks-ordered : (blocks : List Block) (last : List Lookup) (at n : ℕ) → at + length (flat_map block_lookups blocks ++ last) ≡ n
    → AreInOrder n at (jumps_at at blocks)
blocks-ordered [] last at n is = omega (arith, is)
blocks-ordered (b ∷ blocks) last at n is =
    let own = length-append b.before.plan.lookups (b.second.plan.lookups ++ b.first.plan.lookups) in
    let halves = length-append b.second.plan.lookups b.first.plan.lookups in
    let rest = flat_map block_lookups blocks ++ last in
    let all = ap length (append_assoc (block_lookups b) (flat_map block_lookups blocks) last) ∙ length-append (block_lookups b) rest in (
      record {
        second = omega arith;
        first = omega arith;
        next = omega (arith, own, halves);
        within = omega (arith, is, all);
      },
      blocks-ordered blocks last (at + length (block_lookups b)) n (omega (arith, is, all)),
    )

pub track-ordered : (body : Body) (t : Track) → IsTrack body t → AreInOrder (length t.gates.lookups) 0 t.jumps.items
track-ordered body t is =
    subst (AreInOrder (length t.gates.lookups) 0) (sym is.jumps)
    (blocks-ordered body.blocks.items body.last.plan.lookups 0 (length t.gates.lookups) (let e = ap length is.lookups in omega (arith, e)))

pub less-ordered : (n low at : ℕ) (jumps : List Jump) → low ≤ at → AreInOrder n at jumps → AreInOrder n low jumps
less-ordered n low at [] le is = omega (arith, le, is)
less-ordered n low at (j ∷ jumps) le is =
    (record { second = omega (arith, le, is.0.second); first = is.0.first; next = is.0.next; within = is.0.within }, is.1)

jumps-low : (n at : ℕ) (blocks : List Block) → AllByRecursion (λ b. b.test < n) blocks → AllByRecursion (λ (j : Jump). j.test < n) (jumps_at at blocks)
jumps-low n at [] low = tt
jumps-low n at (b ∷ blocks) low = (low.0, jumps-low n (at + length (block_lookups b)) blocks low.1)

pub track-tests : (body : Body) (t : Track) (n : ℕ) → IsTrack body t → AllByRecursion (λ b. b.test < n) body.blocks.items
    → All (λ (j : Jump). j.test < n) t.jumps.items
track-tests body t n is low =
    subst (All (λ (j : Jump). j.test < n)) (sym is.jumps)
    (All-from_recursion (λ (j : Jump). j.test < n) (jumps_at 0 body.blocks.items) (jumps-low n 0 body.blocks.items low))

-- ---- one block more

jumps-append : (blocks : List Block) (b : Block) (at : ℕ)
    → jumps_at at (blocks ++ b ∷ []) ≡ jumps_at at blocks ++ jump_at (at + length (flat_map block_lookups blocks)) b ∷ []
jumps-append [] b at = let e : at ≡ at + 0 = omega arith in ap (λ n. jump_at n b ∷ []) e
jumps-append (c ∷ blocks) b at =
    let own = length-append (block_lookups c) (flat_map block_lookups blocks) in
    let e : at + length (block_lookups c) + length (flat_map block_lookups blocks) ≡ at + length (flat_map block_lookups (c ∷ blocks)) = omega (arith, own) in
    ap (λ l. jump_at at c ∷ l) (jumps-append blocks b (at + length (block_lookups c)))
    ∙ ap (λ n. jump_at at c ∷ (jumps_at (at + length (block_lookups c)) blocks ++ jump_at n b ∷ [])) e

pub gates-next : (blocks : List Block) (i : ℕ) (b : Block) (old new : List Lookup) → i < length blocks → b ≡ get_or blocks i b
    → old ≡ flat_map block_lookups (take i blocks) → new ≡ old ++ block_lookups b → new ≡ flat_map block_lookups (take (i + 1) blocks)
gates-next blocks i b old new low at is more =
    more ∙ ap (λ l. l ++ block_lookups b) is ∙ ap (λ l. flat_map block_lookups (take i blocks) ++ l) (sym (append-nil (block_lookups b)))
    ∙ sym (flat_map-append block_lookups (take i blocks) (b ∷ []))
    ∙ ap (λ x. flat_map block_lookups (take i blocks ++ x ∷ [])) at ∙ ap (flat_map block_lookups) (sym (take_more blocks i b low))

pub jumps-next : (blocks : List Block) (i : ℕ) (b : Block) (gates : List Lookup) (old new : List Jump) (j : Jump) → i < length blocks
    → b ≡ get_or blocks i b → gates ≡ flat_map block_lookups (take i blocks) → old ≡ jumps_at 0 (take i blocks) → j ≡ jump_at (length gates) b
    → new ≡ old ++ j ∷ [] → new ≡ jumps_at 0 (take (i + 1) blocks)
jumps-next blocks i b gates old new j low at is before own more =
    let begin : length (flat_map block_lookups (take i blocks)) ≡ 0 + length (flat_map block_lookups (take i blocks)) = omega arith in
    more ∙ ap (λ l. l ++ j ∷ []) before
    ∙ ap (λ x. jumps_at 0 (take i blocks) ++ x ∷ []) (own ∙ ap (λ l. jump_at (length l) b) is ∙ ap (λ n. jump_at n b) begin)
    ∙ sym (jumps-append (take i blocks) b 0)
    ∙ ap (λ x. jumps_at 0 (take i blocks ++ x ∷ [])) at ∙ ap (jumps_at 0) (sym (take_more blocks i b low))

-- ---- runs of jumps that are left

-- what stands at no place
abbrev pub no_jump : Jump
no_jump = record { test = 0; second = 0; first = 0; next = 0; before_count = 0; first_count = 0; second_count = 0 }

pub jump-here : (jumps taken : List Jump) (i : ℕ) → taken ≡ jumps → i < length taken → get_or taken i no_jump ≡ get_or jumps i (get_or taken i no_jump)
jump-here jumps taken i same low = get_or_default taken i no_jump (get_or taken i no_jump) low ∙ ap (λ l. get_or l i (get_or taken i no_jump)) same

module _ (gates : List Lookup) where
  pub wide-jump : (at : ℕ) (j : Jump) (values : List Bool) → length (jump_made gates at j values) ≡ length values
  wide-jump at j values = go (value_at (before_jump gates at j values) j.test) refl
    where
      before : length (before_jump gates at j values) ≡ length values
      before = length-made (slice_range gates at j.second) values

      go : (t : Bool) → value_at (before_jump gates at j values) j.test ≡ t → length (jump_made gates at j values) ≡ length values
      go true is =
          ap (λ t. length (if t then before_jump gates at j values else made (slice_range gates j.second j.first) (before_jump gates at j values))) is ∙ before
      go false is =
          ap (λ t. length (if t then before_jump gates at j values else made (slice_range gates j.second j.first) (before_jump gates at j values))) is
          ∙ length-made (slice_range gates j.second j.first) (before_jump gates at j values) ∙ before

  place-low : (n at : ℕ) (j : Jump) (values : List Bool) → IsInOrder n at j → jump_place gates at j values ≤ j.next
  place-low n at j values is = go (value_at (before_jump gates at j values) j.test) refl
    where
      go : (t : Bool) → value_at (before_jump gates at j values) j.test ≡ t → jump_place gates at j values ≤ j.next
      go true found = let e = ap (λ t. if t then j.first else j.next) found in omega (arith, e, is.next)
      go false found = let e = ap (λ t. if t then j.first else j.next) found in omega (arith, e)

  pub order-next : (n at : ℕ) (jumps : List Jump) (i : ℕ) (j : Jump) (values : List Bool) → i < length jumps → j ≡ get_or jumps i j
      → AreInOrder n at (drop i jumps) → AreInOrder n (jump_place gates at j values) (drop (i + 1) jumps)
  order-next n at jumps i j values low is order =
      let here = subst (AreInOrder n at) (drop-at jumps i j low is) order in
      less-ordered n (jump_place gates at j values) j.next (drop (i + 1) jumps) (place-low n at j values here.0) here.1

  pub order-here : (n at : ℕ) (jumps : List Jump) (i : ℕ) (j : Jump) → i < length jumps → j ≡ get_or jumps i j → AreInOrder n at (drop i jumps)
      → IsInOrder n at j
  order-here n at jumps i j low is order = (subst (AreInOrder n at) (drop-at jumps i j low is) order).0

  pub made-next : (at : ℕ) (jumps : List Jump) (i : ℕ) (j : Jump) (values : List Bool) → i < length jumps → j ≡ get_or jumps i j
      → jumps_made gates at (drop i jumps) values ≡ jumps_made gates (jump_place gates at j values) (drop (i + 1) jumps) (jump_made gates at j values)
  made-next at jumps i j values low is = ap (λ l. jumps_made gates at l values) (drop-at jumps i j low is)

  pub counted-next : (at : ℕ) (jumps : List Jump) (i : ℕ) (j : Jump) (values : List Bool) → i < length jumps → j ≡ get_or jumps i j
      → jumps_count gates at (drop i jumps) values
      ≡ jump_count gates at j values + jumps_count gates (jump_place gates at j values) (drop (i + 1) jumps) (jump_made gates at j values)
  counted-next at jumps i j values low is = ap (λ l. jumps_count gates at l values) (drop-at jumps i j low is)

-- no more of them than memory has room for
pub few-jumps : (t : Track) → length t.jumps.items < 2 ^ 63
few-jumps t = omega (arith, t.jumps.ok.0, t.jumps.ok.1, t.jumps.small)

-- To believe: the calls on one instance among those on others.
use Rattle.std.specs.Prelude.{◌≡◌, ℕ, List, filter, nat_eq}
use Rattle.csub_embed.specs.Machine.{Call, InstanceStates, own_seen, run_calls}
use Rattle.csub_embed.specs.Trees.{Component}

abbrev pub own_calls : ℕ → List Call → List Call
own_calls k calls = filter (λ x. nat_eq x.instance k) calls

-- What is seen of an instance depends on the calls on it alone. The same is seen where all calls on others are left
-- out.
abbrev pub AreApart : Component → Type 0
AreApart component = (instances : InstanceStates) (calls : List Call) (k : ℕ)
    → own_seen k (run_calls component instances calls) ≡ own_seen k (run_calls component instances (own_calls k calls))

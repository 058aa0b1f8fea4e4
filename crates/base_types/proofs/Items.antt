-- Events of a width.
use Rattle.std.proofs.Common.{List, length, subst, ℕ, ◌≡◌}
use Rattle.base_types.specs.Items.{EachEvent, Item}

pub wide_events : (m n : ℕ) → m ≡ n → (items : List Item) → EachEvent (λ event. length event ≡ m) items → EachEvent (λ event. length event ≡ n) items
wide_events m n e items h = subst (λ k. EachEvent (λ event. length event ≡ k) items) e h

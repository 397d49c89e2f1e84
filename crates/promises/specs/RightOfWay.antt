-- Order 3 in its own words, on a grid: "Codes 3 and 5 in A are refused while the node's B queue holds a good packet for which the rule offers the same
-- code, whether or not that packet has room." "After 5": what the rule doesn't offer isn't refused by it.
-- Assumes nothing.
use Rattle.std.specs.Prelude.{ℕ, ◌<◌, ◌≡◌, ◌≢◌, ◌⊎◌, List}
use Rattle.network.specs.declared.Kind.TheVariants.{A, B}
use Rattle.network.specs.declared.Lead.TheVariants.{NotOffered}
use Rattle.network.specs.Net.{at}
use Rattle.calls.specs.Slices.{slots_in, place_in}
use Rattle.promises.specs.Conditions.{HeldAt, GoodAt, lead_in}

-- slot j of the node's B queue holds a good packet for which the rule offers the code
pub record GoesFirst (s : List ℕ) (node code j : ℕ) : Type 0 where
  pub inside : j < slots_in s
  pub there : place_in s j ≡ at node B
  pub held : HeldAt s j
  pub good : GoodAt s j
  pub offered : lead_in s j code ≢ NotOffered

pub record AsOrdered (s : List ℕ) (slot code : ℕ) : Type 0 where
  pub codes : (code ≡ 3) ⊎ (code ≡ 5)
  pub in_A : (place_in s slot).kind ≡ A
  pub offered : lead_in s slot code ≢ NotOffered
  pub holds : (j : ℕ) × GoesFirst s (place_in s slot).node code j

-- Clear and take in refuse exactly where the paper says: each test of the router tells its condition.
-- Assumes nothing.
use Prim.Native.Nat.{ℕ}
use mathlib.Core.Path.{◌≡◌, refl, ap}
use mathlib.Core.Logic.{◌⊎◌, inl, inr}
use mathlib.Core.Bool.{false, not}
use mathlib.Core.List.{List}
use native.Mathlib.Omega.{arith}
use lib.ListN.{length}
use borrow.Author.Tests.{not-true, not-false, ltb-true, ltb-false, eqb-true, eqb-false}
use Rattle.network.specs.declared.Kind.TheVariants.{Waiting}
use Rattle.network.specs.Net.{at}
use Rattle.board.specs.declared.Board.{Board}
use Rattle.board.specs.Layout.{table_size}
use Rattle.board.proofs.Sizes.{board_good, good_board}
use Rattle.judging.specs.Takings.{take_rows}
use Rattle.router.specs.Clear.{used, clear_rows, cleared_as, cleared_slice}
use Rattle.router.specs.TakeIn.{TakeAnswer, refusal as take_refusal, took_in, taken_in, taken_slice}
use Rattle.calls.specs.Slices.{head_in, table_in, GoodIn, net_in}
use Rattle.promises.specs.Conditions.{HasEmpty}
use Rattle.promises.specs.Demand1.{Grounds, end, ground, First, clear_grounds, take_grounds, Refuses, NothingTaken}
use Rattle.promises.proofs.Unchanged.{clear_refused, take_refused}
use Rattle.promises.proofs.Conditions.{full_none, room_has_empty}
use Rattle.promises.proofs.Grounds.{Tells, later, not_due, not_both, first-joined, first-answered, first_on_table, refuses}

-- ---- clear

module _ (s : List ℕ) (b : Board) where
  clear_tells : Tells (clear_rows s (used b)) (clear_grounds s b)
  clear_tells = (
    refl,
    λ e g. not_due _ e (good_board g),
    λ e n. n (board_good (used b) (not-false _ e)),
    λ e. (refl, ltb-true _ _, λ e l. omega (arith, ltb-false (length s) (table_size (used b)) e), λ e. tt),
  )

  clear_first : First (clear_grounds s b) (cleared_slice s b).answer
  unfolding cleared_slice cleared_as
  clear_first = first-answered (λ n. n) (λ n. n) (λ n. refl) (clear_rows s (used b)) s _ refl (clear_grounds s b) clear_tells

  pub clear_refuses : Refuses (λ (n : ℕ). n) (λ n. Unit {0}) (clear_grounds s b) s (cleared_slice s b)
  clear_refuses = refuses (λ n. n) (λ n. n) (λ n. refl) (λ n. Unit {0}) (λ n. tt) _ s _ (clear_refused s b) clear_first

-- ---- take in

module _ (s : List ℕ) (source destination : ℕ) where
  -- the conditions, with the two of number 2 apart; and past those
  abbrev counted : Grounds
  counted = ground 7 ((head_in s).taken ≡ 4294967295) (ground 6 (HasEmpty s (at source Waiting) → ⊥) end)

  abbrev each : Grounds
  each = ground 2 ((net_in s).valid source ≡ false) (ground 2 ((net_in s).valid destination ≡ false) counted)

  take_tells : GoodIn s → Tells (take_rows (head_in s) (table_in s) source destination) each
  take_tells g = (
    refl,
    not-true _,
    λ e c. not_both _ (ap not c) e,
    λ on. (
      refl,
      not-true _,
      λ e c. not_both _ (ap not c) e,
      λ to. (
        refl,
        eqb-true _ _,
        eqb-false _ _,
        λ more. (
          refl,
          λ e. full_none s g (at source Waiting) (not-true _ e),
          λ e n. n (room_has_empty s g (at source Waiting) (not-false _ on) (not-false _ e)),
          λ e. tt,
        ),
      ),
    ),
  )

  on_both : ((net_in s).valid source ≡ false → ⊥) → ((net_in s).valid destination ≡ false → ⊥)
      → ((net_in s).valid source ≡ false) ⊎ ((net_in s).valid destination ≡ false) → ⊥
  on_both u v (inl e) = u e
  on_both u v (inr e) = v e

  module _ (payload : List ℕ) where
    take_each : GoodIn s → First each (taken_in (head_in s) (table_in s) source destination payload).answer.number
    unfolding taken_in took_in
    take_each g =
        first-answered (λ a. a.number) take_refusal (λ n. refl) (take_rows (head_in s) (table_in s) source destination) (table_in s)
        (took_in (head_in s) (table_in s) source destination payload _) refl each (take_tells g)

    take-first : First (take_grounds s source destination) (taken_slice s source destination payload).answer.number
    unfolding taken_slice
    take-first =
        first_on_table (λ a. a.number) take_refusal (λ n. refl) s (λ h t. taken_in h t source destination payload) (later (take_grounds s source destination))
        (λ g. first-joined 2 _ counted inl inr on_both (take_each g))

    pub take_refuses :
        Refuses (λ (a : TakeAnswer). a.number) NothingTaken (take_grounds s source destination) s
        (taken_slice s source destination payload)
    take_refuses =
        refuses (λ a. a.number) take_refusal (λ n. refl) NothingTaken (λ n. (refl, refl, refl)) _ s _
        (take_refused s source destination payload) take-first

-- Bytes before a table change nothing: each call answers as on the table alone, and leaves those bytes before what it leaves of the table.
-- Assumes nothing.
use Rattle.std.specs.Prelude.{Some, Result, Ok, Err, ⊤}
use Prim.Native.Nat.{ℕ, ◌+◌, ◌-◌, ◌≤◌}
use mathlib.Core.Path.{◌≡◌, refl, sym, ap, ◌∙◌}
use mathlib.Core.Bool.{Bool, true, false, not}
use mathlib.Core.List.{List, ◌++◌, append_assoc}
use native.Mathlib.Omega.{arith}
use lib.ListN.{length, take, drop, length-append}
use lib.Seq.{take-append-add, drop-append-add}
use borrow.Author.Tests.{le-ltb}
use Rattle.network.proofs.Tests.{cond_true, cond_false}
use Rattle.board.specs.declared.Board.{Board}
use Rattle.board.specs.Board.{GoodBoard, board_ok}
use Rattle.board.specs.Layout.{table_size}
use Rattle.board.proofs.Sizes.{board_good}
use Rattle.trailer.specs.declared.Head.{Head}
use Rattle.trailer.specs.Trailer.{fresh, trailer_of}
use Rattle.trailer.proofs.TrailerLaws.{trailer-after}
use Rattle.table.specs.declared.refusals.Refusal.{Refusal}
use Rattle.table.specs.declared.refusals.Refusal.TheVariants.{Trailer, Fault}
use Rattle.table.specs.Calls.{Outcome, outcome, after, on_table}
use Rattle.table.proofs.CallLaws.{answered-done, answered_refused, on_table_good}
use Rattle.router.specs.Clear.{used, clear_rows, cleared_as, cleared_slice}
use Rattle.router.specs.TakeIn.{refusal as take_refusal, taken_in, taken_slice}
use Rattle.router.specs.Move.{refusal as move_refusal, moved_in, moved_slice}
use Rattle.router.specs.ReadPayload.{Reading, refusal as read_refusal, read_in, read_slice}
use Rattle.survey.specs.Check.{unless_fault, read_by, on_passing, checked_slice, check_answer}
use Rattle.survey.specs.Find.{found_in, found_slice, find_answer}
use Rattle.survey.specs.Copy.{copied_in, copied_slice, copy_answer}
use Rattle.calls.specs.Slices.{head_in, GoodIn}
use Rattle.calls.specs.Router.{ours}
use Rattle.promises.specs.Demand1.{Behind}
use Rattle.promises.proofs.Reading.{good_is}

-- the last n bytes, with bytes before them
module _ (p t : List ℕ) (n : ℕ) (l : n ≤ length t) where
  start : length (p ++ t) - n ≡ length p + (length t - n)
  start = omega (arith, length-append p t)

  rest_behind : drop (length (p ++ t) - n) (p ++ t) ≡ drop (length t - n) t
  rest_behind = rw start (drop-append-add p t (length t - n))

  before_behind : take (length (p ++ t) - n) (p ++ t) ≡ p ++ take (length t - n) t
  before_behind = rw start (take-append-add p t (length t - n))

after_both : {A : Type 0} (p q : List ℕ) (o : Outcome A (List ℕ)) → after (p ++ q) o ≡ after p (after q o)
after_both p q o = ap (outcome o.answer) (append_assoc p q o.bytes)

module _ (p t : List ℕ) (g : GoodIn t) where
  alone : trailer_of t ≡ Some (head_in t)
  alone = good_is t g

  behind : trailer_of (p ++ t) ≡ Some (head_in t)
  behind = trailer-after p t alone

  same_table : drop (length (p ++ t) - (head_in t).size) (p ++ t) ≡ drop (length t - (head_in t).size) t
  same_table = rest_behind p t (head_in t).size g.size_in

  on_table_behind : {A : Type 0} (refusal : ℕ → A) (f : Head → List ℕ → Outcome A (List ℕ))
      → on_table (p ++ t) refusal f ≡ after p (on_table t refusal f)
  on_table_behind refusal f =
      on_table_good (p ++ t) refusal f (head_in t) behind
      ∙ rw (same_table, before_behind p t (head_in t).size g.size_in) (after_both p (take (length t - (head_in t).size) t) _)
      ∙ ap (after p) (sym (on_table_good t refusal f (head_in t) alone))

  -- a call that needs a table which passes
  passing_behind : {A : Type 0} (bad : A) (fault : ℕ → A) (passes : Head → List ℕ → A)
      → on_passing (p ++ t) bad fault passes ≡ on_passing t bad fault passes
  passing_behind bad fault passes =
      ap (read_by (p ++ t) bad (unless_fault fault passes)) behind
      ∙ ap (unless_fault fault passes (head_in t)) same_table
      ∙ sym (ap (read_by t bad (unless_fault fault passes)) alone)

  pub all_behind : Behind ours p t
  unfolding taken_slice moved_slice read_slice checked_slice found_slice copied_slice
  all_behind = record {
    take_in = λ source destination payload. on_table_behind take_refusal (λ h u. taken_in h u source destination payload);
    make_move = λ slot code. on_table_behind move_refusal (λ h u. moved_in h u slot code);
    read_payload = λ slot.
        ap (λ (o : Outcome Reading (List ℕ)). outcome o.answer (p ++ t)) (on_table_behind read_refusal (λ h u. read_in h u slot));
    full_check = ap (λ c. outcome (check_answer c) (p ++ t)) (passing_behind (Err Trailer) (λ place. Err (Fault place)) (λ h u. Ok tt));
    find = ap (λ f. outcome (find_answer f) (p ++ t)) (passing_behind (Err Trailer) (λ place. Err (Fault place)) found_in);
    copy_outward = λ out.
        ap (λ (o : Outcome (Result ⊤ Refusal) (List ℕ)). outcome (copy_answer o.answer) record { slice = p ++ t; second = o.bytes })
        (passing_behind (outcome (Err Trailer) out) (λ place. outcome (Err (Fault place)) out) (copied_in out));
  }

-- ---- clear

module _ (b : Board) where
  -- what it comes to, by the board
  clear_fits : (s : List ℕ) → board_ok b ≡ true → table_size b ≤ length s → cleared_as s b ≡ outcome 0 (take (length s - table_size b) s ++ fresh b)
  unfolding cleared_as
  clear_fits s d l = answered-done (clear_rows s b) (λ n. n) s _ (cond_false 8 _ (ap not d) ∙ cond_false 9 0 (le-ltb _ _ l))

  clear_odd : (s : List ℕ) → board_ok b ≡ false → cleared_as s b ≡ outcome 8 s
  unfolding cleared_as
  clear_odd s d = answered_refused (clear_rows s b) (λ n. n) s _ (cond_true 8 _ (ap not d)) (λ (z : 8 ≡ 0). omega arith)

  as_behind : (p t : List ℕ) → (GoodBoard b → table_size b ≤ length t) → cleared_as (p ++ t) b ≡ after p (cleared_as t b)
  as_behind p t fits = go (board_ok b) refl
    where
      go : (ok : Bool) → board_ok b ≡ ok → cleared_as (p ++ t) b ≡ after p (cleared_as t b)
      go true d =
          let l = fits (board_good b d) in
          clear_fits (p ++ t) d (omega (arith, length-append p t))
          ∙ rw (before_behind p t (table_size b) l) (after_both p (take (length t - table_size b) t) (outcome 0 (fresh b)))
          ∙ ap (after p) (sym (clear_fits t d l))
      go false d = clear_odd (p ++ t) d ∙ ap (after p) (sym (clear_odd t d))

pub clear_behind : (p t : List ℕ) (b : Board) → (GoodBoard (used b) → table_size (used b) ≤ length t)
    → cleared_slice (p ++ t) b ≡ after p (cleared_slice t b)
unfolding cleared_slice
clear_behind p t b fits = as_behind (used b) p t fits

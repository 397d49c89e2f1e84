-- Demand 1 holds of the router: each refusal is given exactly where the paper says and changes no byte, and a slot left by a packet holds zeros.
-- Assumes nothing.
use Prim.Native.Nat.{ℕ}
use mathlib.Core.Path.{refl}
use mathlib.Core.List.{List}
use Rattle.network.specs.declared.Lead.{Lead}
use Rattle.network.specs.declared.Lead.TheVariants.{Hop, Turn, Out, NotOffered}
use Rattle.table.specs.Calls.{Outcome}
use Rattle.router.specs.Move.{MoveAnswer, moved_slice}
use Rattle.promises.specs.Conditions.{EmptyAt, lead_in}
use Rattle.calls.specs.Router.{ours}
use Rattle.promises.specs.Demand1.{Demand1}
use Rattle.promises.specs.Demand2.{OneStep}
use Rattle.promises.proofs.Refusing.{clear_refuses, take_refuses}
use Rattle.promises.proofs.NamedSlot.{move_refuses, read_refuses}
use Rattle.promises.proofs.Surveying.{check_refuses, find_refuses, copy_refuses}
use Rattle.promises.proofs.Behind.{all_behind, clear_behind}
use Rattle.promises.proofs.Demand2.{demand_2}

step_empties : (s : List ℕ) (slot : ℕ) (lead : Lead) (o : Outcome MoveAnswer (List ℕ)) → OneStep s slot lead o → EmptyAt o.bytes slot
step_empties s slot (Hop n) o a = a.gone
step_empties s slot (Turn k) o a = a.gone
step_empties s slot Out o a = a.gone
step_empties s slot NotOffered o a = absurd a

pub demand_1 : Demand1 ours
demand_1 = record {
  clear = λ s b board. clear_refuses s board;
  take_in = λ s b source destination payload. take_refuses s source destination payload;
  make_move = λ s b slot code. move_refuses s slot code;
  read_payload = λ s b slot. read_refuses s slot;
  full_check = λ s b. check_refuses s;
  find = λ s b. find_refuses s b;
  copy_outward = λ s out b. copy_refuses s out;
  reads = λ s out slot. (refl, refl, refl, refl);
  emptied = λ s b slot code z. step_empties s slot (lead_in s slot code) (moved_slice s slot code) (demand_2.step s b slot code z);
  behind = λ p t g. all_behind p t g;
  behind_clear = clear_behind;
}

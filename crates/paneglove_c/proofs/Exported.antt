-- What an export's contract allows is what the contract of the function behind it allows, so that all of `paneglove/proofs/Determined.antt` holds of
-- the exports; and no export asks anything of a caller.
-- Assumes nothing.
use Prim.Native.Nat.{ℕ}
use mathlib.Core.List.{List}
use contract.Lifetimes.{Lfts}
use denote.Ref.{Bor, MutBor, at_last}
use Rattle.paneglove.specs.declared.Payload.{Payload}
use Rattle.paneglove.specs.declared.Taken.{Taken}
use Rattle.paneglove.specs.declared.Moved.{Moved}
use Rattle.paneglove.specs.declared.Read.{Read}
use Rattle.paneglove.specs.declared.Checked.{Checked}
use Rattle.paneglove.specs.declared.Found.{Found}
use Rattle.paneglove.specs.declared.Copied.{Copied}
use Rattle.paneglove.specs.declared.Listed.{Listed}
use Rattle.paneglove.proofs.Determined.{ClearAllows, TakeInAllows, MakeMoveAllows, ReadPayloadAllows, FullCheckAllows, FindAllows, CopyOutwardAllows, ListAllows}
use Rattle.paneglove_c.proofs.paneglove_clear.Reads as clear_reads
use Rattle.paneglove_c.proofs.paneglove_take_in.Reads as take_in_reads
use Rattle.paneglove_c.proofs.paneglove_make_move.Reads as make_move_reads
use Rattle.paneglove_c.proofs.paneglove_read_payload.Reads as read_payload_reads
use Rattle.paneglove_c.proofs.paneglove_full_check.Reads as full_check_reads
use Rattle.paneglove_c.proofs.paneglove_find.Reads as find_reads
use Rattle.paneglove_c.proofs.paneglove_copy_outward.Reads as copy_outward_reads
use Rattle.paneglove_c.proofs.paneglove_list.Reads as list_reads

module _ (κs : Lfts 1) (s : MutBor (List ℕ)) (width height depth profile : ℕ) where
  pub clear_exported : (r : ℕ) (u : List ℕ) → clear_reads.Post κs (s, (width, (height, (depth, (profile, tt))))) r (at_last s u, (width, (height, (depth, (profile, tt))))) → ClearAllows κs s width height depth profile r u
  clear_exported r u h = h

  pub clear_asks_nothing : clear_reads.Asked κs (s, (width, (height, (depth, (profile, tt)))))
  clear_asks_nothing = tt

module _ (κs : Lfts 1) (s : MutBor (List ℕ)) (source destination : ℕ) (payload : Payload) where
  pub take_in_exported : (r : Taken) (u : List ℕ) → take_in_reads.Post κs (s, (source, (destination, (payload, tt)))) r (at_last s u, (source, (destination, (payload, tt)))) → TakeInAllows κs s source destination payload r u
  take_in_exported r u h = h

  pub take_in_asks_nothing : take_in_reads.Asked κs (s, (source, (destination, (payload, tt))))
  take_in_asks_nothing = tt

module _ (κs : Lfts 1) (s : MutBor (List ℕ)) (slot code : ℕ) where
  pub make_move_exported : (r : Moved) (u : List ℕ) → make_move_reads.Post κs (s, (slot, (code, tt))) r (at_last s u, (slot, (code, tt))) → MakeMoveAllows κs s slot code r u
  make_move_exported r u h = h

  pub make_move_asks_nothing : make_move_reads.Asked κs (s, (slot, (code, tt)))
  make_move_asks_nothing = tt

module _ (κs : Lfts 1) (s : Bor (List ℕ)) (slot : ℕ) where
  pub read_payload_exported : (r : Read) → read_payload_reads.Post κs (s, (slot, tt)) r (s, (slot, tt)) → ReadPayloadAllows κs s slot r
  read_payload_exported r h = h

  pub read_payload_asks_nothing : read_payload_reads.Asked κs (s, (slot, tt))
  read_payload_asks_nothing = tt

module _ (κs : Lfts 1) (s : Bor (List ℕ)) where
  pub full_check_exported : (r : Checked) → full_check_reads.Post κs (s, tt) r (s, tt) → FullCheckAllows κs s r
  full_check_exported r h = h

  pub full_check_asks_nothing : full_check_reads.Asked κs (s, tt)
  full_check_asks_nothing = tt

module _ (κs : Lfts 1) (s : Bor (List ℕ)) where
  pub find_exported : (r : Found) → find_reads.Post κs (s, tt) r (s, tt) → FindAllows κs s r
  find_exported r h = h

  pub find_asks_nothing : find_reads.Asked κs (s, tt)
  find_asks_nothing = tt

module _ (κs : Lfts 2) (s : Bor (List ℕ)) (second : MutBor (List ℕ)) where
  pub copy_outward_exported : (r : Copied) (u : List ℕ) → copy_outward_reads.Post κs (s, (second, tt)) r (s, (at_last second u, tt)) → CopyOutwardAllows κs s second r u
  copy_outward_exported r u h = h

  pub copy_outward_asks_nothing : copy_outward_reads.Asked κs (s, (second, tt))
  copy_outward_asks_nothing = tt

module _ (κs : Lfts 2) (s : Bor (List ℕ)) (second : MutBor (List ℕ)) where
  pub list_exported : (r : Listed) (u : List ℕ) → list_reads.Post κs (s, (second, tt)) r (s, (at_last second u, tt)) → ListAllows κs s second r u
  list_exported r u h = h

  pub list_asks_nothing : list_reads.Asked κs (s, (second, tt))
  list_asks_nothing = tt

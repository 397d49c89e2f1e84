-- Each contract determines the answer and every byte of the buffers lent: two outcomes that it allows for the same arguments are equal.
-- `Post` is the contract's own reading, as the check made it: the lifetimes, the arguments, the result, and the arguments as the call ends. `Asked`,
-- what a caller must show, is nothing, for any arguments.
-- Assumes nothing.
use Prim.Native.Nat.{ℕ}
use mathlib.Core.Path.{◌≡◌, ap}
use mathlib.Core.List.{List}
use contract.Lifetimes.{Lfts}
use denote.Ref.{Bor, MutBor, at_last}
use Rattle.std.specs.Prelude.{Result}
use Rattle.table.specs.declared.refusals.Refusal.{Refusal}
use Rattle.table.proofs.CallLaws.{both}
use Rattle.listing.specs.declared.sending.Sent.{Sent}
use Rattle.listing.specs.Output.{listed_into, verdict_into}
use Rattle.listing.specs.Outward.{sent_into}
use Rattle.listing.proofs.answering.check_line.Reads as check-line-reads
use Rattle.listing.proofs.answering.list_table.Reads as list-table-reads
use Rattle.listing.proofs.sending.send_outward.Reads as send-outward-reads

module _ (κs : Lfts 2) (s : Bor (List ℕ)) (out : MutBor (List ℕ)) where
  abbrev pub ListTableAllows : Result ℕ Refusal → List ℕ → Type 0
  ListTableAllows r u = list-table-reads.Post κs (s, (out, tt)) r (s, (at_last out u, tt))

  pub list_table_determined : (r r' : Result ℕ Refusal) (u u' : List ℕ) → ListTableAllows r u → ListTableAllows r' u' → (r ≡ r') × (u ≡ u')
  list_table_determined r r' u u' h h' = both (listed_into s.now out.now) h.0 h'.0

  pub list_table_asks_nothing : list-table-reads.Asked κs (s, (out, tt))
  list_table_asks_nothing = tt

  abbrev pub CheckLineAllows : Result ℕ Refusal → List ℕ → Type 0
  CheckLineAllows r u = check-line-reads.Post κs (s, (out, tt)) r (s, (at_last out u, tt))

  pub check_line_determined : (r r' : Result ℕ Refusal) (u u' : List ℕ) → CheckLineAllows r u → CheckLineAllows r' u' → (r ≡ r') × (u ≡ u')
  check_line_determined r r' u u' h h' = both (verdict_into s.now out.now) h.0 h'.0

  pub check_line_asks_nothing : check-line-reads.Asked κs (s, (out, tt))
  check_line_asks_nothing = tt

module _ (κs : Lfts 3) (s : Bor (List ℕ)) (out line : MutBor (List ℕ)) where
  abbrev pub SendOutwardAllows : Result Sent Refusal → List ℕ → List ℕ → Type 0
  SendOutwardAllows r u v = send-outward-reads.Post κs (s, (out, (line, tt))) r (s, (at_last out u, (at_last line v, tt)))

  pub send_outward_determined : (r r' : Result Sent Refusal) (u u' v v' : List ℕ) → SendOutwardAllows r u v → SendOutwardAllows r' u' v'
      → (r ≡ r') × ((u ≡ u') × (v ≡ v'))
  send_outward_determined r r' u u' v v' h h' =
      let d = both (sent_into s.now out.now line.now) h.0 h'.0 in
      (d.0, (ap (λ (x : List ℕ × List ℕ). x.0) d.1, ap (λ (x : List ℕ × List ℕ). x.1) d.1))

  pub send_outward_asks_nothing : send-outward-reads.Asked κs (s, (out, (line, tt)))
  send_outward_asks_nothing = tt

-- The listing keeps secrets: two slices, each of at most 65,536 bytes, whose tables differ only in payloads of slots held in both and in the
-- bytes before have the same listing, the same line of the check, and the same copy or words for outsiders; with equal buffers before the call, the
-- calls come to the same.
-- Assumes nothing.
use Prim.Native.Nat.{ℕ, ◌≤◌}
use mathlib.Core.Path.{◌≡◌, sym, ap, ◌∙◌}
use mathlib.Core.List.{List}
use lib.ListN.{length}
use Rattle.table.specs.Refusals.{trailer_not_good}
use Rattle.survey.specs.Secrecy.{Alike}
use Rattle.survey.proofs.Secrecy.{seen, same_copy, passing_secret, check_secret}
use Rattle.lines.specs.Lines.{table_text, room}
use Rattle.lines.proofs.Told.{text_told}
use Rattle.listing.specs.Output.{line_room, refusal_line, fault_line, verdict_line, into, listing, verdict, listed_into, verdict_into}
use Rattle.listing.specs.Outward.{copy_alone, words_alone, withheld, copy_of, sent_of, sent_into}
use Rattle.listing.proofs.OutputLaws.{verdict_read, listing_read}
use Rattle.listing.proofs.OutwardLaws.{sent_by, sent_read}

pub listing_secret : {s u : List ℕ} → Alike s u → length s ≤ 65536 → length u ≤ 65536 → listing s ≡ listing u
listing_secret {s} {u} a l m =
    listing_read s l
    ∙ passing_secret (refusal_line trailer_not_good) fault_line table_text (λ h t w d. text_told h t w (seen d).held (seen d).front) a
    ∙ sym (listing_read u m)

pub verdict_secret : {s u : List ℕ} → Alike s u → length s ≤ 65536 → length u ≤ 65536 → verdict s ≡ verdict u
verdict_secret {s} {u} a l m = verdict_read s l ∙ ap verdict_line (check_secret a) ∙ sym (verdict_read u m)

pub outward_secret : {s u : List ℕ} → Alike s u → length s ≤ 65536 → length u ≤ 65536 → sent_of s ≡ sent_of u
outward_secret {s} {u} a l m =
    sent_read s l
    ∙ ap (sent_by s) (verdict_secret a l m)
    ∙ passing_secret (words_alone (verdict u)) (withheld (verdict u)) copy_of (λ h t w d. ap copy_alone (same_copy d)) a
    ∙ sym (sent_read u m)

-- ---- the calls

pub list_table_secret : {s u : List ℕ} → Alike s u → length s ≤ 65536 → length u ≤ 65536 → (out : List ℕ) → listed_into s out ≡ listed_into u out
unfolding listed_into
list_table_secret a l m out = ap (λ (x : List ℕ). into room x out) (listing_secret a l m)

pub check_line_secret : {s u : List ℕ} → Alike s u → length s ≤ 65536 → length u ≤ 65536 → (out : List ℕ) → verdict_into s out ≡ verdict_into u out
unfolding verdict_into
check_line_secret a l m out = ap (λ (x : List ℕ). into line_room x out) (verdict_secret a l m)

pub send_outward_secret : {s u : List ℕ} → Alike s u → length s ≤ 65536 → length u ≤ 65536 → (out line : List ℕ)
    → sent_into s out line ≡ sent_into u out line
unfolding sent_into
send_outward_secret a l m out line = rw (outward_secret a l m)

-- What a read put after the earlier bytes, it consumed after them.
use Rattle.std.proofs.Common.{◌≡◌, ℕ, ◌+◌, ◌≤◌, List, ◌++◌, rules, length, take, sym, ap, ◌∙◌, subst, length-take-le}
use Rattle.std.proofs.Math.Seq.{take-append-add, take-append-le}
use Rattle.std.specs.Io.KnownBytes.{Consumes}
use Rattle.std.proofs.KnownBytes.{Consumes-trans}
use borrow.Rule.Slice.PartMut.{put_mid, post_of}
use Rattle.reading.proofs.read_full.Goals as goal

take_into : (a k n : ℕ) (xs ys : List ℕ) → a ≤ length xs → n ≤ length ys → take a xs ++ take n ys ≡ take (a + n) (put_mid a k xs ys)
take_into a k n xs ys within fits =
    let after = post_of a k xs in
    subst (λ m. take a xs ++ take n ys ≡ take (m + n) (put_mid a k xs ys)) (length-take-le a xs within)
    (sym (take-append-add (take a xs) (ys ++ after) n ∙ ap (λ zs. take a xs ++ zs) (take-append-le n ys after fits)))

pub loop-done-preserved : goal.loop-done-preserved
loop-done-preserved g c =
    let l = c.loop-done in
    let taken = take_into l.done _ c.in_ok-n.n l.out c.read.new.buf l.invariant.1 c.in_ok-n.ensures.bound.0 in
    (search rules, search rules, subst (Consumes _ _) taken (Consumes-trans _ _ _ _ _ l.invariant.2 c.in_ok-n.ensures.bytes.0))

use Rattle.std.proofs.Common.{◌≡◌, subst, rules, refl}
use Rattle.std.proofs.lemmas.Fn.{fold_over, slice_gives, fronts}
use Rattle.slots.specs.Slots.{zeros}
use Rattle.slots.proofs.ZeroLaws.{zeros-push}
use Rattle.slots.proofs.all_zero.Goals as goal

pub returns : goal.returns
returns c =
    subst (λ l. c.fold.result ≡ zeros l) c.iter.ensures.rest
    (fold_over fronts (λ y. y.now) _ (λ ys so_far. so_far ≡ zeros ys) _ (λ ys a x b f' j k. let more = zeros-push ys x.now in search rules)
    _ _ _ _ (slice_gives c.iter.result) refl c.fold.ensures.ran)

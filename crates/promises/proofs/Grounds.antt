-- A list of refusals' numbers with their tests goes with the paper's conditions: then the first that is due is that of the first condition that
-- holds.
-- Assumes nothing.
use Rattle.std.specs.Prelude.{Option, Some, None}
use Prim.Native.Nat.{ℕ}
use mathlib.Core.Path.{◌≡◌, refl, sym, ap, subst, ◌∙◌}
use mathlib.Core.Logic.{inl, inr, ◌↔◌}
use mathlib.Core.Bool.{Bool, true, false, not, cond}
use mathlib.Core.List.{List, [], ◌∷◌}
use Rattle.network.proofs.Tests.{clash}
use Rattle.trailer.specs.declared.Head.{Head}
use Rattle.trailer.specs.Trailer.{trailer_of}
use Rattle.table.specs.Refusals.{Row, first_due, trailer_not_good}
use Rattle.table.specs.Calls.{Outcome, answered, on_table}
use Rattle.table.proofs.CallLaws.{answered-number, on_table_bad, on_table_good}
use Rattle.calls.specs.Slices.{head_in, table_in, GoodIn}
use Rattle.promises.specs.Demand1.{Grounds, end, ground, First, Refuses}
use Rattle.promises.proofs.Reading.{good_is, good_in, bad_in}
use Rattle.promises.proofs.Unchanged.{Refused}

-- ---- the first condition that holds has one number

pub first_one : (g : Grounds) {n m : ℕ} → First g n → First g m → n ≡ m
first_one end a b = a ∙ sym b
first_one (ground k C rest) (inl a) (inl b) = a.1 ∙ sym b.1
first_one (ground k C rest) (inl a) (inr b) = absurd (b.0 a.0)
first_one (ground k C rest) (inr a) (inl b) = absurd (a.0 b.0)
first_one (ground k C rest) (inr a) (inr b) = first_one rest a.1 b.1

pub exactly_first : (g : Grounds) (number : ℕ) → First g number → (n : ℕ) → (number ≡ n) ↔ First g n
exactly_first g number f n = (λ e. subst (First g) e f, λ h. first_one g f h)

-- ---- row by row: each test tells its condition where no earlier row is due

abbrev pub Tells : List Row → Grounds → Type 0
Tells [] end = Unit {0}
Tells [] (ground m C rest) = ⊥
Tells (r ∷ rows) end = ⊥
Tells (r ∷ rows) (ground m C rest) =
    (r.number ≡ m) × (r.due ≡ true → C) × (r.due ≡ false → C → ⊥) × (r.due ≡ false → Tells rows rest)

pub first_due_lem : (rows : List Row) (g : Grounds) → Tells rows g → First g (first_due rows)
first_due_lem [] end t = refl
first_due_lem [] (ground m C rest) t = absurd t
first_due_lem (r ∷ rows) end t = absurd t
first_due_lem (r ∷ rows) (ground m C rest) t = go (first_due_lem rows rest) r.due refl
  where
    go : (Tells rows rest → First rest (first_due rows)) → (b : Bool) → r.due ≡ b → First (ground m C rest) (cond b r.number (first_due rows))
    go later true e = inl (t.1 e, t.0)
    go later false e = inr (t.2 e, later (t.3 e))

-- ---- tests

pub not_due : (b : Bool) → not b ≡ true → b ≡ true → ⊥
not_due true e f = clash cc
not_due false e f = clash cc

pub not_both : (b : Bool) → b ≡ true → b ≡ false → ⊥
not_both b e f = clash cc

-- ---- conditions

-- the refusals after the first
abbrev pub later : Grounds → Grounds
later end = end
later (ground m C rest) = rest

-- two conditions of one number are one
pub first-joined : (m n : ℕ) {C D E : Type 0} (rest : Grounds) → (C → E) → (D → E) → ((C → ⊥) → (D → ⊥) → E → ⊥)
    → First (ground m C (ground m D rest)) n → First (ground m E rest) n
first-joined m n rest c d neither (inl a) = inl (c a.0, a.1)
first-joined m n rest c d neither (inr (u, inl a)) = inl (d a.0, a.1)
first-joined m n rest c d neither (inr (u, inr (v, later))) = inr (neither u v, later)

-- ---- calls: the number answered is that of the first condition that holds

module _ {A : Type 0} (number : A → ℕ) (refusal : ℕ → A) (named : (n : ℕ) → number (refusal n) ≡ n) where
  abbrev of : {B : Type 0} → Outcome A B → ℕ
  of o = number o.answer

  -- of one that answers by its rows
  module _ {B : Type 0} (rows : List Row) (lent : B) (done : Outcome A B) (zero : number done.answer ≡ 0) where
    pub first-answered : (g : Grounds) → Tells rows g → First g (number (answered rows refusal lent done).answer)
    first-answered g t = subst (First g) (sym (answered-number number refusal named rows lent done (λ e. zero))) (first_due_lem rows g t)

  -- of one on the table of a slice: refusal 1 comes first
  pub first_on_table : (s : List ℕ) (f : Head → List ℕ → Outcome A (List ℕ)) (rest : Grounds)
      → (GoodIn s → First rest (number (f (head_in s) (table_in s)).answer)) → First (ground 1 (GoodIn s → ⊥) rest) (number (on_table s refusal f).answer)
  unfolding table_in
  first_on_table s f rest good = go (trailer_of s) refl
    where
      go : (t : Option Head) → trailer_of s ≡ t → First (ground 1 (GoodIn s → ⊥) rest) (number (on_table s refusal f).answer)
      go None e = inl (bad_in s e, ap of (on_table_bad s refusal f e) ∙ named trailer_not_good)
      go (Some h) e =
          let g = good_in s e in
          inr (λ u. u g, subst (First rest) (sym (ap of (on_table_good s refusal f (head_in s) (good_is s g)))) (good g))

  -- ---- and a refusal says what all of the call's do

  module _ (Told : A → Type 0) (says : (n : ℕ) → Told (refusal n)) where
    pub refuses : (g : Grounds) (s : List ℕ) (o : Outcome A (List ℕ)) → Refused number refusal s o → First g (number o.answer)
        → Refuses number Told g s o
    refuses g s o r f = record {
      exactly = exactly_first g (number o.answer) f;
      told = λ u. subst (λ (x : Outcome A (List ℕ)). Told x.answer) (sym (r u)) (says (number o.answer));
      unchanged = λ u. ap (λ (x : Outcome A (List ℕ)). x.bytes) (r u);
    }

-- What std's `find` and `any` answer over a range of numbers, where the closure tells a property: the lowest of them with it. And what `count` answers
-- after `filter`: how many have it.
-- Assumes nothing.
use Rattle.std.specs.Prelude.{Option, Some, None, MatchOption, ⊤}
use Prim.Native.Nat.{ℕ, zero, suc, ◌+◌, ◌-◌, ◌≤◌, ◌<◌}
use mathlib.Core.Path.{◌≡◌, refl, sym, ap, subst, ◌∙◌}
use mathlib.Core.Bool.{Bool, true, false, cond}
use mathlib.Core.List.{List, ◌∷◌}
use native.Mathlib.Omega.{arith}
use native.Mathlib.Numerals.{add-one}
use lib.ListN.{length}
use denote.Ref.{Bor}
use denote.Param.Members.{Mut, Called}
use Rattle.std.specs.Bool.{MatchBool}
use Rattle.std.specs.Fn.{CalledAt}
use Rattle.std.specs.List.{FoldsTo, range_with_len, AllWithin, HoldsAt, filter}
use Rattle.std.specs.Iterator.{YieldsThen, Drains}
use Rattle.std.specs.Iterator.Adapters.{filter_source, filter_callee, filter_steps}
use Rattle.std.specs.declared.ops.Range.{Range}
use Rattle.std.specs.declared.iter.Filter.{Filter}
use Rattle.std.proofs.iter.Yields.{nat_range_steps}
use Rattle.std.proofs.lemmas.Iterator.{first_from_Range, cases_from_any, YieldsList-from_range}
use Rattle.std.proofs.lemmas.Iterator.Consumers.{YieldsList-from_filter, count_from_yields_List}
use Rattle.std.proofs.lemmas.List.FromFn.{length-range_with_len, get_or-range_with_len}
use Rattle.network.specs.Search.{lowest_with, count_with, is_at}
use Rattle.network.proofs.SearchLaws.{lowest_at, none_nowhere, some_at}

module _ (p : ℕ → Bool) (a b : ℕ) where
  pub lowest_of : (r : Option ℕ)
      → MatchOption r ((k : ℕ) → a ≤ k → k < b → p k ≡ false)
      (λ i. (a ≤ i) × (i < b) × (p i ≡ true) × ((k : ℕ) → a ≤ k → k < i → p k ≡ false))
      → r ≡ lowest_with p a (b - a)
  lowest_of None m = sym (none_nowhere p a (b - a) (record { lacks = λ k l h. m k l (omega arith) }))
  lowest_of (Some i) m = sym (lowest_at p a (b - a) i (record { from = m.0; below = omega (arith, m.0, m.1); has = m.2; least = m.3 }))

module _ {F : Type 0} {g : Mut F (Bor ℕ × Unit {0}) Bool} (p : ℕ → Bool) (s u : Range ℕ) (f : F) (r : Option ℕ) where
  -- the closure is asked by a reference, as `find` does
  pub find_lowest : (xs : List ℕ) × (j : F) × YieldsThen nat_range_steps s xs r u × FoldsTo (λ q x q'. CalledAt g q x false q') f xs j
      × MatchOption r ⊤ (λ x. (h : F) × CalledAt g j x true h)
      → ((x : ℕ) (q : F) → CalledAt g f x true q → p x ≡ true)
      → ((x : ℕ) (q : F) → CalledAt g f x false q → (q ≡ f) × (p x ≡ false))
      → r ≡ lowest_with p s.start (s.end - s.start)
  find_lowest ran has lacks = lowest_of p s.start s.end r (first_from_Range s u f r (λ i. p i ≡ true) (λ i. p i ≡ false) ran has lacks)

abbrev numbers : ℕ → ℕ → List ℕ
numbers a b = range_with_len a (b - a)

at_place : (a b : ℕ) (P : ℕ → Type 0) (k : ℕ) → k < b - a → HoldsAt P (numbers a b) k → P (a + k)
at_place a b P k l h = subst P (get_or-range_with_len a (b - a) k 0 l) (h 0)

module _ {F : Type 0} {g : Mut F (ℕ × Unit {0}) Bool} (p : ℕ → Bool) (a b : ℕ) (u : Range ℕ) (f : F) (r : Bool) where
  pub any_lowest : (xs : List ℕ) × (o : Option ℕ) × (j : F) × YieldsThen nat_range_steps (record { start = a; end = b }) xs o u
      × FoldsTo (λ q x q'. Called g q (x, tt) false q') f xs j
      × MatchOption o (r ≡ false) (λ x. (r ≡ true) × ((h : F) × Called g j (x, tt) true h))
      → ((x : ℕ) (q : F) → Called g f (x, tt) true q → p x ≡ true)
      → ((x : ℕ) (q : F) → Called g f (x, tt) false q → (q ≡ f) × (p x ≡ false))
      → r ≡ is_at (lowest_with p a (b - a))
  any_lowest ran has lacks =
      go r (cases_from_any u f r (λ i. p i ≡ true) (λ i. p i ≡ false) ran (YieldsList-from_range a b (b - a) refl refl) has lacks)
    where
      n : length (numbers a b) ≡ b - a
      n = length-range_with_len a (b - a)

      go : (z : Bool) → MatchBool z ((k : ℕ) × (k < length (numbers a b)) × HoldsAt (λ i. p i ≡ true) (numbers a b) k) (AllWithin (λ i. p i ≡ false) (numbers a b) 0 (length (numbers a b)))
          → z ≡ is_at (lowest_with p a (b - a))
      go true m =
          let l : m.0 < b - a = omega (arith, m.1, n) in
          sym (ap is_at (some_at p a (b - a) (a + m.0) (omega arith) (omega arith) (at_place a b (λ i. p i ≡ true) m.0 l m.2)).1)
      go false m =
          sym (ap is_at (none_nowhere p a (b - a) (record {
            lacks = λ j l h.
                let d : a + (j - a) ≡ j = omega arith in
                let k : j - a < b - a = omega arith in
                subst (λ i. p i ≡ false) d (at_place a b (λ i. p i ≡ false) (j - a) k (λ x. m (j - a) x (omega arith) (omega (arith, n))));
          })))

length-passing : (p : ℕ → Bool) (a n : ℕ) → length (filter p (range_with_len a n)) ≡ count_with p a n
length-passing p a zero = refl
length-passing p a (suc n) = by (p a) (rw add-one (length-passing p (suc a) n))
  where
    by : (z : Bool) → length (filter p (range_with_len (a + 1) n)) ≡ count_with p (suc a) n
        → length (cond z (a ∷ filter p (range_with_len (a + 1) n)) (filter p (range_with_len (a + 1) n)))
        ≡ cond z (suc (count_with p (suc a) n)) (count_with p (suc a) n)
    by true rest = ap suc rest
    by false rest = rest

module _ {F : Type 0} {g : Mut F (Bor ℕ × Unit {0}) Bool} (p : ℕ → Bool) (a b : ℕ) (s : Filter (Range ℕ) F) (f : F) (r : ℕ) where
  pub filter_counted : (xs : List ℕ) × Drains (filter_steps nat_range_steps g) s xs × (r ≡ length xs)
      → filter_source s ≡ record { start = a; end = b }
      → filter_callee s ≡ f
      → ((x : ℕ) (z : Bool) (q : F) → CalledAt g f x z q → (q ≡ f) × (z ≡ p x))
      → r ≡ count_with p a (b - a)
  filter_counted ran source callee tells =
      count_from_yields_List s r ran (YieldsList-from_filter g p (YieldsList-from_range a b (b - a) source refl) callee tells)
      ∙ length-passing p a (b - a)

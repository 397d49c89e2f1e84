-- Hops counted by serial: in a list of packets, no serial twice, as many are recorded for each as its record says. It stays so when a packet hops
-- and is recorded, and when one comes in with the next serial.
-- Assumes nothing.
use Prim.Native.Nat.{ℕ, suc, ◌+◌, ◌<◌}
use mathlib.Core.Path.{◌≡◌, refl, sym, ap, subst, ◌∙◌}
use mathlib.Core.Logic.{◌≢◌}
use mathlib.Core.List.{List, [], ◌∷◌, ◌++◌, map, Permᴰ}
use native.Mathlib.Omega.{arith}
use borrow.Author.Tests.{eq-eqb, ne_eqb}
use Rattle.network.specs.Lists.{All, Distinct}
use Rattle.network.proofs.Lists.{all_perm, all_map, all_images, images_all, map-perm, distinct_perm}
use Rattle.table.specs.Packets.{packet_of}
use Rattle.promises.specs.History.{hops_of}

abbrev pub serial_of : List ℕ → ℕ
serial_of v = (packet_of v).serial

-- of packets as their 16 bytes, under a count of packets taken in
pub record Recorded (taken : ℕ) (hopped : List ℕ) (l : List (List ℕ)) : Type 0 where
  pub distinct : Distinct (map serial_of l)
  pub hops : All (λ (v : List ℕ). hops_of (serial_of v) hopped ≡ (packet_of v).hops) l
  pub below : All (λ (v : List ℕ). serial_of v < taken) l
  pub known : All (λ (n : ℕ). n < taken) hopped

pub none_recorded : Recorded 0 [] []
none_recorded = record { distinct = tt; hops = tt; below = tt; known = tt }

-- ---- counting

hops_own : (n : ℕ) (hopped : List ℕ) → hops_of n (n ∷ hopped) ≡ hops_of n hopped + 1
hops_own n hopped = rw (eq-eqb n n refl) (omega arith)

hops_other : (n m : ℕ) (hopped : List ℕ) → m ≢ n → hops_of n (m ∷ hopped) ≡ hops_of n hopped
hops_other n m hopped u = rw (ne_eqb m n u) (omega arith)

hops_none : (n : ℕ) (hopped : List ℕ) → All (λ (m : ℕ). m < n) hopped → hops_of n hopped ≡ 0
hops_none n [] h = refl
hops_none n (m ∷ hopped) h = hops_other n m hopped (λ e. omega (arith, h.0)) ∙ hops_none n hopped h.1

pub all_with : {A : Type 0} {P Q S : A → Type 0} → ((x : A) → P x → Q x → S x) → (l : List A) → All P l → All Q l → All S l
all_with f [] p q = tt
all_with f (x ∷ l) p q = (f x p.0 q.0, all_with f l p.1 q.1)

pub all_parts : {A : Type 0} (P : A → Type 0) (l m : List A) → All P (l ++ m) → All P l × All P m
all_parts P [] m h = (tt, h)
all_parts P (x ∷ l) m h = let r = all_parts P l m h.1 in ((h.0, r.0), r.1)

-- ---- one packet among the others

module _ (taken : ℕ) (hopped : List ℕ) where
  pub recorded_perm : {l m : List (List ℕ)} → Permᴰ l m → Recorded taken hopped l → Recorded taken hopped m
  recorded_perm d h = record {
    distinct = distinct_perm (map-perm serial_of d) h.distinct;
    hops = all_perm _ d h.hops;
    below = all_perm _ d h.below;
    known = h.known;
  }

  -- it has hopped: the other serials are others
  pub recorded_hop : (v w : List ℕ) (l : List (List ℕ)) → serial_of w ≡ serial_of v → (packet_of w).hops ≡ (packet_of v).hops + 1
      → Recorded taken hopped (v ∷ l) → Recorded taken (serial_of v ∷ hopped) (w ∷ l)
  recorded_hop v w l e f h =
      let apart = images_all (λ (n : ℕ). serial_of v ≡ n → ⊥) serial_of l h.distinct.0 in
      record {
        distinct = rw e h.distinct;
        hops = (
          subst (λ (n : ℕ). hops_of n (serial_of v ∷ hopped) ≡ (packet_of w).hops) (sym e)
              (hops_own (serial_of v) hopped ∙ ap (λ (n : ℕ). n + 1) h.hops.0 ∙ sym f),
          all_with (λ x p q. hops_other (serial_of x) (serial_of v) hopped p ∙ q) l apart h.hops.1,
        );
        below = (rw e h.below.0, h.below.1);
        known = (h.below.0, h.known);
      }

  -- it has come in, with the next serial and no hop
  pub recorded_new : (v : List ℕ) (l : List (List ℕ)) → serial_of v ≡ taken → (packet_of v).hops ≡ 0
      → Recorded taken hopped l → Recorded (suc taken) hopped (v ∷ l)
  recorded_new v l e f h = record {
    distinct = (all_images (λ (n : ℕ). serial_of v ≡ n → ⊥) serial_of l (all_map (λ x p q. omega (arith, e, p, q)) l h.below), h.distinct);
    hops = (rw e (hops_none taken hopped h.known ∙ sym f), h.hops);
    below = (omega (arith, e), all_map (λ x p. omega (arith, p)) l h.below);
    known = all_map (λ n p. omega (arith, p)) hopped h.known;
  }

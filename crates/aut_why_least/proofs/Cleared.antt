-- The words behind the lists zeroed.
use mathlib.Core.Path.{◌≡◌, ◌∙◌, ap}
use mathlib.Core.List.{List, ◌++◌, append-nil}
use Prim.Native.Nat.{ℕ, zero, ◌-◌, ◌≤◌, ◌<◌}
use native.Mathlib.Omega.{arith}
use native.Mathlib.Decide.{dec_lt}
use lib.ListN.{length, get_or, take, drop, replicate, length-drop, length-replicate, get_or-replicate, get_or-eq_default}
use Rattle.std.proofs.lemmas.List.{length-take-le, get_or_append_left, get_or-append_right, get_or-take, drop_all}
use borrow.Rule.Slice.PartMut.{put_mid, mid_of, post_of}
use Rattle.aut_relations.specs.Behind.{LISTS}
use Rattle.aut_why_least.specs.Clauses.{Forgotten}

module _ (s : List ℕ) (a : ℕ) (l : a ≤ length s) where
  below : (ys : List ℕ) (i : ℕ) → i < a → get_or (put_mid a (length s - a) s ys) i 0 ≡ get_or s i 0
  below ys i h = get_or_append_left (take a s) (ys ++ post_of a (length s - a) s) 0 i (omega (arith, length-take-le a s l)) ∙ get_or-take a s i 0 h

  behind : (i : ℕ) → a ≤ i → get_or (put_mid a (length s - a) s (replicate (length s - a) 0)) i 0 ≡ 0
  behind i h =
      get_or-append_right (take a s) (replicate (length s - a) 0 ++ post_of a (length s - a) s) a i 0 (length-take-le a s l) h
      ∙ ap (λ (z : List ℕ). get_or (replicate (length s - a) 0 ++ z) (i - a) 0) (drop_all (length s - a) (drop a s) (omega (arith, length-drop a s)))
      ∙ ap (λ (z : List ℕ). get_or z (i - a) 0) (append-nil (replicate (length s - a) 0))
      ∙ at (dec_lt (i - a) (length s - a))
    where
      at : Dec (i - a < length s - a) → get_or (replicate (length s - a) 0) (i - a) zero ≡ zero
      at (yes k) = get_or-replicate {A = ℕ} (length s - a) (i - a) 0 0 k
      at (no k) = get_or-eq_default (replicate (length s - a) 0) 0 (omega (arith, length-replicate {A = ℕ} (length s - a) 0))

pub forgotten : {s ys : List ℕ} → LISTS ≤ length s → ys ≡ replicate (length (mid_of LISTS (length s - LISTS) s)) 0 → Forgotten s (put_mid LISTS (length s - LISTS) s ys)
forgotten {s} {ys} l e = record { below = below s LISTS l ys; zeroed = λ i h. ap (λ (z : List ℕ). get_or (put_mid LISTS (length s - LISTS) s z) i 0) whole ∙ behind s LISTS l i h }
  where
    whole : ys ≡ replicate (length s - LISTS) 0
    whole = e ∙ ap (λ (n : ℕ). replicate n 0) (length-take-le (length s - LISTS) (drop LISTS s) (omega (arith, length-drop LISTS s)))

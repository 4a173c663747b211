-- A line: how long it is, and what stands in the output when its parts are written; and the share.
use Rattle.std.specs.Prelude.{if◌then◌else◌, Option, Some, None, SomeIff, MatchOption}
use mathlib.Core.Path.{◌≡◌, refl, sym, ◌∙◌, ap, ap₂, subst}
use mathlib.Core.Bool.{Bool, true, false}
use mathlib.Core.List.{List, [], ◌∷◌, ◌++◌, map, append_assoc, append-nil}
use Prim.Native.Nat.{ℕ, ◌+◌, ◌*◌, ◌/◌, ◌%◌, ◌^◌, ◌≤◌, ◌<◌}
use native.Mathlib.Omega.{arith}
use lib.ListN.{length, get_or, drop, length-append}
use denote.Ref.{Bor}
use Rattle.std.proofs.Common.{Iter}
use Rattle.std.specs.List.{FoldsTo}
use Rattle.std.specs.Iterator.{Yields}
use Rattle.std.proofs.lemmas.Fn.{fronts}
use Rattle.std.proofs.lemmas.List.{drop_more, drop_all}
use lib.Pow.{pow_mono, pow_pos}
use native.Mathlib.Nat.{mod-eq_of_lt}
use borrow.Author.Tests.{lt-ltb, le-ltb}
use Rattle.book_steps.specs.Answers.{say, share}
use Rattle.book_writer.specs.declared.Part.{Part}
use Rattle.book_writer.specs.declared.Part.TheVariants.{Word}
use Rattle.book_writer.specs.Clauses.{PutAt, part_bytes, with_spaces, Measures}
use Rattle.book_writer.proofs.Contracts.{put_append, put_of}

length_two : (v w : List ℕ) → length (say (v ∷ w ∷ [])) ≡ length v + length w + 2
unfolding say
length_two v w = omega (arith, length-append v (32 ∷ w ++ 10 ∷ []), length-append w (10 ∷ []))

length_more : (v w : List ℕ) (ws : List (List ℕ)) → length (say (v ∷ w ∷ ws)) ≡ length v + 1 + length (say (w ∷ ws))
unfolding say
length_more v w ws = omega (arith, length-append v (32 ∷ say (w ∷ ws)))

pub length_three : (u v w : List ℕ) → length (say (u ∷ v ∷ w ∷ [])) ≡ length u + length v + length w + 3
length_three u v w = omega (arith, length_more u v (w ∷ []), length_two v w)

-- ---- a word and the parts behind it

pub say_is : (w : List ℕ) (ps : List Part) → say (w ∷ map part_bytes ps) ≡ (w ++ with_spaces ps) ++ 10 ∷ []
unfolding say with_spaces
say_is w [] = ap (λ (l : List ℕ). l ++ 10 ∷ []) (sym (append-nil w))
say_is w (p ∷ ps) = ap (λ (l : List ℕ). w ++ 32 ∷ l) (say_is (part_bytes p) ps) ∙ sym (append_assoc w (32 ∷ part_bytes p ++ with_spaces ps) (10 ∷ []))

pub say_length : (w : List ℕ) (ps : List Part) → length (say (w ∷ map part_bytes ps)) ≡ length w + length (with_spaces ps) + 1
say_length w ps = omega (arith, ap length (say_is w ps), length-append (w ++ with_spaces ps) (10 ∷ []), length-append w (with_spaces ps))

-- .. counted, where the parts are n bytes
pub measured_line : (w : List ℕ) (ps : List Part) {n : ℕ} (r : Option ℕ) → n ≡ length (with_spaces ps) → SomeIff r (n + (length w + 1) < 2 ^ 64) (n + (length w + 1)) → Measures (say (w ∷ map part_bytes ps)) r
measured_line w ps (Some k) e h = omega (arith, h.1, say_length w ps)
measured_line w ps None e h = omega (arith, h, say_length w ps)

-- .. and there is room for n bytes
pub line_room : (w : List ℕ) (ps : List Part) (at : ℕ) {size n : ℕ} → at + n ≤ size → n ≡ length (say (w ∷ map part_bytes ps)) → at + (length w + length (with_spaces ps) + 1) ≤ size
line_room w ps at h e = omega (arith, say_length w ps)

-- what the check puts for a part that is not there
abbrev pub blank : Part
blank = Word (record { ref_ptr = (0, 0); now = [] })

-- the parts from i on
module _ (ps : List Part) (i : ℕ) where
  abbrev pub part_at : List ℕ
  part_at = part_bytes (get_or ps i blank)

  pub next_part : i < length ps → with_spaces (drop i ps) ≡ 32 ∷ part_at ++ with_spaces (drop (i + 1) ps)
  unfolding with_spaces
  next_part h = ap with_spaces (drop_more ps i blank h)

  pub no_part : length ps ≤ i → with_spaces (drop i ps) ≡ []
  unfolding with_spaces
  no_part h = ap with_spaces (drop_all i ps h)

-- the parts counted by a fold, each with a byte before it
module _ {F : Type 0} (turn : F × ℕ → Bor Part → F × ℕ → Type 0) (step : (p : F × ℕ) (x : Bor Part) (q : F × ℕ) → turn p x q → q.1 ≡ p.1 + (length (part_bytes x.now) + 1)) where
  pub summed : (xs : List (Bor Part)) (s t : Iter Part) (p q : F × ℕ) → Yields fronts s xs t → FoldsTo turn p xs q → p.1 + length (with_spaces s.rest.now) ≡ q.1 + length (with_spaces t.rest.now)
  unfolding with_spaces
  summed [] s t p q y e = ap₂ (λ (s : Iter Part) (p : F × ℕ). p.1 + length (with_spaces s.rest.now)) y e
  summed (x ∷ xs) s t p q y e =
      omega (arith, step p x e.0 e.1, summed xs y.0 t e.0 q y.2 e.2, ap (λ (l : List Part). length (with_spaces l)) y.1, length-append (part_bytes x.now) (with_spaces y.0.rest.now))

-- it went over all of them, or broke off at x
module _ (ps ys : List Part) (n : ℕ) (e : 0 + length (with_spaces ps) ≡ n + length (with_spaces ys)) {r : Option ℕ} where
  pub measured : (A : Type 0) (B : Bor Part → Type 0) (zs : List Part) (o : Option (Bor Part)) → MatchOption o ((length ys ≡ 0) × A) (λ x. ys ≡ x.now ∷ zs) → MatchOption o (r ≡ Some n) B
      → ((x : Bor Part) → B x → (2 ^ 64 ≤ n + (length (part_bytes x.now) + 1)) × (r ≡ None)) → Measures (with_spaces ps) r
  unfolding with_spaces
  measured A B zs None l w f = subst (Measures (with_spaces ps)) (sym w) (omega (arith, e, go ys l.0))
    where
      go : (ys : List Part) → length ys ≡ 0 → length (with_spaces ys) ≡ 0
      go [] l = refl
      go (y ∷ ys) l = absurd (omega arith)
  measured A B zs (Some x) l b f =
      let w = f x b in
      subst (Measures (with_spaces ps)) (sym w.1) (omega (arith, w.0, e, ap (λ (l : List Part). length (with_spaces l)) l, length-append (part_bytes x.now) (with_spaces zs)))

-- the word and i parts are written, and there is room for all
pub record Written (s₀ : List ℕ) (at : ℕ) (w : List ℕ) (ps : List Part) (s : List ℕ) (end i : ℕ) : Type 0 where
  pub front : List ℕ
  pub room : at + (length w + length (with_spaces ps) + 1) ≤ length s₀
  pub put : PutAt at front end s₀ s
  pub is : front ++ with_spaces (drop i ps) ≡ w ++ with_spaces ps

pub begin_line : {s₀ s : List ℕ} {at end : ℕ} {w : List ℕ} (ps : List Part) → at + (length w + length (with_spaces ps) + 1) ≤ length s₀ → PutAt at w end s₀ s → Written s₀ at w ps s end 0
begin_line {w = w} ps r P = record { front = w; room = r; put = P; is = refl }

module _ {s₀ s : List ℕ} {at end i : ℕ} {w : List ℕ} {ps : List Part} (W : Written s₀ at w ps s end i) where
  size : length W.front + length (with_spaces (drop i ps)) ≡ length w + length (with_spaces ps)
  size = omega (arith, ap length W.is, length-append W.front (with_spaces (drop i ps)), length-append w (with_spaces ps))

  pub one_byte : end + 1 ≤ length s
  one_byte = omega (arith, W.room, size, W.put.behind, W.put.wrote.len)

  module _ (h : i < length ps) where
    pub part_fits : {r : ℕ} {s' : List ℕ} → PutAt end (32 ∷ []) r s s' → r + length (part_at ps i) ≤ length s'
    part_fits P = omega (arith, W.room, P.behind, P.wrote.len, size, W.put.behind, W.put.wrote.len, ap length (next_part ps i h), length-append (part_at ps i) (with_spaces (drop (i + 1) ps)))

    pub part_more : {q r : ℕ} {s' s'' : List ℕ} → PutAt end (32 ∷ []) q s s' → PutAt q (part_at ps i) r s' s'' → Written s₀ at w ps s'' r (i + 1)
    part_more P Q = record {
      front = W.front ++ 32 ∷ part_at ps i;
      room = W.room;
      put = put_append W.put (put_append P Q);
      is = append_assoc W.front (32 ∷ part_at ps i) (with_spaces (drop (i + 1) ps)) ∙ ap (λ (l : List ℕ). W.front ++ l) (sym (next_part ps i h)) ∙ W.is;
    }

  pub line_done : length ps ≤ i → {r : ℕ} {s' : List ℕ} → PutAt end (10 ∷ []) r s s' → PutAt at (say (w ∷ map part_bytes ps)) r s₀ s'
  line_done h P =
      let f : W.front ≡ w ++ with_spaces ps = sym (append-nil W.front) ∙ ap (λ (l : List ℕ). W.front ++ l) (sym (no_part ps i h)) ∙ W.is in
      put_of (ap (λ (l : List ℕ). l ++ 10 ∷ []) f ∙ sym (say_is w ps)) (put_append W.put P)

-- ---- the share, and the total that it is of

test_holds : {b : Bool} (x y : ℕ) → b ≡ true → x ≡ (if b then x else y)
test_holds x y e = sym (ap (λ (t : Bool). if t then x else y) e)

test_fails : {b : Bool} (x y : ℕ) → b ≡ false → y ≡ (if b then x else y)
test_fails x y e = sym (ap (λ (t : Bool). if t then x else y) e)

module _ (count total : ℕ) where
  abbrev lower : ℕ
  lower = (1000 * count) / total

  abbrev twice : ℕ
  twice = 2 * ((1000 * count) % total)

  pub share_lower : twice < total → lower ≡ share count total
  unfolding share
  share_lower l = test_holds lower _ (lt-ltb twice total l)

  module _ (l : total ≤ twice) where
    pub share_upper : total < twice → lower + 1 ≡ share count total
    unfolding share
    share_upper m = test_holds (lower + 1) (lower + lower % 2) (lt-ltb total twice m) ∙ test_fails lower _ (le-ltb twice total l)

    pub share_half : twice ≤ total → lower + lower % 2 ≡ share count total
    unfolding share
    share_half m = test_fails (lower + 1) (lower + lower % 2) (le-ltb total twice m) ∙ test_fails lower _ (le-ltb twice total l)

module _ (d : ℕ) (l : d ≤ 31) where
  pub total_most : 2 ^ d ≤ 2147483648
  total_most = pow_mono {j = 31} l

  pub total_some : 0 < 2 ^ d
  total_some = pow_pos d

  pub total_is : (1 * 2 ^ d) % 18446744073709551616 ≡ 2 ^ d
  total_is = ap (λ (k : ℕ). k % 18446744073709551616) {y = 2 ^ d} (omega arith) ∙ mod-eq_of_lt (omega (arith, total_most))

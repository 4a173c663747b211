-- What holds of the definitions of specs/Parts.
use mathlib.Core.Path.{◌≡◌, refl, sym}
use mathlib.Core.Bool.{true, false}
use Prim.Native.Nat.{ℕ}
use Rattle.common.specs.Outcome.{Outcome, refused, given, Step, after, ◌>>=◌}
use Rattle.common.specs.Runs.{Table}
use Rattle.spp_steps.specs.Model.{Quad, quad, product, blocks}
use Rattle.spp_sequence.specs.Parts.{row, sums, Pair, through, around}

-- what comes after a step and more
then_after : {A B C : Type 0} (f : Step Table A) (k : A → Step Table B) (l : B → Step Table C) (m : A → Step Table C)
    → ((a : A) (σ : Table) → after (k a σ) l ≡ m a σ) → (σ : Table) → after (after (f σ) k) l ≡ after (f σ) m
then_after {A} f k l m h σ = go (f σ)
  where
    go : (o : Outcome Table A) → after (after o k) l ≡ after o m
    go (refused number) = refl
    go (given τ a) = h a τ

module _ (f u : ℕ → ℕ → Step Table ℕ) where
  row_parts : (p0 p1 : ℕ) (B : Quad) (l : Quad → Step Table ℕ) (σ : Table) → after (row f p0 p1 B σ) l
      ≡ after (f p0 (B false false) σ) (λ a σ1. after (f p1 (B true false) σ1) (λ b σ2. after (f p0 (B false true) σ2) (λ c σ3. after (f p1 (B true true) σ3) (λ e. l (quad a b c e)))))
  unfolding row
  row_parts p0 p1 B l =
      then_after (f p0 (B false false)) _ l _ (λ a. then_after (f p1 (B true false)) _ l _ (λ b. then_after (f p0 (B false true)) _ l _ (λ c.
      then_after (f p1 (B true true)) _ l _ (λ e τ. refl))))

  pub product_parts : (A B : Quad) (σ : Table) → product f u A B σ
      ≡ after (row f (A false false) (A false true) B σ) (λ R σ1. after (row f (A true false) (A true true) B σ1) (λ S. sums u R S))
  unfolding product row sums
  product_parts A B σ =
      sym (then_after (f (A false false) (B false false)) _ rest _ (λ a. then_after (f (A false true) (B true false)) _ rest _ (λ b.
      then_after (f (A false false) (B false true)) _ rest _ (λ c. then_after (f (A false true) (B true true)) _ rest _ (λ e.
      row_parts (A true false) (A true true) B (sums u (quad a b c e)))))) σ)
    where
      rest : Quad → Step Table ℕ
      rest R σ1 = after (row f (A true false) (A true true) B σ1) (λ S. sums u R S)

  pub blocks_parts : (s : ℕ → Step Table ℕ) (X : Quad) (σ : Table) → blocks s f u X σ
      ≡ after (s (X true true) σ) (λ e σ1. after (through f u X e σ1) (λ p σ2. after (s p.second σ2) (λ x00. around f u (X true false) e p.first x00)))
  unfolding blocks through around
  blocks_parts s X σ = step (s (X true true) σ)
    where
      rest : ℕ → Pair → Step Table ℕ
      rest e p = s p.second >>= λ x00. around f u (X true false) e p.first x00

      one : (e : ℕ) (σ1 : Table) → after (through f u X e σ1) (rest e)
          ≡ after (f (X false true) e σ1) (λ be σ2. after (f be (X true false) σ2) (λ bec σ3. after (u (X false false) bec σ3) (λ a. rest e (record { first = be; second = a }))))
      one e = then_after (f (X false true) e) _ (rest e) _ (λ be. then_after (f be (X true false)) _ (rest e) _ (λ bec. then_after (u (X false false) bec) _ (rest e) _ (λ a τ. refl)))

      step : (o : Outcome Table ℕ) → after o (λ e σ1. after (f (X false true) e σ1) (λ be σ2. after (f be (X true false) σ2) (λ bec σ3. after (u (X false false) bec σ3) (λ a. rest e (record { first = be; second = a })))))
          ≡ after o (λ e σ1. after (through f u X e σ1) (rest e))
      step (refused number) = refl
      step (given τ e) = sym (one e τ)

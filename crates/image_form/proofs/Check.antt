-- 02 (ii): "One altered byte, or two unequal bytes exchanged within the first 510, is found." Of all 512 bytes of a block: the sum less the stored
-- check then changes by u × m, with u from 1 to 255 and m from 1 to 766, and that is no multiple of 65,521. The only fact about this number that is
-- computed: of 3 to 255 none divides its double.
use Rattle.std.specs.Prelude.{if◌then◌else◌}
use mathlib.Core.Path.{◌≡◌, refl, sym, ap, subst, ◌∙◌}
use mathlib.Core.Logic.{◌⊎◌, inl, inr, ◌≢◌}
use mathlib.Core.List.{List, [], ◌∷◌}
use mathlib.Core.Bool.{Bool, true, false}
use mathlib.Core.Option.{Option, none, some}
use Prim.Native.Nat.{ℕ, zero, suc, ◌+◌, ◌*◌, ◌-◌, ◌/◌, ◌%◌, ◌≤◌, ◌<◌}
use native.Mathlib.Nat.{mul-mod_right, mul-le-mul, mul-pos}
use native.Mathlib.Omega.{arith}
use borrow.Author.Tests.{ltb-true, ltb-false, eqb-true, eqb-false}
use lib.Dec.{T, eqb, ltb}
use lib.ListN.{length, get_or, set, take, drop, length-set, length-drop}
use lib.Seq.{take-set-le, take-set-lt, drop-set-add, get_or-set_same, get_or-set_other, get_or-take, get_or-drop, length-take-le}
use Rattle.image_form.specs.Form.{half_at, weighed, check, front_at, verify}
use Rattle.image_form.specs.Damage.{Bytes, Found, exchange, DamageIsFound}
use Rattle.image_form.proofs.Blocks.{verify_check}

-- ---- no multiple of 65,521

-- none of 3 .. 2 + k divides n
unfoldable apart : ℕ → ℕ → Bool
apart n zero = true
apart n (suc k) = if eqb (n % (3 + k)) 0 then false else apart n k

apart_at : (n k : ℕ) → T (apart n k) → (u : ℕ) → 3 ≤ u → u < 3 + k → n % u ≡ 0 → ⊥
unfolding apart
apart_at n zero t u l h e = omega arith
apart_at n (suc k) t u l h e = go (eqb (n % (3 + k)) 0) (eqb u (3 + k)) refl refl (λ v m. apart_at n k v u l m e) t
  where
    go : (c d : Bool) → eqb (n % (3 + k)) 0 ≡ c → eqb u (3 + k) ≡ d → (T (apart n k) → u < 3 + k → ⊥) → T (if c then false else apart n k) → ⊥
    go true d p q f v = v
    go false true p q f v = eqb-false (n % (3 + k)) 0 p (ap (λ (m : ℕ). n % m) (sym (eqb-true u (3 + k) q)) ∙ e)
    go false false p q f v = f v (omega (arith, eqb-false u (3 + k) q))

double_apart : T (apart 131042 253)
unfolding apart
double_apart = tt

-- the double is no product either
no_double : (u m : ℕ) → u < 256 → m < 65521 → u * m ≡ 131042 → ⊥
no_double zero m l k e = omega arith
no_double (suc zero) m l k e = omega arith
no_double (suc (suc zero)) m l k e = omega arith
no_double (suc (suc (suc u))) m l k e =
    apart_at 131042 253 double_apart (suc (suc (suc u))) (omega arith) (omega arith) (ap (λ (x : ℕ). x % suc (suc (suc u))) (sym e) ∙ mul-mod_right (suc (suc (suc u))) m)

no_multiple : (u m d : ℕ) → 1 ≤ u → u < 256 → 1 ≤ m → m < 767 → u * m ≡ 65521 * d → ⊥
no_multiple u m zero 1≤u u< 1≤m m< e = omega (arith, mul-pos {m = u} {n = m} 1≤u 1≤m)
no_multiple u m (suc zero) 1≤u u< 1≤m m< e = no_double u (m + m) u< (omega arith) (omega arith)
no_multiple u m (suc (suc zero)) 1≤u u< 1≤m m< e = no_double u m u< (omega arith) e
no_multiple u m (suc (suc (suc d))) 1≤u u< 1≤m m< e =
    let most : u * m ≤ 255 * 766 = mul-le-mul {n₁ = u} {m₁ = m} {n₂ = 255} {m₂ = 766} (omega arith) (omega arith) in
    omega arith

-- bytes a and v that differ, each m times, leave sums apart
clash : (q r a v m : ℕ) → a < 256 → v < 256 → a ≢ v → 1 ≤ m → m < 767 → 65521 * q + v * m ≡ 65521 * r + a * m → ⊥
clash q r a v m a< v< n 1≤m m< e = go (ltb a v) refl
  where
    more : a < v → ⊥
    more l =
        let u : ℕ = v - a in
        let f : v ≡ a + u = omega arith in
        let g : v * m ≡ (a + u) * m = ap (λ (x : ℕ). x * m) f in
        no_multiple u m (r - q) (omega arith) (omega arith) 1≤m m< (omega arith)

    less : v < a → ⊥
    less l =
        let u : ℕ = a - v in
        let f : a ≡ v + u = omega arith in
        let g : a * m ≡ (v + u) * m = ap (λ (x : ℕ). x * m) f in
        no_multiple u m (q - r) (omega arith) (omega arith) 1≤m m< (omega arith)

    go : (c : Bool) → ltb a v ≡ c → ⊥
    go true t = more (ltb-true a v t)
    go false t = less (omega (arith, ltb-false a v t))

-- ---- what one byte does to the sum and to the stored check

weighed_set : (k : ℕ) (s : List ℕ) (i v : ℕ) → i < length s → weighed k (set s i v) + get_or s i 0 * (k + i + 1) ≡ weighed k s + v * (k + i + 1)
unfolding weighed
weighed_set k [] i v l = absurd (omega arith)
weighed_set k (x ∷ s) zero v l = omega arith
weighed_set k (x ∷ s) (suc i) v l = omega (arith, weighed_set (k + 1) s i v (omega arith))

module _ (b : ℕ) where
  abbrev sum : List ℕ → ℕ
  sum s = weighed 0 (front_at s b)

  abbrev stored : List ℕ → ℕ
  stored s = half_at s (512 * b + 510)

  -- t is s with v for a at place i of the block
  data Effect (s t : List ℕ) (i a v : ℕ) : Type 0 where
    front : i < 510 → sum t + a * (i + 1) ≡ sum s + v * (i + 1) → stored t ≡ stored s → Effect s t i a v
    high : i ≡ 510 → sum t ≡ sum s → stored t + 256 * a ≡ stored s + 256 * v → Effect s t i a v
    low : i ≡ 511 → sum t ≡ sum s → stored t + a ≡ stored s + v → Effect s t i a v

  module _ (s : List ℕ) (l : 512 * b + 512 ≤ length s) (i v : ℕ) where
    effect_front : i < 510 → Effect s (set s (512 * b + i) v) i (get_or s (512 * b + i) 0) v
    unfolding half_at
    effect_front k =
        front k
        (subst (λ (x : ℕ). sum (set s (512 * b + i) v) + x * (i + 1) ≡ sum s + v * (i + 1)) at
        (subst (λ (f : List ℕ). weighed 0 f + get_or (front_at s b) i 0 * (i + 1) ≡ sum s + v * (i + 1)) (sym put) here))
        (rw (get_or-set_other s (512 * b + i) (512 * b + 510) v 0 (omega arith), get_or-set_other s (512 * b + i) (512 * b + 510 + 1) v 0 (omega arith)))
      where
        put : front_at (set s (512 * b + i) v) b ≡ set (front_at s b) i v
        put = ap (take 510) (drop-set-add (512 * b) s i v) ∙ take-set-lt 510 (drop (512 * b) s) i v k

        at : get_or (front_at s b) i 0 ≡ get_or s (512 * b + i) 0
        at = get_or-take 510 (drop (512 * b) s) i 0 k ∙ get_or-drop (512 * b) s i 0

        long : length (front_at s b) ≡ 510
        long = length-take-le 510 (drop (512 * b) s) (omega (arith, length-drop (512 * b) s))

        here : weighed 0 (set (front_at s b) i v) + get_or (front_at s b) i 0 * (i + 1) ≡ sum s + v * (i + 1)
        here = omega (arith, weighed_set 0 (front_at s b) i v (omega (arith, long)))

    sum_kept : 510 ≤ i → sum (set s (512 * b + i) v) ≡ sum s
    sum_kept k = ap (weighed 0) (ap (take 510) (drop-set-add (512 * b) s i v) ∙ take-set-le 510 (drop (512 * b) s) i v k)

  module _ (s : List ℕ) (l : 512 * b + 512 ≤ length s) (v : ℕ) where
    effect_high : Effect s (set s (512 * b + 510) v) 510 (get_or s (512 * b + 510) 0) v
    unfolding half_at
    effect_high =
        high refl (sum_kept s l 510 v (omega arith))
        (omega (arith, get_or-set_same s (512 * b + 510) v 0 (omega arith), get_or-set_other s (512 * b + 510) (512 * b + 510 + 1) v 0 (omega arith)))

    effect_low : Effect s (set s (512 * b + 511) v) 511 (get_or s (512 * b + 511) 0) v
    unfolding half_at
    effect_low =
        let e : 512 * b + 511 ≡ 512 * b + 510 + 1 = omega arith in
        let t : List ℕ = set s (512 * b + 511) v in
        let now : get_or t (512 * b + 510 + 1) 0 ≡ v = ap (λ (k : ℕ). get_or t k 0) (sym e) ∙ get_or-set_same s (512 * b + 511) v 0 (omega arith) in
        let was : get_or s (512 * b + 510 + 1) 0 ≡ get_or s (512 * b + 511) 0 = ap (λ (k : ℕ). get_or s k 0) (sym e) in
        low refl (sum_kept s l 511 v (omega arith))
        (omega (arith, get_or-set_other s (512 * b + 511) (512 * b + 510) v 0 (omega arith)))

  effect : (s : List ℕ) → 512 * b + 512 ≤ length s → (i v : ℕ) → i < 512 → Effect s (set s (512 * b + i) v) i (get_or s (512 * b + i) 0) v
  effect s l i v k = go (ltb i 510) (eqb i 510) refl refl
    where
      At : ℕ → Type 0
      At i = Effect s (set s (512 * b + i) v) i (get_or s (512 * b + i) 0) v

      go : (c d : Bool) → ltb i 510 ≡ c → eqb i 510 ≡ d → At i
      go true d p q = effect_front s l i v (ltb-true i 510 p)
      go false true p q = subst At (sym (eqb-true i 510 q)) (effect_high s l v)
      go false false p q =
          let e : 511 ≡ i = omega (arith, ltb-false i 510 p, eqb-false i 510 q) in
          subst At e (effect_low s l v)

-- ---- damage is found

found : (s : List ℕ) (b : ℕ) → (verify s b ≡ none → ⊥) → Found s b
unfolding verify
found s b = go (eqb (half_at s (512 * b)) b) (eqb (half_at s (512 * b + 510)) (check (front_at s b)))
  where
    out : Bool → Bool → Option ℕ
    out x y = if x then (if y then none else some 31) else some 30

    go : (x y : Bool) → (out x y ≡ none → ⊥) → (out x y ≡ some 30) ⊎ (out x y ≡ some 31)
    go true true f = absurd (f refl)
    go true false f = inr refl
    go false y f = inl refl

taken : (s : List ℕ) (b : ℕ) → verify s b ≡ none → stored b s ≡ sum b s % 65521
unfolding check
taken s b e = verify_check s b e

altered_clash : (b : ℕ) (s t : List ℕ) (i a v : ℕ) → stored b s ≡ sum b s % 65521 → stored b t ≡ sum b t % 65521 → a < 256 → v < 256 → a ≢ v → Effect b s t i a v → ⊥
altered_clash b s t i a v p q a< v< n (front l e f) =
    clash (sum b s / 65521) (sum b t / 65521) a v (i + 1) a< v< n (omega arith) (omega arith) (omega arith)
altered_clash b s t i a v p q a< v< n (high l e f) =
    clash (sum b t / 65521) (sum b s / 65521) a v 256 a< v< n (omega arith) (omega arith) (omega arith)
altered_clash b s t i a v p q a< v< n (low l e f) =
    clash (sum b t / 65521) (sum b s / 65521) a v 1 a< v< n (omega arith) (omega arith) (omega arith)

exchanged_clash : (b : ℕ) (s t u : List ℕ) (i j a c : ℕ) → i < j → stored b s ≡ sum b s % 65521 → stored b u ≡ sum b u % 65521 → a < 256 → c < 256 → a ≢ c
    → Effect b s t i a c → Effect b t u j c a → ⊥
exchanged_clash b s t u i j a c o p q a< c< n (front l e f) (front l₁ e₁ f₁) =
    let m : ℕ = j - i in
    let w : j + 1 ≡ i + 1 + m = omega arith in
    let x : c * (j + 1) ≡ c * (i + 1 + m) = ap (λ (k : ℕ). c * k) w in
    let y : a * (j + 1) ≡ a * (i + 1 + m) = ap (λ (k : ℕ). a * k) w in
    clash (sum b u / 65521) (sum b s / 65521) a c m a< c< n (omega arith) (omega arith) (omega arith)
exchanged_clash b s t u i j a c o p q a< c< n (front l e f) (high l₁ e₁ f₁) =
    clash (sum b s / 65521) (sum b u / 65521) a c (i + 257) a< c< n (omega arith) (omega arith) (omega arith)
exchanged_clash b s t u i j a c o p q a< c< n (front l e f) (low l₁ e₁ f₁) =
    clash (sum b s / 65521) (sum b u / 65521) a c (i + 2) a< c< n (omega arith) (omega arith) (omega arith)
exchanged_clash b s t u i j a c o p q a< c< n (high l e f) (front l₁ e₁ f₁) = omega arith
exchanged_clash b s t u i j a c o p q a< c< n (high l e f) (high l₁ e₁ f₁) = omega arith
exchanged_clash b s t u i j a c o p q a< c< n (high l e f) (low l₁ e₁ f₁) =
    clash (sum b u / 65521) (sum b s / 65521) a c 255 a< c< n (omega arith) (omega arith) (omega arith)
exchanged_clash b s t u i j a c o p q a< c< n (low l e f) (front l₁ e₁ f₁) = omega arith
exchanged_clash b s t u i j a c o p q a< c< n (low l e f) (high l₁ e₁ f₁) = omega arith
exchanged_clash b s t u i j a c o p q a< c< n (low l e f) (low l₁ e₁ f₁) = omega arith

module _ (s : List ℕ) (b : ℕ) (bytes : Bytes s) (l : 512 * b + 512 ≤ length s) (whole : verify s b ≡ none) where
  altered_found : (i v : ℕ) → i < 512 → v < 256 → v ≢ get_or s (512 * b + i) 0 → Found (set s (512 * b + i) v) b
  altered_found i v k v< n =
      let t : List ℕ = set s (512 * b + i) v in
      found t b (λ e. altered_clash b s t i (get_or s (512 * b + i) 0) v (taken s b whole) (taken t b e) (bytes (512 * b + i)) v< (λ d. n (sym d)) (effect b s l i v k))

  exchanged_found : (i j : ℕ) → i < j → j < 512 → get_or s (512 * b + i) 0 ≢ get_or s (512 * b + j) 0 → Found (exchange s (512 * b + i) (512 * b + j)) b
  exchanged_found i j o k n =
      let a : ℕ = get_or s (512 * b + i) 0 in
      let c : ℕ = get_or s (512 * b + j) 0 in
      let t : List ℕ = set s (512 * b + i) c in
      let u : List ℕ = set t (512 * b + j) a in
      let still : get_or t (512 * b + j) 0 ≡ c = get_or-set_other s (512 * b + i) (512 * b + j) c 0 (omega arith) in
      let after : Effect b t u j c a = subst (λ (x : ℕ). Effect b t u j x a) still (effect b t (omega (arith, length-set s (512 * b + i) c)) j a k) in
      found u b (λ e. exchanged_clash b s t u i j a c o (taken s b whole) (taken u b e) (bytes (512 * b + i)) (bytes (512 * b + j)) n (effect b s l i c (omega arith)) after)

pub damage_found : DamageIsFound
damage_found image b bytes l whole = record { altered = altered_found image b bytes l whole; exchanged = exchanged_found image b bytes l whole }

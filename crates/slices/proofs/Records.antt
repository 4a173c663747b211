-- A search by `position` among the chunks of n words of a part of a slice is one among the records of the slice.
use Rattle.std.specs.Prelude.{Option, Some, None, IsSomeAnd, IfSome, MatchOption, is_some}
use mathlib.Core.Path.{◌≡◌, sym, ◌∙◌, ap, subst}
use mathlib.Core.Bool.{Bool, true, false, true≢false}
use mathlib.Core.List.{List}
use Prim.Native.Nat.{ℕ, ◌+◌, ◌-◌, ◌*◌, ◌/◌, ◌≤◌, ◌<◌}
use native.Mathlib.Omega.{arith}
use denote.Ref.{Bor}
use denote.Param.Members.{Mut}
use lib.ListN.{length, get_or, take, drop}
use Rattle.std.specs.Fn.{Called}
use Rattle.std.proofs.lemmas.List.{get_or-take, get_or-drop, length-take-le, length-drop}
use Rattle.std.specs.Option.{option_map}
use Rattle.std.specs.List.{IsSubsliceAt}
use Rattle.std.specs.Iterator.Runs.{Run, CallKeepsClosure, AllItemsGive, IsFirstToGive, IsChunksExactRun}

there : {A : Type 0} (P : A → Type 0) {z : A} (o : Option A) → option_map (λ y. y) o ≡ Some z → IfSome o P → IsSomeAnd o P
there P None e h = absurd (true≢false (ap is_some (sym e)))
there P (Some x) e h = h

-- a test of n words from a place on
abbrev pub Test : ℕ → (List ℕ → ℕ → Bool) → Type 0
Test n t = (x xs : List ℕ) (a b : ℕ) → ((i : ℕ) → i < n → get_or x (a + i) 0 ≡ get_or xs (b + i) 0) → t x a ≡ t xs b

-- none of the records passes, or the first that does was found
abbrev pub Sought : (List ℕ → ℕ → Bool) → ℕ → List ℕ → Option ℕ → Type 0
Sought t n xs None = (j : ℕ) → j < length xs / n → t xs (j * n) ≡ false
Sought t n xs (Some i) = (i * n + n ≤ length xs) × (t xs (i * n) ≡ true) × ((j : ℕ) → j < i → t xs (j * n) ≡ false)

pub exact : {S : Type 0} {steps : S → Option (Bor (List ℕ)) → S → Type 0} (u : Run steps) {m n : ℕ} {ys xs : List ℕ} → m ≡ n → ys ≡ xs → IsChunksExactRun u m ys → IsChunksExactRun u n xs
exact u {n = n} {ys = ys} p q r = subst (λ (l : List ℕ). IsChunksExactRun u n l) q (subst (λ (m : ℕ). IsChunksExactRun u m ys) p r)

module _ {S F : Type 0} {steps : S → Option (Bor (List ℕ)) → S → Type 0} (g : Mut F (Bor (List ℕ) × Unit {0}) Bool) (f : F) (n : ℕ) (t : List ℕ → ℕ → Bool) (moved : Test n t)
    (k : (x : Bor (List ℕ)) (b : Bool) (q : F) → Called g f (x, tt) b q → (q ≡ f) × (b ≡ t x.now 0))
    (u : Run steps) (xs : Bor (List ℕ)) (r : IsChunksExactRun u n xs.now) where
  keeps : CallKeepsClosure g f
  keeps a b q c = (k a.0 b q c).0

  told : (i : ℕ) (b : Bool) (o : Option (Bor (List ℕ))) → IsSomeAnd o (λ x. Called g f (x, tt) b f)
      → IfSome o (λ x. (length x.now ≡ n) × (i * n + n ≤ length xs.now) × IsSubsliceAt n xs.now (i * n) x.now)
      → (t xs.now (i * n) ≡ b) × (i * n + n ≤ length xs.now)
  told i b None c q = absurd c
  told i b (Some x) c (long, le, part) = (
    sym (moved x.now xs.now 0 (i * n) (λ j l. ap (λ (m : ℕ). get_or x.now m 0) {x = 0 + j} {y = j} (omega arith) ∙ part.2 j 0 l)) ∙ sym (k x b f c).1,
    le,
  )

  pub sought : (o : Option ℕ) → MatchOption o ((u.whole ≡ true) × AllItemsGive u g f false) (λ i. (u.len ≡ i + 1) × IsFirstToGive u g f true false i) → Sought t n xs.now o
  sought None p = λ j l. (told j false (u.at j) (there _ (u.at j) (u.reads j xs (subst (λ (m : ℕ). j < m) (sym (r.1 p.0)) l)) (p.1 keeps j)) (r.2 j)).0
  sought (Some i) p =
      let gave = p.1 keeps in
      let last = told i true (u.at i) gave.0 (r.2 i) in
      (last.1, last.0, λ j q. (told j false (u.at j) (gave.1 j q) (r.2 j)).0)

-- the records from..count of s are the part: there the first that passes is record from + i of s
abbrev pub Placed : (List ℕ → ℕ → Bool) → ℕ → List ℕ → ℕ → ℕ → Option ℕ → Type 0
Placed t n s from count None = (j : ℕ) → from ≤ j → j < count → t s (n * j) ≡ false
Placed t n s from count (Some i) = (from + i < count) × (t s (n * (from + i)) ≡ true) × ((j : ℕ) → from ≤ j → j < from + i → t s (n * j) ≡ false)

-- len words are the records from..count, of n words each
pub record Whole (n from count len : ℕ) : Type 0 where
  pub as_many : len / n ≡ count - from
  pub inside : (i : ℕ) → i * n + n ≤ len → from + i < count
  pub ends : (j : ℕ) → j < count - from → j * n + n ≤ len
  pub place : (j : ℕ) → n * (from + j) ≡ n * from + j * n

module _ (n : ℕ) (t : List ℕ → ℕ → Bool) (moved : Test n t) (s part : List ℕ) (from count : ℕ) (is : part ≡ take (n * count - n * from) (drop (n * from) s))
    (len : length part + n * from ≡ n * count) (whole : Whole n from count (length part)) where
  word : (i : ℕ) → i < length part → get_or part i 0 ≡ get_or s (n * from + i) 0
  word i l = ap (λ (xs : List ℕ). get_or xs i 0) is ∙ get_or-take (n * count - n * from) (drop (n * from) s) i 0 (omega (arith, len)) ∙ get_or-drop (n * from) s i 0

  record_is : (j : ℕ) → j < count - from → t part (j * n) ≡ t s (n * (from + j))
  record_is j l = moved part s (j * n) (n * (from + j)) (λ i m.
      word (j * n + i) (omega (arith, whole.ends j l)) ∙ ap (λ (m : ℕ). get_or s m 0) {x = n * from + (j * n + i)} {y = n * (from + j) + i} (omega (arith, whole.place j)))

  at : (j : ℕ) → from ≤ j → j < count → {b : Bool} → t part ((j - from) * n) ≡ b → t s (n * j) ≡ b
  at j l m e = ap (λ (k : ℕ). t s (n * k)) {x = j} {y = from + (j - from)} (omega arith) ∙ sym (record_is (j - from) (omega arith)) ∙ e

  pub placed : (o : Option ℕ) → Sought t n part o → Placed t n s from count o
  placed None p = λ j l m. at j l m (p (j - from) (subst (λ (k : ℕ). j - from < k) (sym whole.as_many) (omega arith)))
  placed (Some i) p =
      let h = whole.inside i p.0 in
      (h, sym (record_is i (omega (arith, h))) ∙ p.1, λ j l m. at j l (omega (arith, h)) (p.2 (j - from) (omega arith)))

pub part_length : (s : List ℕ) {part : List ℕ} {a b : ℕ} → a ≤ b → b ≤ length s → part ≡ take (b - a) (drop a s) → length part + a ≡ b
part_length s {part} {a} {b} l m e = omega (arith, ap length e, length-take-le (b - a) (drop a s) (omega (arith, length-drop a s)))

-- a search by `position` among those records
pub searched : {S F : Type 0} {steps : S → Option (Bor (List ℕ)) → S → Type 0} (g : Mut F (Bor (List ℕ) × Unit {0}) Bool) (f : F) (n : ℕ) (t : List ℕ → ℕ → Bool) (moved : Test n t)
    (k : (x : Bor (List ℕ)) (b : Bool) (q : F) → Called g f (x, tt) b q → (q ≡ f) × (b ≡ t x.now 0)) (u : Run steps) (xs : Bor (List ℕ)) {m : ℕ} {ys : List ℕ} → m ≡ n → ys ≡ xs.now
    → IsChunksExactRun u m ys → (o : Option ℕ) → MatchOption o ((u.whole ≡ true) × AllItemsGive u g f false) (λ i. (u.len ≡ i + 1) × IsFirstToGive u g f true false i)
    → (s : List ℕ) (from count : ℕ) → xs.now ≡ take (n * count - n * from) (drop (n * from) s) → length xs.now + n * from ≡ n * count → Whole n from count (length xs.now) → Placed t n s from count o
searched g f n t moved k u xs a b r o p s from count is len w = placed n t moved s xs.now from count is len w o (sought g f n t moved k u xs (exact u a b r) o p)

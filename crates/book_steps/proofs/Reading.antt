-- 4 and 5: a line is refused with one of them, when it is read, exactly if it meets the condition (specs/Conditions: ReadSpec).
use Rattle.std.specs.Prelude.{if◌then◌else◌}
use mathlib.Core.Path.{◌≡◌, refl, sym, ◌∙◌, ap}
use native.Mathlib.Omega.{arith}
use mathlib.Core.Logic.{◌⊎◌, inl, inr, ⊎_elim}
use mathlib.Core.Bool.{Bool, true, false, ◌&&◌}
use mathlib.Core.List.Memᴰ
use mathlib.Core.List.{List, [], ◌∷◌, Memᴰ}
use mathlib.Core.Option.{Option, none, some}
use Prim.Native.Nat.{ℕ}
use lib.Dec.{eqb, ltb}
use lib.ListN.{get_or}
use borrow.Author.Tests.{ltb-true, ltb-false}
use Rattle.book_construct_steps.specs.Lines as Lines
use Rattle.book_construct_steps.specs.Lines.{Line}
use Rattle.book_steps.specs.Reader as Reader
use Rattle.book_steps.specs.Reader.{Query, Instruction, Resolved, makes, asks, refuses, resolve, giving, given as lookedUp}
use Rattle.book_steps.specs.Conditions.{named, OutOfRange, ReadSpec}

module _ (N : ℕ) (lines : List (Option ℕ)) where
  -- the lines l are looked up
  abbrev Looked : List ℕ → Resolved ℕ → Type 0
  Looked l t = ((t ≡ refuses 4) × ((a : ℕ) × Memᴰ a l × (get_or lines a none ≡ none))) ⊎ (((e : ℕ) → ¬ (t ≡ refuses e)) × ((a : ℕ) → Memᴰ a l → ¬ (get_or lines a none ≡ none)))

  looked_at : (a : ℕ) (l : List ℕ) (o : Option ℕ) → get_or lines a none ≡ o → (k : ℕ → Resolved ℕ) → ((x : ℕ) → Looked l (k x)) → Looked (a ∷ l) (lookedUp N lines o k)
  looked_at a l none e k f = inl (refl, (a, Memᴰ.head refl, e))
  looked_at a l (some x) e k f = go (f x)
    where
      other : (b : ℕ) → b ≡ a → ¬ (get_or lines b none ≡ none)
      other b q z = let c : ◌≡◌ {A = ℕ} 0 1 = (let d : ◌≡◌ {A = Option ℕ} (some x) none = sym e ∙ ap (λ (b : ℕ). get_or lines b none) (sym q) ∙ z in cc) in omega arith

      go : Looked l (k x) → Looked (a ∷ l) (k x)
      go (inl (q, (b, m, z))) = inl (q, (b, Memᴰ.tail m, z))
      go (inr (q, g)) = inr (q, λ b m. ⊎_elim (λ r. other b r) (λ n. g b n) (Memᴰ.cases_cons m))

  looked_none : {t : Resolved ℕ} → ((e : ℕ) → ¬ (t ≡ refuses e)) → Looked [] t
  looked_none f = inr (f, λ a m. absurd (Memᴰ.not-nil m))

  looked_all : (l : List ℕ) (k : List ℕ → Resolved ℕ) → ((xs : List ℕ) (e : ℕ) → ¬ (k xs ≡ refuses e)) → Looked l (giving N lines l k)
  unfolding giving
  looked_all [] k f = looked_none (f [])
  looked_all (a ∷ l) k f = looked_at a l (get_or lines a none) refl (λ x. giving N lines l (λ xs. k (x ∷ xs))) (λ x. looked_all l (λ xs. k (x ∷ xs)) (λ xs. f (x ∷ xs)))

  made_not : (l : Line ℕ) (e : ℕ) → ¬ (◌≡◌ {A = Resolved ℕ} (makes l) (refuses e))
  made_not l e q = let z : ◌≡◌ {A = ℕ} 0 1 = cc in omega arith

  asked_not : (q : Query) (a x e : ℕ) → ¬ (◌≡◌ {A = Resolved ℕ} (asks q a x) (refuses e))
  asked_not q a x e z = let z : ◌≡◌ {A = ℕ} 0 1 = cc in omega arith

  refuses_same : {m n : ℕ} → ◌≡◌ {A = Resolved ℕ} (refuses m) (refuses n) → m ≡ n
  refuses_same e = cc

  -- a line without a field
  by_names : {s : Instruction} → ¬ OutOfRange N s → Looked (named s) (resolve N lines s) → ReadSpec N lines s
  by_names n (inl (q, m)) = record {
    four = (λ e. m, λ i. q);
    five = (λ e. absurd (let z : ◌≡◌ {A = ℕ} 4 5 = refuses_same (sym q ∙ e) in omega arith), λ o. absurd (n o));
    other = λ number e. inl (refuses_same (sym e ∙ q));
  }
  by_names n (inr (f, g)) = record {
    four = (λ e. absurd (f 4 e), λ (a, m, z). absurd (g a m z));
    five = (λ e. absurd (f 5 e), λ o. absurd (n o));
    other = λ number e. absurd (f number e);
  }

  bit_reads : (w : Lines.Bit) (f v : ℕ) (b c : Bool) → ltb f N ≡ b → ltb v 2 ≡ c → resolve N lines (Reader.bit w f v) ≡ (if b && c then makes (Lines.bit w f (eqb v 1)) else refuses 5) → ReadSpec N lines (Reader.bit w f v)
  bit_reads w f v false c p q e = out e (w, f, v, refl, inl (ltb-false f N p))
    where
      out : resolve N lines (Reader.bit w f v) ≡ refuses 5 → OutOfRange N (Reader.bit w f v) → ReadSpec N lines (Reader.bit w f v)
      out e o = record {
        four = (λ z. absurd (let z : ◌≡◌ {A = ℕ} 5 4 = refuses_same (sym e ∙ z) in omega arith), λ (a, m, z). absurd (Memᴰ.not-nil m));
        five = (λ z. o, λ z. e);
        other = λ number z. inr (refuses_same (sym z ∙ e));
      }
  bit_reads w f v true false p q e = record {
    four = (λ z. absurd (let z : ◌≡◌ {A = ℕ} 5 4 = refuses_same (sym e ∙ z) in omega arith), λ (a, m, z). absurd (Memᴰ.not-nil m));
    five = (λ z. (w, f, v, refl, inr (ltb-false v 2 q)), λ z. e);
    other = λ number z. inr (refuses_same (sym z ∙ e));
  }
  bit_reads w f v true true p q e = record {
    four = (λ z. absurd (made_not _ 4 (sym e ∙ z)), λ (a, m, z). absurd (Memᴰ.not-nil m));
    five = (λ z. absurd (made_not _ 5 (sym e ∙ z)), λ (w', f', v', r, o). let a : f ≡ f' = cc in let b : v ≡ v' = cc in absurd (⊎_elim (λ l. omega (arith, ltb-true f N p)) (λ l. omega (arith, ltb-true v 2 q)) o));
    other = λ number z. absurd (made_not _ number (sym e ∙ z));
  }

  pub reads : (s : Instruction) → ReadSpec N lines s
  unfolding resolve
  reads (Reader.constant w) = by_names (λ (w', f', v', r, o). let z : ◌≡◌ {A = ℕ} 0 1 = cc in omega arith) (looked_none (made_not _))
  reads (Reader.bit w f v) = bit_reads w f v (ltb f N) (ltb v 2) refl refl refl
  reads (Reader.single w a) = by_names (λ (w', f', v', r, o). let z : ◌≡◌ {A = ℕ} 0 1 = cc in omega arith) (looked_at a [] (get_or lines a none) refl _ (λ x. looked_none (made_not _)))
  reads (Reader.pair w a b) = by_names (λ (w', f', v', r, o). let z : ◌≡◌ {A = ℕ} 0 1 = cc in omega arith) (looked_at a (b ∷ []) (get_or lines a none) refl _ (λ x. looked_at b [] (get_or lines b none) refl _ (λ y. looked_none (made_not _))))
  reads (Reader.listed w l) = by_names (λ (w', f', v', r, o). let z : ◌≡◌ {A = ℕ} 0 1 = cc in omega arith) (looked_all l _ (λ xs. made_not _))
  reads (Reader.query q a) = by_names (λ (w', f', v', r, o). let z : ◌≡◌ {A = ℕ} 0 1 = cc in omega arith) (looked_at a [] (get_or lines a none) refl _ (λ x. looked_none (asked_not q a x)))

-- A step for each member of a list, on relation nodes: what all of them leave, and a loop that does them while it writes to scratch.
use mathlib.Core.Path.{◌≡◌, refl, sym, ◌∙◌, ap, subst}
use mathlib.Core.List.{List, [], ◌∷◌}
use Prim.Native.Nat.{ℕ, ◌+◌, ◌-◌, ◌≤◌, ◌<◌}
use native.Mathlib.Omega.{arith}
use lib.ListN.{length, get_or}
use Rattle.common.specs.Outcome.{Outcome, refused, given, Step, after, Gives, refusal, gives}
use Rattle.common.proofs.Follow.{given_of}
use Rattle.common.specs.Runs.{Table}
use Rattle.spp_steps.specs.Wf.{Wf, Ext}
use Rattle.spp_steps.proofs.Laws.{ext_refl, ext_trans}
use Rattle.aut_steps.specs.Tables.{words}
use Rattle.aut_steps.specs.Ascending.{All}
use Rattle.aut_steps.proofs.ListLaws.{all_map}
use Rattle.common.specs.Packets.{Relation}
use Rattle.aut_steps.proofs.RelationLaws.{Made, Makes, lacks, makes}
use Rattle.aut_steps.specs.Constructors.{each}
use Rattle.aut_steps.proofs.Scratch.{words_on, words_done, from_0, all_word}
use Rattle.aut_relations.specs.Behind.{LISTS, Modifies, CacheReady}
use Rattle.aut_relations.proofs.Behind.{left_refl, left_trans, left_wide, backed_left}

-- what an operation on relations makes
pub makes_gives : {N : ℕ} {R : Relation N} {t : Table} {o : Outcome Table ℕ} → Makes N R t o → Gives (Made N R t) o
makes_gives (lacks e w k) = refusal
makes_gives (makes m) = gives m

-- later nodes, well formed, and a value of which I holds
pub record Grows (N : ℕ) {A : Type 0} (I : Table → A → Type 0) (t t' : Table) (a : A) : Type 0 where
  pub ext : Ext t t'
  pub wf : Wf N t'
  pub holds : I t' a

-- a step that keeps I, of members of which X holds; X goes over to later nodes
pub record Keeps (N : ℕ) {A : Type 0} (one : ℕ → A → Step Table A) (X : Table → ℕ → Type 0) (I : Table → A → Type 0) : Type 0 where
  pub later : (t t' : Table) (x : ℕ) → Ext t t' → X t x → X t' x
  pub step : (t : Table) (x : ℕ) (a : A) → Wf N t → I t a → X t x → Gives (Grows N I t) (one x a t)

module _ {N : ℕ} {A : Type 0} {one : ℕ → A → Step Table A} {X : Table → ℕ → Type 0} {I : Table → A → Type 0} (K : Keeps N one X I) where
  pub each_gives : (xs : List ℕ) (t : Table) (a : A) → Wf N t → I t a → All (X t) xs → Gives (Grows N I t) (each one xs a t)
  unfolding each
  each_gives [] t a w h all = gives (record { ext = ext_refl t; wf = w; holds = h })
  each_gives (x ∷ xs) t a w h all = go (λ t1 a1. each_gives xs t1 a1) (one x a t) (K.step t x a w h all.0)
    where
      far : {t1 : Table} → Ext t t1 → {o : Outcome Table A} → Gives (Grows N I t1) o → Gives (Grows N I t) o
      far e refusal = refusal
      far e (gives g) = gives (record { ext = ext_trans e g.ext; wf = g.wf; holds = g.holds })

      go : ((t1 : Table) (a1 : A) → Wf N t1 → I t1 a1 → All (X t1) xs → Gives (Grows N I t1) (each one xs a1 t1)) → (o : Outcome Table A) → Gives (Grows N I t) o → Gives (Grows N I t) (after o (each one xs))
      go ih (refused e) g = refusal
      go ih (given t1 a1) (gives g) = far g.ext (ih t1 a1 g.wf g.holds (all_map xs (λ y v. K.later t t1 y g.ext v) all.1))

-- i members are done; m words are written from `to` on
pub record Turn (N : ℕ) {A : Type 0} (one : ℕ → A → Step Table A) (I : Table → A → Type 0) (a₀ : A) (t₀ : Table) (s₀ : List ℕ) (from k to : ℕ) (a : A) (t : Table) (s : List ℕ) (m i : ℕ) : Type 0 where
  pub at : i ≤ k
  pub few : m ≤ i
  pub len : length s ≡ length s₀
  pub left : Modifies N to k t s₀ s
  pub ext : Ext t₀ t
  pub backed : CacheReady N t s
  pub holds : I t a
  pub is : each one (words s₀ from k) a₀ t₀ ≡ each one (words s₀ (from + i) (k - i)) a t

module _ {N : ℕ} {A : Type 0} {one : ℕ → A → Step Table A} {X : Table → ℕ → Type 0} {I : Table → A → Type 0} (K : Keeps N one X I)
    (a₀ : A) (t₀ : Table) (s₀ : List ℕ) (from k to : ℕ) (apart : from + k ≤ to) (room : to + k ≤ LISTS) where
  pub begin : CacheReady N t₀ s₀ → I t₀ a₀ → Turn N one I a₀ t₀ s₀ from k to a₀ t₀ s₀ 0 0
  begin b h = record {
    at = omega arith;
    few = omega arith;
    len = refl;
    left = left_refl to k t₀ s₀;
    ext = ext_refl t₀;
    backed = b;
    holds = h;
    is = from_0 (λ b k. each one (words s₀ b k) a₀ t₀) from k;
  }

  module _ (a : A) (t : Table) (s : List ℕ) (m i : ℕ) (v : Turn N one I a₀ t₀ s₀ from k to a t s m i) where
    read : i < k → get_or s (from + i) 0 ≡ get_or s₀ (from + i) 0
    read l = v.left.below (from + i) (omega arith)

    pub member : i < k → All (X t₀) (words s₀ from k) → X t (get_or s (from + i) 0)
    member l all = subst (X t) (sym (read l)) (K.later t₀ t (get_or s₀ (from + i) 0) v.ext (all_word (X t₀) s₀ from k i l all))

    module _ (l : i < k) where
      next : {o : Outcome Table A} → one (get_or s (from + i) 0) a t ≡ o → each one (words s₀ from k) a₀ t₀ ≡ after o (each one (words s₀ (from + (i + 1)) (k - (i + 1))))
      unfolding each
      next e =
          v.is ∙ ap (λ (xs : List ℕ). each one xs a t) (words_on s₀ from k i l)
          ∙ ap (λ (o : Outcome Table A). after o (each one (words s₀ (from + (i + 1)) (k - (i + 1))))) (ap (λ (x : ℕ). one x a t) (sym (read l)) ∙ e)

      pub stuck : {number : ℕ} → one (get_or s (from + i) 0) a t ≡ refused number → each one (words s₀ from k) a₀ t₀ ≡ refused number
      stuck e = next e

      pub again : All (X t₀) (words s₀ from k) → (a1 : A) (t1 : Table) (s1 : List ℕ) (m1 : ℕ) → one (get_or s (from + i) 0) a t ≡ given t1 a1
          → Modifies N (to + m) 1 t1 s s1 → m1 ≤ m + 1 → length s1 ≡ length s → Turn N one I a₀ t₀ s₀ from k to a1 t1 s1 m1 (i + 1)
      again all a1 t1 s1 m1 e left h len =
          let g = given_of (K.step t (get_or s (from + i) 0) a v.backed.wf v.holds (member l all)) e in
          let wide : Modifies N to k t1 s s1 = left_wide left (omega arith) (omega (arith, v.few)) in
          record {
            at = omega arith;
            few = omega (arith, v.few);
            len = len ∙ v.len;
            left = left_trans g.ext v.left wide;
            ext = ext_trans v.ext g.ext;
            backed = backed_left v.backed g.ext g.wf wide len;
            holds = g.holds;
            is = next e;
          }

    pub end : k ≤ i → each one (words s₀ from k) a₀ t₀ ≡ given t a
    unfolding each
    end l = v.is ∙ ap (λ (xs : List ℕ). each one xs a t) (words_done s₀ (from + i) k i l)

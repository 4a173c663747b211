-- bwd, pull and union in any tables: they make packet nodes only, and are refused with 20 only.
use Rattle.std.specs.Prelude.{if◌then◌else◌}
use mathlib.Core.Path.{◌≡◌, refl, sym, ◌∙◌, subst}
use mathlib.Core.Bool.{Bool, true, false}
use Prim.Native.Nat.{ℕ, zero, suc}
use Rattle.common.specs.Outcome.{Outcome, refused, given, Step, after, ◌>>=◌}
use Rattle.common.specs.Runs.{Table, placed}
use Rattle.sp_steps.specs.Op.{Op}
use Rattle.sp_steps.specs.Model as Sp
use Rattle.sp_steps.specs.Model.{Exit}
use Rattle.sp_steps.proofs.Make.{mk_refused}
use Rattle.spp_steps.specs.ImageModel.{Stores, on_sp, bwd_node, bwd, Led, done, whole, more, led_exit, lead, within, pull_node, pull}

-- ---- refused with 20 only

pub data Only20 {S A : Type 0} : Outcome S A → Type 0 where
  lacks : Only20 (refused 20)
  goes : {σ : S} {a : A} → Only20 (given σ a)

pub only_after : {S A B : Type 0} {o : Outcome S A} {k : A → Step S B} → Only20 o → ((σ : S) (a : A) → Only20 (k a σ)) → Only20 (after o k)
only_after lacks f = lacks
only_after (goes {σ} {a}) f = f σ a

pub only_if : {S A : Type 0} (b : Bool) (m k : Step S A) (σ : S) → Only20 (m σ) → Only20 (k σ) → Only20 ((if b then m else k) σ)
only_if true m k σ x y = x
only_if false m k σ x y = y

pub only_number : {S A : Type 0} {o : Outcome S A} {number : ℕ} → Only20 o → o ≡ refused number → number ≡ 20
only_number {S} {A} x q = go (subst Only20 q x)
  where
    go : {k : ℕ} → Only20 {S = S} {A = A} (refused k) → k ≡ 20
    go lacks = refl

pub only_placed : {S B A : Type 0} {o : Outcome S A} (put : S → B → B) (σ : B) → Only20 o → Only20 (placed put σ o)
only_placed put σ lacks = lacks
only_placed put σ goes = goes

mk_only : (x y : ℕ) (t : Table) → Only20 (Sp.mk x y t)
mk_only x y t = go (Sp.mk x y t) refl
  where
    go : (o : Outcome Table ℕ) → Sp.mk x y t ≡ o → Only20 o
    go (refused number) q = subst (λ (k : ℕ). Only20 {S = Table} {A = ℕ} (refused k)) (sym (mk_refused x y t number q).0) lacks
    go (given σ h) q = goes

apply_only : (o : Op) (d a b : ℕ) (t : Table) → Only20 (Sp.apply o d a b t)
unfolding Sp.apply Sp.both Sp.join
apply_only o zero a b t = goes
apply_only o (suc d) a b t = go (λ u x y t. apply_only u d x y t) (Sp.exit o (suc d) a b)
  where
    go : ((u : Op) (x y : ℕ) (t : Table) → Only20 (Sp.apply u d x y t)) → (z : Exit) → Only20 (Sp.follow z (λ u. Sp.apply u d) t)
    go f (Sp.out h) = goes
    go f (Sp.on u x y) = only_after (f u _ _ t) (λ t₁ x0. only_after (f u _ _ t₁) (λ t₂ x1. mk_only x0 x1 t₂))

pub union_only : (d a b : ℕ) (t : Table) → Only20 (Sp.union d a b t)
unfolding Sp.union
union_only d a b t = apply_only Op.union d a b t

-- ---- and packet nodes only

-- r is the table of relation nodes
pub data SetsMade (r : Table) : Outcome Stores ℕ → Type 0 where
  lacks : SetsMade r (refused 20)
  makes : {τ : Stores} {h : ℕ} → τ.spp ≡ r → SetsMade r (given τ h)

abbrev pub Making : Step Stores ℕ → Type 0
Making c = (σ : Stores) → SetsMade σ.spp (c σ)

pub making_only : {r : Table} {o : Outcome Stores ℕ} → SetsMade r o → Only20 o
making_only SetsMade.lacks = Only20.lacks
making_only (makes q) = goes

making_bind : {c : Step Stores ℕ} {k : ℕ → Step Stores ℕ} → Making c → ((h : ℕ) → Making (k h)) → Making (c >>= k)
making_bind {c} {k} m f σ = go (c σ) (m σ)
  where
    later : {r t : Table} {o : Outcome Stores ℕ} → t ≡ r → SetsMade t o → SetsMade r o
    later q SetsMade.lacks = SetsMade.lacks
    later q (makes p) = makes (p ∙ q)

    go : (o : Outcome Stores ℕ) → SetsMade σ.spp o → SetsMade σ.spp (after o k)
    go (refused number) SetsMade.lacks = SetsMade.lacks
    go (given τ h) (makes q) = later q (f h τ)

making_on : {c : Step Table ℕ} → ((t : Table) → Only20 (c t)) → Making (on_sp c)
making_on {c} f σ = go (c σ.sp) (f σ.sp)
  where
    go : (o : Outcome Table ℕ) → Only20 o → SetsMade σ.spp (placed (λ s σ. record { sp = s; spp = σ.spp }) σ o)
    go (refused number) Only20.lacks = SetsMade.lacks
    go (given t h) goes = makes refl

halves_making : (d a b c e : ℕ) → Making (on_sp (Sp.union d a b) >>= λ x0. on_sp (Sp.union d c e) >>= λ x1. on_sp (Sp.mk x0 x1))
halves_making d a b c e = making_bind (making_on (union_only d a b)) (λ x0. making_bind (making_on (union_only d c e)) (λ x1. making_on (mk_only x0 x1)))

pub bwd_making : (d r : ℕ) → Making (bwd d r)
unfolding bwd bwd_node
bwd_making zero r σ = makes refl
bwd_making (suc d) r σ =
    making_bind (bwd_making d _) (λ a. making_bind (bwd_making d _) (λ b. making_bind (bwd_making d _) (λ c. making_bind (bwd_making d _) (λ e. halves_making d a b c e)))) σ

pub pull_making : (N d r s : ℕ) → Making (pull N d r s)
unfolding pull pull_node
pull_making N zero r s σ = go (led_exit N zero s r)
  where
    go : (z : Led) → SetsMade σ.spp (lead z (λ σ. given σ 0) (λ σ. given σ 0) σ)
    go (done h) = makes refl
    go whole = makes refl
    go more = makes refl
pull_making N (suc d) r s σ = go (pull_making N d) (led_exit N (suc d) s r)
  where
    go : ((r s : ℕ) → Making (pull N d r s)) → (z : Led) → SetsMade σ.spp (lead z (bwd (suc d) r) (within (λ S X. pull_node d (pull N d) X S) s r) σ)
    go f (done h) = makes refl
    go f whole = bwd_making (suc d) r σ
    go f more = making_bind (f _ _) (λ a. making_bind (f _ _) (λ b. making_bind (f _ _) (λ c. making_bind (f _ _) (λ e. halves_making d a c b e)))) σ

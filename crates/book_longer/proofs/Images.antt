-- The steps between packet sets and relations (spp_steps' ImageModel) on longer tables: fwd, bwd, ifwd, push, pull, has_image.
use mathlib.Core.Path.{◌≡◌, refl, sym, fun_ext}
use mathlib.Core.Bool.{Bool, true, false, ◌||◌}
use Prim.Native.Nat.{ℕ, zero, suc}
use Rattle.common.specs.Outcome.{Step, ◌>>=◌}
use Rattle.common.specs.Runs.{Table}
use Rattle.sp_steps.specs.Model as Sp
use Rattle.spp_steps.specs.Model.{Quad, quad}
use Rattle.spp_steps.specs.ImageModel.{Stores, stores, on_sp, on_spp, below, beneath, within, fwd_node, fwd, bwd_node, bwd, ifwd_node, ifwd, Led, done, whole, more, led_exit, lead, push_node, push, pull_node, pull, sure, unsure, has_exit, has_image}
use Rattle.book_longer.specs.Longer.{Longer, LongerStores, Respects, ImagesLonger}
use Rattle.book_longer.proofs.Follow.{follows_placed, returns, bind, along}
use Rattle.book_longer.proofs.Sets as Sets
use Rattle.book_longer.proofs.Relations.{kids_same, mk_longer}

-- ---- a step on one kind of nodes

on_sp_lem : {A : Type 0} {c : Step Table A} → Respects Longer c → Respects LongerStores (on_sp c)
on_sp_lem h σ τ r = follows_placed (λ s σ. stores s σ.spp) σ τ (h σ.sp τ.sp r.sp) (λ s t p. record { sp = p; spp = r.spp })

on_spp_lem : {A : Type 0} {c : Step Table A} → Respects Longer c → Respects LongerStores (on_spp c)
on_spp_lem h σ τ r = follows_placed (λ t σ. stores σ.sp t) σ τ (h σ.spp τ.spp r.spp) (λ s t p. record { sp = r.sp; spp = p })

-- the children of a set
children_same : {σ τ : Stores} → LongerStores σ τ → (s : ℕ) → ◌≡◌ {A = Bool → ℕ} (λ i. Sp.child σ.sp.words i s) (λ i. Sp.child τ.sp.words i s)
children_same r s = fun_ext (λ i. Sets.child_same r.sp.words i s)

below_longer : {body : Quad → Step Stores ℕ} → ((X : Quad) → Respects LongerStores (body X)) → (x : ℕ) → Respects LongerStores (below body x)
below_longer {body} h x σ τ r = along (λ d. body (kids_same r.spp.words x d)) (h _) σ τ r

beneath_longer : {body : (Bool → ℕ) → Step Stores ℕ} → ((S : Bool → ℕ) → Respects LongerStores (body S)) → (s : ℕ) → Respects LongerStores (beneath body s)
beneath_longer {body} h s σ τ r = along (λ d. body (children_same r s d)) (h _) σ τ r

within_longer : {body : (Bool → ℕ) → Quad → Step Stores ℕ} → ((S : Bool → ℕ) (X : Quad) → Respects LongerStores (body S X)) → (s x : ℕ) → Respects LongerStores (within body s x)
within_longer {body} h s x σ τ r = along (λ d. body (children_same r s d) (kids_same r.spp.words x d)) (h _ _) σ τ r

-- two sets united, twice, and the set made of them
last_longer : (d a b c e : ℕ) → Respects LongerStores (λ σ. (on_sp (Sp.union d a b) >>= λ x0. on_sp (Sp.union d c e) >>= λ x1. on_sp (Sp.mk x0 x1)) σ)
last_longer d a b c e = bind (on_sp_lem (Sets.union_longer d a b)) (λ x0. bind (on_sp_lem (Sets.union_longer d c e)) (λ x1. on_sp_lem (Sets.mk_longer x0 x1)))

-- ---- the image and the domain of a relation

pub fwd_longer : (d x : ℕ) → Respects LongerStores (fwd d x)
unfolding fwd fwd_node
fwd_longer zero x = returns x
fwd_longer (suc d) x = below_longer (λ X. bind (fwd_longer d (X false false)) (λ a. bind (fwd_longer d (X true false)) (λ b. bind (fwd_longer d (X false true)) (λ c. bind (fwd_longer d (X true true)) (λ e. last_longer d a b c e))))) x

pub bwd_longer : (d x : ℕ) → Respects LongerStores (bwd d x)
unfolding bwd bwd_node
bwd_longer zero x = returns x
bwd_longer (suc d) x = below_longer (λ X. bind (bwd_longer d (X false false)) (λ a. bind (bwd_longer d (X false true)) (λ b. bind (bwd_longer d (X true false)) (λ c. bind (bwd_longer d (X true true)) (λ e. last_longer d a b c e))))) x

pub ifwd_longer : (d s : ℕ) → Respects LongerStores (ifwd d s)
unfolding ifwd ifwd_node
ifwd_longer zero s = returns s
ifwd_longer (suc d) s = beneath_longer (λ S. bind (ifwd_longer d (S false)) (λ x00. bind (ifwd_longer d (S true)) (λ x01. on_spp_lem (mk_longer (quad x00 x01 x00 x01))))) s

-- ---- the image of a set, and the packets that a relation leads into a set

lead_longer : (l : Led) {w c : Step Stores ℕ} → Respects LongerStores w → Respects LongerStores c → Respects LongerStores (lead l w c)
lead_longer (done h) f g = returns h
lead_longer whole f g = f
lead_longer more f g = g

pub push_longer : (N d s x : ℕ) → Respects LongerStores (push N d s x)
unfolding push push_node
push_longer N zero s x = lead_longer (led_exit N zero s x) (returns 0) (returns 0)
push_longer N (suc d) s x =
    lead_longer (led_exit N (suc d) s x) (fwd_longer (suc d) x)
    (within_longer (λ S X. bind (push_longer N d (S false) (X false false)) (λ a. bind (push_longer N d (S true) (X true false)) (λ b. bind (push_longer N d (S false) (X false true)) (λ c. bind (push_longer N d (S true) (X true true)) (λ e. last_longer d a b c e))))) s x)

pub pull_longer : (N d x s : ℕ) → Respects LongerStores (pull N d x s)
unfolding pull pull_node
pull_longer N zero x s = lead_longer (led_exit N zero s x) (returns 0) (returns 0)
pull_longer N (suc d) x s =
    lead_longer (led_exit N (suc d) s x) (bwd_longer (suc d) x)
    (within_longer (λ S X. bind (pull_longer N d (X false false) (S false)) (λ a. bind (pull_longer N d (X true false) (S false)) (λ b. bind (pull_longer N d (X false true) (S true)) (λ c. bind (pull_longer N d (X true true) (S true)) (λ e. last_longer d a c b e))))) s x)

-- ---- whether a packet of a set is related to some packet

pub has_image_same : (N d s x : ℕ) {σ τ : Stores} → LongerStores σ τ → has_image N d s x σ ≡ has_image N d s x τ
unfolding has_image
has_image_same N zero s x r = refl
has_image_same N (suc d) s x r = λ e. elim (has_exit N (suc d) s x) [
  | sure b ↦ b
  | unsure ↦
      has_image_same N d (children_same r s e false) (kids_same r.spp.words x e false false) r e
      || (has_image_same N d (children_same r s e false) (kids_same r.spp.words x e false true) r e
      || (has_image_same N d (children_same r s e true) (kids_same r.spp.words x e true false) r e
      || has_image_same N d (children_same r s e true) (kids_same r.spp.words x e true true) r e))
]

-- ---- what is stated

pub images_longer : (N : ℕ) → ImagesLonger N
images_longer N = record {
  fwd = fwd_longer;
  bwd = bwd_longer;
  ifwd = ifwd_longer;
  push = push_longer N;
  pull = pull_longer N;
  has_image_lem = λ d s x σ τ r. sym (has_image_same N d s x r);
}

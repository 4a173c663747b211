-- What holds of the definitions of specs/Images.
use mathlib.Core.Path.{◌≡◌, refl, sym, ◌∙◌, subst, fun_ext}
use mathlib.Core.Bool.{Bool, true, false, ◌||◌}
use mathlib.Core.Logic.{⊎_elim}
use Prim.Native.Nat.{ℕ, zero, suc, ◌%◌, ◌≤◌, ◌<◌}
use native.Mathlib.Omega.{arith}
use lib.Dec.{T, eqb}
use Rattle.common.specs.Packets.{Packet, end, bit, Set, Relation, all, ◌∪◌, inhabited, image}
use Rattle.common.proofs.PacketLaws.{inhabited_to, image_of_lem, image_to}
use Rattle.common.specs.Outcome.{Outcome, refused, given, Step, return, ◌>>=◌}
use Rattle.common.specs.Runs.{Table, Theory}
use Rattle.common.proofs.Runs.{Inside}
use Rattle.sp_steps.specs.Model as Sp
use Rattle.sp_steps.specs.Wf as SpLaws
use Rattle.sp_steps.proofs.Laws as SpLawsProofs
use Rattle.sp_steps.specs.Make as SpMake
use Rattle.sp_steps.proofs.Make as SpMakeLaws
use Rattle.sp_steps.proofs.Sets as SpSets
use Rattle.sp_steps.proofs.Refused as SpRefused
use Rattle.spp_steps.proofs.Exact.{Limited, Stops, stuck, goes, lifted, Exact, exact_map, exact_read, exact_return, exact_bind, exact_on}
use Rattle.spp_steps.specs.Model.{Quad, quad, kids, mem, mk, zero_at, one_at, top_at}
use Rattle.spp_steps.specs.ImageModel.{Stores, stores, on_sp, below, beneath, within, fwd_node, fwd, bwd_node, bwd, ifwd_node, ifwd, Led, done, whole, more, led_exit, lead, push_node, push, pull_node, pull}
use Rattle.common.specs.Relations.{starts}
use Rattle.common.proofs.RelationLaws.{same_refl, same_eq, preimage_of, preimage_to}
use Rattle.spp_steps.specs.Relations.{part, equal}
use Rattle.spp_steps.proofs.Relations.{domain, leads, image_part, domain_part, leads_part, image_all, leads_all, uninhabited, inhabited_end, tests_equal}
use Rattle.spp_steps.specs.Wf.{Wf, Ext, ValidAt, Denotes}
use Rattle.spp_steps.proofs.Laws.{spp_theory, ext_refl, ext_trans, kids_path, den_ext, den_kid, den_zero, den_one, den_top, agree_path, by_test, false_true}
use Rattle.spp_steps.proofs.Make.{spp_limits, mk_exact, quad_den}
use Rattle.spp_steps.proofs.Apply.{by_if, or_cases, by_bits}
use Rattle.spp_steps.specs.Images.{BothWf}

pub record BothExt (σ τ : Stores) : Type 0 where
  pub sp_ext : SpLaws.Ext σ.sp τ.sp
  pub spp_ext : Ext σ.spp τ.spp

pub both_refl : (σ : Stores) → BothExt σ σ
both_refl σ = record { sp_ext = SpLawsProofs.ext_refl σ.sp; spp_ext = ext_refl σ.spp }

pub both_trans : {σ τ υ : Stores} → BothExt σ τ → BothExt τ υ → BothExt σ υ
both_trans e f = record { sp_ext = SpLawsProofs.ext_trans e.sp_ext f.sp_ext; spp_ext = ext_trans e.spp_ext f.spp_ext }

abbrev pub both_theory : ℕ → Theory
both_theory N = record { Store = Stores; Wf = BothWf N; Ext = BothExt; ext_refl = both_refl; ext_trans = λ σ τ υ. both_trans }

abbrev pub in_sp : (N : ℕ) → Inside (SpLawsProofs.sp_theory N) (both_theory N)
in_sp N = record {
  get = λ σ. σ.sp;
  put = λ s σ. stores s σ.spp;
  get_put = λ s σ. refl;
  put_get = λ σ. refl;
  get_wf = λ σ w. w.sp_wf;
  put_wf = λ s σ w v e. record { sp_wf = v; spp_wf = w.spp_wf };
  get_ext = λ σ τ e. e.sp_ext;
  put_ext = λ s σ e. record { sp_ext = e; spp_ext = ext_refl σ.spp };
}

abbrev pub in_spp : (N : ℕ) → Inside (spp_theory N) (both_theory N)
in_spp N = record {
  get = λ σ. σ.spp;
  put = λ r σ. stores σ.sp r;
  get_put = λ r σ. refl;
  put_get = λ σ. refl;
  get_wf = λ σ w. w.spp_wf;
  put_wf = λ r σ w v e. record { sp_wf = w.sp_wf; spp_wf = v };
  get_ext = λ σ τ e. e.spp_ext;
  put_ext = λ r σ e. record { sp_ext = SpLawsProofs.ext_refl σ.sp; spp_ext = e };
}

-- the handle h of depth d means the set S, and the relation R
abbrev pub SetAt : (σ : Stores) (d h : ℕ) → Set d → Type 0
SetAt σ d h S = SpLaws.Denotes σ.sp d h S

abbrev pub RelAt : (σ : Stores) (d h : ℕ) → Relation d → Type 0
RelAt σ d h R = Denotes σ.spp d h R

-- ---- the limits

-- 01, 20: a node of packet sets is lacking
pub record SetLacks (number : ℕ) (σ : Table) : Type 0 where
  pub number_is : number ≡ 20
  pub left : ℕ
  pub right : ℕ
  pub short : SpMake.Short left right σ

abbrev pub sp_limits : ℕ → Limited
sp_limits N = record { theory = SpLawsProofs.sp_theory N; Stuck = SetLacks }

-- steps that make packet nodes only, and steps that make relation nodes only
abbrev pub set_limits : ℕ → Limited
set_limits N = lifted (sp_limits N) (in_sp N)

abbrev pub rel_limits : ℕ → Limited
rel_limits N = lifted (spp_limits N) (in_spp N)

union_exact : (N d : ℕ) → d ≤ N → (σ : Table) (a b : ℕ) (A B : Set d) → SpLaws.Wf N σ → SpLaws.Denotes σ d a A → SpLaws.Denotes σ d b B
    → Exact (sp_limits N) (Sp.union d a b) (λ τ h. SpLaws.Denotes τ d h (A ∪ B)) σ
union_exact N d l σ a b A B w X Y = record { runs = SpSets.union_runs N d l σ a b A B w X Y; stops = go (SpRefused.union_stops N d l σ a b A B w X Y) }
  where
    go : {o : Outcome Table ℕ} → SpRefused.Stops N σ o → Stops (sp_limits N) σ o
    go (SpRefused.lacks z) = stuck z.later z.wf (record { number_is = refl; left = z.left; right = z.right; short = z.short })
    go SpRefused.goes = goes

set_exact : {N d x0 x1 : ℕ} {σ : Table} {S T : Set d} → SpLaws.Wf N σ → d < N → SpLaws.Denotes σ d x0 S → SpLaws.Denotes σ d x1 T
    → Exact (sp_limits N) (Sp.mk x0 x1) (λ τ h. SpLaws.Denotes τ (suc d) h (SpMakeLaws.node S T)) σ
set_exact {N} {d} {x0} {x1} {σ} w l X Y = record { runs = SpMakeLaws.mk_runs w l X Y; stops = go (Sp.mk x0 x1 σ) (SpMakeLaws.mk_refused x0 x1 σ) }
  where
    go : (o : Outcome Table ℕ) → ((number : ℕ) → o ≡ refused number → (number ≡ 20) × SpMake.Short x0 x1 σ) → Stops (sp_limits N) σ o
    go (refused number) f = let (q, z) = f number refl in stuck (SpLawsProofs.ext_refl σ) w (record { number_is = q; left = x0; right = x1; short = z })
    go (given τ h) f = goes

-- c gives the set S of depth d, from σ and from every later store
abbrev pub Gets : (N d : ℕ) → Stores → Step Stores ℕ → Set d → Type 0
Gets N d σ c S = (τ : Stores) → BothExt σ τ → BothWf N τ → Exact (set_limits N) c (λ υ h. SetAt υ d h S) τ

module _ {N d : ℕ} {σ : Stores} {S0 S1 S2 S3 : Set d} where
  -- four sets, one after another
  exact_four : {c0 c1 c2 c3 : Step Stores ℕ} {k : ℕ → ℕ → ℕ → ℕ → Step Stores ℕ} {Q : Stores → ℕ → Type 0} → BothWf N σ → Gets N d σ c0 S0 → Gets N d σ c1 S1 → Gets N d σ c2 S2 → Gets N d σ c3 S3
      → ((τ : Stores) (a b c e : ℕ) → BothWf N τ → SetAt τ d a S0 → SetAt τ d b S1 → SetAt τ d c S2 → SetAt τ d e S3 → Exact (set_limits N) (k a b c e) Q τ)
      → Exact (set_limits N) (c0 >>= λ a. c1 >>= λ b. c2 >>= λ c. c3 >>= λ e. k a b c e) Q σ
  exact_four w g0 g1 g2 g3 f =
      exact_bind (set_limits N) (g0 σ (both_refl σ) w) (λ τ1 a e1 w1 D0.
      exact_bind (set_limits N) (g1 τ1 e1 w1) (λ τ2 b e2 w2 D1. let f2 = both_trans e1 e2 in
      exact_bind (set_limits N) (g2 τ2 f2 w2) (λ τ3 c e3 w3 D2.
      exact_bind (set_limits N) (g3 τ3 (both_trans f2 e3) w3) (λ τ4 e e4 w4 D3. let h3 = both_trans e3 e4 in
      f τ4 a b c e w4 (SpLawsProofs.den_ext (both_trans e2 h3).sp_ext D0) (SpLawsProofs.den_ext h3.sp_ext D1) (SpLawsProofs.den_ext e4.sp_ext D2) D3))))

  -- their unions two and two, and the node: the set U
  halves_exact : (U : Set (suc d)) (a b c e : ℕ) → d < N → BothWf N σ → SetAt σ d a S0 → SetAt σ d b S1 → SetAt σ d c S2 → SetAt σ d e S3
      → ((p : Packet d) → (S0 p || S1 p) ≡ U (bit false p)) → ((p : Packet d) → (S2 p || S3 p) ≡ U (bit true p))
      → Exact (set_limits N) (on_sp (Sp.union d a b) >>= λ x0. on_sp (Sp.union d c e) >>= λ x1. on_sp (Sp.mk x0 x1)) (λ υ h. SetAt υ (suc d) h U) σ
  halves_exact U a b c e l w A B C E low high =
      exact_bind (set_limits N) (exact_on (sp_limits N) (in_sp N) w (union_exact N d (omega arith) σ.sp a b S0 S1 w.sp_wf A B)) (λ τ x0 e1 w1 X.
      exact_bind (set_limits N) (exact_on (sp_limits N) (in_sp N) w1 (union_exact N d (omega arith) τ.sp c e S2 S3 w1.sp_wf (SpLawsProofs.den_ext e1.sp_ext C) (SpLawsProofs.den_ext e1.sp_ext E))) (λ υ x1 e2 w2 Y.
      exact_map (set_limits N) (λ ω h _ _ H. SpLawsProofs.den_map parts H) (exact_on (sp_limits N) (in_sp N) w2 (set_exact w2.sp_wf l (SpLawsProofs.den_ext e2.sp_ext X) Y))))
    where
      parts : (p : Packet (suc d)) → SpMakeLaws.node (S0 ∪ S1) (S2 ∪ S3) p ≡ U p
      parts (bit false p) = low p
      parts (bit true p) = high p

-- ---- depth 0

low_bit : (h : ℕ) → h < 2 → eqb (h % 2) 1 ≡ eqb h 1
low_bit zero l = refl
low_bit (suc zero) l = refl
low_bit (suc (suc h)) l = absurd (omega arith)

-- the handle of a relation of depth 0 as one of a set, and the other way round
low_set : {σ : Stores} {r : ℕ} {R : Relation zero} (S : Set zero) → RelAt σ zero r R → R end end ≡ S end → SetAt σ zero r S
unfolding mem Sp.mem
low_set {σ} {r} {R} S X e = record { at = X.at; means = means }
  where
    means : (p : Packet zero) → Sp.mem σ.sp.words zero r p ≡ S p
    means end = low_bit r X.at ∙ X.means end end ∙ e

low_rel : {σ : Stores} {s : ℕ} {S : Set zero} (R : Relation zero) → SetAt σ zero s S → S end ≡ R end end → RelAt σ zero s R
unfolding mem Sp.mem
low_rel {σ} {s} {S} R X e = record { at = X.at; means = means }
  where
    means : (p q : Packet zero) → mem σ.spp.words zero s p q ≡ R p q
    means end end = sym (low_bit s X.at) ∙ X.means end ∙ e

-- ---- fwd, bwd

-- f makes the set F R of a relation R of depth d
abbrev pub Maps : (N d : ℕ) → (ℕ → Step Stores ℕ) → (Relation d → Set d) → Type 0
Maps N d f F = (σ : Stores) (r : ℕ) (R : Relation d) → BothWf N σ → RelAt σ d r R → Exact (set_limits N) (f r) (λ τ h. SetAt τ d h (F R)) σ

-- the entries of a relation, in every later store
maps_kid : {N d r : ℕ} {f : ℕ → Step Stores ℕ} {F : Relation d → Set d} {R : Relation (suc d)} {σ : Stores} → Maps N d f F → RelAt σ (suc d) r R
    → (i j : Bool) → Gets N d σ (f (kids σ.spp.words r i j)) (F (part R i j))
maps_kid maps X i j τ e v = maps τ _ _ v (den_ext e.spp_ext (den_kid X i j))

below_exact : {N d r : ℕ} {R : Relation (suc d)} {σ : Stores} {P : Stores → ℕ → Type 0} (body : Quad → Step Stores ℕ) → RelAt σ (suc d) r R
    → Exact (set_limits N) (body (kids σ.spp.words r)) P σ → Exact (set_limits N) (below body r) P σ
below_exact {N} {d} {r} body X = exact_read (set_limits N) (λ (τ : Stores). kids τ.spp.words r) body (λ τ e. kids_path e.spp_ext d r X.at)

pub fwd_node_exact : (N d : ℕ) (f : ℕ → Step Stores ℕ) → suc d ≤ N → Maps N d f (image all) → Maps N (suc d) (below (fwd_node d f)) (image all)
unfolding fwd_node
fwd_node_exact N d f l maps σ r R w X = below_exact (fwd_node d f) X
    (exact_four w (of false false) (of true false) (of false true) (of true true) (λ τ f00 f10 f01 f11 v A B C E.
    halves_exact (image all R) f00 f10 f01 f11 (omega arith) v A B C E (λ q. sym (image_part all R false q)) (λ q. sym (image_part all R true q))))
  where
    of : (i j : Bool) → Gets N d σ (f (kids σ.spp.words r i j)) (image all (part R i j))
    of = maps_kid maps X

pub fwd_exact : (N d : ℕ) → d ≤ N → Maps N d (fwd d) (image all)
unfolding fwd image
fwd_exact N zero l σ r R w X = exact_return (set_limits N) r w (low_set {σ = σ} (image all R) X (sym (inhabited_end (λ p. R p end))))
fwd_exact N (suc d) l σ r R w X = fwd_node_exact N d (fwd d) l (fwd_exact N d (omega arith)) σ r R w X

pub bwd_node_exact : (N d : ℕ) (f : ℕ → Step Stores ℕ) → suc d ≤ N → Maps N d f domain → Maps N (suc d) (below (bwd_node d f)) domain
unfolding bwd_node
bwd_node_exact N d f l maps σ r R w X = below_exact (bwd_node d f) X
    (exact_four w (of false false) (of false true) (of true false) (of true true) (λ τ b00 b01 b10 b11 v A B C E.
    halves_exact (domain R) b00 b01 b10 b11 (omega arith) v A B C E (λ p. sym (domain_part R false p)) (λ p. sym (domain_part R true p))))
  where
    of : (i j : Bool) → Gets N d σ (f (kids σ.spp.words r i j)) (domain (part R i j))
    of = maps_kid maps X

pub bwd_exact : (N d : ℕ) → d ≤ N → Maps N d (bwd d) domain
unfolding bwd starts
bwd_exact N zero l σ r R w X = exact_return (set_limits N) r w (low_set {σ = σ} (domain R) X (sym (inhabited_end (R end))))
bwd_exact N (suc d) l σ r R w X = bwd_node_exact N d (bwd d) l (bwd_exact N d (omega arith)) σ r R w X

-- ---- ifwd

child_path : {σ τ : Table} → SpLaws.Ext σ τ → (d s : ℕ) → SpLaws.ValidAt σ (suc d) s → ◌≡◌ {A = Bool → ℕ} (λ i. Sp.child τ.words i s) (λ i. Sp.child σ.words i s)
child_path e d s a = fun_ext (λ i. SpLawsProofs.child_ext e i s a.0 a.1)

-- f makes the pairs whose second packet is in a set of depth d
abbrev pub Lifts : (N d : ℕ) → (ℕ → Step Stores ℕ) → Type 0
Lifts N d f = (σ : Stores) (s : ℕ) (S : Set d) → BothWf N σ → SetAt σ d s S → Exact (rel_limits N) (f s) (λ τ h. RelAt τ d h (λ p q. S q)) σ

pub ifwd_node_exact : (N d : ℕ) (f : ℕ → Step Stores ℕ) → Lifts N d f → Lifts N (suc d) (beneath (λ S. ifwd_node f (S false) (S true)))
unfolding ifwd_node
ifwd_node_exact N d f lifts σ s S w X =
    exact_read (rel_limits N) (λ (τ : Stores) (i : Bool). Sp.child τ.sp.words i s) (λ S. ifwd_node f (S false) (S true)) (λ τ e. child_path e.sp_ext d s X.at)
    (exact_bind (rel_limits N) (lifts σ _ _ w (SpLawsProofs.den_child X false)) (λ τ x00 e v A.
    exact_bind (rel_limits N) (lifts τ _ _ v (SpLawsProofs.den_ext e.sp_ext (SpLawsProofs.den_child X true))) (λ υ x01 g u B.
    exact_on (spp_limits N) (in_spp N) u
    (let A' : RelAt υ d x00 (λ p q. S (bit false q)) = den_ext g.spp_ext A in mk_exact (quad x00 x01 x00 x01) (λ p q. S q) u.spp_wf (SpLawsProofs.at_low w.sp_wf d s X.at) (quad_den (λ p q. S q) A' B A' B)))))

pub ifwd_exact : (N d : ℕ) → Lifts N d (ifwd d)
unfolding ifwd
ifwd_exact N zero σ s S w X = exact_return (rel_limits N) s w (low_rel {σ = σ} (λ p q. S q) X refl)
ifwd_exact N (suc d) σ s S w X = ifwd_node_exact N d (ifwd d) (ifwd_exact N d) σ s S w X

-- ---- the exits of push and pull

-- what an exit comes to: the set F; or S has all packets
abbrev pub Comes : (σ : Stores) (d : ℕ) (S F : Set d) → Led → Type 0
Comes σ d S F (done h) = SetAt σ d h F
Comes σ d S F whole = (p : Packet d) → S p ≡ true
Comes σ d S F more = Unit

pub or_neither : (a b : Bool) → (a || b) ≡ false → (a ≡ false) × (b ≡ false)
or_neither true b e = absurd (false_true (sym e))
or_neither false b e = (refl, e)

module _ {N d s r : ℕ} {σ : Stores} {S : Set d} {R : Relation d} (l : d ≤ N) (w : BothWf N σ) (X : SetAt σ d s S) (Y : RelAt σ d r R) where
  -- a set that is not the empty one has a packet
  pub some_packet : Sp.is_zero d s ≡ false → T (inhabited S)
  some_packet e =
      by_test (inhabited S)
      (λ q. subst T (sym q) tt)
      (λ q. absurd (false_true (sym e ∙ SpSets.none_zero N d l w.sp_wf X (uninhabited S q))))

  led_exit_right : (F : Set d) → (((p : Packet d) → S p ≡ false) → (p : Packet d) → S p ≡ F p) → (R ≡ equal → (p : Packet d) → S p ≡ F p)
      → (R ≡ (λ p q. false) → (p : Packet d) → false ≡ F p) → (R ≡ (λ p q. true) → T (inhabited S) → (p : Packet d) → true ≡ F p) → Comes σ d S F (led_exit N d s r)
  unfolding led_exit
  led_exit_right F none one nothing top =
      by_if P (Sp.is_zero d s || eqb r (one_at N d)) (done s) _
      (λ e. SpLawsProofs.den_map (λ p. ⊎_elim
      (λ c. none (SpSets.zero_none N d l w.sp_wf X c) p)
      (λ c. one (agree_path Y (den_one w.spp_wf d l) c) p)
      (or_cases _ _ e)) X)
      (λ full. by_if P (eqb r (zero_at N d)) (done (Sp.zero_at d)) _
      (λ e. SpLawsProofs.den_map (nothing (agree_path Y (den_zero w.spp_wf d l) e)) (SpLawsProofs.den_zero w.sp_wf d l))
      (λ _. by_if P (eqb r (top_at N d)) (done (Sp.one_at d)) _
      (λ e. SpLawsProofs.den_map (top (agree_path Y (den_top w.spp_wf d l) e) (some_packet (or_neither _ _ full).0)) (SpLawsProofs.den_one w.sp_wf d l))
      (λ _. by_if P (Sp.is_universal d s) whole more
      (λ e. SpSets.universal_all N d l w.sp_wf X e)
      (λ _. tt))))
    where
      P : Led → Type 0
      P = Comes σ d S F

pub led_exit_low : (N s r : ℕ) → s < 2 → r < 2 → (h : ℕ) × (led_exit N zero s r ≡ done h)
unfolding led_exit zero_at one_at top_at Sp.is_zero Sp.is_universal
led_exit_low N = by_bits (λ s r. (h : ℕ) × (led_exit N zero s r ≡ done h)) (_, refl) (_, refl) (_, refl) (_, refl)

lead_exact : {N d : ℕ} {σ : Stores} {S F : Set d} {a c : Step Stores ℕ} (z : Led) → BothWf N σ → Comes σ d S F z
    → (((p : Packet d) → S p ≡ true) → Exact (set_limits N) a (λ τ h. SetAt τ d h F) σ) → Exact (set_limits N) c (λ τ h. SetAt τ d h F) σ
    → Exact (set_limits N) (lead z a c) (λ τ h. SetAt τ d h F) σ
lead_exact {N} (done h) w D f r = exact_return (set_limits N) h w D
lead_exact whole w D f r = f D
lead_exact more w D f r = r

lead_low : {N : ℕ} {σ : Stores} (S : Set zero) {F : Set zero} (a c : Step Stores ℕ) (z : Led) → (h : ℕ) × (z ≡ done h) → BothWf N σ → Comes σ zero S F z
    → Exact (set_limits N) (lead z a c) (λ τ h. SetAt τ zero h F) σ
lead_low {N} S a c (done h) q w D = exact_return (set_limits N) h w D
lead_low S a c whole (h, q) w D = let z : ◌≡◌ {A = ℕ} 0 1 = cc in absurd (omega arith)
lead_low S a c more (h, q) w D = let z : ◌≡◌ {A = ℕ} 0 1 = cc in absurd (omega arith)

within_exact : {N d s r : ℕ} {S : Set (suc d)} {R : Relation (suc d)} {σ : Stores} {P : Stores → ℕ → Type 0} (body : (Bool → ℕ) → Quad → Step Stores ℕ)
    → SetAt σ (suc d) s S → RelAt σ (suc d) r R
    → Exact (set_limits N) (body (λ i. Sp.child σ.sp.words i s) (kids σ.spp.words r)) P σ → Exact (set_limits N) (within body s r) P σ
within_exact {N} {d} {s} {r} {σ} body X Y h =
    exact_read (set_limits N) (λ (τ : Stores) (i : Bool). Sp.child τ.sp.words i s) (λ S τ. body S (kids τ.spp.words r) τ) (λ τ e. child_path e.sp_ext d s X.at)
    (exact_read (set_limits N) (λ (τ : Stores). kids τ.spp.words r) (body (λ i. Sp.child σ.sp.words i s)) (λ τ e. kids_path e.spp_ext d r Y.at) h)

-- f makes the set F S R of a set and a relation of depth d
abbrev pub Carries : (N d : ℕ) → (ℕ → ℕ → Step Stores ℕ) → (Set d → Relation d → Set d) → Type 0
Carries N d f F = (σ : Stores) (s r : ℕ) (S : Set d) (R : Relation d) → BothWf N σ → SetAt σ d s S → RelAt σ d r R
    → Exact (set_limits N) (f s r) (λ τ h. SetAt τ d h (F S R)) σ

carries_kid : {N d s r : ℕ} {f : ℕ → ℕ → Step Stores ℕ} {F : Set d → Relation d → Set d} {S : Set (suc d)} {R : Relation (suc d)} {σ : Stores} → Carries N d f F
    → SetAt σ (suc d) s S → RelAt σ (suc d) r R
    → (k i j : Bool) → Gets N d σ (f (Sp.child σ.sp.words k s) (kids σ.spp.words r i j)) (F (λ p. S (bit k p)) (part R i j))
carries_kid step X Y k i j τ e v = step τ _ _ _ _ v (SpLawsProofs.den_ext e.sp_ext (SpLawsProofs.den_child X k)) (den_ext e.spp_ext (den_kid Y i j))

-- ---- push

pub push_node_exact : (N d : ℕ) (f : ℕ → ℕ → Step Stores ℕ) → suc d ≤ N → Carries N d f image → Carries N (suc d) (within (push_node d f)) image
unfolding push_node
push_node_exact N d f l step σ s r S R w X Y = within_exact (push_node d f) X Y
    (exact_four w (of false false false) (of true true false) (of false false true) (of true true true) (λ τ a b c e v A B C E.
    halves_exact (image S R) a b c e (omega arith) v A B C E (λ q. sym (image_part S R false q)) (λ q. sym (image_part S R true q))))
  where
    of : (k i j : Bool) → Gets N d σ (f (Sp.child σ.sp.words k s) (kids σ.spp.words r i j)) (image (λ p. S (bit k p)) (part R i j))
    of = carries_kid step X Y

push_exit : {N d s r : ℕ} {σ : Stores} {S : Set d} {R : Relation d} → d ≤ N → BothWf N σ → SetAt σ d s S → RelAt σ d r R → Comes σ d S (image S R) (led_exit N d s r)
push_exit {S} {R} l w X Y = led_exit_right l w X Y (image S R)
    (λ e q. tests_equal (S q) (image S R q) (λ t. absurd (subst T (e q) t)) (λ t. let (p, u, v) = image_to S R q t in absurd (subst T (e p) u)))
    (λ e q. rw e (tests_equal (S q) (image S equal q)
    (λ t. image_of_lem S equal q q t (same_refl q)) (λ t. let (p, u, v) = image_to S equal q t in subst (λ p. T (S p)) (same_eq p q v) u)))
    (λ e q. rw e (tests_equal false (image S (λ p q. false) q) (λ t. absurd t) (λ t. (image_to S (λ p q. false) q t).2)))
    (λ e t q. rw e (tests_equal true (image S (λ p q. true) q) (λ u. let (p, v) = inhabited_to S t in image_of_lem S (λ p q. true) p q v tt) (λ u. tt)))

pub push_exact : (N d : ℕ) → d ≤ N → Carries N d (push N d) image
unfolding push
push_exact N zero l σ s r S R w X Y = lead_low S (return 0) (return 0) (led_exit N zero s r) (led_exit_low N s r X.at Y.at) w (push_exit l w X Y)
push_exact N (suc d) l σ s r S R w X Y =
    lead_exact (led_exit N (suc d) s r) w (push_exit l w X Y)
    (λ full. exact_map (set_limits N) (λ τ h _ _ H. SpLawsProofs.den_map (λ q. sym (image_all R S full q)) H) (fwd_exact N (suc d) l σ r R w Y))
    (push_node_exact N d (push N d) l (push_exact N d (omega arith)) σ s r S R w X Y)

-- ---- pull

pub pull_node_exact : (N d : ℕ) (f : ℕ → ℕ → Step Stores ℕ) → suc d ≤ N → Carries N d (λ s r. f r s) (λ S R. leads R S)
    → Carries N (suc d) (within (λ S X. pull_node d f X S)) (λ S R. leads R S)
unfolding pull_node
pull_node_exact N d f l step σ s r S R w X Y = within_exact (λ S X. pull_node d f X S) X Y
    (exact_four w (of false false false) (of false true false) (of true false true) (of true true true) (λ τ a b c e v A B C E.
    halves_exact (leads R S) a c b e (omega arith) v A C B E (λ p. sym (leads_part R S false p)) (λ p. sym (leads_part R S true p))))
  where
    of : (k i j : Bool) → Gets N d σ (f (kids σ.spp.words r i j) (Sp.child σ.sp.words k s)) (leads (part R i j) (λ p. S (bit k p)))
    of = carries_kid {F = λ S R. leads R S} step X Y

pull_exit : {N d s r : ℕ} {σ : Stores} {S : Set d} {R : Relation d} → d ≤ N → BothWf N σ → SetAt σ d s S → RelAt σ d r R → Comes σ d S (leads R S) (led_exit N d s r)
pull_exit {S} {R} l w X Y = led_exit_right l w X Y (leads R S)
    (λ e p. tests_equal (S p) (leads R S p) (λ t. absurd (subst T (e p) t)) (λ t. let (q, u, v) = preimage_to R S p t in absurd (subst T (e q) v)))
    (λ e p. rw e (tests_equal (S p) (leads equal S p)
    (λ t. preimage_of equal S p p (same_refl p) t) (λ t. let (q, u, v) = preimage_to equal S p t in subst (λ q. T (S q)) (sym (same_eq p q u)) v)))
    (λ e p. rw e (tests_equal false (leads (λ p q. false) S p) (λ t. absurd t) (λ t. (preimage_to (λ p q. false) S p t).1)))
    (λ e t p. rw e (tests_equal true (leads (λ p q. true) S p) (λ u. let (q, v) = inhabited_to S t in preimage_of (λ p q. true) S p q tt v) (λ u. tt)))

pub pull_exact : (N d : ℕ) → d ≤ N → Carries N d (λ s r. pull N d r s) (λ S R. leads R S)
unfolding pull
pull_exact N zero l σ s r S R w X Y = lead_low S (return 0) (return 0) (led_exit N zero s r) (led_exit_low N s r X.at Y.at) w (pull_exit l w X Y)
pull_exact N (suc d) l σ s r S R w X Y =
    lead_exact (led_exit N (suc d) s r) w (pull_exit l w X Y)
    (λ full. exact_map (set_limits N) (λ τ h _ _ H. SpLawsProofs.den_map (λ p. sym (leads_all R S full p)) H) (bwd_exact N (suc d) l σ r R w Y))
    (pull_node_exact N d (pull N d) l (pull_exact N d (omega arith)) σ s r S R w X Y)

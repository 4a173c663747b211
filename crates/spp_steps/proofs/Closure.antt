-- What holds of the definitions of specs/Closure.
use mathlib.Core.Path.{◌≡◌, refl, subst}
use mathlib.Core.Logic.{⊎_elim, ◌↔◌}
use mathlib.Core.Bool.{Bool, true, false}
use Prim.Native.Nat.{ℕ, zero, suc}
use lib.Dec.{T}
use Rattle.common.specs.Packets.{Packet, end, bit, Relation}
use Rattle.common.proofs.PacketLaws.{either, or_left, or_right}
use Rattle.common.specs.Relations.{here, step}
use Rattle.common.proofs.RelationLaws.{closure_join, seq_of, seq_to, same_refl, same_eq}
use Rattle.spp_steps.specs.Relations.{part, compose, equal}
use Rattle.spp_steps.proofs.Relations.{tests_equal}
use Rattle.spp_steps.specs.Closure.{Way, d*, bd*, bd*c, a+, s00, s01, cs00, s10, s11, block, closure}

-- f is the closure
pub record Closure (n : ℕ) (f : Relation n → Relation n) : Type 0 where
  pub sound : (R : Relation n) (p q : Packet n) → T (f R p q) → Way R p q
  pub full : (R : Relation n) (p q : Packet n) → Way R p q → T (f R p q)

module _ {n : ℕ} (f : Relation n → Relation n) (K : Closure n f) (R : Relation (suc n)) where
  f_here : (S : Relation n) (p : Packet n) → T (f S p p)
  f_here S p = K.full S p p here

  f_step : (S : Relation n) (p m q : Packet n) → T (S p m) → T (f S m q) → T (f S p q)
  f_step S p m q e g = K.full S p q (step e (K.sound S m q g))

  abbrev W : Bool → Bool → Packet n → Packet n → Type 0
  W i j p q = Way R (bit i p) (bit j q)

  -- what the blocks hold are paths
  of_way : (S : Relation n) (i : Bool) → ((p q : Packet n) → T (S p q) → W i i p q) → {p q : Packet n} → Way S p q → W i i p q
  of_way S i h here = here
  of_way S i h (step e v) = closure_join (h _ _ e) (of_way S i h v)

  of-d* : (p q : Packet n) → T (d* f R p q) → W true true p q
  of-d* p q e = of_way (part R true true) true (λ p q e. step e here) (K.sound (part R true true) p q e)

  of-bd* : (p q : Packet n) → T (bd* f R p q) → W false true p q
  of-bd* p q e = let (m, u, v) = seq_to (part R false true) (d* f R) p q e in step u (of-d* m q v)

  of-bd*c : (p q : Packet n) → T (bd*c f R p q) → W false false p q
  of-bd*c p q e = let (m, u, v) = seq_to (bd* f R) (part R true false) p q e in closure_join (of-bd* p m u) (step v here)

  of_s00 : (p q : Packet n) → T (s00 f R p q) → W false false p q
  of_s00 p q e =
      of_way (a+ f R) false
      (λ p q e. ⊎_elim (λ x. step x here) (λ x. of-bd*c p q x) (either (part R false false p q) (bd*c f R p q) e))
      (K.sound (a+ f R) p q e)

  of_s01 : (p q : Packet n) → T (s01 f R p q) → W false true p q
  of_s01 p q e = let (m, u, v) = seq_to (s00 f R) (bd* f R) p q e in closure_join (of_s00 p m u) (of-bd* m q v)

  of_s10 : (p q : Packet n) → T (s10 f R p q) → W true false p q
  of_s10 p q e =
      let (m, u, v) = seq_to (d* f R) (cs00 f R) p q e in
      let (k, x, y) = seq_to (part R true false) (s00 f R) m q v in
      closure_join (of-d* p m u) (step x (of_s00 k q y))

  of_s11 : (p q : Packet n) → T (s11 f R p q) → W true true p q
  of_s11 p q e =
      ⊎_elim (λ x. of-d* p q x)
      (λ x. let (m, u, v) = seq_to (s10 f R) (bd* f R) p q x in closure_join (of_s10 p m u) (of-bd* m q v))
      (either (d* f R p q) (compose (s10 f R) (bd* f R) p q) e)

  of_block : (i j : Bool) (p q : Packet n) → T (block f R i j p q) → W i j p q
  of_block false false = of_s00
  of_block false true = of_s01
  of_block true false = of_s10
  of_block true true = of_s11

  -- a step before a block is in a block
  up_00 : (p m q : Packet n) → T (part R false true p m) → T (s10 f R m q) → T (s00 f R p q)
  up_00 p m q x e =
      let (k, u, v) = seq_to (d* f R) (cs00 f R) m q e in
      let (r, y, z) = seq_to (part R true false) (s00 f R) k q v in
      f_step (a+ f R) p r q
      (or_right (part R false false p r) (bd*c f R p r) (seq_of (bd* f R) (part R true false) p k r (seq_of (part R false true) (d* f R) p m k x u) y))
      z

  up_10 : (p m q : Packet n) → T (part R true true p m) → T (s10 f R m q) → T (s10 f R p q)
  up_10 p m q x e =
      let (k, u, v) = seq_to (d* f R) (cs00 f R) m q e in
      seq_of (d* f R) (cs00 f R) p k q (f_step (part R true true) p m k x u) v

  in_10 : (p m q : Packet n) → T (part R true false p m) → T (s00 f R m q) → T (s10 f R p q)
  in_10 p m q x e = seq_of (d* f R) (cs00 f R) p p q (f_here (part R true true) p) (seq_of (part R true false) (s00 f R) p m q x e)

  in_00 : (p m q : Packet n) → T (part R false false p m) → T (s00 f R m q) → T (s00 f R p q)
  in_00 p m q x e = f_step (a+ f R) p m q (or_left (part R false false p m) (bd*c f R p m) x) e

  -- a block and then bd*
  then-bd* : (S P : Relation n) (p m q : Packet n) → ((k : Packet n) → T (S m k) → T (P p k)) → T (compose S (bd* f R) m q) → T (compose P (bd* f R) p q)
  then-bd* S P p m q g e = let (k, u, v) = seq_to S (bd* f R) m q e in seq_of P (bd* f R) p k q (g k u) v

  step_in : (i k j : Bool) (p m q : Packet n) → T (part R i k p m) → T (block f R k j m q) → T (block f R i j p q)
  step_in false false false p m q x e = in_00 p m q x e
  step_in false true false p m q x e = up_00 p m q x e
  step_in false false true p m q x e = then-bd* (s00 f R) (s00 f R) p m q (λ k u. in_00 p m k x u) e
  step_in false true true p m q x e =
      ⊎_elim
      (λ y. seq_of (s00 f R) (bd* f R) p p q (f_here (a+ f R) p) (seq_of (part R false true) (d* f R) p m q x y))
      (λ y. then-bd* (s10 f R) (s00 f R) p m q (λ k u. up_00 p m k x u) y)
      (either (d* f R m q) (compose (s10 f R) (bd* f R) m q) e)
  step_in true false false p m q x e = in_10 p m q x e
  step_in true true false p m q x e = up_10 p m q x e
  step_in true false true p m q x e = or_right (d* f R p q) (compose (s10 f R) (bd* f R) p q) (then-bd* (s00 f R) (s10 f R) p m q (λ k u. in_10 p m k x u) e)
  step_in true true true p m q x e =
      ⊎_elim
      (λ y. or_left (d* f R p q) (compose (s10 f R) (bd* f R) p q) (f_step (part R true true) p m q x y))
      (λ y. or_right (d* f R p q) (compose (s10 f R) (bd* f R) p q) (then-bd* (s10 f R) (s10 f R) p m q (λ k u. up_10 p m k x u) y))
      (either (d* f R m q) (compose (s10 f R) (bd* f R) m q) e)

  here_in : (i : Bool) (p : Packet n) → T (block f R i i p p)
  here_in false p = f_here (a+ f R) p
  here_in true p = or_left (d* f R p p) (compose (s10 f R) (bd* f R) p p) (f_here (part R true true) p)

  -- the relation of the four blocks
  blocked : Relation (suc n)
  blocked (bit i p) (bit j q) = block f R i j p q

  way_in : (p q : Packet (suc n)) → Way R p q → T (blocked p q)
  unfolding blocked
  way_in (bit i p) q here = here_in i p
  way_in (bit i p) (bit j q) (step {b = bit k m} x v) = step_in i k j p m q x (way_in (bit k m) (bit j q) v)

one_packet : (R : Relation zero) (p q : Packet zero) → Way R p q
one_packet R end end = here

closure_next : {n : ℕ} → Closure n closure → Closure (suc n) closure
unfolding closure blocked
closure_next {n} K = record { sound = sound; full = full }
  where
    sound : (R : Relation (suc n)) (p q : Packet (suc n)) → T (closure R p q) → Way R p q
    sound R (bit i p) (bit j q) e = of_block closure K R i j p q e

    full : (R : Relation (suc n)) (p q : Packet (suc n)) → Way R p q → T (closure R p q)
    full R (bit i p) (bit j q) v = way_in closure K R (bit i p) (bit j q) v

-- `closure` is the reflexive and transitive closure
pub closure_is : (n : ℕ) → Closure n closure
unfolding closure
closure_is zero = record { sound = λ R p q e. one_packet R p q; full = λ R p q v. tt }
closure_is (suc n) = closure_next (closure_is n)

pub closure_paths : {n : ℕ} (R : Relation n) (p q : Packet n) → T (closure R p q) ↔ Way R p q
closure_paths {n} R p q = ((closure_is n).sound R p q, (closure_is n).full R p q)

-- what is reflexive and transitive is its own closure
pub closure_closed : {n : ℕ} (R : Relation n) → ((p : Packet n) → T (R p p)) → ((p m q : Packet n) → T (R p m) → T (R m q) → T (R p q)) → (p q : Packet n) → closure R p q ≡ R p q
closure_closed {n} R self trans p q =
    tests_equal (closure R p q) (R p q) (λ t. go ((closure_is n).sound R p q t)) (λ t. (closure_is n).full R p q (step t here))
  where
    go : {p q : Packet n} → Way R p q → T (R p q)
    go here = self _
    go (step e v) = trans _ _ _ e (go v)

pub closure_nothing : {n : ℕ} (p q : Packet n) → closure (λ p q. false) p q ≡ equal p q
closure_nothing {n} p q =
    tests_equal (closure (λ p q. false) p q) (equal p q)
    (λ t. go ((closure_is n).sound (λ p q. false) p q t))
    (λ t. (closure_is n).full (λ p q. false) p q (subst (Way (λ p q. false) p) (same_eq p q t) here))
  where
    go : {p q : Packet n} → Way (λ p q. false) p q → T (equal p q)
    go here = same_refl _
    go (step e v) = absurd e

pub closure_equal : {n : ℕ} (p q : Packet n) → closure equal p q ≡ equal p q
closure_equal p q = closure_closed equal same_refl (λ p m q t u. subst (λ m. T (equal p m)) (same_eq m q u) t) p q

pub closure_top : {n : ℕ} (p q : Packet n) → closure (λ p q. true) p q ≡ true
closure_top p q = closure_closed (λ p q. true) (λ p. tt) (λ p m q t u. tt) p q

pub closure_part : {n : ℕ} (R : Relation (suc n)) (i j : Bool) → part (closure R) i j ≡ block closure R i j
unfolding closure
closure_part R i j = refl

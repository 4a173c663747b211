-- What holds of the definitions of specs/Make.
use mathlib.Core.Path.{◌≡◌, refl, sym, ◌∙◌, ap, ap₂, subst}
use mathlib.Core.Bool.{Bool, true, false, ◌&&◌}
use mathlib.Core.List.{List}
use mathlib.Core.Logic.{◌⊎◌, ⊎_elim}
use Prim.Native.Nat.{ℕ, zero, suc, ◌+◌, ◌*◌, ◌/◌, ◌≤◌, ◌<◌}
use native.Mathlib.Omega.{arith}
use native.Mathlib.Nat.{eq-or-lt_of_le}
use lib.Dec.{eqb, ltb}
use lib.ListN.{length, get_or, set, length-set}
use lib.Seq.{get_or-set_same, get_or-set_other}
use borrow.Author.Tests.{eqb-true, eq-eqb, ltb-true, ltb-false}
use Rattle.common.specs.Packets.{Relation}
use Rattle.common.specs.Outcome.{Outcome, refused, given, Gives, refusal, gives}
use Rattle.common.specs.Runs.{Table, table, StableResult}
use Rattle.spp_steps.proofs.Exact.{Limited, Stops, stuck, goes, Exact}
use Rattle.spp_steps.specs.Model.{Quad, quad, kid, kids, same, seek, cap, room, put, put_if, found_if, mk}
use Rattle.spp_steps.specs.Relations.{part}
use Rattle.spp_steps.specs.Wf.{Rising, Nodes, Wf, Ext, ValidAt, Denotes}
use Rattle.spp_steps.proofs.Laws.{spp_theory, ext_refl, at_ext, fixed_ext, level_ext, at_below, den_ext, den_node, by_test, false_true}
use Rattle.spp_steps.specs.Make.{Missing}

-- ---- same

and_left : (a b : Bool) → (a && b) ≡ true → a ≡ true
and_left true b e = refl
and_left false b e = e

and_right : (a b : Bool) → (a && b) ≡ true → b ≡ true
and_right true b e = e
and_right false b e = absurd (false_true e)

module _ (t : List ℕ) (X : Quad) (k : ℕ) where
  is : Bool → Bool → Bool
  is i j = eqb (kid t k i j) (X i j)

  pub same_kids : same t X k ≡ true → (i j : Bool) → kid t k i j ≡ X i j
  unfolding same is
  same_kids e false false = eqb-true _ _ (and_left (is false false) (is false true) (and_left (is false false && is false true) _ e))
  same_kids e false true = eqb-true _ _ (and_right (is false false) (is false true) (and_left (is false false && is false true) _ e))
  same_kids e true false = eqb-true _ _ (and_left (is true false) (is true true) (and_right (is false false && is false true) _ e))
  same_kids e true true = eqb-true _ _ (and_right (is true false) (is true true) (and_right (is false false && is false true) _ e))

  pub kids_same : ((i j : Bool) → kid t k i j ≡ X i j) → same t X k ≡ true
  unfolding same
  kids_same e = ap₂ ◌&&◌ (ap₂ ◌&&◌ (yes_of false false) (yes_of false true)) (ap₂ ◌&&◌ (yes_of true false) (yes_of true true))
    where
      yes_of : (i j : Bool) → eqb (kid t k i j) (X i j) ≡ true
      yes_of i j = eq-eqb (kid t k i j) (X i j) (e i j)

-- ---- seek

pub seek_yes : (t : List ℕ) (X : Quad) (i k : ℕ) → same t X i ≡ true → seek t X i (suc k) ≡ i
unfolding seek
seek_yes t X i k e = rw (e, seek)

pub seek_no : (t : List ℕ) (X : Quad) (i k : ℕ) → same t X i ≡ false → seek t X i (suc k) ≡ seek t X (suc i) k
unfolding seek
seek_no t X i k e = rw (e, seek)

pub seek_none : (t : List ℕ) (X : Quad) (i : ℕ) → seek t X i zero ≡ i
unfolding seek
seek_none t X i = refl

pub seek_hit : (t : List ℕ) (X : Quad) (i k : ℕ) → seek t X i k < i + k → same t X (seek t X i k) ≡ true
seek_hit t X i zero l = absurd (omega (arith, seek_none t X i))
seek_hit t X i (suc k) l =
    by_test (same t X i)
    (λ e. rw (seek_yes t X i k e) e)
    (λ e. rw (seek_no t X i k e) (seek_hit t X (suc i) k (omega (arith, seek_no t X i k e))))

pub seek_miss : (t : List ℕ) (X : Quad) (i k : ℕ) → i + k ≤ seek t X i k → (j : ℕ) → i ≤ j → j < i + k → same t X j ≡ false
seek_miss t X i zero l j a b = absurd (omega arith)
seek_miss t X i (suc k) l j a b =
    by_test (same t X i)
    (λ e. absurd (omega (arith, seek_yes t X i k e)))
    (λ e. ⊎_elim (λ q. rw (← q) e) (λ q. seek_miss t X (suc i) k (omega (arith, seek_no t X i k e)) j q (omega arith)) (eq-or-lt_of_le a))

-- ---- put

pub put_len : (t : List ℕ) (n : ℕ) (X : Quad) → length (put t n X) ≡ length t
unfolding put
put_len t n X = simp length-set

pub room_fits : (t : List ℕ) (n : ℕ) → room t n ≡ true → (4 * n + 3 < length t) × (n < cap)
unfolding room
room_fits t n e =
    let a : n < length t / 4 = ltb-true _ _ (and_left (ltb n (length t / 4)) (ltb n cap) e) in
    let b : n < cap = ltb-true _ _ (and_right (ltb n (length t / 4)) (ltb n cap) e) in
    (omega arith, b)

module _ (t : List ℕ) (n : ℕ) (X : Quad) where
  s0 : List ℕ
  s0 = set t (4 * n) (X false false)

  s1 : List ℕ
  s1 = set s0 (4 * n + 1) (X false true)

  s2 : List ℕ
  s2 = set s1 (4 * n + 2) (X true false)

  put_other : (k : ℕ) → (k / 4 ≡ n → ⊥) → get_or (put t n X) k 0 ≡ get_or t k 0
  unfolding put s0 s1 s2
  put_other k l =
      get_or-set_other s2 (4 * n + 3) k (X true true) 0 (λ e. l (omega arith)) ∙ get_or-set_other s1 (4 * n + 2) k (X true false) 0 (λ e. l (omega arith))
      ∙ get_or-set_other s0 (4 * n + 1) k (X false true) 0 (λ e. l (omega arith)) ∙ get_or-set_other t (4 * n) k (X false false) 0 (λ e. l (omega arith))

  pub put_old : (k : ℕ) → k < n → (i j : Bool) → kid (put t n X) k i j ≡ kid t k i j
  unfolding kid
  put_old k l false false = put_other (4 * k) (omega arith)
  put_old k l false true = put_other (4 * k + 1) (omega arith)
  put_old k l true false = put_other (4 * k + 2) (omega arith)
  put_old k l true true = put_other (4 * k + 3) (omega arith)

  pub put_new : 4 * n + 3 < length t → (i j : Bool) → kid (put t n X) n i j ≡ X i j
  unfolding kid put s0 s1 s2
  put_new l false false =
      get_or-set_other s2 (4 * n + 3) (4 * n) (X true true) 0 (omega arith) ∙ get_or-set_other s1 (4 * n + 2) (4 * n) (X true false) 0 (omega arith)
      ∙ get_or-set_other s0 (4 * n + 1) (4 * n) (X false true) 0 (omega arith) ∙ get_or-set_same t (4 * n) (X false false) 0 (omega arith)
  put_new l false true =
      get_or-set_other s2 (4 * n + 3) (4 * n + 1) (X true true) 0 (omega arith) ∙ get_or-set_other s1 (4 * n + 2) (4 * n + 1) (X true false) 0 (omega arith)
      ∙ get_or-set_same s0 (4 * n + 1) (X false true) 0 (simp length-set (omega arith))
  put_new l true false =
      get_or-set_other s2 (4 * n + 3) (4 * n + 2) (X true true) 0 (omega arith) ∙ get_or-set_same s1 (4 * n + 2) (X true false) 0 (simp length-set (omega arith))
  put_new l true true = get_or-set_same s2 (4 * n + 3) (X true true) 0 (simp length-set (omega arith))

  pub put_ext : Ext (table t n) (table (put t n X) (n + 1))
  put_ext = record { more = omega arith; len = put_len t n X; keep = put_old; beyond = λ k l. put_other k (omega arith) }

-- σ has no node with the children X, and no record is left for one
pub record Short (X : Quad) (σ : Table) : Type 0 where
  pub missing : Missing X σ
  pub no_room : room σ.words σ.count ≡ false

abbrev pub grown : Quad → Table → Table
grown X σ = table (put σ.words σ.count X) (σ.count + 1)

-- the three ways of mk
pub data Ways (X : Quad) (σ : Table) : Outcome Table ℕ → Type 0 where
  there : (k : ℕ) → k < σ.count → ((i j : Bool) → kid σ.words k i j ≡ X i j) → Ways X σ (given σ (k + 2))
  fresh : Missing X σ → room σ.words σ.count ≡ true → Ways X σ (given (grown X σ) (σ.count + 2))
  short : Short X σ → Ways X σ (refused 21)

pub ways : (X : Quad) (σ : Table) → Ways X σ (mk X σ)
unfolding mk
ways X σ = at_test (ltb s n) refl
  where
    t : List ℕ
    t = σ.words

    n : ℕ
    n = σ.count

    s : ℕ
    s = seek t X 0 n

    miss : ltb s n ≡ false → Missing X σ
    miss e k l q = false_true (sym (seek_miss t X 0 n (omega (arith, ltb-false s n e)) k (omega arith) (omega arith)) ∙ kids_same t X k q)

    at_room : ltb s n ≡ false → (c : Bool) → room t n ≡ c → Ways X σ (put_if c X σ)
    at_room e true r = fresh (miss e) r
    at_room e false r = short (record { missing = miss e; no_room = r })

    at_test : (c : Bool) → ltb s n ≡ c → Ways X σ (found_if c s X σ)
    at_test true e = there s (ltb-true s n e) (same_kids t X s (seek_hit t X 0 n (omega (arith, ltb-true s n e))))
    at_test false e = at_room e (room t n) refl

-- a node that is there is found
pub mk_there : {σ : Table} (X : Quad) (k : ℕ) → Nodes σ → k < σ.count → ((i j : Bool) → kid σ.words k i j ≡ X i j) → mk X σ ≡ given σ (k + 2)
mk_there {σ} X k n l e = go (mk X σ) (ways X σ)
  where
    go : (o : Outcome Table ℕ) → Ways X σ o → o ≡ given σ (k + 2)
    go o (there m b q) = ap (λ (m : ℕ). given σ (m + 2)) (n.once m k b l (λ i j. q i j ∙ sym (e i j)))
    go o (fresh m r) = absurd (m k l e)
    go o (short z) = absurd (z.missing k l e)

-- exactly if it is missing and no record is left, it is refused
pub mk_short : (X : Quad) (σ : Table) → Short X σ → mk X σ ≡ refused 21
mk_short X σ z = go (mk X σ) (ways X σ)
  where
    go : (o : Outcome Table ℕ) → Ways X σ o → o ≡ refused 21
    go o (there m b q) = absurd (z.missing m b q)
    go o (fresh m r) = absurd (false_true (sym z.no_room ∙ r))
    go o (short z) = refl

split : {n k : ℕ} → k < n + 1 → (k ≡ n) ⊎ (k < n)
split m = eq-or-lt_of_le (omega arith)

module _ (X : Quad) (σ : Table) (r : room σ.words σ.count ≡ true) where
  abbrev t : List ℕ
  t = σ.words

  abbrev n : ℕ
  n = σ.count

  new : {k : ℕ} → k ≡ n → (i j : Bool) → kid (put t n X) k i j ≡ X i j
  new p i j = ap (λ (k : ℕ). kid (put t n X) k i j) p ∙ put_new t n X (room_fits t n r).0 i j

  pub grown_rising : Rising σ.words σ.count → ((i j : Bool) → X i j < σ.count + 2) → Rising (grown X σ).words (grown X σ).count
  grown_rising w below k a i j = ⊎_elim (λ p. omega (arith, p, new p i j, below i j)) (λ p. omega (arith, put_old t n X k p i j, w k p i j)) (split a)

  pub grown_nodes : Missing X σ → Nodes σ → ((i j : Bool) → X i j < σ.count + 2) → Nodes (grown X σ)
  grown_nodes miss w below = record { fits = omega (arith, put_len t n X, l.0); small = omega (arith, l.1); once = once; rising = grown_rising w.rising below }
    where
      l : (4 * n + 3 < length t) × (n < cap)
      l = room_fits t n r

      once : (k m : ℕ) → k < n + 1 → m < n + 1 → ((i j : Bool) → kid (put t n X) k i j ≡ kid (put t n X) m i j) → k ≡ m
      once k m a b e =
          ⊎_elim
          (λ p. ⊎_elim (λ q. p ∙ sym q) (λ q. absurd (miss m q (λ i j. sym (put_old t n X m q i j) ∙ sym (e i j) ∙ new p i j))) (split b))
          (λ p. ⊎_elim
          (λ q. absurd (miss k p (λ i j. sym (put_old t n X k p i j) ∙ e i j ∙ new q i j)))
          (λ q. w.once k m p q (λ i j. sym (put_old t n X k p i j) ∙ e i j ∙ put_old t n X m q i j)) (split b))
          (split a)

  pub grown_wf : {N : ℕ} (d : ℕ) → Missing X σ → Wf N σ → d < N → ((i j : Bool) → ValidAt σ d (X i j)) → Wf N (grown X σ)
  grown_wf d miss w low at = record {
    nodes = grown_nodes miss w.nodes (λ i j. at_below σ d (X i j) (at i j));
    fixed = fixed_ext w.fixed (put_ext t n X);
    level = λ k m. ⊎_elim
        (λ p. record { depth = d; low = low; children = λ i j. subst (ValidAt (grown X σ) d) (sym (new p i j)) (at_ext (put_ext t n X) d (X i j) (at i j)) })
        (λ p. level_ext k (put_ext t n X) p (w.level k p)) (split m);
  }

-- 01, 21: a node of relations is lacking
pub record Lacks (number : ℕ) (σ : Table) : Type 0 where
  pub number_is : number ≡ 21
  pub children : Quad
  pub short : Short children σ

abbrev pub spp_limits : ℕ → Limited
spp_limits N = record { theory = spp_theory N; Stuck = Lacks }

module _ {N d : ℕ} {σ : Table} (X : Quad) (R : Relation (suc d)) where
  found : (τ : Table) (k : ℕ) → Ext σ τ → Wf N τ → k < τ.count → ((i j : Bool) → kid τ.words k i j ≡ X i j)
      → ((i j : Bool) → Denotes σ d (X i j) (part R i j)) → StableResult (spp_theory N) (mk X) (λ τ h. Denotes τ (suc d) h R) σ τ (k + 2)
  unfolding kids
  found τ k e w l q D = record {
    ext = e;
    wf = w;
    holds = den_node (omega arith) (omega arith)
        (λ i j. subst (λ (h : ℕ). Denotes τ d h (part R i j)) (sym (ap (λ (k : ℕ). kid τ.words k i j) {y = k} (omega arith) ∙ q i j)) (den_ext e (D i j)));
    stable = λ υ x v. mk_there X k v.nodes (omega (arith, x.more)) (λ i j. x.keep k l i j ∙ q i j);
  }

  pub mk_exact : Wf N σ → d < N → ((i j : Bool) → Denotes σ d (X i j) (part R i j)) → Exact (spp_limits N) (mk X) (λ τ h. Denotes τ (suc d) h R) σ
  mk_exact w low D = record { runs = go (mk X σ) (ways X σ); stops = halt (mk X σ) (ways X σ) }
    where
      go : (o : Outcome Table ℕ) → Ways X σ o → Gives (StableResult (spp_theory N) (mk X) (λ τ h. Denotes τ (suc d) h R) σ) o
      go o (there k l q) = gives (found σ k (ext_refl σ) w l q D)
      go o (fresh m r) =
          let e : Ext σ (grown X σ) = put_ext σ.words σ.count X in
          gives (found (grown X σ) σ.count e (grown_wf X σ r d m w low (λ i j. (D i j).at)) (omega arith) (put_new σ.words σ.count X (room_fits _ _ r).0) D)
      go o (short z) = refusal

      halt : (o : Outcome Table ℕ) → Ways X σ o → Stops (spp_limits N) σ o
      halt o (there k l q) = goes
      halt o (fresh m r) = goes
      halt o (short z) = stuck (ext_refl σ) w (record { number_is = refl; children = X; short = z })

-- four handles, and what each means
pub quad_den : {σ : Table} {d x00 x01 x10 x11 : ℕ} (R : Relation (suc d))
    → Denotes σ d x00 (part R false false) → Denotes σ d x01 (part R false true) → Denotes σ d x10 (part R true false) → Denotes σ d x11 (part R true true)
    → (i j : Bool) → Denotes σ d (quad x00 x01 x10 x11 i j) (part R i j)
quad_den R a b c e false false = a
quad_den R a b c e false true = b
quad_den R a b c e true false = c
quad_den R a b c e true true = e

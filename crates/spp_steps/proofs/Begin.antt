-- 01, "Corners", spp.rs: a store is begun with its constants. For N fields there are 3 N nodes, and the handles are the fixed ones.
use mathlib.Core.Path.{◌≡◌, refl, sym, ◌∙◌, ap, subst}
use mathlib.Core.Bool.{Bool, true, false, ◌&&◌}
use mathlib.Core.List.{List}
use mathlib.Core.Logic.{◌⊎◌, ⊎_elim}
use Prim.Native.Nat.{ℕ, zero, suc, ◌+◌, ◌*◌, ◌-◌, ◌/◌, ◌≤◌, ◌<◌}
use native.Mathlib.Omega.{arith}
use native.Mathlib.Nat.{eq-or-lt_of_le}
use lib.Dec.{ltb}
use lib.ListN.{length}
use borrow.Author.Tests.{ltb-true, ltb-false}
use Rattle.common.specs.Outcome.{Outcome, refused, given, Step, after, Gives, refusal, gives}
use Rattle.common.proofs.Follow.{given_of}
use Rattle.common.specs.Runs.{Table, table}
use Rattle.spp_steps.specs.Model.{Quad, quad, kid, cap, room, mk, zero_at, one_at, top_at, zeros, ones, tops, Constants, constants}
use Rattle.spp_steps.specs.Wf.{Nodes, Fixed, Level, Wf, Ext, ValidAt}
use Rattle.spp_steps.proofs.Laws.{ext_refl, ext_trans, zero_den, one_den, top_den, by_test}
use Rattle.spp_steps.specs.Make.{Missing}
use Rattle.spp_steps.proofs.Make.{Ways, there, fresh, short, ways, grown_nodes, put_ext, put_new, room_fits}

-- ---- the fixed handles differ

zero_inj : (N k d : ℕ) → zero_at N k ≡ zero_at N d → k ≡ d
unfolding zero_at
zero_inj N zero zero e = refl
zero_inj N zero (suc d) e = absurd (omega arith)
zero_inj N (suc k) zero e = absurd (omega arith)
zero_inj N (suc k) (suc d) e = omega arith

top_inj : (N k d : ℕ) → top_at N k ≡ top_at N d → k ≡ d
unfolding top_at
top_inj N zero zero e = refl
top_inj N zero (suc d) e = absurd (omega arith)
top_inj N (suc k) zero e = absurd (omega arith)
top_inj N (suc k) (suc d) e = omega arith

zero_one : (N d : ℕ) → d < N → zero_at N d ≡ one_at N d → ⊥
unfolding zero_at one_at
zero_one N zero l e = omega arith
zero_one N (suc d) l e = omega arith

zero_top : (N k d : ℕ) → k < N → zero_at N k ≡ top_at N d → ⊥
unfolding zero_at top_at
zero_top N zero zero l e = omega arith
zero_top N zero (suc d) l e = omega arith
zero_top N (suc k) zero l e = omega arith
zero_top N (suc k) (suc d) l e = omega arith

zero_most : (N d : ℕ) → zero_at N d ≤ d + 1
unfolding zero_at
zero_most N zero = omega arith
zero_most N (suc d) = omega arith

one_most : (N d : ℕ) → one_at N d ≤ N + d + 1
unfolding one_at
one_most N zero = omega arith
one_most N (suc d) = omega arith

top_most : (N d : ℕ) → top_at N d ≤ 2 * N + d + 1
unfolding top_at
top_most N zero = omega arith
top_most N (suc d) = omega arith

-- ---- stages

-- the first a zeros, b identities and c tops are there, and nothing else
record Stage (N a b c : ℕ) (σ τ : Table) : Type 0 where
  ext : Ext σ τ
  nodes : Nodes τ
  count : τ.count ≡ a + b + c
  zeros : (d : ℕ) → d < a → (i j : Bool) → kid τ.words d i j ≡ zero_at N d
  ones : (d : ℕ) → d < b → (i j : Bool) → kid τ.words (N + d) i j ≡ quad (one_at N d) (zero_at N d) (zero_at N d) (one_at N d) i j
  tops : (d : ℕ) → d < c → (i j : Bool) → kid τ.words (2 * N + d) i j ≡ top_at N d

-- what mk makes of children that no node has
record New (X : Quad) (σ τ : Table) (h : ℕ) : Type 0 where
  ext : Ext σ τ
  nodes : Nodes τ
  count : τ.count ≡ σ.count + 1
  handle : h ≡ σ.count + 2
  kids : (i j : Bool) → kid τ.words σ.count i j ≡ X i j

-- an outcome that gives Q, or is refused with 21 because of F
data Comes {A : Type 0} (F : Type 0) (Q : Table → A → Type 0) : Outcome Table A → Type 0 where
  fails : F → Comes F Q (refused 21)
  comes : {τ : Table} {a : A} → Q τ a → Comes F Q (given τ a)

comes_map : {A : Type 0} {F G : Type 0} {P Q : Table → A → Type 0} {o : Outcome Table A} → (F → G) → ((τ : Table) (a : A) → P τ a → Q τ a) → Comes F P o → Comes G Q o
comes_map g f (fails x) = fails (g x)
comes_map g f (comes {τ} {a} p) = comes (f τ a p)

comes_after : {A B : Type 0} {F : Type 0} {P : Table → A → Type 0} {Q : Table → B → Type 0} {o : Outcome Table A} {k : A → Step Table B}
    → Comes F P o → ((τ : Table) (a : A) → P τ a → Comes F Q (k a τ)) → Comes F Q (after o k)
comes_after (fails x) f = fails x
comes_after (comes {τ} {a} p) f = f τ a p

mk_new : {σ : Table} (X : Quad) → Nodes σ → ((i j : Bool) → X i j < σ.count + 2) → Missing X σ → Comes (room σ.words σ.count ≡ false) (New X σ) (mk X σ)
mk_new {σ} X n below miss = go (mk X σ) (ways X σ)
  where
    go : (o : Outcome Table ℕ) → Ways X σ o → Comes (room σ.words σ.count ≡ false) (New X σ) o
    go o (there k l q) = absurd (miss k l q)
    go o (fresh m r) =
        comes (record { ext = put_ext σ.words σ.count X; nodes = grown_nodes X σ r m n below; count = refl; handle = refl; kids = put_new σ.words σ.count X (room_fits _ _ r).0 })
    go o (short z) = fails z.no_room

last : {d : ℕ} {k : ℕ} → k < suc d → (k ≡ d) ⊎ (k < d)
last l = eq-or-lt_of_le (omega arith)

quad_all : (x : ℕ) (i j : Bool) → quad x x x x i j ≡ x
quad_all x false false = refl
quad_all x false true = refl
quad_all x true false = refl
quad_all x true true = refl

quad_below : {n x00 x01 x10 x11 : ℕ} → x00 < n → x01 < n → x10 < n → x11 < n → (i j : Bool) → quad x00 x01 x10 x11 i j < n
quad_below a b c d false false = a
quad_below a b c d false true = b
quad_below a b c d true false = c
quad_below a b c d true true = d

-- node m of υ, which is the one that mk made
at_new : {X : Quad} {τ υ : Table} {h : ℕ} (m : ℕ) → New X τ υ h → m ≡ τ.count → (i j : Bool) → kid υ.words m i j ≡ X i j
at_new {υ} m M e i j = ap (λ (m : ℕ). kid υ.words m i j) e ∙ M.kids i j

module _ (N : ℕ) (σ : Table) where
  -- one more
  more_zeros : (d : ℕ) {τ υ : Table} {h : ℕ} → Stage N d 0 0 σ τ → New (quad (zero_at N d) (zero_at N d) (zero_at N d) (zero_at N d)) τ υ h → Stage N (suc d) 0 0 σ υ
  more_zeros d S M = record {
    ext = ext_trans S.ext M.ext;
    nodes = M.nodes;
    count = omega (arith, M.count, S.count);
    zeros = λ k l i j. ⊎_elim
        (λ q. at_new k M (omega (arith, S.count)) i j ∙ quad_all (zero_at N d) i j ∙ ap (zero_at N) (sym q))
        (λ q. M.ext.keep k (omega (arith, S.count)) i j ∙ S.zeros k q i j) (last l);
    ones = λ k l i j. absurd (omega arith);
    tops = λ k l i j. absurd (omega arith);
  }

  more_ones : (d : ℕ) {τ υ : Table} {h : ℕ} → d < N → Stage N N d 0 σ τ → New (quad (one_at N d) (zero_at N d) (zero_at N d) (one_at N d)) τ υ h → Stage N N (suc d) 0 σ υ
  more_ones d l S M = record {
    ext = ext_trans S.ext M.ext;
    nodes = M.nodes;
    count = omega (arith, M.count, S.count);
    zeros = λ k l i j. M.ext.keep k (omega (arith, S.count)) i j ∙ S.zeros k l i j;
    ones = λ k l i j. ⊎_elim
        (λ q. at_new (N + k) M (omega (arith, S.count)) i j ∙ ap (λ (d : ℕ). quad (one_at N d) (zero_at N d) (zero_at N d) (one_at N d) i j) (sym q))
        (λ q. M.ext.keep (N + k) (omega (arith, S.count)) i j ∙ S.ones k q i j) (last l);
    tops = λ k l i j. absurd (omega arith);
  }

  more_tops : (d : ℕ) {τ υ : Table} {h : ℕ} → d < N → Stage N N N d σ τ → New (quad (top_at N d) (top_at N d) (top_at N d) (top_at N d)) τ υ h → Stage N N N (suc d) σ υ
  more_tops d l S M = record {
    ext = ext_trans S.ext M.ext;
    nodes = M.nodes;
    count = omega (arith, M.count, S.count);
    zeros = λ k l i j. M.ext.keep k (omega (arith, S.count)) i j ∙ S.zeros k l i j;
    ones = λ k l i j. M.ext.keep (N + k) (omega (arith, S.count)) i j ∙ S.ones k l i j;
    tops = λ k l i j. ⊎_elim
        (λ q. at_new (2 * N + k) M (omega (arith, S.count)) i j ∙ quad_all (top_at N d) i j ∙ ap (top_at N) (sym q))
        (λ q. M.ext.keep (2 * N + k) (omega (arith, S.count)) i j ∙ S.tops k q i j) (last l);
  }

  -- it is not there yet
  no_zero : (d : ℕ) {τ : Table} → Stage N d 0 0 σ τ → Missing (quad (zero_at N d) (zero_at N d) (zero_at N d) (zero_at N d)) τ
  no_zero d S k l e = let q : k ≡ d = zero_inj N k d (sym (S.zeros k (omega (arith, S.count)) false false) ∙ e false false) in omega (arith, S.count)

  no_one : (d : ℕ) {τ : Table} → d < N → Stage N N d 0 σ τ → Missing (quad (one_at N d) (zero_at N d) (zero_at N d) (one_at N d)) τ
  no_one d {τ} l S k m e =
      by_test (ltb k N)
      (λ c. low (ltb-true k N c))
      (λ c. high (k - N) (omega (arith, ltb-false k N c)))
    where
      low : k < N → ⊥
      low c =
          let q : k ≡ d = zero_inj N k d (sym (S.zeros k c false true) ∙ e false true) in
          zero_one N d l (ap (zero_at N) (sym q) ∙ sym (S.zeros k c false false) ∙ e false false)

      high : (n : ℕ) → k ≡ N + n → ⊥
      high n c =
          let b : n < d = omega (arith, S.count) in
          let q : n ≡ d = zero_inj N n d (sym (S.ones n b false true) ∙ ap (λ (k : ℕ). kid τ.words k false true) (sym c) ∙ e false true) in
          omega arith

  no_top : (d : ℕ) {τ : Table} → d < N → Stage N N N d σ τ → Missing (quad (top_at N d) (top_at N d) (top_at N d) (top_at N d)) τ
  no_top d {τ} l S k m e =
      by_test (ltb k N)
      (λ c. zero_top N k d (ltb-true k N c) (sym (S.zeros k (ltb-true k N c) false false) ∙ e false false))
      (λ c. by_test (ltb k (2 * N))
      (λ b. mid (k - N) (omega (arith, ltb-false k N c)) (omega (arith, ltb-false k N c, ltb-true k (2 * N) b)))
      (λ b. high (k - 2 * N) (omega (arith, ltb-false k (2 * N) b))))
    where
      mid : (n : ℕ) → k ≡ N + n → n < N → ⊥
      mid n c b = zero_top N n d b (sym (S.ones n b false true) ∙ ap (λ (k : ℕ). kid τ.words k false true) (sym c) ∙ e false true)

      high : (n : ℕ) → k ≡ 2 * N + n → ⊥
      high n c =
          let b : n < d = omega (arith, S.count) in
          let q : n ≡ d = top_inj N n d (sym (S.tops n b false false) ∙ ap (λ (k : ℕ). kid τ.words k false false) (sym c) ∙ e false false) in
          omega arith

  -- its children are there
  zero_below : (d : ℕ) {τ : Table} → Stage N d 0 0 σ τ → (i j : Bool) → quad (zero_at N d) (zero_at N d) (zero_at N d) (zero_at N d) i j < τ.count + 2
  zero_below d S = let z = zero_most N d in quad_below (omega (arith, S.count)) (omega (arith, S.count)) (omega (arith, S.count)) (omega (arith, S.count))

  one_below : (d : ℕ) {τ : Table} → d < N → Stage N N d 0 σ τ → (i j : Bool) → quad (one_at N d) (zero_at N d) (zero_at N d) (one_at N d) i j < τ.count + 2
  one_below d l S =
      let z = zero_most N d in
      let o = one_most N d in
      quad_below (omega (arith, S.count)) (omega (arith, S.count)) (omega (arith, S.count)) (omega (arith, S.count))

  top_below : (d : ℕ) {τ : Table} → Stage N N N d σ τ → (i j : Bool) → quad (top_at N d) (top_at N d) (top_at N d) (top_at N d) i j < τ.count + 2
  top_below d S = let z = top_most N d in quad_below (omega (arith, S.count)) (omega (arith, S.count)) (omega (arith, S.count)) (omega (arith, S.count))

-- the table t has not as many records as the constants of N fields
abbrev pub TooFew : ℕ → List ℕ → Type 0
TooFew N t = (length t / 4 < 3 * N) ⊎ (cap < 3 * N)

too_few : (N : ℕ) (σ τ : Table) → Ext σ τ → τ.count < 3 * N → room τ.words τ.count ≡ false → TooFew N σ.words
unfolding room
too_few N σ τ e l r =
    by_test (ltb τ.count (length τ.words / 4))
    (λ c. ◌⊎◌.inr (omega (arith, ltb-false τ.count cap (sym (ap (λ (b : Bool). b && ltb τ.count cap) c) ∙ r))))
    (λ c. ◌⊎◌.inl (omega (arith, ltb-false τ.count (length τ.words / 4) c, e.len)))

-- ---- the start

-- all nodes are constants
whole : (N : ℕ) (σ : Table) → Nodes σ → Fixed N σ → σ.count ≡ 3 * N → Wf N σ
whole N σ n w e = record {
  nodes = n;
  fixed = w;
  level = λ k l.
      by_test (ltb k N)
      (λ c. at_depth k k (ltb-true k N c) (λ i j. subst (ValidAt σ k) (sym (w.zeros k (ltb-true k N c) i j)) (zero k (ltb-true k N c))))
      (λ c. by_test (ltb k (2 * N))
      (λ b. mid k (k - N) (omega (arith, ltb-false k N c)) (omega (arith, ltb-false k N c, ltb-true k (2 * N) b)))
      (λ b. high k (k - 2 * N) (omega (arith, ltb-false k (2 * N) b)) (omega (arith, ltb-false k (2 * N) b))));
}
  where
    at_depth : (k d : ℕ) → d < N → ((i j : Bool) → ValidAt σ d (kid σ.words k i j)) → Level N σ k
    at_depth k d l a = record { depth = d; low = l; children = a }

    zero : (d : ℕ) → d < N → ValidAt σ d (zero_at N d)
    zero d l = (zero_den w d (omega arith)).at

    one : (d : ℕ) → d < N → (i j : Bool) → ValidAt σ d (quad (one_at N d) (zero_at N d) (zero_at N d) (one_at N d) i j)
    one d l false false = (one_den w d (omega arith)).at
    one d l false true = zero d l
    one d l true false = zero d l
    one d l true true = (one_den w d (omega arith)).at

    mid : (k d : ℕ) → k ≡ N + d → d < N → Level N σ k
    mid k d q l = at_depth k d l (λ i j. subst (ValidAt σ d) (sym (ap (λ (k : ℕ). kid σ.words k i j) q ∙ w.ones d l i j)) (one d l i j))

    high : (k d : ℕ) → k ≡ 2 * N + d → d < N → Level N σ k
    high k d q l = at_depth k d l (λ i j. subst (ValidAt σ d) (sym (ap (λ (k : ℕ). kid σ.words k i j) q ∙ w.tops d l i j)) (top_den w d (omega arith)).at)

-- A store for N fields as it is begun, from the table σ.
pub record Begun (N : ℕ) (σ τ : Table) (c : Constants) : Type 0 where
  pub ext : Ext σ τ
  pub wf : Wf N τ
  pub count : τ.count ≡ 3 * N
  pub zero_is : c.zero ≡ zero_at N N
  pub one_is : c.one ≡ one_at N N
  pub top_is : c.top ≡ top_at N N

module _ (N : ℕ) (t : List ℕ) where
  abbrev σ : Table
  σ = table t 0

  F : Type 0
  F = TooFew N t

  zeros_stage : (d : ℕ) → d ≤ N → Comes F (λ τ h. Stage N d 0 0 σ τ × (h ≡ zero_at N d)) (zeros d σ)
  unfolding zeros zero_at F
  zeros_stage zero l =
      comes (
        record {
          ext = ext_refl σ;
          nodes = record { fits = omega arith; small = omega arith; once = λ k l a b e. absurd (omega arith); rising = λ k l i j. absurd (omega arith) };
          count = refl;
          zeros = λ k l i j. absurd (omega arith);
          ones = λ k l i j. absurd (omega arith);
          tops = λ k l i j. absurd (omega arith);
        },
        refl,
      )
  zeros_stage (suc d) l =
      comes_after (zeros_stage d (omega arith)) (λ τ z P. rw P.1
      (comes_map (too_few N σ τ P.0.ext (omega (arith, P.0.count))) (λ υ h M. (more_zeros N σ d P.0 M, omega (arith, M.handle, P.0.count)))
      (mk_new _ P.0.nodes (zero_below N σ d P.0) (no_zero N σ d P.0))))

  ones_stage : (τ : Table) → Stage N N 0 0 σ τ → (d : ℕ) → d ≤ N → Comes F (λ υ h. Stage N N d 0 σ υ × (h ≡ one_at N d)) (ones N d τ)
  unfolding ones one_at F
  ones_stage τ S zero l = comes (S, refl)
  ones_stage τ S (suc d) l =
      comes_after (ones_stage τ S d (omega arith)) (λ υ x P. rw P.1
      (comes_map (too_few N σ υ P.0.ext (omega (arith, P.0.count))) (λ ω h M. (more_ones N σ d l P.0 M, omega (arith, M.handle, P.0.count)))
      (mk_new _ P.0.nodes (one_below N σ d l P.0) (no_one N σ d l P.0))))

  tops_stage : (τ : Table) → Stage N N N 0 σ τ → (d : ℕ) → d ≤ N → Comes F (λ υ h. Stage N N N d σ υ × (h ≡ top_at N d)) (tops d τ)
  unfolding tops top_at F
  tops_stage τ S zero l = comes (S, refl)
  tops_stage τ S (suc d) l =
      comes_after (tops_stage τ S d (omega arith)) (λ υ x P. rw P.1
      (comes_map (too_few N σ υ P.0.ext (omega (arith, P.0.count))) (λ ω h M. (more_tops N σ d l P.0 M, omega (arith, M.handle, P.0.count)))
      (mk_new _ P.0.nodes (top_below N σ d P.0) (no_top N σ d l P.0))))

  all_stages : Comes F (Begun N σ) (constants N σ)
  unfolding constants
  all_stages =
      comes_after (zeros_stage N (omega arith)) (λ τ z P.
      comes_after (ones_stage τ P.0 N (omega arith)) (λ υ o Q.
      comes_after (tops_stage υ Q.0 N (omega arith)) (λ ω h R. comes (record {
        ext = R.0.ext;
        wf = whole N ω R.0.nodes (record { many = omega (arith, R.0.count); zeros = R.0.zeros; ones = R.0.ones; tops = R.0.tops }) (omega (arith, R.0.count));
        count = omega (arith, R.0.count);
        zero_is = P.1;
        one_is = Q.1;
        top_is = R.1;
      }))))

  -- the zeros are N nodes
  pub zeros_count : (τ : Table) (z : ℕ) → zeros N σ ≡ given τ z → τ.count ≡ N
  zeros_count τ z e = go (subst (Comes F (λ τ h. Stage N N 0 0 σ τ × (h ≡ zero_at N N))) e (zeros_stage N (omega arith)))
    where
      go : Comes F (λ τ h. Stage N N 0 0 σ τ × (h ≡ zero_at N N)) (given τ z) → τ.count ≡ N
      go (comes P) = omega (arith, P.0.count)

  -- unless refused, the store is begun
  pub begun : Gives (Begun N σ) (constants N σ)
  begun = go all_stages
    where
      go : {o : Outcome Table Constants} → Comes F (Begun N σ) o → Gives (Begun N σ) o
      go (fails x) = refusal
      go (comes p) = gives p

  -- it is refused with 21 and no other number, and exactly if the table has too few records
  pub begun_refused : (number : ℕ) → constants N σ ≡ refused number → (number ≡ 21) × TooFew N t
  unfolding F
  begun_refused number e = go (subst (Comes F (Begun N σ)) e all_stages)
    where
      go : {k : ℕ} → Comes F (Begun N σ) (refused k) → (k ≡ 21) × TooFew N t
      go (fails x) = (refl, x)

  pub begun_fits : (τ : Table) (c : Constants) → constants N σ ≡ given τ c → TooFew N t → ⊥
  begun_fits τ c e =
      let B : Begun N σ τ c = given_of begun e in
      ⊎_elim (λ l. omega (arith, B.wf.nodes.fits, B.ext.len, B.count)) (λ l. omega (arith, B.wf.nodes.small, B.count))

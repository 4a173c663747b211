-- One turn of `star`: an exit, a result from the cache, or the star of a matrix and a node.
use mathlib.Core.Path.{◌≡◌, refl, sym, ◌∙◌, ap, subst}
use mathlib.Core.Bool.{Bool, true, false}
use mathlib.Core.List.{List, [], ◌∷◌}
use Prim.Native.Nat.{ℕ, suc, ◌+◌, ◌*◌, ◌-◌, ◌≤◌, ◌<◌}
use native.Mathlib.Omega.{arith}
use lib.ListN.{length}
use Rattle.std.specs.Prelude.{Result, Ok, Err}
use Rattle.common.specs.Outcome.{Outcome, refused, given, Step, return, after}
use Rattle.common.proofs.Follow.{given_of}
use Rattle.common.specs.Runs.{Table, StableResult}
use Rattle.cache.specs.Cache.{OnlyCodes, WritesValid, Holds, Exactly}
use Rattle.cache.proofs.Stage as stage
use Rattle.cache.proofs.Stage.{Gave, Stage}
use Rattle.spp_steps.specs.Model.{union, more, Quad, quad, kids, mem, mk, apply, sequence, star_exit, blocks, star}
use Rattle.spp_steps.specs.Closure.{closure}
use Rattle.spp_steps.specs.Wf.{ValidAt, Denotes}
use Rattle.spp_steps.proofs.Laws.{spp_theory, ext_refl, at_ext, den_mem}
use Rattle.spp_steps.proofs.Star.{star_exact}
use Rattle.spp.specs.Reuse.{Kept, run}
use Rattle.spp.proofs.Reuse.{spp_memo, reused, to_note}
use Rattle.spp.specs.Clauses.{store_of, seen, SameStore, Asked, Answer, Noted, Fits}
use Rattle.spp.specs.declared.SPP.{SPP}
use Rattle.spp.specs.declared.SPPstore.{SPPstore}
use Rattle.spp.specs.declared.Full.{Full}
use Rattle.spp.proofs.Calls.{gave_on, lost_on, inside, fits, at_kids, quad_at}
use Rattle.spp_sequence.specs.Parts.{Pair, through, around}
use Rattle.spp_sequence.proofs.Parts.{blocks_parts}
use Rattle.spp_sequence.specs.Clauses.{seen_two, NodeAsked}
use Rattle.spp_sequence.proofs.Calls.{star_above, star_more, star_can, through_can, around_can}
use Rattle.spp_sequence.proofs.Moment.{Moment, start, asks, lost, past, past_with, past_sequence, past_union, ended}

-- ---- b e, and a with b e c

module _ (s : SPPstore) {d : ℕ} (X : Quad) {v : ℕ} {m : List ℕ} (r : Asked s.fields d (store_of s) m (X false false ∷ X false true ∷ X true false ∷ v ∷ [])) where
  t3 : ℕ → ℕ → Step Table Pair
  t3 be s = return (record { first = be; second = s })

  t2 : ℕ → ℕ → Step Table Pair
  t2 be bec σ2 = after (apply s.fields union d (X false false) bec σ2) (t3 be)

  t1 : ℕ → Step Table Pair
  t1 be σ1 = after (sequence s.fields d be (X true false) σ1) (t2 be)

  through_0 : Moment s s d (through (sequence s.fields d) (apply s.fields union d) X v (store_of s)) (after (sequence s.fields d (X false true) v (store_of s)) t1) m m (X false false ∷ X false true ∷ X true false ∷ v ∷ [])
  unfolding through t1 t2 t3
  through_0 = start s r refl

  pub through_ready_1 : Asked s.fields d (store_of s) m (X false true ∷ v ∷ [])
  through_ready_1 = let a = r.at in asks through_0 (X false true ∷ v ∷ []) (a.1.0, (a.1.1.1.0, tt))

  pub through_lost_1 : {e : Full} {τ : Table} {m' : List ℕ} → Answer s.fields seen (sequence s.fields d (X false true) v) (store_of s) m (Err e) τ m' → through (sequence s.fields d) (apply s.fields union d) X v (store_of s) ≡ refused 21
  through_lost_1 z = lost (λ N. sequence N d (X false true) v) t1 through_0 z refl

  module _ {s1 : SPPstore} {m1 : List ℕ} {be : SPP} (p1 : SameStore s s1) (a1 : Answer s.fields seen (sequence s.fields d (X false true) v) (store_of s) m (Ok be) (store_of s1) m1) where
    through_1 : Moment s s1 d (through (sequence s.fields d) (apply s.fields union d) X v (store_of s)) (t1 be.0 (store_of s1)) m m1 (be.0 ∷ X false false ∷ X false true ∷ X true false ∷ v ∷ [])
    through_1 = let a = r.at in past_sequence (X false true) v t1 through_0 a.1.0 a.1.1.1.0 p1 a1

    pub through_ready_2 : Asked s1.fields d (store_of s1) m1 (be.0 ∷ X true false ∷ [])
    through_ready_2 = let a = through_1.at in asks through_1 (be.0 ∷ X true false ∷ []) (a.0, (a.1.1.1.0, tt))

    pub through_lost_2 : {e : Full} {τ : Table} {m' : List ℕ} → Answer s1.fields seen (sequence s1.fields d be.0 (X true false)) (store_of s1) m1 (Err e) τ m' → through (sequence s.fields d) (apply s.fields union d) X v (store_of s) ≡ refused 21
    unfolding t1
    through_lost_2 z = lost (λ N. sequence N d be.0 (X true false)) (t2 be.0) through_1 z refl

    module _ {s2 : SPPstore} {m2 : List ℕ} {bec : SPP} (p2 : SameStore s1 s2) (a2 : Answer s1.fields seen (sequence s1.fields d be.0 (X true false)) (store_of s1) m1 (Ok bec) (store_of s2) m2) where
      through_2 : Moment s s2 d (through (sequence s.fields d) (apply s.fields union d) X v (store_of s)) (t2 be.0 bec.0 (store_of s2)) m m2 (bec.0 ∷ be.0 ∷ X false false ∷ X false true ∷ X true false ∷ v ∷ [])
      unfolding t1
      through_2 = let a = through_1.at in past_sequence be.0 (X true false) (t2 be.0) through_1 a.0 a.1.1.1.0 p2 a2

      pub through_ready_3 : Asked s2.fields d (store_of s2) m2 (X false false ∷ bec.0 ∷ [])
      through_ready_3 = let a = through_2.at in asks through_2 (X false false ∷ bec.0 ∷ []) (a.1.1.0, (a.0, tt))

      pub through_lost_3 : {e : Full} {τ : Table} {m' : List ℕ} → Answer s2.fields seen (apply s2.fields union d (X false false) bec.0) (store_of s2) m2 (Err e) τ m' → through (sequence s.fields d) (apply s.fields union d) X v (store_of s) ≡ refused 21
      unfolding t2
      through_lost_3 z = lost (λ N. apply N union d (X false false) bec.0) (t3 be.0) through_2 z refl

      pub through_made : {s3 : SPPstore} {m3 : List ℕ} {sum : SPP} → SameStore s2 s3 → Answer s2.fields seen (apply s2.fields union d (X false false) bec.0) (store_of s2) m2 (Ok sum) (store_of s3) m3
          → Stage (spp_memo s.fields) (through (sequence s.fields d) (apply s.fields union d) X v (store_of s)) (given (store_of s3) (record { first = be.0; second = sum.0 })) (store_of s) (store_of s3) m m3
      unfolding t2 t3
      through_made p3 a3 = let a = through_2.at in (past_union (X false false) bec.0 (t3 be.0) through_2 a.1.1.0 a.0 p3 a3).here

-- ---- the other entries, and the node

module _ (s : SPPstore) {d c v q x : ℕ} {m : List ℕ} (r : NodeAsked s.fields d (store_of s) m (c ∷ v ∷ q ∷ x ∷ [])) where
  k5 : ℕ → ℕ → ℕ → Step Table ℕ
  k5 x01 x10 x11 = mk (quad x x01 x10 x11)

  k4 : ℕ → ℕ → ℕ → Step Table ℕ
  k4 x01 x10 xq τ = after (apply s.fields union d v xq τ) (k5 x01 x10)

  k3 : ℕ → ℕ → Step Table ℕ
  k3 x01 x10 τ = after (sequence s.fields d x10 q τ) (k4 x01 x10)

  k2 : ℕ → ℕ → Step Table ℕ
  k2 x01 cx τ = after (sequence s.fields d v cx τ) (k3 x01)

  k1 : ℕ → Step Table ℕ
  k1 x01 τ = after (sequence s.fields d c x τ) (k2 x01)

  around_0 : Moment s s d (around (sequence s.fields d) (apply s.fields union d) c v q x (store_of s)) (after (sequence s.fields d x q (store_of s)) k1) m m (c ∷ v ∷ q ∷ x ∷ [])
  unfolding around k1 k2 k3 k4 k5
  around_0 = start s r.asked refl

  pub around_ready_1 : Asked s.fields d (store_of s) m (x ∷ q ∷ [])
  around_ready_1 = let a = r.asked.at in asks around_0 (x ∷ q ∷ []) (a.1.1.1.0, (a.1.1.0, tt))

  pub around_lost_1 : {e : Full} {τ : Table} {m' : List ℕ} → Answer s.fields seen (sequence s.fields d x q) (store_of s) m (Err e) τ m' → around (sequence s.fields d) (apply s.fields union d) c v q x (store_of s) ≡ refused 21
  around_lost_1 z = lost (λ N. sequence N d x q) k1 around_0 z refl

  module _ {s1 : SPPstore} {m1 : List ℕ} {x01 : SPP} (p1 : SameStore s s1) (a1 : Answer s.fields seen (sequence s.fields d x q) (store_of s) m (Ok x01) (store_of s1) m1) where
    around_1 : Moment s s1 d (around (sequence s.fields d) (apply s.fields union d) c v q x (store_of s)) (k1 x01.0 (store_of s1)) m m1 (x01.0 ∷ c ∷ v ∷ q ∷ x ∷ [])
    around_1 = let a = r.asked.at in past_sequence x q k1 around_0 a.1.1.1.0 a.1.1.0 p1 a1

    pub around_ready_2 : Asked s1.fields d (store_of s1) m1 (c ∷ x ∷ [])
    around_ready_2 = let a = around_1.at in asks around_1 (c ∷ x ∷ []) (a.1.0, (a.1.1.1.1.0, tt))

    pub around_lost_2 : {e : Full} {τ : Table} {m' : List ℕ} → Answer s1.fields seen (sequence s1.fields d c x) (store_of s1) m1 (Err e) τ m' → around (sequence s.fields d) (apply s.fields union d) c v q x (store_of s) ≡ refused 21
    unfolding k1
    around_lost_2 z = lost (λ N. sequence N d c x) (k2 x01.0) around_1 z refl

    module _ {s2 : SPPstore} {m2 : List ℕ} {cx : SPP} (p2 : SameStore s1 s2) (a2 : Answer s1.fields seen (sequence s1.fields d c x) (store_of s1) m1 (Ok cx) (store_of s2) m2) where
      around_2 : Moment s s2 d (around (sequence s.fields d) (apply s.fields union d) c v q x (store_of s)) (k2 x01.0 cx.0 (store_of s2)) m m2 (cx.0 ∷ x01.0 ∷ c ∷ v ∷ q ∷ x ∷ [])
      unfolding k1
      around_2 = let a = around_1.at in past_sequence c x (k2 x01.0) around_1 a.1.0 a.1.1.1.1.0 p2 a2

      pub around_ready_3 : Asked s2.fields d (store_of s2) m2 (v ∷ cx.0 ∷ [])
      around_ready_3 = let a = around_2.at in asks around_2 (v ∷ cx.0 ∷ []) (a.1.1.1.0, (a.0, tt))

      pub around_lost_3 : {e : Full} {τ : Table} {m' : List ℕ} → Answer s2.fields seen (sequence s2.fields d v cx.0) (store_of s2) m2 (Err e) τ m' → around (sequence s.fields d) (apply s.fields union d) c v q x (store_of s) ≡ refused 21
      unfolding k2
      around_lost_3 z = lost (λ N. sequence N d v cx.0) (k3 x01.0) around_2 z refl

      module _ {s3 : SPPstore} {m3 : List ℕ} {x10 : SPP} (p3 : SameStore s2 s3) (a3 : Answer s2.fields seen (sequence s2.fields d v cx.0) (store_of s2) m2 (Ok x10) (store_of s3) m3) where
        around_3 : Moment s s3 d (around (sequence s.fields d) (apply s.fields union d) c v q x (store_of s)) (k3 x01.0 x10.0 (store_of s3)) m m3 (x10.0 ∷ cx.0 ∷ x01.0 ∷ c ∷ v ∷ q ∷ x ∷ [])
        unfolding k2
        around_3 = let a = around_2.at in past_sequence v cx.0 (k3 x01.0) around_2 a.1.1.1.0 a.0 p3 a3

        pub around_ready_4 : Asked s3.fields d (store_of s3) m3 (x10.0 ∷ q ∷ [])
        around_ready_4 = let a = around_3.at in asks around_3 (x10.0 ∷ q ∷ []) (a.0, (a.1.1.1.1.1.0, tt))

        pub around_lost_4 : {e : Full} {τ : Table} {m' : List ℕ} → Answer s3.fields seen (sequence s3.fields d x10.0 q) (store_of s3) m3 (Err e) τ m' → around (sequence s.fields d) (apply s.fields union d) c v q x (store_of s) ≡ refused 21
        unfolding k3
        around_lost_4 z = lost (λ N. sequence N d x10.0 q) (k4 x01.0 x10.0) around_3 z refl

        module _ {s4 : SPPstore} {m4 : List ℕ} {xq : SPP} (p4 : SameStore s3 s4) (a4 : Answer s3.fields seen (sequence s3.fields d x10.0 q) (store_of s3) m3 (Ok xq) (store_of s4) m4) where
          around_4 : Moment s s4 d (around (sequence s.fields d) (apply s.fields union d) c v q x (store_of s)) (k4 x01.0 x10.0 xq.0 (store_of s4)) m m4 (xq.0 ∷ x10.0 ∷ cx.0 ∷ x01.0 ∷ c ∷ v ∷ q ∷ x ∷ [])
          unfolding k3
          around_4 = let a = around_3.at in past_sequence x10.0 q (k4 x01.0 x10.0) around_3 a.0 a.1.1.1.1.1.0 p4 a4

          pub around_ready_5 : Asked s4.fields d (store_of s4) m4 (v ∷ xq.0 ∷ [])
          around_ready_5 = let a = around_4.at in asks around_4 (v ∷ xq.0 ∷ []) (a.1.1.1.1.1.0, (a.0, tt))

          pub around_lost_5 : {e : Full} {τ : Table} {m' : List ℕ} → Answer s4.fields seen (apply s4.fields union d v xq.0) (store_of s4) m4 (Err e) τ m' → around (sequence s.fields d) (apply s.fields union d) c v q x (store_of s) ≡ refused 21
          unfolding k4
          around_lost_5 z = lost (λ N. apply N union d v xq.0) (k5 x01.0 x10.0) around_4 z refl

          module _ {s5 : SPPstore} {m5 : List ℕ} {x11 : SPP} (p5 : SameStore s4 s5) (a5 : Answer s4.fields seen (apply s4.fields union d v xq.0) (store_of s4) m4 (Ok x11) (store_of s5) m5) where
            around_5 : Moment s s5 d (around (sequence s.fields d) (apply s.fields union d) c v q x (store_of s)) (k5 x01.0 x10.0 x11.0 (store_of s5)) m m5 (x11.0 ∷ xq.0 ∷ x10.0 ∷ cx.0 ∷ x01.0 ∷ c ∷ v ∷ q ∷ x ∷ [])
            unfolding k4
            around_5 = let a = around_4.at in past_union v xq.0 (k5 x01.0 x10.0) around_4 a.1.1.1.1.1.0 a.0 p5 a5

            pub around_fits : Fits s5.nodes.now s5.count
            around_fits = fits around_5.here.wf

            pub around_made : {o : Outcome Table ℕ} → mk (quad x x01.0 x10.0 x11.0) (store_of s5) ≡ o → around (sequence s.fields d) (apply s.fields union d) c v q x (store_of s) ≡ o
            unfolding k5
            around_made e = around_5.here.left ∙ e

            pub around_ended : (z : Result SPP Full) (τ : Table) → mk (quad x x01.0 x10.0 x11.0) (store_of s5) ≡ seen z τ → Noted s.fields m (seen z τ) m5
            unfolding k5
            around_ended = let a = around_5.at in ended (quad x x01.0 x10.0 x11.0) around_5 (quad_at (store_of s5) d x x01.0 x10.0 x11.0 a.1.1.1.1.1.1.1.1.0 a.1.1.1.1.0 a.1.1.0 a.0) r.low

-- ---- the turn

module _ {N D x : ℕ} {σ : Table} {m : List ℕ} (r : Asked N D σ m (x ∷ [])) (go_on : star_exit N D x ≡ more) where
  -- at depth 0 there is an exit
  pub up : D ≡ suc (D - 1)
  up = star_above N D x σ r.at.0 go_on

  at_x : ValidAt σ (suc (D - 1)) x
  at_x = subst (λ (k : ℕ). ValidAt σ k x) up r.at.0

  pub in_x : (2 ≤ x) × (4 * x ≤ length σ.words + 4)
  in_x = inside (D - 1) x r.wf at_x

  is_up : (τ : Table) → star N D x τ ≡ star N (suc (D - 1)) x τ
  is_up τ = ap (λ (k : ℕ). star N k x τ) up

  pub hit : {h : ℕ} → Holds m 9 x x h → star N D x σ ≡ given σ h
  unfolding run
  hit found = is_up σ ∙ reused (D - 1) r.wf at_x (omega arith) (omega arith) r.sound found

-- no exit: it goes down, to the children A of x
pub record Down (s : SPPstore) (D x : ℕ) (m : List ℕ) (A : Quad) : Type 0 where
  asked : Asked s.fields D (store_of s) m (x ∷ [])
  go_on : star_exit s.fields D x ≡ more
  A-is : A ≡ kids s.nodes.now x

pub goes_down : (s : SPPstore) {D x : ℕ} {m : List ℕ} {A : Quad} → Asked s.fields D (store_of s) m (x ∷ []) → star_exit s.fields D x ≡ more → A ≡ kids s.nodes.now x → Down s D x m A
goes_down s r e p = record { asked = r; go_on = e; A-is = p }

module _ {s : SPPstore} {D x : ℕ} {m : List ℕ} {A : Quad} (G : Down s D x m A) where
  above : D ≡ suc (D - 1)
  above = up G.asked G.go_on

  pub falls : {t : ℕ} → D ≡ t → D - 1 < t
  falls e = omega (arith, above)

  lower : D - 1 < s.fields
  lower = omega (arith, G.asked.deep, above)

  hs : List ℕ
  hs = A false false ∷ A false true ∷ A true false ∷ A true true ∷ []

  at_A : (i j : Bool) → ValidAt (store_of s) (D - 1) (A i j)
  at_A = at_kids (store_of s) (D - 1) x A G.A-is (at_x G.asked G.go_on)

  b3 : ℕ → Pair → ℕ → Step Table ℕ
  b3 e p x00 = around (sequence s.fields (D - 1)) (apply s.fields union (D - 1)) (A true false) e p.first x00

  b2 : ℕ → Pair → Step Table ℕ
  b2 e p τ = after (star s.fields (D - 1) p.second τ) (b3 e p)

  b1 : ℕ → Step Table ℕ
  b1 e τ = after (through (sequence s.fields (D - 1)) (apply s.fields union (D - 1)) A e τ) (b2 e)

  turn_0 : Moment s s (D - 1) (star s.fields D x (store_of s)) (after (star s.fields (D - 1) (A true true) (store_of s)) b1) m m hs
  unfolding hs b1 b2 b3
  turn_0 = start s
      (record { few = G.asked.few; deep = omega (arith, G.asked.deep); wf = G.asked.wf; at = (at_A false false, (at_A false true, (at_A true false, (at_A true true, tt)))); sound = G.asked.sound })
      (is_up G.asked G.go_on (store_of s) ∙ star_more s.fields (D - 1) x (store_of s) (ap (λ (k : ℕ). star_exit s.fields k x) (sym above) ∙ G.go_on)
      ∙ ap (λ (A : Quad). blocks (star s.fields (D - 1)) (sequence s.fields (D - 1)) (apply s.fields union (D - 1)) A (store_of s)) (sym G.A-is)
      ∙ blocks_parts (sequence s.fields (D - 1)) (apply s.fields union (D - 1)) (star s.fields (D - 1)) A (store_of s))

  pub ready_1 : Asked s.fields (D - 1) (store_of s) m (A true true ∷ [])
  ready_1 = asks turn_0 (A true true ∷ []) (at_A true true, tt)

  pub lost_1 : {f : Full} {τ : Table} {m' : List ℕ} → Answer s.fields seen (star s.fields (D - 1) (A true true)) (store_of s) m (Err f) τ m' → star s.fields D x (store_of s) ≡ refused 21
  lost_1 z = lost (λ N. star N (D - 1) (A true true)) b1 turn_0 z refl

  module _ {s1 : SPPstore} {m1 : List ℕ} {e : SPP} (p1 : SameStore s s1) (a1 : Answer s.fields seen (star s.fields (D - 1) (A true true)) (store_of s) m (Ok e) (store_of s1) m1) where
    turn_1 : Moment s s1 (D - 1) (star s.fields D x (store_of s)) (b1 e.0 (store_of s1)) m m1 (e.0 ∷ hs)
    turn_1 = past (λ N. star N (D - 1) (A true true)) b1 turn_0 (star_can s.fields (D - 1) turn_0.deep (A true true) (at_A true true) (store_of s) (ext_refl (store_of s)) G.asked.wf) p1 a1

    pub ready_2 : Asked s1.fields (D - 1) (store_of s1) m1 (A false false ∷ A false true ∷ A true false ∷ e.0 ∷ [])
    unfolding hs
    ready_2 = let a = turn_1.at in asks turn_1 (A false false ∷ A false true ∷ A true false ∷ e.0 ∷ []) (a.1.0, (a.1.1.0, (a.1.1.1.0, (a.0, tt))))

    pub lost_2 : {f : Full} {τ : Table} {m' : List ℕ} → Answer s1.fields seen_two (through (sequence s1.fields (D - 1)) (apply s1.fields union (D - 1)) A e.0) (store_of s1) m1 (Err f) τ m'
        → star s.fields D x (store_of s) ≡ refused 21
    unfolding b1
    lost_2 z = lost (λ N. through (sequence N (D - 1)) (apply N union (D - 1)) A e.0) (b2 e.0) turn_1 z refl

    module _ {s2 : SPPstore} {m2 : List ℕ} {be sum : SPP} (p2 : SameStore s1 s2)
        (a2 : Answer s1.fields seen_two (through (sequence s1.fields (D - 1)) (apply s1.fields union (D - 1)) A e.0) (store_of s1) m1 (Ok (be, sum)) (store_of s2) m2) where
      abbrev p : Pair
      p = record { first = be.0; second = sum.0 }

      at_1 : (i j : Bool) → ValidAt (store_of s1) (D - 1) (A i j)
      at_1 i j = at_ext turn_1.here.ext (D - 1) (A i j) (at_A i j)

      turn_2 : Moment s s2 (D - 1) (star s.fields D x (store_of s)) (b2 e.0 p (store_of s2)) m m2 (be.0 ∷ sum.0 ∷ e.0 ∷ hs)
      unfolding b1
      turn_2 = past_with (λ N. through (sequence N (D - 1)) (apply N union (D - 1)) A e.0) (b2 e.0) turn_1 (be.0 ∷ sum.0 ∷ [])
          (through_can s.fields (D - 1) turn_0.deep (store_of s1) A e.0 at_1 turn_1.at.0 turn_1.here.wf) (λ h. (h.0, (h.1, tt))) p2 a2 refl

      pub ready_3 : Asked s2.fields (D - 1) (store_of s2) m2 (sum.0 ∷ [])
      ready_3 = asks turn_2 (sum.0 ∷ []) (turn_2.at.1.0, tt)

      pub lost_3 : {f : Full} {τ : Table} {m' : List ℕ} → Answer s2.fields seen (star s2.fields (D - 1) sum.0) (store_of s2) m2 (Err f) τ m' → star s.fields D x (store_of s) ≡ refused 21
      unfolding b2
      lost_3 z = lost (λ N. star N (D - 1) sum.0) (b3 e.0 p) turn_2 z refl

      module _ {s3 : SPPstore} {m3 : List ℕ} {x00 : SPP} (p3 : SameStore s2 s3) (a3 : Answer s2.fields seen (star s2.fields (D - 1) sum.0) (store_of s2) m2 (Ok x00) (store_of s3) m3) where
        turn_3 : Moment s s3 (D - 1) (star s.fields D x (store_of s)) (b3 e.0 p x00.0 (store_of s3)) m m3 (x00.0 ∷ be.0 ∷ sum.0 ∷ e.0 ∷ hs)
        unfolding b2
        turn_3 = past (λ N. star N (D - 1) sum.0) (b3 e.0 p) turn_2 (star_can s.fields (D - 1) turn_0.deep sum.0 turn_2.at.1.0 (store_of s2) (ext_refl (store_of s2)) turn_2.here.wf) p3 a3

        pub ready_4 : NodeAsked s3.fields (D - 1) (store_of s3) m3 (A true false ∷ e.0 ∷ be.0 ∷ x00.0 ∷ [])
        unfolding hs
        ready_4 =
            let a = turn_3.at in
            record { asked = asks turn_3 (A true false ∷ e.0 ∷ be.0 ∷ x00.0 ∷ []) (a.1.1.1.1.1.1.0, (a.1.1.1.0, (a.1.0, (a.0, tt)))); low = omega (arith, lower, turn_3.same.fields) }

        pub lost_4 : {f : Full} {τ : Table} {m' : List ℕ} → Answer s3.fields seen (around (sequence s3.fields (D - 1)) (apply s3.fields union (D - 1)) (A true false) e.0 be.0 x00.0) (store_of s3) m3 (Err f) τ m'
            → star s.fields D x (store_of s) ≡ refused 21
        unfolding b3
        lost_4 z = turn_3.here.left ∙ lost_on (λ N. around (sequence N (D - 1)) (apply N union (D - 1)) (A true false) e.0 be.0 x00.0) turn_3.same z refl

        pub made : {τ : Table} {m4 : List ℕ} {h : SPP} → Answer s3.fields seen (around (sequence s3.fields (D - 1)) (apply s3.fields union (D - 1)) (A true false) e.0 be.0 x00.0) (store_of s3) m3 (Ok h) τ m4
            → Stage (spp_memo s.fields) (star s.fields D x (store_of s)) (given τ h.0) (store_of s) τ m m4
        unfolding b3 hs
        made z =
            let a = turn_3.at in
            stage.finish (spp_memo s.fields) (around (sequence s.fields (D - 1)) (apply s.fields union (D - 1)) (A true false) e.0 be.0 x00.0) turn_3.here
            (around_can s.fields (D - 1) turn_0.deep (store_of s3) (A true false) e.0 be.0 x00.0 a.1.1.1.1.1.1.0 a.1.1.1.0 a.1.0 a.0 lower turn_3.here.wf)
            (gave_on (λ N. around (sequence N (D - 1)) (apply N union (D - 1)) (A true false) e.0 be.0 x00.0) turn_3.same z refl)

  -- what was made may be noted
  pub noted : {h : ℕ} {τ : Table} {m4 m5 : List ℕ} → Stage (spp_memo s.fields) (star s.fields D x (store_of s)) (given τ h) (store_of s) τ m m4
      → WritesValid (Exactly 9 x x h) m4 m5 → WritesValid (OnlyCodes 3 9 (Kept s.fields τ)) m m5
  unfolding run
  noted {h} {τ} z k = stage.noted (spp_memo s.fields) z k (to_note (D - 1) (omega arith) (omega arith) (at_ext whole.ext (suc (D - 1)) x (at_x G.asked G.go_on)) (λ υ e w. sym (is_up G.asked G.go_on υ) ∙ whole.stable υ e w))
    where
      whole : StableResult (spp_theory s.fields) (star s.fields D x) (λ τ h. Denotes τ D h (closure (mem s.nodes.now D x))) (store_of s) τ h
      whole = given_of (star_exact s.fields D G.asked.deep (store_of s) x _ G.asked.wf (den_mem G.asked.at.0)).runs z.left

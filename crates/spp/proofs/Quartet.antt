-- Four calls of one operation on relations, one after the other: what each asks, and what they come to.
use mathlib.Core.Path.{◌≡◌, refl, ◌∙◌}
use mathlib.Core.List.{List, [], ◌∷◌}
use Prim.Native.Nat.{ℕ, ◌<◌}
use Rattle.common.specs.Outcome.{Outcome, refused, given, Step, after}
use Rattle.common.specs.Runs.{Table}
use Rattle.cache.proofs.Stage as stage
use Rattle.cache.proofs.Stage.{Gave, Stage}
use Rattle.spp_steps.specs.Model.{quad, mk}
use Rattle.spp_steps.specs.Wf.{ValidAt}
use Rattle.spp_steps.proofs.Laws.{at_ext}
use Rattle.spp.proofs.Reuse.{spp_memo}
use Rattle.spp.specs.Clauses.{store_of, seen, SameStore, Asked, Noted, Answer, Fits}
use Rattle.std.specs.Prelude.{Result, Ok, Err}
use Rattle.spp.specs.declared.SPP.{SPP}
use Rattle.spp.specs.declared.Full.{Full}
use Rattle.spp.specs.declared.SPPstore.{SPPstore}
use Rattle.spp.proofs.Calls.{gave, lost, gave_alone, same_trans, asked_for, gave_on, lost_on, fits, ats_ext, mk_can, quad_at}

-- On the store s, c is f of four pairs of handles, and then k. f is told how many fields there are.
pub record Quartet {A : Type 0} (s : SPPstore) (d : ℕ) (f : ℕ → ℕ → ℕ → Step Table ℕ) (k : ℕ → ℕ → ℕ → ℕ → Step Table A) (c : Outcome Table A) (m : List ℕ)
    (x1 y1 x2 y2 x3 y3 x4 y4 : ℕ) : Type 0 where
  pub can : (a b : ℕ) → ValidAt (store_of s) d a → ValidAt (store_of s) d b → stage.Can (spp_memo s.fields) (λ τ h. ValidAt τ d h) (store_of s) (f s.fields a b)
  pub asked : Asked s.fields d (store_of s) m (x1 ∷ y1 ∷ x2 ∷ y2 ∷ x3 ∷ y3 ∷ x4 ∷ y4 ∷ [])
  pub is : c ≡ after (f s.fields x1 y1 (store_of s)) (λ a σ1. after (f s.fields x2 y2 σ1) (λ b σ2. after (f s.fields x3 y3 σ2) (λ e σ3. after (f s.fields x4 y4 σ3) (λ h. k a b e h))))

module _ {A : Type 0} {s : SPPstore} {d : ℕ} {f : ℕ → ℕ → ℕ → Step Table ℕ} {k : ℕ → ℕ → ℕ → ℕ → Step Table A} {c : Outcome Table A} {m : List ℕ}
    {x1 y1 x2 y2 x3 y3 x4 y4 : ℕ} (Q : Quartet s d f k c m x1 y1 x2 y2 x3 y3 x4 y4) where
  calls : stage.Four (spp_memo s.fields) (λ τ h. ValidAt τ d h) c (store_of s) m
  calls =
      let at = Q.asked.at in
      record {
        f1 = f s.fields x1 y1;
        f2 = f s.fields x2 y2;
        f3 = f s.fields x3 y3;
        f4 = f s.fields x4 y4;
        k = k;
        can1 = Q.can x1 y1 at.0 at.1.0;
        can2 = Q.can x2 y2 at.1.1.0 at.1.1.1.0;
        can3 = Q.can x3 y3 at.1.1.1.1.0 at.1.1.1.1.1.0;
        can4 = Q.can x4 y4 at.1.1.1.1.1.1.0 at.1.1.1.1.1.1.1.0;
        P-ext = λ σ τ h e p. at_ext e d h p;
        start = stage.begin (spp_memo s.fields) Q.asked.wf Q.asked.sound Q.is;
      }

  -- two handles of s, where the run has come
  asked_at : (x y : ℕ) {rest : Outcome Table A} {t : SPPstore} {m' : List ℕ} → SameStore s t → Stage (spp_memo s.fields) c rest (store_of s) (store_of t) m m'
      → ValidAt (store_of s) d x → ValidAt (store_of s) d y → Asked t.fields d (store_of t) m' (x ∷ y ∷ [])
  asked_at x y same z p q =
      asked_for same.fields (record { few = Q.asked.few; deep = Q.asked.deep; wf = z.wf; at = ats_ext d (x ∷ y ∷ []) z.ext (p, (q, tt)); sound = z.sound })

  pub ready_1 : Asked s.fields d (store_of s) m (x1 ∷ y1 ∷ [])
  ready_1 = let at = Q.asked.at in record { few = Q.asked.few; deep = Q.asked.deep; wf = Q.asked.wf; at = (at.0, (at.1.0, tt)); sound = Q.asked.sound }

  pub lost_1 : {τ : Table} {m' : List ℕ} {e : Full} → Answer s.fields seen (f s.fields x1 y1) (store_of s) m (Err e) τ m' → c ≡ refused 21
  unfolding calls
  lost_1 z = stage.stuck_1 calls (lost z)

  module _ {s1 : SPPstore} {m1 : List ℕ} {h1 : SPP} (p1 : SameStore s s1) (a1 : Answer s.fields seen (f s.fields x1 y1) (store_of s) m (Ok h1) (store_of s1) m1) where
    g1 : Gave (spp_memo s.fields) (f s.fields x1 y1) (store_of s) m (store_of s1) m1 h1.0
    g1 = gave a1

    pub ready_2 : Asked s1.fields d (store_of s1) m1 (x2 ∷ y2 ∷ [])
    unfolding calls
    ready_2 = let at = Q.asked.at in asked_at x2 y2 p1 (stage.stage_1 calls g1) at.1.1.0 at.1.1.1.0

    pub lost_2 : {τ : Table} {m' : List ℕ} {e : Full} → Answer s1.fields seen (f s1.fields x2 y2) (store_of s1) m1 (Err e) τ m' → c ≡ refused 21
    unfolding calls
    lost_2 z = stage.stuck_2 calls g1 (lost_on (λ N. f N x2 y2) p1 z refl)

    module _ {s2 : SPPstore} {m2 : List ℕ} {h2 : SPP} (p2 : SameStore s1 s2) (a2 : Answer s1.fields seen (f s1.fields x2 y2) (store_of s1) m1 (Ok h2) (store_of s2) m2) where
      g2 : Gave (spp_memo s.fields) (f s.fields x2 y2) (store_of s1) m1 (store_of s2) m2 h2.0
      g2 = gave_on (λ N. f N x2 y2) p1 a2 refl

      pub ready_3 : Asked s2.fields d (store_of s2) m2 (x3 ∷ y3 ∷ [])
      unfolding calls
      ready_3 = let at = Q.asked.at in asked_at x3 y3 (same_trans p1 p2) (stage.stage_2 calls g1 g2) at.1.1.1.1.0 at.1.1.1.1.1.0

      pub lost_3 : {τ : Table} {m' : List ℕ} {e : Full} → Answer s2.fields seen (f s2.fields x3 y3) (store_of s2) m2 (Err e) τ m' → c ≡ refused 21
      unfolding calls
      lost_3 z = stage.stuck_3 calls g1 g2 (lost_on (λ N. f N x3 y3) (same_trans p1 p2) z refl)

      module _ {s3 : SPPstore} {m3 : List ℕ} {h3 : SPP} (p3 : SameStore s2 s3) (a3 : Answer s2.fields seen (f s2.fields x3 y3) (store_of s2) m2 (Ok h3) (store_of s3) m3) where
        g3 : Gave (spp_memo s.fields) (f s.fields x3 y3) (store_of s2) m2 (store_of s3) m3 h3.0
        g3 = gave_on (λ N. f N x3 y3) (same_trans p1 p2) a3 refl

        same_3 : SameStore s s3
        same_3 = same_trans (same_trans p1 p2) p3

        pub ready_4 : Asked s3.fields d (store_of s3) m3 (x4 ∷ y4 ∷ [])
        unfolding calls
        ready_4 = let at = Q.asked.at in asked_at x4 y4 same_3 (stage.stage_3 calls g1 g2 g3) at.1.1.1.1.1.1.0 at.1.1.1.1.1.1.1.0

        pub lost_4 : {τ : Table} {m' : List ℕ} {e : Full} → Answer s3.fields seen (f s3.fields x4 y4) (store_of s3) m3 (Err e) τ m' → c ≡ refused 21
        unfolding calls
        lost_4 z = stage.stuck_4 calls g1 g2 g3 (lost_on (λ N. f N x4 y4) same_3 z refl)

        module _ {s4 : SPPstore} {m4 : List ℕ} {h4 : SPP} (p4 : SameStore s3 s4) (a4 : Answer s3.fields seen (f s3.fields x4 y4) (store_of s3) m3 (Ok h4) (store_of s4) m4) where
          g4 : Gave (spp_memo s.fields) (f s.fields x4 y4) (store_of s3) m3 (store_of s4) m4 h4.0
          g4 = gave_on (λ N. f N x4 y4) same_3 a4 refl

          pub last : Stage (spp_memo s.fields) c (k h1.0 h2.0 h3.0 h4.0 (store_of s4)) (store_of s) (store_of s4) m m4
          unfolding calls
          last = stage.stage_4 calls g1 g2 g3 g4

          pub held : ValidAt (store_of s4) d h1.0 × ValidAt (store_of s4) d h2.0 × ValidAt (store_of s4) d h3.0 × ValidAt (store_of s4) d h4.0
          unfolding calls
          held = stage.held calls g1 g2 g3 g4

-- the same where a node is made of the four
module _ {s : SPPstore} {d : ℕ} {f : ℕ → ℕ → ℕ → Step Table ℕ} {c : Outcome Table ℕ} {m : List ℕ} {x1 y1 x2 y2 x3 y3 x4 y4 : ℕ}
    (Q : Quartet s d f (λ a b e h. mk (quad a b e h)) c m x1 y1 x2 y2 x3 y3 x4 y4)
    {s1 s2 s3 s4 : SPPstore} {m1 m2 m3 m4 : List ℕ} {h1 h2 h3 h4 : SPP}
    (p1 : SameStore s s1) (a1 : Answer s.fields seen (f s.fields x1 y1) (store_of s) m (Ok h1) (store_of s1) m1)
    (p2 : SameStore s1 s2) (a2 : Answer s1.fields seen (f s1.fields x2 y2) (store_of s1) m1 (Ok h2) (store_of s2) m2)
    (p3 : SameStore s2 s3) (a3 : Answer s2.fields seen (f s2.fields x3 y3) (store_of s2) m2 (Ok h3) (store_of s3) m3)
    (p4 : SameStore s3 s4) (a4 : Answer s3.fields seen (f s3.fields x4 y4) (store_of s3) m3 (Ok h4) (store_of s4) m4) where
  pub mk_ready : Fits s4.nodes.now s4.count
  mk_ready = fits (last Q p1 a1 p2 a2 p3 a3 p4 a4).wf

  pub made : {o : Outcome Table ℕ} → mk (quad h1.0 h2.0 h3.0 h4.0) (store_of s4) ≡ o → c ≡ o
  made q = (last Q p1 a1 p2 a2 p3 a3 p4 a4).left ∙ q

  pub node : d < s.fields → {τ : Table} {h : ℕ} → mk (quad h1.0 h2.0 h3.0 h4.0) (store_of s4) ≡ given τ h → Stage (spp_memo s.fields) c (given τ h) (store_of s) τ m m4
  node l q =
      let z = last Q p1 a1 p2 a2 p3 a3 p4 a4 in
      let p = held Q p1 a1 p2 a2 p3 a3 p4 a4 in
      stage.finish (spp_memo s.fields) (mk (quad h1.0 h2.0 h3.0 h4.0)) z
      (mk_can d (quad h1.0 h2.0 h3.0 h4.0) l z.wf (quad_at (store_of s4) d h1.0 h2.0 h3.0 h4.0 p.0 p.1 p.2 p.3)) (gave_alone q)

  -- the node is the answer
  pub ended : d < s.fields → (r : Result SPP Full) (τ : Table) → mk (quad h1.0 h2.0 h3.0 h4.0) (store_of s4) ≡ seen r τ → Noted s.fields m (seen r τ) m4
  ended l (Ok h) τ q = (node l q).notes
  ended l (Err e) τ q = tt

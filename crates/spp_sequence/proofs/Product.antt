-- One turn of `sequence`: an exit, a result from the cache, or two rows of products, their sums and a node.
use mathlib.Core.Path.{◌≡◌, refl, sym, ◌∙◌, ap, ap₂, subst}
use mathlib.Core.Bool.{Bool, true, false}
use mathlib.Core.List.{List, [], ◌∷◌}
use Prim.Native.Nat.{ℕ, suc, ◌+◌, ◌*◌, ◌-◌, ◌≤◌, ◌<◌}
use native.Mathlib.Omega.{arith}
use lib.ListN.{length}
use Rattle.common.specs.Outcome.{refused, given, Step, return, after}
use Rattle.common.proofs.Follow.{given_of}
use Rattle.common.specs.Runs.{Table, StableResult}
use Rattle.cache.specs.Cache.{OnlyCodes, WritesValid, Holds, Exactly}
use Rattle.cache.proofs.Stage as stage
use Rattle.cache.proofs.Stage.{Gave, Stage}
use Rattle.spp_steps.specs.Model.{union, more, Quad, quad, kids, mem, mk, apply, seq_exit, product, sequence}
use Rattle.spp_steps.specs.Relations.{compose}
use Rattle.spp_steps.specs.Wf.{ValidAt, Denotes}
use Rattle.spp_steps.proofs.Laws.{spp_theory, ext_refl, at_ext, den_mem}
use Rattle.spp_steps.proofs.Sequence.{sequence_exact}
use Rattle.spp.specs.Reuse.{Kept, run}
use Rattle.spp.proofs.Reuse.{spp_memo, reused, to_note}
use Rattle.std.specs.Prelude.{Ok, Err}
use Rattle.spp.specs.Clauses.{store_of, seen, quad_of, SameStore, Asked, Answer}
use Rattle.spp.specs.declared.SPP.{SPP}
use Rattle.spp.specs.declared.SPPnode.{SPPnode}
use Rattle.spp.specs.declared.SPPstore.{SPPstore}
use Rattle.spp.specs.declared.Full.{Full}
use Rattle.spp.proofs.Calls.{gave_on, lost_on, inside, at_kids, apply_can}
use Rattle.spp.proofs.Quartet.{Quartet}
use Rattle.spp_sequence.specs.Parts.{row, sums}
use Rattle.spp_sequence.proofs.Parts.{product_parts}
use Rattle.spp_sequence.specs.Clauses.{seen_row, NodeAsked}
use Rattle.spp_sequence.proofs.Moment.{Moment, start, asks, lost, past_with}
use Rattle.spp_sequence.proofs.Calls.{seq_above, sequence_more, sequence_can, row_can, sums_can}

-- the handles of a quadruple, in a list
abbrev pub list : Quad → List ℕ → List ℕ
list X hs = X false false ∷ X false true ∷ X true false ∷ X true true ∷ hs

pub of_list : (σ : Table) (d : ℕ) (X : Quad) → ValidAt σ d (X false false) → ValidAt σ d (X false true) → ValidAt σ d (X true false) → ValidAt σ d (X true true) → (i j : Bool) → ValidAt σ d (X i j)
of_list σ d X a b c e false false = a
of_list σ d X a b c e false true = b
of_list σ d X a b c e true false = c
of_list σ d X a b c e true true = e

-- ---- the parts

pub row_calls : (s : SPPstore) {d p0 p1 : ℕ} (B : Quad) {m : List ℕ} → Asked s.fields d (store_of s) m (p0 ∷ p1 ∷ list B [])
    → Quartet s d (λ N. sequence N d) (λ a b c e. return (quad a b c e)) (row (sequence s.fields d) p0 p1 B (store_of s)) m p0 (B false false) p1 (B true false) p0 (B false true) p1 (B true true)
unfolding row
row_calls s {d} B r =
    let a = r.at in
    record {
      can = sequence_can s.fields d r.deep;
      asked = record {
        few = r.few;
        deep = r.deep;
        wf = r.wf;
        at = (a.0, (a.1.1.0, (a.1.0, (a.1.1.1.1.0, (a.0, (a.1.1.1.0, (a.1.0, (a.1.1.1.1.1.0, tt))))))));
        sound = r.sound;
      };
      is = refl;
    }

pub sums_calls : (s : SPPstore) {d : ℕ} (R S : Quad) {m : List ℕ} → NodeAsked s.fields d (store_of s) m (list R (list S []))
    → Quartet s d (λ N. apply N union d) (λ a b c e. mk (quad a b c e)) (sums (apply s.fields union d) R S (store_of s)) m
    (R false false) (R false true) (R true false) (R true true) (S false false) (S false true) (S true false) (S true true)
unfolding sums
sums_calls s {d} R S r = record { can = apply_can s.fields d r.asked.deep union; asked = r.asked; is = refl }

-- ---- the turn

module _ {N D a b : ℕ} {σ : Table} {m : List ℕ} (r : Asked N D σ m (a ∷ b ∷ [])) (go_on : seq_exit N D a b ≡ more) where
  -- at depth 0 there is an exit
  pub up : D ≡ suc (D - 1)
  up = seq_above N D a b σ r.at.0 r.at.1.0 go_on

  at_a : ValidAt σ (suc (D - 1)) a
  at_a = subst (λ (k : ℕ). ValidAt σ k a) up r.at.0

  at_b : ValidAt σ (suc (D - 1)) b
  at_b = subst (λ (k : ℕ). ValidAt σ k b) up r.at.1.0

  pub in_a : (2 ≤ a) × (4 * a ≤ length σ.words + 4)
  in_a = inside (D - 1) a r.wf at_a

  pub in_b : (2 ≤ b) × (4 * b ≤ length σ.words + 4)
  in_b = inside (D - 1) b r.wf at_b

  is_up : (τ : Table) → sequence N D a b τ ≡ sequence N (suc (D - 1)) a b τ
  is_up τ = ap (λ (k : ℕ). sequence N k a b τ) up

  pub hit : {h : ℕ} → Holds m 8 a b h → sequence N D a b σ ≡ given σ h
  unfolding run
  hit found = is_up σ ∙ reused (D - 1) r.wf at_a (omega arith) (omega arith) r.sound found

-- no exit: it goes down, to the children A of a and B of b
pub record Down (s : SPPstore) (D a b : ℕ) (m : List ℕ) (A B : Quad) : Type 0 where
  asked : Asked s.fields D (store_of s) m (a ∷ b ∷ [])
  go_on : seq_exit s.fields D a b ≡ more
  A-is : A ≡ kids s.nodes.now a
  B-is : B ≡ kids s.nodes.now b

pub goes_down : (s : SPPstore) {D a b : ℕ} {m : List ℕ} {A B : Quad} → Asked s.fields D (store_of s) m (a ∷ b ∷ []) → seq_exit s.fields D a b ≡ more
    → A ≡ kids s.nodes.now a → B ≡ kids s.nodes.now b → Down s D a b m A B
goes_down s r e p q = record { asked = r; go_on = e; A-is = p; B-is = q }

module _ {s : SPPstore} {D a b : ℕ} {m : List ℕ} {A B : Quad} (G : Down s D a b m A B) where
  above : D ≡ suc (D - 1)
  above = up G.asked G.go_on

  -- in twice the depth, with the rows between
  pub falls : {t : ℕ} → 2 * D ≡ t → 2 * (D - 1) + 1 < t
  falls e = omega (arith, above)

  at_A : (i j : Bool) → ValidAt (store_of s) (D - 1) (A i j)
  at_A = at_kids (store_of s) (D - 1) a A G.A-is (at_a G.asked G.go_on)

  at_B : (i j : Bool) → ValidAt (store_of s) (D - 1) (B i j)
  at_B = at_kids (store_of s) (D - 1) b B G.B-is (at_b G.asked G.go_on)

  lower : D - 1 < s.fields
  lower = omega (arith, G.asked.deep, above)

  deep : D - 1 ≤ s.fields
  deep = omega (arith, lower)

  hs : List ℕ
  hs = list A (list B [])

  rest : Quad → Step Table ℕ
  rest R σ1 = after (row (sequence s.fields (D - 1)) (A true false) (A true true) B σ1) (λ S. sums (apply s.fields union (D - 1)) R S)

  turn_0 : Moment s s (D - 1) (sequence s.fields D a b (store_of s)) (after (row (sequence s.fields (D - 1)) (A false false) (A false true) B (store_of s)) rest) m m hs
  unfolding rest hs
  turn_0 = start s
      (record {
        few = G.asked.few;
        deep = deep;
        wf = G.asked.wf;
        at = (at_A false false, (at_A false true, (at_A true false, (at_A true true, (at_B false false, (at_B false true, (at_B true false, (at_B true true, tt))))))));
        sound = G.asked.sound;
      })
      (is_up G.asked G.go_on (store_of s) ∙ sequence_more s.fields (D - 1) a b (store_of s) (ap (λ (k : ℕ). seq_exit s.fields k a b) (sym above) ∙ G.go_on)
      ∙ ap₂ (λ (A B : Quad). product (sequence s.fields (D - 1)) (apply s.fields union (D - 1)) A B (store_of s)) (sym G.A-is) (sym G.B-is)
      ∙ product_parts (sequence s.fields (D - 1)) (apply s.fields union (D - 1)) A B (store_of s))

  pub ready_1 : Asked s.fields (D - 1) (store_of s) m (A false false ∷ A false true ∷ list B [])
  unfolding hs
  ready_1 = let a = turn_0.at in asks turn_0 (A false false ∷ A false true ∷ list B []) (a.0, (a.1.0, a.1.1.1.1))

  pub lost_1 : {f : Full} {τ : Table} {m' : List ℕ} → Answer s.fields seen_row (row (sequence s.fields (D - 1)) (A false false) (A false true) B) (store_of s) m (Err f) τ m' → sequence s.fields D a b (store_of s) ≡ refused 21
  lost_1 z = lost (λ N. row (sequence N (D - 1)) (A false false) (A false true) B) rest turn_0 z refl

  module _ {s1 : SPPstore} {m1 : List ℕ} {R : SPPnode} (p1 : SameStore s s1) (a1 : Answer s.fields seen_row (row (sequence s.fields (D - 1)) (A false false) (A false true) B) (store_of s) m (Ok R) (store_of s1) m1) where
    turn_1 : Moment s s1 (D - 1) (sequence s.fields D a b (store_of s)) (rest (quad_of R) (store_of s1)) m m1 (list (quad_of R) hs)
    turn_1 = past_with (λ N. row (sequence N (D - 1)) (A false false) (A false true) B) rest turn_0 (list (quad_of R) [])
        (row_can s.fields (D - 1) deep _ _ B (at_A false false) (at_A false true) at_B (store_of s) (ext_refl (store_of s)) G.asked.wf) (λ h. (h false false, (h false true, (h true false, (h true true, tt))))) p1 a1 refl

    pub ready_2 : Asked s1.fields (D - 1) (store_of s1) m1 (A true false ∷ A true true ∷ list B [])
    unfolding hs
    ready_2 = let a = turn_1.at in asks turn_1 (A true false ∷ A true true ∷ list B []) (a.1.1.1.1.1.1.0, (a.1.1.1.1.1.1.1.0, a.1.1.1.1.1.1.1.1))

    pub lost_2 : {f : Full} {τ : Table} {m' : List ℕ} → Answer s1.fields seen_row (row (sequence s1.fields (D - 1)) (A true false) (A true true) B) (store_of s1) m1 (Err f) τ m' → sequence s.fields D a b (store_of s) ≡ refused 21
    unfolding rest
    lost_2 z = lost (λ N. row (sequence N (D - 1)) (A true false) (A true true) B) (λ S. sums (apply s.fields union (D - 1)) (quad_of R) S) turn_1 z refl

    module _ {s2 : SPPstore} {m2 : List ℕ} {S : SPPnode} (p2 : SameStore s1 s2) (a2 : Answer s1.fields seen_row (row (sequence s1.fields (D - 1)) (A true false) (A true true) B) (store_of s1) m1 (Ok S) (store_of s2) m2) where
      at_1 : (X : Quad) → ((i j : Bool) → ValidAt (store_of s) (D - 1) (X i j)) → (i j : Bool) → ValidAt (store_of s1) (D - 1) (X i j)
      at_1 X x i j = at_ext turn_1.here.ext (D - 1) (X i j) (x i j)

      turn_2 : Moment s s2 (D - 1) (sequence s.fields D a b (store_of s)) (sums (apply s.fields union (D - 1)) (quad_of R) (quad_of S) (store_of s2)) m m2 (list (quad_of S) (list (quad_of R) hs))
      unfolding rest
      turn_2 = past_with (λ N. row (sequence N (D - 1)) (A true false) (A true true) B) (λ S. sums (apply s.fields union (D - 1)) (quad_of R) S) turn_1 (list (quad_of S) [])
          (row_can s.fields (D - 1) deep _ _ B (at_1 A at_A true false) (at_1 A at_A true true) (at_1 B at_B) (store_of s1) (ext_refl (store_of s1)) turn_1.here.wf)
          (λ h. (h false false, (h false true, (h true false, (h true true, tt))))) p2 a2 refl

      pub ready_3 : NodeAsked s2.fields (D - 1) (store_of s2) m2 (list (quad_of R) (list (quad_of S) []))
      ready_3 =
          let a = turn_2.at in
          record {
            asked = asks turn_2 (list (quad_of R) (list (quad_of S) []))
                (a.1.1.1.1.0, (a.1.1.1.1.1.0, (a.1.1.1.1.1.1.0, (a.1.1.1.1.1.1.1.0, (a.0, (a.1.0, (a.1.1.0, (a.1.1.1.0, tt))))))));
            low = omega (arith, lower, turn_2.same.fields);
          }

      pub lost_3 : {f : Full} {τ : Table} {m' : List ℕ} → Answer s2.fields seen (sums (apply s2.fields union (D - 1)) (quad_of R) (quad_of S)) (store_of s2) m2 (Err f) τ m' → sequence s.fields D a b (store_of s) ≡ refused 21
      lost_3 z = turn_2.here.left ∙ lost_on (λ N. sums (apply N union (D - 1)) (quad_of R) (quad_of S)) turn_2.same z refl

      pub made : {τ : Table} {m3 : List ℕ} {h : SPP} → Answer s2.fields seen (sums (apply s2.fields union (D - 1)) (quad_of R) (quad_of S)) (store_of s2) m2 (Ok h) τ m3
          → Stage (spp_memo s.fields) (sequence s.fields D a b (store_of s)) (given τ h.0) (store_of s) τ m m3
      made z =
          let a = turn_2.at in
          stage.finish (spp_memo s.fields) (sums (apply s.fields union (D - 1)) (quad_of R) (quad_of S)) turn_2.here
          (sums_can s.fields (D - 1) deep (quad_of R) (quad_of S)
          (of_list (store_of s2) (D - 1) (quad_of R) a.1.1.1.1.0 a.1.1.1.1.1.0 a.1.1.1.1.1.1.0 a.1.1.1.1.1.1.1.0)
          (of_list (store_of s2) (D - 1) (quad_of S) a.0 a.1.0 a.1.1.0 a.1.1.1.0) lower (store_of s2) (ext_refl (store_of s2)) turn_2.here.wf)
          (gave_on (λ N. sums (apply N union (D - 1)) (quad_of R) (quad_of S)) turn_2.same z refl)

  -- what was made may be noted
  pub noted : {h : ℕ} {τ : Table} {m4 m5 : List ℕ} → Stage (spp_memo s.fields) (sequence s.fields D a b (store_of s)) (given τ h) (store_of s) τ m m4
      → WritesValid (Exactly 8 a b h) m4 m5 → WritesValid (OnlyCodes 3 9 (Kept s.fields τ)) m m5
  unfolding run
  noted {h} {τ} z k = stage.noted (spp_memo s.fields) z k (to_note (D - 1) (omega arith) (omega arith) (at_ext whole.ext (suc (D - 1)) a (at_a G.asked G.go_on))
      (λ υ e w. sym (is_up G.asked G.go_on υ) ∙ whole.stable υ e w))
    where
      whole : StableResult (spp_theory s.fields) (sequence s.fields D a b) (λ τ h. Denotes τ D h (compose (mem s.nodes.now D a) (mem s.nodes.now D b))) (store_of s) τ h
      whole = given_of (sequence_exact s.fields D G.asked.deep (store_of s) a b _ _ G.asked.wf (den_mem G.asked.at.0) (den_mem G.asked.at.1.0)).runs z.left

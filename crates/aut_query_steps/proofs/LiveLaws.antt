-- 01, "Strings": live: the start packets of a state's strings. The law of `live_packets`: unless it is refused it gives a handle of the state's live set and keeps it in word 7, with those of all states
-- reached; the tables are in order again, and what was worked out is as it was. So the search says `yes` exactly if the live set is empty.
use Rattle.std.specs.Prelude.{if◌then◌else◌}
use mathlib.Core.Path.{◌≡◌, refl, sym, ◌∙◌, ap, subst}
use mathlib.Core.Logic.{◌↔◌, ◌≢◌, ◌⊎◌, inl, inr, ⊎_elim}
use mathlib.Core.Bool.{Bool, true, false}
use mathlib.Core.List.Memᴰ
use mathlib.Core.List.{List, [], ◌∷◌, Memᴰ}
use Prim.Native.Nat.{ℕ, ◌+◌, ◌*◌, ◌-◌, ◌≤◌, ◌<◌}
use native.Mathlib.Omega.{arith}
use lib.Dec.{T, eqb, ltb}
use lib.ListN.{length, get_or}
use borrow.Author.Tests.{eqb-true, eqb-false, ltb-true, ltb-false}
use Rattle.common.specs.Packets.{inhabited}
use Rattle.common.specs.Outcome.{given, Gives}
use Rattle.common.specs.Runs.{Table}
use Rattle.netkat.specs.Rules.{Language}
use Rattle.netkat.specs.Search.{Verdict, yes, spent}
use Rattle.netkat_steps.specs.ListSteps.{Edge}
use Rattle.sp_steps.specs.Model as Sp
use Rattle.sp_steps.specs.Wf as SpLaws
use Rattle.sp_steps.proofs.Laws as SpLawsProofs
use Rattle.spp_steps.proofs.Laws.{by_test}
use Rattle.spp_steps.proofs.Relations.{tests_equal}
use Rattle.aut_steps.specs.Tables.{Limits, Aut, put_states}
use Rattle.aut_steps.proofs.Languages.{≈-sym}
use Rattle.aut_steps.specs.Wf.{states, ExtAut, WfAut}
use Rattle.aut_steps.proofs.Wf.{grown_refl, grown_trans}
use Rattle.aut_steps.specs.Meaning.{Holds}
use Rattle.aut_steps.proofs.Meaning.{holds_grown}
use Rattle.aut_delta_steps.specs.Epsilon.{epsilon_of}
use Rattle.aut_delta_steps.specs.Delta.{start_of, count_of, Store, list_at}
use Rattle.aut_delta_steps.proofs.Noted.{written, written_other, written_here, written_count, written_grown, written_good}
use Rattle.aut_delta_steps.specs.Wf.{HasEpsilon, WfStore, SameWords}
use Rattle.aut_delta_steps.proofs.Wf.{has_epsilon_grown, epsilons_grown, extt_refl, same_list, worked_aut}
use Rattle.aut_query_steps.specs.Tables.{Tables, live_of, LiveSet, WfTables, ExtTables}
use Rattle.aut_query_steps.proofs.Tables.{is_live_same, live_same, live_there, Gone, later_refl, later_trans, gone_later}
use Rattle.aut_query_steps.specs.Search.{capacity}
use Rattle.aut_query_steps.proofs.Steps.{gone_trans, no_entry, stopped_here, Ends, halts, comes, ends_gives, ends_bind, ends_branch}
use Rattle.aut_query_steps.proofs.SearchLaws.{Searched}
use Rattle.aut_query_steps.specs.Live.{Found, keep_in, keep_lives, live_sets, live_anew, live_packets}
use Rattle.aut_query_steps.specs.Explored.{Linked}
use Rattle.aut_query_steps.proofs.ExploreLaws.{Exploring, explore_ends}
use Rattle.aut_query_steps.proofs.SettleLaws.{settled_ends}

-- two handles of one live set are one
pub live_one : {N : ℕ} {t : Table} {k l : ℕ} {A : Language N} → SpLaws.Wf N t → LiveSet N t k A → LiveSet N t l A → k ≡ l
live_one w a b =
    SpLawsProofs.den_same w a.den b.den (λ p. tests_equal (a.set p) (b.set p) (λ t. (b.is.live p).1 ((a.is.live p).0 t)) (λ t. (a.is.live p).1 ((b.is.live p).0 t)))

-- ---- words 7 are written

-- of the states xs, and nothing else
pub record Wrote (N : ℕ) (L : Limits) (xs : List ℕ) (live : ℕ → ℕ) (a c : Aut) : Type 0 where
  pub good : WfAut N L c
  pub grown : ExtAut a c
  pub count : states c ≡ states a
  pub words : (i w : ℕ) → w < 12 → w ≢ 7 → get_or c.states.words (12 * i + w) 0 ≡ get_or a.states.words (12 * i + w) 0
  pub each : (i : ℕ) → (Memᴰ i xs × (live_of c.states.words i ≡ live i + 1)) ⊎ ((Memᴰ i xs → ⊥) × (live_of c.states.words i ≡ live_of a.states.words i))

module _ {N : ℕ} {L : Limits} where
  pub wrote : (xs : List ℕ) (live : ℕ → ℕ) {a : Aut} → WfAut N L a → ((x : ℕ) → Memᴰ x xs → x < states a) → Wrote N L xs live a (put_states (keep_in xs live a.states) a)
  unfolding keep_in live_of
  wrote [] live {a} g k = record { good = g; grown = grown_refl a; count = refl; words = λ i w l n. refl; each = λ i. inr (λ m. Memᴰ.not-nil m, refl) }
  wrote (x ∷ xs) live {a} g k =
      let l : x < states a = k x (Memᴰ.head refl) in
      let v : ℕ = live x + 1 in
      let W = wrote xs live {a = written a x 7 v} (written_good a x 7 v l (omega arith) (omega arith) g) (λ y m. omega (arith, written_count a x 7 v, k y (Memᴰ.tail m))) in
      record {
        good = W.good;
        grown = grown_trans (written_grown a x 7 v l (omega arith) (omega arith)) W.grown;
        count = W.count ∙ written_count a x 7 v;
        words = λ i w m n. W.words i w m n ∙ written_other a x 7 v (12 * i + w) (λ q. n (omega arith));
        each = λ i. ⊎_elim
            (λ p. inl (Memᴰ.tail p.0, p.1))
            (λ p. by_test (eqb i x)
            (λ t. let q : i ≡ x = eqb-true i x t in
            inl (Memᴰ.head q, p.1 ∙ ap (λ (j : ℕ). get_or (written a x 7 v).states.words (12 * j + 7) 0) q ∙ written_here a x 7 v (omega (arith, g.fits)) ∙ ap (λ (j : ℕ). live j + 1) (sym q)))
            (λ t. inr (λ m. ⊎_elim (λ q. eqb-false i x t q) p.0 (Memᴰ.cases_cons m), p.1 ∙ written_other a x 7 v (12 * i + 7) (λ q. eqb-false i x t (omega arith)))))
            (W.each i);
      }

  module _ (υ : Tables) (xs : List ℕ) (live : ℕ → ℕ) (o : WfTables N L υ) (links : (s : ℕ) → Memᴰ s xs → Linked υ.base xs s)
      (lives : (s : ℕ) → Memᴰ s xs → LiveSet N υ.sets (live s) (Holds N υ.base.aut s))
    where
      abbrev ω : Tables
      ω = keep_lives xs live υ

      W : Wrote N L xs live υ.base.aut ω.base.aut
      W = wrote xs live o.worked.good (λ x m. (links x m).known)

      list_words : (i : ℕ) → SameWords υ.base ω.base i
      unfolding count_of start_of
      list_words i = (W.words i 6 (omega arith) (λ q. omega arith), W.words i 5 (omega arith) (λ q. omega arith))

      epsilon_word : (i : ℕ) → epsilon_of ω.base.aut.states.words i ≡ epsilon_of υ.base.aut.states.words i
      unfolding epsilon_of
      epsilon_word i = W.words i 4 (omega arith) (λ q. omega arith)

      list_read : (i : ℕ) → i < states υ.base.aut → 0 < count_of υ.base.aut.states.words i → list_at ω.base i ≡ list_at υ.base i
      list_read i l m = same_list ω.base o.worked.lists (extt_refl υ.base.transitions) i l m (list_words i)

      old_state : (i : ℕ) → i < states ω.base.aut → i < states υ.base.aut
      old_state i l = omega (arith, W.count)

      -- a state reached has its word 7
      has : (i : ℕ) → Memᴰ i xs → live_of ω.base.aut.states.words i ≡ live i + 1
      has i m = ⊎_elim (λ p. p.1) (λ p. absurd (p.0 m)) (W.each i)

      worked_again : WfStore N L ω.base
      worked_again = worked_aut o.worked W.grown W.good (epsilons_grown o.worked.good W.grown (λ x l. epsilon_word x) o.worked.epsilons) (λ x w l m. W.words x w (omega arith) (λ q. omega arith))

      pub kept_ordered : WfTables N L ω
      kept_ordered = record {
        sets = o.sets;
        worked = worked_again;
        lives = record {
          kept = λ x l v e. let m = old_state x l in
              live_same (≈-sym (holds_grown o.worked.good W.grown m)) (⊎_elim
              (λ p. subst (λ (h : ℕ). LiveSet N υ.sets h (Holds N υ.base.aut x)) {x = live x} {y = v} (omega (arith, p.1)) (lives x p.0))
              (λ p. o.lives.kept x m v (sym p.1 ∙ e))
              (W.each x));
          listed = λ x l p. omega (arith, (list_words x).0, marked x (old_state x l) p (W.each x));
          has_epsilon = λ x l p. has_epsilon_grown W.grown (old_state x l) (λ q. epsilon_word x) (epsiloned x (old_state x l) p (W.each x));
          onward = λ x l p e m. let k = old_state x l in
              let c = marked x k p (W.each x) in
              target x k p e (subst (Memᴰ e) (list_read x k c) m) (W.each x);
        };
      }
        where
          Each : ℕ → Type 0
          Each x = (Memᴰ x xs × (live_of ω.base.aut.states.words x ≡ live x + 1)) ⊎ ((Memᴰ x xs → ⊥) × (live_of ω.base.aut.states.words x ≡ live_of υ.base.aut.states.words x))

          marked : (x : ℕ) → x < states υ.base.aut → 0 < live_of ω.base.aut.states.words x → Each x → 0 < count_of υ.base.aut.states.words x
          marked x l p (inl (m, q)) = (links x m).marked
          marked x l p (inr (n, q)) = o.lives.listed x l (omega (arith, q))

          epsiloned : (x : ℕ) → x < states υ.base.aut → 0 < live_of ω.base.aut.states.words x → Each x → HasEpsilon υ.base.aut x
          epsiloned x l p (inl (m, q)) = (links x m).has_epsilon
          epsiloned x l p (inr (n, q)) = o.lives.has_epsilon x l (omega (arith, q))

          has_live : (y : ℕ) → 0 < live_of υ.base.aut.states.words y → Each y → 0 < live_of ω.base.aut.states.words y
          has_live y p (inl (m, q)) = omega (arith, q)
          has_live y p (inr (n, q)) = omega (arith, q)

          target : (x : ℕ) → x < states υ.base.aut → 0 < live_of ω.base.aut.states.words x → (e : Edge) → Memᴰ e (list_at υ.base x) → Each x → 0 < live_of ω.base.aut.states.words e.target
          target x l p e m (inl (k, q)) = omega (arith, has e.target ((links x k).leads e m))
          target x l p e m (inr (n, q)) = has_live e.target (o.lives.onward x l (omega (arith, q)) e m) (W.each e.target)

      pub kept_later : ExtTables υ ω
      kept_later = record {
        sets = SpLawsProofs.ext_refl υ.sets;
        grown = W.grown;
        epsilons = λ i l. epsilon_word i;
        lists = λ i l. list_words i;
        lives = λ i l. ⊎_elim
            (λ p. let m = live_there o.worked.good i l in
            omega (arith, p.1, live_one o.sets (lives i p.0) (o.lives.kept i m (live_of υ.base.aut.states.words i - 1) (omega arith))))
            (λ p. p.1)
            (W.each i);
        others = λ i w l m. W.words i w m (λ q. omega arith);
        transitions = extt_refl υ.base.transitions;
      }

      pub kept_here : (i : ℕ) → Memᴰ i xs → (live_of ω.base.aut.states.words i ≡ live i + 1) × LiveSet N ω.sets (live i) (Holds N ω.base.aut i)
      kept_here i m = (has i m, live_same (≈-sym (holds_grown o.worked.good W.grown (links i m).known)) (lives i m))

-- ---- live_packets

-- The live set of x is given and kept; the tables are in order.
pub record Lived (N : ℕ) (L : Limits) (x : ℕ) (σ τ : Tables) (l : ℕ) : Type 0 where
  pub later : ExtTables σ τ
  pub ordered : WfTables N L τ
  pub kept : live_of τ.base.aut.states.words x ≡ l + 1
  pub set : LiveSet N τ.sets l (Holds N τ.base.aut x)

-- The states reached from x, each with its list stored and its live set; the tables are in order.
pub record Reached (N : ℕ) (L : Limits) (room x : ℕ) (σ τ : Tables) (f : Found) : Type 0 where
  pub gone : Gone σ τ
  pub ordered : WfTables N L τ
  pub has : Memᴰ x f.states
  pub links : (s : ℕ) → Memᴰ s f.states → Linked τ.base f.states s
  pub lives : (s : ℕ) → Memᴰ s f.states → LiveSet N τ.sets (f.live s) (Holds N τ.base.aut s)
  pub fits : length f.states ≤ room

module _ {N : ℕ} {L : Limits} (lent : ℕ) {σ : Tables} (o : WfTables N L σ) {x : ℕ} (k : x < states σ.base.aut) where
  pub begins : 0 < capacity lent → Exploring N L (capacity lent) σ [] (x ∷ []) (λ t. Sp.zero_at N)
  begins room = record {
    ordered = o;
    links = λ s m. absurd (Memᴰ.not-nil m);
    sets = λ s m. absurd (Memᴰ.not-nil m);
    known = λ s m. ⊎_elim (λ q. subst (λ (s : ℕ). s < states σ.base.aut) (sym q) k) (λ n. absurd (Memᴰ.not-nil n)) (Memᴰ.cases_cons m);
    some = λ t. SpLawsProofs.zero_at_lem o.sets N (omega arith);
    fits = omega arith;
  }

  -- the sets worked out as with none stored
  pub sets_ends : Ends N L lent (Reached N L (capacity lent) x σ) σ (live_sets N L lent x σ)
  unfolding live_sets
  sets_ends =
      ends_branch (ltb 0 (capacity lent)) _ _ σ
      (λ room.
      ends_bind (explore_ends lent (capacity lent) [] (x ∷ []) (λ t. Sp.zero_at N) (begins (ltb-true 0 (capacity lent) room)) (omega arith)) (λ τ f X. (
        X.gone,
        ends_bind (settled_ends τ.base X.ordered.worked f.states X.links lent τ f.live refl X.ordered X.some X.sets) (λ υ live S. (
          S.gone,
          comes (record {
            gone = gone_trans X.gone S.gone;
            ordered = S.ordered;
            has = X.has x (Memᴰ.head refl);
            links = λ s m. subst (λ (b : Store). Linked b f.states s) (sym S.base) (X.links s m);
            lives = λ s m. subst (λ (b : Store). LiveSet N υ.sets (live s) (Holds N b.aut s)) (sym S.base) (S.lives s m);
            fits = X.fits;
          }),
        )),
      )))
      (λ full. halts (stopped_here o (no_entry [] (λ s m. absurd (Memᴰ.not-nil m)) (ltb-false 0 (capacity lent) full))))

  pub anew_ends : Ends N L lent (Lived N L x σ) σ (live_anew N L lent x σ)
  unfolding live_anew
  anew_ends =
      ends_bind sets_ends (λ τ f R. (
        R.gone,
        let here = kept_here τ f.states f.live R.ordered R.links R.lives x R.has in
            comes (record {
              later = later_trans (gone_later R.gone) (kept_later τ f.states f.live R.ordered R.links R.lives);
              ordered = kept_ordered τ f.states f.live R.ordered R.links R.lives;
              kept = here.0;
              set = here.1;
            }),
      ))

  -- unless it is refused, with its reason
  pub live_ends : Ends N L lent (Lived N L x σ) σ (live_packets N L lent x σ)
  unfolding live_packets
  live_ends = go (ltb 0 v) refl
    where
      v : ℕ
      v = live_of σ.base.aut.states.words x

      go : (b : Bool) → ltb 0 v ≡ b → Ends N L lent (Lived N L x σ) σ (if b then given σ (v - 1) else live_anew N L lent x σ)
      go true q =
          let e : v ≡ v - 1 + 1 = omega (arith, ltb-true 0 v q) in
          comes (record { later = later_refl σ; ordered = o; kept = e; set = o.lives.kept x k (v - 1) e })
      go false q = anew_ends

  pub live_goes : Gives (Lived N L x σ) (live_packets N L lent x σ)
  live_goes = ends_gives live_ends

-- ---- search and live set answer alike

-- Of one state, the search from σ and the live set that was given in υ, before or after: `yes` exactly if the live set is empty.
module _ {N : ℕ} {L : Limits} {lent budget s : ℕ} {σ τ : Tables} {r : Verdict × ℕ} (q : Searched N L lent budget s σ τ r) {υ₀ υ : Tables} {l : ℕ} (v : Lived N L s υ₀ υ l) (u : ¬ (r.0 ≡ spent)) where
  pub live_before : s < states υ.base.aut → ExtTables υ σ → (r.0 ≡ yes) ↔ (¬ T (inhabited v.set.set))
  live_before k f = q.demanded.live_alike v.set.set (is_live_same (≈-sym (holds_grown v.ordered.worked.good f.grown k)) v.set.is) u

  pub live_after : WfTables N L σ → s < states σ.base.aut → ExtTables σ υ → (r.0 ≡ yes) ↔ (¬ T (inhabited v.set.set))
  live_after o k f = q.demanded.live_alike v.set.set (is_live_same (holds_grown o.worked.good f.grown k) v.set.is) u

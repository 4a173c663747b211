-- All tables of a query in two runs: relation nodes, members and states by words 0 to 3 are the same; packet nodes may differ, unless they go in step (specs/Mode). A packet set has a handle in each. What the queries' steps come to: on packet
-- nodes 20 may be met in the second run alone; epsilon and delta go as in Epsilon and Delta.
use mathlib.Core.Path.{◌≡◌, refl, sym, ◌∙◌, ap, subst}
use mathlib.Core.Logic.{◌⊎◌, inl, inr}
use mathlib.Core.Bool.{true, false}
use mathlib.Core.List.{List}
use Prim.Native.Nat.{ℕ, ◌<◌}
use native.Mathlib.Omega.{arith}
use lib.Dec.{eqb}
use borrow.Author.Tests.{eqb-true, eqb-false, eq-eqb, ne_eqb}
use Rattle.common.specs.Packets.{Set, Relation, image}
use Rattle.common.specs.Outcome.{Outcome, refused, given, Step, Gives, refusal, gives}
use Rattle.common.specs.Runs as Runs
use Rattle.common.specs.Runs.{Table, placed}
use Rattle.common.proofs.Runs.{StableSpec}
use Rattle.netkat_steps.specs.ListSteps.{Edge, IsList}
use Rattle.sp_steps.specs.Model as Sp
use Rattle.sp_steps.specs.Wf as SpLaws
use Rattle.sp_steps.proofs.Laws as SpLawsProofs
use Rattle.sp_steps.proofs.Apply as SpApply
use Rattle.sp_steps.proofs.Sets as SpSets
use Rattle.sp_steps.proofs.Refused as SpRefused
use Rattle.spp_steps.specs.Wf.{Denotes}
use Rattle.spp_steps.proofs.Laws.{by_test, den_ext}
use Rattle.spp_steps.proofs.Relations.{domain, leads}
use Rattle.spp_steps.proofs.Exact.{Exact, Stops, stuck}
use Rattle.spp_steps.specs.ImageModel as Images
use Rattle.spp_steps.specs.ImageModel.{Stores, stores}
use Rattle.spp_steps.proofs.Images.{both_theory, set_limits, push_exact, pull_exact, bwd_exact}
use Rattle.spp_steps.proofs.HasImage.{has_image_is}
use Rattle.aut_steps.specs.Tables.{Limits, Aut}
use Rattle.aut_steps.specs.Wf.{states}
use Rattle.aut_steps.specs.Meaning.{Holds}
use Rattle.aut_delta_steps.specs.Epsilon.{epsilon}
use Rattle.aut_delta_steps.specs.Delta.{Store, put_aut, on_aut, delta}
use Rattle.aut_delta_steps.specs.Fits.{tables as readings}
use Rattle.aut_delta_steps.specs.Wf.{Means, SameWords, Stored}
use Rattle.aut_delta_steps.specs.EpsilonSpec.{Epsiloned}
use Rattle.aut_delta_steps.specs.Extends.{ExtStore}
use Rattle.aut_delta_steps.proofs.Extends.{same_noted}
use Rattle.aut_delta_steps.proofs.DeltaReads.{entered, entered_went, entered_worked, entered_value}
use Rattle.aut_query_steps.specs.Tables.{Tables, diagrams, put_sets, put_base, on_sets, on_base, making_sets, live_of, WfTables}
use Rattle.aut_query_steps.proofs.Tables.{both_wf, Gone, live_word}
use Rattle.aut_query_steps.proofs.Steps.{gone_refl, gone_trans, gone_sets, gone_base, ordered_sets, ordered_base}
use Rattle.aut_query_steps.proofs.SearchLaws.{zero_is}
use Rattle.aut_replay.specs.Replay.{HasEpsilon}
use Rattle.aut_replay.proofs.Epsilon.{has_valued}
use Rattle.aut_replay.proofs.Delta.{delta_again}
use Rattle.image_continued.specs.Follow.{Follows, stops, lacks, comes, Never}
use Rattle.image_continued.specs.Mode.{Mode, apart, beside, whole, InStep, Whole, Allowed, no_node}
use Rattle.image_continued.proofs.Records.{state_same}
use Rattle.image_continued.proofs.Follow.{follows_map, follows_with, follows_as, follows_never, follows_placed}
use Rattle.image_continued.proofs.Epsilon.{Knows, epsilon_follows}
use Rattle.image_continued.proofs.Delta.{Sound, TwinStores, wider_refl, epsilons_of, delta_follows}

-- ---- packet nodes in step, or not

pub in-step? : (mode : Mode) → InStep mode ⊎ (InStep mode → ⊥)
in-step? apart = inr (λ e. e)
in-step? beside = inl tt
in-step? whole = inl tt

pub whole_steps : (mode : Mode) → Whole mode → InStep mode
whole_steps apart w = w
whole_steps beside w = tt
whole_steps whole w = tt

-- ---- the two tables

pub record TwinTables (N : ℕ) (L : Limits) (mode : Mode) (σ τ : Tables) : Type 0 where
  pub base : TwinStores N L σ.base τ.base
  pub left : WfTables N L σ
  pub right : WfTables N L τ
  pub lives : (x : ℕ) → 0 < live_of τ.base.aut.states.words x → 0 < live_of σ.base.aut.states.words x
  pub sets : InStep mode → σ.sets ≡ τ.sets
  pub words : InStep mode → (x : ℕ) → 0 < live_of τ.base.aut.states.words x → live_of σ.base.aut.states.words x ≡ live_of τ.base.aut.states.words x
  pub all : Whole mode → (x : ℕ) → 0 < live_of σ.base.aut.states.words x → 0 < live_of τ.base.aut.states.words x

-- they have come so far from σ and τ, with words 7 as they were
pub record OnTables (N : ℕ) (L : Limits) (mode : Mode) (σ τ σ' τ' : Tables) : Type 0 where
  pub twins : TwinTables N L mode σ' τ'
  pub left : Gone σ σ'
  pub right : Gone τ τ'

-- h in the first and h' in the second are one set
pub record Is (N : ℕ) (mode : Mode) (σ τ : Tables) (h h' : ℕ) : Type 0 where
  pub set : Set N
  pub left : SpLaws.Denotes σ.sets N h set
  pub right : SpLaws.Denotes τ.sets N h' set
  pub one : InStep mode → h ≡ h'

pub on_refl : {N : ℕ} {L : Limits} {mode : Mode} {σ τ : Tables} → TwinTables N L mode σ τ → OnTables N L mode σ τ σ τ
on_refl {σ = σ} {τ = τ} t = record { twins = t; left = gone_refl σ; right = gone_refl τ }

pub on_trans : {N : ℕ} {L : Limits} {mode : Mode} {σ τ σ' τ' σ'' τ'' : Tables} → OnTables N L mode σ τ σ' τ' → OnTables N L mode σ' τ' σ'' τ'' → OnTables N L mode σ τ σ'' τ''
on_trans p q = record { twins = q.twins; left = gone_trans p.left q.left; right = gone_trans p.right q.right }

module _ {N : ℕ} {L : Limits} {mode : Mode} {σ τ : Tables} where
  pub is_on : {σ' τ' : Tables} {h h' : ℕ} → OnTables N L mode σ τ σ' τ' → Is N mode σ τ h h' → Is N mode σ' τ' h h'
  is_on o i = record { set = i.set; left = SpLawsProofs.den_ext o.left.sets i.left; right = SpLawsProofs.den_ext o.right.sets i.right; one = i.one }

  module _ (t : TwinTables N L mode σ τ) where
    pub is_zero_set : Is N mode σ τ (Sp.zero_at N) (Sp.zero_at N)
    is_zero_set = record { set = λ p. false; left = SpLawsProofs.den_zero t.left.sets N (omega arith); right = SpLawsProofs.den_zero t.right.sets N (omega arith); one = λ e. refl }

    pub is_all : Is N mode σ τ (Sp.one_at N) (Sp.one_at N)
    is_all = record { set = λ p. true; left = SpLawsProofs.den_one t.left.sets N (omega arith); right = SpLawsProofs.den_one t.right.sets N (omega arith); one = λ e. refl }

    -- tests on them are the same
    pub same_zero : {h h' : ℕ} → Is N mode σ τ h h' → Sp.is_zero N h ≡ Sp.is_zero N h'
    same_zero i = zero_is t.left.sets i.left ∙ sym (zero_is t.right.sets i.right)

    pub same_test : {g g' h h' : ℕ} → Is N mode σ τ g g' → Is N mode σ τ h h' → eqb g h ≡ eqb g' h'
    same_test {g} {g'} {h} {h'} i j = by_test (eqb g h)
        (λ e. e ∙ sym (eq-eqb g' h' (SpLawsProofs.den_same t.right.sets i.right j.right (SpApply.agree i.left j.left (eqb-true g h e)))))
        (λ e. e ∙ sym (ne_eqb g' h' (λ q. eqb-false g h e (SpLawsProofs.den_same t.left.sets i.left j.left (SpApply.agree i.right j.right q)))))

    -- a label is one relation in both
    pub label_right : {l : ℕ} {R : Relation N} → Denotes σ.base.aut.nodes N l R → Denotes τ.base.aut.nodes N l R
    label_right {l} {R} d = subst (λ (u : Table). Denotes u N l R) t.base.less.knows.same.nodes d

    pub same_image : {h h' l : ℕ} {R : Relation N} → Is N mode σ τ h h' → Denotes σ.base.aut.nodes N l R → Images.has_image N N h l (diagrams σ) ≡ Images.has_image N N h' l (diagrams τ)
    same_image i d =
        has_image_is N N (omega arith) (diagrams σ) _ _ _ _ (both_wf t.left) i.left d ∙ sym (has_image_is N N (omega arith) (diagrams τ) _ _ _ _ (both_wf t.right) i.right (label_right d))

    -- ---- steps that make packet nodes

    put_both : {u v : Table} → SpLaws.Ext σ.sets u → SpLaws.Wf N u → SpLaws.Ext τ.sets v → SpLaws.Wf N v → (InStep mode → u ≡ v) → OnTables N L mode σ τ (put_sets u σ) (put_sets v τ)
    put_both e w e' w' f = record {
      twins = record { base = t.base; left = ordered_sets t.left e w; right = ordered_sets t.right e' w'; lives = t.lives; sets = f; words = t.words; all = t.all };
      left = gone_sets e;
      right = gone_sets e';
    }

-- a set was made in both
pub record SetStep (N : ℕ) (L : Limits) (mode : Mode) (σ τ σ' τ' : Tables) (h h' : ℕ) : Type 0 where
  pub onward : OnTables N L mode σ τ σ' τ'
  pub is : Is N mode σ' τ' h h'
  pub base_left : σ'.base ≡ σ.base
  pub base_right : τ'.base ≡ τ.base

-- from t, the packet nodes are u, and h is a handle of X
record Made (N : ℕ) (X : Set N) (t u : Table) (h : ℕ) : Type 0 where
  ext : SpLaws.Ext t u
  wf : SpLaws.Wf N u
  den : SpLaws.Denotes u N h X

module _ {N : ℕ} {L : Limits} {mode : Mode} {σ τ : Tables} (t : TwinTables N L mode σ τ) where
  -- one step in both, of which the packet nodes are `get`
  made_follow : {S : Type 0} (get : S → Table) {X : Set N} (o o' : Outcome S ℕ) → Gives (λ s h. Made N X σ.sets (get s) h) o → Gives (λ s h. Made N X τ.sets (get s) h) o'
      → ((number : ℕ) → o' ≡ refused number → number ≡ 20) → (InStep mode → o ≡ o') → Follows (Allowed mode) (SetStep N L mode σ τ) (placed (λ s σ. put_sets (get s) σ) σ o) (placed (λ s σ. put_sets (get s) σ) τ o')
  made_follow {S} get {X} o o' g g' twenty same = go (in-step? mode)
    where
      both : {u v : Table} {h h' : ℕ} → Made N X σ.sets u h → Made N X τ.sets v h' → (InStep mode → u ≡ v) → (InStep mode → h ≡ h') → SetStep N L mode σ τ (put_sets u σ) (put_sets v τ) h h'
      both m m' e f = record { onward = put_both t m.ext m.wf m'.ext m'.wf e; is = record { set = X; left = m.den; right = m'.den; one = f }; base_left = refl; base_right = refl }

      equal : (o : Outcome S ℕ) → Gives (λ s h. Made N X σ.sets (get s) h) o → Gives (λ s h. Made N X τ.sets (get s) h) o
          → Follows (Allowed mode) (SetStep N L mode σ τ) (placed (λ s σ. put_sets (get s) σ) σ o) (placed (λ s σ. put_sets (get s) σ) τ o)
      equal (refused number) g g' = stops
      equal (given s h) (gives m) (gives m') = comes (both m m' (λ e. refl) (λ e. refl))

      loose : (InStep mode → ⊥) → (o o' : Outcome S ℕ) → Gives (λ s h. Made N X σ.sets (get s) h) o → Gives (λ s h. Made N X τ.sets (get s) h) o' → ((number : ℕ) → o' ≡ refused number → number ≡ 20)
          → Follows (Allowed mode) (SetStep N L mode σ τ) (placed (λ s σ. put_sets (get s) σ) σ o) (placed (λ s σ. put_sets (get s) σ) τ o')
      loose q (refused number) o' g g' f = stops
      loose q (given s h) (refused number) g g' f = subst (λ (k : ℕ). Follows (Allowed mode) (SetStep N L mode σ τ) (given (put_sets (get s) σ) h) (refused k)) (sym (f number refl)) (lacks (no_node q))
      loose q (given s h) (given s' h') (gives m) (gives m') f = comes (both m m' (λ e. absurd (q e)) (λ e. absurd (q e)))

      go : InStep mode ⊎ (InStep mode → ⊥) → Follows (Allowed mode) (SetStep N L mode σ τ) (placed (λ s σ. put_sets (get s) σ) σ o) (placed (λ s σ. put_sets (get s) σ) τ o')
      go (inl e) = follows_as refl (ap (placed (λ s σ. put_sets (get s) σ) τ) (sym (same e))) (equal o g (subst (Gives (λ s h. Made N X τ.sets (get s) h)) (sym (same e)) g'))
      go (inr e) = loose e o o' g g' twenty

  sets_follow : {X : Set N} (c c' : Step Table ℕ) → StableSpec (SpLawsProofs.sp_theory N) c (λ u h. SpLaws.Denotes u N h X) σ.sets → StableSpec (SpLawsProofs.sp_theory N) c' (λ u h. SpLaws.Denotes u N h X) τ.sets
      → SpRefused.Stops N τ.sets (c' τ.sets) → (InStep mode → c σ.sets ≡ c' τ.sets) → Follows (Allowed mode) (SetStep N L mode σ τ) (on_sets c σ) (on_sets c' τ)
  sets_follow {X} c c' g g' z e = made_follow (λ u. u) {X = X} (c σ.sets) (c' τ.sets) (made g) (made g') (λ number q. (SpRefused.stops_number z number q).0) e
    where
      made : {d : Step Table ℕ} {u : Table} {o : Outcome Table ℕ} → Gives (Runs.StableResult (SpLawsProofs.sp_theory N) d (λ u h. SpLaws.Denotes u N h X) u) o → Gives (λ v h. Made N X u v h) o
      made refusal = refusal
      made (gives r) = gives (record { ext = r.ext; wf = r.wf; den = r.holds })

  images_follow : (X : Set N) (c c' : Step Stores ℕ) → Exact (set_limits N) c (λ s h. SpLaws.Denotes s.sp N h X) (diagrams σ) → Exact (set_limits N) c' (λ s h. SpLaws.Denotes s.sp N h X) (diagrams τ)
      → (InStep mode → c (diagrams σ) ≡ c' (diagrams τ)) → Follows (Allowed mode) (SetStep N L mode σ τ) (making_sets c σ) (making_sets c' τ)
  images_follow X c c' x x' e =
      made_follow (λ s. s.sp) {X = X} (c (diagrams σ)) (c' (diagrams τ)) (made x.runs) (made x'.runs) (λ number q. number_of (subst (Stops (set_limits N) (diagrams τ)) q x'.stops)) e
    where
      made : {d : Step Stores ℕ} {u : Stores} {o : Outcome Stores ℕ} → Gives (Runs.StableResult (both_theory N) d (λ s h. SpLaws.Denotes s.sp N h X) u) o → Gives (λ v h. Made N X u.sp v.sp h) o
      made refusal = refusal
      made (gives r) = gives (record { ext = r.ext.sp_ext; wf = r.wf.sp_wf; den = r.holds })

      number_of : {u : Stores} {number : ℕ} → Stops (set_limits N) {A = ℕ} u (refused number) → number ≡ 20
      number_of (stuck a b y) = y.number_is

  same_diagrams : InStep mode → diagrams σ ≡ diagrams τ
  same_diagrams e = λ d. stores (t.sets e d) (t.base.less.knows.same.nodes d)

  pub union_follow : {g g' h h' : ℕ} → Is N mode σ τ g g' → Is N mode σ τ h h' → Follows (Allowed mode) (SetStep N L mode σ τ) (on_sets (Sp.union N g h) σ) (on_sets (Sp.union N g' h') τ)
  union_follow {g} {g'} {h} {h'} i j = sets_follow (Sp.union N g h) (Sp.union N g' h')
      (SpSets.union_runs N N (omega arith) σ.sets g h _ _ t.left.sets i.left j.left) (SpSets.union_runs N N (omega arith) τ.sets g' h' _ _ t.right.sets i.right j.right)
      (SpRefused.union_stops N N (omega arith) τ.sets g' h' _ _ t.right.sets i.right j.right) (λ e d. Sp.union N (i.one e d) (j.one e d) (t.sets e d))

  pub difference_follow : {g g' h h' : ℕ} → Is N mode σ τ g g' → Is N mode σ τ h h' → Follows (Allowed mode) (SetStep N L mode σ τ) (on_sets (Sp.difference N g h) σ) (on_sets (Sp.difference N g' h') τ)
  difference_follow {g} {g'} {h} {h'} i j = sets_follow (Sp.difference N g h) (Sp.difference N g' h')
      (SpSets.difference_runs N N (omega arith) σ.sets g h _ _ t.left.sets i.left j.left) (SpSets.difference_runs N N (omega arith) τ.sets g' h' _ _ t.right.sets i.right j.right)
      (SpRefused.difference_stops N N (omega arith) τ.sets g' h' _ _ t.right.sets i.right j.right) (λ e d. Sp.difference N (i.one e d) (j.one e d) (t.sets e d))

  pub push_follow : {h h' l : ℕ} {R : Relation N} → Is N mode σ τ h h' → Denotes σ.base.aut.nodes N l R
      → Follows (Allowed mode) (SetStep N L mode σ τ) (making_sets (Images.push N N h l) σ) (making_sets (Images.push N N h' l) τ)
  push_follow {h} {h'} {l} {R} i d = images_follow (image i.set R) (Images.push N N h l) (Images.push N N h' l)
      (push_exact N N (omega arith) (diagrams σ) h l i.set R (both_wf t.left) i.left d) (push_exact N N (omega arith) (diagrams τ) h' l i.set R (both_wf t.right) i.right (label_right t d))
      (λ e k. Images.push N N (i.one e k) l (same_diagrams e k))

  pub pull_follow : {h h' l : ℕ} {R : Relation N} → Is N mode σ τ h h' → Denotes σ.base.aut.nodes N l R
      → Follows (Allowed mode) (SetStep N L mode σ τ) (making_sets (Images.pull N N l h) σ) (making_sets (Images.pull N N l h') τ)
  pull_follow {h} {h'} {l} {R} i d = images_follow (leads R i.set) (Images.pull N N l h) (Images.pull N N l h')
      (pull_exact N N (omega arith) (diagrams σ) h l i.set R (both_wf t.left) i.left d) (pull_exact N N (omega arith) (diagrams τ) h' l i.set R (both_wf t.right) i.right (label_right t d))
      (λ e k. Images.pull N N l (i.one e k) (same_diagrams e k))

  pub bwd_follow : {l : ℕ} {R : Relation N} → Denotes σ.base.aut.nodes N l R → Follows (Allowed mode) (SetStep N L mode σ τ) (making_sets (Images.bwd N l) σ) (making_sets (Images.bwd N l) τ)
  bwd_follow {l} {R} d = images_follow (domain R) (Images.bwd N l) (Images.bwd N l)
      (bwd_exact N N (omega arith) (diagrams σ) l R (both_wf t.left) d) (bwd_exact N N (omega arith) (diagrams τ) l R (both_wf t.right) (label_right t d))
      (λ e k. Images.bwd N l (same_diagrams e k))

-- ---- epsilon and delta

-- epsilon of x has given one relation in both, and both have it
pub record EpsilonStep (N : ℕ) (L : Limits) (x : ℕ) (σ τ σ' τ' : Store) (e e' : ℕ) : Type 0 where
  pub one : e ≡ e'
  pub twins : TwinStores N L σ' τ'
  pub left : ExtStore σ σ'
  pub right : ExtStore τ τ'
  pub has_left : HasEpsilon σ'.aut x
  pub has_right : HasEpsilon τ'.aut x
  pub means : Means N σ'.aut.nodes e (Holds N σ.aut x)

record EpsilonTo (N : ℕ) (L : Limits) (x : ℕ) (σ σ' : Store) (e : ℕ) : Type 0 where
  went : ExtStore σ σ'
  same : (i : ℕ) → SameWords σ σ' i
  sound : Sound N L σ'
  has : HasEpsilon σ'.aut x
  means : Means N σ'.aut.nodes e (Holds N σ.aut x)

module _ {N : ℕ} {L : Limits} where
  epsilon_law : {σ : Store} → Sound N L σ → (x : ℕ) → x < states σ.aut → Gives (EpsilonTo N L x σ) (on_aut (epsilon N x) σ)
  epsilon_law {σ} S x l = go (epsilon N x σ.aut) refl
    where
      go : (o : Outcome Aut ℕ) → epsilon N x σ.aut ≡ o → Gives (EpsilonTo N L x σ) (placed put_aut σ o)
      go (refused number) q = refusal
      go (given α e) q =
          let p : Epsiloned N L x σ.aut α e = entered S.worked l q in
          gives (record {
            went = entered_went S.worked l q;
            same = same_noted σ p.found.noted;
            sound = record { worked = entered_worked S.worked l q; settled = (delta_again N L L (wider_refl L)).notes σ S.worked S.settled x l α e q };
            has = has_valued (entered_value S.worked l q);
            means = p.found.means;
          })

  pub epsilon_stores : {σ τ : Store} → TwinStores N L σ τ → (x : ℕ) → x < states σ.aut → Follows Never (EpsilonStep N L x σ τ) (on_aut (epsilon N x) σ) (on_aut (epsilon N x) τ)
  epsilon_stores {σ} {τ} t x l = follows_map
      (λ σ' τ' e e' ((q, k), p, p'). record {
        one = q;
        twins = record {
          less = record { knows = k; lists = λ i c. omega (arith, (p.same i).0, t.less.lists i (omega (arith, (p'.same i).0))) };
          room = p.went.transitions.len ∙ t.room ∙ sym p'.went.transitions.len;
          left = p.sound;
          right = p'.sound;
        };
        left = p.went;
        right = p'.went;
        has_left = p.has;
        has_right = p'.has;
        means = p.means;
      })
      (follows_with {Q = λ σ' τ' e e'. (e ≡ e') × Knows σ'.aut τ'.aut} (epsilon_law t.left x l) (epsilon_law t.right x (state_same t.less.knows.same l))
      (follows_placed put_aut put_aut σ τ (epsilon_follows (epsilons_of t) x l) (λ α β e e' p. (p.one, p.onward.twins.knows))))

-- .. on all tables
pub record EpsilonTables (N : ℕ) (L : Limits) (mode : Mode) (x : ℕ) (σ τ σ' τ' : Tables) (e e' : ℕ) : Type 0 where
  pub one : e ≡ e'
  pub onward : OnTables N L mode σ τ σ' τ'
  pub has_left : HasEpsilon σ'.base.aut x
  pub has_right : HasEpsilon τ'.base.aut x
  pub means : Means N σ'.base.aut.nodes e (Holds N σ.base.aut x)

pub record DeltaTables (N : ℕ) (L : Limits) (mode : Mode) (x : ℕ) (σ τ σ' τ' : Tables) (es es' : List Edge) : Type 0 where
  pub one : es ≡ es'
  pub onward : OnTables N L mode σ τ σ' τ'
  pub stored_left : Stored σ'.base x es
  pub stored_right : Stored τ'.base x es'
  pub list : IsList (readings N L) (Holds N σ.base.aut x) σ'.base.aut es

module _ {N : ℕ} {L : Limits} {mode : Mode} {σ τ : Tables} (t : TwinTables N L mode σ τ) where
  pub base_both : {b c : Store} → TwinStores N L b c → ExtStore σ.base b → ExtStore τ.base c → OnTables N L mode σ τ (put_base b σ) (put_base c τ)
  base_both {b} {c} s w w' = record {
    twins = record {
      base = s;
      left = ordered_base t.left w s.left.worked;
      right = ordered_base t.right w' s.right.worked;
      lives = λ x p. omega (arith, live_word (gone_base {σ = σ} w) x, t.lives x (omega (arith, live_word (gone_base {σ = τ} w') x)));
      sets = t.sets;
      words = λ e x p. live_word (gone_base {σ = σ} w) x ∙ t.words e x (omega (arith, live_word (gone_base {σ = τ} w') x)) ∙ sym (live_word (gone_base {σ = τ} w') x);
      all = λ e x p. omega (arith, live_word (gone_base {σ = τ} w') x, t.all e x (omega (arith, live_word (gone_base {σ = σ} w) x)));
    };
    left = gone_base w;
    right = gone_base w';
  }

  pub epsilon_tables : {E : ℕ → Type 0} (x : ℕ) → x < states σ.base.aut → Follows E (EpsilonTables N L mode x σ τ) (on_base (on_aut (epsilon N x)) σ) (on_base (on_aut (epsilon N x)) τ)
  epsilon_tables x l = follows_placed put_base put_base σ τ (follows_never (epsilon_stores t.base x l)) (λ b c e e' p. record {
    one = p.one;
    onward = base_both p.twins p.left p.right;
    has_left = p.has_left;
    has_right = p.has_right;
    means = p.means;
  })

  pub delta_tables : {E : ℕ → Type 0} (x : ℕ) → x < states σ.base.aut → Follows E (DeltaTables N L mode x σ τ) (on_base (delta N L x) σ) (on_base (delta N L x) τ)
  delta_tables x l = follows_placed put_base put_base σ τ (follows_never (delta_follows t.base x l)) (λ b c es es' p. record {
    one = p.one;
    onward = base_both p.twins p.left.listed.went p.right.listed.went;
    stored_left = p.left.stored;
    stored_right = p.right.stored;
    list = p.left.listed.list;
  })

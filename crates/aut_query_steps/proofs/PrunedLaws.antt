-- 01, "Strings": pruned: each delta label cut to pairs whose second packet is live in the target; empty ones go. The law of `delta_pruned`: unless it is refused it gives a list that is still a delta of
-- the state, with ascending targets, each label with a pair, and each pair of it the beginning of a string; the tables are in order again, and what was worked out is as it was.
use Rattle.std.specs.Prelude.{if◌then◌else◌}
use mathlib.Core.Path.{◌≡◌, refl, sym, ◌∙◌, ap, subst}
use mathlib.Core.Bool.{Bool, true, false, not, ◌&&◌}
use mathlib.Core.List.{List, [], ◌∷◌, map, Memᴰ}
use Prim.Native.Nat.{ℕ, ◌-◌, ◌<◌}
use native.Mathlib.Omega.{arith}
use lib.Dec.{T, eqb}
use borrow.Author.Tests.{eqb-true, eq-eqb, lt-ltb}
use Rattle.common.specs.Packets.{Packet, Set, Relation}
use Rattle.common.specs.Relations.{nonempty}
use Rattle.common.proofs.RelationLaws.{nonempty_of, nonempty_to}
use Rattle.common.specs.Outcome.{Outcome, given, after, ◌>>=◌, Gives}
use Rattle.common.specs.Runs.{Table}
use Rattle.netkat.specs.Lists.{State, Transition, to, Ascending, IsDelta}
use Rattle.netkat_steps.specs.ListSteps.{Edge, edge, Are, IsList}
use Rattle.netkat.specs.Live.{IsLive, cut, pruned, Pruned}
use Rattle.netkat_steps.proofs.ListSteps.{are_later}
use Rattle.netkat.proofs.Laws.Live.{pruned_law}
use Rattle.sp_steps.specs.Model as Sp
use Rattle.sp_steps.specs.Wf as SpLaws
use Rattle.sp_steps.proofs.Laws as SpLawsProofs
use Rattle.sp_steps.proofs.Apply as SpApply
use Rattle.spp_steps.specs.Wf.{Wf, Denotes}
use Rattle.spp_steps.proofs.Laws.{den_ext, den_zero, den_same, agree, by_test, false_true}
use Rattle.spp_steps.proofs.Images.{ifwd_exact}
use Rattle.aut_steps.specs.Relations as Rel
use Rattle.aut_steps.specs.Tables.{Limits}
use Rattle.aut_steps.specs.Wf.{states}
use Rattle.aut_steps.proofs.Wf.{state_grown}
use Rattle.aut_steps.specs.Meaning.{Holds}
use Rattle.aut_steps.proofs.StateLaws.{nodes_goes}
use Rattle.aut_delta_steps.specs.Delta.{Store, count_of, list_at, keep_list, delta_by_kind, delta_with, delta}
use Rattle.aut_delta_steps.specs.Fits.{tables as readings}
use Rattle.aut_delta_steps.proofs.Labels.{intersect_makes}
use Rattle.aut_delta_steps.specs.Wf.{WfStore, Stored}
use Rattle.aut_delta_steps.proofs.Wf.{later_grown}
use Rattle.aut_delta_steps.proofs.DeltaLaws.{delta_is}
use Rattle.aut_delta_steps.proofs.Extends.{stored_went}
use Rattle.aut_delta_steps.specs.PlainSearch.{decoded, answers}
use Rattle.aut_query_steps.specs.Tables.{Tables, diagrams, live_of, LiveSet, WfTables, ExtTables}
use Rattle.aut_query_steps.proofs.Tables.{both_wf, Gone, later_trans, gone_later, live_word}
use Rattle.aut_query_steps.proofs.Steps.{gone_refl, gone_trans, Ends, comes, Steps, ends_gives, ends_map, ends_bind, ends_call, ends_later, relations_step, goes_ends, delta_ends}
use Rattle.aut_query_steps.proofs.ExploreLaws.{targets_known}
use Rattle.aut_query_steps.proofs.SettleLaws.{map_mem, decodes}
use Rattle.aut_query_steps.proofs.LiveLaws.{live_ends}
use Rattle.aut_query_steps.specs.Pruned.{viable, prune, delta_pruned}

module _ {N : ℕ} {L : Limits} where
  -- edges in later tables
  are_gone : {σ τ : Tables} {es : List Edge} {list : List (Transition State N)} → WfTables N L σ → Gone σ τ → WfTables N L τ → Are (readings N L) σ.base.aut es list → Are (readings N L) τ.base.aut es list
  are_gone o g v a = are_later (readings N L) (later_grown o.worked.good g.went.grown v.worked.good) a

-- whether a label has no pair, by its handle
pub label_zero : {N h : ℕ} {t : Table} {R : Relation N} → Wf N t → Denotes t N h R → eqb h (Rel.zero_at N) ≡ not (nonempty R)
label_zero {N} {h} {R = R} w d = by_test (nonempty R)
    (λ e. let (p, q, u) = nonempty_to R (subst T (sym e) tt) in
    by_test (eqb h (Rel.zero_at N)) (λ z. absurd (subst T (agree d (den_zero w N (omega arith)) (eqb-true h (Rel.zero_at N) z) p q) u)) (λ z. z) ∙ ap not (sym e))
    (λ e. eq-eqb h (Rel.zero_at N) (den_same w d (den_zero w N (omega arith)) (λ p q. by_test (R p q)
    (λ t. absurd (subst T e (nonempty_of R p q (subst T (sym t) tt))))
    (λ t. t))) ∙ ap not (sym e))

-- what is live at a state, as the tables keep it
abbrev pub live_in : (N : ℕ) → Tables → State → Set N
live_in N σ t = Sp.mem σ.sets.words N (live_of σ.base.aut.states.words t - 1)

-- the live set that was read is the one in the later tables
still : {N : ℕ} (υ ω : Tables) → Gone υ ω → (y : ℕ) → LiveSet N υ.sets (live_of υ.base.aut.states.words y - 1) (Holds N υ.base.aut y)
    → LiveSet N ω.sets (live_of ω.base.aut.states.words y - 1) (Holds N ω.base.aut y) → IsLive (live_in N υ y) (Holds N ω.base.aut y)
still {N} υ ω g y a b =
    let f : (p : Packet N) → live_in N υ y p ≡ b.set p = SpApply.agree (SpLawsProofs.den_ext g.sets (SpLawsProofs.den_mem a.den.at)) b.den (ap (λ (v : ℕ). v - 1) (sym (live_word g y))) in
    record { live = λ p. (λ t. (b.is.live p).0 (subst T (f p) t), λ s. subst T (sym (f p)) ((b.is.live p).1 s)) }

-- ---- cutting labels

module _ {N : ℕ} {L : Limits} {lent : ℕ} where
  viable_ends : {σ : Tables} {R : Relation N} {S : Set N} (e : Edge) → WfTables N L σ → Denotes σ.base.aut.nodes N e.label R → SpLaws.Denotes σ.sets N (live_of σ.base.aut.states.words e.target - 1) S
      → Ends N L lent (Steps N L (λ τ v. Denotes τ.base.aut.nodes N v (λ a h. R a h && S h)) σ) σ (viable N e σ)
  unfolding viable
  viable_ends {σ} {R} {S} e o d s =
      ends_call (relations_step o (λ t v. Denotes t N v (λ a h. S h)) (ifwd_exact N N (diagrams σ) (live_of σ.base.aut.states.words e.target - 1) S (both_wf o) s)) (λ σ₁ allowed A.
      ends_map (λ τ v B. record { gone = gone_trans A.gone B.gone; ordered = B.ordered; holds = B.holds })
      (goes_ends A.ordered (nodes_goes A.ordered.worked.good (intersect_makes A.ordered.worked.good.nodes (den_ext A.gone.went.grown.nodes d) A.holds))))

  prune_ends : {σ : Tables} (live : State → Set N) (es : List Edge) {list : List (Transition State N)} → WfTables N L σ → Are (readings N L) σ.base.aut es list
      → ((e : Edge) → Memᴰ e es → SpLaws.Denotes σ.sets N (live_of σ.base.aut.states.words e.target - 1) (live e.target))
      → Ends N L lent (Steps N L (λ τ fs. Are (readings N L) τ.base.aut fs (pruned live list)) σ) σ (prune N es σ)
  unfolding prune pruned
  prune_ends {σ} live [] o Are.none f = comes (record { gone = gone_refl σ; ordered = o; holds = Are.none })
  prune_ends {σ} live (e ∷ es) o (Are.also {s} {l} {r} {ts = ts} k d as') f =
      ends_call (viable_ends e o d (f e (Memᴰ.head refl))) (λ σ₁ v C.
      ends_call (prune_ends {σ = σ₁} live es C.ordered (are_gone o C.gone C.ordered as')
      (λ g m. subst (λ (x : ℕ). SpLaws.Denotes σ₁.sets N (x - 1) (live g.target)) (sym (live_word C.gone g.target)) (SpLawsProofs.den_ext C.gone.sets (f g (Memᴰ.tail m))))) (λ σ₂ fs P.
      let D : Denotes σ₂.base.aut.nodes N v (cut live (to s r)).label = den_ext P.gone.went.grown.nodes C.holds in
      comes (record {
        gone = gone_trans C.gone P.gone;
        ordered = P.ordered;
        holds = chosen σ₂ v fs (eqb v (Rel.zero_at N)) (nonempty (cut live (to s r)).label) (label_zero P.ordered.worked.good.nodes D) D (state_grown (gone_trans C.gone P.gone).went.grown k) P.holds;
      })))
    where
      chosen : (τ : Tables) (v : ℕ) (fs : List Edge) (c b : Bool) → c ≡ not b → Denotes τ.base.aut.nodes N v (cut live (to s r)).label → s < states τ.base.aut
          → Are (readings N L) τ.base.aut fs (pruned live ts)
          → Are (readings N L) τ.base.aut (if c then fs else (edge s v ∷ fs)) (if b then (cut live (to s r) ∷ pruned live ts) else pruned live ts)
      chosen τ v fs true true q D j A = absurd (false_true (sym q))
      chosen τ v fs true false q D j A = A
      chosen τ v fs false true q D j A = Are.also j D A
      chosen τ v fs false false q D j A = absurd (false_true q)

-- ---- delta_pruned

-- The edges are the pruned list of x: what delta gives, cut by the live sets of the targets, empty ones gone. The tables are in order.
pub record PrunedTo (N : ℕ) (L : Limits) (x : ℕ) (σ τ : Tables) (es : List Edge) : Type 0 where
  pub later : ExtTables σ τ
  pub ordered : WfTables N L τ
  pub list : List (Transition State N)
  pub are : Are (readings N L) τ.base.aut es list
  pub is : Pruned (Holds N τ.base.aut) (Holds N τ.base.aut x) list
  pub whole : List (Transition State N)
  pub whole_gives : (answers N L).delta x τ.base ≡ given τ.base whole
  pub whole_is : IsDelta (Holds N τ.base.aut) whole (Holds N τ.base.aut x)
  pub whole_ascends : Ascending whole
  pub live : State → Set N
  pub lives : (t : Transition State N) → Memᴰ t whole → IsLive (live t.target) (Holds N τ.base.aut t.target)
  pub cut_is : list ≡ pruned live whole

-- a list that is stored is given at once
stored_delta : {N : ℕ} {L : Limits} {σ : Store} {x : ℕ} {es : List Edge} → WfStore N L σ → x < states σ.aut → Stored σ x es → delta N L x σ ≡ given σ es
unfolding delta_with
stored_delta {N} {L} {σ} {x} W l s =
    delta_is W l
    ∙ ap (λ (b : Bool). if b then given σ (list_at σ x) else (delta_by_kind N L (delta N L) x >>= keep_list x) σ) (lt-ltb 0 (count_of σ.aut.states.words x) s.marked)
    ∙ ap (λ (es : List Edge). given σ es) s.reads

module _ {N : ℕ} {L : Limits} where
  -- what the tables keep of the targets
  target_live : {σ : Tables} → WfTables N L σ → {x : ℕ} → x < states σ.base.aut → 0 < live_of σ.base.aut.states.words x → (e : Edge) → Memᴰ e (list_at σ.base x)
      → LiveSet N σ.sets (live_of σ.base.aut.states.words e.target - 1) (Holds N σ.base.aut e.target)
  target_live {σ} o {x} k p e m =
      o.lives.kept e.target (targets_known ((o.worked.lists.held x k).list (o.lives.listed x k p)) e m) (live_of σ.base.aut.states.words e.target - 1) (omega (arith, o.lives.onward x k p e m))

  -- The stored list of x in υ, whose live set is kept there; ω is later.
  module _ {υ ω : Tables} {x : ℕ} {es : List Edge} {list : List (Transition State N)} (o : WfTables N L υ) (k : x < states υ.base.aut) (p : 0 < live_of υ.base.aut.states.words x) (S : Stored υ.base x es)
      (a : Are (readings N L) υ.base.aut es list) (up : Ascending list) (g : Gone υ ω) (w : WfTables N L ω)
    where
      later_known : x < states ω.base.aut
      later_known = state_grown g.went.grown k

      later_stored : Stored ω.base x es
      later_stored = stored_went o.worked g.went k S

      later_are : Are (readings N L) ω.base.aut es list
      later_are = are_gone o g w a

      later_delta : IsDelta (Holds N ω.base.aut) list (Holds N ω.base.aut x)
      later_delta = go ((w.worked.lists.held x later_known).list later_stored.marked)
        where
          go : IsList (readings N L) (Holds N ω.base.aut x) ω.base.aut (list_at ω.base x) → IsDelta (Holds N ω.base.aut) list (Holds N ω.base.aut x)
          go i = subst (λ (ts : List (Transition State N)). IsDelta (Holds N ω.base.aut) ts (Holds N ω.base.aut x))
              (sym (subst (λ (gs : List Edge). map (decoded N ω.base.aut) gs ≡ i.list) later_stored.reads (decodes i.are)) ∙ decodes later_are) i.delta

      edge_live : (e : Edge) → Memᴰ e es → IsLive (live_in N υ e.target) (Holds N ω.base.aut e.target)
      edge_live e m =
          still υ ω g e.target
          (target_live o k p e (subst (Memᴰ e) (sym S.reads) m))
          (target_live w later_known (omega (arith, live_word g x)) e (subst (Memᴰ e) (sym later_stored.reads) m))

      targets_live : (t : Transition State N) → Memᴰ t list → IsLive (live_in N υ t.target) (Holds N ω.base.aut t.target)
      targets_live t m = go (map_mem (decoded N ω.base.aut) es (subst (Memᴰ t) (sym (decodes later_are)) m))
        where
          go : (e : Edge) × Memᴰ e es × (t ≡ decoded N ω.base.aut e) → IsLive (live_in N υ t.target) (Holds N ω.base.aut t.target)
          go (e, n, q) = subst (λ (y : ℕ). IsLive (live_in N υ y) (Holds N ω.base.aut y)) (sym (ap (λ (t : Transition State N). t.target) q)) (edge_live e n)

      later_gives : (answers N L).delta x ω.base ≡ given ω.base list
      later_gives =
          ap (λ (o : Outcome Store (List Edge)). after o (λ es τ. given τ (map (decoded N τ.aut) es))) (stored_delta w.worked later_known later_stored)
          ∙ ap (λ (l : List (Transition State N)). given ω.base l) (decodes later_are)

      later_pruned : Pruned (Holds N ω.base.aut) (Holds N ω.base.aut x) (pruned (live_in N υ) list)
      later_pruned = pruned_law (live_in N υ) later_delta up targets_live

  pub pruned_ends : (lent : ℕ) {σ : Tables} → WfTables N L σ → {x : ℕ} → x < states σ.base.aut → Ends N L lent (PrunedTo N L x σ) σ (delta_pruned N L lent x σ)
  unfolding delta_pruned
  pruned_ends lent {σ} o {x} k =
      ends_later (live_ends lent o k) (λ τ l C. (
        C.later,
        ends_bind (delta_ends C.ordered (state_grown C.later.grown k)) (λ υ es D. (
          D.gone,
          let k₂ : x < states υ.base.aut = state_grown D.gone.went.grown (state_grown C.later.grown k) in
              let p : 0 < live_of υ.base.aut.states.words x = omega (arith, live_word D.gone x, C.kept) in
              ends_map (λ ω fs P. record {
                later = later_trans C.later (later_trans (gone_later D.gone) (gone_later P.gone));
                ordered = P.ordered;
                list = pruned (live_in N υ) D.holds.1.list;
                are = P.holds;
                is = later_pruned D.ordered k₂ p D.holds.0 D.holds.1.are D.holds.1.ascending P.gone P.ordered;
                whole = D.holds.1.list;
                whole_gives = later_gives D.ordered k₂ p D.holds.0 D.holds.1.are D.holds.1.ascending P.gone P.ordered;
                whole_is = later_delta D.ordered k₂ p D.holds.0 D.holds.1.are D.holds.1.ascending P.gone P.ordered;
                whole_ascends = D.holds.1.ascending;
                live = live_in N υ;
                lives = targets_live D.ordered k₂ p D.holds.0 D.holds.1.are D.holds.1.ascending P.gone P.ordered;
                cut_is = refl;
              })
              (prune_ends (live_in N υ) es D.ordered D.holds.1.are (λ e m. SpLawsProofs.den_mem (target_live D.ordered k₂ p e (subst (Memᴰ e) (sym D.holds.0.reads) m)).den.at)),
        )),
      ))

  pub pruned_goes : (lent : ℕ) {σ : Tables} → WfTables N L σ → {x : ℕ} → x < states σ.base.aut → Gives (PrunedTo N L x σ) (delta_pruned N L lent x σ)
  pruned_goes lent o k = ends_gives (pruned_ends lent o k)

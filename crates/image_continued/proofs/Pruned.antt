-- `delta_pruned` in two runs: after the live sets, the list is the same, and each label is cut by one set, so the same relation nodes are made and the same edges given.
use Rattle.std.specs.Prelude.{if◌then◌else◌}
use mathlib.Core.Path.{◌≡◌, refl, sym, ◌∙◌, ap, ap₂, subst}
use mathlib.Core.Logic.{⊎_elim}
use mathlib.Core.List.{List, [], ◌∷◌, Memᴰ}
use Prim.Native.Nat.{ℕ, ◌-◌, ◌<◌}
use native.Mathlib.Omega.{arith}
use lib.Dec.{eqb}
use Rattle.common.specs.Outcome.{Outcome, refused, given, Step, Gives, gives}
use Rattle.common.specs.Runs as Runs
use Rattle.common.specs.Runs.{Table, placed}
use Rattle.common.proofs.Runs.{StableSpec}
use Rattle.netkat.specs.Lists.{State, Transition}
use Rattle.netkat_steps.specs.ListSteps.{Edge, edge, Are}
use Rattle.sp_steps.proofs.Laws as SpLawsProofs
use Rattle.spp_steps.specs.Model as Spp
use Rattle.spp_steps.specs.Wf.{Wf, Ext, ValidAt, Denotes}
use Rattle.spp_steps.proofs.Laws.{at_ext, spp_theory}
use Rattle.spp_steps.specs.ImageModel as Images
use Rattle.spp_steps.specs.ImageModel.{Stores}
use Rattle.spp_steps.proofs.Images.{both_theory, ifwd_exact}
use Rattle.aut_steps.specs.Relations as Rel
use Rattle.aut_steps.specs.Tables.{Limits, Aut, put_nodes, on_nodes}
use Rattle.aut_steps.specs.Wf.{states, WfAut}
use Rattle.aut_steps.proofs.Wf.{grown_nodes, state_grown}
use Rattle.aut_steps.proofs.StepSpec.{good_nodes}
use Rattle.aut_delta_steps.specs.Delta.{Store, store, put_aut, on_aut, list_at}
use Rattle.aut_delta_steps.specs.Fits.{tables as readings, Since}
use Rattle.aut_delta_steps.proofs.Wf.{worked_since}
use Rattle.aut_delta_steps.proofs.Extends.{went_since}
use Rattle.aut_query_steps.specs.Tables.{Tables, diagrams, put_base, put_relations, on_base, making_relations, live_of}
use Rattle.aut_query_steps.proofs.Tables.{both_wf, Gone, live_word, lives_gone}
use Rattle.aut_query_steps.specs.Pruned.{viable, prune, delta_pruned}
use Rattle.aut_query_steps.proofs.ExploreLaws.{targets_known}
use Rattle.aut_replay.proofs.Delta.{settled_since}
use Rattle.aut_replay.proofs.Constructors.{apply_runs}
use Rattle.aut_free.proofs.Alike as Alike
use Rattle.aut_free.proofs.Alike.{AlikeRuns}
use Rattle.image_continued.specs.Follow.{Follows, stops, comes}
use Rattle.image_continued.specs.Mode.{Mode, InStep, Allowed}
use Rattle.image_continued.proofs.Records.{state_same, same_nodes}
use Rattle.image_continued.proofs.Follow.{follows_map, follows_bind, follows_as}
use Rattle.image_continued.proofs.Delta.{Sound}
use Rattle.image_continued.proofs.Tables.{TwinTables, OnTables, Is, on_refl, on_trans, is_on, delta_tables}
use Rattle.image_continued.proofs.Kept.{live_is}
use Rattle.image_continued.proofs.Packets.{live_follows}
use Rattle.image_continued.proofs.Ifwd.{Beside, ifwd_alike}

-- ---- relation nodes are made

module _ {N : ℕ} {L : Limits} {mode : Mode} {σ τ : Tables} (t : TwinTables N L mode σ τ) where
  nodes_sound : {ρ : Store} → Sound N L ρ → {u : Table} → Ext ρ.aut.nodes u → Wf N u → Sound N L (store (put_nodes u ρ.aut) ρ.transitions)
  nodes_sound {ρ} S {u} e w =
      let s : Since N L ρ.aut (put_nodes u ρ.aut) = record { grown = grown_nodes {σ = ρ.aut} e; memos = λ i w l m. refl; good = good_nodes S.worked.good e w } in
      record { worked = worked_since S.worked s; settled = settled_since S.worked S.settled s }

  nodes_gone : (ρ : Tables) {u : Table} → WfAut N L ρ.base.aut → Ext ρ.base.aut.nodes u → Wf N u → Gone ρ (put_relations u ρ)
  nodes_gone ρ {u} g e w = record {
    sets = SpLawsProofs.ext_refl ρ.sets;
    went = went_since {N = N} {L = L} (record { grown = grown_nodes {σ = ρ.base.aut} e; memos = λ i w l m. refl; good = good_nodes g e w });
  }

  nodes_both : {u v : Table} → u ≡ v → Ext σ.base.aut.nodes u → Wf N u → OnTables N L mode σ τ (put_relations u σ) (put_relations v τ)
  nodes_both {u} {v} q e w = subst (λ (v : Table). OnTables N L mode σ τ (put_relations u σ) (put_relations v τ)) q (record {
    twins = record {
      base = record {
        less = record { knows = record { same = same_nodes t.base.less.knows.same u; epsilons = t.base.less.knows.epsilons }; lists = t.base.less.lists };
        room = t.base.room;
        left = nodes_sound t.base.left e w;
        right = nodes_sound t.base.right e' w;
      };
      left = record { sets = t.left.sets; worked = (nodes_sound t.base.left e w).worked; lives = lives_gone (nodes_gone σ t.left.worked.good e w) t.left };
      right = record { sets = t.right.sets; worked = (nodes_sound t.base.right e' w).worked; lives = lives_gone (nodes_gone τ t.right.worked.good e' w) t.right };
      lives = t.lives;
      sets = t.sets;
      words = t.words;
      all = t.all;
    };
    left = nodes_gone σ t.left.worked.good e w;
    right = nodes_gone τ t.right.worked.good e' w;
  })
    where
      e' : Ext τ.base.aut.nodes u
      e' = subst (λ (r : Table). Ext r u) t.base.less.knows.same.nodes e

  -- a step on relation nodes
  nodes_follow : {E : ℕ → Type 0} {P : Table → ℕ → Type 0} (c : Step Table ℕ) → StableSpec (spp_theory N) c P σ.base.aut.nodes
      → Follows E (λ σ' τ' h h'. (h ≡ h') × OnTables N L mode σ τ σ' τ' × P σ'.base.aut.nodes h) (on_base (on_aut (on_nodes c)) σ) (on_base (on_aut (on_nodes c)) τ)
  nodes_follow {E} {P} c g = follows_as refl (ap (λ (u : Table). placed put_base τ (placed put_aut τ.base (placed put_nodes τ.base.aut (c u)))) (sym t.base.less.knows.same.nodes)) (go (c σ.base.aut.nodes) g)
    where
      go : (o : Outcome Table ℕ) → Gives (Runs.StableResult (spp_theory N) c P σ.base.aut.nodes) o
          → Follows E (λ σ' τ' h h'. (h ≡ h') × OnTables N L mode σ τ σ' τ' × P σ'.base.aut.nodes h)
          (placed put_base σ (placed put_aut σ.base (placed put_nodes σ.base.aut o))) (placed put_base τ (placed put_aut τ.base (placed put_nodes τ.base.aut o)))
      go (refused number) r = stops
      go (given u h) (gives r) = comes (refl, nodes_both refl r.ext r.wf, r.holds)

  ifwd_follow : {E : ℕ → Type 0} {h h' : ℕ} → Is N mode σ τ h h'
      → Follows E (λ σ' τ' a a'. (a ≡ a') × OnTables N L mode σ τ σ' τ' × ValidAt σ'.base.aut.nodes N a) (making_relations (Images.ifwd N h) σ) (making_relations (Images.ifwd N h') τ)
  ifwd_follow {E} {h} {h'} i = go (ifwd_alike N i.left i.right (diagrams σ) (diagrams τ) (record { left = refl; right = refl; nodes = t.base.less.knows.same.nodes }))
      (ifwd_exact N N (diagrams σ) h i.set (both_wf t.left) i.left).runs
    where
      go : {o o' : Outcome Stores ℕ} {c : Step Stores ℕ} → AlikeRuns (Beside σ.sets τ.sets) o o' → Gives (Runs.StableResult (both_theory N) c (λ u a. Denotes u.spp N a (λ p q. i.set q)) (diagrams σ)) o
          → Follows E (λ σ' τ' a a'. (a ≡ a') × OnTables N L mode σ τ σ' τ' × ValidAt σ'.base.aut.nodes N a) (placed (λ s σ. put_relations s.spp σ) σ o) (placed (λ s σ. put_relations s.spp σ) τ o')
      go Alike.stops g = stops
      go (Alike.comes r) (gives g) = comes (refl, nodes_both r.nodes g.ext.spp_ext g.wf.spp_wf, g.holds.at)

-- ---- labels are cut

-- the live set of each edge's target, as the tables keep it, is one set
abbrev Targets : (N : ℕ) (mode : Mode) → Tables → Tables → List Edge → Type 0
Targets N mode σ τ es = (e : Edge) → Memᴰ e es → Is N mode σ τ (live_of σ.base.aut.states.words e.target - 1) (live_of τ.base.aut.states.words e.target - 1)

abbrev Labels : ℕ → Tables → List Edge → Type 0
Labels N σ es = (e : Edge) → Memᴰ e es → ValidAt σ.base.aut.nodes N e.label

module _ {N : ℕ} {L : Limits} {mode : Mode} where
  targets_on : {σ τ σ' τ' : Tables} (es : List Edge) → OnTables N L mode σ τ σ' τ' → Targets N mode σ τ es → Targets N mode σ' τ' es
  targets_on {σ} {τ} {σ'} {τ'} es o f e m =
      subst (λ (a : ℕ). Is N mode σ' τ' (a - 1) (live_of τ'.base.aut.states.words e.target - 1)) (sym (live_word o.left e.target))
      (subst (λ (a : ℕ). Is N mode σ' τ' (live_of σ.base.aut.states.words e.target - 1) (a - 1)) (sym (live_word o.right e.target)) (is_on o (f e m)))

  viable_follow : {E : ℕ → Type 0} {σ τ : Tables} → TwinTables N L mode σ τ → (e : Edge) → Is N mode σ τ (live_of σ.base.aut.states.words e.target - 1) (live_of τ.base.aut.states.words e.target - 1)
      → ValidAt σ.base.aut.nodes N e.label → Follows E (λ σ' τ' l l'. (l ≡ l') × OnTables N L mode σ τ σ' τ') (viable N e σ) (viable N e τ)
  unfolding viable
  viable_follow {E} {σ} {τ} t e i d = follows_bind (ifwd_follow t i) (λ σ₁ τ₁ a a' (q, o, v).
      follows_as refl (ap (λ (a : ℕ). on_base (on_aut (on_nodes (Rel.intersect N e.label a))) τ₁) (sym q))
      (follows_map (λ σ₂ τ₂ l l' (r, o₂, w). (r, on_trans o o₂))
      (nodes_follow o.twins (Rel.intersect N e.label a) (apply_runs N 0 Spp.intersect e.label a o.twins.left.worked.good.nodes (at_ext o.left.went.grown.nodes N e.label d) v))))

  prune_follow : {E : ℕ → Type 0} (es : List Edge) {σ τ : Tables} → TwinTables N L mode σ τ → Targets N mode σ τ es → Labels N σ es
      → Follows E (λ σ' τ' fs fs'. (fs ≡ fs') × OnTables N L mode σ τ σ' τ') (prune N es σ) (prune N es τ)
  unfolding prune
  prune_follow [] t f d = comes (refl, on_refl t)
  prune_follow (e ∷ es) t f d = follows_bind (viable_follow t e (f e (mathlib.Core.List.Memᴰ.head refl)) (d e (mathlib.Core.List.Memᴰ.head refl))) (λ σ₁ τ₁ l l' (q, o).
      follows_bind (prune_follow es o.twins (targets_on es o (λ g m. f g (mathlib.Core.List.Memᴰ.tail m))) (λ g m. at_ext o.left.went.grown.nodes N g.label (d g (mathlib.Core.List.Memᴰ.tail m)))) (λ σ₂ τ₂ fs fs' (r, o₂).
      comes (ap₂ (λ (l : ℕ) (fs : List Edge). if eqb l (Rel.zero_at N) then fs else (edge e.target l ∷ fs)) q r, on_trans o o₂)))

-- ---- delta_pruned

labels_of : {N : ℕ} {L : Limits} {a : Aut} {es : List Edge} {list : List (Transition State N)} → Are (readings N L) a es list → (e : Edge) → Memᴰ e es → ValidAt a.nodes N e.label
labels_of Are.none e m = absurd (mathlib.Core.List.Memᴰ.not-nil m)
labels_of {N} {a = a} (Are.also k d as') e m = ⊎_elim (λ q. subst (λ (g : Edge). ValidAt a.nodes N g.label) (sym q) d.at) (λ n. labels_of as' e n) (mathlib.Core.List.Memᴰ.cases_cons m)

module _ {N : ℕ} {L : Limits} (lent : ℕ) {mode : Mode} {σ τ : Tables} (t : TwinTables N L mode σ τ) {x : ℕ} (k : x < states σ.base.aut)
    (fresh : InStep mode → 0 < live_of σ.base.aut.states.words x → 0 < live_of τ.base.aut.states.words x)
  where
    pub pruned_follows : Follows (Allowed mode) (λ σ' τ' es es'. (es ≡ es') × TwinTables N L mode σ' τ') (delta_pruned N L lent x σ) (delta_pruned N L lent x τ)
    unfolding delta_pruned
    pruned_follows = follows_bind (live_follows lent t k fresh) (λ σ₁ τ₁ l l' p.
        let k₁ : x < states σ₁.base.aut = state_grown p.left.grown k in
        follows_bind (delta_tables p.twins x k₁) (λ σ₂ τ₂ es es' d.
        let o : OnTables N L mode σ₁ τ₁ σ₂ τ₂ = d.onward in
        let k₂ : x < states σ₂.base.aut = state_grown o.left.went.grown k₁ in
        follows_as refl (ap (λ (fs : List Edge). prune N fs τ₂) (sym d.one))
        (follows_map (λ σ₃ τ₃ fs fs' (q, o₃). (q, o₃.twins))
        (prune_follow es o.twins
        (targets o.twins es k₂ (omega (arith, live_word o.left x, p.kept_left)) (omega (arith, live_word o.right x, p.kept_right)) d.stored_left.reads (d.stored_right.reads ∙ sym d.one))
        (labels_of d.list.are)))))
      where
        targets : {σ₂ τ₂ : Tables} → TwinTables N L mode σ₂ τ₂ → (es : List Edge) → x < states σ₂.base.aut → 0 < live_of σ₂.base.aut.states.words x → 0 < live_of τ₂.base.aut.states.words x
            → list_at σ₂.base x ≡ es → list_at τ₂.base x ≡ es → Targets N mode σ₂ τ₂ es
        targets {σ₂} {τ₂} s es j p p' r r' e m =
            let j' : x < states τ₂.base.aut = state_same s.base.less.knows.same j in
            let n : Memᴰ e (list_at σ₂.base x) = subst (Memᴰ e) (sym r) m in
            let n' : Memᴰ e (list_at τ₂.base x) = subst (Memᴰ e) (sym r') m in
            let i : e.target < states σ₂.base.aut = targets_known ((s.left.worked.lists.held x j).list (s.left.lives.listed x j p)) e n in
            let i' : e.target < states τ₂.base.aut = state_same s.base.less.knows.same i in
            let a = s.left.lives.onward x j p e n in
            let a' = s.right.lives.onward x j' p' e n' in
            live_is s i (s.left.lives.kept e.target i (live_of σ₂.base.aut.states.words e.target - 1) (omega arith))
            (s.right.lives.kept e.target i' (live_of τ₂.base.aut.states.words e.target - 1) (omega arith)) (λ q. ap (λ (c : ℕ). c - 1) (s.words q e.target a'))

-- The calls that a query makes, each as a step of its layer: what the callee asks of the tables while it runs; and from its contract, what it came to, or the refusal.
use mathlib.Core.Path.{◌≡◌, refl, sym, ◌∙◌, ap, subst}
use mathlib.Core.Bool.{Bool}
use mathlib.Core.List.Memᴰ
use mathlib.Core.List.{List, Memᴰ}
use mathlib.Core.Logic.{inl, inr, ⊎_elim}
use Prim.Native.Nat.{ℕ, ◌*◌, ◌≤◌, ◌<◌}
use native.Mathlib.Omega.{arith}
use lib.ListN.{length, get_or}
use Rattle.std.specs.Prelude.{Result, Ok, Err}
use Rattle.common.specs.Outcome.{Outcome, given, Step}
use Rattle.common.specs.Runs.{Table, placed}
use Rattle.refusal.specs.declared.Refusal.{Refusal}
use Rattle.refusal.specs.Numbers.{outcome}
use Rattle.cache.specs.Cache.{OnlyCodes}
use Rattle.cache.proofs.Cache.{sound_map, notes_map}
use Rattle.netkat.specs.Lists.{State, Transition}
use Rattle.netkat_steps.specs.ListSteps.{Edge, Are}
use Rattle.sp_steps.specs.Model as Sp
use Rattle.sp_steps.specs.Wf as SpLaws
use Rattle.sp_steps.proofs.Laws as SpLawsProofs
use Rattle.sp_steps.proofs.Sets as SpSets
use Rattle.sp_steps.proofs.Refused as SpRefused
use Rattle.sp_steps.specs.Reuse.{SpNoted}
use Rattle.sp.specs.declared.SP.{SP}
use Rattle.spp_steps.specs.Wf.{ValidAt, Denotes}
use Rattle.spp_steps.proofs.Laws.{den_mem}
use Rattle.spp_steps.specs.ImageModel as Images
use Rattle.spp_steps.specs.ImageModel.{Stores}
use Rattle.spp_steps.proofs.Images.{push_exact, pull_exact, bwd_exact, ifwd_exact}
use Rattle.spp.specs.declared.SPP.{SPP}
use Rattle.spp_image.specs.Reuse.{Written, Kept, Counted}
use Rattle.aut_steps.specs.Relations as Rel
use Rattle.aut_steps.proofs.RelationLaws.{intersect_made}
use Rattle.aut_steps.specs.Tables.{Limits, Aut, on_nodes, put_nodes}
use Rattle.aut_steps.specs.Wf.{states}
use Rattle.aut_steps.proofs.StateLaws.{nodes_goes}
use Rattle.aut_delta_steps.specs.Epsilon.{epsilon}
use Rattle.aut_delta_steps.specs.Delta.{Store, put_aut, on_aut, list_at, delta}
use Rattle.aut_delta_steps.specs.Fits.{tables as readings}
use Rattle.aut_query_stage.specs.OnTables.{store_in, KeepsStore, GoesStore}
use Rattle.aut_query_stage.proofs.OnTables.{epsilon_goes}
use Rattle.aut_query_steps.specs.Tables.{Tables, diagrams, put_sets, put_base, put_relations, on_sets, on_base, making_sets, making_relations, WfTables}
use Rattle.aut_query_steps.proofs.Tables.{both_wf}
use Rattle.aut_query_steps.proofs.Steps.{gone_refl, Ends, comes, Steps, ends_map, sets_step, images_step, relations_step, goes_ends, epsilon_ends, delta_ends}
use Rattle.aut_query_stage.specs.Lent.{tables_in, Leaves}
use Rattle.aut_query_stage.proofs.Lent.{by_ends}
use Rattle.aut_states.specs.Clauses.{limits_of}
use Rattle.aut_states.specs.declared.Config.{Config}
use Rattle.aut_states.specs.declared.Limits.{Limits as Given}
use Rattle.aut_relations.specs.declared.Aut.{Aut as Lent}
use Rattle.aut_relations.specs.Behind.{Modifies}
use Rattle.aut_relations.specs.Lent.{nodes_in, aut_in, Keeps, KeepsExprs, Does, Unless, Handles}
use Rattle.aut_query_stage.specs.Asked.{Later}
use Rattle.aut_sets.specs.Lent.{sets_in, diagrams_in, OnlyScratch, OnlySets}
use Rattle.aut_sets.specs.Clauses.{NotesBehind, Gives, PreSet, PreSets, PostSize, PreImage, PreLead, PostHas, PreLift, PreCount, PostCount}
use Rattle.aut_free.specs.Clear.{clear_tables}
use Rattle.aut_free.proofs.Clear.{cleared}
use Rattle.aut_free.proofs.Free.{epsilon_clear_tables, delta_clear_tables}
use Rattle.aut_query_calls.specs.Working.{clear_in, Working, WorkingIn, EdgeIn, ListIn}
use Rattle.aut_query_calls.specs.Working.{Unwritten, SetIn, RelIn}
use Rattle.aut_query_calls.proofs.Ran.{Ran}
use Rattle.aut_query_calls.proofs.Works.{asks_store}

-- ---- what is left of scratch

module _ {N : ℕ} (σ : Tables) {s s' : List ℕ} where
  pub leaves_sets : NotesBehind (SpNoted σ.sets) s s' → Leaves N 0 0 σ s s'
  leaves_sets p = record { below = λ i x. absurd (omega arith); above = λ i x y. p.below i y; notes = notes_map (λ op x y r v. inr (inl (inl v))) p.notes }

  pub leaves_images : NotesBehind (Written N (diagrams σ)) s s' → Leaves N 0 0 σ s s'
  leaves_images p = record { below = λ i x. absurd (omega arith); above = λ i x y. p.below i y; notes = notes_map (λ op x y r v. inr (inl v)) p.notes }

  pub leaves_lifts : NotesBehind (OnlyCodes 10 15 (Kept N (diagrams σ))) s s' → Leaves N 0 0 σ s s'
  leaves_lifts p = record { below = λ i x. absurd (omega arith); above = λ i x y. p.below i y; notes = notes_map (λ op x y r v. inr (inl (inr v))) p.notes }

  pub leaves_counts : NotesBehind (OnlyCodes 17 17 (Counted σ.base.aut.nodes)) s s' → Leaves N 0 0 σ s s'
  leaves_counts p = record { below = λ i x. absurd (omega arith); above = λ i x y. p.below i y; notes = notes_map (λ op x y r v. inr (inr v)) p.notes }

  pub leaves_left : {a n : ℕ} → Modifies N a n σ.base.aut.nodes s s' → Leaves N a n σ s s'
  leaves_left p = record { below = p.below; above = p.above; notes = notes_map (λ op x y r v. inl v) p.notes }

-- of the operations that write nothing else
module _ (x : Lent) {N : ℕ} {s s' : List ℕ} where
  pub has_leaves : {a e : ℕ} {b : Bool} → PostHas N (diagrams_in x) a e b s s' → Leaves N 0 0 (clear_in x) s s'
  has_leaves A = leaves_lifts (clear_in x) A.left

  pub size_leaves : {a n : ℕ} → PostSize N (sets_in x) a n s s' → Leaves N 0 0 (clear_in x) s s'
  size_leaves A = leaves_sets (clear_in x) A.left

  pub count_leaves : {e n : ℕ} → PostCount N (nodes_in x) e n s s' → Leaves N 0 0 (clear_in x) s s'
  count_leaves A = leaves_counts (clear_in x) A.left

-- ---- what a callee asks

module _ (x : Lent) {N : ℕ} {l : Given} (W : Working N l (tables_in x) x.scratch.now) where
  abbrev order : WfTables N (limits_of l) (clear_in x)
  order = W.ready.ordered

  module _ (a : ℕ) (at : SpLaws.ValidAt (sets_in x) N a) where
    pub asks_set : PreSet N (sets_in x) x.scratch.now a
    asks_set = record { few = W.ready.ready.few; wf = order.sets; room = W.ready.ready.room; sound = sound_map (λ op x y r v. v.images.sets) W.ready.sound; at_a = at }

    pub asks_sets : (b : ℕ) → SpLaws.ValidAt (sets_in x) N b → PreSets N (sets_in x) x.scratch.now a b
    asks_sets b bt = record { first = asks_set; at_b = bt }

    pub asks_lift : PreLift N (diagrams_in x) x.scratch.now a
    asks_lift = record { few = W.ready.ready.few; wf = both_wf order; room = W.ready.ready.room; sound = sound_map (λ op x y r v. v.images) W.ready.sound; at_a = at }

  module _ (e : ℕ) (et : ValidAt (nodes_in x) N e) where
    pub asks_image : PreImage N (diagrams_in x) x.scratch.now e
    asks_image = record { few = W.ready.ready.few; wf = both_wf order; room = W.ready.ready.room; sound = sound_map (λ op x y r v. v.images) W.ready.sound; at_r = et }

    pub asks_count : PreCount N (nodes_in x) x.scratch.now e
    asks_count = record { few = W.ready.ready.few; wf = order.worked.good.nodes; room = W.ready.ready.room; sound = sound_map (λ op x y r v. v.numbers) W.ready.sound; at_r = et }

  pub asks_lead : (a : ℕ) → SpLaws.ValidAt (sets_in x) N a → (e : ℕ) → ValidAt (nodes_in x) N e → PreLead N (diagrams_in x) x.scratch.now a e
  asks_lead a at e et = record { image = asks_image e et; at_a = at }

  pub asks_relate : x.spp.fields ≡ N → (e : ℕ) → ValidAt (nodes_in x) N e → (f : ℕ) → ValidAt (nodes_in x) N f → Handles N x e f
  asks_relate q e et f ft = record {
    fields = q;
    backed = record { few = W.ready.ready.few; wf = order.worked.good.nodes; room = W.ready.ready.room; sound = W.ready.ready.sound };
    at_a = et;
    at_b = ft;
  }

-- ---- a call whose step has a law

abbrev Fresh : Store → Type 0
Fresh b = (j : ℕ) → 12 * states b.aut ≤ j → get_or b.aut.states.words j 0 ≡ 0

module _ {k : Config} {x y : Lent} (W : Working k.fields k.limits (tables_in x) x.scratch.now) {V A : Type 0} {P : Tables → A → Type 0} {see : V → A} {o : Step Tables A}
    (E : Ends k.fields (limits_of k.limits) 0 (Steps k.fields (limits_of k.limits) P (clear_in x)) (clear_in x) (o (clear_in x))) (len : length y.scratch.now ≡ length x.scratch.now) {a n : ℕ} where
  pub ran : (r : Result V Refusal) → o (clear_in x) ≡ outcome see r (clear_in y) → Unless r (Leaves k.fields a n (clear_in y) x.scratch.now y.scratch.now) → Unless r (Fresh (store_in y) × Unwritten (tables_in x) (tables_in y))
      → Ran k a n P see o x r y
  ran (Ok v) e p f = let q = by_ends W.ready E len (Ok v) e p in record { post = q; working = record { ready = q.then.ready; fresh = f.0 }; unwritten = f.1 }
  ran (Err z) e p f = record { post = by_ends W.ready E len (Err z) e p; working = tt; unwritten = tt }

  -- .. and the states are as they were
  pub ran_beside : y.states ≡ x.states → (r : Result V Refusal) → o (clear_in x) ≡ outcome see r (clear_in y) → Unless r (Leaves k.fields a n (clear_in y) x.scratch.now y.scratch.now) → Ran k a n P see o x r y
  ran_beside q (Ok v) e p = ran (Ok v) e p (rw q W.fresh, rw q (λ x w i j. refl))
  ran_beside q (Err z) e p = ran (Err z) e p tt

-- ---- packet sets

module _ {x y : Lent} (K : OnlySets x y) where
  same_sets : put_sets (sets_in y) (clear_in x) ≡ clear_in y
  same_sets = rw (sym K.spp) (rw (sym K.states) (rw (sym K.members) (rw (sym K.transitions) refl)))

  on_sets_is : (o : Step Table ℕ) (r : Result SP Refusal) → o (sets_in x) ≡ outcome (λ (h : SP). h.0) r (sets_in y) → on_sets o (clear_in x) ≡ outcome (λ (h : SP). h.0) r (clear_in y)
  on_sets_is o (Ok h) e = ap (placed put_sets (clear_in x)) e ∙ ap (λ (σ : Tables). given σ h.0) same_sets
  on_sets_is o (Err z) e = ap (placed put_sets (clear_in x)) e

  making_sets_is : (o : Step Stores ℕ) (r : Result SP Refusal) → o (diagrams_in x) ≡ outcome (λ (h : SP). h.0) r (diagrams_in y) → making_sets o (clear_in x) ≡ outcome (λ (h : SP). h.0) r (clear_in y)
  making_sets_is o (Ok h) e = ap (placed (λ s σ. put_sets s.sp σ) (clear_in x)) e ∙ ap (λ (σ : Tables). given σ h.0) same_sets
  making_sets_is o (Err z) e = ap (placed (λ s σ. put_sets s.sp σ) (clear_in x)) e

sets_left : (N : ℕ) (y : Lent) (s s' : List ℕ) (r : Result SP Refusal) → Unless r (NotesBehind (SpNoted (sets_in y)) s s') → Unless r (Leaves N 0 0 (clear_in y) s s')
sets_left N y s s' (Ok h) p = leaves_sets (clear_in y) p
sets_left N y s s' (Err z) p = tt

images_left : (N : ℕ) (y : Lent) (s s' : List ℕ) (r : Result SP Refusal) → Unless r (NotesBehind (Written N (diagrams_in y)) s s') → Unless r (Leaves N 0 0 (clear_in y) s s')
images_left N y s s' (Ok h) p = leaves_images (clear_in y) p
images_left N y s s' (Err z) p = tt

module _ {k : Config} {x y : Lent} {r : Result SP Refusal} (W : Working k.fields k.limits (tables_in x) x.scratch.now) where
  by_sets : {o : Step Table ℕ} → Ends k.fields (limits_of k.limits) 0 (Steps k.fields (limits_of k.limits) (SetIn k.fields) (clear_in x)) (clear_in x) (on_sets o (clear_in x)) → OnlySets x y
      → Gives SpNoted (λ (h : SP). h.0) o (sets_in x) r (sets_in y) x.scratch.now y.scratch.now → Ran k 0 0 (SetIn k.fields) (λ (h : SP). h.0) (on_sets o) x r y
  by_sets {o} E K G = ran_beside W E K.scratch.length K.states r (on_sets_is K o r G.is) (sets_left k.fields y x.scratch.now y.scratch.now r G.left)

  by_images : {o : Step Stores ℕ} → Ends k.fields (limits_of k.limits) 0 (Steps k.fields (limits_of k.limits) (SetIn k.fields) (clear_in x)) (clear_in x) (making_sets o (clear_in x)) → OnlySets x y
      → Gives (Written k.fields) (λ (h : SP). h.0) o (diagrams_in x) r (diagrams_in y) x.scratch.now y.scratch.now → Ran k 0 0 (SetIn k.fields) (λ (h : SP). h.0) (making_sets o) x r y
  by_images {o} E K G = ran_beside W E K.scratch.length K.states r (making_sets_is K o r G.is) (images_left k.fields y x.scratch.now y.scratch.now r G.left)

  module _ (a : ℕ) (at : SpLaws.ValidAt (sets_in x) k.fields a) where
    module _ (b : ℕ) (bt : SpLaws.ValidAt (sets_in x) k.fields b) where
      pub union_ran : OnlySets x y → Gives SpNoted (λ (h : SP). h.0) (Sp.union k.fields a b) (sets_in x) r (sets_in y) x.scratch.now y.scratch.now → Ran k 0 0 (SetIn k.fields) (λ (h : SP). h.0) (on_sets (Sp.union k.fields a b)) x r y
      union_ran K G = by_sets (ends_map (λ τ h v. record { gone = v.gone; ordered = v.ordered; holds = v.holds.1.at })
          (sets_step (order x W) (SpSets.union_runs k.fields k.fields (omega arith) (sets_in x) a b _ _ (order x W).sets (SpLawsProofs.den_mem at) (SpLawsProofs.den_mem bt))
          (SpRefused.union_stops k.fields k.fields (omega arith) (sets_in x) a b _ _ (order x W).sets (SpLawsProofs.den_mem at) (SpLawsProofs.den_mem bt)))) K G

      pub difference_ran : OnlySets x y → Gives SpNoted (λ (h : SP). h.0) (Sp.difference k.fields a b) (sets_in x) r (sets_in y) x.scratch.now y.scratch.now
          → Ran k 0 0 (SetIn k.fields) (λ (h : SP). h.0) (on_sets (Sp.difference k.fields a b)) x r y
      difference_ran K G = by_sets (ends_map (λ τ h v. record { gone = v.gone; ordered = v.ordered; holds = v.holds.1.at })
          (sets_step (order x W) (SpSets.difference_runs k.fields k.fields (omega arith) (sets_in x) a b _ _ (order x W).sets (SpLawsProofs.den_mem at) (SpLawsProofs.den_mem bt))
          (SpRefused.difference_stops k.fields k.fields (omega arith) (sets_in x) a b _ _ (order x W).sets (SpLawsProofs.den_mem at) (SpLawsProofs.den_mem bt)))) K G

    module _ (e : ℕ) (et : ValidAt (nodes_in x) k.fields e) where
      pub push_ran : OnlySets x y → Gives (Written k.fields) (λ (h : SP). h.0) (Images.push k.fields k.fields a e) (diagrams_in x) r (diagrams_in y) x.scratch.now y.scratch.now
          → Ran k 0 0 (SetIn k.fields) (λ (h : SP). h.0) (making_sets (Images.push k.fields k.fields a e)) x r y
      push_ran K G = by_images (ends_map (λ τ h v. record { gone = v.gone; ordered = v.ordered; holds = v.holds.1.at })
          (images_step (order x W) (λ u v. SpLaws.Denotes u k.fields v _) (push_exact k.fields k.fields (omega arith) (diagrams_in x) a e _ _ (both_wf (order x W)) (SpLawsProofs.den_mem at) (den_mem et)))) K G

      pub pull_ran : OnlySets x y → Gives (Written k.fields) (λ (h : SP). h.0) (Images.pull k.fields k.fields e a) (diagrams_in x) r (diagrams_in y) x.scratch.now y.scratch.now
          → Ran k 0 0 (SetIn k.fields) (λ (h : SP). h.0) (making_sets (Images.pull k.fields k.fields e a)) x r y
      pull_ran K G = by_images (ends_map (λ τ h v. record { gone = v.gone; ordered = v.ordered; holds = v.holds.1.at })
          (images_step (order x W) (λ u v. SpLaws.Denotes u k.fields v _) (pull_exact k.fields k.fields (omega arith) (diagrams_in x) a e _ _ (both_wf (order x W)) (SpLawsProofs.den_mem at) (den_mem et)))) K G

  pub bwd_ran : (e : ℕ) → ValidAt (nodes_in x) k.fields e → OnlySets x y → Gives (Written k.fields) (λ (h : SP). h.0) (Images.bwd k.fields e) (diagrams_in x) r (diagrams_in y) x.scratch.now y.scratch.now
      → Ran k 0 0 (SetIn k.fields) (λ (h : SP). h.0) (making_sets (Images.bwd k.fields e)) x r y
  bwd_ran e et K G = by_images (ends_map (λ τ h v. record { gone = v.gone; ordered = v.ordered; holds = v.holds.1.at })
      (images_step (order x W) (λ u v. SpLaws.Denotes u k.fields v _) (bwd_exact k.fields k.fields (omega arith) (diagrams_in x) e _ (both_wf (order x W)) (den_mem et)))) K G

-- whether some packet of a set is related to some packet: a step that always gives
module _ {k : Config} {x y : Lent} (W : Working k.fields k.limits (tables_in x) x.scratch.now) {a e : ℕ} {b : Bool} where
  pub has_ran : OnlyScratch x y → PostHas k.fields (diagrams_in x) a e b x.scratch.now y.scratch.now → Ran k 0 0 (λ τ b. Unit) (λ (b : Bool). b) (λ τ. given τ (Images.has_image k.fields k.fields a e (diagrams τ))) x (Ok b) y
  has_ran K A = ran_beside W (comes (record { gone = gone_refl (clear_in x); ordered = W.ready.ordered; holds = tt })) K.scratch.length K.states (Ok b)
      (ap (λ (b : Bool). given (clear_in x) b) (sym A.is) ∙ ap (λ (σ : Tables). given σ b) same) (subst (λ (σ : Tables). Leaves k.fields 0 0 σ x.scratch.now y.scratch.now) same (has_leaves x A))
    where
      same : clear_in x ≡ clear_in y
      same = rw (sym K.sp) (rw (sym K.spp) (rw (sym K.states) (rw (sym K.members) (rw (sym K.transitions) refl))))

-- ---- relations

module _ {x y : Lent} (K : KeepsExprs x y) where
  same_relations : put_relations (nodes_in y) (clear_in x) ≡ clear_in y
  same_relations = rw (sym K.sp) (rw (sym K.states) (rw (sym K.members) (rw (sym K.transitions) refl)))

  making_relations_is : (o : Step Stores ℕ) (r : Result SPP Refusal) → o (diagrams_in x) ≡ outcome (λ (h : SPP). h.0) r (diagrams_in y) → making_relations o (clear_in x) ≡ outcome (λ (h : SPP). h.0) r (clear_in y)
  making_relations_is o (Ok h) e = ap (placed (λ s σ. put_relations s.spp σ) (clear_in x)) e ∙ ap (λ (σ : Tables). given σ h.0) same_relations
  making_relations_is o (Err z) e = ap (placed (λ s σ. put_relations s.spp σ) (clear_in x)) e

  on_nodes_is : (o : Step Table ℕ) (r : Result SPP Refusal) → o (nodes_in x) ≡ outcome (λ (h : SPP). h.0) r (nodes_in y) → on_base (on_aut (on_nodes o)) (clear_in x) ≡ outcome (λ (h : SPP). h.0) r (clear_in y)
  on_nodes_is o (Ok h) e = ap (λ (v : Outcome Table ℕ). placed put_base (clear_in x) (placed put_aut (clear_in x).base (placed put_nodes (clear_in x).base.aut v))) e ∙ ap (λ (σ : Tables). given σ h.0) same_relations
  on_nodes_is o (Err z) e = ap (λ (v : Outcome Table ℕ). placed put_base (clear_in x) (placed put_aut (clear_in x).base (placed put_nodes (clear_in x).base.aut v))) e

lifts_left : (N : ℕ) (y : Lent) (s s' : List ℕ) (r : Result SPP Refusal) → Unless r (NotesBehind (OnlyCodes 10 15 (Kept N (diagrams_in y))) s s') → Unless r (Leaves N 0 0 (clear_in y) s s')
lifts_left N y s s' (Ok h) p = leaves_lifts (clear_in y) p
lifts_left N y s s' (Err z) p = tt

modifies_left : (N a n : ℕ) (y : Lent) {V : Type 0} (s s' : List ℕ) (r : Result V Refusal) → Unless r (Modifies N a n (nodes_in y) s s') → Unless r (Leaves N a n (clear_in y) s s')
modifies_left N a n y s s' (Ok h) p = leaves_left (clear_in y) p
modifies_left N a n y s s' (Err z) p = tt

module _ {k : Config} {x y : Lent} {r : Result SPP Refusal} (W : Working k.fields k.limits (tables_in x) x.scratch.now) where
  pub ifwd_ran : (a : ℕ) → SpLaws.ValidAt (sets_in x) k.fields a → KeepsExprs x y
      → Gives (λ σ. OnlyCodes 10 15 (Kept k.fields σ)) (λ (h : SPP). h.0) (Images.ifwd k.fields a) (diagrams_in x) r (diagrams_in y) x.scratch.now y.scratch.now
      → Ran k 0 0 (RelIn k.fields) (λ (h : SPP). h.0) (making_relations (Images.ifwd k.fields a)) x r y
  ifwd_ran a at K G = ran_beside W
      (ends_map (λ τ h v. record { gone = v.gone; ordered = v.ordered; holds = v.holds.at })
      (relations_step (order x W) (λ u v. Denotes u k.fields v _) (ifwd_exact k.fields k.fields (diagrams_in x) a _ (both_wf (order x W)) (SpLawsProofs.den_mem at))))
      K.scratch.length K.states r (making_relations_is K (Images.ifwd k.fields a) r G.is) (lifts_left k.fields y x.scratch.now y.scratch.now r G.left)

  pub intersect_ran : (e : ℕ) → ValidAt (nodes_in x) k.fields e → (f : ℕ) → ValidAt (nodes_in x) k.fields f → KeepsExprs x y → Does k.fields 0 0 nodes_in (λ (h : SPP). h.0) (Rel.intersect k.fields e f) x r y
      → Ran k 0 0 (RelIn k.fields) (λ (h : SPP). h.0) (on_base (on_aut (on_nodes (Rel.intersect k.fields e f)))) x r y
  intersect_ran e et f ft K D = ran_beside W
      (ends_map (λ τ h v. record { gone = v.gone; ordered = v.ordered; holds = v.holds.at }) (goes_ends (order x W) (nodes_goes (order x W).worked.good (intersect_made k.fields (nodes_in x) (order x W).worked.good.nodes e f et ft))))
      K.scratch.length K.states r (on_nodes_is K (Rel.intersect k.fields e f) r D.is) (modifies_left k.fields 0 0 y x.scratch.now y.scratch.now r D.left)

-- ---- epsilon and delta, which are worked out on the tables as they are

-- the list that is stored; words 8 to 11, and what lies beyond the states
links_in : {N : ℕ} {L : Limits} {τ : Tables} {es : List Edge} {list : List (Transition State N)} → Are (readings N L) τ.base.aut es list → (e : Edge) → Memᴰ e es → EdgeIn N τ e
links_in Are.none e m = absurd (Memᴰ.not-nil m)
links_in {N} {τ = τ} (Are.also k d as') e m = ⊎_elim (λ q. subst (EdgeIn N τ) (sym q) (record { known = k; at = d.at })) (λ n. links_in as' e n) (Memᴰ.cases_cons m)

beyond : {k : Config} {a n : ℕ} {V A : Type 0} {P : Store → A → Type 0} {see : V → A} {o : Step Store A} {x y : Lent} (r : Result V Refusal) → GoesStore k a n P see o x r y → Unless r (Fresh (store_in y) × Unwritten (tables_in x) (tables_in y))
beyond (Ok v) g = (g.post.then.ready.ready.good.fresh, λ i w p q. g.post.then.ext.others i w (omega arith) q)
beyond (Err e) g = tt

store_left : {k : Config} {a n : ℕ} {V A : Type 0} {P : Store → A → Type 0} {see : V → A} {o : Step Store A} {x y : Lent} (r : Result V Refusal) → GoesStore k a n P see o x r y → Unless r (Leaves k.fields a n (clear_in y) x.scratch.now y.scratch.now)
store_left {y = y} (Ok v) g = leaves_left (clear_in y) g.post.then.frame
store_left (Err e) g = tt

module _ {x y : Lent} (N i : ℕ) where
  epsilon_is : Keeps x y → (r : Result SPP Refusal) → epsilon N i (aut_in x) ≡ outcome (λ (h : SPP). h.0) r (aut_in y) → on_base (on_aut (epsilon N i)) (clear_in x) ≡ outcome (λ (h : SPP). h.0) r (clear_in y)
  epsilon_is K (Ok h) e = epsilon_clear_tables N i (tables_in x) ∙ ap (λ (o : Outcome Aut ℕ). cleared clear_tables (placed put_base (tables_in x) (placed put_aut (store_in x) o))) e ∙ rw (sym K.sp) (rw (sym K.transitions) refl)
  epsilon_is K (Err z) e = epsilon_clear_tables N i (tables_in x) ∙ ap (λ (o : Outcome Aut ℕ). cleared clear_tables (placed put_base (tables_in x) (placed put_aut (store_in x) o))) e

  delta_is : (L : Limits) {V : Type 0} (see : V → List Edge) → KeepsStore x y → (r : Result V Refusal) → delta N L i (store_in x) ≡ outcome see r (store_in y) → on_base (delta N L i) (clear_in x) ≡ outcome see r (clear_in y)
  delta_is L see K (Ok v) e = delta_clear_tables N L i (tables_in x) ∙ ap (λ (o : Outcome Store (List Edge)). cleared clear_tables (placed put_base (tables_in x) o)) e ∙ rw (sym K.sp) refl
  delta_is L see K (Err z) e = delta_clear_tables N L i (tables_in x) ∙ ap (λ (o : Outcome Store (List Edge)). cleared clear_tables (placed put_base (tables_in x) o)) e

module _ {k : Config} {x y : Lent} (V : WorkingIn k x) {i : ℕ} (has : i < x.states.count) where
  module _ {r : Result SPP Refusal} (K : Keeps x y) (D : Does k.fields 0 0 aut_in (λ (h : SPP). h.0) (epsilon k.fields i) x r y) (L : Later k.fields i x r y) where
    pub epsilon_ran : Ran k 0 0 (RelIn k.fields) (λ (h : SPP). h.0) (on_base (on_aut (epsilon k.fields i))) x r y
    epsilon_ran = ran V.working (ends_map (λ τ e w. record { gone = w.gone; ordered = w.ordered; holds = w.holds.den.at }) (epsilon_ends (order x V.working) has)) K.scratch.length r
        (epsilon_is k.fields i K r D.is) (modifies_left k.fields 0 0 y x.scratch.now y.scratch.now r D.left) (beyond r (epsilon_goes (asks_store V) K i D L))

  module _ {U : Type 0} {r : Result U Refusal} {Q : Store → List Edge → Type 0} (K : KeepsStore x y) (D : GoesStore k 0 1088 Q (λ (v : U). list_at (store_in y) i) (delta k.fields (limits_of k.limits) i) x r y) where
    pub delta_ran : Ran k 0 1088 (ListIn k.fields i) (λ (v : U). list_at (store_in y) i) (on_base (delta k.fields (limits_of k.limits) i)) x r y
    delta_ran = ran V.working (ends_map (λ τ e w. record { gone = w.gone; ordered = w.ordered; holds = record { stored = w.holds.0; edges = links_in w.holds.1.are } }) (delta_ends (order x V.working) has)) K.scratch.length r
        (delta_is k.fields i (limits_of k.limits) (λ (v : U). list_at (store_in y) i) K r D.post.is) (store_left r D) (beyond r D)

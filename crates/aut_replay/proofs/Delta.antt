-- delta keeps tables settled, and a list that is stored in settled tables is given again in all later ones, or no record of transitions is left.
use Rattle.std.specs.Prelude.{if◌then◌else◌}
use mathlib.Core.Path.{◌≡◌, refl, sym, ◌∙◌, ap, subst}
use mathlib.Core.Bool.{Bool, true, false}
use mathlib.Core.List.{List, [], ◌∷◌}
use mathlib.Core.Logic.{◌⊎◌, inl, inr, ⊎_elim}
use Prim.Native.Nat.{ℕ, zero, suc, ◌+◌, ◌*◌, ◌-◌, ◌≤◌, ◌<◌}
use native.Mathlib.Omega.{arith}
use lib.Dec.{eqb, ltb}
use lib.ListN.{length, get_or}
use borrow.Author.Tests.{eqb-true, eqb-false, ltb-true, ltb-false}
use Rattle.common.specs.Outcome.{Outcome, refused, given, Step, return, after, ◌>>=◌}
use Rattle.common.proofs.Follow.{given_of, given_same, refused≢given}
use Rattle.common.specs.Runs.{Table, placed}
use Rattle.netkat.specs.Rules.{sequence, star, until, next}
use Rattle.netkat_steps.specs.ListSteps.{Edge}
use Rattle.spp_steps.specs.Wf.{Ext, ValidAt}
use Rattle.spp_steps.proofs.Laws.{ext_refl, by_test}
use Rattle.aut_steps.specs.Relations as Rel
use Rattle.aut_steps.specs.Tables.{SEQUENCE, STAR, NEXT, UNTIL, Limits, Aut, put_nodes, on_nodes}
use Rattle.aut_steps.specs.Kinds.{form}
use Rattle.aut_steps.specs.Ascending.{All}
use Rattle.aut_steps.proofs.ListLaws.{all_map, all_with}
use Rattle.aut_steps.proofs.StateLaws as StateLaws
use Rattle.aut_steps.specs.Wf.{states, kind, first, second, nesting, members, ExtM, ExtAut, WfAut}
use Rattle.aut_steps.proofs.Wf.{extm_refl, grown_nodes, kind_grown, first_grown, nesting_grown, state_grown}
use Rattle.aut_st_steps.specs.Edges.{edges}
use Rattle.aut_st_steps.specs.ListSpec.{ListAt}
use Rattle.aut_delta_steps.proofs.ListGoes.{list_at_lem}
use Rattle.aut_delta_steps.specs.Epsilon.{epsilon_of, epsilon}
use Rattle.aut_delta_steps.specs.Delta.{start_of, count_of, Store, store, put_aut, room_t, append, list_at, keep_list, delta}
use Rattle.aut_delta_steps.proofs.Agree.{agree_given}
use Rattle.aut_delta_steps.specs.Fits.{Since}
use Rattle.aut_delta_steps.specs.Noted.{Noted}
use Rattle.aut_delta_steps.proofs.Noted.{noted_grown, written, written_other, written_count}
use Rattle.aut_delta_steps.specs.Wf.{Valued, handle, memo, WfStore, Stored}
use Rattle.aut_delta_steps.proofs.Wf.{valued_reads, worked_since}
use Rattle.aut_delta_steps.proofs.Operands.{below_one, below_two}
use Rattle.aut_delta_steps.specs.EpsilonSpec.{Ready, Epsiloned}
use Rattle.aut_delta_steps.specs.EpsilonReads.{work_all}
use Rattle.aut_delta_steps.proofs.EpsilonReads.{given_store}
use Rattle.aut_delta_steps.specs.Extends.{ExtStore}
use Rattle.aut_delta_steps.proofs.Extends.{went_refl, went_trans, went_since, went_noted, stored_went, edges_length, keeping, keeping_stored, keeping_went}
use Rattle.aut_delta_steps.proofs.DeltaRuns.{Deltaed}
use Rattle.aut_delta_steps.proofs.DeltaLaws.{delta_goes}
use Rattle.aut_delta_steps.specs.DeltaReads.{list_operands, quit, enter_with, enter}
use Rattle.aut_delta_steps.proofs.DeltaReads.{together, finish_list, list_operands_below, entered, entered_went, entered_worked, star_noted, star_went, star_worked, star_again, delta_stored, delta_works}
use Rattle.aut_replay.specs.Replay.{Later, Wider, Again, Replays, stops, comes, In, values, HasEpsilon, Settled, EpsilonDone, list_from, ListKept, SettledLists, Written, DeltaDone, lacks, gives, DeltaAgain}
use Rattle.aut_replay.proofs.Runs.{later_refl, grown_later, again_grown, kind_later, first_later}
use Rattle.aut_replay.proofs.Values.{star_runs}
use Rattle.aut_replay.proofs.Epsilon.{Kept, valued_kept, value_kept, has_kept, has_valued, settled_kept, was_there, settled_grown, ran, ran_ready, settles, values_agree, later_noted, done_by}
use Rattle.aut_replay.proofs.Together.{Operands, together_replay, together_as, list_operands_later, list_from_later}

-- ---- what is stored stays

pub ready_of : {N : ℕ} {M : Limits} {σ : Store} → WfStore N M σ → Ready N M σ.aut
ready_of W = record { good = W.good; epsilons = W.epsilons }

module _ {N : ℕ} {M : Limits} {σ : Aut} (g : WfAut N M σ) {x : ℕ} (l : x < states σ) where
  sequence_first : kind σ x ≡ SEQUENCE → first σ x < states σ
  unfolding form
  sequence_first e = (below_two g l SEQUENCE e sequence refl).0.state

  star_first : kind σ x ≡ STAR → first σ x < states σ
  unfolding form
  star_first e = (below_one g l STAR e star refl).state

-- an epsilon that is at hand is a relation
has_at : {N : ℕ} {M : Limits} {σ : Aut} → Ready N M σ → {x e : ℕ} → x < states σ → Valued σ x e → ValidAt σ.nodes N e
has_at {N} {σ = σ} r {x} l (handle k f) = subst (ValidAt σ.nodes N) f (StateLaws.handle r.good l k)
has_at r {x} {e} l (memo n m) = (r.epsilons.kept x l e m).den.at

-- tables where all that σ has stored is as it was
record Stays (σ τ : Store) : Type 0 where
  grown : ExtAut σ.aut τ.aut
  epsilons : Kept σ.aut τ.aut
  counts : (x : ℕ) → 0 < count_of σ.aut.states.words x → 0 < count_of τ.aut.states.words x
  reads : (x : ℕ) → x < states σ.aut → 0 < count_of σ.aut.states.words x → list_at τ x ≡ list_at σ x

stays_went : {N : ℕ} {M : Limits} {σ τ : Store} → WfStore N M σ → ExtStore σ τ → Stays σ τ
stays_went W w = record {
  grown = w.grown;
  epsilons = w.epsilons;
  counts = λ x m. omega (arith, (w.lists x m).0);
  reads = λ x l m. (stored_went W w l (record { marked = m; reads = refl })).reads;
}

module _ {N : ℕ} {M : Limits} {σ τ : Store} (W : WfStore N M σ) (w : Stays σ τ) where
  later : Later σ.aut τ.aut
  later = grown_later w.grown (later_refl τ.aut)

  module _ {x : ℕ} (l : x < states σ.aut) where
    first_has : first σ.aut x < states σ.aut → HasEpsilon σ.aut (first σ.aut x) → HasEpsilon τ.aut (first τ.aut x)
    first_has b h = subst (λ (a : ℕ). HasEpsilon τ.aut a) (sym (first_grown w.grown x l)) (has_kept w.grown w.epsilons b h)

    first_value : first σ.aut x < states σ.aut → HasEpsilon σ.aut (first σ.aut x) → values τ.aut (first σ.aut x) ≡ values σ.aut (first σ.aut x)
    first_value b h = value_kept w.grown w.epsilons b h

    list_made : {L : Limits} → All (λ y. 0 < count_of σ.aut.states.words y) (list_operands σ x)
        → (kind σ.aut x ≡ SEQUENCE → HasEpsilon σ.aut (first σ.aut x))
        → (kind σ.aut x ≡ STAR → HasEpsilon σ.aut (first σ.aut x) × ((h : ℕ) × Again N L (on_nodes (Rel.star N (values σ.aut (first σ.aut x)))) τ.aut h))
        → Again N L (list_from N L (list_at σ) (values σ.aut) σ.aut x) τ.aut (list_at τ x) → ListKept N L τ x
    list_made {L} a s t r = record {
      operands = subst (All (λ y. 0 < count_of τ.aut.states.words y)) (sym (list_operands_later W.good later x l)) (all_map (list_operands σ x) (λ y m. w.counts y m) a);
      sequence = λ q. let e = sym (kind_grown w.grown x l) ∙ q in first_has (sequence_first W.good l e) (s e);
      star = λ q.
          let e = sym (kind_grown w.grown x l) ∙ q in
          let (h, (n, i)) = t e in (
            first_has (star_first W.good l e) h,
            (n, record { same = λ υ u v. ap (λ (a : ℕ). on_nodes (Rel.star N a) υ) (ap (values τ.aut) (first_grown w.grown x l) ∙ first_value (star_first W.good l e) h) ∙ i.same υ u v }),
          );
      again = record {
        same = λ υ u v.
            ap (λ (c : Step Aut (List Edge)). c υ)
            (list_from_later W.good later x l L (list_at τ) (values τ.aut)
            ∙ together_as N L (list_at τ) (list_at σ) (values τ.aut (first σ.aut x)) (values σ.aut (first σ.aut x)) (kind σ.aut x) x (members σ.aut x) (first σ.aut x) (second σ.aut x)
            (all_with (list_operands σ x) (λ y b m. w.reads y b.state m) (list_operands_below W l) a)
            (λ q. let e = eqb-true (kind σ.aut x) SEQUENCE q in first_value (sequence_first W.good l e) (s e))
            (λ q. let e = eqb-true (kind σ.aut x) STAR q in first_value (star_first W.good l e) (t e).0))
            ∙ r.same υ u v;
      };
    }

  -- each that is stored now was stored, or is kept so
  settled_went : {L : Limits} → SettledLists N L σ → Settled N L τ.aut
      → ((x : ℕ) → x < states τ.aut → 0 < count_of τ.aut.states.words x → ((x < states σ.aut) × (0 < count_of σ.aut.states.words x)) ⊎ ListKept N L τ x) → SettledLists N L τ
  settled_went {L} s e f = record { settled = e; lists = λ x l m. ⊎_elim (λ (l', m'). old x l' m') (λ p. p) (f x l m) }
    where
      old : (x : ℕ) → x < states σ.aut → 0 < count_of σ.aut.states.words x → ListKept N L τ x
      old x l m =
          let p : ListKept N L σ x = s.lists x l m in
          list_made l p.operands p.sequence (λ q. let (h, (n, i)) = p.star q in (h, (n, again_grown w.grown i)))
          (subst (Again N L (list_from N L (list_at σ) (values σ.aut) σ.aut x) τ.aut) (sym (w.reads x l m)) (again_grown w.grown p.again))

-- ---- steps that store no list

module _ {N : ℕ} {M L : Limits} {σ : Store} (W : WfStore N M σ) (s : SettledLists N L σ) where
  -- constructors and list operations
  pub settled_since : {α : Aut} → Since N M σ.aut α → SettledLists N L (store α σ.transitions)
  unfolding count_of
  settled_since {α} i =
      settled_went W (stays_went W (went_since i)) s
      (settled_grown (ready_of W) s.settled i.grown i.memos)
      (λ x l m. let q = i.memos x 6 (omega arith) (omega arith) in inl (was_there W.good x 6 (omega (arith, q)), omega (arith, q)))

  -- epsilons
  settled_noted : {α : Aut} → Noted σ.aut α → Settled N L α → SettledLists N L (store α σ.transitions)
  unfolding count_of
  settled_noted {α} n e =
      settled_went W (stays_went W (went_noted n)) s e (λ x l m. inl (omega (arith, n.count), omega (arith, n.words x 6 (omega arith) (λ q. omega arith))))

-- words 7 to 11 of states are written
pub settled_written : {N : ℕ} {M L : Limits} {σ τ : Store} → WfStore N M σ → SettledLists N L σ → Written σ τ → SettledLists N L τ
unfolding epsilon_of count_of start_of list_at
settled_written {σ = σ} {τ = τ} W s n =
    settled_went W stays s
    (settled_kept (ready_of W) grown (λ i m. n.words i 4 (omega arith)) s.settled (λ x l m. inl (omega (arith, n.count), omega (arith, n.words x 4 (omega arith)))))
    (λ x l m. inl (omega (arith, n.count), omega (arith, n.words x 6 (omega arith))))
  where
    grown : ExtAut σ.aut τ.aut
    grown = record {
      nodes = subst (Ext σ.aut.nodes) (sym n.nodes) (ext_refl σ.aut.nodes);
      states = record { more = omega (arith, n.count); len = n.len; keep = λ i w l m. n.words i w (omega arith); beyond = λ j l. n.beyond j (omega (arith, n.count)) };
      members = subst (ExtM σ.aut.members) (sym n.members) (extm_refl σ.aut.members);
    }

    stays : Stays σ τ
    stays = record {
      grown = grown;
      epsilons = λ i m. n.words i 4 (omega arith);
      counts = λ x m. omega (arith, n.words x 6 (omega arith));
      reads = λ x l m. λ d. edges (n.transitions d).words (n.words x 5 (omega arith) d) (n.words x 6 (omega arith) d - 1);
    }

-- ---- what is worked out before the operands' lists

record Entering (N : ℕ) (M L : Limits) (x : ℕ) (σ τ : Store) : Type 0 where
  went : ExtStore σ τ
  worked : WfStore N M τ
  settled : SettledLists N L τ
  counts : (i : ℕ) → count_of τ.aut.states.words i ≡ count_of σ.aut.states.words i
  sequence : kind σ.aut x ≡ SEQUENCE → HasEpsilon τ.aut (first σ.aut x)
  star : kind σ.aut x ≡ STAR → HasEpsilon τ.aut (first σ.aut x) × ((h : ℕ) × Again N L (on_nodes (Rel.star N (values τ.aut (first σ.aut x)))) τ.aut h)

not_star : {k : ℕ} → k ≡ SEQUENCE → k ≡ STAR → ⊥
not_star p q = omega arith

module _ {N : ℕ} {M L : Limits} {σ : Store} (W : WfStore N M σ) (s : SettledLists N L σ) {x : ℕ} (l : x < states σ.aut) where
  abbrev a : ℕ
  a = first σ.aut x

  entering : {τ : Store} → enter N x σ ≡ given τ tt → Entering N M L x σ τ
  unfolding enter_with count_of
  entering {τ} q = at (eqb (kind σ.aut x) SEQUENCE) (eqb (kind σ.aut x) STAR) refl refl q
    where
      with_star : {α : Aut} {ε : ℕ} → eqb (kind σ.aut x) STAR ≡ true → epsilon N a σ.aut ≡ given α ε → (o : Outcome Table ℕ) → Rel.star N ε α.nodes ≡ o
          → placed put_aut σ (after (placed put_nodes α o) quit) ≡ given τ tt → Entering N M L x σ τ
      with_star k e (refused number) z q = absurd (refused≢given q)
      with_star {α} {ε} k e (given t h) z q =
          let m : a < states σ.aut = star_first W.good l (eqb-true _ _ k) in
          let p : Epsiloned N M a σ.aut α ε = entered W m e in
          let n : Noted σ.aut (put_nodes t α) = star_noted W m e z in
          let x₀ = given_of (star_runs N ε p.found.good.nodes (has_at (ran_ready p) (state_grown (noted_grown p.found.noted) m) p.value)) z in
          let gα : ExtAut α (put_nodes t α) = grown_nodes {σ = α} x₀.ext in
          let v : Valued (put_nodes t α) a ε = valued_kept gα (λ i b. refl) (state_grown (noted_grown p.found.noted) m) p.value in
          let e₁ : Settled N L (put_nodes t α) = settled_kept (ran_ready p) gα (λ i b. refl) (settles (ready_of W) s.settled m e) (λ i b c. inl (b, c)) in
          subst (Entering N M L x σ) (given_store q) (record {
            went = star_went W m e z;
            worked = star_worked W m e z;
            settled = settled_noted W s n e₁;
            counts = λ i. n.words i 6 (omega arith) (λ q. omega arith);
            sequence = λ j. absurd (not_star j (eqb-true _ _ k));
            star = λ j. (has_valued v, (h, record { same = λ υ u g. ap (λ (b : ℕ). on_nodes (Rel.star N b) υ) (valued_reads v) ∙ ap (placed put_nodes υ) (star_again W m e z υ.nodes u.nodes g.nodes) }));
          })

      at : (b c : Bool) → eqb (kind σ.aut x) SEQUENCE ≡ b → eqb (kind σ.aut x) STAR ≡ c
          → placed put_aut σ ((if b then (epsilon N a >>= quit) else if c then (epsilon N a >>= λ e. on_nodes (Rel.star N e) >>= quit) else return tt) σ.aut) ≡ given τ tt → Entering N M L x σ τ
      at true c j k q = go (epsilon N a σ.aut) refl q
        where
          go : (o : Outcome Aut ℕ) → epsilon N a σ.aut ≡ o → placed put_aut σ (after o quit) ≡ given τ tt → Entering N M L x σ τ
          go (refused number) e q = absurd (refused≢given q)
          go (given α ε) e q =
              let m : a < states σ.aut = sequence_first W.good l (eqb-true _ _ j) in
              let p : Epsiloned N M a σ.aut α ε = entered W m e in
              subst (Entering N M L x σ) (given_store q) (record {
                went = entered_went W m e;
                worked = entered_worked W m e;
                settled = settled_noted W s p.found.noted (settles (ready_of W) s.settled m e);
                counts = λ i. p.found.noted.words i 6 (omega arith) (λ q. omega arith);
                sequence = λ i. has_valued p.value;
                star = λ i. absurd (not_star (eqb-true _ _ j) i);
              })
      at false true j k q = go (epsilon N a σ.aut) refl q
        where
          go : (o : Outcome Aut ℕ) → epsilon N a σ.aut ≡ o → placed put_aut σ (after o (λ e. on_nodes (Rel.star N e) >>= quit)) ≡ given τ tt → Entering N M L x σ τ
          go (refused number) e q = absurd (refused≢given q)
          go (given α ε) e q = with_star k e (Rel.star N ε α.nodes) refl q
      at false false j k q = subst (Entering N M L x σ) (given_store q) (record {
        went = went_refl σ;
        worked = W;
        settled = s;
        counts = λ i. refl;
        sequence = λ i. absurd (eqb-false _ _ j i);
        star = λ i. absurd (eqb-false _ _ k i);
      })

-- ---- a run of delta

-- words 6 of states that are nested d deep or more are as they were
abbrev AboveLists : ℕ → Store → Store → Type 0
AboveLists d σ τ = (i : ℕ) → i < states σ.aut → d ≤ nesting σ.aut i → count_of τ.aut.states.words i ≡ count_of σ.aut.states.words i

abbrev SettlingLists : ℕ → Limits → Limits → ℕ → Type 0
SettlingLists N M L d = (σ : Store) → WfStore N M σ → SettledLists N L σ → (x : ℕ) → x < states σ.aut → nesting σ.aut x < d → (τ : Store) (es : List Edge) → delta N M x σ ≡ given τ es
    → SettledLists N L τ × AboveLists (nesting σ.aut x + 1) σ τ

record RanAll (N : ℕ) (M L : Limits) (d : ℕ) (ys : List ℕ) (σ τ : Store) : Type 0 where
  went : ExtStore σ τ
  worked : WfStore N M τ
  settled : SettledLists N L τ
  above : AboveLists d σ τ
  stored : All (λ y. 0 < count_of τ.aut.states.words y) ys

module _ {N : ℕ} {M : Limits} where
  deltaed : {σ τ : Store} {x : ℕ} {es : List Edge} → WfStore N M σ → x < states σ.aut → delta N M x σ ≡ given τ es → Deltaed N M x σ τ es
  deltaed W l q = agree_given (delta_goes W l) q

  -- a stored list is within the limit
  list_ok : {σ : Store} → WfStore N M σ → {y : ℕ} → y < states σ.aut → 0 < count_of σ.aut.states.words y → ListAt N M σ.aut (list_at σ y)
  unfolding list_at
  list_ok {σ} W {y} l m = record {
    edges = list_at_lem M ((W.lists.held y l).list m);
    short = omega (arith, edges_length σ.transitions.words (start_of σ.aut.states.words y) (count_of σ.aut.states.words y - 1), (W.lists.held y l).short);
  }

module _ {N : ℕ} {M L : Limits} where
  run_all : (d : ℕ) → SettlingLists N M L d → (ys : List ℕ) {σ τ : Store} → WfStore N M σ → SettledLists N L σ → All (λ y. (y < states σ.aut) × (nesting σ.aut y < d)) ys
      → work_all (delta N M) ys σ ≡ given τ tt → RanAll N M L d ys σ τ
  unfolding work_all
  run_all d f [] {σ} {τ} W s b q = subst (RanAll N M L d [] σ) (given_store q) (record { went = went_refl σ; worked = W; settled = s; above = λ i l m. refl; stored = tt })
  run_all d f (y ∷ ys) {σ} {τ} W s b q = go (λ ρ. run_all d f ys {σ = ρ} {τ = τ}) (delta N M y σ) refl q
    where
      go : ((ρ : Store) → WfStore N M ρ → SettledLists N L ρ → All (λ y. (y < states ρ.aut) × (nesting ρ.aut y < d)) ys → work_all (delta N M) ys ρ ≡ given τ tt → RanAll N M L d ys ρ τ)
          → (o : Outcome Store (List Edge)) → delta N M y σ ≡ o → after o (λ a. work_all (delta N M) ys) ≡ given τ tt → RanAll N M L d (y ∷ ys) σ τ
      go ih (refused number) e q = absurd (refused≢given q)
      go ih (given ρ es) e q =
          let p : Deltaed N M y σ ρ es = deltaed W b.0.0 e in
          let n : ExtStore σ ρ = p.listed.went in
          let (s₁, u₁) = f σ W s y b.0.0 b.0.1 ρ es e in
          let r : RanAll N M L d ys ρ τ = ih ρ p.listed.worked s₁ (all_map ys (λ z c. (state_grown n.grown c.0, omega (arith, c.1, nesting_grown n.grown z c.0))) b.1) q in
          record {
            went = went_trans n r.went;
            worked = r.worked;
            settled = r.settled;
            above = λ i l m. r.above i (state_grown n.grown l) (omega (arith, nesting_grown n.grown i l)) ∙ u₁ i l (omega (arith, b.0.1));
            stored = ((stays_went p.listed.worked r.went).counts y p.stored.marked, r.stored);
          }

  module _ (wide : Wider M L) {σ : Store} (W : WfStore N M σ) {x : ℕ} (l : x < states σ.aut) (z : count_of σ.aut.states.words x ≡ 0) where
    -- in τ the operands' lists are there; the list of x is put together, and stored
    put_together : {τ : Store} → ExtStore σ τ → WfStore N M τ → SettledLists N L τ → AboveLists (nesting σ.aut x) σ τ → All (λ y. 0 < count_of τ.aut.states.words y) (list_operands σ x)
        → (kind σ.aut x ≡ SEQUENCE → HasEpsilon τ.aut (first σ.aut x))
        → (kind σ.aut x ≡ STAR → HasEpsilon τ.aut (first σ.aut x) × ((h : ℕ) × Again N L (on_nodes (Rel.star N (values τ.aut (first σ.aut x)))) τ.aut h))
        → {ρ : Store} {es : List Edge} → after (together N M x τ) (keep_list x) ≡ given ρ es → SettledLists N L ρ × AboveLists (nesting σ.aut x + 1) σ ρ
    unfolding form keep_list count_of epsilon_of
    put_together {τ} m W₂ s₂ u a c d {ρ} {es} q =
        go (together_replay wide W₂.good W₂.lists.some (list_at τ) (values α (first α x)) (kind α x) x (members α x) (first α x) (second α x) operands) q
      where
        α : Aut
        α = τ.aut

        lx : x < states α
        lx = state_grown m.grown l

        w₁ : Later σ.aut α
        w₁ = grown_later m.grown (later_refl α)

        was : {k : ℕ} → kind α x ≡ k → kind σ.aut x ≡ k
        was e = sym (kind_grown m.grown x l) ∙ e

        same_first : first α x ≡ first σ.aut x
        same_first = first_grown m.grown x l

        at_first : HasEpsilon α (first σ.aut x) → HasEpsilon α (first α x)
        at_first h = subst (λ (y : ℕ). HasEpsilon α y) (sym same_first) h

        stored : All (λ y. 0 < count_of α.states.words y) (list_operands τ x)
        stored = subst (All (λ y. 0 < count_of α.states.words y)) (sym (list_operands_later W.good w₁ x l)) a

        operands : Operands N M α (list_at τ) (values α (first α x)) (kind α x) x (members α x) (first α x) (second α x)
        operands = record {
          lists = all_with (list_operands τ x) (λ y b k. list_ok W₂ b.state k) (list_operands_below W₂ lx) stored;
          state = lx;
          sequence = λ j. let e = eqb-true (kind α x) SEQUENCE j in
              ((below_two W₂.good lx SEQUENCE e sequence refl).1.state, record { at = has_at (ready_of W₂) (sequence_first W₂.good lx e) (at_first (c (was e))) });
          star = λ j. let e = eqb-true (kind α x) STAR j in record { at = has_at (ready_of W₂) (star_first W₂.good lx e) (at_first (d (was e)).0) };
          next = λ j. (below_one W₂.good lx NEXT (eqb-true (kind α x) NEXT j) next refl).state;
          until = λ j. let (p, r) = below_two W₂.good lx UNTIL (eqb-true (kind α x) UNTIL j) until refl in (p.state, r.state);
        }

        go : {o : Outcome Aut (List Edge)} → Replays N L (In N M (ListAt N M)) (list_from N L (list_at τ) (values α) α x) α o → after (placed put_aut τ o) (keep_list x) ≡ given ρ es
            → SettledLists N L ρ × AboveLists (nesting σ.aut x + 1) σ ρ
        go stops q = absurd (refused≢given q)
        go (comes {τ = β} {a = fs} gr mm (v, la) ag) q = keep (room_t τ.transitions (length fs)) refl q
          where
            i : Since N M α β
            i = record { grown = gr; memos = mm; good = v }

            τ₃ : Store
            τ₃ = store β τ.transitions

            W₃ : WfStore N M τ₃
            W₃ = worked_since W₂ i

            s₃ : SettledLists N L τ₃
            s₃ = settled_since W₂ s₂ i

            l₃ : x < states β
            l₃ = state_grown gr lx

            none : get_or β.states.words (12 * x + 6) 0 ≡ 0
            none = mm x 6 (omega arith) (omega arith) ∙ u x l (omega arith) ∙ z

            keep : (b : Bool) → room_t τ.transitions (length fs) ≡ b
                → (if b then given (store (written (written β x 5 τ.transitions.count) x 6 (length fs + 1)) (append fs τ.transitions)) fs else refused 25) ≡ given ρ es
                → SettledLists N L ρ × AboveLists (nesting σ.aut x + 1) σ ρ
            keep false room q = absurd (refused≢given q)
            keep true room q = subst (λ (κ : Store). SettledLists N L κ × AboveLists (nesting σ.aut x + 1) σ κ) (given_store q) (settled, above)
              where
                last : Store
                last = keeping W₃ l₃ fs room

                went : ExtStore τ₃ last
                went = keeping_went W₃ l₃ fs room (went_refl τ₃) none

                word : (y k : ℕ) → ((y ≡ x) → (k ≡ 5) → ⊥) → ((y ≡ x) → (k ≡ 6) → ⊥) → k < 12 → get_or last.aut.states.words (12 * y + k) 0 ≡ get_or β.states.words (12 * y + k) 0
                word y k p5 p6 b =
                    written_other (written β x 5 τ.transitions.count) x 6 (length fs + 1) (12 * y + k) (λ e. p6 (omega arith) (omega arith))
                    ∙ written_other β x 5 τ.transitions.count (12 * y + k) (λ e. p5 (omega arith) (omega arith))

                same_states : states last.aut ≡ states β
                same_states = written_count (written β x 5 τ.transitions.count) x 6 (length fs + 1) ∙ written_count β x 5 τ.transitions.count

                kept : ListKept N L last x
                kept =
                    list_made W₂ (stays_went W₂ (went_trans (went_since i) went)) lx stored (λ e. at_first (c (was e)))
                    (λ e. let (h, (n, r)) = d (was e) in
                    (at_first h, (n, record { same = λ υ w g. ap (λ (y : ℕ). on_nodes (Rel.star N (values α y)) υ) same_first ∙ r.same υ (grown_later gr (grown_later went.grown w)) g })))
                    (subst (Again N L (list_from N L (list_at τ) (values α) α x) last.aut) (sym (keeping_stored W₃ l₃ fs room).reads) (again_grown went.grown ag))

                epsilons : Settled N L last.aut
                epsilons = settled_kept (ready_of W₃) went.grown went.epsilons s₃.settled (λ y b k. inl (omega (arith, same_states), omega (arith, word y 4 (λ e f. omega arith) (λ e f. omega arith) (omega arith))))

                settled : SettledLists N L last
                settled = settled_went W₃ (stays_went W₃ went) s₃ epsilons (λ y b k. by_test (eqb y x)
                    (λ j. inr (subst (ListKept N L last) (sym (eqb-true y x j)) kept))
                    (λ j. inl (omega (arith, same_states), omega (arith, word y 6 (λ e f. omega arith) (λ e f. eqb-false y x j e) (omega arith)))))

                above : AboveLists (nesting σ.aut x + 1) σ last
                above y b k =
                    word y 6 (λ e f. omega arith) (λ e f. omega (arith, ap (nesting σ.aut) e)) (omega arith) ∙ mm y 6 (omega arith) (omega arith) ∙ u y b (omega arith)

    works : SettledLists N L σ → SettlingLists N M L (nesting σ.aut x) → {ρ : Store} {es : List Edge} → after (enter N x σ) (λ u. finish_list N M (list_operands σ x) x) ≡ given ρ es
        → SettledLists N L ρ × AboveLists (nesting σ.aut x + 1) σ ρ
    works s f {ρ} {es} q = at_enter (enter N x σ) refl q
      where
        at_enter : (o : Outcome Store Unit) → enter N x σ ≡ o → after o (λ u. finish_list N M (list_operands σ x) x) ≡ given ρ es → SettledLists N L ρ × AboveLists (nesting σ.aut x + 1) σ ρ
        at_enter (refused number) e q = absurd (refused≢given q)
        at_enter (given σ₁ u) e q = at_work (work_all (delta N M) (list_operands σ x) σ₁) refl q
          where
            n : Entering N M L x σ σ₁
            n = entering W s l e

            at_work : (o : Outcome Store Unit) → work_all (delta N M) (list_operands σ x) σ₁ ≡ o → after o (λ u υ. after (together N M x υ) (keep_list x)) ≡ given ρ es
                → SettledLists N L ρ × AboveLists (nesting σ.aut x + 1) σ ρ
            at_work (refused number) e₂ q = absurd (refused≢given q)
            at_work (given σ₂ u) e₂ q =
                let g₁ : ExtAut σ.aut σ₁.aut = n.went.grown in
                let r : RanAll N M L (nesting σ.aut x) (list_operands σ x) σ₁ σ₂ =
                run_all (nesting σ.aut x) f (list_operands σ x) n.worked n.settled
                (all_map (list_operands σ x) (λ y b. (state_grown g₁ b.state, omega (arith, b.lower, nesting_grown g₁ y b.state))) (list_operands_below W l)) e₂ in
                put_together (went_trans n.went r.went) r.worked r.settled
                (λ i b k. r.above i (state_grown g₁ b) (omega (arith, nesting_grown g₁ i b)) ∙ n.counts i) r.stored
                (λ j. has_kept r.went.grown r.went.epsilons (state_grown g₁ (sequence_first W.good l j)) (n.sequence j))
                (λ j. let (h, (k, i)) = n.star j in
                let b = state_grown g₁ (star_first W.good l j) in (
                  has_kept r.went.grown r.went.epsilons b h,
                  (k, record { same = λ υ w v. ap (λ (y : ℕ). on_nodes (Rel.star N y) υ) (value_kept r.went.grown r.went.epsilons b h) ∙ i.same υ (grown_later r.went.grown w) v }),
                ))
                q

  settles_by : Wider M L → (d : ℕ) → SettlingLists N M L d
  settles_by wide zero σ W s x l m τ es q = absurd (omega arith)
  settles_by wide (suc d) σ W s x l m τ es q =
      by_test (ltb 0 (count_of σ.aut.states.words x))
      (λ t. subst (λ (ρ : Store). SettledLists N L ρ × AboveLists (nesting σ.aut x + 1) σ ρ) (given_store (sym (delta_stored W l (ltb-true 0 _ t)) ∙ q)) (s, λ i b k. refl))
      (λ t. let z : count_of σ.aut.states.words x ≡ 0 = omega (arith, ltb-false 0 (count_of σ.aut.states.words x) t) in
      works wide W l z s (λ ρ W₁ s₁ y k b. settles_by wide d ρ W₁ s₁ y k (omega arith)) (sym (delta_works W l z) ∙ q))

  pub lists_settle : Wider M L → {σ : Store} → WfStore N M σ → SettledLists N L σ → {x : ℕ} → x < states σ.aut → {τ : Store} {es : List Edge} → delta N M x σ ≡ given τ es → SettledLists N L τ
  lists_settle wide {σ} W s {x} l {τ} {es} q = (settles_by wide (suc (nesting σ.aut x)) σ W s x l (omega arith) τ es q).0

-- ---- the same list wherever it is stored

module _ {N : ℕ} {M L : Limits} where
  lists_agree : (d : ℕ) {σ υ : Store} → WfStore N M σ → SettledLists N L σ → Later σ.aut υ.aut → WfStore N L υ → SettledLists N L υ → {x : ℕ} → x < states σ.aut → nesting σ.aut x < d
      → 0 < count_of σ.aut.states.words x → 0 < count_of υ.aut.states.words x → list_at σ x ≡ list_at υ x
  lists_agree zero W s w W' s' l m c c' = absurd (omega arith)
  lists_agree (suc d) {σ} {υ} W s w W' s' {x} l m c c' =
      let p : ListKept N L σ x = s.lists x l c in
      let p' : ListKept N L υ x = s'.lists x (omega (arith, w.more)) c' in
      let both : All (λ y. (0 < count_of σ.aut.states.words y) × (0 < count_of υ.aut.states.words y)) (list_operands σ x) =
      all_with (list_operands σ x) (λ y i j. (i, j)) p.operands (subst (All (λ y. 0 < count_of υ.aut.states.words y)) (list_operands_later W.good w x l) p'.operands) in
      let same : All (λ y. list_at σ y ≡ list_at υ y) (list_operands σ x) =
      all_with (list_operands σ x) (λ y b h. lists_agree d W s w W' s' b.state (omega (arith, b.lower)) h.0 h.1) (list_operands_below W l) both in
      given_same (sym (p.again.same υ.aut w W'.good)
      ∙ ap (λ (k : Step Aut (List Edge)). k υ.aut)
      (together_as N L (list_at σ) (list_at υ) (values σ.aut (first σ.aut x)) (values υ.aut (first σ.aut x)) (kind σ.aut x) x (members σ.aut x) (first σ.aut x) (second σ.aut x) same
      (λ q. let e = eqb-true (kind σ.aut x) SEQUENCE q in value (sequence_first W.good l e) (p.sequence e) (there (p'.sequence (kind_later w x l ∙ e))))
      (λ q. let e = eqb-true (kind σ.aut x) STAR q in value (star_first W.good l e) (p.star e).0 (there (p'.star (kind_later w x l ∙ e)).0))
      ∙ sym (list_from_later W.good w x l L (list_at υ) (values υ.aut)))
      ∙ p'.again.same υ.aut (later_refl υ.aut) W'.good)
    where
      there : HasEpsilon υ.aut (first υ.aut x) → HasEpsilon υ.aut (first σ.aut x)
      there h = subst (λ (y : ℕ). HasEpsilon υ.aut y) (first_later w x l) h

      value : {y : ℕ} → y < states σ.aut → HasEpsilon σ.aut y → HasEpsilon υ.aut y → values σ.aut y ≡ values υ.aut y
      value {y} b h h' = values_agree (suc (nesting σ.aut y)) (ready_of W) s.settled w (ready_of W') s'.settled b (omega arith) h h'

-- ---- done again

-- nothing is made
record Same (υ τ : Store) : Type 0 where
  nodes : τ.aut.nodes ≡ υ.aut.nodes
  count : states τ.aut ≡ states υ.aut
  members : τ.aut.members ≡ υ.aut.members

same_refl : (υ : Store) → Same υ υ
same_refl υ = record { nodes = refl; count = refl; members = refl }

same_trans : {υ τ ρ : Store} → Same υ τ → Same τ ρ → Same υ ρ
same_trans p q = record { nodes = q.nodes ∙ p.nodes; count = q.count ∙ p.count; members = q.members ∙ p.members }

later_same : {σ : Aut} {υ τ : Store} → Later σ υ.aut → Same υ τ → ExtAut υ.aut τ.aut → Later σ τ.aut
later_same {σ} {υ} {τ} w e g = record {
  nodes = subst (Ext σ.nodes) (sym e.nodes) w.nodes;
  more = omega (arith, w.more, e.count);
  words = λ x u l m. g.states.keep x u (omega (arith, w.more)) m ∙ w.words x u l m;
  members = λ i l. ap (λ (m : Table). get_or m.words i 0) e.members ∙ w.members i l;
}

-- on υ, delta of x gives es and makes nothing, or no record of transitions is left
data Redone (N : ℕ) (L : Limits) (x : ℕ) (υ : Store) (es : List Edge) : Type 0 where
  lacks_room : delta N L x υ ≡ refused 25 → Redone N L x υ es
  gives_again : {τ : Store} → delta N L x υ ≡ given τ es → τ.aut.nodes ≡ υ.aut.nodes → states τ.aut ≡ states υ.aut → τ.aut.members ≡ υ.aut.members → Redone N L x υ es

delta_done : {N : ℕ} {L : Limits} {x : ℕ} {υ : Store} {es : List Edge} → WfStore N L υ → x < states υ.aut → Redone N L x υ es → DeltaDone N L x υ es
delta_done W l (lacks_room q) = lacks q
delta_done W l (gives_again q n c m) = gives q (record { nodes = n; count = c; members = m; went = (deltaed W l q).listed.went }) (deltaed W l q).stored

-- tables to which a run on υ has come, with nothing made
record Went-on (N : ℕ) (L : Limits) (σ υ τ : Store) : Type 0 where
  same : Same υ τ
  went : ExtStore υ τ
  later : Later σ.aut τ.aut
  worked : WfStore N L τ
  settled : SettledLists N L τ

wider_refl : (L : Limits) → Wider L L
wider_refl L = record { nesting = omega arith; list = omega arith; products = omega arith; transitions = omega arith }

-- a list of operands, whose lists are those of σ
data AllDone (N : ℕ) (L : Limits) (σ υ : Store) (ys : List ℕ) : Type 0 where
  lacking : work_all (delta N L) ys υ ≡ refused 25 → AllDone N L σ υ ys
  done : {τ : Store} → work_all (delta N L) ys υ ≡ given τ tt → Went-on N L σ υ τ → All (λ y. Stored τ y (list_at σ y)) ys → AllDone N L σ υ ys

module _ {N : ℕ} {L : Limits} {σ : Store} where
  all_done : (ys : List ℕ)
      → ((υ : Store) → Later σ.aut υ.aut → WfStore N L υ → SettledLists N L υ → All (λ y. (y < states σ.aut) × Redone N L y υ (list_at σ y)) ys)
      → (υ : Store) → Later σ.aut υ.aut → WfStore N L υ → SettledLists N L υ → AllDone N L σ υ ys
  unfolding work_all
  all_done [] f υ w W s = done refl (record { same = same_refl υ; went = went_refl υ; later = w; worked = W; settled = s }) tt
  all_done (y ∷ ys) f υ w W s = first_of (λ ρ. all_done ys (λ υ w W s. (f υ w W s).1) ρ) (f υ w W s).0.0 (f υ w W s).0.1
    where
      rest : {τ : Store} → y < states σ.aut → delta N L y υ ≡ given τ (list_at σ y) → Went-on N L σ υ τ → Stored τ y (list_at σ y) → AllDone N L σ τ ys → AllDone N L σ υ (y ∷ ys)
      rest b e o st (lacking q) = lacking (ap (λ (o : Outcome Store (List Edge)). after o (λ a. work_all (delta N L) ys)) e ∙ q)
      rest b e o st (done q p a) =
          done (ap (λ (o : Outcome Store (List Edge)). after o (λ a. work_all (delta N L) ys)) e ∙ q)
          (record { same = same_trans o.same p.same; went = went_trans o.went p.went; later = p.later; worked = p.worked; settled = p.settled })
          (stored_went o.worked p.went (omega (arith, o.later.more)) st, a)

      first_of : ((ρ : Store) → Later σ.aut ρ.aut → WfStore N L ρ → SettledLists N L ρ → AllDone N L σ ρ ys) → y < states σ.aut → Redone N L y υ (list_at σ y) → AllDone N L σ υ (y ∷ ys)
      first_of ih b (lacks_room q) = lacking (ap (λ (o : Outcome Store (List Edge)). after o (λ a. work_all (delta N L) ys)) q)
      first_of ih b (gives_again {τ} q n c m) =
          let ly : y < states υ.aut = omega (arith, w.more) in
          let p : Deltaed N L y υ τ (list_at σ y) = deltaed W ly q in
          let e : Same υ τ = record { nodes = n; count = c; members = m } in
          let w₁ : Later σ.aut τ.aut = later_same w e p.listed.went.grown in
          let s₁ : SettledLists N L τ = lists_settle (wider_refl L) W s ly q in
          rest b q (record { same = e; went = p.listed.went; later = w₁; worked = p.listed.worked; settled = s₁ }) p.stored (ih τ w₁ p.listed.worked s₁)

-- on υ, what is worked out before is there again
record EnterDone (N x : ℕ) (υ : Store) : Type 0 where
  last : Store
  gives : enter N x υ ≡ given last tt
  same : Same υ last

module _ {N : ℕ} {M L : Limits} {σ : Store} (W : WfStore N M σ) (s : SettledLists N L σ) {x : ℕ} (l : x < states σ.aut) (p : ListKept N L σ x) where
  enter_done : (υ : Store) → Later σ.aut υ.aut → WfStore N L υ → SettledLists N L υ → EnterDone N x υ
  unfolding enter_with
  enter_done υ w W' s' = at (eqb (kind υ.aut x) SEQUENCE) (eqb (kind υ.aut x) STAR) refl refl
    where
      a' : ℕ
      a' = first υ.aut x

      again : first σ.aut x < states σ.aut → HasEpsilon σ.aut (first σ.aut x) → EpsilonDone N a' υ.aut (values σ.aut (first σ.aut x))
      again b h =
          subst (λ (y : ℕ). EpsilonDone N y υ.aut (values σ.aut (first σ.aut x))) (sym (first_later w x l))
          (done_by (ready_of W) s.settled (suc (nesting σ.aut (first σ.aut x))) (first σ.aut x) b (omega arith) (values σ.aut (first σ.aut x)) h υ.aut w (ready_of W') s'.settled)

      at : (b c : Bool) → eqb (kind υ.aut x) SEQUENCE ≡ b → eqb (kind υ.aut x) STAR ≡ c → EnterDone N x υ
      at true c j k =
          let e : kind σ.aut x ≡ SEQUENCE = sym (kind_later w x l) ∙ eqb-true (kind υ.aut x) SEQUENCE j in
          let d : EpsilonDone N a' υ.aut (values σ.aut (first σ.aut x)) = again (sequence_first W.good l e) (p.sequence e) in
          record {
            last = store d.last υ.transitions;
            gives =
                ap (λ (b : Bool). placed put_aut υ ((if b then (epsilon N a' >>= quit) else if eqb (kind υ.aut x) STAR then (epsilon N a' >>= λ e. on_nodes (Rel.star N e) >>= quit) else return tt) υ.aut)) j
                ∙ ap (λ (o : Outcome Aut ℕ). placed put_aut υ (after o quit)) d.gives;
            same = record { nodes = d.nodes; count = d.noted.count; members = d.noted.members };
          }
      at false true j k =
          let e : kind σ.aut x ≡ STAR = sym (kind_later w x l) ∙ eqb-true (kind υ.aut x) STAR k in
          let (h, (n, i)) = p.star e in
          let b : first σ.aut x < states σ.aut = star_first W.good l e in
          let d : EpsilonDone N a' υ.aut (values σ.aut (first σ.aut x)) = again b h in
          let g : WfAut N L d.last = (ran (ready_of W') (star_first W'.good (omega (arith, w.more)) (eqb-true (kind υ.aut x) STAR k)) d.gives).found.good in
          record {
            last = store d.last υ.transitions;
            gives =
                ap (λ (b : Bool). placed put_aut υ ((if b then (epsilon N a' >>= quit) else if eqb (kind υ.aut x) STAR then (epsilon N a' >>= λ e. on_nodes (Rel.star N e) >>= quit) else return tt) υ.aut)) j
                ∙ ap (λ (b : Bool). placed put_aut υ ((if b then (epsilon N a' >>= λ e. on_nodes (Rel.star N e) >>= quit) else return tt) υ.aut)) k
                ∙ ap (λ (o : Outcome Aut ℕ). placed put_aut υ (after o (λ e. on_nodes (Rel.star N e) >>= quit))) d.gives
                ∙ ap (λ (o : Outcome Aut ℕ). placed put_aut υ (after o quit)) (i.same d.last (later_noted w d.nodes d.noted) g);
            same = record { nodes = d.nodes; count = d.noted.count; members = d.noted.members };
          }
      at false false j k = record {
        last = υ;
        gives =
            ap (λ (b : Bool). placed put_aut υ ((if b then (epsilon N a' >>= quit) else if eqb (kind υ.aut x) STAR then (epsilon N a' >>= λ e. on_nodes (Rel.star N e) >>= quit) else return tt) υ.aut)) j
            ∙ ap (λ (b : Bool). placed put_aut υ ((if b then (epsilon N a' >>= λ e. on_nodes (Rel.star N e) >>= quit) else return tt) υ.aut)) k;
        same = same_refl υ;
      }

module _ {N : ℕ} {M L : Limits} {σ : Store} (W : WfStore N M σ) (s : SettledLists N L σ) where
  -- in τ the operands' lists are those of σ
  module _ {x : ℕ} (l : x < states σ.aut) (c : 0 < count_of σ.aut.states.words x) {υ τ : Store} (o : Went-on N L σ υ τ) (a : All (λ y. Stored τ y (list_at σ y)) (list_operands σ x))
      (f : kind σ.aut x ≡ SEQUENCE → HasEpsilon τ.aut (first σ.aut x)) (h : kind σ.aut x ≡ STAR → HasEpsilon τ.aut (first σ.aut x)) where
    value : {y : ℕ} → y < states σ.aut → HasEpsilon σ.aut y → HasEpsilon τ.aut y → values τ.aut y ≡ values σ.aut y
    value {y} b i j = sym (values_agree (suc (nesting σ.aut y)) (ready_of W) s.settled o.later (ready_of o.worked) o.settled.settled b (omega arith) i j)

    together_again : together N L x τ ≡ given τ (list_at σ x)
    together_again =
        let p : ListKept N L σ x = s.lists x l c in
        ap (placed put_aut τ)
        (ap (λ (k : Step Aut (List Edge)). k τ.aut)
        (list_from_later W.good o.later x l L (list_at τ) (values τ.aut)
        ∙ together_as N L (list_at τ) (list_at σ) (values τ.aut (first σ.aut x)) (values σ.aut (first σ.aut x)) (kind σ.aut x) x (members σ.aut x) (first σ.aut x) (second σ.aut x)
        (all_map (list_operands σ x) (λ y i. i.reads) a)
        (λ q. let e = eqb-true (kind σ.aut x) SEQUENCE q in value (sequence_first W.good l e) (p.sequence e) (f e))
        (λ q. let e = eqb-true (kind σ.aut x) STAR q in value (star_first W.good l e) (p.star e).0 (h e)))
        ∙ p.again.same τ.aut o.later o.worked.good)

    kept_again : {n : Store} → Same n υ → delta N L x n ≡ after (together N L x τ) (keep_list x) → Redone N L x n (list_at σ x)
    unfolding keep_list
    kept_again {n} e q = go (room_t τ.transitions (length es)) refl
      where
        es : List Edge
        es = list_at σ x

        to : delta N L x n ≡ keep_list x es τ
        to = q ∙ ap (λ (o : Outcome Store (List Edge)). after o (keep_list x)) together_again

        kept : Store
        kept = store (written (written τ.aut x 5 τ.transitions.count) x 6 (length es + 1)) (append es τ.transitions)

        go : (b : Bool) → room_t τ.transitions (length es) ≡ b → Redone N L x n es
        go true room =
            gives_again {τ = kept} (to ∙ ap (λ (b : Bool). if b then given kept es else refused 25) room)
            (o.same.nodes ∙ e.nodes)
            (written_count (written τ.aut x 5 τ.transitions.count) x 6 (length es + 1) ∙ written_count τ.aut x 5 τ.transitions.count ∙ o.same.count ∙ e.count)
            (o.same.members ∙ e.members)
        go false room = lacks_room (to ∙ ap (λ (b : Bool). if b then given kept es else refused 25) room)

  lists_done : (d : ℕ) (x : ℕ) → x < states σ.aut → nesting σ.aut x < d → 0 < count_of σ.aut.states.words x
      → (υ : Store) → Later σ.aut υ.aut → WfStore N L υ → SettledLists N L υ → Redone N L x υ (list_at σ x)
  lists_done zero x l m c υ w W' s' = absurd (omega arith)
  lists_done (suc d) x l m c υ w W' s' =
      by_test (ltb 0 (count_of υ.aut.states.words x))
      (λ t. let c' : 0 < count_of υ.aut.states.words x = ltb-true 0 _ t in
      gives_again {τ = υ} (delta_stored W' l' c' ∙ ap (given υ) (sym (lists_agree (suc d) W s w W' s' l m c c'))) refl refl refl)
      (λ t. let z : count_of υ.aut.states.words x ≡ 0 = omega (arith, ltb-false 0 (count_of υ.aut.states.words x) t) in
      anew z (all_done (list_operands σ x)
      (λ υ w W' s'. all_with (list_operands σ x) (λ y b k. (b.state, lists_done d y b.state (omega (arith, b.lower)) k υ w W' s')) (list_operands_below W l) p.operands) e.last w₁ n.worked n.settled))
    where
      l' : x < states υ.aut
      l' = omega (arith, w.more)

      p : ListKept N L σ x
      p = s.lists x l c

      e : EnterDone N x υ
      e = enter_done W s l p υ w W' s'

      n : Entering N L L x υ e.last
      n = entering W' s' l' e.gives

      w₁ : Later σ.aut e.last.aut
      w₁ = later_same w e.same n.went.grown

      begun : count_of υ.aut.states.words x ≡ 0 → delta N L x υ ≡ finish_list N L (list_operands σ x) x e.last
      begun z =
          delta_works W' l' z ∙ ap (λ (o : Outcome Store Unit). after o (λ u. finish_list N L (list_operands υ x) x)) e.gives
          ∙ ap (λ (ys : List ℕ). finish_list N L ys x e.last) (list_operands_later W.good w x l)

      anew : count_of υ.aut.states.words x ≡ 0 → AllDone N L σ e.last (list_operands σ x) → Redone N L x υ (list_at σ x)
      anew z (lacking q) = lacks_room (begun z ∙ ap (λ (o : Outcome Store Unit). after o (λ u υ. after (together N L x υ) (keep_list x))) q)
      anew z (done {τ} q o a) =
          kept_again l c o a (λ j. here (sequence_first W.good l j) (n.sequence (kind_later w x l ∙ j))) (λ j. here (star_first W.good l j) (n.star (kind_later w x l ∙ j)).0) e.same
          (begun z ∙ ap (λ (o : Outcome Store Unit). after o (λ u υ. after (together N L x υ) (keep_list x))) q)
        where
          here : first σ.aut x < states σ.aut → HasEpsilon e.last.aut (first υ.aut x) → HasEpsilon τ.aut (first σ.aut x)
          here b h = has_kept o.went.grown o.went.epsilons (omega (arith, w₁.more)) (subst (λ (y : ℕ). HasEpsilon e.last.aut y) (first_later w x l) h)

pub delta_again : (N : ℕ) (L L' : Limits) → Wider L L' → DeltaAgain N L L'
delta_again N L L' wide = record {
  begins = λ σ e z. record { settled = e; lists = λ x l m. absurd (omega (arith, z x l)) };
  grows = λ σ W s α i. settled_since W s i;
  written = λ σ W s τ n. settled_written W s n;
  notes = λ σ W s x l α e q. settled_noted W s (ran (ready_of W) l q).found.noted (settles (ready_of W) s.settled l q);
  settles = λ σ W s x l τ es q. (lists_settle wide W s l q, (deltaed W l q).stored);
  again = λ σ W s x es l st υ w W' s'. delta_done W' (omega (arith, w.more)) (subst (Redone N L' x υ) st.reads (lists_done W s (suc (nesting σ.aut x)) x l (omega arith) st.marked υ w W' s'));
}

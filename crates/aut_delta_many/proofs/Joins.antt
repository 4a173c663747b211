-- Lists joined one after the other: the next list, the loop over the members, and the first list of an Intersect, as runs of calls (aut_stage).
use mathlib.Core.Path.{◌≡◌, refl, sym, ◌∙◌, ap, subst}
use mathlib.Core.List.{List, ◌∷◌, map}
use Prim.Native.Nat.{ℕ, ◌+◌, ◌*◌, ◌-◌, ◌≤◌, ◌<◌}
use native.Mathlib.Omega.{arith}
use lib.ListN.{length, get_or}
use Rattle.std.specs.Prelude.{Result, Ok, Err}
use Rattle.std.specs.Result.{IsErr, IsErrAnd}
use Rattle.common.specs.Outcome.{Step}
use Rattle.common.specs.Runs.{table}
use Rattle.refusal.specs.declared.Refusal.{Refusal}
use Rattle.refusal.proofs.Passed.{passed}
use Rattle.netkat_steps.specs.ListSteps.{Edge}
use Rattle.aut_steps.specs.Tables as T
use Rattle.aut_steps.specs.Tables.{Aut, words}
use Rattle.aut_steps.specs.Ascending.{All}
use Rattle.aut_steps.proofs.Scratch.{words_on, words_done, from_0, all_word}
use Rattle.aut_steps.proofs.Wf.{state_grown}
use Rattle.aut_st_steps.specs.Edges.{edges}
use Rattle.aut_st_steps.specs.ListSpec.{ListAt}
use Rattle.aut_st_steps.proofs.ListSpec.{list_empty}
use Rattle.aut_delta_steps.specs.Delta.{Store, store, list_at, union_all, intersect_all, intersect_first}
use Rattle.aut_delta_steps.specs.DeltaDown.{Has}
use Rattle.aut_delta_steps.specs.Fits.{Since}
use Rattle.aut_delta_steps.specs.Wf.{WfStore}
use Rattle.aut_delta_steps.proofs.Wf.{worked_since, same_list}
use Rattle.aut_delta_steps.specs.Extends.{ExtStore}
use Rattle.aut_delta_steps.proofs.Extends.{went_since}
use Rattle.aut_delta_stage.specs.OnTables.{store_in, StoreAsked}
use Rattle.aut_states.specs.Clauses.{limits_of}
use Rattle.aut_states.specs.declared.Config.{Config}
use Rattle.aut_relations.specs.declared.Aut.{Aut as Lent}
use Rattle.aut_relations.specs.declared.Transitions.{Transitions}
use Rattle.aut_relations.specs.Lent.{aut_in, Keeps, Asked}
use Rattle.aut_stage.specs.OnLent.{lent_layer}
use Rattle.aut_stage.proofs.OnLent.{lent_laws}
use Rattle.aut_stage.proofs.Rule.{Folds, Turned, begin, stuck, done, turn, over, again, all_of}
use Rattle.aut_st_insert.specs.Clauses.{RESULT, FIRST, list_in, GoesInsert, GoesList}
use Rattle.aut_relations.proofs.Kept.{keeps_refl, keeps_trans}
use Rattle.aut_st_edges.specs.Clauses.{Wrote, CopyReady}
use Rattle.aut_st_source.specs.declared.Source.{Source}
use Rattle.aut_st_source.specs.Clauses.{stored, scratched}
use Rattle.aut_st_ops.specs.Asked.{TwoAsked}
use Rattle.aut_st_stage.proofs.Turns.{source_in}
use Rattle.aut_st_stage.proofs.Run.{list_made, Run, written, run_begin, run_wrote, run_finish}
use Rattle.aut_st_stage.proofs.Waits.{Waits, waits_as, with_two, waits_copied, copy_ready, copy_waits, run_copied}
use Rattle.aut_delta_many.specs.declared.Join.{Join}
use Rattle.aut_delta_many.specs.declared.Join.TheVariants as join
use Rattle.aut_st_source.specs.declared.Span.{Span}
use Rattle.aut_delta_many.specs.Clauses.{lists_at}
use Rattle.aut_st_source.specs.Stored.{PreFind, PostFind}
use Rattle.aut_delta_many.specs.Joins.{join_one, join_all}
use Rattle.aut_delta_many.specs.Asked.{NextAsked, AllAsked, ManyAsked}
use Rattle.aut_delta_many.proofs.Lists.{find_ready, found_is, found_in, found_at, found_few, found_list, words_first}

abbrev asked : {k : Config} {x : Lent} → StoreAsked k x → Asked k x
asked R = record { fields = R.fields; ready = R.prepared.ready }

-- ---- join_next

module _ {k : Config} {x : Lent} {n y : ℕ} (W : NextAsked k x n y) where
  pub next_find : PreFind x.states.words.now y
  next_find = find_ready W.asked.prepared W.state W.has

  pub next_copy : CopyReady x.scratch.now RESULT n FIRST
  next_copy = copy_ready x n W.limit W.list FIRST (omega arith) (omega arith) (asked W.asked)

  module _ {p : Span} (F : PostFind x.states.words.now y p) {w : List ℕ} (C : Wrote FIRST n (list_in x n) x.scratch.now w) (len : length w ≡ length x.scratch.now) where
    -- the sources that are joined
    module _ {u v : Source} (first : u ≡ scratched FIRST n) (second : v ≡ stored p.start p.count) where
      so_far : Waits k (written x w) u (list_in x n)
      so_far = waits_as (copy_waits x n W.limit W.list FIRST (omega arith) (omega arith) C) first

      found : Waits k (written x w) v (list_at (store_in x) y)
      found =
          let P = W.asked.prepared in
          waits_as (waits_copied (record { is = sym (found_is (store_in x) F); walked = record { within = found_in P W.state W.has F; edges = found_at P W.state W.has F } }) FIRST n tt C.kept) second

      module _ (j : Join) where
        abbrev one : List Edge → List Edge → Step Aut (List Edge)
        one = join_one k.fields (limits_of k.limits) j

        next_1 : Run k 0 1088 (one (list_in x n) (list_at (store_in x) y)) (one (list_in x n) (list_at (store_in x) y)) x (written x w)
        next_1 = run_copied x n W.limit W.list FIRST (omega arith) (omega arith) C len (run_begin (asked W.asked) refl)

        pub next_ready : TwoAsked k (written x w) u v
        next_ready = record { first = record { asked = next_1.asked; limit = W.limit; walked = so_far.walked }; second = found.walked }

        pub next_done : (i : Join) → j ≡ i → {r : Result ℕ Refusal} {z : Lent}
            → GoesInsert k (join_one k.fields (limits_of k.limits) i (source_in u (written x w)) (source_in v (written x w))) (written x w) r z
            → GoesList k (one (list_in x n) (list_at (store_in x) y)) x r z
        next_done i q {r} {z} G = run_finish next_1 list_made
            (with_two so_far found one (subst (λ (i : Join). GoesInsert k (join_one k.fields (limits_of k.limits) i (source_in u (written x w)) (source_in v (written x w))) (written x w) r z) (sym q) G))

-- ---- join_all

-- the lists of the members from i on
abbrev lists_from : Store → ℕ → ℕ → ℕ → List (List Edge)
lists_from σ from k i = lists_at σ (from + i) (k - i)

folds : (N : ℕ) (L : T.Limits) (j : Join) → Folds (λ (es : List Edge) r. join_one N L j r es) (join_all N L j)
unfolding union_all intersect_all
folds N L join.Union = record { none = λ r σ. refl; some = λ es ess r σ. refl }
folds N L join.Intersect = record { none = λ r σ. refl; some = λ es ess r σ. refl }

-- i lists are joined, in the m transitions at RESULT: the tables x have become `now`
pub record Joined (c : Config) (j : Join) (x : Lent) (n from k : ℕ) (now : Lent) (m i : ℕ) : Type 0 where
  pub start : AllAsked c x n from k
  pub keeps : Keeps x now
  pub turned : Turned (lent_layer c.fields c.limits) 0 1088 (join_all c.fields (limits_of c.limits) j) (lists_from (store_in x) from k) k (ListAt c.fields (limits_of c.limits))
      (join_all c.fields (limits_of c.limits) j (lists_at (store_in x) from k) (list_in x n) (aut_in x)) (aut_in x) (aut_in now) x.scratch.now now.scratch.now (list_in now m) i

-- the whole
abbrev all : Config → Join → Lent → ℕ → ℕ → ℕ → Step Aut (List Edge)
all c j x n from k = join_all c.fields (limits_of c.limits) j (lists_at (store_in x) from k) (list_in x n)

-- the next list, of the i-th member
abbrev one_more : Config → Join → Lent → ℕ → ℕ → ℕ → Step Aut (List Edge)
one_more c j now from m i = join_one c.fields (limits_of c.limits) j (list_in now m) (list_at (store_in now) (get_or now.members.words.now (from + i) 0))

module _ {c : Config} {j : Join} {x : Lent} {n from k : ℕ} where
  pub all_begin : AllAsked c x n from k → Joined c j x n from k x n 0
  all_begin W = record {
    start = W;
    keeps = keeps_refl x;
    turned = record {
      most = omega arith;
      stage = begin (lent_laws c.fields c.limits) 0 1088 W.asked.prepared.ready (ap (λ (ess : List (List Edge)). join_all c.fields (limits_of c.limits) j ess (list_in x n) (aut_in x)) (from_0 (λ a b. lists_at (store_in x) a b) from k));
      holds = W.list;
    };
  }

  module _ {now : Lent} {m i : ℕ} (v : Joined c j x n from k now m i) where
    pub all_end : k ≤ i → GoesList c (all c j x n from k) x (Ok m) now
    all_end le = record { post = done (lent_laws c.fields c.limits) 0 1088 (over (lent_laws c.fields c.limits) 0 1088 (folds c.fields (limits_of c.limits) j) v.turned (ap (map (list_at (store_in x))) (words_done x.members.words.now (from + i) k i le))) v.turned.holds }

    module _ (lt : i < k) where
      -- the member, as it was and as it is read
      abbrev y : ℕ
      y = get_or x.members.words.now (from + i) 0

      abbrev z : ℕ
      z = get_or now.members.words.now (from + i) 0

      pub all_read : from + i < length now.members.words.now
      all_read = omega (arith, v.start.inside, v.turned.stage.ext.grown.members.more, v.turned.stage.ready.good.members_fit)

      same_member : z ≡ y
      same_member = v.turned.stage.ext.grown.members.keep (from + i) (omega (arith, v.start.inside))

      state : y < x.states.count
      state = all_word (λ (a : ℕ). a < x.states.count) x.members.words.now from k i lt v.start.states

      has : Has (store_in x) y
      has = all_word (Has (store_in x)) x.members.words.now from k i lt v.start.lists

      since : Since c.fields (limits_of c.limits) (aut_in x) (aut_in now)
      since = record { grown = v.turned.stage.ext.grown; memos = v.turned.stage.ext.memos; good = v.turned.stage.ready.good }

      same : store (aut_in now) (store_in x).transitions ≡ store_in now
      same = ap (λ (t : Transitions). store (aut_in now) (table t.words.now t.count)) (sym v.keeps.transitions)

      went : ExtStore (store_in x) (store_in now)
      went = subst (ExtStore (store_in x)) same (went_since since)

      pub all_next : NextAsked c now m z
      all_next = subst (λ (a : ℕ). NextAsked c now m a) (sym same_member) (record {
        asked = record {
          fields = v.keeps.spp.fields ∙ v.start.asked.fields;
          prepared = record { ready = v.turned.stage.ready; worked = subst (WfStore c.fields (limits_of c.limits)) same (worked_since v.start.asked.prepared.worked since) };
        };
        limit = v.start.limit;
        list = v.turned.holds;
        state = state_grown v.turned.stage.ext.grown state;
        has = omega (arith, (went.lists y has).0, has);
      })

      on_next : lists_from (store_in x) from k i ≡ list_at (store_in now) z ∷ lists_from (store_in x) from k (i + 1)
      on_next =
          ap (map (list_at (store_in x))) (words_on x.members.words.now from k i lt)
          ∙ ap (λ (es : List Edge). es ∷ lists_from (store_in x) from k (i + 1))
          (sym (ap (list_at (store_in now)) same_member ∙ same_list (store_in now) v.start.asked.prepared.worked.lists went.transitions y state has (went.lists y has)))

      module _ {then : Lent} where
        pub all_stuck : {e : Refusal} {r : Result ℕ Refusal} → IsErr r × IsErrAnd r (λ a. a ≡ e) → GoesList c (one_more c j now from m i) now (Err e) then → GoesList c (all c j x n from k) x r then
        all_stuck q G = subst (λ (r : Result ℕ Refusal). GoesList c (all c j x n from k) x r then) (sym (passed q))
            (record { post = stuck (lent_laws c.fields c.limits) 0 1088 G.post (join_all c.fields (limits_of c.limits) j (lists_from (store_in x) from k (i + 1))) (turn (lent_laws c.fields c.limits) 0 1088 (folds c.fields (limits_of c.limits) j) v.turned on_next) })

        pub all_again : {m2 : ℕ} → Keeps now then → GoesList c (one_more c j now from m i) now (Ok m2) then → Joined c j x n from k then m2 (i + 1)
        all_again K G = record {
          start = v.start;
          keeps = keeps_trans v.keeps K;
          turned = again (lent_laws c.fields c.limits) 0 1088 (folds c.fields (limits_of c.limits) j) v.turned (omega arith) on_next G.post (all_of 0 1088);
        }

-- ---- union_all and intersect_all

module _ {c : Config} {x : Lent} {from k : ℕ} (W : ManyAsked c x from k) where
  abbrev σ : Store
  σ = store_in x

  -- from no list
  pub union_asked : AllAsked c x 0 from k
  unfolding edges
  union_asked = record { asked = record { fields = W.fields; prepared = W.prepared }; limit = W.limit; list = list_empty (aut_in x); inside = W.inside; states = W.states; lists = W.lists }

  -- from the first list
  abbrev y₁ : ℕ
  y₁ = get_or x.members.words.now from 0

  split : words x.members.words.now from k ≡ y₁ ∷ words x.members.words.now (from + 1) (k - 1)
  split = words_first x.members.words.now from k W.some

  states_in : All (λ a. a < x.states.count) (y₁ ∷ words x.members.words.now (from + 1) (k - 1))
  states_in = subst (All (λ a. a < x.states.count)) split W.states

  lists_in_lem : All (Has σ) (y₁ ∷ words x.members.words.now (from + 1) (k - 1))
  lists_in_lem = subst (All (Has σ)) split W.lists

  pub first_read : from < length x.members.words.now
  first_read = omega (arith, W.some, W.inside, W.prepared.ready.good.members_fit)

  pub first_find : PreFind x.states.words.now y₁
  first_find = find_ready W.prepared states_in.0 lists_in_lem.0

  module _ {p : Span} (F : PostFind x.states.words.now y₁ p) where
    first_few : p.count ≤ 64
    first_few = omega (arith, found_few W.prepared states_in.0 lists_in_lem.0 F, W.limit)

    pub first_take : (2 * (RESULT + p.count) ≤ length x.scratch.now) × (2 * (p.start + p.count) ≤ length x.transitions.words.now)
    first_take = (omega (arith, first_few, W.prepared.ready.room), found_in W.prepared states_in.0 lists_in_lem.0 F)

    module _ {w : List ℕ} (C : Wrote RESULT p.count (edges x.transitions.words.now p.start p.count) x.scratch.now w) (len : length w ≡ length x.scratch.now) where
      abbrev rest : Step Aut (List Edge)
      rest = intersect_all c.fields (limits_of c.limits) (lists_at σ (from + 1) (k - 1)) (edges w RESULT p.count)

      first_1 : Run c 0 1088 (intersect_first c.fields (limits_of c.limits) (lists_at σ from k)) rest x (written x w)
      first_1 = run_wrote
          (run_begin (record { fields = W.fields; ready = W.prepared.ready })
          (ap (λ (xs : List ℕ). intersect_first c.fields (limits_of c.limits) (map (list_at σ) xs) (aut_in x)) split
          ∙ ap (λ (es : List Edge). intersect_all c.fields (limits_of c.limits) (lists_at σ (from + 1) (k - 1)) es (aut_in x)) (found_is σ F ∙ sym C.is)))
          (record { from = omega arith; to = omega (arith, first_few) }) (omega (arith, first_few)) C.kept len

      pub rest_asked : AllAsked c (written x w) p.count (from + 1) (k - 1)
      rest_asked = record {
        asked = record { fields = W.fields; prepared = record { ready = first_1.asked.ready; worked = W.prepared.worked } };
        limit = W.limit;
        list = subst (ListAt c.fields (limits_of c.limits) (aut_in x)) (sym C.is) (found_list W.prepared states_in.0 lists_in_lem.0 F);
        inside = omega (arith, W.inside, W.some);
        states = states_in.1;
        lists = lists_in_lem.1;
      }

      pub intersect_done : {r : Result ℕ Refusal} {z : Lent} → GoesList c rest (written x w) r z → GoesList c (intersect_first c.fields (limits_of c.limits) (lists_at σ from k)) x r z
      intersect_done G = run_finish first_1 (all_of 0 1088) G

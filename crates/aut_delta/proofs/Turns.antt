-- delta: states below x worked out one after another, each with all its operands' lists stored, and then x.
use mathlib.Core.Path.{◌≡◌, refl, sym, ◌∙◌, ap, subst}
use mathlib.Core.List.{List, []}
use Prim.Native.Nat.{ℕ, ◌<◌}
use native.Mathlib.Omega.{arith}
use lib.ListN.{drop}
use Rattle.common.specs.Outcome.{Outcome, refused, given, Step, after}
use Rattle.aut_steps.specs.Tables.{nest, Limits}
use Rattle.aut_steps.specs.Ascending.{All}
use Rattle.aut_steps.specs.Wf.{states, nesting}
use Rattle.aut_steps.proofs.Wf.{nesting_grown, state_grown}
use Rattle.aut_delta_steps.specs.Delta.{count_of, Store, list_at, delta}
use Rattle.aut_delta_steps.proofs.Operands.{Below}
use Rattle.aut_delta_steps.specs.Wf.{WfStore}
use Rattle.aut_delta_steps.specs.Extends.{ExtStore}
use Rattle.aut_delta_steps.proofs.EpsilonReads.{given_store}
use Rattle.aut_delta_steps.specs.EpsilonDown.{First}
use Rattle.aut_delta_steps.proofs.EpsilonDown.{first_of, opens}
use Rattle.aut_delta_steps.specs.DeltaReads.{list_operands}
use Rattle.aut_delta_steps.proofs.DeltaReads.{list_operands_below, delta_stored}
use Rattle.aut_delta_steps.specs.DeltaDown.{Has, HasNot, ListWay, bottom, down, enters}
use Rattle.aut_delta_steps.proofs.DeltaDown.{same_list_operands, list_way_state, delta_down, enters_rest, has_more}
use Rattle.std.specs.Prelude.{Result, Ok, Err}
use Rattle.netkat_steps.specs.ListSteps.{Edge}
use Rattle.refusal.specs.declared.Refusal.{Refusal}
use Rattle.spp.specs.Clauses.{SameStore}
use Rattle.aut_states.specs.Clauses.{limits_of}
use Rattle.aut_states.specs.declared.Config.{Config}
use Rattle.aut_relations.specs.declared.Aut.{Aut as Lent}
use Rattle.aut_relations.specs.Lent.{Keeps}
use Rattle.aut_stage.specs.Rule.{Laws, Stage}
use Rattle.aut_stage.proofs.Rule.{Inside, all_of, instead, next, finish, done}
use Rattle.aut_delta_stage.specs.OnTables.{store_in, KeepsStore, StoreAsked, tables_layer}
use Rattle.aut_delta_stage.proofs.OnTables.{tables_laws, store_after, refused_goes}
use Rattle.aut_delta.specs.Clauses.{DeltaAsked, Deltas}
use Rattle.aut_delta.specs.Readings.{EndsBy, FinishAsked}
use Rattle.aut_delta.proofs.Ways.{none_left}

-- ---- the end of a way

-- below x, or x itself, and then nothing is above it
pub data EndOf (σ : Store) (y x : ℕ) (xs : List ℕ) : Type 0 where
  itself : y ≡ x → xs ≡ [] → All (Has σ) (list_operands σ x) → EndOf σ y x xs
  lower : nesting σ.aut y < nesting σ.aut x → EndOf σ y x xs

end_of : {N : ℕ} {L : Limits} {σ : Store} → WfStore N L σ → {y x : ℕ} {xs : List ℕ} → x < states σ.aut → ListWay σ y xs x → EndOf σ y x xs
end_of W l (bottom n h) = itself refl refl h
end_of {σ = σ} W {x = x} l (down n f v) =
    let b = first_of (Below σ.aut x) f (list_operands_below W l) in
    lower (omega (arith, b.lower, (list_way_state W b.state v).1))

-- the states of a way were there before
way_old : {N : ℕ} {L : Limits} {σ τ : Store} → WfStore N L σ → ExtStore σ τ → {y x : ℕ} {xs : List ℕ} → x < states σ.aut → ListWay τ y xs x → y < states σ.aut
way_old W w l (bottom n h) = l
way_old {σ = σ} {τ} W w {x = x} l (down {z = z} n f v) =
    way_old W w (first_of (Below σ.aut x) (subst (First (Has τ) (HasNot τ) z) (same_list_operands W w l) f) (list_operands_below W l)).state v

then_both : {A B C : Type 0} (o : Outcome Store A) (f : A → Step Store B) (g : B → Step Store C) → after (after o f) g ≡ after o (λ a τ. after (f a τ) g)
then_both (refused number) f g = refl
then_both (given τ a) f g = refl

-- ---- the loop

-- the run has come to the tables z, and e states of the way down are entered
pub record Turn (k : Config) (i : ℕ) (x z : Lent) (e : ℕ) : Type 0 where
  pub keeps : KeepsStore x z
  pub stage : Stage (tables_layer k.fields k.limits) 0 1088 (delta k.fields (limits_of k.limits) i (store_in x)) (delta k.fields (limits_of k.limits) i (store_in z)) (store_in x) (store_in z) x.scratch.now z.scratch.now
  pub rest : (y : ℕ) (ys : List ℕ) → ListWay (store_in z) y ys i → enters k.fields ys (store_in z) ≡ enters k.fields (drop e ys) (store_in z)

module _ {k : Config} {i : ℕ} {x : Lent} (A : DeltaAsked k x i) where
  abbrev N : ℕ
  N = k.fields

  abbrev L : Limits
  L = limits_of k.limits

  W : Laws (tables_layer N k.limits)
  W = tables_laws N k.limits

  module _ {z : Lent} {e : ℕ} (v : Turn k i x z e) where
    abbrev τ : Store
    τ = store_in z

    V : WfStore N L τ
    V = v.stage.ready.worked

    has : i < states τ.aut
    has = state_grown v.stage.ext.grown A.has

    asked : StoreAsked k z
    asked = record { fields = v.keeps.spp.fields ∙ A.store.fields; prepared = v.stage.ready }

    -- the list is stored
    pub listed : Has τ i → Deltas k i x (Ok (tt {0})) z
    listed h = record { post = done W 0 1088 {see = λ (u : Unit {0}). list_at τ i} (instead W 0 1088 v.stage (delta_stored V has h)) (record { marked = h; reads = refl }) }

    module _ {z1 : Lent} where
      pub full : {q : Refusal} {r : Result (Unit {0}) Refusal} → r ≡ Err q → EndsBy k i e z (Err q) z1 → Deltas k i x r z1
      full c E =
          refused_goes c
          (v.stage.is ∙ sym (delta_down E.above V has E.way)
          ∙ ap (λ (o : Outcome Store Unit). after (after o (λ u. delta N L E.end)) (λ es. delta N L i)) (v.rest E.end E.above E.way ∙ E.entered.post.is))

      module _ {y n : ℕ} (E : EndsBy k i e z (Ok (y, n)) z1) where
        abbrev τ1 : Store
        τ1 = store_in z1

        asked1 : SameStore z.spp z1.spp → StoreAsked k z1
        asked1 K = store_after asked K E.entered

        within : Inside 0 1088 0 0
        within = record { from = omega arith; to = omega arith }

        -- ---- all operands of i have their lists

        module _ (same : y ≡ i) where
          here : (E.above ≡ []) × All (Has τ) (list_operands τ i)
          here = go (end_of V has E.way)
            where
              go : EndOf τ y i E.above → (E.above ≡ []) × All (Has τ) (list_operands τ i)
              go (itself q s h) = (s, h)
              go (lower m) = absurd (omega (arith, ap (nesting τ.aut) same))

          nothing : enters N (drop e E.above) τ ≡ given τ tt
          nothing = ap (λ (ys : List ℕ). enters N (drop e ys) τ) here.0 ∙ none_left N e τ

          stays : τ ≡ τ1
          stays = given_store (sym nothing ∙ E.entered.post.is)

          pub finish_ready : Keeps z z1 → HasNot τ i → FinishAsked k z1 i
          finish_ready K p = record {
            store = asked1 K.spp;
            limit = A.limit;
            has = state_grown E.entered.post.then.ext.grown has;
            not_yet = subst (λ (υ : Store). HasNot υ i) stays p;
            lists = subst (λ (υ : Store). All (Has υ) (list_operands υ i)) stays here.1;
          }

          pub finished : {r : Result (Unit {0}) Refusal} {z2 : Lent} → Deltas k i z1 r z2 → Deltas k i x r z2
          finished {r} P = record {
            post = finish W 0 1088
                (next W 0 1088 E.entered.post within (λ u. delta N L i) (instead W 0 1088 v.stage (sym (ap (λ (o : Outcome Store Unit). after o (λ u. delta N L i)) nothing))))
                r P.post (all_of 0 1088);
          }

        -- ---- a state below

        module _ (apart : y ≡ i → ⊥) where
          entered : enters N E.above τ ≡ given τ1 tt
          entered = v.rest y E.above E.way ∙ E.entered.post.is

          g1 : Stage (tables_layer N k.limits) 0 1088 (delta N L i (store_in x)) (after (delta N L y τ1) (λ es. delta N L i)) (store_in x) τ1 x.scratch.now z1.scratch.now
          g1 =
              next W 0 1088 E.entered.post within (λ u υ. after (delta N L y υ) (λ es. delta N L i))
              (instead W 0 1088 v.stage
              (sym (delta_down E.above V has E.way)
              ∙ ap (λ (o : Outcome Store Unit). after (after o (λ u. delta N L y)) (λ es. delta N L i)) (v.rest y E.above E.way)
              ∙ then_both (enters N (drop e E.above) τ) (λ u. delta N L y) (λ es. delta N L i)))

          y_state : y < states τ.aut
          y_state = (list_way_state V has E.way).0

          y_lower : nesting τ.aut y < nesting τ.aut i
          y_lower = go (end_of V has E.way)
            where
              go : EndOf τ y i E.above → nesting τ.aut y < nesting τ.aut i
              go (itself q s h) = absurd (apart q)
              go (lower m) = m

          pub call_ready : Keeps z z1 → {m : ℕ} → nest x.states.words.now i ≡ m → (nest z1.states.words.now y < m) × DeltaAsked k z1 y
          call_ready K q = (
            omega (arith, y_lower, nesting_grown E.entered.post.then.ext.grown y y_state, nesting_grown v.stage.ext.grown i A.has),
            record { store = asked1 K.spp; limit = A.limit; has = state_grown E.entered.post.then.ext.grown y_state },
          )

          module _ {z2 : Lent} where
            pub stopped : {q : Refusal} {r : Result (Unit {0}) Refusal} {u : Lent} → r ≡ Err q → Deltas {V = Unit {0}} k y z1 (Err q) z2 → Deltas k i x r u
            stopped c P = refused_goes c (g1.is ∙ ap (λ (o : Outcome Store (List Edge)). after o (λ es. delta N L i)) P.post.is)

            module _ (P : Deltas k y z1 (Ok (tt {0})) z2) where
              pub again : KeepsStore x z2 → Turn k i x z2 n
              again K = record {
                keeps = K;
                stage = next W 0 1088 P.post (all_of 0 1088) (λ es. delta N L i) g1;
                rest = λ w ys u. enters_rest V has E.way entered P.post.is u ∙ ap (λ (j : ℕ). enters N (drop j ys) (store_in z2)) E.place;
              }

              pub fewer : opens (count_of z2.states.words.now) x.states.count < opens (count_of z.states.words.now) x.states.count
              fewer =
                  has_more V has E.way (ap (λ (o : Outcome Store Unit). after o (λ u. delta N L y)) entered ∙ P.post.is) x.states.count
                  (way_old A.store.prepared.worked v.stage.ext A.has E.way)

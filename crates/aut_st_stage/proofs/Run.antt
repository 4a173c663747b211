-- A run of calls on all tables that are lent: b before it, `now` after the calls so far.
--
--     run_begin R e               R : Asked k b, e : what the whole is (refl, where `unfolding` opens it)
--     run_next f g i K G          behind a call by `?`: g the run before it, f what is left to do with its value, K and G its clauses c.in_ok-n.ensures.keeps and .gives
--     run_stuck f g q G           where it is refused: q = c.from_residual.ensures, G = c.in_err-n.ensures.gives
--     run_wrote g C ..            words of scratch were written
--     run_finish g i G            the last call: G = c.CALL.ensures.gives
use mathlib.Core.Path.{◌≡◌, refl, sym, ap, subst}
use mathlib.Core.List.{List}
use Prim.Native.Nat.{ℕ, ◌+◌, ◌≤◌}
use native.Mathlib.Omega.{arith}
use lib.ListN.{length}
use borrow.Rule.Slice.Mut.{set_vals}
use Rattle.slices.specs.Same.{SameSlice}
use Rattle.slices.proofs.Same.{slice_refl}
use Rattle.std.specs.Prelude.{Result, Ok, Err}
use Rattle.std.specs.Result.{IsErr, IsErrAnd}
use Rattle.common.specs.Outcome.{Step, return, after}
use Rattle.common.specs.Runs.{Table, table, placed}
use Rattle.refusal.specs.declared.Refusal.{Refusal}
use Rattle.refusal.specs.Numbers.{outcome}
use Rattle.refusal.proofs.Passed.{passed}
use Rattle.aut_steps.specs.Tables.{Aut, put_states, on_states}
use Rattle.aut_steps.specs.Scratch.{Kept}
use Rattle.aut_steps.proofs.StepSpec.{StepSpec}
use Rattle.aut_states.specs.Clauses.{limits_of}
use Rattle.aut_states.specs.declared.Config.{Config}
use Rattle.aut_states.specs.declared.States.{States}
use Rattle.aut_relations.specs.Behind.{LISTS}
use Rattle.aut_relations.proofs.Behind.{left_refl}
use Rattle.aut_relations.specs.declared.Aut.{Aut as Lent}
use Rattle.aut_relations.specs.Lent.{nodes_in, states_in, aut_in, Keeps, Asked}
use Rattle.aut_stage.specs.Rule.{Stage}
use Rattle.aut_stage.specs.OnLent.{lent_layer, Goes}
use Rattle.aut_stage.proofs.OnLent.{lent_laws, by_law, asked_after}
use Rattle.aut_stage.proofs.Rule.{Inside, begin, instead, wrote, next, stuck, finish, done}
use Rattle.aut_relations.proofs.Kept.{same_refl, keeps_refl, keeps_trans}

-- ---- what a call writes of the lists, within what the whole may write

pub no_list : Inside 0 832 0 0
no_list = record { from = omega arith; to = omega arith }

-- a list made by insertions, where others are set aside
pub list_made : Inside 0 1088 0 832
list_made = record { from = omega arith; to = omega arith }

-- ---- tables of which a part was written

-- the words of scratch are w
abbrev pub written : Lent → List ℕ → Lent
written x w = record { sp = x.sp; spp = x.spp; states = x.states; members = x.members; transitions = x.transitions; pending = x.pending; scratch = set_vals w x.scratch }

pub keeps_written : (x : Lent) {w : List ℕ} → length w ≡ length x.scratch.now → Keeps x (written x w)
keeps_written x e = record { sp = refl; spp = same_refl x.spp; states = slice_refl x.states.words; count = tt; members = slice_refl x.members.words; transitions = refl; pending = refl; scratch = record { lent = refl; length = e } }

-- the states are st
abbrev pub stated : Lent → States → Lent
stated x st = record { sp = x.sp; spp = x.spp; states = st; members = x.members; transitions = x.transitions; pending = x.pending; scratch = x.scratch }

module _ {x : Lent} {st : States} where
  pub keeps_stated : SameSlice x.states.words st.words → Keeps x (stated x st)
  keeps_stated e = record { sp = refl; spp = same_refl x.spp; states = e; count = tt; members = slice_refl x.members.words; transitions = refl; pending = refl; scratch = slice_refl x.scratch }

  -- a constructor that takes the states alone
  pub goes_stated : {k : Config} {P : Aut → ℕ → Type 0} (o : Step Table ℕ) {r : Result ℕ Refusal} → Asked k x → StepSpec k.fields (limits_of k.limits) P (aut_in x) (on_states o (aut_in x)) → o (states_in x) ≡ outcome (λ i. i) r (table st.words.now st.count)
      → Goes k 0 0 P (λ i. i) (on_states o) x r (stated x st)
  goes_stated o {r = Ok i} R G e = record { post = by_law R (stated x st) refl G (Ok i) (ap (placed put_states (aut_in x)) e) (left_refl 0 0 (nodes_in x) x.scratch.now) }
  goes_stated o {r = Err q} R G e = record { post = by_law R (stated x st) refl G (Err q) (ap (placed put_states (aut_in x)) e) tt }

-- ---- the run

-- `rest` is left to do of the steps `whole`
pub record Run (k : Config) (a n : ℕ) {A : Type 0} (whole rest : Step Aut A) (b now : Lent) : Type 0 where
  pub keeps : Keeps b now
  pub asked : Asked k now
  pub stage : Stage (lent_layer k.fields k.limits) a n (whole (aut_in b)) (rest (aut_in now)) (aut_in b) (aut_in now) b.scratch.now now.scratch.now

module _ {k : Config} {a n : ℕ} {A : Type 0} {whole : Step Aut A} {b : Lent} where
  pub run_begin : {rest : Step Aut A} → Asked k b → whole (aut_in b) ≡ rest (aut_in b) → Run k a n whole rest b b
  run_begin R e = record { keeps = keeps_refl b; asked = R; stage = begin (lent_laws k.fields k.limits) a n R.ready e }

  -- what is left to do is proved equal to something else
  pub run_as : {now : Lent} {rest rest' : Step Aut A} → Run k a n whole rest b now → rest (aut_in now) ≡ rest' (aut_in now) → Run k a n whole rest' b now
  run_as g e = record { keeps = g.keeps; asked = g.asked; stage = instead (lent_laws k.fields k.limits) a n g.stage e }

  -- words of scratch were written, which is no step
  pub run_wrote : {now : Lent} {rest : Step Aut A} {c m : ℕ} {w : List ℕ} → Run k a n whole rest b now → Inside a n c m → c + m ≤ LISTS → Kept c m now.scratch.now w → length w ≡ length now.scratch.now → Run k a n whole rest b (written now w)
  run_wrote {now = now} g i l p e =
      let v = wrote (lent_laws k.fields k.limits) a n g.stage i l p e in
      record { keeps = keeps_trans g.keeps (keeps_written now e); asked = record { fields = g.asked.fields; ready = v.ready }; stage = v }

  -- nothing is left to do
  pub run_done : {now : Lent} {V : Type 0} {see : V → A} {P : Aut → A → Type 0} {v : V} → Run k a n whole (return (see v)) b now → P (aut_in now) (see v) → Goes k a n P see whole b (Ok v) now
  run_done g p = record { post = done (lent_laws k.fields k.limits) a n g.stage p }

  module _ {now : Lent} {V B : Type 0} {see : V → B} {o : Step Aut B} {c m : ℕ} {P : Aut → B → Type 0} {then : Lent} (f : B → Step Aut A) (g : Run k a n whole (λ σ. after (o σ) f) b now) where
    -- a call came back with a value
    pub run_next : {v : V} → Inside a n c m → Keeps now then → Goes k c m P see o now (Ok v) then → Run k a n whole (f (see v)) b then
    run_next i K G = record { keeps = keeps_trans g.keeps K; asked = asked_after g.asked K.spp G; stage = next (lent_laws k.fields k.limits) a n G.post i f g.stage }

    -- a call was refused: the run is
    pub run_stuck : {W : Type 0} {see' : W → A} {Q : Aut → A → Type 0} {e : Refusal} {r : Result W Refusal} → IsErr r × IsErrAnd r (λ x. x ≡ e) → Goes k c m P see o now (Err e) then → Goes k a n Q see' whole b r then
    run_stuck {see' = see'} {Q = Q} q G = subst (λ r. Goes k a n Q see' whole b r then) (sym (passed q)) (record { post = stuck (lent_laws k.fields k.limits) a n G.post f g.stage })

  -- the last call
  pub run_finish : {now : Lent} {V : Type 0} {see : V → A} {o : Step Aut A} {c m : ℕ} {P : Aut → A → Type 0} {r : Result V Refusal} {then : Lent} → Run k a n whole o b now → Inside a n c m → Goes k c m P see o now r then → Goes k a n P see whole b r then
  run_finish {r = r} g i G = record { post = finish (lent_laws k.fields k.limits) a n g.stage r G.post i }

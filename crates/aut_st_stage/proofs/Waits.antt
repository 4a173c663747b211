-- Lists of a run of calls (proofs/Run) that are walked later: stored ones, and lists that are copied from RESULT behind the words that an insertion writes.
use mathlib.Core.Path.{◌≡◌, refl, sym, ◌∙◌, ap, subst}
use mathlib.Core.Logic.{inl}
use mathlib.Core.List.{List}
use Prim.Native.Nat.{ℕ, ◌+◌, ◌*◌, ◌≤◌}
use native.Mathlib.Omega.{arith}
use lib.ListN.{length}
use Rattle.std.specs.Prelude.{Result, Ok}
use Rattle.common.specs.Outcome.{Step}
use Rattle.refusal.specs.declared.Refusal.{Refusal}
use Rattle.netkat_steps.specs.ListSteps.{Edge}
use Rattle.aut_steps.specs.Tables.{Aut}
use Rattle.aut_steps.specs.Scratch.{Kept}
use Rattle.aut_st_steps.specs.Edges.{edges, EdgesAt}
use Rattle.aut_st_steps.proofs.Places.{edges_below}
use Rattle.aut_st_steps.specs.ListSpec.{ListAt}
use Rattle.aut_states.specs.Clauses.{limits_of}
use Rattle.aut_states.specs.declared.Config.{Config}
use Rattle.aut_relations.specs.declared.Aut.{Aut as Lent}
use Rattle.aut_relations.specs.declared.Transitions.{Transitions}
use Rattle.aut_relations.specs.Lent.{aut_in, Keeps, Asked}
use Rattle.aut_stage.specs.OnLent.{Goes}
use Rattle.aut_stage.proofs.OnLent.{lent_laws}
use Rattle.aut_stage.proofs.Rule.{Inside}
use Rattle.aut_st_source.specs.Insert.{RESULT, FIRST, SECOND}
use Rattle.aut_st_source.proofs.Join.{list_few}
use Rattle.aut_st_edges.specs.Clauses.{Wrote, CopyReady}
use Rattle.aut_st_source.specs.declared.Place.{Place}
use Rattle.aut_st_source.specs.declared.Place.TheVariants as place
use Rattle.aut_st_source.specs.declared.Source.{Source}
use Rattle.aut_st_source.specs.Clauses.{edges_at, scratched, source_of, Walked}
use Rattle.aut_st_source.proofs.Sources.{source_kept, walked_later}
use Rattle.aut_st_stage.proofs.Turns.{source_in, WalkedIn}
use Rattle.aut_st_stage.proofs.Run.{Run, written, run_wrote}

-- a place that ends before record `at` of scratch, or is stored
abbrev Before : ℕ → Place → ℕ → Type 0
Before at (place.Stored a) n = Unit
Before at (place.Scratch a) n = a + n ≤ at

-- u is walked in the tables x, and its transitions are es
pub record Waits (k : Config) (x : Lent) (u : Source) (es : List Edge) : Type 0 where
  pub is : source_in u x ≡ es
  pub walked : WalkedIn k.fields u x

module _ {k : Config} {x : Lent} {u : Source} where
  pub waits : WalkedIn k.fields u x → Waits k x u (source_in u x)
  waits W = record { is = refl; walked = W }

  module _ {es : List Edge} (W : Waits k x u es) where
    -- what is done with u
    pub with_it : {A V : Type 0} {see : V → A} {P : Aut → A → Type 0} {a n : ℕ} {r : Result V Refusal} {y : Lent} (o : List Edge → Step Aut A) → Goes k a n P see (o (source_in u x)) x r y → Goes k a n P see (o es) x r y
    with_it {see = see} {P = P} {a = a} {n = n} {r = r} {y = y} o G = subst (λ (us : List Edge). Goes k a n P see (o us) x r y) W.is G

    -- a source that is said to be u
    pub waits_as : {v : Source} → v ≡ u → Waits k x v es
    waits_as e = subst (λ (w : Source). Waits k x w es) (sym e) W

    -- it still waits after a call
    pub waits_later : {A V : Type 0} {see : V → A} {P : Aut → A → Type 0} {a n : ℕ} {o : Step Aut A} {v : V} {y : Lent} → Inside 0 832 a n → Keeps x y → Goes k a n P see o x (Ok v) y → Waits k y u es
    waits_later {a = a} {n = n} {y = y} i K G =
        let p = (lent_laws k.fields k.limits).frame_wide 0 832 a n (aut_in y) x.scratch.now y.scratch.now i.from i.to G.post.then.frame in
        record {
          is = ap (λ (z : Transitions). source_of u z.words.now y.scratch.now) K.transitions ∙ source_kept p x.transitions.words.now u W.walked.within ∙ W.is;
          walked = subst (λ (t : Transitions). Walked k.fields (aut_in y) t.words.now y.scratch.now u) (sym K.transitions) (walked_later p x.transitions.words.now W.walked G.post.then.ext.grown);
        }

    -- and after another list was copied
    pub waits_copied : (at n : ℕ) {w : List ℕ} → Before at u.place u.length → Kept (2 * at) (2 * n) x.scratch.now w → Waits k (written x w) u es
    waits_copied at n {w} l p =
        let e : source_of u x.transitions.words.now w ≡ source_in u x = go u.place u.length l in
        record { is = e ∙ W.is; walked = record { within = W.walked.within; edges = subst (EdgesAt k.fields (aut_in x)) (sym e) W.walked.edges } }
      where
        go : (q : Place) (m : ℕ) → Before at q m → edges_at q x.transitions.words.now w m ≡ edges_at q x.transitions.words.now x.scratch.now m
        go (place.Stored a) m l = refl
        go (place.Scratch a) m l = edges_below a m p (omega (arith, l))

-- what is done with two sources
pub with_two : {k : Config} {x : Lent} {u v : Source} {es fs : List Edge} (W : Waits k x u es) (W' : Waits k x v fs) {A V : Type 0} {see : V → A} {P : Aut → A → Type 0} {a n : ℕ} {r : Result V Refusal} {y : Lent}
    (o : List Edge → List Edge → Step Aut A) → Goes k a n P see (o (source_in u x) (source_in v x)) x r y → Goes k a n P see (o es fs) x r y
with_two {x = x} {v = v} {es = es} W W' o G = with_it W' (λ us. o es us) (with_it W (λ ts. o ts (source_in v x)) G)

-- ---- the list at RESULT is copied, to FIRST or to SECOND

module _ {k : Config} (x : Lent) (n : ℕ) (limit : k.limits.transitions ≤ 64) (p : ListAt k.fields (limits_of k.limits) (aut_in x) (edges x.scratch.now RESULT n)) (at : ℕ) (from : FIRST ≤ at) (to : at ≤ SECOND) where
  few : n ≤ 64
  few = list_few x.scratch.now RESULT n p limit

  pub copy_ready : Asked k x → CopyReady x.scratch.now RESULT n at
  copy_ready R = record { source = omega (arith, few, R.ready.room); room = omega (arith, few, R.ready.room, to); apart = inl (omega (arith, few, from)) }

  module _ {w : List ℕ} (C : Wrote at n (edges x.scratch.now RESULT n) x.scratch.now w) where
    pub copy_waits : Waits k (written x w) (scratched at n) (edges x.scratch.now RESULT n)
    copy_waits = record { is = C.is; walked = record { within = (from, omega (arith, few, to)); edges = subst (EdgesAt k.fields (aut_in x)) (sym C.is) p.edges } }

    pub run_copied : {A : Type 0} {whole rest : Step Aut A} {b : Lent} → length w ≡ length x.scratch.now → Run k 0 1088 whole rest b x → Run k 0 1088 whole rest b (written x w)
    run_copied len g = run_wrote g (record { from = omega arith; to = omega (arith, few, to) }) (omega (arith, few, to)) C.kept len

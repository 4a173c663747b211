-- How to follow a query's steps. What they come to: it is refused only in later tables, with its reason ("Who can cause a refusal": 20, 24, and what epsilon and delta meet); or it gives tables that are in
-- order and a value of which something holds. Then each step that queries take: on packet nodes (difference, union; bwd, push, pull), on relation nodes (ifwd), constructors, epsilon and delta.
use Rattle.std.specs.Prelude.{if◌then◌else◌}
use mathlib.Core.Path.{◌≡◌, refl}
use mathlib.Core.Bool.{Bool, true, false}
use mathlib.Core.List.{List, Memᴰ}
use Prim.Native.Nat.{ℕ, ◌≤◌, ◌<◌}
use lib.ListN.{length}
use Rattle.common.specs.Outcome.{Outcome, refused, given, Step, after, Gives, refusal, gives}
use Rattle.common.specs.Runs as Runs
use Rattle.common.specs.Runs.{Table, placed}
use Rattle.common.proofs.Runs.{StableSpec}
use Rattle.netkat_steps.specs.ListSteps.{Edge, IsList}
use Rattle.sp_steps.specs.Wf as SpLaws
use Rattle.sp_steps.proofs.Laws as SpLawsProofs
use Rattle.sp_steps.proofs.Refused as SpRefused
use Rattle.spp_steps.specs.Wf.{Ext}
use Rattle.spp_steps.proofs.Exact.{Exact, Stops, stuck}
use Rattle.spp_steps.specs.ImageModel.{Stores}
use Rattle.spp_steps.proofs.Images.{both_theory, SetLacks, set_limits, rel_limits}
use Rattle.aut_steps.specs.Tables.{Limits, Aut, put_nodes}
use Rattle.aut_steps.specs.Wf.{states, ExtAut, WfAut}
use Rattle.aut_steps.proofs.Wf.{grown_refl, grown_trans, grown_nodes}
use Rattle.aut_steps.proofs.StepSpec.{no_node, good_nodes, StepSpec}
use Rattle.aut_steps.specs.Meaning.{Holds}
use Rattle.aut_delta_steps.specs.Epsilon.{epsilon}
use Rattle.aut_delta_steps.specs.Delta.{Store, put_aut, on_aut, delta}
use Rattle.aut_delta_steps.specs.Fits.{tables as readings, Since}
use Rattle.aut_delta_steps.proofs.Agree.{Agree, stop, come}
use Rattle.aut_delta_steps.specs.Wf.{Means, HasEpsilon, ExtT, WfStore, Stored}
use Rattle.aut_delta_steps.proofs.Wf.{extt_refl, extt_trans, worked_since}
use Rattle.aut_delta_steps.specs.Extends.{ExtStore}
use Rattle.aut_delta_steps.proofs.Extends.{went_refl, went_trans, went_since}
use Rattle.aut_delta_steps.proofs.DeltaRuns.{WhyDelta, listing, Halted, Stepped, Deltaed, goes_step, epsilon_step, epsilon_has}
use Rattle.aut_delta_steps.proofs.DeltaLaws.{delta_goes}
use Rattle.aut_query_steps.specs.Tables.{Tables, diagrams, put_sets, put_base, put_relations, on_sets, on_base, making_sets, making_relations, WfTables, ExtTables}
use Rattle.aut_query_steps.proofs.Tables.{Gone, gone_later, lives_gone}
use Rattle.aut_query_steps.specs.Search.{capacity}

-- ---- how the tables have come further

pub gone_refl : (σ : Tables) → Gone σ σ
gone_refl σ = record { sets = SpLawsProofs.ext_refl σ.sets; went = went_refl σ.base }

pub gone_trans : {σ τ υ : Tables} → Gone σ τ → Gone τ υ → Gone σ υ
gone_trans p q = record { sets = SpLawsProofs.ext_trans p.sets q.sets; went = went_trans p.went q.went }

-- packet nodes alone
pub gone_sets : {σ : Tables} {t : Table} → SpLaws.Ext σ.sets t → Gone σ (put_sets t σ)
gone_sets {σ} e = record { sets = e; went = went_refl σ.base }

-- the other tables alone
pub gone_base : {σ : Tables} {b : Store} → ExtStore σ.base b → Gone σ (put_base b σ)
gone_base {σ} w = record { sets = SpLawsProofs.ext_refl σ.sets; went = w }

module _ {N : ℕ} {L : Limits} where
  pub ordered_sets : {σ : Tables} {t : Table} → WfTables N L σ → SpLaws.Ext σ.sets t → SpLaws.Wf N t → WfTables N L (put_sets t σ)
  ordered_sets o e w = record { sets = w; worked = o.worked; lives = lives_gone (gone_sets e) o }

  pub ordered_base : {σ : Tables} {b : Store} → WfTables N L σ → ExtStore σ.base b → WfStore N L b → WfTables N L (put_base b σ)
  ordered_base o w v = record { sets = o.sets; worked = v; lives = lives_gone (gone_base w) o }

-- ---- what a run comes to

-- 01, "Who can cause a refusal": why a query that has come to the tables τ is refused with a number
pub data QueryReason (N : ℕ) (L : Limits) (lent : ℕ) (τ : Tables) : ℕ → Type 0 where
  -- a packet node is lacking (20)
  no_packet_node : {number : ℕ} → SetLacks number τ.sets → QueryReason N L lent τ number
  -- a relation node is lacking (21), or what delta meets
  working : {number : ℕ} → WhyDelta N L τ.base number → QueryReason N L lent τ number
  -- the pending table is full of these states, and one more is to go in
  no_entry : (pending : List ℕ) → ((s : ℕ) → Memᴰ s pending → s < states τ.base.aut) → capacity lent ≤ length pending → QueryReason N L lent τ 24

-- from σ, it is refused in later tables, with the right number
pub record Stopped (N : ℕ) (L : Limits) (lent : ℕ) (σ : Tables) (number : ℕ) : Type 0 where
  pub last : Tables
  pub sets : SpLaws.Ext σ.sets last.sets
  pub grown : ExtAut σ.base.aut last.base.aut
  pub transitions : ExtT σ.base.transitions last.base.transitions
  pub wf : SpLaws.Wf N last.sets
  pub good : WfAut N L last.base.aut
  pub why : QueryReason N L lent last number

pub data Ends (N : ℕ) (L : Limits) (lent : ℕ) {A : Type 0} (Q : Tables → A → Type 0) (σ : Tables) : Outcome Tables A → Type 0 where
  halts : {number : ℕ} → Stopped N L lent σ number → Ends N L lent Q σ (refused number)
  comes : {τ : Tables} {a : A} → Q τ a → Ends N L lent Q σ (given τ a)

-- a step from σ has given τ, in order, and a value of which P holds
pub record Steps (N : ℕ) (L : Limits) {A : Type 0} (P : Tables → A → Type 0) (σ τ : Tables) (a : A) : Type 0 where
  pub gone : Gone σ τ
  pub ordered : WfTables N L τ
  pub holds : P τ a

-- .. a step that makes packet nodes only
abbrev pub SetSteps : (N : ℕ) (L : Limits) {A : Type 0} → (Table → A → Type 0) → Tables → Tables → A → Type 0
SetSteps N L P σ = Steps N L (λ τ a. (τ.base ≡ σ.base) × P τ.sets a) σ

pub gives_map : {S A : Type 0} {P Q : S → A → Type 0} {o : Outcome S A} → ((σ : S) (a : A) → P σ a → Q σ a) → Gives P o → Gives Q o
gives_map f refusal = refusal
gives_map f (gives {σ} {a} p) = gives (f σ a p)

-- what follows from later tables
pub stopped_later : {N : ℕ} {L : Limits} {lent : ℕ} {σ τ : Tables} {number : ℕ} → ExtTables σ τ → Stopped N L lent τ number → Stopped N L lent σ number
stopped_later g s = record {
  last = s.last;
  sets = SpLawsProofs.ext_trans g.sets s.sets;
  grown = grown_trans g.grown s.grown;
  transitions = extt_trans g.transitions s.transitions;
  wf = s.wf;
  good = s.good;
  why = s.why;
}

pub ends_from : {N : ℕ} {L : Limits} {lent : ℕ} {A : Type 0} {Q : Tables → A → Type 0} {σ τ : Tables} {o : Outcome Tables A} → Gone σ τ → Ends N L lent Q τ o → Ends N L lent Q σ o
ends_from g (halts s) = halts (stopped_later (gone_later g) s)
ends_from g (comes q) = comes q

module _ {N : ℕ} {L : Limits} {lent : ℕ} {A : Type 0} where
  pub ends_gives : {Q : Tables → A → Type 0} {σ : Tables} {o : Outcome Tables A} → Ends N L lent Q σ o → Gives Q o
  ends_gives (halts s) = refusal
  ends_gives (comes q) = gives q

  pub ends_map : {P Q : Tables → A → Type 0} {σ : Tables} {o : Outcome Tables A} → ((τ : Tables) (a : A) → P τ a → Q τ a) → Ends N L lent P σ o → Ends N L lent Q σ o
  ends_map f (halts s) = halts s
  ends_map f (comes {τ} {a} p) = comes (f τ a p)

  -- one step after another
  pub ends_bind : {B : Type 0} {P : Tables → A → Type 0} {Q : Tables → B → Type 0} {σ : Tables} {o : Outcome Tables A} {k : A → Step Tables B} → Ends N L lent P σ o
      → ((τ : Tables) (a : A) → P τ a → Gone σ τ × Ends N L lent Q τ (k a τ)) → Ends N L lent Q σ (after o k)
  ends_bind (halts s) f = halts s
  ends_bind (comes {τ} {a} p) f = let (g, e) = f τ a p in ends_from g e

  pub ends_later : {B : Type 0} {P : Tables → A → Type 0} {Q : Tables → B → Type 0} {σ : Tables} {o : Outcome Tables A} {k : A → Step Tables B} → Ends N L lent P σ o
      → ((τ : Tables) (a : A) → P τ a → ExtTables σ τ × Ends N L lent Q τ (k a τ)) → Ends N L lent Q σ (after o k)
  ends_later (halts s) f = halts s
  ends_later {Q = Q} {σ = σ} (comes {τ} {a} p) f = let (g, e) = f τ a p in go g e
    where
      go : {τ : Tables} {o : Outcome Tables _} → ExtTables σ τ → Ends N L lent Q τ o → Ends N L lent Q σ o
      go g (halts s) = halts (stopped_later g s)
      go g (comes q) = comes q

  pub ends_call : {B : Type 0} {P : Tables → A → Type 0} {Q : Tables → B → Type 0} {σ : Tables} {o : Outcome Tables A} {k : A → Step Tables B} → Ends N L lent (Steps N L P σ) σ o
      → ((τ : Tables) (a : A) → Steps N L P σ τ a → Ends N L lent Q τ (k a τ)) → Ends N L lent Q σ (after o k)
  ends_call r f = ends_bind r (λ τ a p. (p.gone, f τ a p))

  -- two ways to go on that come to the same where the step before leads
  pub ends_same : {B : Type 0} {P : Tables → A → Type 0} {σ : Tables} {o : Outcome Tables A} {j k : A → Step Tables B} → Ends N L lent P σ o → ((τ : Tables) (a : A) → P τ a → j a τ ≡ k a τ) → after o j ≡ after o k
  ends_same (halts s) f = refl
  ends_same (comes {τ} {a} p) f = f τ a p

  -- two laws of one run
  pub ends_both : {P Q : Tables → A → Type 0} {σ : Tables} {o : Outcome Tables A} → Ends N L lent P σ o → Ends N L lent Q σ o → Ends N L lent (λ τ a. P τ a × Q τ a) σ o
  ends_both (halts s) e = halts s
  ends_both (comes p) (comes q) = comes (p, q)

  pub ends_with : {P Q : Tables → A → Type 0} {σ : Tables} {o : Outcome Tables A} → Ends N L lent P σ o → Gives Q o → Ends N L lent (λ τ a. P τ a × Q τ a) σ o
  ends_with (halts s) g = halts s
  ends_with (comes p) (gives q) = comes (p, q)

  -- a test
  pub ends_branch : {Q : Tables → A → Type 0} (b : Bool) (m k : Step Tables A) (σ : Tables) → (b ≡ true → Ends N L lent Q σ (m σ)) → (b ≡ false → Ends N L lent Q σ (k σ)) → Ends N L lent Q σ ((if b then m else k) σ)
  ends_branch true m k σ f g = f refl
  ends_branch false m k σ f g = g refl

-- refused at once
pub stopped_here : {N : ℕ} {L : Limits} {lent : ℕ} {σ : Tables} {number : ℕ} → WfTables N L σ → QueryReason N L lent σ number → Stopped N L lent σ number
stopped_here {σ = σ} o y = record {
  last = σ;
  sets = SpLawsProofs.ext_refl σ.sets;
  grown = grown_refl σ.base.aut;
  transitions = extt_refl σ.base.transitions;
  wf = o.sets;
  good = o.worked.good;
  why = y;
}

-- ---- the steps

module _ {N : ℕ} {L : Limits} {lent : ℕ} {σ : Tables} (o : WfTables N L σ) where
  -- on packet nodes
  pub sets_step : {c : Step Table ℕ} {P : Table → ℕ → Type 0} → StableSpec (SpLawsProofs.sp_theory N) c P σ.sets → SpRefused.Stops N σ.sets (c σ.sets) → Ends N L lent (SetSteps N L P σ) σ (on_sets c σ)
  sets_step {c} {P} r s = go (c σ.sets) r s
    where
      go : (r : Outcome Table ℕ) → Gives (Runs.StableResult (SpLawsProofs.sp_theory N) c P σ.sets) r → SpRefused.Stops N σ.sets r → Ends N L lent (SetSteps N L P σ) σ (placed put_sets σ r)
      go (refused number) g (SpRefused.lacks z) = halts (record {
        last = put_sets z.last σ;
        sets = z.later;
        grown = grown_refl σ.base.aut;
        transitions = extt_refl σ.base.transitions;
        wf = z.wf;
        good = o.worked.good;
        why = no_packet_node (record { number_is = refl; left = z.left; right = z.right; short = z.short });
      })
      go (given t h) (gives g) s = comes (record { gone = gone_sets g.ext; ordered = ordered_sets o g.ext g.wf; holds = (refl, g.holds) })

  -- on both kinds of nodes, making packet nodes
  pub images_step : (P : Table → ℕ → Type 0) {c : Step Stores ℕ} → Exact (set_limits N) c (λ τ h. P τ.sp h) (diagrams σ) → Ends N L lent (SetSteps N L P σ) σ (making_sets c σ)
  images_step P {c} x = go (c (diagrams σ)) x.runs x.stops
    where
      go : (r : Outcome Stores ℕ) → Gives (Runs.StableResult (both_theory N) c (λ τ h. P τ.sp h) (diagrams σ)) r → Stops (set_limits N) (diagrams σ) r
          → Ends N L lent (SetSteps N L P σ) σ (placed (λ s σ. put_sets s.sp σ) σ r)
      go (refused number) g (stuck {τ = τ} e w y) = halts (record {
        last = put_sets τ.sp σ;
        sets = e.sp_ext;
        grown = grown_refl σ.base.aut;
        transitions = extt_refl σ.base.transitions;
        wf = w.sp_wf;
        good = o.worked.good;
        why = no_packet_node y;
      })
      go (given τ h) (gives g) s = comes (record { gone = gone_sets g.ext.sp_ext; ordered = ordered_sets o g.ext.sp_ext g.wf.sp_wf; holds = (refl, g.holds) })

  -- .. making relation nodes
  pub relations_step : (P : Table → ℕ → Type 0) {c : Step Stores ℕ} → Exact (rel_limits N) c (λ τ h. P τ.spp h) (diagrams σ) → Ends N L lent (Steps N L (λ τ h. P τ.base.aut.nodes h) σ) σ (making_relations c σ)
  relations_step P {c} x = go (c (diagrams σ)) x.runs x.stops
    where
      go : (r : Outcome Stores ℕ) → Gives (Runs.StableResult (both_theory N) c (λ τ h. P τ.spp h) (diagrams σ)) r → Stops (rel_limits N) (diagrams σ) r
          → Ends N L lent (Steps N L (λ τ h. P τ.base.aut.nodes h) σ) σ (placed (λ s σ. put_relations s.spp σ) σ r)
      go (refused number) g (stuck {τ = τ} e w y) = halts (record {
        last = put_relations τ.spp σ;
        sets = SpLawsProofs.ext_refl σ.sets;
        grown = grown_nodes {σ = σ.base.aut} e.spp_ext;
        transitions = extt_refl σ.base.transitions;
        wf = o.sets;
        good = good_nodes o.worked.good e.spp_ext w.spp_wf;
        why = working (listing (no_node y));
      })
      go (given τ h) (gives g) s =
          let e : Ext σ.base.aut.nodes τ.spp = g.ext.spp_ext in
          let s : Since N L σ.base.aut (put_nodes τ.spp σ.base.aut) = record { grown = grown_nodes {σ = σ.base.aut} e; memos = λ i w l m. refl; good = good_nodes o.worked.good e g.wf.spp_wf } in
          let f : Gone σ (put_relations τ.spp σ) = record { sets = SpLawsProofs.ext_refl σ.sets; went = went_since s } in
          comes (record { gone = f; ordered = record { sets = o.sets; worked = worked_since o.worked s; lives = lives_gone f o }; holds = g.holds })

  -- on the other tables
  halted : {number : ℕ} → Halted N L σ.base number → Stopped N L lent σ number
  halted h = record {
    last = put_base h.last σ;
    sets = SpLawsProofs.ext_refl σ.sets;
    grown = h.grown;
    transitions = h.transitions;
    wf = o.sets;
    good = h.good;
    why = working h.why;
  }

  pub base_step : {X : Type 0} {P : Aut → X → Type 0} {r p : Outcome Store X} → Agree (Halted N L σ.base) (Stepped N L P σ.base) r p → Ends N L lent (Steps N L (λ τ v. P τ.base.aut v) σ) σ (placed put_base σ r)
  base_step (stop h) = halts (halted h)
  base_step (come f) = comes (record { gone = gone_base f.went; ordered = ordered_base o f.went f.worked; holds = f.holds })

  -- a constructor
  pub goes_ends : {X : Type 0} {P : Aut → X → Type 0} {r : Outcome Aut X} → StepSpec N L P σ.base.aut r → Ends N L lent (Steps N L (λ τ v. P τ.base.aut v) σ) σ (placed put_base σ (placed put_aut σ.base r))
  goes_ends g = base_step (goes_step o.worked g)

  module _ {s : ℕ} (k : s < states σ.base.aut) where
    pub epsilon_ends : Ends N L lent (Steps N L (λ τ e. Means N τ.base.aut.nodes e (Holds N σ.base.aut s)) σ) σ (on_base (on_aut (epsilon N s)) σ)
    epsilon_ends = base_step (epsilon_step o.worked k)

    -- the list is a delta of the state, and is stored
    pub delta_ends : Ends N L lent (Steps N L (λ τ es. Stored τ.base s es × IsList (readings N L) (Holds N σ.base.aut s) τ.base.aut es) σ) σ (on_base (delta N L s) σ)
    delta_ends = go (delta_goes o.worked k)
      where
        go : {r p : Outcome Store (List Edge)} → Agree (Halted N L σ.base) (Deltaed N L s σ.base) r p
            → Ends N L lent (Steps N L (λ τ es. Stored τ.base s es × IsList (readings N L) (Holds N σ.base.aut s) τ.base.aut es) σ) σ (placed put_base σ r)
        go (stop h) = halts (halted h)
        go (come d) = comes (record {
          gone = gone_base d.listed.went;
          ordered = ordered_base o d.listed.went d.listed.worked;
          holds = (d.stored, d.listed.list);
        })

-- an epsilon that was asked for is kept
pub epsilon_kept : {N : ℕ} {L : Limits} {σ : Tables} → WfTables N L σ → {s : ℕ} → s < states σ.base.aut → Gives (λ τ e. HasEpsilon τ.base.aut s) (on_base (on_aut (epsilon N s)) σ)
epsilon_kept {σ = σ} o {s} k = go (epsilon_has o.worked k)
  where
    go : {r : Outcome Store ℕ} → Gives (λ b e. HasEpsilon b.aut s) r → Gives (λ τ e. HasEpsilon τ.base.aut s) (placed put_base σ r)
    go refusal = refusal
    go (gives p) = gives p

-- What holds of the definitions of specs/Tables.
use mathlib.Core.Path.{◌≡◌, refl, sym, ◌∙◌, subst}
use mathlib.Core.List.{List, Memᴰ}
use Prim.Native.Nat.{ℕ, ◌+◌, ◌*◌, ◌≤◌, ◌<◌}
use native.Mathlib.Omega.{arith}
use lib.Dec.{leb}
use lib.ListN.{get_or}
use borrow.Author.Tests.{leb-true, leb-false}
use Rattle.common.specs.Packets.{Set}
use Rattle.common.specs.Outcome.{given}
use Rattle.common.proofs.Follow.{given_of}
use Rattle.common.specs.Runs.{Table, table}
use Rattle.netkat.specs.Rules.{Language}
use Rattle.netkat.specs.Live.{IsLive}
use Rattle.sp_steps.specs.Model as Sp
use Rattle.sp_steps.specs.Wf as SpLaws
use Rattle.sp_steps.proofs.Laws as SpLawsProofs
use Rattle.sp_steps.proofs.Start as SpStart
use Rattle.spp_steps.specs.Model as Spp
use Rattle.spp_steps.specs.Wf.{Ext}
use Rattle.spp_steps.proofs.Laws.{by_test}
use Rattle.spp_steps.proofs.Begin as SppBegin
use Rattle.spp_steps.specs.Images.{BothWf}
use Rattle.aut_steps.specs.Tables.{Limits, Aut, aut}
use Rattle.aut_steps.specs.Languages.{◌≈◌}
use Rattle.aut_steps.proofs.Languages.{≈-sym}
use Rattle.aut_steps.specs.Wf.{states, WfAut}
use Rattle.aut_steps.proofs.Wf.{grown_refl, grown_trans}
use Rattle.aut_steps.proofs.StepSpec.{good_begun}
use Rattle.aut_steps.proofs.Meaning.{holds_grown}
use Rattle.aut_delta_steps.specs.Delta.{count_of, store}
use Rattle.aut_delta_steps.proofs.Wf.{has_epsilon_grown, extt_refl, extt_trans, same_list, begun}
use Rattle.aut_delta_steps.specs.Extends.{ExtStore}
use Rattle.aut_query_steps.specs.Tables.{Tables, tables, diagrams, live_of, LiveSet, Lives, WfTables, ExtTables}

pub live_ext : {N : ℕ} {t u : Table} {l : ℕ} {A : Language N} → SpLaws.Ext t u → LiveSet N t l A → LiveSet N u l A
live_ext e m = record { set = m.set; den = SpLawsProofs.den_ext e m.den; is = m.is }

pub is_live_same : {N : ℕ} {x : Set N} {A B : Language N} → A ≈ B → IsLive x A → IsLive x B
is_live_same f i = record {
  live = λ a. (
    λ t. let s = (i.live a).0 t in record { hops = s.hops; end = s.end; held = (f _).0 s.held },
    λ s. (i.live a).1 (record { hops = s.hops; end = s.end; held = (f _).1 s.held }),
  );
}

pub live_same : {N : ℕ} {t : Table} {l : ℕ} {A B : Language N} → A ≈ B → LiveSet N t l A → LiveSet N t l B
live_same f m = record { set = m.set; den = m.den; is = is_live_same f m.is }

pub both_wf : {N : ℕ} {L : Limits} {σ : Tables} → WfTables N L σ → BothWf N (diagrams σ)
both_wf o = record { sp_wf = o.sets; spp_wf = o.worked.good.nodes }

-- only a state in use has a word 7
pub live_there : {N : ℕ} {L : Limits} {σ : Aut} → WfAut N L σ → (x : ℕ) → 0 < live_of σ.states.words x → x < states σ
unfolding live_of
live_there {σ = σ} g x p = by_test (leb (states σ) x)
    (λ t. absurd (omega (arith, g.fresh (12 * x + 7) (omega (arith, leb-true (states σ) x t)))))
    (λ t. leb-false (states σ) x t)

-- ---- tables that have come further

-- Steps of epsilon and delta, and packet nodes: words 7 to 11 of the states are as they were.
pub record Gone (σ τ : Tables) : Type 0 where
  pub sets : SpLaws.Ext σ.sets τ.sets
  pub went : ExtStore σ.base τ.base

pub later_refl : (σ : Tables) → ExtTables σ σ
later_refl σ = record {
  sets = SpLawsProofs.ext_refl σ.sets;
  grown = grown_refl σ.base.aut;
  epsilons = λ i l. refl;
  lists = λ i l. (refl, refl);
  lives = λ i l. refl;
  others = λ i w l m. refl;
  transitions = extt_refl σ.base.transitions;
}

pub later_trans : {σ τ υ : Tables} → ExtTables σ τ → ExtTables τ υ → ExtTables σ υ
later_trans p q = record {
  sets = SpLawsProofs.ext_trans p.sets q.sets;
  grown = grown_trans p.grown q.grown;
  epsilons = λ i l. q.epsilons i (omega (arith, p.epsilons i l)) ∙ p.epsilons i l;
  lists = λ i l.
      let (a, b) = p.lists i l in
      let (c, d) = q.lists i (omega arith) in
      (c ∙ a, d ∙ b);
  lives = λ i l. q.lives i (omega (arith, p.lives i l)) ∙ p.lives i l;
  others = λ i w l m. q.others i w l m ∙ p.others i w l m;
  transitions = extt_trans p.transitions q.transitions;
}

module _ {σ τ : Tables} (g : Gone σ τ) where
  pub live_word : (i : ℕ) → live_of τ.base.aut.states.words i ≡ live_of σ.base.aut.states.words i
  unfolding live_of
  live_word i = g.went.others i 7 (omega arith) (omega arith)

  pub gone_later : ExtTables σ τ
  gone_later = record {
    sets = g.sets;
    grown = g.went.grown;
    epsilons = g.went.epsilons;
    lists = g.went.lists;
    lives = λ i l. live_word i;
    others = λ i w l m. g.went.others i w (omega arith) m;
    transitions = g.went.transitions;
  }

  -- live sets that are kept are still right
  pub lives_gone : {N : ℕ} {L : Limits} → WfTables N L σ → Lives N τ
  lives_gone {N} {L} o = record {
    kept = λ x l v e. let m : x < states σ.base.aut = old x (omega (arith, live_word x)) in
        live_same (≈-sym (holds_grown o.worked.good g.went.grown m)) (live_ext g.sets (o.lives.kept x m v (sym (live_word x) ∙ e)));
    listed = λ x l p. let c = had x (omega (arith, live_word x)) in omega (arith, (g.went.lists x c).0);
    has_epsilon = λ x l p. let q : 0 < live_of σ.base.aut.states.words x = omega (arith, live_word x) in
        has_epsilon_grown g.went.grown (old x q) (g.went.epsilons x) (o.lives.has_epsilon x (old x q) q);
    onward = λ x l p e m.
        let q : 0 < live_of σ.base.aut.states.words x = omega (arith, live_word x) in
        let k = old x q in
        let c = had x q in
        let s = same_list τ.base o.worked.lists g.went.transitions x k c (g.went.lists x c) in
        omega (arith, live_word e.target, o.lives.onward x k q e (subst (Memᴰ e) s m));
  }
    where
      old : (x : ℕ) → 0 < live_of σ.base.aut.states.words x → x < states σ.base.aut
      old x p = live_there o.worked.good x p

      had : (x : ℕ) → 0 < live_of σ.base.aut.states.words x → 0 < count_of σ.base.aut.states.words x
      had x p = o.lives.listed x (old x p) p

-- ---- tables begun

-- what holds when the constants of N fields are made in zeroed tables
pub begun_ordered : {N : ℕ} {L : Limits} {s r : Table} {h : ℕ} {c : Spp.Constants} (sp spp st ms ts : List ℕ) → 1 ≤ L.transitions
    → Sp.constants N (table sp 0) ≡ given s h → Spp.constants N (table spp 0) ≡ given r c → ((j : ℕ) → get_or st j 0 ≡ 0)
    → WfTables N L (tables s (store (aut r (table st 0) (table ms 0)) (table ts 0)))
begun_ordered {N} sp spp st ms ts some a b z = record {
  sets = (given_of (SpStart.begun N sp) a).wf;
  worked = begun some (good_begun st ms (given_of (SppBegin.begun N spp) b).wf z) refl refl;
  lives = record { kept = λ x l. absurd (omega arith); listed = λ x l. absurd (omega arith); has_epsilon = λ x l. absurd (omega arith); onward = λ x l. absurd (omega arith) };
}

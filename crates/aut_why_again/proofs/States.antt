-- One state: a step that stands gives its set again, and nothing is made; or no target's set changed, and the set stays.
use mathlib.Core.Path.{◌≡◌, refl, sym, ◌∙◌, ap, ap₂, subst}
use mathlib.Core.Bool.{Bool, false}
use mathlib.Core.List.{List, Memᴰ}
use Prim.Native.Nat.{ℕ, suc, ◌+◌, ◌*◌, ◌-◌, ◌<◌}
use native.Mathlib.Omega.{arith}
use lib.ListN.{length, get_or, set}
use Rattle.std.specs.Prelude.{Result, Ok, Err, IsOk}
use Rattle.common.specs.Outcome.{Outcome, given, Step}
use Rattle.common.proofs.Follow.{given_same, refused≢given}
use Rattle.netkat_steps.specs.ListSteps.{Edge}
use Rattle.refusal.specs.declared.Refusal.{Refusal}
use Rattle.sp.specs.declared.SP.{SP}
use Rattle.aut_relations.specs.declared.Aut.{Aut as Lent}
use Rattle.aut_sets.specs.Lent.{sets_in, OnlySets, OnlySearch}
use Rattle.aut_st_steps.specs.Edges.{edges}
use Rattle.aut_delta_steps.specs.Delta.{start_of, count_of}
use Rattle.aut_delta_stage.specs.OnTables.{store_in}
use Rattle.aut_query_steps.specs.Tables.{Tables, tables}
use Rattle.aut_query_stage.specs.Lent.{Leaves, tables_in}
use Rattle.aut_states.specs.declared.Config.{Config}
use Rattle.aut_states.specs.declared.Limits.{Limits}
use Rattle.aut_free.specs.Clear.{clear_tables}
use Rattle.aut_query_calls.specs.Working.{clear_in}
use Rattle.aut_sets.proofs.Small.{set_small}
use Rattle.aut_live_words.specs.Work.{seconds}
use Rattle.aut_why_steps.specs.Why.{Sets, turn, round_at}
use Rattle.aut_why_words.specs.Walk.{Walk}
use Rattle.aut_why_words.proofs.Walks.{walk_there}
use Rattle.aut_query_calls.specs.Working.{words_in, with_words}
use Rattle.aut_why_words.proofs.Lent.{sets_base}
use Rattle.aut_why_words.proofs.Found.{walk_list, walk_listed, walk_leads}
use Rattle.aut_why_rounds.specs.Clauses.{GivesSet, Turning}
use Rattle.aut_why_marks.specs.Clauses.{PreChanged, PostChanged}
use Rattle.aut_why_again.specs.Redone.{Worked}
use Rattle.aut_why_again.specs.Clauses.{Onward}
use Rattle.aut_why_again.proofs.Stays.{unchanged, round_stays}
use Rattle.aut_why_again.proofs.Carry.{leaves_none}

pub store_same : {S B : Type 0} {σ τ : S} {a b : B} → ◌≡◌ {A = Outcome S B} (given σ a) (given τ b) → σ ≡ τ
store_same e = cc

-- nothing but words of states, scratch and entries was written, and no node is made
pub search_tables : {x y : Lent} → OnlySearch x y → sets_in y ≡ sets_in x → tables_in y ≡ with_words y.states.words.now (tables_in x)
search_tables {x} {y} K e = ap₂ tables e base
  where
    base : store_in y ≡ (with_words y.states.words.now (tables_in x)).base
    base = rw K.spp (rw K.count (rw K.members (rw K.transitions refl)))

-- ---- a step that stands

module _ {g : Config} {o : Step Tables ℕ} {x y : Lent} {u : ℕ} (q : o (clear_in x) ≡ given (clear_in x) u) where
  pub not_refused : {e : Refusal} → GivesSet g o x (Err e) y → ⊥
  not_refused D = refused≢given (sym D.post.is ∙ q)

  pub stands_still : (r : Result SP Refusal) → GivesSet g o x r y → IsOk r
  stands_still (Ok h) D = refl
  stands_still (Err e) D = absurd (not_refused D)

  module _ {h : SP} (D : GivesSet g o x (Ok h) y) where
    same : given (clear_in y) h.0 ≡ given (clear_in x) u
    same = sym D.post.is ∙ q

    pub small : h.0 + 1 < 4294967296
    small = set_small g.fields h.0 D.post.then.ready.ordered.sets D.post.then.holds

    pub worked : OnlySets x y → (w i : ℕ) → Worked g.fields w i u (tables_in x) (with_words (set (words_in (tables_in y)) (12 * i + w) (h.0 + 1)) (tables_in y)) x.scratch.now y.scratch.now
    worked K w i = record {
      tables = ap (λ (τ : Tables). with_words (set (words_in τ) (12 * i + w) (h.0 + 1)) τ) none_made ∙ ap (λ (v : ℕ). with_words (set (words_in (tables_in x)) (12 * i + w) (v + 1)) (tables_in x)) (given_same same);
      frame = subst (λ (τ : Tables). Leaves g.fields 0 0 τ x.scratch.now y.scratch.now) (store_same same) D.post.then.frame;
      len = K.scratch.length;
    }
      where
        none_made : tables_in y ≡ tables_in x
        none_made = ap₂ tables (ap (λ (τ : Tables). τ.sets) (store_same same)) (sets_base K)

-- ---- what the steps ask

module _ {N : ℕ} {l : Limits} {σ : Tables} {s p : List ℕ} {n : ℕ} {ws : List Sets} {k i : ℕ} (T : Onward N l σ s p n ws k) (m : Memᴰ i (seconds p 0 n)) where
  abbrev K : Walk N l σ s p n
  K = T.on.standing.walk

  abbrev st : List ℕ
  st = words_in σ

  abbrev tr : List ℕ
  tr = σ.base.transitions.words

  pub turn_there : 12 * i + 11 < length st
  turn_there = walk_there K i m

  pub turn_asks : Turning N l σ s p n (round_at N ws k) i
  turn_asks = record { walk = K; sets = T.on.here.sets; valid = λ y j. T.on.standing.again.at k y; among = m }

  pub turn_stands : turn N (round_at N ws k) i (clear_tables σ) ≡ given (clear_tables σ) (round_at N ws (k + 1) i)
  turn_stands = T.on.standing.again.next k (omega (arith, T.more)) i m ∙ ap (λ (j : ℕ). given (clear_tables σ) (round_at N ws j i)) {x = suc k} {y = k + 1} (omega arith)

  pub turn_listed : PreChanged st tr i
  turn_listed = record { listed = walk_listed K m; targets = λ e j. walk_there K e.target (walk_leads K m e j) }

  here_sets : round_at N ws k i + 1 ≡ get_or st (12 * i + 8) 0
  here_sets = sym (T.on.here.sets.is i m)

  pub turn_some : 0 < get_or st (12 * i + 8) 0
  turn_some = omega (arith, here_sets)

  pub turn_small : {h : ℕ} → h ≡ get_or st (12 * i + 8) 0 - 1 → h + 1 < 4294967296
  turn_small e = omega (arith, e, here_sets, set_small N (round_at N ws k i) K.working.ready.ordered.sets (T.on.standing.again.at k i))

  -- no target's set changed
  pub turn_stays : (r : Bool) → r ≡ false → PostChanged st tr i r → {h : ℕ} → h ≡ get_or st (12 * i + 8) 0 - 1
      → Worked N 9 i (round_at N ws (k + 1) i) σ (with_words (set st (12 * i + 9) (h + 1)) σ) s s
  turn_stays r z q {h} e = record {
    tables = ap (λ (v : ℕ). with_words (set st (12 * i + 9) (v + 1)) σ) (was ∙ stays);
    frame = leaves_none N (clear_tables σ) s;
    len = refl;
  }
    where
      was : h ≡ round_at N ws k i
      was = omega (arith, e, here_sets)

      stays : round_at N ws k i ≡ round_at N ws (k + 1) i
      stays = round_stays T.on.standing.again k i m T.more (λ e j.
          let f = subst (λ (es : List Edge). Memᴰ e es) (walk_list K m) j in
          T.on.here.marks e.target (walk_leads K m e f) (unchanged st (edges tr (start_of st i) (count_of st i - 1)) (sym q ∙ z) e f))

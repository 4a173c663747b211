-- The loops over a source, on all tables that are lent: a turn reads a transition t and calls a function whose contract is a `Goes`. With v = c.loop-i.invariant and lt = c.loop-i-test.true:
--
--     invariant-loop-i l = Turning l.config P one all l.source l.initial.aut (the value before the loop) l.aut (the value now) l.i
--     loop-i-init c = turn_begin F W R p      F : Folds one all, W : Walked .., R : Asked .., p : P of the value before the loop
--     get-t-requires c = turn_read v lt
--     what the call asks: v.asked, turn_edge v lt c.get-t.ensures, turn_list v limit (where the value is the list at RESULT), turn_walked v W (another source)
--     loop-i-preserved c = turn_again v lt c.get-t.ensures c.in_ok-n.ensures.keeps c.in_ok-n.ensures.gives
--     returns-in_err-n-clause-gives c = turn_stuck v lt c.get-t.ensures c.in_err-n.ensures.gives
--     returns-clause-gives c = turn_end v c.loop-i-test.false
--     the clause keeps: v.keeps, and keeps_trans v.keeps c.in_err-n.ensures.keeps
use mathlib.Core.Path.{◌≡◌, sym, ◌∙◌, ap, subst}
use mathlib.Core.List.{List}
use Prim.Native.Nat.{ℕ, ◌+◌, ◌≤◌, ◌<◌}
use Rattle.std.specs.Prelude.{Result, Ok, Err}
use Rattle.common.specs.Outcome.{Step}
use Rattle.refusal.specs.declared.Refusal.{Refusal}
use Rattle.netkat_steps.specs.ListSteps.{Edge}
use Rattle.aut_steps.specs.Tables.{Aut}
use Rattle.aut_st_steps.specs.Edges.{edges, EdgeAt}
use Rattle.aut_st_steps.proofs.Edges.{edge_grown}
use Rattle.aut_st_steps.specs.ListSpec.{ListAt}
use Rattle.aut_states.specs.Clauses.{limits_of}
use Rattle.aut_states.specs.declared.Config.{Config}
use Rattle.aut_states.specs.declared.Limits.{Limits}
use Rattle.aut_relations.specs.declared.Aut.{Aut as Lent}
use Rattle.aut_relations.specs.declared.Transitions.{Transitions}
use Rattle.aut_relations.specs.Behind.{Modifies}
use Rattle.aut_relations.specs.Lent.{nodes_in, aut_in, Keeps, Asked}
use Rattle.aut_stage.specs.OnLent.{lent_layer, Goes}
use Rattle.aut_stage.proofs.OnLent.{lent_laws, asked_after}
use Rattle.aut_relations.proofs.Behind.{left_wide}
use Rattle.aut_stage.proofs.Rule.{Inside, all_of, Folds, Turned}
use Rattle.aut_stage.proofs.Turns.{Entries, read_begin, read_at, read_stuck, read_again, read_end}
use Rattle.aut_st_source.specs.Insert.{RESULT}
use Rattle.aut_st_source.specs.Asked.{ListAsked}
use Rattle.aut_relations.proofs.Kept.{keeps_refl, keeps_trans}
use Rattle.aut_st_source.specs.declared.Source.{Source}
use Rattle.aut_st_source.specs.Clauses.{source_of, entry_of, EntryIn, Walked}
use Rattle.aut_st_source.proofs.Sources.{on_from, from_all, from_next, from_done, entry_in, entry_at_lem, entry_kept, source_kept, walked_later}

-- the transitions of x in the tables b
abbrev pub source_in : Source → Lent → List Edge
source_in x b = source_of x b.transitions.words.now b.scratch.now

-- x in the tables b is walked
abbrev pub WalkedIn : ℕ → Source → Lent → Type 0
WalkedIn N x b = Walked N (aut_in b) b.transitions.words.now b.scratch.now x

-- the transitions of a source, where no insertion writes, nor a turn, which writes among the same words
entries : {a n : ℕ} → Inside 0 832 a n → {N : ℕ} (l : Limits) {σ : Aut} {tr s : List ℕ} {x : Source} → Walked N σ tr s x → Entries (lent_layer N l) a n (EdgeAt N) σ s x.length (on_from x tr s) (entry_of x tr)
entries j l {tr = tr} {s = s} {x = x} w = record {
  next = λ i lt. from_next tr s x i lt;
  none = λ i le. from_done tr s x i le;
  kept = λ τ s' p i lt. entry_kept (left_wide p j.from j.to) tr x i w.within lt;
  at = λ τ g i lt. edge_grown g.grown (entry_at_lem tr s x w.edges i lt);
}

-- i transitions of the source x are done: the tables b have become `now`, and the value y₀ has become y. Of the lists in scratch, n words from a on are written
pub record TurningIn (a n : ℕ) (k : Config) {A : Type 0} (P : Aut → A → Type 0) (one : Edge → A → Step Aut A) (all : List Edge → A → Step Aut A) (x : Source) (b : Lent) (y₀ : A) (now : Lent) (y : A) (i : ℕ) : Type 0 where
  pub inside : Inside 0 832 a n
  pub folds : Folds one all
  pub walked : WalkedIn k.fields x b
  pub keeps : Keeps b now
  pub asked : Asked k now
  pub turned : Turned (lent_layer k.fields k.limits) a n all (on_from x b.transitions.words.now b.scratch.now) x.length P (all (source_in x b) y₀ (aut_in b)) (aut_in b) (aut_in now) b.scratch.now now.scratch.now y i

-- where the turns insert
abbrev pub Turning : (k : Config) {A : Type 0} (P : Aut → A → Type 0) (one : Edge → A → Step Aut A) (all : List Edge → A → Step Aut A) (x : Source) (b : Lent) (y₀ : A) (now : Lent) (y : A) (i : ℕ) → Type 0
Turning k P one all x b y₀ now y i = TurningIn 0 832 k P one all x b y₀ now y i

module _ {a n : ℕ} {k : Config} {A : Type 0} {P : Aut → A → Type 0} {one : Edge → A → Step Aut A} {all : List Edge → A → Step Aut A} {x : Source} {b : Lent} {y₀ : A} where
  pub turn_begin_in : Inside 0 832 a n → Folds one all → WalkedIn k.fields x b → Asked k b → P (aut_in b) y₀ → TurningIn a n k P one all x b y₀ b y₀ 0
  turn_begin_in j F W R p = record {
    inside = j;
    folds = F;
    walked = W;
    keeps = keeps_refl b;
    asked = R;
    turned = read_begin (lent_laws k.fields k.limits) a n F (entries j k.limits W) R.ready (ap (λ (es : List Edge). all es y₀ (aut_in b)) (from_all b.transitions.words.now b.scratch.now x)) p;
  }

  module _ {now : Lent} {y : A} {i : ℕ} (v : TurningIn a n k P one all x b y₀ now y i) where
    -- no more was written than insertions write
    framed : Modifies k.fields 0 832 (nodes_in now) b.scratch.now now.scratch.now
    framed = left_wide v.turned.stage.frame v.inside.from v.inside.to

    -- the stored transitions are as they were
    stored : {B : Type 0} (f : List ℕ → B) → f now.transitions.words.now ≡ f b.transitions.words.now
    stored f = ap (λ (z : Transitions). f z.words.now) v.keeps.transitions

    -- another source is as it was, and is walked
    module _ {z : Source} (W : WalkedIn k.fields z b) where
      pub turn_source : source_in z now ≡ source_in z b
      turn_source = stored (λ (tr : List ℕ). source_of z tr now.scratch.now) ∙ source_kept framed b.transitions.words.now z W.within

      pub turn_walked : WalkedIn k.fields z now
      turn_walked = subst (λ (t : Transitions). Walked k.fields (aut_in now) t.words.now now.scratch.now z) (sym v.keeps.transitions) (walked_later framed b.transitions.words.now W v.turned.stage.ext.grown)

      -- what was done with it
      pub turn_row : (row : List Edge → Step Aut A) {V : Type 0} {see : V → A} {r : Result V Refusal} {next : Lent} → Goes k a n P see (row (source_in z now)) now r next → Goes k a n P see (row (source_in z b)) now r next
      turn_row row {see = see} {r = r} {next = next} g = subst (λ (us : List Edge). Goes k a n P see (row us) now r next) turn_source g

    module _ (lt : i < x.length) where
      pub turn_read : EntryIn now.transitions.words.now now.scratch.now x i
      turn_read = subst (λ (t : Transitions). EntryIn t.words.now now.scratch.now x i) (sym v.keeps.transitions) (entry_in b.transitions.words.now now.scratch.now x v.walked.within v.asked.ready.room i lt)

      -- the transition that was read
      module _ {e : Edge} (read : e ≡ entry_of x now.transitions.words.now now.scratch.now i) where
        was : e ≡ entry_of x b.transitions.words.now now.scratch.now i
        was = read ∙ stored (λ (tr : List ℕ). entry_of x tr now.scratch.now i)

        pub turn_edge : EdgeAt k.fields (aut_in now) e
        turn_edge = read_at (lent_laws k.fields k.limits) a n v.folds (entries v.inside k.limits v.walked) v.turned lt was

        module _ {V : Type 0} {see : V → A} {next : Lent} where
          -- the call was refused
          pub turn_stuck : {W : Type 0} {see' : W → A} {why : Refusal} → Goes k a n P see (one e y) now (Err why) next → Goes k a n P see' (all (source_in x b) y₀) b (Err why) next
          turn_stuck g = record { post = read_stuck (lent_laws k.fields k.limits) a n v.folds (entries v.inside k.limits v.walked) v.turned lt was g.post }

          -- the call came back with a value
          pub turn_again : {z : V} → Keeps now next → Goes k a n P see (one e y) now (Ok z) next → TurningIn a n k P one all x b y₀ next (see z) (i + 1)
          turn_again K g = record {
            inside = v.inside;
            folds = v.folds;
            walked = v.walked;
            keeps = keeps_trans v.keeps K;
            asked = asked_after v.asked K.spp g;
            turned = read_again (lent_laws k.fields k.limits) a n v.folds (entries v.inside k.limits v.walked) v.turned lt was g.post;
          }

  -- all transitions are done
  pub turn_end : {V : Type 0} {see : V → A} {now : Lent} {z : V} {i : ℕ} → TurningIn a n k P one all x b y₀ now (see z) i → x.length ≤ i → Goes k a n P see (all (source_in x b) y₀) b (Ok z) now
  turn_end v le = record { post = read_end (lent_laws k.fields k.limits) a n v.folds (entries v.inside k.limits v.walked) v.turned le }

module _ {k : Config} {A : Type 0} {P : Aut → A → Type 0} {one : Edge → A → Step Aut A} {all : List Edge → A → Step Aut A} {x : Source} {b : Lent} {y₀ : A} where
  pub turn_begin : Folds one all → WalkedIn k.fields x b → Asked k b → P (aut_in b) y₀ → Turning k P one all x b y₀ b y₀ 0
  turn_begin F W R p = turn_begin_in (all_of 0 832) F W R p

-- where the value is the list at RESULT: it can be inserted into
pub turn_list : {k : Config} {one : Edge → List Edge → Step Aut (List Edge)} {all : List Edge → List Edge → Step Aut (List Edge)} {x : Source} {b : Lent} {y₀ : List Edge} {now : Lent} {n i : ℕ}
    → Turning k (ListAt k.fields (limits_of k.limits)) one all x b y₀ now (edges now.scratch.now RESULT n) i → k.limits.transitions ≤ 64 → ListAsked k now n
turn_list v w = record { asked = v.asked; list = v.turned.holds; limit = w }

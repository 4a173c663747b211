-- The laws of the layer of specs/Lent; and a step whose law is known, as a call of it.
use mathlib.Core.Path.{◌≡◌, refl, sym, ◌∙◌, subst}
use mathlib.Core.Logic.{inl, inr, ⊎_elim}
use mathlib.Core.List.{List}
use Prim.Native.Nat.{ℕ, ◌<◌}
use native.Mathlib.Omega.{arith}
use lib.ListN.{length}
use Rattle.std.specs.Prelude.{Result, Ok, Err}
use Rattle.common.specs.Outcome.{Outcome}
use Rattle.refusal.specs.declared.Refusal.{Refusal}
use Rattle.refusal.specs.Numbers.{outcome}
use Rattle.cache.specs.Cache.{Sound, WritesValid}
use Rattle.cache.proofs.Cache.{sound_map, sound_notes, notes_map, notes_refl, notes_trans}
use Rattle.sp_steps.specs.Wf as SpLaws
use Rattle.sp_steps.specs.Reuse.{SpCode}
use Rattle.sp_steps.proofs.Reuse.{valid_not, code_range}
use Rattle.spp_steps.specs.Wf.{Ext}
use Rattle.spp_steps.proofs.Images.{BothExt}
use Rattle.spp.proofs.Reuse.{spp_memo}
use Rattle.spp_image.proofs.Reuse.{held_ext, written_ext, written_held, counted_ext}
use Rattle.aut_query_steps.specs.Tables.{Tables, diagrams, WfTables, ExtTables}
use Rattle.aut_query_steps.proofs.Tables.{later_refl, later_trans, gone_later}
use Rattle.aut_query_steps.proofs.Steps.{Ends, comes, Steps}
use Rattle.aut_states.specs.Clauses.{limits_of}
use Rattle.aut_states.specs.declared.Limits.{Limits}
use Rattle.aut_relations.specs.Behind.{cached}
use Rattle.aut_relations.proofs.Behind.{cached_kept}
use Rattle.aut_relations.specs.Lent.{Unless}
use Rattle.aut_stage.specs.Rule.{Laws, Post}
use Rattle.aut_query_stage.specs.Layer.{Readable, Resting, QueryReady}
use Rattle.aut_query_stage.specs.Lent.{Notable, Leaves, query_layer}

module _ (N : ℕ) (σ τ : Tables) (s : SpLaws.Ext σ.sets τ.sets) (t : Ext σ.base.aut.nodes τ.base.aut.nodes) where
  both : BothExt (diagrams σ) (diagrams τ)
  both = record { sp_ext = s; spp_ext = t }

  pub readable_ext : (op x y r : ℕ) → Readable N σ op x y r → Readable N τ op x y r
  readable_ext op x y r v = record {
    relations = (spp_memo N).read_ext σ.base.aut.nodes τ.base.aut.nodes t op x y r v.relations;
    images = held_ext both op x y r v.images;
    numbers = λ l h. counted_ext t op x y r (v.numbers l h);
  }

  pub notable_ext : (op x y r : ℕ) → Notable N σ op x y r → Notable N τ op x y r
  notable_ext op x y r (inl v) = inl ((spp_memo N).note_ext σ.base.aut.nodes τ.base.aut.nodes t op x y r v)
  notable_ext op x y r (inr (inl v)) = inr (inl (written_ext both op x y r v))
  notable_ext op x y r (inr (inr v)) = inr (inr (record { from = v.from; to = v.to; valid = counted_ext t op x y r v.valid }))

-- a code of packet sets is 1, 2 or 16
no_code : {op : ℕ} → 2 < op → (op ≡ 16 → ⊥) → SpCode op → ⊥
no_code l n c = ⊎_elim (λ e. omega arith) (λ e. n e) (code_range c)

pub notable_readable : {N : ℕ} (σ : Tables) (op x y r : ℕ) → Notable N σ op x y r → Readable N σ op x y r
notable_readable {N} σ op x y r (inl v) = record {
  relations = (spp_memo N).note_read σ.base.aut.nodes op x y r v;
  images = record { sets = valid_not (no_code (omega (arith, v.from)) (λ e. omega (arith, v.to))); images = λ l h. absurd (omega (arith, v.to)) };
  numbers = λ l h. absurd (omega (arith, v.to));
}
notable_readable {N} σ op x y r (inr (inl (inl v))) = record {
  relations = λ l h. absurd (⊎_elim (λ e. omega arith) (λ e. omega arith) (code_range v.own));
  images = written_held (diagrams σ) op x y r (inl v);
  numbers = λ l h. absurd (⊎_elim (λ e. omega arith) (λ e. omega arith) (code_range v.own));
}
notable_readable {N} σ op x y r (inr (inl (inr v))) = record {
  relations = λ l h. absurd (omega (arith, v.from));
  images = written_held (diagrams σ) op x y r (inr v);
  numbers = λ l h. absurd (omega (arith, v.to));
}
notable_readable {N} σ op x y r (inr (inr v)) = record {
  relations = λ l h. absurd (omega (arith, v.from));
  images = record { sets = valid_not (no_code (omega (arith, v.from)) (λ e. omega (arith, v.from))); images = λ l h. absurd (omega (arith, v.from)) };
  numbers = λ l h. v.valid;
}

-- what is noted may be read
pub sound_leaves : {N a n : ℕ} {σ τ : Tables} {s s' : List ℕ} → ExtTables σ τ → Leaves N a n τ s s' → Sound (Readable N σ) (cached s) → Sound (Readable N τ) (cached s')
sound_leaves {N} {σ = σ} {τ = τ} w p r =
    sound_notes (sound_map (readable_ext N σ τ w.sets w.grown.nodes) r) (notes_map (notable_readable τ) p.notes)

-- other tables in order and at rest, and scratch with a cache that is right for them
pub query_with : {N : ℕ} {l : Limits} {σ τ : Tables} {s s' : List ℕ} → QueryReady N l σ s → WfTables N (limits_of l) τ → Resting τ.base.aut.states.words → length s' ≡ length s → Sound (Readable N τ) (cached s') → QueryReady N l τ s'
query_with R o rest len b = record {
  ready = record {
    few = R.ready.few;
    good = o.worked.good;
    room = omega (arith, R.ready.room);
    sound = sound_map (λ op x y r v. v.relations) b;
    list = R.ready.list;
    products = R.ready.products;
  };
  ordered = o;
  limit = R.limit;
  sound = b;
  resting = rest;
}

-- later tables, and scratch as it is left
pub query_ready : {N : ℕ} {l : Limits} {a n : ℕ} {σ τ : Tables} {s s' : List ℕ} → QueryReady N l σ s → ExtTables σ τ → WfTables N (limits_of l) τ → Leaves N a n τ s s' → length s' ≡ length s → QueryReady N l τ s'
query_ready R w o p len = query_with R o (λ x i l m. w.others x i l m ∙ R.resting x i l m) len (sound_leaves w p R.sound)

pub query_laws : (N : ℕ) (l : Limits) → Laws (query_layer N l)
query_laws N l = record {
  ext_refl = λ σ. later_refl σ;
  ext_trans = λ σ τ υ p q. later_trans p q;
  frame_refl = λ a n σ s. record { below = λ i x. refl; above = λ i x y. refl; notes = notes_refl };
  frame_trans = λ a n σ τ s s' s'' e p q. record {
    below = λ i x. q.below i x ∙ p.below i x;
    above = λ i x y. q.above i x y ∙ p.above i x y;
    notes = notes_trans (notes_map (notable_ext N σ τ e.sets e.grown.nodes) p.notes) q.notes;
  };
  frame_wide = λ a n b m σ s s' x y p. record { below = λ i k. p.below i (omega arith); above = λ i k h. p.above i (omega arith) h; notes = p.notes };
  frame_kept = λ a n σ s s' x len k. record {
    below = k.below;
    above = λ i y z. k.above i y;
    notes = subst (λ (m : List ℕ). WritesValid (Notable N σ) (cached s) m) (sym (cached_kept k len x)) notes_refl;
  };
  ready_kept = λ a n σ s s' len p r. query_ready r (later_refl σ) r.ordered p len;
}

-- A step whose law is known: from its equation, what it left of scratch, and the law, the whole of `Post`.
module _ {N : ℕ} {l : Limits} {lent : ℕ} {A : Type 0} {P : Tables → A → Type 0} {σ τ : Tables} {s s' : List ℕ} {o : Outcome Tables A} (R : QueryReady N l σ s) (E : Ends N (limits_of l) lent (Steps N (limits_of l) P σ) σ o)
    (len : length s' ≡ length s) where
  pub by_ends : {V : Type 0} {see : V → A} {a n : ℕ} (r : Result V Refusal) → o ≡ outcome see r τ → Unless r (Leaves N a n τ s s') → Post (query_layer N l) a n P see o σ r τ s s'
  by_ends {V} {see} {a} {n} (Ok v) e p = go (subst (Ends N (limits_of l) lent (Steps N (limits_of l) P σ) σ) e E)
    where
      go : Ends N (limits_of l) lent (Steps N (limits_of l) P σ) σ (outcome see (Ok v) τ) → Post (query_layer N l) a n P see o σ (Ok v) τ s s'
      go (comes g) = record {
        is = e;
        then = record { ext = gone_later g.gone; frame = p; ready = query_ready R (gone_later g.gone) g.ordered p len; holds = g.holds };
      }
  by_ends (Err q) e p = record { is = e; then = tt }

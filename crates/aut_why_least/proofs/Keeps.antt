-- What a caller needs of the cache: a query's steps keep the least packets, the search for least packets keeps what a query reads, and a zeroed cache is right for both.
use mathlib.Core.Path.{◌≡◌, ◌∙◌}
use mathlib.Core.Logic.{inl, inr, ⊎_elim}
use mathlib.Core.List.{List}
use Prim.Native.Nat.{ℕ, ◌+◌, ◌≤◌, ◌<◌}
use native.Mathlib.Omega.{arith}
use lib.ListN.{length, get_or}
use lib.Seq.{get_or-drop}
use Rattle.cache.specs.Cache.{Sound}
use Rattle.cache.proofs.Cache.{sound_map, sound_notes, sound_own, sound_zero, notes_map}
use Rattle.sp_steps.proofs.Reuse.{valid_not, code_range}
use Rattle.spp_steps.specs.ImageModel.{Stores}
use Rattle.spp_least.specs.Clauses.{LEAST, LeastRead, LeastNoted}
use Rattle.spp_least.proofs.Reuse.{kept_ext}
use Rattle.aut_relations.specs.Behind.{LISTS, cached}
use Rattle.aut_sets.specs.Clauses.{NotesBehind}
use Rattle.aut_query_steps.specs.Tables.{Tables, diagrams, ExtTables}
use Rattle.aut_query_stage.specs.Layer.{Readable, QueryReady}
use Rattle.aut_query_stage.specs.Lent.{Notable, Leaves}
use Rattle.aut_query_stage.proofs.Lent.{query_with}
use Rattle.aut_states.specs.declared.Limits.{Limits}
use Rattle.aut_why_least.specs.Clauses.{Forgotten}

-- ---- a query's steps

-- a query's codes are low
notable_low : {N : ℕ} (σ : Tables) {op x y r : ℕ} → Notable N σ op x y r → op < LEAST
notable_low σ (inl v) = omega (arith, v.to)
notable_low σ (inr (inl (inl v))) = ⊎_elim (λ e. omega arith) (λ e. omega arith) (code_range v.own)
notable_low σ (inr (inl (inr v))) = omega (arith, v.to)
notable_low σ (inr (inr v)) = omega (arith, v.to)

pub least_kept : {N a n : ℕ} {σ τ : Tables} {s s' : List ℕ} → ExtTables σ τ → Leaves N a n τ s s' → Sound (LeastRead (diagrams σ)) (cached s) → Sound (LeastRead (diagrams τ)) (cached s')
least_kept {τ = τ} w p r =
    sound_notes
    (sound_map (λ op x y z v l h. kept_ext (record { sp_ext = w.sets; spp_ext = w.grown.nodes }) (v l h)) r)
    (notes_map (λ op x y z v l h. absurd (omega (arith, notable_low τ v))) p.notes)

-- ---- the search for least packets

pub least_own : {ρ : Stores} {s s' : List ℕ} → NotesBehind (LeastNoted ρ) s s' → Sound (LeastRead ρ) (cached s) → Sound (LeastRead ρ) (cached s')
least_own p r = sound_own (λ op x y z v. v) r p.notes

-- what a query reads says nothing of a code that is none of its codes
other_code : {N : ℕ} {σ : Tables} {op x y r : ℕ} → (1 ≤ op → op ≤ 17 → ⊥) → Readable N σ op x y r
other_code f = record {
  relations = λ l h. absurd (f (omega arith) (omega arith));
  images = record {
    sets = valid_not (λ k. ⊎_elim (λ e. f e.0 (omega arith)) (λ e. f (omega arith) (omega arith)) (code_range k));
    images = λ l h. absurd (f (omega arith) (omega arith));
  };
  numbers = λ l h. absurd (f (omega arith) h);
}

pub readable_kept : {N : ℕ} {σ : Tables} {ρ : Stores} {s s' : List ℕ} → NotesBehind (LeastNoted ρ) s s' → Sound (Readable N σ) (cached s) → Sound (Readable N σ) (cached s')
readable_kept p r = sound_notes r (notes_map (λ op x y z v. other_code (λ l h. omega (arith, v.from))) p.notes)

-- ---- a zeroed cache

module _ {s s' : List ℕ} (f : Forgotten s s') where
  zero_at_lem : (i : ℕ) → i < length (cached s') → get_or (cached s') i 0 ≡ 0
  zero_at_lem i l = get_or-drop LISTS s' i 0 ∙ f.zeroed (LISTS + i) (omega arith)

  pub least_zeroed : {ρ : Stores} → Sound (LeastRead ρ) (cached s')
  least_zeroed = sound_zero (λ l h. absurd (omega arith)) zero_at_lem

  pub readable_zeroed : {N : ℕ} {σ : Tables} → Sound (Readable N σ) (cached s')
  readable_zeroed = sound_zero (other_code (λ l h. omega arith)) zero_at_lem

-- ---- scratch in order for a query

pub query_kept : {N : ℕ} {l : Limits} {σ : Tables} {ρ : Stores} {s s' : List ℕ} → QueryReady N l σ s → NotesBehind (LeastNoted ρ) s s' → length s' ≡ length s → QueryReady N l σ s'
query_kept R p len = query_with R R.ordered R.resting len (readable_kept p R.sound)

pub query_forgotten : {N : ℕ} {l : Limits} {σ : Tables} {s s' : List ℕ} → QueryReady N l σ s → Forgotten s s' → length s' ≡ length s → QueryReady N l σ s'
query_forgotten R f len = query_with R R.ordered R.resting len (readable_zeroed f)

-- Scratch when the cache that was lent is back, and what a call promised of the nodes that it was lent to read.
use mathlib.Core.Path.{◌≡◌, refl, sym, ◌∙◌, ap, subst}
use mathlib.Core.Bool.{Bool}
use mathlib.Core.List.{List, ◌++◌, append-nil}
use Prim.Native.Nat.{ℕ, ◌-◌, ◌≤◌}
use native.Mathlib.Omega.{arith}
use lib.ListN.{length, take, drop, length-drop, drop_of_length-le, get_or-append}
use lib.Seq.{get_or-take, drop_at, length-take-le}
use Rattle.std.specs.Prelude.{Ok}
use Rattle.common.specs.Outcome.{Step}
use Rattle.common.specs.Runs.{Table, table}
use Rattle.cache.specs.Cache.{Valid, OnCodes, OnlyCodes, Sound, WritesValid}
use Rattle.cache.proofs.Cache.{sound_map}
use Rattle.sp_steps.specs.Reuse.{SpNoted}
use Rattle.sp_steps.proofs.Laws.{wf_down}
use Rattle.sp.specs.Clauses as Sets
use Rattle.sp.specs.declared.SP.{SP}
use Rattle.sp.specs.declared.SPview.{SPview}
use Rattle.spp.specs.Clauses as Relations
use Rattle.spp.specs.declared.SPP.{SPP}
use Rattle.spp.specs.declared.SPPview.{SPPview}
use Rattle.spp_steps.specs.ImageModel.{Stores, stores}
use Rattle.spp_image.specs.Reuse.{Held, Written, Kept}
use Rattle.spp_image.specs.Clauses as Img
use Rattle.spp_query.specs.Clauses as Lifts
use Rattle.aut_relations.specs.Behind.{LISTS, cached}
use Rattle.aut_relations.proofs.Behind.{lent, back, lent_is}
use Rattle.aut_sets.specs.Clauses.{NotesBehind, Gives, PreSet, PreSets, PostSize, PostHas, PostCount}

pub notes_back : {P : Valid} (s m : List ℕ) → LISTS ≤ length s → WritesValid P (lent s) m → NotesBehind P s (back s m)
notes_back {P} s m l n = record {
  below = λ i k. get_or-append (take LISTS s) (m ++ drop (length s - LISTS) (drop LISTS s)) 0 i (omega (arith, length-take-le LISTS s l)) ∙ get_or-take LISTS s i 0 k;
  notes = subst (WritesValid P (cached s)) (sym cache_is) (subst (λ (c : List ℕ). WritesValid P c m) (lent_is s) n);
}
  where
    cache_is : cached (back s m) ≡ m
    cache_is =
        drop_at (take LISTS s) (m ++ drop (length s - LISTS) (drop LISTS s)) LISTS (length-take-le LISTS s l)
        ∙ ap (λ (z : List ℕ). m ++ z) (drop_of_length-le (drop LISTS s) {i = length s - LISTS} (omega (arith, length-drop LISTS s))) ∙ append-nil m

-- what is lent is sound
pub lent_sound : {P : Valid} (s : List ℕ) → Sound P (cached s) → Sound P (lent s)
lent_sound {P} s v = subst (Sound P) (sym (lent_is s)) v

-- .. for what reads no packet sets' slots
pub lent_images : {N : ℕ} {σ : Stores} (s : List ℕ) → Sound (Held N σ) (cached s) → Sound (OnCodes 10 15 (Kept N σ)) (lent s)
lent_images s v = sound_map (λ op x y r h. h.images) (lent_sound s v)

-- what `union` and `difference` ask, and their answer
pub sets_asked : {N a b : ℕ} {t : Table} {s : List ℕ} → PreSets N t s a b → Sets.Asked t (lent s) N a b
sets_asked {s = s} R = record { ready = record { deep = R.first.few; wf = wf_down R.first.wf (omega arith); at_a = R.first.at_a; at_b = R.at_b }; sound = lent_sound s R.first.sound }

pub sets_back : {c : Step Table ℕ} {σ τ : Table} {s m : List ℕ} {h : SP} → LISTS ≤ length s → Sets.Answer c σ (lent s) (Ok h) τ m → Gives SpNoted (λ (h : SP). h.0) c σ (Ok h) τ s (back s m)
sets_back {s = s} {m = m} l A = record { is = A.gives; left = notes_back s m l A.notes }

-- packet nodes that were lent to be read
module _ (v : SPview) {t : List ℕ} {n : ℕ} (e : (v.nodes.now ≡ t) × (v.count ≡ n)) where
  same_sets : Sets.view_of v ≡ table t n
  same_sets = rw e.0 (rw e.1 refl)

  -- what `size` asks, and its answer
  pub size_asked : {N a : ℕ} {s : List ℕ} → PreSet N (table t n) s a → Sets.SizeAsked (Sets.view_of v) (lent s) N a
  size_asked {N} {a} {s} R = subst (λ (τ : Table). Sets.SizeAsked τ (lent s) N a) (sym same_sets) (record { deep = R.few; wf = wf_down R.wf (omega arith); at_a = R.at_a; sound = lent_sound s R.sound })

  pub size_back : {N a r : ℕ} {s m : List ℕ} → LISTS ≤ length s → Sets.SizeAnswer (Sets.view_of v) (lent s) N a r m → PostSize N (table t n) a r s (back s m)
  size_back {N} {a} {r} {s} {m} l A = subst (λ (τ : Table). PostSize N τ a r s (back s m)) same_sets (record { is = A.is; left = notes_back s m l A.notes })

  -- M, the fields of the store, are the N of the book
  pub lift_back : {M N : ℕ} → M ≡ N → {c : Step Stores ℕ} {ρ υ : Table} {s m : List ℕ} {h : SPP} → LISTS ≤ length s → Lifts.LiftAnswer M c (stores (Sets.view_of v) ρ) (lent s) (Ok h) υ m
      → Gives (λ σ. OnlyCodes 10 15 (Kept N σ)) (λ (h : SPP). h.0) c (stores (table t n) ρ) (Ok h) (stores (table t n) υ) s (back s m)
  lift_back {M} q {c} {ρ} {υ} {s} {m} {h} l A =
      subst (λ (K : ℕ). Gives (λ σ. OnlyCodes 10 15 (Kept K σ)) (λ (h : SPP). h.0) c (stores (table t n) ρ) (Ok h) (stores (table t n) υ) s (back s m)) q
      (subst (λ (τ : Table). Gives (λ σ. OnlyCodes 10 15 (Kept M σ)) (λ (h : SPP). h.0) c (stores τ ρ) (Ok h) (stores τ υ) s (back s m)) same_sets (record { is = A.gives; left = notes_back s m l A.notes }))

-- relation nodes that were lent to be read, for N fields
module _ (v : SPPview) {t : List ℕ} {n N : ℕ} (e : (v.nodes.now ≡ t) × (v.count ≡ n) × (v.fields ≡ N)) where
  same_nodes : Relations.view_of v ≡ table t n
  same_nodes = rw e.0 (rw e.1 refl)

  module _ {s m : List ℕ} (l : LISTS ≤ length s) where
    pub image_back : (c : ℕ → Step Stores ℕ) {σ τ : Table} {h : SP} → Img.Answer v.fields (c v.fields) (stores σ (Relations.view_of v)) (lent s) (Ok h) τ m
        → Gives (Written N) (λ (h : SP). h.0) (c N) (stores σ (table t n)) (Ok h) (stores τ (table t n)) s (back s m)
    image_back c {σ} {τ} {h} A =
        subst (λ (K : ℕ). Gives (Written K) (λ (h : SP). h.0) (c K) (stores σ (table t n)) (Ok h) (stores τ (table t n)) s (back s m)) e.2
        (subst (λ (ρ : Table). Gives (Written v.fields) (λ (h : SP). h.0) (c v.fields) (stores σ ρ) (Ok h) (stores τ ρ) s (back s m)) same_nodes (record { is = A.gives; left = notes_back s m l A.notes }))

    pub has_back : (w : SPview) {u : List ℕ} {k : ℕ} → (w.nodes.now ≡ u) × (w.count ≡ k) → {a r : ℕ} {b : Bool} → Lifts.HasAnswer v.fields N (stores (Sets.view_of w) (Relations.view_of v)) (lent s) a r b m
        → PostHas N (stores (table u k) (table t n)) a r b s (back s m)
    has_back w {u} {k} d {a} {r} {b} A =
        subst (λ (τ : Table). PostHas N (stores τ (table t n)) a r b s (back s m)) (same_sets w d)
        (subst (λ (ρ : Table). PostHas N (stores (Sets.view_of w) ρ) a r b s (back s m)) same_nodes
        (subst (λ (K : ℕ). Lifts.HasAnswer K N (stores (Sets.view_of w) (Relations.view_of v)) (lent s) a r b m → PostHas N (stores (Sets.view_of w) (Relations.view_of v)) a r b s (back s m)) (sym e.2)
        (λ A. record { is = A.is; left = notes_back s m l A.notes }) A))

    pub count_back : {r k : ℕ} → Lifts.SizeAnswer N (Relations.view_of v) (lent s) r k m → PostCount N (table t n) r k s (back s m)
    count_back {r} {k} A = subst (λ (ρ : Table). PostCount N ρ r k s (back s m)) same_nodes (record { is = A.is; left = notes_back s m l A.notes })

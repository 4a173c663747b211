-- What holds of the definitions of specs/Behind.
use mathlib.Core.Path.{◌≡◌, refl, sym, ◌∙◌, ap, subst}
use mathlib.Core.List.{List, ◌++◌, append-nil}
use Prim.Native.Nat.{ℕ, ◌+◌, ◌-◌, ◌≤◌}
use native.Mathlib.Omega.{arith}
use lib.ListN.{length, take, drop, length-drop, drop_of_length-le, get_or-append}
use lib.Seq.{ext_get_or, get_or-drop, get_or-take, take_all, drop_at, length-take-le}
use Rattle.common.specs.Runs.{Table}
use Rattle.cache.specs.Cache.{WritesValid}
use Rattle.cache.proofs.Cache.{sound_map, sound_notes, notes_map, notes_refl, notes_trans}
use Rattle.spp_steps.specs.Wf.{Wf, Ext}
use Rattle.spp.proofs.Reuse.{spp_memo}
use Rattle.aut_steps.specs.Tables.{words}
use Rattle.aut_steps.proofs.Facts.{words_same}
use Rattle.aut_steps.specs.Scratch.{Kept}
use Rattle.aut_relations.specs.Behind.{LISTS, cached, Notable, Modifies, CacheReady}

-- a write among the lists leaves the cache
pub cached_kept : {a n : ℕ} {s s' : List ℕ} → Kept a n s s' → length s' ≡ length s → a + n ≤ LISTS → cached s' ≡ cached s
cached_kept {s = s} {s' = s'} k e l = ext_get_or 0 (cached s') (cached s)
    (length-drop LISTS s' ∙ ap (λ (z : ℕ). z - LISTS) e ∙ sym (length-drop LISTS s))
    (λ i h. get_or-drop LISTS s' i 0 ∙ k.above (LISTS + i) (omega arith) ∙ sym (get_or-drop LISTS s i 0))

module _ {N : ℕ} where
  pub left_refl : (a n : ℕ) (t : Table) (s : List ℕ) → Modifies N a n t s s
  left_refl a n t s = record { below = λ i l. refl; above = λ i l m. refl; notes = notes_refl }

  pub left_trans : {a n : ℕ} {t t' : Table} {s s' s'' : List ℕ} → Ext t t' → Modifies N a n t s s' → Modifies N a n t' s' s'' → Modifies N a n t' s s''
  left_trans {t = t} {t' = t'} e p q = record {
    below = λ i l. q.below i l ∙ p.below i l;
    above = λ i l m. q.above i l m ∙ p.above i l m;
    notes = notes_trans (notes_map ((spp_memo N).note_ext t t' e) p.notes) q.notes;
  }

  pub left_wide : {a n b m : ℕ} {t : Table} {s s' : List ℕ} → Modifies N b m t s s' → a ≤ b → b + m ≤ a + n → Modifies N a n t s s'
  left_wide p l r = record { below = λ i k. p.below i (omega arith); above = λ i k h. p.above i (omega arith) h; notes = p.notes }

  -- no list was touched
  pub left_any : {t : Table} {s s' : List ℕ} (a n : ℕ) → Modifies N 0 0 t s s' → a ≤ LISTS → Modifies N a n t s s'
  left_any a n p l = record { below = λ i k. p.above i (omega arith) (omega arith); above = λ i k h. p.above i (omega arith) h; notes = p.notes }

  -- a write among the lists
  pub left_kept : {a n : ℕ} {t : Table} {s s' : List ℕ} → Kept a n s s' → length s' ≡ length s → a + n ≤ LISTS → Modifies N a n t s s'
  left_kept {a} {n} {t} {s} {s'} k e l = record {
    below = k.below;
    above = λ i m h. k.above i m;
    notes = subst (WritesValid (Notable N t) (cached s)) (sym (cached_kept k e l)) notes_refl;
  }

  -- a write among the lists, and then a step
  pub kept_left : {a n b m : ℕ} {t : Table} {s s' s'' : List ℕ} → Kept b m s s' → length s' ≡ length s → a ≤ b → b + m ≤ a + n → a + n ≤ LISTS → Modifies N a n t s' s'' → Modifies N a n t s s''
  kept_left {a} {n} {t = t} {s = s} {s' = s'} {s'' = s''} k e x y l p = record {
    below = λ i h. p.below i h ∙ k.below i (omega arith);
    above = λ i h j. p.above i h j ∙ k.above i (omega arith);
    notes = subst (λ (z : List ℕ). WritesValid (Notable N t) z (cached s'')) (cached_kept k e (omega arith)) p.notes;
  }

  -- a list elsewhere is as it was
  pub words_before : {a n : ℕ} {t : Table} {s s' : List ℕ} (b k : ℕ) → Modifies N a n t s s' → b + k ≤ a → words s' b k ≡ words s b k
  words_before {s = s} {s' = s'} b k p l = words_same s s' b k (λ i x y. p.below i (omega arith))

  pub words_behind : {a n : ℕ} {t : Table} {s s' : List ℕ} (b k : ℕ) → Modifies N a n t s s' → a + n ≤ b → b + k ≤ LISTS → words s' b k ≡ words s b k
  words_behind {s = s} {s' = s'} b k p l r = words_same s s' b k (λ i x y. p.above i (omega arith) (omega arith))

  -- later nodes, and scratch as it is left
  pub backed_left : {a n : ℕ} {t t' : Table} {s s' : List ℕ} → CacheReady N t s → Ext t t' → Wf N t' → Modifies N a n t' s s' → length s' ≡ length s → CacheReady N t' s'
  backed_left {t = t} {t' = t'} b e w p len = record {
    few = b.few;
    wf = w;
    room = omega (arith, b.room);
    sound = sound_notes (sound_map ((spp_memo N).read_ext t t' e) b.sound) (notes_map ((spp_memo N).note_read t') p.notes);
  }

-- ---- the cache as a part of scratch: what is lent, and scratch when it is back

abbrev pub lent : List ℕ → List ℕ
lent s = take (length s - LISTS) (drop LISTS s)

abbrev pub back : List ℕ → List ℕ → List ℕ
back s m = take LISTS s ++ (m ++ drop (length s - LISTS) (drop LISTS s))

pub lent_is : (s : List ℕ) → lent s ≡ cached s
lent_is s = take_all (length s - LISTS) (drop LISTS s) (omega (arith, length-drop LISTS s))

pub left_back : {N : ℕ} {t : Table} (s m : List ℕ) → LISTS ≤ length s → WritesValid (Notable N t) (lent s) m → Modifies N 0 0 t s (back s m)
left_back {N} {t} s m l n = record {
  below = λ i h. absurd (omega arith);
  above = λ i h k. get_or-append (take LISTS s) (m ++ drop (length s - LISTS) (drop LISTS s)) 0 i (omega (arith, length-take-le LISTS s l)) ∙ get_or-take LISTS s i 0 k;
  notes = subst (WritesValid (Notable N t) (cached s)) (sym cache_is) (subst (λ (c : List ℕ). WritesValid (Notable N t) c m) (lent_is s) n);
}
  where
    cache_is : cached (back s m) ≡ m
    cache_is =
        drop_at (take LISTS s) (m ++ drop (length s - LISTS) (drop LISTS s)) LISTS (length-take-le LISTS s l)
        ∙ ap (λ (z : List ℕ). m ++ z) (drop_of_length-le (drop LISTS s) {i = length s - LISTS} (omega (arith, length-drop LISTS s))) ∙ append-nil m

-- The lines of `pruned`, one transition at a time.
use mathlib.Core.Path.{◌≡◌, refl, sym, ◌∙◌, ap, ap₂, subst}
use mathlib.Core.List.{List, [], ◌∷◌, ◌++◌, append_assoc, append-nil}
use Prim.Native.Nat.{ℕ, suc, ◌+◌, ◌*◌, ◌-◌, ◌≤◌, ◌<◌}
use native.Mathlib.Omega.{arith}
use lib.ListN.{length, get_or, length-append}
use Rattle.common.specs.Runs.{Table, table}
use Rattle.cache.specs.Cache.{Valid, OnlyCodes}
use Rattle.cache.proofs.Cache.{notes_refl, notes_trans, sound_own}
use Rattle.netkat_steps.specs.ListSteps.{Edge}
use Rattle.spp_steps.specs.Model as Spp
use Rattle.spp_steps.specs.Wf.{ValidAt}
use Rattle.spp_image.specs.Reuse.{Counted}
use Rattle.aut_st_steps.specs.Edges.{edges}
use Rattle.aut_st_steps.proofs.Places.{edges_on, edges_done, edges_same, edges_length}
use Rattle.aut_st_insert.specs.Clauses.{RESULT}
use Rattle.book_steps.specs.Answers.{pair_lines, pruned_answer}
use Rattle.aut_sets.specs.Clauses.{NotesBehind}
use Rattle.refusal.specs.declared.Refusal.{Refusal}
use Rattle.refusal.specs.declared.Refusal.TheVariants.{Output as OutputFull}
use Rattle.aut_relations.specs.declared.Aut.{Aut as Lent}
use Rattle.aut_relations.specs.Lent.{nodes_in}
use Rattle.aut_sets.specs.Lent.{OnlyScratch}
use Rattle.spp.specs.declared.SPPstore.{SPPstore}
use Rattle.book_writer.specs.declared.output.Output.{Output}
use Rattle.book_writer.specs.Clauses.{Room, PutAt, Put, pair_line, pruned_head}
use Rattle.book_writer.proofs.Contracts.{put_append, pairs_are}
use Rattle.std.specs.Prelude.{Result, Ok, Err}
use Rattle.book_pruned.specs.Clauses.{told, PrePairs, PostPair, PostLength, PrePut, PostPairs, PostPruned}

pub notes_none : {P : Valid} {s : List ℕ} → NotesBehind P s s
notes_none = record { below = λ i l. refl; notes = notes_refl }

pub notes_on : {P : Valid} {s s' s'' : List ℕ} → NotesBehind P s s' → NotesBehind P s' s'' → NotesBehind P s s''
notes_on p q = record { below = λ i l. q.below i l ∙ p.below i l; notes = notes_trans p.notes q.notes }

module _ (N : ℕ) (t : Table) (m : ℕ) where
  abbrev noted : List ℕ → List ℕ → Type 0
  noted s s' = NotesBehind (OnlyCodes 17 17 (Counted t)) s s'

  pub pairs_later : {s s' : List ℕ} → PrePairs N t s m → noted s s' → length s' ≡ length s → PrePairs N t s' m
  pairs_later {s} {s'} p n len = record {
    few = p.few;
    wf = p.wf;
    room = omega (arith, p.room);
    sound = sound_own (λ o x y z v. v) p.sound n.notes;
    most = p.most;
    labels = λ i l. subst (ValidAt t N) (sym (n.below (2 * (RESULT + i) + 1) (omega (arith, p.most)))) (p.labels i l);
  }

  pub edges_noted : {s s' : List ℕ} → m ≤ 64 → noted s s' → edges s' RESULT m ≡ edges s RESULT m
  edges_noted {s} {s'} l n = edges_same s s' RESULT m (λ i a b. n.below i (omega arith))

  -- the lines of the transitions from i on
  abbrev from : List ℕ → ℕ → List ℕ
  from s i = pair_lines (told N t (edges s (RESULT + i) (m - i)))

  abbrev all : List ℕ → List ℕ
  all s = pair_lines (told N t (edges s RESULT m))

  from_all : (s : List ℕ) → from s 0 ≡ all s
  from_all s = ap (λ (k : ℕ). pair_lines (told N t (edges s RESULT k))) {x = m - 0} {y = m} (omega arith)

  pub from_next : (s : List ℕ) (i : ℕ) → i < m
      → from s i ≡ pair_line (get_or s (2 * (RESULT + i)) 0) (Spp.size t.words N (get_or s (2 * (RESULT + i) + 1) 0)) ++ from s (i + 1)
  from_next s i l = ap (λ (es : List Edge). pair_lines (told N t es)) (edges_on s RESULT m i l) ∙ pairs_are _ _

  pub from_none : (s : List ℕ) (i : ℕ) → m ≤ i → from s i ≡ []
  unfolding pair_lines
  from_none s i l = ap (λ (es : List Edge). pair_lines (told N t es)) (edges_done s (RESULT + i) m i l)

  from_noted : {s s' : List ℕ} (i : ℕ) → m ≤ 64 → i ≤ m → noted s s' → from s' i ≡ from s i
  from_noted {s} {s'} i l k n = ap (λ (es : List Edge). pair_lines (told N t es)) (edges_same s s' (RESULT + i) (m - i) (λ j a b. n.below j (omega arith)))

  -- ---- their length

  -- the lines of i transitions are `total` long
  pub record Summed (s₀ s : List ℕ) (total i : ℕ) : Type 0 where
    pub pairs : PrePairs N t s m
    pub left : noted s₀ s
    pub is : length (all s₀) ≡ total + length (from s₀ i)
    pub most : total ≤ 47 * i

  pub summed_begin : {s : List ℕ} → PrePairs N t s m → Summed s s 0 0
  summed_begin {s} p = record { pairs = p; left = notes_none; is = omega (arith, ap length (from_all s)); most = omega arith }

  -- with the transition that comes next
  next_is : {s₀ s s' : List ℕ} {i u n : ℕ} → PrePairs N t s m → noted s₀ s → i < m → PostPair N t i u n s s' → from s₀ i ≡ pair_line u n ++ from s₀ (i + 1)
  next_is {s₀} {s} {s'} {i} {u} {n} p w l P =
      sym (from_noted i p.most (omega arith) w) ∙ from_next s i l ∙ ap₂ (λ (a b : ℕ). pair_line a b ++ from s (i + 1)) (sym P.target) (sym P.is)
      ∙ ap (λ (bs : List ℕ). pair_line u n ++ bs) (from_noted (i + 1) p.most (omega arith) w)

  pub summed_again : {s₀ s s' : List ℕ} {total i u n r : ℕ} → Summed s₀ s total i → i < m → length s' ≡ length s → PostPair N t i u n s s' → (r ≡ length (pair_line u n)) × (r ≤ 47) → Summed s₀ s' (total + r) (i + 1)
  summed_again {s₀} {s} {s'} {total} {i} {u} {n} {r} v l len P (a, b) = record {
    pairs = pairs_later v.pairs P.left len;
    left = notes_on v.left P.left;
    is = v.is ∙ omega (arith, ap length (next_is v.pairs v.left l P), length-append (pair_line u n) (from s₀ (i + 1)), a);
    most = omega (arith, v.most, b);
  }

  pub summed_end : {s₀ s : List ℕ} {total i : ℕ} → Summed s₀ s total i → i ≤ m → m ≤ i → PostLength N t m total s₀ s
  summed_end {s₀} {s} {total} {i} v d l = record {
    is = omega (arith, v.is, ap length (from_none s₀ i l));
    most = omega (arith, v.most);
    left = v.left;
  }

  -- ---- in the output

  -- the lines of i transitions stand in the output
  pub record Placed (s₀ : List ℕ) (o₀ : Output) (s : List ℕ) (o : Output) (i : ℕ) : Type 0 where
    pub pairs : PrePairs N t s m
    pub left : noted s₀ s
    pub bytes : List ℕ
    pub put : Put bytes o₀ o
    pub is : all s₀ ≡ bytes ++ from s₀ i

  put_none : (at : ℕ) (out : List ℕ) → at ≤ length out → PutAt at [] at out out
  put_none at out l = record { behind = omega arith; room = l; wrote = record { len = refl; is = λ i k. absurd (omega arith); below = λ i k. refl; above = λ i k. refl } }

  pub placed_begin : {s : List ℕ} {o : Output} → PrePut N t s o m → Placed s o s o 0
  placed_begin {s} {o} p = record { pairs = p.pairs; left = notes_none; bytes = []; put = put_none o.at o.bytes.now o.fits; is = sym (from_all s) }

  module _ {s₀ : List ℕ} {o₀ : Output} {s : List ℕ} {o : Output} {i : ℕ} (p : PrePut N t s₀ o₀ m) (v : Placed s₀ o₀ s o i) where
    module _ (l : i < m) {u n : ℕ} {s' : List ℕ} (P : PostPair N t i u n s s') where
      abbrev row : List ℕ
      row = pair_line u n

      whole : all s₀ ≡ (v.bytes ++ row) ++ from s₀ (i + 1)
      whole = v.is ∙ ap (λ (bs : List ℕ). v.bytes ++ bs) (next_is v.pairs v.left l P) ∙ sym (append_assoc v.bytes row (from s₀ (i + 1)))

      pub row_fits : o.at + length row ≤ length o.bytes.now
      row_fits = omega (arith, p.fits, ap length whole, length-append (v.bytes ++ row) (from s₀ (i + 1)), length-append v.bytes row, v.put.behind, v.put.wrote.len)

      pub placed_again : {o' : Output} → Put row o o' → length s' ≡ length s → Placed s₀ o₀ s' o' (i + 1)
      placed_again w len = record {
        pairs = pairs_later v.pairs P.left len;
        left = notes_on v.left P.left;
        bytes = v.bytes ++ row;
        put = put_append v.put w;
        is = whole;
      }

    pub placed_end : m ≤ i → PostPairs N t m (Ok _) s₀ s o₀ o
    placed_end l = record {
      answers = subst (λ (bs : List ℕ). Put bs o₀ o) (sym (v.is ∙ ap (λ (bs : List ℕ). v.bytes ++ bs) (from_none s₀ i l) ∙ append-nil v.bytes)) v.put;
      left = v.left;
    }

-- ---- the whole answer

module _ (N : ℕ) (t : Table) (name : List ℕ) (m : ℕ) (s : List ℕ) (o : Output) (p : PrePairs N t s m) where
  told_length : length (told N t (edges s RESULT m)) ≡ m
  told_length = sized (edges s RESULT m) ∙ edges_length s RESULT m
    where
      sized : (es : List Edge) → length (told N t es) ≡ length es
      sized [] = refl
      sized (e ∷ es) = ap suc (sized es)

  head_is : pruned_answer name (told N t (edges s RESULT m)) ≡ pruned_head name m ++ pair_lines (told N t (edges s RESULT m))
  head_is = ap (λ (k : ℕ). pruned_head name k ++ pair_lines (told N t (edges s RESULT m))) told_length

  module _ {h n : ℕ} {s' : List ℕ} (H : (h ≡ length (pruned_head name m)) × (h ≤ length name + 29)) (L : PostLength N t m n s s') where
    whole_size : length (pruned_answer name (told N t (edges s RESULT m))) ≡ h + n
    whole_size = ap length head_is ∙ omega (arith, length-append (pruned_head name m) (pair_lines (told N t (edges s RESULT m))), H.0, L.is)

    pub pruned_short : {e : Refusal} → (e ≡ OutputFull) × (length o.bytes.now < o.at + (h + n)) → PostPruned N t name m (Err e) s s' o o
    pruned_short f = record { answers = (f.0, omega (arith, f.1, whole_size), refl); left = L.left }

    module _ (room : Room (h + n) o) where
      pub head_fits : length o.bytes.now < o.at + length (pruned_head name m) → ⊥
      head_fits l = omega (arith, H.0)

      same : edges s' RESULT m ≡ edges s RESULT m
      same = edges_noted N t m p.most L.left

      module _ {o' : Output} (head_put : Put (pruned_head name m) o o') (len : length s' ≡ length s) where
        pub pairs_fit : PrePut N t s' o' m
        pairs_fit = record {
          pairs = pairs_later N t m p L.left len;
          fits = omega (arith, ap (λ (es : List Edge). length (pair_lines (told N t es))) same, L.is, H.0, head_put.behind, head_put.wrote.len);
        }

        pub pruned_whole : (r : Result Unit Refusal) {s'' : List ℕ} {o'' : Output} → PostPairs N t m r s' s'' o' o'' → PostPruned N t name m r s s'' o o''
        pruned_whole (Ok u) {s''} {o''} Q = record {
          answers = subst (λ (bs : List ℕ). Put bs o o'') (sym head_is)
              (put_append head_put (subst (λ (es : List Edge). Put (pair_lines (told N t es)) o' o'') same Q.answers));
          left = notes_on L.left Q.left;
        }
        pruned_whole (Err e) {s''} {o''} Q = absurd (omega (arith, Q.answers.1, pairs_fit.fits))

-- ---- the relation nodes are those from before

module _ {x y : Lent} (k : OnlyScratch x y) where
  pub pairs_in : {N m : ℕ} {s : List ℕ} → PrePairs N (nodes_in x) s m → PrePairs N (nodes_in y) s m
  pairs_in {N} {m} {s} p = subst (λ (t : SPPstore). PrePairs N (table t.nodes.now t.count) s m) (sym k.spp) p

  pub put_in : {N m : ℕ} {s : List ℕ} {o : Output} → PrePut N (nodes_in x) s o m → PrePut N (nodes_in y) s o m
  put_in {N} {m} {s} {o} p = subst (λ (t : SPPstore). PrePut N (table t.nodes.now t.count) s o m) (sym k.spp) p

  pub pair_in : {N i u r : ℕ} {s s' : List ℕ} → PostPair N (nodes_in y) i u r s s' → PostPair N (nodes_in x) i u r s s'
  pair_in {N} {i} {u} {r} {s} {s'} p = subst (λ (t : SPPstore). PostPair N (table t.nodes.now t.count) i u r s s') k.spp p

  pub told_in : {N m : ℕ} {r : Result Unit Refusal} {s s' : List ℕ} {o o' : Output} → PostPairs N (nodes_in y) m r s s' o o' → PostPairs N (nodes_in x) m r s s' o o'
  told_in {N} {m} {r} {s} {s'} {o} {o'} p = subst (λ (t : SPPstore). PostPairs N (table t.nodes.now t.count) m r s s' o o') k.spp p

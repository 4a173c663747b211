-- 02 (ii), "block by block": a record with the block that it reaches, and one record after the other.
use Rattle.std.specs.Prelude.{Result, Ok, Err, OnOk}
use mathlib.Core.Path.{◌≡◌, refl, sym, ◌∙◌, ap, ap₂}
use mathlib.Core.List.{List}
use Prim.Native.Nat.{ℕ, zero, suc, ◌+◌, ◌*◌, ◌-◌, ◌≤◌, ◌<◌, max}
use native.Mathlib.Omega.{arith}
use Rattle.common.specs.Outcome.{Outcome, refused, given, Step, after, ◌>>=◌}
use Rattle.common.specs.Runs.{Table}
use Rattle.sp_steps.specs.Wf as SpWf
use Rattle.sp_steps.proofs.Laws as SpLaws
use Rattle.spp_steps.specs.Model as Spp
use Rattle.spp_steps.specs.Wf as SppWf
use Rattle.spp_steps.proofs.Laws as SppLaws
use Rattle.aut_steps.specs.Tables.{Limits, on_nodes}
use Rattle.aut_delta_steps.specs.Delta.{on_aut}
use Rattle.aut_query_steps.specs.Tables.{on_sets, on_base}
use Rattle.book_steps.specs.Run.{RunState}
use Rattle.image_steps.specs.Image as Image
use Rattle.image_steps.specs.Records as Records
use Rattle.image_steps.specs.Read as Read
use Rattle.image_steps.specs.Read.{records, on_tables}
use Rattle.image_steps.proofs.Nodes.{NodeMade, node_goes, RelationMade, relation_goes}
use Rattle.image_words.specs.Clauses.{word_of, Entered, entered_by}
use Rattle.refusal.specs.declared.Refusal.{Refusal}
use Rattle.refusal.specs.Numbers.{number_of, outcome}
use Rattle.image_nodes.specs.Clauses.{Kind, packets, relations, PreNode, Grown, PostNode, PostNodes}

-- ---- any records

module _ (image : List ℕ) (h : Image.Head) (L : Limits) (make : ℕ → ℕ → Step RunState ℕ) (size : ℕ) where
  -- one record with the block that it reaches
  abbrev pub turn_at : ℕ → ℕ → Step RunState ℕ
  turn_at i s = Read.enter image h L s size >>= λ _. make i s

  after_both : (o : Outcome RunState ℕ) (f g : Step RunState ℕ) → after o (λ _ p. after (f p) (λ _. g)) ≡ after (after o (λ _. f)) (λ _. g)
  after_both (refused number) f g = refl
  after_both (given p x) f g = refl

  records_one : (i s k : ℕ) (p : RunState) → i < k → records image h L make size i s (k - i) p ≡ after (turn_at i s p) (λ _. records image h L make size (i + 1) (s + size) (k - (i + 1)))
  unfolding records
  records_one i s k p l =
      ap (λ (m : ℕ). records image h L make size i s m p) {x = k - i} {y = suc (k - (i + 1))} (omega arith)
      ∙ after_both (Read.enter image h L s size p) (make i s) (records image h L make size (i + 1) (s + size) (k - (i + 1)))

  pub records_more : (i s s' k : ℕ) (p q : RunState) (x : ℕ) → i < k → s + size ≡ s' → turn_at i s p ≡ given q x
      → records image h L make size i s (k - i) p ≡ records image h L make size (i + 1) s' (k - (i + 1)) q
  records_more i s s' k p q x l y e =
      records_one i s k p l
      ∙ ap (λ (o : Outcome RunState ℕ). after o (λ _. records image h L make size (i + 1) (s + size) (k - (i + 1)))) e
      ∙ ap (λ (z : ℕ). records image h L make size (i + 1) z (k - (i + 1)) q) y

  pub records_stop : (i s k : ℕ) (p : RunState) (number : ℕ) → i < k → turn_at i s p ≡ refused number → records image h L make size i s (k - i) p ≡ refused number
  records_stop i s k p number l e =
      records_one i s k p l
      ∙ ap (λ (o : Outcome RunState ℕ). after o (λ _. records image h L make size (i + 1) (s + size) (k - (i + 1)))) e

  pub records_end : (i s k : ℕ) (p : RunState) → k ≤ i → records image h L make size i s (k - i) p ≡ given p 0
  unfolding records
  records_end i s k p l = ap (λ (m : ℕ). records image h L make size i s m p) {x = k - i} {y = zero} (omega arith)

-- ---- nodes of either kind

-- what both kinds have: a table that is put in a place stands there, and later tables are ordered
pub record Lawful (k : Kind) : Type 0 where
  pub at_put : (τ : Table) (p : RunState) → k.at (k.put τ p) ≡ τ
  pub put_put : (σ τ : Table) (p : RunState) → k.put τ (k.put σ p) ≡ k.put τ p
  pub ext_trans : {σ τ υ : Table} → k.Ext σ τ → k.Ext τ υ → k.Ext σ υ

pub packets_lawful : Lawful packets
packets_lawful = record { at_put = λ τ p. refl; put_put = λ σ τ p. refl; ext_trans = SpLaws.ext_trans }

pub relations_lawful : Lawful relations
relations_lawful = record { at_put = λ τ p. refl; put_put = λ σ τ p. refl; ext_trans = SppLaws.ext_trans }

-- the step for record i at word s comes to r and τ, on a place too
abbrev pub Makes : (k : Kind) (image : List ℕ) (N i s : ℕ) (σ : Table) (r : Result Unit Refusal) (τ : Table) → Type 0
Makes k image N i s σ r τ =
    (h : Image.Head) (L : Limits) (p : RunState) → h.fields ≡ N → k.at p ≡ σ → k.make image h L i s p ≡ outcome (λ _. k.handle i) r (k.put τ p)

-- the record with its block
pub node_read : (k : Kind) (image : List ℕ) (N i s : ℕ) (σ : Table) (r : Result Unit Refusal) (τ : Table) {l : Result Unit Refusal} → Entered image s k.size l → l ≡ Ok tt
    → Makes k image N i s σ r τ → OnOk r (Grown k N σ (max σ.count (i + 1)) τ) → PostNode k image N i s σ r τ
node_read k image N i s σ r τ e q m g = record {
  is = λ h L p f y.
      ap (λ (o : Outcome RunState ℕ). after o (λ _. k.make image h L i s)) (e h L p ∙ ap (λ (l : Result Unit Refusal). entered_by l p) q)
      ∙ m h L p f y;
  then = g;
}

-- i of n records are read, and the next is at word s
pub record NodesAt (k : Kind) (image : List ℕ) (N start n : ℕ) (σ₀ : Table) (i s : ℕ) (σ : Table) : Type 0 where
  pub is : (h : Image.Head) (L : Limits) (p : RunState) → h.fields ≡ N → k.at p ≡ σ₀
      → records image h L (k.make image h L) k.size 0 start n p ≡ records image h L (k.make image h L) k.size i s (n - i) (k.put σ p)
  pub grown : Grown k N σ₀ (max σ₀.count i) σ

module _ {k : Kind} (w : Lawful k) {image : List ℕ} {N start n : ℕ} {σ₀ : Table} where
  module _ {i s : ℕ} {σ : Table} (v : NodesAt k image N start n σ₀ i s σ) where
    module _ (l : i < n) where
      pub nodes_again : {s' : ℕ} {τ : Table} → s + k.size ≡ s' → PostNode k image N i s σ (Ok tt) τ → NodesAt k image N start n σ₀ (i + 1) s' τ
      nodes_again {s'} {τ} e post = record {
        is = λ h L p f y.
            v.is h L p f y
            ∙ records_more image h L (k.make image h L) k.size i s s' n (k.put σ p) (k.put τ p) (k.handle i) l e
            (post.is h L (k.put σ p) f (w.at_put σ p) ∙ ap (λ (q : RunState). given q (k.handle i)) (w.put_put σ τ p));
        grown = record { wf = post.then.wf; ext = w.ext_trans v.grown.ext post.then.ext; count = omega (arith, post.then.count, v.grown.count) };
      }

      pub nodes_stop : {τ : Table} {e : Refusal} → PostNode k image N i s σ (Err e) τ → PostNodes k image N start n σ₀ (Err e) τ
      nodes_stop {τ} {e} post = record {
        is = λ h L p f y.
            v.is h L p f y
            ∙ records_stop image h L (k.make image h L) k.size i s n (k.put σ p) (number_of e) l (post.is h L (k.put σ p) f (w.at_put σ p));
        then = tt;
      }

    pub nodes_end : i ≤ n → n ≤ i → PostNodes k image N start n σ₀ (Ok tt) σ
    nodes_end l m = record {
      is = λ h L p f y. v.is h L p f y ∙ records_end image h L (k.make image h L) k.size i s n (k.put σ p) m;
      then = record { wf = v.grown.wf; ext = v.grown.ext; count = v.grown.count ∙ ap (max σ₀.count) {x = i} {y = n} (omega arith) };
    }

-- ---- packet nodes

module _ (image : List ℕ) (N i s : ℕ) (σ : Table) where
  packets_at : (c : Step Table ℕ) (r : Result Unit Refusal) (τ : Table) (p : RunState) → p.tables.sets ≡ σ → c σ ≡ outcome (λ _. 2 * i + 2) r τ
      → on_tables (on_sets c) p ≡ outcome (λ _. 2 * i + 2) r (packets.put τ p)
  packets_at c (Ok u) τ p y e = ap (λ (o : Outcome Table ℕ). on_tables (on_sets (λ _. o)) p) (ap c y ∙ e)
  packets_at c (Err x) τ p y e = ap (λ (o : Outcome Table ℕ). on_tables (on_sets (λ _. o)) p) (ap c y ∙ e)

  node_grown : (x0 x1 : ℕ) (r : Result Unit Refusal) (τ : Table) → SpWf.Wf N σ → Records.node N i x0 x1 σ ≡ outcome (λ _. 2 * i + 2) r τ → OnOk r (Grown packets N σ (max σ.count (i + 1)) τ)
  node_grown x0 x1 (Ok u) τ w e = let g : NodeMade N i x0 x1 σ τ (2 * i + 2) = node_goes N i x0 x1 σ w e in record { wf = g.wf; ext = g.ext; count = g.count }
  node_grown x0 x1 (Err x) τ w e = tt

  pub packet_read : {l r : Result Unit Refusal} {τ : Table} {x0 x1 : ℕ} → PreNode packets N σ i → Entered image s 2 l → l ≡ Ok tt → x0 ≡ word_of image s → x1 ≡ word_of image (s + 1)
      → Records.node N i x0 x1 σ ≡ outcome (λ _. 2 * i + 2) r τ → PostNode packets image N i s σ r τ
  packet_read {r = r} {τ = τ} v e q a b m =
      let words : Records.node N i (word_of image s) (word_of image (s + 1)) σ ≡ outcome (λ _. 2 * i + 2) r τ = ap₂ (λ (x y : ℕ). Records.node N i x y σ) (sym a) (sym b) ∙ m in
      node_read packets image N i s σ r τ e q
      (λ h L p f y.
      ap (λ (M : ℕ). on_tables (on_sets (Records.node M i (word_of image s) (word_of image (s + 1)))) p) f
      ∙ packets_at (Records.node N i (word_of image s) (word_of image (s + 1))) r τ p y words)
      (node_grown (word_of image s) (word_of image (s + 1)) r τ v.wf words)

-- ---- relation nodes

module _ (image : List ℕ) (N i s : ℕ) (σ : Table) where
  abbrev X : Spp.Quad
  X = Spp.quad (word_of image s) (word_of image (s + 1)) (word_of image (s + 2)) (word_of image (s + 3))

  relations_at : (c : Step Table ℕ) (r : Result Unit Refusal) (τ : Table) (p : RunState) → p.tables.base.aut.nodes ≡ σ → c σ ≡ outcome (λ _. i + 2) r τ
      → on_tables (on_base (on_aut (on_nodes c))) p ≡ outcome (λ _. i + 2) r (relations.put τ p)
  relations_at c (Ok u) τ p y e = ap (λ (o : Outcome Table ℕ). on_tables (on_base (on_aut (on_nodes (λ _. o)))) p) (ap c y ∙ e)
  relations_at c (Err x) τ p y e = ap (λ (o : Outcome Table ℕ). on_tables (on_base (on_aut (on_nodes (λ _. o)))) p) (ap c y ∙ e)

  relation_grown : (Y : Spp.Quad) (r : Result Unit Refusal) (τ : Table) → SppWf.Wf N σ → Records.relation N i Y σ ≡ outcome (λ _. i + 2) r τ → OnOk r (Grown relations N σ (max σ.count (i + 1)) τ)
  relation_grown Y (Ok u) τ w e = let g : RelationMade N i Y σ τ (i + 2) = relation_goes N i Y σ w e in record { wf = g.wf; ext = g.ext; count = g.count }
  relation_grown Y (Err x) τ w e = tt

  pub relation_read : {l r : Result Unit Refusal} {τ : Table} {Y : Spp.Quad} → PreNode relations N σ i → Entered image s 4 l → l ≡ Ok tt
      → Y ≡ Spp.quad (word_of image s) (word_of image (s + 1)) (word_of image (s + 2)) (word_of image (s + 3))
      → Records.relation N i Y σ ≡ outcome (λ _. i + 2) r τ → PostNode relations image N i s σ r τ
  relation_read {r = r} {τ = τ} v e q a m =
      let words : Records.relation N i X σ ≡ outcome (λ _. i + 2) r τ = ap (λ (Z : Spp.Quad). Records.relation N i Z σ) (sym a) ∙ m in
      node_read relations image N i s σ r τ e q
      (λ h L p f y.
      ap (λ (M : ℕ). on_tables (on_base (on_aut (on_nodes (Records.relation M i X)))) p) f
      ∙ relations_at (Records.relation N i X) r τ p y words)
      (relation_grown X r τ v.wf words)

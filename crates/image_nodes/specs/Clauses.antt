-- 02 (ii), "each record again by its constructor .. and wants the same number": what reading nodes asks of the table and of the image, and what it promises: the steps of image_steps, and a table that is well formed and
-- has all that was there.
use Rattle.std.specs.Prelude.{◌≡◌, Bool, true, false, ◌&&◌, List, ℕ, Result, OnOk, ◌+◌, ◌*◌, ◌/◌, ◌%◌, ◌≤◌, ◌<◌, max, eqb, ltb, leb, length}
use Rattle.common.specs.Outcome.{Step, ◌>>=◌}
use Rattle.common.specs.Runs.{Table}
use Rattle.sp_steps.specs.Wf as SpWf
use Rattle.spp_steps.specs.Model as Spp
use Rattle.spp_steps.specs.Wf as SppWf
use Rattle.spp.specs.declared.SPPnode.{SPPnode}
use Rattle.spp.specs.Clauses.{quad_of}
use Rattle.aut_steps.specs.Tables.{Limits}
use Rattle.aut_query_steps.specs.Tables.{put_sets, put_relations}
use Rattle.book_steps.specs.Run.{RunState, place}
use Rattle.image_steps.specs.Image as Image
use Rattle.image_steps.specs.Records.{depth_of, depth_of_r, kid_fits}
use Rattle.image_steps.specs.Read as Read
use Rattle.image_words.specs.Clauses.{word_of}
use Rattle.refusal.specs.declared.Refusal.{Refusal}
use Rattle.refusal.specs.Numbers.{outcome}

-- ---- what packet nodes and relation nodes differ in

-- the words of a record; the handle of node i; where the table stands in a place; the step for record i at word s; and which tables are in order, and which later ones
pub record Kind : Type 1 where
  pub size : ℕ
  pub handle : ℕ → ℕ
  pub at : RunState → Table
  pub put : Table → RunState → RunState
  pub make : List ℕ → Image.Head → Limits → ℕ → ℕ → Step RunState ℕ
  pub Wf : ℕ → Table → Type 0
  pub Ext : Table → Table → Type 0

abbrev pub packets : Kind
packets = record {
  size = 2;
  handle = λ i. 2 * i + 2;
  at = λ p. p.tables.sets;
  put = λ τ p. place (put_sets τ p.tables) p.lines p.output;
  make = λ image h L. Read.node image h L;
  Wf = SpWf.Wf;
  Ext = SpWf.Ext;
}

abbrev pub relations : Kind
relations = record {
  size = 4;
  handle = λ i. i + 2;
  at = λ p. p.tables.base.aut.nodes;
  put = λ τ p. place (put_relations τ p.tables) p.lines p.output;
  make = λ image h L. Read.relation image h L;
  Wf = SppWf.Wf;
  Ext = SppWf.Ext;
}

-- ---- what is asked

-- h is 0 or 1, or a handle of a node
pub record Inside (t : List ℕ) (h : ℕ) : Type 0 where
  pub count : ℕ
  pub fits : 2 * count ≤ length t
  pub rising : SpWf.Rising t count
  pub within : h / 2 ≤ count

pub record InsideR (t : List ℕ) (h : ℕ) : Type 0 where
  pub count : ℕ
  pub fits : 4 * count ≤ length t
  pub rising : SppWf.Rising t count
  pub within : h < count + 2

-- the nodes before i are there
pub record PreNode (k : Kind) (N : ℕ) (σ : Table) (i : ℕ) : Type 0 where
  pub wf : k.Wf N σ
  pub near : i ≤ σ.count

-- ---- what is promised

abbrev pub children_fit : ℕ → List ℕ → ℕ → ℕ → ℕ → Bool
children_fit N t i x0 x1 =
    leb (x0 / 2) i && (leb (x1 / 2) i
    && (ltb (depth_of t N x0) N && (eqb (depth_of t N x0) (depth_of t N x1) && eqb (x0 % 2) 0)))

abbrev pub quad_fits : ℕ → List ℕ → ℕ → Spp.Quad → Bool
quad_fits N t i X =
    let d : ℕ = depth_of_r t N (X false false) in
    ltb d N && (kid_fits N t i d (X false false) && (kid_fits N t i d (X false true)
    && (kid_fits N t i d (X true false) && kid_fits N t i d (X true true))))

-- the four words from word s on
abbrev pub QuadAt : List ℕ → ℕ → SPPnode → Type 0
QuadAt image s r = quad_of r ≡ Spp.quad (word_of image s) (word_of image (s + 1)) (word_of image (s + 2)) (word_of image (s + 3))

-- τ is well formed, has all that σ has, and n nodes
pub record Grown (k : Kind) (N : ℕ) (σ : Table) (n : ℕ) (τ : Table) : Type 0 where
  pub wf : k.Wf N τ
  pub ext : k.Ext σ τ
  pub count : τ.count ≡ n

-- the record of node i, from word s on
pub record PostNode (k : Kind) (image : List ℕ) (N i s : ℕ) (σ : Table) (r : Result Unit Refusal) (τ : Table) : Type 0 where
  pub is : (h : Image.Head) (L : Limits) (p : RunState) → h.fields ≡ N → k.at p ≡ σ
      → (Read.enter image h L s k.size >>= λ _. k.make image h L i s) p ≡ outcome (λ _. k.handle i) r (k.put τ p)
  pub then : OnOk r (Grown k N σ (max σ.count (i + 1)) τ)

-- the records of n nodes, from word `start` on
pub record PostNodes (k : Kind) (image : List ℕ) (N start n : ℕ) (σ : Table) (r : Result Unit Refusal) (τ : Table) : Type 0 where
  pub is : (h : Image.Head) (L : Limits) (p : RunState) → h.fields ≡ N → k.at p ≡ σ
      → Read.records image h L (k.make image h L) k.size 0 start n p ≡ outcome (λ _. 0) r (k.put τ p)
  pub then : OnOk r (Grown k N σ (max σ.count n) τ)

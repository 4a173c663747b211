-- 01, spp.rs ("a relation on packets") on a lent table: when a store is well formed, when one is later than another, which handles have which depth and what they mean.
-- Old handles keep their meaning; equal relations of one depth have one handle; the constants are where they should be.
use Rattle.std.specs.Prelude.{◌≡◌, Bool, List, ℕ, zero, suc, ◌+◌, ◌*◌, ◌≤◌, ◌<◌, length, get_or}
use Rattle.common.specs.Packets.{Packet, Relation}
use Rattle.common.specs.Runs.{Table}
use Rattle.spp_steps.specs.Model.{quad, kid, kids, mem, cap, zero_at, one_at, top_at}

-- τ is later than σ: it has all of σ's nodes as they were, and past its own nodes the words are as they were.
pub record Ext (σ τ : Table) : Type 0 where
  pub more : σ.count ≤ τ.count
  pub len : length τ.words ≡ length σ.words
  pub keep : (k : ℕ) → k < σ.count → (i j : Bool) → kid τ.words k i j ≡ kid σ.words k i j
  pub beyond : (k : ℕ) → 4 * τ.count ≤ k → get_or τ.words k 0 ≡ get_or σ.words k 0

-- h is a handle of depth d
abbrev pub ValidAt : Table → ℕ → ℕ → Type 0
ValidAt σ zero h = h < 2
ValidAt σ (suc d) h = (2 ≤ h) × (h < σ.count + 2) × ((i j : Bool) → ValidAt σ d (kids σ.words h i j))

-- each child of a node is a handle of an earlier node, or of depth 0
abbrev pub Rising : List ℕ → ℕ → Type 0
Rising t n = (k : ℕ) → k < n → (i j : Bool) → kid t k i j < k + 2

-- The nodes fit, no two are equal, and none has itself or a later one as a child.
pub record Nodes (σ : Table) : Type 0 where
  pub fits : 4 * σ.count ≤ length σ.words
  pub small : σ.count ≤ cap
  pub once : (k l : ℕ) → k < σ.count → l < σ.count → ((i j : Bool) → kid σ.words k i j ≡ kid σ.words l i j) → k ≡ l
  pub rising : Rising σ.words σ.count

-- The zeros of depth 1 to N come first, then the identities, then the tops.
pub record Fixed (N : ℕ) (σ : Table) : Type 0 where
  pub many : 3 * N ≤ σ.count
  pub zeros : (d : ℕ) → d < N → (i j : Bool) → kid σ.words d i j ≡ zero_at N d
  pub ones : (d : ℕ) → d < N → (i j : Bool) → kid σ.words (N + d) i j ≡ quad (one_at N d) (zero_at N d) (zero_at N d) (one_at N d) i j
  pub tops : (d : ℕ) → d < N → (i j : Bool) → kid σ.words (2 * N + d) i j ≡ top_at N d

-- Node k has children that are handles of one depth below N.
pub record Level (N : ℕ) (σ : Table) (k : ℕ) : Type 0 where
  pub depth : ℕ
  pub low : depth < N
  pub children : (i j : Bool) → ValidAt σ depth (kid σ.words k i j)

-- A store for N fields: with its constants, and each node's children of one depth below N.
pub record Wf (N : ℕ) (σ : Table) : Type 0 where
  pub nodes : Nodes σ
  pub fixed : Fixed N σ
  pub level : (k : ℕ) → k < σ.count → Level N σ k

-- h is a handle of depth d and means the relation R
pub record Denotes (σ : Table) (d h : ℕ) (R : Relation d) : Type 0 where
  pub at : ValidAt σ d h
  pub means : (p q : Packet d) → mem σ.words d h p q ≡ R p q

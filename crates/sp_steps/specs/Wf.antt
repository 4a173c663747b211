-- 01, "sp.rs" and promise 2, well-formed tables. Packet sets: when a store is well formed, when one is later than another, which handles have which depth and what they mean.
-- Old handles keep their meaning; equal sets of one depth have one handle; the constants are where they should be.
use Rattle.std.specs.Prelude.{◌≡◌, Bool, false, List, ℕ, zero, suc, ◌*◌, ◌/◌, ◌%◌, ◌≤◌, ◌<◌, length, get_or}
use Rattle.common.specs.Packets.{Packet, Set}
use Rattle.common.specs.Runs.{Table}
use Rattle.sp_steps.specs.Model.{kid, child, mem, most, zero_at}

-- τ is later than σ: it has all of σ's nodes as they were, and past its own nodes the words are as they were.
pub record Ext (σ τ : Table) : Type 0 where
  pub more : σ.count ≤ τ.count
  pub len : length τ.words ≡ length σ.words
  pub keep : (b : Bool) (i : ℕ) → i < σ.count → kid τ.words b i ≡ kid σ.words b i
  pub beyond : (i : ℕ) → 2 * τ.count ≤ i → get_or τ.words i 0 ≡ get_or σ.words i 0

-- h is a handle of depth d
abbrev pub ValidAt : Table → ℕ → ℕ → Type 0
ValidAt σ zero h = h < 2
ValidAt σ (suc d) h = (2 ≤ h) × (h / 2 ≤ σ.count) × ((b : Bool) → ValidAt σ d (child σ.words b h))

-- each stored child is a handle of an earlier node, or of depth 0
abbrev pub Rising : List ℕ → ℕ → Type 0
Rising t n = (b : Bool) (i : ℕ) → i < n → kid t b i / 2 ≤ i

-- Node i has children that are handles of one depth, which is one of P.
pub record Level (P : ℕ → Type 0) (σ : Table) (i : ℕ) : Type 0 where
  pub depth : ℕ
  pub low : P depth
  pub children : (b : Bool) → ValidAt σ depth (kid σ.words b i)

-- A store with the constants of N fields: the nodes fit, each stored left child is even, no two nodes are equal, the empty sets of depth 1 to N come first,
-- each child is a handle of an earlier node or of depth 0, and the two children of a node are of one depth, one of P.
pub record WfIn (P : ℕ → Type 0) (N : ℕ) (σ : Table) : Type 0 where
  pub fits : 2 * σ.count ≤ length σ.words
  pub small : σ.count ≤ most
  pub even : (i : ℕ) → i < σ.count → kid σ.words false i % 2 ≡ 0
  pub once : (i j : ℕ) → i < σ.count → j < σ.count → ((b : Bool) → kid σ.words b i ≡ kid σ.words b j) → i ≡ j
  pub many : N ≤ σ.count
  pub const : (i : ℕ) → i < N → (b : Bool) → kid σ.words b i ≡ zero_at i
  pub rising : Rising σ.words σ.count
  pub level : (i : ℕ) → i < σ.count → Level P σ i

-- the depths below N, and every depth
abbrev pub Below : ℕ → ℕ → Type 0
Below N d = d < N

abbrev pub Any : ℕ → Type 0
Any d = Unit

-- A store for N fields: all nodes have children of a depth below N.
abbrev pub Wf : ℕ → Table → Type 0
Wf N σ = WfIn (Below N) N σ

-- A store for N fields or more.
abbrev pub WfAny : ℕ → Table → Type 0
WfAny N σ = WfIn Any N σ

-- h is a handle of depth d and means the set S
pub record Denotes (σ : Table) (d h : ℕ) (S : Set d) : Type 0 where
  pub at : ValidAt σ d h
  pub means : (p : Packet d) → mem σ.words d h p ≡ S p

-- Tables with the same records: what is read of them is the same; each is later than the other; and what may be written.
use mathlib.Core.Path.{◌≡◌, refl, sym, ◌∙◌, ap, subst}
use mathlib.Core.List.{List}
use Prim.Native.Nat.{ℕ, ◌+◌, ◌*◌, ◌≤◌, ◌<◌}
use native.Mathlib.Omega.{arith}
use lib.ListN.{get_or}
use Rattle.common.specs.Runs.{Table}
use Rattle.spp_steps.specs.Wf.{Ext}
use Rattle.spp_steps.proofs.Laws.{ext_refl}
use Rattle.aut_steps.specs.Tables.{words, Limits, Aut, put_nodes}
use Rattle.aut_steps.specs.Wf.{states, kind, first, second, nesting, members, ExtM, ExtAut, WfAut}
use Rattle.aut_steps.proofs.Wf.{extm_refl}
use Rattle.aut_delta_steps.proofs.Noted.{written, written_other, written_count, written_length}
use Rattle.aut_delta_steps.specs.EpsilonReads.{operands_with, operands_of}
use Rattle.aut_delta_steps.specs.DeltaReads.{list_operands_with}
use Rattle.aut_replay.specs.Replay.{Later}
use Rattle.aut_free.proofs.Twin.{TwinAut, twin_words}
use Rattle.aut_free.proofs.Words.{kinds, firsts, seconds, nests}
use Rattle.image_continued.specs.Records.{SameRecords}

-- ---- twins

-- with their own words 4 to 11
pub twin_of : {σ τ : Aut} → SameRecords σ τ → TwinAut σ.states.words τ.states.words σ τ
twin_of {σ} {τ} r = record { nodes = r.nodes; states = record { words = twin_words σ.states.words τ.states.words r.len r.words; count = r.count }; members = r.members }

pub of_twin : {f g : List ℕ} {σ τ : Aut} → TwinAut f g σ τ → SameRecords σ τ
of_twin r = record { nodes = r.nodes; members = r.members; count = r.states.count; len = r.states.words.len; words = r.states.words.same }

pub same_refl : (σ : Aut) → SameRecords σ σ
same_refl σ = record { nodes = refl; members = refl; count = refl; len = refl; words = λ x w l. refl }

pub same_sym : {σ τ : Aut} → SameRecords σ τ → SameRecords τ σ
same_sym r = record { nodes = sym r.nodes; members = sym r.members; count = sym r.count; len = sym r.len; words = λ x w l. sym (r.words x w l) }

-- ---- what is read

module _ {σ τ : Aut} (r : SameRecords σ τ) where
  pub kind_same : (x : ℕ) → kind σ x ≡ kind τ x
  kind_same x = λ d. kinds (twin_of r).states.words d x

  pub first_same : (x : ℕ) → first σ x ≡ first τ x
  first_same x = λ d. firsts (twin_of r).states.words d x

  pub second_same : (x : ℕ) → second σ x ≡ second τ x
  second_same x = λ d. seconds (twin_of r).states.words d x

  pub nesting_same : (x : ℕ) → nesting σ x ≡ nesting τ x
  nesting_same x = λ d. nests (twin_of r).states.words d x

  pub members_same : (x : ℕ) → members σ x ≡ members τ x
  members_same x = λ d. words (r.members d).words (first_same x d) (second_same x d)

  pub operands_same : (x : ℕ) → operands_of σ.states.words σ.members.words x ≡ operands_of τ.states.words τ.members.words x
  operands_same x = λ d. operands_with (kind_same x d) (members_same x d) (first_same x d) (second_same x d)

  pub list_operands_same : (x : ℕ) → list_operands_with (kind σ x) (members σ x) (first σ x) (second σ x) ≡ list_operands_with (kind τ x) (members τ x) (first τ x) (second τ x)
  list_operands_same x = λ d. list_operands_with (kind_same x d) (members_same x d) (first_same x d) (second_same x d)

  pub state_same : {x : ℕ} → x < states σ → x < states τ
  state_same l = omega (arith, r.count)

  -- ---- each is later than the other

  pub same_later : Later σ τ
  same_later = record {
    nodes = subst (Ext σ.nodes) r.nodes (ext_refl σ.nodes);
    more = omega (arith, r.count);
    words = λ x w l m. sym (r.words x w m);
    members = λ i l. ap (λ (m : Table). get_or m.words i 0) (sym r.members);
  }

  pub same_grown : {N : ℕ} {L : Limits} → WfAut N L σ → WfAut N L τ → ExtAut σ τ
  same_grown g h = record {
    nodes = subst (Ext σ.nodes) r.nodes (ext_refl σ.nodes);
    states = record {
      more = omega (arith, r.count);
      len = sym r.len;
      keep = λ i w l m. sym (r.words i w m);
      beyond = λ j l. h.fresh j l ∙ sym (g.fresh j (omega (arith, r.count)));
    };
    members = subst (ExtM σ.members) r.members (extm_refl σ.members);
  }

  -- ---- what is written

  pub same_nodes : (t : Table) → SameRecords (put_nodes t σ) (put_nodes t τ)
  same_nodes t = record { nodes = refl; members = r.members; count = r.count; len = r.len; words = r.words }

  pub same_written : (x w v u : ℕ) → 4 ≤ w → w < 12 → SameRecords (written σ x w v) (written τ x w u)
  same_written x w v u a b = record {
    nodes = r.nodes;
    members = r.members;
    count = written_count σ x w v ∙ r.count ∙ sym (written_count τ x w u);
    len = written_length σ x w v ∙ r.len ∙ sym (written_length τ x w u);
    words = λ y j l. written_other σ x w v (12 * y + j) (λ q. omega arith) ∙ r.words y j l ∙ sym (written_other τ x w u (12 * y + j) (λ q. omega arith));
  }

  -- .. in the second alone
  pub same_right : (x w u : ℕ) → 4 ≤ w → w < 12 → SameRecords σ (written τ x w u)
  same_right x w u a b = record {
    nodes = r.nodes;
    members = r.members;
    count = r.count ∙ sym (written_count τ x w u);
    len = r.len ∙ sym (written_length τ x w u);
    words = λ y j l. r.words y j l ∙ sym (written_other τ x w u (12 * y + j) (λ q. omega arith));
  }

pub same_trans : {σ τ υ : Aut} → SameRecords σ τ → SameRecords τ υ → SameRecords σ υ
same_trans p q = record { nodes = p.nodes ∙ q.nodes; members = p.members ∙ q.members; count = p.count ∙ q.count; len = p.len ∙ q.len; words = λ x w l. p.words x w l ∙ q.words x w l }

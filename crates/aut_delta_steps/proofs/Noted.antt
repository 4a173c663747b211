-- What holds of the definitions of specs/Noted.
use mathlib.Core.Path.{◌≡◌, refl, sym, ◌∙◌, ap, subst}
use mathlib.Core.Logic.{◌≢◌}
use Prim.Native.Nat.{ℕ, ◌+◌, ◌*◌, ◌≤◌, ◌<◌}
use native.Mathlib.Omega.{arith}
use lib.ListN.{length, get_or, length-set}
use lib.Seq.{get_or-set_same, get_or-set_other}
use Rattle.common.specs.Runs.{Table}
use Rattle.spp_steps.specs.Wf.{Wf, Ext}
use Rattle.spp_steps.proofs.Laws.{ext_refl, ext_trans}
use Rattle.aut_steps.specs.Tables.{UNION, INTERSECT, Limits, Aut, put_states, put_nodes}
use Rattle.aut_steps.specs.Kinds.{form, operands_by}
use Rattle.aut_steps.proofs.ListLaws.{all_map}
use Rattle.aut_steps.specs.Wf.{states, kind, members, ExtM, ExtAut, Ok, United, Meeting, members_before, operands, WfAut}
use Rattle.aut_steps.proofs.Wf.{extm_refl, kind_grown, second_grown, nesting_grown, members_grown, ok_as, ok_grown, operands_grown, meeting_grown}
use Rattle.aut_steps.proofs.MadeLaws.{before_grown, made_kept, packed_kept}
use Rattle.aut_delta_steps.specs.Epsilon.{epsilon_of, set_word}
use Rattle.aut_delta_steps.specs.Noted.{Noted}

-- ---- tables in order, with other words worked out

-- no state and no member is new
module _ {N : ℕ} {L : Limits} {σ τ : Aut} (g : WfAut N L σ) (w : ExtAut σ τ) (v : Wf N τ.nodes) (same : states τ ≡ states σ) (list : τ.members ≡ σ.members) where
  here : {x : ℕ} → x < states τ → x < states σ
  here l = omega (arith, same)

  operands_same : (x : ℕ) → x < states σ → operands N τ x ≡ operands N σ x
  operands_same x l =
      ap (λ (j : ℕ). operands_by (form {N = N} j) τ.states.words τ.members.words x) (kind_grown w x l) ∙ operands_grown w (form (kind σ x)) x l (g.ok x l)

  pub good_same : WfAut N L τ
  unfolding form
  good_same = record {
    nodes = v;
    fits = omega (arith, same, w.states.len, g.fits);
    small = omega (arith, same, g.small);
    fresh = λ j l. w.states.beyond j l ∙ g.fresh j (omega (arith, same));
    members_fit = subst (λ (m : Table). m.count ≤ length m.words) (sym list) g.members_fit;
    members_small = omega (arith, ap (λ (m : Table). m.count) list, g.members_small);
    ok = λ x l. subst (λ (j : ℕ). Ok (form {N = N} j) τ x) (sym (kind_grown w x (here l))) (ok_grown w (form (kind σ x)) x (here l) (g.ok x (here l)));
    shallow = λ x l. omega (arith, nesting_grown w x (here l), g.shallow x (here l));
    short = λ x l p q.
        omega (arith, second_grown w x (here l), g.short x (here l) (omega (arith, kind_grown w x (here l))) (omega (arith, kind_grown w x (here l))));
    unions = λ x l q. let s : kind σ x ≡ UNION = sym (kind_grown w x (here l)) ∙ q in
        subst United (sym (members_grown w x (here l) (ok_as g UNION (here l) s).inside)) (g.unions x (here l) s);
    intersects = λ x l q. let s : kind σ x ≡ INTERSECT = sym (kind_grown w x (here l)) ∙ q in
        let o = ok_as g INTERSECT (here l) s in
        subst (Meeting τ.states.words) (sym (members_grown w x (here l) o.inside))
        (meeting_grown w (members σ x) (all_map (members σ x) (λ u m. omega arith) o.earlier) (g.intersects x (here l) s));
    made = λ x l. made_kept w g x (here l);
    packed = λ x l. packed_kept w g x (here l);
    counted =
        ap (λ (m : Table). m.count) list ∙ g.counted ∙ sym (before_grown w (states σ) (omega arith)) ∙ ap (members_before τ) (sym same);
    once = λ x y l m p q.
        g.once x y (here l) (here m) (sym (kind_grown w x (here l)) ∙ p ∙ kind_grown w y (here m)) (sym (operands_same x (here l)) ∙ q ∙ operands_same y (here m));
  }

-- ---- one word

module _ (σ : Aut) (x w v : ℕ) where
  abbrev pub written : Aut
  written = put_states (set_word x w v σ.states) σ

  pub written_other : (p : ℕ) → p ≢ 12 * x + w → get_or written.states.words p 0 ≡ get_or σ.states.words p 0
  unfolding set_word
  written_other p n = get_or-set_other σ.states.words (12 * x + w) p v 0 n

  pub written_here : 12 * x + w < length σ.states.words → get_or written.states.words (12 * x + w) 0 ≡ v
  unfolding set_word
  written_here l = get_or-set_same σ.states.words (12 * x + w) v 0 l

  pub written_count : states written ≡ states σ
  unfolding set_word
  written_count = refl

  pub written_length : length written.states.words ≡ length σ.states.words
  unfolding set_word
  written_length = simp length-set

  module _ (l : x < states σ) (a : 4 ≤ w) (b : w < 12) where
    pub written_grown : ExtAut σ written
    written_grown = record {
      nodes = ext_refl σ.nodes;
      states = record {
        more = omega (arith, written_count);
        len = written_length;
        keep = λ i u m n. written_other (12 * i + u) (λ q. omega arith);
        beyond = λ j m. written_other j (λ q. omega (arith, written_count));
      };
      members = extm_refl σ.members;
    }

    pub written_good : {N : ℕ} {L : Limits} → WfAut N L σ → WfAut N L written
    written_good g = good_same g written_grown g.nodes written_count refl

pub noted_refl : (σ : Aut) → Noted σ σ
noted_refl σ = record {
  nodes = ext_refl σ.nodes;
  members = refl;
  count = refl;
  len = refl;
  words = λ i w l n. refl;
  beyond = λ j l. refl;
  kept = λ i l. refl;
}

pub noted_trans : {σ τ υ : Aut} → Noted σ τ → Noted τ υ → Noted σ υ
noted_trans p q = record {
  nodes = ext_trans p.nodes q.nodes;
  members = q.members ∙ p.members;
  count = q.count ∙ p.count;
  len = q.len ∙ p.len;
  words = λ i w l n. q.words i w l n ∙ p.words i w l n;
  beyond = λ j l. q.beyond j (omega (arith, p.count)) ∙ p.beyond j l;
  kept = λ i l. q.kept i (omega (arith, p.kept i l)) ∙ p.kept i l;
}

pub noted_nodes : {σ : Aut} {t : Table} → Ext σ.nodes t → Noted σ (put_nodes t σ)
noted_nodes e = record { nodes = e; members = refl; count = refl; len = refl; words = λ i w l n. refl; beyond = λ j l. refl; kept = λ i l. refl }

pub noted_grown : {σ τ : Aut} → Noted σ τ → ExtAut σ τ
noted_grown {σ} {τ} n = record {
  nodes = n.nodes;
  states = record {
    more = omega (arith, n.count);
    len = n.len;
    keep = λ i w l m. n.words i w (omega arith) (λ q. omega arith);
    beyond = λ j l. n.beyond j (omega (arith, n.count));
  };
  members = subst (ExtM σ.members) (sym n.members) (extm_refl σ.members);
}

pub noted_good : {N : ℕ} {L : Limits} {σ τ : Aut} → WfAut N L σ → Noted σ τ → Wf N τ.nodes → WfAut N L τ
noted_good g n v = good_same g (noted_grown n) v n.count n.members

-- then word 4 of x, which was not worked out before
pub noted_word : {σ τ : Aut} → Noted σ τ → (x v : ℕ) → x < states σ → epsilon_of σ.states.words x ≡ 0 → Noted σ (written τ x 4 v)
unfolding epsilon_of
noted_word {σ} {τ} n x v l z = record {
  nodes = n.nodes;
  members = n.members;
  count = written_count τ x 4 v ∙ n.count;
  len = written_length τ x 4 v ∙ n.len;
  words = λ i w m k. written_other τ x 4 v (12 * i + w) (λ q. k (omega arith)) ∙ n.words i w m k;
  beyond = λ j m. written_other τ x 4 v j (λ q. omega arith) ∙ n.beyond j m;
  kept = λ i m. written_other τ x 4 v (12 * i + 4) (λ q. apart i m (omega arith)) ∙ n.kept i m;
}
  where
    apart : (i : ℕ) → 0 < get_or σ.states.words (12 * i + 4) 0 → i ≡ x → ⊥
    apart i m q = omega (arith, ap (λ (j : ℕ). get_or σ.states.words (12 * j + 4) 0) q)

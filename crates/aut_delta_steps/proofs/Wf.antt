-- What holds of the definitions of specs/Wf.
use Rattle.std.specs.Prelude.{if◌then◌else◌}
use mathlib.Core.Path.{◌≡◌, refl, sym, ◌∙◌, ap, subst}
use mathlib.Core.List.{List, [], ◌∷◌}
use mathlib.Core.Logic.{◌⊎◌, inl, inr, ⊎_elim}
use Prim.Native.Nat.{ℕ, zero, suc, ◌+◌, ◌*◌, ◌-◌, ◌≤◌, ◌<◌}
use native.Mathlib.Omega.{arith}
use lib.Dec.{leb, eqb}
use lib.ListN.{length, get_or}
use borrow.Author.Tests.{leb-true, leb-false, eqb-true}
use Rattle.common.specs.Runs.{Table}
use Rattle.netkat.specs.Strings.{str}
use Rattle.netkat.specs.Rules.{Language}
use Rattle.netkat.proofs.Laws.Hops.{epsilon_same}
use Rattle.netkat_steps.proofs.ListSteps.{list_later, list_same}
use Rattle.netkat_steps.specs.ListSteps.{Edge, Later, IsList}
use Rattle.spp_steps.specs.Wf.{Ext}
use Rattle.spp_steps.proofs.Laws.{den_ext, by_test}
use Rattle.aut_steps.specs.Tables.{SPP, Limits, Aut}
use Rattle.aut_steps.specs.Languages.{◌≈◌}
use Rattle.aut_steps.proofs.Languages.{≈-sym}
use Rattle.aut_steps.specs.Wf.{states, kind, first, ExtAut, WfAut}
use Rattle.aut_steps.proofs.Wf.{kind_grown, first_grown, state_grown}
use Rattle.aut_steps.specs.Meaning.{Holds}
use Rattle.aut_steps.proofs.Meaning.{holds_grown}
use Rattle.aut_delta_steps.specs.Epsilon.{epsilon_of, value_of}
use Rattle.aut_st_steps.specs.Edges.{edges}
use Rattle.aut_delta_steps.specs.Delta.{start_of, count_of, Store, store, transition_cap, list_at}
use Rattle.aut_delta_steps.specs.Fits.{tables, Since}
use Rattle.aut_delta_steps.specs.Noted.{Noted}
use Rattle.aut_delta_steps.proofs.Noted.{noted_grown}
use Rattle.aut_delta_steps.specs.Wf.{Means, Epsilons, Valued, handle, memo, HasEpsilon, ExtT, Held, InList, Laid, Lists, WfStore, SameWords}

pub means_ext : {N : ℕ} {t u : Table} {e : ℕ} {A : Language N} → Ext t u → Means N t e A → Means N u e A
means_ext x m = record { relation = m.relation; den = den_ext x m.den; is = m.is }

pub means_same : {N : ℕ} {t : Table} {e : ℕ} {A B : Language N} → A ≈ B → Means N t e A → Means N t e B
means_same f m = record { relation = m.relation; den = m.den; is = epsilon_same (λ a z. f (str a [] z)) m.is }

-- .. and what is read
pub valued_reads : {σ : Aut} {x e : ℕ} → Valued σ x e → value_of σ.states.words x ≡ e
unfolding value_of
valued_reads {σ} {x} {e} (handle k f) = ap (λ (j : ℕ). if eqb j SPP then first σ x else epsilon_of σ.states.words x - 1) k ∙ f
valued_reads {σ} {x} {e} (memo n m) =
    by_test (eqb (kind σ x) SPP)
    (λ t. absurd (n (eqb-true (kind σ x) SPP t)))
    (λ t. ap (λ b. if b then first σ x else epsilon_of σ.states.words x - 1) t ∙ omega (arith, m))

pub valued_noted : {σ τ : Aut} → Noted σ τ → {x e : ℕ} → x < states σ → Valued σ x e → Valued τ x e
valued_noted n {x} l (handle k f) = handle (kind_grown (noted_grown n) x l ∙ k) (first_grown (noted_grown n) x l ∙ f)
valued_noted n {x} l (memo k m) = memo (λ q. k (sym (kind_grown (noted_grown n) x l) ∙ q)) (n.kept x (omega (arith, m)) ∙ m)

pub valued_has : {σ : Aut} {x e : ℕ} → Valued σ x e → HasEpsilon σ x
valued_has (handle k f) = inl k
valued_has (memo n m) = inr (omega (arith, m))

pub has_epsilon_grown : {σ τ : Aut} {x : ℕ} → ExtAut σ τ → x < states σ → (0 < epsilon_of σ.states.words x → epsilon_of τ.states.words x ≡ epsilon_of σ.states.words x)
    → HasEpsilon σ x → HasEpsilon τ x
has_epsilon_grown {x = x} w l same (inl k) = inl (kind_grown w x l ∙ k)
has_epsilon_grown w l same (inr p) = inr (omega (arith, p, same p))

-- tables that have grown, with words 4 of states in use as they were and of new ones not worked out
pub epsilons_grown : {N : ℕ} {L : Limits} {σ τ : Aut} → WfAut N L σ → ExtAut σ τ
    → ((x : ℕ) → x < states τ → epsilon_of τ.states.words x ≡ epsilon_of σ.states.words x) → Epsilons N σ → Epsilons N τ
unfolding epsilon_of
epsilons_grown {N} {σ} {τ} g w same E = record {
  none = λ x l k. by_test (leb (states σ) x)
      (λ t. new x l (leb-true (states σ) x t))
      (λ t. same x l ∙ E.none x (leb-false (states σ) x t) (sym (kind_grown w x (leb-false (states σ) x t)) ∙ k));
  kept = λ x l e q. by_test (leb (states σ) x)
      (λ t. absurd (omega (arith, new x l (leb-true (states σ) x t))))
      (λ t. let m : x < states σ = leb-false (states σ) x t in
      means_same (≈-sym (holds_grown g w m)) (means_ext w.nodes (E.kept x m e (sym (same x l) ∙ q))));
}
  where
    new : (x : ℕ) → x < states τ → states σ ≤ x → get_or τ.states.words (12 * x + 4) 0 ≡ 0
    new x l m = same x l ∙ g.fresh (12 * x + 4) (omega arith)

pub epsilons_since : {N : ℕ} {L : Limits} {σ τ : Aut} → WfAut N L σ → Since N L σ τ → Epsilons N σ → Epsilons N τ
unfolding epsilon_of
epsilons_since g s E = epsilons_grown g s.grown (λ x l. s.memos x 4 (omega arith) (omega arith)) E

-- ---- delta

pub later_grown : {N : ℕ} {L : Limits} {σ τ : Aut} → WfAut N L σ → ExtAut σ τ → WfAut N L τ → Later (tables N L) σ τ
later_grown g w v = record { good = v; known = λ x l. state_grown w l; same = λ x l. ≈-sym (holds_grown g w l); label = λ h R d. den_ext w.nodes d }

pub extt_refl : (t : Table) → ExtT t t
extt_refl t = record { more = omega arith; len = refl; keep = λ j l. refl; beyond = λ j l. refl }

pub extt_trans : {s t u : Table} → ExtT s t → ExtT t u → ExtT s u
extt_trans p q = record {
  more = omega (arith, p.more, q.more);
  len = q.len ∙ p.len;
  keep = λ j l. q.keep j (omega (arith, p.more)) ∙ p.keep j l;
  beyond = λ j l. q.beyond j l ∙ p.beyond j (omega (arith, q.more));
}

pub edges_same : (s t : List ℕ) (a k : ℕ) → ((j : ℕ) → 2 * a ≤ j → j < 2 * (a + k) → get_or t j 0 ≡ get_or s j 0) → edges t a k ≡ edges s a k
unfolding edges
edges_same s t a zero f = refl
edges_same s t a (suc k) f =
    ap (λ (x : ℕ). record { target = x; label = get_or t (2 * a + 1) 0 } ∷ edges t (a + 1) k) (f (2 * a) (omega arith) (omega arith))
    ∙ ap (λ (y : ℕ). record { target = get_or s (2 * a) 0; label = y } ∷ edges t (a + 1) k) (f (2 * a + 1) (omega arith) (omega arith))
    ∙ ap (λ (l : List Edge). record { target = get_or s (2 * a) 0; label = get_or s (2 * a + 1) 0 } ∷ l) (edges_same s t (a + 1) k (λ j l m. f j (omega arith) (omega arith)))

-- only a state in use has a list
pub list_there : {N : ℕ} {L : Limits} {σ : Aut} → WfAut N L σ → (x : ℕ) → 0 < count_of σ.states.words x → x < states σ
unfolding count_of
list_there {σ = σ} g x p = by_test (leb (states σ) x)
    (λ t. absurd (omega (arith, g.fresh (12 * x + 6) (omega (arith, leb-true (states σ) x t)))))
    (λ t. leb-false (states σ) x t)

-- no list is stored: words 5 and 6 of all states are as they were
pub laid_same : {N : ℕ} {L : Limits} {σ τ : Store} → WfAut N L σ.aut → ((x : ℕ) → SameWords σ τ x) → states σ.aut ≤ states τ.aut → τ.transitions.count ≡ σ.transitions.count
    → Laid σ → Laid τ
unfolding count_of start_of
laid_same {σ = σ} {τ} g same more count D = record {
  owned = λ t l. let o = D.owned t (omega (arith, count)) in
      record { state = o.state; known = omega (arith, o.known); has = (omega (arith, o.has.0, (same o.state).1), omega (arith, o.has.1, (same o.state).0, (same o.state).1)) };
  apart = λ x y t k l m n. D.apart x y t (there x (back x t m)) (there y (back y t n)) (back x t m) (back y t n);
  border = λ x y k l c m.
      let i = back y (start_of τ.aut.states.words x) m in
      omega (arith, (same x).1, (same y).1, D.border x y (list_there g x (omega (arith, (same x).0))) (there y i) (omega (arith, (same x).0)) (omega (arith, i.0, (same x).1), omega (arith, i.1, (same x).1)));
  blank = λ x l c. by_test (leb (states σ.aut) x)
      (λ b. (same x).1 ∙ g.fresh (12 * x + 5) (omega (arith, leb-true (states σ.aut) x b)))
      (λ b. (same x).1 ∙ D.blank x (leb-false (states σ.aut) x b) (sym (same x).0 ∙ c));
}
  where
    back : (x t : ℕ) → InList τ x t → InList σ x t
    back x t m = (omega (arith, m.0, (same x).1), omega (arith, m.1, (same x).0, (same x).1))

    there : (x : ℕ) {t : ℕ} → InList σ x t → x < states σ.aut
    there x m = list_there g x (omega (arith, m.0, m.1))

module _ {N : ℕ} {L : Limits} {σ : Store} (τ : Store) (D : Lists N L σ) (t : ExtT σ.transitions τ.transitions) where
  pub same_list : (x : ℕ) → x < states σ.aut → 0 < count_of σ.aut.states.words x → SameWords σ τ x → list_at τ x ≡ list_at σ x
  unfolding list_at
  same_list x l m (c, s) =
      let k : ℕ = count_of σ.aut.states.words x - 1 in
      let a : ℕ = start_of σ.aut.states.words x in
      ap (λ (j : ℕ). edges τ.transitions.words (start_of τ.aut.states.words x) (j - 1)) c
      ∙ ap (λ (j : ℕ). edges τ.transitions.words j k) s
      ∙ edges_same σ.transitions.words τ.transitions.words a k (λ j p q. t.keep j (omega (arith, (D.held x l).inside k (omega arith))))

  module _ (g : WfAut N L σ.aut) (w : ExtAut σ.aut τ.aut) (v : WfAut N L τ.aut) where
    held_same : (x : ℕ) → x < states τ.aut → SameWords σ τ x → Held N L τ x
    unfolding count_of
    held_same x l e = by_test (leb (states σ.aut) x)
        (λ b. let z : count_of τ.aut.states.words x ≡ 0 = e.0 ∙ g.fresh (12 * x + 6) (omega (arith, leb-true (states σ.aut) x b)) in
        record { inside = λ k q. absurd (omega arith); short = omega arith; list = λ m. absurd (omega arith) })
        (λ b. let n : x < states σ.aut = leb-false (states σ.aut) x b in
        let h : Held N L σ x = D.held x n in
        record {
          inside = λ k q. omega (arith, e.1, t.more, h.inside k (sym e.0 ∙ q));
          short = omega (arith, e.0, h.short);
          list = λ m. let c : 0 < count_of σ.aut.states.words x = omega (arith, e.0) in
              subst (IsList (tables N L) (Holds N τ.aut x) τ.aut) (sym (same_list x n c e))
              (list_same (tables N L) (λ p h hs z. ≈-sym (holds_grown g w n) (str p (h ∷ hs) z)) (list_later (tables N L) (later_grown g w v) (h.list c)));
        })

    -- each state has its words 5 and 6 as they were, or what they say now holds
    pub lists_grown : 2 * τ.transitions.count ≤ length τ.transitions.words → τ.transitions.count ≤ transition_cap
        → ((x : ℕ) → x < states τ.aut → SameWords σ τ x ⊎ Held N L τ x) → Laid τ → Lists N L τ
    lists_grown f s each m = record { some = D.some; fit = f; small = s; held = λ x l. ⊎_elim (λ e. held_same x l e) (λ h. h) (each x l); laid = m }

-- nothing is worked out: tables with no state and no transition
pub begun : {N : ℕ} {L : Limits} {σ : Store} → 1 ≤ L.transitions → WfAut N L σ.aut → states σ.aut ≡ 0 → σ.transitions.count ≡ 0 → WfStore N L σ
begun o g z c = record {
  good = g;
  epsilons = record { none = λ x l k. absurd (omega arith); kept = λ x l e q. absurd (omega arith) };
  lists = record {
    some = o;
    fit = omega arith;
    small = omega arith;
    held = λ x l. absurd (omega arith);
    laid = record { owned = λ t l. absurd (omega arith); apart = λ x y t l. absurd (omega arith); border = λ x y l. absurd (omega arith); blank = λ x l. absurd (omega arith) };
  };
}

-- a step on the tables of the constructors that leaves words 5 and 6 of all states
pub worked_aut : {N : ℕ} {L : Limits} {σ : Store} {a : Aut} → WfStore N L σ → ExtAut σ.aut a → WfAut N L a → Epsilons N a
    → ((x w : ℕ) → 5 ≤ w → w < 7 → get_or a.states.words (12 * x + w) 0 ≡ get_or σ.aut.states.words (12 * x + w) 0) → WfStore N L (store a σ.transitions)
unfolding count_of start_of
worked_aut {σ} {a} W w v E same = record {
  good = v;
  epsilons = E;
  lists = lists_grown (store a σ.transitions) W.lists (extt_refl σ.transitions) W.good w v W.lists.fit W.lists.small
      (λ x l. inl (words x)) (laid_same W.good words w.states.more refl W.lists.laid);
}
  where
    words : (x : ℕ) → SameWords σ (store a σ.transitions) x
    words x = (same x 6 (omega arith) (omega arith), same x 5 (omega arith) (omega arith))

-- .. one that works nothing out, and one that works out epsilons
pub worked_since : {N : ℕ} {L : Limits} {σ : Store} {a : Aut} → WfStore N L σ → Since N L σ.aut a → WfStore N L (store a σ.transitions)
worked_since W s = worked_aut W s.grown s.good (epsilons_since W.good s W.epsilons) (λ x w l m. s.memos x w (omega arith) (omega arith))

pub worked_noted : {N : ℕ} {L : Limits} {σ : Store} {a : Aut} → WfStore N L σ → Noted σ.aut a → WfAut N L a → Epsilons N a → WfStore N L (store a σ.transitions)
worked_noted W n v E = worked_aut W (noted_grown n) v E (λ x w l m. n.words x w (omega arith) (λ q. omega arith))

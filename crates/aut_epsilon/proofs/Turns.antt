-- epsilon: a state that has its value; states worked out one after another, each below x and with all its operands worked out, and then x.
use mathlib.Core.Path.{◌≡◌, sym, ◌∙◌, ap, subst}
use mathlib.Core.List.{List}
use Prim.Native.Nat.{ℕ, ◌+◌, ◌*◌, ◌≤◌, ◌<◌}
use native.Mathlib.Omega.{arith}
use lib.Dec.{eqb}
use lib.ListN.{length, set, length-append}
use borrow.Author.Tests.{eqb-true, eqb-false}
use Rattle.std.specs.Prelude.{Result, Ok, Err}
use Rattle.common.specs.Outcome.{Outcome, given, after}
use Rattle.common.specs.Runs.{Table, table, placed}
use Rattle.refusal.specs.declared.Refusal.{Refusal}
use Rattle.spp_steps.proofs.Laws.{by_test, at_below}
use Rattle.spp.specs.declared.SPP.{SPP}
use Rattle.aut_steps.specs.Tables.{UNION, INTERSECT, nest, Limits, Aut, aut, put_nodes}
use Rattle.aut_steps.proofs.Facts.{words_length}
use Rattle.aut_steps.specs.Ascending.{All}
use Rattle.aut_steps.proofs.ListLaws.{all_map, all_with}
use Rattle.aut_steps.specs.Wf.{states, kind, first, second, members, WfAut}
use Rattle.aut_steps.proofs.Wf.{kind_grown, nesting_grown}
use Rattle.aut_delta_steps.specs.Epsilon.{epsilon_of, value_of, set_word, keep_epsilon, epsilon}
use Rattle.aut_delta_steps.proofs.Agree.{Agree, agree_came}
use Rattle.aut_delta_steps.specs.Noted.{Noted}
use Rattle.aut_delta_steps.proofs.Noted.{noted_trans, noted_grown}
use Rattle.aut_delta_steps.specs.Wf.{Epsilons}
use Rattle.aut_delta_steps.specs.EpsilonSpec as Laws
use Rattle.aut_delta_steps.specs.EpsilonSpec.{Epsiloned}
use Rattle.aut_delta_steps.proofs.EpsilonLaws.{Stopped, epsilon_goes}
use Rattle.aut_delta_steps.specs.EpsilonReads.{operands_of, combine_on}
use Rattle.aut_delta_steps.proofs.EpsilonReads.{operands_below}
use Rattle.aut_delta_steps.specs.EpsilonDown.{Known, Open, Way}
use Rattle.aut_delta_steps.proofs.EpsilonDown.{way_end, way_state, way_lower, known_of, epsilon_known, known_means, bottom_run, open_still, same_above, stuck_above, opens, opens_fewer}
use Rattle.aut_states.specs.Clauses.{limits_of}
use Rattle.aut_states.specs.declared.Limits.{Limits as Bounds}
use Rattle.aut_states.specs.declared.States.{States}
use Rattle.aut_states.specs.declared.Members.{Members}
use Rattle.aut_relations.specs.Behind.{Modifies}
use Rattle.aut_relations.proofs.Behind.{left_refl, left_trans}
use Rattle.aut_relations.specs.Clauses.{Ready}
use Rattle.aut_relations.specs.declared.Aut.{Aut as Lent}
use Rattle.aut_relations.specs.Lent.{nodes_in, members_in, aut_in, Keeps, KeepsExprs, Does}
use Rattle.aut_relations.proofs.Kept.{keeps_trans}
use Rattle.aut_relations.proofs.Order.{in_table, backed_of, ready_after}
use Rattle.aut_operands.specs.Clauses.{Descends}
use Rattle.aut_operands.proofs.Down.{inside_of}
use Rattle.aut_epsilon.specs.Clauses.{CombineReady, After}
use Rattle.aut_epsilon.specs.Asked.{EpsilonAsked, FinishAsked, Later}

-- the steps of epsilon, from x with the answer r to y
abbrev pub Epsilon : ℕ → ℕ → Lent → Result SPP Refusal → Lent → Type 0
Epsilon N i x r y = Does N 0 0 aut_in (λ h. h.0) (epsilon N i) x r y

-- ---- what the law gives

module _ {N : ℕ} {σ : Aut} {x : ℕ} (E : Epsilons N σ) (has : x < states σ) where
  laws_ready : {l : Bounds} {s : List ℕ} → Ready N l σ s → Laws.Ready N (limits_of l) σ
  laws_ready r = record { good = r.good; epsilons = E }

  -- whatever the limits are for which the tables are in order
  pub after_law : {l : Bounds} {s s' : List ℕ} → Ready N l σ s → {τ : Aut} {h : ℕ} → epsilon N x σ ≡ given τ h → Modifies N 0 0 τ.nodes s s' → length s' ≡ length s → After N l x σ τ s' h
  after_law {l} r {τ} {h} e p len =
      let law : Epsiloned N (limits_of l) x σ τ h = agree_came (subst (λ o. Agree (Stopped N (limits_of l) σ) (Epsiloned N (limits_of l) x σ) o (epsilon N x σ)) e (epsilon_goes (laws_ready r) has)) in
      record { ready = ready_after r (noted_grown law.found.noted) law.found.good p len; law = law }

-- ---- tables in order

-- a list has a member
some_of : {N : ℕ} {L : Limits} {σ : Aut} → WfAut N L σ → {x : ℕ} → x < states σ → UNION ≤ kind σ x → kind σ x ≤ INTERSECT → 1 ≤ second σ x
some_of {σ = σ} g {x} l p q =
    by_test (eqb (kind σ x) UNION) (λ b. omega (arith, (g.unions x l (eqb-true (kind σ x) UNION b)).some, long))
    (λ b. let m = g.intersects x l (omega (arith, eqb-false (kind σ x) UNION b)) in omega (arith, long, ap length m.parts, length-append m.others m.last, m.some))
  where
    long : length (members σ x) ≡ second σ x
    long = words_length σ.members.words (first σ x) (second σ x)

module _ {N : ℕ} {i : ℕ} {x : Lent} (a : EpsilonAsked N x i) where
  laws : Laws.Ready N (limits_of a.limits) (aut_in x)
  laws = record { good = a.ready.good; epsilons = a.epsilons }

  pub later : {r : Result SPP Refusal} {y : Lent} → length y.scratch.now ≡ length x.scratch.now → Epsilon N i x r y → Later N i x r y
  later {r = Ok h} len D = λ l R. after_law a.epsilons a.has R D.is D.left len
  later {r = Err e} len D = tt

  -- ---- a state that has its value

  pub kept : Known x.states.words.now i → {h : SPP} → value_of x.states.words.now i ≡ h.0 → Epsilon N i x (Ok h) x
  kept n e = record { is = epsilon_known laws a.has n ∙ ap (given (aut_in x)) e; left = left_refl 0 0 (nodes_in x) x.scratch.now }

-- ---- finish

module _ {N : ℕ} {i : ℕ} {x : Lent} (f : FinishAsked N x i) where
  pub combine_ready : CombineReady N x i
  combine_ready = record {
    operands = record {
      fields = f.asked.fields;
      backed = backed_of f.asked.ready;
      values = all_with (operands_of x.states.words.now x.members.words.now i) (λ z b n. record { state = in_table f.asked.ready.good b.state; known = n; at = (known_means (laws f.asked) b.state n).den.at })
          (operands_below (laws f.asked) f.asked.has) f.known;
    };
    inside = inside_of f.asked.ready.good f.asked.has;
    some = some_of f.asked.ready.good f.asked.has;
  }

  run : {o : Outcome Table ℕ} → combine_on N x.states.words.now x.members.words.now i (nodes_in x) ≡ o → epsilon N i (aut_in x) ≡ after (placed put_nodes (aut_in x) o) (keep_epsilon i)
  run q = bottom_run (laws f.asked) f.asked.has f.not_yet f.known ∙ ap (λ (o : Outcome Table ℕ). after (placed put_nodes (aut_in x) o) (keep_epsilon i)) q

  abbrev Combined : Result SPP Refusal → Lent → Type 0
  Combined r y = Does N 0 0 nodes_in (λ h. h.0) (combine_on N x.states.words.now x.members.words.now i) x r y

  pub unfinished : {e : Refusal} {y : Lent} → Combined (Err e) y → {r : Result SPP Refusal} → r ≡ Err e → Epsilon N i x r y
  unfinished {e} {y} D q = subst (λ (r : Result SPP Refusal). Epsilon N i x r y) (sym q) (record { is = run D.is; left = tt })

  module _ {y : Lent} (K : KeepsExprs x y) where
    -- a handle can be marked
    pub handle_small : {h : SPP} → Combined (Ok h) y → h.0 < 16777218
    unfolding keep_epsilon
    handle_small {h} D =
        let s = after_law f.asked.epsilons f.asked.has f.asked.ready (run D.is) D.left K.scratch.length in
        omega (arith, at_below (nodes_in y) N h.0 s.law.found.means.den.at, s.law.found.good.nodes.nodes.small)

    pub marked : {h : SPP} → Combined (Ok h) y → epsilon N i (aut_in x) ≡ given (aut (nodes_in y) (table (set y.states.words.now (12 * i + 4) (h.0 + 1)) y.states.count) (members_in y)) h.0
    unfolding keep_epsilon set_word
    marked {h} D =
        subst (λ (s : States). epsilon N i (aut_in x) ≡ given (aut (nodes_in y) (table (set s.words.now (12 * i + 4) (h.0 + 1)) s.count) (members_in y)) h.0) (sym K.states)
        (subst (λ (m : Members). epsilon N i (aut_in x) ≡ given (aut (nodes_in y) (table (set x.states.words.now (12 * i + 4) (h.0 + 1)) x.states.count) (table m.words.now m.count)) h.0) (sym K.members) (run D.is))

-- ---- the loop: some states below i are worked out, from x₀ to x

pub record Turn (N : ℕ) (i : ℕ) (x₀ x : Lent) : Type 0 where
  pub keeps : Keeps x₀ x
  pub members : x.members ≡ x₀.members
  pub count : x.states.count ≡ x₀.states.count
  pub asked : EpsilonAsked N x i
  pub noted : Noted (aut_in x₀) (aut_in x)
  pub left : Modifies N 0 0 (nodes_in x) x₀.scratch.now x.scratch.now
  pub not_yet : Open x.states.words.now i
  pub is : epsilon N i (aut_in x₀) ≡ epsilon N i (aut_in x)

module _ {N : ℕ} {i : ℕ} {x₀ x : Lent} (v : Turn N i x₀ x) where
  ready : Laws.Ready N (limits_of v.asked.limits) (aut_in x)
  ready = laws v.asked

  pub lowest_ready : Descends x.states.words.now x.members.words.now i
  lowest_ready = record {
    count = x.states.count;
    nested = record {
      inside = λ y l. inside_of ready.good l;
      lower = λ y l. all_map (operands_of x.states.words.now x.members.words.now y) (λ z b. (b.state, b.lower)) (operands_below ready l);
    };
    has = v.asked.has;
    not_yet = v.not_yet;
  }

  wrote : {z : ℕ} {y' : Lent} {h : SPP} → Epsilon N z x (Ok h) y' → After N v.asked.limits z (aut_in x) (aut_in y') y'.scratch.now h.0 → Modifies N 0 0 (nodes_in y') x₀.scratch.now y'.scratch.now
  wrote D A = left_trans A.law.found.noted.nodes v.left D.left

  pub done : {y' : Lent} {r : Result SPP Refusal} → length y'.scratch.now ≡ length x.scratch.now → Epsilon N i x r y' → Epsilon N i x₀ r y'
  done {r = Ok h} len D = record { is = v.is ∙ D.is; left = wrote D (later v.asked len D v.asked.limits v.asked.ready) }
  done {r = Err q} len D = record { is = v.is ∙ D.is; left = tt }

  module _ {y : ℕ} (w : Way x.states.words.now x.members.words.now y i) where
    y_state : y < x.states.count
    y_state = (way_state ready v.asked.has w).0

    y_open : Open x.states.words.now y
    y_open = (way_end w).0

    pub finish_ready : y ≡ i → FinishAsked N x i
    finish_ready e = record { asked = v.asked; not_yet = v.not_yet; known = subst (λ (z : ℕ). All (Known x.states.words.now) (operands_of x.states.words.now x.members.words.now z)) e (way_end w).1 }

    -- one state more
    module _ (apart : y ≡ i → ⊥) where
      pub call_ready : {m : ℕ} → nest x₀.states.words.now i ≡ m → i < x₀.states.count → (nest x.states.words.now y < m) × EpsilonAsked N x y
      call_ready q has = (
        omega (arith, way_lower ready v.asked.has apart w, nesting_grown (noted_grown v.noted) i has),
        record { limits = v.asked.limits; fields = v.asked.fields; ready = v.asked.ready; epsilons = v.asked.epsilons; has = y_state },
      )

      pub again : {y' : Lent} {h : SPP} → Keeps x y' → y'.members ≡ x.members → y'.states.count ≡ x.states.count → Epsilon N y x (Ok h) y' → Later N y x (Ok h) y' → Turn N i x₀ y'
      again K m c D late =
          let A = late v.asked.limits v.asked.ready in
          record {
            keeps = keeps_trans v.keeps K;
            members = m ∙ v.members;
            count = c ∙ v.count;
            asked = record {
              limits = v.asked.limits;
              fields = K.spp.fields ∙ v.asked.fields;
              ready = A.ready;
              epsilons = A.law.found.epsilons;
              has = omega (arith, c, v.asked.has);
            };
            noted = noted_trans v.noted A.law.found.noted;
            left = wrote D A;
            not_yet = open_still ready y_state y_open (way_end w).1 D.is v.asked.has (λ q. apart (sym q)) v.not_yet;
            is = v.is ∙ sym (same_above ready y_state y_open (way_end w).1 D.is v.asked.has w);
          }

    pub stuck : {y' : Lent} {q : Refusal} → Epsilon N y x (Err q) y' → {r : Result SPP Refusal} → r ≡ Err q → Epsilon N i x₀ r y'
    stuck {y'} D e = subst (λ (r : Result SPP Refusal). Epsilon N i x₀ r y') (sym e) (record { is = v.is ∙ stuck_above ready v.asked.has w D.is; left = tt })

    pub fewer : (y' : Lent) {s' : List ℕ} {h : ℕ} → ((l : Bounds) → Ready N l (aut_in x) x.scratch.now → After N l y (aut_in x) (aut_in y') s' h) → y'.states.count ≡ x.states.count
        → opens (epsilon_of y'.states.words.now) y'.states.count < opens (epsilon_of x.states.words.now) x.states.count
    fewer y' late c =
        let A = late v.asked.limits v.asked.ready in
        subst (λ (n : ℕ). opens (epsilon_of y'.states.words.now) n < opens (epsilon_of x.states.words.now) x.states.count) (sym c)
        (opens_fewer (epsilon_of x.states.words.now) (epsilon_of y'.states.words.now) A.law.found.noted.kept y x.states.count y_state y_open.1 (noted_now A))
      where
        noted_now : {s' : List ℕ} {e : ℕ} → After N v.asked.limits y (aut_in x) (aut_in y') s' e → 0 < epsilon_of y'.states.words.now y
        noted_now A = known_of A.law.value (λ q. y_open.0 (sym (kind_grown (noted_grown A.law.found.noted) y y_state) ∙ q))

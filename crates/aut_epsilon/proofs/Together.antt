-- Values put together: what the calls ask, and what they come to.
use mathlib.Core.Path.{◌≡◌, refl, sym, ◌∙◌, ap, ap₂, subst}
use mathlib.Core.List.{List, [], ◌∷◌}
use mathlib.Core.Logic.{◌⊎◌, inl, inr}
use Prim.Native.Nat.{ℕ, suc, ◌+◌, ◌*◌, ◌-◌, ◌≤◌, ◌<◌}
use native.Mathlib.Omega.{arith}
use lib.ListN.{length, get_or}
use Rattle.std.specs.Prelude.{Result, Ok, Err}
use Rattle.common.specs.Packets.{Relation}
use Rattle.common.specs.Outcome.{Outcome, given, Step, after, Gives, refusal, gives}
use Rattle.common.proofs.Follow.{given_of}
use Rattle.common.specs.Runs.{Table}
use Rattle.refusal.specs.declared.Refusal.{Refusal}
use Rattle.spp_steps.specs.Model as Spp
use Rattle.spp_steps.specs.Wf.{Ext, ValidAt}
use Rattle.spp_steps.proofs.Laws.{ext_refl, ext_trans, at_ext, den_mem, den_zero}
use Rattle.spp_steps.proofs.Apply.{apply_exact}
use Rattle.spp.specs.declared.SPP.{SPP}
use Rattle.aut_steps.specs.Relations as Rel
use Rattle.aut_steps.proofs.RelationLaws as RelationLaws
use Rattle.aut_steps.specs.Tables.{UNION, INTERSECT, XOR, DIFFERENCE, COMPLEMENT, SEQUENCE, STAR, kind_of, op1, op2, words}
use Rattle.aut_steps.specs.Ascending.{All}
use Rattle.aut_steps.specs.Constructors.{each}
use Rattle.aut_steps.proofs.Scratch.{words_on, words_done, from_0, all_word}
use Rattle.aut_states.specs.declared.States.{States}
use Rattle.aut_states.specs.declared.Members.{Members}
use Rattle.aut_delta_steps.specs.Epsilon.{value_of}
use Rattle.aut_delta_steps.specs.EpsilonReads.{operands_with, meet_values, combine_by, combine_on}
use Rattle.aut_delta_steps.specs.EpsilonDown.{Known}
use Rattle.aut_relations.specs.Behind.{Modifies, CacheReady}
use Rattle.aut_relations.proofs.Behind.{left_refl, left_trans, backed_left}
use Rattle.aut_relations.specs.declared.Aut.{Aut as Lent}
use Rattle.aut_relations.specs.Lent.{nodes_in, KeepsExprs, Does, Handles}
use Rattle.aut_relations.proofs.Kept.{keeps_refl, keeps_trans}
use Rattle.aut_relations.proofs.Each.{Grows, Keeps as KeepsStep, makes_gives}
use Rattle.aut_epsilon.specs.Clauses.{ValueAt, ValuesReady, EachReady, CombineReady}

-- ---- a value

pub readable : {N : ℕ} {t : Table} {st : List ℕ} {y : ℕ} → ValueAt N t st y → (12 * y + 11 < length st) × Known st y
readable v = (v.state, v.known)

-- steps that come to others
pub does_as : {N a n : ℕ} {V A : Type 0} {see : V → A} {p o : Step Table A} {x y : Lent} {r : Result V Refusal} → p (nodes_in x) ≡ o (nodes_in x) → Does N a n nodes_in see o x r y → Does N a n nodes_in see p x r y
does_as e D = record { is = e ∙ D.is; left = D.left }

-- ---- combine_each: i members are done

value_later : {N : ℕ} {t t' : Table} {st : List ℕ} {y : ℕ} → Ext t t' → ValueAt N t st y → ValueAt N t' st y
value_later {N} {st = st} {y = y} e v = record { state = v.state; known = v.known; at = at_ext e N (value_of st y) v.at }

module _ (N : ℕ) (o : Spp.Op) (st : List ℕ) where
  abbrev pub one : ℕ → ℕ → Step Table ℕ
  one y g = Spp.apply N o N g (value_of st y)

  -- a value more
  keeps : KeepsStep N one (λ t y. ValueAt N t st y) (λ t g. ValidAt t N g)
  keeps = record {
    later = λ t t' y e v. value_later e v;
    step = λ t y g w a v. grows (makes_gives (RelationLaws.made N (apply_exact N o N (omega arith) t g (value_of st y) _ _ w (den_mem a) (den_mem v.at))));
  }
    where
      grows : {R : Relation N} {t : Table} {o : Outcome Table ℕ} → Gives (RelationLaws.Made N R t) o → Gives (Grows N (λ t g. ValidAt t N g) t) o
      grows refusal = refusal
      grows (gives m) = gives (record { ext = m.ext; wf = m.wf; holds = m.den.at })

-- from x₀ to x
pub record Turn (N : ℕ) (o : Spp.Op) (h from k : ℕ) (x₀ x : Lent) (g i : ℕ) : Type 0 where
  pub keeps : KeepsExprs x₀ x
  pub left : Modifies N 0 0 (nodes_in x) x₀.scratch.now x.scratch.now
  pub ext : Ext (nodes_in x₀) (nodes_in x)
  pub backed : CacheReady N (nodes_in x) x.scratch.now
  pub at_g : ValidAt (nodes_in x) N g
  pub is : each (one N o x₀.states.words.now) (words x₀.members.words.now from k) h (nodes_in x₀) ≡ each (one N o x₀.states.words.now) (words x₀.members.words.now (from + i) (k - i)) g (nodes_in x)

module _ {N : ℕ} (o : Spp.Op) {h from k : ℕ} {x₀ : Lent} (p : EachReady N x₀ h from k) where
  abbrev st : List ℕ
  st = x₀.states.words.now

  abbrev mem : List ℕ
  mem = x₀.members.words.now

  pub begin : Turn N o h from k x₀ x₀ h 0
  begin = record {
    keeps = keeps_refl x₀;
    left = left_refl 0 0 (nodes_in x₀) x₀.scratch.now;
    ext = ext_refl (nodes_in x₀);
    backed = p.list.backed;
    at_g = p.at_h;
    is = from_0 (λ b k. each (one N o st) (words mem b k) h (nodes_in x₀)) from k;
  }

  module _ {x : Lent} {g i : ℕ} (v : Turn N o h from k x₀ x g i) where
    -- what is read now was so at the beginning
    as_now : (P : States → Members → Type 0) → P x₀.states x₀.members → P x.states x.members
    as_now P z = subst (λ (s : States). P s x.members) (sym v.keeps.states) (subst (λ (m : Members). P x₀.states m) (sym v.keeps.members) z)

    module _ (l : i < k) where
      value_then : ValueAt N (nodes_in x) st (get_or mem (from + i) 0)
      value_then = value_later v.ext (all_word (λ y. ValueAt N (nodes_in x₀) st y) mem from k i l p.list.values)

      pub value_at : ValueAt N (nodes_in x) x.states.words.now (get_or x.members.words.now (from + i) 0)
      value_at = as_now (λ s m. ValueAt N (nodes_in x) s.words.now (get_or m.words.now (from + i) 0)) value_then

      module _ {b : ℕ} (e : value_of x.states.words.now (get_or x.members.words.now (from + i) 0) ≡ b) where
        pub apply_ready : Handles N x g b
        apply_ready = record { fields = v.keeps.spp.fields ∙ p.list.fields; backed = v.backed; at_a = v.at_g; at_b = subst (ValidAt (nodes_in x) N) e value_at.at }

        then : value_of st (get_or mem (from + i) 0) ≡ b
        then = sym (as_now (λ s m. value_of s.words.now (get_or m.words.now (from + i) 0) ≡ value_of st (get_or mem (from + i) 0)) refl) ∙ e

        step : {q : Outcome Table ℕ} → Spp.apply N o N g b (nodes_in x) ≡ q
            → each (one N o st) (words mem from k) h (nodes_in x₀) ≡ after q (each (one N o st) (words mem (from + (i + 1)) (k - (i + 1))))
        unfolding each
        step f =
            v.is ∙ ap (λ (ys : List ℕ). each (one N o st) ys g (nodes_in x)) (words_on mem from k i l)
            ∙ ap (λ (q : Outcome Table ℕ). after q (each (one N o st) (words mem (from + (i + 1)) (k - (i + 1))))) (ap (λ (b : ℕ). Spp.apply N o N g b (nodes_in x)) then ∙ f)

        module _ {y : Lent} where
          pub stuck : {q : Refusal} → Does N 0 0 nodes_in (λ (h : SPP). h.0) (Spp.apply N o N g b) x (Err q) y → {r : Result SPP Refusal} → r ≡ Err q → Does N 0 0 nodes_in (λ (h : SPP). h.0) (each (one N o st) (words mem from k) h) x₀ r y
          stuck {q} D e = subst (λ (r : Result SPP Refusal). Does N 0 0 nodes_in (λ (h : SPP). h.0) (each (one N o st) (words mem from k) h) x₀ r y) (sym e) (record { is = step D.is; left = tt })

          pub again : {g1 : SPP} → KeepsExprs x y → Does N 0 0 nodes_in (λ (h : SPP). h.0) (Spp.apply N o N g b) x (Ok g1) y → Turn N o h from k x₀ y g1.0 (i + 1)
          again K D =
              let d = given_of ((keeps N o st).step (nodes_in x) (get_or mem (from + i) 0) g v.backed.wf v.at_g value_then) (ap (λ (b : ℕ). Spp.apply N o N g b (nodes_in x)) then ∙ D.is) in
              record {
                keeps = keeps_trans v.keeps K;
                left = left_trans d.ext v.left D.left;
                ext = ext_trans v.ext d.ext;
                backed = backed_left v.backed d.ext d.wf D.left K.scratch.length;
                at_g = d.holds;
                is = step D.is;
              }

    pub end : k ≤ i → {r : SPP} → g ≡ r.0 → Does N 0 0 nodes_in (λ (h : SPP). h.0) (each (one N o st) (words mem from k) h) x₀ (Ok r) x
    unfolding each
    end l e = record { is = v.is ∙ ap (λ (ys : List ℕ). each (one N o st) ys g (nodes_in x)) (words_done mem (from + i) k i l) ∙ ap (given (nodes_in x)) e; left = v.left }

-- one state twice
pub twice : {N : ℕ} {x : Lent} {y : ℕ} → ValuesReady N x (y ∷ []) → ValuesReady N x (y ∷ y ∷ [])
twice r = record { fields = r.fields; backed = r.backed; values = (r.values.0, (r.values.0, tt)) }

-- ---- combine: i is of kind k, with the operands a and b

module _ {N : ℕ} {x : Lent} {i : ℕ} (p : CombineReady N x i) {kd a b : ℕ} (w : kd ≡ kind_of x.states.words.now i) (f : a ≡ op1 x.states.words.now i) (g : b ≡ op2 x.states.words.now i) where
  abbrev v : ℕ → ℕ
  v = value_of x.states.words.now

  abbrev ys : List ℕ
  ys = words x.members.words.now a b

  pub by : {k : ℕ} → kd ≡ k → combine_on N x.states.words.now x.members.words.now i (nodes_in x) ≡ combine_by N v k ys a b (nodes_in x)
  by {k} e =
      ap (λ (k : ℕ). combine_by N v k (words x.members.words.now (op1 x.states.words.now i) (op2 x.states.words.now i)) (op1 x.states.words.now i) (op2 x.states.words.now i) (nodes_in x)) (sym w ∙ e)
      ∙ ap₂ (λ (a b : ℕ). combine_by N v k (words x.members.words.now a b) a b (nodes_in x)) (sym f) (sym g)

  pub operands : {k : ℕ} → kd ≡ k → ValuesReady N x (operands_with k ys a b)
  operands {k} e =
      let A : ℕ → ℕ → ℕ → Type 0 = λ k a b. All (ValueAt N (nodes_in x) x.states.words.now) (operands_with k (words x.members.words.now a b) a b) in
      record {
        fields = p.operands.fields;
        backed = p.operands.backed;
        values = subst (λ (a : ℕ). A k a b) (sym f) (subst (λ (b : ℕ). A k (op1 x.states.words.now i) b) (sym g) (subst (λ (k : ℕ). A k (op1 x.states.words.now i) (op2 x.states.words.now i)) (sym w ∙ e) p.operands.values));
      }

  -- ---- two operands, or one

  pub two_ready : (kd ≡ XOR) ⊎ (kd ≡ DIFFERENCE) ⊎ (kd ≡ SEQUENCE) → ValuesReady N x (a ∷ b ∷ [])
  unfolding operands_with
  two_ready (inl e) = operands e
  two_ready (inr (inl e)) = operands e
  two_ready (inr (inr e)) = operands e

  pub one_ready : (kd ≡ COMPLEMENT) ⊎ (kd ≡ STAR) → ValuesReady N x (a ∷ a ∷ [])
  unfolding operands_with
  one_ready (inl e) = twice (operands e)
  one_ready (inr e) = twice (operands e)

  -- ---- a list

  module _ {k : ℕ} (e : kd ≡ k) (lo : UNION ≤ k) (hi : k ≤ INTERSECT) where
    in_table : a + b ≤ length x.members.words.now
    in_table = omega (arith, p.inside.list (omega (arith, w, e)) (omega (arith, w, e)), f, g)

    some : 1 ≤ b
    some = omega (arith, p.some (omega (arith, w, e)) (omega (arith, w, e)), g)

  pub union_ready : kd ≡ UNION → {z : ℕ} → Rel.zero_at N ≡ z → EachReady N x z a b
  unfolding operands_with
  union_ready e q = record {
    list = operands e;
    inside = in_table e (omega arith) (omega arith);
    at_h = subst (ValidAt (nodes_in x) N) q (den_zero p.operands.backed.wf N (omega (arith, p.operands.backed.few))).at;
  }

  pub union_is : kd ≡ UNION → {z : ℕ} → Rel.zero_at N ≡ z → combine_on N x.states.words.now x.members.words.now i (nodes_in x) ≡ each (one N Spp.union x.states.words.now) ys z (nodes_in x)
  unfolding combine_by
  union_is e q = by e ∙ ap (λ (z : ℕ). each (one N Spp.union x.states.words.now) ys z (nodes_in x)) q

  module _ (e : kd ≡ INTERSECT) where
    split : ys ≡ get_or x.members.words.now a 0 ∷ words x.members.words.now (a + 1) (b - 1)
    unfolding words
    split = ap (words x.members.words.now a) {x = b} {y = suc (b - 1)} (omega (arith, some e (omega arith) (omega arith)))

    all : All (ValueAt N (nodes_in x) x.states.words.now) (get_or x.members.words.now a 0 ∷ words x.members.words.now (a + 1) (b - 1))
    unfolding operands_with
    all = subst (All (ValueAt N (nodes_in x) x.states.words.now)) split (operands e).values

    pub first_value : ValueAt N (nodes_in x) x.states.words.now (get_or x.members.words.now a 0)
    first_value = all.0

    module _ {h : ℕ} (q : v (get_or x.members.words.now a 0) ≡ h) where
      pub rest_ready : EachReady N x h (a + 1) (b - 1)
      rest_ready = record {
        list = record { fields = p.operands.fields; backed = p.operands.backed; values = all.1 };
        inside = omega (arith, in_table e (omega arith) (omega arith), some e (omega arith) (omega arith));
        at_h = subst (ValidAt (nodes_in x) N) q first_value.at;
      }

      pub intersect_is : combine_on N x.states.words.now x.members.words.now i (nodes_in x) ≡ each (one N Spp.intersect x.states.words.now) (words x.members.words.now (a + 1) (b - 1)) h (nodes_in x)
      unfolding combine_by
      intersect_is =
          by e ∙ ap (λ (ys : List ℕ). meet_values N v ys (nodes_in x)) split
          ∙ ap (λ (h : ℕ). each (one N Spp.intersect x.states.words.now) (words x.members.words.now (a + 1) (b - 1)) h (nodes_in x)) q

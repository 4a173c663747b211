-- mk_sequence: what is not regrouped, or the end of x's chain and its first operands joined one by one. What is shown is of every depth from the nesting of x on.
use mathlib.Core.Path.{◌≡◌, refl, sym, ◌∙◌, ap, subst}
use mathlib.Core.Bool.{true, false}
use mathlib.Core.List.{List, [], ◌∷◌}
use Prim.Native.Nat.{ℕ, zero, suc, ◌+◌, ◌*◌, ◌≤◌, ◌<◌}
use native.Mathlib.Omega.{arith}
use lib.ListN.{length}
use Rattle.std.specs.Prelude.{Result, Ok, Err}
use Rattle.common.specs.Outcome.{Outcome, after, ◌>>=◌}
use Rattle.common.specs.Runs.{Table}
use Rattle.refusal.specs.declared.Refusal.{Refusal}
use Rattle.refusal.specs.Numbers.{outcome}
use Rattle.netkat.specs.Rules.{Join}
use Rattle.aut_steps.specs.Tables.{SEQUENCE, kind_of, op1, op2, nest, Limits, Aut}
use Rattle.aut_steps.specs.Kinds.{form}
use Rattle.aut_steps.specs.Constructors.{sequence_by, mk_sequence}
use Rattle.aut_steps.specs.Wf.{Two, ExtAut}
use Rattle.aut_steps.proofs.Wf.{ok_as, grown_refl, grown_trans, kind_grown, first_grown, second_grown, state_grown}
use Rattle.aut_steps.specs.StepSpec.{Gone}
use Rattle.aut_steps.proofs.StepSpec.{StepSpec, came}
use Rattle.aut_steps.proofs.Meaning as Meaning
use Rattle.aut_steps.specs.Meaning.{Holds}
use Rattle.aut_steps.proofs.SequenceLaws.{mk_sequence_goes}
use Rattle.aut_states.specs.Clauses.{limits_of}
use Rattle.aut_states.specs.declared.Config.{Config}
use Rattle.aut_relations.specs.declared.Aut.{Aut as Lent}
use Rattle.aut_relations.specs.Behind.{Modifies}
use Rattle.aut_relations.specs.Clauses.{Ready}
use Rattle.aut_relations.specs.Lent.{nodes_in, Keeps, Unless}
use Rattle.aut_relations.proofs.Behind.{left_refl, left_trans}
use Rattle.aut_relations.proofs.Order.{ready_after}
use Rattle.aut_sequence.specs.Clauses.{aut_with, SomeAsked, Makes, regroups, joined_of, Enough, Chain, top, below, Nested, Walks, Ends, Links}
use Rattle.aut_sequence.proofs.Ways.{at_any_depth, regrouped, no_sequence}
use Rattle.aut_sequence.proofs.Chain.{firsts, deeper, join_by, sequence_chain, chain_state, chain_lower, depth_at, nested_of, chain_grown, chain_back}

abbrev pub AskedOf : Config → Lent → ℕ → ℕ → Type 0
AskedOf k l x y = SomeAsked k l (x ∷ y ∷ [])

-- ---- a step that is not regrouped

module _ (k : Config) (x y : ℕ) {l m : Lent} {r : Result ℕ Refusal} where
  -- at any depth, and so at the nesting of x
  pub enough : regroups k.fields l.states.words.now x y ≡ false → Makes k.fields (joined_of k.fields (limits_of k.limits) x y) l r m → Enough k x y l r m
  enough e D depth le mem = at_any_depth k.fields (limits_of k.limits) x y (aut_with mem l) e depth ∙ (D mem).is

module _ (k : Config) (x y : ℕ) (l m : Lent) (r : Result ℕ Refusal) where
  pub as_mk : Enough k x y l r m → Unless r (Modifies k.fields 0 0 (nodes_in m) l.scratch.now m.scratch.now) → Makes k.fields (mk_sequence k.fields (limits_of k.limits) x y) l r m
  unfolding mk_sequence
  as_mk f p mem = record { is = f (nest l.states.words.now x) (omega arith) mem; left = p }

-- ---- the loop: what comes after u on x's chain is joined, e is to be joined in front of z

-- the tables are in order with the members mem
abbrev pub InOrder : Config → Table → Lent → Type 0
InOrder k mem l = Ready k.fields k.limits (aut_with mem l) l.scratch.now

pub record Turn (k : Config) (x y : ℕ) (l₀ l : Lent) (u e z : ℕ) : Type 0 where
  pub from : AskedOf k l₀ x y
  pub keeps : Keeps l₀ l
  pub same : l.members ≡ l₀.members
  -- whatever the members are with which they were in order
  pub ready : (mem : Table) → InOrder k mem l₀ → InOrder k mem l
  pub grown : (mem : Table) → InOrder k mem l₀ → ExtAut (aut_with mem l₀) (aut_with mem l)
  pub left : Modifies k.fields 0 0 (nodes_in l) l₀.scratch.now l.scratch.now
  pub chain : Chain l₀.states.words.now x u
  pub has_e : e < l₀.states.count
  pub last : kind_of l₀.states.words.now e ≡ SEQUENCE → ⊥
  pub has_z : z < l.states.count
  -- e is joined, and then what stands above u, as deep as it stands above it
  pub run : (p : Chain l₀.states.words.now x u) (at : ℕ) → nest l₀.states.words.now u ≤ at
      → (mem : Table) → sequence_by k.fields (limits_of k.limits) (deeper at (firsts p)) x y (aut_with mem l₀) ≡ (joined_of k.fields (limits_of k.limits) e z >>= join_by k.fields (limits_of k.limits) at (firsts p)) (aut_with mem l)

module _ {k : Config} {l : Lent} {x y : ℕ} (a : AskedOf k l x y) where
  pub walks : Walks l.states.words.now x
  walks = record { count = l.states.count; nested = nested_of a.ready.good; has = a.has.0 }

  pub begin : regroups k.fields l.states.words.now x y ≡ true → {e : ℕ} → Ends l.states.words.now x e → Keeps l l → Turn k x y l l e e y
  begin q {e} f keeps =
      let i = regrouped k.fields l.states.words.now x y q in
      record {
        from = a;
        keeps = keeps;
        same = refl;
        ready = λ mem R. R;
        grown = λ mem R. grown_refl (aut_with mem l);
        left = left_refl 0 0 (nodes_in l) l.scratch.now;
        chain = f.chain;
        has_e = chain_state (nested_of a.ready.good) a.has.0 f.chain;
        last = f.last;
        has_z = a.has.1.0;
        run = λ p at le mem. sequence_chain k.fields (limits_of k.limits) (aut_with mem l) x y i.no_one i.no_zero p at
            ∙ ap (λ (o : Outcome Aut ℕ). after o (join_by k.fields (limits_of k.limits) at (firsts p))) (at_any_depth k.fields (limits_of k.limits) e y (aut_with mem l) (no_sequence k.fields l.states.words.now e y f.last) at);
      }

module _ {k : Config} {x y : ℕ} {l₀ l : Lent} {u e z : ℕ} (v : Turn k x y l₀ l u e z) where
  abbrev N : ℕ
  N = k.fields

  abbrev L : Limits
  L = limits_of k.limits

  abbrev st₀ : List ℕ
  st₀ = l₀.states.words.now

  abbrev mem₀ : Table
  mem₀ = v.from.members

  nested : Nested st₀ l₀.states.count
  nested = nested_of v.from.ready.good

  has : x < l₀.states.count
  has = v.from.has.0

  grown₀ : ExtAut (aut_with mem₀ l₀) (aut_with mem₀ l)
  grown₀ = v.grown mem₀ v.from.ready

  has_e : e < l.states.count
  has_e = state_grown grown₀ v.has_e

  pub joined_ready : AskedOf k l e z
  joined_ready = record { members = mem₀; fields = v.keeps.spp.fields ∙ v.from.fields; ready = v.ready mem₀ v.from.ready; has = (has_e, (v.has_z, tt)) }

  -- what is joined is not regrouped, so it calls nothing
  pub call_last : regroups N l.states.words.now e z ≡ false
  call_last = no_sequence N l.states.words.now e z (λ q. v.last (sym (kind_grown grown₀ e v.has_e) ∙ q))

  module _ {l1 : Lent} {r : Result ℕ Refusal} (D : Makes N (joined_of N L e z) l r l1) where
    called : (at : ℕ) (es : List ℕ) (mem : Table) → (joined_of N L e z >>= join_by N L at es) (aut_with mem l) ≡ after (outcome (λ i. i) r (aut_with mem l1)) (join_by N L at es)
    called at es mem = ap (λ (o : Outcome Aut ℕ). after o (join_by N L at es)) (D mem).is

  module _ {l1 : Lent} {n : Refusal} (D : Makes N (joined_of N L e z) l (Err n) l1) where
    pub stuck : {r : Result ℕ Refusal} → r ≡ Err n → Enough k x y l₀ r l1
    stuck q depth le mem =
        let i = depth_at nested has v.chain depth le in
        ap (λ (d : ℕ). sequence_by N L d x y (aut_with mem l₀)) (sym i.is) ∙ v.run v.chain i.d i.enough mem ∙ called D i.d (firsts v.chain) mem ∙ ap (λ (r : Result ℕ Refusal). outcome (λ i. i) r (aut_with mem l1)) (sym q)

    pub stuck_all : {r : Result ℕ Refusal} → r ≡ Err n → Makes N (mk_sequence N L x y) l₀ r l1
    stuck_all {r} q = as_mk k x y l₀ l1 r (stuck q) (subst (λ (r : Result ℕ Refusal). Unless r (Modifies N 0 0 (nodes_in l1) l₀.scratch.now l1.scratch.now)) (sym q) tt)

  module _ {l1 : Lent} {z1 : ℕ} (D : Makes N (joined_of N L e z) l (Ok z1) l1) where
    module _ (mem : Table) (R : InOrder k mem l₀) where
      abbrev σ : Aut
      σ = aut_with mem l

      gone : Gone N L (Meaning.Is N (Join (Holds N σ e) (Holds N σ z))) σ (aut_with mem l1) z1
      gone = came (subst (StepSpec N L (Meaning.Is N (Join (Holds N σ e) (Holds N σ z))) σ) (as_mk k e z l l1 (Ok z1) (enough k e z call_last D) (D mem).left mem).is (mk_sequence_goes (v.ready mem R).good has_e v.has_z))

      grown_1 : ExtAut (aut_with mem l₀) (aut_with mem l1)
      grown_1 = grown_trans (v.grown mem R) gone.grown

      ready_1 : Keeps l l1 → InOrder k mem l1
      ready_1 keep = ready_after (v.ready mem R) gone.grown gone.good (D mem).left keep.scratch.length

    grown_2 : ExtAut (aut_with mem₀ l₀) (aut_with mem₀ l1)
    grown_2 = grown_1 mem₀ v.from.ready

    left_1 : Modifies N 0 0 (nodes_in l1) l₀.scratch.now l1.scratch.now
    left_1 = left_trans (gone mem₀ v.from.ready).grown.nodes v.left (D mem₀).left

    pub done : u ≡ x → Enough k x y l₀ (Ok z1) l1
    done q depth le mem =
        subst (λ (u : ℕ). (p : Chain st₀ x u) (at : ℕ) → nest st₀ u ≤ at → (mem : Table) → sequence_by N L (deeper at (firsts p)) x y (aut_with mem l₀) ≡ (joined_of N L e z >>= join_by N L at (firsts p)) (aut_with mem l)) q v.run top depth le mem
        ∙ called D depth [] mem

    pub done_all : u ≡ x → Makes N (mk_sequence N L x y) l₀ (Ok z1) l1
    done_all q = as_mk k x y l₀ l1 (Ok z1) (done q) left_1

    walks_1 : Walks l1.states.words.now x
    walks_1 = record { count = l1.states.count; nested = nested_of (gone mem₀ v.from.ready).good; has = state_grown grown_2 has }

    module _ (apart : u ≡ x → ⊥) where
      pub link_ready : Walks l1.states.words.now x × Chain l1.states.words.now x u × (x ≡ u → ⊥)
      link_ready = (walks_1, chain_grown nested grown_2 has v.chain, λ q. apart (sym q))

      module _ {w : ℕ} (i : Links l1.states.words.now x u w) where
        pub first_ready : 12 * w + 11 < length l1.states.words.now
        first_ready = walks_1.nested.inside w (chain_state walks_1.nested walks_1.has i.chain)

        chain_1 : Chain st₀ x w
        chain_1 = chain_back nested grown_2 has i.chain

        has_w : w < l₀.states.count
        has_w = chain_state nested has chain_1

        kind_w : kind_of st₀ w ≡ SEQUENCE
        kind_w = sym (kind_grown grown_2 w has_w) ∙ i.link

        next_w : u ≡ op2 st₀ w
        next_w = sym i.next ∙ second_grown grown_2 w has_w

        two : Two (aut_with mem₀ l₀) w
        unfolding form
        two = ok_as v.from.ready.good SEQUENCE has_w kind_w

        pub fewer : nest st₀ u < nest st₀ w × nest st₀ w ≤ nest st₀ x
        fewer = (omega (arith, two.nested, ap (nest st₀) next_w), chain_lower nested has chain_1)

        module _ {f : ℕ} (j : f ≡ op1 l1.states.words.now w) where
          first_w : op1 st₀ w ≡ f
          first_w = sym (first_grown grown_2 w has_w) ∙ sym j

          last_f : kind_of st₀ f ≡ SEQUENCE → ⊥
          last_f q = ((v.from.ready.good.made w has_w).sequence kind_w).regrouped (ap (kind_of st₀) first_w ∙ q)

          has_f : f < l₀.states.count
          has_f = omega (arith, two.earlier1, first_w, has_w)

          rest : (p : Chain st₀ x w) (at : ℕ) → nest st₀ w ≤ at → (mem : Table) → sequence_by N L (deeper at (firsts p)) x y (aut_with mem l₀) ≡ (joined_of N L f z1 >>= join_by N L at (firsts p)) (aut_with mem l1)
          rest p zero le mem = absurd (omega (arith, two.nested))
          rest p (suc at) le mem =
              subst (λ (u : ℕ). (p : Chain st₀ x u) (at : ℕ) → nest st₀ u ≤ at → (mem : Table) → sequence_by N L (deeper at (firsts p)) x y (aut_with mem l₀) ≡ (joined_of N L e z >>= join_by N L at (firsts p)) (aut_with mem l)) next_w v.run (below p kind_w) at (omega (arith, two.nested)) mem
              ∙ called D at (op1 st₀ w ∷ firsts p) mem
              ∙ ap (λ (f : ℕ). (sequence_by N L at f z1 >>= join_by N L (suc at) (firsts p)) (aut_with mem l1)) first_w
              ∙ ap (λ (o : Outcome Aut ℕ). after o (join_by N L (suc at) (firsts p)))
              (at_any_depth N L f z1 (aut_with mem l1) (no_sequence N l1.states.words.now f z1 (λ q. last_f (sym (kind_grown grown_2 f has_f) ∙ q))) at)

          pub again : Keeps l₀ l1 → l1.members ≡ l₀.members → Keeps l l1 → Turn k x y l₀ l1 w f z1
          again keeps same keep = record {
            from = v.from;
            keeps = keeps;
            same = same;
            ready = λ mem R. ready_1 mem R keep;
            grown = grown_1;
            left = left_1;
            chain = chain_1;
            has_e = has_f;
            last = last_f;
            has_z = (gone mem₀ v.from.ready).holds.state;
            run = rest;
          }

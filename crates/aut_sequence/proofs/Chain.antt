-- aut.rs's mk_sequence regroups (a; b); c as a; (b; c), and calls itself on the parts of the first operand. From a Sequence down along second operands: to join the end of the chain first, and then the first
-- operands from the last to the first, is the same run. And the functions that walk along a chain.
use mathlib.Core.Path.{◌≡◌, refl, sym, ◌∙◌, ap, subst}
use mathlib.Core.Bool.{false}
use mathlib.Core.List.{List, [], ◌∷◌}
use Prim.Native.Nat.{ℕ, zero, suc, ◌+◌, ◌*◌, ◌≤◌, ◌<◌}
use native.Mathlib.Omega.{arith}
use lib.ListN.{length}
use Rattle.common.specs.Outcome.{Outcome, refused, given, Step, return, after, ◌>>=◌}
use Rattle.aut_steps.specs.Relations as Rel
use Rattle.aut_steps.specs.Tables.{SEQUENCE, kind_of, op1, op2, nest, Limits, Aut}
use Rattle.aut_steps.specs.Kinds.{form}
use Rattle.aut_steps.specs.Constructors.{is_relation, sequence_with, sequence_by}
use Rattle.aut_steps.specs.Wf.{states, ExtAut, Two, WfAut}
use Rattle.aut_steps.proofs.Wf.{ok_as, kind_grown, second_grown}
use Rattle.aut_relations.proofs.Order.{in_table}
use Rattle.aut_sequence.specs.Clauses.{Chain, top, below, Nested, Walks, Ends, Links}

-- ---- the run

-- the first operands, the last first
abbrev pub firsts : {st : List ℕ} {x u : ℕ} → Chain st x u → List ℕ
firsts top = []
firsts {st} (below {w} p k) = op1 st w ∷ firsts p

-- d and one for each
abbrev pub deeper : ℕ → List ℕ → ℕ
deeper d [] = d
deeper d (e ∷ es) = deeper (suc d) es

module _ (N : ℕ) (L : Limits) where
  -- joined in front, one after another; each is called as deep as it stands above the end, and d deep there
  abbrev pub join_by : ℕ → List ℕ → ℕ → Step Aut ℕ
  join_by d [] z = return z
  join_by d (e ∷ es) z = sequence_by N L d e z >>= join_by (suc d) es

pub after_return : (o : Outcome Aut ℕ) → after o (λ z. return z) ≡ o
after_return (refused number) = refl
after_return (given τ z) = refl

after_after : (o : Outcome Aut ℕ) (f g : ℕ → Step Aut ℕ) → after (after o f) g ≡ after o (λ z. f z >>= g)
after_after (refused number) f g = refl
after_after (given τ z) f g = refl

module _ (N : ℕ) (L : Limits) (σ : Aut) (x y : ℕ) (no_one : is_relation σ.states.words y (Rel.one_at N) ≡ false) (no_zero : is_relation σ.states.words y (Rel.zero_at N) ≡ false) where
  pub sequence_chain : {u : ℕ} (p : Chain σ.states.words x u) (d : ℕ) → sequence_by N L (deeper d (firsts p)) x y σ ≡ (sequence_by N L d u y >>= join_by N L d (firsts p)) σ
  unfolding sequence_by sequence_with
  sequence_chain top d = sym (after_return (sequence_by N L d x y σ))
  sequence_chain (below {w} p k) d =
      let st : List ℕ = σ.states.words in
      let it : sequence_with N L (sequence_by N L d) w y σ ≡ (sequence_by N L d (op2 st w) y >>= sequence_by N L d (op1 st w)) σ = simp (k, no_one, no_zero) in
      sequence_chain p (suc d)
      ∙ ap (λ (o : Outcome Aut ℕ). after o (join_by N L (suc d) (firsts p))) it
      ∙ after_after (sequence_by N L d (op2 st w) y σ) (sequence_by N L d (op1 st w)) (join_by N L (suc d) (firsts p))

-- ---- what is on a chain

module _ {st : List ℕ} {count : ℕ} (n : Nested st count) {x : ℕ} (l : x < count) where
  pub chain_state : {u : ℕ} → Chain st x u → u < count
  chain_state top = l
  chain_state (below {w} p k) = (n.lower w (chain_state p) k).0

  pub chain_lower : {u : ℕ} → Chain st x u → nest st u ≤ nest st x
  chain_lower top = omega arith
  chain_lower (below {w} p k) = omega (arith, (n.lower w (chain_state p) k).1, chain_lower p)

  pub chain_apart : {u : ℕ} → Chain st x u → (u ≡ x → ⊥) → nest st u < nest st x
  chain_apart top q = absurd (q refl)
  chain_apart (below {w} p k) q = omega (arith, (n.lower w (chain_state p) k).1, chain_lower p)

  -- a depth that is enough for x is one that is enough for u, and one for each above it
  pub record Depth (es : List ℕ) (u depth : ℕ) : Type 0 where
    pub d : ℕ
    pub enough : nest st u ≤ d
    pub is : deeper d es ≡ depth

  pub depth_at : {u : ℕ} (p : Chain st x u) (depth : ℕ) → nest st x ≤ depth → Depth (firsts p) u depth
  depth_at top depth le = record { d = depth; enough = le; is = refl }
  depth_at (below {w} p k) depth le =
      let i = depth_at p depth le in
      go i.d i.is i.enough
    where
      go : (d : ℕ) → deeper d (firsts p) ≡ depth → nest st w ≤ d → Depth (op1 st w ∷ firsts p) (op2 st w) depth
      go zero q e = absurd (omega (arith, (n.lower w (chain_state p) k).1))
      go (suc d) q e = record { d = d; enough = omega (arith, (n.lower w (chain_state p) k).1); is = q }

-- the first step of a chain
pub data Top (st : List ℕ) (x u : ℕ) : Type 0 where
  here : x ≡ u → Top st x u
  there : kind_of st x ≡ SEQUENCE → Chain st (op2 st x) u → Top st x u

pub top_of : {st : List ℕ} {x u : ℕ} → Chain st x u → Top st x u
top_of top = here refl
top_of {st} {x} (below {w} p k) = go (top_of p)
  where
    go : Top st x w → Top st x (op2 st w)
    go (here e) = there (ap (kind_of st) e ∙ k) (subst (λ (v : ℕ). Chain st (op2 st x) (op2 st v)) e top)
    go (there h q) = there h (below q k)

-- ---- chain_end

pub record Walked (st : List ℕ) (x e : ℕ) : Type 0 where
  pub from : Walks st x
  pub chain : Chain st x e

pub walked : {st : List ℕ} {x : ℕ} → Walks st x → Walked st x x
walked w = record { from = w; chain = top }

module _ {st : List ℕ} {x e : ℕ} (v : Walked st x e) where
  pub walked_in : 12 * e + 11 < length st
  walked_in = v.from.nested.inside e (chain_state v.from.nested v.from.has v.chain)

  pub walked_end : {k : ℕ} → k ≡ kind_of st e → (k ≡ SEQUENCE → ⊥) → Ends st x e
  walked_end i n = record { chain = v.chain; last = λ q. n (i ∙ q) }

  module _ (k : kind_of st e ≡ SEQUENCE) {z : ℕ} (j : z ≡ op2 st e) where
    pub walked_on : Walked st x z
    walked_on = record { from = v.from; chain = subst (Chain st x) (sym j) (below v.chain k) }

    pub walked_less : nest st z < nest st e
    walked_less = subst (λ (z : ℕ). nest st z < nest st e) (sym j) (v.from.nested.lower e (chain_state v.from.nested v.from.has v.chain) k).1

-- ---- link_to

pub record Linked (st : List ℕ) (x u w : ℕ) : Type 0 where
  pub walked : Walked st x w
  pub chain : Chain st w u
  pub apart : w ≡ u → ⊥

pub linked : {st : List ℕ} {x u : ℕ} → Walks st x × Chain st x u × (x ≡ u → ⊥) → Linked st x u x
linked (w, p, q) = record { walked = walked w; chain = p; apart = q }

module _ {st : List ℕ} {x u w : ℕ} (v : Linked st x u w) where
  linked_kind : kind_of st w ≡ SEQUENCE
  linked_kind = go (top_of v.chain)
    where
      go : Top st w u → kind_of st w ≡ SEQUENCE
      go (here e) = absurd (v.apart e)
      go (there k q) = k

  linked_rest : Chain st (op2 st w) u
  linked_rest = go (top_of v.chain)
    where
      go : Top st w u → Chain st (op2 st w) u
      go (here e) = absurd (v.apart e)
      go (there k q) = q

  module _ {z : ℕ} (i : z ≡ op2 st w) where
    pub link_found : z ≡ u → Links st x u w
    link_found e = record { chain = v.walked.chain; link = linked_kind; next = sym i ∙ e }

    pub link_on : {y : ℕ} → y ≡ op2 st w → (y ≡ u → ⊥) → Linked st x u z
    link_on j n = record { walked = walked_on v.walked linked_kind i; chain = subst (λ (z : ℕ). Chain st z u) (sym i) linked_rest; apart = λ e. n (j ∙ sym i ∙ e) }

    pub link_less : nest st z < nest st w
    link_less = walked_less v.walked linked_kind i

-- ---- chains in tables in order, and in tables that have grown

pub nested_of : {N : ℕ} {L : Limits} {σ : Aut} → WfAut N L σ → Nested σ.states.words (states σ)
unfolding form
nested_of {σ} g = record {
  inside = λ x l. in_table g l;
  lower = λ x l k. let t : Two σ x = ok_as g SEQUENCE l k in (omega (arith, t.earlier2), omega (arith, t.nested));
}

module _ {σ τ : Aut} (n : Nested σ.states.words (states σ)) (g : ExtAut σ τ) {x : ℕ} (l : x < states σ) where
  pub chain_grown : {u : ℕ} → Chain σ.states.words x u → Chain τ.states.words x u
  chain_grown top = top
  chain_grown (below {w} p k) = let i = chain_state n l p in subst (Chain τ.states.words x) (second_grown g w i) (below (chain_grown p) (kind_grown g w i ∙ k))

  pub chain_back : {u : ℕ} → Chain τ.states.words x u → Chain σ.states.words x u
  chain_back top = top
  chain_back (below {w} p k) = let q = chain_back p in let i = chain_state n l q in subst (Chain σ.states.words x) (sym (second_grown g w i)) (below q (sym (kind_grown g w i) ∙ k))

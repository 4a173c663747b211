-- `epsilon` (aut_delta_steps' Epsilon) on longer tables: of a state among the first ones, whose operands are.
use mathlib.Core.Path.{◌≡◌}
use mathlib.Core.Bool.{true}
use mathlib.Core.List.{List, [], ◌∷◌}
use Prim.Native.Nat.{ℕ, zero, suc, ◌+◌, ◌-◌, ◌<◌}
use native.Mathlib.Omega.{arith}
use lib.Dec.{eqb, ltb}
use Rattle.common.specs.Outcome.{Step, ◌>>=◌}
use Rattle.common.specs.Runs.{Table}
use Rattle.spp_steps.specs.Model as Spp
use Rattle.aut_steps.specs.Relations as Rel
use Rattle.aut_steps.specs.Tables.{SPP, UNION, INTERSECT, XOR, DIFFERENCE, COMPLEMENT, SEQUENCE, STAR, UNTIL, TOP, kind_of, op1, op2, words, list_of, Limits, Aut, on_nodes}
use Rattle.aut_steps.specs.Wf.{states, WfAut}
use Rattle.aut_delta_steps.specs.Epsilon.{keep_epsilon, each_of, unite_all, meet_all, meet_first, epsilon_by_kind, epsilon_with, epsilon_by, epsilon}
use Rattle.book_longer.specs.Longer.{Longer, LongerAut, Follows, goes, Respects, EpsilonLonger}
use Rattle.book_longer.proofs.Follow.{follows_map, follows_value, follows_if, follows_case, along, reading, returns, bind}
use Rattle.book_longer.proofs.Words.{kinds, firsts, seconds, nests, epsilons, words_same}
use Rattle.book_longer.proofs.Relations.{apply_longer, complement_longer, sequence_longer, star_longer}
use Rattle.book_longer.proofs.Anchored.{Anchor, InAut, here, in_here, aut_longer}
use Rattle.book_longer.proofs.Constructors.{on_nodes_lem}
use Rattle.book_longer.proofs.Operands as Op
use Rattle.book_longer.proofs.Operands.{First, Second, Closed, closed_here, first_below, second_below, list_below, each_below, word_longer}

module _ {a : Anchor} where
  -- the members of a list's state
  pub list_same : {σ τ : Aut} → InAut a σ τ → (x : ℕ) → list_of σ.states.words σ.members.words x ≡ list_of τ.states.words τ.members.words x
  list_same r x = λ d. words_same r.members.words (firsts r.states.words d x) (seconds r.states.words d x) d

  keep_epsilon_longer : (x e : ℕ) → x < a.states → Respects (InAut a) (keep_epsilon x e)
  unfolding keep_epsilon
  keep_epsilon_longer x e l σ τ r = goes (record { nodes = r.nodes; states = word_longer x 4 (e + 1) l (omega arith) (omega arith) r.states; members = r.members })

  module _ (N : ℕ) where
    unite_all_longer : (es : List ℕ) (h : ℕ) → Respects (InAut a) (unite_all N es h)
    unfolding unite_all
    unite_all_longer [] h = returns h
    unite_all_longer (e ∷ es) h = bind (on_nodes_lem (apply_longer N N Spp.union h e)) (unite_all_longer es)

    meet_all_longer : (es : List ℕ) (h : ℕ) → Respects (InAut a) (meet_all N es h)
    unfolding meet_all
    meet_all_longer [] h = returns h
    meet_all_longer (e ∷ es) h = bind (on_nodes_lem (apply_longer N N Spp.intersect h e)) (meet_all_longer es)

    meet_first_longer : (es : List ℕ) → Respects (InAut a) (meet_first N es)
    meet_first_longer [] = returns (Rel.one_at N)
    meet_first_longer (e ∷ es) = meet_all_longer es e

    module _ (c : Closed a) {again : ℕ → Step Aut ℕ} (h : (x : ℕ) → x < a.states → Respects (InAut a) (again x)) {x : ℕ} (l : x < a.states) {σ τ : Aut} (r : InAut a σ τ) where
      -- two operands, then relations
      both_longer : {k : ℕ} {f : ℕ → ℕ → Step Table ℕ} → ((a b : ℕ) → Respects Longer (f a b)) → First k → Second k → eqb (kind_of σ.states.words x) k ≡ true
          → Follows (InAut a) ((again (op1 σ.states.words x) >>= λ a. again (op2 σ.states.words x) >>= λ b. on_nodes (f a b)) σ) ((again (op1 τ.states.words x) >>= λ a. again (op2 τ.states.words x) >>= λ b. on_nodes (f a b)) τ)
      both_longer {f = f} g p q e =
          let w = r.states.words in
          along (λ d. again (firsts w d x) >>= λ a. again (seconds w d x) >>= λ b. on_nodes (f a b))
          (bind (h _ (first_below c r l p e)) (λ a. bind (h _ (second_below c r l q e)) (λ b. on_nodes_lem (g a b)))) σ τ r

      one_longer : {k : ℕ} {f : ℕ → Step Table ℕ} → ((a : ℕ) → Respects Longer (f a)) → First k → eqb (kind_of σ.states.words x) k ≡ true
          → Follows (InAut a) ((again (op1 σ.states.words x) >>= λ a. on_nodes (f a)) σ) ((again (op1 τ.states.words x) >>= λ a. on_nodes (f a)) τ)
      one_longer {f = f} g p e =
          let w = r.states.words in
          along (λ d. again (firsts w d x) >>= λ a. on_nodes (f a)) (bind (h _ (first_below c r l p e)) (λ a. on_nodes_lem (g a))) σ τ r

      epsilon_by_kind_longer : Follows (InAut a) (epsilon_by_kind N again x σ) (epsilon_by_kind N again x τ)
      unfolding epsilon_by_kind
      epsilon_by_kind_longer =
          let w = r.states.words in
          follows_case (λ d. eqb (kinds w d x) UNION)
          (λ e. along (λ d. each_of again (list_same r x d) >>= λ es. unite_all N es (Rel.zero_at N)) (bind (each_below h _ (list_below c r l Op.union e)) (λ es. unite_all_longer es (Rel.zero_at N))) σ τ r)
          (λ _. follows_case (λ d. eqb (kinds w d x) INTERSECT)
          (λ e. along (λ d. each_of again (list_same r x d) >>= meet_first N) (bind (each_below h _ (list_below c r l Op.intersect e)) meet_first_longer) σ τ r)
          (λ _. follows_case (λ d. eqb (kinds w d x) XOR) (both_longer (apply_longer N N Spp.xor) Op.xor Op.xor₂)
          (λ _. follows_case (λ d. eqb (kinds w d x) DIFFERENCE) (both_longer (apply_longer N N Spp.difference) Op.difference Op.difference₂)
          (λ _. follows_case (λ d. eqb (kinds w d x) COMPLEMENT) (one_longer (complement_longer N N) Op.complement)
          (λ _. follows_case (λ d. eqb (kinds w d x) SEQUENCE) (both_longer (sequence_longer N N) Op.sequence Op.sequence₂)
          (λ _. follows_case (λ d. eqb (kinds w d x) STAR) (one_longer (star_longer N N) Op.star)
          (λ _. follows_case (λ d. eqb (kinds w d x) UNTIL) (λ e. along (λ d. again (seconds w d x)) (h _ (second_below c r l Op.until₂ e)) σ τ r)
          (λ _. follows_if (λ d. eqb (kinds w d x) TOP) (goes r) (goes r)))))))))

    module _ (c : Closed a) where
      epsilon_with_longer : {again : ℕ → Step Aut ℕ} → ((x : ℕ) → x < a.states → Respects (InAut a) (again x)) → (x : ℕ) → x < a.states → Respects (InAut a) (epsilon_with N again x)
      unfolding epsilon_with
      epsilon_with_longer h x l σ τ r =
          let w = r.states.words in
          follows_if (λ d. eqb (kinds w d x) SPP) (follows_value r (λ d. firsts w d x))
          (follows_if (λ d. ltb 0 (epsilons w d x)) (follows_value r (λ d. epsilons w d x - 1)) (bind (λ σ τ r. epsilon_by_kind_longer c h l r) (λ e. keep_epsilon_longer x e l) σ τ r))

      epsilon_by_longer : (depth x : ℕ) → x < a.states → Respects (InAut a) (epsilon_by N depth x)
      unfolding epsilon_by
      epsilon_by_longer zero x l = epsilon_with_longer (λ y m. returns y) x l
      epsilon_by_longer (suc depth) x l = epsilon_with_longer (epsilon_by_longer depth) x l

      pub epsilon_longer : (x : ℕ) → x < a.states → Respects (InAut a) (epsilon N x)
      unfolding epsilon
      epsilon_longer x l σ τ r = reading (λ depth. epsilon_by_longer depth x l) (λ d. nests r.states.words d x) σ τ r

-- ---- from tables in order

pub epsilon_follows : {N : ℕ} {L : Limits} {σ τ : Aut} {x : ℕ} → WfAut N L σ → x < states σ → LongerAut σ τ → Follows LongerAut (epsilon N x σ) (epsilon N x τ)
epsilon_follows {N} {σ = σ} {τ = τ} {x = x} g l r = follows_map (λ s t p. aut_longer p) (epsilon_longer {a = here σ} N (closed_here g) x l σ τ (in_here g.fits r))

pub epsilon_stated : (N : ℕ) (L : Limits) → EpsilonLonger N L
epsilon_stated N L σ τ x g l r = epsilon_follows g l r

-- What holds of the definitions of specs/Explored.
use Rattle.std.specs.Prelude.{if◌then◌else◌}
use mathlib.Core.Path.{◌≡◌, refl, sym, ◌∙◌, ap, subst}
use mathlib.Core.Logic.{◌⊎◌, inl, inr, ⊎_elim}
use mathlib.Core.Bool.{Bool, true, ◌||◌}
use mathlib.Core.List.Memᴰ
use mathlib.Core.List.{List, [], ◌∷◌, ◌++◌, Memᴰ}
use Prim.Native.Nat.{ℕ, zero, suc, ◌+◌, ◌≤◌, ◌<◌}
use native.Mathlib.Omega.{arith}
use lib.Dec.{eqb, ltb}
use lib.ListN.{length, length-append}
use borrow.Author.Tests.{eqb-true, eqb-false, ltb-true, ltb-false}
use Rattle.common.specs.Packets.{Packet, Relation, any}
use Rattle.common.specs.Relations.{starts}
use Rattle.common.proofs.RelationLaws.{starts_of, starts_to}
use Rattle.common.specs.Outcome.{given, Gives}
use Rattle.common.specs.Runs.{Table}
use Rattle.netkat.specs.Rules.{Rule, Language}
use Rattle.netkat.specs.Derivatives as Derivatives
use Rattle.netkat.specs.Hops.{IsEpsilon}
use Rattle.netkat_steps.specs.ListSteps.{Edge, Are, IsList}
use Rattle.netkat.proofs.Laws.Derivatives.{epsilon_true}
use Rattle.sp_steps.specs.Wf as SpLaws
use Rattle.sp_steps.proofs.Laws as SpLawsProofs
use Rattle.spp_steps.proofs.Laws.{by_test, false_true}
use Rattle.spp_steps.proofs.Relations.{tests_equal}
use Rattle.spp_steps.proofs.Images.{bwd_exact}
use Rattle.aut_steps.specs.Tables.{Limits, Aut}
use Rattle.aut_steps.specs.Wf.{states}
use Rattle.aut_steps.proofs.Wf.{state_grown}
use Rattle.aut_steps.specs.Meaning.{Holds, rule}
use Rattle.aut_steps.proofs.Meaning.{rule_grown}
use Rattle.aut_delta_steps.specs.Delta.{Store}
use Rattle.aut_delta_steps.specs.Fits.{tables as readings}
use Rattle.aut_delta_steps.specs.Wf.{Means, HasEpsilon, WfStore, Stored}
use Rattle.aut_delta_steps.proofs.Wf.{has_epsilon_grown, same_list}
use Rattle.aut_delta_steps.specs.Extends.{ExtStore}
use Rattle.aut_query_steps.specs.Tables.{Tables, diagrams, WfTables}
use Rattle.aut_query_steps.proofs.Tables.{both_wf, Gone}
use Rattle.aut_query_steps.specs.Search.{capacity}
use Rattle.aut_query_steps.proofs.Steps.{gone_refl, gone_trans, no_entry, stopped_here, Ends, halts, comes, Steps, ends_map, ends_bind, ends_call, ends_with, ends_branch, ends_same, images_step, epsilon_ends, epsilon_kept, delta_ends}
use Rattle.aut_query_steps.specs.Live.{live_at, Found, found, Visit, enqueue, asks, visit, explore}
use Rattle.aut_query_steps.specs.Explored.{Linked}

-- ---- lists of states

pub any_mem : (s : ℕ) (l : List ℕ) → any (eqb s) l ≡ true → Memᴰ s l
any_mem s [] e = absurd (false_true e)
any_mem s (x ∷ xs) e =
    by_test (eqb s x)
    (λ t. Memᴰ.head (eqb-true s x t))
    (λ t. Memᴰ.tail (any_mem s xs (ap (λ (b : Bool). b || any (eqb s) xs) (sym t) ∙ e)))

widen : {s : ℕ} (visited : List ℕ) {waiting waiting' : List ℕ} → ((s : ℕ) → Memᴰ s waiting → Memᴰ s waiting') → Memᴰ s (visited ++ waiting) → Memᴰ s (visited ++ waiting')
widen {s} visited {waiting} {waiting'} f m = ⊎_elim (λ k. Memᴰ.append_left waiting' k) (λ k. Memᴰ.append_right visited (f s k)) (Memᴰ.append_cases visited m)

-- the list has gone behind the states
pub record Queued (room : ℕ) (list : List Edge) (visited waiting waiting' : List ℕ) : Type 0 where
  pub has : (s : ℕ) → Memᴰ s waiting → Memᴰ s waiting'
  pub all : (e : Edge) → Memᴰ e list → Memᴰ e.target (visited ++ waiting')
  pub only : (s : ℕ) → Memᴰ s waiting' → Memᴰ s waiting ⊎ ((e : Edge) × Memᴰ e list × (s ≡ e.target))
  pub fits : length (visited ++ waiting) ≤ room → length (visited ++ waiting') ≤ room

module _ (room : ℕ) (visited : List ℕ) where
  queued_there : {e : Edge} {es : List Edge} {waiting w : List ℕ} → Memᴰ e.target (visited ++ waiting) → Queued room es visited waiting w → Queued room (e ∷ es) visited waiting w
  queued_there {e} {es} {waiting} {w} m Q = record {
    has = Q.has;
    all = λ g k. ⊎_elim (λ q. subst (λ (g : Edge). Memᴰ g.target (visited ++ w)) (sym q) (widen visited Q.has m)) (λ k. Q.all g k) (Memᴰ.cases_cons k);
    only = λ s k. ⊎_elim (λ n. inl n) (λ n. inr (n.0, Memᴰ.tail n.1, n.2)) (Q.only s k);
    fits = Q.fits;
  }

  queued_new : {e : Edge} {es : List Edge} {waiting w : List ℕ} → length (visited ++ waiting) < room → Queued room es visited (waiting ++ e.target ∷ []) w → Queued room (e ∷ es) visited waiting w
  queued_new {e} {es} {waiting} {w} l Q = record {
    has = λ s k. Q.has s (Memᴰ.append_left (e.target ∷ []) k);
    all = λ g k. ⊎_elim
        (λ q. subst (λ (g : Edge). Memᴰ g.target (visited ++ w)) (sym q) (Memᴰ.append_right visited (Q.has e.target (Memᴰ.append_right waiting (Memᴰ.head refl)))))
        (λ k. Q.all g k) (Memᴰ.cases_cons k);
    only = λ s k. ⊎_elim (λ n. first s (Memᴰ.append_cases waiting n)) (λ n. inr (n.0, Memᴰ.tail n.1, n.2)) (Q.only s k);
    fits = λ m. Q.fits (omega (arith, length-append visited waiting, length-append visited (waiting ++ e.target ∷ []), length-append waiting (e.target ∷ [])));
  }
    where
      first : (s : ℕ) → Memᴰ s waiting ⊎ Memᴰ s (e.target ∷ []) → Memᴰ s waiting ⊎ ((g : Edge) × Memᴰ g (e ∷ es) × (s ≡ g.target))
      first s (inl m) = inl m
      first s (inr m) = inr (e, Memᴰ.head refl, ⊎_elim (λ q. q) (λ n. absurd (Memᴰ.not-nil n)) (Memᴰ.cases_cons m))

module _ {N : ℕ} {L : Limits} (lent : ℕ) (visited : List ℕ) {σ : Tables} (o : WfTables N L σ) where
  -- it is refused only if all entries are taken
  pub enqueue_ends : (list : List Edge) (waiting : List ℕ) → ((s : ℕ) → Memᴰ s (visited ++ waiting) → s < states σ.base.aut) → ((e : Edge) → Memᴰ e list → e.target < states σ.base.aut)
      → Ends N L lent (λ τ w. (τ ≡ σ) × Queued (capacity lent) list visited waiting w) σ (enqueue (capacity lent) list visited waiting σ)
  unfolding enqueue
  enqueue_ends [] waiting f g = comes (refl, record { has = λ s m. m; all = λ e m. absurd (Memᴰ.not-nil m); only = λ s m. inl m; fits = λ l. l })
  enqueue_ends (e ∷ es) waiting f g =
      ends_branch (any (eqb e.target) (visited ++ waiting)) _ _ σ
      (λ t. ends_map (λ τ w Q. (Q.0, queued_there (capacity lent) visited (any_mem e.target (visited ++ waiting) t) Q.1)) (enqueue_ends es waiting f (λ d m. g d (Memᴰ.tail m))))
      (λ _. ends_branch (ltb (length (visited ++ waiting)) (capacity lent)) _ _ σ
      (λ t. ends_map (λ τ w Q. (Q.0, queued_new (capacity lent) visited (ltb-true (length (visited ++ waiting)) (capacity lent) t) Q.1)) (enqueue_ends es (waiting ++ e.target ∷ []) more (λ d m. g d (Memᴰ.tail m))))
      (λ t. halts (stopped_here o (no_entry (visited ++ waiting) f (ltb-false (length (visited ++ waiting)) (capacity lent) t)))))
    where
      more : (s : ℕ) → Memᴰ s (visited ++ (waiting ++ e.target ∷ [])) → s < states σ.base.aut
      more s m = ⊎_elim (λ k. f s (Memᴰ.append_left waiting k)) (λ k. ⊎_elim
          (λ k. f s (Memᴰ.append_right visited k))
          (λ k. ⊎_elim (λ q. subst (λ (s : ℕ). s < states σ.base.aut) (sym q) (g e (Memᴰ.head refl))) (λ n. absurd (Memᴰ.not-nil n)) (Memᴰ.cases_cons k))
          (Memᴰ.append_cases waiting k)) (Memᴰ.append_cases visited m)

-- ---- the starts of a state's strings without hops

abbrev pub ends : (N : ℕ) → Aut → ℕ → Relation N
ends N a s = Derivatives.epsilon (rule N a s)

pub ends_are : (N : ℕ) (a : Aut) (s : ℕ) → IsEpsilon (ends N a s) (Holds N a s)
ends_are N a s = epsilon_true (rule N a s)

starts_same : {N : ℕ} {A : Language N} {R S : Relation N} → IsEpsilon R A → IsEpsilon S A → (p : Packet N) → starts R p ≡ starts S p
starts_same {R = R} {S = S} i j p =
    tests_equal (starts R p) (starts S p)
    (λ t. let (z, u) = starts_to R p t in starts_of S p z ((j.ends p z).0 ((i.ends p z).1 u)))
    (λ t. let (z, u) = starts_to S p t in starts_of R p z ((i.ends p z).0 ((j.ends p z).1 u)))

-- the targets of a list are known
pub targets_known : {N : ℕ} {L : Limits} {a : Aut} {es : List Edge} {A : Language N} → IsList (readings N L) A a es → (e : Edge) → Memᴰ e es → e.target < states a
targets_known {N} {L} {a} i e m = go i.are m
  where
    go : {es : List Edge} {list : List _} → Are (readings N L) a es list → Memᴰ e es → e.target < states a
    go Are.none m = absurd (Memᴰ.not-nil m)
    go (Are.also {s} {l} k d as') m = ⊎_elim (λ q. omega (arith, ap (λ (e : Edge). e.target) q)) (λ n. go as' n) (Memᴰ.cases_cons m)

linked_went : {N : ℕ} {L : Limits} {b c : Store} {all all' : List ℕ} {s : ℕ} → WfStore N L b → ExtStore b c → ((s : ℕ) → Memᴰ s all → Memᴰ s all') → Linked b all s → Linked c all' s
linked_went {c = c} {s = s} W w f k = record {
  known = state_grown w.grown k.known;
  has_epsilon = has_epsilon_grown w.grown k.known (w.epsilons s) k.has_epsilon;
  marked = omega (arith, (w.lists s k.marked).0, k.marked);
  leads = λ e m. f e.target (k.leads e (subst (Memᴰ e) (same_list c W.lists w.transitions s k.known k.marked (w.lists s k.marked)) m));
}

-- what holds between two visits
pub record Exploring (N : ℕ) (L : Limits) (room : ℕ) (σ : Tables) (visited waiting : List ℕ) (live : ℕ → ℕ) : Type 0 where
  pub ordered : WfTables N L σ
  pub links : (s : ℕ) → Memᴰ s visited → Linked σ.base (visited ++ waiting) s
  pub sets : (s : ℕ) → Memᴰ s visited → SpLaws.Denotes σ.sets N (live s) (starts (ends N σ.base.aut s))
  pub known : (s : ℕ) → Memᴰ s waiting → s < states σ.base.aut
  pub some : (t : ℕ) → SpLaws.ValidAt σ.sets N (live t)
  pub fits : length (visited ++ waiting) ≤ room

-- what the walk that began with the states `first` comes to
pub record Explored (N : ℕ) (L : Limits) (room : ℕ) (first : List ℕ) (σ τ : Tables) (f : Found) : Type 0 where
  pub gone : Gone σ τ
  pub ordered : WfTables N L τ
  pub has : (s : ℕ) → Memᴰ s first → Memᴰ s f.states
  pub links : (s : ℕ) → Memᴰ s f.states → Linked τ.base f.states s
  pub sets : (s : ℕ) → Memᴰ s f.states → SpLaws.Denotes τ.sets N (f.live s) (starts (ends N τ.base.aut s))
  pub some : (t : ℕ) → SpLaws.ValidAt τ.sets N (f.live t)
  pub fits : length f.states ≤ room

module _ {N : ℕ} {L : Limits} where
  -- the strings of a state are the same in later tables
  ends_set : {σ τ : Tables} {t : Table} {s h : ℕ} → WfTables N L σ → Gone σ τ → s < states σ.base.aut → SpLaws.Denotes t N h (starts (ends N σ.base.aut s)) → SpLaws.Denotes t N h (starts (ends N τ.base.aut s))
  ends_set {t = t} {s = s} {h = h} o g k d = subst (λ (r : Rule N). SpLaws.Denotes t N h (starts (Derivatives.epsilon r))) (sym (rule_grown o.worked.good g.went.grown k)) d

  module _ (lent : ℕ) where
    -- no state waits
    explored : {σ : Tables} {visited : List ℕ} {live : ℕ → ℕ} → Exploring N L (capacity lent) σ visited [] live → Explored N L (capacity lent) (visited ++ []) σ σ (found visited live)
    explored {σ} {visited} E = record {
      gone = gone_refl σ;
      ordered = E.ordered;
      has = λ s m. drop s m;
      links = λ s m. let k = E.links s m in record { known = k.known; has_epsilon = k.has_epsilon; marked = k.marked; leads = λ e n. drop e.target (k.leads e n) };
      sets = E.sets;
      some = E.some;
      fits = omega (arith, E.fits, length-append visited []);
    }
      where
        drop : (s : ℕ) → Memᴰ s (visited ++ []) → Memᴰ s visited
        drop s m = ⊎_elim (λ k. k) (λ k. absurd (Memᴰ.not-nil k)) (Memᴰ.append_cases visited m)

    -- ---- a visit

    module _ {σ : Tables} {visited waiting : List ℕ} {s : ℕ} {live : ℕ → ℕ} (E : Exploring N L (capacity lent) σ visited (s ∷ waiting) live) where
      k : s < states σ.base.aut
      k = E.known s (Memᴰ.head refl)

      kept : Gives (λ τ e. HasEpsilon τ.base.aut s) (asks N s σ)
      kept = epsilon_kept E.ordered k

      -- the states go on
      onward : (waiting' : List ℕ) {list : List Edge} → Queued (capacity lent) list (visited ++ s ∷ []) waiting waiting' → (t : ℕ) → Memᴰ t (visited ++ s ∷ waiting) → Memᴰ t ((visited ++ s ∷ []) ++ waiting')
      onward waiting' Q t m = ⊎_elim
          (λ k. Memᴰ.append_left waiting' (Memᴰ.append_left (s ∷ []) k))
          (λ k. ⊎_elim (λ q. Memᴰ.append_left waiting' (Memᴰ.append_right visited (Memᴰ.head q))) (λ k. Memᴰ.append_right (visited ++ s ∷ []) (Q.has t k)) (Memᴰ.cases_cons k))
          (Memᴰ.append_cases visited m)

      -- all states are known
      all_known : (t : ℕ) → Memᴰ t ((visited ++ s ∷ []) ++ waiting) → t < states σ.base.aut
      all_known t m = ⊎_elim
          (λ n. ⊎_elim (λ n. (E.links t n).known) (λ n. ⊎_elim (λ q. subst (λ (t : ℕ). t < states σ.base.aut) (sym q) k) (λ n. absurd (Memᴰ.not-nil n)) (Memᴰ.cases_cons n)) (Memᴰ.append_cases visited n))
          (λ n. E.known t (Memᴰ.tail n))
          (Memᴰ.append_cases (visited ++ s ∷ []) m)

      module _ (σ₁ σ₂ σ₃ : Tables) (e h : ℕ) (list : List Edge) (waiting' : List ℕ)
          (A : Steps N L (λ τ e. Means N τ.base.aut.nodes e (Holds N σ.base.aut s)) σ σ₁ e) (J : HasEpsilon σ₁.base.aut s)
          (B : Steps N L (λ τ h. (τ.base ≡ σ₁.base) × SpLaws.Denotes τ.sets N h (starts A.holds.relation)) σ₁ σ₂ h)
          (D : Steps N L (λ τ es. Stored τ.base s es × IsList (readings N L) (Holds N σ₂.base.aut s) τ.base.aut es) σ₂ σ₃ list)
          (Q : Queued (capacity lent) list (visited ++ s ∷ []) waiting waiting')
        where
          g : Gone σ σ₃
          g = gone_trans (gone_trans A.gone B.gone) D.gone

          here : Linked σ₃.base ((visited ++ s ∷ []) ++ waiting') s
          here = record {
            known = state_grown g.went.grown k;
            has_epsilon = let w = (gone_trans B.gone D.gone).went in has_epsilon_grown w.grown (state_grown A.gone.went.grown k) (w.epsilons s) J;
            marked = D.holds.0.marked;
            leads = λ e m. Q.all e (subst (Memᴰ e) D.holds.0.reads m);
          }

          before : (t : ℕ) → (s ≡ t → ⊥) → Memᴰ t (visited ++ s ∷ []) → Memᴰ t visited
          before t n m = ⊎_elim (λ k. k) (λ k. ⊎_elim (λ q. absurd (n (sym q))) (λ j. absurd (Memᴰ.not-nil j)) (Memᴰ.cases_cons k)) (Memᴰ.append_cases visited m)

          set : SpLaws.Denotes σ₃.sets N h (starts (ends N σ₃.base.aut s))
          set = ends_set E.ordered g k (SpLawsProofs.den_map (starts_same A.holds.is (ends_are N σ.base.aut s)) (SpLawsProofs.den_ext D.gone.sets B.holds.1))

          set_here : (t : ℕ) → s ≡ t → eqb s t ≡ true → SpLaws.Denotes σ₃.sets N (live_at s h live t) (starts (ends N σ₃.base.aut t))
          set_here t q b =
              subst (λ (v : ℕ). SpLaws.Denotes σ₃.sets N v (starts (ends N σ₃.base.aut t))) (sym (ap (λ (b : Bool). if b then h else live t) b))
              (subst (λ (t : ℕ). SpLaws.Denotes σ₃.sets N h (starts (ends N σ₃.base.aut t))) q set)

          next : Exploring N L (capacity lent) σ₃ (visited ++ s ∷ []) waiting' (live_at s h live)
          next = record {
            ordered = D.ordered;
            links = λ t m. ⊎_elim
                (λ n. linked_went E.ordered.worked g.went (onward waiting' Q) (E.links t n))
                (λ n. ⊎_elim (λ q. subst (Linked σ₃.base ((visited ++ s ∷ []) ++ waiting')) (sym q) here) (λ n. absurd (Memᴰ.not-nil n)) (Memᴰ.cases_cons n))
                (Memᴰ.append_cases visited m);
            sets = λ t m. by_test (eqb s t)
                (λ q. set_here t (eqb-true s t q) q)
                (λ q. subst (λ (v : ℕ). SpLaws.Denotes σ₃.sets N v (starts (ends N σ₃.base.aut t))) (sym (ap (λ (b : Bool). if b then h else live t) q))
                (ends_set E.ordered g (E.links t (before t (eqb-false s t q) m)).known (SpLawsProofs.den_ext g.sets (E.sets t (before t (eqb-false s t q) m)))));
            known = λ t m. ⊎_elim
                (λ n. state_grown g.went.grown (E.known t (Memᴰ.tail n)))
                (λ n. subst (λ (t : ℕ). t < states σ₃.base.aut) (sym n.2) (targets_known D.holds.1 n.0 n.1))
                (Q.only t m);
            some = λ t. by_test (eqb s t)
                (λ q. subst (SpLaws.ValidAt σ₃.sets N) (sym (ap (λ (b : Bool). if b then h else live t) q)) (SpLawsProofs.at_ext D.gone.sets N h B.holds.1.at))
                (λ q. subst (SpLaws.ValidAt σ₃.sets N) (sym (ap (λ (b : Bool). if b then h else live t) q)) (SpLawsProofs.at_ext g.sets N (live t) (E.some t)));
            fits = Q.fits (omega (arith, E.fits, length-append visited (s ∷ waiting), length-append (visited ++ s ∷ []) waiting, length-append visited (s ∷ [])));
          }

      -- what a visit comes to
      pub record VisitedTo (τ : Tables) (v : Visit) : Type 0 where
        pub gone : Gone σ τ
        pub next : Exploring N L (capacity lent) τ (visited ++ s ∷ []) v.waiting (live_at s v.ends live)
        pub onward : (t : ℕ) → Memᴰ t (visited ++ s ∷ waiting) → Memᴰ t ((visited ++ s ∷ []) ++ v.waiting)

      pub visit_ends : Ends N L lent VisitedTo σ (visit N L lent s visited waiting σ)
      visit_ends =
          ends_bind (ends_with (epsilon_ends E.ordered k) kept) (λ σ₁ e (A, J). (
            A.gone,
            ends_call (images_step A.ordered (λ t h. SpLaws.Denotes t N h (starts A.holds.relation)) (bwd_exact N N (omega arith) (diagrams σ₁) e A.holds.relation (both_wf A.ordered) A.holds.den)) (λ σ₂ h B.
                let g₂ = gone_trans A.gone B.gone in
                ends_call (delta_ends B.ordered (state_grown g₂.went.grown k)) (λ σ₃ list D.
                ends_bind (enqueue_ends lent (visited ++ s ∷ []) D.ordered list waiting (λ t m. state_grown (gone_trans g₂ D.gone).went.grown (all_known t m)) (targets_known D.holds.1)) (λ σ₄ waiting' Q. (
                  subst (λ (υ : Tables). Gone σ₃ υ) (sym Q.0) (gone_refl σ₃),
                  subst (λ (υ : Tables). Ends N L lent VisitedTo υ (given υ (record { ends = h; waiting = waiting' }))) (sym Q.0)
                      (comes (record { gone = gone_trans g₂ D.gone; next = next σ₁ σ₂ σ₃ e h list waiting' A J B D Q.1; onward = onward waiting' Q.1 })),
                )))),
          ))

    -- ---- all visits

    explored_from : {σ τ υ : Tables} {first later : List ℕ} {f : Found} → Gone σ τ → ((t : ℕ) → Memᴰ t first → Memᴰ t later) → Explored N L (capacity lent) later τ υ f → Explored N L (capacity lent) first σ υ f
    explored_from g h X = record { gone = gone_trans g X.gone; ordered = X.ordered; has = λ t m. X.has t (h t m); links = X.links; sets = X.sets; some = X.some; fits = X.fits }

    pub explore_ends : (most : ℕ) (visited waiting : List ℕ) (live : ℕ → ℕ) {σ : Tables} → Exploring N L (capacity lent) σ visited waiting live → capacity lent ≤ most + length visited
        → Ends N L lent (Explored N L (capacity lent) (visited ++ waiting) σ) σ (explore N L lent most visited waiting live σ)
    unfolding explore
    explore_ends zero visited [] live E l = comes (explored E)
    explore_ends zero visited (s ∷ waiting) live E l = absurd (omega (arith, E.fits, length-append visited (s ∷ waiting)))
    explore_ends (suc most) visited [] live E l = comes (explored E)
    explore_ends (suc most) visited (s ∷ waiting) live {σ} E l =
        ends_bind (visit_ends E) (λ τ v Z. (
          Z.gone,
          ends_map (λ υ f X. explored_from Z.gone Z.onward X)
              (explore_ends most (visited ++ s ∷ []) v.waiting (live_at s v.ends live) Z.next (omega (arith, l, length-append visited (s ∷ [])))),
        ))

    -- more visits change nothing: the bound cuts nothing off
    pub explore_more : (most more : ℕ) (visited waiting : List ℕ) (live : ℕ → ℕ) {σ : Tables} → Exploring N L (capacity lent) σ visited waiting live → capacity lent ≤ most + length visited → capacity lent ≤ more + length visited
        → explore N L lent most visited waiting live σ ≡ explore N L lent more visited waiting live σ
    unfolding explore
    explore_more zero zero visited waiting live E l m = refl
    explore_more zero (suc more) visited [] live E l m = refl
    explore_more (suc most) zero visited [] live E l m = refl
    explore_more (suc most) (suc more) visited [] live E l m = refl
    explore_more zero (suc more) visited (s ∷ waiting) live E l m = absurd (omega (arith, E.fits, length-append visited (s ∷ waiting)))
    explore_more (suc most) zero visited (s ∷ waiting) live E l m = absurd (omega (arith, E.fits, length-append visited (s ∷ waiting)))
    explore_more (suc most) (suc more) visited (s ∷ waiting) live {σ} E l m =
        ends_same (visit_ends E) (λ τ v Z. explore_more most more (visited ++ s ∷ []) v.waiting (live_at s v.ends live) Z.next (omega (arith, l, length-append visited (s ∷ []))) (omega (arith, m, length-append visited (s ∷ []))))

-- `live_packets`, the work list: once it is empty the sets are the live sets of the states reached. It becomes empty: each time a state is put on it, a set has grown by a packet.
use Rattle.std.specs.Prelude.{if◌then◌else◌}
use mathlib.Core.Path.{◌≡◌, refl, sym, ◌∙◌, ap, ap₂, subst, fun_ext}
use mathlib.Core.Logic.{◌↔◌, ◌⊎◌, inl, inr, ⊎_elim}
use mathlib.Core.Bool.{Bool, true, false, ◌||◌}
use mathlib.Core.List.Memᴰ
use mathlib.Core.List.{List, [], ◌∷◌, map, reverse, reverse_aux, Memᴰ}
use Prim.Native.Nat.{ℕ, zero, suc, ◌+◌, ◌*◌, ◌^◌, ◌≤◌, ◌<◌}
use native.Mathlib.Omega.{arith}
use lib.Dec.{T, eqb, eqb_refl, ltb}
use lib.ListN.{length, length-reverse}
use borrow.Author.Tests.{eqb-true, eqb-false, eq-eqb, ne_eqb, ltb-false}
use Rattle.common.specs.Packets.{Packet, Set, Relation, inhabited, ◌∖◌, ◌∪◌}
use Rattle.common.proofs.PacketLaws.{any_of, inhabited_to, either, or_left, or_right}
use Rattle.common.specs.Relations.{starts, preimage}
use Rattle.common.proofs.RelationLaws.{minus_of, minus_to}
use Rattle.common.specs.Outcome.{given, return, ◌>>=◌}
use Rattle.common.specs.Runs.{Table}
use Rattle.netkat.specs.Lists.{State, Transition, to, Ascending, IsDelta}
use Rattle.netkat_steps.specs.ListSteps.{Edge, edge, Are, IsList}
use Rattle.netkat.specs.Live.{Reached, Step, IsStep, Added}
use Rattle.netkat.proofs.Laws.Live.{sound_begun, Working, Pulling, pulling_begin, pulling_same, pulling_more, pulling_end, working_end, amount, amount_most, amount_more}
use Rattle.sp_steps.specs.Model as Sp
use Rattle.sp_steps.specs.Wf as SpLaws
use Rattle.sp_steps.proofs.Laws as SpLawsProofs
use Rattle.sp_steps.proofs.Sets as SpSets
use Rattle.sp_steps.proofs.Apply as SpApply
use Rattle.sp_steps.proofs.Refused as SpRefused
use Rattle.spp_steps.specs.Wf.{Denotes}
use Rattle.spp_steps.proofs.Laws.{den_mem, by_test}
use Rattle.spp_steps.proofs.Relations.{uninhabited}
use Rattle.spp_steps.proofs.Images.{pull_exact}
use Rattle.aut_steps.specs.Relations as Rel
use Rattle.aut_steps.specs.Tables.{Limits, Aut}
use Rattle.aut_steps.specs.Wf.{states}
use Rattle.aut_steps.specs.Meaning.{Holds}
use Rattle.aut_delta_steps.specs.Delta.{Store, list_at}
use Rattle.aut_delta_steps.specs.Fits.{tables as readings}
use Rattle.aut_delta_steps.specs.Wf.{WfStore}
use Rattle.aut_delta_steps.specs.PlainSearch.{decoded}
use Rattle.aut_query_steps.specs.Tables.{Tables, diagrams, LiveSet, WfTables}
use Rattle.aut_query_steps.proofs.Tables.{both_wf, Gone}
use Rattle.aut_query_steps.specs.Search.{capacity}
use Rattle.aut_query_steps.proofs.Steps.{gone_refl, gone_trans, no_entry, stopped_here, Ends, halts, comes, ends_map, ends_bind, ends_call, ends_branch, ends_same, ends_both, images_step, sets_step}
use Rattle.aut_query_steps.specs.Live.{live_at, Work, work, taking, Label, by, none, label_to, enlarge, pull_back, pull_from, pull_all, settle, takes}
use Rattle.aut_query_steps.specs.Explored.{Linked}
use Rattle.aut_query_steps.proofs.ExploreLaws.{ends, ends_are}

-- ---- lists

pub map_mem : {A B : Type 0} (f : A → B) {b : B} (l : List A) → Memᴰ b (map f l) → (a : A) × Memᴰ a l × (b ≡ f a)
map_mem f [] m = absurd (Memᴰ.not-nil m)
map_mem f {b} (x ∷ xs) m = go (Memᴰ.cases_cons m) (λ k. map_mem f xs k)
  where
    go : (b ≡ f x) ⊎ Memᴰ b (map f xs) → (Memᴰ b (map f xs) → (a : _) × Memᴰ a xs × (b ≡ f a)) → (a : _) × Memᴰ a (x ∷ xs) × (b ≡ f a)
    go (inl q) k = (x, Memᴰ.head refl, q)
    go (inr n) k = let (a, i, q) = k n in (a, Memᴰ.tail i, q)

mem_map : {A B : Type 0} (f : A → B) {a : A} {l : List A} → Memᴰ a l → Memᴰ (f a) (map f l)
mem_map f (Memᴰ.head e) = Memᴰ.head (ap f e)
mem_map f (Memᴰ.tail m) = Memᴰ.tail (mem_map f m)

mem_reverse : {A : Type 0} {a : A} (l r : List A) → Memᴰ a l ⊎ Memᴰ a r → Memᴰ a (reverse_aux l r)
mem_reverse [] r (inl m) = absurd (Memᴰ.not-nil m)
mem_reverse [] r (inr m) = m
mem_reverse {a = a} (x ∷ xs) r m = mem_reverse xs (x ∷ r) (turn m)
  where
    turn : Memᴰ a (x ∷ xs) ⊎ Memᴰ a r → Memᴰ a xs ⊎ Memᴰ a (x ∷ r)
    turn (inl m) = ⊎_elim (λ q. inr (Memᴰ.head q)) (λ n. inl n) (Memᴰ.cases_cons m)
    turn (inr m) = inr (Memᴰ.tail m)

reverse_mem : {A : Type 0} {a : A} {C : Type 0} (l r : List A) → Memᴰ a (reverse_aux l r) → (Memᴰ a r → C) → Memᴰ a l ⊎ C
reverse_mem [] r m f = inr (f m)
reverse_mem {a = a} {C = C} (x ∷ xs) r m f = go (reverse_mem xs (x ∷ r) m (λ n. Memᴰ.cases_cons n))
  where
    go : Memᴰ a xs ⊎ ((a ≡ x) ⊎ Memᴰ a r) → Memᴰ a (x ∷ xs) ⊎ C
    go (inl n) = inl (Memᴰ.tail n)
    go (inr (inl q)) = inl (Memᴰ.head q)
    go (inr (inr n)) = inr (f n)

-- ---- what a stored list says

-- labels that mean relations decode to them
pub decodes : {N : ℕ} {L : Limits} {a : Aut} {es : List Edge} {list : List (Transition State N)} → Are (readings N L) a es list → map (decoded N a) es ≡ list
decodes Are.none = refl
decodes (Are.also {s} k d as') = ap₂ ◌∷◌ (ap₂ to {x = s} refl (fun_ext (λ p. fun_ext (λ q. d.means p q)))) (decodes as')

by_label : {l m : ℕ} → by l ≡ by m → l ≡ m
by_label e = cc

-- the transition that is found is in the list
label_in : (t : ℕ) {l : ℕ} (es : List Edge) → label_to t es ≡ by l → Memᴰ (edge t l) es
unfolding label_to
label_in t [] q = let z : ◌≡◌ {A = ℕ} 0 1 = cc in absurd (omega arith)
label_in t {l} (e ∷ es) q =
    by_test (eqb t e.target)
    (λ b. Memᴰ.head (ap₂ edge (eqb-true t e.target b) (by_label (sym q ∙ ap (λ (c : Bool). if c then by e.label else label_to t es) b))))
    (λ b. Memᴰ.tail (label_in t es (ap (λ (c : Bool). if c then by e.label else label_to t es) (sym b) ∙ q)))

-- and every transition to t is found: targets ascend
label_of : {N : ℕ} (a : Aut) (t : ℕ) {u : Transition State N} (es : List Edge) → Ascending (map (decoded N a) es) → Memᴰ u (map (decoded N a) es) → u.target ≡ t
    → (l : ℕ) × (label_to t es ≡ by l) × (u ≡ to t (Rel.pairs N a.nodes l))
unfolding label_to
label_of a t [] up m q = absurd (Memᴰ.not-nil m)
label_of {N} a t {u} (e ∷ es) (Ascending.also above up) m q = go (Memᴰ.cases_cons m) (λ k. label_of a t es up k q)
  where
    go : (u ≡ decoded N a e) ⊎ Memᴰ u (map (decoded N a) es) → (Memᴰ u (map (decoded N a) es) → (l : ℕ) × (label_to t es ≡ by l) × (u ≡ to t (Rel.pairs N a.nodes l)))
        → (l : ℕ) × ((if eqb t e.target then by e.label else label_to t es) ≡ by l) × (u ≡ to t (Rel.pairs N a.nodes l))
    go (inl r) k =
        let s : t ≡ e.target = sym q ∙ ap (λ (u : Transition State N). u.target) r in
        (e.label, ap (λ (c : Bool). if c then by e.label else label_to t es) (eq-eqb t e.target s), r ∙ ap (λ (s : ℕ). to s (Rel.pairs N a.nodes e.label)) (sym s))
    go (inr n) k =
        let (l, r, s) = k n in
        (l, ap (λ (c : Bool). if c then by e.label else label_to t es) (ne_eqb t e.target (λ z. omega (arith, above u n))) ∙ r, s)

-- ---- the states reached

module _ {N : ℕ} {L : Limits} (b : Store) (W : WfStore N L b) (ss : List ℕ) (links : (s : ℕ) → Memᴰ s ss → Linked b ss s) where
  abbrev pub listed : ℕ → List (Transition State N)
  listed s = map (decoded N b.aut) (list_at b s)

  pub is_list : (s : ℕ) → Memᴰ s ss → IsList (readings N L) (Holds N b.aut s) b.aut (list_at b s)
  is_list s m = (W.lists.held s (links s m).known).list (links s m).marked

  abbrev pub reached : Reached (Holds N b.aut)
  reached = record {
    states = ss;
    epsilon = ends N b.aut;
    delta = listed;
    closed = λ s m t k. let (e, n, q) = map_mem (decoded N b.aut) (list_at b s) k in subst (λ (u : ℕ). Memᴰ u ss) (sym (ap (λ (u : Transition State N). u.target) q)) ((links s m).leads e n);
    epsilon_true = λ s m. ends_are N b.aut s;
    delta_true = λ s m. subst (λ (l : List (Transition State N)). IsDelta (Holds N b.aut) l (Holds N b.aut s)) (sym (decodes (is_list s m).are)) (is_list s m).delta;
  }

  rising : (s : ℕ) → Memᴰ s ss → Ascending (listed s)
  rising s m = subst (λ (l : List (Transition State N)). Ascending l) (sym (decodes (is_list s m).are)) (is_list s m).ascending

  -- the steps into t, from the states of a list
  abbrev pub step_by : ℕ → ℕ → ℕ → Step reached
  step_by t s l = record { source = s; by = to t (Rel.pairs N b.aut.nodes l) }

  abbrev pub into : ℕ → ℕ → Label → List (Step reached) → List (Step reached)
  into t s none left = left
  into t s (by l) left = step_by t s l ∷ left

  abbrev pub steps_to : ℕ → List ℕ → List (Step reached)
  steps_to t [] = []
  steps_to t (s ∷ rest) = into t s (label_to t (list_at b s)) (steps_to t rest)

  into_tail : (t s : ℕ) (c : Label) {e : Step reached} {left : List (Step reached)} → Memᴰ e left → Memᴰ e (into t s c left)
  into_tail t s none m = m
  into_tail t s (by l) m = Memᴰ.tail m

  steps_all : (t : ℕ) (rest : List ℕ) (e : Step reached) → Memᴰ e.source rest → IsStep reached e → e.by.target ≡ t → Memᴰ e (steps_to t rest)
  steps_all t [] e m k q = absurd (Memᴰ.not-nil m)
  steps_all t (s ∷ rest) e m k q = go (Memᴰ.cases_cons m) (λ n. steps_all t rest e n k q)
    where
      at : (c : Label) (l : ℕ) → c ≡ by l → e ≡ step_by t s l → Memᴰ e (into t s c (steps_to t rest))
      at c l r v = subst (λ (c : Label). Memᴰ e (into t s c (steps_to t rest))) (sym r) (Memᴰ.head v)

      go : (e.source ≡ s) ⊎ Memᴰ e.source rest → (Memᴰ e.source rest → Memᴰ e (steps_to t rest)) → Memᴰ e (into t s (label_to t (list_at b s)) (steps_to t rest))
      go (inl r) rec =
          let (l, u, v) = label_of b.aut t (list_at b e.source) (rising e.source k.reached) k.listed q in
          at (label_to t (list_at b s)) l (ap (λ (x : ℕ). label_to t (list_at b x)) (sym r) ∙ u) (ap₂ (λ (x : ℕ) (y : Transition State N). record { source = x; by = y }) r v)
      go (inr n) rec = into_tail t s (label_to t (list_at b s)) (rec n)

  step_is : (t s l : ℕ) → Memᴰ s ss → label_to t (list_at b s) ≡ by l → IsStep reached (step_by t s l)
  step_is t s l m q = record { reached = m; listed = mem_map (decoded N b.aut) (label_in t (list_at b s) q) }

  label_den : (t s l : ℕ) → Memᴰ s ss → label_to t (list_at b s) ≡ by l → Denotes b.aut.nodes N l (Rel.pairs N b.aut.nodes l)
  label_den t s l m q = go (is_list s m).are (label_in t (list_at b s) q)
    where
      go : {es : List Edge} {list : List (Transition State N)} → Are (readings N L) b.aut es list → Memᴰ (edge t l) es → Denotes b.aut.nodes N l (Rel.pairs N b.aut.nodes l)
      go Are.none m = absurd (Memᴰ.not-nil m)
      go (Are.also {l = l'} k d as') m = ⊎_elim
          (λ r. subst (λ (h : ℕ). Denotes b.aut.nodes N h (Rel.pairs N b.aut.nodes h)) (sym (ap (λ (e : Edge). e.label) r)) (den_mem d.at))
          (λ n. go as' n) (Memᴰ.cases_cons m)

  -- ---- one step into the target

  -- `most` states more are enough, and `left` are the steps into the target that are still to be looked at
  pub record Pulls (most : ℕ) (left : List (Step reached)) (σ : Tables) (w : Work) : Type 0 where
    pub base : σ.base ≡ b
    pub ordered : WfTables N L σ
    pub live : ℕ → Set N
    pub den : (t : ℕ) → SpLaws.Denotes σ.sets N (w.live t) (live t)
    pub among : (t : ℕ) → Memᴰ t w.todo → Memᴰ t ss
    pub pulling : Pulling reached live w.todo left
    pub enough : length w.todo + length ss * 2 ^ N ≤ most + amount reached live

  -- from σ on
  abbrev pub PullsFrom : ℕ → List (Step reached) → Tables → Tables → Work → Type 0
  PullsFrom most left σ τ w = Gone σ τ × Pulls most left τ w

  -- the sets with x more at s
  abbrev more : ℕ → Set N → (ℕ → Set N) → ℕ → Set N
  more s x live u = if eqb s u then (live s ∪ x) else live u

  more_added : (s : ℕ) (x : Set N) (live : ℕ → Set N) → Added reached s x live (more s x live)
  more_added s x live = record { at = λ u p. by_test (eqb s u) (λ t. yes u p t (eqb-true s u t)) (λ t. no u p t (eqb-false s u t)) }
    where
      yes : (u : ℕ) (p : Packet N) → eqb s u ≡ true → s ≡ u → T (more s x live u p) ↔ (T (live u p) ⊎ ((s ≡ u) × T (x p)))
      yes u p t q =
          let same : more s x live u p ≡ (live u p || x p) = ap (λ (c : Bool). (if c then (live s ∪ x) else live u) p) t ∙ ap (λ (r : ℕ). live r p || x p) q in (
            λ a. ⊎_elim (λ c. inl c) (λ c. inr (q, c)) (either (live u p) (x p) (subst T same a)),
            λ a. subst T (sym same) (⊎_elim (λ c. or_left (live u p) (x p) c) (λ c. or_right (live u p) (x p) c.1) a),
          )

      no : (u : ℕ) (p : Packet N) → eqb s u ≡ false → (s ≡ u → ⊥) → T (more s x live u p) ↔ (T (live u p) ⊎ ((s ≡ u) × T (x p)))
      no u p t n =
          let same : more s x live u p ≡ live u p = ap (λ (c : Bool). (if c then (live s ∪ x) else live u) p) t in
          (λ a. inl (subst T same a), λ a. subst T (sym same) (⊎_elim (λ c. c) (λ c. absurd (n c.0)) a))

  more_den : {t : Table} {h : ℕ} (s : ℕ) (x : Set N) (handles : ℕ → ℕ) (live : ℕ → Set N) → SpLaws.Denotes t N h (live s ∪ x) → ((u : ℕ) → SpLaws.Denotes t N (handles u) (live u)) → (u : ℕ) → SpLaws.Denotes t N (live_at s h handles u) (more s x live u)
  more_den {t} {h} s x handles live d f u = go (eqb s u)
    where
      go : (c : Bool) → SpLaws.Denotes t N (if c then h else handles u) (if c then (live s ∪ x) else live u)
      go true = d
      go false = f u

  -- a set that did not grow has what is pulled; a set that grew has a packet more
  or_has : (c d : Bool) → (c || d) ≡ c → T d → T c
  or_has true d q t = tt
  or_has false d q t = subst T q t

  or_had : (c d : Bool) → (T d → T c) → (c || d) ≡ c
  or_had true d f = refl
  or_had false true f = absurd (f tt)
  or_had false false f = refl

  module _ (lent : ℕ) where
    back_ends : (most : ℕ) {left : List (Step reached)} (t s l : ℕ) (σ : Tables) (w : Work) → Memᴰ s ss → label_to t (list_at b s) ≡ by l → Pulls most (step_by t s l ∷ left) σ w
        → Ends N L lent (PullsFrom most left σ) σ (pull_back N L lent t s l w σ)
    unfolding pull_back enlarge
    back_ends most {left} t s l σ w m q P =
        let R : Relation N = Rel.pairs N b.aut.nodes l in
        let X : Set N = preimage R (P.live t) in
        let Y : Denotes σ.base.aut.nodes N l R = subst (λ (b' : Store). Denotes b'.aut.nodes N l R) (sym P.base) (label_den t s l m q) in
        ends_call (images_step P.ordered (λ u h. SpLaws.Denotes u N h X) (pull_exact N N (omega arith) (diagrams σ) (w.live t) l (P.live t) R (both_wf P.ordered) (P.den t) Y)) (λ σ₁ accepted A.
        let old : SpLaws.Denotes σ₁.sets N (w.live s) (P.live s) = SpLawsProofs.den_ext A.gone.sets (P.den s) in
        ends_call (sets_step A.ordered (SpSets.union_runs N N (omega arith) σ₁.sets (w.live s) accepted (P.live s) X A.ordered.sets old A.holds.1)
        (SpRefused.union_stops N N (omega arith) σ₁.sets (w.live s) accepted (P.live s) X A.ordered.sets old A.holds.1)) (λ σ₂ combined U.
        let g : Gone σ σ₂ = gone_trans A.gone U.gone in
        let D : (u : ℕ) → SpLaws.Denotes σ₂.sets N (w.live u) (P.live u) = λ u. SpLawsProofs.den_ext g.sets (P.den u) in
        let same : σ₂.base ≡ b = U.holds.0 ∙ A.holds.0 ∙ P.base in
        ends_branch (eqb combined (w.live s)) _ _ σ₂
        (λ e. comes (
          g,
          record {
            base = same;
            ordered = U.ordered;
            live = P.live;
            den = D;
            among = P.among;
            pulling = pulling_same reached P.pulling (record { nothing_more = λ p. or_has (P.live s p) (X p) (SpApply.agree U.holds.1 (D s) (eqb-true combined (w.live s) e) p) });
            enough = P.enough;
          },
        ))
        (λ n. ends_branch (ltb (length w.todo) (capacity lent)) _ _ σ₂
        (λ _. comes {a = work (s ∷ w.todo) (live_at s combined w.live)} (
          g,
          record {
            base = same;
            ordered = U.ordered;
            live = more s X P.live;
            den = more_den s X w.live P.live U.holds.1 D;
            among = λ u k. ⊎_elim (λ r. subst (λ (u : ℕ). Memᴰ u ss) (sym r) m) (λ k. P.among u k) (Memᴰ.cases_cons k);
            pulling = pulling_more reached P.pulling (step_is t s l m q) (more_added s X P.live);
            enough = omega (arith, P.enough, grew σ₂ combined X P.live U.ordered.sets U.holds.1 (D s) (eqb-false combined (w.live s) n));
          },
        ))
        (λ f. halts (stopped_here U.ordered (no_entry w.todo
        (λ u k. subst (λ (b' : Store). u < states b'.aut) (sym same) (links u (P.among u k)).known)
        (ltb-false (length w.todo) (capacity lent) f)))))))
      where
        -- a new packet
        grew : (τ : Tables) (combined : ℕ) (X : Set N) (live : ℕ → Set N) → SpLaws.Wf N τ.sets → SpLaws.Denotes τ.sets N combined (live s ∪ X) → SpLaws.Denotes τ.sets N (w.live s) (live s)
            → (combined ≡ w.live s → ⊥) → amount reached live < amount reached (more s X live)
        grew τ combined X live wf d e n =
            by_test (inhabited (X ∖ live s))
            (λ c. let (p, u) = inhabited_to (X ∖ live s) (subst T (sym c) tt) in
            let (y, z) = minus_to (X p) (live s p) u in
            amount_more reached (more_added s X live) (any_of (eqb s) m (eqb_refl s)) p y z)
            (λ c. absurd (n (SpLawsProofs.den_same wf d e (λ p. or_had (live s p) (X p) (λ t. by_test (live s p)
            (λ h. subst T (sym h) tt)
            (λ h. absurd (subst T (uninhabited (X ∖ live s) c p) (minus_of (X p) (live s p) t (λ k. subst T h k)))))))))

    pub from_ends : (most : ℕ) {left : List (Step reached)} (t s : ℕ) (σ : Tables) (w : Work) → Memᴰ s ss → Pulls most (into t s (label_to t (list_at b s)) left) σ w
        → Ends N L lent (PullsFrom most left σ) σ (pull_from N L lent t s w σ)
    unfolding pull_from
    from_ends most {left} t s σ w m P =
        go (label_to t (list_at σ.base s)) (ap (λ (b' : Store). label_to t (list_at b' s)) (sym P.base))
      where
        go : (c : Label) → label_to t (list_at b s) ≡ c → Ends N L lent (PullsFrom most left σ) σ (elim c [ by l ↦ pull_back N L lent t s l w σ | none ↦ given σ w ])
        go (by l) q = back_ends most t s l σ w m q (subst (λ (c : Label). Pulls most (into t s c left) σ w) q P)
        go none q = comes (gone_refl σ, subst (λ (c : Label). Pulls most (into t s c left) σ w) q P)

    pub all_ends : (most : ℕ) (t : ℕ) (rest : List ℕ) (σ : Tables) (w : Work) → ((s : ℕ) → Memᴰ s rest → Memᴰ s ss) → Pulls most (steps_to t rest) σ w
        → Ends N L lent (PullsFrom most [] σ) σ (pull_all N L lent t rest w σ)
    unfolding pull_all
    all_ends most t [] σ w f P = comes (gone_refl σ, P)
    all_ends most t (s ∷ rest) σ w f P =
        ends_bind (from_ends most t s σ w (f s (Memᴰ.head refl)) P) (λ σ₁ w₁ P₁. (
          P₁.0,
          ends_map (λ τ w₂ P₂. (gone_trans P₁.0 P₂.0, P₂.1)) (all_ends most t rest σ₁ w₁ (λ u m. f u (Memᴰ.tail m)) P₁.1),
        ))

    -- ---- until no state is left

    -- what the work list comes to
    pub record SettledTo (σ τ : Tables) (live : ℕ → ℕ) : Type 0 where
      pub base : τ.base ≡ b
      pub gone : Gone σ τ
      pub ordered : WfTables N L τ
      pub lives : (s : ℕ) → Memᴰ s ss → LiveSet N τ.sets (live s) (Holds N b.aut s)

    ended : {most : ℕ} {σ : Tables} {w : Work} → Pulls most [] σ w → w.todo ≡ [] → SettledTo σ σ w.live
    ended {σ = σ} P q = record {
      base = P.base;
      gone = gone_refl σ;
      ordered = P.ordered;
      lives = λ s m. record { set = P.live s; den = P.den s; is = working_end reached (subst (λ (todo : List ℕ). Working reached P.live todo) q (pulling_end reached P.pulling)) s m };
    }

    -- with no state more to be taken, none is left
    pub none_left : {σ : Tables} {w : Work} → Pulls 0 [] σ w → w.todo ≡ []
    none_left {w = w} P = empty w.todo (omega (arith, P.enough, amount_most reached P.live))
      where
        empty : (l : List ℕ) → length l ≤ 0 → l ≡ []
        empty [] k = refl
        empty (x ∷ xs) k = absurd (omega arith)

    -- the next target is taken
    pub take_next : {most : ℕ} {σ : Tables} {w : Work} {t : ℕ} {rest : List ℕ} → Pulls (suc most) [] σ w → w.todo ≡ t ∷ rest → Pulls most (steps_to t ss) σ (work rest w.live)
    take_next {t = t} P q = record {
      base = P.base;
      ordered = P.ordered;
      live = P.live;
      den = P.den;
      among = λ u m. P.among u (subst (λ (todo : List ℕ). Memᴰ u todo) (sym q) (Memᴰ.tail m));
      pulling = pulling_begin reached t (steps_to t ss) (subst (λ (todo : List ℕ). Working reached P.live todo) q (pulling_end reached P.pulling)) (λ e k r. steps_all t ss e k.reached k r);
      enough = omega (arith, P.enough, ap length q);
    }

    settle_ends : (most : ℕ) (σ : Tables) (w : Work) → Pulls most [] σ w → Ends N L lent (SettledTo σ) σ (settle N L lent most ss w σ)
    unfolding settle
    settle_ends zero σ w P = comes (ended P (none_left P))
    settle_ends (suc most) σ w P = go w.todo refl (λ σ₁ w₁ P₁. settle_ends most σ₁ w₁ P₁)
      where
        go : (todo : List ℕ) → w.todo ≡ todo → ((σ₁ : Tables) (w₁ : Work) → Pulls most [] σ₁ w₁ → Ends N L lent (SettledTo σ₁) σ₁ (settle N L lent most ss w₁ σ₁))
            → Ends N L lent (SettledTo σ) σ (taking todo (return w.live) (λ t rest. pull_all N L lent t ss (work rest w.live) >>= settle N L lent most ss) σ)
        go [] q rec = comes (ended P q)
        go (t ∷ rest) q rec =
            ends_bind (all_ends most t ss σ (work rest w.live) (λ s m. m) (take_next P q)) (λ σ₁ w₁ P₁. (
              P₁.0,
              ends_map (λ τ live S. record { base = S.base; gone = gone_trans P₁.0 S.gone; ordered = S.ordered; lives = S.lives }) (rec σ₁ w₁ P₁.1),
            ))

    -- more states to be taken change nothing: the bound cuts nothing off
    pub settle_more : (most more : ℕ) (σ : Tables) (w : Work) → Pulls most [] σ w → Pulls more [] σ w → settle N L lent most ss w σ ≡ settle N L lent more ss w σ
    unfolding settle
    settle_more zero zero σ w P Q = refl
    settle_more zero (suc more) σ w P Q = sym (ap (λ (todo : List ℕ). taking todo (return w.live) (λ t rest. pull_all N L lent t ss (work rest w.live) >>= settle N L lent more ss) σ) (none_left P))
    settle_more (suc most) zero σ w P Q = ap (λ (todo : List ℕ). taking todo (return w.live) (λ t rest. pull_all N L lent t ss (work rest w.live) >>= settle N L lent most ss) σ) (none_left Q)
    settle_more (suc most) (suc more') σ w P Q = go w.todo refl (λ σ₁ w₁ P₁ Q₁. settle_more most more' σ₁ w₁ P₁ Q₁)
      where
        go : (todo : List ℕ) → w.todo ≡ todo → ((σ₁ : Tables) (w₁ : Work) → Pulls most [] σ₁ w₁ → Pulls more' [] σ₁ w₁ → settle N L lent most ss w₁ σ₁ ≡ settle N L lent more' ss w₁ σ₁)
            → taking todo (return w.live) (λ t rest. pull_all N L lent t ss (work rest w.live) >>= settle N L lent most ss) σ
            ≡ taking todo (return w.live) (λ t rest. pull_all N L lent t ss (work rest w.live) >>= settle N L lent more' ss) σ
        go [] q rec = refl
        go (t ∷ rest) q rec =
            ends_same (ends_both (all_ends most t ss σ (work rest w.live) (λ s m. m) (take_next P q)) (all_ends more' t ss σ (work rest w.live) (λ s m. m) (take_next Q q)))
            (λ σ₁ w₁ R. rec σ₁ w₁ R.0.1 R.1.1)

    -- it begins with every state on the list, and the starts of their strings without hops
    pub begins : (σ : Tables) (live : ℕ → ℕ) → σ.base ≡ b → WfTables N L σ → ((t : ℕ) → SpLaws.ValidAt σ.sets N (live t)) → ((s : ℕ) → Memᴰ s ss → SpLaws.Denotes σ.sets N (live s) (starts (ends N b.aut s)))
        → Pulls (takes N L lent ss) [] σ (work (reverse ss) live)
    begins σ live q o some sets = record {
      base = q;
      ordered = o;
      live = λ t. Sp.mem σ.sets.words N (live t);
      den = λ t. SpLawsProofs.den_mem (some t);
      among = λ t m. ⊎_elim (λ n. n) (λ n. absurd n) (reverse_mem ss [] m (λ n. Memᴰ.not-nil n));
      pulling = record {
        sound = record { starting = λ s m p t. (sound_begun reached).starting s m p (subst T ((sets s m).means p) t) };
        ends = record { ending = λ s m p t. subst T (sym ((sets s m).means p)) t };
        waits = λ e k. inr (inl (mem_reverse ss [] (inl (reached.closed e.source k.reached e.by k.listed))));
      };
      enough = omega (arith, length-reverse ss);
    }

    pub settled_ends : (σ : Tables) (live : ℕ → ℕ) → σ.base ≡ b → WfTables N L σ → ((t : ℕ) → SpLaws.ValidAt σ.sets N (live t)) → ((s : ℕ) → Memᴰ s ss → SpLaws.Denotes σ.sets N (live s) (starts (ends N b.aut s)))
        → Ends N L lent (SettledTo σ) σ (settle N L lent (takes N L lent ss) ss (work (reverse ss) live) σ)
    settled_ends σ live q o some sets = settle_ends (takes N L lent ss) σ (work (reverse ss) live) (begins σ live q o some sets)

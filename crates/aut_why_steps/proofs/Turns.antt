-- 02 (i): "states in `states` order get the starts of strings with at most k hops: `bwd` of epsilon, joined by ascending target with `pull` of the k - 1 sets". The laws of `ends`, `joins`, `turn` and `each`, in
-- tables that are in order: unless they are refused (20) they make packet nodes only, what they give means just that, and run again in later tables they give the same and make nothing.
use Rattle.std.specs.Prelude.{if◌then◌else◌}
use mathlib.Core.Path.{◌≡◌, refl, sym, ◌∙◌, ap, ap₂, subst}
use mathlib.Core.Logic.{◌↔◌, ◌⊎◌, inl, inr, ⊎_elim}
use mathlib.Core.Bool.{Bool, false, ◌||◌}
use mathlib.Core.List.Memᴰ
use mathlib.Core.List.{List, [], ◌∷◌, map, Memᴰ}
use Prim.Native.Nat.{ℕ}
use native.Mathlib.Omega.{arith}
use lib.Dec.{T, eqb, eqb_refl}
use borrow.Author.Tests.{eq-eqb, ne_eqb}
use Rattle.common.specs.Packets.{Packet, Set, Relation, any, ◌∪◌}
use Rattle.common.proofs.PacketLaws.{any_of, either, or_left, or_right}
use Rattle.common.specs.Relations.{starts, preimage}
use Rattle.common.specs.Outcome.{Outcome, refused, given, Step, after, ◌>>=◌, Gives, gives, refusal}
use Rattle.common.specs.Runs.{Table, Theory, StableResult, placed}
use Rattle.common.proofs.Follow.{given_of}
use Rattle.netkat.specs.Lists.{State, Transition}
use Rattle.netkat.specs.Hops.{IsEpsilon}
use Rattle.netkat_steps.specs.ListSteps.{Edge, Are}
use Rattle.sp_steps.specs.Model as Sp
use Rattle.sp_steps.specs.Wf as SpLaws
use Rattle.sp_steps.proofs.Laws as SpLawsProofs
use Rattle.sp_steps.proofs.Sets as SpSets
use Rattle.sp_steps.proofs.Refused as SpRefused
use Rattle.spp_steps.specs.Wf.{Ext, Denotes}
use Rattle.spp_steps.proofs.Laws.{ext_refl, den_mem, by_test}
use Rattle.spp_steps.proofs.Exact.{Limited, Stops, stuck, goes, Exact, exact_read, exact_return, exact_bind}
use Rattle.spp_steps.specs.ImageModel as Images
use Rattle.spp_steps.specs.ImageModel.{Stores}
use Rattle.spp_steps.proofs.Images.{both_theory, SetLacks, set_limits, bwd_exact, pull_exact}
use Rattle.aut_steps.specs.Relations as Rel
use Rattle.aut_steps.specs.Tables.{Limits, Aut}
use Rattle.aut_steps.specs.Meaning.{Holds}
use Rattle.aut_delta_steps.specs.Epsilon.{value_of}
use Rattle.aut_delta_steps.proofs.EpsilonDown.{known_means}
use Rattle.aut_delta_steps.specs.Delta.{Store, list_at}
use Rattle.aut_delta_steps.specs.Fits.{tables as readings}
use Rattle.aut_delta_steps.specs.PlainSearch.{decoded}
use Rattle.aut_delta_steps.specs.Wf.{Means, WfStore}
use Rattle.aut_delta_steps.specs.Extends.{ExtStore}
use Rattle.aut_delta_steps.proofs.Extends.{went_refl}
use Rattle.aut_query_steps.specs.Tables.{Tables, diagrams, put_sets, on_sets, making_sets, WfTables}
use Rattle.aut_query_steps.proofs.Tables.{both_wf, Gone}
use Rattle.aut_query_steps.specs.Live.{live_at}
use Rattle.aut_query_steps.specs.Explored.{Linked}
use Rattle.aut_query_steps.proofs.Steps.{no_packet_node, Ends, halts, comes, ends_map, ends_bind, ordered_sets}
use Rattle.aut_query_steps.proofs.ExploreLaws.{any_mem}
use Rattle.aut_why_steps.specs.Why.{Sets, each, ends, joins, turn}
use Rattle.aut_why_steps.proofs.Makes.{SetsMade, Making, bwd_making, pull_making}

-- ---- tables with packet nodes more

pub record SetsLater (σ τ : Tables) : Type 0 where
  pub base : τ.base ≡ σ.base
  pub sets : SpLaws.Ext σ.sets τ.sets

pub sets_refl : (σ : Tables) → SetsLater σ σ
sets_refl σ = record { base = refl; sets = SpLawsProofs.ext_refl σ.sets }

pub sets_trans : {σ τ υ : Tables} → SetsLater σ τ → SetsLater τ υ → SetsLater σ υ
sets_trans e f = record { base = f.base ∙ e.base; sets = SpLawsProofs.ext_trans e.sets f.sets }

pub sets_gone : {σ τ : Tables} → SetsLater σ τ → Gone σ τ
sets_gone {σ} e = record { sets = e.sets; went = subst (λ (b : Store). ExtStore σ.base b) (sym e.base) (went_refl σ.base) }

abbrev pub table_theory : ℕ → Limits → Theory
table_theory N L = record { Store = Tables; Wf = WfTables N L; Ext = SetsLater; ext_refl = sets_refl; ext_trans = λ σ τ υ. sets_trans }

-- 20, and no other
abbrev pub table_limits : ℕ → Limits → Limited
table_limits N L = record { theory = table_theory N L; Stuck = λ number τ. SetLacks number τ.sets }

pub linked_later : {σ τ : Tables} {ss : List ℕ} {s : ℕ} → SetsLater σ τ → Linked σ.base ss s → Linked τ.base ss s
linked_later {ss = ss} {s = s} e k = subst (λ (b : Store). Linked b ss s) (sym e.base) k

module _ {N : ℕ} {L : Limits} where
  -- what a run of such steps comes to
  pub exact_ends : {A : Type 0} {c : Step Tables A} {P : Tables → A → Type 0} {σ : Tables} (lent : ℕ) → Exact (table_limits N L) c P σ → Ends N L lent (StableResult (table_theory N L) c P σ) σ (c σ)
  exact_ends {A} {c} {P} {σ} lent x = go (c σ) x.runs x.stops
    where
      go : (o : Outcome Tables A) → Gives (StableResult (table_theory N L) c P σ) o → Stops (table_limits N L) σ o → Ends N L lent (StableResult (table_theory N L) c P σ) σ o
      go (refused number) g (stuck {τ = τ} e w y) = let f = sets_gone e in
          halts (record { last = τ; sets = e.sets; grown = f.went.grown; transitions = f.went.transitions; wf = w.sets; good = w.worked.good; why = no_packet_node y })
      go (given τ a) (gives g) s = comes g

  -- what it has given stands: run again in later tables it gives the same
  pub exact_stands : {A : Type 0} {c : Step Tables A} {P : Tables → A → Type 0} {σ τ υ : Tables} {a : A} → Exact (table_limits N L) c P σ → c σ ≡ given τ a → SetsLater τ υ → WfTables N L υ → c υ ≡ given υ a
  exact_stands {υ = υ} x q e w = (given_of x.runs q).stable υ e w

  -- a step on both kinds of nodes that makes packet nodes only
  pub images_exact : (P : Table → ℕ → Type 0) {c : Step Stores ℕ} {σ : Tables} → WfTables N L σ → Making c → Exact (set_limits N) c (λ τ h. P τ.sp h) (diagrams σ)
      → Exact (table_limits N L) (making_sets c) (λ τ h. P τ.sets h) σ
  images_exact P {c} {σ} o m x = record { runs = runs (c (diagrams σ)) (m (diagrams σ)) x.runs; stops = stops (c (diagrams σ)) x.stops }
    where
      stops : (r : Outcome Stores ℕ) → Stops (set_limits N) (diagrams σ) r → Stops (table_limits N L) σ (placed (λ s σ. put_sets s.sp σ) σ r)
      stops (refused number) (stuck e w y) = stuck (record { base = refl; sets = e.sp_ext }) (ordered_sets o e.sp_ext w.sp_wf) y
      stops (given τ h) s = goes

      runs : (r : Outcome Stores ℕ) → SetsMade σ.base.aut.nodes r → Gives (StableResult (both_theory N) c (λ τ h. P τ.sp h) (diagrams σ)) r
          → Gives (StableResult (table_theory N L) (making_sets c) (λ τ h. P τ.sets h) σ) (placed (λ s σ. put_sets s.sp σ) σ r)
      runs (refused number) k g = refusal
      runs (given τ h) (SetsMade.makes k) (gives g) = gives (record {
        ext = record { base = refl; sets = g.ext.sp_ext };
        wf = ordered_sets o g.ext.sp_ext g.wf.sp_wf;
        holds = g.holds;
        stable = λ υ e w. ap (placed (λ s σ. put_sets s.sp σ) υ) (g.stable (diagrams υ)
            (record { sp_ext = e.sets; spp_ext = subst (Ext τ.spp) (k ∙ sym (ap (λ (b : Store). b.aut.nodes) e.base)) (ext_refl τ.spp) }) (both_wf w));
      })

  pub union_exact : {σ : Tables} {a b : ℕ} {x y : Set N} → WfTables N L σ → SpLaws.Denotes σ.sets N a x → SpLaws.Denotes σ.sets N b y
      → Exact (table_limits N L) (on_sets (Sp.union N a b)) (λ τ h. SpLaws.Denotes τ.sets N h (x ∪ y)) σ
  union_exact {σ} {a} {b} {x} {y} o X Y = record {
    runs = runs (Sp.union N a b σ.sets) (SpSets.union_runs N N (omega arith) σ.sets a b x y o.sets X Y);
    stops = stops (Sp.union N a b σ.sets) (SpRefused.union_stops N N (omega arith) σ.sets a b x y o.sets X Y);
  }
    where
      stops : (r : Outcome Table ℕ) → SpRefused.Stops N σ.sets r → Stops (table_limits N L) σ (placed put_sets σ r)
      stops (refused number) (SpRefused.lacks z) = stuck (record { base = refl; sets = z.later }) (ordered_sets o z.later z.wf) (record { number_is = refl; left = z.left; right = z.right; short = z.short })
      stops (given t h) s = goes

      runs : (r : Outcome Table ℕ) → Gives (StableResult (SpLawsProofs.sp_theory N) (Sp.union N a b) (λ t h. SpLaws.Denotes t N h (x ∪ y)) σ.sets) r
          → Gives (StableResult (table_theory N L) (on_sets (Sp.union N a b)) (λ τ h. SpLaws.Denotes τ.sets N h (x ∪ y)) σ) (placed put_sets σ r)
      runs (refused number) g = refusal
      runs (given t h) (gives g) = gives (record {
        ext = record { base = refl; sets = g.ext };
        wf = ordered_sets o g.ext g.wf;
        holds = g.holds;
        stable = λ υ e w. ap (placed put_sets υ) (g.stable υ.sets e.sets w.sets);
      })

-- ---- what a state's set is

module _ (N : ℕ) where
  -- what the tables have as a state's epsilon
  abbrev pub epsilon_at : Store → ℕ → Relation N
  epsilon_at b s = Rel.pairs N b.aut.nodes (value_of b.aut.states.words s)

  -- the packets from which a transition leads back from the sets `live`
  abbrev pub back_from : Store → (ℕ → Set N) → Edge → Set N
  back_from b live e = preimage (Rel.pairs N b.aut.nodes e.label) (live e.target)

  unfoldable pub joined : Store → (ℕ → Set N) → List Edge → Set N → Set N
  joined b live [] x = x
  joined b live (e ∷ es) x = joined b live es (x ∪ back_from b live e)

  -- the turn of s: the starts of its strings without hops, and what its transitions lead back to
  abbrev pub turned : Store → (ℕ → Set N) → ℕ → Set N
  turned b live s = joined b live (list_at b s) (starts (epsilon_at b s))

  -- .. by the list as what it means
  pub joined_is : (b : Store) (live : ℕ → Set N) (es : List Edge) (x : Set N) (p : Packet N)
      → T (joined b live es x p) ↔ (T (x p) ⊎ ((t : Transition State N) × Memᴰ t (map (decoded N b.aut) es) × T (preimage t.label (live t.target) p)))
  unfolding joined
  joined_is b live [] x p = (λ t. inl t, λ c. ⊎_elim (λ t. t) (λ k. absurd (Memᴰ.not-nil k.1)) c)
  joined_is b live (e ∷ es) x p = let i = joined_is b live es (x ∪ back_from b live e) p in (λ t. there (i.0 t), λ c. i.1 (back c))
    where
      Back : List (Transition State N) → Type 0
      Back l = (t : Transition State N) × Memᴰ t l × T (preimage t.label (live t.target) p)

      there : T (x p || back_from b live e p) ⊎ Back (map (decoded N b.aut) es) → T (x p) ⊎ Back (map (decoded N b.aut) (e ∷ es))
      there (inl t) = ⊎_elim (λ u. inl u) (λ u. inr (decoded N b.aut e, Memᴰ.head refl, u)) (either (x p) (back_from b live e p) t)
      there (inr (g, m, t)) = inr (g, Memᴰ.tail m, t)

      back : T (x p) ⊎ Back (map (decoded N b.aut) (e ∷ es)) → T (x p || back_from b live e p) ⊎ Back (map (decoded N b.aut) es)
      back (inl t) = inl (or_left (x p) (back_from b live e p) t)
      back (inr (g, m, t)) = ⊎_elim
          (λ q. inl (or_right (x p) (back_from b live e p) (subst (λ (t : Transition State N). T (preimage t.label (live t.target) p)) q t)))
          (λ k. inr (g, k, t)) (Memᴰ.cases_cons m)

module _ {N : ℕ} {L : Limits} where
  pub epsilon_means : {b : Store} {ss : List ℕ} {s : ℕ} → WfStore N L b → Linked b ss s → Means N b.aut.nodes (value_of b.aut.states.words s) (Holds N b.aut s)
  epsilon_means W k = known_means (record { good = W.good; epsilons = W.epsilons }) k.known (λ n. ⊎_elim (λ q. absurd (n q)) (λ l. l) k.has_epsilon)

  -- it is the relation of the state's strings without hops
  pub epsilon_at_lem : {b : Store} {ss : List ℕ} {s : ℕ} → WfStore N L b → Linked b ss s → IsEpsilon (epsilon_at N b s) (Holds N b.aut s)
  epsilon_at_lem W k = let m = epsilon_means W k in
      record { ends = λ a z. (λ h. subst T (sym (m.den.means a z)) ((m.is.ends a z).0 h), λ t. (m.is.ends a z).1 (subst T (m.den.means a z) t)) }

  pub edge_den : {a : Aut} {es : List Edge} {list : List (Transition State N)} {e : Edge} → Are (readings N L) a es list → Memᴰ e es → Denotes a.nodes N e.label (Rel.pairs N a.nodes e.label)
  edge_den Are.none m = absurd (Memᴰ.not-nil m)
  edge_den {a} (Are.also {l = l} k d as') m = ⊎_elim
      (λ r. subst (λ (h : ℕ). Denotes a.nodes N h (Rel.pairs N a.nodes h)) (sym (ap (λ (e : Edge). e.label) r)) (den_mem d.at))
      (λ n. edge_den as' n) (Memᴰ.cases_cons m)

  pub ends_exact : {σ : Tables} {ss : List ℕ} {s : ℕ} → WfTables N L σ → Linked σ.base ss s
      → Exact (table_limits N L) (ends N s) (λ τ h. SpLaws.Denotes τ.sets N h (starts (epsilon_at N σ.base s))) σ
  unfolding ends
  ends_exact {σ} {ss} {s} o k =
      exact_read (table_limits N L) (λ (τ : Tables). value_of τ.base.aut.states.words s) (λ v. making_sets (Images.bwd N v)) (λ τ e. ap (λ (b : Store). value_of b.aut.states.words s) e.base)
      (images_exact (λ t h. SpLaws.Denotes t N h (starts (epsilon_at N σ.base s))) o (bwd_making N _)
      (bwd_exact N N (omega arith) (diagrams σ) _ _ (both_wf o) (den_mem (epsilon_means o.worked k).den.at)))

  pub joins_exact : (b : Store) (es : List Edge) (before : Sets) (live : ℕ → Set N) (u : ℕ) (x : Set N) {σ : Tables} → σ.base ≡ b → WfTables N L σ
      → ((e : Edge) → Memᴰ e es → Denotes b.aut.nodes N e.label (Rel.pairs N b.aut.nodes e.label))
      → ((e : Edge) → Memᴰ e es → SpLaws.Denotes σ.sets N (before e.target) (live e.target)) → SpLaws.Denotes σ.sets N u x
      → Exact (table_limits N L) (joins N es before u) (λ τ h. SpLaws.Denotes τ.sets N h (joined N b live es x)) σ
  unfolding joins joined
  joins_exact b [] before live u x q o labels D X = exact_return (table_limits N L) u o X
  joins_exact b (e ∷ es) before live u x {σ} q o labels D X =
      let R : Relation N = Rel.pairs N b.aut.nodes e.label in
      exact_bind (table_limits N L) (images_exact (λ t h. SpLaws.Denotes t N h (back_from N b live e)) o (pull_making N N e.label (before e.target))
      (pull_exact N N (omega arith) (diagrams σ) (before e.target) e.label (live e.target) R (both_wf o) (D e (Memᴰ.head refl))
      (subst (λ (b' : Store). Denotes b'.aut.nodes N e.label R) (sym q) (labels e (Memᴰ.head refl))))) (λ τ p f w A.
      exact_bind (table_limits N L) (union_exact w (SpLawsProofs.den_ext f.sets X) A) (λ υ v g w' B.
      let h = sets_trans f g in
      joins_exact b es before live v (x ∪ back_from N b live e) (h.base ∙ q) w' (λ e m. labels e (Memᴰ.tail m)) (λ e m. SpLawsProofs.den_ext h.sets (D e (Memᴰ.tail m))) B))

  pub turn_exact : {σ : Tables} {ss : List ℕ} {s : ℕ} {before : Sets} {live : ℕ → Set N} → WfTables N L σ → Linked σ.base ss s → ((t : ℕ) → Memᴰ t ss → SpLaws.Denotes σ.sets N (before t) (live t))
      → Exact (table_limits N L) (turn N before s) (λ τ h. SpLaws.Denotes τ.sets N h (turned N σ.base live s)) σ
  unfolding turn
  turn_exact {σ} {ss} {s} {before} {live} o k D =
      exact_read (table_limits N L) (λ (τ : Tables). list_at τ.base s) (λ l. ends N s >>= joins N l before) (λ τ e. ap (λ (b : Store). list_at b s) e.base)
      (exact_bind (table_limits N L) (ends_exact o k) (λ τ u e w U.
      joins_exact σ.base (list_at σ.base s) before live u (starts (epsilon_at N σ.base s)) e.base w
      (λ g m. edge_den ((o.worked.lists.held s k.known).list k.marked).are m) (λ g m. SpLawsProofs.den_ext e.sets (D g.target (k.leads g m))) U))

-- ---- only the sets of the targets are read

joins_alike : (N : ℕ) (v w : Sets) (es : List Edge) → ((e : Edge) → Memᴰ e es → v e.target ≡ w e.target) → joins N es v ≡ joins N es w
unfolding joins
joins_alike N v w [] f = refl
joins_alike N v w (e ∷ es) f =
    ap₂ {C = ℕ → Step Tables ℕ} (λ (h : ℕ) (k : ℕ → Step Tables ℕ) (u : ℕ). making_sets (Images.pull N N e.label h) >>= λ p. on_sets (Sp.union N u p) >>= k)
    (f e (Memᴰ.head refl)) (joins_alike N v w es (λ g m. f g (Memᴰ.tail m)))

pub turn_alike : (N : ℕ) (v w : Sets) (s : ℕ) (σ : Tables) → ((e : Edge) → Memᴰ e (list_at σ.base s) → v e.target ≡ w e.target) → turn N v s σ ≡ turn N w s σ
unfolding turn
turn_alike N v w s σ f = ap (λ (k : ℕ → Step Tables ℕ). (ends N s >>= k) σ) (joins_alike N v w (list_at σ.base s) f)

-- ---- each state in turn

not_any : {s : ℕ} (ss : List ℕ) → any (eqb s) ss ≡ false → Memᴰ s ss → ⊥
not_any {s} ss q m = subst T q (any_of (eqb s) m (eqb_refl s))

-- a state is in the rest, or it is the first and not in the rest
pub data Place (s : ℕ) (ss : List ℕ) (x : ℕ) : Type 0 where
  rest : Memᴰ x ss → Place s ss x
  here : (Memᴰ x ss → ⊥) → x ≡ s → Place s ss x

place : {s x : ℕ} (ss : List ℕ) → Memᴰ x (s ∷ ss) → Place s ss x
place {s} {x} ss m = by_test (any (eqb x) ss)
    (λ t. rest (any_mem x ss t))
    (λ t. here (not_any ss t) (⊎_elim (λ q. q) (λ k. absurd (not_any ss t k)) (Memᴰ.cases_cons m)))

live_here : (s u : ℕ) (w : Sets) (x : ℕ) → x ≡ s → live_at s u w x ≡ u
live_here s u w x q = ap (λ (b : Bool). if b then u else w x) (eq-eqb s x (sym q))

live_other : (s u : ℕ) (w : Sets) (x : ℕ) → (x ≡ s → ⊥) → live_at s u w x ≡ w x
live_other s u w x n = ap (λ (b : Bool). if b then u else w x) (ne_eqb s x (λ q. n (sym q)))

-- From σ, each of the states ss has a set v s: the steps f stand in τ, and D is what the sets mean. The other states have theirs of w.
pub record Eached (N : ℕ) (L : Limits) (f : ℕ → Step Tables ℕ) (D : ℕ → Set N) (ss : List ℕ) (w : Sets) (σ τ : Tables) (v : Sets) : Type 0 where
  pub later : SetsLater σ τ
  pub ordered : WfTables N L τ
  pub stands : (s : ℕ) → Memᴰ s ss → f s τ ≡ given τ (v s)
  pub means : (s : ℕ) → Memᴰ s ss → SpLaws.Denotes τ.sets N (v s) (D s)
  pub others : (t : ℕ) → (Memᴰ t ss → ⊥) → v t ≡ w t

module _ {N : ℕ} {L : Limits} {f : ℕ → Step Tables ℕ} {D : ℕ → Set N} where
  eached_first : {s u : ℕ} {ss : List ℕ} {w v : Sets} {σ τ υ : Tables} → StableResult (table_theory N L) (f s) (λ τ h. SpLaws.Denotes τ.sets N h (D s)) σ τ u → Eached N L f D ss (live_at s u w) τ υ v
      → Eached N L f D (s ∷ ss) w σ υ v
  eached_first {s} {u} {ss} {w} {v} {σ} {τ} {υ} R E = record {
    later = sets_trans R.ext E.later;
    ordered = E.ordered;
    stands = λ x m. stands x (place ss m);
    means = λ x m. means x (place ss m);
    others = λ t n. E.others t (λ k. n (Memᴰ.tail k)) ∙ live_other s u w t (λ q. n (Memᴰ.head q));
  }
    where
      stands : (x : ℕ) → Place s ss x → f x υ ≡ given υ (v x)
      stands x (rest m) = E.stands x m
      stands x (here n q) = ap (λ (x : ℕ). f x υ) q ∙ R.stable υ E.later E.ordered ∙ ap (given υ) (sym (E.others x n ∙ live_here s u w x q))

      means : (x : ℕ) → Place s ss x → SpLaws.Denotes υ.sets N (v x) (D x)
      means x (rest m) = E.means x m
      means x (here n q) =
          subst (λ (h : ℕ). SpLaws.Denotes υ.sets N h (D x)) (sym (E.others x n ∙ live_here s u w x q))
          (subst (λ (x : ℕ). SpLaws.Denotes υ.sets N u (D x)) (sym q) (SpLawsProofs.den_ext E.later.sets R.holds))

  pub each_ends : (lent : ℕ) (ss : List ℕ) (w : Sets) {σ : Tables} → WfTables N L σ
      → ((s : ℕ) → Memᴰ s ss → (τ : Tables) → SetsLater σ τ → WfTables N L τ → Exact (table_limits N L) (f s) (λ υ h. SpLaws.Denotes υ.sets N h (D s)) τ)
      → Ends N L lent (Eached N L f D ss w σ) σ (each f ss w σ)
  unfolding each
  each_ends lent [] w {σ} o x = comes (record { later = sets_refl σ; ordered = o; stands = λ s m. absurd (Memᴰ.not-nil m); means = λ s m. absurd (Memᴰ.not-nil m); others = λ t n. refl })
  each_ends lent (s ∷ ss) w {σ} o x =
      ends_bind (exact_ends lent (x s (Memᴰ.head refl) σ (sets_refl σ) o)) (λ τ u R. (
        sets_gone R.ext,
        ends_map (λ υ v E. eached_first R E) (each_ends lent ss (live_at s u w) R.wf (λ t m υ e o'. x t (Memᴰ.tail m) υ (sets_trans R.ext e) o')),
      ))

-- Steps that all stand in τ, one after another: nothing is made, and each state has what its step gives.
pub each_turns : (f : ℕ → Step Tables ℕ) (g : Sets) (τ : Tables) (ss : List ℕ) (w : Sets) → ((s : ℕ) → Memᴰ s ss → f s τ ≡ given τ (g s))
    → (v : Sets) × (each f ss w τ ≡ given τ v) × ((x : ℕ) → Memᴰ x ss → v x ≡ g x) × ((t : ℕ) → (Memᴰ t ss → ⊥) → v t ≡ w t)
unfolding each
each_turns f g τ [] w k = (w, refl, λ x m. absurd (Memᴰ.not-nil m), λ t n. refl)
each_turns f g τ (s ∷ ss) w k =
    let (v, q, h, o) = each_turns f g τ ss (live_at s (g s) w) (λ t m. k t (Memᴰ.tail m)) in (
      v,
      ap (λ (r : Outcome Tables ℕ). after r (λ u. each f ss (live_at s u w))) (k s (Memᴰ.head refl)) ∙ q,
      λ x m. at v h o x (place ss m),
      λ t n. o t (λ m. n (Memᴰ.tail m)) ∙ live_other s (g s) w t (λ p. n (Memᴰ.head p)),
    )
  where
    at : (v : Sets) → ((x : ℕ) → Memᴰ x ss → v x ≡ g x) → ((t : ℕ) → (Memᴰ t ss → ⊥) → v t ≡ live_at s (g s) w t) → (x : ℕ) → Place s ss x → v x ≡ g x
    at v h o x (rest m) = h x m
    at v h o x (here n q) = o x n ∙ live_here s (g s) w x q ∙ ap g (sym q)

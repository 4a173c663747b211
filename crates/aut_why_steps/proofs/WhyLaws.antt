-- 02 (i): "It picks the fewest hops, then the smallest start, then the hops in order, then the end"; "an empty state prints `none`". The law of `why`: unless it is refused, with its reason, it gives the picked string of
-- the state, or none where the state has no string; the tables are in order again, and what was worked out is as it was. It is refused with what the live sets are refused with, or with 20.
use Rattle.std.specs.Prelude.{if◌then◌else◌}
use mathlib.Core.Path.{◌≡◌, refl, sym, ◌∙◌, ap, subst}
use mathlib.Core.Logic.{◌⊎◌, inl, inr}
use mathlib.Core.Bool.{Bool, true, false}
use mathlib.Core.List.{List, [], ◌∷◌, ◌++◌, Memᴰ}
use mathlib.Core.Option.{Option, none, some}
use Prim.Native.Nat.{ℕ, zero, suc, ◌+◌, ◌-◌, ◌≤◌, ◌<◌}
use native.Mathlib.Omega.{arith}
use lib.Dec.{T}
use lib.ListN.{length, length-append}
use Rattle.common.specs.Packets.{Packet, Set, inhabited}
use Rattle.common.proofs.PacketLaws.{inhabited_to}
use Rattle.common.specs.Outcome.{Outcome, refused, given, Step, return, after}
use Rattle.common.proofs.Follow.{if_given}
use Rattle.netkat.specs.Strings.{Str}
use Rattle.netkat.specs.Rules.{Language}
use Rattle.netkat.specs.Live.{IsLive, Reached}
use Rattle.netkat_paths.specs.Order.{Picked}
use Rattle.netkat_paths.specs.Pick.{IsWithin}
use Rattle.netkat_paths.proofs.PickLaws.{pick_picked}
use Rattle.netkat_steps.specs.ListSteps.{Edge}
use Rattle.sp_steps.specs.Model as Sp
use Rattle.sp_steps.proofs.Laws as SpLawsProofs
use Rattle.sp_steps.proofs.Sets as SpSets
use Rattle.spp_steps.proofs.Laws.{by_test, false_true}
use Rattle.spp_steps.proofs.Relations.{uninhabited}
use Rattle.aut_steps.specs.Tables.{Limits}
use Rattle.aut_steps.specs.Wf.{states}
use Rattle.aut_steps.specs.Meaning.{Holds}
use Rattle.aut_steps.proofs.Wf.{state_grown}
use Rattle.aut_delta_steps.specs.Delta.{list_at}
use Rattle.aut_delta_steps.specs.Wf.{WfStore}
use Rattle.aut_delta_steps.proofs.Wf.{has_epsilon_grown, same_list}
use Rattle.aut_query_steps.specs.Tables.{Tables, put_sets, WfTables, ExtTables}
use Rattle.aut_query_steps.proofs.Tables.{later_trans, gone_later}
use Rattle.aut_query_steps.specs.Search.{capacity}
use Rattle.aut_query_steps.specs.Live.{live_at, Found, keep_lives, live_sets}
use Rattle.aut_query_steps.specs.Explored.{Linked}
use Rattle.aut_query_steps.proofs.Steps.{Ends, halts, comes, stopped_later, ends_map, ends_bind, ends_later, ends_with, ends_branch}
use Rattle.aut_query_steps.proofs.SettleLaws.{reached, listed}
use Rattle.aut_query_steps.proofs.LiveLaws.{kept_ordered, kept_later, sets_ends}
use Rattle.aut_why_steps.specs.Why.{Sets, Rounds, each, same_on, ends, joins, turn, round_zero, round, rounds, most_rounds, fewest, round_at, pick_at, pick_by, rounds_of, why_sets, why, Again}
use Rattle.aut_why_steps.proofs.Makes.{Only20, goes, only_number, only_after, only_placed, only_if, making_only, union_only, bwd_making, pull_making}
use Rattle.aut_why_steps.proofs.Turns.{SetsLater, sets_trans, sets_gone, epsilon_at, epsilon_at_lem}
use Rattle.aut_why_steps.proofs.Progress.{Progress, now_valid, zero_ends, round_ends, progress_begin, progress_few, progress_next, progress_end, last_round}

-- ---- all rounds

-- from σ, the rounds ws of the states ss stand in τ; round j has the starts of strings with at most j hops, the last round those of all
pub record Rounded (N : ℕ) (L : Limits) (ss : List ℕ) (σ τ : Tables) (ws : List Sets) : Type 0 where
  pub later : SetsLater σ τ
  pub ordered : WfTables N L τ
  pub links : (s : ℕ) → Memᴰ s ss → Linked τ.base ss s
  pub again : Again N ss τ ws
  pub within : (j : ℕ) → j < length ws → (s : ℕ) → Memᴰ s ss → IsWithin j (Sp.mem τ.sets.words N (round_at N ws j s)) (Holds N τ.base.aut s)
  pub live : (s : ℕ) → Memᴰ s ss → IsLive (Sp.mem τ.sets.words N (round_at N ws (length ws - 1) s)) (Holds N τ.base.aut s)
  pub few : length ws ≤ most_rounds N ss

module _ {N : ℕ} {L : Limits} {ss : List ℕ} where
  rounded_from : {σ τ υ : Tables} {ws : List Sets} → SetsLater σ τ → Rounded N L ss τ υ ws → Rounded N L ss σ υ ws
  rounded_from e R = record { later = sets_trans e R.later; ordered = R.ordered; links = R.links; again = R.again; within = R.within; live = R.live; few = R.few }

  -- the round after `now` changes nothing
  ended : {σ τ : Tables} {done : List Sets} {now next : Sets} → Progress N L ss σ done now → round N ss now σ ≡ given τ next → same_on ss now next ≡ true → Rounded N L ss σ τ (done ++ now ∷ [])
  ended {τ = τ} {done = done} {now = now} P q y = let (e, K, live) = progress_end P q y in record {
    later = e;
    ordered = K.ordered;
    links = K.links;
    again = K.again;
    within = λ j l s m. K.within j (omega (arith, l, length-append done (now ∷ []))) s m;
    live = λ s m. subst (λ (v : Sets). IsLive (Sp.mem τ.sets.words N (v s)) (Holds N τ.base.aut s))
        (sym (ap (round_at N (done ++ now ∷ [])) {x = length (done ++ now ∷ []) - 1} {y = length done} (omega (arith, length-append done (now ∷ []))) ∙ last_round N done now)) (live s m);
    few = omega (arith, progress_few P, length-append done (now ∷ []));
  }

  -- as many rounds as `most_rounds` are enough
  pub rounds_ends : (lent most : ℕ) (done : List Sets) (now : Sets) {σ : Tables} → Progress N L ss σ done now → most_rounds N ss ≤ most + length done
      → Ends N L lent (Rounded N L ss σ) σ (rounds N most ss done now σ)
  unfolding rounds
  rounds_ends lent zero done now P l = absurd (omega (arith, progress_few P, l))
  rounds_ends lent (suc most) done now {σ} P l =
      ends_bind (ends_with (round_ends P.ordered P.links lent now (now_valid P)) (if_given (round N ss now σ) (λ τ next q. q))) (λ τ next (E, q). (
        sets_gone E.later,
        ends_branch (same_on ss now next) _ _ τ
            (λ y. comes (ended P q y))
            (λ n. ends_map (λ υ ws R. rounded_from E.later R) (rounds_ends lent most (done ++ now ∷ []) next (progress_next P q n) (omega (arith, l, length-append done (now ∷ []))))),
      ))

-- ---- the rounds of the states reached

-- what is stored of a state is as it was
pub linked_ext : {N : ℕ} {L : Limits} {σ τ : Tables} {ss : List ℕ} {s : ℕ} → WfStore N L σ.base → ExtTables σ τ → Linked σ.base ss s → Linked τ.base ss s
linked_ext {τ = τ} {s = s} W e k = record {
  known = state_grown e.grown k.known;
  has_epsilon = has_epsilon_grown e.grown k.known (e.epsilons s) k.has_epsilon;
  marked = omega (arith, (e.lists s k.marked).0, k.marked);
  leads = λ g m. k.leads g (subst (Memᴰ g) (same_list τ.base W.lists e.transitions s k.known k.marked (e.lists s k.marked)) m);
}

ends_ext : {N : ℕ} {L : Limits} {lent : ℕ} {A : Type 0} {Q : Tables → A → Type 0} {σ τ : Tables} {o : Outcome Tables A} → ExtTables σ τ → Ends N L lent Q τ o → Ends N L lent Q σ o
ends_ext e (halts s) = halts (stopped_later e s)
ends_ext e (comes q) = comes q

-- the states reached from x, with their rounds
pub record Whyed (N : ℕ) (L : Limits) (lent x : ℕ) (σ τ : Tables) (r : Rounds) : Type 0 where
  pub later : ExtTables σ τ
  pub ordered : WfTables N L τ
  pub has : Memᴰ x r.states
  pub links : (s : ℕ) → Memᴰ s r.states → Linked τ.base r.states s
  pub again : Again N r.states τ r.sets
  pub within : (j : ℕ) → j < length r.sets → (s : ℕ) → Memᴰ s r.states → IsWithin j (Sp.mem τ.sets.words N (round_at N r.sets j s)) (Holds N τ.base.aut s)
  pub live : (s : ℕ) → Memᴰ s r.states → IsLive (Sp.mem τ.sets.words N (round_at N r.sets (length r.sets - 1) s)) (Holds N τ.base.aut s)
  pub few : length r.sets ≤ most_rounds N r.states
  pub fits : length r.states ≤ capacity lent

module _ {N : ℕ} {L : Limits} where
  -- the rounds of states that have their lists stored
  pub rounds_from : (lent : ℕ) {ss : List ℕ} {σ : Tables} → WfTables N L σ → ((s : ℕ) → Memᴰ s ss → Linked σ.base ss s)
      → Ends N L lent (Rounded N L ss σ) σ (after (round_zero N ss σ) (rounds N (most_rounds N ss) ss []))
  rounds_from lent {ss} {σ} o links =
      ends_bind (ends_with (zero_ends o links lent) (if_given (round_zero N ss σ) (λ τ now q. q))) (λ τ now (E, q). (
        sets_gone E.later,
        ends_map (λ υ ws R. rounded_from E.later R) (rounds_ends lent (most_rounds N ss) [] now (progress_begin o links q).1 (omega arith)),
      ))

  pub why_sets_ends : (lent : ℕ) {x : ℕ} {σ : Tables} → WfTables N L σ → x < states σ.base.aut → Ends N L lent (Whyed N L lent x σ) σ (why_sets N L lent x σ)
  unfolding why_sets rounds_of
  why_sets_ends lent {x} {σ} o k =
      ends_later (sets_ends lent o k) (λ τ f R.
      let e : ExtTables τ (keep_lives f.states f.live τ) = kept_later τ f.states f.live R.ordered R.links R.lives in (
        gone_later R.gone,
        ends_ext e (ends_bind (rounds_from lent (kept_ordered τ f.states f.live R.ordered R.links R.lives) (λ s m. linked_ext R.ordered.worked e (R.links s m))) (λ υ ws W. (
          sets_gone W.later,
          comes (record {
            later = later_trans (gone_later R.gone) (later_trans e (gone_later (sets_gone W.later)));
            ordered = W.ordered;
            has = R.has;
            links = W.links;
            again = W.again;
            within = W.within;
            live = W.live;
            few = W.few;
            fits = R.fits;
          }),
        ))),
      ))

-- ---- the fewest hops

-- some round has a packet of x: the first is round j
pub record First (N x : ℕ) (ws : List Sets) (j : ℕ) : Type 0 where
  pub inside : j < length ws
  pub full : Sp.is_zero N (round_at N ws j x) ≡ false
  pub before : (i : ℕ) → i < j → Sp.is_zero N (round_at N ws i x) ≡ true

module _ (N x : ℕ) where
  some_is : {a b : ℕ} → ◌≡◌ {A = Option ℕ} (some a) (some b) → a ≡ b
  some_is q = cc

  none_some : {a : ℕ} → ◌≡◌ {A = Option ℕ} none (some a) → ⊥
  none_some q = let z : ◌≡◌ {A = ℕ} 0 1 = cc in omega arith

  some_none : {a : ℕ} → ◌≡◌ {A = Option ℕ} (some a) none → ⊥
  some_none q = none_some (sym q)

  pub fewest_none : (k : ℕ) (ws : List Sets) → fewest N x k ws ≡ none → (j : ℕ) → j < length ws → Sp.is_zero N (round_at N ws j x) ≡ true
  unfolding fewest
  fewest_none k [] q j l = absurd (omega arith)
  fewest_none k (w ∷ ws) q j l = by_test (Sp.is_zero N (w x))
      (λ t. at t (fewest_none (suc k) ws (ap (λ (b : Bool). if b then fewest N x (suc k) ws else some k) (sym t) ∙ q)) j l)
      (λ t. absurd (some_none (ap (λ (b : Bool). if b then fewest N x (suc k) ws else some k) (sym t) ∙ q)))
    where
      at : Sp.is_zero N (w x) ≡ true → ((j : ℕ) → j < length ws → Sp.is_zero N (round_at N ws j x) ≡ true) → (j : ℕ) → j < length (w ∷ ws) → Sp.is_zero N (round_at N (w ∷ ws) j x) ≡ true
      at t f zero l = t
      at t f (suc j) l = f j (omega arith)

  pub fewest_some : (k m : ℕ) (ws : List Sets) → fewest N x k ws ≡ some m → (j : ℕ) × (m ≡ k + j) × First N x ws j
  unfolding fewest
  fewest_some k m [] q = absurd (none_some q)
  fewest_some k m (w ∷ ws) q = by_test (Sp.is_zero N (w x))
      (λ t. let (j, e, F) = fewest_some (suc k) m ws (ap (λ (b : Bool). if b then fewest N x (suc k) ws else some k) (sym t) ∙ q) in
      (suc j, omega (arith, e), record { inside = omega (arith, F.inside); full = F.full; before = λ i l. at t F.before i l }))
      (λ t. (0, omega (arith, some_is (ap (λ (b : Bool). if b then fewest N x (suc k) ws else some k) (sym t) ∙ q)), record { inside = omega arith; full = t; before = λ i l. absurd (omega arith) }))
    where
      at : {j : ℕ} → Sp.is_zero N (w x) ≡ true → ((i : ℕ) → i < j → Sp.is_zero N (round_at N ws i x) ≡ true) → (i : ℕ) → i < suc j → Sp.is_zero N (round_at N (w ∷ ws) i x) ≡ true
      at t f zero l = t
      at t f (suc i) l = f i (omega arith)

-- ---- the string

module _ {N : ℕ} {L : Limits} {lent x : ℕ} {σ τ : Tables} {r : Rounds} (W : Whyed N L lent x σ τ r) where
  -- the states reached, with what the tables have of them
  abbrev 𝓡 : Reached (Holds N τ.base.aut)
  𝓡 = record {
    states = r.states;
    epsilon = epsilon_at N τ.base;
    delta = listed τ.base W.ordered.worked r.states W.links;
    closed = (reached τ.base W.ordered.worked r.states W.links).closed;
    epsilon_true = λ s m. epsilon_at_lem W.ordered.worked (W.links s m);
    delta_true = (reached τ.base W.ordered.worked r.states W.links).delta_true;
  }

  -- a set that is tested to be empty has no packet, another has one
  no_packet : (j : ℕ) → Sp.is_zero N (round_at N r.sets j x) ≡ true → (p : Packet N) → T (Sp.mem τ.sets.words N (round_at N r.sets j x) p) → ⊥
  no_packet j q p t = subst T (SpSets.zero_none N N (omega arith) W.ordered.sets (SpLawsProofs.den_mem (W.again.at j x)) q p) t

  a_packet : (j : ℕ) → Sp.is_zero N (round_at N r.sets j x) ≡ false → (p : Packet N) × T (Sp.mem τ.sets.words N (round_at N r.sets j x) p)
  a_packet j q = let s : Set N = Sp.mem τ.sets.words N (round_at N r.sets j x) in
      by_test (inhabited s)
      (λ t. inhabited_to s (subst T (sym t) tt))
      (λ t. absurd (false_true (sym q ∙ SpSets.none_zero N N (omega arith) W.ordered.sets (SpLawsProofs.den_mem (W.again.at j x)) (uninhabited s t))))

  -- the pick from the first round that has a packet of x
  pub hops_known : (k : ℕ) → fewest N x 0 r.sets ≡ some k → (w : Str N) × (pick_at N τ r.sets k x ≡ some w) × (length w.hops ≡ k) × Picked (Holds N τ.base.aut x) w
  hops_known k q = let (j, e, F) = fewest_some N x 0 k r.sets q in go j (omega (arith, e)) F
    where
      go : (j : ℕ) → j ≡ k → First N x r.sets j → (w : Str N) × (pick_at N τ r.sets k x ≡ some w) × (length w.hops ≡ k) × Picked (Holds N τ.base.aut x) w
      go j e F =
          let G : First N x r.sets k = subst (First N x r.sets) e F in
          let (p, t) = a_packet k G.full in
          pick_picked 𝓡 (λ j s. Sp.mem τ.sets.words N (round_at N r.sets j s)) k (λ i l s m. W.within i (omega (arith, l, G.inside)) s m) x W.has p t (λ i l p t. no_packet i (G.before i l) p t)

  -- no round has one: the last has the starts of all strings
  pub none_known : fewest N x 0 r.sets ≡ none → (w : Str N) → ¬ Holds N τ.base.aut x w
  none_known q w h =
      no_packet (length r.sets - 1) (fewest_none N x 0 r.sets q (length r.sets - 1) (omega (arith, W.again.some))) w.start
      (((W.live x W.has).live w.start).1 (record { hops = w.hops; end = w.end; held = h }))

-- ---- `why`

-- what is picked from A
pub data Chosen {N : ℕ} (A : Language N) : Option (Str N) → Type 0 where
  nothing : ((w : Str N) → ¬ A w) → Chosen A none
  picked : {w : Str N} → Picked A w → Chosen A (some w)

pub record Explained (N : ℕ) (L : Limits) (x : ℕ) (σ τ : Tables) (o : Option (Str N)) : Type 0 where
  pub later : ExtTables σ τ
  pub ordered : WfTables N L τ
  pub chosen : Chosen (Holds N τ.base.aut x) o

module _ {N : ℕ} {L : Limits} where
  pub chosen_by : {lent x : ℕ} {σ τ : Tables} {r : Rounds} → Whyed N L lent x σ τ r → Chosen (Holds N τ.base.aut x) (pick_by N τ r.sets x (fewest N x 0 r.sets))
  chosen_by {x = x} {τ = τ} {r = r} W = go (fewest N x 0 r.sets) refl
    where
      go : (o : Option ℕ) → fewest N x 0 r.sets ≡ o → Chosen (Holds N τ.base.aut x) (pick_by N τ r.sets x o)
      go none q = nothing (none_known W q)
      go (some k) q = let (w, e, l, p) = hops_known W k q in subst (Chosen (Holds N τ.base.aut x)) (sym e) (picked p)

  pub why_ends : (lent : ℕ) {x : ℕ} {σ : Tables} → WfTables N L σ → x < states σ.base.aut → Ends N L lent (Explained N L x σ) σ (why N L lent x σ)
  unfolding why
  why_ends lent o k = ends_later (why_sets_ends lent o k) (λ τ r W. (W.later, comes (record { later = W.later; ordered = W.ordered; chosen = chosen_by W })))

-- ---- refusals

module _ (N : ℕ) where
  ends_only : (s : ℕ) (σ : Tables) → Only20 (ends N s σ)
  unfolding ends
  ends_only s σ = only_placed (λ t σ. put_sets t.sp σ) σ (making_only (bwd_making N _ _))

  joins_only : (es : List Edge) (before : Sets) (u : ℕ) (σ : Tables) → Only20 (joins N es before u σ)
  unfolding joins
  joins_only [] before u σ = goes
  joins_only (e ∷ es) before u σ =
      only_after (only_placed (λ t σ. put_sets t.sp σ) σ (making_only (pull_making N N e.label (before e.target) _))) (λ σ₁ p.
      only_after (only_placed put_sets σ₁ (union_only N u p σ₁.sets)) (λ σ₂ v. joins_only es before v σ₂))

  turn_only : (before : Sets) (s : ℕ) (σ : Tables) → Only20 (turn N before s σ)
  unfolding turn
  turn_only before s σ = only_after (ends_only s σ) (λ τ u. joins_only (list_at σ.base s) before u τ)

  each_only : {f : ℕ → Step Tables ℕ} → ((s : ℕ) (τ : Tables) → Only20 (f s τ)) → (ss : List ℕ) (w : Sets) (σ : Tables) → Only20 (each f ss w σ)
  unfolding each
  each_only k [] w σ = goes
  each_only k (s ∷ ss) w σ = only_after (k s σ) (λ τ u. each_only k ss (live_at s u w) τ)

  rounds_only : (most : ℕ) (ss : List ℕ) (done : List Sets) (now : Sets) (σ : Tables) → Only20 (rounds N most ss done now σ)
  unfolding rounds
  rounds_only zero ss done now σ = goes
  rounds_only (suc most) ss done now σ =
      only_after (each_only (turn_only now) ss now σ) (λ τ next. only_if (same_on ss now next) (return (done ++ now ∷ [])) (rounds N most ss (done ++ now ∷ []) next) τ goes (rounds_only most ss (done ++ now ∷ []) next τ))

  rounds_of_only : (L : Limits) (lent : ℕ) (f : Found) (σ : Tables) → Only20 (rounds_of N L lent f σ)
  unfolding rounds_of
  rounds_of_only L lent f σ = only_after (only_after (each_only ends_only f.states (λ t. Sp.zero_at N) _) (λ τ now. rounds_only (most_rounds N f.states) f.states [] now τ)) (λ τ ws. goes)

refused_same : {S A : Type 0} {n number : ℕ} → ◌≡◌ {A = Outcome S A} (refused n) (refused number) → n ≡ number
refused_same q = cc

-- what it is refused with: what the live sets are refused with, or 20
pub why_stops : (N : ℕ) (L : Limits) (lent x : ℕ) (σ : Tables) (number : ℕ) → why N L lent x σ ≡ refused number → (live_sets N L lent x σ ≡ refused number) ⊎ (number ≡ 20)
unfolding why why_sets
why_stops N L lent x σ number q = go (live_sets N L lent x σ) q
  where
    go : (o : Outcome Tables Found) → after (after o (rounds_of N L lent)) (λ r τ. given τ (pick_by N τ r.sets x (fewest N x 0 r.sets))) ≡ refused number → (o ≡ refused number) ⊎ (number ≡ 20)
    go (refused n) q = inl (ap {B = Outcome Tables Found} refused (refused_same q))
    go (given τ f) q = inr (only_number (only_after (rounds_of_only N L lent f τ) (λ υ r. goes)) q)

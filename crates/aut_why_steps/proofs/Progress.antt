-- 02 (i): "k rising from 0 until none changes, states in `states` order get the starts of strings with at most k hops". What holds between two rounds: round j has the starts of strings with at most j hops, and every
-- round so far stands again. Each round that is not the last adds a packet at some state, so there are no more than `most_rounds`; and once none changes the sets are the live ones.
use mathlib.Core.Path.{◌≡◌, refl, sym, ◌∙◌, ap, subst, fun_ext}
use mathlib.Core.Logic.{inl, inr, ⊎_elim}
use mathlib.Core.Bool.{Bool, true, false, ◌&&◌}
use mathlib.Core.List.Memᴰ
use mathlib.Core.List.{List, [], ◌∷◌, ◌++◌, Memᴰ}
use Prim.Native.Nat.{ℕ, zero, suc, ◌^◌, ◌≤◌, ◌<◌}
use native.Mathlib.Omega.{arith}
use lib.Dec.{T, eqb, eqb_refl, ltb}
use lib.ListN.{length, length-append, get_or-append, get_or-eq_default}
use lib.Seq.{get_or-append_seam}
use borrow.Author.Tests.{eqb-true, eqb-false, ltb-true, ltb-false}
use Rattle.common.specs.Packets.{Packet, packets, Set, inhabited, any, ◌∖◌}
use Rattle.common.proofs.PacketLaws.{packets_length, packet_listed, any_of, inhabited_to}
use Rattle.common.specs.Relations.{starts}
use Rattle.common.proofs.RelationLaws.{starts_to, minus_of, minus_to}
use Rattle.common.specs.Outcome.{given}
use Rattle.common.proofs.Follow.{given_of}
use Rattle.netkat.specs.Live.{IsLive, Reached}
use Rattle.netkat.proofs.Laws.Live.{working_end}
use Rattle.netkat.proofs.Laws.Tally.{tally, tally_le, tally_mono, tally_more, total, total_le, total_more}
use Rattle.netkat_paths.specs.Pick.{IsWithin}
use Rattle.netkat_paths.proofs.WithinLaws.{within_to, within_of, within_more, within_zero, within_next}
use Rattle.sp_steps.specs.Model as Sp
use Rattle.sp_steps.specs.Wf as SpLaws
use Rattle.sp_steps.proofs.Laws as SpLawsProofs
use Rattle.spp_steps.proofs.Laws.{by_test}
use Rattle.spp_steps.proofs.Relations.{tests_equal, uninhabited}
use Rattle.aut_steps.specs.Tables.{Limits}
use Rattle.aut_steps.specs.Meaning.{Holds}
use Rattle.aut_delta_steps.specs.Delta.{Store, list_at}
use Rattle.aut_query_steps.specs.Tables.{Tables, WfTables}
use Rattle.aut_query_steps.specs.Explored.{Linked}
use Rattle.aut_query_steps.proofs.Steps.{Ends, ends_gives}
use Rattle.aut_query_steps.proofs.ExploreLaws.{any_mem, ends_are}
use Rattle.aut_query_steps.proofs.SettleLaws.{reached}
use Rattle.spp_steps.proofs.Exact.{Exact}
use Rattle.aut_why_steps.specs.Why.{Sets, same_on, ends, turn, round_zero, round, most_rounds, round_at, Again}
use Rattle.aut_why_steps.proofs.Turns.{SetsLater, linked_later, table_limits, exact_stands, epsilon_at, turned, joined_is, epsilon_at_lem, ends_exact, turn_exact, Eached, each_ends}

-- ---- lists

abbrev Links : Store → List ℕ → Type 0
Links b ss = (s : ℕ) → Memᴰ s ss → Linked b ss s

and_true : (a b : Bool) → (a && b) ≡ true → (a ≡ true) × (b ≡ true)
and_true true b q = (refl, q)
and_true false b q = absurd (subst T (sym q) tt)

-- no state's set differs, and some state's does
pub same_at : (ss : List ℕ) (v w : Sets) → same_on ss v w ≡ true → (s : ℕ) → Memᴰ s ss → v s ≡ w s
unfolding same_on
same_at [] v w q s m = absurd (Memᴰ.not-nil m)
same_at (x ∷ xs) v w q s m = let (h, r) = and_true (eqb (v x) (w x)) (same_on xs v w) q in
    ⊎_elim (λ e. ap v e ∙ eqb-true (v x) (w x) h ∙ ap w (sym e)) (λ k. same_at xs v w r s k) (Memᴰ.cases_cons m)

pub differs_at : (ss : List ℕ) (v w : Sets) → same_on ss v w ≡ false → (s : ℕ) × Memᴰ s ss × (v s ≡ w s → ⊥)
unfolding same_on
differs_at [] v w q = absurd (subst T q tt)
differs_at (x ∷ xs) v w q = by_test (eqb (v x) (w x))
    (λ t. let (s, m, n) = differs_at xs v w (ap (λ (b : Bool). b && same_on xs v w) (sym t) ∙ q) in (s, Memᴰ.tail m, n))
    (λ t. (x, Memᴰ.head refl, eqb-false (v x) (w x) t))

module _ (N : ℕ) where
  -- the rounds ws and one more: which is round j
  pub data RoundIn (ws : List Sets) (v : Sets) (j : ℕ) : Type 0 where
    old : j < length ws → round_at N (ws ++ v ∷ []) j ≡ round_at N ws j → RoundIn ws v j
    new : j ≡ length ws → round_at N (ws ++ v ∷ []) j ≡ v → RoundIn ws v j
    none : length ws < j → round_at N (ws ++ v ∷ []) j ≡ (λ t. Sp.zero_at N) → RoundIn ws v j

  pub last_round : (ws : List Sets) (v : Sets) → round_at N (ws ++ v ∷ []) (length ws) ≡ v
  last_round ws v = get_or-append_seam ws v [] (λ t. Sp.zero_at N)

  pub old_round : (ws : List Sets) (v : Sets) (j : ℕ) → j < length ws → round_at N (ws ++ v ∷ []) j ≡ round_at N ws j
  old_round ws v j l = get_or-append ws (v ∷ []) (λ t. Sp.zero_at N) j l

  pub round_in : (ws : List Sets) (v : Sets) (j : ℕ) → RoundIn ws v j
  round_in ws v j = by_test (ltb j (length ws))
      (λ t. let l = ltb-true j (length ws) t in old l (old_round ws v j l))
      (λ t. let l = ltb-false j (length ws) t in by_test (eqb j (length ws))
      (λ e. let q : j ≡ length ws = eqb-true j (length ws) e in new q (ap (round_at N (ws ++ v ∷ [])) q ∙ last_round ws v))
      (λ e. let n = eqb-false j (length ws) e in
      let m : length ws < j = omega (arith, l, n) in
      none m (get_or-eq_default (ws ++ v ∷ []) (λ t. Sp.zero_at N) (omega (arith, m, length-append ws (v ∷ []))))))

-- ---- a round

-- what a handle means in later tables
pub mem_same : (N : ℕ) {σ τ : Tables} (h : ℕ) → SetsLater σ τ → SpLaws.ValidAt σ.sets N h → Sp.mem τ.sets.words N h ≡ Sp.mem σ.sets.words N h
mem_same N h e a = fun_ext (λ p. SpLawsProofs.mem_ext e.sets N h p a)

module _ {N : ℕ} {L : Limits} where
  module _ {σ : Tables} {ss : List ℕ} (o : WfTables N L σ) (links : Links σ.base ss) where
    pub zero_ends : (lent : ℕ) → Ends N L lent (Eached N L (ends N) (λ s. starts (epsilon_at N σ.base s)) ss (λ t. Sp.zero_at N) σ) σ (round_zero N ss σ)
    zero_ends lent = each_ends lent ss (λ t. Sp.zero_at N) o (λ s m τ e w.
        subst (λ (b : Store). Exact (table_limits N L) (ends N s) (λ υ h. SpLaws.Denotes υ.sets N h (starts (epsilon_at N b s))) τ) e.base (ends_exact w (linked_later e (links s m))))

    pub round_ends : (lent : ℕ) (now : Sets) → ((t : ℕ) → SpLaws.ValidAt σ.sets N (now t))
        → Ends N L lent (Eached N L (turn N now) (turned N σ.base (λ t. Sp.mem σ.sets.words N (now t))) ss now σ) σ (round N ss now σ)
    round_ends lent now a = each_ends lent ss now o (λ s m τ e w.
        subst (λ (b : Store). Exact (table_limits N L) (turn N now s) (λ υ h. SpLaws.Denotes υ.sets N h (turned N b (λ t. Sp.mem σ.sets.words N (now t)) s)) τ) e.base
        (turn_exact w (linked_later e (links s m)) (λ t k. SpLawsProofs.den_ext e.sets (SpLawsProofs.den_mem (a t)))))

  -- the handles of a round are valid: of the states the sets given, of others the ones before
  pub eached_valid : {f : ℕ → _} {D : ℕ → Set N} {ss : List ℕ} {w v : Sets} {σ τ : Tables} → Eached N L f D ss w σ τ v → ((t : ℕ) → SpLaws.ValidAt σ.sets N (w t)) → (t : ℕ) → SpLaws.ValidAt τ.sets N (v t)
  eached_valid {ss = ss} {w = w} {τ = τ} E a t = by_test (any (eqb t) ss)
      (λ q. (E.means t (any_mem t ss q)).at)
      (λ q. subst (SpLaws.ValidAt τ.sets N) (sym (E.others t (λ m. subst T q (any_of (eqb t) m (eqb_refl t))))) (SpLawsProofs.at_ext E.later.sets N (w t) (a t)))

  -- ---- rounds that stand

  -- in later tables too
  pub again_later : {σ τ : Tables} {ss : List ℕ} {ws : List Sets} → WfTables N L σ → Links σ.base ss → SetsLater σ τ → WfTables N L τ → Again N ss σ ws → Again N ss τ ws
  again_later o links e w A = record {
    some = A.some;
    at = λ j t. SpLawsProofs.at_ext e.sets N _ (A.at j t);
    first = λ s m. exact_stands (ends_exact o (links s m)) (A.first s m) e w;
    next = λ j l s m. exact_stands (turn_exact o (links s m) (λ t k. SpLawsProofs.den_mem (A.at j t))) (A.next j l s m) e w;
  }

  -- one round more
  again_more : {σ : Tables} {ss : List ℕ} (ws : List Sets) (now next : Sets) → WfTables N L σ → Again N ss σ (ws ++ now ∷ []) → ((t : ℕ) → SpLaws.ValidAt σ.sets N (next t))
      → ((s : ℕ) → Memᴰ s ss → turn N now s σ ≡ given σ (next s)) → Again N ss σ ((ws ++ now ∷ []) ++ next ∷ [])
  again_more {σ} {ss} ws now next o A a stands = record {
    some = omega (arith, length-append (ws ++ now ∷ []) (next ∷ []));
    at = λ j t. at j t (round_in N (ws ++ now ∷ []) next j);
    first = λ s m. A.first s m ∙ ap (λ (v : Sets). given σ (v s)) (sym (old_round N (ws ++ now ∷ []) next 0 A.some));
    next = λ j l s m. following j s m (omega (arith, l, length-append (ws ++ now ∷ []) (next ∷ []))) (round_in N (ws ++ now ∷ []) next (suc j));
  }
    where
      at : (j t : ℕ) → RoundIn N (ws ++ now ∷ []) next j → SpLaws.ValidAt σ.sets N (round_at N ((ws ++ now ∷ []) ++ next ∷ []) j t)
      at j t (old l q) = subst (λ (v : Sets). SpLaws.ValidAt σ.sets N (v t)) (sym q) (A.at j t)
      at j t (new l q) = subst (λ (v : Sets). SpLaws.ValidAt σ.sets N (v t)) (sym q) (a t)
      at j t (none l q) = subst (λ (v : Sets). SpLaws.ValidAt σ.sets N (v t)) (sym q) (SpLawsProofs.zero_at_lem o.sets N (omega arith))

      following : (j s : ℕ) → Memᴰ s ss → j < length (ws ++ now ∷ []) → RoundIn N (ws ++ now ∷ []) next (suc j)
          → turn N (round_at N ((ws ++ now ∷ []) ++ next ∷ []) j) s σ ≡ given σ (round_at N ((ws ++ now ∷ []) ++ next ∷ []) (suc j) s)
      following j s m k (old l q) = ap (λ (v : Sets). turn N v s σ) (old_round N (ws ++ now ∷ []) next j k) ∙ A.next j l s m ∙ ap (λ (v : Sets). given σ (v s)) (sym q)
      following j s m k (new l q) =
          ap (λ (v : Sets). turn N v s σ) (old_round N (ws ++ now ∷ []) next j k ∙ ap (round_at N (ws ++ now ∷ [])) {x = j} {y = length ws} (omega (arith, l, length-append ws (now ∷ []))) ∙ last_round N ws now)
          ∙ stands s m ∙ ap (λ (v : Sets). given σ (v s)) (sym q)
      following j s m k (none l q) = absurd (omega (arith, l, k))

-- ---- the rounds so far

-- how many packets the sets of the states have
unfoldable pub packets_in : ℕ → Tables → List ℕ → Sets → ℕ
packets_in N σ ss v = total (λ s. tally (Sp.mem σ.sets.words N (v s)) (packets N)) ss

-- `done` are the rounds before `now`, the states are ss
pub record Progress (N : ℕ) (L : Limits) (ss : List ℕ) (σ : Tables) (done : List Sets) (now : Sets) : Type 0 where
  pub ordered : WfTables N L σ
  pub links : (s : ℕ) → Memᴰ s ss → Linked σ.base ss s
  pub again : Again N ss σ (done ++ now ∷ [])
  pub within : (j : ℕ) → j ≤ length done → (s : ℕ) → Memᴰ s ss → IsWithin j (Sp.mem σ.sets.words N (round_at N (done ++ now ∷ []) j s)) (Holds N σ.base.aut s)
  pub enough : length done ≤ packets_in N σ ss now

module _ {N : ℕ} {L : Limits} {ss : List ℕ} {done : List Sets} {now : Sets} where
  pub now_valid : {σ : Tables} → Progress N L ss σ done now → (t : ℕ) → SpLaws.ValidAt σ.sets N (now t)
  now_valid {σ} P t = subst (λ (v : Sets). SpLaws.ValidAt σ.sets N (v t)) (last_round N done now) (P.again.at (length done) t)

  pub now_within : {σ : Tables} → Progress N L ss σ done now → (s : ℕ) → Memᴰ s ss → IsWithin (length done) (Sp.mem σ.sets.words N (now s)) (Holds N σ.base.aut s)
  now_within {σ} P s m = subst (λ (v : Sets). IsWithin (length done) (Sp.mem σ.sets.words N (v s)) (Holds N σ.base.aut s)) (last_round N done now) (P.within (length done) (omega arith) s m)

  -- in tables with packet nodes more
  pub progress_later : {σ τ : Tables} → Progress N L ss σ done now → SetsLater σ τ → WfTables N L τ → Progress N L ss τ done now
  unfolding packets_in
  progress_later {σ} {τ} P e w = record {
    ordered = w;
    links = λ s m. linked_later e (P.links s m);
    again = again_later P.ordered P.links e w P.again;
    within = λ j l s m.
        subst (λ (b : Store). IsWithin j (Sp.mem τ.sets.words N (round_at N (done ++ now ∷ []) j s)) (Holds N b.aut s)) (sym e.base)
        (subst (λ (x : Set N). IsWithin j x (Holds N σ.base.aut s)) (sym (mem_same N _ e (P.again.at j s))) (P.within j l s m));
    enough = omega (arith, P.enough, ap {B = ℕ} (λ (f : ℕ → Set N). total (λ s. tally (f s) (packets N)) ss) {x = λ s. Sp.mem τ.sets.words N (now s)} {y = λ s. Sp.mem σ.sets.words N (now s)} (fun_ext (λ s. mem_same N (now s) e (now_valid P s))));
  }

  -- a bound for the rounds
  pub progress_few : {σ : Tables} → Progress N L ss σ done now → length done < most_rounds N ss
  unfolding packets_in
  progress_few {σ} P =
      omega (arith, P.enough, total_le (λ s. tally (Sp.mem σ.sets.words N (now s)) (packets N)) (2 ^ N) (λ s. omega (arith, tally_le (Sp.mem σ.sets.words N (now s)) (packets N), packets_length N)) ss)

  -- ---- one round more, in tables where it stands

  module _ {τ : Tables} (P : Progress N L ss τ done now) (next : Sets) (stands : (s : ℕ) → Memᴰ s ss → turn N now s τ ≡ given τ (next s)) where
    -- what the turns lead back to
    turned_is : (s : ℕ) → Memᴰ s ss → (p : Packet N) → Sp.mem τ.sets.words N (next s) p ≡ turned N τ.base (λ t. Sp.mem τ.sets.words N (now t)) s p
    turned_is s m = (given_of (turn_exact P.ordered (P.links s m) (λ t k. SpLawsProofs.den_mem (now_valid P t))).runs (stands s m)).holds.means

    abbrev 𝓡 : Reached (Holds N τ.base.aut)
    𝓡 = reached τ.base P.ordered.worked ss P.links

    pub next_within : (s : ℕ) → Memᴰ s ss → IsWithin (suc (length done)) (Sp.mem τ.sets.words N (next s)) (Holds N τ.base.aut s)
    next_within s m =
        within_next (epsilon_at_lem P.ordered.worked (P.links s m)) (λ t. Sp.mem τ.sets.words N (now t)) (𝓡.delta_true s m) (λ t k. now_within P t.target (𝓡.closed s m t k))
        (λ a. let i = joined_is N τ.base (λ t. Sp.mem τ.sets.words N (now t)) (list_at τ.base s) (starts (epsilon_at N τ.base s)) a in
        (λ t. i.0 (subst T (turned_is s m a) t), λ c. subst T (sym (turned_is s m a)) (i.1 c)))

    pub next_grows : (s : ℕ) → Memᴰ s ss → (p : Packet N) → T (Sp.mem τ.sets.words N (now s) p) → T (Sp.mem τ.sets.words N (next s) p)
    next_grows s m = within_more (now_within P s m) (next_within s m)

    module _ (valid : (t : ℕ) → SpLaws.ValidAt τ.sets N (next t)) (others : (t : ℕ) → (Memᴰ t ss → ⊥) → next t ≡ now t) where
      grows : (s : ℕ) (p : Packet N) → T (Sp.mem τ.sets.words N (now s) p) → T (Sp.mem τ.sets.words N (next s) p)
      grows s p = by_test (any (eqb s) ss)
          (λ q. next_grows s (any_mem s ss q) p)
          (λ q. subst (λ (h : ℕ). T (Sp.mem τ.sets.words N (now s) p) → T (Sp.mem τ.sets.words N h p)) (sym (others s (λ m. subst T q (any_of (eqb s) m (eqb_refl s))))) (λ t. t))

      -- a set that differs has a packet more
      packet_more : (s : ℕ) → (now s ≡ next s → ⊥) → tally (Sp.mem τ.sets.words N (now s)) (packets N) < tally (Sp.mem τ.sets.words N (next s)) (packets N)
      packet_more s n =
          let x : Set N = Sp.mem τ.sets.words N (now s) in
          let y : Set N = Sp.mem τ.sets.words N (next s) in
          by_test (inhabited (y ∖ x))
          (λ c. let (p, u) = inhabited_to (y ∖ x) (subst T (sym c) tt) in let (t, k) = minus_to (y p) (x p) u in tally_more x y (grows s) {a = p} k t (packet_listed p))
          (λ c. absurd (n (SpLawsProofs.canonical P.ordered.sets N (now s) (next s) (now_valid P s) (valid s) (λ p. tests_equal (x p) (y p) (grows s p) (λ t. by_test (x p)
          (λ h. subst T (sym h) tt)
          (λ h. absurd (subst T (uninhabited (y ∖ x) c p) (minus_of (y p) (x p) t (λ k. subst T h k)))))))))

      more_packets : same_on ss now next ≡ false → packets_in N τ ss now < packets_in N τ ss next
      unfolding packets_in
      more_packets q = let (s, m, n) = differs_at ss now next q in
          total_more (λ s. tally (Sp.mem τ.sets.words N (now s)) (packets N)) (λ s. tally (Sp.mem τ.sets.words N (next s)) (packets N))
          (λ s. tally_mono (Sp.mem τ.sets.words N (now s)) (Sp.mem τ.sets.words N (next s)) (grows s) (packets N)) s (packet_more s n) ss (any_of (eqb s) m (eqb_refl s))

      advanced : same_on ss now next ≡ false → Progress N L ss τ (done ++ now ∷ []) next
      advanced q = record {
        ordered = P.ordered;
        links = P.links;
        again = again_more done now next P.ordered P.again valid stands;
        within = λ j l s m. at j l s m (round_in N (done ++ now ∷ []) next j);
        enough = omega (arith, P.enough, more_packets q, length-append done (now ∷ []));
      }
        where
          at : (j : ℕ) → j ≤ length (done ++ now ∷ []) → (s : ℕ) → Memᴰ s ss → RoundIn N (done ++ now ∷ []) next j
              → IsWithin j (Sp.mem τ.sets.words N (round_at N ((done ++ now ∷ []) ++ next ∷ []) j s)) (Holds N τ.base.aut s)
          at j l s m (old k r) = subst (λ (v : Sets). IsWithin j (Sp.mem τ.sets.words N (v s)) (Holds N τ.base.aut s)) (sym r) (P.within j (omega (arith, k, length-append done (now ∷ []))) s m)
          at j l s m (new k r) =
              subst (λ (v : Sets). IsWithin j (Sp.mem τ.sets.words N (v s)) (Holds N τ.base.aut s)) (sym r)
              (subst (λ (i : ℕ). IsWithin i (Sp.mem τ.sets.words N (next s)) (Holds N τ.base.aut s)) {x = suc (length done)} {y = j} (omega (arith, k, length-append done (now ∷ []))) (next_within s m))
          at j l s m (none k r) = absurd (omega (arith, k, l))

  -- A round that changes nothing: the sets are the live ones.
  settled_live : {τ : Tables} → Progress N L ss τ done now → ((s : ℕ) → Memᴰ s ss → turn N now s τ ≡ given τ (now s)) → (s : ℕ) → Memᴰ s ss → IsLive (Sp.mem τ.sets.words N (now s)) (Holds N τ.base.aut s)
  settled_live {τ} P stands = working_end (reached τ.base P.ordered.worked ss P.links) (record {
    sound = record { starting = λ s m p t. let w = within_to (now_within P s m) p t in record { hops = w.hops; end = w.end; held = w.held } };
    ends = record { ending = λ s m p t. let (z, u) = starts_to _ p t in within_of (now_within P s m) p [] z (omega arith) (((ends_are N τ.base.aut s).ends p z).1 u) };
    waits = λ e k. inl (record {
      nothing_more = λ p t.
          subst T (sym (turned_is P now stands e.source k.reached p)) ((joined_is N τ.base (λ t. Sp.mem τ.sets.words N (now t)) (list_at τ.base e.source) (starts (epsilon_at N τ.base e.source)) p).1 (inr (e.by, k.listed, t)));
    });
  })

-- ---- the laws of the loop

module _ {N : ℕ} {L : Limits} {ss : List ℕ} {σ τ : Tables} where
  -- round 0
  pub progress_begin : {now : Sets} → WfTables N L σ → ((s : ℕ) → Memᴰ s ss → Linked σ.base ss s) → round_zero N ss σ ≡ given τ now → SetsLater σ τ × Progress N L ss τ [] now
  progress_begin {now} o links q = (
    E.later,
    record {
      ordered = E.ordered;
      links = linked;
      again = record { some = omega arith; at = λ j t. at j t; first = E.stands; next = λ j l s m. absurd (omega arith) };
      within = λ j l s m. within j l s m;
      enough = omega arith;
    },
  )
    where
      E : Eached N L (ends N) (λ s. starts (epsilon_at N σ.base s)) ss (λ t. Sp.zero_at N) σ τ now
      E = given_of (ends_gives (zero_ends o links 0)) q

      linked : (s : ℕ) → Memᴰ s ss → Linked τ.base ss s
      linked s m = linked_later E.later (links s m)

      at : (j t : ℕ) → SpLaws.ValidAt τ.sets N (round_at N (now ∷ []) j t)
      at zero t = eached_valid E (λ t. SpLawsProofs.zero_at_lem o.sets N (omega arith)) t
      at (suc j) t = SpLawsProofs.zero_at_lem E.ordered.sets N (omega arith)

      within : (j : ℕ) → j ≤ 0 → (s : ℕ) → Memᴰ s ss → IsWithin j (Sp.mem τ.sets.words N (round_at N (now ∷ []) j s)) (Holds N τ.base.aut s)
      within zero l s m = within_zero (epsilon_at_lem E.ordered.worked (linked s m)) (given_of (ends_exact E.ordered (linked s m)).runs (E.stands s m)).holds.means
      within (suc j) l s m = absurd (omega arith)

  module _ {done : List Sets} {now next : Sets} (P : Progress N L ss σ done now) (q : round N ss now σ ≡ given τ next) where
    pub rounded : Eached N L (turn N now) (turned N σ.base (λ t. Sp.mem σ.sets.words N (now t))) ss now σ τ next
    rounded = given_of (ends_gives (round_ends P.ordered P.links 0 now (now_valid P))) q

    pub round_later : SetsLater σ τ
    round_later = rounded.later

    -- the rounds so far, after one more
    pub progress_kept : Progress N L ss τ done now
    progress_kept = progress_later P rounded.later rounded.ordered

    -- a round that changed a set
    pub progress_next : same_on ss now next ≡ false → Progress N L ss τ (done ++ now ∷ []) next
    progress_next n = advanced progress_kept next rounded.stands (eached_valid rounded (now_valid P)) rounded.others n

    -- a round that changed none: the tables have packet nodes more, all rounds stand in them, and the last has the live sets
    pub progress_end : same_on ss now next ≡ true → SetsLater σ τ × Progress N L ss τ done now × ((s : ℕ) → Memᴰ s ss → IsLive (Sp.mem τ.sets.words N (now s)) (Holds N τ.base.aut s))
    progress_end y = (rounded.later, progress_kept, settled_live progress_kept (λ s m. rounded.stands s m ∙ ap (given τ) (sym (same_at ss now next y s m))))

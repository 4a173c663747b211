-- Round after round: one more, the fewest hops, and the loop, whose bound is that of the steps.
use Rattle.std.specs.Prelude.{not, Option, Some, None, Result, Ok, Err, if◌then◌else◌}
use mathlib.Core.Path.{◌≡◌, refl, sym, ◌∙◌, ap, subst}
use mathlib.Core.Bool.{Bool, true, false}
use mathlib.Core.List.{List, [], ◌∷◌, ◌++◌, Memᴰ}
use mathlib.Core.Option.{Option as Fewest, none, some}
use Prim.Native.Nat.{ℕ, suc, ◌+◌, ◌*◌, ◌-◌, ◌^◌, ◌≤◌, ◌<◌}
use native.Mathlib.Omega.{arith}
use native.Mathlib.Nat.{mul-le-mul}
use lib.ListN.{length, length-append, get_or}
use lib.Pow.{pow_mono}
use Rattle.common.specs.Outcome.{given, Step, return, after}
use Rattle.refusal.specs.declared.Refusal.{Refusal}
use Rattle.sp_steps.specs.Model as Sp
use Rattle.spp_steps.proofs.Laws.{by_test}
use Rattle.aut_query_steps.specs.Tables.{Tables}
use Rattle.aut_why_steps.specs.Why.{Sets, same_on, round_zero, round, rounds, most_rounds, fewest}
use Rattle.aut_why_steps.proofs.Progress.{Progress, progress_begin, progress_few, progress_next, now_valid}
use Rattle.aut_query_stage.specs.Lent.{tables_in, query_layer, GoesQuery}
use Rattle.aut_query_stage.proofs.Lent.{query_laws}
use Rattle.aut_states.specs.Clauses.{limits_of}
use Rattle.aut_states.specs.declared.Config.{Config}
use Rattle.aut_stage.specs.Rule.{Came, Post, Stage}
use Rattle.aut_stage.proofs.Rule.{begin, next, instead, stuck, done, finish, all_of}
use Rattle.aut_relations.specs.declared.Aut.{Aut as Lent}
use Rattle.aut_sets.specs.Lent.{OnlyMarks}
use Rattle.aut_free.specs.Clear.{clear_tables}
use Rattle.aut_query_calls.specs.Working.{clear_in}
use Rattle.aut_live_words.specs.Work.{seconds, copy_words}
use Rattle.aut_live_words.specs.Clauses.{PreKeep, PreCopy}
use Rattle.aut_live_words.proofs.Words.{seconds_length}
use Rattle.aut_why_words.specs.Walk.{Walk, HasSets}
use Rattle.aut_why_words.specs.Words.{same_words}
use Rattle.aut_live_words.proofs.Held.{tables_marked}
use Rattle.aut_query_calls.specs.Working.{with_words}
use Rattle.aut_why_words.proofs.Walks.{walk_there, walk_keeps, walk_copied, clear_copied, has_copied, same_sets, no_test}
use Rattle.aut_why_rounds.specs.Clauses.{SetsOn, RoundingIn, Under, Rounded, hops_of}
use Rattle.aut_why.specs.Loop.{OneMore, hops_after, GoingIn, RoundsAt, RoundsGive, all_rounds, AllAt}

-- tables that are as a call left them
goes_on : {k : Config} {a n : ℕ} {V U A : Type 0} {P : Tables → A → Type 0} {w : A} {o : Step Tables A} {x y z : Lent} {v : V} (u : U) → GoesQuery k a n clear_in P (λ (v : V). w) o x (Ok v) y → clear_in z ≡ clear_in y → z.scratch.now ≡ y.scratch.now
    → GoesQuery k a n clear_in P (λ (u : U). w) o x (Ok u) z
goes_on {k} {a} {n} {P = P} {w = w} {x = x} {y = y} {z = z} u G q e = record {
  post = record {
    is = G.post.is ∙ ap (λ (τ : Tables). given τ w) (sym q);
    then = subst (λ (s : List ℕ). Came (query_layer k.fields k.limits) a n P (clear_in x) (clear_in z) w x.scratch.now s) (sym e)
        (subst (λ (τ : Tables). Came (query_layer k.fields k.limits) a n P (clear_in x) τ w x.scratch.now y.scratch.now) (sym q) G.post.then);
  };
}

-- ---- words 9 have gone into words 8

module _ {k : Config} {x y : Lent} {n : ℕ} {after : Sets} (G : Under k x y n after) where
  pub copy_asks : PreCopy y.states.words.now y.pending.now n 9 8
  copy_asks = record { states = walk_keeps G.walk; from = omega arith; to = omega arith }

  module _ {z : Lent} (K : OnlyMarks y z) (q : z.pending ≡ y.pending) (E : z.states.words.now ≡ copy_words 9 8 (seconds y.pending.now 0 n) y.states.words.now) where
    copied_tables : tables_in z ≡ with_words (copy_words 9 8 (seconds y.pending.now 0 n) y.states.words.now) (tables_in y)
    copied_tables = tables_marked K ∙ ap (λ (u : List ℕ). with_words u (tables_in y)) E

    copied_clear : clear_in z ≡ clear_in y
    copied_clear = ap clear_tables copied_tables ∙ clear_copied 9 8 (omega arith) (tables_in y) (omega arith) (seconds y.pending.now 0 n) y.states.words.now

    copied_walk : Walk k.fields k.limits (tables_in z) z.scratch.now z.pending.now n
    copied_walk = rw q (rw K.scratch (rw copied_tables (walk_copied (tables_in y) 9 8 (omega arith) (omega arith) G.walk)))

    copied_sets : HasSets 8 z.states.words.now z.pending.now n after
    copied_sets = rw q (rw E (has_copied (tables_in y) 9 8 (omega arith) (omega arith) G.walk (omega arith) (λ q. omega arith) G.sets))

-- ---- one round more

module _ (k : Config) (x : Lent) {n : ℕ} {now : Sets} (R : RoundingIn k false x n now) where
  pub next_stuck : {e : Refusal} {y : Lent} → Rounded k false now n x (Err e) y → OneMore k now n x (Err e) y
  next_stuck G = record { next = G.next; post = record { post = record { is = G.post.post.is; then = tt } }; compared = tt }

  module _ {y : Lent} (p : y.pending ≡ x.pending) (G : Rounded k false now n x (Ok tt) y) where
    pub next_keeps : PreKeep y.states.words.now y.pending.now n
    next_keeps = walk_keeps G.under.walk

    pub next_copies : PreCopy y.states.words.now y.pending.now n 9 8
    next_copies = copy_asks G.under

    before : HasSets 8 y.states.words.now y.pending.now n now
    before = rw p (record { is = λ i m. G.under.others i 8 (omega arith) (λ e. omega arith) ∙ (R.sets refl).is i m })

    same_is : {b : Bool} → same_words (seconds y.pending.now 0 n) y.states.words.now ≡ b → same_on (seconds y.pending.now 0 n) now G.next ≡ b
    same_is e = sym (same_sets before G.under.sets) ∙ e

    pub next_same : {b : Bool} → same_words (seconds y.pending.now 0 n) y.states.words.now ≡ b → b ≡ true → OneMore k now n x (Ok false) y
    next_same e f = record {
      next = G.next;
      post = goes_on false G.post refl refl;
      compared = record { walk = G.under.walk; is = same_is (e ∙ f); sets = λ z. absurd (no_test false z refl) };
    }

    pub next_more : {b : Bool} → same_words (seconds y.pending.now 0 n) y.states.words.now ≡ b → b ≡ false
        → {z : Lent} → OnlyMarks y z → z.pending ≡ y.pending → z.states.words.now ≡ copy_words 9 8 (seconds y.pending.now 0 n) y.states.words.now → OneMore k now n x (Ok true) z
    next_more e f K q E = record {
      next = G.next;
      post = goes_on true G.post (copied_clear G.under K q E) (rw K.scratch refl);
      compared = record { walk = copied_walk G.under K q E; is = rw q (same_is (e ∙ f)); sets = λ z. copied_sets G.under K q E };
    }

-- ---- the fewest hops

module _ (N x : ℕ) where
  hops_cons : (k : ℕ) (w : Sets) (ws : List Sets) (b : Bool) → Sp.is_zero N (w x) ≡ b → fewest N x k (w ∷ ws) ≡ (if b then fewest N x (suc k) ws else some k)
  unfolding fewest
  hops_cons k w ws b q = ap (λ (b : Bool). if b then fewest N x (suc k) ws else some k) q

  -- one round more
  hops_more : (k : ℕ) (ws : List Sets) (w : Sets) → hops_of (fewest N x k (ws ++ w ∷ [])) ≡ hops_after N (w x) (k + length ws) (hops_of (fewest N x k ws))
  unfolding fewest
  hops_more k [] w = last (Sp.is_zero N (w x)) ∙ ap (λ (j : ℕ). if Sp.is_zero N (w x) then None else Some j) {x = k} {y = k + 0} (omega arith)
    where
      last : (b : Bool) → hops_of (if b then none else some k) ≡ (if b then None else Some k)
      last true = refl
      last false = refl
  hops_more k (v ∷ ws) w = by_test (Sp.is_zero N (v x))
      (λ b.
      ap hops_of (hops_cons k v (ws ++ w ∷ []) true b) ∙ hops_more (suc k) ws w
      ∙ ap (λ (j : ℕ). hops_after N (w x) j (hops_of (fewest N x (suc k) ws))) {x = suc k + length ws} {y = k + suc (length ws)} (omega arith)
      ∙ sym (ap (λ (o : Fewest ℕ). hops_after N (w x) (k + suc (length ws)) (hops_of o)) (hops_cons k v ws true b)))
      (λ b.
      ap hops_of (hops_cons k v (ws ++ w ∷ []) false b)
      ∙ sym (ap (λ (o : Fewest ℕ). hops_after N (w x) (k + suc (length ws)) (hops_of o)) (hops_cons k v ws false b)))

-- ---- until none changes

-- the rounds are few: there are at most 2 ^ 24 states and 2 ^ 31 packets
rounds_small : (N n k : ℕ) → N ≤ 31 → n ≤ 16777216 → k < n * 2 ^ N + 1 → k < 36028797018963969
rounds_small N n k a b l =
    let q : 2 ^ N ≤ 2147483648 = pow_mono {j = 31} a in
    let m : n * 2 ^ N ≤ 16777216 * 2147483648 = mul-le-mul b q in
    omega (arith, m, l)

module _ (k : Config) (x : Lent) {n : ℕ} {first : Sets} {i : ℕ} (Q : GoingIn k x n first i) where
  abbrev N : ℕ
  N = k.fields

  abbrev ss : List ℕ
  ss = seconds x.pending.now 0 n

  abbrev all : Step Tables (List Sets)
  all = rounds N (most_rounds N ss) ss [] first

  -- j rounds are done before `now`, which is in words 8
  pub record Between (z : Lent) (f : Option ℕ) (j : ℕ) : Type 0 where
    pub done : List Sets
    pub now : Sets
    pub most : ℕ
    pub enough : most + length done ≡ most_rounds N ss
    pub long : j ≡ length done
    pub stage : Stage (query_layer N k.limits) 0 0 (all (clear_in x)) (rounds N most ss done now (clear_in z)) (clear_in x) (clear_in z) x.scratch.now z.scratch.now
    pub rounding : RoundingIn k false z n now
    pub progress : Progress N (limits_of k.limits) ss (clear_in z) done now
    pub hops : f ≡ hops_of (fewest N i 0 done)

  pub rounds_begin : Between x None 0
  unfolding fewest
  rounds_begin = record {
    done = [];
    now = first;
    most = most_rounds N ss;
    enough = omega arith;
    long = refl;
    stage = begin (query_laws N k.limits) 0 0 Q.rounding.walk.working.ready refl;
    rounding = Q.rounding;
    progress = Q.progress;
    hops = refl;
  }

  module _ {z : Lent} {f : Option ℕ} {j : ℕ} (p : z.pending ≡ x.pending) (v : Between z f j) where
    pub rounds_few : j < n * 2 ^ N + 1
    rounds_few = subst (λ (m : ℕ). j < m * 2 ^ N + 1) (seconds_length x.pending.now 0 n) (subst (λ (m : ℕ). m < most_rounds N ss) (sym v.long) (progress_few v.progress))

    pub rounds_less : j < 36028797018963969
    rounds_less = rounds_small N n j Q.rounding.walk.working.ready.ready.few (omega (arith, Q.rounding.walk.room)) rounds_few

    among : Memᴰ i (seconds z.pending.now 0 n)
    among = rw p Q.among

    pub rounds_there : 12 * i + 11 < length z.states.words.now
    rounds_there = walk_there v.rounding.walk i among

    word_is : get_or z.states.words.now (12 * i + 8) 0 ≡ v.now i + 1
    word_is = (v.rounding.sets refl).is i among

    pub rounds_some : 0 < get_or z.states.words.now (12 * i + 8) 0
    rounds_some = omega (arith, word_is)

    -- the fewest hops, with this round
    module _ {f1 : Option ℕ} (h : f1 ≡ hops_after N (get_or z.states.words.now (12 * i + 8) 0 - 1) j f) where
      hops_is : f1 ≡ hops_of (fewest N i 0 (v.done ++ v.now ∷ []))
      hops_is =
          h ∙ ap (λ (w : ℕ). hops_after N w j f) {x = get_or z.states.words.now (12 * i + 8) 0 - 1} {y = v.now i} (omega (arith, word_is))
          ∙ ap (λ (m : ℕ). hops_after N (v.now i) m f) {x = j} {y = 0 + length v.done} (omega (arith, v.long))
          ∙ ap (hops_after N (v.now i) (0 + length v.done)) v.hops ∙ sym (hops_more N i 0 v.done v.now)

      -- the bound is not used up
      abbrev left : ℕ
      left = v.most - 1

      left_suc : v.most ≡ suc left
      left_suc = omega (arith, progress_few v.progress, v.enough)

      abbrev on : Sets → Step Tables (List Sets)
      on w = if same_on ss v.now w then return (v.done ++ v.now ∷ []) else rounds N left ss (v.done ++ v.now ∷ []) w

      turned : Stage (query_layer N k.limits) 0 0 (all (clear_in x)) (after (round N ss v.now (clear_in z)) on) (clear_in x) (clear_in z) x.scratch.now z.scratch.now
      unfolding rounds
      turned = instead (query_laws N k.limits) 0 0 v.stage (ap (λ (m : ℕ). rounds N m ss v.done v.now (clear_in z)) left_suc)

      -- the round, of the states that stood in the entries at first
      module _ {r : Result Bool Refusal} {w : Lent} (O : OneMore k v.now n z r w) where
        round_is : GoesQuery k 0 0 clear_in (SetsOn N ss) (λ b. O.next) (round N ss v.now) z r w
        round_is = subst (λ (t : List ℕ). GoesQuery k 0 0 clear_in (SetsOn N (seconds t 0 n)) (λ b. O.next) (round N (seconds t 0 n) v.now) z r w) same O.post
          where
            same : z.pending.now ≡ x.pending.now
            same = rw p refl

      pub rounds_stuck : {e : Refusal} {w : Lent} → OneMore k v.now n z (Err e) w → RoundsAt k all n i x (Err e) w
      rounds_stuck O = record { sets = []; post = record { post = stuck (query_laws N k.limits) 0 0 (round_is O).post on turned }; ended = tt }

      module _ {b : Bool} {w : Lent} (O : OneMore k v.now n z (Ok b) w) (q : w.pending ≡ x.pending) where
        went : Stage (query_layer N k.limits) 0 0 (all (clear_in x)) (on O.next (clear_in w)) (clear_in x) (clear_in w) x.scratch.now w.scratch.now
        went = next (query_laws N k.limits) 0 0 (round_is O).post (all_of 0 0) on turned

        same_first : same_on ss v.now O.next ≡ not b
        same_first = subst (λ (t : List ℕ). same_on (seconds t 0 n) v.now O.next ≡ not b) now_is O.compared.is
          where
            now_is : w.pending.now ≡ x.pending.now
            now_is = rw q refl

        chosen : {c : Bool} → not b ≡ c → Stage (query_layer N k.limits) 0 0 (all (clear_in x)) ((if c then return (v.done ++ v.now ∷ []) else rounds N left ss (v.done ++ v.now ∷ []) O.next) (clear_in w)) (clear_in x) (clear_in w) x.scratch.now w.scratch.now
        chosen c = instead (query_laws N k.limits) 0 0 went (ap (λ (b : Bool). (if b then return (v.done ++ v.now ∷ []) else rounds N left ss (v.done ++ v.now ∷ []) O.next) (clear_in w)) (same_first ∙ c))

        pub rounds_end : b ≡ false → RoundsAt k all n i x (Ok f1) w
        rounds_end e = record {
          sets = v.done ++ v.now ∷ [];
          post = record { post = done (query_laws N k.limits) 0 0 (chosen (ap not e)) tt };
          ended = record {
            walk = O.compared.walk;
            hops = hops_is;
            few = rw q (omega (arith, progress_few v.progress, length-append v.done (v.now ∷ [])));
          };
        }

        pub rounds_again : b ≡ true → Between w f1 (j + 1)
        rounds_again e =
            let P = progress_next v.progress (round_is O).post.is (same_first ∙ ap not e) in
            record {
              done = v.done ++ v.now ∷ [];
              now = O.next;
              most = left;
              enough = omega (arith, left_suc, v.enough, length-append v.done (v.now ∷ []));
              long = omega (arith, v.long, length-append v.done (v.now ∷ []));
              stage = chosen (ap not e);
              rounding = record { walk = O.compared.walk; sets = λ z. O.compared.sets e; valid = λ z y m. now_valid P y };
              progress = P;
              hops = hops_is;
            }

-- ---- from round 0 on

module _ (k : Config) (x : Lent) {n i : ℕ} (K : Walk k.fields k.limits (tables_in x) x.scratch.now x.pending.now n) (m : Memᴰ i (seconds x.pending.now 0 n)) where
  abbrev ss₀ : List ℕ
  ss₀ = seconds x.pending.now 0 n

  -- round 0 asks for no sets
  pub zero_rounding : RoundingIn k true x n (λ t. Sp.zero_at k.fields)
  zero_rounding = record { walk = K; sets = λ q. absurd (no_test true refl q); valid = λ q. absurd (no_test true refl q) }

  abbrev on_rounds : Sets → Step Tables (List Sets)
  on_rounds = rounds k.fields (most_rounds k.fields ss₀) ss₀ []

  at_first : Stage (query_layer k.fields k.limits) 0 0 (all_rounds k.fields ss₀ (clear_in x)) (after (round_zero k.fields ss₀ (clear_in x)) on_rounds) (clear_in x) (clear_in x) x.scratch.now x.scratch.now
  at_first = begin (query_laws k.fields k.limits) 0 0 K.working.ready refl

  pub all_stuck : {e : Refusal} {y : Lent} → Rounded k true (λ t. Sp.zero_at k.fields) n x (Err e) y → AllAt k n i x (Err e) y
  all_stuck G = record { sets = []; post = record { post = stuck (query_laws k.fields k.limits) 0 0 G.post.post on_rounds at_first }; ended = tt }

  module _ {y : Lent} (p : y.pending ≡ x.pending) (G : Rounded k true (λ t. Sp.zero_at k.fields) n x (Ok tt) y) where
    pub all_copies : PreCopy y.states.words.now y.pending.now n 9 8
    all_copies = copy_asks G.under

    module _ {z : Lent} (M : OnlyMarks y z) (q : z.pending ≡ y.pending) (E : z.states.words.now ≡ copy_words 9 8 (seconds y.pending.now 0 n) y.states.words.now) where
      zero_post : GoesQuery k 0 0 clear_in (SetsOn k.fields ss₀) (λ u. G.next) (round_zero k.fields ss₀) x (Ok (tt {0})) z
      zero_post = goes_on _ G.post (copied_clear G.under M q E) (rw M.scratch refl)

      pub all_going : GoingIn k z n G.next i
      all_going =
          let P = (progress_begin K.working.ready.ordered K.links zero_post.post.is).1 in
          record {
            rounding = record { walk = copied_walk G.under M q E; sets = λ z. copied_sets G.under M q E; valid = λ z y j. now_valid P y };
            progress = rw q (rw p P);
            among = rw q (rw p m);
          }

      pub all_done : {r : Result (Option ℕ) Refusal} {w : Lent} → RoundsGive k n i z r w → AllAt k n i x r w
      all_done {r} {w} H =
          let B = H.gives G.next all_going in
          record {
            sets = B.sets;
            post = record {
              post = finish (query_laws k.fields k.limits) 0 0 (next (query_laws k.fields k.limits) 0 0 zero_post.post (all_of 0 0) on_rounds at_first) r
                  (subst (λ (t : List ℕ). Post (query_layer k.fields k.limits) 0 0 (λ τ w. Unit) (λ (f : Option ℕ). B.sets) (rounds k.fields (most_rounds k.fields (seconds t 0 n)) (seconds t 0 n) [] G.next (clear_in z)) (clear_in z) r (clear_in w) z.scratch.now w.scratch.now) same B.post.post) (all_of 0 0);
            };
            ended = B.ended;
          }
        where
          same : z.pending.now ≡ x.pending.now
          same = rw q (rw p refl)

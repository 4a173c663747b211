-- A line of the book in two runs (specs/Continued: LineContinued, ConstructorContinued).
use Rattle.std.specs.Prelude.{if◌then◌else◌}
use mathlib.Core.Path.{◌≡◌, refl, sym, ◌∙◌, ap, subst}
use mathlib.Core.Bool.{Bool, true, false, ◌&&◌, not}
use mathlib.Core.List.{List, [], ◌∷◌, ◌++◌, map, append_assoc}
use mathlib.Core.Option.{Option, none, some}
use Prim.Native.Nat.{ℕ, ◌-◌, ◌≤◌, ◌<◌}
use native.Mathlib.Omega.{arith}
use lib.Dec.{leb, ltb}
use lib.ListN.{length, length-append}
use borrow.Author.Tests.{le-leb, leb-true, ltb-true, lt-ltb}
use Rattle.common.specs.Outcome.{Outcome, refused, given}
use Rattle.common.specs.Runs.{placed}
use Rattle.netkat.specs.Rules.{Rule, In}
use Rattle.netkat_steps.specs.ListSteps.{Edge}
use Rattle.netkat.specs.Search.{Verdict}
use Rattle.sp_steps.proofs.Size as SpSize
use Rattle.spp_steps.specs.Model as Spp
use Rattle.spp_steps.proofs.Laws.{by_test, false_true}
use Rattle.aut_steps.specs.Tables.{SPP, Limits, Aut}
use Rattle.aut_steps.proofs.Languages.{◌then◌}
use Rattle.aut_steps.specs.Wf.{states, kind}
use Rattle.aut_steps.proofs.StepSpec as Goes
use Rattle.aut_steps.proofs.StepSpec.{StepSpec}
use Rattle.aut_steps.specs.StepSpec.{Gone}
use Rattle.aut_steps.specs.Meaning.{rule}
use Rattle.aut_steps.proofs.Meaning as Meant
use Rattle.book_construct_steps.specs.Lines.{Line, means, make, Asked}
use Rattle.book_construct_steps.proofs.LineLaws.{make_goes}
use Rattle.aut_delta_steps.specs.Epsilon.{epsilon_of}
use Rattle.aut_delta_steps.specs.Delta.{count_of, store, put_aut, on_aut}
use Rattle.aut_delta_steps.specs.Fits.{Since}
use Rattle.aut_delta_steps.specs.Wf.{memo}
use Rattle.aut_delta_steps.proofs.Wf.{worked_since, list_there}
use Rattle.aut_delta_steps.proofs.Extends.{went_since}
use Rattle.aut_query_steps.specs.Tables.{Tables, put_base, on_base, live_of, ExtTables}
use Rattle.aut_query_steps.proofs.Tables.{gone_later}
use Rattle.aut_query_steps.proofs.Steps.{ends_gives}
use Rattle.aut_query_steps.proofs.PrunedLaws.{pruned_goes}
use Rattle.aut_why_steps.proofs.WhyLaws.{why_ends}
use Rattle.aut_replay.proofs.Delta.{settled_since}
use Rattle.aut_replay.proofs.Epsilon.{was_there}
use Rattle.aut_free.proofs.Alike as Alike
use Rattle.aut_free.proofs.Alike.{AlikeRuns}
use Rattle.aut_free.proofs.Twin.{TwinAut}
use Rattle.aut_free.proofs.Constructors.{make_free}
use Rattle.book_steps.specs.Reader as Reader
use Rattle.book_steps.specs.Reader.{Query, Instruction, Resolved, makes, asks, resolve}
use Rattle.book_steps.specs.Answers.{name_of, empty_answer, live_answer, pruned_answer, why_answer}
use Rattle.book_steps.specs.Meaning.{Same, Matched}
use Rattle.book_steps.specs.Demands.{InOrder}
use Rattle.book_steps.specs.Run as Run
use Rattle.book_steps.specs.Run.{Lent, Setting, RunState, place, after_making, after_asking, execute, step}
use Rattle.book_steps.proofs.Meaning as Meaning
use Rattle.book_steps.proofs.Meaning.{both, neither, matched_more, matched_grown, LineAlike, tell_alike, alike_asked, alike_means}
use Rattle.book_steps.proofs.Lines.{room_later, in_order}
use Rattle.image_continued.specs.Records.{SameRecords}
use Rattle.image_continued.specs.Follow.{Follows, stops, lacks, comes, Never}
use Rattle.image_continued.specs.Mode.{Mode, InStep, Allowed}
use Rattle.image_continued.specs.Continued.{live_at, reworks_query, reworks_resolved, reworks, Continues, LineContinued, ConstructorContinued}
use Rattle.image_continued.proofs.Records.{twin_of, of_twin, kind_same}
use Rattle.image_continued.proofs.Follow.{follows_bind, follows_as, follows_with, follows_never}
use Rattle.image_continued.proofs.Epsilon.{value_same}
use Rattle.image_continued.proofs.Delta.{TwinStores, epsilons_of, list_one}
use Rattle.image_continued.proofs.Tables.{TwinTables, OnTables, base_both}
use Rattle.image_continued.proofs.Search.{empty_follows}
use Rattle.image_continued.proofs.Packets.{live_follows}
use Rattle.image_continued.proofs.Pruned.{pruned_follows}
use Rattle.image_continued.proofs.Why.{why_follows}

-- ---- a constructor

-- the same state was made in both
record MadeIs (N : ℕ) (L : Limits) (mode : Mode) (l : Line ℕ) (σ τ σ' τ' : Tables) (x y : ℕ) : Type 0 where
  one : x ≡ y
  onward : OnTables N L mode σ τ σ' τ'
  left : Meant.Is N (In (means (rule N σ.base.aut) l)) σ'.base.aut x
  right : Meant.Is N (In (means (rule N τ.base.aut) l)) τ'.base.aut y

make_follow : {N : ℕ} {L : Limits} {mode : Mode} {σ τ : Tables} → TwinTables N L mode σ τ → (l : Line ℕ) → Asked N (states σ.base.aut) l
    → Follows Never (MadeIs N L mode l σ τ) (on_base (on_aut (make N L l)) σ) (on_base (on_aut (make N L l)) τ)
unfolding count_of epsilon_of
make_follow {N} {L} {mode} {σ} {τ} t l a =
    go (make_free N L l σ.base.aut τ.base.aut (twin_of s)) (make_goes t.left.worked.good l a) (make_goes t.right.worked.good l (subst (λ (n : ℕ). Asked N n l) s.count a))
  where
    s : SameRecords σ.base.aut τ.base.aut
    s = t.base.less.knows.same

    since : {ρ α : Aut} {P : Aut → ℕ → Type 0} {x : ℕ} → Gone N L P ρ α x → Since N L ρ α
    since r = record { grown = r.grown; memos = r.memos; good = r.good }

    go : {o o' : Outcome Aut ℕ} → AlikeRuns (TwinAut σ.base.aut.states.words τ.base.aut.states.words) o o' → StepSpec N L (Meant.Is N (In (means (rule N σ.base.aut) l))) σ.base.aut o
        → StepSpec N L (Meant.Is N (In (means (rule N τ.base.aut) l))) τ.base.aut o'
        → Follows Never (MadeIs N L mode l σ τ) (placed put_base σ (placed put_aut σ.base o)) (placed put_base τ (placed put_aut τ.base o'))
    go Alike.stops g g' = stops
    go (Alike.comes {σ = α} {τ = β} r) (Goes.comes g) (Goes.comes g') =
        comes (record { one = refl; onward = base_both t twins (went_since (since g)) (went_since (since g')); left = g.holds; right = g'.holds })
      where
        twins : TwinStores N L (store α σ.base.transitions) (store β τ.base.transitions)
        twins = record {
          less = record {
            knows = record {
              same = of_twin r;
              epsilons = λ i c. omega (arith, g.memos i 4 (omega arith) (omega arith), t.base.less.knows.epsilons i (omega (arith, g'.memos i 4 (omega arith) (omega arith))));
            };
            lists = λ i c. omega (arith, g.memos i 6 (omega arith) (omega arith), t.base.less.lists i (omega (arith, g'.memos i 6 (omega arith) (omega arith))));
          };
          room = t.base.room;
          left = record { worked = worked_since t.base.left.worked (since g); settled = settled_since t.base.left.worked t.base.left.settled (since g) };
          right = record { worked = worked_since t.base.right.worked (since g'); settled = settled_since t.base.right.worked t.base.right.settled (since g') };
        }

-- ---- the answers

-- what is not worked out again is not stored in the first, or stored in both
not_again : {v v' : ℕ} → (ltb 0 v && not (ltb 0 v')) ≡ false → 0 < v → 0 < v'
not_again {v} {v'} e p = by_test (ltb 0 v') (λ q. ltb-true 0 v' q) (λ q. absurd (false_true (sym e ∙ (λ d. lt-ltb 0 v p d && not (q d)))))

module _ (S : Setting) where
  abbrev N : ℕ
  N = S.fields

  -- a query whose answer is f of what is given, in tables of which Q holds
  query_follow : {mode : Mode} {σ τ : Tables} → TwinTables N S.limits mode σ τ → (q : Query) (name : List ℕ) (x : ℕ) → x < states σ.base.aut
      → (InStep mode → reworks_query q (live_of σ.base.aut.states.words x) (live_of τ.base.aut.states.words x) ≡ false)
      → Follows (Allowed mode) (λ σ' τ' a b. (a ≡ b) × TwinTables N S.limits mode σ' τ' × ExtTables σ σ' × ExtTables τ τ') (Run.query S q name x σ) (Run.query S q name x τ)
  query_follow t Reader.empty name x k f = follows_bind (empty_follows N S.limits S.entries _ S.budget x t k) (λ σ' τ' v v' (e, o).
      comes (ap (λ (r : Verdict × ℕ). empty_answer name r.0 r.1) e, o.twins, gone_later o.left, gone_later o.right))
  query_follow t Reader.live name x k f = follows_bind (live_follows S.entries t k (λ e. not_again (f e))) (λ σ' τ' l l' p.
      comes (ap (live_answer N name) (SpSize.size_den p.is.left ∙ sym (SpSize.size_den p.is.right)), p.twins, p.left, p.right))
  query_follow {σ = σ} {τ = τ} t Reader.pruned name x k f =
      follows_bind (follows_with (pruned_goes S.entries t.left k) (pruned_goes S.entries t.right (omega (arith, t.base.less.knows.same.count))) (pruned_follows S.entries t k (λ e. not_again (f e)))) (λ σ' τ' es es' ((e, s), p, p').
      comes (
        (λ d. pruned_answer name (map (λ (e : Edge). record { target = e.target; number = Spp.size (s.base.less.knows.same.nodes d).words N e.label }) (e d))),
        s,
        p.later,
        p'.later,
      ))
  query_follow t Reader.why name x k f =
      follows_bind (follows_with (ends_gives (why_ends S.entries t.left k)) (ends_gives (why_ends S.entries t.right (omega (arith, t.base.less.knows.same.count)))) (why_follows S.entries t k)) (λ σ' τ' o o' ((e, s), p, p').
      comes (ap (why_answer N) e, s, p.later, p'.later))

  -- ---- places

  module _ (lent : Lent) where
    pub twins_of : {mode : Mode} {before : List ℕ} {p q : RunState} → Continues S lent mode before p q → TwinTables N S.limits mode p.tables q.tables
    twins_of c = record {
      base = record {
        less = record { knows = record { same = c.records; epsilons = λ x m. omega (arith, c.epsilons x m) }; lists = λ x m. (c.lists x m).0 };
        room = c.left.in_order.tables.room.transitions.len ∙ sym c.right.in_order.tables.room.transitions.len;
        left = record { worked = c.left.in_order.ordered.worked; settled = c.left.settled };
        right = record { worked = c.right.in_order.ordered.worked; settled = c.right.settled };
      };
      left = c.left.in_order.ordered;
      right = c.right.in_order.ordered;
      lives = c.lives;
      sets = c.sets;
      words = c.same_lives;
      all = c.all_lives;
    }

    pub continues_of : {mode : Mode} {before : List ℕ} (p q : RunState) → TwinTables N S.limits mode p.tables q.tables → (R : List (Option (Rule N))) → InOrder S lent p R → InOrder S lent q R → p.lines ≡ q.lines
        → p.output ≡ before ++ q.output → Continues S lent mode before p q
    unfolding epsilon_of
    continues_of p q t R i j e f = record {
      rules = R;
      left = record { in_order = i; settled = t.base.left.settled };
      right = record { in_order = j; settled = t.base.right.settled };
      lines = e;
      output = f;
      records = t.base.less.knows.same;
      epsilons = λ x m.
          let l : x < states p.tables.base.aut = omega (arith, was_there t.right.worked.good x 4 m, t.base.less.knows.same.count) in
          one x l (t.base.less.knows.epsilons x m) m;
      lists = λ x m.
          let l : x < states p.tables.base.aut = omega (arith, list_there t.right.worked.good x m, t.base.less.knows.same.count) in
          (t.base.less.lists x m, list_one t.base l (t.base.less.lists x m) m);
      lives = t.lives;
      sets = t.sets;
      same_lives = t.words;
      all_lives = t.all;
    }
      where
        one : (x : ℕ) → x < states p.tables.base.aut → 0 < epsilon_of p.tables.base.aut.states.words x → 0 < epsilon_of q.tables.base.aut.states.words x
            → epsilon_of p.tables.base.aut.states.words x ≡ epsilon_of q.tables.base.aut.states.words x
        one x l a b =
            let n : kind p.tables.base.aut x ≡ SPP → ⊥ = λ z. omega (arith, t.left.worked.epsilons.none x l z) in
            let n' : kind q.tables.base.aut x ≡ SPP → ⊥ = λ z. n (kind_same t.base.less.knows.same x ∙ z) in
            omega (arith, value_same (epsilons_of t.base) l {e = epsilon_of p.tables.base.aut.states.words x - 1} {e' = epsilon_of q.tables.base.aut.states.words x - 1} (memo n (omega arith)) (memo n' (omega arith)))

    -- ---- a line

    module _ {mode : Mode} {before : List ℕ} {p q : RunState} (c : Continues S lent mode before p q) where
      abbrev R : List (Option (Rule N))
      R = c.rules

      t : TwinTables N S.limits mode p.tables q.tables
      t = twins_of c

      matched : Matched N p.tables.base.aut p.lines R
      matched = c.left.in_order.tables.matched

      matched' : Matched N q.tables.base.aut q.lines R
      matched' = c.right.in_order.tables.matched

      -- a constructor line
      made_follow : {l : Line ℕ} {m : Line (Rule N)} → LineAlike N p.tables.base.aut l m → LineAlike N q.tables.base.aut l m
          → Follows Never (λ p' q' x y. (x ≡ y) × Continues S lent mode before p' q') (execute S (makes l) p) (execute S (makes l) q)
      made_follow {l} {m} a b = go (make_follow t l (alike_asked a))
        where
          go : {o o' : Outcome Tables ℕ} → Follows Never (MadeIs N S.limits mode l p.tables q.tables) o o'
              → Follows Never (λ p' q' x y. (x ≡ y) × Continues S lent mode before p' q') (after_making S p o) (after_making S q o')
          go stops = stops
          go (comes {σ} {τ} {a = x} {b = y} d) = comes (
            d.one,
            continues_of (place σ (p.lines ++ some x ∷ []) p.output) (place τ (q.lines ++ some y ∷ []) q.output) d.onward.twins (R ++ some (means (λ r. r) m) ∷ [])
                (in_order S lent d.onward.twins.left (room_later S lent c.left.in_order.tables.room (gone_later d.onward.left) d.onward.twins.left)
                (matched_more (matched_grown t.left.worked.good d.onward.left.went.grown matched) (both (record { state = d.left.state; strings = d.left.strings then alike_means a }))))
                (in_order S lent d.onward.twins.right (room_later S lent c.right.in_order.tables.room (gone_later d.onward.right) d.onward.twins.right)
                (matched_more (matched_grown t.right.worked.good d.onward.right.went.grown matched') (both (record { state = d.right.state; strings = d.right.strings then alike_means b }))))
                (λ i. c.lines i ++ some (d.one i) ∷ []) c.output,
          )
          go {o = o} (lacks {number = number} x3) = elim x3 [ ]

      -- a query
      asked_follow : (k : Query) (a x : ℕ) {r : Rule N} → Same N p.tables.base.aut x r → (InStep mode → reworks_query k (live_at p x) (live_at q x) ≡ false) → Follows (Allowed mode) (λ p' q' x y. (x ≡ y) × Continues S lent mode before p' q') (execute S (asks k a x) p) (execute S (asks k a x) q)
      asked_follow k a x s f = go (query_follow t k (name_of a) x s.state f)
        where
          fits : (σ τ : Tables) (answer : List ℕ) → TwinTables N S.limits mode σ τ → ExtTables p.tables σ → ExtTables q.tables τ
              → Follows (Allowed mode) (λ p' q' x y. (x ≡ y) × Continues S lent mode before p' q') (after_asking S p (given σ answer)) (after_asking S q (given τ answer))
          fits σ τ answer u v w = at (leb (length (p.output ++ answer)) S.room) refl
            where
              less : length (p.output ++ answer) ≤ S.room → length (q.output ++ answer) ≤ S.room
              less l = omega (arith, length-append p.output answer, length-append q.output answer, ap length c.output, length-append before q.output)

              next : RunState → Tables → RunState
              next p σ = place σ (p.lines ++ none ∷ []) (p.output ++ answer)

              Both : Outcome RunState ℕ → Outcome RunState ℕ → Type 0
              Both o o' = Follows (Allowed mode) (λ p' q' x y. (x ≡ y) × Continues S lent mode before p' q') o o'

              at : (b : Bool) → leb (length (p.output ++ answer)) S.room ≡ b
                  → Both (if b then given (next p σ) 0 else refused 27) (if leb (length (q.output ++ answer)) S.room then given (next q τ) 0 else refused 27)
              at false e = stops
              at true e = follows_as refl (ap (λ (b : Bool). if b then given (next q τ) 0 else refused 27) (le-leb (length (q.output ++ answer)) S.room (less (leb-true _ _ e))))
                  (comes (
                    refl,
                    continues_of (next p σ) (next q τ) u (R ++ none ∷ [])
                        (in_order S lent u.left (room_later S lent c.left.in_order.tables.room v u.left) (matched_more (matched_grown t.left.worked.good v.grown matched) neither))
                        (in_order S lent u.right (room_later S lent c.right.in_order.tables.room w u.right) (matched_more (matched_grown t.right.worked.good w.grown matched') neither))
                        (λ i. c.lines i ++ none ∷ [])
                        (ap (λ (l : List ℕ). l ++ answer) c.output ∙ append_assoc before q.output answer),
                  ))

          go : {o o' : Outcome Tables (List ℕ)} → Follows (Allowed mode) (λ σ' τ' a b. (a ≡ b) × TwinTables N S.limits mode σ' τ' × ExtTables p.tables σ' × ExtTables q.tables τ') o o'
              → Follows (Allowed mode) (λ p' q' x y. (x ≡ y) × Continues S lent mode before p' q') (after_asking S p o) (after_asking S q o')
          go stops = stops
          go (lacks e) = lacks e
          go (comes {σ} {τ} {a} {b} (e, u, v, w)) = follows_as refl (ap (λ (b : List ℕ). after_asking S q (given τ b)) (sym e)) (fits σ τ a u v w)

      resolved : {z : Resolved ℕ} {w : Resolved (Rule N)} → Meaning.Alike N p.tables.base.aut z w → Meaning.Alike N q.tables.base.aut z w → (InStep mode → reworks_resolved z p q ≡ false)
          → Follows (Allowed mode) (λ p' q' x y. (x ≡ y) × Continues S lent mode before p' q') (execute S z p) (execute S z q)
      resolved (Meaning.makes a) (Meaning.makes b) f = follows_never (made_follow a b)
      resolved (Meaning.asks {q = k} {a} {x} s) b f = asked_follow k a x s f
      resolved Meaning.refuses b f = stops

      same_lines : (s : Instruction) → resolve N q.lines s ≡ resolve N p.lines s
      same_lines s = ap (λ (ls : List (Option ℕ)). resolve N ls s) (sym c.lines)

      told : (s : Instruction) → Meaning.Alike N q.tables.base.aut (resolve N p.lines s) (resolve N R s)
      told s = subst (λ (z : Resolved ℕ). Meaning.Alike N q.tables.base.aut z (resolve N R s)) (same_lines s) (tell_alike matched' s)

      step_follow : (i : Option Instruction) → (InStep mode → reworks S i p q ≡ false) → Follows (Allowed mode) (λ p' q' x y. (x ≡ y) × Continues S lent mode before p' q') (step S i p) (step S i q)
      step_follow none f = stops
      step_follow (some s) f = follows_as refl (ap (λ (z : Resolved ℕ). execute S z q) (same_lines s)) (resolved (tell_alike matched s) (told s) f)

      constructor_follow : (s : Instruction) (l : Line ℕ) → resolve N p.lines s ≡ makes l → Follows Never (λ p' q' x y. (x ≡ y) × Continues S lent mode before p' q') (step S (some s) p) (step S (some s) q)
      constructor_follow s l e = follows_as (ap (λ (z : Resolved ℕ). execute S z p) e) (ap (λ (z : Resolved ℕ). execute S z q) (same_lines s ∙ e))
          (go (subst (λ (z : Resolved ℕ). Meaning.Alike N p.tables.base.aut z (resolve N R s)) e (tell_alike matched s)) (subst (λ (z : Resolved ℕ). Meaning.Alike N q.tables.base.aut z (resolve N R s)) e (told s)))
        where
          go : {w : Resolved (Rule N)} → Meaning.Alike N p.tables.base.aut (makes l) w → Meaning.Alike N q.tables.base.aut (makes l) w
              → Follows Never (λ p' q' x y. (x ≡ y) × Continues S lent mode before p' q') (execute S (makes l) p) (execute S (makes l) q)
          go (Meaning.makes a) (Meaning.makes b) = made_follow a b

pub line_continued : (S : Setting) (lent : Lent) → LineContinued S lent
line_continued S lent mode before p q c i f = step_follow S lent c i f

pub constructor_continued : (S : Setting) (lent : Lent) → ConstructorContinued S lent
constructor_continued S lent mode before p q c s l e = constructor_follow S lent c s l e

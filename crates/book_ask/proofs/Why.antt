-- `why`: the rounds, the sentence, and the tables at rest again, put together.
use Rattle.std.specs.Prelude.{Result, Ok, Err, IfSome}
use Rattle.std.specs.Prelude as code
use mathlib.Core.Path.{◌≡◌, refl, sym, ◌∙◌, ap, subst}
use mathlib.Core.List.{List}
use mathlib.Core.Option.{Option, none, some}
use Prim.Native.Nat.{ℕ, ◌/◌, ◌^◌, ◌≤◌, ◌<◌}
use native.Mathlib.Omega.{arith}
use native.Mathlib.Nat.{mul-le-mul_left, mul-le-mul_right}
use lib.ListN.{length}
use lib.Pow.{pow_mono}
use Rattle.common.specs.Outcome.{Outcome, given, after}
use Rattle.refusal.specs.declared.Refusal.{Refusal}
use Rattle.aut_query_steps.specs.Tables.{Tables, ExtTables}
use Rattle.aut_query_steps.proofs.Steps.{Ends, comes}
use Rattle.aut_why_steps.specs.Why.{Rounds, fewest, pick_by, why_sets, why}
use Rattle.aut_why_steps.proofs.WhyLaws.{Whyed, why_sets_ends, hops_known, fewest_some}
use Rattle.aut_states.specs.Clauses.{limits_of}
use Rattle.aut_states.specs.declared.Limits.{Limits}
use Rattle.aut_relations.specs.declared.Aut.{Aut as Lent}
use Rattle.aut_sets.specs.Lent.{OnlyMarks, OnlySearch}
use Rattle.aut_query_stage.specs.Layer.{QueryReady}
use Rattle.aut_query_stage.specs.Lent.{tables_in, QueryAsked}
use Rattle.aut_query_calls.specs.Working.{clear_in}
use Rattle.aut_live_words.specs.Work.{seconds}
use Rattle.aut_live_words.specs.Clauses.{PreKeep}
use Rattle.aut_live_words.proofs.Held.{tables_marked}
use Rattle.aut_why_words.specs.Words.{PostClear}
use Rattle.aut_why_words.proofs.Walks.{walk_keeps, walk_cleared, walk_zeroed}
use Rattle.aut_why.specs.Clauses.{hops_of}
use Rattle.aut_why.specs.Clauses.{as_rounds, WhyAt}
use Rattle.book_why.specs.Clauses.{AnsweringIn, PreAnswer, WhyAnswered, PostAnswer}
use Rattle.book_why.proofs.Writing.{answered_itself}
use Rattle.book_steps.specs.Answers.{why_answer}
use Rattle.book_steps.specs.Reader as Reader
use Rattle.book_writer.specs.declared.output.Output.{Output}
use Rattle.book_memory.specs.declared.Setting.{Setting}
use Rattle.book_ask.specs.Clauses.{PostWhy}
use Rattle.book_ask.proofs.Join.{asks, ask_refused, ask_full, ask_told}

abbrev tells_why : (N x : ℕ) → Outcome Tables Rounds → Outcome Tables (List ℕ)
tells_why N x o = after (after o (λ r τ. given τ (pick_by N τ r.sets x (fewest N x 0 r.sets)))) (λ o τ. given τ (why_answer N o))

why_by : (S : Setting) (name : List ℕ) (x : ℕ) (a : Lent) (o : Output) → asks S Reader.why name x a o ≡ tells_why S.config.fields x (why_sets S.config.fields (limits_of S.config.limits) (length a.pending.now / 2) x (tables_in a))
unfolding why
why_by S name x a o = refl

given_of : {N : ℕ} {l : Limits} {lent : ℕ} {A : Type 0} {P : Tables → A → Type 0} {σ τ : Tables} {a : A} → Ends N (limits_of l) lent P σ (given τ a) → P τ a
given_of (comes v) = v

module _ (S : Setting) (x : ℕ) {a b : Lent} where
  pub why_refused : {o : Output} {e : Refusal} → WhyAt S.config x a (Err e) b → PostWhy S x (Err e) a b o o
  why_refused {o} A name = ask_refused S Reader.why name x a o (why_by S name x a o ∙ ap (tells_why S.config.fields x) A.post.is)

  module _ (Q : QueryAsked S.config a x) {n : ℕ} {f : code.Option ℕ} (A : WhyAt S.config x a (Ok (n, f)) b) where
    abbrev N : ℕ
    N = S.config.fields

    -- ---- the rounds are known

    whyed : Whyed N (limits_of S.config.limits) (length a.pending.now / 2) x (tables_in a) (clear_in b) (as_rounds (seconds b.pending.now 0 n) A.sets)
    whyed = given_of (subst (Ends N (limits_of S.config.limits) (length a.pending.now / 2) (Whyed N (limits_of S.config.limits) (length a.pending.now / 2) x (tables_in a)) (tables_in a)) A.post.is (why_sets_ends (length a.pending.now / 2) Q.query.ready.ordered Q.query.has))

    many : (k : ℕ) → k < length A.sets → k ≤ 2 ^ 55
    many k m =
        let ss : List ℕ = seconds b.pending.now 0 n in
        let c : length ss ≤ 16777216 = omega (arith, whyed.fits) in
        let d : 2 ^ N ≤ 2147483648 = pow_mono {j = 31} Q.query.ready.ready.few in
        omega (arith, m, A.why.few, mul-le-mul_right (2 ^ N) c, mul-le-mul_left 16777216 d)

    inside : (k : ℕ) → fewest N x 0 A.sets ≡ some k → k < length A.sets
    inside k q = let (j, e, F) = fewest_some N x 0 k A.sets q in omega (arith, e, F.inside)

    most : (o : Option ℕ) → fewest N x 0 A.sets ≡ o → IfSome (hops_of o) (λ k. k ≤ 2 ^ 55)
    most none q = tt
    most (some k) q = many k (inside k q)

    pub why_answering : AnsweringIn S.config b n A.sets f x
    why_answering = record {
      standing = A.why.standing;
      among = A.why.among;
      hops = A.why.hops;
      known = λ k q. let (w, e, len, h) = hops_known whyed k q in (w, e, inside k q, len);
      most = subst (λ (f : code.Option ℕ). IfSome f (λ k. k ≤ 2 ^ 55)) (sym A.why.hops) (most (fewest N x 0 A.sets) refl);
    }

    pub why_asks : PreAnswer S.config b n f x
    why_asks = record { members = b.members; rounds = A.sets; answering = why_answering }

    -- ---- the answer

    abbrev told : List ℕ
    told = why_answer N (pick_by N (clear_in b) A.sets x (fewest N x 0 A.sets))

    why_is : (name : List ℕ) (o : Output) → asks S Reader.why name x a o ≡ given (clear_in b) told
    why_is name o = why_by S name x a o ∙ ap (tells_why N x) A.post.is

    module _ {o : Output} {r : Result Unit Refusal} {c : Lent} {o' : Output} (C : OnlySearch b c) (B : PostAnswer S.config n f x b o r c o') where
      answered : WhyAnswered S.config n A.sets x b o r c o'
      answered = answered_itself C B A.sets why_answering

      pub why_keeps : PreKeep c.states.words.now c.pending.now n
      why_keeps = walk_keeps answered.standing.walk

    pub why_full : {o : Output} {e : Refusal} {c : Lent} {o' : Output} → OnlySearch b c → PostAnswer S.config n f x b o (Err e) c o' → PostWhy S x (Err e) a c o o'
    why_full {o} C B name = ask_full S Reader.why name x a o (why_is name o) (answered C B).answers

    module _ {o : Output} {u : Unit} {c : Lent} {o' : Output} (C : OnlySearch b c) (B : PostAnswer S.config n f x b o (Ok u) c o') {d : Lent} (K : OnlyMarks c d) (E : PostClear n c.states.words.now c.pending.now d.states.words.now d.pending.now) where
      cleared : tables_in d ≡ clear_in c
      cleared = tables_marked K ∙ walk_cleared (answered C B).standing.walk E

      rests : tables_in d ≡ clear_in b
      rests = cleared ∙ (answered C B).unmade

      ready : QueryReady N S.config.limits (tables_in d) d.scratch.now
      ready = subst (λ (τ : Tables). QueryReady N S.config.limits τ d.scratch.now) (sym cleared) (rw K.scratch (answered C B).standing.walk.working.ready)

      pub why_told : PostWhy S x (Ok u) a d o o'
      why_told name = ask_told S Reader.why name x a o (why_is name o ∙ ap (λ (τ : Tables). given τ told) (sym rests)) (subst (ExtTables (tables_in a)) (sym rests) A.post.then.ext) ready (walk_zeroed (answered C B).standing.walk E) (Ok u) (answered C B).answers

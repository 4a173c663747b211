-- The rest of the text in two runs (specs/Continued: RunContinued).
use Rattle.std.specs.Prelude.{if◌then◌else◌}
use mathlib.Core.Path.{◌≡◌, refl, sym, ◌∙◌, ap}
use mathlib.Core.Logic.{◌⊎◌, inl, inr}
use mathlib.Core.Bool.{Bool, true, false, ◌&&◌, not}
use mathlib.Core.List.{List, [], ◌∷◌, ◌++◌, append_assoc}
use mathlib.Core.Option.{Option, none, some}
use Prim.Native.Nat.{ℕ, zero, suc}
use lib.Dec.{leb, ltb}
use lib.ListN.{length}
use Rattle.common.specs.Outcome.{Outcome, refused, given, Gives, refusal, gives}
use borrow.Author.Tests.{ltb-true, lt-ltb}
use Rattle.spp_steps.proofs.Laws.{by_test, false_true}
use Rattle.book_construct_steps.specs.Lines.{make}
use Rattle.aut_delta_steps.specs.Delta.{on_aut}
use Rattle.aut_query_steps.specs.Tables.{Tables, on_base}
use Rattle.book_steps.specs.Text.{Cut, line, unended, cut, words}
use Rattle.book_steps.specs.Reader as Reader
use Rattle.book_steps.specs.Reader.{Query, Instruction, parse, Resolved, makes, asks, refuses, resolve}
use Rattle.book_steps.specs.Answers.{name_of}
use Rattle.book_steps.specs.Run as Run
use Rattle.book_steps.specs.Run.{Lent, Setting, RunState, after_making, after_asking, execute, step, Ran, stopped, onward, with_line, run}
use Rattle.image_continued.specs.Follow.{Follows, lacks, comes}
use Rattle.image_continued.specs.Mode.{Mode, apart, whole, InStep, Allowed, no_node, no_entry}
use Rattle.image_continued.specs.Continued.{live_at, reworks_query, reworks_resolved, reworks, WorksAgain, here, later, output_of, Continues, RunsOn, ended, further, short, RunContinued, NeverAgain}
use Rattle.image_continued.proofs.Follow.{follows_as}
use Rattle.image_continued.proofs.Lines.{line_continued}

-- ---- what is printed stays

append_nil : {A : Type 0} (l : List A) → l ++ [] ≡ l
append_nil [] = refl
append_nil (x ∷ xs) = ap (λ l. x ∷ l) (append_nil xs)

-- output that goes on from o
record More (o o' : List ℕ) : Type 0 where
  more : List ℕ
  is : o' ≡ o ++ more

more_refl : (o : List ℕ) → More o o
more_refl o = record { more = []; is = sym (append_nil o) }

more_trans : {a b c : List ℕ} → More a b → More b c → More a c
more_trans {a} p q = record { more = p.more ++ q.more; is = q.is ∙ ap (λ (l : List ℕ). l ++ q.more) p.is ∙ append_assoc a p.more q.more }

module _ (S : Setting) where
  made_more : (p : RunState) (o : Outcome Tables ℕ) → Gives (λ q x. More p.output q.output) (after_making S p o)
  made_more p (refused number) = refusal
  made_more p (given σ x) = gives (more_refl p.output)

  asked_more : (p : RunState) (o : Outcome Tables (List ℕ)) → Gives (λ q x. More p.output q.output) (after_asking S p o)
  asked_more p (refused number) = refusal
  asked_more p (given σ answer) = go (leb (length (p.output ++ answer)) S.room)
    where
      Go : Outcome RunState ℕ → Type 0
      Go o = Gives (λ q x. More p.output q.output) o

      go : (b : Bool) → Go (if b then given (Run.place σ (p.lines ++ none ∷ []) (p.output ++ answer)) 0 else refused 27)
      go true = gives (record { more = answer; is = refl })
      go false = refusal

  step_more : (p : RunState) (i : Option Instruction) → Gives (λ q x. More p.output q.output) (step S i p)
  step_more p none = refusal
  step_more p (some s) = go (resolve S.fields p.lines s)
    where
      go : (z : Resolved ℕ) → Gives (λ q x. More p.output q.output) (execute S z p)
      go (makes l) = made_more p (on_base (on_aut (make S.fields S.limits l)) p.tables)
      go (asks q a x) = asked_more p (Run.query S q (name_of a) x p.tables)
      go (refuses e) = refusal

  run_more : (left : ℕ) (text : List ℕ) (k : ℕ) (p : RunState) → More p.output (output_of S (run S left text k p))
  unfolding run
  run_more zero [] k p = more_refl p.output
  run_more zero (b ∷ text) k p = more_refl p.output
  run_more (suc left) [] k p = more_refl p.output
  run_more (suc left) (b ∷ text) k p = go (λ rest q. run_more left rest (suc k) q) (cut (b ∷ text))
    where
      on : (rest : List ℕ) → ((q : RunState) → More q.output (output_of S (run S left rest (suc k) q))) → (o : Outcome RunState ℕ) → Gives (λ q x. More p.output q.output) o
          → More p.output (output_of S (onward S (run S left rest) k p o))
      on rest f (refused number) g = more_refl p.output
      on rest f (given q x) (gives m) = more_trans m (f q)

      go : ((rest : List ℕ) (q : RunState) → More q.output (output_of S (run S left rest (suc k) q))) → (c : Cut) → More p.output (output_of S (with_line S (run S left) k p c))
      go f unended = more_refl p.output
      go f (line l rest) = on rest (f rest) (step S (parse (words l)) p) (step_more p (parse (words l)))

  -- ---- the two runs

  module _ (lent : Lent) where
    -- with less to be excused
    pub runs_excuse : {A B : Type 0} {before : List ℕ} {r r' : Ran S} → (A → B) → RunsOn S lent A before r r' → RunsOn S lent B before r r'
    runs_excuse f (ended c) = ended c
    runs_excuse f (further more e) = further more e
    runs_excuse f (short more a n e) = short more (f a) n e

    -- packet nodes no longer go in step
    pub falls_apart : {mode : Mode} {before : List ℕ} {p q : RunState} → Continues S lent mode before p q → Continues S lent apart before p q
    falls_apart c = record {
      rules = c.rules;
      left = c.left;
      right = c.right;
      lines = c.lines;
      output = c.output;
      records = c.records;
      epsilons = c.epsilons;
      lists = c.lists;
      lives = c.lives;
      sets = λ e. absurd e;
      same_lives = λ e. absurd e;
      all_lives = λ e. absurd e;
    }

    numbers : {mode : Mode} {number : ℕ} → Allowed mode number → ((number ≡ 20) ⊎ (number ≡ 24)) × (InStep mode → ⊥)
    numbers (no_node n) = (inl refl, n)
    numbers (no_entry n) = (inr refl, n)

    module _ {before : List ℕ} where
      -- both are refused
      both_stop : {A : Type 0} {mode : Mode} {p q : RunState} {number number' k k' : ℕ} → Continues S lent mode before p q → RunsOn S lent A before (stopped number k p.output) (stopped number' k' q.output)
      both_stop {p = p} c = further [] (sym c.output ∙ sym (append_nil p.output))

      onward_follow : (A : Type 0) (mode : Mode) (left : ℕ) (rest : List ℕ) (k k' : ℕ) {p q : RunState} → Continues S lent mode before p q → ((InStep mode → ⊥) → A)
          → (i : Option Instruction) (o o' : Outcome RunState ℕ) → step S i p ≡ o → step S i q ≡ o'
          → ((p' q' : RunState) (x y : ℕ) → step S i p ≡ given p' x → step S i q ≡ given q' y → Continues S lent mode before p' q' → RunsOn S lent A before (run S left rest (suc k) p') (run S left rest (suc k') q'))
          → Gives (λ q x. More p.output q.output) o → Gives (λ p' x. More q.output p'.output) o'
          → Follows (Allowed mode) (λ p' q' x y. (x ≡ y) × Continues S lent mode before p' q') o o' → RunsOn S lent A before (onward S (run S left rest) k p o) (onward S (run S left rest) k' q o')
      onward_follow A mode left rest k k' {p} {q} c a i (refused number) (refused number') d e f g h w = both_stop c
      onward_follow A mode left rest k k' {p} {q} c a i (refused number) (given q' y) d e f g (gives m) w =
          let z : More q.output (output_of S (run S left rest (suc k') q')) = more_trans m (run_more left rest (suc k') q') in
          further z.more (ap (λ (l : List ℕ). before ++ l) z.is ∙ sym (append_assoc before q.output z.more) ∙ ap (λ (l : List ℕ). l ++ z.more) (sym c.output))
      onward_follow A mode left rest k k' {p} {q} c a i (given p' x) (refused number) d e f (gives m) h (lacks n) =
          let z : More p.output (output_of S (run S left rest (suc k) p')) = more_trans m (run_more left rest (suc k) p') in
          short z.more (a (numbers n).1) (numbers n).0 (z.is ∙ ap (λ (l : List ℕ). l ++ z.more) c.output ∙ append_assoc before q.output z.more)
      onward_follow A mode left rest k k' c a i (given p' x) (given q' y) d e f g h (comes w) = f p' q' x y d e w.1

    run_follow : {before : List ℕ} (mode : Mode) (left : ℕ) (text : List ℕ) (k k' : ℕ) {p q : RunState} → Continues S lent mode before p q
        → RunsOn S lent (InStep mode → WorksAgain S left text p q) before (run S left text k p) (run S left text k' q)
    unfolding run
    run_follow mode zero [] k k' c = ended c
    run_follow mode zero (b ∷ text) k k' c = both_stop c
    run_follow mode (suc left) [] k k' c = ended c
    run_follow {before} mode (suc left) (b ∷ text) k k' {p} {q} c =
        at_cut (λ mode rest p' q' d. run_follow mode left rest (suc k) (suc k') d) (cut (b ∷ text)) refl
      where
        Rest : List ℕ → Type 0
        Rest rest = (mode : Mode) (p' q' : RunState) → Continues S lent mode before p' q' → RunsOn S lent (InStep mode → WorksAgain S left rest p' q') before (run S left rest (suc k) p') (run S left rest (suc k') q')

        -- no live set is worked out again
        new : (l rest : List ℕ) → cut (b ∷ text) ≡ line l rest → Rest rest → reworks S (parse (words l)) p q ≡ false
            → RunsOn S lent (InStep mode → WorksAgain S (suc left) (b ∷ text) p q) before (onward S (run S left rest) k p (step S (parse (words l)) p)) (onward S (run S left rest) k' q (step S (parse (words l)) q))
        new l rest e f n = onward_follow (InStep mode → WorksAgain S (suc left) (b ∷ text) p q) mode left rest k k' c (λ z s. absurd (z s)) (parse (words l)) (step S (parse (words l)) p) (step S (parse (words l)) q) refl refl
            (λ p' q' x y u v d. runs_excuse (λ a s. later e u v (a s)) (f mode p' q' d))
            (step_more p (parse (words l))) (step_more q (parse (words l))) (line_continued S lent mode before p q c (parse (words l)) (λ s. n))

        -- one is
        old : (l rest : List ℕ) → cut (b ∷ text) ≡ line l rest → Rest rest → reworks S (parse (words l)) p q ≡ true
            → RunsOn S lent (InStep mode → WorksAgain S (suc left) (b ∷ text) p q) before (onward S (run S left rest) k p (step S (parse (words l)) p)) (onward S (run S left rest) k' q (step S (parse (words l)) q))
        old l rest e f n = onward_follow (InStep mode → WorksAgain S (suc left) (b ∷ text) p q) apart left rest k k' (falls_apart c) (λ z s. here e n) (parse (words l)) (step S (parse (words l)) p) (step S (parse (words l)) q) refl refl
            (λ p' q' x y u v d. runs_excuse (λ a s. here e n) (f apart p' q' d))
            (step_more p (parse (words l))) (step_more q (parse (words l))) (line_continued S lent apart before p q (falls_apart c) (parse (words l)) (λ s. absurd s))

        at_cut : ((mode : Mode) (rest : List ℕ) (p' q' : RunState) → Continues S lent mode before p' q' → RunsOn S lent (InStep mode → WorksAgain S left rest p' q') before (run S left rest (suc k) p') (run S left rest (suc k') q'))
            → (z : Cut) → cut (b ∷ text) ≡ z → RunsOn S lent (InStep mode → WorksAgain S (suc left) (b ∷ text) p q) before (with_line S (run S left) k p z) (with_line S (run S left) k' q z)
        at_cut f unended e = both_stop c
        at_cut f (line l rest) e = by_test (reworks S (parse (words l)) p q) (old l rest e (λ mode. f mode rest)) (new l rest e (λ mode. f mode rest))

    -- ---- none is worked out again

    fresh : {before : List ℕ} {p q : RunState} → Continues S lent whole before p q → (i : Option Instruction) → reworks S i p q ≡ false
    fresh c none = refl
    fresh {p = p} {q = q} c (some s) = go (resolve S.fields p.lines s)
      where
        stored : (x : ℕ) → (ltb 0 (live_at p x) && not (ltb 0 (live_at q x))) ≡ false
        stored x = by_test (ltb 0 (live_at p x))
            (λ e. λ d. e d && not (lt-ltb 0 (live_at q x) (c.all_lives tt x (ltb-true 0 (live_at p x) e)) d))
            (λ e. λ d. e d && not (ltb 0 (live_at q x)))

        query : (k : Query) (x : ℕ) → reworks_query k (live_at p x) (live_at q x) ≡ false
        query Reader.empty x = refl
        query Reader.live x = stored x
        query Reader.pruned x = stored x
        query Reader.why x = refl

        go : (z : Resolved ℕ) → reworks_resolved z p q ≡ false
        go (makes l) = refl
        go (asks k a x) = query k x
        go (refuses e) = refl

    next : {before : List ℕ} {p q p' q' : RunState} {x y : ℕ} → Continues S lent whole before p q → (i : Option Instruction) → step S i p ≡ given p' x → step S i q ≡ given q' y → Continues S lent whole before p' q'
    next {before} {p} {q} {p'} {q'} {x} {y} c i u v = go (follows_as (sym u) (sym v) (line_continued S lent whole before p q c i (λ s. fresh c i)))
      where
        go : Follows (Allowed whole) (λ p' q' x y. (x ≡ y) × Continues S lent whole before p' q') (given p' x) (given q' y) → Continues S lent whole before p' q'
        go (comes w) = w.1

    never_follow : {before : List ℕ} {left : ℕ} {text : List ℕ} {p q : RunState} → Continues S lent whole before p q → WorksAgain S left text p q → ⊥
    never_follow c (here {l = l} e n) = false_true (sym (fresh c (parse (words l))) ∙ n)
    never_follow c (later {l = l} e u v w) = never_follow (next c (parse (words l)) u v) w

pub run_continued : (S : Setting) (lent : Lent) → RunContinued S lent
run_continued S lent mode before p q c left text k k' = run_follow S lent mode left text k k' c

pub never_again : (S : Setting) (lent : Lent) → NeverAgain S lent
never_again S lent before p q c left text w = never_follow S lent c w

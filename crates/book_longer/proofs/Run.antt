-- The lines of a book on longer tables (specs/Longer: QueryLonger, RunLonger): a line, then a run from any two places of which the first is in order.
use Rattle.std.specs.Prelude.{if◌then◌else◌}
use mathlib.Core.Path.{◌≡◌, refl, sym, ◌∙◌, ap, subst}
use mathlib.Core.Bool.{Bool, true, false}
use mathlib.Core.List.{List, [], ◌∷◌, ◌++◌, map, append-nil, append_assoc}
use mathlib.Core.Option.{Option, none, some}
use Prim.Native.Nat.{ℕ, zero, suc, ◌≤◌, ◌<◌}
use native.Mathlib.Omega.{arith}
use lib.Dec.{leb}
use lib.ListN.{length}
use borrow.Author.Tests.{leb-true, le-leb}
use Rattle.common.specs.Outcome.{Outcome, refused, given, Gives, gives, refusal}
use Rattle.spp_steps.proofs.Laws.{false_true}
use Rattle.netkat.specs.Rules.{Rule}
use Rattle.netkat_steps.specs.ListSteps.{Edge}
use Rattle.aut_steps.specs.Tables.{Limits}
use Rattle.aut_steps.specs.Wf.{states}
use Rattle.book_construct_steps.specs.Lines.{make}
use Rattle.aut_delta_steps.specs.Delta.{on_aut}
use Rattle.aut_query_steps.specs.Tables.{Tables, on_base, WfTables}
use Rattle.book_steps.specs.Text.{Cut, line, unended, cut, words}
use Rattle.book_steps.specs.Reader as Reader
use Rattle.book_steps.specs.Reader.{Query, Instruction, parse, Resolved, makes, asks, refuses, resolve}
use Rattle.book_steps.specs.Answers.{name_of, live_answer, pruned_answer}
use Rattle.book_steps.specs.Demands.{InOrder}
use Rattle.book_steps.specs.Run.{Lent, Setting, RunState, place, query, after_making, after_asking, execute, step, Ran, onward, with_line, run}
use Rattle.book_steps.specs.RunSpec.{Point}
use Rattle.book_steps.proofs.Meaning as Meaning
use Rattle.book_steps.proofs.Meaning.{tell_alike}
use Rattle.book_steps.proofs.Lines as Lines
use Rattle.book_steps.proofs.Lines.{Lined, lined}
use Rattle.book_longer.specs.Longer.{LongerTables, LongerPlace, no_output, Follows, lacked, same_refusal, goes, QueryLonger, LongerSetting, Front, output_of, RanFollows, ends, stops, lacks, StepLonger, RunLonger}
use Rattle.book_longer.proofs.Follow.{follows_bind, follows_value}
use Rattle.book_longer.proofs.Sets as Sets
use Rattle.book_longer.proofs.Relations as Relations
use Rattle.book_longer.proofs.Constructors.{make_follows}
use Rattle.book_longer.proofs.Queries.{aut_plain}
use Rattle.book_longer.proofs.Search.{is_empty_follows}
use Rattle.book_longer.proofs.Live.{live_follows}
use Rattle.book_longer.proofs.Pruned.{pruned_follows}
use Rattle.book_longer.proofs.Why.{why_follows}

-- ---- queries

pub queries_follow : (N : ℕ) (L : Limits) → QueryLonger N L
queries_follow N L entries more wide σ τ x o k r = record {
  empty = λ budget. is_empty_follows wide budget x o.worked k r;
  live = live_follows wide x σ τ o.worked k r;
  pruned = pruned_follows wide x σ τ o k r;
  why = why_follows wide x σ τ o.worked k r;
}

-- ---- a line

front_refl : (xs : List ℕ) → Front xs xs
front_refl xs = record { rest = []; is = sym (append-nil xs) }

pub front_trans : {xs ys zs : List ℕ} → Front xs ys → Front ys zs → Front xs zs
front_trans {xs} {ys} f g = record { rest = f.rest ++ g.rest; is = g.is ∙ ap (λ (l : List ℕ). l ++ g.rest) f.is ∙ append_assoc xs f.rest g.rest }

-- settings that differ in entries and room
abbrev lending : Setting → (entries room : ℕ) → Setting
lending S e m = record { fields = S.fields; budget = S.budget; limits = S.limits; entries = e; room = m }

module _ (S : Setting) (entries room : ℕ) (wide : S.entries ≤ entries) (long : S.room ≤ room) where
  abbrev N : ℕ
  N = S.fields

  abbrev T : Setting
  T = lending S entries room

  query_follows : (q : Query) (name : List ℕ) (x : ℕ) (σ τ : Tables) → WfTables N S.limits σ → x < states σ.base.aut → LongerTables σ τ → Follows LongerTables (query S q name x σ) (query T q name x τ)
  query_follows Reader.empty name x σ τ o k r = follows_bind ((queries_follow N S.limits S.entries entries wide σ τ x o k r).empty S.budget) (λ σ₁ τ₁ v r₁. goes r₁)
  query_follows Reader.live name x σ τ o k r =
      follows_bind (queries_follow N S.limits S.entries entries wide σ τ x o k r).live (λ σ₁ τ₁ h r₁. follows_value r₁ (λ d. live_answer N name (Sets.size_same r₁.sets.words N h d)))
  query_follows Reader.pruned name x σ τ o k r =
      follows_bind (queries_follow N S.limits S.entries entries wide σ τ x o k r).pruned (λ σ₁ τ₁ es r₁.
      follows_value r₁ (λ d. pruned_answer name (map (λ (e : Edge). record { target = e.target; number = Relations.size_same r₁.base.aut.nodes.words N e.label d }) es)))
  query_follows Reader.why name x σ τ o k r = follows_bind (queries_follow N S.limits S.entries entries wide σ τ x o k r).why (λ σ₁ τ₁ v r₁. goes r₁)

  made_follows : (lines : List (Option ℕ)) (out : List ℕ) (σ τ : Tables) {o u : Outcome Tables ℕ} → Follows LongerTables o u → Follows LongerPlace (after_making S (place σ lines out) o) (after_making T (place τ lines out) u)
  made_follows lines out σ τ (lacked n) = lacked n
  made_follows lines out σ τ same_refusal = same_refusal
  made_follows lines out σ τ (goes r) = goes (record { tables = r; lines = refl; output = refl })

  asked_follows : (lines : List (Option ℕ)) (out : List ℕ) (σ τ : Tables) {o u : Outcome Tables (List ℕ)} → Follows LongerTables o u → Follows LongerPlace (after_asking S (place σ lines out) o) (after_asking T (place τ lines out) u)
  asked_follows lines out σ τ (lacked n) = lacked n
  asked_follows lines out σ τ same_refusal = same_refusal
  asked_follows lines out σ₀ τ₀ (goes {σ} {τ} {a = answer} r) =
      go (leb (length (out ++ answer)) S.room) (leb (length (out ++ answer)) room) (λ b. le-leb (length (out ++ answer)) room (omega (arith, leb-true (length (out ++ answer)) S.room b)))
    where
      go : (b c : Bool) → (b ≡ true → c ≡ true)
          → Follows {A = ℕ} LongerPlace (if b then given (place σ (lines ++ none ∷ []) (out ++ answer)) 0 else refused 27) (if c then given (place τ (lines ++ none ∷ []) (out ++ answer)) 0 else refused 27)
      go true true f = goes (record { tables = r; lines = refl; output = refl })
      go true false f = absurd (false_true (f refl))
      go false c f = lacked no_output

  execute_follows : (lines : List (Option ℕ)) (out : List ℕ) {σ τ : Tables} {t : Resolved ℕ} {u : Resolved (Rule N)} → WfTables N S.limits σ → LongerTables σ τ → Meaning.Alike N σ.base.aut t u
      → Follows LongerPlace (execute S t (place σ lines out)) (execute T t (place τ lines out))
  execute_follows lines out {σ} {τ} o r (Meaning.makes {l} a) = made_follows lines out σ τ (aut_plain (make_follows N S.limits l) σ τ r)
  execute_follows lines out {σ} {τ} o r (Meaning.asks {q} {a} {x} y) = asked_follows lines out σ τ (query_follows q (name_of a) x σ τ o y.state r)
  execute_follows lines out o r (Meaning.refuses {e}) = same_refusal

  step_follows : (s : Option Instruction) {lent : Lent} {p : RunState} {R : List (Option (Rule N))} {τ : Tables} → InOrder S lent p R → LongerTables p.tables τ
      → Follows LongerPlace (step S s p) (step T s (place τ p.lines p.output))
  step_follows none i r = same_refusal
  step_follows (some s) {p = p} i r = execute_follows p.lines p.output i.ordered r (tell_alike i.tables.matched s)

-- ---- what is printed stays

module _ (S : Setting) where
  abbrev Kept : RunState → RunState → ℕ → Type 0
  Kept p q x = Front p.output q.output

  made_front : (p : RunState) (o : Outcome Tables ℕ) → Gives (Kept p) (after_making S p o)
  made_front p (refused e) = refusal
  made_front p (given σ x) = gives (front_refl p.output)

  asked_front : (p : RunState) (o : Outcome Tables (List ℕ)) → Gives (Kept p) (after_asking S p o)
  asked_front p (refused e) = refusal
  asked_front p (given σ answer) = go (leb (length (p.output ++ answer)) S.room)
    where
      go : (b : Bool) → Gives (Kept p) (if b then given (place σ (p.lines ++ none ∷ []) (p.output ++ answer)) 0 else refused 27)
      go true = gives (record { rest = answer; is = refl })
      go false = refusal

  execute_front : (t : Resolved ℕ) (p : RunState) → Gives (Kept p) (execute S t p)
  execute_front (refuses e) p = refusal
  execute_front (makes l) p = made_front p (on_base (on_aut (make S.fields S.limits l)) p.tables)
  execute_front (asks q a x) p = asked_front p (query S q (name_of a) x p.tables)

  step_front : (s : Option Instruction) (p : RunState) → Gives (Kept p) (step S s p)
  step_front none p = refusal
  step_front (some s) p = execute_front (resolve S.fields p.lines s) p

  onward_front : (go : ℕ → RunState → Ran S) → ((k : ℕ) (q : RunState) → Front q.output (output_of (go k q))) → (k : ℕ) (p : RunState) {o : Outcome RunState ℕ} → Gives (Kept p) o → Front p.output (output_of (onward S go k p o))
  onward_front go f k p refusal = front_refl p.output
  onward_front go f k p (gives {σ = q} w) = front_trans w (f (suc k) q)

  cut_front : (go : List ℕ → ℕ → RunState → Ran S) → ((text : List ℕ) (k : ℕ) (q : RunState) → Front q.output (output_of (go text k q))) → (k : ℕ) (p : RunState) (c : Cut) → Front p.output (output_of (with_line S go k p c))
  cut_front go f k p unended = front_refl p.output
  cut_front go f k p (line l rest) = onward_front (go rest) (f rest) k p (step_front (parse (words l)) p)

  pub run_front : (left : ℕ) (text : List ℕ) (k : ℕ) (p : RunState) → Front p.output (output_of (run S left text k p))
  unfolding run
  run_front zero [] k p = front_refl p.output
  run_front zero (b ∷ text) k p = front_refl p.output
  run_front (suc left) [] k p = front_refl p.output
  run_front (suc left) (b ∷ text) k p = cut_front (run S left) (run_front left) k p (cut (b ∷ text))

-- a setting, and a place, by their parts
to_setting : (P : Setting → Type 0) {S T : Setting} → LongerSetting S T → P (lending S T.entries T.room) → P T
to_setting P {S} {T} w p =
    subst P {x = lending S T.entries T.room} {y = T} (λ d. record { fields = sym w.fields d; budget = sym w.budget d; limits = sym w.limits d; entries = T.entries; room = T.room }) p

to_place : (P : RunState → Type 0) {p q : RunState} → LongerPlace p q → P (place q.tables p.lines p.output) → P q
to_place P {p} {q} r h = subst P {x = place q.tables p.lines p.output} {y = q} (λ d. place q.tables (sym r.lines d) (sym r.output d)) h

-- ---- a run

module _ (S : Setting) (entries room : ℕ) (wide : S.entries ≤ entries) (long : S.room ≤ room) (lent : Lent) where
  abbrev Meant : Type 0
  Meant = List (Option (Rule S.fields))

  abbrev Q : Setting
  Q = lending S entries room

  runs : (left : ℕ) (text : List ℕ) (k : ℕ) (p : RunState) (R : Meant) (τ : Tables) → InOrder S lent p R → LongerTables p.tables τ → RanFollows (run S left text k p) (run Q left text k (place τ p.lines p.output))
  unfolding run
  runs zero [] k p R τ i r = ends (record { tables = r; lines = refl; output = refl })
  runs zero (b ∷ text) k p R τ i r = stops
  runs (suc left) [] k p R τ i r = ends (record { tables = r; lines = refl; output = refl })
  runs (suc left) (b ∷ text) k p R τ i r = at_cut (λ rest. runs left rest) (cut (b ∷ text)) refl
    where
      c : Point S
      c = record { left = suc left; text = b ∷ text; line = k; place = p; rules = R }

      q : RunState
      q = place τ p.lines p.output

      Rest : List ℕ → Type 0
      Rest rest = (k : ℕ) (p : RunState) (R : Meant) (τ : Tables) → InOrder S lent p R → LongerTables p.tables τ → RanFollows (run S left rest k p) (run Q left rest k (place τ p.lines p.output))

      -- the next place
      at_place : (rest : List ℕ) → Rest rest → {p₁ q₁ : RunState} {R₁ : Meant} → InOrder S lent p₁ R₁ → LongerPlace p₁ q₁ → RanFollows (run S left rest (suc k) p₁) (run Q left rest (suc k) q₁)
      at_place rest f {p₁} {q₁} {R₁} j w = to_place (λ u. RanFollows (run S left rest (suc k) p₁) (run Q left rest (suc k) u)) w (f (suc k) p₁ R₁ q₁.tables j w.tables)

      at_step : (rest : List ℕ) → Rest rest → (s : Instruction) {o u : Outcome RunState ℕ} → Lined S lent c s o → Gives (λ q₁ x. Front p.output q₁.output) u → Follows LongerPlace o u
          → RanFollows (onward S (run S left rest) k p o) (onward Q (run Q left rest) k q u)
      at_step rest f s y g (lacked n) = lacks n (onward_front Q (run Q left rest) (run_front Q left rest) k q g)
      at_step rest f s y g same_refusal = stops
      at_step rest f s (Lines.comes z j w) g (goes v) = at_place rest f j v

      at_said : (rest l : List ℕ) → cut (b ∷ text) ≡ line l rest → Rest rest → (s : Option Instruction) → parse (words l) ≡ s → RanFollows (onward S (run S left rest) k p (step S s p)) (onward Q (run Q left rest) k q (step Q s q))
      at_said rest l e f none w = stops
      at_said rest l e f (some s) w = at_step rest f s (lined S lent c i rest s (omega arith, (l, e, w))) (step_front Q (some s) q) (step_follows S entries room wide long (some s) i r)

      at_cut : ((text : List ℕ) → Rest text) → (d : Cut) → cut (b ∷ text) ≡ d → RanFollows (with_line S (run S left) k p d) (with_line Q (run Q left) k q d)
      at_cut f unended e = stops
      at_cut f (line l rest) e = at_said rest l e (f rest) (parse (words l)) refl

-- ---- what is stated

pub step_longer : StepLonger
step_longer S T w lent R s p q i r =
    to_setting (λ U. Follows LongerPlace (step S s p) (step U s q)) w
    (to_place (λ u. Follows LongerPlace (step S s p) (step (lending S T.entries T.room) s u)) r (step_follows S T.entries T.room w.entries w.room s i r.tables))

pub run_longer : RunLonger
run_longer S T w lent R left text k p q i r =
    to_setting (λ U. RanFollows (run S left text k p) (run U left text k q)) w
    (to_place (λ u. RanFollows (run S left text k p) (run (lending S T.entries T.room) left text k u)) r (runs S T.entries T.room w.entries w.room lent left text k p R q.tables i r.tables))

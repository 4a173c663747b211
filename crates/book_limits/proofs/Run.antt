-- The lines of a book under larger limits (specs/Limits: StepCarried, RunCarried, AnsweredCarried).
use mathlib.Core.Path.{◌≡◌, refl, sym, subst}
use mathlib.Core.List.{List, [], ◌∷◌}
use mathlib.Core.Option.{Option, none, some}
use Prim.Native.Nat.{ℕ, zero, suc, ◌≤◌}
use native.Mathlib.Omega.{arith}
use Rattle.common.specs.Outcome.{Outcome, refused, given}
use Rattle.aut_steps.specs.Tables.{Limits}
use Rattle.aut_query_steps.specs.Tables.{Tables}
use Rattle.aut_replay.specs.Replay.{Wider}
use Rattle.aut_replay.specs.Limits as Of
use Rattle.aut_replay.specs.Limits.{OfLimit, Carries, same, Carried}
use Rattle.aut_replay.proofs.Limits.{carry_same, carry_bind, on_aut_lem}
use Rattle.book_steps.specs.Text.{Cut, line, unended, cut, words}
use Rattle.book_steps.specs.Reader as Reader
use Rattle.book_steps.specs.Reader.{Query, Instruction, parse, Resolved, makes, asks, refuses, resolve}
use Rattle.book_steps.specs.Answers.{name_of}
use Rattle.book_steps.specs.Run.{Setting, RunState, query, after_making, after_asking, execute, step, Ran, answered, onward, with_line, run}
use Rattle.book_longer.specs.Longer.{Front, output_of}
use Rattle.book_longer.proofs.Run.{run_front}
use Rattle.book_limits.specs.Limits.{WiderSetting, RanCarries, ends, stops, lifted, StepCarried, RunCarried, AnsweredAlike, AnsweredCarried}
use Rattle.book_limits.proofs.Queries.{on_base_lem, make_carried, queries_carried}

-- a setting with other limits
abbrev under : Limits → Setting → Setting
under L S = record { fields = S.fields; budget = S.budget; limits = L; entries = S.entries; room = S.room }

module _ (S : Setting) {L : Limits} (wide : Wider S.limits L) where
  abbrev S' : Setting
  S' = under L S

  -- ---- a line

  query_carry : (q : Query) (name : List ℕ) (x : ℕ) → Carried (query S q name x) (query S' q name x)
  query_carry Reader.empty name x = carry_bind ((queries_carried S.fields wide S.entries).empty S.budget x) (λ r. carry_same _)
  query_carry Reader.live name x = carry_bind ((queries_carried S.fields wide S.entries).live x) (λ h. carry_same _)
  query_carry Reader.pruned name x = carry_bind ((queries_carried S.fields wide S.entries).pruned x) (λ es. carry_same _)
  query_carry Reader.why name x = carry_bind ((queries_carried S.fields wide S.entries).why x) (λ o. carry_same _)

  made_carry : (p : RunState) (o u : Outcome Tables ℕ) → Carries o u → Carries (after_making S p o) (after_making S' p u)
  made_carry p _ u (Carries.lifted n) = Carries.lifted n
  made_carry p (refused e) _ same = same
  made_carry p (given σ x) _ same = same

  asked_carry : (p : RunState) (o u : Outcome Tables (List ℕ)) → Carries o u → Carries (after_asking S p o) (after_asking S' p u)
  asked_carry p _ u (Carries.lifted n) = Carries.lifted n
  asked_carry p (refused e) _ same = same
  asked_carry p (given σ answer) _ same = same

  execute_carry : (t : Resolved ℕ) (p : RunState) → Carries (execute S t p) (execute S' t p)
  execute_carry (refuses e) p = same
  execute_carry (makes l) p = made_carry p _ _ (on_base_lem (on_aut_lem (make_carried S.fields wide l)) p.tables)
  execute_carry (asks q a x) p = asked_carry p _ _ (query_carry q (name_of a) x p.tables)

  step_carry : (s : Option Instruction) → Carried (step S s) (step S' s)
  step_carry none p = same
  step_carry (some s) p = execute_carry (resolve S.fields p.lines s) p

  -- ---- a run

  run_carry : (left : ℕ) (text : List ℕ) (k : ℕ) (p : RunState) → RanCarries (run S left text k p) (run S' left text k p)
  unfolding run
  run_carry zero [] k p = ends
  run_carry zero (b ∷ text) k p = stops
  run_carry (suc left) [] k p = ends
  run_carry (suc left) (b ∷ text) k p = at_cut (λ rest. run_carry left rest) (cut (b ∷ text)) (run_front S' (suc left) (b ∷ text) k p)
    where
      Rest : List ℕ → Type 0
      Rest rest = (k : ℕ) (q : RunState) → RanCarries (run S left rest k q) (run S' left rest k q)

      -- where the first run is stopped for a limit, what it has printed is a front part of all that the second prints
      at_step : (rest : List ℕ) → Rest rest → (o u : Outcome RunState ℕ) → Carries o u → Front p.output (output_of (onward S' (run S' left rest) k p u))
          → RanCarries (onward S (run S left rest) k p o) (onward S' (run S' left rest) k p u)
      at_step rest f _ u (Carries.lifted n) w = lifted n w
      at_step rest f (refused e) _ same w = stops
      at_step rest f (given q x) _ same w = f (suc k) q

      at_cut : ((text : List ℕ) → Rest text) → (d : Cut) → Front p.output (output_of (with_line S' (run S' left) k p d)) → RanCarries (with_line S (run S left) k p d) (with_line S' (run S' left) k p d)
      at_cut f unended w = stops
      at_cut f (line l rest) w = at_step rest (f rest) _ _ (step_carry (parse (words l)) p) w

-- ---- what is stated

-- a setting by its parts
to_setting : (P : Setting → Type 0) {S T : Setting} → WiderSetting S T → P (under T.limits S) → P T
to_setting P {S} {T} w p =
    subst P {x = under T.limits S} {y = T} (λ d. record { fields = sym w.fields d; budget = sym w.budget d; limits = T.limits; entries = sym w.entries d; room = sym w.room d }) p

pub step_carried : StepCarried
step_carried S T w s = to_setting (λ U. Carried (step S s) (step U s)) w (step_carry S w.limits s)

pub run_carried : RunCarried
run_carried S T w left text k p = to_setting (λ U. RanCarries (run S left text k p) (run U left text k p)) w (run_carry S w.limits left text k p)

-- ---- what is answered

limit_number : {number : ℕ} → OfLimit number → 6 ≤ number
limit_number Of.list = omega arith
limit_number Of.products = omega arith
limit_number Of.nesting = omega arith
limit_number Of.transitions = omega arith

alike : {S T : Setting} {r : Ran S} {s : Ran T} → RanCarries r s → AnsweredAlike r s
alike (ends {p}) = record { place = λ q e. let z : p ≡ q = cc in λ d. answered (z d); result = λ lent e. refl }
alike stops = record { place = λ q e. absurd (let z : ◌≡◌ {A = ℕ} 0 1 = cc in omega arith); result = λ lent e. refl }
alike (lifted n w) = record { place = λ q e. absurd (let z : ◌≡◌ {A = ℕ} 0 1 = cc in omega arith); result = λ lent e. absurd (omega (arith, limit_number n, e)) }

pub answered_carried : AnsweredCarried
answered_carried S T w left text k p = alike (run_carried S T w left text k p)

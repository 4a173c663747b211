-- A run from any point in order is as specs/RunSpec says (RunClaim): its lines one after the other, no other result, one way only, `empty` and `live` alike.
use Rattle.std.specs.Prelude.{if◌then◌else◌}
use mathlib.Core.Path.{◌≡◌, refl, sym, ◌∙◌, ap, ap₂, subst}
use native.Mathlib.Omega.{arith}
use mathlib.Core.Logic.{◌↔◌, ◌⊎◌, inl, inr, ⊎_elim}
use mathlib.Core.Bool.{Bool, true, false, ◌||◌}
use mathlib.Core.List.{List, [], ◌∷◌, ◌++◌}
use mathlib.Core.Option.{Option, none, some}
use Prim.Native.Nat.{ℕ, zero, suc, ◌^◌, ◌≤◌, ◌<◌}
use lib.Dec.{T, leb}
use lib.ListN.{length, get_or}
use lib.Pow.{pow_mono}
use borrow.Author.Tests.{leb-true, le-leb}
use Rattle.common.specs.Packets.{packets, any, Set, inhabited}
use Rattle.common.specs.Outcome.{Outcome, refused, given, after}
use Rattle.common.proofs.Follow.{given_of, given_same}
use Rattle.common.specs.Runs.{placed}
use Rattle.netkat.specs.Strings.{Str}
use Rattle.netkat.specs.Rules.{Rule}
use Rattle.netkat_steps.specs.ListSteps.{Edge}
use Rattle.netkat.specs.Search.{Verdict, yes, spent}
use Rattle.netkat.specs.Live.{IsLive}
use Rattle.sp_steps.specs.Model as Sp
use Rattle.sp_steps.specs.Size as SpSize
use Rattle.sp_steps.proofs.Size as SpSizeLaws
use Rattle.spp_steps.proofs.Laws.{by_test}
use Rattle.aut_steps.specs.Tables.{Aut}
use Rattle.aut_steps.specs.Languages.{◌≈◌}
use Rattle.aut_steps.proofs.Languages.{≈-sym}
use Rattle.aut_steps.specs.Wf.{states}
use Rattle.aut_steps.specs.Meaning.{Holds}
use Rattle.aut_steps.proofs.Meaning.{holds_grown}
use Rattle.aut_delta_steps.specs.Delta.{put_aut}
use Rattle.aut_query_steps.specs.Tables.{Tables, put_base, WfTables, ExtTables}
use Rattle.aut_query_steps.proofs.Tables.{is_live_same, later_refl, later_trans}
use Rattle.aut_query_steps.specs.Search.{is_empty}
use Rattle.aut_query_steps.specs.Live.{live_packets}
use Rattle.aut_query_steps.proofs.SearchLaws.{search_goes}
use Rattle.aut_query_steps.proofs.LiveLaws.{live_goes}
use Rattle.book_steps.specs.Text.{Cut, line, unended, cut, words}
use Rattle.book_steps.specs.Reader as Reader
use Rattle.book_steps.specs.Reader.{Query, Instruction, parse, Resolved, resolve}
use Rattle.book_steps.specs.Answers.{name_of, empty_answer, live_answer, pruned_answer, why_answer}
use Rattle.book_steps.specs.Run as Run
use Rattle.book_steps.specs.Run.{Lent, Setting, RunState, place, after_making, after_asking, execute, step, Ran, onward, with_line, run, Result, finish}
use Rattle.book_steps.proofs.MeaningLaws.{noted}
use Rattle.book_steps.proofs.Meaning.{Both, both, matched_at}
use Rattle.book_steps.specs.Demands.{InOrder}
use Rattle.book_steps.specs.RunSpec.{told, Refused, Answered, QuerySpec, QueryRefused, LineSpec, made, answered, Point, Reads, LineRefusal, LineStep, Steps, here, on, Final, RunSpec, Alike, RunClaim}
use Rattle.book_steps.proofs.Printed.{empty_one, live_one}
use Rattle.book_steps.proofs.Reading.{reads}
use Rattle.book_steps.proofs.Lines.{Lined, stops, comes, lined}

-- a number of packets is 0 exactly if there is none
filter_none : {A : Type 0} (f : A → Bool) (l : List A) → (length (SpSize.filter f l) ≡ 0) ↔ (¬ T (any f l))
unfolding SpSize.filter
filter_none f [] = (λ e t. t, λ n. refl)
filter_none f (x ∷ xs) = go (f x) (filter_none f xs)
  where
    go : (b : Bool) → (length (SpSize.filter f xs) ≡ 0) ↔ (¬ T (any f xs)) → (length (SpSize.keep_if b x (SpSize.filter f xs)) ≡ 0) ↔ (¬ T (b || any f xs))
    go true i = (λ e t. omega arith, λ n. absurd (n tt))
    go false i = i

number_none : {d : ℕ} (y : Set d) → (SpSize.number y ≡ 0) ↔ (¬ T (inhabited y))
unfolding SpSize.number inhabited
number_none {d} y = filter_none y (packets d)

-- ---- lines that are cut and read

same_line : {l m a b : List ℕ} → line l a ≡ line m b → (l ≡ m) × (a ≡ b)
same_line e = (cc, cc)

some_same : {A : Type 0} {x y : A} → ◌≡◌ {A = Option A} (some x) (some y) → x ≡ y
some_same e = cc

line_not : {l a : List ℕ} → ¬ (line l a ≡ unended)
line_not e = let z : ◌≡◌ {A = ℕ} 0 1 = cc in omega arith

cut_none : {l rest : List ℕ} → ¬ (cut [] ≡ line l rest)
unfolding cut
cut_none e = line_not (sym e)

module _ (S : Setting) where
  abbrev N : ℕ
  N = S.fields

  abbrev Meant : Type 0
  Meant = List (Option (Rule N))

  abbrev point : ℕ → List ℕ → ℕ → RunState → Meant → Point S
  point left text k p R = record { left = left; text = text; line = k; place = p; rules = R }

  point_one : (d e : Point S) → d.left ≡ e.left → d.text ≡ e.text → d.line ≡ e.line → d.place ≡ e.place → d.rules ≡ e.rules → d ≡ e
  point_one d e a b c p q =
      ap (λ (x : ℕ). point x d.text d.line d.place d.rules) a
      ∙ ap (λ (x : List ℕ). point e.left x d.line d.place d.rules) b
      ∙ ap (λ (x : ℕ). point e.left e.text x d.place d.rules) c
      ∙ ap (λ (x : RunState). point e.left e.text e.line x d.rules) p
      ∙ ap (λ (x : Meant). point e.left e.text e.line e.place x) q

  -- ---- lines as steps of the run

  -- a query that is answered
  asked_is : {σ τ : Tables} {q : Query} {name : List ℕ} {x : ℕ} {r : Rule N} {answer : List ℕ} → QuerySpec S σ name x r τ q answer → Run.query S q name x σ ≡ given τ answer
  asked_is {name = name} (QuerySpec.emptied e k) = ap (λ (o : Outcome Tables (Verdict × ℕ)). after o (λ r τ. given τ (empty_answer name r.0 r.1))) e
  asked_is {name = name} (QuerySpec.lived e k) = ap (λ (o : Outcome Tables ℕ). after o (λ l τ. given τ (live_answer N name (Sp.size τ.sets.words N l)))) e
  asked_is {name = name} (QuerySpec.pruned e k) = ap (λ (o : Outcome Tables (List Edge)). after o (λ es τ. given τ (pruned_answer name (told S τ es)))) e
  asked_is (QuerySpec.explained e k) = ap (λ (o : Outcome Tables (Option (Str N))). after o (λ w τ. given τ (why_answer N w))) e

  asked_not : (σ : Tables) (q : Query) (name : List ℕ) (x number : ℕ) → QueryRefused S σ q x number → Run.query S q name x σ ≡ refused number
  asked_not σ Reader.empty name x number e = ap (λ (o : Outcome Tables (Verdict × ℕ)). after o (λ r τ. given τ (empty_answer name r.0 r.1))) e
  asked_not σ Reader.live name x number e = ap (λ (o : Outcome Tables ℕ). after o (λ l τ. given τ (live_answer N name (Sp.size τ.sets.words N l)))) e
  asked_not σ Reader.pruned name x number e = ap (λ (o : Outcome Tables (List Edge)). after o (λ es τ. given τ (pruned_answer name (told S τ es)))) e
  asked_not σ Reader.why name x number e = ap (λ (o : Outcome Tables (Option (Str N))). after o (λ w τ. given τ (why_answer N w))) e

  -- what `empty` and `live` have printed
  record Emptied (σ : Tables) (name : List ℕ) (x : ℕ) (τ : Tables) (answer : List ℕ) : Type 0 where
    verdict : Verdict
    count : ℕ
    came : is_empty N S.limits S.entries S.budget x σ ≡ given τ (verdict, count)
    within : count ≤ S.budget
    printed : answer ≡ empty_answer name verdict count

  emptied_of : {σ τ : Tables} {name : List ℕ} {x : ℕ} {r : Rule N} {answer : List ℕ} → QuerySpec S σ name x r τ Reader.empty answer → Emptied σ name x τ answer
  emptied_of (QuerySpec.emptied {v} {c} e k) = record { verdict = v; count = c; came = e; within = k.within; printed = refl }

  record Lived (σ : Tables) (name : List ℕ) (x : ℕ) (τ : Tables) (answer : List ℕ) : Type 0 where
    handle : ℕ
    came : live_packets N S.limits S.entries x σ ≡ given τ handle
    printed : answer ≡ live_answer N name (Sp.size τ.sets.words N handle)

  lived_of_lem : {σ τ : Tables} {name : List ℕ} {x : ℕ} {r : Rule N} {answer : List ℕ} → QuerySpec S σ name x r τ Reader.live answer → Lived σ name x τ answer
  lived_of_lem (QuerySpec.lived {l} e k) = record { handle = l; came = e; printed = refl }

  -- a line that is done
  obeyed : {p q : RunState} {R Q : Meant} {s : Instruction} → LineSpec S p R s q Q → (y : ℕ) × (step S (some s) p ≡ given q y) × (noted R (resolve N R s) ≡ Q)
  obeyed {p} {R = R} (made {x = x} t u e k) = (
    x,
    ap (λ (t : Resolved ℕ). execute S t p) t ∙ ap (λ (c : Outcome Aut ℕ). after_making S p (placed put_base p.tables (placed put_aut p.tables.base c))) e,
    ap (noted R) u,
  )
  obeyed {p} {R = R} (answered {τ = τ} {answer} t u k f) = (
    0,
    ap (λ (t : Resolved ℕ). execute S t p) t ∙ ap (after_asking S p) (asked_is k)
        ∙ ap (λ (b : Bool). if b then given (place τ (p.lines ++ none ∷ []) (p.output ++ answer)) 0 else refused 27) (le-leb (length (p.output ++ answer)) S.room f),
    ap (noted R) u,
  )

  -- ---- the run's next line

  next_line : (left : ℕ) (text : List ℕ) (k : ℕ) (p : RunState) {l rest : List ℕ} → 0 < left → cut text ≡ line l rest
      → (m : ℕ) × (left ≡ suc m) × (run S left text k p ≡ onward S (run S m rest) k p (step S (parse (words l)) p))
  unfolding run
  next_line zero text k p z e = absurd (omega arith)
  next_line (suc m) [] k p z e = absurd (cut_none e)
  next_line (suc m) (b ∷ text) k p z e = (m, refl, ap (with_line S (run S m) k p) e)

  said_line : (c : Point S) (rest : List ℕ) (s : Option Instruction) → Reads S c rest s
      → (m : ℕ) × (c.left ≡ suc m) × (run S c.left c.text c.line c.place ≡ onward S (run S m rest) c.line c.place (step S s c.place))
  said_line c rest s (z, (l, e, w)) =
      let (m, q, r) = next_line c.left c.text c.line c.place z e in
      (m, q, r ∙ ap (λ (s : Option Instruction). onward S (run S m rest) c.line c.place (step S s c.place)) w)

  run_none : (text : List ℕ) (k : ℕ) (p : RunState) → ¬ (text ≡ []) → run S 0 text k p ≡ Run.stopped 3 k p.output
  unfolding run
  run_none [] k p n = absurd (n refl)
  run_none (b ∷ text) k p n = refl

  run_unended : (left : ℕ) (text : List ℕ) (k : ℕ) (p : RunState) → ¬ (text ≡ []) → 0 < left → cut text ≡ unended → run S left text k p ≡ Run.stopped 3 k p.output
  unfolding run
  run_unended zero text k p n z e = absurd (omega arith)
  run_unended (suc left) [] k p n z e = absurd (n refl)
  run_unended (suc left) (b ∷ text) k p n z e = ap (with_line S (run S left) k p) e

  run_end : (left k : ℕ) (p : RunState) → run S left [] k p ≡ Run.answered p
  unfolding run
  run_end zero k p = refl
  run_end (suc left) k p = refl

  -- a line that is refused
  stopped_at : (c : Point S) (number : ℕ) → LineRefusal S c number → run S c.left c.text c.line c.place ≡ Run.stopped number c.line c.place.output
  stopped_at c number y = go y
    where
      by : (rest : List ℕ) (s : Option Instruction) {number : ℕ} → Reads S c rest s → step S s c.place ≡ refused number
          → run S c.left c.text c.line c.place ≡ Run.stopped number c.line c.place.output
      by rest s w e = let (m, q, r) = said_line c rest s w in r ∙ ap (onward S (run S m rest) c.line c.place) e

      go : {number : ℕ} → LineRefusal S c number → run S c.left c.text c.line c.place ≡ Run.stopped number c.line c.place.output
      go (LineRefusal.too_many n e) = ap (λ (left : ℕ). run S left c.text c.line c.place) e ∙ run_none c.text c.line c.place n
      go (LineRefusal.no_end n z e) = run_unended c.left c.text c.line c.place n z e
      go (LineRefusal.no_form {rest} w) = by rest none w refl
      go (LineRefusal.misnamed {rest} {s} w m) = by rest (some s) w (ap (λ (t : Resolved ℕ). execute S t c.place) ((reads N c.place.lines s).four.1 m))
      go (LineRefusal.out_of_range {rest} {s} w m) = by rest (some s) w (ap (λ (t : Resolved ℕ). execute S t c.place) ((reads N c.place.lines s).five.1 m))
      go (LineRefusal.making {rest} {s} w t e m) =
          by rest (some s) w
          (ap (λ (t : Resolved ℕ). execute S t c.place) t ∙ ap (λ (o : Outcome Aut ℕ). after_making S c.place (placed put_base c.place.tables (placed put_aut c.place.tables.base o))) e)
      go (LineRefusal.asking {rest} {s} {q} {a} {x} {number} w t e m) = by rest (some s) w (ap (λ (t : Resolved ℕ). execute S t c.place) t ∙ ap (after_asking S c.place) (asked_not c.place.tables q (name_of a) x number e))
      go (LineRefusal.no_room {rest} {s} {τ = τ} {answer} w t u k f) =
          by rest (some s) w
          (ap (λ (t : Resolved ℕ). execute S t c.place) t ∙ ap (after_asking S c.place) (asked_is k)
          ∙ ap (λ (b : Bool). if b then given (place τ (c.place.lines ++ none ∷ []) (c.place.output ++ answer)) 0 else refused 27)
          (by_test (leb (length (c.place.output ++ answer)) S.room) (λ b. absurd (omega (arith, leb-true (length (c.place.output ++ answer)) S.room b))) (λ b. b)))

  module _ (lent : Lent) where
    -- ---- one way only

    step_runs : (c d : Point S) → LineStep S lent c d → run S c.left c.text c.line c.place ≡ run S d.left d.text d.line d.place
    step_runs c d t =
        let (m, q, r) = said_line c d.text (some t.says) t.reads in
        let (y, e, n) = obeyed t.does in
        let i : m ≡ d.left = omega (arith, t.counted) in
        r ∙ ap (onward S (run S m d.text) c.line c.place) e ∙ ap₂ (λ (a b : ℕ). run S a d.text b d.place) i (sym t.line_is)

    steps_run : {c d : Point S} → Steps S lent c d → run S c.left c.text c.line c.place ≡ run S d.left d.text d.line d.place
    steps_run here = refl
    steps_run (on {c} {d} t w) = step_runs c d t ∙ steps_run w

    final_runs : (c : Point S) (r : Result) → Final S lent c r → r ≡ finish lent (run S c.left c.text c.line c.place)
    final_runs c r (Final.ends e z) =
        z ∙ ap (finish lent) (sym (run_end c.left c.line c.place)) ∙ ap (λ (text : List ℕ). finish lent (run S c.left text c.line c.place)) (sym e)
    final_runs c r (Final.stops {number} y z) = z ∙ ap (finish lent) (sym (stopped_at c number y))

    pub run_one : (c : Point S) (r : Result) → RunSpec S lent c r → r ≡ finish lent (run S c.left c.text c.line c.place)
    run_one c r (d, w, z) = final_runs d r z ∙ ap (finish lent) (sym (steps_run w))

    step_one : (c d e : Point S) → LineStep S lent c d → LineStep S lent c e → d ≡ e
    step_one c d e t u =
        let (z, (l, cut-l, said-l)) = t.reads in
        let (z', (m, cut-m, said-m)) = u.reads in
        let (l-is, rest_is) = same_line (sym cut-l ∙ cut-m) in
        let s : t.says ≡ u.says = some_same (sym said-l ∙ ap (λ (l : List ℕ). parse (words l)) l-is ∙ said-m) in
        let (y, f, n) = obeyed t.does in
        let (y', g, o) = obeyed u.does in
        let k = sym f ∙ ap (λ (s : Instruction). step S (some s) c.place) s ∙ g in
        point_one d e (omega (arith, t.counted, u.counted)) rest_is (t.line_is ∙ sym u.line_is) (given_state k) (sym n ∙ ap (λ (s : Instruction). noted c.rules (resolve N c.rules s)) s ∙ o)
      where
        given_state : {p q : RunState} {x y : ℕ} → ◌≡◌ {A = Outcome RunState ℕ} (given p x) (given q y) → p ≡ q
        given_state e = cc

    pub linear : {c d e : Point S} → Steps S lent c d → Steps S lent c e → Steps S lent d e ⊎ Steps S lent e d
    linear here w = inl w
    linear (on t v) here = inr (on t v)
    linear {c} {d} {e} (on {d = m} t v) (on {d = n} u w) = linear v (subst (λ (x : Point S). Steps S lent x e) (sym (step_one c m n t u)) w)

    -- ---- in order all the way

    came : (c : Point S) {s : Instruction} {q : RunState} {y : ℕ} → Lined S lent c s (given q y) → InOrder S lent q (noted c.rules (resolve N c.rules s)) × ExtTables c.place.tables q.tables
    came c (comes k i l) = (i, l)

    next : (c d : Point S) → InOrder S lent c.place c.rules → LineStep S lent c d → InOrder S lent d.place d.rules
    next c d i t =
        let (y, e, n) = obeyed t.does in
        let (j, l) = came c (subst (Lined S lent c t.says) e (lined S lent c i d.text t.says t.reads)) in
        subst (λ (Q : Meant). InOrder S lent d.place Q) n j

    pub kept : {c d : Point S} → InOrder S lent c.place c.rules → Steps S lent c d → InOrder S lent d.place d.rules
    kept i here = i
    kept i (on {c} {d} t w) = kept (next c d i t) w

    later : {c d : Point S} → Steps S lent c d → ExtTables c.place.tables d.place.tables
    later (here {c}) = later_refl c.place.tables
    later (on t w) = later_trans t.later (later w)

    -- the state of a line
    known : (p : RunState) (R : Meant) → InOrder S lent p R → (a x : ℕ) → get_or p.lines a none ≡ some x → x < states p.tables.base.aut
    known p R i a x e = go (subst (λ (o : Option ℕ). Both N p.tables.base.aut o (get_or R a none)) e (matched_at i.tables.matched a))
      where
        go : {r : Option (Rule N)} → Both N p.tables.base.aut (some x) r → x < states p.tables.base.aut
        go (both k) = k.state

    -- by the steps of the two queries
    alike_steps : {c d e : Point S} → InOrder S lent c.place c.rules → Steps S lent c d → Steps S lent c e
        → (a b x n l : ℕ) (v : Verdict) (τ υ : Tables) → get_or d.place.lines a none ≡ some x → get_or e.place.lines b none ≡ some x
        → is_empty N S.limits S.entries S.budget x d.place.tables ≡ given τ (v, n) → live_packets N S.limits S.entries x e.place.tables ≡ given υ l
        → ¬ (v ≡ spent) → (v ≡ yes) ↔ (Sp.size υ.sets.words N l ≡ 0)
    alike_steps {c} {d} {e} first way-d way-e a b x n l v τ υ ea eb es el u =
        let i : InOrder S lent d.place d.rules = kept first way-d in
        let j : InOrder S lent e.place e.rules = kept first way-e in
        let k : x < states d.place.tables.base.aut = known d.place d.rules i a x ea in
        let m : x < states e.place.tables.base.aut = known e.place e.rules j b x eb in
        let z = given_of (search_goes S.entries S.budget x i.ordered k) es in
        let f = given_of (live_goes S.entries j.ordered m) el in
        let same : Holds N e.place.tables.base.aut x ≈ Holds N d.place.tables.base.aut x = ⊎_elim
        (λ w. holds_grown i.ordered.worked.good (later w).grown k)
        (λ w. ≈-sym (holds_grown j.ordered.worked.good (later w).grown m))
        (linear way-d way-e) in
        let live : IsLive f.set.set (Holds N d.place.tables.base.aut x) = is_live_same same (is_live_same (holds_grown j.ordered.worked.good f.later.grown m) f.set.is) in
        let g = z.demanded.live_alike f.set.set live u in
        let o = number_none f.set.set in
        let w : Sp.size υ.sets.words N l ≡ SpSize.number f.set.set = SpSizeLaws.size_den f.set.den in
        (λ q. w ∙ o.1 (g.0 q), λ q. g.1 (o.0 (sym w ∙ q)))

    pub alike : {c d e : Point S} → InOrder S lent c.place c.rules → Steps S lent c d → Steps S lent c e → Alike S lent d e
    alike {d = d} {e} first way-d way-e a b x c m v r q τ υ ea eb es el lb ln la lc ld le u = go (emptied_of es) (lived_of_lem el)
      where
        go : Emptied d.place.tables (name_of a) x τ (empty_answer (name_of a) v c) → Lived e.place.tables (name_of b) x υ (live_answer N (name_of b) m) → (v ≡ yes) ↔ (m ≡ 0)
        go s t =
            let half : 2 ^ N ≤ 2 ^ 63 = pow_mono {j = 63} (omega arith) in
            let small : Sp.size υ.sets.words N t.handle < 2 ^ 64 = omega (arith, SpSizeLaws.size_most υ.sets.words N t.handle, half) in
            let (x1, v-is, x2) = empty_one a a c s.count v s.verdict la la ld (omega (arith, s.within)) s.printed in
            let (x3, m-is) = live_one N b b m (Sp.size υ.sets.words N t.handle) lc lc le small t.printed in
            let z = alike_steps first way-d way-e a b x s.count t.handle s.verdict τ υ ea eb s.came t.came (λ w. u (v-is ∙ w)) in
            (λ w. m-is ∙ z.0 (sym v-is ∙ w), λ w. v-is ∙ z.1 (sym m-is ∙ w))

    -- ---- the run

    pub run_spec : (left : ℕ) (text : List ℕ) (k : ℕ) {p : RunState} {R : Meant} → InOrder S lent p R → RunSpec S lent (point left text k p R) (finish lent (run S left text k p))
    unfolding run
    run_spec zero [] k i = (_, here, Final.ends refl refl)
    run_spec zero (b ∷ text) k i = (_, here, Final.stops (LineRefusal.too_many (λ e. let z : ◌≡◌ {A = ℕ} 0 1 = cc in omega arith) refl) refl)
    run_spec (suc left) [] k i = (_, here, Final.ends refl refl)
    run_spec (suc left) (b ∷ text) k {p} {R} i = at_cut (λ text k q Q j. run_spec left text k j) (cut (b ∷ text)) refl
      where
        c : Point S
        c = point (suc left) (b ∷ text) k p R

        Rest : List ℕ → Type 0
        Rest rest = (k : ℕ) (q : RunState) (Q : Meant) → InOrder S lent q Q → RunSpec S lent (point left rest k q Q) (finish lent (run S left rest k q))

        at_line : (rest : List ℕ) → Rest rest → (s : Instruction) → Reads S c rest (some s) → (o : Outcome RunState ℕ) → Lined S lent c s o → RunSpec S lent c (finish lent (onward S (run S left rest) k p o))
        at_line rest f s w (refused number) (stops y) = (c, here, Final.stops y refl)
        at_line rest f s w (given q x) (comes y j g) =
            let (d, v, z) = f (suc k) q (noted R (resolve N R s)) j in
            let t : LineStep S lent c (point left rest (suc k) q (noted R (resolve N R s))) = record { says = s; reads = w; counted = refl; line_is = refl; does = y; later = g; tables = j.tables } in
            (d, on t v, z)

        at_said : (rest l : List ℕ) → cut (b ∷ text) ≡ line l rest → Rest rest → (s : Option Instruction) → parse (words l) ≡ s → RunSpec S lent c (finish lent (onward S (run S left rest) k p (step S s p)))
        at_said rest l e f none w = (c, here, Final.stops (LineRefusal.no_form {rest = rest} (omega arith, (l, e, w))) refl)
        at_said rest l e f (some s) w = at_line rest f s (omega arith, (l, e, w)) (step S (some s) p) (lined S lent c i rest s (omega arith, (l, e, w)))

        at_cut : ((text : List ℕ) → Rest text) → (b' : Cut) → cut (b ∷ text) ≡ b' → RunSpec S lent c (finish lent (with_line S (run S left) k p b'))
        at_cut f unended e = (c, here, Final.stops (LineRefusal.no_end (λ e. let z : ◌≡◌ {A = ℕ} 0 1 = cc in omega arith) (omega arith) e) refl)
        at_cut f (line l rest) e = at_said rest l e (f rest) (parse (words l)) refl

    pub runs : (c : Point S) → InOrder S lent c.place c.rules → RunClaim S lent c
    runs c i = record {
      whole = run_spec c.left c.text c.line i;
      only = run_one c;
      kept = λ d w. kept i w;
      linear = λ d e v w. linear v w;
      alike = λ d e v w. alike i v w;
    }

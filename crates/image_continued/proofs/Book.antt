-- A book begins in a place of a run, and its lines keep it one; the run of a text and of what follows it is one run. So specs/Continued's ContinuedClaim.
use Rattle.std.specs.Prelude.{if◌then◌else◌}
use mathlib.Core.Path.{◌≡◌, refl, sym, ◌∙◌, ap, subst}
use mathlib.Core.Bool.{Bool, true, false}
use mathlib.Core.List.{List, [], ◌∷◌, ◌++◌}
use mathlib.Core.Option.{Option, none, some}
use Prim.Native.Nat.{ℕ, zero, suc, ◌+◌, ◌-◌}
use native.Mathlib.Omega.{arith}
use lib.Dec.{eqb, ltb, leb}
use lib.ListN.{length, length-append}
use borrow.Author.Tests.{ltb-false, leb-true}
use Rattle.common.specs.Outcome.{Outcome, refused, given, Gives, refusal, gives}
use Rattle.common.proofs.Follow.{refused≢given}
use Rattle.common.specs.Runs.{Table, table}
use Rattle.netkat.specs.Rules.{Rule}
use Rattle.sp_steps.specs.Model as Sp
use Rattle.spp_steps.specs.Model as Spp
use Rattle.aut_steps.specs.Tables.{limits01, aut}
use Rattle.book_construct_steps.specs.Lines.{make}
use Rattle.aut_delta_steps.specs.Delta.{store, on_aut}
use Rattle.aut_query_steps.specs.Tables.{Tables, tables, on_base}
use Rattle.aut_replay.specs.Replay.{SettledLists}
use Rattle.aut_replay.proofs.Epsilon.{epsilon_again}
use Rattle.aut_replay.proofs.Delta.{delta_again}
use Rattle.book_steps.specs.Text as Text
use Rattle.book_steps.specs.Text.{Cut, line, unended, cut, words}
use Rattle.book_steps.specs.Reader.{Header, header, Instruction, parse, Resolved, makes, asks, refuses, resolve}
use Rattle.book_steps.specs.Answers.{name_of, fields_answer}
use Rattle.book_steps.specs.Claim.{Begun, begun}
use Rattle.book_steps.specs.Run as Run
use Rattle.book_steps.specs.Run.{Lent, Setting, RunState, place, zeroed, after_making, after_asking, execute, step, Ran, answered, stopped, onward, with_line, run, instructions, begin, setting_of}
use Rattle.book_steps.proofs.Claim.{begun_in_order}
use Rattle.image_steps.specs.Read.{read}
use Rattle.book_steps.specs.Run.{came, failed, came_of, started_book, headed_book, opened_book, ran_book}
use Rattle.image_steps.specs.Calls.{goes_on, ran_on}
use Rattle.image_steps.specs.Claims.{setting_at, stripped}
use Rattle.image_continued.specs.Mode.{beside, whole, InStep}
use Rattle.image_continued.specs.Continued.{WorksAgain, Standing, Continues, RunsOn, ended, CutContinued, BookStands, BookContinued, CallsContinued, ContinuedClaim}
use Rattle.image_continued.proofs.Records.{same_refl}
use Rattle.image_continued.proofs.Delta.{wider_refl}
use Rattle.image_continued.proofs.Tables.{TwinTables}
use Rattle.image_continued.proofs.Lines.{continues_of, line_continued, constructor_continued}
use Rattle.image_continued.proofs.RunsOn.{runs_excuse, run_continued, never_again}
use Rattle.image_continued.proofs.Stripped.{cut_continued}

-- ---- a run keeps a place one

module _ (S : Setting) (lent : Lent) where
  -- a place goes on as itself
  continues_self : {p : RunState} {R : List (Option (Rule S.fields))} → Standing S lent p R → Continues S lent whole [] p p
  continues_self {p} {R} s = continues_of S lent p p twins R s.in_order s.in_order refl refl
    where
      twins : TwinTables S.fields S.limits whole p.tables p.tables
      twins = record {
        base = record {
          less = record { knows = record { same = same_refl p.tables.base.aut; epsilons = λ x m. m }; lists = λ x m. m };
          room = refl;
          left = record { worked = s.in_order.ordered.worked; settled = s.settled };
          right = record { worked = s.in_order.ordered.worked; settled = s.settled };
        };
        left = s.in_order.ordered;
        right = s.in_order.ordered;
        lives = λ x m. m;
        sets = λ e. refl;
        words = λ e x m. refl;
        all = λ e x m. m;
      }

  pub stands_on : {p : RunState} {R : List (Option (Rule S.fields))} → Standing S lent p R → (left : ℕ) (text : List ℕ) (k : ℕ) {q : RunState} → run S left text k p ≡ answered q
      → (Q : List (Option (Rule S.fields))) × Standing S lent q Q
  stands_on {p} s left text k {q} e = go (subst (λ (r : Ran S). RunsOn S lent (InStep whole → WorksAgain S left text p p) [] r r) e (run_continued S lent whole [] p p (continues_self s) left text k k))
    where
      go : {A : Type 0} → RunsOn S lent A [] (answered q) (answered q) → (Q : List (Option (Rule S.fields))) × Standing S lent q Q
      go (ended c) = (c.rules, c.left)

-- ---- the first place

begun_of_lem : (lent : Lent) (h : Header) (p : RunState) (x : ℕ) → begin lent h ≡ given p x → Begun lent h.fields p
unfolding begin
begun_of_lem lent h p x e = small (ltb 31 h.fields) refl e
  where
    same : {q : RunState} {y : ℕ} → ◌≡◌ {A = Outcome RunState ℕ} (given q y) (given p x) → q ≡ p
    same e = cc

    room : {s t : Table} {z : ℕ} {c : Spp.Constants} → ltb 31 h.fields ≡ false → Sp.constants h.fields (table (zeroed lent.sp) 0) ≡ given s z → Spp.constants h.fields (table (zeroed lent.spp) 0) ≡ given t c
        → (b : Bool) → leb (length (fields_answer h.fields)) lent.output ≡ b
        → (if b then given (place (tables s (store (aut t (table (zeroed lent.states) 0) (table (zeroed lent.members) 0)) (table (zeroed lent.transitions) 0))) [] (fields_answer h.fields)) 0 else refused 27) ≡ given p x → Begun lent h.fields p
    room w a c true f e = subst (Begun lent h.fields) (same e) (begun (ltb-false 31 h.fields w) a c (leb-true (length (fields_answer h.fields)) lent.output f))
    room w a c false f e = absurd (refused≢given e)

    both : ltb 31 h.fields ≡ false → (s : Outcome Table ℕ) (r : Outcome Table Spp.Constants) → Sp.constants h.fields (table (zeroed lent.sp) 0) ≡ s → Spp.constants h.fields (table (zeroed lent.spp) 0) ≡ r → Run.begun lent h s r ≡ given p x → Begun lent h.fields p
    both w (refused number) r a b e = absurd (refused≢given e)
    both w (given s z) (refused number) a b e = absurd (refused≢given e)
    both w (given s z) (given t c) a b e = room w a b (leb (length (fields_answer h.fields)) lent.output) refl e

    small : (b : Bool) → ltb 31 h.fields ≡ b → (if b then refused 2 else Run.begun lent h (Sp.constants h.fields (table (zeroed lent.sp) 0)) (Spp.constants h.fields (table (zeroed lent.spp) 0))) ≡ given p x → Begun lent h.fields p
    small true w e = absurd (refused≢given e)
    small false w e = both w (Sp.constants h.fields (table (zeroed lent.sp) 0)) (Spp.constants h.fields (table (zeroed lent.spp) 0)) refl refl e

begun_lines : {lent : Lent} {N : ℕ} {p : RunState} → Begun lent N p → p.lines ≡ []
begun_lines (begun a b c d) = refl

begun_settled : {lent : Lent} {N : ℕ} {p : RunState} (S : Setting) → Begun lent N p → SettledLists S.fields S.limits p.tables.base
begun_settled {p = p} S (begun a b c d) =
    (delta_again S.fields S.limits S.limits (wider_refl S.limits)).begins _ ((epsilon_again S.fields S.limits S.limits).begins _ (λ x l. absurd (omega arith))) (λ x l. absurd (omega arith))

pub book_stands : (lent : Lent) (h : Header) → BookStands lent h
book_stands lent h = record {
  begins = λ p x e. let b = begun_of_lem lent h p x e in record { in_order = begun_in_order h b; settled = begun_settled (setting_of lent h) b };
  keeps = λ p q R left text k s e. stands_on (setting_of lent h) lent s left text k e;
}

-- ---- one text after another

cut_append : (text more : List ℕ) {l rest : List ℕ} → cut text ≡ line l rest → cut (text ++ more) ≡ line l (rest ++ more)
unfolding cut
cut_append [] more e = let z : ◌≡◌ {A = ℕ} 0 1 = cc in absurd (omega arith)
cut_append (b ∷ text) more {l} {rest} e = go (λ l' rest' f. cut_append text more f) (eqb b 10) (cut text) refl e
  where
    go : ((l' rest' : List ℕ) → cut text ≡ line l' rest' → cut (text ++ more) ≡ line l' (rest' ++ more)) → (c : Bool) (z : Cut) → cut text ≡ z → (if c then line [] text else Text.before b z) ≡ line l rest
        → (if c then line [] (text ++ more) else Text.before b (cut (text ++ more))) ≡ line l (rest ++ more)
    go ih true z f e = let a : ◌≡◌ {A = List ℕ} [] l = cc in let c : text ≡ rest = cc in λ d. line (a d) (c d ++ more)
    go ih false unended f e = let z : ◌≡◌ {A = ℕ} 0 1 = cc in absurd (omega arith)
    go ih false (line l' rest') f e = let a : b ∷ l' ≡ l = cc in let c : rest' ≡ rest = cc in ap (Text.before b) (ih l' rest' f) ∙ (λ d. line (a d) (c d ++ more))

module _ (S : Setting) where
  -- a line counts
  step_lines : (p : RunState) (i : Option Instruction) → Gives (λ q x. length q.lines ≡ length p.lines + 1) (step S i p)
  step_lines p none = refusal
  step_lines p (some s) = go (resolve S.fields p.lines s)
    where
      Counts : Outcome RunState ℕ → Type 0
      Counts o = Gives (λ q x. length q.lines ≡ length p.lines + 1) o

      made : (o : Outcome Tables ℕ) → Counts (after_making S p o)
      made (refused number) = refusal
      made (given σ x) = gives (length-append p.lines (some x ∷ []))

      fits : (σ : Tables) (answer : List ℕ) (b : Bool) → Counts (if b then given (place σ (p.lines ++ none ∷ []) (p.output ++ answer)) 0 else refused 27)
      fits σ answer true = gives (length-append p.lines (none ∷ []))
      fits σ answer false = refusal

      asked : (o : Outcome Tables (List ℕ)) → Counts (after_asking S p o)
      asked (refused number) = refusal
      asked (given σ answer) = fits σ answer (leb (length (p.output ++ answer)) S.room)

      go : (z : Resolved ℕ) → Counts (execute S z p)
      go (makes l) = made (on_base (on_aut (make S.fields S.limits l)) p.tables)
      go (asks q a x) = asked (Run.query S q (name_of a) x p.tables)
      go (refuses e) = refusal

  -- from p the text leads to q; what follows it goes on from there
  record Splits (left : ℕ) (text more : List ℕ) (k : ℕ) (p q : RunState) : Type 0 where
    rest : ℕ
    line_at : ℕ
    goes : run S left (text ++ more) k p ≡ run S rest more line_at q
    counted : rest + length q.lines ≡ left + length p.lines

  splits : (left : ℕ) (text more : List ℕ) (k : ℕ) (p q : RunState) → run S left text k p ≡ answered q → Splits left text more k p q
  unfolding run
  splits zero [] more k p q e = let z : p ≡ q = cc in record { rest = zero; line_at = k; goes = ap (run S zero more k) z; counted = ap (λ (p : RunState). zero + length p.lines) (sym z) }
  splits zero (b ∷ text) more k p q e = let z : ◌≡◌ {A = ℕ} 0 1 = cc in absurd (omega arith)
  splits (suc left) [] more k p q e = let z : p ≡ q = cc in record { rest = suc left; line_at = k; goes = ap (run S (suc left) more k) z; counted = ap (λ (p : RunState). suc left + length p.lines) (sym z) }
  splits (suc left) (b ∷ text) more k p q e = at_cut (λ rest p' f. splits left rest more (suc k) p' q f) (cut (b ∷ text)) refl e
    where
      at_step : (l rest : List ℕ) → cut (b ∷ text) ≡ line l rest → ((p' : RunState) → run S left rest (suc k) p' ≡ answered q → Splits left rest more (suc k) p' q)
          → (o : Outcome RunState ℕ) → step S (parse (words l)) p ≡ o → Gives (λ q x. length q.lines ≡ length p.lines + 1) o → onward S (run S left rest) k p o ≡ answered q → Splits (suc left) (b ∷ text) more k p q
      at_step l rest c f (refused number) z g e = let w : ◌≡◌ {A = ℕ} 0 1 = cc in absurd (omega arith)
      at_step l rest c f (given p' x) z (gives n) e = let s : Splits left rest more (suc k) p' q = f p' e in record {
        rest = s.rest;
        line_at = s.line_at;
        goes = ap (with_line S (run S left) k p) (cut_append (b ∷ text) more c) ∙ ap (onward S (run S left (rest ++ more)) k p) z ∙ s.goes;
        counted = omega (arith, s.counted);
      }

      at_cut : ((rest : List ℕ) (p' : RunState) → run S left rest (suc k) p' ≡ answered q → Splits left rest more (suc k) p' q) → (c : Cut) → cut (b ∷ text) ≡ c → with_line S (run S left) k p c ≡ answered q
          → Splits (suc left) (b ∷ text) more k p q
      at_cut f unended c e = let w : ◌≡◌ {A = ℕ} 0 1 = cc in absurd (omega arith)
      at_cut f (line l rest) c e = at_step l rest c (f rest) (step S (parse (words l)) p) refl (step_lines p (parse (words l))) e

-- ---- a book that is continued

pub book_continued : (lent : Lent) (h : Header) (text more : List ℕ) (first p : RunState) (x : ℕ) → begin lent h ≡ given first x → run (setting_of lent h) instructions text 2 first ≡ answered p → BookContinued lent h text more first p
book_continued lent h text more first p x b e = record {
  answers =
      subst (λ (r : Ran S). RunsOn S lent (WorksAgain S n more p (stripped lent p)) p.output r (run S n more 1 (stripped lent p))) (sym s.goes)
      (subst (λ (i : ℕ). RunsOn S lent (WorksAgain S n more p (stripped lent p)) p.output (run S i more s.line_at p) (run S n more 1 (stripped lent p))) (sym left)
      (runs_excuse S lent (λ a. a tt) (run_continued S lent beside p.output p (stripped lent p) goes.always n more s.line_at 1)));
  without_live = λ z. never_again S lent p.output p (stripped lent p) (goes.without_live z) n more;
}
  where
    S : Setting
    S = setting_of lent h

    n : ℕ
    n = instructions - length p.lines

    stands : (Q : List (Option (Rule h.fields))) × Standing (setting_of lent h) lent p Q
    stands = stands_on (setting_of lent h) lent ((book_stands lent h).begins first x b) instructions text 2 e

    goes : CutContinued (setting_of lent h) lent p stands.0
    goes = cut_continued (setting_of lent h) lent p stands.0 stands.1

    s : Splits (setting_of lent h) instructions text more 2 first p
    s = splits (setting_of lent h) instructions text more 2 first p e

    left : s.rest ≡ n
    left = omega (arith, s.counted, ap length (begun_lines (begun_of_lem lent h first x b)))

-- ---- in the words of the calls

came_setting : {S T : Setting} {p q : RunState} → came S p ≡ came T q → S ≡ T
came_setting e = cc

came_place : {S T : Setting} {p q : RunState} → came S p ≡ came T q → p ≡ q
came_place e = cc

not_failed : {number k : ℕ} {output : List ℕ} {S : Setting} {p : RunState} → failed number k output ≡ came S p → ⊥
not_failed e = let z : ◌≡◌ {A = ℕ} 0 1 = cc in omega arith

-- a book that has come to p: its header, and where it began
pub record Started (lent : Lent) (book : List ℕ) (S : Setting) (p : RunState) : Type 0 where
  pub room : ltb lent.scratch 6144 ≡ false
  pub head : List ℕ
  pub text : List ℕ
  pub cuts : cut book ≡ line head text
  pub says : Header
  pub reads : header (words head) ≡ some says
  pub first : RunState
  pub value : ℕ
  pub begins : begin lent says ≡ given first value
  pub setting : setting_of lent says ≡ S
  pub runs : run (setting_of lent says) instructions text 2 first ≡ answered p

pub started : (lent : Lent) (book : List ℕ) (S : Setting) (p : RunState) → ran_book lent book ≡ came S p → Started lent book S p
unfolding ran_book
started lent book S p e = at_scratch (ltb lent.scratch 6144) refl e
  where
    at_run : ltb lent.scratch 6144 ≡ false → (l text : List ℕ) → cut book ≡ line l text → (h : Header) → header (words l) ≡ some h → (first : RunState) (x : ℕ) → begin lent h ≡ given first x
        → (r : Ran (setting_of lent h)) → run (setting_of lent h) instructions text 2 first ≡ r → came_of (setting_of lent h) r ≡ came S p → Started lent book S p
    at_run z l text c h w first x b (stopped number k output) r e = absurd (not_failed e)
    at_run z l text c h w first x b (answered q) r e =
        record { room = z; head = l; text = text; cuts = c; says = h; reads = w; first = first; value = x; begins = b; setting = came_setting e; runs = r ∙ ap (λ (p : RunState). answered p) (came_place e) }

    at_begin : ltb lent.scratch 6144 ≡ false → (l text : List ℕ) → cut book ≡ line l text → (h : Header) → header (words l) ≡ some h → (o : Outcome RunState ℕ) → begin lent h ≡ o → started_book lent h text o ≡ came S p → Started lent book S p
    at_begin z l text c h w (refused number) b e = absurd (not_failed e)
    at_begin z l text c h w (given first x) b e = at_run z l text c h w first x b (run (setting_of lent h) instructions text 2 first) refl e

    at_header : ltb lent.scratch 6144 ≡ false → (l text : List ℕ) → cut book ≡ line l text → (o : Option Header) → header (words l) ≡ o → headed_book lent o text ≡ came S p → Started lent book S p
    at_header z l text c none w e = absurd (not_failed e)
    at_header z l text c (some h) w e = at_begin z l text c h w (begin lent h) refl e

    at_cut : ltb lent.scratch 6144 ≡ false → (c : Cut) → cut book ≡ c → opened_book lent c ≡ came S p → Started lent book S p
    at_cut z unended c e = absurd (not_failed e)
    at_cut z (line l text) c e = at_header z l text c (header (words l)) refl e

    at_scratch : (b : Bool) → ltb lent.scratch 6144 ≡ b → (if b then failed 26 0 [] else opened_book lent (cut book)) ≡ came S p → Started lent book S p
    at_scratch true z e = absurd (not_failed e)
    at_scratch false z e = at_cut z (cut book) refl e

module _ (lent : Lent) (book more : List ℕ) {S : Setting} {p : RunState} (s : Started lent book S p) where
  abbrev T : Setting
  T = setting_of lent s.says

  whole_run : ran_book lent (book ++ more) ≡ came_of T (run T instructions (s.text ++ more) 2 s.first)
  unfolding ran_book
  whole_run =
      ap (λ (b : Bool). if b then failed 26 0 [] else opened_book lent (cut (book ++ more))) s.room
      ∙ ap (opened_book lent) (cut_append book more s.cuts)
      ∙ ap (λ (o : Option Header). headed_book lent o (s.text ++ more)) s.reads
      ∙ ap (started_book lent s.says (s.text ++ more)) s.begins

  resumed_run : (image : List ℕ) → setting_at lent image ≡ T → read lent limits01 image ≡ given (stripped lent p) 0 → ran_on lent image more ≡ came_of T (run T (instructions - length p.lines) more 1 (stripped lent p))
  unfolding ran_on
  resumed_run image e r =
      ap (λ (b : Bool). if b then failed 26 0 [] else goes_on lent (setting_at lent image) more (read lent limits01 image)) s.room
      ∙ ap (goes_on lent (setting_at lent image) more) r
      ∙ (λ d. came_of (e d) (run (e d) (instructions - length p.lines) more 1 (stripped lent p)))

  calls_of : CallsContinued lent book more T p
  calls_of =
      let c : BookContinued lent s.says s.text more s.first p = book_continued lent s.says s.text more s.first p s.value s.begins s.runs in
      record { on = run T instructions (s.text ++ more) 2 s.first; uninterrupted = whole_run; continued = resumed_run; answers = c.answers; without_live = c.without_live }

pub calls_continued : (lent : Lent) (book more : List ℕ) (S : Setting) (p : RunState) → ran_book lent book ≡ came S p → CallsContinued lent book more S p
calls_continued lent book more S p e = let s : Started lent book S p = started lent book S p e in subst (λ (T : Setting). CallsContinued lent book more T p) s.setting (calls_of lent book more s)

pub continued_claim : ContinuedClaim
continued_claim = record {
  lines = line_continued;
  constructors = constructor_continued;
  runs = run_continued;
  never = never_again;
  cuts = λ S lent p R s. cut_continued S lent p R s;
  stands = book_stands;
  books = book_continued;
  calls = calls_continued;
}

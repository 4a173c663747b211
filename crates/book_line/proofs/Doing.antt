-- What a line does: its constructor, or its query, at a place in order.
use mathlib.Core.Path.{◌≡◌, refl, sym, ◌∙◌, ap, ap₂, subst}
use mathlib.Core.Logic.{inl}
use mathlib.Core.List.{List, [], ◌∷◌, ◌++◌}
use mathlib.Core.Option.{Option, none, some}
use Prim.Native.Nat.{ℕ, ◌+◌, ◌/◌, ◌<◌}
use native.Mathlib.Omega.{arith}
use lib.ListN.{length, take}
use Rattle.std.specs.Prelude.{Result, Ok, Err}
use Rattle.std.specs.Prelude as code
use Rattle.slices.specs.Same.{SameSlice}
use Rattle.common.specs.Outcome.{Outcome, given}
use Rattle.common.specs.Runs.{placed}
use Rattle.cache.proofs.Cache.{notes_map}
use Rattle.netkat.specs.Rules.{In}
use Rattle.refusal.specs.declared.Refusal.{Refusal}
use Rattle.aut_steps.specs.Tables.{Aut}
use Rattle.aut_steps.specs.Meaning.{rule}
use Rattle.aut_steps.proofs.Meaning.{Is}
use Rattle.book_construct_steps.specs.Lines as Lines
use Rattle.book_construct_steps.proofs.LineLaws.{make_goes}
use Rattle.aut_delta_steps.specs.Delta.{put_aut, on_aut}
use Rattle.aut_query_steps.specs.Tables.{Tables, put_base, on_base}
use Rattle.aut_query_steps.proofs.Steps.{Ends, Steps, goes_ends}
use Rattle.book_steps.specs.Answers.{name_of}
use Rattle.book_steps.specs.Reader as Reader
use Rattle.book_steps.specs.Reader.{makes, asks}
use Rattle.book_steps.specs.Run as Run
use Rattle.book_steps.specs.Run.{place, execute, step, after_making}
use Rattle.aut_states.specs.Clauses.{limits_of}
use Rattle.aut_relations.specs.Behind.{LISTS}
use Rattle.aut_relations.specs.declared.Aut.{Aut as Lent}
use Rattle.aut_stage.specs.Rule.{Post}
use Rattle.aut_sets.specs.Lent.{SameLent}
use Rattle.aut_query_stage.specs.Layer.{QueryReady}
use Rattle.aut_query_stage.specs.Lent.{tables_in, Leaves, query_layer}
use Rattle.aut_query_stage.proofs.Lent.{query_laws, by_ends}
use Rattle.book_construct.specs.Clauses.{line_of, LineReady}
use Rattle.book_construct.specs.declared.Line as line
use Rattle.book_reader.specs.Clauses.{rest, query_of, Says}
use Rattle.book_reader.specs.declared.Cursor.{Cursor}
use Rattle.book_reader.specs.declared.Query.{Query}
use Rattle.book_reader.specs.declared.Said.{Said}
use Rattle.book_writer.specs.declared.output.Output.{Output}
use Rattle.book_writer.specs.Clauses.{PutAt}
use Rattle.book_writer.proofs.Contracts.{put_take}
use Rattle.book_query.specs.Clauses.{PostAsk}
use Rattle.book_memory.specs.declared.Lines.{Lines as Table}
use Rattle.book_memory.specs.declared.Setting.{Setting}
use Rattle.book_memory.specs.declared.Place.{Place}
use Rattle.book_memory.specs.Place.{LINES, lines_at, lines_in, Below, place_in, setting_in, Standing}
use Rattle.book_memory.proofs.Table.{below_more}
use Rattle.book_place.specs.declared.Told.{Told}
use Rattle.book_place.specs.declared.Told.TheVariants as told
use Rattle.book_place.specs.Clauses.{OnlyWork, OnlyMade, told_of, ToldReady, PostTold, Constructs, MadeLine, PostMake}
use Rattle.book_line.specs.Clauses.{Gives, Stops, ObeyedBy, PreAskLine, PrePerform, PostPerform, PreObey, PostObey}

-- ---- a constructor

module _ {S : Setting} {x : Place} (Z : Standing S x) (more : x.lines.count < LINES) (l : line.Line) where
  abbrev σ : Tables
  σ = tables_in x.aut

  abbrev the_line : Lines.Line ℕ
  the_line = line_of x.aut.scratch.now l

  abbrev making : Outcome Tables ℕ
  making = on_base (on_aut (Lines.make S.config.fields (limits_of S.config.limits) the_line)) σ

  abbrev Holds : Tables → ℕ → Type 0
  Holds τ v = Is S.config.fields (In (Lines.means (rule S.config.fields σ.base.aut) the_line)) τ.base.aut v

  module _ (R : LineReady S.config.fields x.aut.states.count x.aut.scratch.now l) {y : Place} (O : OnlyMade x y) where
    line_stops : {e : Refusal} → Constructs S.config l (Err e) x y → Stops e x y (execute (setting_in S x) (makes the_line) (place_in x))
    line_stops C = record {
      is = ap (λ (o : Outcome Aut ℕ). after_making (setting_in S x) (place_in x) (placed put_base σ (placed put_aut σ.base o))) C.does.is;
      output = O.output;
    }

    module _ (M : MadeLine S.config l x y) where
      step_given : making ≡ given (tables_in y.aut) M.state
      step_given = ap (λ (o : Outcome Aut ℕ). placed put_base σ (placed put_aut σ.base o)) M.made.does.is ∙ rw (sym O.aut.sp) (rw (sym O.aut.transitions) refl)

      law : Ends S.config.fields (limits_of S.config.limits) 0 (Steps S.config.fields (limits_of S.config.limits) Holds σ) σ making
      law = goes_ends Z.ready.ordered (make_goes Z.ready.ready.good the_line R.asked)

      left : Leaves S.config.fields 0 LISTS (tables_in y.aut) x.aut.scratch.now y.aut.scratch.now
      left = let f = M.made.does.left in record { below = f.below; above = f.above; notes = notes_map (λ op a b r v. inl v) f.notes }

      came : Post (query_layer S.config.fields S.config.limits) 0 LISTS Holds (λ z. z) making σ (Ok M.state) (tables_in y.aut) x.aut.scratch.now y.aut.scratch.now
      came = by_ends Z.ready law O.aut.scratch.length (Ok M.state) step_given left

      line_gives : Gives S x y (execute (setting_in S x) (makes the_line) (place_in x))
      line_gives = record {
        value = M.state;
        is = ap (after_making (setting_in S x) (place_in x)) step_given
            ∙ ap₂ (λ (ls : List (Option ℕ)) (o : Output). given (place (tables_in y.aut) ls (take o.at o.bytes.now)) M.state) (sym M.lines) (sym O.output);
        standing = record {
          fields = O.aut.spp.fields ∙ Z.fields;
          ready = came.then.ready;
          pending = rw O.aut.pending Z.pending;
          table = O.lines.length ∙ Z.table;
          lines = omega (arith, M.count);
          named = subst (Below y.aut.states.count) (sym M.lines) (below_more (lines_in x) Z.named came.then.ext.grown.states.more (some M.state) (λ v e. let f : M.state ≡ v = cc in omega (arith, M.made.ready.1)));
        };
        lines = M.count;
        onto = record { from = omega (arith, ap (λ (o : Output). o.at) O.output); beyond = λ i h. ap (λ (o : Output). code.get_or o.bytes.now i 0) O.output };
      }

    pub line_obeys : (r : Result Unit Refusal) → PostMake S.config l r x y → ObeyedBy S x r y (execute (setting_in S x) (makes the_line) (place_in x))
    line_obeys (Ok u) M = line_gives M
    line_obeys (Err e) C = line_stops C

-- ---- a query

-- a number's digits, which are lent on from a place of their own
module _ {r : ℕ} {bs s s' t : List ℕ} (W : PutAt 0 bs r s s') (e : t ≡ s') where
  pub name_is : take r t ≡ bs
  name_is = ap (take r) e ∙ put_take W

module _ {S : Setting} {z : ℕ} {x : Place} (P : PreAskLine S x z) where
  module _ (q : Query) (a : ℕ) {name : List ℕ} (named : name ≡ name_of a) where
    abbrev asking : Outcome Run.RunState ℕ
    asking = execute (setting_in S x) (asks (query_of q) a z) (place_in x)

    pub ask_stops : {e : Refusal} {b : Lent} {o : Output} → PostAsk S (query_of q) name z (Err e) x.aut b x.output o → Stops e x (record { aut = b; lines = x.lines; output = o }) asking
    ask_stops {e} {b} {o} A = record { is = rw named at (A.is (lines_in x)); output = A.then }

    pub ask_gives : {b : Lent} {o : Output} {t : Table} → PostAsk S (query_of q) name z (Ok tt) x.aut b x.output o → SameSlice x.lines.words t.words → lines_at t ≡ lines_in x ++ none ∷ [] → t.count ≡ x.lines.count + 1
        → SameLent x.aut b → Gives S x (record { aut = b; lines = t; output = o }) asking
    ask_gives {b} {o} {t} A w l n K = record {
      value = 0;
      is = (rw named at (A.is (lines_in x))) ∙ ap (λ (ls : List (Option ℕ)). given (place (tables_in b) ls (take o.at o.bytes.now)) 0) (sym l);
      standing = record {
        fields = K.spp.fields ∙ P.standing.fields;
        ready = A.then.ready;
        pending = A.then.pending;
        table = w.length ∙ P.standing.table;
        lines = omega (arith, n, P.more);
        named = subst (Below b.states.count) (sym l) (below_more (lines_in x) P.standing.named A.then.later.grown.states.more none (λ u v. absurd (let k : ◌≡◌ {A = ℕ} 0 1 = cc in omega arith)));
      };
      lines = n;
      onto = record { from = A.then.from; beyond = A.then.beyond };
    }

-- ---- what a line is told, done

module _ {S : Setting} {t : Told} {x : Place} (P : PrePerform S x t) where
  -- a constructor
  module _ {l : line.Line} (f : t ≡ told.Makes l) where
    told_line : LineReady S.config.fields x.aut.states.count x.aut.scratch.now l
    told_line = subst (λ (u : Told). ToldReady S.config.fields x.aut.states.count x.aut.scratch.now (Ok u)) f P.ready

    pub makes_obeys : (y : Place) (r : Result Unit Refusal) → OnlyMade x y → PostMake S.config l r x y → PostPerform S x t r y
    makes_obeys y r O M = subst (λ (u : Told). PostPerform S x u r y) (sym f) (line_obeys P.standing P.more l told_line O r M)

-- ---- a line that is read

module _ {S : Setting} (c : Cursor) {x : Place} (P : PreObey S x) {s : code.Option Said} (R : Says (Reader.parse (rest c)) s) where
  module _ {y : Place} (O : OnlyWork x y) where
    tables_kept : tables_in y.aut ≡ tables_in x.aut
    tables_kept = rw O.aut.sp (rw O.aut.spp (rw O.aut.states (rw O.aut.members (rw O.aut.transitions refl))))

    lines_kept : lines_in y ≡ lines_in x
    lines_kept = ap (λ (t : Table). lines_at t) O.lines

    place_kept : place_in y ≡ place_in x
    place_kept = rw tables_kept (rw O.lines (rw O.output refl))

    setting_kept : setting_in S y ≡ setting_in S x
    setting_kept = rw O.aut.pending (rw O.output refl)

    same_step : {t : Result Told Refusal} → PostTold S.config s t x y → step (setting_in S x) (Reader.parse (rest c)) (place_in x) ≡ execute (setting_in S x) (told_of y.aut.scratch.now t) (place_in x)
    same_step T = ap (λ (o : Option Reader.Instruction). step (setting_in S x) o (place_in x)) R.is
        ∙ T.is S.budget (length x.aut.pending.now / 2) (length x.output.bytes.now) (tables_in x.aut) (take x.output.at x.output.bytes.now)

    -- refused before a table is touched
    pub obey_stops : {e : Refusal} → PostTold S.config s (Err e) x y → Stops e x y (step (setting_in S x) (Reader.parse (rest c)) (place_in x))
    obey_stops T = record { is = same_step T; output = O.output }

    module _ {t : Told} (T : PostTold S.config s (Ok t) x y) where
      standing_kept : Standing S y
      standing_kept = record {
        fields = rw O.aut.spp P.standing.fields;
        ready = subst (λ (τ : Tables). QueryReady S.config.fields S.config.limits τ y.aut.scratch.now) (sym tables_kept)
            ((query_laws S.config.fields S.config.limits).ready_kept 0 64 (tables_in x.aut) x.aut.scratch.now y.aut.scratch.now O.aut.scratch.length
            ((query_laws S.config.fields S.config.limits).frame_kept 0 64 (tables_in x.aut) x.aut.scratch.now y.aut.scratch.now (omega arith) O.aut.scratch.length T.kept)
            P.standing.ready);
        pending = rw O.aut.pending P.standing.pending;
        table = rw O.lines P.standing.table;
        lines = rw O.lines P.standing.lines;
        named = rw O.aut.states (rw O.lines P.standing.named);
      }

      pub obey_perform : PrePerform S y t
      obey_perform = record { standing = standing_kept; ready = T.ready y.aut.states.count (rw O.aut.states P.standing.named); more = rw O.lines P.more }

      the_step : step (setting_in S x) (Reader.parse (rest c)) (place_in x) ≡ execute (setting_in S y) (told_of y.aut.scratch.now (Ok t)) (place_in y)
      the_step = same_step T ∙ ap₂ (λ (Q : Run.Setting) (p : Run.RunState). execute Q (told_of y.aut.scratch.now (Ok t)) p) (sym setting_kept) (sym place_kept)

      pub obeyed : (z : Place) (r : Result Unit Refusal) → PostPerform S y t r z → PostObey S x c r z
      obeyed z (Ok u) Q = record {
        value = Q.value;
        is = the_step ∙ Q.is;
        standing = Q.standing;
        lines = Q.lines ∙ ap (λ (q : Table). q.count + 1) O.lines;
        onto = record {
          from = omega (arith, Q.onto.from, ap (λ (o : Output). o.at) O.output);
          beyond = λ i h. Q.onto.beyond i h ∙ ap (λ (o : Output). code.get_or o.bytes.now i 0) O.output;
        };
      }
      obeyed z (Err e) Q = record { is = the_step ∙ Q.is; output = Q.output ∙ O.output }

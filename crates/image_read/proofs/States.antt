-- Members, states, lines, and the end.
use Rattle.std.specs.Prelude.{if◌then◌else◌, Result, Ok, Err}
use mathlib.Core.Path.{◌≡◌, refl, sym, ◌∙◌, ap, subst}
use mathlib.Core.Bool.{Bool, true, false}
use mathlib.Core.List.{List, []}
use denote.Ref.{Bor}
use Prim.Native.Nat.{ℕ, ◌+◌, ◌*◌, ◌-◌, ◌≤◌}
use native.Mathlib.Omega.{arith}
use Rattle.common.specs.Outcome.{Outcome, refused, given, Step, after, ◌>>=◌}
use Rattle.refusal.specs.declared.Refusal.{Refusal}
use Rattle.refusal.specs.declared.Refusal.TheVariants.{Record}
use Rattle.refusal.specs.Numbers.{outcome}
use Rattle.aut_steps.specs.Tables.{limits01}
use Rattle.aut_relations.specs.declared.Aut.{Aut as Lent}
use Rattle.aut_relations.specs.Lent.{aut_in}
use Rattle.book_steps.specs.Run.{RunState, place}
use Rattle.book_memory.specs.declared.Setting.{Setting}
use Rattle.book_memory.specs.declared.Lines.{Lines}
use Rattle.book_memory.specs.declared.Place.{Place}
use Rattle.book_begin.specs.Clauses.{setting_for}
use Rattle.image_steps.specs.Image as Image
use Rattle.image_steps.specs.Image.{layout, start_of, total}
use Rattle.image_steps.specs.Read as Read
use Rattle.image_words.specs.declared.Head.{Head}
use Rattle.image_words.specs.Clauses.{head_of, entered_by, Reaches}
use Rattle.image_words.proofs.Words.{start_2, start_3, start_4, start_5}
use Rattle.image_states.specs.declared.Lists.{Lists}
use Rattle.image_states.specs.Clauses.{Holds, HeadIs, put_in, ReadsStates, StatesAsk}
use Rattle.book_memory.specs.Place.{lines_at}
use Rattle.image_read.specs.Clauses.{Fitting, PostMembers, PreLines, PostLines, ended_by, PreAutomaton, state_steps, PostAutomaton, PreRecords, rest_steps, PostRecords}
use Rattle.image_read.proofs.Ending.{fits, reaching}
use Rattle.image_read.proofs.Lines.{after_both}

-- where members stand
abbrev lists_in : Bor (List ℕ) → Head → Lists
lists_in b h = record { image = b; first = 2 * h.sp + 4 * h.spp; count = h.members }

module _ (b : Bor (List ℕ)) (h : Head) (x : Lent) (fit : Fitting b.now h) (P : PreAutomaton h x) where
  abbrev g : Image.Head
  g = head_of h

  abbrev from : ℕ
  from = 2 * h.sp + 4 * h.spp

  is_head : HeadIs g h.fields (lists_in b h)
  is_head = record { fields = refl; members = refl; first = start_2 g }

  holds : (n : ℕ) → n ≤ total g → Holds b.now n
  holds n l = record { block = λ i m. omega (arith, reaching b.now h fit n l) }

  pub members_ready : Reaches b.now (2 * h.sp + 4 * h.spp + h.members)
  members_ready = reaching b.now h fit (2 * h.sp + 4 * h.spp + h.members) (omega (arith, start_5 g))

  by_members : (r : Result Unit Refusal) → PostMembers b.now (2 * h.sp + 4 * h.spp) h.members r → (p : RunState)
      → state_steps b.now g limits01 p ≡ after (entered_by r p) (λ _. Read.records b.now g limits01 (Read.state b.now g limits01) 4 0 (start_of 3 (layout g)) h.states)
  by_members r M p =
      ap (λ (i : ℕ). after (Read.records b.now g limits01 (Read.member b.now g limits01) 1 0 i h.members p) (λ _. Read.records b.now g limits01 (Read.state b.now g limits01) 4 0 (start_of 3 (layout g)) h.states)) (start_2 g)
      ∙ ap (λ (o : Outcome RunState ℕ). after o (λ _. Read.records b.now g limits01 (Read.state b.now g limits01) 4 0 (start_of 3 (layout g)) h.states)) (M g limits01 p)

  module _ (S : Setting) (u : S ≡ setting_for (record { fields = h.fields; budget = h.budget })) where
    pub states_ready : StatesAsk S.config (lists_in b h) (2 * h.sp + 4 * h.spp + h.members) h.states x
    states_ready = subst (λ (S : Setting). StatesAsk S.config (lists_in b h) (from + h.members) h.states x) (sym u) (record {
      asks = record {
        ordered = record { few = (fits b.now h fit).fields; good = P.good };
        list = omega arith;
        room = P.room;
        members = holds (from + h.members) (omega (arith, start_5 g));
      };
      here = holds (from + h.members + 4 * h.states) (omega (arith, start_5 g));
      head = g;
      is_head = is_head;
    })

    pub automaton_read : PostMembers b.now (2 * h.sp + 4 * h.spp) h.members (Ok tt) → {r : Result Unit Refusal} {y : Lent}
        → ReadsStates S.config (lists_in b h) (2 * h.sp + 4 * h.spp + h.members) h.states x r y → PostAutomaton b.now h x r y
    automaton_read M {r} {y} R =
        let R₀ = subst (λ (S : Setting). ReadsStates S.config (lists_in b h) (from + h.members) h.states x r y) u R in
        record {
          is = λ p e. by_members (Ok tt) M p ∙ ap (λ (i : ℕ). Read.records b.now g limits01 (Read.state b.now g limits01) 4 0 i h.states p) (start_3 g) ∙ R₀.is g is_head p e;
          kept = R₀.kept;
        }

  pub no_members : {e : Refusal} → PostMembers b.now (2 * h.sp + 4 * h.spp) h.members (Err e) → PostAutomaton b.now h x (Err e) x
  no_members {e} M = record { is = λ p y. by_members (Err e) M p; kept = record { below = λ i l. refl; above = λ i l. refl } }

-- ---- lines, and the end

-- the place with other tables and lines
abbrev pub records_at : Place → Lent → Lines → Place
records_at x y m = record { aut = y; lines = m; output = x.output }

module _ (image : List ℕ) (h : Head) (x : Place) (fit : Fitting image h) (P : PreRecords h x) where
  abbrev g₁ : Image.Head
  g₁ = head_of h

  abbrev line_steps : Step RunState ℕ
  line_steps = Read.records image g₁ limits01 (Read.line image g₁ limits01) 1 0 (start_of 4 (layout g₁)) h.lines >>= λ _. Read.ended image g₁ limits01

  by_states : (p : RunState) → rest_steps image g₁ limits01 p ≡ after (state_steps image g₁ limits01 p) (λ _. line_steps)
  by_states p = after_both (Read.records image g₁ limits01 (Read.member image g₁ limits01) 1 0 (start_of 2 (layout g₁)) h.members p)
      (Read.records image g₁ limits01 (Read.state image g₁ limits01) 4 0 (start_of 3 (layout g₁)) h.states) line_steps

  with_states : {r : Result Unit Refusal} {y : Lent} → PostAutomaton image h x.aut r y → (p : RunState) → p.tables.base.aut ≡ aut_in x.aut
      → rest_steps image g₁ limits01 p ≡ after (outcome {A = ℕ} (λ u. 0) r (put_in (aut_in y) p)) (λ _. line_steps)
  with_states A p a = by_states p ∙ ap (λ (o : Outcome RunState ℕ). after o (λ _. line_steps)) (A.is p a)

  pub no_states : {e : Refusal} {y : Lent} → PostAutomaton image h x.aut (Err e) y → (z : Place) → PostRecords image h x (Err e) z
  no_states A z = record { is = λ p a n. with_states A p a; then = tt }

  -- .. from word t - lines on
  module _ {t : ℕ} (e : t ≡ total g₁) where
    abbrev start : ℕ
    start = t - h.lines

    pub lines_inside : h.lines ≤ t
    lines_inside = omega (arith, start_5 g₁, e)

    lines_from : start_of 4 (layout g₁) ≡ start
    lines_from = omega (arith, start_4 g₁, start_5 g₁, e)

    pub lines_ready : PreLines image x.lines start h.lines
    lines_ready = record {
      reaches = reaching image h fit (start + h.lines) (omega (arith, start_5 g₁, e));
      none = P.no_lines;
      room = omega (arith, (fits image h fit).lines, P.table);
    }

    module _ (y : Lent) (A : PostAutomaton image h x.aut (Ok tt) y) where
      module _ (p : RunState) (a : p.tables.base.aut ≡ aut_in x.aut) (n : p.lines ≡ []) where
        abbrev p₁ : RunState
        p₁ = put_in (aut_in y) p

        with_lines : {r : Result Unit Refusal} {m : Lines} → PostLines image start h.lines y.states.count x.lines r m
            → rest_steps image g₁ limits01 p ≡ after (outcome {A = ℕ} (λ u. 0) r (place p₁.tables (lines_at m) p.output)) (λ _. Read.ended image g₁ limits01)
        with_lines R =
            with_states A p a
            ∙ ap (λ (i : ℕ). after (Read.records image g₁ limits01 (Read.line image g₁ limits01) 1 0 i h.lines p₁) (λ _. Read.ended image g₁ limits01)) lines_from
            ∙ ap (λ (o : Outcome RunState ℕ). after o (λ _. Read.ended image g₁ limits01)) (R.is g₁ limits01 p₁ refl n)

        module _ (m : Lines) (R : PostLines image start h.lines y.states.count x.lines (Ok tt) m) {b : Bool} (E : ended_by image (head_of h) y.members.count ≡ b) where
          with_end : {v : Bool} → b ≡ v → rest_steps image g₁ limits01 p ≡ (if v then given (place p₁.tables (lines_at m) p.output) 0 else refused 32)
          unfolding Read.ended
          with_end f = with_lines R ∙ ap (λ (v : Bool). if v then given (place p₁.tables (lines_at m) p.output) 0 else refused 32) (E ∙ f)

      pub lines_stopped : {e : Refusal} {m : Lines} → PostLines image start h.lines y.states.count x.lines (Err e) m → (z : Place) → PostRecords image h x (Err e) z
      lines_stopped R z = record { is = λ p a n. with_lines p a n R; then = tt }

      module _ (m : Lines) (R : PostLines image start h.lines y.states.count x.lines (Ok tt) m) {b : Bool} (E : ended_by image (head_of h) y.members.count ≡ b) where
        pub no_end : b ≡ false → (z : Place) → PostRecords image h x (Err Record) z
        no_end f z = record { is = λ p a n. with_end p a n m R E f; then = tt }

        pub records_given : b ≡ true → PostRecords image h x (Ok tt) (records_at x y m)
        records_given f = record { is = λ p a n. with_end p a n m R E f; then = record { lined = R.then; kept = A.kept } }

-- A line at a point in order: it is refused as specs/RunSpec says (LineRefusal), or it is done (LineSpec) and the tables are in order again.
use Rattle.std.specs.Prelude.{if◌then◌else◌}
use mathlib.Core.Path.{◌≡◌, refl, sym, ◌∙◌, ap, subst}
use native.Mathlib.Omega.{arith}
use mathlib.Core.Logic.{⊎_elim}
use mathlib.Core.Bool.{Bool, true, false}
use mathlib.Core.List.{List, [], ◌∷◌, ◌++◌}
use mathlib.Core.Option.{Option, none, some}
use Prim.Native.Nat.{ℕ, ◌+◌, ◌*◌, ◌≤◌, ◌<◌}
use lib.Dec.{T, leb}
use lib.ListN.{length, get_or}
use borrow.Author.Tests.{leb-true, leb-false}
use Rattle.common.specs.Outcome.{Outcome, refused, given, after}
use Rattle.common.specs.Runs.{Table, placed}
use Rattle.netkat.specs.Rules.{Rule, In}
use Rattle.netkat.specs.Lists.{State, Transition, Ascending, IsDelta}
use Rattle.sp_steps.specs.Model as Sp
use Rattle.aut_steps.specs.Tables.{Aut}
use Rattle.aut_steps.proofs.Languages.{◌then◌}
use Rattle.aut_steps.specs.Wf.{states}
use Rattle.aut_steps.proofs.StepSpec as Goes
use Rattle.aut_steps.proofs.StepSpec.{StepSpec}
use Rattle.aut_steps.specs.Meaning.{rule, Holds}
use Rattle.aut_steps.proofs.Meaning.{Is}
use Rattle.book_construct_steps.specs.Lines.{Line, means, make}
use Rattle.book_construct_steps.proofs.LineLaws.{make_goes}
use Rattle.aut_delta_steps.specs.Delta.{put_aut}
use Rattle.aut_delta_steps.specs.Fits.{Since}
use Rattle.aut_delta_steps.proofs.Wf.{worked_since}
use Rattle.aut_delta_steps.proofs.Extends.{went_since}
use Rattle.aut_query_steps.specs.Tables.{Tables, put_base, WfTables, ExtTables}
use Rattle.aut_query_steps.proofs.Tables.{gone_later}
use Rattle.aut_query_steps.specs.Search.{is_empty}
use Rattle.aut_query_steps.specs.Live.{live_packets}
use Rattle.aut_query_steps.specs.Pruned.{delta_pruned}
use Rattle.aut_why_steps.specs.Why as Why
use Rattle.aut_query_steps.proofs.Steps as Steps
use Rattle.aut_query_steps.proofs.Steps.{Ends, gone_base, ordered_base}
use Rattle.aut_query_steps.proofs.SettleLaws.{decodes}
use Rattle.aut_query_steps.proofs.SearchEnds.{search_ends}
use Rattle.aut_query_steps.proofs.LiveLaws.{live_ends}
use Rattle.aut_query_steps.proofs.PrunedLaws.{pruned_ends}
use Rattle.aut_why_steps.proofs.WhyLaws.{why_ends}
use Rattle.book_steps.specs.Reader as Reader
use Rattle.book_steps.specs.Reader.{Query, Instruction, Resolved, makes, asks, refuses, resolve}
use Rattle.book_steps.specs.Answers.{name_of, empty_answer, live_answer, pruned_answer, why_answer}
use Rattle.book_steps.specs.Run.{Lent, Setting, RunState, place, after_making, after_asking, execute, step}
use Rattle.book_steps.proofs.Meaning as Meaning
use Rattle.book_steps.specs.Meaning.{Matched, Same}
use Rattle.book_steps.proofs.MeaningLaws.{noted}
use Rattle.book_steps.proofs.Meaning.{both, neither, matched_more, matched_grown, LineAlike, tell_alike, alike_asked, alike_means}
use Rattle.book_steps.specs.Demands.{TableSpec, RoomSpec, StateSpec, TablesSpec, InOrder}
use Rattle.book_steps.specs.RunSpec.{told, QuerySpec, QueryRefused, LineSpec, made, answered, Point, Reads, LineRefusal}
use Rattle.book_steps.proofs.Numbers.{make_number}
use Rattle.book_steps.proofs.Reading.{reads}
use Rattle.book_steps.proofs.Answers.{search_spec, live_spec, pruned_spec, why_spec, asking_number}

-- ---- the tables

-- a table that has come further: as long, with zeros behind its records
further : {room size most : ℕ} {t u : Table} → TableSpec room size most t → t.count ≤ u.count → length u.words ≡ length t.words
    → ((j : ℕ) → size * u.count ≤ j → size * t.count ≤ j) → ((j : ℕ) → size * u.count ≤ j → get_or u.words j 0 ≡ get_or t.words j 0)
    → size * u.count ≤ length u.words → u.count ≤ most → TableSpec room size most u
further p m l less b w c = record { len = l ∙ p.len; whole = omega (arith, p.len); cap = c; beyond = λ j k. b j k ∙ p.beyond j (less j k) }

module _ (S : Setting) (lent : Lent) where
  abbrev N : ℕ
  N = S.fields

  abbrev Meant : Type 0
  Meant = List (Option (Rule N))

  pub room_later : {σ τ : Tables} → RoomSpec lent σ → ExtTables σ τ → WfTables N S.limits τ → RoomSpec lent τ
  room_later r z o =
      let g = o.worked.good in
      record {
        sp = further r.sp z.sets.more z.sets.len (λ j k. omega (arith, z.sets.more)) z.sets.beyond o.sets.fits o.sets.small;
        spp = further r.spp z.grown.nodes.more z.grown.nodes.len (λ j k. omega (arith, z.grown.nodes.more)) z.grown.nodes.beyond g.nodes.nodes.fits g.nodes.nodes.small;
        states = further r.states z.grown.states.more z.grown.states.len (λ j k. omega (arith, z.grown.states.more)) z.grown.states.beyond g.fits g.small;
        members = further r.members z.grown.members.more z.grown.members.len (λ j k. omega (arith, z.grown.members.more)) (λ j k. z.grown.members.beyond j (omega arith))
            (omega (arith, g.members_fit)) g.members_small;
        transitions = further r.transitions z.transitions.more z.transitions.len (λ j k. omega (arith, z.transitions.more)) z.transitions.beyond o.worked.lists.fit o.worked.lists.small;
        zero = λ x w l m. z.others x w l m ∙ r.zero x w l m;
      }

  pub in_order : {p : RunState} {R : Meant} → WfTables N S.limits p.tables → RoomSpec lent p.tables → Matched N p.tables.base.aut p.lines R → InOrder S lent p R
  in_order {p} o r m = record {
    ordered = o;
    tables = record { room = r; state = state; once = o.worked.good.once; matched = m };
  }
    where
      state : (x : ℕ) → x < states p.tables.base.aut → StateSpec S p.tables p.tables.base.aut p.tables.base.aut.states.words x
      state x l =
          let g = o.worked.good in
          let h = o.worked.lists.held x l in
          record {
            form = g.ok x l;
            nesting = g.shallow x l;
            leaf = o.worked.epsilons.none x l;
            epsilon = λ e q. let m = o.worked.epsilons.kept x l e q in
                record { ends = λ a z. (λ w. subst T (sym (m.den.means a z)) ((m.is.ends a z).0 w), λ t. (m.is.ends a z).1 (subst T (m.den.means a z) t)) };
            inside = h.inside;
            delta = λ c. let m = h.list c in subst (λ (ts : List (Transition State N)). IsDelta (Holds N p.tables.base.aut) ts (Holds N p.tables.base.aut x)) (sym (decodes m.are)) m.delta;
            ascending = λ c. let m = h.list c in subst (λ (ts : List (Transition State N)). Ascending ts) (sym (decodes m.are)) m.ascending;
            live = λ v q. let m = o.lives.kept x l v q in
                record { live = λ a. (λ t. (m.is.live a).0 (subst T (m.den.means a) t), λ s. subst T (sym (m.den.means a)) ((m.is.live a).1 s)) };
          }

  -- ---- a line

  pub data Lined (c : Point S) (s : Instruction) : Outcome RunState ℕ → Type 0 where
    stops : {number : ℕ} → LineRefusal S c number → Lined c s (refused number)
    comes : {q : RunState} {x : ℕ} → LineSpec S c.place c.rules s q (noted c.rules (resolve N c.rules s)) → InOrder S lent q (noted c.rules (resolve N c.rules s))
        → ExtTables c.place.tables q.tables → Lined c s (given q x)

  module _ (c : Point S) (i : InOrder S lent c.place c.rules) (rest : List ℕ) (s : Instruction) (reading : Reads S c rest (some s)) where
    abbrev p : RunState
    p = c.place

    abbrev R : Meant
    R = c.rules

    abbrev σ : Tables
    σ = p.tables

    o : WfTables N S.limits σ
    o = i.ordered

    matched : Matched N σ.base.aut p.lines R
    matched = i.tables.matched

    -- a constructor line
    made_lined : {l : Line ℕ} {m : Line (Rule N)} → resolve N p.lines s ≡ makes l → resolve N R s ≡ makes m → LineAlike N σ.base.aut l m → (b : Outcome Aut ℕ)
        → make N S.limits l σ.base.aut ≡ b → StepSpec N S.limits (Is N (In (means (rule N σ.base.aut) l))) σ.base.aut b
        → Lined c s (after_making S p (placed put_base σ (placed put_aut σ.base b)))
    made_lined {l} t u a (refused number) e (Goes.stops w g y) = stops (LineRefusal.making reading t e (make_number N S.limits l σ.base.aut e))
    made_lined {l} {m} t u a (given τ z) e (Goes.comes r) =
        let w : Since N S.limits σ.base.aut τ = record { grown = r.grown; memos = r.memos; good = r.good } in
        let y : Same N τ z (means (λ r. r) m) = record { state = r.holds.state; strings = r.holds.strings then alike_means a } in
        let k : ExtTables σ (put_base (put_aut τ σ.base) σ) = gone_later (gone_base (went_since w)) in
        let q : RunState = place (put_base (put_aut τ σ.base) σ) (p.lines ++ some z ∷ []) p.output in
        let n : R ++ some (means (λ r. r) m) ∷ [] ≡ noted R (resolve N R s) = ap (noted R) (sym u) in
        let v = ordered_base o (went_since w) (worked_since o.worked w) in
        comes (subst (λ (Q : Meant). LineSpec S p R s q Q) n (made t u e y))
        (subst (λ (Q : Meant). InOrder S lent q Q) n (in_order v (room_later i.tables.room k v) (matched_more (matched_grown o.worked.good r.grown matched) (both y))))
        k

    -- a query
    asked_lined : {A : Type 0} {P : Tables → A → Type 0} {q : Query} {a x : ℕ} {r : Rule N} (b : Outcome Tables A) (f : A → Tables → List ℕ) → resolve N p.lines s ≡ asks q a x → resolve N R s ≡ asks q a r
        → ((number : ℕ) → b ≡ refused number → QueryRefused S σ q x number)
        → ((τ : Tables) (y : A) → b ≡ given τ y → P τ y → QuerySpec S σ (name_of a) x r τ q (f y τ) × WfTables N S.limits τ × ExtTables σ τ)
        → Ends N S.limits S.entries P σ b → Lined c s (after_asking S p (after b (λ y τ. given τ (f y τ))))
    asked_lined {A} {P} {q} {a} {x} {r} b f t u bad good d = go b refl d
      where
        go : (k : Outcome Tables A) → b ≡ k → Ends N S.limits S.entries P σ k → Lined c s (after_asking S p (after k (λ y τ. given τ (f y τ))))
        go (refused number) e (Steps.halts z) = stops (LineRefusal.asking reading t (bad number e) (asking_number z.why))
        go (given τ y) e (Steps.comes z) = fits (good τ y e z) (leb (length (p.output ++ f y τ)) S.room) refl
          where
            fits : QuerySpec S σ (name_of a) x r τ q (f y τ) × WfTables N S.limits τ × ExtTables σ τ → (b : Bool) → leb (length (p.output ++ f y τ)) S.room ≡ b
                → Lined c s (if b then given (place τ (p.lines ++ none ∷ []) (p.output ++ f y τ)) 0 else refused 27)
            fits (m, k, l) true e =
                let z : RunState = place τ (p.lines ++ none ∷ []) (p.output ++ f y τ) in
                let n : R ++ none ∷ [] ≡ noted R (resolve N R s) = ap (noted R) (sym u) in
                comes (subst (λ (Q : Meant). LineSpec S p R s z Q) n (answered t u m (leb-true (length (p.output ++ f y τ)) S.room e)))
                (subst (λ (Q : Meant). InOrder S lent z Q) n (in_order k (room_later i.tables.room l k) (matched_more (matched_grown o.worked.good l.grown matched) neither)))
                l
            fits (m, k, l) false e = stops (LineRefusal.no_room reading t u m (leb-false (length (p.output ++ f y τ)) S.room e))

    query_lined : (q : Query) (a x : ℕ) (r : Rule N) → resolve N p.lines s ≡ asks q a x → resolve N R s ≡ asks q a r → Same N σ.base.aut x r → Lined c s (execute S (asks q a x) p)
    query_lined Reader.empty a x r t u y =
        asked_lined (is_empty N S.limits S.entries S.budget x σ) (λ z τ. empty_answer (name_of a) z.0 z.1) t u (λ number e. e)
        (λ τ z e d. (QuerySpec.emptied e (search_spec S y d), d.ordered, gone_later d.gone))
        (search_ends S.entries S.budget x o y.state)
    query_lined Reader.live a x r t u y =
        asked_lined (live_packets N S.limits S.entries x σ) (λ l τ. live_answer N (name_of a) (Sp.size τ.sets.words N l)) t u (λ number e. e)
        (λ τ l e d. (QuerySpec.lived e (live_spec S o y d), d.ordered, d.later))
        (live_ends S.entries o y.state)
    query_lined Reader.pruned a x r t u y =
        asked_lined (delta_pruned N S.limits S.entries x σ) (λ es τ. pruned_answer (name_of a) (told S τ es)) t u (λ number e. e)
        (λ τ es e d. (QuerySpec.pruned e (pruned_spec S o y d), d.ordered, d.later))
        (pruned_ends S.entries o y.state)
    query_lined Reader.why a x r t u y =
        asked_lined (Why.why N S.limits S.entries x σ) (λ w τ. why_answer N w) t u (λ number e. e)
        (λ τ w e d. (QuerySpec.explained e (why_spec S o y d), d.ordered, d.later))
        (why_ends S.entries o y.state)

    performed : {t : Resolved ℕ} {u : Resolved (Rule N)} → resolve N p.lines s ≡ t → resolve N R s ≡ u → Meaning.Alike N σ.base.aut t u → Lined c s (execute S t p)
    performed t u (Meaning.makes {l} a) = made_lined t u a (make N S.limits l σ.base.aut) refl (make_goes o.worked.good l (alike_asked a))
    performed t u (Meaning.asks {q} {a} {x} {r} y) = query_lined q a x r t u y
    performed t u (Meaning.refuses {e}) = ⊎_elim
        (λ q. subst (λ (n : ℕ). Lined c s (refused n)) (sym q) (stops (LineRefusal.misnamed reading ((reads N p.lines s).four.0 (t ∙ ap (λ (n : ℕ). refuses n) q)))))
        (λ q. subst (λ (n : ℕ). Lined c s (refused n)) (sym q) (stops (LineRefusal.out_of_range reading ((reads N p.lines s).five.0 (t ∙ ap (λ (n : ℕ). refuses n) q)))))
        ((reads N p.lines s).other e t)

    pub lined : Lined c s (step S (some s) p)
    lined = performed refl refl (tell_alike matched s)

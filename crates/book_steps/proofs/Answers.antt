-- What an answer says (specs/Demands: SearchSpec, LiveSpec, PrunedSpec, WhySpec), from the laws of the queries; and which numbers a query can be refused with.
use mathlib.Core.Path.{◌≡◌, refl, sym, ◌∙◌, ap, ap₂, subst}
use native.Mathlib.Omega.{arith}
use mathlib.Core.Bool.{Bool, true, false}
use mathlib.Core.List.{List, [], ◌∷◌, map, Memᴰ}
use mathlib.Core.Option.{Option, none, some}
use Prim.Native.Nat.{ℕ, ◌+◌, ◌*◌, ◌^◌, ◌≤◌, ◌<◌}
use lib.Dec.{ltb}
use lib.ListN.{length}
use borrow.Author.Tests.{ltb-true, ltb-false}
use Rattle.common.specs.Outcome.{given}
use Rattle.common.proofs.Follow.{given_same}
use Rattle.netkat.specs.Strings.{Str}
use Rattle.netkat.specs.Rules.{Language, Rule}
use Rattle.netkat_paths.specs.Order.{Picked}
use Rattle.netkat.specs.Lists.{State, Transition}
use Rattle.netkat_steps.specs.ListSteps.{Edge, Are}
use Rattle.netkat.specs.Search.{Verdict, yes, no, spent}
use Rattle.sp_steps.specs.Model as Sp
use Rattle.sp_steps.proofs.Size as SpSize
use Rattle.spp_steps.proofs.Laws.{by_test}
use Rattle.spp_steps.proofs.Size as SppSize
use Rattle.aut_steps.specs.Tables.{Limits, Aut}
use Rattle.aut_steps.specs.Languages.{◌≈◌}
use Rattle.aut_steps.specs.Meaning.{Holds}
use Rattle.aut_steps.proofs.StepSpec.{RefusalReason}
use Rattle.aut_delta_steps.proofs.DeltaRuns.{listing, no_transitions}
use Rattle.aut_delta_steps.specs.Fits.{tables as readings}
use Rattle.aut_query_steps.specs.Tables.{Tables, WfTables}
use Rattle.aut_query_steps.proofs.Tables.{is_live_same}
use Rattle.aut_query_steps.proofs.Steps.{QueryReason, no_packet_node, working, no_entry}
use Rattle.aut_query_steps.proofs.SearchLaws.{Searched}
use Rattle.aut_query_steps.proofs.LiveLaws.{Lived}
use Rattle.aut_query_steps.proofs.PrunedLaws.{PrunedTo}
use Rattle.aut_why_steps.proofs.WhyLaws.{Chosen, Explained}
use Rattle.book_steps.specs.Answers.{Pairs}
use Rattle.book_steps.specs.Run.{Setting}
use Rattle.book_steps.specs.Meaning.{Same}
use Rattle.book_steps.proofs.Meaning.{same_grown}
use Rattle.book_steps.specs.Demands.{SearchSpec, LiveSpec, PrunedSpec, WhySpec, pair_of}
use Rattle.book_steps.specs.RunSpec.{told}

module _ (S : Setting) where
  abbrev N : ℕ
  N = S.fields

  -- a verdict is `spent` or not
  data Ended (v : Verdict) : Type 0 where
    is : v ≡ spent → Ended v
    is_not : ¬ (v ≡ spent) → Ended v

  ended : (v : Verdict) → Ended v
  ended yes = is_not (λ e. let z : ◌≡◌ {A = ℕ} 0 1 = cc in omega arith)
  ended no = is_not (λ e. let z : ◌≡◌ {A = ℕ} 0 1 = cc in omega arith)
  ended spent = is refl

  pub search_spec : {σ τ : Tables} {x : ℕ} {r : Rule N} {v : Verdict} {c : ℕ} → Same N σ.base.aut x r
      → Searched N S.limits S.entries S.budget x σ τ (v, c) → SearchSpec S σ x r v c
  search_spec {σ} {v = v} {c} s q =
      let d = q.demanded in
      let m = d.reports in
      record {
        end = m.store;
        log = m.log;
        plain = m.came_to;
        count = sym m.counted;
        once = d.promised.once;
        bound = subst (λ (k : ℕ). k ≤ 1 + length m.log.expanded * 2 ^ N * m.log.longest) m.counted d.promised.bound;
        enough = d.promised.enough;
        exactly = λ u. (λ e w. λ i. (d.promised.exactly u).0 e w ((s.strings w).1 i), λ f. (d.promised.exactly u).1 (λ w i. f w ((s.strings w).0 i)));
        string = λ e. let (w, i) = d.promised.string e in (w, (s.strings w).0 i);
        within = within (ended v);
        spent_count = spent_count;
        spent_iff = λ k n. (
          λ e. let c = m.came_to ∙ ap (λ (v : Verdict). given m.store (v, m.log)) e in
              (d.budgeted.spent_iff k n S.budget).0 (m.store, m.log, c, d.budgeted.spent_count S.budget m.store m.log c),
          λ l. let (σ', log, e, c) = (d.budgeted.spent_iff k n S.budget).1 l in
              ap (λ p. p.0) (given_same (sym m.came_to ∙ e)),
        );
      }
    where
      spent_count : v ≡ spent → c ≡ S.budget
      spent_count e =
          let d = q.demanded in
          let m = d.reports in
          sym m.counted ∙ d.budgeted.spent_count S.budget m.store m.log (m.came_to ∙ ap (λ (v : Verdict). given m.store (v, m.log)) e)

      over : ¬ (v ≡ spent) → S.budget < c → v ≡ spent
      over n l =
          let d = q.demanded in
          let m = d.reports in
          let (σ', log, e, c) = (d.budgeted.spent_iff c (S.budget, m.store, v, m.log, m.came_to, n, m.counted) S.budget).1 l in
          ap (λ p. p.0) (given_same (sym m.came_to ∙ e))

      within : Ended v → c ≤ S.budget
      within (is e) = omega (arith, spent_count e)
      within (is_not n) = by_test (ltb S.budget c) (λ t. absurd (n (over n (ltb-true S.budget c t)))) (λ t. ltb-false S.budget c t)

  pub live_spec : {σ τ : Tables} {x l : ℕ} {r : Rule N} → WfTables N S.limits σ → Same N σ.base.aut x r → Lived N S.limits x σ τ l → LiveSpec S r (Sp.size τ.sets.words N l)
  live_spec {τ = τ} {x} {r = r} o s d =
      let t : Same N τ.base.aut x r = same_grown o.worked.good d.later.grown s in
      record { set = d.set.set; is = is_live_same t.strings d.set.is; counted = SpSize.size_den d.set.den }

  pub pruned_spec : {σ τ : Tables} {x : ℕ} {r : Rule N} {es : List Edge} → WfTables N S.limits σ → Same N σ.base.aut x r → PrunedTo N S.limits x σ τ es
      → PrunedSpec S τ x r (told S τ es)
  pruned_spec {τ = τ} {x} {r} o s d =
      let t : Same N τ.base.aut x r = same_grown o.worked.good d.later.grown s in
      record {
        same = t;
        list = d.whole;
        delta = d.whole_gives;
        is = record { disjoint = d.whole_is.disjoint; allows = λ a b hs z. (λ w. (t.strings _).0 ((d.whole_is.allows a b hs z).0 w), λ w. (d.whole_is.allows a b hs z).1 ((t.strings _).1 w)) };
        ascending = d.whole_ascends;
        live = d.live;
        lives = d.lives;
        cut = counted d.are ∙ ap (map (pair_of S)) d.cut_is;
      }
    where
      counted : {es : List Edge} {list : List (Transition State N)} → Are (readings N S.limits) τ.base.aut es list → told S τ es ≡ map (pair_of S) list
      counted Are.none = refl
      counted (Are.also {s} k d as') = ap₂ (λ (n : ℕ) (l : List Pairs). record { target = s; number = n } ∷ l) (SppSize.size_den d) (counted as')

  -- a set of the same strings has the same picked one
  picked_same : {A B : Language N} → A ≈ B → {w : Str N} → Picked A w → Picked B w
  picked_same f {w} p = record { held = (f w).0 p.held; first = λ v b. p.first v ((f v).1 b) }

  pub why_spec : {σ τ : Tables} {x : ℕ} {r : Rule N} {o : Option (Str N)} → WfTables N S.limits σ → Same N σ.base.aut x r → Explained N S.limits x σ τ o → WhySpec S r o
  why_spec {τ = τ} {x} {r} o s d = go d.chosen
    where
      t : Same N τ.base.aut x r
      t = same_grown o.worked.good d.later.grown s

      go : {o : Option (Str N)} → Chosen (Holds N τ.base.aut x) o → WhySpec S r o
      go (Chosen.nothing f) = WhySpec.nothing (λ w i. f w ((t.strings w).1 i))
      go (Chosen.picked p) = WhySpec.picked (picked_same t.strings p)

-- ---- the numbers that can occur

abbrev Asking : List ℕ
Asking = 6 ∷ 7 ∷ 8 ∷ 9 ∷ 20 ∷ 21 ∷ 22 ∷ 23 ∷ 24 ∷ 25 ∷ []

past : {n a b c d e : ℕ} {l : List ℕ} → Memᴰ n l → Memᴰ n (a ∷ b ∷ c ∷ d ∷ e ∷ l)
past m = Memᴰ.tail (Memᴰ.tail (Memᴰ.tail (Memᴰ.tail (Memᴰ.tail m))))

asking_why : {L : Limits} {τ : Aut} {number : ℕ} → RefusalReason L τ number → Memᴰ number Asking
asking_why (RefusalReason.long_list xs a l) = Memᴰ.head refl
asking_why (RefusalReason.many_products xs a l) = Memᴰ.tail (Memᴰ.head refl)
asking_why (RefusalReason.too_deep xs a l) = Memᴰ.tail (Memᴰ.tail (Memᴰ.head refl))
asking_why (RefusalReason.full_list es l) = Memᴰ.tail (Memᴰ.tail (Memᴰ.tail (Memᴰ.head refl)))
asking_why (RefusalReason.no_node l) = past (Memᴰ.head l.number_is)
asking_why (RefusalReason.no_state e) = past (Memᴰ.tail (Memᴰ.head refl))
asking_why (RefusalReason.no_members xs a l e) = past (Memᴰ.tail (Memᴰ.tail (Memᴰ.head refl)))

pub asking_number : {N : ℕ} {L : Limits} {entries : ℕ} {τ : Tables} {number : ℕ} → QueryReason N L entries τ number → Memᴰ number Asking
asking_number (no_packet_node l) = Memᴰ.tail (Memᴰ.tail (Memᴰ.tail (Memᴰ.tail (Memᴰ.head l.number_is))))
asking_number (working (listing y)) = asking_why y
asking_number (working (no_transitions es a e)) = past (Memᴰ.tail (Memᴰ.tail (Memᴰ.tail (Memᴰ.tail (Memᴰ.head refl)))))
asking_number (no_entry l a b) = past (Memᴰ.tail (Memᴰ.tail (Memᴰ.tail (Memᴰ.head refl))))

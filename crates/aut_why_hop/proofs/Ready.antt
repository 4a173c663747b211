-- From the rounds that stand in words to what a hop asks; and what it found, by the lists and sets of the tables.
use mathlib.Core.Path.{◌≡◌, refl, sym, ◌∙◌, ap, subst}
use mathlib.Core.Bool.{◌&&◌}
use mathlib.Core.Logic.{⊎_elim}
use mathlib.Core.List.{List, [], ◌∷◌, ◌++◌, Memᴰ}
use mathlib.Core.List as Lists
use mathlib.Core.Option.{Option, none, some, some-injective, none-ne-some}
use Prim.Native.Nat.{ℕ, ◌+◌, ◌*◌, ◌-◌, ◌^◌, ◌<◌}
use native.Mathlib.Omega.{arith}
use lib.ListN.{get_or}
use Rattle.std.specs.Prelude as code
use Rattle.common.specs.Packets.{Packet, Set}
use Rattle.netkat.specs.Lists.{State, Transition}
use Rattle.netkat_paths.specs.Order.{value, map, least}
use Rattle.netkat_paths.specs.Pick.{Hop, hop_to, lower_hop, hop}
use Rattle.netkat_paths.proofs.OrderLaws.{value_small, Found, found_good}
use Rattle.netkat_paths.proofs.PickLaws.{number, Led, hop_least}
use Rattle.netkat_steps.specs.ListSteps.{Edge}
use Rattle.sp_steps.specs.Model as Sp
use Rattle.sp_steps.specs.Wf as SpLaws
use Rattle.spp_steps.specs.ImageModel.{Stores}
use Rattle.aut_st_steps.specs.Edges.{EdgeAt, EdgesAt}
use Rattle.aut_st_steps.proofs.Places.{edge_at, edge_at_lem}
use Rattle.aut_delta_steps.specs.Delta.{start_of, count_of, list_at}
use Rattle.aut_delta_steps.specs.PlainSearch.{decoded}
use Rattle.aut_delta_steps.proofs.ListGoes.{list_at_lem}
use Rattle.aut_query_steps.specs.Tables.{Tables, diagrams}
use Rattle.aut_why_steps.specs.Why.{Sets}
use Rattle.aut_states.specs.Clauses.{limits_of}
use Rattle.aut_states.specs.declared.Limits.{Limits}
use Rattle.aut_free.specs.Clear.{clear_tables}
use Rattle.aut_query_calls.proofs.Listed.{edge_in}
use Rattle.aut_live_words.specs.Work.{seconds}
use Rattle.aut_why_words.specs.Walk.{Walk, HasSets}
use Rattle.aut_why_words.proofs.Walks.{walk_known, walk_there}
use Rattle.aut_why_words.proofs.Found.{walk_list, walk_listed, walk_leads}
use Rattle.aut_why_hop.specs.Clauses.{aheads, ahead_of, leading, list_of, LeastReady, Ahead, PreHop, Hops, PostHop}

-- sets that agree on the targets
hop_alike : {N : ℕ} (ts : List (Transition State N)) (live live' : State → Set N) (p : Packet N) (o : Option (Hop N)) → ((t : Transition State N) → Memᴰ t ts → live t.target ≡ live' t.target)
    → hop ts live p o ≡ hop ts live' p o
unfolding hop
hop_alike [] live live' p o f = refl
hop_alike {N} (t ∷ ts) live live' p o f =
    ap (λ (x : Set N). hop ts live p (lower_hop o (map (hop_to t.target) (least N (λ h. t.label p h && x h))))) (f t (mathlib.Core.List.Memᴰ.head refl))
    ∙ hop_alike ts live live' p _ (λ u m. f u (mathlib.Core.List.Memᴰ.tail m))

map_in : {A B : Type 0} (f : A → B) (l : List A) {b : B} → Memᴰ b (Lists.map f l) → (a : A) × Memᴰ a l × (b ≡ f a)
map_in f [] m = absurd (mathlib.Core.List.Memᴰ.not-nil m)
map_in f (a ∷ l) {b} m = ⊎_elim (λ q. (a, mathlib.Core.List.Memᴰ.head refl, q)) (λ n. let (z, i, e) = map_in f l n in (z, mathlib.Core.List.Memᴰ.tail i, e)) (mathlib.Core.List.Memᴰ.cases_cons m)

module _ {τ : Tables} {N : ℕ} {l : Limits} {s p : List ℕ} {n : ℕ} (K : Walk N l τ s p n) where
  abbrev C : Tables
  C = clear_tables τ

  abbrev σ : Stores
  σ = diagrams τ

  abbrev st : List ℕ
  st = τ.base.aut.states.words

  abbrev tr : List ℕ
  tr = τ.base.transitions.words

  module _ (x : ℕ) (m : Memᴰ x (seconds p 0 n)) where
    entries : EdgesAt N C.base.aut (list_of st tr x)
    entries = subst (EdgesAt N C.base.aut) (walk_list K m) (list_at_lem (limits_of l) ((K.working.ready.ordered.worked.lists.held x (walk_known K x m)).list (K.links x m).marked))

    module _ (before : Sets) (H : HasSets 8 st p n before) (A : (y : ℕ) → Memᴰ y (seconds p 0 n) → SpLaws.ValidAt τ.sets N (before y)) where
      ahead_is : (y : ℕ) → Memᴰ y (seconds p 0 n) → ahead_of st y ≡ before y
      ahead_is y k = omega (arith, H.is y k)

      ahead_of_lem : (i : ℕ) → i < count_of st x - 1 → Ahead N σ st (get_or tr (2 * (start_of st x + i)) 0) (get_or tr (2 * (start_of st x + i) + 1) 0)
      ahead_of_lem i k =
          let y : ℕ = get_or tr (2 * (start_of st x + i)) 0 in
          let e : EdgeAt N C.base.aut (edge_at tr (start_of st x + i)) = edge_at_lem tr (start_of st x) (count_of st x - 1) i k entries in
          let u : Memᴰ y (seconds p 0 n) = walk_leads K m (edge_at tr (start_of st x + i)) (edge_in tr (start_of st x) (count_of st x - 1) i k) in
          record { state = walk_there K y u; some = omega (arith, H.is y u); set = subst (SpLaws.ValidAt τ.sets N) (sym (ahead_is y u)) (A y u); relation = e.relation }

      pub hop_ready : {packet : ℕ} (q : Packet N) → value q ≡ packet → LeastReady N σ s → PreHop N σ st tr s x packet
      hop_ready q e R = record { ready = R; list = walk_listed K m; aheads = ahead_of_lem; small = subst (λ (k : ℕ). k < 2 ^ N) e (value_small q) }

      -- what was found, by lists and sets
      hop_is : (q : Packet N) → hop (Lists.map (leading N σ) (list_of st tr x)) (aheads N σ st) q none ≡ hop (Lists.map (decoded N C.base.aut) (list_at C.base x)) (λ y. Sp.mem τ.sets.words N (before y)) q none
      hop_is q =
          ap (λ (es : List Edge). hop (Lists.map (leading N σ) es) (aheads N σ st) q none) (sym (walk_list K m))
          ∙ hop_alike (Lists.map (decoded N C.base.aut) (list_at C.base x)) (aheads N σ st) (λ y. Sp.mem τ.sets.words N (before y)) q none
          (λ u k. let (e, i, f) = map_in (decoded N C.base.aut) (list_at C.base x) k in
          ap (Sp.mem τ.sets.words N) (ahead_is u.target (subst (λ (y : ℕ). Memᴰ y (seconds p 0 n)) (sym (ap (λ (u : Transition State N). u.target) f)) ((K.links x m).leads e i))))

      module _ {packet : ℕ} {r : code.Option (ℕ × ℕ)} {s' : List ℕ} (P : PostHop N σ st tr x packet r s s') (q : Packet N) (is : value q ≡ packet) {h : Hop N}
          (E : hop (Lists.map (decoded N C.base.aut) (list_at C.base x)) (λ y. Sp.mem τ.sets.words N (before y)) q none ≡ some h) where
        pub hop_there : r ≡ code.None → ⊥
        hop_there e = none-ne-some h (sym (subst (λ (r : code.Option (ℕ × ℕ)). Hops r (hop (Lists.map (leading N σ) (list_of st tr x)) (aheads N σ st) q none)) e (P.is q is)) ∙ hop_is q ∙ E)

        pub hop_to_lem : {a b : ℕ} → r ≡ code.Some (a, b) → (a ≡ value h.packet) × (b ≡ h.target)
        hop_to_lem {a} {b} e =
            let (g, f, i, j) = subst (λ (r : code.Option (ℕ × ℕ)). Hops r (hop (Lists.map (leading N σ) (list_of st tr x)) (aheads N σ st) q none)) e (P.is q is) in
            let z : h ≡ g = some-injective h g (sym E ∙ sym (hop_is q) ∙ f) in
            (i ∙ ap (λ (h : Hop N). value h.packet) (sym z), j ∙ ap (λ (h : Hop N). h.target) (sym z))

      -- the target is one of the states
      pub hop_among : (q : Packet N) {h : Hop N} → hop (Lists.map (decoded N C.base.aut) (list_at C.base x)) (λ y. Sp.mem τ.sets.words N (before y)) q none ≡ some h → Memᴰ h.target (seconds p 0 n)
      hop_among q {h} E =
          let d = found_good (subst (Found (Led (Lists.map (decoded N C.base.aut) (list_at C.base x)) (λ y. Sp.mem τ.sets.words N (before y)) q) number) E (hop_least (Lists.map (decoded N C.base.aut) (list_at C.base x)) (λ y. Sp.mem τ.sets.words N (before y)) q)) in
          let (e, i, f) = map_in (decoded N C.base.aut) (list_at C.base x) d.listed in
          subst (λ (y : ℕ). Memᴰ y (seconds p 0 n)) (sym (ap (λ (u : Transition State N). u.target) f) ∙ d.leads.target) ((K.links x m).leads e i)

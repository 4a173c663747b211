-- The choice of a hop, one transition at a time.
use Rattle.std.specs.Prelude.{if◌then◌else◌}
use Rattle.std.specs.Prelude as code
use mathlib.Core.Path.{◌≡◌, refl, sym, ◌∙◌, ap, subst}
use mathlib.Core.Bool.{Bool, true, false, ◌&&◌}
use mathlib.Core.List.{List, [], ◌∷◌}
use mathlib.Core.List as Lists
use mathlib.Core.Option.{Option, none, some}
use Prim.Native.Nat.{ℕ, ◌+◌, ◌*◌, ◌-◌, ◌≤◌, ◌<◌}
use native.Mathlib.Omega.{arith}
use lib.Dec.{ltb}
use lib.ListN.{length, get_or}
use borrow.Author.Tests.{ltb-true, ltb-false, lt-ltb, le-ltb}
use Rattle.common.specs.Packets.{Packet}
use Rattle.cache.proofs.Cache.{notes_refl, notes_trans, sound_own}
use Rattle.netkat.specs.Lists.{State, Transition}
use Rattle.netkat_paths.specs.Order.{value, map, least}
use Rattle.netkat_paths.specs.Pick.{Hop, hop_to, lower_hop, led, hop}
use Rattle.netkat_steps.specs.ListSteps.{Edge}
use Rattle.spp_steps.specs.ImageModel.{Stores}
use Rattle.aut_st_steps.specs.Edges.{edges}
use Rattle.aut_st_steps.proofs.Places.{edge_at, edges_on, edges_done}
use Rattle.aut_sets.specs.Clauses.{NotesBehind}
use Rattle.spp_least.specs.Clauses.{number_of, LeastNoted}
use Rattle.aut_st_source.specs.declared.Span.{Span}
use Rattle.aut_st_source.specs.Stored.{PostFind}
use Rattle.aut_why_least.specs.Clauses.{PostLed}
use Rattle.aut_live_words.proofs.Words.{listed_edges}
use Rattle.aut_why_hop.specs.Clauses.{aheads, ahead_of, leading, sooner, LeastReady, PreLed, PreHop, Hops, PostHop}

clash : {A : Type 0} → true ≡ false → A
clash q = let o : ◌≡◌ {A = ℕ} 0 1 = cc in absurd (omega arith)

none_some : {A B : Type 0} {a : A} → code.None ≡ code.Some a → B
none_some q = cc

some_is : {A : Type 0} {a b : A} → ◌≡◌ {A = code.Option A} (code.Some a) (code.Some b) → a ≡ b
some_is q = cc

-- ---- the least hop so far

module _ {N : ℕ} where
  pub data Best : code.Option (ℕ × ℕ) → Option (Hop N) → Type 0 where
    nothing : Best code.None none
    found : {p t : ℕ} (h : Hop N) → p ≡ value h.packet → t ≡ h.target → Best (code.Some (p, t)) (some h)

  -- what a transition to t led to
  led_none : (o : Option (Packet N)) (t : State) → code.None ≡ number_of o → map (hop_to t) o ≡ none
  led_none none t e = refl
  led_none (some p) t e = none_some e

  led_some : (o : Option (Packet N)) (t : State) {r : ℕ} → code.Some r ≡ number_of o → (h : Hop N) × (map (hop_to t) o ≡ some h) × (r ≡ value h.packet) × (t ≡ h.target)
  led_some none t e = none_some (sym e)
  led_some (some p) t e = (hop_to t p, refl, some_is e, refl)

  with_none : (o : Option (Hop N)) → lower_hop o none ≡ o
  with_none none = refl
  with_none (some h) = refl

  lower : {b : code.Option (ℕ × ℕ)} {o : Option (Hop N)} (r t : ℕ) (h : Hop N) → r ≡ value h.packet → t ≡ h.target → Best b o → sooner r b ≡ true → Best (code.Some (r, t)) (lower_hop o (some h))
  lower r t h e f nothing s = found h e f
  lower r t h e f (found {p} k g i) s = go (ltb (value h.packet) (value k.packet)) (lt-ltb (value h.packet) (value k.packet) (omega (arith, ltb-true r p s, e, g)))
    where
      go : (c : Bool) → c ≡ true → Best (code.Some (r, t)) (if c then some h else some k)
      go true q = found h e f
      go false q = clash (sym q)

  kept : {b : code.Option (ℕ × ℕ)} {o : Option (Hop N)} (r : ℕ) (h : Hop N) → r ≡ value h.packet → Best b o → sooner r b ≡ false → Best b (lower_hop o (some h))
  kept r h e nothing s = clash s
  kept r h e (found {p} {t} k g i) s = go (ltb (value h.packet) (value k.packet)) (le-ltb (value h.packet) (value k.packet) (omega (arith, ltb-false r p s, e, g)))
    where
      go : (c : Bool) → c ≡ false → Best (code.Some (p, t)) (if c then some h else some k)
      go true q = clash q
      go false q = found k g i

  best_is : {b : code.Option (ℕ × ℕ)} {o : Option (Hop N)} → Best b o → Hops b o
  best_is nothing = refl
  best_is (found h e f) = (h, refl, e, f)

  on : (t : Transition State N) (ts : List (Transition State N)) (live : State → Packet N → Bool) (p : Packet N) (o : Option (Hop N)) → hop (t ∷ ts) live p o ≡ hop ts live p (lower_hop o (led t live p))
  unfolding hop
  on t ts live p o = refl

  at_end : (live : State → Packet N → Bool) (p : Packet N) (o : Option (Hop N)) → hop [] live p o ≡ o
  unfolding hop
  at_end live p o = refl

-- ---- scratch

module _ (N : ℕ) (σ : Stores) where
  abbrev pub Noted : List ℕ → List ℕ → Type 0
  Noted s s' = NotesBehind (LeastNoted σ) s s'

  pub ready_noted : {s s' : List ℕ} → LeastReady N σ s → Noted s s' → length s' ≡ length s → LeastReady N σ s'
  ready_noted R n len = record { few = R.few; wf = R.wf; room = omega (arith, R.room); sound = sound_own (λ o x y z v. v) R.sound n.notes }

  pub noted_none : {s : List ℕ} → Noted s s
  noted_none = record { below = λ i l. refl; notes = notes_refl }

  pub noted_on : {s s' s'' : List ℕ} → Noted s s' → Noted s' s'' → Noted s s''
  noted_on p q = record { below = λ i l. q.below i l ∙ p.below i l; notes = notes_trans p.notes q.notes }

-- ---- the loop

module _ (N : ℕ) (σ : Stores) (st tr : List ℕ) (packet start k : ℕ) where
  abbrev from : ℕ → List (Transition State N)
  from i = Lists.map (leading N σ) (edges tr (start + i) (k - i))

  abbrev pub all : List (Transition State N)
  all = Lists.map (leading N σ) (edges tr start k)

  -- i transitions are done: `best` is the least hop by them
  pub record Hopping (s₀ s : List ℕ) (best : code.Option (ℕ × ℕ)) (i : ℕ) : Type 0 where
    pub ready : LeastReady N σ s
    pub left : Noted N σ s₀ s
    pub is : (p : Packet N) → value p ≡ packet → (o : Option (Hop N)) × Best best o × (hop all (aheads N σ st) p none ≡ hop (from i) (aheads N σ st) p o)

  pub hop_begin : {s : List ℕ} → LeastReady N σ s → Hopping s s code.None 0
  hop_begin {s} R = record { ready = R; left = noted_none N σ; is = λ p e. (none, nothing, ap (λ (es : List Edge). hop (Lists.map (leading N σ) es) (aheads N σ st) p none) same) }
    where
      same : edges tr start k ≡ edges tr (start + 0) (k - 0)
      same = ap (λ (a : ℕ). edges tr a k) {x = start} {y = start + 0} (omega arith) ∙ ap (edges tr (start + 0)) {x = k} {y = k - 0} (omega arith)

  abbrev target : ℕ → ℕ
  target i = get_or tr (2 * (start + i)) 0

  abbrev least_here : ℕ → Packet N → Option (Packet N)
  least_here i p = least N (λ h. (leading N σ (edge_at tr (start + i))).label p h && aheads N σ st (target i) h)

  abbrev Led : (i : ℕ) → code.Option ℕ → (s s' : List ℕ) → Type 0
  Led i r s s' = PostLed N σ packet (ahead_of st (target i)) (get_or tr (2 * (start + i) + 1) 0) r s s'

  next : (i : ℕ) → i < k → (p : Packet N) (o : Option (Hop N)) → hop (from i) (aheads N σ st) p o ≡ hop (from (i + 1)) (aheads N σ st) p (lower_hop o (map (hop_to (target i)) (least_here i p)))
  next i l p o = ap (λ (es : List Edge). hop (Lists.map (leading N σ) es) (aheads N σ st) p o) (edges_on tr start k i l) ∙ on (leading N σ (edge_at tr (start + i))) (from (i + 1)) (aheads N σ st) p o

  module _ {s₀ s s' : List ℕ} {best : code.Option (ℕ × ℕ)} {i : ℕ} (v : Hopping s₀ s best i) (l : i < k) (len : length s' ≡ length s) where
    pub hop_past : Led i code.None s s' → Hopping s₀ s' best (i + 1)
    hop_past P = record {
      ready = ready_noted N σ v.ready P.left len;
      left = noted_on N σ v.left P.left;
      is = λ p e. let (o, b, w) = v.is p e in (o, b, w ∙ next i l p o ∙ ap (hop (from (i + 1)) (aheads N σ st) p) (ap (lower_hop o) (led_none (least_here i p) (target i) (P.is p e)) ∙ with_none o));
    }

    module _ {r : ℕ} (P : Led i (code.Some r) s s') where
      pub hop_lower : sooner r best ≡ true → Hopping s₀ s' (code.Some (r, target i)) (i + 1)
      hop_lower q = record {
        ready = ready_noted N σ v.ready P.left len;
        left = noted_on N σ v.left P.left;
        is = λ p e.
            let (o, b, w) = v.is p e in
            let (h, f, g, j) = led_some (least_here i p) (target i) (P.is p e) in
            (lower_hop o (some h), lower r (target i) h g j b q, w ∙ next i l p o ∙ ap (λ (z : Option (Hop N)). hop (from (i + 1)) (aheads N σ st) p (lower_hop o z)) f);
      }

      pub hop_kept : sooner r best ≡ false → Hopping s₀ s' best (i + 1)
      hop_kept q = record {
        ready = ready_noted N σ v.ready P.left len;
        left = noted_on N σ v.left P.left;
        is = λ p e.
            let (o, b, w) = v.is p e in
            let (h, f, g, j) = led_some (least_here i p) (target i) (P.is p e) in
            (lower_hop o (some h), kept r h g b q, w ∙ next i l p o ∙ ap (λ (z : Option (Hop N)). hop (from (i + 1)) (aheads N σ st) p (lower_hop o z)) f);
      }

  pub hop_found : {s₀ s : List ℕ} {best : code.Option (ℕ × ℕ)} {i : ℕ} → Hopping s₀ s best i → k ≤ i → (p : Packet N) → value p ≡ packet → Hops best (hop all (aheads N σ st) p none)
  hop_found {best = best} {i = i} v l p e =
      let (o, b, w) = v.is p e in
      subst (Hops best) (sym (w ∙ ap (λ (es : List Edge). hop (Lists.map (leading N σ) es) (aheads N σ st) p o) (edges_done tr (start + i) k i l) ∙ at_end (aheads N σ st) p o)) (best_is b)

-- ---- what is asked of a transition

module _ {N : ℕ} {σ : Stores} {st tr s₀ : List ℕ} {x packet : ℕ} (P : PreHop N σ st tr s₀ x packet) {list : Span} (F : PostFind st x list) where
  pub hop_asks : {s : List ℕ} {i : ℕ} → LeastReady N σ s → i < list.count → PreLed N σ st s (get_or tr (2 * (list.start + i)) 0) (get_or tr (2 * (list.start + i) + 1) 0) packet
  hop_asks {i = i} R l = record { ready = R; ahead = rw F.start at (P.aheads i (omega (arith, F.count, l))); small = P.small }

  pub hop_ends : {r : code.Option (ℕ × ℕ)} {s : List ℕ} → ((p : Packet N) → value p ≡ packet → Hops r (hop (all N σ st tr packet list.start list.count) (aheads N σ st) p none)) → Noted N σ s₀ s → PostHop N σ st tr x packet r s₀ s
  hop_ends {r} f n = record {
    is = λ p e. subst (λ (es : List Edge). Hops r (hop (Lists.map (leading N σ) es) (aheads N σ st) p none)) (sym (listed_edges P.list F)) (f p e);
    left = n;
  }

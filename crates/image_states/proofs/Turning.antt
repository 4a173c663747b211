-- A record that is read from the image; its turn on the place of a run; and all records.
use Rattle.std.specs.Prelude.{if◌then◌else◌, Result, Ok, Err}
use mathlib.Core.Path.{◌≡◌, refl, sym, ◌∙◌, ap, ap₂, subst}
use mathlib.Core.Bool.{Bool, true, false, ◌&&◌}
use mathlib.Core.List.{List, [], ◌++◌}
use mathlib.Core.Logic.{◌⊎◌}
use Prim.Native.Nat.{ℕ, suc, ◌+◌, ◌-◌, ◌*◌, ◌≤◌, ◌<◌}
use native.Mathlib.Omega.{arith}
use lib.Dec.{ltb}
use lib.ListN.{length, drop}
use borrow.Author.Tests.{lt-ltb, le-ltb}
use Rattle.common.specs.Outcome.{Outcome, refused, given, Step, after, ◌>>=◌}
use Rattle.common.specs.Runs.{placed}
use Rattle.refusal.specs.declared.Refusal.{Refusal}
use Rattle.refusal.specs.declared.Refusal.TheVariants.{Record}
use Rattle.aut_steps.specs.Tables.{UNION, INTERSECT, Aut, aut}
use Rattle.aut_steps.specs.Tables.{Limits as Bounds}
use Rattle.aut_steps.specs.Scratch.{Kept}
use Rattle.aut_steps.proofs.Scratch.{kept_refl, kept_trans}
use Rattle.aut_steps.specs.Wf.{WfAut}
use Rattle.aut_delta_steps.specs.Delta.{put_aut}
use Rattle.aut_delta_steps.specs.Fits.{Since}
use Rattle.aut_delta_steps.proofs.Fits.{since_refl, since_trans}
use Rattle.aut_query_steps.specs.Tables.{Tables, put_base}
use Rattle.aut_states.specs.declared.Config.{Config}
use Rattle.aut_states.specs.declared.States.{States}
use Rattle.aut_states.specs.declared.Members.{Members}
use Rattle.aut_states.specs.Clauses.{limits_of, states_of, members_of, seen}
use Rattle.aut_relations.specs.declared.Aut.{Aut as Lent}
use Rattle.aut_relations.specs.Lent.{nodes_in, aut_in}
use Rattle.book_steps.specs.Run.{RunState, place}
use Rattle.image_words.specs.Clauses.{entered_by, Entered}
use Rattle.image_steps.specs.Image.{Head, layout, start_of}
use Rattle.image_steps.specs.Records as Records
use Rattle.image_steps.specs.Read as Read
use Rattle.image_steps.proofs.States.{state_goes}
use Rattle.image_kinds.specs.Clauses.{NoKind}
use Rattle.image_kinds.proofs.Whole as Whole
use Rattle.image_kinds.specs.declared.Words.{Words}
use Rattle.image_states.specs.declared.Lists.{Lists}
use Rattle.image_words.specs.Clauses.{word_of}
use Rattle.image_states.specs.Clauses.{WordsAt, Copies, HeadIs, listed, made, made_at, Wants, Enters, EntersList, Reads, ReadsState, put_in, SinceBy, Turns, ReadsStates, TurnAsks, StatesAsk}
use Rattle.image_states.proofs.Copying.{holds_less, from_length, copied_kept, any_head}
use Rattle.image_states.proofs.Entering.{made_no, list_kind}

-- the law of a state's record, as it is used here
record_goes : (N : ℕ) (L : Bounds) (σ τ : Aut) (xs : List ℕ) (k x y e i : ℕ) → WfAut N L σ → Records.state N L xs k x y e σ ≡ given τ i → Since N L σ τ
record_goes N L σ τ xs k x y e i w q = let m = state_goes N L σ w xs k x y e τ i q in record { grown = m.grown; memos = m.memos; good = m.good }

-- ---- what is made, with its number looked at

module _ (image : List ℕ) (h : Head) (L : Bounds) (k x y e : ℕ) (σ : Aut) where
  abbrev xs : List ℕ
  xs = Read.list_at image h L k x y

  abbrev N : ℕ
  N = h.fields

  state_made : Records.state N L xs k x y e σ ≡ Records.wanted N L σ.states.count (made N L xs k x y e σ)
  unfolding Records.state
  state_made = go (Records.state_fits N L σ xs k x y e) (Records.interned N L xs k x y σ)
    where
      go : (b : Bool) (o : Outcome Aut ℕ) → (if b then Records.wanted N L σ.states.count o else refused 32) ≡ Records.wanted N L σ.states.count (if b then o else refused 32)
      go true o = refl
      go false o = refl

  state_is : Read.state_at image h L k x y e σ ≡ Records.wanted N L σ.states.count (made_at image h L k x y e σ)
  unfolding Read.state_at
  state_is = go (listed k && ltb h.members (x + y))
    where
      go : (b : Bool) → (if b then (λ (σ : Aut). refused 32) else Records.state N L xs k x y e) σ ≡ Records.wanted N L σ.states.count (if b then refused 32 else made N L xs k x y e σ)
      go true = refl
      go false = state_made

  -- what is given is given by the record's step
  state_given : {τ : Aut} {i : ℕ} → Read.state_at image h L k x y e σ ≡ given τ i → Records.state N L xs k x y e σ ≡ given τ i
  unfolding Read.state_at
  state_given {τ} {i} q = go (listed k && ltb h.members (x + y)) q
    where
      go : (b : Bool) → (if b then (λ (σ : Aut). refused 32) else Records.state N L xs k x y e) σ ≡ given τ i → Records.state N L xs k x y e σ ≡ given τ i
      go true q = let z : ◌≡◌ {A = ℕ} 0 1 = cc in absurd (omega arith)
      go false q = q

  -- by whether it has a list, and whether that is among the members
  abbrev way : Bool → Bool → Outcome Aut ℕ
  way a b = if a && b then refused 32 else made N L (if a then Read.words_from image h L (start_of 2 (layout h) + x) y else []) k x y e σ

  at_way : (a b : Bool) → listed k ≡ a → ltb h.members (x + y) ≡ b → made_at image h L k x y e σ ≡ way a b
  at_way a b p q = ap₂ way p q

  made_plain : listed k ≡ false → made_at image h L k x y e σ ≡ made N L [] k x y e σ
  made_plain p = at_way false (ltb h.members (x + y)) p refl

  made_far : listed k ≡ true → h.members < x + y → made_at image h L k x y e σ ≡ refused 32
  made_far p l = at_way true true p (lt-ltb h.members (x + y) l)

  made_list : listed k ≡ true → x + y ≤ h.members → made_at image h L k x y e σ ≡ made N L (Read.words_from image h L (start_of 2 (layout h) + x) y) k x y e σ
  made_list p l = at_way true false p (le-ltb h.members (x + y) l)

abbrev lim : Config → Bounds
lim k = limits_of k.limits

-- ---- a record, by its kind

module _ (k : Config) (at : Lists) (w : Words) (x : Lent) where
  pub reads_plain : listed w.kind ≡ false → {r : Result ℕ Refusal} (y : Lent) → Enters k w [] x r y → y.scratch ≡ x.scratch → Reads k at w x r y
  reads_plain p {r} y d s = record {
    is = λ h H.
        made_plain at.image.now h (lim k) w.kind w.first w.second w.nesting (aut_in x) p
        ∙ ap (λ (m : ℕ). made m (lim k) [] w.kind w.first w.second w.nesting (aut_in x)) H.fields
        ∙ d;
    kept = rw s (kept_refl 0 64 x.scratch.now);
  }

  -- a kind that images do not know
  pub reads_none : NoKind w.kind → Reads k at w x (Err Record) x
  reads_none p = record {
    is = λ h H. go h (listed w.kind && ltb h.members (w.first + w.second));
    kept = kept_refl 0 64 x.scratch.now;
  }
    where
      go : (h : Head) (b : Bool) → (if b then refused 32 else made h.fields (lim k) (Read.list_at at.image.now h (lim k) w.kind w.first w.second) w.kind w.first w.second w.nesting (aut_in x)) ≡ refused 32
      go h true = refl
      go h false =
          let xs : List ℕ = Read.list_at at.image.now h (lim k) w.kind w.first w.second in
          made_no h.fields (lim k) xs w.kind w.first w.second w.nesting (aut_in x) (p.never h.fields (lim k) (aut_in x) xs w.first w.second w.nesting)

  module _ (q : (w.kind ≡ UNION) ⊎ (w.kind ≡ INTERSECT)) where
    pub list_far : at.count < w.first + w.second → Reads k at w x (Err Record) x
    list_far l = record {
      is = λ h H. made_far at.image.now h (lim k) w.kind w.first w.second w.nesting (aut_in x) (list_kind q) (omega (arith, H.members));
      kept = kept_refl 0 64 x.scratch.now;
    }

    module _ (l : w.first + w.second ≤ at.count) where
      pub list_long : k.limits.list < w.second → Reads k at w x (Err Record) x
      list_long m = record {
        is = λ h H.
            let xs : List ℕ = Read.words_from at.image.now h (lim k) (start_of 2 (layout h) + w.first) w.second in
            made_list at.image.now h (lim k) w.kind w.first w.second w.nesting (aut_in x) (list_kind q) (omega (arith, H.members))
            ∙ made_no h.fields (lim k) xs w.kind w.first w.second w.nesting (aut_in x) (Whole.list_long h.fields (lim k) (aut_in x) xs w.kind w.first w.second w.nesting q m);
        kept = kept_refl 0 64 x.scratch.now;
      }

      -- the list is in the first words of scratch
      pub list_read : (ys : List ℕ) {n : ℕ} → n ≡ w.second → Copies at.image.now (at.first + w.first) n ys → w.second ≤ 64 → w.second ≤ length x.scratch.now
          → (st : States) (mem : Members) {r : Result ℕ Refusal} → EntersList k w ys x.states x.members r st mem
          → {y : Lent} → aut_in y ≡ aut (nodes_in x) (states_of st) (members_of mem) → y.scratch.now ≡ ys ++ drop w.second x.scratch.now → Reads k at w x r y
      list_read ys {n} e v few room st mem {r} d {y} a s = record {
        is = λ h H.
            made_list at.image.now h (lim k) w.kind w.first w.second w.nesting (aut_in x) (list_kind q) (omega (arith, H.members))
            ∙ ap₂ (λ (m a : ℕ). made m (lim k) (Read.words_from at.image.now h (lim k) (a + w.first) w.second) w.kind w.first w.second w.nesting (aut_in x)) H.fields H.first
            ∙ ap (λ (m : ℕ). made k.fields (lim k) (Read.words_from at.image.now h (lim k) (at.first + w.first) m) w.kind w.first w.second w.nesting (aut_in x)) (sym e)
            ∙ ap (λ (ys : List ℕ). made k.fields (lim k) ys w.kind w.first w.second w.nesting (aut_in x)) (v.is h (lim k))
            ∙ d.is (nodes_in x)
            ∙ ap (seen r) (sym a);
        kept = subst (Kept 0 64 x.scratch.now) (sym s) (copied_kept ys x.scratch.now w.second (ap length (sym (v.is any_head (lim k))) ∙ from_length at.image.now any_head (lim k) (at.first + w.first) n ∙ e) few room);
      }

-- ---- read_state

module _ (k : Config) (at : Lists) (s : ℕ) (w : Words) (v : WordsAt at.image.now s w) (x : Lent) where
  read_is : (h : Head) {o : Outcome Aut ℕ} → made_at at.image.now h (lim k) w.kind w.first w.second w.nesting (aut_in x) ≡ o
      → Read.state_at at.image.now h (lim k) (word_of at.image.now s) (word_of at.image.now (s + 1)) (word_of at.image.now (s + 2)) (word_of at.image.now (s + 3)) (aut_in x) ≡ Records.wanted h.fields (lim k) x.states.count o
  read_is h q =
      ap₂ (λ (c d : ℕ). Read.state_at at.image.now h (lim k) c d (word_of at.image.now (s + 2)) (word_of at.image.now (s + 3)) (aut_in x)) (sym v.kind) (sym v.first)
      ∙ ap₂ (λ (y e : ℕ). Read.state_at at.image.now h (lim k) w.kind w.first y e (aut_in x)) (sym v.second) (sym v.nesting)
      ∙ state_is at.image.now h (lim k) w.kind w.first w.second w.nesting (aut_in x)
      ∙ ap (Records.wanted h.fields (lim k) x.states.count) q

  pub not_read : {e : Refusal} {y : Lent} → Reads k at w x (Err e) y → ReadsState k at s x (Err e) y
  not_read d = record { is = λ h H. read_is h (d.is h H); kept = d.kept }

  pub state_read : {i : ℕ} {r : Result ℕ Refusal} {y : Lent} → Reads k at w x (Ok i) y → Wants x.states.count i r → ReadsState k at s x r y
  state_read {i} {r} {y} d n = record { is = λ h H. read_is h (d.is h H) ∙ n.is h.fields (lim k) (aut_in y); kept = d.kept }

-- ---- read_at

module _ (k : Config) (at : Lists) (s : ℕ) (x : Lent) where
  abbrev state_of : Head → Step Aut ℕ
  state_of h = Read.state_at at.image.now h (lim k) (word_of at.image.now s) (word_of at.image.now (s + 1)) (word_of at.image.now (s + 2)) (word_of at.image.now (s + 3))

  abbrev on_place : RunState → Outcome Aut ℕ → Outcome RunState ℕ
  on_place p o = placed (λ (σ : Tables) (p : RunState). place σ p.lines p.output) p (placed put_base p.tables (placed put_aut p.tables.base o))

  as_placed : (p : RunState) (r : Result ℕ Refusal) (y : Lent) → on_place p (seen r (aut_in y)) ≡ seen r (put_in (aut_in y) p)
  as_placed p (Ok i) y = refl
  as_placed p (Err e) y = refl

  since_by : WfAut k.fields (lim k) (aut_in x) → (h₀ : Head) → HeadIs h₀ k.fields at → (r : Result ℕ Refusal) (y : Lent) → state_of h₀ (aut_in x) ≡ seen r (aut_in y) → SinceBy k x r y
  since_by good h₀ H₀ (Ok i) y q =
      let xs : List ℕ = Read.list_at at.image.now h₀ (lim k) (word_of at.image.now s) (word_of at.image.now (s + 1)) (word_of at.image.now (s + 2)) in
      let z : Records.state h₀.fields (lim k) xs (word_of at.image.now s) (word_of at.image.now (s + 1)) (word_of at.image.now (s + 2)) (word_of at.image.now (s + 3)) (aut_in x) ≡ given (aut_in y) i
      = state_given at.image.now h₀ (lim k) (word_of at.image.now s) (word_of at.image.now (s + 1)) (word_of at.image.now (s + 2)) (word_of at.image.now (s + 3)) (aut_in x) q in
      record_goes k.fields (lim k) (aut_in x) (aut_in y) xs (word_of at.image.now s) (word_of at.image.now (s + 1)) (word_of at.image.now (s + 2)) (word_of at.image.now (s + 3)) i good
      (subst (λ (N : ℕ). Records.state N (lim k) xs (word_of at.image.now s) (word_of at.image.now (s + 1)) (word_of at.image.now (s + 2)) (word_of at.image.now (s + 3)) (aut_in x) ≡ given (aut_in y) i) H₀.fields z)
  since_by good h₀ H₀ (Err e) y q = tt

  module _ {lk : Result Unit Refusal} (f : Entered at.image.now s 4 lk) where
    entering : (h : Head) (i : ℕ) (p : RunState) {z : Result Unit Refusal} → lk ≡ z
        → (Read.enter at.image.now h (lim k) s 4 >>= λ _. Read.state at.image.now h (lim k) i s) p ≡ after (entered_by z p) (λ _. Read.state at.image.now h (lim k) i s)
    entering h i p q = ap (λ (o : Outcome RunState ℕ). after o (λ _. Read.state at.image.now h (lim k) i s)) (f h (lim k) p ∙ ap (λ (z : Result Unit Refusal). entered_by z p) q)

    pub turn_refused : {e : Refusal} → lk ≡ Err e → Turns k at s x (Err e) x
    turn_refused q = record { is = λ h H i p a. entering h i p q; since = tt; kept = kept_refl 0 64 x.scratch.now }

    pub turn_read : WfAut k.fields (lim k) (aut_in x) → (h₀ : Head) → HeadIs h₀ k.fields at → lk ≡ Ok tt → {r : Result ℕ Refusal} {y : Lent} → ReadsState k at s x r y → Turns k at s x r y
    turn_read good h₀ H₀ q {r} {y} d = record {
      is = λ h H i p a. entering h i p q ∙ ap (on_place p) (ap (state_of h) a ∙ d.is h H) ∙ as_placed p r y;
      since = since_by good h₀ H₀ r y (d.is h₀ H₀);
      kept = d.kept;
    }

-- ---- read_states

-- one record after another
module _ (image : List ℕ) (h : Head) (L : Bounds) where
  abbrev run : (i s k : ℕ) → Step RunState ℕ
  run i s k = Read.records image h L (Read.state image h L) 4 i s k

  abbrev turn : ℕ → ℕ → Step RunState ℕ
  turn i s = Read.enter image h L s 4 >>= λ _. Read.state image h L i s

  joined : (o : Outcome RunState ℕ) (f g : Step RunState ℕ) → after o (λ _. (f >>= λ _. g)) ≡ after (after o (λ _. f)) (λ _. g)
  joined (refused e) f g = refl
  joined (given p x) f g = refl

  run_on : (i s k : ℕ) (p : RunState) (o : Outcome RunState ℕ) → turn i s p ≡ o → run i s (suc k) p ≡ after o (λ _. run (i + 1) (s + 4) k)
  unfolding Read.records
  run_on i s k p o q = joined (Read.enter image h L s 4 p) (Read.state image h L i s) (run (i + 1) (s + 4) k) ∙ ap (λ (o : Outcome RunState ℕ). after o (λ _. run (i + 1) (s + 4) k)) q

  run_end : (i s : ℕ) (p : RunState) → run i s 0 p ≡ given p 0
  unfolding Read.records
  run_end i s p = refl

-- of n records i are read
pub record Going (k : Config) (at : Lists) (s n : ℕ) (x : Lent) (i : ℕ) (y : Lent) : Type 0 where
  pub is : (h : Head) → HeadIs h k.fields at → (p : RunState) → p.tables.base.aut ≡ aut_in x
      → run at.image.now h (lim k) 0 s n p ≡ run at.image.now h (lim k) i (s + 4 * i) (n - i) (put_in (aut_in y) p)
  pub since : Since k.fields (lim k) (aut_in x) (aut_in y)
  pub kept : Kept 0 64 x.scratch.now y.scratch.now

module _ (k : Config) (at : Lists) (s n : ℕ) (x : Lent) where
  pub begin : WfAut k.fields (lim k) (aut_in x) → Going k at s n x 0 x
  begin g = record {
    is = λ h H p a.
        ap₂ (λ (u v : ℕ). run at.image.now h (lim k) 0 u v p) {x = s} {y = s + 4 * 0} {u = n} {v = n - 0} (omega arith) (omega arith)
        ∙ ap (λ (σ : Aut). run at.image.now h (lim k) 0 (s + 4 * 0) (n - 0) (put_in σ p)) a;
    since = since_refl g;
    kept = kept_refl 0 64 x.scratch.now;
  }

  module _ {i : ℕ} {y : Lent} (v : Going k at s n x i y) where
    module _ (l : i < n) where
      -- what a turn asks
      pub turn_asks : StatesAsk k at s n x → length y.scratch.now ≡ length x.scratch.now → TurnAsks k at (s + 4 * i) y
      turn_asks q len = record {
        asks = record {
          asks = record {
            ordered = record { few = q.asks.ordered.few; good = v.since.good };
            list = q.asks.list;
            room = omega (arith, q.asks.room, len);
            members = q.asks.members;
          };
          here = holds_less q.here (omega arith);
        };
        head = q.head;
        is_head = q.is_head;
      }

      module _ {r : Result ℕ Refusal} {z : Lent} (w : Turns k at (s + 4 * i) y r z) where
        moved : (h : Head) → HeadIs h k.fields at → (p : RunState) → p.tables.base.aut ≡ aut_in x
            → run at.image.now h (lim k) 0 s n p ≡ after (seen r (put_in (aut_in z) p)) (λ _. run at.image.now h (lim k) (i + 1) (s + 4 * i + 4) (n - (i + 1)))
        moved h H p a =
            v.is h H p a
            ∙ ap (λ (m : ℕ). run at.image.now h (lim k) i (s + 4 * i) m (put_in (aut_in y) p)) {x = n - i} {y = suc (n - (i + 1))} (omega arith)
            ∙ run_on at.image.now h (lim k) i (s + 4 * i) (n - (i + 1)) (put_in (aut_in y) p) (seen r (put_in (aut_in z) p)) (w.is h H i (put_in (aut_in y) p) refl)

      pub stop : {e : Refusal} {z : Lent} → Turns k at (s + 4 * i) y (Err e) z → ReadsStates k at s n x (Err e) z
      stop w = record { is = λ h H p a. moved w h H p a; since = tt; kept = kept_trans v.kept w.kept }

      pub again : {j : ℕ} {z : Lent} → Turns k at (s + 4 * i) y (Ok j) z → Going k at s n x (i + 1) z
      again {j} {z} w = record {
        is = λ h H p a. moved w h H p a ∙ ap (λ (u : ℕ). run at.image.now h (lim k) (i + 1) u (n - (i + 1)) (put_in (aut_in z) p)) {x = s + 4 * i + 4} {y = s + 4 * (i + 1)} (omega arith);
        since = since_trans v.since w.since;
        kept = kept_trans v.kept w.kept;
      }

    pub end : n ≤ i → ReadsStates k at s n x (Ok tt) y
    end l = record {
      is = λ h H p a.
          v.is h H p a ∙ ap (λ (m : ℕ). run at.image.now h (lim k) i (s + 4 * i) m (put_in (aut_in y) p)) {x = n - i} {y = 0} (omega arith) ∙ run_end at.image.now h (lim k) i (s + 4 * i) (put_in (aut_in y) p);
      since = v.since;
      kept = v.kept;
    }

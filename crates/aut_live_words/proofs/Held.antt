-- How `Held` goes on: a word 9 is written, states are reached, a set grows, a call has run. And what the steps of the walk are in terms of entries.
use Rattle.std.specs.Prelude.{Some, None, if◌then◌else◌}
use mathlib.Core.Path.{◌≡◌, refl, sym, ◌∙◌, ap, ap₂, subst}
use mathlib.Core.Logic.{◌≢◌}
use mathlib.Core.Bool.{Bool, true, false, ◌||◌}
use mathlib.Core.List.{List, [], ◌∷◌, ◌++◌, reverse, reverse-append, append_assoc, Memᴰ}
use Prim.Native.Nat.{ℕ, ◌+◌, ◌*◌, ◌-◌, ◌/◌, ◌≤◌, ◌<◌}
use native.Mathlib.Omega.{arith}
use lib.Dec.{T, eqb, eqb_refl, ltb}
use lib.ListN.{length, get_or, set, length-set}
use lib.Seq.{get_or-set_same, get_or-set_other}
use borrow.Author.Tests.{eqb-true, eqb-false, ltb-true, ltb-false, lt-ltb, le-ltb}
use Rattle.common.specs.Packets.{any}
use Rattle.common.proofs.PacketLaws.{any_of}
use Rattle.common.specs.Outcome.{refused, given}
use Rattle.netkat_steps.specs.ListSteps.{Edge}
use Rattle.sp_steps.specs.Model as Sp
use Rattle.sp_steps.specs.Wf as SpLaws
use Rattle.sp_steps.proofs.Laws as SpLawsProofs
use Rattle.spp_steps.proofs.Laws.{by_test}
use Rattle.aut_st_steps.specs.Places.{put_edge}
use Rattle.aut_st_steps.proofs.Places.{put_length}
use Rattle.aut_steps.specs.Wf.{states}
use Rattle.aut_query_steps.specs.Tables.{Tables}
use Rattle.aut_query_steps.specs.Search.{capacity}
use Rattle.aut_query_steps.specs.Live as M
use Rattle.aut_query_steps.specs.Live.{live_at}
use Rattle.aut_query_steps.proofs.ExploreLaws.{any_mem}
use Rattle.aut_states.specs.declared.Limits.{Limits}
use Rattle.aut_free.specs.Clear.{clear}
use Rattle.aut_free.proofs.Clearing.{clear_set, clear_length}
use Rattle.aut_query_calls.specs.Working.{Working}
use Rattle.aut_query_calls.specs.Working.{Unwritten, with_words}
pub use Rattle.aut_query_calls.proofs.Works.{tables_marked, clear_set_in, working_set}
use Rattle.aut_live_words.specs.Work.{work_of, live_by, seconds, Held, Doubled, Reaches, there, new, full, Enqueues, none, one, over}
use Rattle.aut_live_words.proofs.Words.{seconds_length, seconds_same, seconds_split, seconds_one, second_in}

-- ---- lists

any_behind : (f : ℕ → Bool) (l : List ℕ) (y : ℕ) → any f (l ++ y ∷ []) ≡ (any f l || f y)
any_behind f [] y = go (f y)
  where
    go : (b : Bool) → (b || false) ≡ b
    go true = refl
    go false = refl
any_behind f (x ∷ xs) y = ap (λ (b : Bool). f x || b) (any_behind f xs y) ∙ go (f x) (any f xs) (f y)
  where
    go : (a b c : Bool) → (a || (b || c)) ≡ ((a || b) || c)
    go true b c = refl
    go false b c = refl

true_of : (b : Bool) → T b → b ≡ true
true_of true t = refl
true_of false t = absurd t

pub mem_any : {x : ℕ} {l : List ℕ} → Memᴰ x l → any (eqb x) l ≡ true
mem_any {x} {l} m = true_of (any (eqb x) l) (any_of (eqb x) m (eqb_refl x))

pub same_rest : (l a b : List ℕ) → l ++ a ≡ l ++ b → a ≡ b
same_rest [] a b q = q
same_rest (x ∷ xs) a b q = same_rest xs a b (cc)

pub reverse_behind : (l : List ℕ) (y : ℕ) → reverse (l ++ y ∷ []) ≡ y ∷ reverse l
reverse_behind l y = reverse-append l (y ∷ [])

put_other : (p : List ℕ) (n y z j : ℕ) → (j ≡ 2 * n → ⊥) → (j ≡ 2 * n + 1 → ⊥) → get_or (put_edge p n y z) j 0 ≡ get_or p j 0
put_other p n y z j a b = get_or-set_other (set p (2 * n) y) (2 * n + 1) j z 0 b ∙ get_or-set_other p (2 * n) j y 0 a

-- ---- words 9

pub work_here : (st : List ℕ) (x v : ℕ) → 12 * x + 9 < length st → work_of (set st (12 * x + 9) v) x ≡ v
unfolding work_of
work_here st x v l = get_or-set_same st (12 * x + 9) v 0 l

pub work_there : (st : List ℕ) (x v y : ℕ) → (y ≡ x → ⊥) → work_of (set st (12 * x + 9) v) y ≡ work_of st y
unfolding work_of
work_there st x v y n = get_or-set_other st (12 * x + 9) (12 * y + 9) v 0 (λ q. n (omega arith))

live_as : (N : ℕ) (st st' : List ℕ) (y : ℕ) → work_of st' y ≡ work_of st y → live_by N st' y ≡ live_by N st y
unfolding live_by
live_as N st st' y q = ap (λ (w : ℕ). if ltb 0 w then w - 1 else Sp.zero_at N) q

pub live_reached : (N : ℕ) (st : List ℕ) (x : ℕ) → 0 < work_of st x → live_by N st x ≡ work_of st x - 1
unfolding live_by
live_reached N st x l = ap (λ (b : Bool). if b then work_of st x - 1 else Sp.zero_at N) (lt-ltb 0 (work_of st x) l)

pub live_fresh : (N : ℕ) (st : List ℕ) (x : ℕ) → work_of st x ≡ 0 → live_by N st x ≡ Sp.zero_at N
unfolding live_by
live_fresh N st x q = ap (λ (w : ℕ). if ltb 0 w then w - 1 else Sp.zero_at N) q

pub live_set : (N : ℕ) (st : List ℕ) (x h : ℕ) → 12 * x + 9 < length st → (y : ℕ) → live_by N (set st (12 * x + 9) (h + 1)) y ≡ live_at x h (live_by N st) y
live_set N st x h l y = by_test (eqb x y)
    (λ b. let q : x ≡ y = eqb-true x y b in
    subst (λ (z : ℕ). live_by N (set st (12 * x + 9) (h + 1)) z ≡ h) q
    (live_reached N (set st (12 * x + 9) (h + 1)) x (omega (arith, work_here st x (h + 1) l)) ∙ omega (arith, work_here st x (h + 1) l))
    ∙ sym (ap (λ (c : Bool). if c then h else live_by N st y) b))
    (λ b. live_as N st (set st (12 * x + 9) (h + 1)) y (work_there st x (h + 1) y (λ q. eqb-false x y b (sym q))) ∙ sym (ap (λ (c : Bool). if c then h else live_by N st y) b))

-- ---- a call that wrote none of the words 8 to 11

pub work_unwritten : (σ τ : Tables) → Unwritten σ τ → (x : ℕ) → work_of τ.base.aut.states.words x ≡ work_of σ.base.aut.states.words x
unfolding work_of
work_unwritten σ τ u x = u x 9 (omega arith) (omega arith)

pub live_unwritten : (N : ℕ) (σ τ : Tables) → Unwritten σ τ → (x : ℕ) → live_by N τ.base.aut.states.words x ≡ live_by N σ.base.aut.states.words x
live_unwritten N σ τ u x = live_as N σ.base.aut.states.words τ.base.aut.states.words x (work_unwritten σ τ u x)

module _ {N : ℕ} {l : Limits} {σ τ : Tables} {s s' p : List ℕ} {n m : ℕ} where
  pub held_ran : Held N l σ s p n m → Working N l τ s' → SpLaws.Ext σ.sets τ.sets → Unwritten σ τ → Held N l τ s' p n m
  held_ran H W e u = record {
    working = W;
    marked = λ x. H.marked x ∙ ap (ltb 0) (sym (work_unwritten σ τ u x));
    sets = λ x a. subst (λ (w : ℕ). SpLaws.ValidAt τ.sets N (w - 1)) (sym (work_unwritten σ τ u x)) (SpLawsProofs.at_ext e N (work_of σ.base.aut.states.words x - 1) (H.sets x (omega (arith, work_unwritten σ τ u x))));
    rest = λ x w a b c. u x w a b ∙ H.rest x w a b c;
    todo = H.todo;
    after = H.after;
    room = H.room;
    high = H.high;
  }

-- what is reached is a state
module _ {N : ℕ} {l : Limits} {σ : Tables} {s p : List ℕ} {n m : ℕ} (H : Held N l σ s p n m) where
  abbrev st₀ : List ℕ
  st₀ = σ.base.aut.states.words

  pub held_state : (x : ℕ) → 0 < work_of st₀ x → x < states σ.base.aut
  unfolding work_of
  held_state x a = by_test (ltb x (states σ.base.aut)) (λ t. ltb-true x (states σ.base.aut) t)
      (λ t. absurd (omega (arith, H.working.fresh (12 * x + 9) (omega (arith, ltb-false x (states σ.base.aut) t)))))

  pub held_reached : (x : ℕ) → Memᴰ x (seconds p 0 n) → 0 < work_of st₀ x
  held_reached x k = ltb-true 0 (work_of st₀ x) (sym (H.marked x) ∙ mem_any k)

  pub held_listed : (x : ℕ) → 0 < work_of st₀ x → Memᴰ x (seconds p 0 n)
  held_listed x a = any_mem x (seconds p 0 n) (H.marked x ∙ lt-ltb 0 (work_of st₀ x) a)

  pub held_second : (i : ℕ) → i < n → 0 < work_of st₀ (get_or p (2 * i + 1) 0)
  held_second i a = held_reached (get_or p (2 * i + 1) 0) (second_in p 0 n i (omega arith) (omega arith))

-- ---- a word 9 is written

module _ {N : ℕ} {l : Limits} {σ : Tables} {s p : List ℕ} {n m : ℕ} (H : Held N l σ s p n m) where
  abbrev st : List ℕ
  st = σ.base.aut.states.words

  abbrev count : ℕ
  count = states σ.base.aut

  there_word : (x : ℕ) → x < count → 12 * x + 9 < length st
  there_word x k = omega (arith, k, fits_real)
    where
      fits_real : 12 * count ≤ length st
      fits_real = subst (λ (n : ℕ). 12 * count ≤ n) (clear_length st) H.working.ready.ready.good.fits

  pub held_there : (x : ℕ) → 0 < work_of st x → 12 * x + 11 < length st
  held_there x a = omega (arith, held_state H x a, subst (λ (n : ℕ). 12 * count ≤ n) (clear_length st) H.working.ready.ready.good.fits)

  pub held_fits : (x : ℕ) → x < count → 12 * x + 11 < length st
  held_fits x k = omega (arith, k, subst (λ (n : ℕ). 12 * count ≤ n) (clear_length st) H.working.ready.ready.good.fits)

  rest_set : (x v : ℕ) → (y w : ℕ) → 8 ≤ w → w < 12 → w ≢ 9 → get_or (set st (12 * x + 9) v) (12 * y + w) 0 ≡ 0
  rest_set x v y w a b k = get_or-set_other st (12 * x + 9) (12 * y + w) v 0 (λ q. k (omega arith)) ∙ H.rest y w a b k

  sets_set : (x h : ℕ) → x < count → SpLaws.ValidAt σ.sets N h → (y : ℕ) → 0 < work_of (set st (12 * x + 9) (h + 1)) y → SpLaws.ValidAt σ.sets N (work_of (set st (12 * x + 9) (h + 1)) y - 1)
  sets_set x h k a y r = by_test (eqb y x)
      (λ b. let q : y ≡ x = eqb-true y x b in
      subst (λ (z : ℕ). SpLaws.ValidAt σ.sets N (work_of (set st (12 * x + 9) (h + 1)) z - 1)) (sym q)
      (subst (λ (w : ℕ). SpLaws.ValidAt σ.sets N w) {x = h} {y = work_of (set st (12 * x + 9) (h + 1)) x - 1} (omega (arith, work_here st x (h + 1) (there_word x k))) a))
      (λ b. let e = work_there st x (h + 1) y (eqb-false y x b) in
      subst (λ (w : ℕ). SpLaws.ValidAt σ.sets N (w - 1)) (sym e) (H.sets y (omega (arith, e))))

  marked_set : (x h : ℕ) → x < count → (y : ℕ) → (any (eqb y) (seconds p 0 n) || eqb y x) ≡ ltb 0 (work_of (set st (12 * x + 9) (h + 1)) y)
  marked_set x h k y = by_test (eqb y x)
      (λ b. let q : y ≡ x = eqb-true y x b in
      ap (λ (d : Bool). any (eqb y) (seconds p 0 n) || d) b ∙ or_true (any (eqb y) (seconds p 0 n))
      ∙ sym (lt-ltb 0 (work_of (set st (12 * x + 9) (h + 1)) y) (subst (λ (z : ℕ). 0 < work_of (set st (12 * x + 9) (h + 1)) z) (sym q) (omega (arith, work_here st x (h + 1) (there_word x k))))))
      (λ b. ap (λ (d : Bool). any (eqb y) (seconds p 0 n) || d) b ∙ or_false (any (eqb y) (seconds p 0 n)) ∙ H.marked y ∙ ap (ltb 0) (sym (work_there st x (h + 1) y (eqb-false y x b))))
    where
      or_true : (b : Bool) → (b || true) ≡ true
      or_true true = refl
      or_true false = refl

      or_false : (b : Bool) → (b || false) ≡ b
      or_false true = refl
      or_false false = refl

  -- of a state that is reached
  marked_same : (x h : ℕ) → 0 < work_of st x → (y : ℕ) → any (eqb y) (seconds p 0 n) ≡ ltb 0 (work_of (set st (12 * x + 9) (h + 1)) y)
  marked_same x h a y = sym (was (eqb y x) refl) ∙ marked_set x h (held_state H x a) y
    where
      was : (b : Bool) → eqb y x ≡ b → (any (eqb y) (seconds p 0 n) || eqb y x) ≡ any (eqb y) (seconds p 0 n)
      was true q = ap (λ (d : Bool). d || eqb y x) known ∙ sym known
        where
          known : any (eqb y) (seconds p 0 n) ≡ true
          known = H.marked y ∙ subst (λ (z : ℕ). ltb 0 (work_of st z) ≡ true) (sym (eqb-true y x q)) (lt-ltb 0 (work_of st x) a)
      was false q = ap (λ (d : Bool). any (eqb y) (seconds p 0 n) || d) q ∙ go (any (eqb y) (seconds p 0 n))
        where
          go : (b : Bool) → (b || false) ≡ b
          go true = refl
          go false = refl

  pub held_write : (x h : ℕ) → 0 < work_of st x → SpLaws.ValidAt σ.sets N h → Held N l (with_words (set st (12 * x + 9) (h + 1)) σ) s p n m
  held_write x h a z = record {
    working = working_set σ x 9 (h + 1) (omega arith) (omega arith) (held_state H x a) H.working;
    marked = marked_same x h a;
    sets = sets_set x h (held_state H x a) z;
    rest = rest_set x (h + 1);
    todo = H.todo;
    after = H.after;
    room = H.room;
    high = H.high;
  }

-- ---- states are reached

-- the words of states and p have become st' and p', with k states
pub record Moved (N : ℕ) (l : Limits) (σ : Tables) (s p : List ℕ) (n : ℕ) (st' p' : List ℕ) (k : ℕ) : Type 0 where
  pub held : Held N l (with_words st' σ) s p' k k
  pub live : (y : ℕ) → live_by N st' y ≡ live_by N σ.base.aut.states.words y
  pub clear : clear st' ≡ clear σ.base.aut.states.words
  pub low : (j : ℕ) → j < 2 * n → get_or p' j 0 ≡ get_or p j 0
  pub more : n ≤ k
  pub doubled : Doubled p n → Doubled p' k
  pub len : length p' ≡ length p

moved_trans : {N : ℕ} {l : Limits} {σ : Tables} {s p : List ℕ} {n : ℕ} {st₁ p₁ : List ℕ} {k : ℕ} {st₂ p₂ : List ℕ} {j : ℕ}
    → Moved N l σ s p n st₁ p₁ k → Moved N l (with_words st₁ σ) s p₁ k st₂ p₂ j → Moved N l σ s p n st₂ p₂ j
moved_trans a b = record {
  held = b.held;
  live = λ y. b.live y ∙ a.live y;
  clear = b.clear ∙ a.clear;
  low = λ j u. b.low j (omega (arith, a.more)) ∙ a.low j u;
  more = omega (arith, a.more, b.more);
  doubled = λ d. b.doubled (a.doubled d);
  len = b.len ∙ a.len;
}

-- the entries after one more state
pub seconds_new : (p : List ℕ) (n y : ℕ) → 2 * n + 1 < length p → seconds (put_edge p n y y) 0 (n + 1) ≡ seconds p 0 n ++ y ∷ []
seconds_new p n y f =
    seconds_split (put_edge p n y y) 0 n 1
    ∙ ap₂ (λ (a b : List ℕ). a ++ b)
    (seconds_same p (put_edge p n y y) 0 n (λ i u v. put_other p n y y (2 * i + 1) (λ q. omega arith) (λ q. omega arith)))
    (ap (λ (a : ℕ). seconds (put_edge p n y y) a 1) {x = 0 + n} {y = n} (omega arith) ∙ seconds_one (put_edge p n y y) n ∙ ap (λ (z : ℕ). z ∷ []) (get_or-set_same (set p (2 * n) y) (2 * n + 1) y 0 (simp length-set (omega (arith, f)))))

module _ {N : ℕ} {l : Limits} {s : List ℕ} where
  moved_refl : {σ : Tables} {p : List ℕ} {n : ℕ} → Held N l σ s p n n → Moved N l σ s p n σ.base.aut.states.words p n
  moved_refl H = record { held = H; live = λ y. refl; clear = refl; low = λ j u. refl; more = omega arith; doubled = λ d. d; len = refl }

  moved_new : {σ : Tables} {p : List ℕ} {n y : ℕ} → Held N l σ s p n n → y < states σ.base.aut → work_of σ.base.aut.states.words y ≡ 0 → n < capacity (length p / 2)
      → Moved N l σ s p n (set σ.base.aut.states.words (12 * y + 9) (Sp.zero_at N + 1)) (put_edge p n y y) (n + 1)
  moved_new {σ} {p} {n} {y} H k w r = record {
    held = record {
      working = working_set σ y 9 (Sp.zero_at N + 1) (omega arith) (omega arith) k H.working;
      marked = λ x. ap (any (eqb x)) (seconds_new p n y f) ∙ any_behind (eqb x) (seconds p 0 n) y ∙ marked_set H y (Sp.zero_at N) k x;
      sets = sets_set H y (Sp.zero_at N) k (SpLawsProofs.zero_at_lem H.working.ready.ordered.sets N (omega arith));
      rest = rest_set H y (Sp.zero_at N + 1);
      todo = λ i u. put_other p n y y (2 * i) (λ q. omega arith) (λ q. omega arith) ∙ H.todo i (omega arith);
      after = λ i u. put_other p n y y (2 * i + 1) (λ q. omega arith) (λ q. omega arith) ∙ H.after i (omega arith);
      room = subst (λ (k : ℕ). n + 1 ≤ capacity (k / 2)) (sym (put_length p n y y)) (omega (arith, r));
      high = subst (λ (k : ℕ). n + 1 ≤ capacity (k / 2)) (sym (put_length p n y y)) (omega (arith, r));
    };
    live = λ x. live_set N σ.base.aut.states.words y (Sp.zero_at N) (there_word H y k) x ∙ by_test (eqb y x)
        (λ b. ap (λ (d : Bool). if d then Sp.zero_at N else live_by N σ.base.aut.states.words x) b ∙ sym (live_fresh N σ.base.aut.states.words x (subst (λ (z : ℕ). work_of σ.base.aut.states.words z ≡ 0) (eqb-true y x b) w)))
        (λ b. ap (λ (d : Bool). if d then Sp.zero_at N else live_by N σ.base.aut.states.words x) b);
    clear = clear_set σ.base.aut.states.words y 9 (Sp.zero_at N + 1) (omega arith) (omega arith);
    low = λ j u. put_other p n y y j (λ q. omega arith) (λ q. omega arith);
    more = omega arith;
    doubled = λ d i u. by_test (eqb i n)
        (λ b. subst (λ (i : ℕ). get_or (put_edge p n y y) (2 * i) 0 ≡ get_or (put_edge p n y y) (2 * i + 1) 0) (sym (eqb-true i n b))
        (get_or-set_other (set p (2 * n) y) (2 * n + 1) (2 * n) y 0 (λ q. omega arith) ∙ get_or-set_same p (2 * n) y 0 (omega (arith, f)) ∙ sym (get_or-set_same (set p (2 * n) y) (2 * n + 1) y 0 (simp length-set (omega (arith, f))))))
        (λ b. let q : (i ≡ n → ⊥) = eqb-false i n b in
        put_other p n y y (2 * i) (λ e. omega (arith, q)) (λ e. omega (arith, q)) ∙ d i (omega (arith, q)) ∙ sym (put_other p n y y (2 * i + 1) (λ e. omega (arith, q)) (λ e. omega (arith, q))));
    len = put_length p n y y;
  }
    where
      f : 2 * n + 1 < length p
      f = omega (arith, r)

  pub reach_moved : {σ : Tables} {p : List ℕ} {n y k : ℕ} {st' p' : List ℕ} → Held N l σ s p n n → y < states σ.base.aut → Reaches N (capacity (length p / 2)) n y σ.base.aut.states.words p (Some k) st' p'
      → Moved N l σ s p n st' p' k
  reach_moved H a (there b) = moved_refl H
  reach_moved H a (new w r) = moved_new H a w r

  -- all targets of a list
  pub enqueue_moved : {most : ℕ} {es : List Edge} {σ : Tables} {p : List ℕ} {n k : ℕ} {st' p' : List ℕ} → most ≡ capacity (length p / 2) → Held N l σ s p n n → ((e : Edge) → Memᴰ e es → e.target < states σ.base.aut)
      → Enqueues N most es n σ.base.aut.states.words p (Some k) st' p' → Moved N l σ s p n st' p' k
  enqueue_moved q H f none = moved_refl H
  enqueue_moved {most} {σ = σ} {p = p} {n = n} q H f (one {e = e} {k = j} {st₁ = st₁} {p₁ = p₁} R E) =
      let a : Moved N l σ s p n st₁ p₁ j = reach_moved H (f e (Memᴰ.head refl)) (subst (λ (m : ℕ). Reaches N m n e.target σ.base.aut.states.words p (Some j) st₁ p₁) q R) in
      moved_trans a (enqueue_moved (q ∙ ap (λ (m : ℕ). capacity (m / 2)) (sym a.len)) a.held (λ d m. f d (Memᴰ.tail m)) E)

  -- .. as the step has it, from the states visited and those that wait
  pub enqueue_is : {most : ℕ} {es : List Edge} {σ : Tables} {p : List ℕ} {n k : ℕ} {st' p' : List ℕ} → most ≡ capacity (length p / 2) → Held N l σ s p n n → ((e : Edge) → Memᴰ e es → e.target < states σ.base.aut)
      → Enqueues N most es n σ.base.aut.states.words p (Some k) st' p' → (visited waiting : List ℕ) → visited ++ waiting ≡ seconds p 0 n
      → (waiting' : List ℕ) × (visited ++ waiting' ≡ seconds p' 0 k) × ((τ : Tables) → M.enqueue most es visited waiting τ ≡ given τ waiting')
  unfolding M.enqueue
  enqueue_is q H f none visited waiting e = (waiting, e, λ τ. refl)
  enqueue_is {most} {σ = σ} {p = p} {n = n} q H f (one {e = g} {es = es} {st₁ = st₁} {p₁ = p₁} (there a) E) visited waiting e =
      let (w, x, y) = enqueue_is q H (λ d m. f d (Memᴰ.tail m)) E visited waiting e in (
        w,
        x,
        λ τ. ap (λ (b : Bool). (if b then M.enqueue most es visited waiting else if ltb (length (visited ++ waiting)) most then M.enqueue most es visited (waiting ++ g.target ∷ []) else (λ σ. refused 24)) τ)
            (ap (any (eqb g.target)) e ∙ H.marked g.target ∙ lt-ltb 0 (work_of σ.base.aut.states.words g.target) a) ∙ y τ,
      )
  enqueue_is {most} {σ = σ} {p = p} {n = n} q H f (one {e = g} {es = es} {st₁ = st₁} {p₁ = p₁} (new a r) E) visited waiting e =
      let m = moved_new H (f g (Memᴰ.head refl)) a (omega (arith, q, r)) in
      let (w, x, y) = enqueue_is (q ∙ ap (λ (m : ℕ). capacity (m / 2)) (sym m.len)) m.held (λ d m. f d (Memᴰ.tail m)) E visited (waiting ++ g.target ∷ [])
      (sym (append_assoc visited waiting (g.target ∷ [])) ∙ ap (λ (l : List ℕ). l ++ g.target ∷ []) e ∙ sym (seconds_new p n g.target (omega (arith, q, r)))) in (
        w,
        x,
        λ τ. ap (λ (b : Bool). (if b then M.enqueue most es visited waiting else if ltb (length (visited ++ waiting)) most then M.enqueue most es visited (waiting ++ g.target ∷ []) else (λ σ. refused 24)) τ)
            (ap (any (eqb g.target)) e ∙ H.marked g.target ∙ ap (ltb 0) a)
            ∙ ap (λ (b : Bool). (if b then M.enqueue most es visited (waiting ++ g.target ∷ []) else (λ σ. refused 24)) τ) (lt-ltb (length (visited ++ waiting)) most (omega (arith, ap length e, seconds_length p 0 n, r))) ∙ y τ,
      )

  pub enqueue_refused : {most : ℕ} {es : List Edge} {σ : Tables} {p : List ℕ} {n : ℕ} {st' p' : List ℕ} → most ≡ capacity (length p / 2) → Held N l σ s p n n → ((e : Edge) → Memᴰ e es → e.target < states σ.base.aut)
      → Enqueues N most es n σ.base.aut.states.words p None st' p' → (visited waiting : List ℕ) → visited ++ waiting ≡ seconds p 0 n → (τ : Tables) → M.enqueue most es visited waiting τ ≡ refused 24
  unfolding M.enqueue
  enqueue_refused {most} {σ = σ} {p = p} {n = n} q H f (one {e = g} {es = es} {st₁ = st₁} {p₁ = p₁} (there a) E) visited waiting e τ =
      ap (λ (b : Bool). (if b then M.enqueue most es visited waiting else if ltb (length (visited ++ waiting)) most then M.enqueue most es visited (waiting ++ g.target ∷ []) else (λ σ. refused 24)) τ)
      (ap (any (eqb g.target)) e ∙ H.marked g.target ∙ lt-ltb 0 (work_of σ.base.aut.states.words g.target) a)
      ∙ enqueue_refused q H (λ d m. f d (Memᴰ.tail m)) E visited waiting e τ
  enqueue_refused {most} {σ = σ} {p = p} {n = n} q H f (one {e = g} {es = es} {st₁ = st₁} {p₁ = p₁} (new a r) E) visited waiting e τ =
      let m = moved_new H (f g (Memᴰ.head refl)) a (omega (arith, q, r)) in
      ap (λ (b : Bool). (if b then M.enqueue most es visited waiting else if ltb (length (visited ++ waiting)) most then M.enqueue most es visited (waiting ++ g.target ∷ []) else (λ σ. refused 24)) τ)
      (ap (any (eqb g.target)) e ∙ H.marked g.target ∙ ap (ltb 0) a)
      ∙ ap (λ (b : Bool). (if b then M.enqueue most es visited (waiting ++ g.target ∷ []) else (λ σ. refused 24)) τ) (lt-ltb (length (visited ++ waiting)) most (omega (arith, ap length e, seconds_length p 0 n, r)))
      ∙ enqueue_refused (q ∙ ap (λ (m : ℕ). capacity (m / 2)) (sym m.len)) m.held (λ d m. f d (Memᴰ.tail m)) E visited (waiting ++ g.target ∷ [])
      (sym (append_assoc visited waiting (g.target ∷ [])) ∙ ap (λ (l : List ℕ). l ++ g.target ∷ []) e ∙ sym (seconds_new p n g.target (omega (arith, q, r)))) τ
  enqueue_refused {most} {σ = σ} {p = p} {n = n} q H f (over {e = g} {es = es} (full a r)) visited waiting e τ =
      ap (λ (b : Bool). (if b then M.enqueue most es visited waiting else if ltb (length (visited ++ waiting)) most then M.enqueue most es visited (waiting ++ g.target ∷ []) else (λ σ. refused 24)) τ)
      (ap (any (eqb g.target)) e ∙ H.marked g.target ∙ ap (ltb 0) a)
      ∙ ap (λ (b : Bool). (if b then M.enqueue most es visited (waiting ++ g.target ∷ []) else (λ σ. refused 24)) τ) (le-ltb (length (visited ++ waiting)) most (omega (arith, ap length e, seconds_length p 0 n, r)))

-- What holds of the definitions of specs/Make.
use mathlib.Core.Path.{◌≡◌, refl, sym, ◌∙◌, ap, ap₂, subst}
use mathlib.Core.Bool.{Bool, true, false, ◌&&◌}
use mathlib.Core.List.{List}
use mathlib.Core.Logic.{◌⊎◌, ⊎_elim}
use Prim.Native.Nat.{ℕ, zero, suc, ◌+◌, ◌*◌, ◌-◌, ◌/◌, ◌%◌, ◌≤◌, ◌<◌}
use native.Mathlib.Omega.{arith}
use native.Mathlib.Nat.{le_trans, eq-or-lt_of_le}
use lib.Dec.{eqb, ltb}
use lib.ListN.{length, get_or, set, length-set}
use lib.Seq.{get_or-set_same, get_or-set_other}
use borrow.Author.Tests.{eqb-true, eq-eqb, ltb-true, ltb-false}
use Rattle.common.specs.Packets.{Packet, bit, Set}
use Rattle.common.specs.Outcome.{Outcome, refused, given, Gives, refusal, gives}
use Rattle.common.specs.Runs.{Table, StableResult}
use Rattle.common.proofs.Runs.{StableSpec, runs_map}
use Rattle.sp_steps.specs.Word.{flip}
use Rattle.sp_steps.proofs.Word.{flip_half, flip_mod, flip_flip, halves}
use Rattle.sp_steps.specs.Model.{kid, child, mem, most, same, seek, room, put, handle, put_if, found_if, intern, mk}
use Rattle.sp_steps.specs.Wf.{WfIn, Ext, ValidAt, Denotes}
use Rattle.sp_steps.proofs.Laws.{theory_in, ext_refl, at_ext, mem_ext, child_ext, low_child, level_ext, at_half, at_flip_by}
use Rattle.sp_steps.specs.Make.{side, Missing, Short}

and_left : (a b : Bool) → (a && b) ≡ true → a ≡ true
and_left true b e = refl
and_left false b e = e

and_right : (a b : Bool) → (a && b) ≡ true → b ≡ true
and_right true b e = e
and_right false b e = absurd (let z : ◌≡◌ {A = ℕ} 0 1 = cc in omega arith)

pub false_true : false ≡ true → ⊥
false_true e = let z : ◌≡◌ {A = ℕ} 0 1 = cc in omega arith

-- by the value of a test
pub by_test : {A : Type 0} (c : Bool) → (c ≡ true → A) → (c ≡ false → A) → A
by_test true f g = f refl
by_test false f g = g refl

-- ---- the search

pub same_kids : (t : List ℕ) (x y i : ℕ) → same t x y i ≡ true → (b : Bool) → kid t b i ≡ side b x y
unfolding same
same_kids t x y i e false = eqb-true _ _ (and_left (eqb (kid t false i) x) (eqb (kid t true i) y) e)
same_kids t x y i e true = eqb-true _ _ (and_right (eqb (kid t false i) x) (eqb (kid t true i) y) e)

pub kids_same : (t : List ℕ) (x y i : ℕ) → ((b : Bool) → kid t b i ≡ side b x y) → same t x y i ≡ true
unfolding same
kids_same t x y i k = ap₂ ◌&&◌ (eq-eqb (kid t false i) x (k false)) (eq-eqb (kid t true i) y (k true))

pub seek_yes : (t : List ℕ) (x y i k : ℕ) → same t x y i ≡ true → seek t x y i (suc k) ≡ i
unfolding seek
seek_yes t x y i k e = rw (e, seek)

pub seek_no : (t : List ℕ) (x y i k : ℕ) → same t x y i ≡ false → seek t x y i (suc k) ≡ seek t x y (suc i) k
unfolding seek
seek_no t x y i k e = rw (e, seek)

pub seek_none : (t : List ℕ) (x y i : ℕ) → seek t x y i zero ≡ i
unfolding seek
seek_none t x y i = refl

pub seek_hit : (t : List ℕ) (x y i k : ℕ) → seek t x y i k < i + k → same t x y (seek t x y i k) ≡ true
seek_hit t x y i zero l = absurd (omega (arith, seek_none t x y i))
seek_hit t x y i (suc k) l =
    by_test (same t x y i)
    (λ e. rw (seek_yes t x y i k e) e)
    (λ e. rw (seek_no t x y i k e) (seek_hit t x y (suc i) k (omega (arith, seek_no t x y i k e))))

pub seek_miss : (t : List ℕ) (x y i k : ℕ) → i + k ≤ seek t x y i k → (j : ℕ) → i ≤ j → j < i + k → same t x y j ≡ false
seek_miss t x y i zero l j a b = absurd (omega arith)
seek_miss t x y i (suc k) l j a b =
    by_test (same t x y i)
    (λ e. absurd (omega (arith, seek_yes t x y i k e)))
    (λ e. ⊎_elim (λ q. rw (← q) e) (λ q. seek_miss t x y (suc i) k (omega (arith, seek_no t x y i k e)) j q (omega arith)) (eq-or-lt_of_le a))

-- ---- a node more

put_len : (x y : ℕ) (σ : Table) → length (put x y σ).words ≡ length σ.words
unfolding put
put_len x y σ = simp length-set

put_other : (x y : ℕ) (σ : Table) (j : ℕ) → (j ≡ 2 * σ.count → ⊥) → (j ≡ 2 * σ.count + 1 → ⊥) → get_or (put x y σ).words j 0 ≡ get_or σ.words j 0
unfolding put
put_other x y σ j p q = get_or-set_other (set σ.words (2 * σ.count) x) (2 * σ.count + 1) j y 0 q ∙ get_or-set_other σ.words (2 * σ.count) j x 0 p

put_old : (x y : ℕ) (σ : Table) (b : Bool) (i : ℕ) → i < σ.count → kid (put x y σ).words b i ≡ kid σ.words b i
unfolding kid
put_old x y σ false i l = put_other x y σ (2 * i) (λ p. omega arith) (λ p. omega arith)
put_old x y σ true i l = put_other x y σ (2 * i + 1) (λ p. omega arith) (λ p. omega arith)

put_new : (x y : ℕ) (σ : Table) (b : Bool) → 2 * σ.count + 1 < length σ.words → kid (put x y σ).words b σ.count ≡ side b x y
unfolding put kid
put_new x y σ false l =
    get_or-set_other (set σ.words (2 * σ.count) x) (2 * σ.count + 1) (2 * σ.count) y 0 (omega arith)
    ∙ get_or-set_same σ.words (2 * σ.count) x 0 (omega arith)
put_new x y σ true l = get_or-set_same (set σ.words (2 * σ.count) x) (2 * σ.count + 1) y 0 (simp length-set (omega arith))

put_count : (x y : ℕ) (σ : Table) → (put x y σ).count ≡ σ.count + 1
unfolding put
put_count x y σ = refl

put_ext : (x y : ℕ) (σ : Table) → Ext σ (put x y σ)
put_ext x y σ = record {
  more = omega (arith, put_count x y σ);
  len = put_len x y σ;
  keep = λ b i l. put_old x y σ b i l;
  beyond = λ i l. put_other x y σ i (λ p. omega (arith, put_count x y σ)) (λ p. omega (arith, put_count x y σ));
}

split : {n i : ℕ} → i < n + 1 → (i ≡ n) ⊎ (i < n)
split l = eq-or-lt_of_le (omega arith)

at_side : (σ : Table) (d x y : ℕ) → ValidAt σ d x → ValidAt σ d y → (b : Bool) → ValidAt σ d (side b x y)
at_side σ d x y a c false = a
at_side σ d x y a c true = c

put_wf : {P : ℕ → Type 0} {N : ℕ} (d x y : ℕ) (σ : Table) → WfIn P N σ → P d → ValidAt σ d x → ValidAt σ d y → 2 * σ.count + 1 < length σ.words → σ.count < most → x % 2 ≡ 0
    → Missing σ x y → WfIn P N (put x y σ)
put_wf d x y σ w low at_x at_y l c z fresh = record {
  fits = omega (arith, put_len x y σ, put_count x y σ);
  small = omega (arith, put_count x y σ);
  even = λ i m. ⊎_elim
      (λ q. ap (λ (k : ℕ). k % 2) (ap (kid (put x y σ).words false) q ∙ put_new x y σ false l) ∙ z)
      (λ q. ap (λ (k : ℕ). k % 2) (put_old x y σ false i q) ∙ w.even i q) (at i m);
  once = λ i j m k e. ⊎_elim
      (λ p. ⊎_elim
      (λ q. p ∙ sym q)
      (λ q. absurd (fresh j q (λ b. sym (put_old x y σ b j q) ∙ sym (e b) ∙ ap (kid (put x y σ).words b) p ∙ put_new x y σ b l))) (at j k))
      (λ p. ⊎_elim
      (λ q. absurd (fresh i p (λ b. sym (put_old x y σ b i p) ∙ e b ∙ ap (kid (put x y σ).words b) q ∙ put_new x y σ b l)))
      (λ q. w.once i j p q (λ b. sym (put_old x y σ b i p) ∙ e b ∙ put_old x y σ b j q)) (at j k))
      (at i m);
  many = omega (arith, w.many, put_count x y σ);
  const = λ i m b. put_old x y σ b i (le_trans m w.many) ∙ w.const i m b;
  rising = λ b i m. ⊎_elim
      (λ q. omega (arith, q, ap (kid (put x y σ).words b) q ∙ put_new x y σ b l, at_half σ d (side b x y) (at_sides b)))
      (λ q. omega (arith, put_old x y σ b i q, w.rising b i q)) (at i m);
  level = λ i m. ⊎_elim
      (λ q. record {
        depth = d;
        low = low;
        children = λ b. subst (ValidAt (put x y σ) d) (sym (ap (kid (put x y σ).words b) q ∙ put_new x y σ b l)) (at_ext (put_ext x y σ) d (side b x y) (at_sides b));
      })
      (λ q. level_ext i (put_ext x y σ) q (w.level i q)) (at i m);
}
  where
    at_sides : (b : Bool) → ValidAt σ d (side b x y)
    at_sides b = at_side σ d x y at_x at_y b

    at : (i : ℕ) → i < (put x y σ).count → (i ≡ σ.count) ⊎ (i < σ.count)
    at i l = split (subst (λ (k : ℕ). i < k) (put_count x y σ) l)

pub room_fits : (σ : Table) → room σ ≡ true → (2 * σ.count + 1 < length σ.words) × (σ.count < most)
unfolding room
room_fits σ e =
    let a : σ.count < length σ.words / 2 = ltb-true _ _ (and_left (ltb σ.count (length σ.words / 2)) (ltb σ.count most) e) in
    let b : σ.count < most = ltb-true _ _ (and_right (ltb σ.count (length σ.words / 2)) (ltb σ.count most) e) in
    (omega arith, b)

-- ---- the handle

handle_low : (s i : ℕ) → s < 2 → handle s i % 2 ≡ s
handle_low s i l = flip_mod s (2 * i + 2) ∙ omega arith

handle_half : (s i : ℕ) → handle s i / 2 ≡ i + 1
handle_half s i = flip_half s (2 * i + 2) ∙ omega arith

handle_index : (s i : ℕ) → handle s i / 2 - 1 ≡ i
handle_index s i = omega (arith, handle_half s i)

child_at : (t : List ℕ) (b : Bool) (s i : ℕ) → s < 2 → child t b (handle s i) ≡ flip s (kid t b i)
unfolding child
child_at t b s i l = ap₂ (λ (s i : ℕ). flip s (kid t b i)) (handle_low s i l) (handle_index s i)

mod_lt : (x : ℕ) → x % 2 < 2
mod_lt x = omega arith

side_flip : (b : Bool) (s x y : ℕ) → flip s (side b (flip s x) (flip s y)) ≡ side b x y
side_flip false s x y = flip_flip s x
side_flip true s x y = flip_flip s y

kid_back : (t : List ℕ) (h s x : ℕ) (b : Bool) → child t b h ≡ x → s ≡ h % 2 → kid t b (h / 2 - 1) ≡ flip s x
unfolding child
kid_back t h s x b e q = sym (flip_flip s (kid t b (h / 2 - 1))) ∙ ap (flip s) (ap (λ (k : ℕ). flip k (kid t b (h / 2 - 1))) q ∙ e)

-- the handle whose children are at hand is found again
pub mk_again : {P : ℕ → Type 0} {N : ℕ} {σ : Table} (d h x0 x1 : ℕ) → WfIn P N σ → ValidAt σ (suc d) h → ((b : Bool) → child σ.words b h ≡ side b x0 x1) → mk x0 x1 σ ≡ given σ h
unfolding mk intern
mk_again {σ} d h x0 x1 w a k =
    by_test (ltb j n)
    (λ e. ap (λ (c : Bool). found_if c j s x y σ) e ∙ ap (given σ) (halves _ _ (flip_half s (2 * j + 2) ∙ index e) (flip_mod s (2 * j + 2) ∙ low_of)))
    (λ e. absurd (false_true (sym (seek_miss t x y 0 n (omega (arith, ltb-false j n e)) i (omega arith) (omega (arith, i_lt))) ∙ kids_same t x y i kids_i)))
  where
    t : List ℕ
    t = σ.words

    n : ℕ
    n = σ.count

    s : ℕ
    s = x0 % 2

    x : ℕ
    x = flip s x0

    y : ℕ
    y = flip s x1

    i : ℕ
    i = h / 2 - 1

    j : ℕ
    j = seek t x y 0 n

    i_lt : i < n
    i_lt = let l : 2 ≤ h = a.0 in let m : h / 2 ≤ n = a.1 in omega arith

    s_is : s ≡ h % 2
    s_is = ap (λ (k : ℕ). k % 2) (sym (k false)) ∙ low_child w h a.0 a.1

    kids_i : (b : Bool) → kid t b i ≡ side b x y
    kids_i false = kid_back t h s x0 false (k false) s_is
    kids_i true = kid_back t h s x1 true (k true) s_is

    j_i : ltb j n ≡ true → j ≡ i
    j_i e = w.once j i (ltb-true j n e) i_lt (λ b. same_kids t x y j (seek_hit t x y 0 n (omega (arith, ltb-true j n e))) b ∙ sym (kids_i b))

    index : ltb j n ≡ true → (2 * j + 2) / 2 ≡ h / 2
    index e = let l : 2 ≤ h = a.0 in omega (arith, j_i e)

    low_of : (2 * j + 2 + s) % 2 ≡ h % 2
    low_of = omega (arith, s_is)

-- ---- the law of mk

-- what holds of the handle that mk gives from σ
pub record Made (σ : Table) (d x0 x1 : ℕ) (τ : Table) (h : ℕ) : Type 0 where
  pub at : ValidAt τ (suc d) h
  pub kids : (b : Bool) → child τ.words b h ≡ side b x0 x1
  pub one_more : τ.count ≤ σ.count + 1

module _ {P : ℕ → Type 0} {N d x0 x1 : ℕ} {σ : Table} where
  -- node i of a later store has the stored children flip s x0 and flip s x1
  found : (τ : Table) (i s : ℕ) → Ext σ τ → τ.count ≤ σ.count + 1 → WfIn P N τ → ValidAt σ d x0 → ValidAt σ d x1 → s < 2 → i < τ.count
      → ((b : Bool) → kid τ.words b i ≡ side b (flip s x0) (flip s x1)) → StableResult (theory_in P N) (mk x0 x1) (Made σ d x0 x1) σ τ (handle s i)
  found τ i s e o w a0 a1 l m k = record {
    ext = e;
    wf = w;
    holds = record { at = at; kids = ks; one_more = o };
    stable = λ υ x v. mk_again d (handle s i) x0 x1 v (at_ext x (suc d) (handle s i) at) (λ b. child_ext x b (handle s i) at.0 at.1 ∙ ks b);
  }
    where
      ks : (b : Bool) → child τ.words b (handle s i) ≡ side b x0 x1
      ks b = child_at τ.words b s i l ∙ ap (flip s) (k b) ∙ side_flip b s x0 x1

      at : ValidAt τ (suc d) (handle s i)
      at = (omega (arith, handle_half s i), omega (arith, handle_half s i), λ b. subst (ValidAt τ d) (sym (ks b)) (at_ext e d _ (at_side σ d x0 x1 a0 a1 b)))

  pub mk_made : WfIn P N σ → P d → ValidAt σ d x0 → ValidAt σ d x1 → StableSpec (theory_in P N) (mk x0 x1) (Made σ d x0 x1) σ
  unfolding mk intern
  mk_made w low a0 a1 = at_test (ltb i n) refl
    where
      t : List ℕ
      t = σ.words

      n : ℕ
      n = σ.count

      s : ℕ
      s = x0 % 2

      x : ℕ
      x = flip s x0

      y : ℕ
      y = flip s x1

      i : ℕ
      i = seek t x y 0 n

      Is : Outcome Table ℕ → Type 0
      Is o = Gives (StableResult (theory_in P N) (mk x0 x1) (Made σ d x0 x1) σ) o

      at_room : ltb i n ≡ false → (c : Bool) → room σ ≡ c → Is (put_if c s x y σ)
      at_room e false r = refusal
      at_room e true r =
          let l : (2 * n + 1 < length t) × (n < most) = room_fits σ r in
          let miss : Missing σ x y = λ j m k. false_true (sym (seek_miss t x y 0 n (omega (arith, ltb-false i n e)) j (omega arith) (omega arith)) ∙ kids_same t x y j k) in
          gives (found (put x y σ) n s (put_ext x y σ) (omega (arith, put_count x y σ))
          (put_wf d x y σ w low (at_flip_by σ d x0 s (mod_lt x0) a0) (at_flip_by σ d x1 s (mod_lt x0) a1) l.0 l.1 (omega (arith, flip_mod s x0)) miss) a0 a1 (mod_lt x0) (omega (arith, put_count x y σ)) (λ b. put_new x y σ b l.0))

      at_test : (c : Bool) → ltb i n ≡ c → Is (found_if c i s x y σ)
      at_test true e =
          gives (found σ i s (ext_refl σ) (omega arith) w a0 a1 (mod_lt x0) (ltb-true i n e) (same_kids t x y i (seek_hit t x y 0 n (omega (arith, ltb-true i n e)))))
      at_test false e = at_room e (room σ) refl

-- the packets whose first bit is 0 as in S, and whose first bit is 1 as in T
abbrev pub node : {d : ℕ} → Set d → Set d → Set (suc d)
node S T (bit b p) = side b (S p) (T p)

made_den : {d x0 x1 : ℕ} {σ τ : Table} {h : ℕ} {S T : Set d} → Ext σ τ → Denotes σ d x0 S → Denotes σ d x1 T → Made σ d x0 x1 τ h → Denotes τ (suc d) h (node S T)
unfolding mem
made_den {d} {x0} {x1} {σ} {τ} {h} {S} {T} e D E m = record { at = m.at; means = means }
  where
    of : (b : Bool) (p : Packet d) → mem τ.words d (side b x0 x1) p ≡ side b (S p) (T p)
    of false p = mem_ext e d x0 p D.at ∙ D.means p
    of true p = mem_ext e d x1 p E.at ∙ E.means p

    means : (p : Packet (suc d)) → mem τ.words (suc d) h p ≡ node S T p
    means (bit b p) = ap (λ (k : ℕ). mem τ.words d k p) (m.kids b) ∙ of b p

pub mk_runs : {P : ℕ → Type 0} {N d x0 x1 : ℕ} {σ : Table} {S T : Set d} → WfIn P N σ → P d → Denotes σ d x0 S → Denotes σ d x1 T
    → StableSpec (theory_in P N) (mk x0 x1) (λ τ h. Denotes τ (suc d) h (node S T)) σ
mk_runs {P} {N} w low D E = runs_map (theory_in P N) (λ τ h e v m. made_den e D E m) (mk_made w low D.at E.at)

refused_same : {number other : ℕ} → ◌≡◌ {A = Outcome Table ℕ} (refused number) (refused other) → number ≡ other
refused_same e = cc

given_refused : {number h : ℕ} {σ : Table} → ◌≡◌ {A = Outcome Table ℕ} (given σ h) (refused number) → ⊥
given_refused e = let z : ◌≡◌ {A = ℕ} 0 1 = cc in omega arith

module _ (x0 x1 : ℕ) (σ : Table) where
  t : List ℕ
  t = σ.words

  n : ℕ
  n = σ.count

  s : ℕ
  s = x0 % 2

  x : ℕ
  x = flip s x0

  y : ℕ
  y = flip s x1

  i : ℕ
  i = seek t x y 0 n

  pub mk_refused : (number : ℕ) → mk x0 x1 σ ≡ refused number → (number ≡ 20) × Short x0 x1 σ
  unfolding mk intern t n s x y i
  mk_refused number q = at_test (ltb i n) refl q
    where
      at_room : ltb i n ≡ false → (c : Bool) → room σ ≡ c → put_if c s x y σ ≡ refused number → (number ≡ 20) × Short x0 x1 σ
      at_room e true r z = absurd (given_refused z)
      at_room e false r z = (
        sym (refused_same z),
        record {
          missing = λ j m k. false_true (sym (seek_miss t x y 0 n (omega (arith, ltb-false i n e)) j (omega arith) (omega arith)) ∙ kids_same t x y j k);
          no_room = r;
        },
      )

      at_test : (c : Bool) → ltb i n ≡ c → found_if c i s x y σ ≡ refused number → (number ≡ 20) × Short x0 x1 σ
      at_test true e z = absurd (given_refused z)
      at_test false e z = at_room e (room σ) refl z

  pub mk_short : Short x0 x1 σ → mk x0 x1 σ ≡ refused 20
  unfolding mk intern t n s x y i
  mk_short h =
      by_test (ltb i n)
      (λ e. absurd (h.missing i (ltb-true i n e) (same_kids t x y i (seek_hit t x y 0 n (omega (arith, ltb-true i n e))))))
      (λ e. ap (λ (c : Bool). found_if c i s x y σ) e ∙ ap (λ (c : Bool). put_if c s x y σ) h.no_room)

-- Pending entries as a stack of words, and seen sets as words of the states: what is written and read.
use Rattle.std.specs.Prelude.{if◌then◌else◌}
use mathlib.Core.Path.{◌≡◌, refl, sym, ◌∙◌, ap, ap₂, subst, fun_ext}
use mathlib.Core.Bool.{Bool}
use mathlib.Core.Logic.{⊎_elim}
use mathlib.Core.List.Memᴰ
use mathlib.Core.List.{List, [], ◌∷◌}
use Prim.Native.Nat.{ℕ, zero, suc, ◌+◌, ◌*◌, ◌-◌, ◌/◌, ◌≤◌, ◌<◌}
use native.Mathlib.Omega.{arith}
use lib.Dec.{eqb}
use lib.ListN.{length, get_or, set, length-set, drop, replicate, length-replicate, get_or-replicate}
use Rattle.std.proofs.lemmas.List.{length-take-le, get_or_append_left, get_or-append_right, get_or-drop}
use lib.Seq.{get_or-set_same, get_or-set_other}
use borrow.Rule.Slice.PartMut.{put_mid, mid_of}
use borrow.Author.Tests.{eqb-true, eqb-false, ne_eqb}
use Rattle.common.specs.Outcome.{Outcome, refused, given, Step, after}
use Rattle.common.specs.Runs.{Table}
use Rattle.netkat_steps.specs.Handles.{Entry}
use Rattle.sp_steps.specs.Model as Sp
use Rattle.sp_steps.specs.Wf as SpLaws
use Rattle.sp_steps.proofs.Laws as SpLawsProofs
use Rattle.spp_steps.proofs.Laws.{by_test}
use Rattle.aut_steps.specs.Wf.{states}
use Rattle.aut_steps.proofs.Wf.{state_grown}
use Rattle.aut_query_steps.specs.Tables.{Tables, ExtTables}
use Rattle.aut_query_steps.specs.Search.{capacity}
use Rattle.aut_query_steps.specs.Pending.{Pending, Entries}
use Rattle.aut_query_calls.specs.Lent.{tables_in}
use Rattle.aut_relations.specs.declared.Aut.{Aut as Lent}
use Rattle.aut_sets.specs.Lent.{OnlyMarks}
use Rattle.aut_empty_words.specs.Words.{entry_at, entries_of, seen_in, Stack, Emptied}

-- one step after two others
pub after_after : {S A B X : Type 0} (o : Outcome S A) (f : A → Step S B) (g : B → Step S X) → after (after o f) g ≡ after o (λ a σ. after (f a σ) g)
after_after (refused e) f g = refl
after_after (given σ a) f g = refl

-- ---- entries

pub entries_same : (p p' : List ℕ) (n : ℕ) → ((j : ℕ) → j < 2 * n → get_or p' j 0 ≡ get_or p j 0) → entries_of p' n ≡ entries_of p n
unfolding entries_of
entries_same p p' zero f = refl
entries_same p p' (suc n) f =
    ap₂ (λ (a b : ℕ). record { state = a; packets = b } ∷ entries_of p' n) (f (2 * n) (omega arith)) (f (2 * n + 1) (omega arith))
    ∙ ap (λ (es : List (Entry ℕ)). entry_at p n ∷ es) (entries_same p p' n (λ j l. f j (omega arith)))

pub entries_length : (p : List ℕ) (n : ℕ) → length (entries_of p n) ≡ n
unfolding entries_of
entries_length p zero = refl
entries_length p (suc n) = ap suc (entries_length p n)

entries_suc : (p : List ℕ) (n : ℕ) → entries_of p (suc n) ≡ entry_at p n ∷ entries_of p n
unfolding entries_of
entries_suc p n = refl

pub entries_pop : (p : List ℕ) (n : ℕ) → 0 < n → entries_of p n ≡ entry_at p (n - 1) ∷ entries_of p (n - 1)
entries_pop p n l = ap (entries_of p) {x = n} {y = suc (n - 1)} (omega arith) ∙ entries_suc p (n - 1)

pub entries_none : (p : List ℕ) (n : ℕ) → n ≤ 0 → entries_of p n ≡ []
unfolding entries_of
entries_none p n l = ap (entries_of p) {x = n} {y = zero} (omega arith)

module _ (p : List ℕ) (n t h : ℕ) (l : 2 * n + 1 < length p) where
  abbrev q : List ℕ
  q = set (set p (2 * n) t) (2 * n + 1) h

  under : (j : ℕ) → j < 2 * n → get_or q j 0 ≡ get_or p j 0
  under j k = get_or-set_other (set p (2 * n) t) (2 * n + 1) j h 0 (λ e. omega arith) ∙ get_or-set_other p (2 * n) j t 0 (λ e. omega arith)

  pub entries_put : entries_of q (n + 1) ≡ record { state = t; packets = h } ∷ entries_of p n
  entries_put =
      ap (entries_of q) {x = n + 1} {y = suc n} (omega arith) ∙ entries_suc q n
      ∙ ap₂ (λ (a b : ℕ). record { state = a; packets = b } ∷ entries_of q n)
      (get_or-set_other (set p (2 * n) t) (2 * n + 1) (2 * n) h 0 (λ e. omega arith) ∙ get_or-set_same p (2 * n) t 0 (omega arith))
      (get_or-set_same (set p (2 * n) t) (2 * n + 1) h 0 (simp length-set (omega arith)))
      ∙ ap (λ (es : List (Entry ℕ)). record { state = t; packets = h } ∷ es) (entries_same p q n under)

  put_length : length q ≡ length p
  put_length = simp length-set

  pub stack_put : {N : ℕ} {σ : Tables} → Stack N σ p n → t < states σ.base.aut → SpLaws.ValidAt σ.sets N h → Stack N σ q (n + 1)
  stack_put {N} {σ} S k a = record {
    entries = subst (Entries N σ) (sym entries_put) (λ e m. ⊎_elim (λ i. subst (Pending N σ) (sym i) (record { known = k; at = a })) (λ i. S.entries e i) (Memᴰ.cases_cons m));
    room = omega (arith, put_length);
    idle = λ j i. get_or-set_other (set p (2 * n) t) (2 * n + 1) j h 0 (λ e. omega arith) ∙ get_or-set_other p (2 * n) j t 0 (λ e. omega arith) ∙ S.idle j (omega arith);
  }

pub entries_later : {N : ℕ} {σ τ : Tables} {es : List (Entry ℕ)} → ExtTables σ τ → Entries N σ es → Entries N τ es
entries_later {N} w f e m = record { known = state_grown w.grown (f e m).known; at = SpLawsProofs.at_ext w.sets N e.packets (f e m).at }

pub stack_later : {N : ℕ} {σ τ : Tables} {p : List ℕ} {n : ℕ} → ExtTables σ τ → Stack N σ p n → Stack N τ p n
stack_later {N} {σ} {τ} {p} {n} w S = record { entries = entries_later {es = entries_of p n} w S.entries; room = S.room; idle = S.idle }

-- the last entry is taken
module _ {N : ℕ} {σ : Tables} {p : List ℕ} {n : ℕ} (S : Stack N σ p n) (l : 0 < n) where
  abbrev taken : List ℕ
  taken = set (set p (2 * (n - 1)) 0) (2 * (n - 1) + 1) 0

  pub top : Pending N σ (entry_at p (n - 1))
  top = subst (Entries N σ) (entries_pop p n l) S.entries (entry_at p (n - 1)) (Memᴰ.head refl)

  pub taken_rest : entries_of taken (n - 1) ≡ entries_of p (n - 1)
  taken_rest = entries_same p taken (n - 1) (λ j k. get_or-set_other (set p (2 * (n - 1)) 0) (2 * (n - 1) + 1) j 0 0 (λ e. omega arith) ∙ get_or-set_other p (2 * (n - 1)) j 0 0 (λ e. omega arith))

  pub taken_length : length taken ≡ length p
  taken_length = simp length-set

  zeroed : (j : ℕ) → 2 * (n - 1) ≤ j → get_or taken j 0 ≡ 0
  zeroed j k = by_test (eqb j (2 * (n - 1) + 1))
      (λ b. subst (λ (i : ℕ). get_or taken i 0 ≡ 0) (sym (eqb-true j (2 * (n - 1) + 1) b)) (get_or-set_same (set p (2 * (n - 1)) 0) (2 * (n - 1) + 1) 0 0 (simp length-set (omega (arith, S.room)))))
      (λ b. get_or-set_other (set p (2 * (n - 1)) 0) (2 * (n - 1) + 1) j 0 0 (eqb-false j (2 * (n - 1) + 1) b) ∙ by_test (eqb j (2 * (n - 1)))
      (λ d. subst (λ (i : ℕ). get_or (set p (2 * (n - 1)) 0) i 0 ≡ 0) (sym (eqb-true j (2 * (n - 1)) d)) (get_or-set_same p (2 * (n - 1)) 0 0 (omega (arith, S.room))))
      (λ d. get_or-set_other p (2 * (n - 1)) j 0 0 (eqb-false j (2 * (n - 1)) d) ∙ S.idle j (omega (arith, eqb-false j (2 * (n - 1) + 1) b, eqb-false j (2 * (n - 1)) d))))

  pub stack_pop : Stack N σ taken (n - 1)
  stack_pop = record {
    entries = subst (Entries N σ) (sym taken_rest) (λ e m. subst (Entries N σ) (entries_pop p n l) S.entries e (Memᴰ.tail m));
    room = omega (arith, S.room, taken_length);
    idle = zeroed;
  }

-- the first n entries are zeroed
pub emptied : {p ys : List ℕ} {n k : ℕ} → k ≡ 2 * n → 2 * n ≤ length p → ys ≡ replicate (length (mid_of 0 k p)) 0 → Emptied p n (put_mid 0 k p ys)
emptied {p} {ys} {n} {k} q l e = record {
  zero = λ j a. get_or_append_left ys (drop k p) 0 j (omega (arith, len, q)) ∙ ap (λ (z : List ℕ). get_or z j 0) whole ∙ get_or-replicate {A = ℕ} k j 0 0 (omega (arith, q));
  beyond = λ j a. get_or-append_right ys (drop k p) k j 0 len (omega (arith, q)) ∙ get_or-drop k p (j - k) 0 ∙ ap (λ (i : ℕ). get_or p i 0) {x = k + (j - k)} {y = j} (omega (arith, q));
}
  where
    whole : ys ≡ replicate k 0
    whole = e ∙ ap (λ (k : ℕ). replicate k 0) (length-take-le k p (omega (arith, q)))

    len : length ys ≡ k
    len = ap length whole ∙ length-replicate {A = ℕ} k 0

-- ---- capacity

pub fits_in : (p : List ℕ) (n : ℕ) → n < capacity (length p / 2) → 2 * n + 1 < length p
fits_in p n l = omega arith

-- ---- seen sets

pub seen_same : (N : ℕ) (st st' : List ℕ) → ((x : ℕ) → get_or st' (12 * x + 8) 0 ≡ get_or st (12 * x + 8) 0) → seen_in N st' ≡ seen_in N st
unfolding seen_in
seen_same N st st' f = fun_ext (λ x. ap (λ (w : ℕ). if eqb w 0 then Sp.zero_at N else w - 1) (f x))

pub seen_none : (N : ℕ) (st : List ℕ) → ((x : ℕ) → get_or st (12 * x + 8) 0 ≡ 0) → seen_in N st ≡ (λ x. Sp.zero_at N)
unfolding seen_in
seen_none N st f = fun_ext (λ x. ap (λ (w : ℕ). if eqb w 0 then Sp.zero_at N else w - 1) (f x))

pub seen_set : (N : ℕ) (st : List ℕ) (x h : ℕ) → 12 * x + 8 < length st → seen_in N (set st (12 * x + 8) (h + 1)) ≡ (λ y. if eqb x y then h else seen_in N st y)
unfolding seen_in
seen_set N st x h l = fun_ext (λ y. by_test (eqb x y)
    (λ b. subst (λ (z : ℕ). seen_in N (set st (12 * x + 8) (h + 1)) z ≡ h) (eqb-true x y b) (ap (λ (w : ℕ). if eqb w 0 then Sp.zero_at N else w - 1) (get_or-set_same st (12 * x + 8) (h + 1) 0 l) ∙ here)
    ∙ sym (ap (λ (c : Bool). if c then h else seen_in N st y) b))
    (λ b. ap (λ (w : ℕ). if eqb w 0 then Sp.zero_at N else w - 1) (get_or-set_other st (12 * x + 8) (12 * y + 8) (h + 1) 0 (λ e. eqb-false x y b (omega arith)))
    ∙ sym (ap (λ (c : Bool). if c then h else seen_in N st y) b)))
  where
    here : (if eqb (h + 1) 0 then Sp.zero_at N else (h + 1) - 1) ≡ h
    here = ap (λ (b : Bool). if b then Sp.zero_at N else (h + 1) - 1) (ne_eqb (h + 1) 0 (λ e. omega arith)) ∙ omega arith

-- ---- all tables

-- the states were not written: all tables are as they were
pub same_tables : {x y : Lent} → OnlyMarks x y → y.states ≡ x.states → tables_in y ≡ tables_in x
same_tables K e = rw K.sp (rw K.spp (rw e (rw K.members (rw K.transitions refl))))

-- a set's handle is small
pub set_small : {N : ℕ} {t : Table} → SpLaws.Wf N t → (d h : ℕ) → SpLaws.ValidAt t d h → h < 33554434
set_small w zero h a = omega arith
set_small w (suc d) h a = omega (arith, a.1, w.small)

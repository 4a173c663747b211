-- A list's words copied behind the transitions in use, then words 5 and 6 of its state: that is keep_list. Without room it is 25.
use Rattle.std.specs.Prelude.{if◌then◌else◌, Result, Err}
use mathlib.Core.Path.{◌≡◌, refl, sym, ◌∙◌, ap, ap₂, subst}
use mathlib.Core.Bool.{Bool, true, false, ◌&&◌}
use mathlib.Core.List.{List, [], ◌∷◌}
use mathlib.Core.Logic.{◌⊎◌, inl, inr}
use Prim.Native.Nat.{ℕ, ◌+◌, ◌-◌, ◌*◌, ◌/◌, ◌≤◌, ◌<◌}
use native.Mathlib.Omega.{arith}
use lib.Dec.{leb}
use lib.ListN.{length, set, take, drop}
use lib.Seq.{sets}
use borrow.Author.Tests.{le-leb, lt-leb}
use borrow.Rule.Slice.PartMut.{put_mid}
use Rattle.common.specs.Outcome.{refused, given}
use Rattle.common.specs.Runs.{Table, table}
use Rattle.netkat_steps.specs.ListSteps.{Edge}
use Rattle.refusal.specs.declared.Refusal.{Refusal}
use Rattle.refusal.specs.Numbers.{number_of, outcome}
use Rattle.aut_steps.specs.Tables.{words, aut}
use Rattle.aut_states.proofs.Slices.{words_take, pasted}
use Rattle.aut_st_steps.specs.Edges.{edges}
use Rattle.aut_st_steps.proofs.Places.{edges_length}
use Rattle.aut_delta_steps.specs.Epsilon.{set_word}
use Rattle.aut_delta_steps.specs.Delta.{Store, store, transition_cap, room_t, append, keep_list}
use Rattle.aut_delta_stage.proofs.Copied.{flat_edges}
use Rattle.aut_st_edges.specs.Clauses.{listed}
use Rattle.aut_st_edges.proofs.Parts.{part_listed}
use Rattle.aut_st_insert.specs.Clauses.{RESULT}
use Rattle.aut_delta_keep.specs.Clauses.{Appended}

and_false : (b : Bool) → (b && false) ≡ false
and_false true = refl
and_false false = refl

-- ---- the list behind the transitions in use

whole : (xs : List ℕ) → take (length xs) xs ≡ xs
whole [] = refl
whole (x ∷ xs) = ap (λ (r : List ℕ). x ∷ r) (whole xs)

-- z is what lies from m on, of a list of whole records
pub copied : (d xs : List ℕ) (m : ℕ) {z : List ℕ} → z ≡ xs → 2 * (length xs / 2) ≡ length xs → m + length xs ≤ length d → sets d m (words xs 0 (2 * (length xs / 2))) ≡ put_mid m (m + length xs - m) d z
copied d xs m {z} e q l =
    ap (sets d m) (ap (words xs 0) q ∙ words_take xs 0 (length xs) (omega arith) ∙ whole xs)
    ∙ pasted d z xs m (length xs) e refl l

module _ (tr s : List ℕ) (n m : ℕ) where
  abbrev es : List Edge
  es = edges s 0 m

  len : length es ≡ m
  len = edges_length s 0 m

  room_is : {b : Bool} → room_t (table tr n) m ≡ b → room_t (table tr n) (length es) ≡ b
  room_is e = ap (room_t (table tr n)) len ∙ e

  pub no_room : (length tr / 2 < n + m) ⊎ ((n + m ≤ length tr / 2) × (transition_cap < n + m)) → room_t (table tr n) (length es) ≡ false
  unfolding room_t
  no_room (inl h) = room_is (ap (λ (b : Bool). b && leb (n + m) transition_cap) (lt-leb (n + m) (length tr / 2) h))
  no_room (inr h) = room_is (ap (λ (b : Bool). leb (n + m) (length tr / 2) && b) (lt-leb (n + m) transition_cap h.1) ∙ and_false (leb (n + m) (length tr / 2)))

  pub appended : n + m ≤ length tr / 2 → n + m ≤ transition_cap → {tr' : List ℕ} → sets tr (2 * n) (words s 0 (2 * m)) ≡ tr' → Appended es (table tr n) (table tr' (n + m))
  unfolding room_t append
  appended a b e = record {
    room = room_is (ap₂ ◌&&◌ (le-leb (n + m) (length tr / 2) a) (le-leb (n + m) transition_cap b));
    cap = subst (λ (k : ℕ). n + k ≤ transition_cap) (sym len) b;
    is = ap₂ (λ (u : List ℕ) (k : ℕ). table u (n + k)) (ap (sets tr (2 * n)) (flat_edges s 0 m) ∙ e) len;
  }

-- ---- the step, with the nodes t, the states st and the members mem

-- the part of scratch that is lent
module _ (s : List ℕ) (m : ℕ) (l : 2 * (RESULT + m) ≤ length s) where
  abbrev pub lent : List ℕ
  lent = take (2 * (RESULT + m) - 2 * RESULT) (drop (2 * RESULT) s)

  pub lent_is : listed lent ≡ edges s RESULT m
  lent_is = part_listed s RESULT m (2 * (RESULT + m) - 2 * RESULT) (omega arith) l

  pub many : length (listed lent) ≡ m
  many = ap length lent_is ∙ edges_length s RESULT m

module _ (x : ℕ) (t mem tr : Table) (st : List ℕ) (c : ℕ) (s : List ℕ) (m : ℕ) (l : 2 * (RESULT + m) ≤ length s) where
  abbrev list : List Edge
  list = edges s RESULT m

  no_place : (e : Refusal) → (room_t tr (length list) ≡ false) × (number_of e ≡ 25) → keep_list x list (store (aut t (table st c) mem) tr) ≡ refused (number_of e)
  unfolding keep_list set_word append
  no_place e p =
      ap (λ (b : Bool). if b then given (store (aut t (table (set (set st (12 * x + 5) tr.count) (12 * x + 6) (length list + 1)) c) mem) (append list tr)) list else refused 25) p.0
      ∙ ap (λ (k : ℕ). refused k) (sym p.1)

  pub stuck : {V : Type 0} (see : V → List Edge) (υ : Store) {r : Result V Refusal} {e : Refusal} → r ≡ Err e → (room_t tr (length (listed (lent s m l))) ≡ false) × (number_of e ≡ 25) → keep_list x list (store (aut t (table st c) mem) tr) ≡ outcome see r υ
  stuck see υ {e = e} q p = no_place e (ap (λ (es : List Edge). room_t tr (length es)) (sym (lent_is s m l)) ∙ p.0, p.1) ∙ sym (ap (λ (r : Result _ Refusal). outcome see r υ) q)

  pub stored : {tr' : Table} → Appended (listed (lent s m l)) tr tr' → keep_list x list (store (aut t (table st c) mem) tr) ≡ given (store (aut t (table (set (set st (12 * x + 5) tr.count) (12 * x + 6) (m + 1)) c) mem) tr') list
  unfolding keep_list set_word append
  stored {tr' = tr'} p =
      let a = subst (λ (es : List Edge). Appended es tr tr') (lent_is s m l) p in
      ap (λ (b : Bool). if b then given (store (aut t (table (set (set st (12 * x + 5) tr.count) (12 * x + 6) (length list + 1)) c) mem) (append list tr)) list else refused 25) a.room
      ∙ ap₂ (λ (k : ℕ) (u : Table). given (store (aut t (table (set (set st (12 * x + 5) tr.count) (12 * x + 6) (k + 1)) c) mem) u) list) (edges_length s RESULT m) a.is

-- Interning again finds the state that stands: no two states are equal, so the search ends at this very one.
use Rattle.std.specs.Prelude.{if◌then◌else◌}
use mathlib.Core.Path.{◌≡◌, refl, sym, ◌∙◌, ap, ap₂, subst}
use mathlib.Core.Bool.{Bool, true, false}
use mathlib.Core.List.{List, [], ◌∷◌}
use Prim.Native.Nat.{ℕ, ◌+◌, ◌≤◌, ◌<◌, max}
use native.Mathlib.Omega.{arith}
use lib.Dec.{ltb}
use lib.ListN.{length}
use lib.Seq.{length-sets}
use borrow.Author.Tests.{ltb-true, ltb-false, lt-ltb}
use Rattle.common.specs.Outcome.{Outcome, refused, given, Step}
use Rattle.common.specs.Runs.{Table, table, placed}
use Rattle.netkat.specs.Rules.{Rule, Rules}
use Rattle.spp_steps.proofs.Laws.{by_test}
use Rattle.aut_steps.specs.Tables.{op1, op2, nest, words, Limits, room_s, room_m, put4, exprs, Aut, put_states, put_exprs, on_states, on_exprs}
use Rattle.aut_steps.specs.Intern.{seek, same2, same_l, put, intern0, intern1, intern2, nest_l, store, put_l, intern_l}
use Rattle.aut_steps.specs.Kinds.{Form, leaf, constant, one, two, many, nothing, form, operands_by}
use Rattle.aut_steps.proofs.Facts.{seek_hit, seek_miss, Is2, same2_is, is_same2, IsL, same_l_is, is_same_l, sets_below, sets_above, words_sets, room_state, room_members}
use Rattle.aut_steps.specs.Wf.{states, kind, ExtM, Ok, WfAut, operands}
use Rattle.aut_steps.proofs.Wf.{extm_refl, grown_refl, ok_as}
use Rattle.aut_steps.proofs.StepSpec.{plus, grown_plus, memos_plus, kind_plus, first_plus, second_plus}
use Rattle.aut_steps.proofs.InternLaws.{State2, StateL}
use Rattle.aut_replay.specs.Replay.{Later, Again, Replays, stops, comes}
use Rattle.aut_replay.proofs.Runs.{kind_later, first_later, second_later, members_later}

-- the first of which f holds is z, if f holds of no other
seek_only : (f : ℕ → Bool) (n z : ℕ) → z < n → f z ≡ true → ((i : ℕ) → i < n → f i ≡ true → i ≡ z) → seek f 0 n ≡ z
seek_only f n z l t only =
    by_test (ltb (seek f 0 n) n)
    (λ q. let m : seek f 0 n < n = ltb-true (seek f 0 n) n q in only (seek f 0 n) m (seek_hit f 0 n (omega arith)))
    (λ q. absurd (seek_miss f 0 n (omega (arith, ltb-false (seek f 0 n) n q)) z (omega arith) (omega arith) t))

-- operands by two words
by_words_lem : {N : ℕ} (f : Form N) (st m : List ℕ) (i z : ℕ) → op1 st i ≡ op1 st z → op2 st i ≡ op2 st z → operands_by f st m i ≡ operands_by f st m z
by_words_lem leaf st m i z p q = ap₂ (λ (a b : ℕ). a ∷ b ∷ []) p q
by_words_lem (constant r) st m i z p q = ap₂ (λ (a b : ℕ). a ∷ b ∷ []) p q
by_words_lem (one c) st m i z p q = ap₂ (λ (a b : ℕ). a ∷ b ∷ []) p q
by_words_lem (two c) st m i z p q = ap₂ (λ (a b : ℕ). a ∷ b ∷ []) p q
by_words_lem (many c) st m i z p q = ap₂ (words m) p q
by_words_lem nothing st m i z p q = refl

module _ {N : ℕ} {L : Limits} {υ : Aut} (g : WfAut N L υ) where
  -- two states of one kind whose operands are the same, in one of the two ways
  one_state : (i z : ℕ) → i < states υ → z < states υ → kind υ i ≡ kind υ z
      → operands_by (form {N = N} (kind υ z)) υ.states.words υ.members.words i ≡ operands N υ z → i ≡ z
  one_state i z l m e q = g.once i z l m e (ap (λ (k : ℕ). operands_by (form {N = N} k) υ.states.words υ.members.words i) e ∙ q)

  find2 : (k x y z : ℕ) → State2 k x y υ z → seek (same2 υ.states.words k x y) 0 (states υ) ≡ z
  find2 k x y z s =
      seek_only (same2 υ.states.words k x y) (states υ) z s.state (is_same2 υ.states.words k x y z s.is) (λ i l t.
      let j : Is2 υ.states.words k x y i = same2_is υ.states.words k x y i t in
      one_state i z l s.state (j.kind ∙ sym s.is.kind) (by_words_lem (form (kind υ z)) υ.states.words υ.members.words i z (j.first ∙ sym s.is.first) (j.second ∙ sym s.is.second)))

  find_l : (k : ℕ) (c : Rules N → Rule N) → form {N = N} k ≡ many c → (xs : List ℕ) (z : ℕ) → StateL k xs υ z → seek (same_l υ.states.words υ.members.words k xs) 0 (states υ) ≡ z
  find_l k c q xs z s =
      seek_only (same_l υ.states.words υ.members.words k xs) (states υ) z s.state (is_same_l υ.states.words υ.members.words k xs z s.is) (λ i l t.
      let j : IsL υ.states.words υ.members.words k xs i = same_l_is υ.states.words υ.members.words k xs i t in
      one_state i z l s.state (j.kind ∙ sym s.is.kind) (listed i ∙ j.list ∙ sym s.is.list ∙ sym (listed z)))
    where
      listed : (i : ℕ) → operands_by (form {N = N} (kind υ z)) υ.states.words υ.members.words i ≡ words υ.members.words (op1 υ.states.words i) (op2 υ.states.words i)
      listed i = ap (λ (f : Form N). operands_by f υ.states.words υ.members.words i) (ap (form {N = N}) s.is.kind ∙ q)

  -- what is found is returned
  hit : {S : Type 0} (put : S → Aut → Aut) (s : S) (i z : ℕ) (o : Outcome S ℕ) → put s υ ≡ υ → i ≡ z → z < states υ → placed put υ (if ltb i (states υ) then given s i else o) ≡ given υ z
  hit put s i z o p e l =
      ap (λ (b : Bool). placed put υ (if b then given s i else o)) (lt-ltb i (states υ) (omega (arith, e))) ∙ ap₂ (λ (τ : Aut) (j : ℕ). given τ j) p e

-- ---- the same state in later tables

state2_later : {k x y z : ℕ} {τ υ : Aut} → Later τ υ → State2 k x y τ z → State2 k x y υ z
state2_later {z = z} w s = record {
  state = omega (arith, w.more, s.state);
  is = record { kind = kind_later w z s.state ∙ s.is.kind; first = first_later w z s.state ∙ s.is.first; second = second_later w z s.state ∙ s.is.second };
}

module _ {N : ℕ} {L : Limits} {τ : Aut} where
  pub intern0_again : (k x z : ℕ) → State2 k x 0 τ z → Again N L (on_states (intern0 k x)) τ z
  unfolding intern0
  intern0_again k x z s = record { same = λ υ w v. let t = state2_later w s in hit v put_states υ.states _ z _ refl (find2 v k x 0 z t) t.state }

  pub intern1_again : (k x z : ℕ) → State2 k x 0 τ z → Again N L (on_states (intern1 L k x)) τ z
  unfolding intern1
  intern1_again k x z s = record { same = λ υ w v. let t = state2_later w s in hit v put_states υ.states _ z _ refl (find2 v k x 0 z t) t.state }

  pub intern2_again : (k x y z : ℕ) → State2 k x y τ z → Again N L (on_states (intern2 L k x y)) τ z
  unfolding intern2
  intern2_again k x y z s = record { same = λ υ w v. let t = state2_later w s in hit v put_states υ.states _ z _ refl (find2 v k x y z t) t.state }

  -- a list that lies among the members
  pub intern_l_again : (k : ℕ) (c : Rules N → Rule N) → form {N = N} k ≡ many c → (xs : List ℕ) (z : ℕ) → StateL k xs τ z
      → op1 τ.states.words z + op2 τ.states.words z ≤ τ.members.count → Again N L (on_exprs (intern_l L k xs)) τ z
  unfolding intern_l
  intern_l_again k c q xs z s inside = record {
    same = λ υ w v.
        let t : StateL k xs υ z = record {
          state = omega (arith, w.more, s.state);
          is = record { kind = kind_later w z s.state ∙ s.is.kind; list = members_later w z s.state inside ∙ s.is.list };
        } in
        hit v put_exprs (exprs υ.states υ.members) _ z _ refl (find_l v k c q xs z t) t.state;
  }

-- any state
abbrev pub Some : Aut → ℕ → Type 0
Some τ z = Unit {0}

-- ---- a state, whatever its operands

module _ {N : ℕ} {L : Limits} {σ : Aut} (g : WfAut N L σ) (k x y : ℕ) where
  abbrev Finds : Limits → Step Table ℕ → Type 0
  Finds L' step = (τ : Aut) (z : ℕ) → State2 k x y τ z → Again N L' (on_states step) τ z

  put_finds : {L' : Limits} (step : Step Table ℕ) → Finds L' step → (e : ℕ) → Replays N L' Some (on_states step) σ (placed put_states σ (put k x y e σ.states))
  unfolding put
  put_finds {L'} step f e = go (room_s σ.states) refl
    where
      m : ExtM σ.members σ.members
      m = extm_refl σ.members

      go : (b : Bool) → room_s σ.states ≡ b → Replays N L' Some (on_states step) σ (placed put_states σ (if b then given (table (put4 σ.states.words (states σ) k x y e) (states σ + 1)) (states σ) else refused 22))
      go false q = stops
      go true q =
          let (room, cap) = room_state σ.states q in
          comes (grown_plus g k x y e σ.members m room) (memos_plus g k x y e σ.members m room) tt
          (f (plus g k x y e σ.members m room) (states σ) (record {
            state = omega arith;
            is = record { kind = kind_plus g k x y e σ.members m room; first = first_plus g k x y e σ.members m room; second = second_plus g k x y e σ.members m room };
          }))

  seek_finds : {L' : Limits} (step : Step Table ℕ) → Finds L' step → (o : Outcome Table ℕ) → Replays N L' Some (on_states step) σ (placed put_states σ o)
      → Replays N L' Some (on_states step) σ (placed put_states σ (if ltb (seek (same2 σ.states.words k x y) 0 (states σ)) (states σ) then given σ.states (seek (same2 σ.states.words k x y) 0 (states σ)) else o))
  seek_finds {L'} step f o r = go (ltb i (states σ)) refl
    where
      i : ℕ
      i = seek (same2 σ.states.words k x y) 0 (states σ)

      go : (b : Bool) → ltb i (states σ) ≡ b → Replays N L' Some (on_states step) σ (placed put_states σ (if b then given σ.states i else o))
      go true q =
          let l : i < states σ = ltb-true i (states σ) q in
          comes (grown_refl σ) (λ i w l m. refl) tt (f σ i (record { state = l; is = same2_is σ.states.words k x y i (seek_hit (same2 σ.states.words k x y) 0 (states σ) (omega arith)) }))
      go false q = r

  deep_finds : {L' : Limits} (step : Step Table ℕ) → Finds L' step → (b : Bool) (e : ℕ) → Replays N L' Some (on_states step) σ (placed put_states σ (if b then refused 8 else put k x y e σ.states))
  deep_finds step f true e = stops
  deep_finds step f false e = put_finds step f e

module _ {N : ℕ} {L : Limits} {σ : Aut} (g : WfAut N L σ) where
  pub intern0_replays : {L' : Limits} (k x : ℕ) → Replays N L' Some (on_states (intern0 k x)) σ (on_states (intern0 k x) σ)
  unfolding intern0
  intern0_replays k x = seek_finds g k x 0 (intern0 k x) (λ τ z s. intern0_again k x z s) _ (put_finds g k x 0 (intern0 k x) (λ τ z s. intern0_again k x z s) 0)

  pub intern1_replays : {L' : Limits} (k x : ℕ) → Replays N L' Some (on_states (intern1 L' k x)) σ (on_states (intern1 L k x) σ)
  unfolding intern1
  intern1_replays {L'} k x =
      seek_finds g k x 0 (intern1 L' k x) (λ τ z s. intern1_again k x z s) _
      (deep_finds g k x 0 (intern1 L' k x) (λ τ z s. intern1_again k x z s) (ltb L.nesting (nest σ.states.words x + 1)) (nest σ.states.words x + 1))

  pub intern2_replays : {L' : Limits} (k x y : ℕ) → Replays N L' Some (on_states (intern2 L' k x y)) σ (on_states (intern2 L k x y) σ)
  unfolding intern2
  intern2_replays {L'} k x y =
      seek_finds g k x y (intern2 L' k x y) (λ τ z s. intern2_again k x y z s) _
      (deep_finds g k x y (intern2 L' k x y) (λ τ z s. intern2_again k x y z s) (ltb L.nesting (max (nest σ.states.words x) (nest σ.states.words y) + 1)) (max (nest σ.states.words x) (nest σ.states.words y) + 1))

-- ---- a list's state, whatever the list

module _ {N : ℕ} {L : Limits} {σ : Aut} (g : WfAut N L σ) (k : ℕ) (c : Rules N → Rule N) (q : form {N = N} k ≡ many c) (xs : List ℕ) where
  abbrev nm : ℕ
  nm = σ.members.count

  stored : ExtM σ.members (store xs σ.members)
  unfolding store
  stored = record {
    more = omega arith;
    len = length-sets σ.members.words nm xs;
    keep = λ i l. sets_below xs σ.members.words nm i l;
    beyond = λ j l. sets_above xs σ.members.words nm j l;
  }

  put_replays : {L' : Limits} (e : ℕ) → Replays N L' Some (on_exprs (intern_l L' k xs)) σ (placed put_exprs σ (put_l k xs e (exprs σ.states σ.members)))
  unfolding put_l put store
  put_replays {L'} e = at_members (room_m σ.members (length xs)) refl
    where
      at_states : nm + length xs ≤ length σ.members.words → (b : Bool) → room_s σ.states ≡ b
          → Replays N L' Some (on_exprs (intern_l L' k xs)) σ (placed put_exprs σ (placed (λ s τ. exprs s (store xs τ.members)) (exprs σ.states σ.members) (if b then given (table (put4 σ.states.words (states σ) k nm (length xs) e) (states σ + 1)) (states σ) else refused 22)))
      at_states r false p = stops
      at_states r true p =
          let (room, cap) = room_state σ.states p in
          let m : Table = store xs σ.members in
          let τ : Aut = plus g k nm (length xs) e m stored room in
          let e1 = first_plus g k nm (length xs) e m stored room in
          let e2 = second_plus g k nm (length xs) e m stored room in
          comes (grown_plus g k nm (length xs) e m stored room) (memos_plus g k nm (length xs) e m stored room) tt
          (intern_l_again {τ = τ} k c q xs (states σ) (record {
            state = omega arith;
            is = record { kind = kind_plus g k nm (length xs) e m stored room; list = ap₂ (words m.words) e1 e2 ∙ words_sets xs σ.members.words nm r };
          }) (omega (arith, e1, e2)))

      at_members : (b : Bool) → room_m σ.members (length xs) ≡ b
          → Replays N L' Some (on_exprs (intern_l L' k xs)) σ (placed put_exprs σ (if b then placed (λ s τ. exprs s (store xs τ.members)) (exprs σ.states σ.members) (put k nm (length xs) e σ.states) else refused 23))
      at_members false p = stops
      at_members true p = at_states (room_members σ.members (length xs) p).0 (room_s σ.states) refl

  pub intern_l_replays : {L' : Limits} → Replays N L' Some (on_exprs (intern_l L' k xs)) σ (on_exprs (intern_l L k xs) σ)
  unfolding intern_l
  intern_l_replays {L'} = go (ltb i (states σ)) refl
    where
      i : ℕ
      i = seek (same_l σ.states.words σ.members.words k xs) 0 (states σ)

      e : ℕ
      e = nest_l σ.states.words 0 xs + 1

      deep : (b : Bool) → Replays N L' Some (on_exprs (intern_l L' k xs)) σ (placed put_exprs σ (if b then refused 8 else put_l k xs e (exprs σ.states σ.members)))
      deep true = stops
      deep false = put_replays e

      go : (b : Bool) → ltb i (states σ) ≡ b
          → Replays N L' Some (on_exprs (intern_l L' k xs)) σ (placed put_exprs σ (if b then given (exprs σ.states σ.members) i else if ltb L.nesting e then refused 8 else put_l k xs e (exprs σ.states σ.members)))
      go true t = found
        where
          l : i < states σ
          l = ltb-true i (states σ) t

          s : StateL k xs σ i
          s = record { state = l; is = same_l_is σ.states.words σ.members.words k xs i (seek_hit (same_l σ.states.words σ.members.words k xs) 0 (states σ) (omega (arith, l))) }

          inside : op1 σ.states.words i + op2 σ.states.words i ≤ σ.members.count
          inside = (subst (λ (f : Form N). Ok f σ i) q (ok_as g k l s.is.kind)).inside

          found : Replays N L' Some (on_exprs (intern_l L' k xs)) σ (given σ i)
          found = comes (grown_refl σ) (λ i w l m. refl) tt (intern_l_again k c q xs i s inside)
      go false t = deep (ltb L.nesting e)

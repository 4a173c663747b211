-- Interning leaves the state that is asked for: one that stood already, or a new one. Unless it is refused.
use Rattle.std.specs.Prelude.{if◌then◌else◌}
use mathlib.Core.Path.{◌≡◌, refl, sym, ◌∙◌, ap, ap₂, subst}
use mathlib.Core.Bool.{Bool, true, false}
use mathlib.Core.List.{List, [], ◌∷◌}
use Prim.Native.Nat.{ℕ, ◌+◌, ◌*◌, ◌≤◌, ◌<◌, max}
use native.Mathlib.Omega.{arith}
use lib.Dec.{eqb, ltb}
use lib.ListN.{length}
use lib.Seq.{length-sets}
use borrow.Author.Tests.{eqb-true, eqb-false, ltb-true, ltb-false}
use Rattle.common.specs.Outcome.{Outcome, refused, given}
use Rattle.common.specs.Runs.{Table, table, placed}
use Rattle.spp_steps.specs.Wf.{ValidAt}
use Rattle.spp_steps.proofs.Laws.{by_test}
use Rattle.netkat.specs.Rules.{Rule, Rules}
use Rattle.aut_steps.specs.Tables.{UNION, INTERSECT, STAR, op1, op2, words, Limits, room_s, room_m, put4, exprs, Aut, put_states, put_exprs, on_states, on_exprs, kind_of, member_cap}
use Rattle.aut_steps.specs.Intern.{seek, same2, same_l, put, intern0, intern1, intern2, nest_l, store, put_l, intern_l}
use Rattle.aut_steps.specs.Kinds.{Form, leaf, constant, one, two, many, nothing, form, operands_by}
use Rattle.aut_steps.specs.Ascending.{All}
use Rattle.aut_steps.specs.Made.{MadeOf}
use Rattle.aut_steps.proofs.Facts.{seek_hit, seek_miss, Is2, same2_is, is_same2, IsL, same_l_is, is_same_l, sets_below, sets_above, words_sets, room_state, room_members}
use Rattle.aut_steps.specs.Wf.{states, kind, first, second, nesting, members, ExtM, ExtAut, Ok, United, Meeting, length_as, WfAut}
use Rattle.aut_steps.proofs.Wf.{extm_refl, nesting_grown, nest_l_grown, kind_grown}
use Rattle.aut_steps.proofs.MadeLaws.{made_given, made_list, Below, made_grown, none_as}
use Rattle.aut_steps.proofs.StepSpec.{too_deep, no_state, no_members, StepSpec, comes, stops_here, goes_return, plus, grown_plus, memos_plus, kind_plus, first_plus, second_plus, nesting_plus, good_plus}

-- state z of τ has this kind and these operands
pub record State2 (k x y : ℕ) (τ : Aut) (z : ℕ) : Type 0 where
  pub state : z < states τ
  pub is : Is2 τ.states.words k x y z

-- state z of τ has this kind and this list
pub record StateL (k : ℕ) (xs : List ℕ) (τ : Aut) (z : ℕ) : Type 0 where
  pub state : z < states τ
  pub is : IsL τ.states.words τ.members.words k xs z

-- what a state of a form that is no list needs: its operands and its nesting
abbrev pub Fit : {N : ℕ} → Form N → Aut → ℕ → ℕ → ℕ → Type 0
Fit {N} leaf σ x y e = ValidAt σ.nodes N x × (y ≡ 0) × (e ≡ 0)
Fit (constant r) σ x y e = (x ≡ 0) × (y ≡ 0) × (e ≡ 0)
Fit (one c) σ x y e = (x < states σ) × (y ≡ 0) × (e ≡ nesting σ x + 1)
Fit (two c) σ x y e = (x < states σ) × (y < states σ) × (e ≡ max (nesting σ x) (nesting σ y) + 1)
Fit (many c) σ x y e = ⊥
Fit nothing σ x y e = ⊥

two_words : {N : ℕ} (f : Form N) (σ : Aut) (x y e : ℕ) → Fit f σ x y e → (st m : List ℕ) (z : ℕ) → operands_by f st m z ≡ op1 st z ∷ op2 st z ∷ []
two_words leaf σ x y e v st m z = refl
two_words (constant r) σ x y e v st m z = refl
two_words (one c) σ x y e v st m z = refl
two_words (two c) σ x y e v st m z = refl
two_words (many c) σ x y e v st m z = absurd v
two_words nothing σ x y e v st m z = absurd v

module _ {N : ℕ} {L : Limits} {σ : Aut} (g : WfAut N L σ) where
  -- ---- no list

  module _ (k x y e : ℕ) where
    fit_below : (f : Form N) (xs : List ℕ) → Fit f σ x y e → Below f (states σ) x y xs
    fit_below leaf xs v = tt
    fit_below (constant r) xs v = tt
    fit_below (one c) xs v = v.0
    fit_below (two c) xs v = (v.0, v.1)
    fit_below (many c) xs v = absurd v
    fit_below nothing xs v = absurd v

    fit_ok : (f : Form N) (room : 12 * states σ + 11 < length σ.states.words) → Fit f σ x y e → Ok f (plus g k x y e σ.members (extm_refl σ.members) room) (states σ)
    fit_ok f room v = go f v
      where
        m : ExtM σ.members σ.members
        m = extm_refl σ.members

        p : Aut
        p = plus g k x y e σ.members m room

        e1 : first p (states σ) ≡ x
        e1 = first_plus g k x y e σ.members m room

        e2 : second p (states σ) ≡ y
        e2 = second_plus g k x y e σ.members m room

        e3 : nesting p (states σ) ≡ e
        e3 = nesting_plus g k x y e σ.members m room

        old : (z : ℕ) → z < states σ → nesting p z ≡ nesting σ z
        old z l = nesting_grown (grown_plus g k x y e σ.members m room) z l

        go : (f : Form N) → Fit f σ x y e → Ok f p (states σ)
        go leaf v = record { handle = subst (ValidAt σ.nodes N) (sym e1) v.0; unused = e2 ∙ v.1; nested = e3 ∙ v.2 }
        go (constant r) v = record { unused1 = e1 ∙ v.0; unused2 = e2 ∙ v.1; nested = e3 ∙ v.2 }
        go (one c) v = record { earlier = omega (arith, e1, v.0); unused = e2 ∙ v.1; nested = e3 ∙ v.2 ∙ ap (λ (h : ℕ). h + 1) (sym (old x v.0) ∙ ap (nesting p) (sym e1)) }
        go (two c) v = record {
          earlier1 = omega (arith, e1, v.0);
          earlier2 = omega (arith, e2, v.1);
          nested = e3 ∙ v.2 ∙ ap₂ (λ (a b : ℕ). max a b + 1) (sym (old x v.0) ∙ ap (nesting p) (sym e1)) (sym (old y v.1) ∙ ap (nesting p) (sym e2));
        }
        go (many c) v = absurd v
        go nothing v = absurd v

    put_goes : Fit (form {N = N} k) σ x y e → ((xs : List ℕ) → MadeOf N σ.states.words k x y xs) → e ≤ L.nesting → states σ ≤ seek (same2 σ.states.words k x y) 0 (states σ)
        → StepSpec N L (State2 k x y) σ (placed put_states σ (put k x y e σ.states))
    unfolding put form
    put_goes v made d miss = go (room_s σ.states) refl
      where
        no_list : UNION ≤ k → k ≤ INTERSECT → ⊥
        no_list a b =
            by_test (eqb k UNION)
            (λ t. absurd (subst (λ (j : ℕ). Fit (form {N = N} j) σ x y e) (eqb-true k UNION t) v))
            (λ t. absurd (subst (λ (j : ℕ). Fit (form {N = N} j) σ x y e) {x = k} {y = INTERSECT} (omega (arith, eqb-false k UNION t)) v))

        m : ExtM σ.members σ.members
        m = extm_refl σ.members

        go : (b : Bool) → room_s σ.states ≡ b
            → StepSpec N L (State2 k x y) σ (placed put_states σ (if b then given (table (put4 σ.states.words (states σ) k x y e) (states σ + 1)) (states σ) else refused 22))
        go false q = stops_here g (no_state q)
        go true q =
            let (room, cap) = room_state σ.states q in
            comes {a = states σ} (record {
              grown = grown_plus g k x y e σ.members m room;
              memos = memos_plus g k x y e σ.members m room;
              good = good_plus g k x y e σ.members m room (record {
                cap = cap;
                members_fit = g.members_fit;
                members_small = g.members_small;
                ok = fit_ok (form k) room v;
                shallow = d;
                short = λ a b. absurd (no_list a b);
                united = λ u. absurd (subst (λ (j : ℕ). Fit (form {N = N} j) σ x y e) u v);
                meeting = λ u. absurd (subst (λ (j : ℕ). Fit (form {N = N} j) σ x y e) u v);
                made = made_grown (grown_plus g k x y e σ.members m room) k x y _ (fit_below (form k) _ v) (made _);
                packed = λ a b. absurd (no_list a b);
                counted = omega (arith, none_as k y no_list);
                new = λ z l a b.
                    let st : List ℕ = (plus g k x y e σ.members m room).states.words in
                    let c : op1 σ.states.words z ∷ op2 σ.states.words z ∷ [] ≡ op1 st (states σ) ∷ op2 st (states σ) ∷ [] =
                    sym (two_words (form k) σ x y e v σ.states.words σ.members.words z) ∙ b ∙ two_words (form k) σ x y e v st σ.members.words (states σ) in
                    let c1 : op1 σ.states.words z ≡ op1 st (states σ) = cc in
                    let c2 : op2 σ.states.words z ≡ op2 st (states σ) = cc in
                    seek_miss (same2 σ.states.words k x y) 0 (states σ) (omega arith) z (omega arith) (omega arith)
                    (is_same2 σ.states.words k x y z (record { kind = a; first = c1 ∙ first_plus g k x y e σ.members m room; second = c2 ∙ second_plus g k x y e σ.members m room }));
              });
              holds = record {
                state = omega arith;
                is = record { kind = kind_plus g k x y e σ.members m room; first = first_plus g k x y e σ.members m room; second = second_plus g k x y e σ.members m room };
              };
            })

  -- found, or what comes then
  find : (k x y : ℕ) (o : Outcome Table ℕ) → (states σ ≤ seek (same2 σ.states.words k x y) 0 (states σ) → StepSpec N L (State2 k x y) σ (placed put_states σ o))
      → StepSpec N L (State2 k x y) σ (placed put_states σ (if ltb (seek (same2 σ.states.words k x y) 0 (states σ)) (states σ) then given σ.states (seek (same2 σ.states.words k x y) 0 (states σ)) else o))
  find k x y o f = go (ltb i (states σ)) refl
    where
      i : ℕ
      i = seek (same2 σ.states.words k x y) 0 (states σ)

      go : (b : Bool) → ltb i (states σ) ≡ b → StepSpec N L (State2 k x y) σ (placed put_states σ (if b then given σ.states i else o))
      go true q =
          let l : i < states σ = ltb-true i (states σ) q in
          goes_return i g (record { state = l; is = same2_is σ.states.words k x y i (seek_hit (same2 σ.states.words k x y) 0 (states σ) (omega arith)) })
      go false q = f (ltb-false i (states σ) q)

  -- the limit of nesting, or what comes then
  deep : {S : Type 0} {P : Aut → ℕ → Type 0} (put : S → Aut → Aut) (xs : List ℕ) (e : ℕ) (o : Outcome S ℕ) → All (λ x. x < states σ) xs → e ≤ nest_l σ.states.words 0 xs + 1
      → (e ≤ L.nesting → StepSpec N L P σ (placed put σ o)) → StepSpec N L P σ (placed put σ (if ltb L.nesting e then refused 8 else o))
  deep {S} {P} put xs e o a n f = go (ltb L.nesting e) refl
    where
      go : (b : Bool) → ltb L.nesting e ≡ b → StepSpec N L P σ (placed put σ (if b then refused 8 else o))
      go true q = stops_here g (too_deep xs a (omega (arith, ltb-true L.nesting e q)))
      go false q = f (ltb-false L.nesting e q)

  pub intern0_goes : (k x : ℕ) → (UNION ≤ k → STAR < k) → Fit (form {N = N} k) σ x 0 0 → StepSpec N L (State2 k x 0) σ (on_states (intern0 k x) σ)
  unfolding intern0
  intern0_goes k x f v = find k x 0 (put k x 0 0 σ.states) (put_goes k x 0 0 v (λ xs. made_given f) (omega arith))

  pub intern1_goes : (k x : ℕ) → ((xs : List ℕ) → MadeOf N σ.states.words k x 0 xs) → x < states σ → Fit (form {N = N} k) σ x 0 (nesting σ x + 1) → StepSpec N L (State2 k x 0) σ (on_states (intern1 L k x) σ)
  unfolding intern1 nest_l
  intern1_goes k x made l v = find k x 0 _ (λ m. deep put_states (x ∷ []) (nesting σ x + 1) _ (l, tt) (omega arith) (λ d. put_goes k x 0 (nesting σ x + 1) v made d m))

  pub intern2_goes : (k x y : ℕ) → ((xs : List ℕ) → MadeOf N σ.states.words k x y xs) → x < states σ → y < states σ → Fit (form {N = N} k) σ x y (max (nesting σ x) (nesting σ y) + 1) → StepSpec N L (State2 k x y) σ (on_states (intern2 L k x y) σ)
  unfolding intern2 nest_l
  intern2_goes k x y made l l' v = find k x y _ (λ m. deep put_states (x ∷ y ∷ []) (max (nesting σ x) (nesting σ y) + 1) _ (l, (l', tt)) (omega arith) (λ d. put_goes k x y (max (nesting σ x) (nesting σ y) + 1) v made d m))

  -- ---- a list

  module _ (k : ℕ) (c : Rules N → Rule N) (q : form {N = N} k ≡ many c) (xs : List ℕ) (a : All (λ x. x < states σ) xs) (few : length xs ≤ L.list)
      (united : k ≡ UNION → United xs) (meeting : k ≡ INTERSECT → (st : List ℕ) → ((y : ℕ) → y < states σ → kind_of st y ≡ kind σ y) → Meeting st xs)
      (made : (x y : ℕ) → MadeOf N σ.states.words k x y xs) (whole : (n : ℕ) → length_as k n ≡ n) where
    abbrev nm : ℕ
    nm = σ.members.count

    abbrev e : ℕ
    e = nest_l σ.states.words 0 xs + 1

    stored : (r : nm + length xs ≤ length σ.members.words) → ExtM σ.members (store xs σ.members)
    unfolding store
    stored r = record {
      more = omega arith;
      len = length-sets σ.members.words nm xs;
      keep = λ i l. sets_below xs σ.members.words nm i l;
      beyond = λ j l. sets_above xs σ.members.words nm j l;
    }

    put_l_goes : e ≤ L.nesting → states σ ≤ seek (same_l σ.states.words σ.members.words k xs) 0 (states σ)
        → StepSpec N L (StateL k xs) σ (placed put_exprs σ (put_l k xs e (exprs σ.states σ.members)))
    unfolding put_l put store form
    put_l_goes d miss = at_members (room_m σ.members (length xs)) refl
      where
        at_states : (r : nm + length xs ≤ length σ.members.words) → nm + length xs ≤ member_cap → (b : Bool) → room_s σ.states ≡ b
            → StepSpec N L (StateL k xs) σ (placed put_exprs σ (placed (λ s τ. exprs s (store xs τ.members)) (exprs σ.states σ.members) (if b then given (table (put4 σ.states.words (states σ) k nm (length xs) e) (states σ + 1)) (states σ) else refused 22)))
        at_states r s false p = stops_here g (no_state p)
        at_states r s true p =
            let (room, cap) = room_state σ.states p in
            let gm : ExtM σ.members (store xs σ.members) = stored r in
            let τ : Aut = plus g k nm (length xs) e (store xs σ.members) gm room in
            let gr : ExtAut σ τ = grown_plus g k nm (length xs) e (store xs σ.members) gm room in
            let e1 : first τ (states σ) ≡ nm = first_plus g k nm (length xs) e (store xs σ.members) gm room in
            let e2 : second τ (states σ) ≡ length xs = second_plus g k nm (length xs) e (store xs σ.members) gm room in
            let list : members τ (states σ) ≡ xs = ap₂ (words (store xs σ.members).words) e1 e2 ∙ words_sets xs σ.members.words nm r in
            comes {a = states σ} (record {
              grown = gr;
              memos = memos_plus g k nm (length xs) e (store xs σ.members) gm room;
              good = good_plus g k nm (length xs) e (store xs σ.members) gm room (record {
                cap = cap;
                members_fit = omega (arith, length-sets σ.members.words nm xs);
                members_small = s;
                ok = subst (λ (f : Form N). Ok f τ (states σ)) (sym q) (record {
                  inside = omega (arith, e1, e2);
                  earlier = subst (All (λ y. y < states σ)) (sym list) a;
                  nested =
                      nesting_plus g k nm (length xs) e (store xs σ.members) gm room
                      ∙ ap (λ (h : ℕ). h + 1) (sym (nest_l_grown gr 0 xs a) ∙ ap (nest_l τ.states.words 0) (sym list));
                });
                shallow = d;
                short = λ _ _. few;
                united = λ u. subst United (sym list) (united u);
                meeting = λ u. subst (Meeting τ.states.words) (sym list) (meeting u τ.states.words (λ y l. kind_grown gr y l));
                made = made_list (λ _ _. list) (made_grown gr k nm (length xs) xs (subst (λ (f : Form N). Below f (states σ) nm (length xs) xs) (sym q) a) (made nm (length xs)));
                packed = λ _ _. refl;
                counted = omega (arith, whole (length xs));
                new = λ z l p b.
                    let old : members σ z ≡ xs =
                    ap (λ (f : Form N). operands_by f σ.states.words σ.members.words z) (sym q) ∙ b
                    ∙ ap (λ (f : Form N). operands_by f τ.states.words τ.members.words (states σ)) q ∙ list in
                    seek_miss (same_l σ.states.words σ.members.words k xs) 0 (states σ) (omega arith) z (omega arith) (omega arith)
                    (is_same_l σ.states.words σ.members.words k xs z (record { kind = p; list = old }));
              });
              holds = record { state = omega arith; is = record { kind = kind_plus g k nm (length xs) e (store xs σ.members) gm room; list = list } };
            })

        at_members : (b : Bool) → room_m σ.members (length xs) ≡ b
            → StepSpec N L (StateL k xs) σ (placed put_exprs σ (if b then placed (λ s τ. exprs s (store xs τ.members)) (exprs σ.states σ.members) (put k nm (length xs) e σ.states) else refused 23))
        at_members false p = stops_here g (no_members xs a few p)
        at_members true p = let (r, s) = room_members σ.members (length xs) p in at_states r s (room_s σ.states) refl

    pub intern_l_goes : StepSpec N L (StateL k xs) σ (on_exprs (intern_l L k xs) σ)
    unfolding intern_l
    intern_l_goes = go (ltb i (states σ)) refl
      where
        i : ℕ
        i = seek (same_l σ.states.words σ.members.words k xs) 0 (states σ)

        go : (b : Bool) → ltb i (states σ) ≡ b
            → StepSpec N L (StateL k xs) σ (placed put_exprs σ (if b then given (exprs σ.states σ.members) i else if ltb L.nesting e then refused 8 else put_l k xs e (exprs σ.states σ.members)))
        go true p =
            let l : i < states σ = ltb-true i (states σ) p in
            goes_return i g (record { state = l; is = same_l_is σ.states.words σ.members.words k xs i (seek_hit (same_l σ.states.words σ.members.words k xs) 0 (states σ) (omega arith)) })
        go false p = deep put_exprs xs e _ a (omega arith) (λ d. put_l_goes d (ltb-false i (states σ) p))

-- 02 (ii), "each record again by its constructor", "a member with its state", of states of an own image: the states of tables in order, made one after another with their members, are made as they were, without what was worked out.
use mathlib.Core.Path.{◌≡◌, refl, sym, ◌∙◌, ap, ap₂, subst}
use mathlib.Core.Bool.{true, ◌&&◌}
use mathlib.Core.List.{List, [], ◌∷◌, ◌++◌, append_assoc}
use mathlib.Core.Logic.{◌≢◌}
use Prim.Native.Nat.{ℕ, ◌+◌, ◌*◌, ◌/◌, ◌≤◌, ◌<◌}
use native.Mathlib.Omega.{arith}
use native.Mathlib.Nat.{le_trans}
use native.Mathlib.Numerals.{add-one}
use lib.ListN.{length, get_or, take, length-append}
use lib.Seq.{get_or-take, length-take-le}
use borrow.Author.Tests.{lt-ltb, le-leb}
use Rattle.common.specs.Outcome.{given}
use Rattle.common.specs.Runs.{Table, table}
use Rattle.spp_steps.proofs.Laws.{at_below}
use Rattle.aut_steps.specs.Tables.{UNION, INTERSECT, NEXT, kind_of, op1, op2, nest, words, Limits, state_cap, member_cap, room_s, room_m, put4, Aut, aut}
use Rattle.aut_steps.specs.Intern.{store}
use Rattle.aut_steps.specs.Wf.{states, kind, first, second, nesting, members, length_as, members_before, WfAut}
use Rattle.aut_steps.proofs.Facts.{words_length}
use Rattle.book_steps.specs.Run.{zeroed}
use Rattle.image_steps.specs.Claims.{plain_states}
use Rattle.image_steps.specs.Records.{state}
use Rattle.image_steps.proofs.Lists.{words_at, pieces_length, pieces_at, filled, get_or_padded, get_or_filled, length_filled, filled_sets, filled_zeros, take_words, set4, words4}
use Rattle.image_steps.proofs.OwnRelations.{relations_to, valid_at}
use Rattle.image_steps.proofs.States.{if_list, as_list, as_other, members_with}
use Rattle.image_steps.proofs.Before.{Before, before_less, state_again}

-- ---- the words of states without what was worked out

module _ (st : List ℕ) where
  abbrev plain : ℕ → List ℕ
  plain n = words st (12 * n) 4 ++ zeroed 8

  plain_wide : (n : ℕ) → length (plain n) ≡ 12
  plain_wide n = length-append (words st (12 * n) 4) (zeroed 8) ∙ ap (λ (k : ℕ). k + 8) (words_length st (12 * n) 4)

  pub plain_length : (n : ℕ) → length (plain_states st n) ≡ 12 * n
  unfolding plain_states
  plain_length = pieces_length 12 (plain_states st) plain refl (λ n. refl) plain_wide

  plain_at : (n x w : ℕ) → x < n → w < 4 → get_or (plain_states st n) (12 * x + w) 0 ≡ get_or st (12 * x + w) 0
  unfolding plain_states
  plain_at n x w l m = pieces_at 12 (plain_states st) plain refl (λ n. refl) plain_wide n x w l (omega arith) ∙ get_or_padded (words st (12 * x) 4) 8 w ∙ words_at st (12 * x) 4 w m

-- ---- the tables with the states before n

-- the first n states, in a table of `size` words
abbrev pub states_to : (size : ℕ) → Aut → ℕ → Table
states_to size σ n = table (filled size (plain_states σ.states.words n)) n

-- their members
abbrev pub members_to : (size : ℕ) → Aut → ℕ → Table
members_to size σ n = table (filled size (take (members_before σ n) σ.members.words)) (members_before σ n)

before_next : (σ : Aut) (n : ℕ) → members_before σ (n + 1) ≡ members_before σ n + length_as (kind σ n) (second σ n)
unfolding members_before
before_next σ n = ap (members_before σ) (add-one n)

-- all of them, with σ's relations
abbrev pub aut_to : (sizeR sizeS sizeM : ℕ) → Aut → ℕ → Aut
aut_to sizeR sizeS sizeM σ n = aut (relations_to sizeR σ.nodes σ.nodes.count) (states_to sizeS σ n) (members_to sizeM σ n)

-- in tables of these lengths, which have room for σ
module _ {N : ℕ} {L : Limits} (σ : Aut) (g : WfAut N L σ) (sizeR sizeS sizeM : ℕ) (roomR : 4 * σ.nodes.count ≤ sizeR) (rooms : 12 * states σ ≤ sizeS) (roomMs : σ.members.count ≤ sizeM) where
  abbrev at : ℕ → Aut
  at n = aut_to sizeR sizeS sizeM σ n

  before_all : (n : ℕ) → n ≤ states σ → members_before σ n ≤ σ.members.count
  before_all n l = omega (arith, before_less σ n (states σ) l, g.counted)

  word_at : (n y w : ℕ) → y < n → w < 4 → get_or (states_to sizeS σ n).words (12 * y + w) 0 ≡ get_or σ.states.words (12 * y + w) 0
  word_at n y w l m = get_or_filled sizeS (plain_states σ.states.words n) (12 * y + w) ∙ plain_at σ.states.words n y w l m

  -- they have the states before n as σ has them
  before_at : (n : ℕ) → n ≤ states σ → Before N σ n (at n)
  before_at n l = record {
    relations = λ h a. valid_at N sizeR σ.nodes g.nodes roomR σ.nodes.count (omega arith) N h (at_below σ.nodes N h a) a;
    count = refl;
    words = word_at n;
    members = refl;
  }

  member_at : (n j : ℕ) → j < members_before σ n → get_or (members_to sizeM σ n).words j 0 ≡ get_or σ.members.words j 0
  member_at n j m = get_or_filled sizeM (take (members_before σ n) σ.members.words) j ∙ get_or-take (members_before σ n) σ.members.words j 0 m

  module _ (i : ℕ) (l : i < states σ) where
    abbrev τ : Aut
    τ = at i

    -- ---- one more state

    room_state : room_s τ.states ≡ true
    unfolding room_s
    room_state =
        ap₂ ◌&&◌ (lt-ltb i (length τ.states.words / 12) (omega (arith, length_filled sizeS (plain_states σ.states.words i) (omega (arith, plain_length σ.states.words i)))))
        (lt-ltb i state_cap (le_trans l g.small))

    put4_made : put4 τ.states.words i (kind σ i) (first σ i) (second σ i) (nesting σ i) ≡ (at (i + 1)).states.words
    unfolding put4 kind_of op1 op2 nest plain_states
    put4_made =
        set4 τ.states.words (12 * i) a b c d
        ∙ filled_sets sizeS (plain_states st i) (a ∷ b ∷ c ∷ d ∷ []) (12 * i) (plain_length st i) (omega arith)
        ∙ ap (λ (r : List ℕ). filled sizeS (plain_states st i ++ r)) (sym (words4 st (12 * i)))
        ∙ sym (filled_zeros sizeS (plain_states st i ++ words st (12 * i) 4) 8 (omega (arith, length-append (plain_states st i) (words st (12 * i) 4), plain_length st i, words_length st (12 * i) 4)))
        ∙ ap (filled sizeS) (append_assoc (plain_states st i) (words st (12 * i) 4) (zeroed 8) ∙ ap (plain_states st) (sym (add-one i)))
      where
        st : List ℕ
        st = σ.states.words

        a : ℕ
        a = get_or st (12 * i) 0

        b : ℕ
        b = get_or st (12 * i + 1) 0

        c : ℕ
        c = get_or st (12 * i + 2) 0

        d : ℕ
        d = get_or st (12 * i + 3) 0

    -- ---- its members

    -- no list: the members stay
    no_members : (UNION ≤ kind σ i → kind σ i ≤ INTERSECT → ⊥) → members_to sizeM σ i ≡ members_to sizeM σ (i + 1)
    no_members n = ap (λ (k : ℕ). table (filled sizeM (take k σ.members.words)) k) {x = members_before σ i} {y = members_before σ (i + 1)} (omega (arith, before_next σ i, as_other (kind σ i) (second σ i) 0 n))

    module _ (lo : UNION ≤ kind σ i) (hi : kind σ i ≤ INTERSECT) where
      next_members : members_before σ (i + 1) ≡ members_before σ i + length (members σ i)
      next_members = omega (arith, before_next σ i, as_list (kind σ i) (second σ i) 0 lo hi, words_length σ.members.words (first σ i) (second σ i))

      all_there : members_before σ (i + 1) ≤ σ.members.count
      all_there = before_all (i + 1) (omega arith)

      front_long : length (take (members_before σ i) σ.members.words) ≡ members_before σ i
      front_long = length-take-le (members_before σ i) σ.members.words (omega (arith, all_there, next_members, g.members_fit))

      room_members : room_m τ.members (length (members σ i)) ≡ true
      unfolding room_m
      room_members =
          ap₂ ◌&&◌ (le-leb (members_before σ i + length (members σ i)) (length τ.members.words) (omega (arith, next_members, all_there, length_filled sizeM (take (members_before σ i) σ.members.words) (omega (arith, front_long, all_there, next_members)))))
          (le-leb (members_before σ i + length (members σ i)) member_cap (omega (arith, next_members, all_there, g.members_small)))

      store_made : store (members σ i) τ.members ≡ members_to sizeM σ (i + 1)
      unfolding store
      store_made =
          ap₂ table
          (filled_sets sizeM (take (members_before σ i) σ.members.words) (members σ i) (members_before σ i) front_long (omega (arith, next_members, all_there))
          ∙ ap (filled sizeM) (ap (λ (r : List ℕ). take (members_before σ i) σ.members.words ++ r) at_end
          ∙ take_words σ.members.words (members_before σ i) (second σ i) (omega (arith, next_members, all_there, g.members_fit, words_length σ.members.words (first σ i) (second σ i)))
          ∙ ap (λ (j : ℕ). take j σ.members.words) {x = members_before σ i + second σ i} {y = members_before σ (i + 1)} (omega (arith, next_members, words_length σ.members.words (first σ i) (second σ i)))))
          (sym next_members)
        where
          at_end : members σ i ≡ words σ.members.words (members_before σ i) (second σ i)
          at_end = ap (λ (a : ℕ). words σ.members.words a (second σ i)) (g.packed i l lo hi)

    -- ---- a state's record

    module _ (known : kind σ i ≢ NEXT) (xs : List ℕ) (list : UNION ≤ kind σ i → kind σ i ≤ INTERSECT → members σ i ≡ xs) where
      members_made : members_with (kind σ i) xs τ.members ≡ members_to sizeM σ (i + 1)
      members_made =
          if_list (kind σ i)
          (λ lo hi. as_list (kind σ i) (store xs τ.members) τ.members lo hi ∙ ap (λ (ys : List ℕ). store ys τ.members) (sym (list lo hi)) ∙ store_made lo hi)
          (λ n. as_other (kind σ i) (store xs τ.members) τ.members n ∙ no_members n)

      -- state i, made after those before it
      pub state_made : state N L xs (kind σ i) (first σ i) (second σ i) (nesting σ i) τ ≡ given (at (i + 1)) i
      state_made =
          state_again g l (before_at i (omega arith)) (member_at i) known xs list room_state (λ lo hi. subst (λ (ys : List ℕ). room_m τ.members (length ys) ≡ true) (list lo hi) (room_members lo hi))
          ∙ ap₂ (λ (t : List ℕ) (m : Table). given (aut τ.nodes (table t (i + 1)) m) i) put4_made members_made

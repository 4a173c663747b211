-- 02 (ii), "each record again by its constructor": of a record that fits, the constructor leaves the operands as they are and is just the interning.
use Rattle.std.specs.Prelude.{if◌then◌else◌}
use mathlib.Core.Path.{◌≡◌, refl, sym, ◌∙◌, ap, ap₂, subst}
use mathlib.Core.Bool.{Bool, true, false, ◌&&◌, ◌||◌}
use mathlib.Core.List.{List, [], ◌∷◌, ◌++◌, append-nil, append_assoc}
use mathlib.Core.Logic.{◌≢◌}
use Prim.Native.Nat.{ℕ, zero, suc, ◌+◌, ◌≤◌, ◌<◌}
use native.Mathlib.Omega.{arith}
use lib.Dec.{eqb}
use lib.ListN.{length, get_or, length-append}
use borrow.Author.Tests.{eqb-true, eqb-false, eq-eqb, ne_eqb, lt-ltb, le-ltb, le-leb}
use Rattle.common.specs.Outcome.{Outcome, refused, given, Step, return, after, ◌>>=◌}
use Rattle.common.specs.Runs.{Table, placed}
use Rattle.spp_steps.specs.Model as Spp
use Rattle.spp_steps.specs.Model.{Exit, out, exit, follow}
use Rattle.aut_steps.specs.Relations as Rel
use Rattle.aut_steps.specs.Tables.{SPP, UNION, INTERSECT, XOR, DIFFERENCE, COMPLEMENT, SEQUENCE, STAR, DUP, NEXT, UNTIL, TOP, kind_of, op1, nest, list_of, Limits, Exprs, Aut, put_nodes, put_states, on_states, on_exprs, on_states_of}
use Rattle.aut_steps.specs.Intern.{intern0, intern1, intern2, intern_l}
use Rattle.aut_steps.specs.Lists.{sorted}
use Rattle.aut_steps.specs.Constructors as Make
use Rattle.aut_steps.specs.Constructors.{Within, within, beyond, then_within, opened, extend, open_all, Opened, list, top, long, then_open, open_union, each, mk_spp, relations, Parts, parts, Met, met, add_last, unite_one, add_relation, meet_one, finish, unite, unite_opened, meet_finish, meet, meet_opened}
use Rattle.aut_steps.specs.Kinds.{form}
use Rattle.aut_steps.specs.Ascending.{All}
use Rattle.aut_steps.specs.Made.{NotBoth, Sequenced}
use Rattle.aut_steps.specs.Wf.{states, kind, first, second, LastSpp, WfAut}
use Rattle.aut_steps.proofs.ListLaws.{all_map, all_append, all_split}
use Rattle.aut_steps.proofs.Wf.{ok_as}
use Rattle.aut_replay.specs.Replay as Replay
use Rattle.aut_replay.specs.Replay.{Call, called, CallAt}
use Rattle.aut_replay.proofs.Runs.{later_refl, placed_then}
use Rattle.aut_replay.proofs.Interning.{intern0_again}
use Rattle.image_steps.specs.Records.{interned, state_fits}
use Rattle.image_steps.proofs.Depths.{handle_valid}
use Rattle.image_steps.proofs.Sorted.{Alike, sorted_one, sorted_same, put_last}
use Rattle.image_steps.proofs.Fits as Fits
use Rattle.image_steps.proofs.Fits.{relation_false, both_false, Bare, NoSpp, NoZero, OneSpp, no_spp, one_spp, UnitesRight, MeetsRight, RecordRight, fits_right}

-- the constructor of a record
unfoldable pub call_of : List ℕ → (k x y : ℕ) → Call
call_of xs k x y =
    if eqb k SPP then Replay.spp x else
    if eqb k UNION then Replay.union_n xs else
    if eqb k INTERSECT then Replay.intersect_n_base xs else
    if eqb k XOR then Replay.xor x y else
    if eqb k DIFFERENCE then Replay.difference x y else
    if eqb k COMPLEMENT then Replay.complement x else
    if eqb k SEQUENCE then Replay.sequence x y else
    if eqb k STAR then Replay.star x else
    if eqb k DUP then Replay.dup else
    if eqb k NEXT then Replay.next x else
    if eqb k UNTIL then Replay.until x y else
    Replay.top

-- ---- relations that are left as they are

apply_out : (N : ℕ) (o : Spp.Op) (d a b h : ℕ) (t : Table) → exit N o d a b ≡ out h → Spp.apply N o d a b t ≡ given t h
unfolding Spp.apply
apply_out N o zero a b h t e = ap (λ (r : Exit). follow r (λ o x y. return 0) t) e
apply_out N o (suc d) a b h t e = ap (λ (r : Exit). follow r (λ o. Spp.down (Spp.each (Spp.apply N o d))) t) e

-- zero united with h
union_zero : (N h : ℕ) (t : Table) → Rel.union N (Rel.zero_at N) h t ≡ given t h
unfolding exit
union_zero N h t = apply_out N Spp.union N (Rel.zero_at N) h h t (go (eqb (Rel.zero_at N) h) refl)
  where
    z : ℕ
    z = Rel.zero_at N

    go : (b : Bool) → eqb z h ≡ b
        → (if b then out z else if eqb z (Spp.zero_at N N) || eqb h (Spp.top_at N N) then out h else if eqb h (Spp.zero_at N N) || eqb z (Spp.top_at N N) then out z else Spp.sorted Spp.union z h) ≡ out h
    go true q = ap out (eqb-true z h q)
    go false q = ap (λ (b : Bool). if b || eqb h (Spp.top_at N N) then out h else if eqb h (Spp.zero_at N N) || eqb z (Spp.top_at N N) then out z else Spp.sorted Spp.union z h) (eq-eqb z z refl)

top_not_zero : (N : ℕ) → Rel.top_at N ≢ Rel.zero_at N
unfolding Spp.top_at Spp.zero_at
top_not_zero zero e = omega arith
top_not_zero (suc n) e = omega arith

-- top met with h
intersect_top : (N h : ℕ) (t : Table) → Rel.intersect N (Rel.top_at N) h t ≡ given t h
unfolding exit
intersect_top N h t = apply_out N Spp.intersect N (Rel.top_at N) h h t (go (eqb (Rel.top_at N) h) refl)
  where
    u : ℕ
    u = Rel.top_at N

    second : (b c d : Bool) → b ≡ false → c ≡ false → (if b || c then out u else if d || eqb u (Spp.top_at N N) then out h else Spp.sorted Spp.intersect u h) ≡ out h
    second b c true p q = ap₂ (λ (b c : Bool). if b || c then out u else out h) p q
    second b c false p q =
        ap₂ (λ (b c : Bool). if b || c then out u else if eqb u (Spp.top_at N N) then out h else Spp.sorted Spp.intersect u h) p q
        ∙ ap (λ (b : Bool). if b then out h else Spp.sorted Spp.intersect u h) (eq-eqb u u refl)

    go : (b : Bool) → eqb u h ≡ b
        → (if b then out u else if eqb u (Spp.zero_at N N) || eqb h (Spp.top_at N N) then out u else if eqb h (Spp.zero_at N N) || eqb u (Spp.top_at N N) then out h else Spp.sorted Spp.intersect u h) ≡ out h
    go true q = ap out (eqb-true u h q)
    go false q = second (eqb u (Spp.zero_at N N)) (eqb h (Spp.top_at N N)) (eqb h (Spp.zero_at N N)) (ne_eqb u _ (top_not_zero N)) (ne_eqb h u (λ e. eqb-false u h q (sym e)))

-- ---- lists that are left as they are

module _ (most : ℕ) (st m : List ℕ) where
  opened_as : (k x : ℕ) → kind_of st x ≢ k → opened k st m x ≡ x ∷ []
  unfolding opened
  opened_as k x n = ap (λ (b : Bool). if b then list_of st m x else x ∷ []) (ne_eqb _ _ n)

  extend_as : (acc : List ℕ) (x : ℕ) → length acc + 1 ≤ most → extend most acc (x ∷ []) ≡ within (acc ++ x ∷ [])
  unfolding extend
  extend_as acc x l = ap (λ (b : Bool). if b then within (acc ++ x ∷ []) else beyond) (le-leb _ most l)

  -- one member more, and the rest
  longer : (acc : List ℕ) (x : ℕ) (xs : List ℕ) → length acc + length (x ∷ xs) ≤ most → length (acc ++ x ∷ []) + length xs ≤ most
  longer acc x xs l = omega (arith, length-append acc (x ∷ []))

  open_union_as : (xs acc : List ℕ) → All (Bare UNION st) xs → length acc + length xs ≤ most → open_union most st m xs acc ≡ list (acc ++ xs)
  unfolding open_union
  open_union_as [] acc a l = ap list (sym (append-nil acc))
  open_union_as (x ∷ xs) acc a l =
      ap (λ (b : Bool). if b then top else then_open (extend most acc (opened UNION st m x)) (open_union most st m xs)) (ne_eqb _ _ a.0.1)
      ∙ ap (λ (ys : List ℕ). then_open (extend most acc ys) (open_union most st m xs)) (opened_as UNION x a.0.0)
      ∙ ap (λ (o : Within (List ℕ)). then_open o (open_union most st m xs)) (extend_as acc x (omega arith))
      ∙ open_union_as xs (acc ++ x ∷ []) a.1 (longer acc x xs l)
      ∙ ap list (append_assoc acc (x ∷ []) xs)

  open_all_as : (xs acc : List ℕ) → All (λ x. kind_of st x ≢ INTERSECT) xs → length acc + length xs ≤ most → open_all most st m xs acc ≡ within (acc ++ xs)
  unfolding open_all
  open_all_as [] acc a l = ap within (sym (append-nil acc))
  open_all_as (x ∷ xs) acc a l =
      ap (λ (ys : List ℕ). then_within (extend most acc ys) (open_all most st m xs)) (opened_as INTERSECT x a.0)
      ∙ ap (λ (o : Within (List ℕ)). then_within o (open_all most st m xs)) (extend_as acc x (omega arith))
      ∙ open_all_as xs (acc ++ x ∷ []) a.1 (longer acc x xs l)
      ∙ ap within (append_assoc acc (x ∷ []) xs)

-- ---- the relations of a list, and its other members

module _ (N : ℕ) (st : List ℕ) (t : Table) where
  unite_one_plain : (x : ℕ) (p : Parts) → NoSpp st x → unite_one N st x p t ≡ given t (parts p.relation (p.others ++ x ∷ []))
  unfolding unite_one
  unite_one_plain x p n =
      ap (λ (b : Bool). (if b then Rel.union N p.relation (op1 st x) >>= (λ h. return (parts h p.others)) else return (parts p.relation (p.others ++ x ∷ []))) t) (ne_eqb _ _ n)

  unite_one_spp : (x : ℕ) (acc : List ℕ) → kind_of st x ≡ SPP → unite_one N st x (parts (Rel.zero_at N) acc) t ≡ given t (parts (op1 st x) acc)
  unfolding unite_one
  unite_one_spp x acc e =
      ap (λ (b : Bool). (if b then Rel.union N (Rel.zero_at N) (op1 st x) >>= (λ h. return (parts h acc)) else return (parts (Rel.zero_at N) (acc ++ x ∷ []))) t) (eq-eqb _ _ e)
      ∙ ap (λ (o : Outcome Table ℕ). after o (λ h. return (parts h acc))) (union_zero N (op1 st x) t)

  unite_plain : (xs ys : List ℕ) (h : ℕ) (acc : List ℕ) → All (NoSpp st) xs → each (unite_one N st) (xs ++ ys) (parts h acc) t ≡ each (unite_one N st) ys (parts h (acc ++ xs)) t
  unfolding each
  unite_plain [] ys h acc a = ap (λ (l : List ℕ). each (unite_one N st) ys (parts h l) t) (sym (append-nil acc))
  unite_plain (x ∷ xs) ys h acc a =
      ap (λ (o : Outcome Table Parts). after o (each (unite_one N st) (xs ++ ys))) (unite_one_plain x (parts h acc) a.0)
      ∙ unite_plain xs ys h (acc ++ x ∷ []) a.1
      ∙ ap (λ (l : List ℕ). each (unite_one N st) ys (parts h l) t) (append_assoc acc (x ∷ []) xs)

  unite_all_plain : (xs : List ℕ) (h : ℕ) (acc : List ℕ) → All (NoSpp st) xs → each (unite_one N st) xs (parts h acc) t ≡ given t (parts h (acc ++ xs))
  unfolding each
  unite_all_plain xs h acc a = ap (λ (l : List ℕ). each (unite_one N st) l (parts h acc) t) (sym (append-nil xs)) ∙ unite_plain xs [] h acc a

  unite_spp : (ls : List ℕ) (s : ℕ) (rs : List ℕ) → All (NoSpp st) ls → kind_of st s ≡ SPP → All (NoSpp st) rs
      → each (unite_one N st) (ls ++ s ∷ rs) (parts (Rel.zero_at N) []) t ≡ given t (parts (op1 st s) (ls ++ rs))
  unfolding each
  unite_spp ls s rs a e b =
      unite_plain ls (s ∷ rs) (Rel.zero_at N) [] a
      ∙ ap (λ (o : Outcome Table Parts). after o (each (unite_one N st) rs)) (unite_one_spp s ls e)
      ∙ unite_all_plain rs (op1 st s) ls b

  -- the same for an intersection
  meet_one_plain : (x : ℕ) (p : Met) → NoSpp st x → kind_of st x ≢ TOP → meet_one N st x p t ≡ given t (met p.some p.relation (p.others ++ x ∷ []))
  unfolding meet_one
  meet_one_plain x p n u =
      ap₂ (λ (c b : Bool). (if c then return p else if b then (Rel.intersect N p.relation (op1 st x) >>= (λ h. return (met true h p.others))) else return (met p.some p.relation (p.others ++ x ∷ []))) t) (ne_eqb _ _ u) (ne_eqb _ _ n)

  meet_one_spp : (x : ℕ) (acc : List ℕ) → kind_of st x ≡ SPP → meet_one N st x (met false (Rel.top_at N) acc) t ≡ given t (met true (op1 st x) acc)
  unfolding meet_one
  meet_one_spp x acc e =
      ap₂ (λ (c b : Bool). (if c then return (met false (Rel.top_at N) acc) else if b then (Rel.intersect N (Rel.top_at N) (op1 st x) >>= (λ h. return (met true h acc))) else return (met false (Rel.top_at N) (acc ++ x ∷ []))) t)
      (ne_eqb (kind_of st x) TOP (λ q. omega arith)) (eq-eqb _ _ e)
      ∙ ap (λ (o : Outcome Table ℕ). after o (λ h. return (met true h acc))) (intersect_top N (op1 st x) t)

  meet_plain : (xs ys : List ℕ) (b : Bool) (h : ℕ) (acc : List ℕ) → All (NoSpp st) xs → All (Bare INTERSECT st) xs → each (meet_one N st) (xs ++ ys) (met b h acc) t ≡ each (meet_one N st) ys (met b h (acc ++ xs)) t
  unfolding each
  meet_plain [] ys b h acc a c = ap (λ (l : List ℕ). each (meet_one N st) ys (met b h l) t) (sym (append-nil acc))
  meet_plain (x ∷ xs) ys b h acc a c =
      ap (λ (o : Outcome Table Met). after o (each (meet_one N st) (xs ++ ys))) (meet_one_plain x (met b h acc) a.0 c.0.1)
      ∙ meet_plain xs ys b h (acc ++ x ∷ []) a.1 c.1
      ∙ ap (λ (l : List ℕ). each (meet_one N st) ys (met b h l) t) (append_assoc acc (x ∷ []) xs)

-- ---- the constructors of lists

module _ {N : ℕ} {L : Limits} {σ : Aut} (g : WfAut N L σ) where
  -- the state of an SPP's relation is found again
  found : (s : ℕ) → s < states σ → kind σ s ≡ SPP → on_states (mk_spp (first σ s)) σ ≡ given σ s
  unfolding mk_spp form
  found s l e =
      (intern0_again {N = N} {L = L} {τ = σ} SPP (first σ s) s (record { state = l; is = record { kind = e; first = refl; second = (ok_as g SPP l e).unused } })).same σ (later_refl σ) g

  found_in : (s : ℕ) (acc : List ℕ) → s < states σ → kind σ s ≡ SPP → on_states (mk_spp (first σ s) >>= λ i. return (acc ++ i ∷ [])) σ ≡ given σ (acc ++ s ∷ [])
  found_in s acc l e =
      placed_then put_states σ (mk_spp (first σ s) σ.states) (λ i. acc ++ i ∷ [])
      ∙ ap (λ (o : Outcome Aut ℕ). after o (λ i. return (acc ++ i ∷ []))) (found s l e)

  -- ---- union

  add_none : (xs : List ℕ) → on_states (add_relation N (parts (Rel.zero_at N) xs)) σ ≡ given σ xs
  unfolding add_relation
  add_none xs = ap (λ (b : Bool). placed put_states σ ((if b then return xs else (mk_spp (Rel.zero_at N) >>= (λ i. return (xs ++ i ∷ [])))) σ.states)) (eq-eqb (Rel.zero_at N) (Rel.zero_at N) refl)

  add_spp : (s : ℕ) (xs : List ℕ) → s < states σ → kind σ s ≡ SPP → NoZero N σ.states.words s → on_states (add_relation N (parts (first σ s) xs)) σ ≡ given σ (xs ++ s ∷ [])
  unfolding add_relation
  add_spp s xs l e z =
      ap (λ (b : Bool). placed put_states σ ((if b then return xs else (mk_spp (first σ s) >>= (λ i. return (xs ++ i ∷ [])))) σ.states)) (ne_eqb _ _ z)
      ∙ found_in s xs l e

  finish_as : (xs : List ℕ) → 2 ≤ length xs → finish N L xs ≡ intern_l L UNION xs
  unfolding finish
  finish_as xs l =
      ap₂ (λ (b c : Bool). if b then return (get_or xs 0 0) else if c then on_states_of (mk_spp (Rel.zero_at N)) else intern_l L UNION xs)
      (ne_eqb (length xs) 1 (λ e. omega arith)) (ne_eqb (length xs) 0 (λ e. omega arith))

  unite_by : (xs : List ℕ) (p : Parts) (ys : List ℕ) → each (unite_one N σ.states.words) xs (parts (Rel.zero_at N) []) σ.nodes ≡ given σ.nodes p
      → on_states (add_relation N p) σ ≡ given σ ys → sorted ys ≡ xs → 2 ≤ length xs → unite N L xs σ ≡ on_exprs (intern_l L UNION xs) σ
  unfolding unite
  unite_by xs p ys a b c l =
      ap (λ (o : Outcome Table Parts). after (placed put_nodes σ o) (λ p. on_states (add_relation N p) >>= λ ys. on_exprs (finish N L (sorted ys)))) a
      ∙ ap (λ (o : Outcome Aut (List ℕ)). after o (λ ys. on_exprs (finish N L (sorted ys)))) b
      ∙ ap (λ (l : List ℕ). on_exprs (finish N L l) σ) c
      ∙ ap (λ (s : Step Exprs ℕ). on_exprs s σ) (finish_as xs l)

  unite_as : (xs : List ℕ) → All (λ x. x < states σ) xs → UnitesRight N σ.states.words false 0 xs → 2 ≤ length xs → unite N L xs σ ≡ on_exprs (intern_l L UNION xs) σ
  unite_as xs a r l = go r.spps
    where
      go : OneSpp N σ.states.words xs → unite N L xs σ ≡ on_exprs (intern_l L UNION xs) σ
      go (no_spp n) =
          unite_by xs (parts (Rel.zero_at N) xs) xs (unite_all_plain N σ.states.words σ.nodes xs (Rel.zero_at N) [] n) (add_none xs) (sorted_same xs r.rising) l
      go (one_spp ls s rs e n k z m) =
          unite_by xs (parts (first σ s) (ls ++ rs)) ((ls ++ rs) ++ s ∷ [])
          (ap (λ (l : List ℕ). each (unite_one N σ.states.words) l (parts (Rel.zero_at N) []) σ.nodes) e ∙ unite_spp N σ.states.words σ.nodes ls s rs n k m)
          (add_spp s (ls ++ rs) (all_split (λ x. x < states σ) ls (s ∷ rs) (subst (All (λ x. x < states σ)) e a)).1.0 k z)
          (sorted_one ((ls ++ rs) ++ s ∷ []) xs r.rising (subst (Alike ((ls ++ rs) ++ s ∷ [])) (sym e) (put_last ls s rs)))
          l

  union_as : (xs : List ℕ) → All (λ x. x < states σ) xs → length xs ≤ L.list → UnitesRight N σ.states.words false 0 xs → 2 ≤ length xs → Make.mk_union_n N L xs σ ≡ on_exprs (intern_l L UNION xs) σ
  unfolding Make.mk_union_n
  union_as xs a f r l =
      ap₂ (λ (b c : Bool). if b then refused 6 else if c then given σ (get_or xs 0 0) else unite_opened N L (open_union L.list σ.states.words σ.members.words xs []) σ)
      (le-ltb L.list (length xs) f) (ne_eqb (length xs) 1 (λ e. omega arith))
      ∙ ap (λ (o : Opened). unite_opened N L o σ) (open_union_as L.list σ.states.words σ.members.words xs [] r.bare (omega arith))
      ∙ unite_as xs a r l

  -- ---- intersection

  meet_by : (xs : List ℕ) (p : Met) (ys zs : List ℕ) → each (meet_one N σ.states.words) xs (met false (Rel.top_at N) []) σ.nodes ≡ given σ.nodes p
      → sorted p.others ≡ ys → 1 ≤ length ys → (p.some && eqb p.relation (Rel.zero_at N)) ≡ false → on_states (add_last p ys) σ ≡ given σ zs → zs ≡ xs
      → meet N L xs σ ≡ on_exprs (intern_l L INTERSECT xs) σ
  unfolding meet meet_finish
  meet_by xs p ys zs a b l z c d =
      ap (λ (o : Outcome Table Met). after (placed put_nodes σ o) (λ p. meet_finish N L p (sorted p.others))) a
      ∙ ap (λ (l : List ℕ). meet_finish N L p l σ) b
      ∙ ap₂ (λ (b c : Bool). (if b then on_states (mk_spp (Rel.zero_at N)) else if c then on_states (if p.some then mk_spp p.relation else Make.mk_top) else (on_states (add_last p ys) >>= λ ys. on_exprs (intern_l L INTERSECT ys))) σ)
      z (ne_eqb (length ys) 0 (λ e. omega arith))
      ∙ ap (λ (o : Outcome Aut (List ℕ)). after o (λ ys. on_exprs (intern_l L INTERSECT ys))) c
      ∙ ap (λ (l : List ℕ). on_exprs (intern_l L INTERSECT l) σ) d

  meet_as : (xs : List ℕ) → All (λ x. x < states σ) xs → MeetsRight N σ.states.words false 0 xs → meet N L xs σ ≡ on_exprs (intern_l L INTERSECT xs) σ
  unfolding each add_last
  meet_as xs a r = go r.last r.parts r.spp_last r.no_zero
    where
      st : List ℕ
      st = σ.states.words

      gathered : (last : List ℕ) → xs ≡ r.others ++ last → each (meet_one N st) xs (met false (Rel.top_at N) []) σ.nodes ≡ each (meet_one N st) last (met false (Rel.top_at N) r.others) σ.nodes
      gathered last e =
          ap (λ (l : List ℕ). each (meet_one N st) l (met false (Rel.top_at N) []) σ.nodes) e
          ∙ meet_plain N st σ.nodes r.others last false (Rel.top_at N) [] r.no_spp r.bare

      go : (last : List ℕ) → xs ≡ r.others ++ last → LastSpp st last → All (NoZero N st) last → meet N L xs σ ≡ on_exprs (intern_l L INTERSECT xs) σ
      go [] e s z =
          meet_by xs (met false (Rel.top_at N) r.others) r.others r.others (gathered [] e) (sorted_same r.others r.rising) (r.one refl) refl refl (sym (e ∙ append-nil r.others))
      go (x ∷ rest) e (k, n) z =
          meet_by xs (met true (first σ x) r.others) r.others (r.others ++ x ∷ [])
          (gathered (x ∷ rest) e ∙ ap (λ (l : List ℕ). each (meet_one N st) (x ∷ l) (met false (Rel.top_at N) r.others) σ.nodes) n
          ∙ ap (λ (o : Outcome Table Met). after o (each (meet_one N st) [])) (meet_one_spp N st σ.nodes x r.others k))
          (sorted_same r.others r.rising) (r.one refl) (ne_eqb _ _ z.0)
          (found_in x r.others (all_split (λ x. x < states σ) r.others (x ∷ rest) (subst (All (λ x. x < states σ)) e a)).1.0 k)
          (ap (λ (l : List ℕ). r.others ++ x ∷ l) (sym n) ∙ sym e)

  no_intersect : (xs : List ℕ) → MeetsRight N σ.states.words false 0 xs → All (λ x. kind σ x ≢ INTERSECT) xs
  no_intersect xs r =
      subst (All (λ x. kind σ x ≢ INTERSECT)) (sym r.parts)
      (all_append (λ x. kind σ x ≢ INTERSECT) r.others r.last (all_map r.others (λ x b. b.0) r.bare) (last r.last r.spp_last))
    where
      last : (xs : List ℕ) → LastSpp σ.states.words xs → All (λ x. kind σ x ≢ INTERSECT) xs
      last [] s = tt
      last (x ∷ xs) (k, n) = ((λ e. omega arith), subst (All (λ x. kind σ x ≢ INTERSECT)) (sym n) tt)

  intersect_as : (xs : List ℕ) → All (λ x. x < states σ) xs → length xs ≤ L.list → MeetsRight N σ.states.words false 0 xs → Make.mk_intersect_n_base N L xs σ ≡ on_exprs (intern_l L INTERSECT xs) σ
  unfolding Make.mk_intersect_n_base
  intersect_as xs a f r =
      ap (λ (o : Within (List ℕ)). meet_opened N L o σ) (open_all_as L.list σ.states.words σ.members.words xs [] (no_intersect xs r) (omega arith))
      ∙ meet_as xs a r

-- ---- the others

-- a test that fails, one that holds
skip : {A : Type 0} (b : Bool) (x : A) {y z : A} → b ≡ false → y ≡ z → (if b then x else y) ≡ z
skip b x {y} e p = ap (λ (b : Bool). if b then x else y) e ∙ p

meant : {A : Type 0} (b : Bool) {x : A} (y : A) {z : A} → b ≡ true → x ≡ z → (if b then x else y) ≡ z
meant b {x} y e p = ap (λ (b : Bool). if b then x else y) e ∙ p

module _ (N : ℕ) (L : Limits) (σ : Aut) where
  abbrev st : List ℕ
  st = σ.states.words

  xor_as : (x y : ℕ) → x < y → NotBoth st SPP x y → Make.mk_xor N L x y σ ≡ on_states (intern2 L XOR x y) σ
  unfolding Make.mk_xor
  xor_as x y l n = skip _ _ (ne_eqb x y (λ e. omega arith)) (skip _ _ (both_false st SPP x y n) (meant _ _ (lt-ltb x y l) refl))

  difference_as : (x y : ℕ) → x ≢ y → NotBoth st SPP x y → Make.mk_difference N L x y σ ≡ on_states (intern2 L DIFFERENCE x y) σ
  unfolding Make.mk_difference
  difference_as x y d n = skip _ _ (ne_eqb x y d) (skip _ _ (both_false st SPP x y n) refl)

  complement_as : (x : ℕ) → kind_of st x ≢ COMPLEMENT → kind_of st x ≢ TOP → on_states (Make.mk_complement N L x) σ ≡ on_states (intern1 L COMPLEMENT x) σ
  unfolding Make.mk_complement
  complement_as x c t = ap (placed put_states σ) (skip _ _ (ne_eqb _ _ c) (skip _ _ (ne_eqb _ _ t) refl))

  star_as : (x : ℕ) → kind_of st x ≢ STAR → kind_of st x ≢ SPP → kind_of st x ≢ TOP → Make.mk_star N L x σ ≡ on_states (intern1 L STAR x) σ
  unfolding Make.mk_star
  star_as x s p t = skip _ _ (ne_eqb _ _ s) (skip _ _ (ne_eqb _ _ p) (skip _ _ (ne_eqb _ _ t) refl))

  sequence_with_as : (again : ℕ → ℕ → Step Aut ℕ) (x y : ℕ) → Sequenced N st x y → Make.sequence_with N L again x y σ ≡ on_states (intern2 L SEQUENCE x y) σ
  unfolding Make.sequence_with
  sequence_with_as again x y s =
      skip _ _ (both_false st SPP x y s.relations) (skip _ _ (relation_false st x _ s.no_one1) (skip _ _ (relation_false st x _ s.no_zero1) (skip _ _ (relation_false st y _ s.no_one2) (skip _ _ (relation_false st y _ s.no_zero2)
      (skip _ _ (ne_eqb _ _ s.regrouped) (skip _ _ (both_false st TOP x y s.tops) refl))))))

  sequence_by_as : (depth x y : ℕ) → Sequenced N st x y → Make.sequence_by N L depth x y σ ≡ on_states (intern2 L SEQUENCE x y) σ
  unfolding Make.sequence_by
  sequence_by_as zero x y s = sequence_with_as (λ a b. return a) x y s
  sequence_by_as (suc depth) x y s = sequence_with_as (Make.sequence_by N L depth) x y s

  sequence_as : (x y : ℕ) → Sequenced N st x y → Make.mk_sequence N L x y σ ≡ on_states (intern2 L SEQUENCE x y) σ
  unfolding Make.mk_sequence
  sequence_as x y s = sequence_by_as (nest st x) x y s

-- ---- a record

pub record_by_constructor : (N : ℕ) (L : Limits) (σ : Aut) → WfAut N L σ → (xs : List ℕ) (k x y e : ℕ) → state_fits N L σ xs k x y e ≡ true → called N (call_of xs k x y) L σ ≡ interned N L xs k x y σ
unfolding call_of interned Make.mk_spp Make.mk_dup Make.mk_top Make.mk_until
record_by_constructor N L σ g xs k x y e q = go (fits_right N L σ xs k x y e q)
  where
    at : {j : ℕ} → k ≡ j → called N (call_of xs j x y) L σ ≡ interned N L xs j x y σ → called N (call_of xs k x y) L σ ≡ interned N L xs k x y σ
    at e p = subst (λ (i : ℕ). called N (call_of xs i x y) L σ ≡ interned N L xs i x y σ) (sym e) p

    go : RecordRight N L σ xs k x y e → called N (call_of xs k x y) L σ ≡ interned N L xs k x y σ
    go (Fits.spp e r) = at e refl
    go (Fits.union e m t r) = at e (union_as g xs m.earlier (omega (arith, m.few, m.long)) r (omega (arith, m.long, t)))
    go (Fits.intersect e m r) = at e (intersect_as g xs m.earlier (omega (arith, m.few, m.long)) r)
    go (Fits.xor e r l n) = at e (xor_as N L σ x y l n)
    go (Fits.difference e r d n) = at e (difference_as N L σ x y d n)
    go (Fits.complement e r c t) = at e (complement_as N L σ x c t)
    go (Fits.sequence e r s) = at e (sequence_as N L σ x y s)
    go (Fits.star e r s p t) = at e (star_as N L σ x s p t)
    go (Fits.dup e r) = at e (ap (λ (i : ℕ). on_states (intern0 DUP i) σ) (sym r.unused1))
    go (Fits.until e r) = at e refl
    go (Fits.top e r) = at e (ap (λ (i : ℕ). on_states (intern0 TOP i) σ) (sym r.unused1))

-- its operands are states before it, an SPP's handle is one of depth N
pub call_at : (N : ℕ) (L : Limits) (σ : Aut) → WfAut N L σ → (xs : List ℕ) (k x y e : ℕ) → state_fits N L σ xs k x y e ≡ true → CallAt N σ (call_of xs k x y)
unfolding call_of
call_at N L σ g xs k x y e q = go (fits_right N L σ xs k x y e q)
  where
    at : {j : ℕ} → k ≡ j → CallAt N σ (call_of xs j x y) → CallAt N σ (call_of xs k x y)
    at e p = subst (λ (i : ℕ). CallAt N σ (call_of xs i x y)) (sym e) p

    go : RecordRight N L σ xs k x y e → CallAt N σ (call_of xs k x y)
    go (Fits.spp e r) = at e (record { at = handle_valid g.nodes N x r.node r.depth })
    go (Fits.union e m t r) = at e m.earlier
    go (Fits.intersect e m r) = at e m.earlier
    go (Fits.xor e r l n) = at e (r.state1, r.state2)
    go (Fits.difference e r d n) = at e (r.state1, r.state2)
    go (Fits.complement e r c t) = at e r.state
    go (Fits.sequence e r s) = at e (r.state1, r.state2)
    go (Fits.star e r s p t) = at e r.state
    go (Fits.dup e r) = at e tt
    go (Fits.until e r) = at e (r.state1, r.state2)
    go (Fits.top e r) = at e tt

-- The numbers with which a constructor line can be refused: 6, 7, 8, 21, 22, 23, and no other. By the steps alone, on any tables: each number that can arise has the property P.
use Rattle.std.specs.Prelude.{if◌then◌else◌}
use mathlib.Core.Path.{◌≡◌, refl, subst}
use mathlib.Core.Bool.{Bool, true, false, ◌&&◌}
use mathlib.Core.List.{List, [], ◌∷◌, ◌++◌, Memᴰ}
use Prim.Native.Nat.{ℕ, zero, suc, ◌+◌, max}
use lib.Dec.{eqb, ltb}
use lib.ListN.{length}
use Rattle.common.specs.Outcome.{Outcome, refused, given, Step, after}
use Rattle.common.specs.Runs.{Table, placed}
use Rattle.spp_steps.specs.Model as Spp
use Rattle.spp_steps.specs.Model.{Quad, Op, Exit, Early}
use Rattle.aut_steps.specs.Relations as Rel
use Rattle.aut_steps.specs.Tables.{SPP, UNION, INTERSECT, XOR, DIFFERENCE, COMPLEMENT, SEQUENCE, STAR, TOP, kind_of, op1, op2, nest, Limits, room_s, room_m, Exprs, exprs, Aut, put_nodes, put_states, put_exprs}
use Rattle.aut_steps.specs.Intern as Intern
use Rattle.aut_steps.specs.Intern.{seek, same2, same_l, nest_l, intern0, intern1, intern2, intern_l, put, put_l}
use Rattle.aut_steps.specs.Lists.{sorted}
use Rattle.aut_steps.specs.Constructors as C
use Rattle.book_construct_steps.specs.Lines as Lines
use Rattle.book_construct_steps.specs.Lines.{Line, make}

module _ (P : ℕ → Type 0) (m8 : P 8) (m21 : P 21) (m22 : P 22) (m23 : P 23) where
  pub data Only {S A : Type 0} : Outcome S A → Type 0 where
    stops : {number : ℕ} → P number → Only (refused number)
    comes : {σ : S} {a : A} → Only (given σ a)

  pub then_only : {S A B : Type 0} {o : Outcome S A} {k : A → Step S B} → Only o → ((σ : S) (a : A) → Only (k a σ)) → Only (after o k)
  then_only (stops m) f = stops m
  then_only (comes {σ} {a}) f = f σ a

  pub placed_only : {S T A : Type 0} (p : S → T → T) (σ : T) {o : Outcome S A} → Only o → Only (placed p σ o)
  placed_only p σ (stops m) = stops m
  placed_only p σ comes = comes

  if_only : {S A : Type 0} {o p : Outcome S A} (b : Bool) → Only o → Only p → Only (if b then o else p)
  if_only true x y = x
  if_only false x y = y

  if_step : {S A : Type 0} (m k : Step S A) (σ : S) (b : Bool) → Only (m σ) → Only (k σ) → Only ((if b then m else k) σ)
  if_step m k σ true x y = x
  if_step m k σ false x y = y

  -- ---- relations

  put_only : (X : Quad) (σ : Table) (c : Bool) → Only (Spp.put_if c X σ)
  put_only X σ true = comes
  put_only X σ false = stops m21

  found_only : (X : Quad) (σ : Table) (i : ℕ) (b : Bool) → Only (Spp.found_if b i X σ)
  found_only X σ i true = comes
  found_only X σ i false = put_only X σ (Spp.room σ.words σ.count)

  mk_only : (X : Quad) (σ : Table) → Only (Spp.mk X σ)
  unfolding Spp.mk
  mk_only X σ = found_only X σ (Spp.seek σ.words X 0 σ.count) (ltb (Spp.seek σ.words X 0 σ.count) σ.count)

  abbrev One : (ℕ → Step Table ℕ) → Type 0
  One f = (a : ℕ) (σ : Table) → Only (f a σ)

  abbrev Two : (ℕ → ℕ → Step Table ℕ) → Type 0
  Two f = (a b : ℕ) (σ : Table) → Only (f a b σ)

  each_only : (f : ℕ → ℕ → Step Table ℕ) → Two f → (A B : Quad) (σ : Table) → Only (Spp.each f A B σ)
  unfolding Spp.each
  each_only f t A B σ = then_only (t _ _ _) (λ σ a. then_only (t _ _ _) (λ σ b. then_only (t _ _ _) (λ σ c. then_only (t _ _ _) (λ σ d. mk_only _ σ))))

  follow_only : (e : Exit) (k : Op → ℕ → ℕ → Step Table ℕ) (σ : Table) → ((o : Op) (x y : ℕ) → Only (k o x y σ)) → Only (Spp.follow e k σ)
  follow_only (Spp.out h) k σ f = comes
  follow_only (Spp.on o x y) k σ f = f o x y

  apply_only : (N : ℕ) (o : Op) (d : ℕ) → Two (Spp.apply N o d)
  unfolding Spp.apply
  apply_only N o zero a b σ = follow_only (Spp.exit N o zero a b) (λ o x y σ. given σ 0) σ (λ o x y. comes)
  apply_only N o (suc d) a b σ =
      follow_only (Spp.exit N o (suc d) a b) (λ o. Spp.down (Spp.each (Spp.apply N o d))) σ (λ o x y. each_only (Spp.apply N o d) (apply_only N o d) (Spp.kids σ.words x) (Spp.kids σ.words y) σ)

  early_only : (e : Early) (c : Step Table ℕ) (σ : Table) → Only (c σ) → Only (Spp.finish e c σ)
  early_only (Spp.done h) c σ f = comes
  early_only Spp.more c σ f = f

  product_only : (f u : ℕ → ℕ → Step Table ℕ) → Two f → Two u → (A B : Quad) (σ : Table) → Only (Spp.product f u A B σ)
  unfolding Spp.product
  product_only f u t s A B σ =
      then_only (t _ _ _) (λ σ a. then_only (t _ _ _) (λ σ b. then_only (t _ _ _) (λ σ c. then_only (t _ _ _) (λ σ d. then_only (t _ _ _) (λ σ e. then_only (t _ _ _) (λ σ f. then_only (t _ _ _) (λ σ g. then_only (t _ _ _) (λ σ h.
      then_only (s _ _ _) (λ σ i. then_only (s _ _ _) (λ σ j. then_only (s _ _ _) (λ σ k. then_only (s _ _ _) (λ σ l. mk_only _ σ))))))))))))

  sequence_only : (N d : ℕ) → Two (Spp.sequence N d)
  unfolding Spp.sequence
  sequence_only N zero a b σ = early_only (Spp.seq_exit N zero a b) (λ σ. given σ 0) σ comes
  sequence_only N (suc d) a b σ =
      early_only (Spp.seq_exit N (suc d) a b) (Spp.down (Spp.product (Spp.sequence N d) (Spp.apply N Spp.union d)) a b) σ
      (product_only (Spp.sequence N d) (Spp.apply N Spp.union d) (sequence_only N d) (apply_only N Spp.union d) (Spp.kids σ.words a) (Spp.kids σ.words b) σ)

  blocks_only : (s : ℕ → Step Table ℕ) (f u : ℕ → ℕ → Step Table ℕ) → One s → Two f → Two u → (X : Quad) (σ : Table) → Only (Spp.blocks s f u X σ)
  unfolding Spp.blocks
  blocks_only s f u r t w X σ =
      then_only (r _ _) (λ σ a. then_only (t _ _ _) (λ σ b. then_only (t _ _ _) (λ σ c. then_only (w _ _ _) (λ σ d. then_only (r _ _) (λ σ e. then_only (t _ _ _) (λ σ f. then_only (t _ _ _) (λ σ g.
      then_only (t _ _ _) (λ σ h. then_only (t _ _ _) (λ σ i. then_only (w _ _ _) (λ σ j. mk_only _ σ))))))))))

  star_only : (N d : ℕ) → One (Spp.star N d)
  unfolding Spp.star
  star_only N zero x σ = early_only (Spp.star_exit N zero x) (λ σ. given σ 0) σ comes
  star_only N (suc d) x σ =
      early_only (Spp.star_exit N (suc d) x) (Spp.under (Spp.blocks (Spp.star N d) (Spp.sequence N d) (Spp.apply N Spp.union d)) x) σ
      (blocks_only (Spp.star N d) (Spp.sequence N d) (Spp.apply N Spp.union d) (star_only N d) (sequence_only N d) (apply_only N Spp.union d) (Spp.kids σ.words x) σ)

  field_only : (N : ℕ) (entry : ℕ → ℕ → Quad) (d f : ℕ) (σ : Table) → Only (Spp.field N entry d f σ)
  unfolding Spp.field
  field_only N entry zero f σ = comes
  field_only N entry (suc d) zero σ = mk_only _ σ
  field_only N entry (suc d) (suc f) σ = then_only (field_only N entry d f σ) (λ σ x. mk_only _ σ)

  -- ---- states

  state_only : (k x y e : ℕ) (s : Table) → Only (put k x y e s)
  unfolding put
  state_only k x y e s = if_only (room_s s) comes (stops m22)

  intern0_only : (k x : ℕ) (s : Table) → Only (intern0 k x s)
  unfolding intern0
  intern0_only k x s = if_only (ltb (seek (same2 s.words k x 0) 0 s.count) s.count) comes (state_only k x 0 0 s)

  intern1_only : (L : Limits) (k x : ℕ) (s : Table) → Only (intern1 L k x s)
  unfolding intern1
  intern1_only L k x s = if_only (ltb (seek (same2 s.words k x 0) 0 s.count) s.count) comes (if_only (ltb L.nesting (nest s.words x + 1)) (stops m8) (state_only k x 0 (nest s.words x + 1) s))

  intern2_only : (L : Limits) (k x y : ℕ) (s : Table) → Only (intern2 L k x y s)
  unfolding intern2
  intern2_only L k x y s = if_only (ltb (seek (same2 s.words k x y) 0 s.count) s.count) comes (if_only (ltb L.nesting (max (nest s.words x) (nest s.words y) + 1)) (stops m8) (state_only k x y (max (nest s.words x) (nest s.words y) + 1) s))

  list_only : (k : ℕ) (xs : List ℕ) (e : ℕ) (τ : Exprs) → Only (put_l k xs e τ)
  unfolding put_l
  list_only k xs e τ = if_only (room_m τ.members (length xs)) (placed_only (λ s τ. exprs s (Intern.store xs τ.members)) τ (state_only k τ.members.count (length xs) e τ.states)) (stops m23)

  intern_l_only : (L : Limits) (k : ℕ) (xs : List ℕ) (τ : Exprs) → Only (intern_l L k xs τ)
  unfolding intern_l
  intern_l_only L k xs τ = if_only (ltb (seek (same_l τ.states.words τ.members.words k xs) 0 τ.states.count) τ.states.count) comes (if_only (ltb L.nesting (nest_l τ.states.words 0 xs + 1)) (stops m8) (list_only k xs (nest_l τ.states.words 0 xs + 1) τ))

  spp_only : (h : ℕ) (s : Table) → Only (C.mk_spp h s)
  unfolding C.mk_spp
  spp_only h s = intern0_only SPP h s

  pub top_only : (s : Table) → Only (C.mk_top s)
  unfolding C.mk_top
  top_only s = intern0_only TOP 0 s

  spp_of_only : (c : Step Table ℕ) → ((σ : Table) → Only (c σ)) → (σ : Aut) → Only (C.spp_of c σ)
  spp_of_only c f σ = then_only (placed_only put_nodes σ (f σ.nodes)) (λ σ h. placed_only put_states σ (spp_only h σ.states))

  every_only : {S A : Type 0} (one : ℕ → A → Step S A) → ((x : ℕ) (a : A) (σ : S) → Only (one x a σ)) → (xs : List ℕ) (a : A) (σ : S) → Only (C.each one xs a σ)
  unfolding C.each
  every_only one f [] a σ = comes
  every_only one f (x ∷ xs) a σ = then_only (f x a σ) (λ σ a. every_only one f xs a σ)

  module _ (N : ℕ) where
    unite_one_only : (st : List ℕ) (x : ℕ) (p : C.Parts) (σ : Table) → Only (C.unite_one N st x p σ)
    unfolding C.unite_one
    unite_one_only st x p σ = if_step _ _ σ (eqb (kind_of st x) SPP) (then_only (apply_only N Spp.union N _ _ σ) (λ σ h. comes)) comes

    add_only : (p : C.Parts) (σ : Table) → Only (C.add_relation N p σ)
    unfolding C.add_relation
    add_only p σ = if_step _ _ σ (eqb p.relation (Rel.zero_at N)) comes (then_only (spp_only _ σ) (λ σ h. comes))

    meet_one_only : (st : List ℕ) (x : ℕ) (p : C.Met) (σ : Table) → Only (C.meet_one N st x p σ)
    unfolding C.meet_one
    meet_one_only st x p σ = if_step _ _ σ (eqb (kind_of st x) TOP) comes (if_step _ _ σ (eqb (kind_of st x) SPP) (then_only (apply_only N Spp.intersect N _ _ σ) (λ σ h. comes)) comes)

    last_only : (p : C.Met) (xs : List ℕ) (σ : Table) → Only (C.add_last p xs σ)
    unfolding C.add_last
    last_only p xs σ = if_step _ _ σ p.some (then_only (spp_only _ σ) (λ σ h. comes)) comes

    module _ (L : Limits) where
      finish_only : (xs : List ℕ) (τ : Exprs) → Only (C.finish N L xs τ)
      unfolding C.finish
      finish_only xs τ = if_step _ _ τ (eqb (length xs) 1) comes (if_step _ _ τ (eqb (length xs) 0) (placed_only (λ s τ. exprs s τ.members) τ (spp_only (Rel.zero_at N) τ.states)) (intern_l_only L UNION xs τ))

      pub unite_only : (xs : List ℕ) (σ : Aut) → Only (C.unite N L xs σ)
      unfolding C.unite
      unite_only xs σ =
          then_only (placed_only put_nodes σ (every_only (C.unite_one N σ.states.words) (unite_one_only σ.states.words) xs _ σ.nodes)) (λ σ p.
          then_only (placed_only put_states σ (add_only p σ.states)) (λ σ ys. placed_only put_exprs σ (finish_only (sorted ys) (exprs σ.states σ.members))))

      meet_finish_only : (p : C.Met) (xs : List ℕ) (σ : Aut) → Only (C.meet_finish N L p xs σ)
      unfolding C.meet_finish
      meet_finish_only p xs σ =
          if_step _ _ σ (p.some && eqb p.relation (Rel.zero_at N)) (placed_only put_states σ (spp_only _ σ.states))
          (if_step _ _ σ (eqb (length xs) 0) (placed_only put_states σ (if_step _ _ σ.states p.some (spp_only _ σ.states) (top_only σ.states)))
          (then_only (placed_only put_states σ (last_only p xs σ.states)) (λ σ ys. placed_only put_exprs σ (intern_l_only L INTERSECT ys (exprs σ.states σ.members)))))

      pub meet_only : (xs : List ℕ) (σ : Aut) → Only (C.meet N L xs σ)
      unfolding C.meet
      meet_only xs σ = then_only (placed_only put_nodes σ (every_only (C.meet_one N σ.states.words) (meet_one_only σ.states.words) xs _ σ.nodes)) (λ σ p. meet_finish_only p (sorted p.others) σ)

      module _ (m6 : P 6) where
        opened_only : (o : C.Opened) (σ : Aut) → Only (C.unite_opened N L o σ)
        opened_only (C.list xs) σ = unite_only xs σ
        opened_only C.top σ = placed_only put_states σ (top_only σ.states)
        opened_only C.long σ = stops m6

        pub union_n_only : (xs : List ℕ) (σ : Aut) → Only (C.mk_union_n N L xs σ)
        unfolding C.mk_union_n
        union_n_only xs σ = if_only (ltb L.list (length xs)) (stops m6) (if_only (eqb (length xs) 1) comes (opened_only (C.open_union L.list σ.states.words σ.members.words xs []) σ))

        union_only : (x y : ℕ) (σ : Aut) → Only (C.mk_union N L x y σ)
        unfolding C.mk_union
        union_only x y σ = if_only (eqb x y) comes (if_only (C.relations σ.states.words x y) (spp_of_only (Rel.union N (op1 σ.states.words x) (op1 σ.states.words y)) (λ σ. apply_only N Spp.union N _ _ σ) σ) (union_n_only (x ∷ y ∷ []) σ))

        met_only : (o : C.Within (List ℕ)) (σ : Aut) → Only (C.meet_opened N L o σ)
        met_only (C.within xs) σ = meet_only xs σ
        met_only C.beyond σ = stops m6

        base_only : (xs : List ℕ) (i : ℕ) (σ : Aut) → Only (C.base N L xs i σ)
        unfolding C.base C.mk_intersect_n_base
        base_only xs i σ = met_only (C.open_all L.list σ.states.words σ.members.words (C.product σ.states.words σ.members.words xs i) []) σ

        pub bases_only : (xs : List ℕ) (i k : ℕ) (acc : List ℕ) (σ : Aut) → Only (C.bases N L xs i k acc σ)
        unfolding C.bases
        bases_only xs i zero acc σ = comes
        bases_only xs i (suc k) acc σ = then_only (base_only xs i σ) (λ σ z. bases_only xs (i + 1) k (acc ++ z ∷ []) σ)

        module _ (m7 : P 7) where
          distribute_only : (xs : List ℕ) (o : C.Within ℕ) (σ : Aut) → Only (C.distribute N L xs o σ)
          distribute_only xs (C.within n) σ = then_only (bases_only xs 0 n [] σ) (λ σ ys. union_n_only ys σ)
          distribute_only xs C.beyond σ = stops m7

          intersect_opened_only : (o : C.Within (List ℕ)) (σ : Aut) → Only (C.intersect_opened N L o σ)
          intersect_opened_only (C.within xs) σ = distribute_only xs (C.count_all L.products σ.states.words xs 1) σ
          intersect_opened_only C.beyond σ = stops m6

          intersect_n_only : (xs : List ℕ) (σ : Aut) → Only (C.mk_intersect_n N L xs σ)
          unfolding C.mk_intersect_n
          intersect_n_only xs σ = if_only (ltb L.list (length xs)) (stops m6) (if_only (eqb (length xs) 1) comes (intersect_opened_only (C.open_all L.list σ.states.words σ.members.words xs []) σ))

          intersect_only : (x y : ℕ) (σ : Aut) → Only (C.mk_intersect N L x y σ)
          unfolding C.mk_intersect
          intersect_only x y σ = if_only (eqb x y) comes (if_only (C.relations σ.states.words x y) (spp_of_only (Rel.intersect N (op1 σ.states.words x) (op1 σ.states.words y)) (λ σ. apply_only N Spp.intersect N _ _ σ) σ) (intersect_n_only (x ∷ y ∷ []) σ))

          xor_only : (x y : ℕ) (σ : Aut) → Only (C.mk_xor N L x y σ)
          unfolding C.mk_xor
          xor_only x y σ =
              if_only (eqb x y) (placed_only put_states σ (spp_only (Rel.zero_at N) σ.states)) (if_only (C.relations σ.states.words x y) (spp_of_only (Rel.xor N (op1 σ.states.words x) (op1 σ.states.words y)) (λ σ. apply_only N Spp.xor N _ _ σ) σ)
              (if_only (ltb x y) (placed_only put_states σ (intern2_only L XOR x y σ.states)) (placed_only put_states σ (intern2_only L XOR y x σ.states))))

          difference_only : (x y : ℕ) (σ : Aut) → Only (C.mk_difference N L x y σ)
          unfolding C.mk_difference
          difference_only x y σ =
              if_only (eqb x y) (placed_only put_states σ (spp_only (Rel.zero_at N) σ.states)) (if_only (C.relations σ.states.words x y) (spp_of_only (Rel.difference N (op1 σ.states.words x) (op1 σ.states.words y)) (λ σ. apply_only N Spp.difference N _ _ σ) σ) (placed_only put_states σ (intern2_only L DIFFERENCE x y σ.states)))

          complement_only : (x : ℕ) (s : Table) → Only (C.mk_complement N L x s)
          unfolding C.mk_complement
          complement_only x s = if_only (eqb (kind_of s.words x) COMPLEMENT) comes (if_only (eqb (kind_of s.words x) TOP) (spp_only (Rel.zero_at N) s) (intern1_only L COMPLEMENT x s))

          sequence_with_only : (again : ℕ → ℕ → Step Aut ℕ) → ((x y : ℕ) (σ : Aut) → Only (again x y σ)) → (x y : ℕ) (σ : Aut) → Only (C.sequence_with N L again x y σ)
          unfolding C.sequence_with
          sequence_with_only again f x y σ =
              if_only (C.relations σ.states.words x y) (spp_of_only (Rel.sequence N (op1 σ.states.words x) (op1 σ.states.words y)) (λ σ. sequence_only N N _ _ σ) σ) (if_only (C.is_relation σ.states.words x (Rel.one_at N)) comes (if_only (C.is_relation σ.states.words x (Rel.zero_at N)) (placed_only put_states σ (spp_only (Rel.zero_at N) σ.states))
              (if_only (C.is_relation σ.states.words y (Rel.one_at N)) comes (if_only (C.is_relation σ.states.words y (Rel.zero_at N)) (placed_only put_states σ (spp_only (Rel.zero_at N) σ.states))
              (if_only (eqb (kind_of σ.states.words x) SEQUENCE) (then_only (f (op2 σ.states.words x) y σ) (λ τ z. f (op1 σ.states.words x) z τ)) (if_only (eqb (kind_of σ.states.words x) TOP && eqb (kind_of σ.states.words y) TOP) (placed_only put_states σ (top_only σ.states)) (placed_only put_states σ (intern2_only L SEQUENCE x y σ.states))))))))

          sequence_by_only : (depth x y : ℕ) (σ : Aut) → Only (C.sequence_by N L depth x y σ)
          unfolding C.sequence_by
          sequence_by_only zero x y σ = sequence_with_only (λ a b σ. given σ a) (λ x y σ. comes) x y σ
          sequence_by_only (suc depth) x y σ = sequence_with_only (C.sequence_by N L depth) (sequence_by_only depth) x y σ

          mk_sequence_only : (x y : ℕ) (σ : Aut) → Only (C.mk_sequence N L x y σ)
          unfolding C.mk_sequence
          mk_sequence_only x y σ = sequence_by_only (nest σ.states.words x) x y σ

          mk_star_only : (x : ℕ) (σ : Aut) → Only (C.mk_star N L x σ)
          unfolding C.mk_star
          mk_star_only x σ = if_only (eqb (kind_of σ.states.words x) STAR) comes (if_only (eqb (kind_of σ.states.words x) SPP) (spp_of_only (Rel.star N (op1 σ.states.words x)) (λ σ. star_only N N _ σ) σ) (if_only (eqb (kind_of σ.states.words x) TOP) (placed_only put_states σ (top_only σ.states)) (placed_only put_states σ (intern1_only L STAR x σ.states))))

          make_only : (l : Line ℕ) (σ : Aut) → Only (make N L l σ)
          unfolding C.mk_dup Spp.test Spp.assign C.mk_next C.mk_until
          make_only (Lines.constant Lines.zero) σ = placed_only put_states σ (spp_only (Rel.zero_at N) σ.states)
          make_only (Lines.constant Lines.one) σ = placed_only put_states σ (spp_only (Rel.one_at N) σ.states)
          make_only (Lines.constant Lines.all) σ = placed_only put_states σ (spp_only (Rel.top_at N) σ.states)
          make_only (Lines.constant Lines.dup) σ = placed_only put_states σ (intern0_only _ _ σ.states)
          make_only (Lines.constant Lines.top) σ = placed_only put_states σ (top_only σ.states)
          make_only (Lines.bit Lines.test f v) σ = spp_of_only (Spp.test N N f v) (λ σ. field_only N _ N f σ) σ
          make_only (Lines.bit Lines.set f v) σ = spp_of_only (Spp.assign N N f v) (λ σ. field_only N _ N f σ) σ
          make_only (Lines.single Lines.not x) σ = placed_only put_states σ (complement_only x σ.states)
          make_only (Lines.single Lines.star x) σ = mk_star_only x σ
          make_only (Lines.single Lines.next x) σ = placed_only put_states σ (intern1_only L _ x σ.states)
          make_only (Lines.pair Lines.or x y) σ = union_only x y σ
          make_only (Lines.pair Lines.and x y) σ = intersect_only x y σ
          make_only (Lines.pair Lines.xor x y) σ = xor_only x y σ
          make_only (Lines.pair Lines.minus x y) σ = difference_only x y σ
          make_only (Lines.pair Lines.seq x y) σ = mk_sequence_only x y σ
          make_only (Lines.pair Lines.until x y) σ = placed_only put_states σ (intern2_only L _ x y σ.states)
          make_only (Lines.listed Lines.union xs) σ = union_n_only xs σ
          make_only (Lines.listed Lines.inter xs) σ = intersect_n_only xs σ

abbrev pub Constructing : List ℕ
Constructing = 6 ∷ 7 ∷ 8 ∷ 21 ∷ 22 ∷ 23 ∷ []

m6 : Memᴰ 6 Constructing
m6 = Memᴰ.head refl

m7 : Memᴰ 7 Constructing
m7 = Memᴰ.tail (Memᴰ.head refl)

m8 : Memᴰ 8 Constructing
m8 = Memᴰ.tail (Memᴰ.tail (Memᴰ.head refl))

m21 : Memᴰ 21 Constructing
m21 = Memᴰ.tail (Memᴰ.tail (Memᴰ.tail (Memᴰ.head refl)))

m22 : Memᴰ 22 Constructing
m22 = Memᴰ.tail (Memᴰ.tail (Memᴰ.tail (Memᴰ.tail (Memᴰ.head refl))))

m23 : Memᴰ 23 Constructing
m23 = Memᴰ.tail (Memᴰ.tail (Memᴰ.tail (Memᴰ.tail (Memᴰ.tail (Memᴰ.head refl)))))

pub make_number : (N : ℕ) (L : Limits) (l : Line ℕ) (σ : Aut) {number : ℕ} → make N L l σ ≡ refused number → Memᴰ number Constructing
make_number N L l σ e = go (subst (λ (o : Outcome Aut ℕ). Only In m8 m21 m22 m23 o) e (make_only In m8 m21 m22 m23 N L m6 m7 l σ))
  where
    In : ℕ → Type 0
    In number = Memᴰ number Constructing

    go : {number : ℕ} → Only In m8 m21 m22 m23 {S = Aut} {A = ℕ} (refused number) → Memᴰ number Constructing
    go (stops m) = m
